-- Each call with the history at which its reply is read.
use Rattle.std.proofs.Common.{◌<◌, ◌+◌, ℕ, List, [], ◌∷◌, refl, inl, inr, arith}
use Rattle.std.proofs.lemmas.List.Elements.{All-cons, All-nil}
use Rattle.lasso_log.specs.Buckets.{CountedBucket, HasNoRoom}
use Rattle.lasso_log.specs.History.{Reserve, Charge, Append, Limit}
use Rattle.std.proofs.lemmas.Bool.Decides.{nat_tests}
use Rattle.std.proofs.lemmas.Map.Keys.{IsDistinct-from_apart}
use Rattle.std.specs.Str.{bytes_eq}
use Rattle.lasso_parts.specs.Texts.{IsDistinct, Fits}
use Rattle.lasso_parts.proofs.TextLemmas.{distinct_push}
use Rattle.lasso_shared.specs.Example.{three_keys, a, bc, ddd}
use Rattle.lasso_shared.specs.ExampleCalls.{two, last}
use Rattle.lasso_shared.proofs.laws.worked_calls_are_calls.Goals as goal

-- a bucket without room, before others
full_too : (n size used : ℕ) (bs : List CountedBucket) → size < used + n → HasNoRoom bs n → HasNoRoom (record { size = size; used = used } ∷ bs) n
full_too n size used bs full others = All-cons (λ (b : CountedBucket). b.size < b.used + n) (record { size = size; used = used }) bs full others

none_left : (n : ℕ) → HasNoRoom [] n
none_left n = All-nil (λ (b : CountedBucket). b.size < b.used + n)

-- no text occurs twice in the worked opening, and its three positions have keys
both_distinct : IsDistinct (bc ∷ a ∷ [])
both_distinct = distinct_push (bc ∷ []) a (distinct_push [] bc (IsDistinct-from_apart bytes_eq [] (λ i j d below inside. absurd (omega arith))) refl) refl

both_fit : Fits three_keys 2
both_fit = λ i below. grind (arith, nat_tests)

pub returns : goal.returns
returns c = record {
  legal = (
    ((λ x. grind arith), omega arith),
    (
      ((λ x. grind arith), full_too 2 2 1 [] (omega arith) (none_left 2), refl, omega arith),
      (
        (refl, refl),
        (
          (refl, refl),
          (
            (refl, refl),
            tt,
          ),
        ),
      ),
    ),
  );
  later = record { past = two; begins = refl; explained = (two, [], refl, tt, refl); makes = inr (Reserve 0 1 ∷ [], inl (0, refl), refl) };
  first = record { past = two; begins = refl; explained = (two, [], refl, tt, refl); makes = inr (Charge 4 2 ∷ [], inr (4, refl), refl) };
  found = record { past = []; begins = refl; explained = ([], [], refl, tt, refl); makes = inl refl };
  static_text = record {
    past = (9, Append ddd) ∷ [];
    begins = refl;
    explained = ((9, Append ddd) ∷ [], [], refl, tt, refl);
    makes = inr ([], refl, refl);
  };
  past_limit = record {
    past = [];
    begins = refl;
    explained = ([], [], refl, tt, (refl, refl, (λ x. grind arith), full_too 3 2 1 (record { size = 4; used = 2 } ∷ []) (omega arith) (full_too 3 4 2 [] (omega arith) (none_left 3)), omega arith));
    makes = refl;
  };
  no_key = record {
    past = (9, Reserve 0 1) ∷ [];
    begins = refl;
    explained = ((9, Reserve 0 1) ∷ [], [], refl, tt, (refl, refl));
    makes = inl (0, refl);
  };
  limit = record { past = (9, Limit 100) ∷ []; begins = refl; explained = ((9, Limit 100) ∷ [], [], refl, tt, tt); makes = refl };
  missed = record { past = two; begins = refl; explained = ([], two, refl, tt, refl); makes = refl };
  seen = record { past = two; begins = refl; explained = (two, [], refl, tt, refl); makes = refl };
  walk = record { past = two; begins = refl; explained = (two, [], refl, refl, refl); makes = refl };
  frozen = record { past = two; begins = refl; explained = (two, [], refl, refl, inl refl); makes = refl };
  not_written = record { past = two; begins = refl; explained = (two, [], refl, refl, inr refl); makes = refl };
  opens = record { distinct = both_distinct; fits = both_fit; bucket = (4, 3, (λ e. absurd (omega (arith, e))), omega arith, refl) };
  legal_there = (((λ x. grind arith), omega arith), ((refl, refl), tt));
  opened_found = record { past = []; begins = refl; explained = ([], [], refl, tt, refl); makes = inl refl };
  opened_resolved = record { past = last; begins = refl; explained = ([], last, refl, tt, refl); makes = refl };
  opened_added = record { past = last; begins = refl; explained = (last, [], refl, tt, refl); makes = inr (Reserve 0 1 ∷ [], inl (0, refl), refl) };
}
