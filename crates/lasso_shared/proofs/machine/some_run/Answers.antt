-- Each step of the worked run may be taken where the ones before it led.
use Rattle.std.proofs.Common.{◌<◌, ◌+◌, ℕ, All, List, [], ◌∷◌, refl, inl, inr, arith}
use Rattle.std.proofs.lemmas.Option.{none-some}
use Rattle.std.proofs.lemmas.Bool.Decides.{nat_tests}
use Rattle.std.proofs.lemmas.List.Elements.{All-cons, All-nil}
use Rattle.std.proofs.lemmas.Map.Keys.{IsDistinct-from_apart}
use Rattle.std.specs.Str.{bytes_eq}
use Rattle.lasso_log.specs.Buckets.{CountedBucket}
use Rattle.lasso_parts.specs.declared.util.LassoErrorKind.TheVariants.{MemoryLimitReached}
use Rattle.lasso_log.specs.Replies.{Copied, Intern}
use Rattle.lasso_shared.specs.Machine.{Missing, Stored, Appended, Step, Reserve, Charge, Append, Release, Refuse}
use Rattle.lasso_shared.specs.Runs.{IsStart, IsRun, IsFilled, run}
use Rattle.lasso_shared.specs.Example.{three_keys, first_byte_shard, empty, call, a, bc, ddd, two_calls, one_refused, keys_used_up, readings, steps}
use Rattle.lasso_shared.proofs.machine.some_run.Goals as goal

starts : IsStart three_keys first_byte_shard empty
starts = record {
  opening = record {
    distinct = IsDistinct-from_apart bytes_eq [] (λ i j d below inside. absurd (omega arith));
    fits = λ n h. absurd (omega arith);
    bucket = (2, 0, (λ e. absurd (omega (arith, e))), omega arith, refl);
  };
  filled = All-cons IsFilled (record { bucket = record { size = 2; used = 0 }; ranges = [] }) [] (refl, omega arith) (All-nil IsFilled);
  index = λ k text. grind (arith, nat_tests);
  idle = λ number. refl;
}

-- a bucket without room, before others
full_too : (n size used : ℕ) (bs : List CountedBucket) → size < used + n → All (λ (b : CountedBucket). b.size < b.used + n) bs → All (λ (b : CountedBucket). b.size < b.used + n) (record { size = size; used = used } ∷ bs)
full_too n size used bs h hs = All-cons (λ (b : CountedBucket). b.size < b.used + n) (record { size = size; used = used }) bs h hs

none_left : (n : ℕ) → All (λ (b : CountedBucket). b.size < b.used + n) []
none_left n = All-nil (λ (b : CountedBucket). b.size < b.used + n)

-- each part of the run, before steps that may be taken after it
two_calls_run : (more : List Step) → IsRun three_keys first_byte_shard (run first_byte_shard empty (two_calls [])) more → IsRun three_keys first_byte_shard empty (two_calls more)
two_calls_run more rest = (
  (refl, λ c h x. none-some c h),
  (
    (refl, λ c h x. grind (arith, nat_tests)),
    (
      (refl, refl, (refl, λ x. grind arith), omega arith),
      (
        (refl, refl, (refl, λ x. grind arith), full_too 2 2 1 [] (omega arith) (none_left 2), refl),
        (
          (refl, inl refl, refl),
          (
            (refl, inl refl, refl),
            (
              (refl, refl),
              (
                (refl, refl),
                rest,
              ),
            ),
          ),
        ),
      ),
    ),
  ),
)

one_refused_run : (more : List Step) → IsRun three_keys first_byte_shard (run first_byte_shard empty (two_calls (one_refused []))) more → IsRun three_keys first_byte_shard (run first_byte_shard empty (two_calls [])) (one_refused more)
one_refused_run more rest = (
  (refl, λ c h x. grind (arith, nat_tests)),
  (
    λ c h x. grind (arith, nat_tests),
    (
      tt,
      (
        (refl, λ c h x. grind (arith, nat_tests)),
        (
          (refl, (refl, (refl, λ x. grind arith), full_too 3 2 1 (record { size = 4; used = 2 } ∷ []) (omega arith) (full_too 3 4 2 [] (omega arith) (none_left 3)), omega arith)),
          rest,
        ),
      ),
    ),
  ),
)

keys_used_up_run : (more : List Step) → IsRun three_keys first_byte_shard (run first_byte_shard empty (two_calls (one_refused (keys_used_up [])))) more → IsRun three_keys first_byte_shard (run first_byte_shard empty (two_calls (one_refused []))) (keys_used_up more)
keys_used_up_run more rest = (
  tt,
  (
    (refl, λ c h x. grind (arith, nat_tests)),
    (
      (refl, inr (refl, inl refl), refl),
      (
        (refl, refl),
        (
          (refl, λ c h x. grind (arith, nat_tests)),
          (
            (refl, (inr (refl, inl refl), refl)),
            (
              (refl, λ c h x. grind (arith, nat_tests)),
              (
                (refl, refl),
                rest,
              ),
            ),
          ),
        ),
      ),
    ),
  ),
)

runs : IsRun three_keys first_byte_shard empty steps
runs = two_calls_run (one_refused (keys_used_up readings)) (one_refused_run (keys_used_up readings) (keys_used_up_run readings (tt, (tt, (tt, tt)))))

pub returns : goal.returns
returns c = record {
  starts = starts;
  runs = runs;
  texts = refl;
  later = inr
      (record {
        keeping = Copied;
        text = bc;
        between =
            Reserve (call 7 Copied a Missing) 0
            ∷ Charge (call 8 Copied bc Missing) 4
            ∷ Append (call 8 Copied bc Stored)
            ∷ Append (call 7 Copied a Stored)
            ∷ [];
        last = Release (call 8 Copied bc (Appended 0)) 0;
        asked = Intern Copied bc;
        whole = refl;
        asks = refl;
        missing = refl;
        amid = (tt, (tt, (tt, (tt, tt))));
        ends = refl;
        replies = refl;
      });
  refused = inr
      (record {
        keeping = Copied;
        text = ddd;
        between = [];
        last = Refuse (call 9 Copied ddd Missing) MemoryLimitReached;
        asked = Intern Copied ddd;
        whole = refl;
        asks = refl;
        missing = refl;
        amid = tt;
        ends = refl;
        replies = refl;
      });
  doubling = refl;
  events = refl;
  replies = refl;
}
