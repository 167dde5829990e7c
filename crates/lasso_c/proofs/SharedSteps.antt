-- Interning the texts of a layout one after another: each call begins where the one before it ended, and its code goes after those
-- before it.
use Rattle.std.proofs.Common.{ℕ, ◌≡◌, ◌<◌, ◌+◌, ◌-◌, List, [], ◌∷◌, ◌++◌, length, set, take, slice_get, Option, Some, None, Ok, Err, inl, inr, refl, ap, sym, subst, ◌∙◌, arith, suc}
use Rattle.std.specs.List.{slice_range}
use Rattle.std.specs.Prelude.{IsSome, MatchResult, Result, get_or, option_map, slice_index}
use Rattle.std.proofs.lemmas.Bool.{cases_lt}
use Rattle.std.proofs.lemmas.List.{length-take-le, length-set}
use Rattle.lasso_parts.specs.Layout.{layout_texts}
use Rattle.lasso_parts.specs.Texts.{Text}
use Rattle.lasso_parts.proofs.TextLemmas.{take_more_at}
use Rattle.lasso_log.specs.Replies.{Copied, Intern, Interned}
use Rattle.lasso_log.specs.Views.{PassView}
use Rattle.lasso_c.specs.Interning.{batch_start_fault}
use Rattle.lasso_c.specs.Layout.{IsTextBetween, over, text_fault}
use Rattle.lasso_c.specs.Passes.{IsCallOf}
use Rattle.lasso_c.specs.SharedBatches.{EndsBatch, InternsAt, InternsBatch, InternsEach, InternsFirst, InternsUnlessFaulty, IsRefused, RefusesAt, fault_at}
use Rattle.lasso_c.specs.declared.error.CallError.{CallError}
use Rattle.lasso_c.proofs.BatchSteps.{text_is}
use Rattle.lasso_c.proofs.Layouts.{length-layout_texts}
use Rattle.lasso_c.proofs.Writing.{over_push}

-- one call more
pub each_push : (before : PassView) (texts : List Text) (codes : List ℕ) (mid : PassView) (text : Text) (code : ℕ) (after : PassView)
    → InternsEach before texts codes mid → IsCallOf mid after (Intern Copied text) (Interned (Ok (code + 1))) → InternsEach before (texts ++ text ∷ []) (codes ++ code ∷ []) after
each_push before [] [] mid text code after so_far call = (after, subst (λ (p : PassView). IsCallOf p after (Intern Copied text) (Interned (Ok (code + 1)))) so_far call, refl)
each_push before [] (c ∷ codes) mid text code after so_far call = absurd so_far
each_push before (t ∷ texts) [] mid text code after so_far call = absurd so_far
each_push before (t ∷ texts) (c ∷ codes) mid text code after so_far call = (so_far.0, so_far.1, each_push so_far.0 texts codes mid text code after so_far.2 call)

-- there are as many codes as texts
pub each_counted : (before : PassView) (texts : List Text) (codes : List ℕ) (after : PassView) → InternsEach before texts codes after → length codes ≡ length texts
each_counted before [] [] after so_far = refl
each_counted before [] (c ∷ codes) after so_far = absurd so_far
each_counted before (t ∷ texts) [] after so_far = absurd so_far
each_counted before (t ∷ texts) (c ∷ codes) after so_far = ap suc (each_counted so_far.0 texts codes after so_far.2)

-- the first texts were interned, and their codes are written over the front of a buffer
pub record InternedSo (greatest : ℕ) (bytes offsets : List ℕ) (at : ℕ) (first now : List ℕ) (before after : PassView) : Type 0 where
  pub codes : List ℕ
  pub interned : InternsFirst greatest bytes offsets at before codes after
  pub written : now ≡ over codes first
  pub room : length now ≡ length first

pub none_so_far : (greatest : ℕ) (bytes offsets first : List ℕ) (before : PassView) → InternedSo greatest bytes offsets 0 first first before before
none_so_far greatest bytes offsets first before = record { codes = []; interned = (refl, λ at low. absurd (omega (arith, low))); written = refl; room = refl }

pub one_more : (greatest : ℕ) (bytes offsets : List ℕ) (at : ℕ) (first now : List ℕ) (before mid : PassView) (code : ℕ) (after : PassView)
    → InternedSo greatest bytes offsets at first now before mid → InternsAt greatest bytes offsets at mid code after → at + 1 < length offsets → at < length first
    → InternedSo greatest bytes offsets (at + 1) first (set now at code) before after
one_more greatest bytes offsets at first now before mid code after so_far next small room =
    let all = layout_texts bytes offsets in
    let front : length (take at all) ≡ at = length-take-le at all (omega (arith, length-layout_texts bytes offsets)) in
    let many : at ≡ length so_far.codes = sym (each_counted before (take at all) so_far.codes mid so_far.interned.0 ∙ front) in
    let more : take (at + 1) all ≡ take at all ++ next.0 ∷ [] = take_more_at all at next.0 next.1 in
    record {
      codes = so_far.codes ++ code ∷ [];
      interned = (
        subst (λ (ts : List Text). InternsEach before ts (so_far.codes ++ code ∷ []) after) (sym more) (each_push before (take at all) so_far.codes mid next.0 code after so_far.interned.0 next.3),
        λ j low. elim (cases_lt j at) [
          | inl below ↦ so_far.interned.1 j below
          | inr above ↦ (let last : at ≡ j = omega (arith, low, above) in subst (λ (n : ℕ). fault_at greatest bytes offsets n ≡ None) last next.2)
        ],
      );
      written = ap (λ (cs : List ℕ). set cs at code) so_far.written ∙ over_push so_far.codes first at code many room (subst (λ (cs : List ℕ). at < length cs) so_far.written (omega (arith, so_far.room)));
      room = length-set now at code ∙ so_far.room;
    }

at_number : (greatest : ℕ) (bytes offsets : List ℕ) (at : ℕ) (text : Text) (before after : PassView) (reply : Result ℕ ℕ) → slice_get (layout_texts bytes offsets) at ≡ Some text → fault_at greatest bytes offsets at ≡ None
    → MatchResult reply (λ code. IsCallOf before after (Intern Copied text) (Interned (Ok (code + 1)))) (λ status. IsRefused text at status before after)
    → MatchResult reply (λ code. InternsAt greatest bytes offsets at before code after) (λ status. RefusesAt greatest bytes offsets at status before after)
at_number greatest bytes offsets at text before after (Ok code) here good call = (text, here, good, call)
at_number greatest bytes offsets at text before after (Err status) here good refused = inr (text, here, good, refused)

-- what is known of the call of a good text is known of its number in the layout
pub with_text : (greatest : ℕ) (bytes offsets : List ℕ) (at from to : ℕ) (text : Text) (before after : PassView) (reply : Result ℕ ℕ) → at + 1 < length offsets → from ≡ get_or offsets at 0 → to ≡ get_or offsets (at + 1) 0
    → IsTextBetween greatest bytes at from to text
    → MatchResult reply (λ code. IsCallOf before after (Intern Copied text) (Interned (Ok (code + 1)))) (λ status. IsRefused text at status before after)
    → MatchResult reply (λ code. InternsAt greatest bytes offsets at before code after) (λ status. RefusesAt greatest bytes offsets at status before after)
with_text greatest bytes offsets at from to text before after reply small is_from is_to between found =
    let end = get_or offsets (at + 1) 0 in
    let cut : text ≡ slice_range bytes (get_or offsets at 0) end = between.0 ∙ (ap (λ n. slice_range bytes n to) is_from ∙ ap (λ n. slice_range bytes (get_or offsets at 0) n) is_to) in
    let here : slice_get (layout_texts bytes offsets) at ≡ Some text = text_is bytes offsets at small ∙ ap (λ (t : Text). Some t) (sym cut) in
    let good : fault_at greatest bytes offsets at ≡ None = subst (λ (n : ℕ). text_fault greatest bytes at (get_or offsets at 0) n ≡ None) is_to (subst (λ (n : ℕ). text_fault greatest bytes at n to ≡ None) is_from between.3) in
    at_number greatest bytes offsets at text before after reply here good found

-- why a batch is refused before its first text, with the numbers that it has at hand
fault_is : (greatest : ℕ) (bytes offsets : List ℕ) (first rows room : ℕ) → first ≡ slice_index offsets 0 → rows ≡ length offsets - 1
    → batch_start_fault greatest [] bytes first rows room ≡ batch_start_fault greatest [] bytes (slice_index offsets 0) (length (layout_texts bytes offsets)) room
fault_is greatest bytes offsets first rows room is all =
    ap (λ n. batch_start_fault greatest [] bytes n rows room) is ∙ ap (λ n. batch_start_fault greatest [] bytes (slice_index offsets 0) n room) (all ∙ sym (length-layout_texts bytes offsets))

-- a batch that is refused before its first text
pub faulty : (greatest : ℕ) (bytes offsets : List ℕ) (first rows status : ℕ) (codes : List ℕ) (pass : PassView) (refusal : CallError) → first ≡ slice_index offsets 0 → rows ≡ length offsets - 1
    → Some refusal ≡ batch_start_fault greatest [] bytes first rows (length codes) → InternsUnlessFaulty (Some refusal) greatest bytes offsets 0 status codes codes pass pass → InternsBatch greatest bytes offsets 0 status codes codes pass pass
faulty greatest bytes offsets first rows status codes pass refusal is all found ends =
    subst (λ (f : Option CallError). InternsUnlessFaulty f greatest bytes offsets 0 status codes codes pass pass) (found ∙ fault_is greatest bytes offsets first rows (length codes) is all) ends

-- a batch that ends after some of its texts
pub ended : (greatest : ℕ) (bytes offsets : List ℕ) (first rows done status : ℕ) (codes now : List ℕ) (before mid after : PassView) → first ≡ slice_index offsets 0 → rows ≡ length offsets - 1
    → None ≡ batch_start_fault greatest [] bytes first rows (length codes) → InternedSo greatest bytes offsets done codes now before mid → EndsBatch greatest bytes offsets done status mid after
    → InternsBatch greatest bytes offsets done status codes now before after
ended greatest bytes offsets first rows done status codes now before mid after is all good so_far ends =
    subst (λ (f : Option CallError). InternsUnlessFaulty f greatest bytes offsets done status codes now before after) (good ∙ fault_is greatest bytes offsets first rows (length codes) is all)
    (so_far.codes, mid, so_far.interned, so_far.written, ends)

-- an option with something in it once it is mapped has something in it
pub there : {A B : Type 0} (f : A → B) (o : Option A) (b : B) → option_map f o ≡ Some b → IsSome o
there f None b is = absurd cc
there f (Some a) b is = refl
