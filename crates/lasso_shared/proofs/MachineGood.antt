-- Each kind of step leaves a good state.
--
-- A call that takes a free shard finds its index exact: so a text that the index lacks is absent from the
-- list. While the call holds the shard, no other call has a text of that shard, and so the text stays absent
-- until this call appends it. That is why an append need not look: who holds the shard knows. Afterwards the
-- shard's index lacks that one text, until the call enters it and lets the shard go.
use Rattle.std.proofs.Common.{◌≡◌, ◌≢◌, ◌⊎◌, ℕ, List, [], ◌∷◌, ◌++◌, length, Option, Some, None, IsSome, All, slice_get, refl, sym, ◌∙◌, subst, inl, inr, arith}
use Rattle.std.proofs.lemmas.Bool.Decides.{nat_tests}
use Rattle.std.proofs.lemmas.List.{length_push}
use Rattle.std.proofs.lemmas.Slice.Eq.{bytes_eq-Decides}
use Rattle.lasso_parts.specs.Texts.{Text, position_of, Fits}
use Rattle.lasso_parts.proofs.TextLemmas.{distinct_push, fits_push}
use Rattle.lasso_parts.proofs.IndexLaws.{position_of_at, slice_get_push}
use Rattle.lasso_log.specs.History.{Lacks}
use Rattle.lasso_shared.specs.Machine.{RangedBucket, Phase, Missing, Stored, Appended, Call, State, IsInFlight, IsFree, put, with_call, without, in_phase, entered}
use Rattle.lasso_shared.specs.Runs.{position_in, IsFilled, StandsBy, IsNearly, IsGood}
use Rattle.lasso_shared.proofs.Positions.{same_or_not, position_other, get_front}

-- a call that has appended nothing yet
abbrev pub HasAppendedNone : Call → Type 0
HasAppendedNone c = (position : ℕ) → c.phase ≢ Appended position

-- a call in flight is the one that was put in, or another
put_cases : (calls : ℕ → Option Call) (c d : Call) → put calls c.number (Some c) d.number ≡ Some d → (d ≡ c) ⊎ ((d.number ≢ c.number) × (calls d.number ≡ Some d))
put_cases calls c d h = grind (arith, nat_tests)

-- what is in flight once a call has left is another
left_cases : (calls : ℕ → Option Call) (c d : Call) → put calls c.number None d.number ≡ Some d → (d.number ≢ c.number) × (calls d.number ≡ Some d)
left_cases calls c d h = grind (arith, nat_tests)

-- a call keeps its own number, also once one was put in or has left
put_numbered : (calls : ℕ → Option Call) (c : Call) → ((number : ℕ) (d : Call) → calls number ≡ Some d → d.number ≡ number) → (number : ℕ) (d : Call) → put calls c.number (Some c) number ≡ Some d → d.number ≡ number
put_numbered calls c numbered number d h = grind (arith, nat_tests, numbered number d)

left_numbered : (calls : ℕ → Option Call) (c : Call) → ((number : ℕ) (d : Call) → calls number ≡ Some d → d.number ≡ number) → (number : ℕ) (d : Call) → put calls c.number None number ≡ Some d → d.number ≡ number
left_numbered calls c numbered number d h = grind (arith, nat_tests, numbered number d)

-- a number has one call
one_call : (s : State) (c d : Call) → IsInFlight s c → IsInFlight s d → d.number ≡ c.number → d ≡ c
one_call s c d hc hd e = grind arith

-- one text more leaves the position of any other, and so that of a text of another shard
position_in_other : (shard : Text → ℕ) (s : State) (text : Text) (k : ℕ) (t : Text) → (shard t ≡ k → t ≢ text) → position_in shard (record s { texts = s.texts ++ text ∷ [] }) k t ≡ position_in shard s k t
position_in_other shard s text k t other = grind (arith, nat_tests, position_other s.texts text t)

stands_by_other : (s : State) (text t : Text) (phase : Phase) → t ≢ text → StandsBy s t phase → StandsBy (record s { texts = s.texts ++ text ∷ [] }) t phase
stands_by_other s text t Missing other h = position_other s.texts text t other ∙ h
stands_by_other s text t Stored other h = position_other s.texts text t other ∙ h
stands_by_other s text t (Appended position) other h = get_front s.texts (text ∷ []) position t h

module _ {K : Type 0} (key_at : ℕ → Option K) (shard : Text → ℕ) (s : State) (good : IsGood key_at shard s) where
  -- the index of a text's shard, while it is free, has the text's position
  pub found_free : (text : Text) → IsFree s (shard text) → s.index (shard text) text ≡ position_of s.texts text
  found_free text free = grind (arith, nat_tests, good.exact (shard text) text free)

  -- while a call has appended nothing the list lacks its text
  pub lacks_own : (c : Call) → IsInFlight s c → HasAppendedNone c → Lacks s.texts c.text
  lacks_own c flies none = by_phase c.phase none (good.stands c flies)
    where
      by_phase : (phase : Phase) → ((position : ℕ) → phase ≢ Appended position) → StandsBy s c.text phase → Lacks s.texts c.text
      by_phase Missing n h = h
      by_phase Stored n h = h
      by_phase (Appended position) n h = absurd (n position refl)

  -- .. and its shard's index is exact
  exact_held : (c : Call) (text : Text) → IsInFlight s c → HasAppendedNone c → s.index c.shard text ≡ position_in shard s c.shard text
  exact_held c text flies none = grind (arith, good.nearly c text flies, none)

  -- a call begins, whose text the index of its shard lacks
  pub good_begun : (c : Call) → c.shard ≡ shard c.text → c.phase ≡ Missing → s.calls c.number ≡ None → IsFree s c.shard → s.index c.shard c.text ≡ None → IsGood key_at shard (with_call s c)
  good_begun c own missing fresh free none = record {
    distinct = good.distinct;
    fits = good.fits;
    numbered = λ number d h. put_numbered s.calls c good.numbered number d h;
    own = λ d h. grind (arith, put_cases s.calls c d h, good.own d);
    apart = λ d e hd he same. grind (arith, put_cases s.calls c d hd, put_cases s.calls c e he, good.apart d e, free d, free e);
    exact = λ k text f. good.exact k text (λ e he. f e (grind (arith, nat_tests, fresh, he)));
    nearly = λ d text h. grind (arith, put_cases s.calls c d h, good.nearly d text, good.exact c.shard text free);
    stands = λ d h. stands_now d (put_cases s.calls c d h);
    filled = good.filled;
  }
    where
      lacks : Lacks s.texts c.text
      lacks = grind (arith, nat_tests, good.exact c.shard c.text free, own, none)

      stands_now : (d : Call) → (d ≡ c) ⊎ ((d.number ≢ c.number) × IsInFlight s d) → StandsBy s d.text d.phase
      stands_now d (inl e) = subst (λ (x : Call). StandsBy s x.text x.phase) (sym e) (subst (λ (p : Phase). StandsBy s c.text p) (sym missing) lacks)
      stands_now d (inr other) = good.stands d other.1

  -- a call goes on in another phase, with the same number, text and shard
  module _ (c : Call) (flies : IsInFlight s c) (phase : Phase) where
    free_on : (k : ℕ) → IsFree (with_call s (in_phase phase c)) k → IsFree s k
    free_on k f e he x = grind (arith, nat_tests, f (in_phase phase c), f e, one_call s c e)

    own_on : (d : Call) → IsInFlight (with_call s (in_phase phase c)) d → d.shard ≡ shard d.text
    own_on d h = grind (arith, put_cases s.calls (in_phase phase c) d h, good.own c flies, good.own d)

    apart_on : (d e : Call) → IsInFlight (with_call s (in_phase phase c)) d → IsInFlight (with_call s (in_phase phase c)) e → d.shard ≡ e.shard → d.number ≡ e.number
    apart_on d e hd he same = grind (arith, put_cases s.calls (in_phase phase c) d hd, put_cases s.calls (in_phase phase c) e he, good.apart d e, good.apart c e, good.apart d c)

  -- a call has its bytes, in buckets that are filled well
  pub good_stored : (c : Call) (buckets : List RangedBucket) (doubling usage : ℕ) → IsInFlight s c → HasAppendedNone c → All IsFilled buckets → IsGood key_at shard (record (with_call s (in_phase Stored c)) { buckets = buckets; doubling = doubling; usage = usage })
  good_stored c buckets doubling usage flies none filled = record {
    distinct = good.distinct;
    fits = good.fits;
    numbered = λ number d h. put_numbered s.calls (in_phase Stored c) good.numbered number d h;
    own = own_on c flies Stored;
    apart = apart_on c flies Stored;
    exact = λ k text f. good.exact k text (free_on c flies Stored k f);
    nearly = λ d text h. grind (arith, put_cases s.calls (in_phase Stored c) d h, exact_held c text flies none, good.nearly d text);
    stands = λ d h. stands_now d (put_cases s.calls (in_phase Stored c) d h);
    filled = filled;
  }
    where
      stands_now : (d : Call) → (d ≡ in_phase Stored c) ⊎ ((d.number ≢ c.number) × IsInFlight s d) → StandsBy s d.text d.phase
      stands_now d (inl e) = subst (λ (x : Call). StandsBy s x.text x.phase) (sym e) (lacks_own c flies none)
      stands_now d (inr other) = good.stands d other.1

  -- a call puts its text last
  pub good_appended : (c : Call) → IsInFlight s c → HasAppendedNone c → IsSome (key_at (length s.texts)) → IsGood key_at shard (record (with_call s (in_phase (Appended (length s.texts)) c)) { texts = s.texts ++ c.text ∷ [] })
  good_appended c flies none key = record {
    distinct = distinct_push s.texts c.text good.distinct lacks;
    fits = subst (Fits key_at) (sym (length_push s.texts c.text)) (fits_push key_at (length s.texts) good.fits key);
    numbered = λ number d h. put_numbered s.calls (in_phase phase c) good.numbered number d h;
    own = own_on c flies phase;
    apart = apart_on c flies phase;
    exact = λ k text f.
        let free : IsFree s k = free_on c flies phase k f in
        grind (arith, good.exact k text free, position_in_other shard s c.text k text, free c flies, good.own c flies);
    nearly = λ d text h. nearly_now d text (put_cases s.calls (in_phase phase c) d h);
    stands = λ d h. stands_now d (put_cases s.calls (in_phase phase c) d h);
    filled = good.filled;
  }
    where
      phase : Phase
      phase = Appended (length s.texts)

      later : State
      later = record (with_call s (in_phase phase c)) { texts = s.texts ++ c.text ∷ [] }

      lacks : Lacks s.texts c.text
      lacks = lacks_own c flies none

      apart_from : (d : Call) → d.number ≢ c.number → IsInFlight s d → (d.text ≢ c.text) × (d.shard ≢ shard c.text)
      apart_from d ne h = grind (arith, good.apart d c h flies, good.own d h, good.own c flies)

      nearly_own : (text : Text) → IsNearly shard later (in_phase phase c) text
      nearly_own text = grind (arith, nat_tests, same_or_not text c.text, exact_held c text flies none, position_in_other shard s c.text c.shard text, lacks, good.own c flies)

      nearly_now : (d : Call) (text : Text) → (d ≡ in_phase phase c) ⊎ ((d.number ≢ c.number) × IsInFlight s d) → IsNearly shard later d text
      nearly_now d text (inl e) = subst (λ (x : Call). IsNearly shard later x text) (sym e) (nearly_own text)
      nearly_now d text (inr other) = grind (arith, good.nearly d text other.1, position_in_other shard s c.text d.shard text, apart_from d other.0 other.1)

      stands_now : (d : Call) → (d ≡ in_phase phase c) ⊎ ((d.number ≢ c.number) × IsInFlight s d) → StandsBy later d.text d.phase
      stands_now d (inl e) = subst (λ (x : Call). StandsBy later x.text x.phase) (sym e) (slice_get_push s.texts c.text)
      stands_now d (inr other) = stands_by_other s c.text d.text d.phase (apart_from d other.0 other.1).0 (good.stands d other.1)

  -- what is free once a call has left was free, or is the call's
  freed : (c : Call) → IsInFlight s c → (k : ℕ) → IsFree (without s c) k → c.shard ≢ k → IsFree s k
  freed c flies k f ne e he x = grind (arith, nat_tests, f e, one_call s c e flies he)

  -- a call leaves that has appended nothing
  pub good_refused : (c : Call) → IsInFlight s c → HasAppendedNone c → IsGood key_at shard (without s c)
  good_refused c flies none = record {
    distinct = good.distinct;
    fits = good.fits;
    numbered = λ number d h. left_numbered s.calls c good.numbered number d h;
    own = λ d h. good.own d (left_cases s.calls c d h).1;
    apart = λ d e hd he same. good.apart d e (left_cases s.calls c d hd).1 (left_cases s.calls c e he).1 same;
    exact = λ k text f. grind (arith, exact_held c text flies none, good.exact k text, freed c flies k f);
    nearly = λ d text h. good.nearly d text (left_cases s.calls c d h).1;
    stands = λ d h. good.stands d (left_cases s.calls c d h).1;
    filled = good.filled;
  }

  -- a call leaves, and its text is entered into the index
  pub good_released : (c : Call) (position : ℕ) → IsInFlight s c → c.phase ≡ Appended position → IsGood key_at shard (record (without s c) { index = put s.index c.shard (entered (s.index c.shard) c.text position) })
  good_released c position flies appended = record {
    distinct = good.distinct;
    fits = good.fits;
    numbered = λ number d h. left_numbered s.calls c good.numbered number d h;
    own = λ d h. good.own d (left_cases s.calls c d h).1;
    apart = λ d e hd he same. good.apart d e (left_cases s.calls c d hd).1 (left_cases s.calls c e he).1 same;
    exact = λ k text f. grind (arith, nat_tests, exact_own text, good.exact k text, freed c flies k f);
    nearly = λ d text h. nearly_now d text (left_cases s.calls c d h);
    stands = λ d h. good.stands d (left_cases s.calls c d h).1;
    filled = good.filled;
  }
    where
      index : Text → Option ℕ
      index = entered (s.index c.shard) c.text position

      at : slice_get s.texts position ≡ Some c.text
      at = subst (λ (p : Phase). StandsBy s c.text p) appended (good.stands c flies)

      exact_own : (text : Text) → index text ≡ position_in shard s c.shard text
      exact_own text = grind (arith, nat_tests, bytes_eq-Decides c.text text, position_of_at s.texts c.text position good.distinct at, good.own c flies, good.nearly c text flies)

      nearly_now : (d : Call) (text : Text) → (d.number ≢ c.number) × IsInFlight s d → IsNearly shard (record (without s c) { index = put s.index c.shard index }) d text
      nearly_now d text other = grind (arith, nat_tests, good.nearly d text other.1, good.apart d c other.1 flies)

  -- the limit is replaced
  pub good_limited : (limit : ℕ) → IsGood key_at shard (record s { limit = limit })
  good_limited limit = record {
    distinct = good.distinct;
    fits = good.fits;
    numbered = good.numbered;
    own = good.own;
    apart = good.apart;
    exact = good.exact;
    nearly = good.nearly;
    stands = good.stands;
    filled = good.filled;
  }
