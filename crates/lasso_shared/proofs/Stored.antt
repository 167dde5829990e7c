-- Calls that store a text's bytes and then put the text last, or that are refused before.
--
-- What a pass saw comes in parts, each with its own events: none until the bytes are stored, then those that store them, then none or
-- the append. The whole is a call, whose reply is explained at its end, or for a refusal by the limit at the step that has its ground.
use Rattle.std.proofs.Common.{◌≡◌, ℕ, List, [], ◌∷◌, ◌++◌, length, Option, Some, None, refl, ap, sym, ◌∙◌, subst, inl, inr, append_assoc, append-nil, arith}
use Rattle.std.specs.Prelude.{◌⊎◌, Result, Ok, Err, IfOk, IfErr, OnErr, IsSomeAnd, option_and_then}
use mathlib.Core.List.{IsPrefix}
use Rattle.lasso_parts.specs.Texts.{Text, IsDistinct, position_of, key_of}
use Rattle.lasso_parts.proofs.TextLemmas.{distinct_push}
use Rattle.lasso_parts.proofs.IndexLaws.{position_of_at, slice_get_push}
use Rattle.lasso_parts.specs.declared.util.LassoErrorKind.{LassoErrorKind}
use Rattle.lasso_parts.specs.declared.util.LassoErrorKind.TheVariants.{FailedAllocation, KeySpaceExhaustion, MemoryLimitReached}
use Rattle.lasso_log.specs.Calls.{events_of, TakesBytes, Stores, Makes, IsCall}
use Rattle.lasso_log.specs.Charges.{IsRefusal}
use Rattle.lasso_log.specs.History.{Event, Append, Charge, History, Totals, totals, Lacks}
use Rattle.lasso_log.specs.Notes.{NoteView, history, state, Since}
use Rattle.lasso_log.specs.Replies.{Keeping, Copied, Intern, Reply, Interned, MayReply}
use Rattle.lasso_shared.specs.NewTexts.{IsUnstored}
use Rattle.lasso_shared.specs.Shards.{PutsLast}
use Rattle.lasso_log.specs.Turns.{IsPastLimit}
use Rattle.lasso_log.specs.Views.{InternerId, list_of}
use Rattle.lasso_shared.proofs.Called.{explained_last}
use Rattle.lasso_log.proofs.Histories.{history_append, own_append, prefix_trans}
use Rattle.lasso_log.proofs.Lengths.{same_texts}
use Rattle.lasso_log.proofs.Tickets.{since_trans}

-- ---- what was seen in two parts

pub since_append : (p : ℕ) (a b c : List NoteView) (own more : List Event) → Since p a b own → Since p b c more → Since p a c (own ++ more)
since_append p a b c own more s t = record {
  rest = s.rest ++ t.rest;
  begins = sym (append_assoc a s.rest t.rest) ∙ (ap (λ (l : List NoteView). l ++ t.rest) s.begins ∙ t.begins);
  events = own_append p s.rest t.rest ∙ (ap (λ (l : List Event). l ++ events_of p (history t.rest)) s.events ∙ ap (λ (l : List Event). own ++ l) t.events);
}

cancel : {A : Type 0} (xs ys zs : List A) → xs ++ ys ≡ xs ++ zs → ys ≡ zs
cancel [] ys zs e = e
cancel (x ∷ xs) ys zs e = cancel xs ys zs (cc e)

-- the same, where the first part has no event
pub takes_later : (p : ℕ) (a b c : List NoteView) (n : ℕ) → Since p a b [] → ((own : List Event) × TakesBytes n own × Since p b c own) → (own : List Event) × TakesBytes n own × Since p a c own
takes_later p a b c n s t = (t.0, t.1, since_trans p a b c t.0 s t.2)

-- the same of a result
pub stores_later : {A E : Type 0} (p q : ℕ) (a b c : List NoteView) (text : Text) (r : Result A E) → q ≡ p → Since p a b [] → IfOk r (λ x. (own : List Event) × Stores Copied text own × Since q b c own)
    → IfOk r (λ x. (own : List Event) × Stores Copied text own × Since p a c own)
stores_later p q a b c text (Ok x) same s t = (t.0, t.1, since_trans p a b c t.0 s (subst (λ (i : ℕ). Since i b c t.0) same t.2))
stores_later p q a b c text (Err e) same s t = tt

pub none_later : {A E : Type 0} (p q : ℕ) (a b c : List NoteView) (r : Result A E) → q ≡ p → Since p a b [] → OnErr r (Since q b c []) → OnErr r (Since p a c [])
none_later p q a b c (Ok x) same s none = tt
none_later p q a b c (Err e) same s none = since_trans p a b c [] s (subst (λ (i : ℕ). Since i b c []) same none)

-- ---- the bytes

-- one event took the bytes, in a new bucket
pub charged_bytes : (p : ℕ) (a b : List NoteView) (n : ℕ) (size : Option ℕ) → IsSomeAnd size (λ m. Since p a b (Charge m n ∷ [])) → (own : List Event) × TakesBytes n own × Since p a b own
charged_bytes p a b n (Some m) s = (Charge m n ∷ [], inr (m, refl), s)
charged_bytes p a b n None s = absurd s

pub is_none : (text : Text) → length text ≡ 0 → text ≡ []
is_none [] e = refl
is_none (byte ∷ bytes) e = absurd (omega (arith, e))

-- an empty text has none
pub stores_none : (text : Text) → text ≡ [] → Stores Copied text []
stores_none [] is = refl
stores_none (byte ∷ bytes) is = absurd (cc is)

-- a refusal by the limit, counted from an earlier step on
pub past_earlier : (o : Totals) (a b c : List NoteView) (len n : ℕ) → IsPrefix a b → IsPastLimit o b c len n → IsPastLimit o a c len n
past_earlier o a b c len n before l = record {
  notes = l.notes;
  past = prefix_trans a b l.notes before l.past;
  begins = l.begins;
  list = l.list;
  room = l.room;
  limit = l.limit;
}

pub refused_later : {A : Type 0} (o : Totals) (a b c : List NoteView) (len n : ℕ) (r : Result A LassoErrorKind) → IsPrefix a b → IfErr r (λ e. (e ≡ FailedAllocation) ⊎ ((e ≡ MemoryLimitReached) × IsPastLimit o b c len n))
    → IfErr r (λ e. (e ≡ FailedAllocation) ⊎ ((e ≡ MemoryLimitReached) × IsPastLimit o a c len n))
refused_later o a b c len n (Ok x) before refused = tt
refused_later o a b c len n (Err e) before refused = elim refused [ inl want ↦ inl want | inr l ↦ inr (l.0, past_earlier o a b c len n before l.1) ]

-- the same of a text
pub unstored_later : {A : Type 0} (of : InternerId) (list old a b c : List NoteView) (text : Text) (r : Result A LassoErrorKind) → old ≡ list → IsPrefix a b → IfErr r (IsUnstored of old b c text) → IfErr r (IsUnstored of list a c text)
unstored_later of list old a b c text (Ok x) same before unstored = tt
unstored_later of list old a b c text (Err e) same before unstored =
    let r : Result ℕ LassoErrorKind = Err e in
    (unstored.0, refused_later of.opening a b c (length (list_of of list)) (length text) r before (subst (λ (l : List NoteView). IsRefusal of l b c (length text) e) same unstored.1))

module _ {K : Type 0} (key_at : ℕ → Option K) where
  -- the key of a new last text
  pub key_of_last : (texts longer : List Text) (t : Text) (k : K) → longer ≡ texts ++ t ∷ [] → IsDistinct texts → Lacks texts t → key_at (length texts) ≡ Some k → key_of key_at longer t ≡ Some k
  key_of_last texts longer t k is distinct lacks key =
      let at : position_of longer t ≡ Some (length texts) = ap (λ (ts : List Text). position_of ts t) is ∙ position_of_at (texts ++ t ∷ []) t (length texts) (distinct_push texts t distinct lacks) (slice_get_push texts t) in
      ap (option_and_then key_at) at ∙ key

  module _ (of : InternerId) (p : ℕ) where
    -- what the pass saw before, without an event of its own, may be counted to what put the text last
    pub puts_later : (before mid after : List NoteView) (text : Text) (r : Result K LassoErrorKind) → Since p before mid [] → PutsLast key_at of p mid after text r → PutsLast key_at of p before after text r
    puts_later before mid after text (Ok k) s put = (since_trans p before mid after (Append text ∷ []) s put.0, put.1)
    puts_later before mid after text (Err e) s put = (put.0, since_trans p before mid after [] s put.1, put.2, put.3)

    -- the text was present
    pub called_found : (keeping : Keeping) (before after : List NoteView) (text : Text) (k : K) → Since p before after [] → key_of key_at (list_of of after) text ≡ Some k → IsCall key_at of.opening (history before) (history after) p (Intern keeping text) (Interned (Ok k))
    called_found keeping before after text k s is = explained_last key_at of.opening p before after [] (Intern keeping text) (Interned (Ok k)) s tt is (inl refl)

    -- the text is new, and memory ran out
    pub called_wanting : (keeping : Keeping) (before after : List NoteView) (text : Text) → Since p before after [] → Lacks (list_of of after) text → IsCall key_at of.opening (history before) (history after) p (Intern keeping text) (Interned (Err FailedAllocation))
    called_wanting keeping before after text s lacks = explained_last key_at of.opening p before after [] (Intern keeping text) (Interned (Err FailedAllocation)) s tt lacks refl

    -- the bytes were stored, and then the text was put last or no key was left for it
    pub called_put : (keeping : Keeping) (before mid after : List NoteView) (stored : List Event) (text : Text) (r : Result K LassoErrorKind) → Since p before mid stored → Stores keeping text stored → PutsLast key_at of p mid after text r
        → IsCall key_at of.opening (history before) (history after) p (Intern keeping text) (Interned r)
    called_put keeping before mid after stored text (Ok k) s stores put =
        explained_last key_at of.opening p before after (stored ++ Append text ∷ []) (Intern keeping text) (Interned (Ok k)) (since_append p before mid after stored (Append text ∷ []) s put.0) tt put.1 (inr (stored, stores, refl))
    called_put keeping before mid after stored text (Err e) s stores put =
        let all : Since p before after stored = subst (λ (es : List Event). Since p before after es) (append-nil stored) (since_append p before mid after stored [] s put.1) in
        rw put.0 (explained_last key_at of.opening p before after stored (Intern keeping text) (Interned (Err KeySpaceExhaustion)) all tt (put.2, put.3) stores)

    -- no event is added, and the reply is that of the list at a step between
    explained_at : (before at after : List NoteView) (keeping : Keeping) (text : Text) (r : Reply K) → Since p before after [] → IsPrefix before at → IsPrefix at after → MayReply key_at (state of.opening at) (Intern keeping text) r → Makes (Intern keeping text) r []
        → IsCall key_at of.opening (history before) (history after) p (Intern keeping text) r
    explained_at before at after keeping text r s a b reply makes =
        let q = Intern keeping text in
        let parts : a.0 ++ b.0 ≡ s.rest = cancel before (a.0 ++ b.0) s.rest (sym (append_assoc before a.0 b.0) ∙ (ap (λ (h : List NoteView). h ++ b.0) a.1 ∙ b.1) ∙ sym s.begins) in
        let there : history at ≡ history before ++ history a.0 = ap history (sym a.1) ∙ history_append before a.0 in record {
          past = history s.rest;
          begins = sym (history_append before s.rest) ∙ ap history s.begins;
          explained = (history a.0, history b.0, sym (history_append a.0 b.0) ∙ ap history parts, tt, subst (λ (h : History). MayReply key_at (totals of.opening h) q r) there reply);
          makes = subst (Makes q r) (sym s.events) makes;
        }

    -- the bytes are refused after a step at which the list lacks the text: out of memory, or by the limit at
    -- a later step at which the list is as long, and so the same
    pub called_refused : {A : Type 0} (list before mid after : List NoteView) (text : Text) (r : Result A LassoErrorKind) → Since p before mid [] → Lacks (list_of of mid) text → list_of of mid ≡ list_of of list
        → IfErr r (IsUnstored of list mid after text) → OnErr r (Since p mid after [])
        → IfErr r (λ e. IsCall key_at of.opening (history before) (history after) p (Intern Copied text) (Interned (Err e)))
    called_refused list before mid after text (Ok x) s lacks is unstored none = tt
    called_refused list before mid after text (Err e) s lacks is unstored none =
        let all = since_trans p before mid after [] s none in
        let first : IsPrefix before mid = (s.rest, s.begins) in elim unstored.1 [
          | inl want ↦ rw want (explained_at before mid after Copied text (Interned (Err FailedAllocation)) all first (none.rest, none.begins) lacks refl)
          | inr l ↦ (let x = l.1 in
              let same : list_of of mid ≡ list_of of x.notes = same_texts of.opening mid x.notes x.past (ap (λ (ts : List Text). length ts) is ∙ sym x.list) in
              rw l.0 (explained_at before x.notes after Copied text (Interned (Err MemoryLimitReached)) all (prefix_trans before mid x.notes first x.past) x.begins
              (subst (λ (ts : List Text). Lacks ts text) same lacks, refl, unstored.0, x.room, x.limit) refl))
        ]
