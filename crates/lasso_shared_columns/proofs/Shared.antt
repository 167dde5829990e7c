-- Texts whose codes are positions in a list that a pass has seen.
--
-- The key that a call of a pass returns is the text's key in the list that the pass has then seen, so the
-- code is the text's position there. The lists that passes see only grow. So codes stay right, also after
-- a pass has learned what another has seen: the codes of all workers are those of one list.
use Rattle.std.proofs.Common.{ℕ, Bor, Result, Err, MatchResult, ◌⊎◌, inl, inr, refl, append_assoc, append-nil, ◌≡◌, ◌+◌, ◌-◌, ◌*◌, List, [], ◌∷◌, ◌++◌, take, drop, map, Option, Some, Ok, sym, ap, subst, ◌∙◌, arith}
use Rattle.std.specs.Prelude.{Contains}
use Rattle.std.proofs.Math.Seq.{take-add}
use Rattle.std.proofs.lemmas.List.{take-map, drop-map, take-append-drop}
use Rattle.std.proofs.lemmas.List.Elements.{Contains-append_left, Contains-append_right}
use mathlib.Core.List.{IsPrefix}
use Rattle.lasso_parts.specs.Texts.{Text, position_of}
use Rattle.lasso_parts.specs.declared.util.LassoErrorKind.{LassoErrorKind}
use Rattle.lasso_parts.specs.declared.util.LassoErrorKind.TheVariants.{FailedAllocation}
use Rattle.lasso_log.specs.History.{History, Totals, totals}
use Rattle.lasso_log.specs.Replies.{Copied, Intern, Interned}
use Rattle.lasso_log.specs.Calls.{IsCall}
use Rattle.lasso_log.specs.Notes.{NoteView, history}
use Rattle.lasso_log.specs.Views.{InternerId, list_of}
use Rattle.lasso_log.proofs.Histories.{history_append, prefix_trans}
use Rattle.lasso_log.proofs.Legal.{totals_append, list_grows}
use Rattle.lasso_log.proofs.Lengths.{texts_past}
use Rattle.lasso_shared.specs.Batches.{CallsEach, AddsInterned, StopsAtText}
use Rattle.lasso_shared.proofs.CallerLaws.{tells_keys}
use Rattle.lasso_single.proofs.Coded.{codes_past, map_some_both}
use Rattle.lasso_single.proofs.Encoded.{found_at}
use Rattle.lasso_single.specs.Codes.{AreCodes}
use Rattle.lasso_single.specs.Coding.{spur_at}
use Rattle.lasso_shared_columns.specs.Sharing.{IsRefusalIn}

grown : (o : Totals) (before past after : History) → before ++ past ≡ after → IsPrefix (totals o before).texts (totals o after).texts
grown o before past after is =
    subst (λ (s : Totals). IsPrefix (totals o before).texts s.texts) (sym (totals_append o before past) ∙ ap (totals o) is) (list_grows (totals o before) past)

-- texts by the calls of one batch: the list has grown, and they have their codes in it
batch_codes : (o : Totals) (before after : History) (pass : ℕ) (texts : List Text) (keys : List ℕ) → CallsEach spur_at o before after pass (map (Intern Copied) texts) (map (λ k. Interned (Ok k)) keys) → IsPrefix (totals o before).texts (totals o after).texts × AreCodes (totals o after).texts texts (map (λ k. k - 1) keys)
batch_codes o before after pass [] [] each =
    (subst (λ (h : History). IsPrefix (totals o before).texts (totals o h).texts) (sym each) ([], append-nil (totals o before).texts), refl)
batch_codes o before after pass [] (k ∷ keys) each = absurd each
batch_codes o before after pass (t ∷ texts) [] each = absurd each
batch_codes o before after pass (t ∷ texts) (k ∷ keys) each =
    let mid = (totals o each.0).texts in
    let list = (totals o after).texts in
    let others = batch_codes o each.0 after pass texts keys each.2 in
    let first : AreCodes mid (t ∷ []) ((k - 1) ∷ []) = ap (λ (c : Option ℕ). c ∷ []) (found_at (position_of mid t) k ((tells_keys spur_at o before each.0 pass).interned Copied t k each.1)) in (
      prefix_trans (totals o before).texts mid list (grown o before each.1.past each.0 each.1.begins) others.0,
      map_some_both (position_of list) (t ∷ []) texts ((k - 1) ∷ []) (map (λ k. k - 1) keys) (codes_past mid list (t ∷ []) ((k - 1) ∷ []) others.0 first) others.1,
    )

-- those of the texts that come before the rest have these codes
pub record CodedSo (list all rest : List Text) (codes : List ℕ) : Type 0 where
  pub done : List Text
  pub split : all ≡ done ++ rest
  pub are : AreCodes list done codes

pub coded_none : (list all rest : List Text) (codes : List ℕ) → rest ≡ all → codes ≡ [] → CodedSo list all rest codes
coded_none list all rest codes whole none = record { done = []; split = sym whole; are = ap (map Some) (sym none) }

-- one batch more, by calls of the pass
pub coded_batch : (o : Totals) (before after : History) (pass : ℕ) (all texts rest : List Text) (old keys codes codes' : List ℕ) → CodedSo (totals o before).texts all (texts ++ rest) codes → old ≡ [] → AddsInterned spur_at o before after pass texts old keys → codes' ≡ codes ++ map (λ k. k - 1) keys → CodedSo (totals o after).texts all rest codes'
coded_batch o before after pass all texts rest old keys codes codes' so_far none added put =
    let list = (totals o after).texts in
    let same : keys ≡ added.0 = added.1 ∙ ap (λ (ks : List ℕ). ks ++ added.0) none in
    let batch = batch_codes o before after pass texts added.0 added.2 in
    let kept = codes_past (totals o before).texts list so_far.done codes batch.0 so_far.are in record {
      done = so_far.done ++ texts;
      split = so_far.split ∙ sym (append_assoc so_far.done texts rest);
      are =
          subst (λ (cs : List ℕ). AreCodes list (so_far.done ++ texts) cs) (sym (put ∙ ap (λ (ks : List ℕ). codes ++ map (λ k. k - 1) ks) same))
          (map_some_both (position_of list) so_far.done texts codes (map (λ k. k - 1) added.0) kept batch.1);
    }

-- no text is left
pub coded_all : (list all rest : List Text) (codes : List ℕ) → rest ≡ [] → CodedSo list all rest codes → AreCodes list all codes
coded_all list all rest codes none so_far =
    subst (λ (ts : List Text). AreCodes list ts codes) (sym (so_far.split ∙ ap (λ (ts : List Text). so_far.done ++ ts) none ∙ append-nil so_far.done)) so_far.are

-- after a pass has learned what another has seen
pub shared_join : (of : InternerId) (before known after : List NoteView) (texts more : List Text) (codes codes' : List ℕ) → IsPrefix before after → IsPrefix known after → AreCodes (list_of of before) texts codes → AreCodes (list_of of known) more codes' → AreCodes (list_of of after) (texts ++ more) (codes ++ codes')
shared_join of before known after texts more codes codes' begins knows are are' =
    map_some_both (position_of (list_of of after)) texts more codes codes'
    (codes_past (list_of of before) (list_of of after) texts codes (texts_past of.opening before after begins) are)
    (codes_past (list_of of known) (list_of of after) more codes' (texts_past of.opening known after knows) are')

-- ---- refusals

-- a call of the pass is refused
shared_refused : (o : Totals) (before after : History) (pass : ℕ) (texts : List Text) (text : Text) (error : LassoErrorKind) → Contains texts text → IsCall {K = ℕ} spur_at o before after pass (Intern Copied text) (Interned (Err error)) → IsRefusalIn o after texts error
shared_refused o before after pass texts text error there call =
    let why = call.explained in
    inr (text, before ++ why.0, why.1, there, append_assoc before why.0 why.1 ∙ ap (λ past. before ++ past) why.2 ∙ call.begins, why.4)

-- a text of a batch is refused, or memory runs out
pub batch_refused : {A : Type 0} (o : Totals) (list : List Text) (before after : History) (pass : ℕ) (all texts rest : List Text) (codes old keys : List ℕ) (error : LassoErrorKind) → CodedSo list all (texts ++ rest) codes → A ⊎ StopsAtText spur_at o before after pass texts old keys error → (A → error ≡ FailedAllocation) → IsRefusalIn o after all error
batch_refused o list before after pass all texts rest codes old keys error so_far (inl out) want = inl (want out)
batch_refused o list before after pass all texts rest codes old keys error so_far (inr stop) want =
    let text = stop.1 in
    let here : Contains (text ∷ stop.2) text = (0, omega arith, refl) in
    let there : Contains texts text = subst (λ (ts : List Text). Contains ts text) (sym stop.4) (Contains-append_right stop.0 (text ∷ stop.2) text here) in
    let whole : Contains all text = subst (λ (ts : List Text). Contains ts text) (sym so_far.split) (Contains-append_right so_far.done (texts ++ rest) text (Contains-append_left texts rest text there)) in
    shared_refused o stop.3 after pass all text error whole stop.6

-- what explains a refusal of one of these texts explains it of one of more texts, in any history that begins
-- with theirs
pub refused_more : (o : Totals) (known after : List NoteView) (texts more : List Text) (error : LassoErrorKind) → IsPrefix known after → ((text : Text) → Contains texts text → Contains more text) → IsRefusalIn o (history known) texts error → IsRefusalIn o (history after) more error
refused_more o known after texts more error knows all (inl e) = inl e
refused_more o known after texts more error knows all (inr why) =
    let whole : why.1 ++ (why.2 ++ history knows.0) ≡ history after =
    sym (append_assoc why.1 why.2 (history knows.0)) ∙ ap (λ past. past ++ history knows.0) why.4 ∙ sym (history_append known knows.0) ∙ ap history knows.1 in
    inr (why.0, why.1, why.2 ++ history knows.0, all why.0 why.3, whole, why.5)

-- ---- the texts of the workers

-- the first n parts, followed by part n
pub parts_more : {X : Type 0} (xs : List X) (n size : ℕ) → take ((n + 1) * size) xs ≡ take (n * size) xs ++ take size (drop (n * size) xs)
parts_more xs n size = let sum : (n + 1) * size ≡ n * size + size = omega arith in ap (λ k. take k xs) sum ∙ take-add (n * size) size xs

-- the same for the borrowed texts
pub part_texts : (texts : List (Bor Text)) (part : List (Bor Text)) (n size : ℕ) → part ≡ take size (drop (n * size) texts) → take (n * size) (map (λ t. t.now) texts) ++ map (λ t. t.now) part ≡ take ((n + 1) * size) (map (λ t. t.now) texts)
part_texts texts part n size is =
    let all = map (λ (t : Bor Text). t.now) texts in
    let here : map (λ (t : Bor Text). t.now) part ≡ take size (drop (n * size) all) =
    ap (map (λ (t : Bor Text). t.now)) is ∙ sym (take-map (λ (t : Bor Text). t.now) size (drop (n * size) texts)) ∙ ap (take size) (sym (drop-map (λ (t : Bor Text). t.now) (n * size) texts)) in
    ap (λ (ts : List Text). take (n * size) all ++ ts) here ∙ sym (parts_more all n size)

-- a text of a part is one of the slice
pub part_contained : (texts : List (Bor Text)) (part : List (Bor Text)) (n size : ℕ) (text : Text) → part ≡ take size (drop (n * size) texts) → Contains (map (λ t. t.now) part) text → Contains (map (λ t. t.now) texts) text
part_contained texts part n size text is there =
    let now = λ (t : Bor Text). t.now in
    let all = map now texts in
    let reached : Contains (take ((n + 1) * size) all) text =
    subst (λ ts. Contains ts text) (part_texts texts part n size is) (Contains-append_right (take (n * size) all) (map now part) text there) in
    subst (λ ts. Contains ts text) (take-append-drop ((n + 1) * size) all) (Contains-append_left (take ((n + 1) * size) all) (drop ((n + 1) * size) all) text reached)

-- what holds of the value of an `Ok`, and of the error of an `Err`
pub ok_at : {T E : Type 0} (P : T → Type 0) (Q : E → Type 0) (r : Result T E) (x : T) → MatchResult r P Q → r ≡ Ok x → P x
ok_at P Q (Ok y) x holds is = let one : y ≡ x = cc in subst P one holds
ok_at P Q (Err e) x holds is = absurd (cc)

pub err_at : {T E : Type 0} (P : T → Type 0) (Q : E → Type 0) (r : Result T E) (e : E) → MatchResult r P Q → r ≡ Err e → Q e
err_at P Q (Ok y) e holds is = absurd (cc)
err_at P Q (Err f) e holds is = let one : f ≡ e = cc in subst Q one holds
