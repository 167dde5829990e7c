-- Texts that lie one after another are cut out again.
--
-- A text is cut out at its offsets whatever bytes are in front of it. So the proof goes from text to text, and each
-- text joins the bytes in front of the next.
use Rattle.std.proofs.Common.{ℕ, ◌≡◌, ◌+◌, ◌-◌, List, [], ◌∷◌, ◌++◌, length, take, drop, refl, ap, sym, ◌∙◌, arith, length-append, append_assoc}
use Rattle.std.specs.List.{slice_range, concat}
use Rattle.std.proofs.lemmas.List.{drop_at, take_at}
use Rattle.lasso_parts.specs.Layout.{texts_from, layout_texts, offsets_from}
use Rattle.lasso_parts.specs.Texts.{Text}

-- the first text, up to the next offset
cut_first : (bytes : List ℕ) (from end : ℕ) (texts : List Text) → texts_from bytes from (offsets_from end texts) ≡ slice_range bytes from end ∷ layout_texts bytes (offsets_from end texts)
cut_first bytes from end [] = refl
cut_first bytes from end (text ∷ texts) = refl

pub slice_here : (front text back : List ℕ) (at : ℕ) → at ≡ length front → slice_range (front ++ (text ++ back)) at (at + length text) ≡ text
slice_here front text back at e =
    let n : (at + length text) - at ≡ length text = omega arith in
    ap (λ k. take k (drop at (front ++ (text ++ back)))) n ∙ ap (λ xs. take (length text) xs) (drop_at front (text ++ back) at (sym e)) ∙ take_at text back (length text) refl

pub behind : (front text : List ℕ) (at : ℕ) → at ≡ length front → at + length text ≡ length (front ++ text)
behind front text at e = omega (arith, length-append front text)

-- texts are cut out again at their offsets
pub texts_back : (front : List ℕ) (texts : List Text) (at : ℕ) → at ≡ length front → layout_texts (front ++ concat texts) (offsets_from at texts) ≡ texts
texts_back front [] at e = refl
texts_back front (text ∷ texts) at e =
    let end = at + length text in
    let others : layout_texts (front ++ (text ++ concat texts)) (offsets_from end texts) ≡ texts = ap (λ bytes. layout_texts bytes (offsets_from end texts)) (sym (append_assoc front text (concat texts))) ∙ texts_back (front ++ text) texts end (behind front text at e) in
    cut_first (front ++ (text ++ concat texts)) at end texts ∙ ap (λ (t : Text). t ∷ layout_texts (front ++ (text ++ concat texts)) (offsets_from end texts)) (slice_here front text (concat texts) at e) ∙ ap (λ ts. text ∷ ts) others
