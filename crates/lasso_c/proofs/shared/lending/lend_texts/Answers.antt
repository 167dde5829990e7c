use Prim.Native.Nat.{suc}
use Rattle.std.proofs.Common.{◌≡◌, List, ℕ, [], ◌∷◌, ◌++◌, ◌+◌, get_or, set, take, drop, map, sym, ap, ◌∙◌, arith}
use Rattle.std.proofs.lemmas.Grind.{common_steps}
use Rattle.std.proofs.lemmas.List.{take-map, map-append, get_or-drop, drop-drop, drop-set-lt}
use Rattle.std.proofs.lemmas.Option.{get_or_from_slice_get}
use Rattle.std.proofs.Math.Seq.{take-suc-set, take-suc}
use Rattle.lasso_parts.specs.Texts.{Text}
use Rattle.lasso_c.specs.Passes.{texts_of}
use Rattle.lasso_c.specs.declared.lending.LassoText.{LassoText}
use Rattle.lasso_c.proofs.shared.lending.lend_texts.Goals as goal

pub loop-at-preserved : goal.loop-at-preserved
loop-at-preserved c =
    let at = c.loop-at.at in let old = c.loop-at.texts in let texts = texts_of c.args.member.now.list in let all = drop c.args.from texts in
    let f : LassoText → Text = λ t. t.bytes.now in
    let it : LassoText = record { bytes = c.as_bytes-bytes.result } in
    let one : at + 1 ≡ suc at = omega arith in
    let put : take (at + 1) (set old at it) ≡ take at old ++ it ∷ [] = ap (λ (n : ℕ). take n (set old at it)) one ∙ take-suc-set old at it (omega (arith, c.loop-at.auto.texts)) in
    let found : get_or all at [] ≡ f it = get_or-drop c.args.from texts at [] ∙ get_or_from_slice_get texts (c.args.from + at) c.text_at.result.now [] c.text_at.ensures ∙ sym c.as_bytes-bytes.ensures.value in
    let next : take (at + 1) all ≡ take at all ++ get_or all at [] ∷ [] = ap (λ (n : ℕ). take n all) one ∙ take-suc all at [] (grind (arith, common_steps)) in
    let rest : drop (at + 1) (set old at it) ≡ drop (at + 1) c.args.texts.now = drop-set-lt (at + 1) old at it (omega arith) ∙ sym (drop-drop 1 at old) ∙ ap (drop 1) c.loop-at.invariant.1 ∙ drop-drop 1 at c.args.texts.now in (
      take-map f (at + 1) (set old at it) ∙ ap (map f) put ∙ map-append f (take at old) (it ∷ []) ∙ ap (λ (ts : List Text). ts ++ f it ∷ []) (sym (take-map f at old) ∙ c.loop-at.invariant.0)
          ∙ ap (λ (t : Text). take at all ++ t ∷ []) (sym found) ∙ sym next,
      rest,
    )
