use Rattle.std.proofs.Common.{ℕ, ◌≡◌, ◌++◌, ◌∷◌, List, [], length, map, take, ap, ◌∙◌, arith}
use Rattle.std.specs.Prelude.{flat_map}
use Rattle.std.proofs.lemmas.List.{take_all}
use Rattle.lasso_parts.specs.Texts.{Text}
use Rattle.lasso_codes.specs.Tables.{bounds_of, kept_line}
use Rattle.lasso_codes.proofs.TableLines.{bounds_next, kept_is_table, kept_next}
use Rattle.lasso_codes.proofs.line_table.read_back.Goals as goal

pub loop-position-preserved : goal.loop-position-preserved
loop-position-preserved c =
    let at = c.loop-position in
    let texts = c.args.rodeo.now.texts in
    let others = c.keep_line.new.others.items in
    let kept = kept_next texts c.text_at.result.now at.position at.others.items others c.text_at.ensures at.invariant.0 c.in_ok-keep_line.ensures in
    let long : c.len.result ≡ length others = omega (arith, c.len.ensures) in
    let pushed = c.in_ok-push-2.ensures.items ∙ ap (λ (k : ℕ). at.bounds.items ++ k ∷ []) long in
    (kept, bounds_next texts c.text_at.result.now at.position at.bounds.items c.push-in-loop-position.new.self.items others c.text_at.ensures at.invariant.1 kept pushed)

pub returns : goal.returns
returns c =
    let at = c.loop-position in
    let texts = c.args.rodeo.now.texts in
    let all : take at.position texts ≡ texts = take_all at.position texts (omega arith) in
    kept_is_table at.others.items at.bounds.items texts (at.invariant.0 ∙ ap (flat_map kept_line) all) (at.invariant.1 ∙ ap (λ (ts : List Text). bounds_of 0 (map kept_line ts)) all)
