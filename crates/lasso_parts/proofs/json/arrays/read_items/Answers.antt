use Rattle.std.proofs.Common.{◌≡◌, Err, inl, inr, length, map, ap, ◌∙◌, sym, List, []}
use Rattle.std.proofs.lemmas.List.{length-map}
use Rattle.std.proofs.lemmas.Result.{err_from_is_err_and}
use Rattle.serde_json.specs.View.{view, items_view}
use Rattle.lasso_parts.specs.Texts.{Text}
use Rattle.lasso_parts.specs.Json.{read_items, new_text, earlier}
use Rattle.lasso_parts.proofs.JsonTexts.{no_text, new_item_text, faulty_item, whole_nil}
use Rattle.lasso_parts.proofs.json.arrays.read_items.Goals as goal

pub loop-item-init : goal.loop-item-init
loop-item-init g c =
    let empty = ap (map (λ t. t.now)) c.requires.empty in record {
      whole = λ distinct. whole_nil _ (map (λ t. t.now) c.args.texts.items) c.args.index empty c.requires.none;
      read = ap (λ (seen : List Text). read_items g.K.Key.key_at c.args.distinct seen (items_view c.args.items.now)) (sym empty);
    }

pub returns-in_err-text : goal.returns-in_err-text
returns-in_err-text g c =
    let p = err_from_is_err_and c.from_residual.result c.from_residual.ensures.1 in
    let seen = map (λ t. t.now) c.loop-item.texts.items in
    let last : c.len.result ≡ length seen = c.len.ensures ∙ c.loop-item.texts.ok.0 ∙ sym (length-map c.loop-item.texts.items (λ t. t.now)) in
    let here = no_text g.K.Key.key_at c.args.distinct seen c.len.result (view c.item-item.result) c.in_err-text.field-0.0 last c.in_err-text.ensures in
    rw (p.1, p.2) (inl (faulty_item g.K.Key.key_at c.args.distinct _ seen c.args.items.now c.loop-item.item-index c.item-item.result c.in_err-text.field-0.0 c.loop-item.invariant.read c.loop-item-test.true c.item-item.is here))

pub returns-in_err-enter_text : goal.returns-in_err-enter_text
returns-in_err-enter_text g c =
    let p = err_from_is_err_and c.from_residual-in_err-enter_text.result c.from_residual-in_err-enter_text.ensures.1 in
    let seen = map (λ t. t.now) c.loop-item.texts.items in
    let last : c.len.result ≡ length seen = c.len.ensures ∙ c.loop-item.texts.ok.0 ∙ sym (length-map c.loop-item.texts.items (λ t. t.now)) in
    let items = c.loop-item.texts.items in
    let text = c.in_ok-text.text.now in
    let fault = c.in_err-enter_text.field-0.0 in
    let as_read = c.as_slice.ensures.value in
    let whole : new_text g.K.Key.key_at (length c.as_slice.result.now) text (earlier c.args.distinct (map (λ t. t.now) c.as_slice.result.now) text) ≡ Err fault → Err fault ≡ read_items g.K.Key.key_at c.args.distinct [] (items_view c.args.items.now) = λ h.
    let refused : new_text g.K.Key.key_at (length items) text (earlier c.args.distinct seen text) ≡ Err fault = rw as_read at h in
    let here = new_item_text g.K.Key.key_at c.args.distinct seen c.len.result (length items) (view c.item-item.result) text (Err fault) last (sym (length-map items (λ t. t.now))) c.in_ok-text.ensures refused in
    faulty_item g.K.Key.key_at c.args.distinct _ seen c.args.items.now c.loop-item.item-index c.item-item.result fault c.loop-item.invariant.read c.loop-item-test.true c.item-item.is here in
    rw (p.1, p.2) (elim c.in_err-enter_text.ensures.fault [ inl h ↦ inl (whole h) | inr memory ↦ inr (ap Err memory) ])
