-- Before the first member nothing is marked, and each text is empty. A member whose position is not marked has its
-- text set there.
use Rattle.std.proofs.Common.{◌≡◌, Bool, false, List, [], length, map, replicate, set, true, sym, ap, ◌∙◌, ◌+◌, subst, arith, string_bytes, get_or}
use Rattle.std.proofs.lemmas.Grind.{common_steps}
use Rattle.std.proofs.lemmas.List.{map-set, length-set, length-replicate}
use Rattle.serde_json.specs.View.{view, members_view}
use Rattle.serde_json.proofs.Views.{Entry}
use Rattle.lasso_parts.specs.Texts.{Text}
use Rattle.lasso_parts.specs.JsonObjects.{read_members}
use Rattle.lasso_parts.proofs.JsonMembers.{IsReading, reading_begins, reading_goes_on, made_long, map_alike}
use Rattle.lasso_parts.proofs.json.objects.read_members.Goals as goal

pub loop-text-init : goal.loop-text-init
loop-text-init g c =
    let n = c.len-count.result in
    let unmarked = made_long n _ c.args.taken.items c.resize-2.new.self.items false c.requires.none c.args.taken.ok.0 c.in_ok-resize-2.ensures.items in
    let empty = made_long n _ c.args.texts.items c.resize.new.self.items _ c.requires.empty c.args.texts.ok.0 c.in_ok-resize.ensures.items in
    let entries = c.into_iter-text-iterator.ensures.into_iter_gives.0 in record {
      marks = ap length unmarked ∙ length-replicate n false;
      positions = ap length empty ∙ length-replicate n _;
      steps = omega (arith, ap length entries, c.len-count.ensures.len);
      reading = subst (λ (es : List Entry). IsReading g.K.Key.key_at n (read_members g.K.Key.key_at n [] (replicate n []) (members_view c.args.members.now.entries)) c.resize-2.new.self.items (map (λ t. t.now) c.resize.new.self.items) 0 (members_view es)) (sym entries)
          (reading_begins g.K.Key.key_at n c.resize-2.new.self.items (map (λ t. t.now) c.resize.new.self.items) (members_view c.args.members.now.entries) unmarked (ap (map (λ t. t.now)) empty ∙ map_alike (λ t. t.now) n _));
    }

pub loop-text-preserved : goal.loop-text-preserved
loop-text-preserved g c =
    let n = c.len-count.result in
    let p = c.in_ok-position.position in
    let taken = c.loop-text.taken.items in
    let texts = c.loop-text.texts.items in
    let e : Entry = (c.in-Some.text.now, c.in-Some.member.now) in
    let left = c.next.new.self in
    let steps = c.in-Some.ensures.steps in
    let whole = read_members g.K.Key.key_at n [] (replicate n []) (members_view c.args.members.now.entries) in
    let free : get_or taken p false ≡ false = sym (subst (λ (b : Bool). b ≡ get_or taken p b) c.if-index.false c.index.ensures) in
    let reading = subst (λ (es : List Entry). IsReading g.K.Key.key_at n whole taken (map (λ t. t.now) texts) c.loop-text.at (members_view es)) steps c.loop-text.invariant.reading in
    let next = reading_goes_on g.K.Key.key_at n whole taken (map (λ t. t.now) texts) c.loop-text.at (string_bytes e.0) (view e.1) (members_view left) p c.loop-text.invariant.marks reading c.in_ok-position.ensures free in
    let named : map (λ t. t.now) (set texts p c.as_str.result) ≡ set (map (λ t. t.now) texts) p (string_bytes e.0) =
    map-set (λ t. t.now) texts p c.as_str.result ∙ ap (set (map (λ t. t.now) texts) p) c.as_str.ensures.value in record {
      marks = length-set taken p _ ∙ c.loop-text.invariant.marks;
      positions = length-set texts p _ ∙ c.loop-text.invariant.positions;
      steps = grind (arith, common_steps, ap length steps, c.loop-text.invariant.steps);
      reading = subst (λ (ts : List Text). IsReading g.K.Key.key_at n whole (set taken p true) ts (c.loop-text.at + 1) (members_view left)) (sym named) next;
    }
