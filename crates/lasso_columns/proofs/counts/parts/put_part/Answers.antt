use Rattle.std.proofs.Common.{ℕ, ◌≡◌, ◌+◌, ◌-◌, ◌<◌, List, [], Bor, IfSome, map, length, get_or, sym, ap, subst, arith, ◌∙◌, length-append, vec_len}
use Rattle.std.specs.Prelude.{IsSomeAnd, slice_get}
use Rattle.lasso_parts.specs.Texts.{Text}
use Rattle.lasso_single.specs.Codes.{AreCodes}
use Rattle.lasso_single.specs.Coding.{IsRefused}
use Rattle.lasso_columns.specs.Adding.{AddsAmounts, counted_of}
use Rattle.lasso_columns.specs.Counts.{AreCounts}
use Rattle.lasso_columns.proofs.Added.{adds_join, adds_part, places_inside, put_padded}
use Rattle.lasso_columns.proofs.Rest.{counts_on, merged_grown, part_extends}
use Rattle.lasso_columns.proofs.counts.parts.put_part.Goals as goal

pub pad-requires : goal.pad-requires
pad-requires g c =
    let old = c.args.rodeo.now in
    let now = c.merge-merged.new.into in
    let list = c.in-Some.part.list in
    let grown = merged_grown old now list c.merge-merged.result (λ error n. IsSomeAnd (slice_get list n) (λ text. IsRefused now text error)) c.merge-merged.ensures.list c.merge-merged.ensures.refused in
    let long : length now.texts ≡ length old.texts + length grown.0 = ap (λ (ts : List Text). length ts) grown.1 ∙ length-append old.texts grown.0 in
    record { room = omega (arith, long, grown.2, c.len-2.ensures.value, c.len.ensures.value, c.in-Ok.ensures.ok, c.in-Ok.ensures.len, c.requires.lengths) }

pub add_counts-requires-clause-inside : goal.add_counts-requires-clause-inside
add_counts-requires-clause-inside g c =
    let old = c.args.rodeo.now in
    let now = c.merge-merged.new.into in
    let list = c.in-Some.part.list in
    let counts = c.args.counts.now in
    let lengths = sym counts.ok.0 ∙ c.requires.lengths in
    let grown = merged_grown old now list c.merge-merged.result (λ error n. IsSomeAnd (slice_get list n) (λ text. IsRefused now text error)) c.merge-merged.ensures.list c.merge-merged.ensures.refused in
    let many : c.len-2.result - vec_len c.reserve.new.self ≡ length now.texts - length counts.items = omega (arith, c.len-2.ensures.value, c.in-Ok.ensures.len, counts.ok.0) in
    let pads = put_padded old now list counts.items c.reserve.new.self.items c.pad.new.counts.items (c.len-2.result - vec_len c.reserve.new.self) lengths grown c.in-Ok.ensures.items many c.pad.ensures.items in
    let long = c.pad.new.counts.ok.0 ∙ pads.lengths in
    let places = places_inside now.texts list c.in-Ok-merged.places.items c.in-Ok-merged.ensures.codes in
    subst (λ (ps : List ℕ). (k d : ℕ) → k < length ps → get_or ps k d < vec_len c.pad.new.counts) (sym c.deref.ensures.value) (λ k d small. let below = places k d small in omega (arith, below, long))

pub count_texts-requires-in-Err-clause-lengths : goal.count_texts-requires-in-Err-clause-lengths
count_texts-requires-in-Err-clause-lengths g c =
    let old = c.args.rodeo.now in
    let now = c.merge-merged.new.into in
    let list = c.in-Some.part.list in
    let counts = c.args.counts.now in
    let lengths = sym counts.ok.0 ∙ c.requires.lengths in
    let grown = merged_grown old now list c.merge-merged.result (λ error n. IsSomeAnd (slice_get list n) (λ text. IsRefused now text error)) c.merge-merged.ensures.list c.merge-merged.ensures.refused in
    let many : c.len-2.result - vec_len c.reserve.new.self ≡ length now.texts - length counts.items = omega (arith, c.len-2.ensures.value, c.in-Ok.ensures.len, counts.ok.0) in
    let pads = put_padded old now list counts.items c.reserve.new.self.items c.pad.new.counts.items (c.len-2.result - vec_len c.reserve.new.self) lengths grown c.in-Ok.ensures.items many c.pad.ensures.items in
    c.pad.new.counts.ok.0 ∙ pads.lengths

pub returns-in-Ok-merged-clause-list : goal.returns-in-Ok-merged-clause-list
returns-in-Ok-merged-clause-list g c =
    let all = map (λ (t : Bor Text). t.now) c.args.texts.now in
    let part = c.in-Some.part in
    let counted = subst (λ r. IfSome r (λ counted. AreCounts all counted.list counted.counts.items)) c.in-Some.is c.requires.counted in
    part_extends c.args.rodeo.now c.merge-merged.new.into all part.list counted.list_is c.in-Ok-merged.ensures.list

pub returns-in-Ok-merged-clause-counts : goal.returns-in-Ok-merged-clause-counts
returns-in-Ok-merged-clause-counts g c =
    let all = map (λ (t : Bor Text). t.now) c.args.texts.now in
    let part = c.in-Some.part in
    let old = c.args.rodeo.now in
    let now = c.merge-merged.new.into in
    let list = part.list in
    let counts = c.args.counts.now in
    let padded = c.pad.new.counts.items in
    let new = c.add_counts.new.counts.items in
    let counted = subst (λ r. IfSome r (λ counted. AreCounts all counted.list counted.counts.items)) c.in-Some.is c.requires.counted in
    let lengths = sym counts.ok.0 ∙ c.requires.lengths in
    let grown = merged_grown old now list c.merge-merged.result (λ error n. IsSomeAnd (slice_get list n) (λ text. IsRefused now text error)) c.merge-merged.ensures.list c.merge-merged.ensures.refused in
    let many : c.len-2.result - vec_len c.reserve.new.self ≡ length now.texts - length counts.items = omega (arith, c.len-2.ensures.value, c.in-Ok.ensures.len, counts.ok.0) in
    let pads = put_padded old now list counts.items c.reserve.new.self.items padded (c.len-2.result - vec_len c.reserve.new.self) lengths grown c.in-Ok.ensures.items many c.pad.ensures.items in
    let codes = subst (λ ps. AreCodes now.texts list ps) (sym c.deref.ensures.value) c.in-Ok-merged.ensures.codes in
    let adds = subst (λ cs. AddsAmounts now.texts list cs padded new) c.deref-in-Ok-merged.ensures.value (c.add_counts.ensures.added now.texts list pads.lengths c.len.ensures.distinct codes) in
    adds_join [] all old.texts now.texts now.texts counts.items padded new pads (adds_part all list now.texts part.counts.items padded new pads.lengths counted adds)

pub returns-in-Err-clause-list : goal.returns-in-Err-clause-list
returns-in-Err-clause-list g c =
    let all = map (λ (t : Bor Text). t.now) c.args.texts.now in
    let part = c.in-Some.part in
    let counted = subst (λ r. IfSome r (λ counted. AreCounts all counted.list counted.counts.items)) c.in-Some.is c.requires.counted in
    let stops = c.in-Err.ensures.refused in
    let again = c.count_texts-in-Err in
    counts_on c.args.rodeo.now c.merge-merged.new.into again.new.rodeo all part.list stops.0 again.result again.new.counts counted.list_is stops.1 again.ensures.list again.ensures.memory

pub returns-in-Err-clause-counts : goal.returns-in-Err-clause-counts
returns-in-Err-clause-counts g c =
    let all = map (λ (t : Bor Text). t.now) c.args.texts.now in
    let old = c.args.rodeo.now in
    let now = c.merge-merged.new.into in
    let list = c.in-Some.part.list in
    let counts = c.args.counts.now in
    let padded = c.pad.new.counts.items in
    let new = c.count_texts-in-Err.new in
    let lengths = sym counts.ok.0 ∙ c.requires.lengths in
    let grown = merged_grown old now list c.merge-merged.result (λ error n. IsSomeAnd (slice_get list n) (λ text. IsRefused now text error)) c.merge-merged.ensures.list c.merge-merged.ensures.refused in
    let many : c.len-2.result - vec_len c.reserve.new.self ≡ length now.texts - length counts.items = omega (arith, c.len-2.ensures.value, c.in-Ok.ensures.len, counts.ok.0) in
    let pads = put_padded old now list counts.items c.reserve.new.self.items padded (c.len-2.result - vec_len c.reserve.new.self) lengths grown c.in-Ok.ensures.items many c.pad.ensures.items in
    adds_join [] (counted_of c.count_texts-in-Err.result all) old.texts now.texts new.rodeo.texts counts.items padded new.counts.items pads c.count_texts-in-Err.ensures.counts
