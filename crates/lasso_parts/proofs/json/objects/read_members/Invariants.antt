use Rattle.std.proofs.Common.{◌≡◌, ◌+◌, [], length, map, replicate}
use Rattle.serde_json.specs.View.{members_view}
use Rattle.lasso_parts.specs.JsonObjects.{read_members}
use Rattle.lasso_parts.proofs.JsonMembers.{IsReading}
use Rattle.lasso_parts.proofs.json.objects.read_members.Given as goal

abbrev pub invariant-loop-text : goal.invariant-loop-text
invariant-loop-text g l = record {
  marks : length l.taken.items ≡ l.count;
  positions : length l.texts.items ≡ l.count;
  steps : l.at + length l.text-iterator ≡ l.count;
  reading : IsReading g.K.Key.key_at l.count (read_members g.K.Key.key_at l.count [] (replicate l.count []) (members_view l.members.entries)) l.taken.items (map (λ t. t.now) l.texts.items) l.at (members_view l.text-iterator);
}
