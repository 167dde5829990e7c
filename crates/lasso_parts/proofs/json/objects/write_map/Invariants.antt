use Rattle.std.proofs.Common.{◌≡◌, take}
use Rattle.serde_json.specs.Data.{no_members}
use Rattle.serde_json.specs.View.{members_view}
use Rattle.lasso_parts.specs.JsonObjects.{put_texts}
use Rattle.lasso_parts.proofs.json.objects.write_map.Given as goal

abbrev pub invariant-loop-position : goal.invariant-loop-position
invariant-loop-position g l = members_view l.members.entries ≡ put_texts 0 (take l.position (g.T.Texts.list l.texts)) no_members
