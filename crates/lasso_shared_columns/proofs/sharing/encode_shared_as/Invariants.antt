use Rattle.std.proofs.Common.{◌*◌, [], map, take}
use Rattle.lasso_log.specs.History.{IsLegal}
use Rattle.lasso_log.specs.Notes.{Since}
use Rattle.lasso_log.specs.Views.{list_of, seen, IsSamePass}
use Rattle.lasso_single.specs.Codes.{AreCodes}
use Rattle.lasso_single.specs.Coding.{spur_at}
use Rattle.lasso_shared_columns.proofs.sharing.encode_shared_as.Given as goal

-- the texts of the earlier parts have their codes in the list that the pass has seen
abbrev pub invariant-loop-part : goal.invariant-loop-part
invariant-loop-part g l = record {
  same : IsSamePass l.pass l.fn.pass;
  codes : AreCodes (list_of l.rodeo l.pass.notes) (take (l.part * l.size) (map (λ t. t.now) l.texts)) l.added.items;
  since : Since l.fn.pass.number l.fn.pass.notes l.pass.notes [];
  legal : IsLegal spur_at l.rodeo.opening (seen l.pass);
}
