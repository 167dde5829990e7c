use Rattle.std.proofs.Common.{◌≡◌, map, take}
use Rattle.lasso.specs.Views.{list_of}
use Rattle.lasso_guide.specs.WordKeys.{Resolve}
use Rattle.lasso_guide.proofs.word_counts.intern_all.Given as goal

-- the keys so far stand for the words before the index, in what the pass has seen
abbrev pub invariant-loop-word : goal.invariant-loop-word
invariant-loop-word g l = record {
  of : l.pass.of ≡ l.rodeo;
  keys : Resolve g.K.Key.number (list_of l.rodeo l.pass.notes) l.keys.items (take l.word-index (map (λ w. w.now) l.words));
}
