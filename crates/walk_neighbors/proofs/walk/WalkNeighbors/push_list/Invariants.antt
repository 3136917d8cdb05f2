use Rattle.std.proofs.Common.{◌≡◌, length}
use Rattle.tables.specs.Steps.{Below}
use Rattle.graph.specs.Model.{model}
use Rattle.graph.specs.Cursors.{coming}
use Rattle.walk_neighbors.specs.PastDisabled.{push_all, sees}
use Rattle.walk_neighbors.specs.Cursors.{Fit}
use Rattle.walk_neighbors.proofs.walk.WalkNeighbors.push_list.Given as goal

abbrev pub invariant-loop-other : goal.invariant-loop-other
invariant-loop-other l =
    (push_all (coming l.other-iterator) l.self.pending ≡ push_all (sees l.initial.self.direction (model l.graph) l.node) l.initial.self.pending)
    × Below (length (model l.graph).nodes) (coming l.other-iterator)
    × Fit (model l.graph) l.self
    × (l.self.direction ≡ l.initial.self.direction)
    × (l.self.direct ≡ l.initial.self.direct)
