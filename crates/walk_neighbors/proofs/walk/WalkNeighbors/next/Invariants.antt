use Rattle.std.proofs.Common.{◌≡◌}
use Rattle.graph.specs.Model.{model}
use Rattle.walk_neighbors.specs.Cursors.{Fit, to_come, left}
use Rattle.walk_neighbors.proofs.walk.WalkNeighbors.next.Given as goal

abbrev pub invariant-loop-node : goal.invariant-loop-node
invariant-loop-node l =
    Fit (model l.graph) l.self
    × (to_come (model l.graph) l.initial.self ≡ to_come (model l.graph) l.self)

abbrev pub decreases-loop-node : goal.decreases-loop-node
decreases-loop-node l = left (model l.graph) l.self
