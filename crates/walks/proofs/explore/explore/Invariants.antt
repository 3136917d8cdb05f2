use Rattle.std.proofs.Common.{◌+◌, length}
use Rattle.graph.specs.Model.{model}
use Rattle.walks.specs.Exploring.{pending}
use Rattle.walks.proofs.Turns.{Going}
use Rattle.walks.proofs.explore.explore.Given as goal

abbrev pub invariant-loop-node : goal.invariant-loop-node
invariant-loop-node g l = Going (g.S.Search.takes (model l.graph).edges) (g.S.Search.next (model l.graph).edges) (length (model l.graph).nodes) l.initial.visited l.initial.stack l.initial.order l.visited l.stack l.order

abbrev pub decreases-loop-node : goal.decreases-loop-node
decreases-loop-node g l = length l.stack + pending (g.S.Search.next (model l.graph).edges) (length (model l.graph).nodes) l.visited
