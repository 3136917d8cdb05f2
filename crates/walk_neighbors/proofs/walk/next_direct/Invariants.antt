use Rattle.std.proofs.Common.{◌≡◌, length, filter}
use Rattle.graph.specs.Model.{model}
use Rattle.graph.specs.Cursors.{coming_in}
use Rattle.walk_neighbors.specs.PastDisabled.{may_reach}
use Rattle.walk_neighbors.proofs.walk.next_direct.Given as goal

abbrev pub invariant-loop-other : goal.invariant-loop-other
invariant-loop-other l =
    filter (may_reach (model l.graph)) (coming_in (model l.graph).edges l.initial.direct) ≡ filter (may_reach (model l.graph)) (coming_in (model l.graph).edges l.direct)

abbrev pub decreases-loop-other : goal.decreases-loop-other
decreases-loop-other l = length (coming_in (model l.graph).edges l.direct)
