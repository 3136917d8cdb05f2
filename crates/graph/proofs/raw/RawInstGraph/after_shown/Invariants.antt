use Rattle.std.proofs.Common.{◌≡◌, length}
use Rattle.graph.specs.Model.{model}
use Rattle.graph.specs.Hiding.{after_shown}
use Rattle.graph.proofs.raw.RawInstGraph.after_shown.Given as goal

-- what is left of the rest is what is left of the list
abbrev pub invariant-loop-left : goal.invariant-loop-left
invariant-loop-left l = after_shown l.left l.rest (model l.self) ≡ after_shown l.n l.numbers (model l.self)

abbrev pub decreases-loop-left : goal.decreases-loop-left
decreases-loop-left l = length l.rest
