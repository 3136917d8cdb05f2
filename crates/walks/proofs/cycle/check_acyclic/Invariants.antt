use Rattle.std.proofs.Common.{◌≡◌, length, Ok}
use Rattle.graph.specs.Model.{model}
use Rattle.walks.specs.Cycles.{checked}
use Rattle.walks.proofs.cycle.check_acyclic.Given as goal

abbrev pub invariant-loop-node : goal.invariant-loop-node
invariant-loop-node l = (l.work ≡ l.initial.work) × (checked (model l.graph).edges (length (model l.graph).nodes) l.node ≡ Ok tt)
