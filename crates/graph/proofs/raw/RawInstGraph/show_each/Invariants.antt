use Rattle.std.proofs.Common.{◌≡◌}
use Rattle.graph.specs.Hiding.{change, show_in_turn}
use Rattle.graph.specs.Model.{model}
use Rattle.graph.proofs.raw.RawInstGraph.show_each.Given as goal

abbrev pub invariant-loop-number : goal.invariant-loop-number
invariant-loop-number g l = (goal.iterator-loop-number g).can_next l.number-iterator
    × (goal.iterator-loop-number g).is_finite l.number-iterator
    × (change l.changed (model l.self) ≡ show_in_turn l.to l.yielded (model l.initial.self))
