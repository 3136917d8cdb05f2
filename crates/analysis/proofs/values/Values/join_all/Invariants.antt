use Rattle.std.proofs.Common.{◌≡◌, get_or, fold}
use Rattle.graph.specs.Model.{model}
use Rattle.analysis.specs.Rule.{joining}
use Rattle.analysis.proofs.values.Values.join_all.Given as goal

-- the value is what the neighbours so far give
abbrev pub invariant-loop-other : goal.invariant-loop-other
invariant-loop-other g l =
    (goal.iterator-loop-other g).can_next l.other-iterator
    × (goal.iterator-loop-other g).is_finite l.other-iterator
    × (l.value ≡ fold (joining (g.A.TopoAnalysis.meaning l.fn.self.analysis.now) (model l.fn.self.graph.now).nodes (λ k. get_or l.fn.self.table.now k (g.A.TopoAnalysis.meaning l.fn.self.analysis.now).blank) l.at) l.initial.value l.yielded)
