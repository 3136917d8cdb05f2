use Rattle.std.proofs.Common.{◌≡◌, ℕ, ◌<◌, length, get_or, drop}
use Rattle.graph.specs.Model.{model}
use Rattle.analysis.specs.Near.{near_of}
use Rattle.analysis.specs.Rule.{worth}
use Rattle.analysis.specs.Runs.{walk}
use Rattle.analysis.proofs.run.run_steps.Given as goal

-- the nodes of the steps done hold their value, and what lies past the nodes is as it was
abbrev pub invariant-loop-node : goal.invariant-loop-node
invariant-loop-node g l =
    (goal.iterator-loop-node g).can_next l.node-iterator
    × (goal.iterator-loop-node g).is_finite l.node-iterator
    × (drop (length (model l.graph).nodes) l.table ≡ drop (length (model l.graph).nodes) l.initial.table)
    × ((j : ℕ)
    → j < length l.yielded
    → get_or l.table (get_or (walk g.A.Course.Course.FORWARD (model l.graph).order) j 0) (g.A.TopoAnalysis.meaning l.analysis).blank
    ≡ worth (g.A.TopoAnalysis.meaning l.analysis) (model l.graph).nodes (near_of g.A.Course.Course.FORWARD g.A.Course.Course.SKIP_DISABLED (model l.graph)) (length (model l.graph).nodes) (get_or (walk g.A.Course.Course.FORWARD (model l.graph).order) j 0))
