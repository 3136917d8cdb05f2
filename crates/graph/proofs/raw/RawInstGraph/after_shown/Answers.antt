use Rattle.std.proofs.Common.{rules}
use Rattle.graph.proofs.Keeping.{after_one}
use Rattle.graph.proofs.raw.RawInstGraph.after_shown.Goals as goal

pub loop-left-preserved-then-is_shown : goal.loop-left-preserved-then-is_shown
loop-left-preserved-then-is_shown c = search (rules, after_one)
