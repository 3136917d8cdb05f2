use Rattle.std.proofs.Common.{rules}
use Rattle.graph.proofs.Counting.{tally_none}
use Rattle.graph.proofs.raw.RawInstGraph.new.Goals as goal

pub invariant_of-result-clause-hides : goal.invariant_of-result-clause-hides
invariant_of-result-clause-hides c = search (rules, tally_none)

pub invariant_of-result-clause-disables : goal.invariant_of-result-clause-disables
invariant_of-result-clause-disables c = search (rules, tally_none)
