use Rattle.std.proofs.Common.{rules}
use Rattle.graph.proofs.Counting.{tally_push, tally_le}
use Rattle.graph.proofs.raw.RawInstGraph.add_node.Goals as goal

pub overflow_add-self : goal.overflow_add-self
overflow_add-self c = search (rules, tally_le)

pub invariant_of-self-clause-hides : goal.invariant_of-self-clause-hides
invariant_of-self-clause-hides c = search (rules, tally_push)

pub invariant_of-self-clause-disables : goal.invariant_of-self-clause-disables
invariant_of-self-clause-disables c = search (rules, tally_push)
