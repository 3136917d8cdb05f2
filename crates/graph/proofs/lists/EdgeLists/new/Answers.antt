use Rattle.std.proofs.Common.{rules}
use Rattle.records.specs.declared.edge.Direction.TheVariants.{Outgoing, Incoming}
use Rattle.graph.proofs.Chains.{chained_none}
use Rattle.graph.proofs.lists.EdgeLists.new.Goals as goal

pub invariant_of-result : goal.invariant_of-result
invariant_of-result c = record {
  sparse = search rules;
  chained_out = chained_none Outgoing _ _ c.new.ensures c.new-2.ensures.first;
  chained_in = chained_none Incoming _ _ c.new.ensures c.new-3.ensures.first;
}
