use Rattle.std.proofs.Common.{arith}
use Rattle.graph.proofs.Counting.{tally_all}
use Rattle.graph.proofs.raw.RawInstGraph.visible_nodes.Goals as goal

pub overflow_sub-result : goal.overflow_sub-result
overflow_sub-result c = omega (arith, tally_all c.args.self.now.nodes.items)

pub overflow_sub-result-2 : goal.overflow_sub-result-2
overflow_sub-result-2 c = omega (arith, tally_all c.args.self.now.nodes.items)

pub returns : goal.returns
returns c = omega (arith, tally_all c.args.self.now.nodes.items)
