use Rattle.std.proofs.Common.{◌≡◌, reverse, take}
use Rattle.graph.specs.Model.{model}
use Rattle.subgraph.specs.Orders.{starts}
use Rattle.subgraph.proofs.order.start_nodes.Given as goal

abbrev pub invariant-loop-node : goal.invariant-loop-node
invariant-loop-node l = l.chosen ≡ starts (model l.graph).edges (reverse (take l.node-index l.node-items))
