use Rattle.graph.specs.Model.{model}
use Rattle.subgraph.proofs.Alone.{Added}
use Rattle.subgraph.proofs.places.Subgraphs.add_singletons.Given as goal

abbrev pub invariant-loop-node : goal.invariant-loop-node
invariant-loop-node l = Added (model l.graph).edges l.node l.initial.self l.self
