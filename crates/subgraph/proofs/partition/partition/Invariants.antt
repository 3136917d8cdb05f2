use Rattle.std.proofs.Common.{false, [], length, replicate}
use Rattle.graph.specs.Model.{model}
use Rattle.subgraph.specs.Partitions.{parted}
use Rattle.subgraph.proofs.Partitioning.{Filling}
use Rattle.subgraph.proofs.partition.partition.Given as goal

abbrev pub invariant-loop-node : goal.invariant-loop-node
invariant-loop-node l = Filling (parted (model l.graph).edges (length (model l.graph).nodes) l.node (record { found = l.initial.found; appended = replicate 1024 false; orders = [] })) l.found l.appended l.subgraphs
