use Rattle.std.proofs.Common.{length, reverse, take, ap, arith}
use Rattle.std.proofs.lemmas.List.{length-reverse, length-take}
use Rattle.graph.specs.Model.{model}
use Rattle.subgraph.proofs.Components.{length_starts}
use Rattle.subgraph.proofs.order.start_nodes.Goals as goal

pub push-requires : goal.push-requires
push-requires c =
    let front = take c.loop-node.node-index c.as_slice-node-items.result.now in
    let few = length_starts (model c.args.graph.now).edges (reverse front) in
    let chosen = ap length c.loop-node.invariant in
    let all = ap length c.as_slice-node-items.ensures.value in
    let turned = length-reverse c.args.found.now in
    let size = length-reverse front in
    let short = length-take c.loop-node.node-index c.as_slice-node-items.result.now in
    omega (arith, c.as_slice-node-items.ensures.few, c.loop-node-test.true)
