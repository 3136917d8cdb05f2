use Rattle.std.proofs.Common.{◌≡◌, true, false, [], length, replicate, sym, ap, ◌∙◌, subst, add-one, arith}
use Rattle.graph.specs.Model.{model}
use Rattle.subgraph.specs.declared.places.Subgraphs.{Subgraphs}
use Rattle.subgraph.specs.Partitions.{Partition, parted}
use Rattle.subgraph.specs.Subgraphs.{in_order}
use Rattle.subgraph.proofs.Partitioning.{Filling, Root, root_at, filling_joined, filling_passed}
use Rattle.subgraph.proofs.partition.partition.Goals as goal
use Rattle.subgraph.proofs.partition.partition.Goals.{After-begins_subgraph, then-begins_subgraph, else-begins_subgraph}

root : (c : After-begins_subgraph) → c.begins_subgraph.result ≡ true → Root c.args.graph.now c.loop-node.node c.loop-node.found c.loop-node.appended c.loop-node.subgraphs
root c is =
    let count = ap length c.nodes.ensures in
    root_at c.args.graph.now _ c.requires.table c.requires.unfound c.loop-node.node (omega arith) _ _ c.loop-node.subgraphs c.loop-node.invariant (sym c.begins_subgraph.ensures ∙ is)

pub order_from-order-requires-clause-shut : goal.order_from-order-requires-clause-shut
order_from-order-requires-clause-shut c = (root (goal.at.order_from-order-requires-clause-shut c).After-begins_subgraph c.if-begins_subgraph.true).shut

pub order_from-order-requires-clause-within : goal.order_from-order-requires-clause-within
order_from-order-requires-clause-within c = (root (goal.at.order_from-order-requires-clause-within c).After-begins_subgraph c.if-begins_subgraph.true).within

pub add-requires : goal.add-requires
add-requires c =
    let r = root (goal.at.add-requires c).After-begins_subgraph c.if-begins_subgraph.true in
    rw c.order_from-order.ensures.is (record { nodes = r.below; room = r.room; count = r.count })

pub loop-node-preserved : goal.loop-node-preserved
loop-node-preserved c =
    let g = c.args.graph.now in
    let es = (model g).edges in
    let N = length (model g).nodes in
    let start : Partition = record { found = c.args.found.now; appended = replicate 1024 false; orders = [] } in
    let n = c.loop-node.node in
    let p = parted es N n start in
    let j = c.if-begins_subgraph in
    subst (λ k. Filling (parted es N k start) j.found j.appended j.subgraphs) (sym (add-one n))
    (elim j.branch [
      | then-begins_subgraph w ↦
          filling_joined es N n p c.loop-node.found c.loop-node.appended c.loop-node.subgraphs c.loop-node.invariant w.order_from-order.result j.found j.appended j.subgraphs
          (w.found-is ∙ w.order_from-order.ensures.marks) (w.appended-is ∙ w.order_from-order.ensures.appended) w.order_from-order.ensures.is
          (ap in_order w.subgraphs-is ∙ w.add.ensures.order) (ap (λ (s : Subgraphs). s.places) w.subgraphs-is ∙ w.add.ensures.places) (ap (λ (s : Subgraphs). s.count) w.subgraphs-is ∙ w.add.ensures.count)
          (sym w.if-begins_subgraph.ensures)
      | else-begins_subgraph w ↦
          rw (w.found-is, w.appended-is, w.subgraphs-is) (filling_passed es N n p c.loop-node.found c.loop-node.appended c.loop-node.subgraphs c.loop-node.invariant (sym w.if-begins_subgraph.ensures))
    ])

pub returns : goal.returns
returns c =
    let g = c.args.graph.now in
    let N = length (model g).nodes in
    let start : Partition = record { found = c.args.found.now; appended = replicate 1024 false; orders = [] } in
    let count = ap length c.nodes.ensures in
    let all : c.loop-node.node ≡ N = omega arith in
    (subst (λ k. Filling (parted (model g).edges N k start) c.loop-node.found c.loop-node.appended c.loop-node.subgraphs) all c.loop-node.invariant).filled
