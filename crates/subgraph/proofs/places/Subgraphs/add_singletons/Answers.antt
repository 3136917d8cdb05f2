use Rattle.std.proofs.Common.{◌≡◌, ◌<◌, true, length, sym, ap, ◌∙◌, arith}
use Rattle.graph.specs.Model.{model}
use Rattle.subgraph.specs.declared.places.Subgraphs.{Subgraphs}
use Rattle.subgraph.specs.Subgraphs.{in_order, in_parts}
use Rattle.subgraph.proofs.Alone.{added_kept, added_taken, added_room}
use Rattle.subgraph.proofs.places.Subgraphs.add_singletons.Goals as goal
use Rattle.subgraph.proofs.places.Subgraphs.add_singletons.Goals.{After-is_singleton, then-is_singleton, else-is_singleton}

room : (c : After-is_singleton) → c.is_singleton.result ≡ true → length (in_order c.loop-node.self) < 1024
room c is =
    let m = model c.args.graph.now in
    let count = ap length c.nodes.ensures in
    added_room m.edges c.loop-node.node c.loop-node.self c.loop-node.invariant (length m.nodes) (omega arith) (sym c.is_singleton.ensures ∙ is) c.requires

pub push-requires : goal.push-requires
push-requires c = (omega arith, room (goal.at.push-requires c).After-is_singleton c.if-is_singleton.true)

pub invariant_of-self-then-is_singleton : goal.invariant_of-self-then-is_singleton
invariant_of-self-then-is_singleton c =
    let fits = room (goal.at.invariant_of-self-then-is_singleton c).After-is_singleton c.if-is_singleton.true in
    let more = c.push.ensures.len in
    let first = c.loop-node.self.parts_first in
    let few = c.loop-node.self.count_fits in
    record { order_fits = omega arith; count_fits = omega arith; parts_first = omega arith }

pub loop-node-preserved : goal.loop-node-preserved
loop-node-preserved c =
    let es = (model c.args.graph.now).edges in
    let n = c.loop-node.node in
    elim c.if-is_singleton.branch [
      | then-is_singleton w ↦
          let is = w.self-is in
          added_taken es n c.loop-node.self c.loop-node.invariant c.if-is_singleton.self (sym w.if-is_singleton.ensures)
          (ap in_order is ∙ w.push.ensures.items) (ap in_parts is) (ap (λ (s : Subgraphs). s.count) is) (ap (λ (s : Subgraphs). s.places) is)
      | else-is_singleton w ↦ added_kept es n c.loop-node.self c.loop-node.invariant c.if-is_singleton.self w.self-is (sym w.if-is_singleton.ensures)
    ]
