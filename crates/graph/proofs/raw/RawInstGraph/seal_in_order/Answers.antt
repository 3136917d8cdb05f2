use Rattle.std.proofs.Common.{◌≡◌, ◌≤◌, true, length, replicate, sym, ap, ◌∙◌, subst}
use Rattle.arrayvec.specs.ArrayVec.{with_items}
use Rattle.records.specs.declared.node.NodeState.TheVariants.{Hidden, Disabled}
use Rattle.graph.specs.declared.raw.Sealing.{Sealing}
use Rattle.graph.specs.EdgeLists.{edges_in}
use Rattle.graph.specs.Order.{Ends}
use Rattle.graph.specs.Ordered.{OrdersAll}
use Rattle.graph.specs.Tallies.{tally}
use Rattle.graph.proofs.Placing.{length_places, tally_places}
use Rattle.graph.proofs.Sealed.{ordered_all}
use Rattle.graph.proofs.Writing.{items_places}
use Rattle.graph.proofs.raw.RawInstGraph.seal_in_order.Goals as goal

pub invariant_of-self : goal.invariant_of-self
invariant_of-self c =
    let g = c.args.self.now in
    let places = c.args.places.now in
    let nodes = items_places g.nodes c.deref_mut.result.now c.put_places.new.nodes places c.deref_mut.ensures.value c.put_places.ensures in
    let many = ap length nodes ∙ length_places places g.nodes.items in
    let edges = edges_in g.edges in
    let all = ordered_all g.nodes.items (with_items g.nodes c.put_places.new.nodes).items edges c.args.order.now _ _ many c.new.ensures.order c.new.ensures.reach g.ends c.requires.order in
    record {
      few = subst (λ n. n ≤ 1024) (sym many) g.few;
      hides = g.hides ∙ sym (ap (tally Hidden) nodes ∙ tally_places places g.nodes.items Hidden);
      disables = g.disables ∙ sym (ap (tally Disabled) nodes ∙ tally_places places g.nodes.items Disabled);
      ends = subst (λ n. Ends n edges) (sym many) g.ends;
      ordered = λ s q. let is : c.new.result ≡ s = cc in subst (λ (x : Sealing). OrdersAll (with_items g.nodes c.put_places.new.nodes).items edges x.order.items x.reach.items) is all;
    }

pub returns : goal.returns
returns c =
    let g = c.args.self.now in
    let places = c.args.places.now in
    let nodes = items_places g.nodes c.deref_mut.result.now c.put_places.new.nodes places c.deref_mut.ensures.value c.put_places.ensures in
    let order = c.new.ensures.order in
    let reach = c.new.ensures.reach ∙ ap (λ n. replicate n true) c.requires.order.long in
    cc
