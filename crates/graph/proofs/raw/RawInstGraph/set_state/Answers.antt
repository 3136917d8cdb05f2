use Rattle.std.proofs.Common.{◌≡◌, ◌≤◌, length, sym, ap, ◌∙◌, subst}
use Rattle.std.proofs.lemmas.List.{length-set}
use Rattle.records.specs.declared.node.NodeState.TheVariants.{Hidden, Disabled}
use Rattle.records.specs.Nodes.{is_disabled}
use Rattle.graph.specs.EdgeLists.{edges_in}
use Rattle.graph.specs.Model.{stage_of}
use Rattle.graph.specs.Order.{Ends}
use Rattle.graph.specs.Ordered.{OrdersAll}
use Rattle.graph.specs.Tallies.{tally}
use Rattle.graph.proofs.Counting.{tally_at, tally_put}
use Rattle.graph.proofs.Writing.{items_set, ordered_put}
use Rattle.graph.proofs.raw.RawInstGraph.set_state.Goals as goal

pub set_state-requires : goal.set_state-requires
set_state-requires c =
    let g = c.args.self.now in
    let same = c.deref_mut.ensures.value in record {
      hidden = tally_at Hidden g.nodes.items _ c.args.at _ same c.requires.there g.few g.hides;
      disabled = tally_at Disabled g.nodes.items _ c.args.at _ same c.requires.there g.few g.disables;
    }

pub invariant_of-self : goal.invariant_of-self
invariant_of-self c =
    let g = c.args.self.now in
    let ns = g.nodes.items in
    let at = c.args.at in
    let x = c.set_state.new.node in
    let same = c.deref_mut.ensures.value in
    let after = sym (items_set g.nodes c.deref_mut.result.now at x same) in
    let many = sym (length-set ns at x) ∙ ap length after in record {
      few = subst (λ n. n ≤ 1024) many g.few;
      hides = subst (λ xs. c.set_state.new.self.hidden ≡ tally Hidden xs) after (tally_put Hidden ns _ at x _ _ same c.requires.there g.hides c.set_state.ensures.hidden);
      disables = subst (λ xs. c.set_state.new.self.disabled ≡ tally Disabled xs) after (tally_put Disabled ns _ at x _ _ same c.requires.there g.disables c.set_state.ensures.disabled);
      ends = subst (λ n. Ends n (edges_in g.edges)) many g.ends;
      ordered = λ s q. subst (λ xs. OrdersAll xs (edges_in g.edges) s.order.items s.reach.items) after (ordered_put ns (edges_in g.edges) s.order.items s.reach.items at x c.requires.there (c.requires.keeps (ap stage_of q) ∙ sym (ap is_disabled c.set_state.ensures.node)) (g.ordered s q));
    }
