use Rattle.std.proofs.Common.{rules}
use Rattle.records.specs.declared.edge.Direction.TheVariants.{Outgoing, Incoming}
use Rattle.graph.proofs.Chains.{chained_push}
use Rattle.graph.proofs.lists.EdgeLists.push.Goals as goal

pub invariant_of-self : goal.invariant_of-self
invariant_of-self c =
    let t = c.args.self.now in
    let e = c.args.edge in
    let k = c.len-number.result in record {
      sparse = search rules;
      chained_out = chained_push Outgoing t.rows.items _ t.outgoing c.link.new.self e k c.requires.source (search rules) (search rules) t.chained_out c.push.ensures.items c.len-number.ensures.value c.link.ensures.first c.link.ensures.next;
      chained_in = chained_push Incoming t.rows.items _ t.incoming c.link-2.new.self e k c.requires.target (search rules) (search rules) t.chained_in c.push.ensures.items c.len-number.ensures.value c.link-2.ensures.first c.link-2.ensures.next;
    }
