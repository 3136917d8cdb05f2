use Rattle.std.proofs.Common.{◌∷◌, length, get_or, None, sym, ap, ◌∙◌, arith}
use Rattle.records.specs.Edges.{far, no_edge}
use Rattle.graph.specs.Cursors.{seen}
use Rattle.graph.specs.EdgeLists.{edges_in}
use Rattle.graph.proofs.Following.{seen_next}
use Rattle.graph.proofs.neighbors.Walker.next.Goals as goal

pub returns-clause-steps : goal.returns-clause-steps
returns-clause-steps c =
    let rows = edges_in c.args.graph.now.edges in
    let d = c.args.self.now.direction in
    let e = c.in_ok-edge.edge in
    let long = ap length c.edges.ensures in
    let link = get_or c.links.result.now.next e None in
    ap (seen d rows) c.in_ok-edge.was
    ∙ seen_next d rows e link (omega arith) (c.links.ensures.1 e (omega arith))
    ∙ ap (λ x. x ∷ seen d rows link) (sym (c.far.ensures ∙ ap (λ es. far d (get_or es e no_edge)) c.edges-2.ensures))
