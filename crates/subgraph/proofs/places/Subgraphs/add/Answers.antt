use Rattle.std.proofs.Common.{get_or, subst}
use Rattle.records.specs.Walks.{Among}
use Rattle.graph.proofs.Standings.{among_reversed, get_or_among}
use Rattle.walks.proofs.Exploring.{below_at}
use Rattle.subgraph.proofs.places.Subgraphs.add.Goals as goal

pub bounds-self-node : goal.bounds-self-node
bounds-self-node c =
    let items = c.as_slice-node-items.result.now in
    let node = get_or items c.loop-position.position 0 in
    below_at 1024 c.args.order.now node c.requires.nodes
    (among_reversed node c.args.order.now (subst (Among node) c.as_slice-node-items.ensures.value (get_or_among items c.loop-position.position 0 c.loop-position-test.true)))
