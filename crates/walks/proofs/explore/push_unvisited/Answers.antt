use Rattle.std.proofs.Common.{◌≡◌, rules}
use Rattle.records.specs.Edges.{history, neighbours}
use Rattle.graph.specs.Model.{model}
use Rattle.walks.specs.Exploring.{is_unvisited, piled}
use Rattle.walks.proofs.Exploring.{below_stacked, below_at}
use Rattle.walks.proofs.explore.push_unvisited.Goals as goal

pub returns-clause-below : goal.returns-clause-below
returns-clause-below c below =
    let m = model c.args.graph.now in
    let v = c.args.visited.now in
    let xs = neighbours c.args.direction (history m.edges) c.args.node in
    let r = c.neighbors_directed-other-items.ensures in
    let pushed : c.loop-other.stack ≡ piled xs v c.args.stack.now = search rules in
    rw pushed (below_stacked (is_unvisited v) _ xs _ (λ y a. below_at _ xs y (rw r.list at r.inside) a) below)
