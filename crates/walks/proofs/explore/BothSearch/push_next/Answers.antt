use Rattle.std.proofs.Common.{length, ◌∙◌, sym, ap, arith}
use Rattle.std.proofs.lemmas.List.{length-append}
use Rattle.graph.specs.Model.{model}
use Rattle.walks.specs.Exploring.{targets, sources, is_unvisited, piled}
use Rattle.walks.proofs.Exploring.{stacked_append, length_piled}
use Rattle.walks.proofs.explore.BothSearch.push_next.Goals as goal

pub push_unvisited-requires-clause-room : goal.push_unvisited-requires-clause-room
push_unvisited-requires-clause-room c =
    let es = (model c.args.graph.now).edges in
    let n = c.args.node in
    let all = length-append (targets es n) (sources es n) in
    let some = length_piled (targets es n) c.args.visited.now c.args.stack.now in
    let is = ap length c.push_next.ensures in
    omega (arith, c.requires.room)

pub returns : goal.returns
returns c =
    let es = (model c.args.graph.now).edges in
    let n = c.args.node in
    let visited = c.args.visited.now in
    c.push_unvisited.ensures.pushed
    ∙ ap (piled (sources es n) visited) c.push_next.ensures
    ∙ sym (stacked_append (is_unvisited visited) (targets es n) (sources es n) c.args.stack.now)
