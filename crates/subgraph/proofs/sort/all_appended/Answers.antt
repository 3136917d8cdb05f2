use Rattle.std.proofs.Common.{◌<◌, length, get_or, arith, rules, tests}
use Rattle.std.proofs.lemmas.Iterator.Adapters.{serves_from_places}
use Rattle.std.proofs.lemmas.Iterator.Consumers.{YieldsList-from_first}
use Rattle.std.proofs.lemmas.Iterator.Search.{all_from_yields_List}
use Rattle.graph.specs.Cursors.{coming}
use Rattle.graph.specs.Model.{model}
use Rattle.graph.proofs.Standings.{get_or_among}
use Rattle.walks.proofs.Exploring.{below_at}
use Rattle.walks.specs.Exploring.{sources}
use Rattle.subgraph.proofs.sort.all_appended.Goals as goal

pub all-requires-clause-callable : goal.all-requires-clause-callable
all-requires-clause-callable c =
    let m = model c.args.graph.now in
    let xs = sources m.edges c.args.node in
    let r = c.neighbors_directed.ensures in
    let below = rw r.list at r.inside in
    serves_from_places (YieldsList-from_first (λ x. x) coming xs r.list) (λ x q k. search rules)
    (λ x k h is. let low = below_at (length m.nodes) xs (get_or xs k x) below (get_or_among xs k x h) in let lower : x < length c.args.appended.now = omega (arith, c.requires) in search rules)

pub returns : goal.returns
returns c = all_from_yields_List _ c.all.new.self _ _ c.all.ensures.ran (YieldsList-from_first (λ x. x) coming _ c.neighbors_directed.ensures.list) (λ x b q k. search (rules, tests))
