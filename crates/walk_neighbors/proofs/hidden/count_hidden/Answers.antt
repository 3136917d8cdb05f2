use Rattle.std.proofs.Common.{◌≡◌, ◌<◌, length, sym, refl, ap, ◌∙◌, subst, rules}
use Rattle.std.proofs.lemmas.Iterator.Adapters.{serves_from_places}
use Rattle.std.proofs.lemmas.Iterator.Consumers.{YieldsList-from_first}
use Rattle.tables.specs.Steps.{Below}
use Rattle.graph.specs.Model.{model}
use Rattle.walk_neighbors.specs.Bound.{still_to_come}
use Rattle.walk_neighbors.proofs.Each.{each_at}
use Rattle.walk_neighbors.proofs.hidden.count_hidden.Goals as goal

pub count-requires-clause-can : goal.count-requires-clause-can
count-requires-clause-can c =
    let N = length (model c.args.graph.now).nodes in
    let w = c.filter.result.iter in
    let below : Below N (still_to_come w) = subst (λ w. Below N (still_to_come w)) (sym c.filter.ensures.source) c.neighbors_directed.ensures.inside in
    let size : length c.filter.result.p.0.now ≡ N = ap (λ p. length p.0.now) c.filter.ensures.closure ∙ ap length c.nodes-nodes.ensures in (
      tt,
      tt,
      serves_from_places (YieldsList-from_first (λ k. k) still_to_come (still_to_come w) refl)
          (λ x q k. search rules)
          (λ x k low is. let inside : x < N = subst (λ y. y < N) (sym is) (each_at (λ y. y < N) (still_to_come w) k x below low) in search (rules, size)),
    )
