-- The edges of a graph run between its nodes.
use Rattle.std.proofs.Common.{ℕ, ◌<◌, length, subst}
use Rattle.records.specs.Walks.{Joins}
use Rattle.graph.specs.declared.raw.RawInstGraph.{RawInstGraph}
use Rattle.graph.specs.Model.{model}
use Rattle.graph.proofs.Sound.{sound}

pub edges_inside : (g : RawInstGraph) (a b : ℕ) → Joins (model g).edges a b → (a < length (model g).nodes) × (b < length (model g).nodes)
edges_inside g a b (e, r) =
    let ends = (sound g).ends e r.0 in
    (subst (λ x. x < length (model g).nodes) r.1 ends.0, subst (λ x. x < length (model g).nodes) r.2 ends.1)
