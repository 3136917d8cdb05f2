-- A graph over which a run is done has no closed walks.
use Rattle.std.proofs.Common.{◌≡◌, ℕ, ◌<◌, ◌≤◌, List, length, take, get_or, Ok, subst, refl, arith}
use Rattle.std.proofs.lemmas.List.{length-take-le}
use Rattle.records.specs.Edges.{no_edge}
use Rattle.records.specs.Walks.{Joins}
use Rattle.routes.proofs.Walking.{leads_rank}
use Rattle.routes.specs.Graph.{Proper}
use Rattle.graph.specs.declared.raw.RawInstGraph.{RawInstGraph}
use Rattle.graph.specs.Model.{Model, model}
use Rattle.graph.specs.Order.{stands_at}
use Rattle.graph.specs.Sound.{Sound, Ordered}
use Rattle.graph.proofs.Sound.{sound}
use Rattle.analysis.specs.Rule.{Meaning, Solves, Obeys}
use Rattle.analysis.specs.Runs.{run_answer}
use Rattle.analysis.proofs.Answering.{done_says}
use Rattle.reconnect.specs.Graphs.{graph_in}

proper : (m : Model) → Sound m → Ordered m → Proper (graph_in m)
proper m good fine =
    record {
      ends = good.ends;
      acyclic = λ n w. let back = leads_rank (Joins m.edges) (stands_at m.order) up n w.0 n w.1 in omega arith;
    }
  where
    up : (a b : ℕ) → Joins m.edges a b → stands_at m.order a < stands_at m.order b
    up a b (e, (h, s, t)) =
        subst (λ x. stands_at m.order a < stands_at m.order x) t
        (subst (λ x. stands_at m.order x < stands_at m.order (get_or m.edges e no_edge).target) s (fine.order.topological e h))

-- and the front of its table, which obeys the rule, has an entry for each node
pub run_says : {V : Type 0} (m : Meaning V) (near : ℕ → List ℕ) (g : RawInstGraph) (old table : List V) → length table ≡ length old → run_answer (length old) (model g) ≡ Ok tt → Solves m (model g).nodes near (take (length (model g).nodes) table) → Proper (graph_in (model g)) × (length (take (length (model g).nodes) table) ≡ length (model g).nodes) × Obeys m (model g).nodes near (take (length (model g).nodes) table)
run_says m near g old table kept ok only =
    let done = done_says (length old) (model g) ok in
    let front = take (length (model g).nodes) table in
    let whole = length-take-le (length (model g).nodes) table (omega (arith, done.1, kept)) in
    (proper (model g) (sound g) ((sound g).ordered done.0), whole, (only front whole).1 refl)
