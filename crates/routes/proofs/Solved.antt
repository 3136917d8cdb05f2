-- In a graph without closed walks each analysis has one table.
use Rattle.std.proofs.Common.{ℕ, ◌-◌, length, arith}
use Rattle.records.specs.declared.edge.Direction.TheVariants.{Incoming, Outgoing}
use Rattle.analysis.specs.Rule.{Meaning, Solves, value_table}
use Rattle.graph.proofs.Seen.{seen_joins}
use Rattle.walk_neighbors.proofs.Each.{each_among}
use Rattle.analysis.proofs.Unique.{Lower, value_solves}
use Rattle.routes.specs.Graph.{Graph, parents, children, Proper}
use Rattle.routes.proofs.Ranks.{rank, rank_within, rank_onward}
use Rattle.routes.proofs.Settled.{Ranked, edge_from, edge_to, edge_rank}

module _ (g : Graph) (proper : Proper g) where
  abbrev pub along : ℕ → ℕ
  along n = rank g proper.ends proper.acyclic n

  pub ranked : Ranked g along
  ranked =
      record {
        ends = proper.ends;
        onward = rank_onward g proper.ends proper.acyclic;
        within = rank_within g proper.ends proper.acyclic;
      }

  abbrev against : ℕ → ℕ
  against n = length g.nodes - 1 - along n

  parents_lower : Lower (length g.nodes) (parents g) along
  parents_lower n =
      each_among _ (parents g n)
      (λ f m. let d = seen_joins Incoming g.edges n f m in (edge_from ranked f n d, edge_rank ranked f n d))

  children_lower : Lower (length g.nodes) (children g) against
  children_lower n =
      each_among _ (children g n)
      (λ t m.
      let d = seen_joins Outgoing g.edges n t m in
      let up = edge_rank ranked n t d in
      let low = ranked.within t (edge_to ranked n t d) in
      (edge_to ranked n t d, omega arith))

  pub parents_solve : {V : Type 0} (m : Meaning V) → Solves m g.nodes (parents g) (value_table m g.nodes (parents g))
  parents_solve m = value_solves m g.nodes (parents g) along parents_lower ranked.within

  pub children_solve : {V : Type 0} (m : Meaning V) → Solves m g.nodes (children g) (value_table m g.nodes (children g))
  children_solve m = value_solves m g.nodes (children g) against children_lower (λ n h. omega arith)
