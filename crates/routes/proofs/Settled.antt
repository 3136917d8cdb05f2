-- A graph that is ordered along its edges by ranks, and the tables of its view.
use Rattle.std.proofs.Common.{ℕ, ◌<◌, Bool, List, length, subst}
use Rattle.records.specs.declared.strand.Strands.{Strands}
use Rattle.records.specs.Nodes.{is_shown}
use Rattle.analysis.specs.Rule.{Obeys}
use Rattle.records.specs.Walks.{Joins}
use Rattle.graph.specs.Order.{Ends}
use Rattle.routes.specs.Graph.{Graph, source_of, target_of, Shown, parents}
use Rattle.routes.specs.Reach.{TellsReach}
use Rattle.routes.specs.Strands.{strand_meaning}

-- ranks that rise along the edges
pub record Ranked (g : Graph) (rank : ℕ → ℕ) : Type 0 where
  pub ends : Ends (length g.nodes) g.edges
  pub onward : (e : ℕ) → e < length g.edges → rank (source_of g e) < rank (target_of g e)
  pub within : (n : ℕ) → n < length g.nodes → rank n < length g.nodes

-- a table of the source u obeys the rule
abbrev pub Lawful : Graph → List Bool → ℕ → List Strands → Type 0
Lawful g live u table = Obeys (strand_meaning u live) g.nodes (parents g) table

pub record Settled (g : Graph) (live : List Bool) (T : ℕ → List Strands) (rank : ℕ → ℕ) : Type 0 where
  pub ranked : Ranked g rank
  pub alive : TellsReach is_shown g live
  pub obeys : (u : ℕ) → Shown g u → Lawful g live u (T u)

pub edge_from : {g : Graph} {rank : ℕ → ℕ} → Ranked g rank → (a b : ℕ) → Joins g.edges a b → a < length g.nodes
edge_from {g} ranked a b d = subst (λ (x : ℕ). x < length g.nodes) d.1.1 (ranked.ends d.0 d.1.0).0

pub edge_to : {g : Graph} {rank : ℕ → ℕ} → Ranked g rank → (a b : ℕ) → Joins g.edges a b → b < length g.nodes
edge_to {g} ranked a b d = subst (λ (x : ℕ). x < length g.nodes) d.1.2 (ranked.ends d.0 d.1.0).1

pub edge_rank : {g : Graph} {rank : ℕ → ℕ} → Ranked g rank → (a b : ℕ) → Joins g.edges a b → rank a < rank b
edge_rank {g} {rank} ranked a b d =
    let h : rank (source_of g d.0) < rank (target_of g d.0) = ranked.onward d.0 d.1.0 in
    subst (λ (x : ℕ). rank a < rank x) d.1.2 (subst (λ (x : ℕ). rank x < rank (target_of g d.0)) d.1.1 h)
