-- What comes next on a search along edges is joined by an edge.
use Rattle.std.specs.Prelude.{ℕ, ◌⊎◌, List}
use Rattle.std.proofs.Common.{inl, inr, ⊎_elim}
use Rattle.records.specs.declared.edge.Edge.{Edge}
use Rattle.records.specs.declared.edge.Direction.TheVariants.{Outgoing, Incoming}
use Rattle.records.specs.Walks.{Among, Joins}
use Rattle.graph.proofs.Standings.{among_either}
use Rattle.graph.proofs.Seen.{seen_joins}
use Rattle.walks.specs.Exploring.{targets, sources, nexts}

pub targets_joined : (es : List Edge) (n m : ℕ) → Among m (targets es n) → Joins es n m ⊎ Joins es m n
targets_joined es n m a = inl (seen_joins Outgoing es n m a)

pub nexts_joined : (es : List Edge) (n m : ℕ) → Among m (nexts es n) → Joins es n m ⊎ Joins es m n
nexts_joined es n m a = ⊎_elim (λ b. inl (seen_joins Outgoing es n m b)) (λ b. inr (seen_joins Incoming es n m b)) (among_either m (targets es n) (sources es n) a)
