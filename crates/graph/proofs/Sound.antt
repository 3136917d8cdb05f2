-- Every graph is sound, and what its nodes see lies within it.
use Rattle.std.proofs.Common.{◌≡◌, ℕ, ◌<◌, List, [], ◌∷◌, Some, None, Option, sym, refl, inl, inr, subst}
use Rattle.records.specs.declared.edge.Direction.{Direction}
use Rattle.records.specs.declared.edge.Direction.TheVariants.{Outgoing, Incoming}
use Rattle.records.specs.declared.edge.Edge.{Edge}
use Rattle.records.specs.declared.node.Node.{Node}
use Rattle.records.specs.declared.stage.Stage.TheVariants.{Open, Sealed}
use Rattle.records.specs.Edges.{history, neighbours}
use Rattle.records.specs.Walks.{Among}
use Rattle.tables.specs.Steps.{Below}
use Rattle.graph.specs.declared.raw.RawInstGraph.{RawInstGraph}
use Rattle.graph.specs.declared.raw.Sealing.{Sealing}
use Rattle.graph.specs.Model.{model, stage_of, order_of, reach_of}
use Rattle.graph.specs.Order.{Ends}
use Rattle.graph.specs.Ordered.{OrdersAll}
use Rattle.graph.specs.Sound.{Sound}
use Rattle.graph.proofs.Seen.{Along, seen_joins}
use Rattle.graph.proofs.Stages.{open_not_sealed}

none_open : (sealing : Option Sealing) → Open ≡ stage_of sealing → (order_of sealing ≡ []) × (reach_of sealing ≡ [])
none_open None o = (refl, refl)
none_open (Some s) o = absurd (open_not_sealed refl o)

some_sealed : (sealing : Option Sealing) → stage_of sealing ≡ Sealed → (nodes : List Node) (edges : List Edge) → ((s : Sealing) → sealing ≡ Some s → OrdersAll nodes edges s.order.items s.reach.items) → OrdersAll nodes edges (order_of sealing) (reach_of sealing)
some_sealed None q nodes edges h = absurd (open_not_sealed refl q)
some_sealed (Some s) q nodes edges h = h s refl

pub sound : (g : RawInstGraph) → Sound (model g)
sound g = record {
  few_nodes = g.few;
  few_edges = g.edges.sparse;
  ends = g.ends;
  no_order = λ o. (none_open g.sealing (sym o)).0;
  no_reach = λ o. (none_open g.sealing (sym o)).1;
  ordered = λ q. some_sealed g.sealing q (model g).nodes (model g).edges g.ordered;
}

-- ---- a node's neighbours
pub below_all : (N : ℕ) (xs : List ℕ) → ((z : ℕ) → Among z xs → z < N) → Below N xs
below_all N [] h = tt
below_all N (x ∷ xs) h = (h x (inl refl), below_all N xs (λ z a. h z (inr a)))

pub neighbours_below : (N : ℕ) (es : List Edge) (d : Direction) (n : ℕ) → Ends N es → Below N (neighbours d (history es) n)
neighbours_below N es d n ends = below_all N (neighbours d (history es) n) (λ z a. low d (seen_joins d es n z a))
  where
    low : {z : ℕ} (d : Direction) → Along d es n z → z < N
    low Outgoing (e, j) = subst (λ x. x < N) j.2 (ends e j.0).1
    low Incoming (e, j) = subst (λ x. x < N) j.1 (ends e j.0).0
