-- What a reach table tells, as the graph's type asks for it.
use Rattle.std.proofs.Common.{◌≡◌, ℕ, Bool, true, false, not, List, [], ◌∷◌, length, get_or, refl, ap, subst, inl, inr, ⊎_elim}
use Rattle.std.proofs.lemmas.Bool.{cases_Bool, or_left, or_right}
use Rattle.records.specs.Edges.{no_edge}
use Rattle.records.specs.Nodes.{is_disabled}
use Rattle.records.specs.Walks.{Joins}
use Rattle.graph.specs.Model.{Model}
use Rattle.graph.specs.Adding.{node_at}
use Rattle.graph.specs.Order.{Ends}
use Rattle.graph.specs.Reach.{YesOrDisabled, YesGoesBack}
use Rattle.routes.specs.Reach.{Reaches, TellsReach}
use Rattle.reconnect.specs.Graphs.{graph_in}
use Rattle.reconnect.specs.Reach.{is_enabled}

module _ (m : Model) (table : List Bool) (tells : TellsReach is_enabled (graph_in m) table) where
  pub yes_or_disabled : YesOrDisabled m.nodes table
  yes_or_disabled n h =
      ⊎_elim
      (λ (off : is_disabled (node_at m n) ≡ true). or_right (get_or table n false) (is_disabled (node_at m n)) off)
      (λ (on : is_disabled (node_at m n) ≡ false). or_left (get_or table n false) (is_disabled (node_at m n)) ((tells n h).1 (n, h, ap not on, inl refl)))
      (cases_Bool (is_disabled (node_at m n)))

  -- what a target reaches its source reaches
  further : (a b : ℕ) → Joins m.edges a b → Reaches is_enabled (graph_in m) b → Reaches is_enabled (graph_in m) a
  further a b j (k, h, on, inl e) = (k, h, on, inr ([], subst (Joins m.edges a) e j))
  further a b j (k, h, on, inr (ms, w)) = (k, h, on, inr (b ∷ ms, (j, w)))

  pub yes_goes_back : Ends (length m.nodes) m.edges → YesGoesBack m.edges table
  yes_goes_back ends e h =
      let a = (get_or m.edges e no_edge).source in
      let b = (get_or m.edges e no_edge).target in
      ⊎_elim
      (λ (yes' : get_or table b false ≡ true).
      or_left (get_or table a false) (not (get_or table b false)) ((tells a (ends e h).0).1 (further a b (e, (h, refl, refl)) ((tells b (ends e h).1).0 yes'))))
      (λ (none : get_or table b false ≡ false). or_right (get_or table a false) (not (get_or table b false)) (ap not none))
      (cases_Bool (get_or table b false))
