-- The tables of a graph's own view are those that its laws ask for.
use Rattle.std.proofs.Common.{◌≡◌, ℕ, List, length, refl}
use Rattle.std.proofs.lemmas.List.FromFn.{length-map-range_with_len}
use Rattle.records.specs.Nodes.{is_shown}
use Rattle.analysis.specs.Rule.{Meaning, Obeys, worth, value_table}
use Rattle.records.specs.declared.strand.Strands.{Strands}
use Rattle.routes.specs.Graph.{Graph, parents, children, Proper}
use Rattle.routes.specs.Laws.{Viewed, OwnView}
use Rattle.routes.specs.Reach.{reach_meaning}
use Rattle.routes.specs.Strands.{strand_meaning}
use Rattle.routes.specs.View.{view_live, view_table}
use Rattle.routes.proofs.Reached.{table_tells}
use Rattle.routes.proofs.Routes.{routes_kept}
use Rattle.routes.proofs.Rows.{rows_stand}
use Rattle.routes.proofs.Settled.{Settled}
use Rattle.routes.proofs.Solved.{along, ranked, parents_solve, children_solve}

value_length : {V : Type 0} (g : Graph) (m : Meaning V) (near : ℕ → List ℕ) → length (value_table m g.nodes near) ≡ length g.nodes
value_length g m near = length-map-range_with_len (worth m g.nodes near (length g.nodes)) 0 (length g.nodes)

pub settled : (g : Graph) (proper : Proper g) (live : List _) (tables : ℕ → List Strands) → Viewed g live tables → Settled g live tables (along g proper)
settled g proper live tables viewed = record { ranked = ranked g proper; alive = viewed.alive; obeys = viewed.obeys }

module _ (g : Graph) (proper : Proper g) where
  live_obeys : Obeys (reach_meaning is_shown) g.nodes (children g) (view_live g)
  live_obeys = (children_solve g proper (reach_meaning is_shown) (view_live g) (value_length g (reach_meaning is_shown) (children g))).1 refl

  table_obeys : (u : ℕ) → Obeys (strand_meaning u (view_live g)) g.nodes (parents g) (view_table g u)
  table_obeys u = (parents_solve g proper (strand_meaning u (view_live g)) (view_table g u) (value_length g (strand_meaning u (view_live g)) (parents g))).1 refl

  viewed : Viewed g (view_live g) (view_table g)
  viewed =
      record {
        alive = table_tells is_shown g proper (view_live g) (value_length g (reach_meaning is_shown) (children g)) live_obeys;
        obeys = λ u shown. table_obeys u;
      }

  pub own_view : OwnView g
  own_view =
      let st = settled g proper (view_live g) (view_table g) viewed in
      record {
        viewed = viewed;
        only_live = children_solve g proper (reach_meaning is_shown);
        only_table = λ u. parents_solve g proper (strand_meaning u (view_live g));
        stand = rows_stand g (view_live g) (view_table g) (along g proper) st;
        routes = routes_kept g (view_live g) (view_table g) (along g proper) st;
      }
