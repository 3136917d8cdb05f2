-- The laws of a view.
use Rattle.std.specs.Prelude.{◌≡◌, ℕ, ◌<◌, Bool, true, false, ◌↔◌, List, [], ◌∷◌, ◌++◌, length, Some, None, Option}
use Rattle.records.specs.declared.strand.Strands.{Strands}
use Rattle.records.specs.Nodes.{is_shown}
use Rattle.analysis.specs.Rule.{Obeys, Solves}
use Rattle.records.specs.Strands.{strand, present}
use Rattle.records.specs.Walks.{Walk, Leads, Among, Joins, Runs}
use Rattle.routes.specs.Graph.{Graph, shown, Shown, NoneShown, any_hidden, parents, children, Proper}
use Rattle.routes.specs.Reach.{reach_meaning, TellsReach}
use Rattle.routes.specs.Strands.{strand_meaning, entry}
use Rattle.routes.specs.View.{Row, direct, across, rows, RowStep, view_live, view_table, view_rows}

-- a yes/no table that tells which nodes lead to a shown one, and for each shown source a table that obeys the rule
pub record Viewed (g : Graph) (live : List Bool) (tables : ℕ → List Strands) : Type 0 where
  pub alive : TellsReach is_shown g live
  pub obeys : (u : ℕ) → Shown g u → Obeys (strand_meaning u live) g.nodes (parents g) (tables u)

-- a walk from u to n past ms, none of them nor n shown; the mark says whether one is Hidden
pub record Thread (g : Graph) (u : ℕ) (ms : List ℕ) (n : ℕ) (mark : Bool) : Type 0 where
  pub walk : Walk (Joins g.edges) u ms n
  pub unseen : NoneShown g (ms ++ (n ∷ []))
  pub mark_is : any_hidden g (ms ++ (n ∷ [])) ≡ mark

-- each strand of a table, at a node that is not shown, is such a walk
abbrev pub StrandsStand : Graph → ℕ → List Strands → Type 0
StrandsStand g u table =
    (n : ℕ)
    → n < length g.nodes
    → shown g n ≡ false
    → (mark : Bool)
    → present (strand mark (entry table n)) ≡ true
    → (ms : List ℕ) × Thread g u ms n mark

-- a path that is there is that of the walk
abbrev pub Follows : Option (List ℕ) → List ℕ → Type 0
Follows None ms = Unit {0}
Follows (Some path) ms = path ≡ ms

-- what a row stands for: its edge, or a walk between shown nodes past its path and then h, its edge last
abbrev pub Stands : Graph → Row → Type 0
Stands g (direct u t e) = Shown g u × Shown g t × Runs g.edges e u t
Stands g (across u t e mark path) =
    Shown g u × Shown g t × ((ms : List ℕ) × (h : ℕ) × Thread g u ms h mark × Runs g.edges e h t × Follows path ms)

abbrev pub AllStand : Graph → List Row → Type 0
AllStand g rs = (r : Row) → Among r rs → Stands g r

-- one shown node leads to another over the rows exactly when it does over the edges
abbrev pub KeepsRoutes : Graph → (ℕ → List Strands) → Type 0
KeepsRoutes g tables = (s t : ℕ) → Shown g s → Shown g t → Leads (RowStep g tables) s t ↔ Leads (Joins g.edges) s t

-- so it is with all tables that are as they should be
abbrev pub RowsStand : Type 0
RowsStand = (g : Graph) (live : List Bool) (tables : ℕ → List Strands) → Proper g → Viewed g live tables → AllStand g (rows g tables)

abbrev pub RoutesKept : Type 0
RoutesKept = (g : Graph) (live : List Bool) (tables : ℕ → List Strands) → Proper g → Viewed g live tables → KeepsRoutes g tables

-- and the tables of a graph's own view are so; no other tables obey the rule
pub record OwnView (g : Graph) : Type 0 where
  pub viewed : Viewed g (view_live g) (view_table g)
  pub only_live : Solves (reach_meaning is_shown) g.nodes (children g) (view_live g)
  pub only_table : (u : ℕ) → Solves (strand_meaning u (view_live g)) g.nodes (parents g) (view_table g u)
  pub stand : AllStand g (view_rows g)
  pub routes : KeepsRoutes g (view_table g)

abbrev pub HasView : Type 0
HasView = (g : Graph) → Proper g → OwnView g
