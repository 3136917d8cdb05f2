-- The edge rows of a view.
use Rattle.std.specs.Prelude.{◌≡◌, ℕ, Bool, true, false, cond, List, [], ◌∷◌, ◌++◌, length, Some, None, Option, ◌==◌}
use Rattle.std.specs.List.{flat_map, range_with_len}
use Rattle.records.specs.declared.strand.Strand.{Strand}
use Rattle.records.specs.declared.strand.Strand.TheVariants.{Absent, Pathless, Along}
use Rattle.records.specs.declared.strand.Strands.{Strands}
use Rattle.records.specs.Nodes.{is_shown}
use Rattle.analysis.specs.Rule.{value_table}
use Rattle.records.specs.Strands.{strand}
use Rattle.records.specs.Walks.{Among}
use Rattle.routes.specs.Graph.{Graph, shown, source_of, target_of, parents, children, between}
use Rattle.routes.specs.Reach.{reach_meaning}
use Rattle.routes.specs.Strands.{strand_meaning, entry, trail}

-- an edge between shown nodes, or a strand and the last edge after it; nodes and edges by their own numbers
pub data Row : Type 0 where
  direct : (source target edge : ℕ) → Row
  across : (source target edge : ℕ) (mark : Bool) (path : Option (List ℕ)) → Row

abbrev pub row_source : Row → ℕ
row_source (direct u t e) = u
row_source (across u t e mark path) = u

abbrev pub row_target : Row → ℕ
row_target (direct u t e) = t
row_target (across u t e mark path) = t

-- the list, or nothing where the test fails
abbrev pub only_if : {A : Type 0} → Bool → List A → List A
only_if true xs = xs
only_if false xs = []

-- the row of a strand at h: its path is missing if it is pathless, or if h has several edges to the target
abbrev pub strand_row : (sole : Bool) (u t e : ℕ) (mark : Bool) → Strand → List ℕ → List Row
strand_row sole u t e mark Absent path = []
strand_row sole u t e mark Pathless path = across u t e mark None ∷ []
strand_row sole u t e mark (Along p) path = across u t e mark (cond sole (Some path) None) ∷ []

-- In what follows `tables` has the strand table of each shown source.
module _ (g : Graph) (tables : ℕ → List Strands) where
  -- the rows of u's strands at h, plain before marked
  abbrev pub strand_rows : Bool → ℕ → ℕ → ℕ → ℕ → List Row
  strand_rows sole h t e u =
      only_if (shown g u)
      (strand_row sole u t e false (strand false (entry (tables u) h)) (trail (length g.nodes) (tables u) (strand false (entry (tables u) h)))
      ++ strand_row sole u t e true (strand true (entry (tables u) h)) (trail (length g.nodes) (tables u) (strand true (entry (tables u) h))))

  -- e among all edges from h to t: only the newest gives rows, of each source ascending
  abbrev pub newest_rows : ℕ → ℕ → ℕ → List ℕ → List Row
  newest_rows h t e [] = []
  newest_rows h t e (k ∷ []) = only_if (k == e) (flat_map (strand_rows true h t e) (range_with_len 0 (length g.nodes)))
  newest_rows h t e (k ∷ (j ∷ js)) = only_if (k == e) (flat_map (strand_rows false h t e) (range_with_len 0 (length g.nodes)))

  abbrev pub edge_rows : ℕ → ℕ → ℕ → List Row
  edge_rows t h e = cond (shown g h) (direct h t e ∷ []) (newest_rows h t e (between g (length g.edges) h t))

  abbrev pub target_rows : ℕ → List Row
  target_rows t =
      only_if (shown g t) (flat_map (λ e. only_if (target_of g e == t) (edge_rows t (source_of g e) e)) (range_with_len 0 (length g.edges)))

  -- by target, then by edge
  abbrev pub rows : List Row
  rows = flat_map target_rows (range_with_len 0 (length g.nodes))

  -- some row goes from a to b
  abbrev pub RowStep : ℕ → ℕ → Type 0
  RowStep a b = (r : Row) × Among r rows × (row_source r ≡ a) × (row_target r ≡ b)

-- the yes/no table of a graph's own view, its strand tables and its rows
abbrev pub view_live : Graph → List Bool
view_live g = value_table (reach_meaning is_shown) g.nodes (children g)

abbrev pub view_table : Graph → ℕ → List Strands
view_table g u = value_table (strand_meaning u (view_live g)) g.nodes (parents g)

abbrev pub view_rows : Graph → List Row
view_rows g = rows g (view_table g)
