-- What an open graph makes of a row.
use Rattle.std.proofs.Common.{◌≡◌, ℕ, ◌<◌, ◌≤◌, ◌⊎◌, List, [], ◌∷◌, ◌++◌, length, None, Ok, refl, ap, inl, inr, rules}
use Rattle.std.proofs.lemmas.List.{set_at, get_or_at}
use Rattle.std.proofs.lemmas.Bool.{cases_lt}
use Rattle.records.specs.declared.edge.Edge.{Edge}
use Rattle.records.specs.declared.node.Node.{Node}
use Rattle.records.specs.declared.refusal.Refusal.TheVariants.{NodesFull, EdgesFull, UnknownNode}
use Rattle.records.specs.declared.stage.Stage.TheVariants.{Open}
use Rattle.records.specs.Nodes.{fresh, no_node}
use Rattle.graph.specs.Model.{Model, done, refused, with_nodes, with_edges, with_generation}
use Rattle.sheet.specs.declared.reader.SheetNode.{SheetNode}
use Rattle.sheet.specs.Reading.{at_row, node_added, edge_added}
use Rattle.sheet.specs.Encoding.{Inside, rises}
use Rattle.sheet.proofs.RowLaws.{row_for, node_of}

-- the graph with the nodes xs, of which the rows of ns are new
abbrev pub with_rows : List Node → List Node → Model → Model
with_rows xs ns m = with_generation (rises m.generation ns) (with_nodes xs m)

-- the graph with one node more, as its row gives it
abbrev pub with_row : Node → Model → Model
with_row n m = with_rows (m.nodes ++ n ∷ []) (n ∷ []) m

abbrev pub with_edge : Edge → Model → Model
with_edge e m = with_edges (m.edges ++ e ∷ []) m

pub node_added_lem : (n : Node) (m : Model) → m.stage ≡ Open → length m.nodes < 1024 → n.place ≡ None → node_added (row_for n) m ≡ done (length m.nodes) (with_row n m)
node_added_lem n m o h e =
    let at-end = get_or_at m.nodes (fresh n.kind n.item) [] no_node (length m.nodes) refl in
    let set-end = set_at m.nodes (fresh n.kind n.item) [] n (length m.nodes) refl in
    search (rules, at-end, set-end)

-- a node row that the graph took
pub record NodeFits (n : Node) (m m' : Model) : Type 0 where
  pub after : m' ≡ with_row n m
  pub room : length m.nodes < 1024

pub node_fits : (p : ℕ) (r : SheetNode) (m m' : Model) → m.stage ≡ Open → at_row p (node_added r m) ≡ Ok m' → NodeFits (node_of r) m m'
node_fits p r m m' o h = go (cases_lt (length m.nodes) 1024)
  where
    go : (length m.nodes < 1024) ⊎ (1024 ≤ length m.nodes) → NodeFits (node_of r) m m'
    go (inl l) = let e = ap (at_row p) (node_added_lem (node_of r) m o l refl) in record { after = cc; room = l }
    go (inr l) = let e : node_added r m ≡ refused NodesFull m = search rules in absurd cc

pub edge_added_lem : (e : Edge) (m : Model) → m.stage ≡ Open → length m.edges < 4096 → Inside (length m.nodes) e → edge_added e m ≡ done (length m.edges) (with_edge e m)
edge_added_lem e m o h i = search rules

-- an edge row that the graph took
pub record EdgeFits (e : Edge) (m m' : Model) : Type 0 where
  pub after : m' ≡ with_edge e m
  pub inside : Inside (length m.nodes) e
  pub room : length m.edges < 4096

pub edge_fits : (p : ℕ) (e : Edge) (m m' : Model) → m.stage ≡ Open → at_row p (edge_added e m) ≡ Ok m' → EdgeFits e m m'
edge_fits p e m m' o h = go (cases_lt e.source (length m.nodes)) (cases_lt e.target (length m.nodes)) (cases_lt (length m.edges) 4096)
  where
    go : (e.source < length m.nodes) ⊎ (length m.nodes ≤ e.source) → (e.target < length m.nodes) ⊎ (length m.nodes ≤ e.target) → (length m.edges < 4096) ⊎ (4096 ≤ length m.edges) → EdgeFits e m m'
    go (inl s) (inl t) (inl l) = let a = edge_added_lem e m o l (s, t) in record { after = cc; inside = (s, t); room = l }
    go (inl s) (inl t) (inr l) = let a : edge_added e m ≡ refused EdgesFull m = search rules in absurd cc
    go (inl s) (inr t) l = let a : edge_added e m ≡ refused (UnknownNode e.target) m = search rules in absurd cc
    go (inr s) t l = let a : edge_added e m ≡ refused (UnknownNode e.source) m = search rules in absurd cc
