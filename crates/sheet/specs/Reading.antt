-- What reading a sheet does, by its bytes.
use Rattle.std.specs.Prelude.{ℕ, zero, suc, ◌+◌, ◌*◌, cond, List, length, drop, Ok, Err, Result, ◌==◌, nat_lt, slice_index}
use Rattle.records.specs.declared.edge.Edge.{Edge}
use Rattle.records.specs.declared.sheet_refusal.SheetRefusal.{SheetRefusal}
use Rattle.records.specs.declared.sheet_refusal.SheetRefusal.TheVariants.{Short, Version, Length, Misfit}
use Rattle.graph.specs.Model.{Model, Outcome, empty}
use Rattle.graph.specs.Adding.{add_edge}
use Rattle.graph.specs.Hiding.{add_node_in}
use Rattle.sheet.specs.declared.reader.SheetNode.{SheetNode}
use Rattle.sheet.specs.Bytes.{long}
use Rattle.sheet.specs.Rows.{count_at, node_row, edge_row, in_row}

-- one step, and then the next on what it gave
abbrev pub next : {A B : Type 0} → Result A SheetRefusal → (A → Result B SheetRefusal) → Result B SheetRefusal
next (Ok a) f = f a
next (Err e) f = Err e

-- the graph that a step left, or its refusal
abbrev pub followed : Result (Unit {0}) SheetRefusal → Model → Result Model SheetRefusal
followed (Ok _) m = Ok m
followed (Err e) m = Err e

-- the graph after a row at place p
abbrev pub at_row : ℕ → Outcome ℕ → Result Model SheetRefusal
at_row p o = followed (in_row p o.answer) o.after

abbrev pub node_added : SheetNode → Model → Outcome ℕ
node_added r m = add_node_in r.state r.kind r.item m

abbrev pub edge_added : Edge → Model → Outcome ℕ
edge_added e m = add_edge e.source e.target m

-- k node rows, the first at place p
abbrev pub nodes_read : ℕ → ℕ → List ℕ → Model → Result Model SheetRefusal
nodes_read zero p bs m = Ok m
nodes_read (suc k) p bs m = next (node_row p (drop p bs)) (λ r. next (at_row p (node_added r m)) (nodes_read k (p + 6) bs))

-- k edge rows, the first at place p; then the sheet ends
abbrev pub edges_read : ℕ → ℕ → List ℕ → Model → Result Model SheetRefusal
edges_read zero p bs m = cond (nat_lt p (length bs)) (Err (Misfit p)) (Ok m)
edges_read (suc k) p bs m = next (edge_row p (drop p bs)) (λ e. next (at_row p (edge_added e m)) (edges_read k (p + 4) bs))

-- a count at place p, and the edge rows after it
abbrev pub edge_part : ℕ → List ℕ → Model → Result Model SheetRefusal
edge_part p bs m = next (count_at p (drop p bs)) (λ k. edges_read k (p + 2) bs m)

abbrev pub body_read : List ℕ → Result Model SheetRefusal
body_read bs = next (count_at 5 (drop 5 bs)) (λ k. next (nodes_read k 7 bs empty) (edge_part (7 + 6 * k) bs))

-- the graph that a sheet gives, or the first refusal
abbrev pub sheet_read : List ℕ → Result Model SheetRefusal
sheet_read bs =
    cond (nat_lt (length bs) 5) (Err (Short (length bs)))
    (cond (slice_index bs 0 == 1)
    (cond (long bs 1 == length (drop 5 bs)) (body_read bs) (Err Length))
    (Err Version))

-- a refused sheet leaves an empty graph
abbrev pub answered : Result Model SheetRefusal → Result (Unit {0}) SheetRefusal
answered (Ok m) = Ok tt
answered (Err e) = Err e

abbrev pub left : Result Model SheetRefusal → Model
left (Ok m) = m
left (Err e) = empty
