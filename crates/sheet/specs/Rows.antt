-- The counts and rows of a sheet, each by its place p and the bytes from there on.
use Rattle.std.specs.Prelude.{ℕ, ◌+◌, cond, List, length, take, Some, None, Ok, Err, Option, Result, nat_lt, slice_index}
use Rattle.records.specs.declared.edge.Edge.{Edge}
use Rattle.records.specs.declared.node.NodeKind.{NodeKind}
use Rattle.records.specs.declared.node.NodeState.{NodeState}
use Rattle.records.specs.declared.refusal.Refusal.{Refusal}
use Rattle.records.specs.declared.sheet_refusal.SheetRefusal.{SheetRefusal}
use Rattle.records.specs.declared.sheet_refusal.SheetRefusal.TheVariants.{Misfit, BadByte, Row}
use Rattle.records.specs.Edges.{edge}
use Rattle.sheet.specs.declared.reader.SheetNode.{SheetNode}
use Rattle.records.specs.Nodes.{state_of, kind_of}
use Rattle.sheet.specs.Bytes.{word, long}

-- the next n bytes
abbrev pub chunk : ℕ → ℕ → List ℕ → Result (List ℕ) SheetRefusal
chunk n p bs = cond (nat_lt (length bs) n) (Err (Misfit p)) (Ok (take n bs))

abbrev pub count_at : ℕ → List ℕ → Result ℕ SheetRefusal
count_at p bs = cond (nat_lt (length bs) 2) (Err (Misfit p)) (Ok (word bs 0))

-- the state byte is tested before the kind byte
abbrev pub row_of : ℕ → Option NodeState → Option NodeKind → ℕ → Result SheetNode SheetRefusal
row_of p (Some s) (Some k) i = Ok (record { state = s; kind = k; item = i })
row_of p (Some s) None i = Err (BadByte (p + 1))
row_of p None k i = Err (BadByte p)

abbrev pub node_row : ℕ → List ℕ → Result SheetNode SheetRefusal
node_row p bs = cond (nat_lt (length bs) 6) (Err (Misfit p)) (row_of p (state_of (slice_index bs 0)) (kind_of (slice_index bs 1)) (long bs 2))

abbrev pub edge_row : ℕ → List ℕ → Result Edge SheetRefusal
edge_row p bs = cond (nat_lt (length bs) 4) (Err (Misfit p)) (Ok (edge (word bs 0) (word bs 2)))

-- the graph's refusal of a row comes with the row's place
abbrev pub in_row : ℕ → Result ℕ Refusal → Result (Unit {0}) SheetRefusal
in_row p (Ok n) = Ok tt
in_row p (Err e) = Err (Row p e)
