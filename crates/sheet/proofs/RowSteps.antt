-- One row more of a sheet.
use Rattle.std.proofs.Common.{◌≡◌, ℕ, zero, suc, ◌+◌, ◌-◌, ◌<◌, List, drop, sub-one, arith}
use Rattle.graph.specs.Model.{Model}
use Rattle.sheet.specs.Rows.{node_row, edge_row}
use Rattle.sheet.specs.Reading.{next, at_row, node_added, edge_added, nodes_read, edges_read}

pub nodes_more : (k p : ℕ) (bs : List ℕ) (m : Model) → 0 < k → nodes_read k p bs m ≡ next (node_row p (drop p bs)) (λ r. next (at_row p (node_added r m)) (nodes_read (k - 1) (p + 6) bs))
nodes_more zero p bs m h = absurd (omega arith)
nodes_more (suc k) p bs m h = rw (sub-one (suc k))

pub edges_more : (k p : ℕ) (bs : List ℕ) (m : Model) → 0 < k → edges_read k p bs m ≡ next (edge_row p (drop p bs)) (λ e. next (at_row p (edge_added e m)) (edges_read (k - 1) (p + 4) bs))
edges_more zero p bs m h = absurd (omega arith)
edges_more (suc k) p bs m h = rw (sub-one (suc k))
