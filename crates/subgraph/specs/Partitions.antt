-- The partition of a graph into subgraphs.
use Rattle.std.specs.Prelude.{ℕ, zero, suc, Bool, false, cond, not, ◌&&◌, List, [], ◌∷◌, slice_index_or}
use Rattle.records.specs.declared.edge.Edge.{Edge}
use Rattle.walks.specs.Exploring.{targets, sources}
use Rattle.subgraph.specs.Orders.{is_empty, found_from, sorted_from}

-- outgoing edges and no incoming ones
abbrev pub root : List Edge → ℕ → Bool
root es n = is_empty (sources es n) && not (is_empty (targets es n))

-- a partition so far: the nodes found, the nodes appended, and the subgraphs' orders, the newest first, each with its last node first
pub record Partition : Type 0 where
  pub found : List Bool
  pub appended : List Bool
  pub orders : List (List ℕ)

-- with the subgraph of a root
abbrev pub joined : List Edge → ℕ → ℕ → Partition → Partition
joined es nodes n p =
    record {
      found = (found_from es nodes p.found n).visited;
      appended = (sorted_from es nodes p.found p.appended n).visited;
      orders = (sorted_from es nodes p.found p.appended n).order ∷ p.orders;
    }

-- a root without a subgraph begins one
abbrev pub begins : List Edge → List Bool → ℕ → Bool
begins es found n = root es n && not (slice_index_or found n false)

abbrev pub turn : List Edge → ℕ → ℕ → Partition → Partition
turn es nodes n p = cond (begins es p.found n) (joined es nodes n p) p

-- the subgraphs of the roots below n, ascending
abbrev pub parted : List Edge → ℕ → ℕ → Partition → Partition
parted es nodes zero p = p
parted es nodes (suc n) p = turn es nodes n (parted es nodes n p)

-- the subgraphs of all roots, from tables of nodes found and of nodes appended
abbrev pub partition : List Edge → ℕ → List Bool → List Bool → Partition
partition es nodes found appended = parted es nodes nodes (record { found = found; appended = appended; orders = [] })
