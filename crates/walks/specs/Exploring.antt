-- Stack searches over the edges, which are given in the order of adding.
use Rattle.std.specs.Prelude.{◌≡◌, ℕ, zero, suc, ◌+◌, Bool, true, false, cond, not, List, [], ◌∷◌, ◌++◌, length, slice_index_or, slice_set}
use Rattle.records.specs.declared.edge.Edge.{Edge}
use Rattle.records.specs.declared.edge.Direction.TheVariants.{Outgoing, Incoming}
use Rattle.records.specs.Edges.{history, neighbours}

-- where the edges from n lead, and where those to n come from, the newest edge first
abbrev pub targets : List Edge → ℕ → List ℕ
targets es n = neighbours Outgoing (history es) n

abbrev pub sources : List Edge → ℕ → List ℕ
sources es n = neighbours Incoming (history es) n

-- where a search both ways goes on from a node: the outgoing list, then the incoming list
abbrev pub nexts : List Edge → ℕ → List ℕ
nexts es n = targets es n ++ sources es n

-- of a list of nodes those that pass a test, put onto a stack in turn
abbrev pub stacked : (ℕ → Bool) → List ℕ → List ℕ → List ℕ
stacked test [] stack = stack
stacked test (m ∷ ms) stack = stacked test ms (cond (test m) (m ∷ stack) stack)

abbrev pub is_unvisited : List Bool → ℕ → Bool
is_unvisited visited m = not (slice_index_or visited m false)

-- those not visited
abbrev pub piled : List ℕ → List Bool → List ℕ → List ℕ
piled ms visited stack = stacked (is_unvisited visited) ms stack

-- the stack from its first node not visited on
abbrev pub fresh : List Bool → List ℕ → List ℕ
fresh visited [] = []
fresh visited (n ∷ stack) = cond (slice_index_or visited n false) (fresh visited stack) (n ∷ stack)

-- what a walk has visited: by node, and in turn, the latest first
pub record Trail : Type 0 where
  pub visited : List Bool
  pub order : List ℕ

-- A stack walk that visits at most k nodes more: pop; if new, visit, and push onto what is left of the stack.
abbrev pub walked : (ℕ → List Bool → List ℕ → List ℕ) → ℕ → List ℕ → List Bool → List ℕ → Trail
walked push zero stack visited order = record { visited = visited; order = order }
walked push (suc k) stack visited order =
    elim (fresh visited stack) [
      | [] ↦ record { visited = visited; order = order }
      | n ∷ rest ↦ walked push k (push n (slice_set visited n true) rest) (slice_set visited n true) (n ∷ order)
    ]

-- the walk that pushes those of the next nodes that pass a test by what is visited
abbrev pub searched : (List Bool → ℕ → Bool) → (ℕ → List ℕ) → ℕ → List ℕ → List Bool → List ℕ → Trail
searched test next k stack visited order = walked (λ n v st. stacked (test v) (next n) st) k stack visited order

-- the walk that pushes the neighbours not visited
abbrev pub explored : (ℕ → List ℕ) → ℕ → List ℕ → List Bool → List ℕ → Trail
explored next k stack visited order = searched is_unvisited next k stack visited order

-- how many neighbours the nodes below n that are not visited have
abbrev pub pending : (ℕ → List ℕ) → ℕ → List Bool → ℕ
pending next zero visited = 0
pending next (suc n) visited = cond (slice_index_or visited n false) (pending next n visited) (length (next n) + pending next n visited)

-- what a walk leaves in the tables
pub record Left (t : Trail) (visited : List Bool) (order : List ℕ) : Type 0 where
  pub marks : visited ≡ t.visited
  pub turns : order ≡ t.order
