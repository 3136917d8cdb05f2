-- A node's neighbours past disabled nodes, in the order in which they are given out.
use Rattle.std.specs.Prelude.{ℕ, zero, suc, ◌+◌, Bool, true, false, cond, List, [], ◌∷◌, length, replicate, filter, slice_index_or, slice_set}
use Rattle.tables.specs.Marks.{blanks}
use Rattle.records.specs.declared.edge.Direction.{Direction}
use Rattle.records.specs.Edges.{history, neighbours}
use Rattle.records.specs.Nodes.{is_disabled}
use Rattle.graph.specs.Model.{Model}
use Rattle.graph.specs.Adding.{node_at}

-- which nodes were ever pushed, and the stack, its top first
pub record Noted : Type 0 where
  pub visited : List Bool
  pub stack : List ℕ

abbrev pub noted : List Bool → List ℕ → Noted
noted v st = record { visited = v; stack = st }

-- each node is pushed at most once
abbrev pub push : ℕ → Noted → Noted
push m p = cond (slice_index_or p.visited m false) p (noted (slice_set p.visited m true) (m ∷ p.stack))

abbrev pub push_all : List ℕ → Noted → Noted
push_all [] p = p
push_all (m ∷ ms) p = push_all ms (push m p)

-- the stack: a popped node is given out, but of a disabled one its own list is pushed; at most k pops
abbrev pub drained : (ℕ → List ℕ) → (ℕ → Bool) → ℕ → Noted → List ℕ
drained lists off zero p = []
drained lists off (suc k) p =
    elim p.stack [
      | [] ↦ []
      | n ∷ rest ↦ cond (off n) (drained lists off k (push_all (lists n) (noted p.visited rest))) (n ∷ drained lists off k (noted p.visited rest))
    ]

-- a direct list by the same rule, then the stack
abbrev pub gone_through : (ℕ → List ℕ) → (ℕ → Bool) → ℕ → List ℕ → Noted → List ℕ
gone_through lists off k [] p = drained lists off k p
gone_through lists off k (m ∷ ms) p = cond (off m) (gone_through lists off k ms (push_all (lists m) p)) (m ∷ gone_through lists off k ms p)

-- what is on the stack, and what may still be pushed: so many pops are enough
abbrev pub pops : ℕ → Noted → ℕ
pops nodes p = length p.stack + blanks nodes p.visited

-- what a node sees along its edges, newest edge first
abbrev pub sees : Direction → Model → ℕ → List ℕ
sees d m n = neighbours d (history m.edges) n

-- a number that names no node counts as disabled
abbrev pub is_off : Model → ℕ → Bool
is_off m n = is_disabled (node_at m n)

-- from a node with a no only disabled nodes can be reached
abbrev pub may_reach : Model → ℕ → Bool
may_reach m n = slice_index_or m.reach n true

-- at first nothing is pushed, and of the direct list those are skipped that lead to disabled nodes only
abbrev pub enabled_neighbours : Direction → Model → ℕ → List ℕ
enabled_neighbours d m n = gone_through (sees d m) (is_off m) (length m.nodes) (filter (may_reach m) (sees d m n)) (noted (replicate 1024 false) [])
