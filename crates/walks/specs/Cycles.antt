-- The test for closed walks.
use Rattle.std.specs.Prelude.{◌≡◌, ℕ, zero, suc, ◌<◌, ◌≤◌, Bool, false, cond, ◌↔◌, List, [], length, replicate, Ok, Err, Result, nat_lt, slice_index_or}
use Rattle.records.specs.declared.edge.Edge.{Edge}
use Rattle.records.specs.declared.refusal.Refusal.{Refusal}
use Rattle.records.specs.declared.refusal.Refusal.TheVariants.{TableTooShort, ClosedWalk}
use Rattle.records.specs.Walks.{Acyclic, Lowest, Joins}
use Rattle.tables.specs.Filled.{filled}
use Rattle.graph.specs.Adding.{room_for}
use Rattle.graph.specs.Model.{Model, unless_refused}
use Rattle.walks.specs.Exploring.{targets, piled, explored}

-- among N nodes, what the stack search along outgoing edges visits when it begins with the targets of n
abbrev pub reached_from : List Edge → ℕ → ℕ → List Bool
reached_from es N n = (explored (targets es) N (piled (targets es n) (replicate N false) []) (replicate N false) []).visited

-- whether n is among them
abbrev pub comes_back : List Edge → ℕ → ℕ → Bool
comes_back es N n = slice_index_or (reached_from es N n) n false

-- the nodes below n are tested, the lowest first
abbrev pub checked : List Edge → ℕ → ℕ → Result (Unit {0}) Refusal
checked es N zero = Ok tt
checked es N (suc n) = unless_refused (checked es N n) (cond (comes_back es N n) (Err (ClosedWalk n)) (Ok tt))

-- all nodes are tested, in a work table of that room
abbrev pub acyclic_answer : Model → ℕ → Result (Unit {0}) Refusal
acyclic_answer m room = unless_refused (room_for room m) (checked m.edges (length m.nodes) (length m.nodes))

-- a work table after that: as it was if it has too few entries for n nodes, else with these entries blank
abbrev pub left_blank : ℕ → List Bool → List Bool
left_blank n work = cond (nat_lt (length work) n) work (filled n false work)

-- ---- the law, in both directions
pub record Tested (m : Model) (room : ℕ) (r : Result (Unit {0}) Refusal) : Type 0 where
  pub passed : (r ≡ Ok tt) ↔ ((length m.nodes ≤ room) × Acyclic (Joins m.edges))
  pub closed : (n : ℕ) → (r ≡ Err (ClosedWalk n)) ↔ ((length m.nodes ≤ room) × Lowest (Joins m.edges) n)
  pub short : (n : ℕ) → (r ≡ Err (TableTooShort n)) ↔ ((n ≡ length m.nodes) × (room < length m.nodes))
