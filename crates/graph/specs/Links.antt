-- Links from a node to its newest edge, and from each edge to the next older one at the same node.
use Rattle.std.specs.Prelude.{◌≡◌, ℕ, suc, ◌<◌, cond, List, [], ◌∷◌, length, take, Some, None, Option, ◌==◌, slice_index_or}
use Rattle.records.specs.declared.edge.Edge.{Edge}
use Rattle.records.specs.declared.edge.Direction.{Direction}
use Rattle.records.specs.Edges.{no_edge, history, near}
use Rattle.graph.specs.declared.lists.Links.{Links}

-- how many edges there were when the newest edge at n had been added, 0 if there is none; the edges stand newest first
abbrev pub newest : Direction → List Edge → ℕ → ℕ
newest d [] n = 0
newest d (e ∷ es) n = cond (near d e == n) (suc (length es)) (newest d es n)

-- the same of a link
abbrev pub upto : Option ℕ → ℕ
upto None = 0
upto (Some e) = suc e

-- each node's first link is to its newest edge
abbrev pub Starts : Direction → List Edge → List (Option ℕ) → Type 0
Starts d rows first = (n : ℕ) → n < 1024 → upto (slice_index_or first n None) ≡ newest d (history rows) n

-- from each edge the link is to the newest of the older edges at the same node
abbrev pub GoesOn : Direction → List Edge → List (Option ℕ) → Type 0
GoesOn d rows next = (e : ℕ) → e < length rows → upto (slice_index_or next e None) ≡ newest d (history (take e rows)) (near d (slice_index_or rows e no_edge))

-- the links of one direction lead through each node's edges, newest first
abbrev pub Chained : Direction → List Edge → Links → Type 0
Chained d rows links = Starts d rows links.first × GoesOn d rows links.next
