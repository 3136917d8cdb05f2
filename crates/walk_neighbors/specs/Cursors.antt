-- What a walk past disabled nodes has still to give in a graph.
use Rattle.std.specs.Prelude.{◌≡◌, ℕ, suc, ◌+◌, ◌≤◌, cond, List, [], ◌∷◌, length, Some, None, filter, Option}
use Rattle.std.specs.List.{AllByRecursion-prop}
use Rattle.std.specs.Coded.{le_prop}
use Rattle.tables.specs.Steps.{Below}
use Rattle.graph.specs.Model.{Model}
use Rattle.graph.specs.Cursors.{coming_in}
use Rattle.walk_neighbors.specs.declared.walk.WalkNeighbors.{WalkNeighbors}
use Rattle.walk_neighbors.specs.PastDisabled.{Noted, push_all, gone_through, pops, sees, is_off, may_reach}

-- what is noted goes with a graph of so many nodes
pub record Fits (nodes : ℕ) (p : Noted) : Type 0 where
  pub long : nodes ≤ length p.visited
  pub below : Below nodes p.stack
  pub room : pops nodes p ≤ 1024

-- a walk that goes with a graph: new ones do, and stay so
abbrev pub Fit : Model → WalkNeighbors → Type 0
Fit m w = Fits (length m.nodes) w.pending

-- there is only one way in which it does
pub fit_prop : (m : Model) (w : WalkNeighbors) → IsProp (Fit m w)
fit_prop m w x y = λ i. record {
  long = le_prop x.long y.long i;
  below = AllByRecursion-prop _ (λ _. le_prop) w.pending.stack x.below y.below i;
  room = le_prop x.room y.room i;
}

-- the rest of the direct list, without those skipped
abbrev pub direct_of : Model → WalkNeighbors → List ℕ
direct_of m w = filter (may_reach m) (coming_in m.edges w.direct)

-- how many nodes may still be popped
abbrev pub pops_of : Model → WalkNeighbors → ℕ
pops_of m w = pops (length m.nodes) w.pending

-- what is still to come
abbrev pub to_come : Model → WalkNeighbors → List ℕ
to_come m w = gone_through (sees w.direction m) (is_off m) (pops_of m w) (direct_of m w) w.pending

-- what comes from a node on that was met
abbrev pub after : Model → ℕ → WalkNeighbors → List ℕ
after m n w =
    cond (is_off m n)
    (gone_through (sees w.direction m) (is_off m) (pops_of m w) (direct_of m w) (push_all (sees w.direction m n) w.pending))
    (n ∷ to_come m w)

-- how many nodes can still be met
abbrev pub left : Model → WalkNeighbors → ℕ
left m w = length (direct_of m w) + pops_of m w

-- a node is met, or there is none left
abbrev pub Met : Model → WalkNeighbors → Option ℕ → WalkNeighbors → Type 0
Met m w None w' = (to_come m w ≡ []) × (to_come m w' ≡ [])
Met m w (Some n) w' = (to_come m w ≡ after m n w') × (left m w ≡ suc (left m w'))
