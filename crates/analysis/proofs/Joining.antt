-- The neighbours that are joined lie within the graph, and come one after the other.
use Rattle.std.proofs.Common.{◌≡◌, ℕ, ◌<◌, Bool, true, false, cond, List, [], length, get_or, Option, None, Some, sym, ap, ◌∙◌, subst}
use Rattle.std.specs.Iterator.{AlwaysYields, Yields}
use Rattle.std.proofs.lemmas.List.{map-id}
use Rattle.std.proofs.lemmas.Iterator.{YieldsList}
use Rattle.std.proofs.lemmas.Iterator.Consumers.{YieldsList-turn, YieldsList-end}
use Rattle.tables.specs.Steps.{Below}
use Rattle.graph.specs.Model.{Model}
use Rattle.graph.specs.Sound.{Sound}
use Rattle.graph.proofs.Sound.{neighbours_below}
use Rattle.records.specs.declared.edge.Direction.{Direction}
use Rattle.walk_neighbors.specs.PastDisabled.{sees, is_off, enabled_neighbours}
use Rattle.walk_neighbors.proofs.Each.{each_at, enabled_below}
use Rattle.analysis.specs.Near.{looking_along, near_of}

near_below : (m : Model) → Sound m → (forward skips : Bool) (n : ℕ) → Below (length m.nodes) (near_of forward skips m n)
near_below m good forward true n =
    elim (is_off m n) as (λ b. Below (length m.nodes) (cond b [] (enabled_neighbours (looking_along forward) m n))) [ true ↦ tt | false ↦ enabled_below m good (looking_along forward) n ]
near_below m good forward false n = neighbours_below (length m.nodes) m.edges (looking_along forward) n good.ends

-- an iterator that gives a list
module _ {S : Type 0} (steps : S → Option ℕ → S → Type 0) {start s : S} (all : List ℕ) (same : s ≡ start) (gives : AlwaysYields steps (λ k. k) start all) where
  road : YieldsList steps (λ k. k) s all
  road = record { runs = subst (λ k. AlwaysYields steps (λ k. k) k all) (sym same) gives }

  pub turn : (xs : List ℕ) {t u : S} {r : Option ℕ} {x : ℕ} → Yields steps s xs t → r ≡ Some x → steps t r u → (length xs < length all) × (x ≡ get_or all (length xs) x)
  turn xs {t} {u} {r} {x} y is step = YieldsList-turn road xs t y r u x is step

  pub at_end : (xs : List ℕ) {t u : S} {r : Option ℕ} → Yields steps s xs t → r ≡ None → steps t r u → xs ≡ all
  at_end xs {t} {u} {r} y is step = sym (map-id xs) ∙ (YieldsList-end road xs t y r u is step).0

-- each neighbour that is given is a node
pub neighbour_low : (m : Model) → Sound m → (forward skips : Bool) (n : ℕ) {S : Type 0} (steps : S → Option ℕ → S → Type 0) {start s t u : S} {r : Option ℕ} {x : ℕ} → s ≡ start → AlwaysYields steps (λ k. k) start (near_of forward skips m n) → (xs : List ℕ) → Yields steps s xs t → r ≡ Some x → steps t r u → x < length m.nodes
neighbour_low m good forward skips n steps {x = x} same gives xs y is step =
    let at = turn steps (near_of forward skips m n) same gives xs y is step in
    subst (λ k. k < length m.nodes) (sym at.1) (each_at (λ k. k < length m.nodes) (near_of forward skips m n) (length xs) x (near_below m good forward skips n) at.0)

-- which neighbours are joined
pub near_direct : (forward skips : Bool) (m : Model) (n : ℕ) (d : Direction) (xs : List ℕ) → d ≡ looking_along forward → skips ≡ false → xs ≡ sees d m n → xs ≡ near_of forward skips m n
near_direct forward skips m n d xs way all is =
    is ∙ ap (λ e. sees e m n) way ∙ sym (ap (λ s. near_of forward s m n) all)

pub near_past : (forward skips : Bool) (m : Model) (n : ℕ) (d : Direction) (xs : List ℕ) → d ≡ looking_along forward → skips ≡ true → is_off m n ≡ false → xs ≡ enabled_neighbours d m n → xs ≡ near_of forward skips m n
near_past forward skips m n d xs way past on is =
    is
    ∙ ap (λ e. enabled_neighbours e m n) way
    ∙ sym (ap (λ b. cond b [] (enabled_neighbours (looking_along forward) m n)) on)
    ∙ sym (ap (λ s. near_of forward s m n) past)

-- the same list, said otherwise
pub listed_as : {S A B : Type 0} {steps : S → Option A → S → Type 0} {v : A → B} {s : S} {xs : List B} (ys : List B) → xs ≡ ys → YieldsList steps v s xs → YieldsList steps v s ys
listed_as {steps = steps} {v = v} {s = s} ys same e = subst (YieldsList steps v s) same e
