-- One turn of the stack search's loop.
use Rattle.std.proofs.Common.{◌≡◌, ℕ, suc, ◌+◌, ◌<◌, ◌≤◌, Bool, true, false, List, [], ◌∷◌, length, get_or, set, refl, sym, ap, ◌∙◌, subst, arith}
use Rattle.tables.specs.Marks.{blanks}
use Rattle.tables.specs.Steps.{Below}
use Rattle.tables.proofs.Marking.{blanks_set}
use Rattle.records.specs.Walks.{Among}
use Rattle.walks.specs.Exploring.{stacked, searched, pending, Left}
use Rattle.walks.proofs.Exploring.{turn_new, turn_none, pending_set, length_stacked, below_stacked}

-- what the loop keeps
pub record Going (test : List Bool → ℕ → Bool) (next : ℕ → List ℕ) (N : ℕ) (v₀ : List Bool) (st₀ o₀ : List ℕ) (v : List Bool) (st o : List ℕ) : Type 0 where
  pub same : searched test next (blanks N v) st v o ≡ searched test next (blanks N v₀) st₀ v₀ o₀
  pub below : Below N st
  pub room : length st + pending next N v ≤ 8193
  pub notes : length o + blanks N v ≤ length o₀ + blanks N v₀

module _ (test : List Bool → ℕ → Bool) (next : ℕ → List ℕ) (N : ℕ) (v₀ : List Bool) (st₀ o₀ : List ℕ) where
  pub starts : Below N st₀ → length st₀ + pending next N v₀ ≤ 8193 → Going test next N v₀ st₀ o₀ v₀ st₀ o₀
  starts b r = record { same = refl; below = b; room = r; notes = omega arith }

  module _ (v : List Bool) (st rest o : List ℕ) (n : ℕ) (top : st ≡ n ∷ rest) (g : Going test next N v₀ st₀ o₀ v st o) where
    pub top_below : (n < N) × Below N rest
    top_below = subst (Below N) top g.below

    module _ (new : get_or v n false ≡ false) (long : N ≤ length v) where
      fewer : blanks N v ≡ suc (blanks N (set v n true))
      fewer = let low = top_below.0 in blanks_set N n v low (omega arith) new

      less_pending : pending next N v ≡ length (next n) + pending next N (set v n true)
      less_pending = let low = top_below.0 in pending_set next N n v low (omega arith) new

      pub order_room : length o₀ + blanks N v₀ ≤ 8193 → length o < 8193
      order_room r = let f = fewer in let notes = g.notes in omega arith

      pub push_room : length rest + length (next n) ≤ 8193
      push_room = let p = less_pending in let size = ap length top in let r = g.room in omega arith

      pub falls : length (stacked (test (set v n true)) (next n) rest) + pending next N (set v n true) < length st + pending next N v
      falls = let p = less_pending in let size = ap length top in let l = length_stacked (test (set v n true)) (next n) rest in omega arith

      pub new_going : ((m : ℕ) → Among m (next n) → m < N) → Going test next N v₀ st₀ o₀ (set v n true) (stacked (test (set v n true)) (next n) rest) (n ∷ o)
      new_going low =
          let f = fewer in
          let lower = falls in
          let r = g.room in
          let notes = g.notes in
          record {
            same = sym (turn_new (λ m w s. stacked (test w) (next m) s) (blanks N (set v n true)) n rest v o new) ∙ ap (λ k. searched test next k (n ∷ rest) v o) (sym f) ∙ ap (λ s. searched test next (blanks N v) s v o) (sym top) ∙ g.same;
            below = below_stacked (test (set v n true)) N (next n) rest low top_below.1;
            room = omega arith;
            notes = omega arith;
          }

  pub ends_left : (v : List Bool) (st o : List ℕ) → st ≡ [] → Going test next N v₀ st₀ o₀ v st o → Left (searched test next (blanks N v₀) st₀ v₀ o₀) v o
  ends_left v st o none g =
      let is : searched test next (blanks N v₀) st₀ v₀ o₀ ≡ record { visited = v; order = o } = sym g.same ∙ ap (λ s. searched test next (blanks N v) s v o) none ∙ turn_none (λ m w s. stacked (test w) (next m) s) (blanks N v) v o in
      record { marks = sym (ap (λ t. t.visited) is); turns = sym (ap (λ t. t.order) is) }
