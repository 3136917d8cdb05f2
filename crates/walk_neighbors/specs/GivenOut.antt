-- What going past disabled nodes gives out, node by node.
use Rattle.std.specs.Prelude.{◌≡◌, ℕ, suc, Bool, true, false, List, count_by, nat_eq}
use Rattle.records.specs.declared.edge.Direction.{Direction}
use Rattle.records.specs.Walks.{Among}
use Rattle.graph.specs.Model.{Model}
use Rattle.walk_neighbors.specs.PastDisabled.{sees, is_off}

-- how often x stands in a list
unfoldable pub times : ℕ → List ℕ → ℕ
times x xs = count_by (λ y. nat_eq y x) xs

-- in the list of a disabled node that is reached from the start over disabled nodes only
pub data Past (lists : ℕ → List ℕ) (off : ℕ → Bool) (start : List ℕ) : ℕ → Type 0 where
  near_by : {m x : ℕ} → Among m start → off m ≡ true → Among x (lists m) → Past lists off start x
  onward : {m x : ℕ} → Past lists off start m → off m ≡ true → Among x (lists m) → Past lists off start x

-- no disabled node is given out; another is given out once for each time that it is in the start, and once more if it is past disabled nodes
pub record Gives (lists : ℕ → List ℕ) (off : ℕ → Bool) (start given : List ℕ) : Type 0 where
  pub enabled : (x : ℕ) → off x ≡ true → times x given ≡ 0
  pub direct : (x : ℕ) → off x ≡ false → (Past lists off start x → ⊥) → times x given ≡ times x start
  pub past : (x : ℕ) → off x ≡ false → Past lists off start x → times x given ≡ suc (times x start)

-- what is given out from a node that is not disabled
abbrev pub GivesFrom : Direction → Model → ℕ → List ℕ → Type 0
GivesFrom d m n given = is_off m n ≡ false → Gives (sees d m) (is_off m) (sees d m n) given
