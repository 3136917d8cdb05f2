use Rattle.std.proofs.Common.{ℕ, List, [], ◌∷◌, length, Some, None, ap, arith}
use Rattle.std.specs.List.{flat_map}
use Rattle.routes.specs.View.{Row, direct, across}
use Rattle.routes.proofs.worked.misreadings_give_other_rows.Goals as goal

-- the number of rows that have a path
with_path : Row → List ℕ
with_path (direct u t e) = []
with_path (across u t e mark None) = []
with_path (across u t e mark (Some path)) = u ∷ []

pub returns : goal.returns
unfolding with_path
returns c = (
  (λ e. let n = ap length e in omega arith),
  (λ e. let n = ap length e in omega arith),
  (λ e. let n = ap (λ rows. length (flat_map with_path rows)) e in omega arith),
  (λ e. let n = ap (λ rows. length (flat_map with_path rows)) e in omega arith),
  (λ e. let n = ap length e in omega arith),
)
