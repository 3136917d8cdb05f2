-- Yes/no tables.
use Rattle.std.specs.Prelude.{ℕ, zero, suc, Bool, false, cond, List, slice_index_or}

-- how many of the first n entries are no
abbrev pub blanks : ℕ → List Bool → ℕ
blanks zero t = 0
blanks (suc n) t = cond (slice_index_or t n false) (blanks n t) (suc (blanks n t))
