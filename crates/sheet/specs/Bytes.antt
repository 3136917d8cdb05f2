-- What the bytes of a sheet stand for; numbers are big-endian.
use Rattle.std.specs.Prelude.{ℕ, ◌+◌, ◌*◌, ◌<◌, List, slice_index}
use Rattle.std.specs.List.{AllByRecursion}

-- each number fits a byte
abbrev pub Bytes : List ℕ → Type 0
Bytes bs = AllByRecursion (λ b. b < 256) bs

-- the number in the two bytes at a place, and in the four
abbrev pub word : List ℕ → ℕ → ℕ
word bs p = slice_index bs p * 256 + slice_index bs (p + 1)

abbrev pub long : List ℕ → ℕ → ℕ
long bs p = slice_index bs p * 16777216 + slice_index bs (p + 1) * 65536 + slice_index bs (p + 2) * 256 + slice_index bs (p + 3)
