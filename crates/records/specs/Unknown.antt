-- Numbers that stand for nothing.
use Rattle.std.specs.Prelude.{ℕ, List, ◌++◌, codes, decimal}
use Rattle.records.specs.declared.node.UnknownNumber.{UnknownNumber}

abbrev pub unknown : ℕ → UnknownNumber
unknown n = record { 0 = n }

-- such a number as text
abbrev pub unknown_line : UnknownNumber → List ℕ
unknown_line u = codes "nothing has number " ++ decimal u.0
