-- The refusals of a sheet by their numbers, and what comes with each.
use Rattle.std.specs.Prelude.{ℕ, List, ◌++◌, codes, decimal}
use Rattle.records.specs.declared.sheet_refusal.SheetRefusal.{SheetRefusal}
use Rattle.records.specs.declared.sheet_refusal.SheetRefusal.TheVariants.{Short, Version, Length, Misfit, BadByte, Row}
use Rattle.records.specs.Refusals.{refusal_line}

abbrev pub sheet_number : SheetRefusal → ℕ
sheet_number (Short n) = 12
sheet_number Version = 13
sheet_number Length = 14
sheet_number (Misfit p) = 15
sheet_number (BadByte p) = 16
sheet_number (Row p e) = 17

-- the byte count of a short sheet, else the place of a byte, counted from 0
abbrev pub sheet_detail : SheetRefusal → ℕ
sheet_detail (Short n) = n
sheet_detail Version = 0
sheet_detail Length = 1
sheet_detail (Misfit p) = p
sheet_detail (BadByte p) = p
sheet_detail (Row p e) = p

-- the two numbers as text, and what follows them
abbrev pub line_with : SheetRefusal → List ℕ → List ℕ
line_with e rest = decimal (sheet_number e) ++ (codes " " ++ (decimal (sheet_detail e) ++ rest))

-- after a row that the graph refused, the graph's refusal too
abbrev pub sheet_refusal_line : SheetRefusal → List ℕ
sheet_refusal_line (Short n) = line_with (Short n) (codes "")
sheet_refusal_line Version = line_with Version (codes "")
sheet_refusal_line Length = line_with Length (codes "")
sheet_refusal_line (Misfit p) = line_with (Misfit p) (codes "")
sheet_refusal_line (BadByte p) = line_with (BadByte p) (codes "")
sheet_refusal_line (Row p e) = line_with (Row p e) (codes " graph " ++ refusal_line e)
