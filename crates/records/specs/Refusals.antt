-- The refusals of a graph by their numbers, and what comes with each.
use Rattle.std.specs.Prelude.{ℕ, List, ◌++◌, codes, decimal}
use Rattle.records.specs.declared.refusal.Refusal.{Refusal}
use Rattle.records.specs.declared.refusal.Refusal.TheVariants.{Sealed, StillOpen, UnknownNode, NodesFull, EdgesFull, TableTooShort, ClosedWalk, NodeRowsTooFew, EdgeRowsTooFew, PathNumbersTooFew, BufferTooShort}

abbrev pub number : Refusal → ℕ
number Sealed = 1
number StillOpen = 2
number (UnknownNode n) = 3
number NodesFull = 4
number EdgesFull = 5
number (TableTooShort n) = 6
number (ClosedWalk n) = 7
number (NodeRowsTooFew n) = 8
number (EdgeRowsTooFew n) = 9
number (PathNumbersTooFew n) = 10
number (BufferTooShort n) = 11

-- a node's number or its position in a list; what there is room for; how much is needed; the lowest node on a closed walk
abbrev pub detail : Refusal → ℕ
detail Sealed = 0
detail StillOpen = 0
detail (UnknownNode n) = n
detail NodesFull = 1024
detail EdgesFull = 4096
detail (TableTooShort n) = n
detail (ClosedWalk n) = n
detail (NodeRowsTooFew n) = n
detail (EdgeRowsTooFew n) = n
detail (PathNumbersTooFew n) = n
detail (BufferTooShort n) = n

-- the two numbers as text
abbrev pub refusal_line : Refusal → List ℕ
refusal_line e = decimal (number e) ++ (codes " " ++ decimal (detail e))
