-- The bytes of a report: a line for each fact, or one line for a refusal; each line ends in LF.
use Rattle.std.specs.Prelude.{ℕ, List, [], ◌∷◌, ◌++◌, codes, decimal}
use Rattle.records.specs.declared.sheet_refusal.SheetRefusal.{SheetRefusal}
use Rattle.records.specs.SheetRefusals.{sheet_refusal_line}
use Rattle.sheet_report.specs.declared.summary.Summary.{Summary}

-- a name, a space and a number
abbrev pub line : List ℕ → ℕ → List ℕ
line name n = name ++ (codes " " ++ (decimal n ++ codes "\n"))

-- a line for each fact
abbrev pub lines : List (List ℕ × ℕ) → List ℕ
lines [] = []
lines (fact ∷ facts) = line fact.0 fact.1 ++ lines facts

abbrev pub states : Summary → List (List ℕ × ℕ)
states s =
    (codes "nodes", s.nodes)
    ∷ (codes "edges", s.edges)
    ∷ (codes "shown", s.shown)
    ∷ (codes "hidden", s.stats.hidden)
    ∷ (codes "disabled", s.stats.disabled)
    ∷ (codes "generation", s.stats.generation)
    ∷ []

abbrev pub kinds : Summary → List (List ℕ × ℕ)
kinds s =
    (codes "Instantiation", s.instantiations)
    ∷ (codes "ENode", s.enodes)
    ∷ (codes "GivenEquality", s.given_equalities)
    ∷ (codes "TransEquality", s.trans_equalities)
    ∷ (codes "Proof", s.proofs)
    ∷ (codes "Cdcl", s.cdcls)
    ∷ []

abbrev pub summary_text : Summary → List ℕ
summary_text s = lines (states s) ++ lines (kinds s)

-- one line with the refusal
abbrev pub refusal_text : SheetRefusal → List ℕ
refusal_text e = codes "refused sheet " ++ (sheet_refusal_line e ++ codes "\n")
