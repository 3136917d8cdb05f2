-- What a run answers and leaves.
use Rattle.std.specs.Prelude.{ℕ, Bool, true, false, List, ◌++◌, reverse, length, drop, Ok, Err, Result, slice_index_or}
use Rattle.records.specs.declared.refusal.Refusal.{Refusal}
use Rattle.records.specs.declared.stage.Call.TheVariants.{TopoAnalysis}
use Rattle.records.specs.Stages.{admission}
use Rattle.graph.specs.Model.{Model, unless_refused}
use Rattle.graph.specs.Adding.{room_for}
use Rattle.analysis.specs.Near.{near_of}
use Rattle.analysis.specs.Rule.{Meaning, ruled, value_table}

-- the nodes in the order in which a run comes to them: along a graph's order, or against it
abbrev pub walk : Bool → List ℕ → List ℕ
walk true order = order
walk false order = reverse order

-- the value of node n by the rule, from the values in a table
abbrev pub value_from : {V : Type 0} → Meaning V → Bool → Bool → Model → List V → ℕ → V
value_from a forward skips m table n = ruled a m.nodes (near_of forward skips m) (λ k. slice_index_or table k a.blank) n

abbrev pub run_answer : ℕ → Model → Result (Unit {0}) Refusal
run_answer entries m = unless_refused (admission m.stage TopoAnalysis) (room_for entries m)

-- a run that is done leaves the value table, and what lay past it; one that is refused leaves the table as it was
abbrev pub left_by : {V : Type 0} → Result (Unit {0}) Refusal → List V → List V → List V
left_by (Ok _) done before = done
left_by (Err e) done before = before

abbrev pub run_table : {V : Type 0} → Meaning V → Bool → Bool → Model → List V → List V
run_table a forward skips m before =
    left_by (run_answer (length before) m) (value_table a m.nodes (near_of forward skips m) ++ drop (length m.nodes) before) before
