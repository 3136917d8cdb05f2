-- What the reach analysis leaves in a work table, and what is left once it is blank again.
use Rattle.std.proofs.Common.{◌≡◌, ◌≤◌, Bool, false, ltb, List, ◌++◌, length, take, drop, replicate, Ok, Err, ap, ◌∙◌, take_at, drop_at}
use Rattle.std.proofs.lemmas.List.FromFn.{length-map-range_with_len}
use Rattle.std.proofs.lemmas.Bool.{le-ltb, cond-false}
use Rattle.records.specs.declared.refusal.Refusal.TheVariants.{TableTooShort}
use Rattle.records.specs.declared.stage.Call.TheVariants.{TopoAnalysis}
use Rattle.records.specs.declared.stage.Stage.TheVariants.{Sealed}
use Rattle.records.specs.Stages.{admission}
use Rattle.tables.specs.Filled.{filled}
use Rattle.graph.specs.Model.{Model, unless_refused}
use Rattle.analysis.specs.Rule.{worth}
use Rattle.analysis.specs.Near.{near_of}
use Rattle.graph.specs.Adding.{room_for}
use Rattle.analysis.specs.Runs.{run_answer, run_table, left_by}
use Rattle.routes.specs.Reach.{reach_meaning}
use Rattle.reconnect.specs.Reach.{is_enabled}
use Rattle.inst_graph.specs.Reached.{reach_table}

pub length_reach : (m : Model) → length (reach_table m) ≡ length m.nodes
length_reach m = length-map-range_with_len (worth (reach_meaning is_enabled) m.nodes (near_of false false m) (length m.nodes)) 0 (length m.nodes)

module _ (m : Model) (work : List Bool) (sealed : m.stage ≡ Sealed) (room : length m.nodes ≤ length work) where
  pub run_done : run_answer (length work) m ≡ Ok tt
  run_done =
      ap (λ s. unless_refused (admission s TopoAnalysis) (room_for (length work) m)) sealed
      ∙ cond-false (ltb (length work) (length m.nodes)) (Err (TableTooShort (length m.nodes))) (Ok tt) (le-ltb (length work) (length m.nodes) room)

  module _ (t : List Bool) (left : t ≡ run_table (reach_meaning is_enabled) false false m work) where
    is_run : t ≡ reach_table m ++ drop (length m.nodes) work
    is_run = left ∙ ap (λ r. left_by r (reach_table m ++ drop (length m.nodes) work) work) run_done

    pub front : take (length m.nodes) t ≡ reach_table m
    front = ap (take (length m.nodes)) is_run ∙ take_at (reach_table m) (drop (length m.nodes) work) (length m.nodes) (length_reach m)

    pub blank_again : filled (length m.nodes) false t ≡ filled (length m.nodes) false work
    blank_again = ap (λ l. replicate (length m.nodes) false ++ l) (ap (drop (length m.nodes)) is_run ∙ drop_at (reach_table m) (drop (length m.nodes) work) (length m.nodes) (length_reach m))
