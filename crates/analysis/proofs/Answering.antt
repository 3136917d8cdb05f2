-- What a run that was not refused says of the graph and the table.
use Rattle.std.proofs.Common.{◌≡◌, ℕ, ◌≤◌, length, Ok, Err, sym, refl, ap, ◌∙◌}
use Rattle.records.specs.declared.refusal.Refusal.TheVariants.{StillOpen}
use Rattle.records.specs.declared.stage.Stage.{Stage}
use Rattle.records.specs.declared.stage.Stage.TheVariants.{Open, Sealed}
use Rattle.records.specs.Stages.{of_sealed}
use Rattle.graph.specs.Model.{Model, unless_refused}
use Rattle.graph.specs.Adding.{room_for}
use Rattle.graph.proofs.Rooms.{passed_room}
use Rattle.analysis.specs.Runs.{run_answer}

-- a run that was done had a sealed graph, and an entry for each node
pub done_says : (entries : ℕ) (m : Model) → run_answer entries m ≡ Ok tt → (m.stage ≡ Sealed) × (length m.nodes ≤ entries)
done_says entries m ok = staged m.stage refl
  where
    staged : (s : Stage) → m.stage ≡ s → (m.stage ≡ Sealed) × (length m.nodes ≤ entries)
    staged Open q =
        let refused : run_answer entries m ≡ Err StillOpen = ap (λ t. unless_refused (of_sealed t) (room_for entries m)) q in
        absurd cc
    staged Sealed q = (q, passed_room m entries (sym (ap (λ t. unless_refused (of_sealed t) (room_for entries m)) q) ∙ ok))
