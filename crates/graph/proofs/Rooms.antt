-- What the test for a table that is too short says.
use Rattle.std.proofs.Common.{◌≡◌, ℕ, ◌<◌, ◌≤◌, length, Ok, Err, ⊎_elim}
use Rattle.std.proofs.lemmas.Bool.{cases_lt, cond-true, lt-ltb}
use Rattle.records.specs.declared.refusal.Refusal.TheVariants.{TableTooShort}
use Rattle.graph.specs.Adding.{room_for}
use Rattle.graph.specs.Model.{Model}

pub too_short : (m : Model) (room : ℕ) → room < length m.nodes → room_for room m ≡ Err (TableTooShort (length m.nodes))
too_short m room lt = cond-true _ _ _ (lt-ltb room (length m.nodes) lt)

pub passed_room : (m : Model) (room : ℕ) → room_for room m ≡ Ok tt → length m.nodes ≤ room
passed_room m room ok =
    ⊎_elim (λ (lt : room < length m.nodes). let short = too_short m room lt in absurd cc) (λ (ge : length m.nodes ≤ room). ge) (cases_lt room (length m.nodes))
