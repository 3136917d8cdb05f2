-- What the answer to a sheet, and the graph that is left, say of its bytes.
use Rattle.std.proofs.Common.{◌≡◌, ℕ, ◌<◌, List, get_or, IfOk, Ok, Err, Result, sym, refl, ap, ◌∙◌, w8, Fits}
use Rattle.std.proofs.ByRecursion.{All-from_get_or}
use Rattle.records.specs.declared.sheet_refusal.SheetRefusal.{SheetRefusal}
use Rattle.graph.specs.Model.{Model}
use Rattle.sheet.specs.Bytes.{Bytes}
use Rattle.sheet.specs.Reading.{sheet_read, answered, left}
use Rattle.sheet.specs.Encoding.{sheet_of, Given}
use Rattle.sheet.proofs.RoundTrip.{round_trip}
use Rattle.sheet.proofs.SameBytes.{same_bytes}

pub bytes_fit : (bs : List ℕ) → ((i : ℕ) → Fits w8 (get_or bs i 0)) → Bytes bs
bytes_fit bs f = All-from_get_or (λ b. b < 256) bs 0 (λ i l. (f i).fits)

module _ (bs : List ℕ) (r : Result (Unit {0}) SheetRefusal) (m' : Model) (a : r ≡ answered (sheet_read bs)) (f : m' ≡ left (sheet_read bs)) where
  exact_by : Bytes bs → (q : Result Model SheetRefusal) → sheet_read bs ≡ q → (r₀ : Result (Unit {0}) SheetRefusal) → r ≡ r₀ → IfOk r₀ (λ _. (bs ≡ sheet_of m') × Given m')
  exact_by b q e (Err x) i = tt
  exact_by b (Err y) e (Ok _) i = absurd cc
  exact_by b (Ok m) e (Ok _) i = same_bytes bs m' b (e ∙ ap (λ x. Ok x) (sym (f ∙ ap left e)))

  -- accepted bytes are the sheet of the graph that is left
  pub exact_so : Bytes bs → IfOk r (λ _. (bs ≡ sheet_of m') × Given m')
  exact_so b = exact_by b (sheet_read bs) refl r refl

  -- the sheet of a graph is accepted, and leaves that graph
  pub whole_so : (m : Model) → Given m → bs ≡ sheet_of m → (r ≡ Ok tt) × (m' ≡ m)
  whole_so m given e =
      let back : sheet_read bs ≡ Ok m = ap sheet_read e ∙ round_trip m given in
      (a ∙ ap answered back, f ∙ ap left back)
