-- Numbers that are shown or hidden in turn, one more at the end.
use Rattle.std.proofs.Common.{◌≡◌, ℕ, Bool, true, false, ◌||◌, List, [], ◌∷◌, ◌++◌, Option, sym, refl, ap, ◌∙◌}
use Rattle.std.proofs.lemmas.List.{map-id}
use Rattle.std.proofs.lemmas.Iterator.{YieldsList, items_from_drains}
use Rattle.std.specs.Iterator.{Drains}
use Rattle.records.specs.declared.node.Visibility.{Visibility}
use Rattle.graph.specs.Model.{Model}
use Rattle.graph.specs.Hiding.{Change, change, idle, show, show_in_turn, and_then}

then_idle : (c : Change) → and_then c idle ≡ c
then_idle c = ap (λ b. change b c.after) (elim c.changed as (λ b. b || false ≡ b) [ true ↦ refl | false ↦ refl ])

then_then : (c : Change) (f g : Model → Change) → and_then c (λ m. and_then (f m) g) ≡ and_then (and_then c f) g
then_then c f g = let d = f c.after in let e = g d.after in ap (λ b. change b e.after) (elim c.changed as (λ b. b || (d.changed || e.changed) ≡ (b || d.changed) || e.changed) [ true ↦ refl | false ↦ refl ])

show_push : (v : Visibility) (ns : List ℕ) (n : ℕ) (m : Model) → show_in_turn v (ns ++ n ∷ []) m ≡ and_then (show_in_turn v ns m) (show v n)
show_push v [] n m = then_idle (show v n m)
show_push v (k ∷ ns) n m =
    let c = show v k m in
    ap (λ (d : Change). change (c.changed || d.changed) d.after) (show_push v ns n c.after) ∙ then_then c (show_in_turn v ns) (show v n)

pub show_one_more : (v : Visibility) (ns : List ℕ) (n : ℕ) (m m₁ m₂ : Model) (b r : Bool) → change b m₁ ≡ show_in_turn v ns m → change r m₂ ≡ show v n m₁ → change (b || r) m₂ ≡ show_in_turn v (ns ++ n ∷ []) m
show_one_more v ns n m m₁ m₂ b r e f = ap (λ (d : Change). change (b || d.changed) d.after) f ∙ ap (λ c. and_then c (show v n)) e ∙ sym (show_push v ns n m)

-- what an iterator has given, once it has given all
drained : {S : Type 0} {steps : S → Option ℕ → S → Type 0} {s : S} {all : List ℕ} → (ns : List ℕ) → Drains steps s ns → YieldsList steps (λ x. x) s all → ns ≡ all
drained ns (u, (t, given, end)) h = sym (map-id ns) ∙ items_from_drains ns (t, given, λ _. (u, end)) h

-- the numbers that an iterator gives are shown in turn
pub all_in_turn : {S : Type 0} {steps : S → Option ℕ → S → Type 0} {s : S} (v : Visibility) (all : List ℕ) (m : Model) (c : Change) → (ns : List ℕ) × Drains steps s ns × (c ≡ show_in_turn v ns m) → YieldsList steps (λ x. x) s all → c ≡ show_in_turn v all m
all_in_turn v all m c (ns, given, is) h = is ∙ ap (λ xs. show_in_turn v xs m) (drained ns given h)
