-- Disabling, showing and hiding nodes.
use Rattle.std.specs.Prelude.{◌≡◌, ℕ, zero, suc, Bool, false, cond, not, ◌||◌, List, [], ◌∷◌, length, Ok, Err, Result, Some, None, Option, nat_le, slice_set}
use Rattle.std.specs.List.{position, range_with_len}
use Rattle.records.specs.declared.node.NodeKind.{NodeKind}
use Rattle.records.specs.declared.node.NodeState.{NodeState}
use Rattle.records.specs.declared.node.NodeState.TheVariants.{Disabled}
use Rattle.records.specs.declared.node.Visibility.{Visibility}
use Rattle.records.specs.declared.node.Visibility.TheVariants as visibility
use Rattle.records.specs.declared.refusal.Refusal.{Refusal}
use Rattle.records.specs.declared.refusal.Refusal.TheVariants.{UnknownNode}
use Rattle.records.specs.declared.stage.Call.TheVariants as call
use Rattle.records.specs.declared.stage.Stage.TheVariants.{Sealed}
use Rattle.records.specs.Nodes.{same_state, in_state, is_disabled, is_shown, asked}
use Rattle.records.specs.Stages.{admission}
use Rattle.graph.specs.Adding.{add_node, node_at, known}
use Rattle.graph.specs.Model.{Model, Outcome, done, outcome, admitted, with_nodes, with_generation}
use Rattle.graph.specs.Tallies.{risen}

-- whether any state changed, and the graph after it
pub record Change : Type 0 where
  pub changed : Bool
  pub after : Model

abbrev pub change : Bool → Model → Change
change b m = record { changed = b; after = m }

-- node n is in the state, and the generation has risen if it was not so before
abbrev pub put : ℕ → NodeState → Model → Change
put n s m =
    let same : Bool = same_state (node_at m n).state s in
    record {
      changed = not same;
      after = with_generation (cond same m.generation (risen m.generation)) (with_nodes (slice_set m.nodes n (in_state s (node_at m n))) m);
    }

-- a sealed graph's disabled nodes stay disabled, and its others stay not so
abbrev pub Keeps : ℕ → NodeState → Model → Type 0
Keeps n s m = m.stage ≡ Sealed → is_disabled (node_at m n) ≡ same_state s Disabled

abbrev pub idle : Model → Change
idle m = change false m

-- a disabled node stays so and answers no
abbrev pub show : Visibility → ℕ → Model → Change
show v n m = cond (is_disabled (node_at m n)) (idle m) (put n (asked v) m)

-- one change, then another on what it left
abbrev pub and_then : Change → (Model → Change) → Change
and_then c f =
    let d : Change = f c.after in record { changed = c.changed || d.changed; after = d.after }

-- every number in turn, first to last
abbrev pub show_in_turn : Visibility → List ℕ → Model → Change
show_in_turn v [] m = idle m
show_in_turn v (n ∷ ns) m = and_then (show v n m) (show_in_turn v ns)

-- every node's number in turn
abbrev pub show_all : Visibility → Model → Change
show_all v m = show_in_turn v (range_with_len 0 (length m.nodes)) m

-- what is left of a list after its first k entries that are shown
abbrev pub after_shown : ℕ → List ℕ → Model → List ℕ
after_shown zero ns m = ns
after_shown (suc k) [] m = []
after_shown (suc k) (n ∷ ns) m = cond (is_shown (node_at m n)) (after_shown k ns m) (after_shown (suc k) ns m)

-- the list's first k entries that are shown are passed, and the rest of the list is hidden
abbrev pub keep_first : ℕ → List ℕ → Model → Change
keep_first k ns m = show_in_turn visibility.Hidden (after_shown k ns m) m

-- none where no place is told, else a refusal that tells the place
abbrev pub unknown_at : Option ℕ → Result (Unit {0}) Refusal
unknown_at None = Ok tt
unknown_at (Some k) = Err (UnknownNode k)

-- the first place at which a number stands that names no node
abbrev pub all_known : List ℕ → Model → Result (Unit {0}) Refusal
all_known ns m = unknown_at (position (λ n. nat_le (length m.nodes) n) ns)

abbrev pub told : Change → Outcome Bool
told c = done c.changed c.after

-- a node is added, and then put into its state
abbrev pub in_its_state : NodeState → Outcome ℕ → Outcome ℕ
in_its_state s o = outcome o.answer (elim o.answer [ Ok n ↦ (put n s o.after).after | Err e ↦ o.after ])

abbrev pub add_node_in : NodeState → NodeKind → ℕ → Model → Outcome ℕ
add_node_in s kind item m = in_its_state s (add_node kind item m)

abbrev pub disable : ℕ → Model → Outcome Bool
disable n m = admitted (admission m.stage call.Disable) m (admitted (known n m) m (told (put n Disabled m)))

abbrev pub set_visibility : ℕ → Visibility → Model → Outcome Bool
set_visibility n v m = admitted (admission m.stage call.SetVisibility) m (admitted (known n m) m (told (show v n m)))

abbrev pub set_visibility_many : Visibility → List ℕ → Model → Outcome Bool
set_visibility_many v ns m = admitted (admission m.stage call.SetVisibility) m (admitted (all_known ns m) m (told (show_in_turn v ns m)))

abbrev pub reset_visibility_to : Visibility → Model → Outcome Bool
reset_visibility_to v m = admitted (admission m.stage call.SetVisibility) m (told (show_all v m))

abbrev pub keep_first_n : List ℕ → ℕ → Model → Outcome Bool
keep_first_n ns k m = admitted (admission m.stage call.SetVisibility) m (admitted (all_known ns m) m (told (keep_first k ns m)))
