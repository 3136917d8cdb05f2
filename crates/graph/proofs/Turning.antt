-- Showing and hiding node by node, one step and then the next.
use Rattle.std.proofs.Common.{◌≡◌, ℕ, zero, suc, ◌+◌, ◌<◌, ◌≤◌, Bool, true, false, cond, not, ◌&&◌, ◌||◌, eqb, List, [], ◌∷◌, length, sym, ap, ◌∙◌, subst, arith}
use Rattle.std.proofs.lemmas.List.{ext_get_or}
use Rattle.std.proofs.lemmas.Grind.{common_steps}
use Rattle.std.specs.List.{range_with_len}
use Rattle.records.specs.declared.node.Node.{Node}
use Rattle.records.specs.declared.node.Visibility.{Visibility}
use Rattle.records.specs.Nodes.{in_state, is_disabled, asked}
use Rattle.graph.specs.Adding.{node_at}
use Rattle.graph.specs.Hiding.{Change, change, show, show_in_turn, show_all}
use Rattle.graph.specs.HidingLaws.{named, Turned}
use Rattle.graph.specs.Model.{Model, with_nodes, with_generation}

-- a node after it was asked, or not
abbrev turn : Visibility → Bool → Node → Node
turn v b x = cond (b && not (is_disabled x)) (in_state (asked v) x) x

-- asking twice is asking once
turn_twice : (v : Visibility) (a b : Bool) (x : Node) → turn v b (turn v a x) ≡ turn v (a || b) x
turn_twice v a b x = grind (arith, common_steps)

pub turned_none : (v : Visibility) (m : Model) → Turned v (named []) false m m
turned_none v m = grind (arith, common_steps)

pub turned_one : (v : Visibility) (n : ℕ) (m : Model) → Turned v (eqb n) (show v n m).changed m (show v n m).after
turned_one v n m = grind (arith, common_steps)

module _ (v : Visibility) (p q : ℕ → Bool) (c d : Bool) (m₀ m₁ m₂ : Model) (one : Turned v p c m₀ m₁) (two : Turned v q d m₁ m₂) where
  both_at : (k : ℕ) → k < length m₀.nodes → node_at m₂ k ≡ turn v (p k || q k) (node_at m₀ k)
  both_at k h =
      let long = one.many in
      two.nodes k (omega arith) ∙ ap (turn v (q k)) (one.nodes k h) ∙ turn_twice v (p k) (q k) (node_at m₀ k)

  -- where both together change nothing, the first changes nothing
  undone_at : m₂.nodes ≡ m₀.nodes → (k : ℕ) → k < length m₀.nodes → node_at m₁ k ≡ node_at m₀ k
  undone_at e k h = grind (arith, common_steps, both_at k h, one.nodes k h)

  undone : m₂.nodes ≡ m₀.nodes → m₁.nodes ≡ m₀.nodes
  undone e = let long = one.many in ext_get_or _ m₁.nodes m₀.nodes one.many (λ k h. undone_at e k (omega arith))

  pub turned_then : Turned v (λ k. p k || q k) (c || d) m₀ m₂
  turned_then = record { nodes = both_at; many = two.many ∙ one.many; told = (λ e. grind (arith, common_steps), λ e. let u = undone e in grind (arith, common_steps)); rest = two.rest ∙ ap (λ m. with_generation m₂.generation (with_nodes m₂.nodes m)) one.rest }

pub turned_all : (v : Visibility) (ns : List ℕ) (m : Model) → Turned v (named ns) (show_in_turn v ns m).changed m (show_in_turn v ns m).after
turned_all v [] m = turned_none v m
turned_all v (n ∷ ns) m =
    let first = show v n m in
    let rest = show_in_turn v ns first.after in
    turned_then v (eqb n) (named ns) first.changed rest.changed m first.after rest.after (turned_one v n m) (turned_all v ns first.after)

pub turned_list : (v : Visibility) (ns : List ℕ) (m m' : Model) (b : Bool) → change b m' ≡ show_in_turn v ns m → Turned v (named ns) b m m'
turned_list v ns m m' b e = subst (λ (c : Change). Turned v (named ns) c.changed m c.after) (sym e) (turned_all v ns m)

counted : (a n k : ℕ) → a ≤ k → k < a + n → named (range_with_len a n) k ≡ true
counted a zero k h l = absurd (omega arith)
counted a (suc n) k h l = grind (arith, common_steps, counted (a + 1) n k)

-- asking for all numbers is asking for every node
pub turned_every : (v : Visibility) (m m' : Model) (b : Bool) → change b m' ≡ show_all v m → Turned v (λ _. true) b m m'
turned_every v m m' b e =
    let all = turned_list v (range_with_len 0 (length m.nodes)) m m' b e in
    record {
      nodes = λ k h. all.nodes k h ∙ ap (λ x. turn v x (node_at m k)) (counted 0 (length m.nodes) k (omega arith) (omega arith));
      many = all.many;
      told = all.told;
      rest = all.rest;
    }
