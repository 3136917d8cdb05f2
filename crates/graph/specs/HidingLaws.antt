-- What showing and hiding comes to, node by node.
use Rattle.std.specs.Prelude.{◌≡◌, ℕ, ◌<◌, ◌≤◌, Bool, false, cond, not, ◌&&◌, ◌||◌, ◌↔◌, List, [], ◌∷◌, ◌++◌, length, count_by, ◌==◌}
use Rattle.records.specs.declared.node.Visibility.{Visibility}
use Rattle.records.specs.declared.node.Visibility.TheVariants as visibility
use Rattle.records.specs.Nodes.{in_state, is_disabled, is_shown, asked}
use Rattle.graph.specs.Adding.{node_at}
use Rattle.graph.specs.Model.{Model, with_nodes, with_generation}

abbrev pub named : List ℕ → ℕ → Bool
named [] k = false
named (n ∷ ns) k = n == k || named ns k

-- of the nodes that are not disabled, those chosen have the asked state, and each other node is as it was
pub record Turned (v : Visibility) (chosen : ℕ → Bool) (changed : Bool) (m m' : Model) : Type 0 where
  pub nodes : (k : ℕ) → k < length m.nodes → node_at m' k ≡ cond (chosen k && not (is_disabled (node_at m k))) (in_state (asked v) (node_at m k)) (node_at m k)
  pub many : length m'.nodes ≡ length m.nodes
  -- the answer is no exactly where no node has changed
  pub told : (changed ≡ false) ↔ (m'.nodes ≡ m.nodes)
  -- but for nodes and generation, nothing has changed
  pub rest : m' ≡ with_generation m'.generation (with_nodes m'.nodes m)

-- the list falls into a front and a back; the front has as many shown entries as asked for, or all; the back is hidden
pub record KeptFirst (k : ℕ) (ns : List ℕ) (changed : Bool) (m m' : Model) : Type 0 where
  pub front : List ℕ
  pub back : List ℕ
  pub parts : ns ≡ front ++ back
  pub few : count_by (λ n. is_shown (node_at m n)) front ≤ k
  pub enough : (0 < length back) → count_by (λ n. is_shown (node_at m n)) front ≡ k
  pub hidden : Turned visibility.Hidden (named back) changed m m'
