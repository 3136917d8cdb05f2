-- What an analysis means, and the rule that its table obeys.
use Rattle.std.specs.Prelude.{◌≡◌, ℕ, zero, suc, ◌<◌, List, map, length, get_or, fold, slice_index_or}
use Rattle.std.specs.List.{range_with_len}
use Rattle.records.specs.declared.node.Node.{Node}
use Rattle.records.specs.Nodes.{no_node}

-- the three functions of an analysis, as it stands, and its blank
pub record Meaning (V : Type 0) : Type 0 where
  pub blank : V
  pub start : ℕ → Node → V
  pub join : V → ℕ → Node → ℕ → Node → V → V
  pub close : V → ℕ → Node → V

-- In what follows `near` has each node's neighbours in order, and `at` each node's value.

-- one neighbour's value joined into what node n has so far
abbrev pub joining : {V : Type 0} → Meaning V → List Node → (ℕ → V) → ℕ → V → ℕ → V
joining m nodes at n v k = m.join v n (slice_index_or nodes n no_node) k (slice_index_or nodes k no_node) (at k)

-- what node n has after start and a join of each neighbour in order
abbrev pub gathered : {V : Type 0} → Meaning V → List Node → (ℕ → V) → ℕ → List ℕ → V
gathered m nodes at n ks = fold (joining m nodes at n) (m.start n (slice_index_or nodes n no_node)) ks

-- start, join each neighbour in order, close
abbrev pub closed : {V : Type 0} → Meaning V → List Node → (ℕ → V) → ℕ → List ℕ → V
closed m nodes at n ks = m.close (gathered m nodes at n ks) n (slice_index_or nodes n no_node)

-- the value of node n by the rule
abbrev pub ruled : {V : Type 0} → Meaning V → List Node → (ℕ → List ℕ) → (ℕ → V) → ℕ → V
ruled m nodes near at n = closed m nodes at n (near n)

-- a table obeys the rule at every node
abbrev pub Obeys : {V : Type 0} → Meaning V → List Node → (ℕ → List ℕ) → List V → Type 0
Obeys m nodes near table = (n : ℕ) → n < length nodes → slice_index_or table n m.blank ≡ ruled m nodes near (λ k. get_or table k m.blank) n

-- a table is the one table with an entry for each node that obeys the rule at every node
abbrev pub Solves : {V : Type 0} → Meaning V → List Node → (ℕ → List ℕ) → List V → Type 0
Solves m nodes near table =
    (other : List _) → length other ≡ length nodes → (Obeys m nodes near other → other ≡ table) × (other ≡ table → Obeys m nodes near other)

-- the value of node n, worked out from its neighbours' values, theirs from their neighbours' and so on, to a depth
abbrev pub worth : {V : Type 0} → Meaning V → List Node → (ℕ → List ℕ) → ℕ → ℕ → V
worth m nodes near zero n = m.blank
worth m nodes near (suc depth) n = ruled m nodes near (worth m nodes near depth) n

-- The value table: without closed walks no walk has as many edges as there are nodes, so this depth reaches all.
abbrev pub value_table : {V : Type 0} → Meaning V → List Node → (ℕ → List ℕ) → List V
value_table m nodes near = map (worth m nodes near (length nodes)) (range_with_len 0 (length nodes))
