-- A run comes to each node after its neighbours, so that it finds their values worked out.
use Rattle.std.proofs.Common.{◌≡◌, ℕ, ◌+◌, ◌-◌, ◌<◌, ◌≤◌, Bool, true, false, List, ◌++◌, length, get_or, take, drop, set, Option, None, Some, sym, refl, ap, ◌∙◌, subst, ⊎_elim, arith}
use Rattle.std.proofs.lemmas.List.{length-map, length-reverse, get_or-reverse, get_or_default, get_or-take, length-take-le, take_at, drop-set-lt, get_or-set_same, get_or-set_other, take-append-drop}
use Rattle.std.proofs.lemmas.List.FromFn.{fill_by_all, length-range_with_len}
use Rattle.std.specs.List.{range_with_len}
use Rattle.std.proofs.lemmas.Bool.{cases_lt, cases_eq}
use Rattle.records.specs.declared.stage.Stage.TheVariants.{Sealed}
use Rattle.graph.specs.declared.raw.RawInstGraph.{RawInstGraph}
use Rattle.graph.specs.Model.{Model, model}
use Rattle.graph.proofs.Sound.{sound}
use Rattle.graph.specs.Order.{stands_at}
use Rattle.graph.specs.Sound.{Sound, Ordered}
use Rattle.graph.proofs.Standings.{stands_read}
use Rattle.analysis.specs.Near.{near_of}
use Rattle.analysis.specs.Rule.{Meaning, ruled, Solves, worth, value_table}
use Rattle.analysis.specs.Runs.{walk}
use Rattle.walk_neighbors.proofs.Each.{each_map}
use Rattle.std.specs.Iterator.{AlwaysYields, Yields}
use Rattle.analysis.proofs.Joining.{turn, at_end}
use Rattle.analysis.proofs.Unique.{ruled_worth, value_solves}
use Rattle.analysis.proofs.Ranks.{rank, near_lower, rank_low}

-- a value written at a node leaves what lies past the nodes
pub past_kept : {V : Type 0} (count : ℕ) (table before : List V) (n : ℕ) (x : V) → n < count → drop count table ≡ drop count before → drop count (set table n x) ≡ drop count before
past_kept count table before n x low same = drop-set-lt count table n x low ∙ same

-- the node that a run comes to at step i
abbrev pub walk_at : Bool → List ℕ → ℕ → ℕ
walk_at forward order i = get_or (walk forward order) i 0

against : (order : List ℕ) (i : ℕ) → i < length order → walk_at false order i ≡ get_or order (length order - 1 - i) 0
against order i h = get_or-reverse order i 0 h

length_walk : (forward : Bool) (order : List ℕ) → length (walk forward order) ≡ length order
length_walk true order = refl
length_walk false order = length-reverse order

module _ (m : Model) (good : Sound m) (fine : Ordered m) where
  pub walk_within : (forward : Bool) (i : ℕ) → i < length m.nodes → walk_at forward m.order i < length m.nodes
  walk_within true i h = let l = fine.order.long in fine.order.within i (omega arith)
  walk_within false i h = let l = fine.order.long in subst (λ k. k < length m.nodes) (sym (against m.order i (omega arith))) (fine.order.within (length m.order - 1 - i) (omega arith))

  -- the run comes to n at n's rank
  walk_rank : (forward : Bool) (n : ℕ) → n < length m.nodes → walk_at forward m.order (rank forward m.order n) ≡ n
  walk_rank true n h = stands_read m.order n (fine.order.complete n h)
  walk_rank false n h =
      let c = fine.order.complete n h in
      let back : length m.order - 1 - (length m.order - 1 - stands_at m.order n) ≡ stands_at m.order n = omega arith in
      against m.order (rank false m.order n) (omega arith) ∙ ap (λ i. get_or m.order i 0) back ∙ stands_read m.order n c

  -- and the node at step i has rank i
  rank_walk : (forward : Bool) (i : ℕ) → i < length m.nodes → rank forward m.order (walk_at forward m.order i) ≡ i
  rank_walk true i h = let l = fine.order.long in fine.order.once i (omega arith)
  rank_walk false i h =
      let l = fine.order.long in
      let o = fine.order.once (length m.order - 1 - i) (omega arith) in
      let at = ap (stands_at m.order) (against m.order i (omega arith)) in
      omega arith

  -- a turn of a loop over the walk
  module _ (forward : Bool) {S : Type 0} (steps : S → Option ℕ → S → Type 0) {start s : S} (same : s ≡ start) (gives : AlwaysYields steps (λ k. k) start (walk forward m.order)) where
    pub turn_at : (xs : List ℕ) {t u : S} {r : Option ℕ} {x : ℕ} → Yields steps s xs t → r ≡ Some x → steps t r u → (length xs < length m.nodes) × (x ≡ walk_at forward m.order (length xs))
    turn_at xs {x = x} y is step =
        let at = turn steps (walk forward m.order) same gives xs y is step in
        let long = length_walk forward m.order in
        let all = fine.order.long in
        (omega (arith, at.0), at.1 ∙ get_or_default (walk forward m.order) (length xs) x 0 at.0)

    pub node_low : (xs : List ℕ) {t u : S} {r : Option ℕ} {x : ℕ} → Yields steps s xs t → r ≡ Some x → steps t r u → x < length m.nodes
    node_low xs y is step =
        let at = turn_at xs y is step in
        subst (λ k. k < length m.nodes) (sym at.1) (walk_within forward (length xs) at.0)

    pub all_walked : (xs : List ℕ) {t u : S} {r : Option ℕ} → Yields steps s xs t → r ≡ None → steps t r u → length xs ≡ length m.nodes
    all_walked xs y is step = ap length (at_end steps (walk forward m.order) same gives xs y is step) ∙ length_walk forward m.order ∙ fine.order.long

  module _ {V : Type 0} (a : Meaning V) (forward skips : Bool) where
    abbrev near : ℕ → List ℕ
    near = near_of forward skips m

    abbrev value : ℕ → V
    value = worth a m.nodes near (length m.nodes)

    pub value_table_solves : Solves a m.nodes near (value_table a m.nodes near)
    value_table_solves = value_solves a m.nodes near (rank forward m.order) (near_lower m good fine forward skips) (rank_low m good fine forward)

    pub length_values : length (value_table a m.nodes near) ≡ length m.nodes
    length_values = length-map (range_with_len 0 (length m.nodes)) value ∙ length-range_with_len 0 (length m.nodes)

    -- the nodes of the first i steps hold their value
    abbrev pub Done : ℕ → List V → Type 0
    Done i table = (j : ℕ) → j < i → get_or table (walk_at forward m.order j) a.blank ≡ value (walk_at forward m.order j)

    -- what the rule gives at step i
    step_value : (i : ℕ) (table : List V) → i < length m.nodes → Done i table → ruled a m.nodes near (λ k. get_or table k a.blank) (walk_at forward m.order i) ≡ value (walk_at forward m.order i)
    step_value i table h done =
        let here = rank_walk forward i h in
        ruled_worth a m.nodes near (rank forward m.order) (near_lower m good fine forward skips) table (walk_at forward m.order i)
        (omega arith)
        (each_map _ _ (near (walk_at forward m.order i))
        (λ k l. subst (λ n. get_or table n a.blank ≡ value n) (walk_rank forward k l.0) (done (rank forward m.order k) (omega (arith, l.1))))
        (near_lower m good fine forward skips (walk_at forward m.order i)))

    done_at : (i : ℕ) (table : List V) (x : V) → i < length m.nodes → walk_at forward m.order i < length table → x ≡ ruled a m.nodes near (λ k. get_or table k a.blank) (walk_at forward m.order i) → Done i table → Done (i + 1) (set table (walk_at forward m.order i) x)
    done_at i table x h within is done j l =
        let at = walk_at forward m.order i in
        ⊎_elim
        (λ (same : walk_at forward m.order j ≡ at).
        subst (λ n. get_or (set table at x) n a.blank ≡ value n) (sym same) (get_or-set_same table at x a.blank within ∙ is ∙ step_value i table h done))
        (λ (apart : walk_at forward m.order j ≡ at → ⊥).
        let earlier : j < i = ⊎_elim (λ (lt : j < i). lt) (λ (ge : i ≤ j). let e : j ≡ i = omega arith in absurd (apart (ap (walk_at forward m.order) e))) (cases_lt j i) in
        get_or-set_other table at (walk_at forward m.order j) x a.blank apart ∙ done j earlier)
        (cases_eq (walk_at forward m.order j) at)

    pub done_more : (i : ℕ) (table : List V) (n : ℕ) (x : V) → i < length m.nodes → n ≡ walk_at forward m.order i → n < length table → x ≡ ruled a m.nodes near (λ k. get_or table k a.blank) n → Done i table → Done (i + 1) (set table n x)
    done_more i table n x h at within is done =
        let value = subst (λ k. x ≡ ruled a m.nodes near (λ j. get_or table j a.blank) k) at is in
        subst (λ k. Done (i + 1) (set table k x)) (sym at) (done_at i table x h (omega arith) value done)

    done_front : (table : List V) → length m.nodes ≤ length table → Done (length m.nodes) table → take (length m.nodes) table ≡ value_table a m.nodes near
    done_front table l done =
        fill_by_all value (take (length m.nodes) table) (length m.nodes) a.blank
        (length-take-le (length m.nodes) table l)
        (λ k h.
        get_or-take (length m.nodes) table k a.blank h
        ∙ subst (λ n. get_or table n a.blank ≡ value n) (walk_rank forward k h) (done (rank forward m.order k) (rank_low m good fine forward k h)))

    -- all steps done, the table holds the value table and what lay past it
    pub done_all : (before table : List V) → length m.nodes ≤ length table → drop (length m.nodes) table ≡ drop (length m.nodes) before → Done (length m.nodes) table → table ≡ value_table a m.nodes near ++ drop (length m.nodes) before
    done_all before table l past done =
        sym (take-append-drop (length m.nodes) table)
        ∙ ap (λ xs. xs ++ drop (length m.nodes) table) (done_front table l done)
        ∙ ap (λ xs. value_table a m.nodes near ++ xs) past

    -- and its front is the one table that obeys the rule
    front_solves : (before table : List V) → table ≡ value_table a m.nodes near ++ drop (length m.nodes) before → Solves a m.nodes near (take (length m.nodes) table)
    front_solves before table is =
        let front : take (length m.nodes) table ≡ value_table a m.nodes near =
        ap (take (length m.nodes)) is ∙ take_at (value_table a m.nodes near) (drop (length m.nodes) before) (length m.nodes) length_values
        in
        subst (Solves a m.nodes near) (sym front) value_table_solves

-- so it is with the table that a run leaves
pub run_solves : (g : RawInstGraph) → (model g).stage ≡ Sealed → {V : Type 0} (a : Meaning V) (forward skips : Bool) (before table : List V) → table ≡ value_table a (model g).nodes (near_of forward skips (model g)) ++ drop (length (model g).nodes) before → Solves a (model g).nodes (near_of forward skips (model g)) (take (length (model g).nodes) table)
run_solves g sealed a forward skips before table is = front_solves (model g) (sound g) ((sound g).ordered sealed) a forward skips before table is
