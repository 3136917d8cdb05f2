-- Sealing, from what its steps leave.
use Rattle.std.proofs.Common.{◌≡◌, ℕ, ◌<◌, ◌≤◌, Bool, false, ltb, List, ◌++◌, length, get_or, take, drop, replicate, None, Ok, Err, Option, Result, sym, refl, ap, ◌∙◌, subst, inl, inr, ⊎_elim, arith, get_or-take, drop_at}
use lib.ListN.{length-replicate}
use Rattle.std.proofs.lemmas.List.FromFn.{length-map-range_with_len, get_or-map-range_with_len}
use Rattle.std.proofs.lemmas.List.{get_or_past, get_or-map, length-map}
use Rattle.std.proofs.lemmas.Bool.{cases_lt, le-ltb, cond-false}
use Rattle.records.specs.declared.node.Node.{Node}
use Rattle.records.specs.declared.node.Place.{Place}
use Rattle.records.specs.declared.refusal.Refusal.{Refusal}
use Rattle.records.specs.declared.refusal.Refusal.TheVariants.{TableTooShort, ClosedWalk}
use Rattle.records.specs.declared.refusal.Refusal.TheVariants as refusal
use Rattle.records.specs.declared.stage.Call.TheVariants.{Seal}
use Rattle.records.specs.declared.stage.Stage.{Stage}
use Rattle.records.specs.declared.stage.Stage.TheVariants.{Open, Sealed}
use Rattle.records.specs.Nodes.{no_node}
use Rattle.records.specs.Stages.{admission}
use Rattle.records.specs.Walks.{Touched, Joins}
use Rattle.tables.specs.Filled.{filled}
use Rattle.graph.specs.declared.raw.RawInstGraph.{RawInstGraph}
use Rattle.graph.specs.Model.{Model, Outcome, outcome, admitted, model, unless_refused}
use Rattle.graph.specs.Order.{OrdersNodes}
use Rattle.graph.specs.Sealing.{in_place, with_places, sealed_in, with_reach}
use Rattle.walks.specs.Cycles.{acyclic_answer, left_blank, Tested}
use Rattle.walks.proofs.Checking.{tested, short_answer}
use Rattle.walks.proofs.Seeing.{edges_inside}
use Rattle.subgraph.specs.declared.places.Subgraphs.{Subgraphs}
use Rattle.subgraph.specs.Places.{Placed}
use Rattle.subgraph.specs.Subgraphs.{in_order}
use Rattle.subgraph.specs.WholePartitions.{Whole, whole_partition, told_whole, LawfulWhole}
use Rattle.analysis.specs.Runs.{left_by}
use Rattle.routes.specs.Reach.{TellsReach}
use Rattle.reconnect.specs.Graphs.{graph_in}
use Rattle.reconnect.specs.Reach.{is_enabled}
use Rattle.inst_graph.specs.Reached.{reach_table}
use Rattle.inst_graph.specs.Seals.{noted, sealed_by, seal, seal_table, places_of, WellSealed, RefusedWell}

never : {A : Type 0} → ◌≡◌ {A = ℕ} 0 1 → A
never z = absurd (omega arith)

filled_twice : (n : ℕ) (t : List Bool) → filled n false (filled n false t) ≡ filled n false t
filled_twice n t = ap (λ l. replicate n false ++ l) (drop_at (replicate n false) (drop n t) n (length-replicate n false))

-- the law on places speaks of what a table has at each node
placed_alike : (R : ℕ → ℕ → Type 0) (t u : List (Option Place)) → ((x : ℕ) → get_or t x None ≡ get_or u x None) → Placed R t → Placed R u
placed_alike R t u same law =
    record {
      some = λ x h. let r = law.some x h in (r.0, sym (same x) ∙ r.1);
      none = λ x h. sym (same x) ∙ law.none x h;
      once = λ x y p a b. law.once x y p (same x ∙ a) (same y ∙ b);
      before = λ x y j. let r = law.before x y j in (r.0, r.1, sym (same x) ∙ r.2, sym (same y) ∙ r.3, r.4, r.5);
      together = λ x y p q a b e. law.together x y p q (same x ∙ a) (same y ∙ b) e;
      connected = λ x y p q a b j. law.connected x y p q (same x ∙ a) (same y ∙ b) j;
    }

-- a partition comes after a test that was passed
passed_first : (a : Result (Unit {0}) Refusal) (w w' : Whole) → Ok w ≡ unless_refused a (Ok w') → a ≡ Ok tt
passed_first (Ok x) w w' q = refl
passed_first (Err x) w w' q = never cc

-- when sealing is refused: as the test for closed walks is, on a graph that is still open
module _ (m : Model) (room : ℕ) (law : Tested m room (acyclic_answer m room)) where
  open_graph : (a : Result (Unit {0}) Refusal) (s : Whole) → acyclic_answer m room ≡ a → m.stage ≡ Open → RefusedWell m room (sealed_by (unless_refused a (Ok s)) m).answer
  open_graph (Ok x) s is at =
      record {
        closed = λ n. (λ q. never cc, λ h. let z = (law.closed n).1 (h.1, h.2) in never cc);
        short = λ n. (λ q. never cc, λ h. let z = (law.short n).1 (h.1, h.2) in never cc);
      }
  open_graph (Err e) s is at =
      record {
        closed = λ n. (λ q. (let t = (law.closed n).0 (is ∙ cc) in (at, t.0, t.1)), λ h. let z = (law.closed n).1 (h.1, h.2) in cc);
        short = λ n. (λ q. (let t = (law.short n).0 (is ∙ cc) in (at, t.0, t.1)), λ h. let z = (law.short n).1 (h.1, h.2) in cc);
      }

  sealed_graph : m.stage ≡ Sealed → RefusedWell m room (Err refusal.Sealed)
  sealed_graph at = record { closed = λ n. (λ q. never cc, λ h. let z = h.0 in never cc); short = λ n. (λ q. never cc, λ h. let z = h.0 in never cc) }

  by_stage : (s : Stage) → m.stage ≡ s → RefusedWell m room (seal room m).answer
  by_stage Open at =
      subst (λ a. RefusedWell m room (admitted a m (sealed_by (whole_partition m room) m)).answer) (ap (λ s. admission s Seal) (sym at)) (open_graph (acyclic_answer m room) _ refl at)
  by_stage Sealed at =
      subst (λ a. RefusedWell m room (admitted a m (sealed_by (whole_partition m room) m)).answer) (ap (λ s. admission s Seal) (sym at)) (sealed_graph at)

-- whatever sealing answers
pub refusals : (g : RawInstGraph) (room : ℕ) (r : Result ℕ Refusal) (after : Model) → outcome r after ≡ seal room (model g) → RefusedWell (model g) room r
refusals g room r after is =
    subst (RefusedWell (model g) room) (sym (ap (λ (o : Outcome ℕ). o.answer) is)) (by_stage (model g) room (tested (model g) (edges_inside g) room) (model g).stage refl)

module _ (g : RawInstGraph) (work : List Bool) (passed : Ok tt ≡ admission (model g).stage Seal) where
  abbrev m : Model
  m = model g

  abbrev N : ℕ
  N = length (model g).nodes

  abbrev room : ℕ
  room = length work

  is_seal : sealed_by (whole_partition (model g) (length work)) (model g) ≡ seal (length work) (model g)
  is_seal = ap (λ a. admitted a m (sealed_by (whole_partition m room) m)) passed

  is_table : left_blank (length (model g).nodes) work ≡ seal_table (model g) work
  is_table = ap (λ a. left_by a (left_blank N work) work) passed

  -- ---- refused
  module _ (e : Refusal) (answer : Err e ≡ whole_partition (model g) (length work)) where
    pub refused_whole : outcome {A = ℕ} (Err e) (model g) ≡ seal (length work) (model g)
    refused_whole = ap (λ w. sealed_by w m) answer ∙ is_seal

  pub refused_table : (after : List Bool) → after ≡ left_blank (length (model g).nodes) work → after ≡ seal_table (model g) work
  refused_table after is = is ∙ is_table

  -- ---- sealed
  module _ (s : Subgraphs) (answer : told_whole (length (model g).nodes) (Ok s) ≡ whole_partition (model g) (length work)) (law : LawfulWhole (model g) s) where
    long_enough : N ≤ room
    long_enough =
        let ok = passed_first (acyclic_answer m room) _ _ answer in
        ⊎_elim
        (λ (lt : room < N).
        let short = short_answer m room lt in
        never (clash (TableTooShort N) (sym short ∙ ok)))
        (λ (ge : N ≤ room). ge)
        (cases_lt room N)
      where
        clash : (e : Refusal) → ◌≡◌ {A = Result (Unit {0}) Refusal} (Err e) (Ok tt) → ◌≡◌ {A = ℕ} 0 1
        clash e q = cc

    is_blank : left_blank N work ≡ filled N false work
    is_blank = cond-false (ltb room N) work (filled N false work) (le-ltb room N long_enough)

    module _ (one two : Model) (first : one ≡ sealed_in (take (length (model g).nodes) s.places) (in_order s) (model g)) (second : two ≡ with_reach (reach_table one) one) where
      is_two : two ≡ noted (sealed_in (take N s.places) (in_order s) m)
      is_two = second ∙ ap noted first

      pub sealed_whole : outcome (Ok s.count) two ≡ seal (length work) (model g)
      sealed_whole = ap (outcome (Ok s.count)) is_two ∙ ap (λ w. sealed_by w m) answer ∙ is_seal

      length_placed : length one.nodes ≡ N
      length_placed =
          ap (λ (x : Model). length x.nodes) first
          ∙ length-map-range_with_len (λ k. in_place (get_or (take N s.places) k None) (get_or m.nodes k no_node)) 0 N

      pub sealed_table : (before after : List Bool) → before ≡ left_blank (length (model g).nodes) work → after ≡ filled (length one.nodes) false before → after ≡ seal_table (model g) work
      sealed_table before after b a =
          a
          ∙ ap (λ k. filled k false before) length_placed
          ∙ ap (filled N false) (b ∙ is_blank)
          ∙ filled_twice N work
          ∙ sym is_blank
          ∙ is_table

      -- the places in the records are those of the partition
      same_place : (x : ℕ) → get_or s.places x None ≡ get_or (places_of two.nodes) x None
      same_place x =
          let f : ℕ → Node = λ k. in_place (get_or (take N s.places) k None) (get_or m.nodes k no_node) in
          let nodes = with_places (take N s.places) m.nodes in
          let size : length nodes ≡ N = length-map-range_with_len f 0 N in
          let all = length-map nodes (λ (n : Node). n.place) in
          let there : places_of two.nodes ≡ places_of nodes = ap (λ (q : Model). places_of q.nodes) is_two in
          ⊎_elim
          (λ (lt : x < N).
          sym (ap (λ l. get_or l x None) there
          ∙ get_or-map (λ (n : Node). n.place) nodes x no_node None (omega arith)
          ∙ ap (λ (n : Node). n.place) (get_or-map-range_with_len f 0 N x x no_node lt (omega arith))
          ∙ get_or-take N s.places x None lt))
          (λ (ge : N ≤ x).
          law.stand.none x (λ t. let low = touched_below x t in absurd (omega arith))
          ∙ sym (ap (λ l. get_or l x None) there ∙ get_or_past (places_of nodes) x None (omega arith)))
          (cases_lt x N)
        where
          touched_below : (x : ℕ) → Touched (Joins m.edges) x → x < N
          touched_below x (y, inl j) = (edges_inside g x y j).0
          touched_below x (y, inr j) = (edges_inside g y x j).1

      pub sealed_well : TellsReach is_enabled (graph_in one) two.reach → WellSealed (model g) two
      sealed_well tells =
          let order : in_order s ≡ two.order = sym (ap (λ (q : Model). q.order) is_two) in
          record {
            acyclic = law.acyclic;
            stand = placed_alike (Joins m.edges) s.places (places_of two.nodes) same_place law.stand;
            order = subst (OrdersNodes N m.edges) order law.order;
            tells = subst (λ q. TellsReach is_enabled (graph_in q) two.reach) (sym second) tells;
          }
