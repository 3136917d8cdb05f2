-- The order of all nodes, from the subgraphs' and from the nodes without edges.
use Rattle.std.proofs.Common.{◌≡◌, ℕ, ◌+◌, ◌≤◌, List, ◌++◌, reverse, length, take, replicate, None, Ok, Option, Result, sym, ap, ◌∙◌, subst, arith}
use Rattle.std.proofs.lemmas.List.{length-append, length-reverse, reverse-reverse}
use Rattle.std.proofs.Math.Seq.{take-append_seam}
use Rattle.records.specs.declared.edge.Edge.{Edge}
use Rattle.records.specs.declared.node.Place.{Place}
use Rattle.records.specs.declared.refusal.Refusal.{Refusal}
use Rattle.records.specs.Walks.{Acyclic, Among, Touched, Joins}
use Rattle.graph.specs.declared.raw.RawInstGraph.{RawInstGraph}
use Rattle.graph.specs.Model.{model, unless_refused}
use Rattle.graph.specs.Order.{OrdersNodes}
use Rattle.graph.proofs.Sound.{sound}
use Rattle.graph.proofs.Standings.{among_reverse, among_reversed}
use Rattle.walks.specs.Cycles.{acyclic_answer}
use Rattle.walks.proofs.Seeing.{edges_inside}
use Rattle.subgraph.specs.declared.places.Subgraphs.{Subgraphs}
use Rattle.subgraph.specs.Orders.{Ordered}
use Rattle.subgraph.specs.Places.{in_turn, places, Placed}
use Rattle.subgraph.specs.Subgraphs.{in_order, in_parts}
use Rattle.subgraph.specs.Wholes.{singletons, whole_order}
use Rattle.subgraph.specs.WholePartitions.{Whole, orders_of, whole, told_whole, whole_partition, LawfulWhole}
use Rattle.subgraph.proofs.InTurn.{in_order_lem, somewhere_in, in_somewhere}
use Rattle.subgraph.proofs.Partitions.{Parts}
use Rattle.subgraph.proofs.Standing.{standing}
use Rattle.subgraph.proofs.Told.{front_places}
use Rattle.subgraph.proofs.Wholes.{whole_orders}

-- an answer is known by its parts
same : (c c' k k' : ℕ) (o o' : List ℕ) (p p' : List (Option Place)) → c ≡ c' → k ≡ k' → o ≡ o' → p ≡ p' → ◌≡◌ {A = Result Whole Refusal} (Ok (record { count = c; in_subgraphs = k; order = o; places = p })) (Ok (record { count = c'; in_subgraphs = k'; order = o'; places = p' }))
same c c' k k' o o' p p' a b d e = cc

-- s holds the subgraphs alone
module _ (g : RawInstGraph) (os : List (List ℕ)) (parts : Parts (Joins (model g).edges) os) (s : Subgraphs) (flat_is : reverse (in_order s) ≡ in_turn os) where
  abbrev es : List Edge
  es = (model g).edges

  abbrev n : ℕ
  n = length (model g).nodes

  abbrev flat : List ℕ
  flat = in_turn os

  ordered : Ordered (Joins es) flat
  ordered = in_order_lem (Joins es) os parts.apart

  only : (x : ℕ) → Among x flat → Touched (Joins es) x
  only x a = parts.only x (in_somewhere os x a)

  all : (x : ℕ) → Touched (Joins es) x → Among x flat
  all x t = somewhere_in os x (parts.whole x t)

  turned : in_order s ≡ reverse flat
  turned = sym (reverse-reverse (in_order s)) ∙ ap reverse flat_is

  pub whole_room : length (in_order s) + length (singletons (model g).edges (length (model g).nodes)) ≤ 1024
  whole_room =
      let long = (whole_orders es n flat (sound g).ends ordered only all).long in
      let two = length-append (reverse flat) (singletons es n) in
      let front = ap length turned in
      let few = (sound g).few_nodes in
      omega arith

  -- t has the nodes without edges too
  module _ (t : Subgraphs) (order : in_order t ≡ in_order s ++ singletons (model g).edges (length (model g).nodes)) (count : in_parts t ≡ length (in_order s)) where
    is : whole_order es n flat ≡ in_order t
    is = ap (λ l. l ++ singletons es n) (sym turned) ∙ sym order

    front : take (in_parts t) (in_order t) ≡ reverse flat
    front = (λ i. take (count i) (order i)) ∙ take-append_seam (in_order s) (singletons es n) ∙ turned

    module _ (places_are : t.places ≡ places os (replicate 1024 None)) where
      pub whole_lawful : Acyclic (Joins (model g).edges) → LawfulWhole (model g) t
      whole_lawful acyclic =
          record {
            acyclic = acyclic;
            stand = subst (Placed (Joins es)) (sym places_are) (standing es n (edges_inside g) (sound g).few_nodes os parts);
            order = subst (OrdersNodes n es) is (whole_orders es n flat (sound g).ends ordered only all);
            touched = λ x. (
              λ a. only x (among_reversed x flat (subst (Among x) front a)),
              λ h. subst (Among x) (sym front) (among_reverse x flat (all x h)),
            );
            ordered = subst (Ordered (Joins es)) (sym (ap reverse front ∙ reverse-reverse flat)) ordered;
          }

      pub whole_answer : (room : ℕ) → Ok tt ≡ acyclic_answer (model g) room → os ≡ orders_of (model g).edges (length (model g).nodes) → t.count ≡ length os → told_whole (length (model g).nodes) (Ok t) ≡ whole_partition (model g) room
      whole_answer room passed orders number =
          same t.count (length os) (in_parts t) (length flat) (in_order t) (whole_order es n flat) (take n t.places) (places os (replicate n None)) number (count ∙ ap length turned ∙ length-reverse flat) (sym is) (ap (take n) places_are ∙ front_places n os (sound g).few_nodes)
          ∙ ap (λ l. Ok (whole es n l)) orders
          ∙ ap (λ r. unless_refused r (Ok (whole es n (orders_of es n)))) passed
