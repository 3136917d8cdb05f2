-- From the work table and back.
use Rattle.std.proofs.Common.{◌≡◌, ℕ, ◌+◌, ◌≤◌, Bool, false, List, [], ◌++◌, length, replicate, Ok, refl, sym, ap, ◌∙◌, subst, arith}
use Rattle.std.proofs.lemmas.List.{get_or-replicate, length-replicate}
use Rattle.std.proofs.lemmas.Bool.{cond-false, le-ltb}
use Rattle.records.specs.declared.edge.Edge.{Edge}
use Rattle.records.specs.Walks.{Joins}
use Rattle.tables.specs.Filled.{filled, Blank}
use Rattle.tables.proofs.Filling.{length_filled, filled_below}
use Rattle.graph.specs.declared.raw.RawInstGraph.{RawInstGraph}
use Rattle.graph.specs.Model.{model}
use Rattle.walks.specs.Cycles.{acyclic_answer, left_blank, Tested}
use Rattle.walks.proofs.Seeing.{edges_inside}
use Rattle.walks.proofs.Closed.{restored}
use Rattle.subgraph.specs.declared.places.Subgraphs.{Subgraphs}
use Rattle.subgraph.specs.Partitions.{Partition, partition}
use Rattle.subgraph.specs.Places.{Filled}
use Rattle.subgraph.specs.Subgraphs.{in_order, in_parts}
use Rattle.subgraph.specs.Wholes.{singletons}
use Rattle.subgraph.specs.WholePartitions.{orders_of, told_whole, whole_partition, LawfulWhole}
use Rattle.subgraph.proofs.Partitions.{Parts, blank_tables, parted_past, parts}
use Rattle.subgraph.proofs.Partitioning.{appended_room, unappended}
use Rattle.subgraph.proofs.Twins.{same_orders}
use Rattle.subgraph.proofs.AllNodes.{whole_room, whole_lawful, whole_answer}

-- v is what a test that refused nothing leaves of the work table
module _ (g : RawInstGraph) (work : List Bool) (tested : Tested (model g) (length work) (Ok tt)) (v : List Bool) (left : v ≡ left_blank (length (model g).nodes) work) where
  abbrev es : List Edge
  es = (model g).edges

  abbrev N : ℕ
  N = length (model g).nodes

  abbrev os : List (List ℕ)
  os = (partition (model g).edges N v (replicate 1024 false)).orders

  is_blank : v ≡ filled N false work
  is_blank = left ∙ cond-false _ _ _ (le-ltb (length work) N (tested.passed.0 refl).0)

  pub found_room : N ≤ length v
  found_room = let fits = (tested.passed.0 refl).0 in let size = length_filled N false work fits in let same = ap length is_blank in omega arith

  pub unfound : Blank N v
  unfound = subst (Blank N) (sym is_blank) (λ k h. filled_below N k false false work h)

  same : os ≡ orders_of es N
  same =
      let size = length-replicate N false in
      let none : Blank N (replicate N false) = λ k h. get_or-replicate N k false false h in
      same_orders es N (edges_inside g) v (replicate 1024 false) (replicate N false) (replicate N false) found_room (appended_room g) (omega arith) (omega arith) unfound (unappended g) none none

  apart : Parts (Joins es) os
  apart = parts es N (edges_inside g) (tested.passed.0 refl).1 v (replicate 1024 false) found_room (appended_room g) unfound (unappended g)

  module _ (f : List Bool) (s : Subgraphs) (fl : Filled (partition (model g).edges (length (model g).nodes) v (replicate 1024 false)) f s) where
    pub table : (after : List Bool) → after ≡ filled (length (model g).nodes) false f → after ≡ left_blank (length (model g).nodes) work
    table after end =
        let start : Partition = record { found = v; appended = replicate 1024 false; orders = [] } in
        let past = parted_past es N (edges_inside g) N start (omega arith) (blank_tables es N (edges_inside g) v (replicate 1024 false) [] found_room (appended_room g) unfound (unappended g)) in
        end ∙ ap (filled N false) fl.marks ∙ restored N v (partition es N v (replicate 1024 false)).found found_room unfound past ∙ left

    pub room : length (in_order s) + length (singletons (model g).edges (length (model g).nodes)) ≤ 1024
    room = whole_room g os apart s fl.order

    module _ (t : Subgraphs) (order : in_order t ≡ in_order s ++ singletons (model g).edges (length (model g).nodes)) (front : in_parts t ≡ length (in_order s)) (count : t.count ≡ s.count) (places : t.places ≡ s.places) where
      pub answer : Ok tt ≡ acyclic_answer (model g) (length work) → told_whole (length (model g).nodes) (Ok t) ≡ whole_partition (model g) (length work)
      answer passed = whole_answer g os apart s fl.order t order front (places ∙ fl.places_are) (length work) passed same (count ∙ fl.count)

      pub law : LawfulWhole (model g) t
      law = whole_lawful g os apart s fl.order t order front (places ∙ fl.places_are) (tested.passed.0 refl).1
