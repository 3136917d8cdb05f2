-- One turn of the loop over the roots.
use Rattle.std.proofs.Common.{◌≡◌, ℕ, ◌+◌, ◌<◌, ◌≤◌, Bool, true, false, List, [], ◌++◌, reverse, length, replicate, sym, ap, ◌∙◌, subst, arith}
use Rattle.std.proofs.lemmas.List.{get_or-replicate, length-replicate, length-append, length-reverse, reverse-append, reverse-reverse}
use Rattle.std.proofs.lemmas.Bool.{cond-true, cond-false}
use Rattle.records.specs.declared.edge.Edge.{Edge}
use Rattle.tables.specs.Filled.{Blank}
use Rattle.tables.specs.Steps.{Below}
use Rattle.tables.proofs.Marking.{blanks_le}
use Rattle.graph.specs.declared.raw.RawInstGraph.{RawInstGraph}
use Rattle.graph.specs.Model.{model}
use Rattle.graph.proofs.Sound.{sound}
use Rattle.walks.proofs.Seeing.{edges_inside}
use Rattle.subgraph.specs.declared.places.Subgraphs.{Subgraphs}
use Rattle.subgraph.specs.Orders.{found_from, sorted_from, Shut, NoMore}
use Rattle.subgraph.specs.Partitions.{Partition, joined, begins, turn, parted}
use Rattle.subgraph.specs.Places.{in_turn, placed, Filled}
use Rattle.subgraph.specs.Subgraphs.{in_order}
use Rattle.subgraph.proofs.Partitions.{Tables, blank_tables, parted_tables, parted_count, Roomy, joined_roomy, parted_roomy, order_below, begins_new}

-- what the loop keeps
pub record Filling (p : Partition) (f a : List Bool) (s : Subgraphs) : Type 0 where
  pub filled : Filled p f s
  pub turns : a ≡ p.appended

pub filling_joined : (es : List Edge) (N n : ℕ) (p : Partition) (f a : List Bool) (s : Subgraphs) → Filling p f a s → (o : List ℕ) (f' a' : List Bool) (s' : Subgraphs) → f' ≡ (found_from es N f n).visited → a' ≡ (sorted_from es N f a n).visited → o ≡ (sorted_from es N f a n).order → in_order s' ≡ in_order s ++ reverse o → s'.places ≡ placed s.count o s.places → s'.count ≡ s.count + 1 → begins es f n ≡ true → Filling (turn es N n p) f' a' s'
filling_joined es N n p f a s fl o f' a' s' mf ma mo ord pl cnt yes' =
    let was = fl.filled in
    let marks = was.marks in
    let io : o ≡ (sorted_from es N p.found p.appended n).order = mo ∙ (λ i. (sorted_from es N (marks i) (fl.turns i) n).order) in
    let test : begins es p.found n ≡ true = subst (λ t. begins es t n ≡ true) marks yes' in
    let number = was.count in
    subst (λ q. Filling q f' a' s') (sym (cond-true _ (joined es N n p) p test)) (record {
      filled = record {
        marks = mf ∙ ap (λ u. (found_from es N u n).visited) marks;
        count = omega arith;
        order = ap reverse ord ∙ reverse-append (in_order s) (reverse o) ∙ ap (λ l. l ++ reverse (in_order s)) (reverse-reverse o) ∙ (λ i. io i ++ was.order i);
        places_are = pl ∙ (λ i. placed (was.count i) (io i) (was.places_are i));
      };
      turns = ma ∙ (λ i. (sorted_from es N (marks i) (fl.turns i) n).visited);
    })

pub filling_passed : (es : List Edge) (N n : ℕ) (p : Partition) (f a : List Bool) (s : Subgraphs) → Filling p f a s → begins es f n ≡ false → Filling (turn es N n p) f a s
filling_passed es N n p f a s fl no' =
    let test : begins es p.found n ≡ false = subst (λ t. begins es t n ≡ false) fl.filled.marks no' in
    subst (λ q. Filling q f a s) (sym (cond-false _ (joined es N n p) p test)) fl

-- what order_from and add ask for
pub record Root (g : RawInstGraph) (n : ℕ) (f a : List Bool) (s : Subgraphs) : Type 0 where
  pub shut : Shut (model g).edges f
  pub within : NoMore (length (model g).nodes) a f
  pub below : Below 1024 (sorted_from (model g).edges (length (model g).nodes) f a n).order
  pub room : length (sorted_from (model g).edges (length (model g).nodes) f a n).order + length (in_order s) ≤ 1024
  pub count : s.count < 1024

-- a table of nodes that are appended begins blank
module _ (g : RawInstGraph) where
  pub appended_room : length (model g).nodes ≤ length (replicate 1024 false)
  appended_room = let few = (sound g).few_nodes in let size = length-replicate 1024 false in omega arith

  pub unappended : Blank (length (model g).nodes) (replicate 1024 false)
  unappended k h = let few = (sound g).few_nodes in get_or-replicate 1024 k false false (omega arith)

module _ (g : RawInstGraph) (v : List Bool) (lv : length (model g).nodes ≤ length v) (bv : Blank (length (model g).nodes) v) where
  abbrev w : List Bool
  w = replicate 1024 false

  abbrev start : Partition
  start = record { found = v; appended = replicate 1024 false; orders = [] }

  pub root_at : (n : ℕ) → n < length (model g).nodes → (f a : List Bool) (s : Subgraphs) → Filling (parted (model g).edges (length (model g).nodes) n start) f a s → begins (model g).edges f n ≡ true → Root g n f a s
  root_at n low f a s fl yes' =
      let es = (model g).edges in
      let N = length (model g).nodes in
      let p = parted es N n start in
      let t₀ = blank_tables es N (edges_inside g) v w [] lv (appended_room g) bv (unappended g) in
      let tp = parted_tables es N (edges_inside g) n start (omega arith) t₀ in
      let few = blanks_le N w in
      let r = parted_roomy es N (edges_inside g) n start (omega arith) t₀ (omega arith) in
      let q : Partition = record { found = f; appended = a; orders = p.orders } in
      let same : p ≡ q = λ i. record { found = sym fl.filled.marks i; appended = sym fl.turns i; orders = p.orders } in
      let tq : Tables es N (edges_inside g) q = subst (Tables es N (edges_inside g)) same tp in
      let rq : Roomy es N (edges_inside g) q = subst (Roomy es N (edges_inside g)) same r in
      let new = begins_new es f n yes' in
      let after = joined_roomy es N (edges_inside g) n q low new tq rq in
      let both = length-append (sorted_from es N f a n).order (in_turn p.orders) in
      let ord = ap length fl.filled.order in
      let size = length-reverse (in_order s) in
      let many = parted_count es N (edges_inside g) n start in
      let is = fl.filled.count in
      let fit = (sound g).few_nodes in
      record {
        shut = tq.shut;
        within = tq.within;
        below = order_below es N (edges_inside g) n q 1024 fit low new tq;
        room = omega arith;
        count = omega arith;
      }
