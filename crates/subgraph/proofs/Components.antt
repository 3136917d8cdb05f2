-- One subgraph: its nodes, its start nodes, its order.
use Rattle.std.proofs.Common.{◌≡◌, ℕ, zero, suc, ◌+◌, ◌<◌, ◌≤◌, Bool, true, false, ◌⊎◌, List, [], ◌∷◌, length, get_or, set, sym, refl, ap, ◌∙◌, subst, inl, inr, ⊎_elim, arith}
use Rattle.std.proofs.lemmas.List.{get_or-set_same, get_or-set_other, length-set, length-append, length-reverse}
use Rattle.std.proofs.lemmas.List.Sums.{length-filter, count_by-le-length}
use Rattle.std.proofs.lemmas.Bool.{cases_eq, cases_Bool, both_ways}
use Rattle.records.specs.declared.edge.Edge.{Edge}
use Rattle.records.specs.declared.edge.Direction.TheVariants.{Outgoing, Incoming}
use Rattle.records.specs.Edges.{history}
use Rattle.records.specs.Walks.{Among, Joins, Acyclic, Connected}
use Rattle.records.specs.Walks.Connected.{here, onward, backward}
use Rattle.tables.specs.Marks.{blanks}
use Rattle.tables.specs.Steps.{Below}
use Rattle.tables.proofs.Marking.{blanks_set, blanks_le}
use Rattle.walks.specs.Exploring.{targets, sources, nexts, Trail, walked, pending}
use Rattle.graph.proofs.Seen.{joins_seen, seen_joins}
use Rattle.walks.specs.Joined.{nexts_joined}
use Rattle.walks.proofs.Exploring.{stacked_only, walk_cases, below_at}
use Rattle.graph.proofs.Standings.{among_left, among_right}
use Rattle.walks.proofs.Closure.{visited_set, set_visited, Ended, ended, only, kept, Past, walk_past}
use Rattle.walks.proofs.Degrees.{total, total_edges, pending_total}
use Rattle.subgraph.specs.Sorting.{all_in, is_ready, ready}
use Rattle.subgraph.specs.Orders.{Ordered, is_empty, starts, found_from, sorted_from, Shut, NoMore}
use Rattle.graph.proofs.Sound.{below_all}
use Rattle.subgraph.proofs.Lists.{filter_has, filter_only}
use Rattle.subgraph.proofs.Sorting.{all_in_each}
use Rattle.subgraph.proofs.Topological.{State, runs, all_done}

-- ---- lists
-- the start nodes are some of those found
pub length_starts : (es : List Edge) (ns : List ℕ) → length (starts es ns) ≤ length ns
length_starts es ns =
    let size = length-filter (λ n. is_empty (sources es n)) ns in
    let few = count_by-le-length (λ n. is_empty (sources es n)) ns in
    omega arith

pub below_starts : (es : List Edge) (N : ℕ) (ns : List ℕ) → Below N ns → Below N (starts es ns)
below_starts es N ns b = below_all N (starts es ns) (λ y a. below_at N ns y b (filter_only (λ n. is_empty (sources es n)) ns y a).0)

is_empty_in : (xs : List ℕ) (v : List Bool) → is_empty xs ≡ true → all_in xs v ≡ true
is_empty_in [] v h = refl
is_empty_in (x ∷ xs) v h = absurd (both_ways false refl h)

is_empty_from : (xs : List ℕ) → ((y : ℕ) → Among y xs → ⊥) → is_empty xs ≡ true
is_empty_from [] h = refl
is_empty_from (x ∷ xs) h = absurd (h x (inl refl))

-- ---- room
total_both : (es : List Edge) (n : ℕ) → total (nexts es) n ≡ total (targets es) n + total (sources es) n
total_both es zero = refl
total_both es (suc n) = let rest = total_both es n in let here' = length-append (targets es n) (sources es n) in omega arith

pub room_two : (es : List Edge) (N : ℕ) (v : List Bool) → length es ≤ 4096 → 1 + pending (nexts es) N v ≤ 8193
room_two es N v few =
    let size = length-reverse es in
    let p = pending_total (nexts es) N v in
    let t = total_both es N in
    let a = total_edges Outgoing (history es) N in
    let b = total_edges Incoming (history es) N in
    omega arith

-- ---- whatever a walk pushes, what is marked at its end was marked or has its turn
walked_only : (push : ℕ → List Bool → List ℕ → List ℕ) (v₀ : List Bool) (k : ℕ) (st : List ℕ) (v : List Bool) (o : List ℕ) → ((y : ℕ) → get_or v y false ≡ true → (get_or v₀ y false ≡ true) ⊎ Among y o) → (y : ℕ) → get_or (walked push k st v o).visited y false ≡ true → (get_or v₀ y false ≡ true) ⊎ Among y (walked push k st v o).order
walked_only push v₀ zero st v o q = q
walked_only push v₀ (suc k) st v o q =
    walk_cases push k st v o (λ (t : Trail). (y : ℕ) → get_or t.visited y false ≡ true → (get_or v₀ y false ≡ true) ⊎ Among y t.order)
    (λ e. q)
    (λ n rest f. walked_only push v₀ k (push n (set v n true) rest) (set v n true) (n ∷ o) (λ y h. ⊎_elim (λ (is : y ≡ n). inr (inl is)) (λ was. ⊎_elim (λ old. inl old) (λ a. inr (inr a)) (q y was)) (set_visited v n y h)))

-- ---- and each turn takes a blank
walked_size : (push : ℕ → List Bool → List ℕ → List ℕ) (N most : ℕ) → ((n : ℕ) (v : List Bool) (st : List ℕ) (y : ℕ) → Among y (push n v st) → (y < N) ⊎ Among y st) → (k : ℕ) (st : List ℕ) (v : List Bool) (o : List ℕ) → N ≤ length v → ((y : ℕ) → Among y st → y < N) → length o + blanks N v ≤ most → length (walked push k st v o).order + blanks N (walked push k st v o).visited ≤ most
walked_size push N most keeps zero st v o long low few = few
walked_size push N most keeps (suc k) st v o long low few =
    walk_cases push k st v o (λ (t : Trail). length t.order + blanks N t.visited ≤ most)
    (λ e. few)
    (λ n rest f.
    let small = low n f.among in
    let fewer = blanks_set N n v small (omega arith) f.new in
    walked_size push N most keeps k (push n (set v n true) rest) (set v n true) (n ∷ o) (subst (λ m. N ≤ m) (sym (length-set v n true)) long) (λ y a. ⊎_elim (λ b. b) (λ b. low y (f.part y b)) (keeps n (set v n true) rest y a)) (omega arith))

-- each node connected with the root occurs, and no other; each edge's source stands before its target
pub record Topological (R : ℕ → ℕ → Type 0) (root : ℕ) (order : List ℕ) : Type 0 where
  pub ordered : Ordered R order
  pub whole : (x : ℕ) → Connected R root x → Among x order
  pub only : (x : ℕ) → Among x order → Connected R root x

-- ---- what the walk both ways finds; v₀ is the table it began with
pub record Tie (N : ℕ) (v₀ v : List Bool) (o : List ℕ) : Type 0 where
  pub long : N ≤ length v
  pub size : length o + blanks N v ≤ N
  pub below : Below N o
  pub to : (x : ℕ) → get_or v x false ≡ true → (get_or v₀ x false ≡ true) ⊎ Among x o
  pub from : (x : ℕ) → Among x o → get_or v x false ≡ true
  pub kept : (x : ℕ) → get_or v₀ x false ≡ true → get_or v x false ≡ true

tie_more : (N : ℕ) (v₀ v : List Bool) (o : List ℕ) (n : ℕ) → n < N → get_or v n false ≡ false → Tie N v₀ v o → Tie N v₀ (set v n true) (n ∷ o)
tie_more N v₀ v o n small new t =
    let long' = t.long in
    let inside : n < length v = omega arith in
    let fewer = blanks_set N n v small inside new in
    let s = t.size in
    record {
      long = subst (λ m. N ≤ m) (sym (length-set v n true)) t.long;
      size = omega arith;
      below = (small, t.below);
      to = λ x h. ⊎_elim (λ (is : x ≡ n). inr (inl is)) (λ was. ⊎_elim (λ old. inl old) (λ a. inr (inr a)) (t.to x was)) (set_visited v n x h);
      from = λ x a. ⊎_elim (λ (is : x ≡ n). ap (λ i. get_or (set v n true) i false) is ∙ get_or-set_same v n true false inside) (λ b. visited_set v n x inside (t.from x b)) a;
      kept = λ x h. visited_set v n x inside (t.kept x h);
    }

-- a table of whole subgraphs that has not the root has nothing of its subgraph
pub unfound : (es : List Edge) (v : List Bool) → Shut es v → (root : ℕ) → get_or v root false ≡ false → {x : ℕ} → Connected (Joins es) root x → get_or v x false ≡ false
unfound es v shut root new here = new
unfound es v shut root new (onward {b} {c} w j) = sym (shut b c j) ∙ unfound es v shut root new w
unfound es v shut root new (backward {b} {c} w j) = shut c b j ∙ unfound es v shut root new w

module _ (es : List Edge) (N : ℕ) (inside : (x y : ℕ) → Joins es x y → (x < N) × (y < N)) where
  pub in_nexts : (x y : ℕ) → Among y (nexts es x) → y < N
  in_nexts x y a = ⊎_elim (λ j. (inside x y j).1) (λ j. (inside y x j).0) (nexts_joined es x y a)

  module _ (root : ℕ) (low : root < N) (v : List Bool) (long : N ≤ length v) (shut : Shut es v) (new : get_or v root false ≡ false) where
    on_stack : (y : ℕ) → Among y (root ∷ []) → y < N
    on_stack y (inl is) = subst (λ i. i < N) (sym is) low
    on_stack y (inr a) = absurd a

    abbrev pub found : List ℕ
    found = (found_from es N v root).order

    abbrev pub marks : List Bool
    marks = (found_from es N v root).visited

    pub tied : Tie N v marks found
    tied =
        let few = blanks_le N v in
        kept (nexts es) N in_nexts (Tie N v) (tie_more N v) (blanks N v) v (root ∷ []) [] on_stack
        (record { long = long; size = omega arith; below = tt; to = λ x h. inl h; from = λ x a. absurd a; kept = λ x h. h })

    -- the entries past the nodes stay
    pub found_past : Past N v marks
    found_past = walk_past (nexts es) N in_nexts (blanks N v) v (root ∷ []) [] on_stack

    pub connected_small : (x : ℕ) → Connected (Joins es) root x → x < N
    connected_small x here = low
    connected_small x (onward c j) = (inside _ x j).1
    connected_small x (backward c j) = (inside x _ j).0

    ends : Ended (nexts es) N in_nexts v (root ∷ []) marks
    ends = ended (nexts es) N in_nexts (blanks N v) v (root ∷ []) [] long (omega arith) on_stack (λ a b h m. inl (⊎_elim (λ j. sym (shut a b j) ∙ h) (λ j. shut b a j ∙ h) (nexts_joined es a b m)))

    reaches : {x : ℕ} → Connected (Joins es) root x → get_or marks x false ≡ true
    reaches here = ends.came root (inr (inl refl))
    reaches (onward {b} {c} w j) = ends.closed b c (reaches w) (among_left c (targets es b) (sources es b) (joins_seen Outgoing es b c j))
    reaches (backward {b} {c} w j) = ends.closed b c (reaches w) (among_right c (targets es b) (sources es b) (joins_seen Incoming es b c j))

    pub found_all : (x : ℕ) → Connected (Joins es) root x → Among x found
    found_all x c = ⊎_elim (λ was. absurd (both_ways _ (unfound es v shut root new c) was)) (λ a. a) (tied.to x (reaches c))

    -- what is marked was marked, or is connected with the root
    pub marked_only : (x : ℕ) → get_or marks x false ≡ true → (get_or v x false ≡ true) ⊎ Connected (Joins es) root x
    marked_only x h = only (nexts es) N in_nexts (λ y. Connected (Joins es) root y) (λ a b c m. ⊎_elim (λ j. onward c j) (λ j. backward c j) (nexts_joined es a b m)) (blanks N v) v (root ∷ []) [] (λ y m. ⊎_elim (λ (is : y ≡ root). subst (λ i. Connected (Joins es) root i) (sym is) here) (λ z. absurd z) m) x h

    -- the walk leaves whole subgraphs again
    pub shut_again : Shut es marks
    shut_again x y j =
        ⊎_elim
        (λ (h : get_or marks x false ≡ true). h ∙ sym (ends.closed x y h (among_left y (targets es x) (sources es x) (joins_seen Outgoing es x y j))))
        (λ (h : get_or marks x false ≡ false).
        ⊎_elim
        (λ (k : get_or marks y false ≡ true). absurd (both_ways _ h (ends.closed y x k (among_right x (targets es y) (sources es y) (joins_seen Incoming es y x j)))))
        (λ (k : get_or marks y false ≡ false). h ∙ sym k)
        (cases_Bool (get_or marks y false)))
        (cases_Bool (get_or marks x false))

    -- ---- the order
    module _ (w : List Bool) (long-w : N ≤ length w) (within : NoMore N w v) where
      unappended : (x : ℕ) → Connected (Joins es) root x → get_or w x false ≡ true → ⊥
      unappended x c h = both_ways _ (unfound es v shut root new c) (within x (connected_small x c) h)

      found_only : (x : ℕ) → Among x found → Connected (Joins es) root x
      found_only x a = ⊎_elim (λ was. absurd (fresh_found x a was)) (λ c. c) (marked_only x (tied.from x a))
        where
          fresh_found : (x : ℕ) → Among x found → get_or v x false ≡ true → ⊥
          fresh_found x a was = (kept (nexts es) N in_nexts (λ v' o. ((y : ℕ) → get_or v y false ≡ true → get_or v' y false ≡ true) × ((y : ℕ) → Among y o → get_or v y false ≡ true → ⊥))
              (λ v' o n small no' q. (λ y h. ⊎_elim (λ (is : y ≡ n). absurd (both_ways _ no' (subst (λ i. get_or v' i false ≡ true) is (q.0 y h)))) (λ (ne : y ≡ n → ⊥). get_or-set_other v' n y true false ne ∙ q.0 y h) (cases_eq y n), λ y b h. ⊎_elim (λ (is : y ≡ n). both_ways _ no' (q.0 n (subst (λ i. get_or v i false ≡ true) is h))) (λ b'. q.1 y b' h) b))
              (blanks N v) v (root ∷ []) [] on_stack (λ y h. h, λ y b h. absurd b)).1 x a was

      pub begins : State es N (λ x. Connected (Joins es) root x) connected_small (λ x y j c. onward c j) (λ x y j c. backward c j) w (starts es found) []
      begins = record {
        long = long-w;
        inside = λ m a. found_only m (filter_only (λ n. is_empty (sources es n)) found m a).0;
        readies = λ m a. is_empty_in (sources es m) w (filter_only (λ n. is_empty (sources es n)) found m a).1;
        noted = λ x c h. absurd (unappended x c h);
        marked = λ x a. absurd a;
        ordered = tt;
        covered = λ m c h. inr (filter_has (λ n. is_empty (sources es n)) found m (found_all m c) (is_empty_from (sources es m) (λ y a. unappended y (backward c (seen_joins Incoming es m y a)) (all_in_each (sources es m) w y h a))));
      }

      pub end : State es N (λ x. Connected (Joins es) root x) connected_small (λ x y j c. onward c j) (λ x y j c. backward c j) (sorted_from es N v w root).visited [] (sorted_from es N v w root).order
      end = runs es N (λ x. Connected (Joins es) root x) connected_small (λ x y j c. onward c j) (λ x y j c. backward c j) (blanks N w) w (starts es found) [] (omega arith) begins

      pub topological : Acyclic (Joins es) → Topological (Joins es) root (sorted_from es N v w root).order
      topological acyclic =
          let t = (sorted_from es N v w root).visited in
          let all = all_done es N (λ x. Connected (Joins es) root x) connected_small (λ x y j c. onward c j) (λ x y j c. backward c j) acyclic t (λ m c h. ⊎_elim (λ z. z) (λ a. absurd a) (end.covered m c h)) in
          record {
            ordered = end.ordered;
            whole = λ x c. end.noted x c (all x c);
            only = λ x a. (end.marked x a).1;
          }

      -- what is appended was appended, or is found now
      pub within_again : NoMore N (sorted_from es N v w root).visited marks
      within_again x lt h =
          ⊎_elim
          (λ was. tied.kept x (within x lt was))
          (λ a. reaches (end.marked x a).1)
          (walked_only (λ n u st. ready es (targets es n) u st) w (blanks N w) (starts es found) w [] (λ y z. inl z) x h)

      pub order_size : length (sorted_from es N v w root).order + blanks N (sorted_from es N v w root).visited ≤ blanks N w
      order_size =
          walked_size (λ n u st. ready es (targets es n) u st) N (blanks N w) (λ n u st y a. ⊎_elim (λ p. inl (inside n y (seen_joins Outgoing es n y p.0)).1) (λ b. inr b) (stacked_only (is_ready es u) (targets es n) st y a))
          (blanks N w) (starts es found) w [] long-w (λ y a. connected_small y (begins.inside y a)) (omega arith)
