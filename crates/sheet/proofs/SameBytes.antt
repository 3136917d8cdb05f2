-- Bytes that are read are the sheet of the graph that they give.
use Rattle.std.proofs.Common.{◌≡◌, ℕ, zero, suc, ◌+◌, ◌*◌, ◌<◌, ◌≤◌, true, false, cond, eqb, ltb, ◌⊎◌, List, [], ◌∷◌, ◌++◌, length, drop, Ok, Err, Result, sym, refl, ap, ◌∙◌, subst, inl, inr, arith}
use Rattle.std.specs.List.{flat_map, AllByRecursion}
use Rattle.std.proofs.ByRecursion.{All-drop}
use Rattle.std.proofs.lemmas.List.{append_assoc, append-nil, length_push, drop-drop, drop_all}
use Rattle.std.proofs.lemmas.Bool.{cases_lt, cases_Bool, le-ltb, lt-ltb, cond-false, cond-true, eqb-true}
use Rattle.records.specs.declared.edge.Edge.{Edge}
use Rattle.records.specs.declared.node.Node.{Node}
use Rattle.records.specs.declared.sheet_refusal.SheetRefusal.{SheetRefusal}
use Rattle.records.specs.declared.sheet_refusal.SheetRefusal.TheVariants.{Misfit, Short, Version, Length}
use Rattle.records.specs.declared.stage.Stage.TheVariants.{Open}
use Rattle.graph.specs.Model.{Model, empty, with_edges}
use Rattle.sheet.specs.declared.reader.SheetNode.{SheetNode}
use Rattle.sheet.specs.Bytes.{Bytes, long}
use Rattle.sheet.specs.Rows.{count_at, node_row, edge_row}
use Rattle.sheet.specs.Reading.{next, at_row, node_added, nodes_read, edge_added, edges_read, edge_part, body_read}
use Rattle.sheet.specs.Encoding.{two, four, node_bytes, edge_bytes, body_of, sheet_of, Plain, Inside, Given, SameBytes}
use Rattle.sheet.proofs.ByteLaws.{four_same}
use Rattle.sheet.proofs.RowLaws.{node_of, row_same, edge_row_same, count_same}
use Rattle.sheet.proofs.RowsAdded.{with_row, with_rows, with_edge, node_fits, edge_fits}

-- what node rows that were read say
record NodesGot (k p : ℕ) (bs : List ℕ) (m m' : Model) : Type 0 where
  pub ns : List Node
  pub many : length ns ≡ k
  pub bytes : drop p bs ≡ flat_map node_bytes ns ++ drop (p + 6 * k) bs
  pub after : m' ≡ with_rows (m.nodes ++ ns) ns m
  pub plain : AllByRecursion Plain ns
  pub few : length m.nodes + k ≤ 1024

nodes_got : (k p : ℕ) (bs : List ℕ) (m m' : Model) → Bytes bs → m.stage ≡ Open → length m.nodes ≤ 1024 → nodes_read k p bs m ≡ Ok m' → NodesGot k p bs m m'
nodes_got zero p bs m m' b o f h =
    let e = append-nil m.nodes in
    let same : m ≡ with_rows (m.nodes ++ []) [] m = ap (λ xs. with_rows xs [] m) (sym e) in
    let got : m ≡ m' = cc in
    record { ns = []; many = refl; bytes = ap (λ n. drop n bs) (omega arith); after = sym got ∙ same; plain = tt; few = omega arith }
nodes_got (suc k) p bs m m' b o f h = rows (λ m₂ o₂ f₂ h₂. nodes_got k (p + 6) bs m₂ m' b o₂ f₂ h₂) (node_row p (drop p bs)) refl h
  where
    added : ((m₂ : Model) → m₂.stage ≡ Open → length m₂.nodes ≤ 1024 → nodes_read k (p + 6) bs m₂ ≡ Ok m' → NodesGot k (p + 6) bs m₂ m') → (r : SheetNode) → node_row p (drop p bs) ≡ Ok r → (q : Result Model SheetRefusal) → at_row p (node_added r m) ≡ q → next q (nodes_read k (p + 6) bs) ≡ Ok m' → NodesGot (suc k) p bs m m'
    added again r e (Err x) a g = absurd cc
    added again r e (Ok m₁) a g =
        let n = node_of r in
        let got = node_fits p r m m₁ o a in
        let on : nodes_read k (p + 6) bs (with_row n m) ≡ Ok m' = subst (λ x. nodes_read k (p + 6) bs x ≡ Ok m') got.after g in
        let room = got.room in
        let rest = again (with_row n m) o (rw (length_push m.nodes n) (omega arith)) on in
        let here = row_same p (drop p bs) r (All-drop (λ x. x < 256) p bs b) e in
        let ends : drop (p + 6 + 6 * k) bs ≡ drop (p + 6 * suc k) bs = ap (λ i. drop i bs) (omega arith) in
        let tail : drop 6 (drop p bs) ≡ flat_map node_bytes rest.ns ++ drop (p + 6 * suc k) bs = drop-drop 6 p bs ∙ rest.bytes ∙ ap (λ xs. flat_map node_bytes rest.ns ++ xs) ends in
        let long : length (m.nodes ++ n ∷ []) ≡ length m.nodes + 1 = length_push m.nodes n in
        let room-left = rest.few in
        record {
          ns = n ∷ rest.ns;
          many = ap suc rest.many;
          bytes = here.0 ∙ ap (λ xs. node_bytes n ++ xs) tail ∙ sym (append_assoc (node_bytes n) (flat_map node_bytes rest.ns) (drop (p + 6 * suc k) bs));
          after = rest.after ∙ ap (λ xs. with_rows xs (n ∷ rest.ns) m) (append_assoc m.nodes (n ∷ []) rest.ns);
          plain = ((refl, here.1), rest.plain);
          few = omega arith;
        }

    rows : ((m₂ : Model) → m₂.stage ≡ Open → length m₂.nodes ≤ 1024 → nodes_read k (p + 6) bs m₂ ≡ Ok m' → NodesGot k (p + 6) bs m₂ m') → (q : Result SheetNode SheetRefusal) → node_row p (drop p bs) ≡ q → next q (λ r. next (at_row p (node_added r m)) (nodes_read k (p + 6) bs)) ≡ Ok m' → NodesGot (suc k) p bs m m'
    rows again (Err x) e g = absurd cc
    rows again (Ok r) e g = added again r e (at_row p (node_added r m)) refl g

-- what edge rows that were read say
record EdgesGot (k p : ℕ) (bs : List ℕ) (m m' : Model) : Type 0 where
  pub es : List Edge
  pub many : length es ≡ k
  pub bytes : drop p bs ≡ flat_map edge_bytes es
  pub after : m' ≡ with_edges (m.edges ++ es) m
  pub inside : AllByRecursion (Inside (length m.nodes)) es
  pub sparse : length m.edges + k ≤ 4096

edges_got : (k p : ℕ) (bs : List ℕ) (m m' : Model) → Bytes bs → m.stage ≡ Open → length m.edges ≤ 4096 → edges_read k p bs m ≡ Ok m' → EdgesGot k p bs m m'
edges_got zero p bs m m' b o f h = go (cases_lt p (length bs))
  where
    go : (p < length bs) ⊎ (length bs ≤ p) → EdgesGot zero p bs m m'
    go (inl l) = let e : cond (ltb p (length bs)) (Err (Misfit p)) (Ok m) ≡ Err (Misfit p) = cond-true (ltb p (length bs)) (Err (Misfit p)) (Ok m) (lt-ltb p (length bs) l) in absurd cc
    go (inr l) =
        let e : cond (ltb p (length bs)) (Err (Misfit p)) (Ok m) ≡ Ok m = cond-false (ltb p (length bs)) (Err (Misfit p)) (Ok m) (le-ltb p (length bs) l) in
        let got : m ≡ m' = cc in
        record { es = []; many = refl; bytes = drop_all p bs l; after = sym got ∙ ap (λ xs. with_edges xs m) (sym (append-nil m.edges)); inside = tt; sparse = omega arith }
edges_got (suc k) p bs m m' b o f h = rows (λ m₂ o₂ f₂ h₂. edges_got k (p + 4) bs m₂ m' b o₂ f₂ h₂) (edge_row p (drop p bs)) refl h
  where
    added : ((m₂ : Model) → m₂.stage ≡ Open → length m₂.edges ≤ 4096 → edges_read k (p + 4) bs m₂ ≡ Ok m' → EdgesGot k (p + 4) bs m₂ m') → (n : Edge) → edge_row p (drop p bs) ≡ Ok n → (q : Result Model SheetRefusal) → at_row p (edge_added n m) ≡ q → next q (edges_read k (p + 4) bs) ≡ Ok m' → EdgesGot (suc k) p bs m m'
    added again n e (Err x) a g = absurd cc
    added again n e (Ok m₁) a g =
        let got = edge_fits p n m m₁ o a in
        let on : edges_read k (p + 4) bs (with_edge n m) ≡ Ok m' = subst (λ x. edges_read k (p + 4) bs x ≡ Ok m') got.after g in
        let room = got.room in
        let rest = again (with_edge n m) o (rw (length_push m.edges n) (omega arith)) on in
        let here = edge_row_same p (drop p bs) n (All-drop (λ x. x < 256) p bs b) e in
        let long : length (m.edges ++ n ∷ []) ≡ length m.edges + 1 = length_push m.edges n in
        let room-left = rest.sparse in
        record {
          es = n ∷ rest.es;
          many = ap suc rest.many;
          bytes = here ∙ ap (λ xs. edge_bytes n ++ xs) (drop-drop 4 p bs ∙ rest.bytes);
          after = rest.after ∙ ap (λ xs. with_edges xs m) (append_assoc m.edges (n ∷ []) rest.es);
          inside = (got.inside, rest.inside);
          sparse = omega arith;
        }

    rows : ((m₂ : Model) → m₂.stage ≡ Open → length m₂.edges ≤ 4096 → edges_read k (p + 4) bs m₂ ≡ Ok m' → EdgesGot k (p + 4) bs m₂ m') → (q : Result Edge SheetRefusal) → edge_row p (drop p bs) ≡ q → next q (λ n. next (at_row p (edge_added n m)) (edges_read k (p + 4) bs)) ≡ Ok m' → EdgesGot (suc k) p bs m m'
    rows again (Err x) e g = absurd cc
    rows again (Ok n) e g = added again n e (at_row p (edge_added n m)) refl g

-- the body, as the sheet has it
record BodyGot (bs : List ℕ) (m : Model) : Type 0 where
  pub body_is : drop 5 bs ≡ body_of m
  pub given : Given m

module _ (bs : List ℕ) (m : Model) (b : Bytes bs) where
  edge_rows_lem : (k : ℕ) (m₁ : Model) (j : ℕ) → drop 5 bs ≡ two k ++ drop 7 bs → NodesGot k 7 bs empty m₁ → drop (7 + 6 * k) bs ≡ two j ++ drop (7 + 6 * k + 2) bs → edges_read j (7 + 6 * k + 2) bs m₁ ≡ Ok m → BodyGot bs m
  edge_rows_lem k m₁ j first nodes second g =
      let M₁ = with_rows nodes.ns nodes.ns empty in
      let on : edges_read j (7 + 6 * k + 2) bs M₁ ≡ Ok m = subst (λ x. edges_read j (7 + 6 * k + 2) bs x ≡ Ok m) nodes.after g in
      let edges = edges_got j (7 + 6 * k + 2) bs M₁ m b refl (omega arith) on in
      let M = with_edges edges.es M₁ in
      let is : m ≡ M = edges.after in
      let few = nodes.few in let sparse = edges.sparse in let n-many = nodes.many in let e-many = edges.many in
      let body : drop 5 bs ≡ body_of M =
      first ∙ ap (λ xs. two k ++ xs) (nodes.bytes ∙ ap (λ xs. flat_map node_bytes nodes.ns ++ xs) (second ∙ ap (λ xs. two j ++ xs) edges.bytes))
      ∙ ap (λ n. two n ++ (flat_map node_bytes nodes.ns ++ (two j ++ flat_map edge_bytes edges.es))) (sym n-many)
      ∙ ap (λ n. two (length nodes.ns) ++ (flat_map node_bytes nodes.ns ++ (two n ++ flat_map edge_bytes edges.es))) (sym e-many) in
      let good : Given M = record { opened = refl; few = omega arith; sparse = omega arith; plain = nodes.plain; inside = edges.inside; risen_so = refl; unordered = refl; unreached = refl } in
      subst (λ x. BodyGot bs x) (sym is) (record { body_is = body; given = good })

  edge_count : (k : ℕ) (m₁ : Model) → drop 5 bs ≡ two k ++ drop 7 bs → NodesGot k 7 bs empty m₁ → (q : Result ℕ SheetRefusal) → count_at (7 + 6 * k) (drop (7 + 6 * k) bs) ≡ q → next q (λ j. edges_read j (7 + 6 * k + 2) bs m₁) ≡ Ok m → BodyGot bs m
  edge_count k m₁ first nodes (Err x) e g = absurd cc
  edge_count k m₁ first nodes (Ok j) e g =
      let second = count_same (7 + 6 * k) (drop (7 + 6 * k) bs) j (All-drop (λ x. x < 256) (7 + 6 * k) bs b) e in
      edge_rows_lem k m₁ j first nodes (second ∙ ap (λ xs. two j ++ xs) (drop-drop 2 (7 + 6 * k) bs)) g

  node_rows : (k : ℕ) → drop 5 bs ≡ two k ++ drop 7 bs → (q : Result Model SheetRefusal) → nodes_read k 7 bs empty ≡ q → next q (edge_part (7 + 6 * k) bs) ≡ Ok m → BodyGot bs m
  node_rows k first (Err x) e g = absurd cc
  node_rows k first (Ok m₁) e g = edge_count k m₁ first (nodes_got k 7 bs empty m₁ b refl (omega arith) e) (count_at (7 + 6 * k) (drop (7 + 6 * k) bs)) refl g

  node_count : (q : Result ℕ SheetRefusal) → count_at 5 (drop 5 bs) ≡ q → next q (λ k. next (nodes_read k 7 bs empty) (edge_part (7 + 6 * k) bs)) ≡ Ok m → BodyGot bs m
  node_count (Err x) e g = absurd cc
  node_count (Ok k) e g =
      let first = count_same 5 (drop 5 bs) k (All-drop (λ x. x < 256) 5 bs b) e in
      node_rows k (first ∙ ap (λ xs. two k ++ xs) (drop-drop 2 5 bs)) (nodes_read k 7 bs empty) refl g

module _ (x y a c d : ℕ) (body : List ℕ) (m : Model) where
  abbrev all : List ℕ
  all = x ∷ y ∷ a ∷ c ∷ d ∷ body

  abbrev sized : Result Model SheetRefusal
  sized = cond (eqb (long all 1) (length body)) (body_read all) (Err Length)

  abbrev versioned : Result Model SheetRefusal
  versioned = cond (eqb x 1) sized (Err Version)

  five : Bytes all → versioned ≡ Ok m → (eqb x 1 ≡ true) ⊎ (eqb x 1 ≡ false) → (eqb (long all 1) (length body) ≡ true) ⊎ (eqb (long all 1) (length body) ≡ false) → (all ≡ sheet_of m) × Given m
  five b k (inr v) l = let e = cond-false (eqb x 1) sized (Err Version) v in absurd cc
  five b k (inl v) (inr l) = let e = cond-true (eqb x 1) sized (Err Version) v in let f = cond-false (eqb (long all 1) (length body)) (body_read all) (Err Length) l in absurd cc
  five b k (inl v) (inl l) =
      let e = cond-true (eqb x 1) sized (Err Version) v in
      let f = cond-true (eqb (long all 1) (length body)) (body_read all) (Err Length) l in
      let read : body_read all ≡ Ok m = sym f ∙ sym e ∙ k in
      let inner = node_count all m b (count_at 5 (drop 5 all)) refl read in
      let one : x ≡ 1 = eqb-true x 1 v in
      let size : long all 1 ≡ length body = eqb-true (long all 1) (length body) l in
      let fours : four (length body) ≡ y ∷ a ∷ c ∷ d ∷ [] = ap four (sym size) ∙ four_same y a c d b.1.0 b.1.1.0 b.1.1.1.0 b.1.1.1.1.0 in
      let whole : all ≡ 1 ∷ (four (length body) ++ body) = ap (λ u. u ∷ y ∷ a ∷ c ∷ d ∷ body) one ∙ sym (ap (λ u. 1 ∷ (u ++ body)) fours) in
      (whole ∙ ap (λ u. 1 ∷ (four (length u) ++ u)) inner.body_is, inner.given)

pub same_bytes : SameBytes
same_bytes [] m b h = absurd cc
same_bytes (x ∷ []) m b h = absurd cc
same_bytes (x ∷ y ∷ []) m b h = absurd cc
same_bytes (x ∷ y ∷ a ∷ []) m b h = absurd cc
same_bytes (x ∷ y ∷ a ∷ c ∷ []) m b h = absurd cc
same_bytes (x ∷ y ∷ a ∷ c ∷ d ∷ body) m b h =
    let bs = x ∷ y ∷ a ∷ c ∷ d ∷ body in
    let tested = versioned x y a c d body m in
    let k : tested ≡ Ok m = sym (cond-false (ltb (length bs) 5) (Err (Short (length bs))) tested (le-ltb (length bs) 5 (omega arith))) ∙ h in
    five x y a c d body m b k (cases_Bool (eqb x 1)) (cases_Bool (eqb (long bs 1) (length body)))
