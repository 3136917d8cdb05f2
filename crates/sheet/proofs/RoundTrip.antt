-- The sheet of a graph is read as that graph.
use Rattle.std.proofs.Common.{◌≡◌, ℕ, ◌+◌, ◌*◌, ◌^◌, ◌<◌, ◌≤◌, cond, eqb, ltb, List, [], ◌∷◌, ◌++◌, length, drop, Ok, Err, Result, sym, refl, ap, ◌∙◌, arith, rules}
use Rattle.std.specs.List.{flat_map, AllByRecursion}
use Rattle.std.proofs.lemmas.List.{drop_at, append_assoc, append-nil, length-append, length_push}
use Rattle.std.proofs.lemmas.Bool.{le-ltb, cond-false, cond-true, eq-eqb}
use Rattle.records.specs.declared.edge.Edge.{Edge}
use Rattle.records.specs.declared.node.Node.{Node}
use Rattle.records.specs.declared.sheet_refusal.SheetRefusal.{SheetRefusal}
use Rattle.records.specs.declared.sheet_refusal.SheetRefusal.TheVariants.{Short, Length}
use Rattle.records.specs.declared.stage.Stage.TheVariants.{Open}
use Rattle.graph.specs.Model.{Model, Outcome, empty, with_edges}
use Rattle.sheet.specs.declared.reader.SheetNode.{SheetNode}
use Rattle.sheet.specs.Bytes.{long}
use Rattle.sheet.specs.Rows.{count_at, node_row, edge_row}
use Rattle.sheet.specs.Reading.{next, at_row, node_added, edge_added, nodes_read, edges_read, edge_part, body_read, sheet_read}
use Rattle.sheet.specs.Encoding.{two, four, node_bytes, edge_bytes, body_of, sheet_of, Plain, Inside, Given, RoundTrip}
use Rattle.sheet.proofs.ByteLaws.{two_back, four_back}
use Rattle.sheet.proofs.RowLaws.{row_back, edge_row_back}
use Rattle.sheet.proofs.RowsAdded.{with_row, with_rows, with_edge, node_added_lem, edge_added_lem}

nodes_back : (ns : List Node) (pre post : List ℕ) (m : Model) → m.stage ≡ Open → length m.nodes + length ns ≤ 1024 → AllByRecursion Plain ns → nodes_read (length ns) (length pre) (pre ++ (flat_map node_bytes ns ++ post)) m ≡ Ok (with_rows (m.nodes ++ ns) ns m)
nodes_back [] pre post m o h a = let e = append-nil m.nodes in rw e
nodes_back (n ∷ ns) pre post m o h (plain, a) =
    let bs = pre ++ ((node_bytes n ++ flat_map node_bytes ns) ++ post) in
    let here : drop (length pre) bs ≡ node_bytes n ++ (flat_map node_bytes ns ++ post) = drop_at pre _ (length pre) refl ∙ append_assoc (node_bytes n) (flat_map node_bytes ns) post in
    let row = row_back (length pre) n (flat_map node_bytes ns ++ post) plain.1 in
    let added = node_added_lem n m o (omega arith) plain.0 in
    let rest = nodes_back ns (pre ++ node_bytes n) post (with_row n m) o (rw (length_push m.nodes n) (omega arith)) a in
    let on : length (pre ++ node_bytes n) ≡ length pre + 6 = length-append pre (node_bytes n) in
    let same : (pre ++ node_bytes n) ++ (flat_map node_bytes ns ++ post) ≡ bs = append_assoc pre (node_bytes n) (flat_map node_bytes ns ++ post) in
    let L : Outcome ℕ → Result Model SheetRefusal = λ q. next (at_row (length pre) q) (nodes_read (length ns) (length pre + 6) bs) in
    let K : SheetNode → Result Model SheetRefusal = λ r. L (node_added r m) in
    let first : next (node_row (length pre) (drop (length pre) bs)) K ≡ nodes_read (length ns) (length pre + 6) bs (with_row n m) =
    ap (λ xs. next (node_row (length pre) xs) K) here ∙ ap (λ r. next r K) row ∙ ap L added in
    let moved : nodes_read (length ns) (length pre + 6) bs (with_row n m) ≡ Ok (with_rows ((m.nodes ++ n ∷ []) ++ ns) (n ∷ ns) m) = rw (on, same) at rest in
    first ∙ moved ∙ ap (λ xs. Ok (with_rows xs (n ∷ ns) m)) (append_assoc m.nodes (n ∷ []) ns)

edges_back : (es : List Edge) (pre : List ℕ) (m : Model) → m.stage ≡ Open → length m.edges + length es ≤ 4096 → AllByRecursion (Inside (length m.nodes)) es → edges_read (length es) (length pre) (pre ++ flat_map edge_bytes es) m ≡ Ok (with_edges (m.edges ++ es) m)
edges_back [] pre m o h a = let e = append-nil m.edges in let f = append-nil pre in search rules
edges_back (e ∷ es) pre m o h (inside, a) =
    let bs = pre ++ (edge_bytes e ++ flat_map edge_bytes es) in
    let here : drop (length pre) bs ≡ edge_bytes e ++ flat_map edge_bytes es = drop_at pre _ (length pre) refl in
    let row = edge_row_back (length pre) e (flat_map edge_bytes es) in
    let added = edge_added_lem e m o (omega arith) inside in
    let rest = edges_back es (pre ++ edge_bytes e) (with_edge e m) o (rw (length_push m.edges e) (omega arith)) a in
    let on : length (pre ++ edge_bytes e) ≡ length pre + 4 = length-append pre (edge_bytes e) in
    let same : (pre ++ edge_bytes e) ++ flat_map edge_bytes es ≡ bs = append_assoc pre (edge_bytes e) (flat_map edge_bytes es) in
    let L : Outcome ℕ → Result Model SheetRefusal = λ q. next (at_row (length pre) q) (edges_read (length es) (length pre + 4) bs) in
    let K : Edge → Result Model SheetRefusal = λ r. L (edge_added r m) in
    let first : next (edge_row (length pre) (drop (length pre) bs)) K ≡ edges_read (length es) (length pre + 4) bs (with_edge e m) =
    ap (λ xs. next (edge_row (length pre) xs) K) here ∙ ap (λ r. next r K) row ∙ ap L added in
    let moved : edges_read (length es) (length pre + 4) bs (with_edge e m) ≡ Ok (with_edges ((m.edges ++ e ∷ []) ++ es) m) = rw (on, same) at rest in
    first ∙ moved ∙ ap (λ xs. Ok (with_edges xs m)) (append_assoc m.edges (e ∷ []) es)

length_nodes : (ns : List Node) → length (flat_map node_bytes ns) ≡ 6 * length ns
length_nodes [] = refl
length_nodes (n ∷ ns) = omega (arith, length_nodes ns)

length_edges : (es : List Edge) → length (flat_map edge_bytes es) ≡ 4 * length es
length_edges [] = refl
length_edges (e ∷ es) = omega (arith, length_edges es)

module _ (m : Model) (given : Given m) where
  -- the sheet up to the node rows, and from the edge count on
  abbrev head : List ℕ
  head = 1 ∷ (four (length (body_of m)) ++ two (length m.nodes))

  abbrev edge_end : List ℕ
  edge_end = two (length m.edges) ++ flat_map edge_bytes m.edges

  body_length : length (body_of m) < 2 ^ 32
  body_length =
      let few = given.few in let sparse = given.sparse in
      let a = length-append (flat_map node_bytes m.nodes) edge_end in
      omega (arith, length_nodes m.nodes, length_edges m.edges)

  count_back : count_at 5 (drop 5 (sheet_of m)) ≡ Ok (length m.nodes)
  count_back = let a = two_back (length m.nodes) (flat_map node_bytes m.nodes ++ edge_end) in search rules

  nodes_part : nodes_read (length m.nodes) 7 (sheet_of m) empty ≡ Ok (with_edges [] m)
  nodes_part =
      let few = given.few in let o = given.opened in let g = given.risen_so in let u = given.unordered in let v = given.unreached in
      let e = nodes_back m.nodes head edge_end empty refl (omega arith) given.plain in
      let same : with_rows m.nodes m.nodes empty ≡ with_edges [] m = cc in
      e ∙ ap (λ x. Ok x) same

  edge_part_lem : edge_part (7 + 6 * length m.nodes) (sheet_of m) (with_edges [] m) ≡ Ok m
  edge_part_lem =
      let p = 7 + 6 * length m.nodes in
      let bs = sheet_of m in
      let front = head ++ flat_map node_bytes m.nodes in
      let on : length front ≡ p = length-append head (flat_map node_bytes m.nodes) ∙ ap (λ n. 7 + n) (length_nodes m.nodes) in
      let whole : bs ≡ front ++ edge_end = sym (append_assoc head (flat_map node_bytes m.nodes) edge_end) in
      let here : drop p bs ≡ edge_end = ap (drop p) whole ∙ drop_at front edge_end p on in
      let K : ℕ → Result Model SheetRefusal = λ k. edges_read k (p + 2) bs (with_edges [] m) in
      let two_here = two_back (length m.edges) (flat_map edge_bytes m.edges) in
      let count : count_at p edge_end ≡ Ok (length m.edges) = search rules in
      let pre = front ++ two (length m.edges) in
      let on_two : length pre ≡ p + 2 = length-append front (two (length m.edges)) ∙ ap (λ n. n + 2) on in
      let whole_two : pre ++ flat_map edge_bytes m.edges ≡ bs = append_assoc front (two (length m.edges)) (flat_map edge_bytes m.edges) ∙ sym whole in
      let sparse = given.sparse in
      let rest = edges_back m.edges pre (with_edges [] m) given.opened (omega arith) given.inside in
      let moved : edges_read (length m.edges) (p + 2) bs (with_edges [] m) ≡ Ok m = rw (on_two, whole_two) at rest in
      ap (λ xs. next (count_at p xs) K) here ∙ ap (λ r. next r K) count ∙ moved

  read_back : sheet_read (sheet_of m) ≡ Ok m
  read_back =
      let size = four_back (length (body_of m)) (body_of m) body_length in
      let K : ℕ → Result Model SheetRefusal = λ k. next (nodes_read k 7 (sheet_of m) empty) (edge_part (7 + 6 * k) (sheet_of m)) in
      let body : body_read (sheet_of m) ≡ Ok m = ap (λ r. next r K) count_back ∙ ap (λ r. next r (edge_part (7 + 6 * length m.nodes) (sheet_of m))) nodes_part ∙ edge_part_lem in
      let inner = cond (eqb (long (sheet_of m) 1) (length (drop 5 (sheet_of m)))) (body_read (sheet_of m)) (Err Length) in
      cond-false (ltb (length (sheet_of m)) 5) (Err (Short (length (sheet_of m)))) inner (le-ltb (length (sheet_of m)) 5 (omega arith))
      ∙ cond-true (eqb (long (sheet_of m) 1) (length (drop 5 (sheet_of m)))) (body_read (sheet_of m)) (Err Length) (eq-eqb (long (sheet_of m) 1) (length (drop 5 (sheet_of m))) size)
      ∙ body

pub round_trip : RoundTrip
round_trip m given = read_back m given
