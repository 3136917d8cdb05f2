-- A row or count that is written is read as it was, and bytes that are read are what is written of it.
use Rattle.std.proofs.Common.{◌≡◌, ℕ, ◌+◌, ◌*◌, ◌^◌, ◌<◌, false, ltb, List, [], ◌∷◌, ◌++◌, length, drop, Some, None, Ok, Err, Option, Result, sym, ap, ◌∙◌, arith, rules}
use Rattle.std.proofs.lemmas.Bool.{le-ltb, cond-false}
use Rattle.records.specs.declared.edge.Edge.{Edge}
use Rattle.records.specs.declared.node.Node.{Node}
use Rattle.records.specs.declared.node.NodeKind.{NodeKind}
use Rattle.records.specs.declared.node.NodeState.{NodeState}
use Rattle.records.specs.declared.sheet_refusal.SheetRefusal.{SheetRefusal}
use Rattle.records.specs.declared.sheet_refusal.SheetRefusal.TheVariants.{Misfit}
use Rattle.records.specs.Edges.{edge}
use Rattle.sheet.specs.declared.reader.SheetNode.{SheetNode}
use Rattle.records.specs.Nodes.{state_of, kind_of}
use Rattle.sheet.specs.Bytes.{Bytes, long}
use Rattle.sheet.specs.Rows.{count_at, row_of, node_row, edge_row}
use Rattle.records.specs.Nodes.{kind_number}
use Rattle.sheet.specs.Encoding.{state_byte, two, four, node_bytes, edge_bytes}
use Rattle.sheet.proofs.ByteLaws.{state_back, kind_back, two_back, four_back, state_same, kind_same, two_same, four_same}

-- what stands in the row of a node
abbrev pub row_for : Node → SheetNode
row_for n = record { state = n.state; kind = n.kind; item = n.item }

-- the node of a row
abbrev pub node_of : SheetNode → Node
node_of r = record { state = r.state; kind = r.kind; item = r.item; place = None }

pub row_back : (p : ℕ) (n : Node) (post : List ℕ) → n.item < 2 ^ 32 → node_row p (node_bytes n ++ post) ≡ Ok (row_for n)
row_back p n post h = let e = four_back n.item post h in search (rules, state_back, kind_back)

pub edge_row_back : (p : ℕ) (e : Edge) (post : List ℕ) → edge_row p (edge_bytes e ++ post) ≡ Ok e
edge_row_back p e post = let a = two_back e.source post in let b = two_back e.target post in search rules

-- the parts of a row that was read
record Parts (o : Option NodeState) (q : Option NodeKind) (i : ℕ) (r : SheetNode) : Type 0 where
  pub state_is : o ≡ Some r.state
  pub kind_is : q ≡ Some r.kind
  pub item_is : i ≡ r.item

row_parts : (p : ℕ) (o : Option NodeState) (q : Option NodeKind) (i : ℕ) (r : SheetNode) → row_of p o q i ≡ Ok r → Parts o q i r
row_parts p (Some s) (Some k) i r h = record { state_is = cc; kind_is = cc; item_is = cc }
row_parts p (Some s) None i r h = absurd cc
row_parts p None q i r h = absurd cc

-- a row that was read is its node's bytes, and its item is small
pub row_same : (p : ℕ) (xs : List ℕ) (r : SheetNode) → Bytes xs → node_row p xs ≡ Ok r → (xs ≡ node_bytes (node_of r) ++ drop 6 xs) × (r.item < 2 ^ 32)
row_same p [] r b h = absurd cc
row_same p (x ∷ []) r b h = absurd cc
row_same p (x ∷ y ∷ []) r b h = absurd cc
row_same p (x ∷ y ∷ a ∷ []) r b h = absurd cc
row_same p (x ∷ y ∷ a ∷ e ∷ []) r b h = absurd cc
row_same p (x ∷ y ∷ a ∷ e ∷ c ∷ []) r b h = absurd cc
row_same p (x ∷ y ∷ a ∷ e ∷ c ∷ d ∷ xs) r (bx, (by, (ba, (be, (bc, (bd, bs)))))) h =
    let all = x ∷ y ∷ a ∷ e ∷ c ∷ d ∷ xs in
    let fits : ltb (length all) 6 ≡ false = le-ltb (length all) 6 (omega arith) in
    let got : row_of p (state_of x) (kind_of y) (long all 2) ≡ Ok r = sym (cond-false (ltb (length all) 6) (Err (Misfit p)) (row_of p (state_of x) (kind_of y) (long all 2)) fits) ∙ h in
    let parts = row_parts p (state_of x) (kind_of y) (long all 2) r got in
    let s = state_same x r.state parts.state_is in
    let k = kind_same y r.kind parts.kind_is in
    let i = parts.item_is in
    let g : four r.item ≡ a ∷ e ∷ c ∷ d ∷ [] = ap four (sym i) ∙ four_same a e c d ba be bc bd in
    (ap (λ z. z ++ xs) (sym (ap (λ z. state_byte r.state ∷ kind_number r.kind ∷ z) g ∙ ap (λ z. z ∷ kind_number r.kind ∷ a ∷ e ∷ c ∷ d ∷ []) (sym s) ∙ ap (λ z. x ∷ z ∷ a ∷ e ∷ c ∷ d ∷ []) (sym k))), omega arith)

pub edge_row_same : (p : ℕ) (xs : List ℕ) (e : Edge) → Bytes xs → edge_row p xs ≡ Ok e → xs ≡ edge_bytes e ++ drop 4 xs
edge_row_same p [] e b h = absurd cc
edge_row_same p (x ∷ []) e b h = absurd cc
edge_row_same p (x ∷ y ∷ []) e b h = absurd cc
edge_row_same p (x ∷ y ∷ a ∷ []) e b h = absurd cc
edge_row_same p (x ∷ y ∷ a ∷ c ∷ xs) e (bx, (by, (ba, (bc, bs)))) h =
    let all = x ∷ y ∷ a ∷ c ∷ xs in
    let made = edge (x * 256 + y) (a * 256 + c) in
    let fits : ltb (length all) 4 ≡ false = le-ltb (length all) 4 (omega arith) in
    let got : ◌≡◌ {A = Result Edge SheetRefusal} (Ok made) (Ok e) = sym (cond-false (ltb (length all) 4) (Err (Misfit p)) (Ok made) fits) ∙ h in
    let same : made ≡ e = cc in
    let bytes : edge_bytes made ≡ x ∷ y ∷ a ∷ c ∷ [] = ap (λ u. u ++ two (a * 256 + c)) (two_same x y bx by) ∙ ap (λ u. x ∷ y ∷ u) (two_same a c ba bc) in
    sym (ap (λ q. edge_bytes q ++ xs) (sym same) ∙ ap (λ u. u ++ xs) bytes)

pub count_same : (p : ℕ) (xs : List ℕ) (k : ℕ) → Bytes xs → count_at p xs ≡ Ok k → xs ≡ two k ++ drop 2 xs
count_same p [] k b h = absurd cc
count_same p (x ∷ []) k b h = absurd cc
count_same p (x ∷ y ∷ xs) k (bx, (by, bs)) h =
    let all = x ∷ y ∷ xs in
    let fits : ltb (length all) 2 ≡ false = le-ltb (length all) 2 (omega arith) in
    let got : ◌≡◌ {A = Result ℕ SheetRefusal} (Ok (x * 256 + y)) (Ok k) = sym (cond-false (ltb (length all) 2) (Err (Misfit p)) (Ok (x * 256 + y)) fits) ∙ h in
    let same : x * 256 + y ≡ k = cc in
    sym (ap (λ q. two q ++ xs) (sym same) ∙ ap (λ u. u ++ xs) (two_same x y bx by))
