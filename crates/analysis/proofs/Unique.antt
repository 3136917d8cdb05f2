-- One table obeys the rule, where each neighbour has a lower rank.
use Rattle.std.proofs.Common.{◌≡◌, ℕ, zero, suc, ◌<◌, List, [], ◌∷◌, length, get_or, fold, sym, refl, ap, ◌∙◌, subst, arith}
use Rattle.std.proofs.lemmas.List.FromFn.{fill_by_all, get_or-map-range_with_len}
use Rattle.std.specs.List.{AllByRecursion}
use Rattle.records.specs.declared.node.Node.{Node}
use Rattle.records.specs.Nodes.{no_node}
use Rattle.walk_neighbors.proofs.Each.{each_map}
use Rattle.analysis.specs.Rule.{Meaning, ruled, Obeys, Solves, worth, value_table}

pub folded_same : {X V : Type 0} (f g : V → X → V) (v : V) (xs : List X) → AllByRecursion (λ x. (w : V) → f w x ≡ g w x) xs → fold f v xs ≡ fold g v xs
folded_same f g v [] a = refl
folded_same f g v (x ∷ xs) a = ap (λ w. fold f w xs) (a.0 v) ∙ folded_same f g (g v x) xs a.1

pub ruled_same : {V : Type 0} (m : Meaning V) (nodes : List Node) (near : ℕ → List ℕ) (p q : ℕ → V) (n : ℕ) → AllByRecursion (λ k. p k ≡ q k) (near n) → ruled m nodes near p n ≡ ruled m nodes near q n
ruled_same m nodes near p q n a =
    ap (λ v. m.close v n (get_or nodes n no_node))
    (folded_same _ _ (m.start n (get_or nodes n no_node)) (near n)
    (each_map _ _ (near n) (λ k e w. ap (m.join w n (get_or nodes n no_node) k (get_or nodes k no_node)) e) a))

-- The neighbours of each node are nodes of lower rank.
abbrev pub Lower : ℕ → (ℕ → List ℕ) → (ℕ → ℕ) → Type 0
Lower count near rank = (n : ℕ) → AllByRecursion (λ k. (k < count) × (rank k < rank n)) (near n)

module _ {V : Type 0} (m : Meaning V) (nodes : List Node) (near : ℕ → List ℕ) (rank : ℕ → ℕ) (lower : Lower (length nodes) near rank) where
  -- past a node's rank its worth changes no more
  pub settled : (c d n : ℕ) → rank n < c → rank n < d → worth m nodes near c n ≡ worth m nodes near d n
  settled zero d n h k = absurd (omega arith)
  settled (suc c) zero n h k = absurd (omega arith)
  settled (suc c) (suc d) n h k =
      ruled_same m nodes near (worth m nodes near c) (worth m nodes near d) n
      (each_map _ _ (near n) (λ j l. settled c d j (omega arith) (omega arith)) (lower n))

  -- a table that obeys the rule holds each node's worth
  pub obeys_worth : (table : List V) → Obeys m nodes near table → (d n : ℕ) → n < length nodes → rank n < d → get_or table n m.blank ≡ worth m nodes near d n
  obeys_worth table obeys zero n h k = absurd (omega arith)
  obeys_worth table obeys (suc d) n h k =
      obeys n h
      ∙ ruled_same m nodes near (λ j. get_or table j m.blank) (worth m nodes near d) n
      (each_map _ _ (near n) (λ j l. obeys_worth table obeys d j l.0 (omega arith)) (lower n))

  -- what the rule gives from worths is the worth
  pub ruled_worth : (table : List V) (n : ℕ) → rank n < length nodes → AllByRecursion (λ k. get_or table k m.blank ≡ worth m nodes near (length nodes) k) (near n) → ruled m nodes near (λ k. get_or table k m.blank) n ≡ worth m nodes near (length nodes) n
  ruled_worth table n h a =
      ruled_same m nodes near (λ k. get_or table k m.blank) (worth m nodes near (length nodes)) n a
      ∙ settled (suc (length nodes)) (length nodes) n (omega arith) h

  module _ (low : (n : ℕ) → n < length nodes → rank n < length nodes) where
    pub obeys_unique : (table : List V) → length table ≡ length nodes → Obeys m nodes near table → table ≡ value_table m nodes near
    obeys_unique table l obeys =
        fill_by_all (worth m nodes near (length nodes)) table (length nodes) m.blank l
        (λ k h. obeys_worth table obeys (length nodes) k h (low k h))

    value_at : (k : ℕ) → k < length nodes → get_or (value_table m nodes near) k m.blank ≡ worth m nodes near (length nodes) k
    value_at k h = get_or-map-range_with_len (worth m nodes near (length nodes)) 0 (length nodes) k k m.blank h (omega arith)

    pub value_obeys : Obeys m nodes near (value_table m nodes near)
    value_obeys n h =
        value_at n h
        ∙ sym (ruled_worth (value_table m nodes near) n (low n h) (each_map _ _ (near n) (λ k l. value_at k l.0) (lower n)))

    pub value_solves : Solves m nodes near (value_table m nodes near)
    value_solves other l = (obeys_unique other l, λ e. subst (Obeys m nodes near) (sym e) value_obeys)
