-- Each strand is a walk from its source.
use Rattle.std.proofs.Common.{◌≡◌, ℕ, zero, suc, ◌<◌, ◌≤◌, Bool, true, false, cond, ◌||◌, eqb, List, [], ◌∷◌, ◌++◌, length, get_or, fold, sym, refl, ap, ◌∙◌, subst, arith}
use mathlib.Core.Bool.{false≢true}
use Rattle.std.proofs.lemmas.Bool.{eqb-true}
use Rattle.records.specs.declared.edge.Direction.TheVariants.{Incoming}
use Rattle.records.specs.declared.strand.Path.TheVariants.{Straight, Past}
use Rattle.records.specs.declared.strand.Strand.{Strand}
use Rattle.records.specs.declared.strand.Strand.TheVariants.{Absent, Pathless, Along}
use Rattle.records.specs.declared.strand.Strands.{Strands}
use Rattle.records.specs.Strands.{blank, strand, present, added, onward, give, cover, drop_if, take_on, by_shown}
use Rattle.records.specs.Walks.{Among, Joins}
use Rattle.graph.proofs.Seen.{seen_joins}
use Rattle.routes.proofs.Walking.{snoc}
use Rattle.routes.specs.Graph.{Graph, shown, hidden, NoneShown, any_hidden, parents}
use Rattle.routes.specs.Laws.{Thread, StrandsStand}
use Rattle.routes.specs.Strands.{entry, trail}
use Rattle.routes.proofs.Settled.{Ranked, Lawful, edge_from, edge_rank}
use Rattle.routes.proofs.Steps.{gather_keeps}

pub none_snoc : (g : Graph) (ms : List ℕ) (n : ℕ) → NoneShown g ms → shown g n ≡ false → NoneShown g (ms ++ (n ∷ []))
none_snoc g [] n h e = (e, tt)
none_snoc g (m ∷ ms) n h e = (h.0, none_snoc g ms n h.1 e)

or_right_false : (b : Bool) → (b || false) ≡ b
or_right_false true = refl
or_right_false false = refl

or_assoc : (a b c : Bool) → (a || (b || c)) ≡ ((a || b) || c)
or_assoc true b c = refl
or_assoc false b c = refl

hidden_snoc : (g : Graph) (ms : List ℕ) (n : ℕ) → any_hidden g (ms ++ (n ∷ [])) ≡ (any_hidden g ms || hidden g n)
hidden_snoc g [] n = or_right_false (hidden g n)
hidden_snoc g (m ∷ ms) n =
    ap (λ b. hidden g m || b) (hidden_snoc g ms n) ∙ or_assoc (hidden g m) (any_hidden g ms) (hidden g n)

module _ (g : Graph) (u : ℕ) where
  thread_on : (ms : List ℕ) (f n : ℕ) (mark : Bool) → Joins g.edges f n → shown g n ≡ false → Thread g u ms f mark → Thread g u (ms ++ (f ∷ [])) n (mark || hidden g n)
  thread_on ms f n mark d e t =
      record {
        walk = snoc (Joins g.edges) u ms f n t.walk d;
        unseen = none_snoc g (ms ++ (f ∷ [])) n t.unseen e;
        mark_is = hidden_snoc g (ms ++ (f ∷ [])) n ∙ ap (λ b. b || hidden g n) t.mark_is;
      }

  thread_start : (n : ℕ) → Joins g.edges u n → shown g n ≡ false → Thread g u [] n (hidden g n)
  thread_start n d e = record { walk = d; unseen = (e, tt); mark_is = or_right_false (hidden g n) }

module _ (g : Graph) (u : ℕ) (T : List Strands) (rank : ℕ → ℕ) where
  -- a strand at n is such a walk, along its path where it has one
  abbrev pub Sound : ℕ → Bool → Strand → Type 0
  Sound n mark Absent = Unit {0}
  Sound n mark Pathless = (ms : List ℕ) × Thread g u ms n mark
  Sound n mark (Along p) = (k : ℕ) → rank n ≤ k → Thread g u (trail k T (Along p)) n mark

  pub some_thread : (n : ℕ) (mark : Bool) (s : Strand) → present s ≡ true → Sound n mark s → (ms : List ℕ) × Thread g u ms n mark
  some_thread n mark Absent h q = absurd (false≢true h)
  some_thread n mark Pathless h q = q
  some_thread n mark (Along p) h q = (trail (rank n) T (Along p), q (rank n) (omega arith))

  sound_added : (n : ℕ) (mark : Bool) (a b : Strand) → Sound n mark a → Sound n mark b → Sound n mark (added a b)
  sound_added n mark a Absent p q = p
  sound_added n mark a Pathless p q = q
  sound_added n mark Absent (Along x) p q = q
  sound_added n mark Pathless (Along x) p q = p
  sound_added n mark (Along y) (Along x) p q = some_thread n mark (Along x) refl q

  unfoldable pub SoundAt : ℕ → Strands → Type 0
  SoundAt n v = (mark : Bool) → Sound n mark (strand mark v)

  sound_give : (n : ℕ) (k : Bool) (s : Strand) (v : Strands) → SoundAt n v → Sound n k s → SoundAt n (give k s v)
  unfolding SoundAt
  sound_give n false s v p q false = sound_added n false v.plain s (p false) q
  sound_give n false s v p q true = p true
  sound_give n true s v p q false = p false
  sound_give n true s v p q true = sound_added n true v.marked s (p true) q

  sound_cover : (n : ℕ) (c : Bool) (v : Strands) → SoundAt n v → SoundAt n (cover c v)
  unfolding SoundAt
  sound_cover n c v p false = p false
  sound_cover n c v p true = p true

  sound_drop : (n : ℕ) (c : Bool) (v : Strands) → SoundAt n v → SoundAt n (drop_if c v)
  unfolding SoundAt
  sound_drop n false v p mark = p mark
  sound_drop n true v p false = tt
  sound_drop n true v p true = tt

  trail_straight : (k : ℕ) → trail k T (Along Straight) ≡ []
  trail_straight zero = refl
  trail_straight (suc k) = refl

  sound_straight : (n : ℕ) → Joins g.edges u n → shown g n ≡ false → Sound n (hidden g n) (Along Straight)
  sound_straight n d e k le = rw (trail_straight k) (thread_start g u n d e)

  sound_onward : (f n : ℕ) (mark : Bool) (s : Strand) → s ≡ strand mark (entry T f) → Joins g.edges f n → rank f < rank n → shown g n ≡ false → Sound f mark s → Sound n (mark || hidden g n) (onward f mark s)
  sound_onward f n mark Absent is d lt e q = tt
  sound_onward f n mark Pathless is d lt e q = (q.0 ++ (f ∷ []), thread_on g u q.0 f n mark d e q.1)
  sound_onward f n mark (Along p) is d lt e q = go
    where
      go : (k : ℕ) → rank n ≤ k → Thread g u (trail k T (Along (Past f mark))) n (mark || hidden g n)
      go zero le = absurd (omega arith)
      go (suc k) le =
          let t : Thread g u (trail k T (strand mark (entry T f))) f mark = subst (λ (s : Strand). Thread g u (trail k T s) f mark) is (q k (omega arith)) in
          thread_on g u (trail k T (strand mark (entry T f))) f n mark d e t

  sound_take_on : (f n : ℕ) (v : Strands) → Joins g.edges f n → rank f < rank n → shown g n ≡ false → SoundAt f (entry T f) → SoundAt n v → SoundAt n (take_on (hidden g n) f (entry T f) v)
  unfolding SoundAt
  sound_take_on f n v d lt e q p =
      sound_give n true (onward f true (entry T f).marked) (give (hidden g n) (onward f false (entry T f).plain) v)
      (sound_give n (hidden g n) (onward f false (entry T f).plain) v p (sound_onward f n false (entry T f).plain refl d lt e (q false)))
      (sound_onward f n true (entry T f).marked refl d lt e (q true))

  sound_neither : (cf cv : Bool) (f n : ℕ) (v : Strands) → Joins g.edges f n → rank f < rank n → shown g n ≡ false → SoundAt f (entry T f) → SoundAt n v → SoundAt n (cover cf (cond cv (drop_if cf v) (take_on (hidden g n) f (entry T f) (drop_if cf v))))
  sound_neither cf true f n v d lt e q p = sound_cover n cf (drop_if cf v) (sound_drop n cf v p)
  sound_neither cf false f n v d lt e q p = sound_cover n cf (take_on (hidden g n) f (entry T f) (drop_if cf v)) (sound_take_on f n (drop_if cf v) d lt e q (sound_drop n cf v p))

  sound_source : (is_u : Bool) (f n : ℕ) (vf v : Strands) → (is_u ≡ true → f ≡ u) → Joins g.edges f n → shown g n ≡ false → SoundAt n v → SoundAt n (cover vf.covered (cond is_u (give (hidden g n) (Along Straight) v) v))
  sound_source false f n vf v is d e p = sound_cover n vf.covered v p
  sound_source true f n vf v is d e p =
      sound_cover n vf.covered (give (hidden g n) (Along Straight) v)
      (sound_give n (hidden g n) (Along Straight) v p (sound_straight n (subst (λ (x : ℕ). Joins g.edges x n) (is refl) d) e))

  sound_step : (sf : Bool) (f n : ℕ) (v : Strands) → shown g f ≡ sf → Joins g.edges f n → rank f < rank n → shown g n ≡ false → (shown g f ≡ false → SoundAt f (entry T f)) → SoundAt n v → SoundAt n (by_shown sf false (eqb f u) (hidden g n) f (entry T f) v)
  sound_step false f n v s d lt e q p = sound_neither (entry T f).covered v.covered f n v d lt e (q s) p
  sound_step true f n v s d lt e q p = sound_source (eqb f u) f n (entry T f) v (eqb-true f u) d e p

module _ (g : Graph) (rank : ℕ → ℕ) (ranked : Ranked g rank) (live : List Bool) (u : ℕ) (T : List Strands) (lawful : Lawful g live u T) where
  sound_join : (n : ℕ) → shown g n ≡ false → ((f : ℕ) → Joins g.edges f n → shown g f ≡ false → SoundAt g u T rank f (entry T f)) → (f : ℕ) → Among f (parents g n) → (v : Strands) → SoundAt g u T rank n v → SoundAt g u T rank n (by_shown (shown g f) (shown g n) (eqb f u) (hidden g n) f (entry T f) v)
  sound_join n e below f m v p =
      let d : Joins g.edges f n = seen_joins Incoming g.edges n f m in
      subst (λ (b : Bool). SoundAt g u T rank n (by_shown (shown g f) b (eqb f u) (hidden g n) f (entry T f) v)) (sym e)
      (sound_step g u T rank (shown g f) f n v refl d (edge_rank ranked f n d) e (below f d) p)

  sound_blank : (n : ℕ) → SoundAt g u T rank n blank
  unfolding SoundAt
  sound_blank n false = tt
  sound_blank n true = tt

  sound_cond : (b : Bool) (n : ℕ) (v : Strands) → SoundAt g u T rank n v → SoundAt g u T rank n (cond b v blank)
  sound_cond true n v p = p
  sound_cond false n v p = sound_blank n

  sound_below : (j n : ℕ) → rank n < j → n < length g.nodes → shown g n ≡ false → SoundAt g u T rank n (entry T n)
  sound_below zero n lt h e = absurd (omega arith)
  sound_below (suc j) n lt h e =
      let step : Strands → ℕ → Strands = λ v f. by_shown (shown g f) (shown g n) (eqb f u) (hidden g n) f (entry T f) v in
      subst (SoundAt g u T rank n) (sym (lawful n h))
      (sound_cond (get_or live n false) n (fold step blank (parents g n))
      (gather_keeps (SoundAt g u T rank n) step (parents g n)
      (sound_join n e (λ f d s. let r : rank f < rank n = edge_rank ranked f n d in sound_below j f (omega arith) (edge_from ranked f n d) s)) blank (sound_blank n)))

  -- every strand at a node that is not shown is a walk from u
  pub sound : (n : ℕ) → n < length g.nodes → shown g n ≡ false → (mark : Bool) → Sound g u T rank n mark (strand mark (entry T n))
  unfolding SoundAt
  sound n h e mark = sound_below (suc (rank n)) n (omega arith) h e mark

  pub strands_stand : StrandsStand g u T
  strands_stand n h e mark p = some_thread g u T rank n mark (strand mark (entry T n)) p (sound n h e mark)
