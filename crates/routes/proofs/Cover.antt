-- A covered node stands behind a shown node that the view leads to.
use Rattle.std.proofs.Common.{◌≡◌, ℕ, zero, suc, ◌<◌, Bool, true, false, cond, eqb, List, [], ◌∷◌, ◌++◌, length, get_or, fold, sym, refl, ◌∙◌, subst, ⊎_elim, arith}
use mathlib.Core.Bool.{false≢true}
use Rattle.std.proofs.lemmas.Bool.{or_cases}
use Rattle.records.specs.declared.edge.Direction.TheVariants.{Incoming}
use Rattle.records.specs.declared.strand.Strands.{Strands}
use Rattle.records.specs.Strands.{blank, strand, present, has_strand, by_shown}
use Rattle.records.specs.Walks.{Walk, Leads, Among, Joins}
use Rattle.graph.proofs.Seen.{seen_joins}
use Rattle.routes.proofs.Walking.{snoc, leads_trans}
use Rattle.routes.specs.Graph.{Graph, shown, hidden, Shown, NoneShown, parents}
use Rattle.routes.specs.Strands.{entry}
use Rattle.routes.specs.View.{RowStep}
use Rattle.routes.proofs.Rows.{direct_step, strand_step}
use Rattle.routes.proofs.Settled.{Settled, edge_from, edge_to, edge_rank}
use Rattle.routes.proofs.Steps.{gather_keeps, brought, covered_after}
use Rattle.routes.proofs.Threads.{none_snoc}

some_strand : (v : Strands) → has_strand v ≡ true → (m : Bool) × (present (strand m v) ≡ true)
some_strand v h = ⊎_elim {C = (m : Bool) × (present (strand m v) ≡ true)} (λ p. (false, p)) (λ p. (true, p)) (or_cases (present v.plain) (present v.marked) h)

module _ (g : Graph) (live : List Bool) (T : ℕ → List Strands) (rank : ℕ → ℕ) (st : Settled g live T rank) (u : ℕ) (su : Shown g u) where
  -- a shown node that the view leads to from u, and a walk from it to n with no shown node in between
  abbrev pub Behind : ℕ → Type 0
  Behind n = (w : ℕ) × Shown g w × Leads (RowStep g T) u w × (ms : List ℕ) × NoneShown g ms × Walk (Joins g.edges) w ms n

  abbrev pub Reached : Bool → ℕ → Type 0
  Reached true n = Leads (RowStep g T) u n
  Reached false n = Behind n

  reach_step : (sf sn : Bool) (f n : ℕ) → shown g f ≡ sf → shown g n ≡ sn → Joins g.edges f n → ((entry (T u) f).covered ≡ true → Reached sf f) → brought sf sn (entry (T u) f) ≡ true → Reached sn n
  reach_step false false f n ef en d q h =
      let b = q h in
      (b.0, b.1, b.2, b.3 ++ (f ∷ []), none_snoc g b.3 f b.4 ef, snoc (Joins g.edges) b.0 b.3 f n b.5 d)
  reach_step true false f n ef en d q h = (f, (edge_from st.ranked f n d, ef), q h, [], tt, d)
  reach_step false true f n ef en d q h =
      let s = some_strand (entry (T u) f) h in
      ([], strand_step g T u f n s.0 su ef (edge_to st.ranked f n d, en) d s.1)
  reach_step true true f n ef en d q h =
      leads_trans (RowStep g T) u f n (q h) ([], direct_step g T f n ef (edge_to st.ranked f n d, en) d)

  CoverHolds : ℕ → Strands → Type 0
  CoverHolds n v = v.covered ≡ true → Reached (shown g n) n

  reach_join : (n : ℕ) → ((f : ℕ) → Joins g.edges f n → CoverHolds f (entry (T u) f)) → (f : ℕ) → Among f (parents g n) → (v : Strands) → CoverHolds n v → CoverHolds n (by_shown (shown g f) (shown g n) (eqb f u) (hidden g n) f (entry (T u) f) v)
  unfolding CoverHolds
  reach_join n below f m v p c =
      let d : Joins g.edges f n = seen_joins Incoming g.edges n f m in
      ⊎_elim p (reach_step (shown g f) (shown g n) f n refl refl d (below f d))
      (or_cases v.covered (brought (shown g f) (shown g n) (entry (T u) f))
      (sym (covered_after (shown g f) (shown g n) (eqb f u) (hidden g n) f (entry (T u) f) v) ∙ c))

  reach_blank : (n : ℕ) → CoverHolds n blank
  unfolding CoverHolds
  reach_blank n c = absurd (false≢true c)

  reach_cond : (b : Bool) (n : ℕ) (v : Strands) → CoverHolds n v → CoverHolds n (cond b v blank)
  reach_cond true n v p = p
  reach_cond false n v p = reach_blank n

  reach_below : (j n : ℕ) → rank n < j → n < length g.nodes → CoverHolds n (entry (T u) n)
  reach_below zero n lt h = absurd (omega arith)
  reach_below (suc j) n lt h =
      let step : Strands → ℕ → Strands = λ v f. by_shown (shown g f) (shown g n) (eqb f u) (hidden g n) f (entry (T u) f) v in
      subst (CoverHolds n) (sym (st.obeys u su n h))
      (reach_cond (get_or live n false) n (fold step blank (parents g n))
      (gather_keeps (CoverHolds n) step (parents g n)
      (reach_join n (λ f d. let r : rank f < rank n = edge_rank st.ranked f n d in reach_below j f (omega arith) (edge_from st.ranked f n d))) blank (reach_blank n)))

  pub covered_reached : (n : ℕ) → n < length g.nodes → (entry (T u) n).covered ≡ true → Reached (shown g n) n
  unfolding CoverHolds
  covered_reached n h c = reach_below (suc (rank n)) n (omega arith) h c
