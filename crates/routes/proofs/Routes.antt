-- The view leads where the graph leads.
use Rattle.std.proofs.Common.{◌≡◌, ℕ, zero, suc, ◌+◌, ◌<◌, ◌≤◌, Bool, true, false, cond, eqb, List, [], ◌∷◌, ◌++◌, length, get_or, fold, sym, refl, subst, inl, inr, arith}
use Rattle.std.proofs.lemmas.Bool.{eq-eqb}
use Rattle.records.specs.declared.edge.Direction.TheVariants.{Incoming}
use Rattle.records.specs.declared.strand.Strands.{Strands}
use Rattle.records.specs.Strands.{blank, by_shown}
use Rattle.records.specs.Walks.{Walk, Leads, Joins}
use Rattle.graph.proofs.Seen.{joins_seen}
use Rattle.routes.proofs.Walking.{snoc, leads_trans, leads_rank}
use Rattle.routes.specs.Graph.{Graph, shown, hidden, Shown, NoneShown, parents}
use Rattle.routes.specs.Laws.{KeepsRoutes}
use Rattle.routes.specs.Strands.{entry}
use Rattle.routes.specs.View.{RowStep}
use Rattle.routes.proofs.Cover.{Behind, Reached, covered_reached}
use Rattle.routes.proofs.Rows.{direct_step, strand_step, view_leads}
use Rattle.routes.proofs.Settled.{Settled, edge_from, edge_to, edge_rank}
use Rattle.routes.proofs.Steps.{gather_meets, Known, known_stays, known_goes_on, known_starts}
use Rattle.routes.proofs.Threads.{none_snoc}

module _ (g : Graph) (live : List Bool) (T : ℕ → List Strands) (rank : ℕ → ℕ) (st : Settled g live T rank) where
  -- an edge that brings the source to a live node leaves it known there
  brings : (u n f : ℕ) → Shown g u → n < length g.nodes → get_or live n false ≡ true → Joins g.edges f n → ((v : Strands) → Known (by_shown (shown g f) (shown g n) (eqb f u) (hidden g n) f (entry (T u) f) v)) → Known (entry (T u) n)
  brings u n f su h l d b =
      let step : Strands → ℕ → Strands = λ v f. by_shown (shown g f) (shown g n) (eqb f u) (hidden g n) f (entry (T u) f) v in
      subst Known (sym (st.obeys u su n h))
      (subst (λ (x : Bool). Known (cond x (fold step blank (parents g n)) blank)) (sym l)
      (gather_meets Known step (parents g n)
      (λ x m v k. known_stays (shown g x) (shown g n) (eqb x u) (hidden g n) x (entry (T u) x) v k) f (joins_seen Incoming g.edges n f d) b blank))

  starts : (u n : ℕ) → Shown g u → shown g n ≡ false → get_or live n false ≡ true → Joins g.edges u n → Known (entry (T u) n)
  starts u n su sn l d =
      brings u n u su (edge_to st.ranked u n d) l d
      (λ v. subst (λ (a : Bool). Known (by_shown a (shown g n) (eqb u u) (hidden g n) u (entry (T u) u) v)) (sym su.1)
      (subst (λ (b : Bool). Known (by_shown true b (eqb u u) (hidden g n) u (entry (T u) u) v)) (sym sn)
      (subst (λ (c : Bool). Known (by_shown true false c (hidden g n) u (entry (T u) u) v)) (sym (eq-eqb u u refl))
      (known_starts (hidden g n) u (entry (T u) u) v))))

  goes_on : (u f n : ℕ) → Shown g u → shown g f ≡ false → shown g n ≡ false → get_or live n false ≡ true → Joins g.edges f n → Known (entry (T u) f) → Known (entry (T u) n)
  goes_on u f n su sf sn l d k =
      brings u n f su (edge_to st.ranked f n d) l d
      (λ v. subst (λ (a : Bool). Known (by_shown a (shown g n) (eqb f u) (hidden g n) f (entry (T u) f) v)) (sym sf)
      (subst (λ (b : Bool). Known (by_shown false b (eqb f u) (hidden g n) f (entry (T u) f) v)) (sym sn)
      (known_goes_on (eqb f u) (hidden g n) f (entry (T u) f) v k)))

  live_at : (n t : ℕ) (ms : List ℕ) → n < length g.nodes → Shown g t → Walk (Joins g.edges) n ms t → get_or live n false ≡ true
  live_at n t ms h sh w = (st.alive n h).1 (t, sh.0, sh.1, inr (ms, w))

  -- Along a walk with no shown node in between, the source is known at its last node before t
  drives : (u n t : ℕ) (ms : List ℕ) → Shown g u → Shown g t → shown g n ≡ false → NoneShown g ms → Walk (Joins g.edges) n ms t → Known (entry (T u) n) → (h : ℕ) × (shown g h ≡ false) × Known (entry (T u) h) × Joins g.edges h t
  drives u n t [] su sh sn hs w k = (n, sn, k, w)
  drives u n t (m ∷ ms) su sh sn hs w k =
      drives u m t ms su sh hs.0 hs.1 w.1
      (goes_on u n m su sn hs.0 (live_at m t ms (edge_to st.ranked n m w.0) sh w.1) w.0 k)

  -- a walk between shown nodes with None in between: the view leads there
  hop : (j u t : ℕ) (ms : List ℕ) → length g.nodes ≤ rank u + j → Shown g u → Shown g t → NoneShown g ms → Walk (Joins g.edges) u ms t → Leads (RowStep g T) u t
  hop zero u t ms le su sh hs w = let h : rank u < length g.nodes = st.ranked.within u su.0 in absurd (omega arith)
  hop (suc j) u t [] le su sh hs w = ([], direct_step g T u t su.1 sh w)
  hop (suc j) u t (m ∷ ms) le su sh hs w =
      let l : get_or live m false ≡ true = live_at m t ms (edge_to st.ranked u m w.0) sh w.1 in
      let q = drives u m t ms su sh hs.0 hs.1 w.1 (starts u m su hs.0 l w.0) in
      at q.0 q.1 q.3 q.2 (λ x ns. hop j x t ns)
    where
      behind : (h : ℕ) → shown g h ≡ false → Joins g.edges h t → Behind g live T rank st u su h
          → ((x : ℕ) (ns : List ℕ) → length g.nodes ≤ rank x + j → Shown g x → Shown g t → NoneShown g ns → Walk (Joins g.edges) x ns t → Leads (RowStep g T) x t) → Leads (RowStep g T) u t
      behind h eh d b rec =
          let v = view_leads g live T rank st u b.0 b.2 in
          let lt : rank u < rank b.0 = leads_rank (Joins g.edges) rank (edge_rank st.ranked) u v.0 b.0 v.1 in
          leads_trans (RowStep g T) u b.0 t b.2
          (rec b.0 (b.3 ++ (h ∷ [])) (omega arith) b.1 sh (none_snoc g b.3 h b.4 eh) (snoc (Joins g.edges) b.0 b.3 h t b.5 d))

      at : (h : ℕ) → shown g h ≡ false → Joins g.edges h t → Known (entry (T u) h)
          → ((x : ℕ) (ns : List ℕ) → length g.nodes ≤ rank x + j → Shown g x → Shown g t → NoneShown g ns → Walk (Joins g.edges) x ns t → Leads (RowStep g T) x t) → Leads (RowStep g T) u t
      at h eh d (inl s) rec = ([], strand_step g T u h t s.0 su eh sh d s.1)
      at h eh d (inr c) rec =
          behind h eh d (subst (λ (b : Bool). Reached g live T rank st u su b h) eh (covered_reached g live T rank st u su h (edge_from st.ranked h t d) c)) rec

  hops : (u t : ℕ) (ms : List ℕ) → Shown g u → Shown g t → NoneShown g ms → Walk (Joins g.edges) u ms t → Leads (RowStep g T) u t
  hops u t ms = hop (length g.nodes) u t ms (omega arith)

  -- a walk is cut at its shown nodes: ps are those passed since u, None shown, n is the next
  cuts : (ms : List ℕ) (u n t : ℕ) (ps : List ℕ) → Shown g u → Shown g t → NoneShown g ps → Walk (Joins g.edges) u ps n → n < length g.nodes → (b : Bool) → shown g n ≡ b → Walk (Joins g.edges) n ms t → Leads (RowStep g T) u t
  cuts [] u n t ps su sh hs w h true e r = leads_trans (RowStep g T) u n t (hops u n ps su (h, e) hs w) (hops n t [] (h, e) sh tt r)
  cuts [] u n t ps su sh hs w h false e r = hops u t (ps ++ (n ∷ [])) su sh (none_snoc g ps n hs e) (snoc (Joins g.edges) u ps n t w r)
  cuts (m ∷ ms) u n t ps su sh hs w h true e r =
      leads_trans (RowStep g T) u n t (hops u n ps su (h, e) hs w)
      (cuts ms n m t [] (h, e) sh tt r.0 (edge_to st.ranked n m r.0) (shown g m) refl r.1)
  cuts (m ∷ ms) u n t ps su sh hs w h false e r =
      cuts ms u m t (ps ++ (n ∷ [])) su sh (none_snoc g ps n hs e) (snoc (Joins g.edges) u ps n m w r.0) (edge_to st.ranked n m r.0) (shown g m) refl r.1

  pub graph_leads : (s t : ℕ) (ms : List ℕ) → Shown g s → Shown g t → Walk (Joins g.edges) s ms t → Leads (RowStep g T) s t
  graph_leads s t [] ss sh w = hops s t [] ss sh tt w
  graph_leads s t (m ∷ ms) ss sh w = cuts ms s m t [] ss sh tt w.0 (edge_to st.ranked s m w.0) (shown g m) refl w.1

  pub routes_kept : KeepsRoutes g T
  routes_kept s t ss sh = (view_leads g live T rank st s t, λ l. graph_leads s t l.0 ss sh l.1)
