-- Which rows a view has, and what each stands for.
use Rattle.std.proofs.Common.{◌≡◌, ℕ, ◌<◌, ◌≤◌, Bool, true, false, cond, eqb, List, [], ◌∷◌, ◌++◌, length, Some, None, Option, sym, refl, subst, inl, inr, ⊎_elim, arith}
use mathlib.Core.Bool.{false≢true}
use Rattle.std.proofs.lemmas.Bool.{eqb-true, eq-eqb}
use Rattle.std.specs.List.{flat_map, range_with_len}
use Rattle.records.specs.declared.strand.Strand.{Strand}
use Rattle.records.specs.declared.strand.Strand.TheVariants.{Absent, Pathless, Along}
use Rattle.records.specs.declared.strand.Strands.{Strands}
use Rattle.records.specs.Strands.{strand, present}
use Rattle.records.specs.Walks.{Leads, Among, Joins, Runs}
use Rattle.graph.proofs.Standings.{among_either, among_left, among_right}
use Rattle.routes.proofs.Walking.{snoc, leads_map}
use Rattle.routes.specs.Graph.{Graph, source_of, target_of, shown, Shown, between}
use Rattle.routes.specs.Laws.{Thread, Follows, Stands, AllStand}
use Rattle.routes.specs.Strands.{entry, trail}
use Rattle.routes.specs.View.{Row, only_if, direct, across, row_source, row_target, strand_row, strand_rows, newest_rows, edge_rows, target_rows, rows, RowStep}
use Rattle.routes.proofs.Edges.{between_runs, runs_between}
use Rattle.routes.proofs.Lists.{among_flat_map, flat_map_among, among_first, first_among, among_only_if, only_if_among}
use Rattle.routes.proofs.Settled.{Settled}
use Rattle.routes.proofs.Threads.{Sound, sound}

follows_cond : (sole : Bool) (path : List ℕ) → Follows (cond sole (Some path) None) path
follows_cond true path = refl
follows_cond false path = tt

module _ (g : Graph) (T : ℕ → List Strands) where
  -- a row of an edge into a shown target is a row of the view
  row_of_edge : (r : Row) (h t e : ℕ) → Runs g.edges e h t → Shown g t → Among r (edge_rows g T t h e) → Among r (rows g T)
  row_of_edge r h t e run st m =
      flat_map_among r (target_rows g T) (range_with_len 0 (length g.nodes)) t (first_among (length g.nodes) t st.0)
      (only_if_among r (shown g t) _ st.1
      (flat_map_among r (λ e. only_if (eqb (target_of g e) t) (edge_rows g T t (source_of g e) e)) (range_with_len 0 (length g.edges)) e (first_among (length g.edges) e run.0)
      (only_if_among r (eqb (target_of g e) t) (edge_rows g T t (source_of g e) e) (eq-eqb (target_of g e) t run.2)
      (subst (λ (x : ℕ). Among r (edge_rows g T t x e)) (sym run.1) m))))

  pub direct_step : (a b : ℕ) → shown g a ≡ true → Shown g b → Joins g.edges a b → RowStep g T a b
  direct_step a b sa sb d = (
    direct a b d.0,
    row_of_edge (direct a b d.0) a b d.0 d.1 sb
        (subst (λ (x : Bool). Among (direct a b d.0) (cond x (direct a b d.0 ∷ []) (newest_rows g T a b d.0 (between g (length g.edges) a b)))) (sym sa) (inl refl)),
    refl,
    refl,
  )

  strand_has_row : (sole : Bool) (u t e : ℕ) (mark : Bool) (s : Strand) (path : List ℕ) → present s ≡ true → (o : Option (List ℕ)) × Among (across u t e mark o) (strand_row sole u t e mark s path)
  strand_has_row sole u t e mark Absent path h = absurd (false≢true h)
  strand_has_row sole u t e mark Pathless path h = (None, inl refl)
  strand_has_row sole u t e mark (Along p) path h = (cond sole (Some path) None, inl refl)

  strands_have_row : (sole : Bool) (u h t e : ℕ) (mark : Bool) → shown g u ≡ true → present (strand mark (entry (T u) h)) ≡ true → (o : Option (List ℕ)) × Among (across u t e mark o) (strand_rows g T sole h t e u)
  strands_have_row sole u h t e false su p =
      let q = strand_has_row sole u t e false (strand false (entry (T u) h)) (trail (length g.nodes) (T u) (strand false (entry (T u) h))) p in
      (q.0, only_if_among _ (shown g u) _ su (among_left _ (strand_row sole u t e false (strand false (entry (T u) h)) (trail (length g.nodes) (T u) (strand false (entry (T u) h)))) _ q.1))
  strands_have_row sole u h t e true su p =
      let q = strand_has_row sole u t e true (strand true (entry (T u) h)) (trail (length g.nodes) (T u) (strand true (entry (T u) h))) p in
      (q.0, only_if_among _ (shown g u) _ su (among_right _ (strand_row sole u t e false (strand false (entry (T u) h)) (trail (length g.nodes) (T u) (strand false (entry (T u) h)))) _ q.1))

  sources_have_row : (sole : Bool) (u h t e : ℕ) (mark : Bool) → Shown g u → present (strand mark (entry (T u) h)) ≡ true → (o : Option (List ℕ)) × Among (across u t e mark o) (flat_map (strand_rows g T sole h t e) (range_with_len 0 (length g.nodes)))
  sources_have_row sole u h t e mark su p =
      let q = strands_have_row sole u h t e mark su.1 p in
      (q.0, flat_map_among _ (strand_rows g T sole h t e) (range_with_len 0 (length g.nodes)) u (first_among (length g.nodes) u su.0) q.1)

  newest_has_row : (u h t e : ℕ) (mark : Bool) (l : List ℕ) → Among e l → Shown g u → present (strand mark (entry (T u) h)) ≡ true → (k : ℕ) × (o : Option (List ℕ)) × Among k l × Among (across u t k mark o) (newest_rows g T h t k l)
  newest_has_row u h t e mark [] m su p = absurd m
  newest_has_row u h t e mark (k ∷ []) m su p =
      let q = sources_have_row true u h t k mark su p in
      (k, q.0, inl refl, only_if_among _ (eqb k k) _ (eq-eqb k k refl) q.1)
  newest_has_row u h t e mark (k ∷ (j ∷ js)) m su p =
      let q = sources_have_row false u h t k mark su p in
      (k, q.0, inl refl, only_if_among _ (eqb k k) _ (eq-eqb k k refl) q.1)

  -- a strand of u at h, and an edge from h to a shown target, give a row
  pub strand_step : (u h t : ℕ) (mark : Bool) → Shown g u → shown g h ≡ false → Shown g t → Joins g.edges h t → present (strand mark (entry (T u) h)) ≡ true → RowStep g T u t
  strand_step u h t mark su sh st d p =
      let q = newest_has_row u h t d.0 mark (between g (length g.edges) h t) (runs_between g h t d.0 d.1) su p in
      let r : Row = across u t q.0 mark q.1 in (
        r,
        row_of_edge r h t q.0 (between_runs g (length g.edges) h t q.0 (omega arith) q.2) st
            (subst (λ (x : Bool). Among r (cond x (direct h t q.0 ∷ []) (newest_rows g T h t q.0 (between g (length g.edges) h t)))) (sym sh) q.3),
        refl,
        refl,
      )

module _ (g : Graph) (live : List Bool) (T : ℕ → List Strands) (rank : ℕ → ℕ) (st : Settled g live T rank) where
  strand_stands : (r : Row) (sole : Bool) (u h t e : ℕ) (mark : Bool) (s : Strand) → Shown g u → Shown g t → Runs g.edges e h t → rank h ≤ length g.nodes → Sound g u (T u) rank h mark s → Among r (strand_row sole u t e mark s (trail (length g.nodes) (T u) s)) → Stands g r
  strand_stands r sole u h t e mark Absent su sn run lt q m = absurd m
  strand_stands r sole u h t e mark Pathless su sn run lt q (inl is) =
      subst (Stands g) (sym is) (su, sn, (q.0, h, q.1, run, tt))
  strand_stands r sole u h t e mark Pathless su sn run lt q (inr m) = absurd m
  strand_stands r sole u h t e mark (Along p) su sn run lt q (inl is) =
      let path : List ℕ = trail (length g.nodes) (T u) (Along p) in
      let th : Thread g u path h mark = q (length g.nodes) lt in
      subst (Stands g) (sym is) (su, sn, (path, h, th, run, follows_cond sole path))
  strand_stands r sole u h t e mark (Along p) su sn run lt q (inr m) = absurd m

  strands_stand : (r : Row) (sole : Bool) (u h t e : ℕ) → u < length g.nodes → h < length g.nodes → shown g h ≡ false → Shown g t → Runs g.edges e h t → Among r (strand_rows g T sole h t e u) → Stands g r
  strands_stand r sole u h t e lu lh sh sn run m =
      let q = among_only_if r (shown g u) _ m in
      let su : Shown g u = (lu, q.0) in
      let lt : rank h < length g.nodes = st.ranked.within h lh in
      ⊎_elim
      (strand_stands r sole u h t e false (strand false (entry (T u) h)) su sn run (omega arith) (sound g rank st.ranked live u (T u) (st.obeys u su) h lh sh false))
      (strand_stands r sole u h t e true (strand true (entry (T u) h)) su sn run (omega arith) (sound g rank st.ranked live u (T u) (st.obeys u su) h lh sh true))
      (among_either r (strand_row sole u t e false (strand false (entry (T u) h)) (trail (length g.nodes) (T u) (strand false (entry (T u) h)))) _ q.1)

  sources_stand : (r : Row) (sole : Bool) (h t e : ℕ) → h < length g.nodes → shown g h ≡ false → Shown g t → Runs g.edges e h t → Among r (flat_map (strand_rows g T sole h t e) (range_with_len 0 (length g.nodes))) → Stands g r
  sources_stand r sole h t e lh sh sn run m =
      let q = among_flat_map r (strand_rows g T sole h t e) (range_with_len 0 (length g.nodes)) m in
      strands_stand r sole q.0 h t e (among_first (length g.nodes) q.0 q.1) lh sh sn run q.2

  newest_stands : (r : Row) (h t e : ℕ) (l : List ℕ) → h < length g.nodes → shown g h ≡ false → Shown g t → Runs g.edges e h t → Among r (newest_rows g T h t e l) → Stands g r
  newest_stands r h t e [] lh sh sn run m = absurd m
  newest_stands r h t e (k ∷ []) lh sh sn run m = sources_stand r true h t e lh sh sn run (among_only_if r (eqb k e) _ m).1
  newest_stands r h t e (k ∷ (j ∷ js)) lh sh sn run m = sources_stand r false h t e lh sh sn run (among_only_if r (eqb k e) _ m).1

  edge_stands : (b : Bool) (r : Row) (h t e : ℕ) → shown g h ≡ b → h < length g.nodes → Shown g t → Runs g.edges e h t → Among r (cond b (direct h t e ∷ []) (newest_rows g T h t e (between g (length g.edges) h t))) → Stands g r
  edge_stands true r h t e sh lh sn run (inl is) = subst (Stands g) (sym is) ((lh, sh), sn, run)
  edge_stands true r h t e sh lh sn run (inr m) = absurd m
  edge_stands false r h t e sh lh sn run m = newest_stands r h t e (between g (length g.edges) h t) lh sh sn run m

  pub rows_stand : AllStand g (rows g T)
  rows_stand r m =
      let a = among_flat_map r (target_rows g T) (range_with_len 0 (length g.nodes)) m in
      let t : ℕ = a.0 in
      let b = among_only_if r (shown g t) _ a.2 in
      let c = among_flat_map r (λ e. only_if (eqb (target_of g e) t) (edge_rows g T t (source_of g e) e)) (range_with_len 0 (length g.edges)) b.1 in
      let e : ℕ = c.0 in
      let d = among_only_if r (eqb (target_of g e) t) (edge_rows g T t (source_of g e) e) c.2 in
      let le : e < length g.edges = among_first (length g.edges) e c.1 in
      edge_stands (shown g (source_of g e)) r (source_of g e) t e refl (st.ranked.ends e le).0 (among_first (length g.nodes) t a.1, b.0)
      (le, refl, eqb-true (target_of g e) t d.0) d.1

  -- the graph leads where a row leads
  row_leads : (r : Row) → Stands g r → Leads (Joins g.edges) (row_source r) (row_target r)
  row_leads (direct u t e) s = ([], (e, s.2))
  row_leads (across u t e mark path) s = let w = s.2 in (w.0 ++ (w.1 ∷ []), snoc (Joins g.edges) u w.0 w.1 t w.2.walk (e, w.3))

  pub step_leads : (a b : ℕ) → RowStep g T a b → Leads (Joins g.edges) a b
  step_leads a b q =
      subst (λ (x : ℕ). Leads (Joins g.edges) a x) q.3 (subst (λ (x : ℕ). Leads (Joins g.edges) x (row_target q.0)) q.2 (row_leads q.0 (rows_stand q.0 q.1)))

  pub view_leads : (a b : ℕ) → Leads (RowStep g T) a b → Leads (Joins g.edges) a b
  view_leads a b p = leads_map (RowStep g T) (Joins g.edges) step_leads a p.0 b p.1
