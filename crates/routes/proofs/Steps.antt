-- What the joining of one edge keeps.
use Rattle.std.proofs.Common.{◌≡◌, ℕ, Bool, true, false, cond, ◌||◌, ◌⊎◌, List, [], ◌∷◌, fold, sym, refl, ap, ◌∙◌, subst, inl, inr}
use mathlib.Core.Bool.{false≢true}
use Rattle.std.proofs.lemmas.Bool.{or_left, or_right}
use Rattle.records.specs.declared.strand.Path.TheVariants.{Straight}
use Rattle.records.specs.declared.strand.Strand.{Strand}
use Rattle.records.specs.declared.strand.Strand.TheVariants.{Absent, Pathless, Along}
use Rattle.records.specs.declared.strand.Strands.{Strands}
use Rattle.records.specs.Strands.{strand, present, has_strand, added, onward, give, cover, drop_if, take_on, only_source_shown, by_shown}
use Rattle.records.specs.Walks.{Among}

-- a fold keeps what each of its steps keeps
pub gather_keeps : (P : Strands → Type 0) (step : Strands → ℕ → Strands) (fs : List ℕ) → ((f : ℕ) → Among f fs → (v : Strands) → P v → P (step v f)) → (v : Strands) → P v → P (fold step v fs)
gather_keeps P step [] k v p = p
gather_keeps P step (f ∷ fs) k v p = gather_keeps P step fs (λ x m. k x (inr m)) (step v f) (k f (inl refl) v p)

-- and has what one of its steps brings and the later ones keep
pub gather_meets : (P : Strands → Type 0) (step : Strands → ℕ → Strands) (fs : List ℕ) → ((f : ℕ) → Among f fs → (v : Strands) → P v → P (step v f)) → (f : ℕ) → Among f fs → ((v : Strands) → P (step v f)) → (v : Strands) → P (fold step v fs)
gather_meets P step [] k f m b v = absurd m
gather_meets P step (x ∷ fs) k f (inl e) b v = gather_keeps P step fs (λ y m. k y (inr m)) (step v x) (subst (λ (y : ℕ). P (step v y)) e (b v))
gather_meets P step (x ∷ fs) k f (inr m) b v = gather_meets P step fs (λ y m. k y (inr m)) f m b (step v x)

-- the source is known at the node: by a strand, or covered
abbrev pub Known : Strands → Type 0
Known v = ((m : Bool) × (present (strand m v) ≡ true)) ⊎ (v.covered ≡ true)

added_old : (a b : Strand) → present a ≡ true → present (added a b) ≡ true
added_old a Absent h = h
added_old a Pathless h = refl
added_old Absent (Along p) h = refl
added_old Pathless (Along p) h = refl
added_old (Along q) (Along p) h = refl

added_new : (a b : Strand) → present b ≡ true → present (added a b) ≡ true
added_new a Absent h = absurd (false≢true h)
added_new a Pathless h = refl
added_new Absent (Along p) h = refl
added_new Pathless (Along p) h = refl
added_new (Along q) (Along p) h = refl

onward_present : (f : ℕ) (m : Bool) (s : Strand) → present s ≡ true → present (onward f m s) ≡ true
onward_present f m Absent h = h
onward_present f m Pathless h = refl
onward_present f m (Along p) h = refl

give_old : (m k : Bool) (s : Strand) (v : Strands) → present (strand m v) ≡ true → present (strand m (give k s v)) ≡ true
give_old false false s v h = added_old v.plain s h
give_old false true s v h = h
give_old true false s v h = h
give_old true true s v h = added_old v.marked s h

give_new : (k : Bool) (s : Strand) (v : Strands) → present s ≡ true → present (strand k (give k s v)) ≡ true
give_new false s v h = added_new v.plain s h
give_new true s v h = added_new v.marked s h

known_cover : (c : Bool) (v : Strands) → Known v → Known (cover c v)
known_cover c v (inl (false, h)) = inl (false, h)
known_cover c v (inl (true, h)) = inl (true, h)
known_cover c v (inr h) = inr (or_left v.covered c h)

covers : (c : Bool) (v : Strands) → c ≡ true → Known (cover c v)
covers c v h = inr (or_right v.covered c h)

take_on_old : (m hid : Bool) (f : ℕ) (vf v : Strands) → present (strand m v) ≡ true → present (strand m (take_on hid f vf v)) ≡ true
take_on_old m hid f vf v h =
    give_old m true (onward f true vf.marked) (give hid (onward f false vf.plain) v) (give_old m hid (onward f false vf.plain) v h)

take_on_new : (m hid : Bool) (f : ℕ) (vf v : Strands) → present (strand m vf) ≡ true → Known (take_on hid f vf v)
take_on_new false hid f vf v h =
    inl (hid, give_old hid true (onward f true vf.marked) (give hid (onward f false vf.plain) v) (give_new hid (onward f false vf.plain) v (onward_present f false vf.plain h)))
take_on_new true hid f vf v h =
    inl (true, give_new true (onward f true vf.marked) (give hid (onward f false vf.plain) v) (onward_present f true vf.marked h))

keeps_neither : (cf cv hid : Bool) (f : ℕ) (vf v : Strands) → v.covered ≡ cv → Known v → Known (cover cf (cond cv (drop_if cf v) (take_on hid f vf (drop_if cf v))))
keeps_neither true cv hid f vf v e k = covers true (cond cv (drop_if true v) (take_on hid f vf (drop_if true v))) refl
keeps_neither false true hid f vf v e k = known_cover false v k
keeps_neither false false hid f vf v e (inl (m, h)) = known_cover false (take_on hid f vf v) (inl (m, take_on_old m hid f vf v h))
keeps_neither false false hid f vf v e (inr h) = absurd (false≢true (sym e ∙ h))

keeps_source : (is_u hid : Bool) (vf v : Strands) → Known v → Known (only_source_shown is_u hid vf v)
keeps_source false hid vf v k = known_cover vf.covered v k
keeps_source true hid vf v (inl (m, h)) = known_cover vf.covered (give hid (Along Straight) v) (inl (m, give_old m hid (Along Straight) v h))
keeps_source true false vf v (inr h) = known_cover vf.covered (give false (Along Straight) v) (inr h)
keeps_source true true vf v (inr h) = known_cover vf.covered (give true (Along Straight) v) (inr h)

-- a node at which the source is known stays so
pub known_stays : (sf sn is_u hid : Bool) (f : ℕ) (vf v : Strands) → Known v → Known (by_shown sf sn is_u hid f vf v)
known_stays false false is_u hid f vf v k = keeps_neither vf.covered v.covered hid f vf v refl k
known_stays true false is_u hid f vf v k = keeps_source is_u hid vf v k
known_stays false true is_u hid f vf v k = known_cover (has_strand vf) v k
known_stays true true is_u hid f vf v k = known_cover vf.covered v k

brings_neither : (cf cv hid : Bool) (f : ℕ) (vf v : Strands) → vf.covered ≡ cf → v.covered ≡ cv → Known vf → Known (cover cf (cond cv (drop_if cf v) (take_on hid f vf (drop_if cf v))))
brings_neither true cv hid f vf v ef e k = covers true (cond cv (drop_if true v) (take_on hid f vf (drop_if true v))) refl
brings_neither false true hid f vf v ef e k = known_cover false v (inr e)
brings_neither false false hid f vf v ef e (inl (m, h)) = known_cover false (take_on hid f vf v) (take_on_new m hid f vf v h)
brings_neither false false hid f vf v ef e (inr h) = absurd (false≢true (sym ef ∙ h))

-- an edge from a node not shown at which the source is known makes it known
pub known_goes_on : (is_u hid : Bool) (f : ℕ) (vf v : Strands) → Known vf → Known (by_shown false false is_u hid f vf v)
known_goes_on is_u hid f vf v k = brings_neither vf.covered v.covered hid f vf v refl refl k

-- and so does an edge from the source
pub known_starts : (hid : Bool) (f : ℕ) (vf v : Strands) → Known (by_shown true false true hid f vf v)
known_starts hid f vf v = known_cover vf.covered (give hid (Along Straight) v) (inl (hid, give_new hid (Along Straight) v refl))

-- what an edge adds to the cover
abbrev pub brought : Bool → Bool → Strands → Bool
brought false false vf = vf.covered
brought true false vf = vf.covered
brought false true vf = has_strand vf
brought true true vf = vf.covered

give_covered : (k : Bool) (s : Strand) (v : Strands) → (give k s v).covered ≡ v.covered
give_covered false s v = refl
give_covered true s v = refl

drop_covered : (c : Bool) (v : Strands) → (drop_if c v).covered ≡ v.covered
drop_covered false v = refl
drop_covered true v = refl

neither_covered : (cf cv hid : Bool) (f : ℕ) (vf v : Strands) → (cond cv (drop_if cf v) (take_on hid f vf (drop_if cf v))).covered ≡ v.covered
neither_covered cf true hid f vf v = drop_covered cf v
neither_covered cf false hid f vf v = give_covered hid (onward f false vf.plain) (drop_if cf v) ∙ drop_covered cf v

source_covered : (is_u hid : Bool) (v : Strands) → (cond is_u (give hid (Along Straight) v) v).covered ≡ v.covered
source_covered false hid v = refl
source_covered true hid v = give_covered hid (Along Straight) v

pub covered_after : (sf sn is_u hid : Bool) (f : ℕ) (vf v : Strands) → (by_shown sf sn is_u hid f vf v).covered ≡ (v.covered || brought sf sn vf)
covered_after false false is_u hid f vf v = ap (λ b. b || vf.covered) (neither_covered vf.covered v.covered hid f vf v)
covered_after true false is_u hid f vf v = ap (λ b. b || vf.covered) (source_covered is_u hid v)
covered_after false true is_u hid f vf v = refl
covered_after true true is_u hid f vf v = refl
