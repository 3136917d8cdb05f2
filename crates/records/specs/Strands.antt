-- What a node knows of one shown source: whether strands come from it, along which paths, and whether a shown node stands
-- between.
use Rattle.std.specs.Prelude.{ℕ, Bool, true, false, cond, ◌||◌}
use Rattle.records.specs.declared.strand.Path.TheVariants.{Straight, Past}
use Rattle.records.specs.declared.strand.Strand.{Strand}
use Rattle.records.specs.declared.strand.Strand.TheVariants.{Absent, Pathless, Along}
use Rattle.records.specs.declared.strand.Strands.{Strands}

abbrev pub blank : Strands
blank = record { plain = Absent; marked = Absent; covered = false }

-- the plain strand, or the marked one
abbrev pub strand : Bool → Strands → Strand
strand false v = v.plain
strand true v = v.marked

abbrev pub present : Strand → Bool
present Absent = false
present Pathless = true
present (Along p) = true

abbrev pub has_strand : Strands → Bool
has_strand v = present v.plain || present v.marked

-- a strand added where one is present becomes pathless
abbrev pub added : Strand → Strand → Strand
added old Absent = old
added old Pathless = Pathless
added old (Along p) = cond (present old) Pathless (Along p)

-- f's strand as it is taken on: a pathless one stays so, a path goes on past f
abbrev pub onward : ℕ → Bool → Strand → Strand
onward f mark Absent = Absent
onward f mark Pathless = Pathless
onward f mark (Along p) = Along (Past f mark)

abbrev pub give : Bool → Strand → Strands → Strands
give false s v = record { plain = added v.plain s; marked = v.marked; covered = v.covered }
give true s v = record { plain = v.plain; marked = added v.marked s; covered = v.covered }

abbrev pub cover : Bool → Strands → Strands
cover c v = record { plain = v.plain; marked = v.marked; covered = v.covered || c }

-- with its strands dropped, where the test passes
abbrev pub drop_if : Bool → Strands → Strands
drop_if false v = v
drop_if true v = record { plain = Absent; marked = Absent; covered = v.covered }

-- both strands of f, marked if the node is Hidden or f's is marked
abbrev pub take_on : Bool → ℕ → Strands → Strands → Strands
take_on hid f vf v = give true (onward f true vf.marked) (give hid (onward f false vf.plain) v)

-- One edge from f, with the value vf, into a node with the value v so far, by which of the two are shown.

abbrev pub neither_shown : Bool → ℕ → Strands → Strands → Strands
neither_shown hid f vf v = cover vf.covered (cond v.covered (drop_if vf.covered v) (take_on hid f vf (drop_if vf.covered v)))

abbrev pub only_source_shown : Bool → Bool → Strands → Strands → Strands
only_source_shown is_u hid vf v = cover vf.covered (cond is_u (give hid (Along Straight) v) v)

abbrev pub only_target_shown : Strands → Strands → Strands
only_target_shown vf v = cover (has_strand vf) v

abbrev pub both_shown : Strands → Strands → Strands
both_shown vf v = cover vf.covered v

-- whether f is shown, whether the node is, whether f is the source, whether the node is Hidden
abbrev pub by_shown : Bool → Bool → Bool → Bool → ℕ → Strands → Strands → Strands
by_shown false false is_u hid f vf v = neither_shown hid f vf v
by_shown true false is_u hid f vf v = only_source_shown is_u hid vf v
by_shown false true is_u hid f vf v = only_target_shown vf v
by_shown true true is_u hid f vf v = both_shown vf v
