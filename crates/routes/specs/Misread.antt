-- Readings of the rules that go astray, and the rows that each would give.
use Rattle.std.specs.Prelude.{◌≡◌, ℕ, true, not, ◌&&◌, List}
use Rattle.records.specs.declared.edge.Direction.TheVariants.{Incoming}
use Rattle.records.specs.declared.node.Node.{Node}
use Rattle.records.specs.declared.strand.Strand.{Strand}
use Rattle.records.specs.declared.strand.Strand.TheVariants.{Absent, Pathless, Along}
use Rattle.records.specs.declared.strand.Strands.{Strands}
use Rattle.records.specs.Edges.{neighbours}
use Rattle.records.specs.Nodes.{is_shown}
use Rattle.analysis.specs.Rule.{Meaning, value_table}
use Rattle.records.specs.Strands.{cover, drop_if}
use Rattle.routes.specs.Graph.{Graph, parents}
use Rattle.routes.specs.Strands.{strand_meaning}
use Rattle.routes.specs.View.{Row, rows, strand_rows, view_live, view_table, view_rows}
use Rattle.routes.specs.Worked.{kept, doubled, last_twice, gap}

abbrev pub OtherRows : List Row → List Row → Type 0
OtherRows wrong right = wrong ≡ right → ⊥

-- the rows with other parents, or with another meaning
abbrev pub rows_by : (ℕ → List ℕ) → (Meaning Strands → Meaning Strands) → Graph → List Row
rows_by near change g = rows g (λ u. value_table (change (strand_meaning u (view_live g))) g.nodes near)

-- what is done to the value so far before a join, and to what the join gives: of the node, the parent and its value
abbrev pub before : (Node → Node → Strands → Strands → Strands) → Meaning Strands → Meaning Strands
before change m = record {
  blank = m.blank;
  start = m.start;
  join = λ v n node f parent vf. m.join (change node parent vf v) n node f parent vf;
  close = m.close;
}

abbrev pub after : (Node → Node → Strands → Strands → Strands → Strands) → Meaning Strands → Meaning Strands
after change m = record {
  blank = m.blank;
  start = m.start;
  join = λ v n node f parent vf. change node parent vf v (m.join v n node f parent vf);
  close = m.close;
}

-- oldest edge first
abbrev pub oldest_first : Graph → List Row
oldest_first g = rows_by (neighbours Incoming g.edges) (λ m. m) g

abbrev pub NewestCounts : Type 0
NewestCounts = OtherRows (oldest_first kept) (view_rows kept)

-- strands are dropped also where a shown parent is covered
abbrev pub dropping_more : Graph → List Row
dropping_more g = rows_by (parents g) (before (λ node parent vf v. drop_if (is_shown parent && vf.covered) v)) g

abbrev pub ShownParentsDropNothing : Type 0
ShownParentsDropNothing = OtherRows (dropping_more kept) (view_rows kept)

-- a path is kept where a second strand is added
abbrev pub path_kept : Strand → Strand → Strand
path_kept Absent new = new
path_kept Pathless new = new
path_kept (Along p) new = Along p

abbrev pub keeping_paths : Graph → List Row
keeping_paths g =
    rows_by (parents g)
    (after (λ node parent vf old new.
    record { plain = path_kept old.plain new.plain; marked = path_kept old.marked new.marked; covered = new.covered }))
    g

abbrev pub RepeatedEdgesLoseThePath : Type 0
RepeatedEdgesLoseThePath = OtherRows (keeping_paths doubled) (view_rows doubled)

-- or where the last edge is repeated: the row of 0 at 1 if it were the only edge
abbrev pub RepeatedLastEdgesLoseThePath : Type 0
RepeatedLastEdgesLoseThePath = OtherRows (strand_rows last_twice (view_table last_twice) true 1 2 2 0) (view_rows last_twice)

-- a shown node is covered by a parent that is covered and not shown
abbrev pub covering_more : Graph → List Row
covering_more g = rows_by (parents g) (after (λ node parent vf old new. cover (is_shown node && not (is_shown parent) && vf.covered) new)) g

abbrev pub ShownNodesTakeOnStrandsAlone : Type 0
ShownNodesTakeOnStrandsAlone = OtherRows (covering_more gap) (view_rows gap)
