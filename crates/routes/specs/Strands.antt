-- The strand analysis of one shown source, and the paths that its table keeps.
use Rattle.std.specs.Prelude.{ℕ, zero, suc, Bool, false, cond, List, [], ◌∷◌, ◌++◌, ◌==◌, slice_index_or}
use Rattle.records.specs.declared.strand.Path.TheVariants.{Straight, Past}
use Rattle.records.specs.declared.strand.Strand.{Strand}
use Rattle.records.specs.declared.strand.Strand.TheVariants.{Absent, Pathless, Along}
use Rattle.records.specs.declared.strand.Strands.{Strands}
use Rattle.records.specs.Nodes.{is_shown, is_hidden}
use Rattle.analysis.specs.Rule.{Meaning}
use Rattle.records.specs.Strands.{blank, strand, by_shown}

-- blank where the yes/no table says no, or ends; else each parent in turn
abbrev pub strand_meaning : ℕ → List Bool → Meaning Strands
strand_meaning u live = record {
  blank = blank;
  start = λ n node. blank;
  join = λ v n node f parent vf. by_shown (is_shown parent) (is_shown node) (f == u) (is_hidden node) f vf v;
  close = λ v n node. cond (slice_index_or live n false) v blank;
}

-- what a table has for a node
abbrev pub entry : List Strands → ℕ → Strands
entry table n = slice_index_or table n blank

-- the nodes of a strand's path, in order, where it has at most k
abbrev pub trail : ℕ → List Strands → Strand → List ℕ
trail zero table s = []
trail (suc k) table Absent = []
trail (suc k) table Pathless = []
trail (suc k) table (Along Straight) = []
trail (suc k) table (Along (Past f mark)) = trail k table (strand mark (entry table f)) ++ (f ∷ [])
