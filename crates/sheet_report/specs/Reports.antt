-- The report on what came of reading a sheet.
use Rattle.std.specs.Prelude.{ℕ, List, ◌++◌, length, drop, Ok, Err, codes, Result}
use Rattle.records.specs.declared.refusal.Refusal.{Refusal}
use Rattle.records.specs.declared.sheet_refusal.SheetRefusal.{SheetRefusal}
use Rattle.records.specs.Refusals.{refusal_line}
use Rattle.graph.specs.Model.{Model}
use Rattle.subgraph.specs.WholePartitions.{Whole, whole_partition}
use Rattle.sheet_report.specs.Summaries.{summary_of}
use Rattle.sheet_report.specs.Texts.{line, summary_text, refusal_text}

abbrev pub refused_graph : Refusal → List ℕ
refused_graph e = codes "refused graph " ++ (refusal_line e ++ codes "\n")

-- how many subgraphs there are, and how many nodes stand after theirs; or why there is no order
abbrev pub parts_text : Result Whole Refusal → List ℕ
parts_text (Ok w) = line (codes "subgraphs") w.count ++ line (codes "singletons") (length (drop w.in_subgraphs w.order))
parts_text (Err e) = refused_graph e

-- of a graph, with a work table of 1024 entries
abbrev pub parts_of : Model → List ℕ
parts_of m = parts_text (whole_partition m 1024)

abbrev pub graph_text : Model → List ℕ
graph_text m = summary_text (summary_of m) ++ parts_of m

abbrev pub reported : Result Model SheetRefusal → List ℕ
reported (Ok m) = graph_text m
reported (Err e) = refusal_text e
