use Rattle.std.proofs.Common.{◌≡◌, ◌-◌}
use Rattle.graph.specs.Model.{model}
use Rattle.sheet.specs.Reading.{edges_read}
use Rattle.sheet.proofs.reading.take_edges.Given as goal

abbrev pub invariant-loop-row : goal.invariant-loop-row
invariant-loop-row l =
    edges_read (l.count - l._row) l.reader.at l.reader.bytes.now (model l.graph) ≡ edges_read l.count l.initial.reader.at l.initial.reader.bytes.now (model l.initial.graph)
