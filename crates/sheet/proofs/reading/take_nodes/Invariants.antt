use Rattle.std.proofs.Common.{◌≡◌, ◌-◌, ◌*◌}
use Rattle.graph.specs.Model.{model}
use Rattle.sheet.specs.Readers.{Advances}
use Rattle.sheet.specs.Reading.{nodes_read}
use Rattle.sheet.proofs.reading.take_nodes.Given as goal

abbrev pub invariant-loop-row : goal.invariant-loop-row
invariant-loop-row l =
    (nodes_read (l.count - l._row) l.reader.at l.reader.bytes.now (model l.graph) ≡ nodes_read l.count l.initial.reader.at l.initial.reader.bytes.now (model l.initial.graph))
    × Advances (6 * l._row) l.initial.reader l.reader
