use Rattle.std.proofs.Common.{◌≡◌, ◌+◌, ◌≤◌, length}
use Rattle.tables.specs.Steps.{Below}
use Rattle.graph.specs.Cursors.{coming}
use Rattle.graph.specs.Model.{model}
use Rattle.walks.specs.Exploring.{piled}
use Rattle.walks.proofs.explore.push_unvisited.Given as goal

abbrev pub invariant-loop-other : goal.invariant-loop-other
invariant-loop-other l =
    record {
      same : piled (coming l.other-iterator) l.visited l.stack ≡ piled (coming l.initial.other-iterator) l.visited l.initial.stack;
      room : length l.stack + length (coming l.other-iterator) ≤ 8193;
      below : Below (length (model l.graph).nodes) (coming l.other-iterator);
    }
