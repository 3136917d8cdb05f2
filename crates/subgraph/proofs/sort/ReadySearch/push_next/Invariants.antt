use Rattle.std.proofs.Common.{◌≡◌, ◌+◌, ◌≤◌, length}
use Rattle.graph.specs.Cursors.{coming}
use Rattle.graph.specs.Model.{model}
use Rattle.subgraph.specs.Sorting.{ready}
use Rattle.subgraph.proofs.sort.ReadySearch.push_next.Given as goal

abbrev pub invariant-loop-target : goal.invariant-loop-target
invariant-loop-target l =
    record {
      same : ready (model l.graph).edges (coming l.target-iterator) l.visited l.stack ≡ ready (model l.graph).edges (coming l.initial.target-iterator) l.visited l.initial.stack;
      room : length l.stack + length (coming l.target-iterator) ≤ 8193;
    }
