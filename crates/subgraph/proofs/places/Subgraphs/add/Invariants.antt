use Rattle.std.proofs.Common.{◌≡◌, ◌++◌, reverse, take}
use Rattle.subgraph.specs.Places.{placed}
use Rattle.subgraph.specs.Subgraphs.{in_order}
use Rattle.subgraph.proofs.places.Subgraphs.add.Given as goal

abbrev pub invariant-loop-position : goal.invariant-loop-position
invariant-loop-position l =
    record {
      order : in_order l.self ≡ in_order l.initial.self ++ take l.position l.node-items;
      places : l.self.places ≡ placed l.initial.self.count (reverse (take l.position l.node-items)) l.initial.self.places;
      count : l.self.count ≡ l.initial.self.count;
    }
