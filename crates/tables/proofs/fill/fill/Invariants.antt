use Rattle.std.proofs.Common.{◌≡◌}
use Rattle.tables.specs.Filled.{filled}
use Rattle.tables.proofs.fill.fill.Given as goal

abbrev pub invariant-loop-entry : goal.invariant-loop-entry
invariant-loop-entry g l = l.entry-items ≡ filled l.entry-index l.value l.initial.entry-items
