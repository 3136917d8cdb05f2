-- Stages that are not the same.
use Rattle.std.proofs.Common.{◌≡◌}
use Rattle.records.specs.declared.stage.Stage.{Stage}
use Rattle.records.specs.declared.stage.Stage.TheVariants.{Open, Sealed}

pub open_not_sealed : {s : Stage} → s ≡ Open → s ≡ Sealed → ⊥
open_not_sealed o q = cc
