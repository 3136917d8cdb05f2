use Rattle.std.proofs.Common.{refl}
use Rattle.routes.proofs.worked.small_graphs_have_their_rows.Goals as goal

pub returns : goal.returns
returns c = (refl, refl, refl, refl, refl, refl, refl, refl, refl)
