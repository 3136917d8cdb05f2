use Rattle.routes.proofs.Own.{own_view}
use Rattle.routes.proofs.laws.views_are_there.Goals as goal

pub returns : goal.returns
returns c = own_view
