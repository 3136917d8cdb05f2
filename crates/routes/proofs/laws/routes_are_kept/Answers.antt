use Rattle.routes.proofs.Own.{settled}
use Rattle.routes.proofs.Routes.{routes_kept}
use Rattle.routes.proofs.Solved.{along}
use Rattle.routes.proofs.laws.routes_are_kept.Goals as goal

pub returns : goal.returns
returns c = λ g live tables proper viewed. routes_kept g live tables (along g proper) (settled g proper live tables viewed)
