use Rattle.routes.proofs.Own.{settled}
use Rattle.routes.proofs.Rows.{rows_stand}
use Rattle.routes.proofs.Solved.{along}
use Rattle.routes.proofs.laws.rows_stand.Goals as goal

pub returns : goal.returns
returns c = λ g live tables proper viewed. rows_stand g live tables (along g proper) (settled g proper live tables viewed)
