use Rattle.pm_auth.proofs.SecretWords.{filled_by, plain_user}
use Rattle.pm_auth.proofs.kept.is_user.Goals as goal

pub returns-then-not-is_empty : goal.returns-then-not-is_empty
returns-then-not-is_empty c =
    plain_user c.args.name.now c.cut.result c.is_none.result (filled_by c.args.name.now c.is_empty.result c.is_empty.ensures c.if-not-is_empty.true)
    c.cut.ensures.found c.cut.ensures.none c.is_none.ensures
