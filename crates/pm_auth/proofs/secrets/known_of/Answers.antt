use Rattle.std.proofs.Common.{◌∙◌, refl, sym, ap, take}
use Rattle.pm_auth.proofs.Finding.{known_none, known_some}
use Rattle.pm_auth.proofs.secrets.known_of.Goals as goal

pub returns-in-Some : goal.returns-in-Some
returns-in-Some c =
    known_some c.args.secrets.now c.args.key.now c.args.user.now c.in-Some.at c.index-secrets-at.result _ (sym c.in-Some.ensures.place)
    c.in-Some.ensures.within refl refl

pub returns-in-None : goal.returns-in-None
returns-in-None c =
    known_none c.args.secrets.now c.args.key.now c.args.user.now _ (sym c.in-None.ensures.place)
    (c.copy_from_slice.ensures.after ∙ ap (take 16) c.hmac-digest.ensures) refl
