use Rattle.std.proofs.{Common.{◌∙◌, List, ℕ, subst, sym}, lemmas.Result.err_from_is_err_and}
use Rattle.pm_auth.{specs.Kept.{IsNoKept, kept_text}, proofs.{Cutting.no_cut, SecretWords.{empty_by, no_secret, says_cut, user_is}}}
use Rattle.pm_auth.proofs.secrets.secret_in.Goals as goal

pub returns-in_default-clause-none : goal.returns-in_default-clause-none
returns-in_default-clause-none c =
    λ secret says. no_cut 61 c.args.word.now secret.user (kept_text secret.kept) c.in_default.ensures.none (says_cut c.args.word.now secret says)

pub returns-then-is_empty-clause-none : goal.returns-then-is_empty-clause-none
returns-then-is_empty-clause-none c =
    λ secret says. says.user_is.some
    (sym (user_is c.args.word.now c.in-Some.user.now c.in-Some.kept.now secret c.in-Some.ensures.found says).0
    ∙ empty_by c.in-Some.user.now c.is_empty.result c.is_empty.ensures c.if-is_empty.true)

pub returns-in_err-kept-clause-none : goal.returns-in_err-kept-clause-none
returns-in_err-kept-clause-none c =
    let p = err_from_is_err_and c.from_residual.result c.from_residual.ensures.1 in
    rw (p.1, p.2)
    (no_secret c.args.word.now c.in-Some.user.now c.in-Some.kept.now c.in_err-kept.field-0.0 c.in-Some.ensures.found
    (subst (λ (t : List ℕ). IsNoKept t c.in_err-kept.field-0.0) c.as_bytes.ensures.value c.in_err-kept.ensures.none))
