use Rattle.std.proofs.Common.{sym, ◌∙◌}
use Rattle.pm_startup.proofs.Strings.{string-unended, string-before, string-ended}
use Rattle.pm_startup.proofs.parameters.string_at.Goals as goal

pub returns-in_err-end-clause-unended : goal.returns-in_err-end-clause-unended
returns-in_err-end-clause-unended c =
    rw c.from_residual.ensures (string-unended c.args.bytes.now (sym c.zero_at.ensures ∙ c.in_err-end.was))

pub returns-clause-found : goal.returns-clause-found
returns-clause-found c =
    let at = sym c.zero_at.ensures ∙ c.in_ok-end.was in
    (string-before c.args.bytes.now c.in_ok-end.end at, string-ended c.args.bytes.now c.in_ok-end.end at)
