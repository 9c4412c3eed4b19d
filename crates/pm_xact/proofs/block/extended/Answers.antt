use Rattle.std.proofs.Common.{◌++◌, ap, sym, subst}
use Rattle.pm_sql.specs.Limits.{IsWithinScriptLimits}
use Rattle.pm_xact.proofs.Adding.{within_front}
use Rattle.pm_xact.proofs.block.extended.Goals as goal

pub extend-requires : goal.extend-requires
extend-requires c = within_front (c.args.front ++ c.args.missing.now) c.args.more.now c.requires

pub extend-requires-2 : goal.extend-requires-2
extend-requires-2 c = subst IsWithinScriptLimits (sym (ap (λ s. s ++ c.args.more.now) c.in_ok-extend.ensures)) c.requires
