use Rattle.std.proofs.Common.{◌∙◌, ◌<◌, ℕ, length, sym, subst, arith}
use Rattle.pm_load.specs.Replay.{IsReplay}
use Rattle.pm_load_run.{specs.Worked.{IsMeant, session_pid}, proofs.Working.{single, worked}}
use Rattle.pm_load_run.proofs.checking.checked.Goals as goal

pub returns-then-are_same : goal.returns-then-are_same
returns-then-are_same c =
    let meant : IsMeant c.args.number c.in-Ok.meant = subst (λ (k : ℕ). IsReplay c.args.number session_pid k c.in-Ok.meant) c.key.ensures c.in-Ok.ensures in
    let few : length c.links.result.now < 2 = omega (arith, c.in-len1.len_below) in
    let only = sym c.links.ensures ∙ single c.links.result.now c.link-item.result c.in-len1.len_at_least few c.link-item.is in
    let sent = sym c.sent.ensures ∙ c.are_same.ensures.0 c.if-are_same.true ∙ c.sent-2.ensures in
    worked c.left_as_meant.result c.args.number c.args.port.now _ c.in-Ok.meant c.link-item.result meant only sent c.left_as_meant.ensures
