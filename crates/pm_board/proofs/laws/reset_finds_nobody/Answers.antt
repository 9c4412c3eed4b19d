use Rattle.std.proofs.Common.{sym, ap, ◌∙◌}
use Rattle.pm_board_words.specs.declared.views.PostView.{PostView}
use Rattle.pm_board.proofs.{Moves.rebased, Gating.all_idle}
use Rattle.pm_board.proofs.laws.reset_finds_nobody.Goals as goal

pub returns : goal.returns
returns g c limit s kept master d at free id k w mine =
    let h = rebased g.J.Letter s kept.0 master d kept.1 kept.2 kept.3 at in
    ap (λ (z : PostView g.row.J-Told.Denot). z.work) (sym (h.each_seat id _ mine).1) ∙ all_idle g.J.Letter limit s master d kept.2 h free k
