use Rattle.std.proofs.Common.{refl, ap, ◌∙◌}
use Rattle.pm_board_acts.specs.{pm_board.pm_board_words.declared.views.RosterView.RosterView, declared.audience.Audience.TheVariants.Everyone, Board.seats_of, Seating.sends, pm_worker.declared.mail.MailTold.MailTold}
use Rattle.pm_board_acts.specs.pm_board.pm_board_words.declared.views.Signal.TheVariants as signal
use Rattle.pm_postmaster.proofs.{Cleared.{clears_both, clears_same}, Linking.same_limit}
use Rattle.pm_postmaster.proofs.clearing.clear.Goals as goal

pub looks-init : goal.looks-init
looks-init g c =
    let d = c.args.roster.now.knows in
    clears_same _ _ _ _ _ _ c.kill_rest.ensures.table c.kill_rest.ensures.ending c.kill_rest.ensures.slots
    (ap (λ (x : RosterView MailTold). x.session_limit) c.kill_rest.ensures.knows ∙ same_limit d (sends Everyone signal.Kill d.generation (seats_of d))) refl

pub returns-then-not-clear_once-clause-clears : goal.returns-then-not-clear_once-clause-clears
returns-then-not-clear_once-clause-clears g c = clears_both _ _ _ _ _ _ _ _ _ c.looks.invariant c.clear_once.ensures.clears

pub looks-preserved : goal.looks-preserved
looks-preserved g c = clears_both _ _ _ _ _ _ _ _ _ c.looks.invariant c.clear_once.ensures.clears
