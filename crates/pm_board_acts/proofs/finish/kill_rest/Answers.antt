use Rattle.std.proofs.Common.{ap, ◌∙◌}
use Rattle.pm_board.specs.pm_board_words.declared.views.RosterView.{RosterView}
use Rattle.pm_board.specs.pm_board_words.declared.views.Signal.TheVariants as signal
use Rattle.pm_board_acts.{specs.{declared.audience.Audience.TheVariants.Everyone, Board.seats_of, Seating.sends}, proofs.{Ending.killed_keeps, Sends.same-slots}}
use Rattle.pm_board_acts.proofs.finish.kill_rest.Goals as goal

pub returns-clause-slots : goal.returns-clause-slots
returns-clause-slots g c =
    let d = c.args.roster.now.knows in
    ap (λ (v : RosterView _). v.slots) c.tell.ensures.knows ∙ same-slots d (sends Everyone signal.Kill d.generation (seats_of d))

pub returns-clause-ending : goal.returns-clause-ending
returns-clause-ending g c = killed_keeps c.args.roster.now.knows c.tell.new.roster.knows c.tell.ensures.knows
