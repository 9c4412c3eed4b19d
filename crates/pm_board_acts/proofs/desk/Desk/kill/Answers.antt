use Rattle.std.{proofs.Common.{sym, ap, ◌∙◌}, specs.Prelude.{not, is_some}}
use Rattle.pm_board.specs.pm_board_words.declared.views.RosterView.{RosterView}
use Rattle.pm_board.specs.pm_board_words.declared.views.Signal.TheVariants as signal
use Rattle.pm_supervisor_journal.specs.Supervision.{at_work}
use Rattle.pm_board_acts.{specs.{declared.audience.Audience.TheVariants.One, Seating.sends, Standing.view, Board.seats_of}, proofs.{Asking.{killed_goes, none_killed}, Keeping.{adds_tells, keeps_stepped}, Sends.{same-limit, same-slots, seats_same}, Reaping.reaped_stepped}}
use Rattle.pm_board_acts.proofs.desk.Desk.kill.Goals as goal

pub returns-then-is_none-clause-kills : goal.returns-then-is_none-clause-kills
returns-then-is_none-clause-kills g c =
    let v = view (at_work c.args.self.now.supervision) c.args.self.now.roster.knows in
    λ line at. none_killed v c.args.pid line at (ap is_some (sym c.kind_of.ensures) ∙ (c.is_none.ensures ∙ ap not c.if-is_none.true))

pub returns-clause-kills : goal.returns-clause-kills
returns-clause-kills g c =
    let v = view (at_work c.args.self.now.supervision) c.args.self.now.roster.knows in
    let w = view (at_work c.kill.new.self) c.tell.new.roster.knows in
    λ line at. killed_goes c.laws.ensures.work v w c.args.pid line at c.requires.rests c.requires.unowed
    (ap is_some (sym c.kind_of.ensures) ∙ (c.is_none.ensures ∙ ap not c.if-is_none.false)) c.in_ok-kill.ensures.standing c.in_ok-kill.ensures.told
    c.tell.ensures.knows (seats_same v.board w.board (sends (One c.args.pid) signal.Kill v.board.generation v.seats) c.tell.ensures.knows)

pub returns-clause-reaped : goal.returns-clause-reaped
returns-clause-reaped g c =
    let d = c.args.self.now.roster.knows in
    λ n were. reaped_stepped n d c.tell.new.roster.knows (sends (One c.args.pid) signal.Kill d.generation (seats_of d)) c.tell.ensures.knows were

pub returns-clause-slots : goal.returns-clause-slots
returns-clause-slots g c =
    let d = c.args.self.now.roster.knows in
    let ss = sends (One c.args.pid) signal.Kill d.generation (seats_of d) in
    ap (λ (v : RosterView _). v.slots) c.tell.ensures.knows ∙ same-slots d ss

pub returns-clause-limit : goal.returns-clause-limit
returns-clause-limit g c =
    let d = c.args.self.now.roster.knows in
    let ss = sends (One c.args.pid) signal.Kill d.generation (seats_of d) in
    ap (λ (v : RosterView _). v.session_limit) c.tell.ensures.knows ∙ same-limit d ss

pub returns-clause-past : goal.returns-clause-past
returns-clause-past g c =
    let d = c.args.self.now.roster.knows in
    keeps_stepped d c.tell.new.roster.knows (sends (One c.args.pid) signal.Kill d.generation (seats_of d)) c.tell.ensures.knows

pub returns-clause-tells : goal.returns-clause-tells
returns-clause-tells g c = adds_tells _ _ _ c.in_ok-kill.ensures.told
