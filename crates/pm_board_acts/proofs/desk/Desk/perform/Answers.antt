use Rattle.std.{proofs.Common.{ℕ, sym, subst, set}, specs.Prelude.{◌≡◌, Some}}
use Rattle.pm_board.specs.Models.{HasAssigned}
use Rattle.pm_supervisor_journal.specs.declared.act.Act.{Act}
use Rattle.pm_supervisor_journal.specs.declared.act.Act.TheVariants as act
use Rattle.pm_board_acts.{specs.{Acts.{Performs, steps_for}, Board.seats_of, Seating.child}, proofs.Sends.seats_same}
use Rattle.pm_board_acts.proofs.desk.Desk.perform.Goals as goal

pub returns-in-Start-clause-performs : goal.returns-in-Start-clause-performs
returns-in-Start-clause-performs g c =
    let d = c.args.self.now.roster.knows in let seats = seats_of d in let e = c.seat.new.roster.knows in let seats' = seats_of e in
    let ordered = g.M.Report.ordered in
    subst (λ (a : Act). Performs a ordered d seats e seats') (sym c.in-Start.is) (
      subst (λ (k : ℕ). HasAssigned k c.in-Start.pid c.in-Start.kind (ordered c.in-Start.kind) d e) c.slot_of.ensures (subst (λ t. HasAssigned c.slot_of.result c.in-Start.pid c.in-Start.kind t d e) c.order.ensures.told c.seat.ensures.assigned),
      subst (λ (k : ℕ). seats' ≡ set seats k (Some (child c.in-Start.pid c.in-Start.kind))) c.slot_of.ensures c.seat.ensures.seats,
    )

pub returns-in-Quit-clause-performs : goal.returns-in-Quit-clause-performs
returns-in-Quit-clause-performs g c =
    let d = c.args.self.now.roster.knows in let e = c.quit_all.new.roster.knows in
    subst (λ (a : Act). Performs a g.M.Report.ordered d (seats_of d) e (seats_of e)) (sym c.in-Quit.is)
    (c.quit_all.ensures.knows, seats_same d e (steps_for (act.Quit c.in-Quit.why) d.generation (seats_of d)) c.quit_all.ensures.knows)

pub returns-in-Terminate-clause-performs : goal.returns-in-Terminate-clause-performs
returns-in-Terminate-clause-performs g c =
    let d = c.args.self.now.roster.knows in let e = c.tell.new.roster.knows in
    subst (λ (a : Act). Performs a g.M.Report.ordered d (seats_of d) e (seats_of e)) (sym c.in-Terminate.is)
    (c.tell.ensures.knows, seats_same d e (steps_for act.Terminate d.generation (seats_of d)) c.tell.ensures.knows)

pub returns-in-KillAll-clause-performs : goal.returns-in-KillAll-clause-performs
returns-in-KillAll-clause-performs g c =
    let d = c.args.self.now.roster.knows in let e = c.tell-in-KillAll.new.roster.knows in
    subst (λ (a : Act). Performs a g.M.Report.ordered d (seats_of d) e (seats_of e)) (sym c.in-KillAll.is)
    (c.tell-in-KillAll.ensures.knows, seats_same d e (steps_for act.KillAll d.generation (seats_of d)) c.tell-in-KillAll.ensures.knows)

pub returns-in-AskCheckpoint-clause-performs : goal.returns-in-AskCheckpoint-clause-performs
returns-in-AskCheckpoint-clause-performs g c =
    let d = c.args.self.now.roster.knows in let e = c.tell-in-AskCheckpoint.new.roster.knows in
    subst (λ (a : Act). Performs a g.M.Report.ordered d (seats_of d) e (seats_of e)) (sym c.in-AskCheckpoint.is)
    (c.tell-in-AskCheckpoint.ensures.knows, seats_same d e (steps_for act.AskCheckpoint d.generation (seats_of d)) c.tell-in-AskCheckpoint.ensures.knows)
