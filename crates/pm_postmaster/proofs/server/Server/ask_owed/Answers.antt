use Rattle.std.{proofs.Common.{◌≡◌, ap, refl, subst, sym}, specs.Prelude.false}
use Rattle.pm_board_acts.specs.{pm_modes.declared.Mode.TheVariants.Smart, pm_supervisor_journal.{Standing.{Standing, later}, Supervision.at_work}, Seating.PidsEnd, Sitting.AreReaped}
use Rattle.pm_postmaster.{specs.View.view_of, proofs.{Calling.{IsBeside, asks_pids, leaves, leaves_store, same_past, short_owed}, Asked.owes_paid, Steps.asked_on}}
use Rattle.pm_postmaster.proofs.server.Server.ask_owed.Goals as goal

pub returns-in-Ok-clause-goes : goal.returns-in-Ok-clause-goes
returns-in-Ok-clause-goes g c =
    let before = view_of c.args.self.now in
    let now = record before { work = at_work c.ask.new.self.supervision; table = c.ask.new.self.roster.table; board = c.ask.new.self.roster.knows; listens = false } in
    let beside : IsBeside g.C.Clock.gives before now = record { table = c.ask.ensures.table; shared = refl; clock = refl; log = refl; lost = refl; came = refl; tells = c.ask.ensures.tells } in
    let at = later c.now.result before.work.standing in
    let made = c.in-Ok.ensures.asks (PidsEnd at) (refl, refl) in
    λ outset was.
    asked_on g.C.Clock.gives outset before now (leaves g.C.Clock.gives _ _ beside) refl refl (refl, λ n has. has) (leaves_store g.C.Clock.gives _ _ beside (same_past g.C.Clock.gives _ _ beside made.2))
    Smart c.now.result (PidsEnd at) c.now.ensures (λ s. refl) (λ k. refl)
    (asks_pids g.C.Clock.gives outset now before at refl refl refl (owes_paid _ _ c.requires.owed (ap (λ (s : Standing). s.owes_smart) made.1) (ap (λ (s : Standing). s.last_pid) made.1)))
    made.0 made.1 made.2 was

pub returns-in-Ok-clause-ended : goal.returns-in-Ok-clause-ended
returns-in-Ok-clause-ended g c =
    let made = c.in-Ok.ensures.asks (PidsEnd (later c.now.result (view_of c.args.self.now).work.standing)) (refl, refl) in
    subst (λ s. s.ended ≡ false) (sym made.1) c.requires.rests.goes_on

pub returns-in-Ok-clause-reaped : goal.returns-in-Ok-clause-reaped
returns-in-Ok-clause-reaped g c = λ n were.
    let made = c.in-Ok.ensures.asks (PidsEnd (later c.now.result (view_of c.args.self.now).work.standing)) (refl, refl) in
    subst (AreReaped n) (sym made.2) were

pub returns-in-Err-clause-goes : goal.returns-in-Err-clause-goes
returns-in-Err-clause-goes g c =
    let before = view_of c.args.self.now in
    let beside : IsBeside g.C.Clock.gives before _ = record { table = c.ask.ensures.table; shared = refl; clock = refl; log = refl; lost = refl; came = refl; tells = c.ask.ensures.tells } in
    let made = c.in-Err.ensures.asks (PidsEnd (later c.now.result before.work.standing)) (refl, refl) in
    short_owed g.C.Clock.gives before _ beside c.laws.ensures.may_end c.laws.ensures.journal made.0 made.1 made.2 refl refl

pub returns-in-Err-clause-reaped : goal.returns-in-Err-clause-reaped
returns-in-Err-clause-reaped g c = λ n were.
    let made = c.in-Err.ensures.asks (PidsEnd (later c.now.result (view_of c.args.self.now).work.standing)) (refl, refl) in
    subst (AreReaped n) (sym made.2) were
