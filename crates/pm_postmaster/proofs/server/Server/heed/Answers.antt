use Rattle.std.{proofs.Common.{◌≡◌, ℕ, ◌<◌, ◌≤◌, [], ◌∙◌, ap, arith, refl, subst, sym}, specs.Prelude.{false, nat_lt}}
use Rattle.pm_server.specs.{pm_facts.Bools.by_test, pm_supervisor_journal.{Standing.{Standing, later}, Stands.highest_pid, Supervision.at_work}}
use Rattle.pm_serve_requests.specs.{Requests.{IsNumber, meant}, pm_board_acts.{Chained.AsksFor, Board.seats_of, Seating.{Kill, Nothing, Reads, Stop, asked_by}, Sitting.AreReaped}}
use Rattle.pm_postmaster.{specs.View.view_of, proofs.{Asked.{owes_none, owes_same}, Calling.{IsBeside, asks_line, leaves, leaves_store, same_past, short_line}, Owed.none_killed, Steps.{asked_on, unheeded_on}}}
use Rattle.pm_postmaster.proofs.server.Server.heed.Goals as goal

-- such a pid is above the highest
far_off : (last pid : ℕ) → last ≤ highest_pid → (pid < 4294967296 → ⊥) → last < pid
far_off last pid low far = by_test (nat_lt last pid) (λ is. grind (arith, is)) (λ isnt. absurd (far (let above : pid ≤ last = grind (arith, isnt) in omega (arith, low, above))))

pub returns-in-Nothing-clause-heeds : goal.returns-in-Nothing-clause-heeds
returns-in-Nothing-clause-heeds g c = λ line lines given asked.
    let v = view_of c.args.self.now in
    let before = record v { lines = lines } in
    let at = v.work.standing.moment in
    let beside : IsBeside g.C.Clock.gives before v = record { table = refl; shared = refl; clock = refl; log = refl; lost = refl; came = refl; tells = refl } in
    λ outset was.
    unheeded_on g.C.Clock.gives outset before v (leaves g.C.Clock.gives _ _ beside) refl refl (refl, λ n has. has) (leaves_store g.C.Clock.gives _ _ beside (same_past g.C.Clock.gives _ _ beside refl))
    line Nothing at refl (asks_line g.C.Clock.gives outset v v line lines Nothing at given (subst (λ r. AsksFor IsNumber line (meant r)) c.in-Nothing.is asked) (record { lines = refl; ended = refl; listens = refl }) (owes_same _ _ refl))
    (c.laws.ensures.lines _ line Nothing at refl) refl refl refl was

pub returns-in-Ok-clause-heeds : goal.returns-in-Ok-clause-heeds
returns-in-Ok-clause-heeds g c = λ line lines given asked.
    let v = view_of c.args.self.now in
    let before = record v { lines = lines } in
    let now = record v { work = at_work c.ask.new.self.supervision; table = c.ask.new.self.roster.table; board = c.ask.new.self.roster.knows } in
    let beside : IsBeside g.C.Clock.gives before now = record { table = c.ask.ensures.table; shared = refl; clock = refl; log = refl; lost = refl; came = refl; tells = c.ask.ensures.tells } in
    let at = later c.now.result v.work.standing in
    let how = c.in-Stop.mode in
    let made = c.in-Ok.ensures.asks (Reads line (Stop how) at) (refl, refl) in
    λ outset was.
    asked_on g.C.Clock.gives outset before now (leaves g.C.Clock.gives _ _ beside) refl refl (refl, λ n has. has) (leaves_store g.C.Clock.gives _ _ beside (same_past g.C.Clock.gives _ _ beside made.2))
    how c.now.result (Reads line (Stop how) at) c.now.ensures (λ s. refl) (λ k. refl)
    (asks_line g.C.Clock.gives outset now v line lines (Stop how) at given (subst (λ r. AsksFor IsNumber line (meant r)) c.in-Stop.is asked) (record { lines = refl; ended = refl; listens = refl })
    (owes_none _ _ c.requires.idle.unowed (ap (λ (s : Standing). s.owes_smart) made.1) (ap (λ (s : Standing). s.last_pid) made.1)))
    made.0 made.1 made.2 was

pub returns-in-Ok-clause-ended : goal.returns-in-Ok-clause-ended
returns-in-Ok-clause-ended g c =
    let made = c.in-Ok.ensures.asks (Reads [] (Stop c.in-Stop.mode) (later c.now.result (view_of c.args.self.now).work.standing)) (refl, refl) in
    subst (λ s. s.ended ≡ false) (sym made.1) c.requires.idle.rests.goes_on

pub returns-in-Ok-clause-reaped : goal.returns-in-Ok-clause-reaped
returns-in-Ok-clause-reaped g c = λ n were.
    let made = c.in-Ok.ensures.asks (Reads [] (Stop c.in-Stop.mode) (later c.now.result (view_of c.args.self.now).work.standing)) (refl, refl) in
    subst (AreReaped n) (sym made.2) were

pub returns-in-Err-clause-heeds : goal.returns-in-Err-clause-heeds
returns-in-Err-clause-heeds g c = λ line lines given asked.
    let v = view_of c.args.self.now in
    let before = record v { lines = lines } in
    let now = record v { work = at_work c.ask.new.self.supervision; table = c.ask.new.self.roster.table; board = c.ask.new.self.roster.knows } in
    let beside : IsBeside g.C.Clock.gives before now = record { table = c.ask.ensures.table; shared = refl; clock = refl; log = refl; lost = refl; came = refl; tells = c.ask.ensures.tells } in
    let made = c.in-Err.ensures.asks (Reads line (Stop c.in-Stop.mode) (later c.now.result v.work.standing)) (refl, refl) in
    short_line g.C.Clock.gives before now beside c.laws.ensures.may_end c.laws.ensures.journal made.0 made.1 made.2 line given refl (ap (λ (s : Standing). s.owes_smart) made.0 ∙ c.requires.idle.unowed)

pub returns-in-Err-clause-reaped : goal.returns-in-Err-clause-reaped
returns-in-Err-clause-reaped g c = λ n were.
    let made = c.in-Err.ensures.asks (Reads [] (Stop c.in-Stop.mode) (later c.now.result (view_of c.args.self.now).work.standing)) (refl, refl) in
    subst (AreReaped n) (sym made.2) were

-- the pid is above all that were drawn
pub returns-in-Err-try_from-clause-heeds : goal.returns-in-Err-try_from-clause-heeds
returns-in-Err-try_from-clause-heeds g c = λ line lines given asked.
    let v = view_of c.args.self.now in
    let before = record v { lines = lines } in
    let at = v.work.standing.moment in
    let pid = c.in-Kill.pid in
    let beside : IsBeside g.C.Clock.gives before v = record { table = refl; shared = refl; clock = refl; log = refl; lost = refl; came = refl; tells = refl } in
    λ outset was.
    let seated = was.at.seated in
    let low = c.laws.ensures.journal.pids outset.limits _ v.work.standing was.at.past was.at.stands in
    let nobody : asked_by (Kill pid) at (seats_of v.board) ≡ [] =
    subst (λ seats. asked_by (Kill pid) at seats ≡ []) (sym seated.at_hand)
    (none_killed pid at v.work.standing.last_pid seated.seating.seats seated.roll.below (far_off _ pid low (λ less. c.in-Err-try_from.ensures less))) in
    unheeded_on g.C.Clock.gives outset before v (leaves g.C.Clock.gives _ _ beside) refl refl (refl, λ n has. has) (leaves_store g.C.Clock.gives _ _ beside (same_past g.C.Clock.gives _ _ beside refl))
    line (Kill pid) at nobody (asks_line g.C.Clock.gives outset v v line lines (Kill pid) at given (subst (λ r. AsksFor IsNumber line (meant r)) c.in-Kill.is asked) (record { lines = refl; ended = refl; listens = refl }) (owes_same _ _ refl))
    (c.laws.ensures.lines _ line (Kill pid) at nobody) refl refl refl was

pub kill-requires-clause-read : goal.kill-requires-clause-read
kill-requires-clause-read g c = record {
  line = c.requires.read.line;
  lines = c.requires.read.lines;
  given = c.requires.read.given;
  asked = subst (λ (pid : ℕ). AsksFor IsNumber c.requires.read.line (Kill pid)) (sym c.in-Ok-try_from.ensures.1)
      (subst (λ r. AsksFor IsNumber c.requires.read.line (meant r)) c.in-Kill.is c.requires.read.asked);
  alive = c.requires.read.alive;
}
