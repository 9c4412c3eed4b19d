use Rattle.std.{proofs.{Common.{◌≡◌, ℕ, ap, refl}, lemmas.Result.err_from_is_err_and}, specs.Prelude.is_some}
use Rattle.atomic_table.specs.Seated.{TableId}
use Rattle.pm_worker.specs.{pm_board.pm_board_words.declared.views.RosterView.RosterView, declared.mail.MailTold.MailTold}
use Rattle.pm_supervisor_journal.specs.Stands.{AtWork}
use Rattle.pm_postmaster.{specs.{Serving.Keeps, View.{View, view_of}}, proofs.{Calling.{IsBeside, short, still}, Going.{alive_on, both_done, none_done, stops_on}}}
use Rattle.pm_postmaster.proofs.server.Server.accept.Goals as goal

-- there is room for what a connection leaves, and nothing was done
has_room : {D C : Type 0} (gives : C → ℕ → Type 0) (before : View D C) (work : AtWork) (table : TableId) (board : RosterView MailTold) → table ≡ before.table
    → work.standing ≡ before.work.standing → work.told ≡ before.work.told → board ≡ before.board → Keeps gives before (record before { work = work; table = table; board = board })
has_room gives before work table board same_table standing told same_board =
    still gives before _ (record { table = same_table; shared = refl; clock = refl; log = refl; lost = refl; came = refl; tells = ap (λ t. is_some t) told })
    (record { visits = refl; lines = refl; listens = refl }) standing told same_board

pub returns-then-not-self-clause-goes : goal.returns-then-not-self-clause-goes
returns-then-not-self-clause-goes g c =
    none_done g.C.Clock.gives (view_of c.args.self.now)

pub returns-then-is_err-clause-goes : goal.returns-then-is_err-clause-goes
returns-then-is_err-clause-goes g c =
    let before = view_of c.args.self.now in
    let room : IsBeside g.C.Clock.gives before _ = record {
      table = ap (λ r. r.table) c.make_room.ensures.roster;
      shared = refl;
      clock = refl;
      log = refl;
      lost = refl;
      came = refl;
      tells = ap (λ t. is_some t) c.make_room.ensures.told;
    } in
    short g.C.Clock.gives before _ room c.laws.ensures.may_end c.laws.ensures.journal c.make_room.ensures.standing c.make_room.ensures.told (ap (λ r. r.knows) c.make_room.ensures.roster)
    (record { visits = refl; lines = refl; listens = refl })

pub ask_port-requires-clause-alive : goal.ask_port-requires-clause-alive
ask_port-requires-clause-alive g c =
    let keeps = has_room g.C.Clock.gives (view_of c.args.self.now) _ _ _ (ap (λ r. r.table) c.make_room.ensures.roster) c.make_room.ensures.standing c.make_room.ensures.told (ap (λ r. r.knows) c.make_room.ensures.roster) in
    alive_on g.C.Clock.gives _ _ keeps c.requires.alive

pub settle-requires-clause-alive : goal.settle-requires-clause-alive
settle-requires-clause-alive g c =
    let keeps = has_room g.C.Clock.gives (view_of c.args.self.now) _ _ _ (ap (λ r. r.table) c.make_room.ensures.roster) c.make_room.ensures.standing c.make_room.ensures.told (ap (λ r. r.knows) c.make_room.ensures.roster) in
    alive_on g.C.Clock.gives _ _ c.in-Ok-true.ensures.goes (alive_on g.C.Clock.gives _ _ keeps c.requires.alive)

pub returns-in-Ok-false-clause-goes : goal.returns-in-Ok-false-clause-goes
returns-in-Ok-false-clause-goes g c =
    let keeps = has_room g.C.Clock.gives (view_of c.args.self.now) _ _ _ (ap (λ r. r.table) c.make_room.ensures.roster) c.make_room.ensures.standing c.make_room.ensures.told (ap (λ r. r.knows) c.make_room.ensures.roster) in
    λ outset was. c.in-Ok-false.ensures.goes outset (keeps outset was)

pub returns-in-Err-clause-goes : goal.returns-in-Err-clause-goes
returns-in-Err-clause-goes g c =
    let keeps = has_room g.C.Clock.gives (view_of c.args.self.now) _ _ _ (ap (λ r. r.table) c.make_room.ensures.roster) c.make_room.ensures.standing c.make_room.ensures.told (ap (λ r. r.knows) c.make_room.ensures.roster) in
    λ outset was. c.in-Err.ensures.goes outset (keeps outset was)

pub returns-in_err-settle-in-Ok-true-clause-goes : goal.returns-in_err-settle-in-Ok-true-clause-goes
returns-in_err-settle-in-Ok-true-clause-goes g c =
    let keeps = has_room g.C.Clock.gives (view_of c.args.self.now) _ _ _ (ap (λ r. r.table) c.make_room.ensures.roster) c.make_room.ensures.standing c.make_room.ensures.told (ap (λ r. r.knows) c.make_room.ensures.roster) in
    let p = err_from_is_err_and c.from_residual.result c.from_residual.ensures.1 in
    rw (p.1, p.2) (stops_on g.C.Clock.gives _ _ _ _ (both_done g.C.Clock.gives _ _ _ keeps c.in-Ok-true.ensures.goes) c.in_err-settle-in-Ok-true.ensures.goes)

pub returns-in_ok-settle-in-Ok-true-clause-goes : goal.returns-in_ok-settle-in-Ok-true-clause-goes
returns-in_ok-settle-in-Ok-true-clause-goes g c =
    let keeps = has_room g.C.Clock.gives (view_of c.args.self.now) _ _ _ (ap (λ r. r.table) c.make_room.ensures.roster) c.make_room.ensures.standing c.make_room.ensures.told (ap (λ r. r.knows) c.make_room.ensures.roster) in
    λ outset was. c.in_ok-settle-in-Ok-true.ensures.goes outset (c.in-Ok-true.ensures.goes outset (keeps outset was))
