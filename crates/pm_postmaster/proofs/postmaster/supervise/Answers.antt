use Rattle.std.{proofs.Common.{◌≡◌, ◌⊎◌, inl, inr, ℕ, List, [], refl, sym, ap, subst, ◌∙◌}, specs.Prelude.{Some, Option, IfSome, is_some}}
use Rattle.atomic_table.specs.Seated.{TableId}
use Rattle.pm_worker.specs.{pm_board.pm_board_words.declared.views.RosterView.RosterView, declared.mail.MailTold.MailTold}
use Rattle.pm_serve_pool.specs.{pm_serve_crew.Left.AreLeft, declared.{plan.{Plan.Plan, Terms.Terms}, pool.{NoPool.NoPool, Pool.Pool}}, Plan.{files_of, manner_of, slots_of}, Pools.IsPool, pm_store_shared.declared.views.Noted.Noted}
use Rattle.pm_server.specs.{pm_disk.{Cause.Rose, Files.Files}, pm_supervisor_journal.Supervision.{at_work, told}, pm_query.declared.book.BookEntry.BookEntry, declared.end.ServerEnd.{ServerEnd, TheVariants.{NoThread, NoMemory}}}
use Rattle.pm_server_lines.proofs.LogLaws.{said_first}
use Rattle.pm_serve_pool.specs.declared.pool.NoPool.TheVariants as pools
use Rattle.pm_postmaster.{specs.Served.{slots_by, unmade_by}, proofs.{Beginning.begun, Finished.{adds_new, given_back, logged_whole, told_at}, Ran.{asked, board_is, cause, clears_at, connections, last_at, links, may_clear_at, may_close, may_close_at, once, redos, returned}}}
use Rattle.pm_postmaster.proofs.postmaster.supervise.Goals as goal

-- why no pool was made
why_unmade : (why : NoPool) (end : ServerEnd) (before now : ℕ) → end ≡ unmade_by why → (why ≡ pools.NoThread → Rose before now)
    → (end ≡ NoMemory) ⊎ ((end ≡ NoThread) × Rose before now)
why_unmade pools.NoThread end before now is rose = inr (is, rose refl)
why_unmade pools.NoMemory end before now is rose = inl is

at_first : {D : Type 0} (P : D → Type 0) (f : Option D) (disk : D) → f ≡ Some disk → IfSome f P → P disk
at_first P f disk is has = subst (λ o. IfSome o P) is has

-- what is left goes by the plan
by_plan : {C : Type 0} (gives : C → ℕ → Type 0) (plan : Plan) (clock : C) (terms : Terms C) (files handed : Option Files) (board : RosterView MailTold) (own : List Noted) (log : List BookEntry)
    → terms.plan ≡ plan → terms.clock.value ≡ clock → files ≡ handed → AreLeft (manner_of gives terms files) (slots_of terms.plan) board own log
    → AreLeft (record { seed = plan.seed; limit = plan.conf.authentication_ms; gives = gives clock; files = handed }) (slots_of plan) board own log
by_plan {C} gives plan clock terms files handed board own log is value same left =
    subst (λ (p : Plan). AreLeft (record { seed = p.seed; limit = p.conf.authentication_ms; gives = gives clock; files = handed }) (slots_of p) board own log) is
    (subst (λ (x : C). AreLeft (record { seed = terms.plan.seed; limit = terms.plan.conf.authentication_ms; gives = gives x; files = handed }) (slots_of terms.plan) board own log) value
    (subst (λ (f : Option Files). AreLeft (manner_of gives terms f) (slots_of terms.plan) board own log) same left))

pool_at : {R C L D B X : Type 0} {link : _} (gives : C → ℕ → Type 0) (pool : Pool R C L D B X link) (board home b h : TableId) (first disk : Option D) → b ≡ board → h ≡ home → disk ≡ first
    → IsPool gives board home first pool → IsPool gives b h disk pool
pool_at {D = D} gives pool board home b h first disk table store same was =
    subst (λ (t : TableId). IsPool gives t h disk pool) (sym table)
    (subst (λ (t : TableId). IsPool gives board t disk pool) (sym store) (subst (λ (d : Option D). IsPool gives board home d pool) (sym same) was))

-- ---- it begins

pub run-end-requires-clause-alive : goal.run-end-requires-clause-alive
run-end-requires-clause-alive g c = (
  _,
  begun g.C.Clock.gives c.args.conf.now.limits _ _ _ c.requires.some c.requires.within c.new-supervision.ensures.standing
      _ c.new-supervision.ensures.told c.requires.journal c.in-Ok.ensures.roster (ap (λ s. at_work s) c.new-desk.ensures.supervision) (ap (λ r. r.knows) c.new-desk.ensures.roster) (c.new-desk.ensures.begins c.args.conf.now.limits)
      (ap (λ l. l.is_cut) c.new-log.ensures) c.requires.port c.in-Ok.ensures.shared.generation c.in-Ok.ensures.shared.own c.new-lost.ensures.items refl c.requires.console,
)

-- ---- its end

pub clear-requires : goal.clear-requires
clear-requires g c =
    let stopped = c.run-end.ensures _ (begun g.C.Clock.gives c.args.conf.now.limits _ _ _ c.requires.some c.requires.within c.new-supervision.ensures.standing
    _ c.new-supervision.ensures.told c.requires.journal c.in-Ok.ensures.roster (ap (λ s. at_work s) c.new-desk.ensures.supervision) (ap (λ r. r.knows) c.new-desk.ensures.roster) (c.new-desk.ensures.begins c.args.conf.now.limits)
    (ap (λ l. l.is_cut) c.new-log.ensures) c.requires.port c.in-Ok.ensures.shared.generation c.in-Ok.ensures.shared.own c.new-lost.ensures.items refl c.requires.console) in
    record {
      may = may_clear_at _ _ _ (ap (λ r. r.knows) c.into_parts-supervision.ensures.roster)
          (record { count = (slots_by c.args.conf.now.limits); moves = stopped.moves; ending = stopped.ending; accepted = _; links = stopped.holds.links });
    }

pub close-store-requires-clause-pool : goal.close-store-requires-clause-pool
close-store-requires-clause-pool g c =
    let stopped = c.run-end.ensures _ (begun g.C.Clock.gives c.args.conf.now.limits _ _ _ c.requires.some c.requires.within c.new-supervision.ensures.standing
    _ c.new-supervision.ensures.told c.requires.journal c.in-Ok.ensures.roster (ap (λ s. at_work s) c.new-desk.ensures.supervision) (ap (λ r. r.knows) c.new-desk.ensures.roster) (c.new-desk.ensures.begins c.args.conf.now.limits)
    (ap (λ l. l.is_cut) c.new-log.ensures) c.requires.port c.in-Ok.ensures.shared.generation c.in-Ok.ensures.shared.own c.new-lost.ensures.items refl c.requires.console) in
    let parts = c.into_parts-supervision.ensures.roster in
    let clears = clears_at _ _ _ _ _ _ _ _ (ap (λ r. r.table) parts) (ap (λ r. r.knows) parts) c.clear.ensures.clears in
    pool_at g.C.Clock.gives c.in-Ok.made.pool _ _ _ _ _ _ (clears.table ∙ (stopped.holds.stays.table ∙ ap (λ r. r.table) c.new-desk.ensures.roster))
    stopped.holds.stays.home stopped.holds.stays.disk c.in-Ok.ensures.pool

pub close-store-requires-clause-board : goal.close-store-requires-clause-board
close-store-requires-clause-board g c =
    let stopped = c.run-end.ensures _ (begun g.C.Clock.gives c.args.conf.now.limits _ _ _ c.requires.some c.requires.within c.new-supervision.ensures.standing
    _ c.new-supervision.ensures.told c.requires.journal c.in-Ok.ensures.roster (ap (λ s. at_work s) c.new-desk.ensures.supervision) (ap (λ r. r.knows) c.new-desk.ensures.roster) (c.new-desk.ensures.begins c.args.conf.now.limits)
    (ap (λ l. l.is_cut) c.new-log.ensures) c.requires.port c.in-Ok.ensures.shared.generation c.in-Ok.ensures.shared.own c.new-lost.ensures.items refl c.requires.console) in
    let parts = c.into_parts-supervision.ensures.roster in
    let clears = clears_at _ _ _ _ _ _ _ _ (ap (λ r. r.table) parts) (ap (λ r. r.knows) parts) c.clear.ensures.clears in
    may_close_at _ _ _ (ap slots_of c.in-Ok.ensures.terms.0) (may_close g.C.Clock.gives _ _ _ stopped c.laws.ensures.nobody _ _ _ clears c.clear.ensures.gone)

pub close-store-requires-clause-shared : goal.close-store-requires-clause-shared
close-store-requires-clause-shared g c =
    let stopped = c.run-end.ensures _ (begun g.C.Clock.gives c.args.conf.now.limits _ _ _ c.requires.some c.requires.within c.new-supervision.ensures.standing
    _ c.new-supervision.ensures.told c.requires.journal c.in-Ok.ensures.roster (ap (λ s. at_work s) c.new-desk.ensures.supervision) (ap (λ r. r.knows) c.new-desk.ensures.roster) (c.new-desk.ensures.begins c.args.conf.now.limits)
    (ap (λ l. l.is_cut) c.new-log.ensures) c.requires.port c.in-Ok.ensures.shared.generation c.in-Ok.ensures.shared.own c.new-lost.ensures.items refl c.requires.console) in
    let stays = stopped.holds.stays in
    (stays.tokens ∙ (c.in-Ok.ensures.shared.tokens_are ∙ ap slots_of (sym c.in-Ok.ensures.terms.0)), stays.joined ∙ c.in-Ok.ensures.shared.none_joined)

pub returns-in-Ok-clause-run : goal.returns-in-Ok-clause-run
returns-in-Ok-clause-run g c =
    let stopped = c.run-end.ensures _ (begun g.C.Clock.gives c.args.conf.now.limits _ _ _ c.requires.some c.requires.within c.new-supervision.ensures.standing
    _ c.new-supervision.ensures.told c.requires.journal c.in-Ok.ensures.roster (ap (λ s. at_work s) c.new-desk.ensures.supervision) (ap (λ r. r.knows) c.new-desk.ensures.roster) (c.new-desk.ensures.begins c.args.conf.now.limits)
    (ap (λ l. l.is_cut) c.new-log.ensures) c.requires.port c.in-Ok.ensures.shared.generation c.in-Ok.ensures.shared.own c.new-lost.ensures.items refl c.requires.console) in
    let parts = c.into_parts-supervision.ensures.roster in
    let clears = clears_at _ _ _ _ _ _ _ _ (ap (λ r. r.table) parts) (ap (λ r. r.knows) parts) c.clear.ensures.clears in
    let stays = stopped.holds.stays in
    let made = c.in-Ok.made in
    let all = at_first _ _ c.args.outside.disk (stays.disk ∙ c.in-Ok.ensures.shared.first_is) c.close-store.ensures.left in
    let left =
    by_plan g.C.Clock.gives _ c.args.outside.clock made.pool.terms _ (g.D.Disk.seen c.args.outside.disk) _ _ _ c.in-Ok.ensures.terms.0 c.in-Ok.ensures.terms.1
    (ap (files_of g.D.Disk) (stays.disk ∙ c.in-Ok.ensures.shared.first_is)) all.2 in
    let last = last_at _ _ _ _ (ap slots_of c.in-Ok.ensures.terms.0) c.close-store.ensures.last in
    let entries = c.into_journal-journal.ensures ∙ ap (λ s. told s) c.into_parts-supervision.ensures.supervision in
    record {
      moves = stopped.moves;
      own = _;
      book = all.0;
      journal = record {
        noted = adds_new _ _ _ c.requires.journal
            (ap is_some entries ∙ (stopped.holds.tells ∙ ap is_some (ap (λ s. told s) c.new-desk.ensures.supervision ∙ c.new-supervision.ensures.told)))
            (told_at _ _ _ entries stopped.told);
        legal = stopped.legal;
        given = stopped.holds.times;
      };
      limit = c.close-store.ensures.limit ∙ (clears.limit ∙ stopped.holds.limit);
      board_is = board_is g.C.Clock.gives _ _ _ stopped c.laws.ensures.nobody _ _ _ clears c.clear.ensures.gone _ _ _ _ c.close-store.ensures.board last left;
      left = left;
      once = once g.C.Clock.gives _ _ _ stopped c.laws.ensures.nobody _ _ _ clears c.clear.ensures.gone _ _ _ _ c.close-store.ensures.board last left;
      remains = c.part-disk.ensures c.args.outside.disk all.0 all.1;
      ends = stopped.ends;
      cause = cause g.C.Clock.gives _ _ _ stopped c.laws.ensures.nobody _ _ _ clears c.clear.ensures.gone _ _ _ _ c.close-store.ensures.board last left;
      renewals = stopped.renews;
      opened = stopped.opened;
      redos = redos g.C.Clock.gives _ _ _ stopped c.laws.ensures.nobody _ _ _ clears c.clear.ensures.gone _ _ _ _ c.close-store.ensures.board last left;
      asked = asked g.C.Clock.gives _ _ _ stopped c.laws.ensures.nobody _ _ _ clears c.clear.ensures.gone _ _ _ _ c.close-store.ensures.board last left;
      connections = connections g.C.Clock.gives _ _ _ stopped c.laws.ensures.nobody _ _ _ clears c.clear.ensures.gone _ _ _ _ c.close-store.ensures.board last left;
      links = links g.C.Clock.gives _ _ _ stopped c.laws.ensures.nobody _ _ _ clears c.clear.ensures.gone _ _ _ _ c.close-store.ensures.board last left;
      returned = returned g.C.Clock.gives _ _ _ stopped c.laws.ensures.nobody _ _ _ clears c.clear.ensures.gone _ _ _ _ c.close-store.ensures.board last left;
      logged = logged_whole _ _ _ _ _ _ _ c.new-log.ensures stopped.holds.said c.ended-sink.ensures;
    }

pub returns-in-Ok-clause-rest : goal.returns-in-Ok-clause-rest
returns-in-Ok-clause-rest g c =
    let stopped = c.run-end.ensures _ (begun g.C.Clock.gives c.args.conf.now.limits _ _ _ c.requires.some c.requires.within c.new-supervision.ensures.standing
    _ c.new-supervision.ensures.told c.requires.journal c.in-Ok.ensures.roster (ap (λ s. at_work s) c.new-desk.ensures.supervision) (ap (λ r. r.knows) c.new-desk.ensures.roster) (c.new-desk.ensures.begins c.args.conf.now.limits)
    (ap (λ l. l.is_cut) c.new-log.ensures) c.requires.port c.in-Ok.ensures.shared.generation c.in-Ok.ensures.shared.own c.new-lost.ensures.items refl c.requires.console) in
    (stopped.holds.stays.clock, refl)

-- ---- no pool was made

pub returns-in-Err-clause-run : goal.returns-in-Err-clause-run
returns-in-Err-clause-run g c =
    let back = given_back g.D.Disk g.B.Chronicle _ _ _ _ c.in-Err.ensures.parts in
    record {
      why = why_unmade c.in-Err.unmade.why _ _ _ c.unmade_end-end.ensures c.in-Err.ensures.cause;
      journal = refl;
      visits = refl;
      lines = refl;
      book = back.0;
      files = back.1;
      time = back.2;
      logged = logged_whole [] _ _ _ _ _ _ c.new-log.ensures (said_first _ (ap (λ l. l.is_cut) c.new-log.ensures)) c.ended-sink-in-Err.ensures;
    }
