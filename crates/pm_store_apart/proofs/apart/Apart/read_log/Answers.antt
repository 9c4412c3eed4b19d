use Rattle.std.{proofs.Common.{rules, ◌≡◌, ◌≢◌, ◌∙◌, ℕ, List, [], ◌∷◌, length, Some, Err, refl, sym, ap, subst, arith, false}, specs.Prelude.IfSome}
use Rattle.pm_query.specs.{pm_rows.{declared.commit.Change.Change, Limits.max_file_bytes}, declared.{book.BookEntry.{BookEntry, TheVariants.{Broke, Redone}}, store.StoreNo.TheVariants.Redo}, Calls.{RedoNotes, user_of}, pm_record.declared.fault.RedoFault.RedoFault}
use Rattle.pm_log.specs.{Half.more_of, declared.log.Log.Log}
use Rattle.pm_stage.specs.Stage.{Waiting}
use Rattle.pm_store_apart.{specs.{Rests.Rests, Waits.needs_alone, declared.{commits.Commits.Commits, live.Live.Live}, Moment.{Moment, alone, over_of}, Redos.IsFoundIn, Passes.view_of, Stands.bytes_of_rows}, proofs.{Passing.{attends, inside_still, none_staged}, Redos.{Reads, Redoes, goes_on_found, redo_notes_none, reads_fault, reads_nothing, redoes_first, rests_found}, Resting.{rests_unread, tells_nothing}, StepsLaws.{not_both, notes_by, same_live}, Lengths.stands_size}}
use Rattle.pm_query.specs.pm_record.declared.fault.RedoFault.TheVariants as fault
use Rattle.pm_outside.proofs.AddedLaws.{added_none}
use Rattle.pm_store_apart.proofs.apart.Apart.read_log.Goals as goal

pub invariant_of-self : goal.invariant_of-self
invariant_of-self g c =
    let new : Live = record { log = c.resume-log.result; kept = c.in-Ok.found.count; epoch = c.in-Ok.found.epoch; faults = 0; closed = false; front = c.in-Ok.found.count; needs = 0; mark = c.ticks.result } in
    let emptied : c.new.result.commits ≡ [] = ap (λ (w : Waiting). w.commits) c.new.ensures in
    let upto : c.new.result.flushed ≡ c.in-Ok.found.count = ap (λ (w : Waiting). w.flushed) c.new.ensures in
    record {
      begun = c.args.self.now.begun;
      short = λ k d lt. (c.in-Ok.ensures.rows k d lt).2;
      limits = c.in-Ok.ensures.limits;
      behind = ∣ record {
        flushed = upto ∙ sym (ap (λ (l : Log). l.count) c.resume-log.ensures);
        front = omega (arith, upto, ap length emptied);
        needs = sym (ap needs_alone emptied);
        room = λ whole. omega arith;
        no_longer = ap (λ (l : Log). more_of l.making) c.resume-log.ensures;
      } ∣₁;
      ticks = c.args.self.now.ticks;
      room = omega (arith, c.requires.room, c.note.ensures.room);
    }

pub returns-in-Ok-clause-rests : goal.returns-in-Ok-clause-rests
returns-in-Ok-clause-rests g c =
    let new : Live = record { log = c.resume-log.result; kept = c.in-Ok.found.count; epoch = c.in-Ok.found.epoch; faults = 0; closed = false; front = c.in-Ok.found.count; needs = 0; mark = c.ticks.result } in
    let emptied : c.new.result.commits ≡ [] = ap (λ (w : Waiting). w.commits) c.new.ensures in
    let upto : c.new.result.flushed ≡ c.in-Ok.found.count = ap (λ (w : Waiting). w.flushed) c.new.ensures in
    subst (λ (s : List (List Change)). ∥ Rests (Some new) c.in-Ok.found.rows s (g.D.Disk.seen c.recover.new.disk) (g.D.Disk.images c.recover.new.disk (g.D.Disk.ticks c.recover.new.disk)) ∥₁) (sym emptied)
    (rests_found (g.D.Disk.seen c.args.disk.now) (g.D.Disk.seen c.recover.new.disk) c.in-Ok.found max_file_bytes new (g.D.Disk.images c.recover.new.disk (g.D.Disk.ticks c.recover.new.disk)) c.resume-log.ensures refl c.in-Ok.ensures.limits c.in-Ok.ensures.found)

pub returns-in-Ok-clause-notes : goal.returns-in-Ok-clause-notes
returns-in-Ok-clause-notes g c =
    let told = g.B.Chronicle.entries c.args.self.now.book in
    let content = c.in-Ok.ensures.content in
    let new : Live = record { log = c.resume-log.result; kept = c.in-Ok.found.count; epoch = c.in-Ok.found.epoch; faults = 0; closed = false; front = c.in-Ok.found.count; needs = 0; mark = c.ticks.result } in
    let entry : BookEntry = Redone c.args.pass.now.pid c.args.self.now.generation c.in-Ok.found.count in
    let now : Commits → Moment = λ ways. record {
      book = g.B.Chronicle.entries c.note.new.self;
      generation = c.args.self.now.generation;
      inside = c.args.self.now.inside;
      rows = c.in-Ok.found.rows;
      live = Some new;
      skipped = c.args.self.now.skipped;
      commits = ways;
      staged = c.new.result.commits;
      files = g.D.Disk.seen c.recover.new.disk;
      images = g.D.Disk.images c.recover.new.disk;
      ticks = g.D.Disk.ticks c.recover.new.disk;
      faults = g.D.Disk.faults c.recover.new.disk;
    } in
    let emptied : c.new.result.commits ≡ [] = ap (λ (w : Waiting). w.commits) c.new.ensures in
    let redoes : (ways : Commits) → Redoes (over_of told ways c.args.disk.now c.args.self.now) (now ways) c.in-Ok.found new = λ ways. record {
      generation = refl;
      commits = refl;
      inside = refl;
      fits = omega (arith, stands_size c.lengths_are_the_numbers.ensures.needs c.rows_are_within_needs.ensures.commits content.0 content.1 c.in-Ok.found.end content.3, ap bytes_of_rows content.2.rows);
      unread = c.requires.unread;
      unskipped = c.requires.unskipped;
      read_now = refl;
      log = c.resume-log.ensures;
      kept = refl;
      first = refl;
      closed = refl;
      front = refl;
      needs = refl;
      mark = c.ticks.ensures;
      unstaged = emptied;
      rests = subst (λ (s : List (List Change)). ∥ Rests (Some new) c.in-Ok.found.rows s (g.D.Disk.seen c.recover.new.disk) (g.D.Disk.images c.recover.new.disk (g.D.Disk.ticks c.recover.new.disk)) ∥₁) (sym emptied)
          (rests_found (g.D.Disk.seen c.args.disk.now) (g.D.Disk.seen c.recover.new.disk) c.in-Ok.found max_file_bytes new (g.D.Disk.images c.recover.new.disk (g.D.Disk.ticks c.recover.new.disk)) c.resume-log.ensures refl c.in-Ok.ensures.limits c.in-Ok.ensures.found);
      rows = refl;
      time = c.recover.ensures.time;
      later = c.recover.ensures.cause.later;
      finds = c.in-Ok.ensures.found;
      exact = c.in-Ok.ensures.exact;
      reads = g.met.D.Disk.reads_as_left c.args.disk.now;
      follows = c.recover.ensures.stops;
    } in (
      entry ∷ [],
      λ ways. redoes_first (record { past = c.history_laws.ensures.past; present = c.history_laws.ensures.present; acked = c.history_laws.ensures.acked }) (over_of told ways c.args.disk.now c.args.self.now) (now ways) c.in-Ok.found new c.args.pass.now.pid (redoes ways) (attends c.args.pass.now (alone c.args.self.now) c.requires.admits)
          (notes_by entry told told _ refl c.note.ensures.entries),
      ap (λ (n : ℕ). Redone c.args.pass.now.pid n c.in-Ok.found.count ∷ []) (sym c.requires.admits.generation_is),
    )

pub returns-then-eq-clause-notes : goal.returns-then-eq-clause-notes
returns-then-eq-clause-notes g c =
    let told = g.B.Chronicle.entries c.args.self.now.book in
    let faults = g.D.Disk.faults c.recover.new.disk in
    let is : c.in-Err.fault ≡ fault.Disk = search rules in
    let then = g.D.Disk.ticks c.recover.new.disk in
    let entry : BookEntry = Broke c.args.pass.now.pid then faults in
    let now : Commits → Moment = λ ways. record {
      book = g.B.Chronicle.entries c.note_fault.new.book;
      generation = c.args.self.now.generation;
      inside = c.args.self.now.inside;
      rows = c.args.self.now.rows;
      live = c.args.self.now.live;
      skipped = c.args.self.now.skipped;
      commits = ways;
      staged = c.args.self.now.stage.commits;
      files = g.D.Disk.seen c.recover.new.disk;
      images = g.D.Disk.images c.recover.new.disk;
      ticks = g.D.Disk.ticks c.recover.new.disk;
      faults = faults;
    } in
    let reads : (ways : Commits) → Reads (over_of told ways c.args.disk.now c.args.self.now) (now ways) = λ ways. record {
      generation = refl;
      commits = refl;
      inside = refl;
      unread = c.requires.unread;
      unread_now = c.requires.unread;
      skipped = refl;
      time = c.recover.ensures.time;
      later = c.recover.ensures.cause.later;
      tells = tells_nothing _ (g.D.Disk.seen c.args.disk.now) (g.D.Disk.seen c.recover.new.disk) c.recover.ensures.tells;
      follows = c.recover.ensures.stops;
    } in (
      entry ∷ [],
      λ ways. reads_fault c.history_laws.ensures.past c.history_laws.ensures.present (over_of told ways c.args.disk.now c.args.self.now) (now ways) c.args.pass.now.pid then (reads ways) (c.recover.ensures.cause.rose (search rules)) (g.met.D.Disk.counted c.recover.new.disk).1
          (attends c.args.pass.now (alone c.args.self.now) c.requires.admits) c.note_fault.ensures.entries,
      subst (λ (why : RedoFault). RedoNotes (user_of (Some c.args.self.now.generation) (view_of c.args.pass.now)) (Err (Redo why)) (entry ∷ [])) (sym is) (then, faults, refl),
    )

pub returns-else-eq-clause-notes : goal.returns-else-eq-clause-notes
returns-else-eq-clause-notes g c =
    let told = g.B.Chronicle.entries c.args.self.now.book in
    let other : c.in-Err.fault ≢ fault.Disk = search rules in
    let now : Commits → Moment = λ ways. record {
      book = told;
      generation = c.args.self.now.generation;
      inside = c.args.self.now.inside;
      rows = c.args.self.now.rows;
      live = c.args.self.now.live;
      skipped = c.args.self.now.skipped;
      commits = ways;
      staged = c.args.self.now.stage.commits;
      files = g.D.Disk.seen c.recover.new.disk;
      images = g.D.Disk.images c.recover.new.disk;
      ticks = g.D.Disk.ticks c.recover.new.disk;
      faults = g.D.Disk.faults c.recover.new.disk;
    } in
    let reads : (ways : Commits) → Reads (over_of told ways c.args.disk.now c.args.self.now) (now ways) = λ ways. record {
      generation = refl;
      commits = refl;
      inside = refl;
      unread = c.requires.unread;
      unread_now = c.requires.unread;
      skipped = refl;
      time = c.recover.ensures.time;
      later = c.recover.ensures.cause.later;
      tells = tells_nothing _ (g.D.Disk.seen c.args.disk.now) (g.D.Disk.seen c.recover.new.disk) c.recover.ensures.tells;
      follows = c.recover.ensures.stops;
    } in (
      [],
      λ ways. reads_nothing c.history_laws.ensures.past c.history_laws.ensures.present (over_of told ways c.args.disk.now c.args.self.now) (now ways) (reads ways) (added_none told) (c.in-Err.ensures.kept c.in-Err.fault refl other),
      redo_notes_none (user_of (Some c.args.self.now.generation) (view_of c.args.pass.now)) c.in-Err.fault other,
    )

pub returns-in-Ok-clause-admits : goal.returns-in-Ok-clause-admits
returns-in-Ok-clause-admits g c =
    let told = g.B.Chronicle.entries c.args.self.now.book in
    let entry : BookEntry = Redone c.args.pass.now.pid c.args.self.now.generation c.in-Ok.found.count in record {
      there = c.requires.admits.there;
      generation_is = c.requires.admits.generation_is;
      inside = inside_still c.args.pass.now.pid c.args.pass.now.front entry told (g.B.Chronicle.entries c.note.new.self) (record { present_is = λ es. refl; times = λ n. omega arith })
          (notes_by entry told told _ refl c.note.ensures.entries) c.requires.admits.inside;
      staged = none_staged c.args.pass.now.front c.args.self.now.live _ c.requires.unread c.requires.admits.staged;
    }

pub returns-in-Ok-clause-found : goal.returns-in-Ok-clause-found
returns-in-Ok-clause-found g c = λ unread its is.
    let seen = g.D.Disk.seen c.args.disk.now in
    let behind = g.D.Disk.images c.recover.new.disk (g.D.Disk.ticks c.recover.new.disk) in
    let new : Live = record { log = c.resume-log.result; kept = c.in-Ok.found.count; epoch = c.in-Ok.found.epoch; faults = 0; closed = false; front = c.in-Ok.found.count; needs = 0; mark = c.ticks.result } in
    subst (λ (l : Live). IfSome seen (IsFoundIn l)) (same_live (Some new) new its refl is)
    (goes_on_found seen (g.D.Disk.seen c.recover.new.disk) c.in-Ok.found max_file_bytes new behind c.resume-log.ensures refl c.in-Ok.ensures.found)

pub returns-then-eq-clause-found : goal.returns-then-eq-clause-found
returns-then-eq-clause-found g c = λ unread its is. absurd (not_both c.args.self.now.live its unread is)

pub returns-else-eq-clause-found : goal.returns-else-eq-clause-found
returns-else-eq-clause-found g c = λ unread its is. absurd (not_both c.args.self.now.live its unread is)

pub returns-then-eq-clause-rests : goal.returns-then-eq-clause-rests
returns-then-eq-clause-rests g c =
    rests_unread c.args.self.now.live c.args.self.now.rows c.args.self.now.stage.commits (g.D.Disk.seen c.recover.new.disk) (g.D.Disk.images c.recover.new.disk (g.D.Disk.ticks c.recover.new.disk)) c.requires.unread

pub returns-else-eq-clause-rests : goal.returns-else-eq-clause-rests
returns-else-eq-clause-rests g c =
    rests_unread c.args.self.now.live c.args.self.now.rows c.args.self.now.stage.commits (g.D.Disk.seen c.recover.new.disk) (g.D.Disk.images c.recover.new.disk (g.D.Disk.ticks c.recover.new.disk)) c.requires.unread
