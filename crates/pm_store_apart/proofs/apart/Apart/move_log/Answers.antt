use Rattle.std.{proofs.{Common.{rules, ◌≡◌, ◌||◌, ◌+◌, ◌∙◌, inl, ℕ, ◌-◌, ◌^◌, length, List, [], ◌∷◌, Option, None, Some, Err, refl, sym, ap, subst, arith, true}, Math.Logic.∥∥₁_map}, specs.Prelude.IfSome}
use Rattle.pm_query.specs.{pm_disk.Files.Files, pm_rows.{declared.commit.Change.Change, Fold.RowMap}, declared.book.BookEntry.{BookEntry, TheVariants.{Broke, CheckpointEnded}}, Book.history_of}
use Rattle.pm_log.specs.declared.log.LogFault.TheVariants as LogFault
use Rattle.pm_store_apart.{specs.{Redos.IsAtLastEpoch, declared.{commits.Commits.Commits, live.Live.Live}, Moment.{Moment, alone, over_of}, Rests.Rests, Stands.bytes_of_rows}, proofs.{Passing.{attends, inside_still, staged_still}, CheckpointsLaws.{gate_other, rests_moved, stands_afresh, through_same, while_moving}, Remaking.{Laws, MovesLog, Remakes, breaks, checkpoints, rows_fit}, Resting.{rests_broken, tells_nothing}, StepsLaws.{anchored_whole, notes_by, some_none}, WaitingLaws.{bare_rests, waits_at, waits_none}, Lengths.base_size}}
use Rattle.pm_log.specs.{Half.more_of, declared.log.Log.Log}
use Rattle.pm_store_apart.proofs.apart.Apart.move_log.Goals as goal

pub checkpoint-requires-clause-gate : goal.checkpoint-requires-clause-gate
checkpoint-requires-clause-gate g c = λ whole.
    let seen = g.D.Disk.seen c.args.disk.now in
    let images = g.D.Disk.images c.args.disk.now (g.D.Disk.ticks c.args.disk.now) in
    gate_other seen c.args.live c.args.self.now.rows c.args.self.now.stage.commits images (subst (λ (l : Option Live). ∥ Rests l c.args.self.now.rows c.args.self.now.stage.commits seen images ∥₁) c.requires.read c.requires.rests) whole (g.met.D.Disk.reads_as_left c.args.disk.now)

pub checkpoint-requires-clause-rows : goal.checkpoint-requires-clause-rows
checkpoint-requires-clause-rows g c = λ k d lt. ((c.are_typed.ensures k d lt).0, (c.are_typed.ensures k d lt).1, c.args.self.now.short k d lt)

pub invariant_of-self : goal.invariant_of-self
invariant_of-self g c =
    let rows = c.args.self.now.rows in
    let seen = g.D.Disk.seen c.args.disk.now in
    let now = g.D.Disk.seen c.checkpoint.new.disk in
    let before = g.D.Disk.images c.args.disk.now (g.D.Disk.ticks c.args.disk.now) in
    let behind = g.D.Disk.images c.checkpoint.new.disk (g.D.Disk.ticks c.checkpoint.new.disk) in
    let new : Live = record { log = c.checkpoint.new.self; kept = c.args.live.kept; epoch = c.args.live.epoch; faults = c.args.live.faults; closed = c.args.live.closed || c.args.clean; front = c.args.live.front; needs = c.args.live.needs; mark = c.ticks.result } in
    let rests = bare_rests seen c.args.self.now.live c.args.live rows c.args.self.now.stage.commits before c.requires.read c.requires.unstaged c.requires.rests in
    let its = waits_at c.args.self.now.live c.args.live c.args.self.now.stage c.requires.read c.args.self.now.behind in
    let waits_bare = waits_none c.args.self.now.live c.args.live c.args.self.now.stage c.requires.read c.requires.unstaged c.args.self.now.behind in
    record {
      begun = c.args.self.now.begun;
      short = c.args.self.now.short;
      limits = c.args.self.now.limits;
      behind = ∣ record {
        flushed = its.flushed ∙ sym c.in-Ok.ensures.kept.1;
        front = its.front;
        needs = its.needs;
        room = λ whole. omega (arith, waits_bare.1);
        no_longer = ap more_of c.in-Ok.ensures.kept.5;
      } ∣₁;
      ticks = c.args.self.now.ticks;
      room = omega (arith, c.requires.room, c.note.ensures.room);
    }

pub returns-in-Ok-clause-rests : goal.returns-in-Ok-clause-rests
returns-in-Ok-clause-rests g c =
    let rows = c.args.self.now.rows in
    let seen = g.D.Disk.seen c.args.disk.now in
    let now = g.D.Disk.seen c.checkpoint.new.disk in
    let before = g.D.Disk.images c.args.disk.now (g.D.Disk.ticks c.args.disk.now) in
    let behind = g.D.Disk.images c.checkpoint.new.disk (g.D.Disk.ticks c.checkpoint.new.disk) in
    let new : Live = record { log = c.checkpoint.new.self; kept = c.args.live.kept; epoch = c.args.live.epoch; faults = c.args.live.faults; closed = c.args.live.closed || c.args.clean; front = c.args.live.front; needs = c.args.live.needs; mark = c.ticks.result } in
    let rests = bare_rests seen c.args.self.now.live c.args.live rows c.args.self.now.stage.commits before c.requires.read c.requires.unstaged c.requires.rests in
    let its = waits_at c.args.self.now.live c.args.live c.args.self.now.stage c.requires.read c.args.self.now.behind in
    let waits_bare = waits_none c.args.self.now.live c.args.live c.args.self.now.stage c.requires.read c.requires.unstaged c.args.self.now.behind in
    subst (λ (s : List (List Change)). ∥ Rests (Some new) rows s now behind ∥₁) (sym c.requires.unstaged)
    (rests_moved seen now c.args.live new rows c.args.clean before behind c.requires.due refl rests c.requires.unbroken c.in-Ok.ensures.lives)

pub returns-in-Ok-clause-notes : goal.returns-in-Ok-clause-notes
returns-in-Ok-clause-notes g c =
    let told = g.B.Chronicle.entries c.args.self.now.book in
    let rows = c.args.self.now.rows in
    let pid = c.args.pass.now.pid in
    let tick = g.D.Disk.ticks c.args.disk.now in
    let then = g.D.Disk.ticks c.checkpoint.new.disk in
    let seen = g.D.Disk.seen c.args.disk.now in
    let files_now = g.D.Disk.seen c.checkpoint.new.disk in
    let i = g.D.Disk.images c.args.disk.now in
    let k = g.D.Disk.images c.checkpoint.new.disk in
    let new : Live = record { log = c.checkpoint.new.self; kept = c.args.live.kept; epoch = c.args.live.epoch; faults = c.args.live.faults; closed = c.args.live.closed || c.args.clean; front = c.args.live.front; needs = c.args.live.needs; mark = c.ticks.result } in
    let entry : BookEntry = CheckpointEnded pid true c.args.clean in
    let rests = bare_rests seen c.args.self.now.live c.args.live rows c.args.self.now.stage.commits (i tick) c.requires.read c.requires.unstaged c.requires.rests in
    let waits_bare = waits_none c.args.self.now.live c.args.live c.args.self.now.stage c.requires.read c.requires.unstaged c.args.self.now.behind in
    let kept = c.in-Ok.ensures.kept in
    let end : c.checkpoint.new.self.end + 1 ≡ bytes_of_rows rows = omega (arith, kept.2, c.in-Ok.ensures.base, base_size (c.args.live.log.epoch + 1) c.args.clean c.args.live.log.count rows) in
    let now : Commits → Moment = λ ways. record { book = g.B.Chronicle.entries c.note.new.self; generation = c.args.self.now.generation; inside = c.args.self.now.inside; rows = rows; live = Some new; skipped = c.args.self.now.skipped; commits = ways; staged = c.args.self.now.stage.commits; files = files_now; images = k; ticks = then; faults = g.D.Disk.faults c.checkpoint.new.disk } in
    let laws : Laws = record { past = c.history_laws.ensures.past; present = c.history_laws.ensures.present; within = c.rows_are_within_needs.ensures.numbers } in
    let before : Commits → Moment = λ ways. over_of told ways c.args.disk.now c.args.self.now in
    let call : (ways : Commits) → Remakes (before ways) (now ways) c.args.live new (while_moving c.args.live rows) = λ ways. record {
      generation = refl;
      commits = refl;
      inside = refl;
      read = c.requires.read;
      unbroken = c.requires.unbroken;
      fronts = omega (arith, waits_bare.0, ap length c.requires.unstaged);
      staged = refl;
      front = refl;
      needs = refl;
      read_now = refl;
      kept = refl;
      limit = kept.3;
      first = refl;
      count = kept.1;
      rows = refl;
      time = c.checkpoint.ensures.time;
      later = c.checkpoint.ensures.cause.later;
      tells = tells_nothing _ seen files_now c.checkpoint.ensures.tells;
      through = through_same seen c.args.live rows c.args.self.now.stage.commits c.args.clean tick then i k c.requires.unstaged c.checkpoint.ensures.stops;
    } in
    let there : ∥ Rests (Some new) rows c.args.self.now.stage.commits files_now (k then) ∥₁ = subst (λ (s : List (List Change)). ∥ Rests (Some new) rows s files_now (k then) ∥₁) (sym c.requires.unstaged)
    (rests_moved seen files_now c.args.live new rows c.args.clean (i tick) (k then) c.requires.due refl rests c.requires.unbroken c.in-Ok.ensures.lives) in
    let moves : (ways : Commits) → MovesLog (before ways) (now ways) c.args.live new (while_moving c.args.live rows) c.args.clean = λ ways. record {
      whole = kept.4;
      closed = refl;
      next = c.in-Ok.ensures.epoch.1 ∙ c.in-Ok.ensures.epoch.0;
      mark = c.ticks.ensures;
      fits = λ base book is.
          let fit = rows_fit laws base (before ways) c.args.live book is in
          (omega (arith, is.fits c.requires.unbroken, fit), omega (arith, end, waits_bare.1, fit));
      anchored = λ origin base book seen told gone held.
          anchored_whole (now ways) (history_of base book) new refl c.requires.unstaged gone.rows_are (kept.1 ∙ sym waits_bare.0 ∙ gone.count_is c.requires.unbroken) there;
    } in (
      entry ∷ [],
      λ ways. checkpoints laws (before ways) (now ways) c.args.live new (while_moving c.args.live rows) pid c.args.clean (call ways) (moves ways) (attends c.args.pass.now (alone c.args.self.now) c.requires.admits)
          (notes_by entry told told _ refl c.note.ensures.entries),
      refl,
    )

pub returns-in-Ok-clause-admits : goal.returns-in-Ok-clause-admits
returns-in-Ok-clause-admits g c =
    let told = g.B.Chronicle.entries c.args.self.now.book in
    let new : Live = record { log = c.checkpoint.new.self; kept = c.args.live.kept; epoch = c.args.live.epoch; faults = c.args.live.faults; closed = c.args.live.closed || c.args.clean; front = c.args.live.front; needs = c.args.live.needs; mark = c.ticks.result } in
    let entry : BookEntry = CheckpointEnded c.args.pass.now.pid true c.args.clean in record {
      there = c.requires.admits.there;
      generation_is = c.requires.admits.generation_is;
      inside = inside_still c.args.pass.now.pid c.args.pass.now.front entry told (g.B.Chronicle.entries c.note.new.self) (record { present_is = λ es. refl; times = λ n. omega arith })
          (notes_by entry told told _ refl c.note.ensures.entries) c.requires.admits.inside;
      staged = staged_still c.args.pass.now.front c.args.self.now.live (Some new) c.args.live new c.requires.read refl (omega arith) c.requires.admits.staged;
    }

pub returns-in-Ok-clause-afresh : goal.returns-in-Ok-clause-afresh
returns-in-Ok-clause-afresh g c = λ epoch is.
    let rows = c.args.self.now.rows in
    let seen = g.D.Disk.seen c.args.disk.now in
    let now = g.D.Disk.seen c.checkpoint.new.disk in
    let before = g.D.Disk.images c.args.disk.now (g.D.Disk.ticks c.args.disk.now) in
    let behind = g.D.Disk.images c.checkpoint.new.disk (g.D.Disk.ticks c.checkpoint.new.disk) in
    let new : Live = record { log = c.checkpoint.new.self; kept = c.args.live.kept; epoch = c.args.live.epoch; faults = c.args.live.faults; closed = c.args.live.closed || c.args.clean; front = c.args.live.front; needs = c.args.live.needs; mark = c.ticks.result } in
    let rests = bare_rests seen c.args.self.now.live c.args.live rows c.args.self.now.stage.commits before c.requires.read c.requires.unstaged c.requires.rests in
    let same : c.in-Ok.epoch ≡ epoch = search (rules, is) in
    let waits_bare = waits_none c.args.self.now.live c.args.live c.args.self.now.stage c.requires.read c.requires.unstaged c.args.self.now.behind in
    let whole : new.front ≡ new.log.count = waits_bare.0 ∙ sym c.in-Ok.ensures.kept.1 in
    (new, refl, c.in-Ok.ensures.kept.4, c.in-Ok.ensures.epoch.1 ∙ same, stands_afresh seen now c.args.live new rows epoch c.args.clean before behind rests c.requires.unbroken c.in-Ok.ensures.lives (g.met.D.Disk.reads_as_left c.checkpoint.new.disk) (c.in-Ok.ensures.epoch.1 ∙ same) whole)

pub returns-in-Err-Disk-clause-notes : goal.returns-in-Err-Disk-clause-notes
returns-in-Err-Disk-clause-notes g c =
    let told = g.B.Chronicle.entries c.args.self.now.book in
    let rows = c.args.self.now.rows in
    let pid = c.args.pass.now.pid in
    let tick = g.D.Disk.ticks c.args.disk.now in
    let then = g.D.Disk.ticks c.checkpoint.new.disk in
    let faults = g.D.Disk.faults c.checkpoint.new.disk in
    let seen = g.D.Disk.seen c.args.disk.now in
    let files_now = g.D.Disk.seen c.checkpoint.new.disk in
    let i = g.D.Disk.images c.args.disk.now in
    let k = g.D.Disk.images c.checkpoint.new.disk in
    let new : Live = record { log = c.checkpoint.new.self; kept = c.args.live.kept; epoch = c.args.live.epoch; faults = c.faults.result; closed = c.args.live.closed; front = c.args.live.front; needs = c.args.live.needs; mark = c.args.live.mark } in
    let entry : BookEntry = Broke pid then faults in
    let rests = bare_rests seen c.args.self.now.live c.args.live rows c.args.self.now.stage.commits (i tick) c.requires.read c.requires.unstaged c.requires.rests in
    let waits_bare = waits_none c.args.self.now.live c.args.live c.args.self.now.stage c.requires.read c.requires.unstaged c.args.self.now.behind in
    let broken = (c.in-Err-Disk.ensures.disk (search rules)).0 in
    let now : Commits → Moment = λ ways. record { book = g.B.Chronicle.entries c.note_fault.new.book; generation = c.args.self.now.generation; inside = c.args.self.now.inside; rows = rows; live = Some new; skipped = c.args.self.now.skipped; commits = ways; staged = c.args.self.now.stage.commits; files = files_now; images = k; ticks = then; faults = faults } in
    let laws : Laws = record { past = c.history_laws.ensures.past; present = c.history_laws.ensures.present; within = c.rows_are_within_needs.ensures.numbers } in
    let before : Commits → Moment = λ ways. over_of told ways c.args.disk.now c.args.self.now in
    let call : (ways : Commits) → Remakes (before ways) (now ways) c.args.live new (while_moving c.args.live rows) = λ ways. record {
      generation = refl;
      commits = refl;
      inside = refl;
      read = c.requires.read;
      unbroken = c.requires.unbroken;
      fronts = omega (arith, waits_bare.0, ap length c.requires.unstaged);
      staged = refl;
      front = refl;
      needs = refl;
      read_now = refl;
      kept = refl;
      limit = ap (λ (l : Log). l.limit) broken;
      first = refl;
      count = ap (λ (l : Log). l.count) broken;
      rows = refl;
      time = c.checkpoint.ensures.time;
      later = c.checkpoint.ensures.cause.later;
      tells = tells_nothing _ seen files_now c.checkpoint.ensures.tells;
      through = through_same seen c.args.live rows c.args.self.now.stage.commits c.args.clean tick then i k c.requires.unstaged c.checkpoint.ensures.stops;
    } in (
      entry ∷ [],
      λ ways. breaks laws (before ways) (now ways) c.args.live new (while_moving c.args.live rows) pid then (call ways)
          (record { broke = ap (λ (l : Log). l.since) broken; closed = refl; mark = refl; fault = c.faults.ensures; rose = c.checkpoint.ensures.cause.rose (search rules); small = (g.met.D.Disk.counted c.checkpoint.new.disk).1 })
          (λ base book is. omega (arith, is.fits c.requires.unbroken, rows_fit laws base (before ways) c.args.live book is))
          (attends c.args.pass.now (alone c.args.self.now) c.requires.admits) c.note_fault.ensures.entries,
      (then, faults, refl),
    )

pub returns-in-Err-Disk-clause-admits : goal.returns-in-Err-Disk-clause-admits
returns-in-Err-Disk-clause-admits g c =
    let told = g.B.Chronicle.entries c.args.self.now.book in
    let new : Live = record { log = c.checkpoint.new.self; kept = c.args.live.kept; epoch = c.args.live.epoch; faults = c.faults.result; closed = c.args.live.closed; front = c.args.live.front; needs = c.args.live.needs; mark = c.args.live.mark } in
    let entry : BookEntry = Broke c.args.pass.now.pid (g.D.Disk.ticks c.checkpoint.new.disk) (g.D.Disk.faults c.checkpoint.new.disk) in
    record {
      there = c.requires.admits.there;
      generation_is = c.requires.admits.generation_is;
      inside = inside_still c.args.pass.now.pid c.args.pass.now.front entry told (g.B.Chronicle.entries c.note_fault.new.book) (record { present_is = λ es. refl; times = λ n. omega arith })
          c.note_fault.ensures.entries c.requires.admits.inside;
      staged = staged_still c.args.pass.now.front c.args.self.now.live (Some new) c.args.live new c.requires.read refl (omega arith) c.requires.admits.staged;
    }

-- a log that lives stands in the files as they read
last_epoch : (seen : Option Files) (live : Live) (rows : RowMap) (staged : List (List Change)) (images : Files → Type 0) → ∥ Rests (Some live) rows staged seen images ∥₁ → live.log.since ≡ None → live.log.epoch ≡ 2 ^ 64 - 1
    → IfSome seen images → IfSome seen (λ files. ∥ IsAtLastEpoch files ∥₁)
last_epoch None live rows staged images rests whole last there = tt
last_epoch (Some files) live rows staged images rests whole last there = ∥∥₁_map rests (λ r.
    let has = r whole in
    record {
      file = live.log.file;
      content = has.content;
      end = live.log.end;
      pair = record { stands = has.lives.rests.stands; beside = inl (has.lives.rests.beside files there) };
      last = sym has.lives.epoch ∙ last;
    })

full_no_disk : (need room : ℕ) → LogFault.Full need room ≡ LogFault.Disk → ⊥
full_no_disk need room is = cc

pub returns-in-Err-Full-clause-full : goal.returns-in-Err-Full-clause-full
returns-in-Err-Full-clause-full g c = λ need room is.
    let disk = c.args.disk.now in
    let images = g.D.Disk.images disk (g.D.Disk.ticks disk) in
    let refused = c.in-Err-Full.is ∙ ap (λ f. Err f) c.in-Err-Full.field-0-is in
    let full = c.checkpoint.ensures.full c.in-Err-Full.need c.in-Err-Full.room refused in
    let same = c.checkpoint.ensures.untouched _ refused (full_no_disk c.in-Err-Full.need c.in-Err-Full.room) in
    rw same.1 (last_epoch (g.D.Disk.seen disk) c.args.live c.args.self.now.rows c.args.self.now.stage.commits images
    (subst (λ (l : Option Live). ∥ Rests l c.args.self.now.rows c.args.self.now.stage.commits (g.D.Disk.seen disk) images ∥₁) c.requires.read c.requires.rests) full.0 full.1 (g.met.D.Disk.reads_as_left disk))

pub invariant_of-self-in-Err-Disk : goal.invariant_of-self-in-Err-Disk
invariant_of-self-in-Err-Disk g c =
    let then = g.D.Disk.ticks c.checkpoint.new.disk in
    let new : Live = record { log = c.checkpoint.new.self; kept = c.args.live.kept; epoch = c.args.live.epoch; faults = c.faults.result; closed = c.args.live.closed; front = c.args.live.front; needs = c.args.live.needs; mark = c.args.live.mark } in
    let broken = (c.in-Err-Disk.ensures.disk (search rules)).0 in
    let broke : new.log.since ≡ Some then = ap (λ (l : Log). l.since) broken in
    let its = waits_at c.args.self.now.live c.args.live c.args.self.now.stage c.requires.read c.args.self.now.behind in
    record {
      begun = c.args.self.now.begun;
      short = c.args.self.now.short;
      limits = c.args.self.now.limits;
      behind = ∣ record {
        flushed = its.flushed ∙ sym (ap (λ (l : Log). l.count) broken);
        front = its.front;
        needs = its.needs;
        room = λ whole. absurd (some_none then (sym broke ∙ whole));
        no_longer = ap (λ (l : Log). more_of l.making) broken;
      } ∣₁;
      ticks = c.args.self.now.ticks;
      room = omega (arith, c.requires.room, c.note_fault.ensures.room);
    }

pub returns-in-Err-Disk-clause-rests : goal.returns-in-Err-Disk-clause-rests
returns-in-Err-Disk-clause-rests g c =
    let then = g.D.Disk.ticks c.checkpoint.new.disk in
    let new : Live = record { log = c.checkpoint.new.self; kept = c.args.live.kept; epoch = c.args.live.epoch; faults = c.faults.result; closed = c.args.live.closed; front = c.args.live.front; needs = c.args.live.needs; mark = c.args.live.mark } in
    let broken = (c.in-Err-Disk.ensures.disk (search rules)).0 in
    let broke : new.log.since ≡ Some then = ap (λ (l : Log). l.since) broken in
    let its = waits_at c.args.self.now.live c.args.live c.args.self.now.stage c.requires.read c.args.self.now.behind in
    rests_broken new c.args.self.now.rows c.args.self.now.stage.commits (g.D.Disk.seen c.checkpoint.new.disk) (g.D.Disk.images c.checkpoint.new.disk then) then broke
