use Rattle.std.{proofs.Common.{rules, ◌≡◌, ◌∙◌, inl, inr, ℕ, ◌+◌, ◌^◌, ◌<◌, List, [], ◌∷◌, Option, Some, refl, sym, ap, subst, arith, length}, specs.Prelude.IfSome}
use Rattle.pm_query.specs.{pm_rows.{declared.commit.Change.Change, Fold.{RowMap, committed}, Limits.IsWithinRowLimits, Batch.IsBatch}, pm_disk.Disk.TellsStill, Limits.HasShortRows, declared.book.BookEntry.{BookEntry, TheVariants.{Answered, Broke, LogFull}}, Answer.commit_of, Book.need_of}
use Rattle.pm_query.specs.pm_rows.LogSize as log
use Rattle.pm_log.specs.{Half.more_of, declared.log.{Log.Log, LogFault.LogFault}}
use Rattle.pm_outside.{proofs.AddedLaws.added_both, specs.Added.Added}
use Rattle.pm_store_apart.{specs.{declared.{commits.Commits.Commits, live.Live.Live}, Moment.{Moment, alone, over_of}, Moves.Moves, Rests.Rests, Waits.needs_alone}, proofs.{Passing.{attends, inside_answered, inside_still, no_less, staged_still}, Resting.{LivesWith, StopsOneOf, batch_is, durable_of, gate_of, may_append, need_is, rests_broken, full_or_disk, rests_with, tells_nothing, through_of}, StepsLaws.{Appends, commits, finds_full, loses, some_none, stays_put}, WaitingLaws.{bare_rests, waits_at, waits_none}}}
use Rattle.pm_stage.specs.Stage.{Waiting}
use Rattle.pm_store_apart.proofs.apart.Apart.append.Goals as goal

pub returns-in_err-prepared-clause-notes : goal.returns-in_err-prepared-clause-notes
returns-in_err-prepared-clause-notes g c =
    ([], λ ways. rw c.in_err-prepared.ensures.err (stays_put (over_of (g.B.Chronicle.entries c.args.self.now.book) ways c.args.disk.now c.args.self.now) (g.B.Chronicle.entries c.args.self.now.book) refl), search rules)

pub append-requires-clause-batch : goal.append-requires-clause-batch
append-requires-clause-batch g c =
    subst IsBatch (sym c.from_ref.ensures.value) (batch_is c.args.ran.commit c.requires.some c.requires.answer.commit_limits c.changes-typed.ensures.typed)

pub append-requires-clause-number : goal.append-requires-clause-number
append-requires-clause-number g c =
    let waits_bare = waits_none c.args.self.now.live c.args.live c.args.self.now.stage c.requires.live c.requires.none c.args.self.now.behind in
    omega (arith, c.requires.number, waits_bare.0, ap length c.from_ref.ensures.value)

pub append-requires-clause-gate : goal.append-requires-clause-gate
append-requires-clause-gate g c = λ whole.
    let seen = g.D.Disk.seen c.args.disk.now in
    let images = g.D.Disk.images c.args.disk.now (g.D.Disk.ticks c.args.disk.now) in
    gate_of seen c.args.live c.args.self.now.rows c.args.self.now.stage.commits images (subst (λ (l : Option Live). ∥ Rests l c.args.self.now.rows c.args.self.now.stage.commits seen images ∥₁) c.requires.live c.requires.rests) whole

pub invariant_of-self-in-Ok : goal.invariant_of-self-in-Ok
invariant_of-self-in-Ok g c =
    let rows = c.args.self.now.rows in
    let commit = c.args.ran.commit in
    let seen = g.D.Disk.seen c.args.disk.now in
    let now = g.D.Disk.seen c.append.new.disk in
    let before = g.D.Disk.images c.args.disk.now (g.D.Disk.ticks c.args.disk.now) in
    let behind = g.D.Disk.images c.append.new.disk (g.D.Disk.ticks c.append.new.disk) in
    let new : Live = record { log = c.append.new.self; kept = c.args.live.kept; epoch = c.args.live.epoch; faults = c.args.live.faults; closed = c.args.live.closed; front = c.in-Ok.receipt.count; needs = c.args.live.needs; mark = c.in-Ok.receipt.tick } in
    let is : c.apply.result ≡ committed rows commit = c.apply.ensures ∙ ap (λ p. p.after) c.in_ok-prepared.ensures.ok in
    let waits_bare = waits_none c.args.self.now.live c.args.live c.args.self.now.stage c.requires.live c.requires.none c.args.self.now.behind in
    let emptied : c.new.result.commits ≡ [] = ap (λ (w : Waiting). w.commits) c.new.ensures in
    let upto : c.new.result.flushed ≡ c.in-Ok.receipt.count = ap (λ (w : Waiting). w.flushed) c.new.ensures in
    let small : c.args.live.log.count + 1 < 2 ^ 64 = omega (arith, c.requires.number, waits_bare.0) in
    let within : IsWithinRowLimits (committed rows commit) = c.requires.answer.row_limits c.args.self.now.limits in
    let may = may_append rows c.args.live.log.count commit (batch_is commit c.requires.some c.requires.answer.commit_limits c.changes-typed.ensures.typed) c.args.self.now.limits (c.requires.answer.row_limits c.args.self.now.limits) small in
    let none = c.requires.none in
    let rests = bare_rests seen c.args.self.now.live c.args.live rows c.args.self.now.stage.commits before c.requires.live none c.requires.rests in
    let lives = subst (λ (b : List (List Change)). TellsStill (LivesWith c.args.live new b before behind) seen now) c.from_ref.ensures.value c.in-Ok.ensures.lives in
    let its = waits_at c.args.self.now.live c.args.live c.args.self.now.stage c.requires.live c.args.self.now.behind in
    record {
      begun = c.args.self.now.begun;
      short = subst HasShortRows (sym is) (c.requires.answer.short_rows c.args.self.now.short);
      limits = subst IsWithinRowLimits (sym is) (c.requires.answer.row_limits c.args.self.now.limits);
      behind = ∣ record {
        flushed = upto ∙ c.in-Ok.ensures.receipt.0;
        front = omega (arith, upto, ap length emptied);
        needs = waits_bare.1 ∙ sym (ap needs_alone emptied);
        room = λ whole. omega (arith, waits_bare.1);
        no_longer = ap (λ (l : Log). more_of l.making) c.in-Ok.ensures.grown ∙ its.no_longer;
      } ∣₁;
      ticks = c.args.self.now.ticks;
      room = omega (arith, c.requires.room, c.answer.ensures.room);
    }

pub returns-in-Ok-clause-rests : goal.returns-in-Ok-clause-rests
returns-in-Ok-clause-rests g c =
    let rows = c.args.self.now.rows in
    let commit = c.args.ran.commit in
    let seen = g.D.Disk.seen c.args.disk.now in
    let now = g.D.Disk.seen c.append.new.disk in
    let before = g.D.Disk.images c.args.disk.now (g.D.Disk.ticks c.args.disk.now) in
    let behind = g.D.Disk.images c.append.new.disk (g.D.Disk.ticks c.append.new.disk) in
    let new : Live = record { log = c.append.new.self; kept = c.args.live.kept; epoch = c.args.live.epoch; faults = c.args.live.faults; closed = c.args.live.closed; front = c.in-Ok.receipt.count; needs = c.args.live.needs; mark = c.in-Ok.receipt.tick } in
    let is : c.apply.result ≡ committed rows commit = c.apply.ensures ∙ ap (λ p. p.after) c.in_ok-prepared.ensures.ok in
    let waits_bare = waits_none c.args.self.now.live c.args.live c.args.self.now.stage c.requires.live c.requires.none c.args.self.now.behind in
    let emptied : c.new.result.commits ≡ [] = ap (λ (w : Waiting). w.commits) c.new.ensures in
    let upto : c.new.result.flushed ≡ c.in-Ok.receipt.count = ap (λ (w : Waiting). w.flushed) c.new.ensures in
    let small : c.args.live.log.count + 1 < 2 ^ 64 = omega (arith, c.requires.number, waits_bare.0) in
    let within : IsWithinRowLimits (committed rows commit) = c.requires.answer.row_limits c.args.self.now.limits in
    let may = may_append rows c.args.live.log.count commit (batch_is commit c.requires.some c.requires.answer.commit_limits c.changes-typed.ensures.typed) c.args.self.now.limits (c.requires.answer.row_limits c.args.self.now.limits) small in
    let none = c.requires.none in
    let rests = bare_rests seen c.args.self.now.live c.args.live rows c.args.self.now.stage.commits before c.requires.live none c.requires.rests in
    let lives = subst (λ (b : List (List Change)). TellsStill (LivesWith c.args.live new b before behind) seen now) c.from_ref.ensures.value c.in-Ok.ensures.lives in
    subst (λ (s : List (List Change)). ∥ Rests (Some new) c.apply.result s now behind ∥₁) (sym emptied)
    (subst (λ (r : RowMap). ∥ Rests (Some new) r [] now behind ∥₁) (sym is) (rests_with seen now c.args.live new rows before behind commit c.requires.unclosed within rests c.requires.unbroken may lives))

pub invariant_of-self-in-Err-Disk : goal.invariant_of-self-in-Err-Disk
invariant_of-self-in-Err-Disk g c =
    let rows = c.args.self.now.rows in
    let commit = c.args.ran.commit in
    let now = g.D.Disk.seen c.append.new.disk in
    let behind = g.D.Disk.images c.append.new.disk (g.D.Disk.ticks c.append.new.disk) in
    let new : Live = record { log = c.append.new.self; kept = c.args.live.kept; epoch = c.args.live.epoch; faults = c.faults.result; closed = c.args.live.closed; front = c.args.live.front; needs = c.args.live.needs; mark = c.args.live.mark } in
    let is : c.apply-in-Err-Disk.result ≡ committed rows commit = c.apply-in-Err-Disk.ensures ∙ ap (λ p. p.after) c.in_ok-prepared.ensures.ok in
    let broke : c.append.new.self.since ≡ Some (g.D.Disk.ticks c.append.new.disk) = ap (λ (l : Log). l.since) (c.in-Err-Disk.ensures.disk (search rules)).0 in
    let its = waits_at c.args.self.now.live c.args.live c.args.self.now.stage c.requires.live c.args.self.now.behind in
    record {
      begun = c.args.self.now.begun;
      short = subst HasShortRows (sym is) (c.requires.answer.short_rows c.args.self.now.short);
      limits = subst IsWithinRowLimits (sym is) (c.requires.answer.row_limits c.args.self.now.limits);
      behind = ∣ record {
        flushed = its.flushed ∙ sym (ap (λ (l : Log). l.count) (c.in-Err-Disk.ensures.disk (search rules)).0);
        front = its.front;
        needs = its.needs;
        room = λ whole. absurd (some_none (g.D.Disk.ticks c.append.new.disk) (sym broke ∙ whole));
        no_longer = ap (λ (l : Log). more_of l.making) (c.in-Err-Disk.ensures.disk (search rules)).0 ∙ its.no_longer;
      } ∣₁;
      ticks = c.args.self.now.ticks;
      room = omega (arith, c.requires.room, c.note_answer.ensures.room, c.note_fault.ensures.room);
    }

pub returns-in-Err-Disk-clause-rests : goal.returns-in-Err-Disk-clause-rests
returns-in-Err-Disk-clause-rests g c =
    let rows = c.args.self.now.rows in
    let commit = c.args.ran.commit in
    let now = g.D.Disk.seen c.append.new.disk in
    let behind = g.D.Disk.images c.append.new.disk (g.D.Disk.ticks c.append.new.disk) in
    let new : Live = record { log = c.append.new.self; kept = c.args.live.kept; epoch = c.args.live.epoch; faults = c.faults.result; closed = c.args.live.closed; front = c.args.live.front; needs = c.args.live.needs; mark = c.args.live.mark } in
    let is : c.apply-in-Err-Disk.result ≡ committed rows commit = c.apply-in-Err-Disk.ensures ∙ ap (λ p. p.after) c.in_ok-prepared.ensures.ok in
    let broke : c.append.new.self.since ≡ Some (g.D.Disk.ticks c.append.new.disk) = ap (λ (l : Log). l.since) (c.in-Err-Disk.ensures.disk (search rules)).0 in
    let its = waits_at c.args.self.now.live c.args.live c.args.self.now.stage c.requires.live c.args.self.now.behind in
    rests_broken new c.apply-in-Err-Disk.result c.args.self.now.stage.commits now behind (g.D.Disk.ticks c.append.new.disk) broke

pub returns-in-Ok-clause-notes : goal.returns-in-Ok-clause-notes
returns-in-Ok-clause-notes g c =
    let told = g.B.Chronicle.entries c.args.self.now.book in
    let rows = c.args.self.now.rows in
    let ran = c.args.ran in
    let commit = c.args.ran.commit in
    let pid = c.args.pass.now.pid in
    let tick = g.D.Disk.ticks c.args.disk.now in
    let then = g.D.Disk.ticks c.append.new.disk in
    let seen = g.D.Disk.seen c.args.disk.now in
    let files_now = g.D.Disk.seen c.append.new.disk in
    let i = g.D.Disk.images c.args.disk.now in
    let k = g.D.Disk.images c.append.new.disk in
    let new : Live = record { log = c.append.new.self; kept = c.args.live.kept; epoch = c.args.live.epoch; faults = c.args.live.faults; closed = c.args.live.closed; front = c.in-Ok.receipt.count; needs = c.args.live.needs; mark = c.in-Ok.receipt.tick } in
    let is : c.apply.result ≡ committed rows commit = c.apply.ensures ∙ ap (λ p. p.after) c.in_ok-prepared.ensures.ok in
    let none = c.requires.none in
    let rests = bare_rests seen c.args.self.now.live c.args.live rows c.args.self.now.stage.commits (i tick) c.requires.live none c.requires.rests in
    let waits_bare = waits_none c.args.self.now.live c.args.live c.args.self.now.stage c.requires.live none c.args.self.now.behind in
    let may = may_append rows c.args.live.log.count commit (batch_is commit c.requires.some c.requires.answer.commit_limits c.changes-typed.ensures.typed) c.args.self.now.limits (c.requires.answer.row_limits c.args.self.now.limits) (omega (arith, c.requires.number, waits_bare.0)) in
    let single = c.from_ref.ensures.value in
    let lives = subst (λ (b : List (List Change)). TellsStill (LivesWith c.args.live new b (i tick) (k then)) seen files_now) single c.in-Ok.ensures.lives in
    let stops = subst (λ (b : List (List Change)). IfSome seen (StopsOneOf c.args.live b tick then (i tick) k)) single c.append.ensures.stops in
    let grown = c.in-Ok.ensures.grown in
    let emptied : c.new.result.commits ≡ [] = ap (λ (w : Waiting). w.commits) c.new.ensures in
    let within : IsWithinRowLimits (committed rows commit) = c.requires.answer.row_limits c.args.self.now.limits in
    let rests_now : ∥ Rests (Some new) c.apply.result c.new.result.commits files_now (k then) ∥₁ = subst (λ (s : List (List Change)). ∥ Rests (Some new) c.apply.result s files_now (k then) ∥₁) (sym emptied)
    (subst (λ (r : RowMap). ∥ Rests (Some new) r [] files_now (k then) ∥₁) (sym is) (rests_with seen files_now c.args.live new rows (i tick) (k then) commit c.requires.unclosed within rests c.requires.unbroken may lives)) in
    let now : Commits → Moment = λ ways. record { book = g.B.Chronicle.entries c.answer.new.book; generation = c.args.self.now.generation; inside = c.args.self.now.inside; rows = c.apply.result; live = Some new; skipped = c.args.self.now.skipped; commits = ways; staged = c.new.result.commits; files = files_now; images = k; ticks = then; faults = g.D.Disk.faults c.append.new.disk } in
    let appends : (ways : Commits) → Appends (over_of told ways c.args.disk.now c.args.self.now) (now ways) c.args.live new commit = λ ways. record {
      generation = refl;
      commits = refl;
      inside = refl;
      read = c.requires.live;
      unbroken = c.requires.unbroken;
      unclosed = c.requires.unclosed;
      unstaged_now = emptied;
      front = waits_bare.0;
      needs = refl;
      read_now = refl;
      kept = refl;
      closed = refl;
      limit = ap (λ (l : Log). l.limit) grown;
      epoch = ap (λ (l : Log). l.epoch) grown;
      first = refl;
      rows = is;
      time = c.append.ensures.time;
      later = c.append.ensures.cause.later;
      tells = tells_nothing _ seen files_now c.append.ensures.beside;
      through = through_of seen c.args.live rows tick then i k commit rests c.requires.unbroken may stops;
    } in
    let front = c.in-Ok.ensures.receipt.0 in
    let notes : Added (Answered pid ran.script ran.reply commit new.log.count c.args.live.mark ∷ []) told (g.B.Chronicle.entries c.answer.new.book) = rw front at c.answer.ensures.entries in
    let count : new.log.count ≡ c.args.live.log.count + 1 = ap (λ (l : Log). l.count) grown ∙ ap (λ (b : List (List Change)). c.args.live.log.count + length b) single in
    let end : new.log.end ≡ c.args.live.log.end + log.need_of (commit ∷ []) = ap (λ (l : Log). l.end) grown ∙ ap (λ (b : List (List Change)). c.args.live.log.end + log.need_of b) single in
    let moves = λ (ways : Commits). commits c.history_laws.ensures.past c.history_laws.ensures.present (over_of told ways c.args.disk.now c.args.self.now) (now ways) c.args.live new pid ran.script ran.reply commit c.requires.some (appends ways)
    (ap (λ (l : Log). l.since) grown ∙ c.requires.unbroken) count front c.in-Ok.ensures.receipt.1 end (durable_of seen files_now c.args.live new rows (i tick) (k then) commit end rests c.requires.unbroken may lives) rests_now
    (attends c.args.pass.now (alone c.args.self.now) c.requires.admits) c.requires.answer.reply_is c.requires.answer.commit_is notes in (
      Answered pid ran.script ran.reply commit c.in-Ok.receipt.count c.args.live.mark ∷ [],
      λ ways. subst (λ (n : ℕ). Moves (Answered pid ran.script ran.reply commit n c.args.live.mark ∷ []) (over_of told ways c.args.disk.now c.args.self.now) (now ways)) (sym front) (moves ways),
      c.answer.ensures.staged,
    )

pub returns-in-Ok-clause-admits : goal.returns-in-Ok-clause-admits
returns-in-Ok-clause-admits g c =
    let told = g.B.Chronicle.entries c.args.self.now.book in
    let ran = c.args.ran in
    rw c.answer.ensures.seen (record {
      there = c.requires.admits.there;
      generation_is = c.requires.admits.generation_is;
      inside = inside_answered c.args.pass.now.pid c.in-Ok.receipt.count c.args.live.mark ran.script ran.reply ran.commit c.args.pass.now.front told (g.B.Chronicle.entries c.answer.new.book) c.answer.ensures.entries c.requires.admits.inside;
      staged = omega arith;
    })

pub returns-in-Err-Disk-clause-notes : goal.returns-in-Err-Disk-clause-notes
returns-in-Err-Disk-clause-notes g c =
    let told = g.B.Chronicle.entries c.args.self.now.book in
    let rows = c.args.self.now.rows in
    let ran = c.args.ran in
    let commit = c.args.ran.commit in
    let pid = c.args.pass.now.pid in
    let tick = g.D.Disk.ticks c.args.disk.now in
    let then = g.D.Disk.ticks c.append.new.disk in
    let faults = g.D.Disk.faults c.append.new.disk in
    let seen = g.D.Disk.seen c.args.disk.now in
    let files_now = g.D.Disk.seen c.append.new.disk in
    let i = g.D.Disk.images c.args.disk.now in
    let k = g.D.Disk.images c.append.new.disk in
    let new : Live = record { log = c.append.new.self; kept = c.args.live.kept; epoch = c.args.live.epoch; faults = c.faults.result; closed = c.args.live.closed; front = c.args.live.front; needs = c.args.live.needs; mark = c.args.live.mark } in
    let is : c.apply-in-Err-Disk.result ≡ committed rows commit = c.apply-in-Err-Disk.ensures ∙ ap (λ p. p.after) c.in_ok-prepared.ensures.ok in
    let none = c.requires.none in
    let rests = bare_rests seen c.args.self.now.live c.args.live rows c.args.self.now.stage.commits (i tick) c.requires.live none c.requires.rests in
    let waits_bare = waits_none c.args.self.now.live c.args.live c.args.self.now.stage c.requires.live none c.args.self.now.behind in
    let may = may_append rows c.args.live.log.count commit (batch_is commit c.requires.some c.requires.answer.commit_limits c.changes-typed.ensures.typed) c.args.self.now.limits (c.requires.answer.row_limits c.args.self.now.limits) (omega (arith, c.requires.number, waits_bare.0)) in
    let stops = subst (λ (b : List (List Change)). IfSome seen (StopsOneOf c.args.live b tick then (i tick) k)) c.from_ref.ensures.value c.append.ensures.stops in
    let broken = (c.in-Err-Disk.ensures.disk (search rules)).0 in
    let now : Commits → Moment = λ ways. record { book = g.B.Chronicle.entries c.note_fault.new.book; generation = c.args.self.now.generation; inside = c.args.self.now.inside; rows = c.apply-in-Err-Disk.result; live = Some new; skipped = c.args.self.now.skipped; commits = ways; staged = c.args.self.now.stage.commits; files = files_now; images = k; ticks = then; faults = faults } in
    let appends : (ways : Commits) → Appends (over_of told ways c.args.disk.now c.args.self.now) (now ways) c.args.live new commit = λ ways. record {
      generation = refl;
      commits = refl;
      inside = refl;
      read = c.requires.live;
      unbroken = c.requires.unbroken;
      unclosed = c.requires.unclosed;
      unstaged_now = none;
      front = waits_bare.0;
      needs = refl;
      read_now = refl;
      kept = refl;
      closed = refl;
      limit = ap (λ (l : Log). l.limit) broken;
      epoch = ap (λ (l : Log). l.epoch) broken;
      first = refl;
      rows = is;
      time = c.append.ensures.time;
      later = c.append.ensures.cause.later;
      tells = tells_nothing _ seen files_now c.append.ensures.beside;
      through = through_of seen c.args.live rows tick then i k commit rests c.requires.unbroken may stops;
    } in
    let first : BookEntry = Answered pid ran.script ran.reply commit (c.args.live.front + 1) c.args.live.mark in
    let second : BookEntry = Broke pid then faults in
    let one : Added (first ∷ []) told (g.B.Chronicle.entries c.note_answer.new.book) = c.note_answer.ensures.entries in
    let moves = λ (ways : Commits). loses c.history_laws.ensures.past c.history_laws.ensures.present (over_of told ways c.args.disk.now c.args.self.now) (now ways) c.args.live new pid then ran.script ran.reply commit c.requires.some (appends ways)
    (ap (λ (l : Log). l.since) broken) (ap (λ (l : Log). l.count) broken) refl refl c.faults.ensures (c.append.ensures.cause.rose (search rules)) (g.met.D.Disk.counted c.append.new.disk).1
    (attends c.args.pass.now (alone c.args.self.now) c.requires.admits) c.requires.answer.reply_is c.requires.answer.commit_is
    (added_both (first ∷ []) (second ∷ []) told (g.B.Chronicle.entries c.note_answer.new.book) (g.B.Chronicle.entries c.note_fault.new.book) one c.note_fault.ensures.entries) in (
      first ∷ second ∷ [],
      moves,
      (
        c.requires.answer.writes c.requires.some,
        inr (record {
          reply = ran.reply;
          front = c.args.live.front + 1;
          commit = commit;
          answered = first ∷ [];
          broke = second ∷ [];
          answer = record { tick = c.args.live.mark; entries_are = refl };
          fault = (then, faults, refl);
          entries_are = refl;
        }),
      ),
    )

pub returns-in-Err-Disk-clause-admits : goal.returns-in-Err-Disk-clause-admits
returns-in-Err-Disk-clause-admits g c =
    let told = g.B.Chronicle.entries c.args.self.now.book in
    let pid = c.args.pass.now.pid in
    let ran = c.args.ran in
    let mid = g.B.Chronicle.entries c.note_answer.new.book in
    let first : BookEntry = Answered pid ran.script ran.reply ran.commit (c.args.live.front + 1) c.args.live.mark in
    let second : BookEntry = Broke pid (g.D.Disk.ticks c.append.new.disk) (g.D.Disk.faults c.append.new.disk) in
    let new : Live = record { log = c.append.new.self; kept = c.args.live.kept; epoch = c.args.live.epoch; faults = c.faults.result; closed = c.args.live.closed; front = c.args.live.front; needs = c.args.live.needs; mark = c.args.live.mark } in
    record {
      there = c.requires.admits.there;
      generation_is = c.requires.admits.generation_is;
      inside = inside_still pid c.args.pass.now.front second mid (g.B.Chronicle.entries c.note_fault.new.book) (record { present_is = λ es. refl; times = λ n. omega arith }) c.note_fault.ensures.entries
          (inside_still pid c.args.pass.now.front first told mid (record { present_is = λ es. refl; times = λ n. omega arith }) c.note_answer.ensures.entries c.requires.admits.inside);
      staged = staged_still c.args.pass.now.front c.args.self.now.live (Some new) c.args.live new c.requires.live refl (omega arith) c.requires.admits.staged;
    }

pub returns-in-Err-Full-clause-notes : goal.returns-in-Err-Full-clause-notes
returns-in-Err-Full-clause-notes g c =
    let told = g.B.Chronicle.entries c.args.self.now.book in
    let ran = c.args.ran in
    let pid = c.args.pass.now.pid in
    let need = c.in-Err-Full.need in
    let room = c.in-Err-Full.room in
    let entry : BookEntry = LogFull pid ran.script need room in
    let full = c.in-Err-Full.ensures.full need room (search rules) in
    let is : c.cancel.result ≡ c.args.self.now.rows = c.cancel.ensures ∙ ap (λ p. p.before) c.in_ok-prepared.ensures.ok in
    let same = (c.in-Err-Full.ensures.untouched (LogFault.Full need room) (search rules) (λ other. absurd (full_or_disk need room other))).1 in
    let waits_bare = waits_none c.args.self.now.live c.args.live c.args.self.now.stage c.requires.live c.requires.none c.args.self.now.behind in
    let its = waits_at c.args.self.now.live c.args.live c.args.self.now.stage c.requires.live c.args.self.now.behind in
    let needs = full.1 ∙ ap log.need_of c.from_ref.ensures.value ∙ need_is ran.commit c.requires.some in (
      entry ∷ [],
      λ ways. rw (same, is) (finds_full c.history_laws.ensures.past c.history_laws.ensures.present (over_of told ways c.args.disk.now c.args.self.now) c.args.live (g.B.Chronicle.entries c.note_full.new.book) pid need room ran.script ran.commit
          c.requires.live c.requires.unbroken (attends c.args.pass.now (alone c.args.self.now) c.requires.admits) c.requires.answer.commit_is needs full.3 (inr (omega (arith, full.2, waits_bare.1, its.no_longer)))
          c.note_full.ensures.entries),
      rw c.note_full.ensures.full (c.requires.answer.writes c.requires.some, refl),
    )

pub returns-in-Err-Full-clause-admits : goal.returns-in-Err-Full-clause-admits
returns-in-Err-Full-clause-admits g c =
    let told = g.B.Chronicle.entries c.args.self.now.book in
    let entry : BookEntry = LogFull c.args.pass.now.pid c.args.ran.script c.in-Err-Full.need c.in-Err-Full.room in record {
      there = c.requires.admits.there;
      generation_is = c.requires.admits.generation_is;
      inside = inside_still c.args.pass.now.pid c.args.pass.now.front entry told (g.B.Chronicle.entries c.note_full.new.book) (record { present_is = λ es. refl; times = λ n. omega arith }) c.note_full.ensures.entries c.requires.admits.inside;
      staged = c.requires.admits.staged;
    }

pub returns-in-Ok-clause-cause : goal.returns-in-Ok-clause-cause
returns-in-Ok-clause-cause g c = record { its = c.args.live; read = c.requires.live; unbroken = c.requires.unbroken }

pub returns-in-Ok-clause-rest : goal.returns-in-Ok-clause-rest
returns-in-Ok-clause-rest g c = λ none. absurd (c.requires.some (c.requires.answer.commit_is ∙ none))

pub returns-in-Err-Disk-clause-cause : goal.returns-in-Err-Disk-clause-cause
returns-in-Err-Disk-clause-cause g c =
    (record { its = c.args.live; read = c.requires.live; unbroken = c.requires.unbroken }, λ none. c.requires.some (c.requires.answer.commit_is ∙ none), refl)

pub returns-in-Err-Full-clause-cause : goal.returns-in-Err-Full-clause-cause
returns-in-Err-Full-clause-cause g c =
    let ran = c.args.ran in
    let full = c.in-Err-Full.ensures.full c.in-Err-Full.need c.in-Err-Full.room (search rules) in
    let needs : c.in-Err-Full.need ≡ need_of (commit_of c.args.self.now.rows ran.script) =
    full.1 ∙ ap log.need_of c.from_ref.ensures.value ∙ need_is ran.commit c.requires.some ∙ ap need_of c.requires.answer.commit_is in
    let waits_bare = waits_none c.args.self.now.live c.args.live c.args.self.now.stage c.requires.live c.requires.none c.args.self.now.behind in
    rw c.note_full.ensures.full (
      record { its = c.args.live; read = c.requires.live; unbroken = c.requires.unbroken; need_is = needs; room_is = inl (omega (arith, full.2, waits_bare.1)) },
      λ none. c.requires.some (c.requires.answer.commit_is ∙ none),
    )

pub returns-in-Ok-clause-fresh : goal.returns-in-Ok-clause-fresh
returns-in-Ok-clause-fresh g c =
    let waits_bare = waits_none c.args.self.now.live c.args.live c.args.self.now.stage c.requires.live c.requires.none c.args.self.now.behind in
    no_less c.args.pass.now.front c.args.self.now.live c.args.live _ c.requires.live
    (omega (arith, c.answer.ensures.given.1, c.in-Ok.ensures.receipt.0, ap (λ (l : Log). l.count) c.in-Ok.ensures.grown, waits_bare.0)) c.requires.admits.staged
