use Rattle.std.{proofs.{Common.{◌∙◌, ℕ, ◌+◌, Bool, true, false, [], ◌∷◌, Option, Some, refl, sym, ap, subst, arith}, Math.Bool.or-false}, specs.Prelude.cond}
use Rattle.pm_query.specs.{pm_disk.{Disk.TellsStill}, declared.book.BookEntry.{BookEntry, TheVariants.{Broke, CheckpointEnded}}}
use Rattle.pm_log.specs.{Half.{more_of}, declared.log.Log.Log}
use Rattle.pm_store_apart.{specs.{declared.{commits.Commits.Commits, live.Live.Live, piece.Came.Came}, Moment.{Moment, alone, over_of as moment_of}, Pieces.{HasGivenUp, HasSwitchedTo, IsMadeBeside, MadePiece, PieceCame}, Rests.Rests}, proofs.{Lendings.its_log, Making.{came_failed, came_more, came_switched, makes_on, rests_same, rests_still, rests_switched, stays_within, whole_within}, Passing.{attends, inside_still, staged_still}, Remaking.{Laws, LeavesLog, MovesLog, Remakes, RestsStill, anchored_still, breaks, checkpoints, remakes}, Resting.rests_broken, StepsLaws.{notes_by, some_none}, WaitingLaws.waits_at}}
use Rattle.pm_outside.proofs.AddedLaws.{added_none}
use Rattle.pm_store_apart.proofs.apart.Apart.mark_piece.Goals as goal

pub returns-in-More-clause-notes : goal.returns-in-More-clause-notes
returns-in-More-clause-notes g c = λ taken half left wrote.
    let told = g.B.Chronicle.entries c.args.self.now.book in
    let live = c.in-Some.live in
    let w = c.args.self.now.stage in
    let rows = c.args.self.now.rows in
    let log = c.args.batch.log in
    let seen = g.D.Disk.seen taken in
    let files_now = g.D.Disk.seen c.args.disk.now in
    let i = g.D.Disk.images taken in
    let j = g.D.Disk.images c.args.disk.now in
    let from = g.D.Disk.ticks taken in
    let to = g.D.Disk.ticks c.args.disk.now in
    let its = waits_at c.args.self.now.live live w c.in-Some.is c.args.self.now.behind in
    let same = its_log c.args.self.now.live live log c.in-Some.is c.requires.under.log in
    let piece : MadePiece g.D.Disk taken c.args.disk.now live.log half c.args.came left = subst (λ (l : Log). MadePiece g.D.Disk taken c.args.disk.now l half c.args.came left) (sym same) wrote in
    let laws : Laws = record { past = c.history_laws.ensures.past; present = c.history_laws.ensures.present; within = c.rows_are_within_needs.ensures.numbers } in
    let new : Live = live in
    let before : Commits → Moment = λ ways. moment_of told ways taken c.args.self.now in
    let now : Commits → Moment = λ ways. record {
      book = told;
      generation = c.args.self.now.generation;
      inside = c.args.self.now.inside;
      rows = rows;
      live = c.args.self.now.live;
      skipped = c.args.self.now.skipped;
      commits = ways;
      staged = w.commits;
      files = files_now;
      images = j;
      ticks = to;
      faults = g.D.Disk.faults c.args.disk.now;
    } in
    let call : (ways : Commits) → Remakes (before ways) (now ways) live new (live.log.end + 1) = λ ways. record {
      generation = refl;
      commits = refl;
      inside = refl;
      read = c.in-Some.is;
      unbroken = piece.unbroken;
      fronts = omega (arith, its.front, its.flushed);
      staged = refl;
      front = refl;
      needs = refl;
      read_now = c.in-Some.is;
      kept = refl;
      limit = refl;
      first = refl;
      count = refl;
      rows = refl;
      time = piece.time;
      later = piece.later;
      tells = piece.tells;
      through = stays_within seen live half rows w.commits from to i j piece.made piece.unbroken piece.stops;
    } in
    let lives : TellsStill (RestsStill live live rows w.commits (i from) (j to)) seen files_now =
    came_more g.D.Disk taken c.args.disk.now live.log half (λ left. TellsStill (RestsStill live live rows w.commits (i from) (j to)) seen files_now) left
    (subst (λ (m : Came). PieceCame g.D.Disk taken c.args.disk.now live.log half m left) c.in-More.is piece.came) (λ more gone. rests_same seen files_now live live rows w.commits (i from) (j to) refl gone.lives) in
    let leaves : LeavesLog live new = record { whole = piece.unbroken; closed = refl; epoch = refl; end = refl; mark = refl } in
    ([], λ ways. remakes laws (before ways) (now ways) live new (call ways) leaves lives (added_none told), refl)

pub returns-in-More-clause-rests : goal.returns-in-More-clause-rests
returns-in-More-clause-rests g c = λ taken half left rests wrote.
    let told = g.B.Chronicle.entries c.args.self.now.book in
    let live = c.in-Some.live in
    let w = c.args.self.now.stage in
    let rows = c.args.self.now.rows in
    let log = c.args.batch.log in
    let seen = g.D.Disk.seen taken in
    let files_now = g.D.Disk.seen c.args.disk.now in
    let i = g.D.Disk.images taken in
    let j = g.D.Disk.images c.args.disk.now in
    let from = g.D.Disk.ticks taken in
    let to = g.D.Disk.ticks c.args.disk.now in
    let its = waits_at c.args.self.now.live live w c.in-Some.is c.args.self.now.behind in
    let same = its_log c.args.self.now.live live log c.in-Some.is c.requires.under.log in
    let piece : MadePiece g.D.Disk taken c.args.disk.now live.log half c.args.came left = subst (λ (l : Log). MadePiece g.D.Disk taken c.args.disk.now l half c.args.came left) (sym same) wrote in
    let lives : TellsStill (RestsStill live live rows w.commits (i from) (j to)) seen files_now =
    came_more g.D.Disk taken c.args.disk.now live.log half (λ left. TellsStill (RestsStill live live rows w.commits (i from) (j to)) seen files_now) left
    (subst (λ (m : Came). PieceCame g.D.Disk taken c.args.disk.now live.log half m left) c.in-More.is piece.came) (λ more gone. rests_same seen files_now live live rows w.commits (i from) (j to) refl gone.lives) in
    let there : ∥ Rests (Some live) rows w.commits seen (i from) ∥₁ = subst (λ (l : Option Live). ∥ Rests l rows w.commits seen (i from) ∥₁) c.in-Some.is rests in (
      subst (λ (l : Option Live). ∥ Rests l rows w.commits files_now (j to) ∥₁) (sym c.in-Some.is) (rests_still seen files_now live live rows w.commits (i from) (j to) piece.unbroken lives there),
      came_more g.D.Disk taken c.args.disk.now live.log half (λ left. IsMadeBeside c.args.self.now.live left files_now) left (subst (λ (m : Came). PieceCame g.D.Disk taken c.args.disk.now live.log half m left) c.in-More.is piece.came)
          (λ more gone. subst (λ (l : Option Live). IsMadeBeside l (Some more) files_now) (sym c.in-Some.is) (makes_on g.D.Disk taken c.args.disk.now live half more rows w.commits piece.made gone there)),
    )

pub invariant_of-self-in-Switched : goal.invariant_of-self-in-Switched
invariant_of-self-in-Switched g c =
    let taken = c.requires.made.0 in
    let half = c.requires.made.1 in
    let left = c.requires.made.2 in
    let wrote = c.requires.made.3 in
    let told = g.B.Chronicle.entries c.args.self.now.book in
    let live = c.in-Some.live in
    let w = c.args.self.now.stage in
    let rows = c.args.self.now.rows in
    let log = c.args.batch.log in
    let seen = g.D.Disk.seen taken in
    let files_now = g.D.Disk.seen c.args.disk.now in
    let i = g.D.Disk.images taken in
    let j = g.D.Disk.images c.args.disk.now in
    let from = g.D.Disk.ticks taken in
    let to = g.D.Disk.ticks c.args.disk.now in
    let its = waits_at c.args.self.now.live live w c.in-Some.is c.args.self.now.behind in
    let same = its_log c.args.self.now.live live log c.in-Some.is c.requires.under.log in
    let piece : MadePiece g.D.Disk taken c.args.disk.now live.log half c.args.came left = subst (λ (l : Log). MadePiece g.D.Disk taken c.args.disk.now l half c.args.came left) (sym same) wrote in
    let new : Live = record { log = c.in-Switched.log; kept = live.kept; epoch = live.epoch; faults = live.faults; closed = live.closed; front = live.front; needs = live.needs; mark = c.in-Switched.tick } in
    let changed : HasSwitchedTo g.D.Disk taken c.args.disk.now live.log half c.in-Switched.log c.in-Switched.tick =
    came_switched g.D.Disk taken c.args.disk.now live.log half (λ left. HasSwitchedTo g.D.Disk taken c.args.disk.now live.log half c.in-Switched.log c.in-Switched.tick) left c.in-Switched.log c.in-Switched.tick
    (subst (λ (m : Came). PieceCame g.D.Disk taken c.args.disk.now live.log half m left) c.in-Switched.is piece.came) (λ is. is) in
    let short = whole_within live.log half piece.made.under_way piece.made.no_longer in
    record {
      begun = c.args.self.now.begun;
      short = c.args.self.now.short;
      limits = c.args.self.now.limits;
      behind = ∣ record {
        flushed = its.flushed ∙ sym (ap (λ (l : Log). l.count) changed.moved);
        front = its.front;
        needs = its.needs;
        room = λ open_log. omega (arith, its.room piece.unbroken, its.no_longer, ap (λ (l : Log). l.limit) changed.moved, ap (λ (l : Log). l.end) changed.moved, ap (λ (l : Log). more_of l.making) changed.moved, short);
        no_longer = ap (λ (l : Log). more_of l.making) changed.moved;
      } ∣₁;
      ticks = c.args.self.now.ticks;
      room = omega (arith, c.args.self.now.room, c.note.ensures.room, ap {B = ℕ} (λ (b : Bool). cond b 1 0) c.requires.under.out);
    }

pub returns-in-Switched-clause-notes : goal.returns-in-Switched-clause-notes
returns-in-Switched-clause-notes g c = λ taken half left wrote.
    let told = g.B.Chronicle.entries c.args.self.now.book in
    let live = c.in-Some.live in
    let w = c.args.self.now.stage in
    let rows = c.args.self.now.rows in
    let log = c.args.batch.log in
    let seen = g.D.Disk.seen taken in
    let files_now = g.D.Disk.seen c.args.disk.now in
    let i = g.D.Disk.images taken in
    let j = g.D.Disk.images c.args.disk.now in
    let from = g.D.Disk.ticks taken in
    let to = g.D.Disk.ticks c.args.disk.now in
    let its = waits_at c.args.self.now.live live w c.in-Some.is c.args.self.now.behind in
    let same = its_log c.args.self.now.live live log c.in-Some.is c.requires.under.log in
    let piece : MadePiece g.D.Disk taken c.args.disk.now live.log half c.args.came left = subst (λ (l : Log). MadePiece g.D.Disk taken c.args.disk.now l half c.args.came left) (sym same) wrote in
    let laws : Laws = record { past = c.history_laws.ensures.past; present = c.history_laws.ensures.present; within = c.rows_are_within_needs.ensures.numbers } in
    let new : Live = record { log = c.in-Switched.log; kept = live.kept; epoch = live.epoch; faults = live.faults; closed = live.closed; front = live.front; needs = live.needs; mark = c.in-Switched.tick } in
    let changed : HasSwitchedTo g.D.Disk taken c.args.disk.now live.log half c.in-Switched.log c.in-Switched.tick =
    came_switched g.D.Disk taken c.args.disk.now live.log half (λ left. HasSwitchedTo g.D.Disk taken c.args.disk.now live.log half c.in-Switched.log c.in-Switched.tick) left c.in-Switched.log c.in-Switched.tick
    (subst (λ (m : Came). PieceCame g.D.Disk taken c.args.disk.now live.log half m left) c.in-Switched.is piece.came) (λ is. is) in
    let short = whole_within live.log half piece.made.under_way piece.made.no_longer in
    let still : TellsStill (RestsStill live new rows w.commits (i from) (j to)) seen files_now = rests_switched seen files_now live new half rows w.commits (i from) (j to) refl piece.unbroken piece.made changed.lives in
    let before : Commits → Moment = λ ways. moment_of told ways taken c.args.self.now in
    let now : Commits → Moment = λ ways. record {
      book = g.B.Chronicle.entries c.note.new.self;
      generation = c.args.self.now.generation;
      inside = c.args.self.now.inside;
      rows = rows;
      live = Some new;
      skipped = c.args.self.now.skipped;
      commits = ways;
      staged = w.commits;
      files = files_now;
      images = j;
      ticks = to;
      faults = g.D.Disk.faults c.args.disk.now;
    } in
    let call : (ways : Commits) → Remakes (before ways) (now ways) live new (live.log.end + 1) = λ ways. record {
      generation = refl;
      commits = refl;
      inside = refl;
      read = c.in-Some.is;
      unbroken = piece.unbroken;
      fronts = omega (arith, its.front, its.flushed);
      staged = refl;
      front = refl;
      needs = refl;
      read_now = refl;
      kept = refl;
      limit = ap (λ (l : Log). l.limit) changed.moved;
      first = refl;
      count = ap (λ (l : Log). l.count) changed.moved;
      rows = refl;
      time = piece.time;
      later = piece.later;
      tells = piece.tells;
      through = stays_within seen live half rows w.commits from to i j piece.made piece.unbroken piece.stops;
    } in
    let unbroken_now = ap (λ (l : Log). l.since) changed.moved ∙ piece.unbroken in
    let entry : BookEntry = CheckpointEnded c.args.pass.now.pid true false in
    let moves : (ways : Commits) → MovesLog (before ways) (now ways) live new (live.log.end + 1) false = λ ways. record {
      whole = unbroken_now;
      closed = sym (or-false live.closed);
      next = ap (λ (l : Log). l.epoch) changed.moved ∙ piece.made.next;
      mark = changed.tick_is;
      fits = λ base book is.
          let fit = is.fits piece.unbroken in
          (omega (arith, fit), omega (arith, fit, short, ap (λ (l : Log). l.end) changed.moved));
      anchored = λ origin base book files is gone held. anchored_still (before ways) (now ways) live new (live.log.end + 1) (call ways) origin base book files is unbroken_now still held;
    } in (
      entry ∷ [],
      λ ways. checkpoints laws (before ways) (now ways) live new (live.log.end + 1) c.args.pass.now.pid false (call ways) (moves ways) (attends c.args.pass.now (alone c.args.self.now) c.requires.admits)
          (notes_by entry told told _ refl c.note.ensures.entries),
      refl,
    )

pub returns-in-Switched-clause-rests : goal.returns-in-Switched-clause-rests
returns-in-Switched-clause-rests g c = λ taken half left rests wrote.
    let told = g.B.Chronicle.entries c.args.self.now.book in
    let live = c.in-Some.live in
    let w = c.args.self.now.stage in
    let rows = c.args.self.now.rows in
    let log = c.args.batch.log in
    let seen = g.D.Disk.seen taken in
    let files_now = g.D.Disk.seen c.args.disk.now in
    let i = g.D.Disk.images taken in
    let j = g.D.Disk.images c.args.disk.now in
    let from = g.D.Disk.ticks taken in
    let to = g.D.Disk.ticks c.args.disk.now in
    let its = waits_at c.args.self.now.live live w c.in-Some.is c.args.self.now.behind in
    let same = its_log c.args.self.now.live live log c.in-Some.is c.requires.under.log in
    let piece : MadePiece g.D.Disk taken c.args.disk.now live.log half c.args.came left = subst (λ (l : Log). MadePiece g.D.Disk taken c.args.disk.now l half c.args.came left) (sym same) wrote in
    let new : Live = record { log = c.in-Switched.log; kept = live.kept; epoch = live.epoch; faults = live.faults; closed = live.closed; front = live.front; needs = live.needs; mark = c.in-Switched.tick } in
    let changed : HasSwitchedTo g.D.Disk taken c.args.disk.now live.log half c.in-Switched.log c.in-Switched.tick =
    came_switched g.D.Disk taken c.args.disk.now live.log half (λ left. HasSwitchedTo g.D.Disk taken c.args.disk.now live.log half c.in-Switched.log c.in-Switched.tick) left c.in-Switched.log c.in-Switched.tick
    (subst (λ (m : Came). PieceCame g.D.Disk taken c.args.disk.now live.log half m left) c.in-Switched.is piece.came) (λ is. is) in
    let short = whole_within live.log half piece.made.under_way piece.made.no_longer in
    let still : TellsStill (RestsStill live new rows w.commits (i from) (j to)) seen files_now = rests_switched seen files_now live new half rows w.commits (i from) (j to) refl piece.unbroken piece.made changed.lives in (
      rests_still seen files_now live new rows w.commits (i from) (j to) piece.unbroken still (subst (λ (l : Option Live). ∥ Rests l rows w.commits seen (i from) ∥₁) c.in-Some.is rests),
      came_switched g.D.Disk taken c.args.disk.now live.log half (λ left. IsMadeBeside (Some new) left files_now) left c.in-Switched.log c.in-Switched.tick
          (subst (λ (m : Came). PieceCame g.D.Disk taken c.args.disk.now live.log half m left) c.in-Switched.is piece.came) (λ is. tt),
    )

pub returns-in-Switched-clause-admits : goal.returns-in-Switched-clause-admits
returns-in-Switched-clause-admits g c =
    let told = g.B.Chronicle.entries c.args.self.now.book in
    let entry : BookEntry = CheckpointEnded c.args.pass.now.pid true false in record {
      there = c.requires.admits.there;
      generation_is = c.requires.admits.generation_is;
      inside = inside_still c.args.pass.now.pid c.args.pass.now.front entry told (g.B.Chronicle.entries c.note.new.self) (record { present_is = λ es. refl; times = λ n. omega arith })
          (notes_by entry told told _ refl c.note.ensures.entries) c.requires.admits.inside;
      staged = staged_still c.args.pass.now.front c.args.self.now.live _ c.in-Some.live _ c.in-Some.is refl (omega arith) c.requires.admits.staged;
    }

pub invariant_of-self-in-Failed : goal.invariant_of-self-in-Failed
invariant_of-self-in-Failed g c =
    let taken = c.requires.made.0 in
    let half = c.requires.made.1 in
    let left = c.requires.made.2 in
    let wrote = c.requires.made.3 in
    let told = g.B.Chronicle.entries c.args.self.now.book in
    let live = c.in-Some.live in
    let w = c.args.self.now.stage in
    let rows = c.args.self.now.rows in
    let log = c.args.batch.log in
    let seen = g.D.Disk.seen taken in
    let files_now = g.D.Disk.seen c.args.disk.now in
    let i = g.D.Disk.images taken in
    let j = g.D.Disk.images c.args.disk.now in
    let from = g.D.Disk.ticks taken in
    let to = g.D.Disk.ticks c.args.disk.now in
    let its = waits_at c.args.self.now.live live w c.in-Some.is c.args.self.now.behind in
    let same = its_log c.args.self.now.live live log c.in-Some.is c.requires.under.log in
    let piece : MadePiece g.D.Disk taken c.args.disk.now live.log half c.args.came left = subst (λ (l : Log). MadePiece g.D.Disk taken c.args.disk.now l half c.args.came left) (sym same) wrote in
    let new : Live = record { log = c.in-Failed.log; kept = live.kept; epoch = live.epoch; faults = c.faults.result; closed = live.closed; front = live.front; needs = live.needs; mark = live.mark } in
    let given : HasGivenUp g.D.Disk taken c.args.disk.now live.log half c.in-Failed.log =
    came_failed g.D.Disk taken c.args.disk.now live.log half (λ left. HasGivenUp g.D.Disk taken c.args.disk.now live.log half c.in-Failed.log) left c.in-Failed.log
    (subst (λ (m : Came). PieceCame g.D.Disk taken c.args.disk.now live.log half m left) c.in-Failed.is piece.came) (λ is. is) in
    let broke = ap (λ (l : Log). l.since) given.broke in
    record {
      begun = c.args.self.now.begun;
      short = c.args.self.now.short;
      limits = c.args.self.now.limits;
      behind = ∣ record {
        flushed = its.flushed ∙ sym (ap (λ (l : Log). l.count) given.broke);
        front = its.front;
        needs = its.needs;
        room = λ open_log. absurd (some_none to (sym broke ∙ open_log));
        no_longer = ap (λ (l : Log). more_of l.making) given.broke;
      } ∣₁;
      ticks = c.args.self.now.ticks;
      room = omega (arith, c.args.self.now.room, c.note_fault.ensures.room, ap {B = ℕ} (λ (b : Bool). cond b 1 0) c.requires.under.out);
    }

pub returns-clause-notes : goal.returns-clause-notes
returns-clause-notes g c = λ taken half left wrote.
    let told = g.B.Chronicle.entries c.args.self.now.book in
    let live = c.in-Some.live in
    let w = c.args.self.now.stage in
    let rows = c.args.self.now.rows in
    let log = c.args.batch.log in
    let seen = g.D.Disk.seen taken in
    let files_now = g.D.Disk.seen c.args.disk.now in
    let i = g.D.Disk.images taken in
    let j = g.D.Disk.images c.args.disk.now in
    let from = g.D.Disk.ticks taken in
    let to = g.D.Disk.ticks c.args.disk.now in
    let its = waits_at c.args.self.now.live live w c.in-Some.is c.args.self.now.behind in
    let same = its_log c.args.self.now.live live log c.in-Some.is c.requires.under.log in
    let piece : MadePiece g.D.Disk taken c.args.disk.now live.log half c.args.came left = subst (λ (l : Log). MadePiece g.D.Disk taken c.args.disk.now l half c.args.came left) (sym same) wrote in
    let laws : Laws = record { past = c.history_laws.ensures.past; present = c.history_laws.ensures.present; within = c.rows_are_within_needs.ensures.numbers } in
    let new : Live = record { log = c.in-Failed.log; kept = live.kept; epoch = live.epoch; faults = c.faults.result; closed = live.closed; front = live.front; needs = live.needs; mark = live.mark } in
    let given : HasGivenUp g.D.Disk taken c.args.disk.now live.log half c.in-Failed.log =
    came_failed g.D.Disk taken c.args.disk.now live.log half (λ left. HasGivenUp g.D.Disk taken c.args.disk.now live.log half c.in-Failed.log) left c.in-Failed.log
    (subst (λ (m : Came). PieceCame g.D.Disk taken c.args.disk.now live.log half m left) c.in-Failed.is piece.came) (λ is. is) in
    let before : Commits → Moment = λ ways. moment_of told ways taken c.args.self.now in
    let now : Commits → Moment = λ ways. record {
      book = g.B.Chronicle.entries c.note_fault.new.book;
      generation = c.args.self.now.generation;
      inside = c.args.self.now.inside;
      rows = rows;
      live = Some new;
      skipped = c.args.self.now.skipped;
      commits = ways;
      staged = w.commits;
      files = files_now;
      images = j;
      ticks = to;
      faults = g.D.Disk.faults c.args.disk.now;
    } in
    let call : (ways : Commits) → Remakes (before ways) (now ways) live new (live.log.end + 1) = λ ways. record {
      generation = refl;
      commits = refl;
      inside = refl;
      read = c.in-Some.is;
      unbroken = piece.unbroken;
      fronts = omega (arith, its.front, its.flushed);
      staged = refl;
      front = refl;
      needs = refl;
      read_now = refl;
      kept = refl;
      limit = ap (λ (l : Log). l.limit) given.broke;
      first = refl;
      count = ap (λ (l : Log). l.count) given.broke;
      rows = refl;
      time = piece.time;
      later = piece.later;
      tells = piece.tells;
      through = stays_within seen live half rows w.commits from to i j piece.made piece.unbroken piece.stops;
    } in
    let faults = g.D.Disk.faults c.args.disk.now in
    let entry : BookEntry = Broke c.args.pass.now.pid to faults in (
      entry ∷ [],
      λ ways. breaks laws (before ways) (now ways) live new (live.log.end + 1) c.args.pass.now.pid to (call ways)
          (record { broke = ap (λ (l : Log). l.since) given.broke; closed = refl; mark = refl; fault = c.faults.ensures; rose = given.rose; small = (g.met.D.Disk.counted c.args.disk.now).1 })
          (λ base book is. omega (arith, is.fits piece.unbroken)) (attends c.args.pass.now (alone c.args.self.now) c.requires.admits) c.note_fault.ensures.entries,
      (to, faults, refl),
    )

pub returns-clause-rests : goal.returns-clause-rests
returns-clause-rests g c = λ taken half left rests wrote.
    let told = g.B.Chronicle.entries c.args.self.now.book in
    let live = c.in-Some.live in
    let w = c.args.self.now.stage in
    let rows = c.args.self.now.rows in
    let log = c.args.batch.log in
    let seen = g.D.Disk.seen taken in
    let files_now = g.D.Disk.seen c.args.disk.now in
    let i = g.D.Disk.images taken in
    let j = g.D.Disk.images c.args.disk.now in
    let from = g.D.Disk.ticks taken in
    let to = g.D.Disk.ticks c.args.disk.now in
    let its = waits_at c.args.self.now.live live w c.in-Some.is c.args.self.now.behind in
    let same = its_log c.args.self.now.live live log c.in-Some.is c.requires.under.log in
    let piece : MadePiece g.D.Disk taken c.args.disk.now live.log half c.args.came left = subst (λ (l : Log). MadePiece g.D.Disk taken c.args.disk.now l half c.args.came left) (sym same) wrote in
    let new : Live = record { log = c.in-Failed.log; kept = live.kept; epoch = live.epoch; faults = c.faults.result; closed = live.closed; front = live.front; needs = live.needs; mark = live.mark } in
    let given : HasGivenUp g.D.Disk taken c.args.disk.now live.log half c.in-Failed.log =
    came_failed g.D.Disk taken c.args.disk.now live.log half (λ left. HasGivenUp g.D.Disk taken c.args.disk.now live.log half c.in-Failed.log) left c.in-Failed.log
    (subst (λ (m : Came). PieceCame g.D.Disk taken c.args.disk.now live.log half m left) c.in-Failed.is piece.came) (λ is. is) in (
      rests_broken new rows w.commits files_now (j to) to (ap (λ (l : Log). l.since) given.broke),
      came_failed g.D.Disk taken c.args.disk.now live.log half (λ left. IsMadeBeside (Some new) left files_now) left c.in-Failed.log
          (subst (λ (m : Came). PieceCame g.D.Disk taken c.args.disk.now live.log half m left) c.in-Failed.is piece.came) (λ is. tt),
    )

pub returns-clause-admits : goal.returns-clause-admits
returns-clause-admits g c =
    let told = g.B.Chronicle.entries c.args.self.now.book in
    let entry : BookEntry = Broke c.args.pass.now.pid (g.D.Disk.ticks c.args.disk.now) (g.D.Disk.faults c.args.disk.now) in record {
      there = c.requires.admits.there;
      generation_is = c.requires.admits.generation_is;
      inside = inside_still c.args.pass.now.pid c.args.pass.now.front entry told (g.B.Chronicle.entries c.note_fault.new.book) (record { present_is = λ es. refl; times = λ n. omega arith })
          c.note_fault.ensures.entries c.requires.admits.inside;
      staged = staged_still c.args.pass.now.front c.args.self.now.live _ c.in-Some.live _ c.in-Some.is refl (omega arith) c.requires.admits.staged;
    }
