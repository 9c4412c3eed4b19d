use Rattle.std.{proofs.Common.{◌≡◌, ◌∙◌, Bool, ℕ, ◌+◌, ◌-◌, ◌*◌, List, [], ◌∷◌, ◌++◌, Option, Some, None, refl, sym, ap, subst, arith, length, take, drop}, proofs.lemmas.List.{length-drop, length-take}, specs.Prelude.{IfSome, cond}}
use Rattle.pm_query.specs.{pm_disk.Disk.TellsStill, pm_rows.{declared.commit.Change.Change, Batch.IsBatch, Limits.max_commits}, declared.book.BookEntry.{BookEntry, TheVariants.Broke}}
use Rattle.pm_log.specs.{Half.more_of, Making.IsUnderWay, declared.log.Log.Log}
use Rattle.pm_stage.specs.Stage.{Waiting, flushed_to}
use Rattle.pm_store_apart.{specs.{declared.{commits.Commits.Commits, live.Live.Live}, Lending.{CameTo, HasFailed, IsDurable, LivesAt, MakesWith, StopsAt}, Moment.{Moment, alone, over_of}, MovesLaws.moves_none, Rests.Rests, Waits.needs_alone}, proofs.{Making.{beside_on, made_broken, made_written}, Lendings.{is_less, is_oldest, left_of, unread_none}, Passing.{attends, inside_still, staged_still}, Resting.{LivesWith, StopsOneOf, rests_broken}, Staging.{Writes, flush_fails, flushes, rests_written}, StepsLaws.some_none, WaitingLaws.{need_some, needs_parts}}}
use Rattle.pm_outside.proofs.AddedLaws.{added_none}
use Rattle.pm_store_apart.specs.declared.batch.Written.TheVariants as written
use Rattle.pm_store_apart.proofs.apart.Apart.mark.Goals as goal

pub unreachable-requires : goal.unreachable-requires
unreachable-requires g c = unread_none c.args.self.now.live c.args.batch.log c.in_default.is c.requires.under.log

pub returns-in-Durable-clause-notes : goal.returns-in-Durable-clause-notes
returns-in-Durable-clause-notes g c = λ taken rests wrote.
    let told = g.B.Chronicle.entries c.args.self.now.book in
    let live = c.in-Some.live in
    let batch = c.args.batch in
    let its = c.in-Durable.log in
    let w = c.args.self.now.stage in
    let k = length batch.commits.items in
    let seen = g.D.Disk.seen taken in
    let files_now = g.D.Disk.seen c.args.disk.now in
    let i = g.D.Disk.images taken in
    let j = g.D.Disk.images c.args.disk.now in
    let from = g.D.Disk.ticks taken in
    let to = g.D.Disk.ticks c.args.disk.now in
    let old = is_oldest c.args.self.now batch live c.in-Some.is c.requires.under in
    let done : IsDurable g.D.Disk taken c.args.disk.now batch its c.in-Durable.tick = subst (CameTo g.D.Disk taken c.args.disk.now batch) c.in-Durable.is wrote.came in
    let gates = 9 * (c.len.result - 1) in
    let is = is_less w live batch its gates old wrote.is_batch done.grown (omega (arith, c.len.ensures)) in
    let new : Live = record { log = its; kept = live.kept; epoch = live.epoch; faults = live.faults; closed = live.closed; front = live.front; needs = live.needs - (its.end - live.log.end + gates); mark = c.in-Durable.tick } in
    let whole : its.since ≡ None = ap (λ (l : Log). l.since) done.grown ∙ wrote.unbroken in
    let unbroken : live.log.since ≡ None = ap (λ (l : Log). l.since) old.same ∙ wrote.unbroken in
    let staged : c.flushed.new.self ≡ flushed_to (w.flushed + k) w = c.flushed.ensures ∙ ap (λ (n : ℕ). flushed_to n w) is.upto in
    let gone : w.flushed + k - w.flushed ≡ k = omega arith in
    let left : c.flushed.new.self.commits ≡ drop k w.commits = ap (λ (x : Waiting). x.commits) staged ∙ ap (λ (n : ℕ). drop n w.commits) gone in
    let lives : TellsStill (LivesWith live new (take k w.commits) (i from) (j to)) seen files_now =
    subst (λ (b : List (List Change)). TellsStill (LivesAt live.log its b (i from) (j to)) seen files_now) (sym old.oldest)
    (subst (λ (l : Log). TellsStill (LivesAt l its batch.commits.items (i from) (j to)) seen files_now) (sym old.same) done.lives) in
    let stops : IfSome seen (StopsOneOf live (take k w.commits) from to (i from) j) =
    subst (λ (b : List (List Change)). IfSome seen (StopsAt live.log b from to (i from) j)) (sym old.oldest)
    (subst (λ (l : Log). IfSome seen (StopsAt l batch.commits.items from to (i from) j)) (sym old.same) wrote.stops) in
    let now : Commits → Moment = λ ways. record {
      book = told;
      generation = c.args.self.now.generation;
      inside = c.args.self.now.inside;
      rows = c.args.self.now.rows;
      live = Some new;
      skipped = c.args.self.now.skipped;
      commits = ways;
      staged = c.flushed.new.self.commits;
      files = files_now;
      images = j;
      ticks = to;
      faults = g.D.Disk.faults c.args.disk.now;
    } in
    let writes : (ways : Commits) → Writes (over_of told ways taken c.args.self.now) (now ways) live new k = λ ways. record {
      generation = refl;
      commits = refl;
      inside = refl;
      read = c.in-Some.is;
      unbroken = unbroken;
      few = old.few;
      batch = subst IsBatch (sym old.oldest) wrote.is_batch;
      small = omega (arith, old.waits.flushed, c.batch-oldest.ensures.number);
      fronts = omega (arith, old.waits.front, old.waits.flushed);
      needs_are = old.waits.needs;
      read_now = refl;
      kept = refl;
      closed = refl;
      limit = ap (λ (l : Log). l.limit) done.grown ∙ sym (ap (λ (l : Log). l.limit) old.same);
      epoch = ap (λ (l : Log). l.epoch) done.grown ∙ sym (ap (λ (l : Log). l.epoch) old.same);
      first = refl;
      front = refl;
      rows = refl;
      time = wrote.time;
      later = wrote.later;
      tells = wrote.tells;
      stops = stops;
    } in (
      [],
      λ ways. flushes c.history_laws.ensures.past c.history_laws.ensures.present (over_of told ways taken c.args.self.now) (now ways) live new k (writes ways) whole is.count is.end is.less done.tick_is left lives (added_none told),
      refl,
    )

pub returns-in-Durable-clause-rests : goal.returns-in-Durable-clause-rests
returns-in-Durable-clause-rests g c = λ taken rests wrote.
    let live = c.in-Some.live in
    let batch = c.args.batch in
    let its = c.in-Durable.log in
    let w = c.args.self.now.stage in
    let k = length batch.commits.items in
    let seen = g.D.Disk.seen taken in
    let files_now = g.D.Disk.seen c.args.disk.now in
    let from = g.D.Disk.images taken (g.D.Disk.ticks taken) in
    let to = g.D.Disk.images c.args.disk.now (g.D.Disk.ticks c.args.disk.now) in
    let old = is_oldest c.args.self.now batch live c.in-Some.is c.requires.under in
    let done : IsDurable g.D.Disk taken c.args.disk.now batch its c.in-Durable.tick = subst (CameTo g.D.Disk taken c.args.disk.now batch) c.in-Durable.is wrote.came in
    let gates = 9 * (c.len.result - 1) in
    let is = is_less w live batch its gates old wrote.is_batch done.grown (omega (arith, c.len.ensures)) in
    let new : Live = record { log = its; kept = live.kept; epoch = live.epoch; faults = live.faults; closed = live.closed; front = live.front; needs = live.needs - (its.end - live.log.end + gates); mark = c.in-Durable.tick } in
    let staged : c.flushed.new.self ≡ flushed_to (w.flushed + k) w = c.flushed.ensures ∙ ap (λ (n : ℕ). flushed_to n w) is.upto in
    let gone : w.flushed + k - w.flushed ≡ k = omega arith in
    let left : c.flushed.new.self.commits ≡ drop k w.commits = ap (λ (x : Waiting). x.commits) staged ∙ ap (λ (n : ℕ). drop n w.commits) gone in
    let lives : TellsStill (LivesWith live new (take k w.commits) from to) seen files_now =
    subst (λ (b : List (List Change)). TellsStill (LivesAt live.log its b from to) seen files_now) (sym old.oldest)
    (subst (λ (l : Log). TellsStill (LivesAt l its batch.commits.items from to) seen files_now) (sym old.same) done.lives) in
    subst (λ (s : List (List Change)). ∥ Rests (Some new) c.args.self.now.rows s files_now to ∥₁) (sym left)
    (rests_written live new c.args.self.now.rows w.commits k seen files_now from to old.few (subst IsBatch (sym old.oldest) wrote.is_batch) (omega (arith, old.waits.flushed, c.batch-oldest.ensures.number)) refl
    (ap (λ (l : Log). l.since) old.same ∙ wrote.unbroken) lives (subst (λ (l : Option Live). ∥ Rests l c.args.self.now.rows w.commits seen from ∥₁) c.in-Some.is rests))

pub returns-in-Durable-clause-admits : goal.returns-in-Durable-clause-admits
returns-in-Durable-clause-admits g c = record {
  there = c.requires.admits.there;
  generation_is = c.requires.admits.generation_is;
  inside = c.requires.admits.inside;
  staged = staged_still c.args.pass.now.front c.args.self.now.live _ c.in-Some.live _ c.in-Some.is refl (omega arith) c.requires.admits.staged;
}

pub returns-in-Durable-clause-marks : goal.returns-in-Durable-clause-marks
returns-in-Durable-clause-marks g c =
    let wrote = c.requires.wrote.1 in
    let batch = c.args.batch in
    let w = c.args.self.now.stage in
    let k = length batch.commits.items in
    let old = is_oldest c.args.self.now batch c.in-Some.live c.in-Some.is c.requires.under in
    let done : IsDurable g.D.Disk c.requires.wrote.0 c.args.disk.now batch c.in-Durable.log c.in-Durable.tick = subst (CameTo g.D.Disk c.requires.wrote.0 c.args.disk.now batch) c.in-Durable.is wrote.came in
    let is = is_less w c.in-Some.live batch c.in-Durable.log _ old wrote.is_batch done.grown refl in
    let staged : c.flushed.new.self ≡ flushed_to (w.flushed + k) w = c.flushed.ensures ∙ ap (λ (n : ℕ). flushed_to n w) is.upto in
    let gone : w.flushed + k - w.flushed ≡ k = omega arith in
    let left : c.flushed.new.self.commits ≡ drop k w.commits = ap (λ (x : Waiting). x.commits) staged ∙ ap (λ (n : ℕ). drop n w.commits) gone in
    record {
      tick = c.in-Durable.tick;
      durable = c.in-Durable.is ∙ ap (λ (l : Log). written.Durable l c.in-Durable.tick) done.grown;
      new = _;
      read = refl;
      log = done.grown;
      flushed_is = refl;
      staged = c.requires.under.staged ∙ sym (ap (λ (l : List (List Change)). batch.commits.items ++ l) (left ∙ left_of batch.commits.items c.requires.under.rest w.commits c.requires.under.staged));
      rows = refl;
    }

pub invariant_of-self : goal.invariant_of-self
invariant_of-self g c =
    let wrote = c.requires.wrote.1 in
    let live = c.in-Some.live in
    let batch = c.args.batch in
    let w = c.args.self.now.stage in
    let k = length batch.commits.items in
    let old = is_oldest c.args.self.now batch live c.in-Some.is c.requires.under in
    let done : IsDurable g.D.Disk c.requires.wrote.0 c.args.disk.now batch c.in-Durable.log c.in-Durable.tick = subst (CameTo g.D.Disk c.requires.wrote.0 c.args.disk.now batch) c.in-Durable.is wrote.came in
    let gates = 9 * (c.len.result - 1) in
    let is = is_less w live batch c.in-Durable.log gates old wrote.is_batch done.grown (omega (arith, c.len.ensures)) in
    let staged : c.flushed.new.self ≡ flushed_to (w.flushed + k) w = c.flushed.ensures ∙ ap (λ (n : ℕ). flushed_to n w) is.upto in
    let gone : w.flushed + k - w.flushed ≡ k = omega arith in
    let left : c.flushed.new.self.commits ≡ drop k w.commits = ap (λ (x : Waiting). x.commits) staged ∙ ap (λ (n : ℕ). drop n w.commits) gone in
    let unbroken : live.log.since ≡ None = ap (λ (l : Log). l.since) old.same ∙ wrote.unbroken in
    let batch_is : IsBatch (take k w.commits) = subst IsBatch (sym old.oldest) wrote.is_batch in
    record {
      begun = c.args.self.now.begun;
      short = c.args.self.now.short;
      limits = c.args.self.now.limits;
      behind = ∣ record {
        flushed = ap (λ (x : Waiting). x.flushed) staged ∙ sym is.upto;
        front = omega (arith, old.waits.front, ap (λ (x : Waiting). x.flushed) staged, ap length left, length-drop k w.commits, old.few);
        needs = omega (arith, is.less, old.waits.needs, needs_parts w.commits k, ap needs_alone left);
        room = λ open_log. omega (arith, old.waits.room unbroken, old.waits.needs, ap (λ (l : Log). l.limit) done.grown, ap (λ (l : Log). l.limit) old.same, ap (λ (l : Log). more_of l.making) done.grown, ap (λ (l : Log). more_of l.making) old.same, is.end, need_some (take k w.commits) batch_is.some, needs_parts w.commits k, is.less);
        no_longer = ap (λ (l : Log). more_of l.making) done.grown ∙ sym (ap (λ (l : Log). more_of l.making) old.same) ∙ old.waits.no_longer;
      } ∣₁;
      ticks = c.args.self.now.ticks;
      room = omega (arith, c.args.self.now.room);
    }

pub flushed-requires-clause-later : goal.flushed-requires-clause-later
flushed-requires-clause-later g c =
    let wrote = c.requires.wrote.1 in
    let old = is_oldest c.args.self.now c.args.batch c.in-Some.live c.in-Some.is c.requires.under in
    let done : IsDurable g.D.Disk c.requires.wrote.0 c.args.disk.now c.args.batch c.in-Durable.log c.in-Durable.tick = subst (CameTo g.D.Disk c.requires.wrote.0 c.args.disk.now c.args.batch) c.in-Durable.is wrote.came in
    let is = is_less c.args.self.now.stage c.in-Some.live c.args.batch c.in-Durable.log _ old wrote.is_batch done.grown refl in
    omega (arith, is.upto)

pub flushed-requires-clause-within : goal.flushed-requires-clause-within
flushed-requires-clause-within g c =
    let wrote = c.requires.wrote.1 in
    let w = c.args.self.now.stage in
    let old = is_oldest c.args.self.now c.args.batch c.in-Some.live c.in-Some.is c.requires.under in
    let done : IsDurable g.D.Disk c.requires.wrote.0 c.args.disk.now c.args.batch c.in-Durable.log c.in-Durable.tick = subst (CameTo g.D.Disk c.requires.wrote.0 c.args.disk.now c.args.batch) c.in-Durable.is wrote.came in
    let is = is_less w c.in-Some.live c.args.batch c.in-Durable.log _ old wrote.is_batch done.grown refl in
    omega (arith, is.upto, old.few, wrote.is_batch.few, length-take max_commits w.commits)

pub returns-in-Failed-clause-notes : goal.returns-in-Failed-clause-notes
returns-in-Failed-clause-notes g c = λ taken rests wrote.
    let told = g.B.Chronicle.entries c.args.self.now.book in
    let live = c.in-Some.live in
    let batch = c.args.batch in
    let its = c.in-Failed.log in
    let w = c.args.self.now.stage in
    let k = length batch.commits.items in
    let seen = g.D.Disk.seen taken in
    let i = g.D.Disk.images taken in
    let j = g.D.Disk.images c.args.disk.now in
    let from = g.D.Disk.ticks taken in
    let to = g.D.Disk.ticks c.args.disk.now in
    let faults = g.D.Disk.faults c.args.disk.now in
    let old = is_oldest c.args.self.now batch live c.in-Some.is c.requires.under in
    let failed : HasFailed g.D.Disk taken c.args.disk.now batch its = subst (CameTo g.D.Disk taken c.args.disk.now batch) c.in-Failed.is wrote.came in
    let new : Live = record { log = its; kept = live.kept; epoch = live.epoch; faults = c.faults.result; closed = live.closed; front = live.front; needs = live.needs; mark = live.mark } in
    let stops : IfSome seen (StopsOneOf live (take k w.commits) from to (i from) j) =
    subst (λ (b : List (List Change)). IfSome seen (StopsAt live.log b from to (i from) j)) (sym old.oldest)
    (subst (λ (l : Log). IfSome seen (StopsAt l batch.commits.items from to (i from) j)) (sym old.same) wrote.stops) in
    let entry : BookEntry = Broke c.args.pass.now.pid to faults in
    let now : Commits → Moment = λ ways. record {
      book = g.B.Chronicle.entries c.note_fault.new.book;
      generation = c.args.self.now.generation;
      inside = c.args.self.now.inside;
      rows = c.args.self.now.rows;
      live = Some new;
      skipped = c.args.self.now.skipped;
      commits = ways;
      staged = w.commits;
      files = g.D.Disk.seen c.args.disk.now;
      images = j;
      ticks = to;
      faults = faults;
    } in
    let writes : (ways : Commits) → Writes (over_of told ways taken c.args.self.now) (now ways) live new k = λ ways. record {
      generation = refl;
      commits = refl;
      inside = refl;
      read = c.in-Some.is;
      unbroken = ap (λ (l : Log). l.since) old.same ∙ wrote.unbroken;
      few = old.few;
      batch = subst IsBatch (sym old.oldest) wrote.is_batch;
      small = omega (arith, old.waits.flushed, c.batch-oldest.ensures.number);
      fronts = omega (arith, old.waits.front, old.waits.flushed);
      needs_are = old.waits.needs;
      read_now = refl;
      kept = refl;
      closed = refl;
      limit = ap (λ (l : Log). l.limit) failed.broke ∙ sym (ap (λ (l : Log). l.limit) old.same);
      epoch = ap (λ (l : Log). l.epoch) failed.broke ∙ sym (ap (λ (l : Log). l.epoch) old.same);
      first = refl;
      front = refl;
      rows = refl;
      time = wrote.time;
      later = wrote.later;
      tells = wrote.tells;
      stops = stops;
    } in (
      entry ∷ [],
      λ ways. flush_fails c.history_laws.ensures.past c.history_laws.ensures.present (over_of told ways taken c.args.self.now) (now ways) live new k c.args.pass.now.pid to (writes ways) (ap (λ (l : Log). l.since) failed.broke)
          (ap (λ (l : Log). l.count) failed.broke ∙ sym (ap (λ (l : Log). l.count) old.same)) refl c.faults.ensures failed.rose (g.met.D.Disk.counted c.args.disk.now).1 (attends c.args.pass.now (alone c.args.self.now) c.requires.admits) c.note_fault.ensures.entries,
      (to, faults, refl),
    )

pub returns-in-Failed-clause-rests : goal.returns-in-Failed-clause-rests
returns-in-Failed-clause-rests g c = λ taken rests wrote.
    let failed : HasFailed g.D.Disk taken c.args.disk.now c.args.batch c.in-Failed.log = subst (CameTo g.D.Disk taken c.args.disk.now c.args.batch) c.in-Failed.is wrote.came in
    rests_broken _ c.args.self.now.rows c.args.self.now.stage.commits (g.D.Disk.seen c.args.disk.now) (g.D.Disk.images c.args.disk.now (g.D.Disk.ticks c.args.disk.now)) (g.D.Disk.ticks c.args.disk.now) (ap (λ (l : Log). l.since) failed.broke)

pub returns-in-Failed-clause-admits : goal.returns-in-Failed-clause-admits
returns-in-Failed-clause-admits g c =
    let told = g.B.Chronicle.entries c.args.self.now.book in
    let entry : BookEntry = Broke c.args.pass.now.pid (g.D.Disk.ticks c.args.disk.now) (g.D.Disk.faults c.args.disk.now) in record {
      there = c.requires.admits.there;
      generation_is = c.requires.admits.generation_is;
      inside = inside_still c.args.pass.now.pid c.args.pass.now.front entry told (g.B.Chronicle.entries c.note_fault.new.book) (record { present_is = λ es. refl; times = λ n. omega arith })
          c.note_fault.ensures.entries c.requires.admits.inside;
      staged = staged_still c.args.pass.now.front c.args.self.now.live _ c.in-Some.live _ c.in-Some.is refl (omega arith) c.requires.admits.staged;
    }

pub invariant_of-self-in-Failed : goal.invariant_of-self-in-Failed
invariant_of-self-in-Failed g c =
    let wrote = c.requires.wrote.1 in
    let old = is_oldest c.args.self.now c.args.batch c.in-Some.live c.in-Some.is c.requires.under in
    let failed : HasFailed g.D.Disk c.requires.wrote.0 c.args.disk.now c.args.batch c.in-Failed.log = subst (CameTo g.D.Disk c.requires.wrote.0 c.args.disk.now c.args.batch) c.in-Failed.is wrote.came in
    record {
      begun = c.args.self.now.begun;
      short = c.args.self.now.short;
      limits = c.args.self.now.limits;
      behind = ∣ record {
        flushed = old.waits.flushed ∙ ap (λ (l : Log). l.count) old.same ∙ sym (ap (λ (l : Log). l.count) failed.broke);
        front = old.waits.front;
        needs = old.waits.needs;
        room = λ whole. absurd (some_none (g.D.Disk.ticks c.args.disk.now) (sym (ap (λ (l : Log). l.since) failed.broke) ∙ whole));
        no_longer = ap (λ (l : Log). more_of l.making) failed.broke ∙ sym (ap (λ (l : Log). more_of l.making) old.same) ∙ old.waits.no_longer;
      } ∣₁;
      ticks = c.args.self.now.ticks;
      room = omega (arith, c.args.self.now.room, c.note_fault.ensures.room, ap {B = ℕ} (λ (b : Bool). cond b 1 0) c.requires.under.out);
    }

pub returns-clause-notes : goal.returns-clause-notes
returns-clause-notes g c = λ taken rests wrote.
    let same = subst (CameTo g.D.Disk taken c.args.disk.now c.args.batch) c.in-NoMemory.is wrote.came in (
      [],
      λ ways. rw same (moves_none (over_of (g.B.Chronicle.entries c.args.self.now.book) ways taken c.args.self.now)),
      refl,
    )

pub returns-clause-rests : goal.returns-clause-rests
returns-clause-rests g c = λ taken rests wrote.
    let same = subst (CameTo g.D.Disk taken c.args.disk.now c.args.batch) c.in-NoMemory.is wrote.came in
    rw same rests

pub overflow_add-live : goal.overflow_add-live
overflow_add-live g c =
    let wrote = c.requires.wrote.1 in
    let live = c.in-Some.live in
    let old = is_oldest c.args.self.now c.args.batch live c.in-Some.is c.requires.under in
    let done : IsDurable g.D.Disk c.requires.wrote.0 c.args.disk.now c.args.batch c.in-Durable.log c.in-Durable.tick = subst (CameTo g.D.Disk c.requires.wrote.0 c.args.disk.now c.args.batch) c.in-Durable.is wrote.came in
    let is = is_less c.args.self.now.stage live c.args.batch c.in-Durable.log (9 * (c.len.result - 1)) old wrote.is_batch done.grown (omega (arith, c.len.ensures)) in
    omega (arith, is.within)

pub overflow_sub-live-in-Durable : goal.overflow_sub-live-in-Durable
overflow_sub-live-in-Durable g c =
    let wrote = c.requires.wrote.1 in
    let live = c.in-Some.live in
    let old = is_oldest c.args.self.now c.args.batch live c.in-Some.is c.requires.under in
    let done : IsDurable g.D.Disk c.requires.wrote.0 c.args.disk.now c.args.batch c.in-Durable.log c.in-Durable.tick = subst (CameTo g.D.Disk c.requires.wrote.0 c.args.disk.now c.args.batch) c.in-Durable.is wrote.came in
    let is = is_less c.args.self.now.stage live c.args.batch c.in-Durable.log (9 * (c.len.result - 1)) old wrote.is_batch done.grown (omega (arith, c.len.ensures)) in
    omega (arith, is.within)

pub returns-in-Failed-clause-marks : goal.returns-in-Failed-clause-marks
returns-in-Failed-clause-marks g c = (c.in-Failed.log, c.in-Failed.is)

pub returns-in-Durable-clause-made : goal.returns-in-Durable-clause-made
returns-in-Durable-clause-made g c = λ taken half rests wrote made.
    let live = c.in-Some.live in
    let batch = c.args.batch in
    let its = c.in-Durable.log in
    let w = c.args.self.now.stage in
    let k = length batch.commits.items in
    let seen = g.D.Disk.seen taken in
    let files_now = g.D.Disk.seen c.args.disk.now in
    let from = g.D.Disk.images taken (g.D.Disk.ticks taken) in
    let to = g.D.Disk.images c.args.disk.now (g.D.Disk.ticks c.args.disk.now) in
    let old = is_oldest c.args.self.now batch live c.in-Some.is c.requires.under in
    let done : IsDurable g.D.Disk taken c.args.disk.now batch its c.in-Durable.tick = subst (CameTo g.D.Disk taken c.args.disk.now batch) c.in-Durable.is wrote.came in
    let gates = 9 * (c.len.result - 1) in
    let is = is_less w live batch its gates old wrote.is_batch done.grown (omega (arith, c.len.ensures)) in
    let new : Live = record { log = its; kept = live.kept; epoch = live.epoch; faults = live.faults; closed = live.closed; front = live.front; needs = live.needs - (its.end - live.log.end + gates); mark = c.in-Durable.tick } in
    let lives : TellsStill (LivesWith live new (take k w.commits) from to) seen files_now =
    subst (λ (b : List (List Change)). TellsStill (LivesAt live.log its b from to) seen files_now) (sym old.oldest)
    (subst (λ (l : Log). TellsStill (LivesAt l its batch.commits.items from to) seen files_now) (sym old.same) done.lives) in
    let makes : TellsStill (MakesWith live.log its (take k w.commits)) seen files_now =
    subst (λ (b : List (List Change)). TellsStill (MakesWith live.log its b) seen files_now) (sym old.oldest)
    (subst (λ (l : Log). TellsStill (MakesWith l its batch.commits.items) seen files_now) (sym old.same) done.makes) in
    beside_on c.args.self.now.live live new half seen files_now c.in-Some.is (λ h was. made_written seen files_now live new h c.args.self.now.rows w.commits k from to old.few (subst IsBatch (sym old.oldest) wrote.is_batch)
    (omega (arith, old.waits.flushed, c.batch-oldest.ensures.number)) (ap (λ (l : Log). l.since) old.same ∙ wrote.unbroken) (ap (λ (l : Log). l.epoch) done.grown ∙ sym (ap (λ (l : Log). l.epoch) old.same))
    (ap (λ (l : Log). l.base_end) done.grown ∙ sym (ap (λ (l : Log). l.base_end) old.same)) is.longer (done.under_way h (subst (λ (l : Log). IsUnderWay l h) old.same was.under_way)) lives makes
    (subst (λ (l : Option Live). ∥ Rests l c.args.self.now.rows w.commits seen from ∥₁) c.in-Some.is rests) was) made

pub returns-in-Failed-clause-made : goal.returns-in-Failed-clause-made
returns-in-Failed-clause-made g c = λ taken half rests wrote made.
    let live = c.in-Some.live in
    let to = g.D.Disk.ticks c.args.disk.now in
    let old = is_oldest c.args.self.now c.args.batch live c.in-Some.is c.requires.under in
    let failed : HasFailed g.D.Disk taken c.args.disk.now c.args.batch c.in-Failed.log = subst (CameTo g.D.Disk taken c.args.disk.now c.args.batch) c.in-Failed.is wrote.came in
    let new : Live = record { log = c.in-Failed.log; kept = live.kept; epoch = live.epoch; faults = c.faults.result; closed = live.closed; front = live.front; needs = live.needs; mark = live.mark } in
    let its : c.in-Failed.log ≡ record live.log { since = Some to } = failed.broke ∙ ap (λ (l : Log). record l { since = Some to }) (sym old.same) in
    beside_on c.args.self.now.live live new half (g.D.Disk.seen taken) (g.D.Disk.seen c.args.disk.now) c.in-Some.is
    (λ h was. made_broken live new h (g.D.Disk.seen taken) (g.D.Disk.seen c.args.disk.now) (ap (λ (l : Log). l.epoch) its) (ap (λ (l : Log). l.base_end) its) (ap (λ (l : Log). l.end) its)
    (subst (λ (l : Log). IsUnderWay l h) (sym its) (record { making = was.under_way.making; from = was.under_way.from; done = was.under_way.done; number = was.under_way.number }))
    (λ whole. some_none to (sym (ap (λ (l : Log). l.since) its) ∙ whole)) was) made

pub returns-clause-made : goal.returns-clause-made
returns-clause-made g c = λ taken half rests wrote made.
    let same = subst (CameTo g.D.Disk taken c.args.disk.now c.args.batch) c.in-NoMemory.is wrote.came in
    rw same made
