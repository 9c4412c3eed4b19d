use Rattle.std.{proofs.{Common.{◌≡◌, ◌⊎◌, inl, inr, true, false, true≢false, ◌+◌, ◌-◌, ◌≤◌, None, Some, Option, refl, sym, ◌∙◌, ap, subst, arith}}}
use Rattle.pm_query.specs.{Calls.due_bytes}
use Rattle.pm_log.specs.{Half.{more_of}, declared.log.Log.Log}
use Rattle.pm_store_apart.{specs.{declared.{live.Live.Live}, Moment.{Moment, over_of as moment_of}, MovesLaws.time_still, Pieces.IsNoLonger, Redos.IsDue, Rests.Rests, Stands.bytes_of_rows}, proofs.{CheckpointsLaws.{gate_other}, Making.{Begins, begins_short, begun_made, lives_knowing, rests_same, rests_still, still_within}, Remaking.{Laws, LeavesLog, Remakes, remakes}, StepsLaws.same_live, WaitingLaws.{waits_at, waits_none}}}
use Rattle.pm_outside.proofs.AddedLaws.{added_none}
use Rattle.pm_store_apart.proofs.apart.Apart.list_rows.Goals as goal

pub begin-requires-clause-rows : goal.begin-requires-clause-rows
begin-requires-clause-rows g c = λ k d lt. ((c.are_typed.ensures k d lt).0, (c.are_typed.ensures k d lt).1, c.args.self.now.short k d lt)

far : (live : Live) (its : Option Live) → its ≡ Some live → IsDue its false → due_bytes ≤ live.log.end - live.log.base_end
far live its read due = each due.due
  where
    each : (false ≡ true) ⊎ (due_bytes ≤ due.its.log.end - due.its.log.base_end) → due_bytes ≤ live.log.end - live.log.base_end
    each (inl never) = absurd (true≢false (sym never))
    each (inr is) = subst (λ (l : Live). due_bytes ≤ l.log.end - l.log.base_end) (same_live its due.its live due.read read) is

whole : (live : Live) (its : Option Live) → its ≡ Some live → IsDue its false → live.log.since ≡ None
whole live its read due = subst (λ (l : Live). l.log.since ≡ None) (same_live its due.its live due.read read) due.unbroken

pub invariant_of-self : goal.invariant_of-self
invariant_of-self g c =
    let live = c.in-Some.live in
    let w = c.args.self.now.stage in
    let its = waits_at c.args.self.now.live live w c.in-Some.is c.args.self.now.behind in
    let begins : Begins live c.begin.new.self c.in-Ok.making c.args.self.now.rows w.commits = record {
      knows = c.in-Ok.ensures.begun;
      half_is = c.in-Ok.ensures.half;
      short = subst (λ (l : Option Live). IsNoLonger l (bytes_of_rows c.args.self.now.rows)) c.in-Some.is c.requires.no_longer;
      due = far live c.args.self.now.live c.in-Some.is c.requires.due;
      unstaged = c.requires.unstaged;
    } in
    let bare = waits_none c.args.self.now.live live w c.in-Some.is c.requires.unstaged c.args.self.now.behind in
    record {
      begun = c.args.self.now.begun;
      short = c.args.self.now.short;
      limits = c.args.self.now.limits;
      behind = ∣ record {
        flushed = its.flushed ∙ sym (ap (λ (l : Log). l.count) begins.knows);
        front = its.front;
        needs = its.needs;
        room = λ open_log. omega (arith, bare.1);
        no_longer = ap (λ (l : Log). more_of l.making) begins.knows ∙ begins_short live c.begin.new.self c.in-Ok.making c.args.self.now.rows w.commits begins;
      } ∣₁;
      ticks = c.args.self.now.ticks;
      room = c.args.self.now.room;
    }

pub returns-in-Ok-clause-moves : goal.returns-in-Ok-clause-moves
returns-in-Ok-clause-moves g c = λ ways disk.
    let told = g.B.Chronicle.entries c.args.self.now.book in
    let live = c.in-Some.live in
    let w = c.args.self.now.stage in
    let rows = c.args.self.now.rows in
    let seen = g.D.Disk.seen disk in
    let tick = g.D.Disk.ticks disk in
    let i = g.D.Disk.images disk in
    let new : Live = record { log = c.begin.new.self; kept = live.kept; epoch = live.epoch; faults = live.faults; closed = live.closed; front = live.front; needs = live.needs; mark = live.mark } in
    let its = waits_at c.args.self.now.live live w c.in-Some.is c.args.self.now.behind in
    let begins : Begins live c.begin.new.self c.in-Ok.making rows w.commits = record {
      knows = c.in-Ok.ensures.begun;
      half_is = c.in-Ok.ensures.half;
      short = subst (λ (l : Option Live). IsNoLonger l (bytes_of_rows rows)) c.in-Some.is c.requires.no_longer;
      due = far live c.args.self.now.live c.in-Some.is c.requires.due;
      unstaged = c.requires.unstaged;
    } in
    let unbroken = whole live c.args.self.now.live c.in-Some.is c.requires.due in
    let laws : Laws = record { past = c.history_laws.ensures.past; present = c.history_laws.ensures.present; within = c.rows_are_within_needs.ensures.numbers } in
    let now : Moment = record { book = told; generation = c.args.self.now.generation; inside = c.args.self.now.inside; rows = rows; live = Some new; skipped = c.args.self.now.skipped; commits = ways; staged = w.commits; files = seen; images = i; ticks = tick; faults = g.D.Disk.faults disk } in
    let call : Remakes (moment_of told ways disk c.args.self.now) now live new (live.log.end + 1) = record {
      generation = refl;
      commits = refl;
      inside = refl;
      read = c.in-Some.is;
      unbroken = unbroken;
      fronts = omega (arith, its.front, its.flushed);
      staged = refl;
      front = refl;
      needs = refl;
      read_now = refl;
      kept = refl;
      limit = ap (λ (l : Log). l.limit) begins.knows;
      first = refl;
      count = ap (λ (l : Log). l.count) begins.knows;
      rows = refl;
      time = time_still tick i;
      later = omega arith;
      tells = λ none. none;
      through = still_within seen live rows w.commits tick i;
    } in
    let leaves : LeavesLog live new = record {
      whole = ap (λ (l : Log). l.since) begins.knows ∙ unbroken;
      closed = refl;
      epoch = ap (λ (l : Log). l.epoch) begins.knows;
      end = ap (λ (l : Log). l.end) begins.knows;
      mark = refl;
    } in
    remakes laws (moment_of told ways disk c.args.self.now) now live new call leaves (rests_same seen seen live new rows w.commits (i tick) (i tick) refl (lives_knowing seen live c.begin.new.self c.in-Ok.making rows w.commits (i tick) begins)) (added_none told)

pub returns-in-Ok-clause-rests : goal.returns-in-Ok-clause-rests
returns-in-Ok-clause-rests g c = λ disk rests.
    let live = c.in-Some.live in
    let w = c.args.self.now.stage in
    let rows = c.args.self.now.rows in
    let seen = g.D.Disk.seen disk in
    let images = g.D.Disk.images disk (g.D.Disk.ticks disk) in
    let new : Live = record { log = c.begin.new.self; kept = live.kept; epoch = live.epoch; faults = live.faults; closed = live.closed; front = live.front; needs = live.needs; mark = live.mark } in
    let begins : Begins live c.begin.new.self c.in-Ok.making rows w.commits = record {
      knows = c.in-Ok.ensures.begun;
      half_is = c.in-Ok.ensures.half;
      short = subst (λ (l : Option Live). IsNoLonger l (bytes_of_rows rows)) c.in-Some.is c.requires.no_longer;
      due = far live c.args.self.now.live c.in-Some.is c.requires.due;
      unstaged = c.requires.unstaged;
    } in
    rests_still seen seen live new rows w.commits images images (whole live c.args.self.now.live c.in-Some.is c.requires.due)
    (rests_same seen seen live new rows w.commits images images refl (lives_knowing seen live c.begin.new.self c.in-Ok.making rows w.commits images begins))
    (subst (λ (l : Option Live). ∥ Rests l rows w.commits seen images ∥₁) c.in-Some.is rests)

pub returns-in-Ok-clause-made : goal.returns-in-Ok-clause-made
returns-in-Ok-clause-made g c = λ disk rests.
    let live = c.in-Some.live in
    let w = c.args.self.now.stage in
    let rows = c.args.self.now.rows in
    let seen = g.D.Disk.seen disk in
    let images = g.D.Disk.images disk (g.D.Disk.ticks disk) in
    let begins : Begins live c.begin.new.self c.in-Ok.making rows w.commits = record {
      knows = c.in-Ok.ensures.begun;
      half_is = c.in-Ok.ensures.half;
      short = subst (λ (l : Option Live). IsNoLonger l (bytes_of_rows rows)) c.in-Some.is c.requires.no_longer;
      due = far live c.args.self.now.live c.in-Some.is c.requires.due;
      unstaged = c.requires.unstaged;
    } in
    let there = subst (λ (l : Option Live). ∥ Rests l rows w.commits seen images ∥₁) c.in-Some.is rests in
    begun_made seen live c.begin.new.self c.in-Ok.making rows w.commits images begins c.in-Ok.ensures.under_way there
    (λ open_log. gate_other seen live rows w.commits images there open_log (g.met.D.Disk.reads_as_left disk)) c.in-Ok.ensures.makes
