-- A flush as one call, and several of them.
use Rattle.std.proofs.Common.{◌≡◌, ◌⊎◌, inl, inr, ℕ, ◌+◌, ◌-◌, ◌≤◌, Bool, true, false, List, [], ◌++◌, length, drop, Option, None, Some, Result, Ok, Err, refl, sym, ◌∙◌, ap, subst, arith, OnOk}
use Rattle.pm_query.specs.{pm_disk.Files.Files, Calls.{CheckpointNotes, FlushNotes, User, due_bytes}, declared.{book.BookEntry.BookEntry, store.{Checkpointed.{Checkpointed, TheVariants.{Done, NotDue, Skipped}}, StoreNo.{StoreNo, TheVariants.{Broken, Disk, Full, NoMemory, Redo, Stale}}}}}
use Rattle.pm_log.specs.declared.log.Log.{Log}
use Rattle.pm_store_apart.{specs.{declared.{apart.Apart.Apart, batch.{Batch.Batch, Written.Written}, commits.Commits.Commits, live.Live.Live}, Apart.HasLog, Causes.IsUnbroken, Flushes.{FlushCause, FlushesAll, IsLonger, WriteNotes, WritesNothing}, Lending.{CameTo, IsReadyFor, Lends, Marks}, Moment.{HasLogAt, Moment, over_as}, Redos.{CheckpointCause, IsDue}}, proofs.{Lendings.left_of, StepsLaws.{not_both, same_live, some_none}, WaitingLaws.oldest_left}}

-- ---- the log is no shorter

pub longer_still : (o : Option Live) → IsUnbroken o → IsLonger o o
longer_still o is = record { its = is.its; new = is.its; read = is.read; read_now = is.read; unbroken = is.unbroken; base_end = refl; longer = omega arith }

pub longer_on : (o between now : Option Live) → IsLonger o between → IsLonger between now → IsLonger o now
longer_on o between now one two =
    let same : one.new ≡ two.its = same_live between one.new two.its one.read_now two.read in
    record {
      its = one.its;
      new = two.new;
      read = one.read;
      read_now = two.read_now;
      unbroken = two.unbroken;
      base_end = two.base_end ∙ sym (ap (λ (l : Live). l.log.base_end) same) ∙ one.base_end;
      longer = omega (arith, one.longer, two.longer, ap (λ (l : Live). l.log.end) same);
    }

pub unbroken_now : (o now : Option Live) → IsLonger o now → IsUnbroken now
unbroken_now o now is = record { its = is.new; read = is.read_now; unbroken = is.unbroken }

-- ---- a flush that needs no disk

pub longer_answered : (before now : Moment) (result : Result ℕ StoreNo) → FlushCause before now result → now.live ≡ before.live → OnOk result (IsLonger before.live now.live)
longer_answered before now (Ok flushed) cause same = subst (IsLonger before.live) (sym same) (longer_still before.live (record { its = cause.its; read = cause.read; unbroken = cause.unbroken }))
longer_answered before now (Err refusal) cause same = tt

-- ---- one that has lent it

the_log : (o : Option Live) (log : Log) → HasLog log o → (live : Live) × (o ≡ Some live) × (live.log ≡ log)
the_log None log has = absurd has
the_log (Some live) log has = (live, refl, has)

module _ {D B : Type 0} {g h : _} (batch : Batch) (before between now : Apart D B g h) (came : Written) (seen : Option Files) (lends : Lends batch before between) (ready : IsReadyFor batch seen) where
  found : (live : Live) × (before.live ≡ Some live) × (live.log ≡ batch.log)
  found = the_log before.live batch.log (subst (HasLog batch.log) lends.keeps.0 lends.under.log)

  unbroken_at : (live : Live) → live.log ≡ batch.log → live.log.since ≡ None
  unbroken_at live same = ap (λ (l : Log). l.since) same ∙ ready.unbroken

  pub flush_caused : (ways : Commits) (disk disk_now : D) (result : Result ℕ StoreNo) → Marks batch came between now result → FlushCause (over_as ways disk before) (over_as ways disk_now now) result
  flush_caused ways disk disk_now (Ok flushed) marks =
      let staged : before.stage.commits ≡ batch.commits.items ++ now.stage.commits = sym lends.keeps.2 ∙ marks.staged in
      record {
        its = found.0;
        read = found.1;
        unbroken = unbroken_at found.0 found.2;
        new = marks.new;
        written = record {
          read = marks.read;
          unbroken = ap (λ (l : Log). l.since) marks.log ∙ ready.unbroken;
          flushed = omega (arith, ap (λ (l : Log). l.count) marks.log, ap (λ (l : Log). l.count) found.2, ap length lends.oldest);
          staged = sym (left_of batch.commits.items now.stage.commits before.stage.commits staged) ∙ ap (λ (n : ℕ). drop n before.stage.commits) (ap length lends.oldest) ∙ oldest_left before.stage.commits;
          rows = marks.rows ∙ lends.keeps.1;
        };
        flushed_is = marks.flushed_is;
      }
  flush_caused ways disk disk_now (Err Disk) marks = (record { its = found.0; read = found.1; unbroken = unbroken_at found.0 found.2 }, lends.some)
  flush_caused ways disk disk_now (Err NoMemory) marks = tt
  flush_caused ways disk disk_now (Err (Broken since)) marks = absurd marks
  flush_caused ways disk disk_now (Err (Full need room)) marks = marks
  flush_caused ways disk disk_now (Err (Redo fault)) marks = marks
  flush_caused ways disk disk_now (Err (Stale mine its)) marks = marks

  pub longer_marked : (result : Result ℕ StoreNo) → Marks batch came between now result → OnOk result (IsLonger before.live now.live)
  longer_marked (Ok flushed) marks = record {
    its = found.0;
    new = marks.new;
    read = found.1;
    read_now = marks.read;
    unbroken = ap (λ (l : Log). l.since) marks.log ∙ ready.unbroken;
    base_end = ap (λ (l : Log). l.base_end) marks.log ∙ sym (ap (λ (l : Log). l.base_end) found.2);
    longer = omega (arith, ap (λ (l : Log). l.end) marks.log, ap (λ (l : Log). l.end) found.2);
  }
  longer_marked (Err refusal) marks = tt

  pub still_marked : (disk disk_now : D) (result : Result ℕ StoreNo) → Marks batch came between now result → CameTo g disk disk_now batch came → WritesNothing before.stage.commits result → HasLogAt disk before disk_now now
  still_marked disk disk_now (Ok flushed) marks is none = absurd (lends.some none)
  still_marked disk disk_now (Err Disk) marks is none = absurd none
  still_marked disk disk_now (Err NoMemory) marks is none =
      (subst (CameTo g disk disk_now batch) marks.1 is, marks.0.0 ∙ lends.keeps.0, marks.0.1 ∙ lends.keeps.1, marks.0.2 ∙ lends.keeps.2)
  still_marked disk disk_now (Err (Broken since)) marks is none = absurd marks
  still_marked disk disk_now (Err (Full need room)) marks is none = absurd marks
  still_marked disk disk_now (Err (Redo fault)) marks is none = absurd marks
  still_marked disk disk_now (Err (Stale mine its)) marks is none = absurd marks

-- ---- several of them

never_broken : (o : Option Live) (live other : Live) (since : ℕ) → o ≡ Some live → o ≡ Some other → live.log.since ≡ None → other.log.since ≡ Some since → ⊥
never_broken o live other since one two whole broken = some_none since (sym broken ∙ ap (λ (l : Live). l.log.since) (same_live o other live two one) ∙ whole)

-- a log that isn't broken refuses by a fault of the disk alone, or for want of memory
pub written_or_not : (user : User) (before now : Moment) (refusal : StoreNo) (entries : List BookEntry) → IsUnbroken before.live → FlushCause before now (Err refusal) → FlushNotes user (Err refusal) entries
    → WriteNotes {T = Unit {0}} user.pid (Err refusal) entries
written_or_not user before now Disk entries whole cause notes = notes
written_or_not user before now NoMemory entries whole cause notes = notes
written_or_not user before now (Broken since) entries whole cause notes = absurd (never_broken before.live whole.its cause.its since whole.read cause.read whole.unbroken cause.broken)
written_or_not user before now (Full need room) entries whole cause notes = absurd cause
written_or_not user before now (Redo fault) entries whole cause notes = absurd cause
written_or_not user before now (Stale mine its) entries whole cause notes = absurd cause

-- a checkpoint is due of the log with all that was staged, where it was due of that without
pub due_longer : (clean : Bool) (o now : Option Live) (live new : Live) → o ≡ Some live → now ≡ Some new → IsLonger o now → (clean ≡ true) ⊎ (due_bytes ≤ live.log.end - live.log.base_end)
    → (clean ≡ true) ⊎ (due_bytes ≤ new.log.end - new.log.base_end)
due_longer clean o now live new read read_now is (inl asked) = inl asked
due_longer clean o now live new read read_now is (inr due) =
    let one : is.its ≡ live = same_live o is.its live is.read read in
    let two : is.new ≡ new = same_live now is.new new is.read_now read_now in
    inr (omega (arith, due, is.base_end, is.longer, ap (λ (l : Live). l.log.end) one, ap (λ (l : Live). l.log.base_end) one, ap (λ (l : Live). l.log.end) two, ap (λ (l : Live). l.log.base_end) two))

never_due : (clean : Bool) (live : Live) → (clean ≡ true) ⊎ (due_bytes ≤ live.log.end - live.log.base_end) → clean ≡ false → live.log.end - live.log.base_end + 1 ≤ due_bytes → ⊥
never_due clean live (inl asked) unclean few = absurd (cc)
never_due clean live (inr due) unclean few = omega (arith, due, few)

pub cause_longer : (clean : Bool) (o now : Option Live) (live : Live) (result : Result Checkpointed StoreNo) → o ≡ Some live → live.log.since ≡ None → (clean ≡ true) ⊎ (due_bytes ≤ live.log.end - live.log.base_end) → IsLonger o now
    → CheckpointCause now clean result → CheckpointCause o clean result
cause_longer clean o now live (Ok (Done epoch)) read whole due longer is = record { its = live; read = read; unbroken = whole; due = due }
cause_longer clean o now live (Ok Skipped) read whole due longer is = absurd (not_both now longer.new is longer.read_now)
cause_longer clean o now live (Ok (NotDue behind)) read whole due longer is =
    absurd (never_due clean is.its (due_longer clean o now live is.its read is.read longer due) is.unclean (omega (arith, is.behind_is, is.few)))
cause_longer clean o now live (Err (Broken since)) read whole due longer is = absurd (never_broken now longer.new is.its since longer.read_now is.read longer.unbroken is.broken)
cause_longer clean o now live (Err (Full need room)) read whole due longer is = record { its = live; read = read; unbroken = whole; due = due }
cause_longer clean o now live (Err Disk) read whole due longer is = record { its = live; read = read; unbroken = whole; due = due }
cause_longer clean o now live (Err NoMemory) read whole due longer is = tt
cause_longer clean o now live (Err (Redo fault)) read whole due longer is = tt
cause_longer clean o now live (Err (Stale mine its)) read whole due longer is = tt

pub flushes_all : (at : Moment) (result : Result Checkpointed StoreNo) → at.staged ≡ [] → FlushesAll at result
flushes_all at (Ok (Done epoch)) none = none
flushes_all at (Ok Skipped) none = tt
flushes_all at (Ok (NotDue behind)) none = tt
flushes_all at (Err refusal) none = tt

-- so is a checkpoint refused
pub log_refusal : (user : User) (clean : Bool) (refusal : StoreNo) (entries : List BookEntry) → WriteNotes {T = Unit {0}} user.pid (Err refusal) entries → CheckpointNotes user clean (Err refusal) entries
log_refusal user clean Disk entries notes = notes
log_refusal user clean NoMemory entries notes = notes
log_refusal user clean (Broken since) entries notes = absurd notes
log_refusal user clean (Full need room) entries notes = absurd notes
log_refusal user clean (Redo fault) entries notes = absurd notes
log_refusal user clean (Stale mine its) entries notes = absurd notes

-- or where a flush is
pub flush_refusal : (user : User) (clean : Bool) (refusal : StoreNo) (entries : List BookEntry) → FlushNotes user (Err refusal) entries → CheckpointNotes user clean (Err refusal) entries
flush_refusal user clean Disk entries notes = notes
flush_refusal user clean NoMemory entries notes = notes
flush_refusal user clean (Broken since) entries notes = notes
flush_refusal user clean (Full need room) entries notes = absurd notes
flush_refusal user clean (Redo fault) entries notes = absurd notes
flush_refusal user clean (Stale mine its) entries notes = notes

pub refusal_cause : (live : Option Live) (clean : Bool) (pid : ℕ) (refusal : StoreNo) (entries : List BookEntry) → IsDue live clean → WriteNotes {T = Unit {0}} pid (Err refusal) entries → CheckpointCause live clean (Err refusal)
refusal_cause live clean pid Disk entries due notes = due
refusal_cause live clean pid NoMemory entries due notes = tt
refusal_cause live clean pid (Broken since) entries due notes = absurd notes
refusal_cause live clean pid (Full need room) entries due notes = due
refusal_cause live clean pid (Redo fault) entries due notes = tt
refusal_cause live clean pid (Stale mine its) entries due notes = tt

-- where nothing was staged nothing is
pub flushes_none : (before now : Moment) (result : Result ℕ StoreNo) → FlushCause before now result → (WritesNothing before.staged result → now.staged ≡ before.staged) → before.staged ≡ [] → now.staged ≡ []
flushes_none before now (Ok flushed) cause still none = still none ∙ none
flushes_none before now (Err Disk) cause still none = absurd (cause.1 none)
flushes_none before now (Err NoMemory) cause still none = still tt ∙ none
flushes_none before now (Err (Broken since)) cause still none = still tt ∙ none
flushes_none before now (Err (Full need room)) cause still none = absurd cause
flushes_none before now (Err (Redo fault)) cause still none = absurd cause
flushes_none before now (Err (Stale mine its)) cause still none = absurd cause
