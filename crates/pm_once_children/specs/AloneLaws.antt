-- Laws of what a child does that is alone with its store.
use Rattle.std.{proofs.Common.{◌≡◌, inl, inr, ℕ, ◌≤◌, List, [], ◌∷◌, ◌++◌, Option, Some, Result, Ok, Err, refl, sym, ◌∙◌, ap, subst}, specs.Prelude.true}
use Rattle.pm_server.specs.{pm_disk.Files.Files, pm_rows.Fold.RowMap, pm_query.{declared.{book.BookEntry.{BookEntry, TheVariants.{Opened, Attached, Redone as WasRedone, Answered, Released, Detached, Gone, CheckpointEnded, Broke, LogFull}}, store.{Checkpointed.Checkpointed, StoreNo.StoreNo}}, Calls.{User, RedoNotes, CheckpointNotes}}, pm_segment.{pm_store_apart.declared.live.Live.Live, Moment.Moment, Moves.Moves, MovesLaws.{moves_none, moves_on, never_falls}, Redos.{FullAtLast, HasReason, IsAfreshAt, LeavesFiles, LeavesUnread}}}
use Rattle.pm_server.specs.pm_record.declared.fault.RedoFault.TheVariants as redo
use Rattle.pm_server.specs.pm_query.declared.store.StoreNo.TheVariants as stores
use Rattle.pm_once_children.specs.{declared.alone.Work.{Work, TheVariants.{ToRead, Redone, ToClose, Made}}, Alone.{Does, HasClosed, HasDone, HasRead, Keeps, work_in}}

-- ---- its entries

pub work_on : (first second : List BookEntry) → work_in (first ++ second) ≡ work_in first ++ work_in second
work_on [] second = refl
work_on (Attached pid generation ∷ first) second = work_on first second
work_on (Detached pid ∷ first) second = work_on first second
work_on (Opened generation ∷ first) second = ap (λ (l : List BookEntry). Opened generation ∷ l) (work_on first second)
work_on (WasRedone pid generation kept ∷ first) second = ap (λ (l : List BookEntry). WasRedone pid generation kept ∷ l) (work_on first second)
work_on (Answered pid script reply commit front tick ∷ first) second = ap (λ (l : List BookEntry). Answered pid script reply commit front tick ∷ l) (work_on first second)
work_on (Released pid front tick ∷ first) second = ap (λ (l : List BookEntry). Released pid front tick ∷ l) (work_on first second)
work_on (Gone pid ∷ first) second = ap (λ (l : List BookEntry). Gone pid ∷ l) (work_on first second)
work_on (CheckpointEnded pid made clean ∷ first) second = ap (λ (l : List BookEntry). CheckpointEnded pid made clean ∷ l) (work_on first second)
work_on (Broke pid since faults ∷ first) second = ap (λ (l : List BookEntry). Broke pid since faults ∷ l) (work_on first second)
work_on (LogFull pid script need room ∷ first) second = ap (λ (l : List BookEntry). LogFull pid script need room ∷ l) (work_on first second)

both : (noted its : List BookEntry) → noted ≡ its → work_in its ≡ its → work_in noted ≡ noted
both noted its is same = ap work_in is ∙ same ∙ sym is

none_before : (a b : List BookEntry) → a ≡ [] → a ++ b ≡ b
none_before a b none = ap (λ (l : List BookEntry). l ++ b) none

none_behind : (a b : List BookEntry) → b ≡ [] → a ++ b ≡ a
none_behind a b none = ap (λ (l : List BookEntry). a ++ l) none ∙ append_none a
  where
    append_none : (l : List BookEntry) → l ++ [] ≡ l
    append_none [] = refl
    append_none (e ∷ l) = ap (λ (rest : List BookEntry). e ∷ rest) (append_none l)

-- a redo notes nothing of a coming or a going
redo_works : (who : User) (redone : Result ℕ StoreNo) (noted : List BookEntry) → RedoNotes who redone noted → work_in noted ≡ noted
redo_works who (Ok kept) noted notes = both noted (WasRedone who.pid who.generation kept ∷ []) notes refl
redo_works who (Err (stores.Stale mine found)) noted notes = both noted [] notes.1 refl
redo_works who (Err (stores.Redo redo.Disk)) noted notes = both noted (Broke who.pid notes.0 notes.1 ∷ []) notes.2 refl
redo_works who (Err (stores.Redo redo.NoCluster)) noted notes = both noted [] notes refl
redo_works who (Err (stores.Redo (redo.BadFile file at))) noted notes = both noted [] notes refl
redo_works who (Err (stores.Redo (redo.SameEpoch epoch))) noted notes = both noted [] notes refl
redo_works who (Err (stores.Redo redo.NoMemory)) noted notes = both noted [] notes refl
redo_works who (Err stores.Disk) noted never = absurd never
redo_works who (Err (stores.Broken since)) noted never = absurd never
redo_works who (Err (stores.Full need room)) noted never = absurd never
redo_works who (Err stores.NoMemory) noted never = absurd never

pub reads_log : (who : User) (redone : Result ℕ StoreNo) (noted : List BookEntry) (before now : Moment) → Moves noted before now → RedoNotes who redone noted → HasReason before.files redone → LeavesFiles before.files now.files redone
    → LeavesUnread now.live redone → Does noted ToRead (Redone redone) before now
reads_log who redone noted before now moves notes reason kept unread = record {
  moves = moves;
  done = inr (inl (refl, redone, refl, record { who = who; notes = subst (RedoNotes who redone) (sym (redo_works who redone noted notes)) notes; reason = reason; kept = kept; unread = unread }));
}

-- ---- one after the other

keeps_none : (at : Moment) → Keeps at at
keeps_none at = record { files = refl; live = refl; rows = refl }

keeps_on : (a b c : Moment) → Keeps a b → Keeps b c → Keeps a c
keeps_on a b c one two = record { files = two.files ∙ one.files; live = two.live ∙ one.live; rows = two.rows ∙ one.rows }

-- it read the log, and nothing was done before that
read_before : (redone : Result ℕ StoreNo) (noted entries : List BookEntry) (a b c : Moment) → entries ≡ noted → Keeps a b → HasRead redone noted b c → HasRead redone entries a c
read_before redone noted entries a b c is keeps read = record {
  who = read.who;
  notes = subst (RedoNotes read.who redone) (sym is) read.notes;
  reason = subst (λ (f : Option Files). HasReason f redone) keeps.files read.reason;
  kept = subst (λ (f : Option Files). LeavesFiles f c.files redone) keeps.files read.kept;
  unread = read.unread;
}

-- nor after that
read_behind : (redone : Result ℕ StoreNo) (noted entries : List BookEntry) (a b c : Moment) → entries ≡ noted → HasRead redone noted a b → Keeps b c → HasRead redone entries a c
read_behind redone noted entries a b c is read keeps = record {
  who = read.who;
  notes = subst (RedoNotes read.who redone) (sym is) read.notes;
  reason = read.reason;
  kept = subst (λ (f : Option Files). LeavesFiles a.files f redone) (sym keeps.files) read.kept;
  unread = subst (λ (l : Option Live). LeavesUnread l redone) (sym keeps.live) read.unread;
}

afresh_still : (epoch : ℕ) (b c : Moment) → Keeps b c → IsAfreshAt epoch true b.live b.rows b.files → IsAfreshAt epoch true c.live c.rows c.files
afresh_still epoch b c keeps afresh =
    subst (λ (l : Option Live). IsAfreshAt epoch true l c.rows c.files) (sym keeps.live)
    (subst (λ (r : RowMap). IsAfreshAt epoch true b.live r c.files) (sym keeps.rows) (subst (λ (f : Option Files). IsAfreshAt epoch true b.live b.rows f) (sym keeps.files) afresh))

closed_before : (made : Result Checkpointed StoreNo) (noted entries : List BookEntry) (now : Moment) → entries ≡ noted → HasClosed made noted now → HasClosed made entries now
closed_before made noted entries now is closed = record { who = closed.who; notes = subst (CheckpointNotes closed.who true made) (sym is) closed.notes; full = closed.full; afresh = closed.afresh }

closed_behind : (made : Result Checkpointed StoreNo) (noted entries : List BookEntry) (b c : Moment) → entries ≡ noted → HasClosed made noted b → Keeps b c → HasClosed made entries c
closed_behind made noted entries b c is closed keeps = record {
  who = closed.who;
  notes = subst (CheckpointNotes closed.who true made) (sym is) closed.notes;
  full = subst (λ (f : Option Files). FullAtLast f made) (sym keeps.files) closed.full;
  afresh = λ epoch done. afresh_still epoch b c keeps (closed.afresh epoch done);
}

-- what was done isn't to be done
not_to_read : (redone : Result ℕ StoreNo) → Redone redone ≡ ToRead → ⊥
not_to_read redone is = cc

read_not_to_close : (redone : Result ℕ StoreNo) → Redone redone ≡ ToClose → ⊥
read_not_to_close redone is = cc

not_to_close : (made : Result Checkpointed StoreNo) → Made made ≡ ToClose → ⊥
not_to_close made is = cc

made_not_to_read : (made : Result Checkpointed StoreNo) → Made made ≡ ToRead → ⊥
made_not_to_read made is = cc

done_on : (noted more : List BookEntry) (w0 w1 w2 : Work) (a b c : Moment) → HasDone noted w0 w1 a b → HasDone more w1 w2 b c → HasDone (noted ++ more) w0 w2 a c
done_on noted more w0 w1 w2 a b c (inl one) (inl two) = inl (two.0 ∙ one.0, none_before noted more one.1 ∙ two.1, keeps_on a b c one.2 two.2)
done_on noted more w0 w1 w2 a b c (inl one) (inr (inl two)) = inr (inl (sym one.0 ∙ two.0, two.1, two.2, read_before two.1 more (noted ++ more) a b c (none_before noted more one.1) one.2 two.3))
done_on noted more w0 w1 w2 a b c (inl one) (inr (inr two)) = inr (inr (sym one.0 ∙ two.0, two.1, two.2, closed_before two.1 more (noted ++ more) c (none_before noted more one.1) two.3))
done_on noted more w0 w1 w2 a b c (inr (inl one)) (inl two) = inr (inl (one.0, one.1, two.0 ∙ one.2, read_behind one.1 noted (noted ++ more) a b c (none_behind noted more two.1) one.3 two.2))
done_on noted more w0 w1 w2 a b c (inr (inl one)) (inr (inl two)) = absurd (not_to_read one.1 (sym one.2 ∙ two.0))
done_on noted more w0 w1 w2 a b c (inr (inl one)) (inr (inr two)) = absurd (read_not_to_close one.1 (sym one.2 ∙ two.0))
done_on noted more w0 w1 w2 a b c (inr (inr one)) (inl two) = inr (inr (one.0, one.1, two.0 ∙ one.2, closed_behind one.1 noted (noted ++ more) b c (none_behind noted more two.1) one.3 two.2))
done_on noted more w0 w1 w2 a b c (inr (inr one)) (inr (inl two)) = absurd (made_not_to_read one.1 (sym one.2 ∙ two.0))
done_on noted more w0 w1 w2 a b c (inr (inr one)) (inr (inr two)) = absurd (not_to_close one.1 (sym one.2 ∙ two.0))

pub does_nothing : (work : Work) (at : Moment) → Does [] work work at at
does_nothing work at = record { moves = moves_none at; done = inl (refl, refl, keeps_none at) }

pub does_on : (first second : List BookEntry) (w0 w1 w2 : Work) (a b c : Moment) → Does first w0 w1 a b → Does second w1 w2 b c → Does (first ++ second) w0 w2 a c
does_on first second w0 w1 w2 a b c one two = record {
  moves = moves_on first second a b c one.moves two.moves;
  done = subst (λ (l : List BookEntry). HasDone l w0 w2 a c) (sym (work_on first second)) (done_on (work_in first) (work_in second) w0 w1 w2 a b c one.done two.done);
}

-- ---- its store's generation

pub stays_in : (entries : List BookEntry) (work after : Work) (before now : Moment) → Does entries work after before now → Some now.generation ≡ Some before.generation
stays_in entries work after before now does = ap (λ (n : ℕ). Some n) does.moves.generation

pub meets : (entries : List BookEntry) (work after : Work) (before now : Moment) → Does entries work after before now → before.generation ≤ now.generation
meets entries work after before now does = never_falls before.generation now.generation does.moves.generation
