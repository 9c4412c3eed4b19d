-- The calls of a token that answer no script.
use Rattle.std.{proofs.Common.{◌≡◌, ℕ, Bool, List, ◌++◌, Option, None, sym, ◌∙◌, subst}, specs.Prelude.{Result, Ok, Err}}
use Rattle.pm_segment.specs.pm_record.declared.fault.RedoFault.TheVariants as redo
use Rattle.pm_segment.specs.{pm_query.{declared.{book.BookEntry.BookEntry, store.{Checkpointed.{Checkpointed, TheVariants.{Done, Skipped, NotDue}}, Seen.{Seen, TheVariants.{Released as CanBeSent, NotFlushed}}, StoreNo.{StoreNo, TheVariants.{Stale, Disk, Broken, Full, Redo, NoMemory}}}}, Book.generation_of, Calls.{PassView, CheckpointNotes, FlushNotes, RedoNotes, SeenNotes, user_of}}, pm_store_apart.declared.pass.Pass.Pass, Moment.alone, Passes.{Admits, HasAnswer, view_of}}
use Rattle.pm_store_shared.{specs.{declared.{place.Place.Place, views.{Lent.Lent, Noted.Noted}}, Passes.Among, Quiet.AllQuiet, Rule.taken, Stands.{Knows, Stands}, Told.{Seated, Tells, between}}, proofs.{Logs.known_at, Stores.{answer_on, quiet_own, stands_in}}}

by : (es fs : List BookEntry) → es ≡ fs → AllQuiet fs → AllQuiet es
by es fs is q = subst AllQuiet (sym is) q

pub seen_quiet : (v : PassView) (g : Option ℕ) (front : ℕ) (r : Result Seen StoreNo) (es : List BookEntry) → SeenNotes (user_of g v) front r es → AllQuiet es
seen_quiet v g front (Ok CanBeSent) es n = by es _ n.1 (tt, tt)
seen_quiet v g front (Ok (NotFlushed flushed)) es n = by es _ n.1 tt
seen_quiet v g front (Err (Stale mine found)) es n = by es _ n.1 tt
seen_quiet v g front (Err (Broken since)) es n = by es _ n.1 (tt, tt)
seen_quiet v g front (Err NoMemory) es n = by es _ n tt
seen_quiet v g front (Err Disk) es n = absurd n
seen_quiet v g front (Err (Full need room)) es n = absurd n
seen_quiet v g front (Err (Redo fault)) es n = absurd n

pub seen_free : (v : PassView) (g : Option ℕ) (front : ℕ) (r : Result Seen StoreNo) (es : List BookEntry) → SeenNotes (user_of g v) front r es → SeenNotes (user_of None v) front r es
seen_free v g front (Ok CanBeSent) es n = n
seen_free v g front (Ok (NotFlushed flushed)) es n = n
seen_free v g front (Err (Stale mine found)) es n = (tt, n.1)
seen_free v g front (Err (Broken since)) es n = n
seen_free v g front (Err NoMemory) es n = n
seen_free v g front (Err Disk) es n = absurd n
seen_free v g front (Err (Full need room)) es n = absurd n
seen_free v g front (Err (Redo fault)) es n = absurd n

pub flush_quiet : (v : PassView) (g : Option ℕ) (r : Result ℕ StoreNo) (es : List BookEntry) → FlushNotes (user_of g v) r es → AllQuiet es
flush_quiet v g (Ok flushed) es n = by es _ n tt
flush_quiet v g (Err (Stale mine found)) es n = by es _ n.1 tt
flush_quiet v g (Err Disk) es n = by es _ n.2 (tt, tt)
flush_quiet v g (Err (Broken since)) es n = by es _ n.1 (tt, tt)
flush_quiet v g (Err NoMemory) es n = by es _ n tt
flush_quiet v g (Err (Full need room)) es n = absurd n
flush_quiet v g (Err (Redo fault)) es n = absurd n

pub flush_free : (v : PassView) (g : Option ℕ) (r : Result ℕ StoreNo) (es : List BookEntry) → FlushNotes (user_of g v) r es → FlushNotes (user_of None v) r es
flush_free v g (Ok flushed) es n = n
flush_free v g (Err (Stale mine found)) es n = (tt, n.1)
flush_free v g (Err Disk) es n = n
flush_free v g (Err (Broken since)) es n = n
flush_free v g (Err NoMemory) es n = n
flush_free v g (Err (Full need room)) es n = absurd n
flush_free v g (Err (Redo fault)) es n = absurd n

pub redo_quiet : (v : PassView) (g : Option ℕ) (r : Result ℕ StoreNo) (es : List BookEntry) → RedoNotes (user_of g v) r es → AllQuiet es
redo_quiet v g (Ok kept) es n = by es _ n (tt, tt)
redo_quiet v g (Err (Stale mine found)) es n = by es _ n.1 tt
redo_quiet v g (Err (Redo redo.Disk)) es n = by es _ n.2 (tt, tt)
redo_quiet v g (Err (Redo redo.NoCluster)) es n = by es _ n tt
redo_quiet v g (Err (Redo (redo.BadFile file at))) es n = by es _ n tt
redo_quiet v g (Err (Redo (redo.SameEpoch epoch))) es n = by es _ n tt
redo_quiet v g (Err (Redo redo.NoMemory)) es n = by es _ n tt
redo_quiet v g (Err Disk) es n = absurd n
redo_quiet v g (Err (Broken since)) es n = absurd n
redo_quiet v g (Err (Full need room)) es n = absurd n
redo_quiet v g (Err NoMemory) es n = absurd n

pub redo_free : (v : PassView) (g : Option ℕ) (r : Result ℕ StoreNo) (es : List BookEntry) → RedoNotes (user_of g v) r es → RedoNotes (user_of None v) r es
redo_free v g (Ok kept) es n = n
redo_free v g (Err (Stale mine found)) es n = (tt, n.1)
redo_free v g (Err (Redo redo.Disk)) es n = n
redo_free v g (Err (Redo redo.NoCluster)) es n = n
redo_free v g (Err (Redo (redo.BadFile file at))) es n = n
redo_free v g (Err (Redo (redo.SameEpoch epoch))) es n = n
redo_free v g (Err (Redo redo.NoMemory)) es n = n
redo_free v g (Err Disk) es n = absurd n
redo_free v g (Err (Broken since)) es n = absurd n
redo_free v g (Err (Full need room)) es n = absurd n
redo_free v g (Err NoMemory) es n = absurd n

pub checkpoint_quiet : (v : PassView) (g : Option ℕ) (clean : Bool) (r : Result Checkpointed StoreNo) (es : List BookEntry) → CheckpointNotes (user_of g v) clean r es → AllQuiet es
checkpoint_quiet v g clean (Ok (Done epoch)) es n = by es _ n (tt, tt)
checkpoint_quiet v g clean (Ok Skipped) es n = by es _ n (tt, tt)
checkpoint_quiet v g clean (Ok (NotDue behind)) es n = by es _ n.2 tt
checkpoint_quiet v g clean (Err (Stale mine found)) es n = by es _ n.1 tt
checkpoint_quiet v g clean (Err Disk) es n = by es _ n.2 (tt, tt)
checkpoint_quiet v g clean (Err (Broken since)) es n = by es _ n.1 (tt, tt)
checkpoint_quiet v g clean (Err (Full need room)) es n = by es _ n.1 tt
checkpoint_quiet v g clean (Err (Redo fault)) es n = absurd n
checkpoint_quiet v g clean (Err NoMemory) es n = by es _ n tt

pub checkpoint_free : (v : PassView) (g : Option ℕ) (clean : Bool) (r : Result Checkpointed StoreNo) (es : List BookEntry) → CheckpointNotes (user_of g v) clean r es → CheckpointNotes (user_of None v) clean r es
checkpoint_free v g clean (Ok (Done epoch)) es n = n
checkpoint_free v g clean (Ok Skipped) es n = n
checkpoint_free v g clean (Ok (NotDue behind)) es n = n
checkpoint_free v g clean (Err (Stale mine found)) es n = (tt, n.1)
checkpoint_free v g clean (Err Disk) es n = n
checkpoint_free v g clean (Err (Broken since)) es n = n
checkpoint_free v g clean (Err (Full need room)) es n = n
checkpoint_free v g clean (Err (Redo fault)) es n = absurd n
checkpoint_free v g clean (Err NoMemory) es n = n

-- a pass that is as it was is known still
pub token_knows_same : {D B : Type 0} {g h : _} {past : List BookEntry} {had : Option (Lent D)} (k : ℕ) (first : D) (own : List Noted) (ps : List Pass) (log es : List BookEntry) (x x' : Place D B g h) (me : Seated (Place D B g h) D (Lent D)) (before now : Pass)
    → me ≡ between k first own ps past had → Tells Stands Knows me.0 (taken log x) → Among before ps → before.generation ≡ x.apart.generation → AllQuiet es → view_of now ≡ view_of before → Admits now (alone x'.apart) → Knows (log ++ es) x' now
token_knows_same {D} {B} {g} {h} k first own ps log es x x' me before now is tells in_ gen quiet view admits =
    let tells' = (subst (λ (m : Seated (Place D B g h) D (Lent D)). Tells Stands Knows m.0 (taken log x)) is tells).0 in
    let gen' : before.generation ≡ generation_of log = gen ∙ sym (stands_in first log x tells'.0) in
    let known = known_at (Knows log x) (generation_of log) before ps tells'.1 in_ gen' in
    (subst (λ (v : PassView). HasAnswer v.pid v.front (log ++ es)) (sym view) (answer_on before.pid before.front log es (quiet_own es quiet) known.0), admits.staged)
