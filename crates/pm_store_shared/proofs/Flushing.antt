-- A flush in two turns of the store.
use Rattle.std.{proofs.Common.{◌≡◌, ℕ, List, [], ◌++◌, Option, None, Some, refl, subst}, specs.Prelude.{Result, Ok, Err, IfOk}}
use Rattle.pm_query.specs.{declared.{book.BookEntry.BookEntry, store.StoreNo.{StoreNo, TheVariants.{Stale, Disk, Broken, Full, Redo, NoMemory}}}, Calls.MetLater}
use Rattle.pm_segment.specs.{pm_store_apart.declared.{apart.Apart.Apart, batch.{Batch.Batch, Written.Written}, live.Live.Live, pass.Pass.Pass}, Flushes.FlushCause, Fronts.flushed_of, Lending.{IsUnder, Marks}, Moment.Moment, Pieces.IsMaking, Rests.IsAtRest}
use Rattle.pm_store_shared.{specs.{declared.{place.Place.Place, views.{Lent.Lent, Noted.Noted}}, Grows.Grew, GrowsLaws.grew_on, Rule.taken, Stands.{Knows, MakesOver, Stands, StandsOver}, Told.{Seated, Tells, TokenModel, between}}, proofs.Learns.HasTold}

-- ---- what a flush told

pub cause_told : (before now : Moment) (r : Result ℕ StoreNo) → FlushCause before now r → IfOk r (λ front. (its : Live) × (now.live ≡ Some its) × (front ≡ flushed_of its))
cause_told before now (Ok flushed) cause = (cause.new, cause.written.read, cause.flushed_is)
cause_told before now (Err refusal) cause = tt

pub marks_told : {D B : Type 0} {g h : _} (batch : Batch) (came : Written) (before now : Apart D B g h) (r : Result ℕ StoreNo) → Marks batch came before now r → IfOk r (HasTold now)
marks_told batch came before now (Ok flushed) marks = (marks.new, marks.read, marks.flushed_is)
marks_told batch came before now (Err refusal) marks = tt

-- a marking meets no other generation
pub marks_met : {D B : Type 0} {g h : _} (met generation : ℕ) (batch : Batch) (came : Written) (before now : Apart D B g h) (r : Result ℕ StoreNo) → Marks batch came before now r → MetLater met generation r
marks_met met generation batch came before now (Ok flushed) marks = tt
marks_met met generation batch came before now (Err (Stale mine found)) marks = absurd marks
marks_met met generation batch came before now (Err Disk) marks = tt
marks_met met generation batch came before now (Err (Broken since)) marks = tt
marks_met met generation batch came before now (Err (Full need room)) marks = tt
marks_met met generation batch came before now (Err (Redo fault)) marks = tt
marks_met met generation batch came before now (Err NoMemory) marks = tt

-- nor does the answer of a flush that needs no disk
pub cause_met : (met generation : ℕ) (before now : Moment) (r : Result ℕ StoreNo) → FlushCause before now r → MetLater met generation r
cause_met met generation before now (Ok flushed) cause = tt
cause_met met generation before now (Err (Stale mine found)) cause = absurd cause
cause_met met generation before now (Err Disk) cause = tt
cause_met met generation before now (Err (Broken since)) cause = tt
cause_met met generation before now (Err (Full need room)) cause = tt
cause_met met generation before now (Err (Redo fault)) cause = tt
cause_met met generation before now (Err NoMemory) cause = tt

-- ---- the store whose disk a token has lent

-- it is the one from which the disk was lent, and more may be staged
pub record IsLent {D B : Type 0} {g h : _} (lent : Lent D) (x : Place D B g h) : Type 0 where
  pub disk : x.disk ≡ None
  pub under : IsUnder lent.batch x.apart
  pub rests : IsAtRest lent.disk x.apart
  pub generation : x.apart.generation ≡ lent.generation
  pub making : IsMaking lent.disk x.apart x.making

lent_of : {D B : Type 0} {g h : _} (first : D) (log : List BookEntry) (lent : Lent D) (x : Place D B g h) (disk : Option D) → x.disk ≡ disk → StandsOver first log x.apart disk (Some lent) → MakesOver x.apart disk (Some lent) x.making
    → IsLent lent x
lent_of first log lent x None there is makes = record { disk = there; under = is.2; rests = is.1; generation = is.3; making = makes }
lent_of first log lent x (Some disk) there is makes = absurd is

pub lent_there : {D B : Type 0} {g h : _} {past : List BookEntry} (k : ℕ) (first : D) (own : List Noted) (ps : List Pass) (log : List BookEntry) (lent : Lent D) (x : Place D B g h) (me : Seated (Place D B g h) D (Lent D))
    → me ≡ between k first own ps past (Some lent) → Tells Stands Knows me.0 (taken log x) → IsLent lent x
lent_there {D} {B} {g} {h} k first own ps log lent x me is tells =
    let stands = (subst (λ (m : Seated (Place D B g h) D (Lent D)). Tells Stands Knows m.0 (taken log x)) is tells).0.0 in
    let is = subst (λ o. Stands first log x o) stands.knows stands.is in
    lent_of first log lent x x.disk refl is.0 is.1

-- ---- what a token shows after both turns, of which the first notes nothing

pub grew_then : {F : Type 0} (first second : List BookEntry) (a b c : TokenModel F) → Grew first a b → first ≡ [] → Grew second b c → Grew second a c
grew_then first second a b c one none two = subst (λ (es : List BookEntry). Grew (es ++ second) a c) none (grew_on first second a b c one two)

-- after a turn that notes nothing
pub grew_none_of : {F : Type 0} (es : List BookEntry) (a b : TokenModel F) → Grew es a b → es ≡ [] → Grew [] a b
grew_none_of es a b one none = subst (λ (es : List BookEntry). Grew es a b) none one
