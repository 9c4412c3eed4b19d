-- A file that is being made beside a store's log.
use Rattle.std.{proofs.Common.{◌≡◌, ℕ, Bool, false, List, Option, None, Some, refl, sym, subst}, specs.Prelude.{Result, Ok, Err, IfOk}}
use Rattle.pm_log.specs.{Half.Half, declared.log.Log.Log}
use Rattle.pm_query.specs.{pm_disk.Files.Files, Calls.{CheckpointNotes, PassView, StepNotes, User, step_of, user_of}, declared.{book.BookEntry.BookEntry, store.{Checkpointed.{Checkpointed, TheVariants.{Done, NotDue, Skipped}}, Stepping.Stepping, StoreNo.StoreNo}}}
use Rattle.pm_query.specs.declared.store.Stepping.TheVariants as step
use Rattle.pm_segment.specs.{pm_store_apart.declared.{apart.Apart.Apart, live.Live.Live}, Apart.HasLog, Pieces.{BeginNotes, IsMade, IsMadeBeside, IsMaking}}
use Rattle.pm_store_shared.{specs.{Piecewise.{BeginsOrNot, IsTold}, Quiet.AllQuiet}, proofs.Others.{checkpoint_free, checkpoint_quiet}}

-- where the log is as it was
pub made_grown : (o o' : Option Live) (half : Option Half) (seen : Option Files) → ((log : Log) → HasLog log o → HasLog log o') → IsMadeBeside o half seen → IsMadeBeside o' half seen
made_grown o o' None seen same made = tt
made_grown None o' (Some half) seen same made = absurd made
made_grown (Some live) None (Some half) seen same made = absurd (same live.log refl)
made_grown (Some live) (Some live') (Some half) seen same made = subst (λ (l : Log). IsMade l half seen) (sym (same live.log refl)) made

-- ---- what a step notes, for whoever it is

pub step_quiet : (v : PassView) (g : Option ℕ) (r : Result Stepping StoreNo) (es : List BookEntry) → StepNotes (user_of g v) r es → AllQuiet es
step_quiet v g (Ok step.More) es n = subst AllQuiet (sym n) tt
step_quiet v g (Ok (step.Done epoch)) es n = checkpoint_quiet v g false (Ok (Done epoch)) es n
step_quiet v g (Ok step.Skipped) es n = checkpoint_quiet v g false (Ok Skipped) es n
step_quiet v g (Ok (step.NotDue behind)) es n = checkpoint_quiet v g false (Ok (NotDue behind)) es n
step_quiet v g (Err refused) es n = checkpoint_quiet v g false (Err refused) es n

pub step_free : (v : PassView) (g : Option ℕ) (r : Result Stepping StoreNo) (es : List BookEntry) → StepNotes (user_of g v) r es → StepNotes (user_of None v) r es
step_free v g (Ok step.More) es n = n
step_free v g (Ok (step.Done epoch)) es n = n
step_free v g (Ok step.Skipped) es n = n
step_free v g (Ok (step.NotDue behind)) es n = n
step_free v g (Err refused) es n = checkpoint_free v g false (Err refused) es n

-- and what a beginning does
pub begins_quiet : (v : PassView) (g : Option ℕ) (begun : Result (Option Half) StoreNo) (es : List BookEntry) → BeginNotes (user_of g v) begun es → AllQuiet es
begins_quiet v g (Ok half) es n = subst AllQuiet (sym n) tt
begins_quiet v g (Err refused) es n = checkpoint_quiet v g false (Err refused) es n

pub begins_free : (v : PassView) (g : Option ℕ) (begun : Result (Option Half) StoreNo) (r : Result Bool StoreNo) (making : Option Half) (es : List BookEntry) → IsTold begun r making → BeginNotes (user_of g v) begun es → BeginsOrNot (user_of None v) r es
begins_free v g (Ok half) r making es told n = subst (λ (r : Result Bool StoreNo). BeginsOrNot (user_of None v) r es) (sym told.0) n
begins_free v g (Err refused) r making es told n = subst (λ (r : Result Bool StoreNo). BeginsOrNot (user_of None v) r es) (sym told.0) (checkpoint_free v g false (Err refused) es n)

-- a beginning leaves what is made
pub begun_makes : {D B : Type 0} {g h : _} (disk : D) (apart : Apart D B g h) (begun : Result (Option Half) StoreNo) (r : Result Bool StoreNo) (making : Option Half) → IsTold begun r making → IfOk begun (IsMaking disk apart) → IsMaking disk apart making
begun_makes {g = g} disk apart (Ok half) r making told made = subst (IsMaking {g = g} disk apart) (sym told.1) made
begun_makes {g = g} disk apart (Err refused) r making told made = subst (IsMaking {g = g} disk apart) (sym told.1) tt

-- a checkpoint in one step
pub step_whole : (user : User) (came : Checkpointed) (r : Stepping) (es : List BookEntry) → r ≡ step_of came → CheckpointNotes user false (Ok came) es → StepNotes user (Ok r) es
step_whole user came r es is n = subst (λ (r : Stepping). StepNotes user (Ok r) es) (sym is) (each came n)
  where
    each : (came : Checkpointed) → CheckpointNotes user false (Ok came) es → StepNotes user (Ok (step_of came)) es
    each (Done epoch) n = n
    each Skipped n = n
    each (NotDue behind) n = n
