-- What is known of the store after a child that used it and serves no connection.
use Rattle.std.{proofs.Common.{ℕ, Option, sym, ◌∙◌, subst, None, Some, ◌≡◌, List, Err, refl, arith, ◌≢◌}, specs.Prelude.{IfSome, All, option_map}}
use Rattle.pm_server.specs.{pm_disk.{Files.Files, Cause.Rose}, pm_record.declared.fault.RedoFault.RedoFault, pm_segment.{pm_redo.Found.IsReason, Moment.Moment, Redos.{IsAtLastEpoch, IsCleanAt}, pm_store_apart.declared.live.Live.Live, Moves.IsShown}, Ends.HasRefused, pm_rows.Fold.RowMap, declared.end.StartWhy.{TheVariants.{Redo, Killed}, StartWhy}, pm_query.declared.book.BookEntry.{BookEntry, TheVariants.Detached}}
use Rattle.pm_server.specs.pm_record.declared.fault.RedoFault.TheVariants as redo
use Rattle.pm_once_children.specs.{Outcomes.{Stays, HasComeTo}, declared.{checkpointer.Closed.{TheVariants.{Made, Crashed, Full, Short}, Closed as Its}, outcome.Outcome.{Outcome, TheVariants.{Closed, Refused}}}, AuxiliaryRuns.{StartNotes, CloseNotes}}

-- ---- nobody has used it

refused_still : (fault : RedoFault) (from : ℕ) (before now : Moment) → Stays before now → HasRefused fault from before → HasRefused fault from now
refused_still redo.Disk from before now stays has = subst (λ (n : ℕ). Rose from n) (sym stays.faults) has
refused_still redo.NoMemory from before now stays has = absurd has
refused_still redo.NoCluster from before now stays has = (subst (λ (f : Option Files). IfSome f (IsReason redo.NoCluster)) (sym stays.files) has.0, stays.live ∙ has.1)
refused_still (redo.BadFile file at) from before now stays has = (subst (λ (f : Option Files). IfSome f (IsReason (redo.BadFile file at))) (sym stays.files) has.0, stays.live ∙ has.1)
refused_still (redo.SameEpoch epoch) from before now stays has = (subst (λ (f : Option Files). IfSome f (IsReason (redo.SameEpoch epoch))) (sym stays.files) has.0, stays.live ∙ has.1)

pub come_still : (o : Option Outcome) (from : ℕ) (before now : Moment) → Stays before now → HasComeTo o from before → HasComeTo o from now
come_still None from before now stays come = tt
come_still (Some (Refused (Redo fault))) from before now stays come = refused_still fault from before now stays come
come_still (Some (Refused Killed)) from before now stays come = absurd come
come_still (Some (Closed Made)) from before now stays come = (
  come.0,
  subst (λ (l : Option Live). IsCleanAt come.0 l now.rows now.files) (sym stays.live)
      (subst (λ (r : RowMap). IsCleanAt come.0 before.live r now.files) (sym stays.rows) (subst (λ (f : Option Files). IsCleanAt come.0 before.live before.rows f) (sym stays.files) come.1)),
)
come_still (Some (Closed Crashed)) from before now stays come = subst (λ (n : ℕ). Rose from n) (sym stays.faults) come
come_still (Some (Closed Full)) from before now stays come = subst (λ (f : Option Files). IfSome f (λ files. ∥ IsAtLastEpoch files ∥₁)) (sym stays.files) come
come_still (Some (Closed Short)) from before now stays come = tt

-- ---- an auxiliary child has

-- the startup child has read the log
pub refused_now : (from pid generation : ℕ) (why : Option StartWhy) (noted : List BookEntry) (now : Moment) → StartNotes pid generation (Err why) noted → All (IsShown from now.faults) noted
    → ((fault : RedoFault) → why ≡ Some (Redo fault) → IfSome now.files (IsReason fault)) → ((fault : RedoFault) → why ≡ Some (Redo fault) → now.live ≡ None) → HasComeTo (option_map Refused why) from now
refused_now from pid generation None noted now notes shown reason shut = tt
refused_now from pid generation (Some Killed) noted now notes shown reason shut = absurd notes
refused_now from pid generation (Some (Redo redo.Disk)) noted now notes shown reason shut = (subst (All (IsShown from now.faults)) notes.2 shown) 1 (Detached pid) (omega arith)
refused_now from pid generation (Some (Redo redo.NoMemory)) noted now notes shown reason shut = absurd notes
refused_now from pid generation (Some (Redo redo.NoCluster)) noted now notes shown reason shut = (reason redo.NoCluster refl, shut redo.NoCluster refl)
refused_now from pid generation (Some (Redo (redo.BadFile file at))) noted now notes shown reason shut = (reason (redo.BadFile file at) refl, shut (redo.BadFile file at) refl)
refused_now from pid generation (Some (Redo (redo.SameEpoch epoch))) noted now notes shown reason shut = (reason (redo.SameEpoch epoch) refl, shut (redo.SameEpoch epoch) refl)

pub reads_so : (fault : RedoFault) (before now : Option Files) → IfSome before (IsReason fault) → (fault ≢ redo.Disk → now ≡ before) → IfSome now (IsReason fault)
reads_so redo.Disk before None reason same = tt
reads_so redo.Disk before (Some files) reason same = tt
reads_so redo.NoMemory before None reason same = tt
reads_so redo.NoMemory before (Some files) reason same = tt
reads_so redo.NoCluster before now reason same = subst (λ (f : Option Files). IfSome f (IsReason redo.NoCluster)) (sym (same (λ e. cc))) reason
reads_so (redo.BadFile file at) before now reason same = subst (λ (f : Option Files). IfSome f (IsReason (redo.BadFile file at))) (sym (same (λ e. cc))) reason
reads_so (redo.SameEpoch epoch) before now reason same = subst (λ (f : Option Files). IfSome f (IsReason (redo.SameEpoch epoch))) (sym (same (λ e. cc))) reason

-- the checkpointer has written the last checkpoint, or tried to
pub closed_now : (from pid generation : ℕ) (closed : Its) (noted : List BookEntry) (now : Moment) → CloseNotes pid generation closed noted → All (IsShown from now.faults) noted
    → (closed ≡ Made → (epoch : ℕ) × IsCleanAt epoch now.live now.rows now.files) → (closed ≡ Full → IfSome now.files (λ files. ∥ IsAtLastEpoch files ∥₁)) → HasComeTo (Some (Closed closed)) from now
closed_now from pid generation Made noted now notes shown clean full = clean refl
closed_now from pid generation Crashed noted now notes shown clean full = (subst (All (IsShown from now.faults)) notes.2 shown) 1 (Detached pid) (omega arith)
closed_now from pid generation Full noted now notes shown clean full = full refl
closed_now from pid generation Short noted now notes shown clean full = tt
