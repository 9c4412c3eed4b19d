-- The runs of the children that serve no connection are runs of children.
use Rattle.std.{proofs.Common.{inr, ℕ, List, [], Option, Err, refl, inl, ◌∷◌, None, Some, Result, Ok, sym, subst, ◌≡◌, ◌⊎◌, ap, option_map}, specs.Prelude.{true, false}}
use Rattle.pm_server.specs.pm_record.declared.fault.RedoFault.TheVariants as redo
use Rattle.pm_server.specs.{pm_query.declared.book.BookEntry.{BookEntry, TheVariants.{Redone, Broke, CheckpointEnded}}, declared.end.StartWhy.{StartWhy, TheVariants.{Redo, Killed}}, pm_exit.declared.child.{Kind.Kind, Status.{Status, TheVariants.Code}}}
use Rattle.pm_once_acts.specs.pm_supervisor_chain.{Steps.IsRunOf, Chain.{IsAmong, kept_of, redos_of}}
use Rattle.pm_once_children.specs.{AuxiliaryRuns.{GoesThrough, startup_run, StartNotes, CloseNotes, checkpointer_run, idle_run, Heard, IsRunAs, startup_or}, declared.{checkpointer.Closed.{Closed, TheVariants.{Made, Crashed, Full, Short}}, outcome.Outcome.Outcome}, Outcomes.ComesTo}
use Rattle.pm_server.specs.pm_exit.declared.child.Kind.TheVariants as kind
use Rattle.pm_once_children.specs.declared.outcome.Outcome.TheVariants as outcomes

went_through : (pid generation : ℕ) (why : Option StartWhy) (noted : List BookEntry) → GoesThrough pid generation noted → IsRunOf (startup_run pid generation (Err why) noted)
went_through pid generation why noted is = record {
  use_of_store = inr (record { work = []; noted = is; of_it = tt; serves = refl });
  redo = refl;
}

pub startup_is_run : (pid generation : ℕ) (read : Result ℕ (Option StartWhy)) (noted : List BookEntry) → StartNotes pid generation read noted → IsRunOf (startup_run pid generation read noted)
startup_is_run pid generation (Ok kept) noted is = record {
  use_of_store = inr (record { work = Redone pid generation kept ∷ []; noted = is; of_it = ((refl, refl, refl), tt); serves = refl });
  redo = (refl, subst (λ (l : List BookEntry). IsAmong (record { number = kept; generation = generation }) (kept_of (redos_of l))) (sym is) (inl (refl, refl)));
}
startup_is_run pid generation (Err (Some Killed)) noted is = absurd is
startup_is_run pid generation (Err (Some (Redo redo.Disk))) noted is = record {
  use_of_store = inr (record { work = Broke pid is.0 is.1 ∷ []; noted = is.2; of_it = (refl, tt); serves = refl });
  redo = refl;
}
startup_is_run pid generation (Err (Some (Redo redo.NoCluster))) noted is = went_through pid generation (Some (Redo redo.NoCluster)) noted is
startup_is_run pid generation (Err (Some (Redo (redo.BadFile file at)))) noted is = went_through pid generation (Some (Redo (redo.BadFile file at))) noted is
startup_is_run pid generation (Err (Some (Redo (redo.SameEpoch epoch)))) noted is = went_through pid generation (Some (Redo (redo.SameEpoch epoch))) noted is
startup_is_run pid generation (Err (Some (Redo redo.NoMemory))) noted is = absurd is
startup_is_run pid generation (Err None) noted (inl none) = record { use_of_store = inl (record { noted = none; inactive = refl }); redo = refl }
startup_is_run pid generation (Err None) noted (inr through) = went_through pid generation None noted through

pub checkpointer_is_run : (pid generation : ℕ) (closed : Closed) (noted : List BookEntry) → CloseNotes pid generation closed noted → IsRunOf (checkpointer_run pid generation closed noted)
checkpointer_is_run pid generation Made noted is = record {
  use_of_store = inr (record { work = CheckpointEnded pid true true ∷ []; noted = is; of_it = (refl, tt); serves = refl });
  redo = refl;
}
checkpointer_is_run pid generation Crashed noted is = record {
  use_of_store = inr (record { work = Broke pid is.0 is.1 ∷ []; noted = is.2; of_it = (refl, tt); serves = refl });
  redo = refl;
}
checkpointer_is_run pid generation Full noted is = record { use_of_store = inr (record { work = []; noted = is; of_it = tt; serves = refl }); redo = refl }
checkpointer_is_run pid generation Short noted (inl none) = record { use_of_store = inl (record { noted = none; inactive = refl }); redo = refl }
checkpointer_is_run pid generation Short noted (inr (inl through)) = record { use_of_store = inr (record { work = []; noted = through; of_it = tt; serves = refl }); redo = refl }
checkpointer_is_run pid generation Short noted (inr (inr ended)) = record {
  use_of_store = inr (record { work = CheckpointEnded pid false true ∷ []; noted = ended; of_it = (refl, tt); serves = refl });
  redo = refl;
}

-- ---- a child that ends at once

pub idle_is_run : (pid generation : ℕ) (k : Kind) (status : Status) → (k ≡ kind.Checkpointer) ⊎ (k ≡ kind.Writer) → IsRunOf (idle_run pid generation k status)
idle_is_run pid generation k status (inl is) =
    subst (λ (x : Kind). IsRunOf (idle_run pid generation x status)) (sym is) (record { use_of_store = inl (record { noted = refl; inactive = refl }); redo = refl })
idle_is_run pid generation k status (inr is) =
    subst (λ (x : Kind). IsRunOf (idle_run pid generation x status)) (sym is) (record { use_of_store = inl (record { noted = refl; inactive = refl }); redo = refl })

-- it was told to
pub quit_is_told : (heard : Heard) (pid generation : ℕ) (k : Kind) → heard.quit ≡ true → (k ≡ kind.Checkpointer) ⊎ (k ≡ kind.Writer) → IsRunAs heard k (idle_run pid generation k (Code 2))
quit_is_told heard pid generation k told (inl is) = subst (λ (x : Kind). IsRunAs heard x (idle_run pid generation x (Code 2))) (sym is) (inl (told, refl))
quit_is_told heard pid generation k told (inr is) = subst (λ (x : Kind). IsRunAs heard x (idle_run pid generation x (Code 2))) (sym is) (inl (told, refl))

-- and leaves the last outcome
pub idle_comes : (pid generation : ℕ) (k : Kind) (status : Status) (before : Option Outcome) → (k ≡ kind.Checkpointer) ⊎ (k ≡ kind.Writer) → ComesTo (idle_run pid generation k status) before before
idle_comes pid generation k status None is = tt
idle_comes pid generation k status (Some (outcomes.Closed closed)) is = tt
idle_comes pid generation k status (Some (outcomes.Refused why)) (inl is) = inr (refl, λ last. ap (λ (x : Kind). startup_or last x (idle_run pid generation k status)) is)
idle_comes pid generation k status (Some (outcomes.Refused why)) (inr is) = inr (refl, λ last. ap (λ (x : Kind). startup_or last x (idle_run pid generation k status)) is)

-- a startup child that wasn't to read the log says why
pub refused_comes : (pid generation : ℕ) (why : Option StartWhy) (noted : List BookEntry) (before now : Option Outcome) → now ≡ option_map outcomes.Refused why → StartNotes pid generation (Err why) noted
    → ComesTo (startup_run pid generation (Err why) noted) before now
refused_comes pid generation None noted before now is notes = subst (λ (o : Option Outcome). ComesTo (startup_run pid generation (Err None) noted) before o) (sym is) tt
refused_comes pid generation (Some why) noted before now is notes =
    subst (λ (o : Option Outcome). ComesTo (startup_run pid generation (Err (Some why)) noted) before o) (sym is) (inl (notes, refl))
