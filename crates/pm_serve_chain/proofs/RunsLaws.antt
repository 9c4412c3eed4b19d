-- What the runs of one slot are to the chain: whom they let into the store, and which redos they noted.
use Rattle.std.{proofs.Common.{◌≡◌, ◌⊎◌, inl, inr, ℕ, List, [], ◌∷◌, length, refl, sym, ap, subst, ◌∙◌, arith}, specs.{Prelude.map, List.{AllByRecursion, flat_map}}}
use Rattle.pm_serve_crew.specs.{pm_facts.Lists.each_both, pm_session_answers.Own.entries_by, pm_board.pm_board_words.declared.views.PastChild.PastChild, pm_supervisor_chain.Chain.{InGeneration, IsAmong, IsPidOf, attached_of, kept_of, redos_of}, Pids.AreEntriesOf, Redos.redo_told, Uses.{HasUsed, IsWorkOf, UsesStore}, pm_query.declared.book.BookEntry.{BookEntry, TheVariants.{Attached, Redone}}, pm_board_acts.Board.begun_of, pm_worker.{declared.mail.MailTold.MailTold, Runs.{Run, noted_by}}}
use Rattle.pm_serve_chain.proofs.{BookLaws.{AttachedOnce, OfRedo, OfUser, redos_by}, JournalLaws.{MayUse, each_so}}

-- the facts of a run beside the chain: it may use the store, and its entries in the book are those that it noted
pub record IsIn (users : List InGeneration) (book : List BookEntry) (run : Run) : Type 0 where
  pub uses : UsesStore run.child run.noted
  pub may : MayUse users (begun_of run.child)
  pub its : entries_by run.child.offer.pid book ≡ run.noted

-- of a child that attaches: it was started so, and attached once
abbrev pub IsUser : List InGeneration → List BookEntry → InGeneration → Type 0
IsUser users book user = IsAmong user users × AttachedOnce user.number book

attached_none : (child : PastChild MailTold) (work : List BookEntry) → AllByRecursion (IsWorkOf child) work → attached_of work ≡ []
attached_none child [] all = refl
attached_none child (Attached pid generation ∷ work) all = absurd all.0
attached_none child (_ ∷ work) all = attached_none child work all.1

users_none : (P : InGeneration → Type 0) (child : PastChild MailTold) (work : List BookEntry) → AllByRecursion (IsWorkOf child) work → AllByRecursion (OfUser P) work
users_none P child [] all = tt
users_none P child (Attached pid generation ∷ work) all = absurd all.0
users_none P child (_ ∷ work) all = (tt, users_none P child work all.1)

run_users : (users : List InGeneration) (book : List BookEntry) (run : Run) → IsIn users book run → AllByRecursion (OfUser (IsUser users book)) run.noted
run_users users book run is = by is.uses.inside
  where
    by : (run.noted ≡ []) ⊎ HasUsed run.child run.noted → AllByRecursion (OfUser (IsUser users book)) run.noted
    by (inl nothing) = subst (AllByRecursion (OfUser (IsUser users book))) (sym nothing) tt
    by (inr used) =
        let one : length (attached_of (entries_by run.child.offer.pid book)) ≡ 1 = ap (λ (entries : List BookEntry). length (attached_of entries)) (is.its ∙ used.is)
        ∙ ap (λ (l : List InGeneration). length (record { number = run.child.offer.pid; generation = run.child.offer.generation } ∷ l)) (attached_none run.child used.work used.of_it) in
        subst (AllByRecursion (OfUser (IsUser users book))) (sym used.is)
        ((is.may used.serves, omega (arith, one)), users_none (IsUser users book) run.child used.work used.of_it)

pub all_run_users : (users : List InGeneration) (book : List BookEntry) (runs : List Run) → AllByRecursion (IsIn users book) runs → AllByRecursion (OfUser (IsUser users book)) (noted_by runs)
all_run_users users book [] each = tt
all_run_users users book (run ∷ runs) each =
    each_both (OfUser (IsUser users book)) run.noted (noted_by runs) (run_users users book run each.0) (all_run_users users book runs each.1)

-- where a child has exited, each end of redo that it tells of is one of these
abbrev pub IsToldIn : List ℕ → List InGeneration → ℕ → List InGeneration → Type 0
IsToldIn exited ends pid told = IsPidOf pid exited → AllByRecursion (λ end. IsAmong end ends) told

abbrev pub HasEnd : List ℕ → List InGeneration → ℕ → InGeneration → Type 0
HasEnd exited ends pid kept = IsPidOf pid exited → IsAmong kept ends

work_redos : (exited : List ℕ) (ends : List InGeneration) (child : PastChild MailTold) (work : List BookEntry) → IsToldIn exited ends child.offer.pid (redo_told child)
    → AllByRecursion (IsWorkOf child) work → AllByRecursion (OfRedo (HasEnd exited ends)) work
work_redos exited ends child [] told all = tt
work_redos exited ends child (Attached pid generation ∷ work) told all = absurd all.0
work_redos exited ends child (Redone pid generation kept ∷ work) told all = (
  (λ there. (subst (AllByRecursion (λ end. IsAmong end ends)) all.0.1 (told (subst (λ (p : ℕ). IsPidOf p exited) all.0.0 there))).0),
  work_redos exited ends child work told all.1,
)
work_redos exited ends child (_ ∷ work) told all = (tt, work_redos exited ends child work told all.1)

run_redos : (exited : List ℕ) (ends : List InGeneration) (run : Run) → UsesStore run.child run.noted → IsToldIn exited ends run.child.offer.pid (redo_told run.child)
    → AllByRecursion (OfRedo (HasEnd exited ends)) run.noted
run_redos exited ends run uses told = by uses.inside
  where
    by : (run.noted ≡ []) ⊎ HasUsed run.child run.noted → AllByRecursion (OfRedo (HasEnd exited ends)) run.noted
    by (inl nothing) = subst (AllByRecursion (OfRedo (HasEnd exited ends))) (sym nothing) tt
    by (inr used) = subst (AllByRecursion (OfRedo (HasEnd exited ends))) (sym used.is) (tt, work_redos exited ends run.child used.work told used.of_it)

pub all_run_redos : (exited : List ℕ) (ends : List InGeneration) (runs : List Run) → AllByRecursion (λ run. UsesStore run.child run.noted) runs
    → AllByRecursion (λ run. IsToldIn exited ends run.child.offer.pid (redo_told run.child)) runs → AllByRecursion (OfRedo (HasEnd exited ends)) (noted_by runs)
all_run_redos exited ends [] uses told = tt
all_run_redos exited ends (run ∷ runs) uses told =
    each_both (OfRedo (HasEnd exited ends)) run.noted (noted_by runs) (run_redos exited ends run uses.0 told.0) (all_run_redos exited ends runs uses.1 told.1)

-- the end of redo that a run's child tells of, the book has
run_ends : (users : List InGeneration) (book : List BookEntry) (run : Run) → IsIn users book run → AllByRecursion (λ end. IsAmong end (kept_of (redos_of book))) (redo_told run.child)
run_ends users book run is =
    each_so (λ end. IsAmong end (kept_of (redos_of run.noted))) (λ end. IsAmong end (kept_of (redos_of book)))
    (λ end among. redos_by run.child.offer.pid end book (subst (λ (entries : List BookEntry). IsAmong end (kept_of (redos_of entries))) (sym is.its) among)) (redo_told run.child) is.uses.redo

pub all_run_ends : (users : List InGeneration) (book : List BookEntry) (runs : List Run) → AllByRecursion (IsIn users book) runs
    → AllByRecursion (λ end. IsAmong end (kept_of (redos_of book))) (flat_map redo_told (map (λ run. run.child) runs))
all_run_ends users book [] each = tt
all_run_ends users book (run ∷ runs) each =
    each_both (λ end. IsAmong end (kept_of (redos_of book))) (redo_told run.child) (flat_map redo_told (map (λ r. r.child) runs)) (run_ends users book run each.0)
    (all_run_ends users book runs each.1)

-- what holds of each run, side by side
pub all_in : (users : List InGeneration) (book : List BookEntry) (runs : List Run) → AllByRecursion (λ run. UsesStore run.child run.noted) runs
    → AllByRecursion (λ run. MayUse users (begun_of run.child)) runs → AreEntriesOf book runs → AllByRecursion (IsIn users book) runs
all_in users book [] uses may its = tt
all_in users book (run ∷ runs) uses may its = (record { uses = uses.0; may = may.0; its = its.0 }, all_in users book runs uses.1 may.1 its.1)
