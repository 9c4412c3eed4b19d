-- Where the disk hasn't failed, each child ends by itself.
use Rattle.std.{proofs.Common.{List, Option, Result, Ok, Err, ℕ, refl, ◌≡◌, ◌⊎◌, inl, inr, true, ap, sym, subst, [], ◌∷◌}, specs.{Prelude.fold, List.AllByRecursion}}
use Rattle.pm_server.specs.{pm_query.declared.book.BookEntry.BookEntry, declared.end.StartWhy.StartWhy, pm_segment.{Unread.has_break, UnreadLaws.{break_before, break_behind}}, pm_exit.declared.child.Kind.Kind}
use Rattle.pm_once_children.specs.{AuxiliaryRuns.{startup_run, CloseNotes, checkpointer_run, Heard, IsRunAs, AreToldBehind, heard_after}, Calm.{IsFineExit, EndsItself, HasFineSession, EndThemselves}, declared.checkpointer.Closed.{Closed, TheVariants.{Made, Crashed, Full, Short}}}
use Rattle.pm_server.specs.pm_exit.declared.child.Kind.TheVariants as kind
use Rattle.pm_once_acts.specs.pm_supervisor_chain.Steps.{ChildRun, Runs, Notes, Renews, RunsOn, Step, book_by, book_of, journal_by}

start_fine : (pid generation : ℕ) (read : Result ℕ (Option StartWhy)) (noted : List BookEntry) → IsFineExit (startup_run pid generation read noted)
start_fine pid generation (Ok kept) noted = refl
start_fine pid generation (Err why) noted = refl

-- a checkpointer that crashed has noted a fault
close_fine : (pid generation : ℕ) (closed : Closed) (noted : List BookEntry) → CloseNotes pid generation closed noted → IsFineExit (checkpointer_run pid generation closed noted) ⊎ (has_break noted ≡ true)
close_fine pid generation Made noted notes = inl refl
close_fine pid generation Crashed noted notes = inr (ap has_break notes.2)
close_fine pid generation Full noted notes = inl refl
close_fine pid generation Short noted notes = inl refl

one_ends : (heard : Heard) (run : ChildRun) (at : ℕ) (k : Kind) → run.kind ≡ k → IsRunAs heard k run → HasFineSession (Runs run at) → (has_break run.noted ≡ true → ⊥) → EndsItself heard (Runs run at)
one_ends heard run at kind.Startup is told fine unbroken = inl (subst IsFineExit (sym told.2) (start_fine run.pid run.generation told.0 run.noted))
one_ends heard run at kind.Checkpointer is (inl quit) fine unbroken = inr quit
one_ends heard run at kind.Checkpointer is (inr closes) fine unbroken = elim (close_fine run.pid run.generation closes.2 run.noted closes.3) [
  | inl ends ↦ inl (subst IsFineExit (sym closes.4) ends)
  | inr breaks ↦ absurd (unbroken breaks)
]
one_ends heard run at kind.Writer is (inl quit) fine unbroken = inr quit
one_ends heard run at kind.Writer is (inr ends) fine unbroken = inl (subst IsFineExit (sym ends.2) refl)
one_ends heard run at kind.Worker is told fine unbroken = absurd told
one_ends heard run at kind.Backend is told fine unbroken = inl (fine is)
one_ends heard run at kind.DeadEnd is told fine unbroken = absurd told

pub end_themselves : (heard : Heard) (steps : List Step) → AreToldBehind heard steps → AllByRecursion HasFineSession steps → (has_break (book_of steps) ≡ true → ⊥) → EndThemselves heard steps
end_themselves heard [] told fine unbroken = tt
end_themselves heard (Notes e ∷ steps) told fine unbroken = (tt, end_themselves (fold heard_after heard (journal_by (Notes e))) steps told.1 fine.1 unbroken)
end_themselves heard (Runs run at ∷ steps) told fine unbroken = (
  one_ends heard run at run.kind refl told.0 fine.0 (λ breaks. unbroken (break_before run.noted (book_of steps) breaks)),
  end_themselves (fold heard_after heard (journal_by (Runs run at))) steps told.1 fine.1 (λ breaks. unbroken (break_behind run.noted (book_of steps) breaks)),
)
end_themselves heard (RunsOn run ∷ steps) told fine unbroken =
    (tt, end_themselves (fold heard_after heard (journal_by (RunsOn run))) steps told.1 fine.1 (λ breaks. unbroken (break_behind run.noted (book_of steps) breaks)))
end_themselves heard (Renews generation gone ∷ steps) told fine unbroken =
    (tt, end_themselves (fold heard_after heard (journal_by (Renews generation gone))) steps told.1 fine.1 (λ breaks. unbroken (break_behind (book_by (Renews generation gone)) (book_of steps) breaks)))
