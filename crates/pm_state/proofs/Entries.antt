-- An entry of a legal journal is caused by what happened, is the first act of a row of a turn, or is an act that is due.
use Rattle.std.{proofs.Common.{◌≡◌, ℕ, Bool, false, List, [], ◌∷◌, refl, sym, subst}, specs.Prelude.IsSomeAnd}
use Rattle.pm_supervisor.specs.{pm_exit.declared.child.{Status.Status, Kind.Kind}, pm_modes.declared.Mode.Mode, pm_admit.{declared.Cac.Cac, Admission.decide_of}, Children.child_of, Supervisor.Shared}
use Rattle.pm_state.{specs.{declared.{action.Action.Action, event.PmEvent.PmEvent}, Machine.{MayAccept, view_of}, Journal.{Do, Due, EndRedo, Fits, FitsFirst, Follows, FollowsIn, MayCome, Replay, entry_of, row_of}}, proofs.Journal.is_kill}
use Rattle.pm_state.specs.declared.action.Action.TheVariants as act
use Rattle.pm_state.specs.declared.event.PmEvent.TheVariants as entry

-- the entry of an act is the one that the act asks for
record IsEntryOf (s : Shared) (d : Due) (e : PmEvent) : Type 0 where
  kept : ℕ
  is : e ≡ entry_of kept 0 s d
  other : is_kill d ≡ false

entry-of : (s : Shared) (d : Due) (e : PmEvent) → Fits s d e → IsEntryOf s d e
entry-of s (Do (act.Start k)) (entry.Started pid given) fits = record { kept = 0; is = rw (fits.0, fits.1) refl; other = refl }
entry-of s (Do (act.Quit why)) (entry.QuitSent reason) fits = record { kept = 0; is = rw fits refl; other = refl }
entry-of s (Do act.Terminate) entry.TerminateSent fits = record { kept = 0; is = refl; other = refl }
entry-of s (Do act.AskCheckpoint) entry.CheckpointAsked fits = record { kept = 0; is = refl; other = refl }
entry-of s (Do act.Ready) (entry.Ready generation) fits = record { kept = 0; is = rw fits refl; other = refl }
entry-of s (Do act.Reset) (entry.Reset generation) fits = record { kept = 0; is = rw fits refl; other = refl }
entry-of s (Do (act.Say line)) (entry.Said written) fits = record { kept = 0; is = rw fits refl; other = refl }
entry-of s (Do (act.End how)) (entry.Ended ending) fits = record { kept = 0; is = rw fits refl; other = refl }
entry-of s EndRedo (entry.RedoEnded generation kept) fits = record { kept = kept; is = rw fits refl; other = refl }
entry-of s d e fits = absurd fits

-- what is to be shown of an entry, by what it is
pub record EntryCases (gives : ℕ → Bool) (P : Replay → PmEvent → Type 0) : Type 0 where
  pub accepted :
      (r : Replay) (pid : ℕ) (decision : Cac) → r.due ≡ [] → MayAccept r.machine → decision ≡ decide_of (view_of r.machine)
      → P r (entry.Accepted pid decision)
  pub exited :
      (r : Replay) (pid : ℕ) (k : Kind) (status : Status) (was_active : Bool) (at : ℕ) → r.due ≡ [] → r.machine.ended ≡ false
      → IsSomeAnd (child_of pid r.shown.children) (λ c. c.kind ≡ k) → P r (entry.Exited pid k status was_active at)
  pub asked : (r : Replay) (mode : Mode) (at : ℕ) → r.due ≡ [] → r.machine.ended ≡ false → P r (entry.Asked mode at)
  pub kill_asked : (r : Replay) (pid : ℕ) → r.due ≡ [] → P r (entry.KillAsked pid)
  pub kill_sent : (r : Replay) (at : ℕ) → r.due ≡ [] → r.machine.ended ≡ false → P r (entry.KillSent at)
  -- the first act of a row of a turn
  pub first :
      (r : Replay) (a : Action) (rest : List Action) (kept : ℕ) → r.due ≡ [] → r.machine.ended ≡ false → is_kill (Do a) ≡ false
      → (row_of r.machine).acts ≡ a ∷ rest → P r (entry_of kept 0 r.shown (Do a))
  -- an act that is due, or the end of redo
  pub due : (r : Replay) (d : Due) (ds : List Due) (kept : ℕ) → r.due ≡ d ∷ ds → is_kill d ≡ false → P r (entry_of kept 0 r.shown d)

first-by : (gives : ℕ → Bool) (P : Replay → PmEvent → Type 0) → EntryCases gives P → (r : Replay) (e : PmEvent) (acts : List Action) → r.due ≡ []
    → r.machine.ended ≡ false → (row_of r.machine).acts ≡ acts → FitsFirst r.shown acts e → P r e
first-by gives P cases r e [] none on is fits = absurd fits
first-by gives P cases r e (a ∷ rest) none on is fits =
    let of : IsEntryOf r.shown (Do a) e = entry-of r.shown (Do a) e fits in
    subst (P r) (sym of.is) (cases.first r a rest of.kept none on of.other is)

come-by : (gives : ℕ → Bool) (P : Replay → PmEvent → Type 0) → EntryCases gives P → (r : Replay) (e : PmEvent) → r.due ≡ []
    → r.machine.ended ≡ false → MayCome gives r e → P r e
come-by gives P cases r (entry.Accepted pid decision) none on may = cases.accepted r pid decision none may.0 may.2
come-by gives P cases r (entry.Exited pid k status was_active at) none on may = cases.exited r pid k status was_active at none on may.0
come-by gives P cases r (entry.Asked mode at) none on may = cases.asked r mode at none on
come-by gives P cases r (entry.KillAsked pid) none on may = cases.kill_asked r pid none
come-by gives P cases r (entry.KillSent at) none on may = cases.kill_sent r at none on
come-by gives P cases r e none on may = first-by gives P cases r e (row_of r.machine).acts none on refl may

follows-by : (gives : ℕ → Bool) (P : Replay → PmEvent → Type 0) → EntryCases gives P → (r : Replay) (e : PmEvent) (ds : List Due) → r.due ≡ ds
    → FollowsIn ds gives r e → P r e
follows-by gives P cases r e [] is may = come-by gives P cases r e is may.0 may.2
follows-by gives P cases r e (d ∷ ds) is fits =
    let of : IsEntryOf r.shown d e = entry-of r.shown d e fits in
    subst (P r) (sym of.is) (cases.due r d ds of.kept is of.other)

-- by what an entry is, it holds of each that may follow
pub by-entry : (gives : ℕ → Bool) (P : Replay → PmEvent → Type 0) → EntryCases gives P → (r : Replay) (e : PmEvent) → Follows gives r e → P r e
by-entry gives P cases r e may = follows-by gives P cases r e r.due refl may
