-- What each entry of a legal journal keeps, by what the entry is: but for the ends of children.
use Rattle.std.proofs.Common.{◌≡◌, ℕ, Bool, false, List, [], ◌∷◌, refl, sym, subst}
use Rattle.pm_state.{specs.{pm_modes.{declared.Mode.{Mode, TheVariants.Smart}, Strength.strengthen_of}, pm_admit.{declared.Cac.Cac, Admission.decide_of}, declared.{action.Action.Action, event.PmEvent.PmEvent, machine.Machine.Machine}, Machine.{accepted_as, view_of}, Requests.{asked_with, ticked_at}, Journal.{Follows, MayCome, Replay}}, proofs.ReplayLaws.{Behind, Keeps, acts_in, acts_in_dues, first_on, follows_on, rested}}
use Rattle.pm_state.specs.declared.action.Action.TheVariants as act
use Rattle.pm_state.specs.declared.event.PmEvent.TheVariants as entry
use Rattle.pm_once.specs.pm_once_children.AuxiliaryRuns.{Heard, heard_after}

-- the entry is no end of a child, and asks for no other shutdown than a smart one
abbrev pub IsPlain : PmEvent → Type 0
IsPlain (entry.Exited pid kind status was_active at) = ⊥
IsPlain (entry.Asked mode at) = mode ≡ Smart
IsPlain _ = Unit {0}

-- What was heard, what is due and the machine: what holds of them is kept, and such entries alone are noted.
pub record KeepsPlain (U : Heard → List Action → Machine → Type 0) (P : PmEvent → Type 0) : Type 0 where
  pub due : Keeps Heard heard_after U P
  pub accepted :
      (h : Heard) (pid : ℕ) (decision : Cac) (m : Machine) → m.ended ≡ false → U h [] m
      → P (entry.Accepted pid decision) × U h [] (accepted_as (decide_of (view_of m)) m)
  pub asked :
      (h : Heard) (at : ℕ) (m : Machine) → m.ended ≡ false → U h [] m
      → P (entry.Asked Smart at) × U h (asked_with (strengthen_of m.shutdown Smart) m at).acts (asked_with (strengthen_of m.shutdown Smart) m at).after
  pub kill : (h : Heard) (pid : ℕ) → P (entry.KillAsked pid)
  pub ticked :
      (h : Heard) (at : ℕ) (m : Machine) → m.ended ≡ false → (ticked_at m.abort_at m at).acts ≡ act.KillAll ∷ [] → U h [] m
      → P (entry.KillSent at) × U h [] (ticked_at m.abort_at m at).after

module _ (U : Heard → List Action → Machine → Type 0) (P : PmEvent → Type 0) (keeps : KeepsPlain U P) where
  come_on : (gives : ℕ → Bool) (h : Heard) (r : Replay) (e : PmEvent) → r.due ≡ [] → r.machine.ended ≡ false → MayCome gives r e → IsPlain e → U h [] r.machine
      → Behind Heard heard_after U P h r e
  come_on gives h r (entry.Accepted pid decision) none on may plain u =
      let kept = keeps.accepted h pid decision r.machine on u in (kept.0, rested Heard heard_after U P keeps.due h r (entry.Accepted pid decision) [] none refl kept.1)
  come_on gives h r (entry.Exited pid k status was_active at) none on may plain u = absurd plain
  come_on gives h r (entry.Asked mode at) none on may plain u =
      let kept = keeps.asked h at r.machine on u in
      subst (λ (x : Mode). Behind Heard heard_after U P h r (entry.Asked x at)) (sym plain)
      (kept.0, rested Heard heard_after U P keeps.due h r (entry.Asked Smart at) (asked_with (strengthen_of r.machine.shutdown Smart) r.machine at).acts none (acts_in_dues _) kept.1)
  come_on gives h r (entry.KillAsked pid) none on may plain u = (keeps.kill h pid, rested Heard heard_after U P keeps.due h r (entry.KillAsked pid) [] none refl u)
  come_on gives h r (entry.KillSent at) none on may plain u =
      let kept = keeps.ticked h at r.machine on may.1 u in (kept.0, rested Heard heard_after U P keeps.due h r (entry.KillSent at) [] none refl kept.1)
  come_on gives h r e none on may plain u = first_on Heard heard_after U P keeps.due h r e none on may u

  pub entry_on : (gives : ℕ → Bool) (h : Heard) (r : Replay) (e : PmEvent) → Follows gives r e → IsPlain e → U h (acts_in r.due) r.machine → Behind Heard heard_after U P h r e
  entry_on gives h r e may plain u =
      follows_on Heard heard_after U P keeps.due gives h r e r.due refl may (λ none free rests. come_on gives h r e none free.0 free.2 plain rests) u
