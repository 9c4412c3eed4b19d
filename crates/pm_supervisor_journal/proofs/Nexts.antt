-- The next act.
use Rattle.std.{proofs.Common.{◌≡◌, ◌-◌, ◌^◌, true, false, List, [], ◌∷◌, Some, None, refl, ap, sym, ◌∙◌, subst, arith}, specs.Prelude.{Option, Ok, Err, ◌<◌, is_some}}
use Rattle.pm_state.specs.{pm_supervisor.{declared.Limits.Limits, Steps.Trace}, declared.{action.Action.Action, event.PmEvent.PmEvent}, Starts.Owes, Journal.without_first, Laws.{TellsOfEachStart, WritesALegalJournal}}
use Rattle.pm_state.specs.declared.action.Action.TheVariants as act
use Rattle.pm_supervisor_journal.{specs.{Doing.{HasNumbers, MayReport}, Standing.{Standing, act_for, done, entry_for, first_due, is_spent, last_generation, next_in, next_of}, Stands.{HasPids, IsSettled, Stands}}, proofs.{NextsLaws.first_is, Acting.{may-report, settled-next, stands-next}}}
use Rattle.pm_outside.specs.Added.{Added}

first-none : (acts : List Action) → first_due acts ≡ None → acts ≡ []
first-none [] is = refl
first-none (a ∷ acts) is = absurd cc

-- nothing is due
pub next-none : (s : Standing) → first_due s.due ≡ None → next_of s ≡ record { answer = Ok None; entries = []; after = s }
next-none s is = ap (λ d. next_in d s) (first-none s.due is)

-- the next generation is due, and there is none
pub next-spent : (s : Standing) (a : Action) → first_due s.due ≡ Some a → is_spent a s ≡ true
    → next_of s ≡ record { answer = Err (record {}); entries = []; after = s }
next-spent s a is spent = ap (λ d. next_in d s) (first_is s.due a is) ∙ rw spent refl

-- an act is done
pub next-done : (s : Standing) (a : Action) → first_due s.due ≡ Some a → is_spent a s ≡ false
    → next_of s ≡ record { answer = Ok (Some (act_for a s)); entries = entry_for a s ∷ []; after = done a s }
next-done s a is unspent = ap (λ d. next_in d s) (first_is s.due a is) ∙ rw unspent refl

below-all : (s : Standing) → HasPids s → s.last_pid < 2 ^ 32 - 1
below-all s pids =
    elim (is_some s.machine.shutdown) as (λ v. is_some s.machine.shutdown ≡ v → s.last_pid < 2 ^ 32 - 1) [
      | true ↦ λ is. omega (arith, pids.asked is)
      | false ↦ λ is. omega (arith, pids.few is)
    ]
    refl

-- its numbers
pub has-numbers : (a : Action) (s : Standing) → first_due s.due ≡ Some a → HasPids s → (a ≡ act.Reset → s.generation < last_generation) → HasNumbers a s
has-numbers (act.Start k) s is pids further =
    below-all s pids
has-numbers (act.Quit why) s is pids further = tt
has-numbers act.Terminate s is pids further = tt
has-numbers act.KillAll s is pids further = tt
has-numbers act.AskCheckpoint s is pids further = tt
has-numbers act.Ready s is pids further = tt
has-numbers act.Reset s is pids further = further refl
has-numbers (act.Say line) s is pids further = tt
has-numbers (act.End how) s is pids further = tt

pub may-do : TellsOfEachStart → (limits : Limits) (told : Option (List PmEvent)) (s : Standing) (h : Trace) (a : Action) → first_due s.due ≡ Some a
    → Stands limits told s h → MayReport a s.machine
may-do tells limits told s h a is was =
    may-report tells a (without_first s.due) s.machine (subst (λ d. Owes d s.machine) (first_is s.due a is) was.coming.owes)

pub stands-done : WritesALegalJournal → TellsOfEachStart → (limits : Limits) (told now : Option (List PmEvent)) (s t : Standing) (h : Trace) (a : Action)
    → first_due s.due ≡ Some a → t ≡ done a s → Added (entry_for a s ∷ []) told now → Stands limits told s h → Stands limits now t h
stands-done writes tells limits told now s t h a is same adds was =
    subst (λ x. Stands limits now x h) (sym same) (stands-next writes tells limits told now s h a (without_first s.due) (first_is s.due a is) adds was)

pub settled-done : (s t : Standing) (a : Action) → first_due s.due ≡ Some a → t ≡ done a s → IsSettled s → IsSettled t
settled-done s t a is same was = subst IsSettled (sym same) (settled-next s a (without_first s.due) (first_is s.due a is) was)
