-- What is known of the store where a server ends.
use Rattle.std.{proofs.Common.{◌≡◌, ◌⊎◌, inl, inr, ℕ, List, Option, Some, refl, subst}, specs.Prelude.{IfSome, true}}
use Rattle.pm_server.{specs.{pm_disk.Cause.Rose, pm_segment.Redos.{IsAtLastEpoch, is_broken}, Ends.IsKnownAt, declared.end.{ServerEnd.{ServerEnd, TheVariants.{Clean, Abnormal, NoThread, NoMemory}}, StartWhy.TheVariants.{Redo, Killed}, Why.TheVariants.{AfterCrash, StartupFailed, RestartOff, GenerationsSpent}}}, proofs.StoryLaws.broken_rose}
use Rattle.pm_supervisor_chain.specs.Steps.{Step}
use Rattle.pm_once.specs.{Goes.IsEndOf, Knows.Knows, View.View}
use Rattle.pm_once_children.specs.{Outcomes.HasComeTo, declared.{checkpointer.Closed.TheVariants.Full, outcome.Outcome.{Outcome, TheVariants.Closed}}}

crash_caused : (from : ℕ) (now : View) → Knows from now → (now.outcome ≡ Some (Closed Full)) ⊎ (is_broken now.store.live ≡ true)
    → Rose from now.store.faults ⊎ IfSome now.store.files (λ files. ∥ IsAtLastEpoch files ∥₁)
crash_caused from now known (inl full) = inr (subst (λ (o : Option Outcome). HasComeTo o from now.store) full known.come)
crash_caused from now known (inr broken) = inl (broken_rose from now.store.faults now.store.live known.counted.shown broken)

pub known_at : (end : ServerEnd) (steps : List Step) (from : ℕ) (now : View) → IsEndOf end steps now → Knows from now
    → ((end ≡ Abnormal RestartOff) ⊎ (end ≡ Abnormal GenerationsSpent) → Rose from now.store.faults) → IsKnownAt end from now.store
known_at Clean steps from now ends known rose = subst (λ (o : Option Outcome). HasComeTo o from now.store) ends.1 known.come
known_at (Abnormal AfterCrash) steps from now ends known rose = crash_caused from now known ends.1
known_at (Abnormal (StartupFailed (Redo fault))) steps from now ends known rose = subst (λ (o : Option Outcome). HasComeTo o from now.store) ends.1 known.come
known_at (Abnormal (StartupFailed Killed)) steps from now ends known rose = subst (λ (o : Option Outcome). HasComeTo o from now.store) ends.1 known.come
known_at (Abnormal RestartOff) steps from now ends known rose = rose (inl refl)
known_at (Abnormal GenerationsSpent) steps from now ends known rose = rose (inr refl)
known_at NoThread steps from now ends known rose = absurd ends
known_at NoMemory steps from now ends known rose = tt
