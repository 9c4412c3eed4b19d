-- Where a supervisor stands over its journal, whether that is told or not.
use Rattle.std.{proofs.Common.{◌≡◌, List, ◌++◌, Option, None, Some, sym, ◌∙◌, ap, subst}, specs.Prelude.IfSome}
use Rattle.pm_state.specs.{pm_supervisor.{declared.Limits.Limits, Steps.Trace}, declared.event.PmEvent.PmEvent}
use Rattle.pm_outside.specs.Added.{Added}
use Rattle.pm_supervisor_journal.specs.{Standing.Standing, Stands.Stands}

tells : (told : Option (List PmEvent)) (journal other : List PmEvent) → IfSome told (λ es. es ≡ journal) → journal ≡ other → IfSome told (λ es. es ≡ other)
tells None journal other is same = tt
tells (Some es) journal other is same = is ∙ same

pub stands_told : (limits : Limits) (told : Option (List PmEvent)) (journal : List PmEvent) (s : Standing) (h : Trace) → IfSome told (λ es. es ≡ journal) → Stands limits (Some journal) s h → Stands limits told s h
stands_told limits told journal s h is stands = record {
  journal = stands.journal;
  told_is = tells told journal stands.journal is stands.told_is;
  legal = stands.legal;
  remembers = stands.remembers;
  coming = stands.coming;
  past = stands.past;
  pids = stands.pids;
}

-- with more entries
pub told_more : (told now : Option (List PmEvent)) (journal more : List PmEvent) → IfSome told (λ es. es ≡ journal) → Added more told now → IfSome now (λ es. es ≡ journal ++ more)
told_more None now journal more is adds = subst (λ (t : Option (List PmEvent)). IfSome t (λ es. es ≡ journal ++ more)) (sym adds) tt
told_more (Some before) now journal more is adds = subst (λ (t : Option (List PmEvent)). IfSome t (λ es. es ≡ journal ++ more)) (sym adds) (ap (λ (j : List PmEvent). j ++ more) is)
