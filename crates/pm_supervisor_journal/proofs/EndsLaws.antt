-- What the journal of a server tells of its end.
use Rattle.std.proofs.Common.{◌≡◌, ℕ, ◌+◌, List, [], ◌∷◌, ◌++◌, Some, sym, subst, ◌∙◌}
use Rattle.pm_state.specs.{pm_supervisor.declared.Limits.Limits, declared.{action.Action.Action, event.PmEvent.PmEvent}, Journal.{AreLegal, Follows, all_replayed, dues, entries_of, replay_begun, without_first}, Restarts.AreAsSet}
use Rattle.pm_state.specs.declared.action.Action.TheVariants as act
use Rattle.pm_state.specs.declared.event.PmEvent.TheVariants as entry
use Rattle.pm_supervisor_journal.{specs.{Standing.{Standing, first_due}, Stands.{Stands, any_moment}}, proofs.NextsLaws.first_is}

-- the last entries are as the options say, where all are
pub last_set : (limits : Limits) (xs ys : List PmEvent) → AreAsSet limits (xs ++ ys) → AreAsSet limits ys
last_set limits [] ys all = all
last_set limits (x ∷ xs) ys all = last_set limits xs ys all.1

-- the next entry would be the reset of a generation that has no number
pub spent_next : (limits : Limits) (journal : List PmEvent) (s : Standing) (h : _) → Stands limits (Some journal) s h → s.generation ≡ 4294967295 → first_due s.due ≡ Some act.Reset
    → Follows any_moment (all_replayed (replay_begun limits) journal) (entry.Reset 4294967296)
spent_next limits journal s h stands last first =
    let r = all_replayed (replay_begun limits) stands.journal in
    let legal : AreLegal any_moment r (entries_of 0 s.called_at r (dues (act.Reset ∷ without_first s.due))) =
    subst (λ (due : List Action). AreLegal any_moment r (entries_of 0 s.called_at r (dues due))) (first_is s.due act.Reset first) stands.coming.legal in
    let follows : Follows any_moment r (entry.Reset 4294967296) =
    subst (λ (n : ℕ). Follows any_moment r (entry.Reset (n + 1))) (sym stands.remembers.generation ∙ last) legal.0 in
    subst (λ (l : List PmEvent). Follows any_moment (all_replayed (replay_begun limits) l) (entry.Reset 4294967296)) (sym stands.told_is) follows
