-- Behind a crash after which nothing is started, nothing is.
use Rattle.std.{proofs.{Common.{◌≡◌, ℕ, Bool, false, ◌||◌, List, [], ◌∷◌, refl, sym, ◌∙◌, arith}, lemmas.Bool.{both_ways, true≢false}}, specs.List.{AllByRecursion, fold}}
use Rattle.pm_state.{specs.{pm_modes.Strength.strengthen_of, pm_supervisor.{declared.Ending.Ending, Children.{count_of, is_checkpointer, is_session, is_startup_child, is_writer}}, declared.{action.Action.Action, event.PmEvent.PmEvent, machine.Machine.Machine}, Machine.{Exited, step}, Requests.asked_with, Restarts.Counts, TurnRules.is_not_running, Journal.{AreLegal, Follows, MayCome, Replay, all_replayed, caused, dues_after, replayed, reported}}, proofs.ReplayLaws.{AreCounted, Behind, acts_in, acts_in_dues, first_on, follows_on, rested, startup_there, there_counts, was_there}}
use Rattle.pm_state.specs.pm_exit.declared.child.Kind.TheVariants as kind
use Rattle.pm_state.specs.pm_supervisor.declared.Ending.TheVariants as endings
use Rattle.pm_state.specs.declared.event.PmEvent.TheVariants as entry
use Rattle.pm_supervisor_crashes.{specs.Crashes.{IsUnasked}, proofs.{Calm.over_after, Last.{HasEnded, IsLast, IsLastEntry, IsLeft, asked_left, dead_end_left, is_after_crash, is_startup_failed, keeps_failed, keeps_left, nobody_left, none_accepted, ticked_left}}}

-- what holds is kept by each entry, which is one of the last ones
abbrev pub GoesOn : (Bool → List Action → Machine → Type 0) → Ending → Type 0
GoesOn U how =
    (gives : ℕ → Bool) (over : Bool) (r : Replay) (e : PmEvent) → Follows gives r e → Counts r.machine r.shown.children → IsUnasked e → U over (acts_in r.due) r.machine
    → Behind Bool over_after U (IsLastEntry how) over r e

-- ---- a startup child that failed

pub failed_on : GoesOn (IsLast HasEnded is_startup_failed) endings.StartupFailed
failed_on gives over r e may counts unasked its =
    follows_on Bool over_after (IsLast HasEnded is_startup_failed) (IsLastEntry endings.StartupFailed) keeps_failed gives over r e r.due refl may
    (λ none free rests. absurd (true≢false (sym rests.holds ∙ free.0))) its

-- ---- a checkpointer that couldn't make the last checkpoint

-- where nothing was due
left_rested : (over : Bool) (r : Replay) (e : PmEvent) (acts : List Action) → r.due ≡ [] → acts_in (dues_after r.machine e) ≡ acts
    → IsLast IsLeft is_after_crash over acts (reported e (caused r.machine e).after) → IsLast IsLeft is_after_crash over (acts_in (replayed r e).due) (replayed r e).machine
left_rested over r e acts none is its = rested Bool over_after (IsLast IsLeft is_after_crash) (IsLastEntry endings.AfterCrash) keeps_left over r e acts none is its

come_left : (gives : ℕ → Bool) (over : Bool) (r : Replay) (e : PmEvent) → r.due ≡ [] → r.machine.ended ≡ false → MayCome gives r e → Counts r.machine r.shown.children → IsUnasked e
    → IsLast IsLeft is_after_crash over [] r.machine → Behind Bool over_after (IsLast IsLeft is_after_crash) (IsLastEntry endings.AfterCrash) over r e
come_left gives over r (entry.Accepted pid decision) none on may counts unasked its = absurd (none_accepted r.machine its.holds may.0.1)
come_left gives over r (entry.Exited pid kind.Startup status was_active at) none on may counts unasked its =
    absurd (both_ways (is_not_running r.machine.startup)
    (startup_there (count_of is_startup_child r.shown.children) (is_not_running r.machine.startup) r.machine.startup_due (there_counts is_startup_child pid kind.Startup r.shown.children may.0 refl) counts.startup)
    (nobody_left r.machine its.holds).1)
come_left gives over r (entry.Exited pid kind.Checkpointer status was_active at) none on may counts unasked its =
    absurd (both_ways r.machine.checkpointer (nobody_left r.machine its.holds).2
    (was_there (count_of is_checkpointer r.shown.children) r.machine.checkpointer (there_counts is_checkpointer pid kind.Checkpointer r.shown.children may.0 refl) counts.checkpointer))
come_left gives over r (entry.Exited pid kind.Writer status was_active at) none on may counts unasked its =
    absurd (both_ways r.machine.writer (nobody_left r.machine its.holds).3
    (was_there (count_of is_writer r.shown.children) r.machine.writer (there_counts is_writer pid kind.Writer r.shown.children may.0 refl) counts.writer))
come_left gives over r (entry.Exited pid kind.Worker status was_active at) none on may counts unasked its =
    absurd (omega (arith, there_counts is_session pid kind.Worker r.shown.children may.0 refl, counts.sessions, (nobody_left r.machine its.holds).0))
come_left gives over r (entry.Exited pid kind.Backend status was_active at) none on may counts unasked its =
    absurd (omega (arith, there_counts is_session pid kind.Backend r.shown.children may.0 refl, counts.sessions, (nobody_left r.machine its.holds).0))
come_left gives over r (entry.Exited pid kind.DeadEnd status was_active at) none on may counts unasked its = (
  (refl, tt),
  left_rested (over || false) r (entry.Exited pid kind.DeadEnd status was_active at) (step r.machine (Exited pid kind.DeadEnd status was_active at)).acts none (acts_in_dues _)
      (dead_end_left over r.machine pid status was_active at its),
)
come_left gives over r (entry.Asked mode at) none on may counts unasked its = (
  (tt, tt),
  left_rested over r (entry.Asked mode at) (asked_with (strengthen_of r.machine.shutdown mode) r.machine at).acts none (acts_in_dues _) (asked_left over mode at r.machine unasked its),
)
come_left gives over r (entry.KillAsked pid) none on may counts unasked its = absurd unasked
come_left gives over r (entry.KillSent at) none on may counts unasked its = ((tt, tt), left_rested over r (entry.KillSent at) [] none refl (ticked_left over at r.machine its))
come_left gives over r e none on may counts unasked its =
    first_on Bool over_after (IsLast IsLeft is_after_crash) (IsLastEntry endings.AfterCrash) keeps_left over r e none on may its

pub left_on : GoesOn (IsLast IsLeft is_after_crash) endings.AfterCrash
left_on gives over r e may counts unasked its =
    follows_on Bool over_after (IsLast IsLeft is_after_crash) (IsLastEntry endings.AfterCrash) keeps_left gives over r e r.due refl may
    (λ none free rests. come_left gives over r e none free.0 free.2 counts unasked rests) its

-- ---- what is left of a journal

-- each entry is one of the last ones, and this is what they leave
pub record StaysLast (U : Bool → List Action → Machine → Type 0) (how : Ending) (over : Bool) (r : Replay) (journal : List PmEvent) : Type 0 where
  pub entries : AllByRecursion (IsLastEntry how) journal
  pub last : U (fold over_after over journal) (acts_in (all_replayed r journal).due) (all_replayed r journal).machine

pub last_on : (U : Bool → List Action → Machine → Type 0) (how : Ending) → GoesOn U how → (gives : ℕ → Bool) (over : Bool) (r : Replay) (journal : List PmEvent) → AreLegal gives r journal
    → AreCounted r journal → AllByRecursion IsUnasked journal → U over (acts_in r.due) r.machine → StaysLast U how over r journal
last_on U how goes gives over r [] legal counted unasked its = record { entries = tt; last = its }
last_on U how goes gives over r (e ∷ journal) legal counted unasked its =
    let on = goes gives over r e legal.0 counted.0 unasked.0 its in
    let rest = last_on U how goes gives (over_after over e) (replayed r e) journal legal.1 counted.1 unasked.1 on.1 in
    record { entries = (on.0, rest.entries); last = rest.last }
