-- The law of ends.
use Rattle.std.{proofs.Common.{◌≡◌, inr, ℕ, Bool, true, false, not, List, [], ◌∷◌, ◌++◌, refl, sym, subst}, specs.{List.{AllByRecursion, fold}, Prelude.is_some}}
use Rattle.pm_state.{specs.{pm_exit.declared.child.{Kind.TheVariants.{Checkpointer, Startup}, Status.TheVariants.Code}, pm_supervisor.{declared.{Ending.Ending, Limits.Limits}, Children.{count_of, is_startup_child}}, declared.{action.Action.Action, event.PmEvent.PmEvent, machine.Machine.Machine}, Exits.is_shutdown, Laws.RestartsSafely, Machine.{Exited, step}, Restarts.Counts, TurnRules.is_not_running, Journal.{AreLegal, Due, Follows, IsLegal, Replay, all_replayed, caused, dues_after, replay_begun, replayed, reported, settled}}, proofs.ReplayLaws.{AreCounted, Ends, acts_in, acts_in_dues, are_counted, ends_at, legal_behind, legal_front, rested, replayed_append, startup_there, there_counts}}
use Rattle.pm_state.specs.pm_supervisor.declared.Ending.TheVariants as endings
use Rattle.pm_state.specs.declared.event.PmEvent.TheVariants as entry
use Rattle.pm_supervisor_journal.specs.Stands.{any_moment}
use Rattle.pm_supervisor_crashes.{specs.{Crashes.{HasNoCrash, IsUnasked, is_crash, stands_behind}, Ends.{EndsAtMostOnce, EndsSo, EndsStartupByCode, IsNoEndOf, IsNoReset, StartsNothing}, Laws.EndsForCause}, proofs.{Calm.{IsCalm, IsCalmEntry, not_over, over_after}, CalmJournals.{StaysCalm, ends_clean, none_over, stays_calm}, Last.{HasEnded, IsLast, IsLastEntry, IsLeft, checkpointer_crashes, is_after_crash, is_startup_failed, keeps_failed, startup_fails}, LastJournals.{GoesOn, StaysLast, failed_on, last_on, left_on}, ListLaws.{EndsBy, each_both, each_first, each_second, each_so, last_end, none_once, once_first, once_last}, Starts.starts_once}}

-- ---- what an entry behind such a crash says

nothing_no_reset : (e : PmEvent) → StartsNothing e → IsNoReset e
nothing_no_reset (entry.Reset generation) nothing = nothing
nothing_no_reset _ nothing = tt

nothing_codes : (e : PmEvent) → StartsNothing e → EndsStartupByCode e
nothing_codes (entry.Exited pid Startup status was_active at) nothing = absurd (let never : false ≡ true = nothing in cc)
nothing_codes (entry.Exited pid _ status was_active at) nothing = tt
nothing_codes _ nothing = tt

nothing_no_startup : (e : PmEvent) → StartsNothing e → IsNoEndOf is_startup_child e
nothing_no_startup (entry.Exited pid Startup status was_active at) nothing = absurd (let never : false ≡ true = nothing in cc)
nothing_no_startup (entry.Exited pid _ status was_active at) nothing = refl
nothing_no_startup _ nothing = tt

-- ---- behind the crash

-- An entry behind a calm front, that is no reset: what goes on behind it.
record Breaks (U : Bool → List Action → Machine → Type 0) (how : Ending) (limits : Limits) (before behind : List PmEvent) (e : PmEvent) : Type 0 where
  goes : GoesOn U how
  over : Bool
  calm : StaysCalm false (replay_begun limits) before
  no_reset : IsNoReset e
  no_end : EndsBy how e
  code : EndsStartupByCode e
  once : AllByRecursion (IsNoEndOf is_startup_child) behind → EndsAtMostOnce is_startup_child (before ++ e ∷ behind)
  its : U over (acts_in (replayed (all_replayed (replay_begun limits) before) e).due) (replayed (all_replayed (replay_begun limits) before) e).machine

ends_last : RestartsSafely → (U : Bool → List Action → Machine → Type 0) (how : Ending) (limits : Limits) (before behind : List PmEvent) (e : PmEvent)
    → IsLegal limits any_moment (before ++ e ∷ behind) → AllByRecursion IsUnasked (before ++ e ∷ behind) → Breaks U how limits before behind e
    → EndsSo how limits (before ++ e ∷ behind) × AllByRecursion StartsNothing behind
ends_last safely U how limits before behind e legal unasked b =
    let r : Replay = all_replayed (replay_begun limits) before in
    let on : AreLegal any_moment r (e ∷ behind) = legal_behind any_moment (replay_begun limits) before (e ∷ behind) legal in
    let counted : AreCounted r (e ∷ behind) = are_counted safely limits any_moment before (e ∷ behind) legal in
    let stays : StaysLast U how b.over (replayed r e) behind =
    last_on U how b.goes any_moment b.over (replayed r e) behind on.1 counted.1 (each_second IsUnasked before (e ∷ behind) unasked).1 b.its in
    let nothing : AllByRecursion StartsNothing behind = each_so (IsLastEntry how) StartsNothing (λ x last. last.0) behind stays.entries in
    let same = replayed_append (replay_begun limits) before (e ∷ behind) in
    let no_reset : AllByRecursion IsNoReset (before ++ e ∷ behind) =
    each_both IsNoReset before (e ∷ behind) (each_so IsCalmEntry IsNoReset (λ x calm. calm.0) before b.calm.entries) (b.no_reset, each_so StartsNothing IsNoReset nothing_no_reset behind nothing) in (
      record {
        ends = λ front ending is. last_end how ending before front behind e b.no_end (each_so (IsLastEntry how) (EndsBy how) (λ x last. last.1) behind stays.entries) is;
        no_reset = no_reset;
        none_next = λ generation may.
            (b.goes any_moment (fold over_after b.over behind) (all_replayed (replayed r e) behind) (entry.Reset generation)
            (subst (λ (x : Replay). Follows any_moment x (entry.Reset generation)) same may)
            (subst (λ (x : Replay). Counts x.machine x.shown.children) same (safely.counts limits any_moment (before ++ e ∷ behind) legal)) tt stays.last).0.0;
        codes = each_both EndsStartupByCode before (e ∷ behind) (each_so IsCalmEntry EndsStartupByCode (λ x calm. calm.2) before b.calm.entries) (b.code, each_so StartsNothing EndsStartupByCode nothing_codes behind nothing);
        one_startup = b.once (each_so StartsNothing (IsNoEndOf is_startup_child) nothing_no_startup behind nothing);
        one_start = starts_once limits any_moment (before ++ e ∷ behind) legal no_reset;
      },
      nothing,
    )

-- ---- a startup child that failed

not_true : (b : Bool) → not b ≡ true → b ≡ false
not_true true is = sym is
not_true false is = refl

ends_failed : RestartsSafely → (limits : Limits) (before behind : List PmEvent) (pid at : ℕ) (was_active : Bool)
    → IsLegal limits any_moment (before ++ entry.Exited pid Startup (Code 1) was_active at ∷ behind) → AllByRecursion IsUnasked (before ++ entry.Exited pid Startup (Code 1) was_active at ∷ behind)
    → HasNoCrash (replay_begun limits) before → is_crash (stands_behind limits before) (entry.Exited pid Startup (Code 1) was_active at) ≡ true
    → EndsSo endings.StartupFailed limits (before ++ entry.Exited pid Startup (Code 1) was_active at ∷ behind) × AllByRecursion (IsNoEndOf is_startup_child) before × AllByRecursion StartsNothing behind
ends_failed safely limits before behind pid at was_active legal unasked none crash =
    let e : PmEvent = entry.Exited pid Startup (Code 1) was_active at in
    let r : Replay = all_replayed (replay_begun limits) before in
    let front : IsLegal limits any_moment before = legal_front any_moment (replay_begun limits) before (e ∷ behind) legal in
    let ends : Ends r pid Startup = ends_at any_moment r pid Startup (Code 1) was_active at behind (legal_behind any_moment (replay_begun limits) before (e ∷ behind) legal) in
    let stays : StaysCalm false (replay_begun limits) before = stays_calm safely limits any_moment before front (each_first IsUnasked before (e ∷ behind) unasked) none in
    let over : Bool = fold over_after false before in
    let calm : IsCalm over [] r.machine = subst (λ (ds : List Due). IsCalm over (acts_in ds) r.machine) ends.rests stays.calm in
    let counts : Counts r.machine r.shown.children = safely.counts limits any_moment before front in
    let there : is_not_running r.machine.startup ≡ false =
    startup_there (count_of is_startup_child r.shown.children) (is_not_running r.machine.startup) r.machine.startup_due (there_counts is_startup_child pid Startup r.shown.children ends.there refl) counts.startup in
    let none_before : AllByRecursion (IsNoEndOf is_startup_child) before = (none_over false before (not_over over r.machine calm there)).1 in
    let last = ends_last safely (IsLast HasEnded is_startup_failed) endings.StartupFailed limits before behind e legal unasked (record {
      goes = failed_on;
      over = true;
      calm = stays;
      no_reset = tt;
      no_end = tt;
      code = inr refl;
      once = λ none_behind. once_last (IsNoEndOf is_startup_child) before (e ∷ behind) none_before (inr none_behind, none_once (IsNoEndOf is_startup_child) behind none_behind);
      its = rested Bool over_after (IsLast HasEnded is_startup_failed) (IsLastEntry endings.StartupFailed) keeps_failed true r e (step r.machine (Exited pid Startup (Code 1) was_active at)).acts
          ends.rests (acts_in_dues _) (startup_fails over r.machine pid at calm there (not_true (is_some r.machine.shutdown) crash));
    }) in
    (last.0, none_before, last.1)

-- ---- a checkpointer that couldn't make the last checkpoint

-- where nothing was due, and what the end leaves settles
left_there : (over : Bool) (r : Replay) (e : PmEvent) (acts : List Action) → r.due ≡ [] → acts_in (dues_after r.machine e) ≡ acts
    → IsLast IsLeft is_after_crash over acts (settled (reported e (caused r.machine e).after)) → IsLast IsLeft is_after_crash over (acts_in (replayed r e).due) (replayed r e).machine
left_there over r e acts none is its = rw (none, is) its

ends_unclosed : RestartsSafely → (limits : Limits) (before behind : List PmEvent) (pid at : ℕ) (was_active : Bool)
    → IsLegal limits any_moment (before ++ entry.Exited pid Checkpointer (Code 1) was_active at ∷ behind) → AllByRecursion IsUnasked (before ++ entry.Exited pid Checkpointer (Code 1) was_active at ∷ behind)
    → HasNoCrash (replay_begun limits) before → is_shutdown (stands_behind limits before).state ≡ true
    → EndsSo endings.AfterCrash limits (before ++ entry.Exited pid Checkpointer (Code 1) was_active at ∷ behind) × AllByRecursion StartsNothing behind
ends_unclosed safely limits before behind pid at was_active legal unasked none shuts =
    let e : PmEvent = entry.Exited pid Checkpointer (Code 1) was_active at in
    let r : Replay = all_replayed (replay_begun limits) before in
    let front : IsLegal limits any_moment before = legal_front any_moment (replay_begun limits) before (e ∷ behind) legal in
    let ends : Ends r pid Checkpointer = ends_at any_moment r pid Checkpointer (Code 1) was_active at behind (legal_behind any_moment (replay_begun limits) before (e ∷ behind) legal) in
    let stays : StaysCalm false (replay_begun limits) before = stays_calm safely limits any_moment before front (each_first IsUnasked before (e ∷ behind) unasked) none in
    let over : Bool = fold over_after false before in
    let calm : IsCalm over [] r.machine = subst (λ (ds : List Due). IsCalm over (acts_in ds) r.machine) ends.rests stays.calm in
    ends_last safely (IsLast IsLeft is_after_crash) endings.AfterCrash limits before behind e legal unasked (record {
      goes = left_on;
      over = over;
      calm = stays;
      no_reset = tt;
      no_end = tt;
      code = tt;
      once = λ none_behind. once_first (IsNoEndOf is_startup_child) before (e ∷ behind) stays.once (refl, none_behind);
      its = left_there over r e (step r.machine (Exited pid Checkpointer (Code 1) was_active at)).acts ends.rests (acts_in_dues _)
          (checkpointer_crashes over r.machine pid was_active at calm shuts);
    })

-- ---- the law

pub end_for_cause : RestartsSafely → EndsForCause
end_for_cause safely = record {
  clean = ends_clean safely;
  failed = λ limits journal pid at was_active legal unasked first.
      let its = ends_failed safely limits first.before first.behind pid at was_active (subst (IsLegal limits any_moment) first.is legal)
      (subst (AllByRecursion IsUnasked) first.is unasked) first.none first.crash in
      (subst (EndsSo endings.StartupFailed limits) (sym first.is) its.0, its.1, its.2);
  unclosed = λ limits journal pid at was_active legal unasked first shuts.
      let its = ends_unclosed safely limits first.before first.behind pid at was_active (subst (IsLegal limits any_moment) first.is legal)
      (subst (AllByRecursion IsUnasked) first.is unasked) first.none shuts in
      (subst (EndsSo endings.AfterCrash limits) (sym first.is) its.0, its.1);
}
