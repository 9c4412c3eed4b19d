-- A whole journal without a crash is calm, and at most one startup child ends in it.
use Rattle.std.{proofs.{Common.{◌≡◌, ◌⊎◌, inl, inr, ℕ, Bool, true, false, ◌&&◌, ◌||◌, List, [], ◌∷◌, refl, ap, arith}, lemmas.Bool.{both_ways, true≢false}}, specs.List.{AllByRecursion, fold}}
use Rattle.pm_state.{specs.{pm_exit.Ends.is_exit_0, pm_modes.Strength.strengthen_of, pm_supervisor.{declared.Limits.Limits, Children.{count_of, is_startup_child}}, declared.{action.Action.Action, event.PmEvent.PmEvent, machine.Machine.Machine}, Laws.RestartsSafely, Machine.{Exited, step}, Requests.asked_with, Restarts.Counts, TurnRules.is_not_running, Journal.{AreLegal, Follows, IsLegal, MayCome, Replay, all_replayed, caused, dues_after, replay_begun, replayed, reported}}, proofs.ReplayLaws.{AreCounted, Behind, Keeps, acts_behind_redo, acts_in, acts_in_dues, are_counted, ends_in, first_on, follows_on, rested, startup_there, there_counts}}
use Rattle.pm_state.specs.pm_exit.declared.child.Kind.TheVariants as kind
use Rattle.pm_state.specs.pm_supervisor.declared.Ending.TheVariants as endings
use Rattle.pm_state.specs.declared.event.PmEvent.TheVariants as entry
use Rattle.pm_supervisor_crashes.{specs.{Crashes.{HasNoCrash, IsUnasked, is_crash}, Ends.{EndsAtMostOnce, IsNoEndOf, EndsSo, EndsStartupByCode, IsNoReset}}, proofs.{Calm.{IsCalm, IsCalmEntry, accepted_calm, act_calm, asked_calm, begun_calm, left_calm, no_kill, over_after, row_calm, settled_calm}, ListLaws.{EndsBy, each_so, end_among}, Starts.starts_once}}
use Rattle.pm_supervisor_journal.specs.Stands.{any_moment}

-- ---- one entry

keeps_calm : Keeps Bool over_after IsCalm IsCalmEntry
keeps_calm = record { acted = act_calm; redo = λ over generation kept acts m calm. ((tt, tt, tt), calm); row = λ over m on calm. row_calm over m calm; settled = settled_calm }

-- where nothing was due
calm_rested : (over : Bool) (r : Replay) (e : PmEvent) (acts : List Action) → r.due ≡ [] → acts_in (dues_after r.machine e) ≡ acts
    → IsCalm over acts (reported e (caused r.machine e).after) → IsCalm over (acts_in (replayed r e).due) (replayed r e).machine
calm_rested over r e acts none is calm = rested Bool over_after IsCalm IsCalmEntry keeps_calm over r e acts none is calm

come_on : (gives : ℕ → Bool) (over : Bool) (r : Replay) (e : PmEvent) → r.due ≡ [] → r.machine.ended ≡ false → MayCome gives r e → Counts r.machine r.shown.children → IsUnasked e
    → is_crash r.machine e ≡ false → IsCalm over [] r.machine → Behind Bool over_after IsCalm IsCalmEntry over r e
come_on gives over r (entry.Accepted pid decision) none on may counts unasked fine calm =
    ((tt, tt, tt), calm_rested over r (entry.Accepted pid decision) [] none refl (accepted_calm over r.machine calm))
come_on gives over r (entry.Exited pid k status was_active at) none on may counts unasked fine calm =
    let left = left_calm k over r.machine pid status was_active at calm
    (λ is. startup_there (count_of is_startup_child r.shown.children) (is_not_running r.machine.startup) r.machine.startup_due
    (there_counts is_startup_child pid k r.shown.children may.0 (ap is_startup_child is)) counts.startup)
    fine in (
      left.0,
      calm_rested (over || is_startup_child k) r (entry.Exited pid k status was_active at) (step r.machine (Exited pid k status was_active at)).acts none
          (acts_behind_redo (is_startup_child k && is_exit_0 status) (step r.machine (Exited pid k status was_active at)).acts) left.1,
    )
come_on gives over r (entry.Asked mode at) none on may counts unasked fine calm = (
  (tt, tt, tt),
  calm_rested over r (entry.Asked mode at) (asked_with (strengthen_of r.machine.shutdown mode) r.machine at).acts none (acts_in_dues _) (asked_calm over mode at r.machine unasked calm),
)
come_on gives over r (entry.KillAsked pid) none on may counts unasked fine calm = absurd unasked
come_on gives over r (entry.KillSent at) none on may counts unasked fine calm = absurd (no_kill over at r.machine calm may.1)
come_on gives over r e none on may counts unasked fine calm = first_on Bool over_after IsCalm IsCalmEntry keeps_calm over r e none on may calm

entry_on : (gives : ℕ → Bool) (over : Bool) (r : Replay) (e : PmEvent) → Follows gives r e → Counts r.machine r.shown.children → IsUnasked e → is_crash r.machine e ≡ false
    → IsCalm over (acts_in r.due) r.machine → Behind Bool over_after IsCalm IsCalmEntry over r e
entry_on gives over r e may counts unasked fine calm =
    follows_on Bool over_after IsCalm IsCalmEntry keeps_calm gives over r e r.due refl may (λ none free rests. come_on gives over r e none free.0 free.2 counts unasked fine rests) calm

-- ---- startup children

startup_gone : (over : Bool) (acts : List Action) (m : Machine) → IsCalm over acts m → over ≡ true → is_not_running m.startup ≡ true
startup_gone over acts m calm is = grind (arith, calm.once, is)

-- once one has ended none does
no_second : (gives : ℕ → Bool) (over : Bool) (r : Replay) (e : PmEvent) → Follows gives r e → Counts r.machine r.shown.children → IsCalm over (acts_in r.due) r.machine → over ≡ true
    → IsNoEndOf is_startup_child e
no_second gives over r (entry.Exited pid kind.Startup status was_active at) may counts calm is =
    let ends = ends_in gives r r.due pid kind.Startup status was_active at refl may in
    absurd (both_ways (is_not_running r.machine.startup)
    (startup_there (count_of is_startup_child r.shown.children) (is_not_running r.machine.startup) r.machine.startup_due
    (there_counts is_startup_child pid kind.Startup r.shown.children ends.there refl) counts.startup)
    (startup_gone over (acts_in r.due) r.machine calm is))
no_second gives over r (entry.Exited pid k status was_active at) may counts calm is = refl
no_second gives over r _ may counts calm is = tt

or_true : (over : Bool) → over || true ≡ true
or_true true = refl
or_true false = refl

stays_over : (over : Bool) (e : PmEvent) → over ≡ true → over_after over e ≡ true
stays_over over (entry.Exited pid k status was_active at) is = ap (λ (b : Bool). b || is_startup_child k) is
stays_over over _ is = is

none_or_over : (over : Bool) (e : PmEvent) → IsNoEndOf is_startup_child e ⊎ (over_after over e ≡ true)
none_or_over over (entry.Exited pid kind.Startup status was_active at) = inr (or_true over)
none_or_over over (entry.Exited pid k status was_active at) = inl refl
none_or_over over _ = inl tt

not_before : (over : Bool) (e : PmEvent) → over_after over e ≡ false → (over ≡ false) × IsNoEndOf is_startup_child e
not_before true (entry.Exited pid k status was_active at) is = absurd (true≢false is)
not_before false (entry.Exited pid k status was_active at) is = (refl, is)
not_before over _ is = (is, tt)

-- where none has, none of these entries tells of one
pub none_over : (over : Bool) (journal : List PmEvent) → fold over_after over journal ≡ false → (over ≡ false) × AllByRecursion (IsNoEndOf is_startup_child) journal
none_over over [] is = (is, tt)
none_over over (e ∷ journal) is =
    let rest = none_over (over_after over e) journal is in
    let first = not_before over e rest.0 in
    (first.0, (first.1, rest.1))

-- ---- whole journals

-- what its entries say, and what they leave
pub record StaysCalm (over : Bool) (r : Replay) (journal : List PmEvent) : Type 0 where
  pub entries : AllByRecursion IsCalmEntry journal
  pub calm : IsCalm (fold over_after over journal) (acts_in (all_replayed r journal).due) (all_replayed r journal).machine
  pub none : over ≡ true → AllByRecursion (IsNoEndOf is_startup_child) journal
  pub once : EndsAtMostOnce is_startup_child journal

calm_on : (gives : ℕ → Bool) (over : Bool) (r : Replay) (journal : List PmEvent) → AreLegal gives r journal → AreCounted r journal → AllByRecursion IsUnasked journal → HasNoCrash r journal
    → IsCalm over (acts_in r.due) r.machine → StaysCalm over r journal
calm_on gives over r [] legal counted unasked none calm = record { entries = tt; calm = calm; none = λ is. tt; once = tt }
calm_on gives over r (e ∷ journal) legal counted unasked none calm =
    let on = entry_on gives over r e legal.0 counted.0 unasked.0 none.0 calm in
    let rest = calm_on gives (over_after over e) (replayed r e) journal legal.1 counted.1 unasked.1 none.1 on.1 in
    record {
      entries = (on.0, rest.entries);
      calm = rest.calm;
      none = λ is. (no_second gives over r e legal.0 counted.0 calm is, rest.none (stays_over over e is));
      once = (elim (none_or_over over e) [ inl first ↦ inl first | inr is ↦ inr (rest.none is) ], rest.once);
    }

pub stays_calm : RestartsSafely → (limits : Limits) (gives : ℕ → Bool) (journal : List PmEvent) → IsLegal limits gives journal → AllByRecursion IsUnasked journal
    → HasNoCrash (replay_begun limits) journal → StaysCalm false (replay_begun limits) journal
stays_calm safely limits gives journal legal unasked none =
    calm_on gives false (replay_begun limits) journal legal (are_counted safely limits gives [] journal legal) unasked none (begun_calm limits)

-- without a crash the server ends clean
pub ends_clean : RestartsSafely → (limits : Limits) (journal : List PmEvent) → IsLegal limits any_moment journal → AllByRecursion IsUnasked journal
    → HasNoCrash (replay_begun limits) journal → EndsSo endings.Clean limits journal
ends_clean safely limits journal legal unasked none =
    let stays = stays_calm safely limits any_moment journal legal unasked none in
    let r : Replay = all_replayed (replay_begun limits) journal in
    record {
      ends = λ front ending is. end_among endings.Clean ending front journal (each_so IsCalmEntry (EndsBy endings.Clean) (λ e its. its.1) journal stays.entries) is;
      no_reset = each_so IsCalmEntry IsNoReset (λ e its. its.0) journal stays.entries;
      none_next = λ generation may.
          (entry_on any_moment (fold over_after false journal) r (entry.Reset generation) may (safely.counts limits any_moment journal legal) tt refl stays.calm).0.0;
      codes = each_so IsCalmEntry EndsStartupByCode (λ e its. its.2) journal stays.entries;
      one_startup = stays.once;
      one_start = starts_once limits any_moment journal legal (each_so IsCalmEntry IsNoReset (λ e its. its.0) journal stays.entries);
    }
