-- The session of a child to which nothing happens.
use Rattle.std.{proofs.{Common.{◌≡◌, ◌≢◌, ◌⊎◌, inl, inr, ℕ, ◌≤◌, List, [], ◌∷◌, All, Option, None, Some, Ok, refl, sym, ◌∙◌, subst}, lemmas.List.Elements.{All-nil, All-cons}}, specs.Prelude.Bool}
use Rattle.pm_server.specs.{pm_outside.Traffic.{Traffic, IsFresh}, pm_query.{Calls.newcomer, declared.book.BookEntry.BookEntry}, pm_session.{pm_session_exchange.{Exchange.{LinkView, HasFailed}, Sent.{Turn, Cancelled}, Ends.LetsGo, declared.ending.{Cause.{Cause, TheVariants.{Terminated, Cancelling, LinkEnded, LinkFailed, TimedOut, PacketRefused, MessageRefused, DecisionRefused, GateRefused, ShortOfMemory, Panicked, ToldToTerminate, ToldToQuit, Killed, Overtaken}}, Stage.{Stage, TheVariants.{Outside, Entering, Greeted}}}}, Heeding.TurnsHeed, Session.{Ending, HasAskedFor, HasCancelled, HasCome, HeedsTold, ByStage, IsAttachedBehind, status_of, IsText, IsSession, IsCaused, CausedBy, HasEntered, NotesOutside, EndsAt, TurnsAway, between}}, pm_startup.declared.phase.Phase.Phase}
use Rattle.pm_server.specs.pm_admit.declared.Cac.TheVariants as decisions
use Rattle.pm_once_lives.{specs.pm_child_life.Life.{Child, Told, nothing_told, answer_met, Kill, Quit, Terminate, Cancel}, proofs.QuietLaws.{its_answer, same_gate, never_refused, never_told}}
use Rattle.pm_once.specs.Service.{IsOfItself, IsServedAs}

-- ---- its generation

abbrev IsHome : ℕ → Stage → ℕ → Type 0
IsHome home stage generation = (stage ≡ Outside) ⊎ (generation ≡ home)

at_home : (home : ℕ) (came_as_ordinary : Option Bool) (told : Told) (stage : Stage) (generation : ℕ) → answer_met told ≡ its_answer home came_as_ordinary → HasEntered stage generation (Some told) → IsHome home stage generation
at_home home came_as_ordinary told Outside generation met entered = inl refl
at_home home came_as_ordinary told Entering generation met entered = inr (same_gate home came_as_ordinary generation (sym met ∙ entered))
at_home home came_as_ordinary told Greeted generation met entered = inr (same_gate home came_as_ordinary generation (sym met ∙ entered))

outside_notes : (stamp : Option ℕ) (pid one two : ℕ) (stage : Stage) (exit : Cause) (noted : List BookEntry) → stage ≡ Outside → NotesOutside (newcomer stamp pid one) stage exit noted → NotesOutside (newcomer stamp pid two) stage exit noted
outside_notes stamp pid one two Outside exit noted is notes = notes
outside_notes stamp pid one two Entering exit noted is notes = absurd (cc)
outside_notes stamp pid one two Greeted exit noted is notes = absurd (cc)

outside_stops : (stamp : Option ℕ) (pid one two : ℕ) (stage : Stage) (phase : Phase) (cause : Cause) (last : List ℕ) → stage ≡ Outside → TurnsAway (newcomer stamp pid one) stage phase cause last → TurnsAway (newcomer stamp pid two) stage phase cause last
outside_stops stamp pid one two stage phase Terminated last is stops = stops
outside_stops stamp pid one two stage phase Cancelling last is stops = stops
outside_stops stamp pid one two stage phase LinkEnded last is stops = stops
outside_stops stamp pid one two stage phase LinkFailed last is stops = stops
outside_stops stamp pid one two stage phase TimedOut last is stops = stops
outside_stops stamp pid one two stage phase (PacketRefused fault) last is stops = stops
outside_stops stamp pid one two stage phase (MessageRefused fault) last is stops = stops
outside_stops stamp pid one two stage phase DecisionRefused last is stops = stops
outside_stops stamp pid one two stage phase (GateRefused refusal) last is stops = stops
outside_stops stamp pid one two stage phase ShortOfMemory last is stops = stops
outside_stops stamp pid one two stage phase Panicked last is stops = stops
outside_stops stamp pid one two stage phase ToldToTerminate last is stops = stops
outside_stops stamp pid one two stage phase (ToldToQuit reason) last is stops = stops
outside_stops stamp pid one two stage phase Killed last is stops = stops
outside_stops stamp pid one two stage phase Overtaken last is stops = let other : Outside ≡ Entering = sym is ∙ stops.0 in absurd (cc)

home_text : (home pid generation key : ℕ) (turns : List Turn) (ending : Ending) (came_in whole : List ℕ) (noted : List BookEntry) → IsHome home ending.stage generation
    → IsText decisions.Ok (newcomer (Some home) pid generation) key turns ending came_in whole noted → IsText decisions.Ok (newcomer (Some home) pid home) key turns ending came_in whole noted
home_text home pid generation key turns ending came_in whole noted (inr same) text =
    subst (λ (g : ℕ). IsText decisions.Ok (newcomer (Some home) pid g) key turns ending came_in whole noted) same text
home_text home pid generation key turns ending came_in whole noted (inl outside) (inl away) = inl (
  record {
    requests = away.0.requests;
    phase = away.0.phase;
    last = away.0.last;
    beyond = away.0.beyond;
    admitted = away.0.admitted;
    asks = away.0.asks;
    start = away.0.start;
    stops = outside_stops (Some home) pid generation home ending.stage away.0.phase ending.cause away.0.last outside away.0.stops;
    input = away.0.input;
    passes_over = away.0.passes_over;
    output = away.0.output;
    notes = outside_notes (Some home) pid generation home ending.stage ending.exit noted outside away.0.notes;
  },
  away.1,
)
home_text home pid generation key turns ending came_in whole noted (inl outside) (inr served) =
    let is : Outside ≡ Greeted = sym outside ∙ served.stage in absurd (cc)

home_entered : (home : ℕ) (told : Told) (stage : Stage) (generation : ℕ) → IsHome home stage generation → HasEntered stage generation (Some told) → HasEntered stage home (Some told)
home_entered home told stage generation (inl outside) entered = subst (λ (s : Stage). HasEntered s home (Some told)) (sym outside) tt
home_entered home told stage generation (inr same) entered = subst (λ (g : ℕ). HasEntered stage g (Some told)) same entered

home_attached : (ending : Ending) (home generation : ℕ) (child : Child) → IsHome home ending.stage generation → IsAttachedBehind ending generation child.attached → IsAttachedBehind ending home child.attached
home_attached ending home generation child (inr same) attached = subst (λ (g : ℕ). IsAttachedBehind ending g child.attached) same attached
home_attached ending home generation child (inl outside) attached =
    subst (λ (at : Stage). ByStage at (child.attached ≡ None) (LetsGo ending.exit (child.attached ≡ None) (child.attached ≡ Some home))) (sym outside)
    (subst (λ (at : Stage). ByStage at (child.attached ≡ None) (LetsGo ending.exit (child.attached ≡ None) (child.attached ≡ Some generation))) outside attached)

-- ---- by what it ends

never_overtaken : (home pid key : ℕ) (turns : List Turn) (ending : Ending) (came_in whole : List ℕ) (noted : List BookEntry)
    → IsText decisions.Ok (newcomer (Some home) pid home) key turns ending came_in whole noted → ending.cause ≡ Overtaken → ⊥
never_overtaken home pid key turns ending came_in whole noted (inl away) is =
    (subst (λ (cause : Cause). TurnsAway (newcomer (Some home) pid home) ending.stage away.0.phase cause away.0.last) is away.0.stops).1 refl
never_overtaken home pid key turns ending came_in whole noted (inr served) is =
    (subst (λ (cause : Cause). EndsAt (newcomer (Some home) pid home) cause served.last served.ended) is served.ends).0 refl

of_itself : (home : ℕ) (came_as_ordinary : Option Bool) (told : Told) (cause : Cause) (link : Option Traffic) (failed : Type 0) (limit : ℕ) (gives : ℕ → Type 0) → told.given ≡ [] → answer_met told ≡ its_answer home came_as_ordinary
    → CausedBy cause decisions.Ok link failed (Some told) limit gives → (cause ≡ Overtaken → ⊥) → IsOfItself cause
of_itself home came_as_ordinary told Terminated link failed limit gives given met by over = tt
of_itself home came_as_ordinary told Cancelling link failed limit gives given met by over = tt
of_itself home came_as_ordinary told LinkEnded link failed limit gives given met by over = tt
of_itself home came_as_ordinary told LinkFailed link failed limit gives given met by over = tt
of_itself home came_as_ordinary told TimedOut link failed limit gives given met by over = tt
of_itself home came_as_ordinary told (PacketRefused fault) link failed limit gives given met by over = tt
of_itself home came_as_ordinary told (MessageRefused fault) link failed limit gives given met by over = tt
of_itself home came_as_ordinary told DecisionRefused link failed limit gives given met by over = by refl
of_itself home came_as_ordinary told (GateRefused refusal) link failed limit gives given met by over = never_refused home came_as_ordinary refusal (sym met ∙ by.1)
of_itself home came_as_ordinary told ShortOfMemory link failed limit gives given met by over = tt
of_itself home came_as_ordinary told Panicked link failed limit gives given met by over = tt
of_itself home came_as_ordinary told ToldToTerminate link failed limit gives given met by over = never_told Terminate told given by
of_itself home came_as_ordinary told (ToldToQuit reason) link failed limit gives given met by over = never_told (Quit reason) told given by
of_itself home came_as_ordinary told Killed link failed limit gives given met by over = never_told Kill told given by
of_itself home came_as_ordinary told Overtaken link failed limit gives given met by over = over refl

as_caused : (told : Told) (ending : Ending) (link : Option Traffic) (failed : Type 0) (limit : ℕ) (gives : ℕ → Type 0) → told.given ≡ []
    → CausedBy ending.exit decisions.Ok link failed (Some told) limit gives → (ending.exit ≡ ending.cause) ⊎ (ending.exit ≡ Killed) → ending.exit ≡ ending.cause
as_caused told ending link failed limit gives given by (inl same) = same
as_caused told ending link failed limit gives given by (inr killed) =
    absurd (never_told Kill told given (subst (λ (cause : Cause). CausedBy cause decisions.Ok link failed (Some told) limit gives) killed by))

-- ---- its turns

-- one to which nothing was given has cancelled none
none_cancelled : (told : Told) → told.given ≡ [] → (from : ℕ) (turns : List Turn) (to : ℕ) → TurnsHeed from turns to told.given → All (λ turn. turn ≢ Cancelled) turns
none_cancelled told none from [] to heeds = All-nil (λ turn. turn ≢ Cancelled)
none_cancelled told none from (turn ∷ turns) to (began, over, one, rest) =
    All-cons (λ (t : Turn). t ≢ Cancelled) turn turns (λ is. (let own = one.cancelled is in never_told Cancel told none (own.0, own.1)))
    (none_cancelled told none over turns to rest)

-- ---- the whole

pub served_alone : {S : Type 0} (notes : List BookEntry → S → S → Type 0) (before now : S) (came_as_ordinary : Option Bool) (told : Told) (home pid generation key limit : ℕ) (gives : ℕ → Type 0) (ending : Ending) (turns : List Turn) (given back : LinkView)
    → HasAskedFor turns (Some nothing_told) (Some told) → HeedsTold (status_of ending) told → (child : Child) → IsAttachedBehind ending generation child.attached → HasCancelled ending.cause back.traffic (Some told)
    → told.given ≡ [] → answer_met told ≡ its_answer home came_as_ordinary → IsFresh given.traffic → back.number ≡ given.number → given.faults ≤ back.faults
    → IsSession notes decisions.Ok (newcomer (Some home) pid generation) key turns ending (HasFailed given back) (between back.traffic before now)
    → IsCaused ending turns generation decisions.Ok back.traffic (HasFailed given back) (Some told) limit gives → HasCome back.traffic (Some told)
    → (noted : List BookEntry) × notes noted before now × IsServedAs key limit gives (record { pid = pid; generation = home; given = given; back = back; turns = turns; ending = ending; noted = noted })
served_alone notes before now came_as_ordinary told home pid generation key limit gives ending turns given back asked heeded child attached cancels none met fresh same later session caused come =
    let at = at_home home came_as_ordinary told ending.stage generation met caused.gate in
    let text = home_text home pid generation key turns ending session.came_in session.whole session.noted at session.text in (
      session.noted,
      session.entries,
      record {
        told = told;
        fresh = fresh;
        same = same;
        later = later;
        session = record { came_in = session.came_in; whole = session.whole; noted = session.noted; text = text; passed = session.passed; entries = refl };
        ungiven = none;
        asked = asked;
        heeded = heeded;
        child = child;
        attached = home_attached ending home generation child at attached;
        cancels = cancels;
        come = come;
        caused = record {
          cause = caused.cause;
          exit = caused.exit;
          gate = home_entered home told ending.stage generation at caused.gate;
          out = caused.out;
          heeded = caused.heeded;
          sound = caused.sound;
          slept = caused.slept;
        };
        alone = record {
          cause = of_itself home came_as_ordinary told ending.cause back.traffic (HasFailed given back) limit gives none met caused.cause (never_overtaken home pid key turns ending session.came_in session.whole session.noted text);
          exit = as_caused told ending back.traffic (HasFailed given back) limit gives none caused.exit ending.exits;
          uncancelled = none_cancelled told none 0 turns told.asked caused.heeded;
        };
      },
    )
