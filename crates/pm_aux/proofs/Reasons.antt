-- Why a child comes to its end, and that it heeds what it was told.
use Rattle.std.proofs.{Common.{◌≡◌, ◌≢◌, inl, inr, ℕ, Bool, true, false, cond, IsTrue, List, [], Option, None, Some, IfSome, Result, Ok, Err, refl, sym, ◌∙◌, subst}, lemmas.Bool.true≢false}
use Rattle.pm_supervisor.specs.{pm_exit.declared.child.Kind.Kind, declared.Reason.Reason}
use Rattle.pm_supervisor.specs.pm_exit.declared.child.Kind.TheVariants as kinds
use Rattle.pm_child_life.{specs.{declared.{life.GateNo.GateNo, standing.Standing.Standing}, Life.{Child, Told, Kill, Quit, Terminate, Checkpoint, was_told}, Attention.{Attention, attention, Stands, IsAttentive}}, proofs.AttentionLaws.given_of}
use Rattle.pm_query.specs.{declared.{book.BookEntry.BookEntry, store.StoreNo.{StoreNo, TheVariants.NoMemory}}, Calls.User}
use Rattle.pm_aux.{specs.{declared.cause.AuxiliaryEnd.{AuxiliaryEnd, TheVariants.{Redone, Flushed, Closed, LeftOut, Refused, TurnedAway, ToldToTerminate, ToldToQuit, Killed}}, Ends.{done_by, lets_go, attached_behind}, Signals.{ends_by, ends_of, IsToldTo, EndsAtOnce, HeedsTerminate, HeedsTold, StandsAt, IsHurried, EndsInside}, Work.{ClosesBy, GoesOn, NotesInside}, Runs.{Runner, runner, user_in, at_end, EndsOutside, NotesBehind, MayBeShort, IsRunOf}}, proofs.Listening.{Tells, tells_asked, tells_met}}

-- ---- what ends a child at once

stands_by : (kill : Bool) (quit : Option Reason) (cause : AuxiliaryEnd) (standing : Standing) → ends_of standing ≡ ends_by kill quit → ends_by kill quit ≡ Some cause → StandsAt cause standing × EndsAtOnce cause
stands_by true quit cause standing same is =
    let e : Killed ≡ cause = cc in
    subst (λ (c : AuxiliaryEnd). StandsAt c standing × EndsAtOnce c) e (same, tt)
stands_by false (Some reason) cause standing same is =
    let e : ToldToQuit reason ≡ cause = cc in
    subst (λ (c : AuxiliaryEnd). StandsAt c standing × EndsAtOnce c) e (same, tt)
stands_by false None cause standing same is = absurd cc

at_once : (cause : AuxiliaryEnd) (standing : Standing) → ends_of standing ≡ Some cause → StandsAt cause standing × EndsAtOnce cause
at_once cause standing is = stands_by standing.kill standing.quit cause standing refl is

-- then a checkpointer notes nothing last
pub closes_at_once : (user : User) (kill : Bool) (quit : Option Reason) (cause : AuxiliaryEnd) → ends_by kill quit ≡ Some cause → ClosesBy user cause []
closes_at_once user true quit cause is =
    let e : Killed ≡ cause = cc in
    subst (λ (c : AuxiliaryEnd). ClosesBy user c []) e refl
closes_at_once user false (Some reason) cause is =
    let e : ToldToQuit reason ≡ cause = cc in
    subst (λ (c : AuxiliaryEnd). ClosesBy user c []) e refl
closes_at_once user false None cause is = absurd cc

once_not_short : (cause : AuxiliaryEnd) → EndsAtOnce cause → cause ≡ Refused NoMemory → ⊥
once_not_short cause once is = subst EndsAtOnce is once

pub told_inside : (kind : Kind) (cause : AuxiliaryEnd) (standing : Standing) → ends_of standing ≡ Some cause → EndsInside kind cause standing
told_inside kind cause standing is = record { stands = (at_once cause standing is).0; short = λ e. absurd (once_not_short cause ((at_once cause standing is).1) e) }

kill_stands : (kill : Bool) (quit : Option Reason) → ends_by kill quit ≡ Some Killed → kill ≡ true
kill_stands true quit is = refl
kill_stands false (Some reason) is = absurd cc
kill_stands false None is = absurd cc

quit_stands : (kill : Bool) (quit : Option Reason) (reason : Reason) → ends_by kill quit ≡ Some (ToldToQuit reason) → (kill ≡ false) × (quit ≡ Some reason)
quit_stands true quit reason is = absurd cc
quit_stands false (Some other) reason is = (refl, cc)
quit_stands false None reason is = absurd cc

none_stands : (kill : Bool) (quit : Option Reason) → ends_by kill quit ≡ None → (kill ≡ false) × (quit ≡ None)
none_stands true quit is = absurd cc
none_stands false (Some reason) is = absurd cc
none_stands false None is = (refl, refl)

-- ---- what was told

told_to : (cause : AuxiliaryEnd) (at : Attention) → StandsAt cause at.standing → IsAttentive at → IsToldTo cause at.told
told_to (Redone kept) at stands attentive = tt
told_to Flushed at stands attentive = given_of at Terminate (λ t s. s.terminate.0 stands.0) attentive
told_to Closed at stands attentive = given_of at Checkpoint (λ t s. s.checkpoint.0 stands.0) attentive
told_to LeftOut at stands attentive = given_of at Checkpoint (λ t s. s.checkpoint.0 stands.0) attentive
told_to (Refused refusal) at stands attentive = tt
told_to (TurnedAway refusal) at stands attentive = tt
told_to ToldToTerminate at stands attentive = given_of at Terminate (λ t s. s.terminate.0 stands.0) attentive
told_to (ToldToQuit reason) at stands attentive = given_of at (Quit reason) (λ t s. s.quit reason ((quit_stands at.standing.kill at.standing.quit reason stands).1)) attentive
told_to Killed at stands attentive = given_of at Kill (λ t s. s.kill.0 (kill_stands at.standing.kill at.standing.quit stands)) attentive

hurried : (kind : Kind) (at : Attention) → IsHurried kind at.standing → IsAttentive at → MayBeShort kind at.told
hurried kinds.Startup at is attentive = tt
hurried kinds.Checkpointer at is attentive = given_of at Checkpoint (λ t s. s.checkpoint.0 is) attentive
hurried kinds.Writer at is attentive = absurd is
hurried kinds.Worker at is attentive = absurd is
hurried kinds.Backend at is attentive = absurd is
hurried kinds.DeadEnd at is attentive = absurd is

-- ---- what was heeded

not_killed : (standing : Standing) (told : Told) → Stands standing told → standing.kill ≡ false → was_told Kill told → ⊥
not_killed standing told stands none has = true≢false (sym (stands.kill.1 has) ∙ none)

not_quit : (standing : Standing) (told : Told) → Stands standing told → standing.quit ≡ None → (reason : Reason) → was_told (Quit reason) told → ⊥
not_quit standing told stands none reason has = stands.quits reason has none

-- where neither a Kill nor a Quit stands
heeds_none : (kind : Kind) (cause : AuxiliaryEnd) (standing : Standing) (told : Told) → ends_of standing ≡ None → (was_told Terminate told → HeedsTerminate kind cause) → Stands standing told → HeedsTold kind cause told
heeds_none kind cause standing told none terminate stands =
    let both = none_stands standing.kill standing.quit none in
    record {
      kill = λ has. absurd (not_killed standing told stands both.0 has);
      quit = λ reason has. absurd (not_quit standing told stands both.1 reason has);
      terminate = terminate;
    }

once_heeds : (kind : Kind) (cause : AuxiliaryEnd) → EndsAtOnce cause → HeedsTerminate kind cause
once_heeds kinds.Startup (Redone kept) once = once
once_heeds kinds.Startup Flushed once = once
once_heeds kinds.Startup Closed once = once
once_heeds kinds.Startup LeftOut once = once
once_heeds kinds.Startup (Refused refusal) once = once
once_heeds kinds.Startup (TurnedAway refusal) once = once
once_heeds kinds.Startup ToldToTerminate once = tt
once_heeds kinds.Startup (ToldToQuit reason) once = tt
once_heeds kinds.Startup Killed once = tt
once_heeds kinds.Checkpointer cause once = tt
once_heeds kinds.Writer cause once = tt
once_heeds kinds.Worker cause once = tt
once_heeds kinds.Backend cause once = tt
once_heeds kinds.DeadEnd cause once = tt

goes_on_heeds : (kind : Kind) (cause : AuxiliaryEnd) → GoesOn kind → HeedsTerminate kind cause
goes_on_heeds kinds.Startup cause goes = absurd goes
goes_on_heeds kinds.Checkpointer cause goes = tt
goes_on_heeds kinds.Writer cause goes = tt
goes_on_heeds kinds.Worker cause goes = tt
goes_on_heeds kinds.Backend cause goes = tt
goes_on_heeds kinds.DeadEnd cause goes = tt

-- where it ends by what stands
heeds_stands : (kind : Kind) (cause : AuxiliaryEnd) (standing : Standing) (told : Told) → StandsAt cause standing → (was_told Terminate told → HeedsTerminate kind cause) → Stands standing told → HeedsTold kind cause told
heeds_stands kind (Redone kept) standing told at terminate stands = heeds_none kind (Redone kept) standing told at terminate stands
heeds_stands kind Flushed standing told at terminate stands = heeds_none kind Flushed standing told at.1 terminate stands
heeds_stands kind Closed standing told at terminate stands = heeds_none kind Closed standing told at.1 terminate stands
heeds_stands kind LeftOut standing told at terminate stands = heeds_none kind LeftOut standing told at.1 terminate stands
heeds_stands kind (Refused refusal) standing told at terminate stands = heeds_none kind (Refused refusal) standing told at terminate stands
heeds_stands kind (TurnedAway refusal) standing told at terminate stands = heeds_none kind (TurnedAway refusal) standing told at terminate stands
heeds_stands kind ToldToTerminate standing told at terminate stands = heeds_none kind ToldToTerminate standing told at.1 terminate stands
heeds_stands kind (ToldToQuit reason) standing told at terminate stands =
    let both = quit_stands standing.kill standing.quit reason at in
    record { kill = λ has. absurd (not_killed standing told stands both.0 has); quit = λ other has. tt; terminate = terminate }
heeds_stands kind Killed standing told at terminate stands = record { kill = λ has. refl; quit = λ other has. tt; terminate = terminate }

-- it heeds a Terminate, whatever else stands
abbrev pub HeedsItsEnd : Kind → AuxiliaryEnd → Standing → Type 0
HeedsItsEnd kind cause standing = (t : Told) → Stands standing t → was_told Terminate t → HeedsTerminate kind cause

heeds_told : (kind : Kind) (cause : AuxiliaryEnd) (told : Option Told) (child : Child) (standing : Standing) → StandsAt cause standing → HeedsItsEnd kind cause standing → IsAttentive (attention told child standing) → IfSome told (HeedsTold kind cause)
heeds_told kind cause None child standing at terminate attentive = tt
heeds_told kind cause (Some told) child standing at terminate attentive = heeds_stands kind cause standing told at (terminate told attentive) attentive

-- ---- a whole run

run_of : (kind : Kind) (who : Runner) (cause : AuxiliaryEnd) (gate : Option (Result ℕ GateNo)) (at : Attention) (noted : List BookEntry)
    → StandsAt cause at.standing → (cause ≡ Refused NoMemory → MayBeShort kind at.told) → HeedsItsEnd kind cause at.standing → IsAttentive at → Tells gate at.told
    → at.child.attached ≡ attached_behind cause gate → NotesBehind kind who gate cause noted → IsRunOf kind who (at_end (done_by cause) at.told at.child) noted
run_of kind who cause gate at noted stands short terminate attentive tells attached notes = record {
  cause = cause;
  gate = gate;
  done = refl;
  told_to = told_to cause at stands attentive;
  heeds = heeds_told kind cause at.told at.child at.standing stands terminate attentive;
  short = short;
  asked = tells_asked gate at.told tells;
  met = tells_met gate at.told tells;
  attached = attached;
  notes = notes;
}

unless_none : (goes : Bool) (attached : Option ℕ) → attached ≡ None → attached ≡ cond goes None None
unless_none true attached is = is
unless_none false attached is = is

once_outside : (kind : Kind) (cause : AuxiliaryEnd) → EndsAtOnce cause → EndsOutside kind cause
once_outside kinds.Startup (Redone kept) once = once
once_outside kinds.Startup Flushed once = once
once_outside kinds.Startup Closed once = once
once_outside kinds.Startup LeftOut once = once
once_outside kinds.Startup (Refused refusal) once = once
once_outside kinds.Startup (TurnedAway refusal) once = once
once_outside kinds.Startup ToldToTerminate once = tt
once_outside kinds.Startup (ToldToQuit reason) once = tt
once_outside kinds.Startup Killed once = tt
once_outside kinds.Checkpointer cause once = once
once_outside kinds.Writer cause once = once
once_outside kinds.Worker cause once = once
once_outside kinds.Backend cause once = once
once_outside kinds.DeadEnd cause once = once

-- it was told to end at once before it did anything
pub told_first : (kind : Kind) (who : Runner) (cause : AuxiliaryEnd) (at : Attention) → ends_of at.standing ≡ Some cause → IsAttentive at → Tells None at.told → at.child.attached ≡ None
    → IsRunOf kind who (at_end (done_by cause) at.told at.child) []
told_first kind who cause at is attentive tells free =
    let both = at_once cause at.standing is in
    run_of kind who cause None at [] both.0 (λ e. absurd (once_not_short cause both.1 e)) (λ t s h. once_heeds kind cause both.1) attentive tells (unless_none (lets_go cause) at.child.attached free)
    (once_outside kind cause both.1, refl)

-- a startup child was told to terminate before it did anything
pub terminated_first : (who : Runner) (at : Attention) → ends_of at.standing ≡ None → IsTrue at.standing.terminate → IsAttentive at → Tells None at.told → at.child.attached ≡ None
    → IsRunOf kinds.Startup who (at_end (done_by ToldToTerminate) at.told at.child) []
terminated_first who at none is attentive tells free =
    run_of kinds.Startup who ToldToTerminate None at [] (is, none) (λ e. absurd cc) (λ t s h. tt) attentive tells free (tt, refl)

-- the gate turned it away
pub turned_away : (kind : Kind) (who : Runner) (refusal : GateNo) (at : Attention) → ends_of at.standing ≡ None → HeedsItsEnd kind (TurnedAway refusal) at.standing → IsAttentive at
    → Tells (Some (Err refusal)) at.told → at.child.attached ≡ None → IsRunOf kind who (at_end (done_by (TurnedAway refusal)) at.told at.child) []
turned_away kind who refusal at none terminate attentive tells free =
    run_of kind who (TurnedAway refusal) (Some (Err refusal)) at [] none (λ e. absurd cc) terminate attentive tells free (refl, refl)

-- a writer or a checkpointer that was let in
pub tended : (kind : Kind) (who : Runner) (cause : AuxiliaryEnd) (generation : ℕ) (at : Attention) (noted : List BookEntry) → GoesOn kind → EndsInside kind cause at.standing → IsAttentive at
    → Tells (Some (Ok generation)) at.told → at.child.attached ≡ attached_behind cause (Some (Ok generation)) → NotesBehind kind who (Some (Ok generation)) cause noted
    → IsRunOf kind who (at_end (done_by cause) at.told at.child) noted
tended kind who cause generation at noted goes ends attentive tells attached notes =
    run_of kind who cause (Some (Ok generation)) at noted ends.stands (λ e. hurried kind at (ends.short e) attentive) (λ t s h. goes_on_heeds kind cause goes) attentive tells attached notes

-- a writer or a checkpointer heeds no Terminate at its start
pub goes_on : (kind : Kind) (cause : AuxiliaryEnd) (standing : Standing) → GoesOn kind → HeedsItsEnd kind cause standing
goes_on kind cause standing goes = λ t s h. goes_on_heeds kind cause goes

-- where no Terminate stands, none was told
pub unterminated : (kind : Kind) (cause : AuxiliaryEnd) (standing : Standing) → standing.terminate ≡ false → HeedsItsEnd kind cause standing
unterminated kind cause standing none = λ t s h. absurd (true≢false (sym (s.terminate.1 h) ∙ none))

calm_stands : (cause : AuxiliaryEnd) (standing : Standing) (who : Runner) (generation : ℕ) (noted : List BookEntry) → NotesInside kinds.Startup (user_in who generation) cause noted → ends_of standing ≡ None → StandsAt cause standing
calm_stands (Redone kept) standing who generation noted notes none = none
calm_stands (Refused refusal) standing who generation noted notes none = none
calm_stands (TurnedAway refusal) standing who generation noted notes none = none
calm_stands Flushed standing who generation noted (inl out) none = absurd out
calm_stands Flushed standing who generation noted (inr in_) none = absurd in_.worked.does
calm_stands Closed standing who generation noted (inl out) none = absurd out
calm_stands Closed standing who generation noted (inr in_) none = absurd in_.worked.does
calm_stands LeftOut standing who generation noted (inl out) none = absurd out
calm_stands LeftOut standing who generation noted (inr in_) none = absurd in_.worked.does
calm_stands ToldToTerminate standing who generation noted (inl out) none = absurd out
calm_stands ToldToTerminate standing who generation noted (inr in_) none = absurd in_.worked.does
calm_stands (ToldToQuit reason) standing who generation noted (inl out) none = absurd out.0
calm_stands (ToldToQuit reason) standing who generation noted (inr in_) none = absurd in_.worked.does
calm_stands Killed standing who generation noted (inl out) none = absurd out.0
calm_stands Killed standing who generation noted (inr in_) none = absurd in_.worked.does

-- a startup child that was let in
pub redone : (who : Runner) (cause : AuxiliaryEnd) (generation : ℕ) (at : Attention) (noted : List BookEntry) → ends_of at.standing ≡ None → at.standing.terminate ≡ false → IsAttentive at
    → Tells (Some (Ok generation)) at.told → at.child.attached ≡ attached_behind cause (Some (Ok generation)) → NotesInside kinds.Startup (user_in who generation) cause noted
    → IsRunOf kinds.Startup who (at_end (done_by cause) at.told at.child) noted
redone who cause generation at noted none calm attentive tells attached notes =
    run_of kinds.Startup who cause (Some (Ok generation)) at noted (calm_stands cause at.standing who generation noted notes none) (λ e. tt) (unterminated kinds.Startup cause at.standing calm) attentive tells attached notes

-- who runs doesn't change
pub same_runner : (stamp_before stamp_now : Option ℕ) (before now : Child) → stamp_now ≡ stamp_before → now.pid ≡ before.pid → runner stamp_now now ≡ runner stamp_before before
same_runner stamp_before stamp_now before now e f = rw (e, f) refl

-- a refusal other than want of memory, where nothing ends it at once
pub refused_inside : (kind : Kind) (refusal : StoreNo) (standing : Standing) → ends_of standing ≡ None → refusal ≢ NoMemory → EndsInside kind (Refused refusal) standing
refused_inside kind refusal standing none other = record { stands = none; short = λ e. let same : refusal ≡ NoMemory = cc in absurd (other same) }
