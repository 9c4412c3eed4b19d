-- Laws of what a child heeds between two moments, and of what ends its session.
use Rattle.std.{proofs.Common.{◌≡◌, ◌≤◌, ℕ, Bool, true, false, Option, None, Some, refl, sym, ◌∙◌, ap, subst, arith}, specs.Option.option_map}
use Rattle.pm_outside.proofs.pm_disk.DiskLaws.{rose_from}
use Rattle.pm_child_life.{specs.{pm_supervisor.declared.Reason.Reason, declared.standing.Standing.Standing, Life.{Child, Told, Kill, Quit, Terminate, asked_cancel}, Attention.{Attention, attention, IsAttentive, Hears}}, proofs.AttentionLaws.{given_of, hears_none}}
use Rattle.pm_session_exchange.specs.{declared.ending.Cause.{Cause, TheVariants.{Terminated, Cancelling, LinkEnded, LinkFailed, TimedOut, PacketRefused, MessageRefused, DecisionRefused, GateRefused, ShortOfMemory, Panicked, ToldToTerminate, ToldToQuit, Killed, Overtaken}}, Exchange.LinkView, Attention.{ends_by, ends_of}, Moments.{Attends, ShowsCause, IsBreak}}

-- ---- heeding, up to a cancel

pub attends_of : (before now : Attention) → Hears 0 before now → Attends before now
attends_of before now hears = record { asked = hears.asked; child = hears.child; given = hears.given; stands = hears.stands }

pub attends_none : (at : Attention) → Attends at at
attends_none at = attends_of at at (hears_none at)

cancel_attends : (pid key : ℕ) (told : Option Told) (child : Child) (standing : Standing) → Attends (attention told child standing) (attention (option_map (asked_cancel pid key) told) child standing)
cancel_attends pid key None child standing = attends_none (attention None child standing)
cancel_attends pid key (Some told) child standing = record {
  asked = (omega arith, refl);
  child = refl;
  given = λ signal given. given;
  stands = λ stands. record { kill = stands.kill; quit = stands.quit; quits = stands.quits; terminate = stands.terminate; cancel = stands.cancel; checkpoint = stands.checkpoint; asked = stands.asked };
}

-- a cancel that was asked for changes nothing else
pub attends_cancel : (pid key : ℕ) (before now : Attention) → now.told ≡ option_map (asked_cancel pid key) before.told → now.child ≡ before.child → now.standing ≡ before.standing → Attends before now
attends_cancel pid key before now is same stands =
    attends_as (attention (option_map (asked_cancel pid key) before.told) before.child before.standing) before now is same stands (cancel_attends pid key before.told before.child before.standing)
  where
    attends_as : (at before now : Attention) → now.told ≡ at.told → now.child ≡ at.child → now.standing ≡ at.standing → Attends before at → Attends before now
    attends_as at before now is same stands attends =
        subst (λ (a : Attention). Attends before a) (sym (ap (λ (t : Option Told). attention t now.child now.standing) is ∙ ap (λ (c : Child). attention at.told c now.standing) same ∙ ap (λ (s : Standing). attention at.told at.child s) stands)) attends

-- ---- what ends a session

shown_by : (kill : Bool) (quit : Option Reason) (terminate : Bool) (cause : Cause) (before now : LinkView) (at : Attention) → at.standing.kill ≡ kill → at.standing.quit ≡ quit
    → at.standing.terminate ≡ terminate → IsAttentive at → ends_by kill quit terminate ≡ Some cause → IsBreak cause × ShowsCause cause before now at
shown_by true quit terminate cause before now at k q t attentive is =
    let e : Killed ≡ cause = cc in
    subst (λ (c : Cause). IsBreak c × ShowsCause c before now at) e (tt, given_of at Kill (λ told stands. stands.kill.0 k) attentive)
shown_by false (Some reason) terminate cause before now at k q t attentive is =
    let e : ToldToQuit reason ≡ cause = cc in
    subst (λ (c : Cause). IsBreak c × ShowsCause c before now at) e (tt, given_of at (Quit reason) (λ told stands. stands.quit reason q) attentive)
shown_by false None true cause before now at k q t attentive is =
    let e : ToldToTerminate ≡ cause = cc in
    subst (λ (c : Cause). IsBreak c × ShowsCause c before now at) e (tt, given_of at Terminate (λ told stands. stands.terminate.0 t) attentive)
shown_by false None false cause before now at k q t attentive is = absurd cc

-- what ends a session was told
pub told_cause : (at : Attention) (cause : Cause) (before now : LinkView) → IsAttentive at → ends_of at.standing ≡ Some cause → IsBreak cause × ShowsCause cause before now at
told_cause at cause before now attentive is = shown_by at.standing.kill at.standing.quit at.standing.terminate cause before now at refl refl refl attentive is

-- what shows since a moment shows since an earlier one
pub shows_since : (cause : Cause) (first second third : LinkView) (child : Attention) → first.faults ≤ second.faults → ShowsCause cause second third child → ShowsCause cause first third child
shows_since LinkFailed first second third child le shows = rose_from first.faults second.faults third.faults le shows
shows_since LinkEnded first second third child le shows = shows
shows_since ToldToTerminate first second third child le shows = shows
shows_since (ToldToQuit reason) first second third child le shows = shows
shows_since Killed first second third child le shows = shows
shows_since Terminated first second third child le shows = shows
shows_since Cancelling first second third child le shows = shows
shows_since TimedOut first second third child le shows = shows
shows_since (PacketRefused fault) first second third child le shows = shows
shows_since (MessageRefused fault) first second third child le shows = shows
shows_since DecisionRefused first second third child le shows = shows
shows_since (GateRefused refusal) first second third child le shows = shows
shows_since ShortOfMemory first second third child le shows = shows
shows_since Panicked first second third child le shows = shows
shows_since Overtaken first second third child le shows = shows
