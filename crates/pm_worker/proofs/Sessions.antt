-- The run of a session, from what its serving tells.
use Rattle.std.{proofs.Common.{ℕ, ◌≡◌, ◌⊎◌, ◌<◌, ◌≤◌, true, false, List, Option, Some, None, sym, refl, subst, arith}, specs.{Prelude.is_some, Option.option_map}}
use Rattle.pm_session.specs.{pm_outside.{pm_disk.Cause.Rose, Traffic.Traffic}, pm_admit.declared.Cac.Cac, pm_child_life.Life.nothing_told, pm_query.{declared.book.BookEntry.BookEntry, Calls.newcomer}, pm_session_exchange.{declared.ending.{Cause.{Cause, TheVariants.{Terminated, Cancelling, LinkEnded, LinkFailed, TimedOut, PacketRefused, MessageRefused, DecisionRefused, GateRefused, ShortOfMemory, Panicked, ToldToTerminate, ToldToQuit, Killed, Overtaken}}, Stage.{Stage, TheVariants.{Outside, Entering, Greeted}}}, Answers.IsOvertakenBy, Exchange.CutsOff, Sent.Turn, Ends.{status_by, LetsGo}}, Session.{Ending, status_of, between, ByStage, HasPassed, IsSession, IsCaused, HasAskedFor, HeedsTold, IsAttachedBehind, HasCancelled, HasCome}}
use Rattle.pm_board.specs.{pm_exit.{declared.child.Status.Status, Ends.is_exit_0}, pm_keys.CancelKey.cancel_key, pm_board_words.declared.views.{Cancel.Cancel, Heard.Heard, LatchLook.LatchLook, Offer.Offer}, Told.past_child}
use Rattle.pm_board_life.specs.Lives.{told_by, child_as}
use Rattle.pm_worker.specs.{declared.mail.{LinkTold.LinkTold, MailTold.MailTold}, Mails.{traffic_in, traffic_of, passed_of}, Runs.IsSessionRun}
use Rattle.pm_worker.specs.declared.mail.MailTold.TheVariants as mail

-- a link's traffic is told whole
pub told_whole : (traffic : Option Traffic) → option_map traffic_of (option_map passed_of traffic) ≡ traffic
told_whole None = refl
told_whole (Some t) = refl

absent : (attached : Option ℕ) → attached ≡ None → is_some attached ≡ true → ⊥
absent None e is = cc
absent (Some g) e is = cc

-- who lets go isn't attached, and who stays doesn't exit with code 0
by_cause : (cause : Cause) (attached : Option ℕ) (stays : Type 0) → LetsGo cause (attached ≡ None) stays → is_some attached ≡ true → is_exit_0 (status_by cause) ≡ false
by_cause Terminated a stays h is = absurd (absent a h is)
by_cause Cancelling a stays h is = absurd (absent a h is)
by_cause LinkEnded a stays h is = absurd (absent a h is)
by_cause LinkFailed a stays h is = absurd (absent a h is)
by_cause TimedOut a stays h is = absurd (absent a h is)
by_cause (PacketRefused fault) a stays h is = absurd (absent a h is)
by_cause (MessageRefused fault) a stays h is = absurd (absent a h is)
by_cause DecisionRefused a stays h is = absurd (absent a h is)
by_cause (GateRefused refusal) a stays h is = absurd (absent a h is)
by_cause ShortOfMemory a stays h is = absurd (absent a h is)
by_cause ToldToTerminate a stays h is = absurd (absent a h is)
by_cause Panicked a stays h is = refl
by_cause (ToldToQuit reason) a stays h is = refl
by_cause Killed a stays h is = refl
by_cause Overtaken a stays h is = refl

-- a session that ends attached doesn't exit with code 0
pub stays_inside : (stage : Stage) (cause : Cause) (attached : Option ℕ) (stays : Type 0) → ByStage stage (attached ≡ None) (LetsGo cause (attached ≡ None) stays)
    → is_some attached ≡ true → is_exit_0 (status_by cause) ≡ false
stays_inside Outside cause a stays h is = absurd (absent a h is)
stays_inside Entering cause a stays h is = by_cause cause a stays h is
stays_inside Greeted cause a stays h is = by_cause cause a stays h is

-- so many faults are the link's
pub by_faults : {S : Type 0} {notes : List BookEntry → S → S → Type 0} {decision : Cac} {user : _} {key : ℕ} {turns : List Turn} {ending : Ending} {at : _} {f g n : ℕ} → f ≡ g
    → IsSession notes decision user key turns ending (Rose f n) at → IsSession notes decision user key turns ending (Rose g n) at
by_faults {S} {notes} {decision} {user} {key} {turns} {ending} {at} {f} {g} {n} same is = subst (λ (x : ℕ). IsSession notes decision user key turns ending (Rose x n) at) same is

module _ {S : Type 0} (notes : List BookEntry → S → S → Type 0) (stamp : Option ℕ) (seed : List ℕ) (limit : ℕ) (gives : ℕ → Type 0) where
  pub session_run : (link back : LinkTold) (decision : Cac) (o : Offer MailTold) (status : Status) (heard : Heard) (asked : Option (ℕ × ℕ)) (slots : ℕ) (looked : List LatchLook) (made : List Cancel) (met : ℕ) (attached : Option ℕ)
      (ending : Ending) (turns : List Turn) (generation : ℕ) (s0 s1 : S) (traffic : Option Traffic) (key pid : ℕ)
      → traffic_in back ≡ traffic → pid ≡ o.pid → (0 < pid → key ≡ cancel_key seed pid) → back.number ≡ link.number → link.faults ≤ back.faults → status ≡ status_of ending
      → IsSession notes decision (newcomer stamp pid generation) key turns ending (Rose link.faults back.faults) (between traffic s0 s1)
      → IsCaused ending turns generation decision traffic (Rose link.faults back.faults) (Some (told_by heard asked)) limit gives
      → HasAskedFor turns (Some nothing_told) (Some (told_by heard asked)) → HeedsTold status (told_by heard asked) → IsAttachedBehind ending generation attached
      → HasCancelled ending.cause traffic (Some (told_by heard asked)) → IsOvertakenBy met generation ending.exit → HasCome traffic (Some (told_by heard asked))
      → (noted : List BookEntry) × notes noted s0 s1
      × IsSessionRun stamp seed limit gives link decision
      (record { child = past_child o status (is_some attached) (mail.Served back); heard = heard; asked = asked; slots = slots; looked = looked; made = made; noted = noted; met = met })
  session_run link back decision o status heard asked slots looked made met attached ending turns generation s0 s1 traffic key pid t p k n f st session caused hears heeds behind cancelled overtaken come =
      let whole = subst (λ x. IsSession {S = Unit {0}} (λ entries _ _. entries ≡ session.noted) decision (newcomer stamp x generation) key turns ending (Rose link.faults back.faults)
      (between (traffic_in back) tt tt)) p
      (record {
        came_in = session.came_in;
        whole = session.whole;
        noted = session.noted;
        text = session.text;
        passed = subst (λ x. HasPassed (CutsOff ending.exit ⊎ Rose link.faults back.faults) session.came_in session.whole x) (sym t) session.passed;
        entries = refl;
      }) in (
        session.noted,
        session.entries,
        record {
          back = back;
          ending = ending;
          turns = turns;
          generation = generation;
          attached = attached;
          key = key;
          keyed = subst (λ (x : ℕ). 0 < x → key ≡ cancel_key seed x) p k;
          back_is = refl;
          number = n;
          faults = f;
          status = st;
          session = whole;
          caused = subst (λ x. IsCaused ending turns generation decision x (Rose link.faults back.faults) (Some (told_by heard asked)) limit gives) (sym t) caused;
          asked = omega (arith, hears);
          heeds = heeds;
          active = refl;
          behind = behind;
          cancels = subst (λ x. HasCancelled ending.cause x (Some (told_by heard asked))) (sym t) cancelled;
          overtaken = overtaken;
          come = subst (λ x. HasCome x (Some (told_by heard asked))) (sym t) come;
        },
      )
