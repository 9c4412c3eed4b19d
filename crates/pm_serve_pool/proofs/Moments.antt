-- A run by the moments of one clock is one by those of a clock that gives them all.
use Rattle.std.{proofs.Common.{ℕ, List, [], ◌∷◌}, specs.{Prelude.{Option, None, Some, IfSome}, List.AllByRecursion}}
use Rattle.pm_serve_crew.specs.{pm_admit.declared.Cac.Cac, pm_worker.{declared.mail.{LinkTold.LinkTold, MailTold.MailTold}, Runs.{Does, IsRun, IsSessionRun, Run}}}
use Rattle.pm_session.specs.{pm_child_life.Life.Told, pm_outside.Traffic.Traffic, pm_session_exchange.{declared.ending.Cause.{Cause, TheVariants.TimedOut}, Sent.Turn, Queries.{HasWaited, Sleeps}}, Session.{AllSleep, CausedBy, Ending, HasSlept, IsApart, IsCaused}}
use Rattle.pm_serve_crew.specs.pm_worker.declared.mail.MailTold.TheVariants as mail

module _ {gives more : ℕ → Type 0} (on : (moment : ℕ) → gives moment → more moment) where
  waited : (milliseconds : ℕ) → HasWaited gives milliseconds → HasWaited more milliseconds
  waited milliseconds w = record { first = w.first; last = w.last; from = on w.first w.from; to = on w.last w.to; apart = w.apart }

  apart_by : (limit : ℕ) → IsApart gives limit → IsApart more limit
  apart_by limit a = record { earlier = a.earlier; later = a.later; first = on a.earlier a.first; second = on a.later a.second; apart = a.apart }

  sleeps : (text : List ℕ) (turn : Turn) → Sleeps gives text turn → Sleeps more text turn
  sleeps text turn s whole = (let slept = s whole in (slept.0, slept.1, waited _ slept.2))

  all_sleep : (texts : List (List ℕ)) (turns : List Turn) → AllSleep gives texts turns → AllSleep more texts turns
  all_sleep [] [] s = s
  all_sleep (text ∷ texts) (turn ∷ turns) s = (s.0, sleeps text turn s.1, all_sleep texts turns s.2)
  all_sleep [] (turn ∷ turns) s = s
  all_sleep (text ∷ texts) [] s = s

  has_slept : (turns : List Turn) (came_in : List ℕ) → HasSlept gives turns came_in → HasSlept more turns came_in
  has_slept [] came_in s = s
  has_slept (turn ∷ turns) came_in s =
      record {
        requests = s.requests;
        phase = s.phase;
        packet = s.packet;
        texts = s.texts;
        beyond = s.beyond;
        asks = s.asks;
        start = s.start;
        slept = all_sleep s.texts (turn ∷ turns) s.slept;
        input = s.input;
      }

  link_slept : (turns : List Turn) (link : Option Traffic) → IfSome link (λ traffic. HasSlept gives turns traffic.came_in) → IfSome link (λ traffic. HasSlept more turns traffic.came_in)
  link_slept turns None s = s
  link_slept turns (Some traffic) s = has_slept turns traffic.came_in s

  caused_by : (cause : Cause) (decision : Cac) (link : Option Traffic) (failed : Type 0) (told : Option Told) (limit : ℕ) → CausedBy cause decision link failed told limit gives → CausedBy cause decision link failed told limit more
  caused_by TimedOut decision link failed told limit c = (c.0, apart_by limit c.1)
  caused_by cause decision link failed told limit c = c

  caused : (ending : Ending) (turns : List Turn) (generation : ℕ) (decision : Cac) (link : Option Traffic) (failed : Type 0) (told : Option Told) (limit : ℕ) → IsCaused ending turns generation decision link failed told limit gives
      → IsCaused ending turns generation decision link failed told limit more
  caused ending turns generation decision link failed told limit c =
      record {
        cause = caused_by ending.cause decision link failed told limit c.cause;
        exit = caused_by ending.exit decision link failed told limit c.exit;
        gate = c.gate;
        out = c.out;
        heeded = c.heeded;
        sound = c.sound;
        slept = link_slept turns link c.slept;
      }

  session_run : (stamp : Option ℕ) (seed : List ℕ) (limit : ℕ) (link : LinkTold) (decision : Cac) (run : Run) → IsSessionRun stamp seed limit gives link decision run → IsSessionRun stamp seed limit more link decision run
  session_run stamp seed limit link decision run r =
      record {
        back = r.back;
        ending = r.ending;
        turns = r.turns;
        generation = r.generation;
        attached = r.attached;
        key = r.key;
        keyed = r.keyed;
        back_is = r.back_is;
        number = r.number;
        faults = r.faults;
        status = r.status;
        session = r.session;
        caused = caused _ _ _ _ _ _ _ _ r.caused;
        asked = r.asked;
        heeds = r.heeds;
        active = r.active;
        behind = r.behind;
        cancels = r.cancels;
        come = r.come;
        overtaken = r.overtaken;
      }

  does_so : (stamp : Option ℕ) (seed : List ℕ) (limit : ℕ) (given : MailTold) (run : Run) → Does stamp seed limit gives given run → Does stamp seed limit more given run
  does_so stamp seed limit (mail.Serve link decision) run d = session_run stamp seed limit link decision run d
  does_so stamp seed limit given run d = d

  is_run : (stamp : Option ℕ) (seed : List ℕ) (limit : ℕ) (run : Run) → IsRun stamp seed limit gives run → IsRun stamp seed limit more run
  is_run stamp seed limit run r = record { fits = r.fits; does = does_so stamp seed limit run.child.offer.given run r.does; met = r.met; makes = r.makes }

  pub are_runs : (stamp : Option ℕ) (seed : List ℕ) (limit : ℕ) (runs : List Run) → AllByRecursion (IsRun stamp seed limit gives) runs → AllByRecursion (IsRun stamp seed limit more) runs
  are_runs stamp seed limit [] all = all
  are_runs stamp seed limit (run ∷ runs) all = (is_run stamp seed limit run all.0, are_runs stamp seed limit runs all.1)
