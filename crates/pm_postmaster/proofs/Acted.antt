-- The acts of the machine.
use Rattle.std.{proofs.Common.{◌≡◌, ℕ, List, [], ◌∷◌, ◌++◌, refl, sym, ap, subst, ◌∙◌, length}, specs.Prelude.{Option, None, Some, IfSome, is_some}}
use Rattle.pm_server.{specs.{pm_exit.declared.child.Kind.Kind, Acted.LogBehind, pm_supervisor_journal.{declared.{act.Act.Act, roll.Enrolled.Enrolled}, Standing.{Standing, act_for, done, entry_for, first_due}}, pm_outside.Visits.Visits, pm_state.declared.{action.Action.Action, event.PmEvent.PmEvent}}, proofs.ActedLaws.said_acted}
use Rattle.pm_board.{specs.{pm_board_words.declared.views.{RosterStep.RosterStep, RosterView.RosterView}, Children.CountsChildren}, proofs.BoardLaws.no_connection}
use Rattle.pm_server.specs.pm_supervisor_journal.declared.act.Act.TheVariants as act
use Rattle.pm_board_acts.{specs.{Acts.{MayPerform, Performs, slot_of, steps_for}, Board.after_steps, Calls.slot_for, Chained.pids_accepted, Seating.{Move, Notes, journal_of}, Standing.view, pm_worker.declared.mail.MailTold.MailTold}, proofs.FoldingLaws.journal-more}
use Rattle.pm_board_acts.specs.Standing as seating
use Rattle.pm_server.specs.pm_state.declared.action.Action.TheVariants as action
use Rattle.pm_postmaster.{specs.{Links.{HasLinks, KeepsServed}, Serving.{Holds, IsServing, KillsAll, Moments, Outset}, View.View}, proofs.{Going.{GoesBy, Leaves, holds_on}, Linking.{links_same, links_started, same_limit, same_slots}, Offers.{served_on, served_same, served_started}, Moments.{done_given, done_moments}, Steps.count_more}}

-- no act accepts a connection
none_accepted : (a : Action) (s : Standing) → pids_accepted (entry_for a s ∷ []) ≡ []
none_accepted (action.Start k) s = refl
none_accepted (action.Quit why) s = refl
none_accepted action.Terminate s = refl
none_accepted action.KillAll s = refl
none_accepted action.AskCheckpoint s = refl
none_accepted action.Ready s = refl
none_accepted action.Reset s = refl
none_accepted (action.Say line) s = refl
none_accepted (action.End how) s = refl

-- the act that is due first kills all only where that is due
kills_first : (acts : List Action) (a : Action) → first_due acts ≡ Some a → a ≡ action.KillAll → KillsAll acts
kills_first [] a first is = absurd (let no_ : ◌≡◌ {A = Option Action} None (Some a) = first in cc)
kills_first (x ∷ acts) a first is = subst KillsAll (ap (λ (y : Action). y ∷ acts) (let same : x ≡ action.KillAll = (let one : Some x ≡ Some a = first in cc) in sym same)) tt

limit_stepped : (d e : RosterView MailTold) (ss : List RosterStep) → e ≡ after_steps d ss → e.session_limit ≡ d.session_limit
limit_stepped d e ss is = ap (λ (x : RosterView MailTold). x.session_limit) is ∙ same_limit d ss

served_stepped : (d e : RosterView MailTold) (ss : List RosterStep) → e ≡ after_steps d ss → KeepsServed d e
served_stepped d e ss is = served_same d e (ap (λ (x : RosterView MailTold). x.slots) is ∙ same_slots d ss)

module _ (counts : CountsChildren) (n : ℕ) (d e : RosterView MailTold) (seats seats' : List (Option Enrolled)) (ordered : Kind → MailTold) (visits : Visits) where
  stepped : (ss : List RosterStep) → e ≡ after_steps d ss → HasLinks n d visits → HasLinks n e visits
  stepped ss is = links_same n d e visits (ap (λ (x : RosterView MailTold). x.slots) is ∙ same_slots d ss)

  -- an act leaves the links that are out
  pub links_acted : (a : Act) → Performs a ordered d seats e seats' → MayPerform a d seats → HasLinks n d visits → HasLinks n e visits
  links_acted (act.Start pid kind) has may = links_started (slot_of kind) d e pid kind (ordered kind) may.1.slot may.1.unused has.0 counts n visits (no_connection kind may.0)
  links_acted (act.Quit why) has may = stepped (steps_for (act.Quit why) d.generation seats) has.0
  links_acted act.Terminate has may = stepped (steps_for act.Terminate d.generation seats) has.0
  links_acted act.KillAll has may = stepped (steps_for act.KillAll d.generation seats) has.0
  links_acted act.AskCheckpoint has may = stepped (steps_for act.AskCheckpoint d.generation seats) has.0
  links_acted (act.Ready g) has may = stepped (steps_for (act.Ready g) d.generation seats) has.0
  links_acted (act.Reset g) has may = stepped (steps_for (act.Reset g) d.generation seats) has.0
  links_acted (act.Say line) has may = stepped [] has.0
  links_acted (act.End how) has may = stepped [] has.0

-- and who was offered a connection
pub served_acted : (d e : RosterView MailTold) (seats seats' : List (Option Enrolled)) (ordered : Kind → MailTold) (a : Act) → Performs a ordered d seats e seats' → MayPerform a d seats → KeepsServed d e
served_acted d e seats seats' ordered (act.Start pid kind) has may = served_started (slot_of kind) d e pid kind (ordered kind) may.1.unused has.0
served_acted d e seats seats' ordered (act.Quit why) has may = served_stepped d e (steps_for (act.Quit why) d.generation seats) has.0
served_acted d e seats seats' ordered act.Terminate has may = served_stepped d e (steps_for act.Terminate d.generation seats) has.0
served_acted d e seats seats' ordered act.KillAll has may = served_stepped d e (steps_for act.KillAll d.generation seats) has.0
served_acted d e seats seats' ordered act.AskCheckpoint has may = served_stepped d e (steps_for act.AskCheckpoint d.generation seats) has.0
served_acted d e seats seats' ordered (act.Ready g) has may = served_stepped d e (steps_for (act.Ready g) d.generation seats) has.0
served_acted d e seats seats' ordered (act.Reset g) has may = served_stepped d e (steps_for (act.Reset g) d.generation seats) has.0
served_acted d e seats seats' ordered (act.Say line) has may = served_stepped d e [] has.0
served_acted d e seats seats' ordered (act.End how) has may = served_stepped d e [] has.0

-- and all slots
pub slots_acted : (d e : RosterView MailTold) (seats seats' : List (Option Enrolled)) (ordered : Kind → MailTold) (a : Act) → Performs a ordered d seats e seats' → length e.slots ≡ length d.slots
slots_acted d e seats seats' ordered (act.Start pid kind) has = has.0.2.count
slots_acted d e seats seats' ordered (act.Quit why) has = ap (λ (x : RosterView MailTold). length x.slots) has.0 ∙ ap length (same_slots d (steps_for (act.Quit why) d.generation seats))
slots_acted d e seats seats' ordered act.Terminate has = ap (λ (x : RosterView MailTold). length x.slots) has.0 ∙ ap length (same_slots d (steps_for act.Terminate d.generation seats))
slots_acted d e seats seats' ordered act.KillAll has = ap (λ (x : RosterView MailTold). length x.slots) has.0 ∙ ap length (same_slots d (steps_for act.KillAll d.generation seats))
slots_acted d e seats seats' ordered act.AskCheckpoint has = ap (λ (x : RosterView MailTold). length x.slots) has.0 ∙ ap length (same_slots d (steps_for act.AskCheckpoint d.generation seats))
slots_acted d e seats seats' ordered (act.Ready g) has = ap (λ (x : RosterView MailTold). length x.slots) has.0 ∙ ap length (same_slots d (steps_for (act.Ready g) d.generation seats))
slots_acted d e seats seats' ordered (act.Reset g) has = ap (λ (x : RosterView MailTold). length x.slots) has.0 ∙ ap length (same_slots d (steps_for (act.Reset g) d.generation seats))
slots_acted d e seats seats' ordered (act.Say line) has = ap (λ (x : RosterView MailTold). length x.slots) has.0
slots_acted d e seats seats' ordered (act.End how) has = ap (λ (x : RosterView MailTold). length x.slots) has.0

-- and the limit of sessions
pub limit_acted : (d e : RosterView MailTold) (seats seats' : List (Option Enrolled)) (ordered : Kind → MailTold) (a : Act) → Performs a ordered d seats e seats' → e.session_limit ≡ d.session_limit
limit_acted d e seats seats' ordered (act.Start pid kind) has = ap (λ (x : RosterView MailTold). x.session_limit) has.0.2.whole
limit_acted d e seats seats' ordered (act.Quit why) has = limit_stepped d e (steps_for (act.Quit why) d.generation seats) has.0
limit_acted d e seats seats' ordered act.Terminate has = limit_stepped d e (steps_for act.Terminate d.generation seats) has.0
limit_acted d e seats seats' ordered act.KillAll has = limit_stepped d e (steps_for act.KillAll d.generation seats) has.0
limit_acted d e seats seats' ordered act.AskCheckpoint has = limit_stepped d e (steps_for act.AskCheckpoint d.generation seats) has.0
limit_acted d e seats seats' ordered (act.Ready g) has = limit_stepped d e (steps_for (act.Ready g) d.generation seats) has.0
limit_acted d e seats seats' ordered (act.Reset g) has = limit_stepped d e (steps_for (act.Reset g) d.generation seats) has.0
limit_acted d e seats seats' ordered (act.Say line) has = limit_stepped d e [] has.0
limit_acted d e seats seats' ordered (act.End how) has = limit_stepped d e [] has.0

links_in : (n m : ℕ) (d e : RosterView MailTold) (visits now : Option Visits) → now ≡ visits → m ≡ n → ((its : Visits) → HasLinks n d its → HasLinks n e its)
    → IfSome visits (HasLinks n d) → IfSome now (HasLinks m e)
links_in n m d e visits now is count on was = subst (λ (v : Option Visits). IfSome v (HasLinks m e)) (sym is) (by visits was)
  where
    by : (v : Option Visits) → IfSome v (HasLinks n d) → IfSome v (HasLinks m e)
    by None has = tt
    by (Some its) has = subst (λ (x : ℕ). HasLinks x e its) (sym count) (on its has)

module _ {D C : Type 0} (gives : C → ℕ → Type 0) where
  -- An act was noted, and done at the board; its line was written.
  pub record Acts (a : Action) (before now : View D C) : Type 0 where
    pub first : first_due before.work.standing.due ≡ Some a
    pub goes : seating.Goes (Notes (entry_for a before.work.standing) (slot_for a) ∷ []) (view before.work before.board) (view now.work now.board)
    pub standing : now.work.standing ≡ done a before.work.standing
    pub links : (n : ℕ) (visits : Visits) → HasLinks n before.board visits → HasLinks n now.board visits
    pub served : KeepsServed before.board now.board
    pub log : LogBehind (act_for a before.work.standing) before.log now.log
    pub visits : now.visits ≡ before.visits
    pub leaves : Leaves gives before now
    pub slots : length now.board.slots ≡ length before.board.slots
    pub limit : now.board.session_limit ≡ before.board.session_limit

  -- what holds after an act, and these moves
  pub record Stands (outset : Outset D C) (moves : List Move) (now : View D C) : Type 0 where
    pub at : seating.IsAt outset.limits outset.count moves (view now.work now.board)
    pub holds : Holds gives outset moves now
    pub moments : Moments (gives outset.clock) now.work.standing

  pub acted : (outset : Outset D C) (a : Action) (before now : View D C) → Acts a before now → (was : IsServing gives outset before)
      → Stands outset (was.moves ++ Notes (entry_for a before.work.standing) (slot_for a) ∷ []) now
  acted outset a before now acts was =
      let s : Standing = before.work.standing in
      let move : Move = Notes (entry_for a s) (slot_for a) in
      let e : List PmEvent = entry_for a s ∷ [] in
      let kills = kills_first s.due a acts.first in
      let goes : GoesBy gives outset was.moves (move ∷ []) e before now = record {
        journal = journal-more outset.count was.moves move;
        given = done_given (gives outset.clock) a s kills was.moments;
        said = said_acted a s (journal_of outset.count was.moves) outset.log before.log now.log acts.log;
        links = links_in _ _ before.board now.board before.visits now.visits acts.visits (count_more (journal_of outset.count was.moves) e (none_accepted a s)) (λ its. acts.links _ its);
        numbered = ap is_some acts.visits;
        served = served_on (is_some before.visits) (journal_of outset.count was.moves) e before.board now.board (none_accepted a s) acts.served;
        leaves = acts.leaves;
        slots = acts.slots;
        limit = acts.limit;
      } in
      record {
        at = acts.goes outset.limits outset.count was.moves was.at;
        holds = holds_on gives outset was.moves (move ∷ []) e before now goes was.holds;
        moments = subst (Moments (gives outset.clock)) (sym acts.standing) (done_moments (gives outset.clock) a s kills was.moments);
      }
