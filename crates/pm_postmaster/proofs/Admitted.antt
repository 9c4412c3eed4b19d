-- A connection is taken.
use Rattle.std.{proofs.{Common.{◌≡◌, ℕ, ◌+◌, ◌<◌, List, [], ◌∷◌, ◌++◌, refl, sym, ap, subst, ◌∙◌, length}, lemmas.List.length_push}, specs.Prelude.{true, false, Option, None, Some, IfSome, is_some, option_map}}
use Rattle.pm_board_acts.{specs.{pm_admit.declared.Cac.Cac, pm_board.{pm_board_words.declared.views.{RosterView.RosterView, Sight.TheVariants.Unused}, Children.CountsChildren, Models.HasAssigned, Places.{is_connection, slot_at}}, pm_supervisor_journal.{declared.roll.Enrolled.Enrolled, Standing.{Standing, accepting, decision_on, made, next_pid}}, Board.{SeenAs, seat_at, seats_of}, Calls.accepts, Chained.pids_accepted, Seating.{Notes, journal_of}, Standing.view, pm_state.declared.event.PmEvent.PmEvent, pm_supervisor.Steps.kind_for}, proofs.FoldingLaws.journal-more}
use Rattle.pm_board_acts.specs.pm_admit.declared.Cac.TheVariants as decisions
use Rattle.pm_board_acts.specs.pm_exit.declared.child.Kind.TheVariants as kinds
use Rattle.pm_server_lines.{specs.Log.HasSaid, proofs.LogLaws.said_same}
use Rattle.pm_worker.specs.{pm_outside.{Visits.{Visits, after_accept}, declared.port.Accepted.Accepted}, declared.mail.{LinkTold.LinkTold, MailTold.MailTold}}
use Rattle.pm_worker.specs.pm_outside.declared.port.Accepted.TheVariants as answers
use Rattle.pm_worker.specs.declared.mail.MailTold.TheVariants as mail
use Rattle.pm_board_acts.specs.Standing as seating
use Rattle.pm_board_acts.specs.pm_state.declared.event.PmEvent.TheVariants as entry
use Rattle.pm_postmaster.{specs.{Links.{AcceptedConnection, AreServed, HasLinks, accepted_in}, Serving.{IsServing, Moments, Outset}, View.View, Requests.ended_in}, proofs.{Going.{GoesBy, Leaves, LeavesStore, asks_nothing, count_in, serves_on}, Linking.links_accepted, Offers.{accepted_more, as_many_accepted, served_accepted}, Moments.accepted_moments, Owed.owes_accepted, Asked.accepted-append}}

-- the port has answered without a link
pub no_link : {L : Type 0} (faults : L → ℕ) (n : ℕ) (d : RosterView MailTold) (visits : Option Visits) (answer : Accepted L) → ((link : L) → answer ≡ answers.Link link → ⊥)
    → IfSome visits (HasLinks n d) → IfSome (option_map (λ v. after_accept faults v answer) visits) (HasLinks n d)
no_link faults n d None answer none was = tt
no_link faults n d (Some its) (answers.Link link) none was = absurd (none link refl)
no_link faults n d (Some its) answers.NotYet none was = was
no_link faults n d (Some its) answers.End none was = record { given = was.given; out = was.out; back = was.back }
no_link faults n d (Some its) answers.Failed none was = was

-- the answer of a port doesn't change whether it tells
pub still_numbered : {L : Type 0} (faults : L → ℕ) (answer : Accepted L) (visits : Option Visits) → is_some (option_map (λ v. after_accept faults v answer) visits) ≡ is_some visits
still_numbered faults answer None = refl
still_numbered faults answer (Some its) = refl

-- a link was given that had failed so often
abbrev pub with_given : ℕ → Visits → Visits
with_given faults v = record v { given = v.given ++ faults ∷ [] }

-- who answers a connection
pub connects : (decision : Cac) → (is_connection (kind_for decision) ≡ true) × (decision ≡ decisions.Ok → kind_for decision ≡ kinds.Backend)
connects decisions.Ok = (refl, λ is. refl)
connects decisions.Startup = (refl, λ is. absurd (cc))
connects decisions.Recovery = (refl, λ is. absurd (cc))
connects decisions.Shutdown = (refl, λ is. absurd (cc))
connects decisions.TooMany = (refl, λ is. absurd (cc))

given_numbered : (faults : ℕ) (visits : Option Visits) → is_some (option_map (with_given faults) visits) ≡ is_some visits
given_numbered faults None = refl
given_numbered faults (Some its) = refl

-- where links are numbered, the next one has the next number
next_number : (n number : ℕ) (d : RosterView MailTold) (visits : Option Visits) → IfSome visits (λ v. number ≡ length v.given + 1) → IfSome visits (HasLinks n d)
    → is_some visits ≡ true → number ≡ n + 1
next_number n number d None is links told = absurd (let no_ : false ≡ true = told in cc)
next_number n number d (Some its) is links told = is ∙ ap (λ (m : ℕ). m + 1) links.given

-- a link is no end
pub ended_given : (faults : ℕ) (visits : Option Visits) → ended_in (option_map (with_given faults) visits) ≡ ended_in visits
ended_given faults None = refl
ended_given faults (Some its) = refl

module _ {D C : Type 0} (gives : C → ℕ → Type 0) (counts : CountsChildren) where
  -- nobody sits at the board where the supervisor sees nobody
  pub unused_at : (outset : Outset D C) (v : View D C) (k : ℕ) → k < length (seats_of v.board) → seat_at k (seats_of v.board) ≡ None → IsServing gives outset v
      → (slot_at v.board k).sight ≡ Unused
  unused_at outset v k near free was =
      let seated = was.at.seated in
      subst (λ (x : Option Enrolled). SeenAs seated.seating.generation x (slot_at v.board k).sight) (ap (seat_at k) (sym seated.at_hand) ∙ free)
      (seated.shows.each k (subst (λ (xs : List (Option Enrolled)). k < length xs) seated.at_hand near))

  -- the link of the port was given to a child
  pub admitted_on : (outset : Outset D C) (before now : View D C) (k faults : ℕ) (link : LinkTold) (decision : Cac) → decision ≡ decision_on before.work.standing → Leaves gives before now → now.shared.generation ≡ before.shared.generation
      → now.log ≡ before.log → k < length before.board.slots → (slot_at before.board k).sight ≡ Unused
      → HasAssigned k (next_pid before.work.standing) (kind_for (decision_on before.work.standing)) (mail.Serve link decision) before.board now.board
      → now.visits ≡ option_map (with_given faults) before.visits → IfSome before.visits (λ v. link.number ≡ length v.given + 1)
      → seating.Goes (accepts k before.work.standing) (view before.work before.board) (view now.work now.board)
      → now.work.standing ≡ made (accepting before.work.standing) before.work.standing
      → LeavesStore gives before now → now.lines ≡ before.lines → now.listens ≡ before.listens → before.work.standing.machine.ended ≡ false
      → IsServing gives outset before → IsServing gives outset now
  admitted_on outset before now k faults link decision decided leaves shared log near free has visits number goes standing store lines listens goes_on was =
      let s : Standing = before.work.standing in
      let e : List PmEvent = entry.Accepted (next_pid s) (decision_on s) ∷ [] in
      let journal : List PmEvent = journal_of outset.count was.moves in
      let more : count_in (journal ++ e) ≡ count_in journal + 1 = ap length (accepted-append journal e) ∙ length_push (pids_accepted journal) (next_pid s) in
      let by : GoesBy gives outset was.moves (accepts k s) e before now = record {
        journal = journal-more outset.count was.moves (Notes (entry.Accepted (next_pid s) (decision_on s)) k);
        given = (tt, tt);
        said = λ said. subst (HasSaid (journal ++ e) outset.log) (sym log) (said_same journal e outset.log before.log refl said);
        links = λ links. subst (λ (n : ℕ). IfSome now.visits (HasLinks n now.board)) (sym more)
            (subst (λ (v : Option Visits). IfSome v (HasLinks (count_in journal + 1) now.board)) (sym visits) (by_visits (count_in journal) before.visits links));
        numbered = ap is_some visits ∙ given_numbered faults before.visits;
        served = λ served. subst (λ (cs : List AcceptedConnection). AreServed (is_some before.visits) cs now.board) (sym (accepted_more journal e))
            (served_accepted k before.board now.board (next_pid s) (kind_for (decision_on s)) (mail.Serve link decision) free has (is_some before.visits) (accepted_in journal) (decision_on s) (
              decided,
              λ told. next_number (count_in journal) link.number before.board before.visits number was.holds.links told
                  ∙ ap (λ (n : ℕ). n + 1) (sym (as_many_accepted journal)),
            ) served);
        leaves = leaves;
        slots = has.2.count;
        limit = ap (λ (d : RosterView MailTold). d.session_limit) has.2.whole;
      } in
      serves_on gives outset (accepts k s) e before now was by (goes outset.limits outset.count was.moves was.at)
      (subst (Moments (gives outset.clock)) (sym standing) (accepted_moments (gives outset.clock) s was.moments))
      (shared ∙ (was.generation ∙ sym (ap (λ (x : Standing). x.generation) standing)))
      (record { since = λ so. refl; lost = λ so. refl; resets = refl }) (λ j. refl) store
      (asks_nothing gives outset (accepts k s) before now (record { read = (tt, tt); alone = (tt, tt); lines_are = refl; ends_are = refl; pids_are = refl })
      (record { lines = lines; ended = ap ended_in visits ∙ ended_given faults before.visits; listens = listens }) (owes_accepted s now.work.standing standing goes_on))
    where
      by_visits : (n : ℕ) (v : Option Visits) → IfSome v (HasLinks n before.board) → IfSome (option_map (with_given faults) v) (HasLinks (n + 1) now.board)
      by_visits n None had = tt
      by_visits n (Some its) had =
          links_accepted k before.board now.board (next_pid before.work.standing) (kind_for (decision_on before.work.standing)) (mail.Serve link decision) near free has counts n its
          (record its { given = its.given ++ faults ∷ [] }) refl (length_push its.given faults) had
