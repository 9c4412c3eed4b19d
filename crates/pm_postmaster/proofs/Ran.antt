-- What a server leaves that has ended.
use Rattle.std.{proofs.Common.{◌≡◌, ℕ, ◌<◌, ◌≤◌, List, ◌++◌, sym, ap, subst, ◌∙◌, length, append_assoc}, specs.Prelude.{Bool, Option, IfSome, is_some}}
use Rattle.atomic_table.specs.Seated.{TableId}
use Rattle.pm_board_acts.specs.{pm_board.{pm_board_words.declared.views.{PastChild.PastChild, RosterView.RosterView}, Places.slot_at}, Chained.LinksCameBack, Final.{EndsWithNobody, IsEndingAt, NobodySits}, Seating.journal_of, Standing.IsBoardOf, pm_worker.declared.mail.MailTold.MailTold}
use Rattle.pm_serve_pool.specs.{pm_serve_crew.{Left.{AreLeft, Manner}, Pids.AreUsedOnce, Redos.RedosAreThose}, Closing.{HasHadLast, KeepsBoard, MayClose}, pm_store_shared.declared.views.Noted.Noted}
use Rattle.pm_server.specs.{pm_supervisor_journal.Stands.highest_pid, pm_outside.Visits.Visits, pm_query.declared.book.BookEntry.BookEntry, declared.end.ServerEnd.ServerEnd}
use Rattle.pm_postmaster.{specs.{Clearing.{Clears, MayClear}, Links.{AreAnswered, AreBackIn, AreServed, accepted_in}, Requests.{IsAsked, ended_in}, Serving.{HasStopped, IsCausedBehind, Outset, last_pid_in}, View.View}, proofs.{Finished.{asked_behind, back_if, caused_more, home_if, none_behind, once_after, past_after}, Offers.answered_by, Redoing.redos_behind}}

pub clears_at : (t u w : TableId) (d e f : RosterView MailTold) (a b : Option Visits) → t ≡ u → d ≡ e → Clears t d a w f b → Clears u e a w f b
clears_at t u w d e f a b table board clears =
    subst (λ (x : RosterView MailTold). Clears u x a w f b) board (subst (λ (x : TableId). Clears x d a w f b) table clears)

pub may_clear_at : (d e : RosterView MailTold) (visits : Option Visits) → d ≡ e → MayClear e visits → MayClear d visits
may_clear_at d e visits board may = subst (λ (x : RosterView MailTold). MayClear x visits) (sym board) may

pub may_close_at : (n m : ℕ) (d : RosterView MailTold) → n ≡ m → MayClose m d → MayClose n d
may_close_at n m d is may = subst (λ (x : ℕ). MayClose x d) (sym is) may

pub last_at : (n m : ℕ) (d e : RosterView MailTold) → n ≡ m → ((k : ℕ) → k < n → HasHadLast k d e) → (k : ℕ) → k < m → HasHadLast k d e
last_at n m d e is last = subst (λ (x : ℕ). (k : ℕ) → k < x → HasHadLast k d e) is last

module _ {D C : Type 0} (gives : C → ℕ → Type 0) (outset : Outset D C) (end : ServerEnd) (v : View D C) (stopped : HasStopped gives outset end v)
    (nobody : EndsWithNobody MailTold) (table : TableId) (cleared : RosterView MailTold) (visits : Option Visits)
    (clears : Clears v.table v.board v.visits table cleared visits) (gone : NobodySits cleared) where
  slots : length cleared.slots ≡ outset.count
  slots = clears.slots ∙ stopped.holds.slots

  ending : IsEndingAt outset.count stopped.moves cleared
  ending = clears.ending.ending outset.count stopped.moves stopped.ending

  -- its workers may be closed
  pub may_close : MayClose outset.count cleared
  may_close = record {
    slots = slots;
    free = nobody.unused outset.count stopped.moves cleared ending gone;
    pids = subst (λ (n : ℕ). n ≤ highest_pid) (sym clears.ending.last_pid) stopped.pids;
  }

  module _ (manner : Manner) (closed : RosterView MailTold) (own : List Noted) (book : List BookEntry) (keeps : KeepsBoard cleared closed)
      (last : (k : ℕ) → k < outset.count → HasHadLast k cleared closed) (left : AreLeft manner outset.count closed own book) where
    -- each slot has had the children that it had before, and others
    past : (k : ℕ) → (others : List (PastChild MailTold)) × ((slot_at closed k).past ≡ (slot_at v.board k).past ++ others)
    past k =
        let one = clears.past k in
        let two = past_after outset.limits outset.count stopped.moves cleared closed nobody ending gone slots left.slots stopped.legal stopped.drawn last k in (
          one.0 ++ two.0,
          two.1 ∙ (ap (λ (l : List (PastChild MailTold)). l ++ two.0) one.1 ∙ append_assoc (slot_at v.board k).past one.0 two.0),
        )

    pub board_is : IsBoardOf outset.count stopped.moves closed
    board_is = keeps outset.count stopped.moves (nobody.board outset.count stopped.moves cleared ending gone)

    pub once : AreUsedOnce closed
    once = once_after outset.limits outset.count stopped.moves cleared closed nobody ending gone slots left.slots stopped.legal stopped.drawn last

    pub cause : IsCausedBehind end stopped.moves closed
    cause = caused_more end stopped.moves v.board closed past stopped.cause

    pub asked : IsAsked end stopped.moves v.lines (ended_in visits) (last_pid_in outset.limits (journal_of outset.count stopped.moves))
    asked = asked_behind end stopped.moves v.lines (ended_in v.visits) (ended_in visits) (last_pid_in outset.limits (journal_of outset.count stopped.moves)) clears.ended stopped.asked

    pub redos : RedosAreThose stopped.moves closed
    redos = redos_behind stopped.moves v.board closed past stopped.redos

    -- whoever was offered a connection while it served still is
    served : AreServed (is_some visits) (accepted_in (journal_of outset.count stopped.moves)) cleared
    served = subst (λ (b : Bool). AreServed b (accepted_in (journal_of outset.count stopped.moves)) cleared) (sym clears.numbered) (clears.served _ _ stopped.holds.served)

    pub connections : AreAnswered (is_some visits) (accepted_in (journal_of outset.count stopped.moves)) closed
    connections =
        answered_by (is_some visits) (accepted_in (journal_of outset.count stopped.moves)) cleared closed (nobody.unused outset.count stopped.moves cleared ending gone)
        (past_after outset.limits outset.count stopped.moves cleared closed nobody ending gone slots left.slots stopped.legal stopped.drawn last) served

    pub links : IfSome visits (LinksCameBack (journal_of outset.count stopped.moves))
    links =
        home_if manner outset.count cleared closed own book left (nobody.unused outset.count stopped.moves cleared ending gone)
        (λ k near. past_after outset.limits outset.count stopped.moves cleared closed nobody ending gone slots left.slots stopped.legal stopped.drawn last k)
        (λ k far. none_behind cleared k (subst (λ (n : ℕ). n ≤ k) (sym slots) far))
        (journal_of outset.count stopped.moves) visits (clears.links _ stopped.holds.links) served

    pub returned : IfSome visits (AreBackIn closed)
    returned = back_if manner outset.count cleared closed own book left last visits _ (clears.links _ stopped.holds.links)
