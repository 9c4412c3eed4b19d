-- The runs of the children of one worker.
use Rattle.std.specs.{Prelude.{◌≡◌, ◌≢◌, ℕ, ◌+◌, ◌<◌, ◌≤◌, ◌^◌, ◌-◌, min, length, false, List, [], ◌∷◌, ◌++◌, map, Option, Some, None, is_some}, List.{flat_map, AllByRecursion}}
use Rattle.pm_session.specs.{pm_outside.pm_disk.Cause.Rose, pm_admit.declared.Cac.Cac, pm_child_life.Life.Told, pm_session_exchange.{Answers.IsOvertakenBy, Sent.Turn}, Session.{Ending, status_of, between, IsSession, IsCaused, HeedsTold, IsAttachedBehind, HasCancelled, HasCome}}
use Rattle.pm_board.specs.{pm_exit.declared.child.{Kind.Kind, Status.TheVariants.Code}, pm_keys.CancelKey.cancel_key, pm_board_words.declared.views.{Cancel.Cancel, Heard.Heard, LatchLook.LatchLook, Offer.Offer, PastChild.PastChild, Work.TheVariants.{Idle, Inactive}}, Models.PostModel, Rule.no_signals, Slots.child_slots, Told.child_in}
use Rattle.pm_board.specs.pm_exit.declared.child.Kind.TheVariants as kinds
use Rattle.pm_aux.specs.{pm_query.{pm_record.declared.fault.RedoFault.RedoFault, declared.{book.BookEntry.BookEntry, store.StoreNo.{StoreNo, TheVariants.Redo}}, Calls.{newcomer, DiskFact, unread_for}}, Ends.IsMetBehind, Runs.IsRunOf}
use Rattle.pm_board_life.specs.Lives.{told_by, child_as, MetRightly, Makes}
use Rattle.pm_worker.specs.{declared.mail.{LinkTold.LinkTold, MailTold.MailTold}, Mails.{traffic_in, IsFor}}
use Rattle.pm_worker.specs.declared.mail.MailTold.TheVariants as mail

-- A run: the child as its slot lists it, with the mails both ways; what it heard; the cancel that it asked for, a pid and a key, with
-- the number of slots on its board, the latches that it looked at, and the cancels that it made; what it noted in the book; and the
-- generation that its worker's store had met by its end.
pub record Run : Type 0 where
  pub child : PastChild MailTold
  pub heard : Heard
  pub asked : Option (ℕ × ℕ)
  pub slots : ℕ
  pub looked : List LatchLook
  pub made : List Cancel
  pub noted : List BookEntry
  pub met : ℕ

abbrev pub told_in : Run → Told
told_in run = told_by run.heard run.asked

-- a child of this pid was started on the post just now, with a mail that tells this and is for it
pub record HasBegun (pid : ℕ) (given : MailTold) (post : PostModel MailTold) : Type 0 where
  pub offer : Offer MailTold
  pub runs : post.knows.work ≡ Inactive offer
  pub pid_is : offer.pid ≡ pid
  pub given_is : offer.given ≡ given
  pub fits : IsFor given offer.kind
  pub untold : post.knows.notes.now ≡ no_signals

-- ---- one run

-- An auxiliary child of this kind, whose refusal and number of commits go back. `stamp` is the generation of its store, if that stays.
pub record IsAuxRun (stamp : Option ℕ) (kind : Kind) (run : Run) : Type 0 where
  pub fault : Option StoreNo
  pub kept : Option ℕ
  pub attached : Option ℕ
  pub back_is : run.child.back ≡ mail.Aux fault kept
  pub is :
      IsRunOf kind (record { pid = run.child.offer.pid; stamp = stamp })
      (record { done = record { status = run.child.status; fault = fault; kept = kept }; told = Some (told_in run); attached = attached }) run.noted
  pub active : run.child.was_active ≡ is_some attached
  -- who ends since the store is in another generation is told that one
  pub another : IsMetBehind run.met fault

-- the child that closes its worker does nothing, and exits with code 0
abbrev pub close_run : (slots met : ℕ) → Offer MailTold → Run
close_run slots met o = record {
  child = record { offer = o; status = Code 0; was_active = false; back = mail.Close };
  heard = no_signals;
  asked = None;
  slots = slots;
  looked = [];
  made = [];
  noted = [];
  met = met;
}

-- what a worker goes by: the generation of its store, if that stays, the seed of its keys, the limit of authentication, and
-- the moments that its clock gives
module _ (stamp : Option ℕ) (seed : List ℕ) (limit : ℕ) (gives : ℕ → Type 0) where
  -- a session over the link that came with the mail, which goes back
  pub record IsSessionRun (link : LinkTold) (decision : Cac) (run : Run) : Type 0 where
    pub back : LinkTold
    pub ending : Ending
    pub turns : List Turn
    pub generation : ℕ
    pub attached : Option ℕ
    pub key : ℕ
    -- pid 0 has none
    pub keyed : 0 < run.child.offer.pid → key ≡ cancel_key seed run.child.offer.pid
    pub back_is : run.child.back ≡ mail.Served back
    pub number : back.number ≡ link.number
    pub faults : link.faults ≤ back.faults
    pub status : run.child.status ≡ status_of ending
    pub session :
        IsSession {S = Unit {0}} (λ entries _ _. entries ≡ run.noted) decision (newcomer stamp run.child.offer.pid generation) key turns ending
        (Rose link.faults back.faults) (between (traffic_in back) tt tt)
    pub caused : IsCaused ending turns generation decision (traffic_in back) (Rose link.faults back.faults) (Some (told_in run)) limit gives
    -- it has asked for its signals once more at least than it has turns, or up to the last number
    pub asked : min (length turns + 1) (2 ^ 64 - 1) ≤ (told_in run).asked
    pub heeds : HeedsTold run.child.status (told_in run)
    pub active : run.child.was_active ≡ is_some attached
    pub behind : IsAttachedBehind ending generation attached
    pub cancels : HasCancelled ending.cause (traffic_in back) (Some (told_in run))
    pub overtaken : IsOvertakenBy run.met generation ending.exit
    pub come : HasCome (traffic_in back) (Some (told_in run))

  -- what a child does that was given a mail which tells this
  abbrev pub Does : MailTold → Run → Type 0
  Does (mail.Serve link decision) run = IsSessionRun link decision run
  Does mail.Startup run = IsAuxRun stamp kinds.Startup run
  Does mail.Checkpointer run = IsAuxRun stamp kinds.Checkpointer run
  Does mail.Writer run = IsAuxRun stamp kinds.Writer run
  Does mail.Close run = run ≡ close_run run.slots run.met run.child.offer
  Does _ run = ⊥

  -- A run of a child by its mail, which is one for it. It met at the gate what is right for it, and made the cancel that it asked
  -- for, where its key was right and a latch was armed for its pid, and no other.
  pub record IsRun (run : Run) : Type 0 where
    pub fits : IsFor run.child.offer.given run.child.offer.kind
    pub does : Does run.child.offer.given run
    pub met : MetRightly run.child.offer run.heard.met
    pub makes : Makes seed run.slots run.asked run.looked run.made

-- What is known of a run at the end of its worker's store, which has met this generation and learned this of its disk.
pub record IsKnownBy (met : ℕ) (learned : DiskFact → Type 0) (run : Run) : Type 0 where
  pub met_by_then : run.met ≤ met
  -- a startup child that couldn't read the log tells a reason that was learned
  pub reason :
      (fault : RedoFault) (kept : Option ℕ) → run.child.offer.kind ≡ kinds.Startup → run.child.back ≡ mail.Aux (Some (Redo fault)) kept
      → learned (unread_for fault)

-- ---- what a worker's post has of its runs

-- the run is one more of the post's
pub record HasRun (run : Run) (before after : PostModel MailTold) : Type 0 where
  pub table : after.table ≡ before.table
  pub slot : after.slot ≡ before.slot
  pub idle : after.knows.work ≡ Idle
  pub offer : child_in before.knows.work ≡ Some run.child.offer
  pub past : after.knows.past ≡ before.knows.past ++ run.child ∷ []
  pub heard : after.knows.notes.heard ≡ before.knows.notes.heard ++ run.heard ∷ []
  pub slots : run.slots ≡ child_slots before.table.slots
  pub looked : after.knows.notes.looked ≡ before.knows.notes.looked ++ run.looked
  pub cancels : after.knows.notes.cancels ≡ before.knows.notes.cancels ++ run.made

abbrev pub noted_by : List Run → List BookEntry
noted_by runs = flat_map (λ run. run.noted) runs

-- The post has had these runs in order and no others; what it heard of each, the latches that it looked at and the cancels that it
-- made are theirs.
pub record HasRuns (runs : List Run) (before after : PostModel MailTold) : Type 0 where
  pub table : after.table ≡ before.table
  pub slot : after.slot ≡ before.slot
  pub idle : after.knows.work ≡ Idle
  pub past : after.knows.past ≡ before.knows.past ++ map (λ run. run.child) runs
  pub heard : after.knows.notes.heard ≡ before.knows.notes.heard ++ map (λ run. run.heard) runs
  pub slots : AllByRecursion (λ run. run.slots ≡ child_slots before.table.slots) runs
  pub looked : after.knows.notes.looked ≡ before.knows.notes.looked ++ flat_map (λ run. run.looked) runs
  pub cancels : after.knows.notes.cancels ≡ before.knows.notes.cancels ++ flat_map (λ run. run.made) runs

-- ---- all runs of a worker

-- none of them closed the worker
abbrev pub NoneCloses : List Run → Type 0
NoneCloses runs = AllByRecursion (λ run. run.child.offer.given ≢ mail.Close) runs

-- what a worker's store notes, the generation that it has met, what it has learned of its disk, and what the worker goes by
module _ {S : Type 0} (notes : List BookEntry → S → S → Type 0) (met : S → ℕ) (learned : S → DiskFact → Type 0)
    (stamp : Option ℕ) (seed : List ℕ) (limit : ℕ) (gives : ℕ → Type 0) where
  -- Between two moments a worker has had one run: its post lists it, and it noted all that its store's own calls have noted.
  pub record HasRunOne (post_before post_now : PostModel MailTold) (store_before store_now : S) : Type 0 where
    pub run : Run
    pub is : IsRun stamp seed limit gives run
    pub post : HasRun run post_before post_now
    pub store : notes run.noted store_before store_now
    pub known : IsKnownBy (met store_now) (learned store_now) run

  -- Between two moments a worker has had these runs: its post lists them, and they noted, one after the other, all that its store's
  -- own calls have noted. Each is known by the store as it is now.
  pub record HasWorked (runs : List Run) (post_before post_now : PostModel MailTold) (store_before store_now : S) : Type 0 where
    pub each : AllByRecursion (IsRun stamp seed limit gives) runs
    pub post : HasRuns runs post_before post_now
    pub store : notes (noted_by runs) store_before store_now
    pub known : AllByRecursion (IsKnownBy (met store_now) (learned store_now)) runs

  -- some runs, and goes on
  pub record GoesOnWorking (post_before post_now : PostModel MailTold) (store_before store_now : S) : Type 0 where
    pub runs : List Run
    pub worked : HasWorked runs post_before post_now store_before store_now
    pub none : NoneCloses runs

  -- its whole work, up to the run that closes it
  pub record HasClosed (post_before post_now : PostModel MailTold) (store_before store_now : S) : Type 0 where
    pub front : List Run
    pub last : Run
    pub worked : HasWorked (front ++ last ∷ []) post_before post_now store_before store_now
    pub earlier : NoneCloses front
    pub closes : last.child.offer.given ≡ mail.Close
