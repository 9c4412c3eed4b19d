-- What holds of a server at every moment.
use Rattle.std.specs.{Prelude.{◌≡◌, ◌≢◌, ◌⊎◌, ℕ, ◌≤◌, Bool, List, [], ◌∷◌, ◌++◌, Option, Some, IfSome, Result, Ok, Err, length, map, is_some}, List.flat_map}
use Rattle.atomic_table.specs.Seated.{TableId}
use Rattle.pm_board_acts.specs.{pm_board.{pm_board_words.declared.views.{RosterView.RosterView, PastChild.PastChild}, Places.slot_at}, pm_supervisor_chain.Chain.{gone_from, lost_from, opened_of, resets_of, lost_since, gone_since}, Chained.pids_accepted, Final.IsEndingAt, Board.ended_of, Seating.{Move, ended_at, journal_of}, Standing.{IsAt, view}, pm_worker.declared.mail.MailTold.MailTold}
use Rattle.pm_serve_pool.specs.{Plan.sessions_of, pm_serve_crew.{Redos.{redo_ends_at, redo_told, RedosAreThose}, Renewals.{EachBeginsSo, RenewsAsTold, WereInside}}, pm_store_shared.{Log.entries_of, Told.SharedModel, declared.views.Noted.Noted}}
use Rattle.pm_server.specs.{pm_supervisor_journal.{Moments.AreGiven, Standing.Standing, Stands.{any_moment, highest_pid}}, pm_server_lines.Log.{HasSaid, LogView}, declared.end.{ServerEnd.{ServerEnd, TheVariants.{Abnormal, NoMemory, NoThread}}, StartWhy.StartWhy, Why.TheVariants.{AfterCrash, StartupFailed}}, pm_exit.declared.child.{Kind.Kind, Status.TheVariants.Signal}, pm_state.{declared.{action.Action.Action, event.PmEvent.PmEvent}, Journal.{IsLegal, all_replayed, replay_begun}}, Ends.IsEndBy, pm_supervisor.{declared.Limits.Limits, Children.{is_checkpointer, is_startup_child}}, pm_query.declared.store.StoreNo.TheVariants.{Redo as RedoNo, NoMemory as MemoryNo}, pm_record.declared.fault.RedoFault.TheVariants.{NoMemory as ShortOfMemory}}
use Rattle.pm_server.specs.declared.end.StartWhy.TheVariants as why
use Rattle.pm_postmaster.specs.{declared.came.{Came.Came, LastCame.LastCame}, Looking.came_of, Links.{AreServed, HasLinks, accepted_in}, Requests.{AsksSoFar, IsAsked, ended_in}, View.View}
use Rattle.pm_server.specs.pm_state.declared.action.Action.TheVariants as act
use Rattle.pm_server.specs.pm_state.declared.event.PmEvent.TheVariants as entry

-- How a server began: by what limits, on what board of so many slots, with what side of its store, log and clock, and whether its
-- journal tells.
pub record Outset (D C : Type 0) : Type 0 where
  pub limits : Limits
  pub count : ℕ
  pub table : TableId
  pub shared : SharedModel D
  pub log : LogView
  pub clock : C
  pub tells : Bool

-- all are to be killed among these acts
abbrev pub KillsAll : List Action → Type 0
KillsAll [] = ⊥
KillsAll (act.KillAll ∷ acts) = Unit {0}
KillsAll (_ ∷ acts) = KillsAll acts

-- the moment of the last entry, and that of a killing that is due, are given, but for the first of all
pub record Moments (gives : ℕ → Type 0) (s : Standing) : Type 0 where
  pub last : (s.moment ≡ 0) ⊎ gives s.moment
  pub called : KillsAll s.due → gives s.called_at

-- Those that were lost in this generation are at hand. The shared side opened the generations that the journal begins, each after
-- those that were lost before it, and others that were attached.
pub record Renews (journal : List PmEvent) (lost : List ℕ) (own : List Noted) : Type 0 where
  pub lost_is : lost ≡ lost_since [] journal
  pub opened : opened_of (entries_of own) ≡ 1 ∷ resets_of journal
  pub gone : EachBeginsSo (gone_from [] (entries_of own)) ([] ∷ lost_from [] journal)
  pub inside : WereInside own ([] ∷ lost_from [] journal)
  pub fresh : gone_since [] (entries_of own) ≡ []

-- each end of redo that the moves tell of is that of a released child of its slot, and no others have told of one
abbrev pub TellsRedos : List Move → RosterView MailTold → Type 0
TellsRedos moves d = (k : ℕ) → flat_map redo_told (slot_at d k).past ≡ redo_ends_at k moves

-- it is known how the last startup child and the last checkpointer came out, each of those of its slot that were released
pub record RemembersLast (came : LastCame) (d : RosterView MailTold) : Type 0 where
  pub startup : came.startup ≡ came_of is_startup_child (slot_at d 0).past
  pub checkpointer : came.checkpointer ≡ came_of is_checkpointer (slot_at d 1).past

-- the store and its tokens, and the clock, are those of the outset
pub record StaysWith {D C : Type 0} (outset : Outset D C) (v : View D C) : Type 0 where
  pub table : v.table ≡ outset.table
  pub home : v.shared.table ≡ outset.shared.table
  pub tokens : v.shared.tokens ≡ outset.shared.tokens
  pub joined : v.shared.joined ≡ outset.shared.joined
  pub disk : v.shared.first ≡ outset.shared.first
  pub clock : v.clock ≡ outset.clock

-- the journal ends with this entry
abbrev pub EndsWith : PmEvent → List PmEvent → Type 0
EndsWith last journal = (front : List PmEvent) × (journal ≡ front ++ last ∷ [])

-- the last pid that a journal tells of
abbrev pub last_pid_in : Limits → List PmEvent → ℕ
last_pid_in limits journal = (all_replayed (replay_begun limits) journal).shown.last_pid

-- a server may end so after this journal
abbrev pub IsEndBehind : Limits → ServerEnd → List PmEvent → Type 0
IsEndBehind limits end journal = IsEndBy (λ how. (front : List PmEvent) × (journal ≡ front ++ entry.Ended how ∷ [])) limits end journal

-- a startup child came out so that a server ends for this reason, which isn't want of memory
abbrev pub IsReason : StartWhy → Came → Type 0
IsReason why.Killed came = came.status ≡ Signal 9
IsReason (why.Redo fault) came = (came.fault ≡ Some (RedoNo fault)) × (fault ≢ ShortOfMemory)

-- So the last child of one kind came out, if there was one, of the children of the slot k whose ends the moves tell of. The others
-- were released after the last entry.
pub record HasComeOut (is_it : Kind → Bool) (past : List (PastChild MailTold)) (k : ℕ) (moves : List Move) (came : Option Came) : Type 0 where
  pub front : List (PastChild MailTold)
  pub others : List (PastChild MailTold)
  pub past_is : past ≡ front ++ others
  pub told : map ended_of front ≡ ended_at k moves
  pub came_is : came_of is_it front ≡ came

-- the last startup child came out for this reason
pub record FailsFor (reason : StartWhy) (moves : List Move) (past : List (PastChild MailTold)) : Type 0 where
  pub came : Came
  pub out : HasComeOut is_startup_child past 0 moves (Some came)
  pub reason_is : IsReason reason came

-- the last checkpointer, if there was one, told of no want of memory
pub record CrashedOtherwise (moves : List Move) (past : List (PastChild MailTold)) : Type 0 where
  pub came : Option Came
  pub out : HasComeOut is_checkpointer past 1 moves came
  pub other : IfSome came (λ last. last.fault ≢ Some MemoryNo)

-- Where no startup child brought the data up to date, the last one came out for the reason that is told. A crash is told only where
-- memory wasn't short for the last checkpoint. All threads are there.
abbrev pub IsCausedBehind : ServerEnd → List Move → RosterView MailTold → Type 0
IsCausedBehind (Abnormal (StartupFailed reason)) moves d = FailsFor reason moves (slot_at d 0).past
IsCausedBehind (Abnormal AfterCrash) moves d = CrashedOtherwise moves (slot_at d 1).past
IsCausedBehind NoThread moves d = ⊥
IsCausedBehind end moves d = Unit {0}

module _ {D C : Type 0} (gives : C → ℕ → Type 0) where
  -- after these moves, while entries are noted and after the last one
  pub record Holds (outset : Outset D C) (moves : List Move) (v : View D C) : Type 0 where
    pub stays : StaysWith outset v
    pub slots : length v.board.slots ≡ outset.count
    pub limit : v.board.session_limit ≡ sessions_of outset.limits
    pub tells : is_some v.work.told ≡ outset.tells
    pub times : AreGiven (gives outset.clock) (journal_of outset.count moves)
    pub said : HasSaid (journal_of outset.count moves) outset.log v.log
    pub links : IfSome v.visits (HasLinks (length (pids_accepted (journal_of outset.count moves))) v.board)
    pub served : AreServed (is_some v.visits) (accepted_in (journal_of outset.count moves)) v.board

  -- at every moment, these are the moves so far
  pub record IsServing (outset : Outset D C) (v : View D C) : Type 0 where
    pub moves : List Move
    pub at : IsAt outset.limits outset.count moves (view v.work v.board)
    pub holds : Holds outset moves v
    pub moments : Moments (gives outset.clock) v.work.standing
    pub generation : v.shared.generation ≡ v.work.standing.generation
    pub renews : Renews (journal_of outset.count moves) v.lost v.shared.own
    pub redos : TellsRedos moves v.board
    pub came : RemembersLast v.came v.board
    pub asks : AsksSoFar moves v.lines (ended_in v.visits) v.listens v.work.standing

  -- after the last entry, of a server that ends so
  pub record HasStopped (outset : Outset D C) (end : ServerEnd) (v : View D C) : Type 0 where
    pub moves : List Move
    pub ending : IsEndingAt outset.count moves v.board
    pub pids : v.board.notes.last_pid ≤ highest_pid
    pub legal : IsLegal outset.limits any_moment (journal_of outset.count moves)
    pub drawn : last_pid_in outset.limits (journal_of outset.count moves) ≤ highest_pid
    pub told : IfSome v.work.told (λ entries. entries ≡ journal_of outset.count moves)
    pub holds : Holds outset moves v
    pub ends : IsEndBehind outset.limits end (journal_of outset.count moves)
    pub cause : IsCausedBehind end moves v.board
    pub asked : IsAsked end moves v.lines (ended_in v.visits) (last_pid_in outset.limits (journal_of outset.count moves))
    pub renews : RenewsAsTold (journal_of outset.count moves) v.shared.own
    -- the last generation is missing only where memory was short
    pub opened : end ≢ NoMemory → opened_of (entries_of v.shared.own) ≡ 1 ∷ resets_of (journal_of outset.count moves)
    pub redos : RedosAreThose moves v.board

  -- it goes on serving, whatever its outset was
  abbrev pub Keeps : View D C → View D C → Type 0
  Keeps before now = (outset : Outset D C) → IsServing outset before → IsServing outset now

  -- it has ended so
  abbrev pub Stops : ServerEnd → View D C → View D C → Type 0
  Stops end before now = (outset : Outset D C) → IsServing outset before → HasStopped outset end now

  -- it goes on, or it has ended by the answer
  abbrev pub Goes : {T : Type 0} → Result T ServerEnd → View D C → View D C → Type 0
  Goes (Ok done) before now = Keeps before now
  Goes (Err end) before now = Stops end before now

  -- it has come to where it is from some outset
  abbrev pub IsAlive : View D C → Type 0
  IsAlive v = (outset : Outset D C) × IsServing outset v
