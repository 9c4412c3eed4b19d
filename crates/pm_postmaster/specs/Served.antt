-- What a run of a server of many connections leaves.
use Rattle.std.specs.Prelude.{◌≡◌, ◌⊎◌, ◌+◌, ◌*◌, ℕ, List, [], ◌∷◌, ◌++◌, Option, None, Some, IfSome, is_some, ◌≢◌}
use Rattle.pm_board_acts.specs.{pm_board.pm_board_words.declared.views.RosterView.RosterView, Chained.LinksCameBack, Seating.{Move, journal_of}, Standing.IsBoardOf, pm_worker.declared.mail.MailTold.MailTold, pm_supervisor_chain.Chain.{opened_of, resets_of}}
use Rattle.pm_serve_pool.specs.{pm_serve_crew.{Left.{AreLeft, Manner}, Pids.AreUsedOnce, Redos.RedosAreThose, Renewals.RenewsAsTold}, declared.pool.NoPool.NoPool, Plan.sessions_of}
use Rattle.pm_server.specs.{pm_disk.Cause.Rose, pm_server_lines.Log.{HasLogged, LogView, Says, log_of}, pm_record.OnDisk.GoesOn, pm_query.declared.book.BookEntry.{BookEntry, TheVariants.Opened}, declared.{conf.Conf.Conf, end.ServerEnd.{ServerEnd, TheVariants.{NoThread, NoMemory}}}, Ends.end_line, Journal.IsJournal, pm_supervisor.declared.Limits.Limits}
use Rattle.pm_serve_pool.specs.declared.pool.NoPool.TheVariants as pools
use Rattle.pm_store_remains.specs.{Remains.Remains, pm_store_shared.{declared.views.Noted.Noted, Log.entries_of}}
use Rattle.pm_postmaster.specs.{Links.{AreAnswered, AreBackIn, accepted_in}, Outside.ServeView, Requests.{IsAsked, ended_in}, Serving.{IsCausedBehind, IsEndBehind, last_pid_in}}

-- how many slots the board of a server has
abbrev pub slots_by : Limits → ℕ
slots_by limits = 3 + 2 * (limits.max_connections + limits.max_worker_processes) + 4

-- what its workers go by
abbrev pub manner_by : Conf → ServeView → Manner
manner_by conf before = record {
  seed = before.outside.seed;
  limit = conf.session.authentication_ms;
  gives = before.outside.gives;
  files = before.outside.disk.files;
}

-- how a server ends for which no pool was made
abbrev pub unmade_by : NoPool → ServerEnd
unmade_by pools.NoThread = NoThread
unmade_by pools.NoMemory = NoMemory

-- the line was given to a log, whose sink has come back
abbrev pub IsEnded : List ℕ → LogView → (written : Option (List ℕ)) → (faults : ℕ) → Type 0
IsEnded line before written faults = (now : LogView) × Says line before now × (now.written ≡ written) × (now.faults ≡ faults)

-- The pool was made, and this is what the supervisor's side of its board knew at the end. These are the moves of the supervisor, the
-- entries that its side of the store noted, and all that the store noted.
pub record IsServed (conf : Conf) (end : ServerEnd) (board : RosterView MailTold) (before now : ServeView) : Type 0 where
  pub moves : List Move
  pub own : List Noted
  pub book : List BookEntry
  pub journal : IsJournal conf.limits before.outside.gives (journal_of (slots_by conf.limits) moves) before.outside.journal now.outside.journal
  -- so many sessions it lets in at one time, and so many of these places are kept from ordinary ones
  pub limit : board.session_limit ≡ sessions_of conf.limits
  -- the steps at the board are those of the moves
  pub board_is : IsBoardOf (slots_by conf.limits) moves board
  -- each worker's runs, one for one, are the children of its slot, and the book is what they and the supervisor noted
  pub left : AreLeft (manner_by conf before) (slots_by conf.limits) board own book
  pub once : AreUsedOnce board
  -- the files, at every tick
  pub remains : Remains before.outside.disk now.outside.disk now.outside.book book
  -- it ended as its machine did, or for want of memory or of a generation
  pub ends : IsEndBehind conf.limits end (journal_of (slots_by conf.limits) moves)
  pub cause : IsCausedBehind end moves board
  -- the store's generations are those that the journal begins, each after the children that were lost before it
  pub renewals : RenewsAsTold (journal_of (slots_by conf.limits) moves) own
  -- the last generation is missing only where memory was short
  pub opened : end ≢ NoMemory → opened_of (entries_of own) ≡ 1 ∷ resets_of (journal_of (slots_by conf.limits) moves)
  -- the ends of redo are those that startup children told
  pub redos : RedosAreThose moves board
  -- its requests are those of the lines that it read, of the port's end and of the last pid
  pub asked : IsAsked end moves now.lines (ended_in now.outside.visits) (last_pid_in conf.limits (journal_of (slots_by conf.limits) moves))
  -- each connection accepted was answered by the child of its pid, which was given what was decided, and the link of its number
  pub connections : AreAnswered (is_some now.outside.visits) (accepted_in (journal_of (slots_by conf.limits) moves)) board
  -- each link that was given came back once
  pub links : IfSome now.outside.visits (LinksCameBack (journal_of (slots_by conf.limits) moves))
  -- with what had passed on it when its child gave it back, and no more
  pub returned : IfSome now.outside.visits (AreBackIn board)
  pub logged :
      HasLogged (log_of (journal_of (slots_by conf.limits) moves) ++ end_line end) before.outside.written now.outside.written before.outside.sink_faults
      now.outside.sink_faults

-- No pool was made, for want of a thread, which the spawner has counted, or of memory. Nothing was accepted, read or noted but,
-- perhaps, the opening of the store.
pub record IsUnmade (end : ServerEnd) (before now : ServeView) : Type 0 where
  pub why : (end ≡ NoMemory) ⊎ ((end ≡ NoThread) × Rose before.refused now.refused)
  pub journal : now.outside.journal ≡ before.outside.journal
  pub visits : now.outside.visits ≡ before.outside.visits
  pub lines : now.lines ≡ before.lines
  pub book : (now.outside.book ≡ before.outside.book) ⊎ IfSome now.outside.book (λ book. book ≡ Opened 1 ∷ [])
  pub files : now.outside.disk.files ≡ before.outside.disk.files
  pub time : GoesOn before.outside.disk.ticks now.outside.disk.ticks before.outside.disk.images now.outside.disk.images
  pub logged : HasLogged (end_line end) before.outside.written now.outside.written before.outside.sink_faults now.outside.sink_faults

-- a run of a server that ended so, with what its board knew at the end, if its pool was made
abbrev pub IsServeRun : Conf → ServerEnd → Option (RosterView MailTold) → (before now : ServeView) → Type 0
IsServeRun conf end (Some board) before now = IsServed conf end board before now
IsServeRun conf end None before now = IsUnmade end before now
