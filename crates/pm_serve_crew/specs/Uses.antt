-- How a child used the store, and which end of redo it tells of.
use Rattle.std.specs.{Prelude.{◌≡◌, ◌⊎◌, ℕ, true, false, List, [], ◌∷◌}, List.AllByRecursion}
use Rattle.pm_session_answers.specs.{Own.is_by, pm_query.declared.book.BookEntry.{BookEntry, TheVariants.{Opened, Attached, Redone, Answered, Released, Detached, Gone, CheckpointEnded, Broke, LogFull}}}
use Rattle.pm_board_acts.specs.{pm_board.pm_board_words.declared.views.PastChild.PastChild, pm_supervisor_chain.Chain.{IsAmong, kept_of, redos_of}, pm_supervisor.Children.is_dead_end, pm_worker.declared.mail.MailTold.MailTold}
use Rattle.pm_serve_crew.specs.Redos.{redo_told}

-- all of them are entries of this child
abbrev pub AllBy : ℕ → List BookEntry → Type 0
AllBy pid entries = AllByRecursion (λ entry. is_by pid entry ≡ true) entries

-- An entry of a child that has entered the store: it doesn't enter again, and a redo that it notes is the one that it tells of.
abbrev pub IsWorkOf : PastChild MailTold → BookEntry → Type 0
IsWorkOf child (Opened generation) = ⊥
IsWorkOf child (Attached pid generation) = ⊥
IsWorkOf child (Gone pid) = ⊥
IsWorkOf child (Redone pid generation kept) =
    (pid ≡ child.offer.pid) × (redo_told child ≡ record { number = kept; generation = generation } ∷ [])
IsWorkOf child (Answered pid script reply commit front tick) = pid ≡ child.offer.pid
IsWorkOf child (Released pid front tick) = pid ≡ child.offer.pid
IsWorkOf child (Detached pid) = pid ≡ child.offer.pid
IsWorkOf child (CheckpointEnded pid done clean) = pid ≡ child.offer.pid
IsWorkOf child (Broke pid since faults) = pid ≡ child.offer.pid
IsWorkOf child (LogFull pid script need room) = pid ≡ child.offer.pid

-- It entered the store once, in the generation that it began in, and did its work there: no child that refuses a connection does.
pub record HasUsed (child : PastChild MailTold) (noted : List BookEntry) : Type 0 where
  pub work : List BookEntry
  pub is : noted ≡ Attached child.offer.pid child.offer.generation ∷ work
  pub of_it : AllByRecursion (IsWorkOf child) work
  pub serves : is_dead_end child.offer.kind ≡ false

-- What a child noted: nothing, or that it used the store. An end of redo that it tells of it has noted.
pub record UsesStore (child : PastChild MailTold) (noted : List BookEntry) : Type 0 where
  pub inside : (noted ≡ []) ⊎ HasUsed child noted
  pub redo : AllByRecursion (λ end. IsAmong end (kept_of (redos_of noted))) (redo_told child)
