-- The chain of journal and book: two lists that were written side by side, and agree on generations, redos and children.
use Rattle.std.specs.{Prelude.{◌≡◌, ◌≢◌, ◌⊎◌, ℕ, true, List, [], ◌∷◌, ◌++◌}, List.AllByRecursion}
use Rattle.pm_state.specs.pm_admit.declared.Cac.TheVariants as decision
use Rattle.pm_state.specs.declared.event.PmEvent.{PmEvent}
use Rattle.pm_state.specs.declared.event.PmEvent.TheVariants as event
use Rattle.pm_query.specs.declared.book.BookEntry.{BookEntry}
use Rattle.pm_query.specs.declared.book.BookEntry.TheVariants as entry

-- a child in a generation, or a number of kept commits in one
pub record InGeneration : Type 0 where
  pub number : ℕ
  pub generation : ℕ

-- the number is one of these, in the same generation
abbrev pub IsAmong : InGeneration → List InGeneration → Type 0
IsAmong x [] = ⊥
IsAmong x (y ∷ ys) = ((x.number ≡ y.number) × (x.generation ≡ y.generation)) ⊎ IsAmong x ys

-- the pid is one of these
abbrev pub IsPidOf : ℕ → List ℕ → Type 0
IsPidOf pid [] = ⊥
IsPidOf pid (other ∷ pids) = (pid ≡ other) ⊎ IsPidOf pid pids

-- ---- what the journal says

-- the generations that it begins after the first
abbrev pub resets_of : List PmEvent → List ℕ
resets_of [] = []
resets_of (event.Reset generation ∷ journal) = generation ∷ resets_of journal
resets_of (_ ∷ journal) = resets_of journal

-- the children that may use the store, from this generation on: a child that refuses a connection is none of them
abbrev pub users_from : ℕ → List PmEvent → List InGeneration
users_from generation [] = []
users_from generation (event.Started pid kind ∷ journal) =
    record { number = pid; generation = generation } ∷ users_from generation journal
users_from generation (event.Accepted pid decision.Ok ∷ journal) =
    record { number = pid; generation = generation } ∷ users_from generation journal
users_from generation (event.Reset next ∷ journal) = users_from next journal
users_from generation (_ ∷ journal) = users_from generation journal

-- the generation after these entries
abbrev pub generation_in : ℕ → List PmEvent → ℕ
generation_in generation [] = generation
generation_in generation (event.Reset next ∷ journal) = generation_in next journal
generation_in generation (_ ∷ journal) = generation_in generation journal

-- the ends of redo, by the numbers that were kept
abbrev pub redo_ends_of : List PmEvent → List InGeneration
redo_ends_of [] = []
redo_ends_of (event.RedoEnded generation kept ∷ journal) =
    record { number = kept; generation = generation } ∷ redo_ends_of journal
redo_ends_of (_ ∷ journal) = redo_ends_of journal

-- the children that were found to have ended
abbrev pub exits_of : List PmEvent → List ℕ
exits_of [] = []
exits_of (event.Exited pid kind status was_active at ∷ journal) = pid ∷ exits_of journal
exits_of (_ ∷ journal) = exits_of journal

-- for each reset the children that ended in the generation before it while their slots were active, after those so far
abbrev pub lost_from : List ℕ → List PmEvent → List (List ℕ)
lost_from so_far [] = []
lost_from so_far (event.Exited pid kind status true at ∷ journal) = lost_from (so_far ++ pid ∷ []) journal
lost_from so_far (event.Reset generation ∷ journal) = so_far ∷ lost_from [] journal
lost_from so_far (_ ∷ journal) = lost_from so_far journal

-- the children that ended while their slots were active since the last reset, after those so far
abbrev pub lost_since : List ℕ → List PmEvent → List ℕ
lost_since so_far [] = so_far
lost_since so_far (event.Exited pid kind status true at ∷ journal) = lost_since (so_far ++ pid ∷ []) journal
lost_since so_far (event.Reset generation ∷ journal) = lost_since [] journal
lost_since so_far (_ ∷ journal) = lost_since so_far journal

-- ---- what the book says

abbrev pub opened_of : List BookEntry → List ℕ
opened_of [] = []
opened_of (entry.Opened generation ∷ book) = generation ∷ opened_of book
opened_of (_ ∷ book) = opened_of book

-- A child of a legal book notes nothing but while it is attached, so that its other entries are of the same generation.
abbrev pub attached_of : List BookEntry → List InGeneration
attached_of [] = []
attached_of (entry.Attached pid generation ∷ book) = record { number = pid; generation = generation } ∷ attached_of book
attached_of (_ ∷ book) = attached_of book

-- a redo, with the child that made it
pub record Redo : Type 0 where
  pub pid : ℕ
  pub kept : InGeneration

abbrev pub redos_of : List BookEntry → List Redo
redos_of [] = []
redos_of (entry.Redone pid generation kept ∷ book) =
    record { pid = pid; kept = record { number = kept; generation = generation } } ∷ redos_of book
redos_of (_ ∷ book) = redos_of book

abbrev pub kept_of : List Redo → List InGeneration
kept_of [] = []
kept_of (redo ∷ redos) = redo.kept ∷ kept_of redos

-- for each generation the children that are gone before it, after those so far
abbrev pub gone_from : List ℕ → List BookEntry → List (List ℕ)
gone_from so_far [] = []
gone_from so_far (entry.Gone pid ∷ book) = gone_from (so_far ++ pid ∷ []) book
gone_from so_far (entry.Opened generation ∷ book) = so_far ∷ gone_from [] book
gone_from so_far (_ ∷ book) = gone_from so_far book

-- the children that are gone since the last generation was opened, after those so far
abbrev pub gone_since : List ℕ → List BookEntry → List ℕ
gone_since so_far [] = so_far
gone_since so_far (entry.Gone pid ∷ book) = gone_since (so_far ++ pid ∷ []) book
gone_since so_far (entry.Opened generation ∷ book) = gone_since [] book
gone_since so_far (_ ∷ book) = gone_since so_far book

-- ---- the chain

-- The generations of the book are the first and those that the journal begins, in order. The last of these may be missing,
-- where the store wasn't renewed for want of memory.
abbrev pub AgreeOnGenerations : List PmEvent → List BookEntry → Type 0
AgreeOnGenerations journal book =
    (opened_of book ≡ 1 ∷ resets_of journal) ⊎ ((last : ℕ) × (opened_of book ++ last ∷ [] ≡ 1 ∷ resets_of journal))

-- each end of redo has its redo, of the same generation and number
abbrev pub RedosEnd : List PmEvent → List BookEntry → Type 0
RedosEnd journal book = AllByRecursion (λ end. IsAmong end (kept_of (redos_of book))) (redo_ends_of journal)

-- each redo has its end, unless the run ended before its child was found to have ended
abbrev pub RedosAreTold : List PmEvent → List BookEntry → Type 0
RedosAreTold journal book =
    AllByRecursion (λ redo. IsPidOf redo.pid (exits_of journal) → IsAmong redo.kept (redo_ends_of journal)) (redos_of book)

-- each child that uses the store was started in that generation, for a connection only where it serves it
abbrev pub UsersWereStarted : List PmEvent → List BookEntry → Type 0
UsersWereStarted journal book = AllByRecursion (λ user. IsAmong user (users_from 1 journal)) (attached_of book)

-- no child attaches twice
abbrev pub AttachOnce : List InGeneration → Type 0
AttachOnce [] = Unit {0}
AttachOnce (user ∷ users) = AllByRecursion (λ other. user.number ≢ other.number) users × AttachOnce users

abbrev pub AreDistinct : List ℕ → Type 0
AreDistinct [] = Unit {0}
AreDistinct (pid ∷ pids) = AllByRecursion (λ other. pid ≢ other) pids × AreDistinct pids

-- each once, the same pids
pub record ArePids (gone lost : List ℕ) : Type 0 where
  pub once : AreDistinct gone
  pub gone_were_lost : AllByRecursion (λ pid. IsPidOf pid lost) gone
  pub lost_are_gone : AllByRecursion (λ pid. IsPidOf pid gone) lost

-- so it is for each generation that the book opens
abbrev pub GoneWereLost : List (List ℕ) → List (List ℕ) → Type 0
GoneWereLost [] lost = Unit {0}
GoneWereLost (pids ∷ gone) [] = ⊥
GoneWereLost (pids ∷ gone) (others ∷ lost) = ArePids pids others × GoneWereLost gone lost

pub record IsChained (journal : List PmEvent) (book : List BookEntry) : Type 0 where
  pub generations : AgreeOnGenerations journal book
  pub redos_end : RedosEnd journal book
  pub redos_told : RedosAreTold journal book
  pub users : UsersWereStarted journal book
  pub once : AttachOnce (attached_of book)
  -- the children that are gone before a generation are those that ended in the one before while their slots were active. Before
  -- the first there are none
  pub gone : GoneWereLost (gone_from [] book) ([] ∷ lost_from [] journal)
