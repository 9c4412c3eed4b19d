-- A pass of a store.
use Rattle.std.specs.Prelude.{◌≡◌, ℕ, ◌≤◌, List, Any, Option, None, Some, IfSome}
use Rattle.pm_query.specs.{declared.book.BookEntry.BookEntry, Book.{AnswersUpTo, IsAttached, present}, Calls.{PassView, User, user_of}}
use Rattle.pm_store_apart.specs.{declared.{live.Live.Live, pass.Pass.Pass}, Children.times_in, Fronts.{flushed_of, whole_of}, Moment.Moment}

abbrev pub view_of : Pass → PassView
view_of pass = record { pid = pass.pid; generation = pass.generation; front = pass.front }

-- whose pass it is, of a store at this moment
abbrev pub user_in : Moment → Pass → User
user_in at pass = user_of (Some at.generation) (view_of pass)

-- the child was answered up to the front that it has seen, in this generation
abbrev pub HasAnswer : ℕ → Option ℕ → List BookEntry → Type 0
HasAnswer pid None book = Unit {0}
HasAnswer pid (Some front) book = Any (AnswersUpTo pid front) (present book)

-- the child is attached in the book, where it tells
pub record IsInside (pid : ℕ) (front : Option ℕ) (book : List BookEntry) : Type 0 where
  pub attached : IsAttached book pid
  pub answered : HasAnswer pid front book

-- what it has seen is within this count of the log
abbrev pub IsUpTo : (Live → ℕ) → Option ℕ → Option Live → Type 0
IsUpTo count None live = Unit {0}
IsUpTo count (Some front) None = ⊥
IsUpTo count (Some front) (Some live) = front ≤ count live

-- it was taken: it is flushed, or staged
abbrev pub IsStaged : Option ℕ → Option Live → Type 0
IsStaged front live = IsUpTo whole_of front live

-- it is flushed
abbrev pub IsFlushed : Option ℕ → Option Live → Type 0
IsFlushed front live = IsUpTo flushed_of front live

-- An `enter` answered the pass: it is of the present generation, and its child is inside.
pub record Admits (pass : Pass) (at : Moment) : Type 0 where
  pub there : 1 ≤ times_in pass.pid at.inside
  pub generation_is : pass.generation ≡ at.generation
  pub inside : IfSome at.book (IsInside pass.pid pass.front)
  pub staged : IsStaged pass.front at.live
