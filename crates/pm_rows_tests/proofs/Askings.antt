-- One question of a child, put together from what the calls of any store note.
use Rattle.std.proofs.Common.{◌≡◌, ℕ, Bool, List, ◌++◌, Option, Result, Ok, Err, inl, refl, ap, subst}
use Rattle.pm_query.{specs.{pm_sql.declared.stmt.Stmt.Stmt, declared.{item.Item.Item, book.BookEntry.BookEntry, store.{Staged.Staged, Seen.Seen, StoreNo.StoreNo}}, Calls.{EnterNotes, FlushNotes, LeaveNotes, NotesStaged, RedoNotes, SeenNotes, User}}, proofs.NotedLaws.GoesInTurn}
use Rattle.pm_rows_tests.specs.{declared.tending.Tended.Tended, Asking.{AnsweredThen, RedoneThen, ReplyNotes, TendNotes, TendingNotes, VisitNotes, Visits}}

-- an answer, and a look after it
pub answered_then : {S : Type 0} (notes : List BookEntry → S → S → Type 0) (user who : User) (script : List Stmt) (staged : Staged) (result looked : Result Seen StoreNo) (before between now : S) → GoesInTurn notes → who ≡ user → result ≡ looked
    → (entries : List BookEntry) × notes entries before between × NotesStaged user.pid script staged entries
    → (entries : List BookEntry) × notes entries between now × SeenNotes who staged.front result entries
    → (entries : List BookEntry) × notes entries before now × AnsweredThen user script staged looked entries
answered_then notes user who script staged result looked before between now in_turn e is (first, one, answer) (second, two, look) = (
  first ++ second,
  in_turn before between now first second one two,
  record { first = first; second = second; answer = answer; look = subst (λ (r : Result Seen StoreNo). SeenNotes user staged.front r second) is (subst (λ (p : User). SeenNotes p staged.front result second) e look); entries_are = refl },
)

-- a whole visit
pub visits : {S : Type 0} (notes : List BookEntry → S → S → Type 0) (user asker leaver : User) (Asks : User → List BookEntry → Type 0) (start entered asked left : S) → GoesInTurn notes → asker ≡ user → leaver ≡ user
    → (entries : List BookEntry) × notes entries start entered × EnterNotes {P = ℕ} user (Ok 0) entries
    → (entries : List BookEntry) × notes entries entered asked × Asks asker entries
    → (entries : List BookEntry) × notes entries asked left × LeaveNotes leaver entries
    → (entries : List BookEntry) × notes entries start left × Visits user (Asks user) entries
visits notes user asker leaver Asks start entered asked left in_turn e f (first, one, enter) (second, two, ask) (third, three, leave) = (
  (first ++ second) ++ third,
  in_turn start asked left (first ++ second) third (in_turn start entered asked first second one two) three,
  record {
    entered = first;
    asked = second;
    left = third;
    enter = enter;
    ask = subst (λ (p : User). Asks p second) e ask;
    leave = subst (λ (p : User). LeaveNotes p third) f leave;
    entries_are = refl;
  },
)

pub visit_notes : (user : User) (script : List Stmt) (result : Result (Option (List Item)) StoreNo) (entries : List BookEntry) → Visits user (ReplyNotes user script result) entries → VisitNotes user script result entries
visit_notes user script (Ok answer) entries visit = visit
visit_notes user script (Err refusal) entries visit = inl visit

pub tending_notes : (user : User) (clean : Bool) (result : Result Tended StoreNo) (entries : List BookEntry) → Visits user (TendNotes user clean result) entries → TendingNotes user clean result entries
tending_notes user clean (Ok tended) entries visit = visit
tending_notes user clean (Err refusal) entries visit = inl visit

-- ---- a redo, and what stands after it

pub redone_then : {S : Type 0} (notes : List BookEntry → S → S → Type 0) (user who : User) (kept : ℕ) (Then : User → List BookEntry → Type 0) (before between now : S) → GoesInTurn notes → who ≡ user
    → (entries : List BookEntry) × notes entries before between × RedoNotes user (Ok kept) entries
    → (entries : List BookEntry) × notes entries between now × Then who entries
    → (entries : List BookEntry) × notes entries before now × RedoneThen user kept (Then user) entries
redone_then notes user who kept Then before between now in_turn e (first, one, redone) (second, two, behind) = (
  first ++ second,
  in_turn before between now first second one two,
  record { behind = second; goes_on = subst (λ (p : User). Then p second) e behind; entries_are = ap (λ (es : List BookEntry). es ++ second) redone },
)

-- a flush notes nothing
pub flushed_then : {S : Type 0} (notes : List BookEntry → S → S → Type 0) (user who : User) (flushed : ℕ) (Then : User → List BookEntry → Type 0) (before between now : S) → GoesInTurn notes → who ≡ user
    → (entries : List BookEntry) × notes entries before between × FlushNotes user (Ok flushed) entries
    → (entries : List BookEntry) × notes entries between now × Then who entries
    → (entries : List BookEntry) × notes entries before now × Then user entries
flushed_then notes user who flushed Then before between now in_turn e (first, one, none) (second, two, behind) = (
  second,
  subst (λ (es : List BookEntry). notes (es ++ second) before now) none (in_turn before between now first second one two),
  subst (λ (p : User). Then p second) e behind,
)
