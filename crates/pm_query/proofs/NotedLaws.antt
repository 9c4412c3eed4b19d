-- Laws of what a child noted, put together from what the calls of any store note.
use Rattle.std.proofs.{Common.{◌≡◌, ℕ, List, [], ◌++◌, Option, refl, subst}, lemmas.List.append-nil}
use Rattle.pm_query.specs.{declared.book.BookEntry.BookEntry, Calls.{PassView, User, user_of, newcomer, new_pass, with_front}}

-- ---- what was noted in turn

abbrev pub GoesInTurn : {S : Type 0} → (List BookEntry → S → S → Type 0) → Type 0
GoesInTurn {S} notes = (before between now : S) (first second : List BookEntry) → notes first before between → notes second between now → notes (first ++ second) before now

-- nothing, and then what a call noted
pub behind_none : {S : Type 0} (notes : List BookEntry → S → S → Type 0) (P : List BookEntry → Type 0) (before between now : S) → GoesInTurn notes → notes [] before between
    → (entries : List BookEntry) × notes entries between now × P entries → (entries : List BookEntry) × notes entries before now × P entries
behind_none notes P before between now in_turn none call = (call.0, in_turn before between now [] call.0 none call.1, call.2)

-- what a call noted, and it was nothing
pub none_behind : {S : Type 0} (notes : List BookEntry → S → S → Type 0) (before between now : S) → GoesInTurn notes → notes [] before between
    → (entries : List BookEntry) × notes entries between now × (entries ≡ []) → notes [] before now
none_behind notes before between now in_turn none call = subst (λ (es : List BookEntry). notes es before now) call.2 (in_turn before between now [] call.0 none call.1)

-- the same of the same child
pub behind_as : {S : Type 0} (notes : List BookEntry → S → S → Type 0) (P : User → List BookEntry → Type 0) (who user : User) (before between now : S) → GoesInTurn notes → who ≡ user → notes [] before between
    → (entries : List BookEntry) × notes entries between now × P who entries → (entries : List BookEntry) × notes entries before now × P user entries
behind_as notes P who user before between now in_turn same none call =
    behind_none notes (P user) before between now in_turn none (call.0, call.1, subst (λ (u : User). P u call.0) same call.2)

-- nothing, and then nothing
pub none_none : {S : Type 0} (notes : List BookEntry → S → S → Type 0) (before between now : S) → GoesInTurn notes → notes [] before between → notes [] between now → notes [] before now
none_none notes before between now in_turn one two = in_turn before between now [] [] one two

-- what a call noted, and then nothing
pub noted_still : {S : Type 0} (notes : List BookEntry → S → S → Type 0) (entries : List BookEntry) (before between now : S) → GoesInTurn notes → notes entries before between → notes [] between now → notes entries before now
noted_still notes entries before between now in_turn call none =
    subst (λ (es : List BookEntry). notes es before now) (append-nil entries) (in_turn before between now entries [] call none)

pub call_still : {S : Type 0} (notes : List BookEntry → S → S → Type 0) (P : List BookEntry → Type 0) (before between now : S) → GoesInTurn notes
    → (entries : List BookEntry) × notes entries before between × P entries → notes [] between now → (entries : List BookEntry) × notes entries before now × P entries
call_still notes P before between now in_turn call none = (call.0, noted_still notes call.0 before between now in_turn call.1 none, call.2)

-- ---- who the child is, after a call

pub same_user : (stamp_before stamp_now : Option ℕ) (before now : PassView) → stamp_now ≡ stamp_before → now ≡ before → user_of stamp_now now ≡ user_of stamp_before before
same_user stamp_before stamp_now before now e f = rw (e, f) refl

pub same_user_at : (front : ℕ) (stamp_before stamp_now : Option ℕ) (before now : PassView) → stamp_now ≡ stamp_before → now ≡ with_front front before → user_of stamp_now now ≡ user_of stamp_before before
same_user_at front stamp_before stamp_now before now e f = rw (e, f) refl

-- whose pass it is that was just given
pub newcomer_is : (pid generation : ℕ) (stamp_before stamp_now : Option ℕ) (now : PassView) → stamp_now ≡ stamp_before → now ≡ new_pass pid generation → user_of stamp_now now ≡ newcomer stamp_before pid generation
newcomer_is pid generation stamp_before stamp_now now e f = rw (e, f) refl
