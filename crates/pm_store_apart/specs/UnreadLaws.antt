-- The laws of what was noted before the first redo had ended.
use Rattle.std.{proofs.{Common.{◌≡◌, Bool, true, false, List, [], ◌∷◌, ◌++◌, refl, sym, ◌∙◌, ap}, lemmas.{Bool.{or_left, or_parts, or_right}, List.Folds.list_any-append}}, specs.Prelude.◌||◌}
use Rattle.pm_query.specs.declared.book.BookEntry.{BookEntry, TheVariants.{Opened, Attached, Redone, Answered, Released, Detached, Gone, CheckpointEnded, Broke, LogFull}}
use Rattle.pm_store_apart.specs.Unread.{breaks_unread, has_break, has_redo, is_break, is_redo}

-- no redo is in either part
pub redo_parts : (first second : List BookEntry) → has_redo (first ++ second) ≡ false → (has_redo first ≡ false) × (has_redo second ≡ false)
redo_parts first second none = or_parts (has_redo first) (has_redo second) (sym (list_any-append is_redo first second) ∙ none)

pub redo_neither : (first second : List BookEntry) → has_redo first ≡ false → has_redo second ≡ false → has_redo (first ++ second) ≡ false
redo_neither first second one two = list_any-append is_redo first second ∙ ap (λ (b : Bool). b || has_redo second) one ∙ two

-- a fault in either part is one in the whole
pub break_before : (first second : List BookEntry) → has_break first ≡ true → has_break (first ++ second) ≡ true
break_before first second some = list_any-append is_break first second ∙ or_left (has_break first) (has_break second) some

pub break_behind : (first second : List BookEntry) → has_break second ≡ true → has_break (first ++ second) ≡ true
break_behind first second some = list_any-append is_break first second ∙ or_right (has_break first) (has_break second) some

-- what failed before the first redo has failed before it, whatever comes after
pub breaks_on : (book more : List BookEntry) → breaks_unread book ≡ true → breaks_unread (book ++ more) ≡ true
breaks_on [] more breaks = absurd (cc)
breaks_on (Redone pid generation kept ∷ book) more breaks = absurd (cc)
breaks_on (Broke pid since faults ∷ book) more breaks = refl
breaks_on (Opened generation ∷ book) more breaks = breaks_on book more breaks
breaks_on (Attached pid generation ∷ book) more breaks = breaks_on book more breaks
breaks_on (Answered pid script reply commit front tick ∷ book) more breaks = breaks_on book more breaks
breaks_on (Released pid front tick ∷ book) more breaks = breaks_on book more breaks
breaks_on (Detached pid ∷ book) more breaks = breaks_on book more breaks
breaks_on (Gone pid ∷ book) more breaks = breaks_on book more breaks
breaks_on (CheckpointEnded pid done clean ∷ book) more breaks = breaks_on book more breaks
breaks_on (LogFull pid script need room ∷ book) more breaks = breaks_on book more breaks

-- a fault without a redo is one before the first redo
pub breaks_early : (book more : List BookEntry) → has_redo book ≡ false → has_break book ≡ true → breaks_unread (book ++ more) ≡ true
breaks_early [] more none some = absurd (cc)
breaks_early (Redone pid generation kept ∷ book) more none some = absurd (cc)
breaks_early (Broke pid since faults ∷ book) more none some = refl
breaks_early (Opened generation ∷ book) more none some = breaks_early book more none some
breaks_early (Attached pid generation ∷ book) more none some = breaks_early book more none some
breaks_early (Answered pid script reply commit front tick ∷ book) more none some = breaks_early book more none some
breaks_early (Released pid front tick ∷ book) more none some = breaks_early book more none some
breaks_early (Detached pid ∷ book) more none some = breaks_early book more none some
breaks_early (Gone pid ∷ book) more none some = breaks_early book more none some
breaks_early (CheckpointEnded pid done clean ∷ book) more none some = breaks_early book more none some
breaks_early (LogFull pid script need room ∷ book) more none some = breaks_early book more none some
