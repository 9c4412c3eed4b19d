-- Why the worked books are legal, or not.
use Rattle.std.{proofs.{Common.{◌≡◌, inl, ℕ, ℤ, pos, ◌≤◌, false, cond, List, [], ◌∷◌, ◌++◌, length, is_some, nat_le, refl, sym, ap, arith, lit≤, lit<}, lemmas.{List.Elements.{All-nil, All-cons}, Bool.Decides.nat_tests}}, specs.{Prelude.{All, codes}, Ordering.int_cmp, FinMap.{empty, get, insert, get-empty, len-empty}, Option.option_to_list}}
use Rattle.pm_rows.{specs.{Limits.{max_rows, max_value_bytes}, Size.{row_size, size_of, size_at}, declared.commit.Change.{Change, TheVariants.Put}}, proofs.RowLaws.{size-empty, size-insert}}
use Rattle.pm_query.{specs.{declared.{effect.Effect.Effect, book.BookEntry.{BookEntry, TheVariants.{Attached, Answered, Redone}}}, Answer.{makes, insertion, is_full, is_too_large, has_error}, Book.IsLegal, WorkedBooks.{nothing, insert_seven, seven_inserted, one_insert, answered, forgotten, unanswered}}, proofs.Books.{AnswersWithin, answer_within}}
use Rattle.pm_query.specs.declared.item.Item.TheVariants as items

-- the first row is inserted
first_row : (key : ℤ) (value : List ℕ) → length value ≤ max_value_bytes → insertion empty key value ≡ makes items.Insert (Put key value)
first_row key value short =
    let there : is_some (get empty key) ≡ false = ap (is_some {T = List ℕ}) (get-empty int_cmp key) in
    let room : is_full empty ≡ false = ap (nat_le max_rows) (len-empty int_cmp (List ℕ)) in
    let size : size_of (insert empty key value) ≡ row_size value = omega (arith, size-insert empty key value, ap size_at (get-empty int_cmp key), size-empty) in
    let small : is_too_large (insert empty key value) ≡ false = grind (arith, nat_tests, size, short) in
    rw (there, room, small) refl

-- what an effect of the first statement leaves to commit
abbrev pub committed_by : Effect → List Change
committed_by effect = cond (has_error ([] ++ effect.item ∷ [])) [] ([] ++ option_to_list effect.change)

pub answered_is_legal : IsLegal nothing answered
answered_is_legal =
    let first = first_row (pos 7) (codes "seven") (lit≤ tt) in record {
      entries = (
        record { next = refl; empty = λ pid. refl },
        (
          record { begun = lit≤ tt; present = refl },
          (
            record { present = refl; attached = lit≤ tt; number = (lit≤ tt, lit≤ tt, refl) },
            (
              lit≤ tt,
              (
                record { begun = lit≤ tt; present = refl },
                (
                  record {
                    redone = refl;
                    attached = lit≤ tt;
                    reply_is = ap (λ (effect : Effect). effect.item ∷ []) (sym first);
                    commit_is = ap committed_by (sym first);
                    front_is = inl refl;
                    in_time = lit≤ tt;
                    unclosed = λ t. cc;
                  },
                  (
                    record { attached = lit≤ tt; answered = (4, Answered 4 insert_seven one_insert seven_inserted 1 12, lit< tt, refl, (refl, lit≤ tt)); in_time = lit≤ tt },
                    (lit≤ tt, tt),
                  ),
                ),
              ),
            ),
          ),
        ),
      );
      renewals = tt;
    }

pub forgotten_is_not : IsLegal nothing forgotten → ⊥
forgotten_is_not legal =
    let redo = legal.entries.1.1.1.1.1.1.1.1.1.1.0 in
    absurd (omega (arith, redo.number.0))

pub unanswered_is_not : IsLegal nothing unanswered → ⊥
unanswered_is_not legal =
    let release = legal.entries.1.1.1.0 in
    let entries : List BookEntry = Attached 4 1 ∷ Redone 4 1 0 ∷ [] in
    let within : All (AnswersWithin 0) entries = All-cons (AnswersWithin 0) (Attached 4 1) (Redone 4 1 0 ∷ []) tt (All-cons (AnswersWithin 0) (Redone 4 1 0) [] tt (All-nil (AnswersWithin 0))) in
    absurd (omega (arith, answer_within 4 1 0 entries release.answered within))
