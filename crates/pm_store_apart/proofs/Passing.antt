-- Passes as the book goes on.
use Rattle.std.{proofs.{Common.{◌≡◌, Bool, ℕ, ◌+◌, ◌≤◌, List, [], ◌∷◌, ◌++◌, Option, None, Some, refl, sym, ◌∙◌, ap, subst, arith}, lemmas.{Bool.eq-eqb, List.Quantifiers.Any-push}}, specs.Prelude.{IfSome, Any, cond}}
use Rattle.pm_query.{specs.{pm_rows.declared.commit.Change.Change, pm_sql.declared.stmt.Stmt.Stmt, pm_facts.Lists.Any-append, declared.{item.Item.Item, book.BookEntry.{BookEntry, TheVariants.{Opened, Attached, Redone, Answered, Released, Detached, Gone, CheckpointEnded, Broke, LogFull}}}, Book.{AnswersUpTo, present, present_after, times_after, times_attached}, Calls.{IsNoLess, IsWithin}}, proofs.HistoryLaws.{present_push, times_push}}
use Rattle.pm_store_apart.{specs.{declared.{live.Live.Live, pass.Pass.Pass}, Moment.Moment, Passes.{Admits, HasAnswer, IsStaged, IsInside}}, proofs.StepsLaws.Attends}
use Rattle.pm_outside.specs.Added.{Added}

-- the child of a pass is attached
pub attends : (pass : Pass) (at : Moment) → Admits pass at → Attends pass.pid at.book
attends pass at admits = each at.book admits.inside
  where
    each : (book : Option (List BookEntry)) → IfSome book (IsInside pass.pid pass.front) → Attends pass.pid book
    each None inside = tt
    each (Some book) inside = inside.attached

-- an entry in the present generation that takes no child out
pub record Stays (pid : ℕ) (entry : BookEntry) : Type 0 where
  pub present_is : (entries : List BookEntry) → present_after entries entry ≡ entries ++ entry ∷ []
  pub times : (n : ℕ) → n ≤ times_after pid n entry

answer_still : (pid : ℕ) (front : Option ℕ) (book : List BookEntry) (entry : BookEntry) → Stays pid entry → HasAnswer pid front book → HasAnswer pid front (book ++ entry ∷ [])
answer_still pid None book entry stays has = tt
answer_still pid (Some front) book entry stays has =
    subst (Any (AnswersUpTo pid front)) (sym (present_push book entry ∙ stays.present_is (present book))) (Any-append (AnswersUpTo pid front) (present book) (entry ∷ []) has)

-- a child is still inside
pub inside_still : (pid : ℕ) (front : Option ℕ) (entry : BookEntry) (book now : Option (List BookEntry)) → Stays pid entry → Added (entry ∷ []) book now → IfSome book (IsInside pid front) → IfSome now (IsInside pid front)
inside_still pid front entry None now stays notes inside = subst (λ (b : Option (List BookEntry)). IfSome b (IsInside pid front)) (sym notes) tt
inside_still pid front entry (Some book) now stays notes inside = subst (λ (b : Option (List BookEntry)). IfSome b (IsInside pid front)) (sym notes) (record {
  attached = omega (arith, inside.attached, times_push book entry pid, stays.times (times_attached book pid));
  answered = answer_still pid front book entry stays inside.answered;
})

-- it was answered
pub inside_answered : (pid front tick : ℕ) (script : List Stmt) (reply : List Item) (commit : List Change) (seen : Option ℕ) (book now : Option (List BookEntry))
    → Added (Answered pid script reply commit front tick ∷ []) book now → IfSome book (IsInside pid seen) → IfSome now (IsInside pid (Some front))
inside_answered pid front tick script reply commit seen None now notes inside = subst (λ (b : Option (List BookEntry)). IfSome b (IsInside pid (Some front))) (sym notes) tt
inside_answered pid front tick script reply commit seen (Some book) now notes inside =
    let entry : BookEntry = Answered pid script reply commit front tick in
    subst (λ (b : Option (List BookEntry)). IfSome b (IsInside pid (Some front))) (sym notes) (record {
      attached = omega (arith, inside.attached, times_push book entry pid);
      answered = subst (Any (AnswersUpTo pid front)) (sym (present_push book entry)) (Any-push (AnswersUpTo pid front) (present book) entry (refl, omega arith));
    })

-- it comes in
pub inside_entered : (pid generation : ℕ) (book now : Option (List BookEntry)) → Added (Attached pid generation ∷ []) book now → IfSome now (IsInside pid None)
inside_entered pid generation None now notes = subst (λ (b : Option (List BookEntry)). IfSome b (IsInside pid None)) (sym notes) tt
inside_entered pid generation (Some book) now notes =
    let times : times_attached (book ++ Attached pid generation ∷ []) pid ≡ times_attached book pid + 1 =
    times_push book (Attached pid generation) pid ∙ ap (λ (b : Bool). cond b (times_attached book pid + 1) (times_attached book pid)) (eq-eqb pid pid refl) in
    subst (λ (b : Option (List BookEntry)). IfSome b (IsInside pid None)) (sym notes) (record { attached = omega (arith, times); answered = tt })

-- what it has reached was answered
within_answer : (pid seen front : ℕ) → front ≤ seen → (entry : BookEntry) → AnswersUpTo pid seen entry → AnswersUpTo pid front entry
within_answer pid seen front le (Answered who script reply commit upto tick) up = (up.0, omega (arith, le, up.1))
within_answer pid seen front le (Opened generation) up = up
within_answer pid seen front le (Attached who generation) up = up
within_answer pid seen front le (Redone who generation count) up = up
within_answer pid seen front le (Released who upto tick) up = up
within_answer pid seen front le (Detached who) up = up
within_answer pid seen front le (Gone who) up = up
within_answer pid seen front le (CheckpointEnded who done clean) up = up
within_answer pid seen front le (Broke who since count) up = up
within_answer pid seen front le (LogFull who script need room) up = up

reached_in : (pid : ℕ) (seen : Option ℕ) (front : ℕ) (book : List BookEntry) → IsWithin seen front → HasAnswer pid seen book → Any (AnswersUpTo pid front) (present book)
reached_in pid None front book within has = absurd within
reached_in pid (Some seen) front book within has = (has.0, has.1, has.2, has.3, within_answer pid seen front within has.1 has.4)

pub reached_answer : (pid : ℕ) (seen : Option ℕ) (front : ℕ) (book : Option (List BookEntry)) → IsWithin seen front → IfSome book (IsInside pid seen) → IfSome book (λ list. Any (AnswersUpTo pid front) (present list))
reached_answer pid seen front None within inside = tt
reached_answer pid seen front (Some book) within inside = reached_in pid seen front book within inside.answered

-- what it has seen isn't above what was taken
pub no_less : (seen : Option ℕ) (live : Option Live) (its : Live) (front : ℕ) → live ≡ Some its → its.front ≤ front → IsStaged seen live → IsNoLess seen front
no_less None live its front is le staged = tt
no_less (Some reached) live its front is le staged =
    let within : reached ≤ its.front = subst (IsStaged (Some reached)) is staged in
    omega (arith, within, le)

pub staged_still : (seen : Option ℕ) (live now : Option Live) (its new : Live) → live ≡ Some its → now ≡ Some new → its.front ≤ new.front → IsStaged seen live → IsStaged seen now
staged_still None live now its new was is le staged = tt
staged_still (Some front) live now its new was is le staged =
    let within : front ≤ its.front = subst (IsStaged (Some front)) was staged in
    subst (IsStaged (Some front)) (sym is) (omega (arith, within, le))

-- before redo it has seen nothing
pub none_staged : (seen : Option ℕ) (live now : Option Live) → live ≡ None → IsStaged seen live → IsStaged seen now
none_staged None live now none staged = tt
none_staged (Some front) live now none staged = absurd (subst (IsStaged (Some front)) none staged)
