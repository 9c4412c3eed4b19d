-- What holds of a book by those who noted its entries: the tokens, and the shared side.
use Rattle.std.{proofs.Common.{◌≡◌, ◌≢◌, inl, inr, ℕ, ◌≤◌, Bool, true, false, List, [], ◌∷◌, ◌++◌, length, refl, sym, ap, subst, ◌∙◌, arith}, specs.{Prelude.{cond, nat_eq}, List.AllByRecursion}}
use Rattle.pm_serve_crew.{specs.{pm_session_answers.Own.{entries_by, is_by}, pm_supervisor_chain.Chain.{AttachOnce, InGeneration, IsAmong, attached_of, gone_from, kept_of, opened_of, redos_of}, pm_query.declared.book.BookEntry.{BookEntry, TheVariants.{Opened, Attached, Redone, Gone}}, pm_store_shared.{declared.views.Noted.Noted, Log.{Line, book_of, entries_of, is_own, noted_behind, placed_rest}}}, proofs.OpenedLaws.opened_rest}

-- ---- the entries of the shared side

gone_line : (before : List BookEntry) (entry : BookEntry) (log : List Line)
    → ((so_far : List ℕ) → gone_from so_far (book_of log) ≡ gone_from so_far (entries_of (placed_rest (before ++ entry ∷ []) log)))
    → (so_far : List ℕ)
    → gone_from so_far (entry ∷ book_of log)
    ≡ gone_from so_far (entries_of (cond (is_own entry) (placed_rest (before ++ entry ∷ []) log) (noted_behind before entry ∷ placed_rest (before ++ entry ∷ []) log)))
gone_line before (Opened generation) log rest so_far = ap (λ (l : List (List ℕ)). so_far ∷ l) (rest [])
gone_line before (Gone pid) log rest so_far = rest (so_far ++ pid ∷ [])
gone_line before _ log rest so_far = rest so_far

gone_rest : (before : List BookEntry) (log : List Line) (so_far : List ℕ) → gone_from so_far (book_of log) ≡ gone_from so_far (entries_of (placed_rest before log))
gone_rest before [] so_far = refl
gone_rest before (l ∷ log) so_far = gone_line before l.entry log (λ s. gone_rest (before ++ l.entry ∷ []) log s) so_far

-- the book's generations, and who is gone before each, are as the shared side noted them
pub opened_own : (own : List Noted) (book : List BookEntry) (log : List Line) → book_of log ≡ book → own ≡ placed_rest [] log → opened_of (entries_of own) ≡ opened_of book
opened_own own book log whole its = ap (λ (xs : List Noted). opened_of (entries_of xs)) its ∙ (sym (opened_rest [] log) ∙ ap opened_of whole)

pub gone_own : (own : List Noted) (book : List BookEntry) (log : List Line) → book_of log ≡ book → own ≡ placed_rest [] log → gone_from [] (entries_of own) ≡ gone_from [] book
gone_own own book log whole its = ap (λ (xs : List Noted). gone_from [] (entries_of xs)) its ∙ (sym (gone_rest [] log []) ∙ ap (gone_from []) whole)

-- ---- who attached

-- what holds of each child that attached, entry by entry
abbrev pub OfUser : (InGeneration → Type 0) → BookEntry → Type 0
OfUser P (Attached pid generation) = P (record { number = pid; generation = generation })
OfUser P _ = Unit {0}

pub all_users : (P : InGeneration → Type 0) (book : List BookEntry) → AllByRecursion (OfUser P) book → AllByRecursion P (attached_of book)
all_users P [] each = tt
all_users P (Attached pid generation ∷ book) each = (each.0, all_users P book each.1)
all_users P (_ ∷ book) each = all_users P book each.1

-- a child of this pid attached at most once
abbrev pub AttachedOnce : ℕ → List BookEntry → Type 0
AttachedOnce pid book = length (attached_of (entries_by pid book)) ≤ 1

-- an entry that tells of nobody who attached passes, whoever noted it
passes : (entry : BookEntry) (test : Bool) (entries : List BookEntry) → OfUser (λ user. ⊥) entry → attached_of (cond test (entry ∷ entries) entries) ≡ attached_of entries
passes (Attached pid generation) test entries none = absurd none
passes _ true entries none = refl
passes _ false entries none = refl

by_user : (pid other generation : ℕ) (test : Bool) (book : List BookEntry) → nat_eq pid other ≡ test
    → attached_of (entries_by pid (Attached other generation ∷ book)) ≡ cond test (record { number = other; generation = generation } ∷ attached_of (entries_by pid book)) (attached_of (entries_by pid book))
by_user pid other generation true book is = ap (λ (b : Bool). attached_of (cond b (Attached other generation ∷ entries_by pid book) (entries_by pid book))) is
by_user pid other generation false book is = ap (λ (b : Bool). attached_of (cond b (Attached other generation ∷ entries_by pid book) (entries_by pid book))) is

-- so many attached under this pid
abbrev count_of : ℕ → List BookEntry → ℕ
count_of pid book = length (attached_of (entries_by pid book))

no_more : (pid : ℕ) (book : List BookEntry) → count_of pid book ≤ 0 → AllByRecursion (λ other. pid ≢ other.number) (attached_of book)
no_more pid [] none = tt
no_more pid (Attached other generation ∷ book) none = by (λ few. no_more pid book few) (nat_eq pid other) refl
  where
    by : (count_of pid book ≤ 0 → AllByRecursion (λ x. pid ≢ x.number) (attached_of book)) → (test : Bool) → nat_eq pid other ≡ test
        → (pid ≢ other) × AllByRecursion (λ x. pid ≢ x.number) (attached_of book)
    by rest true is = absurd (let more = ap length (by_user pid other generation true book is) in omega (arith, none, more))
    by rest false isnt = (
      (λ same. absurd (grind (arith, same, isnt))),
      rest (subst (λ (l : List InGeneration). length l ≤ 0) (by_user pid other generation false book isnt) none),
    )
no_more pid (entry ∷ book) none = no_more pid book (subst (λ (l : List InGeneration). length l ≤ 0) (passes entry (is_by pid entry) (entries_by pid book) tt) none)

fewer : (pid : ℕ) (entry : BookEntry) (book : List BookEntry) → count_of pid book ≤ count_of pid (entry ∷ book)
fewer pid (Attached other generation) book = by (nat_eq pid other) refl
  where
    by : (test : Bool) → nat_eq pid other ≡ test → count_of pid book ≤ count_of pid (Attached other generation ∷ book)
    by true is = (let more = ap length (by_user pid other generation true book is) in omega (arith, more))
    by false isnt = (let same = ap length (by_user pid other generation false book isnt) in omega (arith, same))
fewer pid entry book = (let same = ap length (passes entry (is_by pid entry) (entries_by pid book) tt) in omega (arith, same))

once_in : (whole book : List BookEntry) → ((pid : ℕ) → count_of pid book ≤ count_of pid whole) → AllByRecursion (λ user. AttachedOnce user.number whole) (attached_of book)
    → AttachOnce (attached_of book)
once_in whole [] within each = tt
once_in whole (Attached pid generation ∷ book) within each = (
  no_more pid book
      (let more = ap length (by_user pid pid generation true book (grind arith)) in let all = within pid in let one = each.0 in omega (arith, more, all, one)),
  once_in whole book (λ p. (let more = fewer p (Attached pid generation) book in let all = within p in omega (arith, more, all))) each.1,
)
once_in whole (entry ∷ book) within each =
    once_in whole book (λ p. (let more = fewer p entry book in let all = within p in omega (arith, more, all))) each

pub attach_once : (book : List BookEntry) → AllByRecursion (λ user. AttachedOnce user.number book) (attached_of book) → AttachOnce (attached_of book)
attach_once book each = once_in book book (λ pid. omega arith) each

-- ---- redos

-- what holds of each redo, entry by entry, with the child that noted it
abbrev pub OfRedo : (ℕ → InGeneration → Type 0) → BookEntry → Type 0
OfRedo P (Redone pid generation kept) = P pid (record { number = kept; generation = generation })
OfRedo P _ = Unit {0}

pub all_redos : (P : ℕ → InGeneration → Type 0) (book : List BookEntry) → AllByRecursion (OfRedo P) book → AllByRecursion (λ redo. P redo.pid redo.kept) (redos_of book)
all_redos P [] each = tt
all_redos P (Redone pid generation kept ∷ book) each = (each.0, all_redos P book each.1)
all_redos P (_ ∷ book) each = all_redos P book each.1

-- the redos of one child are among all
pub redos_by : (pid : ℕ) (x : InGeneration) (book : List BookEntry) → IsAmong x (kept_of (redos_of (entries_by pid book))) → IsAmong x (kept_of (redos_of book))
redos_by pid x [] among = among
redos_by pid x (entry ∷ book) among = by (λ more. redos_by pid x book more) entry (is_by pid entry) among
  where
    by : (IsAmong x (kept_of (redos_of (entries_by pid book))) → IsAmong x (kept_of (redos_of book))) → (e : BookEntry) (test : Bool)
        → IsAmong x (kept_of (redos_of (cond test (e ∷ entries_by pid book) (entries_by pid book)))) → IsAmong x (kept_of (redos_of (e ∷ book)))
    by rest (Redone who generation kept) true (inl is) = inl is
    by rest (Redone who generation kept) true (inr more) = inr (rest more)
    by rest (Redone who generation kept) false more = inr (rest more)
    by rest _ true more = rest more
    by rest _ false more = rest more
