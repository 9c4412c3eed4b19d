-- What one entry more does to the history at a tick.
use Rattle.std.{proofs.{Common.{◌≡◌, ℕ, Bool, true, false, ◌||◌, cond, List, [], ◌∷◌, ◌++◌, refl, ap, ◌∙◌}, Math.Bool.{or-false, or-true}}, specs.List.list_any}
use Rattle.pm_query.specs.{declared.book.BookEntry.BookEntry, Book.history_of, AtTick.{is_by, up_to}, TickLaws.{PastStays, PresentIsWhole}}

list_any-last : (t : ℕ) (book : List BookEntry) (entry : BookEntry) → list_any (is_by t) (book ++ entry ∷ []) ≡ list_any (is_by t) book || is_by t entry
list_any-last t [] entry = or-false (is_by t entry)
list_any-last t (first ∷ book) entry = ap (λ (b : Bool). is_by t first || b) (list_any-last t book entry) ∙ both (is_by t first) (list_any (is_by t) book) (is_by t entry) where
  both : (a b c : Bool) → a || (b || c) ≡ (a || b) || c
  both true b c = refl
  both false b c = refl

up_to-later : (t : ℕ) (book : List BookEntry) (entry : BookEntry) → is_by t entry ≡ false → up_to t (book ++ entry ∷ []) ≡ up_to t book
up_to-later t [] entry e = ap (λ (b : Bool). cond (b || false) (entry ∷ []) []) e
up_to-later t (first ∷ book) entry e =
    let tests = list_any-last t (first ∷ book) entry ∙ ap (λ (b : Bool). list_any (is_by t) (first ∷ book) || b) e ∙ or-false (list_any (is_by t) (first ∷ book)) in
    ap (λ (b : Bool). cond b (first ∷ up_to t (book ++ entry ∷ [])) []) tests
    ∙ ap (λ (es : List BookEntry). cond (list_any (is_by t) (first ∷ book)) (first ∷ es) []) (up_to-later t book entry e)

up_to-now : (t : ℕ) (book : List BookEntry) (entry : BookEntry) → is_by t entry ≡ true → up_to t (book ++ entry ∷ []) ≡ book ++ entry ∷ []
up_to-now t [] entry e = ap (λ (b : Bool). cond (b || false) (entry ∷ []) []) e
up_to-now t (first ∷ book) entry e =
    let tests = list_any-last t (first ∷ book) entry ∙ ap (λ (b : Bool). list_any (is_by t) (first ∷ book) || b) e ∙ or-true (list_any (is_by t) (first ∷ book)) in
    ap (λ (b : Bool). cond b (first ∷ up_to t (book ++ entry ∷ [])) []) tests
    ∙ ap (λ (es : List BookEntry). first ∷ es) (up_to-now t book entry e)

pub past_stays : PastStays
past_stays base book entry t e = ap (history_of base) (up_to-later t book entry e)

pub present_is_whole : PresentIsWhole
present_is_whole base book entry t e = ap (history_of base) (up_to-now t book entry e)
