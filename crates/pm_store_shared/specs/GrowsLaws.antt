-- The laws of a token as a store.
use Rattle.std.proofs.{Common.{ℕ, ◌+◌, ◌≤◌, arith, List, [], ◌∷◌, ◌++◌, ◌≡◌, refl, sym, ap, ◌∙◌, subst, append-nil, append_assoc}, lemmas.List.Sums.fold-append}
use Rattle.pm_query.{specs.{declared.book.BookEntry.BookEntry, Book.{generation_after, generation_of}}, proofs.HistoryLaws.generations_rise}
use Rattle.pm_store_shared.specs.{declared.views.Noted.Noted, Log.{Continues, all_behind, entries_of, noted_from}, Told.TokenModel, Grows.Grew}

entries-append : (xs ys : List Noted) → entries_of (xs ++ ys) ≡ entries_of xs ++ entries_of ys
entries-append [] ys = refl
entries-append (x ∷ xs) ys = ap (λ l. x.entry ∷ l) (entries-append xs ys)

-- what is noted from a place on is these entries
pub entries_noted : (n : ℕ) (es : List BookEntry) → entries_of (noted_from n es) ≡ es
entries_noted n [] = refl
entries_noted n (e ∷ es) = ap (λ l. e ∷ l) (entries_noted (n + 1) es)

pub entries_behind : (before es : List BookEntry) → entries_of (all_behind before es) ≡ es
entries_behind before [] = refl
entries_behind before (e ∷ es) = ap (λ l. e ∷ l) (entries_behind (before ++ e ∷ []) es)

pub grew_none : {F : Type 0} (t : TokenModel F) → Grew [] t t
grew_none t = record { table = refl; number = refl; first = refl; added = []; own = sym (append-nil t.own); added_are = refl; past = ([], sym (append-nil t.past)) }

pub grew_on : {F : Type 0} (first second : List BookEntry) (a b c : TokenModel F) → Grew first a b → Grew second b c → Grew (first ++ second) a c
grew_on first second a b c x y = record {
  table = y.table ∙ x.table;
  number = y.number ∙ x.number;
  first = y.first ∙ x.first;
  added = x.added ++ y.added;
  own = y.own ∙ ap (λ l. l ++ y.added) x.own ∙ append_assoc a.own x.added y.added;
  added_are = entries-append x.added y.added ∙ (λ i. x.added_are i ++ y.added_are i);
  past = (x.past.0 ++ y.past.0, y.past.1 ∙ ap (λ l. l ++ y.past.0) x.past.1 ∙ append_assoc a.past x.past.0 y.past.0);
}

-- ---- generations

-- what goes on is in no earlier generation
pub generation_rises : (past log : List BookEntry) → Continues past log → generation_of past ≤ generation_of log
generation_rises past log on =
    subst (λ l. generation_of past ≤ generation_of l) (sym on.1) (omega (arith, fold-append generation_after 0 past on.0, generations_rise (generation_of past) on.0))
