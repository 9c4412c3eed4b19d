-- Where the shared side has noted its first generation alone, and no token anything, the log has no other entry.
use Rattle.std.{proofs.{Common.{◌≡◌, ◌⊎◌, inl, inr, arith, ℕ, zero, suc, List, [], ◌∷◌, refl, sym, ap, ◌∙◌, subst}, lemmas.Option.same_Some}, specs.Prelude.{Bool, true, false, Some, slice_get}}
use Rattle.pm_store_shared.specs.{pm_query.declared.book.BookEntry.BookEntry, declared.views.{Joined.Joined, Noted.Noted}, Log.{IsShuffle, Line, book_of, is_own, noted, placed_rest}, Places.{EachOnce, Has}, Told.owns}
use Rattle.pm_serve_pool.specs.Works.{AreUnused}

-- no list has anything
none_has : (joined : List Joined) → AreUnused joined → (k : ℕ) (l : List Noted) (x : Noted) → slice_get (owns joined) k ≡ Some l → Has l x → ⊥
none_has [] unused k l x is has = cc
none_has (his ∷ joined) unused zero l x is has =
    let nil : l ≡ [] = sym (same_Some _ _ is) ∙ unused.0 in
    let at : slice_get {X = Noted} [] has.0 ≡ Some x = subst (λ (m : List Noted). slice_get m has.0 ≡ Some x) nil has.1 in
    cc
none_has (his ∷ joined) unused (suc k) l x is has = none_has joined unused.1 k l x is has

-- the one entry of the shared side's own list
the_one : (e : BookEntry) (x : Noted) → Has (noted 0 e ∷ []) x → noted 0 e ≡ x
the_one e x (zero, is) = same_Some _ _ is
the_one e x (suc i, is) = cc

-- each entry is that one
each_first : (joined : List Joined) (e : BookEntry) (log : List BookEntry) → AreUnused joined → EachOnce (owns joined) (noted 0 e ∷ []) log → (j : ℕ) (x : BookEntry) → slice_get log j ≡ Some x → (own : Bool) → is_own x ≡ own → (0 ≡ j) × (e ≡ x)
each_first joined e log unused once j x at true own =
    let found = once.found j x at own in
    absurd (none_has joined unused found.0 found.1 (noted j x) found.2 found.3)
each_first joined e log unused once j x at false own =
    let its = once.shared j x at own in
    let is = the_one e its.0 its.1 in
    (ap (λ (y : Noted). y.at) is ∙ its.2, ap (λ (y : Noted). y.entry) is ∙ its.3)

apart : ◌≡◌ {A = ℕ} 0 1 → ⊥
apart is = omega arith

only_one : (e : BookEntry) (log : List BookEntry) → ((j : ℕ) (x : BookEntry) → slice_get log j ≡ Some x → (0 ≡ j) × (e ≡ x)) → (log ≡ []) ⊎ (log ≡ e ∷ [])
only_one e [] each = inl refl
only_one e (x ∷ []) each = inr (ap (λ (y : BookEntry). y ∷ []) (sym (each 0 x refl).1))
only_one e (x ∷ y ∷ log) each = absurd (apart (each 1 y refl).0)

not_none : (e : BookEntry) (log : List Line) → book_of log ≡ [] → noted 0 e ∷ [] ≡ placed_rest [] log → ⊥
not_none e [] none is = cc
not_none e (line ∷ log) none is = cc

pub alone : (n : ℕ) (joined : List Joined) (e : BookEntry) (own : List Noted) (log : List BookEntry) → own ≡ noted 0 e ∷ [] → AreUnused joined → IsShuffle n (owns joined) own log → EachOnce (owns joined) own log → log ≡ e ∷ []
alone n joined e own log is unused shuffle once = pick (only_one e log (λ j x at. each_first joined e log unused once' j x at (is_own x) refl))
  where
    once' : EachOnce (owns joined) (noted 0 e ∷ []) log
    once' = subst (λ (l : List Noted). EachOnce (owns joined) l log) is once

    pick : (log ≡ []) ⊎ (log ≡ e ∷ []) → log ≡ e ∷ []
    pick (inl none) = absurd (not_none e shuffle.log (shuffle.book_is ∙ none) (sym is ∙ shuffle.own_list))
    pick (inr one) = one
