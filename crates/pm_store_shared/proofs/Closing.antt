-- The shared side when all tokens are joined.
use Rattle.std.{proofs.{Common.{◌≡◌, ⊎_elim, ℕ, ◌+◌, ◌<◌, List, [], ◌∷◌, ◌++◌, map, length, length-append, sym, refl, ap, ◌∙◌, subst, arith}}, specs.Prelude.{Option, None, Some, IfSome, slice_get}}
use Rattle.atomic_table.specs.Seated.{TableId}
use Rattle.pm_segment.specs.{pm_query.declared.book.BookEntry.BookEntry, pm_store_apart.declared.pass.Pass.Pass}
use Rattle.pm_store_shared.{specs.{declared.views.{Joined.Joined, Noted.Noted, Taken.Taken}, Log.IsShuffle, Places.EachOnce, Told.{AllContinue, AreNewTokens, AreShares, AreTokens, owns, pasts, new_token, shared_with, Seated, SharedModel, TokenModel, IsWhole, Tells, desk_resting, first_of, generation_in, is_own_of, joined_of}}, proofs.{Keeps.got_end, Places.each_once}}

pub map-length : {A C : Type 0} (f : A → C) (xs : List A) → length (map f xs) ≡ length xs
map-length f [] = refl
map-length f (x ∷ xs) = let h = map-length f xs in omega (arith, h)

-- what a shared side shows
abbrev pub shown : (S F L : Type 0) → TableId → ℕ → Seated S F L → SharedModel F
shown S F L t n me = record { table = t; tokens = n; first = first_of me.0; generation = generation_in me.0; own = is_own_of me.0; joined = joined_of me.0 }

module _ {S F L : Type 0} (Is : F → List BookEntry → S → Option L → Type 0) (Knows : List BookEntry → S → Pass → Type 0) where
  -- at the end this holds of the log
  abbrev pub Closes : (F → List BookEntry → Type 0) → SharedModel F → Type 0
  Closes Ends s = IfSome s.first (λ first. (log : List BookEntry) × Ends first log × IsShuffle s.tokens (owns s.joined) s.own log × EachOnce (owns s.joined) s.own log
      × AllContinue (pasts s.joined) log)

  pub closes : (Ends : F → List BookEntry → Type 0) (id : TableId) (n g : ℕ) (first : F) (own : List Noted) (joined : List Joined) (me : Seated S F L) (t : Taken S) (s : SharedModel F)
      → me ≡ desk_resting n first g own joined → Tells Is Knows me.0 t → IsWhole Is Knows me.0 t → (Is first t.log t.store None → Ends first t.log) → shown S F L id n me ≡ s → length s.joined ≡ s.tokens → Closes Ends s
  closes Ends id n g first own joined me t s is tells whole ends view_is all =
      let tells' = subst (λ (m : Seated S F L). Tells Is Knows m.0 t) is tells in
      let whole' = subst (λ (m : Seated S F L). IsWhole Is Knows m.0 t) is whole in
      let shown_is : shown S F L id n (desk_resting n first g own joined) ≡ s = ap (λ (m : Seated S F L). shown S F L id n m) (sym is) ∙ view_is in
      let all' : length (owns joined) ≡ n = map-length (λ (his : Joined). his.own) joined ∙ ap (λ (y : SharedModel F). length y.joined) shown_is ∙ all ∙ sym (ap (λ (y : SharedModel F). y.tokens) shown_is) in
      subst (Closes Ends) shown_is (t.log, ends whole', tells'.0, each_once n (owns joined) own t.log all' tells'.0, tells'.1)

-- ---- tokens, one after the other

pub got_at : {A : Type 0} (xs ys : List A) (a : A) → slice_get (xs ++ a ∷ ys) (length xs) ≡ Some a
got_at [] ys a = refl
got_at (x ∷ xs) ys a = got_at xs ys a

-- the next of all tokens
pub next_token : {F : Type 0} (t : TableId) (n : ℕ) (all before rest : List (TokenModel F)) (token : TokenModel F) → AreTokens t n all → before ++ token ∷ rest ≡ all → (token.table ≡ t) × (token.number ≡ length before)
next_token t n all before rest token are is = are.1 (length before) token (ap (λ l. slice_get l (length before)) (sym is) ∙ got_at before rest token)

-- one more hold on a table
pub one_more : (t : TableId) (n : ℕ) (shares : List TableId) (share : TableId) → AreShares t n shares → share ≡ t → AreShares t (n + 1) (shares ++ share ∷ [])
one_more t n shares share are is = (
  (let h = length-append shares (share ∷ []) in let a = are.0 in omega (arith, h, a)),
  (λ k s e. ⊎_elim (λ (h : slice_get shares k ≡ Some s). are.1 k s h) (λ (h : (k ≡ length shares) × (share ≡ s)). sym h.1 ∙ is) (got_end shares share s k e)),
)

-- the next of all holds
pub next_share : (t : TableId) (n : ℕ) (all before rest : List TableId) (share : TableId) → AreShares t n all → before ++ share ∷ rest ≡ all → (share ≡ t) × (length before < n)
next_share t n all before rest share are is = (
  are.1 (length before) share (ap (λ l. slice_get l (length before)) (sym is) ∙ got_at before rest share),
  (let h = length-append before (share ∷ rest) in let a = are.0 in let b : length (before ++ share ∷ rest) ≡ length all = ap length is in omega (arith, h, a, b)),
)

-- one more token
pub dealt : {F : Type 0} (n : ℕ) (s s' : SharedModel F) (ts : List (TokenModel F)) (token : TokenModel F) → s.tokens ≡ n → AreNewTokens n s ts → token ≡ new_token s → s' ≡ shared_with s (s.tokens + 1) s.joined
    → AreNewTokens (n + 1) s' (ts ++ token ∷ [])
dealt n s s' ts token tokens are new grown = record {
  all = (
    (let h = length-append ts (token ∷ []) in let a = are.all.0 in omega (arith, h, a)),
    (λ k t e. ⊎_elim (λ (h : slice_get ts k ≡ Some t). let a = are.all.1 k t h in (a.0 ∙ table_is, a.1)) (λ (h : (k ≡ length ts) × (token ≡ t)). (ap (λ y. y.table) (sym h.1 ∙ new) ∙ table_is, ap (λ y. y.number) (sym h.1 ∙ new) ∙ tokens ∙ sym are.all.0 ∙ sym h.0)) (got_end ts token t k e)),
  );
  each = λ k t e. ⊎_elim (λ (h : slice_get ts k ≡ Some t). let a = are.each k t h in (a.0 ∙ first_is, a.1, a.2, a.3))
      (λ (h : (k ≡ length ts) × (token ≡ t)). (ap (λ y. y.first) (sym h.1 ∙ new) ∙ first_is, ap (λ y. y.own) (sym h.1 ∙ new), ap (λ y. y.passes) (sym h.1 ∙ new), ap (λ y. y.past) (sym h.1 ∙ new))) (got_end ts token t k e);
}
  where
    table_is : s.table ≡ s'.table
    table_is = sym (ap (λ y. y.table) grown)

    first_is : s.first ≡ s'.first
    first_is = sym (ap (λ y. y.first) grown)
