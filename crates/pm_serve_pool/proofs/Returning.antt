-- Tokens that come back unused, and the store after them.
use Rattle.std.{proofs.Common.{◌≡◌, ℕ, ◌+◌, List, [], ◌∷◌, ◌++◌, length, refl, sym, ap, ◌∙◌, subst, append-nil, append_assoc, length-append}, specs.Prelude.{Option, Some, IfSome}}
use Rattle.atomic_table.specs.Seated.{TableId}
use Rattle.pm_serve_crew.specs.{pm_facts.Lists.each_both, pm_query.declared.book.BookEntry.{BookEntry, TheVariants.Opened}, pm_store_shared.{declared.{views.Joined.Joined, token_store.TokenStore.TokenStore}, Log.IsShuffle, Places.EachOnce, Told.{AllContinue, SharedModel, owns, pasts, shared_with}}, pm_worker.declared.child.Child.Child}
use Rattle.pm_serve_pool.{specs.{declared.plan.Terms.Terms, Works.{EachFrom, HasTakenBack, IsIdleShared, IsUnusedWork, IsWorkOf}}, proofs.{Alone.alone, Left.ComesOut}}

module _ {F : Type 0} where
  pub back_none : (s : SharedModel F) → HasTakenBack 0 s s
  back_none s = record { more = []; all = refl; unused = tt; joined = ap (λ (joined : List Joined). shared_with s s.tokens joined) (sym (append-nil s.joined)) }

  pub back_more : (n : ℕ) (s t u : SharedModel F) (his : Joined) → HasTakenBack n s t → his.own ≡ [] → u ≡ shared_with t t.tokens (t.joined ++ his ∷ []) → HasTakenBack (n + 1) s u
  back_more n s t u his b unused is =
      record {
        more = b.more ++ his ∷ [];
        all = length-append b.more (his ∷ []) ∙ ap (λ m. m + 1) b.all;
        unused = each_both (λ (x : Joined). x.own ≡ []) b.more (his ∷ []) b.unused (unused, tt);
        joined =
            is ∙ ap (λ (x : SharedModel F). shared_with x x.tokens (x.joined ++ his ∷ [])) b.joined
            ∙ ap (λ (joined : List Joined). shared_with s s.tokens joined) (append_assoc s.joined b.more (his ∷ []));
      }

  -- how many are back
  pub back_count : (n : ℕ) (s t : SharedModel F) → HasTakenBack n s t → length t.joined ≡ length s.joined + n
  back_count n s t b = ap (λ (x : SharedModel F). length x.joined) b.joined ∙ length-append s.joined b.more ∙ ap (λ m. length s.joined + m) b.all

  -- the store that comes out has noted its first generation alone
  pub opened_alone : (R : F → List BookEntry → Type 0) (n : ℕ) (s t : SharedModel F) (first : F) → IsIdleShared s → HasTakenBack n s t → ComesOut R t → s.first ≡ Some first → R first (Opened 1 ∷ [])
  opened_alone R n s t first idle b out is =
      let all = subst (ComesOut R) b.joined out in
      let got =
      subst
      (λ (f : Option F).
      IfSome f (λ f. (log : List BookEntry) × R f log × IsShuffle s.tokens (owns (s.joined ++ b.more)) s.own log × EachOnce (owns (s.joined ++ b.more)) s.own log × AllContinue (pasts (s.joined ++ b.more)) log))
      is all in
      subst (R first)
      (alone s.tokens (s.joined ++ b.more) (Opened 1) s.own got.0 idle.own (each_both (λ (x : Joined). x.own ≡ []) s.joined b.more idle.unused b.unused) got.2 got.3) got.1

module _ {R C L D B : Type 0} {link : _} (gives : C → ℕ → Type 0) (terms : Terms C) (board home : TableId) (disk : Option D) where
  -- a work that wasn't started has an unused token
  pub unused_works : (first : ℕ) (works : List (Child R C L (TokenStore R C D B) link)) → EachFrom (IsWorkOf gives terms board home disk) first works → EachFrom (IsUnusedWork home) first works
  unused_works first works each i work at = let w = each i work at in record { home_is = w.home_is; number = w.number; own = w.own }
