-- Works that were started, and those that are left.
use Rattle.std.{specs.Prelude.Option, proofs.{Common.{◌≡◌, ℕ, ◌+◌, List, ◌++◌, length, map, sym, ap, ◌∙◌, subst, All, arith, length-append}, lemmas.List.{length-map, Elements.All-from_recursion}}}
use Rattle.atomic_table.specs.Seated.{TableId}
use Rattle.pm_serve_crew.specs.{pm_board.{pm_board_words.declared.views.{SessionLimit.SessionLimit, RosterView.RosterView, Work.TheVariants.Idle}, Told.new_roster}, pm_store_shared.{declared.{views.Joined.Joined, token_store.TokenStore.TokenStore}, Told.{IsNewShared, SharedModel}}, pm_worker.declared.{child.Child.Child, mail.MailTold.MailTold}, Left.Manner}
use Rattle.pm_serve_pool.{specs.{declared.plan.Terms.Terms, Closing.AreClosed, Works.{AreUnused, EachFrom, IsIdleShared, IsUnusedWork, IsWorkOf}}, proofs.{Closed.unused_all, Lists.{all_of_each, back_of_all}, Returning.unused_works}}

pub idle_new : {F : Type 0} (n : ℕ) (first : F) (s : SharedModel F) → IsNewShared n first s → IsIdleShared s
idle_new n first s new = record { own = new.own; unused = subst (λ (joined : List Joined). AreUnused joined) (sym new.none_joined) tt }

-- after workers that were closed at once
pub idle_closed : {F : Type 0} (manner : Manner) (n tokens count : ℕ) (limit : SessionLimit) (posts : ℕ) (d e : RosterView MailTold) (first : F) (s t : SharedModel F) → d ≡ new_roster count limit posts → IsNewShared tokens first s
    → AreClosed manner n d e s t → IsIdleShared t
idle_closed {F} manner n tokens count limit posts d e first s t d_is new closed =
    let closed' = subst (λ (x : RosterView MailTold). AreClosed manner n x e s t) d_is closed in
    record {
      own = ap (λ (x : SharedModel F). x.own) closed'.shared ∙ new.own;
      unused = subst (λ (joined : List Joined). AreUnused joined) (sym (ap (λ (x : SharedModel F). x.joined) closed'.shared)) (unused_all manner n count limit posts e s t closed');
    }

module _ {R C L D B : Type 0} {link : _} (gives : C → ℕ → Type 0) (terms : Terms C) (board home : TableId) (disk : Option D) where
  pub all_idle : (works : List (Child R C L (TokenStore R C D B) link)) → EachFrom (IsWorkOf gives terms board home disk) 0 works → All (λ work. work.post.knows.work ≡ Idle) works
  all_idle works each = All-from_recursion (λ (work : Child R C L (TokenStore R C D B) link). work.post.knows.work ≡ Idle) works
      (all_of_each (λ (work : Child R C L (TokenStore R C D B) link). work.post.knows.work ≡ Idle) works (λ i work at. ap (λ p. p.knows.work) (each i work at).post_is))

  -- those that are left when these were started
  pub left_unused : {A : Type 0} (of : A → Child R C L (TokenStore R C D B) link) (running : List A) (left all : List (Child R C L (TokenStore R C D B) link)) → map of running ++ left ≡ all
      → EachFrom (IsWorkOf gives terms board home disk) 0 all → EachFrom (IsUnusedWork home) (length running) left
  left_unused of running left all is each =
      let count : 0 + length (map of running) ≡ length running = (let h = length-map running of in omega (arith, h)) in
      subst (λ (n : ℕ). EachFrom (IsUnusedWork home) n left) count
      (unused_works gives terms board home disk (0 + length (map of running)) left
      (back_of_all (IsWorkOf gives terms board home disk) 0 (map of running) left (subst (λ (works : List (Child R C L (TokenStore R C D B) link)). EachFrom (IsWorkOf gives terms board home disk) 0 works) (sym is) each)))

-- no more were started than there were
pub started_few : {A W : Type 0} (of : A → W) (running : List A) (left all : List W) → map of running ++ left ≡ all → length running + length left ≡ length all
started_few of running left all is = ap (λ n. n + length left) (sym (length-map running of)) ∙ sym (length-append (map of running) left) ∙ ap length is
