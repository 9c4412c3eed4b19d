-- A seat at the home, after a step on a word of the board.
use Rattle.std.{proofs.Common.{◌≡◌, ◌≢◌, ℕ, Bool, true, false, List, [], ◌∷◌, sym, refl, ap, ◌∙◌, subst}, specs.Prelude.Option}
use mathlib.Core.Option.{none}
use mathlib.Core.Logic.{dite}
use native.Mathlib.Decide.{ℕ_discrete}
use Rattle.atomic_table.specs.Table.{Me, step}
use Rattle.pm_board_home.specs.{declared.views.HomeView.HomeView, Views.with_knows}
use Rattle.pm_board_home.specs.declared.home.Home as Home
use Rattle.pm_board_words.specs.{declared.views.{Offer.Offer, RosterView.RosterView, PostView.PostView, Sight.TheVariants.Assigned, Work.{Work, TheVariants.{Idle, Sees, Inactive, Active, Refused, Attached}}, View.{View, TheVariants.{Postmaster, Worker}}}, Words.{stage_in, status_in, active_in}}
use Rattle.pm_board.{specs.{Places.slot_at, Ties.{IsAttachedNow, HoldsHome, HasHome}, Told.{Seated, Loads, Looks, roster_of, post_of, post_view, with_slot, reposted, noted_load, noted_look, exited_slot, running_slot}, Models.IsRosterHome}, proofs.Steps.looked_as}

module _ {H W : Type 0} (home : Home.Ghosts H W) where
  -- a post's
  pub post_home : (n : ℕ) (more more' : Me (Option H) (HomeView W)) → more' ≡ more → HasHome home n more → HasHome home n more'
  post_home n more more' same old = subst (HasHome home n) (sym same) old

  -- the roster's, which has made no other post
  pub roster_home : {J D : Type 0} (n : ℕ) (me me' : Seated J D) (d : RosterView D) (more more' : Me (Option H) (HomeView W)) → me'.0 ≡ Postmaster d → d.dealt ≡ (roster_of me.0).dealt → more' ≡ more → IsRosterHome home n me more → IsRosterHome home n me' more'
  roster_home {J} {D} n me me' d more more' is same e old = (
    old.0 ∙ (sym same ∙ ap (λ (v : View D). (roster_of v).dealt) (sym is)),
    subst (HasHome home n) (sym e) old.1,
    ap (λ (m : Me (Option H) (HomeView W)). home.leads m.0.knows) e ∙ old.2,
  )

  -- and where it knows something else of the home, or has made another post
  pub roster_knows : {J D : Type 0} (n : ℕ) (me' : Seated J D) (d : RosterView D) (more more' : Me (Option H) (HomeView W)) (x : W) → me'.0 ≡ Postmaster d → n ≡ d.dealt → more' ≡ (with_knows more.0 x, more.1) → home.has x ≡ home.has more.0.knows → home.leads x ≡ true → home.numbered x n → HoldsHome (home.has more.0.knows) more.1
      → IsRosterHome home n me' more'
  roster_knows {J} {D} n me' d more more' x is same e has leads number held = (
    same ∙ ap (λ (v : View D). (roster_of v).dealt) (sym is),
    subst (HasHome home n) (sym e) (number, subst (λ (b : Bool). HoldsHome b more.1) (sym has) held),
    ap (λ (m : Me (Option H) (HomeView W)). home.leads m.0.knows) e ∙ leads,
  )

module _ {J D : Type 0} where
  -- what a worker's seat knows after a step that leaves it a worker's
  pub reposted_to : (k : ℕ) (me me' : Seated J D) (w : PostView D) → me.0 ≡ Worker k (post_of me.0) → me' ≡ (reposted me.0 w, me.1) → me'.0 ≡ Worker k w
  reposted_to k me me' w is did = ap (λ (m : Seated J D). m.0) did ∙ ap (λ (v : View D). reposted v w) is

  -- and after a load
  pub loaded : (n k found : ℕ) (me me' : Seated J D) → Loads (step n k 0 0 none) me found me' → (w : PostView D) × (me'.0 ≡ Worker k w)
  loaded n k found me me' told =
      dite (ℕ_discrete (stage_in found) 1)
      (λ one. (post_view (noted_load (post_of me.0).notes found) (post_of me.0).past (Sees found), ap (λ (m : Seated J D). m.0) (told.0 one)))
      (λ ne. (post_view (noted_load (post_of me.0).notes found) (post_of me.0).past Idle, ap (λ (m : Seated J D). m.0) (told.1 ne)))

  -- what the supervisor's knows after a look
  pub looked_to : (k found : ℕ) (me me' : Seated J D) (d : RosterView D) (o : Offer D) → me ≡ (Postmaster d, []) → (slot_at d k).sight ≡ Assigned o → Looks (step 0 k 0 0 none) me found me'
      → (e : RosterView D) × (me'.0 ≡ Postmaster e) × (e.generation ≡ d.generation) × (e.dealt ≡ d.dealt)
  looked_to k found me me' d o is sight told =
      let h = looked_as 0 k found me me' d o is sight told in
      dite (ℕ_discrete (stage_in found) 3)
      (λ three. (with_slot d k (exited_slot (slot_at d k) o (status_in found) (active_in found)) (noted_look d.notes found), ap (λ (m : Seated J D). m.0) (h.0 three).0, refl, refl))
      (λ ne. (with_slot d k (running_slot (slot_at d k) o d.notes.last_connection) (noted_look d.notes found), ap (λ (m : Seated J D). m.0) (h.1 ne), refl, refl))

  -- which is the supervisor's
  pub desk : (me : Seated J D) (d : RosterView D) (c : List (ℕ × Option J)) → me ≡ (Postmaster d, c) → me.0 ≡ Postmaster (roster_of me.0)
  desk me d c is = ap (λ (m : Seated J D). m.0) is ∙ ap (λ (m : Seated J D). Postmaster (roster_of m.0)) (sym is)

module _ {D : Type 0} where
  -- a worker's child that isn't attached
  pub no_child : (w : Work D) → w ≡ Idle → IsAttachedNow w → ⊥
  no_child w is at = subst IsAttachedNow is at

  pub inactive : (w : Work D) (o : Offer D) → w ≡ Inactive o → IsAttachedNow w → ⊥
  inactive w o is at = subst IsAttachedNow is at

  pub active : (w : Work D) (o : Offer D) → w ≡ Active o → IsAttachedNow w → ⊥
  active w o is at = subst IsAttachedNow is at

  pub sees : (w : Work D) (word : ℕ) → w ≡ Sees word → IsAttachedNow w → ⊥
  sees w word is at = subst IsAttachedNow is at

  pub refused : (w : Work D) (o : Offer D) (g : ℕ) → w ≡ Refused o g → IsAttachedNow w → ⊥
  refused w o g is at = subst IsAttachedNow is at

-- who hasn't the value
pub hasnt : {A : Type 0} (b : Bool) → b ≡ false → b ≡ true → A
hasnt b no_ yes_ = absurd (let clash : true ≡ false = sym yes_ ∙ no_ in cc)
