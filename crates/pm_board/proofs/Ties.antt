-- How each step keeps what ties a board to its home.
use Rattle.std.{proofs.Common.{◌≡◌, ◌≢◌, ◌⊎◌, ⊎_elim, ℕ, zero, suc, Bool, true, false, List, [], ◌∷◌, ◌++◌, set, sym, refl, ap, ◌∙◌, subst}, specs.Prelude.{Option, Some, slice_index}}
use mathlib.Core.Option.{some, some-ne-none, some-injective}
use lib.ListN.{get_elem?}
use Rattle.atomic_table.{specs.Table.{State, Me}, proofs.Lists.{at_set, set_else, at_map, at_longer, at_snoc}}
use Rattle.pm_halves.specs.{Halves.{firsts, seconds}, Sitting.{Laid, Sitting}, Steps.StaysTied, Places.StaysTiedBy}
use Rattle.pm_board_home.{specs.{declared.views.HomeView.HomeView, Homes.{IsAlone, IsAtHome}, Views.{KeptBy, bare}}, proofs.HomeLaws.{alone_as, known_at}}
use Rattle.pm_board_home.specs.declared.home.Home as Home
use Rattle.pm_board_words.specs.declared.views.Letter as Letter
use Rattle.pm_board_words.specs.declared.views.{Offer.Offer, SessionLimit.SessionLimit, RosterView.RosterView, PostView.PostView, Work.{Work, TheVariants.{Idle, Sees, Inactive, Active, Refused, Attached}}, View.{View, TheVariants.{Postmaster, Worker, Spent}}}
use Rattle.pm_board.specs.{declared.plays.Limits.Limits, Gate.IsCurrent, History.Kept, Ties.{IsAttachedNow, SeatTied, Tied, TellsStamp}}

no_both : (b : Bool) → b ≡ true → b ≡ false → ⊥
no_both b yes_ no_ = let clash : true ≡ false = sym yes_ ∙ no_ in cc

module _ {A : Type 0} where
  here : (l : List A) (i : ℕ) (a b : A) → get_elem? l i ≡ some b → get_elem? (set l i a) i ≡ some a
  here [] i a b e = absurd (some-ne-none b (sym e))
  here (x ∷ xs) zero a b e = refl
  here (x ∷ xs) (suc i) a b e = here xs i a b e

module _ {J D : Type 0} (letter : Letter.Ghosts J D) (limit : SessionLimit) where
  -- a child that is attached is so in the gate's generation
  pub attached_now : (l : State (Option J) (View D)) → Kept letter limit l → (i j k g : ℕ) (d : RosterView D) (w : PostView D) (o : Offer D) → get_elem? l.views i ≡ some (Worker k w) → get_elem? l.views j ≡ some (Postmaster d) → w.work ≡ Attached o g → g ≡ d.generation
  attached_now l r i j k g d w o at at' does =
      let mine = r.3.each_seat i (Worker k w) at in
      let now : IsCurrent r.1.generation w.work = subst (λ (z : PostView D). IsCurrent r.1.generation z.work) mine.1 (r.4.current k).now in
      let is : IsCurrent r.1.generation (Attached o g) = subst (IsCurrent r.1.generation) does now in
      is.0 ∙ ap (λ (z : RosterView D). z.generation) (sym (r.3.each_seat j (Postmaster d) at').1)

module _ {D H W : Type 0} (home : Home.Ghosts H W) where
  -- the two seats are others
  apart : (vs : List (View D × HomeView W)) (i j : ℕ) (d : RosterView D) (v : View D) (a b : HomeView W) → get_elem? vs i ≡ some (Postmaster d, a) → get_elem? vs j ≡ some (v, b) → (Postmaster d ≡ v → ⊥) → i ≢ j
  apart vs i j d v a b at at' other e =
      let both : ◌≡◌ {A = View D × HomeView W} (Postmaster d, a) (v, b) = some-injective _ _ (sym at ∙ (ap (λ (z : ℕ). get_elem? vs z) e ∙ at')) in other (ap (λ (z : View D × HomeView W). z.0) both)

  set_each : (vs : List (View D × HomeView W)) (id : ℕ) (v : View D) (u : HomeView W) → Tied home vs → SeatTied home v u → (i : ℕ) (x : View D) (y : HomeView W) → get_elem? (set vs id (v, u)) i ≡ some (x, y) → SeatTied home x y
  set_each vs id v u tied mine i x y at =
      ⊎_elim
      (λ (z : (i ≡ id) × (◌≡◌ {A = View D × HomeView W} (v, u) (x, y))). subst (λ (p : View D × HomeView W). SeatTied home p.0 p.1) z.1 mine)
      (λ (z : (i ≢ id) × (get_elem? vs i ≡ some (x, y))). tied.each i x y z.1)
      (at_set vs id i (v, u) (x, y) at)

  -- a seat that isn't the supervisor's knows other things
  pub other_set : (vs : List (View D × HomeView W)) (id : ℕ) (v v' : View D) (u u' : HomeView W) → Tied home vs → get_elem? vs id ≡ some (v, u) → ((d : RosterView D) → Postmaster d ≡ v → ⊥) → SeatTied home v' u' → Tied home (set vs id (v', u'))
  other_set vs id v v' u u' tied at other mine = record {
    there = (
      tied.there.0,
      tied.there.1,
      tied.there.2,
      set_else vs id tied.there.0 (v', u') (apart vs tied.there.0 id tied.there.1 v tied.there.2 u tied.there.3 at (other tied.there.1)) ∙ tied.there.3,
    );
    each = set_each vs id v' u' tied mine;
  }

  no_worker : (k : ℕ) (w : PostView D) (d : RosterView D) → Postmaster d ≡ Worker k w → ⊥
  no_worker k w d e = cc

  pub worker_set : (vs : List (View D × HomeView W)) (id k : ℕ) (w : PostView D) (v' : View D) (u u' : HomeView W) → Tied home vs → get_elem? vs id ≡ some (Worker k w, u) → SeatTied home v' u' → Tied home (set vs id (v', u'))
  worker_set vs id k w v' u u' tied at mine = other_set vs id (Worker k w) v' u u' tied at (no_worker k w) mine

  -- the supervisor's does
  pub master_set : (vs : List (View D × HomeView W)) (id : ℕ) (d d' : RosterView D) (u u' : HomeView W) → Tied home vs → get_elem? vs id ≡ some (Postmaster d, u) → SeatTied home (Postmaster d') u' → Tied home (set vs id (Postmaster d', u'))
  master_set vs id d d' u u' tied at mine = record {
    there = (id, d', u', here vs id (Postmaster d', u') (Postmaster d, u) at);
    each = set_each vs id (Postmaster d') u' tied mine;
  }

  -- one seat more
  pub one_more : (vs : List (View D × HomeView W)) (v : View D) (u : HomeView W) → Tied home vs → SeatTied home v u → Tied home (vs ++ (v, u) ∷ [])
  one_more vs v u tied mine = record {
    there = (tied.there.0, tied.there.1, tied.there.2, at_longer vs ((v, u) ∷ []) tied.there.0 (Postmaster tied.there.1, tied.there.2) tied.there.3);
    each = λ i x y at.
        ⊎_elim
        (λ (z : get_elem? vs i ≡ some (x, y)). tied.each i x y z)
        (λ (z : ◌≡◌ {A = View D × HomeView W} (v, u) (x, y)). subst (λ (p : View D × HomeView W). SeatTied home p.0 p.1) z mine)
        (at_snoc vs (v, u) (x, y) i at);
  }

  -- the first seat
  pub one_seat : (d : RosterView D) (u : HomeView W) → SeatTied home (Postmaster d) u → Tied home ((Postmaster d, u) ∷ [])
  one_seat d u mine = record { there = (0, d, u, refl); each = only }
    where
      only : (i : ℕ) (x : View D) (y : HomeView W) → get_elem? {A = View D × HomeView W} ((Postmaster d, u) ∷ []) i ≡ some (x, y) → SeatTied home x y
      only zero x y at = subst (λ (p : View D × HomeView W). SeatTied home p.0 p.1) (some-injective _ _ at) mine
      only (suc i) x y at = absurd (some-ne-none (x, y) (sym at))

-- seats that are made, and taken in
module _ {D H W : Type 0} (home : Home.Ghosts H W) where
  still_master : (vs : List (View D × HomeView W)) (id : ℕ) (m m' : View D) (d d' : RosterView D) (u u' : HomeView W) → m ≡ Postmaster d → m' ≡ Postmaster d' → (SeatTied home (Postmaster d) u → SeatTied home (Postmaster d') u') → Tied home vs → get_elem? vs id ≡ some (m, u) → Tied home (set vs id (m', u'))
  still_master vs id m m' d d' u u' is is' keeps tied at =
      let at' : get_elem? vs id ≡ some (Postmaster d, u) = at ∙ (λ i. some (is i, u)) in
      subst (λ (v : View D). Tied home (set vs id (v, u'))) (sym is') (master_set home vs id d d' u u' tied at' (keeps (tied.each id (Postmaster d) u at')))

  pub dealt_tied : (id : ℕ) (m m' v : View D) (d d' : RosterView D) (k : ℕ) (w : PostView D) (u u' y : HomeView W) → m ≡ Postmaster d → m' ≡ Postmaster d' → v ≡ Worker k w → (SeatTied home (Postmaster d) u → SeatTied home (Postmaster d') u') → home.has y.knows ≡ false
      → (vs : List (View D × HomeView W)) → Tied home vs → get_elem? vs id ≡ some (m, u) → Tied home (set vs id (m', u') ++ (v, y) ∷ [])
  dealt_tied id m m' v d d' k w u u' y is is' worker keeps free vs tied at =
      one_more home (set vs id (m', u')) v y (still_master vs id m m' d d' u u' is is' keeps tied at)
      (subst (λ (x : View D). SeatTied home x y) (sym worker) (λ yes_. absurd (no_both (home.has y.knows) yes_ free)))

  pub gathered_tied : (id other k : ℕ) (m m' v : View D) (d d' : RosterView D) (w : PostView D) (u u' y y' : HomeView W) → m ≡ Postmaster d → m' ≡ Postmaster d' → v ≡ Worker k w → (SeatTied home (Postmaster d) u → SeatTied home (Postmaster d') u') → home.has y'.knows ≡ false
      → (vs : List (View D × HomeView W)) → Tied home vs → get_elem? vs id ≡ some (m, u) → ¬ (other ≡ id) → get_elem? (set vs id (m', u')) other ≡ some (v, y) → Tied home (set (set vs id (m', u')) other (Spent, y'))
  gathered_tied id other k m m' v d d' w u u' y y' is is' worker keeps free vs tied at ne at' =
      worker_set home (set vs id (m', u')) other k w Spent y y' (still_master vs id m m' d d' u u' is is' keeps tied at) (at' ∙ (λ i. some (worker i, y))) free

-- a step on a word of the board, by what it tells its seat
module _ {J D H W : Type 0} (letter : Letter.Ghosts J D) (home : Home.Ghosts H W) where
  -- a worker's, behind which its child is attached if it was and the worker has the value
  pub worker_tied : (t : Laid Limits) (z : Sitting (Option J) (Option H) (View D) (HomeView W)) (k : ℕ) (w : PostView D) (then : ℕ → Me (Option J) (View D) → Type 0) → z.me.0 ≡ Worker k w
      → ((found : ℕ) (me : Me (Option J) (View D)) → then found me → (w' : PostView D) × (me.0 ≡ Worker k w') × (home.has z.more.0.knows ≡ true → IsAttachedNow w.work → IsAttachedNow w'.work))
      → StaysTied (λ (x : Limits). Kept letter x.sessions) (Tied home) t z then
  worker_tied t z k w then is by l vs holds views tied at found me told =
      let b = by found me told in
      let at' : get_elem? vs z.id ≡ some (Worker k w, z.more.0) = at ∙ (λ i. some (is i, z.more.0)) in
      subst (λ (v : View D). Tied home (set vs z.id (v, z.more.0))) (sym b.1)
      (worker_set home vs z.id k w (Worker k b.0) z.more.0 z.more.0 tied at' (λ yes_. b.2 yes_ (tied.each z.id (Worker k w) z.more.0 at' yes_)))

  -- the supervisor's, which leaves the gate's generation as it is while the value is lent
  pub master_tied : (t : Laid Limits) (z : Sitting (Option J) (Option H) (View D) (HomeView W)) (d : RosterView D) (then : ℕ → Me (Option J) (View D) → Type 0) → z.me.0 ≡ Postmaster d
      → ((found : ℕ) (me : Me (Option J) (View D)) → then found me → (d' : RosterView D) × (me.0 ≡ Postmaster d') × (home.lends z.more.0.knows ≡ true → d'.generation ≡ d.generation))
      → StaysTied (λ (x : Limits). Kept letter x.sessions) (Tied home) t z then
  master_tied t z d then is by l vs holds views tied at found me told =
      let b = by found me told in
      let at' : get_elem? vs z.id ≡ some (Postmaster d, z.more.0) = at ∙ (λ i. some (is i, z.more.0)) in
      let mine = tied.each z.id (Postmaster d) z.more.0 at' in
      subst (λ (v : View D). Tied home (set vs z.id (v, z.more.0))) (sym b.1)
      (master_set home vs z.id d b.0 z.more.0 z.more.0 tied at' (mine.0, (λ lent. mine.1 lent ∙ sym (b.2 lent))))

-- a step at the home
module _ {J D H W : Type 0} (letter : Letter.Ghosts J D) (home : Home.Ghosts H W) where
  -- A worker takes the value, or meets it out: what it has is of the generation in which its child is attached.
  pub worker_takes : IsAlone home.rule home.has home.leads home.lends home.stamp → (t : Laid Limits) (z : Sitting (Option J) (Option H) (View D) (HomeView W)) (k g : ℕ) (w : PostView D) (o : Offer D) (then : ℕ → Me (Option H) (HomeView W) → Type 0)
      → z.me.0 ≡ Worker k w → w.work ≡ Attached o g → StaysTiedBy (λ (x : Limits). Kept letter x.sessions) (λ (_ : Limits). KeptBy home.rule) (Tied home) t z then (TellsStamp home z.me.0)
  worker_takes alone t z k g w o then is does l s vs holds views tied at found me rule after told =
      let at' : get_elem? vs z.id ≡ some (Worker k w, z.more.0) = at ∙ (λ i. some (is i, z.more.0)) in
      let mine : get_elem? s.views z.id ≡ some me.0 = ap (λ (x : List (HomeView W)). get_elem? x z.id) after ∙ here (seconds vs) z.id me.0 z.more.0 (at_map (λ (x : View D × HomeView W). x.1) vs z.id (Worker k w, z.more.0) at') in
      let m : ℕ = tied.there.0 in let d : RosterView D = tied.there.1 in let y : HomeView W = tied.there.2 in
      let ne : m ≢ z.id = apart home vs m z.id d (Worker k w) y z.more.0 tied.there.3 at' (no_worker home k w d) in
      let his : get_elem? s.views m ≡ some y = ap (λ (x : List (HomeView W)). get_elem? x m) after ∙ (set_else (seconds vs) z.id m me.0 ne ∙ at_map (λ (x : View D × HomeView W). x.1) vs m (Postmaster d, y) tied.there.3) in
      let desk = tied.each m (Postmaster d) y tied.there.3 in
      let first : (i : ℕ) (v : View D) (u : HomeView W) → get_elem? vs i ≡ some (v, u) → get_elem? l.views i ≡ some v = (λ i v u e. ap (λ (x : List (View D)). get_elem? x i) views ∙ at_map (λ (x : View D × HomeView W). x.0) vs i (v, u) e) in
      subst (λ (v : View D). Tied home (set vs z.id (v, me.0)) × TellsStamp home v found me.0) (sym is) (
        worker_set home vs z.id k w (Worker k w) z.more.0 me.0 tied at' (λ _. subst IsAttachedNow (sym does) tt),
        (λ o' g' does' yes_.
            let by = alone_as home.rule home.has home.leads home.lends home.stamp alone s rule z.id m me.0 y mine his (λ e. ne (sym e)) yes_ desk.0 in
            by.1 ∙ (desk.1 by.0 ∙ sym (attached_now letter t.key.sessions l holds z.id m k g' d w o' (first z.id (Worker k w) z.more.0 at') (first m (Postmaster d) y tied.there.3) does'))),
      )

  -- A worker gives it back.
  pub worker_gives : (t : Laid Limits) (z : Sitting (Option J) (Option H) (View D) (HomeView W)) (k : ℕ) (w : PostView D) (then : ℕ → Me (Option H) (HomeView W) → Type 0) → z.me.0 ≡ Worker k w
      → ((found : ℕ) (me : Me (Option H) (HomeView W)) → then found me → home.has me.0.knows ≡ false) → StaysTiedBy (λ (x : Limits). Kept letter x.sessions) (λ (_ : Limits). KeptBy home.rule) (Tied home) t z then (λ _ _. Unit {0})
  worker_gives t z k w then is by l s vs holds views tied at found me rule after told =
      let at' : get_elem? vs z.id ≡ some (Worker k w, z.more.0) = at ∙ (λ i. some (is i, z.more.0)) in (
        subst (λ (v : View D). Tied home (set vs z.id (v, me.0))) (sym is)
            (worker_set home vs z.id k w (Worker k w) z.more.0 me.0 tied at' (λ yes_. absurd (no_both (home.has me.0.knows) yes_ (by found me told)))),
        tt,
      )

  -- The supervisor takes it, or gives one back, by what that tells.
  pub master_steps : (tells : View D → ℕ → HomeView W → Type 0) (t : Laid Limits) (z : Sitting (Option J) (Option H) (View D) (HomeView W)) (d : RosterView D) (then : ℕ → Me (Option H) (HomeView W) → Type 0) → z.me.0 ≡ Postmaster d
      → ((found : ℕ) (me : Me (Option H) (HomeView W)) → then found me → SeatTied home (Postmaster d) z.more.0 → SeatTied home (Postmaster d) me.0 × tells (Postmaster d) found me.0) → StaysTiedBy (λ (x : Limits). Kept letter x.sessions) (λ (_ : Limits). KeptBy home.rule) (Tied home) t z then (tells z.me.0)
  master_steps tells t z d then is by l s vs holds views tied at found me rule after told =
      let at' : get_elem? vs z.id ≡ some (Postmaster d, z.more.0) = at ∙ (λ i. some (is i, z.more.0)) in
      let b = by found me told (tied.each z.id (Postmaster d) z.more.0 at') in
      subst (λ (v : View D). Tied home (set vs z.id (v, me.0)) × tells v found me.0) (sym is) (master_set home vs z.id d d z.more.0 me.0 tied at' b.0, b.1)

-- between any two steps
module _ {J D H W : Type 0} (letter : Letter.Ghosts J D) (home : Home.Ghosts H W) where
  is_attached : (w : Work D) → IsAttachedNow w → (o : Offer D) × (g : ℕ) × (w ≡ Attached o g)
  is_attached (Attached o g) at = (o, g, refl)
  is_attached Idle at = absurd at
  is_attached (Sees word) at = absurd at
  is_attached (Inactive o) at = absurd at
  is_attached (Active o) at = absurd at
  is_attached (Refused o g) at = absurd at

  pub lends_in_hand : IsAlone home.rule home.has home.leads home.lends home.stamp → (limit : SessionLimit) (l : State (Option J) (View D)) (s : State (Option H) (HomeView W)) (vs : List (View D × HomeView W)) → Kept letter limit l → KeptBy home.rule s → l.views ≡ firsts vs → s.views ≡ seconds vs → Tied home vs
      → (desk id k : ℕ) (d : RosterView D) (w : PostView D) (y u : HomeView W) → get_elem? vs desk ≡ some (Postmaster d, y) → get_elem? vs id ≡ some (Worker k w, u) → home.has u.knows ≡ true → (home.stamp u.knows ≡ d.generation) × ((o : Offer D) × (w.work ≡ Attached o d.generation))
  lends_in_hand alone limit l s vs holds rule firsts_are seconds_are tied desk id k d w y u at at' yes_ =
      let ne : desk ≢ id = apart home vs desk id d (Worker k w) y u at at' (no_worker home k w d) in
      let first : (i : ℕ) (v : View D) (x : HomeView W) → get_elem? vs i ≡ some (v, x) → get_elem? l.views i ≡ some v = (λ i v x e. ap (λ (z : List (View D)). get_elem? z i) firsts_are ∙ at_map (λ (z : View D × HomeView W). z.0) vs i (v, x) e) in
      let second : (i : ℕ) (v : View D) (x : HomeView W) → get_elem? vs i ≡ some (v, x) → get_elem? s.views i ≡ some x = (λ i v x e. ap (λ (z : List (HomeView W)). get_elem? z i) seconds_are ∙ at_map (λ (z : View D × HomeView W). z.1) vs i (v, x) e) in
      let his = tied.each desk (Postmaster d) y at in
      let by = alone_as home.rule home.has home.leads home.lends home.stamp alone s rule id desk u y (second id (Worker k w) u at') (second desk (Postmaster d) y at) (λ e. ne (sym e)) yes_ his.0 in
      let does = is_attached w.work (tied.each id (Worker k w) u at' yes_) in
      let g_is = attached_now letter limit l holds id desk k does.1 d w does.0 (first id (Worker k w) u at') (first desk (Postmaster d) y at) does.2 in
      (by.1 ∙ his.1 by.0, (does.0, does.2 ∙ ap (λ (n : ℕ). Attached does.0 n) g_is))

module _ {D H W : Type 0} (home : Home.Ghosts H W) where
  pub lends_at_home : IsAtHome home.rule home.leads home.lends home.stamp home.stamp_of → (s : State (Option H) (HomeView W)) (vs : List (View D × HomeView W)) → KeptBy home.rule s → s.views ≡ seconds vs → Tied home vs
      → (desk : ℕ) (d : RosterView D) (y : HomeView W) → get_elem? vs desk ≡ some (Postmaster d, y) → home.lends y.knows ≡ true → slice_index s.words 0 ≡ 0 → (x : H) × (get_elem? s.homes 0 ≡ some (some (Some x))) × (home.stamp_of x ≡ d.generation)
  lends_at_home law s vs rule seconds_are tied desk d y at lent zero_is =
      let his = tied.each desk (Postmaster d) y at in
      let seen : get_elem? s.views desk ≡ some y = ap (λ (z : List (HomeView W)). get_elem? z desk) seconds_are ∙ at_map (λ (z : View D × HomeView W). z.1) vs desk (Postmaster d, y) at in
      let there = law (bare s) rule desk y.knows (known_at s.views desk y seen) his.0 lent zero_is in
      (there.0, there.1, there.2 ∙ his.1 lent)
