-- What a take from the home and a give there come to, at a seat as contracts see it.
use Rattle.std.{proofs.Common.{◌≡◌, ℕ, Bool, true, false, List, [], ◌∷◌, ◌++◌, arith, sym, refl, ap, ◌∙◌, subst}, specs.Prelude.{Option, Some, None, remove}}
use mathlib.Core.Logic.{dite}
use native.Mathlib.Decide.{ℕ_discrete}
use Rattle.atomic_table.specs.{Table.Me, Seated.TableId}
use Rattle.pm_supervisor.specs.{pm_exit.declared.child.Kind.Kind, declared.Reason.Reason}
use Rattle.pm_board_home.{specs.{declared.views.HomeView.HomeView, Homes.FoundsByRule, Views.{no_takes, met_more, with_knows, KeptBy, Took, Gave, Founded}}, proofs.HomeLaws.founds_as}
use Rattle.pm_halves.specs.Places.{MayTake}
use Rattle.pm_board_home.specs.declared.home.Home as Home
use Rattle.pm_board_words.specs.declared.views.{SessionLimit.SessionLimit, RosterView.RosterView, View.TheVariants.Postmaster}
use Rattle.pm_board.{specs.{Told.Seated, Models.{IsWholePost, IsWholeRoster}, Ties.{SeatTied, TellsStamp, HoldsHome, HasHome, HasTakenHome, HasGivenHome}}, proofs.Homing.hasnt}

abbrev value_in : {H : Type 0} → Option H → List (ℕ × Option H) → Option H
value_in y [] = y
value_in y (c ∷ cs) = c.1

module _ {H W : Type 0} (home : Home.Ghosts H W) where
  -- the laws of a home that a take rests on
  abbrev Taken : Type 0
  Taken = (u v : W) (x : H) → home.takes u x v → (home.has v ≡ true) × (home.leads v ≡ home.leads u) × (home.lends v ≡ false) × (home.stamp v ≡ home.stamp_of x)

  abbrev TakenNumber : Type 0
  TakenNumber = (u v : W) (x : H) (n : ℕ) → home.takes u x v → home.numbered u n → home.numbered v n

  abbrev TakenStamp : Type 0
  TakenStamp = (u v : W) (x : H) → home.takes u x v → home.lends u ≡ true → home.stamp_of x ≡ home.stamp u

  -- and a give
  abbrev Given : Type 0
  Given = (u v : W) (x : H) → home.gives u x v → (home.has v ≡ false) × (home.leads v ≡ home.leads u) × (home.leads u ≡ true → home.lends v ≡ true)

  abbrev GivenNumber : Type 0
  GivenNumber = (u v : W) (x : H) (n : ℕ) → home.gives u x v → home.numbered u n → home.numbered v n

  abbrev GivenStamp : Type 0
  GivenStamp = (u v : W) (x : H) → home.gives u x v → home.lends v ≡ true → home.stamp v ≡ home.stamp_of x

  -- the home's slot, which a seat has or not
  pub none_held : (n : ℕ) (more : Me (Option H) (HomeView W)) → HasHome home n more → home.has more.0.knows ≡ false → more.1 ≡ []
  none_held n more is free = subst (λ (b : Bool). HoldsHome b more.1) free is.1

  pub one_held : (n : ℕ) (more : Me (Option H) (HomeView W)) → HasHome home n more → home.has more.0.knows ≡ true → more.1 ≡ (0, None) ∷ []
  one_held n more is yes_ = subst (λ (b : Bool). HoldsHome b more.1) yes_ is.1

  -- a take that met 0
  pub took : Taken → TakenNumber → (n g : ℕ) (y : Option H) (before now : Me (Option H) (HomeView W)) → HasHome home n before → home.has before.0.knows ≡ false → Took home.takes before.0 0 (now.0, (0, y) ∷ [])
      → (home.has now.0.knows ≡ true → home.stamp now.0.knows ≡ g) → now.1 ≡ before.1 ++ (0, None) ∷ []
      → (x : H) × (y ≡ Some x) × HasTakenHome home g (Some x) before.0 now.0 × HasHome home n now × (home.leads now.0.knows ≡ home.leads before.0.knows)
  took taken number n g y before now is free told stamp list =
      let t = told.0 refl in let x : H = t.0 in let v : W = t.1 in
      let view : now.0 ≡ met_more before.0 0 v = ap (λ (m : Me (Option H) (HomeView W)). m.0) t.2 in
      let knows : now.0.knows ≡ v = ap (λ (u : HomeView W). u.knows) view in
      let all = taken before.0.knows v x t.3 in
      let has : home.has now.0.knows ≡ true = ap home.has knows ∙ all.0 in (
        x,
        ap (λ (m : Me (Option H) (HomeView W)). value_in y m.1) t.2,
        (v, view, t.3, all.0, all.2, sym all.3 ∙ (ap home.stamp (sym knows) ∙ stamp has)),
        (
          subst (λ (z : W). home.numbered z n) (sym knows) (number before.0.knows v x n t.3 is.0),
          subst (λ (b : Bool). HoldsHome b now.1) (sym has) (list ∙ ap (λ (l : List (ℕ × Option H)). l ++ (0, None) ∷ []) (none_held n before is free)),
        ),
        ap home.leads knows ∙ all.1,
      )

  -- and one that met another number
  pub took_none : (n g found : ℕ) (before now : Me (Option H) (HomeView W)) → HasHome home n before → Took home.takes before.0 found (now.0, []) → ¬ (found ≡ 0) → now.1 ≡ before.1
      → HasTakenHome home g None before.0 now.0 × HasHome home n now × (home.leads now.0.knows ≡ home.leads before.0.knows)
  took_none n g found before now is told ne list =
      let view : now.0 ≡ met_more before.0 found before.0.knows = ap (λ (m : Me (Option H) (HomeView W)). m.0) (told.1 ne) in
      let knows : now.0.knows ≡ before.0.knows = ap (λ (u : HomeView W). u.knows) view in (
        (found, ne, view),
        (
          subst (λ (z : W). home.numbered z n) (sym knows) is.0,
          subst (λ (z : Bool × List (ℕ × Option H)). HoldsHome z.0 z.1) (λ i. (ap home.has (sym knows) i, sym list i)) is.1,
        ),
        ap home.leads knows,
      )

  pub gave : Given → GivenNumber → (n : ℕ) (then : W → Type 0) (x : H) (before now : Me (Option H) (HomeView W)) → HasHome home n before → home.has before.0.knows ≡ true → Gave home.gives then (before.0, (0, Some x) ∷ []) (now.0, []) → now.1 ≡ remove before.1 0
      → HasGivenHome home then x before.0 now.0 × HasHome home n now × (home.leads now.0.knows ≡ home.leads before.0.knows) × (home.leads before.0.knows ≡ true → home.lends now.0.knows ≡ true)
  gave given number n then x before now is yes_ told list =
      let v : W = told.0 in
      let view : now.0 ≡ with_knows before.0 v = ap (λ (m : Me (Option H) (HomeView W)). m.0) told.1 in
      let knows : now.0.knows ≡ v = ap (λ (u : HomeView W). u.knows) view in
      let gives : home.gives before.0.knows x v = told.3 x refl in
      let all = given before.0.knows v x gives in (
        (v, view, gives, told.2, all.0),
        (
          subst (λ (z : W). home.numbered z n) (sym knows) (number before.0.knows v x n gives is.0),
          subst (λ (b : Bool). HoldsHome b now.1) (sym (ap home.has knows ∙ all.0)) (list ∙ ap (λ (l : List (ℕ × Option H)). remove l 0) (one_held n before is yes_)),
        ),
        ap home.leads knows ∙ all.1,
        (λ lead. ap home.lends knows ∙ all.2 lead),
      )

  -- who gave it back hasn't it
  pub gave_free : Given → (then : W → Type 0) (u : HomeView W) (x : H) (now : Me (Option H) (HomeView W)) → Gave home.gives then (u, (0, Some x) ∷ []) now → home.has now.0.knows ≡ false
  gave_free given then u x now told = ap (λ (m : Me (Option H) (HomeView W)). home.has m.0.knows) told.1 ∙ (given u.knows told.0 x (told.3 x refl)).0

  -- what the first seat of a new board knows once it has the empty slot
  abbrev IsFounding : Type 0
  IsFounding = (home.has home.founding ≡ true) × (home.leads home.founding ≡ true) × (home.lends home.founding ≡ false) × home.numbered home.founding 0

  -- it may take that slot
  pub may_found : {K : Type 0} → FoundsByRule home.rule home.first home.founding → (key : K) (id : ℕ) (u : HomeView W) → u ≡ no_takes home.first
      → MayTake (λ (_ : K). KeptBy home.rule) 1 key id u 0 1 (λ found now. Founded home.founding (u, []) found now)
  may_found {K} law key id u is =
      subst (λ (z : HomeView W). MayTake (λ (_ : K). KeptBy home.rule) 1 key id z 0 1 (λ found now. Founded home.founding (z, []) found now)) (sym is)
      (omega arith, founds_as home.rule home.first home.founding law id, (λ found me told. ((λ _. (None, ap (λ (m : Me (Option H) (HomeView W)). m.1) told.1)), (λ ne. absurd (ne told.0)))))

  pub founding : (u now : HomeView W) (y : Option H) → Founded home.founding (u, []) 0 (now, (0, y) ∷ []) → now.knows ≡ home.founding
  founding u now y told = ap (λ (m : Me (Option H) (HomeView W)). m.0.knows) told.1

  -- and lays this there
  pub laid_first : IsFounding → Given → GivenNumber → (then : W → Type 0) (x : H) (first before now : Me (Option H) (HomeView W)) (y : Option H) → first ≡ (no_takes home.first, []) → Founded home.founding (first.0, []) 0 (before.0, (0, y) ∷ []) → before.1 ≡ first.1 ++ (0, None) ∷ []
      → Gave home.gives then (before.0, (0, Some x) ∷ []) (now.0, []) → now.1 ≡ remove before.1 0
      → HasHome home 0 now × (home.leads now.0.knows ≡ true) × (home.has now.0.knows ≡ false) × ((v : W) × home.gives home.founding x v × then v × (now.0 ≡ no_takes v))
  laid_first law given number then x first before now y is found held told list =
      let knows : before.0.knows ≡ home.founding = founding first.0 before.0 y found in
      let has : home.has before.0.knows ≡ true = ap home.has knows ∙ law.0 in
      let mine : HasHome home 0 before =
      (subst (λ (w : W). home.numbered w 0) (sym knows) law.3, subst (λ (b : Bool). HoldsHome b before.1) (sym has) (held ∙ ap (λ (m : Me (Option H) (HomeView W)). m.1 ++ (0, None) ∷ []) is)) in
      let g = gave given number 0 then x before now mine has told list in
      let v : W = g.0.0 in
      let was : before.0 ≡ with_knows first.0 home.founding = ap (λ (m : Me (Option H) (HomeView W)). m.0) found.1 in (
        g.1,
        g.2 ∙ (ap home.leads knows ∙ law.1),
        ap (λ (u : HomeView W). home.has u.knows) g.0.1 ∙ g.0.4,
        (
          v,
          subst (λ (w : W). home.gives w x v) knows g.0.2,
          g.0.3,
          g.0.1 ∙ (ap (λ (u : HomeView W). with_knows u v) was ∙ ap (λ (m : Me (Option H) (HomeView W)). with_knows m.0 v) is),
        ),
      )

  module _ {D : Type 0} where
    -- what the supervisor knows of the value it takes is the gate's generation
    pub desk_takes : Taken → TakenStamp → (u : HomeView W) (d : RosterView D) → home.has u.knows ≡ false → home.lends u.knows ≡ true → (found : ℕ) (now : Me (Option H) (HomeView W)) → Took home.takes u found now → SeatTied home (Postmaster d) u
        → SeatTied home (Postmaster d) now.0 × TellsStamp home (Postmaster d) found now.0
    desk_takes taken stamp u d free lends found now told was =
        dite (ℕ_discrete found 0)
        (λ zero_is.
        let t = told.0 zero_is in let all = taken u.knows t.1 t.0 t.3 in
        let knows : now.0.knows ≡ t.1 = ap (λ (m : Me (Option H) (HomeView W)). m.0.knows) t.2 in (
          (ap home.leads knows ∙ (all.1 ∙ was.0), (λ lent. hasnt (home.lends now.0.knows) (ap home.lends knows ∙ all.2) lent)),
          (λ _. ap home.stamp knows ∙ (all.3 ∙ (stamp u.knows t.1 t.0 t.3 lends ∙ was.1 lends))),
        ))
        (λ ne.
        let knows : now.0.knows ≡ u.knows = ap (λ (m : Me (Option H) (HomeView W)). m.0.knows) (told.1 ne) in (
          (ap home.leads knows ∙ was.0, (λ lent. ap home.stamp knows ∙ was.1 (ap home.lends (sym knows) ∙ lent))),
          (λ yes_. hasnt (home.has u.knows) free (ap home.has (sym knows) ∙ yes_)),
        ))

    -- of the empty slot it knows nothing
    pub desk_founds : IsFounding → (u : HomeView W) (d : RosterView D) (found : ℕ) (now : Me (Option H) (HomeView W)) → Founded home.founding (u, []) found now → SeatTied home (Postmaster d) now.0
    desk_founds law u d found now told =
        let knows : now.0.knows ≡ home.founding = ap (λ (m : Me (Option H) (HomeView W)). m.0.knows) told.1 in
        (ap home.leads knows ∙ law.1, (λ lent. hasnt (home.lends now.0.knows) (ap home.lends knows ∙ law.2) lent))

    -- and of the one that it gives back
    pub desk_gives : Given → GivenStamp → (then : W → Type 0) (u : HomeView W) (x : H) (d : RosterView D) → home.stamp_of x ≡ d.generation → (now : Me (Option H) (HomeView W)) → Gave home.gives then (u, (0, Some x) ∷ []) now → SeatTied home (Postmaster d) u → SeatTied home (Postmaster d) now.0
    desk_gives given stamp then u x d is now told was =
        let gives : home.gives u.knows x told.0 = told.3 x refl in
        let knows : now.0.knows ≡ told.0 = ap (λ (m : Me (Option H) (HomeView W)). m.0.knows) told.1 in
        (ap home.leads knows ∙ ((given u.knows told.0 x gives).1 ∙ was.0), (λ lent. ap home.stamp knows ∙ (stamp u.knows told.0 x gives (ap home.lends (sym knows) ∙ lent) ∙ is)))

-- a seat whose view of the board and whose mail are as before
module _ {J D : Type 0} where
  pub post_same : (b t t' : TableId) (k : ℕ) (kind : Kind) (pid : ℕ) (limit : SessionLimit) (me me' : Seated J D) → t' ≡ t → me' ≡ me → IsWholePost b t k kind pid limit me → IsWholePost b t' k kind pid limit me'
  post_same b t t' k kind pid limit me me' e is whole = subst (λ (z : TableId × Seated J D). IsWholePost b z.0 k kind pid limit z.1) (λ i. (sym e i, sym is i)) whole

  pub roster_same : (b t t' : TableId) (used : ℕ) (children : List (Option (ℕ × Kind))) (generation : ℕ) (noticed : Option Reason) (me me' : Seated J D) → t' ≡ t → me' ≡ me → IsWholeRoster b t used children generation noticed me → IsWholeRoster b t' used children generation noticed me'
  roster_same b t t' used children generation noticed me me' e is whole = subst (λ (z : TableId × Seated J D). IsWholeRoster b z.0 used children generation noticed z.1) (λ i. (sym e i, sym is i)) whole
