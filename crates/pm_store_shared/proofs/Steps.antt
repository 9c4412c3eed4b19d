-- The steps, at a seat that is known by equations.
use Rattle.std.proofs.Common.{◌≡◌, ℕ, ◌+◌, ◌==◌, List, [], ◌∷◌, length, sym, refl, ap, ◌∙◌, subst}
use mathlib.Core.Option.{none}
use prog.Atomic.{either}
use Rattle.std.{specs.Prelude.{Option, Some, None}}
use Rattle.atomic_table.specs.Table.{step, rest, opening, Allows, Joins, Splits}
use Rattle.pm_segment.specs.{pm_query.declared.book.BookEntry.{BookEntry, TheVariants.Opened}, pm_store_apart.declared.pass.Pass.Pass}
use Rattle.pm_store_shared.{specs.{declared.views.{Noted.Noted, Joined.Joined, Taken.Taken, View.{View, TheVariants.{Vacant, Founding, Master, Worker, Spent}}}, Rule.Kept, Told.{Seated, number_of, Took, TookAlone, Gave, Opens, Founded, IsMine, MayGive, with_held, Tells, resting, desk_resting, dealt_more, next_hand, taken_in}}, proofs.{Keeps.takes_it, Gives.{gives_hand, gives_desk}, Ends.{begins, opens, founds, deals, gathers, takes_alone}}}

module _ {S F L : Type 0} (Is : F → List BookEntry → S → Option L → Type 0) (Knows : List BookEntry → S → Pass → Type 0) where
  pub takes_as : (slots id n to : ℕ) (me : Seated S F L) → slots ≡ 1 → me.1 ≡ [] → number_of me.0 ≡ n → to ≡ n + 1 → IsMine me.0
      → Allows (Kept Is Knows) slots id me 0 (λ w. either (w == 0) to w) (Took Is Knows (step slots 0 0 to none) me)
  takes_as slots id n to me one nothing same to_is mine =
      subst (λ (z : ℕ × List (ℕ × Option S) × ℕ). Allows (Kept Is Knows) z.0 id (me.0, z.1) 0 (λ w. either (w == 0) z.2 w) (Took Is Knows (step z.0 0 0 z.2 none) (me.0, z.1))) (λ i. (sym one i, sym nothing i, sym to_is i)) (takes_it Is Knows id n me.0 same mine)

  gives_it : (told : List BookEntry → Type 0) (ps : List Pass) (has : Option L) (id : ℕ) (v : View S F L) (x : S) → MayGive Is Knows told ps has v x → Allows (Kept Is Knows) 1 id (v, (0, Some x) ∷ []) 0 (λ _. 0) (Gave told ps has (step 1 0 0 0 none) (v, (0, Some x) ∷ []))
  gives_it told ps has id Vacant x may = absurd may
  gives_it told ps has id Founding x may = absurd may
  gives_it told ps has id (Master d) x may = gives_desk Is Knows told ps has id d x may
  gives_it told ps has id (Worker h) x may = gives_hand Is Knows told ps has id h x may
  gives_it told ps has id Spent x may = absurd may

  pub gives_as : (told : List BookEntry → Type 0) (ps : List Pass) (has : Option L) (slots id : ℕ) (me : Seated S F L) (v : View S F L) (x : S) → slots ≡ 1 → me ≡ (v, (0, Some x) ∷ []) → MayGive Is Knows told ps has v x
      → Allows (Kept Is Knows) slots id me 0 (λ _. 0) (Gave told ps has (step slots 0 0 0 none) me)
  gives_as told ps has slots id me v x one is may =
      subst (λ (z : ℕ × Seated S F L). Allows (Kept Is Knows) z.0 id z.1 0 (λ _. 0) (Gave told ps has (step z.0 0 0 0 none) z.1)) (λ i. (sym one i, sym is i)) (gives_it told ps has id v x may)

  -- the store that was taken
  pub taken_is : (v : View S F L) (slots n found : ℕ) (me me' : Seated S F L) → me ≡ (v, []) → found ≡ 0 → Took Is Knows (step slots 0 0 n none) me found me'
      → (t : Taken S) × (me' ≡ (with_held v (Some t), (0, Some t.store) ∷ [])) × Tells Is Knows v t
  taken_is v slots n found me me' e zero_is took =
      let t = took.0 zero_is in (t.0, t.1 ∙ ap (λ (m : Seated S F L). (with_held m.0 (Some t.0), (0, Some t.0.store) ∷ [])) e, subst (λ (m : Seated S F L). Tells Is Knows m.0 t.0) e t.2)

  pub opens_as : (slots id : ℕ) (me : Seated S F L) → slots ≡ 1 → me ≡ (Vacant, []) → Allows (Kept Is Knows) slots id me 0 (λ _. 1) (Opens (step slots 0 1 0 none) me)
  opens_as slots id me one is = subst (λ (z : ℕ × Seated S F L). Allows (Kept Is Knows) z.0 id z.1 0 (λ _. 1) (Opens (step z.0 0 1 0 none) z.1)) (λ i. (sym one i, sym is i)) (opens Is Knows id)

  pub founds_as : (handed : S → Option F) (first : F) (slots id : ℕ) (me : Seated S F L) (x : S) → slots ≡ 1 → me ≡ (Founding, (0, Some x) ∷ []) → handed x ≡ Some first → Is first (Opened 1 ∷ []) x None
      → Allows (Kept Is Knows) slots id me 0 (λ _. 0) (Founded handed (step slots 0 0 0 none) me)
  founds_as handed first slots id me x one is has_it stands =
      subst (λ (z : ℕ × Seated S F L). Allows (Kept Is Knows) z.0 id z.1 0 (λ _. 0) (Founded handed (step z.0 0 0 0 none) z.1)) (λ i. (sym one i, sym is i)) (founds Is Knows handed first id x has_it stands)

  pub deals_as : (id n g : ℕ) (first : F) (own : List Noted) (joined : List Joined) (me : Seated S F L) → me ≡ desk_resting n first g own joined → Splits (Kept Is Knows) id me.0 (dealt_more me.0) (next_hand me.0)
  deals_as id n g first own joined me is =
      subst (λ (m : Seated S F L). Splits (Kept Is Knows) id m.0 (dealt_more m.0) (next_hand m.0)) (sym is) (deals Is Knows id record { dealt = n; first = first; generation = g; own = own; joined = joined; held = None } refl)

  pub gathers_as : {m : List BookEntry} (id other n g k : ℕ) (first his : F) (own mine : List Noted) (joined : List Joined) (ps : List Pass) (me him : Seated S F L) → me ≡ desk_resting n first g own joined → him ≡ resting k his mine ps m → k ≡ length joined
      → Joins (Kept Is Knows) id me.0 other him.0 (taken_in me.0 him.0) Spent
  gathers_as {m} id other n g k first his own mine joined ps me him is is' next =
      subst (λ (m : Seated S F L × Seated S F L). Joins (Kept Is Knows) id m.0.0 other m.1.0 (taken_in m.0.0 m.1.0) Spent) (λ i. (sym is i, sym is' i))
      (gathers Is Knows id other record { dealt = n; first = first; generation = g; own = own; joined = joined; held = None } record { number = k; first = his; own = mine; passes = ps; past = m; held = None; lent = None } refl refl next)

  pub alone_as : (slots id n g to : ℕ) (first : F) (own : List Noted) (joined : List Joined) (me : Seated S F L) → slots ≡ 1 → me ≡ desk_resting n first g own joined → length joined ≡ n → to ≡ n + 1
      → Allows (Kept Is Knows) slots id me 0 (λ w. either (w == 0) to w) (TookAlone Is Knows (step slots 0 0 to none) me)
  alone_as slots id n g to first own joined me one is all to_is =
      subst (λ (z : ℕ × Seated S F L × ℕ). Allows (Kept Is Knows) z.0 id z.1 0 (λ w. either (w == 0) z.2 w) (TookAlone Is Knows (step z.0 0 0 z.2 none) z.1)) (λ i. (sym one i, sym is i, sym to_is i))
      (takes_alone Is Knows id record { dealt = n; first = first; generation = g; own = own; joined = joined; held = None } refl all)

  pub begins_as : (xs : List (Option S)) (ws : List ℕ) → xs ≡ None ∷ [] → ws ≡ 1 ∷ [] → Kept Is Knows (opening ws xs Vacant)
  begins_as xs ws e f = subst (λ (z : List ℕ × List (Option S)). Kept Is Knows (opening z.0 z.1 Vacant)) (λ i. (sym f i, sym e i)) (begins Is Knows)

module _ {S F L : Type 0} where
  -- a seat that holds the slot
  pub holds_one : (me : Seated S F L) (v : View S F L) (x : Option S) → me ≡ (v, (0, x) ∷ []) → (y : Option S) × (me.1 ≡ (0, y) ∷ rest me.1)
  holds_one me v x e = (x, ap (λ (m : Seated S F L). m.1) e ∙ ap (λ (m : Seated S F L). (0, x) ∷ rest m.1) (sym e))

  -- and after an exchange
  pub exchanged : (me me' : Seated S F L) (v : View S F L) (x y : Option S) → me ≡ (v, (0, x) ∷ []) → me' ≡ (me.0, (0, y) ∷ rest me.1) → me' ≡ (v, (0, y) ∷ [])
  exchanged me me' v x y e did = did ∙ ap (λ (m : Seated S F L). (m.0, (0, y) ∷ rest m.1)) e

  -- the value that came out
  pub came_out : (me : Seated S F L) (v : View S F L) (x y : Option S) → me ≡ (v, (0, x) ∷ []) → me.1 ≡ (0, y) ∷ rest me.1 → x ≡ y
  came_out me v x y e has = ap (out x) (sym (ap (λ (m : Seated S F L). m.1) e) ∙ has)
    where
      out : Option S → List (ℕ × Option S) → Option S
      out d [] = d
      out d (z ∷ zs) = z.1

  pub with_view : (me : Seated S F L) (x : Option S) → me.1 ≡ (0, x) ∷ [] → me ≡ (me.0, (0, x) ∷ [])
  with_view me x e = λ i. (me.0, e i)

  pub at_rest : (me me' : Seated S F L) → me' ≡ me → me.1 ≡ [] → me' ≡ (me.0, [])
  at_rest me me' e nothing = e ∙ (λ i. (me.0, nothing i))
