-- A store that is given back as it was taken.
use Rattle.std.{proofs.Common.{◌≡◌, ℕ, ◌+◌, List, [], ◌∷◌, ◌++◌, refl, sym, ◌∙◌, ap, subst, append-nil, append_assoc}, specs.Prelude.{Option, None, Some, Result, Ok, Err}}
use Rattle.pm_query.specs.{declared.{book.BookEntry.BookEntry, store.StoreNo.StoreNo}, Book.{generation_of, times_attached}}
use Rattle.pm_segment.specs.pm_store_apart.declared.pass.Pass.{Pass}
use Rattle.pm_store_shared.{specs.{declared.views.{Noted.Noted, Taken.Taken, View.{View, TheVariants.{Vacant, Founding, Master, Worker, Spent}}}, Log.{IsShuffle}, Passes.{AllKnown, live}, Rule.{AreCounted, taken}, Told.{HasNoneLent, IsFor, IsMine, IsNothing, MayGive, Relends, Seated, Tells, TellsHand, TookFor, Turns, given_back, number_of, owns, passes_of, resting, with_held}}, proofs.Logs.known_on}

pub turns_none : (log : List BookEntry) (ps : List Pass) → Turns log [] ps ps
turns_none log ps = record {
  same = ap generation_of (append-nil log);
  known = λ a. a;
  fair = λ p. ap (λ l. times_attached l p + live p (generation_of log) ps) (append-nil log);
}

module _ {S F L : Type 0} where
  abbrev pub unchanged : View S F L → Taken S → View S F L
  unchanged v t = given_back (with_held v (Some t)) [] (passes_of (with_held v (Some t))) None

  pub passes_kept : (v : View S F L) (t : Taken S) → passes_of (with_held v (Some t)) ≡ passes_of v
  passes_kept Vacant t = refl
  passes_kept Founding t = refl
  passes_kept (Master d) t = refl
  passes_kept (Worker h) t = refl
  passes_kept Spent t = refl

module _ {S F L : Type 0} (Is : F → List BookEntry → S → Option L → Type 0) (Knows : List BookEntry → S → Pass → Type 0) where
  still : (log : List BookEntry) (x : S) (ps : List Pass) → AllKnown (Knows log x) (generation_of log) ps → AllKnown (Knows (log ++ []) x) (generation_of log) ps
  still log x ps known = known_on (Knows log x) (Knows (log ++ []) x) (generation_of log) ps (λ p e k. subst (λ l. Knows l x p) (sym (append-nil log)) k) known

  -- it may be, by who has lent nothing
  pub may_none : (v : View S F L) (t : Taken S) → IsMine v → HasNoneLent v → Tells Is Knows v t → MayGive Is Knows IsNothing (passes_of (with_held v (Some t))) None (with_held v (Some t)) t.store
  may_none Vacant t mine unlent tells = absurd mine
  may_none Founding t mine unlent tells = absurd mine
  may_none Spent t mine unlent tells = absurd mine
  may_none (Master d) t mine unlent tells = record {
    was = t;
    added = [];
    held = refl;
    is_told = refl;
    none_own = tt;
    step = record {
      resets = λ dealt cells a. subst (AreCounted dealt cells) (sym (append-nil t.log)) a;
      stands = λ f lent is. subst (λ l. Is f l t.store lent) (sym (append-nil t.log)) is;
      passes = λ ps up known. subst (λ z. AllKnown (Knows (t.log ++ []) t.store) z ps) (sym (ap generation_of (append-nil t.log))) (still t.log t.store ps known);
    };
  }
  may_none (Worker h) t mine unlent tells = record {
    was = t;
    added = [];
    held = refl;
    is_told = refl;
    own = tt;
    step = record {
      turns = turns_none t.log h.passes;
      stands = subst (λ had. (f : F) → Relends had None (Is f t.log t.store) (Is f (t.log ++ []) t.store)) (sym unlent) (λ f lent is. subst (λ l. Is f l t.store lent) (sym (append-nil t.log)) is);
      others = λ p e known. subst (λ l. Knows l t.store p) (sym (append-nil t.log)) known;
      mine = still t.log t.store h.passes tells.0.1;
    };
  }

  pub may_give_back : (v : View S F L) (log : List BookEntry) (x : S) (m : Seated S F L) (c : List (ℕ × Option S)) → IsMine v → HasNoneLent v → m ≡ (with_held v (Some (taken log x)), c) → Tells Is Knows v (taken log x)
      → MayGive Is Knows IsNothing (passes_of m.0) None m.0 x
  may_give_back v log x m c mine unlent is tells = subst (λ (z : Seated S F L). MayGive Is Knows IsNothing (passes_of z.0) None z.0 x) (sym is) (may_none v (taken log x) mine unlent tells)

  -- a seat that rests is one's own, and has lent nothing
  pub may_rest : {past : List BookEntry} (k : ℕ) (first : F) (own : List Noted) (ps : List Pass) (log : List BookEntry) (x : S) (me m : Seated S F L) (c : List (ℕ × Option S)) → me ≡ resting k first own ps past → m ≡ (with_held me.0 (Some (taken log x)), c)
      → Tells Is Knows me.0 (taken log x) → MayGive Is Knows IsNothing (passes_of m.0) None m.0 x
  may_rest k first own ps log x me m c is was tells =
      may_give_back me.0 log x m c (subst (λ (z : Seated S F L). IsMine z.0) (sym is) tt) (subst (λ (z : Seated S F L). HasNoneLent z.0) (sym is) refl) was tells

  -- ---- who gives it back, and takes it again

  -- the seat knows what it knew, as far as what it takes next can show
  pub record IsAsFound (v w : View S F L) : Type 0 where
    pub number : number_of w ≡ number_of v
    pub mine : IsMine w
    pub unlent : HasNoneLent w
    pub held : (t : Taken S) → with_held w (Some t) ≡ with_held v (Some t)
    pub tells : (t : Taken S) → Tells Is Knows w t → Tells Is Knows v t

  pub as_found : (v : View S F L) → IsMine v → HasNoneLent v → IsAsFound v v
  as_found v mine unlent = record { number = refl; mine = mine; unlent = unlent; held = λ t. refl; tells = λ t told. told }

  pub found_again : (v w : View S F L) (t : Taken S) → IsAsFound v w → Tells Is Knows w t → IsAsFound v (unchanged w t)
  found_again v w t found tells = on (unchanged w t) (one w found.mine found.unlent tells)
    where
      one : (w : View S F L) → IsMine w → HasNoneLent w → Tells Is Knows w t → IsAsFound w (unchanged w t)
      one Vacant mine unlent tells = absurd mine
      one Founding mine unlent tells = absurd mine
      one Spent mine unlent tells = absurd mine
      one (Master d) mine unlent tells =
          let same : generation_of (t.log ++ []) ≡ d.generation = ap generation_of (append-nil t.log) ∙ tells.2 in record {
            number = refl;
            mine = tt;
            unlent = tt;
            held = λ u. λ i. Master record { dealt = d.dealt; first = d.first; generation = same i; own = append-nil d.own i; joined = d.joined; held = Some u };
            tells = λ u told. (subst (λ own. IsShuffle d.dealt (owns d.joined) own u.log) (append-nil d.own) told.0, told.1, told.2 ∙ same, told.3);
          }
      one (Worker h) mine unlent tells = record {
        number = refl;
        mine = tt;
        unlent = refl;
        held = λ u. λ i. Worker record { number = h.number; first = h.first; own = append-nil h.own i; passes = h.passes; past = u.log; held = Some u; lent = sym unlent i };
        tells = λ u told. (subst (λ had. TellsHand Is Knows had h.first h.passes u) (sym unlent) told.0, (tells.1.0 ++ told.1.0, told.1.1 ∙ ap (λ l. l ++ told.1.0) tells.1.1 ∙ append_assoc h.past tells.1.0 told.1.0));
      }

      on : (z : View S F L) → IsAsFound w z → IsAsFound v z
      on z next = record { number = next.number ∙ found.number; mine = next.mine; unlent = next.unlent; held = λ u. next.held u ∙ found.held u; tells = λ u told. found.tells u (next.tells u told) }

  -- ---- who has taken it for a pass

  pub took_for : (generation : S → ℕ) (pass : Pass) (r : Result S StoreNo) (log : List BookEntry) (x : S) (m m' n : Seated S F L) → m' ≡ (with_held m.0 (Some (taken log x)), (0, None) ∷ []) → Tells Is Knows m.0 (taken log x)
      → IsFor generation pass x m' r n → TookFor Is Knows generation pass m r n
  took_for generation pass (Ok y) log x m m' n was tells is = (log, is.1 ∙ was ∙ ap (λ z. (with_held m.0 (Some (taken log z)), (0, None) ∷ [])) (sym is.0), subst (λ z. Tells Is Knows m.0 (taken log z)) (sym is.0) tells, is.2 ∙ ap generation (sym is.0))
  took_for generation pass (Err refusal) log x m m' n was tells is =
      (log, x, is.0 ∙ ap (λ (z : Seated S F L). (given_back z.0 [] (passes_of z.0) None, [])) was ∙ (λ i. (given_back (with_held m.0 (Some (taken log x))) [] (passes_kept m.0 (taken log x) i) None, [])), tells, is.1, is.2)
