-- What stays of the gate when one slot moves.
use Rattle.std.{proofs.Common.{◌≡◌, ℕ, zero, suc, ◌+◌, ◌<◌, ◌≤◌, ◌==◌, List, [], ◌∷◌, ◌++◌, get_or, set, refl, sym, ap, ◌∙◌, subst, arith, eq-eqb, get_or-set_other}, specs.Prelude.{Bool, true, false, ◌&&◌}}
use Rattle.pm_facts.specs.Numbers.{sum_below, sum_same, sum_zero}
use Rattle.pm_supervisor.specs.{pm_exit.declared.child.{Kind.Kind, Status.Status}, Children.is_session}
use Rattle.pm_board_words.specs.{declared.views.{SessionLimit.SessionLimit, Offer.Offer, PastChild.PastChild, PostNotes.PostNotes, Work.{Work, TheVariants.{Idle, Sees, Inactive, Active, Refused, Attached}}, PostView.PostView}, Words.bit, GateWords.gate_packed}
use Rattle.pm_board.specs.{Places.{is_auxiliary, lost}, Gate.{Gate, at_gate, attached, counted, staying, IsCurrent, AllUpTo, InGeneration, AuxiliaryOnce, GateOk, first_gate}, Rule.{Phase, unused, offered, running, ended, OfLiving, Cell, put, at_put, idle_post}, Told.{MayEnd, post_view, with_notes, past_child}}

module _ {D : Type 0} where
  pub lost-append : (test : Kind → Bool) (g : ℕ) (xs : List (PastChild D)) (x : PastChild D) → lost test g (xs ++ x ∷ []) ≡ lost test g xs + bit (x.was_active && ((x.offer.generation == g) && test x.offer.kind))
  lost-append test g [] x = omega arith
  lost-append test g (y ∷ xs) x = let h : lost test g (xs ++ x ∷ []) ≡ lost test g xs + bit (x.was_active && ((x.offer.generation == g) && test x.offer.kind)) = lost-append test g xs x in omega arith

  pub up_to-append : (g : ℕ) (xs : List (PastChild D)) (x : PastChild D) → AllUpTo g xs → x.offer.generation ≤ g → AllUpTo g (xs ++ x ∷ [])
  up_to-append g [] x a l = (l, tt)
  up_to-append g (y ∷ xs) x a l = (a.0, up_to-append g xs x a.1 l)

  -- a post counts at the gate for what it did before
  pub record SameCounts (limit : SessionLimit) (g : ℕ) (w w' : PostView D) : Type 0 where
    pub sessions : counted is_session g w' ≡ counted is_session g w
    pub auxiliaries : counted is_auxiliary g w' ≡ counted is_auxiliary g w
    pub stays : staying is_session g w' ≡ staying is_session g w
    pub current : InGeneration limit g w → InGeneration limit g w'

  pub gate_moves : (limit : SessionLimit) (n k word : ℕ) (words : List ℕ) (gate : Gate) (cells : ℕ → Cell D) (c : Cell D) (w : PostView D) → k < n → (cells k).post ≡ w → SameCounts limit gate.generation w c.post → AuxiliaryOnce gate.generation c
      → GateOk limit n (get_or words n 0) gate cells → GateOk limit n (get_or (set words k word) n 0) gate (put cells k c)
  gate_moves limit n k word words gate cells c w near is same once ok =
      let g : ℕ = gate.generation in
      let by : (F : PostView D → ℕ) → F c.post ≡ F w → sum_below n (λ j. F (put cells k c j).post) ≡ sum_below n (λ j. F (cells j).post) =
      (λ F e. sum_same n (λ j. F (cells j).post) (λ j. F (put cells k c j).post) (λ j _. at_put cells k c (λ q x. F x.post ≡ F (cells q).post) j (e ∙ ap F (sym is)) (λ _. refl))) in
      let a = by (counted is_session g) same.sessions in let b = by (counted is_auxiliary g) same.auxiliaries in let s = by (staying is_session g) same.stays in
      record {
        shows = get_or-set_other words k n word 0 (λ e. absurd (omega arith)) ∙ (ok.shows
            ∙ (λ i. gate_packed record { generation = g; is_open = gate.is_open; noticed = gate.noticed; sessions = sym a i; auxiliaries = sym b i }));
        few = subst (λ (z : ℕ). z ≤ limit.most) (sym s) ok.few;
        shut = λ e. s ∙ ok.shut e;
        small = ok.small;
        first = ok.first;
        fits = ok.fits;
        current = λ j. at_put cells k c (λ q x. InGeneration limit g x.post) j (same.current (subst (InGeneration limit g) is (ok.current k))) (λ _. ok.current j);
        once = λ j. at_put cells k c (λ q x. AuxiliaryOnce g x) j once (λ _. ok.once j);
      }

  abbrev pub away : Work D → Bool
  away Idle = true
  away (Sees word) = true
  away (Inactive o) = true
  away (Active o) = true
  away (Refused o h) = false
  away (Attached o h) = false

  none : (test : Kind → Bool) (v : Work D) → away v ≡ true → at_gate test v ≡ 0
  none test Idle e = refl
  none test (Sees word) e = refl
  none test (Inactive o) e = refl
  none test (Active o) e = refl
  none test (Refused o h) e = absurd (cc)
  none test (Attached o h) e = absurd (cc)

  gone : (test : Kind → Bool) (v : Work D) → away v ≡ true → attached test v ≡ 0
  gone test Idle e = refl
  gone test (Sees word) e = refl
  gone test (Inactive o) e = refl
  gone test (Active o) e = refl
  gone test (Refused o h) e = refl
  gone test (Attached o h) e = absurd (cc)

  free : (g : ℕ) (v : Work D) → away v ≡ true → IsCurrent g v
  free g Idle e = tt
  free g (Sees word) e = tt
  free g (Inactive o) e = tt
  free g (Active o) e = tt
  free g (Refused o h) e = absurd (cc)
  free g (Attached o h) e = absurd (cc)

  -- a step that no gate counts
  pub uncounted : (limit : SessionLimit) (g : ℕ) (w : PostView D) → SameCounts limit g w w
  uncounted limit g w = record { sessions = refl; auxiliaries = refl; stays = refl; current = λ z. z }

  -- nor one that changes a worker's notes alone
  pub uncounted_notes : (limit : SessionLimit) (g : ℕ) (w : PostView D) (notes : PostNotes) → notes.session_limit ≡ w.notes.session_limit → SameCounts limit g w (with_notes w notes)
  uncounted_notes limit g w notes el = record { sessions = refl; auxiliaries = refl; stays = refl; current = λ z. record { now = z.now; before = z.before; limit_is = el ∙ z.limit_is } }

  -- nor one in which a worker that isn't at the gate stays away from it
  pub uncounted_by : (limit : SessionLimit) (g : ℕ) (notes notes' : PostNotes) (past : List (PastChild D)) (v v' : Work D) → notes'.session_limit ≡ notes.session_limit → away v ≡ true → away v' ≡ true → SameCounts limit g (post_view notes past v) (post_view notes' past v')
  uncounted_by limit g notes notes' past v v' el e e' = record {
    sessions = ap (λ (z : ℕ). z + lost is_session g past) (none is_session v' e' ∙ sym (none is_session v e));
    auxiliaries = ap (λ (z : ℕ). z + lost is_auxiliary g past) (none is_auxiliary v' e' ∙ sym (none is_auxiliary v e));
    stays = ap (λ (z : ℕ). z + lost is_session g past) (gone is_session v' e' ∙ sym (gone is_session v e));
    current = λ z. record { now = free g v' e'; before = z.before; limit_is = el ∙ z.limit_is };
  }

  -- a child ends, as it stood at the gate
  ends_as : (test : Kind → Bool) (g : ℕ) (w : Work D) (o : Offer D) (a : Bool) → MayEnd w o a → o.generation ≡ g → (at_gate test w ≡ bit (a && ((o.generation == g) && test o.kind))) × (attached test w ≡ bit (a && ((o.generation == g) && test o.kind)))
  ends_as test g Idle o a may now = absurd may
  ends_as test g (Sees word) o a may now = absurd may
  ends_as test g (Active p) o a may now = absurd may
  ends_as test g (Refused p h) o a may now = absurd may
  ends_as test g (Inactive p) o a may now = let e = ap (λ (z : Bool). bit (z && ((o.generation == g) && test o.kind))) (sym may.1) in (e, e)
  ends_as test g (Attached p h) o a may now =
      let e : bit (test p.kind) ≡ bit (a && ((o.generation == g) && test o.kind)) =
      ap (λ (z : Offer D). bit (test z.kind)) may.0 ∙ (ap (λ (z : Bool). bit (z && test o.kind)) (sym (eq-eqb o.generation g now)) ∙ ap (λ (z : Bool). bit (z && ((o.generation == g) && test o.kind))) (sym may.1)) in (e, e)

  pub ended_counts : (limit : SessionLimit) (g : ℕ) (notes notes' : PostNotes) (past : List (PastChild D)) (w : Work D) (o : Offer D) (status : Status) (a : Bool) (back : D) → notes'.session_limit ≡ notes.session_limit → MayEnd w o a → o.generation ≡ g
      → SameCounts limit g (post_view notes past w) (post_view notes' (past ++ past_child o status a back ∷ []) Idle)
  ended_counts limit g notes notes' past w o status a back el may now =
      let x : PastChild D = past_child o status a back in let ys : List (PastChild D) = past ++ x ∷ [] in
      let count : (test : Kind → Bool) → lost test g ys ≡ at_gate test w + lost test g past = (λ test.
      let h : lost test g ys ≡ lost test g past + bit (a && ((o.generation == g) && test o.kind)) = lost-append test g past x in
      let e : at_gate test w ≡ bit (a && ((o.generation == g) && test o.kind)) = (ends_as test g w o a may now).0 in omega arith) in
      record {
        sessions = (let h : lost is_session g ys ≡ at_gate is_session w + lost is_session g past = count is_session in omega arith);
        auxiliaries = (let h : lost is_auxiliary g ys ≡ at_gate is_auxiliary w + lost is_auxiliary g past = count is_auxiliary in omega arith);
        stays = (let h : lost is_session g ys ≡ lost is_session g past + bit (a && ((o.generation == g) && is_session o.kind)) = lost-append is_session g past x in
            let e : attached is_session w ≡ bit (a && ((o.generation == g) && is_session o.kind)) = (ends_as is_session g w o a may now).1 in omega arith);
        current = λ z. record { now = tt; before = up_to-append g past x z.before (let e : o.generation ≡ g = now in omega arith); limit_is = el ∙ z.limit_is };
      }

  -- a child that ends attached is the first auxiliary one of its slot to do so in this generation
  pub ended_once : (g : ℕ) (past : List (PastChild D)) (o : Offer D) (status : Status) (a : Bool) (back : D) (c : Cell D) → c.phase ≡ running o a → c.post.past ≡ past → AuxiliaryOnce g c → lost is_auxiliary g (past ++ past_child o status a back ∷ []) ≤ 1
  ended_once g past o status a back c is past_is once =
      let h : lost is_auxiliary g (past ++ past_child o status a back ∷ []) ≡ lost is_auxiliary g past + bit (a && ((o.generation == g) && is_auxiliary o.kind)) = lost-append is_auxiliary g past (past_child o status a back) in
      let few : lost is_auxiliary g past ≤ 1 = subst (λ (z : List (PastChild D)). lost is_auxiliary g z ≤ 1) past_is once.at_most in
      let none : is_auxiliary o.kind ≡ true → lost is_auxiliary g past ≡ 0 = subst (λ (z : List (PastChild D)). is_auxiliary o.kind ≡ true → lost is_auxiliary g z ≡ 0) past_is
      (subst (OfLiving (λ p. is_auxiliary p.kind ≡ true → lost is_auxiliary g c.post.past ≡ 0)) is once.none_before) in
      go a (o.generation == g) (is_auxiliary o.kind) (lost is_auxiliary g past) few none h
    where
      go : (a b c : Bool) (l : ℕ) → l ≤ 1 → (c ≡ true → l ≡ 0) → {n : ℕ} → n ≡ l + bit (a && (b && c)) → n ≤ 1
      go true true true l few none e = let z : l ≡ 0 = none refl in omega arith
      go true true false l few none e = omega arith
      go true false c l few none e = omega arith
      go false b c l few none e = omega arith

  pub once_ended : (g : ℕ) (past : List (PastChild D)) (o : Offer D) (status : Status) (a : Bool) (back : D) (seat : ℕ) (notes : PostNotes) (c : Cell D) → c.phase ≡ running o a → c.post.past ≡ past → AuxiliaryOnce g c
      → AuxiliaryOnce g record { phase = ended o status a back; seat = seat; post = post_view notes (past ++ past_child o status a back ∷ []) Idle }
  once_ended g past o status a back seat notes c is past_is once = record { at_most = ended_once g past o status a back c is past_is once; none_before = tt }

  -- a step that leaves a slot's children as they are
  pub once_still : (g : ℕ) (c : Cell D) (ph : Phase D) (seat : ℕ) (post : PostView D) → post.past ≡ c.post.past → ((P : Offer D → Type 0) → OfLiving P c.phase → OfLiving P ph) → AuxiliaryOnce g c → AuxiliaryOnce g record { phase = ph; seat = seat; post = post }
  once_still g c ph seat post same lives once = record {
    at_most = subst (λ (z : List (PastChild D)). lost is_auxiliary g z ≤ 1) (sym same) once.at_most;
    none_before = subst (λ (z : List (PastChild D)). OfLiving (λ o. is_auxiliary o.kind ≡ true → lost is_auxiliary g z ≡ 0) ph) (sym same)
        (lives (λ o. is_auxiliary o.kind ≡ true → lost is_auxiliary g c.post.past ≡ 0) once.none_before);
  }

  -- a child that is assigned has no auxiliary forerunner that exited attached, if it is one
  pub once_offered : (g : ℕ) (c : Cell D) (o : Offer D) (seat : ℕ) → (is_auxiliary o.kind ≡ true → lost is_auxiliary g c.post.past ≡ 0) → AuxiliaryOnce g c → AuxiliaryOnce g record { phase = offered o; seat = seat; post = c.post }
  once_offered g c o seat none once = record { at_most = once.at_most; none_before = none }

  pub first_gate_ok : (limit : SessionLimit) (n word : ℕ) → word ≡ 134217728 → n ≤ 407 → limit.most ≤ 200 → GateOk {D = D} limit n word first_gate (λ _. record { phase = unused; seat = 0; post = idle_post limit })
  first_gate_ok limit n word is few most =
      let none : (F : PostView D → ℕ) → F (idle_post limit) ≡ 0 → sum_below n (λ _. F (idle_post limit)) ≡ 0 = (λ F z. sum_zero n (λ _. F (idle_post limit)) (λ _ _. z)) in
      let a = none (counted is_session 1) refl in let b = none (counted is_auxiliary 1) refl in let s = none (staying is_session 1) refl in
      record {
        shows = is ∙ (λ i. gate_packed record { generation = 1; is_open = false; noticed = first_gate.noticed; sessions = sym a i; auxiliaries = sym b i });
        few = subst (λ (z : ℕ). z ≤ limit.most) (sym s) (omega arith);
        shut = λ _. s;
        small = (few, most);
        first = omega arith;
        fits = omega arith;
        current = λ _. record { now = tt; before = tt; limit_is = refl };
        once = λ _. record { at_most = omega arith; none_before = tt };
      }
