-- The counts of the gate's word, and how one child's place moves them.
use Rattle.std.{proofs.Common.{◌≡◌, ◌≢◌, ℕ, zero, suc, ◌+◌, ◌*◌, ◌/◌, ◌%◌, ◌<◌, ◌≤◌, ◌==◌, List, [], ◌∷◌, refl, ap, ◌∙◌, arith, ne_eqb}, specs.Prelude.{Bool, true, false, ◌&&◌, Option, Some, None}}
use Rattle.pm_facts.specs.Numbers.{sum_below, sum_put}
use Rattle.pm_supervisor.specs.{pm_exit.declared.child.Kind.Kind, declared.Reason.Reason, Children.{is_session, is_dead_end}}
use Rattle.pm_supervisor.specs.pm_exit.declared.child.Kind.TheVariants as kind
use Rattle.pm_supervisor.specs.declared.Reason.TheVariants as reason
use Rattle.pm_board_words.specs.{declared.views.{SessionLimit.SessionLimit, Offer.Offer, PastChild.PastChild, Work.{Work, TheVariants.{Idle, Sees, Inactive, Active, Refused, Attached}}, PostView.PostView}, Words.{bit, flag}, GateWords.{notice_bits, notice_of, sessions_in, open_in, notice_in, generation_in, place_of}}
use Rattle.pm_board.{specs.{Places.{is_auxiliary, lost}, Gate.{Gate, at_gate, attached, counted, staying, AllUpTo, GateOk}, Rule.{Phase, unused, opened, offered, running, ended, collected, gathered, Does, OfLiving, Cell, put, at_put}}, proofs.Bits.{bit_small, flag_bit}}

pub sum_small : (n : ℕ) (f : ℕ → ℕ) → ((k : ℕ) → k < n → f k ≤ 1) → sum_below n f ≤ n
sum_small zero f h = omega arith
sum_small (suc n) f h = let a : sum_below n f ≤ n = sum_small n f (λ k l. h k (omega arith)) in let b : f n ≤ 1 = h n (omega arith) in omega arith

pub sum_within : (n : ℕ) (f g : ℕ → ℕ) → ((k : ℕ) → f k ≤ g k) → sum_below n f ≤ sum_below n g
sum_within zero f g h = omega arith
sum_within (suc n) f g h = let a : sum_below n f ≤ sum_below n g = sum_within n f g h in let b : f n ≤ g n = h n in omega arith

sum_above : (n : ℕ) (f g : ℕ → ℕ) → ((k : ℕ) → f k ≤ g k + 1) → sum_below n f ≤ sum_below n g + n
sum_above zero f g h = omega arith
sum_above (suc n) f g h = let a : sum_below n f ≤ sum_below n g + n = sum_above n f g h in let b : f n ≤ g n + 1 = h n in omega arith

pub notice_small : (n : Option Reason) → notice_bits n < 4
notice_small None = omega arith
notice_small (Some reason.Crash) = omega arith
notice_small (Some reason.Stop) = omega arith

notice_again : (n : Option Reason) → notice_of (notice_bits n) ≡ n
notice_again None = refl
notice_again (Some reason.Crash) = refl
notice_again (Some reason.Stop) = refl

-- a child that isn't a dead-end one counts among the sessions or among the auxiliary children
pub place_is : (k : Kind) → is_dead_end k ≡ false → place_of (is_session k) ≡ bit (is_session k) + 4096 * bit (is_auxiliary k)
place_is kind.Startup e = refl
place_is kind.Checkpointer e = refl
place_is kind.Writer e = refl
place_is kind.Worker e = refl
place_is kind.Backend e = refl
place_is kind.DeadEnd e = absurd (cc)

module _ {D : Type 0} where
  pub up_to_more : (g : ℕ) (xs : List (PastChild D)) → AllUpTo g xs → AllUpTo (g + 1) xs
  up_to_more g [] a = tt
  up_to_more g (y ∷ xs) a = let l : y.offer.generation ≤ g = a.0 in (omega arith, up_to_more g xs a.1)

  -- in a new generation none is lost yet
  pub none_lost : (test : Kind → Bool) (g : ℕ) (xs : List (PastChild D)) → AllUpTo g xs → lost test (g + 1) xs ≡ 0
  none_lost test g [] a = refl
  none_lost test g (y ∷ xs) a = let l : y.offer.generation ≤ g = a.0 in let h : lost test (g + 1) xs ≡ 0 = none_lost test g xs a.1 in
      let none : (y.offer.generation == (g + 1)) ≡ false = ne_eqb y.offer.generation (g + 1) (λ e. absurd (omega arith)) in
      let z : bit (y.was_active && ((y.offer.generation == (g + 1)) && test y.offer.kind)) ≡ 0 = ap (λ (b : Bool). bit (y.was_active && (b && test y.offer.kind))) none ∙ nothing y.was_active in omega arith
    where
      nothing : (b : Bool) → bit (b && false) ≡ 0
      nothing true = refl
      nothing false = refl

  at_gate_above : (test : Kind → Bool) (w : Work D) → at_gate test w ≤ attached test w + 1
  at_gate_above test Idle = omega arith
  at_gate_above test (Sees word) = omega arith
  at_gate_above test (Inactive o) = omega arith
  at_gate_above test (Active o) = omega arith
  at_gate_above test (Refused o g) = let b : bit (test o.kind) < 2 = bit_small (test o.kind) in omega arith
  at_gate_above test (Attached o g) = omega arith

  pub attached_within : (test : Kind → Bool) (w : Work D) → attached test w ≤ at_gate test w
  attached_within test Idle = omega arith
  attached_within test (Sees word) = omega arith
  attached_within test (Inactive o) = omega arith
  attached_within test (Active o) = omega arith
  attached_within test (Refused o g) = omega arith
  attached_within test (Attached o g) = omega arith

  nobody : (test : Kind → Bool) (w : Work D) → w ≡ Idle → at_gate test w ≡ 0
  nobody test w e = ap (at_gate test) e

  -- a slot counts for one auxiliary child at most
  counted_once : (g : ℕ) (ph : Phase D) (w : PostView D) → Does ph w.work → lost is_auxiliary g w.past ≤ 1 → OfLiving (λ o. is_auxiliary o.kind ≡ true → lost is_auxiliary g w.past ≡ 0) ph → counted is_auxiliary g w ≤ 1
  counted_once g unused w does few none = let z : at_gate is_auxiliary w.work ≡ 0 = nobody is_auxiliary w.work does in omega arith
  counted_once g (opened q) w does few none = let z : at_gate is_auxiliary w.work ≡ 0 = nobody is_auxiliary w.work does in omega arith
  counted_once g (ended o st a b) w does few none = let z : at_gate is_auxiliary w.work ≡ 0 = nobody is_auxiliary w.work does in omega arith
  counted_once g (collected o st a) w does few none = let z : at_gate is_auxiliary w.work ≡ 0 = nobody is_auxiliary w.work does in omega arith
  counted_once g gathered w does few none = let z : at_gate is_auxiliary w.work ≡ 0 = nobody is_auxiliary w.work does in omega arith
  counted_once g (offered o) w does few none = let z : at_gate is_auxiliary w.work ≡ 0 = offers o w.work does in omega arith
    where
      offers : (o : Offer D) (v : Work D) → Does (offered o) v → at_gate is_auxiliary v ≡ 0
      offers o Idle e = refl
      offers o (Sees word) e = refl
      offers o (Inactive p) e = absurd e
      offers o (Active p) e = absurd e
      offers o (Refused p h) e = absurd e
      offers o (Attached p h) e = absurd e
  counted_once g (running o a) w does few none = runs (is_auxiliary o.kind) refl (lost is_auxiliary g w.past) few none (at_gate is_auxiliary w.work) (within w.work does)
    where
      within : (v : Work D) → Does (running o a) v → at_gate is_auxiliary v ≤ bit (is_auxiliary o.kind)
      within Idle e = absurd e
      within (Sees word) e = absurd e
      within (Inactive p) e = omega arith
      within (Active p) e = omega arith
      within (Refused p h) e = let z : bit (is_auxiliary p.kind) ≡ bit (is_auxiliary o.kind) = ap (λ (q : Offer D). bit (is_auxiliary q.kind)) e.0 in omega arith
      within (Attached p h) e = let z : bit (is_auxiliary p.kind) ≡ bit (is_auxiliary o.kind) = ap (λ (q : Offer D). bit (is_auxiliary q.kind)) e.0 in omega arith

      runs : (b : Bool) → is_auxiliary o.kind ≡ b → (l : ℕ) → l ≤ 1 → (is_auxiliary o.kind ≡ true → l ≡ 0) → (x : ℕ) → x ≤ bit (is_auxiliary o.kind) → x + l ≤ 1
      runs true is l few none x m = let z : l ≡ 0 = none is in let b : bit (is_auxiliary o.kind) < 2 = bit_small (is_auxiliary o.kind) in omega arith
      runs false is l few none x m = let z : bit (is_auxiliary o.kind) ≡ 0 = ap bit is in omega arith

  -- one worker's part in a sum over the slots
  pub count_moves : (F : PostView D → ℕ) (cells : ℕ → Cell D) (n k : ℕ) (c : Cell D) (w : PostView D) → k < n → (cells k).post ≡ w
      → sum_below n (λ j. F (put cells k c j).post) + F w ≡ sum_below n (λ j. F (cells j).post) + F c.post
  count_moves F cells n k c w near is =
      let a : sum_below n (λ j. F (put cells k c j).post) + F (cells k).post ≡ sum_below n (λ j. F (cells j).post) + F (put cells k c k).post =
      sum_put n k (λ j. F (cells j).post) (λ j. F (put cells k c j).post) near
      (λ j ne. at_put cells k c (λ q x. q ≢ k → F x.post ≡ F (cells q).post) j (λ n. absurd (n refl)) (λ _ _. refl) ne) in
      let b : F (put cells k c k).post ≡ F c.post = at_put cells k c (λ q x. q ≡ k → F x.post ≡ F c.post) k (λ _. refl) (λ n e. absurd (n e)) refl in
      let e : F (cells k).post ≡ F w = ap F is in omega arith

  -- what the gate's word tells who meets it
  pub record Reads (n word : ℕ) (gate : Gate) (cells : ℕ → Cell D) : Type 0 where
    pub sessions : ℕ
    pub auxiliaries : ℕ
    pub sessions_is : sessions ≡ sum_below n (λ k. counted is_session gate.generation (cells k).post)
    pub auxiliaries_is : auxiliaries ≡ sum_below n (λ k. counted is_auxiliary gate.generation (cells k).post)
    pub shows : word ≡ sessions + (4096 * auxiliaries + (16777216 * bit gate.is_open + (33554432 * notice_bits gate.noticed + 134217728 * gate.generation)))
    pub few_sessions : sessions ≤ 607
    pub few_auxiliaries : auxiliaries ≤ 407
    pub sessions_found : sessions_in word ≡ sessions
    pub open_found : open_in word ≡ gate.is_open
    pub notice_found : notice_in word ≡ gate.noticed
    pub generation_found : generation_in word ≡ gate.generation

  pub reads : (limit : SessionLimit) (n word : ℕ) (gate : Gate) (cells : ℕ → Cell D) → GateOk limit n word gate cells → ((k : ℕ) → k < n → Does (cells k).phase (cells k).post.work) → Reads n word gate cells
  reads limit n word gate cells ok does =
      let g : ℕ = gate.generation in
      let s : ℕ = sum_below n (λ k. counted is_session g (cells k).post) in let a : ℕ = sum_below n (λ k. counted is_auxiliary g (cells k).post) in
      let t : ℕ = sum_below n (λ k. staying is_session g (cells k).post) in
      let above : s ≤ t + n = sum_above n (λ k. counted is_session g (cells k).post) (λ k. staying is_session g (cells k).post)
      (λ k. let h : at_gate is_session (cells k).post.work ≤ attached is_session (cells k).post.work + 1 = at_gate_above is_session (cells k).post.work in let l : ℕ = lost is_session g (cells k).post.past in omega arith) in
      let few : t ≤ limit.most = ok.few in let low : n ≤ 407 = ok.small.0 in let most : limit.most ≤ 200 = ok.small.1 in
      let once : a ≤ n = sum_small n (λ k. counted is_auxiliary g (cells k).post) (λ k l. counted_once g (cells k).phase (cells k).post (does k l) (ok.once k).at_most (ok.once k).none_before) in
      let o : ℕ = bit gate.is_open in let q : ℕ = notice_bits gate.noticed in let o_low : o < 2 = bit_small gate.is_open in let q_low : q < 4 = notice_small gate.noticed in
      let shows : word ≡ s + (4096 * a + (16777216 * o + (33554432 * q + 134217728 * g))) = ok.shows in
      let small_s : s ≤ 607 = omega arith in let small_a : a ≤ 407 = omega arith in
      let open_is : word / 16777216 % 2 ≡ o = omega arith in let notice_is : word / 33554432 % 4 ≡ q = omega arith in
      record {
        sessions = s;
        auxiliaries = a;
        sessions_is = refl;
        auxiliaries_is = refl;
        shows = shows;
        few_sessions = small_s;
        few_auxiliaries = small_a;
        sessions_found = omega arith;
        open_found = ap flag open_is ∙ flag_bit gate.is_open;
        notice_found = ap notice_of notice_is ∙ notice_again gate.noticed;
        generation_found = omega arith;
      }
