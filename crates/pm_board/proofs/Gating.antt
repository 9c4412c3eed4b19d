-- Each step at the gate keeps the rule.
use Rattle.std.{proofs.{Common.{◌≡◌, ℕ, zero, suc, ◌+◌, ◌-◌, ◌*◌, ◌%◌, ◌^◌, ◌<◌, ◌≤◌, List, [], ◌∷◌, ◌++◌, length, get_or, sym, refl, inl, inr, ap, ◌∙◌, subst, arith, get_or-set_same}, Math.Nat.{mod-eq_of_lt, zero-add}, lemmas.Bool.{ltb-true, ltb-false}}, specs.{List.Contains, Prelude.{Bool, true, false, nat_lt, not, if◌then◌else◌, Option, Some, None, Result, Ok, Err, IsSomeAnd}}}
use native.Mathlib.Nat.{add-mod_right}
use mathlib.Core.Logic.{dite}
use mathlib.Core.Option.{none, some}
use native.Mathlib.Decide.{dec_le}
use lib.ListN.{get_elem?}
use Rattle.atomic_table.specs.Table.{step, Act, keeps, Valid, stepped, carried_after, Allows}
use Rattle.pm_facts.specs.Numbers.{sum_below, sum_zero}
use Rattle.pm_supervisor.specs.{pm_exit.declared.child.{Kind.Kind, Status.TheVariants.Code}, declared.Reason.Reason, Children.{Child, is_session, is_startup_child, is_dead_end, attached_sessions}}
use Rattle.pm_supervisor.specs.pm_exit.declared.child.Kind.TheVariants as kind
use Rattle.pm_supervisor.specs.declared.Reason.TheVariants as reason
use Rattle.pm_supervisor.specs.Shared as shared
use Rattle.pm_child_life.specs.{declared.life.GateNo.{GateNo}, Life.attempt}
use Rattle.pm_child_life.specs.declared.life.GateNo.TheVariants as gate_no
use Rattle.pm_board_words.specs.{declared.views.{SessionLimit.SessionLimit, Offer.Offer, PastChild.PastChild, PostNotes.PostNotes, RosterStep.RosterStep, RosterView.RosterView, Sight.{Sight, TheVariants.{Unused, Opened, Assigned, Exited, Collected, Gathered}}, SlotView.SlotView, Work.{Work, TheVariants.{Idle, Inactive, Active, Refused, Attached}}, PostView.PostView, View.{View, TheVariants.{Postmaster, Worker}}}, Words.bit, GateWords.{reserve_by, session_answer, notice_bits, gate_packed, sessions_in, open_in, notice_in, generation_in, place_of, answer_to, gate_answer, MayQuit, quit_step, ready_step, new_gate}}
use Rattle.pm_board.{specs.{Slots.child_slots, Places.{slot_at, slot_view, SlotServes, is_auxiliary, lost, is_used, used_in}, Gate.{Gate, GateAnswers, gate_of, at_gate, attached, counted, staying, IsCurrent, AllUpTo, InGeneration, AuxiliaryOnce, GateOk}, Rule.{at_put, put, Phase, unused, opened, offered, running, ended, collected, gathered, child_word, Seen, Does, OfChild, OfLiving, IsPlaced, Cell, Holds}, Latches.{NotReleased, IsAssignedBy, AnsweredBefore, doings}, History.{living, Kept}, Told.{Seated, post_view, tried, tried_by, detached, after_step, Marks, Unmarks, Tries, BacksOut, Detaches, Quits, Readies, Resets}}, proofs.{Bits.{bit_small, packed_small}, Moves.{rebased, worker_step, word_step, word_turn, St}, Gates.{uncounted_by, gate_moves, once_still}, Counts.{sum_within, notice_small, place_is, up_to_more, none_lost, attached_within, count_moves, Reads, reads}, Latches.{at_last, answered_now, quit_is_no_release, ready_is_no_release, reset_is_no_release, hears_met, latch_here, latches_still, latches_turn}, Seats.{seats_step, seats_still}, Histories.{kept, same_history, quiet}, Passes.{is_false, lives, passes, shown_attached, quit_history, ready_history, reset_history}, Keeps.{grown, fits_for, at_phase, placed_as, owned, does_run, does_act, does_back, does_stay}}}
use Rattle.pm_board_words.specs.declared.views.Letter as Letter
use Rattle.pm_board_words.specs.declared.views.PostStep.TheVariants as post_step
use Rattle.pm_board_words.specs.declared.views.RosterStep.TheVariants as roster_step

less : (x a y : ℕ) → x ≡ y + a → a ≤ 18446744073709551616 → x < 18446744073709551616 → (x + (2 ^ 64 - a)) % 2 ^ 64 ≡ y
less x a y e small h = let s : x + (2 ^ 64 - a) ≡ y + 2 ^ 64 = omega arith in ap (λ (z : ℕ). z % 2 ^ 64) s ∙ (add-mod_right y (2 ^ 64) ∙ (let l : y < 2 ^ 64 = omega arith in mod-eq_of_lt l))

-- what a session is answered, by what it met: an open gate, room besides the places that are kept from it, and room at all
abbrev met_by : (most reserve word : ℕ) (is_open wanted room : Bool) → Result ℕ GateNo
met_by most reserve word is_open wanted room =
    if not is_open then Err (gate_no.NotReady (generation_in word))
    else (if wanted then Ok (generation_in word)
    else (if room then Err (gate_no.Reserved (sessions_in word)) else Err (gate_no.TooMany (sessions_in word))))

-- who is let in met no notice, and a session met an open gate and room
let_in : (b : Bool) (most reserve word : ℕ) (q : Option Reason) (h : ℕ) → answer_to b q word (session_answer most reserve word) ≡ Ok h
    → (q ≡ None) × (h ≡ generation_in word) × (b ≡ true → (open_in word ≡ true) × (sessions_in word + reserve < most))
let_in true most reserve word (Some why) h e = absurd (cc)
let_in false most reserve word (Some why) h e = absurd (cc)
let_in false most reserve word None h e = let same : h ≡ generation_in word = cc in (refl, same, λ is. absurd (cc))
let_in true most reserve word None h e =
    let it = go (open_in word) (nat_lt (sessions_in word + reserve) most) (nat_lt (sessions_in word) most) e in
    (refl, it.2, λ _. (it.0, ltb-true (sessions_in word + reserve) most it.1))
  where
    go : (o w l : Bool) → met_by most reserve word o w l ≡ Ok h → (o ≡ true) × (w ≡ true) × (h ≡ generation_in word)
    go true true l e = let same : h ≡ generation_in word = cc in (refl, refl, same)
    go true false true e = absurd (cc)
    go true false false e = absurd (cc)
    go false w l e = absurd (cc)

-- who is told of a notice met it
refused_by : (b : Bool) (most reserve word : ℕ) (q : Option Reason) (h : ℕ) (why : Reason)
    → answer_to b q word (session_answer most reserve word) ≡ Err (gate_no.Quit h why) → (q ≡ Some why) × (h ≡ generation_in word)
refused_by true most reserve word (Some why') h why e = let a : why' ≡ why = cc in let b : h ≡ generation_in word = cc in (ap Some a, b)
refused_by false most reserve word (Some why') h why e = let a : why' ≡ why = cc in let b : h ≡ generation_in word = cc in (ap Some a, b)
refused_by false most reserve word None h why e = absurd (cc)
refused_by true most reserve word None h why e =
    absurd (go (open_in word) (nat_lt (sessions_in word + reserve) most) (nat_lt (sessions_in word) most) e)
  where
    go : (o w l : Bool) → met_by most reserve word o w l ≡ Err (gate_no.Quit h why) → ⊥
    go true true l e = absurd (cc)
    go true false true e = absurd (cc)
    go true false false e = absurd (cc)
    go false w l e = absurd (cc)

-- who is told that the gate isn't open, or of a limit that is reached, is a session that met that, and no notice
not_ready : (b : Bool) (most reserve word : ℕ) (q : Option Reason) (h : ℕ)
    → answer_to b q word (session_answer most reserve word) ≡ Err (gate_no.NotReady h)
    → (q ≡ None) × (h ≡ generation_in word) × (b ≡ true) × (open_in word ≡ false)
not_ready true most reserve word (Some why) h e = absurd (cc)
not_ready false most reserve word (Some why) h e = absurd (cc)
not_ready false most reserve word None h e = absurd (cc)
not_ready true most reserve word None h e =
    let it = go (open_in word) (nat_lt (sessions_in word + reserve) most) (nat_lt (sessions_in word) most) e in (refl, it.1, refl, it.0)
  where
    go : (o w l : Bool) → met_by most reserve word o w l ≡ Err (gate_no.NotReady h) → (o ≡ false) × (h ≡ generation_in word)
    go true true l e = absurd (cc)
    go true false true e = absurd (cc)
    go true false false e = absurd (cc)
    go false w l e = let same : h ≡ generation_in word = cc in (refl, same)

too_many : (b : Bool) (most reserve word : ℕ) (q : Option Reason) (count : ℕ)
    → answer_to b q word (session_answer most reserve word) ≡ Err (gate_no.TooMany count)
    → (q ≡ None) × (most ≤ count) × (b ≡ true) × (open_in word ≡ true)
too_many true most reserve word (Some why) count e = absurd (cc)
too_many false most reserve word (Some why) count e = absurd (cc)
too_many false most reserve word None count e = absurd (cc)
too_many true most reserve word None count e =
    let it = go (open_in word) (nat_lt (sessions_in word + reserve) most) (nat_lt (sessions_in word) most) e in
    (refl, (let full : most ≤ sessions_in word = ltb-false (sessions_in word) most it.1 in let same : count ≡ sessions_in word = it.2 in omega arith), refl, it.0)
  where
    go : (o w l : Bool) → met_by most reserve word o w l ≡ Err (gate_no.TooMany count) → (o ≡ true) × (l ≡ false) × (count ≡ sessions_in word)
    go true true l e = absurd (cc)
    go true false true e = absurd (cc)
    go true false false e = let same : count ≡ sessions_in word = cc in (refl, refl, same)
    go false w l e = absurd (cc)

-- and who is told that the places which are left are reserved, met that
reserved_for : (b : Bool) (most reserve word : ℕ) (q : Option Reason) (count : ℕ)
    → answer_to b q word (session_answer most reserve word) ≡ Err (gate_no.Reserved count)
    → (q ≡ None) × (count < most) × (most ≤ count + reserve) × (b ≡ true) × (open_in word ≡ true)
reserved_for true most reserve word (Some why) count e = absurd (cc)
reserved_for false most reserve word (Some why) count e = absurd (cc)
reserved_for false most reserve word None count e = absurd (cc)
reserved_for true most reserve word None count e =
    let it = go (open_in word) (nat_lt (sessions_in word + reserve) most) (nat_lt (sessions_in word) most) e in
    let room : sessions_in word < most = ltb-true (sessions_in word) most it.2 in
    let full : most ≤ sessions_in word + reserve = ltb-false (sessions_in word + reserve) most it.1 in
    let same : count ≡ sessions_in word = it.3 in (refl, omega arith, omega arith, refl, it.0)
  where
    go : (o w l : Bool) → met_by most reserve word o w l ≡ Err (gate_no.Reserved count)
        → (o ≡ true) × (w ≡ false) × (l ≡ true) × (count ≡ sessions_in word)
    go true true l e = absurd (cc)
    go true false true e = let same : count ≡ sessions_in word = cc in (refl, refl, refl, same)
    go true false false e = absurd (cc)
    go false w l e = absurd (cc)

-- the places that are kept from a child are none, or those that are reserved
keeps_rightly : (is_ordinary : Bool) (limit : SessionLimit) → shared.IsReserve limit.reserved (reserve_by is_ordinary limit)
keeps_rightly true limit = inr refl
keeps_rightly false limit = inl refl

-- places are kept from an ordinary child alone
keeps_from : (is_ordinary : Bool) (limit : SessionLimit) (count : ℕ) → count < limit.most → limit.most ≤ count + reserve_by is_ordinary limit
    → (is_ordinary ≡ true) × (limit.most ≤ count + limit.reserved)
keeps_from true limit count room full = (refl, full)
keeps_from false limit count room full = let nothing : reserve_by false limit ≡ 0 = refl in absurd (omega arith)

-- a word answers what the gate does that it shows
answers : (kind : Kind) (is_ordinary : Bool) (limit : SessionLimit) (word : ℕ) (gate : Gate) (answer : Result ℕ GateNo)
    → generation_in word ≡ gate.generation → notice_in word ≡ gate.noticed → open_in word ≡ gate.is_open
    → gate_answer kind is_ordinary limit word ≡ answer → GateAnswers limit kind gate (attempt is_ordinary answer)
answers kind is_ordinary limit word gate (Ok h) of_generation of_notice of_open e = let may = let_in (is_session kind) limit.most (reserve_by is_ordinary limit) word (notice_in word) h e in
    (may.1 ∙ of_generation, sym of_notice ∙ may.0, λ is. sym of_open ∙ (may.2 is).0)
answers kind is_ordinary limit word gate (Err (gate_no.Quit h why)) of_generation of_notice of_open e = let met = refused_by (is_session kind) limit.most (reserve_by is_ordinary limit) word (notice_in word) h why e in
    (met.1 ∙ of_generation, sym of_notice ∙ met.0)
answers kind is_ordinary limit word gate (Err (gate_no.NotReady h)) of_generation of_notice of_open e = let met = not_ready (is_session kind) limit.most (reserve_by is_ordinary limit) word (notice_in word) h e in
    (met.1 ∙ of_generation, (sym of_notice ∙ met.0, met.2, sym of_open ∙ met.3))
answers kind is_ordinary limit word gate (Err (gate_no.TooMany count)) of_generation of_notice of_open e = let met = too_many (is_session kind) limit.most (reserve_by is_ordinary limit) word (notice_in word) count e in
    (met.1, (sym of_notice ∙ met.0, met.2, sym of_open ∙ met.3))
answers kind is_ordinary limit word gate (Err (gate_no.Reserved count)) of_generation of_notice of_open e = let met = reserved_for (is_session kind) limit.most (reserve_by is_ordinary limit) word (notice_in word) count e in
    let kept_from = keeps_from is_ordinary limit count met.1 met.2 in
    (kept_from.0, met.1, kept_from.1, (sym of_notice ∙ met.0, met.3, sym of_open ∙ met.4))

-- so no more sessions stay than the limit, and none at a gate that isn't open
few_of : (b : Bool) (S S' N met limit most : ℕ) (t : Bool) → S' ≡ S + bit t → S ≤ limit → S ≤ N → met ≡ N → most ≡ limit → (t ≡ true → met < most) → t ≡ b → S' ≤ limit
few_of true S S' N met limit most t grows under inside is lim room e = let l : met < most = room e in let z : bit t ≡ 1 = ap bit e in omega arith
few_of false S S' N met limit most t grows under inside is lim room e = let z : bit t ≡ 0 = ap bit e in omega arith

shut_of : (b : Bool) (S S' : ℕ) (t o is_open : Bool) → S' ≡ S + bit t → o ≡ is_open → (is_open ≡ false → S ≡ 0) → (t ≡ true → o ≡ true) → t ≡ b → is_open ≡ false → S' ≡ 0
shut_of true S S' t o is_open grows same shut opens e closed = let no_ : true ≡ false = sym (opens e) ∙ (same ∙ closed) in absurd (cc)
shut_of false S S' t o is_open grows same shut opens e closed = let z : S ≡ 0 = shut closed in let y : bit t ≡ 0 = ap bit e in omega arith

module _ {J D : Type 0} (letter : Letter.Ghosts J D) where
  module _ (limit : SessionLimit) where
    -- what the gate's word tells whoever meets it
    read : (s : St letter) (r : Kept letter limit s) → Reads (child_slots (length s.homes)) (get_or s.words (child_slots (length s.homes)) 0) (gate_of r.1) r.2
    read s r = reads limit (child_slots (length s.homes)) (get_or s.words (child_slots (length s.homes)) 0) (gate_of r.1) r.2 r.4 (λ k l. (r.3.each_slot k l).does)

    -- Whom the gate's word lets in, attaches in its own generation, and may do so in what the board shows
    pub lets_in : (s : St letter) (r : Kept letter limit s) (id k : ℕ) (w : PostView D) (o : Offer D) (is_ordinary : Bool) (h : ℕ) → get_elem? s.views id ≡ some (Worker k w) → w.work ≡ Active o → is_dead_end o.kind ≡ false
        → gate_answer o.kind is_ordinary w.notes.session_limit (get_or s.words (child_slots (length s.homes)) 0) ≡ Ok h → (h ≡ o.generation) × shared.Allows limit.most r.5.1 (shared.Attach o.pid (reserve_by is_ordinary limit))
        × ((master : ℕ) (d : RosterView D) → get_elem? s.views master ≡ some (Postmaster d) → (d.noticed ≡ None) × (d.generation ≡ h) × (is_session o.kind ≡ true → d.is_open ≡ true))
    lets_in s r id k w o is_ordinary h at does lives_ answer =
        let word : ℕ = get_or s.words (child_slots (length s.homes)) 0 in let mine = owned letter limit s r.0 r.1 r.2 r.3 id k w at in let it = read s r in
        let e = does_act (r.2 k).phase o (subst (Does (r.2 k).phase) does mine.1.does) in
        let lim : w.notes.session_limit ≡ limit = (subst (InGeneration limit r.1.generation) mine.2 (r.4.current k)).limit_is in
        let may = let_in (is_session o.kind) w.notes.session_limit.most (reserve_by is_ordinary w.notes.session_limit) word (notice_in word) h answer in
        let now_is : o.generation ≡ r.1.generation = (placed_as letter limit _ _ _ _ (running o true) e (r.3.each_child k mine.0)).0 in
        let N : ℕ = sum_below (child_slots (length s.homes)) (λ j. counted is_session r.1.generation (r.2 j).post) in
        let met : sessions_in word ≡ N = it.sessions_found ∙ it.sessions_is in
        let st = r.5 in let known = lives letter limit s r.0 r.1 r.2 r.3 st k mine.0 o true (Active o) e (ap (λ (z : PostView D). z.work) mine.2 ∙ does) in
        let attached_few : attached_sessions st.1.children ≤ sum_below (child_slots (length s.homes)) (λ j. attached is_session (r.2 j).post.work) = shown_attached (child_slots (length s.homes)) r.1 r.2 st.1 st.3 (λ j l. (r.3.each_slot j l).does) in
        let attached_in : sum_below (child_slots (length s.homes)) (λ j. attached is_session (r.2 j).post.work) ≤ N = sum_within (child_slots (length s.homes)) (λ j. attached is_session (r.2 j).post.work) (λ j. counted is_session r.1.generation (r.2 j).post)
        (λ j. let z : attached is_session (r.2 j).post.work ≤ at_gate is_session (r.2 j).post.work = attached_within is_session (r.2 j).post.work in let l : ℕ = lost is_session r.1.generation (r.2 j).post.past in omega arith) in (
          may.1 ∙ (it.generation_found ∙ sym now_is),
          subst (λ z. IsSomeAnd z (shared.MayAttach limit.most (reserve_by is_ordinary limit) st.1)) (sym known.0) (refl, lives_, st.3.noticed ∙ (sym it.notice_found ∙ may.0), λ is. let m = may.2 is in let room : sessions_in word + reserve_by is_ordinary limit < limit.most = subst (λ (z : SessionLimit). sessions_in word + reserve_by is_ordinary z < z.most) lim m.1 in (st.3.is_open ∙ (sym it.open_found ∙ m.0), omega arith)),
          λ master d has. let same = (r.3.each_seat master (Postmaster d) has).1 in
              (ap (λ (z : RosterView D). z.noticed) same ∙ (sym it.notice_found ∙ may.0), ap (λ (z : RosterView D). z.generation) same ∙ (sym it.generation_found ∙ sym may.1), λ is. ap (λ (z : RosterView D). z.is_open) same ∙ (sym it.open_found ∙ (may.2 is).0)),
        )

    -- a worker marks its slot as active
    pub marks : (n id k : ℕ) (o : Offer D) (notes : PostNotes) (past : List (PastChild D)) (c : List (ℕ × Option J))
        → Allows (Kept letter limit) n id (Worker k (post_view notes past (Inactive o)), c) k (λ x. (x + 8) % 2 ^ 64) (Marks (step n k 8 0 none) (Worker k (post_view notes past (Inactive o)), c))
    marks n id k o notes past c s r wide at _ = let w : PostView D = post_view notes past (Inactive o) in let w' : PostView D = post_view notes past (Active o) in let mine = owned letter limit s r.0 r.1 r.2 r.3 id k w at in let word : ℕ = get_or s.words k 0 in
        let past_is = ap (λ (z : PostView D). z.past) mine.2 in let e = does_run _ o mine.1.does in let ok = at_phase letter limit _ _ _ _ _ e mine.1 in let shows : word ≡ child_word 2 o (Code 0) false = ok.shows in let low : o.pid < 2147483648 = ok.fits in
        let room : child_word 2 o (Code 0) false + 65536 < 18446744073709551616 = packed_small _ (fits_for 2 o (Code 0) false (omega arith) low (omega arith)) in (
          Worker k w',
          keeps,
          tt,
          kept letter limit _ _ _ _ _ (worker_step letter s id k k ((word + 8) % 2 ^ 64) s.homes mine.0 refl refl (λ _ _. refl) r.0 r.1 r.2 r.3 w w' (running o true) at
              record { shows = grown word 8 (child_word 2 o (Code 0) true) (omega arith) (omega arith); fits = low; seen = ok.seen; does = (refl, refl); lists = ok.lists; there = ok.there; there_is = ok.there_is; mail = tt }
              (placed_as letter limit _ _ _ _ (running o false) e (r.3.each_child k mine.0))) refl
              (gate_moves limit _ k _ s.words (gate_of r.1) r.2 _ w mine.0 mine.2 (uncounted_by _ _ _ _ _ _ _ refl refl refl) (once_still _ (r.2 k) (running o true) _ w' (sym past_is) (λ P z. subst (OfLiving P) e z) (r.4.once k)) r.4)
              (quiet limit r.1 r.1 r.2 (child_slots (length s.homes)) k _ (running o false) (Inactive o) refl refl refl refl (λ _ z. z) mine.0 e (ap (λ (z : PostView D). z.work) mine.2) (sym (ap (λ (z : PostView D). z.notes.steps) mine.2)) (sym past_is) refl (λ _ z. z) r.5)
              (let l = latch_here _ _ _ _ _ (r.2 k) (running o false) w e mine.2 (r.6.each k mine.0) in let near : k < child_slots (length s.homes) = mine.0 in latches_still _ k k _ s.words r.1 _ r.2 _ (omega arith, omega arith) (ap (λ (z : PostView D). z.notes.cancels) (sym mine.2)) refl refl refl refl record { armed = l.armed; fits = l.fits; standing = l.standing; cancel_is = l.cancel_is; now = l.now; past = l.past; unreleased = l.unreleased; named = l.named; keyed = l.keyed; reaches = l.reaches; calls = l.calls } r.6) (seats_step id k s.views r.1 r.2 _ _ _ at (r.3.each_seat id _ at) r.7),
          λ o' is. let same : Inactive o ≡ Inactive o' = is in let oe : o ≡ o' = cc in λ i. (Worker k (post_view notes past (Active (oe i))), c),
        )

    -- and as no longer active
    pub unmarks : (n id k : ℕ) (o : Offer D) (notes : PostNotes) (past : List (PastChild D)) (c : List (ℕ × Option J))
        → Allows (Kept letter limit) n id (Worker k (post_view notes past (Active o)), c) k (λ x. (x + (2 ^ 64 - 8)) % 2 ^ 64) (Unmarks (step n k 8 0 none) (Worker k (post_view notes past (Active o)), c))
    unmarks n id k o notes past c s r wide at full = let w : PostView D = post_view notes past (Active o) in let w' : PostView D = post_view notes past (Inactive o) in let mine = owned letter limit s r.0 r.1 r.2 r.3 id k w at in let word : ℕ = get_or s.words k 0 in
        let past_is = ap (λ (z : PostView D). z.past) mine.2 in let e = does_act _ o mine.1.does in let ok = at_phase letter limit _ _ _ _ _ e mine.1 in let shows : word ≡ child_word 2 o (Code 0) true = ok.shows in (
          Worker k w',
          keeps,
          tt,
          kept letter limit _ _ _ _ _ (worker_step letter s id k k ((word + (2 ^ 64 - 8)) % 2 ^ 64) s.homes mine.0 refl refl (λ _ _. refl) r.0 r.1 r.2 r.3 w w' (running o false) at
              record { shows = less word 8 (child_word 2 o (Code 0) false) (omega arith) (omega arith) full; fits = ok.fits; seen = ok.seen; does = (refl, refl); lists = ok.lists; there = ok.there; there_is = ok.there_is; mail = tt }
              (placed_as letter limit _ _ _ _ (running o true) e (r.3.each_child k mine.0))) refl
              (gate_moves limit _ k _ s.words (gate_of r.1) r.2 _ w mine.0 mine.2 (uncounted_by _ _ _ _ _ _ _ refl refl refl) (once_still _ (r.2 k) (running o false) _ w' (sym past_is) (λ P z. subst (OfLiving P) e z) (r.4.once k)) r.4)
              (quiet limit r.1 r.1 r.2 (child_slots (length s.homes)) k _ (running o true) (Active o) refl refl refl refl (λ _ z. z) mine.0 e (ap (λ (z : PostView D). z.work) mine.2) (sym (ap (λ (z : PostView D). z.notes.steps) mine.2)) (sym past_is) refl (λ _ z. z) r.5)
              (let l = latch_here _ _ _ _ _ (r.2 k) (running o true) w e mine.2 (r.6.each k mine.0) in let near : k < child_slots (length s.homes) = mine.0 in latches_still _ k k _ s.words r.1 _ r.2 _ (omega arith, omega arith) (ap (λ (z : PostView D). z.notes.cancels) (sym mine.2)) refl refl refl refl record { armed = l.armed; fits = l.fits; standing = l.standing; cancel_is = l.cancel_is; now = l.now; past = l.past; unreleased = l.unreleased; named = l.named; keyed = l.keyed; reaches = l.reaches; calls = l.calls } r.6) (seats_step id k s.views r.1 r.2 _ _ _ at (r.3.each_seat id _ at) r.7),
          λ o' is. let same : Active o ≡ Active o' = is in let oe : o ≡ o' = cc in λ i. (Worker k (post_view notes past (Inactive (oe i))), c),
        )

    -- what a place at the gate adds to the counts
    module _ (s : St letter) (r : Kept letter limit s) (id k : ℕ) (o : Offer D) (w w' : PostView D) (near : k < child_slots (length s.homes)) (is : (r.2 k).post ≡ w) (same : w'.past ≡ w.past) where
      abbrev cell : Cell D
      cell = record { phase = running o true; seat = id; post = w' }

      -- the sum of a count that moves by so much
      moves : (F : PostView D → ℕ) → sum_below (child_slots (length s.homes)) (λ j. F (put r.2 k cell j).post) + F w ≡ sum_below (child_slots (length s.homes)) (λ j. F (r.2 j).post) + F w'
      moves F = count_moves F r.2 (child_slots (length s.homes)) k cell w near is

      counts : (test : Kind → Bool) (g : ℕ) (a : ℕ) → at_gate test w'.work ≡ at_gate test w.work + a → sum_below (child_slots (length s.homes)) (λ j. counted test g (put r.2 k cell j).post) ≡ sum_below (child_slots (length s.homes)) (λ j. counted test g (r.2 j).post) + a
      counts test g a e =
          let h : sum_below (child_slots (length s.homes)) (λ j. counted test g (put r.2 k cell j).post) + counted test g w ≡ sum_below (child_slots (length s.homes)) (λ j. counted test g (r.2 j).post) + counted test g w' = moves (counted test g) in
          let l : lost test g w'.past ≡ lost test g w.past = ap (lost test g) same in omega arith

      stays : (test : Kind → Bool) (g : ℕ) (a : ℕ) → attached test w'.work ≡ attached test w.work + a → sum_below (child_slots (length s.homes)) (λ j. staying test g (put r.2 k cell j).post) ≡ sum_below (child_slots (length s.homes)) (λ j. staying test g (r.2 j).post) + a
      stays test g a e =
          let h : sum_below (child_slots (length s.homes)) (λ j. staying test g (put r.2 k cell j).post) + staying test g w ≡ sum_below (child_slots (length s.homes)) (λ j. staying test g (r.2 j).post) + staying test g w' = moves (staying test g) in
          let l : lost test g w'.past ≡ lost test g w.past = ap (lost test g) same in omega arith

      -- the same where it goes down
      counts_less : (test : Kind → Bool) (g : ℕ) (a : ℕ) → at_gate test w.work ≡ at_gate test w'.work + a → sum_below (child_slots (length s.homes)) (λ j. counted test g (r.2 j).post) ≡ sum_below (child_slots (length s.homes)) (λ j. counted test g (put r.2 k cell j).post) + a
      counts_less test g a e =
          let h : sum_below (child_slots (length s.homes)) (λ j. counted test g (put r.2 k cell j).post) + counted test g w ≡ sum_below (child_slots (length s.homes)) (λ j. counted test g (r.2 j).post) + counted test g w' = moves (counted test g) in
          let l : lost test g w'.past ≡ lost test g w.past = ap (lost test g) same in omega arith

      stays_less : (test : Kind → Bool) (g : ℕ) → attached test w'.work ≤ attached test w.work → sum_below (child_slots (length s.homes)) (λ j. staying test g (put r.2 k cell j).post) ≤ sum_below (child_slots (length s.homes)) (λ j. staying test g (r.2 j).post)
      stays_less test g e =
          let h : sum_below (child_slots (length s.homes)) (λ j. staying test g (put r.2 k cell j).post) + staying test g w ≡ sum_below (child_slots (length s.homes)) (λ j. staying test g (r.2 j).post) + staying test g w' = moves (staying test g) in
          let l : lost test g w'.past ≡ lost test g w.past = ap (lost test g) same in omega arith

      -- the gate's part of the rule, with this word
      gate_so : (word : ℕ) → (r.2 k).phase ≡ running o true → w'.notes.session_limit ≡ w.notes.session_limit → IsCurrent r.1.generation w'.work
          → word ≡ gate_packed record { generation = r.1.generation; is_open = r.1.is_open; noticed = r.1.noticed; sessions = sum_below (child_slots (length s.homes)) (λ j. counted is_session r.1.generation (put r.2 k cell j).post); auxiliaries = sum_below (child_slots (length s.homes)) (λ j. counted is_auxiliary r.1.generation (put r.2 k cell j).post) }
          → sum_below (child_slots (length s.homes)) (λ j. staying is_session r.1.generation (put r.2 k cell j).post) ≤ limit.most
          → (r.1.is_open ≡ false → sum_below (child_slots (length s.homes)) (λ j. staying is_session r.1.generation (put r.2 k cell j).post) ≡ 0) → GateOk limit (child_slots (length s.homes)) word (gate_of r.1) (put r.2 k cell)
      gate_so word e lim now shows few shut = let ok = r.4 in let was = subst (InGeneration limit r.1.generation) is (ok.current k) in record {
        shows = shows;
        few = few;
        shut = shut;
        small = ok.small;
        first = ok.first;
        fits = ok.fits;
        current = λ j. at_put r.2 k cell (λ q x. InGeneration limit r.1.generation x.post) j record { now = now; before = subst (λ (z : List (PastChild D)). AllUpTo r.1.generation z) (sym same) was.before; limit_is = lim ∙ was.limit_is } (λ _. ok.current j);
        once = λ j. at_put r.2 k cell (λ q x. AuxiliaryOnce r.1.generation x) j
            (once_still r.1.generation (r.2 k) (running o true) id w' (same ∙ ap (λ (z : PostView D). z.past) (sym is)) (λ P z. subst (OfLiving P) e z) (ok.once k)) (λ _. ok.once j);
      }

    -- the gate's word with a place more
    with_place : (x s a b q g t u : ℕ) → x ≡ s + (4096 * a + (16777216 * b + (33554432 * q + 134217728 * g))) → s ≤ 607 → a ≤ 407 → b < 2 → q < 4 → g < 4294967296 → t < 2 → u < 2
        → (x + (t + 4096 * u)) % 2 ^ 64 ≡ s + t + (4096 * (a + u) + (16777216 * b + (33554432 * q + 134217728 * g)))
    with_place x s a b q g t u e ls la lb lq lg lt lu = grown x (t + 4096 * u) (s + t + (4096 * (a + u) + (16777216 * b + (33554432 * q + 134217728 * g)))) (omega arith) (omega arith)

    -- and with one less
    without_place : (x s a b q g t u : ℕ) → x ≡ s + t + (4096 * (a + u) + (16777216 * b + (33554432 * q + 134217728 * g))) → t < 2 → u < 2 → x < 18446744073709551616
        → (x + (2 ^ 64 - (t + 4096 * u))) % 2 ^ 64 ≡ s + (4096 * a + (16777216 * b + (33554432 * q + 134217728 * g)))
    without_place x s a b q g t u e lt lu h = less x (t + 4096 * u) (s + (4096 * a + (16777216 * b + (33554432 * q + 134217728 * g)))) (omega arith) (omega arith) h

    -- the gate's part where the child of the slot k takes a place
    takes_place : (s : St letter) (r : Kept letter limit s) (id k : ℕ) (o : Offer D) (w w' : PostView D) (near : k < child_slots (length s.homes)) (is : (r.2 k).post ≡ w) (same : w'.past ≡ w.past) → (r.2 k).phase ≡ running o true → is_dead_end o.kind ≡ false
        → w'.notes.session_limit ≡ w.notes.session_limit → ((test : Kind → Bool) → at_gate test w'.work ≡ at_gate test w.work + bit (test o.kind)) → IsCurrent r.1.generation w'.work
        → sum_below (child_slots (length s.homes)) (λ j. staying is_session r.1.generation (put r.2 k (cell s r id k o w w' near is same) j).post) ≤ limit.most
        → (r.1.is_open ≡ false → sum_below (child_slots (length s.homes)) (λ j. staying is_session r.1.generation (put r.2 k (cell s r id k o w w' near is same) j).post) ≡ 0)
        → GateOk limit (child_slots (length s.homes)) ((get_or s.words (child_slots (length s.homes)) 0 + place_of (is_session o.kind)) % 2 ^ 64) (gate_of r.1) (put r.2 k (cell s r id k o w w' near is same))
    takes_place s r id k o w w' near is same runs lives_ lim adds now few shut =
        let it = read s r in let g : ℕ = r.1.generation in let t : ℕ = bit (is_session o.kind) in let u : ℕ = bit (is_auxiliary o.kind) in
        let a = counts s r id k o w w' near is same is_session g t (adds is_session) in let b = counts s r id k o w w' near is same is_auxiliary g u (adds is_auxiliary) in
        let S : ℕ = sum_below (child_slots (length s.homes)) (λ j. counted is_session g (put r.2 k (cell s r id k o w w' near is same) j).post) in
        let A : ℕ = sum_below (child_slots (length s.homes)) (λ j. counted is_auxiliary g (put r.2 k (cell s r id k o w w' near is same) j).post) in
        let sa : it.sessions + t ≡ S = ap (λ (z : ℕ). z + t) it.sessions_is ∙ sym a in let sb : it.auxiliaries + u ≡ A = ap (λ (z : ℕ). z + u) it.auxiliaries_is ∙ sym b in
        let word = ap (λ (z : ℕ). (get_or s.words (child_slots (length s.homes)) 0 + z) % 2 ^ 64) (place_is o.kind lives_)
        ∙ with_place (get_or s.words (child_slots (length s.homes)) 0) it.sessions it.auxiliaries (bit r.1.is_open) (notice_bits r.1.noticed) g t u it.shows it.few_sessions it.few_auxiliaries (bit_small r.1.is_open) (notice_small r.1.noticed) r.4.fits (bit_small (is_session o.kind)) (bit_small (is_auxiliary o.kind)) in
        gate_so s r id k o w w' near is same ((get_or s.words (child_slots (length s.homes)) 0 + place_of (is_session o.kind)) % 2 ^ 64) runs lim now
        (word ∙ (λ i. gate_packed record { generation = g; is_open = r.1.is_open; noticed = r.1.noticed; sessions = sa i; auxiliaries = sb i })) few shut

    -- and where it gives it back
    gives_place : (s : St letter) (r : Kept letter limit s) (id k : ℕ) (o : Offer D) (w w' : PostView D) (near : k < child_slots (length s.homes)) (is : (r.2 k).post ≡ w) (same : w'.past ≡ w.past) → (r.2 k).phase ≡ running o true → is_dead_end o.kind ≡ false
        → w'.notes.session_limit ≡ w.notes.session_limit → ((test : Kind → Bool) → at_gate test w.work ≡ at_gate test w'.work + bit (test o.kind)) → attached is_session w'.work ≤ attached is_session w.work → IsCurrent r.1.generation w'.work
        → get_or s.words (child_slots (length s.homes)) 0 < 18446744073709551616
        → GateOk limit (child_slots (length s.homes)) ((get_or s.words (child_slots (length s.homes)) 0 + (2 ^ 64 - place_of (is_session o.kind))) % 2 ^ 64) (gate_of r.1) (put r.2 k (cell s r id k o w w' near is same))
    gives_place s r id k o w w' near is same runs lives_ lim takes fewer now full =
        let it = read s r in let g : ℕ = r.1.generation in let t : ℕ = bit (is_session o.kind) in let u : ℕ = bit (is_auxiliary o.kind) in
        let a = counts_less s r id k o w w' near is same is_session g t (takes is_session) in let b = counts_less s r id k o w w' near is same is_auxiliary g u (takes is_auxiliary) in
        let S : ℕ = sum_below (child_slots (length s.homes)) (λ j. counted is_session g (put r.2 k (cell s r id k o w w' near is same) j).post) in
        let A : ℕ = sum_below (child_slots (length s.homes)) (λ j. counted is_auxiliary g (put r.2 k (cell s r id k o w w' near is same) j).post) in
        let sa : it.sessions ≡ S + t = it.sessions_is ∙ a in let sb : it.auxiliaries ≡ A + u = it.auxiliaries_is ∙ b in
        let R : ℕ = 16777216 * bit r.1.is_open + (33554432 * notice_bits r.1.noticed + 134217728 * g) in
        let shows : get_or s.words (child_slots (length s.homes)) 0 ≡ S + t + (4096 * (A + u) + R) = it.shows ∙ (λ i. sa i + (4096 * sb i + R)) in
        let word = ap (λ (z : ℕ). (get_or s.words (child_slots (length s.homes)) 0 + (2 ^ 64 - z)) % 2 ^ 64) (place_is o.kind lives_)
        ∙ without_place (get_or s.words (child_slots (length s.homes)) 0) S A (bit r.1.is_open) (notice_bits r.1.noticed) g t u shows (bit_small (is_session o.kind)) (bit_small (is_auxiliary o.kind)) full in
        let less_ : sum_below (child_slots (length s.homes)) (λ j. staying is_session g (put r.2 k (cell s r id k o w w' near is same) j).post) ≤ sum_below (child_slots (length s.homes)) (λ j. staying is_session g (r.2 j).post) = stays_less s r id k o w w' near is same is_session g fewer in
        let few : sum_below (child_slots (length s.homes)) (λ j. staying is_session g (r.2 j).post) ≤ limit.most = r.4.few in
        gate_so s r id k o w w' near is same ((get_or s.words (child_slots (length s.homes)) 0 + (2 ^ 64 - place_of (is_session o.kind))) % 2 ^ 64) runs lim now word (omega arith)
        (λ shut. let z : sum_below (child_slots (length s.homes)) (λ j. staying is_session g (r.2 j).post) ≡ 0 = r.4.shut shut in omega arith)

    -- what a step at the gate owes
    abbrev Goes : (s : St letter) (id n : ℕ) (me : Seated J D) (f : ℕ → ℕ) (tells : ℕ → Seated J D → Type 0) → Type 0
    Goes s id n me f tells = (v : View D) × (a : Act (Option J)) × Valid s.homes me.1 a × Kept letter limit (stepped s n (f (get_or s.words n 0)) id me.1 v a) × tells (get_or s.words n 0) (v, carried_after me.1 a)

    -- a worker's child tries at the gate
    tries_here : (is_ordinary : Bool) (s : St letter) (r : Kept letter limit s) (id k : ℕ) (o : Offer D) (notes : PostNotes) (past : List (PastChild D)) (c : List (ℕ × Option J)) → is_dead_end o.kind ≡ false → get_elem? s.views id ≡ some (Worker k (post_view notes past (Active o)))
        → (b : Result ℕ GateNo) → gate_answer o.kind is_ordinary notes.session_limit (get_or s.words (child_slots (length s.homes)) 0) ≡ b
        → Goes s id (child_slots (length s.homes)) (Worker k (post_view notes past (Active o)), c) (λ x. (x + place_of (is_session o.kind)) % 2 ^ 64) (Tries is_ordinary (step (length s.homes) (child_slots (length s.homes)) (place_of (is_session o.kind)) 0 none) (Worker k (post_view notes past (Active o)), c))
    tries_here is_ordinary s r id k o notes past c lives_ at (Ok h) answer =
        let w : PostView D = post_view notes past (Active o) in let word : ℕ = get_or s.words (child_slots (length s.homes)) 0 in let w' : PostView D = tried_by w o word (attempt is_ordinary (Ok h)) in let mine = owned letter limit s r.0 r.1 r.2 r.3 id k w at in
        let it = read s r in let e = does_act _ o mine.1.does in let ok = at_phase letter limit _ _ _ _ _ e mine.1 in let lim : notes.session_limit ≡ limit = (subst (InGeneration limit r.1.generation) mine.2 (r.4.current k)).limit_is in
        let may = let_in (is_session o.kind) notes.session_limit.most (reserve_by is_ordinary notes.session_limit) word (notice_in word) h answer in
        let now_is : o.generation ≡ r.1.generation = (placed_as letter limit _ _ _ _ (running o true) e (r.3.each_child k mine.0)).0 in
        let S : ℕ = sum_below (child_slots (length s.homes)) (λ j. staying is_session r.1.generation (r.2 j).post) in let N : ℕ = sum_below (child_slots (length s.homes)) (λ j. counted is_session r.1.generation (r.2 j).post) in
        let inside : S ≤ N = sum_within (child_slots (length s.homes)) (λ j. staying is_session r.1.generation (r.2 j).post) (λ j. counted is_session r.1.generation (r.2 j).post)
        (λ j. let z : attached is_session (r.2 j).post.work ≤ at_gate is_session (r.2 j).post.work = attached_within is_session (r.2 j).post.work in let l : ℕ = lost is_session r.1.generation (r.2 j).post.past in omega arith) in
        let met : sessions_in word ≡ N = it.sessions_found ∙ it.sessions_is in
        let S' : ℕ = sum_below (child_slots (length s.homes)) (λ j. staying is_session r.1.generation (put r.2 k (cell s r id k o w w' mine.0 mine.2 refl) j).post) in
        let grows : S' ≡ S + bit (is_session o.kind) = stays s r id k o w w' mine.0 mine.2 refl is_session r.1.generation (bit (is_session o.kind)) (sym (zero-add (bit (is_session o.kind)))) in
        let under : S ≤ limit.most = r.4.few in
        let few : (b : Bool) → is_session o.kind ≡ b → S' ≤ limit.most = (λ b. few_of b S S' N (sessions_in word) limit.most notes.session_limit.most (is_session o.kind) grows under inside met (ap (λ (z : SessionLimit). z.most) lim) (λ is. let m = (may.2 is).1 in omega arith)) in
        let shut : (b : Bool) → is_session o.kind ≡ b → r.1.is_open ≡ false → S' ≡ 0 = (λ b. shut_of b S S' (is_session o.kind) (open_in word) r.1.is_open grows it.open_found r.4.shut (λ is. (may.2 is).0)) in
        let st = r.5 in let known = lives letter limit s r.0 r.1 r.2 r.3 st k mine.0 o true (Active o) e (ap (λ (z : PostView D). z.work) mine.2) in
        let attached_few : attached_sessions st.1.children ≤ sum_below (child_slots (length s.homes)) (λ j. attached is_session (r.2 j).post.work) = shown_attached (child_slots (length s.homes)) r.1 r.2 st.1 st.3 (λ j l. (r.3.each_slot j l).does) in
        let attached_in : sum_below (child_slots (length s.homes)) (λ j. attached is_session (r.2 j).post.work) ≤ N = sum_within (child_slots (length s.homes)) (λ j. attached is_session (r.2 j).post.work) (λ j. counted is_session r.1.generation (r.2 j).post)
        (λ j. let z : attached is_session (r.2 j).post.work ≤ at_gate is_session (r.2 j).post.work = attached_within is_session (r.2 j).post.work in let l : ℕ = lost is_session r.1.generation (r.2 j).post.past in omega arith) in
        let shown : IsAssignedBy r.1.notes.steps o → AnsweredBefore (doings r.1.notes.steps notes.session_limit) o (attempt is_ordinary (Ok h)) =
        (λ there. answered_now notes.session_limit r.1.notes.steps o (gate_of r.1) (attempt is_ordinary (Ok h)) r.5.4.leave there (sym now_is) (answers o.kind is_ordinary notes.session_limit word (gate_of r.1) (Ok h) it.generation_found it.notice_found it.open_found answer)) in (
          Worker k w',
          keeps,
          tt,
          kept letter limit _ _ _ _ _ (word_step letter s id k (child_slots (length s.homes)) ((word + place_of (is_session o.kind)) % 2 ^ 64) r.0 r.1 r.2 r.3 mine.0 (omega arith) w w' (running o true) at
              record { shows = ok.shows; fits = ok.fits; seen = ok.seen; does = (refl, refl); lists = ok.lists; there = ok.there; there_is = ok.there_is; mail = tt }
              (placed_as letter limit _ _ _ _ (running o true) e (r.3.each_child k mine.0))) refl
              (subst (λ (z : ℕ). GateOk limit (child_slots (length s.homes)) z (gate_of r.1) (put r.2 k (cell s r id k o w w' mine.0 mine.2 refl))) (sym (get_or-set_same s.words (child_slots (length s.homes)) ((word + place_of (is_session o.kind)) % 2 ^ 64) 0 (let wide : length s.words ≡ 3 * child_slots (length s.homes) + 1 = r.3.wide in omega arith)))
              (takes_place s r id k o w w' mine.0 mine.2 refl e lives_ refl (λ test. sym (zero-add (bit (test o.kind)))) (may.1 ∙ it.generation_found, lives_) (few (is_session o.kind) refl) (shut (is_session o.kind) refl)))
              (passes letter limit s r.0 r.1 r.2 r.3 st k mine.0 o true (Active o) (cell s r id k o w w' mine.0 mine.2 refl) (shared.Attach o.pid (reserve_by is_ordinary notes.session_limit)) (post_step.Attach o.pid (reserve_by is_ordinary notes.session_limit)) e (ap (λ (z : PostView D). z.work) mine.2) refl refl
              (subst (λ z. IsSomeAnd z (shared.MayAttach limit.most (reserve_by is_ordinary notes.session_limit) st.1)) (sym known.0) (refl, lives_, st.3.noticed ∙ (sym it.notice_found ∙ may.0), λ is. let m = may.2 is in let room : sessions_in word + reserve_by is_ordinary notes.session_limit < notes.session_limit.most = m.1 in let most : notes.session_limit.most ≡ limit.most = ap (λ (z : SessionLimit). z.most) lim in (st.3.is_open ∙ (sym it.open_found ∙ m.0), omega arith)))
              (subst (λ (z : SessionLimit). shared.IsReserve z.reserved (reserve_by is_ordinary notes.session_limit)) lim (keeps_rightly is_ordinary notes.session_limit))
              refl refl refl refl (ap (λ z. z ++ post_step.Attach o.pid (reserve_by is_ordinary notes.session_limit) ∷ []) (sym (ap (λ (z : PostView D). z.notes.steps) mine.2))) (sym (ap (λ (z : PostView D). z.past) mine.2)))
              (let l = latch_here _ _ _ _ _ (r.2 k) (running o true) w e mine.2 (r.6.each k mine.0) in let near : k < child_slots (length s.homes) = mine.0 in latches_still _ k (child_slots (length s.homes)) _ s.words r.1 _ r.2 _ (omega arith, omega arith) (ap (λ (z : PostView D). z.notes.cancels) (sym mine.2)) refl refl refl refl record { armed = l.armed; fits = l.fits; standing = l.standing; cancel_is = l.cancel_is; now = hears_met notes.session_limit _ _ _ o notes.now (attempt is_ordinary (Ok h)) l.now (shown l.unreleased); past = l.past; unreleased = l.unreleased; named = l.named; keyed = l.keyed; reaches = l.reaches; calls = l.calls } r.6) (seats_step id k s.views r.1 r.2 _ _ _ at (r.3.each_seat id _ at) r.7),
          λ o' does. let both : Active o ≡ Active o' = does in let oe : o ≡ o' = cc in
              ((ap (λ (b : Result ℕ GateNo). (Worker k (tried_by w o word (attempt is_ordinary b)), c)) (sym answer) ∙ (λ i. (Worker k (tried w (oe i) is_ordinary word), c))), subst (λ (z : ℕ). z < 4294967296) (sym it.generation_found) r.4.fits, it.generation_found ∙ (sym now_is ∙ ap (λ (z : Offer D). z.generation) oe)),
        )
    tries_here is_ordinary s r id k o notes past c lives_ at (Err refusal) answer =
        let w : PostView D = post_view notes past (Active o) in let word : ℕ = get_or s.words (child_slots (length s.homes)) 0 in let w' : PostView D = tried_by w o word (attempt is_ordinary (Err refusal)) in let mine = owned letter limit s r.0 r.1 r.2 r.3 id k w at in
        let it = read s r in let e = does_act _ o mine.1.does in let ok = at_phase letter limit _ _ _ _ _ e mine.1 in
        let S : ℕ = sum_below (child_slots (length s.homes)) (λ j. staying is_session r.1.generation (r.2 j).post) in let under : S ≤ limit.most = r.4.few in
        let S' : ℕ = sum_below (child_slots (length s.homes)) (λ j. staying is_session r.1.generation (put r.2 k (cell s r id k o w w' mine.0 mine.2 refl) j).post) in
        let grows : S' ≡ S + 0 = stays s r id k o w w' mine.0 mine.2 refl is_session r.1.generation 0 refl in
        let now_is : o.generation ≡ r.1.generation = (placed_as letter limit _ _ _ _ (running o true) e (r.3.each_child k mine.0)).0 in
        let shown : IsAssignedBy r.1.notes.steps o → AnsweredBefore (doings r.1.notes.steps notes.session_limit) o (attempt is_ordinary (Err refusal)) =
        (λ there. answered_now notes.session_limit r.1.notes.steps o (gate_of r.1) (attempt is_ordinary (Err refusal)) r.5.4.leave there (sym now_is) (answers o.kind is_ordinary notes.session_limit word (gate_of r.1) (Err refusal) it.generation_found it.notice_found it.open_found answer)) in (
          Worker k w',
          keeps,
          tt,
          kept letter limit _ _ _ _ _ (word_step letter s id k (child_slots (length s.homes)) ((word + place_of (is_session o.kind)) % 2 ^ 64) r.0 r.1 r.2 r.3 mine.0 (omega arith) w w' (running o true) at
              record { shows = ok.shows; fits = ok.fits; seen = ok.seen; does = (refl, refl); lists = ok.lists; there = ok.there; there_is = ok.there_is; mail = tt }
              (placed_as letter limit _ _ _ _ (running o true) e (r.3.each_child k mine.0))) refl
              (subst (λ (z : ℕ). GateOk limit (child_slots (length s.homes)) z (gate_of r.1) (put r.2 k (cell s r id k o w w' mine.0 mine.2 refl))) (sym (get_or-set_same s.words (child_slots (length s.homes)) ((word + place_of (is_session o.kind)) % 2 ^ 64) 0 (let wide : length s.words ≡ 3 * child_slots (length s.homes) + 1 = r.3.wide in omega arith)))
              (takes_place s r id k o w w' mine.0 mine.2 refl e lives_ refl (λ test. sym (zero-add (bit (test o.kind)))) (it.generation_found, lives_) (omega arith) (λ shut. let z : S ≡ 0 = r.4.shut shut in omega arith)))
              (quiet limit r.1 r.1 r.2 (child_slots (length s.homes)) k (cell s r id k o w w' mine.0 mine.2 refl) (running o true) (Active o) refl refl refl refl (λ _ z. z) mine.0 e (ap (λ (z : PostView D). z.work) mine.2) (sym (ap (λ (z : PostView D). z.notes.steps) mine.2)) (sym (ap (λ (z : PostView D). z.past) mine.2)) refl (λ _ z. z) r.5)
              (let l = latch_here _ _ _ _ _ (r.2 k) (running o true) w e mine.2 (r.6.each k mine.0) in let near : k < child_slots (length s.homes) = mine.0 in latches_still _ k (child_slots (length s.homes)) _ s.words r.1 _ r.2 _ (omega arith, omega arith) (ap (λ (z : PostView D). z.notes.cancels) (sym mine.2)) refl refl refl refl record { armed = l.armed; fits = l.fits; standing = l.standing; cancel_is = l.cancel_is; now = hears_met notes.session_limit _ _ _ o notes.now (attempt is_ordinary (Err refusal)) l.now (shown l.unreleased); past = l.past; unreleased = l.unreleased; named = l.named; keyed = l.keyed; reaches = l.reaches; calls = l.calls } r.6) (seats_step id k s.views r.1 r.2 _ _ _ at (r.3.each_seat id _ at) r.7),
          λ o' does. let both : Active o ≡ Active o' = does in let oe : o ≡ o' = cc in
              ((ap (λ (b : Result ℕ GateNo). (Worker k (tried_by w o word (attempt is_ordinary b)), c)) (sym answer) ∙ (λ i. (Worker k (tried w (oe i) is_ordinary word), c))), subst (λ (z : ℕ). z < 4294967296) (sym it.generation_found) r.4.fits, it.generation_found ∙ (sym now_is ∙ ap (λ (z : Offer D). z.generation) oe)),
        )

    pub tries : (is_ordinary : Bool) (n id k : ℕ) (o : Offer D) (notes : PostNotes) (past : List (PastChild D)) (c : List (ℕ × Option J)) → is_dead_end o.kind ≡ false
        → Allows (Kept letter limit) n id (Worker k (post_view notes past (Active o)), c) (child_slots n) (λ x. (x + place_of (is_session o.kind)) % 2 ^ 64) (Tries is_ordinary (step n (child_slots n) (place_of (is_session o.kind)) 0 none) (Worker k (post_view notes past (Active o)), c))
    tries is_ordinary n id k o notes past c lives_ s r wide at _ =
        subst (λ (m : ℕ). Goes s id (child_slots m) (Worker k (post_view notes past (Active o)), c) (λ x. (x + place_of (is_session o.kind)) % 2 ^ 64) (Tries is_ordinary (step m (child_slots m) (place_of (is_session o.kind)) 0 none) (Worker k (post_view notes past (Active o)), c))) wide
        (tries_here is_ordinary s r id k o notes past c lives_ at (gate_answer o.kind is_ordinary notes.session_limit (get_or s.words (child_slots (length s.homes)) 0)) refl)

    -- a refused child gives its place back
    back_here : (s : St letter) (r : Kept letter limit s) (id k : ℕ) (o : Offer D) (g : ℕ) (notes : PostNotes) (past : List (PastChild D)) (c : List (ℕ × Option J)) → get_elem? s.views id ≡ some (Worker k (post_view notes past (Refused o g))) → get_or s.words (child_slots (length s.homes)) 0 < 18446744073709551616
        → Goes s id (child_slots (length s.homes)) (Worker k (post_view notes past (Refused o g)), c) (λ x. (x + (2 ^ 64 - place_of (is_session o.kind))) % 2 ^ 64) (BacksOut (step (length s.homes) (child_slots (length s.homes)) (place_of (is_session o.kind)) 0 none) (Worker k (post_view notes past (Refused o g)), c))
    back_here s r id k o g notes past c at full =
        let w : PostView D = post_view notes past (Refused o g) in let w' : PostView D = post_view notes past (Active o) in let word : ℕ = get_or s.words (child_slots (length s.homes)) 0 in let mine = owned letter limit s r.0 r.1 r.2 r.3 id k w at in
        let e = does_back _ o g mine.1.does in let ok = at_phase letter limit _ _ _ _ _ e mine.1 in let lives_ = (subst (InGeneration limit r.1.generation) mine.2 (r.4.current k)).now.1 in (
          Worker k w',
          keeps,
          tt,
          kept letter limit _ _ _ _ _ (word_step letter s id k (child_slots (length s.homes)) ((word + (2 ^ 64 - place_of (is_session o.kind))) % 2 ^ 64) r.0 r.1 r.2 r.3 mine.0 (omega arith) w w' (running o true) at
              record { shows = ok.shows; fits = ok.fits; seen = ok.seen; does = (refl, refl); lists = ok.lists; there = ok.there; there_is = ok.there_is; mail = tt }
              (placed_as letter limit _ _ _ _ (running o true) e (r.3.each_child k mine.0))) refl
              (subst (λ (z : ℕ). GateOk limit (child_slots (length s.homes)) z (gate_of r.1) (put r.2 k (cell s r id k o w w' mine.0 mine.2 refl))) (sym (get_or-set_same s.words (child_slots (length s.homes)) ((word + (2 ^ 64 - place_of (is_session o.kind))) % 2 ^ 64) 0 (let wide : length s.words ≡ 3 * child_slots (length s.homes) + 1 = r.3.wide in omega arith)))
              (gives_place s r id k o w w' mine.0 mine.2 refl e lives_ refl (λ test. sym (zero-add (bit (test o.kind)))) (omega arith) tt full))
              (quiet limit r.1 r.1 r.2 (child_slots (length s.homes)) k (cell s r id k o w w' mine.0 mine.2 refl) (running o true) (Refused o g) refl refl refl refl (λ _ z. z) mine.0 e (ap (λ (z : PostView D). z.work) mine.2) (sym (ap (λ (z : PostView D). z.notes.steps) mine.2)) (sym (ap (λ (z : PostView D). z.past) mine.2)) refl (λ _ z. z) r.5)
              (let l = latch_here _ _ _ _ _ (r.2 k) (running o true) w e mine.2 (r.6.each k mine.0) in let near : k < child_slots (length s.homes) = mine.0 in latches_still _ k (child_slots (length s.homes)) _ s.words r.1 _ r.2 _ (omega arith, omega arith) (ap (λ (z : PostView D). z.notes.cancels) (sym mine.2)) refl refl refl refl record { armed = l.armed; fits = l.fits; standing = l.standing; cancel_is = l.cancel_is; now = l.now; past = l.past; unreleased = l.unreleased; named = l.named; keyed = l.keyed; reaches = l.reaches; calls = l.calls } r.6) (seats_step id k s.views r.1 r.2 _ _ _ at (r.3.each_seat id _ at) r.7),
          λ o' g' does. let both : Refused o g ≡ Refused o' g' = does in let oe : o ≡ o' = cc in λ i. (Worker k (post_view notes past (Active (oe i))), c),
        )

    pub backs_out : (n id k : ℕ) (o : Offer D) (g : ℕ) (notes : PostNotes) (past : List (PastChild D)) (c : List (ℕ × Option J))
        → Allows (Kept letter limit) n id (Worker k (post_view notes past (Refused o g)), c) (child_slots n) (λ x. (x + (2 ^ 64 - place_of (is_session o.kind))) % 2 ^ 64) (BacksOut (step n (child_slots n) (place_of (is_session o.kind)) 0 none) (Worker k (post_view notes past (Refused o g)), c))
    backs_out n id k o g notes past c s r wide at full =
        subst (λ (m : ℕ). Goes s id (child_slots m) (Worker k (post_view notes past (Refused o g)), c) (λ x. (x + (2 ^ 64 - place_of (is_session o.kind))) % 2 ^ 64) (BacksOut (step m (child_slots m) (place_of (is_session o.kind)) 0 none) (Worker k (post_view notes past (Refused o g)), c))) wide
        (back_here s r id k o g notes past c at (subst (λ (m : ℕ). get_or s.words m 0 < 18446744073709551616) (ap child_slots (sym wide)) full))

    -- an attached child gives its place back
    detach_here : (s : St letter) (r : Kept letter limit s) (id k : ℕ) (o : Offer D) (g : ℕ) (notes : PostNotes) (past : List (PastChild D)) (c : List (ℕ × Option J)) → get_elem? s.views id ≡ some (Worker k (post_view notes past (Attached o g))) → get_or s.words (child_slots (length s.homes)) 0 < 18446744073709551616
        → Goes s id (child_slots (length s.homes)) (Worker k (post_view notes past (Attached o g)), c) (λ x. (x + (2 ^ 64 - place_of (is_session o.kind))) % 2 ^ 64) (Detaches (step (length s.homes) (child_slots (length s.homes)) (place_of (is_session o.kind)) 0 none) (Worker k (post_view notes past (Attached o g)), c))
    detach_here s r id k o g notes past c at full =
        let w : PostView D = post_view notes past (Attached o g) in let w' : PostView D = detached w o in let word : ℕ = get_or s.words (child_slots (length s.homes)) 0 in let mine = owned letter limit s r.0 r.1 r.2 r.3 id k w at in
        let e = does_stay _ o g mine.1.does in let ok = at_phase letter limit _ _ _ _ _ e mine.1 in let lives_ = (subst (InGeneration limit r.1.generation) mine.2 (r.4.current k)).now.1 in
        let known = lives letter limit s r.0 r.1 r.2 r.3 r.5 k mine.0 o true (Attached o g) e (ap (λ (z : PostView D). z.work) mine.2) in (
          Worker k w',
          keeps,
          tt,
          kept letter limit _ _ _ _ _ (word_step letter s id k (child_slots (length s.homes)) ((word + (2 ^ 64 - place_of (is_session o.kind))) % 2 ^ 64) r.0 r.1 r.2 r.3 mine.0 (omega arith) w w' (running o true) at
              record { shows = ok.shows; fits = ok.fits; seen = ok.seen; does = (refl, refl); lists = ok.lists; there = ok.there; there_is = ok.there_is; mail = tt }
              (placed_as letter limit _ _ _ _ (running o true) e (r.3.each_child k mine.0))) refl
              (subst (λ (z : ℕ). GateOk limit (child_slots (length s.homes)) z (gate_of r.1) (put r.2 k (cell s r id k o w w' mine.0 mine.2 refl))) (sym (get_or-set_same s.words (child_slots (length s.homes)) ((word + (2 ^ 64 - place_of (is_session o.kind))) % 2 ^ 64) 0 (let wide : length s.words ≡ 3 * child_slots (length s.homes) + 1 = r.3.wide in omega arith)))
              (gives_place s r id k o w w' mine.0 mine.2 refl e lives_ refl (λ test. sym (zero-add (bit (test o.kind)))) (omega arith) tt full))
              (passes letter limit s r.0 r.1 r.2 r.3 r.5 k mine.0 o false (Attached o g) (cell s r id k o w w' mine.0 mine.2 refl) (shared.Detach o.pid) (post_step.Detach o.pid) e (ap (λ (z : PostView D). z.work) mine.2) refl refl
              (subst (λ z. IsSomeAnd z (λ (x : Child). x.attached ≡ true)) (sym known.0) refl) tt
              refl refl refl refl (ap (λ z. z ++ post_step.Detach o.pid ∷ []) (sym (ap (λ (z : PostView D). z.notes.steps) mine.2))) (sym (ap (λ (z : PostView D). z.past) mine.2)))
              (let l = latch_here _ _ _ _ _ (r.2 k) (running o true) w e mine.2 (r.6.each k mine.0) in let near : k < child_slots (length s.homes) = mine.0 in latches_still _ k (child_slots (length s.homes)) _ s.words r.1 _ r.2 _ (omega arith, omega arith) (ap (λ (z : PostView D). z.notes.cancels) (sym mine.2)) refl refl refl refl record { armed = l.armed; fits = l.fits; standing = l.standing; cancel_is = l.cancel_is; now = l.now; past = l.past; unreleased = l.unreleased; named = l.named; keyed = l.keyed; reaches = l.reaches; calls = l.calls } r.6) (seats_step id k s.views r.1 r.2 _ _ _ at (r.3.each_seat id _ at) r.7),
          λ o' g' does. let both : Attached o g ≡ Attached o' g' = does in let oe : o ≡ o' = cc in λ i. (Worker k (detached w (oe i)), c),
        )

    pub detaches : (n id k : ℕ) (o : Offer D) (g : ℕ) (notes : PostNotes) (past : List (PastChild D)) (c : List (ℕ × Option J))
        → Allows (Kept letter limit) n id (Worker k (post_view notes past (Attached o g)), c) (child_slots n) (λ x. (x + (2 ^ 64 - place_of (is_session o.kind))) % 2 ^ 64) (Detaches (step n (child_slots n) (place_of (is_session o.kind)) 0 none) (Worker k (post_view notes past (Attached o g)), c))
    detaches n id k o g notes past c s r wide at full =
        subst (λ (m : ℕ). Goes s id (child_slots m) (Worker k (post_view notes past (Attached o g)), c) (λ x. (x + (2 ^ 64 - place_of (is_session o.kind))) % 2 ^ 64) (Detaches (step m (child_slots m) (place_of (is_session o.kind)) 0 none) (Worker k (post_view notes past (Attached o g)), c))) wide
        (detach_here s r id k o g notes past c at (subst (λ (m : ℕ). get_or s.words m 0 < 18446744073709551616) (ap child_slots (sym wide)) full))

module _ {D : Type 0} where
  -- no slot is used where none is counted
  none_used : (xs : List (SlotView D)) → used_in xs ≡ 0 → (k : ℕ) → is_used (get_or xs k (slot_view [] Unused)).sight ≡ false
  none_used [] e k = refl
  none_used (x ∷ xs) e zero = unused_is (is_used x.sight) (let h : bit (is_used x.sight) + used_in xs ≡ 0 = e in omega arith)
    where
      unused_is : (b : Bool) → bit b ≡ 0 → b ≡ false
      unused_is true z = absurd (omega arith)
      unused_is false z = refl
  none_used (x ∷ xs) e (suc k) = none_used xs (let h : bit (is_used x.sight) + used_in xs ≡ 0 = e in omega arith) k

  -- such a slot's worker does nothing, and no child is left in it
  pub is_idle : (ph : Phase D) (past : List (PastChild D)) (x : Sight D) (v : Work D) → is_used x ≡ false → Seen ph past x → Does ph v → (v ≡ Idle) × (living ph ≡ 0) × ((P : Offer D → Type 0) → OfChild P ph)
  is_idle unused past x v free seen does = (does, refl, λ _. tt)
  is_idle (opened q) past x v free seen does = (does, refl, λ _. tt)
  is_idle gathered past x v free seen does = (does, refl, λ _. tt)
  is_idle (offered o) past x v free seen does = let no_ : true ≡ false = ap is_used (sym seen) ∙ free in absurd (cc)
  is_idle (running o a) past x v free seen does = let no_ : true ≡ false = ap is_used (sym seen) ∙ free in absurd (cc)
  is_idle (collected o st a) past x v free seen does = let no_ : true ≡ false = ap is_used (sym seen) ∙ free in absurd (cc)
  is_idle (ended o st a b) past Unused v free seen does = absurd seen
  is_idle (ended o st a b) past (Opened r) v free seen does = absurd seen
  is_idle (ended o st a b) past (Assigned p) v free seen does = absurd (cc)
  is_idle (ended o st a b) past (Exited p t c) v free seen does = absurd (cc)
  is_idle (ended o st a b) past (Collected p t c) v free seen does = absurd seen
  is_idle (ended o st a b) past (Gathered xs notes) v free seen does = absurd seen

  of_living : (P : Offer D → Type 0) (ph : Phase D) → ((o : Offer D) → P o) → OfLiving P ph
  of_living P (offered o) all = all o
  of_living P (running o a) all = all o
  of_living P unused all = tt
  of_living P (opened q) all = tt
  of_living P (ended o st a b) all = tt
  of_living P (collected o st a) all = tt
  of_living P gathered all = tt

-- a startup child is in the first slot
startup_first : (n k : ℕ) (kind : Kind) → SlotServes n k kind → is_startup_child kind ≡ true → k ≡ 0
startup_first n k kind.Startup serves is = serves
startup_first n k kind.Checkpointer serves is = absurd (cc)
startup_first n k kind.Writer serves is = absurd (cc)
startup_first n k kind.Worker serves is = absurd (cc)
startup_first n k kind.Backend serves is = absurd (cc)
startup_first n k kind.DeadEnd serves is = absurd (cc)

-- notices

quit_up : (q : Option Reason) (why : Reason) → MayQuit q why → notice_bits q ≤ notice_bits (Some why)
quit_up None why may = omega arith
quit_up (Some reason.Crash) reason.Crash may = omega arith
quit_up (Some reason.Crash) reason.Stop may = omega arith
quit_up (Some reason.Stop) reason.Crash may = let no_ : reason.Crash ≡ reason.Stop = may refl in absurd (cc)
quit_up (Some reason.Stop) reason.Stop may = omega arith

same_quit : (q : Option Reason) (a b : Reason) → MayQuit q a → MayQuit q b → quit_step q a ≡ quit_step q b → a ≡ b
same_quit q reason.Crash reason.Crash x y e = refl
same_quit q reason.Stop reason.Stop x y e = refl
same_quit None reason.Crash reason.Stop x y e = absurd (omega arith)
same_quit None reason.Stop reason.Crash x y e = absurd (omega arith)
same_quit (Some reason.Crash) reason.Crash reason.Stop x y e = absurd (omega arith)
same_quit (Some reason.Crash) reason.Stop reason.Crash x y e = absurd (omega arith)
same_quit (Some reason.Stop) reason.Crash reason.Stop x y e = let no_ : reason.Crash ≡ reason.Stop = x refl in absurd (cc)
same_quit (Some reason.Stop) reason.Stop reason.Crash x y e = let no_ : reason.Crash ≡ reason.Stop = y refl in absurd (cc)

quit_word : (x s a b q q' g : ℕ) → x ≡ s + (4096 * a + (16777216 * b + (33554432 * q + 134217728 * g))) → s ≤ 607 → a ≤ 407 → b < 2 → q ≤ q' → q' < 4 → g < 4294967296
    → (x + 33554432 * (q' - q)) % 2 ^ 64 ≡ s + (4096 * a + (16777216 * b + (33554432 * q' + 134217728 * g)))
quit_word x s a b q q' g e ls la lb up lq lg = let d : ℕ = q' - q in let dd : q + d ≡ q' = omega arith in grown x (33554432 * d) (s + (4096 * a + (16777216 * b + (33554432 * q' + 134217728 * g)))) (omega arith) (omega arith)

ready_word : (n : Option Reason) (x s a g : ℕ) → x ≡ s + (4096 * a + (16777216 * 0 + (33554432 * notice_bits n + 134217728 * g))) → s ≤ 607 → a ≤ 407 → g < 4294967296 → x < 18446744073709551616
    → (x + ready_step n) % 2 ^ 64 ≡ s + (4096 * a + (16777216 * 1 + (33554432 * 0 + 134217728 * g)))
ready_word None x s a g e ls la lg h = grown x 16777216 (s + (4096 * a + (16777216 * 1 + (33554432 * 0 + 134217728 * g)))) (omega arith) (omega arith)
ready_word (Some reason.Crash) x s a g e ls la lg h = less x 16777216 (s + (4096 * a + (16777216 * 1 + (33554432 * 0 + 134217728 * g)))) (omega arith) (omega arith) h
ready_word (Some reason.Stop) x s a g e ls la lg h = less x 83886080 (s + (4096 * a + (16777216 * 1 + (33554432 * 0 + 134217728 * g)))) (omega arith) (omega arith) h

module _ {J D : Type 0} (letter : Letter.Ghosts J D) (limit : SessionLimit) where
  -- the supervisor gives notice
  quit_here : (s : St letter) (r : Kept letter limit s) (id : ℕ) (d : RosterView D) (why : Reason) → MayQuit d.noticed why → get_elem? s.views id ≡ some (Postmaster d)
      → Goes letter limit s id (child_slots (length s.homes)) (Postmaster d, []) (λ x. (x + quit_step d.noticed why) % 2 ^ 64) (Quits (step (length s.homes) (child_slots (length s.homes)) (quit_step d.noticed why) 0 none) (Postmaster d, []))
  quit_here s r id d why may at =
      let h = rebased letter s r.0 id d r.1 r.2 r.3 at in let both = same_history letter limit s r.0 id d r.1 r.2 r.3 at r.4 r.5 r.6 r.7 in let n : ℕ = child_slots (length s.homes) in let word : ℕ = get_or s.words n 0 in
      let it = reads limit n word (gate_of d) r.2 both.0 (λ k l. (h.each_slot k l).does) in let t : RosterStep = roster_step.Quit why d.generation in
      let shows = quit_word word it.sessions it.auxiliaries (bit d.is_open) (notice_bits d.noticed) (notice_bits (Some why)) d.generation it.shows it.few_sessions it.few_auxiliaries (bit_small d.is_open) (quit_up d.noticed why may) (notice_small (Some why)) both.0.fits
      ∙ (λ i. gate_packed record { generation = d.generation; is_open = d.is_open; noticed = Some why; sessions = it.sessions_is i; auxiliaries = it.auxiliaries_is i }) in (
        Postmaster (after_step d t),
        keeps,
        tt,
        kept letter limit _ _ _ _ _ (word_turn letter s id (child_slots (length s.homes)) ((word + quit_step d.noticed why) % 2 ^ 64) d r.2 t (omega arith) h h.each_child) refl
            (subst (λ (z : ℕ). GateOk limit n z (gate_of (after_step d t)) r.2) (sym (get_or-set_same s.words n ((word + quit_step d.noticed why) % 2 ^ 64) 0 (let wide : length s.words ≡ 3 * child_slots (length s.homes) + 1 = h.wide in omega arith)))
            record { shows = shows; few = both.0.few; shut = both.0.shut; small = both.0.small; first = both.0.first; fits = both.0.fits; current = both.0.current; once = both.0.once })
            (quit_history limit n d r.2 why both.1)
            (latches_turn n n _ s.words d _ r.2 t (omega arith) refl refl (λ pid. quit_is_no_release pid d.generation why) (λ _ _. refl) (λ why' is. let it' : why ≡ why' = cc in subst (λ (z : Reason). Contains (d.notes.steps ++ t ∷ []) (roster_step.Quit z d.generation)) it' (at_last d.notes.steps t)) both.2) (seats_still id s.views d _ r.2 at refl refl both.3),
        λ why' may' same. ap (λ (z : Reason). (Postmaster (after_step d (roster_step.Quit z d.generation)), [])) (same_quit d.noticed why why' may may' same),
      )

  pub quits : (n id : ℕ) (d : RosterView D) (why : Reason) → MayQuit d.noticed why → Allows (Kept letter limit) n id (Postmaster d, []) (child_slots n) (λ x. (x + quit_step d.noticed why) % 2 ^ 64) (Quits (step n (child_slots n) (quit_step d.noticed why) 0 none) (Postmaster d, []))
  quits n id d why may s r wide at _ =
      subst (λ (m : ℕ). Goes letter limit s id (child_slots m) (Postmaster d, []) (λ x. (x + quit_step d.noticed why) % 2 ^ 64) (Quits (step m (child_slots m) (quit_step d.noticed why) 0 none) (Postmaster d, []))) wide (quit_here s r id d why may at)

  -- the supervisor opens the gate
  ready_here : (s : St letter) (r : Kept letter limit s) (id : ℕ) (d : RosterView D) → d.is_open ≡ false → ((o : Offer D) → (slot_at d 0).sight ≡ Assigned o → is_startup_child o.kind ≡ false) → get_elem? s.views id ≡ some (Postmaster d) → get_or s.words (child_slots (length s.homes)) 0 < 18446744073709551616
      → Goes letter limit s id (child_slots (length s.homes)) (Postmaster d, []) (λ x. (x + ready_step d.noticed) % 2 ^ 64) (Readies (step (length s.homes) (child_slots (length s.homes)) (ready_step d.noticed) 0 none) (Postmaster d, []))
  ready_here s r id d closed startups at full =
      let h = rebased letter s r.0 id d r.1 r.2 r.3 at in let both = same_history letter limit s r.0 id d r.1 r.2 r.3 at r.4 r.5 r.6 r.7 in let n : ℕ = child_slots (length s.homes) in let word : ℕ = get_or s.words n 0 in
      let it = reads limit n word (gate_of d) r.2 both.0 (λ k l. (h.each_slot k l).does) in let t : RosterStep = roster_step.Ready d.generation in
      let was : word ≡ it.sessions + (4096 * it.auxiliaries + (16777216 * 0 + (33554432 * notice_bits d.noticed + 134217728 * d.generation))) = it.shows ∙ ap (λ (b : Bool). it.sessions + (4096 * it.auxiliaries + (16777216 * bit b + (33554432 * notice_bits d.noticed + 134217728 * d.generation)))) closed in
      let shows = ready_word d.noticed word it.sessions it.auxiliaries d.generation was it.few_sessions it.few_auxiliaries both.0.fits full
      ∙ (λ i. gate_packed record { generation = d.generation; is_open = true; noticed = None; sessions = it.sessions_is i; auxiliaries = it.auxiliaries_is i }) in
      let S : ℕ = sum_below n (λ k. staying is_session d.generation (r.2 k).post) in let none_stays : S ≡ 0 = both.0.shut closed in
      let A : ℕ = sum_below n (λ k. attached is_session (r.2 k).post.work) in
      let within : A ≤ S = sum_within n (λ k. attached is_session (r.2 k).post.work) (λ k. staying is_session d.generation (r.2 k).post) (λ k. let l : ℕ = lost is_session d.generation (r.2 k).post.past in omega arith) in
      let no_startup : (k : ℕ) (o : Offer D) → k < n → IsPlaced n d.generation k o → (slot_at d k).sight ≡ Assigned o → is_startup_child o.kind ≡ false =
      (λ k o l placed sight. is_false (is_startup_child o.kind) (λ is. let e : k ≡ 0 = startup_first n k o.kind placed.1 is in let no_ : true ≡ false = sym is ∙ startups o (ap (λ (z : ℕ). (slot_at d z).sight) (sym e) ∙ sight) in absurd (cc))) in (
        Postmaster (after_step d t),
        keeps,
        tt,
        kept letter limit _ _ _ _ _ (word_turn letter s id (child_slots (length s.homes)) ((word + ready_step d.noticed) % 2 ^ 64) d r.2 t (omega arith) h h.each_child) refl
            (subst (λ (z : ℕ). GateOk limit n z (gate_of (after_step d t)) r.2) (sym (get_or-set_same s.words n ((word + ready_step d.noticed) % 2 ^ 64) 0 (let wide : length s.words ≡ 3 * child_slots (length s.homes) + 1 = h.wide in omega arith)))
            record { shows = shows; few = both.0.few; shut = (λ e. absurd (cc)); small = both.0.small; first = both.0.first; fits = both.0.fits; current = both.0.current; once = both.0.once })
            (ready_history limit n d r.2 both.1 closed (λ k l. (h.each_slot k l).does) (omega arith)
            (λ k o l is. no_startup k o l (subst (OfChild (IsPlaced n d.generation k)) is (h.each_child k l)) (subst (λ (z : Phase D). Seen z (slot_at d k).past (slot_at d k).sight) is (h.each_slot k l).seen))
            (λ k o a l is. no_startup k o l (subst (OfChild (IsPlaced n d.generation k)) is (h.each_child k l)) (subst (λ (z : Phase D). Seen z (slot_at d k).past (slot_at d k).sight) is (h.each_slot k l).seen)))
            (latches_turn n n _ s.words d _ r.2 t (omega arith) refl refl (λ pid. ready_is_no_release pid d.generation) (λ _ _. refl) (λ why is. absurd (cc)) both.2) (seats_still id s.views d _ r.2 at refl refl both.3),
        refl,
      )

  pub readies : (n id : ℕ) (d : RosterView D) → d.is_open ≡ false → ((o : Offer D) → (slot_at d 0).sight ≡ Assigned o → is_startup_child o.kind ≡ false) → Allows (Kept letter limit) n id (Postmaster d, []) (child_slots n) (λ x. (x + ready_step d.noticed) % 2 ^ 64) (Readies (step n (child_slots n) (ready_step d.noticed) 0 none) (Postmaster d, []))
  readies n id d closed startups s r wide at full =
      subst (λ (m : ℕ). Goes letter limit s id (child_slots m) (Postmaster d, []) (λ x. (x + ready_step d.noticed) % 2 ^ 64) (Readies (step m (child_slots m) (ready_step d.noticed) 0 none) (Postmaster d, []))) wide
      (ready_here s r id d closed startups at (subst (λ (m : ℕ). get_or s.words m 0 < 18446744073709551616) (ap child_slots (sym wide)) full))

  -- where no slot is used, no worker does anything
  pub all_idle : (s : St letter) (m : ℕ) (d : RosterView D) (cells : ℕ → Cell D) → Holds letter m d cells s → used_in d.slots ≡ 0 → (k : ℕ) → (cells k).post.work ≡ Idle
  all_idle s m d cells h free k = dite (dec_le (k + 1) (child_slots (length s.homes)))
      (λ l. let was = h.each_slot k (omega arith) in (is_idle (cells k).phase (slot_at d k).past (slot_at d k).sight (cells k).post.work (none_used d.slots free k) was.seen was.does).0)
      (λ no. let dealt : d.dealt ≤ child_slots (length s.homes) = h.some_posts in ap (λ (w : PostView D). w.work) (h.new_posts k (omega arith)))

  -- the supervisor begins a generation
  reset_here : (s : St letter) (r : Kept letter limit s) (id : ℕ) (d : RosterView D) → used_in d.slots ≡ 0 → d.generation + 1 < 4294967296 → get_elem? s.views id ≡ some (Postmaster d)
      → Goes letter limit s id (child_slots (length s.homes)) (Postmaster d, []) (λ _. new_gate (d.generation + 1)) (λ _. Resets (step (length s.homes) (child_slots (length s.homes)) (new_gate (d.generation + 1)) 0 none) (Postmaster d, []) (new_gate (d.generation + 1)))
  reset_here s r id d free big at =
      let h = rebased letter s r.0 id d r.1 r.2 r.3 at in let both = same_history letter limit s r.0 id d r.1 r.2 r.3 at r.4 r.5 r.6 r.7 in let n : ℕ = child_slots (length s.homes) in let g : ℕ = d.generation in let t : RosterStep = roster_step.Reset (g + 1) in
      let idle = all_idle s id d r.2 h free in
      let gone : (k : ℕ) → k < n → (living (r.2 k).phase ≡ 0) × ((P : Offer D → Type 0) → OfChild P (r.2 k).phase) =
      (λ k l. let was = h.each_slot k l in let it = is_idle (r.2 k).phase (slot_at d k).past (slot_at d k).sight (r.2 k).post.work (none_used d.slots free k) was.seen was.does in (it.1, it.2)) in
      let lost_none : (test : Kind → Bool) (k : ℕ) → lost test (g + 1) (r.2 k).post.past ≡ 0 = (λ test k. none_lost test g (r.2 k).post.past (both.0.current k).before) in
      let counted_none : (test : Kind → Bool) → sum_below n (λ k. counted test (g + 1) (r.2 k).post) ≡ 0 = (λ test. sum_zero n (λ k. counted test (g + 1) (r.2 k).post)
      (λ k l. let a : at_gate test (r.2 k).post.work ≡ 0 = ap (at_gate test) (idle k) in let b : lost test (g + 1) (r.2 k).post.past ≡ 0 = lost_none test k in omega arith)) in
      let staying_none : sum_below n (λ k. staying is_session (g + 1) (r.2 k).post) ≡ 0 = sum_zero n (λ k. staying is_session (g + 1) (r.2 k).post)
      (λ k l. let a : attached is_session (r.2 k).post.work ≡ 0 = ap (attached is_session) (idle k) in let b : lost is_session (g + 1) (r.2 k).post.past ≡ 0 = lost_none is_session k in omega arith) in
      let plain_word : new_gate (g + 1) ≡ 0 + (4096 * 0 + (16777216 * 0 + (33554432 * 0 + 134217728 * (g + 1)))) = omega arith in
      let shows = plain_word ∙ (λ i. gate_packed record { generation = g + 1; is_open = false; noticed = None; sessions = sym (counted_none is_session) i; auxiliaries = sym (counted_none is_auxiliary) i }) in (
        Postmaster (after_step d t),
        keeps,
        tt,
        kept letter limit _ _ _ _ _ (word_turn letter s id (child_slots (length s.homes)) (new_gate (g + 1)) d r.2 t (omega arith) h (λ k l. (gone k l).1 (IsPlaced n (g + 1) k))) refl
            (subst (λ (z : ℕ). GateOk limit n z (gate_of (after_step d t)) r.2) (sym (get_or-set_same s.words n (new_gate (g + 1)) 0 (let wide : length s.words ≡ 3 * child_slots (length s.homes) + 1 = h.wide in omega arith)))
            record {
              shows = shows;
              few = (omega arith);
              shut = (λ _. staying_none);
              small = both.0.small;
              first = (omega arith);
              fits = big;
              current = (λ k. record { now = subst (IsCurrent (g + 1)) (sym (idle k)) tt; before = up_to_more g (r.2 k).post.past (both.0.current k).before; limit_is = (both.0.current k).limit_is });
              once = (λ k. record { at_most = (let z : lost is_auxiliary (g + 1) (r.2 k).post.past ≡ 0 = lost_none is_auxiliary k in omega arith); none_before = of_living (λ o. is_auxiliary o.kind ≡ true → lost is_auxiliary (g + 1) (r.2 k).post.past ≡ 0) (r.2 k).phase (λ _ _. lost_none is_auxiliary k) });
            })
            (reset_history limit n d r.2 (λ k l. (gone k l).0) both.1)
            (latches_turn n n _ s.words d _ r.2 t (omega arith) refl refl (λ pid. reset_is_no_release pid (g + 1)) (λ _ _. refl) (λ why is. absurd (cc)) both.2) (seats_still id s.views d _ r.2 at refl refl both.3),
        refl,
      )

  pub resets : (n id : ℕ) (d : RosterView D) → used_in d.slots ≡ 0 → d.generation + 1 < 4294967296 → Allows (Kept letter limit) n id (Postmaster d, []) (child_slots n) (λ _. new_gate (d.generation + 1)) (λ _. Resets (step n (child_slots n) (new_gate (d.generation + 1)) 0 none) (Postmaster d, []) (new_gate (d.generation + 1)))
  resets n id d free big s r wide at _ =
      subst (λ (m : ℕ). Goes letter limit s id (child_slots m) (Postmaster d, []) (λ _. new_gate (d.generation + 1)) (λ _. Resets (step m (child_slots m) (new_gate (d.generation + 1)) 0 none) (Postmaster d, []) (new_gate (d.generation + 1)))) wide (reset_here s r id d free big at)
