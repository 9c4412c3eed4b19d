-- Each step at a latch or at the cancels of a slot keeps the rule.
use Rattle.std.{proofs.{Common.{◌≡◌, ◌≢◌, ℕ, zero, suc, ◌+◌, ◌*◌, ◌/◌, ◌^◌, ◌<◌, ◌≤◌, ◌==◌, ◌⊎◌, inl, inr, ⊎_elim, max, List, [], ◌∷◌, ◌++◌, length, get_or, set, sym, refl, ap, ◌∙◌, subst, arith, length-set, append-nil, get_or-set_other, get_or-set_same, eq-eqb, ne_eqb}, lemmas.{List.{append_cancel_left, Elements.Contains-append_left}, Nat.{or_shr, Bits.{bit_at_or, bit_at-pow_same, bit_at-pow_other, bit_at-lt, bit_at_cat_low, bit_at-zero, and_high_mask}}}, Math.Bool.or-true}, specs.{Int.{Bits.or_zero_r, bit_at}, Prelude.{Bool, true, false, ◌&&◌, ◌||◌, eqb, is_some, Option, Some, None, bit_or, bit_and}, List.AllByRecursion}}
use lib.ListN.{get_elem?}
use lib.Seq.{set-get_or}
use mathlib.Core.Logic.{dite}
use mathlib.Core.Option.{none, some}
use native.Mathlib.Decide.{ℕ_discrete, dec_le}
use prog.Atomic.{either}
use Rattle.atomic_table.{specs.Table.{step, Act, keeps, takes, Valid, stepped, carried_after, Allows}, proofs.Lists.{set_here, set_else, exchanged}}
use Rattle.pm_facts.specs.{Lists.each_more, Numbers.sum_below}
use Rattle.pm_supervisor.specs.pm_exit.declared.child.Kind.{Kind}
use Rattle.pm_keys.specs.CancelKey.{cancel_key}
use Rattle.pm_supervisor.specs.declared.Reason.TheVariants as reason
use Rattle.pm_child_life.specs.declared.life.Signals.{Signals}
use Rattle.pm_board_words.specs.{declared.views.{SessionLimit.SessionLimit, Cancel.Cancel, Heard.Heard, Offer.Offer, PastChild.PastChild, PostNotes.PostNotes, RosterStep.{RosterStep, TheVariants.Send}, RosterView.RosterView, Sight.TheVariants.{Unused, Opened, Assigned, Gathered}, Signal.Signal, SlotView.SlotView, Work.{Work, TheVariants.{Idle, Sees, Inactive, Active, Refused, Attached}}, PostView.PostView, View.{View, TheVariants.{Postmaster, Worker}}}, Words.{bit, flag}, Latch.{latch_place, cancel_place, signal_number, latch_pid, armed_word, stands, quit_of, signals_at, is_crash, is_stop, is_given}}
use Rattle.pm_board.{specs.{Slots.{child_slots, is_slot}, Places.{slot_view, slot_at}, Gate.{GateOk, gate_of}, Latches.{times_made_on, made_on, CallsIn, LatchesOf, is_send, is_heard, times_sent, times_given, times_heard, Reaches, ReachesIn, OfUnreleased, doings, HeardRightly, HearsRightly, ArmedFor, OfRunning, EachHeard, HeardBy, beside, waiting, times_told, times_made, WereMade, LatchOk, latch_at, cancel_at, Latches}, Rule.{Phase, unused, opened, offered, running, ended, collected, gathered, Seen, Does, unreleased, Cell, put, at_put, used_pid}, Seats.is_gathered, History.Kept, Told.{Seated, past_child, with_slot, with_sight, with_notes, child_in, after_step, answered, noted_take, noted_heed, noted_latch_look, noted_cancel, Arms, Sends, Takes, Heeds, LooksAtLatch, Cancels}}, proofs.{BoardLaws.sent-append, Bits.bit_small, Counts.count_moves, Moves.{rebased, word_step, word_turn, slot_turn, St}, Gates.{uncounted, uncounted_notes, gate_moves, once_still}, Latches.{no_release, assigned-append, send_is_no_release, sends_nothing, sent_to_other, unreleased_all, unreleased_both, latch_here, heard-more, hears-more, running_map, each-map, cancels_stay, cancelled_more, latches_moved, latches_word, recount, count_same}, Seats.{seats_step, seats_turn, seats_still}, Histories.{kept, same_history, quiet, send_history, others_unsent}, Keeps.{at_phase, owned, see_unused, pids_drop, does_run, does_act, does_back, does_stay}}}
use Rattle.pm_board_words.specs.declared.views.Letter as Letter
use Rattle.pm_board_words.specs.declared.views.Signal.TheVariants as signal

-- one signal of a word

pow_low : (b : ℕ) → b < 5 → 2 ^ b / 32 ≡ 0
pow_low zero l = omega arith
pow_low (suc zero) l = omega arith
pow_low (suc (suc zero)) l = omega arith
pow_low (suc (suc (suc zero))) l = omega arith
pow_low (suc (suc (suc (suc zero)))) l = omega arith
pow_low (suc (suc (suc (suc (suc b))))) l = absurd (omega arith)

-- a signal that is sent leaves the pid
pub pid_stays : (word b : ℕ) → b < 5 → latch_pid (bit_or word (2 ^ b)) ≡ latch_pid word
pid_stays word b l = or_shr word (2 ^ b) 5 ∙ (ap (λ (z : ℕ). bit_or (word / 32) z) (pow_low b l) ∙ or_zero_r (word / 32))

-- and lets its own bit stand
bits_after : (word b number : ℕ) → bit_at (bit_or word (2 ^ b)) number ≤ bit_at word number + bit (b == number)
bits_after word b number = let e : bit_at (bit_or word (2 ^ b)) number ≡ max (bit_at word number) (bit_at (2 ^ b) number) = bit_at_or word (2 ^ b) number in dite (ℕ_discrete b number)
    (λ is. let one : bit (b == number) ≡ 1 = ap bit (eq-eqb b number is) in let low : bit_at (2 ^ b) number < 2 = bit_at-lt (2 ^ b) number in let low' : bit_at word number < 2 = bit_at-lt word number in omega arith)
    (λ ne. let z : bit_at (2 ^ b) number ≡ 0 = bit_at-pow_other b number (λ same. ne (sym same)) in omega arith)

-- what stood stays, and its own bit stands
bits_stay : (word b number : ℕ) → bit_at word number ≤ bit_at (bit_or word (2 ^ b)) number × bit (b == number) ≤ bit_at (bit_or word (2 ^ b)) number
bits_stay word b number = let e : bit_at (bit_or word (2 ^ b)) number ≡ max (bit_at word number) (bit_at (2 ^ b) number) = bit_at_or word (2 ^ b) number in dite (ℕ_discrete b number)
    (λ is. let one : bit (b == number) ≡ 1 = ap bit (eq-eqb b number is) in let own : bit_at (2 ^ b) number ≡ 1 = subst (λ (z : ℕ). bit_at (2 ^ b) z ≡ 1) is (bit_at-pow_same b) in (omega arith, omega arith))
    (λ ne. let none_ : bit (b == number) ≡ 0 = ap bit (ne_eqb b number ne) in (omega arith, omega arith))

-- the word whose signals are cleared
module _ (word : ℕ) (small : word < 18446744073709551616) where
  cleared : bit_and word 18446744073709551584 ≡ word / 32 * 32
  cleared = and_high_mask 64 5 (omega arith) word small

  pub cleared_pid : latch_pid (bit_and word 18446744073709551584) ≡ latch_pid word
  cleared_pid = let e : bit_and word 18446744073709551584 ≡ word / 32 * 32 = cleared in omega arith

  pub cleared_bits : (number : ℕ) → number < 5 → bit_at (bit_and word 18446744073709551584) number ≡ 0
  cleared_bits number l = ap (λ (w : ℕ). bit_at w number) (cleared ∙ (let f : word / 32 * 32 ≡ word / 32 * 2 ^ 5 + 0 = omega arith in f)) ∙ (bit_at_cat_low (word / 32) 5 0 number l ∙ bit_at-zero number)

pub armed_pid : (pid : ℕ) → latch_pid (armed_word pid) ≡ pid
armed_pid pid = omega arith

pub armed_bits : (pid number : ℕ) → number < 5 → bit_at (armed_word pid) number ≡ 0
armed_bits pid number l = ap (λ (w : ℕ). bit_at w number) (let f : 32 * pid ≡ pid * 2 ^ 5 + 0 = omega arith in f) ∙ (bit_at_cat_low pid 5 0 number l ∙ bit_at-zero number)

bit_flag : (n : ℕ) → bit (flag n) ≤ n
bit_flag zero = omega arith
bit_flag (suc n) = omega arith

crash_of : (s c : Bool) → bit (is_crash (quit_of s c)) ≤ bit c
crash_of true true = omega arith
crash_of true false = omega arith
crash_of false true = omega arith
crash_of false false = omega arith

stop_of : (s c : Bool) → bit (is_stop (quit_of s c)) ≤ bit s
stop_of true c = omega arith
stop_of false true = omega arith
stop_of false false = omega arith

-- what is given stood in the word
given_stands : (word : ℕ) (b : Bool) (number : ℕ) → number < 5 → bit (is_given number (signals_at word b)) ≤ bit_at word number
given_stands word b zero l = let x : bit (is_crash (quit_of (stands (signal.Quit reason.Stop) word) (stands (signal.Quit reason.Crash) word))) ≤ bit (stands (signal.Quit reason.Crash) word) = crash_of (stands (signal.Quit reason.Stop) word) (stands (signal.Quit reason.Crash) word) in
    let y : bit (stands (signal.Quit reason.Crash) word) ≤ bit_at word 0 = bit_flag (bit_at word 0) in omega arith
given_stands word b (suc zero) l = let x : bit (is_stop (quit_of (stands (signal.Quit reason.Stop) word) (stands (signal.Quit reason.Crash) word))) ≤ bit (stands (signal.Quit reason.Stop) word) = stop_of (stands (signal.Quit reason.Stop) word) (stands (signal.Quit reason.Crash) word) in
    let y : bit (stands (signal.Quit reason.Stop) word) ≤ bit_at word 1 = bit_flag (bit_at word 1) in omega arith
given_stands word b (suc (suc zero)) l = bit_flag (bit_at word 2)
given_stands word b (suc (suc (suc zero))) l = bit_flag (bit_at word 3)
given_stands word b (suc (suc (suc (suc zero)))) l = bit_flag (bit_at word 4)
given_stands word b (suc (suc (suc (suc (suc n))))) l = absurd (omega arith)

-- what stood in the word is told of
flag_whole : (n : ℕ) → n < 2 → n ≤ bit (flag n)
flag_whole zero l = omega arith
flag_whole (suc n) l = omega arith

crash_told : (s c : Bool) → bit c ≤ bit (is_some (quit_of s c))
crash_told true true = omega arith
crash_told true false = omega arith
crash_told false true = omega arith
crash_told false false = omega arith

stop_told : (s c : Bool) → bit s ≤ bit (is_stop (quit_of s c))
stop_told true c = omega arith
stop_told false true = omega arith
stop_told false false = omega arith

stood_heard : (word : ℕ) (b : Bool) (number : ℕ) → number < 5 → bit_at word number ≤ bit (is_heard number (signals_at word b))
stood_heard word b zero l = let x : bit (stands (signal.Quit reason.Crash) word) ≤ bit (is_some (quit_of (stands (signal.Quit reason.Stop) word) (stands (signal.Quit reason.Crash) word))) = crash_told (stands (signal.Quit reason.Stop) word) (stands (signal.Quit reason.Crash) word) in
    let y : bit_at word 0 ≤ bit (stands (signal.Quit reason.Crash) word) = flag_whole (bit_at word 0) (bit_at-lt word 0) in omega arith
stood_heard word b (suc zero) l = let x : bit (stands (signal.Quit reason.Stop) word) ≤ bit (is_stop (quit_of (stands (signal.Quit reason.Stop) word) (stands (signal.Quit reason.Crash) word))) = stop_told (stands (signal.Quit reason.Stop) word) (stands (signal.Quit reason.Crash) word) in
    let y : bit_at word 1 ≤ bit (stands (signal.Quit reason.Stop) word) = flag_whole (bit_at word 1) (bit_at-lt word 1) in omega arith
stood_heard word b (suc (suc zero)) l = flag_whole (bit_at word 2) (bit_at-lt word 2)
stood_heard word b (suc (suc (suc zero))) l = flag_whole (bit_at word 3) (bit_at-lt word 3)
stood_heard word b (suc (suc (suc (suc zero)))) l = flag_whole (bit_at word 4) (bit_at-lt word 4)
stood_heard word b (suc (suc (suc (suc (suc n))))) l = absurd (omega arith)

heard-append : (number : ℕ) (xs : List Signals) (s : Signals) → times_heard number (xs ++ s ∷ []) ≡ times_heard number xs + bit (is_heard number s)
heard-append number [] s = omega arith
heard-append number (x ∷ xs) s = let h : times_heard number (xs ++ s ∷ []) ≡ times_heard number xs + bit (is_heard number s) = heard-append number xs s in omega arith

-- a child that takes what stands is told of it
reaches_taken : (steps : List RosterStep) (latch pid : ℕ) (h : Heard) → Reaches steps latch pid h.given → Reaches steps (bit_and latch 18446744073709551584) pid (h.given ++ signals_at latch h.heeded ∷ [])
reaches_taken steps latch pid h r number small sent = let s : Signals = signals_at latch h.heeded in let was : 0 < bit_at latch number + times_heard number h.given = r number small sent in
    let all : times_heard number (h.given ++ s ∷ []) ≡ times_heard number h.given + bit (is_heard number s) = heard-append number h.given s in
    let stood : bit_at latch number ≤ bit (is_heard number s) = stood_heard latch h.heeded number small in omega arith

none_given : (number : ℕ) (s : Signals) → 5 ≤ number → bit (is_given number s) ≡ 0
none_given zero s l = absurd (omega arith)
none_given (suc zero) s l = absurd (omega arith)
none_given (suc (suc zero)) s l = absurd (omega arith)
none_given (suc (suc (suc zero))) s l = absurd (omega arith)
none_given (suc (suc (suc (suc zero)))) s l = absurd (omega arith)
none_given (suc (suc (suc (suc (suc n))))) s l = refl

given-append : (number : ℕ) (xs : List Signals) (s : Signals) → times_given number (xs ++ s ∷ []) ≡ times_given number xs + bit (is_given number s)
given-append number [] s = omega arith
given-append number (x ∷ xs) s = let h : times_given number (xs ++ s ∷ []) ≡ times_given number xs + bit (is_given number s) = given-append number xs s in omega arith

pub number_small : (s : Signal) → signal_number s < 5
number_small (signal.Quit reason.Crash) = omega arith
number_small (signal.Quit reason.Stop) = omega arith
number_small signal.Terminate = omega arith
number_small signal.Kill = omega arith
number_small signal.Checkpoint = omega arith

abbrev signal_of : ℕ → Signal
signal_of zero = signal.Quit reason.Crash
signal_of (suc zero) = signal.Quit reason.Stop
signal_of (suc (suc zero)) = signal.Terminate
signal_of (suc (suc (suc zero))) = signal.Kill
signal_of (suc (suc (suc (suc n)))) = signal.Checkpoint

signal_again : (s : Signal) → signal_of (signal_number s) ≡ s
signal_again (signal.Quit reason.Crash) = refl
signal_again (signal.Quit reason.Stop) = refl
signal_again signal.Terminate = refl
signal_again signal.Kill = refl
signal_again signal.Checkpoint = refl

-- a signal is told by its bit
pub same_signal : (s t : Signal) → 2 ^ signal_number s ≡ 2 ^ signal_number t → s ≡ t
same_signal s t e = sym (signal_again s) ∙ (ap signal_of (same (signal_number s) (signal_number t) e) ∙ signal_again t)
  where
    same : (a b : ℕ) → 2 ^ a ≡ 2 ^ b → a ≡ b
    same a b e = dite (ℕ_discrete a b) (λ is. is) (λ ne. let one : bit_at (2 ^ a) a ≡ 1 = bit_at-pow_same a in let none_ : bit_at (2 ^ b) a ≡ 0 = bit_at-pow_other b a ne in let z : bit_at (2 ^ a) a ≡ bit_at (2 ^ b) a = ap (λ (w : ℕ). bit_at w a) e in absurd (omega arith))

-- a send counts for its signal and its pid
sent_more : (number slot pid g : ℕ) (kind : Kind) (s : Signal) (steps : List RosterStep) → times_sent number pid (steps ++ Send slot pid kind s g ∷ []) ≡ times_sent number pid steps + bit (signal_number s == number)
sent_more number slot pid g kind s steps = let h : times_sent number pid (steps ++ Send slot pid kind s g ∷ []) ≡ times_sent number pid steps + times_sent number pid (Send slot pid kind s g ∷ []) = sent-append number pid steps (Send slot pid kind s g ∷ []) in
    let e : bit (is_send number pid (Send slot pid kind s g)) ≡ bit (signal_number s == number) = ap (λ (b : Bool). bit (b && (signal_number s == number))) (eq-eqb pid pid refl) in omega arith

module _ {D : Type 0} where
  -- a worker that runs a child
  pub does_child : (ph : Phase D) (w : Work D) (o : Offer D) → Does ph w → child_in w ≡ Some o → (a : Bool) × (ph ≡ running o a)
  does_child ph Idle o does is = absurd (cc)
  does_child ph (Sees word) o does is = absurd (cc)
  does_child ph (Inactive p) o does is = let it : p ≡ o = cc in (false, does_run ph p does ∙ (λ i. running (it i) false))
  does_child ph (Active p) o does is = let it : p ≡ o = cc in (true, does_act ph p does ∙ (λ i. running (it i) true))
  does_child ph (Refused p g) o does is = let it : p ≡ o = cc in (true, does_back ph p g does ∙ (λ i. running (it i) true))
  does_child ph (Attached p g) o does is = let it : p ≡ o = cc in (true, does_stay ph p g does ∙ (λ i. running (it i) true))

  -- a slot whose worker has had one child more than the supervisor has released has the last one still
  pub left_behind : (ph : Phase D) (mine past : List (PastChild D)) (x : PastChild D) → mine ≡ past ++ unreleased ph → mine ≡ past ++ x ∷ [] → ph ≡ ended x.offer x.status x.was_active x.back
  left_behind ph mine past x lists is = last ph (append_cancel_left past (unreleased ph) (x ∷ []) (sym lists ∙ is))
    where
      last : (ph : Phase D) → unreleased ph ≡ x ∷ [] → ph ≡ ended x.offer x.status x.was_active x.back
      last (ended o st a b) e = let same : past_child o st a b ≡ x = cc in ap (λ (z : PastChild D). ended z.offer z.status z.was_active z.back) same
      last unused e = absurd (cc)
      last (opened q) e = absurd (cc)
      last (offered o) e = absurd (cc)
      last (running o a) e = absurd (cc)
      last (collected o st a) e = absurd (cc)
      last gathered e = absurd (cc)

  -- the latch of an assigned slot is armed for its child
  armed_assigned : (pid : ℕ) (ph : Phase D) (past : List (PastChild D)) (o : Offer D) → Seen ph past (Assigned o) → ArmedFor pid ph → pid ≡ o.pid
  armed_assigned pid unused past o seen armed = absurd (cc)
  armed_assigned pid (opened q) past o seen armed = absurd (cc)
  armed_assigned pid (offered p) past o seen armed = let same : Assigned p ≡ Assigned o = sym seen in let it : p ≡ o = cc in armed ∙ ap (λ (z : Offer D). z.pid) it
  armed_assigned pid (running p a) past o seen armed = let same : Assigned p ≡ Assigned o = sym seen in let it : p ≡ o = cc in armed ∙ ap (λ (z : Offer D). z.pid) it
  armed_assigned pid (ended p st a b) past o seen armed = armed ∙ ap (λ (z : Offer D). z.pid) (sym seen)
  armed_assigned pid (collected p st a) past o seen armed = absurd (cc)
  armed_assigned pid gathered past o seen armed = let no_ : Assigned o ≡ Gathered past seen.0 = seen.1 in absurd (cc)

  -- and has a pid
  named_assigned : (ph : Phase D) (past : List (PastChild D)) (o : Offer D) → Seen ph past (Assigned o) → OfUnreleased (λ p. 0 < p.pid) ph → 0 < o.pid
  named_assigned unused past o seen named = absurd (cc)
  named_assigned (opened q) past o seen named = absurd (cc)
  named_assigned (offered p) past o seen named = let same : Assigned p ≡ Assigned o = sym seen in let it : p ≡ o = cc in subst (λ (z : Offer D). 0 < z.pid) it named
  named_assigned (running p a) past o seen named = let same : Assigned p ≡ Assigned o = sym seen in let it : p ≡ o = cc in subst (λ (z : Offer D). 0 < z.pid) it named
  named_assigned (ended p st a b) past o seen named = subst (λ (z : Offer D). 0 < z.pid) (sym seen) named
  named_assigned (collected p st a) past o seen named = absurd (cc)
  named_assigned gathered past o seen named = let no_ : Assigned o ≡ Gathered past seen.0 = seen.1 in absurd (cc)

made-append : (pid : ℕ) (xs : List Cancel) (x : Cancel) → times_made pid (xs ++ x ∷ []) ≡ times_made pid xs + bit (x.pid == pid)
made-append pid [] x = omega arith
made-append pid (y ∷ xs) x = let h : times_made pid (xs ++ x ∷ []) ≡ times_made pid xs + bit (x.pid == pid) = made-append pid xs x in omega arith

waiting_small : (c p : ℕ) → waiting c p ≤ 1
waiting_small zero p = omega arith
waiting_small (suc c) p = let b : bit (suc c == p) < 2 = bit_small (suc c == p) in omega arith

told-append : (xs : List Signals) (s : Signals) → times_told (xs ++ s ∷ []) ≡ times_told xs + bit s.cancel
told-append [] s = omega arith
told-append (y ∷ xs) s = let h : times_told (xs ++ s ∷ []) ≡ times_told xs + bit s.cancel = told-append xs s in omega arith

module _ {D : Type 0} (limit : SessionLimit) (steps : List RosterStep) (x : ℕ → ℕ → Type 0) where
  -- a child has taken what stood
  hears_taken : (latch : ℕ) (o : Offer D) (h : Heard) → latch < 18446744073709551616 → HearsRightly (doings steps limit) x latch o h → HearsRightly (doings steps limit) x (bit_and latch 18446744073709551584) o (answered h (signals_at latch h.heeded))
  hears_taken latch o h full r = let s : Signals = signals_at latch h.heeded in record {
    so_far = record {
      sent = λ number. let all : times_given number (h.given ++ s ∷ []) ≡ times_given number h.given + bit (is_given number s) = given-append number h.given s in dite (dec_le (number + 1) 5)
          (λ small. let stood : bit (is_given number s) ≤ bit_at latch number = given_stands latch h.heeded number (omega arith) in let was : times_given number h.given + bit_at latch number ≤ times_sent number o.pid steps = r.still number (omega arith) in omega arith)
          (λ big. let none_ : bit (is_given number s) ≡ 0 = none_given number s (omega arith) in let was : times_given number h.given ≤ times_sent number o.pid steps = r.so_far.sent number in omega arith);
      cancels = subst (x o.pid) (let more : times_told (h.given ++ s ∷ []) ≡ times_told h.given + bit s.cancel = told-append h.given s in let all_ : times_told h.given + bit h.heeded ≡ times_told (h.given ++ s ∷ []) + bit false = omega arith in all_) r.so_far.cancels;
      shown = r.so_far.shown;
    };
    still = λ number small. let all : times_given number (h.given ++ s ∷ []) ≡ times_given number h.given + bit (is_given number s) = given-append number h.given s in
        let stood : bit (is_given number s) ≤ bit_at latch number = given_stands latch h.heeded number small in let was : times_given number h.given + bit_at latch number ≤ times_sent number o.pid steps = r.still number small in
        let z : bit_at (bit_and latch 18446744073709551584) number ≡ 0 = cleared_bits latch full number small in omega arith;
  }

  -- a child has heeded a cancel, or met none
  hears_heeded : ((p m m' : ℕ) → m' ≤ m → x p m → x p m') → (latch : ℕ) (o : Offer D) (cancel : ℕ) (h : Heard) → 0 < o.pid → HearsRightly (doings steps limit) (beside x cancel) latch o h → HearsRightly (doings steps limit) (beside x (either (eqb cancel o.pid) 0 cancel)) latch o record h { heeded = cancel == o.pid; found = h.found || (cancel == o.pid) }
  hears_heeded less_ latch o cancel h pos r = record {
    so_far = record { sent = r.so_far.sent; cancels = less_ o.pid (times_told h.given + bit h.heeded + waiting cancel o.pid) _ (moved cancel o.pid pos (times_told h.given) (bit h.heeded)) r.so_far.cancels; shown = r.so_far.shown };
    still = r.still;
  }
    where
      moved : (c p : ℕ) → 0 < p → (t b : ℕ) → t + bit (c == p) + waiting (either (eqb c p) 0 c) p ≤ t + b + waiting c p
      moved zero p pos t b = let z : bit (zero == p) ≡ 0 = ap bit (ne_eqb zero p (λ e. absurd (omega arith))) in exchanged zero p 0 (λ w. t + bit (zero == p) + waiting w p ≤ t + b + waiting zero p) (λ _. omega arith) (λ _. omega arith)
      moved (suc c) p pos t b = exchanged (suc c) p 0 (λ w. t + bit (suc c == p) + waiting w p ≤ t + b + waiting (suc c) p) (λ _. omega arith)
          (λ ne. let z : bit (suc c == p) ≡ 0 = ap bit (ne_eqb (suc c) p ne) in omega arith)

  -- what was heard before stays right where the cancel is heeded
  heard_still : ((p m m' : ℕ) → m' ≤ m → x p m → x p m') → (own cancel : ℕ) (o : Offer D) (h : Heard) → HeardRightly (doings steps limit) (beside x cancel) o h → HeardRightly (doings steps limit) (beside x (either (eqb cancel own) 0 cancel)) o h
  heard_still less_ own cancel o h r = record { sent = r.sent; cancels = less_ o.pid (times_told h.given + bit h.heeded + waiting cancel o.pid) _ (exchanged cancel own 0 (λ w. times_told h.given + bit h.heeded + waiting w o.pid ≤ times_told h.given + bit h.heeded + waiting cancel o.pid) (λ _. omega arith) (λ _. omega arith)) r.cancels; shown = r.shown }

-- a cancel that stood was found by the heed that took it
calls_heeded : (c p : ℕ) (before : Bool) → (p ≤ c) ⊎ (before ≡ true) → (p ≤ either (eqb c p) 0 c) ⊎ ((before || (c == p)) ≡ true)
calls_heeded c p before was = dite (ℕ_discrete c p)
    (λ is. inr (ap (λ (b : Bool). before || b) (eq-eqb c p is) ∙ or-true before))
    (λ ne. exchanged c p 0 (λ w. (p ≤ w) ⊎ ((before || (c == p)) ≡ true)) (λ is. absurd (ne is)) (λ _. ⊎_elim (λ le. inl le) (λ found. inr (ap (λ (b : Bool). b || (c == p)) found)) was))

module _ (steps : List RosterStep) (x : ℕ → ℕ → Type 0) (made : ℕ → ℕ) where
  module _ {D : Type 0} (latch cancel : ℕ) (o : Offer D) (a : Bool) (seat : ℕ) (w : PostView D) (ok : LatchOk steps x made latch cancel record { phase = running o a; seat = seat; post = w }) where
    latch_taken : latch < 18446744073709551616 → LatchOk steps x made (bit_and latch 18446744073709551584) cancel record { phase = running o a; seat = seat; post = with_notes w (noted_take w.notes latch) }
    latch_taken full = record {
      armed = cleared_pid latch full ∙ ok.armed;
      fits = subst (λ (z : ℕ). z < 2147483648) (sym (cleared_pid latch full)) ok.fits;
      standing = λ number small. let z : bit_at (bit_and latch 18446744073709551584) number ≡ 0 = cleared_bits latch full number small in omega arith;
      cancel_is = ok.cancel_is;
      now = hears_taken w.notes.session_limit steps (beside x cancel) latch o w.notes.now full ok.now;
      past = ok.past;
      unreleased = ok.unreleased;
      named = ok.named;
      keyed = ok.keyed;
      reaches = reaches_taken steps latch o.pid w.notes.now ok.reaches;
      calls = ok.calls;
    }

    latch_heeded : ((p m m' : ℕ) → m' ≤ m → x p m → x p m') → LatchOk steps x made latch (either (eqb cancel o.pid) 0 cancel) record { phase = running o a; seat = seat; post = with_notes w (noted_heed w.notes o.pid cancel) }
    latch_heeded less_ = record {
      armed = ok.armed;
      fits = ok.fits;
      standing = ok.standing;
      cancel_is = exchanged cancel o.pid 0 (λ z. 0 < z → x z 1) (λ _ pos. absurd (omega arith)) (λ _. ok.cancel_is);
      now = hears_heeded w.notes.session_limit steps x less_ latch o cancel w.notes.now ok.named ok.now;
      past = each-map _ _ (λ y h r. heard_still w.notes.session_limit steps x less_ o.pid cancel y.offer h r) w.past w.notes.heard ok.past;
      unreleased = ok.unreleased;
      named = ok.named;
      keyed = ok.keyed;
      reaches = ok.reaches;
      calls = λ pos. calls_heeded cancel o.pid w.notes.now.found (ok.calls pos);
    }

  -- a signal was sent to the child of a slot
  module _ (latch cancel slot pid g : ℕ) (kind : Kind) (s : Signal) where
    abbrev after : List RosterStep
    after = steps ++ Send slot pid kind s g ∷ []

    abbrev latch' : ℕ
    latch' = bit_or latch (2 ^ signal_number s)

    sent_now : {D : Type 0} (limit : SessionLimit) (ph : Phase D) (h : Heard) → latch_pid latch ≡ pid → ArmedFor (latch_pid latch) ph → OfRunning (λ o. HearsRightly (doings steps limit) (beside x cancel) latch o h) ph → OfRunning (λ o. HearsRightly (doings after limit) (beside x cancel) latch' o h) ph
    sent_now limit unused h is armed r = tt
    sent_now limit (opened q) h is armed r = tt
    sent_now limit (offered o) h is armed r = tt
    sent_now limit (ended o st a b) h is armed r = tt
    sent_now limit (collected o st a) h is armed r = tt
    sent_now limit gathered h is armed r = tt
    sent_now limit (running o a) h is armed r = record {
      so_far = (hears-more limit steps (Send slot pid kind s g ∷ []) (beside x cancel) (beside x cancel) (λ _ _ z. z) latch o h r).so_far;
      still = λ number small. let was : times_given number h.given + bit_at latch number ≤ times_sent number o.pid steps = r.still number small in
          let bits : bit_at latch' number ≤ bit_at latch number + bit (signal_number s == number) = bits_after latch (signal_number s) number in
          let mine : pid ≡ o.pid = sym is ∙ armed in
          let more : times_sent number o.pid after ≡ times_sent number o.pid steps + bit (signal_number s == number) = subst (λ (z : ℕ). times_sent number z after ≡ times_sent number z steps + bit (signal_number s == number)) mine (sent_more number slot pid g kind s steps) in omega arith;
    }

    reach_sent : (q : ℕ) (given : List Signals) → pid ≡ q → Reaches steps latch q given → Reaches after latch' q given
    reach_sent q given mine r number small sent = let bits = bits_stay latch (signal_number s) number in let stay : bit_at latch number ≤ bit_at latch' number = bits.0 in let own : bit (signal_number s == number) ≤ bit_at latch' number = bits.1 in
        let more : times_sent number q after ≡ times_sent number q steps + bit (signal_number s == number) = subst (λ (z : ℕ). times_sent number z after ≡ times_sent number z steps + bit (signal_number s == number)) mine (sent_more number slot pid g kind s steps) in
        dite (dec_le 1 (times_sent number q steps)) (λ some_. let was : 0 < bit_at latch number + times_heard number given = r number small (omega arith) in omega arith) (λ none_. omega arith)

    reaches_sent : {D : Type 0} (ph : Phase D) (given : List Signals) → latch_pid latch ≡ pid → ArmedFor (latch_pid latch) ph → ReachesIn steps latch given ph → ReachesIn after latch' given ph
    reaches_sent unused given is armed r = tt
    reaches_sent (opened q) given is armed r = tt
    reaches_sent (offered o) given is armed r = reach_sent o.pid [] (sym is ∙ armed) r
    reaches_sent (running o a) given is armed r = reach_sent o.pid given (sym is ∙ armed) r
    reaches_sent (ended o st a b) given is armed r = reach_sent o.pid given (sym is ∙ armed) r
    reaches_sent (collected o st a) given is armed r = tt
    reaches_sent gathered given is armed r = tt

    latch_sent : {D : Type 0} (c : Cell D) → latch_pid latch ≡ pid → LatchOk steps x made latch cancel c → LatchOk after x made latch' cancel c
    latch_sent c is ok = let stays : latch_pid latch' ≡ latch_pid latch = pid_stays latch (signal_number s) (number_small s) in record {
      armed = subst (λ (z : ℕ). ArmedFor z c.phase) (sym stays) ok.armed;
      fits = subst (λ (z : ℕ). z < 2147483648) (sym stays) ok.fits;
      standing = λ number small. subst (λ (z : ℕ). bit_at latch' number ≤ times_sent number z after) (sym (stays ∙ is))
          (let was : bit_at latch number ≤ times_sent number pid steps = subst (λ (z : ℕ). bit_at latch number ≤ times_sent number z steps) is (ok.standing number small) in
          let bits : bit_at latch' number ≤ bit_at latch number + bit (signal_number s == number) = bits_after latch (signal_number s) number in
          let all : times_sent number pid after ≡ times_sent number pid steps + bit (signal_number s == number) = sent_more number slot pid g kind s steps in omega arith);
      cancel_is = ok.cancel_is;
      now = sent_now c.post.notes.session_limit c.phase c.post.notes.now is ok.armed ok.now;
      past = each-map _ _ (λ y h r. heard-more c.post.notes.session_limit steps (Send slot pid kind s g ∷ []) (beside x cancel) (beside x cancel) (λ _ _ z. z) y.offer h r) c.post.past c.post.notes.heard ok.past;
      unreleased = unreleased_both _ _ _ c.phase (λ o a b. assigned-append steps (Send slot pid kind s g ∷ []) o a b) ok.unreleased (unreleased_all _ c.phase (λ o. send_is_no_release slot o.pid pid g kind s));
      named = ok.named;
      keyed = ok.keyed;
      reaches = reaches_sent c.phase c.post.notes.now.given is ok.armed ok.reaches;
      calls = ok.calls;
    }

-- a cancel was made on the word of a slot
module _ (steps : List RosterStep) (x y : ℕ → ℕ → Type 0) (pid : ℕ) (grow : (p m : ℕ) → x p m → y p m) (one : (m : ℕ) → x pid m → y pid (m + 1)) (less_ : (p m m' : ℕ) → m' ≤ m → y p m → y p m') (none_ : (p : ℕ) → x p 0) (made made' : ℕ → ℕ) (fewer_else : (p : ℕ) → p ≢ pid → made' p ≤ made p) where
  raised : (c p m : ℕ) → beside x c p m → beside y (max c pid) p m
  raised c p m made = dite (ℕ_discrete p pid)
      (λ is. subst (λ (q : ℕ). y q (m + waiting (max c pid) q)) (sym is) (less_ pid (m + waiting c pid + 1) _ (let a : waiting (max c pid) pid ≤ 1 = waiting_small (max c pid) pid in omega arith) (one (m + waiting c pid) (subst (λ (q : ℕ). x q (m + waiting c q)) is made))))
      (λ ne. less_ p (m + waiting c p) _ (fewer ne) (grow p (m + waiting c p) made))
    where
      other : (c p : ℕ) → p ≢ c → waiting c p ≡ 0
      other zero p ne = refl
      other (suc c) p ne = ap bit (ne_eqb (suc c) p (λ e. ne (sym e)))

      fewer : p ≢ pid → m + waiting (max c pid) p ≤ m + waiting c p
      fewer ne = dite (dec_le c pid)
          (λ le. let e : max c pid ≡ pid = omega arith in let z : waiting (max c pid) p ≡ 0 = ap (λ (q : ℕ). waiting q p) e ∙ other pid p ne in omega arith)
          (λ gt. let e : max c pid ≡ c = omega arith in let z : waiting (max c pid) p ≡ waiting c p = ap (λ (q : ℕ). waiting q p) e in omega arith)

  heard_raised : {D : Type 0} (limit : SessionLimit) (c : ℕ) (o : Offer D) (h : Heard) → HeardRightly (doings steps limit) (beside x c) o h → HeardRightly (doings steps limit) (beside y (max c pid)) o h
  heard_raised limit c o h r = record { sent = r.sent; cancels = raised c o.pid (times_told h.given + bit h.heeded) r.cancels; shown = r.shown }

  -- the cancel for this pid stands, and what stood for others stays
  call_raised : (c p : ℕ) → (0 < made p → p ≤ c) → 0 < made' p → p ≤ max c pid
  call_raised c p was pos = dite (ℕ_discrete p pid) (λ is. omega arith) (λ ne. let f : made' p ≤ made p = fewer_else p ne in let le : p ≤ c = was (omega arith) in omega arith)

  calls_raised : {D : Type 0} (c : ℕ) (h : Heard) (ph : Phase D) → CallsIn made c h ph → CallsIn made' (max c pid) h ph
  calls_raised c h (offered o) r = call_raised c o.pid r
  calls_raised c h (running o a) r = λ pos. dite (ℕ_discrete o.pid pid) (λ is. inl (omega arith))
      (λ ne. let f : made' o.pid ≤ made o.pid = fewer_else o.pid ne in ⊎_elim (λ le. inl (omega arith)) (λ found. inr found) (r (omega arith)))
  calls_raised c h unused r = tt
  calls_raised c h (opened q) r = tt
  calls_raised c h (ended o st a b) r = tt
  calls_raised c h (collected o st a) r = tt
  calls_raised c h gathered r = tt

  latch_raised : {D : Type 0} (latch c : ℕ) (b : Cell D) → LatchOk steps x made latch c b → LatchOk steps y made' latch (max c pid) b
  latch_raised latch c b ok = record {
    armed = ok.armed;
    fits = ok.fits;
    standing = ok.standing;
    cancel_is = λ pos. dite (dec_le c pid)
        (λ le. let e : pid ≡ max c pid = omega arith in subst (λ (q : ℕ). y q 1) e (one 0 (none_ pid)))
        (λ gt. let e : c ≡ max c pid = omega arith in subst (λ (q : ℕ). y q 1) e (grow c 1 (ok.cancel_is (omega arith))));
    now = running_map _ _ b.phase (λ o r. record { so_far = heard_raised b.post.notes.session_limit c o b.post.notes.now r.so_far; still = r.still }) ok.now;
    past = each-map _ _ (λ z h r. heard_raised b.post.notes.session_limit c z.offer h r) b.post.past b.post.notes.heard ok.past;
    unreleased = ok.unreleased;
    named = ok.named;
    keyed = ok.keyed;
    reaches = ok.reaches;
    calls = calls_raised c b.post.notes.now b.phase ok.calls;
  }

-- one cancel more for its pid
one_more : {D : Type 0} (n k m : ℕ) (x : Cancel) (cells : ℕ → Cell D) (c : Cell D) (w : PostView D) → k < n → (cells k).post ≡ w → c.post.notes.cancels ≡ w.notes.cancels ++ x ∷ [] → WereMade n cells x.pid m → WereMade n (put cells k c) x.pid (m + 1)
one_more {D} n k m x cells c w near is more made =
    let F : PostView D → ℕ = λ v. times_made x.pid v.notes.cancels in
    let all : sum_below n (λ j. F (put cells k c j).post) + F w ≡ sum_below n (λ j. F (cells j).post) + F c.post = count_moves F cells n k c w near is in
    let up : F c.post ≡ F w + bit (x.pid == x.pid) = ap (times_made x.pid) more ∙ made-append x.pid w.notes.cancels x in let one : bit (x.pid == x.pid) ≡ 1 = ap bit (eq-eqb x.pid x.pid refl) in omega arith

-- and none for another pid, or on another slot
on-append : (j p : ℕ) (xs : List Cancel) (x : Cancel) → times_made_on j p (xs ++ x ∷ []) ≡ times_made_on j p xs + bit ((x.slot == j) && (x.pid == p))
on-append j p [] x = omega arith
on-append j p (y ∷ xs) x = let h : times_made_on j p (xs ++ x ∷ []) ≡ times_made_on j p xs + bit ((x.slot == j) && (x.pid == p)) = on-append j p xs x in omega arith

not_both : (a b c e : ℕ) → ¬ ((a ≡ b) × (c ≡ e)) → bit ((a == b) && (c == e)) ≡ 0
not_both a b c e no_ = dite (ℕ_discrete a b)
    (λ is. ap (λ (z : Bool). bit (z && (c == e))) (eq-eqb a b is) ∙ ap bit (ne_eqb c e (λ same. no_ (is, same))))
    (λ ne. ap (λ (z : Bool). bit (z && (c == e))) (ne_eqb a b ne))

no_more : {D : Type 0} (n k j p : ℕ) (x : Cancel) (cells : ℕ → Cell D) (c : Cell D) (w : PostView D) → k < n → (cells k).post ≡ w → c.post.notes.cancels ≡ w.notes.cancels ++ x ∷ [] → ¬ ((x.slot ≡ j) × (x.pid ≡ p)) → made_on n (put cells k c) j p ≤ made_on n cells j p
no_more {D} n k j p x cells c w near is more other =
    let F : PostView D → ℕ = λ v. times_made_on j p v.notes.cancels in
    let all : sum_below n (λ i. F (put cells k c i).post) + F w ≡ sum_below n (λ i. F (cells i).post) + F c.post = count_moves F cells n k c w near is in
    let up : F c.post ≡ F w + bit ((x.slot == j) && (x.pid == p)) = ap (times_made_on j p) more ∙ on-append j p w.notes.cancels x in let none_ : bit ((x.slot == j) && (x.pid == p)) ≡ 0 = not_both x.slot j x.pid p other in omega arith

module _ {J D : Type 0} (letter : Letter.Ghosts J D) (limit : SessionLimit) where
  -- what a step owes
  abbrev Owes : (s : St letter) (id i : ℕ) (me : Seated J D) (f : ℕ → ℕ) (tells : ℕ → Seated J D → Type 0) → Type 0
  Owes s id i me f tells = (v : View D) × (a : Act (Option J)) × Valid s.homes me.1 a × Kept letter limit (stepped s i (f (get_or s.words i 0)) id me.1 v a) × tells (get_or s.words i 0) (v, carried_after me.1 a)

  -- the gate's part, where a word after the gate's changes
  far_gate : (n k i word : ℕ) (words : List ℕ) (d : RosterView D) (cells : ℕ → Cell D) → n < i → GateOk limit n (get_or (set words k (get_or words k 0)) n 0) (gate_of d) cells → GateOk limit n (get_or (set words i word) n 0) (gate_of d) cells
  far_gate n k i word words d cells behind ok = subst (λ (z : ℕ). GateOk limit n z (gate_of d) cells) (ap (λ (l : List ℕ). get_or l n 0) (set-get_or words k 0) ∙ sym (get_or-set_other words i n word 0 (λ e. absurd (omega arith)))) ok

  -- a worker's step after the gate's word that changes its notes alone
  notes_step : (s : St letter) (r : Kept letter limit s) (id k i word : ℕ) (w : PostView D) (notes : PostNotes) → get_elem? s.views id ≡ some (Worker k w) → child_slots (length s.homes) < i → notes.session_limit ≡ w.notes.session_limit → notes.steps ≡ w.notes.steps
      → Latches (child_slots (length s.homes)) (set s.words i word) r.1 (put r.2 k record { phase = (r.2 k).phase; seat = id; post = with_notes w notes })
      → Kept letter limit record { words = set s.words i word; homes = s.homes; views = set s.views id (Worker k (with_notes w notes)) }
  notes_step s r id k i word w notes at behind lim steps la = let mine = owned letter limit s r.0 r.1 r.2 r.3 id k w at in let was = mine.1 in let w' : PostView D = with_notes w notes in
      kept letter limit _ _ _ _ _ (word_step letter s id k i word r.0 r.1 r.2 r.3 mine.0 (omega arith) w w' (r.2 k).phase at
      record { shows = was.shows; fits = was.fits; seen = was.seen; does = was.does; lists = was.lists; there = was.there; there_is = was.there_is; mail = was.mail }
      (r.3.each_child k mine.0)) refl
      (far_gate (child_slots (length s.homes)) k i word s.words r.1 _ behind (gate_moves limit _ k (get_or s.words k 0) s.words (gate_of r.1) r.2 _ w mine.0 mine.2 (uncounted_notes limit _ w notes lim) (once_still _ (r.2 k) (r.2 k).phase _ w' (sym (ap (λ (z : PostView D). z.past) mine.2)) (λ _ z. z) (r.4.once k)) r.4))
      (quiet limit r.1 r.1 r.2 (child_slots (length s.homes)) k _ (r.2 k).phase w.work refl refl refl refl (λ _ o. o) mine.0 refl (ap (λ (z : PostView D). z.work) mine.2) (steps ∙ sym (ap (λ (z : PostView D). z.notes.steps) mine.2)) (sym (ap (λ (z : PostView D). z.past) mine.2)) refl (λ _ z. z) r.5)
      la (seats_step id k s.views r.1 r.2 _ _ _ at (r.3.each_seat id _ at) r.7)

  -- the words of the other slots, where the word of one latch or of one slot's cancels changes
  beside_latch : (n k j word : ℕ) (words : List ℕ) → k < n → j < n → j ≢ k → (latch_at n (set words (latch_place n k) word) j ≡ latch_at n words j) × (cancel_at n (set words (latch_place n k) word) j ≡ cancel_at n words j)
  beside_latch n k j word words near l ne = (get_or-set_other words (n + 1 + k) (n + 1 + j) word 0 (λ e. ne (omega arith)), get_or-set_other words (n + 1 + k) (n + 1 + n + j) word 0 (λ e. absurd (omega arith)))

  beside_cancel : (n k j word : ℕ) (words : List ℕ) → k < n → j < n → j ≢ k → (latch_at n (set words (cancel_place n k) word) j ≡ latch_at n words j) × (cancel_at n (set words (cancel_place n k) word) j ≡ cancel_at n words j)
  beside_cancel n k j word words near l ne = (get_or-set_other words (n + 1 + n + k) (n + 1 + j) word 0 (λ e. absurd (omega arith)), get_or-set_other words (n + 1 + n + k) (n + 1 + n + j) word 0 (λ e. ne (omega arith)))

  -- and those of the slot itself
  at_latch : (n k word : ℕ) (words : List ℕ) → k < n → length words ≡ 3 * n + 1 → (latch_at n (set words (latch_place n k) word) k ≡ word) × (cancel_at n (set words (latch_place n k) word) k ≡ cancel_at n words k)
  at_latch n k word words near wide = (get_or-set_same words (n + 1 + k) word 0 (omega arith), get_or-set_other words (n + 1 + k) (n + 1 + n + k) word 0 (λ e. absurd (omega arith)))

  at_cancel : (n k word : ℕ) (words : List ℕ) → k < n → length words ≡ 3 * n + 1 → (latch_at n (set words (cancel_place n k) word) k ≡ latch_at n words k) × (cancel_at n (set words (cancel_place n k) word) k ≡ word)
  at_cancel n k word words near wide = (get_or-set_other words (n + 1 + n + k) (n + 1 + k) word 0 (λ e. absurd (omega arith)), get_or-set_same words (n + 1 + n + k) word 0 (omega arith))

  -- the supervisor arms the latch of an unused slot
  arms_here : (s : St letter) (r : Kept letter limit s) (id k pid : ℕ) (d : RosterView D) → k < child_slots (length s.homes) → pid < 2147483648 → (slot_at d k).sight ≡ Unused → get_elem? s.views id ≡ some (Postmaster d)
      → Owes s id (latch_place (child_slots (length s.homes)) k) (Postmaster d, []) (λ _. armed_word pid) (Arms (step (length s.homes) (latch_place (child_slots (length s.homes)) k) (armed_word pid) 0 none) (Postmaster d, []))
  arms_here s r id k pid d near low is at = let n : ℕ = child_slots (length s.homes) in let i : ℕ = latch_place n k in let h = rebased letter s r.0 id d r.1 r.2 r.3 at in let both = same_history letter limit s r.0 id d r.1 r.2 r.3 at r.4 r.5 r.6 r.7 in let many : length d.slots ≡ child_slots (length s.homes) = h.many in
      let was = h.each_slot k near in let ph = see_unused _ _ (subst (Seen (r.2 k).phase (slot_at d k).past) is was.seen) in let ok = at_phase letter limit _ _ _ _ _ ph was in
      let x : SlotView D = slot_view (slot_at d k).past (Opened pid) in let c : Cell D = record { phase = opened pid; seat = (r.2 k).seat; post = (r.2 k).post } in let words : List ℕ = set s.words i (armed_word pid) in (
        Postmaster (with_slot d k x d.notes),
        takes k None,
        ok.there_is ∙ ap some ok.mail,
        kept letter limit _ _ _ _ _ (slot_turn letter s id k i (armed_word pid) (set s.homes k none) near (omega arith) (ap child_slots (length-set s.homes k none)) (λ j other. set_else s.homes k j none other) d r.2 h x (opened pid) d.notes
            record { shows = ok.shows; fits = tt; seen = refl; does = ok.does; lists = ok.lists; there = none; there_is = set_here s.homes k none (is_slot _ k near); mail = tt }
            tt (pids_drop d k x d.notes (omega arith) h.pids refl refl)) (ap child_slots (length-set s.homes k none))
            (far_gate n k i (armed_word pid) s.words d _ (omega arith) (gate_moves limit n k (get_or s.words k 0) s.words (gate_of d) r.2 c _ near refl (uncounted _ _ _) (once_still _ (r.2 k) (opened pid) _ _ refl (λ _ _. tt) (both.0.once k)) both.0))
            (quiet limit d _ r.2 n k c unused _ refl refl refl refl (λ _ o. o) near ph refl refl refl refl (λ _ _. tt) both.1)
            (let l = both.2.each k near in recount (made_on n r.2) (made_on n (put r.2 k c)) n words _ (put r.2 k c) (count_same n k r.2 c near refl) (latches_moved (made_on n r.2) n k s.words words d _ r.2 c near (λ j l' ne. beside_latch n k j (armed_word pid) s.words near l' ne) (λ _. omega arith) refl refl refl refl (λ p _ was. subst (λ (z : ℕ). p ≤ z) (sym (at_latch n k (armed_word pid) s.words near h.wide).1) was)
            (subst (λ (z : ℕ × ℕ). LatchOk d.notes.steps (WereMade n r.2) (made_on n r.2 k) z.0 z.1 c) {x = (armed_word pid, cancel_at n s.words k)} {y = (latch_at n words k, cancel_at n words k)} (λ u. (sym (at_latch n k (armed_word pid) s.words near h.wide).0 u, sym (at_latch n k (armed_word pid) s.words near h.wide).1 u))
            record { armed = armed_pid pid; fits = subst (λ (z : ℕ). z < 2147483648) (sym (armed_pid pid)) low; standing = λ number small. (let z : bit_at (armed_word pid) number ≡ 0 = armed_bits pid number small in omega arith); cancel_is = l.cancel_is; now = tt; past = l.past; unreleased = tt; named = tt; keyed = l.keyed; reaches = tt; calls = tt })
            both.2)) (seats_turn id k s.views d r.2 _ _ _ at (omega arith) (ap is_gathered is) refl both.3),
        λ k' pid' there word. let same : k ≡ k' = omega arith in let it : pid ≡ pid' = omega arith in λ u. (Postmaster (with_sight d (same u) (Opened (it u))), (same u, None) ∷ []),
      )

  pub arms : (n id k pid : ℕ) (d : RosterView D) → k < child_slots n → pid < 2147483648 → (slot_at d k).sight ≡ Unused → Allows (Kept letter limit) n id (Postmaster d, []) (latch_place (child_slots n) k) (λ _. armed_word pid) (Arms (step n (latch_place (child_slots n) k) (armed_word pid) 0 none) (Postmaster d, []))
  arms n id k pid d near low is s r wide at _ =
      subst (λ (m : ℕ). Owes s id (latch_place (child_slots m) k) (Postmaster d, []) (λ _. armed_word pid) (Arms (step m (latch_place (child_slots m) k) (armed_word pid) 0 none) (Postmaster d, []))) wide (arms_here s r id k pid d (subst (λ (m : ℕ). k < child_slots m) (sym wide) near) low is at)

  -- the supervisor sends a signal
  sends_here : (s : St letter) (r : Kept letter limit s) (id k : ℕ) (d : RosterView D) (o : Offer D) (sig : Signal) → k < child_slots (length s.homes) → (slot_at d k).sight ≡ Assigned o → get_elem? s.views id ≡ some (Postmaster d)
      → Owes s id (latch_place (child_slots (length s.homes)) k) (Postmaster d, []) (λ w. bit_or w (2 ^ signal_number sig)) (Sends (step (length s.homes) (latch_place (child_slots (length s.homes)) k) (2 ^ signal_number sig) 0 none) (Postmaster d, []))
  sends_here s r id k d o sig near is at = let n : ℕ = child_slots (length s.homes) in let i : ℕ = latch_place n k in let h = rebased letter s r.0 id d r.1 r.2 r.3 at in let both = same_history letter limit s r.0 id d r.1 r.2 r.3 at r.4 r.5 r.6 r.7 in
      let word : ℕ = bit_or (get_or s.words i 0) (2 ^ signal_number sig) in let words : List ℕ = set s.words i word in let t : RosterStep = Send k o.pid o.kind sig o.generation in let d' : RosterView D = after_step d t in
      let l = both.2.each k near in let seen = subst (Seen (r.2 k).phase (slot_at d k).past) is (h.each_slot k near).seen in let mine : latch_pid (latch_at n s.words k) ≡ o.pid = armed_assigned _ (r.2 k).phase (slot_at d k).past o seen l.armed in
      let pos : 0 < o.pid = named_assigned (r.2 k).phase (slot_at d k).past o seen l.named in let pid_is : used_pid (slot_at d k).sight ≡ o.pid = ap used_pid is in let top : used_pid (slot_at d k).sight ≤ d.notes.last_pid = h.pids.below k in (
        Postmaster d',
        keeps,
        tt,
        kept letter limit _ _ _ _ _ (word_turn letter s id i word d r.2 t (omega arith) h h.each_child) refl
            (subst (λ (z : ℕ). GateOk limit n z (gate_of d) r.2) (sym (get_or-set_other s.words i n word 0 (λ e. absurd (omega arith)))) both.0)
            (send_history limit n d r.2 k o.pid o.generation o.kind sig both.1)
            (latches_word (made_on n r.2) (made_on n r.2) n k s.words words d d' r.2 (t ∷ []) refl refl (λ pid. send_is_no_release k pid o.pid o.generation o.kind sig) (λ j l' ne. others_unsent letter limit s id d r.2 h k j l' ne o.pid o.generation o.kind sig pos pid_is) (λ q above. sent_to_other k q o.pid o.generation o.kind sig (λ same. absurd (let up : d.notes.last_pid < q = above in omega arith))) (λ why e. Contains-append_left d.notes.steps (t ∷ []) _ (both.2.noticed why e))
            (λ j l' ne. beside_latch n k j word s.words near l' ne) (λ j p _. omega arith) (λ p _ was pos_. subst (λ (z : ℕ). p ≤ z) (sym (at_latch n k word s.words near h.wide).1) (was pos_))
            (λ _. subst (λ (z : ℕ × ℕ). LatchOk d'.notes.steps (WereMade n r.2) (made_on n r.2 k) z.0 z.1 (r.2 k)) {x = (word, cancel_at n s.words k)} {y = (latch_at n words k, cancel_at n words k)} (λ u. (sym (at_latch n k word s.words near h.wide).0 u, sym (at_latch n k word s.words near h.wide).1 u))
            (latch_sent d.notes.steps (WereMade n r.2) (made_on n r.2 k) (latch_at n s.words k) (cancel_at n s.words k) k o.pid o.generation o.kind sig (r.2 k) mine l))
            both.2) (seats_still id s.views d _ r.2 at refl refl both.3),
        λ k' o' sig' there sight bits. let same : k' ≡ k = omega arith in let both_ : Assigned o ≡ Assigned o' = sym is ∙ (ap (λ (q : ℕ). (slot_at d q).sight) (sym same) ∙ sight) in let oe : o ≡ o' = cc in let it : sig ≡ sig' = same_signal sig sig' bits in
            λ u. (Postmaster (after_step d (Send (sym same u) (oe u).pid (oe u).kind (it u) (oe u).generation)), []),
      )

  pub sends : (n id k : ℕ) (d : RosterView D) (o : Offer D) (sig : Signal) → k < child_slots n → (slot_at d k).sight ≡ Assigned o → Allows (Kept letter limit) n id (Postmaster d, []) (latch_place (child_slots n) k) (λ w. bit_or w (2 ^ signal_number sig)) (Sends (step n (latch_place (child_slots n) k) (2 ^ signal_number sig) 0 none) (Postmaster d, []))
  sends n id k d o sig near is s r wide at _ =
      subst (λ (m : ℕ). Owes s id (latch_place (child_slots m) k) (Postmaster d, []) (λ w. bit_or w (2 ^ signal_number sig)) (Sends (step m (latch_place (child_slots m) k) (2 ^ signal_number sig) 0 none) (Postmaster d, []))) wide (sends_here s r id k d o sig (subst (λ (m : ℕ). k < child_slots m) (sym wide) near) is at)

  -- a worker takes the signals of its child
  takes_here : (s : St letter) (r : Kept letter limit s) (id k : ℕ) (o : Offer D) (w : PostView D) (c : List (ℕ × Option J)) → child_in w.work ≡ Some o → get_elem? s.views id ≡ some (Worker k w) → get_or s.words (latch_place (child_slots (length s.homes)) k) 0 < 18446744073709551616
      → Owes s id (latch_place (child_slots (length s.homes)) k) (Worker k w, c) (λ x. bit_and x 18446744073709551584) (Takes (step (length s.homes) (latch_place (child_slots (length s.homes)) k) 18446744073709551584 0 none) (Worker k w, c))
  takes_here s r id k o w c runs at full = let n : ℕ = child_slots (length s.homes) in let i : ℕ = latch_place n k in let mine = owned letter limit s r.0 r.1 r.2 r.3 id k w at in let near : k < n = mine.0 in let child = does_child _ w.work o mine.1.does runs in
      let found : ℕ = get_or s.words i 0 in let word : ℕ = bit_and found 18446744073709551584 in let words : List ℕ = set s.words i word in let notes : PostNotes = noted_take w.notes found in let w' : PostView D = with_notes w notes in
      let l = latch_here r.1.notes.steps (WereMade n r.2) (made_on n r.2 k) found (cancel_at n s.words k) (r.2 k) (running o child.0) w child.1 mine.2 (r.6.each k near) in let cell : Cell D = record { phase = (r.2 k).phase; seat = id; post = w' } in let still : w.notes.cancels ≡ (r.2 k).post.notes.cancels = ap (λ (z : PostView D). z.notes.cancels) (sym mine.2) in (
        Worker k w',
        keeps,
        tt,
        notes_step s r id k i word w notes at (omega arith) refl refl
            (recount (made_on n r.2) (made_on n (put r.2 k cell)) n words r.1 (put r.2 k cell) (count_same n k r.2 cell near still) (latches_moved (made_on n r.2) n k s.words words r.1 r.1 r.2 cell near (λ j l' ne. beside_latch n k j word s.words near l' ne) (λ p. cancels_stay p (r.2 k).post w mine.2) refl refl refl refl (λ p _ was. subst (λ (z : ℕ). p ≤ z) (sym (at_latch n k word s.words near r.3.wide).1) was)
            (subst (λ (z : ℕ × ℕ × Phase D). LatchOk r.1.notes.steps (WereMade n r.2) (made_on n r.2 k) z.0 z.1 record { phase = z.2; seat = id; post = w' }) {x = (word, cancel_at n s.words k, running o child.0)} {y = (latch_at n words k, cancel_at n words k, (r.2 k).phase)}
            (λ u. (sym (at_latch n k word s.words near r.3.wide).0 u, sym (at_latch n k word s.words near r.3.wide).1 u, sym child.1 u))
            (latch_taken r.1.notes.steps (WereMade n r.2) (made_on n r.2 k) found (cancel_at n s.words k) o child.0 id w record { armed = l.armed; fits = l.fits; standing = l.standing; cancel_is = l.cancel_is; now = l.now; past = l.past; unreleased = l.unreleased; named = l.named; keyed = l.keyed; reaches = l.reaches; calls = l.calls } full))
            r.6)),
        refl,
      )

  pub takes_signals : (n id k : ℕ) (o : Offer D) (w : PostView D) (c : List (ℕ × Option J)) → child_in w.work ≡ Some o → Allows (Kept letter limit) n id (Worker k w, c) (latch_place (child_slots n) k) (λ x. bit_and x 18446744073709551584) (Takes (step n (latch_place (child_slots n) k) 18446744073709551584 0 none) (Worker k w, c))
  takes_signals n id k o w c runs s r wide at full =
      subst (λ (m : ℕ). Owes s id (latch_place (child_slots m) k) (Worker k w, c) (λ x. bit_and x 18446744073709551584) (Takes (step m (latch_place (child_slots m) k) 18446744073709551584 0 none) (Worker k w, c))) wide
      (takes_here s r id k o w c runs at (subst (λ (m : ℕ). get_or s.words (latch_place (child_slots m) k) 0 < 18446744073709551616) (sym wide) full))

  -- a worker heeds the cancels of its child
  heeds_here : (s : St letter) (r : Kept letter limit s) (id k : ℕ) (o : Offer D) (w : PostView D) (c : List (ℕ × Option J)) → child_in w.work ≡ Some o → get_elem? s.views id ≡ some (Worker k w)
      → Owes s id (cancel_place (child_slots (length s.homes)) k) (Worker k w, c) (λ x. either (eqb x o.pid) 0 x) (Heeds (step (length s.homes) (cancel_place (child_slots (length s.homes)) k) o.pid 0 none) (Worker k w, c))
  heeds_here s r id k o w c runs at = let n : ℕ = child_slots (length s.homes) in let i : ℕ = cancel_place n k in let mine = owned letter limit s r.0 r.1 r.2 r.3 id k w at in let near : k < n = mine.0 in let child = does_child _ w.work o mine.1.does runs in
      let found : ℕ = get_or s.words i 0 in let word : ℕ = either (eqb found o.pid) 0 found in let words : List ℕ = set s.words i word in let notes : PostNotes = noted_heed w.notes o.pid found in let w' : PostView D = with_notes w notes in
      let l = latch_here r.1.notes.steps (WereMade n r.2) (made_on n r.2 k) (latch_at n s.words k) found (r.2 k) (running o child.0) w child.1 mine.2 (r.6.each k near) in let cell : Cell D = record { phase = (r.2 k).phase; seat = id; post = w' } in let still : w.notes.cancels ≡ (r.2 k).post.notes.cancels = ap (λ (z : PostView D). z.notes.cancels) (sym mine.2) in
      let top : used_pid (slot_at r.1 k).sight ≤ r.1.notes.last_pid = r.3.pids.below k in let pid_is : used_pid (slot_at r.1 k).sight ≡ o.pid = ap used_pid (subst (λ (z : Phase D). Seen z (slot_at r.1 k).past (slot_at r.1 k).sight) child.1 mine.1.seen) in
      let waits : (p : ℕ) → r.1.notes.last_pid < p → p ≤ found → p ≤ cancel_at n words k = (λ p above was. subst (λ (z : ℕ). p ≤ z) (sym (at_cancel n k word s.words near r.3.wide).1) (exchanged found o.pid 0 (λ z. p ≤ z) (λ e. absurd (omega arith)) (λ _. was))) in (
        Worker k w',
        keeps,
        tt,
        notes_step s r id k i word w notes at (omega arith) refl refl
            (recount (made_on n r.2) (made_on n (put r.2 k cell)) n words r.1 (put r.2 k cell) (count_same n k r.2 cell near still) (latches_moved (made_on n r.2) n k s.words words r.1 r.1 r.2 cell near (λ j l' ne. beside_cancel n k j word s.words near l' ne) (λ p. cancels_stay p (r.2 k).post w mine.2) refl refl refl refl waits
            (subst (λ (z : ℕ × ℕ × Phase D). LatchOk r.1.notes.steps (WereMade n r.2) (made_on n r.2 k) z.0 z.1 record { phase = z.2; seat = id; post = w' }) {x = (latch_at n s.words k, word, running o child.0)} {y = (latch_at n words k, cancel_at n words k, (r.2 k).phase)}
            (λ u. (sym (at_cancel n k word s.words near r.3.wide).0 u, sym (at_cancel n k word s.words near r.3.wide).1 u, sym child.1 u))
            (latch_heeded r.1.notes.steps (WereMade n r.2) (made_on n r.2 k) (latch_at n s.words k) found o child.0 id w record { armed = l.armed; fits = l.fits; standing = l.standing; cancel_is = l.cancel_is; now = l.now; past = l.past; unreleased = l.unreleased; named = l.named; keyed = l.keyed; reaches = l.reaches; calls = l.calls } (λ p m m' le made. omega arith)))
            r.6)),
        refl,
      )

  pub heeds : (n id k : ℕ) (o : Offer D) (w : PostView D) (c : List (ℕ × Option J)) → child_in w.work ≡ Some o → Allows (Kept letter limit) n id (Worker k w, c) (cancel_place (child_slots n) k) (λ x. either (eqb x o.pid) 0 x) (Heeds (step n (cancel_place (child_slots n) k) o.pid 0 none) (Worker k w, c))
  heeds n id k o w c runs s r wide at _ =
      subst (λ (m : ℕ). Owes s id (cancel_place (child_slots m) k) (Worker k w, c) (λ x. either (eqb x o.pid) 0 x) (Heeds (step m (cancel_place (child_slots m) k) o.pid 0 none) (Worker k w, c))) wide (heeds_here s r id k o w c runs at)

  -- the keys of the cancels that a worker has made
  own_keys : (s : St letter) (r : Kept letter limit s) (id k : ℕ) (w : PostView D) → get_elem? s.views id ≡ some (Worker k w) → AllByRecursion (λ (y : Cancel). y.key ≡ cancel_key y.seed y.pid) w.notes.cancels
  own_keys s r id k w at = let mine = owned letter limit s r.0 r.1 r.2 r.3 id k w at in (latch_here r.1.notes.steps (WereMade (child_slots (length s.homes)) r.2) (made_on (child_slots (length s.homes)) r.2 k) (latch_at (child_slots (length s.homes)) s.words k) (cancel_at (child_slots (length s.homes)) s.words k) (r.2 k) (r.2 k).phase w refl mine.2 (r.6.each k mine.0)).keyed

  -- a worker's notes grow, and with them the cancels that it has made
  noted_more : (s : St letter) (r : Kept letter limit s) (id k : ℕ) (w : PostView D) (notes : PostNotes) → get_elem? s.views id ≡ some (Worker k w) → notes.session_limit ≡ w.notes.session_limit → notes.heard ≡ w.notes.heard → notes.now ≡ w.notes.now → ((pid : ℕ) → times_made pid w.notes.cancels ≤ times_made pid notes.cancels) → AllByRecursion (λ x. x.key ≡ cancel_key x.seed x.pid) notes.cancels
      → LatchesOf (made_on (child_slots (length s.homes)) r.2) (child_slots (length s.homes)) s.words r.1 (put r.2 k record { phase = (r.2 k).phase; seat = id; post = with_notes w notes })
  noted_more s r id k w notes at lim heard now grow keys = let n : ℕ = child_slots (length s.homes) in let mine = owned letter limit s r.0 r.1 r.2 r.3 id k w at in let near : k < n = mine.0 in
      let l = latch_here r.1.notes.steps (WereMade n r.2) (made_on n r.2 k) (latch_at n s.words k) (cancel_at n s.words k) (r.2 k) (r.2 k).phase w refl mine.2 (r.6.each k near) in
      latches_moved (made_on n r.2) n k s.words s.words r.1 r.1 r.2 record { phase = (r.2 k).phase; seat = id; post = with_notes w notes } near (λ j l' ne. (refl, refl)) (λ p. let a : times_made p (r.2 k).post.notes.cancels ≤ times_made p w.notes.cancels = cancels_stay p (r.2 k).post w mine.2 in let b : times_made p w.notes.cancels ≤ times_made p notes.cancels = grow p in omega arith) refl refl refl refl (λ p _ was. was)
      record {
        armed = l.armed;
        fits = l.fits;
        standing = l.standing;
        cancel_is = l.cancel_is;
        now = subst (λ (z : SessionLimit × Heard). OfRunning (λ o. HearsRightly (doings r.1.notes.steps z.0) (beside (WereMade n r.2) (cancel_at n s.words k)) (latch_at n s.words k) o z.1) (r.2 k).phase) {x = (w.notes.session_limit, w.notes.now)} {y = (notes.session_limit, notes.now)} (λ u. (sym lim u, sym now u)) l.now;
        past = subst (λ (z : SessionLimit × List Heard). EachHeard (HeardBy (doings r.1.notes.steps z.0) (beside (WereMade n r.2) (cancel_at n s.words k))) w.past z.1) {x = (w.notes.session_limit, w.notes.heard)} {y = (notes.session_limit, notes.heard)} (λ u. (sym lim u, sym heard u)) l.past;
        unreleased = l.unreleased;
        named = l.named;
        keyed = keys;
        reaches = subst (λ (z : Heard). ReachesIn r.1.notes.steps (latch_at n s.words k) z.given (r.2 k).phase) (sym now) l.reaches;
        calls = subst (λ (z : Heard). CallsIn (made_on n r.2 k) (cancel_at n s.words k) z (r.2 k).phase) (sym now) l.calls;
      }
      r.6

  -- a worker looks at the latch of any slot
  peeks_here : (s : St letter) (r : Kept letter limit s) (id k j : ℕ) (w : PostView D) (c : List (ℕ × Option J)) → j < child_slots (length s.homes) → get_elem? s.views id ≡ some (Worker k w)
      → Owes s id (latch_place (child_slots (length s.homes)) j) (Worker k w, c) (λ x. x) (LooksAtLatch (step (length s.homes) (latch_place (child_slots (length s.homes)) j) 0 0 none) (Worker k w, c))
  peeks_here s r id k j w c near at = let n : ℕ = child_slots (length s.homes) in let i : ℕ = latch_place n j in let found : ℕ = get_or s.words i 0 in let notes : PostNotes = noted_latch_look w.notes j found in
      let mine = owned letter limit s r.0 r.1 r.2 r.3 id k w at in let cell : Cell D = record { phase = (r.2 k).phase; seat = id; post = with_notes w notes } in (
        Worker k (with_notes w notes),
        keeps,
        tt,
        notes_step s r id k i found w notes at (omega arith) refl refl
            (subst (λ (z : List ℕ). Latches n z r.1 (put r.2 k record { phase = (r.2 k).phase; seat = id; post = with_notes w notes })) (sym (set-get_or s.words i 0)) (recount (made_on n r.2) (made_on n (put r.2 k cell)) n s.words r.1 (put r.2 k cell) (count_same n k r.2 cell mine.0 (ap (λ (z : PostView D). z.notes.cancels) (sym mine.2))) (noted_more s r id k w notes at refl refl refl (λ _. omega arith) (own_keys s r id k w at)))),
        λ j' there. let same : j ≡ j' = omega arith in ((λ u. (Worker k (with_notes w (noted_latch_look w.notes (same u) found)), c)), (r.6.each j near).fits),
      )

  pub peeks : (n id k j : ℕ) (w : PostView D) (c : List (ℕ × Option J)) → j < child_slots n → Allows (Kept letter limit) n id (Worker k w, c) (latch_place (child_slots n) j) (λ x. x) (LooksAtLatch (step n (latch_place (child_slots n) j) 0 0 none) (Worker k w, c))
  peeks n id k j w c near s r wide at _ =
      subst (λ (m : ℕ). Owes s id (latch_place (child_slots m) j) (Worker k w, c) (λ x. x) (LooksAtLatch (step m (latch_place (child_slots m) j) 0 0 none) (Worker k w, c))) wide (peeks_here s r id k j w c (subst (λ (m : ℕ). j < child_slots m) (sym wide) near) at)

  -- a worker makes a cancel on the word of any slot
  cancels_here : (s : St letter) (r : Kept letter limit s) (id k : ℕ) (x : Cancel) (w : PostView D) (c : List (ℕ × Option J)) → x.slot < child_slots (length s.homes) → x.key ≡ cancel_key x.seed x.pid → get_elem? s.views id ≡ some (Worker k w)
      → Owes s id (cancel_place (child_slots (length s.homes)) x.slot) (Worker k w, c) (λ z. max z x.pid) (Cancels x (step (length s.homes) (cancel_place (child_slots (length s.homes)) x.slot) x.pid 0 none) (Worker k w, c))
  cancels_here s r id k x w c near key at = let n : ℕ = child_slots (length s.homes) in let j : ℕ = x.slot in let i : ℕ = cancel_place n j in let mine = owned letter limit s r.0 r.1 r.2 r.3 id k w at in
      let found : ℕ = get_or s.words i 0 in let word : ℕ = max found x.pid in let words : List ℕ = set s.words i word in let notes : PostNotes = noted_cancel w.notes x in
      let cell : Cell D = record { phase = (r.2 k).phase; seat = id; post = with_notes w notes } in let cells : ℕ → Cell D = put r.2 k cell in
      let keys = each_more (λ (y : Cancel). y.key ≡ cancel_key y.seed y.pid) w.notes.cancels x (own_keys s r id k w at) key in
      let la = noted_more s r id k w notes at refl refl refl (λ p. let e : times_made p (w.notes.cancels ++ x ∷ []) ≡ times_made p w.notes.cancels + bit (x.pid == p) = made-append p w.notes.cancels x in omega arith) keys in
      let l = latch_raised r.1.notes.steps (WereMade n r.2) (WereMade n cells) x.pid (cancelled_more n k r.2 cell mine.0 (λ p. let a : times_made p (r.2 k).post.notes.cancels ≤ times_made p w.notes.cancels = cancels_stay p (r.2 k).post w mine.2 in let e : times_made p (w.notes.cancels ++ x ∷ []) ≡ times_made p w.notes.cancels + bit (x.pid == p) = made-append p w.notes.cancels x in omega arith))
      (λ m made. one_more n k m x r.2 cell w mine.0 mine.2 refl made) (λ p m m' le made. omega arith) (λ p. omega arith) (made_on n r.2 j) (made_on n cells j) (λ p ne. no_more n k j p x r.2 cell w mine.0 mine.2 refl (λ both_. ne (sym both_.1))) (latch_at n s.words j) found (r.2 j) (r.6.each j near) in
      let waits : (p : ℕ) → (0 < made_on n r.2 j p → p ≤ found) → 0 < made_on n cells j p → p ≤ word = (λ p was pos. dite (ℕ_discrete p x.pid) (λ is. omega arith) (λ ne. let f : made_on n cells j p ≤ made_on n r.2 j p = no_more n k j p x r.2 cell w mine.0 mine.2 refl (λ both_. ne (sym both_.1)) in let le : p ≤ found = was (omega arith) in omega arith)) in (
        Worker k (with_notes w notes),
        keeps,
        tt,
        notes_step s r id k i word w notes at (omega arith) refl refl
            (latches_word (made_on n r.2) (made_on n cells) n j s.words words r.1 r.1 cells [] (sym (append-nil r.1.notes.steps)) refl no_release (λ q _ _. unreleased_all _ (cells q).phase (λ o. sends_nothing o.pid)) (λ pid _. sends_nothing pid) la.noticed (λ q l' ne. beside_cancel n j q word s.words near l' ne) (λ q p ne. no_more n k q p x r.2 cell w mine.0 mine.2 refl (λ both_. ne (sym both_.0)))
            (λ p _ was pos. subst (λ (z : ℕ). p ≤ z) (sym (at_cancel n j word s.words near r.3.wide).1) (waits p was pos))
            (λ _. subst (λ (z : ℕ × ℕ). LatchOk r.1.notes.steps (WereMade n cells) (made_on n cells j) z.0 z.1 (cells j)) {x = (latch_at n s.words j, word)} {y = (latch_at n words j, cancel_at n words j)} (λ u. (sym (at_cancel n j word s.words near r.3.wide).0 u, sym (at_cancel n j word s.words near r.3.wide).1 u))
            (at_put r.2 k cell (λ q y. q ≡ j → LatchOk r.1.notes.steps (WereMade n cells) (made_on n cells j) (latch_at n s.words j) word y) j
            (λ e. let o = latch_here r.1.notes.steps (WereMade n cells) (made_on n cells j) (latch_at n s.words j) word (r.2 k) (r.2 k).phase w refl mine.2 (subst (λ (q : ℕ). LatchOk r.1.notes.steps (WereMade n cells) (made_on n cells j) (latch_at n s.words j) word (r.2 q)) (sym e) l) in
            record { armed = o.armed; fits = o.fits; standing = o.standing; cancel_is = o.cancel_is; now = o.now; past = o.past; unreleased = o.unreleased; named = o.named; keyed = keys; reaches = o.reaches; calls = o.calls })
            (λ _ _. l) refl))
            la),
        refl,
      )

  pub cancels : (n id k : ℕ) (x : Cancel) (w : PostView D) (c : List (ℕ × Option J)) → x.slot < child_slots n → x.key ≡ cancel_key x.seed x.pid → Allows (Kept letter limit) n id (Worker k w, c) (cancel_place (child_slots n) x.slot) (λ z. max z x.pid) (Cancels x (step n (cancel_place (child_slots n) x.slot) x.pid 0 none) (Worker k w, c))
  cancels n id k x w c near key s r wide at _ =
      subst (λ (m : ℕ). Owes s id (cancel_place (child_slots m) x.slot) (Worker k w, c) (λ z. max z x.pid) (Cancels x (step m (cancel_place (child_slots m) x.slot) x.pid 0 none) (Worker k w, c))) wide (cancels_here s r id k x w c (subst (λ (m : ℕ). x.slot < child_slots m) (sym wide) near) key at)
