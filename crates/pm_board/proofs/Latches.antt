-- What stays of the latches when one slot moves.
use Rattle.std.{proofs.{Common.{◌≡◌, ◌≢◌, ℕ, zero, suc, ◌+◌, ◌<◌, ◌≤◌, List, [], ◌∷◌, ◌++◌, length, set, refl, sym, ap, ◌∙◌, subst, ⊎_elim, arith, append-nil, get_or-set_other, ◌==◌, eq-eqb, ne_eqb}, lemmas.{List.{append_assoc, Elements.{Contains-append_left, Contains-append_right, Contains-append_cases}}, Nat.Bits.bit_at-zero}}, specs.{Prelude.{Bool, ◌&&◌, Some, None, Result, Err, slice_index_or}, Int.bit_at, List.{Contains, AllByRecursion}}}
use mathlib.Core.Logic.{dite}
use native.Mathlib.Decide.{ℕ_discrete}
use Rattle.pm_facts.specs.Numbers.{sum_below}
use Rattle.pm_supervisor.specs.{pm_exit.declared.child.{Kind.Kind, Status.Status}, declared.Reason.Reason}
use Rattle.pm_child_life.specs.declared.life.{Attempt.Attempt, Signals.Signals}
use Rattle.pm_child_life.specs.declared.life.GateNo.TheVariants as gate_no
use Rattle.pm_board_words.specs.{declared.views.{SessionLimit.SessionLimit, Heard.Heard, Offer.Offer, PastChild.PastChild, PostView.PostView, RosterStep.{RosterStep, TheVariants.{Assign, Release, Quit, Ready, Reset, Send}}, RosterView.RosterView, Signal.Signal}, Words.bit, Latch.{latch_pid, signal_number}}
use Rattle.pm_board.{specs.{Gate.{Gate, GateAnswers, first_gate, gate_of_steps}, Latches.{times_made_on, made_on, CallsIn, LatchesOf, is_send, times_sent, times_given, NotSent, Reaches, ReachesIn, NotReleased, IsAssignedBy, AnsweredBefore, doings, HeardRightly, HearsRightly, OfRunning, OfUnreleased, EachHeard, beside, waiting, times_told, times_made, WereMade, LatchOk, latch_at, cancel_at, Latches}, Rule.{Phase, unused, opened, offered, running, ended, collected, gathered, Cell, put, at_put, no_signals, idle_post}}, proofs.{Counts.count_moves, BoardLaws.sent-append}}

-- lists

module _ {A : Type 0} where
  -- an element stands somewhere
  split_at : (xs : List A) (x : A) (k : ℕ) → k < length xs → slice_index_or xs k x ≡ x → (ys zs : List A) × (xs ≡ ys ++ x ∷ zs)
  split_at [] x k l e = absurd (omega arith)
  split_at (y ∷ ys) x zero l e = ([], ys, ap (λ (z : A). z ∷ ys) e)
  split_at (y ∷ ys) x (suc k) l e = let t = split_at ys x k (omega arith) e in (y ∷ t.0, t.1, ap (λ (z : List A). y ∷ z) t.2)

  -- an element stands somewhere
  split : (xs : List A) (x : A) → Contains xs x → (ys zs : List A) × (xs ≡ ys ++ x ∷ zs)
  split xs x h = split_at xs x h.0 h.1 h.2

  pub only : (x y : A) → Contains (x ∷ []) y → x ≡ y
  only x y h = go h.0 h.1 h.2
    where
      go : (k : ℕ) → k < 1 → slice_index_or (x ∷ []) k y ≡ y → x ≡ y
      go zero l e = e
      go (suc k) l e = absurd (omega arith)

  pub at_last : (xs : List A) (x : A) → Contains (xs ++ x ∷ []) x
  at_last xs x = Contains-append_right xs (x ∷ []) x (0, omega arith, refl)

  all_map : (P Q : A → Type 0) → ((x : A) → P x → Q x) → (xs : List A) → AllByRecursion P xs → AllByRecursion Q xs
  all_map P Q f [] h = tt
  all_map P Q f (x ∷ xs) h = (f x h.0, all_map P Q f xs h.1)

-- the supervisor's steps

pub sends_nothing : (pid : ℕ) → NotSent pid []
sends_nothing pid number = refl

-- a send to another
pub sent_to_other : (slot pid p g : ℕ) (kind : Kind) (s : Signal) → pid ≢ p → NotSent pid (Send slot p kind s g ∷ [])
sent_to_other slot pid p g kind s ne number = let e : bit (is_send number pid (Send slot p kind s g)) ≡ 0 = ap (λ (b : Bool). bit (b && (signal_number s == number))) (ne_eqb p pid (λ is. ne (sym is))) in omega arith

-- nobody is sent a signal before its pid is given
pub unsent-append : (last last' : ℕ) (steps steps' zs : List RosterStep) → steps' ≡ steps ++ zs → last ≤ last' → ((pid : ℕ) → last < pid → NotSent pid zs) → ((pid : ℕ) → last < pid → NotSent pid steps) → (pid : ℕ) → last' < pid → NotSent pid steps'
unsent-append last last' steps steps' zs more up none was pid above number = let e : times_sent number pid (steps ++ zs) ≡ times_sent number pid steps + times_sent number pid zs = sent-append number pid steps zs in
    let a : times_sent number pid steps ≡ 0 = was pid (omega arith) number in let b : times_sent number pid zs ≡ 0 = none pid (omega arith) number in
    ap (times_sent number pid) more ∙ (let z : times_sent number pid (steps ++ zs) ≡ 0 = omega arith in z)

-- what stands stays where others are sent signals
pub reach-more : (xs ys : List RosterStep) (latch pid : ℕ) (given : List Signals) → NotSent pid ys → Reaches xs latch pid given → Reaches (xs ++ ys) latch pid given
reach-more xs ys latch pid given none r number small sent = let e : times_sent number pid (xs ++ ys) ≡ times_sent number pid xs + times_sent number pid ys = sent-append number pid xs ys in
    let z : times_sent number pid ys ≡ 0 = none number in r number small (omega arith)

pub no_release : (pid : ℕ) → NotReleased pid []
no_release pid kind g h = let l : h.0 < 0 = h.1 in absurd (omega arith)

pub not_released-append : (pid : ℕ) (xs ys : List RosterStep) → NotReleased pid xs → NotReleased pid ys → NotReleased pid (xs ++ ys)
not_released-append pid xs ys a b kind g h = ⊎_elim (a kind g) (b kind g) (Contains-append_cases xs ys _ h)

pub assign_is_no_release : (slot pid p g : ℕ) (kind : Kind) → NotReleased pid (Assign slot p kind g ∷ [])
assign_is_no_release slot pid p g kind kind' g' h = let no_ : Assign slot p kind g ≡ Release pid kind' g' = only _ _ h in absurd (cc)

pub quit_is_no_release : (pid g : ℕ) (why : Reason) → NotReleased pid (Quit why g ∷ [])
quit_is_no_release pid g why kind' g' h = let no_ : Quit why g ≡ Release pid kind' g' = only _ _ h in absurd (cc)

pub ready_is_no_release : (pid g : ℕ) → NotReleased pid (Ready g ∷ [])
ready_is_no_release pid g kind' g' h = let no_ : Ready g ≡ Release pid kind' g' = only _ _ h in absurd (cc)

pub reset_is_no_release : (pid g : ℕ) → NotReleased pid (Reset g ∷ [])
reset_is_no_release pid g kind' g' h = let no_ : Reset g ≡ Release pid kind' g' = only _ _ h in absurd (cc)

pub send_is_no_release : (slot pid p g : ℕ) (kind : Kind) (signal : Signal) → NotReleased pid (Send slot p kind signal g ∷ [])
send_is_no_release slot pid p g kind signal kind' g' h = let no_ : Send slot p kind signal g ≡ Release pid kind' g' = only _ _ h in absurd (cc)

pub release_is_other : (pid p g : ℕ) (kind : Kind) → pid ≢ p → NotReleased pid (Release p kind g ∷ [])
release_is_other pid p g kind ne kind' g' h = let same : Release p kind g ≡ Release pid kind' g' = only _ _ h in let it : p ≡ pid = cc in absurd (ne (sym it))

pub assigned-append : {D : Type 0} (xs ys : List RosterStep) (o : Offer D) → IsAssignedBy xs o → NotReleased o.pid ys → IsAssignedBy (xs ++ ys) o
assigned-append xs ys o h none = ((h.0.0, Contains-append_left xs ys _ h.0.1), not_released-append o.pid xs ys h.1 none)

module _ {D : Type 0} (limit : SessionLimit) where
  answered-append : (xs ys : List RosterStep) (o : Offer D) (answer : Attempt) → AnsweredBefore (doings xs limit) o answer → AnsweredBefore (doings (xs ++ ys) limit) o answer
  answered-append xs ys o answer h = (h.0, h.1 ++ ys, ap (λ z. z ++ ys) h.2 ∙ append_assoc h.0 h.1 ys, h.3, h.4, h.5)

  -- what the gate answers a child that isn't released stands before its release
  pub answered_now : (steps : List RosterStep) (o : Offer D) (gate : Gate) (answer : Attempt) → gate_of_steps first_gate steps ≡ gate → IsAssignedBy steps o → gate.generation ≡ o.generation → GateAnswers limit o.kind gate answer → AnsweredBefore (doings steps limit) o answer
  answered_now steps o gate answer leave there own is = (steps, [], sym (append-nil steps), there, ap (λ (z : Gate). z.generation) leave ∙ own, subst (λ (z : Gate). GateAnswers limit o.kind z answer) (sym leave) is)

  module _ (xs ys : List RosterStep) (before after : ℕ → ℕ → Type 0) (grow : (pid times : ℕ) → before pid times → after pid times) where
    pub heard-more : (o : Offer D) (h : Heard) → HeardRightly (doings xs limit) before o h → HeardRightly (doings (xs ++ ys) limit) after o h
    heard-more o h r = record {
      sent = λ number. subst (λ (z : ℕ). times_given number h.given ≤ z) (sym (sent-append number o.pid xs ys)) (let was : times_given number h.given ≤ times_sent number o.pid xs = r.sent number in omega arith);
      cancels = grow o.pid (times_told h.given + bit h.heeded) r.cancels;
      shown = λ answer e. answered-append xs ys o answer (r.shown answer e);
    }

    pub hears-more : (latch : ℕ) (o : Offer D) (h : Heard) → HearsRightly (doings xs limit) before latch o h → HearsRightly (doings (xs ++ ys) limit) after latch o h
    hears-more latch o h r = record {
      so_far = heard-more o h r.so_far;
      still = λ number small. subst (λ (z : ℕ). times_given number h.given + bit_at latch number ≤ z) (sym (sent-append number o.pid xs ys)) (let was : times_given number h.given + bit_at latch number ≤ times_sent number o.pid xs = r.still number small in omega arith);
    }

-- the words after the gate's stay where another word changes
far : (n j i word : ℕ) (words : List ℕ) → i ≤ n → (latch_at n (set words i word) j ≡ latch_at n words j) × (cancel_at n (set words i word) j ≡ cancel_at n words j)
far n j i word words le = (get_or-set_other words i (n + 1 + j) word 0 (λ e. absurd (omega arith)), get_or-set_other words i (n + 1 + n + j) word 0 (λ e. absurd (omega arith)))

same_answer : (a b : Attempt) → Some a ≡ Some b → a ≡ b
same_answer a b e = cc

-- a child that has gone to the gate
pub hears_met : {D : Type 0} (limit : SessionLimit) (steps : List RosterStep) (x : ℕ → ℕ → Type 0) (latch : ℕ) (o : Offer D) (h : Heard) (answer : Attempt) → HearsRightly (doings steps limit) x latch o h
    → AnsweredBefore (doings steps limit) o answer
    → HearsRightly (doings steps limit) x latch o record h { met = Some answer }
hears_met limit steps x latch o h answer r shown = record {
  so_far = record { sent = r.so_far.sent; cancels = r.so_far.cancels; shown = λ told e. subst (AnsweredBefore (doings steps limit) o) (same_answer answer told e) shown };
  still = r.still;
}

-- a child that has just started has heard nothing
pub hears_first : {D : Type 0} (limit : SessionLimit) (steps : List RosterStep) (x : ℕ → ℕ → Type 0) (latch : ℕ) (o : Offer D) (cancel : ℕ) → ((p : ℕ) → x p 0) → (0 < cancel → x cancel 1) → latch_pid latch ≡ o.pid → ((number : ℕ) → number < 5 → bit_at latch number ≤ times_sent number (latch_pid latch) steps) → HearsRightly (doings steps limit) (beside x cancel) latch o no_signals
hears_first limit steps x latch o cancel none made is standing = record {
  so_far = record { sent = λ number. omega arith; cancels = first cancel o.pid x none made; shown = λ told e. absurd (cc) };
  still = λ number small. subst (λ (z : ℕ). 0 + bit_at latch number ≤ times_sent number z steps) is (omega (arith, standing number small));
}
  where
    first : (c p : ℕ) (x : ℕ → ℕ → Type 0) → ((p : ℕ) → x p 0) → (0 < c → x c 1) → x p (0 + waiting c p)
    first zero p x none made = none p
    first (suc c) p x none made = dite (ℕ_discrete (suc c) p)
        (λ e. subst (x p) (let one : bit (suc c == p) ≡ 1 = ap bit (eq-eqb (suc c) p e) in let y : 1 ≡ 0 + waiting (suc c) p = omega arith in y) (subst (λ (z : ℕ). x z 1) e (made (omega arith))))
        (λ ne. subst (x p) (let zero_ : bit (suc c == p) ≡ 0 = ap bit (ne_eqb (suc c) p ne) in let y : 0 ≡ 0 + waiting (suc c) p = omega arith in y) (none p))

sum_nothing : (n : ℕ) → sum_below n (λ _. 0) ≡ 0
sum_nothing zero = refl
sum_nothing (suc n) = let h : sum_below n (λ _. 0) ≡ 0 = sum_nothing n in omega arith

-- a term is within the sum
pub a_term : (n : ℕ) (f : ℕ → ℕ) (j : ℕ) → j < n → f j ≤ sum_below n f
a_term zero f j l = absurd (omega arith)
a_term (suc n) f j l = dite (ℕ_discrete j n)
    (λ is. subst (λ (i : ℕ). f i ≤ sum_below (suc n) f) (sym is) (omega arith))
    (λ ne. let h : f j ≤ sum_below n f = a_term n f j (omega arith) in omega arith)

nothing_cancelled : (P : ℕ → ℕ → Type 0) → 0 < 0 → P 0 1
nothing_cancelled P pos = absurd (omega arith)

module _ {D : Type 0} where
  pub running_map : (P Q : Offer D → Type 0) (ph : Phase D) → ((o : Offer D) → P o → Q o) → OfRunning P ph → OfRunning Q ph
  running_map P Q (running o a) f h = f o h
  running_map P Q unused f h = tt
  running_map P Q (opened q) f h = tt
  running_map P Q (offered o) f h = tt
  running_map P Q (ended o st a b) f h = tt
  running_map P Q (collected o st a) f h = tt
  running_map P Q gathered f h = tt

  pub unreleased_both : (P Q R : Offer D → Type 0) (ph : Phase D) → ((o : Offer D) → P o → Q o → R o) → OfUnreleased P ph → OfUnreleased Q ph → OfUnreleased R ph
  unreleased_both P Q R (offered o) f h i = f o h i
  unreleased_both P Q R (running o a) f h i = f o h i
  unreleased_both P Q R (ended o st a b) f h i = f o h i
  unreleased_both P Q R unused f h i = tt
  unreleased_both P Q R (opened q) f h i = tt
  unreleased_both P Q R (collected o st a) f h i = tt
  unreleased_both P Q R gathered f h i = tt

  pub unreleased_all : (P : Offer D → Type 0) (ph : Phase D) → ((o : Offer D) → P o) → OfUnreleased P ph
  unreleased_all P (offered o) f = f o
  unreleased_all P (running o a) f = f o
  unreleased_all P (ended o st a b) f = f o
  unreleased_all P unused f = tt
  unreleased_all P (opened q) f = tt
  unreleased_all P (collected o st a) f = tt
  unreleased_all P gathered f = tt

  reaches-more : (xs ys : List RosterStep) (latch : ℕ) (given : List Signals) (ph : Phase D) → OfUnreleased (λ o. NotSent o.pid ys) ph → ReachesIn xs latch given ph → ReachesIn (xs ++ ys) latch given ph
  reaches-more xs ys latch given (offered o) none r = reach-more xs ys latch o.pid [] none r
  reaches-more xs ys latch given (running o a) none r = reach-more xs ys latch o.pid given none r
  reaches-more xs ys latch given (ended o st a b) none r = reach-more xs ys latch o.pid given none r
  reaches-more xs ys latch given unused none r = tt
  reaches-more xs ys latch given (opened q) none r = tt
  reaches-more xs ys latch given (collected o st a) none r = tt
  reaches-more xs ys latch given gathered none r = tt

  pub each-append : (P : PastChild D → Heard → Type 0) (xs : List (PastChild D)) (hs : List Heard) (x : PastChild D) (h : Heard) → EachHeard P xs hs → P x h → EachHeard P (xs ++ x ∷ []) (hs ++ h ∷ [])
  each-append P [] [] x h all new = (new, tt)
  each-append P (y ∷ xs) (i ∷ hs) x h all new = (all.0, each-append P xs hs x h all.1 new)
  each-append P [] (i ∷ hs) x h all new = absurd all
  each-append P (y ∷ xs) [] x h all new = absurd all

  pub each-map : (P Q : PastChild D → Heard → Type 0) → ((x : PastChild D) (h : Heard) → P x h → Q x h) → (xs : List (PastChild D)) (hs : List Heard) → EachHeard P xs hs → EachHeard Q xs hs
  each-map P Q f [] [] all = tt
  each-map P Q f (y ∷ xs) (i ∷ hs) all = (f y i all.0, each-map P Q f xs hs all.1)
  each-map P Q f [] (i ∷ hs) all = absurd all
  each-map P Q f (y ∷ xs) [] all = absurd all

  -- a latch's words stay right as steps and cancels are added
  pub latch-more : (xs ys : List RosterStep) (before after : ℕ → ℕ → Type 0) (made : ℕ → ℕ) (latch cancel : ℕ) (c : Cell D) → ((pid times : ℕ) → before pid times → after pid times) → OfUnreleased (λ o. NotReleased o.pid ys) c.phase → OfUnreleased (λ o. NotSent o.pid ys) c.phase
      → LatchOk xs before made latch cancel c → LatchOk (xs ++ ys) after made latch cancel c
  latch-more xs ys before after made latch cancel c grow none silent ok = record {
    armed = ok.armed;
    fits = ok.fits;
    standing = λ number small. subst (λ (z : ℕ). bit_at latch number ≤ z) (sym (sent-append number (latch_pid latch) xs ys)) (omega (arith, ok.standing number small));
    cancel_is = λ pos. grow cancel 1 (ok.cancel_is pos);
    now = running_map _ _ c.phase (λ o h. hears-more c.post.notes.session_limit xs ys (beside before cancel) (beside after cancel) (λ pid times. grow pid (times + waiting cancel pid)) latch o c.post.notes.now h) ok.now;
    past = each-map _ _ (λ x h r. heard-more c.post.notes.session_limit xs ys (beside before cancel) (beside after cancel) (λ pid times. grow pid (times + waiting cancel pid)) x.offer h r) c.post.past c.post.notes.heard ok.past;
    unreleased = unreleased_both _ _ _ c.phase (λ o a b. assigned-append xs ys o a b) ok.unreleased none;
    named = ok.named;
    keyed = ok.keyed;
    reaches = reaches-more xs ys latch c.post.notes.now.given c.phase silent ok.reaches;
    calls = ok.calls;
  }

  -- so they do once the supervisor has made these steps, and once it has released the slot's child
  pub latch_stepped : (xs ys : List RosterStep) (x : ℕ → ℕ → Type 0) (made : ℕ → ℕ) (latch cancel : ℕ) (ph : Phase D) (seat : ℕ) (w : PostView D) → OfUnreleased (λ o. NotReleased o.pid ys) ph → OfUnreleased (λ o. NotSent o.pid ys) ph
      → LatchOk xs x made latch cancel record { phase = ph; seat = seat; post = w } → LatchOk (xs ++ ys) x made latch cancel record { phase = ph; seat = seat; post = w }
  latch_stepped xs ys x made latch cancel ph seat w none silent ok = latch-more xs ys x x made latch cancel record { phase = ph; seat = seat; post = w } (λ _ _ z. z) none silent ok

  pub latch_released : (xs ys : List RosterStep) (x : ℕ → ℕ → Type 0) (made : ℕ → ℕ) (latch cancel : ℕ) (o : Offer D) (st : Status) (a : Bool) (b : D) (seat : ℕ) (w : PostView D) → LatchOk xs x made latch cancel record { phase = ended o st a b; seat = seat; post = w }
      → LatchOk (xs ++ ys) x made latch cancel record { phase = collected o st a; seat = seat; post = w }
  latch_released xs ys x made latch cancel o st a b seat w ok = latch_stepped xs ys x made latch cancel (collected o st a) seat w tt tt
      record { armed = ok.armed; fits = ok.fits; standing = ok.standing; cancel_is = ok.cancel_is; now = tt; past = ok.past; unreleased = tt; named = tt; keyed = ok.keyed; reaches = tt; calls = tt }

  -- no cancel more was made
  calls-fewer : (made made' : ℕ → ℕ) (cancel : ℕ) (h : Heard) (ph : Phase D) → ((pid : ℕ) → made' pid ≤ made pid) → CallsIn made cancel h ph → CallsIn made' cancel h ph
  calls-fewer made made' cancel h (offered o) fewer r = λ pos. let f : made' o.pid ≤ made o.pid = fewer o.pid in r (omega arith)
  calls-fewer made made' cancel h (running o a) fewer r = λ pos. let f : made' o.pid ≤ made o.pid = fewer o.pid in r (omega arith)
  calls-fewer made made' cancel h unused fewer r = tt
  calls-fewer made made' cancel h (opened q) fewer r = tt
  calls-fewer made made' cancel h (ended o st a b) fewer r = tt
  calls-fewer made made' cancel h (collected o st a) fewer r = tt
  calls-fewer made made' cancel h gathered fewer r = tt

  pub recount_latch : (steps : List RosterStep) (x : ℕ → ℕ → Type 0) (made made' : ℕ → ℕ) (latch cancel : ℕ) (c : Cell D) → ((pid : ℕ) → made' pid ≤ made pid) → LatchOk steps x made latch cancel c → LatchOk steps x made' latch cancel c
  recount_latch steps x made made' latch cancel c fewer ok = record { armed = ok.armed; fits = ok.fits; standing = ok.standing; cancel_is = ok.cancel_is; now = ok.now; past = ok.past; unreleased = ok.unreleased; named = ok.named; keyed = ok.keyed; reaches = ok.reaches; calls = calls-fewer made made' cancel c.post.notes.now c.phase fewer ok.calls }

  pub recount : (made made' : ℕ → ℕ → ℕ) (n : ℕ) (words : List ℕ) (d : RosterView D) (cells : ℕ → Cell D) → ((k pid : ℕ) → made' k pid ≤ made k pid) → LatchesOf made n words d cells → LatchesOf made' n words d cells
  recount made made' n words d cells fewer ok = record {
    each = λ k l. recount_latch _ _ (made k) (made' k) _ _ (cells k) (fewer k) (ok.each k l);
    noticed = ok.noticed;
    fresh = ok.fresh;
    unsent = ok.unsent;
    ahead = λ k l pid above pos. let f : made' k pid ≤ made k pid = fewer k pid in ok.ahead k l pid above (omega arith);
  }

  -- the cell that moves has made no cancel more
  abbrev pub CancelsSame : Cell D → Cell D → Type 0
  CancelsSame b c = c.post.notes.cancels ≡ b.post.notes.cancels

  pub count_same : (n k : ℕ) (cells : ℕ → Cell D) (c : Cell D) → k < n → CancelsSame (cells k) c → (j pid : ℕ) → made_on n (put cells k c) j pid ≤ made_on n cells j pid
  count_same n k cells c near same j pid =
      let F : PostView D → ℕ = λ w. times_made_on j pid w.notes.cancels in
      let all : sum_below n (λ i. F (put cells k c i).post) + F (cells k).post ≡ sum_below n (λ i. F (cells i).post) + F c.post = count_moves F cells n k c (cells k).post near refl in
      let e : F c.post ≡ F (cells k).post = ap (times_made_on j pid) same in omega arith

  -- a latch's words, of a slot whose phase and worker are known
  pub latch_here : (steps : List RosterStep) (x : ℕ → ℕ → Type 0) (made : ℕ → ℕ) (latch cancel : ℕ) (c : Cell D) (ph : Phase D) (w : PostView D) → c.phase ≡ ph → c.post ≡ w → LatchOk steps x made latch cancel c → LatchOk steps x made latch cancel record { phase = ph; seat = c.seat; post = w }
  latch_here steps x made latch cancel c ph w e is ok = subst (λ (z : Phase D × PostView D). LatchOk steps x made latch cancel record { phase = z.0; seat = c.seat; post = z.1 }) {x = (c.phase, c.post)} {y = (ph, w)} (λ i. (e i, is i)) ok

  abbrev pub CancelsGrow : Cell D → Cell D → Type 0
  CancelsGrow b c = (pid : ℕ) → times_made pid b.post.notes.cancels ≤ times_made pid c.post.notes.cancels

  -- a step that makes no cancel
  pub cancels_stay : (pid : ℕ) (w w' : PostView D) → w ≡ w' → times_made pid w.notes.cancels ≤ times_made pid w'.notes.cancels
  cancels_stay pid w w' is = let e : times_made pid w.notes.cancels ≡ times_made pid w'.notes.cancels = ap (λ (z : PostView D). times_made pid z.notes.cancels) is in omega arith

  pub cancelled_more : (n k : ℕ) (cells : ℕ → Cell D) (c : Cell D) → k < n → CancelsGrow (cells k) c → (pid times : ℕ) → WereMade n cells pid times → WereMade n (put cells k c) pid times
  cancelled_more n k cells c near grow pid times made =
      let F : PostView D → ℕ = λ w. times_made pid w.notes.cancels in
      let all : sum_below n (λ j. F (put cells k c j).post) + F (cells k).post ≡ sum_below n (λ j. F (cells j).post) + F c.post = count_moves F cells n k c (cells k).post near refl in
      let up : F (cells k).post ≤ F c.post = grow pid in omega arith

  grows : (b c : Cell D) → CancelsSame b c → CancelsGrow b c
  grows b c same pid = let e : times_made pid c.post.notes.cancels ≡ times_made pid b.post.notes.cancels = ap (times_made pid) same in omega arith

  module _ (made : ℕ → ℕ → ℕ) (n k : ℕ) (words words' : List ℕ) (d d' : RosterView D) (cells : ℕ → Cell D) (c : Cell D) where
    -- the slot k moves, and with it its latch and its cancels; the supervisor has made these steps
    pub latches_move : k < n → (zs : List RosterStep) → d'.notes.steps ≡ d.notes.steps ++ zs → ((pid : ℕ) → NotSent pid zs) → d.notes.last_pid ≤ d'.notes.last_pid
        → ((j : ℕ) → j < n → j ≢ k → (latch_at n words' j ≡ latch_at n words j) × (cancel_at n words' j ≡ cancel_at n words j))
        → CancelsGrow (cells k) c → ((j : ℕ) → j < n → j ≢ k → OfUnreleased (λ o. NotReleased o.pid zs) (cells j).phase)
        → ((why : Reason) → d'.noticed ≡ Some why → Contains d'.notes.steps (Quit why d'.generation)) → ((pid : ℕ) → d'.notes.last_pid < pid → NotReleased pid d'.notes.steps)
        → ((p : ℕ) → d.notes.last_pid < p → p ≤ cancel_at n words k → p ≤ cancel_at n words' k)
        → LatchOk d'.notes.steps (WereMade n (put cells k c)) (made k) (latch_at n words' k) (cancel_at n words' k) c
        → LatchesOf made n words d cells → LatchesOf made n words' d' (put cells k c)
    latches_move near zs more silent up same grow others noticed fresh waits own ok = record {
      each = λ j l. at_put cells k c (λ q y. q < n → LatchOk d'.notes.steps (WereMade n (put cells k c)) (made q) (latch_at n words' q) (cancel_at n words' q) y) j (λ _. own)
          (λ ne l'. subst (λ (z : ℕ × ℕ × List RosterStep). LatchOk z.2 (WereMade n (put cells k c)) (made j) z.0 z.1 (cells j))
          {x = (latch_at n words j, cancel_at n words j, d.notes.steps ++ zs)} {y = (latch_at n words' j, cancel_at n words' j, d'.notes.steps)}
          (λ i. (sym (same j l' ne).0 i, sym (same j l' ne).1 i, sym more i))
          (latch-more d.notes.steps zs (WereMade n cells) (WereMade n (put cells k c)) (made j) (latch_at n words j) (cancel_at n words j) (cells j) (cancelled_more n k cells c near grow) (others j l' ne) (unreleased_all _ (cells j).phase (λ o. silent o.pid)) (ok.each j l'))) l;
      noticed = noticed;
      fresh = fresh;
      unsent = unsent-append d.notes.last_pid d'.notes.last_pid d.notes.steps d'.notes.steps zs more up (λ pid _. silent pid) ok.unsent;
      ahead = λ j l p above pos. let was : p ≤ cancel_at n words j = ok.ahead j l p (omega arith) pos in dite (ℕ_discrete j k)
          (λ is. subst (λ (q : ℕ). p ≤ cancel_at n words' q) (sym is) (waits p (omega arith) (subst (λ (q : ℕ). p ≤ cancel_at n words q) is was)))
          (λ ne. subst (λ (z : ℕ). p ≤ z) (sym (same j l ne).1) was);
    }

  module _ (n k i word : ℕ) (words : List ℕ) (d d' : RosterView D) (cells : ℕ → Cell D) (c : Cell D) (le : (i ≤ n) × (k < n)) (still : CancelsSame (cells k) c) where
    -- a step on the word of a slot or of the gate, with these steps of the supervisor
    pub latches_pass : (zs : List RosterStep) → d'.notes.steps ≡ d.notes.steps ++ zs → ((pid : ℕ) → NotSent pid zs) → d.notes.last_pid ≤ d'.notes.last_pid
        → ((j : ℕ) → j < n → j ≢ k → OfUnreleased (λ o. NotReleased o.pid zs) (cells j).phase)
        → ((why : Reason) → d'.noticed ≡ Some why → Contains d'.notes.steps (Quit why d'.generation)) → ((pid : ℕ) → d'.notes.last_pid < pid → NotReleased pid d'.notes.steps)
        → LatchOk (d.notes.steps ++ zs) (WereMade n cells) (made_on n cells k) (latch_at n words k) (cancel_at n words k) c
        → Latches n words d cells → Latches n (set words i word) d' (put cells k c)
    latches_pass zs more silent up others noticed fresh own ok =
        recount (made_on n cells) (made_on n (put cells k c)) n (set words i word) d' (put cells k c) (count_same n k cells c le.1 still) (latches_move (made_on n cells) n k words (set words i word) d d' cells c le.1 zs more silent up (λ j _ _. far n j i word words le.0) (grows (cells k) c still) others noticed fresh (λ p _ was. subst (λ (z : ℕ). p ≤ z) (sym (far n k i word words le.0).1) was)
        (subst (λ (z : ℕ × ℕ × List RosterStep). LatchOk z.2 (WereMade n (put cells k c)) (made_on n cells k) z.0 z.1 c)
        {x = (latch_at n words k, cancel_at n words k, (d.notes.steps ++ zs) ++ [])} {y = (latch_at n (set words i word) k, cancel_at n (set words i word) k, d'.notes.steps)}
        (λ j. (sym (far n k i word words le.0).0 j, sym (far n k i word words le.0).1 j, (append-nil (d.notes.steps ++ zs) ∙ sym more) j))
        (latch-more (d.notes.steps ++ zs) [] (WereMade n cells) (WereMade n (put cells k c)) (made_on n cells k) (latch_at n words k) (cancel_at n words k) c (cancelled_more n k cells c le.1 (grows (cells k) c still)) (unreleased_all _ c.phase (λ o. no_release o.pid)) (unreleased_all _ c.phase (λ o. sends_nothing o.pid)) own))
        ok)

  -- the slot k moves, by a step that is none of the supervisor's noted steps
  pub latches_moved : (made : ℕ → ℕ → ℕ) (n k : ℕ) (words words' : List ℕ) (d d' : RosterView D) (cells : ℕ → Cell D) (c : Cell D) → k < n
      → ((j : ℕ) → j < n → j ≢ k → (latch_at n words' j ≡ latch_at n words j) × (cancel_at n words' j ≡ cancel_at n words j)) → CancelsGrow (cells k) c
      → d'.notes.steps ≡ d.notes.steps → d'.noticed ≡ d.noticed → d'.generation ≡ d.generation → d'.notes.last_pid ≡ d.notes.last_pid
      → ((p : ℕ) → d.notes.last_pid < p → p ≤ cancel_at n words k → p ≤ cancel_at n words' k)
      → LatchOk d.notes.steps (WereMade n cells) (made k) (latch_at n words' k) (cancel_at n words' k) c
      → LatchesOf made n words d cells → LatchesOf made n words' d' (put cells k c)
  latches_moved made n k words words' d d' cells c near others grow same en eg el waits own ok =
      latches_move made n k words words' d d' cells c near [] (same ∙ sym (append-nil d.notes.steps)) sends_nothing (omega arith) others grow (λ j _ _. unreleased_all _ (cells j).phase (λ o. no_release o.pid))
      (λ why is. subst (λ (z : List RosterStep × ℕ). Contains z.0 (Quit why z.1)) (λ j. (sym same j, sym eg j)) (ok.noticed why (sym en ∙ is)))
      (λ pid above. subst (NotReleased pid) (sym same) (ok.fresh pid (subst (λ (z : ℕ). z < pid) el above))) waits
      (subst (λ (z : List RosterStep). LatchOk z (WereMade n (put cells k c)) (made k) (latch_at n words' k) (cancel_at n words' k) c) (append-nil d.notes.steps ∙ sym same)
      (latch-more d.notes.steps [] (WereMade n cells) (WereMade n (put cells k c)) (made k) (latch_at n words' k) (cancel_at n words' k) c (cancelled_more n k cells c near grow) (unreleased_all _ c.phase (λ o. no_release o.pid)) (unreleased_all _ c.phase (λ o. sends_nothing o.pid)) own))
      ok

  -- the same where the step is on the word of a slot or of the gate
  pub latches_still : (n k i word : ℕ) (words : List ℕ) (d d' : RosterView D) (cells : ℕ → Cell D) (c : Cell D) → (i ≤ n) × (k < n) → CancelsSame (cells k) c
      → d'.notes.steps ≡ d.notes.steps → d'.noticed ≡ d.noticed → d'.generation ≡ d.generation → d'.notes.last_pid ≡ d.notes.last_pid
      → LatchOk d.notes.steps (WereMade n cells) (made_on n cells k) (latch_at n words k) (cancel_at n words k) c
      → Latches n words d cells → Latches n (set words i word) d' (put cells k c)
  latches_still n k i word words d d' cells c le still same en eg el own ok =
      recount (made_on n cells) (made_on n (put cells k c)) n (set words i word) d' (put cells k c) (count_same n k cells c le.1 still) (latches_moved (made_on n cells) n k words (set words i word) d d' cells c le.1 (λ j _ _. far n j i word words le.0) (grows (cells k) c still) same en eg el (λ p _ was. subst (λ (z : ℕ). p ≤ z) (sym (far n k i word words le.0).1) was)
      (subst (λ (z : ℕ × ℕ). LatchOk d.notes.steps (WereMade n cells) (made_on n cells k) z.0 z.1 c) {x = (latch_at n words k, cancel_at n words k)} {y = (latch_at n (set words i word) k, cancel_at n (set words i word) k)}
      (λ j. (sym (far n k i word words le.0).0 j, sym (far n k i word words le.0).1 j)) own)
      ok)

  -- a step of the supervisor that releases nobody and moves no slot
  pub latches_turn : (n i word : ℕ) (words : List ℕ) (d d' : RosterView D) (cells : ℕ → Cell D) (s : RosterStep) → i ≤ n → d'.notes.steps ≡ d.notes.steps ++ s ∷ [] → d'.notes.last_pid ≡ d.notes.last_pid → ((pid : ℕ) → NotReleased pid (s ∷ [])) → ((pid : ℕ) → NotSent pid (s ∷ []))
      → ((why : Reason) → d'.noticed ≡ Some why → Contains d'.notes.steps (Quit why d'.generation))
      → Latches n words d cells → Latches n (set words i word) d' cells
  latches_turn n i word words d d' cells s le more el none silent noticed ok = record {
    each = λ j l. subst (λ (z : ℕ × ℕ × List RosterStep). LatchOk z.2 (WereMade n cells) (made_on n cells j) z.0 z.1 (cells j))
        {x = (latch_at n words j, cancel_at n words j, d.notes.steps ++ s ∷ [])} {y = (latch_at n (set words i word) j, cancel_at n (set words i word) j, d'.notes.steps)}
        (λ u. (sym (far n j i word words le).0 u, sym (far n j i word words le).1 u, sym more u))
        (steps_more n words d cells s none silent ok j l);
    noticed = noticed;
    fresh = fresh_more d d' s more el none ok.fresh;
    unsent = unsent-append d.notes.last_pid d'.notes.last_pid d.notes.steps d'.notes.steps (s ∷ []) more (omega arith) (λ pid _. silent pid) ok.unsent;
    ahead = λ j l p above pos. subst (λ (z : ℕ). p ≤ z) (sym (far n j i word words le).1) (ok.ahead j l p (omega arith) pos);
  }
    where
      fresh_more : (d d' : RosterView D) (s : RosterStep) → d'.notes.steps ≡ d.notes.steps ++ s ∷ [] → d'.notes.last_pid ≡ d.notes.last_pid → ((pid : ℕ) → NotReleased pid (s ∷ [])) → ((pid : ℕ) → d.notes.last_pid < pid → NotReleased pid d.notes.steps)
          → (pid : ℕ) → d'.notes.last_pid < pid → NotReleased pid d'.notes.steps
      fresh_more d d' s more el none fresh pid above = subst (NotReleased pid) (sym more) (not_released-append pid d.notes.steps (s ∷ []) (fresh pid (subst (λ (z : ℕ). z < pid) el above)) (none pid))

      steps_more : (n : ℕ) (words : List ℕ) (d : RosterView D) (cells : ℕ → Cell D) (s : RosterStep) → ((pid : ℕ) → NotReleased pid (s ∷ [])) → ((pid : ℕ) → NotSent pid (s ∷ [])) → Latches n words d cells → (j : ℕ) → j < n → LatchOk (d.notes.steps ++ s ∷ []) (WereMade n cells) (made_on n cells j) (latch_at n words j) (cancel_at n words j) (cells j)
      steps_more n words d cells s none silent ok j l = latch-more d.notes.steps (s ∷ []) (WereMade n cells) (WereMade n cells) (made_on n cells j) (latch_at n words j) (cancel_at n words j) (cells j) (λ _ _ w. w) (unreleased_all _ (cells j).phase (λ o. none o.pid)) (unreleased_all _ (cells j).phase (λ o. silent o.pid)) (ok.each j l)

  -- a step on the latch or the cancels of the slot k that moves no slot, with which the supervisor has made this step, if it made one
  pub latches_word : (made made' : ℕ → ℕ → ℕ) (n k : ℕ) (words words' : List ℕ) (d d' : RosterView D) (cells : ℕ → Cell D) (zs : List RosterStep) → d'.notes.steps ≡ d.notes.steps ++ zs → d'.notes.last_pid ≡ d.notes.last_pid → ((pid : ℕ) → NotReleased pid zs)
      → ((j : ℕ) → j < n → j ≢ k → OfUnreleased (λ o. NotSent o.pid zs) (cells j).phase) → ((pid : ℕ) → d.notes.last_pid < pid → NotSent pid zs)
      → ((why : Reason) → d'.noticed ≡ Some why → Contains d'.notes.steps (Quit why d'.generation))
      → ((j : ℕ) → j < n → j ≢ k → (latch_at n words' j ≡ latch_at n words j) × (cancel_at n words' j ≡ cancel_at n words j))
      → ((j pid : ℕ) → j ≢ k → made' j pid ≤ made j pid) → ((p : ℕ) → d.notes.last_pid < p → (0 < made k p → p ≤ cancel_at n words k) → 0 < made' k p → p ≤ cancel_at n words' k)
      → (k < n → LatchOk d'.notes.steps (WereMade n cells) (made' k) (latch_at n words' k) (cancel_at n words' k) (cells k))
      → LatchesOf made n words d cells → LatchesOf made' n words' d' cells
  latches_word made made' n k words words' d d' cells zs more el none others silent noticed same fewer waits own ok = record {
    each = λ j l. dite (ℕ_discrete j k)
        (λ is. subst (λ (q : ℕ). LatchOk d'.notes.steps (WereMade n cells) (made' q) (latch_at n words' q) (cancel_at n words' q) (cells q)) (sym is) (own (subst (λ (q : ℕ). q < n) is l)))
        (λ ne. subst (λ (z : ℕ × ℕ × List RosterStep). LatchOk z.2 (WereMade n cells) (made' j) z.0 z.1 (cells j))
        {x = (latch_at n words j, cancel_at n words j, d.notes.steps ++ zs)} {y = (latch_at n words' j, cancel_at n words' j, d'.notes.steps)}
        (λ u. (sym (same j l ne).0 u, sym (same j l ne).1 u, sym more u))
        (latch-more d.notes.steps zs (WereMade n cells) (WereMade n cells) (made' j) (latch_at n words j) (cancel_at n words j) (cells j) (λ _ _ w. w) (unreleased_all _ (cells j).phase (λ o. none o.pid)) (others j l ne) (recount_latch _ _ (made j) (made' j) _ _ (cells j) (λ pid. fewer j pid ne) (ok.each j l))));
    noticed = noticed;
    fresh = λ pid above. subst (NotReleased pid) (sym more) (not_released-append pid d.notes.steps zs (ok.fresh pid (subst (λ (z : ℕ). z < pid) el above)) (none pid));
    unsent = unsent-append d.notes.last_pid d'.notes.last_pid d.notes.steps d'.notes.steps zs more (omega arith) silent ok.unsent;
    ahead = λ j l p above pos. dite (ℕ_discrete j k)
        (λ is. subst (λ (q : ℕ). p ≤ cancel_at n words' q) (sym is) (waits p (omega arith) (λ some_. ok.ahead k (subst (λ (q : ℕ). q < n) is l) p (omega arith) some_) (subst (λ (q : ℕ). 0 < made' q p) is pos)))
        (λ ne. let f : made' j p ≤ made j p = fewer j p ne in subst (λ (z : ℕ). p ≤ z) (sym (same j l ne).1) (ok.ahead j l p (omega arith) (omega arith)));
  }

  abbrev blank : SessionLimit → Cell D
  blank limit = record { phase = unused; seat = 0; post = idle_post limit }

  -- nothing was sent yet
  pub first_latches : (n : ℕ) (words : List ℕ) (d : RosterView D) (limit : SessionLimit) → d.noticed ≡ None → d.notes.steps ≡ [] → ((k : ℕ) → k < n → latch_at n words k ≡ 0) → ((k : ℕ) → k < n → cancel_at n words k ≡ 0)
      → Latches n words d (λ _. record { phase = unused; seat = 0; post = idle_post limit })
  first_latches n words d limit none steps latches cancels = record {
    each = λ k l. subst (λ (z : ℕ × ℕ). LatchOk d.notes.steps (WereMade n (λ _. blank limit)) (made_on n (λ _. blank limit) k) z.0 z.1 (blank limit))
        {x = (0, 0)} {y = (latch_at n words k, cancel_at n words k)} (λ i. (sym (latches k l) i, sym (cancels k l) i))
        record { armed = tt; fits = omega arith; standing = λ number _. (let z : bit_at 0 number ≡ 0 = bit_at-zero number in omega arith); cancel_is = nothing_cancelled (WereMade n (λ _. blank limit)); now = tt; past = tt; unreleased = tt; named = tt; keyed = tt; reaches = tt; calls = tt };
    noticed = λ why is. let no_ : None ≡ Some why = sym none ∙ is in absurd (cc);
    fresh = λ pid _. subst (NotReleased pid) (sym steps) (no_release pid);
    unsent = λ pid _. subst (NotSent pid) (sym steps) (sends_nothing pid);
    ahead = λ k l pid above pos. let z : sum_below n (λ _. 0) ≡ 0 = sum_nothing n in absurd (omega arith);
  }
