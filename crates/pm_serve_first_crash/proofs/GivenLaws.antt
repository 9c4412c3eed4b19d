-- A child that was told something was given it in some answer.
use Rattle.std.{proofs.{Common.{◌≡◌, ◌⊎◌, inl, inr, ℕ, ◌+◌, ◌<◌, Bool, true, false, List, [], ◌∷◌, ◌++◌, Option, None, Some, refl, sym, ap, ◌∙◌, arith}, lemmas.{List.Elements.{All-contains, All-from_recursion}, Bool.eq-eqb}}, specs.{Prelude.{map, nat_eq}, List.{AllByRecursion, fold}}}
use Rattle.pm_serve_crew.specs.{pm_facts.{Lists.each_both, Numbers.above_zero}, pm_supervisor.declared.Reason.{Reason, TheVariants.{Crash, Stop}}, pm_child_life.{declared.life.Signals.Signals, Life.{Signal, Kill, Quit, Terminate, Cancel, Checkpoint, Told, asked_again, nothing_told, one_if, quit_in, signals_in, was_told}}, pm_board.{pm_board_words.{declared.views.Heard.Heard, Latch.{is_crash, is_given, is_stop}, Words.bit}, Latches.times_given}, pm_board_life.Lives.told_by}

-- the number of a signal that a child takes; a cancel has none of a latch
abbrev pub number_of : Signal → ℕ
number_of (Quit Crash) = 0
number_of (Quit Stop) = 1
number_of Terminate = 2
number_of Kill = 3
number_of Checkpoint = 4
number_of Cancel = 5

abbrev IsOther : ℕ → Signal → Type 0
IsOther n signal = nat_eq (number_of signal) n ≡ false

abbrev NoneIn : ℕ → List Signal → Type 0
NoneIn n signals = AllByRecursion (IsOther n) signals

-- a part of an answer
part : (n : ℕ) (stands : Bool) (signal : Signal) → (stands ≡ false) ⊎ IsOther n signal → NoneIn n (one_if stands signal)
part n false signal other = tt
part n true signal (inl is) = absurd (let never : true ≡ false = is in cc)
part n true signal (inr other) = (other, tt)

quit_part : (n : ℕ) (quit : Option Reason) → ((reason : Reason) → quit ≡ Some reason → IsOther n (Quit reason)) → NoneIn n (quit_in quit)
quit_part n None other = tt
quit_part n (Some reason) other = (other reason refl, tt)

answer : (n : ℕ) (s : Signals) → (s.kill ≡ false) ⊎ IsOther n Kill → ((reason : Reason) → s.quit ≡ Some reason → IsOther n (Quit reason)) → (s.terminate ≡ false) ⊎ IsOther n Terminate
    → IsOther n Cancel → (s.checkpoint ≡ false) ⊎ IsOther n Checkpoint → NoneIn n (signals_in s)
answer n s kill quit terminate cancel checkpoint =
    let a : List Signal = one_if s.kill Kill in
    let b : List Signal = quit_in s.quit in
    let c : List Signal = one_if s.terminate Terminate in
    let d : List Signal = one_if s.cancel Cancel in
    each_both (IsOther n) (((a ++ b) ++ c) ++ d) (one_if s.checkpoint Checkpoint)
    (each_both (IsOther n) ((a ++ b) ++ c) d
    (each_both (IsOther n) (a ++ b) c
    (each_both (IsOther n) a b (part n s.kill Kill kill) (quit_part n s.quit quit))
    (part n s.terminate Terminate terminate))
    (part n s.cancel Cancel (inr cancel)))
    (part n s.checkpoint Checkpoint checkpoint)

abbrev GivesNone : ℕ → Type 0
GivesNone n = (s : Signals) → is_given n s ≡ false → NoneIn n (signals_in s)

no_crash_quit : GivesNone 0
no_crash_quit s none = answer 0 s (inr refl) quit (inr refl) refl (inr refl)
  where
    quit : (reason : Reason) → s.quit ≡ Some reason → IsOther 0 (Quit reason)
    quit Crash is = absurd (let never : true ≡ false = sym (ap is_crash is) ∙ none in cc)
    quit Stop is = refl

no_stop_quit : GivesNone 1
no_stop_quit s none = answer 1 s (inr refl) quit (inr refl) refl (inr refl)
  where
    quit : (reason : Reason) → s.quit ≡ Some reason → IsOther 1 (Quit reason)
    quit Stop is = absurd (let never : true ≡ false = sym (ap is_stop is) ∙ none in cc)
    quit Crash is = refl

-- of another number than those of the quits
no_quit : (n : ℕ) → (reason : Reason) → 1 < n → IsOther n (Quit reason)
no_quit n Crash up = grind arith
no_quit n Stop up = grind arith

no_terminate : GivesNone 2
no_terminate s none = answer 2 s (inr refl) (λ reason is. no_quit 2 reason (omega arith)) (inl none) refl (inr refl)

no_kill : GivesNone 3
no_kill s none = answer 3 s (inl none) (λ reason is. no_quit 3 reason (omega arith)) (inr refl) refl (inr refl)

no_checkpoint : GivesNone 4
no_checkpoint s none = answer 4 s (inr refl) (λ reason is. no_quit 4 reason (omega arith)) (inr refl) refl (inl none)

-- ---- all answers

abbrev NoneGiven : ℕ → List (ℕ × Signal) → Type 0
NoneGiven n given = AllByRecursion (λ x. IsOther n x.1) given

numbered_none : (n ask : ℕ) (signals : List Signal) → NoneIn n signals → NoneGiven n (map (λ signal. (ask, signal)) signals)
numbered_none n ask [] none = tt
numbered_none n ask (signal ∷ signals) none = (none.0, numbered_none n ask signals none.1)

first_zero : (b : Bool) (rest : ℕ) → bit b + rest ≡ 0 → (b ≡ false) × (rest ≡ 0)
first_zero true rest is = absurd (let none : 1 + rest ≡ 0 = is in omega (arith, none))
first_zero false rest is = (refl, (let none : 0 + rest ≡ 0 = is in omega (arith, none)))

none_told : (n : ℕ) → GivesNone n → (answers : List Signals) (told : Told) → times_given n answers ≡ 0 → NoneGiven n told.given
    → NoneGiven n (fold (λ t signals. asked_again signals t) told answers).given
none_told n gives [] told none so_far = so_far
none_told n gives (s ∷ answers) told none so_far =
    let parts = first_zero (is_given n s) (times_given n answers) none in
    none_told n gives answers (asked_again s told) parts.1
    (each_both (λ x. IsOther n x.1) told.given (map (λ signal. ((asked_again s told).asked, signal)) (signals_in s)) so_far (numbered_none n (asked_again s told).asked (signals_in s) (gives s parts.0)))

given : (signal : Signal) → GivesNone (number_of signal) → (heard : Heard) (cancel : Option (ℕ × ℕ)) → was_told signal (told_by heard cancel) → 0 < times_given (number_of signal) heard.given
given signal gives heard cancel told =
    above_zero (times_given (number_of signal) heard.given) (λ none.
    let other : IsOther (number_of signal) signal =
    All-contains (λ x. IsOther (number_of signal) x.1) (told_by heard cancel).given (told.0, signal)
    (All-from_recursion (λ x. IsOther (number_of signal) x.1) (told_by heard cancel).given (none_told (number_of signal) gives heard.given nothing_told none tt)) told.1 in
    absurd (let never : true ≡ false = sym (eq-eqb (number_of signal) (number_of signal) refl) ∙ other in cc))

pub kill_given : (heard : Heard) (cancel : Option (ℕ × ℕ)) → was_told Kill (told_by heard cancel) → 0 < times_given 3 heard.given
kill_given heard cancel told = given Kill no_kill heard cancel told

pub terminate_given : (heard : Heard) (cancel : Option (ℕ × ℕ)) → was_told Terminate (told_by heard cancel) → 0 < times_given 2 heard.given
terminate_given heard cancel told = given Terminate no_terminate heard cancel told

pub checkpoint_given : (heard : Heard) (cancel : Option (ℕ × ℕ)) → was_told Checkpoint (told_by heard cancel) → 0 < times_given 4 heard.given
checkpoint_given heard cancel told = given Checkpoint no_checkpoint heard cancel told

pub quit_given : (reason : Reason) (heard : Heard) (cancel : Option (ℕ × ℕ)) → was_told (Quit reason) (told_by heard cancel) → 0 < times_given (number_of (Quit reason)) heard.given
quit_given Crash heard cancel told = given (Quit Crash) no_crash_quit heard cancel told
quit_given Stop heard cancel told = given (Quit Stop) no_stop_quit heard cancel told
