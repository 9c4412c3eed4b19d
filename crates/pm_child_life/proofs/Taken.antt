-- The signals of one answer, and what stands after it.
use Rattle.std.{proofs.{Common.{◌≡◌, ◌≢◌, ◌↔◌, ◌⊎◌, inl, inr, ℕ, ◌<◌, ◌||◌, Bool, true, false, IsTrue, List, [], ◌∷◌, ◌++◌, length, get_or, Option, None, Some, refl, sym, ◌∙◌, ap, subst, arith}, lemmas.{List.{length-map, get_or-map, Elements.{Contains-append_left, Contains-append_right, Contains-append_cases, Contains-push, Contains-push_cases}}, Bool.true≢false}}, specs.{Option.{option_map, option_or}, List.Contains}}
use Rattle.pm_supervisor.specs.declared.Reason.{Reason}
use Rattle.pm_child_life.specs.{declared.{life.Signals.Signals, standing.Standing.Standing}, Life.{Child, Told, Signal, Kill, Quit, Terminate, Cancel, Checkpoint, one_if, quit_in, signals_in, next_ask, numbered, asked_again, was_told}, Attention.{attention, with_signals, was_given, Stands, IsAttentive, IsBy, HasAsked, KeepsCancels, HasGained, GivenSince, GivenNoMore, CancelStands, Hears}}

-- ---- the signals of one answer

only : {X : Type 0} (x y : X) → Contains (x ∷ []) y → x ≡ y
only x y (k, lt, is) = elim (Contains-push_cases [] x y (k, lt, is)) [ inl h ↦ absurd (omega (arith, h.1)) | inr e ↦ e ]

one_in : (stands : Bool) (signal : Signal) → IsTrue stands → Contains (one_if stands signal) signal
one_in true signal is = Contains-push [] signal
one_in false signal is = absurd (true≢false (sym is))

in_one : (stands : Bool) (signal x : Signal) → Contains (one_if stands signal) x → IsTrue stands × (signal ≡ x)
in_one true signal x has = (refl, only signal x has)
in_one false signal x has = absurd (omega (arith, has.1))

quit_is_in : (quit : Option Reason) (reason : Reason) → quit ≡ Some reason → Contains (quit_in quit) (Quit reason)
quit_is_in quit reason is = rw is (Contains-push [] (Quit reason))

in_quit : (quit : Option Reason) (x : Signal) → Contains (quit_in quit) x → (reason : Reason) × (quit ≡ Some reason) × (Quit reason ≡ x)
in_quit None x has = absurd (omega (arith, has.1))
in_quit (Some reason) x has = (reason, refl, only (Quit reason) x has)

-- what an answer says of one signal
abbrev Took : Signals → Signal → Type 0
Took signals Kill = IsTrue signals.kill
Took signals (Quit reason) = signals.quit ≡ Some reason
Took signals Terminate = IsTrue signals.terminate
Took signals Cancel = IsTrue signals.cancel
Took signals Checkpoint = IsTrue signals.checkpoint

abbrev first_two : Signals → List Signal
first_two s = one_if s.kill Kill ++ quit_in s.quit

abbrev first_three : Signals → List Signal
first_three s = first_two s ++ one_if s.terminate Terminate

abbrev first_four : Signals → List Signal
first_four s = first_three s ++ one_if s.cancel Cancel

in_four : (s : Signals) (x : Signal) → Contains (first_four s) x → Contains (signals_in s) x
in_four s x has = Contains-append_left (first_four s) (one_if s.checkpoint Checkpoint) x has

in_three : (s : Signals) (x : Signal) → Contains (first_three s) x → Contains (signals_in s) x
in_three s x has = in_four s x (Contains-append_left (first_three s) (one_if s.cancel Cancel) x has)

in_two : (s : Signals) (x : Signal) → Contains (first_two s) x → Contains (signals_in s) x
in_two s x has = in_three s x (Contains-append_left (first_two s) (one_if s.terminate Terminate) x has)

took_in : (signals : Signals) (signal : Signal) → Took signals signal → Contains (signals_in signals) signal
took_in s Kill took = in_two s Kill (Contains-append_left (one_if s.kill Kill) (quit_in s.quit) Kill (one_in s.kill Kill took))
took_in s (Quit reason) took = in_two s (Quit reason) (Contains-append_right (one_if s.kill Kill) (quit_in s.quit) (Quit reason) (quit_is_in s.quit reason took))
took_in s Terminate took = in_three s Terminate (Contains-append_right (first_two s) (one_if s.terminate Terminate) Terminate (one_in s.terminate Terminate took))
took_in s Cancel took = in_four s Cancel (Contains-append_right (first_three s) (one_if s.cancel Cancel) Cancel (one_in s.cancel Cancel took))
took_in s Checkpoint took = Contains-append_right (first_four s) (one_if s.checkpoint Checkpoint) Checkpoint (one_in s.checkpoint Checkpoint took)

took_one : (s : Signals) (stands : Bool) (signal x : Signal) → (IsTrue stands → Took s signal) → Contains (one_if stands signal) x → Took s x
took_one s stands signal x takes has = let p = in_one stands signal x has in subst (Took s) p.1 (takes p.0)

in_took : (signals : Signals) (signal : Signal) → Contains (signals_in signals) signal → Took signals signal
in_took s x has =
    elim (Contains-append_cases (first_four s) (one_if s.checkpoint Checkpoint) x has) [
      | inr h ↦ took_one s s.checkpoint Checkpoint x (λ t. t) h
      | inl h ↦ elim (Contains-append_cases (first_three s) (one_if s.cancel Cancel) x h) [
        | inr h ↦ took_one s s.cancel Cancel x (λ t. t) h
        | inl h ↦ elim (Contains-append_cases (first_two s) (one_if s.terminate Terminate) x h) [
          | inr h ↦ took_one s s.terminate Terminate x (λ t. t) h
          | inl h ↦ elim (Contains-append_cases (one_if s.kill Kill) (quit_in s.quit) x h) [
            | inl h ↦ took_one s s.kill Kill x (λ t. t) h
            | inr h ↦ let p = in_quit s.quit x h in subst (Took s) p.2 p.1
          ]
        ]
      ]
    ]

-- ---- what was told after one more answer

contains_numbered : (n : ℕ) (xs : List Signal) (s : Signal) → Contains xs s → Contains (numbered n xs) (n, s)
contains_numbered n xs s (k, lt, is) = (k, omega (arith, length-map {B = ℕ × Signal} xs (λ (x : Signal). (n, x)), lt), get_or-map {Y = ℕ × Signal} (λ (x : Signal). (n, x)) xs k s (n, s) lt ∙ ap {B = ℕ × Signal} (λ (x : Signal). (n, x)) is)

pub numbered_contains : (n k : ℕ) (xs : List Signal) (s : Signal) → Contains (numbered n xs) (k, s) → (k ≡ n) × Contains xs s
numbered_contains n k xs s (i, lt, is) =
    let within : i < length xs = omega (arith, length-map {B = ℕ × Signal} xs (λ (x : Signal). (n, x)), lt) in
    let same : ◌≡◌ {A = ℕ × Signal} (n, get_or xs i s) (k, s) = sym (get_or-map {Y = ℕ × Signal} (λ (x : Signal). (n, x)) xs i s (k, s) within) ∙ is in
    (sym (ap (λ (p : ℕ × Signal). p.0) same), (i, within, ap (λ (p : ℕ × Signal). p.1) same))

told_still : (s : Signals) (told : Told) (signal : Signal) → was_told signal told → was_told signal (asked_again s told)
told_still s told signal (ask, has) = (ask, Contains-append_left told.given (numbered (next_ask told.asked) (signals_in s)) (ask, signal) has)

told_now : (s : Signals) (told : Told) (signal : Signal) → Contains (signals_in s) signal → was_told signal (asked_again s told)
told_now s told signal has =
    let ask = next_ask told.asked in
    (ask, Contains-append_right told.given (numbered ask (signals_in s)) (ask, signal) (contains_numbered ask (signals_in s) signal has))

told_or_now : (s : Signals) (told : Told) (signal : Signal) → was_told signal (asked_again s told) → was_told signal told ⊎ Contains (signals_in s) signal
told_or_now s told signal (ask, has) = elim (Contains-append_cases told.given (numbered (next_ask told.asked) (signals_in s)) (ask, signal) has) [
  | inl h ↦ inl (ask, h)
  | inr h ↦ inr ((numbered_contains (next_ask told.asked) ask (signals_in s) signal h).1)
]

-- ---- what stands after one more answer

either_in : (stood stands : Bool) (told now P : Type 0) → (IsTrue stood → told) → (IsTrue stands → now) → (told → P) → (now → P) → IsTrue (stood || stands) → P
either_in true stands told now P before more one two is = one (before refl)
either_in false stands told now P before more one two is = two (more is)

either_stands : (stood stands : Bool) (told now : Type 0) → (told → IsTrue stood) → (now → IsTrue stands) → told ⊎ now → IsTrue (stood || stands)
either_stands true stands told now before more has = refl
either_stands false stands told now before more (inl h) = absurd (true≢false (sym (before h)))
either_stands false stands told now before more (inr h) = more h

one_stands : (s : Signals) (told : Told) (stood stands : Bool) (signal : Signal) → IsTrue stood ↔ was_told signal told → (IsTrue stands → Contains (signals_in s) signal) → (Contains (signals_in s) signal → IsTrue stands)
    → IsTrue (stood || stands) ↔ was_told signal (asked_again s told)
one_stands s told stood stands signal before gives takes = (
  either_in stood stands (was_told signal told) (Contains (signals_in s) signal) (was_told signal (asked_again s told)) before.0 gives (told_still s told signal) (told_now s told signal),
  λ has. either_stands stood stands (was_told signal told) (Contains (signals_in s) signal) before.1 takes (told_or_now s told signal has),
)

quit_told : (signals : Signals) (standing : Standing) (told : Told) (quit : Option Reason) → quit ≡ signals.quit → Stands standing told → (reason : Reason)
    → option_or quit standing.quit ≡ Some reason → was_told (Quit reason) (asked_again signals told)
quit_told signals standing told None is stands reason e = told_still signals told (Quit reason) (stands.quit reason e)
quit_told signals standing told (Some now) is stands reason e = told_now signals told (Quit reason) (took_in signals (Quit reason) (sym is ∙ e))

quit_stands : (signals : Signals) (standing : Standing) (told : Told) (quit : Option Reason) → quit ≡ signals.quit → Stands standing told → (reason : Reason)
    → was_told (Quit reason) (asked_again signals told) → option_or quit standing.quit ≢ None
quit_stands signals standing told (Some now) is stands reason has = λ e. cc
quit_stands signals standing told None is stands reason has =
    elim (told_or_now signals told (Quit reason) has) [
      | inl h ↦ stands.quits reason h
      | inr h ↦ let took : signals.quit ≡ Some reason = in_took signals (Quit reason) h in absurd cc
    ]

asked_by_now : (signals : Signals) (standing : Standing) (told : Told) → Stands standing told → (ask : ℕ) (signal : Signal) → Contains (asked_again signals told).given (ask, signal) → IsBy ask (asked_again signals told).asked
asked_by_now signals standing told stands ask signal has =
    let number = next_ask told.asked in
    elim (Contains-append_cases told.given (numbered number (signals_in signals)) (ask, signal) has) [
      | inl h ↦ let by : IsBy ask told.asked = stands.asked ask signal h in omega (arith, by)
      | inr h ↦ let same = (numbered_contains number ask (signals_in signals) signal h).0 in omega (arith, same)
    ]

still_stands : (signals : Signals) (standing : Standing) (told : Told) → Stands standing told → Stands (with_signals signals standing) (asked_again signals told)
still_stands s standing told stands = record {
  kill = one_stands s told standing.kill s.kill Kill stands.kill (took_in s Kill) (in_took s Kill);
  quit = quit_told s standing told s.quit refl stands;
  quits = quit_stands s standing told s.quit refl stands;
  terminate = one_stands s told standing.terminate s.terminate Terminate stands.terminate (took_in s Terminate) (in_took s Terminate);
  cancel = either_in standing.cancel s.cancel (was_told Cancel told) (Contains (signals_in s) Cancel) (was_told Cancel (asked_again s told)) stands.cancel (took_in s Cancel) (told_still s told Cancel) (told_now s told Cancel);
  checkpoint = one_stands s told standing.checkpoint s.checkpoint Checkpoint stands.checkpoint (took_in s Checkpoint) (in_took s Checkpoint);
  asked = asked_by_now s standing told stands;
}

-- ---- one ask

given_now : (signals : Signals) (before : Option Told) (signal : Signal) → was_given signal before → was_given signal (option_map (asked_again signals) before)
given_now signals None signal given = tt
given_now signals (Some told) signal given = told_still signals told signal given

asked_now : (signals : Signals) (before : Option Told) → HasAsked 1 before (option_map (asked_again signals) before)
asked_now signals None = refl
asked_now signals (Some told) = (omega arith, refl)

gained_now : (signals : Signals) (before : Option Told) → HasGained before (option_map (asked_again signals) before)
gained_now signals None = tt
gained_now signals (Some told) =
    let number = next_ask told.asked in
    let more = numbered number (signals_in signals) in
    record {
      kept = λ ask signal has. Contains-append_left told.given more (ask, signal) has;
      fresh = λ ask signal has. elim (Contains-append_cases told.given more (ask, signal) has) [
        | inl h ↦ inl h
        | inr h ↦ let same = (numbered_contains number ask (signals_in signals) signal h).0 in inr (omega (arith, same), omega (arith, same))
      ];
    }

cancels_now : (signals : Signals) (before : Option Told) → KeepsCancels before (option_map (asked_again signals) before)
cancels_now signals None = refl
cancels_now signals (Some told) = refl

since_now : (signals : Signals) (before : Option Told) → IsTrue signals.cancel → GivenSince Cancel before (option_map (asked_again signals) before)
since_now signals None is = tt
since_now signals (Some told) is =
    let number = next_ask told.asked in
    let has = Contains-append_right told.given (numbered number (signals_in signals)) (number, Cancel) (contains_numbered number (signals_in signals) Cancel (took_in signals Cancel is)) in
    (number, has, (omega arith, omega arith))

cancel_now : (signals : Signals) (before : Option Told) (stood : Bool) → IsTrue (stood || signals.cancel) → IsTrue stood ⊎ GivenSince Cancel before (option_map (asked_again signals) before)
cancel_now signals before true is = inl refl
cancel_now signals before false is = inr (since_now signals before is)

no_cancel_in : (signals : Signals) (stood : Bool) → (stood || signals.cancel) ≡ false → Contains (signals_in signals) Cancel → ⊥
no_cancel_in signals true none has = true≢false none
no_cancel_in signals false none has = let took : signals.cancel ≡ true = in_took signals Cancel has in true≢false (sym took ∙ none)

none_now : (signals : Signals) (before : Option Told) (stood : Bool) → (stood || signals.cancel) ≡ false → GivenNoMore Cancel before (option_map (asked_again signals) before)
none_now signals None stood none = tt
none_now signals (Some told) stood none = λ ask has. elim (Contains-append_cases told.given (numbered (next_ask told.asked) (signals_in signals)) (ask, Cancel) has) [
  | inl h ↦ h
  | inr h ↦ absurd (no_cancel_in signals stood none ((numbered_contains (next_ask told.asked) ask (signals_in signals) Cancel h).1))
]

pub cancel_stands : (signals : Signals) (before now : Option Told) (child_before child : Child) (standing : Standing) → now ≡ option_map (asked_again signals) before
    → CancelStands (attention before child_before standing) (attention now child (with_signals signals standing))
cancel_stands signals before now child_before child standing e = rw e (none_now signals before standing.cancel)

pub attentive_now : (signals : Signals) (before : Option Told) (child_before child : Child) (standing : Standing) → IsAttentive (attention before child_before standing)
    → IsAttentive (attention (option_map (asked_again signals) before) child (with_signals signals standing))
attentive_now signals None child_before child standing stands = tt
attentive_now signals (Some told) child_before child standing stands = still_stands signals standing told stands

true_or : (a b : Bool) → IsTrue a → IsTrue (a || b)
true_or a b is = rw is refl

pub listened : (signals : Signals) (before now : Option Told) (child_before child : Child) (standing : Standing) → now ≡ option_map (asked_again signals) before → child ≡ child_before
    → Hears 1 (attention before child_before standing) (attention now child (with_signals signals standing))
listened signals before now child_before child standing e same = rw e (record {
  asked = asked_now signals before;
  child = same;
  gained = gained_now signals before;
  cancels = cancels_now signals before;
  given = given_now signals before;
  stands = attentive_now signals before child_before child standing;
  kill = true_or standing.kill signals.kill;
  cancel = cancel_now signals before standing.cancel;
})
