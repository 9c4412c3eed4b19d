-- A script, one answer further.
use Rattle.std.proofs.{Common.{◌≡◌, ℕ, ◌+◌, ◌^◌, ◌<◌, List, [], ◌∷◌, ◌++◌, length, take, get_or, Option, Some, refl, sym, ◌∙◌, ap, arith, append_assoc, length-take}, lemmas.List.{append-nil, take_more}}
use Rattle.pm_child_life.specs.{declared.life.{Signals.Signals, Attempt.Attempt}, Life.{Signal, signals_in, next_ask, numbered, asked_again}, Scripted.given_from}

pub given_from-push : (ask next : ℕ) (answers : List Signals) (signals : Signals) → next ≡ ask + length answers → given_from ask (answers ++ signals ∷ []) ≡ given_from ask answers ++ numbered next (signals_in signals)
given_from-push ask next [] signals is =
    let here : ask ≡ next = omega (arith, is) in
    append-nil (numbered ask (signals_in signals)) ∙ ap (λ (n : ℕ). numbered n (signals_in signals)) here
given_from-push ask next (first ∷ answers) signals is =
    let behind : next ≡ (ask + 1) + length answers = omega (arith, is) in
    ap (λ (l : List (ℕ × Signal)). numbered ask (signals_in first) ++ l) (given_from-push (ask + 1) next answers signals behind)
    ∙ sym (append_assoc (numbered ask (signals_in first)) (given_from (ask + 1) answers) (numbered next (signals_in signals)))

-- the answer at the script's next place is told with the number of this ask
pub told_next : (asked_before asked given : ℕ) (items : List Signals) (signals : Signals) (met : Option Attempt) (cancels : List (ℕ × ℕ)) → asked ≡ next_ask asked_before → given < length items → length items < 2 ^ 64 → asked_before ≡ given → get_or items given signals ≡ signals
    → Some (record { asked = asked; given = given_from 1 (take (given + 1) items); met = met; cancels = cancels })
    ≡ Some (asked_again signals (record { asked = asked_before; given = given_from 1 (take given items); met = met; cancels = cancels }))
told_next asked_before asked given items signals met cancels is within few each at =
    let number : next_ask asked_before ≡ 1 + length (take given items) = omega (arith, each, within, few, length-take given items) in
    let more : take (given + 1) items ≡ take given items ++ signals ∷ [] = take_more items given signals within ∙ ap (λ (s : Signals). take given items ++ s ∷ []) at in
    rw (is, more, given_from-push 1 (next_ask asked_before) (take given items) signals number) refl
