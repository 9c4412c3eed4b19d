-- Laws of kinds, and of what the supervisor sends.
use Rattle.std.proofs.Common.{◌≡◌, ℕ, ◌+◌, true, false, List, [], ◌∷◌, ◌++◌, refl, arith, Bool, ◌≤◌}
use Rattle.pm_exit.specs.declared.child.Kind.{Kind}
use Rattle.pm_exit.specs.declared.child.Kind.TheVariants as kind
use Rattle.pm_board_words.specs.{declared.views.RosterStep.RosterStep, Words.bit}
use Rattle.pm_board.specs.{Latches.times_sent, Places.{is_auxiliary, is_connection}}

-- startup child, checkpointer and writer answer no connection
pub no_connection : (kind : Kind) → is_auxiliary kind ≡ true → is_connection kind ≡ false
no_connection kind.Startup aux = refl
no_connection kind.Checkpointer aux = refl
no_connection kind.Writer aux = refl
no_connection kind.Worker aux = refl
no_connection kind.Backend aux = absurd (let no_ : false ≡ true = aux in cc)
no_connection kind.DeadEnd aux = absurd (let no_ : false ≡ true = aux in cc)

pub sent-append : (number pid : ℕ) (xs ys : List RosterStep) → times_sent number pid (xs ++ ys) ≡ times_sent number pid xs + times_sent number pid ys
sent-append number pid [] ys = omega arith
sent-append number pid (x ∷ xs) ys = let h : times_sent number pid (xs ++ ys) ≡ times_sent number pid xs + times_sent number pid ys = sent-append number pid xs ys in omega arith

pub bit_small : (b : Bool) → bit b ≤ 1
bit_small true = omega arith
bit_small false = omega arith
