-- Laws of what passed on a link, from one moment to the next.
use Rattle.std.proofs.{Common.{ℕ, Bool, List, [], ◌++◌, Option, None, Some, refl, sym, ◌∙◌, arith}, lemmas.Bool.true≢false}
use Rattle.pm_outside.{specs.Traffic.{Traffic, came_in_of, went_out_of}, proofs.AddedLaws.{added_both, added_none}}
use Rattle.pm_session_exchange.specs.{declared.ending.Cause.Cause, Exchange.{LinkView, Passes, IsSound, IsLeftFor}}

-- ---- what passes

pub passes_none : (at : LinkView) → Passes [] [] at at
passes_none at = record { came_in = added_none (came_in_of at.traffic); went_out = added_none (went_out_of at.traffic); ended = λ e. e; number = refl; later = omega arith }

pub passes_both : (came1 went1 came2 went2 : List ℕ) (a b c : LinkView) → Passes came1 went1 a b → Passes came2 went2 b c → Passes (came1 ++ came2) (went1 ++ went2) a c
passes_both came1 went1 came2 went2 a b c one two = record {
  came_in = added_both came1 came2 (came_in_of a.traffic) (came_in_of b.traffic) (came_in_of c.traffic) one.came_in two.came_in;
  went_out = added_both went1 went2 (went_out_of a.traffic) (went_out_of b.traffic) (went_out_of c.traffic) one.went_out two.went_out;
  ended = λ e. two.ended (one.ended e);
  number = two.number ∙ one.number;
  later = omega (arith, one.later, two.later);
}

-- ---- sound links

-- a link that is sound is left for any cause
pub sound_left : (ended : Bool) (cause : Cause) (traffic : Option Traffic) → IsSound ended traffic → IsLeftFor cause traffic
sound_left ended cause None sound = tt
sound_left ended cause (Some t) sound = (sound.1, λ failed. absurd (true≢false (sym failed ∙ sound.0)))
