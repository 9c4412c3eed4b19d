-- Behind the last act none is due.
use Rattle.std.{proofs.Common.{◌≡◌, Bool, true, false, List, [], ◌∷◌, None, refl, ap, ◌∙◌}, specs.Prelude.{Option, Result, Ok, if◌then◌else◌}}
use Rattle.pm_supervisor_journal.specs.{pm_state.declared.action.Action.Action, declared.act.{Act.Act, GenerationsSpent.GenerationsSpent}, Standing.{Standing, Next, is_spent, next_in, next_of}}

abbrev is_none : Result (Option Act) GenerationsSpent → Bool
is_none (Ok None) = true
is_none _ = false

either : (c : Bool) (one two : Next) → is_none one.answer ≡ false → is_none two.answer ≡ false → is_none (if c then one else two).answer ≡ false
either true one two first second = first
either false one two first second = second

none-in : (due : List Action) (s t : Standing) → s.due ≡ due → t ≡ (next_in due s).after → Ok None ≡ (next_in due s).answer → t.due ≡ []
none-in [] s t is after answer = ap (λ x. x.due) after ∙ is
none-in (a ∷ rest) s t is after answer =
    absurd (let none : true ≡ false = ap is_none answer ∙ either (is_spent a s) _ _ refl refl in cc)

-- where there is no next act, none is due
pub none : (s t : Standing) → t ≡ (next_of s).after → Ok None ≡ (next_of s).answer → t.due ≡ []
none s t after answer = none-in s.due s t refl after answer
