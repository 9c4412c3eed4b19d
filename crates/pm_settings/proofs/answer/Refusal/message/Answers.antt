use Rattle.std.proofs.Common.{◌≡◌, ◌++◌, List, ℕ, IfOk, codes, sym, subst}
use Rattle.pm_settings.specs.{declared.answer.Refusal.Refusal, Answers.message_of}
use Rattle.pm_settings.proofs.answer.Refusal.message.Goals as goal

pub returns-in-Fixed : goal.returns-in-Fixed
returns-in-Fixed c =
    subst (λ (refusal : Refusal). IfOk c.joined-in-Fixed.result (λ message. message ≡ message_of refusal)) (sym c.in-Fixed.is)
    (subst (λ (name : List ℕ). IfOk c.joined-in-Fixed.result (λ message. message ≡ (codes "parameter \"" ++ name) ++ codes "\" cannot be changed")) c.name-in-Fixed.ensures c.joined-in-Fixed.ensures)
