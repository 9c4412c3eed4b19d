use Rattle.std.proofs.Common.{◌∙◌, ◌++◌, List, ℕ, ap, sym}
use Rattle.pm_wire.specs.{Backend.{BackMessage, spelling}, Conditions.told}
use Rattle.pm_session_exchange.{specs.Sent.bytes_of, proofs.SentLaws.bytes_of-none}
use Rattle.pm_session.proofs.Said.{bytes_of-one}
use Rattle.pm_session.proofs.close.put_last.Goals as goal

pub returns-in-Some-clause-bytes : goal.returns-in-Some-clause-bytes
returns-in-Some-clause-bytes c =
    c.put.ensures.bytes ∙ ap (λ (l : List ℕ). l ++ spelling (told c.in-Some.condition)) c.clear.ensures.bytes ∙ sym (bytes_of-one (told c.in-Some.condition)) ∙ ap (λ (ms : List BackMessage). bytes_of ms) (sym c.in-Some.ensures.says)

pub returns-in_default-clause-bytes : goal.returns-in_default-clause-bytes
returns-in_default-clause-bytes c = c.clear.ensures.bytes ∙ sym bytes_of-none ∙ ap (λ (ms : List BackMessage). bytes_of ms) (sym c.in_default.ensures.says)
