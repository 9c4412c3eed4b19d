use Rattle.std.proofs.Common.{◌∙◌, List, ℕ, sym, ap}
use Rattle.pm_record.proofs.{Readers.{ok}, Texts.{stopped}}
use Rattle.pm_record.proofs.text.read_text.Goals as goal

pub unreachable-requires : goal.unreachable-requires
unreachable-requires c = stopped _ c.in_default.ensures.none c.in_default-text_left.ensures

pub returns : goal.returns
returns c = c.in-Some.ensures.some ∙ ap (λ (text : List ℕ). ok (text, c.in-Some.rest.now)) (sym c.in_ok-of.ensures)
