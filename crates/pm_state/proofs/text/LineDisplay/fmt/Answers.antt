-- the text of the line, with the words that its parts stand for
use Rattle.pm_state.proofs.text.LineDisplay.fmt.Goals as goal

pub returns-in-Signal-clause-writes : goal.returns-in-Signal-clause-writes
returns-in-Signal-clause-writes g c =
    λ plain ok.
    rw (c.in-ChildExit.is, c.in-Signal.is, ← c.kind_word-kind.ensures) (c.write-in-Signal.ensures.writes plain ok)
