use Rattle.pm_board.proofs.Gating.{lets_in}
use Rattle.pm_board.proofs.laws.lets_in_rightly.Goals as goal

pub returns : goal.returns
returns g c limit s kept id k h w o is_ordinary at does lives_ answer = lets_in g.J.Letter limit s kept id k w o is_ordinary h at does lives_ answer
