use Rattle.pm_startup.proofs.Packets.{decides-same}
use Rattle.pm_startup.proofs.reading.prefix_free.Goals as goal

pub returns : goal.returns
returns c = λ a b x y v w p q e. decides-same a b x y v w p q e
