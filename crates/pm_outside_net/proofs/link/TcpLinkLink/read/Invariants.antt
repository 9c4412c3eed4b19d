use Rattle.std.proofs.Common.{◌≡◌, length}
use Rattle.pm_outside_net.proofs.link.TcpLinkLink.read.Given as goal

abbrev pub invariant-loop : goal.invariant-loop
invariant-loop l = (l.self.faults ≡ l.initial.self.faults) × (l.self.number ≡ l.initial.self.number) × (length l.into ≡ length l.initial.into)
