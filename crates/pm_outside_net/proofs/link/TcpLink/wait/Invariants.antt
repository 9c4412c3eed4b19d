use Rattle.std.proofs.Common.{◌≡◌}
use Rattle.pm_outside_net.proofs.link.TcpLink.wait.Given as goal

abbrev pub invariant-loop : goal.invariant-loop
invariant-loop l = (l.self.faults ≡ l.initial.self.faults) × (l.self.number ≡ l.initial.self.number) × (l.self.asks_left ≡ l.initial.self.asks_left)
