use Rattle.std.proofs.Common.{◌≡◌, [], length}
use Rattle.pm_store_apart.specs.{Apart.MovesOn, Flushes.IsLonger, Lending.IsHome, Moment.{HasLogAt, alone}, Passes.Admits, Rests.IsAtRest}
use Rattle.pm_store_apart.proofs.apart.Apart.flush_all.Given as goal

-- so far nothing was noted, and the log goes on
abbrev pub invariant-loop-self : goal.invariant-loop-self
invariant-loop-self g l = record {
  moves : MovesOn [] l.fn.disk l.fn.self l.disk l.self;
  admits : Admits l.pass (alone l.self);
  home : IsHome l.self;
  rests : IsAtRest l.disk l.self;
  longer : IsLonger l.fn.self.live l.self.live;
  rest : l.fn.self.stage.commits ≡ [] → HasLogAt l.fn.disk l.fn.self l.disk l.self;
}

abbrev pub decreases-loop-self : goal.decreases-loop-self
decreases-loop-self g l = length l.self.stage.commits
