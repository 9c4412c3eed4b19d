use Rattle.std.proofs.Common.{◌≡◌, rules, [], ◌∷◌, ◌++◌}
use Rattle.pm_outside.proofs.Given.{took_back}
use Rattle.pm_outside.proofs.mem_port.MemPortPort.done.Goals as goal

pub returns-clause-visits : goal.returns-clause-visits
returns-clause-visits c =
    let port = c.args.self.now in
    let pushed : c.push.new.self.items ≡ port.back.items ++ c.args.link ∷ [] = search rules in
    took_back port.given port.back.items c.push.new.self.items port.ended_behind c.args.link pushed
