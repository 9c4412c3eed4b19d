use Rattle.std.proofs.{Common.{◌≡◌, ◌≤◌, length, take, drop, arith}, lemmas.Grind.common_steps}
use Rattle.pm_outside.proofs.Cut.{taken_more, left_less}
use Rattle.pm_outside.proofs.mem_link.MemLinkLink.read.Goals as goal

pub returns-clause-traffic : goal.returns-clause-traffic
returns-clause-traffic c =
    let link = c.args.self.now in
    let fits : c.min-count.result ≤ length (drop link.taken link.incoming.items) = grind (arith, common_steps) in
    let same : c.copy_from_slice.new.self ≡ take c.min-count.result (drop link.taken link.incoming.items) = grind (arith, common_steps) in
    let more = taken_more link.taken c.min-count.result link.incoming.items c.copy_from_slice.new.self (drop c.min-count.result c.args.into.now) fits same in
    (cc)

pub returns-clause-next_bytes : goal.returns-clause-next_bytes
returns-clause-next_bytes c =
    let link = c.args.self.now in
    let fits : c.min-count.result ≤ length (drop link.taken link.incoming.items) = grind (arith, common_steps) in
    let same : c.copy_from_slice.new.self ≡ take c.min-count.result (drop link.taken link.incoming.items) = grind (arith, common_steps) in
    λ more. left_less link.taken c.min-count.result link.incoming.items c.copy_from_slice.new.self (drop c.min-count.result c.args.into.now) fits same
