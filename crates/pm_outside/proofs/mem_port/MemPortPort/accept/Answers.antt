use Rattle.std.proofs.{Common.{◌≡◌, length, arith}, lemmas.Grind.common_steps}
use Rattle.pm_outside.proofs.{Given.{gave_end, gave_link}, Holding.{free_end, free_link, none_left}}
use Rattle.pm_outside.proofs.mem_port.MemPortPort.accept.Goals as goal

pub returns-then-is_empty-clause-visits : goal.returns-then-is_empty-clause-visits
returns-then-is_empty-clause-visits c =
    let port = c.args.self.now in
    let rest = c.is_held_back.ensures.rest in
    rw (c.unwrap_or.ensures, rest.ended, rest.given, rest.back) (gave_end port.given port.back.items port.ended_behind)

pub returns-then-is_empty-clause-next : goal.returns-then-is_empty-clause-next
returns-then-is_empty-clause-next c =
    let empty : length c.is_held_back.new.self.waiting.items ≡ 0 = grind (arith, common_steps) in
    let none = none_left c.is_held_back.new.self.waiting.items empty in
    (none, free_end c.args.self.now c.is_held_back.new.self (c.is_held_back.ensures.free c.if-is_held_back.false) none)

pub returns-clause-visits : goal.returns-clause-visits
returns-clause-visits c =
    let port = c.args.self.now in
    let rest = c.is_held_back.ensures.rest in
    rw (c.reserve.ensures.items, rest.ended, rest.given, rest.back) (gave_link port.given port.back.items port.ended_behind c.unwrap-script.result c.new.result c.new.ensures.begins)

pub returns-clause-next : goal.returns-clause-next
returns-clause-next c =
    let left = rw c.unwrap-script.ensures at c.pop_front.ensures.items in
    let free = free_link c.args.self.now c.is_held_back.new.self c.unwrap-script.result c.pop_front.new.self.items (c.is_held_back.ensures.free c.if-is_held_back.false) left in
    ((c.unwrap-script.result, free.0, c.new.ensures.begins), free.1, free.2)
