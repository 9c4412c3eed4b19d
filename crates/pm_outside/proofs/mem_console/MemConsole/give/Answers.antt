use Rattle.std.proofs.{Common.{◌≡◌, min, length, take, arith}, lemmas.Grind.common_steps}
use Rattle.pm_outside.proofs.Lines.{cut_same, given_more, gives_first}
use Rattle.pm_outside.proofs.mem_console.MemConsole.give.Goals as goal

pub returns-clause-first : goal.returns-clause-first
returns-clause-first c =
    let console = c.args.self.now in
    let text = c.index.result.now.text.items in
    let copied : c.copy_from_slice.new.self ≡ take c.min-count.result text = grind (arith, common_steps) in
    let is : c.min-count.result ≡ min (length text) 64 = grind (arith, common_steps) in
    gives_first console.given console.lines.items c.index.result.now _ c.requires c.index.ensures (cut_same c.min-count.result text c.copy_from_slice.new.self _ is copied)

pub returns-clause-given : goal.returns-clause-given
returns-clause-given c =
    let console = c.args.self.now in
    let text = c.index.result.now.text.items in
    let copied : c.copy_from_slice.new.self ≡ take c.min-count.result text = grind (arith, common_steps) in
    let is : c.min-count.result ≡ min (length text) 64 = grind (arith, common_steps) in
    given_more console.given console.lines.items c.index.result.now _ c.requires c.index.ensures (cut_same c.min-count.result text c.copy_from_slice.new.self _ is copied)
