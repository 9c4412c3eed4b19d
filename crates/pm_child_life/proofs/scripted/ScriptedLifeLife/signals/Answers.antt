use Rattle.std.proofs.Common.{◌<◌, ◌^◌, length, arith, rules, sym}
use Rattle.pm_child_life.proofs.Scripts.{told_next}
use Rattle.pm_child_life.proofs.scripted.ScriptedLifeLife.signals.Goals as goal

pub returns-clause-told : goal.returns-clause-told
returns-clause-told c =
    let within : c.args.self.now.given < length c.args.self.now.script.items = first_of (omega (arith, c.args.self.now.in_range, c.if-self-len.false, c.len.ensures), search rules, grind arith) in
    let few : length c.args.self.now.script.items < 2 ^ 64 = first_of (omega (arith, c.len.ensures, c.len.type_inv), search rules, grind arith) in
    told_next c.args.self.now.asked c.saturating_add-self.result c.args.self.now.given c.args.self.now.script.items c.index-signals.result.now c.args.self.now.met _ c.saturating_add-self.ensures within few (c.args.self.now.each_ask within) (sym c.index-signals.ensures)
