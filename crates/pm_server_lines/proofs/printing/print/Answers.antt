use Rattle.std.proofs.Common.{◌<◌, ◌-◌, length, take, drop, ap, arith, length-drop}
use Rattle.pm_record.specs.pm_facts.Lists.{rest_of}
use Rattle.pm_server_lines.proofs.PrintLaws.{further, nothing_yet}
use Rattle.pm_server_lines.proofs.printing.print.Goals as goal

pub loop-rest-init : goal.loop-rest-init
loop-rest-init g c = record { said = nothing_yet c.args.text.now (g.O.Sink.written c.args.sink.now); counted = omega arith }

pub loop-rest-smaller : goal.loop-rest-smaller
loop-rest-smaller g c =
    let rest = c.loop-rest.rest.now in
    let count = c.in-Count.count in
    let shorter : length (take (length rest - count) (drop count rest)) < length rest = omega (arith, ap length (rest_of rest count), length-drop count rest, c.in-Count.ensures.within) in
    shorter

pub loop-rest-preserved : goal.loop-rest-preserved
loop-rest-preserved g c = record {
  said = further _ c.loop-rest.rest.now c.in-Count.count _ _ _ c.loop-rest.invariant.said c.in-Count.ensures.written;
  counted = omega (arith, c.loop-rest.invariant.counted, c.write.ensures.cause.later);
}
