use Rattle.std.proofs.{Common.{w64, ◌+◌, take, ap, ◌∙◌, arith}, lemmas.{Int.to_z-of_z, List.take_all}}
use Rattle.pm_stage.{specs.Naming.{counted, times_at, times_in}, proofs.Counting.{at_of, one_counted, tally_of, times_short}}
use Rattle.pm_stage.proofs.names.count_all.Goals as goal

pub count-requires-clause-tally : goal.count-requires-clause-tally
count-requires-clause-tally c = tally_of c.loop-at.names (λ key. times_at c.args.names.now key + times_in key (take c.loop-at.at c.args.changes.now)) c.loop-at.invariant

pub count-requires-clause-room : goal.count-requires-clause-room
count-requires-clause-room c =
    let key = c.key_of.result in
    rw (to_z-of_z w64 key c.key_of.ensures.range)
    (omega (
      arith,
      c.requires.room key,
      times_short c.args.changes.now c.loop-at.at key,
      at_of c.loop-at.names (λ other. times_at c.args.names.now other + times_in other (take c.loop-at.at c.args.changes.now)) c.loop-at.invariant key,
    ))

pub returns-in-Err-clause-err : goal.returns-in-Err-clause-err
returns-in-Err-clause-err c = λ key.
    c.discount_all.ensures key
    ∙ ap counted (omega (
      arith,
      at_of c.count.new.names (times_at c.loop-at.names) c.in-Err.ensures.err key,
      at_of c.loop-at.names (λ other. times_at c.args.names.now other + times_in other (take c.loop-at.at c.args.changes.now)) c.loop-at.invariant key,
    ))

pub loop-at-preserved : goal.loop-at-preserved
loop-at-preserved c =
    one_counted c.args.names.now c.loop-at.names c.count.new.names c.args.changes.now c.loop-at.at c.index-changes-at.result _ (omega arith) c.index-changes-at.is
    (to_z-of_z w64 c.key_of.result c.key_of.ensures.range ∙ c.key_of.ensures.key) c.loop-at.invariant c.in_default.ensures.ok

pub returns-clause-ok : goal.returns-clause-ok
returns-clause-ok c = λ key. c.loop-at.invariant key ∙ ap (λ changes. counted (times_at c.args.names.now key + times_in key changes)) (take_all c.loop-at.at c.args.changes.now (omega arith))
