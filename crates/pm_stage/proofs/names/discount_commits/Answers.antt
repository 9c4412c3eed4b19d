use Rattle.std.proofs.{Common.{◌-◌, take, ap, ◌∙◌, arith}, lemmas.List.take_all}
use Rattle.pm_stage.{specs.Naming.{counted, times_at, times_in, times_named}, proofs.Counting.{one_forgotten, tally_of}}
use Rattle.pm_stage.proofs.names.discount_commits.Goals as goal

pub discount_all-requires : goal.discount_all-requires
discount_all-requires c = record { tally = tally_of c.loop-at.names (λ key. times_at c.args.names.now key - times_named key (take c.loop-at.at c.args.commits.now)) c.loop-at.invariant }

pub loop-at-preserved : goal.loop-at-preserved
loop-at-preserved c =
    one_forgotten c.args.names.now c.loop-at.names c.discount_all.new.names c.args.commits.now c.loop-at.at c.index-commits-at.result (omega arith) c.index-commits-at.is c.loop-at.invariant
    (λ key. c.discount_all.ensures key ∙ ap (λ changes. counted (times_at c.loop-at.names key - times_in key changes)) c.changes.ensures.list)

pub returns : goal.returns
returns c = λ key. c.loop-at.invariant key ∙ ap (λ commits. counted (times_at c.args.names.now key - times_named key commits)) (take_all c.loop-at.at c.args.commits.now (omega arith))
