use Rattle.std.proofs.{Common.{w64, ◌-◌, take, ap, ◌∙◌, arith}, lemmas.{Int.to_z-of_z, List.take_all}}
use Rattle.pm_stage.{specs.Naming.{counted, times_at, times_in}, proofs.Counting.{one_discounted, tally_of}}
use Rattle.pm_stage.proofs.names.discount_all.Goals as goal

pub discount-requires : goal.discount-requires
discount-requires c = record { tally = tally_of c.loop-at.names (λ key. times_at c.args.names.now key - times_in key (take c.loop-at.at c.args.changes.now)) c.loop-at.invariant }

pub loop-at-preserved : goal.loop-at-preserved
loop-at-preserved c =
    one_discounted c.args.names.now c.loop-at.names c.discount.new.names c.args.changes.now c.loop-at.at c.index-changes-at.result _ (omega arith) c.index-changes-at.is
    (to_z-of_z w64 c.key_of.result c.key_of.ensures.range ∙ c.key_of.ensures.key) c.loop-at.invariant c.discount.ensures

pub returns : goal.returns
returns c = λ key. c.loop-at.invariant key ∙ ap (λ changes. counted (times_at c.args.names.now key - times_in key changes)) (take_all c.loop-at.at c.args.changes.now (omega arith))
