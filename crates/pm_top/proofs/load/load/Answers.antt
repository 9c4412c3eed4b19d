use Rattle.std.proofs.Common.{ℕ, List, Option, subst}
use Rattle.pm_server_lines.proofs.PrintLaws.{printed_weaker}
use Rattle.pm_load_run.specs.Worked.{HasTold}
use Rattle.pm_top.{specs.Ends.HasAnswer, proofs.load.load.Goals.{in-Ok, in-Err-SinkFailed, in-Err-NoMemory}}
use Rattle.pm_top.proofs.load.load.Goals as goal

told_weaker : (number : ℕ) (one cut : Type 0) (before now : Option (List ℕ)) → (one → cut) → HasTold number one before now → HasTold number cut before now
told_weaker number one cut before now weaker told = record { meant = told.meant; is_meant = told.is_meant; printed = printed_weaker _ one cut before now weaker told.printed }

pub returns-clause-told : goal.returns-clause-told
returns-clause-told g c = λ made. elim c.match-workload.branch [
  | in-Ok w ↦
      let is = w.in-Ok.is in
      told_weaker c.args.number _ _ _ _ (λ failed. absurd cc) (c.workload.ensures.said (λ short. absurd cc))
  | in-Err-SinkFailed w ↦
      let is = w.in-Err-SinkFailed.is in
      let failed = w.in-Err-SinkFailed.field-0-is in
      told_weaker c.args.number _ _ _ _ (λ _. w.status-is) (c.workload.ensures.said (λ short. absurd cc))
  | in-Err-NoMemory w ↦ absurd (subst HasAnswer w.status-is made)
]
