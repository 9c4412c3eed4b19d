use Rattle.std.proofs.Common.{◌≡◌, ◌∙◌, IsErr, subst}
use Rattle.pm_top.{specs.{Ends.HasAnswer, declared.status.Top.TheVariants.OutFault}, proofs.control.controldata.Goals.{in-Ok, in-Ok-print_found, in-Err-print_found, in-Err-Disk, in-Err-NoMemory, in-Err}}
use Rattle.pm_server_lines.proofs.PrintLaws.{printed_weaker}
use Rattle.pm_top.proofs.control.controldata.Goals as goal

pub returns-clause-told : goal.returns-clause-told
returns-clause-told g c = λ made. elim c.match-examine.branch [
  | in-Ok w ↦
      let failed : IsErr w.print_found.result → c.match-examine.status ≡ OutFault = elim w.match-print_found.branch [
        | in-Ok-print_found w' ↦ λ err. (let never = rw w'.in-Ok-print_found.is at err in cc)
        | in-Err-print_found w' ↦ λ err. w.status-is ∙ w'.status-is
      ] in
      rw w.outside-is (record {
        found = w.in-Ok.found;
        stands = w.in-Ok.ensures.found;
        only = w.in-Ok.ensures.exact;
        printed = printed_weaker _ _ _ _ _ failed w.print_found.ensures.said;
      })
  | in-Err-Disk w ↦ absurd (subst HasAnswer w.status-is made)
  | in-Err-NoMemory w ↦ absurd (subst HasAnswer w.status-is made)
  | in-Err w ↦ absurd (subst HasAnswer w.status-is made)
]
