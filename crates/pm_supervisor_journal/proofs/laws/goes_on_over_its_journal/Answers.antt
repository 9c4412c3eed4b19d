use Rattle.std.proofs.Common.{refl}
use Rattle.pm_supervisor_journal.proofs.{Making.{stands-accepted, stands-asked, stands-begun, stands-exited, stands-killed, stands-ticked, stands-turned}, Nexts.stands-done}
use Rattle.pm_supervisor_journal.proofs.laws.goes_on_over_its_journal.Goals as goal

pub returns : goal.returns
returns c =
    let l = c.laws.ensures in
    record {
      begins = λ limits. stands-begun l.steps limits _ refl;
      turns = λ limits journal s h was rests unowed. stands-turned l.steps l.journal l.starts l.facts limits _ _ s _ h rests unowed refl refl was;
      ticks = λ limits journal s h at was rests unowed. stands-ticked l.steps l.journal l.starts limits _ _ s _ h at rests unowed refl refl was;
      kills = λ limits journal s h pid was rests unowed there. stands-killed l.steps l.journal l.starts limits _ _ s _ h pid rests unowed there refl refl was;
      asks = λ limits journal s h mode at was rests may. stands-asked l.steps l.journal l.starts limits _ _ s _ h mode at rests may refl refl was;
      accepts = λ limits journal s h was rests settled may. stands-accepted l.steps l.journal l.starts limits _ _ s _ h rests settled may refl refl was;
      exits = λ limits journal s h exit at was rests unowed there. stands-exited l.steps l.journal l.starts l.facts l.between limits _ _ s _ h exit at rests unowed there refl refl was;
      acts = λ limits journal s h action was first. stands-done l.journal l.starts limits _ _ s _ h action first refl refl was;
    }
