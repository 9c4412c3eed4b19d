use Rattle.pm_wire_tests.proofs.conditions.tell.Goals as goal

pub write-requires : goal.write-requires
write-requires c = c.conditions_can_be_told.ensures.writable c.args.condition.now c.requires
