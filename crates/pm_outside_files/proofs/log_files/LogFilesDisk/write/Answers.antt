use Rattle.std.proofs.Common.{length}
use Rattle.pm_outside_files.proofs.log_files.LogFilesDisk.write.Goals as goal
use Rattle.pm_outside_files.proofs.Stops.{anything_follows}

-- src/log_files.rt:103:9
pub returns-in_err-enter-clause-images : goal.returns-in_err-enter-clause-images
returns-in_err-enter-clause-images c = anything_follows c.args.file c.args.at (length c.args.bytes.now)

-- src/log_files.rt:102:5
pub returns-clause-images : goal.returns-clause-images
returns-clause-images c = anything_follows c.args.file c.args.at (length c.args.bytes.now)
