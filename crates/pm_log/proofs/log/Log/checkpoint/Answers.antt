use Rattle.std.proofs.Common.{◌∙◌, refl, rules, length}
use Rattle.pm_record.specs.pm_disk.Files.{other}
use Rattle.pm_log.proofs.Checkpoints.{moved_log, checkpoint_lives, checkpoint_still, checkpoint_stops}
use Rattle.pm_log.proofs.log.Log.checkpoint.Goals as goal

pub returns-in_err-spelled-clause-stops : goal.returns-in_err-spelled-clause-stops
returns-in_err-spelled-clause-stops g c =
    checkpoint_still (g.D.Disk.seen c.args.disk.now) c.args.self.now c.args.rows.now c.args.clean (g.D.Disk.ticks c.args.disk.now) (g.D.Disk.images c.args.disk.now)

pub returns-in-Ok-clause-stops : goal.returns-in-Ok-clause-stops
returns-in-Ok-clause-stops g c =
    checkpoint_stops (g.D.Disk.seen c.args.disk.now) c.args.self.now c.args.rows.now c.args.clean c.as_slice-bytes.result.now _ _ (g.D.Disk.images c.args.disk.now) (g.D.Disk.images c.move_to_other.new.disk)
    c.move_to_other.ensures.stops (c.as_slice-bytes.ensures ∙ c.in_ok-spelled.ensures) (search (rules, c.if-self.false)) c.requires.rows c.requires.limits

pub returns-in-Ok-clause-lives : goal.returns-in-Ok-clause-lives
returns-in-Ok-clause-lives g c =
    checkpoint_lives (g.D.Disk.seen c.args.disk.now) (g.D.Disk.seen c.move_to_other.new.disk) c.args.self.now _ c.args.rows.now c.args.clean c.as_slice-bytes.result.now
    (g.D.Disk.images c.args.disk.now (g.D.Disk.ticks c.args.disk.now)) (g.D.Disk.images c.move_to_other.new.disk (g.D.Disk.ticks c.move_to_other.new.disk))
    c.in-Ok.ensures.moved (c.as_slice-bytes.ensures ∙ c.in_ok-spelled.ensures) (search (rules, c.if-self.false)) c.requires.rows c.requires.limits
    (moved_log c.args.self.now c.other-self.result (other c.args.self.now.file) (length c.as_slice-bytes.result.now) (length c.as_slice-bytes.result.now) c.args.self.now.since c.args.self.now.making c.other-self.ensures
    refl (rw c.in_default.is refl) c.requires.alone)

pub returns-clause-stops : goal.returns-clause-stops
returns-clause-stops g c =
    checkpoint_stops (g.D.Disk.seen c.args.disk.now) c.args.self.now c.args.rows.now c.args.clean c.as_slice-bytes.result.now _ _ (g.D.Disk.images c.args.disk.now) (g.D.Disk.images c.move_to_other.new.disk)
    c.move_to_other.ensures.stops (c.as_slice-bytes.ensures ∙ c.in_ok-spelled.ensures) (search (rules, c.if-self.false)) c.requires.rows c.requires.limits

pub returns-then-self-clause-stops : goal.returns-then-self-clause-stops
returns-then-self-clause-stops g c =
    checkpoint_still (g.D.Disk.seen c.args.disk.now) c.args.self.now c.args.rows.now c.args.clean (g.D.Disk.ticks c.args.disk.now) (g.D.Disk.images c.args.disk.now)
