use Rattle.std.proofs.Common.{length}
use Rattle.pm_disk.specs.Disk.{Torn}
use Rattle.pm_record.specs.Calls.{Torn-none, within_call, within_sync}
use Rattle.pm_record.proofs.durable.write_durably.Goals as goal

pub returns-clause-stops : goal.returns-clause-stops
returns-clause-stops g c =
    let count = length c.args.bytes.now in
    within_sync (Torn c.args.file c.args.at count) _ _ _ _ _ _ (Torn-none c.args.file c.args.at count) c.in_ok-write.ensures.time c.in_ok-write.ensures.images c.in_ok-sync.ensures.time c.in_ok-sync.ensures.images

pub returns-in_err-write-clause-stops : goal.returns-in_err-write-clause-stops
returns-in_err-write-clause-stops g c =
    let count = length c.args.bytes.now in
    within_call (Torn c.args.file c.args.at count) _ _ _ _ (Torn-none c.args.file c.args.at count) c.in_err-write.ensures.time c.in_err-write.ensures.images

pub returns-in_err-sync-clause-stops : goal.returns-in_err-sync-clause-stops
returns-in_err-sync-clause-stops g c =
    let count = length c.args.bytes.now in
    within_sync (Torn c.args.file c.args.at count) _ _ _ _ _ _ (Torn-none c.args.file c.args.at count) c.in_ok-write.ensures.time c.in_ok-write.ensures.images c.in_err-sync.ensures.time c.in_err-sync.ensures.images
