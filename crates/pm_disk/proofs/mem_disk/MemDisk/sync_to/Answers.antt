use Rattle.std.proofs.Common.{◌≡◌, ◌+◌, ◌^◌, ◌<◌, refl, arith}
use Rattle.pm_disk.proofs.{Moments.{kept_beside, kept_synced, syncs_a, syncs_b}, mem_disk.MemDisk.sync_to.Goals.{in-A+in_ok-sync-in-A, in-B+in_ok-sync-in-B}}
use Rattle.pm_disk.proofs.mem_disk.MemDisk.sync_to.Goals as goal

pub invariant_of-self-2 : goal.invariant_of-self-2
invariant_of-self-2 c =
    let disk = c.args.self.now in
    let counted : (disk.ticks + 1 < 2 ^ 64) × (disk.faults < 2 ^ 64) = (omega arith, disk.counted.1) in
    elim c.match-file.branch [
      | in-A+in_ok-sync-in-A w ↦
          let wrote : c.match-file.self.1.0 ≡ w.sync.new.self = rw w.self-is refl in
          let stays : c.match-file.self.1.1.0 ≡ disk.b = rw w.self-is refl in
          let sync = w.in_ok-sync-in-A.ensures in record {
            a_kept = kept_synced c.match-file.self.1.0 disk.a w.sync.new.self disk.ticks wrote disk.a_kept sync.reads sync.noted;
            b_kept = kept_beside c.match-file.self.1.1.0 disk.b disk.ticks stays disk.b_kept;
            counted = counted;
          }
      | in-B+in_ok-sync-in-B w ↦
          let stays : c.match-file.self.1.0 ≡ disk.a = rw w.self-is refl in
          let wrote : c.match-file.self.1.1.0 ≡ w.sync-in-B.new.self = rw w.self-is refl in
          let sync = w.in_ok-sync-in-B.ensures in record {
            a_kept = kept_beside c.match-file.self.1.0 disk.a disk.ticks stays disk.a_kept;
            b_kept = kept_synced c.match-file.self.1.1.0 disk.b w.sync-in-B.new.self disk.ticks wrote disk.b_kept sync.reads sync.noted;
            counted = counted;
          }
    ]

pub returns-clause-ok : goal.returns-clause-ok
returns-clause-ok c =
    let disk = c.args.self.now in
    elim c.match-file.branch [
      | in-A+in_ok-sync-in-A w ↦
          let wrote : c.match-file.self.1.0 ≡ w.sync.new.self = rw w.self-is refl in
          let stays : c.match-file.self.1.1.0 ≡ disk.b = rw w.self-is refl in
          let sync = w.in_ok-sync-in-A.ensures in
          rw w.in-A.is (syncs_a disk _ w.sync.new.self refl (omega arith) wrote sync.reads sync.noted stays)
      | in-B+in_ok-sync-in-B w ↦
          let stays : c.match-file.self.1.0 ≡ disk.a = rw w.self-is refl in
          let wrote : c.match-file.self.1.1.0 ≡ w.sync-in-B.new.self = rw w.self-is refl in
          let sync = w.in_ok-sync-in-B.ensures in
          rw w.in-B.is (syncs_b disk _ w.sync-in-B.new.self refl (omega arith) wrote sync.reads sync.noted stays)
    ]
