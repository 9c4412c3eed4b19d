use Rattle.std.proofs.Common.{◌≡◌, ◌+◌, ◌^◌, ◌<◌, refl, arith}
use Rattle.pm_disk.proofs.{Moments.{kept_beside, kept_written, writes_a, writes_b}, mem_disk.MemDisk.write_to.Goals.{in-A+in_ok-write-in-A, in-B+in_ok-write-in-B}}
use Rattle.pm_disk.proofs.mem_disk.MemDisk.write_to.Goals as goal

pub invariant_of-self-2 : goal.invariant_of-self-2
invariant_of-self-2 c =
    let disk = c.args.self.now in
    let counted : (disk.ticks + 1 < 2 ^ 64) × (disk.faults < 2 ^ 64) = (omega arith, disk.counted.1) in
    elim c.match-file.branch [
      | in-A+in_ok-write-in-A w ↦
          let wrote : c.match-file.self.1.0 ≡ w.write.new.self = rw w.self-is refl in
          let stays : c.match-file.self.1.1.0 ≡ disk.b = rw w.self-is refl in
          let write = w.in_ok-write-in-A.ensures in record {
            a_kept = kept_written c.match-file.self.1.0 disk.a w.write.new.self disk.ticks c.args.at c.args.bytes.now wrote disk.a_kept write.reads write.noted;
            b_kept = kept_beside c.match-file.self.1.1.0 disk.b disk.ticks stays disk.b_kept;
            counted = counted;
          }
      | in-B+in_ok-write-in-B w ↦
          let stays : c.match-file.self.1.0 ≡ disk.a = rw w.self-is refl in
          let wrote : c.match-file.self.1.1.0 ≡ w.write-in-B.new.self = rw w.self-is refl in
          let write = w.in_ok-write-in-B.ensures in record {
            a_kept = kept_beside c.match-file.self.1.0 disk.a disk.ticks stays disk.a_kept;
            b_kept = kept_written c.match-file.self.1.1.0 disk.b w.write-in-B.new.self disk.ticks c.args.at c.args.bytes.now wrote disk.b_kept write.reads write.noted;
            counted = counted;
          }
    ]

pub returns-clause-ok : goal.returns-clause-ok
returns-clause-ok c =
    let disk = c.args.self.now in
    elim c.match-file.branch [
      | in-A+in_ok-write-in-A w ↦
          let wrote : c.match-file.self.1.0 ≡ w.write.new.self = rw w.self-is refl in
          let stays : c.match-file.self.1.1.0 ≡ disk.b = rw w.self-is refl in
          let write = w.in_ok-write-in-A.ensures in
          rw w.in-A.is (writes_a disk _ w.write.new.self c.args.at c.args.bytes.now refl (omega arith) wrote write.reads write.noted stays)
      | in-B+in_ok-write-in-B w ↦
          let stays : c.match-file.self.1.0 ≡ disk.a = rw w.self-is refl in
          let wrote : c.match-file.self.1.1.0 ≡ w.write-in-B.new.self = rw w.self-is refl in
          let write = w.in_ok-write-in-B.ensures in
          rw w.in-B.is (writes_b disk _ w.write-in-B.new.self c.args.at c.args.bytes.now refl (omega arith) wrote write.reads write.noted stays)
    ]
