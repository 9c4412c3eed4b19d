use Rattle.std.{proofs.{Common.{◌+◌, Bool, ℕ, List, subst}, lemmas.Result.IfOk-weaker}, specs.{Prelude.{All, IfSome}, FinMap.entries}}
use Rattle.pm_record.specs.{OnDisk.Throughout, Found.IsFound, StandsFor.{Content, IsRow, StandsFor}, declared.found.Found.Found, pm_rows.Limits.IsWithinRowLimits}
use Rattle.pm_redo.{specs.{Found.{Finds, FindsOnly}, Redo.Same}, proofs.{Kept.{found_limits, found_rows, found_stands}, Redos.{pair_of, quiet_then, read_files, same_through, told}}}
use Rattle.pm_redo.proofs.redo.read_pair.Goals as goal

pub returns-clause-found : goal.returns-clause-found
returns-clause-found g c =
    let before = g.D.Disk.seen c.args.disk.now in
    let s1 = g.D.Disk.seen c.settle.new.disk in
    let s2 = g.D.Disk.seen c.read_whole.new.disk in
    let a = c.in_ok-a.a.items in
    let b = c.in_ok-b.b.items in
    IfOk-weaker c.pair_in.result (λ (x : Found × Bool). Finds x.0 x.1 (pair_of c.deref.result.now c.deref-2.result.now)) (λ (x : Found × Bool). IfSome before (Finds x.0 x.1))
    (λ x finds. told (Finds x.0 x.1) before s1 s2 a b c.in_ok-settle.ensures.quiet.seen c.in_ok-a.ensures.quiet.seen c.in_ok-a.ensures.bytes c.in_ok-b.ensures.bytes
    (subst (Finds x.0 x.1) (read_files (pair_of a b) c.deref.result.now c.deref-2.result.now c.deref.ensures.value c.deref-2.ensures.value) finds)) c.pair_in.ensures.found

pub returns-clause-exact : goal.returns-clause-exact
returns-clause-exact g c =
    let before = g.D.Disk.seen c.args.disk.now in
    let s1 = g.D.Disk.seen c.settle.new.disk in
    let s2 = g.D.Disk.seen c.read_whole.new.disk in
    let a = c.in_ok-a.a.items in
    let b = c.in_ok-b.b.items in
    IfOk-weaker c.pair_in.result (λ (x : Found × Bool). FindsOnly x.0 (pair_of c.deref.result.now c.deref-2.result.now)) (λ (x : Found × Bool). IfSome before (FindsOnly x.0))
    (λ x only. told (FindsOnly x.0) before s1 s2 a b c.in_ok-settle.ensures.quiet.seen c.in_ok-a.ensures.quiet.seen c.in_ok-a.ensures.bytes c.in_ok-b.ensures.bytes
    (subst (FindsOnly x.0) (read_files (pair_of a b) c.deref.result.now c.deref-2.result.now c.deref.ensures.value c.deref-2.ensures.value) only)) c.pair_in.ensures.exact

pub returns-clause-content : goal.returns-clause-content
returns-clause-content g c =
    let files = pair_of c.deref.result.now c.deref-2.result.now in
    IfOk-weaker c.pair_in.result (λ (x : Found × Bool). Finds x.0 x.1 files)
    (λ (x : Found × Bool). (bytes : List ℕ) × (content : Content) × IsFound x.0 content × StandsFor bytes content x.0.end)
    (λ x finds. found_stands x.0 x.1 files finds) c.pair_in.ensures.found

pub returns-clause-rows : goal.returns-clause-rows
returns-clause-rows g c =
    let files = pair_of c.deref.result.now c.deref-2.result.now in
    IfOk-weaker c.pair_in.result (λ (x : Found × Bool). Finds x.0 x.1 files) (λ (x : Found × Bool). All IsRow (entries x.0.rows))
    (λ x finds. found_rows x.0 x.1 files finds) c.pair_in.ensures.found

pub returns-clause-limits : goal.returns-clause-limits
returns-clause-limits g c =
    let files = pair_of c.deref.result.now c.deref-2.result.now in
    IfOk-weaker c.pair_in.result (λ (x : Found × Bool). Finds x.0 x.1 files) (λ (x : Found × Bool). IsWithinRowLimits x.0.rows)
    (λ x finds. found_limits x.0 x.1 files finds) c.pair_in.ensures.found

pub returns-clause-barrier : goal.returns-clause-barrier
returns-clause-barrier g c =
    let before = g.D.Disk.seen c.args.disk.now in
    let from = g.D.Disk.ticks c.args.disk.now + 2 in
    let t1 = g.D.Disk.ticks c.settle.new.disk in
    let t2 = g.D.Disk.ticks c.read_whole.new.disk in
    let t3 = g.D.Disk.ticks c.read_whole-2.new.disk in
    let i = g.D.Disk.images c.settle.new.disk in
    let m = g.D.Disk.images c.read_whole.new.disk in
    let j = g.D.Disk.images c.read_whole-2.new.disk in
    let reading = quiet_then (g.D.Disk.seen c.settle.new.disk) (g.D.Disk.seen c.read_whole.new.disk) (g.D.Disk.seen c.read_whole-2.new.disk) t1 t2 t3 i m j
    c.in_ok-a.ensures.quiet c.in_ok-b.ensures.quiet in
    IfOk-weaker c.pair_in.result (λ (x : Found × Bool). Finds x.0 x.1 (pair_of c.deref.result.now c.deref-2.result.now))
    (λ (x : Found × Bool). IfSome before (λ files. Throughout from t3 j (Same files)))
    (λ x finds. same_through before from t1 t3 i j c.in_ok-settle.ensures.only c.in_ok-settle.ensures.ticks reading.stops) c.pair_in.ensures.found
