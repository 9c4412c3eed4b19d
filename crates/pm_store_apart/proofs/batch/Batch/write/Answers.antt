use Rattle.std.{proofs.Common.{rules, ◌≡◌, ◌∙◌, ◌+◌, List, Err, sym, ap, subst, arith, length}, specs.Prelude.IfSome}
use Rattle.pm_query.specs.{pm_disk.Disk.TellsStill, pm_rows.{declared.commit.Change.Change, Batch.IsBatch}}
use Rattle.pm_query.specs.pm_rows.LogSize as log
use Rattle.pm_log.specs.declared.log.{LogFault.LogFault}
use Rattle.pm_log.specs.declared.log.LogFault.TheVariants as fault
use Rattle.pm_store_apart.{specs.Lending.{LivesAt, MakesWith, StopsAt, log_with}, proofs.{Resting.{short_or_disk, tells_nothing}, StepsLaws.some_none}}
use Rattle.pm_store_apart.proofs.batch.Batch.write.Goals as goal

pub append-requires-clause-gate : goal.append-requires-clause-gate
append-requires-clause-gate g c = λ whole. c.requires.gate

pub append-requires-clause-batch : goal.append-requires-clause-batch
append-requires-clause-batch g c = subst IsBatch (sym c.as_slice.ensures.value) c.requires.is_batch

pub append-requires-clause-number : goal.append-requires-clause-number
append-requires-clause-number g c = omega (arith, c.requires.number, ap length c.as_slice.ensures.value)

pub unreachable-requires : goal.unreachable-requires
unreachable-requires g c =
    let full = c.in-Err-Full.ensures.full c.in-Err-Full.field-0-0 c.in-Err-Full.field-0-1 (ap (λ (e : LogFault). Err e) c.in-Err-Full.field-0-is) in
    omega (arith, full.1, full.2, full.3, c.requires.fits, ap log.need_of c.as_slice.ensures.value)

pub unreachable-requires-in-Err-Broken : goal.unreachable-requires-in-Err-Broken
unreachable-requires-in-Err-Broken g c =
    some_none c.in-Err-Broken.field-0-0 (sym ((c.in-Err-Broken.ensures.broken c.in-Err-Broken.field-0-0).0 (ap (λ (e : LogFault). Err e) c.in-Err-Broken.field-0-is)) ∙ c.requires.unbroken)

pub returns-in-Ok : goal.returns-in-Ok
returns-in-Ok g c =
    let items = c.args.self.now.commits.items in
    let value : c.as_slice.result.now ≡ items = c.as_slice.ensures.value in
    let its = c.args.self.now.log in
    let seen = g.D.Disk.seen c.args.disk.now in
    let files_now = g.D.Disk.seen c.append.new.disk in
    let from = g.D.Disk.ticks c.args.disk.now in
    let to = g.D.Disk.ticks c.append.new.disk in
    let i = g.D.Disk.images c.args.disk.now in
    let j = g.D.Disk.images c.append.new.disk in
    let stops : IfSome seen (StopsAt its items from to (i from) j) = subst (λ (x : List (List Change)). IfSome seen (StopsAt its x from to (i from) j)) value c.append.ensures.stops in
    let grown : c.append.new.self ≡ log_with c.args.self.now =
    subst (λ (x : List (List Change)). c.append.new.self ≡ record its { end = its.end + log.need_of x; count = its.count + length x }) value c.in-Ok.ensures.grown in
    let lives : TellsStill (LivesAt its c.append.new.self items (i from) (j to)) seen files_now =
    subst (λ (x : List (List Change)). TellsStill (LivesAt its c.append.new.self x (i from) (j to)) seen files_now) value c.in-Ok.ensures.lives in
    let makes : TellsStill (MakesWith its c.append.new.self items) seen files_now =
    subst (λ (x : List (List Change)). TellsStill (MakesWith its c.append.new.self x) seen files_now) value c.in-Ok.ensures.makes in
    record {
      unbroken = c.requires.unbroken;
      is_batch = c.requires.is_batch;
      number = c.requires.number;
      came = record { grown = grown; tick_is = c.in-Ok.ensures.receipt.1; lives = lives; under_way = c.append.ensures.under_way; makes = makes };
      time = c.append.ensures.time;
      later = c.append.ensures.cause.later;
      tells = tells_nothing _ seen files_now c.append.ensures.beside;
      stops = stops;
    }

pub returns-in-Err-Disk : goal.returns-in-Err-Disk
returns-in-Err-Disk g c =
    let seen = g.D.Disk.seen c.args.disk.now in
    let from = g.D.Disk.ticks c.args.disk.now in
    let to = g.D.Disk.ticks c.append.new.disk in
    let i = g.D.Disk.images c.args.disk.now in
    let j = g.D.Disk.images c.append.new.disk in
    record {
      unbroken = c.requires.unbroken;
      is_batch = c.requires.is_batch;
      number = c.requires.number;
      came = record { broke = (c.in-Err-Disk.ensures.disk (search rules)).0; rose = c.append.ensures.cause.rose (search rules) };
      time = c.append.ensures.time;
      later = c.append.ensures.cause.later;
      tells = tells_nothing _ seen (g.D.Disk.seen c.append.new.disk) c.append.ensures.beside;
      stops = subst (λ (x : List (List Change)). IfSome seen (StopsAt c.args.self.now.log x from to (i from) j)) c.as_slice.ensures.value c.append.ensures.stops;
    }

pub returns-in-Err-NoMemory : goal.returns-in-Err-NoMemory
returns-in-Err-NoMemory g c =
    let seen = g.D.Disk.seen c.args.disk.now in
    let from = g.D.Disk.ticks c.args.disk.now in
    let to = g.D.Disk.ticks c.append.new.disk in
    let i = g.D.Disk.images c.args.disk.now in
    let j = g.D.Disk.images c.append.new.disk in
    record {
      unbroken = c.requires.unbroken;
      is_batch = c.requires.is_batch;
      number = c.requires.number;
      came = (c.in-Err-NoMemory.ensures.untouched fault.NoMemory (search rules) short_or_disk).1;
      time = c.append.ensures.time;
      later = c.append.ensures.cause.later;
      tells = tells_nothing _ seen (g.D.Disk.seen c.append.new.disk) c.append.ensures.beside;
      stops = subst (λ (x : List (List Change)). IfSome seen (StopsAt c.args.self.now.log x from to (i from) j)) c.as_slice.ensures.value c.append.ensures.stops;
    }
