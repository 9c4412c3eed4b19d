use Rattle.std.{proofs.Common.{rules, ◌≡◌, ◌∙◌, ℕ, length, None, Some, ap, subst, arith}, specs.Prelude.IfSome}
use Rattle.pm_query.specs.{pm_disk.{Cause.Rose, Disk.TellsStill, Files.{other}}, pm_record.{Calls.goes_two, StandsFor.Content}}
use Rattle.pm_log.specs.{Half.{Half, over_of, whole_of}, Log.Lives, Making.{HasStepped, IsStep, IsUnderWay}, declared.{log.Log.Log, making.Stepped.Stepped}}
use Rattle.pm_store_apart.{proofs.{Making.{StepLives, SwitchLives, SwitchStops, lives_two, stops_one, stops_two}, Resting.tells_nothing}}
use Rattle.pm_store_apart.proofs.batch.Batch.make_piece.Goals as goal

pub returns-in-Ok-More : goal.returns-in-Ok-More
returns-in-Ok-More g c =
    let log = c.args.self.now.log in
    let half = c.args.making in
    let new = c.step.new.making in
    let seen = g.D.Disk.seen c.args.disk.now in
    let mid = g.D.Disk.seen c.step.new.disk in
    let from = g.D.Disk.ticks c.args.disk.now in
    let between = g.D.Disk.ticks c.step.new.disk in
    let i = g.D.Disk.images c.args.disk.now in
    let j = g.D.Disk.images c.step.new.disk in
    let same : c.step.new.self ≡ log = c.in-Ok-More.ensures.log in
    let step = subst (IsStep half new log.end) c.in-Ok-More.field-0-is c.in-Ok-More.ensures.step in
    let made = subst (λ (s : Stepped). TellsStill (λ files files_now. HasStepped half new log.file log.end files files_now (j between) s) seen mid) c.in-Ok-More.field-0-is c.in-Ok-More.ensures.made in
    record {
      unbroken = c.requires.unbroken;
      made = c.requires.made;
      came = record {
        under_way = subst (λ (l : Log). IsUnderWay l new) same c.step.ensures.under_way;
        epoch = ap (λ (h : Half). h.epoch) step.2;
        over = ap over_of step.2;
        lives = subst (λ (l : Log). TellsStill (λ files files_now. (content : Content) → Lives log content files (i from) → Lives l content files_now (j between)) seen mid) same c.in-Ok-More.ensures.lives;
        makes = made;
      };
      time = c.step.ensures.time;
      later = c.step.ensures.cause.later;
      tells = tells_nothing _ seen mid c.step.ensures.same_file;
      stops = stops_one seen log half from between (i from) j c.step.ensures.stops;
    }

pub returns-in-Ok : goal.returns-in-Ok
returns-in-Ok g c =
    let log = c.args.self.now.log in
    let half = c.args.making in
    let ready = c.step.new.making in
    let seen = g.D.Disk.seen c.args.disk.now in
    let mid = g.D.Disk.seen c.step.new.disk in
    let files_now = g.D.Disk.seen c.switch.new.disk in
    let from = g.D.Disk.ticks c.args.disk.now in
    let between = g.D.Disk.ticks c.step.new.disk in
    let to = g.D.Disk.ticks c.switch.new.disk in
    let i = g.D.Disk.images c.args.disk.now in
    let j = g.D.Disk.images c.step.new.disk in
    let k = g.D.Disk.images c.switch.new.disk in
    let new = c.switch.new.self in
    let same : c.step.new.self ≡ log = c.in-Ok-Ready.ensures.log in
    let step = subst (IsStep half ready log.end) c.in-Ok-Ready.field-0-is c.in-Ok-Ready.ensures.step in
    let made = subst (λ (s : Stepped). TellsStill (λ files files_now. HasStepped half ready log.file log.end files files_now (j between) s) seen mid) c.in-Ok-Ready.field-0-is c.in-Ok-Ready.ensures.made in
    let whole : ready.done ≡ whole_of half log.end = ap (λ (h : Half). h.done) step.1 ∙ step.0 in
    let lives : TellsStill (StepLives log (i from) (j between)) seen mid =
    subst (λ (l : Log). TellsStill (λ files files_now. (content : Content) → Lives log content files (i from) → Lives l content files_now (j between)) seen mid) same c.in-Ok-Ready.ensures.lives in
    let changed : TellsStill (SwitchLives log ready new (j between) (k to)) mid files_now = subst (λ (l : Log). TellsStill (SwitchLives l ready new (j between) (k to)) mid files_now) same c.in-Ok.ensures.lives in
    let second : IfSome mid (SwitchStops log ready between to (j between) k) = subst (λ (l : Log). IfSome mid (SwitchStops l ready between to (j between) k)) same c.switch.ensures.stops in
    let moved : new ≡ record log { file = other log.file; epoch = ready.epoch; base_end = length ready.base; end = ready.done; making = None } =
    subst (λ (l : Log). new ≡ record l { file = other l.file; epoch = ready.epoch; base_end = length ready.base; end = ready.done; making = None }) same c.in-Ok.ensures.moved in
    record {
      unbroken = c.requires.unbroken;
      made = c.requires.made;
      came = record {
        moved = moved ∙ ap (λ (h : Half). record log { file = other log.file; epoch = h.epoch; base_end = length h.base; end = h.done; making = None }) step.1
            ∙ ap (λ (n : ℕ). record log { file = other log.file; epoch = half.epoch; base_end = length half.base; end = n; making = None }) step.0;
        tick_is = c.ticks.ensures;
        lives = lives_two log half ready from between to i j k new seen mid files_now lives made changed;
      };
      time = goes_two from between to i j k c.step.ensures.time c.switch.ensures.time;
      later = omega (arith, c.step.ensures.cause.later, c.switch.ensures.cause.later);
      tells = λ none. tells_nothing _ mid files_now c.switch.ensures.tells (tells_nothing _ seen mid c.step.ensures.same_file none);
      stops = stops_two log half ready from between to i j k seen mid whole c.switch.ensures.time lives made c.step.ensures.stops second;
    }

pub returns-in-Err-Disk-switch : goal.returns-in-Err-Disk-switch
returns-in-Err-Disk-switch g c =
    let log = c.args.self.now.log in
    let half = c.args.making in
    let ready = c.step.new.making in
    let seen = g.D.Disk.seen c.args.disk.now in
    let mid = g.D.Disk.seen c.step.new.disk in
    let files_now = g.D.Disk.seen c.switch.new.disk in
    let from = g.D.Disk.ticks c.args.disk.now in
    let between = g.D.Disk.ticks c.step.new.disk in
    let to = g.D.Disk.ticks c.switch.new.disk in
    let i = g.D.Disk.images c.args.disk.now in
    let j = g.D.Disk.images c.step.new.disk in
    let k = g.D.Disk.images c.switch.new.disk in
    let same : c.step.new.self ≡ log = c.in-Ok-Ready.ensures.log in
    let step = subst (IsStep half ready log.end) c.in-Ok-Ready.field-0-is c.in-Ok-Ready.ensures.step in
    let made = subst (λ (s : Stepped). TellsStill (λ files files_now. HasStepped half ready log.file log.end files files_now (j between) s) seen mid) c.in-Ok-Ready.field-0-is c.in-Ok-Ready.ensures.made in
    let whole : ready.done ≡ whole_of half log.end = ap (λ (h : Half). h.done) step.1 ∙ step.0 in
    let lives : TellsStill (StepLives log (i from) (j between)) seen mid =
    subst (λ (l : Log). TellsStill (λ files files_now. (content : Content) → Lives log content files (i from) → Lives l content files_now (j between)) seen mid) same c.in-Ok-Ready.ensures.lives in
    let second : IfSome mid (SwitchStops log ready between to (j between) k) = subst (λ (l : Log). IfSome mid (SwitchStops l ready between to (j between) k)) same c.switch.ensures.stops in
    let rose : Rose (g.D.Disk.faults c.step.new.disk) (g.D.Disk.faults c.switch.new.disk) = c.switch.ensures.cause.rose (search rules) in
    rw c.failed.ensures.came (rw c.failed.ensures.nothing (record {
      unbroken = c.requires.unbroken;
      made = c.requires.made;
      came = record {
        broke = ap (λ (l : Log). record l { making = None }) (c.in-Err-Disk-switch.ensures.disk (search rules)).0 ∙ ap (λ (l : Log). record l { since = Some to; making = None }) same;
        rose = omega (arith, c.step.ensures.cause.later, rose);
      };
      time = goes_two from between to i j k c.step.ensures.time c.switch.ensures.time;
      later = omega (arith, c.step.ensures.cause.later, c.switch.ensures.cause.later);
      tells = λ none. tells_nothing _ mid files_now c.switch.ensures.tells (tells_nothing _ seen mid c.step.ensures.same_file none);
      stops = stops_two log half ready from between to i j k seen mid whole c.switch.ensures.time lives made c.step.ensures.stops second;
    }))

pub returns-in-Err-Disk : goal.returns-in-Err-Disk
returns-in-Err-Disk g c =
    let log = c.args.self.now.log in
    let seen = g.D.Disk.seen c.args.disk.now in
    let mid = g.D.Disk.seen c.step.new.disk in
    let from = g.D.Disk.ticks c.args.disk.now in
    let between = g.D.Disk.ticks c.step.new.disk in
    let i = g.D.Disk.images c.args.disk.now in
    let j = g.D.Disk.images c.step.new.disk in
    rw c.failed-in-Err-Disk.ensures.came (rw c.failed-in-Err-Disk.ensures.nothing (record {
      unbroken = c.requires.unbroken;
      made = c.requires.made;
      came = record {
        broke = ap (λ (l : Log). record l { making = None }) (c.in-Err-Disk.ensures.disk (search rules)).0;
        rose = c.step.ensures.cause.rose (search rules);
      };
      time = c.step.ensures.time;
      later = c.step.ensures.cause.later;
      tells = tells_nothing _ seen mid c.step.ensures.same_file;
      stops = stops_one seen log c.args.making from between (i from) j c.step.ensures.stops;
    }))
