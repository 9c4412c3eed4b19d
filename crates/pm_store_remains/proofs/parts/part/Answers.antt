use Rattle.pm_store_remains.proofs.Remaining.{left}
use Rattle.pm_store_remains.proofs.parts.part.Goals as goal

pub returns : goal.returns
returns g c = λ first log behind.
    left first log c.args.store c.into_parts.result.0 c.into_parts.result.1 behind c.args.store.rests
    c.keeps_its_run.ensures.replay c.keeps_its_run.ensures.run c.stays_clean.ensures c.reads_its_files.ensures
    c.into_parts.ensures.0 c.into_parts.ensures.1
