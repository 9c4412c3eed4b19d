use Rattle.pm_store_apart.{specs.Moment.over_as, proofs.OpensLaws.opens_waiting}
use Rattle.pm_segment.proofs.segment.Segment.new.Goals as goal

pub returns-in-Ok-clause-waits : goal.returns-in-Ok-clause-waits
returns-in-Ok-clause-waits g c = λ no_entry.
    let new = c.in-Ok.ensures.new in
    opens_waiting (over_as c.args.commits c.args.disk c.in-Ok.apart) (g.B.Chronicle.entries c.args.book) new.unread new.unskipped new.generation new.inside no_entry new.book
