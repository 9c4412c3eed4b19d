-- What holds of a store that begins its next generation.
use Rattle.std.proofs.Common.{inl, ℕ, List, ◌++◌}
use Rattle.pm_segment.specs.{Moment.Moment, Moves.Spans, MovesLaws.renewal_shown, Renewal.renewal}
use Rattle.pm_server.specs.Renewed.{HasRenewed}

pub spans_renewal : (generation : ℕ) (lost others : List ℕ) (before now : Moment) → HasRenewed generation lost others before now → Spans (renewal (lost ++ others) generation) before now
spans_renewal generation lost others before now renewed = record {
  notes = renewed.renews.notes;
  time = renewed.time;
  later = renewed.later;
  counts = λ from counted. record { counted = renewed.renews.counts from counted; each = renewal_shown from now.faults (lost ++ others) generation };
  waits = λ origin stands. inl (renewed.renews.waits origin stands);
  goes_on = renewed.renews.goes_on;
}
