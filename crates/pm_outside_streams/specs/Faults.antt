-- How often a sink over a writer has failed, and what failed first.
use Rattle.std.specs.Prelude.{ℕ, List, Option}
use Rattle.pm_outside_faults.specs.Faults.{count_of, first_of}
use Rattle.pm_outside_streams.specs.declared.streams.{SinkFault.SinkFault, StandardSink.StandardSink}

-- its name
abbrev pub stream_name : {W : Type 0} → StandardSink W → List ℕ
stream_name sink = sink.stream.now

abbrev pub sink_faults : {W : Type 0} → StandardSink W → ℕ
sink_faults sink = count_of sink.faults

abbrev pub first_sink_fault : {W : Type 0} → StandardSink W → Option SinkFault
first_sink_fault sink = first_of sink.faults
