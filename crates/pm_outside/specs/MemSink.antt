-- What a sink in memory keeps, and what one write does to it.
use Rattle.std.specs.Prelude.{◌≡◌, ℕ, List}
use Rattle.pm_outside.specs.{Calls.{Calls, after_call}, Traffic.is_put_failed, declared.{link.Put.{Put, TheVariants.{Count, NotYet, Failed}}, mem_sink.MemSink.MemSink}}

-- all bytes written, in order
abbrev pub sink_bytes : MemSink → List ℕ
sink_bytes sink = sink.bytes.items

-- the most bytes that one write takes
abbrev pub sink_limit : MemSink → ℕ
sink_limit sink = sink.per_call

-- its writes so far, and those that fail
abbrev pub sink_calls : MemSink → Calls
sink_calls sink = sink.writes

-- a write took so many bytes, or failed
abbrev pub TakesOrFails : Put → ℕ → Type 0
TakesOrFails (Count count) most = count ≡ most
TakesOrFails NotYet most = ⊥
TakesOrFails Failed most = Unit {0}

-- a write counts as a call, and the limit and the list of failing calls stay
pub record CountsWrite (old new : MemSink) (put : Put) : Type 0 where
  pub limit : sink_limit new ≡ sink_limit old
  pub calls : sink_calls new ≡ after_call (sink_calls old) (is_put_failed put)
