-- What a link in memory stands for, and what its calls do to it.
use Rattle.std.specs.Prelude.{◌≡◌, ◌≢◌, ◌⊎◌, ℕ, ◌+◌, ◌-◌, ◌^◌, ◌<◌, ◌≤◌, min, Bool, true, false, List, [], take, drop, length}
use Rattle.pm_outside.specs.{Calls.{Calls, no_calls, after_call}, Holds.{LetsGo, first_place, holds_left}, MemSink.{sink_bytes, sink_limit, sink_calls}, Traffic.{Traffic, no_traffic}, declared.{link.Got.{Got, TheVariants.{Bytes, NotYet, End, Failed}}, holds.{Hold.Hold, Holds.Holds}, mem_link.MemLink.MemLink, mem_sink.MemSink.MemSink, link_script.LinkScript.LinkScript}}

-- what it will still give
abbrev pub bytes_left : MemLink → List ℕ
bytes_left link = drop link.taken link.incoming.items

-- what has passed on it
abbrev pub link_traffic : MemLink → Traffic
link_traffic link = record {
  came_in = take link.taken link.incoming.items;
  went_out = sink_bytes link.outgoing;
  ended = link.ended;
  waits = link.waits;
  failed = link.failed;
  went_on = link.went_on;
}

-- where its writes go
abbrev pub link_sink : MemLink → MemSink
link_sink link = link.outgoing

-- the most bytes that one read gives
abbrev pub read_limit : MemLink → ℕ
read_limit link = link.per_call

-- its reads so far, and those that fail
abbrev pub read_calls : MemLink → Calls
read_calls link = link.reads

-- which of its port's links it is
abbrev pub link_number : MemLink → ℕ
link_number link = link.number

-- how often its reads and writes have failed, up to the last number
abbrev pub link_faults : MemLink → ℕ
link_faults link = min ((read_calls link).failed + (sink_calls (link_sink link)).failed) (2 ^ 64 - 1)

-- how many bytes a read gave
abbrev pub got_count : Got → ℕ
got_count (Bytes count) = count
got_count NotYet = 0
got_count End = 0
got_count Failed = 0

-- whether a read failed
abbrev pub is_got_failed : Got → Bool
is_got_failed (Bytes count) = false
is_got_failed NotYet = false
is_got_failed End = false
is_got_failed Failed = true

-- its holds that are left, and how often it was asked at one
abbrev pub link_holds : MemLink → Holds
link_holds link = link.holds

-- how many bytes stand in front of the first of these holds
abbrev pub bytes_free : MemLink → List Hold → ℕ
bytes_free link holds = min (first_place holds (length link.incoming.items)) (length link.incoming.items) - link.taken

-- What a read may answer, into so much room, once the first hold has gone or stayed: as many bytes as stand in front of
-- the next one; nothing yet where there are none; and the end after the last byte, or where 10,000 asks were in vain.
abbrev pub AnswersBy : MemLink → MemLink → ℕ → Got → Type 0
AnswersBy old new room (Bytes count) = LetsGo (holds_left (link_holds old)) (holds_left (link_holds new))
    × (count ≡ min (min (bytes_free old (holds_left (link_holds new))) room) (read_limit old))
AnswersBy old new room NotYet = LetsGo (holds_left (link_holds old)) (holds_left (link_holds new))
    × (bytes_free old (holds_left (link_holds new)) ≡ 0) × (holds_left (link_holds new) ≢ []) × ((link_holds old).asks < 10000)
AnswersBy old new room End = (bytes_left new ≡ []) × (holds_left (link_holds new) ≡ [])
    × ((bytes_left old ≡ []) ⊎ (10000 ≤ (link_holds old).asks))
AnswersBy old new room Failed = link_holds new ≡ link_holds old

-- a read counts as a call, and all that it doesn't speak of stays
pub record CountsRead (old new : MemLink) (got : Got) : Type 0 where
  pub limit : read_limit new ≡ read_limit old
  pub calls : read_calls new ≡ after_call (read_calls old) (is_got_failed got)
  pub sink : link_sink new ≡ link_sink old

-- a write changes the sink alone
pub record ChangesSinkOnly (old new : MemLink) : Type 0 where
  pub holds : link_holds new ≡ link_holds old
  pub left : bytes_left new ≡ bytes_left old
  pub limit : read_limit new ≡ read_limit old
  pub calls : read_calls new ≡ read_calls old

-- a link on which nothing has passed yet, and which goes by this script
pub record Begins (script : LinkScript) (link : MemLink) : Type 0 where
  pub traffic : link_traffic link ≡ no_traffic
  pub left : bytes_left link ≡ script.incoming.items
  pub read_most : read_limit link ≡ script.per_call
  pub write_most : sink_limit (link_sink link) ≡ script.per_call
  pub holds : holds_left (link_holds link) ≡ script.holds.items
  pub reads : read_calls link ≡ no_calls script.failing_reads.items
  pub writes : sink_calls (link_sink link) ≡ no_calls script.failing_writes.items
