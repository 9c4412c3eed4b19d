-- What is told of the things that a server works on, at one moment.
use Rattle.std.specs.Prelude.{ℕ, List, Option}
use Rattle.pm_outside.specs.Visits.{Visits}
use Rattle.pm_state.specs.declared.event.PmEvent.{PmEvent}
use Rattle.pm_query.specs.declared.book.BookEntry.{BookEntry}
use Rattle.pm_server.specs.{Views.{DiskView, StoreView, disk_view}, declared.outside.Outside.Outside}

-- The links of the port, what was written to the sink and how often it failed, the disk, the moments that the clock gives, and
-- the entries of journal and book. The seed is that of the keys of sessions.
pub record OutsideView : Type 1 where
  pub visits : Option Visits
  pub written : Option (List ℕ)
  pub sink_faults : ℕ
  pub disk : DiskView
  pub gives : ℕ → Type 0
  pub journal : Option (List PmEvent)
  pub book : Option (List BookEntry)
  pub seed : List ℕ

-- of these, the store
abbrev pub store_view : OutsideView → StoreView
store_view outside = record { disk = outside.disk; book = outside.book }

abbrev pub outside_view : {P O D C J B L R : Type 0} {p : _} {l : _} {o : _} {d : _} {c : _} {j : _} {b : _}
    → Outside P O D C J B L R p l o d c j b → OutsideView
outside_view {p = p} {o = o} {d = d} {c = c} {j = j} {b = b} outside = record {
  visits = p.visits outside.port;
  written = o.written outside.sink;
  sink_faults = o.faults outside.sink;
  disk = disk_view d outside.disk;
  gives = c.gives outside.clock;
  journal = j.entries outside.journal;
  book = b.entries outside.book;
  seed = outside.seed;
}
