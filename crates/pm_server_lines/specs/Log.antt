-- A server's log: the lines that its journal tells of.
use Rattle.std.specs.{Prelude.{◌≡◌, ℕ, ◌≤◌, Bool, true, false, List, ◌++◌, codes, Option}, List.flat_map}
use Rattle.pm_disk.specs.Cause.{Rose}
use Rattle.pm_state.specs.{declared.{action.Line.Line, event.PmEvent.PmEvent}, Journal.lines_of, Text.text_of}
use Rattle.pm_server_lines.specs.{Print.IsPrinted, declared.log.Log.Log}

-- a line, with what stands before it and its line feed
abbrev pub log_line : Line → List ℕ
log_line line = codes "LOG:  " ++ text_of line ++ codes "\n"

-- all that a journal tells of
abbrev pub log_of : List PmEvent → List ℕ
log_of journal = flat_map log_line (lines_of journal)

-- A log at one moment: what its sink has, where it tells that, how often it has failed, and whether it has failed at a line,
-- so that no further one is written.
pub record LogView : Type 0 where
  pub written : Option (List ℕ)
  pub faults : ℕ
  pub is_cut : Bool

abbrev pub view_of : {O : Type 0} {g : _} → Log O g → LogView
view_of {g = g} log = record { written = g.written log.sink; faults = g.faults log.sink; is_cut = log.is_cut }

-- a log whose sink has these bytes and has failed so often, and hasn't failed at a line
abbrev pub opened : Option (List ℕ) → ℕ → LogView
opened written faults = record { written = written; faults = faults; is_cut = false }

-- A text was given to a log. It was written, or a front of it where the sink failed; and nothing of it where it had failed before.
pub record Says (text : List ℕ) (before now : LogView) : Type 0 where
  pub unbroken : before.is_cut ≡ false → IsPrinted text (now.is_cut ≡ true) before.written now.written
  pub rose : before.is_cut ≡ false → now.is_cut ≡ true → Rose before.faults now.faults
  pub broken : before.is_cut ≡ true → now ≡ before
  pub later : before.faults ≤ now.faults

-- These bytes were written since a log was open, or a front of them where the sink failed.
pub record HasPrinted (text : List ℕ) (first now : LogView) : Type 0 where
  pub printed : IsPrinted text (now.is_cut ≡ true) first.written now.written
  pub rose : now.is_cut ≡ true → Rose first.faults now.faults
  pub later : first.faults ≤ now.faults

-- all lines that a journal tells of
abbrev pub HasSaid : List PmEvent → LogView → LogView → Type 0
HasSaid journal first now = HasPrinted (log_of journal) first now

-- All lines of the journal and the line of the end were written, or a front of them where the sink failed; and nothing else.
pub record HasLogged (text : List ℕ) (before now : Option (List ℕ)) (faults_before faults_now : ℕ) : Type 0 where
  pub printed : IsPrinted text (Rose faults_before faults_now) before now
  pub later : faults_before ≤ faults_now
