use Rattle.std.proofs.Common.{◌-◌, length}
use denote.Text.{Utf8}
use denote.Shadow.{shadow}
use Rattle.pm_sql.{specs.Query.script_of, proofs.Steps.IsReading}
use Rattle.pm_sql.proofs.query.script_of.Given as goal

abbrev pub invariant-loop : goal.invariant-loop
invariant-loop l = shadow (Utf8 l.rest) × IsReading (length l.text - l.counter) l.script l.rest l.writing (script_of l.text)
