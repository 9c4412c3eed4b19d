-- A server at one moment.
use Rattle.std.specs.Prelude.{ℕ, Bool, List, Option}
use Rattle.pm_supervisor_journal.specs.{Stands.AtWork, Supervision.at_work}
use Rattle.pm_once_children.specs.{pm_segment.Moment.{Moment, moment}, declared.{auxiliaries.Auxiliaries.Auxiliaries, outcome.Outcome.Outcome}}
use Rattle.pm_server_lines.specs.Log.{LogView, view_of as log_view_of}
use Rattle.pm_once.specs.declared.server.Server.{Server}

-- The supervisor at work, the store, the log, the children that ended inside the store in this generation, the auxiliary ones,
-- what the last of these came to where nobody has used the store since, and whether the port's end hasn't come.
pub record View : Type 1 where
  pub work : AtWork
  pub store : Moment
  pub log : LogView
  pub lost : List ℕ
  pub auxiliaries : Auxiliaries
  pub outcome : Option Outcome
  pub listens : Bool

-- a server as it is now
abbrev pub view_of : {J O D B : Type 0} {j : _} {o : _} {d : _} {b : _} → Server J O D B j o d b → View
view_of server = record {
  work = at_work server.supervision;
  store = moment server.store;
  log = log_view_of server.log;
  lost = server.lost.items;
  auxiliaries = server.auxiliaries;
  outcome = server.outcome;
  listens = server.listens;
}
