-- A server at one moment.
use Rattle.std.specs.Prelude.{ℕ, Bool, List, Option}
use Rattle.atomic_table.specs.Seated.{TableId}
use Rattle.pm_worker.specs.{pm_board.pm_board_words.declared.views.RosterView.RosterView, pm_outside.Visits.Visits, declared.mail.MailTold.MailTold}
use Rattle.pm_supervisor_journal.specs.{Stands.AtWork, Supervision.at_work}
use Rattle.pm_server_lines.specs.Log.{LogView, view_of as log_view_of}
use Rattle.pm_store_shared.specs.Told.{SharedModel}
use Rattle.pm_postmaster.specs.declared.{came.LastCame.LastCame, server.Server.Server}

-- The supervisor at work and its board, its side of the store, its log, the links of its port and the lines of its console, its
-- clock, the children of this generation that ended while their slots were active, how the last startup child and the last
-- checkpointer came out, and whether links are asked for. The store was handed the disk.
pub record View (D C : Type 0) : Type 0 where
  pub work : AtWork
  pub table : TableId
  pub board : RosterView MailTold
  pub shared : SharedModel D
  pub log : LogView
  pub visits : Option Visits
  pub lines : Option (List (List ℕ))
  pub clock : C
  pub lost : List ℕ
  pub came : LastCame
  pub listens : Bool

-- a server as it is now
abbrev pub view_of : {L P K O D C J B R : Type 0} {l : _} {p : _} {k : _} {o : _} {c : _} {j : _}
    → Server L P K O D C J B R l p k o c j → View D C
view_of {p = p} {k = k} server = record {
  work = at_work server.desk.supervision;
  table = server.desk.roster.table;
  board = server.desk.roster.knows;
  shared = server.shared;
  log = log_view_of server.log;
  visits = p.visits server.port;
  lines = k.lines server.console;
  clock = server.clock;
  lost = server.lost.items;
  came = server.came;
  listens = server.listens;
}
