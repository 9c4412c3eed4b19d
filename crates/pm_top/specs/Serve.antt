-- A run of `serve`.
use Rattle.std.specs.Prelude.{◌≡◌, ℕ, List, Option}
use Rattle.pm_postmaster.specs.{Outside.ServeView, pm_board.pm_board_words.declared.views.RosterView.RosterView, pm_worker.declared.mail.MailTold.MailTold, pm_server.declared.{conf.Conf.Conf, end.ServerEnd.ServerEnd}}
use Rattle.pm_serve_promises.specs.PromisedServe.{IsPromisedServe}
use Rattle.pm_top_words.specs.{declared.words.Command.{Command, TheVariants.{Initdb, Once, Serve, Controldata, Workload}}, Words.{IsLine, IsLineWith, IsOnlyLine}}
use Rattle.pm_top.specs.{Ends.status_of, declared.status.Top.Top}

-- a command that serves, one connection at a time or many
abbrev pub IsServer : Command → Type 0
IsServer Once = Unit {0}
IsServer (Serve port) = Unit {0}
IsServer Initdb = ⊥
IsServer Controldata = ⊥
IsServer (Workload number) = ⊥

-- the words are this line of `serve` alone
pub record IsServeLine (words : List (List ℕ)) (conf : Conf) : Type 0 where
  pub port : ℕ
  pub dir : List ℕ
  pub line : IsLineWith words (Serve port) dir conf
  pub only : IsOnlyLine words (Serve port) dir conf

-- they are none of `serve`
abbrev pub IsNoServeLine : List (List ℕ) → Type 0
IsNoServeLine words = (port : ℕ) (dir : List ℕ) → ¬ (IsLine words (Serve port) dir)

-- It is a run of the server of many connections, whose end is told by the status, with some board or none, and it keeps what a user
-- counts on.
abbrev pub RunsServe : Conf → Top → (before now : ServeView) → Type 0
RunsServe conf status before now =
    (end : ServerEnd) × (status ≡ status_of end) × (board : Option (RosterView MailTold)) × IsPromisedServe conf end board before now
