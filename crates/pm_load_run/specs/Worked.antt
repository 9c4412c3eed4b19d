-- What a workload has to come to.
use Rattle.std.specs.Prelude.{◌≡◌, ℕ, List, [], ◌∷◌, replicate, Option}
use Rattle.pm_server.specs.{pm_disk.Files.Files, pm_outside.{MemLink.link_traffic, MemPort.links_back, declared.{mem_link.MemLink.MemLink, mem_port.MemPort.MemPort}}, pm_record.declared.found.Found.Found, pm_rows.Standing.Standing, pm_server_lines.Print.IsPrinted}
use Rattle.pm_keys.specs.CancelKey.{cancel_key}
use Rattle.pm_redo.specs.Found.{FindsPair, MeansOnly, standing_in}
use Rattle.pm_load.specs.{Replay.{IsReplay, Replayed}, Summary.{summary_lines, summary_of}, declared.summary.Summary.Summary}

-- the seed of the keys, and the pid of the session: those before it are the children of the server that serve no connection
abbrev pub seed : List ℕ
seed = replicate 32 0

abbrev pub session_pid : ℕ
session_pid = 4

-- what a client alone is answered by the queries' meaning
abbrev pub IsMeant : ℕ → Replayed → Type 0
IsMeant number meant = IsReplay number session_pid (cancel_key seed session_pid) meant

-- The files stand for what was found and nothing else, and its summary is that of these rows and commits.
pub record IsLeft (standing : Standing) (files : Files) (summary : Summary) : Type 0 where
  pub found : Found
  pub finds : FindsPair found files (λ content. Unit {0})
  pub only_that : MeansOnly found files
  pub told : summary ≡ summary_of (standing_in found)
  pub same : summary ≡ summary_of standing

-- The one link that came back was sent what the queries mean, the greeting and the answers and no byte more, and the files
-- stand for rows with the summary of those that the queries leave.
pub record IsWorked (number : ℕ) (port : MemPort) (files : Files) (summary : Summary) : Type 0 where
  pub meant : Replayed
  pub is_meant : IsMeant number meant
  pub link : MemLink
  pub only : links_back port ≡ link ∷ []
  pub sent : (link_traffic link).went_out ≡ meant.sent
  pub left : IsLeft meant.standing files summary

-- What was printed is the summary of the rows that the queries mean, or a front of it where that was cut off.
pub record HasTold (number : ℕ) (cut : Type 0) (before now : Option (List ℕ)) : Type 0 where
  pub meant : Replayed
  pub is_meant : IsMeant number meant
  pub printed : IsPrinted (summary_lines number (summary_of meant.standing)) cut before now
