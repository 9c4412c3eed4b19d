use Rattle.std.proofs.Common.{◌≡◌, ℕ, List, [], refl, subst}
use Rattle.pm_top_words.specs.{pm_server.declared.conf.Conf.Conf, Words.{IsLine, IsOnlyLine}, declared.words.Command.TheVariants.{Initdb, Once, Controldata, Workload}}
use Rattle.pm_top.{specs.{declared.status.Top.{Top, TheVariants.{Done, Abnormal, OutFault, DiskFault, Exists, Unreadable, Usage, NoMemory, NoThread}}, Ends.{HasAnswer, IsControldataEnd, IsInitdbEnd, line_of}, Load.IsWorkloadEnd}, proofs.{Lines.{another_line, no_line}, Within.{number_within, within}, alone.run_alone.Goals.{in-Err, in-Ok+in-Initdb, in-Ok+in-Controldata, in-Ok+in-Workload}}}
use Rattle.pm_top.proofs.alone.run_alone.Goals as goal

-- a line of `serve` isn't handed to it
pub unreachable-requires : goal.unreachable-requires
unreachable-requires g c = c.requires.alone c.in-Serve.port _ (_, rw c.in-Serve.is at c.in-Ok.ensures.line)

pub run_server-requires-clause-within : goal.run_server-requires-clause-within
run_server-requires-clause-within g c = within _ _ _ _ c.in-Ok.ensures.line

pub returns-in-Once-clause-once : goal.returns-in-Once-clause-once
returns-in-Once-clause-once g c = λ dir conf line.
    rw (c.in-Ok.ensures.only Once dir conf line).2 c.run_server.ensures.run

pub returns-clause-usage : goal.returns-clause-usage
returns-clause-usage g c = λ is command dir line. elim c.match-read_words.branch [
  | in-Err w ↦ no_line _ command dir (rw w.in-Err.is at c.read_words.ensures.usage) line
  | in-Ok+in-Initdb w ↦ absurd (subst IsInitdbEnd (rw w.status-is at is) w.initdb.ensures.kind)
  | in-Ok+in-Controldata w ↦ absurd (subst IsControldataEnd (rw w.status-is at is) w.controldata.ensures.kind)
  | in-Ok+in-Workload w ↦ absurd (subst IsWorkloadEnd (rw w.status-is at is) w.load.ensures.kind)
]

pub returns-clause-initdb_ends : goal.returns-clause-initdb_ends
returns-clause-initdb_ends g c = λ dir line. elim c.match-read_words.branch [
  | in-Err w ↦ no_line _ Initdb dir (rw w.in-Err.is at c.read_words.ensures.usage) line
  | in-Ok+in-Initdb w ↦ rw w.status-is w.initdb.ensures.kind
  | in-Ok+in-Controldata w ↦ another_line _ Controldata Initdb _ dir _ (rw w.in-Controldata.is at w.in-Ok.ensures.only) line (λ e. cc)
  | in-Ok+in-Workload w ↦ another_line _ (Workload w.in-Workload.number) Initdb _ dir _ (rw w.in-Workload.is at w.in-Ok.ensures.only) line (λ e. cc)
]

pub returns-clause-controldata_ends : goal.returns-clause-controldata_ends
returns-clause-controldata_ends g c = λ dir line. elim c.match-read_words.branch [
  | in-Err w ↦ no_line _ Controldata dir (rw w.in-Err.is at c.read_words.ensures.usage) line
  | in-Ok+in-Initdb w ↦ another_line _ Initdb Controldata _ dir _ (rw w.in-Initdb.is at w.in-Ok.ensures.only) line (λ e. cc)
  | in-Ok+in-Controldata w ↦ rw w.status-is w.controldata.ensures.kind
  | in-Ok+in-Workload w ↦ another_line _ (Workload w.in-Workload.number) Controldata _ dir _ (rw w.in-Workload.is at w.in-Ok.ensures.only) line (λ e. cc)
]

pub returns-clause-once : goal.returns-clause-once
returns-clause-once g c = λ dir conf line. elim c.match-read_words.branch [
  | in-Err w ↦ no_line _ Once dir (rw w.in-Err.is at c.read_words.ensures.usage) (conf, line)
  | in-Ok+in-Initdb w ↦ another_line _ Initdb Once _ dir _ (rw w.in-Initdb.is at w.in-Ok.ensures.only) (conf, line) (λ e. cc)
  | in-Ok+in-Controldata w ↦ another_line _ Controldata Once _ dir _ (rw w.in-Controldata.is at w.in-Ok.ensures.only) (conf, line) (λ e. cc)
  | in-Ok+in-Workload w ↦ another_line _ (Workload w.in-Workload.number) Once _ dir _ (rw w.in-Workload.is at w.in-Ok.ensures.only) (conf, line) (λ e. cc)
]

-- a command that has done its work has no line of a status
made_silent : (status : Top) → HasAnswer status → line_of status ≡ []
made_silent Done made = refl
made_silent OutFault made = refl
made_silent (Abnormal why) made = absurd made
made_silent DiskFault made = absurd made
made_silent Exists made = absurd made
made_silent (Unreadable fault) made = absurd made
made_silent Usage made = absurd made
made_silent NoMemory made = absurd made
made_silent NoThread made = absurd made

pub returns-clause-told : goal.returns-clause-told
returns-clause-told g c = λ dir line made. elim c.match-read_words.branch [
  | in-Err w ↦ no_line _ Controldata dir (rw w.in-Err.is at c.read_words.ensures.usage) line
  | in-Ok+in-Initdb w ↦ another_line _ Initdb Controldata _ dir _ (rw w.in-Initdb.is at w.in-Ok.ensures.only) line (λ e. cc)
  | in-Ok+in-Controldata w ↦ rw (c.tell.ensures.silent (made_silent _ made)) (rw w.status-is (w.controldata.ensures.told (rw w.status-is at made)))
  | in-Ok+in-Workload w ↦ another_line _ (Workload w.in-Workload.number) Controldata _ dir _ (rw w.in-Workload.is at w.in-Ok.ensures.only) line (λ e. cc)
]

pub load-requires : goal.load-requires
load-requires g c = number_within _ _ _ _ (rw c.in-Workload.is at c.in-Ok.ensures.line)

pub returns-clause-workload_ends : goal.returns-clause-workload_ends
returns-clause-workload_ends g c = λ number dir line. elim c.match-read_words.branch [
  | in-Err w ↦ no_line _ (Workload number) dir (rw w.in-Err.is at c.read_words.ensures.usage) line
  | in-Ok+in-Initdb w ↦ another_line _ Initdb (Workload number) _ dir _ (rw w.in-Initdb.is at w.in-Ok.ensures.only) line (λ e. cc)
  | in-Ok+in-Controldata w ↦ another_line _ Controldata (Workload number) _ dir _ (rw w.in-Controldata.is at w.in-Ok.ensures.only) line (λ e. cc)
  | in-Ok+in-Workload w ↦ rw w.status-is w.load.ensures.kind
]

-- the number that was read is that of the line
same_number : (words : List (List ℕ)) (read number : ℕ) (folder dir : List ℕ) (conf : Conf) → IsOnlyLine words (Workload read) folder conf → IsLine words (Workload number) dir → read ≡ number
same_number words read number folder dir conf only line = let same = (only (Workload number) dir line.0 line.1).0 in cc

pub returns-clause-worked : goal.returns-clause-worked
returns-clause-worked g c = λ number dir line made. elim c.match-read_words.branch [
  | in-Err w ↦ no_line _ (Workload number) dir (rw w.in-Err.is at c.read_words.ensures.usage) line
  | in-Ok+in-Initdb w ↦ another_line _ Initdb (Workload number) _ dir _ (rw w.in-Initdb.is at w.in-Ok.ensures.only) line (λ e. cc)
  | in-Ok+in-Controldata w ↦ another_line _ Controldata (Workload number) _ dir _ (rw w.in-Controldata.is at w.in-Ok.ensures.only) line (λ e. cc)
  | in-Ok+in-Workload w ↦ rw (← same_number _ w.in-Workload.number number _ dir _ (rw w.in-Workload.is at w.in-Ok.ensures.only) line, c.tell.ensures.silent (made_silent _ made)) (rw w.status-is (w.load.ensures.told (rw w.status-is at made)))
]
