-- How a command ends, and what it says.
use Rattle.std.specs.Prelude.{ℕ, List, [], ◌++◌, codes}
use Rattle.pm_server.specs.{pm_disk.Cause.Rose, Outside.OutsideView, pm_server_lines.Print.{IsPrinted, redo_line}, declared.end.ServerEnd.ServerEnd}
use Rattle.pm_server.specs.pm_record.declared.fault.RedoFault.TheVariants as redo
use Rattle.pm_server.specs.declared.end.ServerEnd.TheVariants as ends
use Rattle.pm_top.specs.declared.status.Top.{Top, TheVariants.{Done, Abnormal, OutFault, DiskFault, Exists, Unreadable, Usage, NoMemory, NoThread}}

-- the exit code of the program: served, refused or failed, no command line, out of memory, out of threads
abbrev pub exit_code : Top → ℕ
exit_code Done = 0
exit_code (Abnormal why) = 1
exit_code OutFault = 1
exit_code DiskFault = 1
exit_code Exists = 1
exit_code (Unreadable fault) = 1
exit_code Usage = 2
exit_code NoMemory = 3
exit_code NoThread = 4

-- ---- which ends a command may have

abbrev pub IsInitdbEnd : Top → Type 0
IsInitdbEnd Done = Unit {0}
IsInitdbEnd OutFault = Unit {0}
IsInitdbEnd DiskFault = Unit {0}
IsInitdbEnd Exists = Unit {0}
IsInitdbEnd _ = ⊥

abbrev pub IsControldataEnd : Top → Type 0
IsControldataEnd Done = Unit {0}
IsControldataEnd OutFault = Unit {0}
IsControldataEnd DiskFault = Unit {0}
IsControldataEnd (Unreadable redo.Disk) = ⊥
IsControldataEnd (Unreadable redo.NoMemory) = ⊥
IsControldataEnd (Unreadable fault) = Unit {0}
IsControldataEnd NoMemory = Unit {0}
IsControldataEnd _ = ⊥

-- `initdb` has made a cluster, `controldata` has read one: that was printed, or the sink failed
abbrev pub HasAnswer : Top → Type 0
HasAnswer Done = Unit {0}
HasAnswer OutFault = Unit {0}
HasAnswer _ = ⊥

-- how a server ends
abbrev pub status_of : ServerEnd → Top
status_of ends.Clean = Done
status_of (ends.Abnormal why) = Abnormal why
status_of ends.NoThread = NoThread
status_of ends.NoMemory = NoMemory

-- ---- what is printed

-- the commands, each with its options
abbrev pub usage_lines : List ℕ
usage_lines =
    codes "usage: initdb --data D | controldata --data D | workload --number N\n"
    ++ codes "       once --data D [OPTIONS] | serve --data D --port P [OPTIONS]\n"
    ++ codes "options: --max-connections 1..200, --superuser-reserved 0..max-connections-1,\n"
    ++ codes "         --restart-after-crash on|off, --authentication-timeout 1..600\n"

-- The line of a status. A server prints its lines itself.
abbrev pub line_of : Top → List ℕ
line_of Done = []
line_of (Abnormal why) = []
line_of OutFault = []
line_of DiskFault = codes "disk fault\n"
line_of Exists = codes "a cluster exists\n"
line_of (Unreadable fault) = redo_line fault
line_of Usage = usage_lines
line_of NoMemory = codes "out of memory\n"
line_of NoThread = []

-- what `initdb` says
abbrev pub initdb_line : Top → List ℕ
initdb_line Done = codes "initialized\n"
initdb_line OutFault = codes "initialized\n"
initdb_line status = line_of status

-- the line was written, or a front of it where the sink failed; and nothing else
abbrev pub HasSaid : List ℕ → (before now : OutsideView) → Type 0
HasSaid line before now =
    IsPrinted line (Rose before.sink_faults now.sink_faults) before.written now.written
