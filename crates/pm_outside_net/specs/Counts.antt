-- How often a port, a link and a console have failed, up to the last number, what failed first of a port and of a console, and
-- which of its port's links a link is.
use Rattle.std.specs.Prelude.{ℕ, Option}
use Rattle.pm_outside_faults.specs.Faults.{count_of, first_of}
use Rattle.pm_outside_net.specs.declared.{console.{ConsoleFault.ConsoleFault, StandardConsole.StandardConsole}, link.TcpLink.TcpLink, port.{AcceptFault.AcceptFault, TcpPort.TcpPort}}

abbrev pub console_faults : {R : Type 0} → StandardConsole R → ℕ
console_faults console = count_of console.faults

abbrev pub first_console_fault : {R : Type 0} → StandardConsole R → Option ConsoleFault
first_console_fault console = first_of console.faults

abbrev pub link_faults : TcpLink → ℕ
link_faults link = link.faults

abbrev pub link_number : TcpLink → ℕ
link_number link = link.number

-- how many of its writes may still answer that nothing was taken yet
abbrev pub link_patience : TcpLink → ℕ
link_patience link = link.asks_left

abbrev pub port_faults : {N : Type 0} → TcpPort N → ℕ
port_faults port = count_of port.faults

abbrev pub first_port_fault : {N : Type 0} → TcpPort N → Option AcceptFault
first_port_fault port = first_of port.faults

-- the number that was asked for
abbrev pub asked_port : {N : Type 0} → TcpPort N → ℕ
asked_port port = port.asked

-- how many links it has given
abbrev pub links_given : {N : Type 0} → TcpPort N → ℕ
links_given port = port.given

-- the limit of time for its clients from their coming on, in milliseconds
abbrev pub entry_limit : {N : Type 0} → TcpPort N → ℕ
entry_limit port = port.entry_ms

-- and for the client of a link
abbrev pub link_limit : TcpLink → ℕ
link_limit link = link.entry_ms
