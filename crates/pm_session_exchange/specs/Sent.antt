-- What a client is sent: its greeting, the messages for a query, and what is said last.
use Rattle.std.specs.{Prelude.{ℕ, ℤ, List, [], ◌∷◌, ◌++◌, map, codes, decimal, length, None}, List.flat_map}
use Rattle.pm_child_life.specs.{pm_supervisor.{pm_admit.declared.Cac.Cac, declared.Reason.{Reason, TheVariants.{Crash, Stop}}}, declared.life.GateNo.GateNo}
use Rattle.pm_child_life.specs.pm_supervisor.pm_admit.declared.Cac.TheVariants as decisions
use Rattle.pm_startup.specs.{declared.packet.StartFault.StartFault, pm_wire.{declared.{state.SqlState.SqlState, condition.Fixed.Fixed}, Conditions.{error, fixed_message, state_of, told}, Backend.{BackMessage, Auth, Param, Key, Ready, Fields, Pair, One, Complete, Empty, spelling}}}
use Rattle.pm_startup.specs.declared.packet.StartFault.TheVariants as packets
use Rattle.pm_query.specs.{pm_sql.{declared.query.SqlFault.SqlFault, Message.message_of}, declared.item.Item.Item}
use Rattle.pm_query.specs.pm_sql.declared.query.SqlFault.TheVariants as texts
use Rattle.pm_query.specs.declared.item.Item.TheVariants as items
use Rattle.pm_child_life.specs.declared.life.GateNo.TheVariants as gate
use Rattle.pm_startup.specs.pm_wire.declared.back.Shape.TheVariants as shapes
use Rattle.pm_startup.specs.pm_wire.declared.back.Tag.TheVariants as tags
use Rattle.pm_startup.specs.pm_wire.declared.condition.StatementFault.TheVariants as faults
use Rattle.pm_startup.specs.pm_wire.declared.state.SqlState.TheVariants as states
use Rattle.pm_startup.specs.pm_wire.declared.condition.Fixed.TheVariants as fixes
use Rattle.pm_startup.specs.pm_wire.declared.condition.Condition.TheVariants as conditions
use Rattle.pm_session_exchange.specs.declared.ending.{MessageFault.MessageFault, Cause.Cause, Stage.{Stage, TheVariants.Outside}}
use Rattle.pm_session_exchange.specs.declared.ending.MessageFault.TheVariants as messages
use Rattle.pm_session_exchange.specs.declared.ending.Cause.TheVariants as causes

unfoldable pub bytes_of : List BackMessage → List ℕ
bytes_of messages = flat_map spelling messages

-- ---- at the start

abbrev pub settings : List (List ℕ × List ℕ)
settings =
    (codes "server_version", codes "16.0")
    ∷ (codes "server_encoding", codes "UTF8")
    ∷ (codes "client_encoding", codes "UTF8")
    ∷ (codes "DateStyle", codes "ISO, MDY")
    ∷ (codes "integer_datetimes", codes "on")
    ∷ (codes "standard_conforming_strings", codes "on")
    ∷ []

-- AuthenticationOk, the settings, the cancel key, ReadyForQuery
abbrev pub greeting : ℕ → ℕ → List BackMessage
greeting pid key = Auth ∷ map (λ setting. Param setting.0 setting.1) settings ++ Key pid key ∷ Ready ∷ []

-- ---- for a query

-- rows: their columns, each row, and their number
abbrev pub row_messages : List (ℤ × List ℕ) → List BackMessage
row_messages rows = Fields shapes.Pair ∷ map (λ row. Pair row.0 row.1) rows ++ Complete (tags.Select (length rows)) ∷ []

-- one item of a reply
abbrev pub item_messages : Item → List BackMessage
item_messages items.Empty = Empty ∷ []
item_messages items.Insert = Complete (tags.Insert 1) ∷ []
item_messages (items.Update count) = Complete (tags.Update count) ∷ []
item_messages (items.Delete count) = Complete (tags.Delete count) ∷ []
item_messages (items.Rows rows) = row_messages rows
item_messages (items.Count count) = Fields shapes.Count ∷ One (decimal count) ∷ Complete (tags.Select 1) ∷ []
item_messages items.Slept = Fields shapes.Sleep ∷ One [] ∷ Complete (tags.Select 1) ∷ []
item_messages (items.Duplicate key) = told (conditions.Duplicate key) ∷ []
item_messages items.TableFull = fixed_message fixes.TableFull ∷ []
item_messages items.RowsTooLarge = fixed_message fixes.RowsTooLarge ∷ []

-- the code of a text's fault
abbrev pub fault_state : SqlFault → SqlState
fault_state (texts.Syntax place) = state_of faults.Syntax
fault_state (texts.Table place) = state_of faults.NoTable
fault_state (texts.Range place) = state_of faults.NumberRange
fault_state (texts.TooLong place) = state_of faults.LongValue
fault_state (texts.TooMany place) = state_of faults.ManyStatements
fault_state texts.NoMemory = states.OutOfMemory

-- how a query was answered: its reply, or why it has none
pub data Turn : Type 0 where
  Ran : (reply : List Item) → Turn
  Faulted : (fault : SqlFault) → Turn
  NotUtf8 : Turn
  Cancelled : Turn
  LogIsFull : Turn
  Memory : Turn

-- the answer to this text
abbrev pub turn_messages : List ℕ → Turn → List BackMessage
turn_messages text (Ran reply) = flat_map item_messages reply ++ Ready ∷ []
turn_messages text (Faulted fault) = error (fault_state fault) (message_of text fault) None ∷ Ready ∷ []
turn_messages text NotUtf8 = fixed_message fixes.NotUtf8 ∷ Ready ∷ []
turn_messages text Cancelled = fixed_message fixes.Canceled ∷ Ready ∷ []
turn_messages text LogIsFull = fixed_message fixes.LogFull ∷ Ready ∷ []
turn_messages text Memory = fixed_message fixes.ErrorMemory ∷ Ready ∷ []

-- ---- at the end

abbrev pub one : Fixed → List BackMessage
one fixed = fixed_message fixed ∷ []

-- a packet that is refused; after a length that no packet has nothing is said
abbrev pub packet_refusal : StartFault → List BackMessage
packet_refusal (packets.Length seen) = []
packet_refusal (packets.Version major minor) = told (conditions.Version major minor) ∷ []
packet_refusal packets.NoUser = one fixes.NoUser
packet_refusal packets.Replication = one fixes.Replication
packet_refusal (packets.Malformed place) = one fixes.PacketLayout
packet_refusal packets.PqOption = one fixes.ProtocolOption

abbrev pub message_refusal : MessageFault → List BackMessage
message_refusal (messages.BadLength seen) = one fixes.MessageLength
message_refusal messages.BadForm = one fixes.MessageFormat
message_refusal (messages.LongQuery seen) = one fixes.LongQuery
message_refusal (messages.Extended kind) = one fixes.ExtendedQuery
message_refusal (messages.UnknownType kind) = told (conditions.UnknownType kind) ∷ []

abbrev pub decision_refusal : Cac → List BackMessage
decision_refusal decisions.Ok = []
decision_refusal decisions.Startup = one fixes.StartingUp
decision_refusal decisions.Recovery = one fixes.InRecovery
decision_refusal decisions.Shutdown = one fixes.ShuttingDown
decision_refusal decisions.TooMany = one fixes.TooManyClients

abbrev pub gate_refusal : GateNo → List BackMessage
gate_refusal (gate.Quit generation Crash) = one fixes.InRecovery
gate_refusal (gate.Quit generation Stop) = one fixes.ShuttingDown
gate_refusal (gate.NotReady generation) = one fixes.InRecovery
gate_refusal (gate.TooMany count) = one fixes.TooManyClients
gate_refusal (gate.Reserved count) = one fixes.ReservedConnections

abbrev pub quit_notice : Reason → List BackMessage
quit_notice Crash = one fixes.CrashQuit
quit_notice Stop = one fixes.StopQuit

-- a child outside says nothing to a signal
abbrev pub from_attach : Stage → List BackMessage → List BackMessage
from_attach Outside messages = []
from_attach _ messages = messages

-- the last that is said
abbrev pub last_of : Cac → Stage → Cause → List BackMessage
last_of decision stage (causes.PacketRefused fault) = packet_refusal fault
last_of decision stage (causes.MessageRefused fault) = message_refusal fault
last_of decision stage causes.DecisionRefused = decision_refusal decision
last_of decision stage (causes.GateRefused refusal) = gate_refusal refusal
last_of decision stage causes.ShortOfMemory = one fixes.FatalMemory
last_of decision stage causes.Panicked = one fixes.CouldNotWrite
last_of decision stage causes.ToldToTerminate = from_attach stage (one fixes.Terminated)
last_of decision stage (causes.ToldToQuit reason) = from_attach stage (quit_notice reason)
last_of decision stage _ = []
