-- What a client is told when something is refused, fails or ends: severities, codes and texts.
use Rattle.std.specs.{Prelude.{ℕ, ◌++◌, List, Option, Some, None, codes, decimal}, Fmt.signed_decimal}
use Rattle.pm_wire.specs.{declared.{state.SqlState.SqlState, condition.{Condition.Condition, Fixed.Fixed, StatementFault.StatementFault}, back.Severity.TheVariants.{Error, Fatal, Panic, Warning}}, Messages.{BackMessage, Fault, Notice}}
use Rattle.pm_wire.specs.declared.state.SqlState.TheVariants as states
use Rattle.pm_wire.specs.declared.condition.Condition.TheVariants as conditions
use Rattle.pm_wire.specs.declared.condition.Fixed.TheVariants as fixes
use Rattle.pm_wire.specs.declared.condition.StatementFault.TheVariants as faults

-- the five characters of a code (PostgreSQL Error Codes)
abbrev pub sqlstate : SqlState → List ℕ
sqlstate states.ProtocolViolation = codes "08P01"
sqlstate states.FeatureNotSupported = codes "0A000"
sqlstate states.StringTooLong = codes "22001"
sqlstate states.NumberOutOfRange = codes "22003"
sqlstate states.NotInRepertoire = codes "22021"
sqlstate states.UniqueViolation = codes "23505"
sqlstate states.InvalidAuthorization = codes "28000"
sqlstate states.SyntaxError = codes "42601"
sqlstate states.UndefinedTable = codes "42P01"
sqlstate states.OutOfMemory = codes "53200"
sqlstate states.TooManyConnections = codes "53300"
sqlstate states.LimitExceeded = codes "54000"
sqlstate states.QueryCanceled = codes "57014"
sqlstate states.AdminShutdown = codes "57P01"
sqlstate states.CrashShutdown = codes "57P02"
sqlstate states.CannotConnectNow = codes "57P03"
sqlstate states.IoError = codes "58030"

-- an error that ends the query
abbrev pub error : SqlState → (text : List ℕ) → Option (List ℕ) → BackMessage
error state text detail = Fault (record { severity = Error; code = sqlstate state; text = text; detail = detail })

-- an error that ends the session
abbrev pub fatal : SqlState → (text : List ℕ) → BackMessage
fatal state text = Fault (record { severity = Fatal; code = sqlstate state; text = text; detail = None })

-- an error for which all sessions end
abbrev pub panic : SqlState → (text : List ℕ) → BackMessage
panic state text = Fault (record { severity = Panic; code = sqlstate state; text = text; detail = None })

abbrev pub warning : SqlState → (text : List ℕ) → BackMessage
warning state text = Notice (record { severity = Warning; code = sqlstate state; text = text; detail = None })

abbrev pub fixed_message : Fixed → BackMessage
fixed_message fixes.StartingUp = fatal states.CannotConnectNow (codes "the database system is starting up")
fixed_message fixes.ShuttingDown = fatal states.CannotConnectNow (codes "the database system is shutting down")
fixed_message fixes.InRecovery = fatal states.CannotConnectNow (codes "the database system is in recovery mode")
fixed_message fixes.TooManyClients = fatal states.TooManyConnections (codes "sorry, too many clients already")
fixed_message fixes.ReservedConnections = fatal states.TooManyConnections (codes "remaining connection slots are reserved for user postgres")
fixed_message fixes.ProtocolOption = fatal states.FeatureNotSupported (codes "protocol options are not supported")
fixed_message fixes.Replication = fatal states.FeatureNotSupported (codes "replication connections are not supported")
fixed_message fixes.PacketLayout = fatal states.ProtocolViolation (codes "invalid startup packet layout: expected terminator as last byte")
fixed_message fixes.NoUser = fatal states.InvalidAuthorization (codes "no PostgreSQL user name specified in startup packet")
fixed_message fixes.MessageLength = fatal states.ProtocolViolation (codes "invalid message length")
fixed_message fixes.MessageFormat = fatal states.ProtocolViolation (codes "invalid message format")
fixed_message fixes.ExtendedQuery = fatal states.FeatureNotSupported (codes "extended query protocol is not supported")
fixed_message fixes.LongQuery = fatal states.LimitExceeded (codes "query exceeds 65536 bytes")
fixed_message fixes.NotUtf8 = error states.NotInRepertoire (codes "invalid byte sequence for encoding \"UTF8\"") None
fixed_message fixes.TableFull = error states.LimitExceeded (codes "table exceeds 100000 rows") None
fixed_message fixes.RowsTooLarge = error states.LimitExceeded (codes "rows exceed 67108864 bytes") None
fixed_message fixes.LogFull = error states.LimitExceeded (codes "the commit log is full") None
fixed_message fixes.Canceled = error states.QueryCanceled (codes "canceling statement due to user request") None
fixed_message fixes.Terminated = fatal states.AdminShutdown (codes "terminating connection due to administrator command")
fixed_message fixes.CrashQuit = warning states.CrashShutdown (codes "terminating connection because of crash of another server process")
fixed_message fixes.StopQuit = warning states.AdminShutdown (codes "terminating connection due to immediate shutdown command")
fixed_message fixes.ErrorMemory = error states.OutOfMemory (codes "out of memory") None
fixed_message fixes.FatalMemory = fatal states.OutOfMemory (codes "out of memory")
fixed_message fixes.CouldNotWrite = panic states.IoError (codes "could not write to the commit log")

abbrev pub state_of : StatementFault → SqlState
state_of faults.Syntax = states.SyntaxError
state_of faults.NoTable = states.UndefinedTable
state_of faults.NumberRange = states.NumberOutOfRange
state_of faults.LongValue = states.StringTooLong
state_of faults.ManyStatements = states.LimitExceeded

abbrev pub told : Condition → BackMessage
told (conditions.Fixed fixed) = fixed_message fixed
told (conditions.Version major minor) =
    fatal states.FeatureNotSupported (codes "unsupported frontend protocol " ++ decimal major ++ codes "." ++ decimal minor ++ codes ": server supports 3.0 to 3.0")
told (conditions.UnknownType kind) = fatal states.ProtocolViolation (codes "invalid frontend message type " ++ decimal kind)
told (conditions.Duplicate key) =
    error states.UniqueViolation (codes "duplicate key value violates unique constraint \"kv_pkey\"") (Some (codes "Key (k)=(" ++ signed_decimal key ++ codes ") already exists."))
told (conditions.Statement fault text) = error (state_of fault) text.now None
