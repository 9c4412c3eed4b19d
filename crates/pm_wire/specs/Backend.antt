-- The messages that the server sends, and the one spelling of each (Message Formats).
use Rattle.std.specs.{Prelude.{◌≡◌, ℕ, ℤ, pos, negsuc, ◌+◌, ◌*◌, ◌<◌, ◌^◌, ◌-◌, List, [], ◌∷◌, ◌++◌, length, Option, Some, None, codes, decimal, IfSome}, Fmt.signed_decimal, Option.option_map, Str.IsUtf8, List.flat_map}
use Rattle.pm_facts.specs.Zeros.{HasNoZero}
use Rattle.pm_wire.specs.declared.back.{Back.Back, Report.Report, Shape.Shape, Tag.{Tag, TheVariants.{Insert, Update, Delete, Select}}, Severity.{Severity, TheVariants.{Error, Fatal, Panic, Warning}}}
use Rattle.pm_wire.specs.declared.back.Back.TheVariants as sent
use Rattle.pm_wire.specs.declared.back.Shape.TheVariants as shapes
pub use Rattle.pm_wire.specs.Messages.{Saying, BackMessage, Auth, Param, Key, Ready, Fields, Pair, One, Complete, Empty, Fault, Notice}
use Rattle.pm_wire.specs.{Conditions.told, Pieces.{int16, int32, string, counted, message}}

abbrev pub saying : Report → Saying
saying r = record { severity = r.severity; code = r.code; text = r.text.now; detail = option_map (λ text. text.now) r.detail }

abbrev pub back_message : Back → BackMessage
back_message sent.Auth = Auth
back_message (sent.Param name value) = Param name.now value.now
back_message (sent.Key pid key) = Key pid key
back_message sent.Ready = Ready
back_message (sent.Fields shape) = Fields shape
back_message (sent.Pair key value) = Pair key value.now
back_message (sent.One text) = One text.now
back_message (sent.Complete tag) = Complete tag
back_message sent.Empty = Empty
back_message (sent.Fault report) = Fault (saying report)
back_message (sent.Notice report) = Notice (saying report)
back_message (sent.Told condition) = told condition

-- a column of a result: its name, its type by OID, and that type's size in 16 bits
pub record Column : Type 0 where
  pub name : List ℕ
  pub oid : ℕ
  pub size : ℕ

abbrev pub bigint : List ℕ → Column
bigint name = record { name = name; oid = 20; size = 8 }

-- of variable size, which is -1
abbrev pub text : List ℕ → Column
text name = record { name = name; oid = 25; size = 2 ^ 16 - 1 }

abbrev pub columns : Shape → List Column
columns shapes.Pair = bigint (codes "k") ∷ text (codes "v") ∷ []
columns shapes.Count = bigint (codes "count") ∷ []
columns shapes.Sleep = text (codes "pg_sleep") ∷ []

-- Of no table, no modifier (-1), as text.
abbrev pub column : Column → List ℕ
column c = string c.name ++ int32 0 ++ int16 0 ++ int32 c.oid ++ int16 c.size ++ int32 (2 ^ 32 - 1) ++ int16 0

abbrev pub tag_text : Tag → List ℕ
tag_text (Insert n) = codes "INSERT 0 " ++ decimal n
tag_text (Update n) = codes "UPDATE " ++ decimal n
tag_text (Delete n) = codes "DELETE " ++ decimal n
tag_text (Select n) = codes "SELECT " ++ decimal n

abbrev pub severity_word : Severity → List ℕ
severity_word Error = codes "ERROR"
severity_word Fatal = codes "FATAL"
severity_word Panic = codes "PANIC"
severity_word Warning = codes "WARNING"

abbrev pub detail_field : Option (List ℕ) → List ℕ
detail_field None = []
detail_field (Some detail) = codes "D" ++ string detail

-- Each field is a letter and a string, and a zero byte ends them (Error and Notice Message Fields).
unfoldable pub fields : (word code text : List ℕ) → Option (List ℕ) → List ℕ
fields word code text detail =
    (codes "S" ++ string word) ++ (codes "V" ++ string word) ++ (codes "C" ++ string code)
    ++ (codes "M" ++ string text) ++ detail_field detail ++ 0 ∷ []

abbrev pub fields_of : Saying → List ℕ
fields_of s = fields (severity_word s.severity) s.code s.text s.detail

abbrev pub kind_of : BackMessage → List ℕ
kind_of Auth = codes "R"
kind_of (Param name value) = codes "S"
kind_of (Key pid key) = codes "K"
kind_of Ready = codes "Z"
kind_of (Fields shape) = codes "T"
kind_of (Pair key value) = codes "D"
kind_of (One text) = codes "D"
kind_of (Complete tag) = codes "C"
kind_of Empty = codes "I"
kind_of (Fault s) = codes "E"
kind_of (Notice s) = codes "N"

abbrev pub body : BackMessage → List ℕ
body Auth = int32 0
body (Param name value) = string name ++ string value
body (Key pid key) = int32 pid ++ int32 key
body Ready = codes "I"
body (Fields shape) = int16 (length (columns shape)) ++ flat_map column (columns shape)
body (Pair key value) = int16 2 ++ counted (signed_decimal key) ++ counted value
body (One text) = int16 1 ++ counted text
body (Complete tag) = string (tag_text tag)
body Empty = []
body (Fault s) = fields_of s
body (Notice s) = fields_of s

abbrev pub spelling : BackMessage → List ℕ
spelling m = message (kind_of m) (body m)

-- the code and what is written as a string hold no zero byte
abbrev pub SaysNoZero : Saying → Type 0
SaysNoZero s = HasNoZero s.code × HasNoZero s.text × IfSome s.detail HasNoZero

abbrev pub HasStrings : BackMessage → Type 0
HasStrings (Param name value) = HasNoZero name × HasNoZero value
HasStrings (Fault s) = SaysNoZero s
HasStrings (Notice s) = SaysNoZero s
HasStrings _ = Unit {0}

-- the length field of an error or a notice
abbrev pub detail_length : Option (List ℕ) → ℕ
detail_length None = 0
detail_length (Some detail) = 2 + length detail

abbrev pub report_length : Saying → ℕ
report_length s = 4 + 2 * (2 + length (severity_word s.severity)) + (2 + length s.code) + (2 + length s.text) + detail_length s.detail + 1

-- the length field is at most 2^31 - 1, which most messages can't pass
abbrev pub IsShort : BackMessage → Type 0
IsShort (Param name value) = 6 + length name + length value < 2 ^ 31
IsShort (Pair key value) = 14 + length (signed_decimal key) + length value < 2 ^ 31
IsShort (One text) = 10 + length text < 2 ^ 31
IsShort (Fault s) = report_length s < 2 ^ 31
IsShort (Notice s) = report_length s < 2 ^ 31
IsShort _ = Unit {0}

-- what can be written
abbrev pub IsWritable : BackMessage → Type 0
IsWritable m = HasStrings m × IsShort m

-- the number in a tag is one of 64 bits
abbrev pub HasCount : BackMessage → Type 0
HasCount (Complete (Insert n)) = n < 2 ^ 64
HasCount (Complete (Update n)) = n < 2 ^ 64
HasCount (Complete (Delete n)) = n < 2 ^ 64
HasCount (Complete (Select n)) = n < 2 ^ 64
HasCount _ = Unit {0}

-- what the types of a message's parts can hold
abbrev pub IsInt64 : ℤ → Type 0
IsInt64 (pos n) = n < 2 ^ 63
IsInt64 (negsuc n) = n < 2 ^ 63

abbrev pub HoldsReport : Saying → Type 0
HoldsReport s = (length s.code ≡ 5) × IsUtf8 s.text × IfSome s.detail IsUtf8

abbrev pub HasValues : BackMessage → Type 0
HasValues (Param name value) = IsUtf8 name × IsUtf8 value
HasValues (Key pid key) = (pid < 2 ^ 32) × (key < 2 ^ 32)
HasValues (Pair key value) = IsInt64 key × IsUtf8 value
HasValues (One text) = IsUtf8 text
HasValues (Complete tag) = HasCount (Complete tag)
HasValues (Fault s) = HoldsReport s
HasValues (Notice s) = HoldsReport s
HasValues _ = Unit {0}

-- These bytes, all of them, are this message.
pub record IsBack (bytes : List ℕ) (m : BackMessage) : Type 0 where
  pub spelled : bytes ≡ spelling m
  pub values : HasValues m
  pub writable : IsWritable m
