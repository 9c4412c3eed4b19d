-- What a session answers to its statements, and what they leave of its settings.
use Rattle.std.specs.{Prelude.{◌≡◌, ℕ, if◌then◌else◌, List, [], ◌++◌, Option, Some, None, Result, Ok, Err, codes}, Fmt.decimal}
use Rattle.pm_settings.specs.{declared.{setting.Setting.Setting, statement.Statement.{Statement, TheVariants.{Set, Transaction, Reset, ResetAll, Show, DiscardAll, CloseAll, UnlistenAll, UnlockAll, Version, Number}}, answer.{Answer.Answer, Cell.Cell, Refusal.{Refusal, TheVariants.{Unknown, Value, Fixed, ReadOnly, NoMemory}}}}, Names.{row_of, setting_named, is_taken, is_fixed}, Told.{Told, value_of, with_told, nothing_told}}
use Rattle.pm_settings.specs.declared.answer.Answer.TheVariants as answers
use Rattle.pm_settings.specs.declared.answer.Cell.TheVariants as cells

-- ---- settings that are changed

-- why a setting isn't given this value, or its own again where it is given none
abbrev pub refusal_of : Setting → Option (List ℕ) → Option Refusal
refusal_of setting None = if is_fixed setting then Some (Fixed setting) else None
refusal_of setting (Some value) = if is_fixed setting then Some (Fixed setting) else (if is_taken setting value then None else Some (Value setting value))

-- a refusal that is told is the one that is due; memory may be short
abbrev pub IsRefusalOf : Option Refusal → Refusal → Type 0
IsRefusalOf due (Unknown name) = due ≡ Some (Unknown name)
IsRefusalOf due (Value setting value) = due ≡ Some (Value setting value)
IsRefusalOf due (Fixed setting) = due ≡ Some (Fixed setting)
IsRefusalOf due ReadOnly = due ≡ Some ReadOnly
IsRefusalOf due NoMemory = Unit {0}

-- ---- answers

abbrev pub unknown_in : List ℕ → Option Setting → Option Refusal
unknown_in name None = Some (Unknown name)
unknown_in name (Some setting) = None

abbrev pub unless : Option Refusal → Answer → Result Answer Refusal
unless None answer = Ok answer
unless (Some refusal) answer = Err refusal

-- the answer for the setting of a name, if there is one
abbrev pub for_setting : List ℕ → Option Setting → (Setting → Result Answer Refusal) → Result Answer Refusal
for_setting name None answer = Err (Unknown name)
for_setting name (Some setting) answer = answer setting

abbrev pub set_answer : List ℕ → Option (List ℕ) → Result Answer Refusal
set_answer name value = for_setting name (setting_named name) (λ setting. unless (refusal_of setting value) answers.Set)

abbrev pub answer_of : Statement → Result Answer Refusal
answer_of (Set name value) = set_answer name value
answer_of (Transaction is_read_only) = if is_read_only then Err ReadOnly else Ok answers.Set
answer_of (Reset name) = for_setting name (setting_named name) (λ setting. unless (refusal_of setting None) answers.Reset)
answer_of ResetAll = Ok answers.Reset
answer_of (Show name) = for_setting name (setting_named name) (λ setting. Ok (answers.Row (cells.Setting setting)))
answer_of DiscardAll = Ok answers.DiscardAll
answer_of CloseAll = Ok answers.CloseAll
answer_of UnlistenAll = Ok answers.UnlistenAll
answer_of UnlockAll = Ok (answers.Row cells.Unlocked)
answer_of Version = Ok (answers.Row cells.Version)
answer_of (Number number) = Ok (answers.Row (cells.Number number))

abbrev pub told_by : Told → Option Setting → Option (List ℕ) → Told
told_by told None value = told
told_by told (Some setting) value = with_told told setting value

-- what was told, after a statement that isn't refused
abbrev pub after : Told → Statement → Told
after told (Set name value) = told_by told (setting_named name) value
after told (Transaction is_read_only) = told
after told (Reset name) = told_by told (setting_named name) None
after told ResetAll = nothing_told
after told (Show name) = told
after told DiscardAll = nothing_told
after told CloseAll = told
after told UnlistenAll = told
after told UnlockAll = told
after told Version = told
after told (Number number) = told

abbrev pub error_of : Result Answer Refusal → Option Refusal
error_of (Ok answer) = None
error_of (Err refusal) = Some refusal

abbrev pub NamesSetting : Statement → Type 0
NamesSetting (Set name value) = Unit {0}
NamesSetting (Transaction is_read_only) = ⊥
NamesSetting (Reset name) = Unit {0}
NamesSetting ResetAll = ⊥
NamesSetting (Show name) = Unit {0}
NamesSetting DiscardAll = ⊥
NamesSetting CloseAll = ⊥
NamesSetting UnlistenAll = ⊥
NamesSetting UnlockAll = ⊥
NamesSetting Version = ⊥
NamesSetting (Number number) = ⊥

-- ---- what a client is told (PostgreSQL manual, Message Formats: CommandComplete, RowDescription, DataRow)

abbrev pub row_tag : Cell → List ℕ
row_tag (cells.Setting setting) = codes "SHOW"
row_tag cells.Unlocked = codes "SELECT 1"
row_tag cells.Version = codes "SELECT 1"
row_tag (cells.Number number) = codes "SELECT 1"

abbrev pub tag_of : Answer → List ℕ
tag_of answers.Set = codes "SET"
tag_of answers.Reset = codes "RESET"
tag_of answers.DiscardAll = codes "DISCARD ALL"
tag_of answers.CloseAll = codes "CLOSE CURSOR ALL"
tag_of answers.UnlistenAll = codes "UNLISTEN"
tag_of (answers.Row cell) = row_tag cell

abbrev pub column_of : Cell → List ℕ
column_of (cells.Setting setting) = (row_of setting).name
column_of cells.Unlocked = codes "pg_advisory_unlock_all"
column_of cells.Version = codes "version"
column_of (cells.Number number) = codes "?column?"

-- text, void and int4
abbrev pub type_of : Cell → ℕ
type_of (cells.Setting setting) = 25
type_of cells.Unlocked = 2278
type_of cells.Version = 25
type_of (cells.Number number) = 23

abbrev pub text_of : Told → Cell → List ℕ
text_of told (cells.Setting setting) = value_of told setting
text_of told cells.Unlocked = []
text_of told cells.Version = codes "PostgreSQL 16.0 (Wonthik)"
text_of told (cells.Number number) = decimal number

-- (PostgreSQL manual, PostgreSQL Error Codes)
abbrev pub code_of : Refusal → List ℕ
code_of (Unknown name) = codes "42704"
code_of (Value setting value) = codes "22023"
code_of (Fixed setting) = codes "55P02"
code_of ReadOnly = codes "0A000"
code_of NoMemory = codes "53200"

abbrev pub message_of : Refusal → List ℕ
message_of (Unknown name) = (codes "unrecognized configuration parameter \"" ++ name) ++ codes "\""
message_of (Value setting value) = (((codes "invalid value for parameter \"" ++ (row_of setting).name) ++ codes "\": \"") ++ value) ++ codes "\""
message_of (Fixed setting) = (codes "parameter \"" ++ (row_of setting).name) ++ codes "\" cannot be changed"
message_of ReadOnly = codes "read-only is set by BEGIN READ ONLY alone"
message_of NoMemory = codes "out of memory"
