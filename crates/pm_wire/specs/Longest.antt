-- How long a message can be, from what its parts can be.
use Rattle.std.specs.Prelude.{◌≡◌, ℕ, ◌+◌, ◌^◌, ◌<◌, length}
use lib.Signed.{mag}
use Rattle.pm_facts.specs.Zeros.{HasNoZero}
use Rattle.pm_wire.specs.{declared.condition.Condition.Condition, Backend.{BackMessage, Auth, Param, Key, Ready, Fields, Pair, One, Complete, Empty, Fault, Notice, Saying, detail_length, HasCount}}
use Rattle.pm_wire.specs.declared.condition.Condition.TheVariants as conditions

-- a severity has at most seven letters, and a code five
abbrev pub longest_report : Saying → ℕ
longest_report s = 33 + length s.text + detail_length s.detail

-- a key has at most 20 characters, and so has the number of a tag
abbrev pub longest : BackMessage → ℕ
longest Auth = 9
longest (Param name value) = 7 + length name + length value
longest (Key pid key) = 13
longest Ready = 6
longest (Fields shape) = 47
longest (Pair key value) = 35 + length value
longest (One text) = 11 + length text
longest (Complete tag) = 35
longest Empty = 5
longest (Fault s) = longest_report s
longest (Notice s) = longest_report s

-- what the types of a message's parts say of its length
abbrev pub HasSizes : BackMessage → Type 0
HasSizes (Pair key value) = mag key < 2 ^ 63
HasSizes (Complete tag) = HasCount (Complete tag)
HasSizes (Fault s) = length s.code ≡ 5
HasSizes (Notice s) = length s.code ≡ 5
HasSizes _ = Unit {0}

-- what the types of a condition's parts, and the parser of statements, say of them
abbrev pub IsGiven : Condition → Type 0
IsGiven (conditions.Version major minor) = (major < 2 ^ 16) × (minor < 2 ^ 16)
IsGiven (conditions.UnknownType kind) = kind < 2 ^ 8
IsGiven (conditions.Duplicate key) = mag key < 2 ^ 63
IsGiven (conditions.Statement fault text) = HasNoZero text.now × (length text.now < 2 ^ 30)
IsGiven _ = Unit {0}

abbrev pub longest_told : Condition → ℕ
longest_told (conditions.Statement fault text) = 33 + length text.now
longest_told _ = 140
