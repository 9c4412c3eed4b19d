-- What the table says can be written, and is short.
use Rattle.std.{proofs.{Common.{◌≡◌, ℕ, ℤ, pos, negsuc, suc, ◌+◌, ◌%◌, ◌^◌, ◌<◌, ◌≤◌, List, [], ◌∷◌, ◌++◌, length, codes, decimal, refl, arith}, lemmas.{Bool.ne_eqb, List.length-append, Fmt.{decimal_by_steps, length-decimal-le}}}, specs.Fmt.signed_decimal}
use Rattle.pm_wire.specs.declared.condition.{Condition.Condition, Fixed.Fixed}
use Rattle.pm_wire.specs.declared.condition.Condition.TheVariants as conditions
use Rattle.pm_wire.specs.declared.condition.Fixed.TheVariants as fixes
use Rattle.pm_wire.specs.declared.condition.StatementFault.TheVariants as faults
use lib.Signed.{mag}
use Rattle.pm_facts.specs.Zeros.{HasNoZero, no_zero-append}
use Rattle.pm_wire.{specs.{Backend.{spelling, IsWritable}, Conditions.{fixed_message, told}, Longest.{longest, HasSizes, IsGiven, longest_told}}, proofs.Longests.{key_digits, longest_is}}

no_zero_digit : (n : ℕ) → HasNoZero ((48 + n) ∷ [])
no_zero_digit n = rw (ne_eqb (48 + n) 0 (λ e. omega (arith, e))) refl

no_zero_decimal : (n : ℕ) → n < 2 ^ 64 → HasNoZero (decimal n)
no_zero_decimal = decimal_by_steps (λ n digits. HasNoZero digits) (λ n lt. no_zero_digit n) (λ n digits le so_far. no_zero-append digits ((48 + n % 10) ∷ []) so_far (no_zero_digit (n % 10)))

no_zero_key : (key : ℤ) → mag key < 2 ^ 63 → HasNoZero (signed_decimal key)
no_zero_key (pos n) fits = no_zero_decimal n (omega (arith, fits))
no_zero_key (negsuc n) fits = no_zero_decimal (suc n) (omega (arith, fits))

number_digits : (n : ℕ) → n < 2 ^ 16 → length (decimal n) ≤ 5
number_digits n fits = length-decimal-le 5 n (omega arith) (omega (arith, fits)) (omega (arith, fits))

-- ---- what is fixed

fixed_writable : (f : Fixed) → IsWritable (fixed_message f)
fixed_writable fixes.StartingUp = ((refl, refl, tt), omega arith)
fixed_writable fixes.ShuttingDown = ((refl, refl, tt), omega arith)
fixed_writable fixes.InRecovery = ((refl, refl, tt), omega arith)
fixed_writable fixes.TooManyClients = ((refl, refl, tt), omega arith)
fixed_writable fixes.ReservedConnections = ((refl, refl, tt), omega arith)
fixed_writable fixes.ProtocolOption = ((refl, refl, tt), omega arith)
fixed_writable fixes.Replication = ((refl, refl, tt), omega arith)
fixed_writable fixes.PacketLayout = ((refl, refl, tt), omega arith)
fixed_writable fixes.NoUser = ((refl, refl, tt), omega arith)
fixed_writable fixes.MessageLength = ((refl, refl, tt), omega arith)
fixed_writable fixes.MessageFormat = ((refl, refl, tt), omega arith)
fixed_writable fixes.ExtendedQuery = ((refl, refl, tt), omega arith)
fixed_writable fixes.LongQuery = ((refl, refl, tt), omega arith)
fixed_writable fixes.NotUtf8 = ((refl, refl, tt), omega arith)
fixed_writable fixes.TableFull = ((refl, refl, tt), omega arith)
fixed_writable fixes.RowsTooLarge = ((refl, refl, tt), omega arith)
fixed_writable fixes.LogFull = ((refl, refl, tt), omega arith)
fixed_writable fixes.Canceled = ((refl, refl, tt), omega arith)
fixed_writable fixes.Terminated = ((refl, refl, tt), omega arith)
fixed_writable fixes.CrashQuit = ((refl, refl, tt), omega arith)
fixed_writable fixes.StopQuit = ((refl, refl, tt), omega arith)
fixed_writable fixes.ErrorMemory = ((refl, refl, tt), omega arith)
fixed_writable fixes.FatalMemory = ((refl, refl, tt), omega arith)
fixed_writable fixes.CouldNotWrite = ((refl, refl, tt), omega arith)

fixed_short : (f : Fixed) → (HasSizes (fixed_message f)) × (longest (fixed_message f) ≤ 140)
fixed_short fixes.StartingUp = (refl, omega arith)
fixed_short fixes.ShuttingDown = (refl, omega arith)
fixed_short fixes.InRecovery = (refl, omega arith)
fixed_short fixes.TooManyClients = (refl, omega arith)
fixed_short fixes.ReservedConnections = (refl, omega arith)
fixed_short fixes.ProtocolOption = (refl, omega arith)
fixed_short fixes.Replication = (refl, omega arith)
fixed_short fixes.PacketLayout = (refl, omega arith)
fixed_short fixes.NoUser = (refl, omega arith)
fixed_short fixes.MessageLength = (refl, omega arith)
fixed_short fixes.MessageFormat = (refl, omega arith)
fixed_short fixes.ExtendedQuery = (refl, omega arith)
fixed_short fixes.LongQuery = (refl, omega arith)
fixed_short fixes.NotUtf8 = (refl, omega arith)
fixed_short fixes.TableFull = (refl, omega arith)
fixed_short fixes.RowsTooLarge = (refl, omega arith)
fixed_short fixes.LogFull = (refl, omega arith)
fixed_short fixes.Canceled = (refl, omega arith)
fixed_short fixes.Terminated = (refl, omega arith)
fixed_short fixes.CrashQuit = (refl, omega arith)
fixed_short fixes.StopQuit = (refl, omega arith)
fixed_short fixes.ErrorMemory = (refl, omega arith)
fixed_short fixes.FatalMemory = (refl, omega arith)
fixed_short fixes.CouldNotWrite = (refl, omega arith)

-- ---- all of it

version_length : (major minor : List ℕ) → length (codes "unsupported frontend protocol " ++ major ++ codes "." ++ minor ++ codes ": server supports 3.0 to 3.0") ≡ 59 + length major + length minor
version_length major minor =
    omega (
      arith,
      length-append (codes "unsupported frontend protocol " ++ major ++ codes "." ++ minor) (codes ": server supports 3.0 to 3.0"),
      length-append (codes "unsupported frontend protocol " ++ major ++ codes ".") minor,
      length-append (codes "unsupported frontend protocol " ++ major) (codes "."),
      length-append (codes "unsupported frontend protocol ") major,
    )

type_length : (kind : List ℕ) → length (codes "invalid frontend message type " ++ kind) ≡ 30 + length kind
type_length kind = length-append (codes "invalid frontend message type ") kind

key_length : (key : List ℕ) → length (codes "Key (k)=(" ++ key ++ codes ") already exists.") ≡ 26 + length key
key_length key = omega (arith, length-append (codes "Key (k)=(" ++ key) (codes ") already exists."), length-append (codes "Key (k)=(") key)

pub told_writable : (c : Condition) → IsGiven c → IsWritable (told c)
told_writable (conditions.Fixed f) h = fixed_writable f
told_writable (conditions.Version major minor) h = (
  (
    refl,
    no_zero-append (codes "unsupported frontend protocol " ++ decimal major ++ codes "." ++ decimal minor) (codes ": server supports 3.0 to 3.0")
        (no_zero-append (codes "unsupported frontend protocol " ++ decimal major ++ codes ".") (decimal minor)
        (no_zero-append (codes "unsupported frontend protocol " ++ decimal major) (codes ".") (no_zero-append (codes "unsupported frontend protocol ") (decimal major) refl (no_zero_decimal major (omega (arith, h.0)))) refl)
        (no_zero_decimal minor (omega (arith, h.1)))) refl,
    tt,
  ),
  omega (arith, version_length (decimal major) (decimal minor), number_digits major h.0, number_digits minor h.1),
)
told_writable (conditions.UnknownType kind) h =
    ((refl, no_zero-append (codes "invalid frontend message type ") (decimal kind) refl (no_zero_decimal kind (omega (arith, h))), tt), omega (arith, type_length (decimal kind), number_digits kind (omega (arith, h))))
told_writable (conditions.Duplicate key) h = (
  (refl, refl, no_zero-append (codes "Key (k)=(" ++ signed_decimal key) (codes ") already exists.") (no_zero-append (codes "Key (k)=(") (signed_decimal key) refl (no_zero_key key h)) refl),
  omega (arith, key_length (signed_decimal key), key_digits key h),
)
told_writable (conditions.Statement faults.Syntax text) h = ((refl, h.0, tt), omega (arith, h.1))
told_writable (conditions.Statement faults.NoTable text) h = ((refl, h.0, tt), omega (arith, h.1))
told_writable (conditions.Statement faults.NumberRange text) h = ((refl, h.0, tt), omega (arith, h.1))
told_writable (conditions.Statement faults.LongValue text) h = ((refl, h.0, tt), omega (arith, h.1))
told_writable (conditions.Statement faults.ManyStatements text) h = ((refl, h.0, tt), omega (arith, h.1))

pub told_short : (c : Condition) → IsGiven c → length (spelling (told c)) ≤ longest_told c
told_short (conditions.Fixed f) h = let short = fixed_short f in omega (arith, longest_is (fixed_message f) short.0, short.1)
told_short (conditions.Version major minor) h =
    omega (arith, longest_is (told (conditions.Version major minor)) refl, version_length (decimal major) (decimal minor), number_digits major h.0, number_digits minor h.1)
told_short (conditions.UnknownType kind) h = omega (arith, longest_is (told (conditions.UnknownType kind)) refl, type_length (decimal kind), number_digits kind (omega (arith, h)))
told_short (conditions.Duplicate key) h = omega (arith, longest_is (told (conditions.Duplicate key)) refl, key_length (signed_decimal key), key_digits key h)
told_short (conditions.Statement faults.Syntax text) h = omega (arith, longest_is (told (conditions.Statement faults.Syntax text)) refl)
told_short (conditions.Statement faults.NoTable text) h = omega (arith, longest_is (told (conditions.Statement faults.NoTable text)) refl)
told_short (conditions.Statement faults.NumberRange text) h = omega (arith, longest_is (told (conditions.Statement faults.NumberRange text)) refl)
told_short (conditions.Statement faults.LongValue text) h = omega (arith, longest_is (told (conditions.Statement faults.LongValue text)) refl)
told_short (conditions.Statement faults.ManyStatements text) h = omega (arith, longest_is (told (conditions.Statement faults.ManyStatements text)) refl)
