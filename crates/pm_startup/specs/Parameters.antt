-- The body of a StartupMessage: pairs of a name and a value, and what they ask for.
-- (PostgreSQL manual, Frontend/Backend Protocol: Message Formats, StartupMessage.)
use Rattle.std.specs.{Prelude.{◌≡◌, ◌≢◌, ℕ, ◌+◌, Bool, false, ◌||◌, not, List, [], ◌∷◌, ◌++◌, length, reverse, find, Option, None, Some, Result, Ok, Err, nat_eq, codes, ◌⊎◌, if◌then◌else◌}, List.{flat_map, AllByRecursion, list_any, starts_with}, Option.{option_map, option_map_or}, Str.bytes_eq}
use Rattle.pm_startup.specs.declared.packet.StartFault.{StartFault, TheVariants.{NoUser, PqOption, Replication}}

-- ---- layout

-- A string holds no zero byte: one zero byte ends it.
abbrev pub IsString : List ℕ → Type 0
IsString bytes = AllByRecursion (λ b. b ≢ 0) bytes

abbrev pub string : List ℕ → List ℕ
string bytes = bytes ++ 0 ∷ []

pub record Parameter : Type 0 where
  pub name : List ℕ
  pub value : List ℕ

-- An empty name would end the pairs; an empty value is a value.
pub record IsParameter (p : Parameter) : Type 0 where
  pub named : p.name ≢ []
  pub name : IsString p.name
  pub value : IsString p.value

abbrev pub pair : Parameter → List ℕ
pair p = string p.name ++ string p.value

-- pairs, one after the other
abbrev pub pairs : List Parameter → List ℕ
pairs ps = flat_map pair ps

-- The body is these pairs and then one zero byte, its last.
pub record IsLaidOut (body : List ℕ) (ps : List Parameter) : Type 0 where
  pub each : AllByRecursion IsParameter ps
  pub spelled : body ≡ pairs ps ++ 0 ∷ []

-- What comes after the whole pairs is no pair and no last zero byte, and `at` is where it fails:
-- a name that doesn't end, or nothing at all: where it begins
abbrev pub EndsInName : List ℕ → ℕ → Type 0
EndsInName rest at = IsString rest × (at ≡ 0)

-- a value that doesn't end: where the value begins
abbrev pub EndsInValue : List ℕ → ℕ → Type 0
EndsInValue rest at =
    (name : List ℕ) × (value : List ℕ) × (name ≢ []) × IsString name × IsString value
    × (rest ≡ string name ++ value) × (at ≡ length name + 1)

-- an empty name that isn't the last byte: the place of the byte after it
abbrev pub EndsEarly : List ℕ → ℕ → Type 0
EndsEarly rest at = (next : ℕ) × (more : List ℕ) × (rest ≡ 0 ∷ next ∷ more) × (at ≡ 1)

abbrev pub FailsAt : List ℕ → ℕ → Type 0
FailsAt rest at = EndsInName rest at ⊎ (EndsInValue rest at ⊎ EndsEarly rest at)

-- The body isn't laid out, and fails at this place of it.
pub record IsMalformed (body : List ℕ) (at : ℕ) : Type 0 where
  pub front : List Parameter
  pub rest : List ℕ
  pub place : ℕ
  pub each : AllByRecursion IsParameter front
  pub spelled : body ≡ pairs front ++ rest
  pub fails : FailsAt rest place
  pub told : at ≡ length (pairs front) + place

-- ---- what the pairs ask for

-- the value of a name: that of the last pair with this name
abbrev pub value_of : List ℕ → List Parameter → Option (List ℕ)
value_of name ps = option_map (λ p. p.value) (find (λ p. bytes_eq p.name name) (reverse ps))

-- some name begins with `_pq_.`, the mark of a protocol option
abbrev pub asks_option : List Parameter → Bool
asks_option ps = list_any (λ p. starts_with nat_eq p.name (codes "_pq_.")) ps

abbrev pub is_off : List ℕ → Bool
is_off value =
    bytes_eq value (codes "false") || bytes_eq value (codes "off") || bytes_eq value (codes "no") || bytes_eq value (codes "0")

-- a replication connection is asked for (own: by every other value)
abbrev pub asks_replication : List Parameter → Bool
asks_replication ps = option_map_or (λ value. not (is_off value)) (value_of (codes "replication") ps) false

-- the checks in their order (own), by the user, and by whether an option or replication is asked for
abbrev pub check : Option (List ℕ) → Bool → Bool → Result (List ℕ) StartFault
check None option replication = Err NoUser
check (Some []) option replication = Err NoUser
check (Some (b ∷ bs)) option replication =
    if option then Err PqOption else (if replication then Err Replication else Ok (b ∷ bs))

-- the user whom these pairs name, or the first check that fails
abbrev pub user_of : List Parameter → Result (List ℕ) StartFault
user_of ps = check (value_of (codes "user") ps) (asks_option ps) (asks_replication ps)
