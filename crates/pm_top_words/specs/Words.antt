-- The words of the command line: a command, and options in any order, each at most once.
use Rattle.std.specs.{Prelude.{◌≡◌, ◌≢◌, ◌⊎◌, ℕ, ◌*◌, ◌<◌, ◌≤◌, Bool, true, false, List, [], ◌∷◌, ◌++◌, codes, length, slice_get, Option, None, Some, option_map, unwrap_or}, Str.Parse.{IsNumeral, digits_value}}
use Rattle.pm_server.specs.declared.conf.Conf.{Conf}
use Rattle.pm_top_words.specs.declared.words.{Command.Command, Verb.{Verb, TheVariants.{Initdb, Once, Serve, Controldata, Workload}}}
use Rattle.pm_top_words.specs.declared.words.Command.TheVariants as command

abbrev pub verb_word : Verb → List ℕ
verb_word Initdb = codes "initdb"
verb_word Once = codes "once"
verb_word Serve = codes "serve"
verb_word Controldata = codes "controldata"
verb_word Workload = codes "workload"

-- ---- options

-- an option, with what its value says
pub data Choice : Type 0 where
  -- the folder of the cluster
  Data : (dir : List ℕ) → Choice
  Port : (port : ℕ) → Choice
  MaxConnections : (count : ℕ) → Choice
  SuperuserReserved : (count : ℕ) → Choice
  RestartAfterCrash : (restarts : Bool) → Choice
  AuthenticationTimeout : (seconds : ℕ) → Choice
  Number : (number : ℕ) → Choice

abbrev pub option_name : Choice → List ℕ
option_name (Data dir) = codes "--data"
option_name (Port port) = codes "--port"
option_name (MaxConnections count) = codes "--max-connections"
option_name (SuperuserReserved count) = codes "--superuser-reserved"
option_name (RestartAfterCrash restarts) = codes "--restart-after-crash"
option_name (AuthenticationTimeout seconds) = codes "--authentication-timeout"
option_name (Number number) = codes "--number"

-- a number of these limits, in one to ten digits
pub record IsNumberIn (least most number : ℕ) (value : List ℕ) : Type 0 where
  pub digits : IsNumeral 10 value
  pub few : length value ≤ 10
  pub number_is : number ≡ digits_value 10 value
  pub from_least : least ≤ number
  pub to_most : number ≤ most

-- the value says it
abbrev pub Says : Choice → (value : List ℕ) → Type 0
Says (Data dir) value = value ≡ dir
Says (Port port) value = IsNumberIn 1 65535 port value
Says (MaxConnections count) value = IsNumberIn 1 200 count value
Says (SuperuserReserved count) value = IsNumberIn 0 199 count value
Says (RestartAfterCrash true) value = value ≡ codes "on"
Says (RestartAfterCrash false) value = value ≡ codes "off"
Says (AuthenticationTimeout seconds) value = IsNumberIn 1 600 seconds value
Says (Number number) value = IsNumberIn 0 100000 number value

-- A value comes after its name and `=` (61) in one word, or is a word of its own that doesn't begin with `-` (45). It isn't
-- empty.
abbrev pub IsGiven : (name value : List ℕ) → (words : List (List ℕ)) → Type 0
IsGiven name value words =
    (value ≢ [])
    × ((words ≡ (name ++ 61 ∷ value) ∷ []) ⊎ ((words ≡ name ∷ value ∷ []) × (slice_get value 0 ≢ Some 45)))

abbrev pub Spells : Choice → (words : List (List ℕ)) → Type 0
Spells choice words = (value : List ℕ) × Says choice value × IsGiven (option_name choice) value words

-- A workload has its number alone. All others have the folder, `once` and `serve` what a server goes by, and `serve` alone has
-- the port.
abbrev pub IsFor : Verb → Choice → Type 0
IsFor Workload (Number number) = Unit {0}
IsFor Workload choice = ⊥
IsFor verb (Number number) = ⊥
IsFor verb (Data dir) = Unit {0}
IsFor Serve choice = Unit {0}
IsFor verb (Port port) = ⊥
IsFor Once choice = Unit {0}
IsFor verb choice = ⊥

-- ---- what they choose

-- by each option that was given
pub record Chosen : Type 0 where
  pub dir : Option (List ℕ)
  pub port : Option ℕ
  pub max_connections : Option ℕ
  pub reserved : Option ℕ
  pub restart_after_crash : Option Bool
  pub authentication_seconds : Option ℕ
  pub number : Option ℕ

abbrev pub nothing : Chosen
nothing =
    record { dir = None; port = None; max_connections = None; reserved = None; restart_after_crash = None; authentication_seconds = None; number = None }

-- this option wasn't given yet
abbrev pub IsOpen : Choice → Chosen → Type 0
IsOpen (Data dir) chosen = chosen.dir ≡ None
IsOpen (Port port) chosen = chosen.port ≡ None
IsOpen (MaxConnections count) chosen = chosen.max_connections ≡ None
IsOpen (SuperuserReserved count) chosen = chosen.reserved ≡ None
IsOpen (RestartAfterCrash restarts) chosen = chosen.restart_after_crash ≡ None
IsOpen (AuthenticationTimeout seconds) chosen = chosen.authentication_seconds ≡ None
IsOpen (Number number) chosen = chosen.number ≡ None

abbrev pub with_choice : Choice → Chosen → Chosen
with_choice (Data dir) chosen = record chosen { dir = Some dir }
with_choice (Port port) chosen = record chosen { port = Some port }
with_choice (MaxConnections count) chosen = record chosen { max_connections = Some count }
with_choice (SuperuserReserved count) chosen = record chosen { reserved = Some count }
with_choice (RestartAfterCrash restarts) chosen = record chosen { restart_after_crash = Some restarts }
with_choice (AuthenticationTimeout seconds) chosen = record chosen { authentication_seconds = Some seconds }
with_choice (Number number) chosen = record chosen { number = Some number }

-- an option for this command that wasn't given yet
abbrev pub MayChoose : Verb → Choice → Chosen → Type 0
MayChoose verb choice chosen = IsFor verb choice × IsOpen choice chosen

-- The words spell these options, and after what was chosen before they leave this.
abbrev pub Choose : Verb → (before : Chosen) → List Choice → (words : List (List ℕ)) → (after : Chosen) → Type 0
Choose verb before [] words after = (words ≡ []) × (after ≡ before)
Choose verb before (choice ∷ choices) words after =
    (first : List (List ℕ)) × (rest : List (List ℕ)) × (words ≡ first ++ rest) × Spells choice first × (IsFor verb choice × IsOpen choice before)
    × Choose verb (with_choice choice before) choices rest after

-- what a server goes by: by default up to 20 connections of which none is reserved, a restart after a crash, and 60 seconds for a
-- client to log in
abbrev pub conf_of : Chosen → Conf
conf_of chosen = record {
  limits = record {
    max_connections = unwrap_or chosen.max_connections 20;
    max_worker_processes = 0;
    reserved = unwrap_or chosen.reserved 0;
    restart_after_crash = unwrap_or chosen.restart_after_crash true;
  };
  session = record { authentication_ms = unwrap_or chosen.authentication_seconds 60 * 1000 };
}

-- what the program is asked to do, where the options are there that the command wants
abbrev pub command_of : Verb → Chosen → Option Command
command_of Initdb chosen = Some command.Initdb
command_of Once chosen = Some command.Once
command_of Serve chosen = option_map command.Serve chosen.port
command_of Controldata chosen = Some command.Controldata
command_of Workload chosen = option_map command.Workload chosen.number

-- the folder, which is empty for a workload
abbrev pub folder_of : Verb → Chosen → Option (List ℕ)
folder_of Workload chosen = Some []
folder_of verb chosen = chosen.dir

-- ---- a line

-- fewer connections are reserved than there may be
abbrev pub ReservesFewer : Conf → Type 0
ReservesFewer conf = conf.limits.reserved < conf.limits.max_connections

-- a command with its options, those among them that it wants
pub record IsLineWith (words : List (List ℕ)) (command : Command) (dir : List ℕ) (conf : Conf) : Type 0 where
  pub verb : Verb
  pub options : List (List ℕ)
  pub choices : List Choice
  pub chosen : Chosen
  pub words_are : words ≡ verb_word verb ∷ options
  pub choose : Choose verb nothing choices options chosen
  pub asks : command_of verb chosen ≡ Some command
  pub folder : folder_of verb chosen ≡ Some dir
  pub conf_is : conf ≡ conf_of chosen
  pub reserves : ReservesFewer conf

-- no other line is spelled by the words
abbrev pub IsOnlyLine : List (List ℕ) → Command → List ℕ → Conf → Type 0
IsOnlyLine words command dir conf =
    (other : Command) (folder : List ℕ) (others : Conf) → IsLineWith words other folder others
    → (other ≡ command) × (folder ≡ dir) × (others ≡ conf)

-- the words are no command line
abbrev pub AreNoLine : List (List ℕ) → Type 0
AreNoLine words = (command : Command) (dir : List ℕ) (conf : Conf) → ¬ (IsLineWith words command dir conf)

-- whatever a server of it goes by
abbrev pub IsLine : List (List ℕ) → Command → List ℕ → Type 0
IsLine words command dir = (conf : Conf) × IsLineWith words command dir conf
