-- How options are read, from left to right.
use Rattle.std.specs.{Prelude.{◌≡◌, ◌≢◌, ℕ, ◌<◌, List, [], ◌++◌, slice_get, Some, option_map, unwrap_or}, List.AllByRecursion}
use Rattle.pm_top_words.specs.{declared.{options.{Setting.Setting, Settings.Settings}, words.Verb.{Verb, TheVariants.{Once, Serve}}}, Words.{Choice, Data, Port, MaxConnections, SuperuserReserved, RestartAfterCrash, AuthenticationTimeout, Number, Choose, Chosen, IsGiven, Spells}}
use Rattle.pm_top_words.specs.declared.options.Setting.TheVariants as setting

-- what the code has of an option
abbrev pub choice_of : Setting → Choice
choice_of (setting.Data dir) = Data dir.now
choice_of (setting.Port port) = Port port
choice_of (setting.MaxConnections count) = MaxConnections count
choice_of (setting.SuperuserReserved count) = SuperuserReserved count
choice_of (setting.RestartAfterCrash restarts) = RestartAfterCrash restarts
choice_of (setting.AuthenticationTimeout seconds) = AuthenticationTimeout seconds
choice_of (setting.Number number) = Number number

-- and of those that were given
abbrev pub chosen_of : Settings → Chosen
chosen_of settings =
    record {
      dir = option_map (λ dir. dir.now) settings.dir;
      port = settings.port;
      max_connections = settings.max_connections;
      reserved = settings.reserved;
      restart_after_crash = settings.restart_after_crash;
      authentication_seconds = settings.authentication_seconds;
      number = settings.number;
    }

-- a name has no `=`
abbrev pub IsName : List ℕ → Type 0
IsName name = AllByRecursion (λ byte. byte ≢ 61) name

-- it may stand as a value of its own
abbrev pub IsPlain : List ℕ → Type 0
IsPlain value = (value ≢ []) × (slice_get value 0 ≢ Some 45)

-- the words begin with a value after its name
pub record BeginsWith (words : List (List ℕ)) (name value : List ℕ) (behind : List (List ℕ)) : Type 0 where
  pub first : List (List ℕ)
  pub name_is : IsName name
  pub given : IsGiven name value first
  pub words_are : words ≡ first ++ behind

-- and with an option
pub record BeginsWithOption (words : List (List ℕ)) (choice : Choice) (behind : List (List ℕ)) : Type 0 where
  pub first : List (List ℕ)
  pub spells : Spells choice first
  pub words_are : words ≡ first ++ behind

-- options after what was chosen before
pub record Leaves (verb : Verb) (before : Chosen) (words : List (List ℕ)) (after : Chosen) : Type 0 where
  pub choices : List Choice
  pub choose : Choose verb before choices words after

-- ---- what an option to come can still make right

-- how many connections there may be at most, as long as it wasn't chosen
abbrev pub most_for : Verb → ℕ
most_for Once = 200
most_for Serve = 200
most_for verb = 20

-- fewer are reserved than there may still be
abbrev pub CanReserve : Verb → Chosen → Type 0
CanReserve verb chosen = unwrap_or chosen.reserved 0 < unwrap_or chosen.max_connections (most_for verb)
