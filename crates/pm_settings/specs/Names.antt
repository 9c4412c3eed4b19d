-- The settings: the name of each as it is shown, what it takes, and the value that it has from the beginning (PostgreSQL manual, Server Configuration).
use Rattle.std.specs.Prelude.{ℕ, Bool, true, false, ◌&&◌, ◌||◌, nat_le, List, [], ◌∷◌, length, take, find, Option, codes}
use Prim.Native.String.{String}
use Rattle.pm_sql.specs.Tokens.{is_same_word}
use Rattle.pm_settings.specs.declared.setting.{Takes.{Takes, TheVariants.{Any, Iso, Own, Utf8, Nothing}}, Setting.{Setting, TheVariants.{ApplicationName, ClientMinMessages, DateStyle, ExtraFloatDigits, IntervalStyle, SearchPath, TimeZone, ClientEncoding, StandardConformingStrings, StatementTimeout, LockTimeout, IdleInTransactionSessionTimeout, DefaultTransactionReadOnly, ServerVersion, ServerEncoding, IntegerDatetimes, TransactionIsolation}}}

pub record Entry : Type 0 where
  pub name : List ℕ
  pub takes : Takes
  pub value : List ℕ

abbrev pub entry : String → Takes → String → Entry
entry name takes value = record { name = codes name; takes = takes; value = codes value }

abbrev pub row_of : Setting → Entry
row_of ApplicationName = entry "application_name" Any ""
row_of ClientMinMessages = entry "client_min_messages" Any "notice"
row_of DateStyle = entry "DateStyle" Iso "ISO, MDY"
row_of ExtraFloatDigits = entry "extra_float_digits" Any "1"
row_of IntervalStyle = entry "IntervalStyle" Any "postgres"
row_of SearchPath = entry "search_path" Any "\"$user\", public"
row_of TimeZone = entry "TimeZone" Any "GMT"
row_of ClientEncoding = entry "client_encoding" Utf8 "UTF8"
row_of StandardConformingStrings = entry "standard_conforming_strings" Own "on"
row_of StatementTimeout = entry "statement_timeout" Own "0"
row_of LockTimeout = entry "lock_timeout" Own "0"
row_of IdleInTransactionSessionTimeout = entry "idle_in_transaction_session_timeout" Own "0"
row_of DefaultTransactionReadOnly = entry "default_transaction_read_only" Own "off"
row_of ServerVersion = entry "server_version" Nothing "16.0"
row_of ServerEncoding = entry "server_encoding" Nothing "UTF8"
row_of IntegerDatetimes = entry "integer_datetimes" Nothing "on"
row_of TransactionIsolation = entry "transaction_isolation" Nothing "serializable"

abbrev pub all_settings : List Setting
all_settings =
    ApplicationName ∷ ClientMinMessages ∷ DateStyle ∷ ExtraFloatDigits ∷ IntervalStyle ∷ SearchPath ∷ TimeZone ∷ ClientEncoding ∷ StandardConformingStrings
    ∷ StatementTimeout ∷ LockTimeout ∷ IdleInTransactionSessionTimeout ∷ DefaultTransactionReadOnly ∷ ServerVersion ∷ ServerEncoding ∷ IntegerDatetimes ∷ TransactionIsolation ∷ []

-- names are the same in any case
abbrev pub is_named : List ℕ → Setting → Bool
is_named name setting = is_same_word name (row_of setting).name

unfoldable pub setting_named : List ℕ → Option Setting
setting_named name = find (is_named name) all_settings

-- ---- values

abbrev pub max_setting_bytes : ℕ
max_setting_bytes = 256

abbrev pub is_short : List ℕ → Bool
is_short value = nat_le (length value) max_setting_bytes

abbrev pub starts_iso : List ℕ → Bool
starts_iso value = is_same_word (take 3 value) (codes "iso")

-- whether a value is taken, where the setting's own is `own`
abbrev pub fits : Takes → (own value : List ℕ) → Bool
fits Any own value = is_short value
fits Iso own value = is_short value && starts_iso value
fits Own own value = is_same_word value own
fits Utf8 own value = is_same_word value own || (is_same_word value (codes "utf-8") || is_same_word value (codes "unicode"))
fits Nothing own value = false

unfoldable pub is_taken : Setting → List ℕ → Bool
is_taken setting value = fits (row_of setting).takes (row_of setting).value value

abbrev pub is_nothing : Takes → Bool
is_nothing Any = false
is_nothing Iso = false
is_nothing Own = false
is_nothing Utf8 = false
is_nothing Nothing = true

-- whether it is only shown
abbrev pub is_fixed : Setting → Bool
is_fixed setting = is_nothing (row_of setting).takes
