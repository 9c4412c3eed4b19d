-- Rules: how words give them, and which one a connection is under (PostgreSQL manual, The pg_hba.conf File).
use Rattle.std.specs.{Prelude.{◌≡◌, ◌≢◌, ℕ, suc, Bool, true, ◌&&◌, List, [], ◌∷◌, ◌++◌, codes, find, position, Option, None, Some}, List.AllZip, Option.option_map, Str.bytes_eq}
use Rattle.pm_auth.specs.{Cuts.IsFreeOf, Words.IsFirstOdd, declared.{rules.{Rule.Rule, Method.{Method, TheVariants.{Trust, Reject, ScramSha256}}}, fault.{WordNo.WordNo, AuthNo.{AuthNo, TheVariants.{ManyRules, ManySecrets, NoRule, NoSecret, SecondSecret, NoMemory}}}}}
use Rattle.pm_auth.specs.declared.fault.WordNo.TheVariants as word_no

abbrev pub method_word : Method → List ℕ
method_word Trust = codes "trust"
method_word Reject = codes "reject"
method_word ScramSha256 = codes "scram-sha-256"

-- a name that stands for itself: it isn't empty, has no space (32) and isn't the word for all
pub record IsName (name : List ℕ) : Type 0 where
  pub some : name ≢ []
  pub spaceless : IsFreeOf 32 name
  pub single : name ≢ codes "all"

-- a field and its word
abbrev pub Names : Option (List ℕ) → (word : List ℕ) → Type 0
Names None word = word ≡ codes "all"
Names (Some name) word = (word ≡ name) × IsName name

-- the word stands in no field
abbrev pub IsNoField : (word : List ℕ) → WordNo → Type 0
IsNoField word word_no.Form = (field : Option (List ℕ)) → ¬ (Names field word)
IsNoField word word_no.NoMemory = Unit {0}

-- `DATABASE USER METHOD`, with single spaces
pub record SaysRule (word : List ℕ) (rule : Rule) : Type 0 where
  pub database : List ℕ
  pub user : List ℕ
  pub database_is : Names rule.database database
  pub user_is : Names rule.user user
  pub word_is : word ≡ database ++ 32 ∷ (user ++ 32 ∷ method_word rule.method)

-- the word says no rule
abbrev pub IsNoRule : (word : List ℕ) → WordNo → Type 0
IsNoRule word word_no.Form = (rule : Rule) → ¬ (SaysRule word rule)
IsNoRule word word_no.NoMemory = Unit {0}

-- words that all say rules
abbrev pub RulesSay : List (List ℕ) → List Rule → Type 0
RulesSay words rules = AllZip SaysRule words rules

-- what words are refused for
abbrev pub IsRuleMisfit : (words : List (List ℕ)) → AuthNo → Type 0
IsRuleMisfit words ManyRules = ⊥
IsRuleMisfit words ManySecrets = ⊥
IsRuleMisfit words (NoRule index) = IsFirstOdd RulesSay SaysRule words index
IsRuleMisfit words (NoSecret index) = ⊥
IsRuleMisfit words (SecondSecret index) = ⊥
IsRuleMisfit words NoMemory = Unit {0}

-- ---- the one that a connection is under

-- a field that names nothing is for all names
abbrev pub is_for : Option (List ℕ) → (name : List ℕ) → Bool
is_for None name = true
is_for (Some named) name = bytes_eq named name

abbrev pub fits : (database user : List ℕ) → Rule → Bool
fits database user rule = is_for rule.database database && is_for rule.user user

-- the number, from 1 on, of the first rule that fits
abbrev pub first : List Rule → (database user : List ℕ) → Option ℕ
first rules database user = option_map suc (position (fits database user) rules)

-- and its method
abbrev pub method_for : List Rule → (database user : List ℕ) → Option Method
method_for rules database user = option_map (λ rule. rule.method) (find (fits database user) rules)
