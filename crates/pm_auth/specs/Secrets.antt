-- Secrets of users, as words give them.
use Rattle.std.specs.{Prelude.{◌≡◌, ◌≢◌, ℕ, Bool, List, [], ◌∷◌, ◌++◌, find, position, slice_get, take, Option, Some, IsTrue}, List.{AllZip, IsDistinct, list_any}, Str.bytes_eq}
use Rattle.pm_auth.specs.{Cuts.IsFreeOf, Kept.{IsWhole, kept_text}, Words.IsFirstOdd, declared.{kept.Kept.Kept, secrets.Secret.Secret, fault.{WordNo.WordNo, AuthNo.{AuthNo, TheVariants.{ManyRules, ManySecrets, NoRule, NoSecret, SecondSecret, NoMemory}}}}}
use Rattle.pm_auth.specs.declared.fault.WordNo.TheVariants as word_no

-- a user who can have a secret: no `=` (61) in the name
pub record IsUser (name : List ℕ) : Type 0 where
  pub some : name ≢ []
  pub plain : IsFreeOf 61 name

abbrev pub secret_said : (user : List ℕ) → Kept → Secret
secret_said user kept = record { user = user; kept = kept }

-- `USER=SCRAM-SHA-256$4096:SALT$STORED:SERVER`
pub record SaysSecret (word : List ℕ) (secret : Secret) : Type 0 where
  pub user_is : IsUser secret.user
  pub whole : IsWhole secret.kept
  pub word_is : word ≡ secret.user ++ 61 ∷ kept_text secret.kept

-- the word says no secret
abbrev pub IsNoSecret : (word : List ℕ) → WordNo → Type 0
IsNoSecret word word_no.Form = (secret : Secret) → ¬ (SaysSecret word secret)
IsNoSecret word word_no.NoMemory = Unit {0}

-- ---- all of them

abbrev pub is_of : (user : List ℕ) → Secret → Bool
is_of user secret = bytes_eq secret.user user

abbrev pub is_same_user : Secret → Secret → Bool
is_same_user one other = is_of one.user other

abbrev pub place_of : List Secret → (user : List ℕ) → Option ℕ
place_of secrets user = position (is_of user) secrets

abbrev pub secret_of : List Secret → (user : List ℕ) → Option Secret
secret_of secrets user = find (is_of user) secrets

-- words that all say secrets, each of another user
pub record SecretsSay (words : List (List ℕ)) (secrets : List Secret) : Type 0 where
  pub say : AllZip SaysSecret words secrets
  pub distinct : IsDistinct is_same_user secrets

-- The word at this place says a secret of a user who has one by the words before it.
pub record Repeats (words : List (List ℕ)) (index : ℕ) : Type 0 where
  pub before : List Secret
  pub word : List ℕ
  pub secret : Secret
  pub fit : SecretsSay (take index words) before
  pub word_at : slice_get words index ≡ Some word
  pub says : SaysSecret word secret
  pub taken : IsTrue (list_any (is_of secret.user) before)

-- what words are refused for
abbrev pub IsSecretMisfit : (words : List (List ℕ)) → AuthNo → Type 0
IsSecretMisfit words ManyRules = ⊥
IsSecretMisfit words ManySecrets = ⊥
IsSecretMisfit words (NoRule index) = ⊥
IsSecretMisfit words (NoSecret index) = IsFirstOdd SecretsSay SaysSecret words index
IsSecretMisfit words (SecondSecret index) = Repeats words index
IsSecretMisfit words NoMemory = Unit {0}
