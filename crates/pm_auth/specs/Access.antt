-- What a server goes by where somebody connects, and what it knows of a user by that.
use Rattle.std.specs.{Prelude.{◌≡◌, ℕ, ◌<◌, false, true, List, [], ◌∷◌, codes, length, take, Option, None, Some}, List.concat}
use Rattle.sha2.specs.Sha256.{sha256}
use Rattle.pm_hmac.specs.Hmac.{hmac}
use Rattle.pm_auth.specs.{Rules.{IsRuleMisfit, RulesSay}, Secrets.{IsSecretMisfit, SecretsSay, secret_of}, declared.{rules.Rule.Rule, secrets.{Secret.Secret, Known.Known}, fault.AuthNo.{AuthNo, TheVariants.{ManyRules, ManySecrets, NoRule, NoSecret, SecondSecret, NoMemory}}}}

pub record Access : Type 0 where
  pub rules : List Rule
  pub secrets : List Secret
  -- of the salts of users who have no secret
  pub key : List ℕ

-- ---- as words give it

-- Secrets without any rule mean that everybody shows a password, and neither that nobody does.
abbrev pub rule_words : (rules secrets : List (List ℕ)) → List (List ℕ)
rule_words [] [] = codes "all all trust" ∷ []
rule_words [] (secret ∷ secrets) = codes "all all scram-sha-256" ∷ []
rule_words (rule ∷ rules) secrets = rule ∷ rules

-- the digest of all secrets as they were given
abbrev pub key_of : (secrets : List (List ℕ)) → List ℕ
key_of secrets = sha256 (concat secrets)

pub record IsRead (rules secrets : List (List ℕ)) (access : Access) : Type 0 where
  pub rules_say : RulesSay (rule_words rules secrets) access.rules
  pub secrets_say : SecretsSay secrets access.secrets
  pub key_is : access.key ≡ key_of secrets

-- the most words of a kind
abbrev pub most : ℕ
most = 64

-- what words are refused for
abbrev pub IsMisfit : (rules secrets : List (List ℕ)) → AuthNo → Type 0
IsMisfit rules secrets ManyRules = most < length rules
IsMisfit rules secrets ManySecrets = most < length secrets
IsMisfit rules secrets (NoRule index) = IsRuleMisfit rules (NoRule index)
IsMisfit rules secrets (NoSecret index) = IsSecretMisfit secrets (NoSecret index)
IsMisfit rules secrets (SecondSecret index) = IsSecretMisfit secrets (SecondSecret index)
IsMisfit rules secrets NoMemory = Unit {0}

-- ---- what is known of a user

-- the salt of a user who has no secret: always the same by the same key
abbrev pub mock_salt : (key user : List ℕ) → List ℕ
mock_salt key user = take 16 (hmac key user)

-- by a secret, or by the key alone
abbrev pub IsKnownBy : Option Secret → (key user : List ℕ) → Known → Type 0
IsKnownBy (Some secret) key user known = (known.kept ≡ secret.kept) × (known.has_secret ≡ true)
IsKnownBy None key user known = (known.kept.salt ≡ mock_salt key user) × (known.has_secret ≡ false)

abbrev pub IsKnown : List Secret → (key user : List ℕ) → Known → Type 0
IsKnown secrets key user known = IsKnownBy (secret_of secrets user) key user known
