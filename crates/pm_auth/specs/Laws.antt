-- What holds of every exchange.
use Rattle.std.specs.Prelude.{◌≡◌, ℕ, true, List, None}
use Rattle.pm_auth.specs.{Access.{Access, IsKnown}, Kept.kept_of, Scram.{Exchange, client_final, proof_by, server_final}, Secrets.secret_of, Served.{IsRefused, IsTaken}, declared.exchange.ScramNo.TheVariants.{Form, Proof}}

-- Whoever knows the password of a secret has a last message that is taken and can't be refused.
pub record IsAccepted (x : Exchange) (message : List ℕ) : Type 0 where
  pub taken : IsTaken x message (server_final x)
  pub formed : ¬ (IsRefused x message Form)
  pub proved : ¬ (IsRefused x message Proof)

abbrev pub PasswordProves : Type 0
PasswordProves =
    (password salt : List ℕ) (x : Exchange) → x.known ≡ record { kept = kept_of password salt; has_secret = true }
    → IsAccepted x (client_final x (proof_by password x))

-- Of a user without a secret no last message is taken.
abbrev pub NoneWithoutSecret : Type 0
NoneWithoutSecret =
    (access : Access) (user : List ℕ) (x : Exchange) (message answer : List ℕ)
    → secret_of access.secrets user ≡ None → IsKnown access.secrets access.key user x.known → ¬ (IsTaken x message answer)
