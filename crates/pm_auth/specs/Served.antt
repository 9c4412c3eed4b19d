-- An exchange as a server has it.
use Rattle.std.specs.{Prelude.{◌≡◌, ℕ, List, ◌++◌, codes}, declared.{alloc.Global.Global, vec.Vec.Vec}}
use Rattle.pm_auth.specs.{Access.{Access, IsKnown}, Base64.{AreBytes, base64_of}, Scram.{Exchange, IsFirst, Proves, client_signature, server_final, server_first, without_proof}, declared.{exchange.{Server.Server, ScramNo.{ScramNo, TheVariants.{Form, Proof, NoMemory}}}, first_message.Binding.Binding, fault.WordNo.WordNo}}
use Rattle.pm_auth.specs.declared.fault.WordNo.TheVariants as word_no

-- it serves this exchange, after its first message
pub record Serves (server : Server) (x : Exchange) : Type 0 where
  pub expected : server.expected.items ≡ without_proof x
  pub signature : server.signature ≡ client_signature x
  pub stored : server.stored ≡ x.known.kept.stored
  pub has_secret : server.has_secret ≡ x.known.has_secret
  pub answer : server.answer.items ≡ server_final x

-- ---- the client's first message

-- the message is no client's first one
abbrev pub IsNoFirst : (message : List ℕ) → Type 0
IsNoFirst message = (binding : Binding) (bare nonce : List ℕ) → ¬ (IsFirst message binding bare nonce)

-- the exchange that a first message begins, with the server's nonce after the client's
pub record Begins (message own_nonce : List ℕ) (x : Exchange) : Type 0 where
  pub client_nonce : List ℕ
  pub first : IsFirst message x.binding x.bare client_nonce
  pub nonce_is : x.nonce ≡ client_nonce ++ own_nonce

-- the server begins it and answers its first message
pub record Starts (access : Access) (user own_nonce message : List ℕ) (both : Server × Vec ℕ Global) : Type 0 where
  pub x : Exchange
  pub begins : Begins message own_nonce x
  pub known : IsKnown access.secrets access.key user x.known
  pub serves : Serves both.0 x
  pub answer_is : both.1.items ≡ server_first x

-- what a first message is refused for
abbrev pub IsNotBegun : (message : List ℕ) → ScramNo → Type 0
IsNotBegun message Form = IsNoFirst message
IsNotBegun message Proof = ⊥
IsNotBegun message NoMemory = Unit {0}

-- ---- the client's last message

-- a message goes on with a proof of 32 bytes after what is expected
pub record IsProof (expected message proof : List ℕ) : Type 0 where
  pub are_bytes : AreBytes 32 proof
  pub message_is : message ≡ expected ++ codes ",p=" ++ base64_of proof

-- or with none
abbrev pub HasNoProof : (expected message : List ℕ) → WordNo → Type 0
HasNoProof expected message word_no.Form = (proof : List ℕ) → ¬ (IsProof expected message proof)
HasNoProof expected message word_no.NoMemory = Unit {0}

-- the client's last message of this exchange, with this proof
abbrev pub IsFinal : Exchange → (message proof : List ℕ) → Type 0
IsFinal x message proof = IsProof (without_proof x) message proof

-- what a last message is taken for
pub record IsTaken (x : Exchange) (message answer : List ℕ) : Type 0 where
  pub proof : List ℕ
  pub final : IsFinal x message proof
  pub proves : Proves x proof
  pub answer_is : answer ≡ server_final x

-- what a last message is refused for
abbrev pub IsRefused : Exchange → (message : List ℕ) → ScramNo → Type 0
IsRefused x message Form = (proof : List ℕ) → ¬ (IsFinal x message proof)
IsRefused x message Proof = (proof : List ℕ) × IsFinal x message proof × ¬ (Proves x proof)
IsRefused x message NoMemory = Unit {0}
