-- What passes on a client's link, and to where it shows what it reads.
use Rattle.std.specs.Prelude.{◌≡◌, ◌≤◌, ℕ, true, List, [], ◌++◌, Option, IfSome, Result, Ok, Err}
use Rattle.pm_outside.specs.{Added.Added, pm_disk.Cause.Rose, Traffic.{Traffic, came_in_of, went_out_of}}
use Rattle.pm_client.specs.declared.played.Played.{Played, TheVariants.{LinkFault, OutFault}}

-- a link at one moment: what has passed on it, where it tells that, and how often it failed
pub record LinkView : Type 0 where
  pub traffic : Option Traffic
  pub faults : ℕ

abbrev pub link_view : Option Traffic → ℕ → LinkView
link_view traffic faults = record { traffic = traffic; faults = faults }

-- a sink at one moment: what was written, where it tells that, and how often it failed
pub record SinkView : Type 0 where
  pub written : Option (List ℕ)
  pub faults : ℕ

abbrev pub sink_view : Option (List ℕ) → ℕ → SinkView
sink_view written faults = record { written = written; faults = faults }

-- a client's link and its sink, at one moment
pub record Sides : Type 0 where
  pub link : LinkView
  pub sink : SinkView

abbrev pub sides : LinkView → SinkView → Sides
sides link sink = record { link = link; sink = sink }

-- between two moments these bytes came in, and these went out
pub record Carries (came went : List ℕ) (before now : LinkView) : Type 0 where
  pub came_in : Added came (came_in_of before.traffic) (came_in_of now.traffic)
  pub went_out : Added went (went_out_of before.traffic) (went_out_of now.traffic)
  pub later : before.faults ≤ now.faults

-- and these were written
pub record Prints (shown : List ℕ) (before now : SinkView) : Type 0 where
  pub written : Added shown before.written now.written
  pub later : before.faults ≤ now.faults

-- the link has given its end, or doesn't tell
abbrev pub HasEnded : LinkView → Type 0
HasEnded link = IfSome link.traffic (λ t. t.ended ≡ true)

-- ---- one call

-- all went out, or the link failed
abbrev pub IsSentBut : Result (Unit {0}) Played → (missing : List ℕ) → (before now : ℕ) → Type 0
IsSentBut (Ok done) missing before now = missing ≡ []
IsSentBut (Err LinkFault) missing before now = Rose before now
IsSentBut (Err _) missing before now = ⊥

-- the bytes went out, or a front of them until the link failed
pub record Sends (result : Result (Unit {0}) Played) (bytes : List ℕ) (before now : LinkView) : Type 0 where
  pub went : List ℕ
  pub missing : List ℕ
  pub whole : bytes ≡ went ++ missing
  pub carries : Carries [] went before now
  pub all : IsSentBut result missing before.faults now.faults

-- all was written, or the sink failed
abbrev pub IsShownBut : Result (Unit {0}) Played → (missing : List ℕ) → (before now : ℕ) → Type 0
IsShownBut (Ok done) missing before now = missing ≡ []
IsShownBut (Err OutFault) missing before now = Rose before now
IsShownBut (Err _) missing before now = ⊥

-- the text was written, or a front of it until the sink failed
pub record Shows (result : Result (Unit {0}) Played) (text : List ℕ) (before now : SinkView) : Type 0 where
  pub shown : List ℕ
  pub missing : List ℕ
  pub whole : text ≡ shown ++ missing
  pub prints : Prints shown before now
  pub all : IsShownBut result missing before.faults now.faults
