-- What passes on a link between two moments.
use Rattle.std.specs.Prelude.{◌≡◌, ◌≢◌, ◌≤◌, ℕ, Bool, true, false, List, [], ◌++◌, Option, None, Some, IfSome, Result, Ok, Err}
use Rattle.pm_outside.specs.{Added.Added, pm_disk.Cause.Rose, Traffic.{Traffic, came_in_of, went_out_of}, declared.link.Got.{Got, TheVariants.{Bytes, NotYet, End, Failed}}}
use Rattle.pm_session_exchange.specs.declared.ending.Cause.{Cause, TheVariants.{LinkFailed, Killed, Overtaken}}
use Rattle.pm_outside.specs.declared.link.Link as Link

-- a link at one moment: what has passed on it, where it tells that, which of its port's links it is, and how often it failed
pub record LinkView : Type 0 where
  pub traffic : Option Traffic
  pub number : ℕ
  pub faults : ℕ

abbrev pub link_view : Option Traffic → (number faults : ℕ) → LinkView
link_view traffic number faults = record { traffic = traffic; number = number; faults = faults }

-- a link as it tells this of itself
abbrev pub seen : {L : Type 0} → Link.Ghosts L → L → LinkView
seen its link = link_view (its.traffic link) (its.number link) (its.faults link)

-- the link has given its end, or doesn't tell
abbrev pub HasEnded : Option Traffic → Type 0
HasEnded None = Unit {0}
HasEnded (Some traffic) = traffic.ended ≡ true

-- these bytes came in, and these went out
pub record Passes (came went : List ℕ) (before now : LinkView) : Type 0 where
  pub came_in : Added came (came_in_of before.traffic) (came_in_of now.traffic)
  pub went_out : Added went (went_out_of before.traffic) (went_out_of now.traffic)
  pub ended : HasEnded before.traffic → HasEnded now.traffic
  pub number : now.number ≡ before.number
  pub later : before.faults ≤ now.faults

-- the link has failed between two moments
abbrev pub HasFailed : (before now : LinkView) → Type 0
HasFailed before now = Rose before.faults now.faults

-- no call of the link has failed, none was made that must not be, and its end was given or not
abbrev pub IsSound : (ended : Bool) → Option Traffic → Type 0
IsSound ended traffic = IfSome traffic (λ t. (t.failed ≡ false) × (t.went_on ≡ false) × (t.ended ≡ ended))

-- no call was made that must not be, and one has failed only where this is why nothing follows
abbrev pub IsLeftFor : Cause → Option Traffic → Type 0
IsLeftFor cause traffic = IfSome traffic (λ t. (t.went_on ≡ false) × (t.failed ≡ true → cause ≡ LinkFailed))

-- a sound link goes on being sound, or nothing follows
abbrev pub Holds : (ended : Bool) → Result (Unit {0}) Cause → (before now : LinkView) → Type 0
Holds ended (Ok done) before now = IsSound ended before.traffic → IsSound ended now.traffic
Holds ended (Err cause) before now = IsSound ended before.traffic → IsLeftFor cause now.traffic

-- an ending that may leave what is sent unfinished
abbrev pub CutsOff : Cause → Type 0
CutsOff LinkFailed = Unit {0}
CutsOff Killed = Unit {0}
CutsOff Overtaken = Unit {0}
CutsOff _ = ⊥

-- all was sent, or this broke it off
abbrev pub IsSentAll : Result (Unit {0}) Cause → (missing : List ℕ) → Type 0
IsSentAll (Ok done) missing = missing ≡ []
IsSentAll (Err cause) missing = CutsOff cause

-- the bytes went out, or a front of them until the link failed or the child was killed
pub record Sends (result : Result (Unit {0}) Cause) (bytes : List ℕ) (before now : LinkView) : Type 0 where
  pub went : List ℕ
  pub missing : List ℕ
  pub whole : bytes ≡ went ++ missing
  pub passes : Passes [] went before now
  pub all : IsSentAll result missing

-- the bytes went out but for these, which are the last of them
pub record SentAllBut (rest bytes : List ℕ) (before now : LinkView) : Type 0 where
  pub went : List ℕ
  pub whole : bytes ≡ went ++ rest
  pub passes : Passes [] went before now

-- bytes came in after those that weren't looked at yet, or none did
pub record Receives (unread_before unread_now : List ℕ) (before now : LinkView) : Type 0 where
  pub came : List ℕ
  pub some : came ≢ []
  pub unread : unread_now ≡ unread_before ++ came
  pub passes : Passes came [] before now

pub record ReceivesNothing (unread_before unread_now : List ℕ) (before now : LinkView) : Type 0 where
  pub unread : unread_now ≡ unread_before
  pub passes : Passes [] [] before now

-- bytes came in, or none did and it goes no further
abbrev pub ReceivesOrNot : Result (Unit {0}) Cause → (unread_before unread_now : List ℕ) → (before now : LinkView) → Type 0
ReceivesOrNot (Ok done) unread_before unread_now before now = Receives unread_before unread_now before now
ReceivesOrNot (Err cause) unread_before unread_now before now = ReceivesNothing unread_before unread_now before now

-- the last read found nothing yet, or the link doesn't tell
abbrev pub IsWaiting : Option Traffic → Type 0
IsWaiting traffic = IfSome traffic (λ t. t.waits ≡ true)

-- one look took bytes, or none stood there yet, or it goes no further
abbrev pub Looks : Result Bool Cause → (unread_before unread_now : List ℕ) → (before now : LinkView) → Type 0
Looks (Ok true) unread_before unread_now before now = Receives unread_before unread_now before now
Looks (Ok false) unread_before unread_now before now = ReceivesNothing unread_before unread_now before now × IsWaiting now.traffic
Looks (Err cause) unread_before unread_now before now = ReceivesNothing unread_before unread_now before now

-- a sound link goes on being sound over a look, or nothing follows
abbrev pub HoldsLooking : Result Bool Cause → (before now : LinkView) → Type 0
HoldsLooking (Ok came) before now = IsSound false before.traffic → IsSound false now.traffic
HoldsLooking (Err cause) before now = IsSound false before.traffic → IsLeftFor cause now.traffic

-- the same of one read
abbrev pub HoldsReading : Got → (before now : LinkView) → Type 0
HoldsReading (Bytes count) before now = IsSound false before.traffic → IsSound false now.traffic
HoldsReading NotYet before now = IsSound false before.traffic → IsSound false now.traffic
HoldsReading End before now = IsSound false before.traffic → IsSound true now.traffic
HoldsReading Failed before now = IsSound false before.traffic → IsLeftFor LinkFailed now.traffic

-- one read took bytes, or didn't, and why
abbrev pub Reads : Got → (unread_before unread_now : List ℕ) → (before now : LinkView) → Type 0
Reads (Bytes count) unread_before unread_now before now = Receives unread_before unread_now before now
Reads NotYet unread_before unread_now before now = ReceivesNothing unread_before unread_now before now × IsWaiting now.traffic
Reads End unread_before unread_now before now = ReceivesNothing unread_before unread_now before now × HasEnded now.traffic
Reads Failed unread_before unread_now before now = ReceivesNothing unread_before unread_now before now × HasFailed before now
