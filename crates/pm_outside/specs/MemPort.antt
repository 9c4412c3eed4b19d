-- What a port in memory stands for, and what its calls do to it.
use Rattle.std.specs.Prelude.{◌≡◌, ◌≢◌, ◌⊎◌, ◌<◌, ◌≤◌, ℕ, Bool, true, false, List, [], ◌∷◌, Some, map, replicate}
use Rattle.pm_outside.specs.{Calls.Calls, Holds.{IsFree, LetsGo, holds_left}, MemLink.{Begins, link_faults, link_number, link_traffic}, Visits.{Visit, Visits}, declared.{holds.Holds.Holds, link_script.LinkScript.LinkScript, mem_link.MemLink.MemLink, mem_port.MemPort.MemPort, port.Accepted.{Accepted, TheVariants.{Link, NotYet, End, Failed}}}}

-- the scripts of the links that it will still give
abbrev pub scripts_left : MemPort → List LinkScript
scripts_left port = port.waiting.items

-- its holds that are left, and how often it was asked at one
abbrev pub port_holds : MemPort → Holds
port_holds port = port.holds

-- how many links it has given
abbrev pub links_given : MemPort → ℕ
links_given port = port.given

-- the links that came back
abbrev pub links_back : MemPort → List MemLink
links_back port = port.back.items

-- its accepts so far, and those that fail
abbrev pub accept_calls : MemPort → Calls
accept_calls port = port.accepts

-- what a port tells of a link that came back: it hadn't failed when it was given
abbrev pub visit_of : MemLink → Visit
visit_of link = record { number = link_number link; traffic = Some (link_traffic link); faults_given = 0; faults_back = link_faults link }

-- what a port tells: no link had failed when it was given
abbrev pub port_visits : MemPort → Visits
port_visits port = record {
  given = replicate (links_given port) 0;
  back = map visit_of (links_back port);
  ended_behind = port.ended_behind;
}

-- whether an accept failed
abbrev pub is_accept_failed : Accepted MemLink → Bool
is_accept_failed (Link link) = false
is_accept_failed NotYet = false
is_accept_failed End = false
is_accept_failed Failed = true

-- how many links an answer gives
abbrev pub links_in : Accepted MemLink → ℕ
links_in (Link link) = 1
links_in NotYet = 0
links_in End = 0
links_in Failed = 0

-- its holds were looked at: none stands in front of the next link, or 10,000 asks were in vain, and then no script is left
abbrev pub PassesHolds : MemPort → MemPort → Type 0
PassesHolds old new =
    ((scripts_left new ≡ scripts_left old) × LetsGo (holds_left (port_holds old)) (holds_left (port_holds new))
    × IsFree (holds_left (port_holds new)) (links_given old))
    ⊎ ((scripts_left new ≡ []) × (10000 ≤ (port_holds old).asks))

-- The link of the first script that was left, where no hold stands in front of it; nobody yet at a hold; the end where no script was
-- left, or where 10,000 asks were in vain.
abbrev pub GivesNext : MemPort → Accepted MemLink → MemPort → Type 0
GivesNext old (Link link) new = ((script : LinkScript) × (scripts_left old ≡ script ∷ scripts_left new) × Begins script link)
    × LetsGo (holds_left (port_holds old)) (holds_left (port_holds new)) × IsFree (holds_left (port_holds new)) (links_given old)
GivesNext old NotYet new = (scripts_left new ≡ scripts_left old) × (holds_left (port_holds new) ≢ []) × ((port_holds old).asks < 10000)
GivesNext old End new = (scripts_left new ≡ []) × ((scripts_left old ≡ []) ⊎ (10000 ≤ (port_holds old).asks))
GivesNext old Failed new = scripts_left new ≡ scripts_left old

-- a link that comes back changes nothing else
pub record ChangesBackOnly (old new : MemPort) : Type 0 where
  pub scripts : scripts_left new ≡ scripts_left old
  pub holds : port_holds new ≡ port_holds old
  pub calls : accept_calls new ≡ accept_calls old
  pub given : links_given new ≡ links_given old

-- a look at its holds changes nothing but them and the scripts
pub record ChangesHoldsOnly (old new : MemPort) : Type 0 where
  pub alloc : new.alloc ≡ old.alloc
  pub given : new.given ≡ old.given
  pub back : new.back ≡ old.back
  pub ended : new.ended_behind ≡ old.ended_behind
  pub calls : new.accepts ≡ old.accepts
