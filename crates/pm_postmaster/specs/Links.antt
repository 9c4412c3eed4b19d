-- The links that a port gave, and the children that have them.
use Rattle.std.specs.{Prelude.{◌≡◌, ◌⊎◌, ℕ, ◌+◌, ◌≤◌, Bool, true, List, [], ◌∷◌, length, Some, slice_get}, List.{Contains, flat_map}}
use Rattle.pm_worker.specs.{pm_board.{pm_board_words.declared.views.{Offer.Offer, PastChild.PastChild, RosterView.RosterView, Sight.TheVariants.Assigned, SlotView.SlotView}, Children.{children_of, count_of}, Places.{is_connection, slot_at}}, pm_outside.Visits.{Visit, Visits}, declared.mail.MailTold.MailTold, Mails.traffic_in}
use Rattle.pm_server.specs.{pm_admit.declared.Cac.Cac, pm_state.declared.event.PmEvent.PmEvent}
use Rattle.pm_server.specs.pm_state.declared.event.PmEvent.TheVariants as entry
use Rattle.pm_worker.specs.declared.mail.MailTold.TheVariants as mail

-- ---- who was offered a connection

-- A connection that was accepted: the pid of its child, and what was decided on it.
pub record AcceptedConnection : Type 0 where
  pub pid : ℕ
  pub decision : Cac

abbrev pub connection_of : PmEvent → List AcceptedConnection
connection_of (entry.Accepted pid decision) = record { pid = pid; decision = decision } ∷ []
connection_of _ = []

-- those that a journal tells of, in order
abbrev pub accepted_in : List PmEvent → List AcceptedConnection
accepted_in journal = flat_map connection_of journal

-- the mail gives a child this decision and, where links are numbered, the link of this number
abbrev pub Serves : (numbered : Bool) → ℕ → Cac → MailTold → Type 0
Serves numbered n decision (mail.Serve link told) = (told ≡ decision) × (numbered ≡ true → link.number ≡ n)
Serves numbered n decision _ = ⊥

-- the child was offered the connection of this number
abbrev pub IsOffered : (numbered : Bool) → ℕ → AcceptedConnection → Offer MailTold → Type 0
IsOffered numbered n c o = (o.pid ≡ c.pid) × Serves numbered n c.decision o.given

-- a child of this slot has such an offer: it sits there, or it was released
abbrev pub HasOffer : (Offer MailTold → Type 0) → SlotView MailTold → Type 0
HasOffer P x =
    ((o : Offer MailTold) × (x.sight ≡ Assigned o) × P o)
    ⊎ ((child : PastChild MailTold) × Contains x.past child × P child.offer)

-- each connection that was accepted was offered to the child of its pid
abbrev pub AreServed : (numbered : Bool) → List AcceptedConnection → RosterView MailTold → Type 0
AreServed numbered connections d =
    (n : ℕ) (c : AcceptedConnection) → slice_get connections n ≡ Some c → (k : ℕ) × HasOffer (IsOffered numbered (n + 1) c) (slot_at d k)

abbrev pub KeepsServed : (before now : RosterView MailTold) → Type 0
KeepsServed before now = (numbered : Bool) (connections : List AcceptedConnection) → AreServed numbered connections before → AreServed numbered connections now

-- and each of these children was released
abbrev pub AreAnswered : (numbered : Bool) → List AcceptedConnection → RosterView MailTold → Type 0
AreAnswered numbered connections d =
    (n : ℕ) (c : AcceptedConnection) → slice_get connections n ≡ Some c
    → (k : ℕ) × (child : PastChild MailTold) × Contains (slot_at d k).past child × IsOffered numbered (n + 1) c child.offer

-- ---- which links are out

-- the link of this mail is among these that came back, where it has one, with what had passed on it
abbrev pub BackIn : List Visit → MailTold → Type 0
BackIn back (mail.Served link) =
    (visit : Visit) × Contains back visit × (visit.number ≡ link.number) × (visit.traffic ≡ traffic_in link)
BackIn back _ = Unit {0}

abbrev pub IsBackIn : Visits → MailTold → Type 0
IsBackIn visits mail = BackIn visits.back mail

-- the links that released children gave back came back to the port, as these gave them
abbrev pub AreBackIn : RosterView MailTold → Visits → Type 0
AreBackIn d visits = (k : ℕ) (child : PastChild MailTold) → Contains (slot_at d k).past child → BackIn visits.back child.back

-- As many links were given as connections were accepted, and no more are out than children sit that answer one. What released
-- children gave back came back to the port.
pub record HasLinks (accepted : ℕ) (d : RosterView MailTold) (visits : Visits) : Type 0 where
  pub given : length visits.given ≡ accepted
  pub out : length visits.back + count_of is_connection (children_of d.slots) ≤ length visits.given
  pub back : AreBackIn d visits
