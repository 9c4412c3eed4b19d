-- What the clearing of a board keeps.
use Rattle.std.specs.Prelude.{◌≡◌, ℕ, List, ◌++◌, Option, IfSome, is_some, length}
use Rattle.atomic_table.specs.Seated.{TableId}
use Rattle.pm_worker.specs.{pm_board.{pm_board_words.declared.views.{PastChild.PastChild, RosterView.RosterView}, Places.slot_at}, pm_outside.Visits.Visits, declared.mail.MailTold.MailTold}
use Rattle.pm_board_acts.specs.{Final.{IsEndingAt, KeepsEnding}, Seating.Move}
use Rattle.pm_postmaster.specs.{Links.{HasLinks, KeepsServed}, Requests.ended_in}

-- after these moves nothing is noted any more, and the links that are out are those of children
pub record MayClear (d : RosterView MailTold) (visits : Option Visits) : Type 0 where
  pub count : ℕ
  pub moves : List Move
  pub ending : IsEndingAt count moves d
  pub accepted : ℕ
  pub links : IfSome visits (HasLinks accepted d)

-- After the last entry children were killed and released. Each slot has had those that it had before, and perhaps others.
pub record Clears (table_before : TableId) (before : RosterView MailTold) (visits_before : Option Visits) (table_now : TableId) (now : RosterView MailTold) (visits_now : Option Visits) : Type 0 where
  pub table : table_now ≡ table_before
  pub slots : length now.slots ≡ length before.slots
  pub limit : now.session_limit ≡ before.session_limit
  pub ending : KeepsEnding before now
  pub links : (accepted : ℕ) → IfSome visits_before (HasLinks accepted before) → IfSome visits_now (HasLinks accepted now)
  pub served : KeepsServed before now
  pub numbered : is_some visits_now ≡ is_some visits_before
  pub ended : ended_in visits_now ≡ ended_in visits_before
  pub past : (k : ℕ) → (others : List (PastChild MailTold)) × ((slot_at now k).past ≡ (slot_at before k).past ++ others)
