-- What is taken in of a child that was released.
use Rattle.std.specs.Prelude.{◌≡◌, ℕ, ◌<◌, Bool, if◌then◌else◌, List, [], ◌∷◌, ◌++◌, Option, None, Some, IfSome, option_map, length}
use Rattle.pm_board.specs.{pm_exit.declared.child.{Kind.Kind, Status.Status}, pm_board_words.declared.views.PastChild.PastChild, pm_supervisor.Children.{is_checkpointer, is_startup_child}}
use Rattle.pm_worker.specs.{pm_outside.Visits.{Visits, after_done}, pm_query.declared.store.StoreNo.StoreNo, declared.mail.MailTold.MailTold, Mails.traffic_in}
use Rattle.pm_worker.specs.declared.mail.MailTold.TheVariants as mail
use Rattle.pm_postmaster.specs.{declared.came.{Came.Came, LastCame.LastCame}, View.View}

-- a link is out, where the mail has one
abbrev pub MayComeBack : MailTold → Option Visits → Type 0
MayComeBack (mail.Served link) visits = IfSome visits (λ v. length v.back < length v.given)
MayComeBack _ visits = Unit {0}

-- the link of the mail is back, where it has one
abbrev pub opened : MailTold → Visits → Visits
opened (mail.Served link) visits = after_done visits link.number (traffic_in link) link.faults
opened _ visits = visits

abbrev pub IsOpened : MailTold → Option Visits → Option Visits → Type 0
IsOpened back before now = now ≡ option_map (opened back) before

-- the refusal of the store that a mail tells
abbrev pub fault_in : MailTold → Option StoreNo
fault_in (mail.Aux fault kept) = fault
fault_in _ = None

-- how a child came out that ended so and left this mail
abbrev pub came_out : Status → MailTold → Came
came_out status back = record { status = status; fault = fault_in back }

-- how the last child of one kind came out, after a child that came out so
abbrev pub last_with : (Kind → Bool) → Kind → Came → Option Came → Option Came
last_with is_it kind came before = if is_it kind then Some came else before

-- how the last startup child and the last checkpointer came out, after a child that came out so
abbrev pub with_came : Kind → Came → LastCame → LastCame
with_came kind came before = record {
  startup = last_with is_startup_child kind came before.startup;
  checkpointer = last_with is_checkpointer kind came before.checkpointer;
}

-- after a child that ended so and left this mail
abbrev pub came_by : Kind → Status → MailTold → LastCame → LastCame
came_by kind status back before = with_came kind (came_out status back) before

-- so it is of one kind after these children of a slot, where it was so before them
abbrev pub came_from : (Kind → Bool) → Option Came → List (PastChild MailTold) → Option Came
came_from is_it before [] = before
came_from is_it before (child ∷ past) = came_from is_it (last_with is_it child.offer.kind (came_out child.status child.back) before) past

-- how the last child of one kind came out, of those of a slot that were released
abbrev pub came_of : (Kind → Bool) → List (PastChild MailTold) → Option Came
came_of is_it past = came_from is_it None past

-- the lost ones, with this child where its slot was active
abbrev pub lost_with : ℕ → Bool → List ℕ → List ℕ
lost_with pid was_active lost = if was_active then lost ++ pid ∷ [] else lost

module _ {D C : Type 0} where
  -- the child was taken in: its link went back, and all else is as it was
  abbrev pub TakesIn : MailTold → ℕ → Kind → Status → Bool → View D C → View D C → Type 0
  TakesIn back pid kind status was_active before now =
      now ≡ record before {
        visits = option_map (opened back) before.visits;
        lost = lost_with pid was_active before.lost;
        came = came_by kind status back before.came;
      }
