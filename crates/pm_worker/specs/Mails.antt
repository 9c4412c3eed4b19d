-- What a mail tells, and which children it is for.
use Rattle.std.specs.{Prelude.{◌≡◌, ℕ, true, Option, is_some}, Option.option_map}
use Rattle.pm_admit.specs.declared.Cac.TheVariants as decisions
use Rattle.pm_board.specs.{pm_exit.declared.child.{Kind.Kind, Status.{Status, TheVariants.Code}}, Places.{is_connection, is_auxiliary}}
use Rattle.pm_board.specs.pm_exit.declared.child.Kind.TheVariants as kinds
use Rattle.pm_outside.specs.Traffic.{Traffic}
use Rattle.pm_outside.specs.declared.link.Link as Link
use Rattle.pm_worker.specs.declared.mail.{Mail.Mail, Passed.Passed, LinkTold.LinkTold, MailTold.MailTold}
use Rattle.pm_worker.specs.declared.mail.Mail.TheVariants as mail
use Rattle.pm_worker.specs.declared.mail.MailTold.TheVariants as told

-- ---- what it tells

abbrev pub passed_of : Traffic → Passed
passed_of t = record { came_in = t.came_in; went_out = t.went_out; ended = t.ended; waits = t.waits; failed = t.failed; went_on = t.went_on }

abbrev pub traffic_of : Passed → Traffic
traffic_of p = record { came_in = p.came_in; went_out = p.went_out; ended = p.ended; waits = p.waits; failed = p.failed; went_on = p.went_on }

-- what passed on a link, as its own clauses say it
abbrev pub traffic_in : LinkTold → Option Traffic
traffic_in link = option_map traffic_of link.passed

module _ {L : Type 0} (g : Link.Ghosts L) where
  abbrev pub link_told : L → LinkTold
  link_told link = record { number = g.number link; faults = g.faults link; passed = option_map passed_of (g.traffic link) }

  abbrev pub mail_told : Mail L g → MailTold
  mail_told (mail.Serve link decision) = told.Serve (link_told link.link) decision
  mail_told mail.Startup = told.Startup
  mail_told mail.Checkpointer = told.Checkpointer
  mail_told mail.Writer = told.Writer
  mail_told mail.Close = told.Close
  mail_told (mail.Served link) = told.Served (link_told link)
  mail_told (mail.Aux fault kept) = told.Aux fault kept

-- ---- which child it is for

-- A connection is given to a child of a connection, and as a session to a backend. A dead-end child fits every slot, so `Close`
-- is for one.
abbrev pub IsFor : MailTold → Kind → Type 0
IsFor (told.Serve link decision) kind = (is_connection kind ≡ true) × (decision ≡ decisions.Ok → kind ≡ kinds.Backend)
IsFor told.Startup kind = kind ≡ kinds.Startup
IsFor told.Checkpointer kind = kind ≡ kinds.Checkpointer
IsFor told.Writer kind = kind ≡ kinds.Writer
IsFor told.Close kind = kind ≡ kinds.DeadEnd
IsFor _ kind = ⊥

-- a number of commits comes back exactly from a startup child that exits with code 0
pub record IsKept (kind : Kind) (status : Status) (kept : Option ℕ) : Type 0 where
  pub startup : is_some kept ≡ true → kind ≡ kinds.Startup
  pub done : is_some kept ≡ true → status ≡ Code 0
  pub told : kind ≡ kinds.Startup → status ≡ Code 0 → is_some kept ≡ true

-- it may come back from a child of this kind that exits with this status
abbrev pub ComesBack : MailTold → Kind → Status → Type 0
ComesBack (told.Served link) kind status = is_connection kind ≡ true
ComesBack (told.Aux fault kept) kind status = (is_auxiliary kind ≡ true) × IsKept kind status kept
ComesBack told.Close kind status = (kind ≡ kinds.DeadEnd) × (status ≡ Code 0)
ComesBack (told.Serve link decision) kind status = ⊥
ComesBack told.Startup kind status = ⊥
ComesBack told.Checkpointer kind status = ⊥
ComesBack told.Writer kind status = ⊥

-- the mail for an auxiliary child of this kind
abbrev pub aux_mail : Kind → MailTold
aux_mail kinds.Startup = told.Startup
aux_mail kinds.Checkpointer = told.Checkpointer
aux_mail kinds.Writer = told.Writer
aux_mail kinds.Worker = told.Close
aux_mail kinds.Backend = told.Close
aux_mail kinds.DeadEnd = told.Close
