-- What the mails of workers tell a supervisor.
use Rattle.std.specs.Prelude.{ℕ, Option, None}
use Rattle.pm_worker.specs.declared.mail.MailTold.{MailTold}
use Rattle.pm_worker.specs.declared.mail.MailTold.TheVariants as mail

-- the number of commits that a mail tells of which came back
abbrev pub kept_told : MailTold → Option ℕ
kept_told (mail.Aux fault kept) = kept
kept_told _ = None
