-- Why a start failed.
use Rattle.std.specs.Prelude.{◌≢◌, List}
use Rattle.pm_server.specs.{pm_query.declared.book.BookEntry.BookEntry, pm_record.declared.fault.RedoFault.TheVariants.NoMemory, declared.end.{ServerEnd.{ServerEnd, TheVariants.Abnormal}, StartWhy.TheVariants.Redo, Why.TheVariants.StartupFailed}, Views.DiskView}
use Rattle.pm_postmaster.specs.pm_store_shared.Learned.{IsUnread}

-- A start that fails for its files tells why, and never that memory was short: where the disk hadn't failed and no redo had ended, the
-- files that were handed in can't be read for the reason that is told.
abbrev pub FailsForReason : ServerEnd → List BookEntry → (before : DiskView) → Type 0
FailsForReason (Abnormal (StartupFailed (Redo fault))) book before = (fault ≢ NoMemory) × IsUnread before.files book fault
FailsForReason _ book before = Unit {0}
