-- A legal book up to an answer.
use Rattle.std.proofs.Common.{ℕ, List, [], ◌∷◌, ◌++◌}
use Rattle.pm_session.specs.{pm_rows.declared.commit.Change.Change, pm_sql.declared.stmt.Stmt.Stmt}
use Rattle.pm_query.{specs.{declared.{item.Item.Item, book.BookEntry.{BookEntry, TheVariants.{Opened, Redone, Attached, Answered, Released, Detached, Gone, CheckpointEnded, Broke, LogFull}}}, Book.{Base, BeginsRenewal, IsLegal, RenewsBehindGone}}, proofs.HistoryLaws.going-append}

module _ (pid front tick : ℕ) (script : List Stmt) (reply : List Item) (commit : List Change) (behind : List BookEntry) where
  abbrev whole : List BookEntry → List BookEntry
  whole before = before ++ Answered pid script reply commit front tick ∷ behind

  renewal : (before : List BookEntry) → BeginsRenewal (whole before) → BeginsRenewal before
  renewal [] begins = absurd begins
  renewal (Gone who ∷ before) begins = renewal before begins
  renewal (Opened generation ∷ before) begins = tt
  renewal (Attached who generation ∷ before) begins = absurd begins
  renewal (Redone who generation kept ∷ before) begins = absurd begins
  renewal (Answered who s r c f t ∷ before) begins = absurd begins
  renewal (Released who f t ∷ before) begins = absurd begins
  renewal (Detached who ∷ before) begins = absurd begins
  renewal (CheckpointEnded who done clean ∷ before) begins = absurd begins
  renewal (Broke who since faults ∷ before) begins = absurd begins
  renewal (LogFull who s need room ∷ before) begins = absurd begins

  renewals : (before : List BookEntry) → RenewsBehindGone (whole before) → RenewsBehindGone before
  renewals [] renews = tt
  renewals (Gone who ∷ before) renews = (renewal before renews.0, renewals before renews.1)
  renewals (Opened generation ∷ before) renews = renewals before renews
  renewals (Attached who generation ∷ before) renews = renewals before renews
  renewals (Redone who generation kept ∷ before) renews = renewals before renews
  renewals (Answered who s r c f t ∷ before) renews = renewals before renews
  renewals (Released who f t ∷ before) renews = renewals before renews
  renewals (Detached who ∷ before) renews = renewals before renews
  renewals (CheckpointEnded who done clean ∷ before) renews = renewals before renews
  renewals (Broke who since faults ∷ before) renews = renewals before renews
  renewals (LogFull who s need room ∷ before) renews = renewals before renews

  pub legal_before : (base : Base) (before : List BookEntry) → IsLegal base (whole before) → IsLegal base before
  legal_before base before legal = record {
    entries = (going-append base [] before (Answered pid script reply commit front tick ∷ behind) legal.entries).0;
    renewals = renewals before legal.renewals;
  }
