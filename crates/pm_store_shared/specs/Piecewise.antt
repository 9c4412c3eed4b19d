-- The steps of a checkpoint in pieces.
use Rattle.std.specs.Prelude.{◌≡◌, Bool, true, List, [], Option, None, Some, Result, Ok, Err}
use Rattle.pm_log.specs.Half.{Half}
use Rattle.pm_segment.specs.pm_query.{Calls.{StepNotes, User}, declared.{book.BookEntry.BookEntry, store.{Stepping.Stepping, StoreNo.StoreNo}}}

-- where nothing is being made nothing is noted, and else what the step notes
abbrev pub MakesOrNot : User → Result (Option Stepping) StoreNo → List BookEntry → Type 0
MakesOrNot user (Ok None) entries = entries ≡ []
MakesOrNot user (Ok (Some stepping)) entries = StepNotes user (Ok stepping) entries
MakesOrNot user (Err refused) entries = StepNotes user (Err refused) entries

-- a beginning notes nothing but what refuses it
abbrev pub BeginsOrNot : User → Result Bool StoreNo → List BookEntry → Type 0
BeginsOrNot user (Ok begins) entries = entries ≡ []
BeginsOrNot user (Err refused) entries = StepNotes user (Err refused) entries

-- it goes on, and with this
abbrev pub IsTold : Result (Option Half) StoreNo → Result Bool StoreNo → Option Half → Type 0
IsTold (Ok half) result making = (result ≡ Ok true) × (making ≡ half)
IsTold (Err refused) result making = (result ≡ Err refused) × (making ≡ None)
