-- Entries by which nobody comes or goes.
use Rattle.std.specs.Prelude.{List, [], ◌∷◌}
use Rattle.pm_query.specs.declared.book.BookEntry.{BookEntry, TheVariants.{Opened, Attached, Redone, Answered, Released, Detached, Gone, CheckpointEnded, Broke, LogFull}}

abbrev pub IsQuiet : BookEntry → Type 0
IsQuiet (Opened generation) = ⊥
IsQuiet (Attached pid generation) = ⊥
IsQuiet (Detached pid) = ⊥
IsQuiet (Gone pid) = ⊥
IsQuiet (Redone pid generation kept) = Unit {0}
IsQuiet (Answered pid script reply commit front tick) = Unit {0}
IsQuiet (Released pid front tick) = Unit {0}
IsQuiet (CheckpointEnded pid done clean) = Unit {0}
IsQuiet (Broke pid since faults) = Unit {0}
IsQuiet (LogFull pid script need room) = Unit {0}

abbrev pub AllQuiet : List BookEntry → Type 0
AllQuiet [] = Unit {0}
AllQuiet (e ∷ es) = IsQuiet e × AllQuiet es
