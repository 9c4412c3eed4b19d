-- What holds of the store in the slot, and of what is lent of it.
use Rattle.std.specs.Prelude.{◌≡◌, List, Option, None, Some}
use Rattle.pm_log.specs.Half.{Half}
use Rattle.pm_segment.specs.{pm_query.declared.book.BookEntry.BookEntry, pm_store_apart.declared.{apart.Apart.Apart, pass.Pass.Pass}, Lending.{IsHome, IsUnder}, Moment.over, Passes.{HasAnswer, IsStaged}, Pieces.IsMaking, Rests.IsAtRest}
use Rattle.pm_store_shared.specs.{declared.{place.Place.Place, views.{Lent.Lent}}, Behind.BehindAt}

-- With its disk it stands after these entries, and nothing is lent. Without it, it does so over the disk as it was lent, in the
-- generation of then, and the batch is the oldest of what is staged.
abbrev pub StandsOver : {D B : Type 0} {g h : _} → D → List BookEntry → Apart D B g h → (disk : Option D) → (lent : Option (Lent D)) → Type 0
StandsOver {g = g} first log apart (Some disk) None = BehindAt g first log (over disk apart) × IsAtRest disk apart × IsHome apart
StandsOver {g = g} first log apart None (Some lent) =
    BehindAt g first log (over lent.disk apart) × IsAtRest lent.disk apart × IsUnder lent.batch apart × (apart.generation ≡ lent.generation)
StandsOver first log apart _ _ = ⊥

-- What is made of the log's other file is made of what is on that disk.
abbrev pub MakesOver : {D B : Type 0} {g h : _} → Apart D B g h → (disk : Option D) → (lent : Option (Lent D)) → Option Half → Type 0
MakesOver apart (Some disk) lent making = IsMaking disk apart making
MakesOver apart None (Some lent) making = IsMaking lent.disk apart making
MakesOver apart None None making = Unit {0}

abbrev pub Stands : {D B : Type 0} {g h : _} → D → List BookEntry → Place D B g h → Option (Lent D) → Type 0
Stands first log place lent = StandsOver first log place.apart place.disk lent × MakesOver place.apart place.disk lent place.making

-- the child of a pass was answered up to its front, in this generation, and that front was taken
abbrev pub Knows : {D B : Type 0} {g h : _} → List BookEntry → Place D B g h → Pass → Type 0
Knows log place pass = HasAnswer pass.pid pass.front log × IsStaged pass.front place.apart.live
