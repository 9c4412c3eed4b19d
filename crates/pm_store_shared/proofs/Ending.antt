-- The end of a store.
use Rattle.std.{proofs.Common.{◌≡◌, ◌⊎◌, inl, inr, List, Option, None, Some, refl, sym, subst}, specs.Prelude.IfSome}
use Rattle.pm_query.specs.{pm_disk.Files.Files, declared.book.BookEntry.BookEntry, Book.Base}
use Rattle.pm_segment.specs.{declared.segment.Segment.Segment, Moment.{Moment, Told, book_of, disk_of, moment}, Runs.{IsReplay, IsRun}, Stands.{Begins, GoesFrom, IsOpening, IsSure, Origin, WaitsFrom}}
use Rattle.pm_store_shared.specs.{Behind.Behind, Ending.EndsSafely}

waiting : (origin : Origin) (at : Moment) (book : Option (List BookEntry)) (files : Option Files) → IfSome book (λ b. IfSome files (λ f. IsOpening origin at.ticks at.images))
    → EndsSafely origin.files origin.tick origin.faults book files at.ticks at.images
waiting origin at None files opening = tt
waiting origin at (Some book) None opening = tt
waiting origin at (Some book) (Some files) opening = inl opening

running : (origin : Origin) (base : Base) (at : Moment) (book : Option (List BookEntry)) (files : Option Files) → at.files ≡ files → base.faults ≡ origin.faults → IfSome book (λ b. IsSure at → IsReplay base at b)
    → IfSome book (λ b. IfSome files (λ f. IsRun origin base at b)) → EndsSafely origin.files origin.tick origin.faults book files at.ticks at.images
running origin base at None files is faults replay run = tt
running origin base at (Some book) None is faults replay run = tt
running origin base at (Some book) (Some files) is faults replay run = inr (base, faults, (replay (inr (files, is))).legal, run)

pub ends : {D B : Type 0} {g h : _} (R Q S : D → List BookEntry → Type 0) (first : Option D) (store : Segment D B g h) (disk : D) (book : B) → IfSome first (λ f. (log : List BookEntry) × Behind f log store × R f log × Q f log × S f log)
    → ((origin : Origin) (base : Base) → GoesFrom origin base (moment store) → IfSome (moment store).book (λ b. IsSure (moment store) → IsReplay base (moment store) b))
    → ((origin : Origin) (base : Base) → GoesFrom origin base (moment store) → Told (moment store) (IsRun origin base (moment store)))
    → disk ≡ disk_of store → book ≡ book_of store → IfSome first (λ f. EndsSafely (g.seen f) (g.ticks f) (g.faults f) (h.entries book) (g.seen disk) (g.ticks disk) (g.images disk))
ends R Q S None store disk book is replay run disk_is book_is = tt
ends {g = g} {h = h} R Q S (Some first) store disk book is replay run disk_is book_is = (λ (there : EndsSafely (g.seen first) (g.ticks first) (g.faults first) (moment store).book (moment store).files (moment store).ticks (moment store).images).
    subst (λ b. EndsSafely (g.seen first) (g.ticks first) (g.faults first) (h.entries b) (g.seen disk) (g.ticks disk) (g.images disk)) (sym book_is)
    (subst (λ d. EndsSafely (g.seen first) (g.ticks first) (g.faults first) (moment store).book (g.seen d) (g.ticks d) (g.images d)) (sym disk_is) there)) (each is.1.stands)
  where
    origin : Origin
    origin = record { files = g.seen first; tick = g.ticks first; faults = g.faults first }

    each : WaitsFrom origin (moment store) ⊎ Begins origin (moment store) → EndsSafely (g.seen first) (g.ticks first) (g.faults first) (moment store).book (moment store).files (moment store).ticks (moment store).images
    each (inl waits) = waiting origin (moment store) (moment store).book (moment store).files waits.1
    each (inr begins) = running origin begins.base (moment store) (moment store).book (moment store).files refl begins.faults (replay origin begins.base begins.goes) (run origin begins.base begins.goes)
