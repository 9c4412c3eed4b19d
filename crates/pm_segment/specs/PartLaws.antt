-- A store that stages commits is its disk, and all that it has but for that.
use Rattle.std.proofs.Common.{◌≡◌, sym, subst}
use Rattle.pm_store_apart.specs.{declared.commits.Commits.{Commits, TheVariants.Staged}, Moment.{Moment, over, over_as}}
use Rattle.pm_segment.specs.{declared.segment.Segment.Segment, Moment.{apart_of, disk_of, moment}}

pub parted : {D B : Type 0} {g h : _} (Holds : Moment → Type 0) (store : Segment D B g h) → (moment store).commits ≡ Staged → Holds (moment store) → Holds (over (disk_of store) (apart_of store))
parted Holds store staged = subst (λ (ways : Commits). Holds (over_as ways (disk_of store) (apart_of store))) staged

pub joined : {D B : Type 0} {g h : _} (Holds : Moment → Type 0) (store : Segment D B g h) → (moment store).commits ≡ Staged → Holds (over (disk_of store) (apart_of store)) → Holds (moment store)
joined Holds store staged = subst (λ (ways : Commits). Holds (over_as ways (disk_of store) (apart_of store))) (sym staged)
