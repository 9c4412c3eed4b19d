-- A store in the slot.
use Rattle.std.specs.Prelude.{◌≡◌, Some}
use Rattle.pm_segment.specs.{pm_store_apart.declared.commits.Commits.TheVariants.Staged, declared.segment.Segment.Segment, Lending.IsHome, Moment.{apart_of, disk_of, moment}, Pieces.IsMaking, Rests.IsAtRest}
use Rattle.pm_store_shared.specs.declared.place.Place.{Place}

-- it lies there with its disk
pub record IsLaid {D B : Type 0} {g h : _} (store : Segment D B g h) (place : Place D B g h) : Type 0 where
  pub disk : place.disk ≡ Some (disk_of store)
  pub apart : place.apart ≡ apart_of store
  pub staged : (moment store).commits ≡ Staged
  pub home : IsHome (apart_of store)
  pub rests : IsAtRest (disk_of store) (apart_of store)

-- the disk is there, and not lent
pub record HasDisk {D B : Type 0} {g h : _} (place : Place D B g h) : Type 0 where
  pub its : D
  pub disk : place.disk ≡ Some its
  pub home : IsHome place.apart
  pub rests : IsAtRest its place.apart
  pub making : IsMaking its place.apart place.making
