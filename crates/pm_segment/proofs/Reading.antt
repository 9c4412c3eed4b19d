-- Files that mean something can be read.
use Rattle.std.{proofs.{Common.{◌≡◌, inl, inr, ℕ, List, [], length, Option, None, Some, refl, sym, ap, subst, arith}, Math.Logic.∥∥₁_elim}, specs.Prelude.IfSome}
use Rattle.pm_query.specs.{pm_disk.{declared.disk.Which.{Which, TheVariants.{A, B}}, Files.{Files, file_of}}, pm_record.{StandsFor.{Content, StandsFor}, Found.IsClosed, Pair.{IsShut, PairStandsFor, Yields}, declared.fault.RedoFault.RedoFault}, declared.book.BookEntry.BookEntry, Book.{Base, history_of}, History.History, Durable.HoldsFrom}
use Rattle.pm_query.specs.pm_record.declared.fault.RedoFault.TheVariants as fault
use Rattle.pm_redo.{proofs.FileLaws.{epoch_is, not_closed}, specs.Found.{HaveEpoch, IsDamaged, IsFirstDamaged, IsReason}}
use Rattle.pm_segment.{specs.Moment.{Moment, Told}, proofs.Lawful.told_then}
use Rattle.pm_store_apart.specs.{Redos.SaysNothing, Runs.CanBeRead, Stands.{GoesFrom, HasBegun, HasHeld, IsSure, MeansWithin, Origin, most_bytes}}

-- ---- one file that stands for something

shut_closed : (bytes : List ℕ) → IsShut bytes → IsClosed bytes
shut_closed bytes shut = subst IsClosed (sym shut.1) refl

not_empty : (bytes : List ℕ) (content : Content) (end : ℕ) → StandsFor bytes content end → bytes ≡ [] → ⊥
not_empty bytes content end log empty = not_closed bytes content end log (subst IsClosed (sym empty) tt)

-- ---- the pair

-- the file that counts isn't damaged
counts_whole : (file : Which) (files : Files) (content : Content) (end place : ℕ) → PairStandsFor files file content end → IsDamaged file files place → ⊥
counts_whole file files content end place pair (inl nothing) = nothing.0.no_log content end pair.stands
counts_whole file files content end place pair (inr empty) = not_empty (file_of files file) content end pair.stands empty.1

-- nor is the one beside it
yields_whole : (file : Which) (files : Files) (epoch place : ℕ) → Yields (file_of files file) epoch → IsDamaged file files place → ⊥
yields_whole file files epoch place (inl shut) (inl nothing) = nothing.0.not_closed (shut_closed (file_of files file) shut)
yields_whole file files epoch place (inr stands) (inl nothing) = nothing.0.no_log stands.0 stands.1 stands.2
yields_whole file files epoch place (inl shut) (inr empty) = omega (arith, ap length shut.1, ap length empty.1)
yields_whole file files epoch place (inr stands) (inr empty) = not_empty (file_of files file) stands.0 stands.1 stands.2 empty.1

no_damage : (file which : Which) (files : Files) (content : Content) (end place : ℕ) → PairStandsFor files file content end → IsFirstDamaged which files place → ⊥
no_damage A A files content end place pair damage = counts_whole A files content end place pair damage
no_damage A B files content end place pair damage = yields_whole B files content.epoch place pair.beside damage.0
no_damage B A files content end place pair damage = yields_whole A files content.epoch place pair.beside damage
no_damage B B files content end place pair damage = counts_whole B files content end place pair damage.0

-- a file has the epoch that the pair has, or it yields to it
never_both : (bytes beside : List ℕ) (content one two : Content) (end till place epoch : ℕ) → StandsFor bytes content end → Yields beside content.epoch → StandsFor bytes one till → StandsFor beside two place
    → one.epoch ≡ epoch → two.epoch ≡ epoch → ⊥
never_both bytes beside content one two end till place epoch stands (inl shut) first second one_is two_is = not_closed beside two place second (shut_closed beside shut)
never_both bytes beside content one two end till place epoch stands (inr less) first second one_is two_is =
    omega (arith, less.3, one_is, two_is, epoch_is bytes content end stands, epoch_is bytes one till first, epoch_is beside less.0 less.1 less.2, epoch_is beside two place second)

no_same_epoch : (file : Which) (files : Files) (content : Content) (end epoch : ℕ) → PairStandsFor files file content end → HaveEpoch files epoch → ⊥
no_same_epoch A files content end epoch pair both = never_both files.a files.b content both.one both.two end both.end both.till epoch pair.stands pair.beside both.in_a both.in_b both.one_is both.two_is
no_same_epoch B files content end epoch pair both = never_both files.b files.a content both.two both.one end both.till both.end epoch pair.stands pair.beside both.in_b both.in_a both.two_is both.one_is

no_closed : (file : Which) (files : Files) (content : Content) (end : ℕ) → PairStandsFor files file content end → IsClosed files.a × IsClosed files.b → ⊥
no_closed A files content end pair closed = not_closed files.a content end pair.stands closed.0
no_closed B files content end pair closed = not_closed files.b content end pair.stands closed.1

-- ---- a store after its first redo

means_no_reason : (files : Files) (most least : ℕ) (history : History) (reason : RedoFault) → HoldsFrom (MeansWithin most) least history files → IsReason reason files → SaysNothing reason
means_no_reason files most least history fault.Disk holds is = tt
means_no_reason files most least history fault.NoMemory holds is = tt
means_no_reason files most least history fault.NoCluster holds is =
    ∥∥₁_elim holds (hlevel) (λ h. no_closed h.3.2.file files h.3.2.content h.3.2.end h.3.2.pair is)
means_no_reason files most least history (fault.BadFile file at) holds is =
    ∥∥₁_elim holds (hlevel) (λ h. no_damage h.3.2.file file files h.3.2.content h.3.2.end at h.3.2.pair is)
means_no_reason files most least history (fault.SameEpoch epoch) holds is =
    ∥∥₁_elim holds (hlevel) (λ h. no_same_epoch h.3.2.file files h.3.2.content h.3.2.end epoch h.3.2.pair is)

-- the files as they read mean a number of the history
pub can_be_read : (at : Moment) (origin : Origin) (base : Base) → IfSome at.files (at.images at.ticks) → GoesFrom origin base at → Told at (λ book. CanBeRead at)
can_be_read at origin base reads told = told_then at.book at.files (λ book. IsSure at → HasBegun base at book) (HasHeld origin base at) (λ book. CanBeRead at) (λ book gone held.
    each at.files book held.flushed held.lengths reads) told
  where
    each : (files : Option Files) (book : List BookEntry) (flushed : ℕ) → ((image : Files) → at.images at.ticks image → HoldsFrom (MeansWithin (most_bytes base book)) flushed (history_of base book) image)
        → IfSome files (at.images at.ticks) → IfSome files (λ its. (reason : RedoFault) → IsReason reason its → SaysNothing reason)
    each None book flushed lengths there = tt
    each (Some its) book flushed lengths there = λ reason is. means_no_reason its (most_bytes base book) flushed (history_of base book) reason (lengths its there) is
