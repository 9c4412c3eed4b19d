-- What `initdb` makes, and what a command leaves alone.
use Rattle.std.specs.Prelude.{IfSome}
use Rattle.pm_log.specs.Init.{HasOpen, IsNewCluster, IsUntouched}
use Rattle.pm_server.specs.{pm_record.Found.IsClosed, Views.DiskView}

-- where the disk tells its files, they are a cluster of no commits, and durable
abbrev pub HasNewCluster : DiskView → Type 0
HasNewCluster disk = IfSome disk.files (λ files. IsNewCluster files (disk.images disk.ticks))

-- ... they hold no cluster
abbrev pub IsFree : DiskView → Type 0
IsFree disk = IfSome disk.files (λ files. IsClosed files.a × IsClosed files.b)

-- ... one of them is open
abbrev pub IsTaken : DiskView → Type 0
IsTaken disk = IfSome disk.files HasOpen

-- the files read as they did, and no stop leaves what it couldn't leave before
abbrev pub IsLeftAlone : (before now : DiskView) → Type 0
IsLeftAlone before now =
    IsUntouched before.files now.files before.ticks now.ticks before.images now.images

-- and so they are left where one is open
abbrev pub KeepsTaken : (before now : DiskView) → Type 0
KeepsTaken before now = IfSome before.files (λ files. HasOpen files → IsLeftAlone before now)
