-- What a clean end leaves.
use Rattle.std.specs.Prelude.{IfSome}
use Rattle.pm_server.specs.{Views.DiskView, Story.AreLeftClean}
use Rattle.pm_session_answers.specs.pm_query.History.{History}

-- where the server ended clean, the files are left so
abbrev pub EndsClean : Type 0 → History → DiskView → Type 0
EndsClean clean history now = clean → IfSome now.files (AreLeftClean history now)
