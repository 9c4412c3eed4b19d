-- A run of `once`.
use Rattle.std.specs.Prelude.{◌≡◌}
use Rattle.pm_once_promises.specs.{pm_server.{declared.{conf.Conf.Conf, end.ServerEnd.ServerEnd}, Outside.OutsideView}, PromisedOnce.IsPromisedOnce}
use Rattle.pm_top.specs.{Ends.status_of, declared.status.Top.Top}

-- It is a run of the server, whose end is told by the status, and it keeps what a user counts on.
abbrev pub RunsOnce : Conf → Top → (before now : OutsideView) → Type 0
RunsOnce conf status before now =
    (end : ServerEnd) × (status ≡ status_of end) × IsPromisedOnce conf end before now
