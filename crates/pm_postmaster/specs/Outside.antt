-- What is told of the things that a server of many connections works on, at one moment.
use Rattle.std.specs.Prelude.{ℕ, List, Option}
use Rattle.pm_server.specs.pm_outside.declared.console.Console as Console
use Rattle.pm_server.specs.{declared.outside.Outside.Outside, Outside.{OutsideView, outside_view}}

-- and the lines of its console, and how often its spawner has refused a thread
pub record ServeView : Type 1 where
  pub outside : OutsideView
  pub lines : Option (List (List ℕ))
  pub refused : ℕ

abbrev pub serve_view : {P O D C J B L R K : Type 0} {p : _} {l : _} {o : _} {d : _} {c : _} {j : _} {b : _} → (k : Console.Ghosts K) → (refused : ℕ)
    → Outside P O D C J B L R p l o d c j b → K → ServeView
serve_view k refused outside console = record { outside = outside_view outside; lines = k.lines console; refused = refused }
