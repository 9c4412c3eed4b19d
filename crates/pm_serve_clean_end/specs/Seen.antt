-- What was seen in the present generation, of that which a clean end depends on.
use Rattle.std.specs.Prelude.{Bool, true, false, not, ◌&&◌, ◌||◌}
use Rattle.pm_serve_crew.specs.{pm_exit.{declared.child.{Kind.Kind, Status.Status}, Ends.{is_exit_0, is_exit_1}}, pm_supervisor.Children.{is_checkpointer, is_startup_child}, pm_state.declared.event.PmEvent.PmEvent}
use Rattle.pm_serve_crew.specs.pm_exit.declared.child.Kind.TheVariants as kind
use Rattle.pm_serve_crew.specs.pm_supervisor.declared.Ending.TheVariants as ending
use Rattle.pm_serve_crew.specs.pm_state.declared.event.PmEvent.TheVariants as entry

-- a child that used what is shared didn't end by itself, or a background child without its work done
abbrev pub is_harm : Kind → Status → Bool
is_harm kind.Checkpointer status = not (is_exit_0 status)
is_harm kind.Writer status = not (is_exit_0 status)
is_harm kind.Worker status = not (is_exit_0 status || is_exit_1 status)
is_harm kind.Backend status = not (is_exit_0 status || is_exit_1 status)
is_harm _ status = false

abbrev pub harms : PmEvent → Bool
harms (entry.Exited pid kind status was_active at) = is_harm kind status
harms _ = false

-- a startup child has ended without its redo, or with it
abbrev pub undoes : PmEvent → Bool
undoes (entry.Exited pid kind status was_active at) = is_startup_child kind && not (is_exit_0 status)
undoes _ = false

abbrev pub redoes : PmEvent → Bool
redoes (entry.Exited pid kind status was_active at) = is_startup_child kind && is_exit_0 status
redoes _ = false

-- a checkpointer was started
abbrev pub checks : PmEvent → Bool
checks (entry.Started pid kind) = is_checkpointer kind
checks _ = false

abbrev pub is_clean_end : PmEvent → Bool
is_clean_end (entry.Ended ending.Clean) = true
is_clean_end _ = false

-- which of them were seen in the present generation, and whether the server has ended clean
pub record Seen : Type 0 where
  pub harm : Bool
  pub undone : Bool
  pub redone : Bool
  pub checkpointer : Bool
  pub clean : Bool

abbrev pub nothing_seen : Seen
nothing_seen = record { harm = false; undone = false; redone = false; checkpointer = false; clean = false }

abbrev pub seen_after : Seen → PmEvent → Seen
seen_after s (entry.Reset generation) = record { harm = false; undone = false; redone = false; checkpointer = false; clean = s.clean }
seen_after s e =
    record {
      harm = harms e || s.harm;
      undone = undoes e || s.undone;
      redone = redoes e || s.redone;
      checkpointer = checks e || s.checkpointer;
      clean = is_clean_end e || s.clean;
    }
