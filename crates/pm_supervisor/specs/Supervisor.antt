-- The supervisor as those outside of it may see it. It has no slots, words, latches or links: the state machine and the
-- board of child slots each show such a state.
use Rattle.std.specs.Prelude.{ℕ, Bool, false, List, [], Option, None}
use Rattle.pm_modes.specs.declared.Mode.{Mode}
use Rattle.pm_supervisor.specs.{declared.Reason.Reason, Children.Child, Phase.{Phase, Init}}

-- what the supervisor and its children share
pub record Shared : Type 0 where
  -- it rises each time the server starts again after a crash
  pub generation : ℕ
  -- sessions may attach
  pub is_open : Bool
  -- why all children were told to end at once, if they were
  pub noticed : Option Reason
  pub children : List Child
  -- the greatest pid that was given so far
  pub last_pid : ℕ

pub record Supervisor : Type 0 where
  pub phase : Phase
  -- a crash is noted
  pub crash : Bool
  -- the shutdown request that stands
  pub request : Option Mode
  pub shared : Shared

-- before anything happened
abbrev pub first_shared : Shared
first_shared = record { generation = 1; is_open = false; noticed = None; children = []; last_pid = 0 }

abbrev pub first : Supervisor
first = record { phase = Init; crash = false; request = None; shared = first_shared }
