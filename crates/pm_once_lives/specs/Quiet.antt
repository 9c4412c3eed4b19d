-- What a quiet life tells: it was never given a signal, and the gate can have let it into its generation alone.
use Rattle.std.specs.{Prelude.{false, option_map, [], Ok}, Option.option_to_list}
use Rattle.pm_child_life.specs.Life.{Child, Told, attempt}
use Rattle.pm_once_lives.specs.declared.quiet.Quiet.{Quiet}

abbrev pub quiet_child : {H : Type 0} {g : _} → Quiet H g → Child
quiet_child life = record { pid = life.pid; is_dead_end = false; attached = life.attached }

abbrev pub quiet_told : {H : Type 0} {g : _} → Quiet H g → Told
quiet_told life = record {
  asked = life.asked;
  given = [];
  met = option_map (λ is_ordinary. attempt is_ordinary (Ok life.generation)) life.came_as_ordinary;
  cancels = option_to_list life.asked_cancel;
}
