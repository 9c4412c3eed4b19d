-- What the life tells of one that is asked for the last checkpoint: its first ask gave it that signal, no ask gave it another,
-- and the gate can have let it into its generation alone.
use Rattle.std.specs.{Prelude.{false, cond, option_map, [], ◌∷◌, Ok}, Option.option_to_list}
use Rattle.pm_child_life.specs.Life.{Child, Told, Checkpoint, attempt}
use Rattle.pm_once_lives.specs.declared.asked.Asked.{Asked}

abbrev pub asked_child : {H : Type 0} {g : _} → Asked H g → Child
asked_child life = record { pid = life.pid; is_dead_end = false; attached = life.attached }

abbrev pub asked_told : {H : Type 0} {g : _} → Asked H g → Told
asked_told life = record {
  asked = life.asked;
  given = cond life.is_told ((1, Checkpoint) ∷ []) [];
  met = option_map (λ is_ordinary. attempt is_ordinary (Ok life.generation)) life.came_as_ordinary;
  cancels = option_to_list life.asked_cancel;
}
