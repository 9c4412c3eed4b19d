use Rattle.pm_supervisor.{specs.Steps.empty_trace, proofs.Soundness.{sound-step, sound-all_happened, sound-empty_trace}}
use Rattle.pm_supervisor.proofs.laws.stays_sound.Goals as goal

pub returns : goal.returns
returns c =
    record {
      step = sound-step;
      runs = λ limits events run. sound-all_happened limits empty_trace events run (sound-empty_trace limits.max_connections);
    }
