use Rattle.pm_state.proofs.{Promises.{arms, exit-keeps, keeps-moment, kills, quit-arms, readies, request-arms, request-keeps, startup-arms, step-orders, waits}, TurnPromises.turned-promises}
use Rattle.pm_state.proofs.laws.keeps_its_promises.Goals as goal

pub returns : goal.returns
returns c =
    record {
      arms = arms;
      arms_at_startup = startup-arms;
      arms_at_quit = quit-arms;
      request = request-arms;
      kept_at_end_of_startup = keeps-moment;
      kept_at_exit = exit-keeps;
      kept_at_request = request-keeps;
      turn = turned-promises;
      kills = kills;
      waits = waits;
      ready = readies;
      ready_first = step-orders;
    }
