use Rattle.std.proofs.Common.{List}
use Rattle.pm_supervisor.specs.{declared.Limits.Limits, Steps.empty_trace, Laws.StaysWell}
use Rattle.pm_state.{specs.{Machine.begun, Shows.{Call, AreFit, events_in, machine_at_end}}, proofs.{Turns.Leads, Calls.{calls-lead, begun-facts}}}
use Rattle.pm_state.proofs.laws.shows_a_supervisor.Goals as goal

leads : StaysWell → (limits : Limits) (calls : List Call) → AreFit limits (begun limits) empty_trace calls
    → Leads limits empty_trace (events_in (begun limits) calls) (machine_at_end (begun limits) calls)
leads laws limits calls fit = calls-lead laws limits (begun limits) empty_trace calls (begun-facts limits) (laws.begins limits) fit

pub returns : goal.returns
returns c =
    let laws = c.stays_well.ensures in
    record {
      run = λ limits calls fit. (leads laws limits calls fit).run;
      shown = λ limits calls fit. (leads laws limits calls fit).facts.shows;
      sound = λ limits calls fit.
          c.stays_sound.ensures.runs limits (events_in (begun limits) calls) (leads laws limits calls fit).run;
    }
