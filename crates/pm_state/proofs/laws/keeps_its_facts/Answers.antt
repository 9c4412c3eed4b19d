use Rattle.pm_state.{specs.Shows.events_of_call, proofs.{Calls.{call-leads, call-between, begun-facts, accept-decision, counted}, Known.known}}
use Rattle.pm_state.proofs.laws.keeps_its_facts.Goals as goal

pub returns : goal.returns
returns c =
    let laws = c.stays_well.ensures in
    let between = c.takes_child_steps_between.ensures in
    record {
      begins = λ limits. record { facts = begun-facts limits; well = laws.begins limits };
      run = λ limits m h call holds fit. (call-leads limits m h call holds.facts holds.well fit).run;
      kept = λ limits m h call holds fit. record {
        facts = (call-leads limits m h call holds.facts holds.well fit).facts;
        well = laws.runs limits h (events_of_call m call) (call-leads limits m h call holds.facts holds.well fit).run holds.well;
      };
      run_between = λ limits m h call events holds fit same may.
          (call-between between limits m h call events holds.facts holds.well fit same may).run;
      kept_between = λ limits m h call events holds fit same may. record {
        facts = (call-between between limits m h call events holds.facts holds.well fit same may).facts;
        well = laws.runs limits h events (call-between between limits m h call events holds.facts holds.well fit same may).run holds.well;
      };
      known = known;
      decision = λ limits m s facts may. accept-decision limits m s may facts;
      counted = λ limits m s pid kind facts there. counted limits m s pid kind facts there;
    }
