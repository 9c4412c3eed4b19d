-- The options of a line stay within what a server can have.
use Rattle.std.{proofs.Common.{◌≡◌, ℕ, ◌+◌, ◌≤◌, List, [], ◌∷◌, Option, None, Some, inr, sym, subst, arith}, specs.{Option.option_map, Prelude.unwrap_or}}
use Rattle.pm_state.specs.pm_supervisor.Limits.{IsWithinLimits}
use Rattle.pm_top_words.specs.{pm_server.declared.conf.Conf.Conf, declared.words.{Command.Command, Verb.{Verb, TheVariants.{Initdb, Once, Serve, Controldata, Workload}}}, Words.{Choice, Data, Port, MaxConnections, SuperuserReserved, RestartAfterCrash, AuthenticationTimeout, Number, Choose, Chosen, IsLineWith, Says, command_of, nothing, with_choice}}
use Rattle.pm_top_words.specs.declared.words.Command.TheVariants as command

-- from one to 200 connections were asked for
abbrev IsFew : Chosen → Type 0
IsFew chosen = (1 ≤ unwrap_or chosen.max_connections 20) × (unwrap_or chosen.max_connections 20 ≤ 200)

few_with : (choice : Choice) (value : List ℕ) (before : Chosen) → Says choice value → IsFew before → IsFew (with_choice choice before)
few_with (Data dir) value before says few = few
few_with (Port port) value before says few = few
few_with (Number number) value before says few = few
few_with (MaxConnections count) value before says few = (says.from_least, says.to_most)
few_with (SuperuserReserved count) value before says few = few
few_with (RestartAfterCrash restarts) value before says few = few
few_with (AuthenticationTimeout seconds) value before says few = few

few_chosen : (verb : Verb) (before : Chosen) (choices : List Choice) (words : List (List ℕ)) (after : Chosen)
    → Choose verb before choices words after → IsFew before → IsFew after
few_chosen verb before [] words after chose few = subst IsFew (sym chose.1) few
few_chosen verb before (choice ∷ choices) words after chose few =
    let spelled = chose.3 in
    few_chosen verb (with_choice choice before) choices chose.1 after chose.5
    (few_with choice spelled.0 before spelled.1 few)

few_in : (words : List (List ℕ)) (command : Command) (dir : List ℕ) (conf : Conf) (line : IsLineWith words command dir conf) → IsFew line.chosen
few_in words command dir conf line = few_chosen line.verb nothing line.choices line.options line.chosen line.choose (omega arith, omega arith)

pub some : (words : List (List ℕ)) (command : Command) (dir : List ℕ) (conf : Conf) → IsLineWith words command dir conf
    → 1 ≤ conf.limits.max_connections + conf.limits.max_worker_processes
some words command dir conf line =
    let few : IsFew line.chosen = few_in words command dir conf line in
    subst (λ (c : Conf). 1 ≤ c.limits.max_connections + c.limits.max_worker_processes) (sym line.conf_is) (omega (arith, few.0))

pub within : (words : List (List ℕ)) (command : Command) (dir : List ℕ) (conf : Conf) → IsLineWith words command dir conf
    → IsWithinLimits conf.limits
within words command dir conf line =
    let few : IsFew line.chosen = few_in words command dir conf line in
    record {
      few = subst (λ (c : Conf). c.limits.max_connections + c.limits.max_worker_processes ≤ 200) (sym line.conf_is) (omega (arith, few.1));
      leaves = inr line.reserves;
    }

-- not more queries were asked for than a workload may have
abbrev IsLow : Chosen → Type 0
IsLow chosen = unwrap_or chosen.number 0 ≤ 100000

low_with : (choice : Choice) (value : List ℕ) (before : Chosen) → Says choice value → IsLow before → IsLow (with_choice choice before)
low_with (Data dir) value before says low = low
low_with (Port port) value before says low = low
low_with (MaxConnections count) value before says low = low
low_with (SuperuserReserved count) value before says low = low
low_with (RestartAfterCrash restarts) value before says low = low
low_with (AuthenticationTimeout seconds) value before says low = low
low_with (Number number) value before says low = says.to_most

low_chosen : (verb : Verb) (before : Chosen) (choices : List Choice) (words : List (List ℕ)) (after : Chosen) → Choose verb before choices words after → IsLow before → IsLow after
low_chosen verb before [] words after chose low = subst IsLow (sym chose.1) low
low_chosen verb before (choice ∷ choices) words after chose low =
    let spelled = chose.3 in
    low_chosen verb (with_choice choice before) choices chose.1 after chose.5 (low_with choice spelled.0 before spelled.1 low)

no_port : (given : Option ℕ) (number : ℕ) → option_map command.Serve given ≡ Some (command.Workload number) → ⊥
no_port None number is = cc
no_port (Some given) number is = cc

works : (given : Option ℕ) (number : ℕ) → option_map command.Workload given ≡ Some (command.Workload number) → unwrap_or given 0 ≡ number
works None number is = absurd cc
works (Some given) number is = cc

asked : (verb : Verb) (chosen : Chosen) (number : ℕ) → command_of verb chosen ≡ Some (command.Workload number) → unwrap_or chosen.number 0 ≡ number
asked Initdb chosen number is = absurd cc
asked Once chosen number is = absurd cc
asked Serve chosen number is = absurd (no_port chosen.port number is)
asked Controldata chosen number is = absurd cc
asked Workload chosen number is = works chosen.number number is

pub number_within : (words : List (List ℕ)) (number : ℕ) (dir : List ℕ) (conf : Conf) → IsLineWith words (command.Workload number) dir conf → number ≤ 100000
number_within words number dir conf line =
    let low : IsLow line.chosen = low_chosen line.verb nothing line.choices line.options line.chosen line.choose (omega arith) in
    omega (arith, low, asked line.verb line.chosen number line.asks)
