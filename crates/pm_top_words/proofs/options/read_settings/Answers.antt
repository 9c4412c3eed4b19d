use Rattle.std.{proofs.Common.{◌≡◌, subst}, specs.Prelude.{IfSome, IfNone}}
use Rattle.pm_top_words.specs.{declared.options.Settings.Settings, Words.Chosen, Options.{Leaves, chosen_of}}
use Rattle.pm_top_words.proofs.options.read_settings.Goals as goal

pub returns-clause-only : goal.returns-clause-only
returns-clause-only c =
    subst
    (λ before. IfSome c.read_on.result (λ (settings : Settings). (after : Chosen) → Leaves c.args.verb before c.args.words.now after → after ≡ chosen_of settings))
    c.new.ensures c.read_on.ensures.only

pub returns-clause-none : goal.returns-clause-none
returns-clause-none c =
    subst (λ before. IfNone c.read_on.result ((after : Chosen) → Leaves c.args.verb before c.args.words.now after → ⊥))
    c.new.ensures c.read_on.ensures.none
