use Rattle.std.{proofs.{Common.{◌≡◌, Option, Some, None, refl, ◌∙◌, rules, tests}, lemmas.Iterator.{YieldsList-from_slice, Consumers.YieldsList-from_copied, Search.find_from_yields_List}}, specs.Option.option_map}
use Rattle.pm_settings.specs.Names.{is_named, all_settings, setting_named}
use Rattle.pm_settings.proofs.setting.Setting.named.Goals as goal

itself : {A : Type 0} (found : Option A) → found ≡ option_map (λ x. x) found
itself None = refl
itself (Some x) = refl

pub returns : goal.returns
unfolding setting_named
returns c = itself c.find.result ∙ find_from_yields_List (is_named c.args.name.now) _ _ c.find.result c.find.ensures.ran (YieldsList-from_copied (YieldsList-from_slice all_settings (cc))) (λ x b q k. search (rules, tests))
