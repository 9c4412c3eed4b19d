use Rattle.std.proofs.Common.{◌≡◌, true, sym, subst}
use Rattle.pm_settings.{specs.Names.is_taken, proofs.Tellings.{taken_small}}
use Rattle.pm_settings.proofs.settings.Settings.set.Goals as goal

pub tell-requires : goal.tell-requires
tell-requires c = taken_small c.args.setting c.in_ok-value.value (subst (λ value. is_taken c.args.setting value ≡ true) c.as_str.ensures.bytes (sym c.if-not-fits.ensures))
