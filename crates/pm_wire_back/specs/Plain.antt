-- Which messages reading gives.
use Rattle.pm_wire.specs.declared.back.Back.{Back}
use Rattle.pm_wire.specs.declared.back.Back.TheVariants as sent

-- A message by its fields: one of the table of texts and codes is an error or a notice then.
abbrev pub IsPlain : Back → Type 0
IsPlain (sent.Told condition) = ⊥
IsPlain _ = Unit {0}
