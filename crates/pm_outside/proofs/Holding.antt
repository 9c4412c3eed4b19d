-- A port whose holds were looked at.
use Rattle.std.proofs.Common.{◌≡◌, ◌⊎◌, inl, inr, ◌≤◌, List, [], ◌∷◌, length, refl, ap, sym, ◌∙◌, arith}
use Rattle.pm_outside.specs.{Holds.{IsFree, LetsGo, holds_left}, MemPort.{PassesHolds, links_given, port_holds, scripts_left}, declared.{link_script.LinkScript.LinkScript, mem_port.MemPort.MemPort}}

-- where a script is left, its link may be given
pub free_link : (old now : MemPort) (script : LinkScript) (rest : List LinkScript) → PassesHolds old now → scripts_left now ≡ script ∷ rest
    → (scripts_left old ≡ script ∷ rest) × LetsGo (holds_left (port_holds old)) (holds_left (port_holds now)) × IsFree (holds_left (port_holds now)) (links_given old)
free_link old now script rest passes is = elim passes [ inl free ↦ (sym free.0 ∙ is, free.1, free.2) | inr vain ↦ absurd (omega (arith, ap length (sym is ∙ vain.0))) ]

-- where none is left, the end may be given
pub free_end : (old now : MemPort) → PassesHolds old now → scripts_left now ≡ [] → (scripts_left old ≡ []) ⊎ (10000 ≤ (port_holds old).asks)
free_end old now passes is = elim passes [ inl free ↦ inl (sym free.0 ∙ is) | inr vain ↦ inr vain.1 ]

pub none_left : (scripts : List LinkScript) → length scripts ≡ 0 → scripts ≡ []
none_left [] is = refl
none_left (script ∷ scripts) is = absurd (omega (arith, is))
