-- What a child was told, from one moment to the next.
use Rattle.std.{proofs.Common.{◌≡◌, ℕ, ◌+◌, ◌≤◌, false, Option, None, Some, IfSome, Result, refl, sym, ◌∙◌, ap, subst, arith}, specs.Option.option_map}
use Rattle.pm_child_life.{specs.{declared.{life.GateNo.GateNo, standing.Standing.Standing}, Life.{Child, Told, nothing_told, attempt, met_at_gate, IsUntouched, IsUntried}, Attention.{Attention, attention, IsAttentive, HasAsked, Hears}}, proofs.AttentionLaws.{asked_none, asked_then, asked_fewer, attention_still}}
use Rattle.pm_aux.specs.Signals.{Listens}

pub listens_none : (at : Attention) → IsAttentive at → Listens 0 at at
listens_none at attentive = record { asked = asked_none at.told; child = refl; attentive = attentive }

pub listens_both : (m n : ℕ) (a b c : Attention) → Listens m a b → Listens n b c → Listens (m + n) a c
listens_both m n a b c one two = record {
  asked = asked_then m n a.told b.told c.told one.asked two.asked;
  child = two.child ∙ one.child;
  attentive = two.attentive;
}

pub listens_fewer : (m n : ℕ) (a b : Attention) → Listens (m + n) a b → Listens m a b
listens_fewer m n a b has = record { asked = asked_fewer m n a.told b.told has.asked; child = has.child; attentive = has.attentive }

pub heard : (times : ℕ) (a b : Attention) → Hears times a b → IsAttentive b → Listens times a b
heard times a b hears attentive = record { asked = hears.asked; child = hears.child; attentive = attentive }

-- one more ask after those before
pub listens_more : (a b c : Attention) → Listens 0 a b → Hears 1 b c → IsAttentive c → Listens 0 a c
listens_more a b c one hears attentive = listens_fewer 0 1 a c (listens_both 0 1 a b c one (heard 1 b c hears attentive))

-- a call of the store after that
pub listens_still : (times : ℕ) (before : Attention) (child_before child_now : Child) (told_before told_now : Option Told) (standing : Standing) → IsUntouched child_before child_now told_before told_now
    → Listens times before (attention told_before child_before standing) → Listens times before (attention told_now child_now standing)
listens_still times before child_before child_now told_before told_now standing same listens =
    subst (λ (at : Attention). Listens times before at) (sym (attention_still child_before child_now told_before told_now standing same)) listens

-- ---- at the start and at the gate

-- it has asked once at least, and this is what it has met at the gate
abbrev pub Tells : Option (Result ℕ GateNo) → Option Told → Type 0
Tells gate told = IfSome told (λ t. (1 ≤ t.asked) × (t.met ≡ option_map (attempt false) gate))

-- a child that has just started, after its first ask
pub asked_first : (before now : Option Told) → IfSome before (λ t. t ≡ nothing_told) → HasAsked 1 before now → Tells None now
asked_first None now is asked = let e : now ≡ None = asked in rw e tt
asked_first (Some before) None is asked = absurd asked
asked_first (Some before) (Some now) is asked =
    let none : before.asked ≡ 0 = ap (λ (t : Told). t.asked) is in
    (omega (arith, none, asked.0), asked.1 ∙ ap (λ (t : Told). t.met) is)

pub first_untried : (told : Option Told) → Tells None told → IsUntried told
first_untried None tells = tt
first_untried (Some told) tells = tells.1

pub met_gate : (answer : Result ℕ GateNo) (before now : Option Told) → now ≡ option_map (met_at_gate (attempt false answer)) before → Tells None before → Tells (Some answer) now
met_gate answer None now is tells = rw is tt
met_gate answer (Some before) now is tells = rw is (tells.0, refl)

pub tells_still : (gate : Option (Result ℕ GateNo)) (before now : Option Told) → HasAsked 0 before now → Tells gate before → Tells gate now
tells_still gate None now asked tells = let e : now ≡ None = asked in rw e tt
tells_still gate (Some before) None asked tells = absurd asked
tells_still gate (Some before) (Some now) asked tells = (omega (arith, tells.0, asked.0), asked.1 ∙ tells.1)

pub tells_asked : (gate : Option (Result ℕ GateNo)) (told : Option Told) → Tells gate told → IfSome told (λ t. 1 ≤ t.asked)
tells_asked gate None tells = tt
tells_asked gate (Some told) tells = tells.0

pub tells_met : (gate : Option (Result ℕ GateNo)) (told : Option Told) → Tells gate told → IfSome told (λ t. t.met ≡ option_map (attempt false) gate)
tells_met gate None tells = tt
tells_met gate (Some told) tells = tells.1
