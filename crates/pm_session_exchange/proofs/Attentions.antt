-- A cancel that is heeded or dropped.
use Rattle.std.proofs.{Common.{◌≡◌, ℕ, false, Option, None, Some, refl, subst, sym}, lemmas.Bool.true≢false}
use Rattle.pm_child_life.{specs.{declared.standing.Standing.Standing, Life.{Child, Told}, Attention.{Attention, attention, IsAttentive, Hears}}, proofs.AttentionLaws.{asked_none, gained_none, cancels_none}}

dropped : (told : Option Told) (child : Child) (standing : Standing) → IsAttentive (attention told child standing) → IsAttentive (attention told child (record standing { cancel = false }))
dropped None child standing stands = tt
dropped (Some told) child standing stands = record {
  kill = stands.kill;
  quit = stands.quit;
  quits = stands.quits;
  terminate = stands.terminate;
  cancel = λ e. absurd (true≢false (sym e));
  checkpoint = stands.checkpoint;
  asked = stands.asked;
}

-- a cancel that is heeded or dropped stands no more
pub hears_dropped : (told : Option Told) (child : Child) (standing : Standing) → Hears 0 (attention told child standing) (attention told child (record standing { cancel = false }))
hears_dropped told child standing = record {
  asked = asked_none told;
  child = refl;
  gained = gained_none told;
  cancels = cancels_none told;
  given = λ signal given. given;
  stands = dropped told child standing;
  kill = λ is. is;
  cancel = λ e. absurd (true≢false (sym e));
}

-- the same of a child that no call has touched since
pub hears_as : (times : ℕ) (before between now : Attention) → now ≡ between → Hears times before between → Hears times before now
hears_as times before between now same hears = subst (λ (at : Attention). Hears times before at) (sym same) hears

pub hears_from : (times : ℕ) (start before now : Attention) → before ≡ start → Hears times before now → Hears times start now
hears_from times start before now same hears = subst (λ (at : Attention). Hears times at now) same hears
