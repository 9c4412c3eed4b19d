-- Where a client's stream fails.
use Rattle.std.proofs.Common.{◌≡◌, ℕ, List, ◌++◌, length, sym, ap, ◌∙◌, append_assoc}
use Rattle.pm_wire.{specs.{declared.take.{Take.TheVariants.{Whole, Bad}, WireFault.{WireFault, TheVariants.{BadLength, BadForm}}}, Frontend.IsFront, Reading.front_of, Stream.{HasNoMessage, FailsOnce, FailsForGood}, Failing.{FrontFails, place_of}}, proofs.{StreamLaws.{fails_once, fails_for_good}, FrontLaws.{front_again, bad_again}, Apart.front_apart}}

front_bad : (bytes : List ℕ) (f : WireFault) → FrontFails bytes f → front_of bytes ≡ Bad f
front_bad bytes (BadLength seen) h = ap front_of h.2 ∙ bad_again h.0 h.1 seen h.3
front_bad bytes (BadForm at) h = absurd h

front_none : (bytes : List ℕ) (f : WireFault) → FrontFails bytes f → HasNoMessage IsFront bytes
front_none bytes f h spelled after m is parts =
    let both : Bad f ≡ Whole m (length spelled) = sym (front_bad bytes f h) ∙ ap front_of parts ∙ front_again m spelled after is in
    cc

front_one : (bytes : List ℕ) (f g : WireFault) → FrontFails bytes f → FrontFails bytes g → f ≡ g
front_one bytes f g at_f at_g = let both = sym (front_bad bytes f at_f) ∙ front_bad bytes g at_g in cc

front_goes_on : (bytes more : List ℕ) (f : WireFault) → FrontFails bytes f → FrontFails (bytes ++ more) f
front_goes_on bytes more (BadLength seen) h = (h.0, h.1 ++ more, ap (λ (w : List ℕ). w ++ more) h.2 ∙ append_assoc h.0 h.1 more, h.3)
front_goes_on bytes more (BadForm at) h = absurd h

pub front_fails_once : FailsOnce IsFront FrontFails place_of
front_fails_once = fails_once IsFront FrontFails place_of front_apart front_none front_one

pub front_fails_for_good : FailsForGood IsFront FrontFails place_of
front_fails_for_good = fails_for_good IsFront FrontFails place_of front_goes_on
