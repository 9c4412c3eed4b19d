-- Where a stream of the server's messages fails.
use Rattle.std.proofs.{Common.{◌≡◌, ℕ, ◌+◌, ◌-◌, ◌^◌, ◌<◌, List, ◌∷◌, ◌++◌, length, sym, ap, subst, ◌∙◌, inl, inr, append_assoc, arith}, lemmas.List.length-append}
use Rattle.byteorder.specs.Endian.{big_number}
use Rattle.pm_wire.{specs.{declared.take.WireFault.{WireFault, TheVariants.{BadLength, BadForm}}, Pieces.int32, Backend.{body, IsBack}, Stream.{HasNoMessage, FailsOnce, FailsForGood}, Failing.place_of, Numbers.{length_int32, number_again}}, proofs.StreamLaws.{fails_once, fails_for_good}}
use Rattle.pm_wire_back.{specs.{Received.{HasNoSuchLength, DepartsHere}, Failing.BackFails}, proofs.{Exact.{DepartsAt, front_cases, departed, same_place}, Bodies.same_first, BackLaws.view, BackAgain.back_apart}}

departs_is : (bytes : List ℕ) (at : ℕ) → DepartsHere bytes at → DepartsAt IsBack bytes (length bytes - at)
departs_is bytes at h = record {
  front = h.front;
  byte = h.byte;
  behind = h.behind;
  parts = h.parts;
  size = omega (arith, h.place, ap length h.parts, length-append h.front (h.byte ∷ h.behind));
  goes_on = h.goes_on;
  stuck = h.stuck;
}

-- two spellings of a number in four bytes
same_number : (a b : ℕ) (x y : List ℕ) → a < 2 ^ 32 → b < 2 ^ 32 → int32 a ++ x ≡ int32 b ++ y → a ≡ b
same_number a b x y fits also e = sym (number_again a x fits) ∙ ap (big_number 4) e ∙ number_again b y also

back_none : (bytes : List ℕ) (f : WireFault) → BackFails bytes f → HasNoMessage IsBack bytes
back_none bytes (BadForm at) h spelled after m is parts = departed IsBack back_apart bytes spelled after m (length bytes - at) is parts (departs_is bytes at h)
back_none bytes (BadLength seen) h spelled after m is parts =
    let v = view spelled m is in
    let n = 4 + length (body m) in
    let cells : h.kind ∷ (int32 seen ++ h.rest) ≡ v.kind ∷ (int32 n ++ (body m ++ after)) =
    sym h.parts ∙ parts ∙ ap (λ (w : List ℕ). w ++ after) v.parts ∙ ap (λ (w : List ℕ). v.kind ∷ w) (append_assoc (int32 n) (body m) after) in
    let kinds : h.kind ≡ v.kind = same_first h.kind v.kind _ _ cells in
    let tail : int32 seen ++ h.rest ≡ int32 n ++ (body m ++ after) = (let e = cells in cc) in
    let same : seen ≡ n = same_number seen n h.rest (body m ++ after) h.fits (omega (arith, v.short)) tail in
    let whole : spelled ≡ h.kind ∷ (int32 seen ++ body m) =
    v.parts ∙ ap (λ (k : ℕ). k ∷ (int32 n ++ body m)) (sym kinds) ∙ ap (λ (k : ℕ). h.kind ∷ (int32 k ++ body m)) (sym same) in
    h.none (body m) m (subst (λ (w : List ℕ). IsBack w m) whole is)

-- no bytes have a length that none has, and a byte with which none goes on
never_both : (bytes : List ℕ) (seen at : ℕ) → HasNoSuchLength bytes seen → DepartsHere bytes at → ⊥
never_both bytes seen at p q =
    elim q.outside [
      | inl none ↦
          let first : p.kind ≡ q.byte = same_first p.kind q.byte _ _ (sym p.parts ∙ q.parts ∙ ap (λ (w : List ℕ). w ++ q.byte ∷ q.behind) none) in
          let known : IsBack (q.byte ∷ p.known.0) p.known.1 = subst (λ (k : ℕ). IsBack (k ∷ p.known.0) p.known.1) first p.known.3 in
          q.stuck p.known.0 p.known.1 (subst (λ (w : List ℕ). IsBack (w ++ q.byte ∷ p.known.0) p.known.1) (sym none) known)
      | inr long ↦
          elim (front_cases q.front (p.kind ∷ int32 seen) q.behind p.rest q.byte (sym q.parts ∙ p.parts)) [
            | inl h ↦ absurd (omega (arith, long, ap length h.1, length-append q.front (q.byte ∷ h.0), length_int32 seen))
            | inr h ↦
                let whole : q.front ++ q.goes_on.0 ≡ p.kind ∷ (int32 seen ++ (h.0 ++ q.goes_on.0)) =
                ap (λ (w : List ℕ). w ++ q.goes_on.0) h.1 ∙ ap (λ (w : List ℕ). p.kind ∷ w) (append_assoc (int32 seen) h.0 q.goes_on.0) in
                p.none (h.0 ++ q.goes_on.0) q.goes_on.1 (subst (λ (w : List ℕ). IsBack w q.goes_on.1) whole q.goes_on.3)
          ]
    ]

back_one : (bytes : List ℕ) (f g : WireFault) → BackFails bytes f → BackFails bytes g → f ≡ g
back_one bytes (BadLength a) (BadLength b) p q =
    let tail : int32 a ++ p.rest ≡ int32 b ++ q.rest = (let e = sym p.parts ∙ q.parts in cc) in
    ap BadLength (same_number a b p.rest q.rest p.fits q.fits tail)
back_one bytes (BadLength a) (BadForm at) p q = absurd (never_both bytes a at p q)
back_one bytes (BadForm at) (BadLength b) p q = absurd (never_both bytes b at q p)
back_one bytes (BadForm a) (BadForm b) p q =
    let left = same_place IsBack back_apart bytes (length bytes - a) (length bytes - b) (departs_is bytes a p) (departs_is bytes b q) in
    let same : a ≡ b =
    omega (arith, left, p.place, q.place, ap length p.parts, ap length q.parts, length-append p.front (p.byte ∷ p.behind), length-append q.front (q.byte ∷ q.behind)) in
    ap BadForm same

back_goes_on : (bytes more : List ℕ) (f : WireFault) → BackFails bytes f → BackFails (bytes ++ more) f
back_goes_on bytes more (BadLength seen) h = record {
  kind = h.kind;
  rest = h.rest ++ more;
  parts = ap (λ (w : List ℕ). w ++ more) h.parts ∙ ap (λ (w : List ℕ). h.kind ∷ w) (append_assoc (int32 seen) h.rest more);
  fits = h.fits;
  known = h.known;
  none = h.none;
}
back_goes_on bytes more (BadForm at) h = record {
  front = h.front;
  byte = h.byte;
  behind = h.behind ++ more;
  parts = ap (λ (w : List ℕ). w ++ more) h.parts ∙ append_assoc h.front (h.byte ∷ h.behind) more;
  place = h.place;
  outside = h.outside;
  goes_on = h.goes_on;
  stuck = h.stuck;
}

pub back_fails_once : FailsOnce IsBack BackFails place_of
back_fails_once = fails_once IsBack BackFails place_of back_apart back_none back_one

pub back_fails_for_good : FailsForGood IsBack BackFails place_of
back_fails_for_good = fails_for_good IsBack BackFails place_of back_goes_on
