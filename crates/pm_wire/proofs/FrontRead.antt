-- From what the reader computes to what it promises.
use Rattle.std.proofs.{Common.{◌≡◌, ◌≢◌, ℕ, ◌<◌, ◌≤◌, ◌++◌, List, length, take, ◌↔◌, refl, sym, ap, subst, ◌∙◌, arith}, lemmas.List.{length-append, take_at}}
use Rattle.pm_wire.{specs.{declared.{front.Front.Front, take.{Take.{Take, TheVariants.{Whole, Short, Bad}}, WireFault.TheVariants.{BadLength, BadForm}}}, Taking.IfWhole, Frontend.{FrontMessage, IsFront, IsUndecided, Wants, BeginsBadly, front_message}, Reading.{seen_by, front_of}, Numbers.IsBytes}, proofs.FrontLaws.{Begins, IsSound, front_again, bad_again, front_sound, wants_short, wants_more}}

-- the reader's answer is what the bytes begin with
pub record Reads (r : Take Front) (bytes : List ℕ) : Type 0 where
  pub is : seen_by front_message r ≡ front_of bytes
  pub fits : IsBytes bytes

sound : (r : Take Front) (bytes : List ℕ) → Reads r bytes → IsSound bytes (seen_by front_message r)
sound r bytes h = subst (IsSound bytes) (sym h.is) (front_sound bytes h.fits)

pub whole_is : (r : Take Front) (bytes : List ℕ) → Reads r bytes → IfWhole r (λ value used. (used ≤ length bytes) × IsFront (take used bytes) (front_message value))
whole_is (Whole value used) bytes h =
    let begins : Begins bytes (front_message value) used = sound (Whole value used) bytes h in
    let front : take used bytes ≡ begins.spelled = ap (take used) begins.parts ∙ take_at begins.spelled begins.rest used (sym begins.size) in
    (omega (arith, ap length begins.parts, length-append begins.spelled begins.rest, begins.size), subst (λ (s : List ℕ). IsFront s (front_message value)) (sym front) begins.is)
whole_is (Short wanted) bytes h = tt
whole_is (Bad fault) bytes h = tt

pub every_is : (r : Take Front) (bytes : List ℕ) → Reads r bytes → (spelled rest : List ℕ) (m : FrontMessage) → IsFront spelled m → bytes ≡ spelled ++ rest → seen_by front_message r ≡ Whole m (length spelled)
every_is r bytes h spelled rest m is parts = h.is ∙ ap front_of parts ∙ front_again m spelled rest is

bad_seen : (r : Take Front) (seen : ℕ) → seen_by front_message r ≡ Bad (BadLength seen) → r ≡ Bad (BadLength seen)
bad_seen (Whole value used) seen e = absurd cc
bad_seen (Short wanted) seen e = absurd cc
bad_seen (Bad fault) seen e = cc

bad_begins : (r : Take Front) (bytes : List ℕ) → Reads r bytes → (seen : ℕ) → r ≡ Bad (BadLength seen) → BeginsBadly bytes seen
bad_begins r bytes h seen bad =
    let s = subst (λ (x : Take Front). IsSound bytes (seen_by front_message x)) bad (sound r bytes h) in
    let same : s.0 ≡ seen = cc in
    subst (λ (n : ℕ). BeginsBadly bytes n) same s.2

pub bad_is : (r : Take Front) (bytes : List ℕ) → Reads r bytes → (seen : ℕ) → (r ≡ Bad (BadLength seen)) ↔ BeginsBadly bytes seen
bad_is r bytes h seen = (bad_begins r bytes h seen, λ begins. bad_seen r seen (h.is ∙ ap front_of begins.2 ∙ bad_again begins.0 begins.1 seen begins.3))

pub never_bad_form : (r : Take Front) (bytes : List ℕ) → Reads r bytes → (at : ℕ) → r ≢ Bad (BadForm at)
never_bad_form r bytes h at bad =
    let s = subst (λ (x : Take Front). IsSound bytes (seen_by front_message x)) bad (sound r bytes h) in
    let no : BadForm at ≡ BadLength s.0 = s.1 in
    cc

is_undecided : (bytes : List ℕ) (wanted : ℕ) → front_of bytes ≡ Short wanted → IsUndecided bytes
is_undecided bytes wanted short = record {
  no_message = λ spelled rest m parts is. let whole = ap front_of parts ∙ front_again m spelled rest is in cc;
  no_fault = λ seen begins. let bad = ap front_of begins.2 ∙ bad_again begins.0 begins.1 seen begins.3 in cc;
}

decided : (r : Take Front) (bytes : List ℕ) → Reads r bytes → IsUndecided bytes → (wanted : ℕ) × (r ≡ Short wanted)
decided (Whole value used) bytes h undecided =
    let begins : Begins bytes (front_message value) used = sound (Whole value used) bytes h in
    absurd (undecided.no_message begins.spelled begins.rest (front_message value) begins.parts begins.is)
decided (Short wanted) bytes h undecided = (wanted, refl)
decided (Bad fault) bytes h undecided =
    let s = sound (Bad fault) bytes h in
    absurd (undecided.no_fault s.0 s.2)

pub undecided_is : (r : Take Front) (bytes : List ℕ) → Reads r bytes → IsUndecided bytes ↔ ((wanted : ℕ) × (r ≡ Short wanted))
undecided_is r bytes h = (decided r bytes h, λ short. is_undecided bytes short.0 (sym h.is ∙ ap (seen_by front_message) short.1))

short_seen : (r : Take Front) (wanted : ℕ) → seen_by front_message r ≡ Short wanted → r ≡ Short wanted
short_seen (Whole value used) wanted e = absurd cc
short_seen (Short other) wanted e = cc
short_seen (Bad fault) wanted e = absurd cc

short_wants : (r : Take Front) (bytes : List ℕ) → Reads r bytes → (wanted : ℕ) → r ≡ Short wanted → Wants bytes wanted
short_wants r bytes h wanted e = subst (λ (x : Take Front). IsSound bytes (seen_by front_message x)) e (sound r bytes h)

pub short_is : (r : Take Front) (bytes : List ℕ) → Reads r bytes → (wanted : ℕ) → (r ≡ Short wanted) ↔ Wants bytes wanted
short_is r bytes h wanted = (short_wants r bytes h wanted, λ wants. short_seen r wanted (h.is ∙ wants_short bytes wanted wants))

pub least_is : (r : Take Front) (bytes : List ℕ) → Reads r bytes → (wanted : ℕ) (more : List ℕ) → r ≡ Short wanted → length (bytes ++ more) < wanted → IsUndecided (bytes ++ more)
least_is r bytes h wanted more e few = is_undecided (bytes ++ more) wanted (wants_short (bytes ++ more) wanted (wants_more bytes more wanted (short_wants r bytes h wanted e) few))
