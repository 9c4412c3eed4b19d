-- Lemmas on spans of device calls, for the proofs of callers.
use Rattle.std.proofs.{Common.{◌≡◌, ℕ, List, refl, subst, arith, inl, inr}, lemmas.Bool.cases_lt}
use Rattle.pm_disk.specs.{declared.disk.Which.{Which, TheVariants.{A, B}}, Files.{Files, file_of, other, with_file}, Disk.{Elapses, Follows, StopsNoWider, Torn}}
use Rattle.pm_record.specs.OnDisk.{FollowsWithin, GoesOn}

pub file_with : (files : Files) (file : Which) (bytes : List ℕ) → file_of (with_file files file bytes) file ≡ bytes
file_with files A bytes = refl
file_with files B bytes = refl

pub beside_with : (files : Files) (file : Which) (bytes : List ℕ) → file_of (with_file files file bytes) (other file) ≡ file_of files (other file)
beside_with files A bytes = refl
beside_with files B bytes = refl

pub Torn-none : (file : Which) (at count : ℕ) (files : Files) → Torn file at count files files
Torn-none file at count files = record { no_shorter = omega arith; outside = λ i within outside. refl; beside = refl }

pub within_call : (change : Files → Files → Type 0) (from to : ℕ) (before now : ℕ → Files → Type 0) → ((files : Files) → change files files)
    → Elapses from to before now → Follows change (before from) (now to) → FollowsWithin change from to before now
within_call change from to before now none time follows = λ t le ge image is. elim (cases_lt from t) [
  | inl later ↦
      let tick = time.tick in
      let last : t ≡ to = omega arith in
      follows image (subst (λ (n : ℕ). now n image) last is)
  | inr first ↦
      let same : t ≡ from = omega arith in
      (image, subst (λ (n : ℕ). before n image) same ((time.past t first image).0 is), none image)
]

pub within_sync : (change : Files → Files → Type 0) (from mid to : ℕ) (before between now : ℕ → Files → Type 0) → ((files : Files) → change files files)
    → Elapses from mid before between → Follows change (before from) (between mid) → Elapses mid to between now → StopsNoWider (between mid) (now to)
    → FollowsWithin change from to before now
within_sync change from mid to before between now none first follows second no_wider = λ t le ge image is. elim (cases_lt mid t) [
  | inl later ↦
      let tick = second.tick in
      let last : t ≡ to = omega arith in
      follows image (no_wider image (subst (λ (n : ℕ). now n image) last is))
  | inr early ↦ within_call change from mid before between none first follows t le early image ((second.past t early image).0 is)
]

pub goes_one : (from to : ℕ) (before now : ℕ → Files → Type 0) → Elapses from to before now → GoesOn from to before now
goes_one from to before now time = record { later = time.later; past = time.past }

pub goes_two : (from mid to : ℕ) (before between now : ℕ → Files → Type 0) → GoesOn from mid before between → GoesOn mid to between now → GoesOn from to before now
goes_two from mid to before between now first second = record {
  later = (let a = first.later in let b = second.later in omega arith);
  past = λ t le image. (let a = first.later in let s = second.past t (omega arith) image in let f = first.past t le image in ((λ h. f.0 (s.0 h)), (λ h. s.1 (f.1 h))));
}
