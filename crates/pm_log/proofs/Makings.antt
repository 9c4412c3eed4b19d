-- A write behind the gate of the file that doesn't count leaves the log as it is.
use Rattle.std.{proofs.{Common.{◌≡◌, ◌⊎◌, inl, inr, ℕ, ◌+◌, ◌≤◌, ◌<◌, List, [], ◌∷◌, length, sym, ◌∙◌, ap, subst, arith}, lemmas.{Bool.cases_lt, Option.same_Some}}, specs.Prelude.{slice_get, Option, Some, None, IfSome}}
use Rattle.pm_record.{specs.{pm_disk.{declared.disk.Which.Which, Files.{Files, file_of, other}, Disk.{TellsStill, Torn}}, OnDisk.{FollowsWithin, GoesOn, Rests, Throughout}, Pair.{IsShut, MeansIn}, StandsFor.{Content, StandsFor, standing_of}}, proofs.GateLaws.other-other}
use Rattle.pm_log.{specs.{Log.Lives, Making.TornBehind, declared.log.Log.Log}, proofs.Steps.means_shut}

-- a file that was shut stays so
first_stays : (old new : List ℕ) (at count : ℕ) → 1 ≤ at → IsShut old → length old ≤ length new
    → ((i : ℕ) → i < length old → (i < at) ⊎ (at + count ≤ i) → slice_get new i ≡ slice_get old i) → IsShut new
first_stays old [] at count le shut longer same = absurd (omega (arith, ap (λ (l : List ℕ). length l) shut.1))
first_stays old (x ∷ new) at count le shut longer same =
    let first : slice_get (x ∷ new) 0 ≡ slice_get (0 ∷ shut.0) 0 =
    subst (λ (l : List ℕ). slice_get (x ∷ new) 0 ≡ slice_get l 0) shut.1 (same 0 (omega (arith, ap (λ (l : List ℕ). length l) shut.1)) (inl (omega arith))) in
    (new, ap (λ (z : ℕ). z ∷ new) (same_Some x 0 first))

module _ (file : Which) (content : Content) (end from to : ℕ) (files : Files) (before now : ℕ → Files → Type 0) (rests : Rests file content end files (before from))
    (stops : FollowsWithin (TornBehind (other file)) from to before now) where
  stays : (t : ℕ) → from ≤ t → t ≤ to → (image : Files) → now t image → (file_of image file ≡ file_of files file) × IsShut (file_of image (other file))
  stays t le ge image there =
      let e = stops t le ge image there in
      let torn = e.2.3 in (
        subst (λ (w : Which). file_of image w ≡ file_of (e.0) w) (other-other file) torn.beside ∙ rests.durable e.0 e.1,
        first_stays (file_of (e.0) (other file)) (file_of image (other file)) e.2.0 e.2.1 e.2.2 (rests.beside e.0 e.1) torn.no_shorter torn.outside,
      )

  -- at every tick a stop leaves the same rows and count
  pub making_stops : Throughout from to now (λ image. MeansIn image (standing_of content) (end + 1))
  making_stops t le ge image there =
      let s = stays t le ge image there in
      means_shut image file content end (subst (λ (l : List ℕ). StandsFor l content end) (sym s.0) rests.stands) s.1

  -- and the log rests where it did, whether the write has failed or not
  pub making_rests : (now_files : Files) → from ≤ to → file_of now_files file ≡ file_of files file → Rests file content end now_files (now to)
  making_rests now_files le same = record {
    stands = subst (λ (l : List ℕ). StandsFor l content end) (sym same) rests.stands;
    durable = λ image there. (stays to le (omega arith) image there).0 ∙ sym same;
    beside = λ image there. (stays to le (omega arith) image there).1;
  }

-- ---- the calls of a step

-- calls that write, and then calls that don't
pub within_then_still : (change : Files → Files → Type 0) (from mid to : ℕ) (before between now : ℕ → Files → Type 0) → FollowsWithin change from mid before between → from ≤ mid
    → FollowsWithin (λ earlier image. image ≡ earlier) mid to between now → GoesOn mid to between now → FollowsWithin change from to before now
within_then_still change from mid to before between now wrote le still goes = λ t later ge image is. elim (cases_lt mid t) [
  | inl past ↦
      let e = still t (omega arith) ge image is in
      let f = wrote mid le (omega arith) e.0 e.1 in
      (f.0, f.1, subst (λ (i : Files). change f.0 i) (sym e.2) f.2)
  | inr early ↦ wrote t later early image ((goes.past t early image).0 is)
]

-- a write at a place behind the gate
pub behind : (file w : Which) (at count from to : ℕ) (before now : ℕ → Files → Type 0) → 1 ≤ at → w ≡ file → FollowsWithin (Torn w at count) from to before now
    → FollowsWithin (TornBehind file) from to before now
behind file w at count from to before now le is stops = λ t later ge image there.
    let e = stops t later ge image there in
    (e.0, e.1, (at, count, le, subst (λ (f : Which). Torn f at count (e.0) image) is e.2))

-- ---- where the disk tells its files

pub told_stops : (seen : Option Files) (log : Log) (from to : ℕ) (i k : ℕ → Files → Type 0) → FollowsWithin (TornBehind (other log.file)) from to i k
    → IfSome seen (λ files. (content : Content) → Lives log content files (i from) → Throughout from to k (λ image. MeansIn image (standing_of content) (log.end + 1)))
told_stops None log from to i k stops = tt
told_stops (Some files) log from to i k stops = λ content lives. making_stops log.file content log.end from to files i k lives.rests stops

-- nothing was done
pub told_still : (seen : Option Files) (log : Log) (tick : ℕ) (i : ℕ → Files → Type 0)
    → IfSome seen (λ files. (content : Content) → Lives log content files (i tick) → Throughout tick tick i (λ image. MeansIn image (standing_of content) (log.end + 1)))
told_still None log tick i = tt
told_still (Some files) log tick i = λ content lives t le ge image there.
    let same : t ≡ tick = omega arith in
    let its = subst (λ (n : ℕ). i n image) same there in
    means_shut image log.file content log.end (subst (λ (l : List ℕ). StandsFor l content log.end) (sym (lives.rests.durable image its)) lives.rests.stands) (lives.rests.beside image its)

pub told_lives : (seen now : Option Files) (log : Log) (from to : ℕ) (i k : ℕ → Files → Type 0) → FollowsWithin (TornBehind (other log.file)) from to i k → from ≤ to
    → TellsStill (λ files now. file_of now log.file ≡ file_of files log.file) seen now
    → TellsStill (λ files now. (content : Content) → Lives log content files (i from) → Lives log content now (k to)) seen now
told_lives None now log from to i k stops le same = same
told_lives (Some files) None log from to i k stops le same = same
told_lives (Some files) (Some now) log from to i k stops le same = λ content lives. record {
  unbroken = lives.unbroken;
  epoch = lives.epoch;
  base_end = lives.base_end;
  count = lives.count;
  rests = making_rests log.file content log.end from to files i k lives.rests stops now le same;
}
