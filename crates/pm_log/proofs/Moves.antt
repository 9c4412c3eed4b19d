-- What a stop leaves of a log over the device calls of a checkpoint: the base of the other file is written, and then the
-- log changes to that file.
use Rattle.std.{proofs.{Common.{◌≡◌, inl, inr, ℕ, ◌+◌, ◌-◌, Bool, List, [], ◌∷◌, ◌++◌, length, drop, refl, ◌∙◌, ap, subst, arith, length-append, append_assoc}, lemmas.Bool.cases_lt}, specs.Prelude.{Option, Some, None, IfSome}}
use Rattle.pm_record.{specs.{pm_disk.{declared.disk.Which.Which, Files.{Files, file_of, other, overwritten}, Disk.{Only, TellsStill, Torn}}, Calls.file_with, OnDisk.{FollowsWithin, GoesOn, Rests}, Pair.IsShut, Spelling.base_bytes, StandsFor.{Content, IsContent, checkpointed, standing_of}}, proofs.GateLaws.{same_standing, written_at}}
use Rattle.pm_log.{specs.{Append.MeansOneOf, Change.{HasChanged, IsMade, KeepsChanging}, Move.{HasMoved, IsBase, KeepsMoving}}, proofs.{Halves.log_stays, Lists.over, Makings.{behind, making_rests, making_stops}, Wrote.{Wrote, base_stands}}}

-- the disk tells what a stop may leave
abbrev pub Reads : Option Files → (Files → Type 0) → Type 0
Reads seen images = IfSome seen images

module _ (file : Which) (content : Content) (clean : Bool) (bytes : List ℕ) (files : Files) (limits : IsContent (checkpointed content clean))
    (spelled : IsBase bytes (checkpointed content clean)) where
  abbrev pub next : Content
  next = checkpointed content clean

  abbrev pub base : List ℕ
  base = base_bytes next.epoch next.clean next.base_count next.base_rows

  abbrev pub till : ℕ
  till = 1 + length base

  pub till_is : till + 1 ≡ length bytes
  till_is = omega (arith, ap length spelled, length-append base (0 ∷ []))

  -- once the base is written, the other file is made
  pub is_based : (images : Files → Type 0) → IsShut (file_of files (other file))
      → Only (other file) (file_of (written_at (other file) 1 (drop 1 bytes) files) (other file)) images
      → IsMade file content next till (written_at (other file) 1 (drop 1 bytes) files) images
  is_based images shut only =
      let free = drop (length (drop 1 bytes)) shut.0 in record {
        gate = 0;
        made = base;
        free = free;
        there = file_with files (other file) (overwritten (file_of files (other file)) 1 (drop 1 bytes))
            ∙ ap (λ (l : List ℕ). overwritten l 1 (drop 1 bytes)) shut.1 ∙ over (0 ∷ []) shut.0 (drop 1 bytes)
            ∙ ap (λ (l : List ℕ). 0 ∷ (drop 1 l ++ free)) spelled ∙ ap (λ (l : List ℕ). 0 ∷ l) (append_assoc base (0 ∷ []) free);
        opens = λ gate free is_open. base_stands next gate free refl is_open limits;
        durable = only;
        same = same_standing _ _ _ _ refl (omega arith);
        later = omega arith;
      }

-- ---- where the disk tells its files

-- the base is being written
pub keeps_base : (before : Option Files) (file next : Which) (count from to : ℕ) (bytes : List ℕ) (i j : ℕ → Files → Type 0) → next ≡ other file
    → FollowsWithin (Torn next 1 count) from to i j → IfSome before (λ files. KeepsMoving file bytes files from to i j)
keeps_base None file next count from to bytes i j is stops = tt
keeps_base (Some files) file next count from to bytes i j is stops = λ content clean end rests limits spelled t le ge image there.
    inl (making_stops file content end from to files i j rests (behind (other file) next 1 count from to i j (omega arith) is stops) t le ge image there)

only_based : (files : Files) (mid : Option Files) (file : Which) (bytes : List ℕ) (images : Files → Type 0) → mid ≡ Some (written_at (other file) 1 (drop 1 bytes) files)
    → IfSome mid (λ f. Only (other file) (file_of f (other file)) images)
    → Only (other file) (file_of (written_at (other file) 1 (drop 1 bytes) files) (other file)) images
only_based files mid file bytes images written durable = subst (λ (m : Option Files). IfSome m (λ f. Only (other file) (file_of f (other file)) images)) written durable

-- it is written, and the log is changing to it
pub keeps_both : (before mid : Option Files) (file : Which) (from at to : ℕ) (bytes : List ℕ) (i j k : ℕ → Files → Type 0) → Reads before (i from)
    → Wrote (other file) 1 (drop 1 bytes) from at i j before mid → IfSome mid (λ files. KeepsChanging file files at to j k) → GoesOn at to j k
    → IfSome before (λ files. KeepsMoving file bytes files from to i k)
keeps_both None mid file from at to bytes i j k reads wrote keeps goes = tt
keeps_both (Some files) mid file from at to bytes i j k reads wrote keeps goes =
    let m = written_at (other file) 1 (drop 1 bytes) files in
    let changing = subst (λ (o : Option Files). IfSome o (λ f. KeepsChanging file f at to j k)) wrote.written keeps in
    let torn = behind (other file) (other file) 1 (length (drop 1 bytes)) from at i j (omega arith) refl wrote.stops in
    λ content clean end rests limits spelled t le ge image there. elim (cases_lt at t) [
      | inl past ↦
          let made = is_based file content clean bytes files limits spelled (j at) (rests.beside files reads) (only_based files mid file bytes (j at) wrote.written wrote.durable) in
          let its = making_rests file content end from at files i j rests torn m wrote.time.later (log_stays files file 1 (drop 1 bytes)) in
          subst (λ (n : ℕ). MeansOneOf (standing_of content) (end + 1) (standing_of content) n image) (till_is file content clean bytes files limits spelled)
          (changing content (checkpointed content clean) end (till file content clean bytes files limits spelled) its made t (omega arith) ge image there)
      | inr early ↦ inl (making_stops file content end from at files i j rests torn t le early image ((goes.past t early image).0 there))
    ]

pub has_moved : (before mid now : Option Files) (file : Which) (from at to : ℕ) (bytes : List ℕ) (i j k : ℕ → Files → Type 0) → Reads before (i from)
    → Wrote (other file) 1 (drop 1 bytes) from at i j before mid → TellsStill (λ files now. HasChanged file files now (j at) (k to)) mid now
    → TellsStill (λ files now. HasMoved file bytes files now (i from) (k to)) before now
has_moved None mid now file from at to bytes i j k reads wrote changed =
    subst (λ (o : Option Files). TellsStill (λ files now. HasChanged file files now (j at) (k to)) o now) wrote.written changed
has_moved (Some files) mid None file from at to bytes i j k reads wrote changed =
    subst (λ (o : Option Files). TellsStill (λ files now. HasChanged file files now (j at) (k to)) o None) wrote.written changed
has_moved (Some files) mid (Some now) file from at to bytes i j k reads wrote changed =
    let m = written_at (other file) 1 (drop 1 bytes) files in
    let moves = subst (λ (o : Option Files). TellsStill (λ files now. HasChanged file files now (j at) (k to)) o (Some now)) wrote.written changed in
    let torn = behind (other file) (other file) 1 (length (drop 1 bytes)) from at i j (omega arith) refl wrote.stops in
    λ content clean end rests limits spelled.
    let made = is_based file content clean bytes files limits spelled (j at) (rests.beside files reads) (only_based files mid file bytes (j at) wrote.written wrote.durable) in
    let its = making_rests file content end from at files i j rests torn m wrote.time.later (log_stays files file 1 (drop 1 bytes)) in
    let place : till file content clean bytes files limits spelled ≡ length bytes - 1 = omega (arith, till_is file content clean bytes files limits spelled) in
    subst (λ (n : ℕ). Rests (other file) (checkpointed content clean) n now (k to)) place
    (moves content (checkpointed content clean) end (till file content clean bytes files limits spelled) its made)
