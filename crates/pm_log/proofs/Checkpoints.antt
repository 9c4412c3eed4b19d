-- What the checkpoint of a log says, by what the move to the other file says.
use Rattle.std.{proofs.Common.{◌≡◌, inl, ℕ, ◌+◌, ◌-◌, ◌^◌, ◌<◌, Bool, List, [], ◌∷◌, ◌++◌, length, zero, suc, refl, ◌∙◌, ap, subst, arith, length-append}, specs.Prelude.{Option, Some, None, IfSome, All, take}}
use Rattle.std.specs.FinMap as map
use Rattle.pm_record.specs.{pm_rows.{Fold.{folded, RowMap}, Limits.IsWithinRowLimits}, pm_disk.{Disk.TellsStill, declared.disk.Which.Which, Files.{Files, other}}, Spelling.base_bytes, StandsFor.{Content, IsContent, IsRow, checkpointed, standing_of}, OnDisk.Throughout}
use Rattle.pm_log.{specs.{Append.MeansOneOf, Move.{HasMoved, IsBase, KeepsMoving}, Log.{Lives, base_length}, declared.log.Log.Log}, proofs.Steps.means_now}

-- a checkpoint of these rows leaves the same rows and count
abbrev pub KeepsStanding : Log → RowMap → Bool → ℕ → ℕ → (Files → Type 0) → (ℕ → Files → Type 0) → Files → Type 0
KeepsStanding log rows clean from to before now files =
    (content : Content) → Lives log content files before → rows ≡ (standing_of content).rows
    → Throughout from to now (MeansOneOf (standing_of content) (log.end + 1) (standing_of content) (base_length (checkpointed content clean) + 1))

pub checkpoint_still : (before : Option Files) (log : Log) (rows : RowMap) (clean : Bool) (tick : ℕ) (images : ℕ → Files → Type 0)
    → IfSome before (KeepsStanding log rows clean tick tick (images tick) images)
checkpoint_still None log rows clean tick images = tt
checkpoint_still (Some files) log rows clean tick images = λ content lives is t le ge image there.
    let same : t ≡ tick = omega arith in
    inl (means_now log.file content log.end files (images tick) lives.rests image (subst (λ (n : ℕ). images n image) same there))

-- the base of a checkpoint keeps the limits where its rows do
pub checkpointed_is : (content : Content) (clean : Bool) (rows : RowMap) → rows ≡ (standing_of content).rows → All IsRow (map.entries rows) → IsWithinRowLimits rows
    → IsContent content → content.epoch + 1 < 2 ^ 64 → IsContent (checkpointed content clean)
checkpointed_is content clean rows is each whole kept small = record {
  epoch = small;
  rows = subst (λ (r : RowMap). All IsRow (map.entries r)) is each;
  batches = λ k d lt. absurd (omega arith);
  follows = record {
    limits = λ n le. here n;
    number = omega (arith, kept.follows.number);
  };
}
  where
    here : (n : ℕ) → IsWithinRowLimits (folded (standing_of content).rows (take n []))
    here zero = subst IsWithinRowLimits is whole
    here (suc n) = subst IsWithinRowLimits is whole

base_is : (log : Log) (rows : RowMap) (clean : Bool) (bytes : List ℕ) (content : Content) (files : Files) (images : Files → Type 0)
    → bytes ≡ 1 ∷ (base_bytes (log.epoch + 1) clean log.count rows ++ (0 ∷ [])) → Lives log content files images → rows ≡ (standing_of content).rows → IsBase bytes (checkpointed content clean)
base_is log rows clean bytes content files images spelled lives is =
    spelled ∙ ap (λ (e : ℕ). 1 ∷ (base_bytes (e + 1) clean log.count rows ++ (0 ∷ []))) lives.epoch
    ∙ ap (λ (n : ℕ). 1 ∷ (base_bytes (content.epoch + 1) clean n rows ++ (0 ∷ []))) lives.count
    ∙ ap (λ (r : RowMap). 1 ∷ (base_bytes (content.epoch + 1) clean (standing_of content).count r ++ (0 ∷ []))) is

pub checkpoint_stops : (before : Option Files) (log : Log) (rows : RowMap) (clean : Bool) (bytes : List ℕ) (from to : ℕ) (i k : ℕ → Files → Type 0)
    → IfSome before (λ files. KeepsMoving log.file bytes files from to i k) → bytes ≡ 1 ∷ (base_bytes (log.epoch + 1) clean log.count rows ++ (0 ∷ [])) → log.epoch + 1 < 2 ^ 64
    → All IsRow (map.entries rows) → IsWithinRowLimits rows
    → IfSome before (KeepsStanding log rows clean from to (i from) k)
checkpoint_stops None log rows clean bytes from to i k keeps spelled small each whole = tt
checkpoint_stops (Some files) log rows clean bytes from to i k keeps spelled small each whole = λ content lives is.
    let limits = checkpointed_is content clean rows is each whole lives.rests.stands.limits (omega (arith, small, lives.epoch)) in
    let base = base_is log rows clean bytes content files (i from) spelled lives is in
    let next = checkpointed content clean in
    let long : length bytes ≡ base_length next + 1 = omega (arith, ap length base, length-append (base_bytes next.epoch next.clean next.base_count next.base_rows) (0 ∷ [])) in
    subst (λ (n : ℕ). Throughout from to k (MeansOneOf (standing_of content) (log.end + 1) (standing_of content) n)) long
    (keeps content clean log.end lives.rests limits base)

-- the log in the other file
abbrev pub LivesThere : Log → Log → RowMap → Bool → (Files → Type 0) → (Files → Type 0) → Files → Files → Type 0
LivesThere log new rows clean before now files files_now =
    (content : Content) → Lives log content files before → rows ≡ (standing_of content).rows
    → Lives new (checkpointed content clean) files_now now

pub checkpoint_lives : (before now : Option Files) (log new : Log) (rows : RowMap) (clean : Bool) (bytes : List ℕ) (i k : Files → Type 0)
    → TellsStill (λ files files_now. HasMoved log.file bytes files files_now i k) before now → bytes ≡ 1 ∷ (base_bytes (log.epoch + 1) clean log.count rows ++ (0 ∷ [])) → log.epoch + 1 < 2 ^ 64
    → All IsRow (map.entries rows) → IsWithinRowLimits rows
    → new ≡ record { file = other log.file; epoch = log.epoch + 1; base_end = length bytes - 1; end = length bytes - 1; count = log.count; limit = log.limit; since = None; making = None }
    → TellsStill (LivesThere log new rows clean i k) before now
checkpoint_lives None now log new rows clean bytes i k moved spelled small each whole is_new = moved
checkpoint_lives (Some files) None log new rows clean bytes i k moved spelled small each whole is_new = moved
checkpoint_lives (Some files) (Some files_now) log new rows clean bytes i k moved spelled small each whole is_new = λ content lives is.
    let limits = checkpointed_is content clean rows is each whole lives.rests.stands.limits (omega (arith, small, lives.epoch)) in
    let base = base_is log rows clean bytes content files i spelled lives is in
    let rests = moved content clean log.end lives.rests limits base in
    let next = checkpointed content clean in
    rw is_new (record {
      unbroken = refl;
      epoch = omega (arith, lives.epoch);
      base_end = omega (arith, ap length base, length-append (base_bytes next.epoch next.clean next.base_count next.base_rows) (0 ∷ []));
      count = omega (arith, lives.count);
      rests = rests;
    })

-- the log's fields once it has moved
abbrev pub log_at : Log → Which → ℕ → Option ℕ → Option ℕ → Log
log_at log file long since making = record { file = file; epoch = log.epoch + 1; base_end = long - 1; end = long - 1; count = log.count; limit = log.limit; since = since; making = making }

pub moved_log : (log : Log) (file next : Which) (long length : ℕ) (since making : Option ℕ) → file ≡ next → long ≡ length → since ≡ None → making ≡ None
    → log_at log file long since making ≡ log_at log next length None None
moved_log log file next long length since making is same none alone =
    ap (λ (w : Which). log_at log w long since making) is ∙ ap (λ (n : ℕ). log_at log next n since making) same ∙ ap (λ (s : Option ℕ). log_at log next length s making) none
    ∙ ap (λ (m : Option ℕ). log_at log next length None m) alone
