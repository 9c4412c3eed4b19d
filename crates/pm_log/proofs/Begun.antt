-- A file that is being made, from its beginning to the switch.
use Rattle.std.{proofs.{Common.{◌≡◌, inl, ℕ, ◌+◌, ◌^◌, ◌<◌, false, List, [], ◌∷◌, ◌++◌, length, drop, refl, sym, ◌∙◌, ap, subst, arith, append-nil}, lemmas.List.{drop_at, Elements.All-drop}}, specs.Prelude.{All, Option, Some, None, IfSome}}
use Rattle.std.specs.FinMap as map
use Rattle.pm_record.specs.{pm_disk.{Disk.TellsStill, declared.disk.Which.Which, Files.{Files, file_of, other}}, pm_rows.{declared.commit.Change.Change, Batch.IsBatch, Fold.RowMap, Limits.IsWithinRowLimits, Standing.Standing}, OnDisk.Throughout, Spelling.base_bytes, StandsFor.{Content, IsContent, IsRow, MayFollow, base_of, checkpointed, commits_of, standing_of}}
use Rattle.pm_log.{specs.{Append.MeansOneOf, Change.{HasChanged, IsMade, KeepsChanging}, Half.Half, Log.{Lives}, Making.{HasSwitched, IsReady, Makes, MayBegin, base_in, begun, with_batches}, declared.log.Log.Log}, proofs.{BatchLaws.{all_of, commits_with, standing-with}, Checkpoints.checkpointed_is, Fronts.MayFollow-after, Lists.first_byte, Steps.means_now}}

-- ---- the beginning

-- nothing is made, and nothing was appended
pub makes_begun : (log : Log) (rows : RowMap) (content : Content) (files : Files) → All IsRow (map.entries rows) → IsWithinRowLimits rows → log.epoch + 1 < 2 ^ 64
    → MayBegin log rows content files → Makes (begun log rows) log.file log.end content files
makes_begun log rows content files each whole small may =
    let s = may.stands in
    let beside = first_byte (file_of files (other log.file)) may.beside in
    let base = base_bytes (log.epoch + 1) false log.count rows in record {
      began = content;
      later = [];
      content_is = ap (λ (l : List (List (List Change))). record content { batches = l }) (sym (append-nil content.batches));
      limits = checkpointed_is content false rows may.rows_are each whole s.limits (omega (arith, small, may.epoch));
      epoch_is = omega (arith, may.epoch);
      base_is = ap (λ (e : ℕ). 1 ∷ base_bytes (e + 1) false log.count rows) may.epoch
          ∙ ap (λ (n : ℕ). 1 ∷ base_bytes (content.epoch + 1) false n rows) may.count
          ∙ ap (λ (r : RowMap). 1 ∷ base_bytes (content.epoch + 1) false (standing_of content).count r) may.rows_are;
      front = s.front;
      since = [];
      rest = 0 ∷ s.free;
      file_is = s.parts;
      from_is = s.place;
      end_is = omega (arith, s.place);
      batches = refl;
      gate = beside.0;
      made = [];
      left = base;
      free = beside.1;
      whole = append-nil (1 ∷ base);
      beside = beside.2;
      done_is = omega arith;
    }

-- ---- the end

-- the next content: the base of all that stood when it began, and the batches since
abbrev pub next_of : Content → List (List (List Change)) → Content
next_of began later = record (checkpointed began false) { batches = later }

next_is : (began : Content) (later : List (List (List Change))) → IsContent (checkpointed began false) → IsContent (with_batches began later) → IsContent (next_of began later)
next_is began later base whole = record {
  epoch = base.epoch;
  rows = base.rows;
  batches = subst (All IsBatch) (drop_at began.batches later (length began.batches) refl) (All-drop IsBatch (length began.batches) (began.batches ++ later) whole.batches);
  follows = MayFollow-after (base_of began) (commits_of began) (all_of later) (subst (MayFollow (base_of began)) (commits_with began later) whole.follows);
}

pub is_made : (half : Half) (file : Which) (end : ℕ) (content : Content) (files : Files) (images : Files → Type 0) → IsContent content
    → (r : IsReady half file end content files images) → IsMade file content (next_of r.makes.began r.makes.later) half.done files images
is_made half file end content files images kept r =
    let m = r.makes in
    let next = next_of m.began m.later in
    let made_is : m.made ≡ base_in next ++ m.since =
    sym (append-nil m.made) ∙ ap (λ (l : List ℕ). m.made ++ l) (sym r.nothing_left)
    ∙ ap (λ (l : List ℕ). drop 1 l) (sym m.whole) ∙ ap (λ (l : List ℕ). drop 1 (l ++ m.since)) m.base_is in
    record {
      gate = m.gate;
      made = m.made;
      free = r.behind;
      there = m.beside ∙ ap (λ (l : List ℕ). m.gate ∷ (m.made ++ l)) r.closed;
      opens = λ gate free is_open. record {
        front = gate ∷ m.made;
        free = free;
        parts = refl;
        place = omega (arith, m.done_is);
        spelled = record { gate = gate; behind = m.since; is_open = is_open; parts = ap (λ (l : List ℕ). gate ∷ l) made_is; batches = m.batches };
        limits = next_is m.began m.later m.limits (subst IsContent m.content_is kept);
      };
      durable = r.durable;
      same = sym (ap (λ (c : Content). standing_of c) m.content_is ∙ standing-with m.began m.later);
      later = omega (arith, ap (λ (c : Content). c.epoch) m.content_is);
    }

-- a switch leaves the same rows and count
pub switch_stops : (before : Option Files) (log : Log) (half : Half) (from to : ℕ) (i k : ℕ → Files → Type 0) → IfSome before (λ files. KeepsChanging log.file files from to i k)
    → IfSome before (λ files. (content : Content) → Lives log content files (i from) → IsReady half log.file log.end content files (i from)
    → Throughout from to k (MeansOneOf (standing_of content) (log.end + 1) (standing_of content) (half.done + 1)))
switch_stops None log half from to i k keeps = tt
switch_stops (Some files) log half from to i k keeps = λ content lives ready.
    keeps content (next_of ready.makes.began ready.makes.later) log.end half.done lives.rests (is_made half log.file log.end content files (i from) lives.rests.stands.limits ready)

-- nothing was done
pub switch_still : (before : Option Files) (log : Log) (half : Half) (tick : ℕ) (i : ℕ → Files → Type 0)
    → IfSome before (λ files. (content : Content) → Lives log content files (i tick) → IsReady half log.file log.end content files (i tick)
    → Throughout tick tick i (MeansOneOf (standing_of content) (log.end + 1) (standing_of content) (half.done + 1)))
switch_still None log half tick i = tt
switch_still (Some files) log half tick i = λ content lives ready t le ge image there.
    let same : t ≡ tick = omega arith in
    inl (means_now log.file content log.end files (i tick) lives.rests image (subst (λ (n : ℕ). i n image) same there))

-- the log as it goes on in the file that was made
abbrev pub log_there : Log → Half → Which → Log
log_there log half file = record { file = file; epoch = half.epoch; base_end = length half.base; end = half.done; count = log.count; limit = log.limit; since = None; making = None }

pub switch_lives : (before now : Option Files) (log new : Log) (half : Half) (i k : Files → Type 0) → TellsStill (λ files now. HasChanged log.file files now i k) before now
    → new ≡ log_there log half (other log.file)
    → TellsStill (λ files now. (content : Content) → Lives log content files i → IsReady half log.file log.end content files i → HasSwitched new content now k) before now
switch_lives None now log new half i k changed is_new = changed
switch_lives (Some files) None log new half i k changed is_new = changed
switch_lives (Some files) (Some now) log new half i k changed is_new = λ content lives ready.
    let m = ready.makes in
    let next = next_of m.began m.later in
    let made = is_made half log.file log.end content files i lives.rests.stands.limits ready in
    let rests = changed content next log.end half.done lives.rests made in record {
      next = next;
      same = made.same;
      epoch = omega (arith, ap (λ (c : Content). c.epoch) m.content_is);
      unclean = refl;
      lives = rw is_new (record {
        unbroken = refl;
        epoch = m.epoch_is;
        base_end = omega (arith, ap length m.base_is);
        count = lives.count ∙ sym (ap (λ (s : Standing). s.count) made.same);
        rests = rests;
      });
    }

-- its fields once it has changed
abbrev pub log_with : Log → Which → ℕ → ℕ → ℕ → Option ℕ → Log
log_with log file epoch base end since = record { file = file; epoch = epoch; base_end = base; end = end; count = log.count; limit = log.limit; since = since; making = None }

pub log_moved : (log : Log) (half : Half) (file : Which) (epoch base end : ℕ) (since : Option ℕ) → file ≡ other log.file → epoch ≡ half.epoch → base ≡ length half.base → end ≡ half.done → since ≡ None
    → log_with log file epoch base end since ≡ log_there log half (other log.file)
log_moved log half file epoch base end since is one two three none =
    ap (λ (w : Which). log_with log w epoch base end since) is ∙ ap (λ (n : ℕ). log_with log (other log.file) n base end since) one
    ∙ ap (λ (n : ℕ). log_with log (other log.file) half.epoch n end since) two ∙ ap (λ (n : ℕ). log_with log (other log.file) half.epoch (length half.base) n since) three
    ∙ ap (λ (s : Option ℕ). log_with log (other log.file) half.epoch (length half.base) half.done s) none
