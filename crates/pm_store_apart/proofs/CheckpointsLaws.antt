-- What a checkpoint keeps.
use Rattle.std.{proofs.{Common.{◌≡◌, Bool, true, false, ◌||◌, ◌⊎◌, inl, inr, ℕ, ◌+◌, ◌-◌, ◌≤◌, List, [], ◌∷◌, ◌++◌, length, Option, None, Some, refl, sym, ◌∙◌, ap, subst, arith, length-append}, Math.{Logic.{∥∥₁_map, ∥∥₁_elim}, Bridge.le_prop, Bool.{or-false, or-true}}}, specs.Prelude.{IfSome, is_some, max}}
use Rattle.pm_query.{specs.{pm_disk.{Disk.TellsStill, Files.{Files, file_of, other}}, pm_rows.{declared.commit.Change.Change, Fold.{RowMap, folded}, Standing.Standing}, declared.book.BookEntry.{BookEntry, TheVariants.{CheckpointEnded}}, Book.{Base, ends_checkpoint, ends_cleanly, history_after, history_of, kept_by_redo, present}, TickLaws.{PastStays, PresentIsWhole}, Calls.due_bytes}}
use Rattle.pm_record.{proofs.GateLaws.{same_standing}, specs.{Pair.{IsShut}, Spelling.base_bytes, StandsFor.{AreBatches, Content, StandsFor, checkpointed, standing_of}, OnDisk.{Throughout}}}
use Rattle.pm_log.specs.{Append.MeansOneOf, Log.{Lives, base_length}, declared.log.Log.Log}
use Rattle.pm_store_apart.{specs.{declared.live.Live.Live, Moment.Moment, MovesLaws.{ahead_still, time_still, unread_still}, Redos.StandsAfresh, Rests.{HasRows, Rests}, Moves.{Moves}, Stands.{HasHeld, MeansWithin, Origin, bytes_of_rows}}, proofs.{Books.{any_push, any_still, attended_still, breaks_push, renewed_push, waited_push}, Lengths.base_size, Remaking.StaysWithin, StepsLaws.{Attends, attends_in, gone_unread, held_alone, no_fault_shown, nobody_moves, waited_on}}}
use Rattle.pm_outside.specs.Added.{Added}

-- how long the log is at most while it moves: as it stands, or as a base of its rows
abbrev pub while_moving : Live → RowMap → ℕ
while_moving live rows = max (live.log.end + 1) (bytes_of_rows rows)

-- the log, whatever file is made beside it
abbrev pub unmade : Log → Log
unmade log = record log { making = None }

pub lives_unmade : (its : Log) (content : Content) (files : Files) (images : Files → Type 0) → Lives its content files images → Lives (unmade its) content files images
lives_unmade its content files images lives = record { unbroken = lives.unbroken; epoch = lives.epoch; base_end = lives.base_end; count = lives.count; rests = lives.rests }

-- ---- one that is left out

-- the moment with another book, after a checkpoint that was left out
abbrev pub with_skip : Option (List BookEntry) → Moment → Moment
with_skip book at = record {
  book = book;
  generation = at.generation;
  inside = at.inside;
  rows = at.rows;
  live = at.live;
  skipped = true;
  commits = at.commits;
  staged = at.staged;
  files = at.files;
  images = at.images;
  ticks = at.ticks;
  faults = at.faults;
}

-- what a stop leaves is as it was
held_skip : PastStays → PresentIsWhole → (origin : Origin) (base : Base) (at : Moment) (book_now : Option (List BookEntry)) (book : List BookEntry) (pid : ℕ) (clean : Bool)
    → history_after (kept_by_redo book) (history_of base book) (CheckpointEnded pid false clean) ≡ history_of base book → HasHeld origin base at book
    → HasHeld origin base (with_skip book_now at) (book ++ CheckpointEnded pid false clean ∷ [])
held_skip past present_whole origin base at book_now book pid clean alone held =
    let still = held_alone past present_whole origin base at book (CheckpointEnded pid false clean) alone (λ start mark. tt) (λ t. refl) held in record {
      start = still.start;
      begun = still.begun;
      opening = still.opening;
      mark = still.mark;
      mark_is = still.mark_is;
      flushed = still.flushed;
      flushed_is = still.flushed_is;
      keeps = still.keeps;
      lengths = still.lengths;
      anchored = still.anchored;
    }

pub skips : PastStays → PresentIsWhole → (at : Moment) (book_now : Option (List BookEntry)) (pid : ℕ) (clean : Bool) → at.live ≡ None → Attends pid at.book → Added (CheckpointEnded pid false clean ∷ []) at.book book_now
    → Moves (CheckpointEnded pid false clean ∷ []) at (with_skip book_now at)
skips past present_whole at book_now pid clean unread inside notes =
    let entry : BookEntry = CheckpointEnded pid false clean in record {
      spans = record {
        notes = notes;
        time = time_still at.ticks at.images;
        later = omega arith;
        counts = λ from counted. record { counted = counted; each = no_fault_shown from at.faults entry tt };
        waits = λ origin told. inl (waited_on (entry ∷ []) at (with_skip book_now at) origin notes (λ none. none) (λ book is waited.
            waited_push origin (with_skip book_now at) book entry waited.unread waited.begun (attended_still at.inside book entry (λ who n. refl) waited.attended) waited.legal waited.fresh waited.no_redo waited.unredone waited.none_here waited.no_ticks tt
            (λ base same. record { attached = attends_in pid at.book book is inside; made = sym (ap is_some waited.unredone) })
            (λ base. refl) waited.generation refl refl
            (any_push ends_checkpoint (present book) entry at.skipped true waited.skipped refl ∙ or-true at.skipped) (any_still ends_cleanly (present book) entry false waited.unclosed refl)
            (λ start mark. tt) waited.no_time waited.no_needs waited.counted.later waited.counted.each waited.reached
            (breaks_push book (entry ∷ []) (at.files ≡ origin.files) waited.reads)) (λ book seen tells waited opening. opening) told);
        goes_on = λ origin base told. gone_unread (entry ∷ []) at (with_skip book_now at) origin base unread refl notes (λ none. none)
            (λ book is sure renewed held. inr (renewed_push base at (with_skip book_now at) book entry renewed.unread refl (attended_still at.inside book entry (λ who n. refl) renewed.attended) tt
            (record { attached = attends_in pid at.book book is inside; made = sym (ap is_some renewed.unredone) }) (λ n. refl) refl refl
            (any_push ends_checkpoint (present book) entry at.skipped true renewed.skipped refl ∙ or-true at.skipped) (any_still ends_cleanly (present book) entry false renewed.unclosed refl)
            refl renewed.in_time renewed.counted.later renewed.counted.each renewed))
            (λ book seen tells renewed held. held_skip past present_whole origin base at book_now book pid clean (ap (λ (r : Option ℕ). history_after r (history_of base book) entry) renewed.unredone) held) told;
      };
      generation = refl;
      commits = refl;
      attends = nobody_moves (entry ∷ []) at (with_skip book_now at) refl (λ who n. refl);
      unread = unread_still (entry ∷ []) at (with_skip book_now at) refl refl refl;
      staged = λ front is. is;
      flushed = λ front is. is;
      began = λ first is. is;
      ahead = λ many is. ahead_still (entry ∷ []) many at.live refl is;
    }

-- ---- what the log's checkpoint says, for rows and count

-- the files mean these rows and this number, in at most so many bytes
means_same : (one two : Standing) (bytes more : ℕ) (image : Files) → one ≡ two → MeansOneOf one bytes one more image → MeansWithin (max bytes more) image two
means_same one two bytes more image same (inl m) = subst (λ (s : Standing). MeansWithin (max bytes more) image s) same (bytes, omega arith, m)
means_same one two bytes more image same (inr m) = subst (λ (s : Standing). MeansWithin (max bytes more) image s) same (more, omega arith, m)

abbrev pub StopsSame : Log → RowMap → Bool → ℕ → ℕ → (Files → Type 0) → (ℕ → Files → Type 0) → Files → Type 0
StopsSame its rows clean from to before now files =
    (content : Content) → Lives its content files before → rows ≡ (standing_of content).rows
    → Throughout from to now (MeansOneOf (standing_of content) (its.end + 1) (standing_of content) (base_length (checkpointed content clean) + 1))

pub through_same : (seen : Option Files) (live : Live) (rows : RowMap) (staged : List (List Change)) (clean : Bool) (from to : ℕ) (i k : ℕ → Files → Type 0) → staged ≡ []
    → IfSome seen (StopsSame (unmade live.log) rows clean from to (i from) k) → IfSome seen (StaysWithin live rows staged (while_moving live rows) from to (i from) k)
through_same None live rows staged clean from to i k none stops = tt
through_same (Some files) live rows staged clean from to i k none stops = λ h t le ge image there.
    let moved = checkpointed h.content clean in
    let one = standing_of h.content in
    let bare : rows ≡ one.rows = h.rows_are ∙ ap (λ (l : List (List Change)). folded one.rows l) none in
    let long : base_length moved + 1 ≡ bytes_of_rows rows = omega (arith, base_size moved.epoch moved.clean moved.base_count moved.base_rows, ap bytes_of_rows bare) in
    ∣ subst (λ (n : ℕ). MeansWithin (max (live.log.end + 1) n) image one) long
    (means_same one one (live.log.end + 1) (base_length moved + 1) image refl (stops h.content (lives_unmade live.log h.content files (i from) h.lives) bare t le ge image there)) ∣₁

-- a base with nothing after it ends where the file does
pub bare_end : (bytes : List ℕ) (content : Content) (end : ℕ) → StandsFor bytes content end → content.batches ≡ [] → end ≡ base_length content
bare_end bytes content end log bare =
    let spelled = log.spelled in
    let nothing : spelled.behind ≡ [] = subst (AreBatches spelled.behind) bare spelled.batches in
    omega (
      arith,
      log.place,
      ap length spelled.parts,
      length-append (base_bytes content.epoch content.clean content.base_count content.base_rows) spelled.behind,
      ap length nothing,
    )

-- a checkpoint of a clean log is a clean one: no other is due
was_clean : (clean : Bool) (live : Live) (rows : RowMap) (files : Files) (images : Files → Type 0) → (clean ≡ true) ⊎ (due_bytes ≤ live.log.end - live.log.base_end) → HasRows live rows [] files images
    → live.closed || clean ≡ true → clean ≡ true
was_clean true live rows files images due h closed = refl
was_clean false live rows files images (inl is) h closed = is
was_clean false live rows files images (inr far) h closed =
    let its = (h.closed (sym (or-false live.closed) ∙ closed)).0 in
    absurd (omega (arith, far, bare_end (file_of files live.log.file) h.content live.log.end h.lives.rests.stands its.bare, h.lives.base_end))

abbrev pub LivesThere : Live → Live → RowMap → Bool → (Files → Type 0) → (Files → Type 0) → Files → Files → Type 0
LivesThere live new rows clean before now files files_now =
    (content : Content) → Lives (unmade live.log) content files before → rows ≡ (standing_of content).rows → Lives new.log (checkpointed content clean) files_now now

pub rests_moved : (seen now : Option Files) (live new : Live) (rows : RowMap) (clean : Bool) (before behind : Files → Type 0) → (clean ≡ true) ⊎ (due_bytes ≤ live.log.end - live.log.base_end) → new.closed ≡ live.closed || clean
    → ∥ Rests (Some live) rows [] seen before ∥₁ → live.log.since ≡ None → TellsStill (LivesThere live new rows clean before behind) seen now → ∥ Rests (Some new) rows [] now behind ∥₁
rests_moved seen now live new rows clean before behind due closed rests unbroken lives = ∥∥₁_map rests (λ r whole. each seen now (r unbroken) lives)
  where
    each : (seen now : Option Files) → IfSome seen (λ files. HasRows live rows [] files before) → TellsStill (LivesThere live new rows clean before behind) seen now → IfSome now (λ files. HasRows new rows [] files behind)
    each None now r lives = subst (λ (f : Option Files). IfSome f (λ files. HasRows new rows [] files behind)) (sym lives) tt
    each (Some files) None r lives = absurd lives
    each (Some files) (Some files_now) h lives = record {
      content = checkpointed h.content clean;
      lives = lives h.content (lives_unmade live.log h.content files before h.lives) h.rows_are;
      rows_are = h.rows_are;
      limits = h.limits;
      closed = λ is. (record { clean = was_clean clean live rows files before due h (sym closed ∙ is); bare = refl }, refl);
    }

-- a clean log stands for its rows afresh
stands_clean : (live : Live) (rows : RowMap) (staged : List (List Change)) (files : Files) (images : Files → Type 0) → images files → live.closed ≡ true → live.front ≡ live.log.count + length staged
    → HasRows live rows staged files images → StandsAfresh live.log.epoch true live rows files
stands_clean live rows staged files images there closed fronts h =
    let its = (h.closed closed).0 in
    let whole : live.front ≡ live.log.count = omega (arith, fronts, ap length (h.closed closed).1) in
    let bare : rows ≡ (standing_of h.content).rows = h.rows_are ∙ ap (λ (l : List (List Change)). folded (standing_of h.content).rows l) (h.closed closed).1 in record {
      content = h.content;
      stands = h.lives.rests.stands;
      beside = h.lives.rests.beside files there;
      epoch_is = sym h.lives.epoch;
      clean_is = its.clean;
      no_batch = its.bare;
      is = same_standing _ _ _ _ (sym bare) (sym h.lives.count ∙ sym whole);
    }

pub clean_stands : (seen : Option Files) (known : Option Live) (live : Live) (rows : RowMap) (staged : List (List Change)) (images : Files → Type 0) → ∥ Rests known rows staged seen images ∥₁ → IfSome known (λ its. its.front ≡ its.log.count + length staged) → IfSome seen images
    → known ≡ Some live → live.closed ≡ true → live.log.since ≡ None → IfSome seen (λ files. ∥ StandsAfresh live.log.epoch true live rows files ∥₁)
clean_stands None known live rows staged images rests fronts reads read closed whole = tt
clean_stands (Some files) known live rows staged images rests fronts reads read closed whole =
    ∥∥₁_map (subst (λ (l : Option Live). ∥ Rests l rows staged (Some files) images ∥₁) read rests) (λ r. stands_clean live rows staged files images reads closed (subst (λ (o : Option Live). IfSome o (λ its. its.front ≡ its.log.count + length staged)) read fronts) (r whole))

-- the files stand for the rows afresh
pub stands_afresh : (seen now : Option Files) (live new : Live) (rows : RowMap) (epoch : ℕ) (clean : Bool) (before behind : Files → Type 0) → ∥ Rests (Some live) rows [] seen before ∥₁ → live.log.since ≡ None
    → TellsStill (LivesThere live new rows clean before behind) seen now → IfSome now behind → new.log.epoch ≡ epoch → new.front ≡ new.log.count
    → IfSome now (λ files. ∥ StandsAfresh epoch clean new rows files ∥₁)
stands_afresh None now live new rows epoch clean before behind rests unbroken lives reads same whole =
    subst (λ (f : Option Files). IfSome f (λ files. ∥ StandsAfresh epoch clean new rows files ∥₁)) (sym lives) tt
stands_afresh (Some files) None live new rows epoch clean before behind rests unbroken lives reads same whole = tt
stands_afresh (Some files) (Some files_now) live new rows epoch clean before behind rests unbroken lives reads same whole = ∥∥₁_map rests (λ r.
    let h = r unbroken in
    let its = lives h.content (lives_unmade live.log h.content files before h.lives) h.rows_are in
    record {
      content = checkpointed h.content clean;
      stands = its.rests.stands;
      beside = its.rests.beside files_now reads;
      epoch_is = sym its.epoch ∙ same;
      clean_is = refl;
      no_batch = refl;
      is = same_standing _ _ _ _ (sym h.rows_are) (sym its.count ∙ sym whole);
    })

-- the other file isn't empty
pub gate_other : (seen : Option Files) (live : Live) (rows : RowMap) (staged : List (List Change)) (images : Files → Type 0) → ∥ Rests (Some live) rows staged seen images ∥₁ → live.log.since ≡ None → IfSome seen images
    → IfSome seen (λ files. 1 ≤ length (file_of files (other live.log.file)))
gate_other None live rows staged images rests unbroken reads = tt
gate_other (Some files) live rows staged images rests unbroken reads =
    ∥∥₁_elim rests (hlevel le_prop) (λ r. let h = r unbroken in shut_within (file_of files (other live.log.file)) (h.lives.rests.beside files reads))
  where
    shut_within : (bytes : List ℕ) → IsShut bytes → 1 ≤ length bytes
    shut_within bytes shut = omega (arith, ap length shut.1)
