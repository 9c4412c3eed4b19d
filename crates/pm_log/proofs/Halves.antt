-- A file that is being made, over a step, and over an append beside it.
use Rattle.std.{proofs.{Common.{◌≡◌, ℕ, ◌+◌, ◌-◌, ◌≤◌, ◌<◌, true, false, List, [], ◌∷◌, ◌++◌, length, take, drop, refl, sym, ◌∙◌, ap, subst, arith, length-append, append_assoc}, lemmas.List.{drop-append-le, take-append-drop, take-append-le, drop_at, take_at, length-drop, length-take}, Math.Seq.drop-append-add}, specs.Prelude.{Bool, Option, Some, None, IfSome, option_map}}
use Rattle.pm_record.{specs.{pm_disk.{declared.disk.Which.Which, Disk.{Only, TellsStill}, Files.{Files, file_of, other, overwritten}}, Calls.{beside_with, file_with}, pm_rows.declared.commit.Change.Change, Spelling.batch_bytes, StandsFor.{Content, with_batch}}, proofs.GateLaws.{other-other, written_at}}
use Rattle.pm_log.{specs.{Append.{GrowsBehind, IsSpelled}, Half.{Half, half_at, whole_of}, Making.{HasCopied, HasPiece, HasStepped, IsReady, Makes}, declared.making.Stepped.TheVariants.{More, Ready}}, proofs.{Fronts.AreBatches-push, Lists.{first_byte, over}}}

module _ (half : Half) (file : Which) (end : ℕ) (content : Content) (files : Files) (m : Makes half file end content files) where
  -- what is left, behind what is made
  pub left_is : drop half.done (half.base ++ m.since) ≡ m.left
  left_is =
      ap (λ (l : List ℕ). drop half.done l) m.whole ∙ drop_at (1 ∷ m.made) m.left half.done (omega (arith, m.done_is))

  -- a piece of the base
  pub base_piece : (n : ℕ) → half.done ≤ length half.base
      → m.left ≡ take n (drop half.done half.base) ++ (drop n (drop half.done half.base) ++ m.since)
  base_piece n within =
      let rest = drop half.done half.base in
      sym left_is ∙ drop-append-le half.done half.base m.since within
      ∙ ap (λ (l : List ℕ). l ++ m.since) (sym (take-append-drop n rest))
      ∙ append_assoc (take n rest) (drop n rest) m.since

  -- so much of what is copied is left
  copy_is : length half.base ≤ half.done → m.left ≡ drop (half.done - length half.base) m.since
  copy_is past =
      sym left_is ∙ ap (λ (k : ℕ). drop k (half.base ++ m.since)) (omega (arith, past))
      ∙ drop-append-add half.base m.since (half.done - length half.base)

  since_long : whole_of half end ≡ length half.base + length m.since
  since_long = omega (arith, m.from_is, m.end_is)

  -- a piece of what is copied, as it is read from the log's file
  pub copy_piece : (n : ℕ) → length half.base ≤ half.done → half.done + n ≤ whole_of half end
      → take n (drop (half.from + (half.done - length half.base)) (file_of files file)) ≡ take n m.left
  copy_piece n past within =
      let copied = half.done - length half.base in
      let few : copied ≤ length m.since = omega (arith, within, past, since_long) in
      let enough : n ≤ length (drop copied m.since) = omega (arith, within, past, since_long, length-drop copied m.since) in
      ap (λ (l : List ℕ). take n (drop (half.from + copied) l)) m.file_is
      ∙ ap (λ (k : ℕ). take n (drop (k + copied) (m.front ++ (m.since ++ m.rest)))) m.from_is
      ∙ ap (λ (l : List ℕ). take n l) (drop-append-add m.front (m.since ++ m.rest) copied ∙ drop-append-le copied m.since m.rest few)
      ∙ take-append-le n (drop copied m.since) m.rest enough
      ∙ ap (λ (l : List ℕ). take n l) (sym (copy_is past))

  -- nothing is left
  pub none_left : length half.base ≤ half.done → whole_of half end ≤ half.done → m.left ≡ []
  none_left past whole =
      let none : length m.left ≡ 0 = omega (arith, ap length (copy_is past), length-drop (half.done - length half.base) m.since, whole, since_long, past) in
      empty m.left none
    where
      empty : (l : List ℕ) → length l ≡ 0 → l ≡ []
      empty [] is = refl
      empty (x ∷ l) is = absurd (omega (arith, is))

  -- it is written over what stands behind what is made
  written : (now : Files) (piece : List ℕ) → file_of now (other file) ≡ overwritten (file_of files (other file)) half.done piece
      → file_of now (other file) ≡ m.gate ∷ ((m.made ++ piece) ++ drop (length piece) m.free)
  written now piece is =
      let place : half.done ≡ length (m.gate ∷ m.made) = omega (arith, m.done_is) in
      is ∙ ap (λ (l : List ℕ). overwritten l half.done piece) m.beside ∙ ap (λ (n : ℕ). overwritten ((m.gate ∷ m.made) ++ m.free) n piece) place
      ∙ over (m.gate ∷ m.made) m.free piece ∙ ap (λ (l : List ℕ). m.gate ∷ l) (sym (append_assoc m.made piece (drop (length piece) m.free)))

  -- a piece more is made
  pub makes_piece : (now : Files) (piece left : List ℕ) (done : ℕ) → m.left ≡ piece ++ left → done ≡ half.done + length piece → file_of now file ≡ file_of files file
      → file_of now (other file) ≡ overwritten (file_of files (other file)) half.done piece
      → Makes (half_at half.epoch half.base half.from done false) file end content now
  makes_piece now piece left done parts further same is = record {
    began = m.began;
    later = m.later;
    content_is = m.content_is;
    limits = m.limits;
    epoch_is = m.epoch_is;
    base_is = m.base_is;
    front = m.front;
    since = m.since;
    rest = m.rest;
    file_is = same ∙ m.file_is;
    from_is = m.from_is;
    end_is = m.end_is;
    batches = m.batches;
    gate = m.gate;
    made = m.made ++ piece;
    left = left;
    free = drop (length piece) m.free;
    whole = m.whole ∙ ap (λ (l : List ℕ). 1 ∷ (m.made ++ l)) parts ∙ ap (λ (l : List ℕ). 1 ∷ l) (sym (append_assoc m.made piece left));
    beside = written now piece is;
    done_is = omega (arith, further, m.done_is, length-append m.made piece);
  }

  -- all is made, and a closed gate is written behind it
  pub ready_now : (now : Files) (images : Files → Type 0) → m.left ≡ [] → file_of now file ≡ file_of files file
      → file_of now (other file) ≡ overwritten (file_of files (other file)) half.done (0 ∷ []) → Only (other file) (file_of now (other file)) images
      → IsReady (half_at half.epoch half.base half.from half.done true) file end content now images
  ready_now now images nothing same is durable = record {
    makes = record {
      began = m.began;
      later = m.later;
      content_is = m.content_is;
      limits = m.limits;
      epoch_is = m.epoch_is;
      base_is = m.base_is;
      front = m.front;
      since = m.since;
      rest = m.rest;
      file_is = same ∙ m.file_is;
      from_is = m.from_is;
      end_is = m.end_is;
      batches = m.batches;
      gate = m.gate;
      made = m.made;
      left = m.left;
      free = 0 ∷ drop 1 m.free;
      whole = m.whole;
      beside = written now (0 ∷ []) is ∙ ap (λ (l : List ℕ). m.gate ∷ l) (append_assoc m.made (0 ∷ []) (drop 1 m.free));
      done_is = m.done_is;
    };
    nothing_left = nothing;
    behind = drop 1 m.free;
    closed = refl;
    durable = durable;
  }

-- ---- beside an append

-- what stood in front of the log's gate stands, with the batch behind it
pub makes_beside : (half : Half) (file : Which) (end : ℕ) (content : Content) (files now : Files) (batch : List (List Change)) (bytes : List ℕ) (further : ℕ)
    → IsSpelled bytes batch → further ≡ end + (length bytes - 1) → GrowsBehind file end bytes files now → file_of now (other file) ≡ file_of files (other file)
    → Makes half file end content files → Makes half file further (with_batch content batch) now
makes_beside half file end content files now batch bytes further spelled is grows same m =
    let more = 1 ∷ batch_bytes batch in
    let bytes_are : bytes ≡ more ++ (0 ∷ []) = spelled in
    let long : end ≡ length (m.front ++ m.since) = m.end_is ∙ sym (length-append m.front m.since) in
    let before : file_of files file ≡ (m.front ++ m.since) ++ m.rest = m.file_is ∙ sym (append_assoc m.front m.since m.rest) in
    let stood : take end (file_of files file) ≡ m.front ++ m.since =
    ap (λ (l : List ℕ). take end l) before ∙ take_at (m.front ++ m.since) m.rest end (sym long) in
    record {
      began = m.began;
      later = m.later ++ batch ∷ [];
      content_is = ap (λ (c : Content). with_batch c batch) m.content_is
          ∙ ap (λ (l : List (List (List Change))). record m.began { batches = l }) (append_assoc m.began.batches m.later (batch ∷ []));
      limits = m.limits;
      epoch_is = m.epoch_is;
      base_is = m.base_is;
      front = m.front;
      since = m.since ++ more;
      rest = 0 ∷ grows.0;
      file_is = grows.1 ∙ ap (λ (l : List ℕ). l ++ (bytes ++ grows.0)) stood
          ∙ ap (λ (l : List ℕ). (m.front ++ m.since) ++ (l ++ grows.0)) bytes_are
          ∙ ap (λ (l : List ℕ). (m.front ++ m.since) ++ l) (append_assoc more (0 ∷ []) grows.0)
          ∙ append_assoc m.front m.since (more ++ (0 ∷ grows.0))
          ∙ ap (λ (l : List ℕ). m.front ++ l) (sym (append_assoc m.since more (0 ∷ grows.0)));
      from_is = m.from_is;
      end_is = omega (arith, is, m.end_is, ap length bytes_are, length-append more (0 ∷ []), length-append m.since more);
      batches = AreBatches-push m.since m.later batch 1 (λ e. omega arith) m.batches;
      gate = m.gate;
      made = m.made;
      left = m.left ++ more;
      free = m.free;
      whole = sym (append_assoc half.base m.since more) ∙ ap (λ (l : List ℕ). l ++ more) m.whole
          ∙ ap (λ (l : List ℕ). 1 ∷ l) (append_assoc m.made m.left more);
      beside = same ∙ m.beside;
      done_is = m.done_is;
    }

-- ---- where the disk tells its files

-- a write to the other file leaves the log's
pub log_stays : (files : Files) (file : Which) (at : ℕ) (bytes : List ℕ) → file_of (written_at (other file) at bytes files) file ≡ file_of files file
log_stays files file at bytes =
    subst (λ (w : Which). file_of (written_at (other file) at bytes files) w ≡ file_of files w) (other-other file)
    (beside_with files (other file) (overwritten (file_of files (other file)) at bytes))

other_is : (files : Files) (file : Which) (at : ℕ) (bytes : List ℕ) → file_of (written_at (other file) at bytes files) (other file) ≡ overwritten (file_of files (other file)) at bytes
other_is files file at bytes = file_with files (other file) (overwritten (file_of files (other file)) at bytes)

-- a piece of the base was written
pub told_base : (before now : Option Files) (file next : Which) (end from done n : ℕ) (base piece : List ℕ) (images : Files → Type 0) → next ≡ other file
    → done ≤ length base → piece ≡ take n (drop done base) → n ≡ length piece → now ≡ option_map (written_at next done piece) before
    → TellsStill (λ files now. HasPiece base from done file end files now images (Some n)) before now
told_base None now file next end from done n base piece images is within piece_is long written = written
told_base (Some files) now file next end from done n base piece images is within piece_is long written =
    let there = subst (λ (w : Which). now ≡ Some (written_at w done piece files)) is written in
    subst (λ (m : Option Files). TellsStill (λ files now. HasPiece base from done file end files now images (Some n)) (Some files) m) (sym there)
    (λ epoch ready content m.
    let half = half_at epoch base from done ready in
    let parts = base_piece half file end content files m n within in
    makes_piece half file end content files m (written_at (other file) done piece files) piece (drop n (drop done base) ++ m.since) (done + n)
    (parts ∙ ap (λ (l : List ℕ). l ++ (drop n (drop done base) ++ m.since)) (sym piece_is)) (omega (arith, long)) (log_stays files file done piece) (other_is files file done piece))

-- a piece was copied
pub told_copy : (before now : Option Files) (file : Which) (end from done n base_end : ℕ) (images : Files → Type 0)
    → base_end ≤ done → done + n ≤ base_end + (end - from) → IfSome before (λ files. from + (done - base_end) + n ≤ length (file_of files file))
    → now ≡ option_map (λ (files : Files). written_at (other file) done (take n (drop (from + (done - base_end)) (file_of files file))) files) before
    → TellsStill (λ files now. HasCopied base_end from done file end files now images (Some n)) before now
told_copy None now file end from done n base_end images past within enough written = written
told_copy (Some files) now file end from done n base_end images past within enough written =
    let bytes = file_of files file in
    let place = from + (done - base_end) in
    let piece = take n (drop place bytes) in
    let long : n ≡ length piece = omega (arith, enough, length-take n (drop place bytes), length-drop place bytes) in
    subst (λ (m : Option Files). TellsStill (λ files now. HasCopied base_end from done file end files now images (Some n)) (Some files) m) (sym written)
    (λ base base_long epoch ready content m.
    let half = half_at epoch base from done ready in
    let same : piece ≡ take n m.left =
    ap (λ (b : ℕ). take n (drop (from + (done - b)) bytes)) (sym base_long) ∙ copy_piece half file end content files m n (omega (arith, past, base_long)) (omega (arith, within, base_long)) in
    makes_piece half file end content files m (written_at (other file) done piece files) piece (drop n m.left) (done + n)
    (sym (take-append-drop n m.left) ∙ ap (λ (l : List ℕ). l ++ drop n m.left) (sym same)) (omega (arith, long)) (log_stays files file done piece) (other_is files file done piece))

-- all is made durable
pub told_ready : (before now : Option Files) (file next : Which) (end from done base_end : ℕ) (images : Files → Type 0) → next ≡ other file
    → base_end ≤ done → base_end + (end - from) ≤ done → now ≡ option_map (written_at next done (0 ∷ [])) before
    → IfSome now (λ f. Only next (file_of f next) images)
    → TellsStill (λ files now. HasCopied base_end from done file end files now images None) before now
told_ready None now file next end from done base_end images is past whole written durable = written
told_ready (Some files) now file next end from done base_end images is past whole written durable =
    let there = subst (λ (w : Which). now ≡ Some (written_at w done (0 ∷ []) files)) is written in
    let only = subst (λ (m : Option Files). IfSome m (λ f. Only (other file) (file_of f (other file)) images)) there
    (subst (λ (w : Which). IfSome now (λ f. Only w (file_of f w) images)) is durable) in
    subst (λ (m : Option Files). TellsStill (λ files now. HasCopied base_end from done file end files now images None) (Some files) m) (sym there)
    (λ base base_long epoch ready content m.
    let half = half_at epoch base from done ready in
    let nothing = none_left half file end content files m (omega (arith, past, base_long)) (omega (arith, whole, base_long)) in
    ready_now half file end content files m (written_at (other file) done (0 ∷ []) files) images nothing
    (log_stays files file done (0 ∷ [])) (other_is files file done (0 ∷ [])) only)

-- what is said of every base of that length is said of this one
pub told_of : (before now : Option Files) (file : Which) (end from done base_end : ℕ) (base : List ℕ) (images : Files → Type 0) (piece : Option ℕ) → length base ≡ base_end
    → TellsStill (λ files now. HasCopied base_end from done file end files now images piece) before now
    → TellsStill (λ files now. HasPiece base from done file end files now images piece) before now
told_of None now file end from done base_end base images piece long has = has
told_of (Some files) None file end from done base_end base images piece long has = has
told_of (Some files) (Some now) file end from done base_end base images piece long has = has base long

-- so the step says it of the half that it was given
pub told_whole : (before now : Option Files) (half : Half) (file : Which) (end epoch from done : ℕ) (base : List ℕ) (ready : Bool) (images : Files → Type 0)
    → half_at epoch base from done ready ≡ half → TellsStill (λ files now. HasPiece base from done file end files now images None) before now
    → TellsStill (λ files now. HasStepped half (half_at epoch base from done true) file end files now images Ready) before now
told_whole None now half file end epoch from done base ready images is has = has
told_whole (Some files) None half file end epoch from done base ready images is has = has
told_whole (Some files) (Some now) half file end epoch from done base ready images is has = λ content m.
    has epoch ready content (subst (λ (h : Half). Makes h file end content files) (sym is) m)

-- a sync leaves what the files read
pub told_more : (before between now : Option Files) (half : Half) (file : Which) (end epoch from done n : ℕ) (base : List ℕ) (ready : Bool) (i k : Files → Type 0)
    → half_at epoch base from done ready ≡ half → now ≡ between → TellsStill (λ files now. HasPiece base from done file end files now i (Some n)) before between
    → TellsStill (λ files now. HasStepped half (half_at epoch base from (done + n) false) file end files now k More) before now
told_more before between now half file end epoch from done n base ready i k is same has =
    subst (λ (m : Option Files). TellsStill (λ files now. HasStepped half (half_at epoch base from (done + n) false) file end files now k More) before m) (sym same) (of before between has)
  where
    of : (before now : Option Files) → TellsStill (λ files now. HasPiece base from done file end files now i (Some n)) before now
        → TellsStill (λ files now. HasStepped half (half_at epoch base from (done + n) false) file end files now k More) before now
    of None now has = has
    of (Some files) None has = has
    of (Some files) (Some now) has = λ content m. has epoch ready content (subst (λ (h : Half). Makes h file end content files) (sym is) m)

-- a batch was appended beside it
pub told_beside : (before now : Option Files) (file : Which) (end further : ℕ) (batch : List (List Change)) (bytes : List ℕ) → IsSpelled bytes batch → further ≡ end + (length bytes - 1)
    → TellsStill (GrowsBehind file end bytes) before now → TellsStill (λ files now. file_of now (other file) ≡ file_of files (other file)) before now
    → TellsStill (λ files now. (content : Content) (half : Half) → Makes half file end content files → Makes half file further (with_batch content batch) now) before now
told_beside None now file end further batch bytes spelled is grows same = same
told_beside (Some files) None file end further batch bytes spelled is grows same = same
told_beside (Some files) (Some now) file end further batch bytes spelled is grows same = λ content half m.
    makes_beside half file end content files now batch bytes further spelled is grows same m

-- the bytes of a batch are written behind the gate, and then the gate
grows : (old : List ℕ) (end : ℕ) (b : ℕ) (bs : List ℕ) → end < length old
    → (rest : List ℕ) × (overwritten (overwritten old (end + 1) bs) end (b ∷ []) ≡ take end old ++ ((b ∷ bs) ++ rest))
grows old end b bs within =
    let front = take end old in
    let gate = first_byte (drop end old) (omega (arith, length-drop end old)) in
    let long : end ≡ length front = omega (arith, length-take end old) in
    let split : old ≡ front ++ (gate.0 ∷ gate.1) = sym (take-append-drop end old) ∙ ap (λ (l : List ℕ). front ++ l) gate.2 in
    let closed = front ++ (gate.0 ∷ []) in
    let further : end + 1 ≡ length closed = omega (arith, long, length-append front (gate.0 ∷ [])) in
    let more = drop (length bs) gate.1 in
    let mid : overwritten old (end + 1) bs ≡ front ++ (gate.0 ∷ (bs ++ more)) =
    ap (λ (l : List ℕ). overwritten l (end + 1) bs) (split ∙ sym (append_assoc front (gate.0 ∷ []) gate.1))
    ∙ ap (λ (n : ℕ). overwritten (closed ++ gate.1) n bs) further ∙ over closed gate.1 bs ∙ append_assoc front (gate.0 ∷ []) (bs ++ more) in (
      more,
      ap (λ (l : List ℕ). overwritten l end (b ∷ [])) mid ∙ ap (λ (n : ℕ). overwritten (front ++ (gate.0 ∷ (bs ++ more))) n (b ∷ [])) long
          ∙ over front (gate.0 ∷ (bs ++ more)) (b ∷ []),
    )

pub told_grows : (before mid now : Option Files) (file : Which) (end : ℕ) (bytes : List ℕ) → 1 ≤ length bytes → IfSome before (λ files. end < length (file_of files file))
    → mid ≡ option_map (written_at file (end + 1) (drop 1 bytes)) before → now ≡ option_map (written_at file end (take 1 bytes)) mid
    → TellsStill (GrowsBehind file end bytes) before now
told_grows None mid now file end bytes some within first second = second ∙ ap (λ (m : Option Files). option_map (written_at file end (take 1 bytes)) m) first
told_grows (Some files) mid now file end bytes some within first second =
    let between = written_at file (end + 1) (drop 1 bytes) files in
    let last = written_at file end (take 1 bytes) between in
    let there : now ≡ Some last = second ∙ ap (λ (m : Option Files). option_map (written_at file end (take 1 bytes)) m) first in
    let b = first_byte bytes some in
    let g = grows (file_of files file) end b.0 b.1 within in
    let is : file_of last file ≡ overwritten (overwritten (file_of files file) (end + 1) (drop 1 bytes)) end (take 1 bytes) =
    file_with between file (overwritten (file_of between file) end (take 1 bytes))
    ∙ ap (λ (l : List ℕ). overwritten l end (take 1 bytes)) (file_with files file (overwritten (file_of files file) (end + 1) (drop 1 bytes))) in
    subst (λ (n : Option Files). TellsStill (GrowsBehind file end bytes) (Some files) n) (sym there) (
      g.0,
      is ∙ ap (λ (l : List ℕ). overwritten (overwritten (file_of files file) (end + 1) (drop 1 l)) end (take 1 l)) b.2 ∙ g.1
          ∙ ap (λ (l : List ℕ). take end (file_of files file) ++ (l ++ g.0)) (sym b.2),
    )

-- so many bytes of a file are there
pub told_enough : (before : Option Files) (file : Which) (end place n : ℕ) → place + n ≤ end → IfSome before (λ files. end ≤ length (file_of files file))
    → IfSome before (λ files. place + n ≤ length (file_of files file))
told_enough None file end place n within there = tt
told_enough (Some files) file end place n within there = omega (arith, within, there)
