-- The steps of a run keep what a stop leaves of its history.
use Rattle.std.{proofs.{Common.{◌≡◌, inl, inr, ℕ, suc, ◌+◌, ◌-◌, ◌≤◌, ◌<◌, true, false, List, [], ◌∷◌, ◌++◌, length, get_or, take, drop, refl, sym, ◌∙◌, ap, subst, arith, length-append, append_assoc, append-nil, take-append-drop}, Math.{Logic.∥∥₁_map, Seq.take-take}, lemmas.{Bool.{cases_lt, Decides.nat_tests}, List.{take-append-le, take_all, Elements.All-push, Sums.fold-append}}}, specs.Prelude.{Option, Some, None, nat_le, All}}
use Rattle.pm_query.{specs.{pm_disk.Files.Files, pm_rows.{declared.commit.Change.Change, Fold.{committed, folded}, Standing.{Standing, after}}, declared.{book.BookEntry.{BookEntry, TheVariants.{Opened, Attached, Redone, Answered, Released, Detached, Gone, CheckpointEnded, Broke, LogFull}}, item.Item.Item}, pm_sql.declared.stmt.Stmt.Stmt, History.{History, acknowledged, beginning, count_of, kept, number, with_commit}, Book.{Base, history_after, history_of, kept_by_redo, standing_of}, AtTick.{history_at, is_by}, TickLaws.{PastStays, PresentIsWhole}, Durable.{HoldsAcknowledged, HoldsFrom, IsDurable, IsWithin, Keeps, MeansAsOne}}, proofs.HistoryLaws.{history_push, number_of}}
use Rattle.pm_record.{specs.{Pair.Means, OnDisk.{GoesOn, Throughout}}, proofs.GateLaws.same_standing}

-- ---- histories along a book

-- one history has the commits of another one, and maybe more after them
pub record Covers (shown whole : History) : Type 0 where
  pub base : shown.base ≡ whole.base
  pub acked : shown.acked ≡ whole.acked
  pub more : List (List Change)
  pub commits : shown.commits ≡ whole.commits ++ more

covers_itself : (history : History) → Covers history history
covers_itself history = record { base = refl; acked = refl; more = []; commits = sym (append-nil history.commits) }

pub covers_number : (shown whole : History) → Covers shown whole → (n : ℕ) → n ≤ count_of whole → number shown n ≡ number whole n
covers_number shown whole covers n le =
    let b = whole.base.count in
    ap (λ (s : Standing). number (record shown { base = s }) n) covers.base
    ∙ ap (λ (l : List (List Change)). number (record whole { commits = l }) n) covers.commits
    ∙ ap (number_of whole n) (take-append-le (n - b) whole.commits covers.more (omega arith))

pub covers_count : (shown whole : History) → Covers shown whole → count_of whole ≤ count_of shown
covers_count shown whole covers = omega (arith, ap (λ (s : Standing). s.count) covers.base, ap length covers.commits, length-append whole.commits covers.more)

-- a number of the one is one of the other
pub holds_in : (Mean : Files → Standing → Type 0) (shown whole : History) (least from : ℕ) (image : Files) → Covers shown whole → least ≤ from → HoldsFrom Mean from whole image → HoldsFrom Mean least shown image
holds_in Mean shown whole least from image covers le holds =
    let longer = covers_count shown whole covers in
    ∥∥₁_map holds (λ h. (h.0, omega (arith, h.1), omega (arith, h.2), subst (λ (s : Standing). Mean image s) (sym (covers_number shown whole covers h.0 h.2)) h.3))

-- whoever means the one means the other
pub holds_so : (Mean So : Files → Standing → Type 0) (history : History) (least : ℕ) (image : Files) → ((s : Standing) → Mean image s → So image s) → HoldsFrom Mean least history image → HoldsFrom So least history image
holds_so Mean So history least image so holds = ∥∥₁_map holds (λ h. (h.0, h.1, h.2, so (number history h.0) h.3))

-- a commit more
pub covers_commit : (history : History) (commit : List Change) → Covers (with_commit history commit) history
covers_commit history [] = covers_itself history
covers_commit history (change ∷ changes) = record { base = refl; acked = refl; more = (change ∷ changes) ∷ []; commits = refl }

covers_cut : (shown whole : History) (count : ℕ) → Covers shown whole → Covers shown (kept whole count)
covers_cut shown whole count covers =
    let k = count - whole.base.count in record {
      base = covers.base;
      acked = covers.acked;
      more = drop k whole.commits ++ covers.more;
      commits = covers.commits ∙ ap (λ (l : List (List Change)). l ++ covers.more) (sym (take-append-drop k whole.commits)) ∙ append_assoc (take k whole.commits) (drop k whole.commits) covers.more;
    }

covers_redo : (shown whole : History) (redone : Option ℕ) (pid generation count : ℕ) → Covers shown whole → Covers shown (history_after redone whole (Redone pid generation count))
covers_redo shown whole None pid generation count covers = covers_cut shown whole count covers
covers_redo shown whole (Some first) pid generation count covers = covers

by_now : (tick t : ℕ) → tick ≤ t → nat_le tick t ≡ true
by_now tick t le = grind (arith, nat_tests)

not_yet : (tick t : ℕ) → t < tick → nat_le tick t ≡ false
not_yet tick t lt = grind (arith, nat_tests)

-- ---- what the history at a tick has, once all entries are made

module _ (past : PastStays) (present : PresentIsWhole) (base : Base) (start mark t : ℕ) (le : mark ≤ t) where
  -- an entry that tells its tick
  shows : (book : List BookEntry) (entry : BookEntry) → is_by t entry ≡ true → Covers (history_at base (book ++ entry ∷ []) t) (history_of base (book ++ entry ∷ []))
  shows book entry is = subst (λ (h : History). Covers h (history_of base (book ++ entry ∷ []))) (sym (present base book entry t is)) (covers_itself (history_of base (book ++ entry ∷ [])))

  -- one that doesn't
  hides : (book : List BookEntry) (entry : BookEntry) → is_by t entry ≡ false → Covers (history_at base book t) (history_after (kept_by_redo book) (history_of base book) entry)
      → Covers (history_at base (book ++ entry ∷ []) t) (history_of base (book ++ entry ∷ []))
  hides book entry is covers =
      subst (λ (h : History). Covers h (history_of base (book ++ entry ∷ []))) (sym (past base book entry t is))
      (subst (λ (h : History). Covers (history_at base book t) h) (sym (history_push base book entry)) covers)

  covers_step : (book : List BookEntry) (entry : BookEntry) → IsWithin start mark entry → Covers (history_at base book t) (history_of base book)
      → Covers (history_at base (book ++ entry ∷ []) t) (history_of base (book ++ entry ∷ []))
  covers_step book (Answered pid script reply commit front tick) is covers = shows book (Answered pid script reply commit front tick) (by_now tick t (omega (arith, is.1, le)))
  covers_step book (Released pid front tick) is covers = shows book (Released pid front tick) (by_now tick t (omega (arith, is.1, le)))
  covers_step book (Redone pid generation count) is covers =
      hides book (Redone pid generation count) refl (covers_redo (history_at base book t) (history_of base book) (kept_by_redo book) pid generation count covers)
  covers_step book (Opened generation) is covers = hides book (Opened generation) refl covers
  covers_step book (Attached pid generation) is covers = hides book (Attached pid generation) refl covers
  covers_step book (Detached pid) is covers = hides book (Detached pid) refl covers
  covers_step book (Gone pid) is covers = hides book (Gone pid) refl covers
  covers_step book (CheckpointEnded pid done clean) is covers = hides book (CheckpointEnded pid done clean) refl covers
  covers_step book (Broke pid since count) is covers = hides book (Broke pid since count) refl covers
  covers_step book (LogFull pid script need room) is covers = hides book (LogFull pid script need room) refl covers

  covers_on : (done book : List BookEntry) → All (IsWithin start mark) book → Covers (history_at base done t) (history_of base done)
      → Covers (history_at base (done ++ book) t) (history_of base (done ++ book))
  covers_on done [] all covers = subst (λ (b : List BookEntry). Covers (history_at base b t) (history_of base b)) (sym (append-nil done)) covers
  covers_on done (entry ∷ book) all covers =
      subst (λ (b : List BookEntry). Covers (history_at base b t) (history_of base b)) (append_assoc done (entry ∷ []) book)
      (covers_on (done ++ entry ∷ []) book (λ k d lt. all (suc k) d (omega arith)) (covers_step done entry (all 0 entry (omega arith)) covers))

  covers_whole : (book : List BookEntry) → All (IsWithin start mark) book → Covers (history_at base book t) (history_of base book)
  covers_whole book all = covers_on [] book all (covers_itself (history_of base []))

-- ---- what is kept up to a mark

within_later : (start mark now : ℕ) → mark ≤ now → (entry : BookEntry) → IsWithin start mark entry → IsWithin start now entry
within_later start mark now le (Answered pid script reply commit front tick) is = (is.0, omega (arith, is.1, le))
within_later start mark now le (Released pid front tick) is = (is.0, omega (arith, is.1, le))
within_later start mark now le (Redone pid generation count) is = tt
within_later start mark now le (Opened generation) is = tt
within_later start mark now le (Attached pid generation) is = tt
within_later start mark now le (Detached pid) is = tt
within_later start mark now le (Gone pid) is = tt
within_later start mark now le (CheckpointEnded pid done clean) is = tt
within_later start mark now le (Broke pid since count) is = tt
within_later start mark now le (LogFull pid script need room) is = tt

module _ (past : PastStays) (present : PresentIsWhole) (base : Base) (book : List BookEntry) (start mark now flushed : ℕ) (images : ℕ → Files → Type 0)
    (keeps : Keeps Means base book start mark now flushed images) where
  pub tells : (t : ℕ) → start ≤ t → t ≤ now → (image : Files) → images t image → HoldsAcknowledged Means (history_at base book t) image
  tells t le ge image there = elim (cases_lt t mark) [
    | inl early ↦ keeps.past t le early image there
    | inr late ↦
        let covers = covers_whole past present base start mark t late book keeps.entries in
        holds_in Means (history_at base book t) (history_of base book) (history_at base book t).acked flushed image covers (omega (arith, covers.acked, keeps.acked)) (keeps.since t late ge image there)
  ]

  -- device calls went by, in which a stop left numbers of the history
  pub later : (then : ℕ) (images_then : ℕ → Files → Type 0) → GoesOn now then images images_then
      → Throughout now then images_then (HoldsFrom Means flushed (history_of base book)) → Keeps Means base book start mark then flushed images_then
  later then images_then time through = record {
    begun = keeps.begun;
    marked = omega (arith, keeps.marked, time.later);
    entries = keeps.entries;
    acked = keeps.acked;
    whole = keeps.whole;
    past = λ t le lt image there. keeps.past t le lt image ((time.past t (omega (arith, lt, keeps.marked)) image).0 there);
    since = λ t le ge image there. elim (cases_lt now t) [
      | inl behind ↦ through t (omega (arith, behind)) ge image there
      | inr early ↦ keeps.since t le early image ((time.past t early image).0 there)
    ];
  }

  -- the mark moves to now, where a stop leaves numbers from this one on
  pub marks : (least : ℕ) → flushed ≤ least → least ≤ count_of (history_of base book)
      → ((image : Files) → images now image → HoldsFrom Means least (history_of base book) image) → Keeps Means base book start now now least images
  marks least le ge holds = record {
    begun = omega (arith, keeps.begun, keeps.marked);
    marked = omega arith;
    entries = λ k d lt. within_later start mark now keeps.marked (get_or book k d) (keeps.entries k d lt);
    acked = omega (arith, keeps.acked, le);
    whole = ge;
    past = λ t after before_now image there. tells t after (omega (arith, before_now)) image there;
    since = λ t after upto image there.
        let same : t ≡ now = omega (arith, after, upto) in
        holds image (subst (λ (n : ℕ). images n image) same there);
  }

  -- an entry is noted
  pushed : (entry : BookEntry) (then : History) → history_after (kept_by_redo book) (history_of base book) entry ≡ then → IsWithin start mark entry → ((t : ℕ) → t < mark → is_by t entry ≡ false)
      → then.acked ≤ flushed → flushed ≤ count_of then → ((t : ℕ) → mark ≤ t → t ≤ now → (image : Files) → images t image → HoldsFrom Means flushed then image)
      → Keeps Means base (book ++ entry ∷ []) start mark now flushed images
  pushed entry then is within early acked whole holds =
      let now_is : then ≡ history_of base (book ++ entry ∷ []) = sym (history_push base book entry ∙ is) in record {
        begun = keeps.begun;
        marked = keeps.marked;
        entries = All-push (IsWithin start mark) book entry keeps.entries within;
        acked = subst (λ (h : History). h.acked ≤ flushed) now_is acked;
        whole = subst (λ (h : History). flushed ≤ count_of h) now_is whole;
        past = λ t after lt image there.
            subst (λ (h : History). HoldsAcknowledged Means h image) (sym (past base book entry t (early t lt))) (keeps.past t after lt image there);
        since = λ t after upto image there. subst (λ (h : History). HoldsFrom Means flushed h image) now_is (holds t after upto image there);
      }

  -- an answer, with the mark for its tick
  pub answered : (pid front : ℕ) (script : List Stmt) (reply : List Item) (commit : List Change) → Keeps Means base (book ++ Answered pid script reply commit front mark ∷ []) start mark now flushed images
  answered pid front script reply commit =
      let h = history_of base book in
      let covers = covers_commit h commit in
      pushed (Answered pid script reply commit front mark) (with_commit h commit) refl (keeps.begun, omega arith) (λ t lt. not_yet mark t lt)
      (omega (arith, covers.acked, keeps.acked)) (omega (arith, keeps.whole, covers_count (with_commit h commit) h covers))
      (λ t after upto image there. holds_in Means (with_commit h commit) h flushed flushed image covers (omega arith) (keeps.since t after upto image there))

  -- a release of what is flushed, with the mark for its tick
  pub released : (pid front : ℕ) → front ≤ flushed → Keeps Means base (book ++ Released pid front mark ∷ []) start mark now flushed images
  released pid front le =
      let h = history_of base book in
      pushed (Released pid front mark) (acknowledged h front) refl (keeps.begun, omega arith) (λ t lt. not_yet mark t lt)
      (omega (arith, keeps.acked, le)) keeps.whole (λ t after upto image there. keeps.since t after upto image there)

  -- an entry that leaves the history alone
  pub another : (entry : BookEntry) → history_after (kept_by_redo book) (history_of base book) entry ≡ history_of base book → IsWithin start mark entry → ((t : ℕ) → is_by t entry ≡ false)
      → Keeps Means base (book ++ entry ∷ []) start mark now flushed images
  another entry is within none = pushed entry (history_of base book) is within (λ t lt. none t) keeps.acked keeps.whole keeps.since

  -- a later redo, after which a stop leaves the number that it kept
  pub cut : (pid generation : ℕ) → kept_by_redo book ≡ None → flushed ≤ count_of (kept (history_of base book) flushed)
      → ((t : ℕ) → mark ≤ t → t ≤ now → (image : Files) → images t image → Means image (number (kept (history_of base book) flushed) flushed))
      → Keeps Means base (book ++ Redone pid generation flushed ∷ []) start mark now flushed images
  cut pid generation unredone whole means =
      let h = history_of base book in
      let then = kept h flushed in
      pushed (Redone pid generation flushed) then (ap (λ (r : Option ℕ). history_after r h (Redone pid generation flushed)) unredone) tt (λ t lt. refl) keeps.acked whole
      (λ t after upto image there. ∣ (flushed, omega arith, whole, means t after upto image there) ∣₁)

-- ---- the mark is now

-- device calls went by, and now a stop leaves numbers from this one on
pub goes_by : (past : PastStays) (present : PresentIsWhole) (base : Base) (book : List BookEntry) (start mark now flushed then least : ℕ) (images images_then : ℕ → Files → Type 0)
    → Keeps Means base book start mark now flushed images → GoesOn now then images images_then → Throughout now then images_then (HoldsFrom Means flushed (history_of base book))
    → flushed ≤ least → least ≤ count_of (history_of base book) → ((image : Files) → images_then then image → HoldsFrom Means least (history_of base book) image)
    → Keeps Means base book start then then least images_then
goes_by past present base book start mark now flushed then least images images_then keeps time through le ge holds =
    marks past present base book start mark then flushed images_then (later past present base book start mark now flushed images keeps then images_then time through) least le ge holds

pub notes_cut : (past : PastStays) (present : PresentIsWhole) (base : Base) (book : List BookEntry) (start now flushed : ℕ) (images : ℕ → Files → Type 0) → Keeps Means base book start now now flushed images
    → (pid generation : ℕ) → kept_by_redo book ≡ None → flushed ≤ count_of (kept (history_of base book) flushed)
    → ((image : Files) → images now image → Means image (number (kept (history_of base book) flushed) flushed))
    → Keeps Means base (book ++ Redone pid generation flushed ∷ []) start now now flushed images
notes_cut past present base book start now flushed images keeps pid generation unredone whole means =
    cut past present base book start now now flushed images keeps pid generation unredone whole (λ t after upto image there.
    let same : t ≡ now = omega (arith, after, upto) in
    means image (subst (λ (n : ℕ). images n image) same there))

-- no commit stands after the base
pub beginning_number : (base : Standing) → base ≡ number (beginning base) base.count
beginning_number base = sym (ap (number_of (beginning base) base.count) (take_all (base.count - base.count) [] (omega arith)))

pub beginning_kept : (base : Standing) → kept (beginning base) base.count ≡ beginning base
beginning_kept base = ap (λ (l : List (List Change)). record (beginning base) { commits = l }) (take_all (base.count - base.count) [] (omega arith))

-- the run begins: redo has ended, and a stop leaves what it found
pub opens : (base : Base) (book : List BookEntry) (now : ℕ) (images : ℕ → Files → Type 0) → history_of base book ≡ beginning (standing_of base) → All (IsWithin now now) book
    → ((image : Files) → images now image → Means image (standing_of base)) → Keeps Means base book now now now base.count images
opens base book now images is entries means = record {
  begun = omega arith;
  marked = omega arith;
  entries = entries;
  acked = omega (arith, ap (λ (h : History). h.acked) is);
  whole = omega (arith, ap (λ (h : History). count_of h) is);
  past = λ t after lt image there. absurd (omega (arith, after, lt));
  since = λ t after upto image there.
      let at : t ≡ now = omega (arith, after, upto) in
      let m = means image (subst (λ (n : ℕ). images n image) at there) in
      ∣ (
        base.count,
        omega arith,
        omega (arith, ap (λ (h : History). count_of h) is),
        subst (λ (s : Standing). Means image s) (beginning_number (standing_of base) ∙ ap (λ (h : History). number h base.count) (sym is)) m,
      ) ∣₁;
}

-- after the last commit comes the next
pub next_commit : (history : History) (change : Change) (changes : List Change)
    → after (number history (count_of history)) ((change ∷ changes) ∷ []) ≡ number (with_commit history (change ∷ changes)) (count_of history + 1)
next_commit history change changes =
    let commit = change ∷ changes in
    let b = history.base.count in
    let n = count_of history in
    let here : take (n - b) history.commits ≡ history.commits = take_all (n - b) history.commits (omega arith) in
    let there : take (n + 1 - b) (history.commits ++ commit ∷ []) ≡ history.commits ++ commit ∷ [] = take_all (n + 1 - b) (history.commits ++ commit ∷ []) (omega (arith, length-append history.commits (commit ∷ []))) in
    let rows : folded (folded history.base.rows (take (n - b) history.commits)) (commit ∷ []) ≡ folded history.base.rows (take (n + 1 - b) (history.commits ++ commit ∷ [])) =
    ap (λ (l : List (List Change)). folded (folded history.base.rows l) (commit ∷ [])) here
    ∙ sym (fold-append committed history.base.rows history.commits (commit ∷ []))
    ∙ ap (λ (l : List (List Change)). folded history.base.rows l) (sym there) in
    same_standing _ _ _ _ rows refl

-- ---- a history that is cut

-- the numbers up to the cut are what they were
pub cut_number : (history : History) (count : ℕ) → number (kept history count) count ≡ number history count
cut_number history count = ap (number_of history count) (take-take (count - history.base.count) (count - history.base.count) history.commits (omega arith))

-- ---- the clause of a whole run

pub durable : (past : PastStays) (present : PresentIsWhole) (base : Base) (book : List BookEntry) (from start mark now flushed : ℕ) (images_before images : ℕ → Files → Type 0) → Keeps Means base book start mark now flushed images
    → from ≤ start → ((t : ℕ) → from ≤ t → t ≤ start → (image : Files) → images t image → MeansAsOne Means (images_before from) image) → IsDurable Means base book from now images_before images
durable past present base book from start mark now flushed images_before images keeps begun opening = record {
  start = start;
  begun = begun;
  reached = omega (arith, keeps.begun, keeps.marked);
  entries = λ k d lt. within_later start mark now keeps.marked (get_or book k d) (keeps.entries k d lt);
  opening = opening;
  numbers = tells past present base book start mark now flushed images keeps;
}
