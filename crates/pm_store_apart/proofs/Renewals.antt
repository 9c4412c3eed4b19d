-- From one generation to the next.
use Rattle.std.{proofs.{Common.{◌≡◌, Bool, true, false, ◌⊎◌, inl, inr, ℕ, zero, suc, ◌+◌, ◌≤◌, List, [], ◌∷◌, ◌++◌, All, map, Option, None, Some, refl, sym, ◌∙◌, ap, subst, arith, append_assoc, append-nil}, lemmas.{Bool.Decides.nat_tests, List.{Elements.{All-append, All-nil, All-push}, Sums.{fold-append, sum_by-append, sum_by-cons}}}}, specs.{Prelude.{cond, nat_eq, nat_lt, fold, ◌&&◌}, FinMap.empty}}
use Rattle.pm_query.{specs.{pm_rows.{declared.commit.Change.Change, Fold.RowMap}, declared.book.BookEntry.{BookEntry, TheVariants.{Opened, Attached, Redone, Answered, Released, Detached, Gone, CheckpointEnded, Broke, LogFull}}, History.History, Book.{Base, BeginsRenewal, IsLegal, MayGoOn, RenewsBehindGone, faults_here, faults_of, generation_of, has_checkpoint, history_after, history_of, is_closed, kept_after, kept_by_redo, last_tick, needs_of, standing_of, times_after, times_attached}, TickLaws.{PastStays, PresentIsWhole}}, proofs.HistoryLaws.{generation_push, history_push, redone_push, times_push}}
use Rattle.pm_store_apart.{specs.{Children.{AreOthers, IsAttendedBy, once, times_in}, Moment.Moment, Moves.Renews, Renewal.renewal, Stands.{CountsFaults, HasBegun, HasHeld, HasNoTick, HasRenewed, HasWaited, IsFaultBy, IsSure, Origin, bytes_of_rows}, Unread.has_redo, UnreadLaws.redo_neither}, proofs.{Books.{breaks_push, checkpoint_push, closed_push, faults_push, goes_on, here_push, needs_push, tick_push}, StepsLaws.{gone_on, held_alone, not_both, waited_on}}}
use Rattle.pm_outside.specs.Added.{Added}

-- ---- legal books

begins_on : (book more : List BookEntry) → BeginsRenewal book → BeginsRenewal (book ++ more)
begins_on [] more begins = absurd begins
begins_on (Gone pid ∷ book) more begins = begins_on book more begins
begins_on (Opened generation ∷ book) more begins = tt
begins_on (Attached pid generation ∷ book) more begins = absurd begins
begins_on (Redone pid generation count ∷ book) more begins = absurd begins
begins_on (Answered pid script reply commit front tick ∷ book) more begins = absurd begins
begins_on (Released pid front tick ∷ book) more begins = absurd begins
begins_on (Detached pid ∷ book) more begins = absurd begins
begins_on (CheckpointEnded pid done clean ∷ book) more begins = absurd begins
begins_on (Broke pid since count ∷ book) more begins = absurd begins
begins_on (LogFull pid script need room ∷ book) more begins = absurd begins

renews_on : (book more : List BookEntry) → RenewsBehindGone book → RenewsBehindGone more → RenewsBehindGone (book ++ more)
renews_on [] more renews then = then
renews_on (Gone pid ∷ book) more renews then = (begins_on book more renews.0, renews_on book more renews.1 then)
renews_on (Opened generation ∷ book) more renews then = renews_on book more renews then
renews_on (Attached pid generation ∷ book) more renews then = renews_on book more renews then
renews_on (Redone pid generation count ∷ book) more renews then = renews_on book more renews then
renews_on (Answered pid script reply commit front tick ∷ book) more renews then = renews_on book more renews then
renews_on (Released pid front tick ∷ book) more renews then = renews_on book more renews then
renews_on (Detached pid ∷ book) more renews then = renews_on book more renews then
renews_on (CheckpointEnded pid done clean ∷ book) more renews then = renews_on book more renews then
renews_on (Broke pid since count ∷ book) more renews then = renews_on book more renews then
renews_on (LogFull pid script need room ∷ book) more renews then = renews_on book more renews then

begins_renewal : (pids : List ℕ) (generation : ℕ) → BeginsRenewal (renewal pids generation)
begins_renewal [] generation = tt
begins_renewal (pid ∷ pids) generation = begins_renewal pids generation

renews_itself : (pids : List ℕ) (generation : ℕ) → RenewsBehindGone (renewal pids generation)
renews_itself [] generation = tt
renews_itself (pid ∷ pids) generation = (begins_renewal pids generation, renews_itself pids generation)

-- ---- what a book says after a renewal

-- After these entries a new generation has begun, and nothing else has changed.
pub record IsOpened (generation : ℕ) (before book : List BookEntry) : Type 0 where
  pub generation_is : generation_of book ≡ generation
  pub unredone : kept_by_redo book ≡ None
  pub none_here : faults_here book ≡ None
  pub unchecked : has_checkpoint book ≡ false
  pub unclosed : is_closed book ≡ false
  pub history : (base : Base) → history_of base book ≡ history_of base before
  pub tick : last_tick book ≡ last_tick before
  pub needs : needs_of book ≡ needs_of before
  pub faults : faults_of book ≡ faults_of before

gone_history : (base : Base) (book : List BookEntry) (pid : ℕ) → history_of base (book ++ Gone pid ∷ []) ≡ history_of base book
gone_history base book pid = history_push base book (Gone pid) ∙ alone (kept_by_redo book)
  where
    alone : (redone : Option ℕ) → history_after redone (history_of base book) (Gone pid) ≡ history_of base book
    alone None = refl
    alone (Some first) = refl

opened_history : (base : Base) (book : List BookEntry) (generation : ℕ) → history_of base (book ++ Opened generation ∷ []) ≡ history_of base book
opened_history base book generation = history_push base book (Opened generation) ∙ alone (kept_by_redo book)
  where
    alone : (redone : Option ℕ) → history_after redone (history_of base book) (Opened generation) ≡ history_of base book
    alone None = refl
    alone (Some first) = refl

pub opens_by : (pids : List ℕ) (generation : ℕ) (book : List BookEntry) → generation ≡ generation_of book + 1 → IsOpened generation book (book ++ renewal pids generation)
opens_by [] generation book next = record {
  generation_is = generation_push book (Opened generation) ∙ sym next;
  unredone = redone_push book (Opened generation) ∙ opened (kept_by_redo book);
  none_here = here_push book (Opened generation);
  unchecked = checkpoint_push book (Opened generation);
  unclosed = closed_push book (Opened generation);
  history = λ base. opened_history base book generation;
  tick = tick_push book (Opened generation);
  needs = needs_push book (Opened generation);
  faults = faults_push book (Opened generation);
}
  where
    opened : (redone : Option ℕ) → kept_after redone (Opened generation) ≡ None
    opened None = refl
    opened (Some first) = refl
opens_by (pid ∷ pids) generation book next =
    let then = book ++ Gone pid ∷ [] in
    let is = opens_by pids generation then (next ∙ ap (λ (n : ℕ). n + 1) (sym (generation_push book (Gone pid)))) in
    let same = append_assoc book (Gone pid ∷ []) (renewal pids generation) in
    subst (IsOpened generation book) same (record {
      generation_is = is.generation_is;
      unredone = is.unredone;
      none_here = is.none_here;
      unchecked = is.unchecked;
      unclosed = is.unclosed;
      history = λ base. is.history base ∙ gone_history base book pid;
      tick = is.tick ∙ tick_push book (Gone pid);
      needs = is.needs ∙ needs_push book (Gone pid);
      faults = is.faults ∙ faults_push book (Gone pid);
    })

-- ---- nobody is attached

gone_one : (who pid : ℕ) (pids : List ℕ) (n : ℕ) → (1 ≤ times_in who (pid ∷ pids)) ⊎ (n ≡ 0) → (1 ≤ times_in who pids) ⊎ (cond (nat_eq who pid) 0 n ≡ 0)
gone_one who pid pids n either = turn (nat_eq who pid) refl either
  where
    turn : (b : Bool) → nat_eq who pid ≡ b → (1 ≤ times_in who (pid ∷ pids)) ⊎ (n ≡ 0) → (1 ≤ times_in who pids) ⊎ (cond (nat_eq who pid) 0 n ≡ 0)
    turn true is either = inr (ap (λ (b : Bool). cond {A = ℕ} b 0 n) is)
    turn false is (inl some) =
        let none : once who pid ≡ 0 = ap (λ (b : Bool). cond {A = ℕ} b 1 0) is in
        inl (omega (arith, some, none, sum_by-cons (once who) pid pids))
    turn false is (inr none) = inr (ap (λ (b : Bool). cond {A = ℕ} b 0 n) is ∙ none)

gone_all : (who : ℕ) (pids : List ℕ) (n : ℕ) → (1 ≤ times_in who pids) ⊎ (n ≡ 0) → fold (times_after who) n (map (λ pid. Gone pid) pids) ≡ 0
gone_all who [] n (inl some) = absurd (omega (arith, some))
gone_all who [] n (inr none) = none
gone_all who (pid ∷ pids) n either = gone_all who pids (cond (nat_eq who pid) 0 n) (gone_one who pid pids n either)

-- a child is among those that are gone, or it wasn't attached
pub left_over : (who : ℕ) (pids : List ℕ) (book : List BookEntry) → (1 ≤ times_in who pids) ⊎ (times_attached book who ≡ 0) → times_attached (book ++ map (λ pid. Gone pid) pids) who ≡ 0
left_over who pids book either = fold-append (times_after who) 0 book (map (λ pid. Gone pid) pids) ∙ gone_all who pids (times_attached book who) either

-- each child that is inside is among the gone, or among the others
named : (i g o : ℕ) → o ≡ cond (nat_lt 0 i && nat_eq 0 g) 1 0 → (1 ≤ g + o) ⊎ (i ≡ 0)
named zero g o is = inr refl
named (suc i) zero o is =
    let some : nat_lt 0 (suc i) ≡ true = grind (arith, nat_tests) in
    let one : o ≡ 1 = is ∙ ap (λ (b : Bool). cond {A = ℕ} (b && nat_eq 0 0) 1 0) some in
    inl (omega (arith, one))
named (suc i) (suc g) o is = inl (omega arith)

pub all_named : (inside gone others : List ℕ) (book : List BookEntry) → AreOthers inside gone others → IsAttendedBy inside book
    → (who : ℕ) → (1 ≤ times_in who (gone ++ others)) ⊎ (times_attached book who ≡ 0)
all_named inside gone others book are attended who = elim (named (times_in who inside) (times_in who gone) (times_in who others) (are who)) [
  | inl some ↦ inl (omega (arith, some, sum_by-append (once who) gone others))
  | inr none ↦ inr (attended who ∙ none)
]

-- ---- the book goes on

may_renew : (base : Base) (pids : List ℕ) (generation : ℕ) (book : List BookEntry) → MayGoOn base [] book → generation ≡ generation_of book + 1
    → ((who : ℕ) → times_attached (book ++ map (λ pid. Gone pid) pids) who ≡ 0) → MayGoOn base [] (book ++ renewal pids generation)
may_renew base [] generation book legal next empty =
    goes_on base [] book (Opened generation) legal (record { next = next; empty = λ who. subst (λ (b : List BookEntry). times_attached b who ≡ 0) (append-nil book) (empty who) })
may_renew base (pid ∷ pids) generation book legal next empty =
    subst (λ (b : List BookEntry). MayGoOn base [] b) (append_assoc book (Gone pid ∷ []) (renewal pids generation))
    (may_renew base pids generation (book ++ Gone pid ∷ []) (goes_on base [] book (Gone pid) legal tt) (next ∙ ap (λ (n : ℕ). n + 1) (sym (generation_push book (Gone pid))))
    (λ who. subst (λ (b : List BookEntry). times_attached b who ≡ 0) (sym (append_assoc book (Gone pid ∷ []) (map (λ p. Gone p) pids))) (empty who)))

pub legal_renewal : (base : Base) (pids : List ℕ) (generation : ℕ) (book : List BookEntry) → IsLegal base book → generation ≡ generation_of book + 1
    → ((who : ℕ) → times_attached (book ++ map (λ pid. Gone pid) pids) who ≡ 0) → IsLegal base (book ++ renewal pids generation)
legal_renewal base pids generation book legal next empty = record {
  entries = may_renew base pids generation book legal.entries next empty;
  renewals = renews_on book (renewal pids generation) legal.renewals (renews_itself pids generation);
}

-- nobody is inside
nobody : (pids : List ℕ) (generation : ℕ) (book : List BookEntry) → ((who : ℕ) → times_attached (book ++ map (λ pid. Gone pid) pids) who ≡ 0) → IsAttendedBy [] (book ++ renewal pids generation)
nobody pids generation book empty who =
    ap (λ (l : List BookEntry). times_attached l who) (sym (append_assoc book (map (λ pid. Gone pid) pids) (Opened generation ∷ [])))
    ∙ times_push (book ++ map (λ pid. Gone pid) pids) (Opened generation) who ∙ empty who

no_ticks : (pids : List ℕ) (generation : ℕ) → All HasNoTick (renewal pids generation)
no_ticks [] generation = All-push HasNoTick [] (Opened generation) (All-nil HasNoTick) (λ start mark. tt)
no_ticks (pid ∷ pids) generation = All-append HasNoTick (Gone pid ∷ []) (renewal pids generation) (All-push HasNoTick [] (Gone pid) (All-nil HasNoTick) (λ start mark. tt)) (no_ticks pids generation)

no_redo : (pids : List ℕ) (generation : ℕ) → has_redo (renewal pids generation) ≡ false
no_redo [] generation = refl
no_redo (pid ∷ pids) generation = no_redo pids generation

-- ---- the store goes on

-- the moment after a renewal
abbrev pub with_renewal : Option (List BookEntry) → ℕ → List ℕ → RowMap → List (List Change) → Moment → Moment
with_renewal book generation inside rows staged at = record {
  book = book;
  generation = generation;
  inside = inside;
  rows = rows;
  live = None;
  skipped = false;
  commits = at.commits;
  staged = staged;
  files = at.files;
  images = at.images;
  ticks = at.ticks;
  faults = at.faults;
}

-- a stop leaves what it left
held_gone : PastStays → PresentIsWhole → (origin : Origin) (base : Base) (at : Moment) (pids : List ℕ) (generation : ℕ) (book : List BookEntry) → HasHeld origin base at book → HasHeld origin base at (book ++ renewal pids generation)
held_gone past present_whole origin base at [] generation book held =
    held_alone past present_whole origin base at book (Opened generation) (sym (history_push base book (Opened generation)) ∙ opened_history base book generation) (λ start mark. tt) (λ t. refl) held
held_gone past present_whole origin base at (pid ∷ pids) generation book held =
    subst (HasHeld origin base at) (append_assoc book (Gone pid ∷ []) (renewal pids generation))
    (held_gone past present_whole origin base at pids generation (book ++ Gone pid ∷ [])
    (held_alone past present_whole origin base at book (Gone pid) (sym (history_push base book (Gone pid)) ∙ gone_history base book pid) (λ start mark. tt) (λ t. refl) held))

module _ (past : PastStays) (present_whole : PresentIsWhole) (at : Moment) (book_now : Option (List BookEntry)) (generation : ℕ) (inside_now : List ℕ) (rows_now : RowMap) (staged_now : List (List Change)) (gone others : List ℕ)
    (next : generation ≡ at.generation + 1) (nobody_now : inside_now ≡ []) (are : AreOthers at.inside gone others) where
  abbrev pub pids : List ℕ
  pids = gone ++ others

  abbrev pub now : Moment
  now = with_renewal book_now generation inside_now rows_now staged_now at

  empty_behind : (book : List BookEntry) → IsAttendedBy at.inside book → (who : ℕ) → times_attached (book ++ map (λ pid. Gone pid) pids) who ≡ 0
  empty_behind book attended who = left_over who pids book (all_named at.inside gone others book are attended who)

  attended_now : (book : List BookEntry) → IsAttendedBy at.inside book → IsAttendedBy inside_now (book ++ renewal pids generation)
  attended_now book attended = subst (λ (l : List ℕ). IsAttendedBy l (book ++ renewal pids generation)) (sym nobody_now) (nobody pids generation book (empty_behind book attended))

  waited : (origin : Origin) (book : List BookEntry) → HasWaited origin at book → HasWaited origin now (book ++ renewal pids generation)
  waited origin book is =
      let follows : generation ≡ generation_of book + 1 = next ∙ ap (λ (n : ℕ). n + 1) (sym is.generation) in
      let behind = opens_by pids generation book follows in
      record {
        unread = refl;
        legal = λ base same. legal_renewal base pids generation book (is.legal base same) follows (empty_behind book is.attended);
        fresh = λ base. behind.history base ∙ is.fresh base;
        begun = omega (arith, next);
        generation = behind.generation_is;
        attended = attended_now book is.attended;
        no_redo = redo_neither book (renewal pids generation) is.no_redo (no_redo pids generation);
        unredone = behind.unredone;
        none_here = behind.none_here;
        skipped = behind.unchecked;
        unclosed = behind.unclosed;
        no_ticks = All-append HasNoTick book (renewal pids generation) is.no_ticks (no_ticks pids generation);
        no_time = behind.tick ∙ is.no_time;
        no_needs = behind.needs ∙ is.no_needs;
        counted = record { later = is.counted.later; each = subst (All (IsFaultBy at.faults)) (sym behind.faults) is.counted.each };
        reached = is.reached;
        reads = breaks_push book (renewal pids generation) (at.files ≡ origin.files) is.reads;
      }

  renewed : (base : Base) (book : List BookEntry) → IsLegal base book → 1 ≤ at.generation → generation_of book ≡ at.generation → IsAttendedBy at.inside book → (history_of base book).base ≡ standing_of base
      → bytes_of_rows base.rows ≤ base.bytes → last_tick book ≤ at.ticks → CountsFaults base.faults at.faults book → HasRenewed base now (book ++ renewal pids generation)
  renewed base book legal begun generation_is attended base_is base_fits in_time counted =
      let follows : generation ≡ generation_of book + 1 = next ∙ ap (λ (n : ℕ). n + 1) (sym generation_is) in
      let behind = opens_by pids generation book follows in
      record {
        unread = refl;
        legal = legal_renewal base pids generation book legal follows (empty_behind book attended);
        later = omega (arith, next, begun);
        generation = behind.generation_is;
        attended = attended_now book attended;
        unredone = behind.unredone;
        none_here = behind.none_here;
        skipped = behind.unchecked;
        unclosed = behind.unclosed;
        base_is = ap (λ (h : History). h.base) (behind.history base) ∙ base_is;
        base_fits = base_fits;
        in_time = omega (arith, behind.tick, in_time);
        counted = record { later = counted.later; each = subst (All (IsFaultBy at.faults)) (sym behind.faults) counted.each };
      }

  begun : (base : Base) (book : List BookEntry) → HasBegun base at book → HasRenewed base now (book ++ renewal pids generation)
  begun base book (inl (live, is)) = renewed base book is.legal is.begun is.generation is.attended is.base_is is.base_fits (omega (arith, is.in_time, is.marked)) is.counted
  begun base book (inr is) = renewed base book is.legal (omega (arith, is.later)) is.generation is.attended is.base_is is.base_fits is.in_time is.counted

  held : (origin : Origin) (base : Base) (book : List BookEntry) → HasHeld origin base at book → HasHeld origin base now (book ++ renewal pids generation)
  held origin base book is =
      let still = held_gone past present_whole origin base at pids generation book is in record {
        start = still.start;
        begun = still.begun;
        opening = still.opening;
        mark = still.mark;
        mark_is = λ live read. absurd (not_both None live refl read);
        flushed = still.flushed;
        flushed_is = λ live read. absurd (not_both None live refl read);
        keeps = still.keeps;
        lengths = still.lengths;
        anchored = λ live read. absurd (not_both None live refl read);
      }

  pub renews : rows_now ≡ empty → staged_now ≡ [] → 1 ≤ at.generation → Added (renewal pids generation) at.book book_now → Renews (renewal pids generation) at now
  renews rows unstaged begins notes = record {
    notes = notes;
    generation = next;
    inside = nobody_now;
    rows = rows;
    unread = refl;
    unskipped = refl;
    commits = refl;
    unstaged = unstaged;
    counts = λ from counted. record { later = counted.later; shown = tt };
    waits = λ origin told. waited_on (renewal pids generation) at now origin notes (λ none. none) (λ book is w. waited origin book w) (λ book seen told w opening. opening) told;
    goes_on = λ origin base told. gone_on (renewal pids generation) at now origin base notes (λ none. none) surely (λ book is sure b h. inr (begun base book b)) (λ book seen told b h. held origin base book h) told;
  }
    where
      surely : IsSure now → IsSure at
      surely (inr told) = inr told
      surely (inl first) = inl (omega (arith, first, next, begins))
