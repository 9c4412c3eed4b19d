-- What a redo keeps.
use Rattle.std.{proofs.{Common.{◌≡◌, ◌≢◌, true, false, ◌||◌, ◌⊎◌, inl, inr, ℕ, length, get_or, ◌+◌, ◌-◌, ◌^◌, ◌<◌, ◌≤◌, List, [], ◌∷◌, ◌++◌, All, Option, None, Some, refl, sym, ◌∙◌, ap, subst, arith, append-nil, true≢false}, Math.{Bridge.le_prop, Logic.{∥∥₁_map, ∥∥₁_elim}, Nat.ℕ_set, Bool.or-false}, lemmas.{List.{ext_get_or, Elements.{All-nil, All-push}}, Bool.cases_lt}}, specs.{Prelude.{IfSome, is_some, Err}, Option.option_map, FinMap.get}}
use Rattle.pm_query.{specs.{pm_disk.{Cause.Rose, Disk.TellsStill, Files.Files}, declared.{book.BookEntry.{BookEntry, TheVariants.{Broke, Redone}}, store.StoreNo.TheVariants.Redo}, History.{History, beginning, count_of, kept, number}, Book.{Base, KeepsNumber, TellsFault, ends_checkpoint, ends_cleanly, fault_here, faults_here, faults_of, history_after, history_of, kept_after, kept_by_redo, present, standing_of}, BookLaws.AckedNeverFalls, TickLaws.{PastStays, PresentIsWhole}, Durable.{HoldsFrom, IsWithin}, Calls.{RedoNotes, User}}, proofs.HistoryLaws.{cut_count, history_push}}
use Rattle.pm_rows.{specs.{Limits.{IsWithinRowLimits, max_file_bytes}, Standing.Standing}, proofs.RowLaws.same_rows}
use Rattle.pm_record.{proofs.GateLaws.{same_standing, standing}, specs.{Pair.{Means, MeansIn, MeansWhat, PairStandsFor}, OnDisk.{FollowsWithin, GoesOn, Rests as LogRests}, declared.{found.Found.Found, fault.RedoFault.RedoFault}}}
use Rattle.pm_record.specs.StandsFor as record_specs
use Rattle.pm_redo.specs.Found.{FindsPair, MeansOnly}
use Rattle.pm_log.specs.{Log.{Lives, resumed}, declared.log.Log.Log}
use Rattle.pm_store_apart.{specs.{declared.live.Live.Live, Moment.Moment, Moves.{BreakIsShown, IsCountedFrom, IsShown, IsShownAt, Moves}, MovesLaws.unread_still, Unread.{has_break, has_redo}, UnreadLaws.{break_behind, breaks_early}, Rests.{HasRows, Rests}, Children.IsAttendedBy, Stands.{Begins, HasBegun, HasGone, HasHeld, HasRenewed, HasWaited, IsAnchored, IsBaseOf, IsOpening, IsSure, MeansWithin, Origin, WaitsFrom, bytes_of_rows, most_bytes}, Fronts.{flushed_of, whole_of}, Redos.IsFoundIn}, proofs.{Books.{any_still, attended_still, each_later, each_push, gone_push, renewed_push, tells_new, waited_push}, Resting.{limits_bare, means_now, tells_nothing}, RunsLaws.{beginning_kept, beginning_number, cut_number, goes_by, notes_cut, opens}, StepsLaws.{Attends, IsQuiet, ahead_found, ahead_unread, anchored_unread, anchored_whole, attends_in, began_unread, counted_now, drop_none, gone_quiet, gone_unread, held_alone, held_quiet, lengths_push, means_some, no_fault_shown, no_files, nobody_moves, not_both, opening_on, same_live, some_none, up_to_unread, still, tells_none, waited_on, with_book}}}
use Rattle.pm_outside.specs.Added.{Added}
use Rattle.pm_record.specs.declared.fault.RedoFault.TheVariants as fault

-- the laws of books that a redo keeps: of ticks, and of what is acknowledged
pub record Laws : Type 0 where
  pub past : PastStays
  pub present : PresentIsWhole
  pub acked : AckedNeverFalls

-- ---- what is known up to truncation, where that is all

same_list : (a b : List ℕ) → ∥ a ≡ b ∥₁ → a ≡ b
same_list a b is = ext_get_or 0 a b (∥∥₁_elim is (hlevel ℕ_set) (λ e. ap length e)) (λ i lt. ∥∥₁_elim is (hlevel ℕ_set) (λ e. ap (λ (l : List ℕ). get_or l i 0) e))

abbrev value_or : Option (List ℕ) → List ℕ
value_or None = []
value_or (Some value) = value

abbrev has_value : Option (List ℕ) → Type 0
has_value None = ⊥
has_value (Some value) = Unit {0}

not_none : (value : List ℕ) → ∥ Some value ≡ None ∥₁ → ⊥
not_none value is = ∥∥₁_elim is (hlevel) (λ e. subst has_value e tt)

same_value : (a b : Option (List ℕ)) → ∥ a ≡ b ∥₁ → a ≡ b
same_value None None is = refl
same_value None (Some b) is = absurd (not_none b (∥∥₁_map is (λ e. sym e)))
same_value (Some a) None is = absurd (not_none a is)
same_value (Some a) (Some b) is = ap (λ (l : List ℕ). Some l) (same_list a b (∥∥₁_map is (λ e. ap value_or e)))

-- calls that read leave an opening
pub opening_follows : (origin : Origin) (before now : ℕ) (i k : ℕ → Files → Type 0) → origin.tick ≤ before → IsOpening origin before i → GoesOn before now i k → FollowsWithin MeansWhat before now i k → IsOpening origin now k
opening_follows origin before now i k reached opening time follows = λ t le ge image there. elim (cases_lt before t) [
  | inl behind ↦
      let step = follows t (omega (arith, behind)) ge image there in
      ∥∥₁_map (opening before reached (omega arith) step.0 step.1) (λ e.
      (e.0, (time.past origin.tick reached e.0).1 e.1, λ s m. let first = e.2 s m in (first.0, step.2 s first.0 first.1)))
  | inr early ↦ ∥∥₁_map (opening t le early image ((time.past t early image).0 there)) (λ e. (e.0, (time.past origin.tick reached e.0).1 e.1, e.2))
]

-- what a call that finds nothing says of two moments
pub record Reads (before now : Moment) : Type 0 where
  pub generation : now.generation ≡ before.generation
  pub commits : now.commits ≡ before.commits
  pub inside : now.inside ≡ before.inside
  pub unread : before.live ≡ None
  pub unread_now : now.live ≡ None
  pub skipped : now.skipped ≡ before.skipped
  pub time : GoesOn before.ticks now.ticks before.images now.images
  pub later : before.faults ≤ now.faults
  pub tells : before.files ≡ None → now.files ≡ None
  pub follows : IfSome before.files (λ files. FollowsWithin MeansWhat before.ticks now.ticks before.images now.images)

follows_in : (before now : Moment) (seen : Files) → before.files ≡ Some seen → Reads before now → FollowsWithin MeansWhat before.ticks now.ticks before.images now.images
follows_in before now seen tells reads = subst (λ (f : Option Files). IfSome f (λ files. FollowsWithin MeansWhat before.ticks now.ticks before.images now.images)) tells reads.follows

opening_read : (before now : Moment) (origin : Origin) → Reads before now → (book : List BookEntry) (seen : Files) → before.files ≡ Some seen → HasWaited origin before book → IsOpening origin before.ticks before.images
    → IsOpening origin now.ticks now.images
opening_read before now origin reads book seen tells waited opening =
    opening_follows origin before.ticks now.ticks before.images now.images waited.reached opening reads.time (follows_in before now seen tells reads)

counts_unread : (from before now : ℕ) (o o_now : Option Live) → before ≤ now → o_now ≡ None → IsCountedFrom from before o → IsCountedFrom from now o_now
counts_unread from before now o o_now le unread counted = record { later = omega (arith, counted.later, le); shown = subst (BreakIsShown from now) (sym unread) tt }

-- a stop in a call that reads leaves what a stop before it leaves
follows_holds : (base : Base) (before now : Moment) (book : List BookEntry) (flushed : ℕ) → FollowsWithin MeansWhat before.ticks now.ticks before.images now.images
    → ((image : Files) → before.images before.ticks image → HoldsFrom (MeansWithin (most_bytes base book)) flushed (history_of base book) image)
    → (t : ℕ) → before.ticks ≤ t → t ≤ now.ticks → (image : Files) → now.images t image → HoldsFrom (MeansWithin (most_bytes base book)) flushed (history_of base book) image
follows_holds base before now book flushed follows holds t le ge image there =
    let step = follows t le ge image there in
    ∥∥₁_map (holds step.0 step.1) (λ h. (h.0, h.1, h.2, (h.3.0, h.3.1, step.2 (number (history_of base book) h.0) h.3.0 h.3.2)))

held_follows : PastStays → PresentIsWhole → (origin : Origin) (base : Base) (before now : Moment) (book : List BookEntry) → now.live ≡ None → GoesOn before.ticks now.ticks before.images now.images
    → FollowsWithin MeansWhat before.ticks now.ticks before.images now.images → HasHeld origin base before book → HasHeld origin base now book
held_follows past present_whole origin base before now book unread time follows held =
    let h = history_of base book in
    let most = most_bytes base book in
    let holds = follows_holds base before now book held.flushed follows held.lengths in
    record {
      start = held.start;
      begun = held.begun;
      opening = opening_on origin held.start before.ticks now.ticks before.images now.images held.begun (omega (arith, held.keeps.begun, held.keeps.marked)) time held.opening;
      mark = now.ticks;
      mark_is = λ live is. absurd (not_both now.live live unread is);
      flushed = held.flushed;
      flushed_is = λ live is. absurd (not_both now.live live unread is);
      keeps = goes_by past present_whole base book held.start held.mark before.ticks held.flushed now.ticks held.flushed before.images now.images held.keeps time
          (λ t le ge image there. means_some most h held.flushed image (holds t le ge image there)) (omega arith) held.keeps.whole
          (λ image there. means_some most h held.flushed image (holds now.ticks time.later (omega arith) image there));
      lengths = λ image there. holds now.ticks time.later (omega arith) image there;
      anchored = anchored_unread now h unread;
    }

-- it was refused, and the files read as they did
pub reads_nothing : PastStays → PresentIsWhole → (before now : Moment) → Reads before now → Added [] before.book now.book → now.files ≡ before.files → Moves [] before now
reads_nothing past present_whole before now reads notes same = record {
  spans = record {
    notes = notes;
    time = reads.time;
    later = reads.later;
    counts = λ from counted. record { counted = counts_unread from before.faults now.faults before.live now.live reads.later reads.unread_now counted; each = All-nil (IsShown from now.faults) };
    waits = λ origin told. inl (waited_on [] before now origin notes reads.tells (λ book is waited. subst (HasWaited origin now) (sym (append-nil book)) (waits origin book waited)) (opening_read before now origin reads) told);
    goes_on = λ origin base told. gone_unread [] before now origin base reads.unread reads.generation notes reads.tells
        (λ book is sure renewed held. inr (subst (HasRenewed base now) (sym (append-nil book)) (renews base book renewed)))
        (λ book seen tells renewed held. subst (HasHeld origin base now) (sym (append-nil book))
        (held_follows past present_whole origin base before now book reads.unread_now reads.time (follows_in before now seen tells reads) held)) told;
  };
  generation = reads.generation;
  commits = reads.commits;
  attends = nobody_moves [] before now reads.inside (λ who n. refl);
  unread = unread_still [] before now refl (ap is_some (reads.unread_now ∙ sym reads.unread)) same;
  staged = up_to_unread whole_of before.live now.live reads.unread;
  flushed = up_to_unread flushed_of before.live now.live reads.unread;
  began = began_unread before.live now.live reads.unread;
  ahead = ahead_unread [] before.live now.live reads.unread reads.unread_now refl;
}
  where
    reads_still : (book : List BookEntry) (files files_now first : Option Files) → files_now ≡ files → (has_break book ≡ true) ⊎ (files ≡ first) → (has_break book ≡ true) ⊎ (files_now ≡ first)
    reads_still book files files_now first same (inl breaks) = inl breaks
    reads_still book files files_now first same (inr was) = inr (same ∙ was)

    waits : (origin : Origin) (book : List BookEntry) → HasWaited origin before book → HasWaited origin now book
    waits origin book waited = record {
      unread = reads.unread_now;
      legal = waited.legal;
      fresh = waited.fresh;
      begun = subst (λ (n : ℕ). 1 ≤ n) (sym reads.generation) waited.begun;
      generation = waited.generation ∙ sym reads.generation;
      attended = subst (λ (l : List ℕ). IsAttendedBy l book) (sym reads.inside) waited.attended;
      no_redo = waited.no_redo;
      unredone = waited.unredone;
      none_here = waited.none_here;
      skipped = waited.skipped ∙ sym reads.skipped;
      unclosed = waited.unclosed;
      no_ticks = waited.no_ticks;
      no_time = waited.no_time;
      no_needs = waited.no_needs;
      counted = record { later = omega (arith, waited.counted.later, reads.later); each = each_later before.faults now.faults (faults_of book) reads.later waited.counted.each };
      reached = omega (arith, waited.reached, reads.time.later);
      reads = reads_still book before.files now.files origin.files same waited.reads;
    }

    renews : (base : Base) (book : List BookEntry) → HasRenewed base before book → HasRenewed base now book
    renews base book renewed = record {
      unread = reads.unread_now;
      legal = renewed.legal;
      later = omega (arith, renewed.later, reads.generation);
      generation = renewed.generation ∙ sym reads.generation;
      attended = subst (λ (l : List ℕ). IsAttendedBy l book) (sym reads.inside) renewed.attended;
      unredone = renewed.unredone;
      none_here = renewed.none_here;
      skipped = renewed.skipped ∙ sym reads.skipped;
      unclosed = renewed.unclosed;
      base_is = renewed.base_is;
      base_fits = renewed.base_fits;
      in_time = omega (arith, renewed.in_time, reads.time.later);
      counted = record { later = omega (arith, renewed.counted.later, reads.later); each = each_later before.faults now.faults (faults_of book) reads.later renewed.counted.each };
    }

-- the disk failed
pub reads_fault : PastStays → PresentIsWhole → (before now : Moment) (pid since : ℕ) → Reads before now → Rose before.faults now.faults → now.faults < 2 ^ 64 → Attends pid before.book → Added (Broke pid since now.faults ∷ []) before.book now.book
    → Moves (Broke pid since now.faults ∷ []) before now
reads_fault past present_whole before now pid since reads rose small inside notes =
    let entry : BookEntry = Broke pid since now.faults in record {
      spans = record {
        notes = notes;
        time = reads.time;
        later = reads.later;
        counts = λ from counted. record {
          counted = counts_unread from before.faults now.faults before.live now.live reads.later reads.unread_now counted;
          each = no_fault_shown from now.faults entry (omega (arith, counted.later, rose));
        };
        waits = λ origin told. inl (waited_on (entry ∷ []) before now origin notes reads.tells (λ book is waited.
            let new = tells_new origin.faults before.faults now.faults (faults_of book) waited.counted.later waited.counted.each rose reads.later small in
            waited_push origin now book entry reads.unread_now (subst (λ (n : ℕ). 1 ≤ n) (sym reads.generation) waited.begun)
            (subst (λ (l : List ℕ). IsAttendedBy l (book ++ entry ∷ [])) (sym reads.inside) (attended_still before.inside book entry (λ who n. refl) waited.attended)) waited.legal waited.fresh waited.no_redo waited.unredone waited.none_here waited.no_ticks tt
            (λ base same. record {
              attached = attends_in pid before.book book is inside;
              fault = subst (λ (f : Option (List (ℕ × ℕ))). TellsFault base book f since now.faults) (sym waited.none_here)
                  (subst (λ (n : ℕ). ((n < now.faults) × All (λ (fault : ℕ × ℕ). fault.1 < now.faults) (faults_of book)) ⊎ (now.faults ≡ 2 ^ 64 - 1)) (sym same) new);
            })
            (λ base. refl) (waited.generation ∙ sym reads.generation) refl refl
            (any_still ends_checkpoint (present book) entry now.skipped (waited.skipped ∙ sym reads.skipped) refl) (any_still ends_cleanly (present book) entry false waited.unclosed refl)
            (λ start mark. tt) waited.no_time waited.no_needs (omega (arith, waited.counted.later, reads.later)) (each_push before.faults now.faults since (faults_of book) reads.later waited.counted.each)
            (omega (arith, waited.reached, reads.time.later)) (inl (break_behind book (entry ∷ []) refl))) (opening_read before now origin reads) told);
        goes_on = λ origin base told. gone_unread (entry ∷ []) before now origin base reads.unread reads.generation notes reads.tells
            (λ book is sure renewed held.
            let new = tells_new base.faults before.faults now.faults (faults_of book) renewed.counted.later renewed.counted.each rose reads.later small in
            inr (renewed_push base before now book entry reads.unread_now reads.generation
            (subst (λ (l : List ℕ). IsAttendedBy l (book ++ entry ∷ [])) (sym reads.inside) (attended_still before.inside book entry (λ who n. refl) renewed.attended)) tt
            (record { attached = attends_in pid before.book book is inside; fault = subst (λ (f : Option (List (ℕ × ℕ))). TellsFault base book f since now.faults) (sym renewed.none_here) new })
            (λ n. refl) refl refl
            (any_still ends_checkpoint (present book) entry now.skipped (renewed.skipped ∙ sym reads.skipped) refl) (any_still ends_cleanly (present book) entry false renewed.unclosed refl)
            refl (omega (arith, renewed.in_time, reads.time.later)) (omega (arith, renewed.counted.later, reads.later)) (each_push before.faults now.faults since (faults_of book) reads.later renewed.counted.each) renewed))
            (λ book seen tells renewed held.
            held_alone past present_whole origin base now book entry (ap (λ (r : Option ℕ). history_after r (history_of base book) entry) renewed.unredone) (λ start mark. tt) (λ t. refl)
            (held_follows past present_whole origin base before now book reads.unread_now reads.time (follows_in before now seen tells reads) held)) told;
      };
      generation = reads.generation;
      commits = reads.commits;
      attends = nobody_moves (entry ∷ []) before now reads.inside (λ who n. refl);
      unread = record { read = ap is_some (reads.unread_now ∙ sym reads.unread) ∙ sym (or-false (is_some before.live)); files = λ none. inl refl };
      staged = up_to_unread whole_of before.live now.live reads.unread;
      flushed = up_to_unread flushed_of before.live now.live reads.unread;
      began = began_unread before.live now.live reads.unread;
      ahead = ahead_unread (entry ∷ []) before.live now.live reads.unread reads.unread_now refl;
    }

-- a redo of a generation that has one already
pub redoes_again : PastStays → PresentIsWhole → (at : Moment) (live : Live) (book_now : Option (List BookEntry)) (pid : ℕ) → at.live ≡ Some live → Attends pid at.book
    → Added (Redone pid at.generation live.kept ∷ []) at.book book_now → Moves (Redone pid at.generation live.kept ∷ []) at (with_book book_now at)
redoes_again past present_whole at live book_now pid read inside notes =
    still (entry ∷ []) at live book_now read notes (λ who n. refl) (λ from counted. no_fault_shown from at.faults entry tt) refl
    (λ base book told is.
    gone_quiet base at live book_now at.inside book entry quiet
    (record {
      present = sym is.generation;
      attached = attends_in pid at.book book told inside;
      number = subst (λ (r : Option ℕ). KeepsNumber book r (history_of base book) live.kept) (sym is.redone) refl;
    }) (attended_still at.inside book entry (λ who n. refl) is.attended) is)
    (λ origin base book is held. held_quiet past present_whole origin base at live book_now at.inside book entry quiet is held)
  where
    entry : BookEntry
    entry = Redone pid at.generation live.kept

    quiet : IsQuiet live.kept entry
    quiet = record { not_gone = tt; generation = λ n. refl; redone = refl; present_is = λ es. refl; unclean = refl; history = λ h. refl; tick = λ n. refl; faults = λ fs. refl; here = λ fs. refl; need = λ n. refl; no_tick = λ start mark. tt; hidden = λ t. refl }

-- ---- the first redo of all

-- what was found, in the files as they read before and after it
abbrev pub FindsNow : Found → (Files → Type 0) → Files → Files → Type 0
FindsNow found images files now = FindsPair found files (λ content. LogRests found.file content found.end now images)

pub record Redoes (before now : Moment) (found : Found) (new : Live) : Type 0 where
  pub generation : now.generation ≡ before.generation
  pub commits : now.commits ≡ before.commits
  pub inside : now.inside ≡ before.inside
  pub unread : before.live ≡ None
  pub unskipped : before.skipped ≡ false
  pub read_now : now.live ≡ Some new
  pub log : new.log ≡ resumed found max_file_bytes
  pub kept : new.kept ≡ found.count
  pub first : new.epoch ≡ found.epoch
  pub closed : new.closed ≡ false
  pub front : new.front ≡ found.count
  pub needs : new.needs ≡ 0
  pub mark : new.mark ≡ now.ticks
  pub unstaged : now.staged ≡ []
  pub rests : ∥ Rests now.live now.rows now.staged now.files (now.images now.ticks) ∥₁
  pub rows : now.rows ≡ found.rows
  pub fits : bytes_of_rows found.rows ≤ found.end + 1
  pub time : GoesOn before.ticks now.ticks before.images now.images
  pub later : before.faults ≤ now.faults
  pub finds : TellsStill (FindsNow found (now.images now.ticks)) before.files now.files
  pub exact : IfSome before.files (MeansOnly found)
  pub reads : IfSome before.files (before.images before.ticks)
  pub follows : IfSome before.files (λ files. FollowsWithin MeansWhat before.ticks now.ticks before.images now.images)

-- what it found, as a base
abbrev pub base_found : Found → ℕ → Base
base_found found faults = record { rows = found.rows; count = found.count; bytes = found.end + 1; faults = faults }

-- a history after it begins
begun_at : (base : Base) (book : List BookEntry) (pid generation : ℕ) → history_of base book ≡ beginning (standing_of base) → kept_by_redo book ≡ None
    → history_after (kept_by_redo book) (history_of base book) (Redone pid generation base.count) ≡ beginning (standing_of base)
begun_at base book pid generation fresh unredone =
    ap (λ (r : Option ℕ). history_after r (history_of base book) (Redone pid generation base.count)) unredone
    ∙ ap (λ (h : History). history_after None h (Redone pid generation base.count)) fresh ∙ beginning_kept (standing_of base)

redone_gone : (origin : Origin) (before now : Moment) (found : Found) (new : Live) (book : List BookEntry) (pid : ℕ)
    → Redoes before now found new → before.book ≡ Some book → Attends pid before.book → HasWaited origin before book
    → HasGone (base_found found origin.faults) now new (book ++ Redone pid before.generation found.count ∷ [])
redone_gone origin before now found new book pid redoes told inside waited =
    let base = base_found found origin.faults in
    let entry : BookEntry = Redone pid before.generation found.count in
    let whole : new.log.since ≡ None = ap (λ (l : Log). l.since) redoes.log in
    let count : new.log.count ≡ found.count = ap (λ (l : Log). l.count) redoes.log in
    let fresh : history_of base book ≡ beginning (standing_of base) = waited.fresh base in
    gone_push base now new book entry (beginning (standing_of base)) redoes.read_now (waited.legal base refl) (waited.generation ∙ sym redoes.generation)
    (record {
      not_gone = tt;
      may = record {
        present = sym waited.generation;
        attached = attends_in pid before.book book told inside;
        number = subst (λ (r : Option ℕ). KeepsNumber book r (history_of base book) found.count) (sym waited.unredone)
            (omega (arith, ap (λ (h : History). h.acked) fresh), omega (arith, ap (λ (h : History). count_of h) fresh), waited.skipped ∙ redoes.unskipped);
      };
      begun = subst (λ (n : ℕ). 1 ≤ n) (sym redoes.generation) waited.begun;
      generation = λ n. refl;
      attended = subst (λ (l : List ℕ). IsAttendedBy l (book ++ entry ∷ [])) (sym redoes.inside) (attended_still before.inside book entry (λ who n. refl) waited.attended);
      base_fits = redoes.fits;
      redone = ap (λ (r : Option ℕ). kept_after r entry) waited.unredone ∙ ap (λ (n : ℕ). Some n) (sym redoes.kept);
      closed_is = any_still ends_cleanly (present book) entry false waited.unclosed refl ∙ sym redoes.closed;
      history_is = begun_at base book pid before.generation fresh waited.unredone;
      in_time = omega (arith, waited.no_time);
      marked = omega (arith, redoes.mark);
      based = omega (arith, count);
      acked = omega (arith, count);
      behind = λ open_log. drop_none (beginning (standing_of base)) base.count new.log.count refl (omega (arith, count)) ∙ sym redoes.unstaged;
      each = each_later before.faults now.faults (faults_of book) redoes.later waited.counted.each;
    })
    (tells_none new.log.since new.faults (fault_here (faults_here book) entry) whole (ap (λ (f : Option (List (ℕ × ℕ))). fault_here f entry) waited.none_here))
    (λ since broke. absurd (some_none since (sym broke ∙ whole)))
    redoes.rows (λ open_log. omega (arith, redoes.front)) refl
    (λ open_log. omega (arith, redoes.needs, ap (λ (l : Log). l.end) redoes.log)) (ap (λ (l : Log). l.limit) redoes.log)
    (omega (arith, waited.counted.later, redoes.later))

-- the base itself is a number of a history that begins with it
begins_within : (base : Base) (book : List BookEntry) (bytes : ℕ) (image : Files) → history_of base book ≡ beginning (standing_of base) → bytes ≤ most_bytes base book → MeansIn image (standing_of base) bytes
    → HoldsFrom (MeansWithin (most_bytes base book)) base.count (history_of base book) image
begins_within base book bytes image is le means =
    subst (λ (h : History). HoldsFrom (MeansWithin (most_bytes base book)) base.count h image) (sym is)
    ∣ (base.count, omega arith, omega arith, subst (λ (s : Standing). MeansWithin (most_bytes base book) image s) (beginning_number (standing_of base)) (bytes, le, means)) ∣₁

-- where the disk tells, whatever a stop leaves means what was found
redone_held : (origin : Origin) (before now : Moment) (found : Found) (new : Live) (book : List BookEntry) (pid : ℕ) (files files_now : Files)
    → Redoes before now found new → FollowsWithin MeansWhat before.ticks now.ticks before.images now.images → (finds : FindsNow found (now.images now.ticks) files files_now)
    → HasWaited origin before book → IsOpening origin before.ticks before.images → HasHeld origin (base_found found origin.faults) now (book ++ Redone pid before.generation found.count ∷ [])
redone_held origin before now found new book pid files files_now redoes follows finds waited opening =
    let base = base_found found origin.faults in
    let entry : BookEntry = Redone pid before.generation found.count in
    let history : history_of base (book ++ entry ∷ []) ≡ beginning (standing_of base) = history_push base book entry ∙ begun_at base book pid before.generation (waited.fresh base) waited.unredone in
    let same : record_specs.standing_of finds.content ≡ standing_of base = same_standing _ _ _ _ (sym finds.is.rows) (sym finds.is.count) in
    let means : (image : Files) → now.images now.ticks image → MeansIn image (standing_of base) (found.end + 1) =
    λ image there. subst (λ (s : Standing). MeansIn image s (found.end + 1)) same (means_now found.file finds.content found.end files_now (now.images now.ticks) finds.besides image there) in
    record {
      start = now.ticks;
      begun = omega (arith, waited.reached, redoes.time.later);
      opening = opening_follows origin before.ticks now.ticks before.images now.images waited.reached opening redoes.time follows;
      mark = now.ticks;
      mark_is = λ live is. sym (ap (λ (l : Live). l.mark) (same_live now.live live new is redoes.read_now) ∙ redoes.mark);
      flushed = found.count;
      flushed_is = λ live is. sym (ap (λ (l : Live). l.log.count) (same_live now.live live new is redoes.read_now) ∙ ap (λ (l : Log). l.count) redoes.log);
      keeps = opens base (book ++ entry ∷ []) now.ticks now.images history
          (All-push (IsWithin now.ticks now.ticks) book entry (λ k d lt. waited.no_ticks k d lt now.ticks now.ticks) tt)
          (λ image there. (found.end + 1, means image there));
      lengths = λ image there. begins_within base (book ++ entry ∷ []) (found.end + 1) image history (omega arith) (means image there);
      anchored = subst (IsAnchored now) (sym history)
          (anchored_whole now (beginning (standing_of base)) new redoes.read_now redoes.unstaged redoes.rows (omega (arith, ap (λ (l : Log). l.count) redoes.log)) redoes.rests);
    }

-- the files that were read at first mean it, where they are told
base_read : (origin : Origin) (base_faults : ℕ) (book more : List BookEntry) (before now : Option Files) (found : Found) (images : Files → Type 0) → has_redo book ≡ false
    → TellsStill (FindsNow found images) before now → (has_break book ≡ true) ⊎ (before ≡ origin.files) → IsBaseOf origin (base_found found base_faults) (book ++ more)
base_read origin base_faults book more before now found images none finds (inl breaks) = inl (breaks_early book more none breaks)
base_read origin base_faults book more before now found images none finds (inr reads) =
    inr (subst (λ (f : Option Files). IfSome f (λ its. MeansIn its (standing found.rows found.count) (found.end + 1))) reads (means before now finds))
  where
    means : (files files_now : Option Files) → TellsStill (FindsNow found images) files files_now → IfSome files (λ its. MeansIn its (standing found.rows found.count) (found.end + 1))
    means None files_now finds = tt
    means (Some files) None finds = absurd finds
    means (Some files) (Some files_now) finds = record {
      file = found.file;
      content = finds.content;
      end = found.end;
      pair = finds.pair;
      is = same_standing _ _ _ _ (sym finds.is.rows) (sym finds.is.count);
      long = refl;
    }

-- ---- a redo of a later generation

-- The log was read as a number of the history: no less than what is flushed, and no more than there is; and it is no longer
-- than the log may have become.
pub record IsNumber (history : History) (flushed most : ℕ) (found : Found) : Type 0 where
  pub least : flushed ≤ found.count
  pub whole : found.count ≤ count_of history
  pub rows : (number history found.count).rows ≡ found.rows
  pub long : found.end + 1 ≤ most

found_number : (history : History) (flushed most : ℕ) (found : Found) (files : Files) → MeansOnly found files → HoldsFrom (MeansWithin most) flushed history files → IsNumber history flushed most found
found_number history flushed most found files only holds = record {
  least = ∥∥₁_elim holds (hlevel le_prop) (λ h. omega (arith, h.1, ap (λ (s : Standing). s.count) (only (number history h.0) h.3.0 h.3.2).0));
  whole = ∥∥₁_elim holds (hlevel le_prop) (λ h. omega (arith, h.2, ap (λ (s : Standing). s.count) (only (number history h.0) h.3.0 h.3.2).0));
  rows = same_rows (number history found.count).rows found.rows (λ q. same_value (get (number history found.count).rows q) (get found.rows q) (∥∥₁_map holds (λ h.
      let e = (only (number history h.0) h.3.0 h.3.2).0 in
      let n : h.0 ≡ found.count = ap (λ (s : Standing). s.count) e in
      ap (λ (k : ℕ). get (number history k).rows q) (sym n) ∙ ap (λ (s : Standing). get s.rows q) e)));
  long = ∥∥₁_elim holds (hlevel le_prop) (λ h. omega (arith, h.3.1, (only (number history h.0) h.3.0 h.3.2).1));
}

-- what the files mean where a stop would have left a number of the history
number_found : (origin : Origin) (base : Base) (before : Moment) (book : List BookEntry) (found : Found) (files : Files) → MeansOnly found files → before.images before.ticks files
    → (held : HasHeld origin base before book) → IsNumber (history_of base book) held.flushed (most_bytes base book) found × ((history_of base book).acked ≤ held.flushed)
number_found origin base before book found files only there held =
    (found_number (history_of base book) held.flushed (most_bytes base book) found files only (held.lengths files there), held.keeps.acked)

-- a disk of which a later generation is sure tells its files
told_before : (before now : Moment) → 2 ≤ now.generation → (before.files ≡ None → now.files ≡ None) → IsSure now → (seen : Files) × (before.files ≡ Some seen)
told_before before now later tells (inl first) = absurd (omega (arith, later, first))
told_before before now later tells (inr told) = each before.files refl
  where
    each : (f : Option Files) → before.files ≡ f → (seen : Files) × (before.files ≡ Some seen)
    each None none = absurd (no_files told.0 (sym told.1 ∙ tells none))
    each (Some files) is = (files, is)

-- the base's number is no greater than what is acknowledged
base_acked : Laws → (base : Base) (book : List BookEntry) → base.count ≤ (history_of base book).acked
base_acked laws base book = laws.acked base [] book

redone_later : Laws → (base : Base) (before now : Moment) (found : Found) (new : Live) (book : List BookEntry) (pid : ℕ) → Redoes before now found new → before.book ≡ Some book → Attends pid before.book
    → HasRenewed base before book → {flushed : ℕ} → IsNumber (history_of base book) flushed (most_bytes base book) found × ((history_of base book).acked ≤ flushed)
    → HasGone base now new (book ++ Redone pid before.generation found.count ∷ [])
redone_later laws base before now found new book pid redoes told inside renewed {flushed} (is, acked) =
    let entry : BookEntry = Redone pid before.generation found.count in
    let h = history_of base book in
    let whole : new.log.since ≡ None = ap (λ (l : Log). l.since) redoes.log in
    let count : new.log.count ≡ found.count = ap (λ (l : Log). l.count) redoes.log in
    let least : h.base.count ≤ found.count = omega (arith, ap (λ (s : Standing). s.count) renewed.base_is, base_acked laws base book, acked, is.least) in
    gone_push base now new book entry (kept h found.count) redoes.read_now renewed.legal (renewed.generation ∙ sym redoes.generation)
    (record {
      not_gone = tt;
      may = record {
        present = sym renewed.generation;
        attached = attends_in pid before.book book told inside;
        number = subst (λ (r : Option ℕ). KeepsNumber book r h found.count) (sym renewed.unredone) (omega (arith, acked, is.least), is.whole, renewed.skipped ∙ redoes.unskipped);
      };
      begun = omega (arith, renewed.later, redoes.generation);
      generation = λ n. refl;
      attended = subst (λ (l : List ℕ). IsAttendedBy l (book ++ entry ∷ [])) (sym redoes.inside) (attended_still before.inside book entry (λ who n. refl) renewed.attended);
      redone = ap (λ (r : Option ℕ). kept_after r entry) renewed.unredone ∙ ap (λ (n : ℕ). Some n) (sym redoes.kept);
      closed_is = any_still ends_cleanly (present book) entry false renewed.unclosed refl ∙ sym redoes.closed;
      history_is = ap (λ (r : Option ℕ). history_after r h entry) renewed.unredone;
      in_time = omega (arith, renewed.in_time, redoes.time.later, redoes.mark);
      marked = omega (arith, redoes.mark);
      based = omega (arith, count, least, ap (λ (s : Standing). s.count) renewed.base_is);
      acked = omega (arith, count, acked, is.least);
      behind = λ open_log. drop_none (kept h found.count) base.count new.log.count (ap (λ (s : Standing). s.count) renewed.base_is) (count ∙ sym (cut_count h found.count least is.whole)) ∙ sym redoes.unstaged;
      each = each_later before.faults now.faults (faults_of book) redoes.later renewed.counted.each;
      base_fits = renewed.base_fits;
    })
    (tells_none new.log.since new.faults (fault_here (faults_here book) entry) whole (ap (λ (f : Option (List (ℕ × ℕ))). fault_here f entry) renewed.none_here))
    (λ since broke. absurd (some_none since (sym broke ∙ whole)))
    (redoes.rows ∙ sym is.rows) (λ open_log. redoes.front ∙ sym (cut_count h found.count least is.whole)) renewed.base_is
    (λ open_log. omega (arith, redoes.needs, ap (λ (l : Log). l.end) redoes.log, is.long)) (ap (λ (l : Log). l.limit) redoes.log)
    (omega (arith, renewed.counted.later, redoes.later))

held_later : Laws → (origin : Origin) (base : Base) (before now : Moment) (found : Found) (new : Live) (book : List BookEntry) (pid : ℕ) (seen : Files) → Redoes before now found new → before.files ≡ Some seen
    → HasRenewed base before book → HasHeld origin base before book → HasHeld origin base now (book ++ Redone pid before.generation found.count ∷ [])
held_later laws origin base before now found new book pid seen redoes tells renewed held =
    behind now.files (subst (λ (f : Option Files). TellsStill (FindsNow found (now.images now.ticks)) f now.files) tells redoes.finds)
  where
    entry : BookEntry
    entry = Redone pid before.generation found.count

    h : History
    h = history_of base book

    is : IsNumber (history_of base book) held.flushed (most_bytes base book) found × ((history_of base book).acked ≤ held.flushed)
    is = number_found origin base before book found seen (subst (λ (f : Option Files). IfSome f (MeansOnly found)) tells redoes.exact) (subst (λ (f : Option Files). IfSome f (before.images before.ticks)) tells redoes.reads) held

    follows : FollowsWithin MeansWhat before.ticks now.ticks before.images now.images
    follows = subst (λ (f : Option Files). IfSome f (λ its. FollowsWithin MeansWhat before.ticks now.ticks before.images now.images)) tells redoes.follows

    least : (history_of base book).base.count ≤ found.count
    least = omega (arith, ap (λ (s : Standing). s.count) renewed.base_is, base_acked laws base book, is.1, is.0.least)

    count : count_of (kept (history_of base book) found.count) ≡ found.count
    count = cut_count (history_of base book) found.count least is.0.whole

    counted : found.count ≤ count_of (kept (history_of base book) found.count)
    counted = omega (arith, count)

    behind : (files_now : Option Files) → TellsStill (FindsNow found (now.images now.ticks)) (Some seen) files_now → HasHeld origin base now (book ++ Redone pid before.generation found.count ∷ [])
    behind None finds = absurd finds
    behind (Some files_now) finds =
        let n = found.count in
        let most = most_bytes base book in
        let standing_is : record_specs.standing_of finds.content ≡ number h n = same_standing _ _ _ _ (sym finds.is.rows ∙ sym is.0.rows) (sym finds.is.count) in
        let means : (image : Files) → now.images now.ticks image → MeansIn image (number h n) (found.end + 1) =
        λ image there. subst (λ (s : Standing). MeansIn image s (found.end + 1)) standing_is (means_now found.file finds.content found.end files_now (now.images now.ticks) finds.besides image there) in
        let holds = follows_holds base before now book held.flushed follows held.lengths in
        let run = goes_by laws.past laws.present base book held.start held.mark before.ticks held.flushed now.ticks n before.images now.images held.keeps redoes.time
        (λ t le ge image there. means_some most h held.flushed image (holds t le ge image there)) is.0.least is.0.whole
        (λ image there. ∣ (n, omega arith, is.0.whole, (found.end + 1, means image there)) ∣₁) in
        let history : history_after (kept_by_redo book) h entry ≡ kept h n = ap (λ (r : Option ℕ). history_after r h entry) renewed.unredone in
        record {
          start = held.start;
          begun = held.begun;
          opening = opening_on origin held.start before.ticks now.ticks before.images now.images held.begun (omega (arith, held.keeps.begun, held.keeps.marked)) redoes.time held.opening;
          mark = now.ticks;
          mark_is = λ live read. sym (ap (λ (l : Live). l.mark) (same_live now.live live new read redoes.read_now) ∙ redoes.mark);
          flushed = n;
          flushed_is = λ live read. sym (ap (λ (l : Live). l.log.count) (same_live now.live live new read redoes.read_now) ∙ ap (λ (l : Log). l.count) redoes.log);
          keeps = notes_cut laws.past laws.present base book held.start now.ticks n now.images run pid before.generation renewed.unredone counted
              (λ image there. subst (λ (s : Standing). Means image s) (sym (cut_number h n)) (found.end + 1, means image there));
          lengths = λ image there. lengths_push base book entry (kept h n) n image history
              ∣ (n, omega arith, counted, subst (λ (s : Standing). MeansWithin most image s) (sym (cut_number h n)) (found.end + 1, is.0.long, means image there)) ∣₁;
          anchored = subst (IsAnchored now) (sym (history_push base book entry ∙ history))
              (anchored_whole now (kept h n) new redoes.read_now redoes.unstaged (redoes.rows ∙ sym is.0.rows) (ap (λ (l : Log). l.count) redoes.log ∙ sym count) redoes.rests);
        }

pub redoes_first : Laws → (before now : Moment) (found : Found) (new : Live) (pid : ℕ) → Redoes before now found new → Attends pid before.book → Added (Redone pid before.generation found.count ∷ []) before.book now.book
    → Moves (Redone pid before.generation found.count ∷ []) before now
redoes_first laws before now found new pid redoes inside notes = record {
  spans = record {
    notes = notes;
    time = redoes.time;
    later = redoes.later;
    counts = λ from counted. record {
      counted = counted_now from before.faults now.faults 0 before.live now.live new redoes.later redoes.read_now (subst (IsShownAt from now.faults) (sym (ap (λ (l : Log). l.since) redoes.log)) tt) counted;
      each = no_fault_shown from now.faults entry tt;
    };
    waits = λ origin told. begins origin before.book refl told;
    goes_on = λ origin base told. gone_unread (entry ∷ []) before now origin base redoes.unread redoes.generation notes still_told
        (λ book is sure renewed held.
        let seen = told_before before now (omega (arith, renewed.later, redoes.generation)) still_told sure in
        inl (
          new,
          redone_later laws base before now found new book pid redoes is inside renewed
              (number_found origin base before book found seen.0 (subst (λ (f : Option Files). IfSome f (MeansOnly found)) seen.1 redoes.exact) (subst (λ (f : Option Files). IfSome f (before.images before.ticks)) seen.1 redoes.reads)
              (subst (λ (f : Option Files). IfSome f (λ s. HasHeld origin base before book)) seen.1 held)),
        ))
        (λ book seen tells renewed held. held_later laws origin base before now found new book pid seen redoes tells renewed held) told;
  };
  generation = redoes.generation;
  commits = redoes.commits;
  attends = nobody_moves (entry ∷ []) before now redoes.inside (λ who n. refl);
  unread = record { read = ap is_some redoes.read_now ∙ sym (ap (λ (l : Option Live). is_some l || true) redoes.unread); files = λ none. absurd (not_both now.live new none redoes.read_now) };
  staged = up_to_unread whole_of before.live now.live redoes.unread;
  flushed = up_to_unread flushed_of before.live now.live redoes.unread;
  began = began_unread before.live now.live redoes.unread;
  ahead = ahead_found (entry ∷ []) before.live now.live new redoes.unread redoes.read_now (ap (λ (l : Log). l.epoch) redoes.log ∙ sym redoes.first) refl;
}
  where
    entry : BookEntry
    entry = Redone pid before.generation found.count

    still_told : before.files ≡ None → now.files ≡ None
    still_told = tells_nothing (FindsNow found (now.images now.ticks)) before.files now.files redoes.finds

    -- a stop leaves what was found, where the disk tells
    held : (origin : Origin) (book : List BookEntry) → HasWaited origin before book → (files files_now : Option Files) → TellsStill (FindsNow found (now.images now.ticks)) files files_now
        → IfSome files (λ its. FollowsWithin MeansWhat before.ticks now.ticks before.images now.images) → IfSome files (λ seen. IsOpening origin before.ticks before.images)
        → IfSome files_now (λ seen. HasHeld origin (base_found found origin.faults) now (book ++ entry ∷ []))
    held origin book waited None files_now finds follows opening = subst (λ (f : Option Files). IfSome f (λ seen. HasHeld origin (base_found found origin.faults) now (book ++ entry ∷ []))) (sym finds) tt
    held origin book waited (Some files) None finds follows opening = absurd finds
    held origin book waited (Some files) (Some files_now) finds follows opening = redone_held origin before now found new book pid files files_now redoes follows finds waited opening

    begins : (origin : Origin) (book : Option (List BookEntry)) → before.book ≡ book → IfSome book (HasWaited origin before) × IfSome book (λ list. IfSome before.files (λ seen. IsOpening origin before.ticks before.images))
        → WaitsFrom origin now ⊎ Begins origin now
    begins origin None is told =
        let none : now.book ≡ None = notes ∙ ap (option_map (λ es. es ++ entry ∷ [])) is in
        inl (subst (λ (b : Option (List BookEntry)). IfSome b (HasWaited origin now) × IfSome b (λ list. IfSome now.files (λ seen. IsOpening origin now.ticks now.images))) (sym none) (tt, tt))
    begins origin (Some book) is (waited, opening) =
        let base = base_found found origin.faults in
        let noted : now.book ≡ Some (book ++ entry ∷ []) = notes ∙ ap (option_map (λ es. es ++ entry ∷ [])) is in
        inr (record {
          base = base;
          faults = refl;
          found = subst (λ (b : Option (List BookEntry)). IfSome b (IsBaseOf origin base)) (sym noted)
              (base_read origin origin.faults book (entry ∷ []) before.files now.files found (now.images now.ticks) waited.no_redo redoes.finds waited.reads);
          goes = subst (λ (b : Option (List BookEntry)). IfSome b (λ list. IsSure now → HasBegun base now list) × IfSome b (λ list. IfSome now.files (λ seen. HasHeld origin base now list))) (sym noted)
              ((λ sure. inl (new, redone_gone origin before now found new book pid redoes is inside waited)), held origin book waited before.files now.files redoes.finds redoes.follows opening);
        })

-- the log goes on with the files as they read
pub goes_on_found : (seen now : Option Files) (found : Found) (limit : ℕ) (new : Live) (behind : Files → Type 0) → new.log ≡ resumed found limit → new.epoch ≡ found.epoch → TellsStill (FindsNow found behind) seen now → IfSome seen (IsFoundIn new)
goes_on_found None now found limit new behind log first finds = tt
goes_on_found (Some files) None found limit new behind log first finds = absurd finds
goes_on_found (Some files) (Some files_now) found limit new behind log first finds = record {
  content = finds.content;
  pair = subst (λ (l : Log). PairStandsFor files l.file finds.content l.end) (sym log) finds.pair;
  epoch_is = first ∙ finds.is.epoch;
}

-- the log that goes on with what was found rests on the disk
pub rests_found : (seen now : Option Files) (found : Found) (limit : ℕ) (new : Live) (behind : Files → Type 0) → new.log ≡ resumed found limit → new.closed ≡ false → IsWithinRowLimits found.rows → TellsStill (FindsNow found behind) seen now
    → ∥ Rests (Some new) found.rows [] now behind ∥₁
rests_found seen now found limit new behind log unclosed within finds = ∣ (λ whole. each seen now finds) ∣₁
  where
    each : (seen now : Option Files) → TellsStill (FindsNow found behind) seen now → IfSome now (λ files. HasRows new found.rows [] files behind)
    each None now finds = subst (λ (f : Option Files). IfSome f (λ files. HasRows new found.rows [] files behind)) (sym finds) tt
    each (Some files) None finds = absurd finds
    each (Some files) (Some files_now) finds = record {
      content = finds.content;
      lives = subst (λ (l : Log). Lives l finds.content files_now behind) (sym log) (record {
        unbroken = refl;
        epoch = finds.is.epoch;
        base_end = finds.is.base_end;
        count = finds.is.count;
        rests = finds.besides;
      });
      rows_are = finds.is.rows;
      limits = limits_bare (record_specs.standing_of finds.content).rows (subst IsWithinRowLimits finds.is.rows within);
      closed = λ closed. absurd (true≢false (sym closed ∙ unclosed));
    }

-- a refusal other than a fault of the disk notes nothing
pub redo_notes_none : (user : User) (why : RedoFault) → why ≢ fault.Disk → RedoNotes user (Err (Redo why)) []
redo_notes_none user fault.Disk other = absurd (other refl)
redo_notes_none user fault.NoCluster other = refl
redo_notes_none user (fault.BadFile file at) other = refl
redo_notes_none user (fault.SameEpoch epoch) other = refl
redo_notes_none user fault.NoMemory other = refl
