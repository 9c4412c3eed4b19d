-- What holds of the history along a legal book.
use Rattle.std.{proofs.{Common.{◌≡◌, ℕ, ◌-◌, ◌≤◌, List, [], ◌∷◌, ◌++◌, Option, None, Some, fold, refl, sym, ap, subst, ◌∙◌, arith, append_assoc, append-nil, true≢false}, lemmas.List.{take-append-le, Elements.{All-nil, All-push, All-weaker}, Sums.fold-append}, Math.Seq.take-take}, specs.Prelude.{All, Any, IsSome, is_some}}
use Rattle.pm_rows.specs.{declared.commit.Change.Change, Standing.Standing}
use Rattle.pm_query.{specs.{declared.book.BookEntry.{BookEntry, TheVariants.{Opened, Redone, Attached, Answered, Released, Detached, Gone, CheckpointEnded, Broke, LogFull}}, History.{History, acknowledged, beginning, count_of, kept, number, with_commit}, Book.{AnswersUpTo, Base, Course, KeepsNumber, MayFollow, MayGoOn, course_after, course_of, history_after, history_of, kept_after, kept_by_redo, present, present_after, standing_of}, BookLaws.{AckedIsWithin, AckedNeverFalls, AcknowledgedStays, RepeatChangesNothing}}, proofs.HistoryLaws.{base-with_commit, count_of-with_commit, answered_within, cut_count, going-append, history_push, number_of, present_push, redone_push}}

-- ---- one history after another

-- The later one has acknowledged no less, and the same numbers up to what was acknowledged.
pub record GoesOn (before now : History) : Type 0 where
  pub acked : before.acked ≤ now.acked
  pub numbers : (n : ℕ) → n ≤ before.acked → number now n ≡ number before n

stays : (history : History) → GoesOn history history
stays history = record { acked = omega arith; numbers = λ n le. refl }

onward : (before between now : History) → GoesOn before between → GoesOn between now → GoesOn before now
onward before between now one two = record {
  acked = omega (arith, one.acked, two.acked);
  numbers = λ n le. two.numbers n (omega (arith, le, one.acked)) ∙ one.numbers n le;
}

commit_goes_on : (history : History) (commit : List Change) → history.acked ≤ count_of history → GoesOn history (with_commit history commit)
commit_goes_on history [] within = stays history
commit_goes_on history (change ∷ changes) within = record {
  acked = omega arith;
  numbers = λ n le. ap (number_of history n) (take-append-le (n - history.base.count) history.commits ((change ∷ changes) ∷ []) (omega (arith, le, within)));
}

cut_goes_on : (history : History) (count : ℕ) → history.acked ≤ count → GoesOn history (kept history count)
cut_goes_on history count within = record {
  acked = omega arith;
  numbers = λ n le. ap (number_of history n) (take-take (n - history.base.count) (count - history.base.count) history.commits (omega (arith, le, within)));
}

acknowledged_goes_on : (history : History) (front : ℕ) → GoesOn history (acknowledged history front)
acknowledged_goes_on history front = record { acked = omega arith; numbers = λ n le. refl }

same_acked : (history : History) (commit : List Change) → (with_commit history commit).acked ≡ history.acked
same_acked history [] = refl
same_acked history (change ∷ changes) = refl

-- ---- what a legal book keeps

-- the entry answers up to a number that isn't above this one
abbrev pub AnswersWithin : ℕ → BookEntry → Type 0
AnswersWithin count (Answered pid script reply commit front tick) = front ≤ count
AnswersWithin count _ = Unit {0}

-- it answers nothing
abbrev pub IsNoAnswer : BookEntry → Type 0
IsNoAnswer (Answered pid script reply commit front tick) = ⊥
IsNoAnswer _ = Unit {0}

no_answer_within : (count : ℕ) (entry : BookEntry) → IsNoAnswer entry → AnswersWithin count entry
no_answer_within count (Answered pid script reply commit front tick) none = absurd none
no_answer_within count (Opened generation) none = tt
no_answer_within count (Redone pid generation kept) none = tt
no_answer_within count (Attached pid generation) none = tt
no_answer_within count (Released pid front tick) none = tt
no_answer_within count (Detached pid) none = tt
no_answer_within count (Gone pid) none = tt
no_answer_within count (CheckpointEnded pid done clean) none = tt
no_answer_within count (Broke pid since faults) none = tt
no_answer_within count (LogFull pid script need room) none = tt

within_more : (low high : ℕ) → low ≤ high → (entry : BookEntry) → AnswersWithin low entry → AnswersWithin high entry
within_more low high le (Answered pid script reply commit front tick) within = omega (arith, le, within)
within_more low high le (Opened generation) within = tt
within_more low high le (Redone pid generation kept) within = tt
within_more low high le (Attached pid generation) within = tt
within_more low high le (Released pid front tick) within = tt
within_more low high le (Detached pid) within = tt
within_more low high le (Gone pid) within = tt
within_more low high le (CheckpointEnded pid done clean) within = tt
within_more low high le (Broke pid since faults) within = tt
within_more low high le (LogFull pid script need room) within = tt

-- What is acknowledged lies between the base and the whole, as do the answers of this generation; before its redo it has none.
pub record IsSteady (history : History) (redone : Option ℕ) (entries : List BookEntry) : Type 0 where
  pub least : history.base.count ≤ history.acked
  pub most : history.acked ≤ count_of history
  pub answers : All (AnswersWithin (count_of history)) entries
  pub fresh : redone ≡ None → All IsNoAnswer entries

-- an answer in a list where each is within
pub answer_within : (pid front count : ℕ) (entries : List BookEntry) → Any (AnswersUpTo pid front) entries → All (AnswersWithin count) entries → front ≤ count
answer_within pid front count entries any all = at_entry any.1 any.4 (subst (AnswersWithin count) any.3 (all any.0 any.1 any.2)) where
  at_entry : (entry : BookEntry) → AnswersUpTo pid front entry → AnswersWithin count entry → front ≤ count
  at_entry (Answered who script reply commit upto tick) up within = omega (arith, up.1, within)
  at_entry (Opened generation) up within = absurd up
  at_entry (Redone who generation kept) up within = absurd up
  at_entry (Attached who generation) up within = absurd up
  at_entry (Released who upto tick) up within = absurd up
  at_entry (Detached who) up within = absurd up
  at_entry (Gone who) up within = absurd up
  at_entry (CheckpointEnded who done clean) up within = absurd up
  at_entry (Broke who since faults) up within = absurd up
  at_entry (LogFull who script need room) up within = absurd up

-- one entry more leaves it so, and the history goes on
pub record Steps (history : History) (now : History) (redone : Option ℕ) (entries : List BookEntry) : Type 0 where
  pub steady : IsSteady now redone entries
  pub goes_on : GoesOn history now

-- an entry that says nothing of the history
quiet_step : (history : History) (redone : Option ℕ) (entries : List BookEntry) (entry : BookEntry) → IsNoAnswer entry → IsSteady history redone entries
    → Steps history history redone (entries ++ entry ∷ [])
quiet_step history redone entries entry none is = record {
  steady = record {
    least = is.least;
    most = is.most;
    answers = All-push (AnswersWithin (count_of history)) entries entry is.answers (no_answer_within (count_of history) entry none);
    fresh = λ unredone. All-push IsNoAnswer entries entry (is.fresh unredone) none;
  };
  goes_on = stays history;
}

redone_step : (history : History) (count : ℕ) (entries : List BookEntry) (entry : BookEntry) → IsNoAnswer entry → history.acked ≤ count → count ≤ count_of history → IsSteady history None entries
    → Steps history (kept history count) (Some count) (entries ++ entry ∷ [])
redone_step history count entries entry none low high is =
    let left = cut_count history count (omega (arith, is.least, low)) high in record {
      steady = record {
        least = is.least;
        most = omega (arith, low, left);
        answers = All-push (AnswersWithin (count_of (kept history count))) entries entry
            (All-weaker IsNoAnswer (AnswersWithin (count_of (kept history count))) (no_answer_within (count_of (kept history count))) entries (is.fresh refl))
            (no_answer_within (count_of (kept history count)) entry none);
        fresh = λ unredone. cc;
      };
      goes_on = cut_goes_on history count low;
    }

answered_step : (history : History) (redone : Option ℕ) (entries : List BookEntry) (entry : BookEntry) (commit : List Change) → AnswersWithin (count_of (with_commit history commit)) entry → IsSome redone
    → IsSteady history redone entries → Steps history (with_commit history commit) redone (entries ++ entry ∷ [])
answered_step history redone entries entry commit within some is = record {
  steady = record {
    least = omega (arith, is.least, same_acked history commit, ap (λ (s : Standing). s.count) (base-with_commit history commit));
    most = omega (arith, is.most, same_acked history commit, count_of-with_commit history commit);
    answers = All-push (AnswersWithin (count_of (with_commit history commit))) entries entry
        (All-weaker (AnswersWithin (count_of history)) (AnswersWithin (count_of (with_commit history commit))) (within_more (count_of history) (count_of (with_commit history commit)) (count_of-with_commit history commit)) entries is.answers)
        within;
    fresh = λ unredone. absurd (true≢false (sym some ∙ ap is_some unredone));
  };
  goes_on = commit_goes_on history commit is.most;
}

released_step : (history : History) (redone : Option ℕ) (entries : List BookEntry) (pid front tick : ℕ) → Any (AnswersUpTo pid front) entries → IsSteady history redone entries
    → Steps history (acknowledged history front) redone (entries ++ Released pid front tick ∷ [])
released_step history redone entries pid front tick any is = record {
  steady = record {
    least = omega (arith, is.least);
    most = omega (arith, is.most, answer_within pid front (count_of history) entries any is.answers);
    answers = All-push (AnswersWithin (count_of history)) entries (Released pid front tick) is.answers tt;
    fresh = λ unredone. All-push IsNoAnswer entries (Released pid front tick) (is.fresh unredone) tt;
  };
  goes_on = acknowledged_goes_on history front;
}

opened_step : (history : History) (redone : Option ℕ) (entries : List BookEntry) → IsSteady history redone entries → Steps history history None []
opened_step history redone entries is = record {
  steady = record { least = is.least; most = is.most; answers = All-nil (AnswersWithin (count_of history)); fresh = λ unredone. All-nil IsNoAnswer };
  goes_on = stays history;
}

-- ---- along a book

abbrev pub Stands : Base → List BookEntry → Type 0
Stands base book = IsSteady (history_of base book) (kept_by_redo book) (present book)

-- the redo of a generation, the first or another
redo_step : (base : Base) (book : List BookEntry) (pid generation count : ℕ) (redone : Option ℕ) → kept_by_redo book ≡ redone → MayFollow base book (Redone pid generation count)
    → IsSteady (history_of base book) redone (present book)
    → Steps (history_of base book) (history_after redone (history_of base book) (Redone pid generation count)) (kept_after redone (Redone pid generation count)) (present book ++ Redone pid generation count ∷ [])
redo_step base book pid generation count (Some first) e may is = quiet_step (history_of base book) (Some first) (present book) (Redone pid generation count) tt is
redo_step base book pid generation count None e may is =
    let number = subst (λ (r : Option ℕ). KeepsNumber book r (history_of base book) count) e may.number in
    redone_step (history_of base book) count (present book) (Redone pid generation count) tt number.0 number.1 is

step : (base : Base) (book : List BookEntry) (entry : BookEntry) → MayFollow base book entry → Stands base book
    → Steps (history_of base book) (history_after (kept_by_redo book) (history_of base book) entry) (kept_after (kept_by_redo book) entry) (present_after (present book) entry)
step base book (Opened generation) may is = opened_step (history_of base book) (kept_by_redo book) (present book) is
step base book (Redone pid generation count) may is = redo_step base book pid generation count (kept_by_redo book) refl may is
step base book (Attached pid generation) may is = quiet_step (history_of base book) (kept_by_redo book) (present book) (Attached pid generation) tt is
step base book (Answered pid script reply commit front tick) may is =
    answered_step (history_of base book) (kept_by_redo book) (present book) (Answered pid script reply commit front tick) commit (answered_within (history_of base book) script reply commit front may.front_is) may.redone is
step base book (Released pid front tick) may is = released_step (history_of base book) (kept_by_redo book) (present book) pid front tick may.answered is
step base book (Detached pid) may is = quiet_step (history_of base book) (kept_by_redo book) (present book) (Detached pid) tt is
step base book (Gone pid) may is = quiet_step (history_of base book) (kept_by_redo book) (present book) (Gone pid) tt is
step base book (CheckpointEnded pid done clean) may is = quiet_step (history_of base book) (kept_by_redo book) (present book) (CheckpointEnded pid done clean) tt is
step base book (Broke pid since faults) may is = quiet_step (history_of base book) (kept_by_redo book) (present book) (Broke pid since faults) tt is
step base book (LogFull pid script need room) may is = quiet_step (history_of base book) (kept_by_redo book) (present book) (LogFull pid script need room) tt is

-- the same of the book with the entry
pub record Grows (base : Base) (before now : List BookEntry) : Type 0 where
  pub stands : Stands base now
  pub goes_on : GoesOn (history_of base before) (history_of base now)

grows_one : (base : Base) (book : List BookEntry) (entry : BookEntry) → MayFollow base book entry → Stands base book → Grows base book (book ++ entry ∷ [])
grows_one base book entry may is =
    let one = step base book entry may is in
    let history = sym (history_push base book entry) in record {
      stands = subst (λ (h : History). IsSteady h (kept_by_redo (book ++ entry ∷ [])) (present (book ++ entry ∷ []))) history
          (subst (λ (r : Option ℕ). IsSteady (history_after (kept_by_redo book) (history_of base book) entry) r (present (book ++ entry ∷ []))) (sym (redone_push book entry))
          (subst (λ (es : List BookEntry). IsSteady (history_after (kept_by_redo book) (history_of base book) entry) (kept_after (kept_by_redo book) entry) es) (sym (present_push book entry)) one.steady));
      goes_on = subst (GoesOn (history_of base book)) history one.goes_on;
    }

grows : (base : Base) (before behind : List BookEntry) → MayGoOn base before behind → Stands base before → Grows base before (before ++ behind)
grows base before [] may is = subst (Grows base before) (sym (append-nil before)) (record { stands = is; goes_on = stays (history_of base before) })
grows base before (entry ∷ behind) may is =
    let one = grows_one base before entry may.0 is in
    let rest = grows base (before ++ entry ∷ []) behind may.1 one.stands in
    subst (Grows base before) (append_assoc before (entry ∷ []) behind)
    (record { stands = rest.stands; goes_on = onward (history_of base before) (history_of base (before ++ entry ∷ [])) (history_of base ((before ++ entry ∷ []) ++ behind)) one.goes_on rest.goes_on })

begins : (base : Base) → Stands base []
begins base = record { least = omega arith; most = omega arith; answers = All-nil (AnswersWithin (count_of (history_of base []))); fresh = λ unredone. All-nil IsNoAnswer }

-- ---- the laws

pub acked_is_within : AckedIsWithin
acked_is_within base book legal = (grows base [] book legal.entries (begins base)).stands.most

pub acknowledged_stays : AcknowledgedStays
acknowledged_stays base book behind n legal le =
    let parts = going-append base [] book behind legal.entries in
    let here = (grows base [] book parts.0 (begins base)).stands in
    (grows base book behind parts.1 here).goes_on.numbers n le

pub repeat_changes_nothing : RepeatChangesNothing
repeat_changes_nothing base book pid generation count first redone =
    history_push base book (Redone pid generation count) ∙ ap (λ (r : Option ℕ). history_after r (history_of base book) (Redone pid generation count)) redone

-- whatever an entry is, it takes nothing back
acked_after : (redone : Option ℕ) (history : History) (entry : BookEntry) → history.acked ≤ (history_after redone history entry).acked
acked_after redone history (Answered pid script reply commit front tick) = omega (arith, same_acked history commit)
acked_after redone history (Released pid front tick) = omega arith
acked_after None history (Redone pid generation count) = omega arith
acked_after (Some first) history (Redone pid generation count) = omega arith
acked_after redone history (Opened generation) = omega arith
acked_after redone history (Attached pid generation) = omega arith
acked_after redone history (Detached pid) = omega arith
acked_after redone history (Gone pid) = omega arith
acked_after redone history (CheckpointEnded pid done clean) = omega arith
acked_after redone history (Broke pid since faults) = omega arith
acked_after redone history (LogFull pid script need room) = omega arith

acked_later : (course : Course) (behind : List BookEntry) → course.history.acked ≤ (fold course_after course behind).history.acked
acked_later course [] = omega arith
acked_later course (entry ∷ behind) = omega (arith, acked_after course.redone course.history entry, acked_later (course_after course entry) behind)

pub acked_never_falls : AckedNeverFalls
acked_never_falls base book behind =
    let start : Course = record { history = beginning (standing_of base); redone = None } in
    subst (λ (c : Course). (history_of base book).acked ≤ c.history.acked) (sym (fold-append course_after start book behind)) (acked_later (course_of base book) behind)
