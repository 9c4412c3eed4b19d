-- Each reply that a server of many connections sent is right.
use Rattle.std.{proofs.{Common.{◌≡◌, ◌⊎◌, ℕ, zero, suc, ◌+◌, ◌<◌, ◌≤◌, List, [], ◌∷◌, None, length, refl, sym, subst, arith}, lemmas.List.Elements.{Contains-append_left, Contains-append_right}}, specs.{Prelude.slice_index_or, List.{AllByRecursion, Contains, flat_map, range_with_len}}}
use Rattle.pm_board_acts.specs.{pm_admit.declared.Cac.Cac, pm_worker.{declared.mail.{LinkTold.LinkTold, MailTold.MailTold}, Mails.traffic_in, Runs.{Does, IsRun, IsSessionRun, Run}}}
use Rattle.pm_session_answers.{specs.{pm_facts.Lists.each_both, pm_query.{declared.book.BookEntry.BookEntry, Book.{Base, IsLegal, history_of}, Calls.newcomer}, Laws.{OwnEntriesStand, RepliesAreRight}, Own.entries_by, Replies.{IsAnswered, IsTurnedOff, Talk}}, proofs.pm_session.PassedLaws.passed_anyhow}
use Rattle.pm_board_acts.specs.pm_worker.declared.mail.MailTold.TheVariants as mail
use Rattle.pm_serve_crew.specs.{Pids.AreEntriesOf, Talks.{AreTalksOf, IsOrNot, IsTalkOf, runs_of}}

-- the client was turned away, or its replies are right
abbrev pub IsFine : Base → List BookEntry → Talk → Type 0
IsFine base book talk = IsTurnedOff talk ⊎ IsAnswered (history_of base book) talk

-- the connections of these runs, each fine by a book that has what the runs noted
pub record FineTalks (seed : List ℕ) (runs : List Run) : Type 0 where
  pub talks : List Talk
  pub are : AreTalksOf seed runs talks
  pub fine : (base : Base) (book : List BookEntry) → IsLegal base book → AreEntriesOf book runs → AllByRecursion (IsFine base book) talks

-- a run that served none adds none
none_more : (seed : List ℕ) (given : MailTold) (run : Run) (runs : List Run) (rest : FineTalks seed runs) → run.child.offer.given ≡ given
    → IsOrNot seed given run rest.talks (AreTalksOf seed runs) → FineTalks seed (run ∷ runs)
none_more seed given run runs rest is are = record {
  talks = rest.talks;
  are = subst (λ (m : MailTold). IsOrNot seed m run rest.talks (AreTalksOf seed runs)) (sym is) are;
  fine = λ base book legal its. rest.fine base book legal its.1;
}

module _ (right : RepliesAreRight) (own : OwnEntriesStand) (seed : List ℕ) (limit : ℕ) (gives : ℕ → Type 0) where
  abbrev talk_by : (link : LinkTold) (decision : Cac) (run : Run) → IsSessionRun None seed limit gives link decision run → Talk
  talk_by link decision run is =
      record { pid = run.child.offer.pid; key = is.key; decision = decision; ending = is.ending; link = traffic_in is.back }

  one : (base : Base) (book : List BookEntry) → IsLegal base book → (link : LinkTold) (decision : Cac) (run : Run) (is : IsSessionRun None seed limit gives link decision run)
      → entries_by run.child.offer.pid book ≡ run.noted → IsFine base book (talk_by link decision run is)
  one base book legal link decision run is its =
      right base [] book (talk_by link decision run is) (newcomer None run.child.offer.pid is.generation) is.turns run.noted legal
      (own run.child.offer.pid book run.noted its) refl (record {
        came_in = is.session.came_in;
        whole = is.session.whole;
        noted = is.session.noted;
        text = is.session.text;
        passed = passed_anyhow _ _ _ is.session.passed;
        entries = is.session.entries;
      })

  more : (given : MailTold) (run : Run) (runs : List Run) → run.child.offer.given ≡ given → Does None seed limit gives given run → FineTalks seed runs → FineTalks seed (run ∷ runs)
  more (mail.Serve link decision) run runs is does rest =
      record {
        talks = talk_by link decision run does ∷ rest.talks;
        are = subst (λ (m : MailTold). IsOrNot seed m run (talk_by link decision run does ∷ rest.talks) (AreTalksOf seed runs)) (sym is) (
          talk_by link decision run does,
          rest.talks,
          refl,
          record { pid = refl; key = does.keyed; decision_is = refl; status = does.status; back = does.back; back_is = does.back_is; link = refl },
          rest.are,
        );
        fine = λ base book legal its. (one base book legal link decision run does its.0, rest.fine base book legal its.1);
      }
  more mail.Startup run runs is does rest = none_more seed mail.Startup run runs rest is rest.are
  more mail.Checkpointer run runs is does rest = none_more seed mail.Checkpointer run runs rest is rest.are
  more mail.Writer run runs is does rest = none_more seed mail.Writer run runs rest is rest.are
  more mail.Close run runs is does rest = none_more seed mail.Close run runs rest is rest.are
  more (mail.Served link) run runs is does rest = absurd does
  more (mail.Aux fault kept) run runs is does rest = absurd does

  pub fine_talks : (runs : List Run) → AllByRecursion (IsRun None seed limit gives) runs → FineTalks seed runs
  fine_talks [] each = record { talks = []; are = refl; fine = λ base book legal its. tt }
  fine_talks (run ∷ runs) each = more run.child.offer.given run runs refl each.0.does (fine_talks runs each.1)

-- ---- the talk of one run

-- it served a connection so decided, whose talk is among these
abbrev pub HasTalk : List ℕ → Cac → Run → List Talk → Type 0
HasTalk seed decision run talks = (talk : Talk) × Contains talks talk × IsTalkOf seed decision run talk

later : (first : Talk) (rest : List Talk) (talk : Talk) → Contains rest talk → Contains (first ∷ rest) talk
later first rest talk there = (suc there.0, (let near : there.0 < length rest = there.1 in omega arith), there.2)

-- those of the runs after the first one are among those of all
of_rest : (given : MailTold) (seed : List ℕ) (run : Run) (talks : List Talk) (Rest : List Talk → Type 0) → IsOrNot seed given run talks Rest
    → (rest : List Talk) × Rest rest × ((talk : Talk) → Contains rest talk → Contains talks talk)
of_rest (mail.Serve link decision) seed run talks Rest is =
    (is.1, is.4, λ talk there. subst (λ (all : List Talk). Contains all talk) (sym is.2) (later is.0 is.1 talk there))
of_rest _ seed run talks Rest is = (talks, is, λ talk there. there)

module _ (seed : List ℕ) (link : LinkTold) (decision : Cac) (run : Run) (given : run.child.offer.given ≡ mail.Serve link decision) where
  talk_at : (runs : List Run) (talks : List Talk) → AreTalksOf seed runs talks → (n : ℕ) → n < length runs → slice_index_or runs n run ≡ run → HasTalk seed decision run talks
  talk_at [] talks are n less is = absurd (omega arith)
  talk_at (first ∷ runs) talks are zero less is =
      let its : IsOrNot seed (mail.Serve link decision) run talks (AreTalksOf seed runs) =
      subst (λ (m : MailTold). IsOrNot seed m run talks (AreTalksOf seed runs)) given
      (subst (λ (r : Run). IsOrNot seed r.child.offer.given r talks (AreTalksOf seed runs)) is are) in
      let there : Contains (its.0 ∷ its.1) its.0 = (0, (let near : 0 < length (its.0 ∷ its.1) = omega arith in near), refl) in
      (its.0, subst (λ (all : List Talk). Contains all its.0) (sym its.2) there, its.3)
  talk_at (first ∷ runs) talks are (suc n) less is =
      let rest = of_rest first.child.offer.given seed first talks (AreTalksOf seed runs) are in
      let found = talk_at runs rest.0 rest.1 n (omega arith) is in
      (found.0, rest.2 found.0 found.1, found.2)

  pub talk_of_run : (runs : List Run) (talks : List Talk) → AreTalksOf seed runs talks → Contains runs run → HasTalk seed decision run talks
  talk_of_run runs talks are there = talk_at runs talks are there.0 there.1 there.2

-- ---- slot by slot

each_from : (P : Run → Type 0) (runs : ℕ → List Run) (first count : ℕ) → ((k : ℕ) → first ≤ k → k < first + count → AllByRecursion P (runs k))
    → AllByRecursion P (flat_map runs (range_with_len first count))
each_from P runs first zero each = tt
each_from P runs first (suc count) each =
    each_both P (runs first) (flat_map runs (range_with_len (first + 1) count)) (each first (omega arith) (omega arith))
    (each_from P runs (first + 1) count (λ k low high. each k (omega arith) (omega arith)))

pub each_of_slots : (P : Run → Type 0) (count : ℕ) (runs : ℕ → List Run) → ((k : ℕ) → k < count → AllByRecursion P (runs k)) → AllByRecursion P (runs_of count runs)
each_of_slots P count runs each = each_from P runs 0 count (λ k low high. each k (omega arith))

there_from : (run : Run) (runs : ℕ → List Run) (first count j : ℕ) → j < count → Contains (runs (first + j)) run → Contains (flat_map runs (range_with_len first count)) run
there_from run runs first zero j less there = absurd (omega arith)
there_from run runs first (suc count) zero less there =
    Contains-append_left (runs first) (flat_map runs (range_with_len (first + 1) count)) run
    (subst (λ (k : ℕ). Contains (runs k) run) (let same : first + zero ≡ first = omega arith in same) there)
there_from run runs first (suc count) (suc j) less there =
    Contains-append_right (runs first) (flat_map runs (range_with_len (first + 1) count)) run
    (there_from run runs (first + 1) count j (omega arith) (subst (λ (k : ℕ). Contains (runs k) run) (let same : first + suc j ≡ (first + 1) + j = omega arith in same) there))

pub there_of_slots : (run : Run) (count : ℕ) (runs : ℕ → List Run) (k : ℕ) → k < count → Contains (runs k) run → Contains (runs_of count runs) run
there_of_slots run count runs k less there =
    there_from run runs 0 count k less (subst (λ (j : ℕ). Contains (runs j) run) (let same : k ≡ 0 + k = omega arith in same) there)
