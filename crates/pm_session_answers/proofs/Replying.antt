-- Each reply of a session is right, where its entries stand in a legal book.
use Rattle.std.{proofs.{Common.{◌≡◌, ◌⊎◌, inl, inr, ℕ, ◌≤◌, List, [], ◌∷◌, ◌++◌, Option, None, Some, fold, refl, sym, ap, subst, ◌∙◌, arith, append_assoc}, lemmas.List.Sums.fold-append}, specs.{Prelude.{IfSome, IsSome, map}, List.Any}}
use Rattle.pm_session.specs.{pm_rows.{Fold.RowMap, Standing.Standing, declared.commit.Change.Change}, pm_outside.Traffic.Traffic, pm_sql.{declared.stmt.Stmt.Stmt, Statements.IsQueryText}, pm_session_exchange.{Sent.{Turn, Ran, Faulted, NotUtf8, Cancelled, LogIsFull, Memory, bytes_of, greeting}, Queries.{IsReleased, TurnNotes}}, Session.{AllNotes, HasPassed, IsServed, IsText, last_messages, pieces}}
use Rattle.pm_query.{specs.{declared.{item.Item.Item, book.BookEntry.{BookEntry, TheVariants.{Attached, Answered, Released}}}, Answer.{commit_of, items_of}, BookLaws.{AckedIsWithin, AckedNeverFalls, AcknowledgedStays}, Calls.User, History.{History, acknowledged, count_of, number, rows_of, with_commit}, Book.{AnswersUpTo, Base, IsLegal, MayAnswer, MayGoOn, MayRelease, history_of, kept_after, kept_by_redo, present, present_after}}, proofs.{HistoryLaws.{answered_within, count_of-with_commit, going-append, history_push}, ReadingLaws.reads_commit_nothing}}
use Rattle.pm_session_answers.{proofs.{HistoryLaws.{base_stays, number_before, number_behind, number_within, rows_at_last}, Generations.{GoesOnFrom, OpensNone, goes_on_from, opens_none}, Own.{Parted, parted}, Prefixes.legal_before}, specs.{Own.{NoneBy, StandIn}, Replies.{AreRight, IsAnswered, IsRight, IsTurnedOff, Talk, with_changes}}}

some_of : (o : Option ℕ) → IsSome o → (n : ℕ) × (o ≡ Some n)
some_of None is = absurd cc
some_of (Some n) is = (n, refl)

-- ---- one reply

pub record Reply : Type 0 where
  pub pid : ℕ
  pub script : List Stmt
  pub items : List Item
  pub commit : List Change
  pub front : ℕ
  pub tick : ℕ
  pub released_at : ℕ

abbrev pub answer : Reply → BookEntry
answer r = Answered r.pid r.script r.items r.commit r.front r.tick

abbrev pub release : Reply → BookEntry
release r = Released r.pid r.front r.released_at

-- the book up to its release, which others' entries may stand before
abbrev pub upto : (before : List BookEntry) (r : Reply) (between : List BookEntry) → List BookEntry
upto before r between = (before ++ answer r ∷ between) ++ release r ∷ []

-- and all of it
abbrev pub whole : (before : List BookEntry) (r : Reply) (between behind : List BookEntry) → List BookEntry
whole before r between behind = before ++ answer r ∷ (between ++ release r ∷ behind)

module _ (stays : AcknowledgedStays) (never : AckedNeverFalls) (within : AckedIsWithin) (base : Base) where
  joined : (before : List BookEntry) (r : Reply) (between behind : List BookEntry) → upto before r between ++ behind ≡ whole before r between behind
  joined before r between behind =
      append_assoc (before ++ answer r ∷ between) (release r ∷ []) behind ∙ append_assoc before (answer r ∷ between) (release r ∷ behind)

  -- the numbers after the answer stay up to its release
  kept_between : (before : List BookEntry) (r : Reply) (between behind : List BookEntry) → NoneBy r.pid between → IsLegal base (whole before r between behind)
      → GoesOnFrom (with_commit (history_of base before) r.commit) (history_of base (before ++ answer r ∷ between))
  kept_between before r between behind none legal =
      let first : List BookEntry = before ++ answer r ∷ [] in
      let split : before ++ answer r ∷ between ≡ first ++ between = sym (append_assoc before (answer r ∷ []) between) in
      let may : MayAnswer base before r.pid r.script r.items r.commit r.front r.tick = (going-append base [] before (answer r ∷ (between ++ release r ∷ behind)) legal.entries).1.0 in
      let mid : List BookEntry = before ++ answer r ∷ between in
      let both : MayGoOn base [] (mid ++ release r ∷ behind) = subst (MayGoOn base []) (sym (append_assoc before (answer r ∷ between) (release r ∷ behind))) legal.entries in
      let frees : MayRelease mid r.pid r.front r.released_at = (going-append base [] mid (release r ∷ behind) both).1.0 in
      let present_is : present mid ≡ fold present_after (present first) between =
      ap present split ∙ fold-append present_after [] first between in
      let opens : OpensNone between = opens_none r.pid r.front (present first) between none (subst (Any (AnswersUpTo r.pid r.front)) present_is frees.answered) in
      let was : (n : ℕ) × (kept_by_redo before ≡ Some n) = some_of (kept_by_redo before) may.redone in
      let redone : kept_by_redo first ≡ Some was.0 = fold-append kept_after None before (answer r ∷ []) ∙ was.1 in
      subst (λ (h : History). GoesOnFrom h (history_of base mid)) (history_push base before (answer r))
      (subst (λ (b : List BookEntry). GoesOnFrom (history_of base first) (history_of base b)) (sym split) (goes_on_from base first between was.0 redone opens))

  right_reply : (before between behind : List BookEntry) (r : Reply) (text : List ℕ) (seen : ℕ) → NoneBy r.pid between
      → IsLegal base (whole before r between behind) → IsQueryText text r.script → seen ≤ (history_of base before).acked
      → IsRight (history_of base (whole before r between behind)) seen text r.items r.front
      × (r.front ≤ (history_of base (upto before r between)).acked)
  right_reply before between behind r text seen none legal query low =
      let h : History = history_of base before in
      let n : ℕ = count_of h in
      let mid : List BookEntry = before ++ answer r ∷ between in
      let end : List BookEntry = upto before r between in
      let all : List BookEntry = whole before r between behind in
      let may : MayAnswer base before r.pid r.script r.items r.commit r.front r.tick = (going-append base [] before (answer r ∷ (between ++ release r ∷ behind)) legal.entries).1.0 in
      let goes : GoesOnFrom (with_commit h r.commit) (history_of base mid) = kept_between before r between behind none legal in
      let end_is : history_of base end ≡ acknowledged (history_of base mid) r.front = history_push base mid (release r) in
      let acked : r.front ≤ (history_of base end).acked = omega (arith, ap (λ (x : History). x.acked) end_is) in
      let high : r.front ≤ count_of (with_commit h r.commit) = answered_within h r.script r.items r.commit r.front may.front_is in
      let kept : (m : ℕ) → m ≤ r.front → number (history_of base all) m ≡ number (with_commit h r.commit) m =
      λ m le. subst (λ (b : List BookEntry). number (history_of base b) m ≡ number (with_commit h r.commit) m) (joined before r between behind)
      (stays base end behind m (subst (IsLegal base) (sym (joined before r between behind)) legal) (omega (arith, le, acked))
      ∙ ap (λ (x : History). number x m) end_is ∙ goes.same m (omega (arith, le, high))) in
      let released : r.front ≤ (history_of base all).acked =
      subst (λ (b : List BookEntry). r.front ≤ (history_of base b).acked) (joined before r between behind) (omega (arith, acked, never base end behind)) in
      let low_n : h.acked ≤ n = within base before (legal_before r.pid r.front r.tick r.script r.items r.commit (between ++ release r ∷ behind) base before legal) in
      elim may.front_is [
        | inl front_is ↦ (
            let up : n ≤ r.front = omega (arith, front_is, count_of-with_commit h r.commit) in
            let at_n : number (history_of base all) n ≡ number h n = kept n up ∙ number_before h r.commit in
            let rows : (number (history_of base all) n).rows ≡ rows_of h = ap (λ (s : Standing). s.rows) at_n ∙ rows_at_last h in (
              record {
                script = r.script;
                n = n;
                query = query;
                no_older = omega (arith, low, low_n);
                reply_is = may.reply_is ∙ ap (λ (x : RowMap). items_of x r.script) (sym rows);
                commit_is = kept r.front (omega arith)
                    ∙ ap (number (with_commit h r.commit)) front_is
                    ∙ number_behind h r.commit
                    ∙ ap (λ (c : List Change). with_changes c (number h n)) (may.commit_is ∙ ap (λ (x : RowMap). commit_of x r.script) (sym rows))
                    ∙ ap (with_changes (commit_of (number (history_of base all) n).rows r.script)) (sym at_n);
                released = released;
              },
              acked,
            ))
        | inr early ↦ (
            let at_n : number (history_of base all) r.front ≡ number h r.front = kept r.front (omega arith) ∙ number_within h r.commit r.front early.within in
            let rows : (number (history_of base all) r.front).rows ≡ (number h r.front).rows = ap (λ (s : Standing). s.rows) at_n in (
              record {
                script = r.script;
                n = r.front;
                query = query;
                no_older = omega (arith, low, early.acked);
                reply_is = early.same ∙ ap (λ (x : RowMap). items_of x r.script) (sym rows);
                commit_is = ap (λ (c : List Change). with_changes c (number (history_of base all) r.front))
                    (sym (reads_commit_nothing (number (history_of base all) r.front).rows r.script early.reads));
                released = released;
              },
              acked,
            ))
      ]

  -- ---- all turns

  abbrev reply_of : (pid : ℕ) (text : List ℕ) (items : List Item) (noted : List BookEntry) → IsReleased pid text items noted → Reply
  reply_of pid text items noted is = record {
    pid = pid;
    script = is.script;
    items = items;
    commit = is.commit;
    front = is.front;
    tick = is.answer.tick;
    released_at = is.tick;
  }

  noted_is : (pid : ℕ) (text : List ℕ) (items : List Item) (noted : List BookEntry) (is : IsReleased pid text items noted)
      → noted ≡ answer (reply_of pid text items noted is) ∷ release (reply_of pid text items noted is) ∷ []
  noted_is pid text items noted is =
      is.entries_are ∙ ap (λ (e : List BookEntry). e ++ Released pid is.front is.tick ∷ []) is.answer.entries_are

  -- one reply, whose two entries stand in a part of the book
  one_right : (pid : ℕ) (before part behind : List BookEntry) (r : Reply) (text : List ℕ) (seen : ℕ) → r.pid ≡ pid → StandIn pid (answer r ∷ release r ∷ []) part
      → IsLegal base (before ++ (part ++ behind)) → IsQueryText text r.script → seen ≤ (history_of base before).acked
      → IsRight (history_of base (before ++ (part ++ behind))) seen text r.items r.front × (r.front ≤ (history_of base (before ++ part)).acked)
  one_right pid before part behind r text seen whose (others, from_answer, is, none, (between, rest, is_rest, none_between, stand)) legal query low =
      let here : List BookEntry = before ++ others in
      let part_is : part ≡ others ++ answer r ∷ (between ++ release r ∷ rest) = is ∙ ap (λ b. others ++ answer r ∷ b) is_rest in
      let all_is : before ++ (part ++ behind) ≡ whole here r between (rest ++ behind) =
      ap (λ b. before ++ (b ++ behind)) part_is
      ∙ ap (λ b. before ++ b) (append_assoc others (answer r ∷ (between ++ release r ∷ rest)) behind)
      ∙ ap (λ b. before ++ (others ++ answer r ∷ b)) (append_assoc between (release r ∷ rest) behind)
      ∙ sym (append_assoc before others (answer r ∷ (between ++ release r ∷ (rest ++ behind)))) in
      let front_is : upto here r between ++ rest ≡ before ++ part =
      joined here r between rest
      ∙ append_assoc before others (answer r ∷ (between ++ release r ∷ rest))
      ∙ ap (λ b. before ++ b) (sym part_is) in
      let one = right_reply here between (rest ++ behind) r text seen (subst (λ p. NoneBy p between) (sym whose) none_between) (subst (IsLegal base) all_is legal) query
      (omega (arith, low, never base before others)) in (
        subst (λ (b : List BookEntry). IsRight (history_of base b) seen text r.items r.front) (sym all_is) one.0,
        subst (λ (b : List BookEntry). r.front ≤ (history_of base b).acked) front_is (omega (arith, one.1, never base (upto here r between) rest)),
      )

  by_turn : (pid : ℕ) (before part behind first : List BookEntry) (text : List ℕ) (texts : List (List ℕ)) (turn : Turn) (turns : List Turn) (seen : ℕ)
      → TurnNotes pid text turn first → StandIn pid first part → IsLegal base (before ++ (part ++ behind)) → seen ≤ (history_of base before).acked
      → ((front : ℕ) → front ≤ (history_of base (before ++ part)).acked → AreRight (history_of base (before ++ (part ++ behind))) front texts turns)
      → AreRight (history_of base (before ++ (part ++ behind))) seen (text ∷ texts) (turn ∷ turns)
  by_turn pid before part behind first text texts (Ran items) turns seen notes stand legal low go =
      let r : Reply = reply_of pid text items first notes in
      let one = one_right pid before part behind r text seen refl (subst (λ (e : List BookEntry). StandIn pid e part) (noted_is pid text items first notes) stand) legal notes.query low in
      (notes.front, one.0, go notes.front one.1)
  by_turn pid before part behind first text texts (Faulted fault) turns seen notes stand legal low go = go seen (omega (arith, low, never base before part))
  by_turn pid before part behind first text texts NotUtf8 turns seen notes stand legal low go = go seen (omega (arith, low, never base before part))
  by_turn pid before part behind first text texts Cancelled turns seen notes stand legal low go = go seen (omega (arith, low, never base before part))
  by_turn pid before part behind first text texts LogIsFull turns seen notes stand legal low go = go seen (omega (arith, low, never base before part))
  by_turn pid before part behind first text texts Memory turns seen notes stand legal low go = go seen (omega (arith, low, never base before part))

  turns_right : (pid : ℕ) (before part behind asked : List BookEntry) (texts : List (List ℕ)) (turns : List Turn) (seen : ℕ)
      → AllNotes pid texts turns asked → StandIn pid asked part → IsLegal base (before ++ (part ++ behind)) → seen ≤ (history_of base before).acked
      → AreRight (history_of base (before ++ (part ++ behind))) seen texts turns
  turns_right pid before part behind asked [] [] seen each stand legal low = tt
  turns_right pid before part behind asked [] (turn ∷ turns) seen each stand legal low = absurd each
  turns_right pid before part behind asked (text ∷ texts) [] seen each stand legal low = absurd each
  turns_right pid before part behind asked (text ∷ texts) (turn ∷ turns) seen (first, others, is, front, notes, rest) stand legal low =
      let cut : Parted pid first others part = parted pid first others part (subst (λ (e : List BookEntry). StandIn pid e part) is stand) in
      let same : before ++ (cut.front ++ (cut.rest ++ behind)) ≡ before ++ (part ++ behind) =
      ap (λ (e : List BookEntry). before ++ e) (sym (append_assoc cut.front cut.rest behind) ∙ ap (λ (e : List BookEntry). e ++ behind) (sym cut.is)) in
      let moved : (before ++ cut.front) ++ (cut.rest ++ behind) ≡ before ++ (cut.front ++ (cut.rest ++ behind)) = append_assoc before cut.front (cut.rest ++ behind) in
      let here : IsLegal base (before ++ (cut.front ++ (cut.rest ++ behind))) = subst (IsLegal base) (sym same) legal in
      subst (λ (b : List BookEntry). AreRight (history_of base b) seen (text ∷ texts) (turn ∷ turns)) same
      (by_turn pid before cut.front (cut.rest ++ behind) first text texts turn turns seen notes cut.first_in here low
      (λ seen_now low_now. subst (λ (b : List BookEntry). AreRight (history_of base b) seen_now texts turns) moved
      (turns_right pid (before ++ cut.front) cut.rest behind others texts turns seen_now rest cut.second_in (subst (IsLegal base) (sym moved) here) low_now)))

-- ---- a connection

if_told : {P Q : Traffic → Type 0} (link : Option Traffic) → ((t : Traffic) → P t → Q t) → IfSome link P → IfSome link Q
if_told None f is = tt
if_told (Some t) f is = f t is

came_again : (link : Option Traffic) (came_in said : List ℕ) (cut : Type 0) → HasPassed cut came_in said link → (same : List ℕ) → came_in ≡ same
    → IfSome link (λ t. t.came_in ≡ same)
came_again link came_in said cut passed same is = if_told link (λ t read. read ∙ is) passed.read

went_again : (link : Option Traffic) (came_in said : List ℕ) (cut : Type 0) (passed : HasPassed cut came_in said link) (same : List ℕ) → said ≡ same
    → IfSome link (λ t. t.went_out ++ passed.missing ≡ same)
went_again link came_in said cut passed same is = if_told link (λ t sent. sent ∙ is) passed.sent

-- what is acknowledged is no less than the base
least : AckedNeverFalls → (base : Base) (book before : List BookEntry) → (history_of base book).base.count ≤ (history_of base before).acked
least never base book before = omega (arith, ap (λ (s : Standing). s.count) (base_stays base book), never base [] before)

module _ (stays : AcknowledgedStays) (never : AckedNeverFalls) (within : AckedIsWithin) (base : Base) (front part : List BookEntry) (talk : Talk) where
  served_right : (user : User) (turns : List Turn) (came_in said : List ℕ) (cut : Type 0) (noted : List BookEntry) → user.pid ≡ talk.pid
      → IsLegal base (front ++ part) → StandIn talk.pid noted part → HasPassed cut came_in said talk.link
      → IsServed talk.decision user talk.key turns talk.ending came_in said noted → IsAnswered (history_of base (front ++ part)) talk
  served_right user turns came_in said cut noted whose legal stand passed served =
      let first : BookEntry = Attached user.pid user.generation in
      let two : Parted talk.pid (first ∷ served.asked) (served.ended ++ served.left) part =
      parted talk.pid (first ∷ served.asked) (served.ended ++ served.left) part (subst (λ (e : List BookEntry). StandIn talk.pid e part) (served.notes ∙ append_assoc (first ∷ served.asked) served.ended served.left) stand) in
      let cut_off : Parted talk.pid (first ∷ []) served.asked two.front = parted talk.pid (first ∷ []) served.asked two.front two.first_in in
      let part_is : front ++ part ≡ (front ++ cut_off.front) ++ (cut_off.rest ++ two.rest) =
      ap (λ b. front ++ b) (two.is ∙ ap (λ b. b ++ two.rest) cut_off.is ∙ append_assoc cut_off.front cut_off.rest two.rest)
      ∙ sym (append_assoc front cut_off.front (cut_off.rest ++ two.rest)) in
      record {
        requests = served.requests;
        phase = served.phase;
        packet = served.packet;
        texts = served.texts;
        turns = turns;
        rest = served.last ++ served.beyond;
        missing = passed.missing;
        asks = served.asks;
        start = served.start;
        came = came_again talk.link came_in said cut passed _ (served.input ∙ append_assoc _ served.last served.beyond);
        sent = went_again talk.link came_in said cut passed _
            (served.output ∙ ap (λ (p : ℕ). map (λ packet. 78) served.requests ++ bytes_of (greeting p talk.key ++ pieces served.texts turns ++ last_messages talk.decision talk.ending)) whose);
        right = subst (λ (b : List BookEntry). AreRight (history_of base b) (history_of base (front ++ part)).base.count served.texts turns) (sym part_is)
            (turns_right stays never within base talk.pid (front ++ cut_off.front) cut_off.rest two.rest served.asked served.texts turns
            (history_of base (front ++ part)).base.count (subst (λ (p : ℕ). AllNotes p served.texts turns served.asked) whose served.each)
            cut_off.second_in (subst (IsLegal base) part_is legal) (least never base (front ++ part) (front ++ cut_off.front)));
      }

  pub text_right : (user : User) (turns : List Turn) (came_in said : List ℕ) (cut : Type 0) (noted : List BookEntry) → user.pid ≡ talk.pid
      → IsLegal base (front ++ part) → StandIn talk.pid noted part → HasPassed cut came_in said talk.link
      → IsText talk.decision user talk.key turns talk.ending came_in said noted → IsTurnedOff talk ⊎ IsAnswered (history_of base (front ++ part)) talk
  text_right user turns came_in said cut noted whose legal stand passed (inl away) =
      inl (record { requests = away.0.requests; missing = passed.missing; sent = went_again talk.link came_in said cut passed _ away.0.output })
  text_right user turns came_in said cut noted whose legal stand passed (inr served) =
      inr (served_right user turns came_in said cut noted whose legal stand passed served)
