-- Each reply of a session is right.
use Rattle.std.{proofs.{Common.{◌≡◌, ◌⊎◌, inl, inr, ℕ, List, [], ◌∷◌, ◌++◌, Option, Some, refl, sym, ap, subst}, lemmas.List.Elements.{All-from_recursion, recursion_from_All}}, specs.{Prelude.{map, unwrap_or}, List.AllByRecursion}}
use Rattle.pm_server.specs.{pm_query.{declared.book.BookEntry.BookEntry, Book.{Base, IsLegal, history_of}}, declared.{conf.Conf.Conf, end.ServerEnd.ServerEnd}, Ends.IsBook, Outside.OutsideView}
use Rattle.pm_session_answers.{specs.{Laws.RepliesAreRight, Own.StandIn, Replies.{AnswersAreRight, IsAnswered, IsTurnedOff}}, proofs.pm_session.PassedLaws.passed_anyhow}
use Rattle.pm_once.specs.{pm_supervisor_chain.Steps.{Step, whole_book}, Once.IsOnceRun, Serves.IsServed as IsServedLink, Service.{Connection, run_of, user_in}}
use Rattle.pm_server.specs.declared.end.ServerEnd.TheVariants as ends
use Rattle.pm_once_promises.{specs.PromisedOnce.talk_of, proofs.Blocks.{AreBlocksIn, IsBlockIn, blocks_are}}

-- what stands in one piece has nothing between its entries
block_stands : (pid : ℕ) (noted behind : List BookEntry) → StandIn pid noted (noted ++ behind)
block_stands pid [] behind = tt
block_stands pid (entry ∷ noted) behind = ([], noted ++ behind, refl, tt, block_stands pid noted behind)

talk_right : RepliesAreRight → (base : Base) (book : List BookEntry) (seed : List ℕ) (limit : ℕ) (gives : ℕ → Type 0) (c : Connection)
    → IsLegal base book → IsServedLink seed limit gives c → IsBlockIn book c.noted
    → IsTurnedOff (talk_of seed c) ⊎ IsAnswered (history_of base book) (talk_of seed c)
talk_right law base book seed limit gives c legal served (front, behind, is) =
    let session = served.session in
    let same : c.noted ≡ session.noted = ap (λ (o : Option (List BookEntry)). unwrap_or o []) session.entries in
    subst (λ (b : List BookEntry). IsTurnedOff (talk_of seed c) ⊎ IsAnswered (history_of base b) (talk_of seed c)) (sym is)
    (law base front (c.noted ++ behind) (talk_of seed c) (user_in c) c.turns c.noted (subst (IsLegal base) is legal) (block_stands c.pid c.noted behind) refl
    (record {
      came_in = session.came_in;
      whole = session.whole;
      noted = session.noted;
      text = session.text;
      passed = passed_anyhow _ _ _ session.passed;
      entries = sym same;
    }))

talks_right : RepliesAreRight → (base : Base) (book : List BookEntry) (seed : List ℕ) (limit : ℕ) (gives : ℕ → Type 0) (cs : List Connection)
    → IsLegal base book → AllByRecursion (IsServedLink seed limit gives) cs → AreBlocksIn book (map run_of cs)
    → AllByRecursion (λ talk. IsTurnedOff talk ⊎ IsAnswered (history_of base book) talk) (map (talk_of seed) cs)
talks_right law base book seed limit gives [] legal each blocks = tt
talks_right law base book seed limit gives (c ∷ cs) legal each blocks =
    (talk_right law base book seed limit gives c legal each.0 blocks.0, talks_right law base book seed limit gives cs legal each.1 blocks.1)

-- ---- the run

book_is : (end : ServerEnd) (steps : List Step) (book : List BookEntry) → IsBook (steps ≡ []) end (whole_book steps) (Some []) (Some book) → (book ≡ whole_book steps) ⊎ (steps ≡ [])
book_is ends.Clean steps book is = inl (ap (λ (o : Option (List BookEntry)). unwrap_or o []) is)
book_is (ends.Abnormal why) steps book is = inl (ap (λ (o : Option (List BookEntry)). unwrap_or o []) is)
book_is ends.NoThread steps book (inl none) = inr none.0
book_is ends.NoThread steps book (inr is) = inl (ap (λ (o : Option (List BookEntry)). unwrap_or o []) is)
book_is ends.NoMemory steps book (inl none) = inr none.0
book_is ends.NoMemory steps book (inr is) = inl (ap (λ (o : Option (List BookEntry)). unwrap_or o []) is)

pub once_answers_right : RepliesAreRight
    → (conf : Conf) (end : ServerEnd) (before now : OutsideView) (book : List BookEntry) (run : IsOnceRun conf end before now)
    → before.book ≡ Some [] → now.book ≡ Some book → (base : Base) → IsLegal base book
    → AnswersAreRight (history_of base book) (map (talk_of before.seed) run.connections)
once_answers_right law conf end before now book run empty told base legal =
    let is : IsBook (run.steps ≡ []) end (whole_book run.steps) (Some []) (Some book) =
    subst (λ (o : Option (List BookEntry)). IsBook (run.steps ≡ []) end (whole_book run.steps) (Some []) o) told
    (subst (λ (o : Option (List BookEntry)). IsBook (run.steps ≡ []) end (whole_book run.steps) o now.book) empty run.book) in
    All-from_recursion (λ talk. IsTurnedOff talk ⊎ IsAnswered (history_of base book) talk) (map (talk_of before.seed) run.connections)
    (talks_right law base book before.seed conf.session.authentication_ms before.gives run.connections legal
    (recursion_from_All (IsServedLink before.seed conf.session.authentication_ms before.gives) run.connections run.served.each)
    (subst (AreBlocksIn book) run.served.sessions (blocks_are run.steps book (book_is end run.steps book is))))
