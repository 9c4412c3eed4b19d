-- A batch, and a store that is under it.
use Rattle.std.proofs.{Common.{◌≡◌, ◌≢◌, ℕ, ◌+◌, ◌-◌, ◌*◌, ◌≤◌, List, [], ◌∷◌, ◌++◌, length, take, drop, Option, None, Some, refl, sym, ◌∙◌, ap, subst, arith, length-append}, lemmas.List.{drop-append-le, drop_all, length-take, take-append-le, take_all}}
use Rattle.pm_query.specs.pm_rows.{declared.commit.Change.Change, Batch.IsBatch, Fold.RowMap, Limits.max_commits}
use Rattle.pm_query.specs.pm_rows.LogSize as log
use Rattle.pm_log.specs.declared.log.Log.{Log}
use Rattle.pm_stage.specs.Stage.{Waiting}
use Rattle.pm_store_apart.{specs.{declared.{apart.Apart.Apart, batch.Batch.Batch, live.Live.Live}, Apart.HasLog, Lending.{IsUnder, log_with}, Moment.Moment, Moves.Moves, MovesLaws.moves_none, Waits.{Waits, needs_alone}}, proofs.WaitingLaws.{alone_is, needs_parts, waits_at}}

-- ---- the oldest batch of what is staged

pub oldest_of : (batch rest staged : List (List Change)) → staged ≡ batch ++ rest → take (length batch) staged ≡ batch
oldest_of batch rest staged is = ap (take (length batch)) is ∙ take-append-le (length batch) batch rest (omega arith) ∙ take_all (length batch) batch (omega arith)

pub left_of : (batch rest staged : List (List Change)) → staged ≡ batch ++ rest → drop (length batch) staged ≡ rest
left_of batch rest staged is =
    ap (drop (length batch)) is ∙ drop-append-le (length batch) batch rest (omega arith) ∙ ap (λ (l : List (List Change)). l ++ rest) (drop_all (length batch) batch (omega arith))

-- ---- the log as it was marked

pub its_log : (o : Option Live) (live : Live) (log : Log) → o ≡ Some live → HasLog log o → live.log ≡ log
its_log o live log read has = subst (HasLog log) read has

pub has_log : (o : Option Live) (live : Live) (log : Log) → o ≡ Some live → live.log ≡ log → HasLog log o
has_log o live log read is = subst (HasLog log) (sym read) is

pub unread_none : (o : Option Live) (log : Log) → o ≡ None → HasLog log o → ⊥
unread_none o log none has = subst (HasLog log) none has

pub same_log : (o : Option Live) (live new : Live) → o ≡ Some live → new.log ≡ live.log → (log : Log) → HasLog log o → HasLog log (Some new)
same_log o live new read same log has = same ∙ its_log o live log read has

pub some_length : (commits : List (List Change)) → commits ≢ [] → 1 ≤ length commits
some_length [] some = absurd (some refl)
some_length (commit ∷ commits) some = omega arith

pub unstaged_is : (commits : List (List Change)) → length (take max_commits commits) ≤ 0 → commits ≡ []
unstaged_is [] few = refl
unstaged_is (commit ∷ commits) few = absurd (omega (arith, few, length-take max_commits (commit ∷ commits)))

-- ---- rows and stage that were put back

abbrev pub put_back : Moment → RowMap → List (List Change) → Moment
put_back at rows staged = record {
  book = at.book;
  generation = at.generation;
  inside = at.inside;
  rows = rows;
  live = at.live;
  skipped = at.skipped;
  commits = at.commits;
  staged = staged;
  files = at.files;
  images = at.images;
  ticks = at.ticks;
  faults = at.faults;
}

pub stays_so : (at : Moment) (rows : RowMap) (staged : List (List Change)) → rows ≡ at.rows → staged ≡ at.staged → Moves [] at (put_back at rows staged)
stays_so at rows staged same kept =
    subst (λ (r : RowMap). Moves [] at (put_back at r staged)) (sym same) (subst (λ (s : List (List Change)). Moves [] at (put_back at at.rows s)) (sym kept) (moves_none at))

-- ---- the batch is the oldest of what a store has staged

pub record IsOldest (w : Waiting) (live : Live) (batch : Batch) : Type 0 where
  pub waits : Waits live w
  pub same : live.log ≡ batch.log
  pub oldest : take (length batch.commits.items) w.commits ≡ batch.commits.items
  pub few : length batch.commits.items ≤ length w.commits

pub is_oldest : {D B : Type 0} {g h : _} (apart : Apart D B g h) (batch : Batch) (live : Live) → apart.live ≡ Some live → IsUnder batch apart → IsOldest apart.stage live batch
is_oldest apart batch live read under = record {
  waits = waits_at apart.live live apart.stage read apart.behind;
  same = its_log apart.live live batch.log read under.log;
  oldest = oldest_of batch.commits.items under.rest apart.stage.commits under.staged;
  few = omega (arith, ap length under.staged, length-append batch.commits.items under.rest);
}

-- with the batch the log is so much longer, and what is staged needs so much less
pub record IsLess (w : Waiting) (live : Live) (batch : Batch) (its : Log) (gates : ℕ) : Type 0 where
  pub count : its.count ≡ live.log.count + length batch.commits.items
  pub upto : its.count ≡ w.flushed + length batch.commits.items
  pub end : its.end ≡ live.log.end + log.need_of (take (length batch.commits.items) w.commits)
  pub longer : live.log.end ≤ its.end
  pub within : its.end - live.log.end + gates ≤ live.needs
  pub less : live.needs - (its.end - live.log.end + gates) + needs_alone (take (length batch.commits.items) w.commits) ≡ live.needs

pub is_less : (w : Waiting) (live : Live) (batch : Batch) (its : Log) (gates : ℕ) → IsOldest w live batch → IsBatch batch.commits.items → its ≡ log_with batch → gates ≡ 9 * (length batch.commits.items - 1) → IsLess w live batch its gates
is_less w live batch its gates old is_batch grown gates_are =
    let k = length batch.commits.items in
    let count : its.count ≡ live.log.count + k = omega (arith, ap (λ (l : Log). l.count) grown, ap (λ (l : Log). l.count) old.same) in
    let end : its.end ≡ live.log.end + log.need_of (take k w.commits) = omega (arith, ap (λ (l : Log). l.end) grown, ap (λ (l : Log). l.end) old.same, ap log.need_of old.oldest) in
    let many : 1 ≤ k = is_batch.some in
    let parts = needs_parts w.commits k in
    let alone = alone_is (take k w.commits) in
    let size = ap length old.oldest in
    let within : its.end - live.log.end + gates ≤ live.needs = omega (arith, old.waits.needs, end, parts, alone, size, many, gates_are) in
    record {
      count = count;
      upto = omega (arith, count, old.waits.flushed);
      end = end;
      longer = omega (arith, end);
      within = within;
      less = omega (arith, old.waits.needs, end, parts, alone, size, many, gates_are);
    }
