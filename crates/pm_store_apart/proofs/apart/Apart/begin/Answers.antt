use Rattle.std.proofs.{Common.{rules, ◌≡◌, ◌≢◌, ◌∙◌, ◌≤◌, List, [], ◌∷◌, length, Ok, Err, refl, sym, ap, subst, arith}, lemmas.{Bool.Decides.nat_tests, List.nil_from_length}}
use Rattle.pm_query.specs.{pm_sql.declared.stmt.Stmt.Stmt, Answer.commit_of, Calls.{NotesStaged, RunNotes}, declared.{book.BookEntry.{BookEntry, TheVariants.Broke}, store.StoreNo.StoreNo}}
use Rattle.pm_store_apart.{specs.{declared.commits.Commits.Commits, ApartLaws.{grows_none, grows_on, grows_still}, Begun.HasRun, Causes.{MakesNoCall, RunCause, staged_behind, with_staged}, Moment.{alone, over_of}, Passes.user_in, ReadsApart.AnswersEarly}, proofs.{BeginsLaws.{cause_over, no_memory, stages_none}, EarlyLaws.never_early, StepsLaws.stays_put}}
use Rattle.pm_store_apart.proofs.apart.Apart.begin.Goals as goal

pub returns-in_default-clause-begun : goal.returns-in_default-clause-begun
returns-in_default-clause-begun g c = no_memory c.args.ways c.args.self.now c.args.self.now c.args.pass.now c.args.script.now (grows_none c.args.self.now) (refl, refl, refl)

pub returns-then-is_err-clause-begun : goal.returns-then-is_err-clause-begun
returns-then-is_err-clause-begun g c = no_memory c.args.ways c.args.self.now _ c.args.pass.now c.args.script.now (grows_still [] c.args.self.now _ (λ ways disk. stays_put (over_of (g.B.Chronicle.entries c.args.self.now.book) ways disk c.args.self.now) (g.B.Chronicle.entries c.reserve.new.self) c.reserve.ensures.entries) (refl, refl, refl) refl) (refl, refl, refl)

pub returns-in_default-of-clause-begun : goal.returns-in_default-of-clause-begun
returns-in_default-of-clause-begun g c = no_memory c.args.ways c.args.self.now _ c.args.pass.now c.args.script.now (grows_still [] c.args.self.now _ (λ ways disk. stays_put (over_of (g.B.Chronicle.entries c.args.self.now.book) ways disk c.args.self.now) (g.B.Chronicle.entries c.reserve.new.self) c.reserve.ensures.entries) (refl, refl, refl) refl) (refl, refl, refl)

pub returns-in-Some-since-clause-begun : goal.returns-in-Some-since-clause-begun
returns-in-Some-since-clause-begun g c =
    let entry : BookEntry = Broke c.args.pass.now.pid c.in-Some-since.since c.in-Some.live.faults in
    subst (λ (refusal : StoreNo). HasRun c.args.ways c.args.self.now c.broken.new.self c.args.pass.now c.args.pass.now c.args.script.now (Err refusal)) (sym c.broken.ensures.answer) (record {
      entries = entry ∷ [];
      grows = grows_on [] (entry ∷ []) c.args.self.now _ c.broken.new.self
          (grows_still [] c.args.self.now _ (λ ways disk. stays_put (over_of (g.B.Chronicle.entries c.args.self.now.book) ways disk c.args.self.now) (g.B.Chronicle.entries c.reserve.new.self) c.reserve.ensures.entries) (refl, refl, refl) refl)
          c.broken.ensures.notes;
      notes = (c.in-Some.live.faults, refl);
      fresh = tt;
      view = tt;
      refused = refl;
      short = tt;
      cause = λ disk. record { its = c.in-Some.live; read = c.in-Some.is; broken = c.in-Some-since.is };
      early = tt;
      rest = λ none. c.broken.ensures.rest;
      staged = λ disk. c.broken.ensures.rest.2;
    })

pub returns-then-is_empty-clause-begun : goal.returns-then-is_empty-clause-begun
returns-then-is_empty-clause-begun g c =
    let live = c.in-Some.live in
    let ran = c.in-Ok.ran in
    let rows = c.args.self.now.rows in
    let script = c.in-Ok.ensures.script in
    let few : length c.changes.result.now ≤ 0 = grind (arith, nat_tests, c.if-is_empty.true, c.is_empty.ensures) in
    let nothing : ran.commit ≡ [] = nil_from_length ran.commit (omega (arith, few, ap length c.changes.ensures.list)) in
    let none : commit_of rows c.args.script.now ≡ [] = sym (c.in-Ok.ensures.answer.commit_is ∙ ap (commit_of rows) script) ∙ nothing in
    let noted = c.read.ensures.notes in
    record {
      entries = noted.0;
      grows = grows_on [] noted.0 c.args.self.now _ c.read.new.self
          (grows_still [] c.args.self.now _ (λ ways disk. stays_put (over_of (g.B.Chronicle.entries c.args.self.now.book) ways disk c.args.self.now) (g.B.Chronicle.entries c.reserve.new.self) c.reserve.ensures.entries) (refl, refl, refl) refl)
          noted.1;
      notes = subst (λ (s : List Stmt). NotesStaged c.args.pass.now.pid s c.read.result noted.0) script noted.2;
      fresh = c.read.ensures.fresh;
      view = c.read.ensures.view;
      refused = tt;
      short = search rules;
      cause = λ disk. record { its = live; read = c.in-Some.is; unbroken = search rules };
      early = subst (λ (s : List Stmt). AnswersEarly (alone c.args.self.now) c.args.pass.now.front s c.read.result.front) script c.read.ensures.early;
      rest = λ is. c.read.ensures.rest;
      staged = λ disk. c.read.ensures.rest.2 ∙ sym (stages_none c.args.ways c.args.self.now.stage.commits (commit_of rows c.args.script.now) none);
    }

pub returns-then-live-clause-begun : goal.returns-then-live-clause-begun
returns-then-live-clause-begun g c = no_memory c.args.ways c.args.self.now _ c.args.pass.now c.args.script.now (grows_still [] c.args.self.now _ (λ ways disk. stays_put (over_of (g.B.Chronicle.entries c.args.self.now.book) ways disk c.args.self.now) (g.B.Chronicle.entries c.reserve.new.self) c.reserve.ensures.entries) (refl, refl, refl) refl) (refl, refl, refl)

pub returns-then-live-2-clause-begun : goal.returns-then-live-2-clause-begun
returns-then-live-2-clause-begun g c =
    let ran = c.in-Ok.ran in
    let script = c.in-Ok.ensures.script in
    let noted = c.refuse_spent.ensures.notes in
    record {
      entries = noted.0;
      grows = grows_on [] noted.0 c.args.self.now _ c.refuse_spent.new.self
          (grows_still [] c.args.self.now _ (λ ways disk. stays_put (over_of (g.B.Chronicle.entries c.args.self.now.book) ways disk c.args.self.now) (g.B.Chronicle.entries c.reserve.new.self) c.reserve.ensures.entries) (refl, refl, refl) refl)
          noted.1;
      notes = subst (λ (s : List Stmt). RunNotes (user_in (alone c.args.self.now) c.args.pass.now) s (Err c.refuse_spent.result) noted.0) script noted.2;
      fresh = tt;
      view = tt;
      refused = refl;
      short = tt;
      cause = λ disk. cause_over c.args.ways disk c.args.self.now c.args.script.now (Err c.refuse_spent.result) (subst (λ (s : List Stmt). RunCause (alone c.args.self.now) s (Err c.refuse_spent.result)) script c.refuse_spent.ensures.cause);
      early = tt;
      rest = λ none. c.refuse_spent.ensures.rest;
      staged = λ disk. c.refuse_spent.ensures.rest.2;
    }

pub returns-in-AtOnce-clause-begun : goal.returns-in-AtOnce-clause-begun
returns-in-AtOnce-clause-begun g c = (
  record {
    grows = (grows_still [] c.args.self.now _ (λ ways disk. stays_put (over_of (g.B.Chronicle.entries c.args.self.now.book) ways disk c.args.self.now) (g.B.Chronicle.entries c.reserve.new.self) c.reserve.ensures.entries) (refl, refl, refl) refl);
    keeps = (refl, refl, refl);
    read = c.in-Some.is;
    unbroken = search rules;
    unclosed = search rules;
    number = omega (arith, c.if-live-2.false);
    script_is = c.in-Ok.ensures.script;
    answer = c.in-Ok.ensures.answer;
    some = search rules;
    room = search rules;
  },
  refl,
  c.in-AtOnce.is,
)

pub returns-in-Err-clause-begun : goal.returns-in-Err-clause-begun
returns-in-Err-clause-begun g c =
    let rows = c.args.self.now.rows in
    let script = c.in-Ok.ensures.script in
    let noted = c.in-Err.ensures.notes in
    record {
      entries = noted.0;
      grows = grows_on [] noted.0 c.args.self.now _ c.stage.new.self
          (grows_still [] c.args.self.now _ (λ ways disk. stays_put (over_of (g.B.Chronicle.entries c.args.self.now.book) ways disk c.args.self.now) (g.B.Chronicle.entries c.reserve.new.self) c.reserve.ensures.entries) (refl, refl, refl) refl)
          noted.1;
      notes = subst (λ (s : List Stmt). RunNotes (user_in (alone c.args.self.now) c.args.pass.now) s (Err c.in-Err.refusal) noted.0) script noted.2;
      fresh = tt;
      view = tt;
      refused = c.in-Err.ensures.refused;
      short = tt;
      cause = λ disk. cause_over c.args.ways disk c.args.self.now c.args.script.now (Err c.in-Err.refusal) (subst (λ (s : List Stmt). RunCause (alone c.args.self.now) s (Err c.in-Err.refusal)) script c.in-Err.ensures.cause);
      early = tt;
      rest = λ is. c.in-Err.ensures.rest (subst (λ (s : List Stmt). MakesNoCall rows s (Err c.in-Err.refusal)) (sym script) is);
      staged = λ disk. c.in-Err.ensures.staged;
    }

pub returns-in-Ok-stage-clause-begun : goal.returns-in-Ok-stage-clause-begun
returns-in-Ok-stage-clause-begun g c =
    let rows = c.args.self.now.rows in
    let script = c.in-Ok.ensures.script in
    let staged = c.in-Ok-stage.staged in
    let noted = c.in-Ok-stage.ensures.notes in
    let commit = commit_of rows c.args.script.now in
    let same : c.in-Ok.ran.commit ≡ commit = c.in-Ok.ensures.answer.commit_is ∙ ap (commit_of rows) script in
    let some : 1 ≤ length c.changes.result.now = grind (arith, nat_tests, c.if-is_empty.false, c.is_empty.ensures) in
    let many : c.in-Ok.ran.commit ≢ [] = λ none. absurd (omega (arith, some, ap length c.changes.ensures.list, ap length none)) in
    record {
      entries = noted.0;
      grows = grows_on [] noted.0 c.args.self.now _ c.stage.new.self
          (grows_still [] c.args.self.now _ (λ ways disk. stays_put (over_of (g.B.Chronicle.entries c.args.self.now.book) ways disk c.args.self.now) (g.B.Chronicle.entries c.reserve.new.self) c.reserve.ensures.entries) (refl, refl, refl) refl)
          noted.1;
      notes = subst (λ (s : List Stmt). NotesStaged c.args.pass.now.pid s staged noted.0) script noted.2;
      fresh = c.in-Ok-stage.ensures.fresh;
      view = c.in-Ok-stage.ensures.view;
      refused = tt;
      short = search rules;
      cause = λ disk. cause_over c.args.ways disk c.args.self.now c.args.script.now (Ok staged) (subst (λ (s : List Stmt). RunCause (alone c.args.self.now) s (Ok staged)) script c.in-Ok-stage.ensures.cause);
      early = never_early (alone c.args.self.now) c.args.pass.now.front rows c.args.script.now commit (Ok staged) refl (λ none. many (same ∙ none));
      rest = λ none. absurd (many (same ∙ none));
      staged = λ disk. subst (λ (way : Commits). c.stage.new.self.stage.commits ≡ with_staged way c.args.self.now.stage.commits commit) (sym c.in-Staged.is)
          (subst (λ (s : List Stmt). c.stage.new.self.stage.commits ≡ staged_behind (alone c.args.self.now) s (Ok staged)) script c.in-Ok-stage.ensures.staged);
    }
