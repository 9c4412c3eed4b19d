-- A connection is taken, and its session's child ends.
use Rattle.std.{proofs.{Common.{◌≡◌, ◌⊎◌, inl, inr, ℕ, ◌+◌, List, [], ◌∷◌, ◌++◌, Option, None, Some, Result, Ok, Err, refl, sym, ◌∙◌, ap, subst, arith, append-nil}, lemmas.List.Elements.{All-nil, All-cons}}, specs.{Option.option_map, Prelude.{true, false, length, IfSome, OnOk}}}
use Rattle.pm_server.{specs.{pm_facts.Bools.never_both, pm_admit.declared.Cac.Cac, pm_exit.declared.child.Kind.Kind, pm_supervisor.Steps.kind_for, pm_outside.{Visits.Visits, Added.Added}, pm_segment.{Moves.Moves, MovesLaws.moves_none}, pm_supervisor_journal.{Laws.{GoesOnOverItsJournal, KeepsALegalJournal}, declared.supervision.Taken.Taken, Standing.{IsAtRest, MayTake, Standing, accepting, decision_on, later, made, next_pid}, Stands.{AtWork, IsSettled}, Due.{IsIdle, is_last_drawn}, Roll.kind_in}, Journal.accepted_in, declared.end.ServerEnd.{ServerEnd, TheVariants.NoMemory}}, proofs.JournalLaws.accepted_in-append}
use Rattle.pm_server.specs.pm_admit.declared.Cac.TheVariants as decisions
use Rattle.pm_server.specs.pm_exit.declared.child.Kind.TheVariants as kind
use Rattle.pm_server.specs.pm_state.declared.event.PmEvent.TheVariants as entry
use Rattle.pm_supervisor_chain.{specs.{Laws.StepsGoOn, Steps.{ChildRun, Notes, Runs, RunsOn, Step, journal_of}}, proofs.FoldsLaws.journal-append}
use Rattle.pm_once.{specs.{Calls.{Admits, Asks, Finishes, HasRun}, Goes.{Goes, IsRunning}, Serves.{HasServed, IsServed, Serves}, Service.{Connection, IsServedAs, run_of, with_connections}, View.View, declared.admitted.Admitted.Admitted}, proofs.{Ending.{IsNoted, IsTaken, ran_on, taken}, Finishing.is_drawn, SessionRuns.session_run, SessionEnds.session_sound, Going.{goes_none, goes_on, stays_on}, Serving.{ends_on, one_numbered, open_on}, Knowing.known_moved}}
use Rattle.pm_once_children.{specs.{Outcomes.ComesTo, Auxiliaries.{AreThere, HasLess}, declared.{outcome.Outcome.Outcome, auxiliaries.Auxiliaries.Auxiliaries}}, proofs.CalmLaws.still_less}
use Rattle.pm_once_acts.{specs.{Acts.IsPresent, Steps.sessions_in}, proofs.{StepsLaws.sessions-append, ActsLaws.drawn_further}}

-- what the taking of a connection leaves
pub record HasTaken (before : View) (w : AtWork) : Type 0 where
  pub rests : IsAtRest before.work.standing
  pub settled : IsSettled before.work.standing
  pub may : MayTake before.work.standing
  pub ok : decision_on before.work.standing ≡ decisions.Ok
  pub standing : w.standing ≡ made (accepting before.work.standing) before.work.standing
  pub told : Added (accepting before.work.standing).entries before.work.told w.told

abbrev pub accepted_step : View → Step
accepted_step v = Notes (entry.Accepted (next_pid v.work.standing) (decision_on v.work.standing))

its_kind : (d : Cac) → d ≡ decisions.Ok → kind_for d ≡ kind.Backend
its_kind d is = ap kind_for is

one_accepted : (v : View) (pid : ℕ) → decision_on v.work.standing ≡ decisions.Ok → pid ≡ next_pid v.work.standing → accepted_in (journal_of (accepted_step v ∷ [])) ≡ record { pid = pid; decision = decisions.Ok } ∷ []
one_accepted v pid ok is =
    ap (λ (d : Cac). record { pid = next_pid v.work.standing; decision = d } ∷ []) ok ∙ ap (λ (p : ℕ). record { pid = p; decision = decisions.Ok } ∷ []) (sym is)

is_there : (gives : ℕ → Type 0) (v : View) (w : AtWork) (pid : ℕ) → HasTaken v w → IsTaken gives v (record v { work = w }) → pid ≡ next_pid v.work.standing → IsPresent (Some pid) kind.Backend w.standing
is_there gives v w pid took one is =
    subst (λ (p : ℕ). IsPresent (Some p) kind.Backend w.standing) (sym is)
    (one.there ∙ ap (λ (k : Kind). Some k) (its_kind (decision_on v.work.standing) took.ok), omega (arith, ap (λ (t : Standing). t.last_pid) took.standing))

drawn_on : (n m : ℕ) → m ≡ n + 1 → is_last_drawn n ≡ true → is_last_drawn m ≡ true
drawn_on n m is drawn = subst (λ (k : ℕ). is_last_drawn k ≡ true) (sym is) (drawn_further n drawn)

-- no request is owed
pub admits_plainly : StepsGoOn → GoesOnOverItsJournal → (gives : ℕ → Type 0) (v : View) (w : AtWork) (pid : ℕ) → HasTaken v w → pid ≡ next_pid v.work.standing → w.standing.owes_smart ≡ false
    → Admits gives (record { pid = pid; settled = Ok tt }) (accepted_step v ∷ []) v (record v { work = w })
admits_plainly goes work gives v w pid took is unowed =
    let one = taken goes work gives v w took.rests took.settled took.may took.standing took.told in
    record {
      goes = one.goes;
      opened = one.stays;
      rests = record { none_due = ap (λ (t : Standing). t.due) took.standing; goes_on = ap (λ (t : Standing). t.ended) took.standing ∙ took.rests.goes_on };
      unowed = unowed;
      there = is_there gives v w pid took one is;
      first = omega (arith, is);
      accepted = one_accepted v pid took.ok is;
      sessions = refl;
      deaf = inl refl;
      drawn = λ drawn. drawn_on v.work.standing.last_pid w.standing.last_pid (ap (λ (t : Standing). t.last_pid) took.standing) drawn;
    }

-- its pid is the last
pub admits_asking : StepsGoOn → GoesOnOverItsJournal → (gives : ℕ → Type 0) (v : View) (w : AtWork) (pid : ℕ) (result : Result (Unit {0}) ServerEnd) (steps : List Step) (now : View) → HasTaken v w → pid ≡ next_pid v.work.standing
    → w.standing.owes_smart ≡ true → IsRunning (record v { work = w }) → Asks gives result steps (record v { work = w }) now
    → Admits gives (record { pid = pid; settled = result }) ((accepted_step v ∷ []) ++ steps) v now
admits_asking goes work gives v w pid result steps now took is owes running asks =
    let one = taken goes work gives v w took.rests took.settled took.may took.standing took.told in
    let mid : View = record v { work = w } in
    record {
      goes = goes_on gives (accepted_step v ∷ []) steps v mid now one.goes one.stays asks.does.goes;
      opened = stays_on (accepted_step v ∷ []) steps v mid now one.stays asks.opened;
      rests = asks.rests;
      unowed = elim result as (λ r. OnOk r (IsIdle now.work.standing) → OnOk r (now.work.standing.owes_smart ≡ false)) [ Ok done ↦ λ idle. idle.unowed | Err end ↦ λ idle. tt ] asks.idle;
      there = asks.auxiliaries pid kind.Backend (is_there gives v w pid took one is);
      first = omega (arith, is);
      accepted = ap accepted_in (journal-append (accepted_step v ∷ []) steps) ∙ accepted_in-append (journal_of (accepted_step v ∷ [])) (journal_of steps)
          ∙ ap (λ (l : List Taken). accepted_in (journal_of (accepted_step v ∷ [])) ++ l) asks.does.serves.accepted ∙ append-nil (accepted_in (journal_of (accepted_step v ∷ []))) ∙ one_accepted v pid took.ok is;
      sessions = sessions-append (accepted_step v ∷ []) steps ∙ asks.does.serves.sessions;
      deaf = inr (asks.deaf, asks.drawn (is_drawn mid running owes));
      drawn = λ drawn. asks.drawn (drawn_on v.work.standing.last_pid w.standing.last_pid (ap (λ (t : Standing). t.last_pid) took.standing) drawn);
    }

-- ---- its session

deaf_on : (a b c : View) → (b.listens ≡ a.listens) ⊎ ((b.listens ≡ false) × (is_last_drawn b.work.standing.last_pid ≡ true)) → (is_last_drawn b.work.standing.last_pid ≡ true → is_last_drawn c.work.standing.last_pid ≡ true)
    → (c.listens ≡ b.listens) ⊎ ((c.listens ≡ false) × (is_last_drawn c.work.standing.last_pid ≡ true)) → (c.listens ≡ a.listens) ⊎ ((c.listens ≡ false) × (is_last_drawn c.work.standing.last_pid ≡ true))
deaf_on a b c one kept (inr drawn) = inr drawn
deaf_on a b c (inl same) kept (inl still) = inl (still ∙ same)
deaf_on a b c (inr drawn) kept (inl still) = inr (still ∙ drawn.0, kept drawn.1)

-- its child's end was noted, and all that is due was done
pub serves_session : (gives : ℕ → Type 0) (admitted : Admitted) (c : Connection) (at : ℕ) (result : Result (Unit {0}) ServerEnd) (one three : List Step) (v0 v2 v4 v5 : View) → v0.listens ≡ true → Admits gives admitted one v0 v2
    → IsNoted gives (run_of c) at v2 v4 → Finishes gives result three v4 v5
    → Serves gives result (c ∷ []) false ((one ++ Runs (run_of c) (later at v2.work.standing) ∷ []) ++ three) v0 v5
serves_session gives admitted c at result one three v0 v2 v4 v5 listens admits noted finishes =
    let step : List Step = Runs (run_of c) (later at v2.work.standing) ∷ [] in
    let two = goes_on gives one step v0 v2 v4 admits.goes admits.opened noted.goes in
    let stays = stays_on one step v0 v2 v4 admits.opened noted.stays in
    let drawn_later : is_last_drawn v2.work.standing.last_pid ≡ true → is_last_drawn v5.work.standing.last_pid ≡ true =
    λ drawn. finishes.drawn (subst (λ (n : ℕ). is_last_drawn n ≡ true) (sym noted.last_pid) drawn) in
    let deaf : (v5.listens ≡ v2.listens) ⊎ ((v5.listens ≡ false) × (is_last_drawn v5.work.standing.last_pid ≡ true)) =
    elim finishes.deaf as (λ x. (v5.listens ≡ v2.listens) ⊎ ((v5.listens ≡ false) × (is_last_drawn v5.work.standing.last_pid ≡ true))) [ inl same ↦ inl (same ∙ noted.listens) | inr drawn ↦ inr drawn ] in
    let all = deaf_on v0 v2 v5 admits.deaf drawn_later deaf in
    record {
      goes = goes_on gives (one ++ step) three v0 v4 v5 two stays finishes.does.goes;
      stays = open_on result (one ++ step) three v0 v4 v5 stays finishes.does.stays;
      ends = ends_on result (one ++ step) three v5 finishes.does.ends;
      idle = finishes.idle;
      deaf = λ was. absurd (never_both v0.listens listens was);
      at_end = λ is. absurd (never_both false is refl);
      asked = λ is. absurd (never_both false is refl);
      drawn = λ drawn. drawn_later (admits.drawn drawn);
      why = λ is. elim all as (λ x. (v0.listens ≡ false) ⊎ ((false ≡ true) ⊎ (is_last_drawn v5.work.standing.last_pid ≡ true))) [ inl same ↦ inl (sym same ∙ is) | inr drawn ↦ inr (inr drawn.1) ];
    }

-- it wasn't, for want of memory
pub serves_short : (gives : ℕ → Type 0) (admitted : Admitted) (c : Connection) (one : List Step) (v0 v2 v4 : View) → v0.listens ≡ true → Admits gives admitted one v0 v2
    → Goes gives (RunsOn (run_of c) ∷ []) v2 v4 → v4.listens ≡ v2.listens → v4.work.standing ≡ v2.work.standing
    → Serves gives (Err NoMemory) (c ∷ []) false (one ++ RunsOn (run_of c) ∷ []) v0 v4
serves_short gives admitted c one v0 v2 v4 listens admits goes same standing =
    let drawn_later : is_last_drawn v2.work.standing.last_pid ≡ true → is_last_drawn v4.work.standing.last_pid ≡ true =
    λ drawn. subst (λ (t : Standing). is_last_drawn t.last_pid ≡ true) (sym standing) drawn in
    let all = deaf_on v0 v2 v4 admits.deaf drawn_later (inl same) in
    record {
      goes = goes_on gives one (RunsOn (run_of c) ∷ []) v0 v2 v4 admits.goes admits.opened goes;
      stays = tt;
      ends = tt;
      idle = tt;
      deaf = λ was. absurd (never_both v0.listens listens was);
      at_end = λ is. absurd (never_both false is refl);
      asked = λ is. absurd (never_both false is refl);
      drawn = λ drawn. drawn_later (admits.drawn drawn);
      why = λ is. elim all as (λ x. (v0.listens ≡ false) ⊎ ((false ≡ true) ⊎ (is_last_drawn v4.work.standing.last_pid ≡ true))) [ inl same' ↦ inl (sym same' ∙ is) | inr drawn ↦ inr (inr drawn.1) ];
    }

-- ---- what was served

pub session_served : (seed : List ℕ) (limit : ℕ) (gives : ℕ → Type 0) (admitted : Admitted) (c : Connection) (at : ℕ) (result : Result (Unit {0}) ServerEnd) (one three : List Step) (v0 v2 v4 v5 : View) (u w : Option Visits)
    → Admits gives admitted one v0 v2 → Finishes gives result three v4 v5 → c.pid ≡ admitted.pid → IsServed seed limit gives c → IfSome u (λ visits. c.given.number ≡ length visits.given + 1) → w ≡ option_map (with_connections (c ∷ [])) u
    → HasServed seed limit gives (c ∷ []) false ((one ++ Runs (run_of c) at ∷ []) ++ three) u w
session_served seed limit gives admitted c at result one three v0 v2 v4 v5 u w admits finishes pid served numbered visits =
    let step : List Step = Runs (run_of c) at ∷ [] in
    record {
      visits = visits;
      numbers = one_numbered c u numbered;
      each = All-cons (IsServed seed limit gives) c [] served (All-nil (IsServed seed limit gives));
      accepted =
          ap accepted_in (journal-append (one ++ step) three) ∙ accepted_in-append (journal_of (one ++ step)) (journal_of three)
          ∙ ap (λ (l : List Taken). accepted_in (journal_of (one ++ step)) ++ l) finishes.does.serves.accepted ∙ append-nil (accepted_in (journal_of (one ++ step)))
          ∙ ap accepted_in (journal-append one step) ∙ accepted_in-append (journal_of one) (journal_of step)
          ∙ ap (λ (l : List Taken). l ++ accepted_in (journal_of step)) admits.accepted
          ∙ ap (λ (p : ℕ). record { pid = p; decision = decisions.Ok } ∷ []) (sym pid);
      sessions = sessions-append (one ++ step) three ∙ ap (λ (l : List ChildRun). sessions_in (one ++ step) ++ l) finishes.does.serves.sessions ∙ append-nil (sessions_in (one ++ step))
          ∙ sessions-append one step ∙ ap (λ (l : List ChildRun). l ++ run_of c ∷ []) admits.sessions;
    }

pub short_served : (seed : List ℕ) (limit : ℕ) (gives : ℕ → Type 0) (admitted : Admitted) (c : Connection) (one : List Step) (v0 v2 : View) (u w : Option Visits)
    → Admits gives admitted one v0 v2 → c.pid ≡ admitted.pid → IsServed seed limit gives c → IfSome u (λ visits. c.given.number ≡ length visits.given + 1) → w ≡ option_map (with_connections (c ∷ [])) u → HasServed seed limit gives (c ∷ []) false (one ++ RunsOn (run_of c) ∷ []) u w
short_served seed limit gives admitted c one v0 v2 u w admits pid served numbered visits =
    let step : List Step = RunsOn (run_of c) ∷ [] in
    record {
      visits = visits;
      numbers = one_numbered c u numbered;
      each = All-cons (IsServed seed limit gives) c [] served (All-nil (IsServed seed limit gives));
      accepted =
          ap accepted_in (journal-append one step) ∙ accepted_in-append (journal_of one) (journal_of step)
          ∙ ap (λ (l : List Taken). l ++ []) admits.accepted
          ∙ ap (λ (p : ℕ). record { pid = p; decision = decisions.Ok } ∷ []) (sym pid);
      sessions = sessions-append one step ∙ ap (λ (l : List ChildRun). l ++ run_of c ∷ []) admits.sessions;
    }

-- ---- parts of a call

-- nothing was done but that the supervisor made room
pub nothing_short : (gives : ℕ → Type 0) (v : View) (w : AtWork) → w ≡ v.work → Serves gives (Err NoMemory) [] false [] v (record v { work = w })
nothing_short gives v w same = subst (λ (x : AtWork). Serves gives (Err NoMemory) [] false [] v (record v { work = x })) (sym same) (record {
  goes = goes_none gives v;
  stays = tt;
  ends = tt;
  idle = tt;
  deaf = λ was. (was, refl, refl);
  at_end = λ is. absurd (never_both false is refl);
  asked = λ is. absurd (never_both false is refl);
  drawn = λ drawn. drawn;
  why = λ is. inl is;
})

-- the child of a session has run
pub session_ran : (key limit : ℕ) (gives : ℕ → Type 0) (c : Connection) (pid : ℕ) (before now : View) → IsServedAs key limit gives c → c.pid ≡ pid → c.generation ≡ before.store.generation → IsPresent (Some pid) kind.Backend before.work.standing
    → now.work ≡ before.work → now.outcome ≡ None → Moves c.noted before.store now.store → now.lost ≡ before.lost → now.log ≡ before.log → now.auxiliaries ≡ before.auxiliaries → now.listens ≡ before.listens → HasRun (run_of c) before now
session_ran key limit gives c pid before now served is generation there work forgotten store lost log auxiliaries listens = record {
  is_run = session_run key limit gives c served;
  there = ap (λ (p : ℕ). kind_in p before.work.standing.children) is ∙ there.0;
  generation = generation;
  off = tt;
  auxiliaries = λ s were. subst (λ (h : Auxiliaries). AreThere h s) (sym auxiliaries) were;
  work = work;
  store = store;
  knows = λ from known. known_moved from c.noted before now forgotten store known;
  told = tt;
  less = subst (λ (h : Auxiliaries). HasLess before.auxiliaries h) (sym auxiliaries) (still_less before.auxiliaries);
  sound = λ from counted. session_sound key limit gives from c before now served store counted;
  came = subst (λ (o : Option Outcome). ComesTo (run_of c) before.outcome o) (sym forgotten) tt;
  lost = lost;
  log = log;
  listens = listens;
}

-- where its end isn't asked to be noted
pub still_short : StepsGoOn → KeepsALegalJournal → (gives : ℕ → Type 0) (run : ChildRun) (before now : View) → IsRunning before → IsAtRest before.work.standing → HasRun run before now → Goes gives (RunsOn run ∷ []) before now
still_short goes legal gives run before now running rests ran =
    ran_on goes legal gives run before now now running rests ran
    (record { standing = refl; told = refl; lost = refl; store = record { moves = moves_none now.store; rows = refl; live = refl; files = refl; faults = refl }; outcome = refl; log = refl; auxiliaries = refl; listens = refl })

pub idle_of : (v : View) (r : Result (Unit {0}) ServerEnd) → r ≡ Ok tt → IsAtRest v.work.standing → OnOk r (v.work.standing.owes_smart ≡ false) → IsIdle v.work.standing
idle_of v r is rests unowed = record { rests = rests; unowed = subst (λ (x : Result (Unit {0}) ServerEnd). OnOk x (v.work.standing.owes_smart ≡ false)) is unowed }
