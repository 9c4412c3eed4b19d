-- The children that serve no connection, after an act, after the end of a child, and where one is taken off.
use Rattle.std.{proofs.{Common.{ℕ, Option, None, Some, ◌≡◌, sym, subst, ap, List, [], ◌∷◌, refl, arith, ◌∙◌, ◌+◌, ◌⊎◌, inl, inr}, lemmas.{Bool.{eqb-false, eqb-true, ne_eqb}, Option.same_Some}}, specs.Prelude.{Bool, true, false, ◌==◌, if◌then◌else◌}}
use Rattle.pm_server.specs.{pm_exit.declared.child.Kind.Kind, pm_state.declared.action.Action.Action, pm_supervisor_journal.{Standing.{Standing, done, act_for}, Roll.{kind_in, without}, declared.roll.Enrolled.Enrolled}}
use Rattle.pm_once_acts.{specs.{Acts.IsPresent, pm_supervisor_chain.Steps.ChildRun, Steps.if_session}, proofs.ActsLaws.{auxiliary_kept, auxiliary_started, other_pid}}
use Rattle.pm_server.specs.pm_exit.declared.child.Kind.TheVariants as kind
use Rattle.pm_once_children.specs.{Auxiliaries.{AreThere, auxiliaries_after, IsOff, IsTakenOff, HasLess, heard_of}, declared.auxiliaries.Auxiliaries.Auxiliaries}
use Rattle.pm_server.specs.pm_state.declared.action.Action.TheVariants as act

maybe_kept : (a : Action) (s : Standing) (auxiliary : Option ℕ) (k' : Kind) → IsPresent auxiliary k' s → IsPresent auxiliary k' (done a s)
maybe_kept a s None k' there = tt
maybe_kept a s (Some pid) k' there = auxiliary_kept a s pid k' there

all_kept : (a : Action) (s : Standing) (auxiliaries : Auxiliaries) → AreThere auxiliaries s → AreThere auxiliaries (done a s)
all_kept a s auxiliaries there = record {
  startup = maybe_kept a s auxiliaries.startup kind.Startup there.startup;
  checkpointer = maybe_kept a s auxiliaries.checkpointer kind.Checkpointer there.checkpointer;
  writer = maybe_kept a s auxiliaries.writer kind.Writer there.writer;
}

same_auxiliaries : (s : Standing) (before now : Auxiliaries) → now.startup ≡ before.startup → now.checkpointer ≡ before.checkpointer → now.writer ≡ before.writer → AreThere before s → AreThere now s
same_auxiliaries s before now one two three there = record {
  startup = subst (λ (h : Option ℕ). IsPresent h kind.Startup s) (sym one) there.startup;
  checkpointer = subst (λ (h : Option ℕ). IsPresent h kind.Checkpointer s) (sym two) there.checkpointer;
  writer = subst (λ (h : Option ℕ). IsPresent h kind.Writer s) (sym three) there.writer;
}

pub auxiliaries_acted : (a : Action) (s : Standing) (before now : Auxiliaries) → now ≡ auxiliaries_after (act_for a s) before → AreThere before s → AreThere now (done a s)
auxiliaries_acted (act.Start kind.Startup) s before now is there =
    subst (λ (h : Auxiliaries). AreThere h (done (act.Start kind.Startup) s)) (sym is) (record { startup = auxiliary_started kind.Startup s; checkpointer = tt; writer = tt })
auxiliaries_acted (act.Start kind.Checkpointer) s before now is there =
    let kept = all_kept (act.Start kind.Checkpointer) s before there in
    subst (λ (h : Auxiliaries). AreThere h (done (act.Start kind.Checkpointer) s)) (sym is)
    (record { startup = kept.startup; checkpointer = auxiliary_started kind.Checkpointer s; writer = kept.writer })
auxiliaries_acted (act.Start kind.Writer) s before now is there =
    let kept = all_kept (act.Start kind.Writer) s before there in
    subst (λ (h : Auxiliaries). AreThere h (done (act.Start kind.Writer) s)) (sym is)
    (record { startup = kept.startup; checkpointer = kept.checkpointer; writer = auxiliary_started kind.Writer s })
auxiliaries_acted (act.Start kind.Worker) s before now is there = subst (λ (h : Auxiliaries). AreThere h (done (act.Start kind.Worker) s)) (sym is) (all_kept (act.Start kind.Worker) s before there)
auxiliaries_acted (act.Start kind.Backend) s before now is there = subst (λ (h : Auxiliaries). AreThere h (done (act.Start kind.Backend) s)) (sym is) (all_kept (act.Start kind.Backend) s before there)
auxiliaries_acted (act.Start kind.DeadEnd) s before now is there = subst (λ (h : Auxiliaries). AreThere h (done (act.Start kind.DeadEnd) s)) (sym is) (all_kept (act.Start kind.DeadEnd) s before there)
auxiliaries_acted (act.Quit why) s before now is there = same_auxiliaries (done (act.Quit why) s) before now (ap (λ (h : Auxiliaries). h.startup) is) (ap (λ (h : Auxiliaries). h.checkpointer) is) (ap (λ (h : Auxiliaries). h.writer) is) (all_kept (act.Quit why) s before there)
auxiliaries_acted act.Terminate s before now is there = same_auxiliaries (done act.Terminate s) before now (ap (λ (h : Auxiliaries). h.startup) is) (ap (λ (h : Auxiliaries). h.checkpointer) is) (ap (λ (h : Auxiliaries). h.writer) is) (all_kept act.Terminate s before there)
auxiliaries_acted act.KillAll s before now is there = same_auxiliaries (done act.KillAll s) before now (ap (λ (h : Auxiliaries). h.startup) is) (ap (λ (h : Auxiliaries). h.checkpointer) is) (ap (λ (h : Auxiliaries). h.writer) is) (all_kept act.KillAll s before there)
auxiliaries_acted act.AskCheckpoint s before now is there = same_auxiliaries (done act.AskCheckpoint s) before now (ap (λ (h : Auxiliaries). h.startup) is) (ap (λ (h : Auxiliaries). h.checkpointer) is) (ap (λ (h : Auxiliaries). h.writer) is) (all_kept act.AskCheckpoint s before there)
auxiliaries_acted act.Ready s before now is there = same_auxiliaries (done act.Ready s) before now (ap (λ (h : Auxiliaries). h.startup) is) (ap (λ (h : Auxiliaries). h.checkpointer) is) (ap (λ (h : Auxiliaries). h.writer) is) (all_kept act.Ready s before there)
auxiliaries_acted act.Reset s before now is there = same_auxiliaries (done act.Reset s) before now (ap (λ (h : Auxiliaries). h.startup) is) (ap (λ (h : Auxiliaries). h.checkpointer) is) (ap (λ (h : Auxiliaries). h.writer) is) (all_kept act.Reset s before there)
auxiliaries_acted (act.Say line) s before now is there = same_auxiliaries (done (act.Say line) s) before now (ap (λ (h : Auxiliaries). h.startup) is) (ap (λ (h : Auxiliaries). h.checkpointer) is) (ap (λ (h : Auxiliaries). h.writer) is) (all_kept (act.Say line) s before there)
auxiliaries_acted (act.End how) s before now is there = same_auxiliaries (done (act.End how) s) before now (ap (λ (h : Auxiliaries). h.startup) is) (ap (λ (h : Auxiliaries). h.checkpointer) is) (ap (λ (h : Auxiliaries). h.writer) is) (all_kept (act.End how) s before there)

-- ---- the others stay

kept_kind : (p pid : ℕ) (cs : List Enrolled) → (p == pid) ≡ false → kind_in p (without pid cs) ≡ kind_in p cs
kept_kind p pid [] other = refl
kept_kind p pid (c ∷ cs) other =
    elim (c.pid == pid) as (λ (b : Bool). (c.pid == pid) ≡ b → kind_in p (if b then cs else c ∷ without pid cs) ≡ (if c.pid == p then Some c.kind else kind_in p cs)) [
      | true ↦ λ is. sym (ap (λ (b : Bool). (if b then Some c.kind else kind_in p cs)) (not_it c.pid p pid is other))
      | false ↦ λ is. ap (λ (k : Option Kind). (if c.pid == p then Some c.kind else k)) (kept_kind p pid cs other)
    ] refl
  where
    not_it : (x p pid : ℕ) → (x == pid) ≡ true → (p == pid) ≡ false → (x == p) ≡ false
    not_it x p pid one two = ne_eqb x p (λ same. eqb-false p pid two (sym same ∙ eqb-true x pid one))

auxiliary_without : (auxiliary : Option ℕ) (k other : Kind) (pid : ℕ) (s t : Standing) → (k ≡ other → auxiliary ≡ None) → kind_in pid s.children ≡ Some other → t.children ≡ without pid s.children → t.last_pid ≡ s.last_pid → IsPresent auxiliary k s → IsPresent auxiliary k t
auxiliary_without None k other pid s t off there children last is = tt
auxiliary_without (Some p) k other pid s t off there children last is =
    (ap (kind_in p) children ∙ kept_kind p pid s.children (different (p == pid) refl) ∙ is.0, omega (arith, is.1, last))
  where
    not_none : Some p ≡ None → ⊥
    not_none e = cc

    different : (b : Bool) → (p == pid) ≡ b → (p == pid) ≡ false
    different true e = absurd (not_none (off (same_Some k other (sym is.0 ∙ ap (λ (n : ℕ). kind_in n s.children) (eqb-true p pid e) ∙ there))))
    different false e = e

pub off_startup : (k : Kind) (auxiliaries : Auxiliaries) → IsOff k auxiliaries → kind.Startup ≡ k → auxiliaries.startup ≡ None
off_startup k auxiliaries off is = subst (λ (x : Kind). IsOff x auxiliaries) (sym is) off

off_checkpointer : (k : Kind) (auxiliaries : Auxiliaries) → IsOff k auxiliaries → kind.Checkpointer ≡ k → auxiliaries.checkpointer ≡ None
off_checkpointer k auxiliaries off is = subst (λ (x : Kind). IsOff x auxiliaries) (sym is) off

off_writer : (k : Kind) (auxiliaries : Auxiliaries) → IsOff k auxiliaries → kind.Writer ≡ k → auxiliaries.writer ≡ None
off_writer k auxiliaries off is = subst (λ (x : Kind). IsOff x auxiliaries) (sym is) off

pub auxiliaries_without : (k : Kind) (pid : ℕ) (auxiliaries : Auxiliaries) (s t : Standing) → IsOff k auxiliaries → kind_in pid s.children ≡ Some k → t.children ≡ without pid s.children → t.last_pid ≡ s.last_pid → AreThere auxiliaries s → AreThere auxiliaries t
auxiliaries_without k pid auxiliaries s t off there children last is = record {
  startup = auxiliary_without auxiliaries.startup kind.Startup k pid s t (off_startup k auxiliaries off) there children last is.startup;
  checkpointer = auxiliary_without auxiliaries.checkpointer kind.Checkpointer k pid s t (off_checkpointer k auxiliaries off) there children last is.checkpointer;
  writer = auxiliary_without auxiliaries.writer kind.Writer k pid s t (off_writer k auxiliaries off) there children last is.writer;
}

-- ---- the children stay

pub auxiliary_still : (auxiliary : Option ℕ) (k : Kind) (s t : Standing) → t.children ≡ s.children → t.last_pid ≡ s.last_pid → IsPresent auxiliary k s → IsPresent auxiliary k t
auxiliary_still None k s t children pid there = tt
auxiliary_still (Some p) k s t children pid there = (ap (kind_in p) children ∙ there.0, omega (arith, there.1, pid))

pub auxiliaries_still : (auxiliaries : Auxiliaries) (s t : Standing) → t.children ≡ s.children → t.last_pid ≡ s.last_pid → AreThere auxiliaries s → AreThere auxiliaries t
auxiliaries_still auxiliaries s t children pid there = record {
  startup = auxiliary_still auxiliaries.startup kind.Startup s t children pid there.startup;
  checkpointer = auxiliary_still auxiliaries.checkpointer kind.Checkpointer s t children pid there.checkpointer;
  writer = auxiliary_still auxiliaries.writer kind.Writer s t children pid there.writer;
}

-- ---- a connection is accepted

auxiliary_beside : (auxiliary : Option ℕ) (k new : Kind) (s t : Standing) → t.children ≡ record { pid = s.last_pid + 1; kind = new } ∷ s.children → t.last_pid ≡ s.last_pid + 1 → IsPresent auxiliary k s → IsPresent auxiliary k t
auxiliary_beside None k new s t children last is = tt
auxiliary_beside (Some p) k new s t children last is =
    (ap (kind_in p) children ∙ ap (λ (b : Bool). if b then Some new else kind_in p s.children) (other_pid p s.last_pid is.1) ∙ is.0, omega (arith, is.1, last))

pub auxiliaries_beside : (auxiliaries : Auxiliaries) (new : Kind) (s t : Standing) → t.children ≡ record { pid = s.last_pid + 1; kind = new } ∷ s.children → t.last_pid ≡ s.last_pid + 1 → AreThere auxiliaries s → AreThere auxiliaries t
auxiliaries_beside auxiliaries new s t children last is = record {
  startup = auxiliary_beside auxiliaries.startup kind.Startup new s t children last is.startup;
  checkpointer = auxiliary_beside auxiliaries.checkpointer kind.Checkpointer new s t children last is.checkpointer;
  writer = auxiliary_beside auxiliaries.writer kind.Writer new s t children last is.writer;
}

-- ---- who is taken off

pub startup_off : (pid : ℕ) (before now : Auxiliaries) → (before.startup ≡ Some pid) × (now ≡ record before { startup = None }) → (s : Standing) → AreThere before s → AreThere now s
startup_off pid before now off s there = subst (λ (h : Auxiliaries). AreThere h s) (sym off.1) (record { startup = tt; checkpointer = there.checkpointer; writer = there.writer })

auxiliary_off_by : (pid : ℕ) (k : Kind) (before now : Auxiliaries) (s : Standing)
    → ((k ≡ kind.Checkpointer) × (before.checkpointer ≡ Some pid) × (now ≡ record before { checkpointer = None })) ⊎ ((k ≡ kind.Writer) × (before.writer ≡ Some pid) × (now ≡ record before { writer = None }))
    → AreThere before s → AreThere now s
auxiliary_off_by pid k before now s (inl off) there = subst (λ (h : Auxiliaries). AreThere h s) (sym off.2) (record { startup = there.startup; checkpointer = tt; writer = there.writer })
auxiliary_off_by pid k before now s (inr off) there = subst (λ (h : Auxiliaries). AreThere h s) (sym off.2) (record { startup = there.startup; checkpointer = there.checkpointer; writer = tt })

pub auxiliary_off : (pid : ℕ) (k : Kind) (before now : Auxiliaries) → IsTakenOff pid k before now → (s : Standing) → AreThere before s → AreThere now s
auxiliary_off pid k before now off s there = auxiliary_off_by pid k before now s off.is there

-- what the others were told stays
pub startup_less : (pid : ℕ) (before now : Auxiliaries) → (before.startup ≡ Some pid) × (now ≡ record before { startup = None }) → HasLess before now
startup_less pid before now off = record { heard = ap heard_of off.1; startup = inl (ap (λ (h : Auxiliaries). h.startup) off.1) }

-- fewer, and still fewer
pub less_on : (one two three : Auxiliaries) → HasLess one two → HasLess two three → HasLess one three
less_on one two three first second = record {
  heard = second.heard ∙ first.heard;
  startup = elim second.startup [ inl none ↦ inl none | inr same ↦ elim first.startup [ inl none ↦ inl (same ∙ none) | inr still ↦ inr (same ∙ still) ] ];
}

auxiliary_less_by : (pid : ℕ) (k : Kind) (before now : Auxiliaries)
    → ((k ≡ kind.Checkpointer) × (before.checkpointer ≡ Some pid) × (now ≡ record before { checkpointer = None })) ⊎ ((k ≡ kind.Writer) × (before.writer ≡ Some pid) × (now ≡ record before { writer = None }))
    → HasLess before now
auxiliary_less_by pid k before now (inl off) = record { heard = ap heard_of off.2; startup = inr (ap (λ (h : Auxiliaries). h.startup) off.2) }
auxiliary_less_by pid k before now (inr off) = record { heard = ap heard_of off.2; startup = inr (ap (λ (h : Auxiliaries). h.startup) off.2) }

pub auxiliary_less : (pid : ℕ) (k : Kind) (before now : Auxiliaries) → IsTakenOff pid k before now → HasLess before now
auxiliary_less pid k before now off = auxiliary_less_by pid k before now off.is

-- only a session's child has an exit that may be a crash
pub no_backend : (k : Kind) → (k ≡ kind.Checkpointer) ⊎ (k ≡ kind.Writer) → k ≡ kind.Backend → ⊥
no_backend k (inl is) backend = cc
no_backend k (inr is) backend = cc

-- it is there
pub startup_there : (pid : ℕ) (auxiliaries : Auxiliaries) (s : Standing) → auxiliaries.startup ≡ Some pid → AreThere auxiliaries s → IsPresent (Some pid) kind.Startup s
startup_there pid auxiliaries s is there = subst (λ (h : Option ℕ). IsPresent h kind.Startup s) is there.startup

auxiliary_there_by : (pid : ℕ) (k : Kind) (before now : Auxiliaries) (s : Standing)
    → ((k ≡ kind.Checkpointer) × (before.checkpointer ≡ Some pid) × (now ≡ record before { checkpointer = None })) ⊎ ((k ≡ kind.Writer) × (before.writer ≡ Some pid) × (now ≡ record before { writer = None }))
    → AreThere before s → IsPresent (Some pid) k s
auxiliary_there_by pid k before now s (inl off) there = subst (λ (x : Kind). IsPresent (Some pid) x s) (sym off.0) (subst (λ (h : Option ℕ). IsPresent h kind.Checkpointer s) off.1 there.checkpointer)
auxiliary_there_by pid k before now s (inr off) there = subst (λ (x : Kind). IsPresent (Some pid) x s) (sym off.0) (subst (λ (h : Option ℕ). IsPresent h kind.Writer s) off.1 there.writer)

pub auxiliary_there : (pid : ℕ) (k : Kind) (before now : Auxiliaries) (s : Standing) → IsTakenOff pid k before now → AreThere before s → IsPresent (Some pid) k s
auxiliary_there pid k before now s off there = auxiliary_there_by pid k before now s off.is there

auxiliary_is_off_by : (pid : ℕ) (k : Kind) (before now : Auxiliaries)
    → ((k ≡ kind.Checkpointer) × (before.checkpointer ≡ Some pid) × (now ≡ record before { checkpointer = None })) ⊎ ((k ≡ kind.Writer) × (before.writer ≡ Some pid) × (now ≡ record before { writer = None })) → IsOff k now
auxiliary_is_off_by pid k before now (inl off) = subst (λ (x : Kind). IsOff x now) (sym off.0) (ap (λ (h : Auxiliaries). h.checkpointer) off.2)
auxiliary_is_off_by pid k before now (inr off) = subst (λ (x : Kind). IsOff x now) (sym off.0) (ap (λ (h : Auxiliaries). h.writer) off.2)

pub auxiliary_is_off : (pid : ℕ) (k : Kind) (before now : Auxiliaries) → IsTakenOff pid k before now → IsOff k now
auxiliary_is_off pid k before now off = auxiliary_is_off_by pid k before now off.is

pub auxiliary_kind : (pid : ℕ) (k : Kind) (before now : Auxiliaries) → IsTakenOff pid k before now → (k ≡ kind.Checkpointer) ⊎ (k ≡ kind.Writer)
auxiliary_kind pid k before now off = elim off.is [ inl one ↦ inl one.0 | inr two ↦ inr two.0 ]

pub no_session : (k : Kind) (run : ChildRun) → (k ≡ kind.Checkpointer) ⊎ (k ≡ kind.Writer) → if_session k run ≡ []
no_session k run (inl is) = ap (λ (x : Kind). if_session x run) is
no_session k run (inr is) = ap (λ (x : Kind). if_session x run) is
