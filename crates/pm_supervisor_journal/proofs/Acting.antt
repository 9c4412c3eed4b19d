-- The acts of a call are done one by one.
use Rattle.std.{proofs.{Common.{◌≡◌, ℕ, ◌+◌, ◌≤◌, Bool, true, false, ◌||◌, nat_eq, List, [], ◌∷◌, ◌++◌, Some, None, refl, ap, sym, ◌∙◌, subst, arith}, lemmas.Bool.Decides.nat_tests}, specs.Prelude.{Option, IfSome, is_none, is_some, ◌<◌}}
use Rattle.pm_state.{specs.{pm_exit.declared.child.Kind.Kind, declared.{action.Action.Action, event.PmEvent.PmEvent, machine.Machine.Machine}, Machine.started_as, Journal.{Replay, Do, AreLegal, Follows, without_first, asks_after, moment_after, all_replayed, replayed, replay_begun, dues, entry_of, entries_of, all_reported, last_pid, shown_after, settled}, InStep.{IsInStep, server_state}, Starts.{Owes, has_end, starts_in}, Laws.{TellsOfEachStart, WritesALegalJournal}}, proofs.ReplayLaws.reopens}
use Rattle.pm_state.specs.pm_exit.declared.child.Kind.TheVariants as kind
use Rattle.pm_supervisor.{specs.{declared.Limits.Limits, Supervisor.Shared, Shared.reopened, Steps.{Trace, kind_for}}, proofs.RunLaws.redo-children}
use Rattle.pm_supervisor.specs.Steps as supervisor
use Rattle.pm_state.specs.declared.action.Action.TheVariants as act
use Rattle.pm_state.specs.declared.event.PmEvent.TheVariants as entry
use Rattle.pm_supervisor_journal.{specs.{declared.roll.Enrolled.Enrolled, Doing.MayReport, Roll.{roll_of, without}, Standing.{Standing, children_after, last_pid_after, generation_after, noted, entry_for, reported, done}, Stands.{Remembers, IsComing, Stands, HasPids, IsSettled, any_kind, any_moment, starts_left}}, proofs.Rolls.roll-without}
use Rattle.pm_outside.specs.Added.{Added}

-- the reports

pub may-report : TellsOfEachStart → (a : Action) (rest : List Action) (m : Machine) → Owes (a ∷ rest) m → MayReport a m
may-report law (act.Start k) rest m owes = ((law.report k rest m owes).0, (law.report k rest m owes).1)
may-report law (act.Quit why) rest m owes = tt
may-report law act.Terminate rest m owes = tt
may-report law act.KillAll rest m owes = tt
may-report law act.AskCheckpoint rest m owes = tt
may-report law act.Ready rest m owes = tt
may-report law act.Reset rest m owes = tt
may-report law (act.Say line) rest m owes = tt
may-report law (act.End how) rest m owes = tt

owes-next : TellsOfEachStart → (a : Action) (rest : List Action) (m : Machine) → Owes (a ∷ rest) m → Owes rest (all_reported (a ∷ []) m)
owes-next law (act.Start k) rest m owes = (law.report k rest m owes).2
owes-next law (act.Quit why) rest m owes = owes
owes-next law act.Terminate rest m owes = owes
owes-next law act.KillAll rest m owes = owes
owes-next law act.AskCheckpoint rest m owes = owes
owes-next law act.Ready rest m owes = owes
owes-next law act.Reset rest m owes = owes
owes-next law (act.Say line) rest m owes = owes
owes-next law (act.End how) rest m owes = owes

started-ended : (k : Kind) (m : Machine) → (started_as k m).ended ≡ m.ended
started-ended kind.Startup m = refl
started-ended kind.Checkpointer m = refl
started-ended kind.Writer m = refl
started-ended kind.Worker m = refl
started-ended kind.Backend m = refl
started-ended kind.DeadEnd m = refl

pub report-one : (a : Action) (rest : List Action) (m : Machine) → all_reported rest (all_reported (a ∷ []) m) ≡ all_reported (a ∷ rest) m
report-one (act.Start k) rest m = refl
report-one (act.Quit why) rest m = refl
report-one act.Terminate rest m = refl
report-one act.KillAll rest m = refl
report-one act.AskCheckpoint rest m = refl
report-one act.Ready rest m = refl
report-one act.Reset rest m = refl
report-one (act.Say line) rest m = refl
report-one (act.End how) rest m = refl

report-ended : (a : Action) (m : Machine) → (all_reported (a ∷ []) m).ended ≡ m.ended
report-ended (act.Start k) m = started-ended k m
report-ended (act.Quit why) m = refl
report-ended act.Terminate m = refl
report-ended act.KillAll m = refl
report-ended act.AskCheckpoint m = refl
report-ended act.Ready m = refl
report-ended act.Reset m = refl
report-ended (act.Say line) m = refl
report-ended (act.End how) m = refl

as-reported : (a : Action) (s : Standing) (r : Replay) → Remembers s r → Remembers (reported a s) r
as-reported a s r was =
    record { children = was.children; last_pid = was.last_pid; generation = was.generation; moment = was.moment; owes_smart = was.owes_smart }

or-middle : (a b : Bool) → (a || false) || b ≡ a || b
or-middle true b = refl
or-middle false b = refl

or-all : (a b : Bool) → (a || true) || b ≡ a || true
or-all true b = refl
or-all false b = refl

end-one : (b : Bool) (a : Action) (rest : List Action) → (b || has_end (a ∷ [])) || has_end rest ≡ b || has_end (a ∷ rest)
end-one b (act.Start k) rest = or-middle b (has_end rest)
end-one b (act.Quit why) rest = or-middle b (has_end rest)
end-one b act.Terminate rest = or-middle b (has_end rest)
end-one b act.KillAll rest = or-middle b (has_end rest)
end-one b act.AskCheckpoint rest = or-middle b (has_end rest)
end-one b act.Ready rest = or-middle b (has_end rest)
end-one b act.Reset rest = or-middle b (has_end rest)
end-one b (act.Say line) rest = or-middle b (has_end rest)
end-one b (act.End how) rest = or-all b (has_end rest)

-- a report tells of no request, and starts no other child

started-shutdown : (k : Kind) (m : Machine) → (started_as k m).shutdown ≡ m.shutdown
started-shutdown kind.Startup m = refl
started-shutdown kind.Checkpointer m = refl
started-shutdown kind.Writer m = refl
started-shutdown kind.Worker m = refl
started-shutdown kind.Backend m = refl
started-shutdown kind.DeadEnd m = refl

started-left : (k : Kind) (m : Machine) → starts_left (started_as k m) ≡ starts_left m
started-left kind.Startup m = refl
started-left kind.Checkpointer m = refl
started-left kind.Writer m = refl
started-left kind.Worker m = refl
started-left kind.Backend m = refl
started-left kind.DeadEnd m = refl

-- the pids

not-last : (owed : Bool) (last : ℕ) → last < last_pid → owed || nat_eq (last + 1) last_pid ≡ false → last + 1 < last_pid
not-last true last below is = absurd cc
not-last false last below is = grind (arith, nat_tests)

last-drawn : (owed : Bool) (last : ℕ) → (owed ≡ true → last_pid ≤ last) → owed || nat_eq (last + 1) last_pid ≡ true → last_pid ≤ last + 1
last-drawn true last was is = omega (arith, was refl)
last-drawn false last was is = grind (arith, nat_tests)

not-owed : (owed test : Bool) → owed || test ≡ false → owed ≡ false
not-owed true test is = absurd cc
not-owed false test is = refl

pids-start : (k : Kind) (rest : List Action) (s : Standing) → s.due ≡ act.Start k ∷ rest → HasPids s → HasPids (done (act.Start k) s)
pids-start k rest s due pids =
    let shut : (started_as k s.machine).shutdown ≡ s.machine.shutdown = started-shutdown k s.machine in
    let left : starts_left (started_as k s.machine) ≡ starts_left s.machine = started-left k s.machine in
    let now : starts_in any_kind s.due ≡ 1 + starts_in any_kind rest = ap (starts_in any_kind) due in
    let then : starts_in any_kind (without_first s.due) ≡ starts_in any_kind rest = ap (λ d. starts_in any_kind (without_first d)) due in
    record {
      owed = λ owes. last-drawn s.owes_smart s.last_pid pids.owed owes;
      not_asked = λ none owes. not-last s.owes_smart s.last_pid (pids.not_asked (ap is_some (sym shut) ∙ none) (not-owed s.owes_smart (nat_eq (s.last_pid + 1) last_pid) owes)) owes;
      few = λ none. omega (arith, pids.few (ap is_some (sym shut) ∙ none), now, then);
      asked = λ some. omega (arith, pids.asked (ap is_some (sym shut) ∙ some), now, then, left);
    }

pids-keep : (s t : Standing) → t.machine ≡ s.machine → t.last_pid ≡ s.last_pid → t.owes_smart ≡ s.owes_smart
    → starts_in any_kind t.due ≡ starts_in any_kind s.due → HasPids s → HasPids t
pids-keep s t machine last owes due pids =
    record {
      owed = rw (last, owes) pids.owed;
      not_asked = rw (machine, last, owes) pids.not_asked;
      few = rw (machine, last, due) pids.few;
      asked = rw (machine, last, due) pids.asked;
    }

pids-next : (a : Action) (rest : List Action) (s : Standing) → s.due ≡ a ∷ rest → HasPids s → HasPids (done a s)
pids-next (act.Start k) rest s due pids = pids-start k rest s due pids
pids-next (act.Quit why) rest s due pids = pids-keep s (done (act.Quit why) s) refl refl refl (rw due refl) pids
pids-next act.Terminate rest s due pids = pids-keep s (done act.Terminate s) refl refl refl (rw due refl) pids
pids-next act.KillAll rest s due pids = pids-keep s (done act.KillAll s) refl refl refl (rw due refl) pids
pids-next act.AskCheckpoint rest s due pids = pids-keep s (done act.AskCheckpoint s) refl refl refl (rw due refl) pids
pids-next act.Ready rest s due pids = pids-keep s (done act.Ready s) refl refl refl (rw due refl) pids
pids-next act.Reset rest s due pids = pids-keep s (done act.Reset s) refl refl refl (rw due refl) pids
pids-next (act.Say line) rest s due pids = pids-keep s (done (act.Say line) s) refl refl refl (rw due refl) pids
pids-next (act.End how) rest s due pids = pids-keep s (done (act.End how) s) refl refl refl (rw due refl) pids

-- what is remembered

redo-last : (b : Bool) (s : Shared) → (reopened b s).last_pid ≡ s.last_pid
redo-last true s = refl
redo-last false s = refl

redo-generation : (b : Bool) (s : Shared) → (reopened b s).generation ≡ s.generation
redo-generation true s = refl
redo-generation false s = refl

children-noted : (m : Machine) (s : Shared) (e : PmEvent) (cs : List Enrolled) → cs ≡ roll_of s.children
    → children_after e cs ≡ roll_of (shown_after m s e).children
children-noted m s (entry.Started pid k) cs is = ap (λ es. record { pid = pid; kind = k } ∷ es) is
children-noted m s (entry.Accepted pid decision) cs is = ap (λ es. record { pid = pid; kind = kind_for decision } ∷ es) is
children-noted m s (entry.Exited pid k status a at) cs is = ap (λ es. without pid es) is ∙ roll-without pid s.children
children-noted m s (entry.Asked mode at) cs is = is
children-noted m s (entry.KillAsked pid) cs is = is
children-noted m s (entry.QuitSent why) cs is = is
children-noted m s entry.TerminateSent cs is = is
children-noted m s (entry.KillSent at) cs is = is
children-noted m s entry.CheckpointAsked cs is = is
children-noted m s (entry.RedoEnded generation kept) cs is = is ∙ ap roll_of (sym (ap (λ (t : Shared). t.children) (reopens (is_none m.shutdown) s) ∙ redo-children (is_none m.shutdown) s))
children-noted m s (entry.Ready generation) cs is = is
children-noted m s (entry.Reset generation) cs is = is
children-noted m s (entry.Said line) cs is = is
children-noted m s (entry.Ended how) cs is = is

last-noted : (m : Machine) (s : Shared) (e : PmEvent) (n : ℕ) → n ≡ s.last_pid → last_pid_after e n ≡ (shown_after m s e).last_pid
last-noted m s (entry.Started pid k) n is = refl
last-noted m s (entry.Accepted pid decision) n is = refl
last-noted m s (entry.Exited pid k status a at) n is = is
last-noted m s (entry.Asked mode at) n is = is
last-noted m s (entry.KillAsked pid) n is = is
last-noted m s (entry.QuitSent why) n is = is
last-noted m s entry.TerminateSent n is = is
last-noted m s (entry.KillSent at) n is = is
last-noted m s entry.CheckpointAsked n is = is
last-noted m s (entry.RedoEnded generation kept) n is = is ∙ sym (redo-last (is_none m.shutdown) s)
last-noted m s (entry.Ready generation) n is = is
last-noted m s (entry.Reset generation) n is = is
last-noted m s (entry.Said line) n is = is
last-noted m s (entry.Ended how) n is = is

-- a reset counts on
abbrev pub CountsOn : PmEvent → ℕ → Type 0
CountsOn (entry.Reset generation) before = generation ≡ before + 1
CountsOn _ before = Unit {0}

generation-noted : (m : Machine) (s : Shared) (e : PmEvent) (n : ℕ) → CountsOn e n → n ≡ s.generation
    → generation_after e n ≡ (shown_after m s e).generation
generation-noted m s (entry.Started pid k) n on is = is
generation-noted m s (entry.Accepted pid decision) n on is = is
generation-noted m s (entry.Exited pid k status a at) n on is = is
generation-noted m s (entry.Asked mode at) n on is = is
generation-noted m s (entry.KillAsked pid) n on is = is
generation-noted m s (entry.QuitSent why) n on is = is
generation-noted m s entry.TerminateSent n on is = is
generation-noted m s (entry.KillSent at) n on is = is
generation-noted m s entry.CheckpointAsked n on is = is
generation-noted m s (entry.RedoEnded generation kept) n on is = is ∙ sym (redo-generation (is_none m.shutdown) s)
generation-noted m s (entry.Ready generation) n on is = is
generation-noted m s (entry.Reset generation) n on is = on ∙ ap (λ g. g + 1) is
generation-noted m s (entry.Said line) n on is = is
generation-noted m s (entry.Ended how) n on is = is

pub remembers-noted : (s : Standing) (r : Replay) (e : PmEvent) → CountsOn e s.generation → Remembers s r → Remembers (noted e s) (replayed r e)
remembers-noted s r e on was =
    record {
      children = children-noted r.machine r.shown e s.children was.children;
      last_pid = last-noted r.machine r.shown e s.last_pid was.last_pid;
      generation = generation-noted r.machine r.shown e s.generation on was.generation;
      moment = ap (λ n. moment_after n e) was.moment;
      owes_smart = ap (λ b. asks_after b e) was.owes_smart;
    }

act-counts : (a : Action) (s : Standing) → CountsOn (entry_for a s) s.generation
act-counts (act.Start k) s = tt
act-counts (act.Quit why) s = tt
act-counts act.Terminate s = tt
act-counts act.KillAll s = tt
act-counts act.AskCheckpoint s = tt
act-counts act.Ready s = tt
act-counts act.Reset s = refl
act-counts (act.Say line) s = tt
act-counts (act.End how) s = tt

-- the entry of an act is that of the journal's definition
pub entry-is : (a : Action) (s : Standing) (r : Replay) → Remembers s r → entry_for a s ≡ entry_of 0 s.called_at r.shown (Do a)
entry-is (act.Start k) s r was = ap (λ n. entry.Started (n + 1) k) was.last_pid
entry-is (act.Quit why) s r was = refl
entry-is act.Terminate s r was = refl
entry-is act.KillAll s r was = refl
entry-is act.AskCheckpoint s r was = refl
entry-is act.Ready s r was = ap entry.Ready was.generation
entry-is act.Reset s r was = ap (λ n. entry.Reset (n + 1)) was.generation
entry-is (act.Say line) s r was = refl
entry-is (act.End how) s r was = refl

pub told-more : (told now : Option (List PmEvent)) (journal entries : List PmEvent) → IfSome told (λ es. es ≡ journal)
    → Added entries told now → IfSome now (λ es. es ≡ journal ++ entries)
told-more None now journal entries is adds = subst (λ (t : Option (List PmEvent)). IfSome t (λ es. es ≡ journal ++ entries)) (sym adds) tt
told-more (Some es) now journal entries is adds =
    subst (λ (t : Option (List PmEvent)). IfSome t (λ xs. xs ≡ journal ++ entries)) (sym adds) (ap (λ xs. xs ++ entries) is)

coming-next : TellsOfEachStart → (limits : Limits) (s : Standing) (r : Replay) (h : Trace) (a : Action) (rest : List Action) → s.due ≡ a ∷ rest
    → Remembers s r → IsComing limits s r h → Follows any_moment r (entry_for a s) × IsComing limits (done a s) (replayed r (entry_for a s)) h
coming-next tells limits s r h a rest due was coming =
    let at : ℕ = s.called_at in
    let e : PmEvent = entry_for a s in
    let same : entry_of 0 at r.shown (Do a) ≡ e = sym (entry-is a s r was) in
    let left : rest ≡ without_first s.due = sym (ap without_first due) in
    let legal =
    subst (λ x. Follows any_moment r x × AreLegal any_moment (replayed r x) (entries_of 0 at (replayed r x) (dues rest))) same
    (subst (λ d. AreLegal any_moment r (entries_of 0 at r (dues d))) due coming.legal) in
    let in_step =
    subst (λ x. IsInStep limits (server_state (all_replayed (replayed r x) (entries_of 0 at (replayed r x) (dues rest))) (all_reported (a ∷ rest) s.machine) h)) same
    (subst (λ d. IsInStep limits (server_state (all_replayed r (entries_of 0 at r (dues d))) (all_reported d s.machine) h)) due coming.in_step) in
    let owes : Owes (a ∷ rest) s.machine = subst (λ d. Owes d s.machine) due coming.owes in
    let ended : (s.ended || has_end (a ∷ rest)) ≡ s.machine.ended = ap (λ d. s.ended || has_end d) (sym due) ∙ coming.ended in (
      legal.0,
      record {
        legal = subst (λ d. AreLegal any_moment (replayed r e) (entries_of 0 at (replayed r e) (dues d))) left legal.1;
        in_step =
            subst (λ d. IsInStep limits (server_state (all_replayed (replayed r e) (entries_of 0 at (replayed r e) (dues d))) (all_reported d (all_reported (a ∷ []) s.machine)) h)) left
            (subst (λ m. IsInStep limits (server_state (all_replayed (replayed r e) (entries_of 0 at (replayed r e) (dues rest))) m h)) (sym (report-one a rest s.machine)) in_step);
        owes = subst (λ d. Owes d (all_reported (a ∷ []) s.machine)) left (owes-next tells a rest s.machine owes);
        ended =
            ap (λ d. (s.ended || has_end (a ∷ [])) || has_end d) (sym left)
            ∙ (end-one s.ended a rest ∙ (ended ∙ sym (report-ended a s.machine)));
      },
    )

-- an act is done
pub stands-next : WritesALegalJournal → TellsOfEachStart → (limits : Limits) (told now : Option (List PmEvent)) (s : Standing) (h : Trace) (a : Action)
    (rest : List Action) → s.due ≡ a ∷ rest → Added (entry_for a s ∷ []) told now → Stands limits told s h → Stands limits now (done a s) h
stands-next writes tells limits told now s h a rest due adds was =
    let e : PmEvent = entry_for a s in
    let r : Replay = all_replayed (replay_begun limits) was.journal in
    let left : all_replayed (replay_begun limits) (was.journal ++ e ∷ []) ≡ replayed r e = writes.replays (replay_begun limits) was.journal (e ∷ []) in
    let coming : Follows any_moment r e × IsComing limits (done a s) (replayed r e) h = coming-next tells limits s r h a rest due was.remembers was.coming in
    record {
      journal = was.journal ++ e ∷ [];
      told_is = told-more told now was.journal (e ∷ []) was.told_is adds;
      legal = writes.append any_moment (replay_begun limits) was.journal (e ∷ []) was.legal (coming.0, tt);
      remembers = subst (λ x. Remembers (done a s) x) (sym left) (remembers-noted (reported a s) r e (act-counts a s) (as-reported a s r was.remembers));
      coming = subst (λ x. IsComing limits (done a s) x h) (sym left) coming.1;
      past = was.past;
      pids = pids-next a rest s due was.pids;
    }

-- after a turn nothing moves any more
pub settled-next : (s : Standing) (a : Action) (rest : List Action) → s.due ≡ a ∷ rest → IsSettled s → IsSettled (done a s)
settled-next s a rest due was =
    let left : rest ≡ without_first s.due = sym (ap without_first due) in
    subst (λ d. settled (all_reported d (all_reported (a ∷ []) s.machine)) ≡ all_reported d (all_reported (a ∷ []) s.machine)) left
    (subst (λ m. settled m ≡ m) (sym (report-one a rest s.machine)) (subst (λ d. settled (all_reported d s.machine) ≡ all_reported d s.machine) due was))
