use Rattle.std.proofs.Common.{◌≡◌, refl, sym, subst}
use Rattle.pm_top_words.specs.{pm_server.declared.end.ServerEnd.ServerEnd, declared.words.Command.TheVariants.{Initdb, Once, Serve, Controldata, Workload}}
use Rattle.pm_top_words.specs.pm_server.declared.end.ServerEnd.TheVariants as ends
use Rattle.pm_top.{specs.{declared.status.Top.{Top, TheVariants.{Done, Abnormal, OutFault, DiskFault, Exists, Unreadable, Usage, NoMemory, NoThread}}, Ends.status_of, Serve.IsServer}, proofs.{Lines.not_of_serve, Within.{some, within}}}
use Rattle.pm_top.proofs.top.run.Goals as goal

-- a status by which a server's end is told
abbrev IsServerStatus : Top → Type 0
IsServerStatus Done = Unit {0}
IsServerStatus (Abnormal why) = Unit {0}
IsServerStatus OutFault = ⊥
IsServerStatus DiskFault = ⊥
IsServerStatus Exists = ⊥
IsServerStatus (Unreadable fault) = ⊥
IsServerStatus Usage = ⊥
IsServerStatus NoMemory = Unit {0}
IsServerStatus NoThread = Unit {0}

of_end : (end : ServerEnd) → IsServerStatus (status_of end)
of_end ends.Clean = tt
of_end (ends.Abnormal why) = tt
of_end ends.NoThread = tt
of_end ends.NoMemory = tt

-- no other status is told of a server
never : {C : Type 0} (status other : Top) (end : ServerEnd) → status ≡ status_of end → status ≡ other → (IsServerStatus other → ⊥) → C
never status other end told is not = absurd (not (subst IsServerStatus is (subst IsServerStatus (sym told) (of_end end))))

pub serve-requires-clause-some : goal.serve-requires-clause-some
serve-requires-clause-some g c κs bounds = some _ _ _ _ c.in-Some.ensures.found.line

pub serve-requires-clause-within : goal.serve-requires-clause-within
serve-requires-clause-within g c κs bounds = within _ _ _ _ c.in-Some.ensures.found.line

-- ---- a line of `serve`

pub returns-in-Some-clause-usage : goal.returns-in-Some-clause-usage
returns-in-Some-clause-usage g c = λ is command dir line. never _ Usage c.serve.ensures.run.0 c.serve.ensures.run.1 is (λ no. no)

pub returns-in-Some-clause-words : goal.returns-in-Some-clause-words
returns-in-Some-clause-words g c = λ _. (Serve c.in-Some.ensures.found.port, c.in-Some.ensures.found.dir, (_, c.in-Some.ensures.found.line))

pub returns-in-Some-clause-initdb_ends : goal.returns-in-Some-clause-initdb_ends
returns-in-Some-clause-initdb_ends g c = λ dir line. not_of_serve _ _ Initdb dir c.in-Some.ensures.found line (λ port e. cc)

pub returns-in-Some-clause-controldata_ends : goal.returns-in-Some-clause-controldata_ends
returns-in-Some-clause-controldata_ends g c = λ dir line. not_of_serve _ _ Controldata dir c.in-Some.ensures.found line (λ port e. cc)

pub returns-in-Some-clause-made : goal.returns-in-Some-clause-made
returns-in-Some-clause-made g c = λ dir line made. not_of_serve _ _ Initdb dir c.in-Some.ensures.found line (λ port e. cc)

pub returns-in-Some-clause-fresh : goal.returns-in-Some-clause-fresh
returns-in-Some-clause-fresh g c = λ dir line made. not_of_serve _ _ Initdb dir c.in-Some.ensures.found line (λ port e. cc)

pub returns-in-Some-clause-exists : goal.returns-in-Some-clause-exists
returns-in-Some-clause-exists g c = λ is. never _ Exists c.serve.ensures.run.0 c.serve.ensures.run.1 is (λ no. no)

pub returns-in-Some-clause-kept : goal.returns-in-Some-clause-kept
returns-in-Some-clause-kept g c = λ dir line. not_of_serve _ _ Initdb dir c.in-Some.ensures.found line (λ port e. cc)

pub returns-in-Some-clause-disk_fault : goal.returns-in-Some-clause-disk_fault
returns-in-Some-clause-disk_fault g c = λ is. never _ DiskFault c.serve.ensures.run.0 c.serve.ensures.run.1 is (λ no. no)

pub returns-in-Some-clause-out_fault : goal.returns-in-Some-clause-out_fault
returns-in-Some-clause-out_fault g c = λ is. never _ OutFault c.serve.ensures.run.0 c.serve.ensures.run.1 is (λ no. no)

pub returns-in-Some-clause-once : goal.returns-in-Some-clause-once
returns-in-Some-clause-once g c = λ dir conf line. not_of_serve _ _ Once dir c.in-Some.ensures.found (conf, line) (λ port e. cc)

pub returns-in-Some-clause-serve : goal.returns-in-Some-clause-serve
returns-in-Some-clause-serve g c = λ port dir conf line. rw (c.in-Some.ensures.found.only (Serve port) dir conf line).2 c.serve.ensures.run

pub returns-in-Some-clause-told : goal.returns-in-Some-clause-told
returns-in-Some-clause-told g c = λ dir line made. not_of_serve _ _ Controldata dir c.in-Some.ensures.found line (λ port e. cc)

pub returns-in-Some-clause-unreadable : goal.returns-in-Some-clause-unreadable
returns-in-Some-clause-unreadable g c = λ fault is. never _ (Unreadable fault) c.serve.ensures.run.0 c.serve.ensures.run.1 is (λ no. no)

pub returns-in-Some-clause-untouched : goal.returns-in-Some-clause-untouched
returns-in-Some-clause-untouched g c = λ dir line. not_of_serve _ _ Controldata dir c.in-Some.ensures.found line (λ port e. cc)

pub returns-in-Some-clause-workload_ends : goal.returns-in-Some-clause-workload_ends
returns-in-Some-clause-workload_ends g c = λ number dir line. not_of_serve _ _ (Workload number) dir c.in-Some.ensures.found line (λ port e. cc)

pub returns-in-Some-clause-worked : goal.returns-in-Some-clause-worked
returns-in-Some-clause-worked g c = λ number dir line made. not_of_serve _ _ (Workload number) dir c.in-Some.ensures.found line (λ port e. cc)

pub returns-in-Some-clause-initdb_says : goal.returns-in-Some-clause-initdb_says
returns-in-Some-clause-initdb_says g c = λ dir line. not_of_serve _ _ Initdb dir c.in-Some.ensures.found line (λ port e. cc)

pub returns-in-Some-clause-initialized : goal.returns-in-Some-clause-initialized
returns-in-Some-clause-initialized g c = λ dir line done. not_of_serve _ _ Initdb dir c.in-Some.ensures.found line (λ port e. cc)

pub returns-in-Some-clause-controldata_says : goal.returns-in-Some-clause-controldata_says
returns-in-Some-clause-controldata_says g c = λ dir line none. not_of_serve _ _ Controldata dir c.in-Some.ensures.found line (λ port e. cc)

pub returns-in-Some-clause-workload_says : goal.returns-in-Some-clause-workload_says
returns-in-Some-clause-workload_says g c = λ number dir line none. not_of_serve _ _ (Workload number) dir c.in-Some.ensures.found line (λ port e. cc)

pub returns-in-Some-clause-usage_says : goal.returns-in-Some-clause-usage_says
returns-in-Some-clause-usage_says g c = λ is. never _ Usage c.serve.ensures.run.0 c.serve.ensures.run.1 is (λ no. no)

pub returns-in-Some-clause-unused : goal.returns-in-Some-clause-unused
returns-in-Some-clause-unused g c = λ is. never _ Usage c.serve.ensures.run.0 c.serve.ensures.run.1 is (λ no. no)

pub returns-in-Some-clause-unasked : goal.returns-in-Some-clause-unasked
returns-in-Some-clause-unasked g c = λ command dir line not. absurd (not (subst IsServer (sym (c.in-Some.ensures.found.only command dir line.0 line.1).0) tt))

pub returns-in-Some-clause-unserved : goal.returns-in-Some-clause-unserved
returns-in-Some-clause-unserved g c = λ none. absurd (none c.in-Some.ensures.found.port c.in-Some.ensures.found.dir (_, c.in-Some.ensures.found.line))

pub returns-in-Some-clause-clock : goal.returns-in-Some-clause-clock
returns-in-Some-clause-clock g c = c.serve.ensures.rest

-- ---- any other words

pub returns-in-None-clause-usage : goal.returns-in-None-clause-usage
returns-in-None-clause-usage g c = c.run_alone-status.ensures.usage

pub returns-in-None-clause-words : goal.returns-in-None-clause-words
returns-in-None-clause-words g c = c.run_alone-status.ensures.words

pub returns-in-None-clause-initdb_ends : goal.returns-in-None-clause-initdb_ends
returns-in-None-clause-initdb_ends g c = c.run_alone-status.ensures.initdb_ends

pub returns-in-None-clause-controldata_ends : goal.returns-in-None-clause-controldata_ends
returns-in-None-clause-controldata_ends g c = c.run_alone-status.ensures.controldata_ends

pub returns-in-None-clause-made : goal.returns-in-None-clause-made
returns-in-None-clause-made g c = c.run_alone-status.ensures.made

pub returns-in-None-clause-fresh : goal.returns-in-None-clause-fresh
returns-in-None-clause-fresh g c = c.run_alone-status.ensures.fresh

pub returns-in-None-clause-exists : goal.returns-in-None-clause-exists
returns-in-None-clause-exists g c = c.run_alone-status.ensures.exists

pub returns-in-None-clause-kept : goal.returns-in-None-clause-kept
returns-in-None-clause-kept g c = c.run_alone-status.ensures.kept

pub returns-in-None-clause-disk_fault : goal.returns-in-None-clause-disk_fault
returns-in-None-clause-disk_fault g c = c.run_alone-status.ensures.disk_fault

pub returns-in-None-clause-out_fault : goal.returns-in-None-clause-out_fault
returns-in-None-clause-out_fault g c = c.run_alone-status.ensures.out_fault

pub returns-in-None-clause-once : goal.returns-in-None-clause-once
returns-in-None-clause-once g c = c.run_alone-status.ensures.once

pub returns-in-None-clause-serve : goal.returns-in-None-clause-serve
returns-in-None-clause-serve g c = λ port dir conf line. absurd (c.in-None.ensures.none port dir (conf, line))

pub returns-in-None-clause-told : goal.returns-in-None-clause-told
returns-in-None-clause-told g c = c.run_alone-status.ensures.told

pub returns-in-None-clause-unreadable : goal.returns-in-None-clause-unreadable
returns-in-None-clause-unreadable g c = c.run_alone-status.ensures.unreadable

pub returns-in-None-clause-untouched : goal.returns-in-None-clause-untouched
returns-in-None-clause-untouched g c = c.run_alone-status.ensures.untouched

pub returns-in-None-clause-workload_ends : goal.returns-in-None-clause-workload_ends
returns-in-None-clause-workload_ends g c = c.run_alone-status.ensures.workload_ends

pub returns-in-None-clause-worked : goal.returns-in-None-clause-worked
returns-in-None-clause-worked g c = c.run_alone-status.ensures.worked

pub returns-in-None-clause-initdb_says : goal.returns-in-None-clause-initdb_says
returns-in-None-clause-initdb_says g c = c.run_alone-status.ensures.initdb_says

pub returns-in-None-clause-initialized : goal.returns-in-None-clause-initialized
returns-in-None-clause-initialized g c = c.run_alone-status.ensures.initialized

pub returns-in-None-clause-controldata_says : goal.returns-in-None-clause-controldata_says
returns-in-None-clause-controldata_says g c = c.run_alone-status.ensures.controldata_says

pub returns-in-None-clause-workload_says : goal.returns-in-None-clause-workload_says
returns-in-None-clause-workload_says g c = c.run_alone-status.ensures.workload_says

pub returns-in-None-clause-usage_says : goal.returns-in-None-clause-usage_says
returns-in-None-clause-usage_says g c = c.run_alone-status.ensures.usage_says

pub returns-in-None-clause-unused : goal.returns-in-None-clause-unused
returns-in-None-clause-unused g c = c.run_alone-status.ensures.unused

pub returns-in-None-clause-unasked : goal.returns-in-None-clause-unasked
returns-in-None-clause-unasked g c = λ command dir line not. c.run_alone-status.ensures.unasked command dir line (λ is. not (subst IsServer (sym is) tt))

pub returns-in-None-clause-unserved : goal.returns-in-None-clause-unserved
returns-in-None-clause-unserved g c = λ none. (refl, refl)

pub returns-in-None-clause-clock : goal.returns-in-None-clause-clock
returns-in-None-clause-clock g c = c.run_alone-status.ensures.clock
