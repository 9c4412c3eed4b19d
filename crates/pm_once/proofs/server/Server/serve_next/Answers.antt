use Rattle.std.{proofs.Common.{◌++◌, ◌∷◌, ℕ, [], None, refl, sym, ap, subst, ◌∙◌}, specs.Prelude.{false, true, ◌≡◌, ◌+◌, length, IfSome}}
use Rattle.pm_supervisor_journal.{specs.{pm_exit.declared.child.Kind.TheVariants.Backend, Standing.later, Stands.AtWork, Supervision.at_work, declared.exit.ChildExit.ChildExit}, proofs.NextsLaws.same_work}
use Rattle.pm_keys.specs.CancelKey.{cancel_key}
use Rattle.pm_once_acts.{specs.pm_supervisor_chain.Steps.{Runs, RunsOn}, proofs.StepsLaws.serves_nothing}
use Rattle.pm_segment.specs.Moment.{moment}
use Rattle.pm_session.specs.pm_session_exchange.Exchange.{LinkView}
use Rattle.pm_once.{specs.{Calls.{Admits, Asks, NotesExit}, Serves.IsServed, Service.{IsServedAs, is_signal, run_of}, View.{View, view_of}}, proofs.{Admitting.{idle_of, nothing_short, serves_session, serves_short, session_ran, session_served, short_served, still_short}, Alls.running_on, Ending.{ran_noted, ran_on}, Links.{all_back_as, no_change}, Past.past_of, Serving.{asks_serves, end_served, nothing_served, session_exit}}}
use Rattle.pm_once.proofs.server.Server.serve_next.Goals as goal

pub returns-in-Err : goal.returns-in-Err
returns-in-Err g c =
    let v : View = view_of c.args.self in
    let gives = g.C.Clock.gives c.args.clock.now in
    let same = same_work v.work (at_work c.make_room.new.self) c.make_room.ensures.standing c.make_room.ensures.told in
    ([], [], false, nothing_short gives v (at_work c.make_room.new.self) same, nothing_served c.args.seed.now c.args.conf.now.authentication_ms gives [] (g.P.Port.visits c.args.port.now) serves_nothing)

pub returns-in_default : goal.returns-in_default
returns-in_default g c =
    let v : View = view_of c.args.self in
    let gives = g.C.Clock.gives c.args.clock.now in
    let same = same_work v.work (at_work c.make_room.new.self) c.make_room.ensures.standing c.make_room.ensures.told in
    let now : View = view_of c.ask_smart-asked.new.self in
    let one = c.ask_smart-asked.ensures.asks in
    let asks : Asks gives c.ask_smart-asked.result one.0 v now = subst (λ (w : AtWork). Asks gives c.ask_smart-asked.result one.0 (record v { work = w }) now) same one.1 in (
      one.0,
      [],
      true,
      asks_serves gives c.ask_smart-asked.result one.0 v now c.requires.listens asks,
      end_served c.args.seed.now c.args.conf.now.authentication_ms gives one.0 (g.P.Port.visits c.args.port.now) _ asks.does.serves c.in_default.ensures.ended,
    )

pub returns-in-Err-settled : goal.returns-in-Err-settled
returns-in-Err-settled g c =
    let v : View = view_of c.args.self in
    let gives = g.C.Clock.gives c.args.clock.now in
    let same = same_work v.work (at_work c.make_room.new.self) c.make_room.ensures.standing c.make_room.ensures.told in
    let v1 : View = record v { work = at_work c.make_room.new.self } in
    let v2 : View = view_of c.admit-admitted.new.self in
    let one = c.admit-admitted.ensures.admits in
    let admits : Admits gives c.admit-admitted.result one.0 v v2 = subst (λ (w : AtWork). Admits gives c.admit-admitted.result one.0 (record v { work = w }) v2) same one.1 in
    let running2 = running_on gives one.0 v v2 c.requires.running admits.goes admits.opened in
    let s = c.serve_link-status.ensures.session in
    let seed = c.args.seed.now in
    let limit = c.args.conf.now.authentication_ms in
    let key = cancel_key seed c.admit-admitted.result.pid in
    let v3 : View = record v2 { store = moment c.serve_link-status.result.store; outcome = None } in
    let ran = session_ran key limit gives s.0 c.admit-admitted.result.pid v2 v3 s.6 s.1 s.2 admits.there refl refl s.7 refl refl refl refl in
    let is_served : IsServed seed limit gives s.0 = subst (λ (p : ℕ). IsServedAs (cancel_key seed p) limit gives s.0) (sym s.1) s.6 in
    let same_number = sym (ap (λ (l : LinkView). l.number) s.4) ∙ s.6.same ∙ ap (λ (l : LinkView). l.number) s.3 in
    let numbered = subst (λ (l : LinkView). IfSome (g.P.Port.visits c.args.port.now) (λ v. l.number ≡ length v.given + 1)) (sym s.3) c.in-Some.ensures.number in
    let visits = all_back_as [] s.0 _ _ (g.P.Port.visits c.args.port.now) (g.P.Port.visits c.args.port.now) (g.P.Port.visits c.next_link.new.port) _ s.3 s.4 same_number (no_change (g.P.Port.visits c.args.port.now)) c.in-Some.ensures.given c.in-Some.ensures.number c.done.ensures.visits in
    let goes = still_short c.laws.ensures.steps c.laws.ensures.journal gives (run_of s.0) v2 v3 running2 admits.rests ran in (
      one.0 ++ RunsOn (run_of s.0) ∷ [],
      s.0 ∷ [],
      false,
      serves_short gives c.admit-admitted.result s.0 one.0 v v2 v3 c.requires.listens admits goes refl refl,
      short_served seed limit gives c.admit-admitted.result s.0 one.0 v v2 _ _ admits s.1 is_served numbered visits,
    )

pub note_exit-requires-clause-stands : goal.note_exit-requires-clause-stands
note_exit-requires-clause-stands g c =
    let v : View = view_of c.args.self in
    let gives = g.C.Clock.gives c.args.clock.now in
    let same = same_work v.work (at_work c.make_room.new.self) c.make_room.ensures.standing c.make_room.ensures.told in
    let v1 : View = record v { work = at_work c.make_room.new.self } in
    let v2 : View = view_of c.admit-admitted.new.self in
    let one = c.admit-admitted.ensures.admits in
    let admits : Admits gives c.admit-admitted.result one.0 v v2 = subst (λ (w : AtWork). Admits gives c.admit-admitted.result one.0 (record v { work = w }) v2) same one.1 in
    let running2 = running_on gives one.0 v v2 c.requires.running admits.goes admits.opened in
    past_of v2 running2

pub finish-finished-requires-clause-running : goal.finish-finished-requires-clause-running
finish-finished-requires-clause-running g c =
    let v : View = view_of c.args.self in
    let gives = g.C.Clock.gives c.args.clock.now in
    let same = same_work v.work (at_work c.make_room.new.self) c.make_room.ensures.standing c.make_room.ensures.told in
    let v1 : View = record v { work = at_work c.make_room.new.self } in
    let v2 : View = view_of c.admit-admitted.new.self in
    let one = c.admit-admitted.ensures.admits in
    let admits : Admits gives c.admit-admitted.result one.0 v v2 = subst (λ (w : AtWork). Admits gives c.admit-admitted.result one.0 (record v { work = w }) v2) same one.1 in
    let running2 = running_on gives one.0 v v2 c.requires.running admits.goes admits.opened in
    let s = c.serve_link-status.ensures.session in
    let seed = c.args.seed.now in
    let limit = c.args.conf.now.authentication_ms in
    let key = cancel_key seed c.admit-admitted.result.pid in
    let v3 : View = record v2 { store = moment c.serve_link-status.result.store; outcome = None } in
    let ran = session_ran key limit gives s.0 c.admit-admitted.result.pid v2 v3 s.6 s.1 s.2 admits.there refl refl s.7 refl refl refl refl in
    let v4 : View = view_of c.note_exit.new.self in
    let exits = c.session_exit.ensures ∙ ap (λ (p : ℕ). record { pid = p; kind = Backend; status = c.serve_link-status.result.status; was_active = is_signal c.serve_link-status.result.status; kept = None }) (sym s.1)
    ∙ session_exit key limit gives s.0 c.serve_link-status.result.status s.5 s.6 in
    let n = c.in-Ok-note_exit.ensures.noted in
    let idle = idle_of v2 c.admit-admitted.result.settled c.in-Ok-settled.is admits.rests admits.unowed in
    let done = ran_noted c.laws.ensures.steps c.laws.ensures.work c.laws.ensures.journal gives (run_of s.0) n.0 v2 v3 v4 running2 idle (λ is none. cc) ran (subst (λ (x : ChildExit). NotesExit gives x n.0 v3 v4) exits n.1) in
    running_on gives (Runs (run_of s.0) (later n.0 v2.work.standing) ∷ []) v2 v4 running2 done.goes done.stays

pub returns-in-Ok-note_exit : goal.returns-in-Ok-note_exit
returns-in-Ok-note_exit g c =
    let v : View = view_of c.args.self in
    let gives = g.C.Clock.gives c.args.clock.now in
    let same = same_work v.work (at_work c.make_room.new.self) c.make_room.ensures.standing c.make_room.ensures.told in
    let v1 : View = record v { work = at_work c.make_room.new.self } in
    let v2 : View = view_of c.admit-admitted.new.self in
    let one = c.admit-admitted.ensures.admits in
    let admits : Admits gives c.admit-admitted.result one.0 v v2 = subst (λ (w : AtWork). Admits gives c.admit-admitted.result one.0 (record v { work = w }) v2) same one.1 in
    let running2 = running_on gives one.0 v v2 c.requires.running admits.goes admits.opened in
    let s = c.serve_link-status.ensures.session in
    let seed = c.args.seed.now in
    let limit = c.args.conf.now.authentication_ms in
    let key = cancel_key seed c.admit-admitted.result.pid in
    let v3 : View = record v2 { store = moment c.serve_link-status.result.store; outcome = None } in
    let ran = session_ran key limit gives s.0 c.admit-admitted.result.pid v2 v3 s.6 s.1 s.2 admits.there refl refl s.7 refl refl refl refl in
    let v4 : View = view_of c.note_exit.new.self in
    let exits = c.session_exit.ensures ∙ ap (λ (p : ℕ). record { pid = p; kind = Backend; status = c.serve_link-status.result.status; was_active = is_signal c.serve_link-status.result.status; kept = None }) (sym s.1)
    ∙ session_exit key limit gives s.0 c.serve_link-status.result.status s.5 s.6 in
    let is_served : IsServed seed limit gives s.0 = subst (λ (p : ℕ). IsServedAs (cancel_key seed p) limit gives s.0) (sym s.1) s.6 in
    let same_number = sym (ap (λ (l : LinkView). l.number) s.4) ∙ s.6.same ∙ ap (λ (l : LinkView). l.number) s.3 in
    let numbered = subst (λ (l : LinkView). IfSome (g.P.Port.visits c.args.port.now) (λ v. l.number ≡ length v.given + 1)) (sym s.3) c.in-Some.ensures.number in
    let visits = all_back_as [] s.0 _ _ (g.P.Port.visits c.args.port.now) (g.P.Port.visits c.args.port.now) (g.P.Port.visits c.next_link.new.port) _ s.3 s.4 same_number (no_change (g.P.Port.visits c.args.port.now)) c.in-Some.ensures.given c.in-Some.ensures.number c.done.ensures.visits in
    let v5 : View = view_of c.finish-finished.new.self in
    let n = c.in-Ok-note_exit.ensures.noted in
    let idle = idle_of v2 c.admit-admitted.result.settled c.in-Ok-settled.is admits.rests admits.unowed in
    let done = ran_noted c.laws.ensures.steps c.laws.ensures.work c.laws.ensures.journal gives (run_of s.0) n.0 v2 v3 v4 running2 idle (λ is none. cc) ran (subst (λ (x : ChildExit). NotesExit gives x n.0 v3 v4) exits n.1) in
    let f = c.finish-finished.ensures in (
      (one.0 ++ Runs (run_of s.0) (later n.0 v2.work.standing) ∷ []) ++ f.0,
      s.0 ∷ [],
      false,
      serves_session gives c.admit-admitted.result s.0 n.0 c.finish-finished.result one.0 f.0 v v2 v4 v5 c.requires.listens admits done f.1,
      session_served seed limit gives c.admit-admitted.result s.0 (later n.0 v2.work.standing) c.finish-finished.result one.0 f.0 v v2 v4 v5 _ _ admits f.1 s.1 is_served numbered visits,
    )

pub returns-in-Err-note_exit : goal.returns-in-Err-note_exit
returns-in-Err-note_exit g c =
    let v : View = view_of c.args.self in
    let gives = g.C.Clock.gives c.args.clock.now in
    let same = same_work v.work (at_work c.make_room.new.self) c.make_room.ensures.standing c.make_room.ensures.told in
    let v1 : View = record v { work = at_work c.make_room.new.self } in
    let v2 : View = view_of c.admit-admitted.new.self in
    let one = c.admit-admitted.ensures.admits in
    let admits : Admits gives c.admit-admitted.result one.0 v v2 = subst (λ (w : AtWork). Admits gives c.admit-admitted.result one.0 (record v { work = w }) v2) same one.1 in
    let running2 = running_on gives one.0 v v2 c.requires.running admits.goes admits.opened in
    let s = c.serve_link-status.ensures.session in
    let seed = c.args.seed.now in
    let limit = c.args.conf.now.authentication_ms in
    let key = cancel_key seed c.admit-admitted.result.pid in
    let v3 : View = record v2 { store = moment c.serve_link-status.result.store; outcome = None } in
    let ran = session_ran key limit gives s.0 c.admit-admitted.result.pid v2 v3 s.6 s.1 s.2 admits.there refl refl s.7 refl refl refl refl in
    let v4 : View = view_of c.note_exit.new.self in
    let exits = c.session_exit.ensures ∙ ap (λ (p : ℕ). record { pid = p; kind = Backend; status = c.serve_link-status.result.status; was_active = is_signal c.serve_link-status.result.status; kept = None }) (sym s.1)
    ∙ session_exit key limit gives s.0 c.serve_link-status.result.status s.5 s.6 in
    let is_served : IsServed seed limit gives s.0 = subst (λ (p : ℕ). IsServedAs (cancel_key seed p) limit gives s.0) (sym s.1) s.6 in
    let same_number = sym (ap (λ (l : LinkView). l.number) s.4) ∙ s.6.same ∙ ap (λ (l : LinkView). l.number) s.3 in
    let numbered = subst (λ (l : LinkView). IfSome (g.P.Port.visits c.args.port.now) (λ v. l.number ≡ length v.given + 1)) (sym s.3) c.in-Some.ensures.number in
    let visits = all_back_as [] s.0 _ _ (g.P.Port.visits c.args.port.now) (g.P.Port.visits c.args.port.now) (g.P.Port.visits c.next_link.new.port) _ s.3 s.4 same_number (no_change (g.P.Port.visits c.args.port.now)) c.in-Some.ensures.given c.in-Some.ensures.number c.done.ensures.visits in
    let goes = ran_on c.laws.ensures.steps c.laws.ensures.journal gives (run_of s.0) v2 v3 v4 running2 admits.rests ran c.in-Err-note_exit.ensures.refused in (
      one.0 ++ RunsOn (run_of s.0) ∷ [],
      s.0 ∷ [],
      false,
      serves_short gives c.admit-admitted.result s.0 one.0 v v2 v4 c.requires.listens admits goes c.in-Err-note_exit.ensures.refused.listens c.in-Err-note_exit.ensures.refused.standing,
      short_served seed limit gives c.admit-admitted.result s.0 one.0 v v2 _ _ admits s.1 is_served numbered visits,
    )
