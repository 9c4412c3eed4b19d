-- An act is given and done, and its entry is noted.
use Rattle.std.{proofs.{Common.{◌≡◌, ℕ, refl, eq-eqb, ◌+◌, ◌≤◌, arith, cond, Some, ◌∙◌, ap, [], ◌∷◌, sym, subst, List, length}, lemmas.Bool.{eqb-true, le-leb, leb-true, lt-leb, ne_eqb}, Math.Bool.or-false}, specs.Prelude.{true, ◌==◌, false, Bool, nat_le, ◌||◌}}
use Rattle.pm_server.{specs.{pm_exit.declared.child.Kind.Kind, pm_state.{declared.action.Action.Action, Journal.{without_first, last_pid}}, pm_supervisor_journal.{Roll.kind_in, Standing.{Standing, done, next_pid, entry_for}, Due.{is_last_drawn, AreOurs}}, Journal.{asked_in, accepted_in}, pm_supervisor.Children.one_if, pm_modes.declared.Mode.Mode}, proofs.pm_supervisor.CountLaws.at_most_one}
use Rattle.pm_server.specs.pm_state.declared.action.Action.TheVariants as act
use Rattle.pm_once_acts.specs.Acts.{IsPresent, AsksAsDue, Keeps}
use Rattle.pm_server.specs.pm_supervisor.declared.Ending.TheVariants as endings

-- ---- the children

pub other_pid : (pid last : ℕ) → pid ≤ last → (last + 1 == pid) ≡ false
other_pid pid last within = ne_eqb (last + 1) pid (λ is. omega (arith, is, within))

-- a child stays
pub auxiliary_kept : (a : Action) (s : Standing) (pid : ℕ) (k' : Kind) → IsPresent (Some pid) k' s → IsPresent (Some pid) k' (done a s)
auxiliary_kept (act.Start k) s pid k' there = (ap (λ (b : Bool). cond b (Some k) (kind_in pid s.children)) (other_pid pid s.last_pid there.1) ∙ there.0, omega (arith, there.1))
auxiliary_kept _ s pid k' there = there

-- and one is started
pub auxiliary_started : (k : Kind) (s : Standing) → IsPresent (Some (next_pid s)) k (done (act.Start k) s)
auxiliary_started k s = (ap (λ (b : Bool). cond b (Some k) (kind_in (next_pid s) s.children)) (eq-eqb (next_pid s) (next_pid s) refl), omega arith)

-- ---- requests

pub not_asked : (a : Action) (s : Standing) → asked_in (entry_for a s ∷ []) ≡ []
not_asked (act.Start k) s = refl
not_asked _ s = refl

pub not_accepted : (a : Action) (s : Standing) → accepted_in (entry_for a s ∷ []) ≡ []
not_accepted (act.Start k) s = refl
not_accepted _ s = refl

drawn_test : (last : ℕ) → (last + 1 == last_pid) ≡ true → one_if (is_last_drawn last) ≡ 0
drawn_test last is = ap one_if (not_yet last is)
  where
    not_yet : (last : ℕ) → (last + 1 == last_pid) ≡ true → nat_le last_pid last ≡ false
    not_yet last is = lt-leb last_pid last (omega (arith, eqb-true (last + 1) last_pid is))

drawn_now : (last : ℕ) → (last + 1 == last_pid) ≡ true → one_if (is_last_drawn (last + 1)) ≡ 1
drawn_now last is = ap one_if (it_is last is)
  where
    it_is : (last : ℕ) → (last + 1 == last_pid) ≡ true → nat_le last_pid (last + 1) ≡ true
    it_is last is = le-leb last_pid (last + 1) (omega (arith, eqb-true (last + 1) last_pid is))

-- it stays drawn
pub drawn_further : (last : ℕ) → is_last_drawn last ≡ true → is_last_drawn (last + 1) ≡ true
drawn_further last is = le-leb last_pid (last + 1) (omega (arith, leb-true last_pid last is))

drawn_grows : (last : ℕ) → one_if (is_last_drawn last) ≤ one_if (is_last_drawn (last + 1))
drawn_grows last = elim (nat_le last_pid last) as (λ (b : Bool). nat_le last_pid last ≡ b → one_if b ≤ one_if (is_last_drawn (last + 1))) [
  | true ↦ λ is. subst (λ (b : Bool). 1 ≤ one_if b) (sym (drawn_further last is)) (omega arith)
  | false ↦ λ is. omega arith
] refl

-- a pid more is drawn
pub asks_drawn : (asked : List Mode) (listens : Bool) (s t : Standing) → t.last_pid ≡ s.last_pid + 1 → t.owes_smart ≡ (s.owes_smart || (s.last_pid + 1 == last_pid)) → AsksAsDue asked listens s → AsksAsDue asked listens t
asks_drawn asked listens s t pid owes asks = record {
  smart = asks.smart;
  few = elim (s.last_pid + 1 == last_pid) as (λ (b : Bool). (s.last_pid + 1 == last_pid) ≡ b → length asked + one_if t.owes_smart + one_if listens ≤ 1 + one_if (is_last_drawn t.last_pid)) [
    | true ↦ λ is. omega (arith, asks.few, drawn_test s.last_pid is, drawn_now s.last_pid is, ap (λ (n : ℕ). one_if (is_last_drawn n)) pid, at_most_one t.owes_smart)
    | false ↦ λ is. omega (arith, asks.few, drawn_grows s.last_pid, ap (λ (n : ℕ). one_if (is_last_drawn n)) pid, ap one_if (owes ∙ ap (λ (b : Bool). s.owes_smart || b) is ∙ or-false s.owes_smart))
  ] refl;
}

pub asks_acted : (a : Action) (s : Standing) (asked : List Mode) (listens : Bool) → AsksAsDue asked listens s → AsksAsDue asked listens (done a s)
asks_acted (act.Start k) s asked listens asks = asks_drawn asked listens s (done (act.Start k) s) refl refl asks
asks_acted _ s asked listens asks = record { smart = asks.smart; few = asks.few }

pub drawn_kept : (a : Action) (s : Standing) → is_last_drawn s.last_pid ≡ true → is_last_drawn (done a s).last_pid ≡ true
drawn_kept (act.Start k) s drawn = drawn_further s.last_pid drawn
drawn_kept _ s drawn = drawn

not_last : (last : ℕ) → nat_le last_pid last ≡ true → (last + 1 == last_pid) ≡ false
not_last last drawn = ne_eqb (last + 1) last_pid (λ is. omega (arith, is, leb-true last_pid last drawn))

pub unowed_kept : (a : Action) (s : Standing) → is_last_drawn s.last_pid ≡ true → s.owes_smart ≡ false → (done a s).owes_smart ≡ false
unowed_kept (act.Start k) s drawn unowed = ap (λ (b : Bool). b || (s.last_pid + 1 == last_pid)) unowed ∙ not_last s.last_pid drawn
unowed_kept _ s drawn unowed = unowed

-- ---- the acts that are left

pub due_kept : (a : Action) (s : Standing) → (done a s).due ≡ without_first s.due
due_kept (act.Start k) s = refl
due_kept _ s = refl

pub ours_tail : (asked : Bool) (a : Action) (rest : List Action) → AreOurs asked (a ∷ rest) → AreOurs asked rest
ours_tail asked (act.Start k) rest ours = ours
ours_tail asked (act.Quit why) rest ours = ours
ours_tail asked act.Terminate rest ours = ours
ours_tail asked act.KillAll rest ours = absurd ours
ours_tail asked act.AskCheckpoint rest ours = ours
ours_tail asked act.Ready rest ours = ours
ours_tail asked act.Reset rest ours = ours.1
ours_tail asked (act.Say line) rest ours = ours
ours_tail asked (act.End endings.Clean) rest ours = ours
ours_tail asked (act.End endings.AfterCrash) rest ours = ours
ours_tail asked (act.End endings.StartupFailed) rest ours = ours
ours_tail asked (act.End endings.RestartOff) rest ours = ours.1

pub none_is_killed : (asked : Bool) (rest : List Action) → AreOurs asked (act.KillAll ∷ rest) → ⊥
none_is_killed asked rest ours = ours

pub keeps_on : (a b c : Standing) → Keeps a b → Keeps b c → Keeps a c
keeps_on a b c one two = record {
  auxiliaries = λ pid kind there. two.auxiliaries pid kind (one.auxiliaries pid kind there);
  settled = λ was. two.settled (one.settled was);
  drawn = λ drawn. two.drawn (one.drawn drawn);
  unowed = λ drawn unowed. two.unowed (one.drawn drawn) (one.unowed drawn unowed);
}
