-- What the next act is that is due, of those that these servers do.
use Rattle.std.{proofs.Common.{◌≡◌, [], ◌∷◌, Some, List, Option, Err, refl, sym, ◌∙◌, ap, None, ℕ, subst, append-nil}, specs.Prelude.{Bool, true, false}}
use Rattle.pm_server.specs.{pm_state.declared.{action.{Action.Action, Line.Line}, event.PmEvent.PmEvent}, pm_outside.Added.Added, pm_supervisor_journal.{Standing.{Standing, done, entry_for, first_due, next_in}, declared.act.GenerationsSpent.GenerationsSpent, Moments.AreGiven, Due.{AreOurs, AreSays, is_last_drawn}, Stands.IsSettled}}
use Rattle.pm_server.specs.pm_state.declared.action.Action.TheVariants as act
use Rattle.pm_once_acts.{specs.{Acts.{Keeps, IsPresent}, Steps.IsFree}, proofs.ActsLaws.{drawn_kept, auxiliary_kept, unowed_kept}}
use Rattle.pm_supervisor_chain.specs.Steps.{Notes}

-- ---- its entry

pub no_moment : (asked : Bool) (a : Action) (s : Standing) (rest : List Action) (P : ℕ → Type 0) → AreOurs asked (a ∷ rest) → AreGiven P (entry_for a s ∷ [])
no_moment asked (act.Start k) s rest P ours = (tt, tt)
no_moment asked (act.Quit why) s rest P ours = (tt, tt)
no_moment asked act.Terminate s rest P ours = (tt, tt)
no_moment asked act.KillAll s rest P ours = absurd ours
no_moment asked act.AskCheckpoint s rest P ours = (tt, tt)
no_moment asked act.Ready s rest P ours = (tt, tt)
no_moment asked act.Reset s rest P ours = (tt, tt)
no_moment asked (act.Say line) s rest P ours = (tt, tt)
no_moment asked (act.End how) s rest P ours = (tt, tt)

pub moment_kept : (asked : Bool) (a : Action) (s : Standing) (rest : List Action) → AreOurs asked (a ∷ rest) → (done a s).moment ≡ s.moment
moment_kept asked act.KillAll s rest ours = absurd ours
moment_kept asked _ s rest ours = refl

-- ---- the whole

pub entry_free : (a : Action) (s : Standing) → (a ≡ act.Reset → ⊥) → IsFree (Some (Notes (entry_for a s)))
entry_free act.Reset s other = absurd (other refl)
entry_free _ s other = tt

pub says_tail : (a : Action) (rest : List Action) → AreSays (a ∷ rest) → AreSays rest
says_tail (act.Say line) rest says = says
says_tail _ rest says = absurd says

pub says_owes : (a : Action) (rest : List Action) (s : Standing) → AreSays (a ∷ rest) → (done a s).owes_smart ≡ s.owes_smart
says_owes (act.Say line) rest s says = refl
says_owes _ rest s says = absurd says

pub keeps_done : (a : Action) (s t : Standing) → t ≡ done a s → (IsSettled s → IsSettled t) → Keeps s t
keeps_done a s t is settled = record {
  auxiliaries = λ pid k there. subst (λ (x : Standing). IsPresent (Some pid) k x) (sym is) (auxiliary_kept a s pid k there);
  settled = settled;
  drawn = λ drawn. subst (λ (x : Standing). is_last_drawn x.last_pid ≡ true) (sym is) (drawn_kept a s drawn);
  unowed = λ drawn unowed. subst (λ (x : Standing). x.owes_smart ≡ false) (sym is) (unowed_kept a s drawn unowed);
}

-- ---- nothing is done

pub same_told : (told now : Option (List PmEvent)) → Added [] told now → now ≡ told
same_told None now adds = adds
same_told (Some j) now adds = adds ∙ ap (λ (l : List PmEvent). Some l) (append-nil j)

pub still_keeps : (s : Standing) → Keeps s s
still_keeps s = record { auxiliaries = λ pid k there. there; settled = λ was. was; drawn = λ drawn. drawn; unowed = λ drawn unowed. unowed }

-- ---- what `perform` needs

pub says_unspent : (due : List Action) (s : Standing) (e : GenerationsSpent) → AreSays due → (next_in due s).answer ≡ Err e → ⊥
says_unspent [] s e says answer = absurd cc
says_unspent (act.Say line ∷ rest) s e says answer = absurd cc
says_unspent (_ ∷ rest) s e says answer = says

-- a line is the first act
pub record IsLine (a : Action) : Type 0 where
  pub line : Line
  pub is : a ≡ act.Say line

pub first_says : (due : List Action) (a : Action) → AreSays due → first_due due ≡ Some a → IsLine a
first_says [] a says first = absurd cc
first_says (act.Say line ∷ rest) a says first = record { line = line; is = cc }
first_says (_ ∷ rest) a says first = absurd says
