-- What the next act is that is due, and what it leaves.
use Rattle.std.{proofs.{Common.{◌≡◌, ℕ, ◌+◌, List, [], ◌∷◌, Option, None, Some, Result, Ok, Err, refl, sym, ap, ◌∙◌, arith, length}, lemmas.Bool.eqb-true, Math.Bool.or-false}, specs.Prelude.{Bool, true, false}}
use Rattle.pm_state.specs.{pm_supervisor.declared.Ending.Ending, declared.{action.Action.Action, event.PmEvent.PmEvent}, Journal.without_first}
use Rattle.pm_state.specs.declared.action.Action.TheVariants as act
use Rattle.pm_supervisor_journal.specs.{declared.act.{Act.Act, GenerationsSpent.GenerationsSpent}, Standing.{Next, Standing, act_for, done, entry_for, first_due, is_spent, next_in, next_of, all_noted, noted}, Stands.AtWork}
use Rattle.pm_supervisor_journal.specs.declared.act.Act.TheVariants as given

-- ---- the first act

pub first_is : (acts : List Action) (a : Action) → first_due acts ≡ Some a → acts ≡ a ∷ without_first acts
first_is [] a is = absurd cc
first_is (b ∷ acts) a is = cc

pub shorter : (acts : List Action) (a : Action) → first_due acts ≡ Some a → length (without_first acts) + 1 ≡ length acts
shorter [] a is = absurd cc
shorter (b ∷ acts) a is = omega arith

-- ---- what `next` answers

pub same_act : (a b : Act) → (let r : Result (Option Act) GenerationsSpent = Ok (Some a) in r ≡ Ok (Some b)) → a ≡ b
same_act a b is = cc

-- an act was given
pub record IsGivenNext (a : Action) (act : Act) (s : Standing) (n : Next) : Type 0 where
  pub first : first_due s.due ≡ Some a
  pub act_is : act ≡ act_for a s
  pub entries : n.entries ≡ entry_for a s ∷ []
  pub after : n.after ≡ done a s

given_in : (due : List Action) (s : Standing) (act : Act) → s.due ≡ due → (next_in due s).answer ≡ Ok (Some act) → (a : Action) × IsGivenNext a act s (next_in due s)
given_in [] s act is answer = absurd cc
given_in (a ∷ rest) s act is answer =
    elim (is_spent a s) as (λ (b : Bool). is_spent a s ≡ b → (next_in (a ∷ rest) s).answer ≡ Ok (Some act) → (x : Action) × IsGivenNext x act s (next_in (a ∷ rest) s)) [
      | true ↦ λ spent answer'. absurd (let e : (next_in (a ∷ rest) s).answer ≡ Err (record {}) = rw spent refl in cc)
      | false ↦ λ unspent answer'.
          let done_is : next_in (a ∷ rest) s ≡ record { answer = Ok (Some (act_for a s)); entries = entry_for a s ∷ []; after = done a s } = rw unspent refl in (
            a,
            record {
              first = ap first_due is;
              act_is = same_act act (act_for a s) (sym answer' ∙ ap (λ (n : Next). n.answer) done_is);
              entries = ap (λ (n : Next). n.entries) done_is;
              after = ap (λ (n : Next). n.after) done_is;
            },
          )
    ] refl answer

pub next_given : (s : Standing) (act : Act) → (next_of s).answer ≡ Ok (Some act) → (a : Action) × IsGivenNext a act s (next_of s)
next_given s act answer = given_in s.due s act refl answer

pub record IsNone (s : Standing) (n : Next) : Type 0 where
  pub none_due : s.due ≡ []
  pub after : n.after ≡ s
  pub entries : n.entries ≡ []

none_in : (due : List Action) (s : Standing) → s.due ≡ due → (next_in due s).answer ≡ Ok None → IsNone s (next_in due s)
none_in [] s is answer = record { none_due = is; after = refl; entries = refl }
none_in (a ∷ rest) s is answer =
    elim (is_spent a s) as (λ (b : Bool). is_spent a s ≡ b → (next_in (a ∷ rest) s).answer ≡ Ok None → IsNone s (next_in (a ∷ rest) s)) [
      | true ↦ λ spent answer'. absurd (let e : (next_in (a ∷ rest) s).answer ≡ Err (record {}) = rw spent refl in cc)
      | false ↦ λ unspent answer'. absurd (let e : (next_in (a ∷ rest) s).answer ≡ Ok (Some (act_for a s)) = rw unspent refl in cc)
    ] refl answer

pub next_none : (s : Standing) → (next_of s).answer ≡ Ok None → IsNone s (next_of s)
next_none s answer = none_in s.due s refl answer

pub record IsSpentNext (s : Standing) (n : Next) : Type 0 where
  pub generation : s.generation ≡ 4294967295
  pub reset : first_due s.due ≡ Some act.Reset
  pub after : n.after ≡ s
  pub entries : n.entries ≡ []

spent_at : (a : Action) (s : Standing) → is_spent a s ≡ true → s.generation ≡ 4294967295
spent_at act.Reset s spent = eqb-true s.generation 4294967295 spent
spent_at _ s spent = absurd cc

spent_first : (a : Action) (s : Standing) → is_spent a s ≡ true → a ≡ act.Reset
spent_first act.Reset s spent = refl
spent_first _ s spent = absurd cc

spent_in : (due : List Action) (s : Standing) (e : GenerationsSpent) → s.due ≡ due → (next_in due s).answer ≡ Err e → IsSpentNext s (next_in due s)
spent_in [] s e is answer = absurd cc
spent_in (a ∷ rest) s e is answer =
    elim (is_spent a s) as (λ (b : Bool). is_spent a s ≡ b → (next_in (a ∷ rest) s).answer ≡ Err e → IsSpentNext s (next_in (a ∷ rest) s)) [
      | true ↦ λ spent answer'.
          let next_is : next_in (a ∷ rest) s ≡ record { answer = Err (record {}); entries = []; after = s } = rw spent refl in
          record {
            generation = spent_at a s spent;
            reset = ap first_due is ∙ ap (λ (x : Action). Some x) (spent_first a s spent);
            after = ap (λ (n : Next). n.after) next_is;
            entries = ap (λ (n : Next). n.entries) next_is;
          }
      | false ↦ λ unspent answer'. absurd (let x : (next_in (a ∷ rest) s).answer ≡ Ok (Some (act_for a s)) = rw unspent refl in cc)
    ] refl answer

pub next_spent : (s : Standing) (e : GenerationsSpent) → (next_of s).answer ≡ Err e → IsSpentNext s (next_of s)
next_spent s e answer = spent_in s.due s e refl answer

-- entries that are noted leave what is due
pub noted-due : (es : List PmEvent) (s : Standing) → (all_noted es s).due ≡ s.due
noted-due [] s = refl
noted-due (e ∷ es) s = noted-due es (noted e s)

-- ---- what an act leaves

pub generation_kept : (a : Action) (s : Standing) → (a ≡ act.Reset → ⊥) → (done a s).generation ≡ s.generation
generation_kept act.Reset s other = absurd (other refl)
generation_kept _ s other = refl

pub ended_kept : (a : Action) (s : Standing) → ((how : Ending) → a ≡ act.End how → ⊥) → (done a s).ended ≡ s.ended
ended_kept (act.End how) s goes_on = absurd (goes_on how refl)
ended_kept _ s goes_on = or-false s.ended

pub reset_number : (a : Action) (s : Standing) (generation : ℕ) → act_for a s ≡ given.Reset generation → generation ≡ s.generation + 1
reset_number (act.Start k) s generation is = cc
reset_number _ s generation is = cc

pub same_work : (v w : AtWork) → w.standing ≡ v.standing → w.told ≡ v.told → w ≡ v
same_work v w standing told =
    ap (λ (s : Standing). record { told = w.told; standing = s }) standing ∙ ap (λ (t : Option (List PmEvent)). record { told = t; standing = v.standing }) told
