-- Moments, requests and connections of a journal that is written in parts.
use Rattle.std.proofs.Common.{◌≡◌, ◌⊎◌, inl, inr, ℕ, ◌<◌, List, [], ◌∷◌, ◌++◌, None, Some, refl, sym, ◌∙◌, ap, subst}
use Rattle.pm_supervisor_journal.specs.{pm_state.{pm_modes.declared.Mode.Mode, declared.event.PmEvent.PmEvent}, Moments.{AreGiven, IsGiven}, declared.supervision.Taken.Taken}
use Rattle.pm_supervisor_journal.specs.pm_state.declared.event.PmEvent.TheVariants as entry
use Rattle.pm_server.specs.Journal.{IsMoment, Times, accepted_in, asked_in}

-- ---- moments

given_weaker : (P Q : ℕ → Type 0) → ((at : ℕ) → P at → Q at) → (e : PmEvent) → IsGiven P e → IsGiven Q e
given_weaker P Q weaker (entry.Started pid kind) given = tt
given_weaker P Q weaker (entry.Accepted pid decision) given = tt
given_weaker P Q weaker (entry.Exited pid kind status was_active at) given = weaker at given
given_weaker P Q weaker (entry.Asked mode at) given = weaker at given
given_weaker P Q weaker (entry.KillAsked pid) given = tt
given_weaker P Q weaker (entry.QuitSent why) given = tt
given_weaker P Q weaker entry.TerminateSent given = tt
given_weaker P Q weaker (entry.KillSent at) given = weaker at given
given_weaker P Q weaker entry.CheckpointAsked given = tt
given_weaker P Q weaker (entry.RedoEnded generation kept) given = tt
given_weaker P Q weaker (entry.Ready generation) given = tt
given_weaker P Q weaker (entry.Reset generation) given = tt
given_weaker P Q weaker (entry.Said line) given = tt
given_weaker P Q weaker (entry.Ended how) given = tt

pub all_weaker : (P Q : ℕ → Type 0) → ((at : ℕ) → P at → Q at) → (es : List PmEvent) → AreGiven P es → AreGiven Q es
all_weaker P Q weaker [] given = tt
all_weaker P Q weaker (e ∷ es) given = (given_weaker P Q weaker e given.0, all_weaker P Q weaker es given.1)

pub all_given : (P : ℕ → Type 0) (xs ys : List PmEvent) → AreGiven P xs → AreGiven P ys → AreGiven P (xs ++ ys)
all_given P [] ys one two = two
all_given P (x ∷ xs) ys one two = (one.0, all_given P xs ys one.1 two)

pub times_none : (gives : ℕ → Type 0) (at : ℕ) → Times gives at [] at
times_none gives at = record { each = tt; last = inl refl }

-- a moment by the last one between is one by the last one before
by_before : (gives : ℕ → Type 0) (before between at : ℕ) → (between ≡ before) ⊎ gives between → IsMoment gives between at → IsMoment gives before at
by_before gives before between at last (inl given) = inl given
by_before gives before between at (inl same) (inr old) = inr (old.0 ∙ same, subst (λ (n : ℕ). 0 < n) same old.1)
by_before gives before between at (inr given) (inr old) = inl (subst gives (sym old.0) given)

last_by : (gives : ℕ → Type 0) (before between now : ℕ) → (between ≡ before) ⊎ gives between → (now ≡ between) ⊎ gives now → (now ≡ before) ⊎ gives now
last_by gives before between now one (inr given) = inr given
last_by gives before between now (inl same) (inl still) = inl (still ∙ same)
last_by gives before between now (inr given) (inl still) = inr (subst gives (sym still) given)

pub times_on : (gives : ℕ → Type 0) (xs ys : List PmEvent) (before between now : ℕ) → Times gives before xs between → Times gives between ys now → Times gives before (xs ++ ys) now
times_on gives xs ys before between now one two = record {
  each = all_given (IsMoment gives before) xs ys one.each (all_weaker (IsMoment gives between) (IsMoment gives before) (λ at. by_before gives before between at one.last) ys two.each);
  last = last_by gives before between now one.last two.last;
}

any_moment : (gives : ℕ → Type 0) (before at : ℕ) → IsMoment (λ n. ⊥) before at → IsMoment gives before at
any_moment gives before at (inl never) = absurd never
any_moment gives before at (inr old) = inr old

-- where no clock was asked
pub times_any : (gives : ℕ → Type 0) (es : List PmEvent) (before now : ℕ) → Times (λ n. ⊥) before es now → Times gives before es now
times_any gives es before now times = record {
  each = all_weaker (IsMoment (λ n. ⊥) before) (IsMoment gives before) (any_moment gives before) es times.each;
  last = elim times.last [ inl same ↦ inl same | inr never ↦ absurd never ];
}

-- ---- requests, and connections

pub asked_in-append : (xs ys : List PmEvent) → asked_in (xs ++ ys) ≡ asked_in xs ++ asked_in ys
asked_in-append [] ys = refl
asked_in-append (entry.Asked mode at ∷ xs) ys = ap (λ (l : List Mode). mode ∷ l) (asked_in-append xs ys)
asked_in-append (_ ∷ xs) ys = asked_in-append xs ys

pub accepted_in-append : (xs ys : List PmEvent) → accepted_in (xs ++ ys) ≡ accepted_in xs ++ accepted_in ys
accepted_in-append [] ys = refl
accepted_in-append (entry.Accepted pid decision ∷ xs) ys = ap (λ (l : List Taken). record { pid = pid; decision = decision } ∷ l) (accepted_in-append xs ys)
accepted_in-append (_ ∷ xs) ys = accepted_in-append xs ys
