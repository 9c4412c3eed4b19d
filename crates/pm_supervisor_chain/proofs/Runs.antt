-- What a run of a child adds to the book, and a renewal of the store.
use Rattle.std.{proofs.Common.{◌≡◌, ℕ, Bool, true, false, cond, List, [], ◌∷◌, ◌++◌, Option, Some, None, refl, ap, sym, ◌∙◌, subst, inl, inr, append_assoc, append-nil}, specs.{Prelude.{◌⊎◌, map}, List.AllByRecursion}}
use Rattle.pm_state.specs.{pm_supervisor.Children.is_dead_end, declared.event.PmEvent.PmEvent}
use Rattle.pm_query.specs.declared.book.BookEntry.{BookEntry}
use Rattle.pm_query.specs.declared.book.BookEntry.TheVariants as entry
use Rattle.pm_supervisor_chain.specs.{Chain.{InGeneration, IsAmong, Redo, attached_of, exits_of, gone_from, kept_of, lost_from, opened_of, redo_ends_of, redos_of, resets_of, lost_since, gone_since}, Steps.{ChildRun, HasEntered, IsWorkOf, StaysOutside, TellsRedo, leaving, redo_end}}

abbrev pub run_in : ChildRun → InGeneration
run_in run = record { number = run.pid; generation = run.generation }

-- the redo is this child's, and it tells it
pub record IsToldBy (run : ChildRun) (redo : Redo) : Type 0 where
  pub pid : redo.pid ≡ run.pid
  pub generation : redo.kept.generation ≡ run.generation
  pub kept : run.kept ≡ Some redo.kept.number

-- entries that open nothing, let nobody in and leave nobody gone
pub record AddsRedos (run : ChildRun) (users : List InGeneration) (noted : List BookEntry) : Type 0 where
  pub opened : opened_of noted ≡ []
  pub attached : attached_of noted ≡ users
  pub gone : (so_far : List ℕ) → gone_from so_far noted ≡ []
  pub since : (so_far : List ℕ) → gone_since so_far noted ≡ so_far
  pub redos : AllByRecursion (IsToldBy run) (redos_of noted)

adds-nothing : (run : ChildRun) → AddsRedos run [] []
adds-nothing run = record { opened = refl; attached = refl; gone = λ so_far. refl; since = λ so_far. refl; redos = tt }

adds-left : (run : ChildRun) (b : Bool) → AddsRedos run [] (cond b [] (entry.Detached run.pid ∷ []))
adds-left run true = adds-nothing run
adds-left run false = record { opened = refl; attached = refl; gone = λ so_far. refl; since = λ so_far. refl; redos = tt }

adds-more : (run : ChildRun) (e : BookEntry) (noted : List BookEntry) → IsWorkOf run e → AddsRedos run [] noted → AddsRedos run [] (e ∷ noted)
adds-more run (entry.Opened generation) noted work adds = absurd work
adds-more run (entry.Attached pid generation) noted work adds = absurd work
adds-more run (entry.Detached pid) noted work adds = absurd work
adds-more run (entry.Gone pid) noted work adds = absurd work
adds-more run (entry.Redone pid generation kept) noted work adds =
    record {
      opened = adds.opened;
      attached = adds.attached;
      gone = adds.gone;
      since = adds.since;
      redos = (record { pid = work.0; generation = work.1; kept = work.2 }, adds.redos);
    }
adds-more run e noted work adds =
    record { opened = adds.opened; attached = adds.attached; gone = adds.gone; since = adds.since; redos = adds.redos }

adds-work : (run : ChildRun) (work left : List BookEntry) → AllByRecursion (IsWorkOf run) work → AddsRedos run [] left → AddsRedos run [] (work ++ left)
adds-work run [] left each adds = adds
adds-work run (e ∷ work) left each adds = adds-more run e (work ++ left) each.0 (adds-work run work left each.1 adds)

adds-entered : (run : ChildRun) → HasEntered run → AddsRedos run (run_in run ∷ []) run.noted
adds-entered run entered =
    let adds : AddsRedos run [] (entered.work ++ leaving run) =
    adds-work run entered.work (leaving run) entered.of_it (adds-left run run.was_active) in
    subst (λ noted. AddsRedos run (run_in run ∷ []) noted) (sym entered.noted) (record {
      opened = adds.opened;
      attached = ap (λ (l : List InGeneration). run_in run ∷ l) adds.attached;
      gone = adds.gone;
      since = adds.since;
      redos = adds.redos;
    })

adds-outside : (run : ChildRun) → StaysOutside run → AddsRedos run [] run.noted
adds-outside run outside = subst (λ noted. AddsRedos run [] noted) (sym outside.noted) (adds-nothing run)

-- at most one user, whichever it did
pub record AddsRun (run : ChildRun) : Type 0 where
  pub users : List InGeneration
  pub adds : AddsRedos run users run.noted
  pub user : (users ≡ []) ⊎ ((users ≡ run_in run ∷ []) × (is_dead_end run.kind ≡ false))

pub adds-run : (run : ChildRun) → StaysOutside run ⊎ HasEntered run → AddsRun run
adds-run run (inl outside) = record { users = []; adds = adds-outside run outside; user = inl refl }
adds-run run (inr entered) = record { users = run_in run ∷ []; adds = adds-entered run entered; user = inr (refl, entered.serves) }

-- ---- the end of redo

pub told-among : (run : ChildRun) (redo : Redo) → IsToldBy run redo → IsAmong redo.kept (redo_ends_of (redo_end run.generation run.kept))
told-among run redo told =
    subst (λ kept. IsAmong redo.kept (redo_ends_of (redo_end run.generation kept))) (sym told.kept) (inl (refl, told.generation))

pub redo-ended : (run : ChildRun) (kept : Option ℕ) → TellsRedo run kept
    → AllByRecursion (λ end. IsAmong end (kept_of (redos_of run.noted))) (redo_ends_of (redo_end run.generation kept))
redo-ended run None tells = tt
redo-ended run (Some kept) tells = (tells.1, tt)

-- it says nothing else
pub record EndsRedo (es : List PmEvent) : Type 0 where
  pub resets : resets_of es ≡ []
  pub exits : exits_of es ≡ []
  pub lost : (so_far : List ℕ) → lost_from so_far es ≡ []
  pub since : (so_far : List ℕ) → lost_since so_far es ≡ so_far

pub ends-redo : (generation : ℕ) (kept : Option ℕ) → EndsRedo (redo_end generation kept)
ends-redo generation None = record { resets = refl; exits = refl; lost = λ so_far. refl; since = λ so_far. refl }
ends-redo generation (Some kept) = record { resets = refl; exits = refl; lost = λ so_far. refl; since = λ so_far. refl }

-- ---- a renewal

pub record AddsRenewal (generation : ℕ) (gone : List ℕ) (noted : List BookEntry) : Type 0 where
  pub opened : opened_of noted ≡ generation ∷ []
  pub attached : attached_of noted ≡ []
  pub redos : redos_of noted ≡ []
  pub gone_now : (so_far : List ℕ) → gone_from so_far noted ≡ (so_far ++ gone) ∷ []
  pub since : (so_far : List ℕ) → gone_since so_far noted ≡ []

pub adds-renewal : (generation : ℕ) (gone : List ℕ) → AddsRenewal generation gone (map entry.Gone gone ++ entry.Opened generation ∷ [])
adds-renewal generation [] =
    record {
      opened = refl;
      attached = refl;
      redos = refl;
      gone_now = λ so_far. ap (λ l. l ∷ []) (sym (append-nil so_far));
      since = λ so_far. refl;
    }
adds-renewal generation (pid ∷ gone) =
    let rest : AddsRenewal generation gone (map entry.Gone gone ++ entry.Opened generation ∷ []) = adds-renewal generation gone in
    record {
      opened = rest.opened;
      attached = rest.attached;
      redos = rest.redos;
      gone_now = λ so_far. rest.gone_now (so_far ++ pid ∷ []) ∙ ap (λ l. l ∷ []) (append_assoc so_far (pid ∷ []) gone);
      since = λ so_far. rest.since (so_far ++ pid ∷ []);
    }
