-- Laws of what journal and book say, as entries are put after those so far.
use Rattle.std.proofs.{Common.{◌≡◌, ℕ, true, List, [], ◌∷◌, ◌++◌, refl, ap, inl, inr}, lemmas.Grind.flat_map-append}
use Rattle.pm_state.specs.pm_admit.declared.Cac.TheVariants as decision
use Rattle.pm_state.specs.declared.event.PmEvent.{PmEvent}
use Rattle.pm_state.specs.declared.event.PmEvent.TheVariants as event
use Rattle.pm_query.specs.declared.book.BookEntry.{BookEntry}
use Rattle.pm_query.specs.declared.book.BookEntry.TheVariants as entry
use Rattle.pm_supervisor_chain.specs.{Chain.{InGeneration, Redo, attached_of, exits_of, gone_from, kept_of, lost_from, opened_of, redo_ends_of, redos_of, resets_of, users_from, generation_in, gone_since, lost_since, IsPidOf}, Steps.{Step, journal_by, journal_of}}

-- ---- the journal

pub resets-append : (xs ys : List PmEvent) → resets_of (xs ++ ys) ≡ resets_of xs ++ resets_of ys
resets-append [] ys = refl
resets-append (event.Reset generation ∷ xs) ys = ap (λ l. generation ∷ l) (resets-append xs ys)
resets-append (_ ∷ xs) ys = resets-append xs ys

pub redo_ends-append : (xs ys : List PmEvent) → redo_ends_of (xs ++ ys) ≡ redo_ends_of xs ++ redo_ends_of ys
redo_ends-append [] ys = refl
redo_ends-append (event.RedoEnded generation kept ∷ xs) ys =
    ap (λ (l : List InGeneration). record { number = kept; generation = generation } ∷ l) (redo_ends-append xs ys)
redo_ends-append (_ ∷ xs) ys = redo_ends-append xs ys

pub exits-append : (xs ys : List PmEvent) → exits_of (xs ++ ys) ≡ exits_of xs ++ exits_of ys
exits-append [] ys = refl
exits-append (event.Exited pid kind status was_active at ∷ xs) ys = ap (λ l. pid ∷ l) (exits-append xs ys)
exits-append (_ ∷ xs) ys = exits-append xs ys

pub users-append :
    (generation : ℕ) (xs ys : List PmEvent) → users_from generation (xs ++ ys) ≡ users_from generation xs ++ users_from (generation_in generation xs) ys
users-append generation [] ys = refl
users-append generation (event.Started pid kind ∷ xs) ys =
    ap (λ (l : List InGeneration). record { number = pid; generation = generation } ∷ l) (users-append generation xs ys)
users-append generation (event.Accepted pid decision.Ok ∷ xs) ys =
    ap (λ (l : List InGeneration). record { number = pid; generation = generation } ∷ l) (users-append generation xs ys)
users-append generation (event.Reset next ∷ xs) ys = users-append next xs ys
users-append generation (_ ∷ xs) ys = users-append generation xs ys

pub generation-append : (generation : ℕ) (xs ys : List PmEvent) → generation_in generation (xs ++ ys) ≡ generation_in (generation_in generation xs) ys
generation-append generation [] ys = refl
generation-append generation (event.Reset next ∷ xs) ys = generation-append next xs ys
generation-append generation (_ ∷ xs) ys = generation-append generation xs ys

pub lost-append : (so_far : List ℕ) (xs ys : List PmEvent) → lost_from so_far (xs ++ ys) ≡ lost_from so_far xs ++ lost_from (lost_since so_far xs) ys
lost-append so_far [] ys = refl
lost-append so_far (event.Exited pid kind status true at ∷ xs) ys = lost-append (so_far ++ pid ∷ []) xs ys
lost-append so_far (event.Reset generation ∷ xs) ys = ap (λ l. so_far ∷ l) (lost-append [] xs ys)
lost-append so_far (_ ∷ xs) ys = lost-append so_far xs ys

pub lost_since-append : (so_far : List ℕ) (xs ys : List PmEvent) → lost_since so_far (xs ++ ys) ≡ lost_since (lost_since so_far xs) ys
lost_since-append so_far [] ys = refl
lost_since-append so_far (event.Exited pid kind status true at ∷ xs) ys = lost_since-append (so_far ++ pid ∷ []) xs ys
lost_since-append so_far (event.Reset generation ∷ xs) ys = lost_since-append [] xs ys
lost_since-append so_far (_ ∷ xs) ys = lost_since-append so_far xs ys

-- ---- the book

pub opened-append : (xs ys : List BookEntry) → opened_of (xs ++ ys) ≡ opened_of xs ++ opened_of ys
opened-append [] ys = refl
opened-append (entry.Opened generation ∷ xs) ys = ap (λ l. generation ∷ l) (opened-append xs ys)
opened-append (_ ∷ xs) ys = opened-append xs ys

pub attached-append : (xs ys : List BookEntry) → attached_of (xs ++ ys) ≡ attached_of xs ++ attached_of ys
attached-append [] ys = refl
attached-append (entry.Attached pid generation ∷ xs) ys =
    ap (λ (l : List InGeneration). record { number = pid; generation = generation } ∷ l) (attached-append xs ys)
attached-append (_ ∷ xs) ys = attached-append xs ys

pub redos-append : (xs ys : List BookEntry) → redos_of (xs ++ ys) ≡ redos_of xs ++ redos_of ys
redos-append [] ys = refl
redos-append (entry.Redone pid generation kept ∷ xs) ys =
    ap (λ (l : List Redo). record { pid = pid; kept = record { number = kept; generation = generation } } ∷ l) (redos-append xs ys)
redos-append (_ ∷ xs) ys = redos-append xs ys

pub kept-append : (xs ys : List Redo) → kept_of (xs ++ ys) ≡ kept_of xs ++ kept_of ys
kept-append [] ys = refl
kept-append (redo ∷ xs) ys = ap (λ l. redo.kept ∷ l) (kept-append xs ys)

pub gone-append : (so_far : List ℕ) (xs ys : List BookEntry) → gone_from so_far (xs ++ ys) ≡ gone_from so_far xs ++ gone_from (gone_since so_far xs) ys
gone-append so_far [] ys = refl
gone-append so_far (entry.Gone pid ∷ xs) ys = gone-append (so_far ++ pid ∷ []) xs ys
gone-append so_far (entry.Opened generation ∷ xs) ys = ap (λ l. so_far ∷ l) (gone-append [] xs ys)
gone-append so_far (_ ∷ xs) ys = gone-append so_far xs ys

pub gone_since-append : (so_far : List ℕ) (xs ys : List BookEntry) → gone_since so_far (xs ++ ys) ≡ gone_since (gone_since so_far xs) ys
gone_since-append so_far [] ys = refl
gone_since-append so_far (entry.Gone pid ∷ xs) ys = gone_since-append (so_far ++ pid ∷ []) xs ys
gone_since-append so_far (entry.Opened generation ∷ xs) ys = gone_since-append [] xs ys
gone_since-append so_far (_ ∷ xs) ys = gone_since-append so_far xs ys

-- ---- steps

pub journal-append : (before steps : List Step) → journal_of (before ++ steps) ≡ journal_of before ++ journal_of steps
journal-append before steps = flat_map-append journal_by before steps

-- ---- pids

pub pid_left : (pid : ℕ) (ys zs : List ℕ) → IsPidOf pid ys → IsPidOf pid (ys ++ zs)
pid_left pid [] zs is = absurd is
pid_left pid (y ∷ ys) zs is =
    elim is [
      | inl same ↦ inl same
      | inr later ↦ inr (pid_left pid ys zs later)
    ]

pub pid_right : (pid : ℕ) (ys zs : List ℕ) → IsPidOf pid zs → IsPidOf pid (ys ++ zs)
pid_right pid [] zs is = is
pid_right pid (y ∷ ys) zs is = inr (pid_right pid ys zs is)
