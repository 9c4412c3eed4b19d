-- What a child noted, put together from what the store's calls note.
use Rattle.std.proofs.{Common.{◌≡◌, ℕ, true, false, List, [], ◌∷◌, ◌++◌, All, Option, Some, Ok, Err, refl, sym, ◌∙◌, ap, subst, arith}, lemmas.List.{append-nil, Elements.{All-nil, All-cons, All-append}}}
use Rattle.pm_exit.specs.declared.child.Kind.{Kind}
use Rattle.pm_query.{specs.{declared.{book.BookEntry.{BookEntry, TheVariants.{Attached, CheckpointEnded}}, store.{StoreNo.StoreNo, Stepping.{Stepping, TheVariants.{More, Done, Skipped, NotDue}}}}, Calls.{DiskFact, unread_for, LearnsReason, User, newcomer, EnterNotes, CheckpointNotes, StepNotes, MetAnother, MetLater}}, proofs.NotedLaws.{GoesInTurn}}
use Rattle.pm_query.specs.declared.store.StoreNo.TheVariants as stores
use Rattle.pm_aux.specs.{declared.cause.AuxiliaryEnd.{AuxiliaryEnd, TheVariants.{Redone, Flushed, Closed, LeftOut, Refused, TurnedAway, ToldToTerminate, ToldToQuit, Killed}}, Ends.{fault_by, lets_go, IsMetBehind, LearnsWhy}, Work.{IsPassing, ClosesBy, Checkpoints, Does, HasWorked, HasEntered, LeavesIf}}

-- ---- a child's way through the store

-- its work, and then its leaving
pub worked : {S : Type 0} (notes : List BookEntry → S → S → Type 0) (kind : Kind) (who user : User) (cause : AuxiliaryEnd) (before between now : S) → GoesInTurn notes → who ≡ user
    → (work : List BookEntry) × notes work before between × Does kind user cause work → (left : List BookEntry) × notes left between now × LeavesIf (lets_go cause) who left
    → (noted : List BookEntry) × notes noted before now × HasWorked kind user cause noted
worked notes kind who user cause before between now in_turn same work left = (
  work.0 ++ left.0,
  in_turn before between now work.0 left.0 work.1 left.1,
  record { work = work.0; left = left.0; does = work.2; leaves = subst (λ (u : User). LeavesIf (lets_go cause) u left.0) same left.2; noted_is = refl },
)

-- its entering, and then its work and its leaving
pub entered : {S : Type 0} (notes : List BookEntry → S → S → Type 0) (kind : Kind) (who user : User) (cause : AuxiliaryEnd) (before between now : S) → GoesInTurn notes → who ≡ user
    → (first : List BookEntry) × notes first before between × (first ≡ Attached user.pid user.generation ∷ []) → (inside : List BookEntry) × notes inside between now × HasWorked kind who cause inside
    → (noted : List BookEntry) × notes noted before now × HasEntered kind user cause noted
entered notes kind who user cause before between now in_turn same first inside = (
  first.0 ++ inside.0,
  in_turn before between now first.0 inside.0 first.1 inside.1,
  record { inside = inside.0; worked = subst (λ (u : User). HasWorked kind u cause inside.0) same inside.2; noted_is = ap (λ (es : List BookEntry). es ++ inside.0) first.2 },
)

-- ---- another generation

pub met_another : (T : Type 0) (met generation : ℕ) (refusal : StoreNo) → MetAnother {T = T} met generation (Err refusal) → IsMetBehind met (Some refusal)
met_another T met generation (stores.Stale mine found) is = (is.1, λ e. is.2 (sym is.0 ∙ e ∙ is.1))
met_another T met generation stores.Disk is = tt
met_another T met generation (stores.Broken since) is = tt
met_another T met generation (stores.Full need room) is = tt
met_another T met generation (stores.Redo fault) is = tt
met_another T met generation stores.NoMemory is = tt

pub met_later : (T : Type 0) (met generation : ℕ) (refusal : StoreNo) → MetLater {T = T} met generation (Err refusal) → IsMetBehind met (Some refusal)
met_later T met generation (stores.Stale mine found) is = (is.1, λ e. absurd (omega (arith, is.0, is.1, is.2, e)))
met_later T met generation stores.Disk is = tt
met_later T met generation (stores.Broken since) is = tt
met_later T met generation (stores.Full need room) is = tt
met_later T met generation (stores.Redo fault) is = tt
met_later T met generation stores.NoMemory is = tt

met_refused : (refusal : StoreNo) (met later : ℕ) → IsMetBehind met (Some refusal) → (lets_go (Refused refusal) ≡ false → later ≡ met) → IsMetBehind later (Some refusal)
met_refused (stores.Stale mine found) met later is same = (is.0 ∙ sym (same refl), is.1)
met_refused stores.Disk met later is same = tt
met_refused (stores.Broken since) met later is same = tt
met_refused (stores.Full need room) met later is same = tt
met_refused (stores.Redo fault) met later is same = tt
met_refused stores.NoMemory met later is same = tt

-- after its leaving, too
pub met_left : (cause : AuxiliaryEnd) (met later : ℕ) → IsMetBehind met (fault_by cause) → (lets_go cause ≡ false → later ≡ met) → IsMetBehind later (fault_by cause)
met_left (Redone kept) met later is same = tt
met_left Flushed met later is same = tt
met_left Closed met later is same = tt
met_left LeftOut met later is same = tt
met_left (Refused refusal) met later is same = met_refused refusal met later is same
met_left (TurnedAway refusal) met later is same = tt
met_left ToldToTerminate met later is same = tt
met_left (ToldToQuit reason) met later is same = tt
met_left Killed met later is same = tt

-- ---- why the log can't be read

-- by the answer of a redo
pub learned_by : (learned : DiskFact → Type 0) (refusal : StoreNo) → LearnsReason learned (Err refusal) → LearnsWhy learned (Some refusal)
learned_by learned refusal learns fault is = let same : refusal ≡ stores.Redo fault = cc in learns fault (ap (λ (no_ : StoreNo). Err no_) same)

-- an entering is refused by no reason of the log
pub learned_outside : (P : Type 0) (learned : DiskFact → Type 0) (user : User) (refusal : StoreNo) (noted : List BookEntry) → EnterNotes {P = P} user (Err refusal) noted → LearnsWhy learned (Some refusal)
learned_outside P learned user refusal noted notes fault is =
    let same : refusal ≡ stores.Redo fault = cc in absurd (subst (λ (no_ : StoreNo). EnterNotes {P = P} user (Err no_) noted) same notes)

-- later it is known still
pub learned_still : (before now : DiskFact → Type 0) (refusal : Option StoreNo) → ((fact : DiskFact) → before fact → now fact) → LearnsWhy before refusal → LearnsWhy now refusal
learned_still before now refusal keeps learns fault is = keeps (unread_for fault) (learns fault is)

-- ---- an entering

-- a refused entering, whoever was to be let in
pub kept_out : (P : Type 0) (user : User) (refusal : StoreNo) (noted : List BookEntry) → EnterNotes {P = P} user (Err refusal) noted → EnterNotes {P = Unit {0}} user (Err refusal) noted
kept_out P user (stores.Stale mine found) noted notes = notes
kept_out P user stores.Disk noted notes = notes
kept_out P user (stores.Broken since) noted notes = notes
kept_out P user (stores.Full need room) noted notes = notes
kept_out P user (stores.Redo fault) noted notes = notes
kept_out P user stores.NoMemory noted notes = notes

-- ---- checkpoints

-- one that wasn't to be the last was refused
refused_passing : (user : User) (refusal : StoreNo) (noted : List BookEntry) → CheckpointNotes user false (Err refusal) noted → CheckpointNotes user true (Err refusal) noted
refused_passing user (stores.Stale mine found) noted notes = notes
refused_passing user stores.Disk noted notes = notes
refused_passing user (stores.Broken since) noted notes = notes
refused_passing user (stores.Full need room) noted notes = notes
refused_passing user (stores.Redo fault) noted notes = notes
refused_passing user stores.NoMemory noted notes = notes

one_passes : (pid : ℕ) (entry : BookEntry) → IsPassing pid entry → All (IsPassing pid) (entry ∷ [])
one_passes pid entry passes = All-cons (IsPassing pid) entry [] passes (All-nil (IsPassing pid))

passes : (user : User) (came : Stepping) (noted : List BookEntry) → StepNotes user (Ok came) noted → All (IsPassing user.pid) noted
passes user More noted notes = rw notes (All-nil (IsPassing user.pid))
passes user (Done epoch) noted notes = rw notes (one_passes user.pid (CheckpointEnded user.pid true false) (true, refl))
passes user Skipped noted notes = rw notes (one_passes user.pid (CheckpointEnded user.pid false false) (false, refl))
passes user (NotDue behind) noted notes = rw notes.2 (All-nil (IsPassing user.pid))

-- checkpoints, and one step more
pub passes_more : {S : Type 0} (notes : List BookEntry → S → S → Type 0) (who user : User) (came : Stepping) (before between now : S) → GoesInTurn notes → who ≡ user
    → (passing : List BookEntry) × notes passing before between × All (IsPassing user.pid) passing → (entries : List BookEntry) × notes entries between now × StepNotes who (Ok came) entries
    → (passing : List BookEntry) × notes passing before now × All (IsPassing user.pid) passing
passes_more notes who user came before between now in_turn same passing call = (
  passing.0 ++ call.0,
  in_turn before between now passing.0 call.0 passing.1 call.1,
  All-append (IsPassing user.pid) passing.0 call.0 passing.2 (passes user came call.0 (subst (λ (u : User). StepNotes u (Ok came) call.0) same call.2)),
)

-- checkpoints, and then a call that noted nothing
pub passes_still : {S : Type 0} (notes : List BookEntry → S → S → Type 0) (P : BookEntry → Type 0) (before between now : S) → GoesInTurn notes → (passing : List BookEntry) × notes passing before between × All P passing
    → (entries : List BookEntry) × notes entries between now × (entries ≡ []) → (passing : List BookEntry) × notes passing before now × All P passing
passes_still notes P before between now in_turn passing call = (
  passing.0,
  subst (λ (es : List BookEntry). notes es before now) (ap (λ (es : List BookEntry). passing.0 ++ es) call.2 ∙ append-nil passing.0) (in_turn before between now passing.0 call.0 passing.1 call.1),
  passing.2,
)

-- checkpoints, and the last call by the cause of the end
pub closes : {S : Type 0} (notes : List BookEntry → S → S → Type 0) (who user : User) (cause : AuxiliaryEnd) (before between now : S) → GoesInTurn notes → who ≡ user
    → (passing : List BookEntry) × notes passing before between × All (IsPassing user.pid) passing → (last : List BookEntry) × notes last between now × ClosesBy who cause last
    → (noted : List BookEntry) × notes noted before now × Checkpoints user cause noted
closes notes who user cause before between now in_turn same passing last = (
  passing.0 ++ last.0,
  in_turn before between now passing.0 last.0 passing.1 last.1,
  record { passing = passing.0; last = last.0; each = passing.2; closes = subst (λ (u : User). ClosesBy u cause last.0) same last.2; noted_is = refl },
)

-- checkpoints, and then a refusal
pub closes_refused : {S : Type 0} (notes : List BookEntry → S → S → Type 0) (who user : User) (refusal : StoreNo) (before between now : S) → GoesInTurn notes → who ≡ user
    → (passing : List BookEntry) × notes passing before between × All (IsPassing user.pid) passing → (last : List BookEntry) × notes last between now × CheckpointNotes who false (Err refusal) last
    → (noted : List BookEntry) × notes noted before now × Checkpoints user (Refused refusal) noted
closes_refused notes who user refusal before between now in_turn same passing last =
    closes notes who user (Refused refusal) before between now in_turn same passing (last.0, last.1, refused_passing who refusal last.0 last.2)

pub same_newcomer : (stamp_before stamp_now : Option ℕ) (pid_before pid_now generation : ℕ) → stamp_now ≡ stamp_before → pid_now ≡ pid_before → newcomer stamp_now pid_now generation ≡ newcomer stamp_before pid_before generation
same_newcomer stamp_before stamp_now pid_before pid_now generation e f = rw (e, f) refl
