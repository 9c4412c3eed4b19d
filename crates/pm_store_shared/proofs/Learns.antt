-- What a token's calls learn of the disk.
use Rattle.std.{proofs.Common.{◌≡◌, inl, inr, ℕ, List, [], ◌++◌, Option, None, Some, refl, sym, ◌∙◌, ap, subst, append-nil}, specs.Prelude.{Result, Ok, IfOk, IfSome, ok_or, option_map}}
use Rattle.pm_disk.specs.declared.disk.Disk as Disk
use Rattle.pm_query.specs.{pm_facts.Bools.never_both, Calls.{DiskFact, unread_for, flushed_to, FlushNotes, LearnsFront, LearnsReason, MetLater, User}, declared.{book.BookEntry.BookEntry, store.StoreNo.{StoreNo, TheVariants.NoMemory}}, pm_record.declared.fault.RedoFault.RedoFault}
use Rattle.atomic_table.specs.Seated.{TableId}
use Rattle.pm_segment.specs.{pm_store_apart.declared.{apart.Apart.Apart, live.Live.Live, pass.Pass.Pass}, declared.segment.Segment.Segment, Fronts.flushed_of, Moment.{Moment, moment}, Redos.HasReason, Unread.has_break, pm_redo.Found.IsReason}
use Rattle.pm_store_shared.{specs.{declared.{place.Place.Place, views.{Lent.Lent, Noted.Noted}}, Behind.BehindAt, Laid.IsLaid, Learned.{IsUnread, Learned, WasFlushed}, Rule.taken, Stands.{Knows, Stands}, Told.{Seated, Tells, TokenModel, between, first_of, token_of}}, proofs.{Moving.{PlaceMoves, laid_behind, moved}, Stores.{Over, stands_over}}}

-- ---- behind the entries that a call found

unread_first : {D : Type 0} {g : Disk.Ghosts D} (first : D) (log : List BookEntry) (at : Moment) (fault : RedoFault) → BehindAt g first log at → IfSome at.files (IsReason fault) → IsUnread (g.seen first) log fault
unread_first {g = g} first log at fault behind reason = λ whole none. elim (behind.unread none).1 as (λ _. IfSome (g.seen first) (IsReason fault)) [
  | inl breaks ↦ absurd (never_both (has_break log) breaks whole)
  | inr same ↦ subst (λ f. IfSome f (IsReason fault)) same reason
]

-- where the store stands after them still, and tells it
told_first : {D B : Type 0} {g h : _} (first : D) (log : List BookEntry) (apart : Apart D B g h) (front : ℕ) (its : Live) → Over first log apart → apart.live ≡ Some its → front ≡ flushed_of its → WasFlushed g h first log front
told_first first log apart front its is read reached = record { log = log; within = ([], sym (append-nil log)); disk = is.disk; apart = apart; stood = is.behind; rests = is.rests; its = its; read = read; reached = reached }

told_by_live : {D B : Type 0} {g h : _} (first : D) (log : List BookEntry) (apart : Apart D B g h) (front : ℕ) (live : Option Live) → apart.live ≡ live → Over first log apart → ok_or (option_map flushed_of live) NoMemory ≡ Ok front → WasFlushed g h first log front
told_by_live first log apart front None read is done = absurd (cc)
told_by_live first log apart front (Some its) read is done = told_first first log apart front its is read cc

-- ---- at a seat that is known by equations

over_there : {D B : Type 0} {g h : _} {past : List BookEntry} {had : Option (Lent D)} (k : ℕ) (first : D) (own : List Noted) (ps : List Pass) (log : List BookEntry) (x : Place D B g h) (me : Seated (Place D B g h) D (Lent D))
    → me ≡ between k first own ps past had → Tells Stands Knows me.0 (taken log x) → Over first log x.apart
over_there {D} {B} {g} {h} k first own ps log x me is tells = stands_over first log x (subst (λ (m : Seated (Place D B g h) D (Lent D)). Tells Stands Knows m.0 (taken log x)) is tells).0.0

learned_there : {D B : Type 0} {g h : _} {past : List BookEntry} {had : Option (Lent D)} (k : ℕ) (first : D) (own : List Noted) (ps : List Pass) (log : List BookEntry) (id : TableId) (me : Seated (Place D B g h) D (Lent D)) (old : TokenModel D) (first_now : Option D) (past_now : List BookEntry) (fact : DiskFact)
    → token_of id k me.0 ≡ old → me ≡ between k first own ps past had → first_now ≡ old.first → past_now ≡ log → Learned g h (Some first) log fact → Learned g h first_now past_now fact
learned_there {D} {B} {g} {h} k first own ps log id me old first_now past_now fact view is same past_is known =
    let first_is : first_now ≡ Some first = same ∙ ap (λ (t : TokenModel D). t.first) (sym view) ∙ ap (λ (m : Seated (Place D B g h) D (Lent D)). first_of m.0) is in
    subst (λ (o : Option D). Learned g h o past_now fact) (sym first_is) (subst (λ l. Learned g h (Some first) l fact) (sym past_is) known)

-- ---- by a redo, by a flush, and by what the store tells

pub redo_learns : {D B : Type 0} {g h : _} {past : List BookEntry} {had : Option (Lent D)} (k : ℕ) (first : D) (own : List Noted) (ps : List Pass) (log : List BookEntry) (store : Segment D B g h) (x : Place D B g h) (id : TableId) (me : Seated (Place D B g h) D (Lent D)) (old : TokenModel D) (first_now : Option D) (past_now : List BookEntry)
    (result : Result ℕ StoreNo) → token_of id k me.0 ≡ old → me ≡ between k first own ps past had → Tells Stands Knows me.0 (taken log x) → IsLaid store x → HasReason (moment store).files result → first_now ≡ old.first → past_now ≡ log
    → LearnsReason (Learned g h first_now past_now) result
redo_learns {D} {B} {g} {h} k first own ps log store x id me old first_now past_now result view is tells laid reason same past_is = λ fault failed.
    let stands = (subst (λ (m : Seated (Place D B g h) D (Lent D)). Tells Stands Knows m.0 (taken log x)) is tells).0.0 in
    learned_there k first own ps log id me old first_now past_now (unread_for fault) view is same past_is (unread_first first log (moment store) fault (laid_behind first log store x stands.lent laid stands.is).1 (reason fault failed))

-- the log of the store, as the call leaves it, is flushed up to here
abbrev pub HasTold : {D B : Type 0} {g h : _} → Apart D B g h → ℕ → Type 0
HasTold apart front = (its : Live) × (apart.live ≡ Some its) × (front ≡ flushed_of its)

pub flush_learns : {D B : Type 0} {g h : _} {past : List BookEntry} {had : Option (Lent D)} (k : ℕ) (first : D) (own : List Noted) (ps : List Pass) (log : List BookEntry) (es : List BookEntry) (x x' : Place D B g h) (id : TableId) (me : Seated (Place D B g h) D (Lent D)) (old : TokenModel D) (first_now : Option D) (past_now : List BookEntry)
    (has : Option (Lent D)) (user : User) (result : Result ℕ StoreNo) → token_of id k me.0 ≡ old → me ≡ between k first own ps past had → Tells Stands Knows me.0 (taken log x) → FlushNotes user result es → PlaceMoves had has es x x' → IfOk result (HasTold x'.apart)
    → first_now ≡ old.first → past_now ≡ log → LearnsFront (Learned g h first_now past_now) result
flush_learns {D} {B} {g} {h} k first own ps log es x x' id me old first_now past_now has user result view is tells notes moves told same past_is = λ front done.
    let stands = (subst (λ (m : Seated (Place D B g h) D (Lent D)). Tells Stands Knows m.0 (taken log x)) is tells).0.0 in
    let now = moved _ has first log es x x' moves stands in
    let none : es ≡ [] = subst (λ r. FlushNotes user r es) done notes in
    let tells_it = subst (λ r. IfOk r (HasTold x'.apart)) done told in
    learned_there k first own ps log id me old first_now past_now (flushed_to front) view is same past_is
    (told_first first log x'.apart front tells_it.0 (subst (λ l. Over first l x'.apart) (ap (λ l. log ++ l) none ∙ append-nil log) now) tells_it.1 tells_it.2)

pub told_learns : {D B : Type 0} {g h : _} {past : List BookEntry} {had : Option (Lent D)} (k : ℕ) (first : D) (own : List Noted) (ps : List Pass) (log : List BookEntry) (x : Place D B g h) (id : TableId) (me : Seated (Place D B g h) D (Lent D)) (old : TokenModel D) (first_now : Option D) (past_now : List BookEntry)
    (result : Result ℕ StoreNo) → token_of id k me.0 ≡ old → me ≡ between k first own ps past had → Tells Stands Knows me.0 (taken log x) → result ≡ ok_or (option_map flushed_of x.apart.live) NoMemory → first_now ≡ old.first → past_now ≡ log
    → LearnsFront (Learned g h first_now past_now) result
told_learns k first own ps log x id me old first_now past_now result view is tells told same past_is = λ front done.
    learned_there k first own ps log id me old first_now past_now (flushed_to front) view is same past_is (told_by_live first log x.apart front x.apart.live refl (over_there k first own ps log x me is tells) (sym told ∙ done))

pub told_notes : (user : User) (flushed : Option ℕ) → FlushNotes user (ok_or flushed NoMemory) []
told_notes user None = refl
told_notes user (Some front) = refl

pub told_stale : (met generation : ℕ) (flushed : Option ℕ) → MetLater met generation (ok_or flushed NoMemory)
told_stale met generation None = tt
told_stale met generation (Some front) = tt
