-- Who began in the last generation of a journal, and that each of them has ended.
use Rattle.std.{proofs.Common.{◌≡◌, ◌⊎◌, inl, inr, ℕ, ◌+◌, ◌≤◌, Bool, true, false, cond, fold, length, map, List, [], ◌∷◌, ◌++◌, refl, sym, ap, subst, ◌∙◌, arith, append_assoc, append-nil}, specs.{Prelude.{is_none, nat_eq}, List.AllByRecursion}}
use Rattle.pm_serve_crew.specs.{pm_exit.declared.child.{Kind.Kind, Status.Status}, pm_supervisor.{Children.{Child, without}, Shared.reopened, Supervisor.Shared}, pm_state.{declared.{action.Action.Action, event.PmEvent.PmEvent}, Journal.{AreLegal, Do, Due, EndRedo, Fits, FitsFirst, Follows, FollowsIn, Replay, all_replayed, replayed}}, pm_supervisor_chain.Chain.resets_of, pm_board_acts.Seating.{Begun, begins}}
use Rattle.pm_serve_crew.specs.pm_supervisor.Steps as supervisor
use Rattle.pm_serve_crew.specs.pm_state.declared.action.Action.TheVariants as act
use Rattle.pm_serve_crew.specs.pm_state.declared.event.PmEvent.TheVariants as entry
use Rattle.pm_store_remains.proofs.pm_state.ReplayLaws.{legal_behind, legal_front, replayed_append}
use Rattle.pm_serve_clean_end.specs.{Among.{IsIn, in_back, in_either, in_front}, Latest.{latest, latest_after}}

-- ---- generations

abbrev pub generation_after : ℕ → PmEvent → ℕ
generation_after before (entry.Reset generation) = generation
generation_after before _ = before

-- the generation after these entries
abbrev pub generation_behind : Replay → List PmEvent → ℕ
generation_behind r journal = (all_replayed r journal).shown.generation

abbrev IsNoReset : PmEvent → Type 0
IsNoReset (entry.Reset generation) = ⊥
IsNoReset _ = Unit {0}

abbrev NoResets : List PmEvent → Type 0
NoResets journal = AllByRecursion IsNoReset journal

open_same : (s : Shared) (opens : Bool) → (reopened opens s).generation ≡ s.generation
open_same s true = refl
open_same s false = refl

-- the generation rises by one at each Reset, and stays at each other entry
pub record Rises (r : Replay) (e : PmEvent) : Type 0 where
  pub up : r.shown.generation ≤ (replayed r e).shown.generation
  pub same : (replayed r e).shown.generation ≡ r.shown.generation → IsNoReset e
  pub counted : (replayed r e).shown.generation ≡ r.shown.generation + length (resets_of (e ∷ []))

stays : (r : Replay) (e : PmEvent) → (replayed r e).shown.generation ≡ r.shown.generation → length (resets_of (e ∷ [])) ≡ 0 → IsNoReset e → Rises r e
stays r e is none plain = record { up = omega (arith, is); same = λ any. plain; counted = omega (arith, is, none) }

rises : (r : Replay) (e : PmEvent) → Rises r e
rises r (entry.Reset generation) = record { up = omega arith; same = λ is. absurd (omega (arith, is)); counted = refl }
rises r (entry.RedoEnded generation kept) = stays r (entry.RedoEnded generation kept) (open_same r.shown (is_none r.machine.shutdown)) refl tt
rises r e = stays r e refl refl tt

pub generations_up : (r : Replay) (journal : List PmEvent) → r.shown.generation ≤ generation_behind r journal
generations_up r [] = omega arith
generations_up r (e ∷ journal) = (let one = (rises r e).up in let rest = generations_up (replayed r e) journal in omega (arith, one, rest))

no_resets : (r : Replay) (journal : List PmEvent) → generation_behind r journal ≡ r.shown.generation → NoResets journal
no_resets r [] same = tt
no_resets r (e ∷ journal) same =
    let one = (rises r e).up in
    let rest = generations_up (replayed r e) journal in
    let stays_here : (replayed r e).shown.generation ≡ r.shown.generation = omega (arith, one, rest, same) in
    ((rises r e).same stays_here, no_resets (replayed r e) journal (same ∙ sym stays_here))

resets_append : (e : PmEvent) (journal : List PmEvent) → length (resets_of (e ∷ journal)) ≡ length (resets_of (e ∷ [])) + length (resets_of journal)
resets_append (entry.Reset generation) journal = omega arith
resets_append e journal = omega arith

-- the last generation has as many before it as there are Resets
pub generations_counted : (r : Replay) (journal : List PmEvent) → generation_behind r journal ≡ r.shown.generation + length (resets_of journal)
generations_counted r [] = omega arith
generations_counted r (e ∷ journal) =
    let one = (rises r e).counted in
    let rest = generations_counted (replayed r e) journal in
    omega (arith, one, rest, resets_append e journal)

-- ---- a Reset and an end of redo name the right generation

-- the entry names the generation that it leaves
abbrev Names : Replay → PmEvent → Type 0
Names r e = generation_after r.shown.generation e ≡ (replayed r e).shown.generation

-- an end of redo names the generation that it meets
abbrev IsOfHere : Replay → PmEvent → Type 0
IsOfHere r (entry.RedoEnded generation kept) = generation ≡ r.shown.generation
IsOfHere r (entry.Reset generation) = generation ≡ r.shown.generation + 1
IsOfHere r _ = Unit {0}

fits_here : (r : Replay) (d : Due) (e : PmEvent) → Fits r.shown d e → IsOfHere r e
fits_here r (Do act.Reset) (entry.Reset generation) fits = fits
fits_here r EndRedo (entry.RedoEnded generation kept) fits = fits
fits_here r (Do (act.Start k)) (entry.Started pid given) fits = tt
fits_here r (Do (act.Quit why)) (entry.QuitSent reason) fits = tt
fits_here r (Do act.Terminate) entry.TerminateSent fits = tt
fits_here r (Do act.AskCheckpoint) entry.CheckpointAsked fits = tt
fits_here r (Do act.Ready) (entry.Ready generation) fits = tt
fits_here r (Do (act.Say line)) (entry.Said written) fits = tt
fits_here r (Do (act.End how)) (entry.Ended given) fits = tt
fits_here r d e fits = absurd fits

first_here : (r : Replay) (acts : List Action) (e : PmEvent) → FitsFirst r.shown acts e → IsOfHere r e
first_here r [] e fits = absurd fits
first_here r (a ∷ acts) e fits = fits_here r (Do a) e fits

follows_here : (gives : ℕ → Bool) (r : Replay) (due : List Due) (e : PmEvent) → FollowsIn due gives r e → IsOfHere r e
follows_here gives r (d ∷ ds) e fits = fits_here r d e fits
follows_here gives r [] (entry.Accepted pid decision) may = tt
follows_here gives r [] (entry.Exited pid k status was_active at) may = tt
follows_here gives r [] (entry.Asked mode at) may = tt
follows_here gives r [] (entry.KillAsked pid) may = tt
follows_here gives r [] (entry.KillSent at) may = tt
follows_here gives r [] e may = first_here r _ e may.2

names_here : (r : Replay) (e : PmEvent) → IsOfHere r e → Names r e
names_here r (entry.Reset generation) here = here
names_here r (entry.RedoEnded generation kept) here = sym (open_same r.shown (is_none r.machine.shutdown))
names_here r e here = refl

pub names : (gives : ℕ → Bool) (r : Replay) (e : PmEvent) → Follows gives r e → Names r e
names gives r e follows = names_here r e (follows_here gives r r.due e follows)

-- ---- who began

-- the children that began, with their generations
abbrev pub begun_in : ℕ → List PmEvent → List Begun
begun_in generation [] = []
begun_in generation (e ∷ journal) = begins generation e ++ begun_in (generation_after generation e) journal

-- the child with this pid has ended, by these entries
pub record HasEnded (pid : ℕ) (entries : List PmEvent) : Type 0 where
  pub kind : Kind
  pub status : Status
  pub was_active : Bool
  pub at : ℕ
  pub there : IsIn (entry.Exited pid kind status was_active at) entries

later : (pid : ℕ) (e : PmEvent) (journal : List PmEvent) → HasEnded pid journal → HasEnded pid (e ∷ journal)
later pid e journal ended = record { kind = ended.kind; status = ended.status; was_active = ended.was_active; at = ended.at; there = inr ended.there }

abbrev pids_of : List Child → List ℕ
pids_of cs = map (λ (c : Child). c.pid) cs

-- it stays there until it ends
stays_there : (pid other : ℕ) (cs : List Child) → nat_eq other pid ≡ false → IsIn pid (pids_of cs) → IsIn pid (pids_of (without other cs))
stays_there pid other [] differ there = absurd there
stays_there pid other (c ∷ cs) differ there = by (nat_eq c.pid other) refl (λ more. stays_there pid other cs differ more) there
  where
    by : (b : Bool) → nat_eq c.pid other ≡ b → (IsIn pid (pids_of cs) → IsIn pid (pids_of (without other cs))) → IsIn pid (pids_of (c ∷ cs))
        → IsIn pid (pids_of (cond b cs (c ∷ without other cs)))
    by true is more (inl same) = absurd (grind (arith, is, same, differ))
    by true is more (inr there) = there
    by false is more (inl same) = inl same
    by false is more (inr there) = inr (more there)

children_same : (s : Shared) (opens : Bool) → (reopened opens s).children ≡ s.children
children_same s true = refl
children_same s false = refl

-- an end of a child is that of this one, or this one is there after it
abbrev EndsOrStays : ℕ → Replay → PmEvent → Type 0
EndsOrStays pid r e = IsIn pid (pids_of r.shown.children) → HasEnded pid (e ∷ []) ⊎ IsIn pid (pids_of (replayed r e).shown.children)

ends_or_stays : (pid : ℕ) (r : Replay) (e : PmEvent) → EndsOrStays pid r e
ends_or_stays pid r (entry.Exited other k status was_active at) there = by (nat_eq other pid) refl
  where
    by : (b : Bool) → nat_eq other pid ≡ b
        → HasEnded pid (entry.Exited other k status was_active at ∷ []) ⊎ IsIn pid (pids_of (without other r.shown.children))
    by true is = inl (record {
      kind = k;
      status = status;
      was_active = was_active;
      at = at;
      there = inl (let same : pid ≡ other = grind (arith, is) in ap (λ (n : ℕ). entry.Exited n k status was_active at) same);
    })
    by false is = inr (stays_there pid other r.shown.children is there)
ends_or_stays pid r (entry.Accepted other decision) there = inr (inr there)
ends_or_stays pid r (entry.Started other k) there = inr (inr there)
ends_or_stays pid r (entry.RedoEnded generation kept) there =
    inr (subst (λ (cs : List Child). IsIn pid (pids_of cs)) (sym (children_same r.shown (is_none r.machine.shutdown))) there)
ends_or_stays pid r e there = inr there

-- whoever is there at first, and not at the end, has ended
pub must_end : (pid : ℕ) (r : Replay) (journal : List PmEvent) → (all_replayed r journal).shown.children ≡ [] → IsIn pid (pids_of r.shown.children) → HasEnded pid journal
must_end pid r [] nobody there = absurd (subst (λ (cs : List Child). IsIn pid (pids_of cs)) nobody there)
must_end pid r (e ∷ journal) nobody there = by (ends_or_stays pid r e there) (λ stays. must_end pid (replayed r e) journal nobody stays)
  where
    by : HasEnded pid (e ∷ []) ⊎ IsIn pid (pids_of (replayed r e).shown.children) → (IsIn pid (pids_of (replayed r e).shown.children) → HasEnded pid journal) → HasEnded pid (e ∷ journal)
    by (inl ended) more = record { kind = ended.kind; status = ended.status; was_active = ended.was_active; at = ended.at; there = in_front _ (e ∷ []) journal ended.there }
    by (inr stays) more = later pid e journal (more stays)

-- ---- in the last generation

latest_all : (entries journal : List PmEvent) → NoResets journal → fold latest_after entries journal ≡ entries ++ journal
latest_all entries [] none = sym (append-nil entries)
latest_all entries (e ∷ journal) none =
    ap (λ (l : List PmEvent). fold latest_after l journal) (one e none.0)
    ∙ latest_all (entries ++ e ∷ []) journal none.1
    ∙ append_assoc entries (e ∷ []) journal
  where
    one : (x : PmEvent) → IsNoReset x → latest_after entries x ≡ entries ++ x ∷ []
    one (entry.Reset generation) plain = absurd plain
    one x plain = refl

-- a child that begins here is there after the entry
begins_there : (r : Replay) (e : PmEvent) (b : Begun) → IsIn b (begins r.shown.generation e) → (b.generation ≡ r.shown.generation) × IsNoReset e × IsIn b.pid (pids_of (replayed r e).shown.children)
begins_there r (entry.Started pid k) b (inl is) = (ap (λ (x : Begun). x.generation) is, tt, inl (ap (λ (x : Begun). x.pid) is))
begins_there r (entry.Accepted pid decision) b (inl is) = (ap (λ (x : Begun). x.generation) is, tt, inl (ap (λ (x : Begun). x.pid) is))
begins_there r (entry.Started pid k) b (inr there) = absurd there
begins_there r (entry.Accepted pid decision) b (inr there) = absurd there
begins_there r e b there = absurd there

wider : (pid : ℕ) (entries journal : List PmEvent) → HasEnded pid journal → HasEnded pid (entries ++ journal)
wider pid entries journal ended =
    record { kind = ended.kind; status = ended.status; was_active = ended.was_active; at = ended.at; there = in_back _ entries journal ended.there }

in_latest : (pid : ℕ) (entries journal : List PmEvent) → NoResets journal → HasEnded pid journal → HasEnded pid (fold latest_after entries journal)
in_latest pid entries journal none ended = subst (HasEnded pid) (sym (latest_all entries journal none)) (wider pid entries journal ended)

-- Whoever began in the last generation has ended in it.
pub ended_in_last : (gives : ℕ → Bool) (r : Replay) (entries journal : List PmEvent) (b : Begun) → AreLegal gives r journal → (all_replayed r journal).shown.children ≡ []
    → IsIn b (begun_in r.shown.generation journal) → b.generation ≡ generation_behind r journal → HasEnded b.pid (fold latest_after entries journal)
ended_in_last gives r entries [] b legal nobody there last = absurd there
ended_in_last gives r entries (e ∷ journal) b legal nobody there last =
    by (in_either b (begins r.shown.generation e) (begun_in (generation_after r.shown.generation e) journal) there)
    (λ more. ended_in_last gives (replayed r e) (latest_after entries e) journal b legal.1 nobody
    (subst (λ (g : ℕ). IsIn b (begun_in g journal)) (names gives r e legal.0) more) last)
  where
    by : IsIn b (begins r.shown.generation e) ⊎ IsIn b (begun_in (generation_after r.shown.generation e) journal)
        → (IsIn b (begun_in (generation_after r.shown.generation e) journal) → HasEnded b.pid (fold latest_after (latest_after entries e) journal))
        → HasEnded b.pid (fold latest_after (latest_after entries e) journal)
    by (inr more) rest = rest more
    by (inl here) rest =
        let began = begins_there r e b here in
        let up = (rises r e).up in
        let on = generations_up (replayed r e) journal in
        let none : NoResets journal = no_resets (replayed r e) journal (let one = began.0 in omega (arith, up, on, one, last)) in
        in_latest b.pid (latest_after entries e) journal none (must_end b.pid (replayed r e) journal nobody began.2)

-- ---- an entry of the last generation

-- it stands in the journal, with no Reset after it
pub record IsLatest (x : PmEvent) (journal : List PmEvent) : Type 0 where
  pub before : List PmEvent
  pub behind : List PmEvent
  pub is : journal ≡ before ++ x ∷ behind
  pub none : NoResets behind

-- or it stands among those so far, with no Reset after them
abbrev StaysOr : PmEvent → (entries journal : List PmEvent) → Type 0
StaysOr x entries journal = (IsIn x entries × NoResets journal) ⊎ IsLatest x journal

one_more : (x e : PmEvent) (entries : List PmEvent) → IsIn x (latest_after entries e) → IsNoReset e × (IsIn x entries ⊎ (x ≡ e))
one_more x (entry.Reset generation) entries there = absurd there
one_more x e entries there = (tt, which (in_either x entries (e ∷ []) there))
  where
    which : IsIn x entries ⊎ IsIn x (e ∷ []) → IsIn x entries ⊎ (x ≡ e)
    which (inl before) = inl before
    which (inr (inl same)) = inr same
    which (inr (inr never)) = absurd never

place_on : (x : PmEvent) (entries journal : List PmEvent) → IsIn x (fold latest_after entries journal) → StaysOr x entries journal
place_on x entries [] there = inl (there, tt)
place_on x entries (e ∷ journal) there = by (place_on x (latest_after entries e) journal there)
  where
    by : StaysOr x (latest_after entries e) journal → StaysOr x entries (e ∷ journal)
    by (inr place) = inr (record { before = e ∷ place.before; behind = place.behind; is = ap (λ (l : List PmEvent). e ∷ l) place.is; none = place.none })
    by (inl stands) = (let one = one_more x e entries stands.0 in here one.0 stands.1 one.1)
      where
        here : IsNoReset e → NoResets journal → IsIn x entries ⊎ (x ≡ e) → StaysOr x entries (e ∷ journal)
        here plain none (inl before) = inl (before, (plain, none))
        here plain none (inr same) = inr (record { before = []; behind = journal; is = ap (λ (y : PmEvent). y ∷ journal) (sym same); none = none })

pub latest_place : (x : PmEvent) (journal : List PmEvent) → IsIn x (latest journal) → IsLatest x journal
latest_place x journal there = by (place_on x [] journal there)
  where
    by : StaysOr x [] journal → IsLatest x journal
    by (inr place) = place
    by (inl never) = absurd never.0

-- it stands in the whole journal
pub in_journal : (x : PmEvent) (journal : List PmEvent) → IsIn x (latest journal) → IsIn x journal
in_journal x journal there =
    let place : IsLatest x journal = latest_place x journal there in subst (IsIn x) (sym place.is) (in_back x place.before (x ∷ place.behind) (inl refl))

none_counted : (journal : List PmEvent) → NoResets journal → length (resets_of journal) ≡ 0
none_counted [] none = refl
none_counted (entry.Reset generation ∷ journal) none = absurd none.0
none_counted (e ∷ journal) none = none_counted journal none.1

none_behind : (r : Replay) (journal : List PmEvent) → NoResets journal → generation_behind r journal ≡ r.shown.generation
none_behind r journal none = (let counted = generations_counted r journal in omega (arith, counted, none_counted journal none))

names_all : (gives : ℕ → Bool) (r : Replay) (journal : List PmEvent) → AreLegal gives r journal → fold generation_after r.shown.generation journal ≡ generation_behind r journal
names_all gives r [] legal = refl
names_all gives r (e ∷ journal) legal = ap (λ (g : ℕ). fold generation_after g journal) (names gives r e legal.0) ∙ names_all gives (replayed r e) journal legal.1

pub begun_append : (generation : ℕ) (xs ys : List PmEvent) → begun_in generation (xs ++ ys) ≡ begun_in generation xs ++ begun_in (fold generation_after generation xs) ys
begun_append generation [] ys = refl
begun_append generation (x ∷ xs) ys =
    ap (λ (l : List Begun). begins generation x ++ l) (begun_append (generation_after generation x) xs ys)
    ∙ sym (append_assoc (begins generation x) (begun_in (generation_after generation x) xs) (begun_in (fold generation_after (generation_after generation x) xs) ys))

-- the generation at such an entry is the last one
at_last : (r : Replay) (x : PmEvent) (journal : List PmEvent) (place : IsLatest x journal) → IsNoReset x → generation_behind r journal ≡ generation_behind r place.before
at_last r x journal place plain =
    ap (generation_behind r) place.is
    ∙ ap (λ (q : Replay). q.shown.generation) (replayed_append r place.before (x ∷ place.behind))
    ∙ none_behind (all_replayed r place.before) (x ∷ place.behind) (plain, place.none)

-- A child that was started in the last generation began in it.
pub began_in_last : (gives : ℕ → Bool) (r : Replay) (journal : List PmEvent) (pid : ℕ) (k : Kind) → AreLegal gives r journal → IsIn (entry.Started pid k) (latest journal)
    → IsIn (record { pid = pid; kind = k; generation = generation_behind r journal }) (begun_in r.shown.generation journal)
began_in_last gives r journal pid k legal there =
    let place : IsLatest (entry.Started pid k) journal = latest_place (entry.Started pid k) journal there in
    let front : AreLegal gives r place.before = legal_front gives r place.before (entry.Started pid k ∷ place.behind) (subst (AreLegal gives r) place.is legal) in
    let same : generation_behind r journal ≡ fold generation_after r.shown.generation place.before =
    at_last r (entry.Started pid k) journal place tt ∙ sym (names_all gives r place.before front) in
    subst (λ (l : List PmEvent). IsIn (record { pid = pid; kind = k; generation = generation_behind r journal }) (begun_in r.shown.generation l)) (sym place.is)
    (subst (IsIn (record { pid = pid; kind = k; generation = generation_behind r journal })) (sym (begun_append r.shown.generation place.before (entry.Started pid k ∷ place.behind)))
    (in_back _ (begun_in r.shown.generation place.before) _ (inl (ap (λ (g : ℕ). record { pid = pid; kind = k; generation = g }) same))))

-- An end of redo in the last generation names it.
pub redo_in_last : (gives : ℕ → Bool) (r : Replay) (journal : List PmEvent) (generation kept : ℕ) → AreLegal gives r journal → IsIn (entry.RedoEnded generation kept) (latest journal)
    → generation ≡ generation_behind r journal
redo_in_last gives r journal generation kept legal there =
    let place : IsLatest (entry.RedoEnded generation kept) journal = latest_place (entry.RedoEnded generation kept) journal there in
    let on = legal_behind gives r place.before (entry.RedoEnded generation kept ∷ place.behind) (subst (AreLegal gives r) place.is legal) in
    let here : generation ≡ generation_behind r place.before =
    follows_here gives (all_replayed r place.before) (all_replayed r place.before).due (entry.RedoEnded generation kept) on.0 in
    here ∙ sym (at_last r (entry.RedoEnded generation kept) journal place tt)
