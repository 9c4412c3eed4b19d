-- What a token's calls owe as they give the store back, and what they come to.
use Rattle.std.{proofs.{Common.{◌≡◌, ◌≢◌, ◌⊎◌, inl, inr, ℕ, ◌+◌, ◌-◌, ◌<◌, ◌≤◌, ◌==◌, ◌&&◌, Bool, true, false, cond, List, [], ◌∷◌, ◌++◌, length, Option, None, Some, refl, sym, ◌∙◌, ap, subst, arith, append-nil}, lemmas.{Bool.{Decides.nat_tests, eq-eqb}, List.Quantifiers.Any-push}}, specs.Prelude.{Result, Ok, Err, OnErr, IfOk, Any, nat_eq}}
use Rattle.pm_query.specs.{pm_sql.declared.stmt.Stmt.Stmt, declared.{book.BookEntry.{BookEntry, TheVariants.{Answered, Attached, Detached}}, store.{Staged.Staged, StoreNo.{StoreNo, TheVariants.{Stale, Disk, Broken, Full, Redo, NoMemory}}}}, Book.{AnswersUpTo, generation_of, present, times_attached}, Calls.{PassView, EnterNotes, NotesFault, NotesLostAnswer, RunNotes, LeaveNotes, new_pass, newcomer, user_of, with_front}}
use Rattle.atomic_table.specs.Seated.{TableId}
use Rattle.pm_segment.specs.{pm_store_apart.declared.pass.Pass.Pass, Moment.alone, Passes.{Admits, HasAnswer, view_of}}
use Rattle.pm_store_shared.{specs.{declared.{place.Place.Place, views.{Noted.Noted, Taken.Taken, Hand.Hand, Lent.Lent, View.{View, TheVariants.Worker}}}, Grows.{Grew, NotesLeave, passes_entered}, GrowsLaws.entries_noted, Log.{AllOwn, Continues, noted_from}, Passes.{Among, live, renewed_pass, without_pass}, Quiet.AllQuiet, Rule.taken, Stands.{Knows, Stands}, Told.{HandMay, MayGive, Seated, Tells, TokenModel, TookFor, Turns, first_of, given_back, is_own_of, passes_of, past_of, between, resting, token_of, with_held, TellsHand}}, proofs.{Logs.{among_live, among-snoc, among_up_to, known_at, known_less, known_on, known_snoc, live-less, live-snoc, up_to-less, up_to-snoc}, Moving.PlaceMoves, Stores.{admits_known, answer_on, generation_on, knows_moves, present_on, quiet_own, quiet_times, stands_in, times_on}, Unchanged.turns_none}}

-- ---- what the calls note

quiet_by : (es fs : List BookEntry) → es ≡ fs → AllQuiet fs → AllQuiet es
quiet_by es fs is q = subst AllQuiet (sym is) q

fault_quiet : (pid : ℕ) (script : List Stmt) (es : List BookEntry) → NotesFault pid es ⊎ NotesLostAnswer pid script es → AllQuiet es
fault_quiet pid script es (inl fault) = quiet_by es _ fault.2 (tt, tt)
fault_quiet pid script es (inr lost) = quiet_by es _ (lost.entries_are ∙ (λ i. lost.answer.entries_are i ++ lost.fault.2 i)) (tt, (tt, tt))

pub run_quiet : (v : PassView) (g : Option ℕ) (script : List Stmt) (r : Result Staged StoreNo) (es : List BookEntry) → RunNotes (user_of g v) script r es → AllQuiet es
run_quiet v g script (Ok staged) es notes = quiet_by es _ notes.answer.entries_are (tt, tt)
run_quiet v g script (Err (Stale mine found)) es notes = quiet_by es _ notes.1 tt
run_quiet v g script (Err Disk) es notes = fault_quiet v.pid script es notes.1
run_quiet v g script (Err (Broken since)) es notes = quiet_by es _ notes.1 (tt, tt)
run_quiet v g script (Err (Full need room)) es notes = quiet_by es _ notes.1 (tt, tt)
run_quiet v g script (Err (Redo fault)) es notes = absurd notes
run_quiet v g script (Err NoMemory) es notes = quiet_by es _ notes tt

-- so it is for who may meet another generation
pub run_free : (v : PassView) (g : Option ℕ) (script : List Stmt) (r : Result Staged StoreNo) (es : List BookEntry) → RunNotes (user_of g v) script r es → RunNotes (user_of None v) script r es
run_free v g script (Ok staged) es notes = notes
run_free v g script (Err (Stale mine found)) es notes = (tt, notes.1)
run_free v g script (Err Disk) es notes = notes
run_free v g script (Err (Broken since)) es notes = notes
run_free v g script (Err (Full need room)) es notes = notes
run_free v g script (Err (Redo fault)) es notes = absurd notes
run_free v g script (Err NoMemory) es notes = notes

pub enter_free : (pid generation : ℕ) (g : Option ℕ) (r : Result Pass StoreNo) (es : List BookEntry) → EnterNotes (newcomer g pid generation) r es → EnterNotes (newcomer None pid generation) r es
enter_free pid generation g (Ok pass) es notes = notes
enter_free pid generation g (Err (Stale mine found)) es notes = (tt, notes.1)
enter_free pid generation g (Err Disk) es notes = absurd notes
enter_free pid generation g (Err (Broken since)) es notes = absurd notes
enter_free pid generation g (Err (Full need room)) es notes = absurd notes
enter_free pid generation g (Err (Redo fault)) es notes = absurd notes
enter_free pid generation g (Err NoMemory) es notes = notes

-- ---- passes

cond_and : (b c : Bool) → c ≡ true → ◌≡◌ {A = ℕ} (cond (b && c) 1 0) (cond b 1 0)
cond_and true c is = ap (λ z. cond {A = ℕ} z 1 0) is
cond_and false c is = refl

live_renewed : (q g : ℕ) (before now : Pass) (ps : List Pass) → before.generation ≡ g → now.pid ≡ before.pid → now.generation ≡ before.generation → Among before ps → live q g (renewed_pass before now ps) ≡ live q g ps
live_renewed q g before now ps gen pid same in_ =
    let some : 0 < live before.pid g ps = subst (λ z. 0 < live before.pid z ps) gen (among_live before ps in_) in
    let less : live q g (without_pass before.pid g ps) + cond (before.pid == q) 1 0 ≡ live q g ps = live-less q before.pid g ps some in
    let one : ◌≡◌ {A = ℕ} (cond ((now.pid == q) && (now.generation == g)) 1 0) (cond (before.pid == q) 1 0) =
    cond_and (now.pid == q) (now.generation == g) (ap (λ z. z == g) (same ∙ gen) ∙ eq-eqb g g refl) ∙ ap (λ z. cond {A = ℕ} (z == q) 1 0) pid in
    ap (λ z. live q g (without_pass before.pid z ps ++ now ∷ [])) gen ∙ live-snoc q g (without_pass before.pid g ps) now ∙ (λ i. live q g (without_pass before.pid g ps) + one i) ∙ less

turns_quiet : (log es : List BookEntry) (before now : Pass) (ps : List Pass) → AllQuiet es → before.generation ≡ generation_of log → now.pid ≡ before.pid → now.generation ≡ before.generation → Among before ps → Turns log es ps (renewed_pass before now ps)
turns_quiet log es before now ps quiet gen pid same in_ = record {
  same = generation_on log es (quiet_own es quiet);
  known = λ a. up_to-snoc (generation_of log) (without_pass before.pid before.generation ps) now (omega (arith, same, gen)) (up_to-less before.pid before.generation (generation_of log) ps a);
  fair = λ p. λ i. (times_on log es p ∙ quiet_times p (times_attached log p) es quiet) i + sym (live_renewed p (generation_of log) before now ps gen pid same in_) i;
}

-- ---- a store is given back after a call by which nobody comes or goes

abbrev pub hand_holding : {S F L : Type 0} → ℕ → F → List Noted → List Pass → Option L → Taken S → Hand S F L
hand_holding k first own ps had t = record { number = k; first = first; own = own; passes = ps; past = t.log; held = Some t; lent = had }

pub may_quiet : {D B : Type 0} {g h : _} {had has : Option (Lent D)} (told : List BookEntry → Type 0) (k : ℕ) (first : D) (own : List Noted) (ps : List Pass) (log : List BookEntry) (x x' : Place D B g h) (before now : Pass) (es : List BookEntry)
    → TellsHand Stands Knows had first ps (taken log x) → told es → AllQuiet es → PlaceMoves had has es x x' → Among before ps → before.generation ≡ x.apart.generation → now.pid ≡ before.pid → now.generation ≡ before.generation
    → Knows (log ++ es) x' now → HandMay Stands Knows told (renewed_pass before now ps) has (hand_holding k first own ps had (taken log x)) x'
may_quiet told k first own ps log x x' before now es tells is_told quiet moves in_ gen pid same knows =
    let all_own = quiet_own es quiet in
    let gen' : before.generation ≡ generation_of log = gen ∙ sym (stands_in first log x tells.0) in record {
      was = taken log x;
      added = es;
      held = refl;
      is_told = is_told;
      own = all_own;
      step = record {
        turns = turns_quiet log es before now ps quiet gen' pid same in_;
        stands = λ f. moves.stands f log;
        others = λ p e known. knows_moves log es x x' p all_own (moves.staged p.front) known;
        mine = known_snoc (Knows (log ++ es) x') (generation_of log) (without_pass before.pid before.generation ps) now
            (known_less (Knows (log ++ es) x') (generation_of log) before.pid before.generation ps
            (known_on (Knows log x) (Knows (log ++ es) x') (generation_of log) ps (λ p e known. knows_moves log es x x' p all_own (moves.staged p.front) known) tells.1)) (λ e. knows);
      };
    }

-- ---- what a token shows then

module _ {S F L : Type 0} where
  pub given_is : {past : List BookEntry} {had : Option L} (k : ℕ) (first : F) (own : List Noted) (ps ps' : List Pass) (t : Taken S) (es : List BookEntry) (has : Option L) (me me' me'' : Seated S F L) (c c' : List (ℕ × Option S)) → me ≡ between k first own ps past had → me' ≡ (with_held me.0 (Some t), c)
      → me'' ≡ (given_back me'.0 es ps' has, c') → me''.0 ≡ Worker record { number = k; first = first; own = own ++ noted_from (length t.log) es; passes = ps'; past = t.log; held = None; lent = has }
  given_is k first own ps ps' t es has me me' me'' c c' is was now =
      ap (λ (m : Seated S F L). m.0) now ∙ ap (λ (m : Seated S F L). given_back m.0 es ps' has) was ∙ ap (λ (m : Seated S F L). given_back (with_held m.0 (Some t)) es ps' has) is

  pub grew_by : {past past' : List BookEntry} {had has : Option L} (id id' : TableId) (k : ℕ) (first : F) (own : List Noted) (ps ps' : List Pass) (n : ℕ) (es : List BookEntry) (me me'' : Seated S F L) (old : TokenModel F) → token_of id k me.0 ≡ old → id' ≡ id → me ≡ between k first own ps past had
      → me''.0 ≡ Worker record { number = k; first = first; own = own ++ noted_from n es; passes = ps'; past = past'; held = None; lent = has } → Continues past past' → Grew es old (token_of id' k me''.0)
  grew_by {past} {past'} id id' k first own ps ps' n es me me'' old view_is same is now rises =
      let old_is : old ≡ record { table = id; number = k; first = Some first; own = own; passes = ps; past = past } = sym view_is ∙ ap (λ (m : Seated S F L). token_of id k m.0) is in record {
        table = same ∙ sym (ap (λ (t : TokenModel F). t.table) old_is);
        number = sym (ap (λ (t : TokenModel F). t.number) old_is);
        first = ap first_of now ∙ sym (ap (λ (t : TokenModel F). t.first) old_is);
        added = noted_from n es;
        own = ap is_own_of now ∙ ap (λ l. l ++ noted_from n es) (sym (ap (λ (t : TokenModel F). t.own) old_is));
        added_are = entries_noted n es;
        past = subst (λ l. Continues l (past_of me''.0)) (sym (ap (λ (t : TokenModel F). t.past) old_is)) (subst (Continues past) (sym (ap past_of now)) rises);
      }

  pub passes_are : {past : List BookEntry} {has : Option L} (k : ℕ) (first : F) (own : List Noted) (ps' : List Pass) (me'' : Seated S F L) → me''.0 ≡ Worker record { number = k; first = first; own = own; passes = ps'; past = past; held = None; lent = has } → passes_of me''.0 ≡ ps'
  passes_are k first own ps' me'' now = ap passes_of now

  -- a store that was given back as it was taken
  pub gave_unchanged : {past : List BookEntry} (k : ℕ) (first : F) (own : List Noted) (ps : List Pass) (t : Taken S) (es : List BookEntry) (me me' me'' : Seated S F L) (c : List (ℕ × Option S)) → me ≡ resting k first own ps past → me' ≡ (with_held me.0 (Some t), c)
      → es ≡ [] → me'' ≡ (given_back me'.0 es (passes_of me'.0) None, []) → me'' ≡ (given_back (with_held me.0 (Some t)) [] (passes_of me.0) None, [])
  gave_unchanged k first own ps t es me me' me'' c is was none now =
      let same : passes_of (with_held me.0 (Some t)) ≡ passes_of me.0 = ap (λ (m : Seated S F L). passes_of (with_held m.0 (Some t))) is ∙ sym (ap (λ (m : Seated S F L). passes_of m.0) is) in
      now ∙ (λ i. (given_back me'.0 (none i) (passes_of me'.0) None, [])) ∙ ap (λ (m : Seated S F L). (given_back m.0 [] (passes_of m.0) None, [])) was ∙ (λ i. (given_back (with_held me.0 (Some t)) [] (same i) None, []))

  pub past_is : {past : List BookEntry} {has : Option L} (k : ℕ) (first : F) (own : List Noted) (ps' : List Pass) (me'' : Seated S F L) → me''.0 ≡ Worker record { number = k; first = first; own = own; passes = ps'; past = past; held = None; lent = has } → past_of me''.0 ≡ past
  past_is k first own ps' me'' now = ap past_of now

-- ---- at a seat that is known by equations
-- what a token finds begins with what it found
pub past_goes_on : {D B : Type 0} {g h : _} {past : List BookEntry} {had : Option (Lent D)} (k : ℕ) (first : D) (own : List Noted) (ps : List Pass) (log : List BookEntry) (x : Place D B g h) (me : Seated (Place D B g h) D (Lent D))
    → me ≡ between k first own ps past had → Tells Stands Knows me.0 (taken log x) → Continues past log
past_goes_on {D} {B} {g} {h} k first own ps log x me is tells = (subst (λ (m : Seated (Place D B g h) D (Lent D)). Tells Stands Knows m.0 (taken log x)) is tells).1

-- the generation that it meets is the store's, before a call and after it
pub met_there : {D B : Type 0} {g h : _} {past : List BookEntry} {had : Option (Lent D)} (k : ℕ) (first : D) (own : List Noted) (ps : List Pass) (log : List BookEntry) (x : Place D B g h) (me : Seated (Place D B g h) D (Lent D))
    → me ≡ between k first own ps past had → Tells Stands Knows me.0 (taken log x) → generation_of log ≡ x.apart.generation
met_there {D} {B} {g} {h} k first own ps log x me is tells = stands_in first log x (subst (λ (m : Seated (Place D B g h) D (Lent D)). Tells Stands Knows m.0 (taken log x)) is tells).0.0

-- a pass of another generation than the one that is met is of an earlier one
pub met_later : {D B : Type 0} {g h : _} {past : List BookEntry} {had : Option (Lent D)} (k : ℕ) (first : D) (own : List Noted) (ps : List Pass) (log : List BookEntry) (x : Place D B g h) (me : Seated (Place D B g h) D (Lent D)) (p : Pass)
    → me ≡ between k first own ps past had → Tells Stands Knows me.0 (taken log x) → Among p ps → p.generation ≢ x.apart.generation → p.generation < generation_of log
met_later {D} {B} {g} {h} k first own ps log x me p is tells in_ other =
    let tells' = (subst (λ (m : Seated (Place D B g h) D (Lent D)). Tells Stands Knows m.0 (taken log x)) is tells).0 in
    let within = among_up_to (generation_of log) p ps tells'.3 in_ in
    let same = stands_in first log x tells'.0 in
    omega (arith, within, same, other)

-- who found the store in another generation is told it, and has met it
pub stale_here : {D B : Type 0} {g h : _} {past : List BookEntry} {had : Option (Lent D)} (k : ℕ) (first : D) (own : List Noted) (ps ps' : List Pass) (log es : List BookEntry) (has : Option (Lent D)) (x : Place D B g h) (me me' me'' : Seated (Place D B g h) D (Lent D))
    (c c' : List (ℕ × Option (Place D B g h))) (p : Pass) (found : ℕ) → me ≡ between k first own ps past had → me' ≡ (with_held me.0 (Some (taken log x)), c) → me'' ≡ (given_back me'.0 es ps' has, c')
    → Tells Stands Knows me.0 (taken log x) → Among p ps → p.generation ≢ x.apart.generation → found ≡ x.apart.generation → (found ≡ generation_of (past_of me''.0)) × (p.generation < generation_of (past_of me''.0))
stale_here k first own ps ps' log es has x me me' me'' c c' p found is was now tells in_ other found_is =
    let met = ap generation_of (past_is k first _ ps' me'' (given_is k first own ps ps' (taken log x) es has me me' me'' c c' is was now)) in
    let there = met_there k first own ps log x me is tells in
    (found_is ∙ sym there ∙ sym met, subst (λ (n : ℕ). p.generation < n) (sym met) (met_later k first own ps log x me p is tells in_ other))

-- the generation that a token shows after a call is the store's
pub met_behind : {D B : Type 0} {g h : _} {past : List BookEntry} {had : Option (Lent D)} (k : ℕ) (first : D) (own : List Noted) (ps ps' : List Pass) (log es : List BookEntry) (has : Option (Lent D)) (x x' : Place D B g h) (me me' me'' : Seated (Place D B g h) D (Lent D))
    (c c' : List (ℕ × Option (Place D B g h))) → me ≡ between k first own ps past had → me' ≡ (with_held me.0 (Some (taken log x)), c) → me'' ≡ (given_back me'.0 es ps' has, c')
    → Tells Stands Knows me.0 (taken log x) → x'.apart.generation ≡ x.apart.generation → x'.apart.generation ≡ generation_of (past_of me''.0)
met_behind k first own ps ps' log es has x x' me me' me'' c c' is was now tells same =
    same ∙ sym (met_there k first own ps log x me is tells) ∙ sym (ap generation_of (past_is k first _ ps' me'' (given_is k first own ps ps' (taken log x) es has me me' me'' c c' is was now)))

-- a call with a stale pass notes nothing, and leaves the token's passes
pub record IsStale {F : Type 0} (pass : Pass) (refusal : StoreNo) (old now : TokenModel F) : Type 0 where
  pub grew : Grew [] old now
  pub passes : now.passes ≡ old.passes
  pub refusal_is : refusal ≡ Stale pass.generation (generation_of now.past)
  pub later : pass.generation < generation_of now.past

-- a call that gave the store back as it was taken leaves them too
pub record IsKept {F : Type 0} (log : List BookEntry) (old now : TokenModel F) : Type 0 where
  pub grew : Grew [] old now
  pub passes : now.passes ≡ old.passes
  pub past : now.past ≡ log

pub kept_told : {D B : Type 0} {g h : _} {past : List BookEntry} (k : ℕ) (first : D) (own : List Noted) (ps : List Pass) (log : List BookEntry) (x : Place D B g h) (id id' : TableId) (me me' : Seated (Place D B g h) D (Lent D)) (old : TokenModel D)
    → token_of id k me.0 ≡ old → id' ≡ id → me ≡ resting k first own ps past → me' ≡ (given_back (with_held me.0 (Some (taken log x))) [] (passes_of me.0) None, []) → Tells Stands Knows me.0 (taken log x)
    → IsKept log old (token_of id' k me'.0)
kept_told {D} {B} {g} {h} k first own ps log x id id' me me' old view same is was tells =
    let held : Seated (Place D B g h) D (Lent D) = (with_held me.0 (Some (taken log x)), (0, None) ∷ []) in
    let given = given_is k first own ps (passes_of me.0) (taken log x) [] None me held me' ((0, None) ∷ []) [] is refl was in
    record {
      grew = grew_by id id' k first own ps (passes_of me.0) (length log) [] me me' old view same is given (past_goes_on k first own ps log x me is tells);
      passes = passes_are k first (own ++ noted_from (length log) []) (passes_of me.0) me' given ∙ ap (λ (t : TokenModel D). t.passes) view;
      past = past_is k first (own ++ noted_from (length log) []) (passes_of me.0) me' given;
    }

pub stale_told : {D B : Type 0} {g h : _} {past : List BookEntry} (k : ℕ) (first : D) (own : List Noted) (ps : List Pass) (id id' : TableId) (me me' : Seated (Place D B g h) D (Lent D)) (old : TokenModel D) (pass : Pass) (refusal : StoreNo)
    → token_of id k me.0 ≡ old → id' ≡ id → me ≡ resting k first own ps past → Among pass ps → TookFor Stands Knows (λ x. x.apart.generation) pass me (Err refusal) me' → IsStale pass refusal old (token_of id' k me'.0)
stale_told k first own ps id id' me me' old pass refusal view same is in_ (log, x, was, tells, other, refused) =
    let kept = kept_told k first own ps log x id id' me me' old view same is was tells in
    record {
      grew = kept.grew;
      passes = kept.passes;
      refusal_is = refused ∙ ap (λ n. Stale pass.generation n) (sym (met_there k first own ps log x me is tells) ∙ ap generation_of (sym kept.past));
      later = subst (λ l. pass.generation < generation_of l) (sym kept.past) (met_later k first own ps log x me pass is tells in_ other);
    }

-- what a token shows after a call that renews its pass
pub record IsCalled {F : Type 0} (es log : List BookEntry) (pass : Pass) (generation : ℕ) (old now : TokenModel F) : Type 0 where
  pub grew : Grew es old now
  pub among : Among pass now.passes
  pub met : generation ≡ generation_of now.past
  pub past : now.past ≡ log

pub called : {D B : Type 0} {g h : _} {past : List BookEntry} {had : Option (Lent D)} (k : ℕ) (first : D) (own : List Noted) (ps : List Pass) (log es : List BookEntry) (has : Option (Lent D)) (x x' : Place D B g h) (id id' : TableId) (me me' me'' : Seated (Place D B g h) D (Lent D))
    (c c' : List (ℕ × Option (Place D B g h))) (before now : Pass) (old : TokenModel D) → token_of id k me.0 ≡ old → id' ≡ id → me ≡ between k first own ps past had → me' ≡ (with_held me.0 (Some (taken log x)), c)
    → me'' ≡ (given_back me'.0 es (renewed_pass before now (passes_of me'.0)) has, c') → Tells Stands Knows me.0 (taken log x) → x'.apart.generation ≡ x.apart.generation
    → IsCalled es log now x'.apart.generation old (token_of id' k me''.0)
called {D} {B} {g} {h} k first own ps log es has x x' id id' me me' me'' c c' before now old view same is was then tells still =
    let ps' = renewed_pass before now (passes_of me'.0) in
    let given = given_is k first own ps ps' (taken log x) es has me me' me'' c c' is was then in
    record {
      grew = grew_by id id' k first own ps ps' (length log) es me me'' old view same is given (past_goes_on k first own ps log x me is tells);
      among = subst (Among now) (sym (passes_are k first (own ++ noted_from (length log) es) ps' me'' given)) (among-snoc now (without_pass before.pid before.generation (passes_of me'.0)));
      met = met_behind k first own ps ps' log es has x x' me me' me'' c c' is was then tells still;
      past = past_is k first (own ++ noted_from (length log) es) ps' me'' given;
    }

-- the seat rests again
pub rests_again : {S F L : Type 0} {past : List BookEntry} {had : Option L} (k : ℕ) (first : F) (own : List Noted) (ps ps' : List Pass) (t : Taken S) (es : List BookEntry) (has : Option L) (me me' me'' : Seated S F L) (c : List (ℕ × Option S)) → me ≡ between k first own ps past had → me' ≡ (with_held me.0 (Some t), c)
    → me'' ≡ (given_back me'.0 es ps' has, []) → me'' ≡ between k first (is_own_of me''.0) (passes_of me''.0) (past_of me''.0) has
rests_again {S} {F} {L} k first own ps ps' t es has me me' me'' c is was now =
    let rests : me'' ≡ between k first (own ++ noted_from (length t.log) es) ps' t.log has =
    now ∙ ap (λ (m : Seated S F L). (given_back m.0 es ps' has, [])) was ∙ ap (λ (m : Seated S F L). (given_back (with_held m.0 (Some t)) es ps' has, [])) is in
    rests ∙ ap (λ (m : Seated S F L). between k first (is_own_of m.0) (passes_of m.0) (past_of m.0) has) (sym rests)

-- ---- a call of a pass that is admitted

pub token_admits : {D B : Type 0} {g h : _} {past : List BookEntry} {had : Option (Lent D)} (k : ℕ) (first : D) (own : List Noted) (ps : List Pass) (log : List BookEntry) (x : Place D B g h) (me : Seated (Place D B g h) D (Lent D)) (p : Pass)
    → me ≡ between k first own ps past had → Tells Stands Knows me.0 (taken log x) → Among p ps → p.generation ≡ x.apart.generation → Admits p (alone x.apart)
token_admits {D} {B} {g} {h} k first own ps log x me p is tells in_ gen =
    let tells' = (subst (λ (m : Seated (Place D B g h) D (Lent D)). Tells Stands Knows m.0 (taken log x)) is tells).0 in
    let gen' : p.generation ≡ generation_of log = gen ∙ sym (stands_in first log x tells'.0) in
    let some : 0 < live p.pid (generation_of log) ps = subst (λ z. 0 < live p.pid z ps) gen' (among_live p ps in_) in
    let few = tells'.2 p.pid in
    admits_known first log x p tells'.0 (known_at (Knows log x) (generation_of log) p ps tells'.1 in_ gen') gen (omega (arith, some, few))

pub token_may_quiet : {D B : Type 0} {g h : _} {past : List BookEntry} {had has : Option (Lent D)} (told : List BookEntry → Type 0) (k : ℕ) (first : D) (own : List Noted) (ps : List Pass) (log : List BookEntry) (x x' : Place D B g h) (before now : Pass) (es : List BookEntry)
    (me me' : Seated (Place D B g h) D (Lent D)) (c : List (ℕ × Option (Place D B g h))) → me ≡ between k first own ps past had → me' ≡ (with_held me.0 (Some (taken log x)), c) → Tells Stands Knows me.0 (taken log x)
    → told es → AllQuiet es → PlaceMoves had has es x x' → Among before ps → before.generation ≡ x.apart.generation → now.pid ≡ before.pid → now.generation ≡ before.generation → Knows (log ++ es) x' now
    → MayGive Stands Knows told (renewed_pass before now (passes_of me'.0)) has me'.0 x'
token_may_quiet {D} {B} {g} {h} {had = had} {has = has} told k first own ps log x x' before now es me me' c is was tells is_told quiet moves in_ gen pid same knows =
    let held : me'.0 ≡ Worker (hand_holding k first own ps had (taken log x)) = ap (λ (m : Seated (Place D B g h) D (Lent D)). m.0) was ∙ ap (λ (m : Seated (Place D B g h) D (Lent D)). with_held m.0 (Some (taken log x))) is in
    let tells' = (subst (λ (m : Seated (Place D B g h) D (Lent D)). Tells Stands Knows m.0 (taken log x)) is tells).0 in
    subst (λ (v : View (Place D B g h) D (Lent D)). MayGive Stands Knows told (renewed_pass before now (passes_of v)) has v x') (sym held) (may_quiet told k first own ps log x x' before now es tells' is_told quiet moves in_ gen pid same knows)

-- ---- a script that was run

abbrev pub RunView : Result Staged StoreNo → Pass → Pass → Type 0
RunView r before now = IfOk r (λ staged. view_of now ≡ with_front staged.front (view_of before)) × OnErr r (view_of now ≡ view_of before)

pub run_pass : (r : Result Staged StoreNo) (before now : Pass) → RunView r before now → (now.pid ≡ before.pid) × (now.generation ≡ before.generation)
run_pass (Ok staged) before now view = (ap (λ (v : PassView). v.pid) view.0, ap (λ (v : PassView). v.generation) view.0)
run_pass (Err refusal) before now view = (ap (λ (v : PassView). v.pid) view.1, ap (λ (v : PassView). v.generation) view.1)

pub run_answer : (r : Result Staged StoreNo) (g : Option ℕ) (script : List Stmt) (log es : List BookEntry) (before now : Pass) → RunNotes (user_of g (view_of before)) script r es → RunView r before now → HasAnswer before.pid before.front log
    → HasAnswer now.pid now.front (log ++ es)
run_answer (Ok staged) g script log es before now notes view has =
    let own = quiet_own es (run_quiet (view_of before) g script (Ok staged) es notes) in
    let entry : BookEntry = Answered before.pid script staged.reply notes.commit staged.front notes.answer.tick in
    let all : present (log ++ es) ≡ present log ++ entry ∷ [] = present_on log es own ∙ ap (λ l. present log ++ l) notes.answer.entries_are in
    subst (λ (v : PassView). HasAnswer v.pid v.front (log ++ es)) (sym view.0)
    (subst (Any (AnswersUpTo before.pid staged.front)) (sym all) (Any-push (AnswersUpTo before.pid staged.front) (present log) entry (refl, omega arith)))
run_answer (Err refusal) g script log es before now notes view has =
    let own = quiet_own es (run_quiet (view_of before) g script (Err refusal) es notes) in
    subst (λ (v : PassView). HasAnswer v.pid v.front (log ++ es)) (sym view.1) (answer_on before.pid before.front log es own has)

pub token_knows_run : {D B : Type 0} {g h : _} {past : List BookEntry} (r : Result Staged StoreNo) (s : Option ℕ) (script : List Stmt) (k : ℕ) (first : D) (own : List Noted) (ps : List Pass) (log es : List BookEntry) (x x' : Place D B g h) (me : Seated (Place D B g h) D (Lent D)) (before now : Pass)
    → me ≡ resting k first own ps past → Tells Stands Knows me.0 (taken log x) → Among before ps → before.generation ≡ x.apart.generation
    → RunNotes (user_of s (view_of before)) script r es → RunView r before now → Admits now (alone x'.apart) → Knows (log ++ es) x' now
token_knows_run {D} {B} {g} {h} r s script k first own ps log es x x' me before now is tells in_ gen notes view admits =
    let tells' = (subst (λ (m : Seated (Place D B g h) D (Lent D)). Tells Stands Knows m.0 (taken log x)) is tells).0 in
    let gen' : before.generation ≡ generation_of log = gen ∙ sym (stands_in first log x tells'.0) in
    let known = known_at (Knows log x) (generation_of log) before ps tells'.1 in_ gen' in
    (run_answer r s script log es before now notes view known.0, admits.staged)

-- ---- an enter

turn_one : (p pid n : ℕ) → cond (nat_eq p pid) (n + 1) n ≡ n + cond (pid == p) 1 0
turn_one p pid n = each (nat_eq p pid) refl
  where
    each : (b : Bool) → nat_eq p pid ≡ b → cond b (n + 1) n ≡ n + cond (pid == p) 1 0
    each true is = let e : pid ≡ p = grind (arith, nat_tests, is) in (λ i. n + cond {A = ℕ} (sym (ap (λ z. z == p) e ∙ eq-eqb p p refl) i) 1 0)
    each false is = let e : (pid == p) ≡ false = grind (arith, nat_tests, is) in omega (arith, ap (λ z. cond {A = ℕ} z 1 0) e)

turns_enter : (log : List BookEntry) (pass : Pass) (ps : List Pass) → pass.generation ≡ generation_of log → Turns log (Attached pass.pid pass.generation ∷ []) ps (ps ++ pass ∷ [])
turns_enter log pass ps gen = record {
  same = generation_on log (Attached pass.pid pass.generation ∷ []) (refl, tt);
  known = λ a. up_to-snoc (generation_of log) ps pass (omega (arith, gen)) a;
  fair = λ p.
      let n : ℕ = times_attached log p in
      let a : times_attached (log ++ Attached pass.pid pass.generation ∷ []) p ≡ n + cond (pass.pid == p) 1 0 = times_on log (Attached pass.pid pass.generation ∷ []) p ∙ turn_one p pass.pid n in
      let b : live p (generation_of log) (ps ++ pass ∷ []) ≡ live p (generation_of log) ps + cond (pass.pid == p) 1 0 =
      live-snoc p (generation_of log) ps pass ∙ ap (λ z. live p (generation_of log) ps + z) (cond_and (pass.pid == p) (pass.generation == generation_of log) (ap (λ z. z == generation_of log) gen ∙ eq-eqb (generation_of log) (generation_of log) refl)) in
      omega (arith, a, b);
}

enter_nothing : (stamp : Option ℕ) (pid generation : ℕ) (why : StoreNo) (es : List BookEntry) → EnterNotes {P = Pass} (newcomer stamp pid generation) (Err why) es → es ≡ []
enter_nothing stamp pid generation (Stale mine found) es notes = notes.1
enter_nothing stamp pid generation Disk es notes = absurd notes
enter_nothing stamp pid generation (Broken since) es notes = absurd notes
enter_nothing stamp pid generation (Full need room) es notes = absurd notes
enter_nothing stamp pid generation (Redo fault) es notes = absurd notes
enter_nothing stamp pid generation NoMemory es notes = notes

pub enter_own : (stamp : Option ℕ) (pid generation : ℕ) (r : Result Pass StoreNo) (es : List BookEntry) → EnterNotes (newcomer stamp pid generation) r es → AllOwn es
enter_own stamp pid generation (Ok pass) es notes = subst AllOwn (sym notes) (refl, tt)
enter_own stamp pid generation (Err why) es notes = subst AllOwn (sym (enter_nothing stamp pid generation why es notes)) tt

may_enter : {D B : Type 0} {g h : _} (k : ℕ) (first : D) (own : List Noted) (ps : List Pass) (log : List BookEntry) (x x' : Place D B g h) (r : Result Pass StoreNo) (pid generation : ℕ) (es : List BookEntry)
    → TellsHand Stands Knows None first ps (taken log x) → EnterNotes (newcomer (Some x.apart.generation) pid generation) r es → PlaceMoves None None es x x'
    → IfOk r (λ pass. Admits pass (alone x'.apart)) → IfOk r (λ pass. view_of pass ≡ new_pass pid generation)
    → HandMay Stands Knows (EnterNotes (newcomer None pid generation) r) (passes_entered r ps) None (hand_holding k first own ps None (taken log x)) x'
may_enter k first own ps log x x' (Ok pass) pid generation es tells notes moves admits view =
    let es_is : es ≡ Attached pid generation ∷ [] = notes in
    let p_is : pass.pid ≡ pid = ap (λ (v : PassView). v.pid) view in
    let g_is : pass.generation ≡ generation = ap (λ (v : PassView). v.generation) view in
    let f_is : pass.front ≡ None = ap (λ (v : PassView). v.front) view in
    let gen : pass.generation ≡ generation_of log = admits.generation_is ∙ moves.generation ∙ sym (stands_in first log x tells.0) in
    let all_own : AllOwn es = subst AllOwn (sym es_is) (refl, tt) in record {
      was = taken log x;
      added = es;
      held = refl;
      is_told = es_is;
      own = all_own;
      step = record {
        turns = subst (λ (l : List BookEntry). Turns log l ps (ps ++ pass ∷ [])) ((λ i. Attached (p_is i) (g_is i) ∷ []) ∙ sym es_is) (turns_enter log pass ps gen);
        stands = λ f. moves.stands f log;
        others = λ p e known. knows_moves log es x x' p all_own (moves.staged p.front) known;
        mine = known_snoc (Knows (log ++ es) x') (generation_of log) ps pass
            (known_on (Knows log x) (Knows (log ++ es) x') (generation_of log) ps (λ p e known. knows_moves log es x x' p all_own (moves.staged p.front) known) tells.1)
            (λ e. (subst (λ (f : Option ℕ). HasAnswer pass.pid f (log ++ es)) (sym f_is) tt, admits.staged));
      };
    }
may_enter k first own ps log x x' (Err refusal) pid generation es tells notes moves admits view =
    let es_is : es ≡ [] = enter_nothing (Some x.apart.generation) pid generation refusal es notes in
    record {
      was = taken log x;
      added = es;
      held = refl;
      is_told = enter_free pid generation (Some x.apart.generation) (Err refusal) es notes;
      own = subst AllOwn (sym es_is) tt;
      step = record {
        turns = subst (λ (l : List BookEntry). Turns log l ps ps) (sym es_is) (turns_none log ps);
        stands = λ f. moves.stands f log;
        others = λ p e known. knows_moves log es x x' p (subst AllOwn (sym es_is) tt) (moves.staged p.front) known;
        mine = known_on (Knows log x) (Knows (log ++ es) x') (generation_of log) ps (λ p e known. knows_moves log es x x' p (subst AllOwn (sym es_is) tt) (moves.staged p.front) known) tells.1;
      };
    }

pub token_may_enter : {D B : Type 0} {g h : _} {past : List BookEntry} (k : ℕ) (first : D) (own : List Noted) (ps : List Pass) (log : List BookEntry) (x x' : Place D B g h) (r : Result Pass StoreNo) (pid generation : ℕ) (es : List BookEntry)
    (me me' : Seated (Place D B g h) D (Lent D)) (c : List (ℕ × Option (Place D B g h))) → me ≡ resting k first own ps past → me' ≡ (with_held me.0 (Some (taken log x)), c) → Tells Stands Knows me.0 (taken log x)
    → EnterNotes (newcomer (Some x.apart.generation) pid generation) r es → PlaceMoves None None es x x'
    → IfOk r (λ pass. Admits pass (alone x'.apart)) → IfOk r (λ pass. view_of pass ≡ new_pass pid generation)
    → MayGive Stands Knows (EnterNotes (newcomer None pid generation) r) (passes_entered r (passes_of me'.0)) None me'.0 x'
token_may_enter {D} {B} {g} {h} k first own ps log x x' r pid generation es me me' c is was tells notes moves admits view =
    let held : me'.0 ≡ Worker (hand_holding k first own ps None (taken log x)) = ap (λ (m : Seated (Place D B g h) D (Lent D)). m.0) was ∙ ap (λ (m : Seated (Place D B g h) D (Lent D)). with_held m.0 (Some (taken log x))) is in
    let tells' = (subst (λ (m : Seated (Place D B g h) D (Lent D)). Tells Stands Knows m.0 (taken log x)) is tells).0 in
    subst (λ (v : View (Place D B g h) D (Lent D)). MayGive Stands Knows (EnterNotes (newcomer None pid generation) r) (passes_entered r (passes_of v)) None v x') (sym held) (may_enter k first own ps log x x' r pid generation es tells' notes moves admits view)

pub entered_among : (r : Result Pass StoreNo) (ps ps' : List Pass) → ps' ≡ passes_entered r ps → IfOk r (λ pass. Among pass ps')
entered_among (Ok pass) ps ps' is = subst (Among pass) (sym is) (among-snoc pass ps)
entered_among (Err refusal) ps ps' is = tt

-- ---- a leave

turn_less : (p pid n : ℕ) → (pid ≡ p → 1 ≤ n) → cond (nat_eq p pid) (n - 1) n + cond (pid == p) 1 0 ≡ n
turn_less p pid n some = each (nat_eq p pid) refl
  where
    each : (b : Bool) → nat_eq p pid ≡ b → cond b (n - 1) n + cond (pid == p) 1 0 ≡ n
    each true is =
        let e : pid ≡ p = grind (arith, nat_tests, is) in
        let le : 1 ≤ n = some e in
        let one : ◌≡◌ {A = ℕ} (cond (pid == p) 1 0) 1 = ap (λ z. cond {A = ℕ} z 1 0) (ap (λ z. z == p) e ∙ eq-eqb p p refl) in omega (arith, le, one)
    each false is = let e : (pid == p) ≡ false = grind (arith, nat_tests, is) in omega (arith, ap (λ z. cond {A = ℕ} z 1 0) e)

turns_leave : (log : List BookEntry) (pass : Pass) (ps : List Pass) → pass.generation ≡ generation_of log → Among pass ps → 1 ≤ times_attached log pass.pid → Turns log (Detached pass.pid ∷ []) ps (without_pass pass.pid pass.generation ps)
turns_leave log pass ps gen in_ there = record {
  same = generation_on log (Detached pass.pid ∷ []) (refl, tt);
  known = λ a. up_to-less pass.pid pass.generation (generation_of log) ps a;
  fair = λ p.
      let n : ℕ = times_attached log p in
      let some : 0 < live pass.pid (generation_of log) ps = subst (λ z. 0 < live pass.pid z ps) gen (among_live pass ps in_) in
      let a : times_attached (log ++ Detached pass.pid ∷ []) p + cond (pass.pid == p) 1 0 ≡ n =
      ap (λ z. z + cond (pass.pid == p) 1 0) (times_on log (Detached pass.pid ∷ []) p) ∙ turn_less p pass.pid n (λ e. subst (λ z. 1 ≤ times_attached log z) e there) in
      let b : live p (generation_of log) (without_pass pass.pid pass.generation ps) + cond (pass.pid == p) 1 0 ≡ live p (generation_of log) ps =
      ap (λ z. live p (generation_of log) (without_pass pass.pid z ps) + cond (pass.pid == p) 1 0) gen ∙ live-less p pass.pid (generation_of log) ps some in
      omega (arith, a, b);
}

pub leave_own : (stamp : Option ℕ) (v : PassView) (es : List BookEntry) → LeaveNotes (user_of stamp v) es → AllOwn es
leave_own stamp v es (inl left) = subst AllOwn (sym left) (refl, tt)
leave_own stamp v es (inr other) = subst AllOwn (sym other.1) tt

may_leave : {D B : Type 0} {g h : _} (k : ℕ) (first : D) (own : List Noted) (ps : List Pass) (log : List BookEntry) (x x' : Place D B g h) (pass : Pass) (es : List BookEntry)
    → TellsHand Stands Knows None first ps (taken log x) → Among pass ps → pass.generation ≡ x.apart.generation → LeaveNotes (user_of (Some x.apart.generation) (view_of pass)) es → PlaceMoves None None es x x'
    → HandMay Stands Knows (NotesLeave pass.pid true) (without_pass pass.pid pass.generation ps) None (hand_holding k first own ps None (taken log x)) x'
may_leave k first own ps log x x' pass es tells in_ gen (inl es_is) moves =
    let gen' : pass.generation ≡ generation_of log = gen ∙ sym (stands_in first log x tells.0) in
    let some : 0 < live pass.pid (generation_of log) ps = subst (λ z. 0 < live pass.pid z ps) gen' (among_live pass ps in_) in
    let few = tells.2 pass.pid in
    let all_own : AllOwn es = subst AllOwn (sym es_is) (refl, tt) in record {
      was = taken log x;
      added = es;
      held = refl;
      is_told = es_is;
      own = all_own;
      step = record {
        turns = subst (λ (l : List BookEntry). Turns log l ps (without_pass pass.pid pass.generation ps)) (sym es_is) (turns_leave log pass ps gen' in_ (omega (arith, some, few)));
        stands = λ f. moves.stands f log;
        others = λ p e known. knows_moves log es x x' p all_own (moves.staged p.front) known;
        mine = known_less (Knows (log ++ es) x') (generation_of log) pass.pid pass.generation ps (known_on (Knows log x) (Knows (log ++ es) x') (generation_of log) ps (λ p e known. knows_moves log es x x' p all_own (moves.staged p.front) known) tells.1);
      };
    }
may_leave k first own ps log x x' pass es tells in_ gen (inr other) moves = absurd (other.0 gen)

pub token_may_leave : {D B : Type 0} {g h : _} {past : List BookEntry} (k : ℕ) (first : D) (own : List Noted) (ps : List Pass) (log : List BookEntry) (x x' : Place D B g h) (pass : Pass) (es : List BookEntry)
    (me me' : Seated (Place D B g h) D (Lent D)) (c : List (ℕ × Option (Place D B g h))) → me ≡ resting k first own ps past → me' ≡ (with_held me.0 (Some (taken log x)), c) → Tells Stands Knows me.0 (taken log x)
    → Among pass ps → pass.generation ≡ x.apart.generation → LeaveNotes (user_of (Some x.apart.generation) (view_of pass)) es → PlaceMoves None None es x x'
    → MayGive Stands Knows (NotesLeave pass.pid true) (without_pass pass.pid pass.generation (passes_of me'.0)) None me'.0 x'
token_may_leave {D} {B} {g} {h} k first own ps log x x' pass es me me' c is was tells in_ gen notes moves =
    let held : me'.0 ≡ Worker (hand_holding k first own ps None (taken log x)) = ap (λ (m : Seated (Place D B g h) D (Lent D)). m.0) was ∙ ap (λ (m : Seated (Place D B g h) D (Lent D)). with_held m.0 (Some (taken log x))) is in
    let tells' = (subst (λ (m : Seated (Place D B g h) D (Lent D)). Tells Stands Knows m.0 (taken log x)) is tells).0 in
    subst (λ (v : View (Place D B g h) D (Lent D)). MayGive Stands Knows (NotesLeave pass.pid true) (without_pass pass.pid pass.generation (passes_of v)) None v x') (sym held) (may_leave k first own ps log x x' pass es tells' in_ gen notes moves)

-- ---- a leave in another generation

other_test : (a b : ℕ) → a ≢ b → (a == b) ≡ false
other_test a b ne = grind (arith, nat_tests, ne)

live_keeps : (q p h g : ℕ) (xs : List Pass) → h ≢ g → live q g (without_pass p h xs) ≡ live q g xs
live_keeps q p h g [] ne = refl
live_keeps q p h g (x ∷ xs) ne = split ((x.pid == p) && (x.generation == h)) refl (live_keeps q p h g xs ne)
  where
    second : (a b : Bool) → (a && b) ≡ true → b ≡ true
    second true b e = e
    second false b e = absurd (cc)

    none : (a b : Bool) → b ≡ false → ◌≡◌ {A = ℕ} (cond (a && b) 1 0) 0
    none true b e = ap (λ z. cond {A = ℕ} z 1 0) e
    none false b e = refl

    split : (b : Bool) → (x.pid == p) && (x.generation == h) ≡ b → live q g (without_pass p h xs) ≡ live q g xs → live q g (cond b xs (x ∷ without_pass p h xs)) ≡ live q g (x ∷ xs)
    split true e rec =
        let is : x.generation ≡ h = grind (arith, nat_tests, second (x.pid == p) (x.generation == h) e) in
        let gone : ◌≡◌ {A = ℕ} (cond ((x.pid == q) && (x.generation == g)) 1 0) 0 = none (x.pid == q) (x.generation == g) (ap (λ z. z == g) is ∙ other_test h g ne) in
        omega (arith, gone)
    split false e rec = omega (arith, rec)

may_stale : {D B : Type 0} {g h : _} (k : ℕ) (first : D) (own : List Noted) (ps : List Pass) (log : List BookEntry) (x : Place D B g h) (pass : Pass) → TellsHand Stands Knows None first ps (taken log x) → pass.generation ≢ x.apart.generation
    → HandMay Stands Knows (NotesLeave pass.pid false) (without_pass pass.pid pass.generation ps) None (hand_holding k first own ps None (taken log x)) x
may_stale k first own ps log x pass tells other =
    let other' : pass.generation ≢ generation_of log = λ e. other (e ∙ stands_in first log x tells.0) in record {
      was = taken log x;
      added = [];
      held = refl;
      is_told = refl;
      own = tt;
      step = record {
        turns = record {
          same = ap generation_of (append-nil log);
          known = λ a. up_to-less pass.pid pass.generation (generation_of log) ps a;
          fair = λ p. λ i. times_attached (append-nil log i) p + sym (live_keeps p pass.pid pass.generation (generation_of log) ps other') i;
        };
        stands = λ f lent is. subst (λ l. Stands f l x lent) (sym (append-nil log)) is;
        others = λ p e known. subst (λ l. Knows l x p) (sym (append-nil log)) known;
        mine = known_less (Knows (log ++ []) x) (generation_of log) pass.pid pass.generation ps (known_on (Knows log x) (Knows (log ++ []) x) (generation_of log) ps (λ p e known. subst (λ l. Knows l x p) (sym (append-nil log)) known) tells.1);
      };
    }

pub token_may_stale : {D B : Type 0} {g h : _} {past : List BookEntry} (k : ℕ) (first : D) (own : List Noted) (ps : List Pass) (log : List BookEntry) (x : Place D B g h) (pass : Pass)
    (me me' : Seated (Place D B g h) D (Lent D)) (c : List (ℕ × Option (Place D B g h))) → me ≡ resting k first own ps past → me' ≡ (with_held me.0 (Some (taken log x)), c) → Tells Stands Knows me.0 (taken log x) → pass.generation ≢ x.apart.generation
    → MayGive Stands Knows (NotesLeave pass.pid false) (without_pass pass.pid pass.generation (passes_of me'.0)) None me'.0 x
token_may_stale {D} {B} {g} {h} k first own ps log x pass me me' c is was tells other =
    let held : me'.0 ≡ Worker (hand_holding k first own ps None (taken log x)) = ap (λ (m : Seated (Place D B g h) D (Lent D)). m.0) was ∙ ap (λ (m : Seated (Place D B g h) D (Lent D)). with_held m.0 (Some (taken log x))) is in
    let tells' = (subst (λ (m : Seated (Place D B g h) D (Lent D)). Tells Stands Knows m.0 (taken log x)) is tells).0 in
    subst (λ (v : View (Place D B g h) D (Lent D)). MayGive Stands Knows (NotesLeave pass.pid false) (without_pass pass.pid pass.generation (passes_of v)) None v x) (sym held) (may_stale k first own ps log x pass tells' other)
