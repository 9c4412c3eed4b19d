-- From one generation to the next.
use Rattle.std.{proofs.{Common.{◌≡◌, ◌⊎◌, inl, inr, ℕ, zero, suc, ◌+◌, ◌<◌, ◌≤◌, ◌&&◌, Bool, true, false, cond, List, [], ◌∷◌, ◌++◌, All, map, Option, None, Some, refl, sym, ◌∙◌, ap, subst, arith, append-nil}, lemmas.{Bool.Decides.nat_tests, List.{Elements.{All-append}, Sums.{fold-append, sum_by-append, sum_by-cons}}}}, specs.{Prelude.{Result, Ok, Err, OnErr, OnOk, fold, nat_eq, nat_lt}, declared.alloc.AllocError.AllocError}}
use Rattle.atomic_table.specs.Seated.{TableId}
use Rattle.pm_segment.specs.{pm_query.{pm_facts.Numbers.{sum_below, sum_zero}, declared.book.BookEntry.{BookEntry, TheVariants.{Gone, Opened}}, Book.{generation_after, generation_of, times_attached}}, declared.segment.Segment.Segment, Children.{AreOthers, IsAttendedBy, once, times_behind, times_in}, Moment.{Moment, disk_of, moment}, Moves.{IsAsBefore, IsShown, Moves, Renews}, MovesLaws.{begins_on, moves_none, renewal_shown}, Stands.{Begins, Origin, WaitsFrom}, Unread.has_break, UnreadLaws.{break_before, redo_parts}, Renewal.renewal}
use Rattle.pm_store_shared.{specs.{declared.{place.Place.Place, views.{Joined.Joined, Lent.Lent, Noted.Noted, Desk.Desk, Taken.Taken, View.{View, TheVariants.Master}}}, Behind.Behind, Laid.IsLaid, Log.{NoneOwn, all_behind}, Passes.{AllUpTo, live}, Renewed.{AreApart, AreAttached, RenewNotes}, Rule.{AreCounted, taken}, Stands.{Knows, Stands}, Told.{DeskMay, HasRenewed, MayGive, Resets, Seated, SharedModel, Tells, desk_resting, first_of, generation_in, given_back, is_own_of, joined_of, log_held, with_held}}, proofs.{Closing.shown, Logs.{known_later, known_on, none_live, up_to_more}, Moving.{laid_behind, laid_on, whole}, Stores.{knows_moves, times_on, told_on}}}

-- ---- entries

none_gone : (pids : List ℕ) (generation : ℕ) → NoneOwn (renewal pids generation)
none_gone [] generation = (refl, tt)
none_gone (pid ∷ pids) generation = (refl, none_gone pids generation)

generation_renewed : (n : ℕ) (pids : List ℕ) (generation : ℕ) → fold generation_after n (renewal pids generation) ≡ n + 1
generation_renewed n [] generation = refl
generation_renewed n (pid ∷ pids) generation = generation_renewed n pids generation

pub generation_behind : (log : List BookEntry) (pids : List ℕ) (generation : ℕ) → generation_of (log ++ renewal pids generation) ≡ generation_of log + 1
generation_behind log pids generation = fold-append generation_after 0 log (renewal pids generation) ∙ generation_renewed (generation_of log) pids generation

nobody_left : (p n : ℕ) (pids : List ℕ) (generation : ℕ) → (times_in p pids ≡ 0 → n ≡ 0) → times_behind (renewal pids generation) p n ≡ 0
nobody_left p n [] generation none = none refl
nobody_left p n (pid ∷ pids) generation none = nobody_left p (cond (nat_eq p pid) 0 n) pids generation (each (nat_eq p pid) refl)
  where
    each : (b : Bool) → nat_eq p pid ≡ b → times_in p pids ≡ 0 → cond b 0 n ≡ 0
    each true is rest = refl
    each false is rest =
        let not_here : once p pid ≡ 0 = ap (λ (b : Bool). cond {A = ℕ} b 1 0) is in
        none (omega (arith, not_here, rest, sum_by-cons (once p) pid pids))

all_named : (i g o : ℕ) → o ≡ cond (nat_lt 0 i && nat_eq 0 g) 1 0 → g + o ≡ 0 → i ≡ 0
all_named zero g o is none = refl
all_named (suc i) zero o is none =
    let some : nat_lt 0 (suc i) ≡ true = grind (arith, nat_tests) in
    let one : o ≡ 1 = is ∙ ap (λ (b : Bool). cond {A = ℕ} (b && nat_eq 0 0) 1 0) some in
    absurd (omega (arith, one, none))
all_named (suc i) (suc g) o is none = absurd (omega (arith, none))

nobody_behind : (log : List BookEntry) (inside gone others : List ℕ) (generation : ℕ) → AreOthers inside gone others → IsAttendedBy inside log → (p : ℕ) → times_attached (log ++ renewal (gone ++ others) generation) p ≡ 0
nobody_behind log inside gone others generation are attended p =
    times_on log (renewal (gone ++ others) generation) p
    ∙ nobody_left p (times_attached log p) (gone ++ others) generation (λ none. attended p ∙ all_named (times_in p inside) (times_in p gone) (times_in p others) (are p) (sym (sum_by-append (once p) gone others) ∙ none))

resets_behind : (log es : List BookEntry) → generation_of (log ++ es) ≡ generation_of log + 1 → ((p : ℕ) → times_attached (log ++ es) p ≡ 0) → Resets log es
resets_behind log es g nobody dealt cells a = record {
  unborn = a.unborn;
  known = λ k. subst (λ z. AllUpTo z (cells k).passes) (sym g) (up_to_more (generation_of log) (cells k).passes (a.known k));
  counted = λ p. subst (λ z. sum_below dealt (λ k. live p z (cells k).passes) ≡ 0) (sym g) (sum_zero dealt (λ k. live p (generation_of log + 1) (cells k).passes) (λ k _. none_live p (generation_of log) (cells k).passes (a.known k))) ∙ sym (nobody p);
}

-- ---- the store

pub behind_renewed : {D B : Type 0} {g h : _} (first : D) (log : List BookEntry) (x x' : Segment D B g h) (gone others : List ℕ) (generation : ℕ) → AreOthers (moment x).inside gone others
    → Renews (renewal (gone ++ others) generation) (moment x) (moment x') → disk_of x' ≡ disk_of x → Behind first log x → Behind first (log ++ renewal (gone ++ others) generation) x'
behind_renewed {g = g} first log x x' gone others generation are renews disk is = record {
  told = told_on (moment x).book (moment x').book log (renewal (gone ++ others) generation) renews.notes is.told;
  generation = generation_behind log (gone ++ others) generation ∙ ap (λ n. n + 1) is.generation ∙ sym renews.generation;
  attended = λ p. nobody_behind log (moment x).inside gone others generation are is.attended p ∙ ap (times_in p) (sym renews.inside);
  time = subst (λ d. Rattle.pm_segment.specs.pm_record.OnDisk.GoesOn (g.ticks first) (g.ticks d) (g.images first) (g.images d)) (sym disk) is.time;
  counts = record {
    counted = renews.counts (g.faults first) is.counts.counted;
    each = subst (λ d. All (IsShown (g.faults first) (g.faults d)) (log ++ renewal (gone ++ others) generation)) (sym disk)
        (All-append (IsShown (g.faults first) (moment x).faults) log (renewal (gone ++ others) generation) is.counts.each (renewal_shown (g.faults first) (moment x).faults (gone ++ others) generation));
  };
  unread = λ none.
      let was = is.unread (redo_parts log (renewal (gone ++ others) generation) none).0 in
      (renews.unread, subst (λ d. (has_break (log ++ renewal (gone ++ others) generation) ≡ true) ⊎ (g.seen d ≡ g.seen first)) (sym disk) (still was.1));
  stands = stands is.stands;
}
  where
    still : (has_break log ≡ true) ⊎ ((moment x).files ≡ g.seen first) → (has_break (log ++ renewal (gone ++ others) generation) ≡ true) ⊎ ((moment x).files ≡ g.seen first)
    still (inl breaks) = inl (break_before log (renewal (gone ++ others) generation) breaks)
    still (inr same) = inr same

    origin : Origin
    origin = record { files = g.seen first; tick = g.ticks first; faults = g.faults first }

    stands : WaitsFrom origin (moment x) ⊎ Begins origin (moment x) → WaitsFrom origin (moment x') ⊎ Begins origin (moment x')
    stands (inl waits) = inl (renews.waits origin waits)
    stands (inr begins) = inr (begins_on origin (renewal (gone ++ others) generation) (moment x) (moment x') renews.notes (renews.goes_on origin) begins)

pub moves_still : {D B : Type 0} {g h : _} (x x' : Segment D B g h) → IsAsBefore (moment x) (moment x') → disk_of x' ≡ disk_of x → Moves [] (moment x) (moment x')
moves_still {g = g} x x' still disk = subst (λ (m : Moment). Moves [] (moment x) m) same (moves_none (moment x))
  where
    same : moment x ≡ moment x'
    same = λ i. record {
      book = sym still.book i;
      generation = sym still.generation i;
      inside = sym still.inside i;
      rows = sym still.rows i;
      live = sym still.live i;
      skipped = sym still.skipped i;
      commits = sym still.commits i;
      staged = sym still.staged i;
      files = g.seen (sym disk i);
      images = g.images (sym disk i);
      ticks = g.ticks (sym disk i);
      faults = g.faults (sym disk i);
    }

at_most : (i g : Bool) → cond (i && g) 1 0 ≤ cond {A = ℕ} g 1 0
at_most true g = omega arith
at_most false true = omega arith
at_most false false = omega arith

apart : (inside gone others : List ℕ) → AreOthers inside gone others → AreApart gone others
apart inside gone others are pid = subst (λ n. n ≤ cond (nat_eq 0 (times_in pid gone)) 1 0) (sym (are pid)) (at_most (nat_lt 0 (times_in pid inside)) (nat_eq 0 (times_in pid gone)))

some_inside : (n : ℕ) (t g : Bool) → nat_lt 0 n ≡ t → 1 ≤ cond {A = ℕ} (t && g) 1 0 → 1 ≤ n
some_inside n true g is one = (let more : 0 < n = grind (arith, nat_tests, is) in omega (arith, more))
some_inside n false g is one = (let none : 1 ≤ 0 = one in absurd (omega (arith, none)))

attached : (log : List BookEntry) (inside gone others : List ℕ) → AreOthers inside gone others → IsAttendedBy inside log → AreAttached log others
attached log inside gone others are attended pid there =
    subst (λ n. 1 ≤ n) (sym (attended pid)) (some_inside (times_in pid inside) (nat_lt 0 (times_in pid inside)) (nat_eq 0 (times_in pid gone)) refl (subst (λ n. 1 ≤ n) (are pid) there))

abbrev pub desk_holding : {S F : Type 0} → ℕ → F → ℕ → List Noted → List Joined → Taken S → Desk S F
desk_holding n first gen own joined t = record { dealt = n; first = first; generation = gen; own = own; joined = joined; held = Some t }

module _ {D B : Type 0} {g h : _} (n : ℕ) (first : D) (gen : ℕ) (own : List Noted) (joined : List Joined) (log : List BookEntry) (x x' : Segment D B g h) (p p' : Place D B g h) (gone : List ℕ) (generation : ℕ) where
  abbrev pub Did : Result (Unit {0}) AllocError → Type 0
  Did r =
      OnOk r ((others : List ℕ) × AreOthers (moment x).inside gone others × Renews (map Gone (gone ++ others) ++ Opened generation ∷ []) (moment x) (moment x'))
      × OnErr r (IsAsBefore (moment x) (moment x'))

  pub did_commits : (r : Result (Unit {0}) AllocError) → Did r → (moment x').commits ≡ (moment x).commits
  did_commits (Ok done) did = did.0.2.commits
  did_commits (Err short) did = did.1.commits

  desk_may : (r : Result (Unit {0}) AllocError) → IsLaid x p → IsLaid x' p' → p'.making ≡ None → Behind first log x → Did r → disk_of x' ≡ disk_of x
      → DeskMay Stands Knows (RenewNotes log generation gone r) (desk_holding n first gen own joined (taken log p)) p'
  desk_may (Ok done) was now bare is did disk =
      let others : List ℕ = did.0.0 in let es : List BookEntry = renewal (gone ++ others) generation in
      let next = generation_behind log (gone ++ others) generation in record {
        was = taken log p;
        added = es;
        held = refl;
        is_told = (others, refl, apart (moment x).inside gone others did.0.1, attached log (moment x).inside gone others did.0.1 is.attended);
        none_own = none_gone (gone ++ others) generation;
        step = record {
          resets = resets_behind log es next (nobody_behind log (moment x).inside gone others generation did.0.1 is.attended);
          stands = λ f lent there. laid_on f log es x x' p p' was now bare (behind_renewed f log x x' gone others generation did.0.1 did.0.2 disk) lent there;
          passes = λ ps up known. subst (λ z. Rattle.pm_store_shared.specs.Passes.AllKnown (Knows (log ++ es) p') z ps) (sym next) (known_later (Knows (log ++ es) p') (generation_of log) ps up);
        };
      }
  desk_may (Err short) was now bare is did disk =
      let moves = whole [] x x' p p' tt was now bare (moves_still x x' did.1 disk) in record {
        was = taken log p;
        added = [];
        held = refl;
        is_told = refl;
        none_own = tt;
        step = record {
          resets = λ dealt cells a. subst (AreCounted dealt cells) (sym (append-nil log)) a;
          stands = λ f. moves.stands f log;
          passes = λ ps up known. subst (λ z. Rattle.pm_store_shared.specs.Passes.AllKnown (Knows (log ++ []) p') z ps) (sym (ap generation_of (append-nil log)))
              (known_on (Knows log p) (Knows (log ++ []) p') (generation_of log) ps (λ q e k. knows_moves log [] p p' q tt (moves.staged q.front) k) known);
        };
      }

  pub renew_may : (r : Result (Unit {0}) AllocError) (me me' : Seated (Place D B g h) D (Lent D)) (c : List (ℕ × Option (Place D B g h))) → me ≡ desk_resting n first gen own joined → me' ≡ (with_held me.0 (Some (taken log p)), c)
      → Tells Stands Knows me.0 (taken log p) → IsLaid x p → IsLaid x' p' → p'.making ≡ None → Did r → disk_of x' ≡ disk_of x → MayGive Stands Knows (RenewNotes (log_held me'.0) generation gone r) [] None me'.0 p'
  renew_may r me me' c is was tells laid now bare did disk =
      let held : me'.0 ≡ Master (desk_holding n first gen own joined (taken log p)) =
      ap (λ (m : Seated (Place D B g h) D (Lent D)). m.0) was ∙ ap (λ (m : Seated (Place D B g h) D (Lent D)). with_held m.0 (Some (taken log p))) is in
      let stands = (subst (λ (m : Seated (Place D B g h) D (Lent D)). Tells Stands Knows m.0 (taken log p)) is tells).3 in
      subst (λ (v : View (Place D B g h) D (Lent D)). MayGive Stands Knows (RenewNotes (log_held v) generation gone r) [] None v p') (sym held)
      (desk_may r laid now bare (laid_behind first log x p stands.lent laid stands.is).1 did disk)

pub renew_did : {S F L : Type 0} (n : ℕ) (first : F) (gen : ℕ) (own : List Noted) (joined : List Joined) (log es : List BookEntry) (x : S) (gone : List ℕ) (generation : ℕ) (r : Result (Unit {0}) AllocError)
    (id id' : TableId) (me me' me'' : Seated S F L) (c c' : List (ℕ × Option S)) (old : SharedModel F) → me ≡ desk_resting n first gen own joined → me' ≡ (with_held me.0 (Some (taken log x)), c) → me'' ≡ (given_back me'.0 es [] None, c')
    → generation_of log ≡ gen → shown S F L id n me ≡ old → id' ≡ id → generation ≡ old.generation + 1 → RenewNotes (log_held me'.0) generation gone r es
    → OnOk r ((others : List ℕ) × AreApart gone others × HasRenewed old generation others (renewal (gone ++ others) generation) (shown S F L id' n me''))
renew_did n first gen own joined log es x gone generation (Err short) id id' me me' me'' c c' old is was now told view same next notes = tt
renew_did {S} {F} {L} n first gen own joined log es x gone generation (Ok done) id id' me me' me'' c c' old is was now told view same next notes =
    let others : List ℕ = notes.0 in
    let es_is : es ≡ renewal (gone ++ others) generation = notes.1 in
    let old_is : old ≡ shown S F L id n (desk_resting n first gen own joined) = sym view ∙ ap (shown S F L id n) is in
    let v : View S F L = Master record { dealt = n; first = first; generation = generation_of (log ++ es); own = own ++ all_behind log es; joined = joined; held = None } in
    let now_is : me''.0 ≡ v =
    ap (λ (m : Seated S F L). m.0) now ∙ ap (λ (m : Seated S F L). given_back m.0 es [] None) was ∙ ap (λ (m : Seated S F L). given_back (with_held m.0 (Some (taken log x))) es [] None) is in
    let log_is : log_held me'.0 ≡ log =
    ap (λ (m : Seated S F L). log_held m.0) was ∙ ap (λ (m : Seated S F L). log_held (with_held m.0 (Some (taken log x)))) is in
    let gen_is : generation_of (log ++ es) ≡ generation =
    ap (λ l. generation_of (log ++ l)) es_is ∙ generation_behind log (gone ++ others) generation ∙ ap (λ m. m + 1) (told ∙ sym (ap (λ (s : SharedModel F). s.generation) old_is)) ∙ sym next in (
      others,
      notes.2,
      (
        log,
        (λ i. record {
          table = (same ∙ sym (ap (λ (s : SharedModel F). s.table) old_is)) i;
          tokens = sym (ap (λ (s : SharedModel F). s.tokens) old_is) i;
          first = (ap first_of now_is ∙ sym (ap (λ (s : SharedModel F). s.first) old_is)) i;
          generation = (ap generation_in now_is ∙ gen_is) i;
          own = (ap is_own_of now_is ∙ (λ j. sym (ap (λ (s : SharedModel F). s.own) old_is) j ++ all_behind log (es_is j))) i;
          joined = (ap joined_of now_is ∙ sym (ap (λ (s : SharedModel F). s.joined) old_is)) i;
        }),
        subst (λ l. AreAttached l others) log_is notes.3,
      ),
    )
