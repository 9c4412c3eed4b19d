-- The children of a board: those of one pid are one, startup children were started in the journal, and the last checkpointer.
use Rattle.std.{proofs.{Common.{◌≡◌, ◌≢◌, inl, inr, ℕ, zero, suc, ◌<◌, Bool, true, false, List, [], ◌∷◌, ◌++◌, length, map, nat_eq, refl, sym, ap, subst, ◌∙◌, arith}, lemmas.{Bool.{eqb-false, eqb-true}, List.Elements.{All-contains, All-from_recursion, Contains-append_right}}}, specs.{Prelude.{if◌then◌else◌, ◌==◌}, List.{AllByRecursion, Contains, flat_map}}}
use Rattle.pm_serve_crew.specs.{pm_facts.Lists.{each_both, each_first, each_second}, pm_exit.declared.child.Kind.Kind, pm_admit.declared.Cac.Cac, pm_supervisor.{Children.{is_checkpointer, is_dead_end}, Steps.kind_for}, pm_state.declared.event.PmEvent.PmEvent, pm_board.{pm_board_words.declared.views.{PastChild.PastChild, RosterView.RosterView}, Places.slot_at}, pm_supervisor_chain.Chain.{AreDistinct, IsPidOf}, pm_board_acts.Seating.{Begun, Ended, Move, Notes, PidsEnd, PortEnds, Reads, Seating, begins, begun_by, begun_from, ended_by, entries_by, entries_from, seating_by}, pm_worker.declared.mail.MailTold.MailTold, Pids.{AreUsedOnce, pids_at}}
use Rattle.pm_serve_crew.specs.pm_exit.declared.child.Kind.TheVariants as kinds
use Rattle.pm_serve_crew.specs.pm_admit.declared.Cac.TheVariants as decisions
use Rattle.pm_serve_crew.specs.pm_state.declared.event.PmEvent.TheVariants as entry
use Rattle.pm_supervisor_crashes.specs.Ends.{StartsNothing}

-- ---- lists

pub there_map : {X Y : Type 0} (f : X → Y) (xs : List X) (x : X) → Contains xs x → Contains (map f xs) (f x)
there_map f [] x (k, near, is) = (let never : k < 0 = near in absurd (omega arith))
there_map f (y ∷ xs) x (zero, near, is) = (0, (let less : 0 < length (f y ∷ map f xs) = omega arith in less), ap f is)
there_map f (y ∷ xs) x (suc k, near, is) =
    let low : suc k < suc (length xs) = near in
    let rest : Contains (map f xs) (f x) = there_map f xs x (k, omega arith, is) in
    (suc rest.0, (let less : rest.0 < length (map f xs) = rest.1 in omega arith), rest.2)

pub each_so : {X : Type 0} (P Q : X → Type 0) → ((x : X) → P x → Q x) → (xs : List X) → AllByRecursion P xs → AllByRecursion Q xs
each_so P Q so [] all = tt
each_so P Q so (x ∷ xs) all = (so x all.0, each_so P Q so xs all.1)

pub at_one : {X : Type 0} (P : X → Type 0) (xs : List X) (x : X) → AllByRecursion P xs → Contains xs x → P x
at_one P xs x all there = All-contains P xs x (All-from_recursion P xs all) there

-- whichever is there
pub each_there : {X : Type 0} (P : X → Type 0) (xs : List X) → ((x : X) → Contains xs x → P x) → AllByRecursion P xs
each_there P [] so = tt
each_there P (x ∷ xs) so = (
  so x (0, (let less : 0 < length (x ∷ xs) = omega arith in less), refl),
  each_there P xs (λ y there. so y (Contains-append_right (x ∷ []) xs y there)),
)

each_if : {X : Type 0} (P : X → Type 0) (test : Bool) (xs : List X) → AllByRecursion P xs → AllByRecursion P (if test then xs else [])
each_if P true xs all = all
each_if P false xs all = tt

-- ---- children of one pid

abbrev pids_of : List (PastChild MailTold) → List ℕ
pids_of past = map (λ child. child.offer.pid) past

pid_there : (past : List (PastChild MailTold)) (a : PastChild MailTold) → Contains past a → IsPidOf a.offer.pid (pids_of past)
pid_there [] a (k, near, is) = (let never : k < 0 = near in absurd (omega arith))
pid_there (x ∷ past) a (zero, near, is) = inl (sym (ap (λ (c : PastChild MailTold). c.offer.pid) is))
pid_there (x ∷ past) a (suc k, near, is) =
    (let low : suc k < suc (length past) = near in inr (pid_there past a (k, omega arith, is)))

never_again : (pid : ℕ) (past : List (PastChild MailTold)) (b : PastChild MailTold) → AllByRecursion (λ other. pid ≢ other) (pids_of past) → Contains past b → pid ≡ b.offer.pid → ⊥
never_again pid past b all there =
    at_one (λ other. pid ≢ other) (pids_of past) b.offer.pid all (there_map (λ (c : PastChild MailTold). c.offer.pid) past b there)

same_there : (past : List (PastChild MailTold)) (a b : PastChild MailTold) → AreDistinct (pids_of past) → Contains past a → Contains past b → a.offer.pid ≡ b.offer.pid → a ≡ b
same_there [] a b once (k, near, is) also same = (let never : k < 0 = near in absurd (omega arith))
same_there (x ∷ past) a b once (zero, near, is) (zero, nigh, as_well) same = sym is ∙ as_well
same_there (x ∷ past) a b once (zero, near, is) (suc j, nigh, as_well) same =
    let low : suc j < suc (length past) = nigh in
    absurd (never_again x.offer.pid past b once.0 (j, omega arith, as_well) (ap (λ (c : PastChild MailTold). c.offer.pid) is ∙ same))
same_there (x ∷ past) a b once (suc i, near, is) (zero, nigh, as_well) same =
    let low : suc i < suc (length past) = near in
    absurd (never_again x.offer.pid past a once.0 (i, omega arith, is) (ap (λ (c : PastChild MailTold). c.offer.pid) as_well ∙ sym same))
same_there (x ∷ past) a b once (suc i, near, is) (suc j, nigh, as_well) same =
    let low : suc i < suc (length past) = near in
    let deep : suc j < suc (length past) = nigh in
    same_there past a b once.1 (i, omega arith, is) (j, omega arith, as_well) same

-- no two children of a board have one pid
pub one_child : (board : RosterView MailTold) → AreUsedOnce board → (j k : ℕ) (a b : PastChild MailTold) → Contains (slot_at board j).past a → Contains (slot_at board k).past b
    → a.offer.pid ≡ b.offer.pid → a ≡ b
one_child board once j k a b there also same = by (nat_eq j k) refl
  where
    by : (test : Bool) → nat_eq j k ≡ test → a ≡ b
    by true is =
        same_there (slot_at board k).past a b (once.within k) (subst (λ (i : ℕ). Contains (slot_at board i).past a) (eqb-true j k is) there) also same
    by false isnt =
        absurd (once.across j k a.offer.pid (eqb-false j k isnt) (pid_there (slot_at board j).past a there)
        (subst (λ (pid : ℕ). IsPidOf pid (pids_at board k)) (sym same) (pid_there (slot_at board k).past b also)))

-- ---- startup children

-- a startup child was started in the journal
abbrev pub IsStarted : List PmEvent → Begun → Type 0
IsStarted journal b = b.kind ≡ kinds.Startup → Contains journal (entry.Started b.pid kinds.Startup)

no_startup : (decision : Cac) → kind_for decision ≡ kinds.Startup → ⊥
no_startup decisions.Ok is = absurd cc
no_startup _ is = absurd cc

started_by : (k : ℕ) (s : Seating) (move : Move) (rest : List PmEvent) → AllByRecursion (IsStarted (entries_by s move ++ rest)) (begun_by k s move)
started_by k s (Notes (entry.Started pid kind) slot) rest =
    each_if (IsStarted (entry.Started pid kind ∷ rest)) (slot == k) (begins s.generation (entry.Started pid kind))
    ((λ is. (0, (let less : 0 < length (entry.Started pid kind ∷ rest) = omega arith in less), ap (λ (x : Kind). entry.Started pid x) is)), tt)
started_by k s (Notes (entry.Accepted pid decision) slot) rest =
    each_if (IsStarted (entry.Accepted pid decision ∷ rest)) (slot == k) (begins s.generation (entry.Accepted pid decision))
    ((λ is. absurd (no_startup decision is)), tt)
started_by k s (Notes noted slot) rest = each_if (IsStarted (noted ∷ rest)) (slot == k) [] tt
started_by k s (Reads line asks at) rest = tt
started_by k s (PortEnds at) rest = tt
started_by k s (PidsEnd at) rest = tt

pub all_started : (k : ℕ) (s : Seating) (moves : List Move) → AllByRecursion (IsStarted (entries_from s moves)) (begun_from k s moves)
all_started k s [] = tt
all_started k s (move ∷ moves) =
    let rest : List PmEvent = entries_from (seating_by s move) moves in
    each_both (IsStarted (entries_by s move ++ rest)) (begun_by k s move) (begun_from k (seating_by s move) moves) (started_by k s move rest)
    (each_so (IsStarted rest) (IsStarted (entries_by s move ++ rest)) (λ b its is. Contains-append_right (entries_by s move) rest (entry.Started b.pid kinds.Startup) (its is))
    (begun_from k (seating_by s move) moves) (all_started k (seating_by s move) moves))

-- ---- the last checkpointer

-- it isn't the end of a checkpointer
abbrev pub IsNoCloser : Ended → Type 0
IsNoCloser end = is_checkpointer end.kind ≡ false

dead_closes_none : (kind : Kind) → is_dead_end kind ≡ true → is_checkpointer kind ≡ false
dead_closes_none kinds.Checkpointer is = sym is
dead_closes_none _ is = refl

closes_none : (k : ℕ) (s : Seating) (move : Move) → AllByRecursion StartsNothing (entries_by s move) → AllByRecursion IsNoCloser (ended_by k move)
closes_none k s (Notes (entry.Exited pid kind status was_active at) slot) nothing =
    each_if IsNoCloser (slot == k) (record { pid = pid; kind = kind; status = status; was_active = was_active } ∷ []) (dead_closes_none kind nothing.0, tt)
closes_none k s (Notes noted slot) nothing = each_if IsNoCloser (slot == k) [] tt
closes_none k s (Reads line asks at) nothing = tt
closes_none k s (PortEnds at) nothing = tt
closes_none k s (PidsEnd at) nothing = tt

-- where nothing is started, and no child ends but one that refuses a connection
pub none_closes : (k : ℕ) (s : Seating) (moves : List Move) → AllByRecursion StartsNothing (entries_from s moves) → AllByRecursion IsNoCloser (flat_map (ended_by k) moves)
none_closes k s [] nothing = tt
none_closes k s (move ∷ moves) nothing =
    each_both IsNoCloser (ended_by k move) (flat_map (ended_by k) moves)
    (closes_none k s move (each_first StartsNothing (entries_by s move) (entries_from (seating_by s move) moves) nothing))
    (none_closes k (seating_by s move) moves (each_second StartsNothing (entries_by s move) (entries_from (seating_by s move) moves) nothing))
