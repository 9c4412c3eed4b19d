-- One more entry at the end of those that a file keeps.
use Rattle.std.{proofs.{Common.{◌≡◌, ℕ, suc, ◌+◌, ◌<◌, ◌≤◌, true, false, List, [], ◌∷◌, ◌++◌, append-nil, refl, sym, ◌∙◌, ap, arith}, lemmas.{List.{Elements.{All-push, filter-append}, Sums.fold-append}, Bool.Decides.nat_tests}}, specs.{Prelude.{All, filter, fold, nat_le, Vec}, declared.alloc.Global.Global}}
use Rattle.pm_disk.specs.{Past.{State, AddsChange, changed, after_write, after_sync, empty, state_at}, declared.mem_file.{Change.{Change, TheVariants.{Written, Synced}}, Entry.Entry}}

abbrev up_to : ℕ → List Entry → List Entry
up_to tick past = filter (λ entry. nat_le entry.tick tick) past

all_rest : (P : Entry → Type 0) (entry : Entry) (past : List Entry) → All P (entry ∷ past) → All P past
all_rest P entry past all = λ k d lt. all (suc k) d (omega arith)

-- where no entry is later, all count
up_to_all : (ticks later : ℕ) (past : List Entry) → All (λ entry. entry.tick ≤ ticks) past → ticks ≤ later → up_to later past ≡ past
up_to_all ticks later [] all le = refl
up_to_all ticks later (entry ∷ past) all le =
    let first : entry.tick ≤ ticks = all 0 entry (omega arith) in
    let counts : nat_le entry.tick later ≡ true = grind (arith, nat_tests) in
    let rest = up_to_all ticks later past (all_rest (λ e. e.tick ≤ ticks) entry past all) le in
    rw counts (ap (λ (l : List Entry). entry ∷ l) rest)

-- calls that change nothing leave the file as it was
pub state_at_later : (past : List Entry) (ticks later : ℕ) → All (λ entry. entry.tick ≤ ticks) past → ticks ≤ later → state_at past later ≡ state_at past ticks
unfolding state_at
state_at_later past ticks later all le =
    ap (λ (l : List Entry). fold (λ s e. changed s e.change) empty l) (up_to_all ticks later past all le ∙ sym (up_to_all ticks ticks past all (omega arith)))

pub state_at-push_now : (past : List Entry) (entry : Entry) (tick : ℕ) → entry.tick ≤ tick → state_at (past ++ entry ∷ []) tick ≡ changed (state_at past tick) entry.change
unfolding state_at
state_at-push_now past entry tick le =
    let counts : nat_le entry.tick tick ≡ true = grind (arith, nat_tests) in
    let one : up_to tick (entry ∷ []) ≡ entry ∷ [] = rw counts refl in
    ap (λ (l : List Entry). fold (λ s e. changed s e.change) empty l) (filter-append (λ e. nat_le e.tick tick) past (entry ∷ []) ∙ ap (λ (l : List Entry). up_to tick past ++ l) one)
    ∙ fold-append (λ s e. changed s e.change) empty (up_to tick past) (entry ∷ [])

state_at-push_then : (past : List Entry) (entry : Entry) (tick : ℕ) → tick < entry.tick → state_at (past ++ entry ∷ []) tick ≡ state_at past tick
unfolding state_at
state_at-push_then past entry tick lt =
    let skipped : nat_le entry.tick tick ≡ false = grind (arith, nat_tests) in
    let none : up_to tick (entry ∷ []) ≡ [] = rw skipped refl in
    ap (λ (l : List Entry). fold (λ s e. changed s e.change) empty l) (filter-append (λ e. nat_le e.tick tick) past (entry ∷ []) ∙ ap (λ (l : List Entry). up_to tick past ++ l) none ∙ append-nil (up_to tick past))

pub adds_change : (ticks : ℕ) (past : List Entry) (change : Change) → All (λ entry. entry.tick ≤ ticks) past → AddsChange ticks past (past ++ record { tick = ticks + 1; change = change } ∷ []) (λ state. changed state change)
adds_change ticks past change all =
    let entry : Entry = record { tick = ticks + 1; change = change } in
    let older : All (λ e. e.tick ≤ ticks + 1) past = λ k d lt. (let was = all k d lt in omega arith) in
    record {
      earlier = All-push (λ e. e.tick ≤ ticks + 1) past entry older (omega arith);
      past = λ t le. state_at-push_then past entry t (omega arith);
      now = state_at-push_now past entry (ticks + 1) (omega arith) ∙ ap (λ (s : State). changed s change) (state_at_later past ticks (ticks + 1) all (omega arith));
    }

pub adds_write : (ticks at : ℕ) (past new : List Entry) (copy : Vec ℕ Global) (bytes : List ℕ) → All (λ entry. entry.tick ≤ ticks) past
    → copy.items ≡ bytes → new ≡ past ++ record { tick = ticks + 1; change = Written at copy } ∷ []
    → AddsChange ticks past new (λ state. after_write state at bytes)
adds_write ticks at past new copy bytes all same is = rw (is, ← same) (adds_change ticks past (Written at copy) all)

pub adds_sync : (ticks : ℕ) (past new : List Entry) → All (λ entry. entry.tick ≤ ticks) past
    → new ≡ past ++ record { tick = ticks + 1; change = Synced } ∷ [] → AddsChange ticks past new after_sync
adds_sync ticks past new all is = rw is (adds_change ticks past Synced all)
