-- The changes of a file made again, up to a tick.
use Rattle.std.{proofs.{Common.{◌≡◌, ℕ, ◌+◌, ◌≤◌, List, [], ◌∷◌, ◌++◌, length, drop, append-nil, refl, sym, ◌∙◌, ap, subst, arith}, lemmas.List.{drop_all, Elements.All-push}}, specs.{Prelude.{fold, filter, nat_le, Vec}, declared.alloc.Global.Global}}
use Rattle.pm_disk.{specs.{Files.overwritten, Past.{IsKept, MayLeave, State, after_sync, changed, empty, state_at}, declared.mem_file.{Change.TheVariants.{Written, Synced}, Entry.Entry, Replayed.Replayed}, Stop.Tells}, proofs.{AsRead.kept, Replay.state_at-push_now}}

abbrev through : ℕ → State → List Entry → State
through tick state entries = fold (λ s e. changed s e.change) state (filter (λ e. nat_le e.tick tick) entries)

-- so many entries have been looked at
pub record Replaying (past : List Entry) (tick index : ℕ) (replayed : Replayed) : Type 0 where
  pub state : State
  pub tells : Tells replayed state
  pub rest : through tick state (drop index past) ≡ state_at past tick

pub replaying_none : (past : List Entry) (tick : ℕ) (replayed : Replayed) → replayed.bytes.items ≡ [] → replayed.synced ≡ 0 → replayed.written.items ≡ [] → Replaying past tick 0 replayed
unfolding state_at
replaying_none past tick replayed none no_length no_spans = record { state = empty; tells = record { read = sym none; synced = sym no_length; written = sym no_spans }; rest = refl }

overwritten_none : (bytes : List ℕ) → overwritten [] 0 bytes ≡ bytes
overwritten_none bytes = ap (λ (l : List ℕ). bytes ++ l) (drop_all (0 + length bytes) [] (omega arith)) ∙ append-nil bytes

-- all of a file's bytes were synced before the first call
abbrev settled_past : Vec ℕ Global → List Entry
settled_past copy = ([] ++ record { tick = 0; change = Written 0 copy } ∷ []) ++ record { tick = 0; change = Synced } ∷ []

settled_state : (copy : Vec ℕ Global) (t : ℕ) → state_at (settled_past copy) t ≡ record { read = copy.items; synced = copy.items; written = [] }
settled_state copy t =
    let write : Entry = record { tick = 0; change = Written 0 copy } in
    let sync : Entry = record { tick = 0; change = Synced } in
    let blank : state_at [] t ≡ empty = unfold state_at in refl in
    state_at-push_now ([] ++ write ∷ []) sync t (omega arith)
    ∙ ap (λ (s : State). changed s Synced) (state_at-push_now [] write t (omega arith) ∙ ap (λ (s : State). changed s write.change) blank)
    ∙ ap (λ (l : List ℕ). after_sync (record { read = l; synced = []; written = record { at = 0; count = length copy.items } ∷ [] })) (overwritten_none copy.items)

pub settled_kept : (past : List Entry) (copy : Vec ℕ Global) (bytes : List ℕ) → copy.items ≡ bytes → past ≡ settled_past copy → IsKept past bytes 0
settled_kept past copy bytes same is = kept past bytes 0
    (rw is (All-push (λ (e : Entry). e.tick ≤ 0) ([] ++ record { tick = 0; change = Written 0 copy } ∷ []) (record { tick = 0; change = Synced }) (All-push (λ (e : Entry). e.tick ≤ 0) [] (record { tick = 0; change = Written 0 copy }) (λ k d lt. absurd (omega arith)) (omega arith)) (omega arith)))
    (ap (λ (l : List Entry). (state_at l 0).read) is ∙ ap (λ (s : State). s.read) (settled_state copy 0) ∙ same)

pub settled_only : (past : List Entry) (copy : Vec ℕ Global) (bytes : List ℕ) → copy.items ≡ bytes → past ≡ settled_past copy
    → (t : ℕ) (image : List ℕ) → MayLeave (state_at past t) image → image ≡ bytes
settled_only past copy bytes same is t image left =
    let leaves : MayLeave (record { read = copy.items; synced = copy.items; written = [] }) image =
    subst (λ (s : State). MayLeave s image) (ap (λ (l : List Entry). state_at l t) is ∙ settled_state copy t) left in
    leaves.unwritten refl ∙ same
