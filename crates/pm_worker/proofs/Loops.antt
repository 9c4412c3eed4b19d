-- What a worker has done, one run longer.
use Rattle.std.{proofs.{Common.{ℕ, ◌≡◌, ◌≤◌, ◌∙◌, ◌++◌, List, [], ◌∷◌, Option, map, ap, sym, refl, subst, arith}, lemmas.{List.{append-nil, append_assoc}, Grind.flat_map-append}}, specs.List.{flat_map, AllByRecursion}}
use Rattle.pm_query.specs.{pm_facts.Lists.each_more, declared.book.BookEntry.BookEntry, Calls.{DiskFact, unread_for}}
use Rattle.pm_board.specs.{pm_board_words.declared.views.Work.TheVariants.Idle, Models.PostModel, Slots.child_slots}
use Rattle.pm_worker.specs.{declared.mail.MailTold.MailTold, Runs.{Run, IsRun, IsKnownBy, noted_by, HasRunOne, HasWorked}}

maps_more : {A B : Type 0} (f : A → B) (xs : List A) (x : A) → map f (xs ++ x ∷ []) ≡ map f xs ++ f x ∷ []
maps_more f [] x = refl
maps_more f (y ∷ xs) x = ap (λ zs. f y ∷ zs) (maps_more f xs x)

flat_more : {A B : Type 0} (f : A → List B) (xs : List A) (x : A) → flat_map f (xs ++ x ∷ []) ≡ flat_map f xs ++ f x
flat_more f xs x = flat_map-append f xs (x ∷ []) ∙ ap (λ ys. flat_map f xs ++ ys) (append-nil (f x))

-- a list that is one longer, of a list that these runs have made
grows : {A B : Type 0} (f : A → B) (before mid after : List B) (runs : List A) (run : A) → after ≡ mid ++ f run ∷ [] → mid ≡ before ++ map f runs → after ≡ before ++ map f (runs ++ run ∷ [])
grows f before mid after runs run a m = a ∙ (ap (λ xs. xs ++ f run ∷ []) m ∙ (append_assoc before (map f runs) (f run ∷ []) ∙ ap (λ xs. before ++ xs) (sym (maps_more f runs run))))

grows_by : {A B : Type 0} (f : A → List B) (before mid after : List B) (runs : List A) (run : A) → after ≡ mid ++ f run → mid ≡ before ++ flat_map f runs → after ≡ before ++ flat_map f (runs ++ run ∷ [])
grows_by f before mid after runs run a m = a ∙ (ap (λ xs. xs ++ f run) m ∙ (append_assoc before (flat_map f runs) (f run) ∙ ap (λ xs. before ++ xs) (sym (flat_more f runs run))))

-- the post looked, or started a child
pub record Looked (before now : PostModel MailTold) : Type 0 where
  pub table : now.table ≡ before.table
  pub slot : now.slot ≡ before.slot
  pub past : now.knows.past ≡ before.knows.past
  pub heard : now.knows.notes.heard ≡ before.knows.notes.heard
  pub looks : now.knows.notes.looked ≡ before.knows.notes.looked
  pub cancels : now.knows.notes.cancels ≡ before.knows.notes.cancels

-- what was known of runs is known later still
known_later : (before now : ℕ) (knew knows : DiskFact → Type 0) (runs : List Run) → before ≤ now → ((fact : DiskFact) → knew fact → knows fact) → AllByRecursion (IsKnownBy before knew) runs
    → AllByRecursion (IsKnownBy now knows) runs
known_later before now knew knows [] rises keeps all = tt
known_later before now knew knows (run ∷ runs) rises keeps all = (
  record {
    met_by_then = omega (arith, all.0.met_by_then, rises);
    reason = λ fault kept first back. keeps (unread_for fault) (all.0.reason fault kept first back);
  },
  known_later before now knew knows runs rises keeps all.1,
)

module _ {S : Type 0} (notes : List BookEntry → S → S → Type 0) (met : S → ℕ) (learned : S → DiskFact → Type 0) (stamp : Option ℕ) (seed : List ℕ) (limit : ℕ) (gives : ℕ → Type 0) where
  pub nothing : (post : PostModel MailTold) (store : S) → post.knows.work ≡ Idle → notes [] store store → HasWorked notes met learned stamp seed limit gives [] post post store store
  nothing post store idle rest =
      record {
        each = tt;
        post =
            record {
              table = refl;
              slot = refl;
              idle = idle;
              past = sym (append-nil post.knows.past);
              heard = sym (append-nil post.knows.notes.heard);
              slots = tt;
              looked = sym (append-nil post.knows.notes.looked);
              cancels = sym (append-nil post.knows.notes.cancels);
            };
        store = rest;
        known = tt;
      }

  -- a look that found no child
  pub looked : (runs : List Run) (begun before now : PostModel MailTold) (s0 s1 : S) → HasWorked notes met learned stamp seed limit gives runs begun before s0 s1 → Looked before now → now.knows.work ≡ Idle
      → HasWorked notes met learned stamp seed limit gives runs begun now s0 s1
  looked runs begun before now s0 s1 w l idle =
      record {
        each = w.each;
        post =
            record {
              table = l.table ∙ w.post.table;
              slot = l.slot ∙ w.post.slot;
              idle = idle;
              past = l.past ∙ w.post.past;
              heard = l.heard ∙ w.post.heard;
              slots = w.post.slots;
              looked = l.looks ∙ w.post.looked;
              cancels = l.cancels ∙ w.post.cancels;
            };
        store = w.store;
        known = w.known;
      }

  -- a child that was started and has ended
  pub ran : (in_turn : (before between now : S) (first second : List BookEntry) → notes first before between → notes second between now → notes (first ++ second) before now)
      (rises : (before now : S) (entries : List BookEntry) → notes entries before now → met before ≤ met now)
      (keeps : (before now : S) (entries : List BookEntry) → notes entries before now → (fact : DiskFact) → learned before fact → learned now fact)
      (runs : List Run) (begun before started now : PostModel MailTold) (s0 s1 s2 : S) → HasWorked notes met learned stamp seed limit gives runs begun before s0 s1
      → Looked before started → (one : HasRunOne notes met learned stamp seed limit gives started now s1 s2) → HasWorked notes met learned stamp seed limit gives (runs ++ one.run ∷ []) begun now s0 s2
  ran in_turn rises keeps runs begun before started now s0 s1 s2 w l one =
      let run = one.run in
      let has = one.post in
      record {
        each = each_more (IsRun stamp seed limit gives) runs run w.each one.is;
        post =
            record {
              table = has.table ∙ (l.table ∙ w.post.table);
              slot = has.slot ∙ (l.slot ∙ w.post.slot);
              idle = has.idle;
              past = grows (λ (r : Run). r.child) begun.knows.past started.knows.past now.knows.past runs run has.past (l.past ∙ w.post.past);
              heard = grows (λ (r : Run). r.heard) begun.knows.notes.heard started.knows.notes.heard now.knows.notes.heard runs run has.heard (l.heard ∙ w.post.heard);
              slots = each_more (λ (r : Run). r.slots ≡ child_slots begun.table.slots) runs run w.post.slots (has.slots ∙ ap (λ t. child_slots t.slots) (l.table ∙ w.post.table));
              looked = grows_by (λ (r : Run). r.looked) begun.knows.notes.looked started.knows.notes.looked now.knows.notes.looked runs run has.looked (l.looks ∙ w.post.looked);
              cancels = grows_by (λ (r : Run). r.made) begun.knows.notes.cancels started.knows.notes.cancels now.knows.notes.cancels runs run has.cancels (l.cancels ∙ w.post.cancels);
            };
        store = subst (λ es. notes es s0 s2) (sym (flat_more (λ (r : Run). r.noted) runs run)) (in_turn s0 s1 s2 (noted_by runs) run.noted w.store one.store);
        known = each_more (IsKnownBy (met s2) (learned s2)) runs run (known_later (met s1) (met s2) (learned s1) (learned s2) runs (rises s1 s2 run.noted one.store) (keeps s1 s2 run.noted one.store) w.known) one.known;
      }
