-- A server begins.
use Rattle.std.{proofs.{Common.{◌≡◌, inl, ℕ, zero, suc, ◌+◌, ◌≤◌, List, [], ◌∷◌, refl, sym, ap, subst, ◌∙◌, length, arith, get_or, replicate}, lemmas.List.length-replicate}, specs.{Prelude.{true, false, Option, None, Some, IfSome, is_some}, List.{Contains, flat_map}}}
use Rattle.pm_board_acts.specs.{pm_board.{pm_board_words.declared.views.{SessionLimit.SessionLimit, PastChild.PastChild, RosterView.RosterView, Sight.TheVariants.Unused, SlotView.SlotView}, Children.{children_of, count_of}, Places.{is_connection, slot_at, slot_view}, Told.new_roster}, pm_supervisor_journal.{Standing.{Standing, nothing_done}, Stands.AtWork, Due.is_last_drawn}, Standing.{IsAt, IsUnbegun, view}, pm_state.declared.event.PmEvent.PmEvent}
use Rattle.pm_serve_pool.specs.{Plan.sessions_of, pm_serve_crew.Redos.redo_told, pm_store_shared.{declared.views.Noted.Noted, Log.noted}}
use Rattle.pm_server_lines.{specs.Log.HasSaid, proofs.LogLaws.said_first}
use Rattle.pm_worker.specs.{pm_outside.Visits.{Visits, no_visits}, pm_query.declared.book.BookEntry.TheVariants.Opened, declared.mail.MailTold.MailTold}
use Rattle.pm_postmaster.specs.{Served.slots_by, Links.{AcceptedConnection, HasLinks}, Looking.came_of, Requests.{MayOwe, ended_in}, Serving.{IsServing, KillsAll, Outset, Renews, RemembersLast}, View.View, declared.came.LastCame.LastCame}
use Rattle.pm_supervisor.{specs.{declared.Limits.Limits, Limits.IsWithinLimits, Children.{one_if, is_checkpointer, is_startup_child}}, proofs.CountLaws.at_most_one}

abbrev no_slot : SlotView MailTold
no_slot = slot_view [] Unused

-- nobody was released yet
abbrev nobody_came : LastCame
nobody_came = record { startup = None; checkpointer = None }

none_counted : (n : ℕ) → count_of is_connection (children_of (replicate n no_slot)) ≡ 0
none_counted zero = refl
none_counted (suc n) = omega (arith, none_counted n)

-- a slot of a new board
new_slot : (count k : ℕ) → get_or (replicate count no_slot) k no_slot ≡ no_slot
new_slot zero k = refl
new_slot (suc n) zero = refl
new_slot (suc n) (suc k) = new_slot n k

module _ (count : ℕ) (limit : SessionLimit) (posts : ℕ) where
  abbrev new_board : RosterView MailTold
  new_board = new_roster count limit posts

  new_past : (k : ℕ) → (slot_at new_board k).past ≡ []
  new_past k = ap (λ (x : SlotView MailTold). x.past) (new_slot count k)

  new_links : HasLinks 0 new_board no_visits
  new_links = record {
    given = refl;
    out = (let none = none_counted count in omega (arith, none));
    back = λ k child has. absurd (let one : Contains [] child = subst (λ (xs : List (PastChild MailTold)). Contains xs child) (new_past k) has in let near = one.1 in omega (arith, near));
  }

  new_redos : (k : ℕ) → flat_map redo_told (slot_at new_board k).past ≡ []
  new_redos k = ap (λ (xs : List (PastChild MailTold)). flat_map redo_told xs) (new_past k)

  new_came : RemembersLast nobody_came new_board
  new_came = record { startup = sym (ap (came_of is_startup_child) (new_past 0)); checkpointer = sym (ap (came_of is_checkpointer) (new_past 1)) }

new_renews : (own : List Noted) → own ≡ noted 0 (Opened 1) ∷ [] → Renews [] [] own
new_renews own is = subst (λ (o : List Noted). Renews [] [] o) (sym is)
    (record { lost_is = refl; opened = refl; gone = (record { others = []; is = refl; apart = λ pid. omega arith }, tt); inside = (tt, tt); fresh = refl })

-- a server that begins as it is now
abbrev pub outset_of : {D C : Type 0} → Limits → ℕ → View D C → Outset D C
outset_of limits count v = record {
  limits = limits;
  count = count;
  table = v.table;
  shared = v.shared;
  log = v.log;
  clock = v.clock;
  tells = is_some v.work.told;
}

module _ {D C : Type 0} (gives : C → ℕ → Type 0) where
  begins : (outset : Outset D C) (v : View D C) (limit : SessionLimit) (posts : ℕ) → IsAt outset.limits outset.count [] (view v.work v.board)
      → v.work.standing ≡ nothing_done outset.limits → v.board ≡ new_roster outset.count limit posts → limit ≡ sessions_of outset.limits
      → v.table ≡ outset.table → v.shared ≡ outset.shared → v.clock ≡ outset.clock → v.log ≡ outset.log → outset.log.is_cut ≡ false
      → is_some v.work.told ≡ outset.tells → IfSome v.visits (λ visits. visits ≡ no_visits)
      → v.shared.generation ≡ 1 → v.shared.own ≡ noted 0 (Opened 1) ∷ [] → v.lost ≡ [] → v.came ≡ nobody_came → IfSome v.lines (λ lines. lines ≡ []) → IsServing gives outset v
  begins outset v limit posts at standing board allowed table shared clock log uncut tells visits generation own lost came lines = record {
    moves = [];
    at = at;
    holds = record {
      stays = record {
        table = table;
        home = ap (λ s. s.table) shared;
        tokens = ap (λ s. s.tokens) shared;
        joined = ap (λ s. s.joined) shared;
        disk = ap (λ s. s.first) shared;
        clock = clock;
      };
      slots = ap (λ (d : RosterView MailTold). length d.slots) board ∙ length-replicate outset.count no_slot;
      limit = ap (λ (d : RosterView MailTold). d.session_limit) board ∙ allowed;
      tells = tells;
      times = tt;
      said = subst (λ l. HasSaid [] outset.log l) (sym log) (said_first outset.log uncut);
      links = by v.visits visits;
      served = λ n c is. absurd (let no_ : ◌≡◌ {A = Option AcceptedConnection} None (Some c) = is in cc);
    };
    moments = record { last = inl (ap (λ s. s.moment) standing); called = λ kills. absurd (subst (λ s. KillsAll s.due) standing kills) };
    generation = generation ∙ sym (ap (λ s. s.generation) standing);
    renews = subst (λ (l : List ℕ). Renews [] l v.shared.own) (sym lost) (new_renews v.shared.own own);
    redos = λ k. ap (λ (d : RosterView MailTold). flat_map redo_told (slot_at d k).past) board ∙ new_redos outset.count limit posts k;
    came = subst (λ (c : LastCame). RemembersLast c v.board) (sym came)
        (subst (λ (d : RosterView MailTold). RemembersLast nobody_came d) (sym board) (new_came outset.count limit posts));
    asks = record {
      read = tt;
      alone = tt;
      lines_are = lines;
      port = unended v.visits visits;
      before_end = (let few = at_most_one v.listens in omega (arith, few));
      pids = (let none : one_if v.work.standing.owes_smart ≡ one_if (is_last_drawn v.work.standing.last_pid) =
          subst (λ (s : Standing). one_if s.owes_smart ≡ one_if (is_last_drawn s.last_pid)) (sym standing) refl in omega (arith, none));
      owed = subst (λ (s : Standing). s.owes_smart ≡ true → MayOwe s) (sym standing) (λ owes. absurd (let no_ : false ≡ true = owes in cc));
    };
  }
    where
      unended : (its : Option Visits) → IfSome its (λ visits. visits ≡ no_visits) → IfSome (ended_in its) (λ it. it ≡ None)
      unended None new = tt
      unended (Some its) new = ap (λ (x : Visits). x.ended_behind) new

      by : (its : Option Visits) → IfSome its (λ visits. visits ≡ no_visits) → IfSome its (HasLinks 0 v.board)
      by None new = tt
      by (Some its) new = subst (λ (x : Visits). HasLinks 0 v.board x) (sym new) (subst (λ (d : RosterView MailTold). HasLinks 0 d no_visits) (sym board) (new_links outset.count limit posts))

  -- a new server serves
  pub begun : (limits : Limits) (v : View D C) (work : AtWork) (board : RosterView MailTold)
      → 1 ≤ limits.max_connections + limits.max_worker_processes → IsWithinLimits limits
      → work.standing ≡ nothing_done limits → (told : Option (List PmEvent)) → work.told ≡ told → IfSome told (λ entries. entries ≡ []) → board ≡ new_roster (slots_by limits) (sessions_of limits) (slots_by limits)
      → v.work ≡ work → v.board ≡ board → ((count : ℕ) → IsUnbegun limits count (view work board) → IsAt limits count [] (view v.work v.board))
      → v.log.is_cut ≡ false → IfSome v.visits (λ visits. visits ≡ no_visits) → v.shared.generation ≡ 1 → v.shared.own ≡ noted 0 (Opened 1) ∷ [] → v.lost ≡ [] → v.came ≡ nobody_came
      → IfSome v.lines (λ lines. lines ≡ []) → IsServing gives (outset_of limits (slots_by limits) v) v
  begun limits v work board some within standing told tells empty new same_work same_board stands uncut visits generation own lost came lines =
      let slots : ℕ = slots_by limits in
      let at = stands slots (record {
        standing = standing;
        told = subst (λ (t : Option (List PmEvent)). IfSome t (λ entries. entries ≡ [])) (sym tells) empty;
        session_limit = sessions_of limits;
        posts = slots;
        board = new;
        many = omega (arith, some);
        few = (let most = within.few in omega (arith, most));
      }) in
      begins (outset_of limits slots v) v (sessions_of limits) slots at (ap (λ (w : AtWork). w.standing) same_work ∙ standing) (same_board ∙ new) refl refl refl refl refl uncut refl
      visits generation own lost came lines
