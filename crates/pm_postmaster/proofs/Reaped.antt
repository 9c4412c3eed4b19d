-- A look at a slot.
use Rattle.std.{proofs.Common.{◌≡◌, inl, inr, ℕ, ◌<◌, List, [], ◌∷◌, ◌++◌, refl, sym, ap, subst, ◌∙◌, length, arith, append-nil, nat_eq}, specs.Prelude.{Bool, true, false, if◌then◌else◌, Option, None, Some, IfSome, is_some, option_map, unwrap_or}}
use Rattle.pm_server.specs.{pm_facts.Bools.by_test, pm_exit.declared.child.{Kind.Kind, Status.Status}, pm_supervisor_journal.{declared.{exit.ChildExit.ChildExit, roll.Enrolled.Enrolled}, Laws.KeepsALegalJournal, Standing.{Standing, all_noted, called, ends_redo, exit_call, exit_entry, exiting, later, made}, Stands.AtWork}, pm_outside.Visits.Visits, declared.end.ServerEnd.TheVariants.NoMemory, pm_state.{declared.event.PmEvent.PmEvent, Journal.lines_of}, pm_supervisor.Children.{is_checkpointer, is_startup_child}}
use Rattle.pm_server.specs.pm_exit.declared.child.Kind.TheVariants as kinds
use Rattle.pm_board_acts.specs.pm_board.pm_board_words.declared.views.Letter as Letter
use Rattle.pm_board_acts.{specs.{pm_board.{pm_board_words.declared.views.{Offer.Offer, RosterNotes.RosterNotes, RosterView.RosterView, PastChild.PastChild, Sight.TheVariants.{Assigned, Unused}, SlotView.SlotView}, declared.roster.Released.Released, Children.CountsChildren, Models.SlotBecame, Places.slot_at, Told.{past_child, released_slot}}, pm_supervisor_chain.Chain.{lost_from, resets_of, lost_since}, Board.{SeenAs, seat_at, seats_of}, Calls.{IsCutOff, exit_of, exits, kept_by}, Mails.kept_told, Chained.pids_accepted, Final.MayEndAnywhere, Seating.{Move, journal_of}, Sitting.{HasFoundNone, HasReaped}, Standing.view, pm_worker.{declared.mail.MailTold.MailTold, Mails.ComesBack}}, proofs.FoldingLaws.{journal-notes, none_more}}
use Rattle.pm_server_lines.{specs.Log.HasSaid, proofs.LogLaws.said_same}
use Rattle.pm_serve_pool.specs.{pm_serve_crew.Renewals.RenewsAsTold, pm_store_shared.declared.views.Noted.Noted}
use Rattle.pm_board_acts.specs.Standing as seating
use Rattle.pm_server.specs.pm_state.declared.event.PmEvent.TheVariants as entry
use Rattle.pm_board_acts.specs.pm_worker.declared.mail.MailTold.TheVariants as mail
use Rattle.pm_postmaster.{specs.{Links.{HasLinks, KeepsServed}, declared.came.{Came.Came, LastCame.LastCame}, Looking.{MayComeBack, TakesIn, came_by, came_from, came_of, lost_with, opened, came_out, last_with}, Serving.{HasStopped, Holds, IsServing, Moments, Outset, Renews}, View.View, Requests.{IsAsked, ended_in}}, proofs.{Calling.IsBeside, Asked.{asked_all, ended_opened, none_asked, owes_same}, Owed.{exits_ask_none, owes_exited}, Going.{GoesBy, Leaves, LeavesAsking, LeavesOutside, LeavesStore, asks_nothing, drawn_at, holds_on, pid_at, serves_on}, Linking.{is_out, links_released, links_running, links_same}, Offers.{served_found, served_on, served_released}, Moments.{exited_given, exited_moments, later_given}, Redoing.{redos_behind, redos_exited, redos_told}, Renewing.{renews_as_told, renews_exited}, Steps.{count_more, quiet_none}}}

-- ---- links

-- a child was released, and its mail opened
pub record Leaving (k : ℕ) (kind : Kind) (status : Status) (active : Bool) (back : MailTold) (d e : RosterView MailTold) : Type 0 where
  pub near : k < length d.slots
  pub offer : Offer MailTold
  pub sight : (slot_at d k).sight ≡ Assigned offer
  pub notes : RosterNotes
  pub became : SlotBecame k (released_slot (slot_at d k) (past_child offer status active back)) notes d e
  pub kind_is : offer.kind ≡ kind
  pub comes : ComesBack back offer.kind status
  pub generation : offer.generation ≡ d.generation

pub released_by : {J : Type 0} (letter : Letter.Ghosts J MailTold) (k : ℕ) (c : Enrolled) (released : Released J) (d e : RosterView MailTold) → k < length d.slots
    → HasReaped letter k c released d e → ComesBack (letter.told released.job) released.kind released.status
    → Leaving k released.kind released.status released.was_active (letter.told released.job) d e
released_by letter k c released d e near has comes = record {
  near = near;
  offer = has.sits.offer;
  sight = has.sits.sight;
  notes = _;
  became = has.became;
  kind_is = has.sits.kind ∙ sym has.kind;
  comes = subst (λ (kind : Kind). ComesBack (letter.told released.job) kind released.status) (has.kind ∙ sym has.sits.kind) comes;
  generation = has.sits.generation;
}

-- where its mail has a link, one is out
pub may_come : CountsChildren → (n k : ℕ) (kind : Kind) (status : Status) (active : Bool) (back : MailTold) (d e : RosterView MailTold) (visits : Option Visits) → Leaving k kind status active back d e
    → IfSome visits (HasLinks n d) → MayComeBack back visits
may_come counts n k kind status active (mail.Served link) d e None has was = tt
may_come counts n k kind status active (mail.Served link) d e (Some visits) has was =
    let out = was.out in let one = is_out k d e counts has.offer link status has.near has.sight has.comes in omega (arith, out, one)
may_come counts n k kind status active (mail.Serve link decision) d e visits has was = tt
may_come counts n k kind status active mail.Startup d e visits has was = tt
may_come counts n k kind status active mail.Checkpointer d e visits has was = tt
may_come counts n k kind status active mail.Writer d e visits has was = tt
may_come counts n k kind status active mail.Close d e visits has was = tt
may_come counts n k kind status active (mail.Aux fault kept) d e visits has was = tt

pub links_back : CountsChildren → (n m k : ℕ) (kind : Kind) (status : Status) (active : Bool) (back : MailTold) (d e : RosterView MailTold) (visits now : Option Visits)
    → Leaving k kind status active back d e → now ≡ option_map (opened back) visits → m ≡ n → IfSome visits (HasLinks n d) → IfSome now (HasLinks m e)
links_back counts n m k kind status active back d e visits now has is count was = subst (λ (v : Option Visits). IfSome v (HasLinks m e)) (sym is) (by visits was)
  where
    by : (v : Option Visits) → IfSome v (HasLinks n d) → IfSome (option_map (opened back) v) (HasLinks m e)
    by None had = tt
    by (Some its) had =
        subst (λ (x : ℕ). HasLinks x e (opened back its)) (sym count)
        (links_released k d e counts n has.offer status active back has.notes its has.near has.sight has.became has.comes had)

pub links_still : (n m k : ℕ) (d e : RosterView MailTold) (visits now : Option Visits) → k < length d.slots → HasFoundNone k d e → now ≡ visits → m ≡ n
    → IfSome visits (HasLinks n d) → IfSome now (HasLinks m e)
links_still n m k d e visits now near found is count was = subst (λ (v : Option Visits). IfSome v (HasLinks m e)) (sym is) (by visits was)
  where
    one : (its : Visits) → HasFoundNone k d e → HasLinks n d its → HasLinks n e its
    one its (inl same) had = links_same n d e its (ap (λ (x : RosterView MailTold). x.slots) same) had
    one its (inr still) had = links_running k d e n still.1.sits.offer d.notes.last_connection _ its near still.1.sits.sight still.1.became had

    by : (v : Option Visits) → IfSome v (HasLinks n d) → IfSome v (HasLinks m e)
    by None had = tt
    by (Some its) had = subst (λ (x : ℕ). HasLinks x e its) (sym count) (one its found had)

-- who was offered a connection was so before
pub served_back : (k : ℕ) (kind : Kind) (status : Status) (active : Bool) (back : MailTold) (d e : RosterView MailTold) → Leaving k kind status active back d e → KeepsServed d e
served_back k kind status active back d e has = served_released k d e has.offer status active back has.notes has.sight has.became

-- links are numbered as before
pub numbered_back : (back : MailTold) (visits : Option Visits) → is_some (option_map (opened back) visits) ≡ is_some visits
numbered_back back None = refl
numbered_back back (Some its) = refl

pub slots_found : (k : ℕ) (d e : RosterView MailTold) → HasFoundNone k d e → length e.slots ≡ length d.slots
slots_found k d e (inl same) = ap (λ (x : RosterView MailTold). length x.slots) same
slots_found k d e (inr still) = still.1.became.count

-- the limit of sessions stays
pub limit_found : (k : ℕ) (d e : RosterView MailTold) → HasFoundNone k d e → e.session_limit ≡ d.session_limit
limit_found k d e (inl same) = ap (λ (x : RosterView MailTold). x.session_limit) same
limit_found k d e (inr still) = ap (λ (x : RosterView MailTold). x.session_limit) still.1.became.whole

pub limit_back : (k : ℕ) (kind : Kind) (status : Status) (active : Bool) (back : MailTold) (d e : RosterView MailTold) → Leaving k kind status active back d e → e.session_limit ≡ d.session_limit
limit_back k kind status active back d e has = ap (λ (x : RosterView MailTold). x.session_limit) has.became.whole

-- ---- entries

abbrev exit_entries : (b : Bool) → ChildExit → ℕ → Standing → List PmEvent
exit_entries b exit at s = exit_entry exit at ∷ (if b then entry.RedoEnded s.generation (unwrap_or exit.kept 0) ∷ [] else [])

unsaid_by : (b : Bool) (exit : ChildExit) (at : ℕ) (s : Standing) → lines_of (exit_entries b exit at s) ≡ []
unsaid_by true exit at s = refl
unsaid_by false exit at s = refl

alone_by : (b : Bool) (exit : ChildExit) (at : ℕ) (s : Standing) → pids_accepted (exit_entries b exit at s) ≡ []
alone_by true exit at s = refl
alone_by false exit at s = refl

same_by : (b : Bool) (exit : ChildExit) (at : ℕ) (s : Standing) → (all_noted (exit_entries b exit at s) (called (exit_call exit at) s)).generation ≡ s.generation
same_by true exit at s = refl
same_by false exit at s = refl

lost_by : (b : Bool) (exit : ChildExit) (at : ℕ) (s : Standing) (so : List ℕ) → lost_from so (exit_entries b exit at s) ≡ []
lost_by b exit at s so = by b exit.was_active
  where
    by : (c active : Bool) → lost_from so (entry.Exited exit.pid exit.kind exit.status active at ∷ (if c then entry.RedoEnded s.generation (unwrap_or exit.kept 0) ∷ [] else [])) ≡ []
    by true true = refl
    by true false = refl
    by false true = refl
    by false false = refl

resets_by : (b : Bool) (exit : ChildExit) (at : ℕ) (s : Standing) → resets_of (exit_entries b exit at s) ≡ []
resets_by true exit at s = refl
resets_by false exit at s = refl

since_by : (b : Bool) (exit : ChildExit) (at : ℕ) (s : Standing) (lost : List ℕ) → lost_since lost (exit_entries b exit at s) ≡ lost_with exit.pid exit.was_active lost
since_by b exit at s lost = by b exit.was_active
  where
    by : (c active : Bool) → lost_since lost (entry.Exited exit.pid exit.kind exit.status active at ∷ (if c then entry.RedoEnded s.generation (unwrap_or exit.kept 0) ∷ [] else []))
        ≡ lost_with exit.pid active lost
    by true true = refl
    by true false = refl
    by false true = refl
    by false false = refl

-- ---- startup children and checkpointers

pub came_push : (is_it : Kind → Bool) (so : Option Came) (past : List (PastChild MailTold)) (child : PastChild MailTold)
    → came_from is_it so (past ++ child ∷ []) ≡ last_with is_it child.offer.kind (came_out child.status child.back) (came_from is_it so past)
came_push is_it so [] child = refl
came_push is_it so (x ∷ past) child = came_push is_it (last_with is_it x.offer.kind (came_out x.status x.back) so) past child

-- such a child fits this slot alone
abbrev FitsAlone : (Kind → Bool) → ℕ → Type 0
FitsAlone is_it slot = (count k : ℕ) (kind : Kind) → is_it kind ≡ true → seating.SeatServes count k kind → k ≡ slot

startup_alone : FitsAlone is_startup_child 0
startup_alone count k kinds.Startup is has = has
startup_alone count k kinds.Checkpointer is has = absurd (let no_ : false ≡ true = is in cc)
startup_alone count k kinds.Writer is has = absurd (let no_ : false ≡ true = is in cc)
startup_alone count k kinds.Worker is has = absurd (let no_ : false ≡ true = is in cc)
startup_alone count k kinds.Backend is has = absurd (let no_ : false ≡ true = is in cc)
startup_alone count k kinds.DeadEnd is has = absurd (let no_ : false ≡ true = is in cc)

checkpointer_alone : FitsAlone is_checkpointer 1
checkpointer_alone count k kinds.Startup is has = absurd (let no_ : false ≡ true = is in cc)
checkpointer_alone count k kinds.Checkpointer is has = has
checkpointer_alone count k kinds.Writer is has = absurd (let no_ : false ≡ true = is in cc)
checkpointer_alone count k kinds.Worker is has = absurd (let no_ : false ≡ true = is in cc)
checkpointer_alone count k kinds.Backend is has = absurd (let no_ : false ≡ true = is in cc)
checkpointer_alone count k kinds.DeadEnd is has = absurd (let no_ : false ≡ true = is in cc)

-- and sits there
sits_alone : (is_it : Kind → Bool) (slot outset_count : ℕ) (moves : List Move) (d : RosterView MailTold) (seats : List (Option Enrolled)) (s : Standing) (k : ℕ) (o : Offer MailTold)
    → FitsAlone is_it slot → seating.IsSeated outset_count moves d seats s → k < length d.slots → (slot_at d k).sight ≡ Assigned o → is_it o.kind ≡ true → k ≡ slot
sits_alone is_it slot count moves d seats s k o alone seated near sight such =
    by (seat_at k seated.seating.seats) refl (seated.shows.each k (subst (λ (n : ℕ). k < n) (sym seated.shows.count) near))
  where
    by : (seat : Option Enrolled) → seat_at k seated.seating.seats ≡ seat → SeenAs seated.seating.generation seat (slot_at d k).sight → k ≡ slot
    by None is seen = absurd (let both : Unused ≡ Assigned o = sym seen ∙ sight in cc)
    by (Some c) is seen =
        let same : o ≡ seen.0 = (let both : Assigned o ≡ Assigned seen.0 = sym sight ∙ seen.1 in cc) in
        let kind : o.kind ≡ c.kind = ap (λ (x : Offer MailTold). x.kind) same ∙ seen.3 in
        alone (length seated.seating.seats) k c.kind (ap is_it (sym kind) ∙ such) (seated.right k c is)

came_reaped : (is_it : Kind → Bool) (slot k : ℕ) (kind : Kind) (status : Status) (active : Bool) (back : MailTold) (before now : Option Came) (d e : RosterView MailTold)
    (has : Leaving k kind status active back d e) → (is_it has.offer.kind ≡ true → k ≡ slot) → now ≡ last_with is_it has.offer.kind (came_out status back) before
    → before ≡ came_of is_it (slot_at d slot).past → now ≡ came_of is_it (slot_at e slot).past
came_reaped is_it slot k kind status active back before now d e has alone is was = by_test (nat_eq k slot) here there
  where
    here : nat_eq k slot ≡ true → now ≡ came_of is_it (slot_at e slot).past
    here at =
        let same : k ≡ slot = grind (arith, at) in
        is ∙ (ap (last_with is_it has.offer.kind (came_out status back)) (was ∙ ap (λ (j : ℕ). came_of is_it (slot_at d j).past) (sym same))
        ∙ (sym (came_push is_it None (slot_at d k).past (past_child has.offer status active back))
        ∙ (ap (λ (x : SlotView MailTold). came_of is_it x.past) (sym has.became.here) ∙ ap (λ (j : ℕ). came_of is_it (slot_at e j).past) same)))

    other : (b : Bool) → is_it has.offer.kind ≡ b → (b ≡ true → k ≡ slot) → nat_eq k slot ≡ false → last_with is_it has.offer.kind (came_out status back) before ≡ before
    other true kind same isnt = absurd (let z : k ≡ slot = same refl in grind (arith, isnt, z))
    other false kind same isnt = ap (λ (b : Bool). if b then Some (came_out status back) else before) kind

    there : nat_eq k slot ≡ false → now ≡ came_of is_it (slot_at e slot).past
    there isnt =
        is ∙ (other (is_it has.offer.kind) refl alone isnt ∙ (was
        ∙ ap (λ (x : SlotView MailTold). came_of is_it x.past) (sym (has.became.others slot (λ same. (let z : k ≡ slot = sym same in grind (arith, isnt, z)))))))

-- each slot has had those that it had, and that one one more
pub past_more : (k : ℕ) (kind : Kind) (status : Status) (active : Bool) (back : MailTold) (d e : RosterView MailTold) → Leaving k kind status active back d e
    → (j : ℕ) → (others : List (PastChild MailTold)) × ((slot_at e j).past ≡ (slot_at d j).past ++ others)
past_more k kind status active back d e has j = by_test (nat_eq j k)
    (λ is. (let same : j ≡ k = grind (arith, is) in (
      past_child has.offer status active back ∷ [],
      ap (λ (i : ℕ). (slot_at e i).past) same ∙ (ap (λ (x : SlotView MailTold). x.past) has.became.here
          ∙ ap (λ (i : ℕ). (slot_at d i).past ++ past_child has.offer status active back ∷ []) (sym same)),
    )))
    (λ isnt. ([], ap (λ (x : SlotView MailTold). x.past) (has.became.others j (grind (arith, isnt))) ∙ sym (append-nil (slot_at d j).past)))

module _ {D C : Type 0} (gives : C → ℕ → Type 0) (counts : CountsChildren) (outset : Outset D C) (before now : View D C) (leaves : Leaves gives before now)
    (shared : now.shared.generation ≡ before.shared.generation) (log : now.log ≡ before.log) where
  said_on : (earlier : List Move) (entries : List PmEvent) → lines_of entries ≡ [] → HasSaid (journal_of outset.count earlier) outset.log before.log
      → HasSaid (journal_of outset.count earlier ++ entries) outset.log now.log
  said_on earlier entries unsaid said =
      subst (HasSaid (journal_of outset.count earlier ++ entries) outset.log) (sym log) (said_same (journal_of outset.count earlier) entries outset.log before.log unsaid said)

  -- no end was found
  pub found_on : (k : ℕ) → k < length before.board.slots → seating.Goes [] (view before.work before.board) (view now.work now.board) → now.work ≡ before.work
      → HasFoundNone k before.board now.board → now.visits ≡ before.visits
      → LeavesStore gives before now → LeavesAsking gives before now → IsServing gives outset before → IsServing gives outset now
  found_on k near goes work found visits store asking was =
      let by : GoesBy gives outset was.moves [] [] before now = record {
        journal = none_more outset.count was.moves;
        given = tt;
        said = said_on was.moves [] refl;
        links = links_still _ _ k before.board now.board before.visits now.visits near found visits (count_more (journal_of outset.count was.moves) [] refl);
        numbered = ap is_some visits;
        served = served_on (is_some before.visits) (journal_of outset.count was.moves) [] before.board now.board refl (served_found k before.board now.board found);
        leaves = leaves;
        slots = slots_found k before.board now.board found;
        limit = limit_found k before.board now.board found;
      } in
      serves_on gives outset [] [] before now was by (goes outset.limits outset.count was.moves was.at)
      (subst (λ (w : AtWork). Moments (gives outset.clock) w.standing) (sym work) was.moments)
      (shared ∙ (was.generation ∙ ap (λ (w : AtWork). w.standing.generation) (sym work))) quiet_none (λ j. refl) store
      (asks_nothing gives outset [] before now none_asked asking (owes_same before.work.standing now.work.standing (ap (λ (w : AtWork). w.standing) work)))

  -- a child has ended, which was noted
  pub reaped_on : (k at : ℕ) (exit : ChildExit) (kind : Kind) (status : Status) (active : Bool) (back : MailTold) → gives before.clock at → (has : Leaving k kind status active back before.board now.board)
      → now.visits ≡ option_map (opened back) before.visits → exit.kind ≡ has.offer.kind → exit.status ≡ status → exit.was_active ≡ active
      → exit.kept ≡ kept_by has.offer.kind status (kept_told back) → now.lost ≡ lost_with exit.pid active before.lost
      → now.came ≡ came_by has.offer.kind status back before.came → now.shared.own ≡ before.shared.own
      → seating.Goes (exits k exit at before.work.standing) (view before.work before.board) (view now.work now.board)
      → now.work.standing ≡ made (exiting exit at before.work.standing) before.work.standing → LeavesAsking gives before now → before.work.standing.owes_smart ≡ false
      → IsServing gives outset before → IsServing gives outset now
  reaped_on k at exit kind status active back given released visits same_kind is_status is_active kept lost came own goes standing asking unowed was =
      let s : Standing = before.work.standing in
      let its : gives outset.clock at = subst (λ (c : C). gives c at) was.holds.stays.clock given in
      let late = later_given (gives outset.clock) at s its was.moments in
      let es : List PmEvent = (exiting exit at s).entries in
      let by : GoesBy gives outset was.moves (exits k exit at s) es before now = record {
        journal = journal-notes outset.count k was.moves es;
        given = exited_given (gives outset.clock) exit at s late;
        said = said_on was.moves es (unsaid_by (ends_redo exit) exit (later at s) s);
        links = links_back counts _ _ k kind status active back before.board now.board before.visits now.visits released visits
            (count_more (journal_of outset.count was.moves) es (alone_by (ends_redo exit) exit (later at s) s));
        numbered = ap is_some visits ∙ numbered_back back before.visits;
        served = served_on (is_some before.visits) (journal_of outset.count was.moves) es before.board now.board (alone_by (ends_redo exit) exit (later at s) s) (served_back k kind status active back before.board now.board released);
        leaves = leaves;
        slots = released.became.count;
        limit = limit_back k kind status active back before.board now.board released;
      } in
      record {
        moves = was.moves ++ exits k exit at s;
        at = goes outset.limits outset.count was.moves was.at;
        holds = holds_on gives outset was.moves (exits k exit at s) es before now by was.holds;
        moments = subst (Moments (gives outset.clock)) (sym standing) (exited_moments (gives outset.clock) exit at s late);
        generation = shared ∙ (was.generation ∙ sym (ap (λ (x : Standing). x.generation) standing ∙ same_by (ends_redo exit) exit (later at s) s));
        renews = subst (λ (js : List PmEvent). Renews js now.lost now.shared.own) (sym by.journal)
            (subst (λ (x : List Noted). Renews (journal_of outset.count was.moves ++ es) now.lost x) (sym own)
            (renews_exited (journal_of outset.count was.moves) before.lost before.shared.own es now.lost (lost_by (ends_redo exit) exit (later at s) s) (resets_by (ends_redo exit) exit (later at s) s)
            (since_by (ends_redo exit) exit (later at s) s before.lost ∙ (ap (λ (b : Bool). lost_with exit.pid b before.lost) is_active ∙ sym lost)) was.renews));
        redos = redos_exited was.moves k at exit s released.offer status active back released.notes before.board now.board released.became same_kind is_status kept
            (released.generation ∙ (was.at.seated.shows.generation ∙ sym was.at.seated.generation)) was.redos;
        came = record {
          startup = came_reaped is_startup_child 0 k kind status active back before.came.startup now.came.startup before.board now.board released
              (sits_alone is_startup_child 0 outset.count was.moves before.board (seats_of before.board) before.work.standing k released.offer startup_alone was.at.seated released.near released.sight)
              (ap (λ (c : LastCame). c.startup) came) was.came.startup;
          checkpointer = came_reaped is_checkpointer 1 k kind status active back before.came.checkpointer now.came.checkpointer before.board now.board released
              (sits_alone is_checkpointer 1 outset.count was.moves before.board (seats_of before.board) before.work.standing k released.offer checkpointer_alone was.at.seated released.near released.sight)
              (ap (λ (c : LastCame). c.checkpointer) came) was.came.checkpointer;
        };
        asks = asks_nothing gives outset (exits k exit at s) before now (exits_ask_none k at exit s) asking (owes_exited s now.work.standing exit at standing unowed) was;
      }

  -- a child has ended, and there was no memory to note it
  pub cut_on : MayEndAnywhere MailTold → KeepsALegalJournal → (k : ℕ) (kind : Kind) (status : Status) (active : Bool) (back : MailTold) → Leaving k kind status active back before.board now.board
      → now.visits ≡ option_map (opened back) before.visits → now.shared.own ≡ before.shared.own → IsCutOff (view before.work before.board) (view now.work now.board)
      → LeavesAsking gives before now → IsServing gives outset before → HasStopped gives outset NoMemory now
  cut_on may legal k kind status active back released visits own cut asking was =
      let by : GoesBy gives outset was.moves [] [] before now = record {
        journal = none_more outset.count was.moves;
        given = tt;
        said = said_on was.moves [] refl;
        links = links_back counts _ _ k kind status active back before.board now.board before.visits now.visits released visits
            (count_more (journal_of outset.count was.moves) [] refl);
        numbered = ap is_some visits ∙ numbered_back back before.visits;
        served = served_on (is_some before.visits) (journal_of outset.count was.moves) [] before.board now.board refl (served_back k kind status active back before.board now.board released);
        leaves = leaves;
        slots = released.became.count;
        limit = limit_back k kind status active back before.board now.board released;
      } in
      let ends = may.cut_off outset.limits outset.count was.moves before.work now.work before.board now.board was.at cut in
      record {
        moves = was.moves;
        ending = ends.0;
        pids = ends.1;
        legal = legal.legal outset.limits (journal_of outset.count was.moves) before.work.standing was.at.past was.at.stands;
        drawn = drawn_at legal outset.limits (journal_of outset.count was.moves) before.work.standing was.at.past was.at.stands;
        told = subst (λ (w : AtWork). IfSome w.told (λ entries. entries ≡ journal_of outset.count was.moves)) (sym cut.1) was.at.told;
        holds = subst (λ (ms : List Move). Holds gives outset ms now) (append-nil was.moves) (holds_on gives outset was.moves [] [] before now by was.holds);
        ends = tt;
        cause = tt;
        asked = subst (λ (n : ℕ). IsAsked NoMemory was.moves now.lines (ended_in now.visits) n)
            (pid_at outset.limits (journal_of outset.count was.moves) before.work.standing was.at.past was.at.stands)
            (subst (λ (l : Option (List (List ℕ))). IsAsked NoMemory was.moves l (ended_in now.visits) before.work.standing.last_pid) (sym asking.lines)
            (subst (λ (e : Option (Option ℕ)). IsAsked NoMemory was.moves before.lines e before.work.standing.last_pid) (sym asking.ended)
            (asked_all NoMemory was.moves before.lines (ended_in before.visits) before.listens before.work.standing was.asks (λ owes. refl))));
        renews = subst (λ (x : List Noted). RenewsAsTold (journal_of outset.count was.moves) x) (sym own)
            (renews_as_told (journal_of outset.count was.moves) before.lost before.shared.own was.renews);
        opened = λ enough. absurd (enough refl);
        redos = redos_behind was.moves before.board now.board (past_more k kind status active back before.board now.board released) (redos_told was.moves before.board was.at.seated.had.ended was.redos);
      }

-- ---- with what it leaves

module _ {D C J : Type 0} (gives : C → ℕ → Type 0) (counts : CountsChildren) (letter : Letter.Ghosts J MailTold) (k : ℕ) (c : Enrolled) (released : Released J)
    (before mid now : View D C) (near : k < length before.board.slots) (beside : IsBeside gives before mid) (has : HasReaped letter k c released before.board mid.board)
    (comes : ComesBack (letter.told released.job) released.kind released.status)
    (takes : TakesIn (letter.told released.job) released.pid released.kind released.status released.was_active mid now) (outside : LeavesOutside gives before mid) where
  leaving : Leaving k released.kind released.status released.was_active (letter.told released.job) before.board now.board
  leaving = subst (λ (d : RosterView MailTold). Leaving k released.kind released.status released.was_active (letter.told released.job) before.board d) (sym (ap (λ (v : View D C). v.board) takes))
      (released_by letter k c released before.board mid.board near has comes)

  left_so : Leaves gives before now
  left_so = record {
    table = ap (λ (v : View D C). v.table) takes ∙ beside.table;
    home = ap (λ (v : View D C). v.shared.table) takes ∙ ap (λ s. s.table) beside.shared;
    tokens = ap (λ (v : View D C). v.shared.tokens) takes ∙ ap (λ s. s.tokens) beside.shared;
    joined = ap (λ (v : View D C). v.shared.joined) takes ∙ ap (λ s. s.joined) beside.shared;
    disk = ap (λ (v : View D C). v.shared.first) takes ∙ ap (λ s. s.first) beside.shared;
    clock = ap (λ (v : View D C). v.clock) takes ∙ beside.clock;
    tells = ap (λ (v : View D C). is_some v.work.told) takes ∙ beside.tells;
  }

  visits_so : now.visits ≡ option_map (opened (letter.told released.job)) before.visits
  visits_so = ap (λ (v : View D C). v.visits) takes ∙ ap (option_map (opened (letter.told released.job))) outside.visits

  asking_so : LeavesAsking gives before now
  asking_so = record {
    lines = ap (λ (v : View D C). v.lines) takes ∙ outside.lines;
    ended = ap ended_in visits_so ∙ ended_opened (letter.told released.job) before.visits;
    listens = ap (λ (v : View D C). v.listens) takes ∙ outside.listens;
  }

  own_so : now.shared.own ≡ before.shared.own
  own_so = ap (λ (v : View D C). v.shared.own) takes ∙ ap (λ s. s.own) beside.shared

  -- its end was noted
  pub ended_on : (outset : Outset D C) (at : ℕ) → gives before.clock at
      → seating.Goes (exits k (exit_of (kept_told (letter.told released.job)) released) at before.work.standing) (view before.work before.board) (view mid.work mid.board)
      → mid.work.standing ≡ made (exiting (exit_of (kept_told (letter.told released.job)) released) at before.work.standing) before.work.standing
      → before.work.standing.owes_smart ≡ false → IsServing gives outset before → IsServing gives outset now
  ended_on outset at given goes standing unowed was =
      let exit : ChildExit = exit_of (kept_told (letter.told released.job)) released in
      let kind : released.kind ≡ leaving.offer.kind = sym leaving.kind_is in
      reaped_on gives counts outset before now left_so (ap (λ (v : View D C). v.shared.generation) takes ∙ ap (λ s. s.generation) beside.shared)
      (ap (λ (v : View D C). v.log) takes ∙ beside.log) k at exit released.kind released.status released.was_active (letter.told released.job) given leaving visits_so kind refl refl
      (ap (λ (x : Kind). kept_by x released.status (kept_told (letter.told released.job))) kind)
      (ap (λ (v : View D C). v.lost) takes ∙ ap (lost_with released.pid released.was_active) beside.lost)
      (ap (λ (v : View D C). v.came) takes ∙ (ap (λ (x : Kind). came_by x released.status (letter.told released.job) mid.came) kind
      ∙ ap (came_by leaving.offer.kind released.status (letter.told released.job)) beside.came))
      own_so
      (subst (λ (v : View D C). seating.Goes (exits k exit at before.work.standing) (view before.work before.board) (view v.work v.board)) (sym takes) goes)
      (ap (λ (v : View D C). v.work.standing) takes ∙ standing) asking_so unowed was

  -- there was no memory to note it
  pub short_on : (outset : Outset D C) → MayEndAnywhere MailTold → KeepsALegalJournal → IsCutOff (view before.work before.board) (view mid.work mid.board)
      → IsServing gives outset before → HasStopped gives outset NoMemory now
  short_on outset may legal cut was =
      cut_on gives counts outset before now left_so (ap (λ (v : View D C). v.shared.generation) takes ∙ ap (λ s. s.generation) beside.shared)
      (ap (λ (v : View D C). v.log) takes ∙ beside.log) may legal k released.kind released.status released.was_active (letter.told released.job) leaving visits_so own_so
      (subst (λ (v : View D C). IsCutOff (view before.work before.board) (view v.work v.board)) (sym takes) cut) asking_so was
