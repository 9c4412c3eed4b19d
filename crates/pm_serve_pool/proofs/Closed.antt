-- The workers of the first slots, one slot further.
use Rattle.std.{proofs.Common.{◌≡◌, ◌≢◌, ◌⊎◌, inl, inr, ℕ, ◌+◌, ◌<◌, List, [], ◌∷◌, ◌++◌, length, map, refl, sym, ap, ◌∙◌, subst, arith, append-nil, length-append}, specs.{Prelude.{None, Some, slice_get}, List.AllByRecursion}}
use native.Mathlib.Decide.{ℕ_discrete}
use Rattle.pm_serve_crew.specs.{pm_facts.Lists.same_everywhere, pm_board.{pm_board_words.declared.views.{SessionLimit.SessionLimit, RosterView.RosterView, PastChild.PastChild, Sight.TheVariants.{Unused, Gathered}}, Heard.HeardAsSent, Places.{slot_at, slot_view}, Rule.{at_put, put}, Told.new_roster}, pm_store_shared.{declared.views.{Joined.Joined, Noted.Noted}, Log.entries_of, Told.{SharedModel, shared_with}}, pm_worker.{declared.mail.MailTold.MailTold, Runs.{Does, IsRun, Run, close_run, noted_by}}, Left.{IsBorneOut, IsWorked, Manner}}
use Rattle.pm_serve_crew.specs.pm_worker.declared.mail.MailTold.TheVariants as told
use Rattle.pm_serve_pool.{specs.{Closing.{AreClosed, HasClosedOne, HasHadLast, IsShut, MayClose}, Works.AreUnused}, proofs.{Lists.{all_of_each, got_end, got_within}, Slots.near_or_here}}

pub shut_first : (count : ℕ) (d : RosterView MailTold) → MayClose count d → IsShut 0 d
shut_first count d may = record { gathered = λ j less. absurd (omega arith); free = λ j behind. may.free j; pids = (let h = may.pids in omega arith) }

pub shut_new : (count : ℕ) (limit : SessionLimit) (posts : ℕ) → IsShut 0 (new_roster count limit posts)
shut_new count limit posts =
    record {
      gathered = λ j less. absurd (omega arith);
      free = λ j behind. ap (λ x. x.sight) (same_everywhere count j (slot_view [] Unused));
      pids = omega arith;
    }

none_heard : (d : RosterView MailTold) → IsShut 0 d → HeardAsSent d
none_heard d shut k past notes gathered = absurd (let free = shut.free k (omega arith) in cc)

last_from : (k : ℕ) (d e f : RosterView MailTold) → slot_at e k ≡ slot_at d k → HasHadLast k e f → HasHadLast k d f
last_from k d e f same l = record { child = l.child; pid = l.pid; closes = l.closes; past = l.past ∙ ap (λ x. x.past ++ l.child ∷ []) same }

last_on : (k : ℕ) (d e f : RosterView MailTold) → slot_at f k ≡ slot_at e k → HasHadLast k d e → HasHadLast k d f
last_on k d e f same l = record { child = l.child; pid = l.pid; closes = l.closes; past = ap (λ x. x.past) same ∙ l.past }

nothing_noted : (own : List Noted) → entries_of own ≡ [] → own ≡ []
nothing_noted [] is = refl
nothing_noted (x ∷ own) is = absurd (cc)

module _ (manner : Manner) where
  pub closed_none : {F : Type 0} (d : RosterView MailTold) (s : SharedModel F) → IsShut 0 d → s.joined ≡ [] → AreClosed manner 0 d d s s
  closed_none d s shut none =
      record {
        runs = λ k. [];
        joined = [];
        shared = ap (λ (joined : List Joined). shared_with s s.tokens joined) none;
        all = refl;
        worked = λ k his at. absurd (cc);
        borne_out = λ k his at. absurd (cc);
        last = λ k less. absurd (omega arith);
        count = refl;
        others = λ j behind. refl;
        board = λ count moves is. is;
        limit = refl;
        sent = none_heard d shut;
        shut = shut;
      }

  -- it speaks of its slot alone
  worked_on : (d e : RosterView MailTold) (k : ℕ) (runs : List Run) (own : List Noted) → slot_at e k ≡ slot_at d k → IsWorked manner d k runs own → IsWorked manner e k runs own
  worked_on d e k runs own same w =
      record {
        each = w.each;
        notes = w.notes;
        children = ap (λ x. x.past) same ∙ w.children;
        gathered = ap (λ x. x.sight) same ∙ w.gathered ∙ ap (λ x. Gathered x.past w.notes) (sym same);
        heard = w.heard;
        looked = w.looked;
        cancels = w.cancels;
        entries = w.entries;
      }

  pub closed_more : {F : Type 0} (k : ℕ) (d e f : RosterView MailTold) (s t u : SharedModel F) → AreClosed manner k d e s t → HasClosedOne manner k e f t u → AreClosed manner (k + 1) d f s u
  closed_more {F} k d e f s t u a o =
      record {
        runs = put a.runs k o.runs;
        joined = a.joined ++ o.his ∷ [];
        shared = o.joined ∙ ap (λ (x : SharedModel F). shared_with x x.tokens (x.joined ++ o.his ∷ [])) a.shared;
        all = length-append a.joined (o.his ∷ []) ∙ ap (λ n. n + 1) a.all;
        worked = λ j his at. worked j his (got_end a.joined o.his his j at);
        borne_out = λ j his at. borne j his (got_end a.joined o.his his j at);
        last = λ j near. last j near (ℕ_discrete j k);
        count = o.count ∙ a.count;
        others = λ j behind. o.others j (λ (same : j ≡ k). absurd (omega arith)) ∙ a.others j (omega arith);
        board = λ count moves is. o.board count moves (a.board count moves is);
        limit = o.limit ∙ a.limit;
        sent = o.sent;
        shut = o.shut;
      }
    where
      worked : (j : ℕ) (his : Joined) → ((slice_get a.joined j ≡ Some his) × (j < length a.joined)) ⊎ ((j ≡ length a.joined) × (o.his ≡ his)) → IsWorked manner f j (put a.runs k o.runs j) his.own
      worked j his (inl h) =
          let less : j < length a.joined = h.1 in
          let other : j ≢ k = λ (same : j ≡ k). (let all = a.all in absurd (omega arith)) in
          at_put a.runs k o.runs (λ i r. i ≢ k → IsWorked manner f i r his.own) j (λ no. absurd (no refl))
          (λ ne. λ _. worked_on e f j (a.runs j) his.own (o.others j ne) (a.worked j his h.0)) other
      worked j his (inr h) =
          let here : j ≡ k = h.0 ∙ a.all in
          at_put a.runs k o.runs (λ i r. i ≡ k → IsWorked manner f i r his.own) j (λ _. subst (λ (x : Joined). IsWorked manner f k o.runs x.own) h.1 o.worked) (λ ne is. absurd (ne is)) here

      borne : (j : ℕ) (his : Joined) → ((slice_get a.joined j ≡ Some his) × (j < length a.joined)) ⊎ ((j ≡ length a.joined) × (o.his ≡ his)) → AllByRecursion (IsBorneOut manner.files his.past) (put a.runs k o.runs j)
      borne j his (inl h) =
          let less : j < length a.joined = h.1 in
          let other : j ≢ k = λ (same : j ≡ k). (let all = a.all in absurd (omega arith)) in
          at_put a.runs k o.runs (λ i r. i ≢ k → AllByRecursion (IsBorneOut manner.files his.past) r) j (λ no. absurd (no refl)) (λ ne. λ _. a.borne_out j his h.0) other
      borne j his (inr h) =
          let here : j ≡ k = h.0 ∙ a.all in
          at_put a.runs k o.runs (λ i r. i ≡ k → AllByRecursion (IsBorneOut manner.files his.past) r) j (λ _. subst (λ (x : Joined). AllByRecursion (IsBorneOut manner.files x.past) o.runs) h.1 o.borne_out)
          (λ ne is. absurd (ne is)) here

      last : (j : ℕ) → j < k + 1 → Dec (j ≡ k) → HasHadLast j d f
      last j near (yes same) = subst (λ (i : ℕ). HasHadLast i d f) (sym same) (last_from k d e f (a.others k (omega arith)) o.last)
      last j near (no other) = last_on j d e f (o.others j other) (a.last j (near_or_here j k near other))

  -- ---- a pool whose workers have had no other child

  closing_notes_nothing : (runs : List Run) (child : PastChild MailTold) → child.offer.given ≡ told.Close → child ∷ [] ≡ map (λ (run : Run). run.child) runs
      → AllByRecursion (IsRun None manner.seed manner.limit manner.gives) runs → noted_by runs ≡ []
  closing_notes_nothing [] child closes is each = absurd (cc)
  closing_notes_nothing (run ∷ []) child closes is each =
      let same : child ≡ run.child = cc in
      let given : run.child.offer.given ≡ told.Close = ap (λ (x : PastChild MailTold). x.offer.given) (sym same) ∙ closes in
      let does : run ≡ close_run run.slots run.met run.child.offer = subst (λ (mail : MailTold). Does None manner.seed manner.limit manner.gives mail run) given each.0.does in
      append-nil run.noted ∙ ap (λ (r : Run). r.noted) does
  closing_notes_nothing (run ∷ run' ∷ runs) child closes is each = absurd (cc)

  pub unused_all : {F : Type 0} (n count : ℕ) (limit : SessionLimit) (posts : ℕ) (e : RosterView MailTold) (s t : SharedModel F) → (a : AreClosed manner n (new_roster count limit posts) e s t) → AreUnused a.joined
  unused_all n count limit posts e s t a = all_of_each (λ his. his.own ≡ []) a.joined each
    where
      each : (k : ℕ) (his : Joined) → slice_get a.joined k ≡ Some his → his.own ≡ []
      each k his at =
          let h = got_within a.joined his k at in
          let less : k < n = subst (λ m. k < m) a.all h in
          let l = a.last k less in
          let w = a.worked k his at in
          let none : (slot_at (new_roster {D = MailTold} count limit posts) k).past ≡ [] = ap (λ x. x.past) (same_everywhere count k (slot_view [] Unused)) in
          let one : l.child ∷ [] ≡ map (λ (run : Run). run.child) (a.runs k) = sym (l.past ∙ ap (λ xs. xs ++ l.child ∷ []) none) ∙ w.children in
          nothing_noted his.own (w.entries ∙ closing_notes_nothing (a.runs k) l.child l.closes one w.each)
