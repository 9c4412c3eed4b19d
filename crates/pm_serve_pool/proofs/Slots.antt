-- One slot, while its worker is closed.
use Rattle.std.{proofs.{Common.{◌≡◌, ◌≢◌, ◌⊎◌, inl, inr, ℕ, ◌+◌, ◌<◌, ◌≤◌, [], ◌∷◌, ◌++◌, length, refl, sym, ap, ◌∙◌, subst, arith, append_assoc}, lemmas.Bool.cases_lt}, specs.Prelude.{true, List, Option}}
use Rattle.atomic_table.specs.Seated.{TableId}
use native.Mathlib.Decide.{ℕ_discrete}
use Rattle.std.specs.List.{AllByRecursion}
use Rattle.pm_serve_crew.specs.{pm_exit.declared.child.{Kind.{Kind, TheVariants.DeadEnd}, Status.Status}, pm_board.{pm_board_words.declared.views.{Offer.Offer, PostView.PostView, RosterNotes.RosterNotes, RosterStep.TheVariants.{Assign, Release}, RosterView.RosterView, Sight.{Sight, TheVariants.{Unused, Opened, Assigned, Exited, Collected, Gathered}}, SlotView.SlotView}, Heard.HeardAsSent, Models.{HasAssigned, HasGathered, PostModel, SlotBecame}, Places.{AllReaped, IsReaped, slot_at}, Seats.is_gathered, Told.{past_child, released_slot, noted_release, noted_look, with_slot}}, pm_supervisor_journal.{declared.roll.Enrolled.Enrolled, Stands.highest_pid}, pm_board_acts.Standing.IsFinal, pm_store_shared.Told.{SharedModel, TokenModel, shared_with}, pm_worker.declared.mail.MailTold.MailTold, Left.Manner}
use Rattle.pm_serve_crew.specs.pm_worker.declared.mail.MailTold.TheVariants as told
use Rattle.pm_serve_pool.{specs.Closing.{HasClosedOne, HasHadLast, IsReleased, IsShut, closing_pid}, proofs.{Boards.keeps_board, Leaving.Leaves}}

reaped_so : (last : ℕ) (x : SlotView MailTold) (sight : Sight MailTold) → (is_gathered sight ≡ true) ⊎ (sight ≡ Unused) → IsReaped last x sight
reaped_so last x Unused so = tt
reaped_so last x (Opened q) so = tt
reaped_so last x (Assigned o) (inl so) = absurd (cc)
reaped_so last x (Assigned o) (inr so) = absurd (cc)
reaped_so last x (Exited o status active) (inl so) = absurd (cc)
reaped_so last x (Exited o status active) (inr so) = absurd (cc)
reaped_so last x (Collected o status active) so = tt
reaped_so last x (Gathered past notes) so = tt

-- where nobody sits, no child has to be looked at
pub all_reaped : (k : ℕ) (d : RosterView MailTold) → IsShut k d → AllReaped d
all_reaped k d shut j near = reaped_so d.notes.last_connection (slot_at d j) (slot_at d j).sight (so (cases_lt j k))
  where
    so : (j < k) ⊎ (k ≤ j) → (is_gathered (slot_at d j).sight ≡ true) ⊎ ((slot_at d j).sight ≡ Unused)
    so (inl before) = inl (shut.gathered j before)
    so (inr behind) = inr (shut.free j behind)

-- another slot, and other notes, leave the limit of sessions
same_limit : (before after : RosterView MailTold) (k : ℕ) (x : SlotView MailTold) (notes : RosterNotes) → after ≡ with_slot before k x notes → after.session_limit ≡ before.session_limit
same_limit before after k x notes is = ap (λ (d : RosterView MailTold). d.session_limit) is

-- ---- looks

-- its child was found running so far, and nothing else has changed
pub record IsWatched (k : ℕ) (o : Offer MailTold) (before now : RosterView MailTold) : Type 0 where
  pub count : length now.slots ≡ length before.slots
  pub others : (j : ℕ) → j ≢ k → slot_at now j ≡ slot_at before j
  pub sight : (slot_at now k).sight ≡ Assigned o
  pub past : (slot_at now k).past ≡ (slot_at before k).past
  pub steps : now.notes.steps ≡ before.notes.steps
  pub last_pid : now.notes.last_pid ≡ before.notes.last_pid
  pub limit : now.session_limit ≡ before.session_limit

pub watched_first : (k : ℕ) (o : Offer MailTold) (d : RosterView MailTold) → (slot_at d k).sight ≡ Assigned o → IsWatched k o d d
watched_first k o d sits = record { count = refl; others = λ j other. refl; sight = sits; past = refl; steps = refl; last_pid = refl; limit = refl }

-- one look more
pub watched_on : (k : ℕ) (o : Offer MailTold) (before now after : RosterView MailTold) (word last : ℕ) → IsWatched k o before now
    → SlotBecame k (record { past = (slot_at now k).past; sight = Assigned o; found_running = last }) (noted_look now.notes word) now after → IsWatched k o before after
watched_on k o before now after word last w b =
    record {
      count = b.count ∙ w.count;
      others = λ j other. b.others j other ∙ w.others j other;
      sight = ap (λ x. x.sight) b.here;
      past = ap (λ x. x.past) b.here ∙ w.past;
      steps = ap (λ n. n.steps) b.notes_are ∙ w.steps;
      last_pid = ap (λ n. n.last_pid) b.notes_are ∙ w.last_pid;
      limit = same_limit now after _ _ _ b.whole ∙ w.limit;
    }

-- the look that found it exited, and the release after it
pub released_at_last : (k : ℕ) (o : Offer MailTold) (before now found after : RosterView MailTold) (word : ℕ) (status : Status) (active : _) (back : MailTold) → IsWatched k o before now
    → SlotBecame k (record { past = (slot_at now k).past; sight = Exited o status active; found_running = 0 }) (noted_look now.notes word) now found
    → SlotBecame k (released_slot (slot_at found k) (past_child o status active back)) (noted_release found.notes o) found after → IsReleased k o before after
released_at_last k o before now found after word status active back w f b =
    let past : (slot_at found k).past ≡ (slot_at before k).past = ap (λ x. x.past) f.here ∙ w.past in
    record {
      count = b.count ∙ f.count ∙ w.count;
      others = λ j other. b.others j other ∙ f.others j other ∙ w.others j other;
      child = past_child o status active back;
      is = refl;
      here = b.here ∙ ap (λ xs. record { past = xs ++ past_child o status active back ∷ []; sight = Unused; found_running = 0 }) past;
      steps = ap (λ n. n.steps) b.notes_are ∙ ap (λ xs. xs ++ Release o.pid o.kind o.generation ∷ []) (ap (λ n. n.steps) f.notes_are ∙ w.steps);
      last_pid = ap (λ n. n.last_pid) b.notes_are ∙ ap (λ n. n.last_pid) f.notes_are ∙ w.last_pid;
      limit = same_limit found after _ _ _ b.whole ∙ same_limit now found _ _ _ f.whole ∙ w.limit;
    }

-- ---- the whole

pub near_or_here : (j k : ℕ) → j < k + 1 → j ≢ k → j < k
near_or_here j k near other = go (cases_lt j k)
  where
    go : (j < k) ⊎ (k ≤ j) → j < k
    go (inl less) = less
    go (inr le) = absurd (other (omega arith))

shut_more : (k : ℕ) (before after : RosterView MailTold) → IsShut k before → is_gathered (slot_at after k).sight ≡ true → ((j : ℕ) → j ≢ k → slot_at after j ≡ slot_at before j)
    → after.notes.last_pid ≡ closing_pid k → IsShut (k + 1) after
shut_more k before after shut gathered others last =
    record {
      gathered = λ j near. go j near (ℕ_discrete j k);
      free = λ j behind. free j behind;
      pids = (let h : after.notes.last_pid ≡ highest_pid + 1 + k = last in omega arith);
    }
  where
    go : (j : ℕ) → j < k + 1 → Dec (j ≡ k) → is_gathered (slot_at after j).sight ≡ true
    go j near (yes same) = subst (λ (i : ℕ). is_gathered (slot_at after i).sight ≡ true) (sym same) gathered
    go j near (no other) = ap (λ x. is_gathered x.sight) (others j other) ∙ shut.gathered j (near_or_here j k near other)

    free : (j : ℕ) → k + 1 ≤ j → (slot_at after j).sight ≡ Unused
    free j behind = ap (λ x. x.sight) (others j (λ (same : j ≡ k). absurd (omega arith))) ∙ shut.free j (omega arith)

final_steps : (k pid : ℕ) (kind : Kind) (generation : ℕ) → kind ≡ DeadEnd → (seats : List (Option Enrolled)) → AllByRecursion (IsFinal seats) (Assign k pid kind generation ∷ Release pid kind generation ∷ [])
final_steps k pid kind generation is seats = subst (λ (kind : Kind). AllByRecursion (IsFinal seats) (Assign k pid kind generation ∷ Release pid kind generation ∷ [])) (sym is) (tt, (tt, tt))

pub same_offer : (o p : Offer MailTold) → Assigned o ≡ Assigned p → o ≡ p
same_offer o p is = cc

module _ (k : ℕ) (d assigned released gathered : RosterView MailTold) (a : HasAssigned k (closing_pid k) DeadEnd told.Close d assigned) (r : IsReleased k a.0 assigned released) where
  steps_of_one : (post : PostView MailTold) → HasGathered k post released gathered → gathered.notes.steps ≡ d.notes.steps ++ (Assign k (a.0).pid (a.0).kind (a.0).generation ∷ Release (a.0).pid (a.0).kind (a.0).generation ∷ [])
  steps_of_one post g =
      ap (λ n. n.steps) g.notes_are ∙ r.steps ∙ ap (λ n. n.steps ++ Release (a.0).pid (a.0).kind (a.0).generation ∷ []) a.2.notes_are
      ∙ append_assoc d.notes.steps (Assign k (a.0).pid (a.0).kind (a.0).generation ∷ []) (Release (a.0).pid (a.0).kind (a.0).generation ∷ [])

  abbrev last_of_one : (post : PostView MailTold) → HasGathered k post released gathered → HasHadLast k d gathered
  last_of_one post g =
      record {
        child = r.child;
        pid = ap (λ (x : Offer MailTold). x.pid) (r.is ∙ a.1);
        closes = ap (λ (x : Offer MailTold). x.given) (r.is ∙ a.1);
        past = ap (λ x. x.past) g.here ∙ ap (λ x. x.past) r.here ∙ ap (λ x. x.past ++ r.child ∷ []) a.2.here;
      }

  pub closed_one : {F : Type 0} (manner : Manner) (post : PostModel MailTold) (token : TokenModel F) (board home : TableId) (s s' : SharedModel F) → IsShut k d → Leaves manner board home k post token
      → HasGathered k post.knows released gathered → post.knows.past ≡ (slot_at released k).past → HeardAsSent gathered
      → s' ≡ shared_with s s.tokens (s.joined ++ record { own = token.own; past = token.past } ∷ []) → HasClosedOne manner k d gathered s s'
  closed_one manner post token board home s s' shut l g same heard joined =
      record {
        runs = l.runs;
        his = record { own = token.own; past = token.past };
        joined = joined;
        worked =
            record {
              each = l.each;
              notes = post.knows.notes;
              children = ap (λ x. x.past) g.here ∙ sym same ∙ l.children;
              gathered = ap (λ x. x.sight) g.here ∙ ap (λ xs. Gathered xs post.knows.notes) (same ∙ sym (ap (λ x. x.past) g.here));
              heard = l.heard;
              looked = l.looked;
              cancels = l.cancels;
              entries = l.entries;
            };
        borne_out = l.borne_out;
        last = last_of_one post.knows g;
        count = g.count ∙ r.count ∙ a.2.count;
        others = others;
        board =
            keeps_board k d gathered (Assign k (a.0).pid (a.0).kind (a.0).generation ∷ Release (a.0).pid (a.0).kind (a.0).generation ∷ []) (steps_of_one post.knows g)
            (final_steps k (a.0).pid (a.0).kind (a.0).generation (ap (λ (x : Offer MailTold). x.kind) a.1)) (last_of_one post.knows g) (ap (λ (x : Offer MailTold). x.kind) (r.is ∙ a.1)) others;
        limit = same_limit released gathered _ _ _ g.whole ∙ r.limit ∙ same_limit d assigned _ _ _ a.2.whole;
        sent = heard;
        shut =
            shut_more k d gathered shut (ap (λ x. is_gathered x.sight) g.here) others
            (ap (λ n. n.last_pid) g.notes_are ∙ r.last_pid ∙ ap (λ n. n.last_pid) a.2.notes_are ∙ ap (λ (x : Offer MailTold). x.pid) a.1);
      }
    where
      others : (j : ℕ) → j ≢ k → slot_at gathered j ≡ slot_at d j
      others j other = g.others j other ∙ r.others j other ∙ a.2.others j other
