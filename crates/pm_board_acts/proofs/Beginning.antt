-- Before the first move.
use Rattle.std.{proofs.Common.{◌≡◌, ℕ, zero, suc, ◌<◌, ◌≤◌, List, [], ◌∷◌, ◌++◌, refl, sym, ap, subst, ◌∙◌, length, get_or, map, replicate, arith}, specs.{List.AllByRecursion, Prelude.{Option, Some, None}}}
use Rattle.pm_board.specs.{pm_supervisor.{declared.Limits.Limits, Steps.empty_trace}, pm_board_words.declared.views.{SessionLimit.SessionLimit, RosterView.RosterView, Sight.TheVariants.Unused, SlotView.SlotView}, Children.{child_seen, children_of}, Gate.gate_of, Places.{is_auxiliary, lost, slot_at, slot_view}, Told.new_roster}
use Rattle.pm_supervisor_journal.specs.{declared.roll.Enrolled.Enrolled, Laws.GoesOnOverItsJournal, Standing.Standing, Stands.Stands}
use Rattle.pm_board_acts.specs.{Acts.{MayDo, StartsAfresh, gate_by, slot_of}, Board.{SeenAs, enrolled, begun_of, ended_of, seat_at, seats_of, sitting}, Seating.empty, Standing.{IsAt, IsSeated, IsUnbegun, SitApart, SitBelow, View, kind_seated}}

read-replicate : {A : Type 0} (n k : ℕ) (x : A) → get_or (replicate n x) k x ≡ x
read-replicate zero k x = refl
read-replicate (suc n) zero x = refl
read-replicate (suc n) (suc k) x = read-replicate n k x

length-same : {A B : Type 0} (n : ℕ) (x : A) (y : B) → length (replicate n x) ≡ length (replicate n y)
length-same zero x y = refl
length-same (suc n) x y = ap (λ (m : ℕ). suc m) (length-same n x y)

length-replicate : {A : Type 0} (n : ℕ) (x : A) → length (replicate n x) ≡ n
length-replicate zero x = refl
length-replicate (suc n) x = ap (λ (m : ℕ). suc m) (length-replicate n x)

none_seated : (pid n : ℕ) → kind_seated pid (replicate n None) ≡ None
none_seated pid zero = refl
none_seated pid (suc n) = none_seated pid n

all_apart : (n : ℕ) → SitApart (replicate n None)
all_apart zero = tt
all_apart (suc n) = all_apart n

all_below : (last n : ℕ) → SitBelow last (replicate n None)
all_below last zero = tt
all_below last (suc n) = (tt, all_below last n)

module _ {D : Type 0} where
  no_children : (x : SlotView D) (n : ℕ) → x.sight ≡ Unused → map enrolled (children_of (replicate n x)) ≡ replicate n None
  no_children x zero unused = refl
  no_children x (suc n) unused = (λ i. enrolled (child_seen (unused i)) ∷ no_children x n unused i)

  none_sit : (d : RosterView D) (n : ℕ) → d.slots ≡ replicate n (slot_view [] Unused) → seats_of d ≡ replicate n None
  none_sit d n is = ap (λ (xs : List (SlotView D)). map enrolled (children_of xs)) is ∙ no_children (slot_view [] Unused) n refl

  unused_slot : (n : ℕ) (limit : SessionLimit) (posts k : ℕ) → slot_at (new_roster {D = D} n limit posts) k ≡ slot_view [] Unused
  unused_slot n limit posts k = read-replicate n k (slot_view [] Unused)

  -- nothing was done yet
  pub begun_at_first : GoesOnOverItsJournal → (limits : Limits) (count : ℕ) (v : View D) → v.seats ≡ seats_of v.board → IsUnbegun limits count v → IsAt limits count [] v
  begun_at_first work limits count v at_hand is =
      let d : RosterView D = new_roster count is.session_limit is.posts in
      let slot : (k : ℕ) → slot_at d k ≡ slot_view [] Unused = unused_slot count is.session_limit is.posts in
      let seat : (k : ℕ) → seat_at k (replicate count None) ≡ None = (λ k. read-replicate count k None) in
      let nobody : v.seats ≡ replicate count None = at_hand ∙ (ap seats_of is.board ∙ none_sit d count refl) in
      record {
        past = empty_trace;
        stands = subst (λ (s : Standing). Stands limits (Some []) s empty_trace) (sym is.standing) (work.begins limits);
        told = is.told;
        gate = ap (λ (s : Standing). gate_by s.due (gate_of v.board)) is.standing ∙ ap gate_of is.board;
        seated = subst (λ (x : RosterView D). IsSeated count [] x v.seats v.work.standing) (sym is.board)
            (subst (λ (xs : List (Option Enrolled)). IsSeated count [] d xs v.work.standing) (sym nobody)
            (subst (λ (s : Standing). IsSeated count [] d (replicate count None) s) (sym is.standing) (record {
              seating = empty count;
              is_that = refl;
              at_hand = refl;
              steps = refl;
              shows = record {
                count = length-same count None (slot_view [] Unused);
                few = subst (λ (n : ℕ). n ≤ 407) (sym (length-replicate count None)) is.few;
                generation = refl;
                each = λ k near. subst (λ (x : Option Enrolled). SeenAs 1 x (slot_at d k).sight) (sym (seat k)) (ap (λ (x : SlotView D). x.sight) (slot k));
              };
              generation = refl;
              roll = record { same = λ pid. sym (none_seated pid count); differ = tt; apart = all_apart count; below = all_below 0 count };
              right = λ k c sits. absurd (let no_ : ◌≡◌ {A = Option Enrolled} None (Some c) = sym (seat k) ∙ sits in cc);
              last_pid = refl;
              connection = omega arith;
              had = record {
                begun = λ k. ap (λ (x : SlotView D). map begun_of x.past ++ sitting 1 (seat_at k (replicate count None))) (slot k) ∙ ap (sitting 1) (seat k);
                ended = λ k. ap (λ (x : SlotView D). map ended_of x.past) (slot k);
                right = λ k. tt;
              };
            })));
        may = subst (λ (s : Standing). MayDo s.due (gate_of v.board) s.children) (sym is.standing) tt;
        many = subst (λ (n : ℕ). 7 < n) (sym (ap length nobody ∙ length-replicate count None)) is.many;
        afresh = subst (λ (x : RosterView D). StartsAfresh x v.work.standing.due v.work.standing.machine) (sym is.board)
            (subst (λ (s : Standing). StartsAfresh d s.due s.machine) (sym is.standing) (record {
              due = tt;
              later = λ kind none may aux. ap (λ (x : SlotView D). lost is_auxiliary 1 x.past) (slot (slot_of kind));
              past = λ k. subst (λ (x : SlotView D). AllByRecursion (λ y. y.offer.generation ≤ 1) x.past) (sym (slot k)) tt;
            }));
      }
