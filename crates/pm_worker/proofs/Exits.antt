-- How a run ends on its post.
use Rattle.std.{proofs.{Common.{ℕ, ◌≡◌, ◌∙◌, ◌++◌, Bool, true, false, List, [], ◌∷◌, Option, Some, None, ap, sym, refl, subst}, lemmas.{List.append-nil, Bool.false≢true}}, specs.Prelude.{◌↔◌, IsTrue, is_some, unwrap_or}}
use Rattle.pm_admit.specs.declared.Cac.{Cac}
use Rattle.pm_worker.specs.{declared.mail.{LinkTold.LinkTold, MailTold.MailTold}, Mails.IsFor, Runs.{Run, HasBegun, Does, IsRun, HasRun, close_run}}
use Rattle.pm_board.specs.{pm_exit.{declared.child.Status.{Status, TheVariants.Code}, Ends.is_exit_0}, Slots.child_slots, pm_board_words.declared.views.{Offer.Offer, Work.{Work, TheVariants.{Idle, Sees, Inactive, Active, Refused, Attached}}}, Told.{child_in, past_child, MayEnd}, Models.{PostModel, MayExit, HasExited}}
use Rattle.pm_worker.specs.declared.mail.MailTold.TheVariants as mail
use Rattle.pm_query.specs.declared.book.BookEntry.{BookEntry}
use Rattle.pm_board_life.specs.Lives.{Beginning, GoesOn, LifeModel, child_as, child_by, attached_of, IsLiving}

module _ {D : Type 0} where
  -- a living child is as its offer says
  pub child_is : (work : Work D) (o : Offer D) → IsLiving work → child_in work ≡ Some o → child_by work ≡ child_as o (attached_of work)
  child_is (Inactive p) o h e = ap (λ q. child_as (unwrap_or q o) None) e
  child_is (Attached p g) o h e = ap (λ q. child_as (unwrap_or q o) (Some g)) e
  child_is Idle o h e = elim h [ ]
  child_is (Sees _) o h e = elim h [ ]
  child_is (Active _) o h e = elim h [ ]
  child_is (Refused _ _) o h e = elim h [ ]

  -- and may end
  pub ends : (work : Work D) (o : Offer D) → IsLiving work → child_in work ≡ Some o → MayEnd work o (is_some (attached_of work))
  ends (Inactive p) o h e = (ap (λ q. unwrap_or q o) e, refl)
  ends (Attached p g) o h e = (ap (λ q. unwrap_or q o) e, refl)
  ends Idle o h e = elim h [ ]
  ends (Sees _) o h e = elim h [ ]
  ends (Active _) o h e = elim h [ ]
  ends (Refused _ _) o h e = elim h [ ]

  -- as that child and no other
  pub ends_as : (work : Work D) (o p : Offer D) (active : Bool) → child_in work ≡ Some o → MayEnd work p active → p ≡ o
  ends_as (Inactive q) o p active e h = sym h.0 ∙ ap (λ x. unwrap_or x o) e
  ends_as (Attached q g) o p active e h = sym h.0 ∙ ap (λ x. unwrap_or x o) e
  ends_as Idle o p active e h = elim h [ ]
  ends_as (Sees _) o p active e h = elim h [ ]
  ends_as (Active _) o p active e h = elim h [ ]
  ends_as (Refused _ _) o p active e h = elim h [ ]

  pub may_exit : (work : Work D) (o : Offer D) (status : Status) → IsLiving work → child_in work ≡ Some o
      → (is_some (attached_of work) ≡ true → is_exit_0 status ≡ false) → MayExit work status
  may_exit work o status h e well = (o, is_some (attached_of work), ends work o h e, λ aux active. well active)

-- the run of a child that has exited
abbrev pub run_of : {first : Beginning MailTold} {at : LifeModel MailTold} → GoesOn first at → Offer MailTold → Status → MailTold → List BookEntry → (met : ℕ) → Run
run_of {first} {at} on o status back noted met =
    record {
      child = past_child o status (is_some (attached_of at.post.knows.work)) back;
      heard = at.post.knows.notes.now;
      asked = at.cancel;
      slots = child_slots first.post.table.slots;
      looked = on.looked;
      made = on.made;
      noted = noted;
      met = met;
    }

pub has_run : (first : Beginning MailTold) (at : LifeModel MailTold) (after : PostModel MailTold) (pid : ℕ) (given : MailTold) (begun : HasBegun pid given first.post) (on : GoesOn first at)
    (status : Status) (back : MailTold) (noted : List BookEntry) (met : ℕ) → IsLiving at.post.knows.work → HasExited status back at.post.knows after.knows
    → after.table ≡ at.post.table → after.slot ≡ at.post.slot → HasRun (run_of on begun.offer status back noted met) first.post after
has_run first at after pid given begun on status back noted met living exited t s =
    let o = begun.offer in
    let work = at.post.knows.work in
    let child : child_in work ≡ Some o = on.child ∙ ap child_in begun.runs in
    let now = exited o (is_some (attached_of work)) (ends work o living child) in
    record {
      table = t ∙ on.table;
      slot = s ∙ on.slot;
      idle = ap (λ w. w.work) now;
      offer = ap child_in begun.runs;
      past = ap (λ w. w.past) now ∙ ap (λ xs. xs ++ past_child o status (is_some (attached_of work)) back ∷ []) on.past;
      heard = ap (λ w. w.notes.heard) now ∙ ap (λ xs. xs ++ at.post.knows.notes.now ∷ []) on.heard;
      slots = refl;
      looked = ap (λ w. w.notes.looked) now ∙ on.looks;
      cancels = ap (λ w. w.notes.cancels) now ∙ on.cancels;
    }

module _ (stamp : Option ℕ) (limit : ℕ) (gives : ℕ → Type 0) where
  pub is_run : (first : Beginning MailTold) (at : LifeModel MailTold) (pid : ℕ) (given : MailTold) (begun : HasBegun pid given first.post) (on : GoesOn first at)
      (status : Status) (back : MailTold) (noted : List BookEntry) (met : ℕ) → Does stamp first.seed limit gives given (run_of on begun.offer status back noted met)
      → IsRun stamp first.seed limit gives (run_of on begun.offer status back noted met)
  is_run first at pid given begun on status back noted met does =
      record {
        fits = subst (λ (t : MailTold). IsFor t begun.offer.kind) (sym begun.given_is) begun.fits;
        does = subst (λ (t : MailTold). Does stamp first.seed limit gives t (run_of on begun.offer status back noted met)) (sym begun.given_is) does;
        met = on.met begun.offer (ap child_in begun.runs);
        makes = on.makes;
      }

-- of a child that closes its worker
pub closed : (before after : PostModel MailTold) (pid met : ℕ) (begun : HasBegun pid mail.Close before) → HasExited (Code 0) mail.Close before.knows after.knows
    → after.table ≡ before.table → after.slot ≡ before.slot → HasRun (close_run (child_slots before.table.slots) met begun.offer) before after
closed before after pid met begun exited t s =
    let o = begun.offer in
    let now = exited o false (subst (λ w. MayEnd w o false) (sym begun.runs) (refl, refl)) in
    record {
      table = t;
      slot = s;
      idle = ap (λ w. w.work) now;
      offer = ap child_in begun.runs;
      past = ap (λ w. w.past) now;
      heard = ap (λ w. w.notes.heard) now ∙ ap (λ h. before.knows.notes.heard ++ h ∷ []) begun.untold;
      slots = refl;
      looked = ap (λ w. w.notes.looked) now ∙ sym (append-nil before.knows.notes.looked);
      cancels = ap (λ w. w.notes.cancels) now ∙ sym (append-nil before.knows.notes.cancels);
    }

pub closes : (stamp : Option ℕ) (seed : List ℕ) (limit : ℕ) (gives : ℕ → Type 0) (post : PostModel MailTold) (pid met : ℕ) (begun : HasBegun pid mail.Close post)
    → IsRun stamp seed limit gives (close_run (child_slots post.table.slots) met begun.offer)
closes stamp seed limit gives post pid met begun =
    record {
      fits = subst (λ (t : MailTold). IsFor t begun.offer.kind) (sym begun.given_is) begun.fits;
      does = subst (λ (t : MailTold). Does stamp seed limit gives t (close_run (child_slots post.table.slots) met begun.offer)) (sym begun.given_is) refl;
      met = tt;
      makes = (refl, refl);
    }

-- ---- whether the worker goes on

pub goes_on : (given t : MailTold) → given ≡ t → (t ≡ mail.Close → ⊥) → IsTrue false ↔ (given ≡ mail.Close)
goes_on given t e no_ = ((λ h. absurd (false≢true h)), (λ closes_. absurd (no_ (sym e ∙ closes_))))

pub serves : (link : LinkTold) (decision : Cac) → mail.Serve link decision ≡ mail.Close → ⊥
serves link decision e = cc

pub starts : mail.Startup ≡ mail.Close → ⊥
starts e = cc

pub checkpoints : mail.Checkpointer ≡ mail.Close → ⊥
checkpoints e = cc

pub writes : mail.Writer ≡ mail.Close → ⊥
writes e = cc
