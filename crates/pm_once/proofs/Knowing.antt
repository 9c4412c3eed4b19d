-- What is known of the store.
use Rattle.std.{proofs.Common.{◌≡◌, ◌≢◌, ℕ, List, Option, None, Some, Err, sym, subst}, specs.Prelude.{IfSome, option_map}}
use Rattle.pm_server.specs.{pm_record.declared.fault.RedoFault.RedoFault, pm_segment.{pm_redo.Found.IsReason, Moves.Moves, Redos.{IsAtLastEpoch, IsCleanAt}}, pm_query.declared.book.BookEntry.BookEntry, declared.end.StartWhy.{StartWhy, TheVariants.Redo}}
use Rattle.pm_server.specs.pm_record.declared.fault.RedoFault.TheVariants as redo
use Rattle.pm_once_children.{specs.{AuxiliaryRuns.{CloseNotes, StartNotes}, Outcomes.{Stays, HasComeTo}, declared.{checkpointer.Closed.{Closed as Its, TheVariants.{Made, Full}}, outcome.Outcome.{Outcome, TheVariants.{Closed, Refused}}}}, proofs.OutcomesLaws.{come_still, refused_now, reads_so, closed_now}}
use Rattle.pm_once.specs.{Knows.Knows, View.View}

pub known_still : (from : ℕ) (before now : View) → now.outcome ≡ before.outcome → Stays before.store now.store → Knows from before → Knows from now
known_still from before now same stays known = record {
  counted = (stays.moves.spans.counts from known.counted).counted;
  come = subst (λ (o : Option Outcome). HasComeTo o from now.store) (sym same) (come_still before.outcome from before.store now.store stays known.come);
}

-- ---- somebody has, and it isn't remembered what an auxiliary child came to

pub known_moved : (from : ℕ) (noted : List BookEntry) (before now : View) → now.outcome ≡ None → Moves noted before.store now.store → Knows from before → Knows from now
known_moved from noted before now forgotten moves known = record {
  counted = (moves.spans.counts from known.counted).counted;
  come = subst (λ (o : Option Outcome). HasComeTo o from now.store) (sym forgotten) tt;
}

pub known_refused : (from pid generation : ℕ) (why : Option StartWhy) (noted : List BookEntry) (before now : View) → now.outcome ≡ option_map Refused why → StartNotes pid generation (Err why) noted → Moves noted before.store now.store
    → ((fault : RedoFault) → why ≡ Some (Redo fault) → IfSome before.store.files (IsReason fault))
    → ((fault : RedoFault) → why ≡ Some (Redo fault) → fault ≢ redo.Disk → now.store.files ≡ before.store.files) → ((fault : RedoFault) → why ≡ Some (Redo fault) → now.store.live ≡ None) → Knows from before → Knows from now
known_refused from pid generation why noted before now is notes moves reason unread shut known =
    let counts = moves.spans.counts from known.counted in
    record {
      counted = counts.counted;
      come = subst (λ (o : Option Outcome). HasComeTo o from now.store) (sym is)
          (refused_now from pid generation why noted now.store notes counts.each (λ fault e. reads_so fault before.store.files now.store.files (reason fault e) (unread fault e)) shut);
    }

pub known_closed : (from pid generation : ℕ) (closed : Its) (noted : List BookEntry) (before now : View) → now.outcome ≡ Some (Closed closed) → CloseNotes pid generation closed noted → Moves noted before.store now.store
    → (closed ≡ Made → (epoch : ℕ) × IsCleanAt epoch now.store.live now.store.rows now.store.files) → (closed ≡ Full → IfSome now.store.files (λ files. ∥ IsAtLastEpoch files ∥₁)) → Knows from before → Knows from now
known_closed from pid generation closed noted before now is notes moves clean full known =
    let counts = moves.spans.counts from known.counted in
    record {
      counted = counts.counted;
      come = subst (λ (o : Option Outcome). HasComeTo o from now.store) (sym is) (closed_now from pid generation closed noted now.store notes counts.each clean full);
    }
