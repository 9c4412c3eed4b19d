-- A start that fails tells the reason that its startup child's store has learned.
use Rattle.std.{proofs.{Common.{◌≡◌, ◌≢◌, ◌⊎◌, inl, inr, ℕ, zero, suc, ◌<◌, Bool, true, false, List, [], ◌∷◌, ◌++◌, Option, None, Some, length, refl, sym, ap, subst, ◌∙◌, arith}, lemmas.List.Elements.{All-contains, All-from_recursion}}, specs.{Prelude.{if◌then◌else◌}, List.Contains}}
use Rattle.pm_server.specs.{pm_query.declared.store.StoreNo.{StoreNo, TheVariants.Redo as RedoNo}, pm_record.declared.fault.RedoFault.{RedoFault, TheVariants.NoMemory}, pm_exit.declared.child.Kind.Kind, pm_supervisor.Children.is_startup_child, declared.{conf.Conf.Conf, end.{ServerEnd.{ServerEnd, TheVariants.{Clean, Abnormal, NoThread, NoMemory as ShortOfMemory}}, StartWhy.TheVariants.{Redo, Killed}, Why.TheVariants.{AfterCrash, StartupFailed, RestartOff, GenerationsSpent}}}}
use Rattle.pm_serve_first_crash.{specs.pm_serve_crew.Left.IsBorneOut, proofs.EndingLaws.startup_is}
use Rattle.pm_postmaster.specs.{pm_board.{pm_board_words.declared.views.{PastChild.PastChild, RosterView.RosterView}, Places.slot_at}, pm_store_shared.Learned.IsUnread, pm_worker.declared.mail.MailTold.MailTold, Looking.{came_from, came_of, came_out, fault_in, last_with}, Outside.ServeView, Served.{IsServed, manner_by}, Serving.{FailsFor, IsCausedBehind}}
use Rattle.pm_postmaster.specs.pm_worker.declared.mail.MailTold.TheVariants as mail
use Rattle.pm_serve_promises.{specs.Starts.FailsForReason, proofs.Children.{RunOfChild, is_near, run_of_child}}

-- a child of this kind came out so
pub record CameFrom {X : Type 0} (out : PastChild MailTold → X) (is_it : Kind → Bool) (past : List (PastChild MailTold)) (came : X) : Type 0 where
  pub child : PastChild MailTold
  pub there : Contains past child
  pub kind : is_it child.offer.kind ≡ true
  pub is : out child ≡ came

one_more : {X : Type 0} (out : PastChild MailTold → X) (is_it : Kind → Bool) (first : PastChild MailTold) (past : List (PastChild MailTold)) (came : X) → CameFrom out is_it past came
    → CameFrom out is_it (first ∷ past) came
one_more out is_it first past came from = record {
  child = from.child;
  there = (suc from.there.0, (let near : from.there.0 < length past = from.there.1 in omega arith), from.there.2);
  kind = from.kind;
  is = from.is;
}

was_last : {X : Type 0} (it : Bool) (came : X) (before : Option X) (last : X) → (if it then Some came else before) ≡ Some last → ((it ≡ true) × (came ≡ last)) ⊎ (before ≡ Some last)
was_last true came before last is = inl (refl, (let same : Some came ≡ Some last = is in cc))
was_last false came before last is = inr is

came_before : (is_it : Kind → Bool) (before : _) (past : List (PastChild MailTold)) (came : _) → came_from is_it before past ≡ Some came
    → (before ≡ Some came) ⊎ CameFrom (λ (c : PastChild MailTold). came_out c.status c.back) is_it past came
came_before is_it before [] came is = inl is
came_before is_it before (first ∷ past) came is = by (came_before is_it (last_with is_it first.offer.kind (came_out first.status first.back) before) past came is)
  where
    here : ((is_it first.offer.kind ≡ true) × (came_out first.status first.back ≡ came)) ⊎ (before ≡ Some came) → (before ≡ Some came) ⊎ CameFrom (λ (c : PastChild MailTold). came_out c.status c.back) is_it (first ∷ past) came
    here (inl its) = inr (record { child = first; there = (0, (let near : 0 < length (first ∷ past) = omega arith in near), refl); kind = its.0; is = its.1 })
    here (inr earlier) = inl earlier

    by : (last_with is_it first.offer.kind (came_out first.status first.back) before ≡ Some came) ⊎ CameFrom (λ (c : PastChild MailTold). came_out c.status c.back) is_it past came → (before ≡ Some came) ⊎ CameFrom (λ (c : PastChild MailTold). came_out c.status c.back) is_it (first ∷ past) came
    by (inl last) = here (was_last (is_it first.offer.kind) (came_out first.status first.back) before came last)
    by (inr from) = inr (one_more (λ (c : PastChild MailTold). came_out c.status c.back) is_it first past came from)

pub one_came : (is_it : Kind → Bool) (past : List (PastChild MailTold)) (came : _) → came_of is_it past ≡ Some came → CameFrom (λ (c : PastChild MailTold). came_out c.status c.back) is_it past came
one_came is_it past came is = by (came_before is_it None past came is)
  where
    by : (None ≡ Some came) ⊎ CameFrom (λ (c : PastChild MailTold). came_out c.status c.back) is_it past came → CameFrom (λ (c : PastChild MailTold). came_out c.status c.back) is_it past came
    by (inl none) = absurd cc
    by (inr from) = from

pub in_front : (front others : List (PastChild MailTold)) (child : PastChild MailTold) → Contains front child → Contains (front ++ others) child
in_front [] others child there = (let never : there.0 < 0 = there.1 in absurd (omega arith))
in_front (first ∷ front) others child (zero, near, is) = (0, (let less : 0 < length (first ∷ (front ++ others)) = omega arith in less), is)
in_front (first ∷ front) others child (suc n, near, is) =
    let low : suc n < suc (length front) = near in
    let rest : Contains (front ++ others) child = in_front front others child (n, omega arith, is) in
    (suc rest.0, (let less : rest.0 < length (front ++ others) = rest.1 in omega arith), rest.2)

-- the mail that tells such a refusal
told_by_mail : (back : MailTold) (refusal : StoreNo) → fault_in back ≡ Some refusal → (kept : Option ℕ) × (back ≡ mail.Aux (Some refusal) kept)
told_by_mail (mail.Aux fault kept) refusal is = (kept, ap (λ (f : Option StoreNo). mail.Aux f kept) is)
told_by_mail (mail.Serve link decision) refusal is = absurd cc
told_by_mail mail.Startup refusal is = absurd cc
told_by_mail mail.Checkpointer refusal is = absurd cc
told_by_mail mail.Writer refusal is = absurd cc
told_by_mail mail.Close refusal is = absurd cc
told_by_mail (mail.Served link) refusal is = absurd cc

module _ (conf : Conf) (end : ServerEnd) (board : RosterView MailTold) (before now : ServeView) (run : IsServed conf end board before now) where
  its_reason : (fault : RedoFault) → FailsFor (Redo fault) run.moves (slot_at board 0).past → (fault ≢ NoMemory) × IsUnread before.outside.disk.files run.book fault
  its_reason fault fails =
      let from : CameFrom (λ (c : PastChild MailTold). came_out c.status c.back) is_startup_child fails.out.front fails.came = one_came is_startup_child fails.out.front fails.came fails.out.came_is in
      let there : Contains (slot_at board 0).past from.child =
      subst (λ (past : List (PastChild MailTold)). Contains past from.child) (sym fails.out.past_is) (in_front fails.out.front fails.out.others from.child from.there) in
      let near = is_near conf end board before now run 0 from.child there in
      let its : RunOfChild (run.left.runs 0) from.child = run_of_child conf end board before now run 0 from.child there in
      let borne : IsBorneOut (manner_by conf before).files run.book its.run =
      All-contains (IsBorneOut (manner_by conf before).files run.book) (run.left.runs 0) its.run
      (All-from_recursion (IsBorneOut (manner_by conf before).files run.book) (run.left.runs 0) (run.left.borne_out 0 near)) its.there in
      let same : fault_in from.child.back ≡ fails.came.fault = (λ i. (from.is i).fault) in
      let told = told_by_mail from.child.back (RedoNo fault) (same ∙ fails.reason_is.0) in
      let startup = ap (λ (c : PastChild MailTold). c.offer.kind) its.same ∙ startup_is from.child.offer.kind from.kind in
      (fails.reason_is.1, borne.reason fault told.0 startup (ap (λ (c : PastChild MailTold). c.back) its.same ∙ told.1))

  pub fails_for_reason : FailsForReason end run.book before.outside.disk
  fails_for_reason = by end run.cause
    where
      by : (end : ServerEnd) → IsCausedBehind end run.moves board → FailsForReason end run.book before.outside.disk
      by (Abnormal (StartupFailed (Redo fault))) cause = its_reason fault cause
      by (Abnormal (StartupFailed Killed)) cause = tt
      by (Abnormal AfterCrash) cause = tt
      by (Abnormal RestartOff) cause = tt
      by (Abnormal GenerationsSpent) cause = tt
      by Clean cause = tt
      by NoThread cause = absurd cause
      by ShortOfMemory cause = tt
