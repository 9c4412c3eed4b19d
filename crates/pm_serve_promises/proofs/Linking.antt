-- Each connection that was accepted is one of the talks, over its own link.
use Rattle.std.{proofs.{Common.{◌≡◌, ℕ, ◌+◌, ◌<◌, Bool, true, List, [], ◌∷◌, Option, None, Some, refl, sym, ap, subst, ◌∙◌}, lemmas.List.Elements.{All-contains, All-from_recursion}}, specs.{Prelude.{IfSome, is_some}, List.Contains}}
use Rattle.pm_server.specs.declared.{conf.Conf.Conf, end.ServerEnd.ServerEnd}
use Rattle.pm_promises.specs.pm_session_answers.Replies.{Talk}
use Rattle.pm_postmaster.specs.{pm_board.{pm_board_words.declared.views.{PastChild.PastChild, RosterView.RosterView}, Places.slot_at}, pm_board_acts.pm_admit.declared.Cac.Cac, pm_outside.Visits.{Visit, Visits}, pm_worker.{declared.mail.{LinkTold.LinkTold, MailTold.MailTold}, Runs.{Does, IsRun, IsSessionRun, Run}}, Links.{AcceptedConnection, AreBackIn, BackIn, IsOffered, Serves, accepted_in}, Outside.ServeView, Served.{IsServed, manner_by, slots_by}}
use Rattle.pm_postmaster.specs.pm_worker.declared.mail.MailTold.TheVariants as mail
use Rattle.pm_serve_first_crash.{specs.pm_serve_crew.{Left.Manner, Talks.AreTalksOf}, proofs.pm_serve_crew.{EntriesLaws.worked, TalksLaws.{HasTalk, talk_of_run, there_of_slots}}}
use Rattle.pm_serve_promises.{specs.{Links.{AreOverLinks, IsOverLink}, Runs.{journal_in, runs_in}}, proofs.Children.{RunOfChild, is_near, run_of_child}}

-- a mail that serves has a link and a decision
serves_so : (numbered : Bool) (n : ℕ) (decision : Cac) (m : MailTold) → Serves numbered n decision m
    → (link : LinkTold) × (told : Cac) × (m ≡ mail.Serve link told) × (told ≡ decision) × (numbered ≡ true → link.number ≡ n)
serves_so numbered n decision (mail.Serve link told) its = (link, told, refl, its.0, its.1)
serves_so numbered n decision _ its = absurd its

-- the link that a mail gives back, or else this one
abbrev back_in : LinkTold → MailTold → LinkTold
back_in other (mail.Served link) = link
back_in other _ = other

module _ (conf : Conf) (end : ServerEnd) (board : RosterView MailTold) (before now : ServeView) (run : IsServed conf end board before now) (talks : List Talk) (are : AreTalksOf before.outside.seed (runs_in run) talks) where
  abbrev manner : Manner
  manner = manner_by conf before

  -- a connection, and the child that answered it
  module _ (n : ℕ) (c : AcceptedConnection) (k : ℕ) (child : PastChild MailTold) (there : Contains (slot_at board k).past child) (offered : IsOffered (is_some now.outside.visits) (n + 1) c child.offer) where
    less : k < slots_by conf.limits
    less = is_near conf end board before now run k child there

    its : RunOfChild (run.left.runs k) child
    its = run_of_child conf end board before now run k child there

    is_run : IsRun None manner.seed manner.limit manner.gives its.run
    is_run =
        All-contains (IsRun None manner.seed manner.limit manner.gives) (run.left.runs k) its.run
        (All-from_recursion (IsRun None manner.seed manner.limit manner.gives) (run.left.runs k) (worked manner (slots_by conf.limits) board run.own run.book run.left run.once k less).each)
        its.there

    serves : (link : LinkTold) × (told : Cac) × (child.offer.given ≡ mail.Serve link told) × (told ≡ c.decision) × (is_some now.outside.visits ≡ true → link.number ≡ n + 1)
    serves = serves_so (is_some now.outside.visits) (n + 1) c.decision child.offer.given offered.1

    given : its.run.child.offer.given ≡ mail.Serve serves.0 serves.1
    given = ap (λ (x : PastChild MailTold). x.offer.given) its.same ∙ serves.2

    session : IsSessionRun None manner.seed manner.limit manner.gives serves.0 serves.1 its.run
    session = subst (λ (m : MailTold). Does None manner.seed manner.limit manner.gives m its.run) given is_run.does

    found : HasTalk manner.seed serves.1 its.run talks
    found =
        talk_of_run manner.seed serves.0 serves.1 its.run given (runs_in run) talks are
        (there_of_slots its.run (slots_by conf.limits) run.left.runs k less its.there)

    -- what it gave back
    child_back : child.back ≡ mail.Served found.2.back
    child_back = ap (λ (x : PastChild MailTold). x.back) (sym its.same) ∙ found.2.back_is

    same_number : found.2.back.number ≡ serves.0.number
    same_number = ap (λ (m : MailTold). (back_in found.2.back m).number) (sym found.2.back_is ∙ session.back_is) ∙ session.number

    back : IfSome now.outside.visits (λ v. (visit : Visit) × Contains v.back visit × (visit.number ≡ n + 1) × (visit.traffic ≡ found.0.link))
    back = by now.outside.visits run.returned serves.4
      where
        by : (visits : Option Visits) → IfSome visits (AreBackIn board) → (is_some visits ≡ true → serves.0.number ≡ n + 1)
            → IfSome visits (λ v. (visit : Visit) × Contains v.back visit × (visit.number ≡ n + 1) × (visit.traffic ≡ found.0.link))
        by None returned number = tt
        by (Some v) returned number =
            let visit : BackIn v.back (mail.Served found.2.back) = subst (BackIn v.back) child_back (returned k child there) in
            (visit.0, visit.1, visit.2 ∙ same_number ∙ number refl, visit.3 ∙ sym found.2.link)

    over : IsOverLink (n + 1) c now.outside.visits found.0
    over = record {
      pid = found.2.pid ∙ ap (λ (x : PastChild MailTold). x.offer.pid) its.same ∙ offered.0;
      decision = found.2.decision_is ∙ serves.3;
      back = back;
    }

    its_talk : (talk : Talk) × Contains talks talk × IsOverLink (n + 1) c now.outside.visits talk
    its_talk = (found.0, found.1, over)

  pub over_links : AreOverLinks (accepted_in (journal_in run)) now.outside.visits talks
  over_links n c at =
      let answered = run.connections n c at in
      its_talk n c answered.0 answered.1 answered.2 answered.3
