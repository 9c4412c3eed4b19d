use Rattle.std.{proofs.Common.{◌≡◌, ◌∙◌, ℕ, ap, subst}, specs.Prelude.{Option, None, Some}}
use Rattle.pm_board.specs.{Models.HasGathered, Places.slot_at}
use Rattle.pm_spawn.specs.Works.{work_of}
use Rattle.pm_store_shared.specs.{pm_record.declared.fault.RedoFault.RedoFault, Learned.{IsUnread, Learned}, Told.TokenModel}
use Rattle.pm_store_shared.specs.pm_disk.declared.disk.Disk as Disk
use Rattle.pm_segment.specs.pm_outside.declared.chronicle.Chronicle as Chronicle
use Rattle.pm_serve_crew.specs.pm_query.{declared.book.BookEntry.BookEntry, Calls.unread_for}
use Rattle.pm_serve_pool.{specs.Plan.{files_of, manner_of}, proofs.{Leaving.leaves, Slots.closed_one}}
use Rattle.pm_serve_pool.proofs.closing.close_one.Goals as goal

-- what a token has learned of a redo is why it was refused
tells_reason : {D B : Type 0} (g : Disk.Ghosts D) (h : Chronicle.Ghosts B BookEntry) (token : TokenModel D) (fault : RedoFault) → Learned g h token.first token.past (unread_for fault) → IsUnread (files_of g token.first) token.past fault
tells_reason g h token fault learned = by token.first learned
  where
    by : (first : Option _) → Learned g h first token.past (unread_for fault) → IsUnread (files_of g first) token.past fault
    by None learned = λ whole none. tt
    by (Some disk) learned = learned

pub gather-requires-clause-slot : goal.gather-requires-clause-slot
gather-requires-clause-slot g c =
    let a = c.tell.ensures.assigned in
    let r = c.release.ensures.released a.0 (ap (λ x. x.sight) a.2.here) in
    let slot : c.join-post.result.0.slot ≡ c.args.slot = c.join-post.ensures.worked.post.slot ∙ ap (λ p. p.slot) c.requires.new.post_is in
    ap (λ (k : ℕ). (slot_at c.release.new.roster.knows k).sight) slot ∙ ap (λ x. x.sight) r.here

pub returns-clause-closed : goal.returns-clause-closed
returns-clause-closed g c =
    let a = c.tell.ensures.assigned in
    let r = c.release.ensures.released a.0 (ap (λ x. x.sight) a.2.here) in
    let work = work_of c.args.worker in
    let post = c.join-post.result.0 in
    let slot : post.slot ≡ c.args.slot = c.join-post.ensures.worked.post.slot ∙ ap (λ p. p.slot) c.requires.new.post_is in
    let left =
    leaves g.D.Disk (λ token. Learned g.D.Disk g.B.Chronicle token.first token.past) (tells_reason g.D.Disk g.B.Chronicle) g.C.Clock.gives c.args.terms.now (λ store. store.token) c.args.roster.now.table c.args.shared.now.table
    c.args.shared.now.first c.args.slot work.tools work.post post work.store c.join-post.result.1 c.requires.new
    c.join-post.ensures in
    closed_one c.args.slot c.args.roster.now.knows c.tell.new.roster.knows c.release.new.roster.knows c.gather.new.self.knows a r (manner_of g.C.Clock.gives c.args.terms.now (files_of g.D.Disk c.args.shared.now.first)) post c.join-post.result.1.token
    c.args.roster.now.table c.args.shared.now.table c.args.shared.now c.take_back.new.self c.requires.shut left
    (subst (λ (k : ℕ). HasGathered k post.knows c.release.new.roster.knows c.gather.new.self.knows) slot c.gather.ensures.slot)
    (c.gather.ensures.same ∙ ap (λ (k : ℕ). (slot_at c.release.new.roster.knows k).past) slot) c.gather.ensures.heard c.take_back.ensures
