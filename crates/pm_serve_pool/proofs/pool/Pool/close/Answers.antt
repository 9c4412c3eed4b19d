use Rattle.std.proofs.Common.{◌∙◌, ◌<◌, ℕ, ap, length, subst, sym}
use Rattle.pm_store_shared.specs.Behind.{Behind}
use Rattle.pm_serve_pool.{specs.{Closing.AreClosed, Plan.{files_of, manner_of, slots_of}}, proofs.{Closed.shut_first, Left.left_all}}
use Rattle.pm_serve_pool.proofs.pool.Pool.close.Goals as goal

pub close_all-requires-clause-shut : goal.close_all-requires-clause-shut
close_all-requires-clause-shut g c = shut_first (slots_of c.args.self.terms.plan) c.args.roster.now.knows c.requires.board

pub into_segment-requires : goal.into_segment-requires
into_segment-requires g c =
    let closed = c.close_all.ensures.closed in
    ap (λ s. length s.joined) closed.shared ∙ closed.all ∙ c.requires.pool.count ∙ sym c.requires.shared.0 ∙ sym (ap (λ s. s.tokens) closed.shared)

pub returns-clause-left : goal.returns-clause-left
returns-clause-left g c =
    let manner = manner_of g.C.Clock.gives c.args.self.terms (files_of g.D.Disk c.args.shared.first) in
    let closed : AreClosed manner (slots_of c.args.self.terms.plan) c.args.roster.now.knows c.close_all.new.roster.knows c.args.shared c.close_all.new.shared =
    subst (λ (n : ℕ). AreClosed manner n c.args.roster.now.knows c.close_all.new.roster.knows c.args.shared c.close_all.new.shared) c.requires.pool.count c.close_all.ensures.closed in
    left_all (λ first log. Behind first log c.into_segment.result) manner (slots_of c.args.self.terms.plan) c.args.roster.now.knows c.close_all.new.roster.knows c.args.shared c.close_all.new.shared closed
    c.requires.board.slots c.requires.shared.0 c.into_segment.ensures

pub returns-clause-last : goal.returns-clause-last
returns-clause-last g c k near = c.close_all.ensures.closed.last k (subst (λ (n : ℕ). k < n) (sym c.requires.pool.count) near)
