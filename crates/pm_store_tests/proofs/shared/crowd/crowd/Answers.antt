use Rattle.std.proofs.Common.{◌≡◌, drop, length, sym, subst, arith}
use Rattle.pm_store_shared.specs.Told.{AreTokens}
use Rattle.pm_store_tests.{specs.Seats.AreParted, proofs.Parts.stays}
use Rattle.pm_store_tests.proofs.shared.crowd.crowd.Goals as goal

pub seats_of-requires : goal.seats_of-requires
seats_of-requires g c = subst (λ n. AreTokens c.in-Ok.shared.table n c.in-Ok.tokens) (sym c.in-Ok.ensures.shared.tokens_are) c.in-Ok.ensures.tokens.all

pub put_back-requires : goal.put_back-requires
put_back-requires g c =
    let kept = c.work_all.auto.seats in
    let size = c.as_mut_slice.ensures.len in
    let same_length : length c.work_all.new.seats ≡ length c.as_mut_slice.result.now = omega arith in
    let len : c.in_ok-seats.seats.len ≡ length c.work_all.new.seats = omega arith in
    let taken : AreParted c.in-Ok.shared.table c.in-Ok.shared.tokens c.seats_of.new.tokens c.as_mut_slice.result.now = subst (AreParted c.in-Ok.shared.table c.in-Ok.shared.tokens c.seats_of.new.tokens) (sym c.as_mut_slice.ensures.value) c.in_ok-seats.ensures in
    stays _ _ _ _ _ (drop (length c.work_all.new.seats) c.in_ok-seats.seats.items) _ same_length len c.work_all.ensures taken
