-- How the child on a post ends.
use Rattle.std.{proofs.Common.{◌≡◌, ℕ, refl, sym, ap, subst}, specs.Prelude.{true, false}}
use Rattle.pm_board.specs.{pm_exit.declared.child.Status.Status, pm_board_words.declared.views.{Offer.Offer, PostView.PostView, Work.{Work, TheVariants.{Idle, Inactive, Attached}}}, Told.MayEnd, Models.HasExited}

pub exits : (v u : PostView ℕ) (o : Offer ℕ) (status : Status) (back : ℕ) → v.work ≡ Inactive o → HasExited status back v u → u.work ≡ Idle
exits v u o status back is was = ap (λ (w : PostView ℕ). w.work) (was o false (subst (λ (w : Work ℕ). MayEnd w o false) (sym is) (refl, refl)))

pub dies : (v u : PostView ℕ) (o : Offer ℕ) (generation : ℕ) (status : Status) (back : ℕ) → v.work ≡ Attached o generation → HasExited status back v u → u.work ≡ Idle
dies v u o generation status back is was = ap (λ (w : PostView ℕ). w.work) (was o true (subst (λ (w : Work ℕ). MayEnd w o true) (sym is) (refl, refl)))
