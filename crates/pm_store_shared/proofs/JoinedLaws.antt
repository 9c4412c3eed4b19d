-- What the shared side has of the tokens that it took in.
use Rattle.std.{proofs.Common.{◌≡◌, ℕ, zero, suc, List, [], ◌∷◌, refl}, specs.Prelude.{Some, slice_get}}
use Rattle.pm_store_shared.specs.{Told.owns, declared.views.{Joined.Joined, Noted.Noted}}

pub owned_at : (joined : List Joined) (k : ℕ) (l : List Noted) → slice_get (owns joined) k ≡ Some l → (his : Joined) × (slice_get joined k ≡ Some his) × (his.own ≡ l)
owned_at [] k l e = absurd (cc)
owned_at (his ∷ joined) zero l e = (his, refl, cc)
owned_at (his ∷ joined) (suc k) l e = owned_at joined k l e
