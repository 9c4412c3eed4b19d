-- What is less.
use Rattle.std.{proofs.Common.{◌≡◌, T, refl, sym, subst}, specs.{declared.cmp.Ordering.{Ordering, TheVariants.{Less, Equal, Greater}}, Ordering.is_lt}}

pub is_less : (order : Ordering) → T (is_lt order) → order ≡ Less
is_less Less h = refl
is_less Equal h = absurd h
is_less Greater h = absurd h

pub less_is : (order : Ordering) → order ≡ Less → T (is_lt order)
less_is order e = subst (λ (o : Ordering). T (is_lt o)) (sym e) tt
