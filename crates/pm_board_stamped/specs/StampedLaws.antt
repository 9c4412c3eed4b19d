-- The laws of a home whose value tells nothing but its generation.
use Rattle.std.{proofs.Common.{◌≡◌, ◌≢◌, ◌⊎◌, inl, inr, ⊎_elim, ℕ, zero, suc, ◌+◌, ◌<◌, ◌==◌, Bool, true, false, List, [], ◌∷◌, ◌++◌, length, set, slice_index, sym, refl, ap, ◌∙◌, subst, arith, length-set, length-append, get_or-set_same}, specs.Prelude.{Option, Some, None}}
use mathlib.Core.Option.{none, some, some-ne-none, some-injective}
use mathlib.Core.Option as maybe
use lib.ListN.{get_elem?}
use lib.Seq.{set-get_or}
use prog.Atomic.{either}
use Rattle.atomic_table.specs.Table as table
use Rattle.atomic_table.{specs.Table.{State, Me, Act, keeps, takes, gives, stepped, opening}, proofs.Lists.{at_set, set_again, set_here, set_else, exchanged}}
use Rattle.pm_facts.specs.Lists.{at_end}
use Rattle.pm_board_home.specs.Homes.{HasTaken, IsAlone, IsAtHome, IsOut, TakesByRule, GivesByRule, DealsByRule, GathersByRule, FoundsByRule}
use Rattle.pm_board_stamped.specs.{declared.stamped.{Stamped.Stamped, Known.{Known, TheVariants.{Vacant, Founding, Desk, Hand, Gone}}}, Stamped.{Where, home, out, IsSeat, stamped, has, leads, lends, stamp, IsNumbered, TakesIt, GivesIt, MayJoin, dealt, next, IsThere, HasIt, Fits, Holds, IsFresh, Kept}}

-- ---- lists

only : (l : List Known) (x y : Known) (id : ℕ) → l ≡ x ∷ [] → get_elem? l id ≡ some y → (id ≡ 0) × (x ≡ y)
only l x y id e at = go id (sym (ap (λ (z : List Known). get_elem? z id) e) ∙ at)
  where
    go : (id : ℕ) → get_elem? (x ∷ []) id ≡ some y → (id ≡ 0) × (x ≡ y)
    go zero same = (refl, some-injective x y same)
    go (suc i) none_there = absurd (some-ne-none y (sym none_there))

at_below : (l : List Known) (i : ℕ) (a : Known) → get_elem? l i ≡ some a → i < length l
at_below [] i a e = absurd (some-ne-none a (sym e))
at_below (x ∷ xs) zero a e = omega arith
at_below (x ∷ xs) (suc i) a e = let h = at_below xs i a e in omega arith

some_at : (l : List Known) (i : ℕ) → i < length l → (a : Known) × (get_elem? l i ≡ some a)
some_at [] i near = absurd (omega arith)
some_at (x ∷ xs) zero near = (x, refl)
some_at (x ∷ xs) (suc i) near = some_at xs i (omega arith)

no_way : {A : Type 0} → true ≡ false → A
no_way e = absurd (cc)

no_way' : {A : Type 0} → false ≡ true → A
no_way' e = absurd (cc)

-- ---- where the value is

is_home : (w : Where) (g word : ℕ) (slot : maybe.Option (maybe.Option (Option Stamped))) → IsThere w g word slot → word ≡ 0 → w ≡ home
is_home home g word slot h z = refl
is_home (out seat n) g word slot h z = absurd (omega arith)

is_out : (w : Where) (id number : ℕ) → HasIt w id number true → w ≡ out id number
is_out home id number it = absurd it
is_out (out seat holder) id number it = λ i. out (sym it.0 i) (sym it.1 i)

any_number : (w : Where) (id m n : ℕ) → HasIt w id m false → HasIt w id n false
any_number home id m n it = tt
any_number (out seat holder) id m n it = it

went : (id n j m : ℕ) (held : Bool) → j ≢ id → HasIt home j m held → HasIt (out id n) j m held
went id n j m false ne it = ne
went id n j m true ne it = absurd it

came : (id n j m : ℕ) (held : Bool) → j ≢ id → HasIt (out id n) j m held → HasIt home j m held
came id n j m false ne it = tt
came id n j m true ne it = absurd (ne it.0)

-- ---- between any two steps

not_vacant : (s : State (Option Stamped) Known) (id : ℕ) (u : Known) → IsFresh s → get_elem? s.views id ≡ some u → has u ≡ true
not_vacant s id u (inl f) at = ap has (sym (only s.views Vacant u id f.2 at).1)
not_vacant s id u (inr f) at = ap has (sym (only s.views Founding u id f.2 at).1)

not_lent : (s : State (Option Stamped) Known) (id : ℕ) (u : Known) → IsFresh s → get_elem? s.views id ≡ some u → lends u ≡ false
not_lent s id u (inl f) at = ap lends (sym (only s.views Vacant u id f.2 at).1)
not_lent s id u (inr f) at = ap lends (sym (only s.views Founding u id f.2 at).1)

one_seat : (s : State (Option Stamped) Known) (i j : ℕ) (a b : Known) → IsFresh s → get_elem? s.views i ≡ some a → get_elem? s.views j ≡ some b → i ≡ j
one_seat s i j a b (inl f) at at' = (only s.views Vacant a i f.2 at).0 ∙ sym (only s.views Vacant b j f.2 at').0
one_seat s i j a b (inr f) at at' = (only s.views Founding a i f.2 at).0 ∙ sym (only s.views Founding b j f.2 at').0

pub opens : Kept (opening (0 ∷ []) (None ∷ []) Vacant)
opens = inl (inl (refl, refl, refl))

pub starts : (leads Vacant ≡ true) × (lends Vacant ≡ false)
starts = (refl, refl)

pub founded : ◌≡◌ {A = ℕ} 0 0 → (has Founding ≡ true) × (leads Founding ≡ true) × (lends Founding ≡ false) × IsNumbered Founding 0
founded e = (refl, refl, refl, refl)

pub alone : IsAlone Kept has leads lends stamp
alone s (inl f) i j a b at at' apart yes_ lead = absurd (apart (one_seat s i j a b f at at'))
alone s (inr (w, master, g, h)) i j a b at at' apart yes_ lead = go w a b apart (h.each_seat i a at) (h.each_seat j b at') yes_ lead
  where
    go : (w : Where) (a b : Known) → ¬ (i ≡ j) → Fits w master g i a → Fits w master g j b → has a ≡ true → leads b ≡ true → (lends b ≡ true) × (stamp a ≡ stamp b)
    go w a (Hand n held) apart f f' yes_ lead = no_way' lead
    go w a Gone apart f f' yes_ lead = no_way' lead
    go w a Vacant apart f f' yes_ lead = absurd f'
    go w a Founding apart f f' yes_ lead = absurd f'
    go w Vacant (Desk n k held) apart f f' yes_ lead = absurd f
    go w Founding (Desk n k held) apart f f' yes_ lead = absurd f
    go w Gone (Desk n k held) apart f f' yes_ lead = no_way' yes_
    go w (Hand m None) (Desk n k held) apart f f' yes_ lead = no_way' yes_
    go w (Desk m l held') (Desk n k held) apart f f' yes_ lead = absurd (apart (f.0 ∙ sym f'.0))
    go home (Hand m (Some c)) (Desk n k held) apart f f' yes_ lead = absurd f.0
    go (out seat number) (Hand m (Some c)) (Desk n k false) apart f f' yes_ lead = (refl, f.1 ∙ sym f'.1)
    go (out seat number) (Hand m (Some c)) (Desk n k true) apart f f' yes_ lead = absurd (apart (f.0.0 ∙ sym f'.2.0))

pub at_home : IsAtHome Kept leads lends stamp (λ (x : Stamped). x.stamp)
at_home s (inl f) j b at lead lent zero_is = no_way (sym lent ∙ not_lent s j b f at)
at_home s (inr (w, master, g, h)) j b at lead lent zero_is =
    let w_is = is_home w g (slice_index s.words 0) (get_elem? s.homes 0) h.there zero_is in
    let there : IsThere home g (slice_index s.words 0) (get_elem? s.homes 0) = subst (λ (z : Where). IsThere z g (slice_index s.words 0) (get_elem? s.homes 0)) w_is h.there in
    (stamped g, there.1, go b (h.each_seat j b at) lent)
  where
    go : (b : Known) → Fits w master g j b → lends b ≡ true → g ≡ stamp b
    go (Desk n k held) f lent = sym f.1
    go (Hand n held) f lent = no_way' lent
    go Vacant f lent = absurd f
    go Founding f lent = absurd f
    go Gone f lent = no_way' lent

pub out_of : IsOut Kept has leads lends
out_of s (inl f) j b at lead lent ne = no_way (sym lent ∙ not_lent s j b f at)
out_of s (inr (w, master, g, h)) j b at lead lent ne = go w h.there h.holder h.each_seat
  where
    has_it : (seat n : ℕ) (a : Known) → Fits (out seat n) master g seat a → has a ≡ true
    has_it seat n (Desk m k true) f = refl
    has_it seat n (Desk m k false) f = absurd (f.2 refl)
    has_it seat n (Hand m None) f = absurd (f refl)
    has_it seat n (Hand m (Some k)) f = refl
    has_it seat n Vacant f = absurd f
    has_it seat n Founding f = absurd f
    has_it seat n Gone f = absurd (f refl)

    go : (w : Where) → IsThere w g (slice_index s.words 0) (get_elem? s.homes 0) → IsSeat w (length s.views) → ((id : ℕ) (v : Known) → get_elem? s.views id ≡ some v → Fits w master g id v) → (i : ℕ) × (a : Known) × (get_elem? s.views i ≡ some a) × (has a ≡ true)
    go home there seat each = absurd (ne there.0)
    go (out id n) there seat each = let a = some_at s.views id seat in (id, a.0, a.1, has_it id n a.0 (each id a.0 a.1))

-- ---- a take

fits_else : (master g id n j : ℕ) (v : Known) → j ≢ id → Fits home master g j v → Fits (out id n) master g j v
fits_else master g id n j (Desk m k held) ne f = (f.0, f.1, went id n j m held ne f.2)
fits_else master g id n j (Hand m None) ne f = ne
fits_else master g id n j (Hand m (Some k)) ne f = absurd f.0
fits_else master g id n j Vacant ne f = absurd f
fits_else master g id n j Founding ne f = absurd f
fits_else master g id n j Gone ne f = ne

stays : (s : State (Option Stamped) Known) (id : ℕ) (v : Known) → get_elem? s.views id ≡ some v → Kept s → Kept (stepped s 0 (slice_index s.words 0) id [] v keeps)
stays s id v at h = subst (λ (z : List ℕ × List Known). Kept record { words = z.0; homes = s.homes; views = z.1 }) (λ i. (sym (set-get_or s.words 0 0) i, sym (set_again s.views id v at) i)) h

taken_kept : (s : State (Option Stamped) Known) (id n master g : ℕ) (v v' : Known) → get_elem? s.views id ≡ some v → Holds home master g s → Fits (out id n) master g id v' → Kept (stepped s 0 (n + 1) id [] v' (takes 0 (Some (stamped g))))
taken_kept s id n master g v v' at h mine =
    let one : length s.words ≡ 1 = h.one_word in
    inr (
      out id n,
      master,
      g,
      record {
        one_word = length-set s.words 0 (n + 1) ∙ h.one_word;
        one_slot = length-set s.homes 0 none ∙ h.one_slot;
        there = get_or-set_same s.words 0 (n + 1) 0 (omega arith);
        holder = subst (λ (m : ℕ). id < m) (sym (length-set s.views id v')) (at_below s.views id v at);
        each_seat = λ j u e. ⊎_elim
            (λ (z : (j ≡ id) × (v' ≡ u)). subst (λ (y : ℕ × Known). Fits (out id n) master g y.0 y.1) (λ i. (sym z.0 i, z.1 i)) mine)
            (λ (z : (j ≢ id) × (get_elem? s.views j ≡ some u)). fits_else master g id n j u z.0 (h.each_seat j u z.1)) (at_set s.views id j v' u e);
      },
    )

-- what who takes the value knows then
abbrev taken_as : Known → ℕ → Known
taken_as (Desk n k held) g = Desk n k true
taken_as (Hand n held) g = Hand n (Some g)
taken_as Vacant g = Vacant
taken_as Founding g = Founding
taken_as Gone g = Gone

fits_taken : (master g id n : ℕ) (u : Known) → IsNumbered u n → has u ≡ false → Fits home master g id u → Fits (out id n) master g id (taken_as u g) × TakesIt u (stamped g) (taken_as u g)
fits_taken master g id n (Desk m k false) number free f = ((f.0, f.1, (refl, number)), (sym f.1, refl))
fits_taken master g id n (Desk m k true) number free f = no_way free
fits_taken master g id n (Hand m None) number free f = (((refl, number), refl), refl)
fits_taken master g id n (Hand m (Some k)) number free f = no_way free
fits_taken master g id n Vacant number free f = absurd f
fits_taken master g id n Founding number free f = absurd f
fits_taken master g id n Gone number free f = absurd number

pub take : TakesByRule Kept has IsNumbered TakesIt
take id n u number free s (inl f) wide at small = no_way (sym (not_vacant s id u f at) ∙ free)
take id n u number free s (inr (w, master, g, h)) wide at small =
    exchanged (slice_index s.words 0) 0 (n + 1)
    (λ z. (v : Known) × (a : Act (Option Stamped)) × table.Valid s.homes [] a × Kept (stepped s 0 z id [] v a) × HasTaken TakesIt u (slice_index s.words 0) (v, table.carried_after [] a))
    (λ zero_is.
    let w_is = is_home w g (slice_index s.words 0) (get_elem? s.homes 0) h.there zero_is in
    let h' : Holds home master g s = subst (λ (z : Where). Holds z master g s) w_is h in
    let mine = fits_taken master g id n u number free (h'.each_seat id u at) in (
      taken_as u g,
      takes 0 (Some (stamped g)),
      h'.there.1,
      taken_kept s id n master g u (taken_as u g) at h' mine.0,
      ((λ _. (stamped g, taken_as u g, refl, mine.1)), (λ ne. absurd (ne zero_is))),
    ))
    (λ ne. (u, keeps, tt, stays s id u at (inr (w, master, g, h)), ((λ zero_is. absurd (ne zero_is)), (λ _. refl))))

pub taken : (u v : Known) (x : Stamped) → TakesIt u x v → (has v ≡ true) × (leads v ≡ leads u) × (lends v ≡ false) × (stamp v ≡ x.stamp)
taken (Desk n g false) v x t = (ap has t.1, ap leads t.1, ap lends t.1, ap stamp t.1 ∙ sym t.0)
taken (Hand n None) v x t = (ap has t, ap leads t, ap lends t, ap stamp t)
taken (Desk n g true) v x t = absurd t
taken (Hand n (Some g)) v x t = absurd t
taken Vacant v x t = absurd t
taken Founding v x t = absurd t
taken Gone v x t = absurd t

pub taken_number : (u v : Known) (x : Stamped) (n : ℕ) → TakesIt u x v → IsNumbered u n → IsNumbered v n
taken_number (Desk m g false) v x n t number = subst (λ (z : Known). IsNumbered z n) (sym t.1) number
taken_number (Hand m None) v x n t number = subst (λ (z : Known). IsNumbered z n) (sym t) number
taken_number (Desk m g true) v x n t number = absurd t
taken_number (Hand m (Some g)) v x n t number = absurd t
taken_number Vacant v x n t number = absurd t
taken_number Founding v x n t number = absurd t
taken_number Gone v x n t number = absurd t

pub taken_stamp : (u v : Known) (x : Stamped) → TakesIt u x v → lends u ≡ true → x.stamp ≡ stamp u
taken_stamp (Desk n g false) v x t lent = t.0
taken_stamp (Hand n held) v x t lent = no_way' lent
taken_stamp (Desk n g true) v x t lent = absurd t
taken_stamp Vacant v x t lent = absurd t
taken_stamp Founding v x t lent = absurd t
taken_stamp Gone v x t lent = absurd t

-- ---- a give

fits_back : (master g g' id n j : ℕ) (v : Known) → j ≢ id → (id ≢ master → g' ≡ g) → Fits (out id n) master g j v → Fits home master g' j v
fits_back master g g' id n j (Desk m k held) ne same f = (f.0, f.1 ∙ sym (same (λ e. ne (f.0 ∙ sym e))), came id n j m held ne f.2)
fits_back master g g' id n j (Hand m None) ne same f = tt
fits_back master g g' id n j (Hand m (Some k)) ne same f = absurd (ne f.0.0)
fits_back master g g' id n j Vacant ne same f = absurd f
fits_back master g g' id n j Founding ne same f = absurd f
fits_back master g g' id n j Gone ne same f = tt

gave_kept : (s : State (Option Stamped) Known) (id n master g : ℕ) (x : Stamped) (v' : Known) → Holds (out id n) master g s → (id ≢ master → x.stamp ≡ g) → Fits home master x.stamp id v' → Kept (stepped s 0 0 id ((0, Some x) ∷ []) v' gives)
gave_kept s id n master g x v' h same mine =
    let one : length s.words ≡ 1 = h.one_word in let slot : length s.homes ≡ 1 = h.one_slot in
    inr (
      home,
      master,
      x.stamp,
      record {
        one_word = length-set s.words 0 0 ∙ h.one_word;
        one_slot = length-set s.homes 0 (some (Some x)) ∙ h.one_slot;
        there = (get_or-set_same s.words 0 0 0 (omega arith), set_here s.homes 0 (some (Some x)) (omega arith));
        holder = tt;
        each_seat = λ j u e. ⊎_elim
            (λ (z : (j ≡ id) × (v' ≡ u)). subst (λ (y : ℕ × Known). Fits home master x.stamp y.0 y.1) (λ i. (sym z.0 i, z.1 i)) mine)
            (λ (z : (j ≢ id) × (get_elem? s.views j ≡ some u)). fits_back master g x.stamp id n j u z.0 same (h.each_seat j u z.1)) (at_set s.views id j v' u e);
      },
    )

laid : (s : State (Option Stamped) Known) (id : ℕ) (x : Stamped) → (id ≡ 0) → (s.words ≡ 1 ∷ []) → (s.homes ≡ none ∷ []) → (s.views ≡ Founding ∷ []) → Kept (stepped s 0 0 id ((0, Some x) ∷ []) (Desk 0 x.stamp false) gives)
laid s id x id_is w h v = inr (
  home,
  0,
  x.stamp,
  record {
    one_word = (λ i. length (set (w i) 0 0));
    one_slot = (λ i. length (set (h i) 0 (some (Some x))));
    there = ((λ i. slice_index (set (w i) 0 0) 0), (λ i. get_elem? (set (h i) 0 (some (Some x))) 0));
    holder = tt;
    each_seat = λ j u e. let o = only (set s.views id (Desk 0 x.stamp false)) (Desk 0 x.stamp false) u j (λ i. set (v i) (id_is i) (Desk 0 x.stamp false)) e in
        subst (λ (y : ℕ × Known). Fits home 0 x.stamp y.0 y.1) (λ i. (sym o.0 i, o.1 i)) (refl, refl, tt);
  },
)

pub give : GivesByRule Kept has GivesIt
give id u v x yes_ gave s kept wide at small = go u kept gave at
  where
    back : (w : Where) (master g n : ℕ) (v' : Known) → Holds w master g s → HasIt w id n true → (id ≢ master → x.stamp ≡ g) → Fits home master x.stamp id v' → Kept (stepped s 0 0 id ((0, Some x) ∷ []) v' gives)
    back w master g n v' h it same mine = gave_kept s id n master g x v' (subst (λ (z : Where). Holds z master g s) (is_out w id n it) h) same mine

    told : (v' : Known) → v ≡ v' → Kept (stepped s 0 0 id ((0, Some x) ∷ []) v' gives) → (w : Known) × (a : Act (Option Stamped)) × table.Valid s.homes ((0, Some x) ∷ []) a × Kept (stepped s 0 0 id ((0, Some x) ∷ []) w a) × (◌≡◌ {A = Me (Option Stamped) Known} (w, table.carried_after ((0, Some x) ∷ []) a) (v, []))
    told v' e kept = (v', gives, tt, kept, (λ i. (sym e i, [])))

    go : (u : Known) → Kept s → GivesIt u x v → get_elem? s.views id ≡ some u → (w : Known) × (a : Act (Option Stamped)) × table.Valid s.homes ((0, Some x) ∷ []) a × Kept (stepped s 0 0 id ((0, Some x) ∷ []) w a) × (◌≡◌ {A = Me (Option Stamped) Known} (w, table.carried_after ((0, Some x) ∷ []) a) (v, []))
    go (Desk n g true) (inr (w, master, k, h)) gave at =
        let f = h.each_seat id (Desk n g true) at in told (Desk n x.stamp false) gave (back w master k n (Desk n x.stamp false) h f.2 (λ ne. absurd (ne f.0)) (f.0, refl, tt))
    go (Desk n g true) (inl (inl f)) gave at = absurd (let no_ : Vacant ≡ Desk n g true = (only s.views Vacant (Desk n g true) id f.2 at).1 in cc)
    go (Desk n g true) (inl (inr f)) gave at = absurd (let no_ : Founding ≡ Desk n g true = (only s.views Founding (Desk n g true) id f.2 at).1 in cc)
    go (Hand n (Some g)) (inr (w, master, k, h)) gave at =
        let f = h.each_seat id (Hand n (Some g)) at in told (Hand n None) gave.1 (back w master k n (Hand n None) h f.0 (λ _. gave.0 ∙ f.1) tt)
    go (Hand n (Some g)) (inl (inl f)) gave at = absurd (let no_ : Vacant ≡ Hand n (Some g) = (only s.views Vacant (Hand n (Some g)) id f.2 at).1 in cc)
    go (Hand n (Some g)) (inl (inr f)) gave at = absurd (let no_ : Founding ≡ Hand n (Some g) = (only s.views Founding (Hand n (Some g)) id f.2 at).1 in cc)
    go Founding (inr (w, master, k, h)) gave at = absurd (h.each_seat id Founding at)
    go Founding (inl (inl f)) gave at = absurd (let no_ : Vacant ≡ Founding = (only s.views Vacant Founding id f.2 at).1 in cc)
    go Founding (inl (inr f)) gave at = told (Desk 0 x.stamp false) gave (laid s id x (only s.views Founding Founding id f.2 at).0 f.0 f.1 f.2)
    go (Desk n g false) kept gave at = absurd gave
    go (Hand n None) kept gave at = absurd gave
    go Vacant kept gave at = absurd gave
    go Gone kept gave at = absurd gave

pub given : (u v : Known) (x : Stamped) → GivesIt u x v → (has v ≡ false) × (leads v ≡ leads u) × (leads u ≡ true → lends v ≡ true)
given (Desk n g true) v x t = (ap has t, ap leads t, (λ _. ap lends t))
given (Hand n (Some g)) v x t = (ap has t.1, ap leads t.1, (λ lead. no_way' lead))
given Founding v x t = (ap has t, ap leads t, (λ _. ap lends t))
given (Desk n g false) v x t = absurd t
given (Hand n None) v x t = absurd t
given Vacant v x t = absurd t
given Gone v x t = absurd t

pub given_number : (u v : Known) (x : Stamped) (n : ℕ) → GivesIt u x v → IsNumbered u n → IsNumbered v n
given_number (Desk m g true) v x n t number = subst (λ (z : Known). IsNumbered z n) (sym t) number
given_number (Hand m (Some g)) v x n t number = subst (λ (z : Known). IsNumbered z n) (sym t.1) number
given_number Founding v x n t number = subst (λ (z : Known). IsNumbered z n) (sym t) (sym number)
given_number (Desk m g false) v x n t number = absurd t
given_number (Hand m None) v x n t number = absurd t
given_number Vacant v x n t number = absurd t
given_number Gone v x n t number = absurd t

pub given_stamp : (u v : Known) (x : Stamped) → GivesIt u x v → lends v ≡ true → stamp v ≡ x.stamp
given_stamp (Desk n g true) v x t lent = ap stamp t
given_stamp (Hand n (Some g)) v x t lent = no_way' (ap lends (sym t.1) ∙ lent)
given_stamp Founding v x t lent = ap stamp t
given_stamp (Desk n g false) v x t lent = absurd t
given_stamp (Hand n None) v x t lent = absurd t
given_stamp Vacant v x t lent = absurd t
given_stamp Gone v x t lent = absurd t

-- ---- a new seat

longer : (w : Where) (l : List Known) (u v : Known) (id : ℕ) → IsSeat w (length l) → IsSeat w (length (set l id u ++ v ∷ []))
longer home l u v id seat = tt
longer (out j n) l u v id seat = let e : length (set l id u ++ v ∷ []) ≡ length l + 1 = length-append (set l id u) (v ∷ []) ∙ ap (λ (m : ℕ). m + 1) (length-set l id u) in omega arith

beyond : (w : Where) (n m j : ℕ) → IsSeat w n → j ≡ n → HasIt w j m false
beyond home n m j seat e = tt
beyond (out k o) n m j seat e = λ same. absurd (omega arith)

pub deal : DealsByRule Kept has leads dealt next
deal id (Hand n held) lead free s kept at = no_way' lead
deal id Gone lead free s kept at = no_way' lead
deal id Vacant lead free s kept at = no_way free
deal id Founding lead free s kept at = no_way free
deal id (Desk n k true) lead free s kept at = no_way free
deal id (Desk n k false) lead free s (inl f) at = no_way (sym (not_vacant s id (Desk n k false) f at))
deal id (Desk n k false) lead free s (inr (w, master, g, h)) at = inr (
  w,
  master,
  g,
  record {
    one_word = h.one_word;
    one_slot = h.one_slot;
    there = h.there;
    holder = longer w s.views (Desk (n + 1) k false) (Hand n None) id h.holder;
    each_seat = λ j u e. ⊎_elim
        (λ (y : get_elem? (set s.views id (Desk (n + 1) k false)) j ≡ some u). ⊎_elim
        (λ (z : (j ≡ id) × (Desk (n + 1) k false ≡ u)). let f = h.each_seat id (Desk n k false) at in
        subst (λ (x : ℕ × Known). Fits w master g x.0 x.1) (λ i. (sym z.0 i, z.1 i)) (f.0, f.1, any_number w id n (n + 1) f.2))
        (λ (z : (j ≢ id) × (get_elem? s.views j ≡ some u)). h.each_seat j u z.1) (at_set s.views id j (Desk (n + 1) k false) u y))
        (λ (y : (j ≡ length (set s.views id (Desk (n + 1) k false))) × (Hand n None ≡ u)).
        subst (λ (x : Known). Fits w master g j x) y.1 (beyond w (length s.views) n j h.holder (y.0 ∙ length-set s.views id (Desk (n + 1) k false))))
        (at_end (set s.views id (Desk (n + 1) k false)) (Hand n None) u j e);
  },
)

pub dealt_as : (u : Known) → (has (dealt u) ≡ has u) × (leads (dealt u) ≡ leads u) × (lends (dealt u) ≡ lends u) × (stamp (dealt u) ≡ stamp u) × (has (next u) ≡ false)
dealt_as (Desk n g held) = (refl, refl, refl, refl, refl)
dealt_as (Hand n held) = (refl, refl, refl, refl, refl)
dealt_as Vacant = (refl, refl, refl, refl, refl)
dealt_as Founding = (refl, refl, refl, refl, refl)
dealt_as Gone = (refl, refl, refl, refl, refl)

pub dealt_number : (u : Known) (n : ℕ) → leads u ≡ true → has u ≡ false → IsNumbered u n → IsNumbered (dealt u) (n + 1) × IsNumbered (next u) n
dealt_number (Desk m g held) n lead free number = (ap (λ (z : ℕ). z + 1) number, number)
dealt_number (Hand m held) n lead free number = no_way' lead
dealt_number Vacant n lead free number = no_way free
dealt_number Founding n lead free number = no_way free
dealt_number Gone n lead free number = no_way' lead

-- ---- and one that is taken in

pub gather : GathersByRule Kept leads MayJoin (λ u _. u) Gone
gather id other u (Hand n None) lead may s (inl f) at ne at' = absurd (ne (one_seat s other id (Hand n None) u f (sym (set_else s.views id other u (λ e. ne e)) ∙ at') at))
gather id other u (Hand n None) lead may s (inr (w, master, g, h)) at ne at' =
    let same : set s.views id u ≡ s.views = set_again s.views id u at in
    let his : get_elem? s.views other ≡ some (Hand n None) = subst (λ (l : List Known). get_elem? l other ≡ some (Hand n None)) same at' in
    subst (λ (l : List Known). Kept record { words = s.words; homes = s.homes; views = set l other Gone }) (sym same)
    (inr (
      w,
      master,
      g,
      record {
        one_word = h.one_word;
        one_slot = h.one_slot;
        there = h.there;
        holder = subst (IsSeat w) (sym (length-set s.views other Gone)) h.holder;
        each_seat = λ j v e. ⊎_elim
            (λ (z : (j ≡ other) × (Gone ≡ v)). subst (λ (x : ℕ × Known). Fits w master g x.0 x.1) (λ i. (sym z.0 i, z.1 i)) (any_number w other n 0 (h.each_seat other (Hand n None) his)))
            (λ (z : (j ≢ other) × (get_elem? s.views j ≡ some v)). h.each_seat j v z.1) (at_set s.views other j Gone v e);
      },
    ))
gather id other u (Hand n (Some g)) lead may s kept at ne at' = absurd may
gather id other u (Desk n g held) lead may s kept at ne at' = absurd may
gather id other u Vacant lead may s kept at ne at' = absurd may
gather id other u Founding lead may s kept at ne at' = absurd may
gather id other u Gone lead may s kept at ne at' = absurd may

pub gathered_as : (u v : Known) → (has u ≡ has u) × (leads u ≡ leads u) × (lends u ≡ lends u) × (stamp u ≡ stamp u) × (has Gone ≡ false)
gathered_as u v = (refl, refl, refl, refl, refl)

pub gathered_number : (u v : Known) (n : ℕ) → IsNumbered u n → IsNumbered u n
gathered_number u v n number = number

-- ---- the first step at a new board

pub founds : ◌≡◌ {A = ℕ} 0 0 → FoundsByRule Kept Vacant Founding
founds e id s (inr (w, master, g, h)) wide at small = absurd (h.each_seat id Vacant at)
founds e id s (inl (inr f)) wide at small = absurd (let no_ : Founding ≡ Vacant = (only s.views Founding Vacant id f.2 at).1 in cc)
founds e id s (inl (inl f)) wide at small =
    let o = only s.views Vacant Vacant id f.2 at in (
      Founding,
      takes 0 None,
      ap (λ (l : List (maybe.Option (Option Stamped))). get_elem? l 0) f.1,
      inl (inr ((λ i. set (f.0 i) 0 (either (slice_index (f.0 i) 0 == 0) 1 (slice_index (f.0 i) 0))), (λ i. set (f.1 i) 0 none), (λ i. set (f.2 i) (o.0 i) Founding))),
      (ap (λ (l : List ℕ). slice_index l 0) f.0, refl),
    )
