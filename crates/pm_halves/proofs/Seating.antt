-- A seat's own slot of the first part, two seats of one, one of two, and the first seat of a new table.
use Rattle.std.{proofs.{Common.{◌≡◌, ℕ, ◌+◌, ◌-◌, ◌<◌, List, [], ◌∷◌, ◌++◌, map, length, replicate, sym, refl, ap, ◌∙◌, subst, arith, length-append}, lemmas.List.{length-map, length-replicate}}, specs.Prelude.{Option, None}}
use Rattle.atomic_table.specs.{Table.{State, Me, Splits, Joins, rest, opening}, Seated.TableId}
use Rattle.pm_halves.{specs.{declared.lot.Lot.{Lot, TheVariants.{First, Second}}, Halves.Halves, Sitting.{Laid, laid, lowered, Sitting, sitting, firsts_in, seconds_in, carried_both, AllWithin, IsLaid, IsWhole}, Seats.{MaySplit, MayJoin, Knows, IsNewSeat, OpensVacant, IsNewTable}}, proofs.{Lifts.{both_split, both_join, both_open}, Carried.{both_back, raised}}}

module _ {X Y : Type 0} where
  first_on_top : (n slot : ℕ) (x : X) (c : List (ℕ × X)) (d : List (ℕ × Y)) (l : List (ℕ × Lot X Y)) → l ≡ carried_both n c d → c ≡ (slot, x) ∷ rest c → l ≡ (slot, First x) ∷ carried_both n (rest c) d
  first_on_top n slot x c d l e is = e ∙ (ap (λ (z : List (ℕ × X)). carried_both n z d) is ∙ (λ i. ((let zero_more : 0 + slot ≡ slot = omega arith in zero_more) i, First x) ∷ carried_both n (rest c) d))

  abbrev first_or : X → Lot X Y → X
  first_or x (First x') = x'
  first_or x (Second y) = x

  abbrev top_or : Lot X Y → List (ℕ × Lot X Y) → Lot X Y
  top_or x [] = x
  top_or x (c ∷ cs) = c.1

  -- the value that was in it came out
  pub first_out : {slot : ℕ} (x value : X) (result : Lot X Y) (l others more : List (ℕ × Lot X Y)) → l ≡ (slot, First x) ∷ others → l ≡ (slot, result) ∷ more → result ≡ First value → value ≡ x
  first_out x value result l others more e e' is =
      let on_top : result ≡ First x = ap (top_or result) (sym e' ∙ e) in ap (first_or x) (sym is ∙ on_top)

  pub no_second : {slot : ℕ} (x : X) (y : Y) (result : Lot X Y) (l others more : List (ℕ × Lot X Y)) → l ≡ (slot, First x) ∷ others → l ≡ (slot, result) ∷ more → result ≡ Second y → ⊥
  no_second x y result l others more e e' is = let no : First x ≡ Second y = sym (ap (top_or result) (sym e' ∙ e)) ∙ is in cc

module _ {X Y V W K : Type 0} (count : ℕ → ℕ) (m : ℕ) where
  same_table : (id : ℕ) (t t' : TableId) (k : K) (me : Me (Lot X Y) (V × W)) (l : Laid K) (z : Sitting X Y V W) → IsLaid count m t' → IsWhole count m t me → laid m t' k ≡ l → sitting m t id me ≡ z → z.table ≡ l.table → t ≡ t'
  same_table id t t' k me l z is whole l_is z_is table = raised count m t t' whole.0 is ((ap (λ (y : Sitting X Y V W). y.table) z_is ∙ table) ∙ ap (λ (y : Laid K). y.table) (sym l_is))

  -- the slot of the first part that a seat took last is on top
  pub may_exchange : (id slot : ℕ) (t t' : TableId) (k : K) (me : Me (Lot X Y) (V × W)) (l : Laid K) (z : Sitting X Y V W) → IsLaid count m t' → IsWhole count m t me → laid m t' k ≡ l → sitting m t id me ≡ z → z.table ≡ l.table → ((old : X) × (z.me.1 ≡ (slot, old) ∷ rest z.me.1))
      → (t ≡ t') × ((x : X) × (me.1 ≡ (slot, First x) ∷ rest me.1))
  may_exchange id slot t t' k me l z is whole l_is z_is table last =
      let c_is : firsts_in me.1 ≡ z.me.1 = ap (λ (y : Sitting X Y V W). y.me.1) z_is in
      let e = first_on_top (t.slots - m) slot last.0 (firsts_in me.1) (seconds_in (t.slots - m) me.1) me.1 whole.1 (subst (λ (c : List (ℕ × X)). c ≡ (slot, last.0) ∷ rest c) (sym c_is) last.1) in
      (same_table id t t' k me l z is whole l_is z_is table, (last.0, e ∙ ap (λ (c : List (ℕ × Lot X Y)). (slot, First last.0) ∷ c) (ap rest (sym e))))

module _ {X Y V W : Type 0} (count : ℕ → ℕ) (m : ℕ) where
  -- it has this in it now
  pub exchanged_first : (t t' : TableId) (id id' slot : ℕ) (old new : X) (me me' : Me (Lot X Y) (V × W)) (z : Sitting X Y V W) → IsWhole count m t me → sitting m t id me ≡ z → t' ≡ t → id' ≡ id → me.1 ≡ (slot, First old) ∷ rest me.1 → me' ≡ (me.0, (slot, First new) ∷ rest me.1)
      → (z.me.1 ≡ (slot, old) ∷ rest z.me.1) × ((lowered m t' ≡ z.table) × (id' ≡ z.id)) × (◌≡◌ {A = Me X V} (me'.0.0, firsts_in me'.1) (z.me.0, (slot, new) ∷ rest z.me.1)) × (◌≡◌ {A = Me Y W} (me'.0.1, seconds_in (t'.slots - m) me'.1) z.more) × IsWhole count m t' me'
  exchanged_first t t' id id' slot old new me me' z whole z_is same id_is on_top e =
      let n : ℕ = t.slots - m in let c : List (ℕ × X) = firsts_in me.1 in let d : List (ℕ × Y) = seconds_in n me.1 in
      let c_is : c ≡ (slot, old) ∷ firsts_in (rest me.1) = ap firsts_in on_top in
      let rest_is : firsts_in (rest me.1) ≡ rest c = sym (ap rest c_is) in
      let first : c ≡ (slot, old) ∷ rest c = c_is ∙ ap (λ (x : List (ℕ × X)). (slot, old) ∷ x) rest_is in
      let under : rest me.1 ≡ carried_both n (rest c) d = ap rest (first_on_top n slot old c d me.1 whole.1 first) in
      let list : me'.1 ≡ carried_both n ((slot, new) ∷ rest c) d = ap (λ (x : Me (Lot X Y) (V × W)). x.1) e ∙ (λ i. ((let zero_more : slot ≡ 0 + slot = omega arith in zero_more) i, First new) ∷ under i) in
      let back = both_back n me'.1 ((slot, new) ∷ rest c) d list in
      let within : AllWithin n ((slot, old) ∷ rest c) = subst (AllWithin n) first whole.2 in
      let z_c : c ≡ z.me.1 = ap (λ (y : Sitting X Y V W). y.me.1) z_is in (
        subst (λ (x : List (ℕ × X)). x ≡ (slot, old) ∷ rest x) z_c first,
        (ap (lowered m) same ∙ ap (λ (y : Sitting X Y V W). y.table) z_is, id_is ∙ ap (λ (y : Sitting X Y V W). y.id) z_is),
        (λ i. ((e i).0.0, back.0 i)) ∙ ap (λ (y : Sitting X Y V W). (y.me.0, (slot, new) ∷ rest y.me.1)) z_is,
        (λ i. ((e i).0.1, (ap (λ (y : TableId). seconds_in (y.slots - m) me'.1) same ∙ back.1) i)) ∙ ap (λ (y : Sitting X Y V W). y.more) z_is,
        subst (λ (y : TableId). IsWhole count m y me') (sym same) (whole.0, back.2, subst (AllWithin n) (sym back.0) (within.0, within.1)),
      )

  -- a seat that knows this now, by what it knew, with its slots
  pub knows : (left : V × W → V × W) (t t' : TableId) (id id' : ℕ) (me me' : Me (Lot X Y) (V × W)) (z : Sitting X Y V W) → IsWhole count m t me → sitting m t id me ≡ z → t' ≡ t → id' ≡ id → me' ≡ (left me.0, me.1) → Knows z (left (z.me.0, z.more.0)) (sitting m t' id' me') × IsWhole count m t' me'
  knows left t t' id id' me me' z whole z_is same id_is e =
      let at : ◌≡◌ {A = TableId × Me (Lot X Y) (V × W)} (t', me') (t, (left me.0, me.1)) = λ i. (same i, e i) in (
        (
          ap (lowered m) same ∙ ap (λ (y : Sitting X Y V W). y.table) z_is,
          id_is ∙ ap (λ (y : Sitting X Y V W). y.id) z_is,
          (λ i. ((e i).0.0, firsts_in (e i).1)) ∙ ap (λ (y : Sitting X Y V W). ((left (y.me.0, y.more.0)).0, y.me.1)) z_is,
          (λ i. ((at i).1.0.1, seconds_in ((at i).0.slots - m) (at i).1.1)) ∙ ap (λ (y : Sitting X Y V W). ((left (y.me.0, y.more.0)).1, y.more.1)) z_is,
        ),
        subst (λ (y : TableId × Me (Lot X Y) (V × W)). IsWhole count m y.0 y.1) (sym at) whole,
      )

  -- the same by what it knew and what another did
  pub knows_both : (both : V × W → V × W → V × W) (t t' t'' : TableId) (id id' id'' : ℕ) (me me' other : Me (Lot X Y) (V × W)) (z y : Sitting X Y V W) → IsWhole count m t me → sitting m t id me ≡ z → sitting m t'' id'' other ≡ y → t' ≡ t → id' ≡ id → me' ≡ (both me.0 other.0, me.1)
      → Knows z (both (z.me.0, z.more.0) (y.me.0, y.more.0)) (sitting m t' id' me') × IsWhole count m t' me'
  knows_both both t t' t'' id id' id'' me me' other z y whole z_is y_is same id_is e =
      let h = knows (λ v. both v other.0) t t' id id' me me' z whole z_is same id_is e in (subst (λ (x : Sitting X Y V W). Knows z (both (z.me.0, z.more.0) (x.me.0, x.more.0)) (sitting m t' id' me')) y_is h.0, h.1)

  -- and a new one, with none
  pub new_seat : (right : V × W → V × W) (t t' : TableId) (id id' : ℕ) (me me' : Me (Lot X Y) (V × W)) (z : Sitting X Y V W) → IsLaid count m t → sitting m t id me ≡ z → t' ≡ t → me' ≡ (right me.0, []) → IsNewSeat z (right (z.me.0, z.more.0)) (sitting m t' id' me') × IsWhole count m t' me'
  new_seat right t t' id id' me me' z is z_is same e =
      let at : ◌≡◌ {A = TableId × Me (Lot X Y) (V × W)} (t', me') (t, (right me.0, [])) = λ i. (same i, e i) in (
        (
          ap (lowered m) same ∙ ap (λ (y : Sitting X Y V W). y.table) z_is,
          (λ i. ((e i).0.0, firsts_in (e i).1)) ∙ ap (λ (y : Sitting X Y V W). ((right (y.me.0, y.more.0)).0, [])) z_is,
          (λ i. ((at i).1.0.1, seconds_in ((at i).0.slots - m) (at i).1.1)) ∙ ap (λ (y : Sitting X Y V W). ((right (y.me.0, y.more.0)).1, [])) z_is,
        ),
        subst (λ (y : TableId × Me (Lot X Y) (V × W)). IsWhole count m y.0 y.1) (sym at) (is, refl, tt),
      )

module _ {X Y V W K : Type 0} (count : ℕ → ℕ) (m : ℕ) (A : K → State X V → Type 0) (B : K → State Y W → Type 0) (T : List (V × W) → Type 0) where
  abbrev Whole : K → State (Lot X Y) (V × W) → Type 0
  Whole k = Halves First Second count m (A k) (B k) T

  pub split_of : (id : ℕ) (left right : V × W → V × W) (t t' : TableId) (k : K) (me : Me (Lot X Y) (V × W)) (l : Laid K) (z : Sitting X Y V W) → IsLaid count m t' → IsWhole count m t me → laid m t' k ≡ l → sitting m t id me ≡ z → MaySplit A B T l z (left (z.me.0, z.more.0)) (right (z.me.0, z.more.0))
      → (t ≡ t') × (0 < t'.words) × Splits (Whole k) id me.0 (left me.0) (right me.0)
  split_of id left right t t' k me l z is whole l_is z_is may =
      let some_words : t'.words ≡ count (t'.slots - m) + m = is.2 in let some_places : 0 < m = is.0 in
      let may' = subst (λ (y : Laid K × Sitting X Y V W). MaySplit A B T y.0 y.1 (left (y.1.me.0, y.1.more.0)) (right (y.1.me.0, y.1.more.0))) (λ u. (sym l_is u, sym z_is u)) may in
      (same_table count m id t t' k me l z is whole l_is z_is may.0, omega arith, both_split First Second count m (A k) (B k) T id me.0.0 (left me.0).0 (right me.0).0 me.0.1 (left me.0).1 (right me.0).1 may'.1 may'.2 may'.3)

  pub join_of : (id id' : ℕ) (both : V × W → V × W → V × W) (spent : V × W) (t t' t'' : TableId) (k : K) (me other : Me (Lot X Y) (V × W)) (l : Laid K) (z y : Sitting X Y V W) → IsLaid count m t' → IsWhole count m t me → IsWhole count m t'' other → laid m t' k ≡ l → sitting m t id me ≡ z → sitting m t'' id' other ≡ y
      → MayJoin A B T l z y (both (z.me.0, z.more.0) (y.me.0, y.more.0)) spent
      → (t ≡ t') × (t'' ≡ t') × (other.1 ≡ []) × (0 < t'.words) × Joins (Whole k) id me.0 id' other.0 (both me.0 other.0) spent
  join_of id id' both spent t t' t'' k me other l z y is whole whole' l_is z_is y_is may =
      let some_words : t'.words ≡ count (t'.slots - m) + m = is.2 in let some_places : 0 < m = is.0 in
      let may' = subst (λ (x : Laid K × Sitting X Y V W × Sitting X Y V W). MayJoin A B T x.0 x.1 x.2 (both (x.1.me.0, x.1.more.0) (x.2.me.0, x.2.more.0)) spent) (λ u. (sym l_is u, sym z_is u, sym y_is u)) may in (
        same_table count m id t t' k me l z is whole l_is z_is may.0,
        same_table count m id' t'' t' k other l y is whole' l_is y_is may.1,
        whole'.1 ∙ (λ i. carried_both (t''.slots - m) (may'.2 i) (may'.3 i)),
        omega arith,
        both_join First Second count m (A k) (B k) T id id' me.0.0 other.0.0 (both me.0 other.0).0 spent.0 me.0.1 other.0.1 (both me.0 other.0).1 spent.1 may'.4 may'.5 may'.6,
      )

module _ {X Y V W K : Type 0} (count : ℕ → ℕ) (m : ℕ) (A : K → State (Option X) V → Type 0) (B : K → State (Option Y) W → Type 0) (T : List (V × W) → Type 0) where
  -- the whole rule holds of both parts' words and of empty slots
  pub opens_vacant : (k : K) (words more : List ℕ) (slots : ℕ) (v : V) (w : W) → count slots ≡ length words → OpensVacant A k words slots v → OpensVacant B k more m w → T ((v, w) ∷ [])
      → Halves First Second count m (A k) (B k) T (opening (words ++ more) (map First (replicate slots None) ++ map Second (replicate m None)) (v, w))
  opens_vacant k words more slots v w wide first second tie =
      both_open First Second count m (A k) (B k) T words more (replicate slots None) (replicate m None) v w (sym wide ∙ ap count (sym (length-replicate slots None))) (length-replicate m None) first second tie

module _ {X Y V W K : Type 0} (count : ℕ → ℕ) (m : ℕ) where
  -- a new table of this layout, and its first seat
  pub new_table : (k : K) (words more : List ℕ) (slots : ℕ) (lots : List (Lot (Option X) (Option Y))) (view : V × W) (t t' : TableId) (id : ℕ) (me : Me (Lot (Option X) (Option Y)) (V × W)) (key : K) → 0 < m → count slots ≡ length words → m ≡ length more
      → lots ≡ map First (replicate slots None) ++ map Second (replicate m None) → t.words ≡ length (words ++ more) → t.slots ≡ length lots → t' ≡ t → id ≡ 0 → me ≡ (view, []) → key ≡ k
      → IsLaid count m t × IsWhole count m t' me × IsNewTable k (length words) slots view (laid m t key, sitting m t' id me)
  new_table k words more slots lots view t t' id me key few wide many lots_are words_are slots_are same id_is me_is key_is =
      let all_words : t.words ≡ length words + length more = words_are ∙ length-append words more in
      let firsts : List (Lot (Option X) (Option Y)) = map First (replicate slots None) in let seconds : List (Lot (Option X) (Option Y)) = map Second (replicate m None) in
      let firsts_long : length firsts ≡ slots = length-map (replicate slots None) First ∙ length-replicate slots None in
      let seconds_long : length seconds ≡ m = length-map (replicate m None) Second ∙ length-replicate m None in
      let all_slots : t.slots ≡ slots + m = slots_are ∙ (ap length lots_are ∙ (length-append firsts seconds ∙ (λ i. firsts_long i + seconds_long i))) in
      let count_is : t.slots - m ≡ slots = omega arith in
      let laid_is : IsLaid count m t = (few, omega arith, (let w : count (t.slots - m) ≡ length words = ap count count_is ∙ wide in omega arith)) in
      let at : ◌≡◌ {A = TableId × Me (Lot (Option X) (Option Y)) (V × W)} (t', me) (t, (view, [])) = λ i. (same i, me_is i) in (
        laid_is,
        subst (λ (y : TableId × Me (Lot (Option X) (Option Y)) (V × W)). IsWhole count m y.0 y.1) (sym at) (laid_is, refl, tt),
        (omega arith, count_is, key_is, λ i. sitting m (same i) (id_is i) (me_is i)),
      )
