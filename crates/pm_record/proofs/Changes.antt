-- A change that may stand where so many bytes are left.
use Rattle.std.{proofs.{Common.{◌≡◌, ℕ, suc, ◌+◌, ◌-◌, ◌<◌, ◌≤◌, ◌⊎◌, ◌&&◌, ◌||◌, Bool, true, cond, eqb, ltb, leb, eq-eqb, ℤ, pos, List, [], ◌∷◌, ◌++◌, length, Ok, refl, sym, ap, subst, arith, inl, inr}, lemmas.Bool.{cases_lt, leb-true, le-leb, lt-ltb, le-ltb, and_parts, eq-eqb, eqb-true, or_cases}, Math.{Facts.sfits_to_z, Bool.or-true}}, specs.{Int.{w64, RustNames.FitsSigned}, Str.IsUtf8}}
use Rattle.pm_rows.specs.{declared.commit.Change.{Change, TheVariants.{Put, Del}}, Limits.max_value_bytes, Longest.max_change_bytes, Batch.IsChange}
use Rattle.pm_record.{proofs.{Words.Begins, Readers.{Reading, Behind, Spelled, same_words, field_then, made_reads, one_word, byte_reads}, Strings.{text_of, key_bytes, key_reads, string_bytes, string_reads, MayString, MayCount}}, specs.{Spelling.change_bytes, Changes.{least, most, fills, key_at, string_at, put_at, del_at, change_at, value_ranges, may_tag}, Reading.{Read, ◌>>=◌, byte_at, IsWithin}}}

-- They can take exactly so many: deletions alone take the least, and a put takes at least four more.
abbrev pub Fills : ℕ → ℕ → ℕ → Type 0
Fills n c left = (left ≡ least n c) ⊎ ((least n c + 4 ≤ left) × (left ≤ most n c))

-- A change that may stand where so many bytes are left for it, and so many changes and commits after it.
abbrev pub MayChange : ℕ → ℕ → ℕ → Change → Type 0
MayChange n c left change = IsChange change × (length (change_bytes change) ≤ left) × Fills n c (left - length (change_bytes change))

-- ---- room

abbrev pub HasRoom : ℕ → ℕ → ℕ → Type 0
HasRoom n c left = (13 + least n c ≤ left) × (left ≤ max_change_bytes + most n c)

-- whether the second range of lengths has any
abbrev lacks : ℕ → ℕ → ℕ → ℕ
lacks n c left = cond (ltb left (17 + least n c)) 1 0

lacks_is : (n c left : ℕ) → ((left < 17 + least n c) × (lacks n c left ≡ 1)) ⊎ ((17 + least n c ≤ left) × (lacks n c left ≡ 0))
lacks_is n c left = elim (cases_lt left (17 + least n c)) [
  | inl a ↦ inl (a, rw (lt-ltb left (17 + least n c) a) refl)
  | inr a ↦ inr (a, rw (le-ltb left (17 + least n c) a) refl)
]

-- a value's length is within the ranges just where the changes and commits after it can take the rest
count_to : (n c left count : ℕ) → HasRoom n c left → IsWithin (value_ranges n c left) count → (count ≤ max_value_bytes) × (13 + count ≤ left) × Fills n c (left - (13 + count))
count_to n c left count room is = elim is [
  | inl a ↦ (omega (arith, a, room), omega (arith, a, room), inl (omega (arith, a, room)))
  | inr a ↦ elim (lacks_is n c left) [
    | inl b ↦ absurd (omega (arith, a.0, a.1, b.0, b.1))
    | inr b ↦ (omega (arith, a.1), omega (arith, a.1, b.0), inr (omega (arith, a.1, b.0), omega (arith, a.0, a.1, b.0)))
  ]
]

count_from : (n c left count : ℕ) → HasRoom n c left → count ≤ max_value_bytes → 13 + count ≤ left → Fills n c (left - (13 + count)) → IsWithin (value_ranges n c left) count
count_from n c left count room short fits rest = elim rest [
  | inl a ↦ inl (omega (arith, a, fits), omega (arith, a, fits, short))
  | inr a ↦ elim (lacks_is n c left) [
    | inl b ↦ absurd (omega (arith, a.0, b.0))
    | inr b ↦ inr (omega (arith, a.1, b.1, fits), omega (arith, a.0, b.0, fits, short))
  ]
]

count_some : (n c left : ℕ) → HasRoom n c left → (count : ℕ) × (count ≤ max_value_bytes) × (13 + count ≤ left) × Fills n c (left - (13 + count))
count_some n c left room = elim (cases_lt (max_value_bytes + 13 + least n c) left) [
  | inr small ↦ (left - (13 + least n c), omega (arith, small), omega (arith, room.0), inl (omega (arith, room.0)))
  | inl large ↦ elim (cases_lt left (max_value_bytes + 13 + least n c + 4)) [
    | inl close ↦ (8188, omega arith, omega (arith, large), inr (omega (arith, large), omega (arith, room.1, large, close)))
    | inr far ↦ (max_value_bytes, omega arith, omega (arith, large), inr (omega (arith, far), omega (arith, room.1)))
  ]
]

room_from : (n c left count : ℕ) → count ≤ max_value_bytes → 13 + count ≤ left → Fills n c (left - (13 + count)) → HasRoom n c left
room_from n c left count short fits rest = elim rest [ inl a ↦ omega (arith, a, short, fits) | inr a ↦ omega (arith, a, short, fits) ]

-- one more change
pub fills_some : (n c left : ℕ) → Fills (suc n) c left → HasRoom n c left ⊎ ((9 ≤ left) × Fills n c (left - 9))
fills_some n c left is = elim is [
  | inl a ↦ inr (omega (arith, a), inl (omega (arith, a)))
  | inr a ↦ inl (omega (arith, a))
]

-- ---- tags

fills_to : (n c left : ℕ) → fills n c left ≡ true → Fills n c left
fills_to n c left e = elim (or_cases (eqb left (least n c)) (leb (least n c + 4) left && leb left (most n c)) e) [
  | inl a ↦ inl (eqb-true _ _ a)
  | inr a ↦ let p = and_parts (leb (least n c + 4) left) (leb left (most n c)) a in inr (leb-true _ _ p.0, leb-true _ _ p.1)
]

fills_from : (n c left : ℕ) → Fills n c left → fills n c left ≡ true
fills_from n c left is = elim is [
  | inl a ↦ ap (λ (t : Bool). t || (leb (least n c + 4) left && leb left (most n c))) (eq-eqb left (least n c) a)
  | inr a ↦ rw (le-leb (least n c + 4) left a.0, le-leb left (most n c) a.1) (or-true (eqb left (least n c)))
]

module _ (n c left : ℕ) where
  abbrev MayTag : ℕ → Type 0
  MayTag tag = (may_tag n c left tag ≡ true) × (tag < 256)

  tag_cases : (tag : ℕ) → may_tag n c left tag ≡ true → ((tag ≡ 1) × HasRoom n c left) ⊎ ((tag ≡ 2) × (9 ≤ left) × Fills n c (left - 9))
  tag_cases tag e = elim (or_cases (eqb tag 1 && (leb (13 + least n c) left && leb left (max_change_bytes + most n c))) (eqb tag 2 && (leb 9 left && fills n c (left - 9))) e) [
    | inl a ↦
        let p = and_parts (eqb tag 1) (leb (13 + least n c) left && leb left (max_change_bytes + most n c)) a in
        let q = and_parts (leb (13 + least n c) left) (leb left (max_change_bytes + most n c)) p.1 in
        inl (eqb-true _ _ p.0, (leb-true _ _ q.0, leb-true _ _ q.1))
    | inr a ↦
        let p = and_parts (eqb tag 2) (leb 9 left && fills n c (left - 9)) a in
        let q = and_parts (leb 9 left) (fills n c (left - 9)) p.1 in
        inr (eqb-true _ _ p.0, leb-true _ _ q.0, fills_to n c (left - 9) q.1)
  ]

  tag_put : HasRoom n c left → MayTag 1
  tag_put room = (rw (le-leb (13 + least n c) left room.0, le-leb left (max_change_bytes + most n c) room.1) refl, omega arith)

  tag_del : 9 ≤ left → Fills n c (left - 9) → MayTag 2
  tag_del long is = (rw (le-leb 9 left long, fills_from n c (left - 9) is) refl, omega arith)

  -- ---- a put after its tag

  abbrev PutIs : Change → List ℕ → Type 0
  PutIs (Put key value) word = MayChange n c left (Put key value) × (word ≡ key_bytes key ++ string_bytes value)
  PutIs (Del key) word = ⊥

  may_put : (key : ℤ) (value : List ℕ) → FitsSigned w64 key → IsUtf8 value → length value ≤ max_value_bytes → 13 + length value ≤ left → Fills n c (left - (13 + length value)) → MayChange n c left (Put key value)
  may_put key value fits text short long rest =
      let size : length (change_bytes (Put key value)) ≡ 13 + length value = omega arith in
      ((fits, text, short), rw size long, subst (λ (k : ℕ). Fills n c (left - k)) (sym size) rest)

  put_room : (key : ℤ) (value : List ℕ) → MayChange n c left (Put key value) → (13 + length value ≤ left) × Fills n c (left - (13 + length value))
  put_room key value may =
      let size : length (change_bytes (Put key value)) ≡ 13 + length value = omega arith in
      (omega (arith, may.1, size), subst (λ (k : ℕ). Fills n c (left - k)) size may.2)

  may_del : (key : ℤ) → FitsSigned w64 key → 9 ≤ left → Fills n c (left - 9) → MayChange n c left (Del key)
  may_del key fits long rest =
      let size : length (change_bytes (Del key)) ≡ 9 = omega arith in
      (fits, omega (arith, size, long), subst (λ (k : ℕ). Fills n c (left - k)) (sym size) rest)

  module _ (room : HasRoom n c left) where
    count : (k : ℕ) × MayCount (value_ranges n c left) k
    count = let k = count_some n c left room in (k.0, (count_from n c left k.0 room k.1 k.2 k.3, omega (arith, k.1)))

    a_put : (key : ℤ) → FitsSigned w64 key → (value : List ℕ) × MayChange n c left (Put key value)
    a_put key fits =
        let k = count_some n c left room in
        let t = text_of k.0 in
        (t.0, may_put key t.0 fits t.2 (omega (arith, k.1, t.1)) (omega (arith, k.2, t.1)) (subst (λ (m : ℕ). Fills n c (left - (13 + m))) (sym t.1) k.3))

    a_string : (key : ℤ) (value : List ℕ) → MayChange n c left (Put key value) → MayString (value_ranges n c left) value
    a_string key value may =
        let r = put_room key value may in
        ((count_from n c left (length value) room may.0.2 r.0 r.1, omega (arith, may.0.2)), may.0.1)

    first_key : (x : Change) (word : List ℕ) → PutIs x word → (key : ℤ) × (behind : List ℕ) × FitsSigned w64 key × (word ≡ key_bytes key ++ behind)
    first_key (Put key value) word is = (key, string_bytes value, is.0.0.0, is.1)
    first_key (Del key) word is = absurd is

    value_of : (key : ℤ) → FitsSigned w64 key → (x : Change) (word : List ℕ) → PutIs x (key_bytes key ++ word) → (value : List ℕ) × Spelled (MayString (value_ranges n c left)) string_bytes value word × (x ≡ Put key value)
    value_of key fits (Put other value) word is =
        let o = one_word (Begins (Spelled (FitsSigned w64) key_bytes)) (Spelled (FitsSigned w64) key_bytes) key_at key_reads key other (key_bytes key) (key_bytes other) word (string_bytes value) (fits, refl) (is.0.0.0, refl) is.1 in
        (value, (a_string other value is.0, o.1), ap (λ (k : ℤ). Put k value) (sym o.0))
    value_of key fits (Del other) word is = absurd is

    put_reads : Reading PutIs (put_at (value_ranges n c left))
    put_reads = field_then (FitsSigned w64) key_bytes key_at PutIs (λ key bytes. string_at (value_ranges n c left) bytes >>= λ value. Ok (Put key value.0, value.1))
        key_reads
        (λ key fits. made_reads (Spelled (MayString (value_ranges n c left)) string_bytes) (Behind PutIs (key_bytes key)) (string_at (value_ranges n c left)) (λ value. Put key value) (string_reads (value_ranges n c left) count)
        (λ value word is. let k = count_to n c left (length value) room is.0.0.0 in (may_put key value fits is.0.1 k.0 k.1 k.2, ap (λ (t : List ℕ). key_bytes key ++ t) is.1))
        (value_of key fits))
        first_key
        (λ key fits. let v = a_put key fits in (Put key v.0, string_bytes v.0, (v.1, refl)))

  -- ---- a deletion after its tag

  abbrev DelIs : Change → List ℕ → Type 0
  DelIs (Put key value) word = ⊥
  DelIs (Del key) word = FitsSigned w64 key × (word ≡ key_bytes key)

  key_of : (x : Change) (word : List ℕ) → DelIs x word → (key : ℤ) × Spelled (FitsSigned w64) key_bytes key word × (x ≡ Del key)
  key_of (Put key value) word is = absurd is
  key_of (Del key) word is = (key, is, refl)

  del_reads : Reading DelIs del_at
  del_reads = made_reads (Spelled (FitsSigned w64) key_bytes) DelIs key_at (λ key. Del key) key_reads (λ key word is. is) key_of

  -- ---- a change

  abbrev Is : Change → List ℕ → Type 0
  Is = Spelled (MayChange n c left) change_bytes

  tail_is : (a b : ℕ) (xs ys : List ℕ) → a ∷ xs ≡ b ∷ ys → (a ≡ b) × (xs ≡ ys)
  tail_is a b xs ys e = (cc, cc)

  put_to : (x : Change) (word : List ℕ) → PutIs x word → Behind Is (1 ∷ []) x word
  put_to (Put key value) word is = (is.0, ap (λ (t : List ℕ). 1 ∷ t) is.1)
  put_to (Del key) word is = absurd is

  put_from : (x : Change) (word : List ℕ) → Behind Is (1 ∷ []) x word → PutIs x word
  put_from (Put key value) word is = (is.0, (tail_is 1 1 word (key_bytes key ++ string_bytes value) is.1).1)
  put_from (Del key) word is = absurd (omega (arith, (tail_is 1 2 word (key_bytes key) is.1).0))

  del_to : (9 ≤ left) × Fills n c (left - 9) → (x : Change) (word : List ℕ) → DelIs x word → Behind Is (2 ∷ []) x word
  del_to room (Put key value) word is = absurd is
  del_to room (Del key) word is = (may_del key is.0 room.0 room.1, ap (λ (t : List ℕ). 2 ∷ t) is.1)

  del_from : (x : Change) (word : List ℕ) → Behind Is (2 ∷ []) x word → DelIs x word
  del_from (Put key value) word is = absurd (omega (arith, (tail_is 2 1 word (key_bytes key ++ string_bytes value) is.1).0))
  del_from (Del key) word is = (is.0.0, (tail_is 2 2 word (key_bytes key) is.1).1)

  abbrev behind_tag : ℕ → List ℕ → Read Change
  behind_tag tag bytes = cond (eqb tag 2) (del_at bytes) (put_at (value_ranges n c left) bytes)

  behind_reads : (tag : ℕ) → MayTag tag → Reading (Behind Is (tag ∷ [])) (behind_tag tag)
  behind_reads tag may = elim (tag_cases tag may.0) [
    | inl a ↦ subst (λ (t : ℕ). Reading (Behind Is (t ∷ [])) (behind_tag t)) (sym a.0) (same_words PutIs (Behind Is (1 ∷ [])) (put_at (value_ranges n c left)) (put_reads a.1) put_to put_from)
    | inr a ↦ subst (λ (t : ℕ). Reading (Behind Is (t ∷ [])) (behind_tag t)) (sym a.0) (same_words DelIs (Behind Is (2 ∷ [])) del_at del_reads (del_to (a.1, a.2)) del_from)
  ]

  tag_of : (x : Change) (word : List ℕ) → Is x word → (tag : ℕ) × (behind : List ℕ) × MayTag tag × (word ≡ tag ∷ behind)
  tag_of (Put key value) word is = let r = put_room key value is.0 in (1, key_bytes key ++ string_bytes value, tag_put (room_from n c left (length value) is.0.0.2 r.0 r.1), is.1)
  tag_of (Del key) word is =
      let size : length (change_bytes (Del key)) ≡ 9 = omega arith in
      (2, key_bytes key, tag_del (omega (arith, is.0.1, size)) (subst (λ (k : ℕ). Fills n c (left - k)) size is.0.2), is.1)

  zero_fits : FitsSigned w64 (pos 0)
  zero_fits = sfits_to_z {n = 0} (record { fits = omega arith })

  change_for : (tag : ℕ) → MayTag tag → (x : Change) × (behind : List ℕ) × Is x (tag ∷ behind)
  change_for tag may = elim (tag_cases tag may.0) [
    | inl a ↦ let v = a_put a.1 (pos 0) zero_fits in (Put (pos 0) v.0, key_bytes (pos 0) ++ string_bytes v.0, (v.1, ap (λ (t : ℕ). t ∷ key_bytes (pos 0) ++ string_bytes v.0) a.0))
    | inr a ↦ (Del (pos 0), key_bytes (pos 0), (may_del (pos 0) zero_fits a.1 a.2, ap (λ (t : ℕ). t ∷ key_bytes (pos 0)) a.0))
  ]

  tag_some : Fills (suc n) c left → (tag : ℕ) × MayTag tag
  tag_some room = elim (fills_some n c left room) [ inl a ↦ (1, tag_put a) | inr a ↦ (2, tag_del a.0 a.1) ]

  pub change_some : Fills (suc n) c left → (x : Change) × MayChange n c left x
  change_some room = let t = tag_some room in let x = change_for t.0 t.1 in (x.0, x.2.0)

  pub change_reads : Fills (suc n) c left → Reading (Spelled (MayChange n c left) change_bytes) (change_at n c left)
  unfolding change_at
  change_reads room = field_then MayTag (λ tag. tag ∷ []) (byte_at (may_tag n c left)) Is behind_tag
      (byte_reads MayTag (may_tag n c left) (λ b e lt. (e, lt)) (λ b h. h) (tag_some room))
      behind_reads tag_of change_for
