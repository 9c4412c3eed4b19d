-- A file whole: what reading finds behind its open gate is what it stands for, and where reading stops is its first wrong
-- byte.
use Rattle.std.{proofs.{Common.{◌≡◌, ◌≢◌, ◌⊎◌, ℕ, zero, suc, ◌+◌, ◌-◌, ◌<◌, ◌&&◌, Bool, true, false, eqb, cond, List, [], ◌∷◌, ◌++◌, length, Ok, Err, refl, sym, ap, subst, ◌∙◌, append_assoc, append-nil, length-append, arith, inl, inr}, lemmas.{Bool.cases_lt, List.Elements.{All-from_recursion, recursion_from_All}}}, specs.Prelude.{All, fold}}
use Rattle.pm_disk.specs.declared.disk.Which.{Which}
use Rattle.pm_rows.specs.Fold.{RowMap, committed}
use Rattle.pm_record.{specs.{declared.{base.Base.Base, found.Found.Found}, Reading.{Read, ◌>>=◌}, StandsFor.{Content, StandsFor, IsContent, AreBatches}, Damage.{CanGoOn, IsRight, IsFirstWrong}, Found.{IsClosed, IsFound, MeansNothing}, Base.base_at, File.{State, is_within, room_in, small_base_at, batches_at, found_at}}, proofs.{Words.{Begins, Spelled}, Readers.{IsBytes, bytes_behind, bytes_in_front, bytes_both, ok, ok_is, err_not_ok, err_is, bind_ok, bind_err, Reads, ThenWaits, ThenIs, then_reads}, Checks.{checked_reads, done_waits}, Bases.{MayBase, base_spell, base_reads}, Steps.{Batch, appended, batches_in, batches_made}, Meaning.{AreBatchesIn, within_to, within_from, kept_each, each_kept, Legal, gated_to, gated_from, flat, legal_to, legal_from, behind, counted}, Fronts.{BatchesWait, gated_wait_to, gated_wait_from}}}
use Rattle.pm_record.proofs.Batches as of

-- ---- a base, and the batches after it

abbrev Parts : Type 0
Parts = Base × List Batch

abbrev pub start : Base → State
start base = (base.count, base.rows, 0)

abbrev most : Base → ℕ
most base = suc (room_in (start base))

abbrev with_base : Base → Read (List Batch) → Read Parts
with_base base r = r >>= λ p. Ok ((base, p.0), p.1)

abbrev parts_at : List ℕ → Read Parts
parts_at bytes = small_base_at bytes >>= λ b. with_base b.0 (batches_in (start b.0) b.1)

abbrev SmallBase : Base → List ℕ → Type 0
SmallBase base word = Spelled MayBase base_spell base word × (is_within base.rows ≡ true)

abbrev BaseWaits : List ℕ → Type 0
BaseWaits = Begins (Spelled MayBase base_spell)

abbrev Pairs : Base → List Batch → Parts → List ℕ → Type 0
Pairs base batches parts word = (parts ≡ (base, batches)) × (word ≡ [])

abbrev TailIs : Base → Parts → List ℕ → Type 0
TailIs base = ThenIs (AreBatchesIn (most base) (start base)) (Pairs base)

abbrev TailWaits : Base → List ℕ → Type 0
TailWaits base = ThenWaits (BatchesWait (most base) (start base)) (AreBatchesIn (most base) (start base)) (λ batches bytes. ⊥)

abbrev FileIs : Parts → List ℕ → Type 0
FileIs = ThenIs SmallBase TailIs

abbrev FileWaits : List ℕ → Type 0
FileWaits = ThenWaits BaseWaits SmallBase TailWaits

base_long : (base : Base) (word : List ℕ) → Spelled MayBase base_spell base word → 0 < length word
base_long base word is = omega (arith, ap length is.1)

pub small_reads : Reads BaseWaits SmallBase small_base_at
small_reads = checked_reads (Spelled MayBase base_spell) base_at (λ base. is_within base.rows) base_reads base_long

file_reads : Reads FileWaits FileIs parts_at
file_reads = then_reads BaseWaits SmallBase small_base_at TailWaits TailIs (λ base bytes. with_base base (batches_in (start base) bytes)) small_reads
    (λ base word is. then_reads (BatchesWait (most base) (start base)) (AreBatchesIn (most base) (start base)) (batches_in (start base)) (λ batches bytes. ⊥) (Pairs base) (λ batches bytes. Ok ((base, batches), bytes))
    (of.batches_read RowMap committed is_within (start base)) (λ batches w are. done_waits (base, batches)))

-- ---- contents

abbrev pub content_of : Parts → Content
content_of parts = record { epoch = parts.0.epoch; clean = parts.0.clean; base_rows = parts.0.rows; base_count = parts.0.count; batches = parts.1 }

abbrev pub parts_of : Content → Parts
parts_of content = (record { epoch = content.epoch; clean = content.clean; count = content.base_count; rows = content.base_rows }, content.batches)

content_to : (base : Base) (batches : List Batch) → MayBase base → is_within base.rows ≡ true → Legal base.count base.rows batches → IsContent (content_of (base, batches))
content_to base batches may within legal =
    let t = legal_to batches base.count base.rows may.1 legal in record {
      epoch = may.0;
      rows = may.2.0;
      batches = All-from_recursion _ batches t.0;
      follows = record { limits = kept_each (flat batches) base.rows (within_to base.rows within) t.1; number = t.2 };
    }

pub within_base : (content : Content) → IsContent content → is_within content.base_rows ≡ true
within_base content is = within_from content.base_rows (is.follows.limits 0 (omega arith))

pub base_may : (content : Content) → IsContent content → MayBase (parts_of content).0
base_may content is =
    let few = (is.follows.limits 0 (omega arith)).few in
    let number = is.follows.number in
    (is.epoch, omega (arith, number), (is.rows, few))

pub content_legal : (content : Content) → IsContent content → Legal content.base_count content.base_rows content.batches
content_legal content is = legal_from content.batches content.base_count content.base_rows (recursion_from_All _ content.batches is.batches) (each_kept (flat content.batches) content.base_rows is.follows.limits) is.follows.number

-- a file of these parts, up to and with its closed gate
file_to : (parts : Parts) (word : List ℕ) → FileIs parts word → (front : List ℕ) × (word ≡ base_spell parts.0 ++ (front ++ 0 ∷ [])) × AreBatches front parts.1 × IsContent (content_of parts)
file_to parts word is =
    -- base, its word, what is after it, that it is small, how they are joined, the batches
    let tail = is.5 in
    let g = gated_to (most is.0) (start is.0) tail.0 tail.1 tail.3 in
    let behind_is : is.2 ≡ g.0 ++ 0 ∷ [] = tail.4 ∙ ap (λ (t : List ℕ). tail.1 ++ t) tail.5.1 ∙ append-nil tail.1 ∙ g.1 in
    let whole : word ≡ base_spell is.0 ++ (g.0 ++ 0 ∷ []) = is.4 ∙ ap (λ (t : List ℕ). t ++ is.2) is.3.0.1 ∙ ap (λ (t : List ℕ). base_spell is.0 ++ t) behind_is in
    subst (λ (p : Parts). (front : List ℕ) × (word ≡ base_spell p.0 ++ (front ++ 0 ∷ [])) × AreBatches front p.1 × IsContent (content_of p)) (sym tail.5.0)
    (g.0, whole, g.2, content_to is.0 tail.0 is.3.0.0 is.3.1 g.3)

file_from : (content : Content) (front : List ℕ) → IsContent content → AreBatches front content.batches → IsBytes front → FileIs (parts_of content) (base_spell (parts_of content).0 ++ (front ++ 0 ∷ []))
file_from content front is are fits =
    let base = (parts_of content).0 in
    let gated = gated_from (most base) (start base) content.batches front (omega arith) fits are (content_legal content is) in
    (base, base_spell base, front ++ 0 ∷ [], ((base_may content is, refl), within_base content is), refl, (content.batches, front ++ 0 ∷ [], [], gated, sym (append-nil (front ++ 0 ∷ [])), (refl, refl)))

-- ---- what is read is what the file stands for

module _ (gate : ℕ) (bytes : List ℕ) where
  head_is : (b : ℕ) (others : List ℕ) → gate ∷ bytes ≡ b ∷ others → (gate ≡ b) × (bytes ≡ others)
  head_is b others e = (cc, cc)

  pub read_stands : gate ≢ 0 → IsBytes bytes → (parts : Parts) (free : List ℕ) → parts_at bytes ≡ Ok (parts, free) → StandsFor (gate ∷ bytes) (content_of parts) (length bytes - length free)
  read_stands is_open fits parts free e =
      let f = file_reads.found bytes parts free fits e in
      let t = file_to parts f.0 f.1 in
      let front = base_spell parts.0 ++ t.0 in
      let whole : bytes ≡ front ++ 0 ∷ free = f.2 ∙ ap (λ (w : List ℕ). w ++ free) t.1 ∙ append_assoc (base_spell parts.0) (t.0 ++ 0 ∷ []) free ∙ ap (λ (w : List ℕ). base_spell parts.0 ++ w) (append_assoc t.0 (0 ∷ []) free) ∙ sym (append_assoc (base_spell parts.0) t.0 (0 ∷ free)) in record {
        front = gate ∷ front;
        free = free;
        parts = ap (λ (w : List ℕ). gate ∷ w) whole;
        place = omega (arith, ap length whole, length-append front (0 ∷ free));
        spelled = record { gate = gate; behind = t.0; is_open = is_open; parts = refl; batches = t.2 };
        limits = t.3;
      }

  -- how a file's bytes lie behind its gate
  record Lies (content : Content) (end : ℕ) : Type 0 where
    front : List ℕ
    free : List ℕ
    is_open : gate ≢ 0
    parts : bytes ≡ (base_spell (parts_of content).0 ++ (front ++ 0 ∷ [])) ++ free
    are : AreBatches front content.batches
    place : end ≡ length bytes - length free

  lies : (content : Content) (end : ℕ) → StandsFor (gate ∷ bytes) content end → Lies content end
  lies content end s =
      let base = base_spell (parts_of content).0 in
      let spelled = s.spelled in
      let whole : gate ∷ bytes ≡ spelled.gate ∷ ((base ++ spelled.behind) ++ 0 ∷ s.free) = s.parts ∙ ap (λ (t : List ℕ). t ++ 0 ∷ s.free) spelled.parts in
      let h = head_is spelled.gate ((base ++ spelled.behind) ++ 0 ∷ s.free) whole in
      let long = ap length spelled.parts in record {
        front = spelled.behind;
        free = s.free;
        is_open = λ e. spelled.is_open (sym h.0 ∙ e);
        parts = h.1 ∙ append_assoc base spelled.behind (0 ∷ s.free) ∙ ap (λ (t : List ℕ). base ++ t) (sym (append_assoc spelled.behind (0 ∷ []) s.free)) ∙ sym (append_assoc base (spelled.behind ++ 0 ∷ []) s.free);
        are = spelled.batches;
        place = omega (arith, s.place, long, ap length h.1, length-append (base ++ spelled.behind) (0 ∷ s.free));
      }

  pub stands_read : IsBytes bytes → (content : Content) (end : ℕ) → StandsFor (gate ∷ bytes) content end
      → (free : List ℕ) × (parts_at bytes ≡ Ok (parts_of content, free)) × (end ≡ length bytes - length free)
  stands_read fits content end s =
      let l = lies content end s in
      let base = base_spell (parts_of content).0 in
      let inner : IsBytes (l.front ++ 0 ∷ []) = bytes_behind base (l.front ++ 0 ∷ []) (bytes_in_front (base ++ (l.front ++ 0 ∷ [])) l.free (subst IsBytes l.parts fits)) in
      let is = file_from content l.front s.limits l.are (bytes_in_front l.front (0 ∷ []) inner) in
      (l.free, ap parts_at l.parts ∙ file_reads.again (parts_of content) (base ++ (l.front ++ 0 ∷ [])) l.free is, l.place)

  -- ---- fronts

  pub waits_go : gate ≢ 0 → FileWaits bytes → CanGoOn (gate ∷ bytes)
  waits_go is_open w = elim w [
    | inl b ↦
        inl (record {
          gate = gate;
          behind = bytes;
          is_open = is_open;
          parts = refl;
          base = record {
            epoch = b.0.epoch;
            clean = b.0.clean;
            count = b.0.count;
            rows = b.0.rows;
            epoch_fits = b.3.0.0;
            count_fits = b.3.0.1;
            rows_are = b.3.0.2.0;
            rows_few = b.3.0.2.1;
            begins = (b.1, b.2, sym b.3.1);
          };
        })
    | inr a ↦ elim a.5 [
      | inl t ↦
          let g = gated_wait_to (most a.0) (start a.0) a.2 (within_to a.0.rows a.3.1) t in
          inr (record {
            content = content_of (a.0, g.batches);
            front = gate ∷ (base_spell a.0 ++ g.front);
            next = g.next;
            parts = ap (λ (t : List ℕ). gate ∷ t) (a.4 ∙ ap (λ (t : List ℕ). t ++ a.2) a.3.0.1 ∙ ap (λ (t : List ℕ). base_spell a.0 ++ t) g.parts ∙ sym (append_assoc (base_spell a.0) g.front g.next));
            spelled = record { gate = gate; behind = g.front; is_open = is_open; parts = refl; batches = g.are };
            limits = content_to a.0 g.batches a.3.0.0 a.3.1 g.legal;
            begins = g.begins;
          })
      | inr t ↦ absurd t.5
    ]
  ]

  pub goes_wait : IsBytes bytes → CanGoOn (gate ∷ bytes) → (gate ≢ 0) × FileWaits bytes
  goes_wait fits goes = elim goes [
    | inl e ↦
        let h = head_is e.gate e.behind e.parts in
        let b = e.base in (
          λ z. e.is_open (sym h.0 ∙ z),
          inl (
            (let base : Base = record { epoch = b.epoch; clean = b.clean; count = b.count; rows = b.rows } in base),
            b.begins.0,
            b.begins.1,
            ((b.epoch_fits, b.count_fits, (b.rows_are, b.rows_few)), ap (λ (t : List ℕ). t ++ b.begins.0 ∷ b.begins.1) h.1 ∙ sym b.begins.2),
          ),
        )
    | inr e ↦
        let content = e.content in
        let base = (parts_of content).0 in
        let s = e.spelled in
        let whole : gate ∷ bytes ≡ s.gate ∷ ((base_spell base ++ s.behind) ++ e.next) = e.parts ∙ ap (λ (t : List ℕ). t ++ e.next) s.parts in
        let h = head_is s.gate ((base_spell base ++ s.behind) ++ e.next) whole in
        let parts : bytes ≡ base_spell base ++ (s.behind ++ e.next) = h.1 ∙ append_assoc (base_spell base) s.behind e.next in
        let inner = bytes_behind (base_spell base) (s.behind ++ e.next) (subst IsBytes parts fits) in (
          λ z. s.is_open (sym h.0 ∙ z),
          inr (
            base,
            base_spell base,
            s.behind ++ e.next,
            ((base_may content e.limits, refl), within_base content e.limits),
            parts,
            inl (gated_wait_from (most base) (start base) content.batches s.behind e.next (omega arith) inner s.batches (content_legal content e.limits) e.begins),
          ),
        )
  ]

-- what is right is read without an error, or is cut
right_read : (gate : ℕ) (bytes : List ℕ) → IsBytes bytes → IsRight (gate ∷ bytes) → (parts_at bytes ≡ Err 0) ⊎ ((x : Parts × List ℕ) × (parts_at bytes ≡ Ok x))
right_read gate bytes fits right = elim right [
  | inl goes ↦ inl (file_reads.short bytes (goes_wait gate bytes fits goes).1)
  | inr s ↦ let r = stands_read gate bytes fits s.0 s.1 s.2 in inr ((parts_of s.0, r.0), r.1)
]

as_bytes : (bytes : List ℕ) → All (λ b. b < 256) bytes → IsBytes bytes
as_bytes [] all = tt
as_bytes (b ∷ bytes) all = (all 0 b (omega arith), as_bytes bytes (λ k d lt. all (suc k) d (omega (arith, lt))))

pub from_bytes : (bytes : List ℕ) → IsBytes bytes → All (λ b. b < 256) bytes
from_bytes [] fits k d lt = absurd (omega (arith, lt))
from_bytes (b ∷ bytes) fits zero d lt = fits.0
from_bytes (b ∷ bytes) fits (suc k) d lt = from_bytes bytes fits.1 k d (omega (arith, lt))

module _ (gate : ℕ) (bytes : List ℕ) (is_open : gate ≢ 0) (fits : IsBytes bytes) (left : ℕ) (stops : parts_at bytes ≡ Err left) where
  pub nothing : MeansNothing (gate ∷ bytes)
  nothing = record {
    not_closed = is_open;
    no_log = λ content end s. let r = stands_read gate bytes fits content end s in err_not_ok left (parts_of content, r.0) (sym stops ∙ r.1);
  }

  pub first_wrong : IsFirstWrong (gate ∷ bytes) (suc (length bytes) - left)
  first_wrong =
      let s = file_reads.stops bytes left fits stops in
      let long = ap length s.parts ∙ length-append s.front s.rest in record {
        front = gate ∷ s.front;
        rest = s.rest;
        parts = ap (λ (t : List ℕ). gate ∷ t) s.parts;
        place = omega (arith, long, s.size);
        goes_on = waits_go gate s.front is_open s.waits;
        wrong = λ byte others at more all right.
            let front_fits = bytes_in_front s.front s.rest (subst IsBytes s.parts fits) in
            let rest_fits : IsBytes (byte ∷ others) = subst IsBytes at (bytes_behind s.front s.rest (subst IsBytes s.parts fits)) in
            let wrong_fits = bytes_both s.front (byte ∷ more) front_fits (rest_fits.0, as_bytes more all) in
            let sticks = s.sticks byte others at more in
            elim (right_read gate (s.front ++ byte ∷ more) wrong_fits right) [
              | inl short ↦ absurd (omega (arith, err_is (parts_at (s.front ++ byte ∷ more)) 0 (suc (length more)) short sticks))
              | inr read ↦ err_not_ok (suc (length more)) read.0 (sym sticks ∙ read.1)
            ];
      }

-- ---- what the code answers

abbrev found_with : Which → List ℕ → Base → List ℕ → State → List ℕ → Found
found_with file bytes base rest state free = record {
  file = file;
  epoch = base.epoch;
  base_end = 1 + (length bytes - length rest);
  end = length bytes - length free;
  rows = state.1;
  base_count = base.count;
  count = state.0;
  batches = state.2;
  clean = base.clean && eqb state.2 0;
}

clean_is : (clean none : Bool) → (clean && none) ≡ cond none clean false
clean_is true true = refl
clean_is true false = refl
clean_is false true = refl
clean_is false false = refl

-- what was found, and what it was made of
record Made (file : Which) (bytes : List ℕ) (found : Found) : Type 0 where
  parts : Parts
  free : List ℕ
  read : parts_at bytes ≡ Ok (parts, free)
  end_is : found.end ≡ length bytes - length free
  file_is : found.file ≡ file
  is : IsFound found (content_of parts)

base_ends : (bytes rest word base : List ℕ) → bytes ≡ word ++ rest → word ≡ base → length bytes - length rest ≡ length base
base_ends bytes rest word base parts is = omega (arith, ap length parts, length-append word rest, ap length is)

abbrev counts : State → State → List ℕ → Read State
counts state then rest = ok (then, rest)

found_made : (file : Which) (bytes : List ℕ) → IsBytes bytes → (found : Found) → found_at file bytes ≡ Ok found → Made file bytes found
found_made file bytes fits found e =
    let b = bind_ok (small_base_at bytes) (λ b. batches_at (start b.0) b.1 >>= λ t. ok (found_with file bytes b.0 b.1 t.0 t.1)) found e in
    let base = b.0.0 in
    let rest = b.0.1 in
    let t = bind_ok (batches_at (start base) rest) (λ t. ok (found_with file bytes base rest t.0 t.1)) found b.2 in
    let same = ok_is (found_with file bytes base rest t.0.0 t.0.1) found t.2 in
    let p = bind_ok (batches_in (start base) rest) (λ p. counts (start base) (fold appended (start base) p.0) p.1) t.0 (sym (batches_made (start base) rest) ∙ t.1) in
    let batches = p.0.0 in
    let free = p.0.1 in
    let ends = ok_is (fold appended (start base) batches, free) t.0 p.2 in
    let w = small_reads.found bytes base rest fits b.1 in
    let state : t.0.0 ≡ ((behind base.count base.rows batches).count, (behind base.count base.rows batches).rows, 0 + length batches) = sym (ap (λ (q : State × List ℕ). q.0) ends) ∙ counted batches (start base) in
    let number : t.0.0.2 ≡ length batches = ap (λ (s : State). s.2) state ∙ (let z : 0 + length batches ≡ length batches = omega arith in z) in
    subst (Made file bytes) same (record {
      parts = (base, batches);
      free = free;
      read = ap (λ (r : Read Base). r >>= λ b. with_base b.0 (batches_in (start b.0) b.1)) b.1 ∙ ap (with_base base) p.1;
      end_is = ap (λ (q : State × List ℕ). length bytes - length q.1) (sym ends);
      file_is = refl;
      is = record {
        epoch = refl;
        base_end = ap (λ (n : ℕ). 1 + n) (base_ends bytes rest w.0 (base_spell base) w.2 w.1.0.1);
        base_count = refl;
        rows = ap (λ (s : State). s.1) state;
        count = ap (λ (s : State). s.0) state;
        batches = number;
        clean = clean_is base.clean (eqb t.0.0.2 0) ∙ ap (λ (n : ℕ). cond (eqb n 0) base.clean false) number;
      };
    })

pub errs : (file : Which) (bytes : List ℕ) (left : ℕ) → found_at file bytes ≡ Err left → parts_at bytes ≡ Err left
errs file bytes left e = elim (bind_err (small_base_at bytes) (λ b. batches_at (start b.0) b.1 >>= λ t. ok (found_with file bytes b.0 b.1 t.0 t.1)) left e) [
  | inl f ↦ ap (λ (r : Read Base). r >>= λ b. with_base b.0 (batches_in (start b.0) b.1)) f
  | inr b ↦
      let base = b.0.0 in
      let rest = b.0.1 in
      elim (bind_err (batches_at (start base) rest) (λ t. ok (found_with file bytes base rest t.0 t.1)) left b.2) [
        | inr t ↦ absurd (err_not_ok left (found_with file bytes base rest t.0.0 t.0.1) (sym t.2))
        | inl f ↦ elim (bind_err (batches_in (start base) rest) (λ p. counts (start base) (fold appended (start base) p.0) p.1) left (sym (batches_made (start base) rest) ∙ f)) [
          | inl g ↦ ap (λ (r : Read Base). r >>= λ b. with_base b.0 (batches_in (start b.0) b.1)) b.1 ∙ ap (with_base base) g
          | inr p ↦ absurd (err_not_ok left (fold appended (start base) p.0.0, p.0.1) (sym p.2))
        ]
      ]
]

-- ---- one file

same_parts : (one other : Content) → parts_of one ≡ parts_of other → one ≡ other
same_parts one other e = ap content_of e

-- what was found is what the file stands for, and nothing else is
pub holds : (file : Which) (gate : ℕ) (bytes : List ℕ) → gate ≢ 0 → IsBytes bytes → (found : Found) → found_at file bytes ≡ Ok found
    → (content : Content) × StandsFor (gate ∷ bytes) content found.end × IsFound found content × (found.file ≡ file)
holds file gate bytes is_open fits found e =
    let m = found_made file bytes fits found e in
    let s = read_stands gate bytes is_open fits m.parts m.free m.read in
    (content_of m.parts, subst (StandsFor (gate ∷ bytes) (content_of m.parts)) (sym m.end_is) s, m.is, m.file_is)

pub only : (file : Which) (gate : ℕ) (bytes : List ℕ) → IsBytes bytes → (found : Found) → found_at file bytes ≡ Ok found → (content : Content) (end : ℕ) → StandsFor (gate ∷ bytes) content end
    → (found.end ≡ end) × IsFound found content
only file gate bytes fits found e content end s =
    let m = found_made file bytes fits found e in
    let r = stands_read gate bytes fits content end s in
    let same = ok_is (m.parts, m.free) (parts_of content, r.0) (sym m.read ∙ r.1) in
    let free = ap (λ (q : Parts × List ℕ). q.1) same in (
      m.end_is ∙ ap (λ (f : List ℕ). length bytes - length f) free ∙ sym r.2,
      subst (IsFound found) (ap (λ (q : Parts × List ℕ). content_of q.0) same) m.is,
    )

-- nothing is found in an empty or closed file
pub closed_means : (bytes : List ℕ) (content : Content) (end : ℕ) → IsClosed bytes → StandsFor bytes content end → ⊥
closed_means [] content end closed s = absurd (omega (arith, ap length s.parts, length-append s.front (0 ∷ s.free)))
closed_means (gate ∷ bytes) content end closed s = (lies gate bytes content end s).is_open closed

-- ---- laws

pub one_content : (bytes : List ℕ) → All (λ b. b < 256) bytes → (one other : Content) (end till : ℕ) → StandsFor bytes one end → StandsFor bytes other till → (one ≡ other) × (end ≡ till)
one_content [] all one other end till s t = absurd (omega (arith, ap length s.parts, length-append s.front (0 ∷ s.free)))
one_content (gate ∷ bytes) all one other end till s t =
    let fits = (as_bytes (gate ∷ bytes) all).1 in
    let r = stands_read gate bytes fits one end s in
    let q = stands_read gate bytes fits other till t in
    let same = ok_is (parts_of one, r.0) (parts_of other, q.0) (sym r.1 ∙ q.1) in
    (ap (λ (p : Parts × List ℕ). content_of p.0) same, r.2 ∙ ap (λ (p : Parts × List ℕ). length bytes - length p.1) same ∙ sym q.2)

-- a longer front goes on after a shorter one
longer : (a b c d : List ℕ) → a ++ b ≡ c ++ d → length a < length c → (byte : ℕ) × (more : List ℕ) × (c ≡ a ++ byte ∷ more) × (b ≡ byte ∷ (more ++ d))
longer [] b [] d e lt = absurd (omega (arith, lt))
longer [] b (y ∷ c) d e lt = (y, c, refl, e)
longer (x ∷ a) b [] d e lt = absurd (omega (arith, lt))
longer (x ∷ a) b (y ∷ c) d e lt =
    let h = head_is x (a ++ b) y (c ++ d) e in
    let r = longer a b c d h.1 (omega (arith, lt)) in
    (r.0, r.1, ap (λ (t : List ℕ). y ∷ t) r.2 ∙ ap (λ (z : ℕ). z ∷ (a ++ r.0 ∷ r.1)) (sym h.0), r.3)

all_behind : (front bytes : List ℕ) → All (λ b. b < 256) (front ++ bytes) → All (λ b. b < 256) bytes
all_behind [] bytes all = all
all_behind (b ∷ front) bytes all = all_behind front bytes (λ k d lt. all (suc k) d (omega (arith, lt)))

not_sooner : (bytes : List ℕ) → All (λ b. b < 256) bytes → (at place : ℕ) → IsFirstWrong bytes at → IsFirstWrong bytes place → at < place → ⊥
not_sooner bytes all at place f g lt =
    let l = longer f.front f.rest g.front g.rest (sym f.parts ∙ g.parts) (omega (arith, lt, f.place, g.place)) in
    let front_all : IsBytes g.front = bytes_in_front g.front g.rest (subst IsBytes g.parts (as_bytes bytes all)) in
    let more_all : IsBytes l.1 = (bytes_behind f.front (l.0 ∷ l.1) (subst IsBytes l.2 front_all)).1 in
    f.wrong l.0 (l.1 ++ g.rest) l.3 l.1 (from_bytes l.1 more_all) (inl (subst CanGoOn l.2 g.goes_on))

pub one_place : (bytes : List ℕ) → All (λ b. b < 256) bytes → (at place : ℕ) → IsFirstWrong bytes at → IsFirstWrong bytes place → at ≡ place
one_place bytes all at place f g = elim (cases_lt at place) [
  | inl lt ↦ absurd (not_sooner bytes all at place f g lt)
  | inr le ↦ elim (cases_lt place at) [ inl lt ↦ absurd (not_sooner bytes all place at g f lt) | inr ge ↦ omega (arith, le, ge) ]
]

pub wrong_nothing : (bytes : List ℕ) → All (λ b. b < 256) bytes → (at : ℕ) (content : Content) (end : ℕ) → IsFirstWrong bytes at → StandsFor bytes content end → ⊥
wrong_nothing [] all at content end f s = absurd (omega (arith, ap length s.parts, length-append s.front (0 ∷ s.free)))
wrong_nothing (gate ∷ bytes) all at content end f s = by_rest f.rest refl
  where
    by_rest : (rest : List ℕ) → f.rest ≡ rest → ⊥
    by_rest [] is =
        let whole : gate ∷ bytes ≡ f.front = f.parts ∙ ap (λ (t : List ℕ). f.front ++ t) is ∙ append-nil f.front in
        let fits = (as_bytes (gate ∷ bytes) all).1 in
        let r = stands_read gate bytes fits content end s in
        let goes = goes_wait gate bytes fits (subst CanGoOn (sym whole) f.goes_on) in
        err_not_ok 0 (parts_of content, r.0) (sym (file_reads.short bytes goes.1) ∙ r.1)
    by_rest (byte ∷ others) is =
        let whole : gate ∷ bytes ≡ f.front ++ byte ∷ others = f.parts ∙ ap (λ (t : List ℕ). f.front ++ t) is in
        f.wrong byte others is others (λ k d lt. all_behind (f.front ++ byte ∷ []) others (subst (All (λ b. b < 256)) (whole ∙ sym (append_assoc f.front (byte ∷ []) others)) all) k d lt) (inr (content, end, subst (λ (t : List ℕ). StandsFor t content end) whole s))
