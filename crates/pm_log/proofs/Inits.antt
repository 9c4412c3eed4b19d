-- What a stop leaves of the two files while a cluster is made in them.
use Rattle.std.{proofs.{Common.{◌≡◌, ◌≢◌, ◌⊎◌, inl, inr, ℕ, zero, suc, ◌+◌, ◌≤◌, ◌<◌, true, List, [], ◌∷◌, ◌++◌, length, take, drop, refl, sym, ◌∙◌, ap, ap₂, subst, arith, append_assoc}, lemmas.{Bool.cases_lt, List.{length-drop, nil_from_length}}}, specs.{Prelude.{slice_get, sum_by, Option, Some, None, IfSome, option_map, ℤ}, Int.{w32, w64, to_be_bytes}, List.flat_map, Map.values_of, Ordering.int_cmp}}
use Rattle.std.specs.FinMap as map
use Rattle.pm_record.{specs.{pm_disk.{declared.disk.Which.TheVariants.{A, B}, Files.{Files, file_of, overwritten}, Disk.{Only, TellsStill, Torn}}, pm_rows.{Fold.{RowMap, folded}, Limits.IsWithinRowLimits, Size.{row_size, size_of}}, Spelling.{base_bytes, row_bytes, rows_bytes}, StandsFor.{IsContent, StandsFor}, Pair.IsShut, OnDisk.{FollowsWithin, GoesOn}}, proofs.GateLaws.{torn_first, written_at}}
use Rattle.pm_log.{specs.Init.{HasNew, HasNone, HasPart, IsBeingMade, IsNewCluster, OpensLast, new_log, with_new_log}, proofs.{Lists.over, Steps.means_shut, Wrote.{Wrote, base_stands}}}

-- ---- the new log

abbrev rows : RowMap
rows = map.empty

no_entries : map.entries rows ≡ []
no_entries = nil_from_length (map.entries rows) (sym (map.len-entries rows) ∙ map.len-empty int_cmp (List ℕ))

no_rows : rows_bytes map.empty ≡ 0 ∷ 0 ∷ 0 ∷ 0 ∷ []
no_rows =
    ap₂ (λ (n : ℕ) (rows : List (ℤ × List ℕ)). to_be_bytes w32 n ++ flat_map row_bytes rows) (map.len-empty int_cmp (List ℕ)) no_entries

pub new_base : base_bytes 1 true 0 map.empty
    ≡ 0x50 ∷ 0x47 ∷ 0x50 ∷ 0x4D ∷ 0x4C ∷ 0x4F ∷ 0x47 ∷ 1 ∷ 0 ∷ 0 ∷ 0 ∷ 0 ∷ 0 ∷ 0 ∷ 0 ∷ 1 ∷ 1 ∷ 0 ∷ 0 ∷ 0 ∷ 0 ∷ 0 ∷ 0 ∷ 0 ∷ 0 ∷ 0 ∷ 0 ∷ 0 ∷ 0 ∷ []
new_base =
    ap (λ (rows : List ℕ). 0x50 ∷ 0x47 ∷ 0x50 ∷ 0x4D ∷ 0x4C ∷ 0x4F ∷ 0x47 ∷ 1 ∷ to_be_bytes w64 1 ++ 1 ∷ to_be_bytes w64 0 ++ rows) no_rows

abbrev base : List ℕ
base = base_bytes 1 true 0 map.empty

-- between closed gates
abbrev pub closed : List ℕ
closed = 0 ∷ (base ++ (0 ∷ []))

base_long : length base ≡ 29
base_long = ap (λ (l : List ℕ). length l) new_base

pub closed_long : length closed ≡ 31
closed_long = ap (λ (l : List ℕ). length (0 ∷ (l ++ (0 ∷ [])))) new_base

no_size : size_of map.empty ≡ 0
no_size = ap (λ (rows : List (ℤ × List ℕ)). sum_by row_size (values_of rows)) no_entries

none_within : IsWithinRowLimits map.empty
none_within = record { few = omega (arith, map.len-empty int_cmp (List ℕ)); small = omega (arith, no_size) }

new_is : IsContent new_log
new_is = record {
  epoch = omega arith;
  rows = λ k d lt. absurd (omega (arith, lt, ap length no_entries));
  batches = λ k d lt. absurd (omega arith);
  follows = record { limits = limits; number = omega arith };
}
  where
    limits : (n : ℕ) → n ≤ 0 → IsWithinRowLimits (folded map.empty (take n []))
    limits zero le = none_within
    limits (suc n) le = none_within

-- behind an open gate it stands there
stands : (gate : ℕ) (free : List ℕ) → gate ≢ 0 → StandsFor (gate ∷ (base ++ (0 ∷ free))) new_log 30
stands gate free is_open =
    subst (λ (n : ℕ). StandsFor (gate ∷ (base ++ (0 ∷ free))) new_log n) (omega (arith, base_long)) (base_stands new_log gate free refl is_open new_is)

-- ---- files

-- what was written to a file's beginning
written_front : (bytes old : List ℕ) → overwritten old 0 bytes ≡ bytes ++ drop (length bytes) old
written_front bytes old = over [] old bytes

closed_in : (old : List ℕ) → overwritten old 0 closed ≡ 0 ∷ (base ++ (0 ∷ drop 31 old))
closed_in old =
    written_front closed old ∙ ap (λ (n : ℕ). closed ++ drop n old) closed_long ∙ ap (λ (l : List ℕ). 0 ∷ l) (append_assoc base (0 ∷ []) (drop 31 old))

-- the gate decides
decides : (gate : ℕ) (free : List ℕ) (image : Files) → image.a ≡ gate ∷ (base ++ (0 ∷ free)) → IsShut image.b → HasNone image ⊎ HasNew image
decides zero free image is shut = inl ((base ++ (0 ∷ free), is), shut)
decides (suc gate) free image is shut = inr (subst (λ (l : List ℕ). StandsFor l new_log 30) (sym is) (stands (suc gate) free (λ e. omega arith)), shut)

-- a stop in the write of A's gate leaves no cluster or the new one
torn_gate : (earlier image : Files) (free : List ℕ) → earlier.a ≡ 0 ∷ (base ++ (0 ∷ free)) → IsShut earlier.b → Torn A 0 1 earlier image
    → HasNone image ⊎ HasNew image
torn_gate earlier image free is shut torn =
    let t = torn_first earlier.a image.a (base ++ (0 ∷ free)) 0 is torn.no_shorter torn.outside in
    decides t.0 (free ++ t.1) image (t.2 ∙ ap (λ (l : List ℕ). t.0 ∷ l) (append_assoc base (0 ∷ free) t.1)) (subst IsShut (sym torn.beside) shut)

-- a whole write of B's gate
abbrev shut_files : Files → Files
shut_files files = written_at B 0 (0 ∷ []) files

torn_whole : (files : Files) → Torn B 0 1 files (shut_files files)
torn_whole files = record {
  no_shorter = omega (arith, length-drop 1 files.b);
  outside = λ i lt where_is. first_stays files.b i lt where_is;
  beside = refl;
}
  where
    first_stays : (old : List ℕ) (i : ℕ) → i < length old → (i < 0) ⊎ (0 + 1 ≤ i) → slice_get (overwritten old 0 (0 ∷ [])) i ≡ slice_get old i
    first_stays old zero lt where_is = elim where_is [ inl less ↦ absurd (omega (arith, less)) | inr more ↦ absurd (omega (arith, more)) ]
    first_stays [] (suc i) lt where_is = absurd (omega (arith, lt))
    first_stays (x ∷ old) (suc i) lt where_is = refl

abbrev files_with : List ℕ → List ℕ → Files
files_with a b = record { a = a; b = b }

-- ---- over the ticks
abbrev Part : (ℕ → Files → Type 0) → ℕ → Files → Type 0
Part before from image = (earlier : Files) × before from earlier × HasPart earlier image

module _ (files : Files) (s1 : Option Files) (t0 t1 : ℕ) (i j : ℕ → Files → Type 0) (first : Wrote B 0 (0 ∷ []) t0 t1 i j (Some files) s1) where
  -- B is closed, durably
  shut_b : (image : Files) → j t1 image → IsShut image.b
  shut_b image there =
      let only : Only B (overwritten files.b 0 (0 ∷ [])) (j t1) = subst (λ (m : Option Files). IfSome m (λ f. Only B (file_of f B) (j t1))) first.written first.durable in
      (drop 1 files.b, only image there)

  stops_first : FollowsWithin IsBeingMade t0 t1 i j
  stops_first = λ t le ge image there. (let e = first.stops t le ge image there in (e.0, e.1, inl e.2))

  -- A is being written, behind its closed gate
  module _ (count t2 : ℕ) (k : ℕ → Files → Type 0) (long : count ≡ 31) (stops : FollowsWithin (Torn A 0 count) t1 t2 j k) (time : GoesOn t1 t2 j k) where
    in_part : (t : ℕ) → t1 ≤ t → t ≤ t2 → (image : Files) → k t image → Part i t0 image
    in_part t le ge image there =
        let e = subst (λ (n : ℕ). FollowsWithin (Torn A 0 n) t1 t2 j k) long stops t le ge image there in
        let b = first.stops t1 first.time.later (omega arith) e.0 e.1 in
        (b.0, b.1, record { between = e.0; in_b = b.2; in_a = e.2; shut = subst IsShut (sym e.2.beside) (shut_b e.0 e.1) })

    pub stops_second : FollowsWithin IsBeingMade t0 t2 i k
    stops_second = λ t le ge image there. elim (cases_lt t1 t) [
      | inl later ↦ (let e = in_part t (omega arith) ge image there in (e.0, e.1, inr (inl e.2)))
      | inr early ↦ stops_first t le early image ((time.past t early image).0 there)
    ]

    -- A's gate is being written
    module _ (s2 : Option Files) (written : s2 ≡ option_map (written_at A 0 closed) s1) (durable : IfSome s2 (λ f. Only A (file_of f A) (k t2)))
        (one t3 : ℕ) (l : ℕ → Files → Type 0) (is_one : one ≡ 1) (last : FollowsWithin (Torn A 0 one) t2 t3 k l) (goes : GoesOn t2 t3 k l) where
      closed_a : (image : Files) → k t2 image → image.a ≡ 0 ∷ (base ++ (0 ∷ drop 31 files.a))
      closed_a image there =
          let told : s2 ≡ Some (written_at A 0 closed (shut_files files)) = written ∙ ap (λ (s : Option Files). option_map (written_at A 0 closed) s) first.written in
          let only : Only A (overwritten files.a 0 closed) (k t2) = subst (λ (m : Option Files). IfSome m (λ f. Only A (file_of f A) (k t2))) told durable in
          only image there ∙ closed_in files.a

      has_none : (image : Files) → k t2 image → HasNone image
      has_none image there = ((base ++ (0 ∷ drop 31 files.a), closed_a image there), (in_part t2 time.later (omega arith) image there).2.shut)

      abbrev NoneOrNew : Files → Type 0
      NoneOrNew image = HasNone image ⊎ HasNew image

      at_gate : (t : ℕ) → t2 ≤ t → t ≤ t3 → (image : Files) → l t image → (earlier : Files) × i t0 earlier × NoneOrNew image
      at_gate t le ge image there =
          let e = subst (λ (n : ℕ). FollowsWithin (Torn A 0 n) t2 t3 k l) is_one last t le ge image there in
          let p = in_part t2 time.later (omega arith) e.0 e.1 in
          (p.0, p.1, torn_gate e.0 image (drop 31 files.a) (closed_a e.0 e.1) p.2.shut e.2)

      pub stops_third : FollowsWithin IsBeingMade t0 t3 i l
      stops_third = λ t le ge image there. elim (cases_lt t2 t) [
        | inl later ↦ (let e = at_gate t (omega arith) ge image there in (e.0, e.1, inr (inr e.2)))
        | inr early ↦ stops_second t le early image ((goes.past t early image).0 there)
      ]

      pub opens_last : OpensLast t0 t3 l
      opens_last = (
        t2,
        (let a = first.time.later in let b = time.later in omega arith),
        goes.later,
        λ image there. has_none image ((goes.past t2 (omega arith) image).0 there),
        λ t le ge image there. (at_gate t le ge image there).2,
      )

      -- and the gate is open
      pub is_new : (s3 : Option Files) → s3 ≡ option_map (written_at A 0 (1 ∷ [])) s2 → IfSome s3 (λ f. Only A (file_of f A) (l t3))
          → IfSome s3 (λ now. IsNewCluster now (l t3))
      is_new s3 opened durable_now =
          let told : s2 ≡ Some (written_at A 0 closed (shut_files files)) = written ∙ ap (λ (s : Option Files). option_map (written_at A 0 closed) s) first.written in
          let now = written_at A 0 (1 ∷ []) (written_at A 0 closed (shut_files files)) in
          let there : s3 ≡ Some now = opened ∙ ap (λ (s : Option Files). option_map (written_at A 0 (1 ∷ [])) s) told in
          let only : Only A now.a (l t3) = subst (λ (m : Option Files). IfSome m (λ f. Only A (file_of f A) (l t3))) there durable_now in
          let log : StandsFor now.a new_log 30 = subst (λ (f : List ℕ). StandsFor f new_log 30)
          (sym (ap (λ (f : List ℕ). overwritten f 0 (1 ∷ [])) (closed_in files.a))) (stands 1 (drop 31 files.a) (λ e. omega arith)) in
          let shut : IsShut now.b = (drop 1 files.b, refl) in
          let b_stays : (image : Files) → l t3 image → image.b ≡ now.b = λ image left.
          (let e = last t3 goes.later (omega arith) image left in
          let d = stops t2 time.later (omega arith) e.0 e.1 in
          e.2.beside ∙ d.2.beside ∙ only_b d.0 d.1) in
          subst (λ (m : Option Files). IfSome m (λ n. IsNewCluster n (l t3))) (sym there) (record {
            means = means_shut now A new_log 30 log shut;
            rests = record { stands = log; durable = only; beside = λ image left. subst IsShut (sym (b_stays image left)) shut };
            durable = λ image left. same_files image now (only image left) (b_stays image left);
          })
        where
          only_b : (image : Files) → j t1 image → image.b ≡ overwritten files.b 0 (0 ∷ [])
          only_b image there = subst (λ (m : Option Files). IfSome m (λ f. Only B (file_of f B) (j t1))) first.written first.durable image there

          same_files : (one other : Files) → one.a ≡ other.a → one.b ≡ other.b → one ≡ other
          same_files one other a b = ap₂ (λ (x y : List ℕ). files_with x y) a b

-- ---- what reads
pub left_first : (s0 s1 : Option Files) → TellsStill (Torn B 0 1) s0 s1 → TellsStill IsBeingMade s0 s1
left_first None s1 torn = torn
left_first (Some files) None torn = torn
left_first (Some files) (Some now) torn = inl torn

-- what the whole write of B leaves
abbrev second_files : Files → Files
second_files files = written_at A 0 closed (shut_files files)

pub left_second : (s0 s1 s2 : Option Files) (count : ℕ) → count ≡ 31 → s1 ≡ option_map (written_at B 0 (0 ∷ [])) s0 → TellsStill (Torn A 0 count) s1 s2
    → TellsStill IsBeingMade s0 s2
left_second None s1 s2 count long written torn = subst (λ (s : Option Files). TellsStill (Torn A 0 count) s s2) written torn
left_second (Some files) s1 None count long written torn = subst (λ (s : Option Files). TellsStill (Torn A 0 count) s None) written torn
left_second (Some files) s1 (Some now) count long written torn =
    let there : Torn A 0 count (shut_files files) now = subst (λ (s : Option Files). TellsStill (Torn A 0 count) s (Some now)) written torn in
    inr (inl (record {
      between = shut_files files;
      in_b = torn_whole files;
      in_a = subst (λ (n : ℕ). Torn A 0 n (shut_files files) now) long there;
      shut = (drop 1 files.b, there.beside);
    }))

pub left_third : (s0 s1 s2 s3 : Option Files) (one : ℕ) → one ≡ 1 → s1 ≡ option_map (written_at B 0 (0 ∷ [])) s0 → s2 ≡ option_map (written_at A 0 closed) s1
    → TellsStill (Torn A 0 one) s2 s3 → TellsStill IsBeingMade s0 s3
left_third s0 s1 s2 s3 one is_one first second torn =
    third s0 s3 (subst (λ (n : ℕ). TellsStill (Torn A 0 n) (option_map second_files s0) s3) is_one
    (subst (λ (s : Option Files). TellsStill (Torn A 0 one) s s3) (second ∙ ap (λ (s : Option Files). option_map (written_at A 0 closed) s) first ∙ both s0) torn))
  where
    both : (s : Option Files) → option_map (written_at A 0 closed) (option_map (written_at B 0 (0 ∷ [])) s) ≡ option_map second_files s
    both None = refl
    both (Some files) = refl

    third : (s0 s3 : Option Files) → TellsStill (Torn A 0 1) (option_map second_files s0) s3 → TellsStill IsBeingMade s0 s3
    third None s3 torn = torn
    third (Some files) None torn = torn
    third (Some files) (Some now) torn = inr (inr (torn_gate (second_files files) now (drop 31 files.a) (closed_in files.a) (drop 1 files.b, refl) torn))

-- all was written
pub made : (s0 s1 s2 s3 : Option Files) → s1 ≡ option_map (written_at B 0 (0 ∷ [])) s0 → s2 ≡ option_map (written_at A 0 closed) s1
    → s3 ≡ option_map (written_at A 0 (1 ∷ [])) s2 → s3 ≡ option_map with_new_log s0
made s0 s1 s2 s3 first second third =
    third ∙ ap (λ (s : Option Files). option_map (written_at A 0 (1 ∷ [])) s) (second ∙ ap (λ (s : Option Files). option_map (written_at A 0 closed) s) first) ∙ all s0
  where
    opened : (old : List ℕ) → overwritten (overwritten old 0 closed) 0 (1 ∷ []) ≡ overwritten old 0 (1 ∷ (base ++ (0 ∷ [])))
    opened old = ap (λ (l : List ℕ). overwritten l 0 (1 ∷ [])) (written_front closed old) ∙ sym (written_front (1 ∷ (base ++ (0 ∷ []))) old)

    all : (s : Option Files) → option_map (written_at A 0 (1 ∷ [])) (option_map (written_at A 0 closed) (option_map (written_at B 0 (0 ∷ [])) s)) ≡ option_map with_new_log s
    all None = refl
    all (Some files) = ap (λ (l : List ℕ). Some (record { a = l; b = overwritten files.b 0 (0 ∷ []) })) (opened files.a)

pub left_made : (s0 s3 : Option Files) → s3 ≡ option_map with_new_log s0 → TellsStill IsBeingMade s0 s3
left_made None s3 is = is
left_made (Some files) s3 is = subst (λ (s : Option Files). TellsStill IsBeingMade (Some files) s) (sym is)
    (inr (inr (inr (subst (λ (l : List ℕ). StandsFor l new_log 30) (sym (there files.a)) (stands 1 (drop 31 files.a) (λ e. omega arith)), (drop 1 files.b, refl)))))
  where
    there : (old : List ℕ) → overwritten old 0 (1 ∷ (base ++ (0 ∷ []))) ≡ 1 ∷ (base ++ (0 ∷ drop 31 old))
    there old =
        written_front (1 ∷ (base ++ (0 ∷ []))) old ∙ ap (λ (n : ℕ). (1 ∷ (base ++ (0 ∷ []))) ++ drop n old) closed_long
        ∙ ap (λ (l : List ℕ). 1 ∷ l) (append_assoc base (0 ∷ []) (drop 31 old))

-- ---- where the disk tells its files: the three writes

pub told_first : (s0 : Option Files) (t0 t1 : ℕ) (i j : ℕ → Files → Type 0) → FollowsWithin (Torn B 0 1) t0 t1 i j → IfSome s0 (λ _. FollowsWithin IsBeingMade t0 t1 i j)
told_first None t0 t1 i j stops = tt
told_first (Some files) t0 t1 i j stops = λ t le ge image there. (let e = stops t le ge image there in (e.0, e.1, inl e.2))

pub told_second : (s0 s1 s2 : Option Files) (t0 t1 t2 count : ℕ) (i j k : ℕ → Files → Type 0) → Wrote B 0 (0 ∷ []) t0 t1 i j s0 s1 → count ≡ 31
    → FollowsWithin (Torn A 0 count) t1 t2 j k → GoesOn t1 t2 j k → IfSome s0 (λ _. FollowsWithin IsBeingMade t0 t2 i k)
told_second None s1 s2 t0 t1 t2 count i j k first long stops time = tt
told_second (Some files) s1 s2 t0 t1 t2 count i j k first long stops time = stops_second files s1 t0 t1 i j first count t2 k long stops time

pub told_third : (s0 s1 s2 : Option Files) (t0 t1 t2 t3 one : ℕ) (i j k l : ℕ → Files → Type 0) → Wrote B 0 (0 ∷ []) t0 t1 i j s0 s1 → Wrote A 0 closed t1 t2 j k s1 s2
    → one ≡ 1 → FollowsWithin (Torn A 0 one) t2 t3 k l → GoesOn t2 t3 k l → IfSome s0 (λ _. FollowsWithin IsBeingMade t0 t3 i l)
told_third None s1 s2 t0 t1 t2 t3 one i j k l first second is_one stops time = tt
told_third (Some files) s1 s2 t0 t1 t2 t3 one i j k l first second is_one stops time =
    stops_third files s1 t0 t1 i j first (length closed) t2 k closed_long second.stops second.time s2 second.written second.durable one t3 l is_one stops time

pub told_last : (s0 s1 s2 : Option Files) (t0 t1 t2 t3 one : ℕ) (i j k l : ℕ → Files → Type 0) → Wrote B 0 (0 ∷ []) t0 t1 i j s0 s1 → Wrote A 0 closed t1 t2 j k s1 s2
    → one ≡ 1 → FollowsWithin (Torn A 0 one) t2 t3 k l → GoesOn t2 t3 k l → IfSome s0 (λ _. OpensLast t0 t3 l)
told_last None s1 s2 t0 t1 t2 t3 one i j k l first second is_one stops time = tt
told_last (Some files) s1 s2 t0 t1 t2 t3 one i j k l first second is_one stops time =
    opens_last files s1 t0 t1 i j first (length closed) t2 k closed_long second.stops second.time s2 second.written second.durable one t3 l is_one stops time

pub told_new : (s0 s1 s2 s3 : Option Files) (t0 t1 t2 t3 : ℕ) (i j k l : ℕ → Files → Type 0) → Wrote B 0 (0 ∷ []) t0 t1 i j s0 s1 → Wrote A 0 closed t1 t2 j k s1 s2
    → Wrote A 0 (1 ∷ []) t2 t3 k l s2 s3 → IfSome s3 (λ files. IsNewCluster files (l t3))
told_new None s1 s2 s3 t0 t1 t2 t3 i j k l first second third =
    let none : s3 ≡ None = third.written ∙ ap (λ (s : Option Files). option_map (written_at A 0 (1 ∷ [])) s)
    (second.written ∙ ap (λ (s : Option Files). option_map (written_at A 0 closed) s) first.written) in
    subst (λ (s : Option Files). IfSome s (λ files. IsNewCluster files (l t3))) (sym none) tt
told_new (Some files) s1 s2 s3 t0 t1 t2 t3 i j k l first second third =
    is_new files s1 t0 t1 i j first (length closed) t2 k closed_long second.stops second.time s2 second.written second.durable 1 t3 l refl third.stops third.time s3 third.written third.durable
