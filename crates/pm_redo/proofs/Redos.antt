-- What reading the two files leaves of what they mean.
use Rattle.std.{proofs.{Common.{◌≡◌, ◌⊎◌, inl, inr, ℕ, ◌≤◌, ◌<◌, Bool, true, false, List, [], ◌∷◌, ◌++◌, drop, refl, sym, ◌∙◌, ap, subst, arith}, lemmas.Bool.{cases_lt, false≢true, true≢false}, Math.Arith.le-zero}, specs.Prelude.{Option, Some, None, IfSome, option_map}}
use Rattle.pm_record.{specs.{pm_disk.{declared.disk.Which.{Which, TheVariants.{A, B}}, Files.{Files, file_of, other, overwritten}, Disk.{Only, TellsStill, Torn}}, StandsFor.{Content, StandsFor, standing_of}, Pair.{IsShut, MeansIn, MeansWhat, PairStandsFor, Yields}, OnDisk.{FollowsWithin, GoesOn, Rests, Throughout}, Found.{Holds, IsClosed, IsFound}, declared.found.{Contents.{Contents, TheVariants.{Closed, Standing as Stood}}, Found.Found}, Calls.{beside_with, file_with}}, proofs.GateLaws.{first_of, other-other, regated, same_standing, torn_first, written_at}}
use Rattle.pm_redo.{specs.{Redo.{IsOnly, IsQuiet, Same}, Found.{Finds, FindsOnly, FindsPair, IsDamaged, MeansOnly, standing_in}}, proofs.FileLaws.{epoch_is, not_closed}}

-- ---- one file

-- a file has one epoch
pub same_epoch : (bytes : List ℕ) (one two : Content) (end till : ℕ) → StandsFor bytes one end → StandsFor bytes two till → one.epoch ≡ two.epoch
same_epoch bytes one two end till first second = sym (epoch_is bytes one end first) ∙ epoch_is bytes two till second

pub not_shut : (bytes : List ℕ) (content : Content) (end : ℕ) → StandsFor bytes content end → IsShut bytes → ⊥
not_shut bytes content end log shut = not_closed bytes content end log (subst IsClosed (sym shut.1) refl)

pub shut_of : (bytes : List ℕ) → IsClosed bytes → (bytes ≡ [] → ⊥) → IsShut bytes
shut_of [] closed some = absurd (some refl)
shut_of (gate ∷ rest) closed some = (rest, ap (λ (g : ℕ). g ∷ rest) closed)

-- ---- the pair
pub finds_one : (file : Which) (found : Found) (files : Files) → Holds file (Stood found) (file_of files file) → IsShut (file_of files (other file)) → Finds found false files
finds_one file found files holds shut = record {
  content = holds.0;
  is = holds.2;
  pair = subst (λ (w : Which). PairStandsFor files w holds.0 found.end) (sym holds.3) (record { stands = holds.1; beside = inl shut });
  shut = λ _. subst (λ (w : Which). IsShut (file_of files (other w))) (sym holds.3) shut;
  stays = λ same. absurd (false≢true same);
}

pub finds_two : (file : Which) (found two : Found) (files : Files) → Holds file (Stood found) (file_of files file) → Holds (other file) (Stood two) (file_of files (other file))
    → two.epoch < found.epoch → Finds found true files
finds_two file found two files holds beside less = record {
  content = holds.0;
  is = holds.2;
  pair = subst (λ (w : Which). PairStandsFor files w holds.0 found.end) (sym holds.3)
      (record { stands = holds.1; beside = inr (beside.0, two.end, beside.1, omega (arith, less, holds.2.epoch, beside.2.epoch)) });
  shut = λ same. absurd (true≢false same);
  stays = subst (λ (w : Which). true ≡ true → IsShut (file_of files (other w)) → ⊥) (sym holds.3) (λ _ shut. not_shut (file_of files (other file)) beside.0 two.end beside.1 shut);
}

-- whichever file is named
sides : (file w : Which) → (w ≡ file) ⊎ (w ≡ other file)
sides A A = inl refl
sides A B = inr refl
sides B A = inr refl
sides B B = inl refl

-- The file that doesn't count is being shut: the pair means what it meant.
pub shut_keeps : (file : Which) (content : Content) (end : ℕ) (files image : Files) → PairStandsFor files file content end → (IsShut (file_of files (other file)) → ⊥)
    → Torn (other file) 0 1 files image → MeansWhat files image
shut_keeps file content end files image pair unshut torn standing bytes means =
    let o = other file in
    let stays : file_of image file ≡ file_of files file = subst (λ (w : Which). file_of image w ≡ file_of files w) (other-other file) torn.beside in
    elim (sides file means.file) [
      | inl same ↦
          let its = subst (λ (w : Which). PairStandsFor files w means.content means.end) same means.pair in
          elim its.beside [
            | inl shut ↦ absurd (unshut shut)
            | inr older ↦
                let first = first_of (file_of files o) older.0 older.1 older.2 in
                let t = torn_first (file_of files o) (file_of image o) (drop 1 (file_of files o)) first.0 first.1 torn.no_shorter torn.outside in
                record {
                  file = file;
                  content = means.content;
                  end = means.end;
                  pair = record {
                    stands = subst (λ (l : List ℕ). StandsFor l means.content means.end) (sym stays) its.stands;
                    beside = elim (cases_lt 0 t.0) [
                      | inl is_open ↦ inr (older.0, older.1, subst (λ (l : List ℕ). StandsFor l older.0 older.1) (sym t.2) (regated (file_of files o) older.0 older.1 t.0 t.1 older.2 (λ e. omega arith)), older.3)
                      | inr is_closed ↦ inl (drop 1 (file_of files o) ++ t.1, t.2 ∙ ap (λ (g : ℕ). g ∷ (drop 1 (file_of files o) ++ t.1)) (le-zero is_closed))
                    ];
                  };
                  is = means.is;
                  long = means.long;
                }
          ]
      | inr differs ↦
          let its = subst (λ (w : Which). PairStandsFor files w means.content means.end) differs means.pair in
          let under = subst (λ (w : Which). Yields (file_of files w) means.content.epoch) (other-other file) its.beside in
          absurd (elim under [
            | inl shut ↦ not_shut (file_of files file) content end pair.stands shut
            | inr older ↦ elim pair.beside [
              | inl shut ↦ unshut shut
              | inr yielding ↦
                  let one = same_epoch (file_of files file) older.0 content older.1 end older.2 pair.stands in
                  let two = same_epoch (file_of files o) yielding.0 means.content yielding.1 means.end yielding.2 its.stands in
                  omega (arith, one, two, older.3, yielding.3)
            ]
          ])
    ]

-- ---- over the ticks
pub same_means : (one two : Files) → two ≡ one → MeansWhat one two
same_means one two same = λ s n m. subst (λ (f : Files). MeansIn f s n) (sym same) m

pub quiet_then : (s0 s1 s2 : Option Files) (from mid to : ℕ) (i j k : ℕ → Files → Type 0) → IsQuiet s0 s1 from mid i j → IsQuiet s1 s2 mid to j k → IsQuiet s0 s2 from to i k
quiet_then s0 s1 s2 from mid to i j k first second = record {
  seen = second.seen ∙ first.seen;
  stops = λ t le ge image there. elim (cases_lt mid t) [
    | inl later ↦
        let e = second.stops t (omega arith) ge image there in
        let b = first.stops mid first.time.later (omega arith) e.0 e.1 in
        (b.0, b.1, e.2 ∙ b.2)
    | inr early ↦ first.stops t le early image ((second.time.past t early image).0 there)
  ];
  time = record {
    later = omega (arith, first.time.later, second.time.later);
    past = λ t le image. (let s = second.time.past t (omega (arith, first.time.later)) image in let f = first.time.past t le image in ((λ h. f.0 (s.0 h)), (λ h. s.1 (f.1 h))));
  };
}

pub only_through : (files : Files) (from to : ℕ) (i j : ℕ → Files → Type 0) → IsOnly files (i from) → FollowsWithin Same from to i j → Throughout from to j (λ image. image ≡ files)
only_through files from to i j only stops = λ t le ge image there. (let e = stops t le ge image there in e.2 ∙ only e.0 e.1)

pub quiet_means : (before : Option Files) (from to : ℕ) (i j : ℕ → Files → Type 0) → FollowsWithin Same from to i j → IfSome before (λ files. FollowsWithin MeansWhat from to i j)
quiet_means None from to i j stops = tt
quiet_means (Some files) from to i j stops = λ t le ge image there. (let e = stops t le ge image there in (e.0, e.1, same_means e.0 image e.2))

pub quiet_barrier : (before : Option Files) (from to : ℕ) (j : ℕ → Files → Type 0) → IfSome before (λ files. Throughout from to j (Same files))
    → IfSome before (λ files. Throughout from to j (MeansWhat files))
quiet_barrier None from to j through = tt
quiet_barrier (Some files) from to j through = λ t le ge image there. same_means files image (through t le ge image there)

-- from the barrier on nothing but the files is left
pub same_through : (before : Option Files) (start from to : ℕ) (i j : ℕ → Files → Type 0) → IfSome before (λ files. IsOnly files (i from)) → from ≡ start
    → FollowsWithin Same from to i j → IfSome before (λ files. Throughout start to j (Same files))
same_through None start from to i j only is stops = tt
same_through (Some files) start from to i j only is stops = λ t le ge image there. only_through files from to i j only stops t (omega (arith, is)) ge image there

-- ---- where the disk tells
abbrev pub pair_of : List ℕ → List ℕ → Files
pair_of a b = record { a = a; b = b }

-- what was read are the files
pub read_files : (files : Files) (a b : List ℕ) → a ≡ files.a → b ≡ files.b → pair_of a b ≡ files
read_files files a b one two = ap (λ (l : List ℕ). pair_of l b) one ∙ ap (λ (l : List ℕ). pair_of files.a l) two

-- what holds of the bytes that were read holds of the files
pub told : (Holds : Files → Type 0) (before s1 s2 : Option Files) (a b : List ℕ) → s1 ≡ before → s2 ≡ s1
    → IfSome s1 (λ files. a ≡ file_of files A) → IfSome s2 (λ files. b ≡ file_of files B) → Holds (pair_of a b) → IfSome before Holds
told Holds None s1 s2 a b is1 is2 reads_a reads_b holds = tt
told Holds (Some files) s1 s2 a b is1 is2 reads_a reads_b holds =
    subst Holds (read_files files a b (subst (λ (s : Option Files). IfSome s (λ files. a ≡ file_of files A)) is1 reads_a)
    (subst (λ (s : Option Files). IfSome s (λ files. b ≡ file_of files B)) (is2 ∙ is1) reads_b)) holds

-- the files as they were read, before one may have to be shut
pub record IsRead (found : Found) (both : Bool) (files : Files) (from to : ℕ) (j : ℕ → Files → Type 0) : Type 0 where
  pub finds : Finds found both files
  pub through : Throughout from to j (Same files)

pub is_read : (before : Option Files) (found : Found) (both is : Bool) (from to : ℕ) (j : ℕ → Files → Type 0) → both ≡ is
    → IfSome before (Finds found both) → IfSome before (λ files. Throughout from to j (Same files)) → IfSome before (λ files. IsRead found is files from to j)
is_read None found both is from to j same finds through = tt
is_read (Some files) found both is from to j same finds through = record { finds = subst (λ (x : Bool). Finds found x files) same finds; through = through }

pub found_only : (before : Option Files) (found : Found) (both : Bool) (from to : ℕ) (j : ℕ → Files → Type 0)
    → IfSome before (λ files. IsRead found both files from to j) → from ≤ to → IfSome before (λ files. FindsPair found files (λ content. IsOnly files (j to)))
found_only None found both from to j read le = tt
found_only (Some files) found both from to j read le = record {
  content = read.finds.content;
  is = read.finds.is;
  pair = read.finds.pair;
  besides = λ image there. read.through to le (omega arith) image there;
}

pub found_quiet : (before now : Option Files) (found : Found) (from to : ℕ) (j : ℕ → Files → Type 0)
    → now ≡ before → IfSome before (λ files. IsRead found false files from to j) → from ≤ to
    → TellsStill (λ files now. FindsPair found files (λ content. Rests found.file content found.end now (j to))) before now
found_quiet None now found from to j is read le = is
found_quiet (Some files) now found from to j is read le =
    let f = read.finds in
    subst (λ (n : Option Files). TellsStill (λ files now. FindsPair found files (λ content. Rests found.file content found.end now (j to))) (Some files) n) (sym is) (record {
      content = f.content;
      is = f.is;
      pair = f.pair;
      besides = record {
        stands = f.pair.stands;
        durable = λ image there. ap (λ (x : Files). file_of x found.file) (read.through to le (omega arith) image there);
        beside = λ image there. subst (λ (x : Files). IsShut (file_of x (other found.file))) (sym (read.through to le (omega arith) image there)) (f.shut refl);
      };
    })

pub found_written : (before s3 now : Option Files) (found : Found) (o : Which) (from mid to : ℕ) (j k : ℕ → Files → Type 0)
    → s3 ≡ before → o ≡ other found.file → now ≡ option_map (written_at o 0 (0 ∷ [])) s3 → IfSome now (λ f. Only o (file_of f o) (k to))
    → IfSome before (λ files. IsRead found true files from mid j) → from ≤ mid → mid ≤ to → FollowsWithin (Torn o 0 1) mid to j k
    → TellsStill (λ files now. FindsPair found files (λ content. Rests found.file content found.end now (k to))) before now
found_written None s3 now found o from mid to j k is is_o written durable read le ge stops = written ∙ ap (λ (s : Option Files). option_map (written_at o 0 (0 ∷ [])) s) is
found_written (Some files) s3 now found o from mid to j k is is_o written durable read le ge stops =
    let f = read.finds in
    let w = other found.file in
    let last = written_at w 0 (0 ∷ []) files in
    let there : now ≡ Some last = written ∙ ap (λ (s : Option Files). option_map (written_at o 0 (0 ∷ [])) s) is ∙ ap (λ (x : Which). Some (written_at x 0 (0 ∷ []) files)) is_o in
    let only : Only w (file_of last w) (k to) =
    subst (λ (x : Which). Only x (file_of last x) (k to)) is_o (subst (λ (n : Option Files). IfSome n (λ f. Only o (file_of f o) (k to))) there durable) in
    let torn : FollowsWithin (Torn w 0 1) mid to j k = subst (λ (x : Which). FollowsWithin (Torn x 0 1) mid to j k) is_o stops in
    let stays : file_of last found.file ≡ file_of files found.file =
    subst (λ (x : Which). file_of last x ≡ file_of files x) (other-other found.file) (beside_with files w (overwritten (file_of files w) 0 (0 ∷ []))) in
    let shut : IsShut (file_of last w) = (drop 1 (file_of files w), file_with files w (overwritten (file_of files w) 0 (0 ∷ []))) in
    subst (λ (n : Option Files). TellsStill (λ files now. FindsPair found files (λ content. Rests found.file content found.end now (k to))) (Some files) n) (sym there) (record {
      content = f.content;
      is = f.is;
      pair = f.pair;
      besides = record {
        stands = subst (λ (l : List ℕ). StandsFor l f.content found.end) (sym stays) f.pair.stands;
        durable = λ image left.
            let e = torn to ge (omega arith) image left in
            let was = read.through mid le (omega arith) e.0 e.1 in
            subst (λ (x : Which). file_of image x ≡ file_of (e.0) x) (other-other found.file) e.2.beside ∙ ap (λ (x : Files). file_of x found.file) was ∙ sym stays;
        beside = λ image left. subst IsShut (sym (only image left)) shut;
      };
    })

-- the file that doesn't count is being shut
pub written_means : (before : Option Files) (found : Found) (o : Which) (start from mid to : ℕ) (h j k : ℕ → Files → Type 0)
    → o ≡ other found.file → IfSome before (λ files. IsRead found true files from mid j) → from ≤ mid → FollowsWithin Same start mid h j → start ≤ mid
    → FollowsWithin (Torn o 0 1) mid to j k → GoesOn mid to j k → IfSome before (λ files. FollowsWithin MeansWhat start to h k)
written_means None found o start from mid to h j k is_o read le quiet begun stops time = tt
written_means (Some files) found o start from mid to h j k is_o read le quiet begun stops time = λ t after upto image there. elim (cases_lt mid t) [
  | inl later ↦
      let f = read.finds in
      let torn = subst (λ (x : Which). FollowsWithin (Torn x 0 1) mid to j k) is_o stops in
      let e = torn t (omega arith) upto image there in
      let was = read.through mid le (omega arith) e.0 e.1 in
      let first = quiet mid begun (omega arith) e.0 e.1 in (
        first.0,
        first.1,
        λ s n m. shut_keeps found.file f.content found.end files image f.pair (f.stays refl) (subst (λ (x : Files). Torn (other found.file) 0 1 x image) was e.2) s n
            (subst (λ (x : Files). MeansIn x s n) (sym first.2 ∙ was) m),
      )
  | inr early ↦
      let e = quiet t after early image ((time.past t early image).0 there) in
      (e.0, e.1, same_means e.0 image e.2)
]

pub written_barrier : (before : Option Files) (found : Found) (o : Which) (from mid to : ℕ) (j k : ℕ → Files → Type 0)
    → o ≡ other found.file → IfSome before (λ files. IsRead found true files from mid j) → from ≤ mid
    → FollowsWithin (Torn o 0 1) mid to j k → GoesOn mid to j k → IfSome before (λ files. Throughout from to k (MeansWhat files))
written_barrier None found o from mid to j k is_o read le stops time = tt
written_barrier (Some files) found o from mid to j k is_o read le stops time = λ t after upto image there. elim (cases_lt mid t) [
  | inl later ↦
      let f = read.finds in
      let torn = subst (λ (x : Which). FollowsWithin (Torn x 0 1) mid to j k) is_o stops in
      let e = torn t (omega arith) upto image there in
      let was = read.through mid le (omega arith) e.0 e.1 in
      shut_keeps found.file f.content found.end files image f.pair (f.stays refl) (subst (λ (x : Files). Torn (other found.file) 0 1 x image) was e.2)
  | inr early ↦ same_means files image (read.through t after early image ((time.past t early image).0 there))
]

-- ---- what was found is all that the files mean
found_is : (found : Found) (content : Content) → IsFound found content → standing_of content ≡ standing_in found
found_is found content is = same_standing _ _ _ _ (sym is.rows) (sym is.count)

-- whatever a file stands for, that was found in it
abbrev pub Tells : List ℕ → Found → Type 0
Tells bytes found = (content : Content) → (end : ℕ) → StandsFor bytes content end → (found.end ≡ end) × IsFound found content

-- nothing stands in the other file
pub only_one : (file : Which) (found : Found) (files : Files) → found.file ≡ file → Tells (file_of files file) found
    → ((content : Content) → (end : ℕ) → StandsFor (file_of files (other file)) content end → ⊥) → FindsOnly found files
only_one file found files is_file tells nothing w content end pair = elim (sides file w) [
  | inl same ↦
      let its = subst (λ (x : Which). PairStandsFor files x content end) same pair in
      let is = tells content end its.stands in
      (is_file ∙ sym same, is.0, is.1)
  | inr differs ↦
      let its = subst (λ (x : Which). PairStandsFor files x content end) differs pair in
      absurd (nothing content end its.stands)
]

-- something of a smaller epoch stands in the other file
pub only_greater : (file : Which) (found two : Found) (files : Files) → Holds file (Stood found) (file_of files file) → Tells (file_of files file) found
    → Tells (file_of files (other file)) two → two.epoch < found.epoch → FindsOnly found files
only_greater file found two files holds tells beside less w content end pair = elim (sides file w) [
  | inl same ↦
      let its = subst (λ (x : Which). PairStandsFor files x content end) same pair in
      let is = tells content end its.stands in
      (holds.3 ∙ sym same, is.0, is.1)
  | inr differs ↦
      let its = subst (λ (x : Which). PairStandsFor files x content end) differs pair in
      let under = subst (λ (x : Which). Yields (file_of files x) content.epoch) (other-other file) its.beside in
      let is_two = (beside content end its.stands).1.epoch in
      absurd (elim under [
        | inl shut ↦ not_shut (file_of files file) holds.0 found.end holds.1 shut
        | inr older ↦
            let is_found = (tells older.0 older.1 older.2).1.epoch in
            omega (arith, is_two, is_found, older.3, less)
      ])
]

-- what was found is what the files mean
pub means_only : (before : Option Files) (found : Found) → IfSome before (FindsOnly found) → IfSome before (MeansOnly found)
means_only None found only = tt
means_only (Some files) found only = λ standing bytes means.
    let is = only means.file means.content means.end means.pair in
    (sym means.is ∙ found_is found means.content is.2, omega (arith, means.long, is.1))

-- ---- which file is damaged

-- a file that holds something isn't damaged, unless it is empty beside an open one
pub not_damaged : (file : Which) (contents : Contents) (files : Files) → Holds file contents (file_of files file) → (file_of files file ≡ [] → IsClosed (file_of files (other file)))
    → (place : ℕ) → IsDamaged file files place → ⊥
not_damaged file Closed files holds there place damaged = elim damaged [ inl now ↦ now.0.not_closed holds | inr empty ↦ empty.2 (there empty.1) ]
not_damaged file (Stood found) files holds there place damaged = elim damaged [ inl now ↦ now.0.no_log holds.0 found.end holds.1 | inr empty ↦ empty.2 (there empty.1) ]
