-- What a stop leaves of a log over the device calls that open a file that was made, and shut the log's.
use Rattle.std.{proofs.{Common.{◌≡◌, inl, inr, ℕ, ◌+◌, List, [], ◌∷◌, ◌++◌, drop, refl, sym, ◌∙◌, ap, subst, arith, append_assoc}, lemmas.Bool.cases_lt, Math.Arith.le-zero}, specs.Prelude.{Option, Some, None, IfSome, option_map}}
use Rattle.pm_record.{specs.{pm_disk.{declared.disk.Which.Which, Files.{Files, file_of, other, overwritten}, Disk.{Only, TellsStill, Torn}}, Calls.{beside_with, file_with}, OnDisk.{FollowsWithin, GoesOn, Rests, Throughout}, Pair.{IsShut, MeansIn, Yields}, StandsFor.{Content, StandsFor, standing_of}}, proofs.GateLaws.{first_of, other-other, regated, torn_first, written_at}}
use Rattle.pm_log.{specs.{Append.MeansOneOf, Change.{HasChanged, IsMade, KeepsChanging}}, proofs.{Lists.over, Steps.means_shut}}

module _ (file : Which) (content next : Content) (end till : ℕ) (files : Files) (from : ℕ) (before : ℕ → Files → Type 0) (rests : Rests file content end files (before from))
    (made : IsMade file content next till files (before from)) where
  abbrev pub o : Which
  o = other file

  abbrev pub One : Files → Type 0
  One image = MeansOneOf (standing_of content) (end + 1) (standing_of content) (till + 1) image

  means_next : (image : Files) → StandsFor (file_of image o) next till → Yields (file_of image file) next.epoch → MeansIn image (standing_of content) (till + 1)
  means_next image stands yields = record {
    file = o;
    content = next;
    end = till;
    pair = record { stands = stands; beside = subst (λ (w : Which). Yields (file_of image w) next.epoch) (sym (other-other file)) yields };
    is = made.same;
    long = refl;
  }

  -- the other file's gate is being written
  pub record InOpen (image : Files) : Type 0 where
    pub stays : file_of image file ≡ file_of files file
    pub gate : ℕ
    pub more : List ℕ
    pub there : file_of image o ≡ gate ∷ (made.made ++ (0 ∷ more))

  through_open : (to : ℕ) (now : ℕ → Files → Type 0) → FollowsWithin (Torn o 0 1) from to before now → Throughout from to now InOpen
  through_open to now stops = λ t le ge image there.
      let e = stops t le ge image there in
      let was = made.durable e.0 e.1 ∙ made.there in
      let torn = torn_first (file_of e.0 o) (file_of image o) (made.made ++ (0 ∷ made.free)) made.gate was e.2.no_shorter e.2.outside in record {
        stays = subst (λ (w : Which). file_of image w ≡ file_of e.0 w) (other-other file) e.2.beside ∙ rests.durable e.0 e.1;
        gate = torn.0;
        more = made.free ++ torn.1;
        there = torn.2 ∙ ap (λ (l : List ℕ). torn.0 ∷ l) (append_assoc made.made (0 ∷ made.free) torn.1);
      }

  open_means : (image : Files) → InOpen image → One image
  open_means image i =
      let there : StandsFor (file_of image file) content end = subst (λ (l : List ℕ). StandsFor l content end) (sym i.stays) rests.stands in
      elim (cases_lt 0 i.gate) [
        | inl is_open ↦ inr (means_next image (subst (λ (l : List ℕ). StandsFor l next till) (sym i.there) (made.opens i.gate i.more (λ e. omega arith))) (inr (content, end, there, made.later)))
        | inr is_closed ↦ inl (means_shut image file content end there
            (made.made ++ (0 ∷ i.more), i.there ∙ ap (λ (g : ℕ). g ∷ (made.made ++ (0 ∷ i.more))) (le-zero is_closed)))
      ]

  pub stops_open : (to : ℕ) (now : ℕ → Files → Type 0) → FollowsWithin (Torn o 0 1) from to before now → Throughout from to now One
  stops_open to now stops = λ t le ge image there. open_means image (through_open to now stops t le ge image there)

  -- the old file's gate is being written
  close_means : (earlier image : Files) → file_of earlier file ≡ file_of files file → StandsFor (file_of earlier o) next till → Torn file 0 1 earlier image → One image
  close_means earlier image is there torn =
      let old : StandsFor (file_of earlier file) content end = subst (λ (l : List ℕ). StandsFor l content end) (sym is) rests.stands in
      let first = first_of (file_of earlier file) content end old in
      let t = torn_first (file_of earlier file) (file_of image file) (drop 1 (file_of earlier file)) first.0 first.1 torn.no_shorter torn.outside in
      let counts : StandsFor (file_of image o) next till = subst (λ (l : List ℕ). StandsFor l next till) (sym torn.beside) there in
      inr (means_next image counts (elim (cases_lt 0 t.0) [
        | inl is_open ↦ inr (content, end, subst (λ (l : List ℕ). StandsFor l content end) (sym t.2) (regated (file_of earlier file) content end t.0 t.1 old (λ e. omega arith)), made.later)
        | inr is_closed ↦ inl (drop 1 (file_of earlier file) ++ t.1, t.2 ∙ ap (λ (g : ℕ). g ∷ (drop 1 (file_of earlier file) ++ t.1)) (le-zero is_closed))
      ]))

  -- the file that was made, with its gate open
  abbrev pub counting : List ℕ
  counting = overwritten (file_of files o) 0 (1 ∷ [])

  counting_stands : StandsFor counting next till
  counting_stands =
      subst (λ (l : List ℕ). StandsFor l next till) (sym (ap (λ (l : List ℕ). overwritten l 0 (1 ∷ [])) made.there ∙ over [] (made.gate ∷ (made.made ++ (0 ∷ made.free))) (1 ∷ [])))
      (made.opens 1 made.free (λ e. omega arith))

  module _ (mid : ℕ) (opened : ℕ → Files → Type 0) (first : FollowsWithin (Torn o 0 1) from mid before opened) (first_time : GoesOn from mid before opened)
      (durable : Only o counting (opened mid)) where
    pub stops_close : (to : ℕ) (now : ℕ → Files → Type 0) → FollowsWithin (Torn file 0 1) mid to opened now → GoesOn mid to opened now → Throughout from to now One
    stops_close to now second second_time = λ t le ge image there. elim (cases_lt mid t) [
      | inl past ↦
          let e = second t (omega arith) ge image there in
          let i = through_open mid opened first mid first_time.later (omega arith) e.0 e.1 in
          close_means e.0 image i.stays (subst (λ (l : List ℕ). StandsFor l next till) (sym (durable e.0 e.1)) counting_stands) e.2
      | inr early ↦ stops_open mid opened first t le early image ((second_time.past t early image).0 there)
    ]

    pub changed : (to : ℕ) (now : ℕ → Files → Type 0) (now_files : Files) → FollowsWithin (Torn file 0 1) mid to opened now → GoesOn mid to opened now
        → file_of now_files o ≡ counting → IsShut (file_of now_files file) → Only file (file_of now_files file) (now to) → Rests o next till now_files (now to)
    changed to now now_files second second_time same shut only = record {
      stands = subst (λ (l : List ℕ). StandsFor l next till) (sym same) counting_stands;
      durable = λ image there.
          let e = second to second_time.later (omega arith) image there in
          e.2.beside ∙ durable e.0 e.1 ∙ sym same;
      beside = λ image there.
          subst (λ (w : Which). IsShut (file_of image w)) (sym (other-other file)) (subst IsShut (sym (only image there)) shut);
    }

-- ---- where the disk tells its files

pub told_open : (before : Option Files) (file : Which) (from to : ℕ) (i j : ℕ → Files → Type 0) → FollowsWithin (Torn (other file) 0 1) from to i j
    → IfSome before (λ files. KeepsChanging file files from to i j)
told_open None file from to i j stops = tt
told_open (Some files) file from to i j stops = λ content next end till rests made. stops_open file content next end till files from i rests made to j stops

-- the first write has left this
only_counting : (files : Files) (mid : Option Files) (file : Which) (images : Files → Type 0) → mid ≡ Some (written_at (other file) 0 (1 ∷ []) files)
    → IfSome mid (λ f. Only (other file) (file_of f (other file)) images) → Only (other file) (overwritten (file_of files (other file)) 0 (1 ∷ [])) images
only_counting files mid file images written durable =
    let told = subst (λ (m : Option Files). IfSome m (λ f. Only (other file) (file_of f (other file)) images)) written durable in
    subst (λ (l : List ℕ). Only (other file) l images) (file_with files (other file) (overwritten (file_of files (other file)) 0 (1 ∷ []))) told

pub told_close : (before mid : Option Files) (file : Which) (from at to : ℕ) (i j k : ℕ → Files → Type 0) → FollowsWithin (Torn (other file) 0 1) from at i j → GoesOn from at i j
    → mid ≡ option_map (written_at (other file) 0 (1 ∷ [])) before → IfSome mid (λ f. Only (other file) (file_of f (other file)) (j at))
    → FollowsWithin (Torn file 0 1) at to j k → GoesOn at to j k
    → IfSome before (λ files. KeepsChanging file files from to i k)
told_close None mid file from at to i j k first time written durable second goes = tt
told_close (Some files) mid file from at to i j k first time written durable second goes =
    λ content next end till rests made.
    stops_close file content next end till files from i rests made at j first time (only_counting files mid file (j at) written durable) to k second goes

pub told_changed : (before mid now : Option Files) (file : Which) (from at to : ℕ) (i j k : ℕ → Files → Type 0) → FollowsWithin (Torn (other file) 0 1) from at i j → GoesOn from at i j
    → mid ≡ option_map (written_at (other file) 0 (1 ∷ [])) before → IfSome mid (λ f. Only (other file) (file_of f (other file)) (j at))
    → FollowsWithin (Torn file 0 1) at to j k → GoesOn at to j k → now ≡ option_map (written_at file 0 (0 ∷ [])) mid → IfSome now (λ f. Only file (file_of f file) (k to))
    → TellsStill (λ files now. HasChanged file files now (i from) (k to)) before now
told_changed None mid now file from at to i j k first time written durable second goes closed durable_now =
    closed ∙ ap (λ (m : Option Files). option_map (written_at file 0 (0 ∷ [])) m) written
told_changed (Some files) mid now file from at to i j k first time written durable second goes closed durable_now =
    let open_files = written_at (other file) 0 (1 ∷ []) files in
    let end_files = written_at file 0 (0 ∷ []) open_files in
    let there : now ≡ Some end_files = closed ∙ ap (λ (m : Option Files). option_map (written_at file 0 (0 ∷ [])) m) written in
    let only : Only file (file_of end_files file) (k to) = subst (λ (m : Option Files). IfSome m (λ f. Only file (file_of f file) (k to))) there durable_now in
    let shut_now : IsShut (file_of end_files file) = (drop 1 (file_of open_files file), file_with open_files file (overwritten (file_of open_files file) 0 (0 ∷ []))) in
    let stays : file_of end_files (other file) ≡ overwritten (file_of files (other file)) 0 (1 ∷ []) =
    beside_with open_files file (overwritten (file_of open_files file) 0 (0 ∷ [])) ∙ file_with files (other file) (overwritten (file_of files (other file)) 0 (1 ∷ [])) in
    subst (λ (n : Option Files). TellsStill (λ files now. HasChanged file files now (i from) (k to)) (Some files) n) (sym there)
    (λ content next end till rests made.
    changed file content next end till files from i rests made at j first time (only_counting files mid file (j at) written durable) to k end_files second goes stays shut_now only)
