-- A piece of the log's other file, and the change to it.
use Rattle.std.{proofs.{Common.{◌≡◌, ◌≢◌, inl, inr, ℕ, ◌+◌, ◌-◌, ◌^◌, ◌<◌, ◌≤◌, false, List, [], ◌++◌, length-append, take, length, Option, None, Some, refl, sym, ◌∙◌, ap, subst, arith}, Math.{Bridge.le_prop, Logic.{∥∥₁_elim, ∥∥₁_map, ∥∥₁_prop}}, lemmas.Bool.cases_lt}, specs.Prelude.{Err, IfSome}}
use Rattle.pm_query.specs.{pm_disk.{Disk.TellsStill, Files.{Files, file_of, other}}, pm_rows.{declared.commit.Change.Change, Batch.IsBatch, Fold.{RowMap, folded}, Limits.IsWithinRowLimits, Standing.Standing}, pm_record.{OnDisk.{GoesOn, Throughout}, Pair.MeansIn, StandsFor.{Content, StandsFor, standing_of, with_batch}}, Calls.{CheckpointNotes, User, due_bytes}, declared.store.StoreNo.{StoreNo, TheVariants.{Broken, Disk as DiskFailed, Full, NoMemory, Redo, Stale}}}
use Rattle.pm_query.specs.pm_disk.declared.disk.Disk as Disk
use Rattle.pm_store_apart.specs.declared.piece.Came.TheVariants as came
use Rattle.pm_record.proofs.ContentLaws.{one_content_of}
use Rattle.pm_log.specs.{Append.MeansOneOf, Half.{Half, over_of, whole_of}, Log.Lives, Making.{HasStepped, HasSwitched, IsReady, IsUnderWay, Makes, MayBegin, begun}, declared.{log.Log.Log, making.Stepped.TheVariants.Ready}}
use Rattle.pm_store_apart.{specs.{declared.live.Live.Live, Flushes.IsLonger, Lending.MakesWith, Pieces.{HasGivenUp, HasGoneOn, HasSwitchedTo, IsMade, IsMadeBeside, IsNoLonger, IsPlaced, ListCause, PieceCame, StopsSameAt}, Rests.{Rests}, Stands.bytes_of_rows}, proofs.{CheckpointsLaws.{bare_end, unmade}, Lengths.base_size, Remaking.{RestsStill, StaysWithin}, Resting.{LivesWith, means_now}, Staging.may_write}}

-- ---- what a stop leaves

abbrev pub StepLives : Log → (before now : Files → Type 0) → (files files_now : Files) → Type 0
StepLives log before now files files_now = (content : Content) → Lives log content files before → Lives log content files_now now

abbrev pub StepStops : Log → (from to : ℕ) → (before : Files → Type 0) → (now : ℕ → Files → Type 0) → Files → Type 0
StepStops log from to before now files = (content : Content) → Lives log content files before → Throughout from to now (λ image. MeansIn image (standing_of content) (log.end + 1))

abbrev pub SwitchStops : Log → Half → (from to : ℕ) → (before : Files → Type 0) → (now : ℕ → Files → Type 0) → Files → Type 0
SwitchStops log ready from to before now files =
    (content : Content) → Lives log content files before → IsReady ready log.file log.end content files before
    → Throughout from to now (MeansOneOf (standing_of content) (log.end + 1) (standing_of content) (ready.done + 1))

abbrev pub SwitchLives : Log → Half → Log → (before now : Files → Type 0) → (files files_now : Files) → Type 0
SwitchLives log ready new before now files files_now =
    (content : Content) → Lives log content files before → IsReady ready log.file log.end content files before → HasSwitched new content files_now now

-- of a step alone
pub stops_one : (seen : Option Files) (log : Log) (half : Half) (from to : ℕ) (before : Files → Type 0) (now : ℕ → Files → Type 0) → IfSome seen (StepStops log from to before now) → IfSome seen (StopsSameAt log half from to before now)
stops_one None log half from to before now stops = tt
stops_one (Some files) log half from to before now stops = λ content lives makes t after upto image there. inl (stops content lives t after upto image there)

-- and of the change to the file after it
module _ (log : Log) (half ready : Half) (from between to : ℕ) (i j k : ℕ → Files → Type 0) where
  pub stops_two : (seen mid : Option Files) → ready.done ≡ whole_of half log.end → GoesOn between to j k → TellsStill (StepLives log (i from) (j between)) seen mid
      → TellsStill (λ files files_mid. HasStepped half ready log.file log.end files files_mid (j between) Ready) seen mid → IfSome seen (StepStops log from between (i from) j)
      → IfSome mid (SwitchStops log ready between to (j between) k) → IfSome seen (StopsSameAt log half from to (i from) k)
  stops_two None mid whole goes lives makes first second = tt
  stops_two (Some files) None whole goes lives makes first second = absurd lives
  stops_two (Some files) (Some files_mid) whole goes lives makes first second = λ content kept made t after upto image there.
      elim (cases_lt between t) [
        | inl late ↦ subst (λ (n : ℕ). MeansOneOf (standing_of content) (log.end + 1) (standing_of content) (n + 1) image) whole
            (second content (lives content kept) (makes content made) t (omega (arith, late)) upto image there)
        | inr early ↦ inl (first content kept t after early image ((goes.past t early image).0 there))
      ]

  pub lives_two : (new : Log) (seen mid now : Option Files) → TellsStill (StepLives log (i from) (j between)) seen mid
      → TellsStill (λ files files_mid. HasStepped half ready log.file log.end files files_mid (j between) Ready) seen mid → TellsStill (SwitchLives log ready new (j between) (k to)) mid now
      → TellsStill (λ files files_now. (content : Content) → Lives log content files (i from) → Makes half log.file log.end content files → HasSwitched new content files_now (k to)) seen now
  lives_two new None mid now lives makes changed = subst (λ (m : Option Files). TellsStill (SwitchLives log ready new (j between) (k to)) m now) lives changed
  lives_two new (Some files) None now lives makes changed = absurd lives
  lives_two new (Some files) (Some files_mid) None lives makes changed = changed
  lives_two new (Some files) (Some files_mid) (Some files_now) lives makes changed = λ content kept made. changed content (lives content kept) (makes content made)

-- ---- what it is for the store

-- of whatever stands in the log's file the other is made
abbrev pub MakesOf : Log → Half → Files → Type 0
MakesOf log half files = (content : Content) → StandsFor (file_of files log.file) content log.end → ∥ Makes half log.file log.end content files ∥₁

-- the file that was made isn't longer than the log's
pub whole_within : (log : Log) (half : Half) → IsUnderWay log half → over_of half ≡ 0 → whole_of half log.end ≤ log.end
whole_within log half way short = omega (arith, way.from, short)

pub stays_within : (seen : Option Files) (live : Live) (half : Half) (rows : RowMap) (staged : List (List Change)) (from to : ℕ) (i k : ℕ → Files → Type 0) → IsMade live.log half seen → live.log.since ≡ None
    → IfSome seen (StopsSameAt live.log half from to (i from) k) → IfSome seen (StaysWithin live rows staged (live.log.end + 1) from to (i from) k)
stays_within seen live half rows staged from to i k made unbroken stops = each seen (made.makes unbroken) stops
  where
    each : (seen : Option Files) → IfSome seen (MakesOf live.log half) → IfSome seen (StopsSameAt live.log half from to (i from) k) → IfSome seen (StaysWithin live rows staged (live.log.end + 1) from to (i from) k)
    each None makes stops = tt
    each (Some files) makes stops = λ h t after upto image there. ∥∥₁_map (makes h.content h.lives.rests.stands) (λ m. elim (stops h.content h.lives m t after upto image there) [
      | inl same ↦ (live.log.end + 1, omega arith, same)
      | inr same ↦ (whole_of half live.log.end + 1, omega (arith, whole_within live.log half made.under_way made.no_longer), same)
    ])

-- it is written as far as it says
pub placed_at : (seen : Option Files) (live : Live) (half : Half) (rows : RowMap) (staged : List (List Change)) (images : Files → Type 0) → IsMade live.log half seen → live.log.since ≡ None
    → ∥ Rests (Some live) rows staged seen images ∥₁ → IfSome seen (IsPlaced live.log half)
placed_at seen live half rows staged images made unbroken rests = each seen (made.makes unbroken) rests
  where
    each : (seen : Option Files) → IfSome seen (MakesOf live.log half) → ∥ Rests (Some live) rows staged seen images ∥₁ → IfSome seen (IsPlaced live.log half)
    each None makes rests = tt
    each (Some files) makes rests = (
      ∥∥₁_elim rests (hlevel le_prop) (λ r.
          let h = r unbroken in
          ∥∥₁_elim (makes h.content h.lives.rests.stands) (hlevel le_prop) (λ m. omega (arith, ap length m.file_is, length-append m.front (m.since ++ m.rest), length-append m.since m.rest, m.end_is))),
      ∥∥₁_elim rests (hlevel le_prop) (λ r.
          let h = r unbroken in
          ∥∥₁_elim (makes h.content h.lives.rests.stands) (hlevel le_prop) (λ m. omega (arith, ap length m.beside, length-append m.made m.free, m.done_is))),
    )

-- it lives with the same content
pub rests_same : (seen now : Option Files) (live new : Live) (rows : RowMap) (staged : List (List Change)) (i k : Files → Type 0) → new.closed ≡ live.closed
    → TellsStill (λ files files_now. (content : Content) → Lives live.log content files i → Lives new.log content files_now k) seen now → TellsStill (RestsStill live new rows staged i k) seen now
rests_same None now live new rows staged i k closed lives = lives
rests_same (Some files) None live new rows staged i k closed lives = lives
rests_same (Some files) (Some files_now) live new rows staged i k closed lives = λ s at.
    let h = at.has in ∣ record {
      has = record { content = h.content; lives = lives h.content h.lives; rows_are = h.rows_are; limits = h.limits; closed = λ is. h.closed (sym closed ∙ is) };
      is = at.is;
    } ∣₁

-- it lives in the file that was made, with the same rows and number
pub rests_switched : (seen now : Option Files) (live new : Live) (half : Half) (rows : RowMap) (staged : List (List Change)) (i k : Files → Type 0) → new.closed ≡ live.closed → live.log.since ≡ None → IsMade live.log half seen
    → TellsStill (λ files files_now. (content : Content) → Lives live.log content files i → Makes half live.log.file live.log.end content files → HasSwitched new.log content files_now k) seen now
    → TellsStill (RestsStill live new rows staged i k) seen now
rests_switched seen now live new half rows staged i k closed unbroken made lives = each seen now (made.makes unbroken) lives
  where
    each : (seen now : Option Files) → IfSome seen (MakesOf live.log half)
        → TellsStill (λ files files_now. (content : Content) → Lives live.log content files i → Makes half live.log.file live.log.end content files → HasSwitched new.log content files_now k) seen now
        → TellsStill (RestsStill live new rows staged i k) seen now
    each None now makes lives = lives
    each (Some files) None makes lives = lives
    each (Some files) (Some files_now) makes lives = λ s at.
        let h = at.has in
        ∥∥₁_map (makes h.content h.lives.rests.stands) (λ m.
        let its = lives h.content h.lives m in
        let same : (standing_of its.next).rows ≡ (standing_of h.content).rows = ap (λ (t : Standing). t.rows) its.same in record {
          has = record {
            content = its.next;
            lives = its.lives;
            rows_are = h.rows_are ∙ ap (λ (r : RowMap). folded r staged) (sym same);
            limits = λ n le. subst (λ (r : RowMap). IsWithinRowLimits (folded r (take n staged))) (sym same) (h.limits n le);
            closed = λ is.
                let bare = (h.closed (sym closed ∙ is)).0 in
                absurd (omega (arith, made.due, bare_end (file_of files live.log.file) h.content live.log.end h.lives.rests.stands bare.bare, h.lives.base_end));
          };
          is = its.same ∙ at.is;
        })

-- so it rests there
pub rests_still : (seen now : Option Files) (live new : Live) (rows : RowMap) (staged : List (List Change)) (i k : Files → Type 0) → live.log.since ≡ None → TellsStill (RestsStill live new rows staged i k) seen now
    → ∥ Rests (Some live) rows staged seen i ∥₁ → ∥ Rests (Some new) rows staged now k ∥₁
rests_still None now live new rows staged i k unbroken still rests = subst (λ (f : Option Files). ∥ Rests (Some new) rows staged f k ∥₁) (sym still) ∣ (λ whole. tt) ∣₁
rests_still (Some files) None live new rows staged i k unbroken still rests = absurd still
rests_still (Some files) (Some files_now) live new rows staged i k unbroken still rests =
    ∥∥₁_elim rests ∥∥₁_prop (λ r. let h = r unbroken in ∥∥₁_map (still (standing_of h.content) (record { has = h; is = refl })) (λ a whole. a.has))

-- ---- what is made goes on being made

module _ {D : Type 0} (g : Disk.Ghosts D) (taken now : D) where
  pub makes_on : (live : Live) (half new : Half) (rows : RowMap) (staged : List (List Change)) → IsMade live.log half (g.seen taken) → HasGoneOn g taken now live.log half new
      → ∥ Rests (Some live) rows staged (g.seen taken) (g.images taken (g.ticks taken)) ∥₁ → IsMade live.log new (g.seen now)
  makes_on live half new rows staged made gone rests = record {
    under_way = gone.under_way;
    due = made.due;
    next = gone.epoch ∙ made.next;
    no_longer = gone.over ∙ made.no_longer;
    makes = λ whole. each (g.seen taken) (g.seen now) whole (made.makes whole) gone.lives gone.makes rests;
  }
    where
      each : (seen seen_now : Option Files) → live.log.since ≡ None → IfSome seen (MakesOf live.log half) → TellsStill (StepLives live.log (g.images taken (g.ticks taken)) (g.images now (g.ticks now))) seen seen_now
          → TellsStill (λ files files_now. (content : Content) → Makes half live.log.file live.log.end content files → Makes new live.log.file live.log.end content files_now) seen seen_now
          → ∥ Rests (Some live) rows staged seen (g.images taken (g.ticks taken)) ∥₁ → IfSome seen_now (MakesOf live.log new)
      each None seen_now whole makes lives goes rests = subst (λ (f : Option Files). IfSome f (MakesOf live.log new)) (sym lives) tt
      each (Some files) None whole makes lives goes rests = tt
      each (Some files) (Some files_now) whole makes lives goes rests = λ content stands.
          ∥∥₁_elim rests ∥∥₁_prop (λ r.
          let h = r whole in
          let there = lives h.content h.lives in
          let same : content ≡ h.content = (one_content_of (file_of files_now live.log.file) content h.content live.log.end live.log.end stands there.rests.stands).0 in
          ∥∥₁_map (makes h.content h.lives.rests.stands) (λ m. subst (λ (c : Content). Makes new live.log.file live.log.end c files_now) (sym same) (goes h.content m)))

-- a batch was written beside it
pub made_written : (seen now : Option Files) (live new : Live) (half : Half) (rows : RowMap) (staged : List (List Change)) (k : ℕ) (i j : Files → Type 0) → k ≤ length staged → IsBatch (take k staged) → live.log.count + length staged < 2 ^ 64
    → live.log.since ≡ None → new.log.epoch ≡ live.log.epoch → new.log.base_end ≡ live.log.base_end → live.log.end ≤ new.log.end → IsUnderWay new.log half
    → TellsStill (LivesWith live new (take k staged) i j) seen now → TellsStill (MakesWith live.log new.log (take k staged)) seen now → ∥ Rests (Some live) rows staged seen i ∥₁ → IsMade live.log half seen → IsMade new.log half now
made_written seen now live new half rows staged k i j few batch small unbroken epoch base longer way lives makes rests made = record {
  under_way = way;
  due = omega (arith, made.due, base, longer);
  next = omega (arith, made.next, epoch);
  no_longer = made.no_longer;
  makes = λ whole. each seen now (made.makes unbroken) lives makes rests;
}
  where
    each : (seen now : Option Files) → IfSome seen (MakesOf live.log half) → TellsStill (LivesWith live new (take k staged) i j) seen now → TellsStill (MakesWith live.log new.log (take k staged)) seen now
        → ∥ Rests (Some live) rows staged seen i ∥₁ → IfSome now (MakesOf new.log half)
    each None now made lives makes rests = subst (λ (f : Option Files). IfSome f (MakesOf new.log half)) (sym lives) tt
    each (Some files) None made lives makes rests = tt
    each (Some files) (Some files_now) made lives makes rests = λ content stands.
        ∥∥₁_elim rests ∥∥₁_prop (λ r.
        let h = r unbroken in
        let there = lives h.content h.lives (may_write live rows staged k files i h few batch small) in
        let same : content ≡ with_batch h.content (take k staged) = (one_content_of (file_of files_now new.log.file) content (with_batch h.content (take k staged)) new.log.end new.log.end stands there.rests.stands).0 in
        ∥∥₁_map (made h.content h.lives.rests.stands) (λ m. subst (λ (c : Content). Makes half new.log.file new.log.end c files_now) (sym same) (makes h.content half m)))

-- a log that is broken claims nothing of it
pub made_broken : (live new : Live) (half : Half) (seen now : Option Files) → new.log.epoch ≡ live.log.epoch → new.log.base_end ≡ live.log.base_end → new.log.end ≡ live.log.end → IsUnderWay new.log half → (new.log.since ≢ None)
    → IsMade live.log half seen → IsMade new.log half now
made_broken live new half seen now epoch base end way broken made = record {
  under_way = way;
  due = omega (arith, made.due, base, end);
  next = omega (arith, made.next, epoch);
  no_longer = made.no_longer;
  makes = λ whole. absurd (broken whole);
}

-- where a file is made at all
pub beside_on : (o : Option Live) (live new : Live) (half : Option Half) (seen now : Option Files) → o ≡ Some live → ((h : Half) → IsMade live.log h seen → IsMade new.log h now) → IsMadeBeside o half seen → IsMadeBeside (Some new) half now
beside_on o live new None seen now read on made = tt
beside_on o live new (Some half) seen now read on made = on half (subst (λ (l : Option Live). IsMadeBeside l (Some half) seen) read made)

-- ---- the beginning

-- the log that knows of it, and of which it is made
pub record Begins (live : Live) (its : Log) (half : Half) (rows : RowMap) (staged : List (List Change)) : Type 0 where
  pub knows : its ≡ record live.log { making = Some (over_of half) }
  pub half_is : half ≡ begun (unmade live.log) rows
  pub short : bytes_of_rows rows ≤ live.log.end + 1
  pub due : due_bytes ≤ live.log.end - live.log.base_end
  pub unstaged : staged ≡ []

pub begins_short : (live : Live) (its : Log) (half : Half) (rows : RowMap) (staged : List (List Change)) → Begins live its half rows staged → over_of half ≡ 0
begins_short live its half rows staged is = omega (
  arith,
  ap (λ (h : Half). length h.base) is.half_is,
  ap (λ (h : Half). h.from) is.half_is,
  base_size (live.log.epoch + 1) false live.log.count rows,
  is.short,
)

pub begun_made : (seen : Option Files) (live : Live) (its : Log) (half : Half) (rows : RowMap) (staged : List (List Change)) (images : Files → Type 0) → Begins live its half rows staged → IsUnderWay its half
    → ∥ Rests (Some live) rows staged seen images ∥₁ → (live.log.since ≡ None → IfSome seen (λ files. 1 ≤ length (file_of files (other live.log.file))))
    → ((content : Content) (files : Files) → MayBegin (unmade live.log) rows content files → Makes half its.file its.end content files) → IsMade its half seen
begun_made seen live its half rows staged images is way rests gate makes = record {
  under_way = way;
  due = omega (arith, is.due, ap (λ (l : Log). l.end) is.knows, ap (λ (l : Log). l.base_end) is.knows);
  next = omega (arith, ap (λ (h : Half). h.epoch) is.half_is, ap (λ (l : Log). l.epoch) is.knows);
  no_longer = begins_short live its half rows staged is;
  makes = λ whole.
      let unbroken : live.log.since ≡ None = sym (ap (λ (l : Log). l.since) is.knows) ∙ whole in
      subst (λ (l : Log). IfSome seen (λ files. (content : Content) → StandsFor (file_of files l.file) content l.end → ∥ Makes half its.file its.end content files ∥₁)) (sym is.knows) (each seen unbroken (gate unbroken) rests);
}
  where
    each : (seen : Option Files) → live.log.since ≡ None → IfSome seen (λ files. 1 ≤ length (file_of files (other live.log.file))) → ∥ Rests (Some live) rows staged seen images ∥₁
        → IfSome seen (λ files. (content : Content) → StandsFor (file_of files live.log.file) content live.log.end → ∥ Makes half its.file its.end content files ∥₁)
    each None unbroken beside rests = tt
    each (Some files) unbroken beside rests = λ content stands. ∥∥₁_map rests (λ r.
        let h = r unbroken in
        let same : content ≡ h.content = (one_content_of (file_of files live.log.file) content h.content live.log.end live.log.end stands h.lives.rests.stands).0 in
        subst (λ (c : Content). Makes half its.file its.end c files) (sym same) (makes h.content files (record {
          stands = h.lives.rests.stands;
          epoch = h.lives.epoch;
          count = h.lives.count;
          rows_are = h.rows_are ∙ ap (λ (l : List (List Change)). folded (standing_of h.content).rows l) is.unstaged;
          beside = beside;
        })))

-- the log has come no less far, and the rows are the same
pub longer_rows : (before now : Option Live) (rows rows_now : RowMap) → IsLonger before now → rows_now ≡ rows → IsNoLonger before (bytes_of_rows rows) → IsNoLonger now (bytes_of_rows rows_now)
longer_rows before now rows rows_now longer same short =
    let was : bytes_of_rows rows ≤ longer.its.log.end + 1 = subst (λ (l : Option Live). IsNoLonger l (bytes_of_rows rows)) longer.read short in
    subst (λ (l : Option Live). IsNoLonger l (bytes_of_rows rows_now)) (sym longer.read_now) (omega (arith, was, longer.longer, ap bytes_of_rows same))

pub list_refusal : (user : User) (refused : StoreNo) → ListCause (Err refused) → CheckpointNotes user false (Err refused) []
list_refusal user NoMemory cause = refl
list_refusal user (Full need room) cause = (cause, refl)
list_refusal user DiskFailed cause = absurd cause
list_refusal user (Broken since) cause = absurd cause
list_refusal user (Redo fault) cause = absurd cause
list_refusal user (Stale mine found) cause = absurd cause

-- it lives as it did
pub lives_knowing : (seen : Option Files) (live : Live) (its : Log) (half : Half) (rows : RowMap) (staged : List (List Change)) (images : Files → Type 0) → Begins live its half rows staged
    → TellsStill (λ files files_now. (content : Content) → Lives live.log content files images → Lives its content files_now images) seen seen
lives_knowing None live its half rows staged images is = refl
lives_knowing (Some files) live its half rows staged images is = λ content lives.
    subst (λ (l : Log). Lives l content files images) (sym is.knows) (record { unbroken = lives.unbroken; epoch = lives.epoch; base_end = lives.base_end; count = lives.count; rests = lives.rests })

-- no call of the disk is made
pub still_within : (seen : Option Files) (live : Live) (rows : RowMap) (staged : List (List Change)) (tick : ℕ) (i : ℕ → Files → Type 0) → IfSome seen (StaysWithin live rows staged (live.log.end + 1) tick tick (i tick) i)
still_within None live rows staged tick i = tt
still_within (Some files) live rows staged tick i = λ h t after upto image there.
    let same : t ≡ tick = omega (arith, after, upto) in
    ∣ (live.log.end + 1, omega arith, means_now live.log.file h.content live.log.end files (i tick) h.lives.rests image (subst (λ (n : ℕ). i n image) same there)) ∣₁

-- ---- what a piece came to

module _ {D : Type 0} (g : Disk.Ghosts D) (taken now : D) (log : Log) (half : Half) (P : Option Half → Type 0) where
  pub came_more : (left : Option Half) → PieceCame g taken now log half came.More left → ((new : Half) → HasGoneOn g taken now log half new → P (Some new)) → P left
  came_more None is each = absurd is
  came_more (Some new) is each = each new is

  pub came_switched : (left : Option Half) (new : Log) (tick : ℕ) → PieceCame g taken now log half (came.Switched new tick) left → (HasSwitchedTo g taken now log half new tick → P None) → P left
  came_switched None new tick is each = each is
  came_switched (Some other) new tick is each = absurd is

  pub came_failed : (left : Option Half) (new : Log) → PieceCame g taken now log half (came.Failed new) left → (HasGivenUp g taken now log half new → P None) → P left
  came_failed None new is each = each is
  came_failed (Some other) new is each = absurd is
