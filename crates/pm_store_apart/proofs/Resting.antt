-- How the log of a store rests on its disk, from call to call.
use Rattle.std.{proofs.{Common.{◌≡◌, ◌≢◌, ◌⊎◌, inl, inr, ℕ, zero, suc, ◌+◌, ◌^◌, ◌<◌, ◌≤◌, List, [], ◌∷◌, length, get_or, take, All, Option, None, Some, refl, sym, ◌∙◌, ap, subst, arith, length-append, false, true≢false}, Math.{Logic.{∥∥₁_map, ∥∥₁_elim}, Bridge.le_prop}, lemmas.List.{take_all, Elements.{All-nil, All-push}}}, specs.Prelude.IfSome}
use Rattle.pm_query.specs.{pm_disk.{Disk.TellsStill, Files.{Files, file_of}, declared.disk.Which.Which}, pm_rows.{declared.commit.Change.{Change, TheVariants.{Put, Del}}, Fold.{RowMap, committed, folded}, Limits.IsWithinRowLimits, Standing.{Standing, after}, Typed.IsTypedChange, Batch.{IsBatch, IsChange, IsCommit}}, Limits.{IsShortChange, IsWithinCommitLimits}}
use Rattle.pm_query.specs.pm_rows.LogSize as log
use Rattle.pm_record.{proofs.GateLaws.{same_standing, standing}, specs.{StandsFor.{Content, MayAppend, StandsFor, standing_of, with_batch}, Pair.MeansIn, OnDisk.{Rests as LogRests, Throughout}}}
use Rattle.pm_log.{specs.{Append.MeansOneOf, Log.Lives, declared.log.LogFault.LogFault}, proofs.BatchLaws.standing-push}
use Rattle.pm_log.specs.declared.log.LogFault.TheVariants as fault
use Rattle.pm_query.specs.Book as book
use Rattle.pm_store_apart.{specs.{declared.live.Live.Live, Rests.{HasRows, Rests}, Stands.MeansWithin}, proofs.StepsLaws.{OneOf, some_none, with_need}}

-- whatever a stop leaves of a log that rests means its content
pub means_now : (file : Which) (content : Content) (end : ℕ) (files : Files) (images : Files → Type 0) → LogRests file content end files images → (image : Files) → images image → MeansIn image (standing_of content) (end + 1)
means_now file content end files images rests image there = record {
  file = file;
  content = content;
  end = end;
  pair = record {
    stands = subst (λ (bytes : List ℕ). StandsFor bytes content end) (sym (rests.durable image there)) rests.stands;
    beside = inl (rests.beside image there);
  };
  is = refl;
  long = refl;
}

-- ---- a commit that may be appended

change_is : (change : Change) → IsTypedChange change → IsShortChange change → IsChange change
change_is (Put key value) typed short = (typed.0, typed.1, short)
change_is (Del key) typed short = typed

pub batch_is : (commit : List Change) → commit ≢ [] → IsWithinCommitLimits commit → All IsTypedChange commit → IsBatch (commit ∷ [])
batch_is [] some limits typed = absurd (some refl)
batch_is (change ∷ changes) some limits typed =
    let commit = change ∷ changes in
    let is : IsCommit commit = record { some = omega arith; few = limits.few; changes = λ k d lt. change_is (get_or commit k d) (typed k d lt) (limits.short k d lt) } in
    record { some = omega arith; few = omega arith; commits = All-push IsCommit [] commit (All-nil IsCommit) is }

pub may_append : (rows : RowMap) (count : ℕ) (commit : List Change) → IsBatch (commit ∷ []) → IsWithinRowLimits rows → IsWithinRowLimits (committed rows commit) → count + 1 < 2 ^ 64 → MayAppend (standing rows count) (commit ∷ [])
may_append rows count commit batch within behind small = record { batch_is = batch; follows = record { limits = λ n le. each n; number = omega (arith, small) } }
  where
    each : (n : ℕ) → IsWithinRowLimits (folded rows (take n (commit ∷ [])))
    each zero = within
    each (suc zero) = behind
    each (suc (suc n)) = behind

-- where nothing is staged the rows alone keep the limits
pub limits_bare : (base : RowMap) → IsWithinRowLimits base → (n : ℕ) → n ≤ 0 → IsWithinRowLimits (folded base (take n []))
limits_bare base within n few = subst (λ (l : List (List Change)). IsWithinRowLimits (folded base l)) (sym (take_all n [] (omega arith))) within

-- ---- what the log's append says, for rows and count

pub content_is : (live : Live) (rows : RowMap) (files : Files) (images : Files → Type 0) (h : HasRows live rows [] files images) → standing_of h.content ≡ standing rows live.log.count
content_is live rows files images h = same_standing (standing_of h.content).rows rows (standing_of h.content).count live.log.count (sym h.rows_are) (sym h.lives.count)

one_of : (one two : Standing) (bytes need : ℕ) (commit : List Change) (image : Files) → one ≡ two → MeansOneOf one bytes (after one (commit ∷ [])) (bytes + need) image
    → MeansWithin (bytes + need) image two ⊎ MeansWithin (bytes + need) image (after two (commit ∷ []))
one_of one two bytes need commit image same (inl m) = inl (subst (λ (s : Standing). MeansWithin (bytes + need) image s) same (bytes, omega arith, m))
one_of one two bytes need commit image same (inr m) = inr (subst (λ (s : Standing). MeansWithin (bytes + need) image (after s (commit ∷ []))) same (bytes + need, omega arith, m))

-- what the log's append says of the stops inside it
abbrev pub StopsOneOf : Live → List (List Change) → ℕ → ℕ → (Files → Type 0) → (ℕ → Files → Type 0) → Files → Type 0
StopsOneOf live batch from to before now files =
    (content : Content) → Lives live.log content files before → MayAppend (standing_of content) batch
    → Throughout from to now (MeansOneOf (standing_of content) (live.log.end + 1) (after (standing_of content) batch) (live.log.end + 1 + log.need_of batch))

pub through_of : (seen : Option Files) (live : Live) (rows : RowMap) (from to : ℕ) (i k : ℕ → Files → Type 0) (commit : List Change)
    → ∥ Rests (Some live) rows [] seen (i from) ∥₁ → live.log.since ≡ None → MayAppend (standing rows live.log.count) (commit ∷ [])
    → IfSome seen (StopsOneOf live (commit ∷ []) from to (i from) k) → IfSome seen (λ files. Throughout from to k (OneOf (with_need live commit) (standing rows live.log.count) commit))
through_of None live rows from to i k commit rests unbroken may stops = tt
through_of (Some files) live rows from to i k commit rests unbroken may stops = λ t le ge image there.
    ∥∥₁_map rests (λ r.
    let h = r unbroken in
    let same = content_is live rows files (i from) h in
    one_of (standing_of h.content) (standing rows live.log.count) (live.log.end + 1) (log.need_of (commit ∷ [])) commit image same
    (stops h.content h.lives (subst (λ (s : Standing). MayAppend s (commit ∷ [])) (sym same) may) t le ge image there))

-- and of the log after it
abbrev pub LivesWith : Live → Live → List (List Change) → (Files → Type 0) → (Files → Type 0) → Files → Files → Type 0
LivesWith live new batch before now files files_now =
    (content : Content) → Lives live.log content files before → MayAppend (standing_of content) batch → Lives new.log (with_batch content batch) files_now now

pub durable_of : (seen now : Option Files) (live new : Live) (rows : RowMap) (before behind : Files → Type 0) (commit : List Change) → new.log.end ≡ live.log.end + log.need_of (commit ∷ [])
    → ∥ Rests (Some live) rows [] seen before ∥₁ → live.log.since ≡ None → MayAppend (standing rows live.log.count) (commit ∷ [])
    → TellsStill (LivesWith live new (commit ∷ []) before behind) seen now
    → IfSome seen (λ files. (image : Files) → behind image → ∥ MeansWithin (with_need live commit) image (after (standing rows live.log.count) (commit ∷ [])) ∥₁)
durable_of None now live new rows before behind commit end rests unbroken may lives = tt
durable_of (Some files) None live new rows before behind commit end rests unbroken may lives = absurd lives
durable_of (Some files) (Some files_now) live new rows before behind commit end rests unbroken may lives = λ image there.
    ∥∥₁_map rests (λ r.
    let h = r unbroken in
    let same = content_is live rows files before h in
    let its = lives h.content h.lives (subst (λ (s : Standing). MayAppend s (commit ∷ [])) (sym same) may) in
    let with_it = with_batch h.content (commit ∷ []) in
    subst (λ (s : Standing). MeansWithin (with_need live commit) image s) (standing-push h.content (commit ∷ []) ∙ ap (λ (s : Standing). after s (commit ∷ [])) same)
    (new.log.end + 1, omega (arith, end), means_now new.log.file with_it new.log.end files_now behind its.rests image there))

pub rests_with : (seen now : Option Files) (live new : Live) (rows : RowMap) (before behind : Files → Type 0) (commit : List Change)
    → new.closed ≡ false → IsWithinRowLimits (committed rows commit) → ∥ Rests (Some live) rows [] seen before ∥₁ → live.log.since ≡ None → MayAppend (standing rows live.log.count) (commit ∷ [])
    → TellsStill (LivesWith live new (commit ∷ []) before behind) seen now → ∥ Rests (Some new) (committed rows commit) [] now behind ∥₁
rests_with seen now live new rows before behind commit unclosed within rests unbroken may lives = ∥∥₁_map rests (λ r whole. each seen now (r unbroken) lives)
  where
    each : (seen now : Option Files) → IfSome seen (λ files. HasRows live rows [] files before) → TellsStill (LivesWith live new (commit ∷ []) before behind) seen now
        → IfSome now (λ files. HasRows new (committed rows commit) [] files behind)
    each None now r lives = subst (λ (f : Option Files). IfSome f (λ files. HasRows new (committed rows commit) [] files behind)) (sym lives) tt
    each (Some files) None r lives = absurd lives
    each (Some files) (Some files_now) h lives =
        let same = content_is live rows files before h in
        let grown : committed rows commit ≡ (standing_of (with_batch h.content (commit ∷ []))).rows =
        ap (λ (r : RowMap). committed r commit) h.rows_are ∙ sym (ap (λ (s : Standing). s.rows) (standing-push h.content (commit ∷ []))) in record {
          content = with_batch h.content (commit ∷ []);
          lives = lives h.content h.lives (subst (λ (s : Standing). MayAppend s (commit ∷ [])) (sym same) may);
          rows_are = grown;
          limits = limits_bare (standing_of (with_batch h.content (commit ∷ []))).rows (subst IsWithinRowLimits grown within);
          closed = λ closed. absurd (true≢false (sym closed ∙ unclosed));
        }

-- a log that is broken claims nothing
pub rests_broken : (new : Live) (rows : RowMap) (staged : List (List Change)) (now : Option Files) (behind : Files → Type 0) (since : ℕ) → new.log.since ≡ Some since → ∥ Rests (Some new) rows staged now behind ∥₁
rests_broken new rows staged now behind since broke = ∣ (λ whole. absurd (some_none since (sym broke ∙ whole))) ∣₁

-- before its redo it rests on any disk
pub rests_unread : (o : Option Live) (rows : RowMap) (staged : List (List Change)) (now : Option Files) (behind : Files → Type 0) → o ≡ None → ∥ Rests o rows staged now behind ∥₁
rests_unread o rows staged now behind none = subst (λ (l : Option Live). ∥ Rests l rows staged now behind ∥₁) (sym none) ∣ tt ∣₁

-- ---- the places of its gates

end_within : (bytes : List ℕ) (content : Content) (end : ℕ) → StandsFor bytes content end → end < length bytes
end_within bytes content end stands = omega (arith, ap length stands.parts, length-append stands.front (0 ∷ stands.free), stands.place)

pub gate_of : (seen : Option Files) (live : Live) (rows : RowMap) (staged : List (List Change)) (images : Files → Type 0) → ∥ Rests (Some live) rows staged seen images ∥₁ → live.log.since ≡ None
    → IfSome seen (λ files. live.log.end < length (file_of files live.log.file))
gate_of None live rows staged images rests unbroken = tt
gate_of (Some files) live rows staged images rests unbroken =
    ∥∥₁_elim rests (hlevel le_prop) (λ r. let h = r unbroken in end_within (file_of files live.log.file) h.content live.log.end h.lives.rests.stands)

abbrev files_there : Option Files → Type 0
files_there None = ⊥
files_there (Some files) = Unit {0}

pub files_none : (files : Files) → Some files ≡ None → ⊥
files_none files is = subst files_there is tt

-- a disk that doesn't tell its files goes on so
pub tells_nothing : (P : Files → Files → Type 0) (seen now : Option Files) → TellsStill P seen now → seen ≡ None → now ≡ None
tells_nothing P None now tells none = tells
tells_nothing P (Some files) now tells none = absurd (files_none files none)

-- a commit with changes needs what its batch does
pub need_is : (commit : List Change) → commit ≢ [] → log.need_of (commit ∷ []) ≡ book.need_of commit
need_is [] some = absurd (some refl)
need_is (change ∷ changes) some = refl

-- a log that is full hasn't failed
abbrev is_full : LogFault → Type 0
is_full (fault.Full need room) = Unit {0}
is_full _ = ⊥

pub full_or_disk : (need room : ℕ) → fault.Full need room ≡ fault.Disk → ⊥
full_or_disk need room is = subst is_full is tt

-- nor has one that is short of memory
abbrev is_short : LogFault → Type 0
is_short fault.NoMemory = Unit {0}
is_short _ = ⊥

pub short_or_disk : fault.NoMemory ≡ fault.Disk → ⊥
short_or_disk is = subst is_short is tt
