-- The rows of a content can be spelled, as those of its base and its commits can, and keep the limits.
use Rattle.std.{proofs.{Common.{ℕ, ℤ, Bool, List, [], ◌∷◌, length, sym, subst, arith, Less, Equal, Greater}, lemmas.List.{take_all, Elements.{All-nil, All-cons, All-head, All-tail, All-append, All-same, All-filter}}}, specs.{Prelude.All, List.flat_map, Ordering.int_cmp, Cmp.int_cmp_total, FinMap.{entries, put, entries-insert, Entries.by_order}}}
use Rattle.pm_record.{specs.{pm_rows.{declared.commit.Change.{Change, TheVariants.{Put, Del}}, Fold.{RowMap, changed, committed, folded}, Limits.IsWithinRowLimits, Batch.{IsBatch, IsChange, IsCommit}}, pm_disk.Files.{Files, file_of}, Found.IsFound, declared.found.Found.Found, StandsFor.{Content, IsContent, IsRow, StandsFor, commits_of, standing_of}}, proofs.pm_rows.RowLaws.entries-remove}
use Rattle.pm_redo.specs.Found.{Finds}

-- ---- one change

put_kept : (key : ℤ) (value : List ℕ) (es : List (ℤ × List ℕ)) → IsRow (key, value) → All IsRow es → All IsRow (put int_cmp key value es)
put_kept key value [] is all = All-cons IsRow (key, value) [] is all
put_kept key value (e ∷ es) is all =
    let first = All-head IsRow e es all in
    let rest = All-tail IsRow e es all in
    elim (int_cmp key e.0) as (λ r. All IsRow (by_order r ((key, value) ∷ e ∷ es) ((e.0, value) ∷ es) (e ∷ put int_cmp key value es))) [
      | Less ↦ All-cons IsRow (key, value) (e ∷ es) is all
      | Equal ↦ All-cons IsRow (e.0, value) es (first.0, is.1, is.2) rest
      | Greater ↦ All-cons IsRow e (put int_cmp key value es) first (put_kept key value es is rest)
    ]

-- ---- commits

changed_kept : (rows : RowMap) (change : Change) → IsChange change → All IsRow (entries rows) → All IsRow (entries (changed rows change))
changed_kept rows (Put key value) is all = All-same IsRow _ _ (entries-insert int_cmp_total rows key value) (put_kept key value (entries rows) is all)
changed_kept rows (Del key) is all = All-same IsRow _ _ (entries-remove rows key) (All-filter _ IsRow (entries rows) all)

committed_kept : (rows : RowMap) (changes : List Change) → All IsChange changes → All IsRow (entries rows) → All IsRow (entries (committed rows changes))
committed_kept rows [] is all = all
committed_kept rows (change ∷ changes) is all =
    committed_kept (changed rows change) changes (All-tail IsChange change changes is) (changed_kept rows change (All-head IsChange change changes is) all)

folded_kept : (rows : RowMap) (commits : List (List Change)) → All IsCommit commits → All IsRow (entries rows) → All IsRow (entries (folded rows commits))
folded_kept rows [] is all = all
folded_kept rows (commit ∷ commits) is all =
    folded_kept (committed rows commit) commits (All-tail IsCommit commit commits is) (committed_kept rows commit (All-head IsCommit commit commits is).changes all)

all_commits : (batches : List (List (List Change))) → All IsBatch batches → All IsCommit (flat_map (λ batch. batch) batches)
all_commits [] all = All-nil IsCommit
all_commits (batch ∷ batches) all =
    All-append IsCommit batch (flat_map (λ b. b) batches) (All-head IsBatch batch batches all).commits (all_commits batches (All-tail IsBatch batch batches all))

-- ---- a content

rows_kept : (content : Content) → IsContent content → All IsRow (entries (standing_of content).rows)
rows_kept content is = folded_kept content.base_rows (commits_of content) (all_commits content.batches is.batches) is.rows

limits_kept : (content : Content) → IsContent content → IsWithinRowLimits (standing_of content).rows
limits_kept content is =
    subst (λ (l : List (List Change)). IsWithinRowLimits (folded content.base_rows l)) (take_all (length (commits_of content)) (commits_of content) (omega arith))
    (is.follows.limits (length (commits_of content)) (omega arith))

-- ---- what was found

pub found_rows : (found : Found) (both : Bool) (files : Files) → Finds found both files → All IsRow (entries found.rows)
found_rows found both files finds = subst (λ (rows : RowMap). All IsRow (entries rows)) (sym finds.is.rows) (rows_kept finds.content finds.pair.stands.limits)

pub found_limits : (found : Found) (both : Bool) (files : Files) → Finds found both files → IsWithinRowLimits found.rows
found_limits found both files finds = subst IsWithinRowLimits (sym finds.is.rows) (limits_kept finds.content finds.pair.stands.limits)

-- it stands in the bytes of a file
pub found_stands : (found : Found) (both : Bool) (files : Files) → Finds found both files → (bytes : List ℕ) × (content : Content) × IsFound found content × StandsFor bytes content found.end
found_stands found both files finds = (file_of files found.file, finds.content, finds.is, finds.pair.stands)
