-- How the rows of a store stand on its disk.
use Rattle.std.specs.Prelude.{◌≡◌, ℕ, ◌≤◌, true, List, [], length, take, Option, Some, None, IfSome}
use Rattle.pm_record.specs.{pm_disk.Files.Files, pm_rows.{declared.commit.Change.Change, Fold.{RowMap, folded}, Limits.IsWithinRowLimits, Standing.Standing}, StandsFor.{Content, standing_of}}
use Rattle.pm_log.specs.Log.{Lives}
use Rattle.pm_store_apart.specs.declared.{apart.Apart.Apart, live.Live.Live}

-- a clean base, and nothing after it
pub record IsClean (content : Content) : Type 0 where
  pub clean : content.clean ≡ true
  pub bare : content.batches ≡ []

-- The log lives with a content, and the rows are its rows with the staged commits after it, each of which keeps the
-- limits. From a clean checkpoint on the content is clean, and nothing is staged.
pub record HasRows (live : Live) (rows : RowMap) (staged : List (List Change)) (files : Files) (images : Files → Type 0) : Type 0 where
  pub content : Content
  pub lives : Lives live.log content files images
  pub rows_are : rows ≡ folded (standing_of content).rows staged
  pub limits : (n : ℕ) → n ≤ length staged → IsWithinRowLimits (folded (standing_of content).rows (take n staged))
  pub closed : live.closed ≡ true → IsClean content × (staged ≡ [])

-- So it is after a redo, up to a fault of the disk, where the disk tells its files.
abbrev pub Rests : Option Live → RowMap → List (List Change) → Option Files → (Files → Type 0) → Type 0
Rests None rows staged seen images = Unit {0}
Rests (Some live) rows staged seen images = live.log.since ≡ None → IfSome seen (λ files. HasRows live rows staged files images)

-- so it is of a store with this disk
abbrev pub IsAtRest : {D B : Type 0} {g h : _} → D → Apart D B g h → Type 0
IsAtRest {g = g} disk apart = ∥ Rests apart.live apart.rows apart.stage.commits (g.seen disk) (g.images disk (g.ticks disk)) ∥₁

-- and the content is this standing
pub record RestsAt (live : Live) (rows : RowMap) (staged : List (List Change)) (files : Files) (images : Files → Type 0) (standing : Standing) : Type 0 where
  pub has : HasRows live rows staged files images
  pub is : standing_of has.content ≡ standing
