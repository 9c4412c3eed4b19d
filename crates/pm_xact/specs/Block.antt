-- A transaction block: its statements so far, what it may do, and whether it has failed.
use Rattle.std.specs.Prelude.{◌≡◌, ◌≤◌, ◌<◌, ℕ, Bool, true, false, List, [], ◌++◌, length, All}
use Rattle.pm_sql.specs.{declared.stmt.Stmt.Stmt, Limits.is_writing}
use Rattle.pm_xact.specs.declared.{access.Access.{Access, TheVariants.{ReadWrite, ReadOnly}}, block.BlockNo.{BlockNo, TheVariants.{Failed, Many, NoMemory}}}

-- as many statements as may write in a script, so that a block's script keeps every limit of a script
abbrev pub max_block_statements : ℕ
max_block_statements = 1000

pub record BlockView : Type 0 where
  pub access : Access
  pub script : List Stmt
  pub failed : Bool

-- a block that has no statement yet
abbrev pub opened : Access → BlockView
opened access = record { access = access; script = []; failed = false }

abbrev pub with_script : List Stmt → BlockView → BlockView
with_script more block = record block { script = block.script ++ more }

abbrev pub with_failure : BlockView → BlockView
with_failure block = record block { failed = true }

-- more statements fit: the block goes on, and they are few enough
pub record Fits (more : List Stmt) (block : BlockView) : Type 0 where
  pub goes_on : block.failed ≡ false
  pub few : length (block.script ++ more) ≤ max_block_statements

-- why they are refused: a failed block before too many statements, and want of memory where they fit
abbrev pub IsWhyRefused : BlockNo → List Stmt → BlockView → Type 0
IsWhyRefused Failed more block = block.failed ≡ true
IsWhyRefused Many more block = (block.failed ≡ false) × (max_block_statements < length (block.script ++ more))
IsWhyRefused NoMemory more block = Fits more block

-- a block that only reads allows no statement that writes
abbrev pub Allows : Access → List Stmt → Type 0
Allows ReadWrite stmts = Unit {0}
Allows ReadOnly stmts = All (λ stmt. is_writing stmt ≡ false) stmts
