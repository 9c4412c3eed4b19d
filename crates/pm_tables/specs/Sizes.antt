-- How many rows a database has, how large it is, and how much it weighs in a log file.
use Rattle.std.specs.{Prelude.{ℕ, ◌+◌, cond, List, length, codes, sum_by}, Str.bytes_eq, FinMap.{entries, len}}
use Rattle.pm_rows.specs.{Fold.RowMap, Size.size_of}
use Rattle.pm_tables.specs.{declared.change.TableChange.{TableChange, TheVariants.{Put, Del, Create, Drop}}, Tables.TableMap}

-- a table with its name
abbrev pub NamedTable : Type 0
NamedTable = List ℕ × RowMap

-- the table that each database has from the beginning
abbrev pub kv : List ℕ
kv = codes "kv"

-- a name takes five bytes more than it has, but that of `kv` takes none
abbrev pub name_size : List ℕ → ℕ
name_size name = cond (bytes_eq name kv) 0 (5 + length name)

abbrev pub table_rows : NamedTable → ℕ
table_rows table = len table.1

abbrev pub table_size : NamedTable → ℕ
table_size table = size_of table.1 + name_size table.0

-- the number of the rows of all tables
abbrev pub rows_of : TableMap → ℕ
rows_of tables = sum_by table_rows (entries tables)

-- the size of all tables, in bytes
abbrev pub size_of_tables : TableMap → ℕ
size_of_tables tables = sum_by table_size (entries tables)

-- ---- in a log file

-- a table weighs two bytes, those of its name, and its rows
abbrev pub table_weight : NamedTable → ℕ
table_weight table = 2 + length table.0 + size_of table.1

abbrev pub weight : TableMap → ℕ
weight tables = sum_by table_weight (entries tables)

-- a change: its tag, the length of the name and the name, its key, and for a put the length of the value and the value
abbrev pub change_length : TableChange → ℕ
change_length (Put table key value) = 1 + 1 + length table + 8 + 4 + length value
change_length (Del table key) = 1 + 1 + length table + 8
change_length (Create table) = 1 + 1 + length table
change_length (Drop table) = 1 + 1 + length table
