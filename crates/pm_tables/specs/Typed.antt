-- What the types of a change's parts are: names and values are UTF-8, and keys fit 64 bits.
use Rattle.std.specs.{Prelude.FitsSigned, Int.w64, Str.IsUtf8}
use Rattle.pm_tables.specs.declared.change.TableChange.{TableChange, TheVariants.{Put, Del, Create, Drop}}

abbrev pub IsTypedChange : TableChange → Type 0
IsTypedChange (Put table key value) = IsUtf8 table × FitsSigned w64 key × IsUtf8 value
IsTypedChange (Del table key) = IsUtf8 table × FitsSigned w64 key
IsTypedChange (Create table) = IsUtf8 table
IsTypedChange (Drop table) = IsUtf8 table
