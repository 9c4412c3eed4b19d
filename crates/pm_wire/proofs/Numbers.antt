-- The laws of numbers, under the name that they had.
pub use Rattle.pm_wire.specs.Numbers.{IsBytes, length_int16, length_int32, number_again, number_below, IsBytes-drop, int32_number, number_split}
