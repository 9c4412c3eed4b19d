-- The number of a port as a word.
use Rattle.std.specs.{Prelude.{◌≡◌, ◌≤◌, ℕ, List, length}, Str.Parse.{IsNumeral, digits_value}}

-- from 1 to 65535, in one to ten digits
pub record IsPort (number : ℕ) (word : List ℕ) : Type 0 where
  pub digits : IsNumeral 10 word
  pub few : length word ≤ 10
  pub number_is : number ≡ digits_value 10 word
  pub from_one : 1 ≤ number
  pub to_most : number ≤ 65535
