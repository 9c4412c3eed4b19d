-- What the requests of the console are.
use Rattle.std.specs.{Prelude.{◌≡◌, ℕ, ◌≤◌, List, length}, Str.Parse.{IsNumeral, digits_value}}
use Rattle.pm_serve_requests.specs.declared.Request.{Request}
use Rattle.pm_serve_requests.specs.declared.Request.TheVariants as request
use Rattle.pm_board_acts.specs.Seating as seating

-- a number in one to ten digits
pub record IsNumber (digits : List ℕ) (number : ℕ) : Type 0 where
  pub numeral : IsNumeral 10 digits
  pub few : length digits ≤ 10
  pub number_is : number ≡ digits_value 10 digits

-- what it is to the seating
abbrev pub meant : Request → seating.Request
meant request.Nothing = seating.Nothing
meant (request.Stop how) = seating.Stop how
meant (request.Kill pid) = seating.Kill pid
