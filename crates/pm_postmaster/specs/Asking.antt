-- A line of the console, and what is done of it.
use Rattle.std.specs.Prelude.{◌≡◌, ℕ, ◌++◌, ◌∷◌, List, [], Option, Result, option_map}
use Rattle.pm_serve_requests.specs.{Requests.IsNumber, pm_board_acts.{Chained.AsksFor, Seating.Request}}
use Rattle.pm_server.specs.declared.end.ServerEnd.{ServerEnd}
use Rattle.pm_postmaster.specs.{Serving.{Goes, IsAlive}, View.View}

-- a console that tells has given this line after these
abbrev pub GivesLine : List ℕ → (before now : Option (List (List ℕ))) → Type 0
GivesLine line before now = now ≡ option_map (λ lines. lines ++ line ∷ []) before

module _ {D C : Type 0} (gives : C → ℕ → Type 0) where
  -- a line was given that asks for this, and nothing was done of it yet
  pub record HasRead (asks : Request) (v : View D C) : Type 0 where
    pub line : List ℕ
    pub lines : Option (List (List ℕ))
    pub given : GivesLine line lines v.lines
    pub asked : AsksFor IsNumber line asks
    pub alive : IsAlive gives (record v { lines = lines })

  -- what a line asks for was done, whichever line it was
  abbrev pub Heeds : {T : Type 0} → Request → Result T ServerEnd → View D C → View D C → Type 0
  Heeds asks result before now =
      (line : List ℕ) (lines : Option (List (List ℕ))) → GivesLine line lines before.lines → AsksFor IsNumber line asks
      → Goes gives result (record before { lines = lines }) now
