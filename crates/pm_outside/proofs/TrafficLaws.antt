-- The laws of what one read or one write adds to what passed.
use Rattle.std.{proofs.Common.{◌≡◌, ◌∙◌, ℕ, List, [], take, Option, None, Some, ap}, specs.Option.option_map}
use Rattle.pm_outside.{specs.{declared.link.{Got.{Got, TheVariants.{Bytes, NotYet, End, Failed}}, Put.{Put, TheVariants.{Count, NotYet as PutNotYet, Failed as PutFailed}}}, Added.Added, Traffic.{Traffic, after_read, after_write, came_in_of, went_out_of}}, proofs.AddedLaws.added_none}

-- ---- one write

pub wrote_in : (before now : Option Traffic) (put : Put) (from : List ℕ) → now ≡ option_map (λ t. after_write t put from) before → Added [] (came_in_of before) (came_in_of now)
wrote_in None now put from is = ap came_in_of is
wrote_in (Some t) now put from is = ap came_in_of is ∙ added_none (Some t.came_in)

pub wrote_out : (before now : Option Traffic) (count : ℕ) (from : List ℕ) → now ≡ option_map (λ t. after_write t (Count count) from) before → Added (take count from) (went_out_of before) (went_out_of now)
wrote_out None now count from is = ap went_out_of is
wrote_out (Some t) now count from is = ap went_out_of is

pub wrote_none : (before now : Option Traffic) (from : List ℕ) → now ≡ option_map (λ t. after_write t PutFailed from) before → Added [] (went_out_of before) (went_out_of now)
wrote_none None now from is = ap went_out_of is
wrote_none (Some t) now from is = ap went_out_of is ∙ added_none (Some t.went_out)

pub wrote_not_yet : (before now : Option Traffic) (from : List ℕ) → now ≡ option_map (λ t. after_write t PutNotYet from) before → Added [] (went_out_of before) (went_out_of now)
wrote_not_yet None now from is = ap went_out_of is
wrote_not_yet (Some t) now from is = ap went_out_of is ∙ added_none (Some t.went_out)

-- ---- one read

pub got_in : (before now : Option Traffic) (count : ℕ) (into : List ℕ) → now ≡ option_map (λ t. after_read t (Bytes count) into) before → Added (take count into) (came_in_of before) (came_in_of now)
got_in None now count into is = ap came_in_of is
got_in (Some t) now count into is = ap came_in_of is

pub got_out : (before now : Option Traffic) (result : Got) (into : List ℕ) → now ≡ option_map (λ t. after_read t result into) before → Added [] (went_out_of before) (went_out_of now)
got_out None now result into is = ap went_out_of is
got_out (Some t) now (Bytes count) into is = ap went_out_of is ∙ added_none (Some t.went_out)
got_out (Some t) now NotYet into is = ap went_out_of is ∙ added_none (Some t.went_out)
got_out (Some t) now End into is = ap went_out_of is ∙ added_none (Some t.went_out)
got_out (Some t) now Failed into is = ap went_out_of is ∙ added_none (Some t.went_out)

pub got_none : (before now : Option Traffic) (result : Got) (into : List ℕ) → ((t : Traffic) → (after_read t result into).came_in ≡ t.came_in) → now ≡ option_map (λ t. after_read t result into) before → Added [] (came_in_of before) (came_in_of now)
got_none None now result into keeps is = ap came_in_of is
got_none (Some t) now result into keeps is = ap came_in_of is ∙ ap (λ (l : List ℕ). Some l) (keeps t) ∙ added_none (Some t.came_in)
