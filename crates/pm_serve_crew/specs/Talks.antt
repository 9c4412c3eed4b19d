-- The connections of a server as their clients saw them, by the runs of its children.
use Rattle.std.specs.{Prelude.{◌≡◌, ◌<◌, ℕ, List, [], ◌∷◌}, List.{flat_map, range_with_len}}
use Rattle.pm_board_acts.specs.{pm_admit.declared.Cac.Cac, pm_keys.CancelKey.cancel_key, pm_worker.{declared.mail.{LinkTold.LinkTold, MailTold.MailTold}, Mails.traffic_in, Runs.Run}}
use Rattle.pm_session_answers.specs.{pm_session.Session.status_of, Replies.Talk}
use Rattle.pm_board_acts.specs.pm_worker.declared.mail.MailTold.TheVariants as mail

-- A run that served a connection so decided, as its client saw it: under the key of its pid, with the status of its ending, and with
-- what passed on the link that came back.
pub record IsTalkOf (seed : List ℕ) (decision : Cac) (run : Run) (talk : Talk) : Type 0 where
  pub pid : talk.pid ≡ run.child.offer.pid
  -- pid 0 has no key
  pub key : 0 < talk.pid → talk.key ≡ cancel_key seed talk.pid
  pub decision_is : talk.decision ≡ decision
  pub status : run.child.status ≡ status_of talk.ending
  pub back : LinkTold
  pub back_is : run.child.back ≡ mail.Served back
  pub link : talk.link ≡ traffic_in back

-- the run served a connection, which is the first of these; or it is none
abbrev pub IsOrNot : List ℕ → MailTold → Run → List Talk → (List Talk → Type 0) → Type 0
IsOrNot seed (mail.Serve link decision) run talks Rest =
    (talk : Talk) × (rest : List Talk) × (talks ≡ talk ∷ rest) × IsTalkOf seed decision run talk × Rest rest
IsOrNot seed _ run talks Rest = Rest talks

-- those of these runs, in order
abbrev pub AreTalksOf : List ℕ → List Run → List Talk → Type 0
AreTalksOf seed [] talks = talks ≡ []
AreTalksOf seed (run ∷ runs) talks = IsOrNot seed run.child.offer.given run talks (AreTalksOf seed runs)

-- the runs of so many slots, slot by slot
abbrev pub runs_of : ℕ → (ℕ → List Run) → List Run
runs_of count runs = flat_map runs (range_with_len 0 count)
