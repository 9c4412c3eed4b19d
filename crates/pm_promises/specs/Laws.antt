-- What the promises don't let through, and what they do: a law of `laws.rt`.
use Rattle.std.specs.Prelude.{ℕ, ◌<◌, List, [], ◌∷◌}
use Rattle.pm_session_answers.specs.{pm_query.{declared.item.Item.Item, History.History}, pm_session_exchange.Sent.Ran, Replies.AreRight}

-- no reply is right that would show more than is acknowledged, or less than the session has seen
abbrev pub NoneBeyond : Type 0
NoneBeyond = (history : History) (seen : ℕ) (text : List ℕ) (reply : List Item) → history.acked < seen → ¬ (AreRight history seen (text ∷ []) (Ran reply ∷ []))
