-- What one client alone is answered to its queries, by their meaning.
use Rattle.std.specs.{Prelude.{◌≡◌, ℕ, ◌+◌, List, [], ◌∷◌, ◌++◌, refl}, List.flat_map, FinMap.empty, Coded.{Coded, code_by, coded×, coded_ℕ, coded_list}}
use Rattle.pm_query.specs.{pm_rows.{Fold.{RowMap, committed}, Pending.row_map_code, Standing.Standing, declared.commit.Change.Change}, pm_sql.{Statements.IsQueryText, declared.stmt.Stmt.Stmt}, Answer.{commit_of, items_of}}
use Rattle.pm_wire.specs.Backend.{BackMessage, Ready}
use Rattle.pm_session_exchange.specs.Sent.{bytes_of, greeting, item_messages}
use Rattle.pm_load.specs.Queries.{queries}

-- no row, and no commit
abbrev pub new_standing : Standing
new_standing = record { rows = empty; count = 0 }

-- after these changes; none are no commit
abbrev pub behind : Standing → List Change → Standing
behind standing [] = standing
behind standing (change ∷ changes) = record { rows = committed standing.rows (change ∷ changes); count = standing.count + 1 }

-- what a script is answered on these rows
abbrev pub answer_messages : Standing → List Stmt → List BackMessage
answer_messages standing script = flat_map item_messages (items_of standing.rows script) ++ Ready ∷ []

-- The text spells a script; these messages are its answer, and this is left after it.
pub record IsAnswered (text : List ℕ) (before now : Standing) (messages : List BackMessage) : Type 0 where
  pub script : List Stmt
  pub query : IsQueryText text script
  pub answer : messages ≡ answer_messages before script
  pub left : now ≡ behind before (commit_of before.rows script)

-- So does each of these texts, one after the other.
abbrev pub AreAnswered : List (List ℕ) → (before now : Standing) → List BackMessage → Type 0
AreAnswered [] before now messages = (now ≡ before) × (messages ≡ [])
AreAnswered (text ∷ texts) before now messages =
    (between : Standing) × (first : List BackMessage) × (others : List BackMessage) × IsAnswered text before between first × AreAnswered texts between now others
    × (messages ≡ first ++ others)

-- how far a client has come: what stands, and what it was sent
pub record Replayed : Type 0 where
  pub standing : Standing
  pub sent : List ℕ

-- it is stored as rows, count and bytes
abbrev pub replayed_code : Coded Replayed
replayed_code =
    code_by (RowMap × (ℕ × List ℕ)) (coded× row_map_code (coded× coded_ℕ (coded_list coded_ℕ))) (λ r. (r.standing.rows, (r.standing.count, r.sent)))
    (λ p. record { standing = record { rows = p.0; count = p.1.0 }; sent = p.1.1 }) (λ _. refl)

-- After the first queries of a workload, on a new cluster: it was sent a greeting and the answers, and this stands.
pub record IsReplay (number pid key : ℕ) (replayed : Replayed) : Type 0 where
  pub messages : List BackMessage
  pub answered : AreAnswered (queries number) new_standing replayed.standing messages
  pub sent : replayed.sent ≡ bytes_of (greeting pid key) ++ bytes_of messages
