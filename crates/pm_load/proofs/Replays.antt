-- Queries run one after another.
use Rattle.std.{proofs.{Common.{◌≡◌, ◌∙◌, ℕ, ◌+◌, ◌==◌, Bool, true, false, length, arith, List, [], ◌∷◌, ◌++◌, refl, sym, ap, subst, append_assoc, add-one}, lemmas.{Grind.common_steps, List.{append-nil, nil_from_length}}}, specs.List.flat_map}
use Rattle.pm_query.specs.{pm_rows.{Fold.{RowMap, committed}, Standing.Standing, declared.commit.Change.Change}, pm_sql.{Statements.IsQueryText, declared.stmt.Stmt.Stmt}, Answer.{commit_of, items_of}, declared.item.Item.Item}
use Rattle.pm_wire.specs.Backend.{BackMessage, Ready}
use Rattle.pm_session_exchange.{specs.Sent.{bytes_of, greeting, item_messages}, proofs.SentLaws.bytes_of-append}
use Rattle.pm_load.specs.{Queries.{queries, query_at}, Replay.{AreAnswered, IsAnswered, IsReplay, Replayed, answer_messages, behind, new_standing}}

pub said_more : (old first now : List ℕ) (ms : List BackMessage) (m : BackMessage) → first ≡ old ++ bytes_of ms → now ≡ first ++ bytes_of (m ∷ []) → now ≡ old ++ bytes_of (ms ++ m ∷ [])
said_more old first now ms m so_far one =
    one ∙ ap (λ (l : List ℕ). l ++ bytes_of (m ∷ [])) so_far ∙ append_assoc old (bytes_of ms) (bytes_of (m ∷ [])) ∙ ap (λ (l : List ℕ). old ++ l) (sym (bytes_of-append ms (m ∷ [])))

pub said_both : (old first now : List ℕ) (ms ns : List BackMessage) → first ≡ old ++ bytes_of ms → now ≡ first ++ bytes_of ns → now ≡ old ++ bytes_of (ms ++ ns)
said_both old first now ms ns so_far more =
    more ∙ ap (λ (l : List ℕ). l ++ bytes_of ns) so_far ∙ append_assoc old (bytes_of ms) (bytes_of ns) ∙ ap (λ (l : List ℕ). old ++ l) (sym (bytes_of-append ms ns))

pub no_queries : queries 0 ≡ []
unfolding queries
no_queries = refl

pub queries_more : (n : ℕ) → queries (n + 1) ≡ queries n ++ query_at (n + 1) ∷ []
unfolding queries
queries_more n = ap queries (add-one n)

answered_more : (texts : List (List ℕ)) (text : List ℕ) (a b c : Standing) (ms ns : List BackMessage) → AreAnswered texts a b ms → IsAnswered text b c ns → AreAnswered (texts ++ text ∷ []) a c (ms ++ ns)
answered_more [] text a b c ms ns all one =
    (c, ns, [], subst (λ (s : Standing). IsAnswered text s c ns) all.0 one, (refl, refl), ap (λ (l : List BackMessage). l ++ ns) all.1 ∙ sym (append-nil ns))
answered_more (first ∷ texts) text a b c ms ns all one =
    (all.0, all.1, all.2 ++ ns, all.3, answered_more texts text all.0 b c all.2 ns all.4 one, ap (λ (l : List BackMessage). l ++ ns) all.5 ∙ append_assoc all.1 all.2 ns)

pub replay_none : (pid key : ℕ) (replayed : Replayed) → replayed.standing ≡ new_standing → replayed.sent ≡ bytes_of (greeting pid key) → IsReplay 0 pid key replayed
unfolding queries bytes_of
replay_none pid key replayed none sent = record { messages = []; answered = (none, refl); sent = sent ∙ sym (append-nil (bytes_of (greeting pid key))) }

pub replay_more : (n pid key : ℕ) (before now : Replayed) (messages : List BackMessage) → IsReplay n pid key before → IsAnswered (query_at (n + 1)) before.standing now.standing messages → now.sent ≡ before.sent ++ bytes_of messages → IsReplay (n + 1) pid key now
replay_more n pid key before now messages so_far one sent = record {
  messages = so_far.messages ++ messages;
  answered = subst (λ (texts : List (List ℕ)). AreAnswered texts new_standing now.standing (so_far.messages ++ messages)) (sym (queries_more n))
      (answered_more (queries n) (query_at (n + 1)) new_standing before.standing now.standing so_far.messages messages so_far.answered one);
  sent = sent ∙ ap (λ (l : List ℕ). l ++ bytes_of messages) so_far.sent ∙ append_assoc (bytes_of (greeting pid key)) (bytes_of so_far.messages) (bytes_of messages)
      ∙ ap (λ (l : List ℕ). bytes_of (greeting pid key) ++ l) (sym (bytes_of-append so_far.messages messages));
}

-- ---- one query

nothing : (xs : List Change) → (length xs == 0) ≡ true → xs ≡ []
nothing xs is = nil_from_length xs (grind (arith, common_steps))

pub stays : (standing : Standing) (commit changes : List Change) (empty : Bool) → empty ≡ true → empty ≡ (length changes == 0) → changes ≡ commit → standing ≡ behind standing commit
stays standing commit changes empty is by same = sym (ap (behind standing) (sym same ∙ nothing changes (sym by ∙ is)))

moved : (standing : Standing) (commit : List Change) → (length commit == 0) ≡ false → record { rows = committed standing.rows commit; count = standing.count + 1 } ≡ behind standing commit
moved standing [] none = absurd cc
moved standing (change ∷ changes) some = refl

pub goes_on : (standing now : Standing) (commit changes : List Change) (empty : Bool) → empty ≡ false → empty ≡ (length changes == 0) → changes ≡ commit → now.rows ≡ committed standing.rows commit → now.count ≡ standing.count + 1 → now ≡ behind standing commit
goes_on standing now commit changes empty is by same rows count =
    ap (λ (r : RowMap). record { rows = r; count = now.count }) rows ∙ ap (λ (n : ℕ). record { rows = committed standing.rows commit; count = n }) count
    ∙ moved standing commit (ap (λ (cs : List Change). length cs == 0) (sym same) ∙ sym by ∙ is)

pub ran : (text : List ℕ) (before now : Standing) (script : List Stmt) (reply : List Item) (commit : List Change) (old between new : List ℕ) → IsQueryText text script → reply ≡ items_of before.rows script → commit ≡ commit_of before.rows script
    → between ≡ old ++ bytes_of (flat_map item_messages reply) → new ≡ between ++ bytes_of (Ready ∷ []) → now ≡ behind before commit → (messages : List BackMessage) × IsAnswered text before now messages × (new ≡ old ++ bytes_of messages)
ran text before now script reply commit old between new query reply_is commit_is items ready left = (
  answer_messages before script,
  record { script = script; query = query; answer = refl; left = left ∙ ap (behind before) commit_is },
  said_more old between new (flat_map item_messages (items_of before.rows script)) Ready (items ∙ ap (λ (r : List Item). old ++ bytes_of (flat_map item_messages r)) reply_is) ready,
)
