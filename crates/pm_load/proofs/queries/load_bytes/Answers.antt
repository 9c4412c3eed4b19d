use Rattle.std.{proofs.{Common.{◌≡◌, ◌∙◌, ◌+◌, List, ℕ, [], ◌∷◌, ◌++◌, length, sym, ap, arith, append_assoc, codes}, lemmas.List.{append-nil, Concat.flat_map-append}}, specs.List.flat_map}
use Rattle.pm_wire_front.specs.Requests.{query, start_packet}
use Rattle.pm_load.{specs.Queries.{queries, query_at}, proofs.Replays.{no_queries, queries_more}}
use Rattle.pm_load.proofs.queries.load_bytes.Goals as goal

asked_none : (start : List ℕ) → start ≡ start ++ flat_map query (queries 0)
asked_none start = sym (append-nil start) ∙ ap (λ (qs : List (List ℕ)). start ++ flat_map query qs) (sym no_queries)

asked_more : (start : List ℕ) (n : ℕ) → (start ++ flat_map query (queries n)) ++ query (query_at (n + 1)) ≡ start ++ flat_map query (queries (n + 1))
asked_more start n =
    let behind : flat_map query (queries (n + 1)) ≡ flat_map query (queries n) ++ query (query_at (n + 1)) =
    ap (λ (qs : List (List ℕ)). flat_map query qs) (queries_more n) ∙ flat_map-append query (queries n) (query_at (n + 1) ∷ []) ∙ ap (λ (l : List ℕ). flat_map query (queries n) ++ l) (append-nil (query (query_at (n + 1)))) in
    append_assoc start (flat_map query (queries n)) (query (query_at (n + 1))) ∙ ap (λ (l : List ℕ). start ++ l) (sym behind)

pub loop-i-init : goal.loop-i-init
loop-i-init c = c.in_ok-put_start.ensures ∙ ap (λ (l : List ℕ). l ++ start_packet (codes "ann")) c.new-bytes.ensures.items ∙ asked_none (start_packet (codes "ann"))

pub put_query-requires : goal.put_query-requires
put_query-requires c = omega (arith, c.in_ok-query_at.ensures.short, ap length c.as_str.ensures.value)

pub loop-i-preserved : goal.loop-i-preserved
loop-i-preserved c =
    c.in_ok-put_query.ensures ∙ ap (λ (l : List ℕ). l ++ query c.as_str.result.now) c.loop-i.invariant ∙ ap (λ (t : List ℕ). (start_packet (codes "ann") ++ flat_map query (queries c.loop-i.i)) ++ query t) (c.as_str.ensures.value ∙ c.in_ok-query_at.ensures.text)
    ∙ asked_more (start_packet (codes "ann")) c.loop-i.i
