use Rattle.std.{proofs.{Common.{◌≡◌, ℕ, ℤ, ◌+◌, ◌-◌, List, [], ◌∷◌, ◌++◌, min, Ok, w64, refl, ap, subst, sym, ◌∙◌, to_z, of_z}, lemmas.{Int.to_z-of_z, Result.err_from_is_err_and}}, specs.FinMap.empty}
use Rattle.pm_rows.specs.Fold.{RowMap, put_pair, rows_of_pairs}
use Rattle.pm_record.{specs.{Base.{place, row_at, row_step, added}, Reading.{Read, ◌>>=◌, Fails}, Repeated.{stepped, through_at}}, proofs.Loops.{fails_behind, fold_more, through_end, through_on}}
use Rattle.pm_record.proofs.base.read_rows.Goals as goal

pub loop-i-preserved : goal.loop-i-preserved
loop-i-preserved c =
    let row : ℤ × List ℕ = (c.in_ok-key.key, c.in_ok-key.value) in
    let listed : List (ℤ × List ℕ) = c.loop-i.pairs.items in
    let same : to_z w64 (of_z w64 c.in_ok-key.key) ≡ c.in_ok-key.key = to_z-of_z w64 c.in_ok-key.key c.in_ok-key.ensures.fits in
    let next : c.saturating_add-from.result ≡ min (place row.0 + 1) 18446744073709551615 =
    c.saturating_add-from.ensures ∙ ap (λ p. min (p + 1) 18446744073709551615) (c.place.ensures ∙ ap place same) in
    let rows : rows_of_pairs c.push.new.self.items ≡ put_pair (rows_of_pairs listed) row =
    ap rows_of_pairs (c.in_ok-push.ensures.items ∙ ap (λ k. listed ++ (k, row.1) ∷ []) same) ∙ fold_more put_pair empty listed row in
    through_on row_step c.in_ok-count.count c.loop-i.i (c.loop-i.from, rows_of_pairs listed) c.loop-i.rest.now _ c.loop-i.invariant c.loop-i-test.true
    (c.saturating_add-from.result, rows_of_pairs c.push.new.self.items) c.in_ok-key.after.now _ refl
    (ap (stepped added (c.loop-i.from, rows_of_pairs listed)) c.in_ok-key.ensures.read ∙ λ i. Ok ((sym next i, sym rows i), c.in_ok-key.after.now))

abbrev rows_behind : Read ℕ → Read RowMap
rows_behind count = count >>= λ n. through_at row_step n.0 (0, empty) n.1 >>= λ rows. Ok (rows.0.1, rows.1)

pub returns-in_err-key : goal.returns-in_err-key
returns-in_err-key c =
    let p = err_from_is_err_and c.from_residual-in_err-key.result c.from_residual-in_err-key.ensures.1 in
    let fault = c.in_err-key.field-0.0 in
    let state : ℕ × RowMap = (c.loop-i.from, rows_of_pairs c.loop-i.pairs.items) in
    let left : ℕ = c.in_ok-count.count - 1 - c.loop-i.i in
    let row : Fails fault (row_step left state c.loop-i.rest.now) = fails_behind fault (row_at left state.0 c.loop-i.rest.now) _ c.in_err-key.ensures.read in
    let rows = through_end row_step c.in_ok-count.count c.loop-i.i state c.loop-i.rest.now _ c.loop-i.invariant c.loop-i-test.true fault row in
    let whole = fails_behind fault (through_at row_step c.in_ok-count.count (0, empty) c.in_ok-count.behind.now) (λ rows. Ok (rows.0.1, rows.1)) rows in
    rw (p.1, p.2) (subst (Fails fault) (sym (ap rows_behind c.in_ok-count.ensures.read)) whole)
