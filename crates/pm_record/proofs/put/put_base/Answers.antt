use Rattle.std.{proofs.Common.{ℕ, List, ◌∷◌, ◌++◌, [], ap, refl, sym, ◌∙◌}, specs.{List.flat_map, FinMap.{entries, len}}}
use Rattle.pm_record.{specs.Spelling.{header_bytes, row_bytes}, proofs.{SizeLaws.base_parts, Writing.onto}}
use Rattle.pm_record.proofs.put.put_base.Goals as goal

pub returns : goal.returns
returns c =
    let out = c.args.out.now in
    let rows = c.args.rows.now in
    let one : List ℕ = 1 ∷ [] in
    let header = header_bytes c.args.epoch c.args.clean c.args.count (len rows) in
    let all = flat_map row_bytes (entries rows) in
    let begun = onto out one _ header c.push.new.self c.add_header.new.self c.in_ok-push.ensures.ok c.in_ok-add_header.ensures
    (ap (λ (n : ℕ). header_bytes c.args.epoch c.args.clean c.args.count n) c.len.ensures) in
    onto out (one ++ header) all all c.add_header.new.self c.put_rows.new.out begun c.in_ok-put_rows.ensures refl
    ∙ ap (λ (l : List ℕ). out ++ (1 ∷ l)) (sym (base_parts c.args.epoch c.args.clean c.args.count rows))
