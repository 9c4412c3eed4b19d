use Rattle.std.{proofs.Common.{rules, ◌≡◌, ℕ, true, false, sym, ap, ◌∙◌}, specs.{Prelude.nat_eq, List.list_any}}
use Rattle.pm_store_apart.proofs.Others.{is_named}
use Rattle.pm_store_apart.proofs.children.add_other.Goals as goal

pub returns-then-contains-2 : goal.returns-then-contains-2
returns-then-contains-2 c =
    let no : c.contains.result ≡ false = search (rules, c.if-contains.false) in
    let yes : c.contains-2.result ≡ true = search (rules, c.if-contains-2.true) in
    sym (is_named c.args.pid c.args.others.now.items c.args.gone.now false true (sym no ∙ c.contains.ensures.value) (sym yes ∙ c.contains-2.ensures.value ∙ ap (list_any (λ (other : ℕ). nat_eq other c.args.pid)) c.deref.ensures.value))

pub returns : goal.returns
returns c =
    let no : c.contains.result ≡ false = search (rules, c.if-contains.false) in
    let none : c.contains-2.result ≡ false = search (rules, c.if-contains-2.false) in
    c.in_ok-push.ensures.items ∙ sym (is_named c.args.pid c.args.others.now.items c.args.gone.now false false (sym no ∙ c.contains.ensures.value) (sym none ∙ c.contains-2.ensures.value ∙ ap (list_any (λ (other : ℕ). nat_eq other c.args.pid)) c.deref.ensures.value))
