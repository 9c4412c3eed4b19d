use Rattle.std.proofs.{Common.{◌≡◌, ◌≢◌, ◌∙◌, ◌==◌, ℕ, List, [], length, true, false, inl, inr, sym, subst, arith}, lemmas.{List.nil_from_length, Grind.common_steps}}
use Rattle.pm_session_exchange.proofs.{Lasts.{says_none, said}, line.Line.say_last.Goals.{then-is_empty-via-then-is_empty, then-is_empty-via-else-is_empty+then-is_killed}}
use Rattle.pm_session_exchange.proofs.line.Line.say_last.Goals as goal

nothing : (words : List ℕ) → (length words == 0) ≡ true → words ≡ []
nothing words is = nil_from_length words (grind (arith, common_steps))

something : (words : List ℕ) → (length words == 0) ≡ false → words ≢ []
something words is none =
    let e : (length {A = ℕ} [] == 0) ≡ false = subst (λ (w : List ℕ). (length w == 0) ≡ false) none is in
    let f : true ≡ false = e in
    absurd cc

pub returns-then-is_empty : goal.returns-then-is_empty
returns-then-is_empty g c = record {
  says = rw (← c.self.view_is) (elim c.then-is_empty.branch [
    | then-is_empty-via-then-is_empty w ↦ says_none c.args.words.now _ _ (inl (nothing c.args.words.now (sym c.is_empty.ensures ∙ w.if-is_empty.true)))
    | then-is_empty-via-else-is_empty+then-is_killed w ↦ says_none c.args.words.now _ _ (inr (sym w.is_killed.ensures ∙ w.if-is_killed.true))
  ]);
  rests = g.met.W.Life.stands_still _;
}

pub returns : goal.returns
returns g c =
    let sends = rw (← c.self-2.view_is) at c.send.ensures.sends in
    let cause = rw (← c.self-2.view_is) at c.send.ensures.cause in
    let kill = rw (← c.self-2.view_is) at c.send.ensures.kill in
    let holds = rw (← c.self-2.view_is) at c.send.ensures.holds in
    let hears = rw (← c.self-2.view_is) at c.send.ensures.hears in
    let rests = rw (← c.self-2.view_is) at c.send.ensures.rests in
    record {
      says = said c.send.result c.args.words.now _ _ _ _ _ (something c.args.words.now (sym c.is_empty.ensures ∙ c.if-is_empty.false)) sends cause kill hears c.listen.ensures.hears holds;
      rests = g.met.W.Life.rests_on _ _ _ rests c.listen.ensures.rests;
    }
