use Rattle.std.proofs.Common.{◌≡◌, ◌∙◌, ◌+◌, List, ℕ, subst}
use Rattle.pm_load.{specs.{Queries.query_at, Replay.IsAnswered}, proofs.Replays.{replay_more, replay_none}}
use Rattle.pm_load.proofs.replay.replay_queries.Goals as goal

pub loop-i-init : goal.loop-i-init
loop-i-init c = replay_none c.args.pid c.args.key _ c.in_ok-replay.ensures.standing c.in_ok-replay.ensures.sent

pub loop-i-preserved : goal.loop-i-preserved
loop-i-preserved c =
    let ran = c.in_ok-run.ensures in
    let text : c.as_str.result.now ≡ query_at (c.loop-i.i + 1) = c.as_str.ensures.value ∙ c.in_ok-text.ensures.text in
    replay_more c.loop-i.i c.args.pid c.args.key _ _ ran.0 c.loop-i.invariant (subst (λ (t : List ℕ). IsAnswered t c.loop-i.replay.standing c.run.new.self.standing ran.0) text ran.1) ran.2
