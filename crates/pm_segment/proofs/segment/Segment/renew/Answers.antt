use Rattle.std.{proofs.{Common.{◌≡◌, ◌∙◌, List, [], Result, Ok, Err}, lemmas.Result.{on_err_weaker, on_ok_weaker}}, specs.Prelude.{OnErr, OnOk}}
use Rattle.pm_segment.proofs.segment.Segment.renew.Goals as goal

pub renew-requires-clause-home : goal.renew-requires-clause-home
renew-requires-clause-home g c = c.args.self.now.home

pub returns-clause-renews : goal.returns-clause-renews
returns-clause-renews g c = on_ok_weaker c.renew.result (λ is. (is.0, is.1, is.2 c.args.self.now.commits c.args.self.now.disk)) c.renew.ensures.renews

pub returns-clause-refused : goal.returns-clause-refused
returns-clause-refused g c = on_err_weaker c.renew.result (λ is. is c.args.self.now.commits c.args.self.now.disk) c.renew.ensures.refused

unstaged_now : {T E X : Type 0} (result : Result T E) (before now : List X) → OnOk result (now ≡ []) → OnErr result (now ≡ before) → before ≡ [] → now ≡ []
unstaged_now (Ok done) before now ok err none = ok
unstaged_now (Err refusal) before now ok err none = err ∙ none

pub invariant_of-self : goal.invariant_of-self
invariant_of-self g c = record {
  rests = c.renew.ensures.rests c.args.self.now.disk c.args.self.now.rests;
  home = c.renew.ensures.home;
  at_once = λ at. unstaged_now c.renew.result c.args.self.now.apart.stage.commits c.renew.new.self.stage.commits c.renew.ensures.unstaged
      (on_err_weaker c.renew.result (λ is. (is c.args.self.now.commits c.args.self.now.disk).staged) c.renew.ensures.refused) (c.args.self.now.at_once at);
}
