use Rattle.std.proofs.{Common.{◌≡◌, ◌≤◌, ◌∙◌, ◌-◌, ◌+◌, ℕ, List, ◌++◌, length, take, drop, ap, arith, length-take, length-drop}, Math.Seq.take-append_seam}
use Rattle.pm_outside.specs.declared.link.Got.TheVariants.{Bytes}
use Rattle.pm_query.specs.pm_facts.Lists.{stands_behind}
use Rattle.pm_session_exchange.proofs.Links.{has_read}
use Rattle.pm_session_exchange.proofs.inbox.Inbox.read_from.Goals as goal

take_front : (n : ℕ) (xs ys : List ℕ) → n ≡ length xs → take n (xs ++ ys) ≡ xs
take_front n xs ys is = ap (λ (m : ℕ). take m (xs ++ ys)) is ∙ take-append_seam xs ys

pub returns-in-Bytes-clause-reads : goal.returns-in-Bytes-clause-reads
returns-in-Bytes-clause-reads g c =
    let start = c.room_behind-start.result.0 in
    let end = c.room_behind-start.result.1 in
    let whole = c.deref_mut-2.result.now in
    let fits : c.in-Bytes.count ≤ length c.read-got.new.into = omega (arith, c.in-Bytes.ensures.within.1, c.read-got.auto.into) in
    let within : end ≤ length whole = omega (arith, c.room_behind-start.ensures.room, c.deref_mut.ensures.len, c.deref_mut-2.ensures.len) in
    let room : end + c.in-Bytes.count ≤ c.self.inside.bytes.len =
    omega (arith, c.in-Bytes.ensures.within.1, length-take (length whole - end) (drop end whole), length-drop end whole, within, c.deref_mut-2.ensures.len) in
    let size : c.self.inside.bytes.len ≡ length c.room_behind-start.new.bytes = omega (arith, c.deref_mut.ensures.len, c.room_behind-start.ensures.length) in
    let same : whole ≡ c.room_behind-start.new.bytes = c.deref_mut-2.ensures.value ∙ take_front c.self.inside.bytes.len c.room_behind-start.new.bytes _ size in
    let stood : drop start (take end whole) ≡ c.args.self.now =
    ap (λ (l : List ℕ). drop start (take end l)) same ∙ c.room_behind-start.ensures.kept ∙ ap (λ (l : List ℕ). drop c.self.inside.start (take c.self.inside.end l)) c.deref_mut.ensures.value ∙ c.self.view_is in
    has_read (Bytes c.in-Bytes.count) c.read-got.new.into _ _ _ _ (c.in-Bytes.ensures.within.0, fits) c.in-Bytes.ensures.traffic c.in-Bytes.ensures.number c.in-Bytes.ensures.cause
    (stands_behind start end c.in-Bytes.count c.self.inside.bytes.len whole c.read-got.new.into _ _ c.room_behind-start.ensures.order within fits room ∙ ap (λ (l : List ℕ). l ++ take c.in-Bytes.count c.read-got.new.into) stood)
