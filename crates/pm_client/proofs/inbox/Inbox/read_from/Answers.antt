use Rattle.std.proofs.Common.{◌≡◌, ◌≤◌, ◌∙◌, ◌-◌, ◌+◌, ℕ, List, ◌++◌, length, take, drop, refl, ap, arith, length-take, length-drop}
use Rattle.pm_client.proofs.Reading.{reads_end, reads_failed, reads_nothing, reads_some, stands_still}
use Rattle.pm_wire.specs.pm_facts.Lists.{stands_behind}
use Rattle.pm_client.proofs.inbox.Inbox.read_from.Goals as goal

pub returns-in-Bytes : goal.returns-in-Bytes
returns-in-Bytes g c =
    let start = c.in_ok-start.start in
    let end = c.in_ok-start.end in
    let whole = c.deref_mut.result.now in
    let fits : c.in-Bytes.count ≤ length c.read.new.into = omega (arith, c.in-Bytes.ensures.within.1, c.read.auto.into) in
    let within : end ≤ length whole = omega (arith, c.in_ok-start.ensures.room, ap length c.deref_mut.ensures.value) in
    let room : end + c.in-Bytes.count ≤ c.room_behind.new.bytes.len =
    omega (arith, c.in-Bytes.ensures.within.1, length-take (length whole - end) (drop end whole), length-drop end whole, within, c.deref_mut.ensures.len) in
    let stood : drop start (take end whole) ≡ c.args.self.now = ap (λ (l : List ℕ). drop start (take end l)) c.deref_mut.ensures.value ∙ c.in_ok-start.ensures.kept ∙ c.self.view_is in
    reads_some c.in-Bytes.count c.read.new.into _ _ _ _ c.in-Bytes.ensures.within.0 fits c.in-Bytes.ensures.traffic c.in-Bytes.ensures.cause.later
    (stands_behind start end c.in-Bytes.count c.room_behind.new.bytes.len whole c.read.new.into _ _ c.in_ok-start.ensures.order within fits room ∙ ap (λ (l : List ℕ). l ++ take c.in-Bytes.count c.read.new.into) stood)

pub returns-in-NotYet : goal.returns-in-NotYet
returns-in-NotYet g c =
    let start = c.in_ok-start.start in
    let end = c.in_ok-start.end in
    let whole = c.deref_mut.result.now in
    let within : end ≤ length whole = omega (arith, c.in_ok-start.ensures.room, ap length c.deref_mut.ensures.value) in
    let room : end ≤ c.room_behind.new.bytes.len = omega (arith, within, c.deref_mut.ensures.len) in
    let stood : drop start (take end whole) ≡ c.args.self.now = ap (λ (l : List ℕ). drop start (take end l)) c.deref_mut.ensures.value ∙ c.in_ok-start.ensures.kept ∙ c.self.view_is in
    reads_nothing c.read.new.into _ _ _ _ c.in-NotYet.ensures.traffic c.in-NotYet.ensures.cause.later (stands_still start end c.room_behind.new.bytes.len whole c.read.new.into _ _ within room ∙ stood)

pub returns-in-End : goal.returns-in-End
returns-in-End g c =
    let start = c.in_ok-start.start in
    let end = c.in_ok-start.end in
    let whole = c.deref_mut.result.now in
    let within : end ≤ length whole = omega (arith, c.in_ok-start.ensures.room, ap length c.deref_mut.ensures.value) in
    let room : end ≤ c.room_behind.new.bytes.len = omega (arith, within, c.deref_mut.ensures.len) in
    let stood : drop start (take end whole) ≡ c.args.self.now = ap (λ (l : List ℕ). drop start (take end l)) c.deref_mut.ensures.value ∙ c.in_ok-start.ensures.kept ∙ c.self.view_is in
    reads_end c.read.new.into _ _ _ _ c.in-End.ensures.traffic c.in-End.ensures.cause.later (stands_still start end c.room_behind.new.bytes.len whole c.read.new.into _ _ within room ∙ stood)

pub returns-in-Failed : goal.returns-in-Failed
returns-in-Failed g c =
    let start = c.in_ok-start.start in
    let end = c.in_ok-start.end in
    let whole = c.deref_mut.result.now in
    let within : end ≤ length whole = omega (arith, c.in_ok-start.ensures.room, ap length c.deref_mut.ensures.value) in
    let room : end ≤ c.room_behind.new.bytes.len = omega (arith, within, c.deref_mut.ensures.len) in
    let stood : drop start (take end whole) ≡ c.args.self.now = ap (λ (l : List ℕ). drop start (take end l)) c.deref_mut.ensures.value ∙ c.in_ok-start.ensures.kept ∙ c.self.view_is in
    reads_failed c.read.new.into _ _ _ _ c.in-Failed.ensures.traffic c.in-Failed.ensures.cause.later (c.in-Failed.ensures.cause.rose refl) (stands_still start end c.room_behind.new.bytes.len whole c.read.new.into _ _ within room ∙ stood)
