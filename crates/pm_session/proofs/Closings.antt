-- How a session comes to its end: what is said last, and as what the child exits.
use Rattle.std.proofs.{Common.{◌≡◌, ◌≢◌, ◌⊎◌, inl, inr, ℕ, ◌+◌, ◌<◌, Bool, true, false, cond, IsTrue, List, [], ◌∷◌, ◌++◌, length, map, take, get_or, Option, None, Some, IfSome, refl, sym, ◌∙◌, ap, subst, append_assoc}, lemmas.List.{map-append, take_more}}
use Rattle.pm_supervisor.specs.{declared.Reason.Reason, pm_admit.declared.Cac.Cac}
use Rattle.pm_session_exchange.{specs.{pm_outside.Traffic.Traffic, declared.ending.{Cause.{Cause, TheVariants.{Terminated, Cancelling, LinkEnded, LinkFailed, TimedOut, PacketRefused, MessageRefused, DecisionRefused, GateRefused, ShortOfMemory, Panicked, ToldToTerminate, ToldToQuit, Killed, Overtaken}}, Stage.Stage}, Exchange.{LinkView, HasFailed, CutsOff, IsSound, IsLeftFor}, Attention.{ends_by, ends_of}, Sent.{bytes_of, last_of}, Ends.status_by, Moments.{Moment, ShowsCause, outside}, Last.{SaysLast, IsLastCause}}, proofs.{MomentLaws.told_cause, SentLaws.{bytes_of-append, bytes_of-none}}}
use Rattle.pm_session_exchange.specs.pm_exit.declared.child.Status.TheVariants as statuses
use Rattle.pm_startup.specs.declared.packet.StartFault.TheVariants as packets
use Rattle.pm_child_life.{specs.{Life.{Told, Kill, Quit, Terminate}, declared.standing.Standing.Standing, Attention.{Attention, Stands, IsAttentive, Hears, was_given}}, proofs.AttentionLaws.hears_both}
use Rattle.pm_startup.specs.pm_wire.Backend.{BackMessage, spelling}
use Rattle.pm_session.{specs.{Session.{Ending, EndsSoundly, Heeds, HeedsTold}, Entry.{IsTold, EndsBy, Closes}}, proofs.Said.bytes_of-one}

-- one more message
pub one_more : (was now : List ℕ) (sent : List BackMessage) (m : BackMessage) → was ≡ bytes_of sent → now ≡ was ++ spelling m → now ≡ bytes_of (sent ++ m ∷ [])
one_more was now sent m before after =
    after ∙ ap (λ (w : List ℕ). w ++ spelling m) before ∙ ap (λ (b : List ℕ). bytes_of sent ++ b) (sym (bytes_of-one m)) ∙ sym (bytes_of-append sent (m ∷ []))

-- one more element's message
pub one_more_of : {A : Type 0} (f : A → BackMessage) (was now : List ℕ) (sent : List BackMessage) (xs : List A) (i : ℕ) (d : A) → i < length xs
    → was ≡ bytes_of (sent ++ map f (take i xs)) → now ≡ was ++ spelling (f (get_or xs i d)) → now ≡ bytes_of (sent ++ map f (take (i + 1) xs))
one_more_of f was now sent xs i d lt before after =
    one_more was now (sent ++ map f (take i xs)) (f (get_or xs i d)) before after
    ∙ ap (λ (ms : List BackMessage). bytes_of ms) (append_assoc sent (map f (take i xs)) (f (get_or xs i d) ∷ [])
    ∙ ap (λ (ms : List BackMessage). sent ++ ms) (sym (map-append f (take i xs) (get_or xs i d ∷ [])) ∙ ap (λ ys. map f ys) (sym (take_more xs i d lt))))

-- ---- what a status of 0 means

-- a child that exits as if nothing had happened says nothing last
pub says_nothing : (decision : Cac) (stage : Stage) (cause : Cause) → status_by cause ≡ statuses.Code 0 → last_of decision stage cause ≡ []
says_nothing decision stage Terminated is = refl
says_nothing decision stage Cancelling is = refl
says_nothing decision stage LinkEnded is = refl
says_nothing decision stage LinkFailed is = refl
says_nothing decision stage TimedOut is = refl
says_nothing decision stage (PacketRefused (packets.Length seen)) is = refl
says_nothing decision stage (PacketRefused (packets.Version major minor)) is = absurd cc
says_nothing decision stage (PacketRefused packets.NoUser) is = absurd cc
says_nothing decision stage (PacketRefused packets.Replication) is = absurd cc
says_nothing decision stage (PacketRefused (packets.Malformed place)) is = absurd cc
says_nothing decision stage (PacketRefused packets.PqOption) is = absurd cc
says_nothing decision stage (MessageRefused fault) is = absurd cc
says_nothing decision stage DecisionRefused is = absurd cc
says_nothing decision stage (GateRefused refusal) is = absurd cc
says_nothing decision stage ShortOfMemory is = absurd cc
says_nothing decision stage Panicked is = absurd cc
says_nothing decision stage ToldToTerminate is = absurd cc
says_nothing decision stage (ToldToQuit reason) is = absurd cc
says_nothing decision stage Killed is = refl
says_nothing decision stage Overtaken is = refl

-- nothing stands that ends a session
none_stands : (kill : Bool) (quit : Option Reason) (terminate : Bool) → ends_by kill quit terminate ≡ None → (quit ≡ None) × (terminate ≡ false)
none_stands true quit terminate is = absurd cc
none_stands false (Some reason) terminate is = absurd cc
none_stands false None true is = absurd cc
none_stands false None false is = (refl, refl)

-- a signal doesn't end a child as if nothing had happened
pub told_status : (kill : Bool) (quit : Option Reason) (terminate : Bool) (cause : Cause) → ends_by kill quit terminate ≡ Some cause → status_by cause ≢ statuses.Code 0
told_status true quit terminate cause is zero =
    let e : Killed ≡ cause = cc in
    let f : statuses.Signal 9 ≡ statuses.Code 0 = ap status_by e ∙ zero in absurd cc
told_status false (Some reason) terminate cause is zero =
    let e : ToldToQuit reason ≡ cause = cc in
    let f : statuses.Code 2 ≡ statuses.Code 0 = ap status_by e ∙ zero in absurd cc
told_status false None true cause is zero =
    let e : ToldToTerminate ≡ cause = cc in
    let f : statuses.Code 1 ≡ statuses.Code 0 = ap status_by e ∙ zero in absurd cc
told_status false None false cause is zero = absurd cc

-- ---- what the child heeds

heeds_by : (kill : Bool) (standing : Standing) (told : Told) (cause : Cause) → standing.kill ≡ kill → Stands standing told → (status_by cause ≡ statuses.Code 0 → ends_of standing ≡ None)
    → HeedsTold (status_by (cond kill Killed cause)) told
heeds_by true standing told cause is stands none = record { kill = λ given. refl; quit = λ reason given e. absurd cc; terminate = λ given e. absurd cc }
heeds_by false standing told cause is stands none = record {
  kill = λ given. let k : standing.kill ≡ true = stands.kill.1 given in absurd cc;
  quit = λ reason given e. stands.quits reason given ((none_stands standing.kill standing.quit standing.terminate (none e)).0);
  terminate = λ given e.
      let t : standing.terminate ≡ true = stands.terminate.1 given in
      let f : standing.terminate ≡ false = (none_stands standing.kill standing.quit standing.terminate (none e)).1 in
      absurd cc;
}

attentive_at : (told : Told) (at : Attention) → at.told ≡ Some told → IsAttentive at → Stands at.standing told
attentive_at told at is attentive = rw is at attentive

heeds_if : (told : Option Told) (at : Attention) (cause : Cause) → at.told ≡ told → IsAttentive at → (status_by cause ≡ statuses.Code 0 → ends_of at.standing ≡ None) → Heeds (status_by (cond at.standing.kill Killed cause)) told
heeds_if None at cause is attentive none = tt
heeds_if (Some told) at cause is attentive none =
    heeds_by at.standing.kill at.standing told cause refl (attentive_at told at is attentive) none

-- what was told is told still
pub told_still : (cause : Cause) (before now : Attention) (m : ℕ) → Hears m before now → IsTold cause before → IsTold cause now
told_still ToldToTerminate before now m hears told = hears.given Terminate told
told_still (ToldToQuit reason) before now m hears told = hears.given (Quit reason) told
told_still Killed before now m hears told = hears.given Kill told
told_still Terminated before now m hears told = absurd told
told_still Cancelling before now m hears told = absurd told
told_still LinkEnded before now m hears told = absurd told
told_still LinkFailed before now m hears told = absurd told
told_still TimedOut before now m hears told = absurd told
told_still (PacketRefused fault) before now m hears told = absurd told
told_still (MessageRefused fault) before now m hears told = absurd told
told_still DecisionRefused before now m hears told = absurd told
told_still (GateRefused refusal) before now m hears told = absurd told
told_still ShortOfMemory before now m hears told = absurd told
told_still Panicked before now m hears told = absurd told
told_still Overtaken before now m hears told = absurd told

pub told_by : (kill : Bool) (quit : Option Reason) (terminate : Bool) (cause : Cause) (link : LinkView) (at : Attention) → ends_by kill quit terminate ≡ Some cause → ShowsCause cause link link at → IsTold cause at
told_by true quit terminate cause link at is shows =
    let e : Killed ≡ cause = cc in subst (λ (c : Cause). ShowsCause c link link at → IsTold c at) e (λ h. h) shows
told_by false (Some reason) terminate cause link at is shows =
    let e : ToldToQuit reason ≡ cause = cc in subst (λ (c : Cause). ShowsCause c link link at → IsTold c at) e (λ h. h) shows
told_by false None true cause link at is shows =
    let e : ToldToTerminate ≡ cause = cc in subst (λ (c : Cause). ShowsCause c link link at → IsTold c at) e (λ h. h) shows
told_by false None false cause link at is shows = absurd cc

pub told_now : (at : Attention) (cause : Cause) (link : LinkView) → IsAttentive at → ends_of at.standing ≡ Some cause → IsTold cause at
told_now at cause link attentive is = let shows = told_cause at cause link link attentive is in told_by at.standing.kill at.standing.quit at.standing.terminate cause link at is shows.1

-- ---- the end

-- no signal counts before a want of memory
pub short_last : (standing : Standing) (ends : Cause) → IsLastCause standing ShortOfMemory ends → ends ≡ ShortOfMemory
short_last standing ends (inl h) = h.0
short_last standing ends (inr h) = let e : statuses.Code 1 ≡ statuses.Code 0 = h.0 in absurd cc

exits_as : (kill : Bool) (cause : Cause) → (cond kill Killed cause ≡ cause) ⊎ (cond kill Killed cause ≡ Killed)
exits_as true cause = inr refl
exits_as false cause = inl refl

kill_given : (kill : Bool) (told : Option Told) (at : Attention) (cause : Cause) → at.standing.kill ≡ kill → at.told ≡ told → IsAttentive at → cond kill Killed cause ≡ Killed → (cause ≡ Killed) ⊎ was_given Kill told
kill_given false told at cause is told_is attentive e = inl e
kill_given true None at cause is told_is attentive e = inr tt
kill_given true (Some told) at cause is told_is attentive e = inr ((attentive_at told at told_is attentive).kill.0 is)

cut_by : (kill : Bool) (cause : Cause) (failed : Type 0) (missing : List ℕ) → (missing ≡ []) ⊎ (IsTrue kill ⊎ failed) → (missing ≡ []) ⊎ (CutsOff (cond kill Killed cause) ⊎ failed)
cut_by kill cause failed missing (inl e) = inl e
cut_by kill cause failed missing (inr (inr f)) = inr (inr f)
cut_by true cause failed missing (inr (inl k)) = inr (inl tt)
cut_by false cause failed missing (inr (inl k)) = absurd cc

heeded_none : (decision : Cac) (stage : Stage) (cause ends : Cause) (words : List ℕ) (before now : Attention) → IsLastCause before.standing cause ends → words ≡ bytes_of (last_of decision stage ends) → (words ≡ [] → now ≡ before)
    → status_by ends ≡ statuses.Code 0 → ends_of now.standing ≡ None
heeded_none decision stage cause ends words before now (inr h) is silent zero = absurd (told_status before.standing.kill before.standing.quit before.standing.terminate ends h.1 zero)
heeded_none decision stage cause ends words before now (inl h) is silent zero =
    let nothing : words ≡ [] = is ∙ ap (λ (ms : List BackMessage). bytes_of ms) (says_nothing decision stage ends zero) ∙ bytes_of-none in
    ap (λ (at : Attention). ends_of at.standing) (silent nothing) ∙ h.1 (ap status_by (sym h.0) ∙ zero)

ends_so : (cause ends : Cause) (link : LinkView) (before now : Attention) → IsAttentive before → Hears 0 before now → IsLastCause before.standing cause ends → EndsBy cause ends now
ends_so cause ends link before now attentive hears (inl h) = inl h.0
ends_so cause ends link before now attentive hears (inr h) =
    let shows = told_cause before ends link link attentive h.1 in
    inr (h.0, told_still ends before now 0 hears (told_by before.standing.kill before.standing.quit before.standing.terminate ends link before h.1 shows.1))

-- ---- a sound link

-- by another cause than a fault of the link, a link that was left is sound
left_sound : (cause : Cause) (t : Traffic) → IsLeftFor cause (Some t) → cause ≢ LinkFailed → IsSound t.ended (Some t)
left_sound cause t left other = (not_failed t.failed left.1, left.0, refl)
  where
    not_failed : (failed : Bool) → (failed ≡ true → cause ≡ LinkFailed) → failed ≡ false
    not_failed true why = absurd (other (why refl))
    not_failed false why = refl

killed_status : (kill : Bool) (ends : Cause) → status_by ends ≢ statuses.Code 0 → status_by (cond kill Killed ends) ≢ statuses.Code 0
killed_status true ends fails e = cc
killed_status false ends fails e = fails e

-- by what it ended, where the cause was a fault of the link
last_failed : (standing : Standing) (cause ends : Cause) → IsLastCause standing cause ends → cause ≡ LinkFailed → status_by ends ≢ statuses.Code 0
last_failed standing cause ends (inl same) failed zero =
    let e : statuses.Code 1 ≡ statuses.Code 0 = sym (ap status_by (same.0 ∙ failed)) ∙ zero in absurd cc
last_failed standing cause ends (inr told) failed zero =
    let e : statuses.Code 1 ≡ statuses.Code 0 = sym (ap status_by failed) ∙ told.0 in absurd cc

other_fails : (decision : Cac) (stage : Stage) (standing : Standing) (cause ends : Cause) (byte : ℕ) (words : List ℕ) → IsLastCause standing cause ends → byte ∷ words ≡ bytes_of (last_of decision stage ends) → (cause ≢ LinkFailed) × (status_by ends ≢ statuses.Code 0)
other_fails decision stage standing cause ends byte words last is = (silent, fails)
  where
    nothing : bytes_of (last_of decision stage ends) ≡ [] → ⊥
    nothing none = let e : byte ∷ words ≡ [] = is ∙ none in absurd cc

    fails : status_by ends ≢ statuses.Code 0
    fails zero = nothing (ap (λ (ms : List BackMessage). bytes_of ms) (says_nothing decision stage ends zero) ∙ bytes_of-none)

    silent : cause ≢ LinkFailed
    silent failed = elim last [
      | inl same ↦ nothing (ap (λ (c : Cause). bytes_of (last_of decision stage c)) (same.0 ∙ failed) ∙ bytes_of-none)
      | inr told ↦ let e : statuses.Code 1 ≡ statuses.Code 0 = sym (ap status_by failed) ∙ told.0 in absurd cc
    ]

-- the last words were said on a link that was left for this cause
ends_by_words : (decision : Cac) (stage : Stage) (cause ends : Cause) (words : List ℕ) (link_before link_now : LinkView) (traffic : Option Traffic) (before now : Attention) (kill : Bool) → link_before.traffic ≡ traffic → IsLastCause before.standing cause ends
    → words ≡ bytes_of (last_of decision stage ends) → SaysLast words (outside link_before [] before) (outside link_now [] now) → IsLeftFor cause traffic → EndsSoundly (status_by (cond kill Killed ends)) link_now.traffic
ends_by_words decision stage cause ends [] link_before link_now traffic before now kill at last is says left =
    let same : link_now.traffic ≡ traffic = ap (λ (m : Moment (Unit {0})). m.link.traffic) (says.silent refl) ∙ at in
    subst (EndsSoundly (status_by (cond kill Killed ends))) (sym same) (left_soundly traffic left)
  where
    left_soundly : (traffic : Option Traffic) → IsLeftFor cause traffic → EndsSoundly (status_by (cond kill Killed ends)) traffic
    left_soundly None left = tt
    left_soundly (Some t) left = (left.0, λ failed. killed_status kill ends (last_failed before.standing cause ends last (left.1 failed)))
ends_by_words decision stage cause ends (byte ∷ words) link_before link_now None before now kill at last is says left =
    let other = other_fails decision stage before.standing cause ends byte words last is in
    off_soundly link_now.traffic (says.sound false (subst (IsSound false) (sym at) tt)) other.1
  where
    off_soundly : (traffic : Option Traffic) → IfSome traffic (λ t. t.went_on ≡ false) → status_by ends ≢ statuses.Code 0 → EndsSoundly (status_by (cond kill Killed ends)) traffic
    off_soundly None off fails = tt
    off_soundly (Some t) off fails = (off, λ failed. killed_status kill ends fails)
ends_by_words decision stage cause ends (byte ∷ words) link_before link_now (Some t) before now kill at last is says left =
    let other = other_fails decision stage before.standing cause ends byte words last is in
    off_soundly link_now.traffic (says.sound t.ended (subst (IsSound t.ended) (sym at) (left_sound cause t left other.0))) other.1
  where
    off_soundly : (traffic : Option Traffic) → IfSome traffic (λ t. t.went_on ≡ false) → status_by ends ≢ statuses.Code 0 → EndsSoundly (status_by (cond kill Killed ends)) traffic
    off_soundly None off fails = tt
    off_soundly (Some t) off fails = (off, λ failed. killed_status kill ends fails)

pub closed : (decision : Cac) (stage : Stage) (cause ends exit : Cause) (words : List ℕ) (link_before link_now : LinkView) (before between now : Attention) → IsAttentive between → Hears 1 before between → IsLastCause between.standing cause ends
    → words ≡ bytes_of (last_of decision stage ends) → SaysLast words (outside link_before [] between) (outside link_now [] now) → exit ≡ cond now.standing.kill Killed ends
    → (ending : Ending) × (ending.stage ≡ stage) × (ending.exit ≡ exit) × Closes decision cause ending (outside link_before [] before) (outside link_now [] now)
closed decision stage cause ends exit words link_before link_now before between now there listened heeded is says exit_is =
    let here : IsAttentive now = says.hears.stands there in
    let kill = now.standing.kill in (
      record { cause = ends; stage = stage; exit = cond kill Killed ends; exits = exits_as kill ends },
      refl,
      sym exit_is,
      record {
        went = says.went;
        missing = says.missing;
        ends = ends_so cause ends link_before between now there says.hears heeded;
        killed = kill_given kill now.told now ends refl refl here;
        whole = sym is ∙ says.whole;
        cut = cut_by kill ends (HasFailed link_before link_now) says.missing says.cut;
        passes = says.passes;
        silent = λ none. ap (λ (at : Moment (Unit {0})). at.link) (says.silent (is ∙ ap (λ (ms : List BackMessage). bytes_of ms) none ∙ bytes_of-none));
        hears = hears_both 1 0 before between now listened says.hears;
        heeds = heeds_if now.told now ends refl here (heeded_none decision stage cause ends words between now heeded is (λ e. ap (λ (at : Moment (Unit {0})). at.child) (says.silent e)));
        sound = λ left. ends_by_words decision stage cause ends words link_before link_now link_before.traffic between now kill refl heeded is says left;
      },
    )
