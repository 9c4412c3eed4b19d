-- What the calls of a disk in memory keep of its two files.
use Rattle.std.proofs.Common.{◌≡◌, ◌↔◌, ℕ, ◌+◌, ◌-◌, ◌^◌, ◌<◌, ◌≤◌, List, [], refl, sym, ◌∙◌, ap, subst, arith}
use Rattle.pm_disk.{specs.{Files.{Files, overwritten, with_file}, Disk.{Elapses, next_tick}, Past.{State, IsKept, MayLeave, AddsChange, after_sync, after_write, state_at}, MemDisk.{MayLeaveAt, ChangesNoFile, Stays, Syncs, Writes}, declared.{disk.Which.TheVariants.{A, B}, mem_file.{Entry.Entry, MemFile.MemFile}, mem_disk.MemDisk.MemDisk}}, proofs.{AsRead.{kept, reads_as_left}, Replay.state_at_later, Tear.torn_from}}

kept_none : IsKept [] [] 0
unfolding state_at
kept_none = kept [] [] 0 (λ k d lt. absurd (omega arith)) refl

pub kept_new : (past : List Entry) (bytes : List ℕ) → past ≡ [] → bytes ≡ [] → IsKept past bytes 0
kept_new past bytes none nothing = rw (none, nothing) kept_none

blank : (tick : ℕ) (image : List ℕ) → MayLeave (state_at [] tick) image → image ≡ []
unfolding state_at
blank tick image left = left.unwritten refl

-- whatever is asked of a disk with no past, a stop leaves two files of length 0
pub only_empty : (disk : MemDisk) → disk.a.past.items ≡ [] → disk.b.past.items ≡ [] → (tick : ℕ) (image : Files) → MayLeaveAt disk tick image
    → image ≡ record { a = []; b = [] }
only_empty disk a_none b_none tick image left =
    let a : image.a ≡ [] = blank tick image.a (subst (λ (l : List Entry). MayLeave (state_at l tick) image.a) a_none left.a) in
    let b : image.b ≡ [] = blank tick image.b (subst (λ (l : List Entry). MayLeave (state_at l tick) image.b) b_none left.b) in
    ap (λ (l : List ℕ). with_file image A l) a ∙ ap (λ (l : List ℕ). with_file (with_file image A []) B l) b

-- a call that changes nothing keeps them
pub kept_later : (past : List Entry) (bytes : List ℕ) (ticks later : ℕ) → IsKept past bytes ticks → ticks ≤ later → IsKept past bytes later
kept_later past bytes ticks later was le = kept past bytes later
    (λ k d lt. (let earlier = was.earlier k d lt in omega arith))
    (ap (λ (s : State). s.read) (state_at_later past ticks later was.earlier le) ∙ was.reads)

-- and so does one that changed a file in the way that it noted
kept_noted : (ticks : ℕ) (old new : List Entry) (after : State → State) (before now : List ℕ) → IsKept old before ticks → AddsChange ticks old new after
    → (after (state_at old ticks)).read ≡ now → IsKept new now (ticks + 1)
kept_noted ticks old new after before now was change is = kept new now (ticks + 1) change.earlier (ap (λ (s : State). s.read) change.now ∙ is)

pub kept_written : (file old wrote : MemFile) (ticks at : ℕ) (bytes : List ℕ) → file ≡ wrote → IsKept old.past.items old.bytes.items ticks
    → wrote.bytes.items ≡ overwritten old.bytes.items at bytes → AddsChange ticks old.past.items wrote.past.items (λ state. after_write state at bytes)
    → IsKept file.past.items file.bytes.items (ticks + 1)
kept_written file old wrote ticks at bytes is kept reads change =
    rw is (kept_noted ticks old.past.items wrote.past.items (λ state. after_write state at bytes) old.bytes.items wrote.bytes.items kept change
    (ap (λ (l : List ℕ). overwritten l at bytes) kept.reads ∙ sym reads))

pub kept_synced : (file old wrote : MemFile) (ticks : ℕ) → file ≡ wrote → IsKept old.past.items old.bytes.items ticks
    → wrote.bytes.items ≡ old.bytes.items → AddsChange ticks old.past.items wrote.past.items after_sync
    → IsKept file.past.items file.bytes.items (ticks + 1)
kept_synced file old wrote ticks is kept reads change =
    rw is (kept_noted ticks old.past.items wrote.past.items after_sync old.bytes.items wrote.bytes.items kept change (kept.reads ∙ sym reads))

pub kept_beside : (file old : MemFile) (ticks : ℕ) → file ≡ old → IsKept old.past.items old.bytes.items ticks → IsKept file.past.items file.bytes.items (ticks + 1)
kept_beside file old ticks is kept = rw is (kept_later old.past.items old.bytes.items ticks (ticks + 1) kept (omega arith))

leaves_later : (past : List Entry) (bytes image : List ℕ) (ticks later : ℕ) → IsKept past bytes ticks → ticks ≤ later
    → MayLeave (state_at past later) image → MayLeave (state_at past ticks) image
leaves_later past bytes image ticks later kept le leaves =
    subst (λ (s : State). MayLeave s image) (state_at_later past ticks later kept.earlier le) leaves

pub changes_no_file : (old new : MemDisk) → new.a.past.items ≡ old.a.past.items → new.a.bytes.items ≡ old.a.bytes.items
    → new.b.past.items ≡ old.b.past.items → new.b.bytes.items ≡ old.b.bytes.items
    → new.ticks ≡ next_tick old.ticks → old.ticks ≤ new.ticks → ChangesNoFile old new
changes_no_file old new a_past a_bytes b_past b_bytes tick later = record {
  seen = cc;
  images = λ image left. record {
    a = leaves_later old.a.past.items old.a.bytes.items image.a old.ticks new.ticks old.a_kept later (subst (λ (l : List Entry). MayLeave (state_at l new.ticks) image.a) a_past left.a);
    b = leaves_later old.b.past.items old.b.bytes.items image.b old.ticks new.ticks old.b_kept later (subst (λ (l : List Entry). MayLeave (state_at l new.ticks) image.b) b_past left.b);
  };
  time = record {
    later = later;
    tick = tick;
    past = λ t le image. (
      λ left. record {
        a = subst (λ (l : List Entry). MayLeave (state_at l t) image.a) a_past left.a;
        b = subst (λ (l : List Entry). MayLeave (state_at l t) image.b) b_past left.b;
      },
      λ left. record {
        a = subst (λ (l : List Entry). MayLeave (state_at l t) image.a) (sym a_past) left.a;
        b = subst (λ (l : List Entry). MayLeave (state_at l t) image.b) (sym b_past) left.b;
      },
    );
  };
}

-- the same entries leave the same
same_leaves : (old new : List Entry) (t : ℕ) (image : List ℕ) → new ≡ old → MayLeave (state_at new t) image → MayLeave (state_at old t) image
same_leaves old new t image is left = subst (λ (l : List Entry). MayLeave (state_at l t) image) is left

-- what a call that changed a file leaves of it now, by what it left before
changed_leaves : (old new : List Entry) (ticks now : ℕ) (after : State → State) (image : List ℕ) → AddsChange ticks old new after → now ≡ ticks + 1
    → MayLeave (state_at new now) image → MayLeave (after (state_at old ticks)) image
changed_leaves old new ticks now after image change tick left =
    subst (λ (s : State). MayLeave s image) (ap (λ (t : ℕ). state_at new t) tick ∙ change.now) left

-- what stood before that call stands after it
past_leaves : (old new : List Entry) (ticks t : ℕ) (after : State → State) (image : List ℕ) → AddsChange ticks old new after → t ≤ ticks
    → MayLeave (state_at new t) image ↔ MayLeave (state_at old t) image
past_leaves old new ticks t after image change le = (
  λ left. subst (λ (s : State). MayLeave s image) (change.past t le) left,
  λ left. subst (λ (s : State). MayLeave s image) (sym (change.past t le)) left,
)

elapses_a : (old new : MemDisk) (after : State → State) → new.ticks ≡ old.ticks + 1 → old.ticks < 2 ^ 64 - 1
    → AddsChange old.ticks old.a.past.items new.a.past.items after → new.b.past.items ≡ old.b.past.items
    → Elapses old.ticks new.ticks (MayLeaveAt old) (MayLeaveAt new)
elapses_a old new after tick room change same = record {
  later = omega arith;
  tick = omega arith;
  past = λ t le image. (
      let stands = past_leaves old.a.past.items new.a.past.items old.ticks t after image.a change le in (
        λ left. record {
          a = stands.0 left.a;
          b = same_leaves old.b.past.items new.b.past.items t image.b same left.b;
        },
        λ left. record {
          a = stands.1 left.a;
          b = same_leaves new.b.past.items old.b.past.items t image.b (sym same) left.b;
        },
      ));
}

-- a call that wrote into the file A
pub writes_a : (old new : MemDisk) (wrote : MemFile) (at : ℕ) (bytes : List ℕ) → new.ticks ≡ old.ticks + 1 → old.ticks < 2 ^ 64 - 1
    → new.a ≡ wrote → wrote.bytes.items ≡ overwritten old.a.bytes.items at bytes
    → AddsChange old.ticks old.a.past.items wrote.past.items (λ state. after_write state at bytes)
    → new.b ≡ old.b → Writes old new A at bytes
writes_a old new wrote at bytes tick room is reads noted stays =
    let change : AddsChange old.ticks old.a.past.items new.a.past.items (λ state. after_write state at bytes) = rw is noted in
    let same : new.b.past.items ≡ old.b.past.items = rw stays refl in
    record {
      written = cc;
      images = λ image left. (
          let written = changed_leaves old.a.past.items new.a.past.items old.ticks new.ticks (λ state. after_write state at bytes) image.a change tick left.a in
          let from = torn_from (state_at old.a.past.items old.ticks) at bytes image.a written in (
            record { a = from.earlier; b = image.b },
            record {
              a = from.left;
              b = leaves_later old.b.past.items old.b.bytes.items image.b old.ticks new.ticks old.b_kept (omega arith) (same_leaves old.b.past.items new.b.past.items new.ticks image.b same left.b);
            },
            record { no_shorter = from.tears.no_shorter; outside = from.tears.outside; beside = refl },
          ));
      time = elapses_a old new (λ state. after_write state at bytes) tick room change same;
    }

-- a call that synced it
pub syncs_a : (old new : MemDisk) (wrote : MemFile) → new.ticks ≡ old.ticks + 1 → old.ticks < 2 ^ 64 - 1
    → new.a ≡ wrote → wrote.bytes.items ≡ old.a.bytes.items
    → AddsChange old.ticks old.a.past.items wrote.past.items after_sync → new.b ≡ old.b → Syncs old new A
syncs_a old new wrote tick room is reads noted stays =
    let change : AddsChange old.ticks old.a.past.items new.a.past.items after_sync = rw is noted in
    let same : new.b.past.items ≡ old.b.past.items = rw stays refl in
    record {
      durable = λ image left.
          (changed_leaves old.a.past.items new.a.past.items old.ticks new.ticks after_sync image.a change tick left.a).unwritten refl
          ∙ old.a_kept.reads;
      keeps = record {
        seen = cc;
        images = λ image left. (
            let is = (changed_leaves old.a.past.items new.a.past.items old.ticks new.ticks after_sync image.a change tick left.a).unwritten refl in
            record {
              a = subst (λ (l : List ℕ). MayLeave (state_at old.a.past.items old.ticks) l) (sym is) (reads_as_left old.a.past.items old.ticks);
              b = leaves_later old.b.past.items old.b.bytes.items image.b old.ticks new.ticks old.b_kept (omega arith) (same_leaves old.b.past.items new.b.past.items new.ticks image.b same left.b);
            });
        time = elapses_a old new after_sync tick room change same;
      };
    }

elapses_b : (old new : MemDisk) (after : State → State) → new.ticks ≡ old.ticks + 1 → old.ticks < 2 ^ 64 - 1
    → AddsChange old.ticks old.b.past.items new.b.past.items after → new.a.past.items ≡ old.a.past.items
    → Elapses old.ticks new.ticks (MayLeaveAt old) (MayLeaveAt new)
elapses_b old new after tick room change same = record {
  later = omega arith;
  tick = omega arith;
  past = λ t le image. (
      let stands = past_leaves old.b.past.items new.b.past.items old.ticks t after image.b change le in (
        λ left. record {
          a = same_leaves old.a.past.items new.a.past.items t image.a same left.a;
          b = stands.0 left.b;
        },
        λ left. record {
          a = same_leaves new.a.past.items old.a.past.items t image.a (sym same) left.a;
          b = stands.1 left.b;
        },
      ));
}

-- a call that wrote into the file B
pub writes_b : (old new : MemDisk) (wrote : MemFile) (at : ℕ) (bytes : List ℕ) → new.ticks ≡ old.ticks + 1 → old.ticks < 2 ^ 64 - 1
    → new.b ≡ wrote → wrote.bytes.items ≡ overwritten old.b.bytes.items at bytes
    → AddsChange old.ticks old.b.past.items wrote.past.items (λ state. after_write state at bytes)
    → new.a ≡ old.a → Writes old new B at bytes
writes_b old new wrote at bytes tick room is reads noted stays =
    let change : AddsChange old.ticks old.b.past.items new.b.past.items (λ state. after_write state at bytes) = rw is noted in
    let same : new.a.past.items ≡ old.a.past.items = rw stays refl in
    record {
      written = cc;
      images = λ image left. (
          let written = changed_leaves old.b.past.items new.b.past.items old.ticks new.ticks (λ state. after_write state at bytes) image.b change tick left.b in
          let from = torn_from (state_at old.b.past.items old.ticks) at bytes image.b written in (
            record { a = image.a; b = from.earlier },
            record {
              a = leaves_later old.a.past.items old.a.bytes.items image.a old.ticks new.ticks old.a_kept (omega arith) (same_leaves old.a.past.items new.a.past.items new.ticks image.a same left.a);
              b = from.left;
            },
            record { no_shorter = from.tears.no_shorter; outside = from.tears.outside; beside = refl },
          ));
      time = elapses_b old new (λ state. after_write state at bytes) tick room change same;
    }

-- a call that synced it
pub syncs_b : (old new : MemDisk) (wrote : MemFile) → new.ticks ≡ old.ticks + 1 → old.ticks < 2 ^ 64 - 1
    → new.b ≡ wrote → wrote.bytes.items ≡ old.b.bytes.items
    → AddsChange old.ticks old.b.past.items wrote.past.items after_sync → new.a ≡ old.a → Syncs old new B
syncs_b old new wrote tick room is reads noted stays =
    let change : AddsChange old.ticks old.b.past.items new.b.past.items after_sync = rw is noted in
    let same : new.a.past.items ≡ old.a.past.items = rw stays refl in
    record {
      durable = λ image left.
          (changed_leaves old.b.past.items new.b.past.items old.ticks new.ticks after_sync image.b change tick left.b).unwritten refl
          ∙ old.b_kept.reads;
      keeps = record {
        seen = cc;
        images = λ image left. (
            let is = (changed_leaves old.b.past.items new.b.past.items old.ticks new.ticks after_sync image.b change tick left.b).unwritten refl in
            record {
              a = leaves_later old.a.past.items old.a.bytes.items image.a old.ticks new.ticks old.a_kept (omega arith) (same_leaves old.a.past.items new.a.past.items new.ticks image.a same left.a);
              b = subst (λ (l : List ℕ). MayLeave (state_at old.b.past.items old.ticks) l) (sym is) (reads_as_left old.b.past.items old.ticks);
            });
        time = elapses_b old new after_sync tick room change same;
      };
    }

-- a call that failed, and had counted nothing before
pub fails : (old between new : MemDisk) → Stays old between → ChangesNoFile between new → ChangesNoFile old new
fails old between new stays keeps = record {
  seen = keeps.seen ∙ (cc);
  images = λ image left. (
      let was = keeps.images image left in
      record {
        a = same_leaves old.a.past.items between.a.past.items old.ticks image.a stays.a_past (subst (λ (t : ℕ). MayLeave (state_at between.a.past.items t) image.a) stays.ticks was.a);
        b = same_leaves old.b.past.items between.b.past.items old.ticks image.b stays.b_past (subst (λ (t : ℕ). MayLeave (state_at between.b.past.items t) image.b) stays.ticks was.b);
      });
  time = record {
    later = omega (arith, keeps.time.later, stays.ticks);
    tick = keeps.time.tick ∙ ap next_tick stays.ticks;
    past = λ t le image. (
        let stands = keeps.time.past t (omega (arith, stays.ticks)) image in (
          λ left. (let was = stands.0 left in record {
            a = same_leaves old.a.past.items between.a.past.items t image.a stays.a_past was.a;
            b = same_leaves old.b.past.items between.b.past.items t image.b stays.b_past was.b;
          }),
          λ left. stands.1 (record {
            a = same_leaves between.a.past.items old.a.past.items t image.a (sym stays.a_past) left.a;
            b = same_leaves between.b.past.items old.b.past.items t image.b (sym stays.b_past) left.b;
          }),
        ));
  };
}
