-- What a write that was made durable says, and what a base behind an open gate stands for.
use Rattle.std.{proofs.Common.{◌≡◌, ◌≢◌, ℕ, ◌+◌, List, [], ◌∷◌, ◌++◌, length, refl, sym, ap, subst, arith, append-nil}, specs.Prelude.{Option, IfSome, option_map}}
use Rattle.pm_record.{specs.{pm_disk.{declared.disk.Which.Which, Files.{Files, file_of, other}, Disk.{Only, Torn}}, OnDisk.{FollowsWithin, GoesOn}, Spelling.base_bytes, StandsFor.{AreBatches, Content, IsContent, StandsFor}, pm_rows.declared.commit.Change.Change}, proofs.GateLaws.written_at}

-- a base behind an open gate stands for itself
pub base_stands : (content : Content) (gate : ℕ) (free : List ℕ) → content.batches ≡ [] → gate ≢ 0 → IsContent content
    → StandsFor (gate ∷ (base_bytes content.epoch content.clean content.base_count content.base_rows ++ (0 ∷ free))) content
    (1 + length (base_bytes content.epoch content.clean content.base_count content.base_rows))
base_stands content gate free none is_open limits =
    let base = base_bytes content.epoch content.clean content.base_count content.base_rows in record {
      front = gate ∷ base;
      free = free;
      parts = refl;
      place = omega arith;
      spelled = record {
        gate = gate;
        behind = [];
        is_open = is_open;
        parts = ap (λ (l : List ℕ). gate ∷ l) (sym (append-nil base));
        batches = subst (λ (b : List (List (List Change))). AreBatches [] b) (sym none) refl;
      };
      limits = limits;
    }

-- what a write that was made durable says
pub record Wrote (file : Which) (at : ℕ) (bytes : List ℕ) (from to : ℕ) (i j : ℕ → Files → Type 0) (before now : Option Files) : Type 0 where
  pub stops : FollowsWithin (Torn file at (length bytes)) from to i j
  pub time : GoesOn from to i j
  pub written : now ≡ option_map (written_at file at bytes) before
  pub durable : IfSome now (λ f. Only file (file_of f file) (j to))

-- the same, of the file and the bytes by their other names
pub at_next : (next file : Which) (at : ℕ) (piece bytes : List ℕ) (from to : ℕ) (i j : ℕ → Files → Type 0) (before now : Option Files) → next ≡ other file → piece ≡ bytes
    → Wrote next at piece from to i j before now → Wrote (other file) at bytes from to i j before now
at_next next file at piece bytes from to i j before now is same wrote =
    subst (λ (l : List ℕ). Wrote (other file) at l from to i j before now) same (subst (λ (w : Which). Wrote w at piece from to i j before now) is wrote)
