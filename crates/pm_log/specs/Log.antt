-- The log's calls: what its fields say of the content, and what a call may leave.
use Rattle.std.specs.Prelude.{◌≡◌, ℕ, ◌+◌, ◌-◌, length, None}
use Rattle.pm_record.specs.{pm_disk.Files.Files, Spelling.base_bytes, StandsFor.{Content, standing_of}, OnDisk.Rests, declared.found.Found.Found}
use Rattle.pm_log.specs.{Half.more_of, declared.log.Log.Log}

-- the length of a file up to the first gate after its base
abbrev pub base_length : Content → ℕ
base_length content = 1 + length (base_bytes content.epoch content.clean content.base_count content.base_rows)

-- The log isn't broken, its fields are those of the content, and the content rests in its file.
pub record Lives (log : Log) (content : Content) (files : Files) (images : Files → Type 0) : Type 0 where
  pub unbroken : log.since ≡ None
  pub epoch : log.epoch ≡ content.epoch
  pub base_end : log.base_end ≡ base_length content
  pub count : log.count ≡ (standing_of content).count
  pub rests : Rests log.file content log.end files images

-- the log that was found, as it goes on
abbrev pub resumed : Found → ℕ → Log
resumed found limit = record {
  file = found.file;
  epoch = found.epoch;
  base_end = found.base_end;
  end = found.end;
  count = found.count;
  limit = limit;
  since = None;
  making = None;
}

-- for how many bytes there is room in front of the gate that closes the file, and in the file that is being made too,
-- once all so far is copied
abbrev pub room_of : Log → ℕ
room_of log = log.limit - (log.end + more_of log.making + 1)
