-- How often the files of a folder have failed, and what failed first.
use Rattle.std.specs.Prelude.{ℕ, Option}
use Rattle.pm_outside_faults.specs.Faults.{count_of, first_of}
use Rattle.pm_outside_files.specs.declared.{fault.FileFault.FileFault, log_files.LogFiles.LogFiles}

abbrev pub disk_faults : LogFiles → ℕ
disk_faults disk = count_of disk.faults

abbrev pub first_disk_fault : LogFiles → Option FileFault
first_disk_fault disk = first_of disk.faults
