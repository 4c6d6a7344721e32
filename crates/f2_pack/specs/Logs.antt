-- A log of the code as that of the format.
use Rattle.std.specs.Prelude.{if◌then◌else◌}
use Rattle.f2_bytes.specs.Checkpoint.{Log as FormatLog}
use Rattle.f2_pack.specs.declared.checkpoint.Log.{Log}

abbrev pub log_of : Log → FormatLog
log_of at = record { segment = at.segno; offset = at.offset; allocation = if at.reuse then 1 else 0 }
