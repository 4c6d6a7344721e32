-- The records of the code as those of the format, and which numbers fit their bytes.
use Rattle.std.specs.Prelude.{◌≡◌, ℕ, ◌^◌, ◌<◌, ◌≤◌, List, length, take, map, All}
use Rattle.f2_bytes.specs.Summary.{Summary as FormatSummary}
use Rattle.f2_bytes.specs.Journal.{NatEntry as FormatNatEntry, NatRecord as FormatNatRecord, SitEntry as FormatSitEntry, SitRecord as FormatSitRecord, FitsNatEntry, FitsSitEntry, FitsSitBytes}
use Rattle.f2_sum.specs.declared.records.Summary.{Summary}
use Rattle.f2_sum.specs.declared.records.NatEntry.{NatEntry}
use Rattle.f2_sum.specs.declared.records.NatRecord.{NatRecord}
use Rattle.f2_sum.specs.declared.records.SitEntry.{SitEntry}
use Rattle.f2_sum.specs.declared.records.SitRecord.{SitRecord}

abbrev pub summary_of : Summary → FormatSummary
summary_of s = record { nid = s.nid; version = s.version; place = s.ofs }

abbrev pub nat_entry : NatEntry → FormatNatEntry
nat_entry e = record { version = e.version; ino = e.ino; address = e.addr }

abbrev pub nat_record : NatRecord → FormatNatRecord
nat_record r = record { nid = r.nid; entry = record { version = r.version; ino = r.ino; address = r.addr } }

abbrev pub sit_entry : SitEntry → FormatSitEntry
sit_entry e = record { kind = e.kind; count = e.count; map = e.map; mtime = e.mtime }

abbrev pub sit_record : SitRecord → FormatSitRecord
sit_record r = record { segment = r.segno; entry = sit_entry r.entry }

-- the numbers fit the 7 bytes of a summary
pub record FitsSummary (s : FormatSummary) : Type 0 where
  pub nid : s.nid < 2 ^ 32
  pub version : s.version < 2 ^ 8
  pub place : s.place < 2 ^ 16

-- the numbers fit the 13 bytes of a record
pub record FitsNatRecord (r : FormatNatRecord) : Type 0 where
  pub nid : r.nid < 2 ^ 32
  pub entry : FitsNatEntry r.entry

-- the numbers fit the 78 bytes of a record
pub record FitsSitRecord (r : FormatSitRecord) : Type 0 where
  pub segment : r.segment < 2 ^ 32
  pub entry : FitsSitBytes r.entry

-- what the fields of a journal of the segment table are: an array of 6 records, of which the first n are in use and
-- fit their bytes
pub record IsSitJournal (n : ℕ) (records : List SitRecord) : Type 0 where
  pub size : length records ≡ 6
  pub room : n ≤ 6
  pub fits : All (λ r. FitsSitEntry r.entry) (map sit_record (take n records))
