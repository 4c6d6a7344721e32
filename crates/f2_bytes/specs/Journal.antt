-- The entries of the two tables, and the journals that go before them.
use Rattle.std.specs.Prelude.{◌≡◌, ℕ, ◌+◌, ◌-◌, ◌*◌, ◌/◌, ◌%◌, ◌^◌, ◌<◌, ◌&&◌, Bool, nat_le, nat_lt, if◌then◌else◌, List, ◌++◌, map, flat_map, length, replicate}
use Rattle.std.specs.List.{range_with_len}
use Rattle.byteorder.specs.Endian.{little_bytes}
use Rattle.f2_bytes.specs.Bytes.{Block, Image, bytes_at, number_at}
use Rattle.f2_bytes.specs.Superblock.{is_loadable}
use Rattle.f2_bytes.specs.Checkpoint.{Pack, pack_head, pack_total_block_count, pack_start_sum, is_compact, node_summary_blocks, checkpoint_ver, head, pack, has_checkpoint}

-- an entry of the node address table: the inode that the node belongs to, and where the node stands
pub record NatEntry : Type 0 where
  pub version : ℕ
  pub ino : ℕ
  pub address : ℕ

-- the entry in the 9 bytes from byte i on
abbrev pub nat_entry_at : List ℕ → ℕ → NatEntry
nat_entry_at b i = record { version = number_at b i 1; ino = number_at b (i + 1) 4; address = number_at b (i + 5) 4 }

-- the 9 bytes of an entry
abbrev pub nat_entry_bytes : NatEntry → List ℕ
nat_entry_bytes e = little_bytes 1 e.version ++ little_bytes 4 e.ino ++ little_bytes 4 e.address

-- the numbers of an entry fit its 9 bytes
pub record FitsNatEntry (e : NatEntry) : Type 0 where
  pub version : e.version < 2 ^ 8
  pub ino : e.ino < 2 ^ 32
  pub address : e.address < 2 ^ 32

-- a record of the journal of the node address table
pub record NatRecord : Type 0 where
  pub nid : ℕ
  pub entry : NatEntry

-- the record in the 13 bytes from byte i on, and its bytes
abbrev pub nat_record_at : List ℕ → ℕ → NatRecord
nat_record_at b i = record { nid = number_at b i 4; entry = nat_entry_at b (i + 4) }

abbrev pub nat_record_bytes : NatRecord → List ℕ
nat_record_bytes r = little_bytes 4 r.nid ++ nat_entry_bytes r.entry

-- an entry of the segment table: the type of a segment's blocks, how many are valid, a bit for each of the 512 in the
-- order of the most significant bit first, and a time
pub record SitEntry : Type 0 where
  pub kind : ℕ
  pub count : ℕ
  pub map : List ℕ
  pub mtime : ℕ

-- the entry in the 74 bytes from byte i on
abbrev pub sit_entry_at : List ℕ → ℕ → SitEntry
sit_entry_at b i = record { kind = number_at b i 2 / 1024; count = number_at b i 2 % 1024; map = bytes_at b (i + 2) 64; mtime = number_at b (i + 66) 8 }

-- the 74 bytes of an entry
abbrev pub sit_entry_bytes : SitEntry → List ℕ
sit_entry_bytes e = little_bytes 2 (1024 * e.kind + e.count) ++ e.map ++ little_bytes 8 e.mtime

-- the type and the count of an entry fit the two bytes that they share
pub record FitsSitEntry (e : SitEntry) : Type 0 where
  pub kind : e.kind < 64
  pub count : e.count < 1024

-- all of an entry fits its 74 bytes
pub record FitsSitBytes (e : SitEntry) : Type 0 where
  pub shared : FitsSitEntry e
  pub map : length e.map ≡ 64
  pub mtime : e.mtime < 2 ^ 64

-- a record of the journal of the segment table
pub record SitRecord : Type 0 where
  pub segment : ℕ
  pub entry : SitEntry

-- the record in the 78 bytes from byte i on, and its bytes
abbrev pub sit_record_at : List ℕ → ℕ → SitRecord
sit_record_at b i = record { segment = number_at b i 4; entry = sit_entry_at b (i + 4) }

abbrev pub sit_record_bytes : SitRecord → List ℕ
sit_record_bytes r = little_bytes 4 r.segment ++ sit_entry_bytes r.entry

-- the number of records that a journal area of 507 bytes says, and its records
abbrev pub journal_count : List ℕ → ℕ
journal_count area = number_at area 0 2

abbrev pub nat_records : List ℕ → List NatRecord
nat_records area = map (λ k. nat_record_at area (2 + 13 * k)) (range_with_len 0 (journal_count area))

abbrev pub sit_records : List ℕ → List SitRecord
sit_records area = map (λ k. sit_record_at area (2 + 78 * k)) (range_with_len 0 (journal_count area))

-- the most records that an area has room for
abbrev pub nat_room : ℕ
nat_room = 38

abbrev pub sit_room : ℕ
sit_room = 6

-- the journal area with this count and the bytes of the records: all behind them is zeros
abbrev pub area_of : ℕ → List ℕ → List ℕ
area_of count records =
    let bytes = little_bytes 2 count ++ records in
    bytes ++ replicate (507 - length bytes) 0

-- the journal area that holds these records
abbrev pub nat_area : List NatRecord → List ℕ
nat_area records = area_of (length records) (flat_map nat_record_bytes records)

abbrev pub sit_area : List SitRecord → List ℕ
sit_area records = area_of (length records) (flat_map sit_record_bytes records)

-- the first of the summary blocks of the data logs, and of the node logs, in a pack with this head
abbrev pub data_summary_start : Block → ℕ
data_summary_start head = if is_compact head then pack_start_sum head else pack_total_block_count head - node_summary_blocks head - 4

abbrev pub node_summary_start : Block → ℕ
node_summary_start head = pack_total_block_count head - 4

-- the journal areas of a pack: of the node address table with log 0, of the segment table with log 2
unfoldable pub nat_journal_area : Pack → List ℕ
nat_journal_area pack =
    let start = data_summary_start (pack_head pack) in
    if is_compact (pack_head pack) then bytes_at (pack start) 0 507 else bytes_at (pack start) 3584 507

unfoldable pub sit_journal_area : Pack → List ℕ
sit_journal_area pack =
    let start = data_summary_start (pack_head pack) in
    if is_compact (pack_head pack) then bytes_at (pack start) 507 507 else bytes_at (pack (start + 2)) 3584 507

-- the journals of a pack hold no more records than they have room for
abbrev pub are_journals_bounded : Pack → Bool
are_journals_bounded pack = nat_le (journal_count (nat_journal_area pack)) nat_room && nat_le (journal_count (sit_journal_area pack)) sit_room

-- the image can be mounted
abbrev pub is_mountable : Image → Bool
is_mountable image = is_loadable image
    && has_checkpoint image
    && nat_lt (checkpoint_ver (head image)) (2 ^ 62)
    && are_journals_bounded (pack image)
