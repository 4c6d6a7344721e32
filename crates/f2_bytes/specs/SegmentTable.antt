-- The segment table: for each main segment the type of its blocks, and which of them are valid.
use Rattle.std.specs.Prelude.{◌≡◌, ℕ, ◌+◌, ◌-◌, ◌*◌, ◌/◌, ◌%◌, Bool, ◌&&◌, ◌==◌, if◌then◌else◌, List, filter, find, Option, option_map, unwrap_or}
use Rattle.std.specs.List.{list_any, range_with_len}
use Rattle.f2_bytes.specs.declared.layout.Layout.{Layout}
use Rattle.f2_bytes.specs.Bytes.{Block, Image, block_at, numbers_below}
use Rattle.f2_bytes.specs.Bits.{bit_msb}
use Rattle.f2_bytes.specs.Superblock.{layout, is_main, segment_of, place_of}
use Rattle.f2_bytes.specs.Checkpoint.{sit_bits, head, pack}
use Rattle.f2_bytes.specs.Journal.{SitEntry, SitRecord, sit_entry_at, sit_records, sit_journal_area}

-- where block k of the table stands: the copies follow each other, and the bitmap says which one is in use
abbrev pub sit_block_address : Layout → List ℕ → ℕ → ℕ
sit_block_address l bits k = l.sit + k + (if bit_msb bits k then l.sit_half else 0)

-- the entry of a segment in its block of the table, which has 55
abbrev pub sit_entry_in : Block → ℕ → SitEntry
sit_entry_in b segment = sit_entry_at b (74 * (segment % 55))

-- the entry of a segment in the copy that is in use
abbrev pub sit_table_entry : Layout → List ℕ → Image → ℕ → SitEntry
sit_table_entry l bits image segment = sit_entry_in (block_at image (sit_block_address l bits (segment / 55))) segment

-- the entry of a segment in a journal, if any: that of its first record
unfoldable pub sit_journal_entry : List SitRecord → ℕ → Option SitEntry
sit_journal_entry journal segment = option_map (λ r. r.entry) (find (λ r. r.segment == segment) journal)

-- the entry of a segment: the journal goes before the table
unfoldable pub sit_entry : Layout → List ℕ → List SitRecord → Image → ℕ → SitEntry
sit_entry l bits journal image segment =
    unwrap_or (sit_journal_entry journal segment) (sit_table_entry l bits image segment)

-- the journal of an image
abbrev pub sit_journal : Image → List SitRecord
sit_journal image = sit_records (sit_journal_area (pack image))

-- the segment table of an image
unfoldable pub sit : Image → ℕ → SitEntry
sit image segment = sit_entry (layout image) (sit_bits (head image)) (sit_journal image) image segment

-- whether block number k of a segment is valid
abbrev pub is_block_valid : Image → ℕ → ℕ → Bool
is_block_valid image segment k = bit_msb (sit image segment).map k

-- whether a segment has a valid block
abbrev pub has_valid_block : Image → ℕ → Bool
has_valid_block image segment = list_any (is_block_valid image segment) (numbers_below 512)

-- ---- the valid blocks of a range

-- a block of the main area that is valid stands at this address
abbrev pub is_valid_address : Image → ℕ → Bool
is_valid_address image address =
    is_main (layout image) address
    && is_block_valid image (segment_of (layout image) address) (place_of (layout image) address)

-- the addresses of valid blocks of the main area, from one up to another, ascending
unfoldable pub valid_addresses : Image → ℕ → ℕ → List ℕ
valid_addresses image start end = filter (is_valid_address image) (range_with_len start (end - start))

-- these are the addresses of the valid blocks from one up to another: all of them, each once, ascending
abbrev pub AreValid : Image → ℕ → ℕ → List ℕ → Type 0
AreValid image start end addresses = addresses ≡ valid_addresses image start end
