-- The node address table: for each node its inode and the block where it stands.
use Rattle.std.specs.Prelude.{ℕ, ◌+◌, ◌-◌, ◌*◌, ◌/◌, ◌%◌, ◌&&◌, Bool, not, ◌==◌, nat_le, nat_lt, if◌then◌else◌, List, find, Option, Some, None, option_map, unwrap_or}
use Rattle.f2_bytes.specs.declared.layout.Layout.{Layout}
use Rattle.f2_bytes.specs.Bytes.{Block, Image, block_at, numbers_below}
use Rattle.f2_bytes.specs.Bits.{bit_msb}
use Rattle.f2_bytes.specs.Superblock.{layout}
use Rattle.f2_bytes.specs.Checkpoint.{nat_bits, head, pack}
use Rattle.f2_bytes.specs.Journal.{NatEntry, NatRecord, nat_entry_at, nat_records, nat_journal_area}

-- the numbers of nodes that the table has entries for are those below this: 455 in each block of a copy
abbrev pub nid_limit : Layout → ℕ
nid_limit l = 455 * l.nat_half

-- the least number of a node: 0 is none, and 1 and 2 stand for the tables themselves
abbrev pub first_nid : ℕ
first_nid = 3

-- where block k of the table stands: the copies take turns by 512 blocks, and the bitmap says which one is in use
abbrev pub nat_block_address : Layout → List ℕ → ℕ → ℕ
nat_block_address l bits k = l.nat + 2 * k - k % 512 + (if bit_msb bits k then 512 else 0)

-- the entry of a node in its block of the table
abbrev pub nat_entry_in : Block → ℕ → NatEntry
nat_entry_in b nid = nat_entry_at b (9 * (nid % 455))

-- the entry of a node in the copy that is in use
abbrev pub nat_table_entry : Layout → List ℕ → Image → ℕ → NatEntry
nat_table_entry l bits image nid = nat_entry_in (block_at image (nat_block_address l bits (nid / 455))) nid

-- the entry of a node in a journal, if any: that of its first record
unfoldable pub nat_journal_entry : List NatRecord → ℕ → Option NatEntry
nat_journal_entry journal nid = option_map (λ r. r.entry) (find (λ r. r.nid == nid) journal)

-- the entry of a node: the journal goes before the table
unfoldable pub nat_entry : Layout → List ℕ → List NatRecord → Image → ℕ → NatEntry
nat_entry l bits journal image nid = unwrap_or (nat_journal_entry journal nid) (nat_table_entry l bits image nid)

-- the number is that of a node: it lies in the table, and its entry has an address
abbrev pub is_live : Layout → ℕ → NatEntry → Bool
is_live l nid entry = nat_le first_nid nid && nat_lt nid (nid_limit l) && not (entry.address == 0)

-- the least number of a node from one on, where each number has this entry
unfoldable pub next_live : Layout → (ℕ → NatEntry) → ℕ → Option ℕ
next_live l entry from = find (λ nid. nat_le from nid && is_live l nid (entry nid)) (numbers_below (nid_limit l))

-- the entry of a node, if it is one
abbrev pub live_entry : Layout → List ℕ → List NatRecord → Image → ℕ → Option NatEntry
live_entry l bits journal image nid = let entry = nat_entry l bits journal image nid in if is_live l nid entry then Some entry else None

-- the journal of an image
abbrev pub nat_journal : Image → List NatRecord
nat_journal image = nat_records (nat_journal_area (pack image))

-- what an image says of a number, whether it is that of a node or not
abbrev pub image_nat_entry : Image → ℕ → NatEntry
image_nat_entry image nid = nat_entry (layout image) (nat_bits (head image)) (nat_journal image) image nid

-- the node address table of an image
unfoldable pub nat : Image → ℕ → Option NatEntry
nat image nid = live_entry (layout image) (nat_bits (head image)) (nat_journal image) image nid
