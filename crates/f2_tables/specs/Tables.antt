-- What is seen of the two tables, and what they answer.
use Rattle.std.specs.Prelude.{◌≡◌, ◌≢◌, ◌≤◌, ◌<◌, ℕ, ◌/◌, Bool, ◌&&◌, ◌==◌, if◌then◌else◌, List, filter, length, Option, Some, None, IfSome, option_map, unwrap_or, is_some}
use Rattle.std.specs.List.{list_any}
use Rattle.std.specs.Map.{lookup}
use Rattle.std.specs.BTreeMap.{is_at}
use Rattle.std.specs.Ordering.{nat_cmp}
use Rattle.f2_bytes.specs.declared.layout.Layout.{Layout}
use Rattle.f2_bytes.specs.Bytes.{Block, Image, numbers_below}
use Rattle.f2_bytes.specs.Superblock.{IsInOrder}
use Rattle.f2_bytes.specs.Journal.{NatEntry, NatRecord, SitEntry, SitRecord, FitsSitEntry}
use Rattle.f2_bytes.specs.NodeAddressTable.{nat_entry_in, nat_table_entry, nat_journal_entry, nid_limit}
use Rattle.f2_bytes.specs.SegmentTable.{sit_entry_in, sit_table_entry, sit_journal_entry}
use Rattle.f2_sum.specs.Records.{nat_entry as format_nat_entry, sit_entry as format_sit_entry}
use Rattle.f2_sum.specs.declared.records.NatEntry.{NatEntry as HeldNatEntry}
use Rattle.f2_sum.specs.declared.records.SitEntry.{SitEntry as HeldSitEntry}

-- the value at a number in a map, as the list of its pairs
abbrev pub value_at : {T : Type 0} → List (ℕ × T) → ℕ → Option T
value_at pairs n = lookup (is_at (nat_cmp n)) pairs

-- a value, or this one where there is none and the number is the one meant
abbrev pub or_at : {T : Type 0} → Option T → Bool → T → Option T
or_at (Some value) meant entry = Some value
or_at None meant entry = if meant then Some entry else None

-- The node address table: where its blocks lie, which copy of each is in use, and by their numbers the entries that go
-- before those of its blocks: what was set, and else the first record of the journal.
pub record NatTable : Type 0 where
  pub layout : Layout
  pub bits : List ℕ
  pub newer : List (ℕ × HeldNatEntry)

-- the segment table, likewise
pub record SitTable : Type 0 where
  pub layout : Layout
  pub bits : List ℕ
  pub newer : List (ℕ × HeldSitEntry)

-- the entry of a number that goes before that of its block, if any
abbrev pub nat_newer : NatTable → ℕ → Option NatEntry
nat_newer t nid = option_map format_nat_entry (value_at t.newer nid)

abbrev pub sit_newer : SitTable → ℕ → Option SitEntry
sit_newer t segment = option_map format_sit_entry (value_at t.newer segment)

-- the table was opened with these: only the journal goes before the blocks
pub record OpensNat (l : Layout) (bitmap : List ℕ) (journal : List NatRecord) (t : NatTable) : Type 0 where
  pub layout : t.layout ≡ l
  pub bits : t.bits ≡ bitmap
  pub newer : (nid : ℕ) → nat_newer t nid ≡ nat_journal_entry journal nid

pub record OpensSit (l : Layout) (bitmap : List ℕ) (journal : List SitRecord) (t : SitTable) : Type 0 where
  pub layout : t.layout ≡ l
  pub bits : t.bits ≡ bitmap
  pub newer : (segment : ℕ) → sit_newer t segment ≡ sit_journal_entry journal segment

-- a number was given this entry, and each other one kept its own
pub record SetsNat (nid : ℕ) (e : NatEntry) (old new : NatTable) : Type 0 where
  pub layout : new.layout ≡ old.layout
  pub bits : new.bits ≡ old.bits
  pub newer : (n : ℕ) → nat_newer new n ≡ (if n == nid then Some e else nat_newer old n)

pub record SetsSit (segment : ℕ) (e : SitEntry) (old new : SitTable) : Type 0 where
  pub layout : new.layout ≡ old.layout
  pub bits : new.bits ≡ old.bits
  pub newer : (n : ℕ) → sit_newer new n ≡ (if n == segment then Some e else sit_newer old n)

-- the entry of a number in a table whose block for it is this one
abbrev pub nat_over : NatTable → Block → ℕ → NatEntry
nat_over t b nid = unwrap_or (nat_newer t nid) (nat_entry_in b nid)

abbrev pub sit_over : SitTable → Block → ℕ → SitEntry
sit_over t b segment = unwrap_or (sit_newer t segment) (sit_entry_in b segment)

-- and in a table over an image
abbrev pub nat_in : NatTable → Image → ℕ → NatEntry
nat_in t image nid = unwrap_or (nat_newer t nid) (nat_table_entry t.layout t.bits image nid)

abbrev pub sit_in : SitTable → Image → ℕ → SitEntry
sit_in t image segment = unwrap_or (sit_newer t segment) (sit_table_entry t.layout t.bits image segment)

-- block k, of so many entries each, has an entry below the limit that goes before its own
abbrev pub is_dirty : {T : Type 0} → ℕ → ℕ → (ℕ → Option T) → ℕ → Bool
is_dirty entries limit newer k = list_any (λ n. (n / entries == k) && is_some (newer n)) (numbers_below limit)

-- the blocks that have one, in ascending order
unfoldable pub nat_dirty : NatTable → List ℕ
nat_dirty t = filter (is_dirty 455 (nid_limit t.layout) (nat_newer t)) (numbers_below t.layout.nat_half)

unfoldable pub sit_dirty : SitTable → List ℕ
sit_dirty t = filter (is_dirty 55 t.layout.segments (sit_newer t)) (numbers_below t.layout.sit_half)

-- what is known of a table: its areas lie in order, and it has a bit for each block of a copy
pub record IsNat (t : NatTable) : Type 0 where
  pub in_order : IsInOrder t.layout
  pub bits : length t.bits ≡ t.layout.nat_half / 8

pub record IsSit (t : SitTable) : Type 0 where
  pub in_order : IsInOrder t.layout
  pub bits : length t.bits ≡ t.layout.sit_half / 8
  -- the type and the count of an entry fit their bytes
  pub fits : (segment : ℕ) (e : SitEntry) → sit_newer t segment ≡ Some e → FitsSitEntry e

-- The least number from one on and below another whose entry has an address, if there is one.
pub record IsFirst (from to : ℕ) (entry : ℕ → NatEntry) (found : Option ℕ) : Type 0 where
  pub within : IfSome found (λ n. (from ≤ n) × (n < to))
  pub some : IfSome found (λ n. (entry n).address ≢ 0)
  pub least : IfSome found (λ n. (k : ℕ) → from ≤ k → k < n → (entry k).address ≡ 0)
  pub none : found ≡ None → (k : ℕ) → from ≤ k → k < to → (entry k).address ≡ 0
