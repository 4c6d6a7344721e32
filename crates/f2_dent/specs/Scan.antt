-- The items that a scan gives.
use Rattle.std.specs.Prelude.{◌≡◌, ℕ, ◌-◌, ◌<◌, true, List, map}
use Rattle.f2_bytes.specs.Bits.{bit_lsb}
use Rattle.f2_bytes.specs.Directory.{name_start, items_from}
use Rattle.f2_bytes.specs.Directory.{Item as FormatItem}
use Rattle.f2_dent.specs.declared.scan.Item.{Item}
use Rattle.f2_dent.specs.declared.scan.DirScan.{DirScan}

-- an item of an area, with the byte at which its name begins in place of the name
abbrev pub item_in_area : List ℕ → ℕ → FormatItem → Item
item_in_area area slots item = record {
  slot = item.place;
  hash = item.hash;
  ino = item.ino;
  kind = item.kind;
  at = name_start area slots item.place;
  len = item.len;
  legal = item.is_legal;
}

-- the items that are still to come
unfoldable pub items_left : DirScan → List Item
items_left s = map (item_in_area s.area.now s.slots) (items_from s.area.now s.slots (s.slots - s.at) s.at)

-- the slot has its bit set, and no item is still to come that begins before it
pub record IsNextSet (s : DirScan) (slot : ℕ) : Type 0 where
  pub within : slot < s.slots
  pub set : bit_lsb s.area.now slot ≡ true
  pub items : items_from s.area.now s.slots (s.slots - s.at) s.at ≡ items_from s.area.now s.slots (s.slots - slot) slot
