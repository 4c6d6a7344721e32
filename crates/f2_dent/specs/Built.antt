-- The directory that is built of a list of entries.
use Rattle.std.specs.Prelude.{All, ◌≡◌, ℕ, ◌+◌, ◌*◌, ◌&&◌, ◌==◌, List, length, map, filter, flat_map, zip, fold, max, Some, Result, Err}
use Rattle.std.specs.List.{list_any}
use Rattle.f2_bytes.specs.Bytes.{numbers_below}
use Rattle.f2_bytes.specs.Buckets.{Placed, places_of, first_without_place, level_start, level_of_block}
use Rattle.f2_bytes.specs.Directory.{Item, block_slots, scan}
use Rattle.f2_bytes.specs.Names.{name_hash, is_legal_name}
use Rattle.f2_dent.specs.declared.building.BuildRefusal.{BuildRefusal}
use Rattle.f2_dent.specs.declared.building.BuildRefusal.TheVariants.{DirFull}
use Rattle.f2_dent.specs.declared.building.Built.{Built}
use Rattle.f2_dent.specs.declared.building.Entry.{Entry}

-- the names of the entries, in their order
abbrev pub names_in : List Entry → List (List ℕ)
names_in entries = map (λ e. e.name) entries

-- the item of an entry in its place
abbrev pub placed_item : Entry × Placed → Item
placed_item at = record {
  place = at.1.slot;
  hash = name_hash at.0.name;
  ino = at.0.ino;
  kind = at.0.kind;
  len = length at.0.name;
  name = at.0.name;
  is_legal = is_legal_name at.0.name;
}

-- the items of the entries that have their place in block k, by rising slot
abbrev pub items_placed : List (Entry × Placed) → ℕ → List Item
items_placed entries k =
    flat_map (λ slot. map placed_item (filter (λ at. (at.1.block == k) && (at.1.slot == slot)) entries)) (numbers_below block_slots)

-- the greatest number of a list, 0 for none
abbrev pub greatest : List ℕ → ℕ
greatest numbers = fold max 0 numbers

-- The directory of these entries: each stands in the first place that is free for it, and in no other.
pub record IsBuilt (levels : ℕ) (entries : List Entry) (built : Built) : Type 0 where
  -- every entry has a place
  pub placed : List Placed
  pub places : places_of levels (names_in entries) ≡ map Some placed
  -- the blocks are those with an entry
  pub numbers : map (λ b. b.0) built.blocks.items ≡ filter (λ k. list_any (λ p. p.block == k) placed) (numbers_below (level_start levels 0))
  -- each holds its entries, and no other item
  pub items : All (λ b. scan b.1 block_slots ≡ items_placed (zip entries placed) b.0) built.blocks.items
  pub depth : built.depth ≡ greatest (map (λ p. level_of_block 0 p.block + 1) placed)
  pub size : built.size ≡ 4096 * greatest (map (λ p. p.block + 1) placed)

-- the entry that it is refused for is the first one without a place
abbrev pub RefusesBuild : ℕ → List Entry → Result Built BuildRefusal → Type 0
RefusesBuild levels entries (Err (DirFull n)) = first_without_place levels (names_in entries) ≡ Some n
RefusesBuild levels entries result = Unit {0}
