-- An entry that is put into the first place that is free for it.
use Rattle.std.specs.Prelude.{◌≡◌, ℕ, ◌<◌, List, find, length, Option, Some, None}
use Rattle.f2_bytes.specs.Buckets.{Placed, level_start}
use Rattle.f2_bytes.specs.Names.{name_hash, slots_for}
use Rattle.f2_dent.specs.Names.{IsName}
use Rattle.f2_dent.specs.Pages.{new_item}
use Rattle.f2_dent.specs.Places.{Blocks, has_place, level_places, PutsIn}
use Rattle.f2_dent.specs.declared.building.Entry.{Entry}

-- the first place that is free for a name
abbrev pub first_place : ℕ → Blocks → List ℕ → Option Placed
first_place levels blocks name = find (has_place blocks) (level_places (name_hash name) (slots_for (length name)) 0 levels)

-- the entry is in the first place, which is in this block
pub record PlacesIn (levels : ℕ) (old new : Blocks) (entry : Entry) (block : ℕ) : Type 0 where
  pub slot : ℕ
  pub first : first_place levels old entry.name ≡ Some (record { block = block; slot = slot; slots = slots_for (length entry.name) })
  pub within : block < level_start levels 0
  pub name : IsName entry.name
  pub puts : PutsIn old new block (new_item slot (name_hash entry.name) entry.ino entry.kind entry.name)

-- no place is free for the entry
pub record HasNoPlace (levels : ℕ) (old : Blocks) (entry : Entry) : Type 0 where
  pub name : IsName entry.name
  pub none : first_place levels old entry.name ≡ None

abbrev pub PlacesEntry : ℕ → Blocks → Blocks → Entry → Option ℕ → Type 0
PlacesEntry levels old new entry None = HasNoPlace levels old entry
PlacesEntry levels old new entry (Some block) = PlacesIn levels old new entry block
