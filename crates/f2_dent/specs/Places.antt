-- The blocks of a directory that is being built, and the places in them.
use Rattle.std.specs.Prelude.{◌≡◌, ◌≢◌, ℕ, ◌+◌, ◌<◌, Bool, false, nat_le, List, map, flat_map, replicate, Option, Some, None, unwrap_or, slice_index}
use Rattle.std.specs.List.{range_with_len}
use Rattle.std.specs.Option.{option_map}
use Rattle.std.specs.Ordering.{nat_cmp}
use Rattle.std.specs.BTreeMap.{BTreeMap, get}
use Rattle.f2_bytes.specs.Buckets.{Placed, places_in_level}
use Rattle.f2_bytes.specs.Bytes.{Block}
use Rattle.f2_bytes.specs.Directory.{Item, block_slots}
use Rattle.f2_dent.specs.Pages.{is_run, HasPut}
use Rattle.f2_dent.specs.declared.page.Page.{Page}

-- the blocks by their numbers; those with no name have none
abbrev pub Blocks : Type 0
Blocks = ℕ → Option Block

abbrev pub block_in : BTreeMap ℕ Page → Blocks
block_in pages k = option_map (λ p. p.block) (get nat_cmp pages k)

unfoldable pub empty_block : Block
empty_block = replicate 4096 0

-- so many slots from this one on are free, and lie within the block
abbrev pub is_free : Option Block → ℕ → ℕ → Bool
is_free None slots slot = nat_le (slot + slots) block_slots
is_free (Some b) slots slot = is_run block_slots b slots slot

abbrev pub has_place : Blocks → Placed → Bool
has_place blocks p = is_free (blocks p.block) p.slots p.slot

abbrev pub place_at : ℕ → ℕ × ℕ → Placed
place_at slots at = record { block = at.0; slot = at.1; slots = slots }

-- block k has no run of so many free slots
abbrev pub LacksRun : Blocks → ℕ → ℕ → Type 0
LacksRun blocks slots k = (slot : ℕ) → is_free (blocks k) slots slot ≡ false

-- for each number of slots, no block below this one has a run of so many
pub record IsFull (blocks : Blocks) (full : List ℕ) : Type 0 where
  pub lacks : (slots k : ℕ) → k < slice_index full slots → LacksRun blocks slots k

-- the places in a block
unfoldable pub places_in : ℕ → ℕ → List Placed
places_in slots k = map (λ slot. record { block = k; slot = slot; slots = slots }) (range_with_len 0 block_slots)

-- the places in n blocks from this one on, and those of a hash in n levels
unfoldable pub places_from : ℕ → ℕ → ℕ → List Placed
places_from slots first n = flat_map (λ j. places_in slots (first + j)) (range_with_len 0 n)

unfoldable pub level_places : ℕ → ℕ → ℕ → ℕ → List Placed
level_places hash slots from n = flat_map (places_in_level hash slots) (range_with_len from n)

-- block k has the item now, and each other block is as before
pub record PutsIn (old new : Blocks) (k : ℕ) (item : Item) : Type 0 where
  pub block : Block
  pub here : new k ≡ Some block
  pub put : HasPut (unwrap_or (old k) empty_block) block item
  pub others : (q : ℕ) → q ≢ k → new q ≡ old q
