-- The buckets of a directory: where the names of a hash may stand, and where they are put.
use Rattle.std.specs.Prelude.{ℕ, ◌+◌, ◌-◌, ◌*◌, ◌/◌, ◌%◌, ◌^◌, Bool, not, ◌&&◌, ◌==◌, nat_le, nat_lt, if◌then◌else◌, List, [], ◌∷◌, ◌++◌, map, flat_map, length, find, position, sum_by, Option, is_none, unwrap_or}
use Rattle.std.specs.List.{list_any, cons_option, range_with_len}
use Rattle.f2_bytes.specs.Directory.{block_slots}
use Rattle.f2_bytes.specs.Names.{name_hash, slots_for}

-- the buckets of a level, and the blocks of each
unfoldable pub bucket_count : ℕ → ℕ → ℕ
bucket_count level depth = if nat_lt (level + depth) 31 then 2 ^ (level + depth) else 2 ^ 30

abbrev pub bucket_blocks : ℕ → ℕ
bucket_blocks level = if nat_lt level 31 then 2 else 4

-- the first block of a level
unfoldable pub level_start : ℕ → ℕ → ℕ
level_start level depth = sum_by (λ l. bucket_count l depth * bucket_blocks l) (range_with_len 0 level)

-- the bucket of a hash in a level, and its first block
abbrev pub bucket_of : ℕ → ℕ → ℕ → ℕ
bucket_of level depth hash = hash % bucket_count level depth

abbrev pub bucket_start : ℕ → ℕ → ℕ → ℕ
bucket_start level depth hash = level_start level depth + bucket_of level depth hash * bucket_blocks level

-- the level of a block of a directory, and the bucket there
abbrev pub level_of_block : ℕ → ℕ → ℕ
level_of_block depth block = unwrap_or (find (λ l. nat_lt block (level_start (l + 1) depth)) (range_with_len 0 64)) 0

abbrev pub bucket_of_block : ℕ → ℕ → ℕ
bucket_of_block depth block = let l = level_of_block depth block in (block - level_start l depth) / bucket_blocks l

-- a name that has been placed: its block, its first slot, and how many slots it takes
pub record Placed : Type 0 where
  pub block : ℕ
  pub slot : ℕ
  pub slots : ℕ

-- two names share a slot
abbrev pub is_overlapping : Placed → Placed → Bool
is_overlapping p q = (p.block == q.block) && nat_lt p.slot (q.slot + q.slots) && nat_lt q.slot (p.slot + p.slots)

-- where a name of this hash and this many slots may stand in a level, in order: by block of its bucket, by slot
abbrev pub places_in_level : ℕ → ℕ → ℕ → List Placed
places_in_level hash slots level =
    let first = bucket_start level 0 hash in
    flat_map (λ j. map (λ slot. record { block = first + j; slot = slot; slots = slots }) (range_with_len 0 block_slots)) (range_with_len 0 (bucket_blocks level))

-- the same in all levels, the lowest first
unfoldable pub candidates : ℕ → List ℕ → List Placed
candidates levels name = flat_map (places_in_level (name_hash name) (slots_for (length name))) (range_with_len 0 levels)

-- the first place that lies within its block and shares no slot with a name before
abbrev pub first_fit : ℕ → List Placed → List ℕ → Option Placed
first_fit levels before name =
    find (λ p. nat_le (p.slot + p.slots) block_slots && not (list_any (is_overlapping p) before)) (candidates levels name)

-- the places of the names, each the first that fits after those before
unfoldable pub placed_after : ℕ → List Placed → List (List ℕ) → List (Option Placed)
placed_after levels before [] = []
placed_after levels before (name ∷ names) =
    let here = first_fit levels before name in
    let rest = placed_after levels (before ++ cons_option here []) names in
    here ∷ rest

abbrev pub places_of : ℕ → List (List ℕ) → List (Option Placed)
places_of levels names = placed_after levels [] names

-- the first name without a place
abbrev pub first_without_place : ℕ → List (List ℕ) → Option ℕ
first_without_place levels names = position is_none (places_of levels names)
