-- The first place that is free for an entry.
use Rattle.std.proofs.Common.{◌≡◌, ℕ, ◌+◌, ◌-◌, ◌≤◌, ◌<◌, List, length, sym, ap, ◌∙◌, subst, arith}
use Rattle.std.specs.Prelude.{find, Option, Some, None}
use Rattle.f2_bytes.specs.Buckets.{Placed, level_start}
use Rattle.f2_bytes.specs.Names.{name_hash, slots_for}
use Rattle.f2_dent.specs.Names.{IsName}
use Rattle.f2_dent.specs.Pages.{new_item}
use Rattle.f2_dent.specs.Places.{Blocks, has_place, place_at, level_places, LacksRun, IsFull, PutsIn}
use Rattle.f2_dent.specs.Entries.{first_place, PlacesIn, HasNoPlace}
use Rattle.f2_dent.specs.declared.building.Entry.{Entry}
use Rattle.f2_dent.proofs.Lows.{from_level, full_same, full_kept}
use Rattle.f2_dent.proofs.Places.{find_passes, place_within, place_of_levels}

-- the place that was looked for from a level on, by what the code has of the name
module _ (levels from : ℕ) (old : Blocks) (entry : Entry) (name : List ℕ) (hash slots : ℕ) (same : name ≡ entry.name) (hash_is : hash ≡ name_hash name) (slots_are : slots ≡ slots_for (length name)) (legal : IsName entry.name)
    (lacks : (k : ℕ) → k < level_start from 0 → LacksRun old slots k) where
  slots_of_entry : slots ≡ slots_for (length entry.name)
  slots_of_entry = slots_are ∙ ap (λ n. slots_for (length n)) same

  hash_of_entry : hash ≡ name_hash entry.name
  hash_of_entry = hash_is ∙ ap name_hash same

  pub slots_some : 1 ≤ slots
  slots_some = omega (arith, slots_of_entry, legal.some)

  pub slots_few : slots ≤ 32
  slots_few = omega (arith, slots_of_entry, legal.few)

  in_all : (found : Option Placed) → found ≡ find (has_place old) (level_places hash slots from (levels - from)) → find (has_place old) (level_places hash slots 0 levels) ≡ found
  in_all found is = sym (from_level old hash slots from levels lacks) ∙ sym is

  first_is : (found : Option Placed) → found ≡ find (has_place old) (level_places hash slots from (levels - from)) → first_place levels old entry.name ≡ found
  first_is found is = (λ i. find (has_place old) (level_places (sym hash_of_entry i) (sym slots_of_entry i) 0 levels)) ∙ in_all found is

  pub no_place : None ≡ find (has_place old) (level_places hash slots from (levels - from)) → HasNoPlace levels old entry
  no_place is = record { name = legal; none = first_is None is }

  module _ (mid new : Blocks) (block slot : ℕ) (is : Some (place_at slots (block, slot)) ≡ find (has_place old) (level_places hash slots from (levels - from))) where
    found : find (has_place old) (level_places hash slots 0 levels) ≡ Some (place_at slots (block, slot))
    found = in_all (Some (place_at slots (block, slot))) is

    pub slot_within : slot + slots_for (length entry.name) ≤ 214
    slot_within = let within : slot + slots ≤ 214 = place_within (old block) slots slot (find_passes (has_place old) (level_places hash slots 0 levels) (place_at slots (block, slot)) found) in omega (arith, within, slots_of_entry)

    module _ (kept : (k : ℕ) → mid k ≡ old k) (puts : PutsIn mid new block (new_item slot hash entry.ino entry.kind entry.name)) where
      pub places_in : PlacesIn levels old new entry block
      places_in =
          let there = place_of_levels old hash slots levels (place_at slots (block, slot)) found in
          let mids : mid ≡ old = λ i k. kept k i in
          record {
            slot = slot;
            first = first_is (Some (place_at slots (block, slot))) is ∙ ap (λ s. Some (place_at s (block, slot))) slots_of_entry;
            within = there.0;
            name = legal;
            puts = subst (λ (h : ℕ). PutsIn old new block (new_item slot h entry.ino entry.kind entry.name)) hash_of_entry (subst (λ (b : Blocks). PutsIn b new block (new_item slot hash entry.ino entry.kind entry.name)) mids puts);
          }

      pub full_now : (full : List ℕ) → IsFull old full → IsFull new full
      full_now full was = full_kept mid new full block (new_item slot hash entry.ino entry.kind entry.name) puts (full_same old mid full kept was)
