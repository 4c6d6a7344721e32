-- What an image that meets rule 4 says of what is kept of its files: owners of blocks are right, and all directories were read.
use Rattle.std.proofs.Common.{◌≡◌, ℕ, ◌+◌, ◌-◌, ◌*◌, ◌^◌, ◌<◌, ◌≤◌, List, [], ◌∷◌, Bool, true, false, not, ◌==◌, cond, All, filter, length, get_or, Option, Some, None, refl, sym, ap, ◌∙◌, ⊎_elim, arith}
use Rattle.std.specs.Prelude.{filter_map}
use Rattle.std.specs.List.{cons_option}
use Rattle.std.proofs.lemmas.Bool.{eqb-true, eq-eqb, ne_eqb}
use Rattle.std.proofs.lemmas.List.Sums.{sum_by-cons, sum_by-le, count_by-le-length, length-filter}
use Rattle.f2_bytes.specs.Bytes.{Image, numbers_below}
use Rattle.f2_bytes.specs.Superblock.{layout, is_main, IsInOrder}
use Rattle.f2_bytes.specs.Tree.{is_inode}
use Rattle.f2_bytes.specs.Check.{Defect, defects, nids, is_address, used_slots, slots_with, nodes_with, fails_where, same, where_true, defect_of, part_defects}
use Rattle.f2_files.specs.Addresses.{outside_defect}
use Rattle.f2_items.specs.Directories.{DirectoriesAfter, HasHoles, IsGathered}
use Rattle.f2_files.specs.Kept.{KeptAfter}
use Rattle.f2_survey.specs.OwnerTables.{OwnerTable, slots_at, Breaks, HasOwners, IsOwners}
use Rattle.f2_survey.specs.Parts.{part_in}
use Rattle.f2_files.specs.Repeats.{repeat_defect}
use Rattle.f2_survey.specs.Slots.{Slot, all_slots}
use Rattle.f2_areas.specs.Totals.{slot_total}
use Rattle.f2_files.specs.declared.kept_of_files.Kept.{Kept}
use Rattle.f2_files.proofs.DirectoryBlocks.{no_main_block}
use Rattle.f2_items.proofs.FileSlots.{used_slots-few}
use Rattle.f2_rules.proofs.MetRules.{outside_met, repeats_met}
use Rattle.f2_survey.proofs.NumberLists.{length-numbers}
use Rattle.f2_survey.proofs.OwnerClaims.{main-address}
use Rattle.f2_files.proofs.RepeatCounts.{address-some}
use Rattle.f2_files.proofs.SlotCounts.{length-all_slots, slots_at-all, owner_among-all}
use Rattle.f2_rules.proofs.SlotParts.{outside-part, repeats-part}

-- ---- lists of slots

slots_at-cons : (s : Slot) (slots : List Slot) (a : ℕ) → slots_at (s ∷ slots) a ≡ cond (s.address == a) 1 0 + slots_at slots a
unfolding slots_at
slots_at-cons s slots a = sum_by-cons (λ (t : Slot). cond (t.address == a) 1 0) s slots

slots_at-nil : (a : ℕ) → slots_at [] a ≡ 0
unfolding slots_at
slots_at-nil a = refl

-- where each slot of a list with an address of its own gives nothing, all of them do
none-listed : (f : Slot → Option Defect) (all slots : List Slot) → ((a : ℕ) → slots_at slots a ≤ slots_at all a) → ((s : Slot) → 1 ≤ slots_at all s.address → f s ≡ None)
    → filter_map f slots ≡ []
none-listed f all [] among none = refl
none-listed f all (s ∷ slots) among none =
    (λ i. cons_option (here i) (none-listed f all slots (λ a. let m = among a in let c = slots_at-cons s slots a in omega (arith, m, c)) none i))
  where
    here : f s ≡ None
    here =
        let one : cond {A = ℕ} (s.address == s.address) 1 0 ≡ 1 = ap (λ b. cond {A = ℕ} b 1 0) (eq-eqb s.address s.address refl) in
        none s (let m = among s.address in let c = slots_at-cons s slots s.address in omega (arith, m, c, one))

-- a slot with this address, which gives nothing
record Silent (f : Slot → Option Defect) (a : ℕ) : Type 0 where
  slot : Slot
  at : slot.address ≡ a
  none : f slot ≡ None

silent : (f : Slot → Option Defect) (slots : List Slot) (a : ℕ) → filter_map f slots ≡ [] → 1 ≤ slots_at slots a → Silent f a
silent f [] a none some = absurd (let z = slots_at-nil a in omega (arith, z, some))
silent f (s ∷ slots) a none some = go (f s) refl none (silent f slots a)
  where
    go : (o : Option Defect) → f s ≡ o → cons_option o (filter_map f slots) ≡ [] → (filter_map f slots ≡ [] → 1 ≤ slots_at slots a → Silent f a) → Silent f a
    go (Some d) e listed rest = absurd (cc listed)
    go None e listed rest = at (s.address == a) refl
      where
        at : (b : Bool) → (s.address == a) ≡ b → Silent f a
        at true same_address = record { slot = s; at = eqb-true s.address a same_address; none = e }
        at false other =
            let c = slots_at-cons s slots a in
            let zero : cond {A = ℕ} (s.address == a) 1 0 ≡ 0 = ap (λ b. cond {A = ℕ} b 1 0) other in
            rest listed (omega (arith, c, zero, some))

module _ (image : Image) where
  outside-fails : (s : Slot) → is_address s.address ≡ true → is_main (layout image) s.address ≡ false → outside_defect image s ≡ None → ⊥
  outside-fails s names outside none =
      let e = (λ i. defect_of 1 s.ino s.k (where_true (sym names i) (fails_where (not (sym outside i)) s.address (layout image).main))) ∙ none in cc e

  repeat-fails : (s : Slot) → is_address s.address ≡ true → 2 ≤ slots_with image s.address + nodes_with image s.address → repeat_defect image s ≡ None → ⊥
  repeat-fails s names twice none =
      let n = slots_with image s.address + nodes_with image s.address in
      let other : (slots_with image s.address + nodes_with image s.address == 1) ≡ false = ne_eqb n 1 (λ e. omega (arith, e, twice)) in
      let e = (λ i. defect_of 2 s.ino s.k (where_true (sym names i) (Some (record { found = n; wanted = 1; fails = not (sym other i) })))) ∙ none in cc e

  repeat-passes : (s : Slot) → (is_address s.address ≡ true → slots_with image s.address + nodes_with image s.address ≡ 1) → repeat_defect image s ≡ None
  repeat-passes s one = go (is_address s.address) one
    where
      n : ℕ
      n = slots_with image s.address + nodes_with image s.address

      go : (b : Bool) → (b ≡ true → n ≡ 1) → defect_of 2 s.ino s.k (where_true b (same n 1)) ≡ None
      go true is = ap (λ b. defect_of 2 s.ino s.k (Some (record { found = n; wanted = 1; fails = not b }))) (eq-eqb n 1 (is refl))
      go false is = refl

  module _ (o : OwnerTable) (has : HasOwners image (all_slots image) o) where
    -- where owners aren't spoiled, no block was claimed twice
    pub repeats-none : o.spoiled ≡ false → part_defects (part_in image 4 2) ≡ []
    repeats-none sound =
        sym (repeats-part image)
        ∙ none-listed (repeat_defect image) (all_slots image) (all_slots image) (λ a. omega arith) (λ s some.
        repeat-passes s (λ names.
        let one = (has.sole sound s.address names some).one in
        let all = slots_at-all image s.address (address-some s.address names) in
        omega (arith, one, all)))

    -- where the image meets rule 4, they aren't
    pub sound-owners : defects image 4 ≡ [] → o.spoiled ≡ false
    sound-owners none = go o.spoiled refl
      where
        broken : Breaks image (all_slots image) → ⊥
        broken b =
            ⊎_elim (λ outside.
            let s = silent (outside_defect image) (all_slots image) b.address (outside-part image ∙ outside_met image none) b.has in
            outside-fails s.slot (ap is_address s.at ∙ b.names) (ap (is_main (layout image)) s.at ∙ outside) s.none)
            (λ twice.
            let s = silent (repeat_defect image) (all_slots image) b.address (repeats-part image ∙ repeats_met image none) b.has in
            let all = slots_at-all image b.address (address-some b.address b.names) in
            let same_address : slots_with image s.slot.address + nodes_with image s.slot.address ≡ slots_with image b.address + nodes_with image b.address = ap (λ a. slots_with image a + nodes_with image a) s.at in
            repeat-fails s.slot (ap is_address s.at ∙ b.names) (omega (arith, twice, all, same_address)) s.none)
            b.breaks

        go : (b : Bool) → o.spoiled ≡ b → b ≡ false
        go false is = refl
        go true is = absurd (broken (has.breaks is))

    pub right-owners : defects image 4 ≡ [] → IsOwners image o
    right-owners none = record {
      lies = has.lies;
      right = λ address main.
          has.right (sound-owners none) address main
          ∙ owner_among-all image address (address-some address (main-address image address has.in_order main));
    }

  -- a hole is no block of the main area
  pub has_holes : IsInOrder (layout image) → HasHoles image
  has_holes order = no_main_block image 0 order refl

  -- ---- what is kept of all files

  module _ (k : Kept) (kept : KeptAfter image (nids image) k) where
    pub kept-owners : defects image 4 ≡ [] → IsOwners image k.addresses.owners
    kept-owners none = right-owners k.addresses.owners kept.addresses.owners none

    pub kept-directories : defects image 4 ≡ [] → IsGathered image (nids image) k.directories
    unfolding DirectoriesAfter
    kept-directories none = kept.directories (sound-owners k.addresses.owners kept.addresses.owners none) (has_holes kept.addresses.owners.in_order)

    few : (xs : List ℕ) → All (λ ino. used_slots image ino ≤ 2 ^ 32) xs
    few xs = λ i d low. let u = used_slots-few image (get_or xs i d) in omega (arith, u)

    total-few : slot_total image < 2 ^ 64 - 1
    total-few =
        let order = kept.addresses.owners.in_order in
        let nids_low : nids image ≤ 13977600 = let h = order.halves in omega (arith, h) in
        let files = filter (is_inode image) (numbers_below (nids image)) in
        let sum : slot_total image ≤ length (filter (is_inode image) (numbers_below (nids image))) * 2 ^ 32 = sum_by-le (used_slots image) (2 ^ 32) files (few files) in
        let some = length-filter (is_inode image) (numbers_below (nids image)) in
        let most = count_by-le-length (is_inode image) (numbers_below (nids image)) in
        let all = length-numbers (nids image) in
        omega (arith, nids_low, sum, some, most, all)

    pub kept-total : k.usage.used ≡ slot_total image
    kept-total =
        let used = kept.usage.used in
        let all : length (all_slots image) ≡ slot_total image = length-all_slots image in
        let low = total-few in
        omega (arith, used, all, low)
