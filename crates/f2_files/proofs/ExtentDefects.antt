-- The comparisons of an extent are those of all its blocks.
use Rattle.std.proofs.Common.{◌≡◌, ◌⊎◌, inl, inr, ℕ, suc, ◌+◌, ◌-◌, ◌*◌, ◌<◌, ◌≤◌, min, max, List, [], ◌∷◌, ◌++◌, Bool, true, false, not, ◌==◌, ◌&&◌, ◌||◌, nat_le, nat_lt, cond, Option, Some, None, refl, sym, ap, subst, ◌∙◌, ⊎_elim, arith, lit≤, append_assoc}
use Rattle.std.specs.Prelude.{filter_map}
use Rattle.std.specs.List.{range_with_len}
use Rattle.std.specs.Option.{option_map_or}
use Rattle.std.proofs.lemmas.Bool.{cases_lt, cases_Bool, and_parts, not-true, and_from, and_left, and_right, le-leb, lt-leb, lt-ltb, le-ltb, eq-eqb, eqb-true, cond-true, cond-false, false≢true}
use Rattle.std.proofs.lemmas.List.{append-nil}
use Rattle.std.proofs.lemmas.List.Elements.{filter_map-append}
use Rattle.f2_bytes.specs.Bytes.{Block, Image, numbers_below}
use Rattle.f2_bytes.specs.Node.{has_inline_xattr, has_inline_dentry, is_regular, is_symlink, is_directory, is_inline, has_slots, address_count, block_limit}
use Rattle.f2_bytes.specs.Tree.{tree_slot, is_inode}
use Rattle.f2_bytes.specs.Check.{Defect, inode_of, inode_parts, extent_found, none_value, same, of_value, where_true, defect_of, defects_at, spot_of, nid_of_spot}
use Rattle.f2_defects.specs.Collected.{Collection, Collects, Compares, defects_of, run_defects}
use Rattle.f2_files.specs.Extents.{Extent, Walk, extent_of, extent_in, wanted_at, hole_defects, slot_defects, walked, ExtentsAfter, ExtentsInside}
use Rattle.f2_survey.specs.Parts.{part_in}
use Rattle.f2_survey.specs.Slots.{Slot, slot_at, file_slots}
use Rattle.f2_items.specs.Visits.{found_below}
use Rattle.f2_bytes.specs.Node.{ext_fofs, ext_addr, ext_len, most_blocks}
use Rattle.f2_files.specs.declared.rule_9_extents.Extents.{Extents}
use Rattle.f2_items.proofs.AddressCounts.{address_count-few}
use Rattle.f2_items.proofs.FilteredRanges.{filter_map-range, filter_map-nothing}
use Rattle.f2_files.proofs.ExtentWalks.{Holds, walked-none, walked-push, walk-skips, walk-steps, walked-all}
use Rattle.f2_items.proofs.FileSlots.{inode-read, inode-none, below-suc}
use Rattle.f2_defects.proofs.Runs.{range-append}
use Rattle.f2_survey.proofs.Spots.{locate-past}
use Rattle.f2_view.proofs.TreeReads.{no_slots, slot_at as slot_of_spot}

most-far : (n k : ℕ) → n ≤ 923 → most_blocks ≤ k → n + 1018 * 1038362 ≤ k
unfolding most_blocks
most-far n k few far = omega (arith, few, far)

-- an inode with slots isn't inline
not_inline : (b : Block) → has_slots b ≡ true → is_inline b ≡ false
not_inline b has = not-true (is_inline b) (and_parts (is_regular b || is_symlink b || is_directory b) (not (is_inline b)) has).1

module _ (image : Image) (ino : ℕ) where
  abbrev made : ℕ → Slot
  made k = record { ino = ino; k = k; address = tree_slot image ino k; nid = nid_of_spot image (ino, k); place = (spot_of image (ino, k)).1 }

  -- the slot of a block, and its address
  slot-holds : (k : ℕ) → Holds k (tree_slot image ino k) (slot_at image ino k)
  slot-holds k = record { holds = go (tree_slot image ino k == 0) refl }
    where
      go : (b : Bool) → (tree_slot image ino k == 0) ≡ b
          → ((slot_at image ino k ≡ None) × (tree_slot image ino k ≡ 0)) ⊎ ((s : Slot) × (slot_at image ino k ≡ Some s) × (s.k ≡ k) × (s.address ≡ tree_slot image ino k))
      go true e = inl (ap (λ b. cond b None (Some (made k))) e, eqb-true (tree_slot image ino k) 0 e)
      go false e = inr (made k, ap (λ b. cond b None (Some (made k))) e, refl, refl)

  slots-past : (n d : ℕ) → ((k : ℕ) → n ≤ k → tree_slot image ino k ≡ 0) → filter_map (slot_at image ino) (numbers_below (n + d)) ≡ filter_map (slot_at image ino) (numbers_below n)
  unfolding numbers_below
  slots-past n d none =
      ap (filter_map (slot_at image ino)) (range-append 0 n d)
      ∙ filter_map-append (slot_at image ino) (range_with_len 0 n) (range_with_len (0 + n) d)
      ∙ ap (λ l. filter_map (slot_at image ino) (range_with_len 0 n) ++ l) (filter_map-nothing (slot_at image ino) (0 + n) d (λ k low high.
      ap (λ b. cond b None (Some (made k))) (eq-eqb (tree_slot image ino k) 0 (none k (omega (arith, low))))))
      ∙ append-nil (filter_map (slot_at image ino) (range_with_len 0 n))

  -- two limits from which on there are holes alone
  slots-limits : (m n : ℕ) → ((k : ℕ) → m ≤ k → tree_slot image ino k ≡ 0) → ((k : ℕ) → n ≤ k → tree_slot image ino k ≡ 0)
      → filter_map (slot_at image ino) (numbers_below m) ≡ filter_map (slot_at image ino) (numbers_below n)
  slots-limits m n from_m from_n =
      ⊎_elim (λ below. sym (slots-past m (n - m) from_m) ∙ ap (λ l. filter_map (slot_at image ino) (numbers_below l)) (let e : m + (n - m) ≡ n = omega (arith, below) in e))
      (λ past. ap (λ l. filter_map (slot_at image ino) (numbers_below l)) (let e : m ≡ n + (m - n) = omega (arith, past) in e) ∙ slots-past n (m - n) from_n)
      (cases_lt m n)

  -- the comparison of block k, where the file has this inode
  abbrev at_block : Option Block → ℕ → Option Defect
  at_block o k =
      defect_of 3 ino k (of_value o (λ b. where_true (is_regular b && nat_le (ext_fofs b) k) (same (extent_found b (tree_slot image ino) k) (ext_addr b + k - ext_fofs b))))

  defects-with : (o : Option Block) → inode_of image ino ≡ o
      → defects_at (part_in image 9 3) ino ≡ filter_map (at_block o) (numbers_below (option_map_or (λ b. ext_fofs b + ext_len b) o 0))
  unfolding inode_parts defects_at
  defects-with o is = ap (λ o. filter_map (at_block o) (numbers_below (option_map_or (λ b. ext_fofs b + ext_len b) o 0))) is

  pub extent-no_inode : inode_of image ino ≡ None → defects_at (part_in image 9 3) ino ≡ []
  unfolding numbers_below
  extent-no_inode is = defects-with None is

  module _ (b : Block) (is : inode_of image ino ≡ Some b) where
    abbrev x : Extent
    x = extent_of b

    abbrev found : ℕ → ℕ
    found = extent_found b (tree_slot image ino)

    abbrev at_found : ℕ → Option Defect
    at_found k = defect_of 3 ino k (same (found k) (wanted_at x k))

    -- the defects at an inode are those of the blocks that its extent speaks of
    regular : is_regular b ≡ true → filter_map (at_block (Some b)) (range_with_len 0 (ext_fofs b + ext_len b)) ≡ filter_map at_found (range_with_len x.first (x.end - x.first))
    regular is_regular_file =
        ap (filter_map (at_block (Some b))) (range-append 0 (ext_fofs b) (ext_len b))
        ∙ filter_map-append (at_block (Some b)) (range_with_len 0 (ext_fofs b)) (range_with_len (0 + ext_fofs b) (ext_len b))
        ∙ (λ i. before i ++ filter_map (at_block (Some b)) (range_with_len (start i) (long i)))
        ∙ filter_map-range (at_block (Some b)) at_found (ext_fofs b) (x.end - ext_fofs b) inside
      where
        start : 0 + ext_fofs b ≡ ext_fofs b
        start = omega arith

        end : x.end ≡ ext_fofs b + ext_len b
        end = cond-true (is_regular b) (ext_fofs b + ext_len b) (ext_fofs b) is_regular_file

        long : ext_len b ≡ x.end - ext_fofs b
        long = omega (arith, end)

        before : filter_map (at_block (Some b)) (range_with_len 0 (ext_fofs b)) ≡ []
        before = filter_map-nothing (at_block (Some b)) 0 (ext_fofs b) (λ k low high.
            ap (λ t. defect_of 3 ino k (where_true t (same (found k) (ext_addr b + k - ext_fofs b)))) (and_right (is_regular b) (nat_le (ext_fofs b) k) (lt-leb (ext_fofs b) k (omega (arith, high)))))

        inside : (k : ℕ) → ext_fofs b ≤ k → k < ext_fofs b + (x.end - ext_fofs b) → at_block (Some b) k ≡ at_found k
        inside k low high = λ i. defect_of 3 ino k (where_true (and_from (is_regular b) (nat_le (ext_fofs b) k) is_regular_file (le-leb (ext_fofs b) k low) i) (same (found k) (value i)))
          where
            value : ext_addr b + k - ext_fofs b ≡ wanted_at x k
            value = omega (arith, low)

    other : is_regular b ≡ false → filter_map (at_block (Some b)) (range_with_len 0 (ext_fofs b + ext_len b)) ≡ filter_map at_found (range_with_len x.first (x.end - x.first))
    other is_other =
        filter_map-nothing (at_block (Some b)) 0 (ext_fofs b + ext_len b) (λ k low high.
        ap (λ t. defect_of 3 ino k (where_true t (same (found k) (ext_addr b + k - ext_fofs b)))) (and_left (is_regular b) (nat_le (ext_fofs b) k) is_other))
        ∙ sym (ap (λ n. filter_map at_found (range_with_len x.first n)) empty)
      where
        end : x.end ≡ ext_fofs b
        end = cond-false (is_regular b) (ext_fofs b + ext_len b) (ext_fofs b) is_other

        empty : x.end - x.first ≡ 0
        empty = omega (arith, end)

    pub extent-defects : defects_at (part_in image 9 3) ino ≡ filter_map at_found (range_with_len x.first (x.end - x.first))
    unfolding numbers_below
    extent-defects = defects-with (Some b) is ∙ ⊎_elim regular other (cases_Bool (is_regular b))

    far : has_slots b ≡ true → (k : ℕ) → address_count b + 1018 * 1038362 ≤ k → tree_slot image ino k ≡ 0
    far has k past = slot_of_spot image ino k b None (inode-read image ino b is) has (sym (locate-past k (address_count b) past))

    holes_from : (k : ℕ) → (has_slots b ≡ true → address_count b + 1018 * 1038362 ≤ k) → tree_slot image ino k ≡ 0
    holes_from k past = ⊎_elim (λ has. far has k (past has)) (λ none. sym (no_slots image ino k b (inode-read image ino b is) none)) (cases_Bool (has_slots b))

    limit-slots : is_inline b ≡ false → x.limit ≡ block_limit (address_count b)
    limit-slots none = cond-false (is_inline b) (ext_fofs b + ext_len b) (block_limit (address_count b)) none

    past_limit : (k : ℕ) → x.limit ≤ k → tree_slot image ino k ≡ 0
    past_limit k past = holes_from k (λ has. let e = limit-slots (not_inline b has) in omega (arith, past, e))

    past_most : (k : ℕ) → most_blocks ≤ k → tree_slot image ino k ≡ 0
    past_most k past = holes_from k (λ has. most-far (address_count b) k (address_count-few b) past)

    same_slots : file_slots image ino ≡ filter_map (slot_at image ino) (numbers_below x.limit)
    unfolding file_slots
    same_slots = slots-limits most_blocks x.limit past_most past_limit

    order : x.first ≤ x.end
    order = elim (is_regular b) as (λ t. ext_fofs b ≤ cond t (ext_fofs b + ext_len b) (ext_fofs b)) [ true ↦ omega arith | false ↦ omega arith ]

    inline-hole : (k : ℕ) → is_inline b ≡ true → tree_slot image ino k ≡ 0
    inline-hole k inline = holes_from k (λ has. absurd (false≢true (sym (not_inline b has) ∙ inline)))

    below : (k : ℕ) → x.first ≤ k → k < x.end → k < x.limit → found k ≡ tree_slot image ino k
    below k first inside low =
        ⊎_elim (λ inline. cond-true (is_inline b) 0 _ inline ∙ sym (inline-hole k inline))
        (λ other.
        let e = limit-slots other in
        cond-false (is_inline b) 0 _ other ∙ cond-true (nat_lt k (block_limit (address_count b))) (tree_slot image ino k) none_value (lt-ltb k (block_limit (address_count b)) (omega (arith, low, e))))
        (cases_Bool (is_inline b))

    end-most : x.end ≤ ext_fofs b + ext_len b
    end-most = elim (is_regular b) as (λ t. cond t (ext_fofs b + ext_len b) (ext_fofs b) ≤ ext_fofs b + ext_len b) [ true ↦ omega arith | false ↦ omega arith ]

    past : (k : ℕ) → x.first ≤ k → k < x.end → x.limit ≤ k → found k ≡ none_value
    past k first inside high =
        ⊎_elim (λ inline.
        let e : x.limit ≡ ext_fofs b + ext_len b = cond-true (is_inline b) (ext_fofs b + ext_len b) (block_limit (address_count b)) inline in
        let most = end-most in
        absurd (omega (arith, e, high, inside, most)))
        (λ other.
        let e = limit-slots other in
        cond-false (is_inline b) 0 _ other ∙ cond-false (nat_lt k (block_limit (address_count b))) (tree_slot image ino k) none_value (le-ltb k (block_limit (address_count b)) (omega (arith, high, e))))
        (cases_Bool (is_inline b))

    -- what was walked, and the rest of the extent
    walked-file : (w : Walk) (holes : ℕ) → w ≡ walked ino x (file_slots image ino) → holes ≡ min (max x.limit w.next) x.end
        → w.defects ++ hole_defects ino x w.next holes ++ run_defects 3 ino holes (x.end - holes) none_value (wanted_at x holes) ≡ defects_at (part_in image 9 3) ino
    walked-file w holes walk at =
        walked-all ino x order (tree_slot image ino) (slot_at image ino) slot-holds x.limit found below past w holes (walk ∙ ap (walked ino x) same_slots) at
        ∙ sym extent-defects

-- the end of a file: its holes are compared up to its last block, then there are none
pub extents-end : (image : Image) (ino : ℕ) (b : Block) (old mid new : Extents) (holes : ℕ) → inode_of image ino ≡ Some b → ExtentsInside image ino (file_slots image ino) old
    → holes ≡ min (max old.extent.limit old.extent.next) old.extent.end
    → mid.defects.part ≡ old.defects.part → extent_in mid.extent ≡ extent_in old.extent → mid.extent.next ≡ holes → new.defects.part ≡ mid.defects.part
    → ((defects : List Defect) → Collects old.defects defects
    → Collects mid.defects (defects ++ run_defects old.defects.part ino old.extent.next (holes - old.extent.next) 0 (wanted_at (extent_in old.extent) old.extent.next)))
    → ((defects : List Defect) → Collects mid.defects defects
    → Collects new.defects (defects ++ run_defects mid.defects.part ino mid.extent.next (old.extent.end - mid.extent.next) none_value (wanted_at (extent_in mid.extent) mid.extent.next)))
    → ExtentsAfter image (suc ino) new
extents-end image ino b old mid new holes is inside at part extent next new_part first second = record {
  part = new_part ∙ part ∙ inside.part;
  defects = subst (Collects new.defects) listed (second _ (first _ inside.defects));
}
  where
    x : Extent
    x = extent_in old.extent

    w : Walk
    w = walked ino x (file_slots image ino)

    before : List Defect
    before = found_below image 9 3 ino

    says : x ≡ extent_of b
    says = inside.says b is

    all : w.defects ++ hole_defects ino x w.next holes ++ run_defects 3 ino holes (x.end - holes) none_value (wanted_at x holes) ≡ defects_at (part_in image 9 3) ino
    all =
        let P : Extent → Type 0 = λ y. holes ≡ min (max y.limit (walked ino y (file_slots image ino)).next) y.end
        → (walked ino y (file_slots image ino)).defects ++ hole_defects ino y (walked ino y (file_slots image ino)).next holes ++ run_defects 3 ino holes (y.end - holes) none_value (wanted_at y holes) ≡ defects_at (part_in image 9 3) ino in
        subst P (sym says) (λ at. walked-file image ino b is (walked ino (extent_of b) (file_slots image ino)) holes refl at)
        (at ∙ ap (λ n. min (max x.limit n) x.end) inside.next)

    listed : before ++ w.defects ++ run_defects old.defects.part ino old.extent.next (holes - old.extent.next) 0 (wanted_at x old.extent.next)
        ++ run_defects mid.defects.part ino mid.extent.next (old.extent.end - mid.extent.next) none_value (wanted_at (extent_in mid.extent) mid.extent.next)
        ≡ found_below image 9 3 (suc ino)
    listed =
        (λ i. before ++ w.defects ++ run_defects (inside.part i) ino (inside.next i) (holes - inside.next i) 0 (wanted_at x (inside.next i))
        ++ run_defects ((part ∙ inside.part) i) ino (next i) (old.extent.end - next i) none_value (wanted_at (extent i) (next i)))
        ∙ ap (λ l. l ++ run_defects 3 ino holes (x.end - holes) none_value (wanted_at x holes)) (append_assoc before w.defects (hole_defects ino x w.next holes))
        ∙ append_assoc before (w.defects ++ hole_defects ino x w.next holes) (run_defects 3 ino holes (x.end - holes) none_value (wanted_at x holes))
        ∙ ap (λ l. before ++ l) all
        ∙ sym (below-suc (part_in image 9 3) ino)

-- a number that is no inode
pub extents-pass : (image : Image) (n : ℕ) (e : Extents) → is_inode image n ≡ false → ExtentsAfter image n e → ExtentsAfter image (suc n) e
extents-pass image n e is after = record {
  part = after.part;
  defects = subst (Collects e.defects)
      (sym (append-nil (found_below image 9 3 n)) ∙ ap (λ l. found_below image 9 3 n ++ l) (sym (extent-no_inode image n (inode-none image n is))) ∙ sym (below-suc (part_in image 9 3) n)) after.defects;
}

-- a slot outside what is left of the extent
pub extents-skip : (image : Image) (slots : List Slot) (s : Slot) (e : Extents) → (s.k < e.extent.next) ⊎ (e.extent.end ≤ s.k)
    → ExtentsInside image s.ino slots e → ExtentsInside image s.ino (slots ++ s ∷ []) e
extents-skip image slots s e away inside = record {
  part = inside.part;
  says = inside.says;
  next = inside.next ∙ ap (λ (w : Walk). w.next) (sym same_walk);
  defects = subst (λ (w : Walk). Collects e.defects (found_below image 9 3 s.ino ++ w.defects)) (sym same_walk) inside.defects;
}
  where
    same_walk : walked s.ino (extent_in e.extent) (slots ++ s ∷ []) ≡ walked s.ino (extent_in e.extent) slots
    same_walk =
        walked-push s.ino (extent_in e.extent) slots s
        ∙ walk-skips s.ino (extent_in e.extent) (walked s.ino (extent_in e.extent) slots) s (subst (λ n. (s.k < n) ⊎ (e.extent.end ≤ s.k)) inside.next away)

-- a slot within it
pub extents-step : (image : Image) (slots : List Slot) (s : Slot) (old mid : Extents) (new : Extents) → old.extent.next ≤ s.k → s.k < old.extent.end
    → ExtentsInside image s.ino slots old
    → mid.defects.part ≡ old.defects.part → extent_in mid.extent ≡ extent_in old.extent → new.defects.part ≡ mid.defects.part → extent_in new.extent ≡ extent_in mid.extent
    → new.extent.next ≡ s.k + 1
    → ((defects : List Defect) → Collects old.defects defects
    → Collects mid.defects (defects ++ run_defects old.defects.part s.ino old.extent.next (s.k - old.extent.next) 0 (wanted_at (extent_in old.extent) old.extent.next)))
    → Compares mid.defects new.defects s.ino s.k (same s.address (wanted_at (extent_in mid.extent) s.k))
    → ExtentsInside image s.ino (slots ++ s ∷ []) new
extents-step image slots s old mid new low high inside part extent new_part new_extent next first second = record {
  part = new_part ∙ part ∙ inside.part;
  says = λ inode is. is_same ∙ inside.says inode is;
  next = next ∙ ap (λ (w : Walk). w.next) (sym (walk new is_same));
  defects = subst (Collects new.defects) listed (second _ (first _ inside.defects));
}
  where
    x : Extent
    x = extent_in old.extent

    w : Walk
    w = walked s.ino x slots

    before : List Defect
    before = found_below image 9 3 s.ino

    is_same : extent_in new.extent ≡ x
    is_same = new_extent ∙ extent

    walk : (e : Extents) → extent_in e.extent ≡ x
        → walked s.ino (extent_in e.extent) (slots ++ s ∷ []) ≡ record { next = s.k + 1; defects = w.defects ++ hole_defects s.ino x w.next s.k ++ slot_defects s.ino x s }
    walk e same_extent =
        ap (λ (y : Extent). walked s.ino y (slots ++ s ∷ [])) same_extent
        ∙ walked-push s.ino x slots s
        ∙ walk-steps s.ino x w s (subst (λ n. n ≤ s.k) inside.next low) high

    listed : before ++ w.defects ++ run_defects old.defects.part s.ino old.extent.next (s.k - old.extent.next) 0 (wanted_at x old.extent.next)
        ++ defects_of mid.defects.part s.ino s.k (same s.address (wanted_at (extent_in mid.extent) s.k))
        ≡ before ++ (walked s.ino (extent_in new.extent) (slots ++ s ∷ [])).defects
    listed =
        (λ i. before ++ w.defects ++ run_defects (inside.part i) s.ino (inside.next i) (s.k - inside.next i) 0 (wanted_at x (inside.next i))
        ++ defects_of ((part ∙ inside.part) i) s.ino s.k (same s.address (wanted_at (extent i) s.k)))
        ∙ ap (λ l. l ++ slot_defects s.ino x s) (append_assoc before w.defects (hole_defects s.ino x w.next s.k))
        ∙ append_assoc before (w.defects ++ hole_defects s.ino x w.next s.k) (slot_defects s.ino x s)
        ∙ ap (λ (v : Walk). before ++ v.defects) (sym (walk new is_same))

pub extents-begin : (image : Image) (ino : ℕ) (b : Block) (old new : Extents) → inode_of image ino ≡ Some b → ExtentsAfter image ino old
    → new.defects ≡ old.defects → extent_in new.extent ≡ extent_of b → new.extent.next ≡ new.extent.first → ExtentsInside image ino [] new
extents-begin image ino b old new is after defects says begins = record {
  part = ap (λ (c : Collection). c.part) defects ∙ after.part;
  says = λ inode other. says ∙ ap extent_of (same_block b inode (sym is ∙ other));
  next = begins ∙ ap (λ (w : Walk). w.next) (sym (walked-none ino (extent_in new.extent)));
  defects = subst (λ (c : Collection). Collects c (found_below image 9 3 ino ++ (walked ino (extent_in new.extent) []).defects)) (sym defects)
      (subst (Collects old.defects) (sym (append-nil (found_below image 9 3 ino)) ∙ ap (λ (w : Walk). found_below image 9 3 ino ++ w.defects) (sym (walked-none ino (extent_in new.extent)))) after.defects);
}
  where
    same_block : (a b : Block) → Some a ≡ Some b → a ≡ b
    same_block a b e = cc e
