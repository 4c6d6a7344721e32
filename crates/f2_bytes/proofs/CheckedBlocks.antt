-- On a checked image each block in use is marked, and its summary leads to its node.
use Rattle.std.proofs.Common.{◌≡◌, ℕ, ◌+◌, ◌*◌, ◌<◌, ◌≤◌, [], true, false, ◌==◌, ◌||◌, not, nat_le, nat_lt, Option, Some, refl, ap, ◌∙◌, arith}
use Rattle.std.proofs.lemmas.Bool.{and_parts, eqb-true, not-false, ltb-true, leb-true}
use Rattle.f2_bytes.specs.declared.layout.Layout.{Layout}
use Rattle.f2_bytes.specs.Bytes.{Image}
use Rattle.f2_bytes.specs.Superblock.{layout, is_main, segment_of, place_of, segment_start}
use Rattle.f2_bytes.specs.Summary.{summary}
use Rattle.f2_bytes.specs.Check.{Comparison, part_defects, same, where_true, of_value, block_part, defects, digit, is_checked, is_marked, is_data, is_node, nid_wanted, slot_with, spot_of, validity_parts, summary_parts}
use Rattle.f2_bytes.specs.Moved.{is_used}
use Rattle.f2_bytes.proofs.CheckLaws.{none_fails}
use Rattle.f2_bytes.proofs.CheckedChain.{rule_met, part_clear}
use Rattle.f2_bytes.proofs.CheckedNodes.{no_part}
use Rattle.f2_bytes.proofs.SlotSupport.{body_checked}
use Rattle.f2_bytes.proofs.Terms.{true_from_digit}

start_at : (l : Layout) (address : ℕ) → l.main ≤ address → segment_start l (segment_of l address) + place_of l address ≡ address
start_at l address low = omega (arith, low)

pub segment_below : (l : Layout) (address : ℕ) → is_main l address ≡ true → segment_of l address < l.segments
segment_below l address main =
    let parts = and_parts (nat_le l.main address) (nat_lt address (l.main + 512 * l.segments)) main in
    let low = leb-true l.main address parts.0 in
    let high = ltb-true address (l.main + 512 * l.segments) parts.1 in
    omega (arith, low, high)

-- a part with a comparison for each block of main says it of each address
pub block_says : (image : Image) (number : ℕ) (f : ℕ → Option Comparison) → part_defects (block_part image number f) ≡ []
    → (address : ℕ) → is_main (layout image) address ≡ true → (c : Comparison) → f address ≡ Some c → c.fails ≡ false
block_says image number f clear address main c is =
    let parts = and_parts (nat_le (layout image).main address) (nat_lt address ((layout image).main + 512 * (layout image).segments)) main in
    let at : segment_start (layout image) (segment_of (layout image) address) + place_of (layout image) address ≡ address = start_at (layout image) address (leb-true (layout image).main address parts.0) in
    none_fails (block_part image number f) clear (segment_of (layout image) address) (place_of (layout image) address)
    (segment_below (layout image) address main) (omega arith) c (ap f at ∙ is)

module _ (image : Image) (h : is_checked image ≡ true) where
  pub used_is_marked : (address : ℕ) → is_used image address ≡ true → is_marked image address ≡ true
  unfolding validity_parts defects
  used_is_marked address used =
      let parts = and_parts (is_main (layout image) address) (is_data image address || is_node image address) used in
      let clear = part_clear (validity_parts image) (rule_met image (body_checked image h) 5 (omega arith) (omega arith)) 0 no_part (omega arith) in
      let found = digit (is_marked image address) in
      let wanted = digit (is_data image address || is_node image address) in
      let agree : not (found == wanted) ≡ false
      = block_says image 1 (λ a. Some (record { found = digit (is_marked image a); wanted = digit (is_data image a || is_node image a); fails = not (digit (is_marked image a) == digit (is_data image a || is_node image a)) })) clear address parts.0
      (record { found = found; wanted = wanted; fails = not (found == wanted) }) refl in
      let equal : found ≡ wanted = eqb-true found wanted (not-false _ agree) in
      let one : wanted ≡ 1 = ap digit parts.1 in
      true_from_digit (is_marked image address) (omega (arith, equal, one))

  -- the nid in the summary of a block in use, and for a block of a file the place
  pub summary_nid : (address : ℕ) → is_used image address ≡ true → (summary image address).nid ≡ nid_wanted image address
  unfolding summary_parts defects
  summary_nid address used =
      let main = (and_parts (is_main (layout image) address) (is_data image address || is_node image address) used).0 in
      let clear = part_clear (summary_parts image) (rule_met image (body_checked image h) 6 (omega arith) (omega arith)) 0 no_part (omega arith) in
      let found = (summary image address).nid in
      let wanted = nid_wanted image address in
      let marked = used_is_marked address used in
      eqb-true found wanted (not-false _ (block_says image 1 (λ a. where_true (is_marked image a) (same (summary image a).nid (nid_wanted image a))) clear address main
      (record { found = found; wanted = wanted; fails = not (found == wanted) }) (rw marked refl)))

  pub summary_place : (address : ℕ) → is_used image address ≡ true → (place : ℕ × ℕ) → slot_with image address ≡ Some place → (summary image address).place ≡ (spot_of image place).1
  unfolding summary_parts defects
  summary_place address used place at =
      let main = (and_parts (is_main (layout image) address) (is_data image address || is_node image address) used).0 in
      let clear = part_clear (summary_parts image) (rule_met image (body_checked image h) 6 (omega arith) (omega arith)) 1 no_part (omega arith) in
      let found = (summary image address).place in
      let wanted = (spot_of image place).1 in
      let marked = used_is_marked address used in
      eqb-true found wanted (not-false _ (block_says image 2 (λ a. where_true (is_marked image a) (of_value (slot_with image a) (λ p. same (summary image a).place (spot_of image p).1))) clear address main
      (record { found = found; wanted = wanted; fails = not (found == wanted) }) (rw (marked, at) refl)))
