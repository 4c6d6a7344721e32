-- What is written for a change holds no support: free segments, spare summaries, and copies of tables that aren't in use.
use Rattle.std.proofs.Common.{◌≡◌, ℕ, ◌+◌, ◌-◌, ◌*◌, ◌%◌, ◌<◌, ◌≤◌, Bool, true, false, cond, not, ◌&&◌, ◌||◌, nat_le, nat_lt, refl, sym, ap, subst, ◌∙◌, arith}
use Rattle.std.specs.Prelude.{◌==◌}
use Rattle.std.specs.List.{list_any}
use Rattle.std.proofs.lemmas.Bool.{and_parts, and_left, and_right, eqb-true, leb-true, le-ltb, lt-leb, or_from, false_from_ne_true, false≢true}
use Rattle.f2_bytes.specs.declared.layout.Layout.{Layout}
use Rattle.f2_bytes.specs.Bits.{bit_msb}
use Rattle.f2_bytes.specs.Bytes.{Image, block_at, numbers_below}
use Rattle.f2_bytes.specs.Superblock.{passes, layout, is_main, segment_start, segment_of, IsInOrder}
use Rattle.f2_bytes.specs.Checkpoint.{head, pack_number, pack_total_block_count, sit_bits, nat_bits, is_log_segment}
use Rattle.f2_bytes.specs.NodeAddressTable.{nat_block_address}
use Rattle.f2_bytes.specs.SegmentTable.{sit_block_address, has_valid_block}
use Rattle.f2_bytes.specs.Check.{is_checked}
use Rattle.f2_bytes.specs.Support.{is_support, is_passing_copy, is_pack_block, is_table_block, is_node_place, is_slot_address, is_chain_block, is_needed_summary, is_free}
use Rattle.f2_bytes.proofs.Below.{found_below}
use Rattle.f2_bytes.proofs.FormatFacts.{free_has_no_support}
use Rattle.f2_change.specs.Change.{nat_other_address, sit_other_address}
use Rattle.f2_change.proofs.CarriedAreas.{nat_place, sit_place, nat_place_low, sit_place_low}
use Rattle.f2_change.proofs.CarriedTables.{nat_apart, sit_apart}

-- a block of main in a free segment
pub free_block : (image : Image) (address : ℕ) → is_main (layout image) address ≡ true → is_free image (segment_of (layout image) address) ≡ true → is_support image address ≡ false
free_block image address inside free =
    let low = leb-true (layout image).main address (and_parts _ _ inside).0 in
    let place : segment_start (layout image) (segment_of (layout image) address) + (address - (layout image).main) % 512 ≡ address = omega (arith, low) in
    sym (ap (is_support image) place) ∙ free_has_no_support image (segment_of (layout image) address) ((address - (layout image).main) % 512) free (omega arith)

flip : (b : Bool) (x : ℕ) → cond b x 0 ≡ cond (not b) 0 x
flip true x = refl
flip false x = refl

-- a bit isn't its opposite
not_same : (b : Bool) → not b ≡ b → ⊥
not_same true e = false≢true e
not_same false e = false≢true (sym e)

none_of : (a b d used e : Bool) (m : Bool) → a ≡ false → b ≡ false → d ≡ false → m ≡ false → e ≡ false → (a || b || d || (m && used) || e) ≡ false
none_of false false false used false false p q r s t = refl
none_of true b d used e m p q r s t = absurd (false≢true (sym p))
none_of false true d used e m p q r s t = absurd (false≢true (sym q))
none_of false false true used e m p q r s t = absurd (false≢true (sym r))
none_of false false false used e true p q r s t = absurd (false≢true (sym s))
none_of false false false used true false p q r s t = absurd (false≢true (sym t))

module _ (image : Image) (order : IsInOrder (layout image)) (number : pack_number image < 2) (total : pack_total_block_count (head image) ≤ 512) where
  abbrev l : Layout
  l = layout image

  -- a block of the two tables is in the support only where its copy is in use
  unused : (address : ℕ) → l.sit ≤ address → address < l.ssa → is_table_block image address ≡ false → is_support image address ≡ false
  unfolding is_support
  unused address low high table =
      none_of (is_passing_copy image address) (is_pack_block image address) (is_table_block image address) (is_node_place image address || is_slot_address image address || is_chain_block image address) (is_needed_summary image address) (is_main l address)
      no_copy no_pack table no_main no_summary
    where
      no_copy : is_passing_copy image address ≡ false
      no_copy = and_left (nat_lt address 2) (passes (block_at image address)) (le-ltb address 2 (omega (arith, low, order.cp, order.sit)))

      no_pack : is_pack_block image address ≡ false
      no_pack =
          and_right (nat_le (l.cp + 512 * pack_number image) address) (nat_lt address (l.cp + 512 * pack_number image + pack_total_block_count (head image)))
          (le-ltb address (l.cp + 512 * pack_number image + pack_total_block_count (head image)) (omega (arith, low, order.sit, number, total)))

      no_main : is_main l address ≡ false
      no_main = and_left (nat_le l.main address) (nat_lt address (l.main + 512 * l.segments)) (lt-leb l.main address (omega (arith, high, order.main)))

      no_summary : is_needed_summary image address ≡ false
      no_summary = false_from_ne_true (is_needed_summary image address) (λ needed.
          let test = λ (k : ℕ). (l.ssa + k == address) && has_valid_block image k && not (is_log_segment (head image) k) in
          let t = found_below test l.segments (and_parts (is_checked image) (list_any test (numbers_below l.segments)) needed).1 in
          let at = eqb-true (l.ssa + t.0) address (and_parts _ _ (and_parts _ (not (is_log_segment (head image) t.0)) t.2).0).0 in
          absurd (omega (arith, at, high)))

  abbrev nat_used : ℕ → ℕ → Bool
  nat_used address k = nat_block_address l (nat_bits (head image)) k == address

  abbrev sit_used : ℕ → ℕ → Bool
  sit_used address k = sit_block_address l (sit_bits (head image)) k == address

  -- where each of the copies in use stands
  nat_stands : (address : ℕ) → list_any (nat_used address) (numbers_below l.nat_half) ≡ true → (k : ℕ) × (k < l.nat_half) × (nat_place l k (not (bit_msb (nat_bits (head image)) k)) ≡ address)
  nat_stands address some =
      let t = found_below (nat_used address) l.nat_half some in
      let at = eqb-true (nat_block_address l (nat_bits (head image)) t.0) address t.2 in
      (t.0, t.1, sym (ap (λ x. l.nat + 2 * t.0 - t.0 % 512 + x) (flip (bit_msb (nat_bits (head image)) t.0) 512)) ∙ at)

  sit_stands : (address : ℕ) → list_any (sit_used address) (numbers_below l.sit_half) ≡ true → (k : ℕ) × (k < l.sit_half) × (sit_place l k (not (bit_msb (sit_bits (head image)) k)) ≡ address)
  sit_stands address some =
      let t = found_below (sit_used address) l.sit_half some in
      let at = eqb-true (sit_block_address l (sit_bits (head image)) t.0) address t.2 in
      (t.0, t.1, sym (ap (λ x. l.sit + t.0 + x) (flip (bit_msb (sit_bits (head image)) t.0) l.sit_half)) ∙ at)

  no_table : (address : ℕ) → list_any (nat_used address) (numbers_below l.nat_half) ≡ false → list_any (sit_used address) (numbers_below l.sit_half) ≡ false → is_table_block image address ≡ false
  no_table address nats sits = or_from (list_any (nat_used address) (numbers_below l.nat_half)) (list_any (sit_used address) (numbers_below l.sit_half)) nats sits

  nat_twice : (n k : ℕ) (a b : Bool) → n + 2 * k - k % 512 + cond {A = ℕ} a 0 512 ≡ n + 2 * k - k % 512 + cond {A = ℕ} b 0 512 → a ≡ b
  nat_twice n k true true e = refl
  nat_twice n k true false e = absurd (omega (arith, e))
  nat_twice n k false true e = absurd (omega (arith, e))
  nat_twice n k false false e = refl

  sit_twice : (n half k : ℕ) (a b : Bool) → 1 ≤ half → n + k + cond {A = ℕ} a 0 half ≡ n + k + cond {A = ℕ} b 0 half → a ≡ b
  sit_twice n half k true true some e = refl
  sit_twice n half k true false some e = absurd (omega (arith, e, some))
  sit_twice n half k false true some e = absurd (omega (arith, e, some))
  sit_twice n half k false false some e = refl

  pub nat_other_spare : (k : ℕ) → k < l.nat_half → is_support image (nat_other_address l (nat_bits (head image)) k) ≡ false
  nat_other_spare k low =
      let bit = λ (j : ℕ). bit_msb (nat_bits (head image)) j in
      let place = nat_place_low l k (bit k) order low in
      let address = nat_place l k (bit k) in
      let nats : list_any (nat_used address) (numbers_below l.nat_half) ≡ false = false_from_ne_true (list_any (nat_used address) (numbers_below l.nat_half)) (λ some.
      let t = nat_stands address some in
      let same : t.0 ≡ k = nat_apart l.nat l.nat_half t.0 k (not (bit t.0)) (bit k) t.1 low t.2 in
      let there : nat_place l k (not (bit k)) ≡ address = subst (λ j. nat_place l j (not (bit j)) ≡ address) same t.2 in
      not_same (bit k) (nat_twice l.nat k (not (bit k)) (bit k) there)) in
      let sits : list_any (sit_used address) (numbers_below l.sit_half) ≡ false = false_from_ne_true (list_any (sit_used address) (numbers_below l.sit_half)) (λ some.
      let t = sit_stands address some in
      let there = sit_place_low l t.0 (not (bit_msb (sit_bits (head image)) t.0)) order t.1 in
      clash (sit_place l t.0 (not (bit_msb (sit_bits (head image)) t.0))) address there.1 place.0 t.2) in
      unused address (omega (arith, place.0, order.nat)) place.1 (no_table address nats sits)
    where
      clash : (a address : ℕ) → a < l.nat → l.nat ≤ address → a ≡ address → ⊥
      clash a address high low e = absurd (omega (arith, high, low, e))

  pub sit_other_spare : (k : ℕ) → k < l.sit_half → is_support image (sit_other_address l (sit_bits (head image)) k) ≡ false
  sit_other_spare k low =
      let bit = λ (j : ℕ). bit_msb (sit_bits (head image)) j in
      let place = sit_place_low l k (bit k) order low in
      let address = sit_place l k (bit k) in
      let sits : list_any (sit_used address) (numbers_below l.sit_half) ≡ false = false_from_ne_true (list_any (sit_used address) (numbers_below l.sit_half)) (λ some.
      let t = sit_stands address some in
      let same : t.0 ≡ k = sit_apart l.sit l.sit_half t.0 k (not (bit t.0)) (bit k) t.1 low t.2 in
      let there : sit_place l k (not (bit k)) ≡ address = subst (λ j. sit_place l j (not (bit j)) ≡ address) same t.2 in
      not_same (bit k) (sit_twice l.sit l.sit_half k (not (bit k)) (bit k) (omega (arith, low)) there)) in
      let nats : list_any (nat_used address) (numbers_below l.nat_half) ≡ false = false_from_ne_true (list_any (nat_used address) (numbers_below l.nat_half)) (λ some.
      let t = nat_stands address some in
      let there = nat_place_low l t.0 (not (bit_msb (nat_bits (head image)) t.0)) order t.1 in
      clash (nat_place l t.0 (not (bit_msb (nat_bits (head image)) t.0))) address there.0 place.1 t.2) in
      unused address place.0 (omega (arith, place.1, order.ssa)) (no_table address nats sits)
    where
      clash : (a address : ℕ) → l.nat ≤ a → address < l.nat → a ≡ address → ⊥
      clash a address high low e = absurd (omega (arith, high, low, e))
