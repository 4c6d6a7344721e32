-- While the other pack isn't valid the old one counts, and what the trees depend on is unchanged.
use Rattle.std.proofs.Common.{◌≡◌, ◌⊎◌, inl, inr, ⊎_elim, ℕ, ◌+◌, ◌-◌, ◌*◌, ◌≤◌, ◌<◌, Bool, true, false, cond, not, ◌&&◌, ◌||◌, nat_le, nat_lt, ◌++◌, length, Option, Some, None, refl, sym, ap, subst, ◌∙◌, arith}
use Rattle.std.specs.Prelude.{unwrap_or, ◌==◌}
use Rattle.std.specs.List.{list_any}
use Rattle.std.proofs.lemmas.Bool.{and_parts, or_from, or_cases, ne_eqb, eqb-true, leb-true, ltb-true, cases_lt, false≢true}
use Rattle.std.proofs.lemmas.List.Folds.{list_any-append, list_any_none}
use Rattle.f2_bytes.specs.declared.layout.Layout.{Layout}
use Rattle.f2_bytes.specs.Bytes.{Block, Image, block_at, numbers_below}
use Rattle.f2_bytes.specs.Checksum.{is_sealed}
use Rattle.f2_bytes.specs.Superblock.{passes, copy_of, super_copy, layout, layout_of, is_main, IsInOrder}
use Rattle.f2_bytes.specs.Checkpoint.{pack_at, pack_head, pack, head, pack_number, chosen_pack, is_pack_valid, pack_total_block_count, checkpoint_ver, sit_bits, nat_bits, is_log_segment}
use Rattle.f2_bytes.specs.NodeAddressTable.{nat_block_address}
use Rattle.f2_bytes.specs.SegmentTable.{sit_block_address, has_valid_block}
use Rattle.f2_bytes.specs.Support.{is_support, is_passing_copy, is_pack_block, is_table_block, is_node_place, is_slot_address, is_chain_block, is_needed_summary}
use Rattle.f2_bytes.specs.Laws.{AgreesOnSupport}
use Rattle.f2_bytes.proofs.Below.{found_below}
use Rattle.f2_bytes.proofs.PackReads.{chosen_valid}
use Rattle.f2_pack.proofs.Writes.{higher_counts}
use Rattle.f2_pack.specs.Written.{written}
use Rattle.f2_change.specs.CommitSteps.{SameBut}
use Rattle.f2_change.specs.Writes.{Prepared, IsPrepared, AvoidsSupport, head_address, filling, pack_body, sealing, writes}
use Rattle.f2_change.proofs.SameBlocks.{is_written, row_apart, body_row}
use Rattle.f2_change.proofs.Valid.{stays_valid, total_few, unsealed_invalid}

-- What is ready stands in the pack of this image that doesn't count, and the other one has this number.
pub record Stands (r : Prepared) (image : Image) (n : ℕ) : Type 0 where
  pub own : layout image ≡ r.layout
  pub counts : chosen_pack (layout image) image ≡ Some n
  pub low : n < 2
  pub other : r.pack.pack ≡ 1 - n
  pub version : checkpoint_ver (head image) < checkpoint_ver r.pack.head
  pub size : r.layout.blocks ≤ length image

-- an address outside the 8 blocks of the new pack
abbrev pub IsOutside : Prepared → ℕ → Type 0
IsOutside r address = (address < head_address r) ⊎ (head_address r + 8 ≤ address)

-- the same layout where the copies are the same
counting_copy : (first second : Bool) → unwrap_or (cond first (Some 0) (cond second (Some 1) None)) 0 < 2
counting_copy true second = omega arith
counting_copy false true = omega arith
counting_copy false false = omega arith

layout_kept : (image other : Image) → ((n : ℕ) → n < 2 → block_at other n ≡ block_at image n) → layout other ≡ layout image
unfolding layout
layout_kept image other same =
    let first = same 0 (omega arith) in
    let second = same 1 (omega arith) in
    let copies : super_copy other ≡ super_copy image = λ i. cond (passes (first i)) (Some 0) (cond (passes (second i)) (Some 1) None) in
    ap (λ (k : Option ℕ). layout_of (copy_of (block_at other (unwrap_or k 0)))) copies
    ∙ ap (λ (b : Block). layout_of (copy_of b)) (same (unwrap_or (super_copy image) 0) (counting_copy (passes (block_at image 0)) (passes (block_at image 1))))

module _ (r : Prepared) (p : IsPrepared r) where
  -- all of the writes are blocks of the new pack, and those that are ready
  pub free_of : (address : ℕ) → IsOutside r address → is_written r.blocks address ≡ false → is_written (writes r) address ≡ false
  free_of address outside free =
      let test = λ (w : ℕ × Block). w.0 == address in
      let at_head : (head_address r == address) ≡ false = ne_eqb (head_address r) address (off outside) in
      let body : is_written (pack_body r) address ≡ false = ap (λ bs. is_written bs address) (body_row r) ∙ row_apart (head_address r) (written r.pack) 1 7 address (further outside) in
      let fill : is_written (filling r) address ≡ false = list_any-append test r.blocks (pack_body r) ∙ or_from (is_written r.blocks address) (is_written (pack_body r) address) free body in
      let seal : is_written (sealing r) address ≡ false = or_from (head_address r == address) false at_head refl in
      or_from (head_address r == address) (is_written (filling r ++ sealing r) address) at_head
      (list_any-append test (filling r) (sealing r) ∙ or_from (is_written (filling r) address) (is_written (sealing r) address) fill seal)
    where
      off : IsOutside r address → head_address r ≡ address → ⊥
      off (inl before) e = absurd (omega (arith, before, e))
      off (inr behind) e = absurd (omega (arith, behind, e))

      further : IsOutside r address → (address < head_address r + 1) ⊎ (head_address r + 1 + 7 ≤ address)
      further (inl before) = inl (omega (arith, before))
      further (inr behind) = inr (omega (arith, behind))

  -- those lie behind the packs
  pub blocks_behind : (address : ℕ) → address < r.layout.sit → is_written r.blocks address ≡ false
  blocks_behind address low =
      list_any_none (λ w. w.0 == address) r.blocks (λ k d below. ne_eqb _ address (λ e. let at = (p.blocks k d below).0 in absurd (omega (arith, at, e, low))))

  module _ (image : Image) (n : ℕ) (s : Stands r image n) where
    order : IsInOrder (layout image)
    order = subst IsInOrder (sym s.own) p.in_order

    at : head_address r ≡ (layout image).cp + 512 * (1 - n)
    at = (λ i. (sym s.own i).cp + 512 * s.other i)

    sit_is : r.layout.sit ≡ (layout image).sit
    sit_is = ap (λ (l : Layout). l.sit) (sym s.own)

    number : pack_number image ≡ n
    number = ap (λ (k : Option ℕ). unwrap_or k 0) s.counts

    valid : is_pack_valid (layout image) (pack_at (layout image) image n) ≡ true
    valid = chosen_valid (layout image) image n s.counts

    -- block j of the pack that counts
    outside_old : (j : ℕ) → j < 512 → IsOutside r ((layout image).cp + 512 * n + j)
    outside_old j low = ⊎_elim (λ before. inl before) (λ behind. inr (omega (arith, behind, at, low, s.low))) (cases_lt ((layout image).cp + 512 * n + j) (head_address r))

    -- an image in which only what is to be written differs
    module _ (c : Image) (same : SameBut (writes r) image c) where
      pub copies_kept : (address : ℕ) → address < 2 → block_at c address ≡ block_at image address
      copies_kept address low =
          same.others address
          (free_of address (inl (omega (arith, low, at, order.cp))) (blocks_behind address (omega (arith, low, sit_is, order.cp, order.sit))))

      pub layout_same : layout c ≡ layout image
      layout_same = layout_kept image c copies_kept

      pub old_pack_same : (j : ℕ) → j < 512 → block_at c ((layout image).cp + 512 * n + j) ≡ block_at image ((layout image).cp + 512 * n + j)
      old_pack_same j low =
          let address = (layout image).cp + 512 * n + j in
          same.others address (free_of address (outside_old j low) (blocks_behind address (omega (arith, low, s.low, sit_is, order.sit))))

      pub old_pack_valid : is_pack_valid (layout image) (pack_at (layout image) c n) ≡ true
      old_pack_valid =
          let few = total_few (layout image) (pack_at (layout image) image n) valid in
          stays_valid (layout image) (pack_at (layout image) image n) (pack_at (layout image) c n) (λ j below. old_pack_same j (omega (arith, below, few))) valid

      module _ (avoids : AvoidsSupport image r) (unsealed : is_sealed (block_at c (head_address r)) ≡ false) where
        old_counts : chosen_pack (layout image) c ≡ Some n
        old_counts =
            let l = layout image in
            let place : l.cp + 512 * (1 - n) + 0 ≡ head_address r = omega (arith, at) in
            let invalid = unsealed_invalid l (pack_at l c (1 - n)) (ap (λ k. is_sealed (block_at c k)) place ∙ unsealed) in
            higher_counts l c n s.low old_pack_valid (λ other. absurd (false≢true (sym invalid ∙ other)))

        -- no block of the support is written to
        behind : (address : ℕ) → (layout image).sit ≤ address → IsOutside r address
        behind address le = inr (omega (arith, le, at, order.sit, s.low))

        of_copy : (address : ℕ) → is_passing_copy image address ≡ true → IsOutside r address
        of_copy address h =
            let low = ltb-true address 2 (and_parts _ _ h).0 in
            inl (omega (arith, low, at, order.cp))

        of_pack : (address : ℕ) → is_pack_block image address ≡ true → IsOutside r address
        unfolding head pack
        of_pack address h =
            let l = layout image in
            let start = l.cp + 512 * pack_number image in
            let parts = and_parts (nat_le start address) (nat_lt address (start + pack_total_block_count (head image))) h in
            let first = leb-true start address parts.0 in
            let last = ltb-true address (start + pack_total_block_count (head image)) parts.1 in
            let place : l.cp + 512 * pack_number image + 0 ≡ l.cp + 512 * n + 0 = ap (λ k. l.cp + 512 * k + 0) number in
            let total : pack_total_block_count (head image) ≡ pack_total_block_count (pack_head (pack_at l image n)) = ap (λ k. pack_total_block_count (block_at image k)) place in
            let few = total_few l (pack_at l image n) valid in
            ⊎_elim (λ before. inl before) (λ past. inr (omega (arith, past, at, s.low, first, last, number, total, few))) (cases_lt address (head_address r))

        of_table : (address : ℕ) → is_table_block image address ≡ true → IsOutside r address
        of_table address h =
            let l = layout image in
            let in_nat = λ (k : ℕ). nat_block_address l (nat_bits (head image)) k == address in
            let in_sit = λ (k : ℕ). sit_block_address l (sit_bits (head image)) k == address in
            ⊎_elim
            (λ some.
            let t = found_below in_nat l.nat_half some in
            let is = eqb-true (nat_block_address l (nat_bits (head image)) t.0) address t.2 in
            behind address (omega (arith, is, order.nat)))
            (λ some.
            let t = found_below in_sit l.sit_half some in
            let is = eqb-true (sit_block_address l (sit_bits (head image)) t.0) address t.2 in
            behind address (omega (arith, is)))
            (or_cases (list_any in_nat (numbers_below l.nat_half)) (list_any in_sit (numbers_below l.sit_half)) h)

        of_main : (address : ℕ) (used : Bool) → (is_main (layout image) address && used) ≡ true → IsOutside r address
        of_main address used h =
            let l = layout image in
            let first = leb-true l.main address (and_parts _ _ (and_parts (is_main l address) used h).0).0 in
            behind address (omega (arith, first, order.nat, order.ssa, order.main))

        of_summary : (address : ℕ) → is_needed_summary image address ≡ true → IsOutside r address
        of_summary address h =
            let l = layout image in
            let test = λ (k : ℕ). (l.ssa + k == address) && has_valid_block image k && not (is_log_segment (head image) k) in
            let t = found_below test l.segments (and_parts _ (list_any test (numbers_below l.segments)) h).1 in
            let is = eqb-true (l.ssa + t.0) address (and_parts _ _ (and_parts _ (not (is_log_segment (head image) t.0)) t.2).0).0 in
            behind address (omega (arith, is, order.nat, order.ssa))

        support_outside : (address : ℕ) → is_support image address ≡ true → IsOutside r address
        unfolding is_support
        support_outside address h =
            let a = is_passing_copy image address in
            let b = is_pack_block image address in
            let t = is_table_block image address in
            let used = is_node_place image address || is_slot_address image address || is_chain_block image address in
            let d = is_main (layout image) address && used in
            let e = is_needed_summary image address in
            ⊎_elim
            (λ four. ⊎_elim
            (λ three. ⊎_elim
            (λ two. ⊎_elim (of_copy address) (of_pack address) (or_cases a b two))
            (of_table address)
            (or_cases (a || b) t three))
            (of_main address used)
            (or_cases (a || b || t) d four))
            (of_summary address)
            (or_cases (a || b || t || d) e h)

        support_free : (address : ℕ) → is_support image address ≡ true → is_written r.blocks address ≡ false
        support_free address h =
            list_any_none (λ w. w.0 == address) r.blocks
            (λ k d below. ne_eqb _ address (λ e. false≢true (sym (avoids k d below) ∙ ap (is_support image) e ∙ h)))

        pub old_agrees : AgreesOnSupport image c
        old_agrees = record {
          length = same.size;
          copies = λ k low. ap passes (copies_kept k low);
          pack = ap (λ l. chosen_pack l c) layout_same ∙ old_counts ∙ sym s.counts;
          blocks = λ address h. same.others address (free_of address (support_outside address h) (support_free address h));
        }
