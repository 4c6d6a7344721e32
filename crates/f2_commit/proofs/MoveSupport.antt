-- What a checked image depends on in main: the blocks in use, and the segments of logs.
use Rattle.std.proofs.Common.{◌≡◌, ℕ, ◌+◌, ◌*◌, ◌<◌, ◌≤◌, ◌⊎◌, inl, inr, Bool, true, false, not, ◌==◌, ◌&&◌, ◌||◌, nat_le, nat_lt, cond, Option, Some, None, refl, sym, ap, ◌∙◌, subst, ⊎_elim, arith}
use Rattle.std.specs.Prelude.{map, option_map, unwrap_or}
use Rattle.std.specs.Option.{option_map_or}
use Rattle.std.specs.List.{list_any}
use Rattle.std.proofs.lemmas.Bool.{and_parts, and_from, or_cases, or_left, eq-eqb, eqb-true, ne_eqb, leb-true, ltb-true, lt-ltb, not_from_false, cases_eq, false_from_ne_true, false≢true}
use Rattle.f2_bytes.specs.declared.layout.Layout.{Layout}
use Rattle.f2_bytes.specs.Bits.{bit_msb}
use Rattle.f2_bytes.specs.Bytes.{Block, Image, block_at, word, numbers_below}
use Rattle.f2_bytes.specs.Superblock.{passes, layout, is_main, segment_of, segment_start}
use Rattle.f2_bytes.specs.Checkpoint.{pack_total_block_count, sit_bits, nat_bits, head, log, pack, pack_head, pack_number, chosen_pack, has_sealed_ends, agrees_with_layout, is_pack_valid, is_log_segment}
use Rattle.f2_bytes.specs.Journal.{NatEntry}
use Rattle.f2_bytes.specs.NodeAddressTable.{nid_limit, nat, nat_block_address}
use Rattle.f2_bytes.specs.SegmentTable.{sit_block_address, has_valid_block}
use Rattle.f2_bytes.specs.Node.{node_offset, has_slots, is_direct, address_count, address_word}
use Rattle.f2_bytes.specs.RollForward.{NodePlace, chain_start, chain_address, chain_length, chain, chain_stop, found_place, node_block}
use Rattle.f2_bytes.specs.Tree.{tree_slot, read_node}
use Rattle.f2_bytes.specs.Check.{is_checked, is_data}
use Rattle.f2_bytes.specs.Moved.{is_used}
use Rattle.f2_bytes.specs.Support.{is_passing_copy, is_pack_block, is_table_block, is_node_place, has_slot_word, is_slot_address, is_chain_block, is_needed_summary, is_support, is_free}
use Rattle.f2_bytes.proofs.Below.{found_below, all_below}
use Rattle.f2_bytes.proofs.CheckedChain.{chain_length-checked}
use Rattle.f2_bytes.proofs.CheckedNodes.{found_place-checked, node_block-checked, read_node-checked}
use Rattle.f2_bytes.proofs.FrameBlocks.{main_at}
use Rattle.f2_bytes.proofs.PackReads.{pack_valid, log_valid}
use Rattle.f2_bytes.proofs.SlotSupport.{body_checked}
use Rattle.f2_commit.proofs.MoveAddresses.{entry_used}
use Rattle.f2_commit.proofs.MoveKept.{slot_is_data}
use Rattle.f2_commit.proofs.MoveLayout.{in_order}
use Rattle.f2_commit.proofs.MoveMarks.{log_own}
use Rattle.f2_commit.proofs.MoveNodes.{no_read}
use Rattle.f2_commit.proofs.MoveWords.{IsAddressWord, held}

pub number_low : (l : Layout) (image : Image) → unwrap_or (chosen_pack l image) 0 < 2
unfolding chosen_pack
number_low l image = go _ _
  where
    go : (b w : Bool) → unwrap_or (cond b (Some 0) (cond w (Some 1) None)) 0 < 2
    go true w = omega arith
    go false true = omega arith
    go false false = omega arith

pub half_low : (b : Bool) (half : ℕ) → cond b half 0 ≤ half
half_low true half = omega arith
half_low false half = omega arith

-- one of the kinds of blocks that an image depends on
one_kind : (a b c m n e : Bool) → a ≡ false → b ≡ false → c ≡ false → e ≡ false → (a || b || c || (m && n) || e) ≡ true → n ≡ true
one_kind false false false true n false p q r s any = or_false n any
  where
    or_false : (b : Bool) → (b || false) ≡ true → b ≡ true
    or_false true any = refl
    or_false false any = any
one_kind false false false false n false p q r s any = absurd (false≢true any)
one_kind false false false m n true p q r s any = absurd (false≢true (sym s))
one_kind false false true m n e p q r s any = absurd (false≢true (sym r))
one_kind false true c m n e p q r s any = absurd (false≢true (sym q))
one_kind true b c m n e p q r s any = absurd (false≢true (sym p))

-- a word of a node with this address among its slots
abbrev HasAddress : Block → ℕ → Type 0
HasAddress b a = (j : ℕ) × IsAddressWord b j × (word b j ≡ a)

address_there : (b : Block) (a : ℕ) → has_slot_word b a ≡ true → HasAddress b a
unfolding has_slot_word
address_there b a has = ⊎_elim in_inode in_node (cases_eq (node_offset b) 0)
  where
    in_inode : node_offset b ≡ 0 → HasAddress b a
    in_inode zero =
        let here : (has_slots b && list_any (λ j. address_word b j == a) (numbers_below (address_count b))) ≡ true
        = sym (ap (λ z. cond z (has_slots b && list_any (λ j. address_word b j == a) (numbers_below (address_count b))) (is_direct (node_offset b) && list_any (λ j. word b j == a) (numbers_below 1018))) (eq-eqb (node_offset b) 0 zero)) ∙ has in
        let parts = and_parts (has_slots b) _ here in
        let t = found_below (λ j. address_word b j == a) (address_count b) parts.1 in
        let low = t.1 in
        (90 + t.0, inl (zero, parts.0, omega arith, omega (arith, low)), eqb-true (address_word b t.0) a t.2)

    in_node : (node_offset b ≡ 0 → ⊥) → HasAddress b a
    in_node away =
        let here : (is_direct (node_offset b) && list_any (λ j. word b j == a) (numbers_below 1018)) ≡ true
        = sym (ap (λ z. cond z (has_slots b && list_any (λ j. address_word b j == a) (numbers_below (address_count b))) (is_direct (node_offset b) && list_any (λ j. word b j == a) (numbers_below 1018))) (ne_eqb (node_offset b) 0 away)) ∙ has in
        let parts = and_parts (is_direct (node_offset b)) _ here in
        let t = found_below (λ j. word b j == a) 1018 parts.1 in
        (t.0, inr (away, parts.0, t.1), eqb-true (word b t.0) a t.2)

module _ (image : Image) (h : is_checked image ≡ true) where
  valid : is_pack_valid (layout image) (pack image) ≡ true
  valid = pack_valid image (and_parts _ _ (and_parts _ _ (and_parts _ _ h).0).0).1

  pub total_low : pack_total_block_count (head image) ≤ 512
  unfolding head is_pack_valid has_sealed_ends
  total_low =
      let sealed = (and_parts _ _ (and_parts _ _ valid).0).0 in
      leb-true (pack_total_block_count (pack_head (pack image))) 512 (and_parts _ _ (and_parts _ _ (and_parts _ _ sealed).0).0).1

  offset_low : (log (head image) 4).offset < 512
  unfolding head is_pack_valid
  offset_low =
      let fourth : 4 < 6 = omega arith in
      let agrees : agrees_with_layout (layout image) (pack_head (pack image)) ≡ true = (and_parts _ _ (and_parts _ _ valid).0).1 in
      ltb-true (log (pack_head (pack image)) 4).offset 512 (and_parts _ _ (and_parts _ _ (log_valid (layout image) (pack_head (pack image)) agrees 4 fourth)).0).1

  module _ (a : ℕ) (main : is_main (layout image) a ≡ true) where
    inside : (layout image).main ≤ a
    inside = leb-true (layout image).main a (and_parts (nat_le (layout image).main a) (nat_lt a ((layout image).main + 512 * (layout image).segments)) main).0

    -- ---- blocks outside of main

    no_copy : is_passing_copy image a ≡ false
    no_copy = false_from_ne_true _ (λ copy.
        let low = ltb-true a 2 (and_parts (nat_lt a 2) (passes (block_at image a)) copy).0 in
        let order = in_order image h in
        let i = inside in let b = order.cp in let c = order.sit in let d = order.nat in let e = order.ssa in let f = order.main in
        omega (arith, low, i, b, c, d, e, f))

    no_pack : is_pack_block image a ≡ false
    no_pack = false_from_ne_true _ (λ of_pack.
        let start = (layout image).cp + 512 * pack_number image in
        let below = ltb-true a (start + pack_total_block_count (head image)) (and_parts (nat_le start a) (nat_lt a (start + pack_total_block_count (head image))) of_pack).1 in
        let order = in_order image h in
        let number = number_low (layout image) image in
        let total = total_low in
        let i = inside in let c = order.sit in let d = order.nat in let e = order.ssa in let f = order.main in
        omega (arith, below, number, total, i, c, d, e, f))

    no_nat : list_any (λ k. nat_block_address (layout image) (nat_bits (head image)) k == a) (numbers_below (layout image).nat_half) ≡ true → ⊥
    no_nat some =
        let found = found_below (λ k. nat_block_address (layout image) (nat_bits (head image)) k == a) (layout image).nat_half some in
        let at = eqb-true (nat_block_address (layout image) (nat_bits (head image)) found.0) a found.2 in
        let few = found.1 in
        let most = half_low (bit_msb (nat_bits (head image)) found.0) 512 in
        let order = in_order image h in
        let i = inside in let e = order.ssa in let f = order.main in let w = order.nat_whole in
        omega (arith, i, e, f, w, at, few, most)

    no_sit : list_any (λ k. sit_block_address (layout image) (sit_bits (head image)) k == a) (numbers_below (layout image).sit_half) ≡ true → ⊥
    no_sit some =
        let found = found_below (λ k. sit_block_address (layout image) (sit_bits (head image)) k == a) (layout image).sit_half some in
        let at = eqb-true (sit_block_address (layout image) (sit_bits (head image)) found.0) a found.2 in
        let few = found.1 in
        let most = half_low (bit_msb (sit_bits (head image)) found.0) (layout image).sit_half in
        let order = in_order image h in
        let i = inside in let d = order.nat in let e = order.ssa in let f = order.main in
        omega (arith, i, d, e, f, at, few, most)

    no_table : is_table_block image a ≡ false
    no_table = false_from_ne_true _ (λ table. ⊎_elim no_nat no_sit (or_cases _ _ table))

    no_summary : is_needed_summary image a ≡ false
    no_summary = false_from_ne_true _ (λ needed.
        let test = λ (segment : ℕ). ((layout image).ssa + segment == a) && has_valid_block image segment && not (is_log_segment (head image) segment) in
        let found = found_below test (layout image).segments (and_parts (is_checked image) (list_any test (numbers_below (layout image).segments)) needed).1 in
        let at = eqb-true ((layout image).ssa + found.0) a (and_parts ((layout image).ssa + found.0 == a) (has_valid_block image found.0)
        (and_parts (((layout image).ssa + found.0 == a) && has_valid_block image found.0) (not (is_log_segment (head image) found.0)) found.2).0).0 in
        let few = found.1 in
        let order = in_order image h in
        let i = inside in let r = order.summaries in let f = order.main in
        omega (arith, i, r, f, at, few))

    -- ---- blocks of main

    is_in_use : is_data image a ≡ true → is_used image a ≡ true
    is_in_use data_there = and_from _ _ main (or_left _ _ data_there)

    by_entry : (nid : ℕ) (o : Option NatEntry) → nat image nid ≡ o → option_map_or (λ (e : NatEntry). e.address == a) o false ≡ true → is_used image a ≡ true
    by_entry nid None is here = absurd (false≢true here)
    by_entry nid (Some e) is here = subst (λ x. is_used image x ≡ true) (eqb-true e.address a here) (entry_used image h nid e is)

    by_place : is_node_place image a ≡ true → is_used image a ≡ true
    by_place any =
        let t = found_below (λ nid. option_map_or (λ e. e.address == a) (nat image nid) false || option_map_or (λ at. at.address == a) (found_place image nid) false) (nid_limit (layout image)) any in
        ⊎_elim
        (λ here. by_entry t.0 (nat image t.0) refl here)
        (λ there. by_entry t.0 (nat image t.0) refl
        (from_found (nat image t.0) (sym (ap (λ o. option_map_or (λ (at : NodePlace). at.address == a) o false) (found_place-checked image (body_checked image h) t.0)) ∙ there)))
        (or_cases _ _ t.2)
      where
        from_found : (o : Option NatEntry) → option_map_or (λ (at : NodePlace). at.address == a) (option_map (λ (e : NatEntry). record { ino = e.ino; address = e.address }) o) false ≡ true → option_map_or (λ (e : NatEntry). e.address == a) o false ≡ true
        from_found None there = there
        from_found (Some e) there = there

    by_slot : is_slot_address image a ≡ true → is_used image a ≡ true
    by_slot any =
        let t = found_below (λ nid. option_map_or (λ b. has_slot_word b a) (node_block image nid) false) (nid_limit (layout image)) any in
        go t.0 (nat image t.0) refl (sym (ap (λ o. option_map_or (λ (b : Block). has_slot_word b a) o false) (node_block-checked image (body_checked image h) t.0)) ∙ t.2)
      where
        go : (nid : ℕ) (o : Option NatEntry) → nat image nid ≡ o → option_map_or (λ (b : Block). has_slot_word b a) (read_node image nid) false ≡ true → is_used image a ≡ true
        go nid None is has = absurd (false≢true (sym (ap (λ o. option_map_or (λ (b : Block). has_slot_word b a) o false) (no_read image nid is)) ∙ has))
        go nid (Some e) is has =
            let here : has_slot_word (block_at image e.address) a ≡ true = sym (ap (λ o. option_map_or (λ (b : Block). has_slot_word b a) o false) (read_node-checked image (body_checked image h) nid e is)) ∙ has in
            let t = address_there (block_at image e.address) a here in
            let w = held image h nid t.0 e is t.1 in
            let at : tree_slot image w.ino w.number ≡ a = w.stands ∙ t.2 in
            is_in_use (subst (λ x. is_data image x ≡ true) at (slot_is_data image h w.ino w.number w.inode (ap (is_main (layout image)) at ∙ main)).1)

    by_chain : is_chain_block image a ≡ true → is_log_segment (head image) (segment_of (layout image) a) ≡ true
    unfolding chain_address numbers_below
    by_chain any = ⊎_elim in_chain at_stop (or_cases _ _ any)
      where
        none : chain_length image ≡ 0
        none = chain_length-checked image (body_checked image h)

        in_chain : list_any (λ x. x == a) (chain image) ≡ true → is_log_segment (head image) (segment_of (layout image) a) ≡ true
        in_chain some = absurd (false≢true (sym (ap (λ n. list_any (λ x. x == a) (map (chain_address image) (numbers_below n))) none) ∙ some))

        at_start : (b : Bool) → option_map_or (λ x. x == a) (cond b (Some (chain_start image)) None) false ≡ true → chain_start image ≡ a
        at_start true here = eqb-true (chain_start image) a here
        at_start false here = absurd (false≢true here)

        at_stop : option_map_or (λ x. x == a) (chain_stop image) false ≡ true → is_log_segment (head image) (segment_of (layout image) a) ≡ true
        at_stop stop =
            let here : option_map_or (λ x. x == a) (cond (is_main (layout image) (chain_start image)) (Some (chain_start image)) None) false ≡ true
            = sym (ap (λ n. option_map_or (λ x. x == a) (cond (is_main (layout image) (chain_address image n)) (Some (chain_address image n)) None) false) none) ∙ stop in
            let at = at_start (is_main (layout image) (chain_start image)) here in
            let low = offset_low in
            let own : segment_of (layout image) a ≡ (log (head image) 4).segment = sym (ap (segment_of (layout image)) at) ∙ omega (arith, low) in
            ap (is_log_segment (head image)) own ∙ log_own image 4 (omega arith)

    -- a block of main that the image depends on is in use, or lies in a log's segment
    pub support_used : is_support image a ≡ true → (is_used image a ≡ true) ⊎ (is_log_segment (head image) (segment_of (layout image) a) ≡ true)
    unfolding is_support
    support_used support =
        ⊎_elim
        (λ first. ⊎_elim (λ place. inl (by_place place)) (λ slot. inl (by_slot slot)) (or_cases _ _ first))
        (λ in_chain. inr (by_chain in_chain))
        (or_cases (is_node_place image a || is_slot_address image a) (is_chain_block image a)
        (one_kind (is_passing_copy image a) (is_pack_block image a) (is_table_block image a) (is_main (layout image) a) (is_node_place image a || is_slot_address image a || is_chain_block image a) (is_needed_summary image a)
        no_copy no_pack no_table no_summary support))

  -- a segment that is no log's and has no block in use is free
  pub unused_free : (segment : ℕ) → segment < (layout image).segments → is_log_segment (head image) segment ≡ false → ((k : ℕ) → k < 512 → is_used image (segment_start (layout image) segment + k) ≡ true → ⊥) → is_free image segment ≡ true
  unfolding is_free
  unused_free segment low other unused =
      and_from _ _ (and_from _ _ (lt-ltb segment (layout image).segments low) (not_from_false _ other))
      (all_below (λ k. not (is_support image (segment_start (layout image) segment + k))) 512 (λ k within.
      let x = segment_start (layout image) segment + k in
      let own : segment_of (layout image) x ≡ segment = omega (arith, within) in
      not_from_false _ (false_from_ne_true _ (λ support.
      ⊎_elim (unused k within) (λ in_log. false≢true (sym other ∙ sym (ap (is_log_segment (head image)) own) ∙ in_log))
      (support_used x (main_at (layout image) segment k low within) support)))))
