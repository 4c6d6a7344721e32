-- When a pack is valid, by its head and its tail.
use Rattle.std.proofs.Common.{◌≡◌, ℕ, ◌+◌, ◌-◌, ◌/◌, ◌<◌, ◌≤◌, Bool, true, false, cond, nat_le, not, ◌&&◌, Some, None, refl, sym, ap, ◌∙◌}
use Rattle.std.specs.Prelude.{◌==◌}
use Rattle.std.proofs.lemmas.Bool.{and_parts, leb-true, ltb-true, eqb-true}
use Rattle.f2_bytes.specs.Bytes.{Block}
use Rattle.f2_bytes.specs.Checksum.{is_sealed}
use Rattle.f2_bytes.specs.declared.layout.Layout.{Layout}
use Rattle.f2_bytes.specs.Checkpoint.{Pack, pack_head, pack_tail, log, checkpoint_ver, pack_start_sum, pack_total_block_count, data_summary_blocks, node_summary_blocks, has_large_nat_bitmap, has_sealed_ends, agrees_with_layout, has_room_for_summaries, is_pack_valid, sit_ver_bitmap_bytesize, nat_ver_bitmap_bytesize}
use Rattle.f2_pack.specs.Held.{IsLog}
use Rattle.f2_pack.specs.Valid.{is_head_valid, is_tail_of, head_in}
use Rattle.f2_pack.proofs.PackReads.{room, log_valid}

-- what is known of a valid head
pub record HeadFacts (l : Layout) (head : Block) : Type 0 where
  pub total : pack_total_block_count head ≤ 512
  pub start : 1 ≤ pack_start_sum head
  pub room : pack_start_sum head + data_summary_blocks head + node_summary_blocks head + 1 ≤ pack_total_block_count head
  pub sit_bits : sit_ver_bitmap_bytesize head ≡ l.sit_half / 8
  pub nat_bits : nat_ver_bitmap_bytesize head ≡ l.nat_half / 8
  pub logs : (t : ℕ) → t < 6 → IsLog (log head t)
  pub segments : (t : ℕ) → t < 6 → (log head t).segment < l.segments
  pub agrees : agrees_with_layout l head ≡ true
  pub has_room : has_room_for_summaries head ≡ true

pub head_facts : (l : Layout) (head : Block) → is_head_valid l head ≡ true → HeadFacts l head
unfolding is_head_valid agrees_with_layout
head_facts l head valid =
    let p4 = and_parts _ _ valid in
    let p3 = and_parts _ _ p4.0 in
    let p2 = and_parts _ _ p3.0 in
    let agrees : agrees_with_layout l head ≡ true = p3.1 in
    let bits = and_parts _ _ (and_parts _ _ agrees).0 in
    let all = room head p4.1 in
    record {
      total = leb-true (pack_total_block_count head) 512 p2.1;
      start = all.0;
      room = all.1;
      sit_bits = eqb-true (sit_ver_bitmap_bytesize head) (l.sit_half / 8) bits.0;
      nat_bits = eqb-true (nat_ver_bitmap_bytesize head) (l.nat_half / 8) bits.1;
      logs = λ t low.
          let parts = and_parts _ _ (log_valid l head agrees t low) in
          record {
            offset = ltb-true (log head t).offset 512 (and_parts _ _ parts.0).1;
            allocation = leb-true (log head t).allocation 1 parts.1;
          };
      segments = λ t low. ltb-true (log head t).segment l.segments (and_parts _ _ (and_parts _ _ (log_valid l head agrees t low)).0).0;
      agrees = agrees;
      has_room = p4.1;
    }

regroup : (sealed small few agrees fits tail same : Bool) → (sealed && small && few && tail && same) && agrees && fits ≡ (sealed && small && few && agrees && fits) && (tail && same)
regroup false small few agrees fits tail same = refl
regroup true false few agrees fits tail same = refl
regroup true true false agrees fits tail same = refl
regroup true true true true true true true = refl
regroup true true true true true true false = refl
regroup true true true true true false same = refl
regroup true true true true false true true = refl
regroup true true true true false true false = refl
regroup true true true true false false same = refl
regroup true true true false fits true true = refl
regroup true true true false fits true false = refl
regroup true true true false fits false same = refl

pub pack_parts : (l : Layout) (pack : Pack) → is_pack_valid l pack ≡ is_head_valid l (pack_head pack) && is_tail_of (pack_head pack) (pack_tail pack)
unfolding is_pack_valid is_head_valid has_sealed_ends
pack_parts l pack =
    let head = pack_head pack in
    regroup (is_sealed head) (not (has_large_nat_bitmap head)) (nat_le (pack_total_block_count head) 512) (agrees_with_layout l head) (has_room_for_summaries head) (is_sealed (pack_tail pack)) (checkpoint_ver (pack_tail pack) == checkpoint_ver head)

pub head_of_valid : (l : Layout) (pack : Pack) → is_pack_valid l pack ≡ true → is_head_valid l (pack_head pack) ≡ true
head_of_valid l pack valid = (and_parts _ _ (sym (pack_parts l pack) ∙ valid)).0

-- what is found of the head and the tail that were read
module _ (l : Layout) (pack : Pack) (head : Block) (is_head : head ≡ pack 0) where
  pub head_in-bad : is_head_valid l head ≡ false → None ≡ head_in l pack
  head_in-bad bad =
      let fails : is_pack_valid l pack ≡ false = pack_parts l pack ∙ ap (λ (b : Block). is_head_valid l b && is_tail_of b (pack (pack_total_block_count b - 1))) (sym is_head) ∙ ap (λ t. t && is_tail_of head (pack (pack_total_block_count head - 1))) bad in
      sym (ap (λ t. cond t (Some (pack_head pack)) None) fails)

  module _ (tail : Block) (is_tail : tail ≡ pack (pack_total_block_count head - 1)) (good : is_head_valid l head ≡ true) where
    both : (t : Bool) → is_tail_of head tail ≡ t → is_pack_valid l pack ≡ t
    both t is =
        pack_parts l pack ∙ ap (λ (b : Block). is_head_valid l b && is_tail_of b (pack (pack_total_block_count b - 1))) (sym is_head)
        ∙ ap (λ (b : Block). is_head_valid l head && is_tail_of head b) (sym is_tail) ∙ λ i. good i && is i

    pub head_in-other : is_tail_of head tail ≡ false → None ≡ head_in l pack
    head_in-other bad = sym (ap (λ t. cond t (Some (pack_head pack)) None) (both false bad))

    pub head_in-good : is_tail_of head tail ≡ true → Some head ≡ head_in l pack
    head_in-good is = sym (ap (λ t. cond t (Some (pack_head pack)) None) (both true is) ∙ ap (λ (b : Block). Some b) (sym is_head))
