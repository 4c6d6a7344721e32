-- Packs that stay valid, and a head that makes its pack invalid.
use Rattle.std.proofs.Common.{◌≡◌, ℕ, ◌-◌, ◌≤◌, ◌<◌, true, false, ◌&&◌, sym, ap, ◌∙◌, arith, length, take}
use Rattle.std.proofs.lemmas.Bool.{and_parts, false≢true, false_from_ne_true}
use Rattle.f2_bytes.specs.declared.layout.Layout.{Layout}
use Rattle.f2_bytes.specs.Bytes.{Block, with_number}
use Rattle.f2_bytes.specs.Checksum.{is_sealed, with_seal, crc, magic_number}
use Rattle.f2_bytes.specs.Checkpoint.{Pack, pack_head, pack_tail, pack_total_block_count, checkpoint_ver, is_pack_valid}
use Rattle.f2_bytes.proofs.Numbers.{number_at-front, take-with_number, length-with_number}
use Rattle.f2_pack.specs.Valid.{is_head_valid, is_tail_of}
use Rattle.f2_pack.proofs.ValidHeads.{head_facts, head_of_valid, pack_parts}

-- a pack with the blocks of a valid one, as far as its head counts them
pub stays_valid : (l : Layout) (x y : Pack) → ((j : ℕ) → j < pack_total_block_count (pack_head x) → y j ≡ x j) → is_pack_valid l x ≡ true → is_pack_valid l y ≡ true
stays_valid l x y same valid =
    let facts = head_facts l (pack_head x) (head_of_valid l x valid) in
    let some : 1 ≤ pack_total_block_count (pack_head x) = omega (arith, facts.room) in
    let first : y 0 ≡ x 0 = same 0 (omega (arith, some)) in
    let tails : pack_tail y ≡ pack_tail x =
    ap (λ (b : Block). y (pack_total_block_count b - 1)) first ∙ same (pack_total_block_count (pack_head x) - 1) (omega (arith, some)) in
    pack_parts l y ∙ (λ i. is_head_valid l (first i) && is_tail_of (first i) (tails i)) ∙ sym (pack_parts l x) ∙ valid

-- what a valid pack counts lies in its segment
pub total_few : (l : Layout) (x : Pack) → is_pack_valid l x ≡ true → pack_total_block_count (pack_head x) ≤ 512
total_few l x valid = (head_facts l (pack_head x) (head_of_valid l x valid)).total

sealed_of_valid : (l : Layout) (head : Block) → is_head_valid l head ≡ true → is_sealed head ≡ true
unfolding is_head_valid
sealed_of_valid l head valid = (and_parts _ _ (and_parts _ _ (and_parts _ _ (and_parts _ _ valid).0).0).0).0

pub unsealed_invalid : (l : Layout) (x : Pack) → is_sealed (pack_head x) ≡ false → is_pack_valid l x ≡ false
unsealed_invalid l x unsealed =
    false_from_ne_true (is_pack_valid l x) (λ valid. false≢true (sym unsealed ∙ sealed_of_valid l (pack_head x) (head_of_valid l x valid)))

-- a seal keeps the version
pub sealed_version : (b : Block) → length b ≡ 4096 → checkpoint_ver (with_seal b) ≡ checkpoint_ver b
unfolding with_seal
sealed_version b size =
    let placed = with_number b 164 4 4092 in
    let checksum = crc magic_number (take 4092 placed) in
    let long : length placed ≡ 4096 = length-with_number b 164 4 4092 (omega (arith, size)) ∙ size in
    let front : take 164 (with_number placed 4092 4 checksum) ≡ take 164 b =
    take-with_number placed 164 4092 4 checksum (omega arith) (omega (arith, long)) ∙ take-with_number b 164 164 4 4092 (omega arith) (omega (arith, size)) in
    number_at-front (with_number placed 4092 4 checksum) b 0 8 164 (omega arith) front
