-- What is kept of a pack, and what it says of the pack.
use Rattle.std.proofs.Common.{◌≡◌, ℕ, zero, suc, ◌+◌, ◌-◌, ◌<◌, ◌≤◌, Bool, true, false, cond, nat_le, nat_lt, List, [], ◌∷◌, ◌++◌, map, get_or, Some, None, refl, sym, ap, ◌∙◌, arith}
use Rattle.std.specs.Prelude.{if◌then◌else◌, sum, sum_by, take}
use Rattle.std.specs.List.{range_with_len}
use Rattle.std.proofs.lemmas.Bool.{ltb-true, ltb-false, lt-ltb}
use Rattle.std.proofs.lemmas.List.FromFn.{get_or-map-range_with_len}
use Rattle.f2_bytes.specs.Bytes.{Block, block_at, bytes_at}
use Rattle.f2_bytes.specs.Checkpoint.{Pack, pack_head, pack_start_sum, pack_total_block_count, is_compact, has_node_summaries, data_summary_blocks, node_summary_blocks, compact_count, compact_blocks, data_log_numbers, has_room_for_summaries}
use Rattle.f2_bytes.specs.Journal.{nat_records, sit_records, nat_journal_area, sit_journal_area, data_summary_start, node_summary_start}
use Rattle.f2_bytes.specs.Summary.{pack_summary, compact_place, summary_at, summary_entry}
use Rattle.f2_pack.specs.Held.{blocks_of, nat_area_in, sit_area_in, data_summary_in}
use Rattle.f2_pack.specs.Laws.{KeepsSummaries, ReadsItsBlocks}
use Rattle.f2_pack.proofs.PackReads.{room, cond_same, compact_low, taken_low, sum_low, count_low, head-frame, nat_area-frame, sit_area-frame, orphans-frame}
use Rattle.f2_pack.proofs.ValidHeads.{head_facts, head_of_valid}

-- what is chosen where the test is true
pub when_true : {A : Type 0} (b : Bool) (x y : A) → b ≡ true → cond b x y ≡ x
when_true true x y is = refl
when_true false x y is = cc

pub when_false : {A : Type 0} (b : Bool) (x y : A) → b ≡ false → cond b x y ≡ y
when_false true x y is = cc
when_false false x y is = refl

-- one number more
pub range_more : (a n j : ℕ) → a + n ≡ j → range_with_len a (n + 1) ≡ range_with_len a n ++ j ∷ []
range_more a zero j is = ap (λ k. k ∷ []) (omega (arith, is))
range_more a (suc n) j is =
    let shifted : suc n + 1 ≡ suc (n + 1) = omega arith in
    ap (range_with_len a) shifted ∙ ap (λ l. a ∷ l) (range_more (a + 1) n j (omega (arith, is)))

-- one of the blocks
pub block_in : (pack : Pack) (start count j : ℕ) → j < count → block_at (blocks_of pack start count) j ≡ pack (start + j)
block_in pack start count j below = get_or-map-range_with_len pack start count j (start + j) [] below refl

pub blocks_same : (p q : Pack) (start count : ℕ) → ((j : ℕ) → start ≤ j → j < start + count → q j ≡ p j) → blocks_of q start count ≡ blocks_of p start count
blocks_same p q start zero same = refl
blocks_same p q start (suc count) same =
    let first : q start ≡ p start = same start (omega arith) (omega arith) in
    let rest : blocks_of q (start + 1) count ≡ blocks_of p (start + 1) count = blocks_same p q (start + 1) count (λ j low high. same j (omega (arith, low)) (omega (arith, high))) in
    λ i. first i ∷ rest i

-- there is a summary block for each data log, or one of the compact form at least
pub some_data : (head : Block) → 1 ≤ data_summary_blocks head
some_data head = go (is_compact head) (nat_le (sum_by (compact_count head) data_log_numbers) 439) (nat_le (sum_by (compact_count head) data_log_numbers) 1023)
  where
    go : (c p q : Bool) → 1 ≤ cond {A = ℕ} c (cond p 1 (cond q 2 3)) 3
    go true true q = omega arith
    go true false true = omega arith
    go true false false = omega arith
    go false p q = omega arith

pub wide_data : (head : Block) → is_compact head ≡ false → data_summary_blocks head ≡ 3
wide_data head wide = ap (λ c. cond c (compact_blocks head) 3) wide

-- the journal areas that stand in the summary blocks of the data logs
pub nat_area_kept : (pack : Pack) → nat_area_in (pack_head pack) (blocks_of pack (data_summary_start (pack_head pack)) (data_summary_blocks (pack_head pack))) ≡ nat_journal_area pack
unfolding nat_journal_area
nat_area_kept pack =
    let head = pack_head pack in
    let start = data_summary_start head in
    let first : block_at (blocks_of pack start (data_summary_blocks head)) 0 ≡ pack start = block_in pack start (data_summary_blocks head) 0 (some_data head) ∙ ap pack (omega arith) in
    λ i. if is_compact head then bytes_at (first i) 0 507 else bytes_at (first i) 3584 507

pub sit_area_kept : (pack : Pack) → sit_area_in (pack_head pack) (blocks_of pack (data_summary_start (pack_head pack)) (data_summary_blocks (pack_head pack))) ≡ sit_journal_area pack
unfolding sit_journal_area
sit_area_kept pack =
    let head = pack_head pack in
    let start = data_summary_start head in
    let count = data_summary_blocks head in
    let first : block_at (blocks_of pack start count) 0 ≡ pack start = block_in pack start count 0 (some_data head) ∙ ap pack (omega arith) in
    cond_same (is_compact head)
    (λ small. ap (λ b. bytes_at b 507 507) first)
    (λ wide. ap (λ b. bytes_at b 3584 507) (block_in pack start count 2 (omega (arith, wide_data head wide))))

-- the blocks that are kept are counted by the head
module _ (head : Block) (fits : has_room_for_summaries head ≡ true) where
  pub data_end : data_summary_start head + data_summary_blocks head < pack_total_block_count head
  data_end = go (is_compact head) refl
    where
      go : (c : Bool) → is_compact head ≡ c → cond {A = ℕ} c (pack_start_sum head) (pack_total_block_count head - node_summary_blocks head - 4) + data_summary_blocks head < pack_total_block_count head
      go true small = let r = room head fits in omega (arith, r.1)
      go false wide = let r = room head fits in omega (arith, r.0, r.1, wide_data head wide)

  pub node_end : 0 < node_summary_blocks head → node_summary_start head + node_summary_blocks head < pack_total_block_count head
  node_end = go (has_node_summaries head) (room head fits).0 (room head fits).1
    where
      go : (n : Bool) → 1 ≤ pack_start_sum head → pack_start_sum head + data_summary_blocks head + cond {A = ℕ} n 3 0 + 1 ≤ pack_total_block_count head → 0 < cond {A = ℕ} n 3 0 → pack_total_block_count head - 4 + cond {A = ℕ} n 3 0 < pack_total_block_count head
      go true first all some = omega (arith, first, all)
      go false first all some = absurd (omega (arith, some))

some_nodes : (head : Block) → has_node_summaries head ≡ true → node_summary_blocks head ≡ 3
some_nodes head has = ap (λ n. cond n 3 0) has

-- an entry of the compact form stands in one of its blocks
pub compact_inside : (head : Block) → ((n : ℕ) → n < 3 → compact_count head n ≤ 512) → (t k : ℕ) → t < 3 → is_compact head ≡ true → k < compact_count head t → (compact_place (map (compact_count head) data_log_numbers) t k).0 < data_summary_blocks head
compact_inside head most_each t k early small inside =
    let c = compact_count head in
    let few : data_summary_blocks head ≡ compact_blocks head = ap (λ s. cond s (compact_blocks head) 3) small in
    let most : sum_by c data_log_numbers ≤ 1536 = sum_low c (most_each 0 (omega arith)) (most_each 1 (omega arith)) (most_each 2 (omega arith)) in
    let entry : sum (take t (map c data_log_numbers)) + k < sum_by c data_log_numbers = taken_low c t k early inside in
    let at : (compact_place (map c data_log_numbers) t k).0 < compact_blocks head = compact_low (sum_by c data_log_numbers) (sum (take t (map c data_log_numbers)) + k) most entry in
    omega (arith, few, at)

-- what is kept of a valid pack stands in the blocks that its head counts
pub reads_its_blocks : ReadsItsBlocks
reads_its_blocks l p q number valid same =
    let head = pack_head p in
    let fits = (head_facts l head (head_of_valid l p valid)).has_room in
    let is_head : pack_head q ≡ head = head-frame p q same fits in
    let end = data_end head fits in
    let summaries : blocks_of q (data_summary_start (pack_head q)) (data_summary_blocks (pack_head q)) ≡ blocks_of p (data_summary_start head) (data_summary_blocks head) =
    ap (λ (b : Block). blocks_of q (data_summary_start b) (data_summary_blocks b)) is_head
    ∙ blocks_same p q (data_summary_start head) (data_summary_blocks head) (λ j low high. same j (omega (arith, high, end))) in
    let nodes : blocks_of q (node_summary_start (pack_head q)) (node_summary_blocks (pack_head q)) ≡ blocks_of p (node_summary_start head) (node_summary_blocks head) =
    ap (λ (b : Block). blocks_of q (node_summary_start b) (node_summary_blocks b)) is_head
    ∙ blocks_same p q (node_summary_start head) (node_summary_blocks head) (λ j low high. same j (let end = node_end head fits (omega (arith, low, high)) in omega (arith, high, end))) in
    λ i. record {
      head = is_head i;
      number = number;
      nat_journal = nat_records (nat_area-frame p q same fits i);
      sit_journal = sit_records (sit_area-frame p q same fits i);
      orphan_inodes = orphans-frame p q same fits i;
      data_summaries = summaries i;
      node_summaries = nodes i;
    }

-- the summaries that are kept of a valid pack are those of the pack
pub keeps_summaries : KeepsSummaries
unfolding pack_summary
keeps_summaries l pack number valid t k low inside =
    let head = pack_head pack in
    let facts = head_facts l head (head_of_valid l pack valid) in
    let start = data_summary_start head in
    let count = data_summary_blocks head in
    let kept = blocks_of pack start count in
    let place = compact_place (map (compact_count head) data_log_numbers) t k in
    when_true (nat_lt k 512) _ None (lt-ltb k 512 inside)
    ∙ cond_same (nat_lt t 3)
    (λ early. cond_same (is_compact head)
    (λ small. cond_same (nat_lt k (compact_count head t))
    (λ below. ap (λ b. Some (summary_at b place.1)) (block_in pack start count place.0 (compact_inside head (λ n few. count_low l head facts.agrees n (omega (arith, few))) t k (ltb-true t 3 early) small (ltb-true k (compact_count head t) below))))
    (λ past. refl))
    (λ wide. ap (λ b. Some (summary_entry b k)) (block_in pack start count t (omega (arith, ltb-true t 3 early, wide_data head wide)))))
    (λ node. cond_same (has_node_summaries head)
    (λ has. ap (λ b. Some (summary_entry b k)) (block_in pack (node_summary_start head) (node_summary_blocks head) (t - 3) (omega (arith, low, ltb-false t 3 node, some_nodes head has))))
    (λ none. refl))

pub count_at : (c : ℕ → ℕ) (t : ℕ) → t < 3 → get_or (map c data_log_numbers) t 0 ≡ c t
count_at c zero low = refl
count_at c (suc zero) low = refl
count_at c (suc (suc zero)) low = refl
count_at c (suc (suc (suc t))) low = absurd (omega (arith, low))

-- the entry that was read of the compact form
pub compact_kept : (head : Block) (summaries : List Block) (t k : ℕ) (counts : List ℕ) (place : ℕ × ℕ) (b : Block)
    → is_compact head ≡ true → counts ≡ map (compact_count head) data_log_numbers → k < compact_count head t → place ≡ compact_place counts t k → b ≡ block_at summaries place.0
    → Some (summary_at b place.1) ≡ data_summary_in head summaries t k
compact_kept head summaries t k counts place b small is_counts inside is_place is_block =
    let at : place ≡ compact_place (map (compact_count head) data_log_numbers) t k = is_place ∙ ap (λ l. compact_place l t k) is_counts in
    ap (λ x. Some (summary_at x place.1)) is_block
    ∙ ap (λ (p : ℕ × ℕ). Some (summary_at (block_at summaries p.0) p.1)) at
    ∙ sym (when_true (nat_lt k (compact_count head t)) _ None (lt-ltb k (compact_count head t) inside))
    ∙ sym (when_true (is_compact head) _ (Some (summary_entry (block_at summaries t) k)) small)
