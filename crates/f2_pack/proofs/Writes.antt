-- The pack that is written, and what is read of it.
use Rattle.std.proofs.Common.{◌≡◌, ℕ, zero, suc, ◌+◌, ◌-◌, ◌≤◌, ◌<◌, Bool, true, false, cond, nat_le, not, ◌&&◌, List, [], ◌∷◌, ◌++◌, length, take, Some, None, Ok, Err, refl, sym, ap, ◌∙◌, arith}
use Rattle.std.specs.Prelude.{slice_range, ◌||◌}
use Rattle.std.proofs.lemmas.Bool.{and_parts, leb-true, le-leb, lt-leb}
use Rattle.f2_bytes.specs.Bytes.{Block, block_at, number_at, with_number, has_bit}
use Rattle.f2_bytes.specs.Checksum.{with_seal, crc, magic_number}
use Rattle.f2_bytes.specs.declared.layout.Layout.{Layout}
use Rattle.f2_bytes.specs.Checkpoint.{Pack, pack_at, pack_head, pack_tail, pack_total_block_count, pack_start_sum, checkpoint_ver, chosen_pack, is_pack_valid, is_compact, has_orphans, has_node_summaries, data_summary_blocks, node_summary_blocks, compact_blocks}
use Rattle.f2_bytes.specs.Journal.{data_summary_start, node_summary_start, nat_journal_area, sit_journal_area, journal_count, nat_room, sit_room, are_journals_bounded}
use Rattle.f2_bytes.proofs.Numbers.{number_at-front, take-with_number, length-with_number}
use Rattle.f2_pack.specs.declared.writing.NewPack.{NewPack}
use Rattle.f2_pack.specs.Held.{blocks_of, chosen_of}
use Rattle.f2_pack.specs.Laws.{HigherCounts, WrittenIsChosen, WrittenIsRead}
use Rattle.f2_pack.specs.Valid.{is_head_valid, is_tail_of}
use Rattle.f2_pack.specs.Written.{written, IsNormal}
use Rattle.f2_pack.specs.Choice.{choice_in, read_of, version_limit}
use Rattle.f2_pack.specs.declared.choosing.PackRefusal.TheVariants.{VersionLimit}
use Rattle.f2_pack.proofs.Kept.{reads_its_blocks, when_false}
use Rattle.f2_pack.proofs.Making.{bounded_value}
use Rattle.f2_pack.proofs.PackReads.{chosen_valid, nat_area-frame, sit_area-frame}
use Rattle.f2_pack.proofs.ValidHeads.{head_facts, head_of_valid, pack_parts}

-- a seal keeps the numbers that stand before its place
number_at-with_seal : (b : Block) (i n : ℕ) → length b ≡ 4096 → i + n ≤ 164 → number_at (with_seal b) i n ≡ number_at b i n
unfolding with_seal
number_at-with_seal b i n size before =
    let placed = with_number b 164 4 4092 in
    let checksum = crc magic_number (take 4092 placed) in
    let long : length placed ≡ 4096 = length-with_number b 164 4 4092 (omega (arith, size)) ∙ size in
    let front : take 164 (with_number placed 4092 4 checksum) ≡ take 164 b =
    take-with_number placed 164 4092 4 checksum (omega arith) (omega (arith, long)) ∙ take-with_number b 164 164 4 4092 (omega arith) (omega (arith, size)) in
    number_at-front (with_number placed 4092 4 checksum) b i n 164 before front

pub normal_sealed : (head : Block) → length head ≡ 4096 → IsNormal head → IsNormal (with_seal head)
normal_sealed head size normal = record {
  flags = number_at-with_seal head 132 4 size (omega arith) ∙ normal.flags;
  total = number_at-with_seal head 136 4 size (omega arith) ∙ normal.total;
}

-- what the head of a normal pack says
pub record NormalFacts (head : Block) : Type 0 where
  pub compact : is_compact head ≡ false
  pub orphans : has_orphans head ≡ false
  pub nodes : has_node_summaries head ≡ true
  pub data_start : data_summary_start head ≡ 1
  pub data_blocks : data_summary_blocks head ≡ 3
  pub node_start : node_summary_start head ≡ 4
  pub node_blocks : node_summary_blocks head ≡ 3

pub normal_facts : (head : Block) → IsNormal head → NormalFacts head
normal_facts head normal =
    let compact : is_compact head ≡ false = ap (λ f. has_bit f 2) normal.flags in
    let nodes : has_node_summaries head ≡ true = ap (λ f. has_bit f 0 || has_bit f 5) normal.flags in
    let node_blocks : node_summary_blocks head ≡ 3 = ap (λ n. cond n 3 0) nodes in
    record {
      compact = compact;
      orphans = ap (λ f. has_bit f 1) normal.flags;
      nodes = nodes;
      data_start = λ i. cond (compact i) (pack_start_sum head) (normal.total i - node_blocks i - 4);
      data_blocks = ap (λ c. cond c (compact_blocks head) 3) compact;
      node_start = ap (λ n. n - 4) normal.total;
      node_blocks = node_blocks;
    }

-- the summary blocks stand behind the head
first_three : (h : Block) (sums : List Block) → length sums ≡ 6 → slice_range sums 0 3 ≡ blocks_of (block_at (h ∷ [] ++ sums ++ h ∷ [])) 1 3
first_three h (a ∷ b ∷ c ∷ d ∷ e ∷ f ∷ []) six = refl
first_three h [] six = absurd (omega (arith, six))
first_three h (a ∷ []) six = absurd (omega (arith, six))
first_three h (a ∷ b ∷ []) six = absurd (omega (arith, six))
first_three h (a ∷ b ∷ c ∷ []) six = absurd (omega (arith, six))
first_three h (a ∷ b ∷ c ∷ d ∷ []) six = absurd (omega (arith, six))
first_three h (a ∷ b ∷ c ∷ d ∷ e ∷ []) six = absurd (omega (arith, six))
first_three h (a ∷ b ∷ c ∷ d ∷ e ∷ f ∷ g ∷ rest) six = absurd (omega (arith, six))

last_three : (h : Block) (sums : List Block) → length sums ≡ 6 → slice_range sums 3 6 ≡ blocks_of (block_at (h ∷ [] ++ sums ++ h ∷ [])) 4 3
last_three h (a ∷ b ∷ c ∷ d ∷ e ∷ f ∷ []) six = refl
last_three h [] six = absurd (omega (arith, six))
last_three h (a ∷ []) six = absurd (omega (arith, six))
last_three h (a ∷ b ∷ []) six = absurd (omega (arith, six))
last_three h (a ∷ b ∷ c ∷ []) six = absurd (omega (arith, six))
last_three h (a ∷ b ∷ c ∷ d ∷ []) six = absurd (omega (arith, six))
last_three h (a ∷ b ∷ c ∷ d ∷ e ∷ []) six = absurd (omega (arith, six))
last_three h (a ∷ b ∷ c ∷ d ∷ e ∷ f ∷ g ∷ rest) six = absurd (omega (arith, six))

eighth : (h : Block) (sums : List Block) → length sums ≡ 6 → block_at (h ∷ [] ++ sums ++ h ∷ []) 7 ≡ h
eighth h (a ∷ b ∷ c ∷ d ∷ e ∷ f ∷ []) six = refl
eighth h [] six = absurd (omega (arith, six))
eighth h (a ∷ []) six = absurd (omega (arith, six))
eighth h (a ∷ b ∷ []) six = absurd (omega (arith, six))
eighth h (a ∷ b ∷ c ∷ []) six = absurd (omega (arith, six))
eighth h (a ∷ b ∷ c ∷ d ∷ []) six = absurd (omega (arith, six))
eighth h (a ∷ b ∷ c ∷ d ∷ e ∷ []) six = absurd (omega (arith, six))
eighth h (a ∷ b ∷ c ∷ d ∷ e ∷ f ∷ g ∷ rest) six = absurd (omega (arith, six))

module _ (p : NewPack) (head : Block) (is_head : head ≡ with_seal p.head) (size : length p.head ≡ 4096) (six : length p.sums ≡ 6) (normal : IsNormal p.head) where
  facts : NormalFacts (with_seal p.head)
  facts = normal_facts (with_seal p.head) (normal_sealed p.head size normal)

  pub written_data_count : 3 ≡ data_summary_blocks head
  written_data_count = sym (ap data_summary_blocks is_head ∙ facts.data_blocks)

  pub written_node_count : 3 ≡ node_summary_blocks head
  written_node_count = sym (ap node_summary_blocks is_head ∙ facts.node_blocks)

  pub written_data : slice_range p.sums 0 3 ≡ blocks_of (written p) (data_summary_start head) (data_summary_blocks head)
  written_data = first_three (with_seal p.head) p.sums six ∙ λ i. blocks_of (written p) (sym (ap data_summary_start is_head ∙ facts.data_start) i) (written_data_count i)

  pub written_nodes : slice_range p.sums 3 6 ≡ blocks_of (written p) (node_summary_start head) (node_summary_blocks head)
  written_nodes = last_three (with_seal p.head) p.sums six ∙ λ i. blocks_of (written p) (sym (ap node_summary_start is_head ∙ facts.node_start) i) (written_node_count i)

  pub no_orphans : has_orphans head ≡ false
  no_orphans = ap has_orphans is_head ∙ facts.orphans

  -- its tail is its head again
  pub written_valid : (l : Layout) → is_pack_valid l (written p) ≡ is_head_valid l head && is_tail_of head head
  written_valid l =
      let total : pack_total_block_count (with_seal p.head) ≡ 8 = (normal_sealed p.head size normal).total in
      let tail : pack_tail (written p) ≡ with_seal p.head = ap (λ n. written p (n - 1)) total ∙ eighth (with_seal p.head) p.sums six in
      pack_parts l (written p) ∙ λ i. is_head_valid l (sym is_head i) && is_tail_of (sym is_head i) ((tail ∙ sym is_head) i)

-- the counts of the journals of a bounded pack
pub counts_bounded : (pack : Pack) → are_journals_bounded pack ≡ true → (journal_count (nat_journal_area pack) ≤ nat_room) × (journal_count (sit_journal_area pack) ≤ sit_room)
counts_bounded pack bounded =
    let both = and_parts _ _ bounded in
    (leb-true (journal_count (nat_journal_area pack)) nat_room both.0, leb-true (journal_count (sit_journal_area pack)) sit_room both.1)

pub bounded_counts : (pack : Pack) → journal_count (nat_journal_area pack) ≤ nat_room → journal_count (sit_journal_area pack) ≤ sit_room → are_journals_bounded pack ≡ true
bounded_counts pack few less =
    let first = le-leb (journal_count (nat_journal_area pack)) nat_room few in
    let second = le-leb (journal_count (sit_journal_area pack)) sit_room less in
    λ i. first i && second i

pub written_is_read : WrittenIsRead
written_is_read l image p size six normal chosen same =
    let pack = pack_at l image p.pack in
    let is_head : pack 0 ≡ with_seal p.head = same 0 (omega arith) in
    let total : pack_total_block_count (pack_head pack) ≡ 8 = ap pack_total_block_count is_head ∙ (normal_sealed p.head size normal).total in
    sym (reads_its_blocks l pack (written p) p.pack (chosen_valid l image p.pack chosen) (λ j below. sym (same j (omega (arith, below, total)))))

pub written_is_chosen : WrittenIsChosen
written_is_chosen l image p size six normal chosen same bounded low =
    let pack = pack_at l image p.pack in
    let valid = chosen_valid l image p.pack chosen in
    let is_head : pack 0 ≡ with_seal p.head = same 0 (omega arith) in
    let total : pack_total_block_count (pack_head pack) ≡ 8 = ap pack_total_block_count is_head ∙ (normal_sealed p.head size normal).total in
    let back : (j : ℕ) → j < pack_total_block_count (pack_head pack) → written p j ≡ pack j = λ j below. sym (same j (omega (arith, below, total))) in
    let room = (head_facts l (pack_head pack) (head_of_valid l pack valid)).has_room in
    let few = counts_bounded (written p) bounded in
    let N = nat_journal_area pack in
    let S = sit_journal_area pack in
    let nat_few : journal_count N ≤ nat_room = omega (arith, few.0, ap journal_count (nat_area-frame pack (written p) back room)) in
    let sit_few : journal_count S ≤ sit_room = omega (arith, few.1, ap journal_count (sit_area-frame pack (written p) back room)) in
    let version : checkpoint_ver (pack_head pack) ≡ checkpoint_ver p.head = ap checkpoint_ver is_head ∙ number_at-with_seal p.head 0 8 size (omega arith) in
    let below : nat_le version_limit (checkpoint_ver (pack_head pack)) ≡ false = lt-leb version_limit (checkpoint_ver (pack_head pack)) (omega (arith, version, low)) in
    ap (choice_in (pack_at l image)) chosen
    ∙ when_false (nat_le version_limit (checkpoint_ver (pack_head pack))) (Err (VersionLimit (checkpoint_ver (pack_head pack)))) (read_of pack p.pack) below
    ∙ bounded_value N S (chosen_of pack p.pack) nat_few sit_few
    ∙ ap (λ h. Ok h) (written_is_read l image p size six normal chosen same)

-- a valid pack counts where the other isn't valid or has a lower version
pub higher_counts : HigherCounts
unfolding chosen_pack
higher_counts l image zero low valid lower = go (is_pack_valid l (pack_at l image 1)) refl
  where
    a : ℕ
    a = checkpoint_ver (pack_head (pack_at l image 0))

    b : ℕ
    b = checkpoint_ver (pack_head (pack_at l image 1))

    go : (w : Bool) → is_pack_valid l (pack_at l image 1) ≡ w → chosen_pack l image ≡ Some 0
    go false is = λ i. cond (valid i && (not (is i) || nat_le b a)) (Some 0) (cond (is i) (Some 1) None)
    go true is = λ i. cond (valid i && (not (is i) || le-leb b a (omega (arith, lower is)) i)) (Some 0) (cond (is i) (Some 1) None)
higher_counts l image (suc zero) low valid lower = go (is_pack_valid l (pack_at l image 0)) refl
  where
    a : ℕ
    a = checkpoint_ver (pack_head (pack_at l image 0))

    b : ℕ
    b = checkpoint_ver (pack_head (pack_at l image 1))

    go : (v : Bool) → is_pack_valid l (pack_at l image 0) ≡ v → chosen_pack l image ≡ Some 1
    go false is = λ i. cond (is i && (not (valid i) || nat_le b a)) (Some 0) (cond (valid i) (Some 1) None)
    go true is = λ i. cond (is i && (not (valid i) || lt-leb b a (lower is) i)) (Some 0) (cond (valid i) (Some 1) None)
higher_counts l image (suc (suc n)) low valid lower = absurd (omega (arith, low))
