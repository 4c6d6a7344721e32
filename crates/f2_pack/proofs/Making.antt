-- What was read of a pack.
use Rattle.std.proofs.Common.{◌≡◌, ℕ, ◌+◌, ◌-◌, ◌*◌, ◌<◌, ◌≤◌, Bool, true, false, cond, nat_lt, List, [], length, Result, Ok, Err, refl, sym, ap, ◌∙◌, arith}
use Rattle.std.specs.Prelude.{flat_map}
use Rattle.std.specs.List.{range_with_len}
use Rattle.std.proofs.lemmas.Bool.{ltb-false, le-ltb}
use Rattle.std.proofs.lemmas.List.FromFn.{length-map-range_with_len}
use Rattle.f2_bytes.specs.Bytes.{Block, IsBlock}
use Rattle.f2_bytes.specs.declared.layout.Layout.{Layout}
use Rattle.f2_bytes.specs.Checkpoint.{Pack, pack_head, has_orphans, pack_start_sum, orphans, orphans_in, data_summary_blocks, node_summary_blocks}
use Rattle.f2_bytes.specs.Journal.{NatRecord, SitRecord, nat_record_at, sit_record_at, nat_records, sit_records, journal_count, nat_journal_area, sit_journal_area, nat_room, sit_room, data_summary_start, node_summary_start}
use Rattle.f2_bytes.specs.Superblock.{IsInOrder}
use Rattle.f2_pack.specs.Held.{held_of, blocks_of, chosen_of, nat_area_in, sit_area_in}
use Rattle.f2_pack.specs.Valid.{is_head_valid}
use Rattle.f2_pack.specs.Choice.{IsChosen, OrFails, OnlyFails, where_bounded, journals_in, read_of}
use Rattle.f2_pack.specs.declared.choosing.PackRefusal.{PackRefusal}
use Rattle.f2_pack.specs.declared.choosing.PackRefusal.TheVariants.{NoPack, VersionLimit, BadSummary, DiskFault, NoMemory}
use Rattle.f2_pack.proofs.ValidHeads.{head_facts}
use Rattle.f2_pack.proofs.Kept.{nat_area_kept, sit_area_kept}

pub ok_same : {R : Type 0} (a b : R) → ◌≡◌ {A = Result R PackRefusal} (Ok a) (Ok b) → a ≡ b
ok_same a b is = cc

-- where the journals are bounded, a value is answered, and no other
pub record Bounded {R T : Type 0} (nat sit : List ℕ) (read kept : R) (value : T) : Type 0 where
  pub nat_count : journal_count nat ≤ nat_room
  pub sit_count : journal_count sit ≤ sit_room
  pub same : read ≡ kept
  pub answer : where_bounded nat sit value ≡ Ok value

pub bounded_ok : {R T : Type 0} (nat sit : List ℕ) (read kept : R) (value : T) → Ok read ≡ where_bounded nat sit kept → Bounded nat sit read kept value
bounded_ok nat sit read kept value is = go (nat_lt nat_room (journal_count nat)) refl (nat_lt sit_room (journal_count sit)) refl is
  where
    go : (p : Bool) → nat_lt nat_room (journal_count nat) ≡ p → (q : Bool) → nat_lt sit_room (journal_count sit) ≡ q
        → Ok read ≡ cond p (Err (BadSummary (journal_count nat))) (cond q (Err (BadSummary (journal_count sit))) (Ok kept)) → Bounded nat sit read kept value
    go true p q r is = absurd (cc is)
    go false p true q is = absurd (cc is)
    go false p false q is = record {
      nat_count = ltb-false nat_room (journal_count nat) p;
      sit_count = ltb-false sit_room (journal_count sit) q;
      same = ok_same read kept is;
      answer = λ i. cond (p i) (Err (BadSummary (journal_count nat))) (cond (q i) (Err (BadSummary (journal_count sit))) (Ok value));
    }

-- where they are not, the same is answered whatever the value
pub bounded_err : {R T : Type 0} (nat sit : List ℕ) (e : PackRefusal) (kept : R) (value : T) → Err e ≡ where_bounded nat sit kept → Err e ≡ where_bounded nat sit value
bounded_err nat sit e kept value is = go (nat_lt nat_room (journal_count nat)) (nat_lt sit_room (journal_count sit)) is
  where
    go : (p q : Bool) → Err e ≡ cond p (Err (BadSummary (journal_count nat))) (cond q (Err (BadSummary (journal_count sit))) (Ok kept))
        → Err e ≡ cond p (Err (BadSummary (journal_count nat))) (cond q (Err (BadSummary (journal_count sit))) (Ok value))
    go true q is = cc
    go false true is = cc
    go false false is = absurd (cc is)

-- and where they are, no refusal is
pub bounded_value : {T : Type 0} (nat sit : List ℕ) (value : T) → journal_count nat ≤ nat_room → journal_count sit ≤ sit_room → where_bounded nat sit value ≡ Ok value
bounded_value nat sit value few less =
    let first = le-ltb nat_room (journal_count nat) few in
    let second = le-ltb sit_room (journal_count sit) less in
    λ i. cond (first i) (Err (BadSummary (journal_count nat))) (cond (second i) (Err (BadSummary (journal_count sit))) (Ok value))

pub bounded_not_err : {T : Type 0} (nat sit : List ℕ) (e : PackRefusal) (value : T) → journal_count nat ≤ nat_room → journal_count sit ≤ sit_room → Err e ≡ where_bounded nat sit value → ⊥
bounded_not_err nat sit e value few less is = let no = is ∙ bounded_value nat sit value few less in cc no

-- the answer that was wanted
pub exactly : {T : Type 0} (answer is : Result T PackRefusal) → answer ≡ is → OrFails answer is
exactly (Ok x) is same = same
exactly (Err NoPack) is same = same
exactly (Err (VersionLimit v)) is same = same
exactly (Err (BadSummary n)) is same = same
exactly (Err DiskFault) is same = tt
exactly (Err NoMemory) is same = tt

-- or a fault, or want of memory
pub or_fails : {T : Type 0} (e : PackRefusal) (is : Result T PackRefusal) → OnlyFails e → OrFails (Err e) is
or_fails DiskFault is only = tt
or_fails NoMemory is only = tt
or_fails NoPack is only = absurd only
or_fails (VersionLimit v) is only = absurd only
or_fails (BadSummary n) is only = absurd only

-- what was read of the told blocks of a pack
module _ (pack : Pack) (number : ℕ) (head : Block) (summaries : List Block) (is_head : pack_head pack ≡ head) (is_summaries : summaries ≡ blocks_of pack (data_summary_start head) (data_summary_blocks head)) where
  kept_summaries : summaries ≡ blocks_of pack (data_summary_start (pack_head pack)) (data_summary_blocks (pack_head pack))
  kept_summaries = is_summaries ∙ ap (λ (b : Block). blocks_of pack (data_summary_start b) (data_summary_blocks b)) (sym is_head)

  nat_area : nat_area_in head summaries ≡ nat_journal_area pack
  nat_area = (λ i. nat_area_in (sym is_head i) (kept_summaries i)) ∙ nat_area_kept pack

  sit_area : sit_area_in head summaries ≡ sit_journal_area pack
  sit_area = (λ i. sit_area_in (sym is_head i) (kept_summaries i)) ∙ sit_area_kept pack

  pub areas : journals_in (nat_area_in head summaries) (sit_area_in head summaries) ≡ journals_in (nat_journal_area pack) (sit_journal_area pack)
  areas i = journals_in (nat_area i) (sit_area i)

  pub refused : (e : PackRefusal) → Err e ≡ journals_in (nat_area_in head summaries) (sit_area_in head summaries) → OrFails (Err e) (read_of pack number)
  refused e is =
      let N = nat_journal_area pack in
      let S = sit_journal_area pack in
      exactly (Err e) (read_of pack number) (bounded_err N S e (nat_records N, sit_records S) (chosen_of pack number) (is ∙ areas))

  pub read_exactly : (records : List NatRecord × List SitRecord) (inodes : List ℕ) (nodes : List Block)
      → Ok records ≡ journals_in (nat_area_in head summaries) (sit_area_in head summaries)
      → nodes ≡ blocks_of pack (node_summary_start head) (node_summary_blocks head)
      → inodes ≡ cond (has_orphans head) (flat_map (λ j. orphans_in (pack j)) (range_with_len 1 (pack_start_sum head - 1))) []
      → Ok (held_of head number records inodes summaries nodes) ≡ read_of pack number
  unfolding orphans
  read_exactly records inodes nodes is is_nodes is_inodes =
      let N = nat_journal_area pack in
      let S = sit_journal_area pack in
      let both = bounded_ok N S records (nat_records N, sit_records S) (chosen_of pack number) (is ∙ areas) in
      let kept_nodes : nodes ≡ blocks_of pack (node_summary_start (pack_head pack)) (node_summary_blocks (pack_head pack)) =
      is_nodes ∙ ap (λ (b : Block). blocks_of pack (node_summary_start b) (node_summary_blocks b)) (sym is_head) in
      let kept_inodes : inodes ≡ orphans pack =
      is_inodes ∙ ap (λ (b : Block). cond (has_orphans b) (flat_map (λ j. orphans_in (pack j)) (range_with_len 1 (pack_start_sum b - 1))) []) (sym is_head) in
      let held : held_of head number records inodes summaries nodes ≡ chosen_of pack number =
      λ i. held_of (sym is_head i) number (both.same i) (kept_inodes i) (kept_summaries i) (kept_nodes i) in
      ap (λ h. Ok h) held ∙ sym both.answer

-- what was read on any disk
pub read_soundly : (l : Layout) → IsInOrder l → (head : Block) → IsBlock head → is_head_valid l head ≡ true → (number : ℕ) → number < 2
    → (records : List NatRecord × List SitRecord) (inodes : List ℕ) (summaries nodes : List Block)
    → length summaries ≡ data_summary_blocks head → length nodes ≡ node_summary_blocks head
    → Ok records ≡ journals_in (nat_area_in head summaries) (sit_area_in head summaries)
    → IsChosen l (held_of head number records inodes summaries nodes)
read_soundly l order head block valid number low records inodes summaries nodes count node_count is =
    let facts = head_facts l head valid in
    let N = nat_area_in head summaries in
    let S = sit_area_in head summaries in
    let both = bounded_ok N S records (nat_records N, sit_records S) records is in
    let nat_same : records.0 ≡ nat_records N = ap (λ r. r.0) both.same in
    let sit_same : records.1 ≡ sit_records S = ap (λ r. r.1) both.same in
    let nat_length : length records.0 ≡ journal_count N = ap length nat_same ∙ length-map-range_with_len (λ k. nat_record_at N (2 + 13 * k)) 0 (journal_count N) in
    let sit_length : length records.1 ≡ journal_count S = ap length sit_same ∙ length-map-range_with_len (λ k. sit_record_at S (2 + 78 * k)) 0 (journal_count S) in
    record {
      held = record {
        number = low;
        head = block;
        bitmaps = omega (arith, facts.sit_bits, facts.nat_bits, order.halves);
        logs = facts.logs;
        nat_journal = omega (arith, nat_length, both.nat_count);
        sit_journal = omega (arith, sit_length, both.sit_count);
        data_summaries = count;
        node_summaries = node_count;
      };
      valid = valid;
      sit_bits = facts.sit_bits;
      nat_bits = facts.nat_bits;
      segments = facts.segments;
      nat_journal = nat_same;
      sit_journal = sit_same;
    }

-- a pack lies in the image
pub pack_inside : (l : Layout) → IsInOrder l → (number : ℕ) → number < 2 → l.cp + 512 * number + 512 ≤ l.blocks
pack_inside l order number low = omega (arith, order.sit, order.nat, order.ssa, order.main, order.inside)
