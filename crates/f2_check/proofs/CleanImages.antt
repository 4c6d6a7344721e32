-- A mounted image can be read. It is checked exactly where its verdict is clean.
use Rattle.std.proofs.Common.{◌≡◌, ℕ, ◌+◌, ◌*◌, ◌^◌, ◌≤◌, true, ◌&&◌, ◌==◌, length, Option, Some, None, refl, sym, ap, ◌∙◌, arith}
use Rattle.std.specs.Prelude.{◌↔◌, is_some, is_none, nat_le}
use Rattle.std.proofs.lemmas.Bool.{and_from, and_parts, eq-eqb, le-leb}
use Rattle.std.proofs.lemmas.List.FromFn.{length-map-range_with_len}
use Rattle.f2_bytes.specs.Bytes.{Image}
use Rattle.f2_bytes.specs.Check.{failing_rule, is_checked, is_checked_body, is_readable}
use Rattle.f2_bytes.specs.Checkpoint.{pack, has_checkpoint}
use Rattle.f2_bytes.specs.Journal.{nat_journal_area, sit_journal_area, nat_record_at, sit_record_at, nat_room, sit_room, journal_count, are_journals_bounded}
use Rattle.f2_bytes.specs.Superblock.{super_copy, super_bytes, is_loadable, unsupported_features, block_count}
use Rattle.f2_defects.specs.Verdicts.{Says, IsVerdict}
use Rattle.f2_defects.specs.declared.verdict.Verdict.{Verdict}
use Rattle.f2_defects.specs.declared.verdict.Verdict.TheVariants.{Clean, Defects}
use Rattle.f2_disk.specs.Disk.{IsImage}
use Rattle.f2_pack.specs.Held.{Held}
use Rattle.f2_view.specs.Mounted.{Mounted, IsKept, IsMountOf, layout_in}

module _ (image : Image) (m : Mounted) (kept : IsKept m) (of : IsMountOf image m) where
  -- its journals hold no more than they have room for
  nat_few : journal_count (nat_journal_area (pack image)) ≤ nat_room
  nat_few =
      let area = nat_journal_area (pack image) in
      let same = ap (λ (h : Held). length h.nat_journal) of.chosen in
      let count = length-map-range_with_len (λ k. nat_record_at area (2 + 13 * k)) 0 (journal_count area) in
      let few = kept.chosen.held.nat_journal in
      omega (arith, same, count, few)

  sit_few : journal_count (sit_journal_area (pack image)) ≤ sit_room
  sit_few =
      let area = sit_journal_area (pack image) in
      let same = ap (λ (h : Held). length h.sit_journal) of.chosen in
      let count = length-map-range_with_len (λ k. sit_record_at area (2 + 78 * k)) 0 (journal_count area) in
      let few = kept.chosen.held.sit_journal in
      omega (arith, same, count, few)

  bounded : are_journals_bounded (pack image) ≡ true
  bounded =
      and_from (nat_le (journal_count (nat_journal_area (pack image))) nat_room) (nat_le (journal_count (sit_journal_area (pack image))) sit_room)
      (le-leb (journal_count (nat_journal_area (pack image))) nat_room nat_few) (le-leb (journal_count (sit_journal_area (pack image))) sit_room sit_few)

  loadable : (size : ℕ) → length image ≡ size → (layout_in m).blocks ≤ size → is_loadable image ≡ true
  loadable size long lies =
      let same : (layout_in m).blocks ≡ block_count (super_bytes image) = ap block_count of.sup in
      let few = kept.in_order.few in
      let there : is_some (super_copy image) ≡ true = ap is_some of.copy in
      let known : (unsupported_features (super_bytes image) == 0) ≡ true = eq-eqb (unsupported_features (super_bytes image)) 0 (ap unsupported_features (sym of.sup) ∙ of.supported) in
      let low : nat_le (block_count (super_bytes image)) (2 ^ 28) ≡ true = le-leb (block_count (super_bytes image)) (2 ^ 28) (omega (arith, same, few)) in
      let held : nat_le (block_count (super_bytes image)) (length image) ≡ true = le-leb (block_count (super_bytes image)) (length image) (omega (arith, same, lies, long)) in
      λ i. there i && known i && low i && held i

  pub can_read : (size : ℕ) → IsImage size image → (layout_in m).blocks ≤ size → is_readable image ≡ true
  can_read size whole lies =
      and_from (is_loadable image && has_checkpoint image) (are_journals_bounded (pack image))
      (and_from (is_loadable image) (has_checkpoint image) (loadable size whole.size lies) of.checkpoint) bounded

-- a verdict is clean exactly where no rule fails
clean_none : (image : Image) (o : Option ℕ) (v : Verdict) → Says image o v → (v ≡ Clean) ↔ (is_none o ≡ true)
clean_none image None Clean says = (λ is. refl, λ none. refl)
clean_none image None (Defects rule list count) says = absurd says
clean_none image (Some least) Clean says = absurd says
clean_none image (Some least) (Defects rule list count) says = (λ is. cc, λ none. cc)

clean_where : (image : Image) (first : ℕ) (v : Verdict) → is_readable image ≡ true → IsVerdict image first v
    → (v ≡ Clean) ↔ ((is_readable image && is_none (failing_rule image first)) ≡ true)
clean_where image first v reads says =
    let both = clean_none image (failing_rule image first) v says in
    (λ is. and_from (is_readable image) (is_none (failing_rule image first)) reads (both.0 is), λ checked. both.1 (and_parts (is_readable image) (is_none (failing_rule image first)) checked).1)

module _ (image : Image) (v : Verdict) (reads : is_readable image ≡ true) where
  pub clean_checked : IsVerdict image 1 v → (v ≡ Clean) ↔ (is_checked image ≡ true)
  clean_checked says = clean_where image 1 v reads says

  pub clean_body : IsVerdict image 2 v → (v ≡ Clean) ↔ (is_checked_body image ≡ true)
  clean_body says = clean_where image 2 v reads says
