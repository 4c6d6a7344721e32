-- The summaries that are read of a mounted image.
use Rattle.std.proofs.Common.{◌≡◌, ℕ, ◌+◌, ◌-◌, ◌*◌, ◌/◌, ◌%◌, ◌<◌, true, List, ◌++◌, length, take, drop, Option, Some, None, refl, sym, ap, ◌∙◌, arith}
use Rattle.std.specs.Prelude.{◌==◌, nat_le, nat_lt, is_some, unwrap_or}
use Rattle.std.proofs.Math.ListN.{drop_of_length-le}
use Rattle.std.proofs.lemmas.List.{append-nil}
use Rattle.std.proofs.lemmas.Bool.{eq-eqb, ne_eqb, and_parts, leb-true}
use Rattle.f2_bytes.specs.declared.layout.Layout.{Layout}
use Rattle.f2_bytes.specs.Bytes.{Block, Image, block_at, numbers_below}
use Rattle.f2_bytes.specs.Checkpoint.{head, log, pack, pack_at, pack_number, chosen_pack, is_pack_valid}
use Rattle.f2_bytes.specs.Summary.{summary, summary_in, summary_entry, pack_summary, missing_summary, log_of}
use Rattle.f2_bytes.specs.Superblock.{layout, is_main, segment_of, place_of}
use Rattle.f2_bytes.proofs.Finds.{find-least, find-nothing}
use Rattle.f2_pack.proofs.Kept.{keeps_summaries}
use Rattle.f2_pack.proofs.PackReads.{chosen_valid}
use Rattle.f2_pack.specs.Held.{Held, held_summary}
use Rattle.f2_view.specs.Mounted.{Mounted, IsMountOf, layout_in}
use Rattle.f2_view.proofs.TableReadings.{own_layout, own_head}

-- the least log of a segment
module _ (head : Block) (segno : ℕ) where
  pub log_found : (t : ℕ) → t < 6 → (log head t).segment ≡ segno → ((n : ℕ) → n < t → (log head n).segment ≡ segno → ⊥) → log_of head segno ≡ Some t
  unfolding numbers_below
  log_found t few here before =
      find-least (λ n. (log head n).segment == segno) 6 t few (eq-eqb (log head t).segment segno here) (λ n lt. ne_eqb (log head n).segment segno (before n lt))

  pub log_none : ((n : ℕ) → n < 6 → (log head n).segment ≡ segno → ⊥) → log_of head segno ≡ None
  unfolding numbers_below
  log_none none = find-nothing (λ n. (log head n).segment == segno) 6 (λ n lt. ne_eqb (log head n).segment segno (none n lt))

-- bytes that are put over all of a block
pub put_over : (b bytes : List ℕ) → length b ≡ length bytes → take 0 b ++ bytes ++ drop (0 + length bytes) b ≡ bytes
put_over b bytes same =
    ap (λ l. bytes ++ l) (drop_of_length-le b (omega (arith, same))) ∙ append-nil bytes

-- the segment of an address in main, and its place there
pub parts_of : (l k : Layout) (address : ℕ) → k ≡ l → is_main l address ≡ true → address ≡ l.main + 512 * ((address - k.main) / 512) + (address - k.main) % 512
parts_of l k address same inside =
    let low = leb-true l.main address (and_parts (nat_le l.main address) (nat_lt address (l.main + 512 * l.segments)) inside).0 in
    let main : k.main ≡ l.main = ap (λ (x : Layout). x.main) same in
    omega (arith, low, main)

module _ (image : Image) (m : Mounted) (of : IsMountOf image m) where
  pack_valid : is_pack_valid (layout image) (pack image) ≡ true
  unfolding pack
  pack_valid = go (chosen_pack (layout image) image) refl of.checkpoint
    where
      go : (number : Option ℕ) → chosen_pack (layout image) image ≡ number → is_some number ≡ true → is_pack_valid (layout image) (pack_at (layout image) image (unwrap_or number 0)) ≡ true
      go None is some = cc
      go (Some n) is some = chosen_valid (layout image) image n is

  -- the summaries that the mount keeps are those of the pack
  pub kept_summary : (t k : ℕ) → t < 6 → k < 512 → held_summary m.chosen t k ≡ pack_summary (pack image) t k
  kept_summary t k few inside = ap (λ (h : Held). held_summary h t k) of.chosen ∙ keeps_summaries (layout image) (pack image) (pack_number image) pack_valid t k few inside

  module _ (segno k address : ℕ) (inside : k < 512) (at : address ≡ (layout_in m).main + 512 * segno + k) where
    own_main : (layout_in m).main ≡ (layout image).main
    own_main = ap (λ (l : Layout). l.main) (own_layout image m of)

    segment : segment_of (layout image) address ≡ segno
    segment = omega (arith, inside, at, own_main)

    place : place_of (layout image) address ≡ k
    place = omega (arith, inside, at, own_main)

    own_log : log_of (head image) (segment_of (layout image) address) ≡ log_of m.chosen.head segno
    own_log = λ i. log_of (sym (own_head image m of) i) (segment i)

    pub of_log : (t : ℕ) → log_of m.chosen.head segno ≡ Some t → summary image address ≡ unwrap_or (pack_summary (pack image) t k) (missing_summary image t address)
    unfolding summary
    of_log t is =
        ap (λ o. summary_in (layout image) (pack image) image o address) (own_log ∙ is)
        ∙ ap (λ j. unwrap_or (pack_summary (pack image) t j) (missing_summary image t address)) place

    pub of_no_log : log_of m.chosen.head segno ≡ None → summary image address ≡ summary_entry (block_at image ((layout_in m).ssa + segno)) k
    unfolding summary
    of_no_log is =
        ap (λ o. summary_in (layout image) (pack image) image o address) (own_log ∙ is)
        ∙ λ i. summary_entry (block_at image ((sym (own_layout image m of) i).ssa + segment i)) (place i)
