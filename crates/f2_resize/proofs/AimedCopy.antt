-- A copy that says the areas of an aim passes.
use Rattle.std.proofs.Common.{◌≡◌, ℕ, ◌+◌, ◌-◌, ◌*◌, ◌/◌, ◌%◌, ◌<◌, ◌≤◌, List, Bool, true, false, ◌==◌, ◌&&◌, ◌||◌, nat_le, refl, sym, ap, ◌∙◌, ⊎_elim, arith}
use Rattle.std.proofs.lemmas.Bool.{and_parts, and_from, eq-eqb, ne_eqb, le-leb, lt-leb, cases_lt, false≢true}
use Rattle.f2_bytes.specs.Checksum.{magic_number}
use Rattle.f2_bytes.specs.Superblock.{copy_row, copy_passes, has_known_form, has_known_counts, has_joined_areas, has_enough_room, has_right_checksum, is_compared_row, block_count, section_count, segment_count, segment_count_ckpt, segment_count_sit, segment_count_nat, segment_count_ssa, segment_count_main, cp_blkaddr, segment0_blkaddr, sit_blkaddr, nat_blkaddr, ssa_blkaddr, main_blkaddr}
use Rattle.f2_bytes.proofs.CopyFacts.{counts}
use Rattle.f2_bytes.specs.declared.aim.Aim.{Aim}
use Rattle.f2_bytes.specs.Resize.{aim_of, aimed_layout}
use Rattle.f2_resize.specs.Relaid.{is_area_row, IsCopyFor}
use Rattle.f2_resize.specs.Emptied.{IsAimedCopy, AimedCopyPasses}
use Rattle.f2_resize.proofs.AimFacts.{AreSizes, sizes, old_sizes}

counts_true : (ckpt sit nat ssa main sections : ℕ) → ckpt ≡ 2 → 2 ≤ sit → sit % 2 ≡ 0 → 2 ≤ nat → nat % 2 ≡ 0 → 1 ≤ ssa → 1 ≤ main → sections ≡ main
    → ((ckpt == 2) && nat_le 2 sit && (sit % 2 == 0) && nat_le 2 nat && (nat % 2 == 0) && nat_le 1 ssa && nat_le 1 main && (sections == main)) ≡ true
counts_true ckpt sit nat ssa main sections a b c d e f g h =
    rw (eq-eqb ckpt 2 a, le-leb 2 sit b, eq-eqb (sit % 2) 0 c, le-leb 2 nat d, eq-eqb (nat % 2) 0 e, le-leb 1 ssa f, le-leb 1 main g, eq-eqb sections main h) refl

joined_true : (cp first ckpt sit nat ssa a b c d m blocks : ℕ) → cp ≡ first → 2 ≤ cp → a ≡ cp + 512 * ckpt → b ≡ a + 512 * sit → c ≡ b + 512 * nat → d ≡ c + 512 * ssa → d + 512 * m ≤ blocks
    → ((cp == first) && nat_le 2 cp && (a == cp + 512 * ckpt) && (b == a + 512 * sit) && (c == b + 512 * nat) && (d == c + 512 * ssa) && nat_le (d + 512 * m) blocks) ≡ true
joined_true cp first ckpt sit nat ssa a b c d m blocks p q r s t u v =
    rw (eq-eqb cp first p, le-leb 2 cp q, eq-eqb a (cp + 512 * ckpt) r, eq-eqb b (a + 512 * sit) s, eq-eqb c (b + 512 * nat) t, eq-eqb d (c + 512 * ssa) u, le-leb (d + 512 * m) blocks v) refl

room_true : (ckpt sit nat ssa main segments : ℕ) → ckpt + sit + nat + ssa + main ≤ segments → main ≤ 512 * ssa → main ≤ 28160 * (sit / 2) → 32 * (sit + nat) ≤ 3900
    → (nat_le (ckpt + sit + nat + ssa + main) segments && nat_le main (512 * ssa) && nat_le main (28160 * (sit / 2)) && nat_le (32 * (sit + nat)) 3900) ≡ true
room_true ckpt sit nat ssa main segments a b c d =
    rw (le-leb (ckpt + sit + nat + ssa + main) segments a, le-leb main (512 * ssa) b, le-leb main (28160 * (sit / 2)) c, le-leb (32 * (sit + nat)) 3900 d) refl

both_fit : (sit nat : ℕ) → sit % 2 ≡ 0 → nat % 2 ≡ 0 → sit / 2 + nat / 2 ≤ 60 → 32 * (sit + nat) ≤ 3900
both_fit sit nat a b c = omega (arith, a, b, c)

end_fits : (cp s n a m d blocks limit : ℕ) → d ≡ cp + 1024 + 512 * s + 512 * n + 512 * a → cp + 512 * (2 + s + n + a + m) ≤ limit → blocks ≡ limit → d + 512 * m ≤ blocks
end_fits cp s n a m d blocks limit at low same = omega (arith, at, low, same)

all_segments : (cp s n a m : ℕ) → 2 + s + n + a + m ≡ (cp + 1024 + 512 * s + 512 * n + 512 * a - cp) / 512 + m
all_segments cp s n a m = omega arith

-- no row past 31 is compared
compared_low : (row : ℕ) → is_compared_row row ≡ true → row < 32
compared_low row compared = ⊎_elim (λ low. low) (λ high. absurd (false≢true (sym (none high) ∙ compared))) (cases_lt row 32)
  where
    none : 32 ≤ row → is_compared_row row ≡ false
    none high = parts (nat_le 3 row) (nat_le row 8) (nat_le 10 row) (nat_le row 28) (row == 30) (row == 31)
        (lt-leb row 8 (omega (arith, high))) (lt-leb row 28 (omega (arith, high))) (ne_eqb row 30 (λ e. omega (arith, high, e))) (ne_eqb row 31 (λ e. omega (arith, high, e)))
      where
        parts : (a b c d e f : Bool) → b ≡ false → d ≡ false → e ≡ false → f ≡ false → ((a && b) || (c && d) || e || f) ≡ false
        parts true b true d e f p q r s = rw (p, q, r, s) refl
        parts true b false d e f p q r s = rw (p, r, s) refl
        parts false b true d e f p q r s = rw (q, r, s) refl
        parts false b false d e f p q r s = rw (r, s) refl

module _ (old new : List ℕ) (aim : Aim) (pass : copy_passes old ≡ true) (z : AreSizes old aim) (some : 1 ≤ aim.main) (n : IsAimedCopy aim old new) where
  row : (k : ℕ) → k < 32 → is_area_row k ≡ false → copy_row new k ≡ copy_row old k
  row k low kept = n.rows k low kept

  form : has_known_form new ≡ true
  unfolding has_known_form copy_passes
  form = (λ i.
      (row 0 (omega arith) refl i == magic_number)
      && nat_le 9 (row 3 (omega arith) refl i)
      && nat_le (row 3 (omega arith) refl i) 12
      && (row 4 (omega arith) refl i == 12 - row 3 (omega arith) refl i)
      && (row 5 (omega arith) refl i == 12)
      && (row 6 (omega arith) refl i == 9)
      && (row 7 (omega arith) refl i == 1)
      && nat_le 1 (row 8 (omega arith) refl i)
      && (row 30 (omega arith) refl i == 0)
      && (row 24 (omega arith) refl i == 3)
      && (row 25 (omega arith) refl i == 1)
      && (row 26 (omega arith) refl i == 2))
      ∙ (and_parts _ _ (and_parts _ _ (and_parts _ _ (and_parts _ _ pass).0).0).0).0

  ckpt : segment_count_ckpt new ≡ 2
  ckpt = row 13 (omega arith) refl ∙ (counts old pass).ckpt

  same_cp : cp_blkaddr new ≡ cp_blkaddr old
  same_cp = row 19 (omega arith) refl

  known_counts : has_known_counts new ≡ true
  unfolding has_known_counts
  known_counts =
      let sit = n.sit in
      let nat = n.nat in
      let ssa = n.ssa in
      let main = n.main in
      let sit_some = z.sit_some in
      let nat_some = z.nat_some in
      let ssa_some = z.ssa_some in
      counts_true (segment_count_ckpt new) (segment_count_sit new) (segment_count_nat new) (segment_count_ssa new) (segment_count_main new) (section_count new)
      ckpt (omega (arith, sit, sit_some)) (ap (λ m. m % 2) sit ∙ z.sit_even) (omega (arith, nat, nat_some)) (ap (λ m. m % 2) nat ∙ z.nat_even)
      (omega (arith, ssa, ssa_some)) (omega (arith, main, some)) (n.sections ∙ sym main)

  joined : has_joined_areas new ≡ true
  unfolding has_joined_areas
  joined =
      let sit = n.sit in
      let nat = n.nat in
      let ssa = n.ssa in
      let main = n.main in
      let a = n.sit_start in
      let b = n.nat_start in
      let c = n.ssa_start in
      let d = n.main_start in
      let two = ckpt in
      let cp = same_cp in
      let low = (old_sizes old pass).cp in
      let inside = z.inside some in
      let size = n.blocks in
      joined_true (cp_blkaddr new) (segment0_blkaddr new) (segment_count_ckpt new) (segment_count_sit new) (segment_count_nat new) (segment_count_ssa new)
      (sit_blkaddr new) (nat_blkaddr new) (ssa_blkaddr new) (main_blkaddr new) (segment_count_main new) (block_count new)
      (cp ∙ (old_sizes old pass).first ∙ sym (row 18 (omega arith) refl)) (omega (arith, cp, low))
      (omega (arith, a, cp, two)) (omega (arith, a, b, sit)) (omega (arith, b, c, nat)) (omega (arith, c, d, ssa)) (omega (arith, d, inside, size, main))

  enough : has_enough_room new ≡ true
  unfolding has_enough_room
  enough =
      let sit = n.sit in
      let nat = n.nat in
      let ssa = n.ssa in
      let main = n.main in
      let two = ckpt in
      let all = n.segments in
      let summaries = z.summaries in
      let entries = z.entries in
      let fits = both_fit aim.sit aim.nat z.sit_even z.nat_even z.halves in
      room_true (segment_count_ckpt new) (segment_count_sit new) (segment_count_nat new) (segment_count_ssa new) (segment_count_main new) (segment_count new)
      (omega (arith, two, sit, nat, ssa, main, all)) (omega (arith, ssa, main, summaries)) (omega (arith, sit, main, entries)) (omega (arith, sit, nat, fits))

  passes : copy_passes new ≡ true
  unfolding copy_passes
  passes =
      and_from _ (has_right_checksum new)
      (and_from _ (has_enough_room new)
      (and_from _ (has_joined_areas new)
      (and_from (has_known_form new) (has_known_counts new) form known_counts) joined) enough) n.checksum

  copy_for : IsCopyFor (aimed_layout old aim) old new
  copy_for = record {
    passes = passes;
    areas = λ i. record {
      blocks = n.blocks i;
      cp = same_cp i;
      sit = n.sit_start i;
      nat = n.nat_start i;
      ssa = n.ssa_start i;
      main = n.main_start i;
      sit_half = 512 * (n.sit i / 2);
      nat_half = 512 * (n.nat i / 2);
      segments = n.main i;
    };
    segments = n.segments ∙ all_segments (cp_blkaddr old) aim.sit aim.nat aim.ssa aim.main;
    rows = λ k compared kept. n.rows k (compared_low k compared) kept;
  }

-- the law
pub aimed_copy_passes : AimedCopyPasses
aimed_copy_passes old new blocks pass few some n = copy_for old new (aim_of old blocks) pass (sizes old blocks pass few) some n
