-- Whatever a commit leaves is the old image with its support unchanged, or the new one.
use Rattle.std.proofs.Common.{◌≡◌, inl, inr, ℕ, ◌<◌, true, false, [], ◌++◌, length, set, refl, sym, ap, subst, ◌∙◌, arith, get_or-set_same}
use Rattle.f2_bytes.specs.Bytes.{Block, Image, block_at, number_at}
use Rattle.f2_bytes.specs.Checksum.{is_sealed, crc, magic_number}
use Rattle.f2_bytes.specs.Laws.{AgreesOnSupport}
use Rattle.f2_disk.specs.Memory.{zero_block}
use Rattle.f2_pack.specs.Written.{written}
use Rattle.f2_change.specs.CommitSteps.{SameBut, IsBetween, cleared, filled}
use Rattle.f2_change.specs.Writes.{Prepared, IsPrepared, AvoidsSupport, OldOrNew, head_address, clearing, filling, sealing, pack_body, writes, committed}
use Rattle.f2_change.proofs.SameBlocks.{is_written, Within, within_front, within_back, same_start, same_then, same_within, set_same, first_written, writes_same, row_apart, body_row}
use Rattle.f2_change.proofs.CommitSteps.{cleared_is, committed_is}
use Rattle.std.proofs.lemmas.Bool.{ne_eqb, or_from}
use Rattle.std.proofs.lemmas.List.Folds.{list_any-append}
use Rattle.std.specs.Prelude.{◌==◌, ◌&&◌, take}
use Rattle.f2_change.proofs.OldPack.{Stands, blocks_behind, old_agrees}

zeros_number : number_at zero_block 164 4 ≡ 0
unfolding zero_block number_at
zeros_number = refl

zeros_unsealed : is_sealed zero_block ≡ false
unfolding is_sealed
zeros_unsealed = ap (λ n. (n == 4092) && (number_at zero_block 4092 4 == crc magic_number (take 4092 zero_block))) zeros_number

agrees_itself : (image : Image) → AgreesOnSupport image image
agrees_itself image = record { length = refl; copies = λ n low. refl; pack = refl; blocks = λ address h. refl }

module _ (r : Prepared) (p : IsPrepared r) (image : Image) (n : ℕ) (s : Stands r image n) (avoids : AvoidsSupport image r) where
  inside : head_address r < length image
  inside =
      let o = p.in_order in
      omega (arith, s.size, p.number, o.sit, o.nat, o.ssa, o.main, o.inside)

  head_written : is_written (writes r) (head_address r) ≡ true
  head_written = first_written (head_address r) zero_block (filling r ++ sealing r)

  filling_within : Within (filling r) (writes r)
  filling_within address free = within_front (filling r) (sealing r) address (within_back (clearing r) (filling r ++ sealing r) address free)

  -- the head isn't written to in the second step
  head_free : is_written (filling r) (head_address r) ≡ false
  head_free =
      let low : head_address r < r.layout.sit = omega (arith, p.number, p.in_order.sit) in
      or_both (blocks_behind r p (head_address r) low) (ap (λ bs. is_written bs (head_address r)) (body_row r) ∙ row_apart (head_address r) (written r.pack) 1 7 (head_address r) (inl (omega arith)))
    where
      or_both : is_written r.blocks (head_address r) ≡ false → is_written (pack_body r) (head_address r) ≡ false → is_written (filling r) (head_address r) ≡ false
      or_both a b = list_any-append (λ w. w.0 == head_address r) r.blocks (pack_body r) ∙ or_from (is_written r.blocks (head_address r)) (is_written (pack_body r) (head_address r)) a b

  -- nothing is written before the packs
  low_free : (n : ℕ) → n < 2 → is_written (writes r) n ≡ false
  low_free n low =
      let front : n < r.layout.sit = omega (arith, low, p.in_order.cp, p.in_order.sit) in
      let before : n < head_address r = omega (arith, low, p.in_order.cp) in
      let apart = ne_eqb (head_address r) n (λ e. omega (arith, before, e)) in
      let body = ap (λ bs. is_written bs n) (body_row r) ∙ row_apart (head_address r) (written r.pack) 1 7 n (inl (omega (arith, before))) in
      let middle = list_any-append (λ w. w.0 == n) r.blocks (pack_body r) ∙ or_from (is_written r.blocks n) (is_written (pack_body r) n) (blocks_behind r p n front) body in
      let last : is_written (sealing r) n ≡ false = or_from (head_address r == n) false apart refl in
      or_from (head_address r == n) (is_written (filling r ++ sealing r) n) apart
      (list_any-append (λ w. w.0 == n) (filling r) (sealing r) ∙ or_from (is_written (filling r) n) (is_written (sealing r) n) middle last)

  copies_kept : (c : Image) → SameBut (writes r) image c → (n : ℕ) → n < 2 → block_at c n ≡ block_at image n
  copies_kept c same n low = same.others n (low_free n low)

  old : (c : Image) → SameBut (writes r) image c → is_sealed (block_at c (head_address r)) ≡ false → OldOrNew image r c
  old c same unsealed = record { others = same.others; copies = copies_kept c same; either = inl (old_agrees r p image n s c same avoids unsealed) }

  untouched : (c : Image) → c ≡ image → OldOrNew image r c
  untouched c is = subst (OldOrNew image r) (sym is) (record { others = λ address free. refl; copies = λ n low. refl; either = inl (agrees_itself image) })

  new : (c : Image) → c ≡ set (filled r image) (head_address r) (written r.pack 0) → OldOrNew image r c
  new c is =
      let whole : c ≡ committed r image = is ∙ committed_is r image in
      subst (OldOrNew image r) (sym whole) (record { others = (writes_same image (writes r)).others; copies = copies_kept (committed r image) (writes_same image (writes r)); either = inr refl })

  -- a head that is written over with what isn't sealed
  over : (from c : Image) (b : Block) → SameBut (writes r) image from → is_sealed b ≡ false → c ≡ set from (head_address r) b → OldOrNew image r c
  over from c b same unsealed is =
      let after : SameBut (writes r) image c = subst (SameBut (writes r) image) (sym is) (same_then same (set_same (writes r) from (head_address r) b head_written)) in
      old c after
      (ap (λ (i : Image). is_sealed (block_at i (head_address r))) is
      ∙ ap is_sealed (get_or-set_same from (head_address r) b [] (omega (arith, inside, same.size)))
      ∙ unsealed)

  cleared_same : SameBut (writes r) image (cleared r image)
  cleared_same = subst (SameBut (writes r) image) (cleared_is r image) (set_same (writes r) image (head_address r) zero_block head_written)

  cleared_head : block_at (cleared r image) (head_address r) ≡ zero_block
  cleared_head = ap (λ (i : Image). block_at i (head_address r)) (sym (cleared_is r image)) ∙ get_or-set_same image (head_address r) zero_block [] inside

  filling_kept : (c : Image) → SameBut (filling r) (cleared r image) c → OldOrNew image r c
  filling_kept c same =
      old c (same_then cleared_same (same_within filling_within same))
      (ap is_sealed (same.others (head_address r) head_free ∙ cleared_head) ∙ zeros_unsealed)

  pub filled_same : SameBut (writes r) image (filled r image)
  filled_same = same_then cleared_same (same_within filling_within (writes_same (cleared r image) (filling r)))

  pub old_or_new : (c : Image) → IsBetween image r c → OldOrNew image r c
  old_or_new c (inl (inl kept)) = untouched c kept
  old_or_new c (inl (inr (inl wrote))) = over image c zero_block (same_start (writes r) image) zeros_unsealed wrote
  old_or_new c (inl (inr (inr (torn, is_torn, wrote)))) = over image c torn (same_start (writes r) image) is_torn.unsealed wrote
  old_or_new c (inr (inl same)) = filling_kept c same
  old_or_new c (inr (inr (inl kept))) = filling_kept c (subst (SameBut (filling r) (cleared r image)) (sym kept) (writes_same (cleared r image) (filling r)))
  old_or_new c (inr (inr (inr (inl wrote)))) = new c wrote
  old_or_new c (inr (inr (inr (inr (torn, is_torn, wrote))))) = over (filled r image) c torn filled_same is_torn.unsealed wrote
