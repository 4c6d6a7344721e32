-- The image that a commit makes, and the mount of it.
use Rattle.std.proofs.Common.{◌≡◌, ℕ, zero, suc, ◌+◌, ◌-◌, ◌*◌, ◌≤◌, ◌<◌, true, Bool, false, cond, [], length, Option, Some, None, refl, sym, ap, ◌∙◌, arith, get_or-set_same, get_or-set_other}
use Rattle.std.specs.Prelude.{unwrap_or, is_some}
use Rattle.std.proofs.lemmas.Bool.{false≢true}
use Rattle.f2_bytes.specs.declared.layout.Layout.{Layout}
use Rattle.f2_bytes.specs.Bytes.{Image, block_at}
use Rattle.f2_bytes.specs.Superblock.{layout, layout_of}
use Rattle.f2_bytes.specs.Checkpoint.{pack_at, pack_head, pack, head, pack_number, chosen_pack, has_checkpoint, is_pack_valid, pack_total_block_count, checkpoint_ver}
use Rattle.f2_pack.specs.Held.{Held, chosen_of}
use Rattle.f2_pack.specs.Written.{written}
use Rattle.f2_pack.proofs.Writes.{higher_counts, normal_sealed, written_is_read}
use Rattle.f2_view.specs.Mounted.{Mounted, layout_in, IsMountOf, HasCopies}
use Rattle.f2_change.specs.CommitSteps.{SameBut, cleared, filled}
use Rattle.f2_change.specs.Writes.{Prepared, IsPrepared, Follows, head_address, clearing, filling, pack_body, writes, with_writes, committed}
use Rattle.f2_change.proofs.SameBlocks.{row_reads, body_row, writes_append, writes_same}
use Rattle.f2_change.proofs.CommitSteps.{committed_is}
use Rattle.f2_change.proofs.OldPack.{Stands, copies_kept, layout_same, old_pack_same}
use Rattle.f2_change.proofs.Valid.{stays_valid, sealed_version}

some_of : (k : Option ℕ) → is_some k ≡ true → k ≡ Some (unwrap_or k 0)
some_of (Some n) is = refl
some_of None is = absurd (false≢true is)

number_low : (l : Layout) (image : Image) → unwrap_or (chosen_pack l image) 0 < 2
unfolding chosen_pack
number_low l image = go _ _
  where
    go : (a b : Bool) → unwrap_or (cond a (Some 0) (cond b (Some 1) None)) 0 < 2
    go true b = omega arith
    go false true = omega arith
    go false false = omega arith

-- what is ready follows the mount of this image
pub stands_of : (image : Image) (m : Mounted) (r : Prepared) → IsMountOf image m → Follows m r → (layout_in m).blocks ≤ length image → Stands r image (pack_number image)
unfolding layout head
stands_of image m r is follows size =
    let own : layout image ≡ r.layout = ap layout_of (sym is.sup) ∙ sym follows.layout in
    let number : m.chosen.number ≡ pack_number image = ap (λ (h : Held). h.number) is.chosen in
    let heads : m.chosen.head ≡ head image = ap (λ (h : Held). h.head) is.chosen in
    record {
      own = own;
      counts = some_of (chosen_pack (layout image) image) is.checkpoint;
      low = number_low (layout image) image;
      other = follows.number ∙ ap (λ k. 1 - k) number;
      version = omega (arith, follows.version, ap checkpoint_ver heads);
      size = omega (arith, size, ap (λ (l : Layout). l.blocks) follows.layout);
    }

module _ (r : Prepared) (p : IsPrepared r) (bytes : length r.pack.head ≡ 4096) (six : length r.pack.sums ≡ 6) (image : Image) (n : ℕ) (s : Stands r image n) where
  abbrev pub new : Image
  new = committed r image

  pub same : SameBut (writes r) image new
  same = writes_same image (writes r)

  copies : HasCopies new image
  copies = copies_kept r p image n s new same

  room : head_address r + 8 ≤ length image
  room =
      let o = p.in_order in
      omega (arith, s.size, p.number, o.sit, o.nat, o.ssa, o.main, o.inside)

  long : length (with_writes (cleared r image) r.blocks) ≡ length image
  long = (writes_same (cleared r image) r.blocks).size ∙ (writes_same image _).size

  -- the blocks of the new pack
  in_place : (j : ℕ) → j < 8 → block_at new (head_address r + j) ≡ written r.pack j
  in_place zero low =
      let place : head_address r + 0 ≡ head_address r = omega arith in
      ap (block_at new) place
      ∙ ap (λ (i : Image). block_at i (head_address r)) (sym (committed_is r image))
      ∙ get_or-set_same (filled r image) (head_address r) (written r.pack 0) [] (omega (arith, room, (writes_same (cleared r image) (filling r)).size, (writes_same image (clearing r)).size))
  in_place (suc j) low =
      let at = head_address r + suc j in
      let before = with_writes (cleared r image) r.blocks in
      ap (λ (i : Image). block_at i at) (sym (committed_is r image))
      ∙ get_or-set_other (filled r image) (head_address r) at (written r.pack 0) [] (λ e. absurd (omega (arith, e)))
      ∙ ap (λ (i : Image). block_at i at) (writes_append (cleared r image) r.blocks (pack_body r))
      ∙ ap (λ bs. block_at (with_writes before bs) at) (body_row r)
      ∙ row_reads before (head_address r) (written r.pack) 1 7 (suc j) (omega arith) (omega (arith, low)) (omega (arith, room, long))

  -- the pack in the layout of the image
  abbrev l : Layout
  l = layout image

  pub pack_is : (j : ℕ) → j < 8 → pack_at l new r.pack.pack j ≡ written r.pack j
  pack_is j low =
      ap (λ (k : Layout). block_at new (k.cp + 512 * r.pack.pack + j)) s.own ∙ in_place j low

  total : pack_total_block_count (pack_head (written r.pack)) ≡ 8
  total = (normal_sealed r.pack.head bytes p.normal).total

  valid : is_pack_valid l (pack_at l new r.pack.pack) ≡ true
  valid = stays_valid l (written r.pack) (pack_at l new r.pack.pack) (λ j below. pack_is j (omega (arith, below, total))) (ap (λ (k : Layout). is_pack_valid k (written r.pack)) s.own ∙ p.valid)

  old_head : pack_head (pack_at l new (1 - r.pack.pack)) ≡ head image
  unfolding head pack
  old_head =
      let back : 1 - r.pack.pack ≡ n = omega (arith, s.other, s.low) in
      let number : n ≡ pack_number image = sym (ap (λ (k : Option ℕ). unwrap_or k 0) s.counts) in
      ap (λ k. block_at new (l.cp + 512 * k + 0)) back
      ∙ old_pack_same r p image n s new same 0 (omega arith)
      ∙ ap (λ k. block_at image (l.cp + 512 * k + 0)) number

  new_counts : chosen_pack l new ≡ Some r.pack.pack
  new_counts =
      let version : checkpoint_ver (pack_head (pack_at l new r.pack.pack)) ≡ checkpoint_ver r.pack.head = ap checkpoint_ver (pack_is 0 (omega arith)) ∙ sealed_version r.pack.head bytes in
      let before : checkpoint_ver (pack_head (pack_at l new (1 - r.pack.pack))) ≡ checkpoint_ver (head image) = ap checkpoint_ver old_head in
      higher_counts l new r.pack.pack p.number valid (λ other. omega (arith, version, before, s.version))

  pub own_counts : chosen_pack (layout new) new ≡ Some r.pack.pack
  own_counts = ap (λ (k : Layout). chosen_pack k new) (layout_same r p image n s new same) ∙ new_counts

  pub new_copies : HasCopies new image
  new_copies = copies

  pub new_has_checkpoint : has_checkpoint new ≡ true
  new_has_checkpoint = ap is_some own_counts

  pub new_chosen : chosen_of (written r.pack) r.pack.pack ≡ chosen_of (pack new) (pack_number new)
  unfolding pack
  new_chosen =
      let number : pack_number new ≡ r.pack.pack = ap (λ (k : Option ℕ). unwrap_or k 0) own_counts in
      sym ((λ i. chosen_of (pack_at (layout_same r p image n s new same i) new (number i)) (number i))
      ∙ written_is_read l new r.pack bytes six p.normal new_counts pack_is)
