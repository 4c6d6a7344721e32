-- The head that follows that of a mount, its version, and the lengths of its version bitmaps.
use Rattle.std.proofs.Common.{◌≡◌, ℕ, ◌+◌, Bool, List, length, sym, subst, arith}
use Rattle.f2_bytes.specs.Bytes.{Block}
use Rattle.f2_bytes.specs.Checkpoint.{checkpoint_ver, sit_bits, nat_bits, sit_ver_bitmap_bytesize, nat_ver_bitmap_bytesize}
use Rattle.f2_pack.specs.declared.checkpoint.Log.{Log}
use Rattle.f2_view.specs.Mounted.{Mounted, layout_in, IsKept}
use Rattle.f2_change.specs.declared.change.Change.{Change}
use Rattle.f2_change.specs.declared.change.Counts.{Counts}
use Rattle.f2_change.specs.Change.{given, TurnsBits, IsNextHead, next_rows, nat_turned, sit_turned}
use Rattle.f2_change.specs.NewPacks.{FollowsHead}
use Rattle.f2_change.proofs.CarriedSeals.{length_part}

pub length_sit : (m : Mounted) → IsKept m → length (sit_bits m.chosen.head) ≡ sit_ver_bitmap_bytesize m.chosen.head
length_sit m kept = length_part m.chosen.head 192 (sit_ver_bitmap_bytesize m.chosen.head) (omega (arith, kept.chosen.held.bitmaps, kept.chosen.held.head.length))

pub length_nat : (m : Mounted) → IsKept m → length (nat_bits m.chosen.head) ≡ nat_ver_bitmap_bytesize m.chosen.head
length_nat m kept =
    length_part m.chosen.head (192 + sit_ver_bitmap_bytesize m.chosen.head) (nat_ver_bitmap_bytesize m.chosen.head) (omega (arith, kept.chosen.held.bitmaps, kept.chosen.held.head.length))

version_of : (old head : Block) (version : ℕ) (logs : List Log) (counts : Counts) (s n : ℕ → Bool) → IsNextHead old (next_rows version logs counts) s n head → checkpoint_ver head ≡ version
unfolding given
version_of old head version logs counts s n is = is.rows_given 0 (omega arith)

module _ (m : Mounted) (c : Change) (old head : Block) (version : ℕ) (sit nat : List ℕ) (is_old : old ≡ m.chosen.head)
    (turns_sit : TurnsBits (sit_bits m.chosen.head) sit (sit_turned (layout_in m) c.sit.items m.chosen.sit_journal))
    (turns_nat : TurnsBits (nat_bits m.chosen.head) nat (nat_turned (layout_in m) c.nat.items m.chosen.nat_journal))
    (made : (s n : ℕ → Bool) → TurnsBits (sit_bits old) sit s → TurnsBits (nat_bits old) nat n → IsNextHead old (next_rows version c.logs c.counts) s n head) where
  abbrev s : ℕ → Bool
  s = sit_turned (layout_in m) c.sit.items m.chosen.sit_journal

  abbrev n : ℕ → Bool
  n = nat_turned (layout_in m) c.nat.items m.chosen.nat_journal

  its_head : IsNextHead m.chosen.head (next_rows version c.logs c.counts) s n head
  its_head =
      subst (λ (b : Block). IsNextHead b (next_rows version c.logs c.counts) s n head) is_old
      (made s n (subst (λ (b : Block). TurnsBits (sit_bits b) sit s) (sym is_old) turns_sit) (subst (λ (b : Block). TurnsBits (nat_bits b) nat n) (sym is_old) turns_nat))

  pub its_version : checkpoint_ver head ≡ version
  its_version = version_of m.chosen.head head version c.logs c.counts s n its_head

  pub follows-head : FollowsHead m c head
  follows-head = subst (λ v. IsNextHead m.chosen.head (next_rows v c.logs c.counts) s n head) (sym its_version) its_head
