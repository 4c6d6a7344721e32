-- What a mount keeps of the superblock is the same in each image with the same copies.
use Rattle.std.proofs.Common.{◌≡◌, ◌<◌, ℕ, Bool, true, false, cond, Option, Some, None, ap, ◌∙◌, sym, arith}
use Rattle.std.specs.Prelude.{unwrap_or, ◌&&◌}
use Rattle.f2_bytes.specs.Bytes.{Image, block_at}
use Rattle.f2_bytes.specs.Superblock.{copy_of, passes, agree, super_copy, super_bytes, has_twins}
use Rattle.f2_bytes.specs.Checkpoint.{pack, pack_number, has_checkpoint}
use Rattle.f2_pack.specs.Held.{Held, chosen_of}
use Rattle.f2_view.specs.Mounted.{Mounted, IsMountOf, HasCopies}

counting_copy : (first second : Bool) → unwrap_or (cond first (Some 0) (cond second (Some 1) None)) 0 < 2
counting_copy true second = omega arith
counting_copy false true = omega arith
counting_copy false false = omega arith

same_copy : (old image : Image) → HasCopies image old → super_copy image ≡ super_copy old
same_copy old image same =
    let first = same 0 (omega arith) in
    let second = same 1 (omega arith) in
    λ i. cond (passes (first i)) (Some 0) (cond (passes (second i)) (Some 1) None)

same_bytes : (old image : Image) → HasCopies image old → super_bytes image ≡ super_bytes old
same_bytes old image same =
    ap (λ (k : Option ℕ). copy_of (block_at image (unwrap_or k 0))) (same_copy old image same)
    ∙ ap copy_of (same (unwrap_or (super_copy old) 0) (counting_copy (passes (block_at old 0)) (passes (block_at old 1))))

same_twins : (old image : Image) → HasCopies image old → has_twins image ≡ has_twins old
same_twins old image same =
    let first = same 0 (omega arith) in
    let second = same 1 (omega arith) in
    λ i. passes (first i) && passes (second i) && agree (copy_of (first i)) (copy_of (second i))

pub renewed : (old image : Image) (m : Mounted) (c : Held) → IsMountOf old m → HasCopies image old → has_checkpoint image ≡ true → c ≡ chosen_of (pack image) (pack_number image)
    → IsMountOf image (record { found = m.found; chosen = c })
renewed old image m c is same counts chosen = record {
  copy = same_copy old image same ∙ is.copy;
  sup = is.sup ∙ sym (same_bytes old image same);
  twin = is.twin ∙ sym (same_twins old image same);
  supported = is.supported;
  checkpoint = counts;
  chosen = chosen;
}
