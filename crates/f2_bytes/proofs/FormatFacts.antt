-- The facts on the format through which larger proofs speak of it.
use Rattle.std.proofs.Common.{◌≡◌, ◌+◌, Bool, true, false, not, is_some, refl}
use Rattle.std.proofs.lemmas.Bool.{and_parts, not-true, false≢true}
use Rattle.f2_bytes.specs.Bytes.{Image, block_at}
use Rattle.f2_bytes.specs.Superblock.{super_copy, super_bytes, copy_passes, passes, layout, segment_start}
use Rattle.f2_bytes.specs.Support.{is_support, is_free}
use Rattle.f2_bytes.specs.Laws.{FreeHasNoSupport}
use Rattle.f2_bytes.proofs.Below.{each_below}

-- the copy that counts passes
pub super_passes : (image : Image) → is_some (super_copy image) ≡ true → copy_passes (super_bytes image) ≡ true
super_passes image h = go (passes (block_at image 0)) refl (passes (block_at image 1)) refl
  where
    go : (a : Bool) → passes (block_at image 0) ≡ a → (b : Bool) → passes (block_at image 1) ≡ b → copy_passes (super_bytes image) ≡ true
    go true a b c = rw a a
    go false a true b = rw (a, b) b
    go false a false b =
        let no : false ≡ true = rw (a, b) at h in
        absurd (false≢true no)

-- no free segment has a block of the support
pub free_has_no_support : FreeHasNoSupport
unfolding is_free
free_has_no_support image segment k free below =
    not-true _ (each_below (λ j. not (is_support image (segment_start (layout image) segment + j))) 512 (and_parts _ _ free).1 k below)
