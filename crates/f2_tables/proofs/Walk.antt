-- The walks over the blocks of the tables.
use Rattle.std.proofs.Common.{◌≡◌, inl, inr, ℕ, ◌+◌, ◌*◌, ◌/◌, ◌≤◌, ◌<◌, max, Some, None, sym, ap, ◌∙◌, arith}
use Rattle.std.specs.Prelude.{unwrap_or}
use Rattle.std.proofs.lemmas.Bool.{cases_lt}
use Rattle.f2_bytes.specs.Bytes.{Block, Image, block_at}
use Rattle.f2_bytes.specs.Journal.{NatEntry}
use Rattle.f2_bytes.specs.NodeAddressTable.{nat_block_address, nat_entry_in, next_live}
use Rattle.f2_bytes.specs.SegmentTable.{sit_block_address, sit_entry_in}
use Rattle.f2_tables.specs.Tables.{NatTable, SitTable, nat_newer, sit_newer, nat_over, sit_over, nat_in, sit_in, IsFirst}
use Rattle.f2_tables.proofs.Least.{next-some, next-none}

-- the entry in the block that is read for it
pub over_in : (t : NatTable) (image : Image) (b : Block) (k m : ℕ) → b ≡ block_at image (nat_block_address t.layout t.bits k) → m / 455 ≡ k → nat_over t b m ≡ nat_in t image m
over_in t image b k m is here =
    λ i. unwrap_or (nat_newer t m) (nat_entry_in ((is ∙ ap (λ j. block_at image (nat_block_address t.layout t.bits j)) (sym here)) i) m)

-- and that of a segment
pub sit_over_in : (t : SitTable) (image : Image) (b : Block) (k m : ℕ) → b ≡ block_at image (sit_block_address t.layout t.bits k) → m / 55 ≡ k → sit_over t b m ≡ sit_in t image m
sit_over_in t image b k m is here =
    λ i. unwrap_or (sit_newer t m) (sit_entry_in ((is ∙ ap (λ j. block_at image (sit_block_address t.layout t.bits j)) (sym here)) i) m)

-- one is found in block k, and none stood before it
pub live-some : (t : NatTable) (image : Image) (b : Block) (k from low first n : ℕ) → low ≡ max from 3 → first ≡ max low (455 * k) → k < t.layout.nat_half
    → b ≡ block_at image (nat_block_address t.layout t.bits k) → IsFirst first (455 * (k + 1)) (nat_over t b) (Some n)
    → ((m : ℕ) → low ≤ m → m < 455 * k → (nat_in t image m).address ≡ 0)
    → next_live t.layout (nat_in t image) from ≡ Some n
live-some t image b k from low first n low_is first_is below is found before =
    next-some t.layout (nat_in t image) from n (omega (arith, low_is, first_is, found.within.0)) (omega (arith, low_is, first_is, found.within.0)) (omega (arith, below, found.within.1))
    (λ zero. found.some (ap (λ (e : NatEntry). e.address) (over_in t image b k n is (omega (arith, first_is, found.within.0, found.within.1))) ∙ zero)) none
  where
    none : (m : ℕ) → from ≤ m → 3 ≤ m → m < n → (nat_in t image m).address ≡ 0
    none m a c lt = elim (cases_lt m (455 * k)) [
      | inl early ↦ before m (omega (arith, low_is, a, c)) early
      | inr late ↦
          ap (λ (e : NatEntry). e.address) (sym (over_in t image b k m is (omega (arith, late, lt, found.within.1))))
          ∙ found.least m (omega (arith, first_is, low_is, a, c, late)) lt
    ]

-- none stood in any block
pub live-none : (t : NatTable) (image : Image) (k from low : ℕ) → low ≡ max from 3 → t.layout.nat_half ≤ k
    → ((m : ℕ) → low ≤ m → m < 455 * k → (nat_in t image m).address ≡ 0)
    → next_live t.layout (nat_in t image) from ≡ None
live-none t image k from low low_is past before =
    next-none t.layout (nat_in t image) from (λ m a c lt. before m (omega (arith, low_is, a, c)) (omega (arith, past, lt)))
