-- A summary that is put into a block changes no other.
use Rattle.std.proofs.Common.{◌≡◌, ℕ, ◌+◌, ◌≤◌, ◌⊎◌, inl, inr, List, length, arith}
use Rattle.f2_bytes.specs.Bytes.{number_at, with_bytes}
use Rattle.f2_bytes.specs.Summary.{Summary, summary_at, summary_bytes}
use Rattle.f2_bytes.proofs.Entries.{number_at-apart, read-put}
use Rattle.f2_sum.specs.Records.{FitsSummary}
use Rattle.f2_sum.proofs.Fields.{summary_at-bytes}

pub summary_at-other : (b bytes : List ℕ) (at i : ℕ) → length bytes ≡ 7 → at + 7 ≤ length b → (i + 7 ≤ at) ⊎ (at + 7 ≤ i) → summary_at (with_bytes b at bytes) i ≡ summary_at b i
summary_at-other b bytes at i size inside apart = λ j. record {
  nid = same i 4 (omega arith) (omega arith) j;
  version = same (i + 4) 1 (omega arith) (omega arith) j;
  place = same (i + 5) 2 (omega arith) (omega arith) j;
}
  where
    same : (k n : ℕ) → i ≤ k → k + n ≤ i + 7 → number_at (with_bytes b at bytes) k n ≡ number_at b k n
    same k n first last = number_at-apart b bytes at k n (omega (arith, size, inside)) (side apart)
      where
        side : (i + 7 ≤ at) ⊎ (at + 7 ≤ i) → (k + n ≤ at) ⊎ (at + length bytes ≤ k)
        side (inl before) = inl (omega (arith, last, before))
        side (inr behind) = inr (omega (arith, first, behind, size))

pub summary_at-put : (b : List ℕ) (at : ℕ) (s : Summary) → at + 7 ≤ length b → FitsSummary s → summary_at (with_bytes b at (summary_bytes s)) at ≡ s
summary_at-put b at s inside fits = read-put summary_at s b (summary_bytes s) at (omega arith) (λ front rest is. summary_at-bytes s front rest at is fits)
