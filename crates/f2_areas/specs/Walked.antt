-- How far a part's comparisons have been taken, in their order.
use Rattle.std.specs.Prelude.{◌≡◌, ℕ, List, ◌++◌, ◌+◌, filter_map, flat_map}
use Rattle.f2_bytes.specs.Bytes.{numbers_below}
use Rattle.f2_bytes.specs.Check.{Part, Defect, defect_of, defects_at}
use Rattle.f2_defects.specs.Collected.{Collection, Collects}

-- the defects of a part at the first numbers below a, and at a for the second numbers below b
unfoldable pub defects_before : Part → ℕ → ℕ → List Defect
defects_before p a b = flat_map (defects_at p) (numbers_below a) ++ filter_map (λ k. defect_of p.number a k (p.comparison a k)) (numbers_below b)

-- these are collected
pub record HasWalked (c : Collection) (p : Part) (a b : ℕ) : Type 0 where
  pub part : c.part ≡ p.number
  pub collects : Collects c (defects_before p a b)

-- all comparisons at a have been taken
abbrev pub WalksRow : Collection → Collection → Part → ℕ → Type 0
WalksRow old new p a = HasWalked old p a 0 → HasWalked new p (a + 1) 0
