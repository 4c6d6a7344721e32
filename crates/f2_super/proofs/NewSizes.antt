-- What is known of the sizes of a new image.
use Rattle.std.proofs.Common.{ap, sym, ◌≡◌, ℕ, ◌+◌, ◌-◌, ◌*◌, ◌/◌, ◌%◌, ◌^◌, ◌<◌, ◌≤◌, min, Bool, true, false, cond, Ok, Err, refl, subst, arith}
use Rattle.std.specs.Prelude.{nat_lt}
use Rattle.std.proofs.lemmas.Bool.{ltb-false}
use Rattle.f2_bytes.specs.Format.{geometry_of, least_main}
use Rattle.f2_super.specs.Geometry.{geometry_answer, geometry_with}
use Rattle.f2_super.specs.declared.sizes.Geometry.{Geometry}
use Rattle.f2_super.specs.declared.sizes.GeometryRefusal.{GeometryRefusal}
use Rattle.f2_super.specs.declared.sizes.GeometryRefusal.TheVariants.{TooLarge, TooSmall}

pub record AreSizes (g : Geometry) : Type 0 where
  pub blocks : g.blocks ≤ 2 ^ 28
  pub segments : g.segments ≡ 2 + g.sit + g.nat + g.ssa + g.main
  pub sit_even : g.sit % 2 ≡ 0
  pub sit_some : 2 ≤ g.sit
  pub nat_even : g.nat % 2 ≡ 0
  pub nat_some : 2 ≤ g.nat
  pub ssa_some : 1 ≤ g.ssa
  pub main_some : 24 ≤ g.main
  pub inside : 512 * (3 + g.sit + g.nat + g.ssa) + 512 * g.main ≤ g.blocks
  pub summaries : g.main ≤ 512 * g.ssa
  pub entries : g.main ≤ 28160 * (g.sit / 2)
  pub bitmaps : 32 * (g.sit + g.nat) ≤ 3900

-- the same of plain numbers: n segments behind the first, h and k segments of a copy of each table
sizes_with : (blocks n h q k ssa main : ℕ) → blocks ≤ 2 ^ 28 → n ≡ blocks / 512 - 1 → h ≡ ((n + 55 - 1) / 55 + 512 - 1) / 512 → q ≡ ((512 * (n - 2 - 2 * h) + 455 - 1) / 455 + 512 - 1) / 512
    → k ≡ min q (60 - 2 * h / 2) → ssa ≡ (n - 2 - 2 * h - 2 * k + 512 - 1) / 512 → main ≡ n - 2 - 2 * h - 2 * k - ssa → 24 ≤ main
    → AreSizes (record { blocks = blocks; segments = 2 + 2 * h + 2 * k + ssa + main; sit = 2 * h; nat = 2 * k; ssa = ssa; main = main })
sizes_with blocks n h q k ssa main few is_n is_h is_q is_k is_ssa is_main some =
    let low : n < 2 ^ 19 = omega (arith, few, is_n) in
    let h_low : h ≤ 19 = omega (arith, low, is_h) in
    let h_some : 1 ≤ h = omega (arith, is_h, is_main, some) in
    let q_some : 1 ≤ q = omega (arith, is_q, is_main, some) in
    let k_some : 1 ≤ k = omega (arith, is_k, q_some, h_low) in
    let k_few : h + k ≤ 60 = omega (arith, is_k, h_low) in
    let whole : 3 + 2 * h + 2 * k + ssa + main ≡ 1 + n = omega (arith, is_main, some) in
    let half : 2 * h / 2 ≡ h = omega arith in
    record {
      blocks = few;
      segments = refl;
      sit_even = omega arith;
      sit_some = omega (arith, h_some);
      nat_even = omega arith;
      nat_some = omega (arith, k_some);
      ssa_some = omega (arith, is_ssa, is_main, some);
      main_some = some;
      inside = omega (arith, whole, is_n, some);
      summaries = omega (arith, is_ssa, is_main);
      entries = omega (arith, is_h, is_main, half);
      bitmaps = omega (arith, k_few);
    }

ok_if : (t u : Bool) (a b : GeometryRefusal) (x g : Geometry) → cond t (Err a) (cond u (Err b) (Ok x)) ≡ Ok g → (t ≡ false) × (u ≡ false) × (x ≡ g)
ok_if true u a b x g is = cc
ok_if false true a b x g is = cc
ok_if false false a b x g is = (refl, refl, cc)

sizes_of_blocks : (blocks : ℕ) → blocks ≤ 2 ^ 28 → 24 ≤ (geometry_of blocks).main → AreSizes (geometry_with (geometry_of blocks))
unfolding geometry_of
sizes_of_blocks blocks few some =
    sizes_with blocks (blocks / 512 - 1) _ _ _ _ _ few refl refl refl refl refl refl some

pub are_sizes : (g : Geometry) → geometry_answer g.blocks ≡ Ok g → AreSizes g
unfolding geometry_answer
are_sizes g is =
    let b = g.blocks in
    let found = ok_if (nat_lt (2 ^ 28) b) (nat_lt (geometry_of b).main least_main) (TooLarge b) (TooSmall (geometry_of b).main least_main) (geometry_with (geometry_of b)) g is in
    subst AreSizes found.2 (sizes_of_blocks b (ltb-false _ _ found.0) (ltb-false _ _ found.1))

-- the sizes are those of an image of as many blocks
pub its_blocks : (b : ℕ) (g : Geometry) → geometry_answer b ≡ Ok g → g.blocks ≡ b
unfolding geometry_answer geometry_of
its_blocks b g is =
    let found = ok_if (nat_lt (2 ^ 28) b) (nat_lt (geometry_of b).main least_main) (TooLarge b) (TooSmall (geometry_of b).main least_main) (geometry_with (geometry_of b)) g is in
    ap (λ x. x.blocks) (sym found.2)
