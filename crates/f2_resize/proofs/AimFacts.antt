-- What is known of an aim: its layout is in order, and where its main area begins and ends.
use Rattle.std.proofs.Common.{◌≡◌, ℕ, ◌+◌, ◌-◌, ◌*◌, ◌/◌, ◌%◌, ◌≤◌, List, Bool, true, false, nat_lt, refl, arith}
use Rattle.std.specs.Prelude.{max, min}
use Rattle.std.proofs.lemmas.Bool.{and_parts, eqb-true, le-ltb}
use Rattle.f2_bytes.specs.Superblock.{copy_passes, has_joined_areas, block_count, segment0_blkaddr, cp_blkaddr, main_blkaddr, segment_count_ckpt, segment_count_sit, segment_count_nat, segment_count_ssa, segment_count_main, IsInOrder}
use Rattle.f2_bytes.specs.Format.{sit_segments, nat_segments, ssa_segments}
use Rattle.f2_bytes.proofs.CopyFacts.{counts, places, room}
use Rattle.f2_bytes.specs.declared.aim.Aim.{Aim}
use Rattle.f2_bytes.specs.Resize.{aim_down, aim_up, aim_of, aimed_layout}
use Rattle.f2_resize.specs.Laws.{AimIsInOrder, AimMovesMain, GrowthKeepsSegments, HeldSizeKeepsAreas}
use Rattle.f2_resize.proofs.AimNumbers.{sit_even, sit_small, quotient_enough, nat_even, ssa_enough, more_sit, even_sit, small_sit, enough_sit, some_nat, nat_whole, nat_fits, more_both}

-- what the numbers of an aim have to be
pub record AreSizes (c : List ℕ) (aim : Aim) : Type 0 where
  pub sit_even : aim.sit % 2 ≡ 0
  pub sit_some : 2 ≤ aim.sit
  pub nat_even : aim.nat % 2 ≡ 0
  pub nat_some : 2 ≤ aim.nat
  pub halves : aim.sit / 2 + aim.nat / 2 ≤ 60
  pub ssa_some : 1 ≤ aim.ssa
  pub summaries : aim.main ≤ 512 * aim.ssa
  pub entries : aim.main ≤ 28160 * (aim.sit / 2)
  pub inside : 1 ≤ aim.main → cp_blkaddr c + 512 * (2 + aim.sit + aim.nat + aim.ssa + aim.main) ≤ aim.blocks
  -- no fewer segments before the main area, and as many more as the aim says
  pub later : segment_count_sit c + segment_count_nat c + segment_count_ssa c + aim.delta ≡ aim.sit + aim.nat + aim.ssa

-- ---- the old numbers

pub record OldSizes (c : List ℕ) : Type 0 where
  pub first : cp_blkaddr c ≡ segment0_blkaddr c
  pub cp : 2 ≤ cp_blkaddr c
  pub sit_small : segment_count_sit c ≤ 118
  pub both_small : segment_count_sit c + segment_count_nat c ≤ 120
  pub main : main_blkaddr c ≡ cp_blkaddr c + 512 * (2 + segment_count_sit c + segment_count_nat c + segment_count_ssa c)
  pub end : main_blkaddr c + 512 * segment_count_main c ≤ block_count c

pub first_area : (c : List ℕ) → copy_passes c ≡ true → cp_blkaddr c ≡ segment0_blkaddr c
unfolding copy_passes has_joined_areas
first_area c pass =
    let p = (and_parts _ _ (and_parts _ _ (and_parts _ _ pass).0).0).1 in
    let p5 = (and_parts _ _ p).0 in
    let p4 = (and_parts _ _ p5).0 in
    let p3 = (and_parts _ _ p4).0 in
    let p2 = (and_parts _ _ p3).0 in
    let p1 = (and_parts _ _ p2).0 in
    eqb-true (cp_blkaddr c) (segment0_blkaddr c) (and_parts _ _ p1).0

old_small : (s n : ℕ) → s % 2 ≡ 0 → n % 2 ≡ 0 → 2 ≤ n → 32 * (s + n) ≤ 3900 → (s ≤ 118) × (s + n ≤ 120)
old_small s n a b some fits = (omega (arith, a, some, fits), omega (arith, a, b, fits))

old_main : (cp k s n a sit nat ssa main : ℕ) → k ≡ 2 → sit ≡ cp + 512 * k → nat ≡ sit + 512 * s → ssa ≡ nat + 512 * n → main ≡ ssa + 512 * a → main ≡ cp + 512 * (2 + s + n + a)
old_main cp k s n a sit nat ssa main e p q r t = omega (arith, e, p, q, r, t)

pub old_sizes : (c : List ℕ) → copy_passes c ≡ true → OldSizes c
old_sizes c pass =
    let n = counts c pass in
    let at = places c pass in
    let small = old_small (segment_count_sit c) (segment_count_nat c) n.sit_even n.nat_even n.nat (room c pass).bitmaps in
    record {
      first = first_area c pass;
      cp = at.cp;
      sit_small = small.0;
      both_small = small.1;
      main = old_main (cp_blkaddr c) (segment_count_ckpt c) (segment_count_sit c) (segment_count_nat c) (segment_count_ssa c) _ _ _ (main_blkaddr c) n.ckpt at.sit at.nat at.ssa at.main;
      end = at.end;
    }

-- ---- a smaller size

down_inside : (m b cp k blocks : ℕ) → m ≡ cp + 512 * k → 1 ≤ min b ((blocks - m) / 512) → cp + 512 * (k + min b ((blocks - m) / 512)) ≤ blocks
down_inside m b cp k blocks at some = omega (arith, at, some)

down_few : (a b c : ℕ) → a ≤ c → min a b ≤ c
down_few a b c low = omega (arith, low)

down_sizes : (c : List ℕ) (blocks : ℕ) → copy_passes c ≡ true → AreSizes c (aim_down c blocks)
down_sizes c blocks pass =
    let n = counts c pass in
    let o = old_sizes c pass in
    let r = room c pass in
    record {
      sit_even = n.sit_even;
      sit_some = n.sit;
      nat_even = n.nat_even;
      nat_some = n.nat;
      halves = let fits = o.both_small in omega (arith, fits);
      ssa_some = n.ssa;
      summaries = down_few (segment_count_main c) ((blocks - main_blkaddr c) / 512) (512 * segment_count_ssa c) r.summaries;
      entries = down_few (segment_count_main c) ((blocks - main_blkaddr c) / 512) (28160 * (segment_count_sit c / 2)) r.entries;
      inside = λ some. down_inside (main_blkaddr c) (segment_count_main c) (cp_blkaddr c) (2 + segment_count_sit c + segment_count_nat c + segment_count_ssa c) blocks o.main some;
      later = omega arith;
    }

-- ---- a greater size

few_segments : (blocks first : ℕ) → blocks ≤ 268435456 → (blocks - first) / 512 ≤ 524288
few_segments blocks first few = omega (arith, few)

up_inside : (blocks first cp n s o a : ℕ) → n ≡ (blocks - first) / 512 → cp ≡ first → 1 ≤ n - 2 - s - o - a → cp + 512 * (2 + s + o + a + (n - 2 - s - o - a)) ≤ blocks
up_inside blocks first cp n s o a at same some = omega (arith, at, same, some)

up_later : (r s p o q a : ℕ) → r + p ≤ s + o → q ≤ a → r + p + q + (s + o + a - (r + p + q)) ≡ s + o + a
up_later r s p o q a both more = omega (arith, both, more)

up_main : (n s o a limit : ℕ) → n - 2 - s - o ≤ limit → n - 2 - s - o - a ≤ limit
up_main n s o a limit low = omega (arith, low)

up_entries : (n s o a limit : ℕ) → n ≤ limit → n - 2 - s - o - a ≤ limit
up_entries n s o a limit low = omega (arith, low)

more_max : (a b : ℕ) → a ≤ max a b
more_max a b = omega arith

max_some : (a b : ℕ) → 1 ≤ a → 1 ≤ max a b
max_some a b some = omega (arith, some)

below_max : (m a b : ℕ) → m ≤ 512 * b → m ≤ 512 * max a b
below_max m a b low = omega (arith, low)

two_max : (a b : ℕ) → 2 ≤ a → 2 ≤ max a b
two_max a b some = omega (arith, some)

module _ (c : List ℕ) (blocks : ℕ) (pass : copy_passes c ≡ true) (few : blocks ≤ 268435456) where
  up_sizes : AreSizes c (aim_up c blocks)
  up_sizes =
      let old = counts c pass in
      let o = old_sizes c pass in
      let n = (blocks - segment0_blkaddr c) / 512 in
      let s = max (segment_count_sit c) (sit_segments n) in
      let t = nat_segments n s in
      let even_s : s % 2 ≡ 0 = even_sit (segment_count_sit c) (sit_segments n) old.sit_even (sit_even n) in
      let small : s ≤ 118 = small_sit (segment_count_sit c) (sit_segments n) o.sit_small (sit_small n (few_segments blocks (segment0_blkaddr c) few)) in
      let p = min (max (segment_count_nat c) t) (2 * (60 - s / 2)) in
      let q = ssa_segments n s p in
      let a = max (segment_count_ssa c) q in
      record {
        sit_even = even_s;
        sit_some = two_max (segment_count_sit c) (sit_segments n) old.sit;
        nat_even = nat_whole s (segment_count_nat c) t even_s old.nat_even (nat_even n s) small old.nat;
        nat_some = some_nat s (segment_count_nat c) t even_s old.nat_even (nat_even n s) small old.nat;
        halves = nat_fits s (segment_count_nat c) t even_s old.nat_even (nat_even n s) small old.nat;
        ssa_some = max_some (segment_count_ssa c) q old.ssa;
        summaries = up_main n s p a (512 * a) (below_max (n - 2 - s - p) (segment_count_ssa c) q (ssa_enough n s p));
        entries = up_entries n s p a (28160 * (s / 2)) (enough_sit (segment_count_sit c) (sit_segments n) n (quotient_enough n));
        inside = λ some. up_inside blocks (segment0_blkaddr c) (cp_blkaddr c) n s p a refl o.first some;
        later = up_later (segment_count_sit c) s (segment_count_nat c) p (segment_count_ssa c) a
            (more_both s (segment_count_nat c) t even_s old.nat_even (nat_even n s) small old.nat (segment_count_sit c) (more_sit (segment_count_sit c) (sit_segments n)) o.both_small)
            (more_max (segment_count_ssa c) q);
      }

pub sizes : (c : List ℕ) (blocks : ℕ) → copy_passes c ≡ true → blocks ≤ 268435456 → AreSizes c (aim_of c blocks)
unfolding aim_of
sizes c blocks pass few = go (nat_lt (block_count c) blocks) refl
  where
    go : (b : Bool) → nat_lt (block_count c) blocks ≡ b → AreSizes c (aim_of c blocks)
    go true e = rw e (up_sizes c blocks pass few)
    go false e = rw e (down_sizes c blocks pass)

-- ---- the laws

order_from : (c : List ℕ) (aim : Aim) → 2 ≤ cp_blkaddr c → AreSizes c aim → aim.blocks ≤ 268435456 → 1 ≤ aim.main → IsInOrder (aimed_layout c aim)
order_from c aim cp z few some =
    let sit_even = z.sit_even in
    let nat_even = z.nat_even in
    let sit_some = z.sit_some in
    let nat_some = z.nat_some in
    let halves = z.halves in
    let ssa_some = z.ssa_some in
    let summaries = z.summaries in
    let entries = z.entries in
    let inside = z.inside some in
    record {
      cp = cp;
      sit = refl;
      nat = omega (arith, sit_even);
      ssa = omega (arith, nat_even);
      sit_whole = omega arith;
      sit_some = omega (arith, sit_some);
      nat_whole = omega arith;
      nat_some = omega (arith, nat_some);
      halves = omega (arith, halves);
      main = omega (arith, ssa_some);
      main_whole = omega arith;
      segments_some = some;
      summaries = omega (arith, summaries);
      entries = omega (arith, entries);
      inside = omega (arith, inside);
      few = few;
    }

pub aim_blocks : (c : List ℕ) (blocks : ℕ) → (aim_of c blocks).blocks ≡ blocks
unfolding aim_of
aim_blocks c blocks = go (nat_lt (block_count c) blocks) refl
  where
    go : (b : Bool) → nat_lt (block_count c) blocks ≡ b → (aim_of c blocks).blocks ≡ blocks
    go true e = rw e refl
    go false e = rw e refl

pub aim_is_in_order : AimIsInOrder
aim_is_in_order c blocks pass few some =
    let same = aim_blocks c blocks in
    order_from c (aim_of c blocks) (old_sizes c pass).cp (sizes c blocks pass few) (omega (arith, same, few)) some

later_main : (cp main r p q delta s o a : ℕ) → main ≡ cp + 512 * (2 + r + p + q) → r + p + q + delta ≡ s + o + a → cp + 1024 + 512 * s + 512 * o + 512 * a ≡ main + 512 * delta
later_main cp main r p q delta s o a at later = omega (arith, at, later)

pub aim_moves_main : AimMovesMain
aim_moves_main c blocks pass few =
    let z = sizes c blocks pass few in
    let aim = aim_of c blocks in
    later_main (cp_blkaddr c) (main_blkaddr c) (segment_count_sit c) (segment_count_nat c) (segment_count_ssa c) aim.delta aim.sit aim.nat aim.ssa (old_sizes c pass).main z.later

up_keeps : (blocks held first cp main r p q m n s o a : ℕ) → cp ≡ first → main ≡ cp + 512 * (2 + r + p + q) → main + 512 * m ≤ held → held ≤ blocks → n ≡ (blocks - first) / 512
    → m ≤ s + o + a - (r + p + q) + (n - 2 - s - o - a)
up_keeps blocks held first cp main r p q m n s o a same at end more number = omega (arith, same, at, end, more, number)

down_keeps : (blocks main m : ℕ) → main + 512 * m ≤ blocks → m ≤ 0 + min m ((blocks - main) / 512)
down_keeps blocks main m end = omega (arith, end)

pub growth_keeps_segments : GrowthKeepsSegments
unfolding aim_of
growth_keeps_segments c blocks pass more few = go (nat_lt (block_count c) blocks) refl
  where
    o : OldSizes c
    o = old_sizes c pass

    go : (b : Bool) → nat_lt (block_count c) blocks ≡ b → segment_count_main c ≤ (aim_of c blocks).delta + (aim_of c blocks).main
    go true e =
        let n = (blocks - segment0_blkaddr c) / 512 in
        let up = aim_up c blocks in
        rw e (up_keeps blocks (block_count c) (segment0_blkaddr c) (cp_blkaddr c) (main_blkaddr c) (segment_count_sit c) (segment_count_nat c) (segment_count_ssa c) (segment_count_main c) n up.sit up.nat up.ssa o.first o.main o.end more refl)
    go false e =
        let end = o.end in
        rw e (down_keeps blocks (main_blkaddr c) (segment_count_main c) (omega (arith, end, more)))

pub held_size_keeps_areas : HeldSizeKeepsAreas
unfolding aim_of
held_size_keeps_areas c pass =
    let end = (old_sizes c pass).end in
    let all : min (segment_count_main c) ((block_count c - main_blkaddr c) / 512) ≡ segment_count_main c = omega (arith, end) in
    rw (le-ltb (block_count c) (block_count c) (omega arith)) (λ i. record {
      blocks = block_count c;
      sit = segment_count_sit c;
      nat = segment_count_nat c;
      ssa = segment_count_ssa c;
      main = all i;
      delta = 0;
    })
