-- Steps from a node up to its inode.
use Rattle.std.proofs.Common.{◌≡◌, ℕ, zero, suc, ◌+◌, ◌-◌, ◌*◌, ◌/◌, ◌%◌, ◌^◌, ◌≤◌, ◌<◌, true, cond, ◌==◌, Option, Some, None, refl, ap, subst, ◌∙◌, ◌⊎◌, inl, inr, arith}
use Rattle.std.specs.Prelude.{nat_le, nat_lt, ◌||◌, ⊤}
use Rattle.std.proofs.lemmas.Bool.{eq-eqb, ne_eqb, lt-ltb, le-ltb, lt-leb, ltb-true, cases_lt, cases_eq, or_right, cond-true, cond-false, cond_both}
use Rattle.f2_bytes.specs.Node.{locate, parent_of, offset_limit}
use Rattle.f2_node.specs.Laws.{passes_above, reaches_inode, ReachesInode, LocatedReachesInode}

-- the node above, in each range of offsets
first_above : (o : ℕ) → 3 < o → o < 1022 → parent_of o ≡ Some (3, o - 4)
unfolding parent_of
first_above o low high =
    cond-false (o == 0) None _ (ne_eqb o 0 (λ e. omega arith))
    ∙ cond-false (nat_le o 3) _ _ (lt-leb o 3 low)
    ∙ cond-true (nat_lt o 1022) _ _ (lt-ltb o 1022 high)

second_above : (o : ℕ) → 1022 < o → o < 2041 → parent_of o ≡ Some (1022, o - 1023)
unfolding parent_of
second_above o low high =
    cond-false (o == 0) None _ (ne_eqb o 0 (λ e. omega arith))
    ∙ cond-false (nat_le o 3) _ _ (lt-leb o 3 (omega arith))
    ∙ cond-false (nat_lt o 1022) _ _ (le-ltb o 1022 (omega arith))
    ∙ cond-false (o == 1022) _ _ (ne_eqb o 1022 (λ e. omega arith))
    ∙ cond-true (nat_lt o 2041) _ _ (lt-ltb o 2041 high)

double_above : (o : ℕ) → 2041 < o → o < 1039384 → parent_of o ≡ cond ((o - 2042) % 1019 == 0) (Some (2041, (o - 2042) / 1019)) (Some (2042 + 1019 * ((o - 2042) / 1019), (o - 2042) % 1019 - 1))
unfolding parent_of offset_limit
double_above o low high =
    cond-false (o == 0) None _ (ne_eqb o 0 (λ e. omega arith))
    ∙ cond-false (nat_le o 3) _ _ (lt-leb o 3 (omega arith))
    ∙ cond-false (nat_lt o 1022) _ _ (le-ltb o 1022 (omega arith))
    ∙ cond-false (o == 1022) _ _ (ne_eqb o 1022 (λ e. omega arith))
    ∙ cond-false (nat_lt o 2041) _ _ (le-ltb o 2041 (omega arith))
    ∙ cond-false (o == 2041) _ _ (ne_eqb o 2041 (λ e. omega arith))
    ∙ cond-true (nat_lt o 1039384) _ _ (lt-ltb o 1039384 high)

indirect_above : (o : ℕ) → 2041 < o → o < 1039384 → (o - 2042) % 1019 ≡ 0 → parent_of o ≡ Some (2041, (o - 2042) / 1019)
indirect_above o low high first = double_above o low high ∙ cond-true ((o - 2042) % 1019 == 0) _ _ (eq-eqb ((o - 2042) % 1019) 0 first)

-- one step more
step : (n o : ℕ) (spot : ℕ × ℕ) → parent_of o ≡ Some spot → reaches_inode n spot.0 ≡ true → reaches_inode (suc n) o ≡ true
step n o spot is reaches = (λ i. o == 0 || passes_above (reaches_inode n) (is i)) ∙ (λ i. o == 0 || reaches i) ∙ or_right (o == 0) true refl

-- the inode, and the nodes that it names
first_four : (o : ℕ) → o < 4 → reaches_inode 3 o ≡ true
unfolding parent_of
first_four zero low = refl
first_four (suc zero) low = refl
first_four (suc (suc zero)) low = refl
first_four (suc (suc (suc zero))) low = refl
first_four (suc (suc (suc (suc o)))) low = absurd (omega (arith, low))

-- the nodes on the way
once : reaches_inode 1 2041 ≡ true
unfolding parent_of
once = refl

last : reaches_inode 2 2041 ≡ true
unfolding parent_of
last = refl

third : reaches_inode 2 3 ≡ true
unfolding parent_of
third = refl

via_1022 : reaches_inode 2 1022 ≡ true
unfolding parent_of
via_1022 = refl

at_1022 : reaches_inode 3 1022 ≡ true
unfolding parent_of
at_1022 = refl

at_2041 : reaches_inode 3 2041 ≡ true
unfolding parent_of
at_2041 = refl

in_double : (o : ℕ) → 2041 < o → o < 1039384 → reaches_inode 3 o ≡ true
in_double o low high = go (cases_eq ((o - 2042) % 1019) 0)
  where
    q : ℕ
    q = (o - 2042) / 1019

    above : ℕ
    above = 2042 + 1019 * q

    go : ((o - 2042) % 1019 ≡ 0) ⊎ ((o - 2042) % 1019 ≡ 0 → ⊥) → reaches_inode 3 o ≡ true
    go (inl first) = step 2 o (2041, q) (indirect_above o low high first) last
    go (inr other) =
        step 2 o (above, (o - 2042) % 1019 - 1) (double_above o low high ∙ cond-false ((o - 2042) % 1019 == 0) _ _ (ne_eqb ((o - 2042) % 1019) 0 other))
        (step 1 above (2041, (above - 2042) / 1019) (indirect_above above (omega arith) (omega arith) (omega arith)) once)

pub nodes_reach : ReachesInode
unfolding offset_limit
nodes_reach o below = start (cases_lt o 4)
  where
    past_second : 1022 < o → (o < 2041) ⊎ (2041 ≤ o) → reaches_inode 3 o ≡ true
    past_second low (inl high) = step 2 o (1022, o - 1023) (second_above o low high) via_1022
    past_second low (inr past) = go (cases_eq o 2041)
      where
        go : (o ≡ 2041) ⊎ (o ≡ 2041 → ⊥) → reaches_inode 3 o ≡ true
        go (inl is) = ap (reaches_inode 3) is ∙ at_2041
        go (inr other) = in_double o (omega arith) below

    past_first : 3 < o → (o < 1022) ⊎ (1022 ≤ o) → reaches_inode 3 o ≡ true
    past_first low (inl high) = step 2 o (3, o - 4) (first_above o low high) third
    past_first low (inr past) = go (cases_eq o 1022)
      where
        go : (o ≡ 1022) ⊎ (o ≡ 1022 → ⊥) → reaches_inode 3 o ≡ true
        go (inl is) = ap (reaches_inode 3) is ∙ at_1022
        go (inr other) = past_second (omega arith) (cases_lt o 2041)

    start : (o < 4) ⊎ (4 ≤ o) → reaches_inode 3 o ≡ true
    start (inl low) = first_four o low
    start (inr past) = past_first (omega arith) (cases_lt o 1022)

-- the offset of a spot is in the tree
abbrev pub InTree : Option (ℕ × ℕ) → Type 0
InTree None = ⊤
InTree (Some spot) = spot.0 < 1039384

located_in_tree : (k n : ℕ) → InTree (locate k n)
unfolding locate
located_in_tree k n =
    cond_both (nat_lt k n) _ _ InTree (λ _. omega arith) λ _.
    cond_both (nat_lt k (n + 1018)) _ _ InTree (λ _. omega arith) λ _.
    cond_both (nat_lt k (n + 2 * 1018)) _ _ InTree (λ _. omega arith) λ _.
    cond_both (nat_lt (k - n - 2 * 1018) (1018 ^ 2)) _ _ InTree (λ e. let below = ltb-true (k - n - 2 * 1018) (1018 ^ 2) e in omega arith) λ _.
    cond_both (nat_lt (k - n - 2 * 1018 - 1018 ^ 2) (1018 ^ 2)) _ _ InTree (λ e. let below = ltb-true (k - n - 2 * 1018 - 1018 ^ 2) (1018 ^ 2) e in omega arith) λ _.
    cond_both (nat_lt (k - n - 2 * 1018 - 2 * 1018 ^ 2) (1018 ^ 3)) _ _ InTree (λ e. let below = ltb-true (k - n - 2 * 1018 - 2 * 1018 ^ 2) (1018 ^ 3) e in omega arith) λ _. tt

pub located_reach : LocatedReachesInode
unfolding offset_limit
located_reach k n few spot is =
    let inside : spot.0 < 1039384 = subst InTree is (located_in_tree k n) in
    (inside, nodes_reach spot.0 inside)
