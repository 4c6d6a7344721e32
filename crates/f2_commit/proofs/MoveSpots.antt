-- Each word of a node of addresses is where the address of some block of a file stands.
use Rattle.std.proofs.Common.{◌≡◌, ℕ, ◌+◌, ◌-◌, ◌*◌, ◌/◌, ◌%◌, ◌^◌, ◌<◌, ◌≤◌, ◌⊎◌, inl, inr, true, false, ◌==◌, ◌&&◌, nat_le, Option, Some, refl, sym, ◌∙◌, ⊎_elim, arith}
use Rattle.std.proofs.lemmas.Bool.{and_parts, not-true, cases_lt, eq-eqb, eqb-false, lt-ltb, le-ltb, ltb-true, le-leb, false≢true}
use Rattle.f2_bytes.specs.Node.{is_direct, locate, offset_limit}

same_spot : (a b c d : ℕ) → a ≡ c → b ≡ d → ◌≡◌ {A = Option (ℕ × ℕ)} (Some (a, b)) (Some (c, d))
same_spot a b c d p q = λ i. Some (p i, q i)

-- ---- band by band

pub in_inode : (k n : ℕ) → k < n → locate k n ≡ Some (0, k)
unfolding locate
in_inode k n low = rw (lt-ltb k n low) refl

in_first : (k n j : ℕ) → k ≡ n + j → j < 1018 → locate k n ≡ Some (1, j)
unfolding locate
in_first k n j e low =
    rw (le-ltb k n (omega (arith, e)), lt-ltb k (n + 1018) (omega (arith, e, low))) (same_spot 1 (k - n) 1 j refl (omega (arith, e)))

in_second : (k n j : ℕ) → k ≡ n + 1018 + j → j < 1018 → locate k n ≡ Some (2, j)
unfolding locate
in_second k n j e low =
    rw (le-ltb k n (omega (arith, e)), le-ltb k (n + 1018) (omega (arith, e)), lt-ltb k (n + 2 * 1018) (omega (arith, e, low)))
    (same_spot 2 (k - n - 1018) 2 j refl (omega (arith, e)))

in_third : (k n q j : ℕ) → k ≡ n + 2036 + 1018 * q + j → j < 1018 → q < 1018 → locate k n ≡ Some (4 + q, j)
unfolding locate
in_third k n q j e low few =
    let f : k - n - 2 * 1018 ≡ 1018 * q + j = omega (arith, e) in
    rw (le-ltb k n (omega (arith, e)), le-ltb k (n + 1018) (omega (arith, e)), le-ltb k (n + 2 * 1018) (omega (arith, e)), lt-ltb (k - n - 2 * 1018) (1018 ^ 2) (omega (arith, f, low, few)))
    (same_spot (4 + (k - n - 2 * 1018) / 1018) ((k - n - 2 * 1018) % 1018) (4 + q) j (omega (arith, f, low)) (omega (arith, f, low)))

in_fourth : (k n q j : ℕ) → k ≡ n + 1038360 + 1018 * q + j → j < 1018 → q < 1018 → locate k n ≡ Some (1023 + q, j)
unfolding locate
in_fourth k n q j e low few =
    let f : k - n - 2 * 1018 - 1018 ^ 2 ≡ 1018 * q + j = omega (arith, e) in
    rw (
      le-ltb k n (omega (arith, e)),
      le-ltb k (n + 1018) (omega (arith, e)),
      le-ltb k (n + 2 * 1018) (omega (arith, e)),
      le-ltb (k - n - 2 * 1018) (1018 ^ 2) (omega (arith, e)),
      lt-ltb (k - n - 2 * 1018 - 1018 ^ 2) (1018 ^ 2) (omega (arith, f, low, few)),
    )
    (same_spot (1023 + (k - n - 2 * 1018 - 1018 ^ 2) / 1018) ((k - n - 2 * 1018 - 1018 ^ 2) % 1018) (1023 + q) j (omega (arith, f, low)) (omega (arith, f, low)))

in_last : (k n a c j : ℕ) → k ≡ n + 2074684 + 1036324 * a + 1018 * c + j → j < 1018 → a < 1018 → c < 1018 → locate k n ≡ Some (2043 + 1019 * a + c, j)
unfolding locate
in_last k n a c j e low few inside =
    let p = k - n - 2 * 1018 - 2 * 1018 ^ 2 in
    let f : p ≡ 1036324 * a + 1018 * c + j = omega (arith, e) in
    let over : p / 1036324 ≡ a = omega (arith, f, low, inside) in
    let under : p % 1036324 ≡ 1018 * c + j = omega (arith, f, low, inside) in
    let mid : p % 1036324 / 1018 ≡ c = omega (arith, under, low) in
    let last : p % 1018 ≡ j = omega (arith, f, low) in
    rw (
      le-ltb k n (omega (arith, e)),
      le-ltb k (n + 1018) (omega (arith, e)),
      le-ltb k (n + 2 * 1018) (omega (arith, e)),
      le-ltb (k - n - 2 * 1018) (1018 ^ 2) (omega (arith, e)),
      le-ltb (k - n - 2 * 1018 - 1018 ^ 2) (1018 ^ 2) (omega (arith, e)),
      lt-ltb (k - n - 2 * 1018 - 2 * 1018 ^ 2) (1018 ^ 3) (omega (arith, f, low, few, inside)),
    )
    (same_spot (2043 + 1019 * (p / 1018 ^ 2) + p % 1018 ^ 2 / 1018) (p % 1018) (2043 + 1019 * a + c) j (omega (arith, over, mid)) last)

-- ---- all bands

-- what the offset of a node of addresses is not
abbrev IsDirect : ℕ → Type 0
IsDirect o = (0 < o) × (o < 1039384) × (o ≡ 3 → ⊥) × (o ≡ 1022 → ⊥) × (o ≡ 2041 → ⊥) × (2042 ≤ o → (o - 2042) % 1019 ≡ 0 → ⊥)

direct_parts : (o : ℕ) → is_direct o ≡ true → IsDirect o
unfolding offset_limit
direct_parts o h =
    let p5 = and_parts _ _ h in
    let p4 = and_parts _ _ p5.0 in
    let p3 = and_parts _ _ p4.0 in
    let p2 = and_parts _ _ p3.0 in
    let p1 = and_parts _ _ p2.0 in
    let last : (nat_le 2042 o && ((o - 2042) % 1019 == 0)) ≡ false = not-true (nat_le 2042 o && ((o - 2042) % 1019 == 0)) p5.1 in (
      ltb-true 0 o p1.0,
      ltb-true o 1039384 p1.1,
      eqb-false o 3 (not-true (o == 3) p2.1),
      eqb-false o 1022 (not-true (o == 1022) p3.1),
      eqb-false o 2041 (not-true (o == 2041) p4.1),
      λ a b.
          let t : (nat_le 2042 o && ((o - 2042) % 1019 == 0)) ≡ true = rw (le-leb 2042 o a, eq-eqb ((o - 2042) % 1019) 0 b) refl in
          false≢true (sym last ∙ t),
    )

below_ne : (o m : ℕ) → o ≤ m → (o ≡ m → ⊥) → o < m
below_ne o m le away = ⊎_elim (λ lt. lt) (λ ge. absurd (away (omega (arith, le, ge)))) (cases_lt o m)

above_ne : (m o : ℕ) → m ≤ o → (o ≡ m → ⊥) → m + 1 ≤ o
above_ne m o le away = ⊎_elim (λ lt. omega (arith, lt)) (λ ge. absurd (away (omega (arith, le, ge)))) (cases_lt m o)

pub spot_there : (o j n : ℕ) → is_direct o ≡ true → j < 1018 → (k : ℕ) × (locate k n ≡ Some (o, j))
spot_there o j n direct low = go (direct_parts o direct) (cases_lt o 2) (cases_lt o 4) (cases_lt o 1023) (cases_lt o 2042)
  where
    at : (k p : ℕ) → p ≡ o → locate k n ≡ Some (p, j) → (x : ℕ) × (locate x n ≡ Some (o, j))
    at k p same is = (k, is ∙ same_spot p j o j same refl)

    go : IsDirect o → (o < 2) ⊎ (2 ≤ o) → (o < 4) ⊎ (4 ≤ o) → (o < 1023) ⊎ (1023 ≤ o) → (o < 2042) ⊎ (2042 ≤ o) → (k : ℕ) × (locate k n ≡ Some (o, j))
    go d (inl a) x y z =
        let some = d.0 in
        at (n + j) 1 (omega (arith, a, some)) (in_first (n + j) n j refl low)
    go d (inr a) (inl b) y z =
        let small : o < 3 = below_ne o 3 (omega (arith, b)) d.2 in
        at (n + 1018 + j) 2 (omega (arith, a, small)) (in_second (n + 1018 + j) n j refl low)
    go d (inr a) (inr b) (inl e) z =
        let small : o < 1022 = below_ne o 1022 (omega (arith, e)) d.3 in
        at (n + 2036 + 1018 * (o - 4) + j) (4 + (o - 4)) (omega (arith, b)) (in_third (n + 2036 + 1018 * (o - 4) + j) n (o - 4) j refl low (omega (arith, b, small)))
    go d (inr a) (inr b) (inr e) (inl f) =
        let small : o < 2041 = below_ne o 2041 (omega (arith, f)) d.4 in
        at (n + 1038360 + 1018 * (o - 1023) + j) (1023 + (o - 1023)) (omega (arith, e)) (in_fourth (n + 1038360 + 1018 * (o - 1023) + j) n (o - 1023) j refl low (omega (arith, e, small)))
    go d (inr a) (inr b) (inr e) (inr f) =
        let q = (o - 2042) / 1019 in
        let m = (o - 2042) % 1019 in
        let whole : o ≡ 2042 + 1019 * q + m = omega (arith, f) in
        let few : q < 1018 = let most = d.1 in omega (arith, most) in
        let inside : m < 1019 = omega arith in
        let some : 0 + 1 ≤ m = above_ne 0 m (omega arith) (d.5 f) in
        at (n + 2074684 + 1036324 * q + 1018 * (m - 1) + j) (2043 + 1019 * q + (m - 1)) (omega (arith, whole, some))
        (in_last (n + 2074684 + 1036324 * q + 1018 * (m - 1) + j) n q (m - 1) j refl low few (omega (arith, inside, some)))
