-- How many direct nodes of a file stand before an offset.
use Rattle.std.proofs.Common.{◌≡◌, ℕ, zero, suc, ◌+◌, ◌-◌, ◌*◌, ◌/◌, ◌%◌, ◌<◌, ◌≤◌, ◌⊎◌, inl, inr, Bool, true, false, ◌==◌, ◌&&◌, nat_le, nat_lt, cond, [], ◌∷◌, ◌++◌, filter, length, refl, sym, ap, ◌∙◌, ⊎_elim, arith}
use Rattle.std.proofs.lemmas.Bool.{and_parts, not-true, cases_lt, cases_eq, eq-eqb, ne_eqb, lt-ltb, le-ltb, ltb-true, lt-leb, le-leb, eqb-false, false≢true, false_from_ne_true}
use Rattle.std.proofs.lemmas.List.{length-append}
use Rattle.std.proofs.lemmas.List.Elements.{filter-append}
use Rattle.f2_bytes.proofs.SetBits.{range-append}
use Rattle.f2_bytes.specs.Bytes.{numbers_below}
use Rattle.f2_bytes.specs.Node.{offset_limit}
use Rattle.f2_survey.specs.Slots.{direct_before}
use Rattle.f2_bytes.specs.Node.{is_direct}

-- the row of the node of addresses at an offset: how many have an offset below this one
unfoldable pub row_of : ℕ → ℕ
row_of o =
    cond (nat_lt o 4) (o - 1) (cond (nat_lt o 1023) (o - 2) (cond (nat_lt o 2042) (o - 3)
    (2038 + 1018 * ((o - 2042) / 1019) + ((o - 2042) % 1019 - 1))))

positive : (n : ℕ) → (n ≡ 0 → ⊥) → 0 < n
positive zero away = absurd (away refl)
positive (suc n) away = omega arith

below-ne : (o m : ℕ) → o ≤ m → (o ≡ m → ⊥) → o < m
below-ne o m le away = ⊎_elim (λ lt. lt) (λ ge. absurd (away (omega (arith, le, ge)))) (cases_lt o m)

pub above-ne : (m o : ℕ) → m ≤ o → (o ≡ m → ⊥) → suc m ≤ o
above-ne m o le away = ⊎_elim (λ lt. lt) (λ ge. absurd (away (omega (arith, le, ge)))) (cases_lt m o)

-- ---- rows band by band

row-1 : (o : ℕ) → o < 4 → row_of o ≡ o - 1
unfolding row_of
row-1 o a = rw (lt-ltb o 4 a) refl

row-2 : (o : ℕ) → 4 ≤ o → o < 1023 → row_of o ≡ o - 2
unfolding row_of
row-2 o a b = rw (le-ltb o 4 a, lt-ltb o 1023 b) refl

row-3 : (o : ℕ) → 1023 ≤ o → o < 2042 → row_of o ≡ o - 3
unfolding row_of
row-3 o a b = rw (le-ltb o 4 (omega (arith, a)), le-ltb o 1023 a, lt-ltb o 2042 b) refl

row-4 : (o a c : ℕ) → o ≡ 2042 + 1019 * a + c → c < 1019 → row_of o ≡ 2038 + 1018 * a + (c - 1)
unfolding row_of
row-4 o a c e low =
    let d : (o - 2042) / 1019 ≡ a = omega (arith, e, low) in
    let m : (o - 2042) % 1019 ≡ c = omega (arith, e, low) in
    rw (le-ltb o 4 (omega (arith, e)), le-ltb o 1023 (omega (arith, e)), le-ltb o 2042 (omega (arith, e)), d, m) refl

-- ---- which offsets are of nodes of addresses

-- what a direct offset is not
abbrev pub Direct : ℕ → Type 0
Direct o = (0 < o) × (o < 1039384) × (o ≡ 3 → ⊥) × (o ≡ 1022 → ⊥) × (o ≡ 2041 → ⊥) × (2042 ≤ o → (o - 2042) % 1019 ≡ 0 → ⊥)

pub direct-parts : (o : ℕ) → is_direct o ≡ true → Direct o
unfolding offset_limit
direct-parts o h =
    let p5 = and_parts _ _ h in
    let p4 = and_parts _ _ p5.0 in
    let p3 = and_parts _ _ p4.0 in
    let p2 = and_parts _ _ p3.0 in
    let p1 = and_parts _ _ p2.0 in
    let last : (nat_le 2042 o && ((o - 2042) % 1019 == 0)) ≡ false = not-true (nat_le 2042 o && ((o - 2042) % 1019 == 0)) p5.1 in (
      ltb-true 0 o p1.0,
      ltb-true o 1039384 p1.1,
      eqb-false o 3 (not-true (o == 3) p2.1),
      eqb-false o 1022 (not-true (o == 1022) p3.1),
      eqb-false o 2041 (not-true (o == 2041) p4.1),
      λ a b.
          let t : (nat_le 2042 o && ((o - 2042) % 1019 == 0)) ≡ true = rw (le-leb 2042 o a, eq-eqb ((o - 2042) % 1019) 0 b) refl in
          false≢true (sym last ∙ t),
    )

pub direct-from : (o : ℕ) → Direct o → is_direct o ≡ true
unfolding offset_limit
direct-from o d =
    rw (lt-ltb 0 o d.0, lt-ltb o 1039384 d.1, ne_eqb o 3 d.2, ne_eqb o 1022 d.3, ne_eqb o 2041 d.4, last (cases_lt o 2042)) refl
  where
    last : (o < 2042) ⊎ (2042 ≤ o) → (nat_le 2042 o && ((o - 2042) % 1019 == 0)) ≡ false
    last (inl low) = rw (lt-leb 2042 o low) refl
    last (inr high) = rw (le-leb 2042 o high, ne_eqb ((o - 2042) % 1019) 0 (d.5 high)) refl

-- an offset below the limit that is not direct
pub not-direct : (o : ℕ) → o < 1039384 → is_direct o ≡ false → (o ≡ 0) ⊎ ((o ≡ 3) ⊎ ((o ≡ 1022) ⊎ ((o ≡ 2041) ⊎ ((2042 ≤ o) × ((o - 2042) % 1019 ≡ 0)))))
not-direct o below h =
    ⊎_elim inl (λ a. ⊎_elim (λ e. inr (inl e)) (λ b. ⊎_elim (λ e. inr (inr (inl e))) (λ c. ⊎_elim (λ e. inr (inr (inr (inl e)))) (λ d.
    inr (inr (inr (inr (last a b c d (cases_lt o 2042) (cases_eq ((o - 2042) % 1019) 0))))))
    (cases_eq o 2041)) (cases_eq o 1022)) (cases_eq o 3)) (cases_eq o 0)
  where
    last : (o ≡ 0 → ⊥) → (o ≡ 3 → ⊥) → (o ≡ 1022 → ⊥) → (o ≡ 2041 → ⊥) → (o < 2042) ⊎ (2042 ≤ o) → ((o - 2042) % 1019 ≡ 0) ⊎ ((o - 2042) % 1019 ≡ 0 → ⊥) → (2042 ≤ o) × ((o - 2042) % 1019 ≡ 0)
    last a b c d (inl low) m = absurd (false≢true (sym h ∙ direct-from o (positive o a, below, b, c, d, λ high z. omega (arith, low, high))))
    last a b c d (inr high) (inl z) = (high, z)
    last a b c d (inr high) (inr away) = absurd (false≢true (sym h ∙ direct-from o (positive o a, below, b, c, d, λ h z. away z)))

-- the row and the place in it of a deep offset
deep : (o : ℕ) → 2042 ≤ o → o ≡ 2042 + 1019 * ((o - 2042) / 1019) + (o - 2042) % 1019
deep o h = omega arith

-- one offset more
pub row_of-direct : (o : ℕ) → is_direct o ≡ true → row_of (suc o) ≡ suc (row_of o)
row_of-direct o h = go (direct-parts o h) (cases_lt (suc o) 4) (cases_lt (suc o) 1023) (cases_lt (suc o) 2042)
  where
    go : Direct o → (suc o < 4) ⊎ (4 ≤ suc o) → (suc o < 1023) ⊎ (1023 ≤ suc o) → (suc o < 2042) ⊎ (2042 ≤ suc o) → row_of (suc o) ≡ suc (row_of o)
    go d (inl a) b c =
        let p = d.0 in
        let e = row-1 o (omega (arith, a)) in
        row-1 (suc o) a ∙ omega (arith, e, p)
    go d (inr a) (inl b) c =
        let p : 4 ≤ o = above-ne 3 o (omega (arith, a)) d.2 in
        let e = row-2 o p (omega (arith, b)) in
        row-2 (suc o) a b ∙ omega (arith, e, p)
    go d (inr a) (inr b) (inl c) =
        let p : 1023 ≤ o = above-ne 1022 o (omega (arith, b)) d.3 in
        let e = row-3 o p (omega (arith, c)) in
        row-3 (suc o) b c ∙ omega (arith, e, p)
    go d (inr a) (inr b) (inr c) =
        let p : 2042 ≤ o = above-ne 2041 o (omega (arith, c)) d.4 in
        let q = (o - 2042) / 1019 in
        let m = (o - 2042) % 1019 in
        let small : m < 1019 = omega arith in
        let some : 0 < m = positive m (d.5 p) in
        let e = row-4 o q m (deep o p) small in
        ⊎_elim (λ more. row-4 (suc o) q (suc m) (let f = deep o p in omega (arith, f)) more ∙ omega (arith, e, some))
        (λ last. row-4 (suc o) (suc q) 0 (let f = deep o p in omega (arith, f, last, small)) (omega arith) ∙ omega (arith, e, some, last, small))
        (cases_lt (suc m) 1019)

pub row_of-other : (o : ℕ) → o < 1039384 → is_direct o ≡ false → row_of (suc o) ≡ row_of o
unfolding row_of
row_of-other o below h = go (not-direct o below h)
  where
    go : (o ≡ 0) ⊎ ((o ≡ 3) ⊎ ((o ≡ 1022) ⊎ ((o ≡ 2041) ⊎ ((2042 ≤ o) × ((o - 2042) % 1019 ≡ 0))))) → row_of (suc o) ≡ row_of o
    go (inl e) = rw e refl
    go (inr (inl e)) = rw e refl
    go (inr (inr (inl e))) = rw e refl
    go (inr (inr (inr (inl e)))) = rw e refl
    go (inr (inr (inr (inr t)))) =
        let a = t.0 in
        let z = t.1 in
        let q = (o - 2042) / 1019 in
        let f : o ≡ 2042 + 1019 * q + 0 = omega (arith, deep o a, z) in
        row-4 (suc o) q 1 (omega (arith, f)) (omega arith) ∙ sym (row-4 o q 0 f (omega arith))

-- ---- counting

numbers-suc : (n : ℕ) → numbers_below (suc n) ≡ numbers_below n ++ n ∷ []
unfolding numbers_below
numbers-suc n = ap numbers_below (let e : suc n ≡ n + 1 = omega arith in e) ∙ range-append 0 n 1 ∙ ap (λ k. numbers_below n ++ k ∷ []) (let z : 0 + n ≡ n = omega arith in z)

before_more : (n : ℕ) → direct_before (suc n) ≡ direct_before n + cond (is_direct n) 1 0
before_more n =
    ap (λ l. length (filter is_direct l)) (numbers-suc n)
    ∙ ap length (filter-append is_direct (numbers_below n) (n ∷ []))
    ∙ length-append (filter is_direct (numbers_below n)) (filter is_direct (n ∷ []))
    ∙ ap (λ m. direct_before n + m) (one (is_direct n))
  where
    one : (b : Bool) → length (cond b (n ∷ []) []) ≡ cond b 1 0
    one true = refl
    one false = refl

pub before-row : (n : ℕ) → n ≤ 1039384 → direct_before n ≡ row_of n
unfolding numbers_below row_of
before-row zero below = refl
before-row (suc n) below = go (is_direct n) refl (before-row n (omega (arith, below)))
  where
    go : (b : Bool) → is_direct n ≡ b → direct_before n ≡ row_of n → direct_before (suc n) ≡ row_of (suc n)
    go true e ih =
        let more = before_more n in
        let one : cond {A = ℕ} (is_direct n) 1 0 ≡ 1 = ap (λ b. cond {A = ℕ} b 1 0) e in
        let next = row_of-direct n e in
        omega (arith, more, one, next, ih)
    go false e ih =
        let more = before_more n in
        let none : cond {A = ℕ} (is_direct n) 1 0 ≡ 0 = ap (λ b. cond {A = ℕ} b 1 0) e in
        let next = row_of-other n (omega (arith, below)) e in
        omega (arith, more, none, next, ih)

-- ---- band by band

abbrev pub StandsAfter : ℕ → ℕ → Type 0
StandsAfter o rows = (is_direct o ≡ true) × (rows ≡ direct_before o)

stands_after : (o row : ℕ) → Direct o → row_of o ≡ row → StandsAfter o row
stands_after o row d is = (direct-from o d, sym (before-row o (let low = d.1 in omega (arith, low)) ∙ is))

pub in-first : (o : ℕ) → 1 ≤ o → o ≤ 2 → StandsAfter o (o - 1)
in-first o a b =
    stands_after o (o - 1) (omega (arith, a), omega (arith, b), λ e. omega (arith, e, b), λ e. omega (arith, e, b), λ e. omega (arith, e, b), λ h e. omega (arith, h, b))
    (row-1 o (omega (arith, b)))

pub in-second : (o : ℕ) → 4 ≤ o → o ≤ 1021 → StandsAfter o (o - 2)
in-second o a b =
    stands_after o (o - 2) (omega (arith, a), omega (arith, b), λ e. omega (arith, e, a), λ e. omega (arith, e, b), λ e. omega (arith, e, b), λ h e. omega (arith, h, b))
    (row-2 o a (omega (arith, b)))

pub in-third : (o : ℕ) → 1023 ≤ o → o ≤ 2040 → StandsAfter o (o - 3)
in-third o a b =
    stands_after o (o - 3) (omega (arith, a), omega (arith, b), λ e. omega (arith, e, a), λ e. omega (arith, e, a), λ e. omega (arith, e, b), λ h e. omega (arith, h, b))
    (row-3 o a (omega (arith, b)))

pub in-deep : (past : ℕ) → past < 1037342 → (past % 1019 ≡ 0 → ⊥) → StandsAfter (2042 + past) (2037 + 1018 * (past / 1019) + past % 1019)
in-deep past low away =
    let a = past / 1019 in
    let c = past % 1019 in
    let small : c < 1019 = omega arith in
    let some : 0 < c = positive c away in
    let place : (2042 + past - 2042) % 1019 ≡ c = ap (λ n. n % 1019) (let e : 2042 + past - 2042 ≡ past = omega arith in e) in
    stands_after (2042 + past) (2037 + 1018 * a + c)
    (omega arith, omega (arith, low), λ e. omega (arith, e), λ e. omega (arith, e), λ e. omega (arith, e), λ h e. away (sym place ∙ e))
    (row-4 (2042 + past) a c (omega arith) small ∙ omega (arith, some))

pub deep-node : (past : ℕ) → past < 1037342 → past % 1019 ≡ 0 → is_direct (2042 + past) ≡ false
deep-node past low at =
    let place : (2042 + past - 2042) % 1019 ≡ past % 1019 = ap (λ n. n % 1019) (let e : 2042 + past - 2042 ≡ past = omega arith in e) in
    false_from_ne_true (is_direct (2042 + past)) (λ e. (direct-parts (2042 + past) e).5 (omega arith) (place ∙ at))

-- an offset in none of the bands
pub outside : (o : ℕ) → (1 ≤ o → o ≤ 2 → ⊥) → (4 ≤ o → o ≤ 1021 → ⊥) → (1023 ≤ o → o ≤ 2040 → ⊥) → (2042 ≤ o → o < 1039384 → ⊥) → is_direct o ≡ false
outside o first second third deep =
    false_from_ne_true (is_direct o) (λ e.
    let d = direct-parts o e in
    ⊎_elim (λ a. first d.0 (omega (arith, a)))
    (λ a.
    let from : 4 ≤ o = above-ne 3 o a d.2 in
    ⊎_elim (λ b. second from (omega (arith, b)))
    (λ b.
    let past : 1023 ≤ o = above-ne 1022 o b d.3 in
    ⊎_elim (λ c. third past (omega (arith, c)))
    (λ c. deep (above-ne 2041 o c d.4) d.1)
    (cases_lt o 2041)) (cases_lt o 1022)) (cases_lt o 3))
