-- The superblock of a new image.
use Rattle.std.proofs.Common.{◌≡◌, ◌≢◌, ◌⊎◌, inl, inr, ⊎_elim, ◌==◌, ℕ, zero, suc, ◌+◌, ◌-◌, ◌*◌, ◌/◌, ◌%◌, ◌<◌, ◌≤◌, Bool, true, false, not, cond, List, [], ◌∷◌, ◌++◌, map, length, take, drop, get_or, refl, sym, ap, subst, ◌∙◌, arith}
use Rattle.std.specs.Prelude.{◌||◌, ◌&&◌, nat_le, replicate, take_while}
use Rattle.std.specs.List.{list_all}
use Rattle.std.proofs.lemmas.Bool.{and_parts, leb-true, le-leb, eq-eqb, eqb-true, cases_lt}
use Rattle.std.proofs.lemmas.List.{get_or-replicate, get_or_past, get_or_append_left, get_or-append_right, length-append, length-take, length-drop, length-take-le, length-replicate, length-map, get_or-map, get_or-take, get_or-drop}
use Rattle.std.proofs.lemmas.List.Sums.{take_while-cons}
use Rattle.std.proofs.lemmas.Grind.{same_number_lists}
use Rattle.f2_bytes.specs.Bytes.{number_at, numbers_below, with_bytes, with_number, bytes_at, has_bit}
use Rattle.f2_bytes.specs.Checksum.{crc, magic_number}
use Rattle.f2_bytes.specs.Fields.{row_at}
use Rattle.f2_bytes.specs.Superblock.{superblock_rows, copy_row, copy_passes, has_known_form, has_known_counts, has_joined_areas, has_enough_room, has_right_checksum, volume_name}
use Rattle.f2_bytes.proofs.Below.{each_below, get_or-numbers_below, length-numbers_below}
use Rattle.f2_bytes.proofs.Entries.{number_at-apart}
use Rattle.f2_bytes.proofs.Numbers.{number_at-byte, length-with_number, take-with_number}
use Rattle.f2_super.specs.Filled.{Keeps, IsFilled}
use Rattle.f2_super.specs.Geometry.{new_layout}
use Rattle.f2_super.specs.NewCopy.{IsNewCopy, new_rows}
use Rattle.f2_super.specs.Unsealed.{IsUnsealed}
use Rattle.f2_super.specs.declared.sizes.Geometry.{Geometry}
use Rattle.f2_super.proofs.Filled.{with_number-apart}
use Rattle.f2_super.proofs.NewSizes.{AreSizes}

-- ---- bytes

zero_byte : (n i : ℕ) → get_or {A = ℕ} (replicate n 0) i 0 ≡ 0
zero_byte n i = elim (cases_lt i n) [
  | inl inside ↦ get_or-replicate {A = ℕ} n i 0 0 inside
  | inr past ↦ get_or_past {X = ℕ} (replicate n 0) i 0 (omega (arith, length-replicate {A = ℕ} n 0, past))
]

-- a number of zeros
pub number_at-zeros : (size i n : ℕ) → number_at (replicate size 0) i n ≡ 0
unfolding number_at
number_at-zeros size i zero = refl
number_at-zeros size i (suc n) = omega (arith, zero_byte size i, number_at-zeros size (suc i) n)

-- two bytes are a number
pub number_at-two : (b : List ℕ) (i low high : ℕ) → number_at b i 1 ≡ low → number_at b (i + 1) 1 ≡ high → number_at b i 2 ≡ low + 256 * high
unfolding number_at
number_at-two b i low high first second = omega (arith, first, second, ap (λ k. get_or b k 0) (arith_one i))
  where
    arith_one : (i : ℕ) → i + 1 ≡ suc i
    arith_one i = omega arith

-- bytes that were put in are read again
pub put-read : (b bytes : List ℕ) (at i : ℕ) → at + length bytes ≤ length b → i < length bytes → number_at (with_bytes b at bytes) (at + i) 1 ≡ get_or bytes i 0
put-read b bytes at i inside below =
    let front : length (take at b) ≡ at = length-take-le at b (omega (arith, inside)) in
    let place : at + i - at ≡ i = omega arith in
    number_at-byte (with_bytes b at bytes) (at + i)
    ∙ get_or_append_left (take at b ++ bytes) (drop (at + length bytes) b) 0 (at + i) (omega (arith, length-append (take at b) bytes, front, below))
    ∙ get_or-append_right (take at b) bytes at (at + i) 0 front (omega arith)
    ∙ ap (λ k. get_or bytes k 0) place

pub put-keeps : (b bytes : List ℕ) (at : ℕ) → at + length bytes ≤ length b → Keeps at (length bytes) b (with_bytes b at bytes)
put-keeps b bytes at inside = record {
  size = simp (length-append, length-take, length-drop) (omega (arith, inside));
  others = λ i n apart. number_at-apart b bytes at i n inside apart;
}

-- ---- what is kept

pub keeps-none : (at : ℕ) (b : List ℕ) → Keeps at 0 b b
keeps-none at b = record { size = refl; others = λ i n apart. refl }

-- a step that changes some of these bytes more
pub keeps-then : (at count first many : ℕ) (a b c : List ℕ) → Keeps at count a b → Keeps first many b c → first ≡ at + count → Keeps at (count + many) a c
keeps-then at count first many a b c one two next = record {
  size = two.size ∙ one.size;
  others = λ i n apart.
      two.others i n (⊎_elim (λ before. inl (omega (arith, before, next))) (λ behind. inr (omega (arith, behind, next))) apart)
      ∙ one.others i n (⊎_elim (λ before. inl before) (λ behind. inr (omega (arith, behind))) apart);
}

pub keeps-wider : (at count more : ℕ) (a b : List ℕ) → count ≤ more → Keeps at count a b → Keeps at more a b
keeps-wider at count more a b wider one = record {
  size = one.size;
  others = λ i n apart. one.others i n (⊎_elim (λ before. inl before) (λ behind. inr (omega (arith, behind, wider))) apart);
}

-- the rows but for the uuid have no byte among these ones
abbrev is_row_apart : ℕ → ℕ → ℕ → Bool
is_row_apart at count k = let row = row_at superblock_rows k in (k == 27) || ((k == 28) || (nat_le (row.offset + row.width) at || nat_le (at + count) row.offset))

abbrev are_rows_apart : ℕ → ℕ → Type 0
are_rows_apart at count = list_all (is_row_apart at count) (numbers_below 32) ≡ true

either : (m n i j k : ℕ) → k ≢ 27 → k ≢ 28 → ((k == 27) || ((k == 28) || (nat_le m n || nat_le i j))) ≡ true → (m ≤ n) ⊎ (i ≤ j)
either m n i j k first second passes = go (k == 27) (k == 28) (nat_le m n) refl refl refl
  where
    go : (t u v : Bool) → (k == 27) ≡ t → (k == 28) ≡ u → nat_le m n ≡ v → (m ≤ n) ⊎ (i ≤ j)
    go true u v is also too = absurd (first (eqb-true k 27 is))
    go false true v is also too = absurd (second (eqb-true k 28 also))
    go false false true is also too = inl (leb-true m n too)
    go false false false is also too = inr (leb-true i j ((λ l. sym is l || (sym also l || (sym too l || nat_le i j))) ∙ passes))

row-kept : (at count : ℕ) (c d : List ℕ) → are_rows_apart at count → Keeps at count c d → (k : ℕ) → k < 32 → k ≢ 27 → k ≢ 28 → copy_row d k ≡ copy_row c k
row-kept at count c d apart keeps k below first second =
    let row = row_at superblock_rows k in
    keeps.others row.offset row.width (either (row.offset + row.width) at (at + count) row.offset k first second (each_below (is_row_apart at count) 32 apart k below))

apart-uuid : are_rows_apart 108 16
unfolding numbers_below
apart-uuid = refl

apart-label : are_rows_apart 124 1024
unfolding numbers_below
apart-label = refl

apart-version : are_rows_apart 1668 7
unfolding numbers_below
apart-version = refl

apart-init_version : are_rows_apart 1924 7
unfolding numbers_below
apart-init_version = refl

apart-checksum : are_rows_apart 3068 4
unfolding numbers_below
apart-checksum = refl

-- the label has no byte among those of the rows
abbrev is_outside : ℕ → Bool
is_outside k = let row = row_at superblock_rows k in nat_le 1148 row.offset || nat_le (row.offset + row.width) 124

all_outside : list_all is_outside (numbers_below 33) ≡ true
unfolding numbers_below
all_outside = refl

outside-label : (i n k : ℕ) → 124 ≤ i → i + n ≤ 1148 → k < 33 → (i + n ≤ (row_at superblock_rows k).offset) ⊎ ((row_at superblock_rows k).offset + (row_at superblock_rows k).width ≤ i)
outside-label i n k first last below = go (nat_le 1148 row_offset) refl (each_below is_outside 33 all_outside k below)
  where
    row_offset : ℕ
    row_offset = (row_at superblock_rows k).offset

    end : ℕ
    end = row_offset + (row_at superblock_rows k).width

    go : (t : Bool) → nat_le 1148 row_offset ≡ t → (nat_le 1148 row_offset || nat_le end 124) ≡ true → (i + n ≤ row_offset) ⊎ (end ≤ i)
    go true is passes = let far = leb-true 1148 row_offset is in inl (omega (arith, last, far))
    go false is passes = let near = leb-true end 124 (ap (λ t. t || nat_le end 124) (sym is) ∙ passes) in inr (omega (arith, first, near))

-- ---- the copy before its checksum

pub is_unsealed : (g : Geometry) (features : ℕ) (values id label zeros rowed with_id with_label with_version c : List ℕ)
    → zeros ≡ replicate 3072 0 → values ≡ new_rows g features → length id ≡ 16 → length label ≤ 511
    → IsFilled superblock_rows values 33 zeros rowed
    → ((i : ℕ) → i < length id → number_at with_id (108 + i) 1 ≡ get_or id i 0) → Keeps 108 (length id) rowed with_id
    → ((i : ℕ) → i < length label → number_at with_label (124 + 2 * i) 2 ≡ get_or label i 0) → Keeps 124 (2 * length label) with_id with_label
    → Keeps 1668 7 with_label with_version → Keeps 1924 7 with_version c
    → IsUnsealed g features id label c
is_unsealed g features values id label zeros rowed with_id with_label with_version c is_zeros is_values id_length few filled id_read id_keeps label_read label_keeps version_keeps init_keeps = record {
  size = init_keeps.size ∙ version_keeps.size ∙ label_keeps.size ∙ id_keeps.size ∙ filled.size ∙ ap length is_zeros ∙ length-replicate {A = ℕ} 3072 0;
  rows = λ k below first second.
      row-kept 1924 7 with_version c apart-init_version init_keeps k below first second
      ∙ row-kept 1668 7 with_label with_version apart-version version_keeps k below first second
      ∙ row-kept 124 1024 with_id with_label apart-label (keeps-wider 124 (2 * length label) 1024 with_id with_label (omega (arith, few)) label_keeps) k below first second
      ∙ row-kept 108 16 rowed with_id apart-uuid (subst (λ n. Keeps 108 n rowed with_id) id_length id_keeps) k below first second
      ∙ filled.filled k (omega (arith, below)) ∙ ap (λ l. get_or l k 0) is_values;
  id = λ i below.
      init_keeps.others (108 + i) 1 (inl (omega (arith, below)))
      ∙ version_keeps.others (108 + i) 1 (inl (omega (arith, below)))
      ∙ label_keeps.others (108 + i) 1 (inl (omega (arith, below)))
      ∙ id_read i (omega (arith, below, id_length));
  label = λ i below.
      init_keeps.others (124 + 2 * i) 2 (inl (omega (arith, below)))
      ∙ version_keeps.others (124 + 2 * i) 2 (inl (omega (arith, below)))
      ∙ unit i below;
}
  where
    unit : (i : ℕ) → i < 512 → number_at with_label (124 + 2 * i) 2 ≡ get_or label i 0
    unit i below = elim (cases_lt i (length label)) [
      | inl inside ↦ label_read i inside
      | inr past ↦
          label_keeps.others (124 + 2 * i) 2 (inr (omega (arith, past)))
          ∙ id_keeps.others (124 + 2 * i) 2 (inr (omega (arith, id_length)))
          ∙ filled.others (124 + 2 * i) 2 (λ k less. outside-label (124 + 2 * i) 2 k (omega arith) (omega (arith, below)) less)
          ∙ ap (λ l. number_at l (124 + 2 * i) 2) is_zeros ∙ number_at-zeros 3072 (124 + 2 * i) 2
          ∙ sym (get_or_past {X = ℕ} label i 0 past)
    ]

-- and there is none yet where the checksum may stand
pub no_checksum : (g : Geometry) (features : ℕ) (values id label old rowed with_id with_label with_version c : List ℕ)
    → values ≡ new_rows g features → length id ≡ 16 → length label ≤ 511 → IsFilled superblock_rows values 33 old rowed
    → Keeps 108 (length id) rowed with_id → Keeps 124 (2 * length label) with_id with_label → Keeps 1668 7 with_label with_version → Keeps 1924 7 with_version c
    → copy_row c 32 ≡ 0
no_checksum g features values id label old rowed with_id with_label with_version c is_values id_length few filled id_keeps label_keeps version_keeps init_keeps =
    init_keeps.others 3068 4 (inr (omega arith))
    ∙ version_keeps.others 3068 4 (inr (omega arith))
    ∙ label_keeps.others 3068 4 (inr (omega (arith, few)))
    ∙ id_keeps.others 3068 4 (inr (omega (arith, id_length)))
    ∙ filled.filled 32 (omega arith) ∙ ap (λ l. get_or l 32 0) is_values

-- a checksum changes none of it
pub unsealed-kept : (g : Geometry) (features : ℕ) (id label c d : List ℕ) → IsUnsealed g features id label c → Keeps 3068 4 c d → IsUnsealed g features id label d
unsealed-kept g features id label c d is keeps = record {
  size = keeps.size ∙ is.size;
  rows = λ k below first second. row-kept 3068 4 c d apart-checksum keeps k below first second ∙ is.rows k below first second;
  id = λ i below. keeps.others (108 + i) 1 (inl (omega (arith, below))) ∙ is.id i below;
  label = λ i below. keeps.others (124 + 2 * i) 2 (inl (omega (arith, below))) ∙ is.label i below;
}

-- ---- the whole copy

-- units up to the first zero
take-units : (label : List ℕ) (m : ℕ) → list_all (λ u. not (u == 0)) label ≡ true → take_while (λ u. not (u == 0)) (label ++ replicate (suc m) 0) ≡ label
take-units [] m whole = refl
take-units (u ∷ label) m whole =
    let both = and_parts _ _ whole in
    take_while-cons (λ (u : ℕ). not (u == 0)) u (label ++ replicate (suc m) 0)
    ∙ ap (λ t. cond t (u ∷ take_while (λ u. not (u == 0)) (label ++ replicate (suc m) 0)) []) both.0 ∙ ap (λ l. u ∷ l) (take-units label m both.1)

module _ (g : Geometry) (features : ℕ) (id label c : List ℕ) (is : IsUnsealed g features id label c) (sizes : AreSizes g) where
  r : (k : ℕ) → k < 32 → k ≢ 27 → k ≢ 28 → copy_row c k ≡ get_or (new_rows g features) k 0
  r = is.rows

  r0 : copy_row c 0 ≡ magic_number
  r0 = is.rows 0 (omega arith) (λ e. absurd (omega (arith, e))) (λ e. absurd (omega (arith, e)))

  r3 : copy_row c 3 ≡ 9
  r3 = is.rows 3 (omega arith) (λ e. absurd (omega (arith, e))) (λ e. absurd (omega (arith, e)))

  r4 : copy_row c 4 ≡ 3
  r4 = is.rows 4 (omega arith) (λ e. absurd (omega (arith, e))) (λ e. absurd (omega (arith, e)))

  r5 : copy_row c 5 ≡ 12
  r5 = is.rows 5 (omega arith) (λ e. absurd (omega (arith, e))) (λ e. absurd (omega (arith, e)))

  r6 : copy_row c 6 ≡ 9
  r6 = is.rows 6 (omega arith) (λ e. absurd (omega (arith, e))) (λ e. absurd (omega (arith, e)))

  r7 : copy_row c 7 ≡ 1
  r7 = is.rows 7 (omega arith) (λ e. absurd (omega (arith, e))) (λ e. absurd (omega (arith, e)))

  r8 : copy_row c 8 ≡ 1
  r8 = is.rows 8 (omega arith) (λ e. absurd (omega (arith, e))) (λ e. absurd (omega (arith, e)))

  r9 : copy_row c 9 ≡ cond (has_bit features 11) 3068 0
  r9 = is.rows 9 (omega arith) (λ e. absurd (omega (arith, e))) (λ e. absurd (omega (arith, e)))

  r10 : copy_row c 10 ≡ g.blocks
  r10 = is.rows 10 (omega arith) (λ e. absurd (omega (arith, e))) (λ e. absurd (omega (arith, e)))

  r11 : copy_row c 11 ≡ g.main
  r11 = is.rows 11 (omega arith) (λ e. absurd (omega (arith, e))) (λ e. absurd (omega (arith, e)))

  r12 : copy_row c 12 ≡ g.segments
  r12 = is.rows 12 (omega arith) (λ e. absurd (omega (arith, e))) (λ e. absurd (omega (arith, e)))

  r13 : copy_row c 13 ≡ 2
  r13 = is.rows 13 (omega arith) (λ e. absurd (omega (arith, e))) (λ e. absurd (omega (arith, e)))

  r14 : copy_row c 14 ≡ g.sit
  r14 = is.rows 14 (omega arith) (λ e. absurd (omega (arith, e))) (λ e. absurd (omega (arith, e)))

  r15 : copy_row c 15 ≡ g.nat
  r15 = is.rows 15 (omega arith) (λ e. absurd (omega (arith, e))) (λ e. absurd (omega (arith, e)))

  r16 : copy_row c 16 ≡ g.ssa
  r16 = is.rows 16 (omega arith) (λ e. absurd (omega (arith, e))) (λ e. absurd (omega (arith, e)))

  r17 : copy_row c 17 ≡ g.main
  r17 = is.rows 17 (omega arith) (λ e. absurd (omega (arith, e))) (λ e. absurd (omega (arith, e)))

  r18 : copy_row c 18 ≡ 512
  r18 = is.rows 18 (omega arith) (λ e. absurd (omega (arith, e))) (λ e. absurd (omega (arith, e)))

  r19 : copy_row c 19 ≡ 512
  r19 = is.rows 19 (omega arith) (λ e. absurd (omega (arith, e))) (λ e. absurd (omega (arith, e)))

  r20 : copy_row c 20 ≡ 1536
  r20 = is.rows 20 (omega arith) (λ e. absurd (omega (arith, e))) (λ e. absurd (omega (arith, e)))

  r21 : copy_row c 21 ≡ (new_layout g).nat
  r21 = is.rows 21 (omega arith) (λ e. absurd (omega (arith, e))) (λ e. absurd (omega (arith, e)))

  r22 : copy_row c 22 ≡ (new_layout g).ssa
  r22 = is.rows 22 (omega arith) (λ e. absurd (omega (arith, e))) (λ e. absurd (omega (arith, e)))

  r23 : copy_row c 23 ≡ (new_layout g).main
  r23 = is.rows 23 (omega arith) (λ e. absurd (omega (arith, e))) (λ e. absurd (omega (arith, e)))

  r24 : copy_row c 24 ≡ 3
  r24 = is.rows 24 (omega arith) (λ e. absurd (omega (arith, e))) (λ e. absurd (omega (arith, e)))

  r25 : copy_row c 25 ≡ 1
  r25 = is.rows 25 (omega arith) (λ e. absurd (omega (arith, e))) (λ e. absurd (omega (arith, e)))

  r26 : copy_row c 26 ≡ 2
  r26 = is.rows 26 (omega arith) (λ e. absurd (omega (arith, e))) (λ e. absurd (omega (arith, e)))

  r30 : copy_row c 30 ≡ 0
  r30 = is.rows 30 (omega arith) (λ e. absurd (omega (arith, e))) (λ e. absurd (omega (arith, e)))

  r31 : copy_row c 31 ≡ features
  r31 = is.rows 31 (omega arith) (λ e. absurd (omega (arith, e))) (λ e. absurd (omega (arith, e)))

  form : has_known_form c ≡ true
  unfolding has_known_form
  form = λ i.
      (r0 i == magic_number)
      && nat_le 9 (r3 i)
      && nat_le (r3 i) 12
      && (r4 i == 12 - r3 i)
      && (r5 i == 12)
      && (r6 i == 9)
      && (r7 i == 1)
      && nat_le 1 (r8 i)
      && (r30 i == 0)
      && (r24 i == 3)
      && (r25 i == 1)
      && (r26 i == 2)

  counts : has_known_counts c ≡ true
  unfolding has_known_counts
  counts =
      (λ i. (r13 i == 2) && nat_le 2 (r14 i) && (r14 i % 2 == 0) && nat_le 2 (r15 i) && (r15 i % 2 == 0) && nat_le 1 (r16 i) && nat_le 1 (r17 i) && (r11 i == r17 i))
      ∙ λ i.
      le-leb 2 g.sit sizes.sit_some i
      && eq-eqb _ _ sizes.sit_even i
      && le-leb 2 g.nat sizes.nat_some i
      && eq-eqb _ _ sizes.nat_even i
      && le-leb 1 g.ssa sizes.ssa_some i
      && le-leb 1 g.main (omega (arith, sizes.main_some)) i
      && eq-eqb g.main g.main refl i

  areas : has_joined_areas c ≡ true
  unfolding has_joined_areas
  areas =
      (λ i.
      (r19 i == r18 i)
      && nat_le 2 (r19 i)
      && (r20 i == r19 i + 512 * r13 i)
      && (r21 i == r20 i + 512 * r14 i)
      && (r22 i == r21 i + 512 * r15 i)
      && (r23 i == r22 i + 512 * r16 i)
      && nat_le (r23 i + 512 * r17 i) (r10 i))
      ∙ λ i.
      eq-eqb (1536 + 512 * g.sit) (1536 + 512 * g.sit) refl i
      && eq-eqb (1536 + 512 * (g.sit + g.nat)) (1536 + 512 * g.sit + 512 * g.nat) (omega arith) i
      && eq-eqb (512 * (3 + g.sit + g.nat + g.ssa)) (1536 + 512 * (g.sit + g.nat) + 512 * g.ssa) (omega arith) i
      && le-leb (512 * (3 + g.sit + g.nat + g.ssa) + 512 * g.main) g.blocks sizes.inside i

  room : has_enough_room c ≡ true
  unfolding has_enough_room
  room =
      (λ i.
      nat_le (r13 i + r14 i + r15 i + r16 i + r17 i) (r12 i)
      && nat_le (r17 i) (512 * r16 i)
      && nat_le (r17 i) (28160 * (r14 i / 2))
      && nat_le (32 * (r14 i + r15 i)) 3900)
      ∙ λ i.
      le-leb (2 + g.sit + g.nat + g.ssa + g.main) g.segments (omega (arith, sizes.segments)) i
      && le-leb g.main (512 * g.ssa) sizes.summaries i
      && le-leb g.main (28160 * (g.sit / 2)) sizes.entries i
      && le-leb (32 * (g.sit + g.nat)) 3900 sizes.bitmaps i

  module _ (sum : has_bit features 11 ≡ true → copy_row c 32 ≡ crc magic_number (take 3068 c)) where
    checksum : has_right_checksum c ≡ true
    unfolding has_right_checksum
    checksum = (λ i. not (has_bit (r31 i) 11) || ((r9 i == 3068) && (copy_row c 32 == crc magic_number (take 3068 c)))) ∙ go (has_bit features 11) refl
      where
        go : (t : Bool) → has_bit features 11 ≡ t → (not (has_bit features 11) || ((cond (has_bit features 11) 3068 0 == 3068) && (copy_row c 32 == crc magic_number (take 3068 c)))) ≡ true
        go true on = λ i. not (on i) || ((cond (on i) 3068 0 == 3068) && eq-eqb _ _ (sum on) i)
        go false off = λ i. not (off i) || ((cond (off i) 3068 0 == 3068) && (copy_row c 32 == crc magic_number (take 3068 c)))

    pub new-passes : copy_passes c ≡ true
    unfolding copy_passes
    new-passes = λ i. form i && counts i && areas i && room i && checksum i

    units : length label ≤ 511 → list_all (λ u. not (u == 0)) label ≡ true → volume_name c ≡ label
    unfolding volume_name
    units few whole =
        ap (take_while (λ u. not (u == 0))) same ∙ take-units label (511 - length label) whole
      where
        unit_at : ℕ → ℕ
        unit_at i = number_at c (124 + 2 * i) 2

        padded : (k : ℕ) → get_or label k 0 ≡ get_or (label ++ replicate (suc (511 - length label)) 0) k 0
        padded k = elim (cases_lt k (length label)) [
          | inl inside ↦ sym (get_or_append_left label (replicate (suc (511 - length label)) 0) 0 k inside)
          | inr past ↦
              get_or_past {X = ℕ} label k 0 past
              ∙ sym (get_or-append_right label (replicate (suc (511 - length label)) 0) (length label) k 0 refl past ∙ zero_byte (suc (511 - length label)) (k - length label))
        ]

        same : map (λ i. number_at c (124 + 2 * i) 2) (numbers_below 512) ≡ label ++ replicate (suc (511 - length label)) 0
        same = same_number_lists _ _ sizes_agree each
          where
            sizes_agree : length (map (λ i. number_at c (124 + 2 * i) 2) (numbers_below 512)) ≡ length (label ++ replicate (suc (511 - length label)) 0)
            sizes_agree =
                length-map (numbers_below 512) (λ i. number_at c (124 + 2 * i) 2) ∙ length-numbers_below 512
                ∙ omega (arith, few, length-append label (replicate (suc (511 - length label)) 0), length-replicate {A = ℕ} (suc (511 - length label)) 0)

            each : (k : ℕ) → k < length (map (λ i. number_at c (124 + 2 * i) 2) (numbers_below 512)) → get_or (map (λ i. number_at c (124 + 2 * i) 2) (numbers_below 512)) k 0 ≡ get_or (label ++ replicate (suc (511 - length label)) 0) k 0
            each k below =
                let less : k < 512 = omega (arith, below, length-map (numbers_below 512) (λ i. number_at c (124 + 2 * i) 2), length-numbers_below 512) in
                get_or-map (λ i. number_at c (124 + 2 * i) 2) (numbers_below 512) k 0 0 (omega (arith, less, length-numbers_below 512))
                ∙ ap (λ i. number_at c (124 + 2 * i) 2) (get_or-numbers_below 512 k 0 less)
                ∙ is.label k less ∙ padded k

    said_id : length id ≡ 16 → bytes_at c 108 16 ≡ id
    said_id sixteen = same_number_lists _ _ sizes_agree each
      where
        sizes_agree : length (take 16 (drop 108 c)) ≡ length id
        sizes_agree = length-take-le 16 (drop 108 c) (omega (arith, length-drop 108 c, is.size)) ∙ sym sixteen

        each : (k : ℕ) → k < length (take 16 (drop 108 c)) → get_or (take 16 (drop 108 c)) k 0 ≡ get_or id k 0
        each k below =
            let less : k < 16 = omega (arith, below, sizes_agree, sixteen) in
            get_or-take 16 (drop 108 c) k 0 less ∙ get_or-drop 108 c k 0 ∙ sym (number_at-byte c (108 + k)) ∙ is.id k less

    said_sum : (has_bit features 11 ≡ false → copy_row c 32 ≡ 0) → copy_row c 32 ≡ cond (has_bit features 11) (crc magic_number (take 3068 c)) 0
    said_sum none = go (has_bit features 11) refl
      where
        go : (t : Bool) → has_bit features 11 ≡ t → copy_row c 32 ≡ cond (has_bit features 11) (crc magic_number (take 3068 c)) 0
        go true on = sum on ∙ ap (λ t. cond t (crc magic_number (take 3068 c)) 0) (sym on)
        go false off = none off ∙ ap (λ t. cond t (crc magic_number (take 3068 c)) 0) (sym off)

    pub new-copy : (has_bit features 11 ≡ false → copy_row c 32 ≡ 0) → length id ≡ 16 → length label ≤ 511 → list_all (λ u. not (u == 0)) label ≡ true → IsNewCopy g features id label c
    new-copy none sixteen few whole = record {
      size = is.size;
      passes = new-passes;
      rows = is.rows;
      checksum = said_sum none;
      layout = λ i. record { blocks = r10 i; cp = r19 i; sit = r20 i; nat = r21 i; ssa = r22 i; main = r23 i; sit_half = 512 * (r14 i / 2); nat_half = 512 * (r15 i / 2); segments = r17 i };
      features_said = r31;
      id_said = said_id sixteen;
      label_said = units few whole;
    }

-- one unit more of the label
pub units-more : (label old mid new : List ℕ) (i u : ℕ) → u ≡ get_or label i 0 → length mid ≡ 3072 → i < 512 → new ≡ with_bytes mid (124 + 2 * i) (u % 256 ∷ u / 256 ∷ [])
    → ((k : ℕ) → k < i → number_at mid (124 + 2 * k) 2 ≡ get_or label k 0) → (k : ℕ) → k < i + 1 → number_at new (124 + 2 * k) 2 ≡ get_or label k 0
units-more label old mid new i u is_u size low is before k below = elim (cases_lt k i) [
  | inl earlier ↦
      ap (λ l. number_at l (124 + 2 * k) 2) is
      ∙ number_at-apart mid (u % 256 ∷ u / 256 ∷ []) (124 + 2 * i) (124 + 2 * k) 2 (omega (arith, size, low)) (inl (omega (arith, earlier)))
      ∙ before k earlier
  | inr past ↦
      let here : k ≡ i = omega (arith, below, past) in
      let pair : List ℕ = u % 256 ∷ u / 256 ∷ [] in
      let inside : 124 + 2 * i + 2 ≤ length mid = omega (arith, size, low) in
      let first : number_at (with_bytes mid (124 + 2 * i) pair) (124 + 2 * i) 1 ≡ u % 256 = ap (λ n. number_at (with_bytes mid (124 + 2 * i) pair) n 1) (omega arith) ∙ put-read mid pair (124 + 2 * i) 0 inside (omega arith) in
      let second : number_at (with_bytes mid (124 + 2 * i) pair) (124 + 2 * i + 1) 1 ≡ u / 256 = put-read mid pair (124 + 2 * i) 1 inside (omega arith) in
      (λ j. number_at (is j) (124 + 2 * here j) 2)
      ∙ number_at-two (with_bytes mid (124 + 2 * i) pair) (124 + 2 * i) (u % 256) (u / 256) first second
      ∙ omega arith ∙ is_u ∙ ap (λ n. get_or label n 0) (sym here)
]

pub units-keep : (old mid new : List ℕ) (i low high : ℕ) → length mid ≡ 3072 → i < 512 → new ≡ with_bytes mid (124 + 2 * i) (low ∷ high ∷ []) → Keeps 124 (2 * i) old mid → Keeps 124 (2 * (i + 1)) old new
units-keep old mid new i low high size below is so_far =
    let pair : List ℕ = low ∷ high ∷ [] in
    let step : Keeps (124 + 2 * i) 2 mid new = subst (λ l. Keeps (124 + 2 * i) 2 mid l) (sym is) (put-keeps mid pair (124 + 2 * i) (omega (arith, size, below))) in
    subst (λ n. Keeps 124 n old new) (omega arith) (keeps-then 124 (2 * i) (124 + 2 * i) 2 old mid new so_far step refl)

pub then-kept : (c new : List ℕ) (sum : ℕ) → length c ≡ 3072 → new ≡ with_number c 3068 4 sum → Keeps 3068 4 c new
then-kept c new sum size is = record {
  size = ap length is ∙ length-with_number c 3068 4 sum (omega (arith, size));
  others = λ i n apart. ap (λ l. number_at l i n) is ∙ with_number-apart c 3068 4 sum i n (omega (arith, size)) apart;
}

pub then-right : (c new : List ℕ) (sum : ℕ) → length c ≡ 3072 → new ≡ with_number c 3068 4 sum → copy_row new 32 ≡ sum → sum ≡ crc magic_number (take 3068 c) → copy_row new 32 ≡ crc magic_number (take 3068 new)
then-right c new sum size is read is_sum = read ∙ is_sum ∙ ap (crc magic_number) (sym (ap (take 3068) is ∙ take-with_number c 3068 3068 4 sum (omega arith) (omega (arith, size))))
