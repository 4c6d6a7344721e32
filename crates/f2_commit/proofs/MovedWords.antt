-- The words of a node as they get their new addresses, one after the other.
use Rattle.std.proofs.Common.{◌≡◌, inl, inr, ⊎_elim, ℕ, ◌+◌, ◌*◌, ◌<◌, ◌≤◌, Bool, true, false, ◌==◌, ◌&&◌, nat_le, nat_lt, cond, List, length, refl, sym, ap, ◌∙◌, arith}
use Rattle.std.specs.List.{list_any}
use Rattle.std.proofs.lemmas.Bool.{and_from, and_parts, eq-eqb, ne_eqb, ltb-true, le-leb, leb-true, lt-ltb, le-ltb, cases_lt, cond-true, cond-false, false_from_ne_true}
use Rattle.f2_bytes.specs.Bytes.{Block, IsBlock, word, with_number}
use Rattle.f2_bytes.specs.declared.layout.Layout.{Layout}
use Rattle.f2_bytes.specs.Defragment.{is_covered, regular_extent}
use Rattle.f2_bytes.specs.Node.{node_offset, has_slots, is_direct, address_count}
use Rattle.f2_commit.specs.Shifting.{placed_data, shifted_word, IsShifted}
use Rattle.f2_super.proofs.Filled.{with_number-apart}

-- the other words of a block into which one was put
pub word_apart : (b : Block) (i v j : ℕ) → length b ≡ 4096 → i < 1024 → (j ≡ i → ⊥) → word (with_number b (4 * i) 4 v) j ≡ word b j
word_apart b i v j long low other =
    with_number-apart b (4 * i) 4 v (4 * j) 4 (omega (arith, long, low)) (⊎_elim (λ before. inl (omega (arith, before))) (λ behind. inr (omega (arith, behind, other))) (cases_lt j i))

and_false : (a b : Bool) → b ≡ false → (a && b) ≡ false
and_false true b e = e
and_false false b e = refl

-- a number is not at least a greater one
lt-leb : (m n : ℕ) → m < n → nat_le n m ≡ false
lt-leb m n low = false_from_ne_true (nat_le n m) (λ t. let le = leb-true n m t in omega (arith, le, low))

-- each word from one on, so many, is another one
module _ (to : ℕ → ℕ) (b : Block) (from : ℕ) where
  abbrev pub so_far : ℕ → ℕ → ℕ
  so_far n j = cond (nat_le from j && nat_lt j (from + n)) (to (word b j)) (word b j)

  past : (n j : ℕ) → from + n ≤ j → so_far n j ≡ word b j
  past n j behind = cond-false (nat_le from j && nat_lt j (from + n)) (to (word b j)) (word b j) (and_false (nat_le from j) (nat_lt j (from + n)) (le-ltb j (from + n) behind))

  before : (n j : ℕ) → j < from → so_far n j ≡ word b j
  before n j low = cond-false (nat_le from j && nat_lt j (from + n)) (to (word b j)) (word b j) (ap (λ t. t && nat_lt j (from + n)) (lt-leb j from low))

  inside : (n j : ℕ) → from ≤ j → j < from + n → so_far n j ≡ to (word b j)
  inside n j low high =
      cond-true (nat_le from j && nat_lt j (from + n)) (to (word b j)) (word b j)
      (and_from (nat_le from j) (nat_lt j (from + n)) (le-leb from j low) (lt-ltb j (from + n) high))

  pub words-none : (j : ℕ) → j < 1024 → word b j ≡ so_far 0 j
  words-none j low = ⊎_elim (λ under. sym (before 0 j under)) (λ behind. sym (past 0 j (omega (arith, behind)))) (cases_lt j from)

  same : (n j : ℕ) → (j ≡ from + n → ⊥) → so_far n j ≡ so_far (n + 1) j
  same n j other =
      ⊎_elim (λ under. before n j under ∙ sym (before (n + 1) j under))
      (λ low. ⊎_elim (λ high. inside n j low high ∙ sym (inside (n + 1) j low (omega (arith, high))))
      (λ behind. past n j behind ∙ sym (past (n + 1) j (omega (arith, behind, other)))) (cases_lt j (from + n)))
      (cases_lt j from)

  module _ (n a : ℕ) (mid new : Block) (so : (j : ℕ) → j < 1024 → word mid j ≡ so_far n j) (is : a ≡ to (word mid (from + n))) (read : word new (from + n) ≡ a) (others : (j : ℕ) → (j ≡ from + n → ⊥) → word new j ≡ word mid j) where
    other : (j : ℕ) → j < 1024 → (j ≡ from + n → ⊥) → word new j ≡ so_far (n + 1) j
    other j inner apart = others j apart ∙ so j inner ∙ same n j apart

    here : (j : ℕ) → j < 1024 → j ≡ from + n → word new j ≡ so_far (n + 1) j
    here j inner at =
        ap (word new) at ∙ read ∙ is
        ∙ ap to (ap (word mid) (sym at) ∙ so j inner ∙ past n j (omega (arith, at)))
        ∙ sym (inside (n + 1) j (omega (arith, at)) (omega (arith, at)))

    pub words-more : (j : ℕ) → j < 1024 → word new j ≡ so_far (n + 1) j
    words-more j inner =
        ⊎_elim (λ under. other j inner (λ e. omega (arith, e, under)))
        (λ behind. ⊎_elim (λ above. other j inner (λ e. omega (arith, e, above))) (λ under. here j inner (omega (arith, behind, under))) (cases_lt (from + n) j))
        (cases_lt j (from + n))

-- zeros in place of the three words of an extent
pub words_zeroed : (b one two new : Block) → word one 87 ≡ 0 → ((j : ℕ) → (j ≡ 87 → ⊥) → word one j ≡ word b j) → word two 88 ≡ 0 → ((j : ℕ) → (j ≡ 88 → ⊥) → word two j ≡ word one j)
    → word new 89 ≡ 0 → ((j : ℕ) → (j ≡ 89 → ⊥) → word new j ≡ word two j) → (j : ℕ) → word new j ≡ cond (nat_le 87 j && nat_lt j 90) 0 (word b j)
words_zeroed b one two new first apart_first second apart_second third apart_third j =
    ⊎_elim (λ under. apart_third j (λ e. omega (arith, e, under)) ∙ apart_second j (λ e. omega (arith, e, under)) ∙ apart_first j (λ e. omega (arith, e, under))
    ∙ sym (cond-false (nat_le 87 j && nat_lt j 90) 0 (word b j) (ap (λ t. t && nat_lt j 90) (lt-leb j 87 under))))
    (λ from. ⊎_elim (λ low. zero from low ∙ sym (cond-true (nat_le 87 j && nat_lt j 90) 0 (word b j) (and_from (nat_le 87 j) (nat_lt j 90) (le-leb 87 j from) (lt-ltb j 90 low))))
    (λ behind. apart_third j (λ e. omega (arith, e, behind)) ∙ apart_second j (λ e. omega (arith, e, behind)) ∙ apart_first j (λ e. omega (arith, e, behind))
    ∙ sym (cond-false (nat_le 87 j && nat_lt j 90) 0 (word b j) (and_false (nat_le 87 j) (nat_lt j 90) (le-ltb j 90 behind)))) (cases_lt j 90))
    (cases_lt j 87)
  where
    zero : 87 ≤ j → j < 90 → word new j ≡ 0
    zero from low =
        ⊎_elim (λ a. let at : j ≡ 87 = omega (arith, a, from) in apart_third j (λ e. omega (arith, e, at)) ∙ apart_second j (λ e. omega (arith, e, at)) ∙ ap (word one) at ∙ first)
        (λ past. ⊎_elim (λ a. let at : j ≡ 88 = omega (arith, a, past) in apart_third j (λ e. omega (arith, e, at)) ∙ ap (word two) at ∙ second)
        (λ last. let at : j ≡ 89 = omega (arith, last, low) in ap (word new) at ∙ third) (cases_lt j 89))
        (cases_lt j 88)

-- ---- the whole node

-- the slots that an inode has
pub slots_moved : (has : Bool) (count slots j x y : ℕ) → true ≡ has → count ≡ slots → cond (nat_le 90 j && nat_lt j (90 + count)) x y ≡ cond (has && nat_le 90 j && nat_lt j (90 + slots)) x y
slots_moved has count slots j x y some same = λ i. cond (some i && nat_le 90 j && nat_lt j (90 + same i)) x y

pub slots_kept : (has a c : Bool) (x y : ℕ) → false ≡ has → y ≡ cond (has && a && c) x y
slots_kept has a c x y none = λ i. cond (none i && a && c) x y

-- the extent, where it covers a block
pub extent_zeroed : (covered : Bool) (j y : ℕ) → true ≡ covered → cond (nat_le 87 j && nat_lt j 90) 0 y ≡ cond (nat_le 87 j && nat_lt j 90 && covered) 0 y
extent_zeroed covered j y some = go (nat_le 87 j && nat_lt j 90) ∙ λ i. cond (nat_le 87 j && nat_lt j 90 && some i) 0 y
  where
    go : (t : Bool) → cond t 0 y ≡ cond (t && true) 0 y
    go true = refl
    go false = refl

pub extent_kept : (a covered : Bool) (y : ℕ) → false ≡ covered → y ≡ cond (a && covered) 0 y
extent_kept a covered y none = sym (cond-false (a && covered) 0 y (and_false a covered (sym none)))

-- no word is one of a slot and one of the extent
apart_tests : (slot extent : Bool) (p w : ℕ) → (slot ≡ true → extent ≡ true → ⊥) → cond extent 0 (cond slot p w) ≡ cond slot p (cond extent 0 w)
apart_tests true true p w apart = absurd (apart refl refl)
apart_tests true false p w apart = refl
apart_tests false true p w apart = refl
apart_tests false false p w apart = refl

module _ (l : Layout) (targets addresses : List ℕ) (b new : Block) (block : IsBlock new) where
  abbrev pub slot_test : ℕ → Bool
  slot_test j = has_slots b && nat_le 90 j && nat_lt j (90 + address_count b)

  abbrev pub extent_test : ℕ → Bool
  extent_test j = nat_le 87 j && nat_lt j 90 && list_any (is_covered (regular_extent b)) addresses

  pub shifted_inode : (one : Block) → node_offset b ≡ 0 → ((j : ℕ) → j < 1024 → word one j ≡ cond (slot_test j) (placed_data l targets addresses (word b j)) (word b j))
      → ((j : ℕ) → j < 1024 → word new j ≡ cond (extent_test j) 0 (word one j)) → IsShifted l targets addresses b new
  unfolding shifted_word
  shifted_inode one zero first then = record {
    block = block;
    words = λ j low.
        then j low ∙ ap (cond (extent_test j) 0) (first j low)
        ∙ apart_tests (slot_test j) (extent_test j) (placed_data l targets addresses (word b j)) (word b j) (λ slot extent.
        let from = leb-true 90 j (and_parts (has_slots b) (nat_le 90 j) (and_parts (has_slots b && nat_le 90 j) (nat_lt j (90 + address_count b)) slot).0).1 in
        let under = ltb-true j 90 (and_parts (nat_le 87 j) (nat_lt j 90) (and_parts (nat_le 87 j && nat_lt j 90) (list_any (is_covered (regular_extent b)) addresses) extent).0).1 in
        omega (arith, from, under))
        ∙ sym (cond-true (node_offset b == 0) _ _ (eq-eqb (node_offset b) 0 zero));
  }

  pub shifted_direct : (node_offset b ≡ 0 → ⊥) → true ≡ is_direct (node_offset b) → ((j : ℕ) → j < 1024 → word new j ≡ cond (nat_le 0 j && nat_lt j (0 + 1018)) (placed_data l targets addresses (word b j)) (word b j))
      → IsShifted l targets addresses b new
  unfolding shifted_word
  shifted_direct away direct words = record {
    block = block;
    words = λ j low.
        words j low
        ∙ (λ i. cond (le-leb 0 j (omega arith) i && nat_lt j 1018) (placed_data l targets addresses (word b j)) (word b j))
        ∙ (λ i. cond (direct i && nat_lt j 1018) (placed_data l targets addresses (word b j)) (word b j))
        ∙ sym (cond-false (node_offset b == 0) _ _ (ne_eqb (node_offset b) 0 away));
  }

  pub shifted_other : (node_offset b ≡ 0 → ⊥) → false ≡ is_direct (node_offset b) → new ≡ b → IsShifted l targets addresses b new
  unfolding shifted_word
  shifted_other away indirect same = record {
    block = block;
    words = λ j low.
        ap (λ (x : Block). word x j) same
        ∙ (λ i. cond (indirect i && nat_lt j 1018) (placed_data l targets addresses (word b j)) (word b j))
        ∙ sym (cond-false (node_offset b == 0) _ _ (ne_eqb (node_offset b) 0 away));
  }
