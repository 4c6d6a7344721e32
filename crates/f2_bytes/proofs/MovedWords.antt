-- The words of a node after the move: where they stay, and where they are new addresses.
use Rattle.std.proofs.Common.{◌≡◌, ℕ, ◌+◌, ◌*◌, ◌/◌, ◌<◌, ◌≤◌, Bool, true, false, ◌==◌, ◌&&◌, ◌||◌, nat_le, nat_lt, cond, ◌⊎◌, inl, inr, refl, sym, ap, ◌∙◌, arith}
use Rattle.std.proofs.lemmas.Bool.{eq-eqb, eqb-true, ne_eqb, lt-ltb, le-ltb, le-leb, lt-leb, false≢true}
use Rattle.f2_bytes.specs.Bytes.{Block, word}
use Rattle.f2_bytes.specs.Node.{node_offset, footer_nid, footer_ino, has_slots, has_inline_xattr, has_inline_dentry, is_direct, address_count}
use Rattle.f2_bytes.specs.Moved.{IsMovedNode, covers_moved, moved_word}
use Rattle.f2_bytes.proofs.SameBytes.{AgreeIn, words_agree, narrow, number_same}

-- an inode has at most 923 slots
pub address_count-most : (b : Block) → address_count b ≤ 923
unfolding address_count
address_count-most b = go (has_inline_xattr b || has_inline_dentry b)
  where
    go : (d : Bool) → cond d 873 923 ≤ 923
    go true = omega arith
    go false = omega arith

skip_first : (a b c : Bool) (x y : ℕ) → a ≡ false → cond (a && b && c) x y ≡ y
skip_first a b c x y none = rw none refl

skip_second : (a b c : Bool) (x y : ℕ) → b ≡ false → cond (a && b && c) x y ≡ y
skip_second true b c x y none = rw none refl
skip_second false b c x y none = refl

skip_third : (a b c : Bool) (x y : ℕ) → c ≡ false → cond (a && b && c) x y ≡ y
skip_third true true c x y none = rw none refl
skip_third true false c x y none = refl
skip_third false b c x y none = refl

take_all : (a b c : Bool) (x y : ℕ) → a ≡ true → b ≡ true → c ≡ true → cond (a && b && c) x y ≡ x
take_all a b c x y p q r = rw (p, q, r) refl

skip_front : (a b : Bool) (x y : ℕ) → a ≡ false → cond (a && b) x y ≡ y
skip_front a b x y none = rw none refl

skip_back : (a b : Bool) (x y : ℕ) → b ≡ false → cond (a && b) x y ≡ y
skip_back true b x y none = rw none refl
skip_back false b x y none = refl

take_both : (a b : Bool) (x y : ℕ) → a ≡ true → b ≡ true → cond (a && b) x y ≡ x
take_both a b x y p q = rw (p, q) refl

module _ (to : ℕ → ℕ) (b : Block) (j : ℕ) where
  -- the word of an inode, of an extent, and of another node
  extent_word : ℕ
  extent_word = cond (nat_le 87 j && nat_lt j 90 && covers_moved to b) 0 (word b j)

  inode_word : ℕ
  inode_word = cond (has_slots b && nat_le 90 j && nat_lt j (90 + address_count b)) (to (word b j)) extent_word

  node_word : ℕ
  node_word = cond (is_direct (node_offset b) && nat_lt j 1018) (to (word b j)) (word b j)

  of_inode : node_offset b ≡ 0 → moved_word to b j ≡ inode_word
  unfolding moved_word inode_word extent_word node_word
  of_inode zero = ap (λ z. cond z inode_word node_word) (eq-eqb (node_offset b) 0 zero)

  of_node : (node_offset b ≡ 0 → ⊥) → moved_word to b j ≡ node_word
  unfolding moved_word inode_word extent_word node_word
  of_node away = ap (λ z. cond z inode_word node_word) (ne_eqb (node_offset b) 0 away)

  no_extent : (j < 87) ⊎ (90 ≤ j) → extent_word ≡ word b j
  unfolding extent_word
  no_extent (inl low) = skip_first (nat_le 87 j) (nat_lt j 90) (covers_moved to b) 0 (word b j) (lt-leb 87 j low)
  no_extent (inr high) = skip_second (nat_le 87 j) (nat_lt j 90) (covers_moved to b) 0 (word b j) (le-ltb j 90 high)

  -- ---- an inode

  pub inode_low : node_offset b ≡ 0 → j < 87 → moved_word to b j ≡ word b j
  unfolding inode_word
  inode_low zero low =
      of_inode zero ∙ skip_second (has_slots b) (nat_le 90 j) (nat_lt j (90 + address_count b)) (to (word b j)) extent_word (lt-leb 90 j (omega (arith, low)))
      ∙ no_extent (inl low)

  pub inode_high : node_offset b ≡ 0 → 90 + address_count b ≤ j → moved_word to b j ≡ word b j
  unfolding inode_word
  inode_high zero high =
      of_inode zero ∙ skip_third (has_slots b) (nat_le 90 j) (nat_lt j (90 + address_count b)) (to (word b j)) extent_word (le-ltb j (90 + address_count b) high)
      ∙ no_extent (inr (omega (arith, high)))

  pub inode_filled : node_offset b ≡ 0 → has_slots b ≡ false → 90 ≤ j → moved_word to b j ≡ word b j
  unfolding inode_word
  inode_filled zero none high =
      of_inode zero ∙ skip_first (has_slots b) (nat_le 90 j) (nat_lt j (90 + address_count b)) (to (word b j)) extent_word none
      ∙ no_extent (inr high)

  pub inode_slot : node_offset b ≡ 0 → has_slots b ≡ true → 90 ≤ j → j < 90 + address_count b → moved_word to b j ≡ to (word b j)
  unfolding inode_word
  inode_slot zero slots high low =
      of_inode zero ∙ take_all (has_slots b) (nat_le 90 j) (nat_lt j (90 + address_count b)) (to (word b j)) extent_word slots (le-leb 90 j high) (lt-ltb j (90 + address_count b) low)

  -- the words of the extent
  pub extent_gone : node_offset b ≡ 0 → covers_moved to b ≡ true → 87 ≤ j → j < 90 → moved_word to b j ≡ 0
  unfolding inode_word extent_word
  extent_gone zero covers high low =
      of_inode zero ∙ skip_second (has_slots b) (nat_le 90 j) (nat_lt j (90 + address_count b)) (to (word b j)) extent_word (lt-leb 90 j low)
      ∙ take_all (nat_le 87 j) (nat_lt j 90) (covers_moved to b) 0 (word b j) (le-leb 87 j high) (lt-ltb j 90 low) covers

  pub extent_kept : node_offset b ≡ 0 → covers_moved to b ≡ false → 87 ≤ j → j < 90 → moved_word to b j ≡ word b j
  unfolding inode_word extent_word
  extent_kept zero free high low =
      of_inode zero ∙ skip_second (has_slots b) (nat_le 90 j) (nat_lt j (90 + address_count b)) (to (word b j)) extent_word (lt-leb 90 j low)
      ∙ skip_third (nat_le 87 j) (nat_lt j 90) (covers_moved to b) 0 (word b j) free

  -- ---- another node

  pub node_slot : (node_offset b ≡ 0 → ⊥) → is_direct (node_offset b) ≡ true → j < 1018 → moved_word to b j ≡ to (word b j)
  unfolding node_word
  node_slot away direct low = of_node away ∙ take_both (is_direct (node_offset b)) (nat_lt j 1018) (to (word b j)) (word b j) direct (lt-ltb j 1018 low)

  pub node_kept : (node_offset b ≡ 0 → ⊥) → is_direct (node_offset b) ≡ false → moved_word to b j ≡ word b j
  unfolding node_word
  node_kept away other = of_node away ∙ skip_front (is_direct (node_offset b)) (nat_lt j 1018) (to (word b j)) (word b j) other

  node_footer : (node_offset b ≡ 0 → ⊥) → 1018 ≤ j → moved_word to b j ≡ word b j
  unfolding node_word
  node_footer away high = of_node away ∙ skip_back (is_direct (node_offset b)) (nat_lt j 1018) (to (word b j)) (word b j) (le-ltb j 1018 high)

  -- the footer stays in each
  pub footer_word : 1018 ≤ j → moved_word to b j ≡ word b j
  footer_word high = go (node_offset b == 0) refl
    where
      go : (z : Bool) → (node_offset b == 0) ≡ z → moved_word to b j ≡ word b j
      go true z = let most = address_count-most b in inode_high (eqb-true (node_offset b) 0 z) (omega (arith, high, most))
      go false z = node_footer (λ e. false≢true (sym z ∙ eq-eqb (node_offset b) 0 e)) high

-- ---- the bytes that stay

module _ (to : ℕ → ℕ) (b c : Block) (m : IsMovedNode to b c) where
  pub front_agrees : node_offset b ≡ 0 → AgreeIn 0 348 b c
  front_agrees zero = words_agree b c m.old m.new 0 87 (λ j low high. m.words j (omega (arith, high)) ∙ inode_low to b j zero high)

  pub rest_agrees : node_offset b ≡ 0 → AgreeIn (4 * (90 + address_count b)) 4096 b c
  rest_agrees zero = words_agree b c m.old m.new (90 + address_count b) 1024 (λ j low high. m.words j high ∙ inode_high to b j zero low)

  pub filled_agrees : node_offset b ≡ 0 → has_slots b ≡ false → AgreeIn 360 4096 b c
  filled_agrees zero none = words_agree b c m.old m.new 90 1024 (λ j low high. m.words j high ∙ inode_filled to b j zero none low)

  pub extent_agrees : node_offset b ≡ 0 → covers_moved to b ≡ false → AgreeIn 348 360 b c
  extent_agrees zero free = words_agree b c m.old m.new 87 90 (λ j low high. m.words j (omega (arith, high)) ∙ extent_kept to b j zero free low high)

  pub node_agrees : (node_offset b ≡ 0 → ⊥) → is_direct (node_offset b) ≡ false → AgreeIn 0 4096 b c
  node_agrees away other = words_agree b c m.old m.new 0 1024 (λ j low high. m.words j high ∙ node_kept to b j away other)

  footer_agrees : AgreeIn 4072 4096 b c
  footer_agrees = words_agree b c m.old m.new 1018 1024 (λ j low high. m.words j high ∙ footer_word to b j low)

  pub footer_nid-moved : footer_nid c ≡ footer_nid b
  footer_nid-moved = number_same b c 4072 4 (narrow b c 4072 4096 4072 4076 footer_agrees (omega arith) (omega arith))

  pub footer_ino-moved : footer_ino c ≡ footer_ino b
  footer_ino-moved = number_same b c 4076 4 (narrow b c 4072 4096 4076 4080 footer_agrees (omega arith) (omega arith))

  pub node_offset-moved : node_offset c ≡ node_offset b
  node_offset-moved = ap (λ n. n / 8) (number_same b c 4080 4 (narrow b c 4072 4096 4080 4084 footer_agrees (omega arith) (omega arith)))
