-- The words of a node after moves, and after more of them.
use Rattle.std.proofs.Common.{◌≡◌, ℕ, ◌+◌, ◌/◌, ◌<◌, ◌≤◌, List, ◌++◌, Bool, true, false, ◌==◌, ◌&&◌, ◌||◌, not, nat_le, nat_lt, cond, refl, sym, ap, ◌∙◌, arith}
use Rattle.std.specs.List.{list_any}
use Rattle.std.proofs.lemmas.Bool.{eq-eqb, eqb-true, ne_eqb, le-ltb, lt-leb, false≢true}
use Rattle.f2_bytes.specs.Bytes.{Block, word, has_bit}
use Rattle.f2_bytes.specs.Node.{node_offset, mode, inline_flags, has_slots, is_direct, address_count, ext_addr, ext_len}
use Rattle.f2_bytes.specs.Defragment.{is_covered}
use Rattle.f2_bytes.proofs.MovedWords.{address_count-most}
use Rattle.f2_bytes.proofs.SameBytes.{AgreeIn, words_agree, narrow, number_same}
use Rattle.f2_commit.specs.Following.{Move, place_after, leaves_extent, followed_word, IsFollowedNode}
use Rattle.f2_commit.proofs.FollowMoves.{place_after-append, leaves_extent-append}

-- a word that is chosen by tests
third_fails : (a b c : Bool) (x y : ℕ) → c ≡ false → cond (a && b && c) x y ≡ y
third_fails true true c x y none = rw none refl
third_fails true false c x y none = refl
third_fails false b c x y none = refl

second_fails : (a b c : Bool) (x y : ℕ) → b ≡ false → cond (a && b && c) x y ≡ y
second_fails true b c x y none = rw none refl
second_fails false b c x y none = refl

last_fails : (a b : Bool) (x y : ℕ) → b ≡ false → cond (a && b) x y ≡ y
last_fails true b x y none = rw none refl
last_fails false b x y none = refl

first_fails : (a b c : Bool) (x y : ℕ) → a ≡ false → cond (a && b && c) x y ≡ y
first_fails a b c x y none = rw none refl

module _ (moves : List Move) (b : Block) (j : ℕ) where
  pub extent_word : ℕ
  extent_word = cond (nat_le 87 j && nat_lt j 90 && leaves_extent moves b) 0 (word b j)

  pub inode_word : ℕ
  inode_word = cond (has_slots b && nat_le 90 j && nat_lt j (90 + address_count b)) (place_after moves (word b j)) extent_word

  pub node_word : ℕ
  node_word = cond (is_direct (node_offset b) && nat_lt j 1018) (place_after moves (word b j)) (word b j)

  pub of_inode : node_offset b ≡ 0 → followed_word moves b j ≡ inode_word
  unfolding followed_word inode_word extent_word node_word
  of_inode zero = ap (λ z. cond z inode_word node_word) (eq-eqb (node_offset b) 0 zero)

  pub of_node : (node_offset b ≡ 0 → ⊥) → followed_word moves b j ≡ node_word
  unfolding followed_word inode_word extent_word node_word
  of_node away = ap (λ z. cond z inode_word node_word) (ne_eqb (node_offset b) 0 away)

  -- the footer stays
  pub footer_stays : 1018 ≤ j → followed_word moves b j ≡ word b j
  unfolding inode_word extent_word node_word
  footer_stays high = go (node_offset b == 0) refl
    where
      go : (z : Bool) → (node_offset b == 0) ≡ z → followed_word moves b j ≡ word b j
      go true z =
          let most = address_count-most b in
          of_inode (eqb-true (node_offset b) 0 z)
          ∙ third_fails (has_slots b) (nat_le 90 j) (nat_lt j (90 + address_count b)) (place_after moves (word b j)) extent_word (le-ltb j (90 + address_count b) (omega (arith, high, most)))
          ∙ second_fails (nat_le 87 j) (nat_lt j 90) (leaves_extent moves b) 0 (word b j) (le-ltb j 90 (omega (arith, high)))
      go false z = of_node (λ e. false≢true (sym z ∙ eq-eqb (node_offset b) 0 e)) ∙ last_fails (is_direct (node_offset b)) (nat_lt j 1018) (place_after moves (word b j)) (word b j) (le-ltb j 1018 high)

  -- so do the words of an inode before its extent
  pub front_stays : node_offset b ≡ 0 → j < 87 → followed_word moves b j ≡ word b j
  unfolding inode_word extent_word
  front_stays zero low =
      of_inode zero
      ∙ second_fails (has_slots b) (nat_le 90 j) (nat_lt j (90 + address_count b)) (place_after moves (word b j)) extent_word (lt-leb 90 j (omega (arith, low)))
      ∙ first_fails (nat_le 87 j) (nat_lt j 90) (leaves_extent moves b) 0 (word b j) (lt-leb 87 j low)

  -- and an extent that no block left
  pub extent_stays : node_offset b ≡ 0 → leaves_extent moves b ≡ false → j < 90 → followed_word moves b j ≡ word b j
  unfolding inode_word extent_word
  extent_stays zero none low =
      of_inode zero
      ∙ second_fails (has_slots b) (nat_le 90 j) (nat_lt j (90 + address_count b)) (place_after moves (word b j)) extent_word (lt-leb 90 j low)
      ∙ third_fails (nat_le 87 j) (nat_lt j 90) (leaves_extent moves b) 0 (word b j) none

-- what mode and flags say
slots_by : ℕ → ℕ → Bool
slots_by m f = ((m / 4096 == 8) || (m / 4096 == 10) || (m / 4096 == 4)) && not ((((m / 4096 == 8) || (m / 4096 == 10)) && has_bit f 1) || ((m / 4096 == 4) && has_bit f 2))

count_by_flags : ℕ → ℕ
count_by_flags f = cond (has_bit f 0 || has_bit f 2) 873 923

module _ (moves : List Move) (b c : Block) (m : IsFollowedNode moves b c) where
  pub same_offset : node_offset c ≡ node_offset b
  same_offset =
      ap (λ n. n / 8) (number_same b c 4080 4
      (narrow b c 4072 4096 4080 4084 (words_agree b c m.block m.new_block 1018 1024 (λ j low high. m.words j high ∙ footer_stays moves b j low)) (omega arith) (omega arith)))

  module _ (zero : node_offset b ≡ 0) where
    front : AgreeIn 0 348 b c
    front = words_agree b c m.block m.new_block 0 87 (λ j low high. m.words j (omega (arith, high)) ∙ front_stays moves b j zero high)

    same_mode : mode c ≡ mode b
    same_mode = number_same b c 0 2 (narrow b c 0 348 0 2 front (omega arith) (omega arith))

    same_flags : inline_flags c ≡ inline_flags b
    same_flags = number_same b c 3 1 (narrow b c 0 348 3 4 front (omega arith) (omega arith))

    pub same_slots : has_slots c ≡ has_slots b
    unfolding slots_by
    same_slots = λ i. slots_by (same_mode i) (same_flags i)

    pub same_count : address_count c ≡ address_count b
    unfolding address_count count_by_flags
    same_count = ap count_by_flags same_flags

    pub same_leaves : (more : List Move) → leaves_extent moves b ≡ false → leaves_extent more c ≡ leaves_extent more b
    unfolding leaves_extent
    same_leaves more none =
        let agree : AgreeIn 348 360 b c = words_agree b c m.block m.new_block 87 90 (λ j low high. m.words j (omega (arith, high)) ∙ extent_stays moves b j zero none high) in
        let address : ext_addr c ≡ ext_addr b = number_same b c 352 4 (narrow b c 348 360 352 356 agree (omega arith) (omega arith)) in
        let len : ext_len c ≡ ext_len b = number_same b c 356 4 (narrow b c 348 360 356 360 agree (omega arith) (omega arith)) in
        λ i. (same_mode i / 4096 == 8) && list_any (λ (move : Move). is_covered (address i, len i) move.from) more

-- ---- two times

module _ (xs ys : List Move) (b c d : Block) (first : IsFollowedNode xs b c) (second : IsFollowedNode ys c d) where
  -- a word of an address
  twice : (a : ℕ) → word c a ≡ place_after xs (word b a) → place_after ys (word c a) ≡ place_after (xs ++ ys) (word b a)
  twice a is = ap (place_after ys) is ∙ sym (place_after-append xs ys (word b a))

  -- the words of an inode
  module _ (zero : node_offset b ≡ 0) (j : ℕ) (low : j < 1024) where
    abbrev is_slot : Bool
    is_slot = has_slots b && nat_le 90 j && nat_lt j (90 + address_count b)

    -- a word of the extent or one that stays, by what the first moves left of it
    extent_twice : (x y : Bool) → leaves_extent xs b ≡ x → leaves_extent ys b ≡ y → (at : Bool) → word c j ≡ cond (at && x) 0 (word b j) → cond (at && leaves_extent ys c) 0 (word c j) ≡ cond (at && (x || y)) 0 (word b j)
    extent_twice true y left more true is = ap (λ w. cond (leaves_extent ys c) 0 w) is ∙ both (leaves_extent ys c)
      where
        both : (v : Bool) → ◌≡◌ {A = ℕ} (cond v 0 0) 0
        both true = refl
        both false = refl
    extent_twice false y left more true is = (λ i. cond ((same_leaves xs b c first zero ys left ∙ more) i) 0 (is i))
    extent_twice x y left more false is = is

    by_slot : (slot : Bool) → is_slot ≡ slot → inode_word ys c j ≡ inode_word (xs ++ ys) b j
    unfolding inode_word extent_word
    by_slot true is =
        ap (λ t. cond t (place_after ys (word c j)) (extent_word ys c j)) (slot_there ∙ is)
        ∙ twice j (first.words j low ∙ of_inode xs b j zero ∙ ap (λ t. cond t (place_after xs (word b j)) (extent_word xs b j)) is)
        ∙ sym (ap (λ t. cond t (place_after (xs ++ ys) (word b j)) (extent_word (xs ++ ys) b j)) is)
      where
        slot_there : (has_slots c && nat_le 90 j && nat_lt j (90 + address_count c)) ≡ (has_slots b && nat_le 90 j && nat_lt j (90 + address_count b))
        slot_there = λ i. same_slots xs b c first zero i && nat_le 90 j && nat_lt j (90 + same_count xs b c first zero i)
    by_slot false is =
        ap (λ t. cond t (place_after ys (word c j)) (extent_word ys c j)) (slot_there ∙ is)
        ∙ extent_twice (leaves_extent xs b) (leaves_extent ys b) refl refl (nat_le 87 j && nat_lt j 90)
        (first.words j low ∙ of_inode xs b j zero ∙ ap (λ t. cond t (place_after xs (word b j)) (extent_word xs b j)) is)
        ∙ sym (ap (λ v. cond (nat_le 87 j && nat_lt j 90 && v) 0 (word b j)) (leaves_extent-append xs ys b))
        ∙ sym (ap (λ t. cond t (place_after (xs ++ ys) (word b j)) (extent_word (xs ++ ys) b j)) is)
      where
        slot_there : (has_slots c && nat_le 90 j && nat_lt j (90 + address_count c)) ≡ (has_slots b && nat_le 90 j && nat_lt j (90 + address_count b))
        slot_there = λ i. same_slots xs b c first zero i && nat_le 90 j && nat_lt j (90 + same_count xs b c first zero i)

    pub inode_twice : followed_word ys c j ≡ followed_word (xs ++ ys) b j
    inode_twice = of_inode ys c j (same_offset xs b c first ∙ zero) ∙ by_slot is_slot refl ∙ sym (of_inode (xs ++ ys) b j zero)

  -- the words of another node
  node_twice : (node_offset b ≡ 0 → ⊥) → (j : ℕ) → j < 1024 → followed_word ys c j ≡ followed_word (xs ++ ys) b j
  unfolding node_word
  node_twice away j low =
      of_node ys c j (λ e. away (sym (same_offset xs b c first) ∙ e))
      ∙ ap (λ o. cond (is_direct o && nat_lt j 1018) (place_after ys (word c j)) (word c j)) (same_offset xs b c first)
      ∙ go (is_direct (node_offset b) && nat_lt j 1018) (first.words j low ∙ of_node xs b j away)
      ∙ sym (of_node (xs ++ ys) b j away)
    where
      go : (t : Bool) → word c j ≡ cond t (place_after xs (word b j)) (word b j) → cond t (place_after ys (word c j)) (word c j) ≡ cond t (place_after (xs ++ ys) (word b j)) (word b j)
      go true is = twice j is
      go false is = is

  pub node_followed_twice : IsFollowedNode (xs ++ ys) b d
  node_followed_twice = record {
    block = first.block;
    new_block = second.new_block;
    words = λ j low. second.words j low ∙ by_offset j low (node_offset b == 0) refl;
  }
    where
      by_offset : (j : ℕ) → j < 1024 → (z : Bool) → (node_offset b == 0) ≡ z → followed_word ys c j ≡ followed_word (xs ++ ys) b j
      by_offset j low true z = inode_twice (eqb-true (node_offset b) 0 z) j low
      by_offset j low false z = node_twice (λ e. false≢true (sym z ∙ eq-eqb (node_offset b) 0 e)) j low
