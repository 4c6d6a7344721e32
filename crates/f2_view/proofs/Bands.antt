-- The blocks of a file in six bands: those that the inode's words name, and those under each of its five nids.
use Rattle.std.proofs.Common.{◌≡◌, ◌≢◌, ℕ, suc, ◌+◌, ◌-◌, ◌*◌, ◌/◌, ◌%◌, ◌^◌, ◌<◌, ◌≤◌, List, ◌++◌, true, cond, Option, Some, None, refl, sym, ap, ◌∙◌, arith, append_assoc}
use Rattle.std.specs.Prelude.{◌==◌, flat_map}
use Rattle.std.specs.Option.{option_map_or, option_and_then}
use Rattle.std.proofs.lemmas.Bool.{eq-eqb, ne_eqb, lt-ltb, le-ltb, lt-leb, cond-false}
use Rattle.f2_bytes.specs.Bytes.{Block, Image, word, numbers_below}
use Rattle.f2_bytes.specs.Directory.{Item, optional_block_items}
use Rattle.f2_bytes.specs.Node.{has_slots, address_count, address_word, inode_nid, locate, parent_of, offset_limit, block_limit, word_in}
use Rattle.f2_bytes.specs.Tree.{main_block, read_node, node_within, tree_node, tree_slot, nid_in}
use Rattle.f2_view.specs.Directories.{items_under, word_items, nid_items}
use Rattle.f2_view.proofs.Rows.{flat_map-parts, flat_map-same}
use Rattle.f2_view.proofs.TreeReads.{at_inode, one_step, slot_at}
use Rattle.f2_view.proofs.Walks.{number_under, under_walk}

-- ---- where a block of each band has its address

spot_is : (o s p q : ℕ) → o ≡ p → s ≡ q → ◌≡◌ {A = Option (ℕ × ℕ)} (Some (o, s)) (Some (p, q))
spot_is o s p q e f = λ t. Some (e t, f t)

module _ (n i : ℕ) where
  in_words : i < n → locate i n ≡ Some (0, i)
  unfolding locate
  in_words low = rw (lt-ltb i n low) refl

  in_first : i < 1018 → locate (n + i) n ≡ Some (1, i)
  unfolding locate
  in_first low = rw (le-ltb (n + i) n (omega arith), lt-ltb (n + i) (n + 1018) (omega (arith, low))) (spot_is 1 (n + i - n) 1 i refl (omega arith))

  in_second : i < 1018 → locate (n + 1018 + i) n ≡ Some (2, i)
  unfolding locate
  in_second low =
      rw (le-ltb (n + 1018 + i) n (omega arith), le-ltb (n + 1018 + i) (n + 1018) (omega arith), lt-ltb (n + 1018 + i) (n + 2036) (omega (arith, low)))
      (spot_is 2 (n + 1018 + i - n - 1018) 2 i refl (omega arith))

  in_third : i < 1018 ^ 2 → locate (n + 2036 + i) n ≡ Some (4 + i / 1018, i % 1018)
  unfolding locate
  in_third low =
      let p : n + 2036 + i - n - 2036 ≡ i = omega arith in
      rw (le-ltb (n + 2036 + i) n (omega arith), le-ltb (n + 2036 + i) (n + 1018) (omega arith), le-ltb (n + 2036 + i) (n + 2036) (omega arith), p, lt-ltb i (1018 ^ 2) low) refl

  in_fourth : i < 1018 ^ 2 → locate (n + 2036 + 1036324 + i) n ≡ Some (1023 + i / 1018, i % 1018)
  unfolding locate
  in_fourth low =
      let p : n + 2036 + 1036324 + i - n - 2036 ≡ 1036324 + i = omega arith in
      let q : 1036324 + i - 1036324 ≡ i = omega arith in
      rw (
        le-ltb (n + 2036 + 1036324 + i) n (omega arith),
        le-ltb (n + 2036 + 1036324 + i) (n + 1018) (omega arith),
        le-ltb (n + 2036 + 1036324 + i) (n + 2036) (omega arith),
        p,
        le-ltb (1036324 + i) 1036324 (omega arith),
        q,
        lt-ltb i (1018 ^ 2) low,
      ) refl

  in_fifth : i < 1018 ^ 3 → locate (n + 2036 + 2072648 + i) n ≡ Some (2043 + 1019 * (i / 1018 ^ 2) + i % 1018 ^ 2 / 1018, i % 1018)
  unfolding locate
  in_fifth low =
      let p : n + 2036 + 2072648 + i - n - 2036 ≡ 2072648 + i = omega arith in
      let q : 2072648 + i - 1036324 ≡ 1036324 + i = omega arith in
      let r : n + 2036 + 2072648 + i - n - 2036 - 2072648 ≡ i = omega arith in
      rw (
        le-ltb (n + 2036 + 2072648 + i) n (omega arith),
        le-ltb (n + 2036 + 2072648 + i) (n + 1018) (omega arith),
        le-ltb (n + 2036 + 2072648 + i) (n + 2036) (omega arith),
        r,
        p,
        le-ltb (2072648 + i) 1036324 (omega arith),
        q,
        le-ltb (1036324 + i) 1036324 (omega arith),
        lt-ltb i (1018 ^ 3) low,
      ) refl

-- ---- the nodes above

parent_third : (q : ℕ) → q < 1018 → Some (3, q) ≡ parent_of (4 + q)
unfolding parent_of
parent_third q low =
    sym (rw (ne_eqb (4 + q) 0 (λ e. omega (arith, e)), lt-leb (4 + q) 3 (omega arith), lt-ltb (4 + q) 1022 (omega (arith, low))) (spot_is 3 (4 + q - 4) 3 q refl (omega arith)))

parent_fourth : (q : ℕ) → q < 1018 → Some (1022, q) ≡ parent_of (1023 + q)
unfolding parent_of
parent_fourth q low =
    sym (rw (
      ne_eqb (1023 + q) 0 (λ e. omega (arith, e)),
      lt-leb (1023 + q) 3 (omega arith),
      le-ltb (1023 + q) 1022 (omega arith),
      ne_eqb (1023 + q) 1022 (λ e. omega (arith, e)),
      lt-ltb (1023 + q) 2041 (omega (arith, low)),
    ) (spot_is 1022 (1023 + q - 1023) 1022 q refl (omega arith)))

-- the offsets under the double indirect node
deep : (o : ℕ) → 2042 ≤ o → o < 1039384 → (r : Option (ℕ × ℕ))
    → cond ((o - 2042) % 1019 == 0) (Some (2041, (o - 2042) / 1019)) (Some (2042 + 1019 * ((o - 2042) / 1019), (o - 2042) % 1019 - 1)) ≡ r → parent_of o ≡ r
unfolding parent_of offset_limit
deep o from low r is =
    rw (
      ne_eqb o 0 (λ e. omega (arith, e, from)),
      lt-leb o 3 (omega (arith, from)),
      le-ltb o 1022 (omega (arith, from)),
      ne_eqb o 1022 (λ e. omega (arith, e, from)),
      le-ltb o 2041 (omega (arith, from)),
      ne_eqb o 2041 (λ e. omega (arith, e, from)),
      lt-ltb o 1039384 low,
    ) is

parent_indirect : (a : ℕ) → a < 1018 → Some (2041, a) ≡ parent_of (2042 + 1019 * a)
parent_indirect a low =
    let m : (2042 + 1019 * a - 2042) % 1019 ≡ 0 = omega arith in
    let d : (2042 + 1019 * a - 2042) / 1019 ≡ a = omega arith in
    sym (deep (2042 + 1019 * a) (omega arith) (omega (arith, low)) (Some (2041, a)) (rw (eq-eqb ((2042 + 1019 * a - 2042) % 1019) 0 m, d) refl))

parent_direct : (a c : ℕ) → a < 1018 → c < 1018 → Some (2042 + 1019 * a, c) ≡ parent_of (2043 + 1019 * a + c)
parent_direct a c low few =
    let m : (2043 + 1019 * a + c - 2042) % 1019 ≡ 1 + c = omega (arith, few) in
    let d : (2043 + 1019 * a + c - 2042) / 1019 ≡ a = omega (arith, few) in
    sym (deep (2043 + 1019 * a + c) (omega arith) (omega (arith, low, few)) (Some (2042 + 1019 * a, c))
    (rw (ne_eqb ((2043 + 1019 * a + c - 2042) % 1019) 0 (λ e. omega (arith, e, m)), m, d) (spot_is (2042 + 1019 * a) (1 + c - 1) (2042 + 1019 * a) c refl (omega arith))))

-- ---- what the nodes lead to

module _ (image : Image) where
  first_step : (w i s : ℕ) → s ≡ i → option_map_or (λ c. word c s) (read_node image w) 0 ≡ number_under image 1 w i
  unfolding number_under
  first_step w i s e =
      let whole : s ≡ i / 1 = omega (arith, e) in
      λ t. option_map_or (λ c. word c (whole t)) (read_node image w) 0

  two_steps : (w i q s : ℕ) → q ≡ i / 1018 → s ≡ i % 1018
      → option_map_or (λ c. word c s) (option_and_then (λ a. read_node image (word a q)) (read_node image w)) 0 ≡ number_under image 2 w i
  unfolding number_under
  two_steps w i q s row column = go (read_node image w)
    where
      go : (o : Option Block) → option_map_or (λ c. word c s) (option_and_then (λ a. read_node image (word a q)) o) 0 ≡ option_map_or (λ a. number_under image 1 (word a (i / 1018)) (i % 1018)) o 0
      go None = refl
      go (Some a) = first_step (word a q) (i % 1018) s column ∙ λ t. number_under image 1 (word a (row t)) (i % 1018)

  three_steps : (w i q p s : ℕ) → q ≡ i / 1018 ^ 2 → p ≡ i % 1018 ^ 2 / 1018 → s ≡ i % 1018 ^ 2 % 1018
      → option_map_or (λ c. word c s) (option_and_then (λ a. read_node image (word a p)) (option_and_then (λ a. read_node image (word a q)) (read_node image w))) 0 ≡ number_under image 3 w i
  unfolding number_under
  three_steps w i q p s far row column = go (read_node image w)
    where
      go : (o : Option Block) → option_map_or (λ c. word c s) (option_and_then (λ a. read_node image (word a p)) (option_and_then (λ a. read_node image (word a q)) o)) 0
          ≡ option_map_or (λ a. number_under image 2 (word a (i / 1018 ^ 2)) (i % 1018 ^ 2)) o 0
      go None = refl
      go (Some a) = two_steps (word a q) (i % 1018 ^ 2) p s row column ∙ λ t. number_under image 2 (word a (far t)) (i % 1018 ^ 2)

  -- a word of a node below the inode
  in_node : (o s : ℕ) → o ≢ 0 → (node : Option Block) → word_in (o, s) node ≡ option_map_or (λ c. word c s) node 0
  in_node o s other None = refl
  in_node o s other (Some c) = cond-false (o == 0) (address_word c s) (word c s) (ne_eqb o 0 other)

  module _ (ino : ℕ) (inode : Block) (is : read_node image ino ≡ Some inode) where
    under_inode : (n o j : ℕ) → o ≢ 0 → Some (0, j) ≡ parent_of o → node_within (suc n) image ino o ≡ read_node image (inode_nid inode j)
    under_inode n o j other parent =
        one_step image ino (suc n) n o (0, j) refl other parent
        ∙ ap (option_and_then (λ above. read_node image (nid_in (0, j) above))) (at_inode image ino n 0 refl ∙ is)

    under_node : (n o p j : ℕ) → o ≢ 0 → p ≢ 0 → Some (p, j) ≡ parent_of o → (above : Option Block) → node_within n image ino p ≡ above
        → node_within (suc n) image ino o ≡ option_and_then (λ a. read_node image (word a j)) above
    under_node n o p j other below parent above there =
        one_step image ino (suc n) n o (p, j) refl other parent
        ∙ ap (option_and_then (λ a. read_node image (nid_in (p, j) a))) there
        ∙ λ t. option_and_then (λ a. read_node image (cond-false (p == 0) (inode_nid a j) (word a j) (ne_eqb p 0 below) t)) above

    module _ (slots : has_slots inode ≡ true) where
      n : ℕ
      n = address_count inode

      at_spot : (k : ℕ) (spot : ℕ × ℕ) → locate k n ≡ Some spot → tree_slot image ino k ≡ word_in spot (tree_node image ino spot.0)
      unfolding n
      at_spot k spot located = slot_at image ino k inode (Some spot) is slots (sym located)

      slot_words : (i : ℕ) → i < n → tree_slot image ino i ≡ address_word inode i
      slot_words i low = at_spot i (0, i) (in_words n i low) ∙ ap (word_in (0, i)) (at_inode image ino 3 0 refl ∙ is)

      slot_first : (i : ℕ) → i < 1018 → tree_slot image ino (n + i) ≡ number_under image 1 (inode_nid inode 0) i
      unfolding parent_of
      slot_first i low =
          at_spot (n + i) (1, i) (in_first n i low)
          ∙ in_node 1 i (λ e. omega (arith, e)) (tree_node image ino 1)
          ∙ ap (λ o. option_map_or (λ c. word c i) o 0) (under_inode 2 1 0 (λ e. omega (arith, e)) refl)
          ∙ first_step (inode_nid inode 0) i i refl

      slot_second : (i : ℕ) → i < 1018 → tree_slot image ino (n + 1018 + i) ≡ number_under image 1 (inode_nid inode 1) i
      unfolding parent_of
      slot_second i low =
          at_spot (n + 1018 + i) (2, i) (in_second n i low)
          ∙ in_node 2 i (λ e. omega (arith, e)) (tree_node image ino 2)
          ∙ ap (λ o. option_map_or (λ c. word c i) o 0) (under_inode 2 2 1 (λ e. omega (arith, e)) refl)
          ∙ first_step (inode_nid inode 1) i i refl

      slot_third : (i : ℕ) → i < 1018 ^ 2 → tree_slot image ino (n + 2036 + i) ≡ number_under image 2 (inode_nid inode 2) i
      unfolding parent_of
      slot_third i low =
          let q = i / 1018 in
          let few : i / 1018 < 1018 = omega (arith, low) in
          at_spot (n + 2036 + i) (4 + q, i % 1018) (in_third n i low)
          ∙ in_node (4 + q) (i % 1018) (λ e. omega (arith, e)) (tree_node image ino (4 + q))
          ∙ ap (λ o. option_map_or (λ c. word c (i % 1018)) o 0)
          (under_node 2 (4 + q) 3 q (λ e. omega (arith, e)) (λ e. omega (arith, e)) (parent_third q few) (read_node image (inode_nid inode 2)) (under_inode 1 3 2 (λ e. omega (arith, e)) refl))
          ∙ two_steps (inode_nid inode 2) i q (i % 1018) refl refl

      slot_fourth : (i : ℕ) → i < 1018 ^ 2 → tree_slot image ino (n + 2036 + 1036324 + i) ≡ number_under image 2 (inode_nid inode 3) i
      unfolding parent_of
      slot_fourth i low =
          let q = i / 1018 in
          let few : i / 1018 < 1018 = omega (arith, low) in
          at_spot (n + 2036 + 1036324 + i) (1023 + q, i % 1018) (in_fourth n i low)
          ∙ in_node (1023 + q) (i % 1018) (λ e. omega (arith, e)) (tree_node image ino (1023 + q))
          ∙ ap (λ o. option_map_or (λ c. word c (i % 1018)) o 0)
          (under_node 2 (1023 + q) 1022 q (λ e. omega (arith, e)) (λ e. omega (arith, e)) (parent_fourth q few) (read_node image (inode_nid inode 3)) (under_inode 1 1022 3 (λ e. omega (arith, e)) refl))
          ∙ two_steps (inode_nid inode 3) i q (i % 1018) refl refl

      slot_fifth : (i : ℕ) → i < 1018 ^ 3 → tree_slot image ino (n + 2036 + 2072648 + i) ≡ number_under image 3 (inode_nid inode 4) i
      unfolding parent_of
      slot_fifth i low =
          let a = i / 1018 ^ 2 in
          let c = i % 1018 ^ 2 / 1018 in
          let o = 2043 + 1019 * a + c in
          let p = 2042 + 1019 * a in
          let few : i / 1018 ^ 2 < 1018 = omega (arith, low) in
          let small : i % 1018 ^ 2 / 1018 < 1018 = omega arith in
          let column : i % 1018 ≡ i % 1018 ^ 2 % 1018 = omega arith in
          let nid = inode_nid inode 4 in
          let far = under_node 1 p 2041 a (λ e. omega (arith, e)) (λ e. omega (arith, e)) (parent_indirect a few) (read_node image nid) (under_inode 0 2041 4 (λ e. omega (arith, e)) refl) in
          at_spot (n + 2036 + 2072648 + i) (o, i % 1018) (in_fifth n i low)
          ∙ in_node o (i % 1018) (λ e. omega (arith, e)) (tree_node image ino o)
          ∙ ap (λ x. option_map_or (λ b. word b (i % 1018)) x 0)
          (under_node 2 o p c (λ e. omega (arith, e)) (λ e. omega (arith, e)) (parent_direct a c few small) (option_and_then (λ b. read_node image (word b a)) (read_node image nid)) far)
          ∙ three_steps nid i a c (i % 1018) refl refl column

      -- ---- band after band

      module _ (hole : main_block image 0 ≡ None) where
        at : ℕ → List Item
        at k = optional_block_items k (main_block image (tree_slot image ino k))

        band : (h first nid : ℕ) → ((i : ℕ) → i < 1018 ^ h → tree_slot image ino (first + i) ≡ number_under image h nid i)
            → flat_map (λ i. at (first + i)) (numbers_below (1018 ^ h)) ≡ items_under image h first nid
        unfolding at
        band h first nid same =
            flat_map-same (λ i. at (first + i)) (λ i. optional_block_items (first + i) (main_block image (number_under image h nid i))) (1018 ^ h)
            (λ i low. ap (λ a. optional_block_items (first + i) (main_block image a)) (same i low))
            ∙ under_walk image hole h first nid

        words : flat_map at (numbers_below n) ≡ word_items image inode
        unfolding at n items_under
        words = flat_map-same at (λ j. items_under image 0 j (address_word inode j)) n (λ j low. ap (λ a. optional_block_items j (main_block image a)) (slot_words j low))

        after_first : flat_map at (numbers_below (n + 1018)) ≡ word_items image inode ++ items_under image 1 n (inode_nid inode 0)
        after_first = flat_map-parts at n 1018 ∙ λ t. words t ++ band 1 n (inode_nid inode 0) slot_first t

        after_second : flat_map at (numbers_below (n + 2036)) ≡ (word_items image inode ++ items_under image 1 n (inode_nid inode 0)) ++ items_under image 1 (n + 1018) (inode_nid inode 1)
        after_second =
            ap (λ k. flat_map at (numbers_below k)) (let two : n + 2036 ≡ n + 1018 + 1018 = omega arith in two)
            ∙ flat_map-parts at (n + 1018) 1018
            ∙ λ t. after_first t ++ band 1 (n + 1018) (inode_nid inode 1) slot_second t

        directs : List Item
        directs = (word_items image inode ++ items_under image 1 n (inode_nid inode 0)) ++ items_under image 1 (n + 1018) (inode_nid inode 1)

        after_third : flat_map at (numbers_below (n + 2036 + 1036324)) ≡ directs ++ items_under image 2 (n + 2036) (inode_nid inode 2)
        unfolding directs
        after_third = flat_map-parts at (n + 2036) 1036324 ∙ λ t. after_second t ++ band 2 (n + 2036) (inode_nid inode 2) slot_third t

        after_fourth : flat_map at (numbers_below (n + 2036 + 2072648)) ≡ (directs ++ items_under image 2 (n + 2036) (inode_nid inode 2)) ++ items_under image 2 (n + 2036 + 1036324) (inode_nid inode 3)
        after_fourth =
            ap (λ k. flat_map at (numbers_below k)) (let two : n + 2036 + 2072648 ≡ n + 2036 + 1036324 + 1036324 = omega arith in two)
            ∙ flat_map-parts at (n + 2036 + 1036324) 1036324
            ∙ λ t. after_third t ++ band 2 (n + 2036 + 1036324) (inode_nid inode 3) slot_fourth t

        -- the items of all blocks of the file
        pub blocks_walk : flat_map (λ k. optional_block_items k (main_block image (tree_slot image ino k))) (numbers_below (block_limit (address_count inode))) ≡ word_items image inode ++ nid_items image inode
        unfolding at n directs
        blocks_walk =
            flat_map-parts at (n + 2036 + 2072648) (1018 ^ 3)
            ∙ (λ t. after_fourth t ++ band 3 (n + 2036 + 2072648) (inode_nid inode 4) slot_fifth t)
            ∙ simp append_assoc
