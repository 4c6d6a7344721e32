-- A mended image meets the rule on directories.
use Rattle.std.proofs.Common.{◌≡◌, inl, inr, ℕ, zero, suc, ◌*◌, ◌/◌, ◌<◌, List, [], ◌∷◌, ◌++◌, Bool, true, false, ◌==◌, ◌&&◌, ◌||◌, not, cond, get_or, length, Option, Some, None, subst, refl, sym, ap, ◌∙◌, arith}
use Rattle.std.specs.Prelude.{flat_map, option_and_then, unwrap_or}
use Rattle.std.specs.Option.{option_map_or}
use Rattle.std.specs.List.{list_any}
use Rattle.std.proofs.lemmas.Bool.{and_parts, or_cases, not-false, false≢true}
use Rattle.f2_bytes.specs.Bytes.{Block, Image, numbers_below}
use Rattle.f2_bytes.specs.Journal.{is_mountable}
use Rattle.f2_bytes.specs.Buckets.{bucket_of, bucket_of_block, level_of_block}
use Rattle.f2_bytes.specs.Directory.{block_slots}
use Rattle.f2_bytes.specs.Names.{name_hash, dot, dot_dot}
use Rattle.f2_bytes.specs.Node.{dir_level, current_depth, size, is_inline, is_directory, most_blocks}
use Rattle.f2_bytes.specs.RollForward.{node_block}
use Rattle.f2_bytes.specs.Tree.{tree_items}
use Rattle.f2_bytes.specs.Check.{Part, Comparison, Reading, defect_of, defects_at, part_defects, same, at_least, fails_where, where_true, of_value, legal_item_at, first_named, one_past, dots_comparison, nids, only_directory, directory_in, block_directory_in, item_at, item_parts, tree_reading, directory_parts, none_value, is_rule_met, defects}
use Rattle.f2_bytes.proofs.Below.{length-numbers_below, get_or-numbers_below}
use Rattle.f2_bytes.proofs.CheckLaws.{filter_map_nil, clear_from}
use Rattle.f2_bytes.proofs.CheckedChain.{length-nil}
use Rattle.f2_bytes.proofs.CheckedNodes.{no_part}
use Rattle.f2_bytes.proofs.PartsHold.{Holds, value_holds, met_of}
use Rattle.f2_bytes.specs.SalvagedFiles.{is_file, is_directory_file}
use Rattle.f2_bytes.specs.LostFiles.{is_made}
use Rattle.f2_bytes.specs.RebuiltDirectories.{is_rebuilt, file_inode, salvage_reading, has_wrong_items, has_its_names}
use Rattle.f2_bytes.specs.Mending.{is_salvaged_directory}
use Rattle.f2_bytes.specs.FilePlaces.{inode_at}
use Rattle.f2_bytes.specs.Mended.{KeepsInode, HoldsNames, mended_dot_dot, IsMended}
use Rattle.f2_mend.proofs.KeptItems as keeping
use Rattle.f2_mend.proofs.MendedDirectories.{directory_from, same_kind}
use Rattle.f2_mend.proofs.MendedNames.{HasNames, same_parent}
use Rattle.f2_mend.proofs.MendedReads.{file_block, directory_says}
use Rattle.f2_mend.proofs.RebuiltItems as building
use Rattle.f2_bytes.specs.Salvage.{names_in_directory}
use Rattle.f2_mend.specs.Laws.{NamesFormTree}

-- ---- a part without defect at a number

none_of_cond : {A : Type 0} (b : Bool) (x : A) → cond b (Some x) None ≡ None → b ≡ false
none_of_cond true x e = absurd (cc e)
none_of_cond false x e = refl

pub holds_at : (p : Part) (a b : ℕ) → defects_at p a ≡ [] → b < p.second_limit a → Holds (p.comparison a b)
unfolding defects_at
holds_at p a b none inside c is =
    let of = λ (k : ℕ). defect_of p.number a k (p.comparison a k) in
    let at_b : of (get_or (numbers_below (p.second_limit a)) b 0) ≡ None = filter_map_nil of (numbers_below (p.second_limit a)) none b 0 (rw length-numbers_below inside) in
    let found : of b ≡ None = sym (ap of (get_or-numbers_below (p.second_limit a) b 0 inside)) ∙ at_b in
    none_of_cond c.fails (record { part = p.number; a = a; b = b; found = c.found; wanted = c.wanted }) (sym (ap (defect_of p.number a b) is) ∙ found)

any_false : {A : Type 0} (q : A → Bool) (xs : List A) → list_any q xs ≡ false → (k : ℕ) (d : A) → k < length xs → q (get_or xs k d) ≡ false
any_false q [] none k d low = absurd (omega (arith, low))
any_false q (x ∷ xs) none zero d low = first (q x) none
  where
    first : (b : Bool) → (b || list_any q xs) ≡ false → b ≡ false
    first true e = e
    first false e = refl
any_false q (x ∷ xs) none (suc k) d low = any_false q xs (rest (q x) none) k d (omega (arith, low))
  where
    rest : (b : Bool) → (b || list_any q xs) ≡ false → list_any q xs ≡ false
    rest true e = absurd (false≢true (sym e))
    rest false e = e

-- ---- a directory that is kept

or_left_false : (a b : Bool) → (a || b) ≡ false → a ≡ false
or_left_false true b e = e
or_left_false false b e = refl

or_right_false : (a b : Bool) → (a || b) ≡ false → b ≡ false
or_right_false true b e = absurd (false≢true (sym e))
or_right_false false b e = e

-- its items are right, and they are its names
pub kept_says : (image : Image) (d : ℕ) → is_rebuilt image d ≡ false → is_directory_file image d ≡ true → (has_wrong_items image d ≡ false) × (has_its_names image d ≡ true)
unfolding is_rebuilt
kept_says image d kept dir =
    let second : (is_directory_file image d && (has_wrong_items image d || not (has_its_names image d))) ≡ false = or_right_false (is_made image d) _ kept in
    let both : (has_wrong_items image d || not (has_its_names image d)) ≡ false = sym (ap (λ b. b && (has_wrong_items image d || not (has_its_names image d))) dir) ∙ second in
    (or_left_false (has_wrong_items image d) _ both, not-false _ (or_right_false (has_wrong_items image d) _ both))

pub kept_clear : (image : Image) (d : ℕ) → is_rebuilt image d ≡ false → is_directory_file image d ≡ true → (k : ℕ) → k < length (item_parts (nids image) (salvage_reading image))
    → defects_at (get_or (item_parts (nids image) (salvage_reading image)) k no_part) d ≡ []
kept_clear image d kept dir k low =
    length-nil _ (not-false _ (any_false (λ p. not (length (defects_at p d) == 0)) (item_parts (nids image) (salvage_reading image)) (kept_says image d kept dir).0 k no_part low))

module _ (image other : Image) (h : is_mountable image ≡ true) (m : IsMended image other) (t : NamesFormTree image) (has : (d : ℕ) → is_salvaged_directory image d ≡ true → HasNames image other d) where
  abbrev reading : Reading
  reading = tree_reading other

  abbrev high : ℕ
  high = nids other

  -- `..` is wanted to name the directory above
  abbrev wanted_above : ℕ → ℕ
  wanted_above d = cond (d == 3) 3 (unwrap_or (reading.parent d) none_value)

  same_above : (d : ℕ) → wanted_above d ≡ mended_dot_dot image d
  unfolding tree_reading
  same_above d = ap (λ o. cond (d == 3) 3 (unwrap_or o none_value)) (same_parent image other h m t has d)

  same_above_old : (d : ℕ) → wanted_above d ≡ cond (d == 3) 3 (unwrap_or ((salvage_reading image).parent d) none_value)
  unfolding salvage_reading
  same_above_old d = same_above d

  same_kinds : (k : ℕ) → reading.kind k ≡ (salvage_reading image).kind k
  unfolding tree_reading
  same_kinds k = same_kind image other h m k

  module _ (d : ℕ) (c : Block) (is : directory_in high reading d ≡ Some c) where
    from : (is_salvaged_directory image d ≡ true) × (c ≡ inode_at m.places other d)
    unfolding tree_reading
    from = directory_from image other h m d c is

    -- ---- rebuilt

    holds_names : is_rebuilt image d ≡ true → HoldsNames (reading.kind) d (mended_dot_dot image d) (names_in_directory image d) c (reading.items d)
    unfolding tree_reading
    holds_names rebuilt =
        let kinds : (salvage_reading image).kind ≡ reading.kind = λ i k. sym (same_kinds k) i in
        subst (λ b. HoldsNames (reading.kind) d (mended_dot_dot image d) (names_in_directory image d) b (tree_items other d)) (sym from.1)
        (subst (λ f. HoldsNames f d (mended_dot_dot image d) (names_in_directory image d) (inode_at m.places other d) (tree_items other d)) kinds (m.rebuilt d rebuilt))

    -- ---- kept

    old_directory : is_rebuilt image d ≡ false → is_directory_file image d ≡ true
    unfolding is_rebuilt
    old_directory kept = elim (or_cases (is_directory_file image d) (is_made image d) from.0) [
      | inl old ↦ old
      | inr made ↦ absurd (false≢true (sym (or_left_false (is_made image d) _ kept) ∙ made))
    ]

    old_file : is_rebuilt image d ≡ false → is_file image d ≡ true
    old_file kept = (and_parts _ _ (old_directory kept)).0

    old_block : (kept : is_rebuilt image d ≡ false) → (b : Block) × (node_block image d ≡ Some b) × (directory_in (nids image) (salvage_reading image) d ≡ Some b) × KeepsInode b c
    unfolding salvage_reading
    old_block kept =
        let file = old_file kept in
        let b = file_block image d file in
        let dir : is_directory b.0 ≡ true = sym (directory_says image d b.0 file b.1) ∙ old_directory kept in
        let here : file_inode image d ≡ Some b.0 = rw (file, b.1) refl in
        let only : only_directory (Some b.0) ≡ Some b.0 = rw dir refl in
        (b.0, b.1, ap only_directory here ∙ only, subst (λ x. KeepsInode b.0 x) (sym from.1) (m.kept_inodes d b.0 file kept b.1))

    same_items : is_rebuilt image d ≡ false → reading.items d ≡ (salvage_reading image).items d
    unfolding tree_reading salvage_reading
    same_items kept = keeping.items_kept image other h m d (old_file kept) kept

    salvage_holds : (kept : is_rebuilt image d ≡ false) (k place : ℕ) → k < 9 → place < (get_or (item_parts (nids image) (salvage_reading image)) k no_part).second_limit d → Holds ((get_or (item_parts (nids image) (salvage_reading image)) k no_part).comparison d place)
    unfolding item_parts
    salvage_holds kept k place low inside = holds_at (get_or (item_parts (nids image) (salvage_reading image)) k no_part) d place (kept_clear image d kept (old_directory kept) k low) inside

  -- ---- each comparison

  no_item : (d place : ℕ) → directory_in high reading d ≡ None → item_at high reading d place ≡ None
  unfolding item_at
  no_item d place none = rw none refl

  no_legal : (d place : ℕ) → directory_in high reading d ≡ None → legal_item_at high reading d place ≡ None
  no_legal d place none = ap (option_and_then (λ item. cond item.is_legal (Some item) None)) (no_item d place none)

  no_blocks : (d : ℕ) → directory_in high reading d ≡ None → block_directory_in high reading d ≡ None
  no_blocks d none = ap (option_and_then (λ b. cond (is_inline b) None (Some b))) none

  no_value : {A : Type 0} (o : Option A) (f : A → Option Comparison) → o ≡ None → Holds (of_value o f)
  no_value o f none = value_holds o f (λ x some. absurd (cc (sym none ∙ some)))

  items_legal : (d place : ℕ) → place < block_slots * most_blocks → Holds (of_value (item_at high reading d place) (λ item. where_true (not item.is_legal) (fails_where true item.len 0)))
  unfolding item_parts
  items_legal d place inside = go (directory_in high reading d) refl
    where
      go : (o : Option Block) → directory_in high reading d ≡ o → Holds (of_value (item_at high reading d place) (λ item. where_true (not item.is_legal) (fails_where true item.len 0)))
      go None e = no_value _ _ (no_item d place e)
      go (Some c) e = by (is_rebuilt image d) refl
        where
          by : (r : Bool) → is_rebuilt image d ≡ r → Holds (of_value (item_at high reading d place) (λ item. where_true (not item.is_legal) (fails_where true item.len 0)))
          by true r = building.legal_holds high reading d (mended_dot_dot image d) (names_in_directory image d) c e (holds_names d c e r) place
          by false r =
              let b = old_block d c e r in
              subst Holds (sym (keeping.same_legal (nids image) high reading (salvage_reading image) d b.0 c b.2 e b.3 (same_items d c e r) same_kinds place)) (salvage_holds d c e r 0 place (omega arith) inside)

  items_first : (d place : ℕ) → place < block_slots * most_blocks → Holds (of_value (legal_item_at high reading d place) (λ item. same (option_map_or (λ first. first.place) (first_named high reading d item.name) 0) place))
  unfolding item_parts
  items_first d place inside = go (directory_in high reading d) refl
    where
      go : (o : Option Block) → directory_in high reading d ≡ o → Holds (of_value (legal_item_at high reading d place) (λ item. same (option_map_or (λ first. first.place) (first_named high reading d item.name) 0) place))
      go None e = no_value _ _ (no_legal d place e)
      go (Some c) e = by (is_rebuilt image d) refl
        where
          by : (r : Bool) → is_rebuilt image d ≡ r → Holds (of_value (legal_item_at high reading d place) (λ item. same (option_map_or (λ first. first.place) (first_named high reading d item.name) 0) place))
          by true r = building.first_holds high reading d (mended_dot_dot image d) (names_in_directory image d) c e (holds_names d c e r) place
          by false r =
              let b = old_block d c e r in
              subst Holds (sym (keeping.same_first (nids image) high reading (salvage_reading image) d b.0 c b.2 e b.3 (same_items d c e r) same_kinds place)) (salvage_holds d c e r 1 place (omega arith) inside)

  hash : (d place : ℕ) → place < block_slots * most_blocks → Holds (of_value (legal_item_at high reading d place) (λ item. same item.hash (name_hash item.name)))
  unfolding item_parts
  hash d place inside = go (directory_in high reading d) refl
    where
      go : (o : Option Block) → directory_in high reading d ≡ o → Holds (of_value (legal_item_at high reading d place) (λ item. same item.hash (name_hash item.name)))
      go None e = no_value _ _ (no_legal d place e)
      go (Some c) e = by (is_rebuilt image d) refl
        where
          by : (r : Bool) → is_rebuilt image d ≡ r → Holds (of_value (legal_item_at high reading d place) (λ item. same item.hash (name_hash item.name)))
          by true r = building.hash_holds high reading d (mended_dot_dot image d) (names_in_directory image d) c e (holds_names d c e r) place
          by false r =
              let b = old_block d c e r in
              subst Holds (sym (keeping.same_hash (nids image) high reading (salvage_reading image) d b.0 c b.2 e b.3 (same_items d c e r) same_kinds place)) (salvage_holds d c e r 2 place (omega arith) inside)

  bucket : (d place : ℕ) → place < block_slots * most_blocks → Holds (of_value (block_directory_in high reading d) (λ b. of_value (legal_item_at high reading d place) (λ item. same (bucket_of_block (dir_level b) (place / block_slots)) (bucket_of (level_of_block (dir_level b) (place / block_slots)) (dir_level b) (name_hash item.name)))))
  unfolding item_parts
  bucket d place inside = go (directory_in high reading d) refl
    where
      go : (o : Option Block) → directory_in high reading d ≡ o → Holds (of_value (block_directory_in high reading d) (λ b. of_value (legal_item_at high reading d place) (λ item. same (bucket_of_block (dir_level b) (place / block_slots)) (bucket_of (level_of_block (dir_level b) (place / block_slots)) (dir_level b) (name_hash item.name)))))
      go None e = no_value _ _ (no_blocks d e)
      go (Some c) e = by (is_rebuilt image d) refl
        where
          by : (r : Bool) → is_rebuilt image d ≡ r → Holds (of_value (block_directory_in high reading d) (λ b. of_value (legal_item_at high reading d place) (λ item. same (bucket_of_block (dir_level b) (place / block_slots)) (bucket_of (level_of_block (dir_level b) (place / block_slots)) (dir_level b) (name_hash item.name)))))
          by true r = building.bucket_holds high reading d (mended_dot_dot image d) (names_in_directory image d) c e (holds_names d c e r) place
          by false r =
              let b = old_block d c e r in
              subst Holds (sym (keeping.same_bucket (nids image) high reading (salvage_reading image) d b.0 c b.2 e b.3 (same_items d c e r) same_kinds place)) (salvage_holds d c e r 3 place (omega arith) inside)

  kind : (d place : ℕ) → place < block_slots * most_blocks → Holds (of_value (legal_item_at high reading d place) (λ item. same item.kind (reading.kind item.ino)))
  unfolding item_parts
  kind d place inside = go (directory_in high reading d) refl
    where
      go : (o : Option Block) → directory_in high reading d ≡ o → Holds (of_value (legal_item_at high reading d place) (λ item. same item.kind (reading.kind item.ino)))
      go None e = no_value _ _ (no_legal d place e)
      go (Some c) e = by (is_rebuilt image d) refl
        where
          by : (r : Bool) → is_rebuilt image d ≡ r → Holds (of_value (legal_item_at high reading d place) (λ item. same item.kind (reading.kind item.ino)))
          by true r = building.kind_holds high reading d (mended_dot_dot image d) (names_in_directory image d) c e (holds_names d c e r) place
          by false r =
              let b = old_block d c e r in
              subst Holds (sym (keeping.same_kinds (nids image) high reading (salvage_reading image) d b.0 c b.2 e b.3 (same_items d c e r) same_kinds place)) (salvage_holds d c e r 4 place (omega arith) inside)

  depth : (d : ℕ) → Holds (of_value (block_directory_in high reading d) (λ b. at_least (current_depth b) (one_past high reading (λ item. level_of_block (dir_level b) (item.place / block_slots)) d)))
  unfolding item_parts
  depth d = go (directory_in high reading d) refl
    where
      go : (o : Option Block) → directory_in high reading d ≡ o → Holds (of_value (block_directory_in high reading d) (λ b. at_least (current_depth b) (one_past high reading (λ item. level_of_block (dir_level b) (item.place / block_slots)) d)))
      go None e = no_value _ _ (no_blocks d e)
      go (Some c) e = by (is_rebuilt image d) refl
        where
          by : (r : Bool) → is_rebuilt image d ≡ r → Holds (of_value (block_directory_in high reading d) (λ b. at_least (current_depth b) (one_past high reading (λ item. level_of_block (dir_level b) (item.place / block_slots)) d)))
          by true r = building.depth_holds high reading d (mended_dot_dot image d) (names_in_directory image d) c e (holds_names d c e r)
          by false r =
              let b = old_block d c e r in
              subst Holds (sym (keeping.same_depth (nids image) high reading (salvage_reading image) d b.0 c b.2 e b.3 (same_items d c e r) same_kinds)) (salvage_holds d c e r 5 0 (omega arith) (omega arith))

  dot_own : (d : ℕ) → Holds (of_value (directory_in high reading d) (λ b. dots_comparison high reading d b dot d))
  unfolding item_parts
  dot_own d = go (directory_in high reading d) refl
    where
      go : (o : Option Block) → directory_in high reading d ≡ o → Holds (of_value (directory_in high reading d) (λ b. dots_comparison high reading d b dot d))
      go None e = no_value _ _ e
      go (Some c) e = by (is_rebuilt image d) refl
        where
          by : (r : Bool) → is_rebuilt image d ≡ r → Holds (of_value (directory_in high reading d) (λ b. dots_comparison high reading d b dot d))
          by true r = building.dot_holds high reading d (mended_dot_dot image d) (names_in_directory image d) c e (holds_names d c e r)
          by false r =
              let b = old_block d c e r in
              subst Holds (sym (keeping.same_dots (nids image) high reading (salvage_reading image) d b.0 c b.2 e b.3 (same_items d c e r) same_kinds dot d d refl)) (salvage_holds d c e r 6 0 (omega arith) (omega arith))

  dot_above : (d : ℕ) → Holds (of_value (directory_in high reading d) (λ b. dots_comparison high reading d b dot_dot (wanted_above d)))
  unfolding item_parts
  dot_above d = go (directory_in high reading d) refl
    where
      go : (o : Option Block) → directory_in high reading d ≡ o → Holds (of_value (directory_in high reading d) (λ b. dots_comparison high reading d b dot_dot (wanted_above d)))
      go None e = no_value _ _ e
      go (Some c) e = by (is_rebuilt image d) refl
        where
          by : (r : Bool) → is_rebuilt image d ≡ r → Holds (of_value (directory_in high reading d) (λ b. dots_comparison high reading d b dot_dot (wanted_above d)))
          by true r = building.dot_dot_holds high reading d (mended_dot_dot image d) (names_in_directory image d) c e (holds_names d c e r) (wanted_above d) (same_above d)
          by false r =
              let b = old_block d c e r in
              subst Holds (sym (keeping.same_dots (nids image) high reading (salvage_reading image) d b.0 c b.2 e b.3 (same_items d c e r) same_kinds dot_dot (wanted_above d) (cond (d == 3) 3 (unwrap_or ((salvage_reading image).parent d) none_value)) (same_above_old d))) (salvage_holds d c e r 7 0 (omega arith) (omega arith))

  size_past : (d : ℕ) → Holds (of_value (block_directory_in high reading d) (λ b. at_least (size b) (4096 * one_past high reading (λ item. item.place / block_slots) d)))
  unfolding item_parts
  size_past d = go (directory_in high reading d) refl
    where
      go : (o : Option Block) → directory_in high reading d ≡ o → Holds (of_value (block_directory_in high reading d) (λ b. at_least (size b) (4096 * one_past high reading (λ item. item.place / block_slots) d)))
      go None e = no_value _ _ (no_blocks d e)
      go (Some c) e = by (is_rebuilt image d) refl
        where
          by : (r : Bool) → is_rebuilt image d ≡ r → Holds (of_value (block_directory_in high reading d) (λ b. at_least (size b) (4096 * one_past high reading (λ item. item.place / block_slots) d)))
          by true r = building.size_holds high reading d (mended_dot_dot image d) (names_in_directory image d) c e (holds_names d c e r)
          by false r =
              let b = old_block d c e r in
              subst Holds (sym (keeping.same_size (nids image) high reading (salvage_reading image) d b.0 c b.2 e b.3 (same_items d c e r) same_kinds)) (salvage_holds d c e r 8 0 (omega arith) (omega arith))

  -- ---- the rule

  items_clear : flat_map part_defects (directory_parts other) ≡ []
  unfolding item_parts
  items_clear = λ i. first i ++ (second i ++ (third i ++ (fourth i ++ (fifth i ++ (sixth i ++ (seventh i ++ (eighth i ++ (ninth i ++ []))))))))
    where
      first : part_defects (get_or (directory_parts other) 0 no_part) ≡ []
      first = clear_from (get_or (directory_parts other) 0 no_part) (λ d place low inside. items_legal d place inside)

      second : part_defects (get_or (directory_parts other) 1 no_part) ≡ []
      second = clear_from (get_or (directory_parts other) 1 no_part) (λ d place low inside. items_first d place inside)

      third : part_defects (get_or (directory_parts other) 2 no_part) ≡ []
      third = clear_from (get_or (directory_parts other) 2 no_part) (λ d place low inside. hash d place inside)

      fourth : part_defects (get_or (directory_parts other) 3 no_part) ≡ []
      fourth = clear_from (get_or (directory_parts other) 3 no_part) (λ d place low inside. bucket d place inside)

      fifth : part_defects (get_or (directory_parts other) 4 no_part) ≡ []
      fifth = clear_from (get_or (directory_parts other) 4 no_part) (λ d place low inside. kind d place inside)

      sixth : part_defects (get_or (directory_parts other) 5 no_part) ≡ []
      sixth = clear_from (get_or (directory_parts other) 5 no_part) (λ d place low inside. depth d)

      seventh : part_defects (get_or (directory_parts other) 6 no_part) ≡ []
      seventh = clear_from (get_or (directory_parts other) 6 no_part) (λ d place low inside. dot_own d)

      eighth : part_defects (get_or (directory_parts other) 7 no_part) ≡ []
      eighth = clear_from (get_or (directory_parts other) 7 no_part) (λ d place low inside. dot_above d)

      ninth : part_defects (get_or (directory_parts other) 8 no_part) ≡ []
      ninth = clear_from (get_or (directory_parts other) 8 no_part) (λ d place low inside. size_past d)

  pub mended_meets_directory_rule : is_rule_met other 10 ≡ true
  unfolding defects
  mended_meets_directory_rule = met_of (directory_parts other) items_clear
