-- A tour over all numbers: the defects so far, how often each number is named, and the parts of rule 3 that files rest on.
use Rattle.std.proofs.Common.{◌≡◌, ℕ, zero, suc, ◌+◌, ◌-◌, ◌*◌, ◌^◌, ◌<◌, ◌≤◌, List, [], ◌∷◌, ◌++◌, min, length, get_or, Bool, true, false, cond, not, ◌&&◌, ◌==◌, filter, sum_by, All, Option, Some, None, is_some, option_and_then, refl, sym, ap, ◌∙◌, arith}
use Rattle.std.specs.Prelude.{flat_map, option_map}
use Rattle.std.specs.Option.{option_map_or}
use Rattle.std.specs.List.{cons_option}
use Rattle.std.proofs.lemmas.Bool.{false≢true}
use Rattle.std.proofs.lemmas.List.Elements.{filter-append}
use Rattle.std.proofs.lemmas.List.FromFn.{length-range_with_len}
use Rattle.std.proofs.lemmas.List.Sums.{sum_by-append, sum_by-le, count_by-le-length, length-filter}
use Rattle.f2_bytes.proofs.SetBits.{range-append}
use Rattle.f2_bytes.specs.Bytes.{Image, numbers_below, block_at}
use Rattle.f2_bytes.specs.Journal.{NatEntry}
use Rattle.f2_bytes.specs.Node.{xattr_nid, offset_limit}
use Rattle.f2_bytes.specs.NodeAddressTable.{nat}
use Rattle.f2_bytes.specs.Superblock.{layout, is_main}
use Rattle.f2_bytes.specs.Tree.{read_node, main_block, is_inode}
use Rattle.f2_bytes.specs.Check.{Part, defect_of, defects_at, digit, fails_where, nids, node_parts, of_value, part_defects, same, times_named, times_named_in, where_true}
use Rattle.f2_defects.specs.Collected.{defects_of}
use Rattle.f2_items.specs.Counted.{IsCounted, times_below}
use Rattle.f2_survey.specs.Parts.{part_in, HasPlaces}
use Rattle.f2_bytes.specs.Tree.{nid_slot}
use Rattle.f2_items.proofs.NameSteps.{counted_same}
use Rattle.f2_survey.proofs.OffsetBands.{limit-value}
use Rattle.f2_view.proofs.Rows.{flat_map-parts, flat_map-more}

-- ---- the defects so far

first_empty : {A : Type 0} (xs ys : List A) → xs ++ ys ≡ [] → xs ≡ []
first_empty [] ys none = refl
first_empty (x ∷ xs) ys none = cc

second_empty : {A : Type 0} (xs ys : List A) → xs ++ ys ≡ [] → ys ≡ []
second_empty [] ys none = none
second_empty (x ∷ xs) ys none = cc

pub none_so_far : (p : Part) → flat_map (defects_at p) (numbers_below 0) ≡ []
unfolding numbers_below
none_so_far p = refl

-- a part with no defect
module _ (p : Part) (clean : part_defects p ≡ []) where
  pub clean_below : (i : ℕ) → i ≤ p.first_limit → flat_map (defects_at p) (numbers_below i) ≡ []
  unfolding part_defects
  clean_below i below =
      first_empty (flat_map (defects_at p) (numbers_below i)) (flat_map (λ j. defects_at p (i + j)) (numbers_below (p.first_limit - i)))
      (sym (flat_map-parts (defects_at p) i (p.first_limit - i))
      ∙ ap (λ n. flat_map (defects_at p) (numbers_below n)) (let e : i + (p.first_limit - i) ≡ p.first_limit = omega (arith, below) in e)
      ∙ clean)

  pub clean_at : (i : ℕ) → i < p.first_limit → defects_at p i ≡ []
  clean_at i below =
      second_empty (flat_map (defects_at p) (numbers_below i)) (defects_at p i)
      (sym (flat_map-more (defects_at p) i) ∙ clean_below (i + 1) (omega (arith, below)))

pub names_part : (image : Image) → part_defects (part_in image 3 6) ≡ flat_map (defects_at (part_in image 3 6)) (numbers_below (nids image))
unfolding part_defects node_parts
names_part image = refl

module _ (image : Image) (places : HasPlaces image) where
  pub names_clean_below : (i : ℕ) → i ≤ nids image → flat_map (defects_at (part_in image 3 6)) (numbers_below i) ≡ []
  unfolding node_parts
  names_clean_below i below = clean_below (part_in image 3 6) (places 6 (omega arith) (omega arith)) i below

  pub names_clean_at : (i : ℕ) → i < nids image → defects_at (part_in image 3 6) i ≡ []
  unfolding node_parts
  names_clean_at i below = clean_at (part_in image 3 6) (places 6 (omega arith) (omega arith)) i below

  -- each inode stands in the main area
  pub inode_there : (ino : ℕ) → ino < nids image → is_inode image ino ≡ true → is_some (read_node image ino) ≡ true
  unfolding node_parts defects_at numbers_below is_inode read_node
  inode_there ino below inode = go (nat image ino) inode (clean_at (part_in image 3 1) (places 1 (omega arith) (omega arith)) ino below)
    where
      go : (o : Option NatEntry) → option_map_or (λ (e : NatEntry). e.ino == ino) o false ≡ true
          → cons_option (defect_of 1 ino 0 (of_value o (λ e. fails_where (not (is_main (layout image) e.address)) e.address (layout image).main))) [] ≡ []
          → is_some (option_and_then (λ (e : NatEntry). main_block image e.address) o) ≡ true
      go None none clean = absurd (false≢true none)
      go (Some e) is clean = at (is_main (layout image) e.address) clean
        where
          at : (b : Bool) → cons_option (defect_of 1 ino 0 (fails_where (not b) e.address (layout image).main)) [] ≡ [] → is_some (cond b (Some (block_at image e.address)) None) ≡ true
          at true clean = refl
          at false clean = cc

-- ---- how often each number is named

numbers-more : (n : ℕ) → numbers_below (n + 1) ≡ numbers_below n ++ n ∷ []
unfolding numbers_below
numbers-more n = range-append 0 n 1 ∙ ap (λ k. numbers_below n ++ k ∷ []) (let z : 0 + n ≡ n = omega arith in z)

module _ (image : Image) (i : ℕ) where
  more : (n : ℕ) → times_below image (i + 1) n ≡ times_below image i n + sum_by (times_named_in image n) (cond (is_inode image i) (i ∷ []) [])
  more n =
      ap (λ l. sum_by (times_named_in image n) (filter (is_inode image) l)) (numbers-more i)
      ∙ ap (sum_by (times_named_in image n)) (filter-append (is_inode image) (numbers_below i) (i ∷ []))
      ∙ sum_by-append (times_named_in image n) (filter (is_inode image) (numbers_below i)) (filter (is_inode image) (i ∷ []))

  pub counts_file : (limit : ℕ) (counts : List ℕ) → is_inode image i ≡ true
      → IsCounted limit counts (λ n. times_below image i n + times_named_in image n i) → IsCounted limit counts (times_below image (i + 1))
  counts_file limit counts inode =
      counted_same limit counts (λ n. times_below image i n + times_named_in image n i) (times_below image (i + 1)) (λ n.
      let step = more n in
      let one : sum_by (times_named_in image n) (cond (is_inode image i) (i ∷ []) []) ≡ 0 + times_named_in image n i = ap (λ b. sum_by (times_named_in image n) (cond b (i ∷ []) [])) inode in
      omega (arith, step, one))

  pub counts_other : (limit : ℕ) (counts : List ℕ) → is_inode image i ≡ false → IsCounted limit counts (times_below image i) → IsCounted limit counts (times_below image (i + 1))
  counts_other limit counts other =
      counted_same limit counts (times_below image i) (times_below image (i + 1)) (λ n.
      let step = more n in
      let none : sum_by (times_named_in image n) (cond (is_inode image i) (i ∷ []) []) ≡ 0 = ap (λ b. sum_by (times_named_in image n) (cond b (i ∷ []) [])) other in
      omega (arith, step, none))

pub counts_none : (image : Image) (limit : ℕ) (counts : List ℕ) → IsCounted limit counts (λ _. 0) → IsCounted limit counts (times_below image 0)
unfolding numbers_below
counts_none image limit counts counted = counted

pub counts_all : (image : Image) (limit : ℕ) (counts : List ℕ) → IsCounted limit counts (times_below image (nids image)) → IsCounted limit counts (times_named image)
unfolding times_named
counts_all image limit counts counted = counted

-- ---- how often a number is named fits 64 bits

all_at_most : (f : ℕ → ℕ) (m : ℕ) (xs : List ℕ) → ((x : ℕ) → f x ≤ m) → All (λ x. f x ≤ m) xs
all_at_most f m xs most = λ k d low. most (get_or xs k d)

filter-le : (p : ℕ → Bool) (xs : List ℕ) → length (filter p xs) ≤ length xs
filter-le p xs = let a = length-filter p xs in let b = count_by-le-length p xs in omega (arith, a, b)

length-numbers : (n : ℕ) → length (numbers_below n) ≡ n
unfolding numbers_below
length-numbers n = length-range_with_len 0 n

named_at_most : (image : Image) (n ino : ℕ) → times_named_in image n ino ≤ 1039385
named_at_most image n ino =
    let slots = count_by-le-length (λ o. nid_slot image ino o == n) (numbers_below offset_limit) in
    let all = length-numbers offset_limit in
    let attributes = one_digit (option_map_or xattr_nid (read_node image ino) 0 == n) in
    let limit = limit-value in
    omega (arith, slots, all, attributes, limit)
  where
    one_digit : (b : Bool) → digit b ≤ 1
    one_digit true = omega arith
    one_digit false = omega arith

pub named_fit : (image : Image) (n : ℕ) → nids image ≤ 2 ^ 32 → min (times_named image n) (2 ^ 64 - 1) ≡ times_named image n
unfolding times_named
named_fit image n few =
    let files = filter (is_inode image) (numbers_below (nids image)) in
    let sum : sum_by (times_named_in image n) (filter (is_inode image) (numbers_below (nids image))) ≤ length (filter (is_inode image) (numbers_below (nids image))) * 1039385
    = sum_by-le (times_named_in image n) 1039385 files (all_at_most (times_named_in image n) 1039385 files (named_at_most image n)) in
    let some = filter-le (is_inode image) (numbers_below (nids image)) in
    let all = length-numbers (nids image) in
    omega (arith, sum, some, all, few)

-- ---- nodes that are named once

pub times_part : (image : Image) → part_defects (part_in image 3 7) ≡ flat_map (defects_at (part_in image 3 7)) (numbers_below (nids image))
unfolding part_defects node_parts
times_part image = refl

pub times_defects : (image : Image) (nid : ℕ)
    → defects_at (part_in image 3 7) nid ≡ defects_of 7 nid 0 (where_true (is_some (nat image nid) && not (is_inode image nid)) (same (times_named image nid) 1))
unfolding defects_at node_parts numbers_below
times_defects image nid = refl

module _ (image : Image) (nid : ℕ) where
  -- a number of no node, and that of an inode
  pub none_for_no_node : is_some (nat image nid) ≡ false → defects_at (part_in image 3 7) nid ≡ []
  none_for_no_node none = times_defects image nid ∙ ap (λ b. defects_of 7 nid 0 (where_true (b && not (is_inode image nid)) (same (times_named image nid) 1))) none

  pub none_for_inode : is_inode image nid ≡ true → defects_at (part_in image 3 7) nid ≡ []
  none_for_inode inode =
      times_defects image nid
      ∙ ap (λ b. defects_of 7 nid 0 (where_true (is_some (nat image nid) && not b) (same (times_named image nid) 1))) inode
      ∙ go (is_some (nat image nid))
    where
      go : (b : Bool) → defects_of 7 nid 0 (where_true (b && not true) (same (times_named image nid) 1)) ≡ []
      go true = refl
      go false = refl

  pub one_for_node : is_some (nat image nid) ≡ true → is_inode image nid ≡ false → defects_of 7 nid 0 (same (times_named image nid) 1) ≡ defects_at (part_in image 3 7) nid
  one_for_node some other = sym (times_defects image nid ∙ λ i. defects_of 7 nid 0 (where_true (some i && not (other i)) (same (times_named image nid) 1)))

-- 0 is no number of a node
no_zero : (image : Image) → is_some (nat image 0) ≡ false
unfolding nat
no_zero image = refl

pub node_some : (image : Image) (nid : ℕ) → is_some (nat image nid) ≡ true → 1 ≤ nid
node_some image zero some = absurd (false≢true (sym (no_zero image) ∙ some))
node_some image (suc n) some = omega arith

pub mapped_some : {A B : Type 0} (f : A → B) (o : Option A) (p : Option B) → option_map f o ≡ p → is_some p ≡ is_some o
mapped_some f None p is = ap is_some (sym is)
mapped_some f (Some a) p is = ap is_some (sym is)
