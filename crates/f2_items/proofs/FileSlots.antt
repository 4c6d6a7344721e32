-- The slots of files: how many, and those of one file more.
use Rattle.std.proofs.Common.{◌≡◌, ℕ, suc, ◌+◌, ◌^◌, ◌<◌, ◌≤◌, List, [], ◌∷◌, ◌++◌, Bool, true, false, not, ◌==◌, ◌&&◌, nat_le, nat_lt, cond, filter, length, Option, Some, None, refl, sym, ap, ◌∙◌, ⊎_elim, arith, lit<}
use Rattle.std.specs.Prelude.{flat_map, filter_map, count_by}
use Rattle.std.specs.List.{cons_option}
use Rattle.std.specs.Option.{option_map_or}
use Rattle.std.proofs.lemmas.Bool.{false≢true, and_right, cases_lt, le-ltb}
use Rattle.std.proofs.lemmas.List.{append-nil}
use Rattle.std.proofs.lemmas.List.Sums.{sum_by-cons}
use Rattle.f2_bytes.specs.Bytes.{Block, Image, numbers_below}
use Rattle.f2_bytes.specs.Journal.{NatEntry}
use Rattle.f2_bytes.specs.NodeAddressTable.{nat, image_nat_entry}
use Rattle.f2_bytes.specs.Tree.{is_inode, read_node, tree_slot}
use Rattle.f2_bytes.specs.Check.{Part, Comparison, nids, inode_of, used_slots, defect_of, defects_at, part_by_one}
use Rattle.f2_survey.specs.Slots.{Slot, slot_at, file_slots, slots_below}
use Rattle.f2_bytes.specs.Node.{most_blocks}
use Rattle.f2_items.proofs.GrownLists.{optional, filter_push, flat_map_push}
use Rattle.f2_survey.proofs.NumberLists.{numbers-none, numbers-suc, length-numbers}

-- ---- inodes

pub inode-is : (image : Image) (ino : ℕ) (inode : Block) → inode_of image ino ≡ Some inode → is_inode image ino ≡ true
inode-is image ino inode is = go (is_inode image ino) is
  where
    go : (b : Bool) → cond b (read_node image ino) None ≡ Some inode → b ≡ true
    go true e = refl
    go false e = absurd (cc e)

pub inode-read : (image : Image) (ino : ℕ) (inode : Block) → inode_of image ino ≡ Some inode → read_node image ino ≡ Some inode
inode-read image ino inode is = ap (λ b. cond b (read_node image ino) None) (sym (inode-is image ino inode is)) ∙ is

pub inode-none : (image : Image) (ino : ℕ) → is_inode image ino ≡ false → inode_of image ino ≡ None
inode-none image ino is = ap (λ b. cond b (read_node image ino) None) is

no_entry : (nid : ℕ) (b c : Bool) (e : NatEntry) → b ≡ false → option_map_or (λ (e : NatEntry). e.ino == nid) (cond (b && c) (Some e) None) false ≡ false
no_entry nid b c e none = ap (λ b. option_map_or (λ (e : NatEntry). e.ino == nid) (cond (b && c) (Some e) None) false) none

pub inode-below : (image : Image) (ino : ℕ) → is_inode image ino ≡ true → ino < nids image
unfolding is_inode nat
inode-below image ino is =
    ⊎_elim (λ below. below)
    (λ past. absurd (false≢true (sym (no_entry ino (nat_le 3 ino && nat_lt ino (nids image)) (not ((image_nat_entry image ino).address == 0)) (image_nat_entry image ino)
    (and_right (nat_le 3 ino) (nat_lt ino (nids image)) (le-ltb ino (nids image) past))) ∙ is)))
    (cases_lt ino (nids image))

-- ---- one number more

pub below-suc : (p : Part) (n : ℕ) → flat_map (defects_at p) (numbers_below (suc n)) ≡ flat_map (defects_at p) (numbers_below n) ++ defects_at p n
below-suc p n = ap (flat_map (defects_at p)) (numbers-suc n) ∙ flat_map_push (defects_at p) (numbers_below n) n

pub slots_below-none : (image : Image) → slots_below image 0 ≡ []
slots_below-none image = ap (λ l. flat_map (file_slots image) (filter (is_inode image) l)) numbers-none

slots_below-suc : (image : Image) (n : ℕ) → slots_below image (suc n) ≡ flat_map (file_slots image) (filter (is_inode image) (numbers_below n) ++ cond (is_inode image n) (n ∷ []) [])
slots_below-suc image n = ap (flat_map (file_slots image)) (ap (filter (is_inode image)) (numbers-suc n) ∙ filter_push (is_inode image) (numbers_below n) n)

pub slots_below-inode : (image : Image) (n : ℕ) → is_inode image n ≡ true → slots_below image (suc n) ≡ slots_below image n ++ file_slots image n
slots_below-inode image n is =
    slots_below-suc image n
    ∙ ap (λ b. flat_map (file_slots image) (filter (is_inode image) (numbers_below n) ++ cond b (n ∷ []) [])) is
    ∙ flat_map_push (file_slots image) (filter (is_inode image) (numbers_below n)) n

pub slots_below-other : (image : Image) (n : ℕ) → is_inode image n ≡ false → slots_below image (suc n) ≡ slots_below image n
slots_below-other image n is =
    slots_below-suc image n
    ∙ ap (λ b. flat_map (file_slots image) (filter (is_inode image) (numbers_below n) ++ cond b (n ∷ []) [])) is
    ∙ ap (flat_map (file_slots image)) (append-nil (filter (is_inode image) (numbers_below n)))

-- ---- how many

length-filter_map : {X Y : Type 0} (f : X → Option Y) (p : X → Bool) (xs : List X) → ((x : X) → length (optional (f x)) ≡ cond (p x) 1 0) → length (filter_map f xs) ≡ count_by p xs
length-filter_map f p [] same = refl
length-filter_map {Y = Y} f p (x ∷ xs) same =
    go (f x) (filter_map f xs)
    ∙ (λ i. same x i + length-filter_map f p xs same i)
    ∙ sym (sum_by-cons (λ y. cond (p y) 1 0) x xs)
  where
    go : (o : Option Y) (ys : List Y) → length (cons_option o ys) ≡ length (optional o) + length ys
    go None ys = omega arith
    go (Some y) ys = omega arith

pub length-file_slots : (image : Image) (ino : ℕ) → length (file_slots image ino) ≡ used_slots image ino
unfolding file_slots
length-file_slots image ino = length-filter_map (slot_at image ino) (λ k. not (tree_slot image ino k == 0)) (numbers_below most_blocks) (λ k. go (tree_slot image ino k == 0) _)
  where
    go : (b : Bool) (s : Slot) → length (optional (cond {A = Option Slot} b None (Some s))) ≡ cond (not b) 1 0
    go true s = refl
    go false s = refl

count-few : {X : Type 0} (p : X → Bool) (xs : List X) → count_by p xs ≤ length xs
count-few p [] = omega arith
count-few p (x ∷ xs) =
    let s : count_by p (x ∷ xs) ≡ cond (p x) 1 0 + count_by p xs = sum_by-cons (λ y. cond (p y) 1 0) x xs in
    let ih = count-few p xs in
    let one : cond {A = ℕ} (p x) 1 0 ≤ 1 = elim (p x) as (λ b. cond {A = ℕ} b 1 0 ≤ 1) [ true ↦ omega arith | false ↦ omega arith ] in
    omega (arith, s, ih, one)

pub most-small : most_blocks < 2 ^ 32
unfolding most_blocks
most-small = lit< tt

pub used_slots-few : (image : Image) (ino : ℕ) → used_slots image ino < 2 ^ 32
used_slots-few image ino =
    let few = count-few (λ k. not (tree_slot image ino k == 0)) (numbers_below most_blocks) in
    let n = length-numbers most_blocks in
    let m = most-small in
    omega (arith, few, n, m)

-- ---- parts with one comparison for each number

pub defects-one : (number limit : ℕ) (f : ℕ → Option Comparison) (a : ℕ) → defects_at (part_by_one number limit f) a ≡ optional (defect_of number a 0 (f a))
unfolding defects_at
defects-one number limit f a = ap (filter_map (λ b. defect_of number a b (f a))) (numbers-suc 0 ∙ ap (λ l. l ++ 0 ∷ []) numbers-none)
