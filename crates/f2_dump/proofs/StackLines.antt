-- The lines of the names that are still to be put.
use Rattle.std.proofs.Common.{◌≡◌, ◌∙◌, ℕ, zero, suc, ◌+◌, ◌*◌, ◌^◌, ◌<◌, true, false, List, [], ◌∷◌, ◌++◌, map, length, reverse, drop, Option, Some, None, refl, sym, ap, subst, arith, append_assoc}
use Rattle.std.specs.Option.{option_to_list}
use Rattle.std.specs.Prelude.{flat_map}
use Rattle.std.proofs.Math.Nat.{mul-lt-mul_of_pos_right}
use Rattle.std.proofs.lemmas.List.{append-nil, reverse-append}
use Rattle.f2_bytes.specs.Bytes.{Image}
use Rattle.f2_bytes.specs.Directory.{Item}
use Rattle.f2_bytes.specs.NodeAddressTable.{nid_limit}
use Rattle.f2_bytes.specs.Superblock.{layout}
use Rattle.f2_view.specs.Directories.{item_of}
use Rattle.f2_view.specs.declared.directories.Named.{Named}
use Rattle.f2_dump.specs.Stacks.{Lists, Pending, pending, pending_at, pending_lines, stack_lines, stack_weight, weight}
use Rattle.f2_dump.specs.Trees.{is_directory_of, item_lines, names_of, lines_within, tree_lines}
use Rattle.f2_dump.proofs.Sending.{Holds}

-- the lines so far, which with those that are left are all
pub record Walks (all left before after : List ℕ) (old new : Option (List ℕ)) : Type 0 where
  pub lines : List ℕ
  pub holds : Holds lines before after old new
  pub whole : lines ++ left ≡ all

pub stack_append : (image : Image) (ps qs : List Pending) → stack_lines image (ps ++ qs) ≡ stack_lines image qs ++ stack_lines image ps
unfolding stack_lines
stack_append image [] qs = sym (append-nil (stack_lines image qs))
stack_append image (p ∷ ps) qs =
    ap (λ (l : List ℕ). l ++ pending_lines image p) (stack_append image ps qs) ∙ append_assoc (stack_lines image qs) (stack_lines image ps) (pending_lines image p)

pub stack_one : (image : Image) (ps : List Pending) (p : Pending) → stack_lines image (ps ++ p ∷ []) ≡ pending_lines image p ++ stack_lines image ps
unfolding stack_lines
stack_one image ps p = stack_append image ps (p ∷ [])

stack_reverse : (image : Image) (ps : List Pending) → stack_lines image (reverse ps) ≡ flat_map (pending_lines image) ps
unfolding stack_lines
stack_reverse image [] = refl
stack_reverse image (p ∷ ps) =
    ap (stack_lines image) (reverse-append (p ∷ []) ps) ∙ stack_one image (reverse ps) p ∙ ap (λ (l : List ℕ). pending_lines image p ++ l) (stack_reverse image ps)

flat_map_of_map : {X Y : Type 0} (f : Y → List ℕ) (g : X → Y) (xs : List X) → flat_map f (map g xs) ≡ flat_map (λ x. f (g x)) xs
flat_map_of_map f g [] = refl
flat_map_of_map f g (x ∷ xs) = ap (λ (l : List ℕ). f (g x) ++ l) (flat_map_of_map f g xs)

-- the names of a directory have the lines of that directory
names_lines : (image : Image) (levels level ino : ℕ) (items : List Item) → items ≡ names_of image ino → flat_map (pending_lines image) (pending level levels items) ≡ lines_within levels image level ino
unfolding lines_within
names_lines image zero level ino items is = refl
names_lines image (suc left) level ino items is =
    flat_map_of_map (pending_lines image) (pending_at level left) items ∙ ap (flat_map (item_lines image level (lines_within left image (suc level)))) is

pub pushed_lines : (image : Image) (levels level ino : ℕ) (items : List Item) (ps : List Pending) → items ≡ names_of image ino
    → stack_lines image (ps ++ reverse (pending level levels items)) ≡ lines_within levels image level ino ++ stack_lines image ps
pushed_lines image levels level ino items ps is =
    stack_append image ps (reverse (pending level levels items))
    ∙ ap (λ (l : List ℕ). l ++ stack_lines image ps) (stack_reverse image (pending level levels items) ∙ names_lines image levels level ino items is)

-- a number that is no directory's has none
pub no_lines : (image : Image) (levels level ino : ℕ) → is_directory_of image ino ≡ false → lines_within levels image level ino ≡ []
unfolding lines_within names_of
no_lines image zero level ino none = refl
no_lines image (suc left) level ino none = rw none refl

-- ---- the weight

pub weight_some : (n : ℕ) → 0 < weight n
unfolding weight
weight_some zero = omega arith
weight_some (suc n) = omega (arith, weight_some n)

weight_append : (ps qs : List Pending) → stack_weight (ps ++ qs) ≡ stack_weight ps + stack_weight qs
unfolding stack_weight
weight_append [] qs = omega arith
weight_append (p ∷ ps) qs = omega (arith, weight_append ps qs)

pub weight_one : (ps : List Pending) (p : Pending) → stack_weight (ps ++ p ∷ []) ≡ weight p.left + stack_weight ps
unfolding stack_weight
weight_one ps p = omega (arith, weight_append ps (p ∷ []))

weight_reverse : (ps : List Pending) → stack_weight (reverse ps) ≡ stack_weight ps
unfolding stack_weight
weight_reverse [] = refl
weight_reverse (p ∷ ps) = omega (arith, ap stack_weight (reverse-append (p ∷ []) ps), weight_one (reverse ps) p, weight_reverse ps)

weight_each : (level left : ℕ) (items : List Item) → stack_weight (map (pending_at level left) items) ≡ length items * weight left
unfolding stack_weight
weight_each level left [] = omega arith
weight_each level left (x ∷ xs) = omega (arith, weight_each level left xs)

weight_below : (level levels : ℕ) (items : List Item) → length items < 2 ^ 64 → stack_weight (pending level levels items) < weight levels
unfolding weight stack_weight
weight_below level zero items few = omega arith
weight_below level (suc left) items few =
    omega (arith, weight_each level left items, mul-lt-mul_of_pos_right {m = length items} {n = 2 ^ 64} {k = weight left} few (weight_some left))

pub pushed_weight : (ps : List Pending) (level levels : ℕ) (items : List Item) → length items < 2 ^ 64 → stack_weight (ps ++ reverse (pending level levels items)) < weight levels + stack_weight ps
pushed_weight ps level levels items few =
    omega (arith, weight_append ps (reverse (pending level levels items)), weight_reverse (pending level levels items), weight_below level levels items few)

-- ---- the names that are pushed one by one, the last one first

map_map : {X Y Z : Type 0} (f : Y → Z) (g : X → Y) (xs : List X) → map f (map g xs) ≡ map (λ x. f (g x)) xs
map_map f g [] = refl
map_map f g (x ∷ xs) = ap (λ (l : List _). f (g x) ∷ l) (map_map f g xs)

pub pushed_all : (level levels left k : ℕ) (names : List Named) → levels ≡ suc left → k ≡ 0
    → reverse (map (λ n. pending_at level left (item_of n)) (drop k names)) ≡ reverse (pending level levels (map item_of names))
pushed_all level levels left k names more none = rw (more, none) (ap reverse (sym (map_map (pending_at level left) item_of names)))

-- ---- the name that is taken

pub popped : (old new : List Pending) (o : Option Pending) (p : Pending) → old ≡ new ++ option_to_list o → o ≡ Some p → old ≡ new ++ p ∷ []
popped old new o p is some = is ∙ ap (λ (x : Option Pending). new ++ option_to_list x) some

pub none_left : (image : Image) (ps : List Pending) → length ps ≡ 0 → stack_lines image ps ≡ []
unfolding stack_lines
none_left image [] empty = refl
none_left image (p ∷ ps) empty = absurd (omega (arith, empty))

-- the lines so far with those of a name, and those that are left then
pub walk_on : (so_far line below rest old new all : List ℕ) → so_far ++ old ≡ all → old ≡ (line ++ below) ++ rest → new ≡ below ++ rest → (so_far ++ line) ++ new ≡ all
walk_on so_far line below rest old new all whole taken replaced =
    append_assoc so_far line new ∙ ap (λ (l : List ℕ). so_far ++ (line ++ l)) replaced
    ∙ ap (λ (l : List ℕ). so_far ++ l) (sym (append_assoc line below rest) ∙ sym taken) ∙ whole

-- what is read of a directory
pub lists_some : (image : Image) (ino : ℕ) (o : Option (List Named)) (names : List Named) → o ≡ Some names → Lists image ino o
    → (is_directory_of image ino ≡ true) × (map item_of names ≡ names_of image ino)
lists_some image ino o names some lists = subst (Lists image ino) some lists

pub lists_none : (image : Image) (ino : ℕ) (o : Option (List Named)) → o ≡ None → Lists image ino o → is_directory_of image ino ≡ false
lists_none image ino o none lists = subst (Lists image ino) none lists

-- the names of the root have the lines of the tree
pub root_lines : (image : Image) (levels : ℕ) (ps none : List Pending) → levels ≡ nid_limit (layout image) → none ≡ []
    → stack_lines image ps ≡ lines_within levels image 0 3 ++ stack_lines image none → stack_lines image ps ≡ tree_lines image
unfolding tree_lines stack_lines
root_lines image levels ps none all empty is =
    is ∙ ap (λ (l : List Pending). lines_within levels image 0 3 ++ stack_lines image l) empty ∙ append-nil (lines_within levels image 0 3) ∙ ap (λ (n : ℕ). lines_within n image 0 3) all
