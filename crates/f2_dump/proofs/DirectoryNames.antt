-- What is read of a directory.
use Rattle.std.proofs.Common.{◌≡◌, ◌≢◌, ◌∙◌, ℕ, ◌/◌, Bool, true, false, cond, not, List, [], ◌∷◌, map, filter, Some, None, refl, ap, arith}
use Rattle.std.specs.Prelude.{◌&&◌}
use Rattle.std.proofs.lemmas.Bool.Decides.{nat_tests}
use Rattle.f2_bytes.specs.Bytes.{Block, Image}
use Rattle.f2_bytes.specs.Directory.{Item}
use Rattle.f2_bytes.specs.Names.{is_dots}
use Rattle.f2_bytes.specs.Node.{mode}
use Rattle.f2_bytes.specs.Tree.{tree_items}
use Rattle.f2_dump.specs.Files.{inode_of}
use Rattle.f2_dump.specs.Orders.{in_order}
use Rattle.f2_dump.specs.Trees.{is_before, is_directory_of, names_of}

pub none_there : (image : Image) (ino : ℕ) (found : Bool) (b : Block) → inode_of image ino ≡ cond found (Some b) None → found ≡ false → is_directory_of image ino ≡ false
unfolding is_directory_of
none_there image ino true b is out = cc
none_there image ino false b is out = rw is refl

pub file_there : (image : Image) (ino : ℕ) (found : Bool) (b : Block) → inode_of image ino ≡ cond found (Some b) None → (mode b / 4096 ≢ 4) → is_directory_of image ino ≡ false
unfolding is_directory_of
file_there image ino false b is other = rw is refl
file_there image ino true b is other = rw is (grind (arith, nat_tests))

pub directory_there : (image : Image) (ino : ℕ) (found : Bool) (b : Block) → inode_of image ino ≡ cond found (Some b) None → found ≡ true → mode b / 4096 ≡ 4 → is_directory_of image ino ≡ true
unfolding is_directory_of
directory_there image ino false b is found same = cc
directory_there image ino true b is found same = rw is (grind (arith, nat_tests))

twice_step : {X : Type 0} (q : X → Bool) (s t : Bool) (y : X) (kept both : List X) → q y ≡ t → filter q kept ≡ both → filter q (cond s (y ∷ kept) kept) ≡ cond (s && t) (y ∷ both) both
twice_step q false t y kept both is more = more
twice_step q true true y kept both is more = rw is (ap (λ (l : List _). y ∷ l) more)
twice_step q true false y kept both is more = rw is more

filter_twice : {X : Type 0} (p q : X → Bool) (xs : List X) → filter q (filter p xs) ≡ filter (λ x. p x && q x) xs
filter_twice p q [] = refl
filter_twice p q (x ∷ xs) = twice_step q (p x) (q x) x (filter p xs) (filter (λ y. p y && q y) xs) refl (filter_twice p q xs)

map_step : {X Y : Type 0} (f : X → Y) (t : Bool) (x : X) (kept : List X) (mapped : List Y) → map f kept ≡ mapped → map f (cond t (x ∷ kept) kept) ≡ cond t (f x ∷ mapped) mapped
map_step f true x kept mapped more = ap (λ (l : List _). f x ∷ l) more
map_step f false x kept mapped more = more

pub filter_of_map : {X Y : Type 0} (f : X → Y) (p : Y → Bool) (xs : List X) → map f (filter (λ x. p (f x)) xs) ≡ filter p (map f xs)
filter_of_map f p [] = refl
filter_of_map f p (x ∷ xs) = map_step f (p (f x)) x (filter (λ y. p (f y)) xs) (filter p (map f xs)) (filter_of_map f p xs)

-- the names that are read, without the dots and put in order, are those of the directory
pub names_read : (image : Image) (ino : ℕ) (read kept ordered : List Item) → is_directory_of image ino ≡ true → read ≡ filter (λ item. item.is_legal) (tree_items image ino)
    → kept ≡ filter (λ item. not (is_dots item.name)) read → ordered ≡ in_order is_before kept → ordered ≡ names_of image ino
unfolding names_of
names_read image ino read kept ordered directory entries dropped order =
    rw directory (order ∙ ap (in_order is_before) (dropped ∙ ap (filter (λ item. not (is_dots item.name))) entries
    ∙ filter_twice (λ (item : Item). item.is_legal) (λ (item : Item). not (is_dots item.name)) (tree_items image ino)))
