-- Moves that follow other moves: where they bring a block, and which extents it leaves.
use Rattle.std.proofs.Common.{◌≡◌, ℕ, List, [], ◌∷◌, ◌++◌, Bool, true, false, ◌==◌, ◌||◌, ◌&&◌, refl, ap, ◌∙◌}
use Rattle.std.specs.List.{list_any}
use Rattle.std.proofs.lemmas.List.Folds.{list_any-append}
use Rattle.f2_bytes.specs.Bytes.{Block}
use Rattle.f2_bytes.specs.Node.{is_regular, ext_addr, ext_len}
use Rattle.f2_bytes.specs.Defragment.{is_covered}
use Rattle.f2_commit.specs.Following.{Move, moved_to, place_after, is_moved, leaves_extent}

pub place_after-append : (xs ys : List Move) (a : ℕ) → place_after (xs ++ ys) a ≡ place_after ys (place_after xs a)
unfolding place_after
place_after-append [] ys a = refl
place_after-append (m ∷ xs) ys a = place_after-append xs ys (moved_to m a)

or_assoc : (a b c : Bool) → (a || (b || c)) ≡ ((a || b) || c)
or_assoc true b c = refl
or_assoc false b c = refl

pub is_moved-append : (xs ys : List Move) (a : ℕ) → is_moved (xs ++ ys) a ≡ (is_moved xs a || is_moved ys (place_after xs a))
unfolding place_after is_moved
is_moved-append [] ys a = refl
is_moved-append (m ∷ xs) ys a = ap (λ r. (m.from == a) || r) (is_moved-append xs ys (moved_to m a)) ∙ or_assoc (m.from == a) (is_moved xs (moved_to m a)) (is_moved ys (place_after xs (moved_to m a)))

and_or : (r a b : Bool) → (r && (a || b)) ≡ ((r && a) || (r && b))
and_or true a b = refl
and_or false a b = refl

pub leaves_extent-append : (xs ys : List Move) (b : Block) → leaves_extent (xs ++ ys) b ≡ (leaves_extent xs b || leaves_extent ys b)
unfolding leaves_extent
leaves_extent-append xs ys b =
    ap (λ r. is_regular b && r) (list_any-append (λ (m : Move). is_covered (ext_addr b, ext_len b) m.from) xs ys)
    ∙ and_or (is_regular b) (list_any (λ (m : Move). is_covered (ext_addr b, ext_len b) m.from) xs) (list_any (λ (m : Move). is_covered (ext_addr b, ext_len b) m.from) ys)
