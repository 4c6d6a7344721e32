-- The places of names, each the first that fits after those before.
use Rattle.std.proofs.Common.{◌≡◌, ℕ, ◌+◌, ◌≤◌, ◌<◌, Bool, cond, List, [], ◌∷◌, ◌++◌, length, refl, sym, ap, ◌∙◌, arith, append_assoc, length-append}
use Rattle.std.proofs.lemmas.Bool.{cond-true, lt-ltb}
use Rattle.std.specs.Prelude.{All, find, position, map, flat_map, not, ◌&&◌, nat_le, nat_lt, Option, Some, None, is_none}
use Rattle.std.specs.List.{list_any, cons_option, range_with_len, position_or_len}
use Rattle.std.proofs.lemmas.List.{append-nil, length-map}
use Rattle.std.proofs.lemmas.List.Elements.{All-nil, All-head, All-tail, All-append, All-map, All-weaker}
use Rattle.f2_bytes.specs.Buckets.{Placed, is_overlapping, places_in_level, candidates, first_fit, placed_after, places_of, first_without_place, bucket_start, bucket_blocks}
use Rattle.f2_bytes.specs.Directory.{block_slots}
use Rattle.f2_bytes.specs.Names.{name_hash, slots_for}
use Rattle.f2_dent.specs.Places.{Blocks, has_place, level_places}
use Rattle.f2_dent.specs.Entries.{first_place}
use Rattle.f2_dent.proofs.Standing.{Named, IsStanding, place_is}

-- one name more
pub places_step : (levels : ℕ) (before : List Placed) (names : List (List ℕ)) (placed : List Placed) (name : List ℕ) (more : List (List ℕ)) → placed_after levels before names ≡ map Some placed
    → placed_after levels before (names ++ name ∷ more) ≡ map Some placed ++ (first_fit levels (before ++ placed) name ∷ placed_after levels ((before ++ placed) ++ cons_option (first_fit levels (before ++ placed) name) []) more)
unfolding placed_after
places_step levels before [] [] name more are =
    ap (λ b. first_fit levels b name ∷ placed_after levels (b ++ cons_option (first_fit levels b name) []) more) (sym (append-nil before))
places_step levels before [] (p ∷ ps) name more are = cc
places_step levels before (x ∷ xs) [] name more are = cc
places_step levels before (x ∷ xs) (p ∷ ps) name more are =
    let here : first_fit levels before x ≡ Some p = cc in
    let rest : placed_after levels (before ++ cons_option (first_fit levels before x) []) xs ≡ map Some ps = cc in
    let next : placed_after levels (before ++ p ∷ []) xs ≡ map Some ps = ap (λ o. placed_after levels (before ++ cons_option o []) xs) (sym here) ∙ rest in
    let all : (before ++ p ∷ []) ++ ps ≡ before ++ (p ∷ ps) = append_assoc before (p ∷ []) ps in
    (λ i. here i ∷ placed_after levels (before ++ cons_option (here i) []) (xs ++ name ∷ more))
    ∙ ap (λ l. Some p ∷ l)
    (places_step levels (before ++ p ∷ []) xs ps name more next
    ∙ ap (λ b. map Some ps ++ (first_fit levels b name ∷ placed_after levels (b ++ cons_option (first_fit levels b name) []) more)) all)

-- the first that is none, behind so many that are some
none_at : (placed : List Placed) (rest : List (Option Placed)) → position_or_len is_none (map Some placed ++ None ∷ rest) ≡ length placed
none_at [] rest = refl
none_at (p ∷ ps) rest = omega (arith, none_at ps rest)

none_within : (placed : List Placed) (rest : List (Option Placed)) → length placed < length (map Some placed ++ None ∷ rest)
none_within placed rest = omega (arith, length-append (map Some placed) (None ∷ rest), length-map {B = Option Placed} placed Some)

none_first : (placed : List Placed) (rest : List (Option Placed)) → position is_none (map Some placed ++ None ∷ rest) ≡ Some (length placed)
none_first placed rest =
    let all : List (Option Placed) = map Some placed ++ None ∷ rest in
    ap (λ i. cond (nat_lt i (length all)) (Some i) None) (none_at placed rest)
    ∙ cond-true (nat_lt (length placed) (length all)) (Some (length placed)) None (lt-ltb (length placed) (length all) (none_within placed rest))

-- the first name without a place
pub first_none : (levels : ℕ) (names : List (List ℕ)) (placed : List Placed) (name : List ℕ) (more : List (List ℕ)) → places_of levels names ≡ map Some placed → first_fit levels placed name ≡ None → first_without_place levels (names ++ name ∷ more) ≡ Some (length placed)
first_none levels names placed name more are none =
    ap (position is_none) (places_step levels [] names placed name more are)
    ∙ ap (λ o. position is_none (map Some placed ++ (o ∷ placed_after levels (placed ++ cons_option o []) more))) none
    ∙ none_first placed (placed_after levels (placed ++ []) more)

pub one_more : (levels : ℕ) (names : List (List ℕ)) (placed : List Placed) (name : List ℕ) (p : Placed) → places_of levels names ≡ map Some placed → first_fit levels placed name ≡ Some p → places_of levels (names ++ name ∷ []) ≡ map Some (placed ++ p ∷ [])
unfolding placed_after
one_more levels names placed name p are is =
    places_step levels [] names placed name [] are
    ∙ ap (λ o. map Some placed ++ (o ∷ [])) is
    ∙ sym (map_more placed p)
  where
    map_more : (ps : List Placed) (q : Placed) → map Some (ps ++ q ∷ []) ≡ map Some ps ++ Some q ∷ []
    map_more [] q = refl
    map_more (x ∷ xs) q = ap (λ l. Some x ∷ l) (map_more xs q)

-- ---- the first that fits is the first place that is free

find_same : {X : Type 0} (p q : X → Bool) (xs : List X) → All (λ x. p x ≡ q x) xs → find p xs ≡ find q xs
find_same p q [] same = refl
find_same p q (x ∷ xs) same = λ i. cond (All-head (λ y. p y ≡ q y) x xs same i) (Some x) (find_same p q xs (All-tail (λ y. p y ≡ q y) x xs same) i)

all_flat : {X Y : Type 0} (P : Y → Type 0) (f : X → List Y) (xs : List X) → ((x : X) → All P (f x)) → All P (flat_map f xs)
all_flat P f [] each = All-nil P
all_flat P f (x ∷ xs) each = All-append P (f x) (flat_map f xs) (each x) (all_flat P f xs each)

in_level : (hash slots level : ℕ) → All (λ p. p.slots ≡ slots) (places_in_level hash slots level)
in_level hash slots level =
    let first : ℕ = bucket_start level 0 hash in
    let at : ℕ → ℕ → Placed = λ j slot. record { block = first + j; slot = slot; slots = slots } in
    all_flat (λ p. p.slots ≡ slots) (λ j. map (at j) (range_with_len 0 block_slots)) (range_with_len 0 (bucket_blocks level))
    (λ j. All-map (λ p. p.slots ≡ slots) (at j) (range_with_len 0 block_slots) (λ i d low. refl))

candidate_slots : (levels : ℕ) (name : List ℕ) → All (λ p. p.slots ≡ slots_for (length name)) (candidates levels name)
unfolding candidates
candidate_slots levels name = all_flat (λ p. p.slots ≡ slots_for (length name)) (places_in_level (name_hash name) (slots_for (length name))) (range_with_len 0 levels) (in_level (name_hash name) (slots_for (length name)))

candidates_are : (levels : ℕ) (name : List ℕ) → level_places (name_hash name) (slots_for (length name)) 0 levels ≡ candidates levels name
unfolding candidates level_places
candidates_are levels name = refl

pub fit_is : (levels levels_good : ℕ) (names : List Named) (blocks : Blocks) (name : List ℕ) → IsStanding levels_good names blocks → 1 ≤ length name → first_fit levels (map (λ at. at.1) names) name ≡ first_place levels blocks name
fit_is levels levels_good names blocks name standing some =
    let fits : Placed → Bool = λ p. nat_le (p.slot + p.slots) block_slots && not (list_any (is_overlapping p) (map (λ (at : Named). at.1) names)) in
    find_same fits (has_place blocks) (candidates levels name)
    (All-weaker (λ p. p.slots ≡ slots_for (length name)) (λ p. fits p ≡ has_place blocks p) (λ p is. sym (place_is levels_good names blocks p standing (omega (arith, is, some)))) (candidates levels name) (candidate_slots levels name))
    ∙ ap (find (has_place blocks)) (sym (candidates_are levels name))
