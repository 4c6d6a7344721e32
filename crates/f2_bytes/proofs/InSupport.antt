-- Blocks that are in the support, kind by kind, and what another image with the support of this one shares with it.
use Rattle.std.proofs.Common.{◌≡◌, ℕ, ◌+◌, ◌*◌, ◌<◌, Bool, true, false, ◌||◌, ◌&&◌, ◌==◌, nat_le, nat_lt, not, Some, refl, arith}
use Rattle.std.specs.List.{list_any}
use Rattle.std.specs.Option.{option_map_or}
use Rattle.std.proofs.lemmas.Bool.{and_from, or_left, or_right, lt-ltb, le-leb, eq-eqb}
use Rattle.f2_bytes.specs.Bytes.{Block, Image, block_at, numbers_below}
use Rattle.f2_bytes.specs.Superblock.{passes, layout, is_main}
use Rattle.f2_bytes.specs.Checkpoint.{pack_total_block_count, head, pack_number, sit_bits, nat_bits, is_log_segment}
use Rattle.f2_bytes.specs.Journal.{NatEntry}
use Rattle.f2_bytes.specs.NodeAddressTable.{nid_limit, nat, nat_block_address}
use Rattle.f2_bytes.specs.SegmentTable.{sit_block_address, has_valid_block}
use Rattle.f2_bytes.specs.RollForward.{found_place, node_block, chain, chain_stop}
use Rattle.f2_bytes.specs.Check.{is_checked}
use Rattle.f2_bytes.specs.Support.{is_support, has_slot_word, is_passing_copy, is_pack_block, is_table_block, is_node_place, is_slot_address, is_chain_block, is_needed_summary}
use Rattle.f2_bytes.proofs.Below.{some_below}
use Rattle.f2_bytes.proofs.CheckedNodes.{nat-below}

-- one of the kinds
first_kind : (a b c d e : Bool) → a ≡ true → (a || b || c || d || e) ≡ true
first_kind a b c d e h = rw h refl

second_kind : (a b c d e : Bool) → b ≡ true → (a || b || c || d || e) ≡ true
second_kind true b c d e h = refl
second_kind false b c d e h = rw h refl

third_kind : (a b c d e : Bool) → c ≡ true → (a || b || c || d || e) ≡ true
third_kind true b c d e h = refl
third_kind false true c d e h = refl
third_kind false false c d e h = rw h refl

fourth_kind : (a b c d e : Bool) → d ≡ true → (a || b || c || d || e) ≡ true
fourth_kind true b c d e h = refl
fourth_kind false true c d e h = refl
fourth_kind false false true d e h = refl
fourth_kind false false false d e h = rw h refl

fifth_kind : (a b c d e : Bool) → e ≡ true → (a || b || c || d || e) ≡ true
fifth_kind true b c d e h = refl
fifth_kind false true c d e h = refl
fifth_kind false false true d e h = refl
fifth_kind false false false true e h = refl
fifth_kind false false false false e h = h

first_use : (m n o p : Bool) → m ≡ true → n ≡ true → (m && (n || o || p)) ≡ true
first_use m n o p h i = rw (h, i) refl

second_use : (m n o p : Bool) → m ≡ true → o ≡ true → (m && (n || o || p)) ≡ true
second_use m true o p h i = rw h refl
second_use m false o p h i = rw (h, i) refl

third_use : (m n o p : Bool) → m ≡ true → p ≡ true → (m && (n || o || p)) ≡ true
third_use m true o p h i = rw h refl
third_use m false true p h i = rw h refl
third_use m false false p h i = rw (h, i) refl

-- a block is in the support where it is of one of the kinds
abbrev in_main_use : Image → ℕ → Bool
in_main_use image address = is_main (layout image) address && (is_node_place image address || is_slot_address image address || is_chain_block image address)

of_copy : (image : Image) (address : ℕ) → is_passing_copy image address ≡ true → is_support image address ≡ true
unfolding is_support
of_copy image address h = first_kind (is_passing_copy image address) (is_pack_block image address) (is_table_block image address) (in_main_use image address) (is_needed_summary image address) h

of_pack : (image : Image) (address : ℕ) → is_pack_block image address ≡ true → is_support image address ≡ true
unfolding is_support
of_pack image address h = second_kind (is_passing_copy image address) (is_pack_block image address) (is_table_block image address) (in_main_use image address) (is_needed_summary image address) h

of_table : (image : Image) (address : ℕ) → is_table_block image address ≡ true → is_support image address ≡ true
unfolding is_support
of_table image address h = third_kind (is_passing_copy image address) (is_pack_block image address) (is_table_block image address) (in_main_use image address) (is_needed_summary image address) h

of_main : (image : Image) (address : ℕ) → in_main_use image address ≡ true → is_support image address ≡ true
unfolding is_support
of_main image address h = fourth_kind (is_passing_copy image address) (is_pack_block image address) (is_table_block image address) (in_main_use image address) (is_needed_summary image address) h

of_summary : (image : Image) (address : ℕ) → is_needed_summary image address ≡ true → is_support image address ≡ true
unfolding is_support
of_summary image address h = fifth_kind (is_passing_copy image address) (is_pack_block image address) (is_table_block image address) (in_main_use image address) (is_needed_summary image address) h

-- a passing copy
pub copy_in : (image : Image) (n : ℕ) → n < 2 → passes (block_at image n) ≡ true → is_support image n ≡ true
copy_in image n low pass = of_copy image n (and_from (nat_lt n 2) (passes (block_at image n)) (lt-ltb n 2 low) pass)

-- a block of the pack that counts
pub pack_in : (image : Image) (j : ℕ) → j < pack_total_block_count (head image) → is_support image ((layout image).cp + 512 * pack_number image + j) ≡ true
pack_in image j low =
    let start = (layout image).cp + 512 * pack_number image in
    of_pack image (start + j)
    (and_from (nat_le start (start + j)) (nat_lt (start + j) (start + pack_total_block_count (head image)))
    (le-leb start (start + j) (omega arith))
    (lt-ltb (start + j) (start + pack_total_block_count (head image)) (omega (arith, low))))

-- a block of a table, in the copy in use
pub nat_in : (image : Image) (k : ℕ) → k < (layout image).nat_half → is_support image (nat_block_address (layout image) (nat_bits (head image)) k) ≡ true
nat_in image k low =
    let address = nat_block_address (layout image) (nat_bits (head image)) k in
    let found = some_below (λ j. nat_block_address (layout image) (nat_bits (head image)) j == address) (layout image).nat_half k low (eq-eqb address address refl) in
    of_table image address
    (or_left (list_any (λ j. nat_block_address (layout image) (nat_bits (head image)) j == address) (numbers_below (layout image).nat_half))
    (list_any (λ j. sit_block_address (layout image) (sit_bits (head image)) j == address) (numbers_below (layout image).sit_half)) found)

pub sit_in : (image : Image) (k : ℕ) → k < (layout image).sit_half → is_support image (sit_block_address (layout image) (sit_bits (head image)) k) ≡ true
sit_in image k low =
    let address = sit_block_address (layout image) (sit_bits (head image)) k in
    let found = some_below (λ j. sit_block_address (layout image) (sit_bits (head image)) j == address) (layout image).sit_half k low (eq-eqb address address refl) in
    of_table image address
    (or_right (list_any (λ j. nat_block_address (layout image) (nat_bits (head image)) j == address) (numbers_below (layout image).nat_half))
    (list_any (λ j. sit_block_address (layout image) (sit_bits (head image)) j == address) (numbers_below (layout image).sit_half)) found)

-- the block of a node
pub node_in : (image : Image) (nid : ℕ) (e : NatEntry) → nat image nid ≡ Some e → is_main (layout image) e.address ≡ true → is_support image e.address ≡ true
node_in image nid e is main =
    let by_nat = λ (n : ℕ). option_map_or (λ x. x.address == e.address) (nat image n) false in
    let by_found = λ (n : ℕ). option_map_or (λ at. at.address == e.address) (found_place image n) false in
    let here : by_nat nid ≡ true = rw is (eq-eqb e.address e.address refl) in
    let found : is_node_place image e.address ≡ true = some_below (λ n. by_nat n || by_found n) (nid_limit (layout image)) nid (nat-below image nid e is) (or_left (by_nat nid) (by_found nid) here) in
    of_main image e.address (first_use (is_main (layout image) e.address) (is_node_place image e.address) (is_slot_address image e.address) (is_chain_block image e.address) main found)

-- a block that a node has among its slots
pub slot_in_support : (image : Image) (nid : ℕ) (b : Block) (address : ℕ) → nid < nid_limit (layout image) → node_block image nid ≡ Some b → has_slot_word b address ≡ true → is_main (layout image) address ≡ true
    → is_support image address ≡ true
slot_in_support image nid b address below is has main =
    let named = λ (n : ℕ). option_map_or (λ x. has_slot_word x address) (node_block image n) false in
    let here : named nid ≡ true = rw is has in
    let found : is_slot_address image address ≡ true = some_below named (nid_limit (layout image)) nid below here in
    of_main image address (second_use (is_main (layout image) address) (is_node_place image address) (is_slot_address image address) (is_chain_block image address) main found)

-- the block behind the chain
pub stop_in : (image : Image) (address : ℕ) → chain_stop image ≡ Some address → is_main (layout image) address ≡ true → is_support image address ≡ true
stop_in image address is main =
    let here : option_map_or (λ a. a == address) (chain_stop image) false ≡ true = rw is (eq-eqb address address refl) in
    let found : is_chain_block image address ≡ true = or_right (list_any (λ a. a == address) (chain image)) (option_map_or (λ a. a == address) (chain_stop image) false) here in
    of_main image address (third_use (is_main (layout image) address) (is_node_place image address) (is_slot_address image address) (is_chain_block image address) main found)

-- on a checked image, the summary block of a segment with valid blocks that is no log's
pub summary_in_support : (image : Image) (segment : ℕ) → is_checked image ≡ true → segment < (layout image).segments → has_valid_block image segment ≡ true → is_log_segment (head image) segment ≡ false
    → is_support image ((layout image).ssa + segment) ≡ true
summary_in_support image segment h below valid other =
    let address = (layout image).ssa + segment in
    let test = λ (n : ℕ). ((layout image).ssa + n == address) && has_valid_block image n && not (is_log_segment (head image) n) in
    let here : test segment ≡ true = rw (eq-eqb address address refl, valid, other) refl in
    let found : list_any test (numbers_below (layout image).segments) ≡ true = some_below test (layout image).segments segment below here in
    of_summary image address (and_from (is_checked image) (list_any test (numbers_below (layout image).segments)) h found)
