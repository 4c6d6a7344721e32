-- The walk along a chain, step by step.
use Rattle.std.proofs.Common.{◌≡◌, ℕ, zero, suc, ◌+◌, ◌-◌, ◌*◌, ◌<◌, ◌≤◌, List, [], ◌∷◌, ◌++◌, Bool, true, false, cond, ◌==◌, ◌&&◌, ◌||◌, not, nat_le, nat_lt, Option, Some, None, map, refl, sym, ap, ◌∙◌, arith, below_more}
use Rattle.std.specs.Prelude.{unwrap_or, if◌then◌else◌}
use Rattle.std.specs.List.{list_all, range_with_len}
use Rattle.std.proofs.lemmas.Bool.{and_parts, eqb-false, ne_eqb, not-true, leb-true, ltb-true}
use Rattle.f2_bytes.specs.declared.layout.Layout.{Layout}
use Rattle.f2_bytes.specs.Bytes.{Block, Image, block_at, numbers_below}
use Rattle.f2_bytes.specs.Checkpoint.{head, log}
use Rattle.f2_bytes.specs.Node.{footer_next}
use Rattle.f2_bytes.specs.RollForward.{chain_address, chain_length, is_chain_node, is_of_version}
use Rattle.f2_bytes.specs.Superblock.{layout, is_main, segment_start}
use Rattle.f2_bytes.proofs.Below.{each_below}
use Rattle.f2_bytes.proofs.Finds.{find-least}
use Rattle.f2_roll.specs.Chain.{Followed, chain_in, is_among, goes_on, link_in}
use Rattle.f2_roll.specs.declared.links.Link.{Link}
use Rattle.f2_roll.proofs.Pigeons.{pigeons}

-- i nodes of the chain were met, and the next one, if there is one, has this address
pub record IsWalk (image : Image) (i : ℕ) (nodes : List ℕ) (address : ℕ) : Type 0 where
  pub nodes_are : nodes ≡ map (chain_address image) (numbers_below i)
  pub address_is : address ≡ chain_address image i
  pub each : (m : ℕ) → m < i → is_chain_node image m ≡ true

-- ---- lists of the numbers below a limit

map-more : (f : ℕ → ℕ) (i : ℕ) → map f (numbers_below (i + 1)) ≡ map f (numbers_below i) ++ f i ∷ []
unfolding numbers_below
map-more f i =
    let one : i + 1 ≡ suc i = omega arith in
    ap (λ k. map f (range_with_len 0 k)) one ∙ from 0 i ∙ ap (λ k. map f (range_with_len 0 i) ++ f k ∷ []) (omega arith)
  where
    from : (a n : ℕ) → map f (range_with_len a (suc n)) ≡ map f (range_with_len a n) ++ f (a + n) ∷ []
    from a zero = ap (λ k. f k ∷ []) (omega arith)
    from a (suc n) =
        let later : a + 1 + n ≡ a + suc n = omega arith in
        ap (λ (l : List ℕ). f a ∷ l) (from (a + 1) n ∙ ap (λ k. map f (range_with_len (a + 1) n) ++ f k ∷ []) later)

new-not_among : (f : ℕ → ℕ) (a : ℕ) (xs : List ℕ) → list_all (λ m. not (f m == a)) xs ≡ not (is_among (map f xs) a)
new-not_among f a [] = refl
new-not_among f a (x ∷ xs) = ap (λ b. not (f x == a) && b) (new-not_among f a xs) ∙ both (f x == a) (is_among (map f xs) a)
  where
    both : (b c : Bool) → (not b && not c) ≡ not (b || c)
    both true c = refl
    both false c = refl

-- ---- the test of a node

node-goes_on : (image : Image) (i : ℕ) → is_chain_node image i ≡ goes_on (layout image) (head image) (map (chain_address image) (numbers_below i)) image (chain_address image i)
node-goes_on image i =
    ap (λ b. is_main (layout image) (chain_address image i) && b && is_of_version (head image) (block_at image (chain_address image i)))
    (new-not_among (chain_address image) (chain_address image i) (numbers_below i))

node-walked : (image : Image) (l : Layout) (hd : Block) (i : ℕ) (nodes : List ℕ) (address : ℕ) → l ≡ layout image → hd ≡ head image → IsWalk image i nodes address
    → goes_on l hd nodes image address ≡ is_chain_node image i
node-walked image l hd i nodes address l_is head_is walk =
    (λ k. goes_on (l_is k) (head_is k) (walk.nodes_are k) image (walk.address_is k)) ∙ sym (node-goes_on image i)

-- ---- one step

pub walk-start : (image : Image) (l : Layout) (hd : Block) (nodes : List ℕ) (address : ℕ) → l ≡ layout image → hd ≡ head image
    → nodes ≡ [] → address ≡ segment_start l (log hd 4).segment + (log hd 4).offset → IsWalk image 0 nodes address
unfolding numbers_below chain_address
walk-start image l hd nodes address l_is head_is none at = record {
  nodes_are = none;
  address_is = at ∙ λ k. segment_start (l_is k) (log (head_is k) 4).segment + (log (head_is k) 4).offset;
  each = λ m low. absurd (omega (arith, low));
}

pub walk-more : (image : Image) (l : Layout) (hd : Block) (i : ℕ) (nodes : List ℕ) (address : ℕ) (link : Link) (longer : List ℕ) (next : ℕ) → l ≡ layout image → hd ≡ head image → IsWalk image i nodes address
    → Some link ≡ link_in l hd nodes image address → longer ≡ nodes ++ link.at ∷ [] → next ≡ link.next → IsWalk image (i + 1) longer next
unfolding chain_address
walk-more image l hd i nodes address link longer next l_is head_is walk is longer_is next_is = go (goes_on l hd nodes image address) refl is
  where
    here : Link
    here = record { at = address; next = footer_next (block_at image address) }

    go : (b : Bool) → goes_on l hd nodes image address ≡ b → Some link ≡ cond b (Some here) None → IsWalk image (i + 1) longer next
    go false fails none = cc
    go true passes some =
        let same : link ≡ here = cc in
        let one : i + 1 ≡ suc i = omega arith in
        let node : is_chain_node image i ≡ true = sym (node-walked image l hd i nodes address l_is head_is walk) ∙ passes in
        record {
          nodes_are = longer_is ∙ (λ k. walk.nodes_are k ++ ((ap (λ (x : Link). x.at) same ∙ walk.address_is) k) ∷ []) ∙ sym (map-more (chain_address image) i);
          address_is = next_is ∙ ap (λ (x : Link). x.next) same ∙ ap (λ a. footer_next (block_at image a)) walk.address_is ∙ ap (chain_address image) (sym one);
          each = below_more _ i walk.each node;
        }

-- ---- its end

length-walked : (image : Image) (i : ℕ) → i < 512 * (layout image).segments + 1 → ((m : ℕ) → m < i → is_chain_node image m ≡ true) → is_chain_node image i ≡ false → chain_length image ≡ i
unfolding chain_length
length-walked image i low each ends =
    ap (λ o. unwrap_or o 0)
    (find-least (λ n. not (is_chain_node image n)) (512 * (layout image).segments + 1) i low (ap not ends) (λ m lt. ap not (each m lt)))

walk-ended : (image : Image) (l : Layout) (i : ℕ) (nodes : List ℕ) (address : ℕ) (stop : Option ℕ) (c : Followed) → l ≡ layout image → IsWalk image i nodes address → is_chain_node image i ≡ false
    → i < 512 * (layout image).segments + 1 → stop ≡ (if is_main l address then Some address else None) → c ≡ record { nodes = nodes; stop = stop } → c ≡ chain_in image
walk-ended image l i nodes address stop c l_is walk ends low stop_is is =
    let n : chain_length image ≡ i = length-walked image i low walk.each ends in
    is
    ∙ (λ k. record { nodes = walk.nodes_are k; stop = (stop_is ∙ λ j. stop_at (l_is j) (walk.address_is j)) k })
    ∙ (λ k. record { nodes = map (chain_address image) (numbers_below (sym n k)); stop = stop_at (layout image) (chain_address image (sym n k)) })
  where
    stop_at : Layout → ℕ → Option ℕ
    stop_at m a = if is_main m a then Some a else None

-- the chain doesn't go on at this address
pub walk-ends : (image : Image) (l : Layout) (hd : Block) (i : ℕ) (nodes : List ℕ) (address : ℕ) (stop : Option ℕ) (c : Followed) → l ≡ layout image → hd ≡ head image → IsWalk image i nodes address
    → None ≡ link_in l hd nodes image address → i < 512 * l.segments → stop ≡ (if is_main l address then Some address else None) → c ≡ record { nodes = nodes; stop = stop } → c ≡ chain_in image
walk-ends image l hd i nodes address stop c l_is head_is walk none low stop_is is =
    walk-ended image l i nodes address stop c l_is walk (sym (node-walked image l hd i nodes address l_is head_is walk) ∙ fails (goes_on l hd nodes image address) refl none)
    (omega (arith, low, ap (λ (m : Layout). m.segments) l_is)) stop_is is
  where
    here : Link
    here = record { at = address; next = footer_next (block_at image address) }

    fails : (b : Bool) → goes_on l hd nodes image address ≡ b → None ≡ cond b (Some here) None → goes_on l hd nodes image address ≡ false
    fails true at bad = cc
    fails false at so = at

-- not one node more than the main area has blocks
module _ (image : Image) (each : (i : ℕ) → i < 512 * (layout image).segments + 1 → is_chain_node image i ≡ true) where
  abbrev all : ℕ
  all = 512 * (layout image).segments

  parts_of : (i : ℕ) → i < all + 1
      → (is_main (layout image) (chain_address image i) ≡ true) × (list_all (λ m. not (chain_address image m == chain_address image i)) (numbers_below i) ≡ true)
  parts_of i b = let parts = and_parts _ _ (and_parts _ _ (each i b)).0 in (parts.0, parts.1)

  inside : (i : ℕ) → i < all + 1 → ((layout image).main ≤ chain_address image i) × (chain_address image i < (layout image).main + all)
  inside i b =
      let parts = and_parts (nat_le (layout image).main (chain_address image i)) (nat_lt (chain_address image i) ((layout image).main + all)) (parts_of i b).0 in
      (leb-true (layout image).main (chain_address image i) parts.0, ltb-true (chain_address image i) ((layout image).main + all) parts.1)

  low : (i : ℕ) → i < all + 1 → chain_address image i - (layout image).main < all
  low i b = let t = inside i b in omega (arith, t.0, t.1)

  apart : (i j : ℕ) → i < j → j < all + 1 → (chain_address image i - (layout image).main == chain_address image j - (layout image).main) ≡ false
  apart i j before b =
      let differs : not (chain_address image i == chain_address image j) ≡ true = each_below (λ m. not (chain_address image m == chain_address image j)) j (parts_of j b).1 i before in
      let away : chain_address image i ≡ chain_address image j → ⊥ = eqb-false (chain_address image i) (chain_address image j) (not-true (chain_address image i == chain_address image j) differs) in
      let s = inside i (omega (arith, before, b)) in
      let t = inside j b in
      ne_eqb (chain_address image i - (layout image).main) (chain_address image j - (layout image).main) (λ e. away (omega (arith, e, s.0, t.0)))

  too_many : ⊥
  too_many = pigeons (λ i. chain_address image i - (layout image).main) all low apart

no_more : (image : Image) → ((m : ℕ) → m < 512 * (layout image).segments → is_chain_node image m ≡ true) → is_chain_node image (512 * (layout image).segments) ≡ false
no_more image before = go (is_chain_node image (512 * (layout image).segments)) refl
  where
    go : (b : Bool) → is_chain_node image (512 * (layout image).segments) ≡ b → is_chain_node image (512 * (layout image).segments) ≡ false
    go false is = is
    go true is = absurd (too_many image (below_more _ (512 * (layout image).segments) before is))

-- the chain has each block of the main area
pub walk-full : (image : Image) (l : Layout) (i : ℕ) (nodes : List ℕ) (address : ℕ) (stop : Option ℕ) (c : Followed) → l ≡ layout image → IsWalk image i nodes address
    → i ≡ 512 * l.segments → stop ≡ (if is_main l address then Some address else None) → c ≡ record { nodes = nodes; stop = stop } → c ≡ chain_in image
walk-full image l i nodes address stop c l_is walk full stop_is is =
    let at : i ≡ 512 * (layout image).segments = full ∙ ap (λ (m : Layout). 512 * m.segments) l_is in
    walk-ended image l i nodes address stop c l_is walk
    (ap (is_chain_node image) at ∙ no_more image (λ m low. walk.each m (omega (arith, low, at)))) (omega (arith, at)) stop_is is
