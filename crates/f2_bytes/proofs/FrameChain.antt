-- Another image with the support of a checked one has no chain either, and no orphan.
use Rattle.std.proofs.Common.{◌≡◌, ℕ, zero, suc, ◌+◌, ◌-◌, ◌*◌, ◌^◌, ◌<◌, ◌≤◌, List, [], ◌∷◌, Bool, true, false, ◌==◌, ◌&&◌, not, nat_le, nat_lt, Option, Some, None, length, get_or, map, refl, sym, ap, ◌∙◌, arith, add-one}
use Rattle.std.specs.Prelude.{find, unwrap_or, eqb}
use Rattle.std.specs.List.{list_any, list_all}
use Rattle.std.proofs.lemmas.Bool.{and_parts, eqb-true, eqb-false, ne_eqb, not-false, not-true, leb-true, ltb-true}
use Rattle.std.proofs.lemmas.List.Folds.{Any-from_list_any}
use Rattle.std.proofs.lemmas.Map.Keys.{IsDistinct-from_apart}
use Rattle.std.proofs.lemmas.Map.Steps.{length-le_from_distinct_below}
use Rattle.f2_bytes.specs.declared.layout.Layout.{Layout}
use Rattle.f2_bytes.specs.Bytes.{Block, Image, block_at, numbers_below, count_below}
use Rattle.f2_bytes.specs.Superblock.{layout, is_main, segment_start}
use Rattle.f2_bytes.specs.Checkpoint.{head, log, orphan_count}
use Rattle.f2_bytes.specs.RollForward.{chain_start, chain_address, is_chain_node, is_of_version, chain_length, chain_stop}
use Rattle.f2_bytes.specs.Check.{is_checked, is_checked_body}
use Rattle.f2_bytes.specs.Laws.{AgreesOnSupport}
use Rattle.f2_bytes.proofs.Below.{length-numbers_below, get_or-numbers_below, each_below}
use Rattle.f2_bytes.proofs.CheckedChain.{find_none, chain_length-checked}
use Rattle.f2_bytes.proofs.InSupport.{stop_in}
use Rattle.f2_bytes.proofs.SlotSupport.{body_checked}
use Rattle.f2_bytes.proofs.FrameTables.{head-frame, orphans_same}
use Rattle.f2_bytes.proofs.FrameTree.{loads, counts, same_layout}

get_or-mapped : (f : ℕ → ℕ) (xs : List ℕ) (i d : ℕ) → i < length xs → get_or (map f xs) i d ≡ f (get_or xs i d)
get_or-mapped f [] i d low = absurd (omega (arith, low))
get_or-mapped f (x ∷ xs) zero d low = refl
get_or-mapped f (x ∷ xs) (suc i) d low = get_or-mapped f xs i d (omega (arith, low))

length-mapped : (f : ℕ → ℕ) (xs : List ℕ) → length (map f xs) ≡ length xs
length-mapped f [] = refl
length-mapped f (x ∷ xs) = ap suc (length-mapped f xs)

-- n + 1 numbers below n are not all different
pub pigeons : (f : ℕ → ℕ) (n : ℕ) → ((i : ℕ) → i < n + 1 → f i < n) → ((i j : ℕ) → i < j → j < n + 1 → (f i == f j) ≡ false) → ⊥
pigeons f n low apart =
    let len : length xs ≡ n + 1 = length-mapped f (numbers_below (n + 1)) ∙ length-numbers_below (n + 1) in
    let few : length xs ≤ n = length-le_from_distinct_below xs n (IsDistinct-from_apart eqb xs distinct) below in
    omega (arith, len, few)
  where
    xs : List ℕ
    xs = map f (numbers_below (n + 1))

    at : (i d : ℕ) → i < n + 1 → get_or xs i d ≡ f i
    at i d h = get_or-mapped f (numbers_below (n + 1)) i d (rw length-numbers_below h) ∙ ap f (get_or-numbers_below (n + 1) i d h)

    distinct : (i j d : ℕ) → i < j → j < length xs → eqb (get_or xs i d) (get_or xs j d) ≡ false
    distinct i j d h inside =
        let len : length xs ≡ n + 1 = length-mapped f (numbers_below (n + 1)) ∙ length-numbers_below (n + 1) in
        let b : j < n + 1 = omega (arith, len, inside) in
        rw (at i d (omega (arith, h, b)), at j d b) (apart i j h b)

    below : (q : ℕ) → list_any (eqb q) xs ≡ true → q < n
    below q h =
        let found = Any-from_list_any (eqb q) xs h in
        let len : length xs ≡ n + 1 = length-mapped f (numbers_below (n + 1)) ∙ length-numbers_below (n + 1) in
        let b : found.0 < n + 1 = omega (arith, len, found.2) in
        let e : q ≡ f found.0 = eqb-true q (get_or xs found.0 found.1) (ap (eqb q) found.3 ∙ found.4) ∙ at found.0 found.1 b in
        let l = low found.0 b in
        omega (arith, e, l)

pub find_some : {A : Type 0} (p : A → Bool) (xs : List A) (x : A) → find p xs ≡ Some x → p x ≡ true
find_some p [] x e = absurd (cc e)
find_some p (y ∷ ys) x e = go (p y) refl (find_some p ys x)
  where
    go : (b : Bool) → p y ≡ b → (find p ys ≡ Some x → p x ≡ true) → p x ≡ true
    go true h more =
        let same : Some y ≡ Some x = rw h at e in
        let at : y ≡ x = ap (λ o. elim o [ Some z ↦ z | None ↦ y ]) same in
        ap p (sym at) ∙ h
    go false h more =
        let rest : find p ys ≡ Some x = rw h at e in
        more rest

find_first : (p : ℕ → Bool) (n : ℕ) → p 0 ≡ true → unwrap_or (find p (numbers_below (n + 1))) 0 ≡ 0
unfolding numbers_below
find_first p n h = rw add-one (rw h refl)

pub node_says : (image : Image) (n : ℕ) → is_chain_node image n ≡ true
    → (is_main (layout image) (chain_address image n) ≡ true) × (list_all (λ m. not (chain_address image m == chain_address image n)) (numbers_below n) ≡ true)
node_says image n h = let parts = and_parts _ _ (and_parts _ _ h).0 in (parts.0, parts.1)

-- the chain ends
pub chain_ends : (image : Image) → find (λ n. not (is_chain_node image n)) (numbers_below (512 * (layout image).segments + 1)) ≡ None → ⊥
chain_ends image e = pigeons (λ i. chain_address image i - (layout image).main) all low apart
  where
    all : ℕ
    all = 512 * (layout image).segments

    test : ℕ → Bool
    test n = not (is_chain_node image n)

    each : (i : ℕ) → i < all + 1 → is_chain_node image i ≡ true
    each i b =
        not-false (is_chain_node image i)
        (sym (ap test (get_or-numbers_below (all + 1) i 0 b)) ∙ find_none test (numbers_below (all + 1)) (rw e refl) i 0 (rw length-numbers_below b))

    inside : (i : ℕ) → i < all + 1 → ((layout image).main ≤ chain_address image i) × (chain_address image i < (layout image).main + all)
    inside i b =
        let main : is_main (layout image) (chain_address image i) ≡ true = (node_says image i (each i b)).0 in
        let parts = and_parts (nat_le (layout image).main (chain_address image i)) (nat_lt (chain_address image i) ((layout image).main + all)) main in
        (leb-true (layout image).main (chain_address image i) parts.0, ltb-true (chain_address image i) ((layout image).main + all) parts.1)

    low : (i : ℕ) → i < all + 1 → chain_address image i - (layout image).main < all
    low i b = let t = inside i b in omega (arith, t.0, t.1)

    apart : (i j : ℕ) → i < j → j < all + 1 → (chain_address image i - (layout image).main == chain_address image j - (layout image).main) ≡ false
    apart i j before b =
        let new : list_all (λ m. not (chain_address image m == chain_address image j)) (numbers_below j) ≡ true = (node_says image j (each j b)).1 in
        let differs : not (chain_address image i == chain_address image j) ≡ true = each_below (λ m. not (chain_address image m == chain_address image j)) j new i before in
        let away : chain_address image i ≡ chain_address image j → ⊥ = eqb-false (chain_address image i) (chain_address image j) (not-true (chain_address image i == chain_address image j) differs) in
        let s = inside i (omega (arith, before, b)) in
        let t = inside j b in
        ne_eqb (chain_address image i - (layout image).main) (chain_address image j - (layout image).main) (λ e. away (omega (arith, e, s.0, t.0)))

-- on a checked image the chain has no first node
pub no_first_node : (image : Image) → is_checked_body image ≡ true → is_chain_node image 0 ≡ false
unfolding chain_length
no_first_node image h = go (find test (numbers_below (all + 1))) refl
  where
    all : ℕ
    all = 512 * (layout image).segments

    test : ℕ → Bool
    test n = not (is_chain_node image n)

    go : (o : Option ℕ) → find test (numbers_below (all + 1)) ≡ o → is_chain_node image 0 ≡ false
    go (Some n) e =
        let none : unwrap_or (find test (numbers_below (all + 1))) 0 ≡ 0 = chain_length-checked image h in
        let at : n ≡ 0 = rw e at none in
        not-true (is_chain_node image 0) (ap test (sym at) ∙ find_some test (numbers_below (all + 1)) n e)
    go None e = absurd (chain_ends image e)

module _ (image other : Image) (s : AgreesOnSupport image other) (h : is_checked image ≡ true) where
  same_head : head other ≡ head image
  same_head = head-frame image other s (loads image other s h) (counts image other s h)

  start-frame : chain_start other ≡ chain_start image
  start-frame = λ i. segment_start (same_layout image other s h i) (log (same_head i) 4).segment + (log (same_head i) 4).offset

  first_node-frame : is_chain_node other 0 ≡ is_chain_node image 0
  unfolding chain_address numbers_below
  first_node-frame =
      let first = λ (l : Layout) (hd : Block) (a : ℕ) (b : Block). is_main l a && true && is_of_version hd b in
      let parts : is_chain_node other 0 ≡ first (layout image) (head image) (chain_start image) (block_at other (chain_start image))
      = λ i. first (same_layout image other s h i) (same_head i) (start-frame i) (block_at other (start-frame i)) in
      parts ∙ go (is_main (layout image) (chain_start image)) refl
    where
      go : (m : Bool) → is_main (layout image) (chain_start image) ≡ m
          → (is_main (layout image) (chain_start image) && true && is_of_version (head image) (block_at other (chain_start image))) ≡ (is_main (layout image) (chain_start image) && true && is_of_version (head image) (block_at image (chain_start image)))
      go true main =
          let stop : chain_stop image ≡ Some (chain_start image) = rw (chain_length-checked image (body_checked image h), main) refl in
          ap (λ b. is_main (layout image) (chain_start image) && true && is_of_version (head image) b) (s.blocks (chain_start image) (stop_in image (chain_start image) stop main))
      go false main = rw main refl

  pub chain_length-frame : chain_length other ≡ chain_length image
  unfolding chain_length
  chain_length-frame =
      let none : is_chain_node other 0 ≡ false = first_node-frame ∙ no_first_node image (body_checked image h) in
      find_first (λ n. not (is_chain_node other n)) (512 * (layout other).segments) (ap not none) ∙ sym (chain_length-checked image (body_checked image h))

  pub orphan_count-frame : orphan_count other ≡ orphan_count image
  unfolding orphan_count
  orphan_count-frame = λ i. count_below (2 ^ 32) (λ ino. list_any (λ x. x == ino) (orphans_same image other s (loads image other s h) (counts image other s h) i))
