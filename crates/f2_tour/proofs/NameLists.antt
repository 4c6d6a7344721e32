-- What is listed over all nid slots of a file, by its names.
use Rattle.std.proofs.Common.{◌≡◌, ◌≢◌, ℕ, ◌+◌, List, [], ◌∷◌, ◌++◌, Bool, true, false, cond, Option, Some, None, filter, sum_by, refl, sym, ap, ◌∙◌, append-nil, zero-add}
use Rattle.std.specs.Prelude.{flat_map, filter_map, not, ◌&&◌, ◌==◌, option_map}
use Rattle.std.specs.Option.{option_and_then, option_map_or}
use Rattle.std.specs.List.{cons_option}
use Rattle.std.proofs.lemmas.Bool.{ne_eqb, eqb-true, cond-false, false≢true}
use Rattle.std.proofs.lemmas.List.Concat.{flat_map-append}
use Rattle.std.proofs.lemmas.List.Elements.{filter_map-append}
use Rattle.std.proofs.lemmas.List.Sums.{sum_by-append, sum_by-cons}
use Rattle.f2_bytes.specs.Bytes.{Block, Image, numbers_below, count_below}
use Rattle.f2_bytes.specs.Node.{has_slots, parent_of, offset_limit}
use Rattle.f2_bytes.specs.Tree.{read_node, node_within, tree_node, nid_in, is_inode}
use Rattle.f2_bytes.specs.Check.{Comparison, Defect, defect_of, defects_at, node_parts, same, where_true, offset_of_node}
use Rattle.f2_defects.specs.Collected.{defects_of}
use Rattle.f2_items.specs.Counted.{times_in}
use Rattle.f2_survey.specs.Named.{name_in, file_names, name_defects, name_row, named_rows}
use Rattle.f2_survey.specs.Parts.{part_in}
use Rattle.f2_survey.specs.Slots.{Row, direct_offsets, file_rows, inode_row_of, node_row_of, optional_rows, rows_in}
use Rattle.f2_bytes.specs.Node.{is_direct}
use Rattle.f2_bytes.specs.Tree.{node_above, has_nid_slots, nid_slot}
use Rattle.f2_survey.specs.declared.nid_slot_names.Name.{Name}
use Rattle.f2_survey.proofs.NameWalks.{named, no_node}

-- ---- joined lists

filter_map-lists : {X A : Type 0} (f : X → Option A) (xs : List X) → filter_map f xs ≡ flat_map (λ x. cons_option (f x) []) xs
filter_map-lists f [] = refl
filter_map-lists {A = A} f (x ∷ xs) = go (f x) ∙ ap (λ l. cons_option (f x) [] ++ l) (filter_map-lists f xs)
  where
    go : (o : Option A) → cons_option o (filter_map f xs) ≡ cons_option o [] ++ filter_map f xs
    go None = refl
    go (Some a) = refl

flat_map-joined : {X A B : Type 0} (g : A → List B) (f : X → List A) (xs : List X) → flat_map g (flat_map f xs) ≡ flat_map (λ x. flat_map g (f x)) xs
flat_map-joined g f [] = refl
flat_map-joined g f (x ∷ xs) = flat_map-append g (f x) (flat_map f xs) ∙ ap (λ l. flat_map g (f x) ++ l) (flat_map-joined g f xs)

filter_map-joined : {X A B : Type 0} (g : A → Option B) (f : X → List A) (xs : List X) → filter_map g (flat_map f xs) ≡ flat_map (λ x. filter_map g (f x)) xs
filter_map-joined g f [] = refl
filter_map-joined g f (x ∷ xs) = filter_map-append g (f x) (flat_map f xs) ∙ ap (λ l. filter_map g (f x) ++ l) (filter_map-joined g f xs)

filter_map-filter : {X A : Type 0} (f : X → Option A) (p : X → Bool) (xs : List X) → filter_map f (filter p xs) ≡ filter_map (λ x. cond (p x) (f x) None) xs
filter_map-filter f p [] = refl
filter_map-filter {X = X} {A = A} f p (x ∷ xs) = go (p x) refl (filter_map-filter f p xs)
  where
    go : (b : Bool) → p x ≡ b → filter_map f (filter p xs) ≡ filter_map (λ y. cond {A = Option A} (p y) (f y) None) xs
        → filter_map f (filter p (x ∷ xs)) ≡ filter_map (λ y. cond {A = Option A} (p y) (f y) None) (x ∷ xs)
    go true e ih = rw e (ap (cons_option (f x)) ih)
    go false e ih = rw e ih

sum_by-joined : {X A : Type 0} (g : A → ℕ) (f : X → List A) (xs : List X) → sum_by g (flat_map f xs) ≡ sum_by (λ x. sum_by g (f x)) xs
sum_by-joined g f [] = refl
sum_by-joined g f (x ∷ xs) =
    sum_by-append g (f x) (flat_map f xs) ∙ ap (λ n. sum_by g (f x) + n) (sum_by-joined g f xs) ∙ sym (sum_by-cons (λ x. sum_by g (f x)) x xs)

-- ---- the offsets that nodes say

slot_defects : (inode none : Bool) → inode ≡ true → (number a o : ℕ) (c : Option Comparison) (f : Name → List Defect) (x : Name) → f x ≡ defects_of number a o c
    → cons_option (defect_of number a o (where_true (inode && not none) c)) [] ≡ flat_map f (cond none [] (x ∷ []))
slot_defects true true is number a o c f x same = refl
slot_defects true false is number a o c f x same = sym (append-nil (f x) ∙ same)
slot_defects false none is number a o c f x same = cc

pub defects-named : (image : Image) (ino : ℕ) → is_inode image ino ≡ true → defects_at (part_in image 3 6) ino ≡ flat_map (name_defects image ino) (file_names image ino)
unfolding defects_at node_parts file_names
defects-named image ino inode =
    filter_map-lists (λ o. defect_of 6 ino o (where_true (is_inode image ino && not (nid_slot image ino o == 0)) (same (offset_of_node image (nid_slot image ino o) ino) o))) (numbers_below offset_limit)
    ∙ (λ i. flat_map (λ o. at o i) (numbers_below offset_limit))
    ∙ sym (flat_map-joined (name_defects image ino) (λ o. name_in o (nid_slot image ino o)) (numbers_below offset_limit))
  where
    at : (o : ℕ)
        → cons_option (defect_of 6 ino o (where_true (is_inode image ino && not (nid_slot image ino o == 0)) (same (offset_of_node image (nid_slot image ino o) ino) o))) []
        ≡ flat_map (name_defects image ino) (name_in o (nid_slot image ino o))
    at o =
        slot_defects (is_inode image ino) (nid_slot image ino o == 0) inode 6 ino o (same (offset_of_node image (nid_slot image ino o) ino) o) (name_defects image ino)
        (named o (nid_slot image ino o)) refl

no_values : {X A : Type 0} (f : X → Option A) (xs : List X) → ((x : X) → f x ≡ None) → filter_map f xs ≡ []
no_values f [] none = refl
no_values f (x ∷ xs) none = λ i. cons_option (none x i) (no_values f xs none i)

pub no_defects : (image : Image) (ino : ℕ) → is_inode image ino ≡ false → defects_at (part_in image 3 6) ino ≡ []
unfolding defects_at node_parts
no_defects image ino other =
    no_values (λ o. defect_of 6 ino o (where_true (is_inode image ino && not (nid_slot image ino o == 0)) (same (offset_of_node image (nid_slot image ino o) ino) o))) (numbers_below offset_limit)
    (λ o. ap (λ b. defect_of 6 ino o (where_true (b && not (nid_slot image ino o == 0)) (same (offset_of_node image (nid_slot image ino o) ino) o))) other)

-- ---- how often a number is named

pub times-named : (image : Image) (ino n : ℕ) → n ≢ 0 → times_in (file_names image ino) n ≡ count_below offset_limit (λ o. nid_slot image ino o == n)
unfolding file_names
times-named image ino n some =
    sum_by-joined (λ (name : Name). cond {A = ℕ} (name.nid == n) 1 0) (λ o. name_in o (nid_slot image ino o)) (numbers_below offset_limit)
    ∙ λ i. sum_by (λ o. at o (nid_slot image ino o) i) (numbers_below offset_limit)
  where
    at : (o nid : ℕ) → sum_by (λ (name : Name). cond {A = ℕ} (name.nid == n) 1 0) (name_in o nid) ≡ cond (nid == n) 1 0
    at o nid = go (nid == 0) refl
      where
        go : (b : Bool) → (nid == 0) ≡ b → sum_by (λ (name : Name). cond {A = ℕ} (name.nid == n) 1 0) (cond b [] (named o nid ∷ [])) ≡ cond (nid == n) 1 0
        go true e =
            let zero : nid ≡ 0 = eqb-true nid 0 e in
            sym (ap (λ k. cond {A = ℕ} (k == n) 1 0) zero ∙ ap (λ b. cond {A = ℕ} b 1 0) (ne_eqb 0 n (λ h. some (sym h))))
        go false e = zero-add (cond {A = ℕ} (nid == n) 1 0)

-- ---- the rows

-- a node of a file is that which its nid slot names
pub tree_node-named : (image : Image) (ino o : ℕ) → has_nid_slots image ino ≡ true → o ≢ 0 → tree_node image ino o ≡ read_node image (nid_slot image ino o)
unfolding node_within nid_slot
tree_node-named image ino o slots below = rw (ne_eqb o 0 below, slots) (go (parent_of o))
  where
    go : (s : Option (ℕ × ℕ))
        → option_and_then (λ spot. option_and_then (λ above. read_node image (nid_in spot above)) (node_above image ino spot.0)) s
        ≡ read_node image (option_map_or (λ spot. option_map_or (nid_in spot) (node_above image ino spot.0) 0) s 0)
    go None = sym (no_node image 0 refl)
    go (Some spot) = at (node_above image ino spot.0)
      where
        at : (a : Option Block) → option_and_then (λ above. read_node image (nid_in spot above)) a ≡ read_node image (option_map_or (nid_in spot) a 0)
        at None = sym (no_node image 0 refl)
        at (Some above) = refl

module _ (image : Image) (ino : ℕ) (inode : Block) (is : read_node image ino ≡ Some inode) (slots : has_slots inode ≡ true) where
  -- the row in the node at an offset
  offset_row : ℕ → Option Row
  offset_row o = option_map (node_row_of ino inode (nid_slot image ino o) o) (tree_node image ino o)

  slot_row : (o : ℕ) → filter_map (name_row image ino inode) (name_in o (nid_slot image ino o)) ≡ cons_option (cond (is_direct o) (offset_row o) None) []
  unfolding offset_row
  slot_row o = go (is_direct o) refl (nid_slot image ino o == 0) refl
    where
      nid : ℕ
      nid = nid_slot image ino o

      row : Option Row
      row = option_map (node_row_of ino inode (nid_slot image ino o) o) (read_node image (nid_slot image ino o))

      in_tree : is_direct o ≡ true → tree_node image ino o ≡ read_node image (nid_slot image ino o)
      in_tree direct = tree_node-named image ino o (ap (λ a. option_map_or has_slots a false) is ∙ slots) (λ z. false≢true (sym (ap is_direct z) ∙ direct))

      go : (d : Bool) → is_direct o ≡ d → (b : Bool) → (nid_slot image ino o == 0) ≡ b
          → filter_map (name_row image ino inode) (cond b [] (named o (nid_slot image ino o) ∷ []))
          ≡ cons_option (cond d (option_map (node_row_of ino inode (nid_slot image ino o) o) (tree_node image ino o)) None) []
      go false e true z = refl
      go false e false z = ap (λ d. cons_option (cond {A = Option Row} d row None) []) e
      go true e true z =
          let none : read_node image (nid_slot image ino o) ≡ None = no_node image (nid_slot image ino o) (eqb-true (nid_slot image ino o) 0 z) in
          sym (ap (λ a. cons_option (option_map (node_row_of ino inode (nid_slot image ino o) o) a) []) (in_tree e ∙ none))
      go true e false z =
          ap (λ d. cons_option (cond {A = Option Row} d row None) []) e
          ∙ sym (ap (λ a. cons_option (option_map (node_row_of ino inode (nid_slot image ino o) o) a) []) (in_tree e))

  node_rows : filter_map (name_row image ino inode) (file_names image ino) ≡ filter_map offset_row direct_offsets
  unfolding file_names direct_offsets
  node_rows =
      filter_map-joined (name_row image ino inode) (λ o. name_in o (nid_slot image ino o)) (numbers_below offset_limit)
      ∙ (λ i. flat_map (λ o. slot_row o i) (numbers_below offset_limit))
      ∙ sym (filter_map-filter offset_row is_direct (numbers_below offset_limit) ∙ filter_map-lists (λ o. cond (is_direct o) (offset_row o) None) (numbers_below offset_limit))

pub rows-named : (image : Image) (ino : ℕ) (inode : Block) → read_node image ino ≡ Some inode → named_rows image ino inode (file_names image ino) ≡ file_rows image ino
unfolding file_rows offset_row
rows-named image ino inode is = go (has_slots inode) refl ∙ sym (ap (optional_rows image ino) is)
  where
    go : (b : Bool) → has_slots inode ≡ b → named_rows image ino inode (file_names image ino) ≡ rows_in image ino inode
    go true slots = ap (λ l. cond {A = List Row} (has_slots inode) (inode_row_of ino inode ∷ l) []) (node_rows image ino inode is slots)
    go false none = cond-false (has_slots inode) _ [] none ∙ sym (cond-false (has_slots inode) _ [] none)
