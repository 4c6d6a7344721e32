-- On a checked image of bytes every name is kept and no file is lost, so the names are those of the tree.
use Rattle.std.proofs.Common.{◌≡◌, ℕ, zero, suc, ◌+◌, ◌-◌, ◌^◌, ◌<◌, ◌≤◌, List, [], ◌∷◌, ◌++◌, Bool, true, false, not, ◌&&◌, ◌==◌, nat_lt, cond, filter, map, sum_by, All, Option, Some, None, refl, sym, ap, subst, ◌∙◌, arith, append-nil}
use Rattle.std.specs.Prelude.{find, flat_map, filter_map, is_some, count_by, option_and_then, option_map}
use Rattle.std.specs.Option.{option_map_or}
use Rattle.std.specs.List.{list_any}
use Rattle.std.specs.Str.{bytes_eq}
use Rattle.std.proofs.lemmas.Bool.{and_parts, and_from, and_left, eq-eqb, ne_eqb, lt-ltb, false≢true, false_from_ne_true, or_from}
use Rattle.std.proofs.lemmas.Option.{cond_some}
use Rattle.std.proofs.lemmas.List.Sums.{sum_by-cons, sum_by-append}
use Rattle.std.proofs.lemmas.List.Folds.{list_any-append, list_any_none}
use Rattle.std.proofs.lemmas.List.Elements.{All-nil, All-weaker}
use Rattle.f2_bytes.specs.Bytes.{Block, Image, block_at, numbers_below}
use Rattle.f2_bytes.specs.Superblock.{layout}
use Rattle.f2_bytes.specs.NodeAddressTable.{nid_limit}
use Rattle.f2_bytes.specs.Node.{is_directory, links}
use Rattle.f2_bytes.specs.Directory.{Item}
use Rattle.f2_bytes.specs.Names.{is_dots}
use Rattle.f2_bytes.specs.Object.{is_name, gives_name}
use Rattle.f2_bytes.specs.Tree.{read_node, is_inode, tree_items, tree_names}
use Rattle.f2_bytes.specs.Claims.{Claim, item_claim, same_name, is_on, claims, is_good, good_claims, parent, ancestor, is_own_ancestor, is_kept, kept_claims}
use Rattle.f2_bytes.specs.SalvagedFiles.{is_directory_file, file_items}
use Rattle.f2_bytes.specs.LostFiles.{is_lost, has_lost, makes_lost_directory, lost_claim, made_claim}
use Rattle.f2_bytes.specs.Salvage.{names, file_names}
use Rattle.f2_bytes.specs.Check.{directory_of, names_for, name_count, least_parent, least_ancestor, is_least_ancestor, is_checked_body}
use Rattle.f2_bytes.proofs.Below.{found_below}
use Rattle.f2_bytes.proofs.CheckedChain.{chain_length-checked}
use Rattle.f2_salvage.proofs.CheckedInodes.{inode_below, inode_block, is_file-checked, directory_file-checked}
use Rattle.f2_salvage.proofs.CheckedItems.{directory_says, names_apart, name_says, directory_named_once, file_named, links_counted, no_loop, read_node-bytes}
use Rattle.f2_salvage.proofs.CheckedOwners.{file_items-checked}
use Rattle.f2_salvage.proofs.ListFacts.{split-nil, split-below, split-filter_map, flat_map-filter, filter-flat_map, sum_by-flat_map, count_by-some, filter_after-filter, filter-all, list_any-only, find-flat_map}
use Rattle.f2_salvage.proofs.NameFacts.{claim_of, good_claim, is_no_dots, filter-claims, any-good, count-good, own-claims, own-good, bytes_eq-sym, any-same}
use Rattle.f2_salvage.proofs.Owners.{list_any-flat_map}
use Rattle.f2_bytes.proofs.Numbers.{number_at-lt}
use Rattle.f2_salvage.proofs.Places.{AreBytes}

module _ (image : Image) where
  limit : ℕ
  limit = nid_limit (layout image)

  -- the claims of a directory, and those that are names
  abbrev dir_claims : ℕ → List Claim
  dir_claims ino = cond (is_some (directory_of image ino)) (filter_map (item_claim ino) (tree_items image ino)) []

  abbrev dir_names : ℕ → List Claim
  dir_names ino = cond (is_some (directory_of image ino)) (filter_map (good_claim ino) (tree_items image ino)) []

  abbrev all_names : List Claim
  all_names = flat_map dir_names (numbers_below (nid_limit (layout image)))

  dir_claims-names : (ino : ℕ) → filter is_no_dots (dir_claims ino) ≡ dir_names ino
  dir_claims-names ino = go (is_some (directory_of image ino))
    where
      go : (d : Bool) → filter is_no_dots (cond d (filter_map (item_claim ino) (tree_items image ino)) []) ≡ cond d (filter_map (good_claim ino) (tree_items image ino)) []
      go true = filter-claims ino (tree_items image ino)
      go false = refl

  dir_claims-own : (ino : ℕ) → All (λ c. c.directory ≡ ino) (dir_claims ino)
  dir_claims-own ino = go (is_some (directory_of image ino))
    where
      go : (d : Bool) → All (λ c. c.directory ≡ ino) (cond d (filter_map (item_claim ino) (tree_items image ino)) [])
      go true = own-claims ino (tree_items image ino)
      go false = All-nil (λ c. c.directory ≡ ino)

  dir_names-own : (ino : ℕ) → All (λ c. c.directory ≡ ino) (dir_names ino)
  dir_names-own ino = go (is_some (directory_of image ino))
    where
      go : (d : Bool) → All (λ c. c.directory ≡ ino) (cond d (filter_map (good_claim ino) (tree_items image ino)) [])
      go true = own-good ino (tree_items image ino)
      go false = All-nil (λ c. c.directory ≡ ino)

  dir_names-count : (target ino : ℕ) → count_by (is_on target) (dir_names ino) ≡ names_for image target ino
  dir_names-count target ino = go (is_some (directory_of image ino))
    where
      go : (d : Bool) → count_by (is_on target) (cond d (filter_map (good_claim ino) (tree_items image ino)) []) ≡ count_by (λ item. item.ino == target) (cond d (filter is_name (tree_items image ino)) [])
      go true = count-good (is_on target) ino (tree_items image ino)
      go false = refl

  -- all names of a file together
  all_names-count : (target : ℕ) → count_by (is_on target) all_names ≡ name_count image target
  unfolding name_count
  all_names-count target =
      sum_by-flat_map (λ c. cond (is_on target c) 1 0) dir_names (numbers_below (nid_limit (layout image)))
      ∙ ap (λ f. sum_by f (numbers_below (nid_limit (layout image)))) (λ i ino. dir_names-count target ino i)

  -- an item of a directory that is a claim, and what is before it
  abbrev FromItem : (ℕ → Item → Option Claim) → List Claim → Claim → Type 0
  FromItem claim b c =
      (ino : ℕ) × (ino < nid_limit (layout image)) × (is_some (directory_of image ino) ≡ true)
      × (before : List Item) × (x : Item) × (after : List Item) × (before ++ x ∷ after ≡ tree_items image ino)
      × (b ≡ flat_map (λ j. cond (is_some (directory_of image j)) (filter_map (claim j) (tree_items image j)) []) (numbers_below ino) ++ filter_map (claim ino) before)
      × (claim ino x ≡ Some c)

  from_item : (claim : ℕ → Item → Option Claim) (b r : List Claim) (c : Claim)
      → b ++ c ∷ r ≡ flat_map (λ j. cond (is_some (directory_of image j)) (filter_map (claim j) (tree_items image j)) []) (numbers_below (nid_limit (layout image)))
      → FromItem claim b c
  from_item claim b r c split =
      let of = λ (j : ℕ). cond (is_some (directory_of image j)) (filter_map (claim j) (tree_items image j)) [] in
      let t = split-below of (nid_limit (layout image)) b r c split in
      by_kind t.0 t.1 t.2 t.3 t.4 (is_some (directory_of image t.0)) refl t.5
    where
      by_kind : (ino : ℕ) → ino < nid_limit (layout image) → (d s : List Claim)
          → b ≡ flat_map (λ j. cond (is_some (directory_of image j)) (filter_map (claim j) (tree_items image j)) []) (numbers_below ino) ++ d
          → (k : Bool) → is_some (directory_of image ino) ≡ k → d ++ c ∷ s ≡ cond (is_some (directory_of image ino)) (filter_map (claim ino) (tree_items image ino)) [] → FromItem claim b c
      by_kind ino below d s whole false k here =
          let none : d ++ c ∷ s ≡ [] = rw k at here in
          absurd (split-nil d s c none)
      by_kind ino below d s whole true k here =
          let items : d ++ c ∷ s ≡ filter_map (claim ino) (tree_items image ino) = rw k at here in
          let t = split-filter_map (claim ino) (tree_items image ino) d s c items in
          (ino, below, k, t.0, t.1, t.2, t.3, whole ∙ ap (λ l. flat_map (λ j. cond (is_some (directory_of image j)) (filter_map (claim j) (tree_items image j)) []) (numbers_below ino) ++ l) t.4, t.5)

module _ (image : Image) (h : is_checked_body image ≡ true) (bytes : (n : ℕ) → AreBytes (block_at image n)) where
  -- ---- the claims

  claims_of-checked : (ino : ℕ) → cond (is_directory_file image ino) (filter_map (item_claim ino) (file_items image ino)) [] ≡ dir_claims image ino
  claims_of-checked ino = rw (directory_file-checked image h ino) (go (is_some (directory_of image ino)) refl)
    where
      go : (d : Bool) → is_some (directory_of image ino) ≡ d → cond d (filter_map (item_claim ino) (file_items image ino)) [] ≡ cond d (filter_map (item_claim ino) (tree_items image ino)) []
      go false d = refl
      go true d = ap (filter_map (item_claim ino)) (file_items-checked image h ino (directory_says image h bytes ino d).1)

  claims-checked : claims image ≡ flat_map (dir_claims image) (numbers_below (nid_limit (layout image)))
  unfolding claims numbers_below
  claims-checked =
      rw (chain_length-checked image h)
      (flat_map-filter (λ ino. filter_map (item_claim ino) (file_items image ino)) (is_directory_file image) (numbers_below (nid_limit (layout image)))
      ∙ ap (λ f. flat_map f (numbers_below (nid_limit (layout image)))) (λ i ino. claims_of-checked ino i))

  -- no claim before is of the same name
  other_directory : (c : Claim) (j : ℕ) → (c.directory ≡ j → ⊥) → list_any (same_name c) (dir_claims image j) ≡ false
  other_directory c j apart =
      list_any_none (same_name c) (dir_claims image j)
      (All-weaker (λ e. e.directory ≡ j) (λ e. same_name c e ≡ false) (λ e own. and_left _ _ (ne_eqb c.directory e.directory (λ same. apart (same ∙ own)))) (dir_claims image j) (dir_claims-own image j))

  name_is_first : (ino : ℕ) → is_some (directory_of image ino) ≡ true → (before after : List Item) (x : Item) → before ++ x ∷ after ≡ tree_items image ino → x.is_legal ≡ true
      → list_any (same_name (claim_of ino x)) (flat_map (dir_claims image) (numbers_below ino) ++ filter_map (item_claim ino) before) ≡ false
  name_is_first ino dir before after x split legal =
      let c = claim_of ino x in
      list_any-append (same_name c) (flat_map (dir_claims image) (numbers_below ino)) (filter_map (item_claim ino) before)
      ∙ or_from _ _
      (list_any-flat_map (same_name c) (dir_claims image) (numbers_below ino)
      ∙ false_from_ne_true _ (λ some.
      let t = found_below (λ j. list_any (same_name c) (dir_claims image j)) ino some in
      let less = t.1 in
      false≢true (sym (other_directory c t.0 (λ same. omega (arith, same, less))) ∙ t.2)))
      (any-same ino x before
      ∙ ap (λ p. list_any p before) (λ i y. y.is_legal && ((eq-eqb ino ino refl i) && (bytes_eq-sym x.name y.name i)))
      ∙ names_apart image h bytes ino dir before after x split legal)

  -- ---- good claims

  good-split : (b r : List Claim) (c : Claim) → b ++ c ∷ r ≡ claims image → is_good image b c ≡ is_no_dots c
  good-split b r c split =
      let t = from_item image item_claim b r c (split ∙ claims-checked) in
      let x = t.4 in
      let says = cond_some x.is_legal (claim_of t.0 x) c t.8 in
      subst (λ c. is_good image b c ≡ is_no_dots c) says.1 (ap (λ l. is_good image l (claim_of t.0 x)) t.7 ∙ go t.0 t.2 t.3 t.5 x t.6 says.0 (is_dots x.name) refl)
    where
      go : (ino : ℕ) → is_some (directory_of image ino) ≡ true → (before after : List Item) (x : Item) → before ++ x ∷ after ≡ tree_items image ino → x.is_legal ≡ true
          → (d : Bool) → is_dots x.name ≡ d → is_good image (flat_map (dir_claims image) (numbers_below ino) ++ filter_map (item_claim ino) before) (claim_of ino x) ≡ not (is_dots x.name)
      go ino dir before after x split legal true e = rw e refl
      go ino dir before after x split legal false e =
          let says = name_says image h bytes ino dir before after x split (and_from _ _ legal (ap not e)) in
          rw (e, name_is_first ino dir before after x split legal, directory_file-checked image h ino ∙ dir, is_file-checked image h x.ino ∙ says.0, ne_eqb x.ino ino says.2, ne_eqb x.ino 3 says.1) refl

  good-checked : good_claims image ≡ all_names image
  unfolding good_claims
  good-checked =
      filter_after-filter (is_good image) is_no_dots [] (claims image) (λ b r c split. good-split b r c split)
      ∙ ap (filter is_no_dots) claims-checked
      ∙ filter-flat_map is_no_dots (dir_claims image) (numbers_below (nid_limit (layout image)))
      ∙ ap (λ f. flat_map f (numbers_below (nid_limit (layout image)))) (λ i ino. dir_claims-names image ino i)

  -- ---- parents

  parent-checked : (ino : ℕ) → parent image ino ≡ least_parent image ino
  unfolding least_parent
  parent-checked ino =
      ap (λ cs. option_map (λ c. c.directory) (find (is_on ino) cs)) good-checked
      ∙ find-flat_map (is_on ino) (λ c. c.directory) (dir_names image) (dir_names-own image) (numbers_below (nid_limit (layout image)))
      ∙ ap (λ f. find f (numbers_below (nid_limit (layout image)))) (λ i k. nat_lt 0 (dir_names-count image ino k i))

  ancestor-checked : (n ino : ℕ) → ancestor image n ino ≡ least_ancestor image n ino
  unfolding ancestor least_ancestor
  ancestor-checked zero ino = refl
  ancestor-checked (suc n) ino = λ i. option_and_then (λ up. parent-checked up i) (ancestor-checked n ino i)

  own_ancestor-checked : (ino : ℕ) → is_own_ancestor image ino ≡ is_least_ancestor image ino
  unfolding is_own_ancestor is_least_ancestor
  own_ancestor-checked ino = ap (λ f. list_any f (numbers_below (nid_limit (layout image)))) (λ i n. option_map_or (λ up. up == ino) (ancestor-checked (n + 1) ino i) false)

  -- ---- kept claims

  pub directory_kind : (ino : ℕ) (b : Block) → is_inode image ino ≡ true → read_node image ino ≡ Some b → is_some (directory_of image ino) ≡ is_directory b
  directory_kind ino b inode is = rw (inode, is) (go (is_directory b))
    where
      go : (d : Bool) → is_some (cond d (Some b) None) ≡ d
      go true = refl
      go false = refl

  count-split : (b r : List Claim) (c : Claim) → b ++ c ∷ r ≡ good_claims image → count_by (is_on c.target) b + (1 + count_by (is_on c.target) r) ≡ name_count image c.target
  count-split b r c split =
      let one : cond {A = ℕ} (is_on c.target c) 1 0 ≡ 1 = rw (eq-eqb c.target c.target refl) refl in
      let f = λ (e : Claim). cond {A = ℕ} (is_on c.target e) 1 0 in
      ap (λ n. sum_by f b + (n + sum_by f r)) (sym one)
      ∙ ap (λ n. sum_by f b + n) (sym (sum_by-cons f c r))
      ∙ sym (sum_by-append f b (c ∷ r))
      ∙ ap (sum_by f) (split ∙ good-checked)
      ∙ all_names-count image c.target

  kept-one : (b r : List Claim) (c : Claim) → b ++ c ∷ r ≡ good_claims image → is_inode image c.target ≡ true → (c.target ≡ 3 → ⊥) → is_kept image b c ≡ true
  kept-one b r c split inode away =
      let node = inode_block image h c.target inode in
      by_kind node.0 node.1 (is_directory node.0) refl
    where
      by_kind : (n : Block) → read_node image c.target ≡ Some n → (d : Bool) → is_directory n ≡ d → is_kept image b c ≡ true
      by_kind n is true d =
          let dir : is_some (directory_of image c.target) ≡ true = directory_kind c.target n inode is ∙ d in
          let once = directory_named_once image h bytes c.target n inode is d away in
          let count = count-split b r c split in
          let zero_before : count_by (is_on c.target) b ≡ 0 = omega (arith, once, count) in
          let none : list_any (is_on c.target) b ≡ false = sym (count_by-some (is_on c.target) b) ∙ ap (nat_lt 0) zero_before in
          rw (directory_file-checked image h c.target ∙ dir, none, own_ancestor-checked c.target ∙ no_loop image h bytes c.target dir) refl
      by_kind n is false d =
          let other : is_directory_file image c.target ≡ false = directory_file-checked image h c.target ∙ directory_kind c.target n inode is ∙ d in
          let counted = links_counted image h bytes c.target n inode is d in
          let small : links n < 256 ^ 4 = number_at-lt n 12 4 (read_node-bytes image h bytes c.target n is) in
          let count = count-split b r c split in
          rw other (lt-ltb (count_by (is_on c.target) b) (2 ^ 32 - 1) (omega (arith, counted, small, count)))

  kept-split : (b r : List Claim) (c : Claim) → b ++ c ∷ r ≡ good_claims image → is_kept image b c ≡ true
  kept-split b r c split =
      let t = from_item image good_claim b r c (split ∙ good-checked) in
      let x = t.4 in
      let says = cond_some (is_name x) (claim_of t.0 x) c t.8 in
      let of = name_says image h bytes t.0 t.2 t.3 t.5 x t.6 says.0 in
      let target : x.ino ≡ c.target = ap (λ e. e.target) says.1 in
      kept-one b r c split (sym (ap (is_inode image) target) ∙ of.0) (λ e. of.1 (target ∙ e))

  kept-checked : kept_claims image ≡ all_names image
  unfolding kept_claims
  kept-checked =
      filter_after-filter (is_kept image) (λ _. true) [] (good_claims image) (λ b r c split. kept-split b r c split)
      ∙ filter-all (good_claims image)
      ∙ good-checked

  -- ---- no file is lost

  named_enough : (ino : ℕ) → is_inode image ino ≡ true → (ino ≡ 3 → ⊥) → 1 ≤ name_count image ino
  named_enough ino inode away =
      let node = inode_block image h ino inode in
      by_kind node.0 node.1 (is_directory node.0) refl
    where
      by_kind : (n : Block) → read_node image ino ≡ Some n → (d : Bool) → is_directory n ≡ d → 1 ≤ name_count image ino
      by_kind n is true d = let once = directory_named_once image h bytes ino n inode is d away in omega (arith, once)
      by_kind n is false d = file_named image h bytes ino n inode is d away

  not_lost : (ino : ℕ) → is_lost image ino ≡ false
  unfolding is_lost
  not_lost ino = false_from_ne_true (is_lost image ino) (λ lost.
      let parts = and_parts _ _ lost in
      let first = and_parts _ _ parts.0 in
      let inode : is_inode image ino ≡ true = sym (is_file-checked image h ino) ∙ first.0 in
      let away : ino ≡ 3 → ⊥ = λ e. false≢true (sym (ap not (eq-eqb ino 3 e)) ∙ first.1) in
      let enough = named_enough ino inode away in
      let kept : list_any (is_on ino) (kept_claims image) ≡ true
      = ap (list_any (is_on ino)) kept-checked ∙ sym (count_by-some (is_on ino) (all_names image)) ∙ ap (nat_lt 0) (all_names-count image ino) ∙ lt-ltb 0 (name_count image ino) (omega (arith, enough)) in
      false≢true (sym (ap not kept) ∙ parts.1))

  filter-none : (xs : List ℕ) → filter (λ _. false) xs ≡ []
  filter-none [] = refl
  filter-none (x ∷ xs) = filter-none xs

  any-none : (xs : List ℕ) → list_any (λ _. false) xs ≡ false
  any-none [] = refl
  any-none (x ∷ xs) = any-none xs

  no_lost : has_lost image ≡ false
  no_lost = ap (λ p. list_any p (numbers_below (nid_limit (layout image)))) (λ i ino. not_lost ino i) ∙ any-none (numbers_below (nid_limit (layout image)))

  pub makes_none : makes_lost_directory image ≡ false
  makes_none = and_left _ _ no_lost

  names-checked : names image ≡ all_names image
  unfolding names
  names-checked =
      ap (λ p. kept_claims image ++ map (lost_claim image) (filter p (numbers_below (nid_limit (layout image)))) ++ cond (makes_lost_directory image) (made_claim image ∷ []) []) (λ i ino. not_lost ino i)
      ∙ ap (λ l. kept_claims image ++ map (lost_claim image) l ++ cond (makes_lost_directory image) (made_claim image ∷ []) []) (filter-none (numbers_below (nid_limit (layout image))))
      ∙ ap (λ b. kept_claims image ++ [] ++ cond b (made_claim image ∷ []) []) makes_none
      ∙ append-nil (kept_claims image ++ [])
      ∙ append-nil (kept_claims image)
      ∙ kept-checked

  -- ---- the names

  and_assoc : (a b c : Bool) → (a && (b && c)) ≡ ((a && b) && c)
  and_assoc true b c = refl
  and_assoc false b c = refl

  -- the names of a directory are those of the tree
  pub file_names-checked : (ino : ℕ) (b : Block) → is_inode image ino ≡ true → read_node image ino ≡ Some b → (name : List ℕ) (target : ℕ) → file_names image ino name target ≡ tree_names image ino b name target
  file_names-checked ino b inode is name target =
      ap (list_any q) names-checked
      ∙ list_any-flat_map q (dir_names image) (numbers_below (nid_limit (layout image)))
      ∙ list_any-only (λ d. list_any q (dir_names image d)) (nid_limit (layout image)) ino (inode_below image h ino inode) others
      ∙ ap (λ d. list_any q (cond d (filter_map (good_claim ino) (tree_items image ino)) [])) (directory_kind ino b inode is)
      ∙ here (is_directory b)
    where
      q : Claim → Bool
      q c = (c.directory == ino) && bytes_eq c.name name && (c.target == target)

      others : (j : ℕ) → (j ≡ ino → ⊥) → list_any q (dir_names image j) ≡ false
      others j apart =
          list_any_none q (dir_names image j)
          (All-weaker (λ c. c.directory ≡ j) (λ c. q c ≡ false) (λ c own. and_left _ _ (and_left _ _ (ne_eqb c.directory ino (λ same. apart (sym own ∙ same))))) (dir_names image j) (dir_names-own image j))

      here : (d : Bool) → list_any q (cond d (filter_map (good_claim ino) (tree_items image ino)) []) ≡ (d && gives_name (tree_items image ino) name target)
      here false = refl
      here true =
          any-good q ino (tree_items image ino)
          ∙ ap (λ p. list_any p (tree_items image ino)) (λ i item. is_name item && ((eq-eqb ino ino refl i && bytes_eq item.name name) && (item.ino == target)))
          ∙ ap (λ p. list_any p (tree_items image ino)) (λ i item. and_assoc (is_name item) (bytes_eq item.name name) (item.ino == target) i)
