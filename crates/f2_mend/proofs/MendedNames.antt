-- A mended image whose directories have the names of the salvage: what is counted of names, and the rules on links.
use Rattle.std.proofs.Common.{◌≡◌, inl, inr, ℕ, zero, suc, ◌+◌, ◌<◌, List, [], ◌∷◌, ◌++◌, Bool, true, false, ◌==◌, ◌&&◌, ◌||◌, not, nat_lt, cond, get_or, filter, Option, Some, None, refl, sym, ap, ◌∙◌, arith}
use Rattle.std.specs.Prelude.{flat_map, count_by, find, fold, option_and_then, is_some}
use Rattle.std.specs.Option.{option_map_or}
use Rattle.std.specs.List.{list_any}
use Rattle.std.specs.Ordering.{is_lt, nat_cmp}
use Rattle.std.specs.Cmp.Lexicographic.{slice_cmp}
use Rattle.std.specs.Str.{bytes_eq}
use Rattle.std.proofs.lemmas.Bool.{and_parts, or_left, or_right, or_cases, eqb-true, eq-eqb, not-true, lt-ltb, false≢true}
use Rattle.std.proofs.lemmas.List.Elements.{All-weaker}
use Rattle.f2_bytes.specs.Bytes.{Block, Image, numbers_below}
use Rattle.f2_bytes.specs.Journal.{is_mountable}
use Rattle.f2_bytes.specs.Node.{links, is_directory}
use Rattle.f2_bytes.specs.Object.{is_name, gives_name}
use Rattle.f2_bytes.specs.Tree.{tree_items, tree_names}
use Rattle.f2_bytes.specs.Check.{nids, inode_of, directory_of, names_in, names_for, name_count, least_parent, least_ancestor, is_least_ancestor, links_wanted, digit, part_defects, same, where_true, of_value, link_parts, is_rule_met, defects}
use Rattle.f2_bytes.proofs.CheckedNodes.{no_part}
use Rattle.f2_bytes.proofs.Below.{found_below}
use Rattle.f2_bytes.proofs.PartsHold.{same_holds, where_holds, value_holds, one_clear, met_of}
use Rattle.f2_bytes.proofs.SameParts.{sum_same}
use Rattle.f2_bytes.specs.SalvagedFiles.{is_file, is_directory_file}
use Rattle.f2_bytes.specs.Claims.{Claim, is_on}
use Rattle.f2_bytes.specs.LostFiles.{is_made}
use Rattle.f2_bytes.specs.Salvage.{names, file_names, names_in_directory}
use Rattle.f2_bytes.specs.RebuiltDirectories.{put_in_order, in_order, names_of, salvaged_parent, is_salvaged_file, salvaged_ancestor}
use Rattle.f2_bytes.specs.Mending.{is_salvaged_directory, mended_links}
use Rattle.f2_bytes.specs.FilePlaces.{inode_at}
use Rattle.f2_bytes.specs.Mended.{IsMended}
use Rattle.f2_mend.proofs.CountLists.{count-cons, filter-none, any-none, count-any, any-filter, count-by_key, find-one_more, find-same_test}
use Rattle.f2_mend.proofs.MendedDirectories.{inode_old, inode_made, made_directory, old_directory, same_directories, directory_from}
use Rattle.f2_mend.proofs.MendedReads.{file_not_made, same_limit, has_kept}
use Rattle.f2_mend.proofs.PlacedReads.{file_below, inode_from}
use Rattle.f2_mend.specs.Laws.{NamesFormTree}

-- ---- claims in order are as many

count-put : (p : Claim → Bool) (c : Claim) (xs : List Claim) → count_by p (put_in_order c xs) ≡ cond (p c) 1 0 + count_by p xs
count-put p c [] = count-cons p c []
count-put p c (d ∷ ds) = go (is_lt (slice_cmp nat_cmp c.name d.name)) (count-put p c ds)
  where
    go : (b : Bool) → count_by p (put_in_order c ds) ≡ cond (p c) 1 0 + count_by p ds → count_by p (cond b (c ∷ d ∷ ds) (d ∷ put_in_order c ds)) ≡ cond (p c) 1 0 + count_by p (d ∷ ds)
    go true rest = count-cons p c (d ∷ ds)
    go false rest =
        let first = count-cons p d (put_in_order c ds) in
        let second = count-cons p d ds in
        omega (arith, rest, first, second)

count-folded : (p : Claim → Bool) (xs acc : List Claim) → count_by p (fold (λ sorted c. put_in_order c sorted) acc xs) ≡ count_by p acc + count_by p xs
count-folded p [] acc = omega arith
count-folded p (x ∷ xs) acc =
    let rest = count-folded p xs (put_in_order x acc) in
    let here = count-put p x acc in
    let whole = count-cons p x xs in
    omega (arith, rest, here, whole)

pub count-in_order : (p : Claim → Bool) (xs : List Claim) → count_by p (in_order xs) ≡ count_by p xs
count-in_order p xs = let all = count-folded p xs [] in omega (arith, all)

-- as many items as names pass each test
abbrev pub HasNames : Image → Image → ℕ → Type 0
HasNames image other d = (test : List ℕ → ℕ → Bool) → count_by (λ x. test x.name x.ino) (filter is_name (tree_items other d)) ≡ count_by (λ c. test c.name c.target) (names_in_directory image d)

false_of : (b : Bool) → (b ≡ true → ⊥) → b ≡ false
false_of true never = absurd (never refl)
false_of false never = refl

module _ (image other : Image) (h : is_mountable image ≡ true) (m : IsMended image other) (t : NamesFormTree image) (has : (d : ℕ) → is_salvaged_directory image d ≡ true → HasNames image other d) where
  -- a directory in the end is a file in the end
  kept_directory : (d : ℕ) → is_salvaged_directory image d ≡ true → is_salvaged_file image d ≡ true
  kept_directory d dir = elim (or_cases (is_directory_file image d) (is_made image d) dir) [
    | inl old ↦ or_left (is_file image d) (is_made image d) (and_parts _ _ old).0
    | inr made ↦ or_right (is_file image d) (is_made image d) made
  ]

  directory_below : (d : ℕ) → is_salvaged_directory image d ≡ true → d < nids other
  directory_below d dir = file_below m.places other m.placed d (has_kept image other h m d (kept_directory d dir))

  -- ---- counts of names

  no_claims : (d : ℕ) → is_salvaged_directory image d ≡ false → names_in_directory image d ≡ []
  no_claims d none =
      filter-none (λ c. c.directory == d) (names image)
      (All-weaker (λ c. is_salvaged_directory image c.directory ≡ true) (λ c. (c.directory == d) ≡ false) (λ c dir. false_of (c.directory == d) (λ same. false≢true (sym none ∙ ap (is_salvaged_directory image) (sym (eqb-true c.directory d same)) ∙ dir))) (names image) t.directories)

  same_count : (d : ℕ) (test : List ℕ → ℕ → Bool) → count_by (λ x. test x.name x.ino) (names_in other d) ≡ count_by (λ c. test c.name c.target) (names_in_directory image d)
  same_count d test = go (is_salvaged_directory image d) refl
    where
      go : (b : Bool) → is_salvaged_directory image d ≡ b → count_by (λ x. test x.name x.ino) (names_in other d) ≡ count_by (λ c. test c.name c.target) (names_in_directory image d)
      go true dir = ap (λ b. count_by (λ x. test x.name x.ino) (cond b (filter is_name (tree_items other d)) [])) (same_directories image other h m d ∙ dir) ∙ has d dir test
      go false none =
          ap (λ b. count_by (λ x. test x.name x.ino) (cond b (filter is_name (tree_items other d)) [])) (same_directories image other h m d ∙ none)
          ∙ sym (ap (count_by (λ c. test c.name c.target)) (no_claims d none))

  same_names_for : (target d : ℕ) → names_for other target d ≡ count_by (is_on target) (names_in_directory image d)
  same_names_for target d = same_count d (λ name ino. ino == target)

  pub same_name_count : (target : ℕ) → name_count other target ≡ count_by (is_on target) (names image)
  unfolding name_count
  same_name_count target =
      sum_same (names_for other target) (λ d. count_by (is_on target) (filter (λ c. c.directory == d) (names image))) (nids other) (λ d low. same_names_for target d)
      ∙ count-by_key (λ c. c.directory) (is_on target) (nids other) (names image)
      (All-weaker (λ c. is_salvaged_directory image c.directory ≡ true) (λ c. c.directory < nids other) (λ c dir. directory_below c.directory dir) (names image) t.directories)

  -- ---- the directories above

  named_by : (target d : ℕ) → nat_lt 0 (names_for other target d) ≡ list_any (is_on target) (names_in_directory image d)
  named_by target d = ap (nat_lt 0) (same_names_for target d) ∙ count-any (is_on target) (names_in_directory image d)

  past_none : (target : ℕ) → list_any (is_on target) (names_in_directory image (nids other)) ≡ false
  past_none target =
      let out : is_salvaged_directory image (nids other) ≡ false = false_of (is_salvaged_directory image (nids other)) (λ dir. let low = directory_below (nids other) dir in omega (arith, low)) in
      ap (list_any (is_on target)) (no_claims (nids other) out)

  pub same_parent : (target : ℕ) → least_parent other target ≡ salvaged_parent image target
  unfolding least_parent salvaged_parent
  same_parent target =
      find-same_test (λ d. nat_lt 0 (names_for other target d)) (λ d. list_any (is_on target) (names_in_directory image d)) (numbers_below (nids other)) (named_by target)
      ∙ sym (find-one_more (λ d. list_any (is_on target) (names_in_directory image d)) (nids other) (past_none target))
      ∙ ap (λ n. find (λ d. list_any (is_on target) (names_in_directory image d)) (numbers_below (n + 1))) (same_limit image other h m)

  same_ancestor : (n ino : ℕ) → least_ancestor other n ino ≡ salvaged_ancestor image n ino
  unfolding least_ancestor salvaged_ancestor
  same_ancestor zero ino = refl
  same_ancestor (suc n) ino = λ i. option_and_then (λ up. same_parent up i) (same_ancestor n ino i)

  no_loop : (ino : ℕ) → is_salvaged_directory image ino ≡ true → is_least_ancestor other ino ≡ false
  unfolding is_least_ancestor
  no_loop ino dir = false_of (list_any (λ n. option_map_or (λ up. up == ino) (least_ancestor other (n + 1) ino) false) (numbers_below (nids other))) (λ some.
      let found = found_below (λ n. option_map_or (λ up. up == ino) (least_ancestor other (n + 1) ino) false) (nids other) some in
      go found.0 (least_ancestor other (found.0 + 1) ino) refl found.2)
    where
      go : (n : ℕ) (o : Option ℕ) → least_ancestor other (n + 1) ino ≡ o → option_map_or (λ up. up == ino) (least_ancestor other (n + 1) ino) false ≡ true → ⊥
      go n None e some =
          let no : false ≡ true = rw e at some in
          false≢true no
      go n (Some up) e some =
          let here : (up == ino) ≡ true = rw e at some in
          t.no_loops n ino dir (sym (same_ancestor (n + 1) ino) ∙ e ∙ ap Some (eqb-true up ino here))

  -- ---- the rule on links between files

  inode_kind : (ino : ℕ) (b : Block) → inode_of other ino ≡ Some b → (is_salvaged_file image ino ≡ true) × (is_directory b ≡ is_salvaged_directory image ino)
  inode_kind ino b is =
      let s = inode_from m.places other m.placed ino b is in
      let kept : is_salvaged_file image ino ≡ true = sym (m.files ino) ∙ s.0 in
      (kept, ap is_directory s.1 ∙ go kept (is_file image ino) refl (is_made image ino) refl)
    where
      go : is_salvaged_file image ino ≡ true → (f : Bool) → is_file image ino ≡ f → (d : Bool) → is_made image ino ≡ d → is_directory (inode_at m.places other ino) ≡ is_salvaged_directory image ino
      go kept true f d e =
          let none = file_not_made image ino f in
          old_directory image other h m ino f ∙ sym (ap (λ x. is_directory_file image ino || x) none ∙ or_false (is_directory_file image ino))
        where
          or_false : (b : Bool) → (b || false) ≡ b
          or_false true = refl
          or_false false = refl
      go kept false f true e = made_directory image other h m ino e ∙ sym (or_right (is_directory_file image ino) (is_made image ino) e)
      go kept false f false e =
          let no : false ≡ true = rw (f, e) at kept in
          absurd (false≢true no)

  some_name : (ino : ℕ) → is_salvaged_file image ino ≡ true → (d : Bool) → is_salvaged_directory image ino ≡ d → (ino ≡ 3 → ⊥) → cond d (name_count other ino) (digit (nat_lt 0 (name_count other ino))) ≡ 1
  some_name ino kept true dir away = same_name_count ino ∙ t.directories_named ino dir away
  some_name ino kept false dir away = elim (or_cases (is_file image ino) (is_made image ino) kept) [
    | inl file ↦
        let some = t.files_named ino file away in
        let count = same_name_count ino in
        ap digit (lt-ltb 0 (name_count other ino) (omega (arith, some, count)))
    | inr made ↦ absurd (false≢true (sym dir ∙ or_right (is_directory_file image ino) (is_made image ino) made))
  ]

  links_clear : flat_map part_defects (link_parts other) ≡ []
  unfolding link_parts
  links_clear = λ i. first i ++ (second i ++ (third i ++ []))
    where
      first : part_defects (get_or (link_parts other) 0 no_part) ≡ []
      first =
          one_clear 1 (nids other) (λ ino. of_value (inode_of other ino) (λ b. where_true (not (ino == 3)) (same (cond (is_directory b) (name_count other ino) (digit (nat_lt 0 (name_count other ino)))) 1))) (λ ino low.
          value_holds (inode_of other ino) _ (λ b is.
          where_holds (not (ino == 3)) _ (λ away.
          let k = inode_kind ino b is in
          let other_than : ino ≡ 3 → ⊥ = λ e. false≢true (sym (not-true (ino == 3) away) ∙ eq-eqb ino 3 e) in
          same_holds _ _ (ap (λ d. cond d (name_count other ino) (digit (nat_lt 0 (name_count other ino)))) k.1 ∙ some_name ino k.0 (is_salvaged_directory image ino) refl other_than))))

      second : part_defects (get_or (link_parts other) 1 no_part) ≡ []
      second =
          one_clear 2 (nids other) (λ ino. of_value (directory_of other ino) (λ b. same (digit (is_least_ancestor other ino)) 0)) (λ ino low.
          value_holds (directory_of other ino) _ (λ b is. same_holds _ _ (ap digit (no_loop ino (directory_from image other h m ino b is).0))))

      third : part_defects (get_or (link_parts other) 2 no_part) ≡ []
      third =
          one_clear 3 4 (λ ino. where_true (ino == 3) (same (name_count other 3) 0)) (λ ino low.
          where_holds (ino == 3) _ (λ here. same_holds _ _ (same_name_count 3 ∙ t.root_unnamed)))

  pub mended_meets_link_rule : is_rule_met other 11 ≡ true
  unfolding defects
  mended_meets_link_rule = met_of (link_parts other) links_clear

  -- ---- link counts

  pub same_links : (ino : ℕ) (b : Block) → inode_of other ino ≡ Some b → links b ≡ links_wanted other ino b
  unfolding mended_links names_of
  same_links ino b is =
      let s = inode_from m.places other m.placed ino b is in
      let k = inode_kind ino b is in
      ap links s.1 ∙ m.link_counts ino k.0 ∙ sym (ap (λ d. cond d (2 + count_by (λ item. is_some (directory_of other item.ino)) (names_in other ino)) (name_count other ino)) k.1 ∙ go (is_salvaged_directory image ino))
    where
      below : count_by (λ item. is_some (directory_of other item.ino)) (names_in other ino) ≡ count_by (λ c. is_salvaged_directory image c.target) (in_order (names_in_directory image ino))
      below =
          (λ i. count_by (λ item. same_directories image other h m item.ino i) (names_in other ino))
          ∙ same_count ino (λ name target. is_salvaged_directory image target)
          ∙ sym (count-in_order (λ c. is_salvaged_directory image c.target) (names_in_directory image ino))

      go : (d : Bool) → cond d (2 + count_by (λ item. is_some (directory_of other item.ino)) (names_in other ino)) (name_count other ino)
          ≡ cond d (2 + count_by (λ c. is_salvaged_directory image c.target) (in_order (names_in_directory image ino))) (count_by (is_on ino) (names image))
      go true = ap (λ n. 2 + n) below
      go false = same_name_count ino

  -- ---- the names of the tree

  and_next : (a b c : Bool) → (a && b && c) ≡ (a && (b && c))
  and_next true b c = refl
  and_next false b c = refl

  given : (ino : ℕ) (name : List ℕ) (target : ℕ) → is_salvaged_directory image ino ≡ true → gives_name (tree_items other ino) name target ≡ file_names image ino name target
  given ino name target dir =
      let test = λ (n : List ℕ) (i : ℕ). bytes_eq n name && (i == target) in
      (λ i. list_any (λ x. and_next (is_name x) (bytes_eq x.name name) (x.ino == target) i) (tree_items other ino))
      ∙ sym (any-filter (λ x. test x.name x.ino) is_name (tree_items other ino))
      ∙ sym (count-any (λ x. test x.name x.ino) (filter is_name (tree_items other ino)))
      ∙ ap (nat_lt 0) (has ino dir test)
      ∙ count-any (λ c. test c.name c.target) (names_in_directory image ino)
      ∙ any-filter (λ c. test c.name c.target) (λ c. c.directory == ino) (names image)
      ∙ sym (λ i. list_any (λ c. and_next (c.directory == ino) (bytes_eq c.name name) (c.target == target) i) (names image))

  not_given : (ino : ℕ) (name : List ℕ) (target : ℕ) → is_salvaged_directory image ino ≡ false → file_names image ino name target ≡ false
  not_given ino name target none =
      any-none (λ c. (c.directory == ino) && bytes_eq c.name name && (c.target == target)) (names image)
      (All-weaker (λ c. is_salvaged_directory image c.directory ≡ true) (λ c. ((c.directory == ino) && bytes_eq c.name name && (c.target == target)) ≡ false)
      (λ c dir. skip (c.directory == ino) (bytes_eq c.name name) (c.target == target) (false_of (c.directory == ino) (λ same. false≢true (sym none ∙ ap (is_salvaged_directory image) (sym (eqb-true c.directory ino same)) ∙ dir))))
      (names image) t.directories)
    where
      skip : (a b c : Bool) → a ≡ false → (a && b && c) ≡ false
      skip true b c e = absurd (false≢true (sym e))
      skip false b c e = refl

  pub same_tree_names : (ino : ℕ) → is_salvaged_file image ino ≡ true → tree_names other ino (inode_at m.places other ino) ≡ file_names image ino
  same_tree_names ino kept = λ i name target. at name target i
    where
      read : inode_of other ino ≡ Some (inode_at m.places other ino)
      read = elim (or_cases (is_file image ino) (is_made image ino) kept) [
        | inl file ↦ inode_old image other h m ino file
        | inr made ↦ inode_made image other h m ino made
      ]

      at : (name : List ℕ) (target : ℕ) → tree_names other ino (inode_at m.places other ino) name target ≡ file_names image ino name target
      at name target = ap (λ d. d && gives_name (tree_items other ino) name target) (inode_kind ino (inode_at m.places other ino) read).1 ∙ go (is_salvaged_directory image ino) refl
        where
          go : (d : Bool) → is_salvaged_directory image ino ≡ d → (is_salvaged_directory image ino && gives_name (tree_items other ino) name target) ≡ file_names image ino name target
          go true d = ap (λ x. x && gives_name (tree_items other ino) name target) d ∙ given ino name target d
          go false d = ap (λ x. x && gives_name (tree_items other ino) name target) d ∙ sym (not_given ino name target d)
