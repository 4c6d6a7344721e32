-- A directory that is kept has the names of the salvage, each once.
use Rattle.std.proofs.Common.{◌≡◌, ℕ, ◌*◌, ◌≤◌, List, [], Bool, true, false, ◌==◌, ◌&&◌, not, cond, filter, get_or, All, Option, Some, None, subst, refl, sym, ap, ◌∙◌, arith}
use Rattle.std.specs.Prelude.{count_by, find, is_some}
use Rattle.std.specs.Option.{option_map_or}
use Rattle.std.specs.List.{list_any}
use Rattle.std.specs.Str.{bytes_eq}
use Rattle.std.proofs.lemmas.Bool.{and_parts, and_from, eqb-true, eq-eqb, lt-ltb, not-false, false≢true}
use Rattle.std.proofs.lemmas.List.Folds.{Any-from_list_any}
use Rattle.std.proofs.lemmas.List.Sums.{AllPass-from_list_all}
use Rattle.std.proofs.lemmas.Slice.Eq.{bytes_eq-Decides}
use Rattle.f2_bytes.specs.Bytes.{Image}
use Rattle.f2_bytes.specs.Superblock.{super_copy}
use Rattle.f2_bytes.specs.Directory.{Item, block_slots, directory_items}
use Rattle.f2_bytes.specs.Node.{is_directory, most_blocks}
use Rattle.f2_bytes.specs.Object.{is_name}
use Rattle.f2_bytes.specs.RollForward.{node_block}
use Rattle.f2_bytes.specs.Check.{directory_in, item_at, first_named, item_parts, only_directory, nids}
use Rattle.f2_bytes.proofs.CheckedNodes.{no_part}
use Rattle.f2_bytes.specs.SalvagedFiles.{root, is_directory_file, owned_block, file_items}
use Rattle.f2_bytes.specs.Claims.{Claim, same_name}
use Rattle.f2_salvage.specs.NameLaws.{IsSalvagedName}
use Rattle.f2_bytes.specs.Salvage.{names, file_names, names_in_directory}
use Rattle.f2_bytes.specs.RebuiltDirectories.{is_rebuilt, file_inode, salvage_reading, names_of}
use Rattle.f2_salvage.proofs.LostNames.{eqb-sym}
use Rattle.f2_salvage.proofs.NameFacts.{bytes_eq-sym, find-filter}
use Rattle.f2_salvage.proofs.NamesStand.{names_stand_once}
use Rattle.f2_mend.proofs.CountLists.{count-any, count-filter, count-less, count-some, count-all, all-count, count-matched}
use Rattle.f2_mend.proofs.FoundItems.{none_found}
use Rattle.f2_mend.proofs.ItemPlaces.{Ascends, ascends-below, ascends-found, ascends-once, ascends-directory}
use Rattle.f2_mend.proofs.MendedItems.{holds_at, kept_says, kept_clear}
use Rattle.f2_mend.proofs.MendedNames.{count-in_order}
use Rattle.f2_mend.proofs.MendedReads.{file_block, directory_says}

and_next : (a b c : Bool) → (a && b && c) ≡ (a && (b && c))
and_next true b c = refl
and_next false b c = refl

module _ (image : Image) (copied : is_some (super_copy image) ≡ true) (rooted : is_directory_file image root ≡ true) (d : ℕ) (old : is_directory_file image d ≡ true) (kept : is_rebuilt image d ≡ false) where
  abbrev items : List Item
  items = file_items image d

  abbrev like : Item → Claim → Bool
  like x c = bytes_eq c.name x.name && (c.target == x.ino)

  ascends : Ascends 0 (block_slots * most_blocks) items
  unfolding file_items
  ascends = let b = file_block image d (and_parts _ _ old).0 in subst (λ o. Ascends 0 (block_slots * most_blocks) (option_map_or (λ inode. directory_items inode (owned_block image d)) o [])) (sym b.1) (ascends-directory b.0 (owned_block image d))

  -- ---- each item has one claim

  one_claim : All (λ x. count_by (like x) (names_in_directory image d) ≡ 1) (filter is_name items)
  one_claim k e low =
      let x = get_or (filter is_name items) k e in
      let named : file_names image d x.name x.ino ≡ true = AllPass-from_list_all (λ item. file_names image d item.name item.ino) (filter is_name items) (and_parts _ _ (kept_says image d kept old).1).0 k e low in
      let test = λ (c : Claim). (c.directory == d) && bytes_eq c.name x.name && (c.target == x.ino) in
      let found = Any-from_list_any test (names image) named in
      let c = found.1 in
      let stands : IsSalvagedName image c = subst (IsSalvagedName image) found.3 (names_stand_once image copied rooted found.0 found.1 found.2) in
      let first = and_parts (c.directory == d) (bytes_eq c.name x.name) (and_parts _ _ found.4).0 in
      let whole : count_by (like x) (names_in_directory image d) ≡ count_by test (names image)
      = count-filter (like x) (λ c. c.directory == d) (names image) ∙ sym (λ i. count_by (λ c. and_next (c.directory == d) (bytes_eq c.name x.name) (c.target == x.ino) i) (names image)) in
      let some = count-some test (names image) named in
      let few = count-less test (same_name c) (names image) (λ j f below passes.
      let y = get_or (names image) j f in
      let p = and_parts (y.directory == d) (bytes_eq y.name x.name) (and_parts _ _ passes).0 in
      and_from (c.directory == y.directory) (bytes_eq c.name y.name)
      (eq-eqb c.directory y.directory (eqb-true c.directory d first.0 ∙ sym (eqb-true y.directory d p.0)))
      ((bytes_eq-Decides c.name y.name).1 ((bytes_eq-Decides c.name x.name).0 first.1 ∙ sym ((bytes_eq-Decides y.name x.name).0 p.1)))) in
      let once = stands.once in
      omega (arith, whole, some, few, once)

  -- ---- each claim has one item

  read_here : is_some (directory_in (nids image) (salvage_reading image) d) ≡ true
  unfolding salvage_reading
  read_here =
      let file = (and_parts _ _ old).0 in
      let b = file_block image d file in
      let dir : is_directory b.0 ≡ true = sym (directory_says image d b.0 file b.1) ∙ old in
      let here : file_inode image d ≡ Some b.0 = ap (λ t. cond t (node_block image d) None) file ∙ b.1 in
      let only : only_directory (Some b.0) ≡ Some b.0 = ap (λ t. cond t (Some b.0) None) dir in
      ap is_some (ap only_directory here ∙ only)

  abbrev named : List ℕ → Item → Bool
  named n x = x.is_legal && bytes_eq x.name n

  first_place : All (λ x. x.is_legal ≡ true → option_map_or (λ y. y.place) (find (named x.name) items) 0 ≡ x.place) items
  unfolding first_named salvage_reading item_parts item_at
  first_place k e low legal =
      let x = get_or items k e in
      let found : find (λ y. y.place == x.place) items ≡ Some x = ascends-found 0 (block_slots * most_blocks) items ascends k e low in
      let at : item_at (nids image) (salvage_reading image) d x.place ≡ Some x = ap (λ b. find (λ y. y.place == x.place) (cond b items [])) read_here ∙ found in
      let value = option_map_or (λ (first : Item). first.place) (first_named (nids image) (salvage_reading image) d x.name) 0 in
      let holds = holds_at (get_or (item_parts (nids image) (salvage_reading image)) 1 no_part) d x.place (kept_clear image d kept old 1 (omega arith)) (ascends-below 0 (block_slots * most_blocks) items ascends k e low) in
      let fits : not (value == x.place) ≡ false = holds (record { found = value; wanted = x.place; fails = not (value == x.place) }) (rw (at, legal) refl) in
      sym (ap (λ o. option_map_or (λ (y : Item). y.place) o 0) (find-filter (λ y. bytes_eq y.name x.name) (λ y. y.is_legal) items)) ∙ eqb-true value x.place (not-false _ fits)

  named_few : (n : List ℕ) (z : Item) → find (named n) items ≡ Some z → count_by (named n) items ≤ 1
  named_few n z is =
      let at_place = ascends-once 0 (block_slots * most_blocks) z.place items ascends in
      let less = count-less (named n) (λ x. x.place == z.place) items (λ k e low passes.
      let x = get_or items k e in
      let p = and_parts x.is_legal (bytes_eq x.name n) passes in
      let same : x.name ≡ n = (bytes_eq-Decides x.name n).0 p.1 in
      let first = first_place k e low p.0 in
      eq-eqb x.place z.place (sym first ∙ ap (λ m. option_map_or (λ (y : Item). y.place) (find (named m) items) 0) same ∙ ap (λ o. option_map_or (λ (y : Item). y.place) o 0) is)) in
      omega (arith, at_place, less)

  named_once : (n : List ℕ) → list_any (named n) items ≡ true → count_by (named n) items ≤ 1
  named_once n some = go (find (named n) items) refl
    where
      go : (o : Option Item) → find (named n) items ≡ o → count_by (named n) items ≤ 1
      go None is = absurd (false≢true (sym (none_found (named n) items is) ∙ some))
      go (Some z) is = named_few n z is

  abbrev has_item : Claim → Bool
  has_item c = list_any (λ item. is_name item && bytes_eq item.name c.name && (item.ino == c.target)) items

  each_has : All (λ c. has_item c ≡ true) (names_in_directory image d)
  unfolding names_of
  each_has =
      count-all has_item (names_in_directory image d)
      (sym (count-in_order (λ c. not (has_item c)) (names_in_directory image d)) ∙ all-count has_item (names_of image d) (and_parts _ _ (kept_says image d kept old).1).1)

  one_item : All (λ c. count_by (λ x. like x c) (filter is_name items) ≡ 1) (names_in_directory image d)
  one_item k e low =
      let c = get_or (names_in_directory image d) k e in
      let test = λ (x : Item). is_name x && like x c in
      let there : list_any test items ≡ true
      = (λ i. list_any (λ x. is_name x && (bytes_eq-sym c.name x.name i && eqb-sym c.target x.ino i)) items)
      ∙ sym (λ i. list_any (λ x. and_next (is_name x) (bytes_eq x.name c.name) (x.ino == c.target) i) items)
      ∙ each_has k e low in
      let whole = count-filter (λ x. like x c) is_name items in
      let some = count-some test items there in
      let less = count-less test (named c.name) items (λ j f below passes.
      let x = get_or items j f in
      let p = and_parts (is_name x) (like x c) passes in
      and_from x.is_legal (bytes_eq x.name c.name) (and_parts _ _ p.0).0 (bytes_eq-sym x.name c.name ∙ (and_parts _ _ p.1).0)) in
      let again : list_any (named c.name) items ≡ true = sym (count-any (named c.name) items) ∙ lt-ltb 0 (count_by (named c.name) items) (omega (arith, some, less)) in
      let few = named_once c.name again in
      omega (arith, whole, some, less, few)

  pub kept_names : (test : List ℕ → ℕ → Bool) → count_by (λ x. test x.name x.ino) (filter is_name items) ≡ count_by (λ c. test c.name c.target) (names_in_directory image d)
  kept_names test =
      count-matched like (λ x. test x.name x.ino) (λ c. test c.name c.target) (filter is_name items) (names_in_directory image d) one_claim one_item
      (λ x c both.
      let p = and_parts (bytes_eq c.name x.name) (c.target == x.ino) both in
      let name : x.name ≡ c.name = sym ((bytes_eq-Decides c.name x.name).0 p.0) in
      let ino : x.ino ≡ c.target = sym (eqb-true c.target x.ino p.1) in
      λ i. test (name i) (ino i))
