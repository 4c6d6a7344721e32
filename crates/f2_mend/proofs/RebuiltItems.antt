-- A rebuilt directory meets each comparison of the rule on directories.
use Rattle.std.proofs.Common.{◌≡◌, ℕ, ◌+◌, ◌*◌, ◌/◌, ◌≤◌, List, [], Bool, true, false, ◌==◌, not, nat_lt, cond, max, filter, All, Option, Some, None, subst, refl, sym, ap, ◌∙◌, arith}
use Rattle.std.specs.Prelude.{find, fold, option_and_then, is_some}
use Rattle.std.specs.Option.{option_map_or}
use Rattle.std.specs.List.{list_any}
use Rattle.std.specs.Str.{bytes_eq}
use Rattle.std.proofs.lemmas.Bool.{eqb-true, le-ltb, not_from_true, false≢true}
use Rattle.std.proofs.lemmas.Slice.Eq.{bytes_eq-Decides}
use Rattle.f2_bytes.specs.Bytes.{Block}
use Rattle.f2_bytes.specs.Buckets.{bucket_of, bucket_of_block, level_of_block}
use Rattle.f2_bytes.specs.Directory.{Item, block_slots}
use Rattle.f2_bytes.specs.Names.{name_hash, dot, dot_dot}
use Rattle.f2_bytes.specs.Node.{dir_level, current_depth, size, is_inline}
use Rattle.f2_bytes.specs.Check.{Reading, same, at_least, fails_where, where_true, of_value, directory_in, block_directory_in, item_at, legal_item_at, first_named, one_past, dots_comparison}
use Rattle.f2_bytes.proofs.AllPlaces.{find_all}
use Rattle.f2_bytes.proofs.PartsHold.{Holds, same_holds, fails_holds, where_holds, value_holds}
use Rattle.f2_bytes.specs.Claims.{Claim}
use Rattle.f2_bytes.specs.Mended.{HoldsNames}
use Rattle.f2_mend.proofs.FoundItems.{found_passes, none_found, found_any, filter_whole, past_all, past_all_times}

module _ (limit : ℕ) (r : Reading) (d parent : ℕ) (claims : List Claim) (inode : Block) (is : directory_in limit r d ≡ Some inode) (n : HoldsNames r.kind d parent claims inode (r.items d)) where
  abbrev items : List Item
  items = r.items d

  all_legal : filter (λ x. x.is_legal) items ≡ items
  all_legal = filter_whole (λ x. x.is_legal) items n.legal

  -- ---- the items that are found

  at_place : (place : ℕ) → item_at limit r d place ≡ find (λ x. x.place == place) items
  unfolding item_at
  at_place place = ap (λ o. find (λ x. x.place == place) (cond (is_some o) items [])) is

  named : (name : List ℕ) → first_named limit r d name ≡ find (λ x. bytes_eq x.name name) items
  unfolding first_named
  named name = ap (find (λ x. bytes_eq x.name name)) all_legal

  item_has : (P : Item → Type 0) (place : ℕ) (x : Item) → All P items → item_at limit r d place ≡ Some x → P x
  item_has P place x all found = find_all P (λ y. y.place == place) items x all (sym (at_place place) ∙ found)

  item_place : (place : ℕ) (x : Item) → item_at limit r d place ≡ Some x → x.place ≡ place
  item_place place x found = eqb-true x.place place (found_passes (λ y. y.place == place) items x (sym (at_place place) ∙ found))

  -- what is found among the legal ones is found
  legal_found : (place : ℕ) (x : Item) → legal_item_at limit r d place ≡ Some x → item_at limit r d place ≡ Some x
  legal_found place x found = go (item_at limit r d place) refl found
    where
      keep : (y : Item) (b : Bool) → cond b (Some y) None ≡ Some x → Some y ≡ Some x
      keep y true e = e
      keep y false e = absurd (cc e)

      go : (o : Option Item) → item_at limit r d place ≡ o → option_and_then (λ item. cond item.is_legal (Some item) None) o ≡ Some x → item_at limit r d place ≡ Some x
      go None e f = absurd (cc f)
      go (Some y) e f = e ∙ keep y y.is_legal f

  -- ---- the comparisons

  pub legal_holds : (place : ℕ) → Holds (of_value (item_at limit r d place) (λ item. where_true (not item.is_legal) (fails_where true item.len 0)))
  legal_holds place =
      value_holds (item_at limit r d place) _ (λ x found.
      where_holds (not x.is_legal) _ (λ bad. absurd (false≢true (sym (not_from_true x.is_legal (item_has (λ y. y.is_legal ≡ true) place x n.legal found)) ∙ bad))))

  same_first : (x : Item) (place : ℕ) → item_at limit r d place ≡ Some x → option_map_or (λ first. first.place) (first_named limit r d x.name) 0 ≡ place
  same_first x place found = go (find (λ y. bytes_eq y.name x.name) items) refl
    where
      go : (o : Option Item) → find (λ y. bytes_eq y.name x.name) items ≡ o → option_map_or (λ first. first.place) (first_named limit r d x.name) 0 ≡ place
      go None none =
          let some = found_any (λ y. y.place == place) (λ y. bytes_eq y.name x.name) items x (sym (at_place place) ∙ found) ((bytes_eq-Decides x.name x.name).1 refl) in
          absurd (false≢true (sym (none_found (λ y. bytes_eq y.name x.name) items none) ∙ some))
      go (Some y) first =
          let apart = item_has (λ z. All (λ w. bytes_eq w.name z.name ≡ true → w.place ≡ z.place) items) place x n.apart found in
          let here = find_all (λ w. bytes_eq w.name x.name ≡ true → w.place ≡ x.place) (λ w. bytes_eq w.name x.name) items y apart first in
          ap (λ o. option_map_or (λ f. f.place) o 0) (named x.name ∙ first) ∙ here (found_passes (λ w. bytes_eq w.name x.name) items y first) ∙ item_place place x found

  pub first_holds : (place : ℕ) → Holds (of_value (legal_item_at limit r d place) (λ item. same (option_map_or (λ first. first.place) (first_named limit r d item.name) 0) place))
  first_holds place = value_holds (legal_item_at limit r d place) _ (λ x found. same_holds _ _ (same_first x place (legal_found place x found)))

  pub hash_holds : (place : ℕ) → Holds (of_value (legal_item_at limit r d place) (λ item. same item.hash (name_hash item.name)))
  hash_holds place = value_holds (legal_item_at limit r d place) _ (λ x found. same_holds _ _ (item_has (λ y. y.hash ≡ name_hash y.name) place x n.hashes (legal_found place x found)))

  pub kind_holds : (place : ℕ) → Holds (of_value (legal_item_at limit r d place) (λ item. same item.kind (r.kind item.ino)))
  kind_holds place = value_holds (legal_item_at limit r d place) _ (λ x found. same_holds _ _ (item_has (λ y. y.kind ≡ r.kind y.ino) place x n.kinds (legal_found place x found)))

  -- a directory with blocks is this one
  block_inode : (b : Block) → block_directory_in limit r d ≡ Some b → b ≡ inode
  block_inode b found = go (is_inline inode) (sym (ap (option_and_then (λ c. cond (is_inline c) None (Some c))) is) ∙ found)
    where
      go : (i : Bool) → cond i None (Some inode) ≡ Some b → b ≡ inode
      go true e = absurd (cc e)
      go false e = sym (ap (λ o. elim o [ Some z ↦ z | None ↦ b ]) e)

  pub bucket_holds : (place : ℕ) → Holds (of_value (block_directory_in limit r d) (λ b. of_value (legal_item_at limit r d place) (λ item.
      same (bucket_of_block (dir_level b) (place / block_slots)) (bucket_of (level_of_block (dir_level b) (place / block_slots)) (dir_level b) (name_hash item.name)))))
  bucket_holds place =
      value_holds (block_directory_in limit r d) _ (λ b here.
      value_holds (legal_item_at limit r d place) _ (λ x found.
      let item = legal_found place x found in
      let at = item_has (λ y. bucket_of_block (dir_level inode) (y.place / block_slots) ≡ bucket_of (level_of_block (dir_level inode) (y.place / block_slots)) (dir_level inode) (name_hash y.name)) place x n.buckets item in
      same_holds _ _
      (subst (λ k. bucket_of_block (dir_level b) (k / block_slots) ≡ bucket_of (level_of_block (dir_level b) (k / block_slots)) (dir_level b) (name_hash x.name)) (item_place place x item)
      (subst (λ c. bucket_of_block (dir_level c) (x.place / block_slots) ≡ bucket_of (level_of_block (dir_level c) (x.place / block_slots)) (dir_level c) (name_hash x.name)) (sym (block_inode b here)) at))))

  pub depth_holds : Holds (of_value (block_directory_in limit r d) (λ b. at_least (current_depth b) (one_past limit r (λ item. level_of_block (dir_level b) (item.place / block_slots)) d)))
  depth_holds =
      value_holds (block_directory_in limit r d) _ (λ b here.
      let past : one_past limit r (λ item. level_of_block (dir_level b) (item.place / block_slots)) d ≤ current_depth b
      = subst (λ c. fold (λ top item. max top (1 + level_of_block (dir_level c) (item.place / block_slots))) 0 (filter (λ x. x.is_legal) items) ≤ current_depth c) (sym (block_inode b here))
      (subst (λ xs. fold (λ top item. max top (1 + level_of_block (dir_level inode) (item.place / block_slots))) 0 xs ≤ current_depth inode) (sym all_legal)
      (past_all (λ item. level_of_block (dir_level inode) (item.place / block_slots)) (current_depth inode) items 0 (omega arith) n.depth)) in
      fails_holds (nat_lt (current_depth b) (one_past limit r (λ item. level_of_block (dir_level b) (item.place / block_slots)) d)) (current_depth b) (one_past limit r (λ item. level_of_block (dir_level b) (item.place / block_slots)) d) (le-ltb (current_depth b) _ past))

  pub size_holds : Holds (of_value (block_directory_in limit r d) (λ b. at_least (size b) (4096 * one_past limit r (λ item. item.place / block_slots) d)))
  size_holds =
      value_holds (block_directory_in limit r d) _ (λ b here.
      let past : 4096 * one_past limit r (λ item. item.place / block_slots) d ≤ size b
      = subst (λ c. 4096 * fold (λ top item. max top (1 + item.place / block_slots)) 0 (filter (λ x. x.is_legal) items) ≤ size c) (sym (block_inode b here))
      (subst (λ xs. 4096 * fold (λ top item. max top (1 + item.place / block_slots)) 0 xs ≤ size inode) (sym all_legal)
      (past_all_times (λ item. item.place / block_slots) (size inode) items 0 (omega arith) n.size)) in
      fails_holds (nat_lt (size b) (4096 * one_past limit r (λ item. item.place / block_slots) d)) (size b) (4096 * one_past limit r (λ item. item.place / block_slots) d) (le-ltb (size b) _ past))

  dots_hold : (b : Block) (name : List ℕ) (wanted : ℕ) → list_any (λ x. bytes_eq x.name name) items ≡ true → All (λ x. bytes_eq x.name name ≡ true → x.ino ≡ wanted) items → Holds (dots_comparison limit r d b name wanted)
  dots_hold b name wanted has all = go (find (λ x. bytes_eq x.name name) items) refl
    where
      go : (o : Option Item) → find (λ x. bytes_eq x.name name) items ≡ o → Holds (dots_comparison limit r d b name wanted)
      go None none = absurd (false≢true (sym (none_found (λ x. bytes_eq x.name name) items none) ∙ has))
      go (Some x) first =
          let own = find_all (λ y. bytes_eq y.name name ≡ true → y.ino ≡ wanted) (λ y. bytes_eq y.name name) items x all first (found_passes (λ y. bytes_eq y.name name) items x first) in
          rw (named name ∙ first) (same_holds x.ino wanted own)

  pub dot_holds : Holds (of_value (directory_in limit r d) (λ b. dots_comparison limit r d b dot d))
  dot_holds = value_holds (directory_in limit r d) _ (λ b here. dots_hold b dot d n.has_dot n.dots)

  pub dot_dot_holds : (wanted : ℕ) → wanted ≡ parent → Holds (of_value (directory_in limit r d) (λ b. dots_comparison limit r d b dot_dot wanted))
  dot_dot_holds wanted same = value_holds (directory_in limit r d) _ (λ b here. subst (λ w. Holds (dots_comparison limit r d b dot_dot w)) (sym same) (dots_hold b dot_dot parent n.has_dot_dot n.dot_dots))
