-- What the cross-checks count of nodes, nid slots and slots is the same after blocks moved.
use Rattle.std.proofs.Common.{◌≡◌, ℕ, ◌+◌, ◌-◌, ◌<◌, ◌≤◌, true, false, ◌==◌, not, get_or, filter, Option, Some, None, sum_by, refl, sym, ap, ◌∙◌, arith}
use Rattle.std.specs.Prelude.{option_map, is_none, is_some}
use Rattle.std.specs.Option.{option_map_or}
use Rattle.std.specs.List.{range_with_len}
use Rattle.std.proofs.lemmas.Bool.{and_parts, not-false}
use Rattle.std.proofs.lemmas.List.FromFn.{get_or-range_with_len}
use Rattle.f2_bytes.specs.Bytes.{Image, numbers_below, count_below}
use Rattle.f2_bytes.specs.Journal.{NatEntry}
use Rattle.f2_bytes.specs.NodeAddressTable.{nid_limit, nat}
use Rattle.f2_bytes.specs.Node.{xattr_nid, offset_limit, most_blocks}
use Rattle.f2_bytes.specs.Tree.{read_node, is_inode}
use Rattle.f2_bytes.specs.Check.{Comparison, of_value, digit, nids, times_named_in, times_named, used_slots, is_readable, failing_rule, is_rule_met, is_checked}
use Rattle.f2_bytes.specs.Moved.{moved_entry}
use Rattle.f2_bytes.proofs.AllPlaces.{sum_filter_same}
use Rattle.f2_bytes.proofs.CheckedChain.{find_none}
use Rattle.f2_bytes.proofs.MovedReads.{ReadsMoved}

-- each rule is met on a checked image
pub each_rule_met : (image : Image) → is_checked image ≡ true → (rule : ℕ) → 1 ≤ rule → rule < 13 → is_rule_met image rule ≡ true
each_rule_met image h rule low high =
    let none : is_none (failing_rule image 1) ≡ true = (and_parts (is_readable image) (is_none (failing_rule image 1)) h).1 in
    let at : not (is_rule_met image (get_or (range_with_len 1 12) (rule - 1) 0)) ≡ false
    = find_none (λ r. not (is_rule_met image r)) (range_with_len 1 12) none (rule - 1) 0 (omega (arith, low, high)) in
    let e : get_or (range_with_len 1 12) (rule - 1) 0 ≡ rule = get_or-range_with_len 1 12 (rule - 1) 0 (omega (arith, low, high)) ∙ omega (arith, low) in
    sym (ap (is_rule_met image) e) ∙ not-false _ at

-- what does not read the address of an entry is the same
pub entry_same : {A : Type 0} (to : ℕ → ℕ) (o : Option NatEntry) (f : NatEntry → A) (d : A) → ((e : NatEntry) → f (moved_entry to e) ≡ f e) → option_map_or f (option_map (moved_entry to) o) d ≡ option_map_or f o d
entry_same to None f d same = refl
entry_same to (Some e) f d same = same e

pub entry_value_same : (to : ℕ → ℕ) (o : Option NatEntry) (f : NatEntry → Option Comparison) → ((e : NatEntry) → f (moved_entry to e) ≡ f e) → of_value (option_map (moved_entry to) o) f ≡ of_value o f
entry_value_same to None f same = refl
entry_value_same to (Some e) f same = same e

entry_some : (to : ℕ → ℕ) (o : Option NatEntry) → is_some (option_map (moved_entry to) o) ≡ is_some o
entry_some to None = refl
entry_some to (Some e) = refl

module _ (to : ℕ → ℕ) (image other : Image) (r : ReadsMoved to image other) where
  pub same_limit : nids other ≡ nids image
  same_limit = ap nid_limit r.same_layout

  pub has_node : (nid : ℕ) → is_some (nat other nid) ≡ is_some (nat image nid)
  has_node nid = ap is_some (r.same_nat nid) ∙ entry_some to (nat image nid)

  pub is_of : (ino nid : ℕ) → option_map_or (λ e. e.ino == ino) (nat other nid) false ≡ option_map_or (λ e. e.ino == ino) (nat image nid) false
  is_of ino nid = ap (λ o. option_map_or (λ e. e.ino == ino) o false) (r.same_nat nid) ∙ entry_same to (nat image nid) (λ e. e.ino == ino) false (λ e. refl)

  pub node_count : count_below (nids other) (λ nid. is_some (nat other nid)) ≡ count_below (nids image) (λ nid. is_some (nat image nid))
  node_count = λ i. count_below (same_limit i) (λ nid. has_node nid i)

  pub nodes_of : (ino : ℕ) → count_below (nids other) (λ nid. option_map_or (λ e. e.ino == ino) (nat other nid) false) ≡ count_below (nids image) (λ nid. option_map_or (λ e. e.ino == ino) (nat image nid) false)
  nodes_of ino = λ i. count_below (same_limit i) (λ nid. is_of ino nid i)

  -- a sum over the inodes
  pub inode_sum : (f g : ℕ → ℕ) → ((ino : ℕ) → is_inode image ino ≡ true → g ino ≡ f ino) → sum_by g (filter (is_inode other) (numbers_below (nids other))) ≡ sum_by f (filter (is_inode image) (numbers_below (nids image)))
  inode_sum f g same =
      let first : sum_by g (filter (is_inode other) (numbers_below (nids other))) ≡ sum_by g (filter (is_inode image) (numbers_below (nids image)))
      = λ i. sum_by g (filter (λ n. r.same_inode n i) (numbers_below (same_limit i))) in
      first ∙ sum_filter_same g f (is_inode image) (nids image) (λ k low inode. same k inode)

  times_named_in-moved : (nid ino : ℕ) → is_inode image ino ≡ true → times_named_in other nid ino ≡ times_named_in image nid ino
  times_named_in-moved nid ino inode =
      let t = r.inode ino inode in
      let named : option_map_or xattr_nid (read_node other ino) 0 ≡ option_map_or xattr_nid (read_node image ino) 0
      = ap (λ o. option_map_or xattr_nid o 0) t.3 ∙ t.4.same_xattr ∙ sym (ap (λ o. option_map_or xattr_nid o 0) t.2) in
      λ i. count_below offset_limit (λ offset. r.same_nid_slot ino offset inode i == nid) + digit (named i == nid)

  pub times_named-moved : (nid : ℕ) → times_named other nid ≡ times_named image nid
  unfolding times_named
  times_named-moved nid = inode_sum (times_named_in image nid) (times_named_in other nid) (λ ino inode. times_named_in-moved nid ino inode)

  pub used_slots-moved : (ino : ℕ) → is_inode image ino ≡ true → used_slots other ino ≡ used_slots image ino
  used_slots-moved ino inode = λ i. count_below most_blocks (λ k. not (r.same_hole ino k inode i))

  pub all_used : sum_by (used_slots other) (filter (is_inode other) (numbers_below (nids other))) ≡ sum_by (used_slots image) (filter (is_inode image) (numbers_below (nids image)))
  all_used = inode_sum (used_slots image) (used_slots other) used_slots-moved

  pub inode_count : count_below (nids other) (is_inode other) ≡ count_below (nids image) (is_inode image)
  inode_count = λ i. count_below (same_limit i) (λ n. r.same_inode n i)
