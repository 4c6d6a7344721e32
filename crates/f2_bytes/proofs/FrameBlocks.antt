-- Another image with the support of a checked one: the same marks, summaries and types of blocks, and the rules on them.
use Rattle.std.proofs.Common.{◌≡◌, ℕ, ◌+◌, ◌*◌, ◌<◌, ◌≤◌, ◌⊎◌, inl, inr, List, [], ◌∷◌, Bool, true, false, ◌==◌, ◌||◌, not, nat_le, nat_lt, Option, Some, None, refl, sym, ap, ◌∙◌, ⊎_elim, arith}
use Rattle.std.specs.Prelude.{find, unwrap_or, if◌then◌else◌}
use Rattle.std.specs.Option.{option_map_or}
use Rattle.std.specs.List.{list_any, list_all}
use Rattle.std.proofs.lemmas.Bool.{and_parts, and_from, eqb-true, not-false, ltb-true, leb-true, lt-ltb, le-leb, false≢true}
use Rattle.f2_bytes.specs.declared.layout.Layout.{Layout}
use Rattle.f2_bytes.specs.Bytes.{Block, Image, numbers_below, count_below}
use Rattle.f2_bytes.specs.Bits.{bit_msb}
use Rattle.f2_bytes.specs.Superblock.{layout, is_main, segment_of, place_of, segment_start}
use Rattle.f2_bytes.specs.Checkpoint.{head, pack, log, log_numbers, is_log_segment}
use Rattle.f2_bytes.specs.Journal.{NatEntry}
use Rattle.f2_bytes.specs.NodeAddressTable.{nid_limit, nat}
use Rattle.f2_bytes.specs.SegmentTable.{sit, is_block_valid, has_valid_block}
use Rattle.f2_bytes.specs.Summary.{summary, summary_in, missing_summary, summary_entry, log_of}
use Rattle.f2_bytes.specs.Node.{footer_nid, most_blocks}
use Rattle.f2_bytes.specs.Tree.{tree_slot, is_inode}
use Rattle.f2_bytes.specs.Check.{Comparison, defects, digit, is_checked, is_marked, is_data, is_node, slots_with, nodes_with, validity_parts}
use Rattle.f2_bytes.specs.Support.{is_support}
use Rattle.f2_bytes.specs.Laws.{AgreesOnSupport}
use Rattle.f2_bytes.proofs.Below.{some_below}
use Rattle.f2_bytes.proofs.Terms.{term_below, counted_some, true_from_digit}
use Rattle.f2_bytes.proofs.CheckLaws.{none_fails}
use Rattle.f2_bytes.proofs.CheckedChain.{rule_met, part_clear}
use Rattle.f2_bytes.proofs.CheckedNodes.{no_part}
use Rattle.f2_bytes.proofs.InSupport.{node_in, summary_in_support}
use Rattle.f2_bytes.proofs.SlotSupport.{body_checked, tree_slot_support}
use Rattle.f2_bytes.proofs.FrameTables.{sit-frame, pack_summary_same}
use Rattle.f2_bytes.proofs.FrameNodes.{slots_with-frame, nodes_with-frame}
use Rattle.f2_bytes.proofs.FrameTree.{loads, counts, same_layout}
use Rattle.f2_bytes.proofs.FrameRules.{same_head}

-- ---- addresses and segments

pub segment_at : (l : Layout) (segment k : ℕ) → k < 512 → segment_of l (segment_start l segment + k) ≡ segment
segment_at l segment k low = omega (arith, low)

pub main_at : (l : Layout) (segment k : ℕ) → segment < l.segments → k < 512 → is_main l (segment_start l segment + k) ≡ true
main_at l segment k inside low =
    and_from _ _ (le-leb l.main (segment_start l segment + k) (omega arith))
    (lt-ltb (segment_start l segment + k) (l.main + 512 * l.segments) (omega (arith, inside, low)))

start_at : (l : Layout) (address : ℕ) → l.main ≤ address → segment_start l (segment_of l address) + place_of l address ≡ address
start_at l address low = omega (arith, low)

offset_low : (l : Layout) (address : ℕ) → place_of l address < 512
offset_low l address = omega arith

-- ---- a block that the segment table marks on a checked image is in the support

positive : (n : ℕ) → nat_lt 0 n ≡ true → 1 ≤ n
positive n h = let low = ltb-true 0 n h in omega (arith, low)

or_either : (a b : Bool) → (a || b) ≡ true → (a ≡ true) ⊎ (b ≡ true)
or_either true b h = inl refl
or_either false b h = inr h

digits_agree : (a b : Bool) → a ≡ true → digit a ≡ digit b → b ≡ true
digits_agree a b yes_a e =
    let one : digit a ≡ 1 = rw yes_a refl in
    true_from_digit b (omega (arith, one, e))

module _ (image : Image) (h : is_checked image ≡ true) where
  data_support : (address : ℕ) → is_main (layout image) address ≡ true → is_data image address ≡ true → is_support image address ≡ true
  unfolding slots_with
  data_support address main d =
      let t = term_below (λ ino. count_below most_blocks (λ k. tree_slot image ino k == address)) (is_inode image) (nid_limit (layout image)) (positive _ d) in
      let place = counted_some (λ k. tree_slot image t.0 k == address) most_blocks t.3 in
      let at : tree_slot image t.0 place.0 ≡ address = eqb-true (tree_slot image t.0 place.0) address place.2 in
      sym (ap (is_support image) at) ∙ tree_slot_support image h t.0 place.0 t.2 (ap (is_main (layout image)) at ∙ main)

  node_support : (address : ℕ) → is_main (layout image) address ≡ true → is_node image address ≡ true → is_support image address ≡ true
  unfolding nodes_with
  node_support address main n =
      let t = counted_some (λ nid. option_map_or (λ e. e.address == address) (nat image nid) false) (nid_limit (layout image)) (positive _ n) in
      go t.0 (nat image t.0) refl t.2
    where
      go : (nid : ℕ) (o : Option NatEntry) → nat image nid ≡ o → option_map_or (λ e. e.address == address) (nat image nid) false ≡ true → is_support image address ≡ true
      go nid None is here =
          let no : false ≡ true = rw is at here in
          absurd (false≢true no)
      go nid (Some e) is here =
          let test : (e.address == address) ≡ true = rw is at here in
          let at : e.address ≡ address = eqb-true e.address address test in
          sym (ap (is_support image) at) ∙ node_in image nid e is (ap (is_main (layout image)) at ∙ main)

  abbrev mark_comparison : ℕ → Comparison
  mark_comparison a = record { found = digit (is_marked image a); wanted = digit (is_data image a || is_node image a); fails = not (digit (is_marked image a) == digit (is_data image a || is_node image a)) }

  pub marked_support : (address : ℕ) → is_main (layout image) address ≡ true → segment_of (layout image) address < (layout image).segments → is_marked image address ≡ true → is_support image address ≡ true
  unfolding validity_parts defects
  marked_support address main low marked =
      let parts = and_parts (nat_le (layout image).main address) (nat_lt address ((layout image).main + 512 * (layout image).segments)) main in
      let segment = segment_of (layout image) address in
      let k = place_of (layout image) address in
      let at : segment_start (layout image) segment + k ≡ address = start_at (layout image) address (leb-true (layout image).main address parts.0) in
      let clear = part_clear (validity_parts image) (rule_met image (body_checked image h) 5 (omega arith) (omega arith)) 0 no_part (omega arith) in
      let agree : not (digit (is_marked image address) == digit (is_data image address || is_node image address)) ≡ false
      = none_fails _ clear segment k low (offset_low (layout image) address) (mark_comparison address) (ap (λ a. Some (mark_comparison a)) at) in
      let equal : digit (is_marked image address) ≡ digit (is_data image address || is_node image address) = eqb-true _ _ (not-false _ agree) in
      ⊎_elim (data_support address main) (node_support address main)
      (or_either (is_data image address) (is_node image address) (digits_agree (is_marked image address) (is_data image address || is_node image address) marked equal))

-- ---- summaries

find_none_any : {A : Type 0} (p : A → Bool) (xs : List A) → find p xs ≡ None → list_any p xs ≡ false
find_none_any p [] e = refl
find_none_any p (x ∷ xs) e = go (p x) refl (find_none_any p xs)
  where
    go : (b : Bool) → p x ≡ b → (find p xs ≡ None → list_any p xs ≡ false) → list_any p (x ∷ xs) ≡ false
    go true h more =
        let no : Some x ≡ None = rw h at e in
        absurd (cc no)
    go false h more =
        let rest : find p xs ≡ None = rw h at e in
        rw h (more rest)

find_among : {A : Type 0} (p q : A → Bool) (xs : List A) (x : A) → list_all q xs ≡ true → find p xs ≡ Some x → q x ≡ true
find_among p q [] x all e = absurd (cc e)
find_among p q (y ∷ ys) x all e = go (p y) refl (find_among p q ys x (and_parts (q y) (list_all q ys) all).1)
  where
    go : (b : Bool) → p y ≡ b → (find p ys ≡ Some x → q x ≡ true) → q x ≡ true
    go true h more =
        let same_one : Some y ≡ Some x = rw h at e in
        let at : y ≡ x = ap (λ o. elim o [ Some z ↦ z | None ↦ y ]) same_one in
        ap q (sym at) ∙ (and_parts (q y) (list_all q ys) all).0
    go false h more =
        let rest : find p ys ≡ Some x = rw h at e in
        more rest

log_low : (hd : Block) (segment t : ℕ) → log_of hd segment ≡ Some t → t < 6
log_low hd segment t e = ltb-true t 6 (find_among (λ n. (log hd n).segment == segment) (λ n. nat_lt n 6) log_numbers t refl e)

module _ (image other : Image) (s : AgreesOnSupport image other) (h : is_checked image ≡ true) where
  -- the entry of a main block's segment
  pub sit_same : (segment : ℕ) → segment < (layout image).segments → sit other segment ≡ sit image segment
  sit_same segment low = sit-frame image other s (loads image other s h) (counts image other s h) segment low

  pub sit_at : (address : ℕ) → segment_of (layout image) address < (layout image).segments → sit other (segment_of (layout other) address) ≡ sit image (segment_of (layout image) address)
  sit_at address low = ap (λ l. sit other (segment_of l address)) (same_layout image other s h) ∙ sit_same (segment_of (layout image) address) low

  pub marked-frame : (address : ℕ) → segment_of (layout image) address < (layout image).segments → is_marked other address ≡ is_marked image address
  marked-frame address low = λ i. bit_msb (sit_at address low i).map (place_of (same_layout image other s h i) address)

  pub valid-frame : (segment : ℕ) → segment < (layout image).segments → has_valid_block other segment ≡ has_valid_block image segment
  valid-frame segment low = λ i. list_any (λ k. bit_msb (sit_same segment low i).map k) (numbers_below 512)

  pub same_slots : (address : ℕ) → slots_with other address ≡ slots_with image address
  same_slots address = slots_with-frame image other s (loads image other s h) (counts image other s h) address

  pub same_nodes : (address : ℕ) → nodes_with other address ≡ nodes_with image address
  same_nodes address = nodes_with-frame image other s (loads image other s h) (counts image other s h) address

  marked_valid : (address : ℕ) → is_marked image address ≡ true → has_valid_block image (segment_of (layout image) address) ≡ true
  marked_valid address marked = some_below (is_block_valid image (segment_of (layout image) address)) 512 (place_of (layout image) address) (offset_low (layout image) address) marked

  pub summary-frame : (address : ℕ) → is_main (layout image) address ≡ true → segment_of (layout image) address < (layout image).segments → is_marked image address ≡ true → summary other address ≡ summary image address
  unfolding summary
  summary-frame address main low marked =
      let parts : summary other address ≡ summary_in (layout image) (pack other) other (log_of (head image) (segment_of (layout image) address)) address
      = λ i. summary_in (same_layout image other s h i) (pack other) other (log_of (same_head image other s h i) (segment_of (same_layout image other s h i) address)) address in
      parts ∙ go (log_of (head image) (segment_of (layout image) address)) refl
    where
      go : (o : Option ℕ) → log_of (head image) (segment_of (layout image) address) ≡ o → summary_in (layout image) (pack other) other o address ≡ summary_in (layout image) (pack image) image o address
      go None e =
          let segment = segment_of (layout image) address in
          let free : is_log_segment (head image) segment ≡ false = find_none_any (λ t. (log (head image) t).segment == segment) log_numbers e in
          ap (λ b. summary_entry b (place_of (layout image) address)) (s.blocks ((layout image).ssa + segment) (summary_in_support image segment h low (marked_valid address marked) free))
      go (Some t) e =
          let six = log_low (head image) (segment_of (layout image) address) t e in
          let in_pack = pack_summary_same image other s (loads image other s h) (counts image other s h) t (place_of (layout image) address) six in
          let block = s.blocks address (marked_support image h address main low marked) in
          let missing : missing_summary other t address ≡ missing_summary image t address
          = λ i. record { nid = if nat_lt t 3 then 0 else footer_nid (block i); version = 0; place = 0 } in
          λ i. unwrap_or (in_pack i) (missing i)
