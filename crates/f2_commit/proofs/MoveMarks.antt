-- The marks and the types of segments of an image that carries a batch of moves.
use Rattle.std.proofs.Common.{◌≡◌, ℕ, zero, suc, ◌+◌, ◌*◌, ◌/◌, ◌<◌, ◌≤◌, inl, inr, List, Bool, true, false, not, ◌==◌, ◌&&◌, ◌||◌, nat_lt, nat_le, length, get_or, All, refl, sym, ap, ◌∙◌, subst, ⊎_elim, arith}
use Rattle.std.specs.List.{list_any}
use Rattle.std.proofs.lemmas.Bool.{and_parts, and_from, or_cases, or_left, or_right, eq-eqb, eqb-true, ltb-false, leb-true, not-true, false_from_ne_true, false≢true}
use Rattle.std.proofs.lemmas.List.Folds.{list_any_at}
use Rattle.f2_bytes.specs.declared.layout.Layout.{Layout}
use Rattle.f2_bytes.specs.Bits.{bit_msb}
use Rattle.f2_bytes.specs.Bytes.{Image, numbers_below}
use Rattle.f2_bytes.specs.Superblock.{layout, is_main, segment_of, place_of, segment_start}
use Rattle.f2_bytes.specs.Checkpoint.{head, log, pack, pack_head, is_log_segment, log_numbers, is_pack_valid}
use Rattle.f2_bytes.specs.SegmentTable.{sit, is_block_valid}
use Rattle.f2_bytes.specs.Check.{where_true, defects, validity_parts, is_checked, is_data, is_node, is_marked, kind_at, type_comparison}
use Rattle.f2_bytes.specs.Support.{is_support, is_free}
use Rattle.f2_bytes.specs.Moved.{is_used}
use Rattle.f2_bytes.specs.Defragment.{target_block}
use Rattle.f2_bytes.proofs.Below.{some_below, found_below}
use Rattle.f2_bytes.proofs.CheckedBlocks.{segment_below, block_says, used_is_marked}
use Rattle.f2_bytes.proofs.CheckedChain.{rule_met, part_clear}
use Rattle.f2_bytes.proofs.CheckedNodes.{no_part}
use Rattle.f2_bytes.proofs.CheckedUsed.{entry_node}
use Rattle.f2_bytes.proofs.FormatFacts.{free_has_no_support}
use Rattle.f2_bytes.proofs.PackReads.{pack_valid, log_segment_low}
use Rattle.f2_bytes.proofs.SlotSupport.{body_checked}
use Rattle.f2_pack.specs.declared.writing.NewPack.{NewPack}
use Rattle.f2_change.specs.declared.change.Change.{Change}
use Rattle.f2_change.specs.Carried.{Carries}
use Rattle.f2_commit.specs.Moves.{MovesBatch, AreTargets, moved_data, moved_nodes, data_target_count, node_targets, new_address, is_moving, is_taken, sit_after}
use Rattle.f2_commit.proofs.MoveAddresses.{nid_with-entry, used_support, data_no_node}
use Rattle.f2_commit.proofs.MoveCheckpoint.{sit-moved}
use Rattle.f2_commit.proofs.MoveLands.{Takes, Goes, goes, takes_low, lands-moved}
use Rattle.f2_commit.proofs.MoveTargets.{behind, segment_at, enough_room}

start_at : (l : Layout) (address : ℕ) → l.main ≤ address → segment_start l (segment_of l address) + place_of l address ≡ address
start_at l address low = omega (arith, low)

pub main_start : (l : Layout) (address : ℕ) → is_main l address ≡ true → segment_start l (segment_of l address) + place_of l address ≡ address
main_start l address main = start_at l address (leb-true l.main address (and_parts (nat_le l.main address) (nat_lt address (l.main + 512 * l.segments)) main).0)

-- a segment with a block of the support is not free, and no log's is
pub support_not_free : (image : Image) (a : ℕ) → is_main (layout image) a ≡ true → is_support image a ≡ true → is_free image (segment_of (layout image) a) ≡ false
support_not_free image a main support =
    false_from_ne_true _ (λ free.
    let clear = free_has_no_support image (segment_of (layout image) a) (place_of (layout image) a) free (omega arith) in
    false≢true (sym clear ∙ ap (is_support image) (main_start (layout image) a main) ∙ support))

pub log_not_free : (image : Image) (segment : ℕ) → is_log_segment (head image) segment ≡ true → is_free image segment ≡ false
unfolding is_free
log_not_free image segment own =
    false_from_ne_true _ (λ free.
    let no : is_log_segment (head image) segment ≡ false = not-true _ (and_parts _ _ (and_parts _ _ free).0).1 in
    false≢true (sym no ∙ own))

pub log_number : (t : ℕ) → t < 6 → get_or log_numbers t 0 ≡ t
log_number zero low = refl
log_number (suc zero) low = refl
log_number (suc (suc zero)) low = refl
log_number (suc (suc (suc zero))) low = refl
log_number (suc (suc (suc (suc zero)))) low = refl
log_number (suc (suc (suc (suc (suc zero))))) low = refl
log_number (suc (suc (suc (suc (suc (suc t)))))) low = absurd (omega (arith, low))

pub some_log : (test : ℕ → Bool) (t : ℕ) → t < 6 → test t ≡ true → list_any test log_numbers ≡ true
some_log test t low passes =
    let inside : t < length log_numbers = omega (arith, low) in
    list_any_at test log_numbers t 0 inside (ap test (log_number t low) ∙ passes)

pub log_own : (image : Image) (t : ℕ) → t < 6 → is_log_segment (head image) (log (head image) t).segment ≡ true
log_own image t low = some_log (λ u. (log (head image) u).segment == (log (head image) t).segment) t low (eq-eqb _ _ refl)

-- the segment of a log is one of main
pub log_inside : (image : Image) → is_checked image ≡ true → (t : ℕ) → t < 6 → (log (head image) t).segment < (layout image).segments
unfolding head is_pack_valid
log_inside image h t low =
    let counts = (and_parts _ _ (and_parts _ _ (and_parts _ _ h).0).0).1 in
    let valid = pack_valid image counts in
    log_segment_low (layout image) (pack_head (pack image)) (and_parts _ _ (and_parts _ _ valid).0).1 t low

kind_low : (kind : ℕ) → nat_lt 2 kind ≡ false → kind ≤ 2
kind_low kind out = let low = ltb-false 2 kind out in omega (arith, low)

module _ (image : Image) (h : is_checked image ≡ true) where
  -- the type of a segment with a block of a file
  old_data_kind : (a : ℕ) → is_used image a ≡ true → is_data image a ≡ true → kind_at image a ≤ 2
  unfolding validity_parts defects
  old_data_kind a used data_there =
      let main = (and_parts (is_main (layout image) a) (is_data image a || is_node image a) used).0 in
      let clear = part_clear (validity_parts image) (rule_met image (body_checked image h) 5 (omega arith) (omega arith)) 2 no_part (omega arith) in
      let marked = used_is_marked image h a used in
      kind_low (kind_at image a) (block_says image 3 (λ x. where_true (is_marked image x) (type_comparison image x)) clear a main
      (record { found = kind_at image a; wanted = 0; fails = nat_lt 2 (kind_at image a) }) (rw (marked, data_there) refl))

module _ (image new : Image) (addresses targets : List ℕ) (c : Change) (p : NewPack) (h : is_checked image ≡ true)
    (mains : All (λ a. is_main (layout image) a ≡ true) addresses) (free : AreTargets image addresses targets) (m : MovesBatch image addresses targets c) (s : Carries image c p new) where
  abbrev to : ℕ → ℕ
  to = new_address image addresses targets

  -- a place of main is marked where a block stays, and where one goes
  pub marked_at : (x : ℕ) → is_main (layout image) x ≡ true → is_marked new x ≡ ((is_marked image x && not (is_moving image addresses targets x)) || is_taken image addresses targets x)
  marked_at x main =
      let segment = segment_of (layout image) x in
      let k = place_of (layout image) x in
      let low = segment_below (layout image) x main in
      ap (λ l. is_block_valid new (segment_of l x) (place_of l x)) s.areas
      ∙ ap (λ e. bit_msb e.map k) (sit-moved image new addresses targets c p m s segment low)
      ∙ m.marks segment k low (omega arith)
      ∙ ap (λ y. (is_block_valid image segment k && not (is_moving image addresses targets y)) || is_taken image addresses targets y) (main_start (layout image) x main)

  -- a place of the targets that takes something is taken
  pub takes_taken : (n a : ℕ) → Takes image addresses targets n a → is_taken image addresses targets (target_block (layout image) targets n) ≡ true
  takes_taken n a (inl t) =
      or_left _ _ (some_below (λ k. target_block (layout image) targets k == target_block (layout image) targets n) (length (moved_data image addresses)) n t.0 (eq-eqb _ _ refl))
  takes_taken n a (inr t) =
      let place = target_block (layout image) targets n in
      let same : target_block (layout image) (node_targets image addresses targets) t.0 ≡ place = behind (layout image) targets (data_target_count image addresses) t.0 ∙ ap (target_block (layout image) targets) (sym t.1) in
      or_right _ _ (some_below (λ k. target_block (layout image) (node_targets image addresses targets) k == place) (length (moved_nodes image addresses)) t.0 t.2 (eq-eqb _ _ same))

  pub marks-moved : (a : ℕ) → is_used image a ≡ true → is_marked new (to a) ≡ true
  marks-moved a used = by (goes image addresses targets a)
    where
      main : is_main (layout image) (to a) ≡ true
      main = lands-moved image h addresses mains targets free a used

      by : Goes image addresses targets a → is_marked new (to a) ≡ true
      by (inl same) =
          let stays : not (not (to (to a) == to a)) ≡ true = ap (λ b. not (not b)) (eq-eqb (to (to a)) (to a) (ap to same)) in
          let old : is_marked image (to a) ≡ true = ap (is_marked image) same ∙ used_is_marked image h a used in
          marked_at (to a) main ∙ or_left _ _ (and_from _ _ old stays)
      by (inr t) =
          marked_at (to a) main ∙ or_right _ _ (ap (is_taken image addresses targets) t.1 ∙ takes_taken t.0 a t.2)

  -- ---- types

  pub new_kind : (x : ℕ) → is_main (layout image) x ≡ true → kind_at new x ≡ (sit_after image c (segment_of (layout image) x)).kind
  new_kind x main =
      ap (λ l. (sit new (segment_of l x)).kind) s.areas ∙ ap (λ e. e.kind) (sit-moved image new addresses targets c p m s (segment_of (layout image) x) (segment_below (layout image) x main))

  pub kept_kind : (a : ℕ) → is_used image a ≡ true → to a ≡ a → kind_at new (to a) ≡ kind_at image a
  kept_kind a used same =
      let main = (and_parts (is_main (layout image) a) (is_data image a || is_node image a) used).0 in
      ap (kind_at new) same ∙ new_kind a main ∙ m.old_kinds (segment_of (layout image) a) (support_not_free image a main (used_support image h a used))

  pub data_kinds-moved : (a : ℕ) → is_used image a ≡ true → is_data image a ≡ true → kind_at new (to a) ≤ 2
  data_kinds-moved a used data_there = by (goes image addresses targets a)
    where
      by : Goes image addresses targets a → kind_at new (to a) ≤ 2
      by (inl same) =
          let old = old_data_kind image h a used data_there in
          let kept = kept_kind a used same in
          omega (arith, old, kept)
      by (inr t) = by_takes t.0 t.1 t.2
        where
          by_takes : (n : ℕ) → to a ≡ target_block (layout image) targets n → Takes image addresses targets n a → kind_at new (to a) ≤ 2
          by_takes n at (inl d) =
              let low = d.0 in
              let kind = m.data_kinds (n / 512) (omega (arith, low)) in
              let there = new_kind (to a) (lands-moved image h addresses mains targets free a used) in
              let segment : segment_of (layout image) (to a) ≡ get_or targets (n / 512) 0 = ap (segment_of (layout image)) at ∙ segment_at (layout image) targets n in
              let same : (sit_after image c (segment_of (layout image) (to a))).kind ≡ (sit_after image c (get_or targets (n / 512) 0)).kind = ap (λ x. (sit_after image c x).kind) segment in
              omega (arith, kind, there, same)
          by_takes n at (inr d) =
              let entry = nid_with-entry image a (get_or (moved_nodes image addresses) d.0 0) d.3 in
              let there : is_node image a ≡ true = subst (λ x. is_node image x ≡ true) entry.2 (entry_node image h (get_or (moved_nodes image addresses) d.0 0) entry.0 entry.1) in
              absurd (data_no_node image h a (and_parts (is_main (layout image) a) (is_data image a || is_node image a) used).0 data_there there)

  -- ---- logs

  pub log_kinds-moved : (t : ℕ) → t < 6 → (sit new (log (head image) t).segment).kind ≡ (sit image (log (head image) t).segment).kind
  log_kinds-moved t low =
      ap (λ e. e.kind) (sit-moved image new addresses targets c p m s (log (head image) t).segment (log_inside image h t low))
      ∙ m.old_kinds (log (head image) t).segment (log_not_free image (log (head image) t).segment (log_own image t low))

  -- no target is a log's segment
  pub taken_free : (x : ℕ) → is_taken image addresses targets x ≡ true → is_free image (segment_of (layout image) x) ≡ true
  taken_free x taken = ⊎_elim by_data by_node (or_cases _ _ taken)
    where
      by_data : list_any (λ n. target_block (layout image) targets n == x) (numbers_below (length (moved_data image addresses))) ≡ true → is_free image (segment_of (layout image) x) ≡ true
      by_data any =
          let t = found_below (λ n. target_block (layout image) targets n == x) (length (moved_data image addresses)) any in
          let at = eqb-true (target_block (layout image) targets t.0) x t.2 in
          let low = takes_low image h addresses mains targets free t.0 (get_or (moved_data image addresses) t.0 0) (inl (t.1, refl)) in
          subst (λ y. is_free image (segment_of (layout image) y) ≡ true) at (ap (is_free image) (segment_at (layout image) targets t.0) ∙ free.free (t.0 / 512) 0 (omega (arith, low)))

      by_node : list_any (λ n. target_block (layout image) (node_targets image addresses targets) n == x) (numbers_below (length (moved_nodes image addresses))) ≡ true → is_free image (segment_of (layout image) x) ≡ true
      by_node any =
          let t = found_below (λ n. target_block (layout image) (node_targets image addresses targets) n == x) (length (moved_nodes image addresses)) any in
          let at = sym (behind (layout image) targets (data_target_count image addresses) t.0) ∙ eqb-true (target_block (layout image) (node_targets image addresses targets) t.0) x t.2 in
          let room = enough_room t.0 (length (moved_nodes image addresses)) t.1 in
          let enough = free.enough in
          let n = 512 * data_target_count image addresses + t.0 in
          subst (λ y. is_free image (segment_of (layout image) y) ≡ true) at (ap (is_free image) (segment_at (layout image) targets n) ∙ free.free (n / 512) 0 (omega (arith, room, enough)))

  -- the segments of logs gain no mark
  pub log_marks-moved : (t k : ℕ) → t < 6 → k < 512 → is_block_valid new (log (head image) t).segment k ≡ true → is_block_valid image (log (head image) t).segment k ≡ true
  log_marks-moved t k low within valid =
      let segment = (log (head image) t).segment in
      let x = segment_start (layout image) segment + k in
      let inside = log_inside image h t low in
      let marks : ((is_block_valid image segment k && not (is_moving image addresses targets x)) || is_taken image addresses targets x) ≡ true
      = sym (m.marks segment k inside within) ∙ sym (ap (λ e. bit_msb e.map k) (sit-moved image new addresses targets c p m s segment inside)) ∙ valid in
      let same : segment_of (layout image) x ≡ segment = omega (arith, within) in
      ⊎_elim
      (λ stays. (and_parts (is_block_valid image segment k) (not (is_moving image addresses targets x)) stays).0)
      (λ taken. absurd (false≢true (sym (log_not_free image segment (log_own image t low)) ∙ sym (ap (is_free image) same) ∙ taken_free x taken)))
      (or_cases _ _ marks)
