-- The summaries of an image that carries a batch of moves: kept blocks have their old ones, and moved blocks theirs at their new places.
use Rattle.std.proofs.Common.{◌≡◌, ℕ, ◌+◌, ◌*◌, ◌/◌, ◌%◌, ◌<◌, inl, inr, List, Bool, true, false, ◌==◌, cond, length, get_or, All, Option, Some, None, refl, sym, ap, ◌∙◌, arith}
use Rattle.std.specs.Prelude.{unwrap_or}
use Rattle.std.proofs.lemmas.Bool.{and_parts, ltb-true, eq-eqb, eqb-true, not-true, false_from_ne_true, false≢true}
use Rattle.std.proofs.lemmas.List.{get_or-drop, get_or_default}
use Rattle.std.proofs.lemmas.List.Elements.{All-from_get_or}
use Rattle.std.proofs.lemmas.List.Folds.{Any-from_list_any}
use Rattle.f2_bytes.specs.Bytes.{Block, Image, block_at}
use Rattle.f2_bytes.specs.Superblock.{layout, is_main, segment_of, place_of, segment_start}
use Rattle.f2_bytes.specs.Checkpoint.{head, pack, log, log_numbers, is_log_segment}
use Rattle.f2_bytes.specs.Check.{is_checked, nid_with}
use Rattle.f2_bytes.specs.Summary.{summary, summary_entry, summary_in, missing_summary}
use Rattle.f2_bytes.specs.Summary.{log_of as log_with}
use Rattle.f2_bytes.specs.Support.{is_free}
use Rattle.f2_bytes.specs.Defragment.{target_block}
use Rattle.f2_bytes.proofs.AllPlaces.{find_all}
use Rattle.f2_bytes.proofs.CheckedBlocks.{segment_below}
use Rattle.f2_pack.specs.declared.checkpoint.Log.{Log}
use Rattle.f2_pack.specs.declared.writing.NewPack.{NewPack}
use Rattle.f2_change.specs.declared.change.Change.{Change}
use Rattle.f2_change.specs.Carried.{Carries}
use Rattle.f2_change.specs.Change.{given, log_at, is_filled, summary_from, next_summary}
use Rattle.f2_commit.specs.Moves.{MovesBatch, AreTargets, moved_data, moved_nodes, data_target_count, node_targets, node_summary}
use Rattle.f2_commit.proofs.MoveAmong.{find_nothing, find_passes}
use Rattle.f2_commit.proofs.MoveCheckpoint.{logs-moved}
use Rattle.f2_commit.proofs.MoveLands.{takes_low, target_free, target_main}
use Rattle.f2_commit.proofs.MoveLayout.{in_order}
use Rattle.f2_commit.proofs.MoveMarks.{main_start, log_number, some_log}
use Rattle.f2_commit.proofs.MoveTargets.{segment_at, place_at}

-- ---- the definitions, as far as they matter here

summary_is : (image : Image) (a : ℕ) → summary image a ≡ summary_in (layout image) (pack image) image (log_with (head image) (segment_of (layout image) a)) a
unfolding summary
summary_is image a = refl

next_summary_is : (image : Image) (sums : List (ℕ × Block)) (segment k : ℕ) → next_summary image sums segment k ≡ summary_from image (is_log_segment (head image) segment) (segment_start (layout image) segment) k (given sums segment)
unfolding next_summary
next_summary_is image sums segment k = refl

-- a free segment is one of main, and no log's
pub free_inside : (image : Image) (segment : ℕ) → is_free image segment ≡ true → segment < (layout image).segments
unfolding is_free
free_inside image segment free = ltb-true segment (layout image).segments (and_parts _ _ (and_parts _ _ free).0).0

pub free_no_log : (image : Image) (segment : ℕ) → is_free image segment ≡ true → is_log_segment (head image) segment ≡ false
unfolding is_free
free_no_log image segment free = not-true _ (and_parts _ _ (and_parts _ _ free).0).1

pub same_cond : {A : Type 0} (b : Bool) (x : A) → cond b x x ≡ x
same_cond true x = refl
same_cond false x = refl

-- the least log with a segment is one of the six, and has it
log_found : (b : Block) (segment t : ℕ) → log_with b segment ≡ Some t → (t < 6) × ((log b t).segment ≡ segment)
log_found b segment t found =
    let test = λ (u : ℕ). (log b u).segment == segment in
    let each = All-from_get_or (λ (u : ℕ). u < 6) log_numbers 0 (λ i low.
    let few : i < 6 = omega (arith, low) in
    let e = log_number i few in
    omega (arith, e, few)) in
    (find_all (λ (u : ℕ). u < 6) test log_numbers t each found, eqb-true (log b t).segment segment (find_passes test log_numbers t found))

module _ (image new : Image) (addresses targets : List ℕ) (c : Change) (p : NewPack) (h : is_checked image ≡ true)
    (mains : All (λ a. is_main (layout image) a ≡ true) addresses) (free : AreTargets image addresses targets) (m : MovesBatch image addresses targets c) (s : Carries image c p new) where
  same_log : (t : ℕ) → t < 6 → (log_at c.logs t).segno ≡ (log (head image) t).segment
  same_log t low = ap (λ l. l.segment) (m.same_logs t low)

  -- a segment that a new log fills was a log's before
  filled_log : (segment : ℕ) → is_filled c.logs segment ≡ true → is_log_segment (head image) segment ≡ true
  filled_log segment filled =
      let t = Any-from_list_any (λ (at : Log). at.segno == segment) c.logs filled in
      let six = m.six in
      let inside = t.2 in
      let low : t.0 < 6 = omega (arith, six, inside) in
      let at : log_at c.logs t.0 ≡ t.1 = get_or_default c.logs t.0 (record { segno = 0; offset = 0; reuse = false }) t.1 t.2 ∙ t.3 in
      some_log (λ u. (log (head image) u).segment == segment) t.0 low (eq-eqb _ segment (sym (same_log t.0 low) ∙ ap (λ l. l.segno) at ∙ eqb-true t.1.segno segment t.4))

  filled_none : (segment : ℕ) → is_log_segment (head image) segment ≡ false → is_filled c.logs segment ≡ false
  filled_none segment other = false_from_ne_true _ (λ filled. false≢true (sym other ∙ filled_log segment filled))

  same_owner : (segment : ℕ) → log_with (head new) segment ≡ log_with (head image) segment
  same_owner segment =
      let same = logs-moved image new addresses targets c p m s in
      λ i. cond ((same 0 (omega arith) i).segment == segment) (Some 0)
      (cond ((same 1 (omega arith) i).segment == segment) (Some 1)
      (cond ((same 2 (omega arith) i).segment == segment) (Some 2)
      (cond ((same 3 (omega arith) i).segment == segment) (Some 3)
      (cond ((same 4 (omega arith) i).segment == segment) (Some 4)
      (cond ((same 5 (omega arith) i).segment == segment) (Some 5) None)))))

  -- ---- the blocks for segments

  stored : (segment : ℕ) → segment < (layout image).segments → block_at new ((layout image).ssa + segment) ≡ cond (is_filled c.logs segment) (block_at image ((layout image).ssa + segment)) (unwrap_or (given c.sums.items segment) (block_at image ((layout image).ssa + segment)))
  stored segment low =
      let order = in_order image h in
      let room = order.summaries in
      s.summary_blocks segment (omega (arith, low, room))

  pub kept_sums : (segment : ℕ) → segment < (layout image).segments → is_free image segment ≡ false → block_at new ((layout image).ssa + segment) ≡ block_at image ((layout image).ssa + segment)
  kept_sums segment low kept =
      stored segment low
      ∙ ap (λ o. cond (is_filled c.logs segment) (block_at image ((layout image).ssa + segment)) (unwrap_or o (block_at image ((layout image).ssa + segment)))) (m.no_other_sums segment kept)
      ∙ same_cond (is_filled c.logs segment) (block_at image ((layout image).ssa + segment))

  pub given_sums : (segment : ℕ) (b : Block) → is_free image segment ≡ true → segment < (layout image).segments → given c.sums.items segment ≡ Some b → block_at new ((layout image).ssa + segment) ≡ b
  given_sums segment b is_target low there =
      stored segment low
      ∙ ap (λ f. cond f (block_at image ((layout image).ssa + segment)) (unwrap_or (given c.sums.items segment) (block_at image ((layout image).ssa + segment)))) (filled_none segment (free_no_log image segment is_target))
      ∙ ap (λ o. unwrap_or o (block_at image ((layout image).ssa + segment))) there

  -- ---- the summaries of blocks

  now : (a : ℕ) → summary new a ≡ summary_in (layout image) (pack new) new (log_with (head image) (segment_of (layout image) a)) a
  now a =
      summary_is new a
      ∙ ap (λ l. summary_in l (pack new) new (log_with (head new) (segment_of l a)) a) s.areas
      ∙ ap (λ o. summary_in (layout image) (pack new) new o a) (same_owner (segment_of (layout image) a))

  -- the block of a segment that is not free keeps its summary
  pub kept_summary : (a : ℕ) → is_main (layout image) a ≡ true → is_free image (segment_of (layout image) a) ≡ false → summary new a ≡ summary image a
  kept_summary a main kept = by_log (log_with (head image) (segment_of (layout image) a)) refl
    where
      by_log : (o : Option ℕ) → log_with (head image) (segment_of (layout image) a) ≡ o → summary new a ≡ summary image a
      by_log None none =
          now a
          ∙ ap (λ o. summary_in (layout image) (pack new) new o a) none
          ∙ ap (λ b. summary_entry b (place_of (layout image) a)) (kept_sums (segment_of (layout image) a) (segment_below (layout image) a main) kept)
          ∙ sym (summary_is image a ∙ ap (λ o. summary_in (layout image) (pack image) image o a) none)
      by_log (Some t) found =
          let u = log_found (head image) (segment_of (layout image) a) t found in
          let k = place_of (layout image) a in
          let own : is_log_segment (head image) (segment_of (layout image) a) ≡ true = some_log (λ n. (log (head image) n).segment == segment_of (layout image) a) t u.0 (eq-eqb _ _ u.1) in
          now a
          ∙ ap (λ o. summary_in (layout image) (pack new) new o a) found
          ∙ ap (λ o. unwrap_or o (missing_summary new t a)) (s.log_summaries t k u.0 (omega arith))
          ∙ ap (λ n. next_summary image c.sums.items n k) (same_log t u.0 ∙ u.1)
          ∙ next_summary_is image c.sums.items (segment_of (layout image) a) k
          ∙ ap (summary_from image (is_log_segment (head image) (segment_of (layout image) a)) (segment_start (layout image) (segment_of (layout image) a)) k) (m.no_other_sums (segment_of (layout image) a) kept)
          ∙ ap (λ w. cond w (summary image (segment_start (layout image) (segment_of (layout image) a) + k)) (record { nid = 0; version = 0; place = 0 })) own
          ∙ ap (summary image) (main_start (layout image) a main)

  -- the block of a free segment has the summary that the change gives it
  pub given_summary : (x : ℕ) (b : Block) → is_main (layout image) x ≡ true → is_free image (segment_of (layout image) x) ≡ true → given c.sums.items (segment_of (layout image) x) ≡ Some b → summary new x ≡ summary_entry b (place_of (layout image) x)
  given_summary x b main is_target there =
      let other = free_no_log image (segment_of (layout image) x) is_target in
      let none : log_with (head image) (segment_of (layout image) x) ≡ None = find_nothing (λ t. (log (head image) t).segment == segment_of (layout image) x) log_numbers other in
      now x
      ∙ ap (λ o. summary_in (layout image) (pack new) new o x) none
      ∙ ap (λ y. summary_entry y (place_of (layout image) x)) (given_sums (segment_of (layout image) x) b is_target (segment_below (layout image) x main) there)

  -- block n of the targets has the summary of the data block that goes there
  pub data_summary : (n a : ℕ) → n < length (moved_data image addresses) → get_or (moved_data image addresses) n 0 ≡ a → summary new (target_block (layout image) targets n) ≡ summary image a
  data_summary n a low at =
      let t = m.data_sums (n / 512) (omega (arith, low)) in
      let segment = segment_at (layout image) targets n in
      let inside = takes_low image h addresses mains targets free n a (inl (low, at)) in
      let is_target = target_free image h addresses mains targets free n inside in
      let main = target_main image h addresses mains targets free n inside in
      let whole : 512 * (n / 512) + n % 512 ≡ n = omega arith in
      given_summary (target_block (layout image) targets n) t.0 main (ap (is_free image) segment ∙ is_target) (ap (given c.sums.items) segment ∙ t.1)
      ∙ ap (summary_entry t.0) (place_at (layout image) targets n)
      ∙ t.3 (n % 512) (omega arith) (omega (arith, whole, low))
      ∙ ap (λ k. summary image (get_or (moved_data image addresses) k 0)) whole
      ∙ ap (summary image) at

  -- and that of a node where one goes
  pub moved_node_summary : (n a : ℕ) (t : (k : ℕ) × (n ≡ 512 * data_target_count image addresses + k) × (k < length (moved_nodes image addresses)) × (nid_with image a ≡ Some (get_or (moved_nodes image addresses) k 0)))
      → summary new (target_block (layout image) targets n) ≡ node_summary (get_or (moved_nodes image addresses) t.0 0)
  moved_node_summary n a (k, at, low, found) =
      let t = m.node_sums (k / 512) (omega (arith, low)) in
      let count = data_target_count image addresses in
      let number : n / 512 ≡ count + k / 512 = omega (arith, at) in
      let segment : segment_of (layout image) (target_block (layout image) targets n) ≡ get_or (node_targets image addresses targets) (k / 512) 0
      = segment_at (layout image) targets n ∙ ap (λ i. get_or targets i 0) number ∙ sym (get_or-drop count targets (k / 512) 0) in
      let inside = takes_low image h addresses mains targets free n a (inr (k, at, low, found)) in
      let is_target = target_free image h addresses mains targets free n inside in
      let main = target_main image h addresses mains targets free n inside in
      let whole : 512 * (k / 512) + k % 512 ≡ k = omega arith in
      let rest : n % 512 ≡ k % 512 = omega (arith, at) in
      given_summary (target_block (layout image) targets n) t.0 main (ap (is_free image) (segment_at (layout image) targets n) ∙ is_target) (ap (given c.sums.items) segment ∙ t.1)
      ∙ ap (summary_entry t.0) (place_at (layout image) targets n ∙ rest)
      ∙ t.3 (k % 512) (omega arith) (omega (arith, whole, low))
      ∙ ap (λ i. node_summary (get_or (moved_nodes image addresses) i 0)) whole
