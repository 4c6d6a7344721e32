-- A later batch needs no more segments after an earlier one, whose targets hold none of its addresses.
use Rattle.std.proofs.Common.{◌≡◌, ℕ, zero, ◌+◌, ◌*◌, ◌<◌, ◌≤◌, List, [], ◌∷◌, Bool, true, false, ◌==◌, ◌&&◌, ◌||◌, nat_le, nat_lt, cond, filter, length, get_or, All, Option, Some, None, refl, sym, ap, ◌∙◌, ⊎_elim, arith}
use Rattle.std.specs.Prelude.{drop, option_map, unwrap_or}
use Rattle.std.specs.Option.{option_map_or}
use Rattle.std.specs.List.{list_any}
use Rattle.std.proofs.lemmas.Bool.{and_parts, and_from, or_cases, or_left, or_right, eqb-true, eq-eqb, ltb-true, false≢true}
use Rattle.std.proofs.lemmas.List.Elements.{All-tail, All-from_get_or}
use Rattle.std.proofs.lemmas.List.Folds.{Any-from_list_any, list_any_at}
use Rattle.f2_bytes.specs.declared.layout.Layout.{Layout}
use Rattle.f2_bytes.specs.Bytes.{numbers_below}
use Rattle.f2_bytes.specs.Defragment.{Placement, all_places, is_among, data_among, is_covered, is_moved_node, nodes_among, data_segments, batch_need, put_at, target_block, moved_batch}
use Rattle.f2_commit.proofs.MoveAmong.{any_filter}
use Rattle.f2_commit.proofs.MoveTargets.{put_number, behind, enough_room}

-- fewer elements pass a test that says more
fewer : (t s : ℕ → Bool) (xs : List ℕ) → All (λ x. t x ≡ true → s x ≡ true) xs → length (filter t xs) ≤ length (filter s xs)
fewer t s [] each = omega arith
fewer t s (x ∷ xs) each = go (t x) refl (s x) refl (fewer t s xs (All-tail (λ y. t y ≡ true → s y ≡ true) x xs each))
  where
    go : (a : Bool) → t x ≡ a → (b : Bool) → s x ≡ b → length (filter t xs) ≤ length (filter s xs) → length (cond a (x ∷ filter t xs) (filter t xs)) ≤ length (cond b (x ∷ filter s xs) (filter s xs))
    go true p true q rest = omega (arith, rest)
    go true p false q rest = absurd (false≢true (sym q ∙ each zero x (omega arith) p))
    go false p true q rest = omega (arith, rest)
    go false p false q rest = rest

-- a test that holds of some element holds where another one follows from it
some_more : {A : Type 0} (t s : A → Bool) (xs : List A) → ((x : A) → t x ≡ true → s x ≡ true) → list_any t xs ≡ true → list_any s xs ≡ true
some_more t s xs more any =
    let u = Any-from_list_any t xs any in
    list_any_at s xs u.0 u.1 u.2 (ap s u.3 ∙ more u.1 u.4)

-- an element that is kept is one of the list, and passes
kept_parts : (t : ℕ → Bool) (xs : List ℕ) (x : ℕ) → is_among (filter t xs) x ≡ true → (is_among xs x ≡ true) × (t x ≡ true)
kept_parts t xs x among =
    let any : list_any (λ y. t y && (y == x)) xs ≡ true = sym (any_filter (λ y. y == x) t xs) ∙ among in
    let u = Any-from_list_any (λ y. t y && (y == x)) xs any in
    let parts = and_parts (t u.1) (u.1 == x) u.4 in
    let same = eqb-true u.1 x parts.1 in
    (list_any_at (λ y. y == x) xs u.0 u.1 u.2 (ap (λ y. y == x) u.3 ∙ parts.1), ap t (sym same) ∙ parts.0)

kept_from : (t : ℕ → Bool) (xs : List ℕ) (x : ℕ) → is_among xs x ≡ true → t x ≡ true → is_among (filter t xs) x ≡ true
kept_from t xs x among passes =
    any_filter (λ y. y == x) t xs
    ∙ some_more (λ y. y == x) (λ y. t y && (y == x)) xs (λ y same. and_from _ _ (ap t (eqb-true y x same) ∙ passes) same) among

module _ (l : Layout) (nids : ℕ) (p : Placement) (addresses targets next : List ℕ) (apart : (n : ℕ) → n < 512 * batch_need nids p addresses → is_among next (target_block l targets n) ≡ false) where
  after : Placement
  after = moved_batch l nids addresses targets p

  -- a block at an address of the later batch did not move
  slot_stays : (ino k a : ℕ) → is_among next a ≡ true → (after.slot ino k == a) ≡ true → p.slot ino k ≡ a
  unfolding after moved_batch
  slot_stays ino k a among is = go (put_at l targets (data_among nids p addresses) (p.slot ino k)) refl (eqb-true _ a is)
    where
      go : (o : Option ℕ) → put_at l targets (data_among nids p addresses) (p.slot ino k) ≡ o → unwrap_or o (p.slot ino k) ≡ a → p.slot ino k ≡ a
      go None at same = same
      go (Some place) at same =
          let t = put_number l targets (data_among nids p addresses) (p.slot ino k) place at in
          let room = enough_room t.0 (length (data_among nids p addresses)) t.1 in
          let none = apart t.0 (omega (arith, room)) in
          absurd (false≢true (sym none ∙ ap (is_among next) (sym t.3 ∙ same) ∙ among))

  -- and neither did a node there
  node_stays : (nid : ℕ) → option_map_or (is_among next) (after.node nid) false ≡ true → option_map_or (is_among next) (p.node nid) false ≡ true
  unfolding after moved_batch
  node_stays nid there = by_old (p.node nid) there
    where
      by_put : (old : ℕ) (o : Option ℕ) → put_at l (drop (data_segments nids p addresses) targets) (nodes_among nids p addresses) nid ≡ o → is_among next (unwrap_or o old) ≡ true → is_among next old ≡ true
      by_put old None at among = among
      by_put old (Some place) at among =
          let d = data_segments nids p addresses in
          let t = put_number l (drop d targets) (nodes_among nids p addresses) nid place at in
          let room = enough_room t.0 (length (nodes_among nids p addresses)) t.1 in
          let none = apart (512 * d + t.0) (omega (arith, room)) in
          absurd (false≢true (sym none ∙ ap (is_among next) (sym (t.3 ∙ behind l targets d t.0)) ∙ among))

      by_old : (o : Option ℕ) → option_map_or (is_among next) (option_map (λ old. unwrap_or (put_at l (drop (data_segments nids p addresses) targets) (nodes_among nids p addresses) nid) old) o) false ≡ true
          → option_map_or (is_among next) o false ≡ true
      by_old None among = among
      by_old (Some old) among = by_put old (put_at l (drop (data_segments nids p addresses) targets) (nodes_among nids p addresses) nid) refl among

  -- ---- data

  abbrev has_slot : Placement → ℕ → Bool
  has_slot q a = list_any (λ place. q.slot place.0 place.1 == a) (all_places nids)

  slot_there : (a : ℕ) → is_among next a ≡ true → has_slot after a ≡ true → has_slot p a ≡ true
  slot_there a among any =
      some_more (λ place. after.slot place.0 place.1 == a) (λ place. p.slot place.0 place.1 == a) (all_places nids) (λ place is. eq-eqb (p.slot place.0 place.1) a (slot_stays place.0 place.1 a among is)) any

  among_next : (i : ℕ) → i < length next → is_among next (get_or next i 0) ≡ true
  among_next i low = list_any_at (λ y. y == get_or next i 0) next i 0 low (eq-eqb (get_or next i 0) (get_or next i 0) refl)

  fewer_data : length (data_among nids after next) ≤ length (data_among nids p next)
  unfolding data_among
  fewer_data = fewer (has_slot after) (has_slot p) next (All-from_get_or (λ a. has_slot after a ≡ true → has_slot p a ≡ true) next 0 (λ i low. slot_there (get_or next i 0) (among_next i low)))

  data_parts : (a : ℕ) → is_among (data_among nids after next) a ≡ true → (is_among next a ≡ true) × (is_among (data_among nids p next) a ≡ true)
  unfolding data_among
  data_parts a among =
      let parts = kept_parts (has_slot after) next a among in
      (parts.0, kept_from (has_slot p) next a parts.0 (slot_there a parts.0 parts.1))

  -- ---- nodes

  abbrev holds : Placement → ℕ → ℕ × ℕ → Bool
  holds q nid place = is_among (data_among nids q next) (q.slot place.0 place.1) && (q.holder place.0 place.1 == nid)

  same_holder : (ino k : ℕ) → after.holder ino k ≡ p.holder ino k
  unfolding after moved_batch
  same_holder ino k = refl

  holds_still : (nid : ℕ) (place : ℕ × ℕ) → holds after nid place ≡ true → holds p nid place ≡ true
  holds_still nid place held =
      let parts = and_parts (is_among (data_among nids after next) (after.slot place.0 place.1)) (after.holder place.0 place.1 == nid) held in
      let there = data_parts (after.slot place.0 place.1) parts.0 in
      let same = slot_stays place.0 place.1 (after.slot place.0 place.1) there.0 (eq-eqb _ _ refl) in
      and_from _ _ (ap (is_among (data_among nids p next)) same ∙ there.1) (ap (λ n. n == nid) (sym (same_holder place.0 place.1)) ∙ parts.1)

  none_covered : (xs : List ℕ) → list_any (is_covered (0, 0)) xs ≡ true → ⊥
  none_covered xs any =
      let u = Any-from_list_any (is_covered (0, 0)) xs any in
      let below : u.1 < 0 = ltb-true u.1 0 (and_parts (nat_le 0 u.1) (nat_lt u.1 0) u.4).1 in
      omega (arith, below)

  covered_still : (nid : ℕ) → list_any (is_covered (after.extent nid)) (data_among nids after next) ≡ true → list_any (is_covered (p.extent nid)) (data_among nids p next) ≡ true
  unfolding after moved_batch
  covered_still nid any = go (list_any (is_covered (p.extent nid)) (data_among nids p addresses)) any
    where
      inside : (a : ℕ) → is_among (data_among nids (moved_batch l nids addresses targets p) next) a ≡ true → is_covered (p.extent nid) a ≡ true → list_any (is_covered (p.extent nid)) (data_among nids p next) ≡ true
      inside a among covered =
          let there = (data_parts a among).1 in
          let u = Any-from_list_any (λ y. y == a) (data_among nids p next) there in
          list_any_at (is_covered (p.extent nid)) (data_among nids p next) u.0 u.1 u.2 (ap (is_covered (p.extent nid)) (u.3 ∙ eqb-true u.1 a u.4) ∙ covered)

      go : (b : Bool) → list_any (is_covered (cond b (0, 0) (p.extent nid))) (data_among nids (moved_batch l nids addresses targets p) next) ≡ true → list_any (is_covered (p.extent nid)) (data_among nids p next) ≡ true
      go true any = absurd (none_covered (data_among nids (moved_batch l nids addresses targets p) next) any)
      go false any =
          let u = Any-from_list_any (is_covered (p.extent nid)) (data_among nids (moved_batch l nids addresses targets p) next) any in
          inside u.1 (list_any_at (λ y. y == u.1) (data_among nids (moved_batch l nids addresses targets p) next) u.0 u.1 u.2 (eq-eqb _ u.1 u.3)) u.4

  moves_still : (nid : ℕ) → is_moved_node nids after next (data_among nids after next) nid ≡ true → is_moved_node nids p next (data_among nids p next) nid ≡ true
  moves_still nid moves =
      ⊎_elim
      (λ first. or_left _ _ (⊎_elim
      (λ there. or_left _ _ (node_stays nid there))
      (λ held. or_right (option_map_or (is_among next) (p.node nid) false) _ (some_more (holds after nid) (holds p nid) (all_places nids) (holds_still nid) held))
      (or_cases (option_map_or (is_among next) (after.node nid) false) (list_any (holds after nid) (all_places nids)) first)))
      (λ covered. or_right (option_map_or (is_among next) (p.node nid) false || list_any (holds p nid) (all_places nids)) _ (covered_still nid covered))
      (or_cases (option_map_or (is_among next) (after.node nid) false || list_any (holds after nid) (all_places nids)) (list_any (is_covered (after.extent nid)) (data_among nids after next)) moves)

  fewer_nodes : length (nodes_among nids after next) ≤ length (nodes_among nids p next)
  unfolding nodes_among
  fewer_nodes =
      fewer (is_moved_node nids after next (data_among nids after next)) (is_moved_node nids p next (data_among nids p next)) (numbers_below nids)
      (All-from_get_or (λ nid. is_moved_node nids after next (data_among nids after next) nid ≡ true → is_moved_node nids p next (data_among nids p next) nid ≡ true) (numbers_below nids) 0 (λ i low. moves_still (get_or (numbers_below nids) i 0)))

  pub later_need : batch_need nids (moved_batch l nids addresses targets p) next ≤ batch_need nids p next
  unfolding after
  later_need =
      let data_blocks = fewer_data in
      let nodes = fewer_nodes in
      omega (arith, data_blocks, nodes)
