-- A batch is the same with the addresses alone at which something stands.
use Rattle.std.proofs.Common.{◌≡◌, ℕ, ◌+◌, ◌<◌, ◌≤◌, List, [], ◌∷◌, ◌++◌, Bool, true, false, ◌==◌, ◌&&◌, ◌||◌, cond, filter, map, length, get_or, All, Option, Some, None, refl, sym, ap, ◌∙◌, ⊎_elim, arith}
use Rattle.std.specs.Prelude.{drop, option_map, unwrap_or}
use Rattle.std.specs.Option.{option_map_or}
use Rattle.std.specs.List.{list_any}
use Rattle.std.proofs.lemmas.Bool.{and_parts, and_from, or_cases, or_left, or_right, eqb-true, eq-eqb, false_from_ne_true, false≢true}
use Rattle.std.proofs.lemmas.List.Elements.{All-head, All-tail, All-from_get_or}
use Rattle.std.proofs.lemmas.List.Folds.{Any-from_list_any, list_any_at}
use Rattle.f2_bytes.specs.declared.layout.Layout.{Layout}
use Rattle.f2_bytes.specs.Bytes.{numbers_below, quotient_up}
use Rattle.f2_bytes.specs.Defragment.{Placement, all_places, is_among, data_among, is_covered, is_moved_node, nodes_among, batch_need, put_at, moved_batch, occupied}
use Rattle.f2_bytes.proofs.AllPlaces.{All-below}
use Rattle.f2_bytes.proofs.Below.{found_below, some_below, length-numbers_below}
use Rattle.f2_gather.proofs.Ascending.{bools_same}
use Rattle.f2_commit.specs.Following.{batch_moves}
use Rattle.f2_commit.proofs.MoveAmong.{any_filter, among_kept}
use Rattle.f2_reloc.proofs.Standing.{has_slot, has_node, stands, filter_same}

-- what passes one test passes the other after a weaker one
filter_either : (f g : ℕ → Bool) (xs : List ℕ) → filter f (filter (λ a. f a || g a) xs) ≡ filter f xs
filter_either f g [] = refl
filter_either f g (x ∷ xs) = go (f x) refl (g x) (filter_either f g xs)
  where
    go : (b : Bool) → f x ≡ b → (c : Bool) → filter f (filter (λ a. f a || g a) xs) ≡ filter f xs
        → filter f (cond (b || c) (x ∷ filter (λ a. f a || g a) xs) (filter (λ a. f a || g a) xs)) ≡ cond b (x ∷ filter f xs) (filter f xs)
    go true e c rest = (λ i. cond (e i) (x ∷ filter f (filter (λ a. f a || g a) xs)) (filter f (filter (λ a. f a || g a) xs))) ∙ ap (λ ys. x ∷ ys) rest
    go false e true rest = (λ i. cond (e i) (x ∷ filter f (filter (λ a. f a || g a) xs)) (filter f (filter (λ a. f a || g a) xs))) ∙ rest
    go false e false rest = rest

-- a list with a member is not empty
pub some_length : (xs : List ℕ) (a : ℕ) → is_among xs a ≡ true → 1 ≤ length xs
some_length xs a among = let u = Any-from_list_any (λ y. y == a) xs among in let low = u.2 in omega (arith, low)

-- what is among a list is among those that are kept, where it passes
pub among_filter : (t : ℕ → Bool) (xs : List ℕ) (a : ℕ) → t a ≡ true → is_among (filter t xs) a ≡ is_among xs a
among_filter t xs a passes =
    any_filter (λ y. y == a) t xs
    ∙ bools_same (list_any (λ x. t x && (x == a)) xs) (is_among xs a)
    (λ some.
    let u = Any-from_list_any (λ x. t x && (x == a)) xs some in
    list_any_at (λ y. y == a) xs u.0 u.1 u.2 (ap (λ y. y == a) u.3 ∙ (and_parts (t u.1) (u.1 == a) u.4).1))
    (λ some.
    let u = Any-from_list_any (λ y. y == a) xs some in
    list_any_at (λ x. t x && (x == a)) xs u.0 u.1 u.2 (and_from (t (get_or xs u.0 u.1)) (get_or xs u.0 u.1 == a) (ap t (u.3 ∙ eqb-true u.1 a u.4) ∙ passes) (ap (λ y. y == a) u.3 ∙ u.4)))

pub none_kept : (t : ℕ → Bool) (xs : List ℕ) → All (λ x. t x ≡ false) xs → filter t xs ≡ []
none_kept t [] all = refl
none_kept t (x ∷ xs) all =
    let first = All-head (λ y. t y ≡ false) x xs all in
    let rest = none_kept t xs (All-tail (λ y. t y ≡ false) x xs all) in
    λ i. cond (first i) (x ∷ filter t xs) (rest i)

-- no more pass a test than another one that follows from it
pub fewer : (t s : ℕ → Bool) (xs : List ℕ) → All (λ x. t x ≡ true → s x ≡ true) xs → length (filter t xs) ≤ length (filter s xs)
fewer t s [] each = omega arith
fewer t s (x ∷ xs) each = go (t x) refl (s x) refl (fewer t s xs (All-tail (λ y. t y ≡ true → s y ≡ true) x xs each))
  where
    go : (a : Bool) → t x ≡ a → (b : Bool) → s x ≡ b → length (filter t xs) ≤ length (filter s xs) → length (cond a (x ∷ filter t xs) (filter t xs)) ≤ length (cond b (x ∷ filter s xs) (filter s xs))
    go true p true q rest = omega (arith, rest)
    go true p false q rest = absurd (false≢true (sym q ∙ All-head (λ y. t y ≡ true → s y ≡ true) x xs each p))
    go false p true q rest = omega (arith, rest)
    go false p false q rest = rest

pub kept_length : (t : ℕ → Bool) (xs : List ℕ) → length (filter t xs) ≤ length xs
kept_length t [] = omega arith
kept_length t (x ∷ xs) = go (t x) (kept_length t xs)
  where
    go : (b : Bool) → length (filter t xs) ≤ length xs → length (cond b (x ∷ filter t xs) (filter t xs)) ≤ length (x ∷ xs)
    go true rest = omega (arith, rest)
    go false rest = omega (arith, rest)

module _ (nids : ℕ) (p : Placement) (xs : List ℕ) where
  pub occupied_data : data_among nids p (occupied nids p xs) ≡ data_among nids p xs
  unfolding data_among
  occupied_data = filter_either (has_slot nids p) (has_node nids p) xs

  node_same : (nid : ℕ) → nid < nids → option_map_or (is_among (occupied nids p xs)) (p.node nid) false ≡ option_map_or (is_among xs) (p.node nid) false
  node_same nid low = go (p.node nid) refl
    where
      go : (o : Option ℕ) → p.node nid ≡ o → option_map_or (is_among (occupied nids p xs)) o false ≡ option_map_or (is_among xs) o false
      go None at = refl
      go (Some a) at =
          among_filter (stands nids p) xs a (or_right (has_slot nids p a) (has_node nids p a)
          (some_below (λ n. option_map_or (λ x. x == a) (p.node n) false) nids nid low (ap (λ o. option_map_or (λ x. x == a) o false) at ∙ eq-eqb a a refl)))

  pub occupied_nodes : nodes_among nids p (occupied nids p xs) ≡ nodes_among nids p xs
  unfolding nodes_among
  occupied_nodes =
      filter_same (is_moved_node nids p (occupied nids p xs) (data_among nids p (occupied nids p xs))) (is_moved_node nids p xs (data_among nids p xs)) (numbers_below nids)
      (All-below (λ nid. is_moved_node nids p (occupied nids p xs) (data_among nids p (occupied nids p xs)) nid ≡ is_moved_node nids p xs (data_among nids p xs) nid) nids (λ nid low i.
      node_same nid low i
      || list_any (λ place. is_among (occupied_data i) (p.slot place.0 place.1) && (p.holder place.0 place.1 == nid)) (all_places nids)
      || list_any (is_covered (p.extent nid)) (occupied_data i)))

  pub occupied_need : batch_need nids p (occupied nids p xs) ≡ batch_need nids p xs
  occupied_need = λ i. quotient_up (length (occupied_data i)) 512 + quotient_up (length (occupied_nodes i)) 512

  pub occupied_moved : (l : Layout) (targets : List ℕ) → moved_batch l nids (occupied nids p xs) targets p ≡ moved_batch l nids xs targets p
  unfolding moved_batch
  occupied_moved l targets = λ i. record {
    node = λ nid. option_map (λ old. unwrap_or (put_at l (drop (quotient_up (length (occupied_data i)) 512) targets) (occupied_nodes i) nid) old) (p.node nid);
    slot = λ ino k. unwrap_or (put_at l targets (occupied_data i) (p.slot ino k)) (p.slot ino k);
    holder = p.holder;
    extent = λ ino. cond (list_any (is_covered (p.extent ino)) (occupied_data i)) (0, 0) (p.extent ino);
  }

  pub occupied_moves : (l : Layout) (targets : List ℕ) → batch_moves l nids (occupied nids p xs) targets p ≡ batch_moves l nids xs targets p
  unfolding batch_moves
  occupied_moves l targets = λ i.
      map (λ a. record { from = a; to = unwrap_or (put_at l targets (occupied_data i) a) a }) (occupied_data i)
      ++ map (λ nid. record {
        from = unwrap_or (p.node nid) 0;
        to = unwrap_or (put_at l (drop (quotient_up (length (occupied_data i)) 512) targets) (occupied_nodes i) nid) (unwrap_or (p.node nid) 0);
      }) (occupied_nodes i)

  -- what stands at one of the addresses moves
  pub slot_moves : (a : ℕ) → is_among xs a ≡ true → has_slot nids p a ≡ true → is_among (data_among nids p xs) a ≡ true
  unfolding data_among
  slot_moves a among there = among_filter (has_slot nids p) xs a there ∙ among

  pub node_moves : (nid a : ℕ) → nid < nids → is_among xs a ≡ true → p.node nid ≡ Some a → is_among (nodes_among nids p xs) nid ≡ true
  unfolding nodes_among
  node_moves nid a low among at =
      among_kept (is_moved_node nids p xs (data_among nids p xs)) nids nid low
      (or_left _ _ (or_left _ _ (ap (λ o. option_map_or (is_among xs) o false) at ∙ among)))

  -- where no segment is needed, nothing stands
  pub no_need : batch_need nids p xs ≡ 0 → occupied nids p xs ≡ []
  no_need none = none_kept (stands nids p) xs (All-from_get_or (λ a. stands nids p a ≡ false) xs 0 (λ i low.
      false_from_ne_true _ (λ there. ⊎_elim (by_slot i low) (by_node i low) (or_cases _ _ there))))
    where
      own : (i : ℕ) → i < length xs → is_among xs (get_or xs i 0) ≡ true
      own i low = list_any_at (λ y. y == get_or xs i 0) xs i 0 low (eq-eqb (get_or xs i 0) (get_or xs i 0) refl)

      by_slot : (i : ℕ) → i < length xs → has_slot nids p (get_or xs i 0) ≡ true → ⊥
      by_slot i low there =
          let some = some_length (data_among nids p xs) (get_or xs i 0) (slot_moves (get_or xs i 0) (own i low) there) in
          omega (arith, some, none)

      by_entry : (i nid : ℕ) → i < length xs → nid < nids → (o : Option ℕ) → p.node nid ≡ o → option_map_or (λ x. x == get_or xs i 0) o false ≡ true → ⊥
      by_entry i nid low below None at here = false≢true here
      by_entry i nid low below (Some a) at here =
          let among : is_among xs a ≡ true = ap (is_among xs) (eqb-true a (get_or xs i 0) here) ∙ own i low in
          let some = some_length (nodes_among nids p xs) nid (node_moves nid a below among at) in
          omega (arith, some, none)

      by_node : (i : ℕ) → i < length xs → has_node nids p (get_or xs i 0) ≡ true → ⊥
      by_node i low there =
          let f = found_below (λ nid. option_map_or (λ x. x == get_or xs i 0) (p.node nid) false) nids there in
          by_entry i f.0 low f.1 (p.node f.0) refl f.2

  -- few blocks need few segments
  pub need_few : length (occupied nids p xs) ≤ 4096 → batch_need nids p xs ≤ 9 + nids
  unfolding data_among nodes_among
  need_few few =
      let first = fewer (has_slot nids p) (stands nids p) xs (All-from_get_or (λ a. has_slot nids p a ≡ true → stands nids p a ≡ true) xs 0 (λ i low there. or_left _ _ there)) in
      let second = kept_length (is_moved_node nids p xs (data_among nids p xs)) (numbers_below nids) in
      let all = length-numbers_below nids in
      omega (arith, few, first, second, all)
