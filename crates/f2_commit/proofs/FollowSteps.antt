-- Moves of blocks that are in use to places that are not: each block moves once.
use Rattle.std.proofs.Common.{◌≡◌, ℕ, ◌+◌, ◌-◌, List, [], ◌∷◌, Bool, true, false, not, ◌==◌, ◌||◌, ◌&&◌, nat_le, nat_lt, cond, All, refl, sym, ap, ◌∙◌, subst, arith}
use Rattle.std.specs.List.{list_any}
use Rattle.std.proofs.lemmas.Bool.{and_parts, and_from, eqb-true, eq-eqb, ne_eqb, not-true, le-leb, leb-true, lt-ltb, ltb-true, false_from_ne_true, false≢true}
use Rattle.std.proofs.lemmas.List.Elements.{All-head, All-tail}
use Rattle.std.proofs.lemmas.List.Folds.{Any-from_list_any, list_any_at}
use Rattle.f2_bytes.specs.Bytes.{Block, word, numbers_below}
use Rattle.f2_bytes.specs.Node.{node_offset, has_slots, is_direct, is_regular, address_count, ext_addr, ext_len}
use Rattle.f2_bytes.specs.Moved.{IsMovedNode, covers_moved, moved_word}
use Rattle.f2_bytes.specs.Defragment.{is_covered}
use Rattle.f2_bytes.proofs.Below.{found_below, some_below}
use Rattle.f2_commit.specs.Following.{Move, place_after, is_moved, leaves_extent, followed_word, IsFollowedNode}

-- a block in use goes where the function says, and that place is not in use
pub record IsStep (to : ℕ → ℕ) (used : ℕ → Bool) (m : Move) : Type 0 where
  pub goes : m.to ≡ to m.from
  pub old : used m.from ≡ true
  pub new : used m.to ≡ false

abbrev pub is_left : List Move → ℕ → Bool
is_left moves a = list_any (λ (m : Move). m.from == a) moves

same_tests : (a b : Bool) → (a ≡ true → b ≡ true) → (b ≡ true → a ≡ true) → a ≡ b
same_tests true b there back = sym (there refl)
same_tests false true there back = back refl
same_tests false false there back = refl

-- an address that no block leaves
pub untouched : (moves : List Move) (a : ℕ) → is_left moves a ≡ false → (place_after moves a ≡ a) × (is_moved moves a ≡ false)
unfolding place_after is_moved
untouched [] a none = (refl, refl)
untouched (m ∷ moves) a none = go (m.from == a) (untouched moves a) none
  where
    go : (b : Bool) → (is_left moves a ≡ false → (place_after moves a ≡ a) × (is_moved moves a ≡ false)) → (b || is_left moves a) ≡ false
        → (place_after moves (cond b m.to a) ≡ a) × ((b || is_moved moves (cond b m.to a)) ≡ false)
    go true rest never = absurd (false≢true (sym never))
    go false rest never = rest never

module _ (to : ℕ → ℕ) (used : ℕ → Bool) where
  -- no block leaves an address that is not in use
  unused_stays : (moves : List Move) → All (IsStep to used) moves → (a : ℕ) → used a ≡ false → is_left moves a ≡ false
  unused_stays moves steps a unused =
      false_from_ne_true _ (λ some.
      let t = Any-from_list_any (λ (m : Move). m.from == a) moves some in
      let step : IsStep to used t.1 = subst (IsStep to used) t.3 (steps t.0 t.1 t.2) in
      false≢true (sym unused ∙ ap used (sym (eqb-true t.1.from a t.4)) ∙ step.old))

  pub touched : (moves : List Move) → All (IsStep to used) moves → (a : ℕ) → is_left moves a ≡ true → (place_after moves a ≡ to a) × (is_moved moves a ≡ true)
  unfolding place_after is_moved
  touched [] steps a some = absurd (false≢true some)
  touched (m ∷ moves) steps a some = go (m.from == a) refl (touched moves (All-tail (IsStep to used) m moves steps) a) some
    where
      first : IsStep to used m
      first = All-head (IsStep to used) m moves steps

      go : (b : Bool) → (m.from == a) ≡ b → (is_left moves a ≡ true → (place_after moves a ≡ to a) × (is_moved moves a ≡ true)) → (b || is_left moves a) ≡ true
          → (place_after moves (cond b m.to a) ≡ to a) × ((b || is_moved moves (cond b m.to a)) ≡ true)
      go true is rest some =
          let stays = untouched moves m.to (unused_stays moves (All-tail (IsStep to used) m moves steps) m.to first.new) in
          (stays.0 ∙ first.goes ∙ ap to (eqb-true m.from a is), refl)
      go false is rest some = rest some

  -- what is not where it was was left
  module _ (moves : List Move) (steps : All (IsStep to used) moves) (leaves : (a : ℕ) → (to a ≡ a → ⊥) → is_left moves a ≡ true) where
    -- a block that leaves its address goes elsewhere
    away : (a : ℕ) → is_left moves a ≡ true → (to a == a) ≡ false
    away a some =
        let t = Any-from_list_any (λ (m : Move). m.from == a) moves some in
        let step : IsStep to used t.1 = subst (IsStep to used) t.3 (steps t.0 t.1 t.2) in
        let from = eqb-true t.1.from a t.4 in
        ne_eqb (to a) a (λ same. false≢true (sym step.new ∙ ap used (step.goes ∙ ap to from ∙ same ∙ sym from) ∙ step.old))

    stays : (a : ℕ) → is_left moves a ≡ false → to a ≡ a
    stays a none = go (to a == a) refl
      where
        go : (b : Bool) → (to a == a) ≡ b → to a ≡ a
        go true same = eqb-true (to a) a same
        go false other = absurd (false≢true (sym none ∙ leaves a (λ e. false≢true (sym other ∙ eq-eqb (to a) a e))))

    pub place_is : (a : ℕ) → place_after moves a ≡ to a
    place_is a = go (is_left moves a) refl
      where
        go : (b : Bool) → is_left moves a ≡ b → place_after moves a ≡ to a
        go true some = (touched moves steps a some).0
        go false none = (untouched moves a none).0 ∙ sym (stays a none)

    pub moved_is : (a : ℕ) → is_moved moves a ≡ not (to a == a)
    moved_is a = go (is_left moves a) refl
      where
        go : (b : Bool) → is_left moves a ≡ b → is_moved moves a ≡ not (to a == a)
        go true some = (touched moves steps a some).1 ∙ sym (ap not (away a some))
        go false none = (untouched moves a none).1 ∙ sym (ap not (eq-eqb (to a) a (stays a none)))

    -- an extent that a block leaves is one with a block that is elsewhere
    pub leaves_is : (b : Block) → leaves_extent moves b ≡ covers_moved to b
    unfolding leaves_extent covers_moved
    leaves_is b = ap (λ r. is_regular b && r) (same_tests _ _ there back)
      where
        elsewhere : ℕ → Bool
        elsewhere = λ i. not (to (ext_addr b + i) == ext_addr b + i)

        covered : Move → Bool
        covered = λ m. is_covered (ext_addr b, ext_len b) m.from

        there : list_any covered moves ≡ true → list_any elsewhere (numbers_below (ext_len b)) ≡ true
        there some =
            let t = Any-from_list_any covered moves some in
            let parts = and_parts (nat_le (ext_addr b) t.1.from) (nat_lt t.1.from (ext_addr b + ext_len b)) t.4 in
            let high = leb-true (ext_addr b) t.1.from parts.0 in
            let low = ltb-true t.1.from (ext_addr b + ext_len b) parts.1 in
            let whole : ext_addr b + (t.1.from - ext_addr b) ≡ t.1.from = omega (arith, high) in
            let left : is_left moves t.1.from ≡ true = list_any_at (λ (m : Move). m.from == t.1.from) moves t.0 t.1 t.2 (eq-eqb _ _ (ap (λ (m : Move). m.from) t.3)) in
            some_below elsewhere (ext_len b) (t.1.from - ext_addr b) (omega (arith, high, low))
            (ap (λ n. not (to n == n)) whole ∙ ap not (away t.1.from left))

        back : list_any elsewhere (numbers_below (ext_len b)) ≡ true → list_any covered moves ≡ true
        back some =
            let t = found_below elsewhere (ext_len b) some in
            let low = t.1 in
            let other : (to (ext_addr b + t.0) == ext_addr b + t.0) ≡ false = not-true _ t.2 in
            let left = leaves (ext_addr b + t.0) (λ e. false≢true (sym other ∙ eq-eqb _ _ e)) in
            let found = Any-from_list_any (λ (m : Move). m.from == ext_addr b + t.0) moves left in
            let from = eqb-true found.1.from (ext_addr b + t.0) found.4 in
            let at = ap (λ (m : Move). m.from) found.3 in
            list_any_at covered moves found.0 found.1 found.2
            (and_from _ _ (le-leb (ext_addr b) _ (omega (arith, at, from))) (lt-ltb _ (ext_addr b + ext_len b) (omega (arith, at, from, low))))

    word_is : (b : Block) (j : ℕ) → followed_word moves b j ≡ moved_word to b j
    unfolding followed_word moved_word
    word_is b j = λ i.
        cond (node_offset b == 0)
        (cond (has_slots b && nat_le 90 j && nat_lt j (90 + address_count b)) (place_is (word b j) i) (cond (nat_le 87 j && nat_lt j 90 && leaves_is b i) 0 (word b j)))
        (cond (is_direct (node_offset b) && nat_lt j 1018) (place_is (word b j) i) (word b j))

    -- a node that is moved has followed
    pub node_followed : (b c : Block) → IsMovedNode to b c → IsFollowedNode moves b c
    node_followed b c m = record { block = m.old; new_block = m.new; words = λ j low. m.words j low ∙ sym (word_is b j) }
