-- The names that a node leads to, step by step.
use Rattle.std.proofs.Common.{◌≡◌, ◌≢◌, ℕ, zero, suc, ◌+◌, ◌-◌, ◌*◌, ◌^◌, ◌<◌, ◌≤◌, List, [], ◌∷◌, ◌++◌, Some, None, refl, sym, ap, ◌∙◌, arith, append_assoc, append-nil}
use Rattle.std.specs.Prelude.{flat_map, ◌==◌}
use Rattle.std.proofs.lemmas.Bool.{eq-eqb, ne_eqb, cond-true, cond-false}
use Rattle.std.proofs.lemmas.Nat.{row_fits}
use Rattle.f2_bytes.specs.Bytes.{Block, Image, word, numbers_below}
use Rattle.f2_bytes.specs.Tree.{read_node}
use Rattle.f2_survey.specs.Named.{name_in, span, each_number, names_under}
use Rattle.f2_survey.specs.declared.nid_slot_names.Name.{Name}
use Rattle.f2_view.proofs.NodeReads.{low_nid}
use Rattle.f2_view.proofs.Rows.{flat_map-more}

abbrev pub named : ℕ → ℕ → Name
named offset nid = record { offset = offset; nid = nid }

pub in_none : (offset nid : ℕ) → nid ≡ 0 → name_in offset nid ≡ []
in_none offset nid none = cond-true (nid == 0) [] (named offset nid ∷ []) (eq-eqb nid 0 none)

pub in_some : (offset nid : ℕ) → nid ≢ 0 → name_in offset nid ≡ named offset nid ∷ []
in_some offset nid some = cond-false (nid == 0) [] (named offset nid ∷ []) (ne_eqb nid 0 some)

pub no_node : (image : Image) (nid : ℕ) → nid ≡ 0 → read_node image nid ≡ None
no_node image nid none = low_nid image nid (omega (arith, none))

module _ (image : Image) (offset nid : ℕ) where
  pub none_under : (height : ℕ) → nid ≡ 0 → names_under image height offset nid ≡ []
  unfolding names_under
  none_under zero none = in_none offset nid none
  none_under (suc h) none =
      λ i. in_none offset nid none i ++ each_number (λ j n. names_under image h (offset + 1 + j * span h) n) (no_node image nid none i)

  module _ (some : nid ≢ 0) where
    pub alone : (height : ℕ) → height ≡ 0 → names_under image height offset nid ≡ named offset nid ∷ []
    unfolding names_under
    alone height low = ap (λ h. names_under image h offset nid) low ∙ in_some offset nid some

    module _ (height h : ℕ) (above : height ≡ suc h) where
      pub none_below : read_node image nid ≡ None → names_under image height offset nid ≡ named offset nid ∷ []
      unfolding names_under
      none_below none =
          ap (λ n. names_under image n offset nid) above
          ∙ λ i. in_some offset nid some i ++ each_number (λ j n. names_under image h (offset + 1 + j * span h) n) (none i)

      pub some_below : (b : Block) → read_node image nid ≡ Some b
          → names_under image height offset nid ≡ named offset nid ∷ flat_map (λ j. names_under image h (offset + 1 + j * span h) (word b j)) (numbers_below 1018)
      unfolding names_under
      some_below b is =
          ap (λ n. names_under image n offset nid) above
          ∙ λ i. in_some offset nid some i ++ each_number (λ j n. names_under image h (offset + 1 + j * span h) n) (is i)

-- before the first number
pub first_of : (a : List Name) (first : Name) (names : ℕ → List Name) → a ++ first ∷ [] ≡ a ++ (first ∷ flat_map names (numbers_below 0))
unfolding numbers_below
first_of a first names = refl

-- the names of one number more
pub one_more : (a b c : List Name) (first : Name) (names : ℕ → List Name) (n : ℕ)
    → b ≡ a ++ (first ∷ flat_map names (numbers_below n)) → c ≡ b ++ names n → c ≡ a ++ (first ∷ flat_map names (numbers_below (n + 1)))
one_more a b c first names n before last =
    last
    ∙ ap (λ l. l ++ names n) before
    ∙ append_assoc a (first ∷ flat_map names (numbers_below n)) (names n)
    ∙ ap (λ l. a ++ (first ∷ l)) (sym (flat_map-more names n))

pub pushes : (old new pushed names : List Name) → new ≡ old ++ pushed → names ≡ pushed → new ≡ old ++ names
pushes old new pushed names is same = is ∙ ap (λ l. old ++ l) (sym same)

pub pushes_none : (old names : List Name) → names ≡ [] → old ≡ old ++ names
pushes_none old names none = sym (ap (λ l. old ++ l) none ∙ append-nil old)

-- what a node leads to has its offsets among those under the node above
pub fits_under : (height offset j below step : ℕ) → (height ≡ 0 → ⊥) → below ≡ height - 1 → step ≡ span below → j < 1018 → offset + span height ≤ 2 ^ 32
    → offset + 1 + j * step + step ≤ 2 ^ 32
fits_under height offset j below step some under steps low fits =
    let above : height ≡ suc below = omega (arith, some, under) in
    let whole : span height ≡ 1 + 1018 * step = ap span above ∙ ap (λ n. 1 + 1018 * n) (sym steps) in
    let row = row_fits j step 1018 step low (omega arith) in
    omega (arith, whole, row, fits)

pub span_some : (h : ℕ) → 1 ≤ span h
span_some zero = omega arith
span_some (suc h) = omega arith
