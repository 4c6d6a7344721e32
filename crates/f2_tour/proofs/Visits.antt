-- What a visit of a file adds to what was found.
use Rattle.std.proofs.Common.{◌≡◌, ◌≢◌, ℕ, ◌+◌, ◌-◌, ◌^◌, List, [], ◌++◌, min, true, Some, None, sym, ap, ◌∙◌, arith, append-nil}
use Rattle.std.specs.Prelude.{flat_map, ◌==◌}
use Rattle.std.specs.Option.{option_map_or}
use Rattle.std.proofs.lemmas.Bool.{ne_eqb}
use Rattle.f2_bytes.specs.Bytes.{Block, Image, count_below}
use Rattle.f2_bytes.specs.Node.{xattr_nid, offset_limit}
use Rattle.f2_bytes.specs.Tree.{read_node, is_inode}
use Rattle.f2_bytes.specs.Check.{Defect, digit, defects_at, times_named_in}
use Rattle.f2_defects.specs.Collected.{Collection, Collects}
use Rattle.f2_items.specs.Counted.{IsCounted, times_in}
use Rattle.f2_survey.specs.Named.{file_names, name_defects}
use Rattle.f2_survey.specs.Parts.{part_in}
use Rattle.f2_bytes.specs.Tree.{nid_slot}
use Rattle.f2_survey.specs.declared.nid_slot_names.Name.{Name}
use Rattle.f2_survey.proofs.FileNames.{no_inode}
use Rattle.f2_tour.proofs.NameLists.{defects-named, times-named}
use Rattle.f2_items.proofs.NameSteps.{collects_same}

-- counts that are the same for each number but 0
pub counted_alike : (limit : ℕ) (counts : List ℕ) (f g : ℕ → ℕ) → ((n : ℕ) → n ≢ 0 → f n ≡ g n) → IsCounted limit counts f → IsCounted limit counts g
counted_alike limit counts f g same counted = record {
  length = counted.length;
  each = λ n some low. counted.each n some low ∙ ap (λ k. min k (2 ^ 64 - 1)) (same n (λ e. omega (arith, e, some)));
}

module _ (image : Image) (ino : ℕ) where
  defects_of_names : is_inode image ino ≡ true → (names : List Name) → names ≡ file_names image ino → flat_map (name_defects image ino) names ≡ defects_at (part_in image 3 6) ino
  defects_of_names inode names all = ap (flat_map (name_defects image ino)) all ∙ sym (defects-named image ino inode)

  -- a file whose inode is missing
  module _ (none : read_node image ino ≡ None) where
    pub collects_missing : is_inode image ino ≡ true → (c : Collection) (defects : List Defect) → Collects c defects → Collects c (defects ++ defects_at (part_in image 3 6) ino)
    collects_missing inode c defects =
        collects_same c defects (defects ++ defects_at (part_in image 3 6) ino)
        (sym (ap (λ l. defects ++ l) (sym (defects_of_names inode [] (sym (no_inode image ino none)))) ∙ append-nil defects))

    pub counts_missing : (limit : ℕ) (counts : List ℕ) (times : ℕ → ℕ) → IsCounted limit counts times → IsCounted limit counts (λ n. times n + times_named_in image n ino)
    counts_missing limit counts times =
        counted_alike limit counts times (λ n. times n + times_named_in image n ino) (λ n some.
        let slots : count_below offset_limit (λ o. nid_slot image ino o == n) ≡ 0 = sym (times-named image ino n some) ∙ ap (λ l. times_in l n) (no_inode image ino none) in
        let attributes : digit (option_map_or xattr_nid (read_node image ino) 0 == n) ≡ 0
        = ap (λ o. digit (option_map_or xattr_nid o 0 == n)) none ∙ ap digit (ne_eqb 0 n (λ h. some (sym h))) in
        omega (arith, slots, attributes))

  -- a file with these names
  module _ (names : List Name) (all : names ≡ file_names image ino) where
    pub collects_named : is_inode image ino ≡ true → (c : Collection) (defects : List Defect)
        → Collects c (defects ++ flat_map (name_defects image ino) names) → Collects c (defects ++ defects_at (part_in image 3 6) ino)
    collects_named inode c defects =
        collects_same c (defects ++ flat_map (name_defects image ino) names) (defects ++ defects_at (part_in image 3 6) ino) (ap (λ l. defects ++ l) (defects_of_names inode names all))

    pub counts_named : (inode : Block) → read_node image ino ≡ Some inode → (limit : ℕ) (counts : List ℕ) (times : ℕ → ℕ)
        → IsCounted limit counts (λ n. times n + times_in names n + digit (xattr_nid inode == n)) → IsCounted limit counts (λ n. times n + times_named_in image n ino)
    counts_named inode is limit counts times =
        counted_alike limit counts (λ n. times n + times_in names n + digit (xattr_nid inode == n)) (λ n. times n + times_named_in image n ino) (λ n some.
        let slots : times_in names n ≡ count_below offset_limit (λ o. nid_slot image ino o == n) = ap (λ l. times_in l n) all ∙ times-named image ino n some in
        let attributes : digit (option_map_or xattr_nid (read_node image ino) 0 == n) ≡ digit (xattr_nid inode == n) = ap (λ o. digit (option_map_or xattr_nid o 0 == n)) is in
        omega (arith, slots, attributes))

    -- no defect was found before, and this file has none
    pub clean_still : is_inode image ino ≡ true → (c : Collection) → defects_at (part_in image 3 6) ino ≡ [] → Collects c ([] ++ flat_map (name_defects image ino) names) → Collects c []
    clean_still inode c clean = collects_same c (flat_map (name_defects image ino) names) [] (defects_of_names inode names all ∙ clean)
