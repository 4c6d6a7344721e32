-- The names of a salvage form a tree.
use Rattle.std.proofs.Common.{◌≡◌, inl, inr, ℕ, zero, suc, ◌+◌, ◌<◌, ◌≤◌, true, false, ◌==◌, ◌&&◌, All, Option, Some, None, refl, sym, ap, ◌∙◌, arith}
use Rattle.std.specs.Prelude.{option_and_then, is_some}
use Rattle.std.specs.List.{list_any}
use Rattle.std.proofs.lemmas.Bool.{and_parts, and_right, or_left, or_right, or_cases, ne_eqb, cases_lt}
use Rattle.std.proofs.lemmas.List.Elements.{All-weaker}
use Rattle.f2_bytes.specs.Bytes.{Image}
use Rattle.f2_bytes.specs.Superblock.{super_copy}
use Rattle.f2_bytes.specs.Check.{nids}
use Rattle.f2_bytes.proofs.Finds.{find-nothing}
use Rattle.f2_bytes.specs.SalvagedFiles.{root, is_file, is_directory_file}
use Rattle.f2_bytes.specs.Claims.{is_on}
use Rattle.f2_bytes.specs.LostFiles.{is_made}
use Rattle.f2_salvage.specs.NameLaws.{IsSalvagedName}
use Rattle.f2_bytes.specs.Salvage.{names, names_in_directory}
use Rattle.f2_bytes.specs.RebuiltDirectories.{is_salvaged_file, salvaged_parent, salvaged_ancestor}
use Rattle.f2_bytes.specs.Mending.{is_salvaged_directory}
use Rattle.f2_salvage.proofs.Forest.{steps_reach_root}
use Rattle.f2_salvage.proofs.NameCounts.{files_have_names}
use Rattle.f2_salvage.proofs.NamesStand.{names_stand_once}
use Rattle.f2_mend.proofs.CountLists.{any-none, any-filter, count-none}
use Rattle.f2_mend.specs.Laws.{NamesFormTree}

module _ (image : Image) (copied : is_some (super_copy image) ≡ true) (rooted : is_directory_file image root ≡ true) where
  kept : (d : ℕ) → is_salvaged_directory image d ≡ true → is_salvaged_file image d ≡ true
  kept d dir = elim (or_cases (is_directory_file image d) (is_made image d) dir) [
    | inl old ↦ or_left (is_file image d) (is_made image d) (and_parts _ _ old).0
    | inr made ↦ or_right (is_file image d) (is_made image d) made
  ]

  not_root : All (λ c. is_on root c ≡ false) (names image)
  not_root = All-weaker (IsSalvagedName image) (λ c. is_on root c ≡ false) (λ c n. ne_eqb c.target root n.below) (names image) (names_stand_once image copied rooted)

  -- no directory names the root
  root_top : salvaged_parent image root ≡ None
  unfolding salvaged_parent
  root_top =
      find-nothing (λ d. list_any (is_on root) (names_in_directory image d)) (nids image + 1) (λ d low.
      any-filter (is_on root) (λ c. c.directory == d) (names image)
      ∙ any-none (λ c. (c.directory == d) && is_on root c) (names image)
      (All-weaker (λ c. is_on root c ≡ false) (λ c. ((c.directory == d) && is_on root c) ≡ false) (λ c none. and_right (c.directory == d) (is_on root c) none) (names image) not_root))

  module _ (ino : ℕ) where
    abbrev up : ℕ → Option ℕ
    up n = salvaged_ancestor image n ino

    -- above the root is nothing
    past_root : (k : ℕ) → up k ≡ Some root → (x : ℕ) → k < x → up x ≡ None
    unfolding salvaged_ancestor
    past_root k at zero above = absurd (omega (arith, above))
    past_root k at (suc x) above = elim (cases_lt k x) [
      | inl more ↦ ap (option_and_then (salvaged_parent image)) (past_root k at x more)
      | inr least ↦
          let same : x ≡ k = omega (arith, above, least) in
          ap (λ n. option_and_then (salvaged_parent image) (up n)) same ∙ ap (option_and_then (salvaged_parent image)) at ∙ root_top
    ]

    -- a loop is gone through again and again
    again : (m : ℕ) → up m ≡ Some ino → (j : ℕ) → up (m + j) ≡ up j
    unfolding salvaged_ancestor
    again m loop zero =
        let same : m + 0 ≡ m = omega arith in
        ap up same ∙ loop
    again m loop (suc j) =
        let same : m + suc j ≡ suc (m + j) = omega arith in
        ap up same ∙ ap (option_and_then (salvaged_parent image)) (again m loop j)

    times : ℕ → ℕ → ℕ
    times m zero = 0
    times m (suc t) = m + times m t

    looped : (m : ℕ) → up m ≡ Some ino → (t : ℕ) → up (times m t) ≡ Some ino
    unfolding salvaged_ancestor times
    looped m loop zero = refl
    looped m loop (suc t) = again m loop (times m t) ∙ looped m loop t

    far : (m t : ℕ) → 1 ≤ m → t ≤ times m t
    unfolding times
    far m zero some = omega arith
    far m (suc t) some = let rest = far m t some in omega (arith, rest, some)

    no_loop : (n : ℕ) → is_salvaged_directory image ino ≡ true → up (n + 1) ≡ Some ino → ⊥
    no_loop n dir loop =
        let r = steps_reach_root image ino copied rooted (kept ino dir) in
        let x = times (n + 1) (r.0 + 1) in
        let high : r.0 + 1 ≤ x = far (n + 1) (r.0 + 1) (omega arith) in
        cc (sym (past_root r.0 r.1 x (omega (arith, high))) ∙ looped (n + 1) loop (r.0 + 1))

  pub names_form_tree : NamesFormTree image
  names_form_tree = record {
    directories = All-weaker (IsSalvagedName image) (λ c. is_salvaged_directory image c.directory ≡ true) (λ c n. n.directory) (names image) (names_stand_once image copied rooted);
    root_unnamed = count-none (is_on root) (names image) not_root;
    directories_named = λ ino dir away. (files_have_names image ino copied (kept ino dir) away).one dir;
    files_named = λ ino file away. (files_have_names image ino copied (or_left (is_file image ino) (is_made image ino) file) away).some;
    no_loops = λ n ino dir. no_loop ino n dir;
  }
