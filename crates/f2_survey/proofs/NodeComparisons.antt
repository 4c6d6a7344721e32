-- The comparisons of nodes, as they are made of what the nodes say.
use Rattle.std.proofs.Common.{◌≡◌, ◌≢◌, ℕ, ◌+◌, ◌/◌, Bool, true, false, cond, [], ◌++◌, Option, Some, None, refl, sym, ap, subst, ◌∙◌}
use Rattle.std.specs.Prelude.{◌==◌, not, is_some, is_none, option_map, filter_map, flat_map}
use Rattle.std.specs.Option.{option_map_or}
use Rattle.std.proofs.lemmas.Bool.{cond-true, cond-false, eq-eqb, ne_eqb}
use Rattle.std.proofs.lemmas.List.{append-nil}
use Rattle.f2_view.proofs.Rows.{flat_map-more}
use Rattle.f2_bytes.specs.Bytes.{Block, Image, numbers_below, block_at}
use Rattle.f2_bytes.specs.Journal.{NatEntry}
use Rattle.f2_bytes.specs.Node.{mode, type_of_mode, is_directory}
use Rattle.f2_bytes.specs.NodeAddressTable.{nat}
use Rattle.f2_bytes.specs.Superblock.{layout, is_main}
use Rattle.f2_bytes.specs.Tree.{main_block, read_node}
use Rattle.f2_bytes.specs.Check.{Comparison, Part, defect_of, same, fails_where, of_value, defects_at, part_defects, inode_of, only_directory, node_parts}
use Rattle.f2_defects.specs.Collected.{Collection, Collects, Compares, defects_of}
use Rattle.f2_survey.specs.Parts.{part_in}
use Rattle.f2_survey.specs.Said.{said_by, said_at, inode_said}
use Rattle.f2_survey.specs.Survey.{ComparesAt, ComparedBelow}
use Rattle.f2_survey.specs.declared.node_words.Said.{Said}
use Rattle.f2_survey.proofs.SaidNodes.{said_there}

-- ---- one comparison for a first number

pub none_made : (c : Collection) (n : ℕ) → Compares c c n 0 None
none_made c n = λ defects of. subst (Collects c) (sym (append-nil defects)) of

defects_at-one : (p : Part) (n : ℕ) → p.second_limit n ≡ 1 → defects_at p n ≡ defects_of p.number n 0 (p.comparison n 0)
unfolding defects_at numbers_below
defects_at-one p n one = ap (λ k. filter_map (λ b. defect_of p.number n b (p.comparison n b)) (numbers_below k)) one

compares_at : (p : Part) (n a : ℕ) (old new : Collection) (made : Option Comparison) → a ≡ n → old.part ≡ p.number → p.second_limit n ≡ 1 → made ≡ p.comparison n 0
    → Compares old new a 0 made → ComparesAt p n old new
compares_at p n a old new made at part one is compares = λ defects of.
    let added : defects_of old.part a 0 made ≡ defects_at p n = (λ i. defects_of (part i) (at i) 0 (is i)) ∙ sym (defects_at-one p n one) in
    subst (Collects new) (ap (λ l. defects ++ l) added) (compares defects of)

-- ---- all first numbers below one, and one more

pub nothing_compared : (p : Part) (c : Collection) → Collects c [] → ComparedBelow p 0 c
unfolding numbers_below
nothing_compared p c none = none

pub one_compared : (p : Part) (n : ℕ) (old new : Collection) → ComparedBelow p n old → ComparesAt p n old new → ComparedBelow p (n + 1) new
one_compared p n old new before compares =
    subst (Collects new) (sym (flat_map-more (defects_at p) n)) (compares (flat_map (defects_at p) (numbers_below n)) before)

pub all_compared : (p : Part) (n : ℕ) (c : Collection) → n ≡ p.first_limit → ComparedBelow p n c → Collects c (part_defects p)
unfolding part_defects
all_compared p n c all of = subst (λ k. Collects c (flat_map (defects_at p) (numbers_below k))) all of

-- ---- what is compared

-- of what a node says
of_said : (f : Said → Option Comparison) (o : Option Block) → of_value (option_map said_by o) f ≡ of_value o (λ b. f (said_by b))
of_said f None = refl
of_said f (Some b) = refl

-- an address is that of a node which says something where it lies in the main area
stands_in_main : (image : Image) (n : ℕ) (e : NatEntry) → Some e ≡ nat image n → is_some (said_at image n) ≡ is_main (layout image) e.address
stands_in_main image n e entry =
    sym (ap is_some (said_there image n e entry (main_block image e.address) refl)) ∙ found (is_main (layout image) e.address)
  where
    found : (is : Bool) → is_some (option_map said_by (cond is (Some (block_at image e.address)) None)) ≡ is
    found true = refl
    found false = refl

root_is : (o : Option Block) → fails_where (not (option_map_or (λ (s : Said). s.mode) (option_map said_by o) 0 / 4096 == 4)) (option_map_or (λ (s : Said). s.mode) (option_map said_by o) 0) 0x4000
    ≡ fails_where (is_none (only_directory o)) (option_map_or mode o 0) 0x4000
root_is None = refl
root_is (Some b) = ap (λ fails. fails_where fails (mode b) 0x4000) (found (is_directory b))
  where
    found : (is : Bool) → not is ≡ is_none (cond is (Some b) None)
    found true = refl
    found false = refl

-- ---- the parts

module _ (image : Image) (n a : ℕ) (at : a ≡ n) (old new : Collection) (made : Option Comparison) (compares : Compares old new a 0 made) where
  pub address_compared : (entry : Option NatEntry) (main : ℕ) (stands : Bool) → old.part ≡ 1 → entry ≡ nat image n → main ≡ (layout image).main → stands ≡ is_some (said_at image n)
      → made ≡ of_value entry (λ e. fails_where (not stands) e.address main) → ComparesAt (part_in image 3 1) n old new
  unfolding node_parts
  address_compared entry main stands part entry_is main_is stands_is is =
      compares_at (part_in image 3 1) n a old new made at part refl
      (is ∙ go entry entry_is ∙ ap (λ o. of_value o (λ (e : NatEntry). fails_where (not (is_main (layout image) e.address)) e.address (layout image).main)) entry_is) compares
    where
      go : (o : Option NatEntry) → o ≡ nat image n → of_value o (λ e. fails_where (not stands) e.address main) ≡ of_value o (λ e. fails_where (not (is_main (layout image) e.address)) e.address (layout image).main)
      go None none = refl
      go (Some e) some = λ i. fails_where (not ((stands_is ∙ stands_in_main image n e some) i)) e.address (main_is i)

  pub number_compared : (said : Option Said) → old.part ≡ 2 → said ≡ said_at image n → made ≡ of_value said (λ s. same s.nid n) → ComparesAt (part_in image 3 2) n old new
  unfolding node_parts
  number_compared said part said_is is =
      compares_at (part_in image 3 2) n a old new made at part refl
      (is ∙ ap (λ o. of_value o (λ (s : Said). same s.nid n)) said_is ∙ of_said (λ s. same s.nid n) (read_node image n)) compares

  pub file_compared : (said : Option Said) (entry : Option NatEntry) → old.part ≡ 3 → said ≡ said_at image n → entry ≡ nat image n
      → made ≡ of_value said (λ s. of_value entry (λ e. same s.ino e.ino)) → ComparesAt (part_in image 3 3) n old new
  unfolding node_parts
  file_compared said entry part said_is entry_is is =
      compares_at (part_in image 3 3) n a old new made at part refl
      (is ∙ (λ i. of_value (said_is i) (λ (s : Said). of_value (entry_is i) (λ (e : NatEntry). same s.ino e.ino)))
      ∙ of_said (λ s. of_value (nat image n) (λ (e : NatEntry). same s.ino e.ino)) (read_node image n)) compares

  pub offset_compared : (inode : Option Said) → old.part ≡ 4 → inode ≡ inode_said image n → made ≡ of_value inode (λ s. same s.offset 0) → ComparesAt (part_in image 3 4) n old new
  unfolding node_parts
  offset_compared inode part inode_is is =
      compares_at (part_in image 3 4) n a old new made at part refl
      (is ∙ ap (λ o. of_value o (λ (s : Said). same s.offset 0)) inode_is ∙ of_said (λ s. same s.offset 0) (inode_of image n)) compares

  pub root_compared : (inode : Option Said) → old.part ≡ 5 → n ≡ 3 → inode ≡ inode_said image n
      → made ≡ (let m = option_map_or (λ (s : Said). s.mode) inode 0 in fails_where (not (m / 4096 == 4)) m 0x4000) → ComparesAt (part_in image 3 5) n old new
  unfolding node_parts
  root_compared inode part root inode_is is =
      compares_at (part_in image 3 5) n a old new made at part refl
      (is ∙ ap (λ o. let m = option_map_or (λ (s : Said). s.mode) o 0 in fails_where (not (m / 4096 == 4)) m 0x4000) (inode_is ∙ ap (inode_said image) root)
      ∙ root_is (inode_of image 3) ∙ sym (cond-true (n == 3) _ _ (eq-eqb n 3 root))) compares

  pub mode_compared : (inode : Option Said) → old.part ≡ 5 → n ≢ 3 → inode ≡ inode_said image n
      → made ≡ of_value inode (λ s. fails_where (not (is_some (type_of_mode s.mode))) s.mode 0) → ComparesAt (part_in image 3 5) n old new
  unfolding node_parts
  mode_compared inode part other inode_is is =
      compares_at (part_in image 3 5) n a old new made at part refl
      (is ∙ ap (λ o. of_value o (λ (s : Said). fails_where (not (is_some (type_of_mode s.mode))) s.mode 0)) inode_is
      ∙ of_said (λ s. fails_where (not (is_some (type_of_mode s.mode))) s.mode 0) (inode_of image n) ∙ sym (cond-false (n == 3) _ _ (ne_eqb n 3 other))) compares

-- a mode has no type where it has no kind
pub no_type : {K : Type 0} (kind : Option K) (f : K → ℕ) (m : ℕ) (none : Bool) → option_map f kind ≡ type_of_mode m → is_some kind ≡ not none → none ≡ not (is_some (type_of_mode m))
no_type {K} kind f m none is some = sym (twice none) ∙ ap not (sym some) ∙ ap not (go kind) ∙ ap (λ o. not (is_some o)) is
  where
    twice : (b : Bool) → not (not b) ≡ b
    twice true = refl
    twice false = refl

    go : (o : Option K) → is_some o ≡ is_some (option_map f o)
    go None = refl
    go (Some k) = refl
