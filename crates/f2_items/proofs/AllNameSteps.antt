-- One item more in what is kept of the items of all directories.
use Rattle.std.proofs.Common.{◌≡◌, ℕ, ◌+◌, ◌*◌, ◌/◌, ◌<◌, ◌≤◌, List, [], ◌∷◌, ◌++◌, Bool, true, false, cond, map, filter, Option, Some, None, refl, sym, ap, subst, ◌∙◌, arith, append_assoc}
use Rattle.std.specs.Prelude.{◌&&◌, not}
use Rattle.std.proofs.lemmas.List.{append-nil}
use Rattle.std.proofs.lemmas.Nat.{div-mul-add}
use Rattle.f2_bytes.specs.Buckets.{bucket_of_block, level_of_block}
use Rattle.f2_bytes.specs.Bytes.{Block, Image}
use Rattle.f2_bytes.specs.Directory.{Item, block_slots}
use Rattle.f2_bytes.specs.Names.{is_dots}
use Rattle.f2_bytes.specs.Object.{is_name}
use Rattle.f2_bytes.specs.Check.{Defect}
use Rattle.f2_items.specs.Directories.{namings_in, kind_in, NamesKept}
use Rattle.f2_items.specs.ItemComparisons.{ItemsCompared, StandsIn}
use Rattle.f2_items.specs.Namings.{Naming, IsTally}
use Rattle.f2_items.specs.OpenDirectories.{depth_of, FitsDepth, LiesIn}
use Rattle.f2_items.specs.declared.directory_block.InBlock.{InBlock}
use Rattle.f2_items.specs.declared.names_of_directories.Names.{Names}
use Rattle.f2_items.proofs.OpenSteps.{names-push, names-skip}

map-push : {A B : Type 0} (f : A → B) (xs : List A) (x : A) → map f (xs ++ x ∷ []) ≡ map f xs ++ f x ∷ []
map-push f [] x = refl
map-push f (y ∷ ys) x = ap (λ l. f y ∷ l) (map-push f ys x)

-- the names with one item more
pub namings-push : (ino : ℕ) (items : List Item) (x : Item) → namings_in ino (items ++ x ∷ []) ≡ namings_in ino items ++ cond (is_name x) ((ino, x.ino) ∷ []) []
namings-push ino items x = go (is_name x) refl
  where
    naming : Item → Naming
    naming = λ item. (ino, item.ino)

    go : (b : Bool) → is_name x ≡ b → namings_in ino (items ++ x ∷ []) ≡ namings_in ino items ++ cond (is_name x) ((ino, x.ino) ∷ []) []
    go true e = ap (map naming) (names-push items x e) ∙ map-push naming (filter is_name items) x ∙ ap (λ b. namings_in ino items ++ cond {A = List Naming} b ((ino, x.ino) ∷ []) []) (sym e)
    go false e = ap (map naming) (names-skip items x e) ∙ sym (append-nil (namings_in ino items)) ∙ ap (λ b. namings_in ino items ++ cond {A = List Naming} b ((ino, x.ino) ∷ []) []) (sym e)

module _ (image : Image) (limit : ℕ) (before : ℕ → List Defect) (namings : List Naming) (ino : ℕ) (inode : Block) (items : List Item) (x : Item) where
  tally_more : (d target : ℕ) (named : Bool) → d ≡ ino → x.ino ≡ target → named ≡ is_name x
      → (namings ++ namings_in ino items) ++ cond named ((d, target) ∷ []) [] ≡ namings ++ namings_in ino (items ++ x ∷ [])
  tally_more d target named own at is =
      (λ t. (namings ++ namings_in ino items) ++ cond {A = List Naming} (is t) ((own t, sym at t) ∷ []) [])
      ∙ append_assoc namings (namings_in ino items) (cond (is_name x) ((ino, x.ino) ∷ []) [])
      ∙ ap (λ l. namings ++ l) (sym (namings-push ino items x))

  pub names_more : (new : Names) (d target : ℕ) (named : Bool) → d ≡ ino → x.ino ≡ target → named ≡ is_name x
      → IsTally limit ((namings ++ namings_in ino items) ++ cond named ((d, target) ∷ []) []) new.tallies
      → ItemsCompared before (kind_in image) d (depth_of inode) (items ++ x ∷ []) new.rules → NamesKept image limit before namings ino inode (items ++ x ∷ []) new
  names_more new d target named own at is tally rules = record {
    tally = subst (λ (l : List Naming). IsTally limit l new.tallies) (tally_more d target named own at is) tally;
    rules = subst (λ (n : ℕ). ItemsCompared before (kind_in image) n (depth_of inode) (items ++ x ∷ []) new.rules) own rules;
  }

  -- an item that isn't legal is no name
  pub names_skip : (new : Names) (d : ℕ) → d ≡ ino → x.is_legal ≡ false → IsTally limit (namings ++ namings_in ino items) new.tallies
      → ItemsCompared before (kind_in image) d (depth_of inode) (items ++ x ∷ []) new.rules → NamesKept image limit before namings ino inode (items ++ x ∷ []) new
  names_skip new d own bad tally rules = record {
    tally = subst (λ (l : List Naming). IsTally limit (namings ++ l) new.tallies) (sym (ap (map (λ (i : Item). (ino, i.ino))) (names-skip items x (λ t. bad t && not (is_dots x.name))))) tally;
    rules = subst (λ (n : ℕ). ItemsCompared before (kind_in image) n (depth_of inode) (items ++ x ∷ []) new.rules) own rules;
  }

-- an item of the slots of a block stands in it
pub stands_in : (depth : Option ℕ) (block : Option InBlock) (first slots slot : ℕ) → FitsDepth depth block → LiesIn first slots block → slot < slots → StandsIn depth (first + slot) block
stands_in None None first slots slot fits lies within = tt
stands_in None (Some b) first slots slot fits lies within = absurd fits
stands_in (Some d) None first slots slot fits lies within = absurd fits
stands_in (Some d) (Some b) first slots slot fits lies within =
    let at : first ≡ block_slots * b.number = lies.0 in
    let few : slots ≤ block_slots = lies.1 in
    let low : slot < block_slots = omega (arith, few, within) in
    let place : first + slot ≡ b.number * block_slots + slot = omega (arith, at) in
    let number : (first + slot) / block_slots ≡ b.number = ap (λ n. n / block_slots) place ∙ div-mul-add b.number block_slots slot low in
    record { depth_is = fits.depth_is; number = number; level = fits.level ∙ λ t. level_of_block d (sym number t); bucket = fits.bucket ∙ λ t. bucket_of_block d (sym number t) }
