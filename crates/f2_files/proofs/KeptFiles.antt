-- What is kept of files at the begin, at a slot and at the end of one.
use Rattle.std.proofs.Common.{◌≡◌, ℕ, suc, List, [], ◌∷◌, ◌++◌, Bool, true, false, ◌&&◌, cond, Some, refl, sym, ap, subst, ◌∙◌, append_assoc}
use Rattle.std.proofs.lemmas.List.{append-nil}
use Rattle.f2_bytes.specs.Bytes.{Block, Image}
use Rattle.f2_bytes.specs.Node.{is_directory, has_slots}
use Rattle.f2_bytes.specs.Tree.{is_inode}
use Rattle.f2_files.specs.Addresses.{HasAddresses}
use Rattle.f2_bytes.specs.Check.{inode_of, is_address}
use Rattle.f2_items.specs.Directories.{DirectoriesAfter, DirectoriesInside}
use Rattle.f2_files.specs.Extents.{ExtentsAfter, ExtentsInside}
use Rattle.f2_items.specs.DirectoryBlocks.{directory_blocks}
use Rattle.f2_files.specs.Kept.{slot_block, blocks_among, HasAttributes, KeptAfter, KeptInside}
use Rattle.f2_survey.specs.Slots.{Slot, file_slots, slots_below}
use Rattle.f2_files.specs.Usage.{UsageAfter, UsageInside}
use Rattle.f2_files.specs.declared.rule_4_addresses.Addresses.{Addresses}
use Rattle.f2_files.specs.declared.kept_of_files.Kept.{Kept}
use Rattle.f2_files.proofs.AttributeDefects.{attributes-pass}
use Rattle.f2_files.proofs.DirectoryBlocks.{blocks_among-take, blocks_among-file}
use Rattle.f2_files.proofs.ExtentDefects.{extents-pass}
use Rattle.f2_items.proofs.FileSlots.{inode-is, slots_below-inode, slots_below-other}
use Rattle.f2_items.proofs.GatheredFiles.{directories_pass}
use Rattle.f2_items.proofs.GrownLists.{optional}
use Rattle.f2_files.proofs.UsageCounts.{usage-pass}

no_blocks : (image : Image) (b : Bool) → [] ≡ blocks_among image b []
no_blocks image true = refl
no_blocks image false = refl

pub kept-begin : (image : Image) (ino : ℕ) (inode : Block) (old new : Kept) → inode_of image ino ≡ Some inode → KeptAfter image ino old
    → new.addresses ≡ old.addresses → UsageInside image ino [] new.usage → ExtentsInside image ino [] new.extents → HasAttributes image (suc ino) new.attributes
    → new.in_blocks ≡ (is_directory inode && has_slots inode)
    → (DirectoriesAfter image ino old.directories → DirectoriesInside image ino [] new.directories)
    → KeptInside image ino [] new
kept-begin image ino inode old new is after addresses usage extents attributes in_blocks directories = record {
  addresses = subst (λ (a : Addresses). HasAddresses image (slots_below image ino ++ []) a) (sym addresses)
      (subst (λ slots. HasAddresses image slots old.addresses) (sym (append-nil (slots_below image ino))) after.addresses);
  usage = usage;
  extents = extents;
  attributes = attributes;
  in_blocks = λ other same. in_blocks ∙ ap (λ (b : Block). is_directory b && has_slots b) (same_block inode other (sym is ∙ same));
  directories = λ sound. subst (λ l. DirectoriesInside image ino l new.directories) (no_blocks image new.in_blocks)
      (directories (after.directories (ap (λ (a : Addresses). a.owners.spoiled) (sym addresses) ∙ sound)));
}
  where
    same_block : (a b : Block) → Some a ≡ Some b → a ≡ b
    same_block a b e = cc e

pub kept-take : (image : Image) (ino : ℕ) (slots : List Slot) (s : Slot) (old new : Kept) (first : Bool) → KeptInside image ino slots old
    → HasAddresses image (slots_below image ino ++ slots ++ s ∷ []) new.addresses
    → (new.addresses.owners.spoiled ≡ false → first ≡ is_address s.address) → (new.addresses.owners.spoiled ≡ false → old.addresses.owners.spoiled ≡ false)
    → UsageInside image ino (slots ++ s ∷ []) new.usage → ExtentsInside image ino (slots ++ s ∷ []) new.extents → new.attributes ≡ old.attributes → new.in_blocks ≡ old.in_blocks
    → (DirectoriesInside image ino (blocks_among image old.in_blocks slots) old.directories
    → DirectoriesInside image ino (blocks_among image old.in_blocks slots ++ cond (first && old.in_blocks) (optional (slot_block image s)) []) new.directories)
    → KeptInside image ino (slots ++ s ∷ []) new
kept-take image ino slots s old new first inside addresses is_first stays usage extents attributes in_blocks directories = record {
  addresses = subst (λ l. HasAddresses image l new.addresses) (append_assoc (slots_below image ino) slots (s ∷ [])) addresses;
  usage = usage;
  extents = extents;
  attributes = subst (HasAttributes image (suc ino)) (sym attributes) inside.attributes;
  in_blocks = λ inode is. in_blocks ∙ inside.in_blocks inode is;
  directories = λ sound. subst (λ l. DirectoriesInside image ino l new.directories)
      (blocks_among-take image old.in_blocks first slots s addresses.owners.in_order (is_first sound) ∙ ap (λ b. blocks_among image b (slots ++ s ∷ [])) (sym in_blocks))
      (directories (inside.directories (stays sound)));
}

pub kept-end : (image : Image) (ino : ℕ) (inode : Block) (old new : Kept) → inode_of image ino ≡ Some inode → KeptInside image ino (file_slots image ino) old
    → new.addresses ≡ old.addresses → UsageAfter image (suc ino) new.usage → ExtentsAfter image (suc ino) new.extents → new.attributes ≡ old.attributes
    → (DirectoriesInside image ino (directory_blocks image ino) old.directories → DirectoriesAfter image (suc ino) new.directories)
    → KeptAfter image (suc ino) new
kept-end image ino inode old new is inside addresses usage extents attributes directories = record {
  addresses = subst (λ (a : Addresses). HasAddresses image (slots_below image (suc ino)) a) (sym addresses)
      (subst (λ slots. HasAddresses image slots old.addresses) (sym (slots_below-inode image ino (inode-is image ino inode is))) inside.addresses);
  usage = usage;
  extents = extents;
  attributes = subst (HasAttributes image (suc ino)) (sym attributes) inside.attributes;
  directories = λ sound. directories (subst (λ l. DirectoriesInside image ino l old.directories)
      (ap (λ b. blocks_among image b (file_slots image ino)) (inside.in_blocks inode is) ∙ blocks_among-file image ino inode inside.addresses.owners.in_order is)
      (inside.directories (ap (λ (a : Addresses). a.owners.spoiled) (sym addresses) ∙ sound)));
}

-- a number that is no inode
pub kept-pass : (image : Image) (n : ℕ) (k : Kept) → is_inode image n ≡ false → KeptAfter image n k → KeptAfter image (suc n) k
kept-pass image n k is after = record {
  addresses = subst (λ slots. HasAddresses image slots k.addresses) (sym (slots_below-other image n is)) after.addresses;
  usage = usage-pass image n k.usage is after.usage;
  extents = extents-pass image n k.extents is after.extents;
  attributes = attributes-pass image n k.attributes is after.attributes;
  directories = λ sound. directories_pass image n k.directories (after.directories sound) is;
}
