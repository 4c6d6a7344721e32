-- Nodes as they are counted, number by number.
use Rattle.std.proofs.Common.{◌≡◌, ℕ, ◌+◌, Bool, true, false, cond, Some, None, refl, sym, ap, ◌∙◌, arith}
use mir.Val.{bool_byte}
use Rattle.std.specs.Prelude.{◌==◌, is_some, count_by}
use Rattle.std.specs.List.{range_with_len}
use Rattle.std.specs.Option.{option_map_or}
use Rattle.f2_bytes.proofs.SetBits.{count_below-add}
use Rattle.f2_bytes.specs.Bytes.{Image, numbers_below, count_below}
use Rattle.f2_bytes.specs.Journal.{NatEntry}
use Rattle.f2_bytes.specs.NodeAddressTable.{nat}
use Rattle.f2_bytes.specs.Tree.{is_inode}
use Rattle.f2_survey.specs.Known.{belongs_to}
use Rattle.f2_survey.proofs.KnownNodes.{inode_is}

pub count-none : (test : ℕ → Bool) → 0 ≡ count_below 0 test
unfolding numbers_below
count-none test = refl

pub count-more : (n : ℕ) (test : ℕ → Bool) → count_below (n + 1) test ≡ count_below n test + cond {A = ℕ} (test n) 1 0
count-more n test = count_below-add n 1 test ∙ ap (λ k. count_below n test + k) (let e : count_by test (range_with_len n 1) ≡ cond {A = ℕ} (test n) 1 0 = omega arith in e)

-- a test as the number that it adds
pub byte : (b : Bool) → bool_byte b ≡ cond {A = ℕ} b 1 0
byte true = refl
byte false = refl

module _ (image : Image) (nid : ℕ) where
  -- no node counts for nothing
  module _ (none : None ≡ nat image nid) where
    pub no_node_more : count_below (nid + 1) (λ n. is_some (nat image n)) ≡ count_below nid (λ n. is_some (nat image n))
    no_node_more = count-more nid (λ n. is_some (nat image n)) ∙ ap (λ o. count_below nid (λ n. is_some (nat image n)) + cond {A = ℕ} (is_some o) 1 0) (sym none) ∙ omega arith

    pub no_file_more : (ino : ℕ) → count_below (nid + 1) (λ n. belongs_to image n ino) ≡ count_below nid (λ n. belongs_to image n ino)
    no_file_more ino =
        count-more nid (λ n. belongs_to image n ino)
        ∙ ap (λ o. count_below nid (λ n. belongs_to image n ino) + cond {A = ℕ} (option_map_or (λ (e : NatEntry). e.ino == ino) o false) 1 0) (sym none)
        ∙ omega arith

    pub no_inode_more : count_below (nid + 1) (is_inode image) ≡ count_below nid (is_inode image)
    no_inode_more =
        count-more nid (is_inode image)
        ∙ ap (λ b. count_below nid (is_inode image) + cond {A = ℕ} b 1 0) (sym (inode_is image nid) ∙ ap (λ o. option_map_or (λ (e : NatEntry). e.ino == nid) o false) (sym none))
        ∙ omega arith

  -- a node for one, and for its file
  module _ (e : NatEntry) (entry : Some e ≡ nat image nid) where
    pub node_more : count_below (nid + 1) (λ n. is_some (nat image n)) ≡ count_below nid (λ n. is_some (nat image n)) + 1
    node_more = count-more nid (λ n. is_some (nat image n)) ∙ ap (λ o. count_below nid (λ n. is_some (nat image n)) + cond {A = ℕ} (is_some o) 1 0) (sym entry)

    pub file_more : (ino : ℕ) → count_below (nid + 1) (λ n. belongs_to image n ino) ≡ count_below nid (λ n. belongs_to image n ino) + cond {A = ℕ} (e.ino == ino) 1 0
    file_more ino =
        count-more nid (λ n. belongs_to image n ino)
        ∙ ap (λ o. count_below nid (λ n. belongs_to image n ino) + cond {A = ℕ} (option_map_or (λ (x : NatEntry). x.ino == ino) o false) 1 0) (sym entry)

    pub inode_more : count_below (nid + 1) (is_inode image) ≡ count_below nid (is_inode image) + cond {A = ℕ} (e.ino == nid) 1 0
    inode_more =
        count-more nid (is_inode image)
        ∙ ap (λ b. count_below nid (is_inode image) + cond {A = ℕ} b 1 0) (sym (inode_is image nid) ∙ ap (λ o. option_map_or (λ (x : NatEntry). x.ino == nid) o false) (sym entry))
