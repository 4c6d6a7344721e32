-- Two readings with the same directories have the same comparisons of their items.
use Rattle.std.proofs.Common.{◌≡◌, ℕ, ◌+◌, ◌*◌, ◌/◌, List, [], ◌∷◌, Bool, true, false, ◌==◌, not, cond, Option, Some, None, subst, refl, sym, ap, ◌∙◌}
use Rattle.std.specs.Prelude.{option_and_then, find, filter, fold, max, is_some, unwrap_or, if◌then◌else◌}
use Rattle.std.specs.Option.{option_map_or}
use Rattle.std.specs.Str.{bytes_eq}
use Rattle.f2_bytes.specs.Bytes.{Block}
use Rattle.f2_bytes.specs.Node.{is_inline, has_inline_dots, size, current_depth, dir_level}
use Rattle.f2_bytes.specs.Names.{name_hash, dot, dot_dot}
use Rattle.f2_bytes.specs.Directory.{Item, block_slots}
use Rattle.f2_bytes.specs.Buckets.{bucket_of, bucket_of_block, level_of_block}
use Rattle.f2_bytes.specs.Check.{Reading, same, at_least, fails_where, where_true, of_value, part_by_one, none_value, only_directory, directory_in, block_directory_in, item_at, legal_item_at, legal_items, first_named, one_past, item_part, dots_comparison, item_parts}
use Rattle.f2_bytes.proofs.PackReads.{cond_same}
use Rattle.f2_bytes.proofs.Pairs.{Paired, paired_none, paired_some, paired_cond, paired_is_some, paired_value, paired_then}
use Rattle.f2_bytes.proofs.SameParts.{of_value_same}

-- what the comparisons read of the inode of a directory is the same
pub record IsSameDirectory (b c : Block) : Type 0 where
  pub same_inline : is_inline c ≡ is_inline b
  pub same_dots : has_inline_dots c ≡ has_inline_dots b
  pub same_size : size c ≡ size b
  pub same_depth : current_depth c ≡ current_depth b
  pub same_level : dir_level c ≡ dir_level b

pub same_directory : (b : Block) → IsSameDirectory b b
same_directory b = record { same_inline = refl; same_dots = refl; same_size = refl; same_depth = refl; same_level = refl }

module _ (n : ℕ) (p q : Reading) (directory : (ino : ℕ) → Paired IsSameDirectory (only_directory (p.inode ino)) (only_directory (q.inode ino))) (kind : (ino : ℕ) → q.kind ino ≡ p.kind ino) (items : (ino : ℕ) → is_some (only_directory (p.inode ino)) ≡ true → q.items ino ≡ p.items ino) (parent : (ino : ℕ) → q.parent ino ≡ p.parent ino) where
  is_directory_in : (ino : ℕ) → is_some (directory_in n q ino) ≡ is_some (directory_in n p ino)
  is_directory_in ino = paired_is_some IsSameDirectory (directory_in n p ino) (directory_in n q ino) (directory ino)

  block_directory : (ino : ℕ) → Paired IsSameDirectory (block_directory_in n p ino) (block_directory_in n q ino)
  block_directory ino =
      paired_then IsSameDirectory IsSameDirectory (directory_in n p ino) (directory_in n q ino) (λ b. cond (is_inline b) None (Some b)) (λ b. cond (is_inline b) None (Some b)) (directory ino)
      (λ b c is r.
      subst (λ d. Paired IsSameDirectory (cond (is_inline b) None (Some b)) (cond d None (Some c))) (sym r.same_inline)
      (paired_cond IsSameDirectory (is_inline b) None (Some b) None (Some c) (paired_none IsSameDirectory) (paired_some IsSameDirectory b c r)))

  item : (ino place : ℕ) → item_at n q ino place ≡ item_at n p ino place
  unfolding item_at
  item ino place =
      let listed : cond (is_some (directory_in n q ino)) (q.items ino) [] ≡ cond (is_some (directory_in n p ino)) (p.items ino) []
      = (λ i. cond (is_directory_in ino i) (q.items ino) []) ∙ cond_same (is_some (directory_in n p ino)) (λ d. items ino d) (λ none. refl) in
      ap (find (λ x. x.place == place)) listed

  legal_item : (ino place : ℕ) → legal_item_at n q ino place ≡ legal_item_at n p ino place
  legal_item ino place = λ i. option_and_then (λ x. if x.is_legal then Some x else None) (item ino place i)

  -- an item stands in a directory, and so does a directory with blocks
  item_directory : (ino place : ℕ) (x : Item) → legal_item_at n p ino place ≡ Some x → is_some (directory_in n p ino) ≡ true
  unfolding item_at
  item_directory ino place x e = go (is_some (directory_in n p ino)) refl
    where
      go : (b : Bool) → is_some (directory_in n p ino) ≡ b → is_some (directory_in n p ino) ≡ true
      go true d = d
      go false d =
          let no : None ≡ Some x = rw d at e in
          absurd (cc no)

  block_is_directory : (ino : ℕ) (b : Block) → block_directory_in n p ino ≡ Some b → is_some (directory_in n p ino) ≡ true
  block_is_directory ino b e = go (directory_in n p ino) refl
    where
      go : (o : Option Block) → directory_in n p ino ≡ o → is_some (directory_in n p ino) ≡ true
      go (Some d) is = rw is refl
      go None is =
          let no : None ≡ Some b = rw is at e in
          absurd (cc no)

  legal : (ino : ℕ) → is_some (directory_in n p ino) ≡ true → legal_items n q ino ≡ legal_items n p ino
  legal ino d = ap (filter (λ x. x.is_legal)) (items ino d)

  named : (ino : ℕ) (name : List ℕ) → is_some (directory_in n p ino) ≡ true → first_named n q ino name ≡ first_named n p ino name
  unfolding first_named
  named ino name d = ap (find (λ x. bytes_eq x.name name)) (legal ino d)

  past : (value : Item → ℕ) (ino : ℕ) → is_some (directory_in n p ino) ≡ true → one_past n q value ino ≡ one_past n p value ino
  past value ino d = ap (fold (λ most x. max most (1 + value x)) 0) (legal ino d)

  dots : (ino : ℕ) (b c : Block) (name : List ℕ) (wanted wanted' : ℕ) → is_some (directory_in n p ino) ≡ true → IsSameDirectory b c → wanted ≡ wanted' → dots_comparison n q ino c name wanted ≡ dots_comparison n p ino b name wanted'
  dots ino b c name wanted wanted' d r e = λ i. option_map_or (λ x. same x.ino (e i)) (named ino name d i) (fails_where (not (r.same_dots i)) 0 (e i))

  -- the comparisons
  second : (ino place : ℕ) → of_value (legal_item_at n q ino place) (λ x. same (option_map_or (λ first. first.place) (first_named n q ino x.name) 0) place)
      ≡ of_value (legal_item_at n p ino place) (λ x. same (option_map_or (λ first. first.place) (first_named n p ino x.name) 0) place)
  second ino place =
      ap (λ o. of_value o (λ x. same (option_map_or (λ first. first.place) (first_named n q ino x.name) 0) place)) (legal_item ino place)
      ∙ of_value_same (legal_item_at n p ino place) (λ x e. ap (λ o. same (option_map_or (λ first. first.place) o 0) place) (named ino x.name (item_directory ino place x e)))

  fourth : (ino place : ℕ)
      → of_value (block_directory_in n q ino) (λ b. of_value (legal_item_at n q ino place) (λ x. same (bucket_of_block (dir_level b) (place / block_slots)) (bucket_of (level_of_block (dir_level b) (place / block_slots)) (dir_level b) (name_hash x.name))))
      ≡ of_value (block_directory_in n p ino) (λ b. of_value (legal_item_at n p ino place) (λ x. same (bucket_of_block (dir_level b) (place / block_slots)) (bucket_of (level_of_block (dir_level b) (place / block_slots)) (dir_level b) (name_hash x.name))))
  fourth ino place =
      paired_value IsSameDirectory (block_directory_in n p ino) (block_directory_in n q ino)
      (λ b. of_value (legal_item_at n p ino place) (λ x. same (bucket_of_block (dir_level b) (place / block_slots)) (bucket_of (level_of_block (dir_level b) (place / block_slots)) (dir_level b) (name_hash x.name))))
      (λ b. of_value (legal_item_at n q ino place) (λ x. same (bucket_of_block (dir_level b) (place / block_slots)) (bucket_of (level_of_block (dir_level b) (place / block_slots)) (dir_level b) (name_hash x.name))))
      (block_directory ino)
      (λ b c is r i. of_value (legal_item ino place i) (λ x. same (bucket_of_block (r.same_level i) (place / block_slots)) (bucket_of (level_of_block (r.same_level i) (place / block_slots)) (r.same_level i) (name_hash x.name))))

  depth : (ino : ℕ) → of_value (block_directory_in n q ino) (λ b. at_least (current_depth b) (one_past n q (λ x. level_of_block (dir_level b) (x.place / block_slots)) ino))
      ≡ of_value (block_directory_in n p ino) (λ b. at_least (current_depth b) (one_past n p (λ x. level_of_block (dir_level b) (x.place / block_slots)) ino))
  depth ino =
      paired_value IsSameDirectory (block_directory_in n p ino) (block_directory_in n q ino)
      (λ b. at_least (current_depth b) (one_past n p (λ x. level_of_block (dir_level b) (x.place / block_slots)) ino))
      (λ b. at_least (current_depth b) (one_past n q (λ x. level_of_block (dir_level b) (x.place / block_slots)) ino))
      (block_directory ino)
      (λ b c is r.
      (λ i. at_least (r.same_depth i) (one_past n q (λ x. level_of_block (r.same_level i) (x.place / block_slots)) ino))
      ∙ ap (at_least (current_depth b)) (past (λ x. level_of_block (dir_level b) (x.place / block_slots)) ino (block_is_directory ino b is)))

  sizes : (ino : ℕ) → of_value (block_directory_in n q ino) (λ b. at_least (size b) (4096 * one_past n q (λ x. x.place / block_slots) ino))
      ≡ of_value (block_directory_in n p ino) (λ b. at_least (size b) (4096 * one_past n p (λ x. x.place / block_slots) ino))
  sizes ino =
      paired_value IsSameDirectory (block_directory_in n p ino) (block_directory_in n q ino)
      (λ b. at_least (size b) (4096 * one_past n p (λ x. x.place / block_slots) ino))
      (λ b. at_least (size b) (4096 * one_past n q (λ x. x.place / block_slots) ino))
      (block_directory ino)
      (λ b c is r i. at_least (r.same_size i) (4096 * past (λ x. x.place / block_slots) ino (block_is_directory ino b is) i))

  own : (ino : ℕ) → of_value (directory_in n q ino) (λ b. dots_comparison n q ino b dot ino) ≡ of_value (directory_in n p ino) (λ b. dots_comparison n p ino b dot ino)
  own ino =
      paired_value IsSameDirectory (directory_in n p ino) (directory_in n q ino) (λ b. dots_comparison n p ino b dot ino) (λ b. dots_comparison n q ino b dot ino) (directory ino)
      (λ b c is r. dots ino b c dot ino ino (ap is_some is) r refl)

  above : (ino : ℕ) → of_value (directory_in n q ino) (λ b. dots_comparison n q ino b dot_dot (if ino == 3 then 3 else unwrap_or (q.parent ino) none_value))
      ≡ of_value (directory_in n p ino) (λ b. dots_comparison n p ino b dot_dot (if ino == 3 then 3 else unwrap_or (p.parent ino) none_value))
  above ino =
      paired_value IsSameDirectory (directory_in n p ino) (directory_in n q ino)
      (λ b. dots_comparison n p ino b dot_dot (if ino == 3 then 3 else unwrap_or (p.parent ino) none_value))
      (λ b. dots_comparison n q ino b dot_dot (if ino == 3 then 3 else unwrap_or (q.parent ino) none_value))
      (directory ino)
      (λ b c is r. dots ino b c dot_dot (if ino == 3 then 3 else unwrap_or (q.parent ino) none_value) (if ino == 3 then 3 else unwrap_or (p.parent ino) none_value) (ap is_some is) r
      (ap (λ o. if ino == 3 then 3 else unwrap_or o none_value) (parent ino)))

  pub item_parts-same : item_parts n q ≡ item_parts n p
  unfolding item_parts
  item_parts-same = λ i.
      item_part n p 1 (λ ino place. of_value (item ino place i) (λ x. where_true (not x.is_legal) (fails_where true x.len 0)))
      ∷ item_part n p 2 (λ ino place. second ino place i)
      ∷ item_part n p 3 (λ ino place. of_value (legal_item ino place i) (λ x. same x.hash (name_hash x.name)))
      ∷ item_part n p 4 (λ ino place. fourth ino place i)
      ∷ item_part n p 5 (λ ino place. of_value (legal_item ino place i) (λ x. same x.kind (kind x.ino i)))
      ∷ part_by_one 6 n (λ ino. depth ino i)
      ∷ part_by_one 7 n (λ ino. own ino i)
      ∷ part_by_one 8 n (λ ino. above ino i)
      ∷ part_by_one 9 n (λ ino. sizes ino i)
      ∷ []
