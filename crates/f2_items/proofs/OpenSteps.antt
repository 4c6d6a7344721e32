-- One legal item more of a directory that is read.
use Rattle.std.proofs.Common.{◌≡◌, ℕ, ◌+◌, List, [], ◌∷◌, ◌++◌, Bool, true, false, cond, filter, refl, sym, ap, subst, ◌∙◌, arith}
use Rattle.std.specs.Prelude.{◌&&◌, not, count_by}
use Rattle.std.proofs.lemmas.List.{append-nil}
use Rattle.std.proofs.lemmas.List.Elements.{filter-append}
use Rattle.f2_bytes.specs.Bytes.{Block}
use Rattle.f2_bytes.specs.Directory.{Item}
use Rattle.f2_bytes.specs.Names.{is_dots}
use Rattle.f2_bytes.specs.Object.{is_name}
use Rattle.f2_bytes.specs.Check.{digit}
use Rattle.f2_items.specs.FirstPlaces.{HoldsFirst}
use Rattle.f2_items.specs.OpenDirectories.{HoldsDots, ReachesIn, Says, depth_of, IsOpen}
use Rattle.f2_items.specs.declared.open_directory.OpenDirectory.{OpenDirectory}
use Rattle.f2_items.proofs.FoundItems.{count-pushed, count-left}
use Rattle.f2_view.specs.Directories.{legal}

pub legal-push : (items : List Item) (x : Item) → x.is_legal ≡ true → legal (items ++ x ∷ []) ≡ legal items ++ x ∷ []
legal-push items x e = filter-append (λ (i : Item). i.is_legal) items (x ∷ []) ∙ ap (λ b. legal items ++ cond b (x ∷ []) []) e

pub legal-skip : (items : List Item) (x : Item) → x.is_legal ≡ false → legal (items ++ x ∷ []) ≡ legal items
legal-skip items x e = filter-append (λ (i : Item). i.is_legal) items (x ∷ []) ∙ ap (λ b. legal items ++ cond b (x ∷ []) []) e ∙ append-nil (legal items)

-- the names among the items
pub names-push : (items : List Item) (x : Item) → is_name x ≡ true → filter is_name (items ++ x ∷ []) ≡ filter is_name items ++ x ∷ []
names-push items x e = filter-append is_name items (x ∷ []) ∙ ap (λ b. filter is_name items ++ cond b (x ∷ []) []) e

pub names-skip : (items : List Item) (x : Item) → is_name x ≡ false → filter is_name (items ++ x ∷ []) ≡ filter is_name items
names-skip items x e = filter-append is_name items (x ∷ []) ∙ ap (λ b. filter is_name items ++ cond b (x ∷ []) []) e ∙ append-nil (filter is_name items)

pub names-counted : (p : Item → Bool) (items : List Item) (x : Item) → count_by p (filter is_name (items ++ x ∷ [])) ≡ count_by p (filter is_name items) + digit (is_name x && p x)
names-counted p items x = go (is_name x) refl
  where
    go : (b : Bool) → is_name x ≡ b → count_by p (filter is_name (items ++ x ∷ [])) ≡ count_by p (filter is_name items) + digit (is_name x && p x)
    go false e =
        let none : count_by p (filter is_name items) ≡ count_by p (filter is_name items) + 0 = omega arith in
        ap (count_by p) (names-skip items x e) ∙ none ∙ ap (λ b. count_by p (filter is_name items) + digit (b && p x)) (sym e)
    go true e = ap (count_by p) (names-push items x e) ∙ counted (p x) refl ∙ ap (λ b. count_by p (filter is_name items) + digit (b && p x)) (sym e)
      where
        counted : (b : Bool) → p x ≡ b → count_by p (filter is_name items ++ x ∷ []) ≡ count_by p (filter is_name items) + digit (p x)
        counted true t = count-pushed p (filter is_name items) x t ∙ ap (λ b. count_by p (filter is_name items) + digit b) (sym t)
        counted false t =
            let none : count_by p (filter is_name items) ≡ count_by p (filter is_name items) + 0 = omega arith in
            count-left p (filter is_name items) x t ∙ none ∙ ap (λ b. count_by p (filter is_name items) + digit b) (sym t)

module _ (is_directory : ℕ → Bool) (ino : ℕ) (inode : Block) (items : List Item) (x : Item) where
  pub open_more : (old new : OpenDirectory) → IsOpen is_directory ino inode items old → x.is_legal ≡ true → new.ino ≡ old.ino → new.inode ≡ old.inode
      → HoldsFirst (legal items ++ x ∷ []) new.places → HoldsDots (legal items ++ x ∷ []) new.dots → ReachesIn (depth_of inode) (legal items ++ x ∷ []) new.reach
      → new.directories ≡ old.directories + digit (is_name x && is_directory x.ino)
      → IsOpen is_directory ino inode (items ++ x ∷ []) new
  open_more old new is good number says places dots reach directories =
      let pushed = legal-push items x good in
      record {
        number = number ∙ is.number;
        says = subst (Says inode) (sym says) is.says;
        places = subst (λ (l : List Item). HoldsFirst l new.places) (sym pushed) places;
        dots = subst (λ (l : List Item). HoldsDots l new.dots) (sym pushed) dots;
        reach = subst (λ (l : List Item). ReachesIn (depth_of inode) l new.reach) (sym pushed) reach;
        directories = directories ∙ ap (λ n. n + digit (is_name x && is_directory x.ino)) is.directories ∙ sym (names-counted (λ item. is_directory item.ino) items x);
      }

  -- an item that isn't legal changes nothing
  pub open_skip : (o : OpenDirectory) → IsOpen is_directory ino inode items o → x.is_legal ≡ false → IsOpen is_directory ino inode (items ++ x ∷ []) o
  open_skip o is bad =
      let same = legal-skip items x bad in
      record {
        number = is.number;
        says = is.says;
        places = subst (λ (l : List Item). HoldsFirst l o.places) (sym same) is.places;
        dots = subst (λ (l : List Item). HoldsDots l o.dots) (sym same) is.dots;
        reach = subst (λ (l : List Item). ReachesIn (depth_of inode) l o.reach) (sym same) is.reach;
        directories = is.directories ∙ ap (count_by (λ item. is_directory item.ino)) (sym (names-skip items x (no_name bad)));
      }
    where
      no_name : x.is_legal ≡ false → is_name x ≡ false
      no_name e = ap (λ b. b && not (is_dots x.name)) e
