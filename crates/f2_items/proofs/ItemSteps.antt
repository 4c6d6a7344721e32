-- One item more in what is collected of the items of a directory.
use Rattle.std.proofs.Common.{◌≡◌, ℕ, List, [], ◌∷◌, ◌++◌, Bool, true, false, cond, Option, Some, None, refl, sym, ap, subst, ◌∙◌, append_assoc}
use Rattle.std.specs.Prelude.{find, is_some}
use Rattle.std.specs.Option.{option_map_or, option_or}
use Rattle.std.specs.List.{cons_option}
use Rattle.std.specs.Cmp.Lexicographic.{bytes_decides}
use Rattle.std.proofs.lemmas.Bool.{false≢true}
use Rattle.std.proofs.lemmas.List.{append-nil}
use Rattle.std.proofs.lemmas.List.Elements.{filter-append, filter_map-append}
use Rattle.std.proofs.lemmas.List.Folds.{find-append}
use Rattle.f2_bytes.specs.Directory.{Item}
use Rattle.f2_bytes.specs.Check.{Comparison, Defect, defect_of, same}
use Rattle.f2_defects.specs.Collected.{Collection, Collects, Compares, defects_of}
use Rattle.f2_items.specs.FirstPlaces.{has_name}
use Rattle.f2_items.specs.ItemComparisons.{Finds, item_defects, twin_comparison, of_legal}
use Rattle.f2_view.specs.Directories.{legal}

-- ---- one collection

-- after a comparison
pub finds_more : (part : ℕ) (old new : Collection) (defects : List Defect) (a b : ℕ) (comparison : Option Comparison)
    → Finds part defects old → new.part ≡ old.part → Compares old new a b comparison → Finds part (defects ++ defects_of part a b comparison) new
finds_more part old new defects a b comparison finds number compares = record {
  number = number ∙ finds.number;
  collects = subst (λ (p : ℕ). Collects new (defects ++ defects_of p a b comparison)) finds.number (compares defects finds.collects);
}

module _ (part ino : ℕ) (f : Item → Option Comparison) (before : List Defect) (items : List Item) (x : Item) where
  items_more : item_defects part ino f (items ++ x ∷ []) ≡ item_defects part ino f items ++ defects_of part ino x.place (f x)
  unfolding item_defects
  items_more = filter_map-append (λ item. defect_of part ino item.place (f item)) items (x ∷ [])

  joined : before ++ item_defects part ino f (items ++ x ∷ []) ≡ (before ++ item_defects part ino f items) ++ defects_of part ino x.place (f x)
  joined = ap (λ l. before ++ l) items_more ∙ sym (append_assoc before (item_defects part ino f items) (defects_of part ino x.place (f x)))

  -- the item was compared so
  pub compared : (old new : Collection) → Finds part (before ++ item_defects part ino f items) old → new.part ≡ old.part
      → (a b : ℕ) (comparison : Option Comparison) → a ≡ ino → x.place ≡ b → f x ≡ comparison → Compares old new a b comparison
      → Finds part (before ++ item_defects part ino f (items ++ x ∷ [])) new
  compared old new finds number a b comparison own at is compares =
      let so_far : List Defect = before ++ item_defects part ino f items in
      let found : so_far ++ defects_of part a b comparison ≡ so_far ++ defects_of part ino x.place (f x) = λ t. so_far ++ defects_of part (own t) (sym at t) (sym is t) in
      subst (λ (l : List Defect). Finds part l new) (found ∙ sym joined) (finds_more part old new so_far a b comparison finds number compares)

  -- the item isn't compared
  pub passed_over : (c : Collection) → Finds part (before ++ item_defects part ino f items) c → f x ≡ None → Finds part (before ++ item_defects part ino f (items ++ x ∷ [])) c
  passed_over c finds is =
      subst (λ (l : List Defect). Finds part l c) (sym (joined ∙ ap (λ o. (before ++ item_defects part ino f items) ++ defects_of part ino x.place o) is ∙ append-nil (before ++ item_defects part ino f items))) finds

-- ---- first items of a name

any-middle : {A : Type 0} (p : A → Bool) (b r : List A) (x : A) → p x ≡ true → is_some (find p (b ++ x ∷ r)) ≡ true
any-middle {A = A} p [] r x e = ap (λ t. is_some (cond t (Some x) (find p r))) e
any-middle {A = A} p (y ∷ b) r x e = go (p y) (any-middle p b r x e)
  where
    go : (t : Bool) → is_some (find p (b ++ x ∷ r)) ≡ true → is_some (cond t (Some y) (find p (b ++ x ∷ r))) ≡ true
    go true ih = refl
    go false ih = ih

find_stays : {A : Type 0} (p : A → Bool) (xs ys : List A) → is_some (find p xs) ≡ true → find p (xs ++ ys) ≡ find p xs
find_stays {A = A} p xs ys some = find-append p xs ys ∙ go (find p xs) some
  where
    go : (o : Option A) → is_some o ≡ true → option_or o (find p ys) ≡ o
    go None e = absurd (false≢true e)
    go (Some x) e = refl

-- an item of the list has its first one in the list
twin_stays : (before rest extra : List Item) (x : Item) → twin_comparison (legal ((before ++ x ∷ rest) ++ extra)) x ≡ twin_comparison (legal (before ++ x ∷ rest)) x
twin_stays before rest extra x = go x.is_legal refl
  where
    place : List Item → ℕ
    place items = option_map_or (λ (first : Item). first.place) (find (has_name x.name) items) 0

    go : (l : Bool) → x.is_legal ≡ l → twin_comparison (legal ((before ++ x ∷ rest) ++ extra)) x ≡ twin_comparison (legal (before ++ x ∷ rest)) x
    go false e = ap (λ b. cond b (same (place (legal ((before ++ x ∷ rest) ++ extra))) x.place) None) e ∙ sym (ap (λ b. cond b (same (place (legal (before ++ x ∷ rest))) x.place) None) e)
    go true e =
        let parts : legal (before ++ x ∷ rest) ≡ legal before ++ x ∷ legal rest = filter-append (λ (i : Item). i.is_legal) before (x ∷ rest) ∙ ap (λ b. legal before ++ cond b (x ∷ legal rest) (legal rest)) e in
        let there : is_some (find (has_name x.name) (legal (before ++ x ∷ rest))) ≡ true = ap (λ l. is_some (find (has_name x.name) l)) parts ∙ any-middle (has_name x.name) (legal before) (legal rest) x ((bytes_decides x.name x.name).1 refl) in
        ap (λ l. twin_comparison l x) (filter-append (λ (i : Item). i.is_legal) (before ++ x ∷ rest) extra)
        ∙ ap (λ o. of_legal x (same (option_map_or (λ (first : Item). first.place) o 0) x.place)) (find_stays (has_name x.name) (legal (before ++ x ∷ rest)) (legal extra) there)

twins_from : (ino : ℕ) (all extra before rest : List Item) → before ++ rest ≡ all
    → item_defects 2 ino (twin_comparison (legal (all ++ extra))) rest ≡ item_defects 2 ino (twin_comparison (legal all)) rest
unfolding item_defects
twins_from ino all extra before [] e = refl
twins_from ino all extra before (x ∷ rest) e =
    let here : twin_comparison (legal (all ++ extra)) x ≡ twin_comparison (legal all) x = subst (λ (l : List Item). twin_comparison (legal (l ++ extra)) x ≡ twin_comparison (legal l) x) e (twin_stays before rest extra x) in
    let more = twins_from ino all extra (before ++ x ∷ []) rest (append_assoc before (x ∷ []) rest ∙ e) in
    λ t. cons_option (defect_of 2 ino x.place (here t)) (more t)

-- the defects of items before others stay
pub twins_stay : (ino : ℕ) (items extra : List Item) → item_defects 2 ino (twin_comparison (legal (items ++ extra))) items ≡ item_defects 2 ino (twin_comparison (legal items)) items
twins_stay ino items extra = twins_from ino items extra [] items refl

-- a comparison of the same collections and values
pub compares_as : (old old' new new' : Collection) (a b : ℕ) (c c' : Option Comparison) → old ≡ old' → new ≡ new' → c ≡ c' → Compares old new a b c → Compares old' new' a b c'
compares_as old old' new new' a b c c' before after is h =
    subst (λ (o : Collection). Compares o new' a b c') before
    (subst (λ (n : Collection). Compares old n a b c') after (subst (λ (k : Option Comparison). Compares old new a b k) is h))
