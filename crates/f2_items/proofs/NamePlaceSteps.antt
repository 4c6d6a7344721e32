-- One name more among the first places of names.
use Rattle.std.proofs.Common.{◌≡◌, ℕ, List, [], ◌∷◌, ◌++◌, Bool, true, false, Option, Some, None, refl, sym, ap, subst, ◌∙◌, ⊎_elim}
use Rattle.std.specs.Prelude.{find, option_map}
use Rattle.std.specs.BTreeMap.{BTreeMap, get_by, is_at, UpdatesBy}
use Rattle.std.specs.Map.{lookup, IsKeyTest, AreApart, KeepsOthers}
use Rattle.std.specs.Cmp.{eq_by_cmp_equiv}
use Rattle.std.specs.Cmp.Lexicographic.{slice_cmp, bytes_decides, nat_list_cmp_total, nat_list_eq_equiv}
use Rattle.std.specs.Ordering.{is_eq, nat_cmp, eq_by_cmp}
use Rattle.std.specs.Str.{bytes_eq}
use Rattle.std.specs.declared.vec.Vec.{Vec}
use Rattle.std.proofs.lemmas.Bool.{cases_Bool}
use Rattle.std.proofs.lemmas.Map.Text.{is_eq-slice_cmp}
use Rattle.f2_bytes.specs.Directory.{Item}
use Rattle.f2_items.specs.FirstPlaces.{has_name, first_place, HoldsFirst}
use Rattle.f2_items.specs.declared.name_places.NamePlaces.{NamePlaces}
use Rattle.f2_items.proofs.FoundItems.{find-left, find-kept, find-new}

apart : (bs cs ks : List ℕ) → bytes_eq bs cs ≡ false → is_eq (slice_cmp nat_cmp bs ks) ≡ true → is_eq (slice_cmp nat_cmp cs ks) ≡ false
apart bs cs ks n y =
    let same : bytes_eq bs ks ≡ true = sym (is_eq-slice_cmp bs ks) ∙ y in
    is_eq-slice_cmp cs ks ∙ nat_list_eq_equiv.symm cs ks ∙ sym (nat_list_eq_equiv.congr bs ks cs same) ∙ n

other_entries : {K X : Type 0} (eq : K → K → Bool) (test : K → Bool) (old new : List (K × X)) → KeepsOthers eq test old new → (other : K → Bool) → IsKeyTest eq other → AreApart test other → lookup other new ≡ lookup other old
unfolding KeepsOthers
other_entries eq test old new h = h

-- a look-up of another name after one was put in
pub others : {A : Type 0} (m n : BTreeMap (Vec ℕ A) ℕ) (key : Vec ℕ A) (place : ℕ) → UpdatesBy (λ x y. slice_cmp nat_cmp x.items y.items) (λ k. slice_cmp nat_cmp key.items k.items) m n (Some place)
    → (name : List ℕ) → bytes_eq key.items name ≡ false → get_by (λ k. slice_cmp nat_cmp name k.items) n ≡ get_by (λ k. slice_cmp nat_cmp name k.items) m
others m n key place h name e =
    other_entries (eq_by_cmp (λ x y. slice_cmp nat_cmp x.items y.items)) (is_at (λ k. slice_cmp nat_cmp key.items k.items)) m.entries n.entries h.3
    (is_at (λ k. slice_cmp nat_cmp name k.items)) (λ x y. (eq_by_cmp_equiv nat_list_cmp_total).congr name x.items y.items) (λ k. apart key.items name k.items e)

module _ (items : List Item) (item : Item) where
  first_other : (name : List ℕ) → bytes_eq item.name name ≡ false → first_place name (items ++ item ∷ []) ≡ first_place name items
  first_other name e = ap (option_map (λ (i : Item). i.place)) (find-left (has_name name) items item e)

  first_kept : (name : List ℕ) (place : ℕ) → first_place name items ≡ Some place → first_place name (items ++ item ∷ []) ≡ Some place
  first_kept name place e = go (find (has_name name) items) refl
    where
      go : (o : Option Item) → find (has_name name) items ≡ o → first_place name (items ++ item ∷ []) ≡ Some place
      go None is =
          let no : ◌≡◌ {A = Option ℕ} None (Some place) = sym (ap (option_map (λ (i : Item). i.place)) is) ∙ e in
          absurd (cc no)
      go (Some x) is = ap (option_map (λ (i : Item). i.place)) (find-kept (has_name name) items item x is ∙ sym is) ∙ e

  first_new : (name : List ℕ) → first_place name items ≡ None → bytes_eq item.name name ≡ true → first_place name (items ++ item ∷ []) ≡ Some item.place
  first_new name e same = go (find (has_name name) items) refl
    where
      go : (o : Option Item) → find (has_name name) items ≡ o → first_place name (items ++ item ∷ []) ≡ Some item.place
      go None is = ap (option_map (λ (i : Item). i.place)) (find-new (has_name name) items item is same)
      go (Some x) is =
          let no : ◌≡◌ {A = Option ℕ} (Some x.place) None = sym (ap (option_map (λ (i : Item). i.place)) is) ∙ e in
          absurd (cc no)

  -- the name is known already
  module _ (p : NamePlaces) (holds : HoldsFirst items p) (place : ℕ) (known : get_by (λ k. slice_cmp nat_cmp item.name k.items) p.places ≡ Some place) where
    pub known_first : first_place item.name (items ++ item ∷ []) ≡ Some place
    known_first = first_kept item.name place (sym (holds.at item.name) ∙ known)

    pub known_holds : HoldsFirst (items ++ item ∷ []) p
    known_holds = record { at = λ name. ⊎_elim (same name) (λ e. holds.at name ∙ sym (first_other name e)) (cases_Bool (bytes_eq item.name name)) }
      where
        same : (name : List ℕ) → bytes_eq item.name name ≡ true → get_by (λ k. slice_cmp nat_cmp name k.items) p.places ≡ first_place name (items ++ item ∷ [])
        same name e =
            subst (λ (n : List ℕ). get_by (λ k. slice_cmp nat_cmp n k.items) p.places ≡ first_place n (items ++ item ∷ [])) ((bytes_decides item.name name).0 e) (known ∙ sym known_first)

  -- it is new
  module _ (old new : NamePlaces) (holds : HoldsFirst items old) (none : get_by (λ k. slice_cmp nat_cmp item.name k.items) old.places ≡ None) where
    pub new_first : first_place item.name (items ++ item ∷ []) ≡ Some item.place
    new_first = first_new item.name (sym (holds.at item.name) ∙ none) ((bytes_decides item.name item.name).1 refl)

    pub new_holds : get_by (λ k. slice_cmp nat_cmp item.name k.items) new.places ≡ Some item.place
        → ((name : List ℕ) → bytes_eq item.name name ≡ false → get_by (λ k. slice_cmp nat_cmp name k.items) new.places ≡ get_by (λ k. slice_cmp nat_cmp name k.items) old.places)
        → HoldsFirst (items ++ item ∷ []) new
    new_holds here elsewhere = record { at = λ name. ⊎_elim (same name) (λ e. elsewhere name e ∙ holds.at name ∙ sym (first_other name e)) (cases_Bool (bytes_eq item.name name)) }
      where
        same : (name : List ℕ) → bytes_eq item.name name ≡ true → get_by (λ k. slice_cmp nat_cmp name k.items) new.places ≡ first_place name (items ++ item ∷ [])
        same name e =
            subst (λ (n : List ℕ). get_by (λ k. slice_cmp nat_cmp n k.items) new.places ≡ first_place n (items ++ item ∷ [])) ((bytes_decides item.name name).0 e) (here ∙ sym new_first)
