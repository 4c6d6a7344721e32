-- The names of a directory, in byte order, are the only list of them that ascends.
use Rattle.std.proofs.Common.{◌≡◌, ℕ, zero, suc, ◌<◌, ◌⊎◌, inl, inr, List, [], ◌∷◌, ◌++◌, Bool, true, false, ◌&&◌, ◌||◌, ◌==◌, cond, filter, length, get_or, All, refl, sym, ap, ◌∙◌, ⊎_elim, arith}
use Rattle.std.specs.Prelude.{fold, is_some}
use Rattle.std.specs.List.{list_any, Contains}
use Rattle.std.specs.Str.{bytes_eq}
use Rattle.std.specs.declared.cmp.Ordering.{Ordering}
use Rattle.std.specs.Ordering.{is_lt, is_eq, nat_cmp, ordering_reverse}
use Rattle.std.specs.declared.cmp.Ordering.TheVariants.{Less, Equal, Greater}
use Rattle.std.specs.Cmp.Lexicographic.{slice_cmp}
use Rattle.std.proofs.lemmas.Cmp.{nat_list_cmp_total, tied_itself}
use Rattle.std.proofs.lemmas.Map.Text.{is_eq-slice_cmp}
use Rattle.std.proofs.lemmas.Bool.{false≢true, eqb-true, eq-eqb}
use Rattle.std.proofs.lemmas.List.Elements.{All-nil, All-cons}
use Rattle.f2_bytes.specs.Bytes.{Image}
use Rattle.f2_bytes.specs.Superblock.{super_copy}
use Rattle.f2_bytes.specs.Claims.{Claim, same_name}
use Rattle.f2_bytes.specs.Salvage.{names}
use Rattle.f2_bytes.specs.RebuiltDirectories.{put_in_order, in_order, names_of}
use Rattle.f2_salvage.specs.NameLaws.{IsAscending, IsOrdered, NamesAreOrdered}
use Rattle.f2_salvage.proofs.FilterAfter.{All-there}
use Rattle.f2_salvage.proofs.ListFacts.{cons_same}
use Rattle.f2_salvage.proofs.NamesStand.{names-split}

-- ---- elements

In : {A : Type 0} → A → List A → Type 0
In x [] = ⊥
In x (y ∷ ys) = (x ≡ y) ⊎ In x ys

module _ {A : Type 0} where
  from_contains : (xs : List A) (x : A) → Contains xs x → In x xs
  unfolding In
  from_contains [] x t = absurd (let low = t.1 in omega (arith, low))
  from_contains (y ∷ ys) x t = go t.0 t.1 t.2 (λ k low at. from_contains ys x (k, low, at))
    where
      go : (k : ℕ) → k < suc (length ys) → get_or (y ∷ ys) k x ≡ x → ((k : ℕ) → k < length ys → get_or ys k x ≡ x → In x ys) → (x ≡ y) ⊎ In x ys
      go zero low at more = inl (sym at)
      go (suc k) low at more = inr (more k (omega (arith, low)) at)

  to_contains : (xs : List A) (x : A) → In x xs → Contains xs x
  unfolding In
  to_contains [] x h = absurd h
  to_contains (y ∷ ys) x (inl e) = (0, omega arith, sym e)
  to_contains (y ∷ ys) x (inr h) = let t = to_contains ys x h in (suc t.0, (let low = t.1 in omega (arith, low)), t.2)

  in-split : (xs : List A) (x : A) → In x xs → (b : List A) × (r : List A) × (b ++ x ∷ r ≡ xs)
  unfolding In
  in-split [] x h = absurd h
  in-split (y ∷ ys) x (inl e) = ([], ys, cons_same x y ys ys e refl)
  in-split (y ∷ ys) x (inr h) = let t = in-split ys x h in (y ∷ t.0, t.1, ap (λ l. y ∷ l) t.2)

  all-in : (P : A → Type 0) (xs : List A) (x : A) → All P xs → In x xs → P x
  all-in P xs x all h = let t = in-split xs x h in All-there P xs t.0 t.1 x t.2 all

  all-from : (P : A → Type 0) (xs : List A) → ((x : A) → In x xs → P x) → All P xs
  unfolding In
  all-from P [] each = All-nil P
  all-from P (x ∷ xs) each = All-cons P x xs (each x (inl refl)) (all-from P xs (λ y h. each y (inr h)))

  in-filter : (p : A → Bool) (xs : List A) (x : A) → In x (filter p xs) → In x xs × (p x ≡ true)
  unfolding In
  in-filter p [] x h = absurd h
  in-filter p (y ∷ ys) x h = go (p y) refl h (in-filter p ys x)
    where
      go : (b : Bool) → p y ≡ b → In x (cond b (y ∷ filter p ys) (filter p ys)) → (In x (filter p ys) → In x ys × (p x ≡ true)) → ((x ≡ y) ⊎ In x ys) × (p x ≡ true)
      go true e (inl same) more = (inl same, ap p same ∙ e)
      go true e (inr h) more = let t = more h in (inr t.0, t.1)
      go false e h more = let t = more h in (inr t.0, t.1)

  filter-in : (p : A → Bool) (xs : List A) (x : A) → In x xs → p x ≡ true → In x (filter p xs)
  unfolding In
  filter-in p [] x h passes = h
  filter-in p (y ∷ ys) x h passes = go (p y) refl h (λ h. filter-in p ys x h passes)
    where
      go : (b : Bool) → p y ≡ b → (x ≡ y) ⊎ In x ys → (In x ys → In x (filter p ys)) → In x (cond b (y ∷ filter p ys) (filter p ys))
      go true e (inl same) more = inl same
      go true e (inr h) more = inr (more h)
      go false e (inl same) more = absurd (false≢true (sym e ∙ ap p (sym same) ∙ passes))
      go false e (inr h) more = more h

-- ---- the order

abbrev order : Claim → Claim → Ordering
order c d = slice_cmp nat_cmp c.name d.name

less-chain : (c d e : Claim) → order c d ≡ Less → order d e ≡ Less → order c e ≡ Less
less-chain c d e = nat_list_cmp_total.trans c.name d.name e.name

less-not_both : (c d : Claim) → order c d ≡ Less → order d c ≡ Less → ⊥
less-not_both c d p q =
    let no : Less ≡ Equal = sym (less-chain c d c p q) ∙ tied_itself nat_list_cmp_total c.name in
    false≢true (ap is_eq no)

less-is : (o : Ordering) → is_lt o ≡ true → o ≡ Less
less-is Less h = refl
less-is Equal h = absurd (false≢true h)
less-is Greater h = absurd (false≢true h)

-- of two different names that are not in order the second comes first
other-less : (c d : Claim) → is_lt (order c d) ≡ false → bytes_eq c.name d.name ≡ false → order d c ≡ Less
other-less c d late other = go (order c d) refl late
  where
    go : (o : Ordering) → order c d ≡ o → is_lt o ≡ false → order d c ≡ Less
    go Less e h = absurd (false≢true (sym h))
    go Equal e h = absurd (false≢true (sym other ∙ sym (is_eq-slice_cmp c.name d.name) ∙ ap is_eq e))
    go Greater e h = nat_list_cmp_total.antisymm d.name c.name ∙ ap ordering_reverse e

-- ---- lists in order

in-put : (c : Claim) (ds : List Claim) (x : Claim) → In x (put_in_order c ds) → (x ≡ c) ⊎ In x ds
unfolding In
in-put c [] x h = h
in-put c (d ∷ ds) x h = go (is_lt (order c d)) h (in-put c ds x)
  where
    go : (b : Bool) → In x (cond b (c ∷ d ∷ ds) (d ∷ put_in_order c ds)) → (In x (put_in_order c ds) → (x ≡ c) ⊎ In x ds) → (x ≡ c) ⊎ ((x ≡ d) ⊎ In x ds)
    go true h more = h
    go false (inl same) more = inr (inl same)
    go false (inr h) more = ⊎_elim (λ e. inl e) (λ i. inr (inr i)) (more h)

put-in : (c : Claim) (ds : List Claim) (x : Claim) → (x ≡ c) ⊎ In x ds → In x (put_in_order c ds)
unfolding In
put-in c [] x h = h
put-in c (d ∷ ds) x h = go (is_lt (order c d)) h (put-in c ds x)
  where
    go : (b : Bool) → (x ≡ c) ⊎ ((x ≡ d) ⊎ In x ds) → ((x ≡ c) ⊎ In x ds → In x (put_in_order c ds)) → In x (cond b (c ∷ d ∷ ds) (d ∷ put_in_order c ds))
    go true h more = h
    go false (inl e) more = inr (more (inl e))
    go false (inr (inl e)) more = inl e
    go false (inr (inr i)) more = inr (more (inr i))

ascends-put : (c : Claim) (ds : List Claim) → IsAscending ds → ((d : Claim) → In d ds → bytes_eq c.name d.name ≡ false) → IsAscending (put_in_order c ds)
unfolding In
ascends-put c [] h other = (All-nil (λ d. order c d ≡ Less), tt)
ascends-put c (d ∷ ds) h other = go (is_lt (order c d)) refl (ascends-put c ds h.1 (λ e i. other e (inr i)))
  where
    go : (b : Bool) → is_lt (order c d) ≡ b → IsAscending (put_in_order c ds) → IsAscending (cond b (c ∷ d ∷ ds) (d ∷ put_in_order c ds))
    go true e more =
        let first = less-is (order c d) e in
        (all-from (λ x. order c x ≡ Less) (d ∷ ds) (λ x i. ⊎_elim (λ same. ap (order c) same ∙ first) (λ later. less-chain c d x first (all-in (λ x. order d x ≡ Less) ds x h.0 later)) i), h)
    go false e more =
        let first = other-less c d e (other d (inl refl)) in
        (all-from (λ x. order d x ≡ Less) (put_in_order c ds) (λ x i. ⊎_elim (λ same. ap (order d) same ∙ first) (λ later. all-in (λ x. order d x ≡ Less) ds x h.0 later) (in-put c ds x i)), more)

-- the elements differ in their names
Distinct : List Claim → Type 0
Distinct [] = Unit {0}
Distinct (c ∷ cs) = ((d : Claim) → In d cs → bytes_eq d.name c.name ≡ false) × Distinct cs

in-folded : (xs acc : List Claim) (x : Claim) → In x (fold (λ sorted c. put_in_order c sorted) acc xs) → In x acc ⊎ In x xs
unfolding In
in-folded [] acc x h = inl h
in-folded (y ∷ ys) acc x h =
    ⊎_elim (λ i. ⊎_elim (λ same. inr (inl same)) (λ j. inl j) (in-put y acc x i)) (λ i. inr (inr i)) (in-folded ys (put_in_order y acc) x h)

folded-in : (xs acc : List Claim) (x : Claim) → In x acc ⊎ In x xs → In x (fold (λ sorted c. put_in_order c sorted) acc xs)
unfolding In
folded-in [] acc x h = ⊎_elim (λ i. i) (λ no. absurd no) h
folded-in (y ∷ ys) acc x h =
    folded-in ys (put_in_order y acc) x
    (⊎_elim (λ i. inl (put-in y acc x (inr i))) (λ i. ⊎_elim (λ same. inl (put-in y acc x (inl same))) (λ j. inr j) i) h)

ascends-folded : (xs acc : List Claim) → IsAscending acc → Distinct xs → ((x d : Claim) → In x xs → In d acc → bytes_eq x.name d.name ≡ false) → IsAscending (fold (λ sorted c. put_in_order c sorted) acc xs)
unfolding In Distinct
ascends-folded [] acc h distinct other = h
ascends-folded (y ∷ ys) acc h distinct other =
    ascends-folded ys (put_in_order y acc) (ascends-put y acc h (λ d i. other y d (inl refl) i)) distinct.1
    (λ x d i j. ⊎_elim (λ same. ap (λ c. bytes_eq x.name c.name) same ∙ distinct.0 x i) (λ k. other x d (inr i) k) (in-put y acc d j))

-- two lists of the same elements that both ascend are one
one-list : (xs ys : List Claim) → IsAscending xs → IsAscending ys → ((x : Claim) → In x xs → In x ys) → ((y : Claim) → In y ys → In y xs) → xs ≡ ys
unfolding In
one-list [] [] a b there back = refl
one-list [] (y ∷ ys) a b there back = absurd (back y (inl refl))
one-list (x ∷ xs) [] a b there back = absurd (there x (inl refl))
one-list (x ∷ xs) (y ∷ ys) a b there back =
    let same : x ≡ y = ⊎_elim (λ e. e) (λ i. ⊎_elim (λ e. sym e) (λ j.
    absurd (less-not_both x y (all-in (λ d. order x d ≡ Less) xs y a.0 j) (all-in (λ d. order y d ≡ Less) ys x b.0 i))) (back y (inl refl))) (there x (inl refl)) in
    cons_same x y xs ys same
    (one-list xs ys a.1 b.1
    (λ z i. ⊎_elim (λ e. absurd (itself x (sym (ap (order x) (e ∙ sym same)) ∙ all-in (λ d. order x d ≡ Less) xs z a.0 i))) (λ j. j) (there z (inr i)))
    (λ z i. ⊎_elim (λ e. absurd (itself y (sym (ap (order y) (e ∙ same)) ∙ all-in (λ d. order y d ≡ Less) ys z b.0 i))) (λ j. j) (back z (inr i))))
  where
    itself : (c : Claim) → order c c ≡ Less → ⊥
    itself c p = less-not_both c c p p

-- ---- the names of a directory

distinct-names : (ino : ℕ) (xs : List Claim) → ((b r : List Claim) (c : Claim) → b ++ c ∷ r ≡ xs → list_any (same_name c) b ≡ false) → Distinct (filter (λ c. c.directory == ino) xs)
unfolding Distinct In
distinct-names ino [] apart = tt
distinct-names ino (x ∷ xs) apart = go (x.directory == ino) refl (distinct-names ino xs (λ b r c e. (none_parts (same_name c x) (list_any (same_name c) b) (apart (x ∷ b) r c (ap (λ l. x ∷ l) e))).1))
  where
    none_parts : (a b : Bool) → (a || b) ≡ false → (a ≡ false) × (b ≡ false)
    none_parts true b h = absurd (false≢true (sym h))
    none_parts false b h = (refl, h)

    differ : (d : Claim) → x.directory ≡ ino → d.directory ≡ ino → same_name d x ≡ false → bytes_eq d.name x.name ≡ false
    differ d p q h = by_names (bytes_eq d.name x.name) (sym (ap (λ b. b && bytes_eq d.name x.name) (eq-eqb d.directory x.directory (q ∙ sym p))) ∙ h)
      where
        by_names : (b : Bool) → (true && b) ≡ false → b ≡ false
        by_names b e = e

    go : (b : Bool) → (x.directory == ino) ≡ b → Distinct (filter (λ c. c.directory == ino) xs) → Distinct (cond b (x ∷ filter (λ c. c.directory == ino) xs) (filter (λ c. c.directory == ino) xs))
    go false e more = more
    go true e more = (
      λ d i.
          let f = in-filter (λ c. c.directory == ino) xs d i in
          let t = in-split xs d f.0 in
          differ d (eqb-true x.directory ino e) (eqb-true d.directory ino f.1)
          (none_parts (same_name d x) (list_any (same_name d) t.0) (apart (x ∷ t.0) t.1 d (ap (λ l. x ∷ l) t.2))).0,
      more,
    )

module _ (image : Image) (ino : ℕ) (copied : is_some (super_copy image) ≡ true) where
  mine : List Claim
  mine = filter (λ c. c.directory == ino) (names image)

  ascends-names : IsAscending (in_order mine)
  unfolding In mine
  ascends-names =
      ascends-folded (filter (λ c. c.directory == ino) (names image)) [] tt
      (distinct-names ino (names image) (λ b r c e. (names-split image copied b r c e).1)) (λ x d i no. absurd no)

  ordered-names : IsOrdered image ino (names_of image ino)
  unfolding names_of In mine
  ordered-names = record {
    ascends = ascends-names;
    inside = all-from (λ c. Contains (names image) c × (c.directory ≡ ino)) (in_order mine) (λ x i. ⊎_elim (λ no. absurd no) (λ j.
        let t = in-filter (λ c. c.directory == ino) (names image) x j in
        (to_contains (names image) x t.0, eqb-true x.directory ino t.1)) (in-folded mine [] x i));
    whole = all-from (λ c. c.directory ≡ ino → Contains (in_order mine) c) (names image) (λ x i own.
        to_contains (in_order mine) x (folded-in mine [] x (inr (filter-in (λ c. c.directory == ino) (names image) x i (eq-eqb x.directory ino own)))));
  }

  only-ordered : (cs : List Claim) → IsOrdered image ino cs → cs ≡ names_of image ino
  unfolding names_of In mine
  only-ordered cs o =
      one-list cs (in_order mine) o.ascends ascends-names
      (λ x i.
      let t = all-in (λ c. Contains (names image) c × (c.directory ≡ ino)) cs x o.inside i in
      folded-in mine [] x (inr (filter-in (λ c. c.directory == ino) (names image) x (from_contains (names image) x t.0) (eq-eqb x.directory ino t.1))))
      (λ x i. ⊎_elim (λ no. absurd no) (λ j.
      let t = in-filter (λ c. c.directory == ino) (names image) x j in
      from_contains cs x (all-in (λ c. c.directory ≡ ino → Contains cs c) (names image) x o.whole t.0 (eqb-true x.directory ino t.1)))
      (in-folded mine [] x i))

-- the law
pub names_are_ordered : NamesAreOrdered
names_are_ordered image ino copied = (ordered-names image ino copied, only-ordered image ino copied)
