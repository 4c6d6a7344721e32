-- The claims of items that are names.
use Rattle.std.proofs.Common.{◌≡◌, ℕ, ◌+◌, List, [], ◌∷◌, ◌++◌, Bool, true, false, not, ◌&&◌, ◌||◌, ◌==◌, cond, filter, sum_by, All, Option, Some, None, refl, sym, ap, ◌∙◌}
use Rattle.std.specs.Prelude.{find, filter_map, count_by}
use Rattle.std.specs.List.{list_any, cons_option}
use Rattle.std.specs.Str.{bytes_eq}
use Rattle.std.proofs.lemmas.List.Sums.{sum_by-cons}
use Rattle.std.proofs.lemmas.List.Elements.{All-nil, All-cons}
use Rattle.std.proofs.lemmas.Slice.Eq.{bytes_eq-Decides}
use Rattle.f2_bytes.specs.Directory.{Item}
use Rattle.f2_bytes.specs.Names.{is_dots}
use Rattle.f2_bytes.specs.Object.{is_name}
use Rattle.f2_bytes.specs.Claims.{Claim, item_claim, same_name}

-- the claim of an item
abbrev pub claim_of : ℕ → Item → Claim
claim_of ino item = record { directory = ino; name = item.name; target = item.ino }

abbrev pub good_claim : ℕ → Item → Option Claim
good_claim ino item = cond (is_name item) (Some (claim_of ino item)) None

abbrev pub is_no_dots : Claim → Bool
is_no_dots c = not (is_dots c.name)

pub filter-claims : (ino : ℕ) (xs : List Item) → filter is_no_dots (filter_map (item_claim ino) xs) ≡ filter_map (good_claim ino) xs
filter-claims ino [] = refl
filter-claims ino (x ∷ xs) = go x.is_legal (is_dots x.name) refl (filter-claims ino xs)
  where
    go : (l d : Bool) → is_dots x.name ≡ d → filter is_no_dots (filter_map (item_claim ino) xs) ≡ filter_map (good_claim ino) xs
        → filter is_no_dots (cons_option (cond l (Some (claim_of ino x)) None) (filter_map (item_claim ino) xs)) ≡ cons_option (cond (l && not (is_dots x.name)) (Some (claim_of ino x)) None) (filter_map (good_claim ino) xs)
    go false d e ih = ih
    go true true e ih = rw e ih
    go true false e ih = rw e (ap (λ l. claim_of ino x ∷ l) ih)

pub any-good : (q : Claim → Bool) (ino : ℕ) (xs : List Item) → list_any q (filter_map (good_claim ino) xs) ≡ list_any (λ item. is_name item && q (claim_of ino item)) xs
any-good q ino [] = refl
any-good q ino (x ∷ xs) = go (is_name x) refl (any-good q ino xs)
  where
    go : (b : Bool) → is_name x ≡ b → list_any q (filter_map (good_claim ino) xs) ≡ list_any (λ item. is_name item && q (claim_of ino item)) xs
        → list_any q (cons_option (good_claim ino x) (filter_map (good_claim ino) xs)) ≡ list_any (λ item. is_name item && q (claim_of ino item)) (x ∷ xs)
    go true e ih = rw e (ap (λ b. q (claim_of ino x) || b) ih)
    go false e ih = rw e ih

pub count-good : (q : Claim → Bool) (ino : ℕ) (xs : List Item) → count_by q (filter_map (good_claim ino) xs) ≡ count_by (λ item. q (claim_of ino item)) (filter is_name xs)
count-good q ino [] = refl
count-good q ino (x ∷ xs) = go (is_name x) refl (count-good q ino xs)
  where
    f : Claim → ℕ
    f c = cond (q c) 1 0

    g : Item → ℕ
    g item = cond (q (claim_of ino item)) 1 0

    go : (b : Bool) → is_name x ≡ b → sum_by f (filter_map (good_claim ino) xs) ≡ sum_by g (filter is_name xs)
        → sum_by f (cons_option (good_claim ino x) (filter_map (good_claim ino) xs)) ≡ sum_by g (filter is_name (x ∷ xs))
    go true e ih =
        let left : filter_map (good_claim ino) (x ∷ xs) ≡ claim_of ino x ∷ filter_map (good_claim ino) xs = rw e refl in
        let right : filter is_name (x ∷ xs) ≡ x ∷ filter is_name xs = rw e refl in
        ap (sum_by f) left ∙ sum_by-cons f (claim_of ino x) (filter_map (good_claim ino) xs) ∙ ap (λ n. g x + n) ih ∙ sym (sum_by-cons g x (filter is_name xs)) ∙ sym (ap (sum_by g) right)
    go false e ih =
        let left : filter_map (good_claim ino) (x ∷ xs) ≡ filter_map (good_claim ino) xs = rw e refl in
        let right : filter is_name (x ∷ xs) ≡ filter is_name xs = rw e refl in
        ap (sum_by f) left ∙ ih ∙ sym (ap (sum_by g) right)

pub own-claims : (ino : ℕ) (xs : List Item) → All (λ c. c.directory ≡ ino) (filter_map (item_claim ino) xs)
own-claims ino [] = All-nil (λ c. c.directory ≡ ino)
own-claims ino (x ∷ xs) = go x.is_legal (own-claims ino xs)
  where
    go : (l : Bool) → All (λ c. c.directory ≡ ino) (filter_map (item_claim ino) xs) → All (λ c. c.directory ≡ ino) (cons_option (cond l (Some (claim_of ino x)) None) (filter_map (item_claim ino) xs))
    go false ih = ih
    go true ih = All-cons (λ c. c.directory ≡ ino) (claim_of ino x) (filter_map (item_claim ino) xs) refl ih

pub own-good : (ino : ℕ) (xs : List Item) → All (λ c. c.directory ≡ ino) (filter_map (good_claim ino) xs)
own-good ino [] = All-nil (λ c. c.directory ≡ ino)
own-good ino (x ∷ xs) = go (is_name x) (own-good ino xs)
  where
    go : (l : Bool) → All (λ c. c.directory ≡ ino) (filter_map (good_claim ino) xs) → All (λ c. c.directory ≡ ino) (cons_option (cond l (Some (claim_of ino x)) None) (filter_map (good_claim ino) xs))
    go false ih = ih
    go true ih = All-cons (λ c. c.directory ≡ ino) (claim_of ino x) (filter_map (good_claim ino) xs) refl ih

pub bytes_eq-sym : (xs ys : List ℕ) → bytes_eq xs ys ≡ bytes_eq ys xs
bytes_eq-sym xs ys =
    let there = bytes_eq-Decides xs ys in
    let back = bytes_eq-Decides ys xs in
    both (bytes_eq xs ys) (bytes_eq ys xs) (λ e. back.1 (sym (there.0 e))) (λ e. there.1 (sym (back.0 e)))
  where
    both : (a b : Bool) → (a ≡ true → b ≡ true) → (b ≡ true → a ≡ true) → a ≡ b
    both true b f g = sym (f refl)
    both false true f g = g refl
    both false false f g = refl

-- the claims of legal items with this name
pub any-same : (ino : ℕ) (x : Item) (ys : List Item) → list_any (same_name (claim_of ino x)) (filter_map (item_claim ino) ys) ≡ list_any (λ y. y.is_legal && ((ino == ino) && bytes_eq x.name y.name)) ys
any-same ino x [] = refl
any-same ino x (y ∷ ys) = go y.is_legal (any-same ino x ys)
  where
    go : (l : Bool) → list_any (same_name (claim_of ino x)) (filter_map (item_claim ino) ys) ≡ list_any (λ y. y.is_legal && ((ino == ino) && bytes_eq x.name y.name)) ys
        → list_any (same_name (claim_of ino x)) (cons_option (cond l (Some (claim_of ino y)) None) (filter_map (item_claim ino) ys)) ≡ ((l && ((ino == ino) && bytes_eq x.name y.name)) || list_any (λ y. y.is_legal && ((ino == ino) && bytes_eq x.name y.name)) ys)
    go false ih = ih
    go true ih = ap (λ b. ((ino == ino) && bytes_eq x.name y.name) || b) ih

pub find-filter : {A : Type 0} (p t : A → Bool) (xs : List A) → find p (filter t xs) ≡ find (λ x. t x && p x) xs
find-filter p t [] = refl
find-filter p t (x ∷ xs) = go (t x) refl (find-filter p t xs)
  where
    go : (b : Bool) → t x ≡ b → find p (filter t xs) ≡ find (λ x. t x && p x) xs → find p (filter t (x ∷ xs)) ≡ find (λ x. t x && p x) (x ∷ xs)
    go true e ih = rw e (ap (λ o. cond (p x) (Some x) o) ih)
    go false e ih = rw e ih

pub any-middle : {A : Type 0} (p : A → Bool) (b r : List A) (x : A) → p x ≡ true → list_any p (b ++ x ∷ r) ≡ true
any-middle p [] r x e = rw e refl
any-middle p (y ∷ b) r x e = rw (any-middle p b r x e) (or_true (p y))
  where
    or_true : (b : Bool) → (b || true) ≡ true
    or_true true = refl
    or_true false = refl
