-- What clap's getters read, after the defaults, of the uses that were met.
use Rattle.std.proofs.Common.{◌≡◌, ◌∙◌, ◌⊎◌, inl, inr, ℕ, ◌||◌, Bool, true, false, not, cond, refl, sym, ap, ap₂, subst, List, [], ◌∷◌, ◌++◌, codes, Option, Some, None, is_some, option_map, find, fold, true≢false, bytes_eq}
use Rattle.std.specs.List.{list_all}
use Rattle.std.specs.Option.{option_map_or}
use Rattle.std.proofs.lemmas.Slice.Eq.{bytes_eq-Decides}
use Rattle.std.proofs.lemmas.Bool.{and_parts}
use Rattle.clap.specs.Walk.{Row, default_rows, has_row, more_values, reading_by, with_default}
use Rattle.clap.specs.declared.parser.matches.ValueSource.TheVariants.{DefaultValue}
use Rattle.f2_top.specs.Words.{Text, Opt, Use, uses_name}
use Rattle.f2_top.proofs.Spelling.{found_in, rule, rule_by, rules_of, positional_rules}
use Rattle.f2_top.proofs.Used.{at_end, row, rows}

abbrev pub lookup : Text → List Row → Option Row
lookup name rs = find (λ r. bytes_eq r.id name) rs

pub lookup-rows : (name : Text) (uses : List Use) → lookup name (rows uses) ≡ option_map row (find (uses_name name) uses)
lookup-rows name [] = refl
lookup-rows name (u ∷ us) = go (bytes_eq u.option.name name) (lookup-rows name us)
  where
    go : (b : Bool) → lookup name (rows us) ≡ option_map row (find (uses_name name) us)
        → cond b (Some (row u)) (lookup name (rows us)) ≡ option_map row (cond b (Some u) (find (uses_name name) us))
    go true e = refl
    go false e = e

lookup-has : (name : Text) (rs : List Row) → has_row name rs ≡ is_some (lookup name rs)
lookup-has name [] = refl
lookup-has name (r ∷ rs) = go (bytes_eq r.id name) (lookup-has name rs)
  where
    go : (b : Bool) → has_row name rs ≡ is_some (lookup name rs) → (b || has_row name rs) ≡ is_some (cond b (Some r) (lookup name rs))
    go true e = refl
    go false e = e

abbrev or_by : Option Row → Option Row → Option Row
or_by None later = later
or_by (Some r) later = Some r

lookup-append : (name : Text) (rs : List Row) (r : Row) → lookup name (rs ++ r ∷ []) ≡ or_by (lookup name rs) (cond (bytes_eq r.id name) (Some r) None)
lookup-append name [] r = refl
lookup-append name (x ∷ xs) r = go (bytes_eq x.id name) (lookup-append name xs r)
  where
    last : Option Row
    last = cond (bytes_eq r.id name) (Some r) None

    go : (b : Bool) → lookup name (xs ++ r ∷ []) ≡ or_by (lookup name xs) (cond (bytes_eq r.id name) (Some r) None)
        → cond b (Some x) (lookup name (xs ++ r ∷ [])) ≡ or_by (cond b (Some x) (lookup name xs)) (cond (bytes_eq r.id name) (Some r) None)
    go true e = refl
    go false e = e

-- the row of a flag that was not used
abbrev pub unused : Text → Row
unused name = record { id = name; values = codes "false" ∷ []; count = None; source = Some DefaultValue; reading = reading_by (rule_by None name false) }

-- a default leaves the rows, or adds one
data Adds (index : Option ℕ) (name : Text) (b : Bool) (rs : List Row) : Type 0 where
  same : with_default rs (rule_by index name b) ≡ rs → (has_row name rs ≡ true) ⊎ (b ≡ true) → Adds index name b rs
  more : with_default rs (rule_by index name b) ≡ rs ++ unused name ∷ [] → has_row name rs ≡ false → b ≡ false → Adds index name b rs

adds : (index : Option ℕ) (name : Text) (b : Bool) (rs : List Row) → Adds index name b rs
adds index name true rs = same (go (has_row name rs)) (inr refl)
  where
    go : (t : Bool) → cond t rs rs ≡ rs
    go true = refl
    go false = refl
adds index name false rs = go (has_row name rs) refl
  where
    go : (t : Bool) → has_row name rs ≡ t → Adds index name false rs
    go true had = same (ap (λ t. cond t rs (default_rows name (reading_by (rule_by index name false)) (codes "false" ∷ []) rs)) had) (inl had)
    go false none = more (ap (λ t. cond t rs (default_rows name (reading_by (rule_by index name false)) (codes "false" ∷ []) rs)) none
        ∙ at_end name (more_values DefaultValue (codes "false" ∷ [])) (unused name ∷ []) rs none) none refl

-- a row that is there stays
stays_one : (name : Text) (r : Row) (index : Option ℕ) (id : Text) (b : Bool) (rs : List Row) → lookup name rs ≡ Some r → lookup name (with_default rs (rule_by index id b)) ≡ Some r
stays_one name r index id b rs there = go (adds index id b rs)
  where
    go : Adds index id b rs → lookup name (with_default rs (rule_by index id b)) ≡ Some r
    go (same is why) = ap (lookup name) is ∙ there
    go (more is none flag) = ap (lookup name) is ∙ lookup-append name rs (unused id) ∙ ap (λ m. or_by m (cond (bytes_eq id name) (Some (unused id)) None)) there

-- another's default changes nothing
other_one : (name : Text) (index : Option ℕ) (id : Text) (b : Bool) (rs : List Row) → (b || not (bytes_eq id name)) ≡ true → lookup name rs ≡ None
    → lookup name (with_default rs (rule_by index id b)) ≡ None
other_one name index id b rs other none = go (adds index id b rs)
  where
    apart : (s t : Bool) → (s || not t) ≡ true → s ≡ false → t ≡ false
    apart s true e f = absurd (true≢false (sym e ∙ ap (λ x. x || false) f))
    apart s false e f = refl

    go : Adds index id b rs → lookup name (with_default rs (rule_by index id b)) ≡ None
    go (same is why) = ap (lookup name) is ∙ none
    go (more is had flag) = ap (lookup name) is ∙ lookup-append name rs (unused id) ∙ ap₂ (λ m t. or_by m (cond t (Some (unused id)) None)) none (apart b (bytes_eq id name) other flag)

-- a flag's own default
own_one : (name : Text) (index : Option ℕ) (rs : List Row) → lookup name rs ≡ None → lookup name (with_default rs (rule_by index name false)) ≡ Some (unused name)
own_one name index rs none = go (adds index name false rs)
  where
    go : Adds index name false rs → lookup name (with_default rs (rule_by index name false)) ≡ Some (unused name)
    go (same is (inl had)) = absurd (true≢false (sym had ∙ lookup-has name rs ∙ ap is_some none))
    go (same is (inr flag)) = absurd (true≢false (sym flag))
    go (more is had flag) = ap (lookup name) is ∙ lookup-append name rs (unused name) ∙ ap₂ (λ m t. or_by m (cond t (Some (unused name)) None)) none ((bytes_eq-Decides name name).1 refl)

-- no flag has this name
abbrev pub is_no_flag : Text → List Opt → Bool
is_no_flag name os = list_all (λ o. o.has_value || not (bytes_eq o.name name)) os

module _ (p : Option Opt) where
  pub stays : (name : Text) (r : Row) (os : List Opt) (rs : List Row) → lookup name rs ≡ Some r → lookup name (fold with_default rs (rules_of os p)) ≡ Some r
  stays name r [] rs there = last p
    where
      last : (q : Option Opt) → lookup name (fold with_default rs (positional_rules q)) ≡ Some r
      last None = there
      last (Some o) = stays_one name r (Some 1) o.name o.has_value rs there
  stays name r (o ∷ os) rs there = stays name r os (with_default rs (rule o)) (stays_one name r None o.name o.has_value rs there)

  pub stays_none : (name : Text) (os : List Opt) (rs : List Row) → option_map_or (λ o. o.has_value) p true ≡ true → is_no_flag name os ≡ true → lookup name rs ≡ None
      → lookup name (fold with_default rs (rules_of os p)) ≡ None
  stays_none name [] rs valued other none = last p valued
    where
      last : (q : Option Opt) → option_map_or (λ o. o.has_value) q true ≡ true → lookup name (fold with_default rs (positional_rules q)) ≡ None
      last None v = none
      last (Some o) v = other_one name (Some 1) o.name o.has_value rs (ap (λ b. b || not (bytes_eq o.name name)) v) none
  stays_none name (o ∷ os) rs valued other none =
      let parts = and_parts (o.has_value || not (bytes_eq o.name name)) _ other in
      stays_none name os (with_default rs (rule o)) valued parts.1 (other_one name None o.name o.has_value rs parts.0 none)

  pub comes : (name : Text) (f : Opt) (os : List Opt) (rs : List Row) → found_in os name ≡ Some f → f.has_value ≡ false → lookup name rs ≡ None
      → lookup name (fold with_default rs (rules_of os p)) ≡ Some (unused name)
  comes name f [] rs found flag none = absurd (true≢false (sym (ap is_some found)))
  comes name f (o ∷ os) rs found flag none = go (bytes_eq o.name name) refl found (λ e. comes name f os (with_default rs (rule o)) e flag)
    where
      go : (b : Bool) → bytes_eq o.name name ≡ b → cond b (Some o) (found_in os name) ≡ Some f
          → (found_in os name ≡ Some f → lookup name (with_default rs (rule o)) ≡ None → lookup name (fold with_default (with_default rs (rule o)) (rules_of os p)) ≡ Some (unused name))
          → lookup name (fold with_default (with_default rs (rule o)) (rules_of os p)) ≡ Some (unused name)
      go true is found later =
          let kind : o.has_value ≡ false = ap (λ m. option_map_or (λ (x : Opt). x.has_value) m true) found ∙ flag in
          let named : o.name ≡ name = (bytes_eq-Decides o.name name).0 is in
          stays name (unused name) os (with_default rs (rule o)) (subst (λ (e : Text × Bool). lookup name (with_default rs (rule_by None e.0 e.1)) ≡ Some (unused name)) (λ i. (sym named i, sym kind i)) (own_one name None rs none))
      go false is found later = later found (other_one name None o.name o.has_value rs (other o.has_value is) none)
        where
          other : (t : Bool) → bytes_eq o.name name ≡ false → (t || not (bytes_eq o.name name)) ≡ true
          other true e = refl
          other false e = ap not e
