-- How clap finds the options that the grammar names, and what kinds of words there are.
use Rattle.std.proofs.Common.{◌≡◌, ◌≢◌, ◌∙◌, ◌≤◌, ℕ, ◌&&◌, ◌||◌, Bool, true, false, not, cond, nat_eq, refl, sym, ap, subst, arith, List, [], ◌∷◌, ◌++◌, map, codes, Option, Some, None, is_some, option_map, find, true≢false, bytes_eq}
use Rattle.std.specs.Option.{option_map_or}
use Rattle.std.proofs.lemmas.Bool.{eqb-true}
use Rattle.std.proofs.lemmas.Slice.Eq.{bytes_eq-Decides}
use Rattle.clap.specs.Walk.{Rule, arg_by_id, arg_by_index, arg_by_long, arg_by_short, has_long, has_short}
use Rattle.clap.specs.Simple.{new_rule}
use Rattle.clap.specs.declared.builder.value_parser.ValueParser.{ValueParser}
use Rattle.clap.specs.declared.builder.value_parser.ValueParser.TheVariants as vp
use Rattle.f2_top.specs.Words.{Text, Opt}
use Rattle.f2_top.specs.Parser.{AreSpelled, IsSpelled, letter, long, action_by, letter_name, long_name}

-- ---- the rule of an option, as clap builds it

abbrev pub parser_by : Bool → ValueParser
parser_by true = vp.String
parser_by false = vp.Bool

abbrev pub count_by_kind : Bool → ℕ
count_by_kind true = 1
count_by_kind false = 0

abbrev pub text_by : Bool → Text → List Text
text_by true text = []
text_by false text = text ∷ []

abbrev pub rule_by : Option ℕ → Text → Bool → Rule
rule_by index name has_value = record (new_rule name) {
  long = long_name name;
  short = letter_name name;
  index = index;
  action = Some (action_by has_value);
  range = Some (record { start_inclusive = count_by_kind has_value; end_inclusive = count_by_kind has_value });
  defaults = text_by has_value (codes "false");
  missing = text_by has_value (codes "true");
  parser = Some (parser_by has_value);
}

abbrev pub rule : Opt → Rule
rule o = rule_by None o.name o.has_value

abbrev pub positional_rule : Opt → Rule
positional_rule o = rule_by (Some 1) o.name o.has_value

abbrev pub positional_rules : Option Opt → List Rule
positional_rules None = []
positional_rules (Some o) = positional_rule o ∷ []

abbrev pub rules_of : List Opt → Option Opt → List Rule
rules_of os p = map rule os ++ positional_rules p

abbrev pub found_in : List Opt → Text → Option Opt
found_in os text = find (λ o. bytes_eq o.name text) os

-- ---- searches

pub differ : (a b : ℕ) → a ≢ b → nat_eq a b ≡ false
differ a b other = go (nat_eq a b) refl
  where
    go : (t : Bool) → nat_eq a b ≡ t → t ≡ false
    go true e = absurd (other (eqb-true a b e))
    go false e = refl

and_false : (b : Bool) → (b && false) ≡ false
and_false true = refl
and_false false = refl

and_true : (b : Bool) → (b && true) ≡ b
and_true true = refl
and_true false = refl

or_false : (b : Bool) → (b || false) ≡ b
or_false true = refl
or_false false = refl

pub step : (b c : Bool) (o : Opt) (xs : Option Rule) (ys : Option Opt) → b ≡ c → xs ≡ option_map rule ys → cond b (Some (rule o)) xs ≡ option_map rule (cond c (Some o) ys)
step true true o xs ys e rest = refl
step false false o xs ys e rest = rest
step true false o xs ys e rest = absurd (true≢false e)
step false true o xs ys e rest = absurd (true≢false (sym e))

find_rule : (p : Rule → Bool) (q : Opt → Bool) → ((o : Opt) → IsSpelled o → p (rule o) ≡ q o) → (tail : List Rule) → find p tail ≡ None
    → (os : List Opt) → AreSpelled os → find p (map rule os ++ tail) ≡ option_map rule (find q os)
find_rule p q same tail none [] spelled = none
find_rule p q same tail none (o ∷ os) spelled =
    step (p (rule o)) (q o) o _ _ (same o spelled.0) (find_rule p q same tail none os spelled.1)

-- by a long name
same_long : (text : Text) (o : Opt) → IsSpelled o → (not (is_some (rule o).index) && has_long (rule o) text) ≡ bytes_eq o.name (45 ∷ 45 ∷ text)
same_long text o (letter x name other low) = rw name (rw other refl)
same_long text o (long y ys name) = rw name (or_false _)

no_long : (text : Text) (p : Option Opt) → find (λ a. not (is_some a.index) && has_long a text) (positional_rules p) ≡ None
no_long text None = refl
no_long text (Some o) = refl

pub by_long : (os : List Opt) (p : Option Opt) → AreSpelled os → (text : Text) → arg_by_long (rules_of os p) text ≡ option_map rule (found_in os (45 ∷ 45 ∷ text))
by_long os p spelled text = find_rule (λ a. not (is_some a.index) && has_long a text) (λ o. bytes_eq o.name (45 ∷ 45 ∷ text)) (same_long text) (positional_rules p) (no_long text p) os spelled

-- by a letter
same_letter : (x : ℕ) (o : Opt) → IsSpelled o → (not (is_some (rule o).index) && has_short (rule o) x) ≡ bytes_eq o.name (45 ∷ x ∷ [])
same_letter x o (letter z name other low) = rw name (rw other (or_false (nat_eq z x) ∙ sym (and_true (nat_eq z x))))
same_letter x o (long y ys name) = rw name (sym (and_false (nat_eq 45 x)))

no_letter : (x : ℕ) (p : Option Opt) → find (λ a. not (is_some a.index) && has_short a x) (positional_rules p) ≡ None
no_letter x None = refl
no_letter x (Some o) = refl

pub by_letter : (os : List Opt) (p : Option Opt) → AreSpelled os → (x : ℕ) → arg_by_short (rules_of os p) x ≡ option_map rule (found_in os (45 ∷ x ∷ []))
by_letter os p spelled x = find_rule (λ a. not (is_some a.index) && has_short a x) (λ o. bytes_eq o.name (45 ∷ x ∷ [])) (same_letter x) (positional_rules p) (no_letter x p) os spelled

-- a letter is ASCII
high_letter : (x : ℕ) (o : Opt) → 128 ≤ x → IsSpelled o → bytes_eq o.name (45 ∷ x ∷ []) ≡ false
high_letter x o high (letter z name other low) = rw name (rw (differ z x (omega (arith, low, high))) refl)
high_letter x o high (long y ys name) = rw name (and_false (nat_eq 45 x))

pub no_high : (os : List Opt) → AreSpelled os → (x : ℕ) → 128 ≤ x → found_in os (45 ∷ x ∷ []) ≡ None
no_high [] spelled x high = refl
no_high (o ∷ os) spelled x high = rw (high_letter x o high spelled.0) (no_high os spelled.1 x high)

-- by the id
pub found_name : (os : List Opt) (text : Text) (o : Opt) → found_in os text ≡ Some o → o.name ≡ text
found_name [] text o e = absurd (true≢false (sym (ap is_some e)))
found_name (x ∷ xs) text o e = go (bytes_eq x.name text) refl (found_name xs text o) e
  where
    go : (b : Bool) → bytes_eq x.name text ≡ b → (found_in xs text ≡ Some o → o.name ≡ text) → cond b (Some x) (found_in xs text) ≡ Some o → o.name ≡ text
    go true is later e = ap (λ m. option_map_or (λ (y : Opt). y.name) m text) (sym e) ∙ (bytes_eq-Decides x.name text).0 is
    go false is later e = later e

pub by_name : (os : List Opt) (p : Option Opt) (text : Text) (o : Opt) → found_in os text ≡ Some o → arg_by_id (rules_of os p) text ≡ Some (rule o)
by_name [] p text o e = absurd (true≢false (sym (ap is_some e)))
by_name (x ∷ xs) p text o e = go (bytes_eq x.name text) (by_name xs p text o) e
  where
    go : (b : Bool) → (found_in xs text ≡ Some o → arg_by_id (rules_of xs p) text ≡ Some (rule o))
        → cond b (Some x) (found_in xs text) ≡ Some o → cond b (Some (rule x)) (arg_by_id (rules_of xs p) text) ≡ Some (rule o)
    go true later e = ap (option_map rule) e
    go false later e = later e

pub other_name : (c : ℕ) (cs : Text) (o : Opt) → nat_eq 45 c ≡ false → IsSpelled o → bytes_eq o.name (c ∷ cs) ≡ false
other_name c cs o other (letter z name _ low) = rw name (rw other refl)
other_name c cs o other (long y ys name) = rw name (rw other refl)

pub by_plain_name : (os : List Opt) (p : Opt) → AreSpelled os → (c : ℕ) (cs : Text) → p.name ≡ c ∷ cs → nat_eq 45 c ≡ false
    → arg_by_id (rules_of os (Some p)) p.name ≡ Some (positional_rule p)
by_plain_name [] p spelled c cs name other = rw ((bytes_eq-Decides p.name p.name).1 refl) refl
by_plain_name (o ∷ os) p spelled c cs name other =
    let miss : bytes_eq o.name p.name ≡ false = ap (bytes_eq o.name) name ∙ other_name c cs o other spelled.0 in
    rw miss (by_plain_name os p spelled.1 c cs name other)

-- by the place
pub by_place : (os : List Opt) (p : Option Opt) (i : ℕ) → arg_by_index (rules_of os p) i ≡ arg_by_index (positional_rules p) i
by_place [] p i = refl
by_place (o ∷ os) p i = by_place os p i

-- ---- kinds of words

pub data Kind : Text → Type 0 where
  empty : Kind []
  plain : (b : ℕ) → (bs : Text) → nat_eq b 45 ≡ false → Kind (b ∷ bs)
  dash : Kind (45 ∷ [])
  dashes : Kind (45 ∷ 45 ∷ [])
  long_word : (y : ℕ) → (ys : Text) → Kind (45 ∷ 45 ∷ y ∷ ys)
  letters : (x : ℕ) → (xs : Text) → nat_eq x 45 ≡ false → Kind (45 ∷ x ∷ xs)

pub kind : (word : Text) → Kind word
kind [] = empty
kind (b ∷ bs) = first (nat_eq b 45) refl
  where
    dashed : (bs : Text) → Kind (45 ∷ bs)
    dashed [] = dash
    dashed (x ∷ xs) = second (nat_eq x 45) refl
      where
        third : (xs : Text) → Kind (45 ∷ 45 ∷ xs)
        third [] = dashes
        third (y ∷ ys) = long_word y ys

        second : (t : Bool) → nat_eq x 45 ≡ t → Kind (45 ∷ x ∷ xs)
        second true e = subst (λ z. Kind (45 ∷ z ∷ xs)) (sym (eqb-true x 45 e)) (third xs)
        second false e = letters x xs e

    first : (t : Bool) → nat_eq b 45 ≡ t → Kind (b ∷ bs)
    first true e = subst (λ z. Kind (z ∷ bs)) (sym (eqb-true b 45 e)) (dashed bs)
    first false e = plain b bs e
