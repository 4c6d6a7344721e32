-- What clap holds after uses of options, and what it says to one more use.
use Rattle.std.proofs.Common.{◌≡◌, ◌≢◌, ◌∙◌, ℕ, ◌||◌, Bool, true, false, cond, refl, sym, ap, List, [], ◌∷◌, ◌++◌, map, codes, Option, Some, None, true≢false, bytes_eq}
use Rattle.std.proofs.Common.{append-nil}
use Rattle.clap.specs.Walk.{Row, at_row, has_row, more_values, reading_by, used, without}
use Rattle.clap.specs.Kinds.{Kinds, or_else}
use Rattle.clap.specs.Faults.{use_fault}
use Rattle.clap.specs.declared.parser.matches.ValueSource.TheVariants.{CommandLine}
use Rattle.f2_top.specs.Words.{Text, Opt, Use, is_used}
use Rattle.f2_top.proofs.Spelling.{rule_by, rule}

-- the text of a use's value in clap
abbrev pub text_of : Bool → Text → Text
text_of true value = value
text_of false value = codes "true"

abbrev pub row : Use → Row
row u = record {
  id = u.option.name;
  values = text_of u.option.has_value u.value ∷ [];
  count = None;
  source = Some CommandLine;
  reading = reading_by (rule u.option);
}

abbrev pub rows : List Use → List Row
rows = map row

-- the values that clap is given of a use
abbrev pub values_given : Bool → Text → List Text
values_given true value = value ∷ []
values_given false value = []

pub has_row-rows : (name : Text) (uses : List Use) → has_row name (rows uses) ≡ is_used name uses
has_row-rows name [] = refl
has_row-rows name (u ∷ us) = ap (λ b. bytes_eq u.option.name name || b) (has_row-rows name us)

pub at_end : (id : Text) (change : Row → List Row) (missing rs : List Row) → has_row id rs ≡ false → at_row id change missing rs ≡ rs ++ missing
at_end id change missing [] none = refl
at_end id change missing (r ∷ rs) none = go (bytes_eq r.id id) (at_end id change missing rs) none
  where
    go : (b : Bool) → (has_row id rs ≡ false → at_row id change missing rs ≡ rs ++ missing) → (b || has_row id rs) ≡ false
        → cond b (change r ++ rs) (r ∷ at_row id change missing rs) ≡ r ∷ (rs ++ missing)
    go true later none = absurd (true≢false none)
    go false later none = ap (λ l. r ∷ l) (later none)

abbrev one_more : (name : Text) (b : Bool) (value : Text) → Row
one_more name b value = row (record { option = record { name = name; has_value = b }; value = value })

abbrev pub with_one : List Use → Opt → Text → List Use
with_one uses o value = uses ++ (record { option = o; value = value }) ∷ []

-- ---- kinds

abbrev pub has_kinds : Kinds → Bool
has_kinds [] = false
has_kinds (k ∷ ks) = true

pub some_kinds : (ks : Kinds) → has_kinds ks ≡ true → ks ≢ []
some_kinds ks some none = true≢false (sym some ∙ ap has_kinds none)

pub kinds_either : (a b : Kinds) → a ≢ [] → or_else a b ≢ []
kinds_either [] b some = absurd (some refl)
kinds_either (k ∷ ks) b some = some

pub kinds_later : (a b : Kinds) → b ≢ [] → or_else a b ≢ []
kinds_later [] b some = some
kinds_later (k ∷ ks) b some = some_kinds (k ∷ ks) refl

-- a first use
pub first_fault : (index : Option ℕ) (o : Opt) (value : Text) (rs : List Row) → has_row o.name rs ≡ false
    → use_fault false (rule_by index o.name o.has_value) (values_given o.has_value value) rs ≡ []
first_fault index o value rs none = go o.has_value
  where
    go : (b : Bool) → use_fault false (rule_by index o.name b) (values_given b value) rs ≡ []
    go true = rw none refl
    go false = rw none refl

pub first_rows : (index : Option ℕ) (o : Opt) (value : Text) (rs : List Row) → has_row o.name rs ≡ false
    → used (rule_by index o.name o.has_value) (values_given o.has_value value) rs ≡ rs ++ row (record { option = o; value = value }) ∷ []
first_rows index o value rs none = go o.has_value
  where
    end : (r : Row) (change : Row → List Row) → at_row o.name change (r ∷ []) (without o.name rs) ≡ rs ++ r ∷ []
    end r change =
        let whole : without o.name rs ≡ rs = at_end o.name (λ _. []) [] rs none ∙ append-nil rs in
        ap (at_row o.name change (r ∷ [])) whole ∙ at_end o.name change (r ∷ []) rs none

    go : (b : Bool) → used (rule_by index o.name b) (values_given b value) rs ≡ rs ++ row (record { option = record { name = o.name; has_value = b }; value = value }) ∷ []
    go true = end (one_more o.name true value) (more_values CommandLine (value ∷ []))
    go false = end (one_more o.name false value) (more_values CommandLine (codes "true" ∷ []))

-- a second use
pub second_fault : (index : Option ℕ) (o : Opt) (value : Text) (rs : List Row) → has_row o.name rs ≡ true
    → use_fault false (rule_by index o.name o.has_value) (values_given o.has_value value) rs ≢ []
second_fault index o value rs had = go o.has_value
  where
    go : (b : Bool) → use_fault false (rule_by index o.name b) (values_given b value) rs ≢ []
    go true = rw had (some_kinds _ refl)
    go false = rw had (some_kinds _ refl)
