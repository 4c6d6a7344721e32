-- What std reads of a text, in the words for numbers.
use Rattle.std.proofs.Common.{◌≡◌, ◌≢◌, ◌≤◌, ◌∙◌, ℕ, ◌+◌, ◌^◌, List, [], ◌∷◌, ◌++◌, length, drop, get_or, Result, Ok, Err, Some, None, Option, Bool, refl, sym, ap, arith, cond, ⊎_elim}
use Rattle.std.specs.Prelude.{true, false, nat_eq, nat_lt, ◌&&◌, codes}
use Rattle.std.specs.Char.{digit_value}
use Rattle.std.specs.List.{list_all, starts_with, position_or_len, before_first, after_first}
use Rattle.std.specs.Option.{option_and_then, option_map}
use Rattle.std.specs.Result.{result_ok}
use Rattle.std.specs.Str.Parse.{AllDigits, ParsesUnsigned, digits_value}
use Rattle.std.proofs.lemmas.Bool.{and_parts, cases_Bool, le-ltb, lt-ltb, ltb-true}
use Rattle.std.proofs.lemmas.Bool.Decides.{Decides-eqb}
use Rattle.std.proofs.lemmas.List.{drop_all}
use Rattle.std.proofs.lemmas.Slice.Eq.{starts_is}
use Rattle.std.proofs.lemmas.Str.Parse.{without_leading_plus_none}
use Rattle.f2_top.specs.Numbers.{is_numeral, numeral_of, number_of, end_of, is_tilde, range_of}

-- std's word for digits, and the test
all_digits : (base : ℕ) (text : List ℕ) → list_all (λ b. nat_lt (digit_value b) base) text ≡ true → AllDigits base text
all_digits base [] h = tt
all_digits base (c ∷ cs) h =
    let parts = and_parts (nat_lt (digit_value c) base) (list_all (λ b. nat_lt (digit_value b) base) cs) h in
    (ltb-true _ _ parts.0, all_digits base cs parts.1)

digits_all : (base : ℕ) (text : List ℕ) → AllDigits base text → list_all (λ b. nat_lt (digit_value b) base) text ≡ true
digits_all base [] h = refl
digits_all base (c ∷ cs) h = rw (lt-ltb (digit_value c) base h.0) (digits_all base cs h.1)

-- a test that fails
neither : (a b c : Bool) (x y : Option ℕ) → b ≡ false → cond ((a && b) && c) x y ≡ y
neither true b c x y not = ap (λ t. cond (t && c) x y) not
neither false b c x y not = refl

-- a sign is no digit
pub signed : (base : ℕ) (text : List ℕ) → base ≤ 16 → get_or text 0 0 ≡ 43 → numeral_of base text ≡ None
unfolding numeral_of
signed base [] high plus = absurd (omega (arith, plus))
signed base (c ∷ cs) high plus =
    let low : base ≤ digit_value 43 = omega arith in
    let other : list_all (λ b. nat_lt (digit_value b) base) (c ∷ cs) ≡ false = rw (plus, le-ltb (digit_value 43) base low) refl in
    neither (nat_lt 0 (length (c ∷ cs))) (list_all (λ b. nat_lt (digit_value b) base) (c ∷ cs)) (nat_lt (digits_value base (c ∷ cs)) (2 ^ 64)) (Some (digits_value base (c ∷ cs))) None other

-- what std reads of a text without a sign
pub reads : {E : Type 0} (base : ℕ) (text : List ℕ) (r : Result ℕ E) → get_or text 0 0 ≢ 43 → ParsesUnsigned 64 base text r → result_ok r ≡ numeral_of base text
unfolding numeral_of
reads base text (Ok n) plain h =
    let own = rw (without_leading_plus_none text plain) at h in
    rw (lt-ltb 0 (length text) own.0.0.0, digits_all base text own.0.0.1, lt-ltb (digits_value base text) (2 ^ 64) own.0.1) (ap (λ k. Some k) own.1)
reads base text (Err e) plain h =
    let own = rw (without_leading_plus_none text plain) at h in
    let test = is_numeral base text && nat_lt (digits_value base text) (2 ^ 64) in
    ⊎_elim (λ (is : test ≡ true).
    let parts = and_parts (is_numeral base text) (nat_lt (digits_value base text) (2 ^ 64)) is in
    let two = and_parts (nat_lt 0 (length text)) _ parts.0 in
    absurd (own ((ltb-true _ _ two.0, all_digits base text two.1), ltb-true _ _ parts.1)))
    (λ (not : test ≡ false). sym (ap (λ t. cond t (Some (digits_value base text)) None) not)) (cases_Bool test)

-- what stands after `0x`, and a text without it
pub prefixed : (text digits : List ℕ) (n : ℕ) → n ≡ 2 → text ≡ codes "0x" ++ drop n text → digits ≡ drop n text → numeral_of 16 digits ≡ number_of text
unfolding number_of
prefixed text digits n two is rest =
    let begins : starts_with nat_eq text (codes "0x") ≡ true = (starts_is Decides-eqb text (codes "0x") _ refl).1 (drop n text) is in
    ap (λ d. numeral_of 16 d) (rest ∙ ap (λ k. drop k text) two) ∙ sym (ap (λ t. cond t (numeral_of 16 (drop 2 text)) (numeral_of 10 text)) begins)

pub unprefixed : (text : List ℕ) → ((rest : List ℕ) → text ≢ codes "0x" ++ rest) → numeral_of 10 text ≡ number_of text
unfolding number_of
unprefixed text other =
    let test = starts_with nat_eq text (codes "0x") in
    ⊎_elim (λ (is : test ≡ true). absurd (other _ ((starts_is Decides-eqb text (codes "0x") _ refl).0 is)))
    (λ (not : test ≡ false). sym (ap (λ t. cond t (numeral_of 16 (drop 2 text)) (numeral_of 10 text)) not)) (cases_Bool test)

-- a text without a tilde is no range
no_end : end_of [] ≡ None
unfolding end_of number_of numeral_of
no_end = refl

no_range : (first : Option ℕ) (last : Option (Option ℕ)) → last ≡ None → option_and_then {U = ℕ × Option ℕ} (λ a. option_map (λ b. (a, b)) last) first ≡ None
no_range None last none = refl
no_range (Some a) last none = ap (λ l. option_map {U = ℕ × Option ℕ} (λ b. (a, b)) l) none

pub undivided : (text : List ℕ) → position_or_len is_tilde text ≡ length text → range_of text ≡ None
unfolding range_of
undivided text whole =
    let rest : after_first is_tilde text ≡ [] = drop_all (position_or_len is_tilde text + 1) text (omega arith) in
    no_range (number_of (before_first is_tilde text)) (end_of (after_first is_tilde text)) (ap end_of rest ∙ no_end)
