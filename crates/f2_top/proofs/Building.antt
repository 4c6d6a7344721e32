-- What clap's building makes of the command of a grammar.
use Rattle.std.proofs.Common.{◌≡◌, ◌∙◌, ℕ, ◌&&◌, Bool, true, false, not, cond, nat_eq, refl, sym, ap, ap₂, List, [], ◌∷◌, ◌++◌, map, Option, Some, None, is_some, count_by}
use Rattle.std.specs.List.{list_any, list_all}
use Rattle.clap.specs.Walk.{Rule, is_early_multiple}
use Rattle.clap.specs.Simple.{App, built, filled, filled_from, index_after, is_ready, is_ready_leaf, wants_index, with_index}
use Rattle.clap.specs.Faults.{is_free_app, is_simple_and_free}
use Rattle.f2_top.specs.Words.{Text, Opt, Grammar}
use Rattle.f2_top.specs.Parser.{AreSpelled, IsNamed, IsPlainName, IsSpelled, letter, long, alone, app_of_grammar, asked_rule}
use Rattle.f2_top.proofs.Spelling.{differ, positional_rules, rule, rule_by, rules_of}
use Rattle.f2_top.proofs.Parsed.{built_app}

filled_is : (name : Text) (b : Bool) → filled (asked_rule (record { name = name; has_value = b })) ≡ rule_by None name b
filled_is name true = refl
filled_is name false = refl

spelled_index : (o : Opt) → IsSpelled o → wants_index (rule o) ≡ false
spelled_index o (letter x name other low) = rw name (rw other refl)
spelled_index o (long y ys name) = rw name refl

asked_index : (o : Opt) → IsSpelled o → wants_index (asked_rule o) ≡ false
asked_index o (letter x name other low) = rw name (rw other refl)
asked_index o (long y ys name) = rw name refl

turned : (c : ℕ) → nat_eq 45 c ≡ false → nat_eq c 45 ≡ false
turned c e = differ c 45 (λ same. let bad : nat_eq 45 45 ≡ false = ap (nat_eq 45) (sym same) ∙ e in cc)

plain_index : (o : Opt) → IsPlainName (Some o) → wants_index (rule o) ≡ true
plain_index o is = rw is.1.2 (rw (turned is.1.0 is.1.3) refl)

last_filled : (p : Option Opt) → IsPlainName p → filled_from 1 (map asked_rule (alone p)) ≡ positional_rules p
last_filled None is = refl
last_filled (Some o) is =
    ap (λ r. with_index 1 r ∷ []) (filled_is o.name o.has_value) ∙ ap (λ b. record (rule o) { index = cond b (Some 1) None } ∷ []) (plain_index o is)

all_filled : (p : Option Opt) → IsPlainName p → (os : List Opt) → AreSpelled os → filled_from 1 (map asked_rule (os ++ alone p)) ≡ rules_of os p
all_filled p is [] h = last_filled p is
all_filled p is (o ∷ os) h =
    ap (λ r. with_index 1 r ∷ filled_from (index_after 1 (asked_rule o)) (map asked_rule (os ++ alone p))) (filled_is o.name o.has_value)
    ∙ ap₂ (λ b i. record (rule o) { index = cond b (Some 1) None } ∷ filled_from (cond i 2 1) (map asked_rule (os ++ alone p))) (spelled_index o h.0) (asked_index o h.0)
    ∙ ap (λ rs. rule o ∷ rs) (all_filled p is os h.1)

pub built_is : (title : Text) (g : Grammar) (is : IsNamed g) → built (app_of_grammar title g) ≡ built_app title g.options g.positional is.spelled is.plain
built_is title g is = ap (λ rs. record (built_app title g.options g.positional is.spelled is.plain) { top = record (built_app title g.options g.positional is.spelled is.plain).top { rules = rs } }) (all_filled g.positional is.plain g.options is.spelled)

-- ---- the command is simple

simple_asked : (os : List Opt) → list_all (λ a. a.is_simple) (map asked_rule os) ≡ true
simple_asked [] = refl
simple_asked (o ∷ os) = simple_asked os

simple_built : (p : Option Opt) (os : List Opt) → list_all (λ a. a.is_simple) (rules_of os p) ≡ true
simple_built None [] = refl
simple_built (Some o) [] = refl
simple_built p (o ∷ os) = simple_built p os

free_built : (p : Option Opt) (os : List Opt) → list_all (λ a. a.is_free) (rules_of os p) ≡ true
free_built None [] = refl
free_built (Some o) [] = refl
free_built p (o ∷ os) = free_built p os

none_early : (n : ℕ) (p : Option Opt) (os : List Opt) → list_any (is_early_multiple n) (rules_of os p) ≡ false
none_early n None [] = refl
none_early n (Some o) [] = go o.name o.has_value
  where
    go : (name : Text) (b : Bool) → list_any (is_early_multiple n) (rule_by (Some 1) name b ∷ []) ≡ false
    go name true = refl
    go name false = refl
none_early n p (o ∷ os) = none_early n p os

pub simple_is : (title : Text) (g : Grammar) → IsNamed g → is_simple_and_free (app_of_grammar title g) ≡ true
simple_is title g is =
    let own = built_app title g.options g.positional is.spelled is.plain in
    let made = built_is title g is in
    let rules = g.options ++ alone g.positional in
    let ready : is_ready own.top ≡ true = ap₂ (λ a b. a && not b) (simple_built g.positional g.options) (none_early (count_by (λ (a : Rule). is_some a.index) own.top.rules) g.positional g.options) in
    ap₂ (λ (a : Bool) (b : Bool). a && b)
    (ap₂ (λ (a : Bool) (x : App). (a && true) && (is_ready x.top && list_all is_ready_leaf x.subs)) (simple_asked rules) made ∙ ap (λ b. b && true) ready)
    (ap is_free_app made ∙ ap (λ b. b && true) (free_built g.positional g.options))
