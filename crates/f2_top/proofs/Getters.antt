-- What clap's getters read is what the uses hold.
use Rattle.std.proofs.Common.{◌≡◌, ◌∙◌, ◌&&◌, ◌||◌, Bool, true, false, not, cond, refl, sym, ap, ap₂, List, [], ◌∷◌, ◌++◌, codes, Option, Some, None, is_some, option_map, find, fold, slice_get, true≢false, bytes_eq}
use Rattle.std.specs.Option.{option_and_then, option_map_or}
use Rattle.std.proofs.lemmas.Bool.{and_parts}
use Rattle.std.proofs.lemmas.Slice.Eq.{bytes_eq-Decides}
use Rattle.clap.specs.Matches.{found_of}
use Rattle.clap.specs.Values.{read_as}
use Rattle.clap.specs.Walk.{Row, first_of, one_of, reading_by, row_text, rows_of, with_default}
use Rattle.clap.specs.declared.parser.matches.ArgMatches.{ArgMatches}
use Rattle.clap.proofs.WalkLemmas.{first_value-rows, one_text-rows}
use Rattle.f2_top.specs.Words.{Text, Opt, Use, Grammar, is_used, uses_name, value_in}
use Rattle.f2_top.specs.Parser.{AreSpelled, Holds, IsNamed, IsPlainName}
use Rattle.f2_top.proofs.Spelling.{found_in, rule_by, rules_of}
use Rattle.f2_top.proofs.Used.{row, rows, text_of}
use Rattle.f2_top.proofs.Known.{Known, all_of, in_all}
use Rattle.f2_top.proofs.Defaults.{comes, is_no_flag, lookup, lookup-rows, stays, stays_none}

-- every option of this name has a value
all_valued : (xs : List Opt) (name : Text) (o : Opt) → found_in xs name ≡ Some o → is_no_flag name xs ≡ true → o.has_value ≡ true
all_valued [] name o e test = absurd (true≢false (sym (ap is_some e)))
all_valued (x ∷ xs) name o e test = go (bytes_eq x.name name) refl e (λ found. all_valued xs name o found (and_parts (x.has_value || not (bytes_eq x.name name)) _ test).1)
  where
    kept : (b : Bool) → (x.has_value || not b) ≡ true → b ≡ true → x.has_value ≡ true
    kept b h is = valued x.has_value (ap (λ t. x.has_value || not t) (sym is) ∙ h)
      where
        valued : (t : Bool) → (t || false) ≡ true → t ≡ true
        valued true e = refl
        valued false e = e

    go : (b : Bool) → bytes_eq x.name name ≡ b → cond b (Some x) (found_in xs name) ≡ Some o → (found_in xs name ≡ Some o → o.has_value ≡ true) → o.has_value ≡ true
    go true is e later = sym (ap (λ m. option_map_or (λ (y : Opt). y.has_value) m true) e) ∙ kept (bytes_eq x.name name) (and_parts (x.has_value || not (bytes_eq x.name name)) (is_no_flag name xs) test).0 is
    go false is e later = later e

front_valued : (xs ys : List Opt) (name : Text) → is_no_flag name (xs ++ ys) ≡ true → is_no_flag name xs ≡ true
front_valued [] ys name test = refl
front_valued (x ∷ xs) ys name test =
    let parts = and_parts (x.has_value || not (bytes_eq x.name name)) (is_no_flag name (xs ++ ys)) test in
    ap₂ (λ a b. a && b) parts.0 (front_valued xs ys name parts.1)

used-found : (name : Text) (uses : List Use) → is_used name uses ≡ is_some (find (uses_name name) uses)
used-found name [] = refl
used-found name (u ∷ us) = go (bytes_eq u.option.name name) (used-found name us)
  where
    go : (b : Bool) → is_used name us ≡ is_some (find (uses_name name) us) → (b || is_used name us) ≡ is_some (cond b (Some u) (find (uses_name name) us))
    go true e = refl
    go false e = e

module _ (os : List Opt) (p : Option Opt) (spelled : AreSpelled os) (plain : IsPlainName p) where
  -- the option of a use of this name
  known_found : (name : Text) (u : Use) (uses : List Use) → Known os p spelled plain uses → find (uses_name name) uses ≡ Some u → found_in (all_of os p) name ≡ Some u.option
  known_found name u [] known e = absurd (true≢false (sym (ap is_some e)))
  known_found name u (x ∷ xs) known e = go (bytes_eq x.option.name name) refl (known_found name u xs known.1) e
    where
      go : (b : Bool) → bytes_eq x.option.name name ≡ b → (find (uses_name name) xs ≡ Some u → found_in (all_of os p) name ≡ Some u.option)
          → cond b (Some x) (find (uses_name name) xs) ≡ Some u → found_in (all_of os p) name ≡ Some u.option
      go true is later e =
          ap (found_in (all_of os p)) (sym ((bytes_eq-Decides x.option.name name).0 is)) ∙ known.0 ∙ ap (option_map (λ (y : Use). y.option)) e
      go false is later e = later e

  valued_last : option_map_or (λ (o : Opt). o.has_value) p true ≡ true
  valued_last = go p plain
    where
      go : (q : Option Opt) → IsPlainName q → option_map_or (λ (o : Opt). o.has_value) q true ≡ true
      go None is = refl
      go (Some o) is = is.0

  values_read : (name : Text) (uses : List Use) → Known os p spelled plain uses → is_no_flag name (all_of os p) ≡ true
      → first_of name (fold with_default (rows uses) (rules_of os p)) ≡ value_in name uses
  values_read name uses known test = go (find (uses_name name) uses) refl
    where
      first : Option Row → Option Text
      first = option_and_then (λ r. slice_get r.values 0)

      go : (m : Option Use) → find (uses_name name) uses ≡ m → option_and_then (λ r. slice_get r.values 0) (lookup name (fold with_default (rows uses) (rules_of os p))) ≡ value_in name uses
      go None e =
          ap (option_and_then (λ r. slice_get r.values 0)) (stays_none p name os (rows uses) valued_last (front_valued os _ name test) (lookup-rows name uses ∙ ap (option_map row) e)) ∙ sym (ap (option_map (λ (u : Use). u.value)) e)
      go (Some u) e =
          ap (option_and_then (λ r. slice_get r.values 0)) (stays p name (row u) os (rows uses) (lookup-rows name uses ∙ ap (option_map row) e))
          ∙ ap (λ b. Some (text_of b u.value)) (all_valued (all_of os p) name u.option (known_found name u uses known e) test) ∙ sym (ap (option_map (λ (v : Use). v.value)) e)

  flags_read : (name : Text) (uses : List Use) → Known os p spelled plain uses → (f : Opt) → found_in os name ≡ Some f → f.has_value ≡ false
      → one_of name (fold with_default (rows uses) (rules_of os p)) ≡ Some (cond (is_used name uses) (codes "true") (codes "false"))
  flags_read name uses known f found is_flag = go (find (uses_name name) uses) refl
    where
      go : (m : Option Use) → find (uses_name name) uses ≡ m → option_and_then row_text (lookup name (fold with_default (rows uses) (rules_of os p))) ≡ Some (cond (is_used name uses) (codes "true") (codes "false"))
      go None e =
          ap (option_and_then row_text) (comes p name f os (rows uses) found is_flag (lookup-rows name uses ∙ ap (option_map row) e))
          ∙ sym (ap (λ b. Some (cond b (codes "true") (codes "false"))) (used-found name uses ∙ ap is_some e))
      go (Some u) e =
          let same : Some f ≡ Some u.option = sym (in_all os p spelled plain os name f found) ∙ known_found name u uses known e in
          let unvalued : u.option.has_value ≡ false = sym (ap (λ m. option_map_or (λ (y : Opt). y.has_value) m true) same) ∙ is_flag in
          ap (option_and_then row_text) (stays p name (row u) os (rows uses) (lookup-rows name uses ∙ ap (option_map row) e))
          ∙ ap (λ b. Some (read_as (reading_by (rule_by None u.option.name b)) (text_of b u.value))) unvalued
          ∙ sym (ap (λ b. Some (cond b (codes "true") (codes "false"))) (used-found name uses ∙ ap is_some e))

pub holds : (g : Grammar) (is : IsNamed g) (uses : List Use) (m : ArgMatches) → Known g.options g.positional is.spelled is.plain uses
    → rows_of (found_of m) ≡ fold with_default (rows uses) (rules_of g.options g.positional) → Holds g uses m
holds g is uses m known same = record {
  values = λ name test. first_value-rows (found_of m) name ∙ ap (first_of name) same ∙ values_read g.options g.positional is.spelled is.plain name uses known test;
  flags = λ name test. one_text-rows (found_of m) name ∙ ap (one_of name) same ∙ flag name (found_in g.options name) refl test;
}
  where
    unnot : (b : Bool) → not b ≡ true → b ≡ false
    unnot true e = sym e
    unnot false e = refl

    flag : (name : Text) (o : Option Opt) → found_in g.options name ≡ o → option_map_or (λ (x : Opt). not x.has_value) o false ≡ true
        → one_of name (fold with_default (rows uses) (rules_of g.options g.positional)) ≡ Some (cond (is_used name uses) (codes "true") (codes "false"))
    flag name None e test = absurd (true≢false (sym test))
    flag name (Some f) e test = flags_read g.options g.positional is.spelled is.plain name uses known f e (unnot f.has_value test)
