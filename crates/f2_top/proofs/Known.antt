-- The options that the grammar reads of words are its own.
use Rattle.std.proofs.Common.{◌≡◌, ◌∙◌, Bool, true, false, cond, refl, sym, ap, subst, List, [], ◌∷◌, ◌++◌, Option, Some, None, is_some, option_map, true≢false, bytes_eq, codes, drop}
use Rattle.std.specs.List.{list_any, before_first, after_first}
use Rattle.std.specs.Option.{option_and_then}
use Rattle.std.proofs.lemmas.Slice.Eq.{bytes_eq-Decides}
use Rattle.f2_top.specs.Words.{Text, Opt, Use, Grammar, Reading, between, waits, trailing, is_used, with_use, long_use, letter_use, letters_read, positional_use, next_read, ended, read_from, behind, is_equals, is_empty, is_dashed, is_long}
use Rattle.f2_top.specs.Parser.{AreSpelled, IsPlainName, alone}
use Rattle.f2_top.proofs.Spelling.{found_in, found_name, other_name}
use Rattle.f2_top.proofs.Used.{with_one}

-- each option of the tool, and its positional
abbrev pub all_of : List Opt → Option Opt → List Opt
all_of os p = os ++ alone p

module _ (os : List Opt) (p : Option Opt) (spelled : AreSpelled os) (plain : IsPlainName p) where
  abbrev g : Grammar
  g = record { options = os; positional = p }

  abbrev pub IsKnown : Opt → Type 0
  IsKnown o = found_in (all_of os p) o.name ≡ Some o

  abbrev pub Known : List Use → Type 0
  Known [] = Unit {0}
  Known (u ∷ us) = IsKnown u.option × Known us

  abbrev pub KnownIfSome : Option (List Use) → Type 0
  KnownIfSome None = Unit {0}
  KnownIfSome (Some us) = Known us

  abbrev KnownReading : Reading → Type 0
  KnownReading (between us) = Known us
  KnownReading (waits us o) = Known us × IsKnown o
  KnownReading (trailing us) = Known us

  abbrev KnownNext : Option Reading → Type 0
  KnownNext None = Unit {0}
  KnownNext (Some r) = KnownReading r

  abbrev KnownOpt : Option Opt → Type 0
  KnownOpt None = Unit {0}
  KnownOpt (Some o) = IsKnown o

  pub in_all : (xs : List Opt) (text : Text) (o : Opt) → found_in xs text ≡ Some o → found_in (xs ++ alone p) text ≡ Some o
  in_all [] text o e = absurd (true≢false (sym (ap is_some e)))
  in_all (x ∷ xs) text o e = go (bytes_eq x.name text) (in_all xs text o) e
    where
      go : (b : Bool) → (found_in xs text ≡ Some o → found_in (xs ++ alone p) text ≡ Some o) → cond b (Some x) (found_in xs text) ≡ Some o
          → cond b (Some x) (found_in (xs ++ alone p) text) ≡ Some o
      go true later e = e
      go false later e = later e

  known_option : (text : Text) → KnownOpt (found_in os text)
  known_option text = go (found_in os text) refl
    where
      go : (m : Option Opt) → found_in os text ≡ m → KnownOpt m
      go None e = tt
      go (Some o) e = ap (found_in (all_of os p)) (found_name os text o e) ∙ in_all os text o e

  last_in : (o : Opt) → IsPlainName (Some o) → (xs : List Opt) → AreSpelled xs → found_in (xs ++ o ∷ []) o.name ≡ Some o
  last_in o named [] h = ap (λ b. cond b (Some o) None) ((bytes_eq-Decides o.name o.name).1 refl)
  last_in o named (x ∷ xs) h =
      let miss : bytes_eq x.name o.name ≡ false = ap (bytes_eq x.name) named.1.2 ∙ other_name named.1.0 named.1.1 x named.1.3 h.0 in
      ap (λ b. cond b (Some x) (found_in (xs ++ o ∷ []) o.name)) miss ∙ last_in o named xs h.1

  known_positional : KnownOpt p
  known_positional = go p refl plain
    where
      go : (q : Option Opt) → p ≡ q → IsPlainName q → KnownOpt q
      go None e named = tt
      go (Some o) e named = subst (λ q. found_in (all_of os q) o.name ≡ Some o) (sym e) (last_in o named os spelled)

  known_more : (us : List Use) (o : Opt) (v : Text) → Known us → IsKnown o → Known (with_one us o v)
  known_more [] o v h is = (is, tt)
  known_more (u ∷ us) o v h is = (h.0, known_more us o v h.1 is)

  known_use : (us : List Use) (o : Opt) (v : Text) → Known us → IsKnown o → KnownIfSome (with_use us o v)
  known_use us o v h is = go (is_used o.name us)
    where
      go : (b : Bool) → KnownIfSome (cond b None (Some (with_one us o v)))
      go true = tt
      go false = known_more us o v h is

  by_test : (b : Bool) (x y : Option Reading) → KnownNext x → KnownNext y → KnownNext (cond b x y)
  by_test true x y h k = h
  by_test false x y h k = k

  known_between : (m : Option (List Use)) → KnownIfSome m → KnownNext (option_map between m)
  known_between None h = tt
  known_between (Some us) h = h

  known_trailing : (m : Option (List Use)) → KnownIfSome m → KnownNext (option_map trailing m)
  known_trailing None h = tt
  known_trailing (Some us) h = h

  known_long : (us : List Use) → Known us → (e : Bool) (v : Text) (m : Option Opt) → KnownOpt m → KnownNext (option_and_then (λ o. long_use us o e v) m)
  known_long us h e v None is = tt
  known_long us h e v (Some o) is = by_test o.has_value _ _ (by_test e _ _ (known_between _ (known_use us o v h is)) (h, is)) (by_test e _ _ tt (known_between _ (known_use us o [] h is)))

  known_letter : (us : List Use) → Known us → (rest : Text) → ((more : List Use) → Known more → KnownNext (letters_read g more rest)) → (m : Option Opt) → KnownOpt m
      → KnownNext (option_and_then (λ o. letter_use us o rest (λ more. letters_read g more rest)) m)
  known_letter us h rest next None is = tt
  known_letter us h rest next (Some o) is = by_test o.has_value _ _ (by_test (is_empty rest) _ _ (h, is) (known_between _ (known_use us o (behind rest) h is))) (later (with_use us o []) (known_use us o [] h is))
    where
      later : (m : Option (List Use)) → KnownIfSome m → KnownNext (option_and_then (λ more. letters_read g more rest) m)
      later None k = tt
      later (Some more) k = next more k

  known_letters : (flags : Text) (us : List Use) → Known us → KnownNext (letters_read g us flags)
  unfolding letters_read
  known_letters [] us h = h
  known_letters (b ∷ rest) us h = known_letter us h rest (λ more k. known_letters rest more k) (found_in os (45 ∷ b ∷ [])) (known_option (45 ∷ b ∷ []))

  known_single : (us : List Use) → Known us → (word : Text) → KnownIfSome (positional_use g us word)
  known_single us h word = go p known_positional
    where
      go : (m : Option Opt) → KnownOpt m → KnownIfSome (option_and_then (λ o. with_use us o word) m)
      go None is = tt
      go (Some o) is = known_use us o word h is

  known_next : (r : Reading) → KnownReading r → (word : Text) → KnownNext (next_read g r word)
  known_next (between us) h word =
      let long = option_and_then (λ o. long_use us o (list_any is_equals word) (after_first is_equals word)) (found_in os (before_first is_equals word)) in
      let single = option_map between (positional_use g us word) in
      let other = cond (is_dashed word) (letters_read g us (drop 1 word)) single in
      by_test (bytes_eq word (codes "--")) (Some (trailing us)) (cond (is_long word) long other) h
      (by_test (is_long word) long other (known_long us h (list_any is_equals word) (after_first is_equals word) (found_in os (before_first is_equals word)) (known_option (before_first is_equals word)))
      (by_test (is_dashed word) (letters_read g us (drop 1 word)) single (known_letters (drop 1 word) us h) (known_between (positional_use g us word) (known_single us h word))))
  known_next (waits us o) h word = by_test (is_dashed word) None (option_map between (with_use us o word)) tt (known_between (with_use us o word) (known_use us o word h.0 h.1))
  known_next (trailing us) h word = known_trailing (positional_use g us word) (known_single us h word)

  known_ended : (r : Reading) → KnownReading r → KnownIfSome (ended r)
  known_ended (between us) h = h
  known_ended (waits us o) h = tt
  known_ended (trailing us) h = h

  pub known_from : (words : List Text) (r : Reading) → KnownReading r → KnownIfSome (read_from g r words)
  unfolding read_from
  known_from [] r h = known_ended r h
  known_from (word ∷ words) r h = go (next_read g r word) (known_next r h word) (λ next k. known_from words next k)
    where
      go : (m : Option Reading) → KnownNext m → ((next : Reading) → KnownReading next → KnownIfSome (read_from g next words)) → KnownIfSome (option_and_then (λ next. read_from g next words) m)
      go None k later = tt
      go (Some next) k later = later next k
