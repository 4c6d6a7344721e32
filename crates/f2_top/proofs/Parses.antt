-- What a parse of a grammar's command gives.
use Rattle.std.proofs.Common.{◌≡◌, ◌≢◌, ◌∙◌, ⊎_elim, refl, subst, List, [], ◌∷◌, map, drop, Some, None, String, string_bytes}
use Rattle.std.proofs.lemmas.Str.{IsUtf8-string_bytes}
use Rattle.clap.specs.Kinds.{HasKind, IsAmong}
use Rattle.clap.specs.Faults.{fault_of}
use Rattle.clap.specs.Simple.{HasMatchesOf}
use Rattle.clap.specs.Values.{kind_of}
use Rattle.clap.specs.declared.error.Error.{Error}
use Rattle.clap.specs.declared.error.kind.ErrorKind.TheVariants.{OutOfMemory}
use Rattle.clap.specs.declared.parser.matches.ArgMatches.{ArgMatches}
use Rattle.std.proofs.lemmas.Bool.{and_parts}
use Rattle.f2_top.specs.Words.{Text, Grammar, Use, uses_of, between}
use Rattle.f2_top.specs.Parser.{Holds, IsNamed, app_of_grammar}
use Rattle.f2_top.proofs.Building.{built_is, simple_is}
use Rattle.f2_top.proofs.Getters.{holds}
use Rattle.f2_top.proofs.Known.{Known, KnownIfSome, known_from}
use Rattle.f2_top.proofs.Parsed.{Agrees, agrees, given, refused}
use Rattle.f2_top.proofs.Turns.{AllUtf8}

module _ {Z : Type 0} where
  texts_utf8 : (xs : List (String Z)) → AllUtf8 (map string_bytes xs)
  texts_utf8 [] = tt
  texts_utf8 (x ∷ xs) = (IsUtf8-string_bytes x, texts_utf8 xs)

  pub rest_utf8 : (xs : List (String Z)) → AllUtf8 (drop 1 (map string_bytes xs))
  rest_utf8 [] = tt
  rest_utf8 (x ∷ xs) = texts_utf8 xs

module _ (title : Text) (g : Grammar) (is : IsNamed g) (words : List Text) (utf8 : AllUtf8 (drop 1 words)) where
  both : Agrees title g.options g.positional is.spelled is.plain (app_of_grammar title g) words
  both = agrees title g.options g.positional is.spelled is.plain (app_of_grammar title g) (built_is title g is) refl words utf8

  known_uses : (uses : List Use) → uses_of g (drop 1 words) ≡ Some uses → Known g.options g.positional is.spelled is.plain uses
  known_uses uses e = subst (KnownIfSome g.options g.positional is.spelled is.plain) e (known_from g.options g.positional is.spelled is.plain (drop 1 words) (between []) tt)

  pub parse_given : (m : ArgMatches) → HasMatchesOf (app_of_grammar title g) words m → fault_of (app_of_grammar title g) words ≡ []
      → (uses : List Use) × (uses_of g (drop 1 words) ≡ Some uses) × Holds g uses m
  parse_given m has none = go both
    where
      go : Agrees title g.options g.positional is.spelled is.plain (app_of_grammar title g) words → (uses : List Use) × (uses_of g (drop 1 words) ≡ Some uses) × Holds g uses m
      go (refused e some) = absurd (some none)
      go (given uses e fault rows) = (uses, e, holds g is uses m (known_uses uses e) ((has (and_parts _ _ (simple_is title g is)).0).0 ∙ rows))

  pub parse_refused : (e : Error) → HasKind (fault_of (app_of_grammar title g) words) e → kind_of e ≢ OutOfMemory → uses_of g (drop 1 words) ≡ None
  parse_refused e has other = go both
    where
      go : Agrees title g.options g.positional is.spelled is.plain (app_of_grammar title g) words → uses_of g (drop 1 words) ≡ None
      go (refused none some) = none
      go (given uses is fault rows) = ⊎_elim (λ memory. absurd (other memory)) (λ among. absurd (subst (λ ks. IsAmong (kind_of e) ks) fault among)) has
