-- A parse by clap against the grammar.
use Rattle.std.proofs.Common.{◌≡◌, ◌≢◌, ◌∙◌, ℕ, ◌&&◌, ◌||◌, Bool, true, false, not, cond, refl, sym, ap, ap₂, List, [], ◌∷◌, drop, Option, Some, None, is_some, fold}
use Rattle.std.specs.List.{list_any}
use Rattle.clap.specs.Walk.{idle, Row, Rule, Walk, finished, nothing_held, settled, walk, with_default, has_row}
use Rattle.clap.specs.Simple.{App, argument_words, built, entered, matches_of, names_of}
use Rattle.clap.specs.Kinds.{Kinds, check_kinds, or_else}
use Rattle.clap.specs.Faults.{built_fault, check_fault, default_fault, defaults_fault, entered_fault, fault_of, settle_fault, walk_fault}
use Rattle.clap.specs.Takes.{is_given}
use Rattle.f2_top.specs.Words.{Text, Opt, Use, Grammar, between, uses_of}
use Rattle.f2_top.specs.Parser.{AreSpelled, IsPlainName}
use Rattle.f2_top.proofs.Spelling.{rule, rule_by, rules_of, positional_rules}
use Rattle.f2_top.proofs.Used.{kinds_either, rows, some_kinds}
use Rattle.f2_top.proofs.Turns.{AllUtf8, Verdict, faults, held, place, shape, stand, verdict}

-- ---- after the walk

nothing : (t : Bool) (ks : Kinds) → ks ≡ [] → cond t [] ks ≡ []
nothing true ks e = refl
nothing false ks e = e

default_one : (index : Option ℕ) (name : Text) (b : Bool) (rs : List Row) → default_fault rs (rule_by index name b) ≡ []
default_one index name true rs = nothing (has_row name rs || true) [] refl
default_one index name false rs = nothing (has_row name rs || false) [] refl

module _ (p : Option Opt) where
  default_all : (os : List Opt) (rs : List Row) → defaults_fault rs (rules_of os p) ≡ []
  unfolding defaults_fault
  default_all [] rs = last p
    where
      last : (q : Option Opt) → defaults_fault rs (positional_rules q) ≡ []
      last None = refl
      last (Some o) = ap (λ ks. or_else ks []) (default_one (Some 1) o.name o.has_value rs)
  default_all (o ∷ os) rs = ap₂ or_else (default_one None o.name o.has_value rs) (default_all os (with_default rs (rule o)))

  none_required : (os : List Opt) (rs : List Row) → list_any (λ a. a.required && not (is_given a.id rs)) (rules_of os p) ≡ false
  none_required [] rs = last p
    where
      last : (q : Option Opt) → list_any (λ a. a.required && not (is_given a.id rs)) (positional_rules q) ≡ false
      last None = refl
      last (Some o) = refl
  none_required (o ∷ os) rs = none_required os rs

module _ (title : Text) (os : List Opt) (p : Option Opt) (spelled : AreSpelled os) (plain : IsPlainName p) where
  abbrev pub c : List Rule
  c = rules_of os p

  abbrev pub grammar : Grammar
  grammar = record { options = os; positional = p }

  abbrev pub built_app : App
  built_app = record { top = shape title os p spelled plain; subs = [] }

  abbrev start : Walk
  start = stand (held [] None) idle 1 false

  starts : (q : Option Opt) → 1 ≡ place q []
  starts None = refl
  starts (Some o) = refl

  reading : (words : List Text) → AllUtf8 words → Verdict title os p spelled plain (uses_of grammar words) start words
  reading words utf8 = verdict title os p spelled plain words utf8 (between []) start (record {
    rs = [];
    pending = None;
    k = 1;
    is = refl;
    settles = record { fault = refl; rows_are = refl };
    at = starts p;
  })

  -- a fault of the words is one of the parse
  faulty : (words : List Text) → faults title os p spelled plain start words ≢ [] → built_fault built_app nothing_held words ≢ []
  faulty words some = go (walk_fault (shape title os p spelled plain) [] start words) (entered_fault built_app (walk c [] nothing_held words).stopped) some
    where
      go : (wf below : Kinds) → or_else wf (settle_fault c false (walk c [] nothing_held words).held) ≢ []
          → or_else wf (or_else below (or_else (settle_fault c false (walk c [] nothing_held words).held)
          (or_else (defaults_fault (settled c (walk c [] nothing_held words).held).rows c)
          (check_fault (shape title os p spelled plain) (finished c (walk c [] nothing_held words).held) (is_some (entered built_app (walk c [] nothing_held words).stopped)))))) ≢ []
      go [] [] h = kinds_either (settle_fault c false (walk c [] nothing_held words).held) _ h
      go [] (k ∷ ks) h = some_kinds _ refl
      go (k ∷ ks) below h = some_kinds _ refl

  neither : (a b : Kinds) → or_else a b ≡ [] → (a ≡ []) × (b ≡ [])
  neither [] b e = (refl, e)
  neither (k ∷ ks) b e = absurd (some_kinds (k ∷ ks) refl e)

  clear : (words : List Text) → faults title os p spelled plain start words ≡ [] → built_fault built_app nothing_held words ≡ []
  clear words none =
      let sf = settle_fault c false (walk c [] nothing_held words).held in
      let parts = neither (walk_fault (shape title os p spelled plain) [] start words) sf none in
      go (walk c [] nothing_held words).stopped (walk_fault (shape title os p spelled plain) [] start words) sf parts.0 parts.1
    where
      rest : Bool → Kinds
      rest any = or_else (defaults_fault (settled c (walk c [] nothing_held words).held).rows c) (check_kinds false false any)

      go : (stop : Option (Text × List Text)) (wf sf : Kinds) → wf ≡ [] → sf ≡ []
          → or_else wf (or_else (entered_fault built_app stop) (or_else sf (or_else (defaults_fault (settled c (walk c [] nothing_held words).held).rows c)
          (check_fault (shape title os p spelled plain) (finished c (walk c [] nothing_held words).held) (is_some (entered built_app stop)))))) ≡ []
      go None wf sf a b = λ i. or_else (a i) (or_else (b i) (or_else (default_all p os (settled c (walk c [] nothing_held words).held).rows i) (check_kinds false false (none_required p os (finished c (walk c [] nothing_held words).held) i))))
      go (Some q) wf sf a b = λ i. or_else (a i) (or_else (b i) (or_else (default_all p os (settled c (walk c [] nothing_held words).held).rows i) (check_kinds false false (none_required p os (finished c (walk c [] nothing_held words).held) i))))

  -- what clap's command says to the words, and the grammar
  pub data Agrees (a : App) (words : List Text) : Type 0 where
    refused : uses_of grammar (drop 1 words) ≡ None → fault_of a words ≢ [] → Agrees a words
    given : (uses : List Use) → uses_of grammar (drop 1 words) ≡ Some uses → fault_of a words ≡ [] → matches_of a words ≡ fold with_default (rows uses) c → Agrees a words

  pub agrees : (a : App) → built a ≡ built_app → a.top.no_binary_name ≡ false → (words : List Text) → AllUtf8 (drop 1 words) → Agrees a words
  agrees a is binary words utf8 = go (uses_of grammar (drop 1 words)) refl (reading (drop 1 words) utf8)
    where
      after : argument_words a words ≡ drop 1 words
      after = ap (λ b. cond b words (drop 1 words)) binary

      fault : fault_of a words ≡ built_fault built_app nothing_held (drop 1 words)
      fault = ap₂ (λ (x : App) (ws : List Text). built_fault x nothing_held ws) is after

      go : (m : Option (List Use)) → uses_of grammar (drop 1 words) ≡ m → Verdict title os p spelled plain m start (drop 1 words) → Agrees a words
      go None e v = refused e (λ none. faulty (drop 1 words) v (sym fault ∙ none))
      go (Some uses) e v = given uses e (fault ∙ clear (drop 1 words) v.0)
          (ap₂ (λ (x : App) (ws : List Text). finished x.top.rules (walk x.top.rules (names_of x) nothing_held ws).held) is after ∙ ap (λ rs. fold with_default rs c) v.1)
