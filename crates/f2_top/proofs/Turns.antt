-- What one word does to clap's walk, and what the grammar reads of it.
use Rattle.std.proofs.Common.{◌≡◌, ◌≢◌, ◌∙◌, ◌⊎◌, inl, inr, ⊎_elim, ℕ, suc, ◌+◌, ◌&&◌, ◌||◌, Bool, true, false, cond, nat_eq, nat_lt, ◌==◌, refl, sym, ap, ap₂, subst, arith, List, [], ◌∷◌, ◌++◌, length, Option, Some, None, is_some, option_map, fold, bytes_eq, IsUtf8, drop, take, encode_utf8}
use Rattle.std.specs.List.{list_any, before_first, after_first, position_or_len}
use Rattle.std.specs.Option.{option_and_then, option_map_or}
use Rattle.std.proofs.lemmas.Slice.Eq.{bytes_eq-Decides}
use Rattle.clap.specs.Lexer.{name_and_value}
use Rattle.clap.specs.Walk.{Held, Outcome, Row, is_multiple, most_values, next_position, option_word, pending_count, positional, pushed, takes_values, used_by_id, attached_value, option_met, short_met, Rule, Step, Waiting, Walk, after_flag, after_step, arg_by_id, arg_by_index, arg_by_long, arg_by_short, bundle_met, done, plain as plain_outcome, has_row, idle, is_pending, long_met, option, reacted, settled, settled_rows, takes_several, to_positional, used, value, waits as option_waits, walked}
use Rattle.clap.specs.Simple.{Shape, new_shape}
use Rattle.clap.specs.Kinds.{Kinds, or_else}
use Rattle.clap.specs.declared.error.kind.ErrorKind.TheVariants.{TooManyValues}
use Rattle.clap.specs.Faults.{positional_fault, stray_fault, flags_fault, option_fault, short_fault, long_fault, react_fault, settle_fault, step_fault, turn_fault, use_fault, walk_fault}
use Rattle.f2_top.specs.Words.{is_equals, Text, Opt, Use, Grammar, Reading, between, waits, trailing, is_used, with_use, next_read, read_from, ended, letters_read, letter_use, behind, long_use, positional_use}
use Rattle.f2_top.specs.Parser.{AreSpelled, IsPlainName, IsSpelled}
use Rattle.f2_top.proofs.Spelling.{Kind, empty, plain as plain_word, dash, dashes, long_word, letters, kind, by_letter, by_long, by_name, by_place, by_plain_name, found_in, found_name, no_high, positional_rule, positional_rules, rule, rule_by, rules_of, other_name}
use Rattle.f2_top.proofs.Letters.{First, low, high, first, any_fault, letter_fault, letter_met, any_met, no_flags_fault, no_flags_met, tail_utf8}
use Rattle.f2_top.proofs.Used.{first_fault, first_rows, has_row-rows, has_kinds, kinds_either, kinds_later, row, rows, second_fault, some_kinds, values_given, with_one}

abbrev pub held : List Row → Option (Text × List Text) → Held
held rs pending = record { rows = rs; pending = pending; skip = 0 }

abbrev pub stand : Held → Waiting → ℕ → Bool → Walk
stand h waiting k t = record { held = h; waiting = waiting; position = k; is_trailing = t; stopped = None }

-- the place of the next positional word
abbrev pub place : Option Opt → List Use → ℕ
place None uses = 1
place (Some o) uses = cond (is_used o.name uses) 2 1

abbrev pub read_by : Bool → List Use → Reading
read_by true uses = trailing uses
read_by false uses = between uses

and_false : (b : Bool) → (b && false) ≡ false
and_false true = refl
and_false false = refl

-- one more use
pub is_used-more : (name : Text) (uses : List Use) (o : Opt) (v : Text) → is_used name (with_one uses o v) ≡ (is_used name uses || bytes_eq o.name name)
is_used-more name [] o v = go (bytes_eq o.name name)
  where
    go : (b : Bool) → (b || false) ≡ b
    go true = refl
    go false = refl
is_used-more name (u ∷ us) o v = go (bytes_eq u.option.name name) (is_used-more name us o v)
  where
    go : (b : Bool) → is_used name (with_one us o v) ≡ (is_used name us || bytes_eq o.name name)
        → (b || is_used name (with_one us o v)) ≡ ((b || is_used name us) || bytes_eq o.name name)
    go true e = refl
    go false e = e

is_used-other : (name : Text) (uses : List Use) (o : Opt) (v : Text) → bytes_eq o.name name ≡ false → is_used name (with_one uses o v) ≡ is_used name uses
is_used-other name uses o v other = is_used-more name uses o v ∙ ap (λ b. is_used name uses || b) other ∙ go (is_used name uses)
  where
    go : (b : Bool) → (b || false) ≡ b
    go true = refl
    go false = refl

is_used-same : (name : Text) (uses : List Use) (o : Opt) (v : Text) → o.name ≡ name → is_used name (with_one uses o v) ≡ true
is_used-same name uses o v same = is_used-more name uses o v ∙ ap (λ b. is_used name uses || b) ((bytes_eq-Decides o.name name).1 same) ∙ go (is_used name uses)
  where
    go : (b : Bool) → (b || true) ≡ true
    go true = refl
    go false = refl

abbrev SpelledIfSome : Option Opt → Type 0
SpelledIfSome None = Unit {0}
SpelledIfSome (Some o) = IsSpelled o

found_spelled : (os : List Opt) (text : Text) (o : Opt) → AreSpelled os → found_in os text ≡ Some o → IsSpelled o
found_spelled os text o spelled e = subst SpelledIfSome e (all os spelled)
  where
    step : (b : Bool) (x : Opt) (m : Option Opt) → IsSpelled x → SpelledIfSome m → SpelledIfSome (cond b (Some x) m)
    step true x m is rest = is
    step false x m is rest = rest

    all : (xs : List Opt) → AreSpelled xs → SpelledIfSome (found_in xs text)
    all [] h = tt
    all (x ∷ xs) h = step (bytes_eq x.name text) x (found_in xs text) h.0 (all xs h.1)

-- a spelled option is no positional
pub place-other : (p : Option Opt) (uses : List Use) (o : Opt) (v : Text) → IsPlainName p → IsSpelled o → place p (with_one uses o v) ≡ place p uses
place-other None uses o v plain spelled = refl
place-other (Some x) uses o v plain spelled =
    let miss : bytes_eq o.name x.name ≡ false = ap (bytes_eq o.name) plain.1.2 ∙ other_name plain.1.0 plain.1.1 o plain.1.3 spelled in
    ap (λ b. cond b 2 1) (is_used-other x.name uses o v miss)

abbrev pub AllUtf8 : List Text → Type 0
AllUtf8 [] = Unit {0}
AllUtf8 (word ∷ words) = IsUtf8 word × AllUtf8 words

module _ (title : Text) (os : List Opt) (p : Option Opt) (spelled : AreSpelled os) (plain : IsPlainName p) where
  abbrev pub c : List Rule
  c = rules_of os p

  abbrev pub grammar : Grammar
  grammar = record { options = os; positional = p }

  abbrev pub shape : Shape
  shape = record (new_shape title) { rules = c; disable_help_flag = true; disable_help_subcommand = true; is_built = true }

  -- what is held comes to these uses
  pub record Settles (rs : List Row) (pending : Option (Text × List Text)) (uses : List Use) : Type 0 where
    pub fault : settle_fault c false (held rs pending) ≡ []
    pub rows_are : settled_rows c pending rs ≡ rows uses

  pub record Stays (t : Bool) (uses : List Use) (w : Walk) : Type 0 where
    pub rs : List Row
    pub pending : Option (Text × List Text)
    pub k : ℕ
    pub is : w ≡ stand (held rs pending) idle k t
    pub settles : Settles rs pending uses
    pub at : k ≡ place p uses

  pub record Waits (uses : List Use) (o : Opt) (w : Walk) : Type 0 where
    pub rs : List Row
    pub k : ℕ
    pub is : w ≡ stand (held rs (Some (o.name, []))) (option o.name) k false
    pub rows_are : rs ≡ rows uses
    pub found : found_in os o.name ≡ Some o
    pub valued : o.has_value ≡ true
    pub at : k ≡ place p uses

  -- the walk stands as the reading does
  abbrev pub Stands : Reading → Walk → Type 0
  Stands (between uses) w = Stays false uses w
  Stands (waits uses o) w = Waits uses o w
  Stands (trailing uses) w = Stays true uses w

  -- a use that fails will be met
  pub data Doomed (w : Walk) : Type 0 where
    idles : (rs : List Row) → (pending : Option (Text × List Text)) → (k : ℕ) → w ≡ stand (held rs pending) idle k false
        → settle_fault c false (held rs pending) ≢ [] → Doomed w
    trails : (rs : List Row) → (pending : Option (Text × List Text)) → (waiting : Waiting) → (k : ℕ) → w ≡ stand (held rs pending) waiting k true
        → settle_fault c false (held rs pending) ≢ [] → Doomed w

  abbrev pub After : Option Reading → Kinds → Walk → Type 0
  After None f w = (f ≢ []) ⊎ Doomed w
  After (Some r) f w = (f ≡ []) × Stands r w

  -- ---- one use

  abbrev pub UseOf : Option ℕ → Opt → Text → List Row → List Use → Option (List Use) → Type 0
  UseOf index o v rs uses None = use_fault false (rule_by index o.name o.has_value) (values_given o.has_value v) rs ≢ []
  UseOf index o v rs uses (Some more) = (use_fault false (rule_by index o.name o.has_value) (values_given o.has_value v) rs ≡ [])
      × (used (rule_by index o.name o.has_value) (values_given o.has_value v) rs ≡ rows more) × (more ≡ with_one uses o v)

  pub use_of : (index : Option ℕ) (o : Opt) (v : Text) (rs : List Row) (uses : List Use) → rs ≡ rows uses → UseOf index o v rs uses (with_use uses o v)
  use_of index o v rs uses same = go (is_used o.name uses) (ap (has_row o.name) same ∙ has_row-rows o.name uses)
    where
      more : (us : List Use) → rows us ++ row (record { option = o; value = v }) ∷ [] ≡ rows (with_one us o v)
      more [] = refl
      more (u ∷ us) = ap (λ l. row u ∷ l) (more us)

      go : (b : Bool) → has_row o.name rs ≡ b → UseOf index o v rs uses (cond b None (Some (with_one uses o v)))
      go true had = second_fault index o v rs had
      go false none = (first_fault index o v rs none, first_rows index o v rs none ∙ ap (λ l. l ++ row (record { option = o; value = v }) ∷ []) same ∙ more uses, refl)

  abbrev pub Reacts : Opt → Text → Held → List Use → Option (List Use) → Type 0
  Reacts o v h uses None = react_fault c false (rule o) (values_given o.has_value v) h ≢ []
  Reacts o v h uses (Some more) = (react_fault c false (rule o) (values_given o.has_value v) h ≡ [])
      × (used (rule o) (values_given o.has_value v) (settled c h).rows ≡ rows more) × (more ≡ with_one uses o v)

  pub reacts : (o : Opt) (v : Text) (rs : List Row) (pending : Option (Text × List Text)) (uses : List Use) → Settles rs pending uses
      → Reacts o v (held rs pending) uses (with_use uses o v)
  reacts o v rs pending uses s = go (with_use uses o v) (use_of None o v (settled_rows c pending rs) uses s.rows_are)
    where
      go : (m : Option (List Use)) → UseOf None o v (settled_rows c pending rs) uses m → Reacts o v (held rs pending) uses m
      go None h = kinds_later (settle_fault c false (held rs pending)) _ h
      go (Some more) h = (ap₂ or_else s.fault h.0, h.1, h.2)

  -- after a use nothing is pending
  pub settled_by : (o : Opt) (v : Text) (rs : List Row) (pending : Option (Text × List Text)) (more : List Use)
      → used (rule o) (values_given o.has_value v) (settled c (held rs pending)).rows ≡ rows more
      → Settles (used (rule o) (values_given o.has_value v) (settled_rows c pending rs)) None more
  settled_by o v rs pending more are = record { fault = refl; rows_are = are }

  pub place_after : (k : ℕ) (uses more : List Use) (o : Opt) (v text : Text) → k ≡ place p uses → found_in os text ≡ Some o → more ≡ with_one uses o v → k ≡ place p more
  place_after k uses more o v text at found is = at ∙ sym (place-other p uses o v plain (found_spelled os text o spelled found)) ∙ ap (place p) (sym is)

  or_nothing : (ks : Kinds) → or_else ks [] ≡ ks
  or_nothing [] = refl
  or_nothing (k ∷ ks) = refl

  -- ---- a long word

  abbrev pub IsFound : Option Opt → Type 0
  IsFound None = Unit {0}
  IsFound (Some o) = found_in os o.name ≡ Some o

  module _ (rs : List Row) (pending : Option (Text × List Text)) (uses : List Use) (k : ℕ) (s : Settles rs pending uses) (at : k ≡ place p uses) where
    abbrev h : Held
    h = held rs pending

    used_after : (o : Opt) (v : Text) → found_in os o.name ≡ Some o → (m : Option (List Use)) → Reacts o v h uses m
        → After (option_map between m) (or_else (react_fault c false (rule o) (values_given o.has_value v) h) [])
        (stand (reacted c (rule o) (values_given o.has_value v) h) idle k false)
    used_after o v found None r = inl (λ e. r (sym (or_nothing _) ∙ e))
    used_after o v found (Some more) r = (
      ap (λ ks. or_else ks []) r.0,
      record {
        rs = used (rule o) (values_given o.has_value v) (settled_rows c pending rs);
        pending = None;
        k = k;
        is = refl;
        settles = settled_by o v rs pending more r.1;
        at = place_after k uses more o v o.name at found r.2;
      },
    )

    abbrev long_step : Text → Option Rule → Option Text → Held × Step
    long_step word m v = after_flag c idle word (long_met c m v h).0 (long_met c m v h).1

    abbrev LongAfter : Text → Option Opt → Bool → Text → Type 0
    LongAfter word m e v = After (option_and_then (λ o. long_use uses o e v) m)
        (or_else (long_fault c false (option_map rule m) (cond e (Some v) None) h)
        (step_fault shape k (long_step word (option_map rule m) (cond e (Some v) None)).0 (long_step word (option_map rule m) (cond e (Some v) None)).1))
        (after_step c word (stand h idle k false) (long_step word (option_map rule m) (cond e (Some v) None)).0 (long_step word (option_map rule m) (cond e (Some v) None)).1)

    pub long_after : (word : Text) (m : Option Opt) (e : Bool) (v : Text) → IsFound m → LongAfter word m e v
    long_after word None e v found = inl (some_kinds _ refl)
    long_after word (Some o) e v found = go o.name o.has_value e found
      where
        opt : Text → Bool → Opt
        opt name b = record { name = name; has_value = b }

        go : (name : Text) (b e : Bool) → IsFound (Some (opt name b)) → LongAfter word (Some (opt name b)) e v
        go name true true found = used_after (opt name true) v found (with_use uses (opt name true) v) (reacts (opt name true) v rs pending uses s)
        go name true false found = (
          ap (λ ks. or_else ks []) s.fault,
          record {
            rs = settled_rows c pending rs;
            k = k;
            is = refl;
            rows_are = s.rows_are;
            found = found;
            valued = refl;
            at = at;
          },
        )
        go name false true found = inl (some_kinds _ refl)
        go name false false found = used_after (opt name false) [] found (with_use uses (opt name false) []) (reacts (opt name false) [] rs pending uses s)

  -- ---- a word of letters

  abbrev pub LettersAfter : ℕ → Option Reading → Kinds → Held × Outcome → Type 0
  LettersAfter k None f r = f ≢ []
  LettersAfter k (Some (between uses)) f r = (f ≡ []) × (rs : List Row) × (pending : Option (Text × List Text)) × (r ≡ (held rs pending, done)) × Settles rs pending uses × (k ≡ place p uses)
  LettersAfter k (Some (waits uses o)) f r = (f ≡ []) × (rs : List Row) × (r ≡ (held rs (Some (o.name, [])), option_waits o.name))
      × (rs ≡ rows uses) × (found_in os o.name ≡ Some o) × (o.has_value ≡ true) × (k ≡ place p uses)
  LettersAfter k (Some (trailing uses)) f r = ⊥

  abbrev pub Next : Text → Type 0
  Next rest = (rs : List Row) (pending : Option (Text × List Text)) (uses : List Use) (k : ℕ) → Settles rs pending uses → k ≡ place p uses
      → LettersAfter k (letters_read grammar uses rest) (flags_fault c false (length rest) rest 0 (held rs pending)) (bundle_met c (length rest) rest 0 done (held rs pending))

  attached_is : (b : ℕ) (bs : Text) → attached_value (b ∷ bs) ≡ Some (behind (b ∷ bs))
  attached_is b bs = go (nat_eq b 61)
    where
      go : (t : Bool) → option_map_or (λ (v : Text). Some v) (cond t (Some bs) None) (Some (b ∷ bs)) ≡ Some (cond t bs (b ∷ bs))
      go true = refl
      go false = refl

  module _ (rs : List Row) (pending : Option (Text × List Text)) (uses : List Use) (k : ℕ) (s : Settles rs pending uses) (at : k ≡ place p uses) where
    abbrev now : Held
    now = held rs pending

    abbrev LetterAfter : Text → Option Opt → Type 0
    LetterAfter rest m = LettersAfter k (option_and_then (λ o. letter_use uses o rest (λ more. letters_read grammar more rest)) m)
        (short_fault c false (option_map rule m) rest now (flags_fault c false (length rest) rest 0))
        (short_met c (option_map rule m) rest now (bundle_met c (length rest) rest 0 done))

    attached_after : (o : Opt) (v : Text) → found_in os o.name ≡ Some o → (m : Option (List Use)) → Reacts o v now uses m
        → LettersAfter k (option_map between m) (react_fault c false (rule o) (values_given o.has_value v) now) (reacted c (rule o) (values_given o.has_value v) now, done)
    attached_after o v found None r = r
    attached_after o v found (Some more) r = (r.0, used (rule o) (values_given o.has_value v) (settled_rows c pending rs), None, refl, settled_by o v rs pending more r.1, place_after k uses more o v o.name at found r.2)

    flag_after : (o : Opt) (rest : Text) → Next rest → found_in os o.name ≡ Some o → (m : Option (List Use)) → Reacts o [] now uses m
        → LettersAfter k (option_and_then (λ more. letters_read grammar more rest) m)
        (or_else (react_fault c false (rule o) (values_given o.has_value []) now) (flags_fault c false (length rest) rest 0 (reacted c (rule o) (values_given o.has_value []) now)))
        (bundle_met c (length rest) rest 0 done (reacted c (rule o) (values_given o.has_value []) now))
    flag_after o rest next found None r = kinds_either _ _ r
    flag_after o rest next found (Some more) r =
        let later = next (used (rule o) (values_given o.has_value []) (settled_rows c pending rs)) None more k (settled_by o [] rs pending more r.1) (place_after k uses more o [] o.name at found r.2) in
        subst (λ ks. LettersAfter k (letters_read grammar more rest) (or_else ks (flags_fault c false (length rest) rest 0 (reacted c (rule o) (values_given o.has_value []) now)))
        (bundle_met c (length rest) rest 0 done (reacted c (rule o) (values_given o.has_value []) now))) (sym r.0) later

    letter_after : (rest : Text) → Next rest → (m : Option Opt) → IsFound m → LetterAfter rest m
    letter_after rest next None found = some_kinds _ refl
    letter_after rest next (Some o) found = go o.name o.has_value rest next found
      where
        opt : Text → Bool → Opt
        opt name b = record { name = name; has_value = b }

        go : (name : Text) (b : Bool) (rest : Text) → Next rest → IsFound (Some (opt name b)) → LetterAfter rest (Some (opt name b))
        go name true [] next found = (s.fault, settled_rows c pending rs, refl, s.rows_are, found, refl, at)
        go name true (b ∷ bs) next found =
            let there = attached_after (opt name true) (behind (b ∷ bs)) found (with_use uses (opt name true) (behind (b ∷ bs))) (reacts (opt name true) (behind (b ∷ bs)) rs pending uses s) in
            subst (λ o. LettersAfter k (option_map between (with_use uses (opt name true) (behind (b ∷ bs)))) (option_fault c false (rule (opt name true)) o now) (option_met c (rule (opt name true)) o now)) (sym (attached_is b bs)) there
        go name false rest next found = flag_after (opt name false) rest next found (with_use uses (opt name false) []) (reacts (opt name false) [] rs pending uses s)

  found_or_none : (text : Text) → IsFound (found_in os text)
  found_or_none text = go (found_in os text) refl
    where
      go : (m : Option Opt) → found_in os text ≡ m → IsFound m
      go None e = tt
      go (Some o) e = ap (found_in os) (found_name os text o e) ∙ e

  pub letters_after : (flags : Text) → IsUtf8 flags → Next flags
  unfolding letters_read
  letters_after [] utf8 rs pending uses k s at = (no_flags_fault c (held rs pending), rs, pending, no_flags_met c (held rs pending), s, at)
  letters_after (b ∷ rest) utf8 rs pending uses k s at = go (first b rest utf8) (λ u. letters_after rest u)
    where
      go : First b rest → (IsUtf8 rest → Next rest) → LettersAfter k (letters_read grammar uses (b ∷ rest)) (flags_fault c false (length (b ∷ rest)) (b ∷ rest) 0 (held rs pending)) (bundle_met c (length (b ∷ rest)) (b ∷ rest) 0 done (held rs pending))
      go (low below is u) next =
          let fault = letter_fault c b rest is below (length rest) (held rs pending) ∙ ap (λ a. short_fault c false a rest (held rs pending) (flags_fault c false (length rest) rest 0)) (by_letter os p spelled b) in
          let met = letter_met c b rest is below (length rest) done (held rs pending) ∙ ap (λ a. short_met c a rest (held rs pending) (bundle_met c (length rest) rest 0 done)) (by_letter os p spelled b) in
          subst (λ (e : Kinds × (Held × Outcome)). LettersAfter k (letters_read grammar uses (b ∷ rest)) e.0 e.1) (λ i. (sym fault i, sym met i))
          (letter_after rs pending uses k s at rest (next u) (found_in os (45 ∷ b ∷ [])) (found_or_none (45 ∷ b ∷ [])))
      go (high above x higher is) next =
          let none = no_high os spelled b above in
          let unknown : arg_by_short c x ≡ None = by_letter os p spelled x ∙ ap (option_map rule) (no_high os spelled x higher) in
          let fault = any_fault c b x rest is (length rest) (held rs pending) in
          subst (λ m. LettersAfter k (option_and_then (λ o. letter_use uses o rest (λ more. letters_read grammar more rest)) m) (flags_fault c false (length (b ∷ rest)) (b ∷ rest) 0 (held rs pending)) (bundle_met c (length (b ∷ rest)) (b ∷ rest) 0 done (held rs pending))) (sym none)
          (λ e. some_kinds _ (ap (λ a. has_kinds (short_fault c false a (drop (length (encode_utf8 x)) (b ∷ rest)) (held rs pending) (flags_fault c false (length rest) (drop (length (encode_utf8 x)) (b ∷ rest)) 0))) unknown) (sym fault ∙ e))

  -- ---- a word by itself

  several : (index : Option ℕ) (name : Text) (b : Bool) → takes_several (rule_by index name b) ≡ false
  several index name true = refl
  several index name false = refl

  never_more : (o : Opt) (pending : Option (Text × List Text)) → (is_pending (positional_rule o) pending && takes_several (positional_rule o)) ≡ false
  never_more o pending = ap (λ b. is_pending (positional_rule o) pending && b) (several (Some 1) o.name o.has_value) ∙ and_false _

  -- what is pending with its value
  pending_fault : (index : Option ℕ) (o : Opt) (v : Text) (rs : List Row) → arg_by_id c o.name ≡ Some (rule_by index o.name o.has_value) → o.has_value ≡ true
      → settle_fault c false (held rs (Some (o.name, v ∷ []))) ≡ use_fault false (rule_by index o.name o.has_value) (values_given o.has_value v) rs
  pending_fault index o v rs by valued = ap (λ m. option_map_or (λ a. use_fault false a (v ∷ []) rs) m []) by ∙ ap (λ b. use_fault false (rule_by index o.name o.has_value) (values_given b v) rs) (sym valued)

  pending_settles : (index : Option ℕ) (o : Opt) (v : Text) (rs : List Row) (uses more : List Use) → arg_by_id c o.name ≡ Some (rule_by index o.name o.has_value) → o.has_value ≡ true
      → UseOf index o v rs uses (Some more) → Settles rs (Some (o.name, v ∷ [])) more
  pending_settles index o v rs uses more by valued u = record {
    fault = pending_fault index o v rs by valued ∙ u.0;
    rows_are = ap (λ m. used_by_id m (v ∷ []) rs) by ∙ ap (λ b. used (rule_by index o.name o.has_value) (values_given b v) rs) (sym valued) ∙ u.1;
  }

  module _ (t : Bool) (word : Text) (rs : List Row) (pending : Option (Text × List Text)) (uses : List Use) (k : ℕ) (s : Settles rs pending uses) (at : k ≡ place p uses) where
    abbrev StrayAfter : Option (List Use) → Option Rule → Type 0
    StrayAfter m a = After (option_map (read_by t) m) (option_map_or (λ r. positional_fault c false r (held rs pending)) a (stray_fault shape))
        (to_positional c a word (stand (held rs pending) idle k t) (held rs pending))

    stands_by : (b : Bool) (us : List Use) (w : Walk) → Stays b us w → Stands (read_by b us) w
    stands_by true us w h = h
    stands_by false us w h = h

    first_stray : (o : Opt) → p ≡ Some o → is_used o.name uses ≡ false → k ≡ 1 → IsPlainName (Some o) → StrayAfter (Some (with_one uses o word)) (Some (positional_rule o))
    first_stray o e none one is_plain =
        let rows_now = settled_rows c pending rs in
        let by : arg_by_id c o.name ≡ Some (positional_rule o) =
        subst (λ q. arg_by_id (rules_of os q) o.name ≡ Some (positional_rule o)) (sym e) (by_plain_name os o spelled is_plain.1.0 is_plain.1.1 is_plain.1.2 is_plain.1.3) in
        let u : UseOf (Some 1) o word rows_now uses (Some (with_one uses o word)) =
        subst (λ b. UseOf (Some 1) o word rows_now uses (cond b None (Some (with_one uses o word)))) none (use_of (Some 1) o word rows_now uses s.rows_are) in (
          ap (λ b. cond b [] (settle_fault c false (held rs pending))) (never_more o pending) ∙ s.fault,
          stands_by t (with_one uses o word) _ (record {
            rs = rows_now;
            pending = Some (o.name, word ∷ []);
            k = 2;
            is = λ i. record {
              held = pushed o.name word (cond (never_more o pending i) (held rs pending) (settled c (held rs pending)));
              waiting = idles_on o.name o.has_value i;
              position = moves o.name o.has_value i;
              is_trailing = or_false t i;
              stopped = None;
            };
            settles = pending_settles (Some 1) o word rows_now uses (with_one uses o word) by is_plain.0 u;
            at = sym (ap (λ q. place q (with_one uses o word)) e ∙ ap (λ b. cond b 2 1) (is_used-same o.name uses o word refl));
          }),
        )
      where
        or_false : (b : Bool) → (b || false) ≡ b
        or_false true = refl
        or_false false = refl

        idles_on : (name : Text) (b : Bool) → cond (is_multiple (rule_by (Some 1) name b)) positional idle ≡ idle
        idles_on name true = refl
        idles_on name false = refl

        moves : (name : Text) (b : Bool) → next_position (rule_by (Some 1) name b) k ≡ 2
        moves name true = ap (next_position (rule_by (Some 1) name true)) one
        moves name false = ap (next_position (rule_by (Some 1) name false)) one

    stray_by : (q : Option Opt) → p ≡ q → k ≡ place q uses → IsPlainName q → StrayAfter (option_and_then (λ o. with_use uses o word) q) (arg_by_index (positional_rules q) k)
    stray_by None e here is_plain = inl (some_kinds _ refl)
    stray_by (Some o) e here is_plain = go (is_used o.name uses) refl here
      where
        go : (b : Bool) → is_used o.name uses ≡ b → k ≡ cond b 2 1 → StrayAfter (cond b None (Some (with_one uses o word))) (arg_by_index (positional_rules (Some o)) k)
        go true had two = subst (λ n. StrayAfter None (arg_by_index (positional_rules (Some o)) n)) (sym two) (inl (some_kinds _ refl))
        go false none one = subst (λ n. StrayAfter (Some (with_one uses o word)) (arg_by_index (positional_rules (Some o)) n)) (sym one) (first_stray o e none one is_plain)

    pub stray_after : After (option_map (read_by t) (positional_use grammar uses word)) (step_fault shape k (held rs pending) value)
        (to_positional c (arg_by_index c k) word (stand (held rs pending) idle k t) (held rs pending))
    stray_after = subst (λ a. StrayAfter (positional_use grammar uses word) a) (sym (by_place os p k)) (stray_by p refl at plain)

  -- ---- a value in a word of its own

  module _ (word : Text) (rs : List Row) (uses : List Use) (k : ℕ) (o : Opt) (are : rs ≡ rows uses) (found : found_in os o.name ≡ Some o) (valued : o.has_value ≡ true) (at : k ≡ place p uses) where
    abbrev ValueAfter : Option (List Use) → Option Rule → Type 0
    ValueAfter m a = After (option_map between m) [] (stand (option_word a o.name word (held rs (Some (o.name, [])))).0 (option_word a o.name word (held rs (Some (o.name, [])))).1 k false)

    waits_no_more : cond (nat_lt (pending_count (rule o) (Some (o.name, word ∷ []))) (most_values (rule o))) (option o.name) idle ≡ idle
    waits_no_more =
        ap (λ b. cond (nat_lt (cond b 1 0) (most_values (rule o))) (option o.name) idle) ((bytes_eq-Decides o.name o.name).1 refl)
        ∙ ap (λ b. cond (nat_lt 1 (most_values (rule_by None o.name b))) (option o.name) idle) valued

    value_by : (m : Option (List Use)) → UseOf None o word rs uses m → ValueAfter m (Some (rule o))
    value_by None u = inr (idles rs (Some (o.name, word ∷ [])) k (λ i. stand (held rs (Some (o.name, word ∷ []))) (waits_no_more i) k false)
        (λ e. u (sym (pending_fault None o word rs (by_name os p o.name o found) valued) ∙ e)))
    value_by (Some more) u = (
      refl,
      record {
        rs = rs;
        pending = Some (o.name, word ∷ []);
        k = k;
        is = λ i. stand (held rs (Some (o.name, word ∷ []))) (waits_no_more i) k false;
        settles = pending_settles None o word rs uses more (by_name os p o.name o found) valued u;
        at = place_after k uses more o word o.name at found u.2;
      },
    )

    pub value_after : ValueAfter (with_use uses o word) (arg_by_id c o.name)
    value_after = subst (λ a. ValueAfter (with_use uses o word) a) (sym (by_name os p o.name o found)) (value_by (with_use uses o word) (use_of None o word rs uses are))

  -- ---- where a use that fails is pending

  module _ (h : Held) (doom : settle_fault c false h ≢ []) where
    pub long_doomed : (m : Option Rule) (v : Option Text) → long_fault c false m v h ≢ []
    long_doomed None v = some_kinds _ refl
    long_doomed (Some a) v = go (takes_values a) v
      where
        go : (b : Bool) (v : Option Text) → cond b (option_fault c false a v h) (cond (is_some v) (TooManyValues ∷ []) (react_fault c false a [] h)) ≢ []
        go true None = doom
        go true (Some x) = kinds_either _ _ doom
        go false None = kinds_either _ _ doom
        go false (Some x) = some_kinds _ refl

    short_doomed : (m : Option Rule) (rest : Text) (next : Held → Kinds) → short_fault c false m rest h next ≢ []
    short_doomed None rest next = some_kinds _ refl
    short_doomed (Some a) rest next = go (takes_values a) (attached_value rest)
      where
        go : (b : Bool) (v : Option Text) → cond b (option_fault c false a v h) (or_else (react_fault c false a [] h) (next (reacted c a [] h))) ≢ []
        go true None = doom
        go true (Some x) = kinds_either _ _ doom
        go false v = kinds_either _ _ (kinds_either _ _ doom)

    pub flags_doomed : (b : ℕ) (rest : Text) → IsUtf8 (b ∷ rest) → flags_fault c false (length (b ∷ rest)) (b ∷ rest) 0 h ≢ []
    flags_doomed b rest utf8 e = go (first b rest utf8)
      where
        go : First b rest → ⊥
        go (low below is u) = short_doomed (arg_by_short c b) _ _ (sym (any_fault c b b rest is (length rest) h) ∙ e)
        go (high above x higher is) = short_doomed (arg_by_short c x) _ _ (sym (any_fault c b x rest is (length rest) h) ∙ e)

    pub stray_doomed : (k : ℕ) → step_fault shape k h value ≢ []
    stray_doomed k = subst (λ a. option_map_or (λ r. positional_fault c false r h) a (stray_fault shape) ≢ []) (sym (by_place os p k)) (go p)
      where
        go : (q : Option Opt) → option_map_or (λ r. positional_fault c false r h) (arg_by_index (positional_rules q) k) (stray_fault shape) ≢ []
        go None = some_kinds _ refl
        go (Some o) = either (nat_eq 1 k)
          where
            either : (b : Bool) → option_map_or (λ r. positional_fault c false r h) (cond b (Some (positional_rule o)) None) (stray_fault shape) ≢ []
            either true e = doom (sym (ap (λ t. cond t [] (settle_fault c false h)) (never_more o h.pending)) ∙ e)
            either false e = some_kinds _ refl e

  -- ---- the turn of one word

  abbrev pub turn : Walk → Text → Kinds
  turn w word = turn_fault shape [] w word

  abbrev pub next_walk : Walk → Text → Walk
  next_walk w word = walked c [] w word

  pub trailing_turn : (word : Text) (rs : List Row) (pending : Option (Text × List Text)) (uses : List Use) (k : ℕ) → Settles rs pending uses → k ≡ place p uses
      → After (next_read grammar (trailing uses) word) (turn (stand (held rs pending) idle k true) word) (next_walk (stand (held rs pending) idle k true) word)
  unfolding walked
  trailing_turn word rs pending uses k s at = stray_after true word rs pending uses k s at

  -- an option that waits has no value yet
  empty_doom : (rs : List Row) (o : Opt) → found_in os o.name ≡ Some o → o.has_value ≡ true → settle_fault c false (held rs (Some (o.name, []))) ≢ []
  empty_doom rs o found valued = some_kinds _ (ap (λ m. has_kinds (option_map_or (λ a. use_fault false a [] rs) m [])) (by_name os p o.name o found)
      ∙ ap (λ b. has_kinds (use_fault false (rule_by None o.name b) [] rs)) valued)

  pub waits_turn : (word : Text) → IsUtf8 word → Kind word → (rs : List Row) (uses : List Use) (k : ℕ) (o : Opt) → rs ≡ rows uses → found_in os o.name ≡ Some o → o.has_value ≡ true → k ≡ place p uses
      → After (next_read grammar (waits uses o) word) (turn (stand (held rs (Some (o.name, []))) (option o.name) k false) word)
      (next_walk (stand (held rs (Some (o.name, []))) (option o.name) k false) word)
  unfolding walked
  waits_turn _ utf8 empty rs uses k o are found valued at = value_after [] rs uses k o are found valued at
  waits_turn _ utf8 (plain_word b bs other) rs uses k o are found valued at = rw (other, other) (value_after (b ∷ bs) rs uses k o are found valued at)
  waits_turn _ utf8 dash rs uses k o are found valued at = value_after (45 ∷ []) rs uses k o are found valued at
  waits_turn _ utf8 dashes rs uses k o are found valued at = inr (trails rs (Some (o.name, [])) (option o.name) k refl (empty_doom rs o found valued))
  waits_turn _ utf8 (long_word y ys) rs uses k o are found valued at = inl (kinds_either (long_fault c false (arg_by_long c (name_and_value (y ∷ ys)).0) (name_and_value (y ∷ ys)).1 (held rs (Some (o.name, [])))) _ (long_doomed (held rs (Some (o.name, []))) (empty_doom rs o found valued) (arg_by_long c (name_and_value (y ∷ ys)).0) (name_and_value (y ∷ ys)).1))
  waits_turn _ utf8 (letters x xs other) rs uses k o are found valued at =
      rw (other, other) (inl (kinds_either _ _ (flags_doomed (held rs (Some (o.name, []))) (empty_doom rs o found valued) x xs (tail_utf8 45 (x ∷ xs) utf8 (omega arith)))))

  -- what the letters of a word come to
  abbrev letters_step : ℕ → Text → Held × Outcome → Held × Step
  letters_step k word r = after_flag c idle word r.0 r.1

  from_letters : (k : ℕ) (word : Text) (h : Held) (m : Option Reading) (f : Kinds) (r : Held × Outcome) → LettersAfter k m f r
      → After m (or_else f (step_fault shape k (letters_step k word r).0 (letters_step k word r).1)) (after_step c word (stand h idle k false) (letters_step k word r).0 (letters_step k word r).1)
  from_letters k word h None f r a = inl (kinds_either _ _ a)
  from_letters k word h (Some (between uses)) f r a = (
    λ i. or_else (a.0 i) (step_fault shape k (letters_step k word (a.3 i)).0 (letters_step k word (a.3 i)).1),
    record {
      rs = a.1;
      pending = a.2;
      k = k;
      is = λ i. after_step c word (stand h idle k false) (letters_step k word (a.3 i)).0 (letters_step k word (a.3 i)).1;
      settles = a.4;
      at = a.5;
    },
  )
  from_letters k word h (Some (waits uses o)) f r a = (
    λ i. or_else (a.0 i) (step_fault shape k (letters_step k word (a.2 i)).0 (letters_step k word (a.2 i)).1),
    record {
      rs = a.1;
      k = k;
      is = λ i. after_step c word (stand h idle k false) (letters_step k word (a.2 i)).0 (letters_step k word (a.2 i)).1;
      rows_are = a.3;
      found = a.4;
      valued = a.5;
      at = a.6;
    },
  )
  from_letters k word h (Some (trailing uses)) f r a = absurd a

  -- the first letter takes no notice of what came before it
  met_anew : (x : ℕ) (xs : Text) (h : Held) → IsUtf8 (x ∷ xs) → bundle_met c (length (x ∷ xs)) (x ∷ xs) 0 done h ≡ bundle_met c (length (x ∷ xs)) (x ∷ xs) 0 plain_outcome h
  met_anew x xs h utf8 = go (first x xs utf8)
    where
      go : First x xs → bundle_met c (length (x ∷ xs)) (x ∷ xs) 0 done h ≡ bundle_met c (length (x ∷ xs)) (x ∷ xs) 0 plain_outcome h
      go (low below is u) = any_met c x x xs is (length xs) done h ∙ sym (any_met c x x xs is (length xs) plain_outcome h)
      go (high above y higher is) = any_met c x y xs is (length xs) done h ∙ sym (any_met c x y xs is (length xs) plain_outcome h)

  module _ (rs : List Row) (pending : Option (Text × List Text)) (uses : List Use) (k : ℕ) (s : Settles rs pending uses) (at : k ≡ place p uses) where
    abbrev w : Walk
    w = stand (held rs pending) idle k false

    long_turn : (y : ℕ) (ys : Text) → After (next_read grammar (between uses) (45 ∷ 45 ∷ y ∷ ys)) (turn w (45 ∷ 45 ∷ y ∷ ys)) (next_walk w (45 ∷ 45 ∷ y ∷ ys))
    unfolding walked
    long_turn y ys =
        let word = 45 ∷ 45 ∷ y ∷ ys in
        let name = before_first (λ x. x == 61) (y ∷ ys) in
        let m = found_in os (45 ∷ 45 ∷ name) in
        let e = list_any (λ x. x == 61) (y ∷ ys) in
        let v = after_first (λ x. x == 61) (y ∷ ys) in
        let n = position_or_len (λ x. x == 61) (y ∷ ys) in
        let before : before_first is_equals word ≡ 45 ∷ 45 ∷ name = ap (λ j. take j word) (let same : 1 + (1 + n) ≡ suc (suc n) = omega arith in same) in
        let later : after_first is_equals word ≡ v = ap (λ j. drop j word) (let same : 1 + (1 + n) + 1 ≡ suc (suc (n + 1)) = omega arith in same) in
        let here = long_after rs pending uses k s at word m e v (found_or_none (45 ∷ 45 ∷ name)) in
        let there = subst (λ a. After (option_and_then (λ o. long_use uses o e v) m)
        (or_else (long_fault c false a (cond e (Some v) None) (held rs pending)) (step_fault shape k (long_step rs pending uses k s at word a (cond e (Some v) None)).0 (long_step rs pending uses k s at word a (cond e (Some v) None)).1))
        (after_step c word w (long_step rs pending uses k s at word a (cond e (Some v) None)).0 (long_step rs pending uses k s at word a (cond e (Some v) None)).1)) (sym (by_long os p spelled name)) here in
        subst (λ z. After z (turn w word) (next_walk w word)) (λ i. option_and_then (λ o. long_use uses o e (sym later i)) (found_in os (sym before i))) there

    letters_turn : (x : ℕ) (xs : Text) → nat_eq x 45 ≡ false → IsUtf8 (45 ∷ x ∷ xs) → After (next_read grammar (between uses) (45 ∷ x ∷ xs)) (turn w (45 ∷ x ∷ xs)) (next_walk w (45 ∷ x ∷ xs))
    unfolding walked
    letters_turn x xs other utf8 =
        let u = tail_utf8 45 (x ∷ xs) utf8 (omega arith) in
        let here = letters_after (x ∷ xs) u rs pending uses k s at in
        let there = subst (λ r. LettersAfter k (letters_read grammar uses (x ∷ xs)) (flags_fault c false (length (x ∷ xs)) (x ∷ xs) 0 (held rs pending)) r) (met_anew x xs (held rs pending) u) here in
        rw (other, other) (from_letters k (45 ∷ x ∷ xs) (held rs pending) _ _ _ there)

    pub between_turn : (word : Text) → IsUtf8 word → Kind word → After (next_read grammar (between uses) word) (turn w word) (next_walk w word)
    unfolding walked
    between_turn _ utf8 empty = stray_after false [] rs pending uses k s at
    between_turn _ utf8 (plain_word b bs other) = rw (other, other) (stray_after false (b ∷ bs) rs pending uses k s at)
    between_turn _ utf8 dash = stray_after false (45 ∷ []) rs pending uses k s at
    between_turn _ utf8 dashes = (refl, record { rs = rs; pending = pending; k = k; is = refl; settles = s; at = at })
    between_turn _ utf8 (long_word y ys) = long_turn y ys
    between_turn _ utf8 (letters x xs other) = letters_turn x xs other utf8

  -- ---- all words

  abbrev pub end_of_walk : Walk → List Text → Walk
  end_of_walk w words = fold (walked c []) w words

  -- the faults of the words, and of what they leave pending
  abbrev pub faults : Walk → List Text → Kinds
  faults w words = or_else (walk_fault shape [] w words) (settle_fault c false (end_of_walk w words).held)

  faults-one : (w : Walk) (word : Text) (words : List Text) → turn w word ≡ [] → faults w (word ∷ words) ≡ faults (next_walk w word) words
  unfolding walk_fault
  faults-one w word words none = ap (λ ks. or_else (or_else ks (walk_fault shape [] (next_walk w word) words)) (settle_fault c false (end_of_walk w (word ∷ words)).held)) none

  faults-turn : (w : Walk) (word : Text) (words : List Text) → turn w word ≢ [] → faults w (word ∷ words) ≢ []
  unfolding walk_fault
  faults-turn w word words some = kinds_either _ _ (kinds_either _ _ some)

  faults-later : (w : Walk) (word : Text) (words : List Text) → faults (next_walk w word) words ≢ [] → faults w (word ∷ words) ≢ []
  unfolding walk_fault
  faults-later w word words some = go (turn w word) (walk_fault shape [] (next_walk w word) words) some
    where
      go : (a b : Kinds) → or_else b (settle_fault c false (end_of_walk w (word ∷ words)).held) ≢ [] → or_else (or_else a b) (settle_fault c false (end_of_walk w (word ∷ words)).held) ≢ []
      go [] b h = h
      go (x ∷ xs) b h = some_kinds _ refl

  faults-end : (w : Walk) → faults w [] ≡ settle_fault c false w.held
  unfolding walk_fault
  faults-end w = refl

  -- a turn where a use that fails is pending
  idles_turn : (word : Text) → IsUtf8 word → Kind word → (rs : List Row) (pending : Option (Text × List Text)) (k : ℕ) → settle_fault c false (held rs pending) ≢ []
      → (turn (stand (held rs pending) idle k false) word ≢ []) ⊎ Doomed (next_walk (stand (held rs pending) idle k false) word)
  unfolding walked
  idles_turn _ utf8 empty rs pending k doom = inl (stray_doomed (held rs pending) doom k)
  idles_turn _ utf8 (plain_word b bs other) rs pending k doom = rw (other, other) (inl (stray_doomed (held rs pending) doom k))
  idles_turn _ utf8 dash rs pending k doom = inl (stray_doomed (held rs pending) doom k)
  idles_turn _ utf8 dashes rs pending k doom = inr (trails rs pending idle k refl doom)
  idles_turn _ utf8 (long_word y ys) rs pending k doom = inl (kinds_either (long_fault c false (arg_by_long c (name_and_value (y ∷ ys)).0) (name_and_value (y ∷ ys)).1 (held rs pending)) _ (long_doomed (held rs pending) doom (arg_by_long c (name_and_value (y ∷ ys)).0) (name_and_value (y ∷ ys)).1))
  idles_turn _ utf8 (letters x xs other) rs pending k doom =
      rw (other, other) (inl (kinds_either _ _ (flags_doomed (held rs pending) doom x xs (tail_utf8 45 (x ∷ xs) utf8 (omega arith)))))

  trails_turn : (word : Text) (rs : List Row) (pending : Option (Text × List Text)) (waiting : Waiting) (k : ℕ) → settle_fault c false (held rs pending) ≢ []
      → turn (stand (held rs pending) waiting k true) word ≢ []
  trails_turn word rs pending waiting k doom = stray_doomed (held rs pending) doom k

  doomed_turn : (word : Text) → IsUtf8 word → (w : Walk) → Doomed w → (turn w word ≢ []) ⊎ Doomed (next_walk w word)
  doomed_turn word utf8 w (idles rs pending k is doom) = subst (λ v. (turn v word ≢ []) ⊎ Doomed (next_walk v word)) (sym is) (idles_turn word utf8 (kind word) rs pending k doom)
  doomed_turn word utf8 w (trails rs pending waiting k is doom) = subst (λ v. (turn v word ≢ []) ⊎ Doomed (next_walk v word)) (sym is) (inl (trails_turn word rs pending waiting k doom))

  doomed_end : (w : Walk) → Doomed w → settle_fault c false w.held ≢ []
  doomed_end w (idles rs pending k is doom) = subst (λ v. settle_fault c false v.held ≢ []) (sym is) doom
  doomed_end w (trails rs pending waiting k is doom) = subst (λ v. settle_fault c false v.held ≢ []) (sym is) doom

  doomed_words : (words : List Text) → AllUtf8 words → (w : Walk) → Doomed w → faults w words ≢ []
  doomed_words [] utf8 w doom = λ e. doomed_end w doom (sym (faults-end w) ∙ e)
  doomed_words (word ∷ words) utf8 w doom =
      ⊎_elim (λ some. faults-turn w word words some) (λ later. faults-later w word words (doomed_words words utf8.1 (next_walk w word) later)) (doomed_turn word utf8.0 w doom)

  -- what clap answers, by what the grammar reads
  abbrev pub Verdict : Option (List Use) → Walk → List Text → Type 0
  Verdict None w words = faults w words ≢ []
  Verdict (Some uses) w words = (faults w words ≡ []) × ((settled c (end_of_walk w words).held).rows ≡ rows uses)

  turn_of : (r : Reading) (word : Text) → IsUtf8 word → (w : Walk) → Stands r w → After (next_read grammar r word) (turn w word) (next_walk w word)
  turn_of (between uses) word utf8 w h = subst (λ v. After (next_read grammar (between uses) word) (turn v word) (next_walk v word)) (sym h.is)
      (between_turn h.rs h.pending uses h.k h.settles h.at word utf8 (kind word))
  turn_of (waits uses o) word utf8 w h = subst (λ v. After (next_read grammar (waits uses o) word) (turn v word) (next_walk v word)) (sym h.is)
      (waits_turn word utf8 (kind word) h.rs uses h.k o h.rows_are h.found h.valued h.at)
  turn_of (trailing uses) word utf8 w h = subst (λ v. After (next_read grammar (trailing uses) word) (turn v word) (next_walk v word)) (sym h.is)
      (trailing_turn word h.rs h.pending uses h.k h.settles h.at)

  at_end : (r : Reading) (w : Walk) → Stands r w → Verdict (ended r) w []
  at_end (between uses) w h = (faults-end w ∙ ap (λ v. settle_fault c false v.held) h.is ∙ h.settles.fault, ap (λ v. (settled c v.held).rows) h.is ∙ h.settles.rows_are)
  at_end (waits uses o) w h = λ e. empty_doom h.rs o h.found h.valued (sym (faults-end w ∙ ap (λ v. settle_fault c false v.held) h.is) ∙ e)
  at_end (trailing uses) w h = (faults-end w ∙ ap (λ v. settle_fault c false v.held) h.is ∙ h.settles.fault, ap (λ v. (settled c v.held).rows) h.is ∙ h.settles.rows_are)

  pub verdict : (words : List Text) → AllUtf8 words → (r : Reading) (w : Walk) → Stands r w → Verdict (read_from grammar r words) w words
  unfolding read_from
  verdict [] utf8 r w h = at_end r w h
  verdict (word ∷ words) utf8 r w h = go (next_read grammar r word) (turn_of r word utf8.0 w h) (verdict words utf8.1)
    where
      passed : (m : Option (List Use)) → turn w word ≡ [] → Verdict m (next_walk w word) words → Verdict m w (word ∷ words)
      passed None none v = λ e. v (sym (faults-one w word words none) ∙ e)
      passed (Some uses) none v = (faults-one w word words none ∙ v.0, v.1)

      go : (m : Option Reading) → After m (turn w word) (next_walk w word) → ((r : Reading) (v : Walk) → Stands r v → Verdict (read_from grammar r words) v words)
          → Verdict (option_and_then (λ next. read_from grammar next words) m) w (word ∷ words)
      go None a rest = ⊎_elim (λ some. faults-turn w word words some) (λ doom. faults-later w word words (doomed_words words utf8.1 (next_walk w word) doom)) a
      go (Some next) a rest = passed (read_from grammar next words) a.0 (rest next (next_walk w word) a.1)
