-- clap's command of a tool, and what a parse by it gives.
use Rattle.std.specs.Prelude.{◌≡◌, ℕ, Bool, true, false, not, ◌||◌, if◌then◌else◌, List, [], ◌∷◌, ◌++◌, map, drop, codes, bytes_eq, nat_eq, ◌<◌, find, slice_get, Option, Some, None, Result, MatchResult}
use Rattle.std.specs.List.{list_all}
use Rattle.std.specs.Option.{option_and_then, option_map_or}
use Rattle.clap.specs.Lexer.{strip_byte, short_of}
use Rattle.clap.specs.Matches.{found_of, first_value, one_text}
use Rattle.clap.specs.Walk.{Rule}
use Rattle.clap.specs.Simple.{App, new_rule, new_shape}
use Rattle.clap.specs.declared.builder.action.ArgAction.{ArgAction}
use Rattle.clap.specs.declared.builder.action.ArgAction.TheVariants.{Set, SetTrue}
use Rattle.clap.specs.declared.parser.matches.ArgMatches.{ArgMatches}
use Rattle.f2_top.specs.declared.jobs.Job.{Job}
use Rattle.f2_top.specs.declared.jobs.WordsRefusal.{WordsRefusal}
use Rattle.f2_top.specs.declared.jobs.WordsRefusal.TheVariants.{Usage}
use Rattle.f2_top.specs.Words.{Text, Opt, Grammar, Use, is_used, uses_of, value_in}

-- what follows `--`, and the letter that follows `-`
abbrev pub long_name : Text → Option Text
long_name name = option_and_then (strip_byte 45) (strip_byte 45 name)

abbrev pub letter_name : Text → Option ℕ
letter_name name = option_and_then (λ letters. slice_get letters 0) (short_of name)

abbrev pub action_by : Bool → ArgAction
action_by true = Set
action_by false = SetTrue

-- the argument of an option
abbrev pub asked_rule : Opt → Rule
asked_rule o = record (new_rule o.name) {
  long = long_name o.name;
  short = letter_name o.name;
  action = Some (action_by o.has_value);
}

-- each option of the tool, and its positional word
abbrev pub alone : Option Opt → List Opt
alone None = []
alone (Some o) = o ∷ []

abbrev pub all_options : Grammar → List Opt
all_options g = g.options ++ alone g.positional

-- the command of the tool, without help
abbrev pub app_of_grammar : Text → Grammar → App
app_of_grammar title g = record {
  top = record (new_shape title) { rules = map asked_rule (all_options g); disable_help_flag = true };
  subs = [];
}

-- an option is spelled `-x`, of an ASCII letter, or `--name`
pub data IsSpelled (o : Opt) : Type 0 where
  letter : (x : ℕ) → o.name ≡ 45 ∷ x ∷ [] → nat_eq x 45 ≡ false → x < 128 → IsSpelled o
  long : (y : ℕ) → (ys : Text) → o.name ≡ 45 ∷ 45 ∷ y ∷ ys → IsSpelled o

abbrev pub AreSpelled : List Opt → Type 0
AreSpelled [] = Unit {0}
AreSpelled (o ∷ os) = IsSpelled o × AreSpelled os

-- a positional's name begins with no hyphen, and it has a value
abbrev pub IsPlainName : Option Opt → Type 0
IsPlainName None = Unit {0}
IsPlainName (Some o) = (o.has_value ≡ true) × ((c : ℕ) × (cs : Text) × (o.name ≡ c ∷ cs) × (nat_eq 45 c ≡ false))

-- the names of the grammar are such
pub record IsNamed (g : Grammar) : Type 0 where
  pub spelled : AreSpelled g.options
  pub plain : IsPlainName g.positional

-- no flag has this name; a flag has it
abbrev pub is_value_name : Grammar → Text → Bool
is_value_name g name = list_all (λ o. o.has_value || not (bytes_eq o.name name)) (all_options g)

abbrev pub is_flag_name : Grammar → Text → Bool
is_flag_name g name = option_map_or (λ o. not o.has_value) (find (λ o. bytes_eq o.name name) g.options) false

-- the matches hold the values of the uses
pub record Holds (g : Grammar) (uses : List Use) (m : ArgMatches) : Type 0 where
  pub values : (name : Text) → is_value_name g name ≡ true → first_value (found_of m) name ≡ value_in name uses
  pub flags : (name : Text) → is_flag_name g name ≡ true
      → one_text (found_of m) name ≡ Some (if is_used name uses then codes "true" else codes "false")

-- a parse gives the uses that the grammar reads of the words, or there are none
abbrev pub Parses : Grammar → List Text → Result ArgMatches WordsRefusal → Type 0
Parses g words r =
    MatchResult r (λ m. (uses : List Use) × (uses_of g (drop 1 words) ≡ Some uses) × Holds g uses m)
    (λ e. e ≡ Usage → uses_of g (drop 1 words) ≡ None)

-- the answer is this job, or Usage only where there is none
abbrev pub Names : Option Job → Result Job WordsRefusal → Type 0
Names job r = MatchResult r (λ j. job ≡ Some j) (λ e. e ≡ Usage → job ≡ None)
