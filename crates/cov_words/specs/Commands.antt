-- The commands, as `clap` sees them: a row of arguments for each.
use Rattle.std.specs.Prelude.{ℕ, pos, true, cond, List, [], ◌∷◌, codes, Option, Some, None}
use Rattle.std.specs.Str.{bytes_eq}
use Rattle.clap.specs.Simple.{App, new_app, new_rule, on_top, with_rule}
use Rattle.clap.specs.Walk.{Rule, Text}
use Rattle.clap.specs.declared.builder.action.ArgAction.TheVariants.{SetTrue}
use Rattle.clap.specs.declared.builder.value_parser.ValueParser.TheVariants as reader
use Rattle.cov_words.specs.declared.job.Verb.{Verb}
use Rattle.cov_words.specs.declared.job.Verb.TheVariants as verb
use Rattle.cov_words.specs.declared.limits.TheConstants.{LEAST_WIDTH, MOST_WIDTH, LEAST_LENGTH, MOST_LENGTH, LEAST_K, MOST_K, MOST_BUDGET, LEAST_NUMBER, MOST_OBLIGATION, MOST_SIZE}

-- ---- kinds of arguments

-- a positional text
abbrev pub text : Text → Rule
text id = record (new_rule id) { required = true }

-- a positional number of 32 bits within a range
abbrev pub numeral : Text → ℕ → ℕ → Rule
numeral id least most = record (new_rule id) {
  required = true;
  parser = Some (reader.Signed (pos least) (pos most));
}

-- `--NAME TEXT`
abbrev pub named_text : Text → Rule
named_text id = record (new_rule id) { long = Some id }

-- `--NAME TEXT`, where the text isn't empty
abbrev pub named_some_text : Text → Rule
named_some_text id = record (new_rule id) { long = Some id; parser = Some reader.NonEmptyString }

-- `--NAME NUMBER`, with a number of 32 bits within a range
abbrev pub named_number : Text → ℕ → ℕ → Rule
named_number id least most = record (new_rule id) {
  long = Some id;
  parser = Some (reader.Signed (pos least) (pos most));
}

-- `--NAME NUMBER`, with a number of 64 bits up to one
abbrev pub named_wide_number : Text → ℕ → Rule
named_wide_number id most = record (new_rule id) {
  long = Some id;
  parser = Some (reader.Unsigned 0 most);
}

-- `--NAME`
abbrev pub flag : Text → Rule
flag id = record (new_rule id) { long = Some id; action = Some SetTrue }

-- ---- the arguments

abbrev pub first : Rule
first = text (codes "first")

abbrev pub second : Rule
second = text (codes "second")

abbrev pub third : Rule
third = text (codes "third")

-- the obligation that `certify` is asked for
abbrev pub obligation : Rule
obligation = numeral (codes "number") LEAST_NUMBER MOST_OBLIGATION

-- the size of what `make` makes
abbrev pub size : Rule
size = numeral (codes "number") LEAST_NUMBER MOST_SIZE

-- the most instants that `certify` is asked for
abbrev pub bound : Rule
bound = numeral (codes "k") LEAST_K MOST_K

abbrev pub main : Rule
main = named_text (codes "main")

abbrev pub width : Rule
width = named_number (codes "width") LEAST_WIDTH MOST_WIDTH

abbrev pub most_edges : Rule
most_edges = named_number (codes "length") LEAST_LENGTH MOST_LENGTH

abbrev pub most_instants : Rule
most_instants = named_number (codes "k") LEAST_K MOST_K

abbrev pub budget : Rule
budget = named_wide_number (codes "budget") MOST_BUDGET

abbrev pub out : Rule
out = named_some_text (codes "out")

abbrev pub json : Rule
json = flag (codes "json")

-- ---- the commands

-- two files
abbrev pub files : List Rule
files = first ∷ second ∷ []

-- what each command takes that reads a source
abbrev pub source_options : List Rule
source_options = main ∷ width ∷ []

-- what each command takes that searches
abbrev pub search_options : List Rule
search_options = most_instants ∷ budget ∷ []

-- the positional arguments of `certify`
abbrev pub certified : List Rule
certified = first ∷ obligation ∷ bound ∷ second ∷ []

-- the arguments of a command, the positional ones in order
abbrev pub arguments : Verb → List Rule
arguments verb.Run = first ∷ second ∷ main ∷ width ∷ []
arguments verb.Score = first ∷ second ∷ main ∷ width ∷ most_edges ∷ json ∷ []
arguments verb.Session = first ∷ second ∷ third ∷ main ∷ width ∷ most_edges ∷ []
arguments verb.Generate =
    first ∷ second ∷ main ∷ width ∷ most_edges ∷ most_instants ∷ budget ∷ out ∷ []
arguments verb.Verify = first ∷ second ∷ []
arguments verb.Certify = first ∷ obligation ∷ bound ∷ second ∷ main ∷ width ∷ most_edges ∷ []
arguments verb.Make = size ∷ most_edges ∷ most_instants ∷ budget ∷ []

abbrev pub name : Verb → Text
name verb.Run = codes "run"
name verb.Score = codes "score"
name verb.Session = codes "session"
name verb.Generate = codes "generate"
name verb.Verify = codes "verify"
name verb.Certify = codes "certify"
name verb.Make = codes "make"

-- all commands
abbrev pub verbs : List Verb
verbs =
    verb.Run ∷ verb.Score ∷ verb.Session ∷ verb.Generate ∷ verb.Verify ∷ verb.Certify ∷ verb.Make
    ∷ []

-- the command of a name, the first of those that have it
abbrev pub named_in : List Verb → Text → Option Verb
named_in [] text = None
named_in (v ∷ vs) text = cond (bytes_eq text (name v)) (Some v) (named_in vs text)

abbrev pub verb_of : Text → Option Verb
verb_of text = named_in verbs text

-- ---- the command that `clap` parses

abbrev pub with_rules : App → List Rule → App
with_rules app [] = app
with_rules app (rule ∷ rules) = with_rules (with_rule app rule) rules

-- a command of this name without help and version flags
abbrev pub bare : Text → App
bare name =
    on_top (λ top. record top { disable_help_flag = true; disable_version_flag = true })
    (new_app name)

abbrev pub app : Verb → App
app v = with_rules (bare (name v)) (arguments v)
