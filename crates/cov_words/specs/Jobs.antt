-- What a command line means: the job that it names, if `clap` takes it.
use Rattle.std.specs.Prelude.{◌≡◌, ◌≤◌, ℕ, Bool, true, false, cond, List, [], ◌∷◌, codes, Option, Some, None, option_map, option_and_then, unwrap_or}
use Rattle.std.specs.Option.{option_map_or}
use Rattle.std.specs.Str.{bytes_eq}
use Rattle.std.specs.Str.Parse.{digits_value, without_leading_plus}
use Rattle.clap.specs.Faults.{fault_of, is_simple_and_free}
use Rattle.clap.specs.Simple.{matches_of}
use Rattle.clap.specs.ValueTests.{is_unsigned_in}
use Rattle.clap.specs.Walk.{Row, Text, first_of, is_empty, rows_of}
use Rattle.clap.specs.Kinds.{Kinds}
use Rattle.clap.specs.Matches.{found_of}
use Rattle.clap.specs.declared.parser.matches.ArgMatches.{ArgMatches}
use Rattle.cov_words.specs.Commands.{app, verb_of}
use Rattle.cov_words.specs.declared.job.Job.{Job}
use Rattle.cov_words.specs.declared.job.Verb.{Verb}
use Rattle.cov_words.specs.declared.job.Verb.TheVariants as verb
use Rattle.cov_words.specs.declared.limits.TheConstants.{LEAST_WIDTH, MOST_WIDTH, DEFAULT_WIDTH, LEAST_LENGTH, MOST_LENGTH, DEFAULT_LENGTH, LEAST_K, MOST_K, DEFAULT_K, MOST_BUDGET, DEFAULT_BUDGET, LEAST_NUMBER, MOST_OBLIGATION, MOST_SIZE}

-- A job, its texts as bytes. The job's `length` is called `most_edges` here, where `length` is that
-- of a list.
pub record Asked : Type 0 where
  pub verb : Verb
  pub first : Text
  pub second : Text
  pub third : Text
  pub fourth : Text
  pub number : ℕ
  pub main : Option Text
  pub width : ℕ
  pub most_edges : ℕ
  pub k : ℕ
  pub budget : ℕ
  pub out : Option Text
  pub json : Bool

abbrev pub asked : Job → Asked
asked job = record {
  verb = job.verb;
  first = job.first.now;
  second = job.second.now;
  third = job.third.now;
  fourth = job.fourth.now;
  number = job.number;
  main = option_map (λ s. s.now) job.main;
  width = job.width;
  most_edges = job.length;
  k = job.k;
  budget = job.budget;
  out = option_map (λ s. s.now) job.out;
  json = job.json;
}

-- the numbers of a job are in their ranges, also those that its command doesn't take
pub record IsInRange (job : Asked) : Type 0 where
  pub narrowest : LEAST_WIDTH ≤ job.width
  pub widest : job.width ≤ MOST_WIDTH
  pub shortest : LEAST_LENGTH ≤ job.most_edges
  pub longest : job.most_edges ≤ MOST_LENGTH
  pub fewest : LEAST_K ≤ job.k
  pub most : job.k ≤ MOST_K
  pub budget : job.budget ≤ MOST_BUDGET

-- what `clap` found, a row for each argument that has a value
abbrev pub rows_in : ArgMatches → List Row
rows_in matches = rows_of (found_of matches)

-- the text of an argument, or the empty text
abbrev pub text_in : List Row → Text → Text
text_in rows id = unwrap_or (first_of id rows) []

-- The number that a text names, with or without a plus and leading zeros, if it lies in a range.
-- The test repeats that of the argument's reader, which `clap` asks of what it takes.
abbrev pub number_within : ℕ → ℕ → Text → Option ℕ
number_within least most text =
    cond (is_unsigned_in least most text) (Some (digits_value 10 (without_leading_plus text))) None

-- the number of an argument, or its default where it isn't given, if it lies in a range
abbrev pub number_in : List Row → Text → ℕ → ℕ → ℕ → Option ℕ
number_in rows id least most default =
    option_map_or (number_within least most) (first_of id rows) (Some default)

abbrev pub is_set : List Row → Text → Bool
is_set rows id = option_map_or (λ text. bytes_eq text (codes "true")) (first_of id rows) false

-- the most that OBLIGATION or N may be
abbrev pub most_number : Verb → ℕ
most_number verb.Make = MOST_SIZE
most_number v = MOST_OBLIGATION

abbrev pub number_of : Verb → List Row → Option ℕ
number_of v rows = number_in rows (codes "number") LEAST_NUMBER (most_number v) 0

abbrev pub width_of : List Row → Option ℕ
width_of rows = number_in rows (codes "width") LEAST_WIDTH MOST_WIDTH DEFAULT_WIDTH

abbrev pub most_edges_of : List Row → Option ℕ
most_edges_of rows = number_in rows (codes "length") LEAST_LENGTH MOST_LENGTH DEFAULT_LENGTH

abbrev pub most_instants_of : List Row → Option ℕ
most_instants_of rows = number_in rows (codes "k") LEAST_K MOST_K DEFAULT_K

abbrev pub budget_of : List Row → Option ℕ
budget_of rows = number_in rows (codes "budget") 0 MOST_BUDGET DEFAULT_BUDGET

-- the job that matches give to a command, if each number lies in its range
abbrev pub job_of : Verb → List Row → Option Asked
job_of v rows =
    option_and_then (λ number. option_and_then (λ width. option_and_then (λ most_edges.
    option_and_then (λ k. option_map (λ budget. record {
      verb = v;
      first = text_in rows (codes "first");
      second = text_in rows (codes "second");
      third = text_in rows (codes "third");
      fourth = [];
      number = number;
      main = first_of (codes "main") rows;
      width = width;
      most_edges = most_edges;
      k = k;
      budget = budget;
      out = first_of (codes "out") rows;
      json = is_set rows (codes "json");
    }) (budget_of rows)) (most_instants_of rows)) (most_edges_of rows)) (width_of rows))
    (number_of v rows)

-- the kinds of refusal that `clap` has for the words of a command, the first of which is its name
unfoldable pub refusals : Verb → List Text → Kinds
refusals v args = fault_of (app v) args

-- the matches that `clap` has for them
unfoldable pub matches : Verb → List Text → List Row
matches v args = matches_of (app v) args

-- What `clap` answers to each command line is determined: each command is simple, and none of its
-- arguments has a rule on another one.
abbrev pub AreDetermined : Type 0
AreDetermined = (v : Verb) → is_simple_and_free (app v) ≡ true

-- `clap` has no refusal for them
abbrev pub is_taken : Verb → List Text → Bool
is_taken v args = is_empty (refusals v args)

-- the job of a command, if `clap` takes what is asked of it
abbrev pub job_by : Verb → List Text → Option Asked
job_by v args = cond (is_taken v args) (job_of v (matches v args)) None

-- the job that a command line names: its first word is the command
abbrev pub meaning : List Text → Option Asked
meaning [] = None
meaning (name ∷ args) = option_and_then (λ v. job_by v (name ∷ args)) (verb_of name)

-- each job that a command line names is in range
abbrev pub AreInRange : Type 0
AreInRange = (words : List Text) (job : Asked) → meaning words ≡ Some job → IsInRange job
