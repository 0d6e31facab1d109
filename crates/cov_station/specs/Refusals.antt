-- What the refusals say: their statuses and their lines.
use Rattle.std.specs.Prelude.{ℕ, ◌+◌, List, [], ◌∷◌, ◌++◌, codes, decimal}
use Rattle.cnf_form.specs.declared.dimacs.DimacsKind.{DimacsKind}
use Rattle.cnf_form.specs.declared.dimacs.DimacsKind.TheVariants as dimacs
use Rattle.cnf_form.specs.Limits.{most_vars}
use Rattle.lus_types.specs.declared.fault.TypeKind.{TypeKind}
use Rattle.lus_types.specs.declared.fault.TypeKind.TheVariants as typing
use Rattle.proof_check.specs.declared.lrat.LratKind.{LratKind}
use Rattle.proof_check.specs.declared.lrat.LratKind.TheVariants as lrat
use Rattle.proof_check.specs.declared.step.StepKind.{StepKind}
use Rattle.proof_check.specs.declared.step.StepKind.TheVariants as step
use Rattle.suite_file.specs.declared.fault.SuiteKind.{SuiteKind}
use Rattle.suite_file.specs.declared.fault.SuiteKind.TheVariants as suite
use Rattle.cov_station.specs.declared.refusal.Quantity.{Quantity}
use Rattle.cov_station.specs.declared.refusal.Quantity.TheVariants.{Bytes, Operators, Calls, Edges, Paths, Obligations, Tests, Instants}
use Rattle.cov_station.specs.declared.refusal.Refusal.{Refusal}
use Rattle.cov_station.specs.declared.refusal.Refusal.TheVariants.{Usage, NoFile, CannotRead, BadByte, OpenComment, WideLiteral, Syntax, Typing, Cycle, OverLimit, ManyVariables, Suite, Formula, Proof, RefusedStep, Memory}
use Rattle.cov_station.specs.declared.status.Status.{Status}
use Rattle.cov_station.specs.declared.status.Status.TheVariants as status

abbrev pub status_of : Refusal → Status
status_of Usage = status.Usage
status_of (NoFile name) = status.Missing
status_of (CannotRead name) = status.ReadFault
status_of (BadByte at) = status.Source
status_of (OpenComment at) = status.Source
status_of (WideLiteral at) = status.Source
status_of (Syntax at) = status.Source
status_of (Typing kind at) = status.Source
status_of (Cycle edge) = status.Source
status_of (OverLimit quantity most) = status.Limit
status_of (ManyVariables count) = status.Limit
status_of (Suite kind record') = status.Unreadable
status_of (Formula kind line) = status.Unreadable
status_of (Proof kind line) = status.Unreadable
status_of (RefusedStep kind number) = status.Refused
status_of Memory = status.Memory

-- the word of a quantity that has a limit
abbrev pub word_of : Quantity → List ℕ
word_of Bytes = codes "bytes"
word_of Operators = codes "operators"
word_of Calls = codes "calls"
word_of Edges = codes "edges"
word_of Paths = codes "paths"
word_of Obligations = codes "obligations"
word_of Tests = codes "tests"
word_of Instants = codes "instants"

abbrev pub type_fault : TypeKind → List ℕ
type_fault typing.Clocked = codes "clocked"
type_fault typing.Unsupported = codes "unsupported"
type_fault typing.Duplicate = codes "duplicate"
type_fault typing.Unknown = codes "unknown"
type_fault typing.NotANode = codes "not a node"
type_fault typing.Arity = codes "arity"
type_fault typing.Mismatch = codes "mismatch"
type_fault typing.LiteralRange = codes "literal out of range"
type_fault typing.Undefined = codes "undefined"
type_fault typing.DefinedTwice = codes "defined twice"
type_fault typing.DefinesInput = codes "defines an input"
type_fault typing.RecursiveNode = codes "recursive node"
type_fault typing.NoMain = codes "no main"

abbrev pub suite_fault : SuiteKind → List ℕ
suite_fault suite.NoHeader = codes "no header"
suite_fault suite.NoTestColumn = codes "no test column"
suite_fault suite.UnknownColumn = codes "unknown column"
suite_fault suite.RepeatedColumn = codes "repeated column"
suite_fault suite.MissingColumn = codes "missing column"
suite_fault suite.Width = codes "width"
suite_fault suite.BadName = codes "bad name"
suite_fault suite.SplitTest = codes "split test"
suite_fault suite.BadValue = codes "bad value"

abbrev pub dimacs_fault : DimacsKind → List ℕ
dimacs_fault dimacs.BadHeader = codes "bad header"
dimacs_fault dimacs.BadWord = codes "bad word"
dimacs_fault dimacs.Range = codes "range"
dimacs_fault dimacs.NoHeader = codes "no header"
dimacs_fault dimacs.OpenClause = codes "open clause"
dimacs_fault dimacs.Count = codes "count"

abbrev pub lrat_fault : LratKind → List ℕ
lrat_fault lrat.BadWord = codes "bad word"
lrat_fault lrat.NoZero = codes "no zero"
lrat_fault lrat.Extra = codes "extra word"

abbrev pub step_fault : StepKind → List ℕ
step_fault step.OldId = codes "old id"
step_fault step.UnknownId = codes "unknown id"
step_fault step.RatHint = codes "rat hint"
step_fault step.NotUnit = codes "not unit"
step_fault step.Satisfied = codes "satisfied"
step_fault step.NotClosed = codes "not closed"
step_fault step.NoEmpty = codes "no empty clause"

-- a kind of fault with the byte where it stands
abbrev pub at_byte : List ℕ → ℕ → List ℕ
at_byte kind at = kind ++ (codes " at byte " ++ decimal at)

-- a kind of fault with the number of what is at fault
abbrev pub numbered : List ℕ → ℕ → List ℕ → List ℕ
numbered what number kind = what ++ (decimal number ++ (codes ": " ++ kind))

-- a count that is over its limit
abbrev pub over_limit : List ℕ → ℕ → ℕ → List ℕ
over_limit word count most = codes "limit: " ++ (word ++ (codes " " ++ (decimal count ++ (codes " > " ++ decimal most))))

-- What a refusal says; want of memory says nothing. The count of a quantity is the first one over the limit, which is
-- one more; that of variables is the whole.
abbrev pub message_of : Refusal → List ℕ
message_of Usage = codes "usage"
message_of (NoFile name) = codes "no file " ++ name
message_of (CannotRead name) = codes "cannot read " ++ name
message_of (BadByte at) = at_byte (codes "bad byte") at
message_of (OpenComment at) = at_byte (codes "open comment") at
message_of (WideLiteral at) = at_byte (codes "wide literal") at
message_of (Syntax at) = at_byte (codes "syntax") at
message_of (Typing kind at) = at_byte (type_fault kind) at
message_of (Cycle edge) = codes "cycle at " ++ edge
message_of (OverLimit quantity most) = over_limit (word_of quantity) (most + 1) most
message_of (ManyVariables count) = over_limit (codes "variables") count most_vars
message_of (Suite kind record') = numbered (codes "suite record ") record' (suite_fault kind)
message_of (Formula kind line) = numbered (codes "cnf line ") line (dimacs_fault kind)
message_of (Proof kind line) = numbered (codes "proof line ") line (lrat_fault kind)
message_of (RefusedStep kind number) = numbered (codes "proof refused at step ") number (step_fault kind)
message_of Memory = []

abbrev pub line_of : Refusal → List ℕ
line_of why = codes "lustrocov: " ++ (message_of why ++ 10 ∷ [])
