-- What the code makes of a network, and what it asks for.
use Rattle.std.specs.Prelude.{◌≡◌, ◌≢◌, ℕ, ◌+◌, ◌-◌, ◌*◌, ◌<◌, ◌≤◌, List, [], ◌∷◌, length, map, Option, Some, None, slice_get, slice_index_or, Contains, All}
use Rattle.cnf_form.specs.declared.lit.Lit.{Lit}
use Rattle.cnf_form.specs.Limits.{most_vars}
use Rattle.cnf_form.specs.Shape.{Shape}
use Rattle.op_network.specs.declared.edge.Edge.{Edge}
use Rattle.op_network.specs.declared.edge.EdgeId.{EdgeId}
use Rattle.op_network.specs.declared.edge.Parts.{Parts}
use Rattle.op_network.specs.declared.form.Form.{Form}
use Rattle.op_network.specs.declared.value.Ty.{Ty}
use Rattle.op_network.specs.Operators.{form_of}
use Rattle.op_network.specs.Valid.{type_of, GivesType}
use Rattle.lus_causality.specs.Causality.{operands_now_by}
use Rattle.bit_blast.specs.Limits.{most_required, clauses_per_var}
use Rattle.bit_blast.specs.Made.{IsBelow}
use Rattle.unroll_cnf.specs.declared.fault.UnrollFault.{UnrollFault}
use Rattle.unroll_cnf.specs.declared.fault.UnrollFault.TheVariants.{TooLarge, Memory}
use Rattle.unroll_cnf.specs.Sizes.{bits_of, size_of}
use Rattle.unroll_cnf.specs.Unrolled.{Table, unrolled, words}

-- ---- words of an instant

-- the word of an edge, in a list with one for each edge
abbrev pub table_of : List (List Lit) → Table
table_of now e = slice_index_or now e []

-- the words of the edge at an instant
abbrev pub word_at : List (List (List Lit)) → ℕ → ℕ → List Lit
word_at all t e = table_of (slice_index_or all t []) e

-- none of these literals is of the variable
abbrev pub AreOthers : ℕ → List Lit → Type 0
AreOthers v [] = Unit {0}
AreOthers v (l ∷ a) = (v ≢ l.var) × AreOthers v a

-- no two literals of a word are of one variable
abbrev pub AreApart : List Lit → Type 0
AreApart [] = Unit {0}
AreApart (l ∷ a) = AreOthers l.var a × AreApart a

-- the words of an instant: one for each edge, of the size of its type and of variables below n
pub record AreWords (parts : Parts) (n : ℕ) (now : List (List Lit)) : Type 0 where
  pub all : length now ≡ length parts.edges
  pub size : (e : EdgeId) (a : Ty) → type_of parts.edges e ≡ Some a
      → length (table_of now e.0) ≡ bits_of parts a
  pub below : (e : EdgeId) (a : Ty) → type_of parts.edges e ≡ Some a
      → IsBelow n (table_of now e.0)

-- the words of the instant before, if there is one
abbrev pub IsPast : Parts → ℕ → Option (List (List Lit)) → Type 0
IsPast parts n None = Unit {0}
IsPast parts n (Some before) = AreWords parts n before

-- an edge has a word among them
abbrev pub IsWithin : Option (List (List Lit)) → EdgeId → Type 0
IsWithin None e = Unit {0}
IsWithin (Some before) e = e.0 < length before

-- the last of the words of some instants
abbrev pub last_of : List (List (List Lit)) → Option (List (List Lit))
last_of all = slice_get all (length all - 1)

-- ---- what an edge asks for

-- the word of an operand is there: of the size of its type, and of variables below n
pub record HasWord (parts : Parts) (n : ℕ) (now : List (List Lit)) (o : EdgeId) : Type 0 where
  pub within : o.0 < length now
  pub size : (a : Ty) → type_of parts.edges o ≡ Some a → length (table_of now o.0) ≡ bits_of parts a
  pub below : IsBelow n (table_of now o.0)

-- an operator is well typed, and the words of its operands at the instant are there
pub record IsReady (parts : Parts) (n : ℕ) (form : Form) (ty : Ty)
    (now : List (List Lit)) : Type 0 where
  pub typed : GivesType parts form ty
  pub operands : (o : EdgeId) → Contains (operands_now_by form) o → HasWord parts n now o

-- so is the operator of an edge
pub record IsEdgeReady (parts : Parts) (n : ℕ) (e : EdgeId) (now : List (List Lit)) : Type 0 where
  pub within : e.0 < length parts.edges
  pub each : (edge : Edge) → slice_get parts.edges e.0 ≡ Some edge
      → IsReady parts n (form_of edge.op) edge.ty now

-- ---- clauses

-- Even where all 2,000,000 variables have their clauses there is room for those that exclude the
-- numbers of no enumerator, at most 256 of each of so many words.
abbrev pub HasRoom : Shape → ℕ → Type 0
HasRoom f words =
    length f.clauses + clauses_per_var * most_vars + 256 * words
    ≤ most_required + clauses_per_var * f.vars

-- a formula has at most the clauses of its new variables more, and those that exclude the numbers of
-- no enumerator, of so many words
abbrev pub Spends : Shape → Shape → ℕ → Type 0
Spends f g words =
    length g.clauses + clauses_per_var * f.vars
    ≤ length f.clauses + clauses_per_var * g.vars + 256 * words

-- ---- the unrolled network

-- The formula, and for each instant and each edge its word.
pub record Streams : Type 0 where
  pub formula : Shape
  pub edges : ℕ
  pub instants : ℕ
  pub words : List (List (List Lit))

-- a list of words for each instant, and in it a word for each edge
pub record IsGrid (edges instants : ℕ) (words : List (List (List Lit))) : Type 0 where
  pub rows : length words ≡ instants
  pub each : All (λ (now : List (List Lit)). length now ≡ edges) words

-- the formula and the words of the network over k instants
pub record IsUnrolled (parts : Parts) (order : List EdgeId) (k : ℕ) (it : Streams) : Type 0 where
  pub formula : it.formula ≡ unrolled parts order k
  pub words : map table_of it.words ≡ words parts order k
  pub edges : it.edges ≡ length parts.edges
  pub instants : it.instants ≡ k

-- why a network is not unrolled
abbrev pub IsRefused : Parts → ℕ → UnrollFault → Type 0
IsRefused parts k (TooLarge size) = (size ≡ size_of parts k) × (most_vars < size)
IsRefused parts k Memory = Unit {0}
