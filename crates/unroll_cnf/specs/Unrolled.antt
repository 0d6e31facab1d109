-- The formula of an unrolled network: a word for each edge at each instant, and the gates between
-- them.
use Rattle.std.specs.Prelude.{ℕ, zero, suc, nat_eq, if◌then◌else◌, List, [], ◌∷◌, ◌++◌, Option, Some, None, slice_get}
use Rattle.cnf_form.specs.declared.lit.Lit.{Lit}
use Rattle.cnf_form.specs.Lits.{turned}
use Rattle.cnf_form.specs.Shape.{Shape, shape}
use Rattle.op_network.specs.declared.edge.Edge.{Edge}
use Rattle.op_network.specs.declared.edge.EdgeId.{EdgeId}
use Rattle.op_network.specs.declared.edge.Parts.{Parts}
use Rattle.op_network.specs.declared.form.Unary.{Unary}
use Rattle.op_network.specs.declared.form.Unary.TheVariants as one
use Rattle.op_network.specs.declared.form.Binary.{Binary}
use Rattle.op_network.specs.declared.form.Binary.TheVariants as two
use Rattle.op_network.specs.declared.form.Form.{Form}
use Rattle.op_network.specs.declared.form.Form.TheVariants.{Input, Const, One, Two, Ite, Arrow, Pre}
use Rattle.op_network.specs.declared.value.Ty.{Ty}
use Rattle.op_network.specs.Operators.{form_of}
use Rattle.op_network.specs.Values.{default}
use Rattle.bit_blast.specs.Circuit.{Entry, Free, Require, Circuit, yes, no, after, with_entries}
use Rattle.bit_blast.specs.Circuit as gate
use Rattle.bit_blast.specs.Words.{fresh, ite, add, subtract, multiply, negate, equal, less, inverted}
use Rattle.unroll_cnf.specs.Sizes.{bits_of}
use Rattle.unroll_cnf.specs.Values.{value_word, excluded}

-- a word for each edge of an instant, by its place
abbrev pub Table : Type 0
Table = ℕ → List Lit

abbrev pub no_words : Table
no_words e = []

-- a table with the word of one edge set
abbrev pub put : Table → ℕ → List Lit → Table
put now e word k = if nat_eq k e then word else now k

-- ---- an operator at an instant

-- the only bit of a truth
abbrev pub only : List Lit → Lit
only [] = no 0
only (l ∷ a) = l

-- a word without a gate
abbrev pub wired : List Lit → Circuit (List Lit)
wired a = record { entries = []; result = a }

-- one gate
abbrev pub one_gate : ℕ → Entry → Circuit (List Lit)
one_gate n e = record { entries = e ∷ []; result = yes n ∷ [] }

-- the word of one literal, and that of its negation
abbrev pub one_bit : Circuit Lit → Circuit (List Lit)
one_bit c = record { entries = c.entries; result = c.result ∷ [] }

abbrev pub turned_bit : Circuit Lit → Circuit (List Lit)
turned_bit c = record { entries = c.entries; result = turned c.result ∷ [] }

-- an operator with one operand
abbrev pub unary_circuit : ℕ → Unary → List Lit → Circuit (List Lit)
unary_circuit n one.Id a = wired a
unary_circuit n one.Not a = wired (inverted a)
unary_circuit n one.Neg a = negate n a

-- an operator with two operands
abbrev pub binary_circuit : ℕ → Binary → List Lit → List Lit → Circuit (List Lit)
binary_circuit n two.And a b = one_gate n (gate.And (only a) (only b))
binary_circuit n two.Or a b = one_gate n (gate.Or (only a) (only b))
binary_circuit n two.Xor a b = one_gate n (gate.Xor (only a) (only b))
binary_circuit n two.Imp a b = one_gate n (gate.Or (turned (only a)) (only b))
binary_circuit n two.Eq a b = one_bit (equal n a b)
binary_circuit n two.Ne a b = turned_bit (equal n a b)
binary_circuit n two.Lt a b = one_bit (less n a b)
binary_circuit n two.Le a b = turned_bit (less n b a)
binary_circuit n two.Gt a b = one_bit (less n b a)
binary_circuit n two.Ge a b = turned_bit (less n a b)
binary_circuit n two.Add a b = add n a b
binary_circuit n two.Sub a b = subtract n a b
binary_circuit n two.Mul a b = multiply n a b

-- an input: free bits, and for a choice those of an enumerator
abbrev pub input_circuit : Parts → ℕ → Ty → Circuit (List Lit)
input_circuit parts n ty =
    let word = fresh n (bits_of parts ty) in
    record { entries = word.entries ++ excluded parts ty word.result; result = word.result }

-- the word of `a -> b`: at instant 0, before which there is no table, that of a, later that of b
abbrev pub arrow_word : Option Table → List Lit → List Lit → List Lit
arrow_word None a b = a
arrow_word (Some before) a b = b

-- the word of `pre a`: at instant 0 the default of its type, later that of a at the instant before
abbrev pub pre_word : Parts → Option Table → Ty → EdgeId → List Lit
pre_word parts None ty a = value_word parts (default ty) ty
pre_word parts (Some before) ty a = before a.0

-- an operator of a form and a type, behind the words of the instant before and those of the instant
abbrev pub circuit_by : Parts → ℕ → Form → Ty → Option Table → Table → Circuit (List Lit)
circuit_by parts n (Input i) ty before now = input_circuit parts n ty
circuit_by parts n (Const v) ty before now = wired (value_word parts v ty)
circuit_by parts n (One o a) ty before now = unary_circuit n o (now a.0)
circuit_by parts n (Two o a b) ty before now = binary_circuit n o (now a.0) (now b.0)
circuit_by parts n (Ite a b c) ty before now = ite n (only (now a.0)) (now b.0) (now c.0)
circuit_by parts n (Arrow a b) ty before now = wired (arrow_word before (now a.0) (now b.0))
circuit_by parts n (Pre a) ty before now = wired (pre_word parts before ty a)

-- ---- instants

abbrev pub circuit_in : Parts → ℕ → Option Edge → Option Table → Table → Circuit (List Lit)
circuit_in parts n None before now = wired []
circuit_in parts n (Some edge) before now = circuit_by parts n (form_of edge.op) edge.ty before now

-- an edge at an instant
abbrev pub edge_circuit : Parts → ℕ → EdgeId → Option Table → Table → Circuit (List Lit)
edge_circuit parts n e before now = circuit_in parts n (slice_get parts.edges e.0) before now

-- the edges of a list one after the other, behind the words that are there
abbrev pub instant : Parts → Option Table → ℕ → Table → List EdgeId → Circuit Table
instant parts before n now [] = record { entries = []; result = now }
instant parts before n now (e ∷ order) =
    let one = edge_circuit parts n e before now in
    let rest = instant parts before (after n one.entries) (put now e.0 one.result) order in
    record { entries = one.entries ++ rest.entries; result = rest.result }

-- so many instants behind the words of the instant before
abbrev pub instants : Parts → List EdgeId → Option Table → ℕ → ℕ → Circuit (List Table)
instants parts order before n zero = record { entries = []; result = [] }
instants parts order before n (suc k) =
    let one = instant parts before n no_words order in
    let rest = instants parts order (Some one.result) (after n one.entries) k in
    record { entries = one.entries ++ rest.entries; result = one.result ∷ rest.result }

-- The first part of the formula of a goal: variable 0, which is true, and then k instants, each
-- with all edges in order.
abbrev pub first_part : Parts → List EdgeId → ℕ → Circuit (List Table)
first_part parts order k =
    let all = instants parts order None 1 k in
    record { entries = Free ∷ Require (yes 0 ∷ []) ∷ all.entries; result = all.result }

abbrev pub unrolled : Parts → List EdgeId → ℕ → Shape
unrolled parts order k = with_entries (shape 0 []) (first_part parts order k).entries

-- the words of each instant
abbrev pub words : Parts → List EdgeId → ℕ → List Table
words parts order k = (first_part parts order k).result
