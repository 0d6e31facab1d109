-- The bits that the code reads are there, and of variables of the formula.
use Rattle.std.proofs.Common.{◌≡◌, ℕ, zero, suc, ◌<◌, ◌≤◌, List, [], ◌∷◌, length, get_or, refl, sym, ap, ◌∙◌, arith, Option, Some, None}
use Rattle.std.specs.Prelude.{slice_get}
use Rattle.std.specs.Option.{option_map}
use Rattle.std.proofs.lemmas.Option.{slice_get_read}
use Rattle.cnf_form.specs.declared.lit.Lit.{Lit}
use Rattle.op_network.specs.declared.edge.Edge.{Edge}
use Rattle.op_network.specs.declared.edge.EdgeId.{EdgeId}
use Rattle.op_network.specs.declared.edge.Parts.{Parts}
use Rattle.op_network.specs.declared.form.Form.{Form}
use Rattle.op_network.specs.declared.form.Form.TheVariants.{Input, Const, One, Two, Ite, Arrow, Pre}
use Rattle.op_network.specs.Operators.{form_of, operands_by, operands_of, operands_in}
use Rattle.op_network.specs.Valid.{type_of}
use Rattle.op_network.proofs.Typing.{operand_inside}
use Rattle.bit_blast.proofs.Made.{within}
use Rattle.unroll_cnf.specs.Made.{AreWords, Streams, word_at}
use Rattle.unroll_cnf.proofs.Placing.{bits_some, only_below}
use Rattle.goal_cnf.specs.Activity.{lit_at, begin_by}
use Rattle.goal_cnf.specs.Made.{HasBitBelow, HasConditionBits, CanRead, AreLits, ArePast, HasPlace, HasPastLit}

module _ (parts : Parts) (un : Streams) (t n : ℕ) (can : CanRead parts un t n) where
  -- the words of the instant
  pub words_there : AreWords parts un.formula.vars (get_or un.words t [])
  words_there = can.streams.words t [] (omega (arith, can.streams.rows, can.instant))

  -- each edge has a bit
  pub bit_there : (e : EdgeId) → e.0 < length parts.edges → HasBitBelow un t n e
  bit_there e lt = go (slice_get parts.edges e.0) refl
    where
      go : (o : Option Edge) → slice_get parts.edges e.0 ≡ o → HasBitBelow un t n e
      go None is = absurd (omega (arith, absent parts.edges e.0 is))
        where
          absent : (edges : List Edge) (i : ℕ) → slice_get edges i ≡ None → length edges ≤ i
          absent [] i is = omega arith
          absent (x ∷ edges) zero is = absurd (cc)
          absent (x ∷ edges) (suc i) is = omega (arith, absent edges i is)
      go (Some edge) is =
          let ty : type_of parts.edges e ≡ Some edge.ty = ap (option_map (λ (x : Edge). x.ty)) is in
          let size = words_there.size e edge.ty ty in
          let below = within un.formula.vars (word_at un.words t e.0) (words_there.below e edge.ty ty) in
          record {
            bit = record {
              edge = omega (arith, can.streams.edges);
              instant = can.instant;
              some = omega (arith, size, bits_some parts edge.ty (omega (arith, can.streams.valid.narrowest)));
            };
            below = omega (arith, only_below un.formula.vars (word_at un.words t e.0) can.streams.some below, can.grown);
          }

  operand_there : (e : EdgeId) (port : ℕ) (a : EdgeId) (form : Form) → operands_of parts.edges e ≡ operands_by form → slice_get (operands_by form) port ≡ Some a → HasBitBelow un t n a
  operand_there e port a form same is = bit_there a (operand_inside parts e a port can.streams.valid.typed (ap (λ (l : List EdgeId). slice_get l port) same ∙ is))

  -- the bits of a step condition are there
  pub condition_bits : (e : EdgeId) (form : Form) → operands_of parts.edges e ≡ operands_by form → HasConditionBits un t n form
  condition_bits e (Input i) same = tt
  condition_bits e (Const v) same = tt
  condition_bits e (One o a) same = tt
  condition_bits e (Two o a b) same = (operand_there e 0 a (Two o a b) same refl, operand_there e 1 b (Two o a b) same refl)
  condition_bits e (Ite a b c) same = operand_there e 0 a (Ite a b c) same refl
  condition_bits e (Arrow a b) same = tt
  condition_bits e (Pre a) same = tt

  pub some_vars : 0 < n
  some_vars = omega (arith, can.streams.some, can.grown)

pub can_later : (parts : Parts) (un : Streams) (t n m : ℕ) → CanRead parts un t n → n ≤ m → CanRead parts un t m
can_later parts un t n m can le = record { streams = can.streams; instant = can.instant; grown = omega (arith, can.grown) }

pub operands_are : (edges : List Edge) (e : EdgeId) (edge : Edge) (form : Form) → slice_get edges e.0 ≡ Some edge → form ≡ form_of edge.op → operands_of edges e ≡ operands_by form
operands_are edges e edge form is f = ap operands_in is ∙ ap operands_by (sym f)

-- ---- literals

pub lit_below : (size n : ℕ) (lits : List Lit) (i : ℕ) → AreLits size n lits → i < size → (lit_at lits i).var < n
lit_below size n lits i are lt = are.below i _ (omega (arith, are.size))

pub lits_later : (size n m : ℕ) (lits : List Lit) → AreLits size n lits → n ≤ m → AreLits size m lits
lits_later size n m lits are le = record { size = are.size; below = λ j d lt. omega (arith, are.below j d lt) }

pub past_later : (size n m : ℕ) (past : Option (List Lit)) → ArePast size n past → n ≤ m → ArePast size m past
past_later size n m None are le = tt
past_later size n m (Some lits) are le = lits_later size n m lits are le

pub past_there : (size n : ℕ) (past : Option (List Lit)) (i : ℕ) → ArePast size n past → i < size → HasPastLit n past i
past_there size n None i are lt = tt
past_there size n (Some lits) i are lt = (omega (arith, are.size), lit_below size n lits i are lt)

pub past_placed : (n : ℕ) (past : Option (List Lit)) (i : ℕ) → HasPastLit n past i → HasPlace past i
past_placed n None i h = tt
past_placed n (Some lits) i h = h.0

-- with what a place begins is of a variable of the formula
pub begin_below : (n : ℕ) (form : Form) (port : ℕ) (shorter : Lit) (past : Option (List Lit)) (place : ℕ) → 0 < n → shorter.var < n → HasPastLit n past place → (begin_by form port shorter (option_map (λ (ls : List Lit). lit_at ls place) past)).var < n
begin_below n (Input i) port shorter past place some lt h = lt
begin_below n (Const v) port shorter past place some lt h = lt
begin_below n (One o a) port shorter past place some lt h = lt
begin_below n (Two o a b) port shorter past place some lt h = lt
begin_below n (Ite a b c) port shorter past place some lt h = lt
begin_below n (Arrow a b) zero shorter None place some lt h = lt
begin_below n (Arrow a b) zero shorter (Some ls) place some lt h = some
begin_below n (Arrow a b) (suc port) shorter None place some lt h = some
begin_below n (Arrow a b) (suc port) shorter (Some ls) place some lt h = lt
begin_below n (Pre a) port shorter None place some lt h = some
begin_below n (Pre a) port shorter (Some ls) place some lt h = h.1

-- an edge that was read
pub edge_read : (edges read : List Edge) (e : EdgeId) (edge : Edge) → read ≡ edges → e.0 < length edges → edge ≡ get_or read e.0 edge → slice_get edges e.0 ≡ Some edge
edge_read edges read e edge same lt is = slice_get_read edges (length edges) e.0 edge refl lt (is ∙ ap (λ (l : List Edge). get_or l e.0 edge) same)
