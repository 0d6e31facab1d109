-- Literals that come through a port are of variables of the formula.
use Rattle.std.proofs.Common.{ℕ, ◌<◌, zero, suc, Bool, true, false, Option}
use Rattle.std.specs.Prelude.{IfSome}
use Rattle.cnf_form.specs.declared.lit.Lit.{Lit}
use Rattle.op_network.specs.declared.form.Binary.{Binary}
use Rattle.op_network.specs.declared.form.Binary.TheVariants as two
use Rattle.op_network.specs.declared.form.Form.{Form}
use Rattle.op_network.specs.declared.form.Form.TheVariants.{Input, Const, One, Two, Ite, Arrow, Pre}
use Rattle.unroll_cnf.specs.Made.{Streams, word_at}
use Rattle.unroll_cnf.specs.Unrolled.{only}
use Rattle.unroll_cnf.proofs.Placing.{turned_below}
use Rattle.goal_cnf.specs.Activity.{as_pinned}
use Rattle.goal_cnf.specs.Made.{HasConditionBits}
use Rattle.goal_cnf.specs.Observation.{binary_unmasked, if_unmasked, unmasked_by}

pub asked_below : (n : ℕ) (value : Bool) (bit : Lit) → bit.var < n → (as_pinned value bit).var < n
asked_below n true bit lt = lt
asked_below n false bit lt = turned_below n bit lt

abbrev pub AnyBelow : ℕ → Option Lit → Type 0
AnyBelow n u = IfSome u (λ (l : Lit). l.var < n)

binary_below : (n : ℕ) (o : Binary) (port : ℕ) (a b : Lit) → a.var < n → b.var < n → AnyBelow n (binary_unmasked o port a b)
binary_below n two.And zero a b p q = q
binary_below n two.And (suc port) a b p q = p
binary_below n two.Or zero a b p q = turned_below n b q
binary_below n two.Or (suc port) a b p q = turned_below n a p
binary_below n two.Imp zero a b p q = turned_below n b q
binary_below n two.Imp (suc port) a b p q = p
binary_below n two.Xor port a b p q = tt
binary_below n two.Eq port a b p q = tt
binary_below n two.Ne port a b p q = tt
binary_below n two.Lt port a b p q = tt
binary_below n two.Le port a b p q = tt
binary_below n two.Gt port a b p q = tt
binary_below n two.Ge port a b p q = tt
binary_below n two.Add port a b p q = tt
binary_below n two.Sub port a b p q = tt
binary_below n two.Mul port a b p q = tt

if_below : (n port : ℕ) (a : Lit) → a.var < n → AnyBelow n (if_unmasked port a)
if_below n zero a p = tt
if_below n (suc zero) a p = p
if_below n (suc (suc port)) a p = turned_below n a p

pub unmasked_below : (un : Streams) (t n : ℕ) (form : Form) (port : ℕ) → HasConditionBits un t n form → AnyBelow n (unmasked_by form port (word_at un.words t))
unmasked_below un t n (Input i) port h = tt
unmasked_below un t n (Const v) port h = tt
unmasked_below un t n (One o a) port h = tt
unmasked_below un t n (Two o a b) port h = binary_below n o port (only (word_at un.words t a.0)) (only (word_at un.words t b.0)) h.0.below h.1.below
unmasked_below un t n (Ite a b c) port h = if_below n port (only (word_at un.words t a.0)) h.below
unmasked_below un t n (Arrow a b) port h = tt
unmasked_below un t n (Pre a) port h = tt
