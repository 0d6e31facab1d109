-- The circuits of the operators, by arity: their sizes, and their values.
use Rattle.std.proofs.Common.{◌≡◌, ℕ, ◌^◌, ◌<◌, ◌≤◌, Bool, true, false, not, ◌&&◌, ◌||◌, List, [], ◌∷◌, length, refl, sym, ap, ap₂, ◌∙◌, subst, inl, inr, arith, Some, None}
use Rattle.std.specs.Prelude.{ℤ, ◌+ℤ◌, ◌-ℤ◌, ◌*ℤ◌, neg_ℤ, int_lt}
use Rattle.std.proofs.lemmas.Bool.{cases_Bool, and_parts}
use Rattle.std.proofs.lemmas.Bool.Decides.{nat_tests, Decides-int_eq}
use Rattle.cnf_form.specs.declared.lit.Lit.{Lit}
use Rattle.cnf_form.specs.Lits.{truth, turned}
use Rattle.cnf_form.proofs.LitFacts.{truth-turned}
use Rattle.op_network.specs.declared.edge.Parts.{Parts}
use Rattle.op_network.specs.declared.form.Unary.{Unary}
use Rattle.op_network.specs.declared.form.Unary.TheVariants as one
use Rattle.op_network.specs.declared.form.Binary.{Binary}
use Rattle.op_network.specs.declared.form.Binary.TheVariants as two
use Rattle.op_network.specs.declared.value.Ty.{Ty}
use Rattle.op_network.specs.declared.value.Ty.TheVariants as type
use Rattle.op_network.specs.declared.value.Value.{Value}
use Rattle.op_network.specs.declared.value.Value.TheVariants.{Truth, Word}
use Rattle.op_network.specs.Operators.{is_same_type, over, alike, unary_type, binary_type, unary_value, binary_value}
use Rattle.op_network.specs.Values.{is_true, xor, is_same}
use Rattle.op_network.specs.Values as network
use Rattle.bit_blast.specs.Circuit.{yes, no}
use Rattle.bit_blast.specs.Meaning.{differ}
use Rattle.bit_blast.specs.Words.{add, subtract, multiply, negate, equal, less, inverted, nothing}
use Rattle.bit_blast.specs.Numbers.{bits, number, unsigned, signed, wrap}
use Rattle.bit_blast.proofs.Values.{Obeys}
use Rattle.bit_blast.proofs.Circuits.{truth-yes}
use Rattle.bit_blast.proofs.Numbers.{unsigned_below}
use Rattle.bit_blast.proofs.Sums.{length-sum, length-bits, length-inverted, length-nothing, add_number, subtract_number, negate_number}
use Rattle.bit_blast.proofs.Products.{length-rows, multiply_number}
use Rattle.bit_blast.proofs.Comparisons.{equal_yes, equal_no, less_number}
use Rattle.unroll_cnf.specs.Sizes.{bits_of}
use Rattle.unroll_cnf.specs.Values.{bits_value, first_bit}
use Rattle.unroll_cnf.specs.Unrolled.{only, unary_circuit, binary_circuit}
use Rattle.unroll_cnf.proofs.Bits.{wrap_same, only_value, not_value, word_value, signed_one, unsigned_one}

-- ---- types

pub type_one : (a b : Ty) → is_same_type a b ≡ true → a ≡ b
type_one type.Truth type.Truth e = refl
type_one type.Word type.Word e = refl
type_one (type.Choice c) (type.Choice d) e = ap type.Choice (grind (arith, nat_tests))
type_one type.Truth type.Word e = cc
type_one type.Truth (type.Choice d) e = cc
type_one type.Word type.Truth e = cc
type_one type.Word (type.Choice d) e = cc
type_one (type.Choice c) type.Truth e = cc
type_one (type.Choice c) type.Word e = cc

pub over_types : (operand result a b ty : Ty) → over operand result a b ≡ Some ty → (a ≡ operand) × (b ≡ operand) × (ty ≡ result)
over_types operand result a b ty h = elim (cases_Bool (is_same_type a operand && is_same_type b operand)) [
  | inl t ↦
      let p = and_parts (is_same_type a operand) (is_same_type b operand) t in
      let k : Some result ≡ Some ty = rw t at h in
      (type_one a operand p.0, type_one b operand p.1, (let e : ty ≡ result = cc in e))
  | inr t ↦ let k : None ≡ Some ty = rw t at h in absurd (cc)
]

pub alike_types : (result a b ty : Ty) → alike result a b ≡ Some ty → (a ≡ b) × (ty ≡ result)
alike_types result a b ty h = elim (cases_Bool (is_same_type a b)) [
  | inl t ↦
      let k : Some result ≡ Some ty = rw t at h in
      (type_one a b t, (let e : ty ≡ result = cc in e))
  | inr t ↦ let k : None ≡ Some ty = rw t at h in absurd (cc)
]

-- ---- equality

bool_one : (b c : Bool) → (b ≡ true → c ≡ true) → (c ≡ true → b ≡ true) → b ≡ c
bool_one true c f g = sym (f refl)
bool_one false true f g = g refl
bool_one false false f g = refl

truths_one : (a b : Bool) → not (xor a b) ≡ true → a ≡ b
truths_one true true e = refl
truths_one false false e = refl
truths_one true false e = cc
truths_one false true e = cc

truth_same : (a : Bool) → not (xor a a) ≡ true
truth_same true = refl
truth_same false = refl

one_long : (xs : List Bool) → length xs ≡ 1 → xs ≡ first_bit xs ∷ []
one_long [] e = absurd (omega arith)
one_long (x ∷ []) e = refl
one_long (x ∷ y ∷ xs) e = absurd (omega arith)

-- bits of one length are one value of a type where they are the same bits
values_one : (parts : Parts) (a : Ty) (xs ys : List Bool) → length xs ≡ bits_of parts a → length ys ≡ bits_of parts a → is_same (bits_value a xs) (bits_value a ys) ≡ true → xs ≡ ys
values_one parts type.Truth xs ys k l e =
    one_long xs k ∙ (ap (λ (x : Bool). x ∷ []) (truths_one (first_bit xs) (first_bit ys) e) ∙ sym (one_long ys l))
values_one parts type.Word xs ys k l e =
    let same : signed (length xs) (unsigned xs) ≡ signed (length ys) (unsigned ys) = (Decides-int_eq (signed (length xs) (unsigned xs)) (signed (length ys) (unsigned ys))).0 e in
    let long : length ys ≡ length xs = l ∙ sym k in
    unsigned_one xs ys (k ∙ sym l)
    (signed_one (length xs) (unsigned xs) (unsigned ys) (unsigned_below xs) (subst (λ n. unsigned ys < 2 ^ n) long (unsigned_below ys)) (same ∙ ap (λ n. signed n (unsigned ys)) long))
values_one parts (type.Choice c) xs ys k l e = unsigned_one xs ys (k ∙ sym l) (grind (arith, nat_tests))

value_same : (a : Ty) (xs : List Bool) → is_same (bits_value a xs) (bits_value a xs) ≡ true
value_same type.Truth xs = truth_same (first_bit xs)
value_same type.Word xs = (Decides-int_eq (signed (length xs) (unsigned xs)) (signed (length xs) (unsigned xs))).1 refl
value_same (type.Choice c) xs = grind (arith, nat_tests)

-- ---- values

module _ (parts : Parts) (v : ℕ → Bool) (one_true : v 0 ≡ true) (wide : 1 ≤ parts.width) where
  abbrev value_at : Ty → List Lit → Value
  value_at ty a = bits_value ty (bits v a)

  -- the literal of an equality is the equality of the values
  equal_value : (n : ℕ) (a : Ty) (p q : List Lit) → length p ≡ bits_of parts a → length q ≡ bits_of parts a → Obeys v n (equal n p q).entries → truth v (equal n p q).result ≡ is_same (value_at a p) (value_at a q)
  equal_value n a p q k l o =
      let e : length p ≡ length q = k ∙ sym l in
      bool_one (truth v (equal n p q).result) (is_same (value_at a p) (value_at a q))
      (λ t. subst (λ xs. is_same (value_at a p) (bits_value a xs) ≡ true) (equal_yes v n p q one_true e o t) (value_same a (bits v p)))
      (λ t. equal_no v n p q one_true e o (values_one parts a (bits v p) (bits v q) (length-bits v p ∙ k) (length-bits v q ∙ l) t))

  number_at : (p : List Lit) → number v p ≡ network.number (value_at type.Word p)
  number_at p = sym (word_value v p)

  -- the literal of an order is the order of the numbers
  less_value : (n : ℕ) (p q : List Lit) → length p ≡ parts.width → length q ≡ parts.width → Obeys v n (less n p q).entries → truth v (less n p q).result ≡ int_lt (network.number (value_at type.Word p)) (network.number (value_at type.Word q))
  less_value n p q k l o = less_number v n p q one_true (k ∙ sym l) (omega arith) o ∙ ap₂ int_lt (number_at p) (number_at q)

  -- a word whose number is wrapped
  wrapped : (w : List Lit) (size : ℕ) (x y : ℤ) → size ≡ parts.width → number v w ≡ wrap size x → x ≡ y → value_at type.Word w ≡ Word (network.wrap parts.width y)
  wrapped w size x y s e f = ap Word (word_value v w ∙ (e ∙ (ap₂ wrap s f ∙ wrap_same parts.width y wide)))

  pub unary_law : (o : Unary) (a ty : Ty) (n : ℕ) (p : List Lit) → unary_type o a ≡ Some ty → length p ≡ bits_of parts a → Obeys v n (unary_circuit n o p).entries →
      bits_value ty (bits v (unary_circuit n o p).result) ≡ unary_value parts.width o (bits_value a (bits v p))
  unary_law one.Id a ty n p t k o = let e : ty ≡ a = cc in rw e refl
  unary_law one.Not a ty n p t k o =
      let e = over_types type.Truth type.Truth a a ty t in
      rw (e.2, e.0) (ap Truth (not_value v p (k ∙ ap (bits_of parts) e.0)))
  unary_law one.Neg a ty n p t k o =
      let e = over_types type.Word type.Word a a ty t in
      rw (e.2, e.0) (wrapped (negate n p).result (length p) _ _ (k ∙ ap (bits_of parts) e.0) (negate_number v n p one_true o) (ap neg_ℤ (number_at p)))

  -- a gate over two truths
  truths_law : (a b ty : Ty) (p q : List Lit) (f : Bool → Bool → Bool) (l : Lit) → over type.Truth type.Truth a b ≡ Some ty → length p ≡ bits_of parts a → length q ≡ bits_of parts b → truth v l ≡ f (truth v (only p)) (truth v (only q)) →
      bits_value ty (bits v (l ∷ [])) ≡ Truth (f (is_true (value_at a p)) (is_true (value_at b q)))
  truths_law a b ty p q f l t k m h =
      let e = over_types type.Truth type.Truth a b ty t in
      rw (e.2, e.0, e.1) (ap Truth (h ∙ ap₂ f (only_value v p (k ∙ ap (bits_of parts) e.0)) (only_value v q (m ∙ ap (bits_of parts) e.1))))

  differ_xor : (a b : Bool) → differ a b ≡ xor a b
  differ_xor true true = refl
  differ_xor true false = refl
  differ_xor false true = refl
  differ_xor false false = refl

  -- a comparison of two words
  orders_law : (a b ty : Ty) (p q : List Lit) (l : Lit) (r : Bool) → over type.Word type.Truth a b ≡ Some ty → truth v l ≡ r → bits_value ty (bits v (l ∷ [])) ≡ Truth r
  orders_law a b ty p q l r t h = let e = over_types type.Word type.Truth a b ty t in rw e.2 (ap Truth h)

  equals_law : (a b ty : Ty) (l : Lit) (r : Bool) → alike type.Truth a b ≡ Some ty → truth v l ≡ r → bits_value ty (bits v (l ∷ [])) ≡ Truth r
  equals_law a b ty l r t h = let e = alike_types type.Truth a b ty t in rw e.1 (ap Truth h)

  -- the value of words of a type that is Word
  word_at : (a : Ty) (p : List Lit) → a ≡ type.Word → value_at a p ≡ value_at type.Word p
  word_at a p e = ap (λ x. bits_value x (bits v p)) e

  sized_as : (a b : Ty) (p : List Lit) → a ≡ b → length p ≡ bits_of parts a → length p ≡ bits_of parts b
  sized_as a b p e k = k ∙ ap (bits_of parts) e

  pub binary_law : (o : Binary) (a b ty : Ty) (n : ℕ) (p q : List Lit) → binary_type o a b ≡ Some ty → length p ≡ bits_of parts a → length q ≡ bits_of parts b → Obeys v n (binary_circuit n o p q).entries →
      bits_value ty (bits v (binary_circuit n o p q).result) ≡ binary_value parts.width o (bits_value a (bits v p)) (bits_value b (bits v q))
  binary_law two.And a b ty n p q t k l o = truths_law a b ty p q (λ x y. x && y) (yes n) t k l (truth-yes v n ∙ o.0)
  binary_law two.Or a b ty n p q t k l o = truths_law a b ty p q (λ x y. x || y) (yes n) t k l (truth-yes v n ∙ o.0)
  binary_law two.Xor a b ty n p q t k l o = truths_law a b ty p q xor (yes n) t k l (truth-yes v n ∙ (o.0 ∙ differ_xor _ _))
  binary_law two.Imp a b ty n p q t k l o = truths_law a b ty p q (λ x y. not x || y) (yes n) t k l (truth-yes v n ∙ (o.0 ∙ ap (λ x. x || truth v (only q)) (truth-turned v (only p))))
  binary_law two.Eq a b ty n p q t k l o =
      let e = alike_types type.Truth a b ty t in
      equals_law a b ty (equal n p q).result _ t (equal_value n a p q k (sized_as b a q (sym e.0) l) o ∙ ap (λ x. is_same (value_at a p) (bits_value x (bits v q))) e.0)
  binary_law two.Ne a b ty n p q t k l o =
      let e = alike_types type.Truth a b ty t in
      equals_law a b ty (turned (equal n p q).result) _ t (truth-turned v _ ∙ ap not (equal_value n a p q k (sized_as b a q (sym e.0) l) o ∙ ap (λ x. is_same (value_at a p) (bits_value x (bits v q))) e.0))
  binary_law two.Lt a b ty n p q t k l o =
      let e = over_types type.Word type.Truth a b ty t in
      orders_law a b ty p q (less n p q).result _ t (less_value n p q (sized_as a type.Word p e.0 k) (sized_as b type.Word q e.1 l) o ∙ ap₂ (λ x y. int_lt (network.number x) (network.number y)) (sym (word_at a p e.0)) (sym (word_at b q e.1)))
  binary_law two.Gt a b ty n p q t k l o =
      let e = over_types type.Word type.Truth a b ty t in
      orders_law a b ty p q (less n q p).result _ t (less_value n q p (sized_as b type.Word q e.1 l) (sized_as a type.Word p e.0 k) o ∙ ap₂ (λ x y. int_lt (network.number x) (network.number y)) (sym (word_at b q e.1)) (sym (word_at a p e.0)))
  binary_law two.Le a b ty n p q t k l o =
      let e = over_types type.Word type.Truth a b ty t in
      orders_law a b ty p q (turned (less n q p).result) _ t (truth-turned v _ ∙ ap not (less_value n q p (sized_as b type.Word q e.1 l) (sized_as a type.Word p e.0 k) o ∙ ap₂ (λ x y. int_lt (network.number x) (network.number y)) (sym (word_at b q e.1)) (sym (word_at a p e.0))))
  binary_law two.Ge a b ty n p q t k l o =
      let e = over_types type.Word type.Truth a b ty t in
      orders_law a b ty p q (turned (less n p q).result) _ t (truth-turned v _ ∙ ap not (less_value n p q (sized_as a type.Word p e.0 k) (sized_as b type.Word q e.1 l) o ∙ ap₂ (λ x y. int_lt (network.number x) (network.number y)) (sym (word_at a p e.0)) (sym (word_at b q e.1))))
  binary_law two.Add a b ty n p q t k l o =
      let e = over_types type.Word type.Word a b ty t in
      let s = sized_as a type.Word p e.0 k in
      rw (e.2, e.0, e.1) (wrapped (add n p q).result (length p) _ _ s (add_number v n p q one_true (s ∙ sym (sized_as b type.Word q e.1 l)) o) (ap₂ (λ x y. x +ℤ y) (number_at p) (number_at q)))
  binary_law two.Sub a b ty n p q t k l o =
      let e = over_types type.Word type.Word a b ty t in
      let s = sized_as a type.Word p e.0 k in
      rw (e.2, e.0, e.1) (wrapped (subtract n p q).result (length p) _ _ s (subtract_number v n p q one_true (s ∙ sym (sized_as b type.Word q e.1 l)) o) (ap₂ (λ x y. x -ℤ y) (number_at p) (number_at q)))
  binary_law two.Mul a b ty n p q t k l o =
      let e = over_types type.Word type.Word a b ty t in
      let s = sized_as a type.Word p e.0 k in
      rw (e.2, e.0, e.1) (wrapped (multiply n p q).result (length p) _ _ s (multiply_number v n p q one_true (s ∙ sym (sized_as b type.Word q e.1 l)) o) (ap₂ (λ x y. x *ℤ y) (number_at p) (number_at q)))

-- ---- sizes

pub unary_size : (parts : Parts) (o : Unary) (a ty : Ty) (n : ℕ) (p : List Lit) → unary_type o a ≡ Some ty → length p ≡ bits_of parts a → length (unary_circuit n o p).result ≡ bits_of parts ty
unary_size parts one.Id a ty n p t k = let e : ty ≡ a = cc in k ∙ ap (bits_of parts) (sym e)
unary_size parts one.Not a ty n p t k =
    let e = over_types type.Truth type.Truth a a ty t in
    length-inverted p ∙ (k ∙ (ap (bits_of parts) e.0 ∙ ap (bits_of parts) (sym e.2)))
unary_size parts one.Neg a ty n p t k =
    let e = over_types type.Word type.Word a a ty t in
    length-sum n (nothing (length p)) (inverted p) (yes 0) (length-nothing (length p) ∙ sym (length-inverted p))
    ∙ (length-nothing (length p) ∙ (k ∙ (ap (bits_of parts) e.0 ∙ ap (bits_of parts) (sym e.2))))

pub binary_size : (parts : Parts) (o : Binary) (a b ty : Ty) (n : ℕ) (p q : List Lit) → binary_type o a b ≡ Some ty → length p ≡ bits_of parts a → length q ≡ bits_of parts b → length (binary_circuit n o p q).result ≡ bits_of parts ty
binary_size parts two.And a b ty n p q t k l = ap (bits_of parts) (sym (over_types type.Truth type.Truth a b ty t).2)
binary_size parts two.Or a b ty n p q t k l = ap (bits_of parts) (sym (over_types type.Truth type.Truth a b ty t).2)
binary_size parts two.Xor a b ty n p q t k l = ap (bits_of parts) (sym (over_types type.Truth type.Truth a b ty t).2)
binary_size parts two.Imp a b ty n p q t k l = ap (bits_of parts) (sym (over_types type.Truth type.Truth a b ty t).2)
binary_size parts two.Eq a b ty n p q t k l = ap (bits_of parts) (sym (alike_types type.Truth a b ty t).1)
binary_size parts two.Ne a b ty n p q t k l = ap (bits_of parts) (sym (alike_types type.Truth a b ty t).1)
binary_size parts two.Lt a b ty n p q t k l = ap (bits_of parts) (sym (over_types type.Word type.Truth a b ty t).2)
binary_size parts two.Le a b ty n p q t k l = ap (bits_of parts) (sym (over_types type.Word type.Truth a b ty t).2)
binary_size parts two.Gt a b ty n p q t k l = ap (bits_of parts) (sym (over_types type.Word type.Truth a b ty t).2)
binary_size parts two.Ge a b ty n p q t k l = ap (bits_of parts) (sym (over_types type.Word type.Truth a b ty t).2)
binary_size parts two.Add a b ty n p q t k l =
    let e = over_types type.Word type.Word a b ty t in
    let s : length p ≡ parts.width = k ∙ ap (bits_of parts) e.0 in
    length-sum n p q (no 0) (s ∙ sym (l ∙ ap (bits_of parts) e.1)) ∙ (s ∙ ap (bits_of parts) (sym e.2))
binary_size parts two.Sub a b ty n p q t k l =
    let e = over_types type.Word type.Word a b ty t in
    let s : length p ≡ parts.width = k ∙ ap (bits_of parts) e.0 in
    length-sum n p (inverted q) (yes 0) (s ∙ sym (length-inverted q ∙ (l ∙ ap (bits_of parts) e.1))) ∙ (s ∙ ap (bits_of parts) (sym e.2))
binary_size parts two.Mul a b ty n p q t k l =
    let e = over_types type.Word type.Word a b ty t in
    let s : length p ≡ parts.width = k ∙ ap (bits_of parts) e.0 in
    length-rows n p 0 q (nothing (length p)) (length-nothing (length p)) (omega (arith, s, l, ap (bits_of parts) e.1)) ∙ (s ∙ ap (bits_of parts) (sym e.2))
