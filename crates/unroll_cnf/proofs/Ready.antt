-- What an operator that is ready says of the words of its operands.
use Rattle.std.proofs.Common.{◌≡◌, ℕ, ◌≤◌, List, [], ◌∷◌, length, refl, sym, ap, ◌∙◌, subst, arith, Option, Some, None}
use Rattle.cnf_form.specs.declared.lit.Lit.{Lit}
use Rattle.op_network.specs.declared.edge.EdgeId.{EdgeId}
use Rattle.op_network.specs.declared.edge.Parts.{Parts}
use Rattle.op_network.specs.declared.form.Form.{Form}
use Rattle.op_network.specs.declared.form.Form.TheVariants.{One, Two, Ite, Arrow, Pre}
use Rattle.op_network.specs.declared.form.Unary.{Unary}
use Rattle.op_network.specs.declared.form.Binary.{Binary}
use Rattle.op_network.specs.declared.value.Ty.{Ty}
use Rattle.op_network.specs.declared.value.Ty.TheVariants as type
use Rattle.op_network.specs.Valid.{type_of, IsValid}
use Rattle.lus_causality.proofs.Ending.{typed_within}
use Rattle.lus_causality.proofs.Places.{first, later}
use Rattle.unroll_cnf.specs.Made.{table_of, HasWord, IsReady, IsPast, IsWithin}
use Rattle.unroll_cnf.specs.Sizes.{bits_of}
use Rattle.unroll_cnf.proofs.Placing.{binary_same, bits_some}
use Rattle.unroll_cnf.proofs.Typed.{binary_typed, if_typed}

module _ (parts : Parts) (n : ℕ) (now : List (List Lit)) (ty : Ty) where
  -- two words of one size, with a bit at least
  pub record AreTwo (a b : EdgeId) : Type 0 where
    pub first_word : HasWord parts n now a
    pub second_word : HasWord parts n now b
    pub size : length (table_of now a.0) ≡ length (table_of now b.0)
    pub some : 1 ≤ length (table_of now a.0)

  -- a word with a bit, and two of one size
  pub record AreThree (a b c : EdgeId) : Type 0 where
    pub test_word : HasWord parts n now a
    pub first_word : HasWord parts n now b
    pub second_word : HasWord parts n now c
    pub size : length (table_of now b.0) ≡ length (table_of now c.0)
    pub some : 1 ≤ length (table_of now a.0)

  pub one_ready : (form : Form) (o : Unary) (a : EdgeId) → form ≡ One o a → IsReady parts n form ty now → HasWord parts n now a
  one_ready form o a e r = (subst (λ (f : Form). IsReady parts n f ty now) e r).operands a (first a a [] refl)

  pub two_ready : IsValid parts → (form : Form) (o : Binary) (a b : EdgeId) → form ≡ Two o a b → IsReady parts n form ty now → AreTwo a b
  two_ready valid form o a b e ready =
      let r = subst (λ (f : Form). IsReady parts n f ty now) e ready in
      let k = binary_typed o (type_of parts.edges a) (type_of parts.edges b) ty r.typed in
      let x = r.operands a (first a a (b ∷ []) refl) in
      let y = r.operands b (later b a (b ∷ []) (first b b [] refl)) in
      let wide : 1 ≤ parts.width = omega (arith, valid.narrowest) in
      record {
        first_word = x;
        second_word = y;
        size = x.size k.0 k.2 ∙ (ap (bits_of parts) (binary_same o k.0 k.1 ty k.4) ∙ sym (y.size k.1 k.3));
        some = omega (arith, x.size k.0 k.2, bits_some parts k.0 wide);
      }

  pub three_ready : IsValid parts → (form : Form) (a b c : EdgeId) → form ≡ Ite a b c → IsReady parts n form ty now → AreThree a b c
  three_ready valid form a b c e ready =
      let r = subst (λ (f : Form). IsReady parts n f ty now) e ready in
      let k = if_typed (type_of parts.edges a) (type_of parts.edges b) (type_of parts.edges c) ty r.typed in
      let x = r.operands a (first a a (b ∷ c ∷ []) refl) in
      let y = r.operands b (later b a (b ∷ c ∷ []) (first b b (c ∷ []) refl)) in
      let z = r.operands c (later c a (b ∷ c ∷ []) (later c b (c ∷ []) (first c c [] refl))) in
      record {
        test_word = x;
        first_word = y;
        second_word = z;
        size = y.size ty k.1 ∙ sym (z.size ty k.2);
        some = omega (arith, x.size type.Truth k.0);
      }

  pub arrow_ready : (form : Form) (a b : EdgeId) → form ≡ Arrow a b → IsReady parts n form ty now → HasWord parts n now a × HasWord parts n now b
  arrow_ready form a b e ready =
      let r = subst (λ (f : Form). IsReady parts n f ty now) e ready in
      (r.operands a (first a a (b ∷ []) refl), r.operands b (later b a (b ∷ []) (first b b [] refl)))

  -- the operand of a `Pre` has a word at the instant before
  pub pre_ready : (form : Form) (a : EdgeId) (before : Option (List (List Lit))) → form ≡ Pre a → IsReady parts n form ty now → IsPast parts n before → IsWithin before a
  pre_ready form a None e ready p = tt
  pre_ready form a (Some before) e ready p =
      let r = subst (λ (f : Form). IsReady parts n f ty now) e ready in
      omega (arith, p.all, typed_within parts.edges a ty r.typed)
