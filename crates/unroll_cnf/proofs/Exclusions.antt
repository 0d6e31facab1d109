-- The loops that make the clauses of a choice, and that these have no literal twice.
use Rattle.std.proofs.Common.{◌≡◌, ◌≢◌, ℕ, zero, suc, ◌+◌, ◌-◌, ◌/◌, ◌%◌, ◌^◌, ◌<◌, ◌≤◌, Bool, true, false, eqb, IsTrue, List, [], ◌∷◌, ◌++◌, length, map, drop, get_or, nat_eq, refl, sym, ap, ◌∙◌, subst, arith, add-one, append-nil, append_assoc, length-append}
use Rattle.std.proofs.Math.Seq.{drop-cons}
use Rattle.std.proofs.lemmas.Bool.Decides.{nat_tests}
use Rattle.std.proofs.Math.Nat.{pow-le-pow_right}
use Rattle.cnf_form.specs.declared.lit.Lit.{Lit}
use Rattle.cnf_form.specs.Lits.{same, turned, is_in, no_twice, below}
use Rattle.cnf_form.specs.Shape.{Shape}
use Rattle.cnf_form.specs.Limits.{most_vars}
use Rattle.op_network.specs.declared.edge.Parts.{Parts}
use Rattle.op_network.specs.declared.value.Ty.{Ty}
use Rattle.op_network.specs.declared.value.Ty.TheVariants as type
use Rattle.bit_blast.specs.Meaning.{Extends}
use Rattle.bit_blast.specs.Circuit.{after, Entry, Require, with_entries, with_entry}
use Rattle.bit_blast.specs.Words.{fresh}
use Rattle.bit_blast.proofs.Loops.{drop_past}
use Rattle.bit_blast.specs.Limits.{most_required}
use Rattle.bit_blast.specs.Made.{IsBelow, Makes}
use Rattle.bit_blast.proofs.Circuits.{with_entries-append}
use Rattle.bit_blast.proofs.Made.{within}
use Rattle.unroll_cnf.proofs.Inputs.{excluding_below, after_input}
use Rattle.unroll_cnf.specs.Made.{AreOthers, AreApart, HasRoom}
use Rattle.unroll_cnf.specs.Sizes.{bits_of, enumerators}
use Rattle.unroll_cnf.specs.Unrolled.{input_circuit}
use Rattle.unroll_cnf.specs.Values.{digits, constant, against, excluding, exclusions, excluded}

-- ---- numbers as words

-- the word has the first bits of a number, and the others are those of the rest
pub record NumberSoFar (b number i rest : ℕ) (word : List Lit) : Type 0 where
  pub is : map constant (digits b number) ≡ word ++ map constant (digits (b - i) rest)

pub number_step : (b number i rest : ℕ) (word longer : List Lit) → NumberSoFar b number i rest word → i < b → longer ≡ word ++ constant (nat_eq (rest % 2) 1) ∷ [] → NumberSoFar b number (i + 1) (rest / 2) longer
number_step b number i rest word longer s lt l =
    let e : b - i ≡ suc (b - (i + 1)) = omega arith in
    record {
      is = s.is ∙ (ap (λ k. word ++ map constant (digits k rest)) e
          ∙ (sym (append_assoc word (constant (nat_eq (rest % 2) 1) ∷ []) (map constant (digits (b - (i + 1)) (rest / 2))))
          ∙ ap (λ (z : List Lit). z ++ map constant (digits (b - (i + 1)) (rest / 2))) (sym l)));
    }

-- ---- a clause that excludes a number

-- the clause has the literals of the first bits, and the others are those of the rest
pub record ExcludingSoFar (a : List Lit) (number i rest : ℕ) (lits : List Lit) : Type 0 where
  pub is : excluding a (digits (length a) number) ≡ lits ++ excluding (drop i a) (digits (length a - i) rest)

excluding_next : (a : List Lit) (i r : ℕ) (d : Lit) → i < length a →
    excluding (drop i a) (digits (length a - i) r) ≡ against (nat_eq (r % 2) 1) (get_or a i d) ∷ excluding (drop (i + 1) a) (digits (length a - (i + 1)) (r / 2))
excluding_next a i r d lt =
    let e : length a - i ≡ suc (length a - (i + 1)) = omega arith in
    rw (e, add-one, drop-cons a i d lt) refl

pub excluding_step : (a : List Lit) (number i rest : ℕ) (d : Lit) (lits longer : List Lit) → ExcludingSoFar a number i rest lits → i < length a → longer ≡ lits ++ against (nat_eq (rest % 2) 1) (get_or a i d) ∷ [] → ExcludingSoFar a number (i + 1) (rest / 2) longer
excluding_step a number i rest d lits longer s lt l =
    let left = excluding (drop (i + 1) a) (digits (length a - (i + 1)) (rest / 2)) in
    record {
      is = s.is ∙ (ap (λ (z : List Lit). lits ++ z) (excluding_next a i rest d lt)
          ∙ (sym (append_assoc lits (against (nat_eq (rest % 2) 1) (get_or a i d) ∷ []) left)
          ∙ ap (λ (z : List Lit). z ++ left) (sym l)));
    }

pub excluding_end : (a : List Lit) (number i rest : ℕ) (lits : List Lit) → ExcludingSoFar a number i rest lits → length a ≤ i → lits ≡ excluding a (digits (length a) number)
excluding_end a number i rest lits s le =
    let none : excluding (drop i a) (digits (length a - i) rest) ≡ [] = rw (drop_past a i le) refl in
    sym (s.is ∙ (ap (λ (z : List Lit). lits ++ z) none ∙ append-nil lits))

against_var : (b : Bool) (l : Lit) → (against b l).var ≡ l.var
unfolding turned
against_var true l = refl
against_var false l = refl

same_other : (x y : Lit) → x.var ≢ y.var → same x y ≡ false
unfolding same
same_other x y ne = let e : eqb x.var y.var ≡ false = grind (arith, nat_tests) in rw e refl

not_in : (x : Lit) (a : List Lit) (bs : List Bool) → AreOthers x.var a → is_in x (excluding a bs) ≡ false
not_in x [] bs o = refl
not_in x (l ∷ a) [] o = refl
not_in x (l ∷ a) (b ∷ bs) o =
    rw (same_other x (against b l) (λ e. o.0 (e ∙ against_var b l)), not_in x a bs o.1) refl

-- the clause has no literal twice, where no two of the word are of one variable
pub apart_once : (a : List Lit) (bs : List Bool) → AreApart a → IsTrue (no_twice (excluding a bs))
apart_once [] bs p = refl
apart_once (l ∷ a) [] p = refl
apart_once (l ∷ a) (b ∷ bs) p =
    let others : AreOthers (against b l).var a = subst (λ v. AreOthers v a) (sym (against_var b l)) p.0 in
    rw (not_in (against b l) a bs others) (apart_once a bs p.1)

pub excluding_once : (a : List Lit) (number i rest : ℕ) (lits : List Lit) → ExcludingSoFar a number i rest lits → length a ≤ i → AreApart a → IsTrue (no_twice lits)
excluding_once a number i rest lits s le p =
    subst (λ (z : List Lit). IsTrue (no_twice z)) (sym (excluding_end a number i rest lits s le)) (apart_once a (digits (length a) number) p)

fresh_others : (v n b : ℕ) → v < n → AreOthers v (fresh n b).result
fresh_others v n zero lt = tt
fresh_others v n (suc b) lt = ((λ (e : v ≡ n). omega arith), fresh_others v (suc n) b (omega arith))

-- free variables are apart
pub fresh_apart : (n b : ℕ) → AreApart (fresh n b).result
fresh_apart n zero = tt
fresh_apart n (suc b) = (fresh_others n (suc n) b (omega arith), fresh_apart (suc n) b)

-- ---- all clauses of a choice

-- the numbers below one are excluded, and those from it on are left
pub record Excluding (f g : Shape) (a : List Lit) (from at to : ℕ) : Type 0 where
  pub made : with_entries f (exclusions a (length a) from (to - from)) ≡ with_entries g (exclusions a (length a) at (to - at))
  pub vars : g.vars ≡ f.vars
  pub few : length g.clauses + (to - at) ≤ length f.clauses + (to - from)

pub clause_below : (f g : Shape) (a c : List Lit) (from at to k : ℕ) → Excluding f g a from at to → IsBelow f.vars a → c ≡ excluding a (digits k at) → IsTrue (below g.vars c)
clause_below f g a c from at to k s b e =
    subst (λ (z : List Lit). IsTrue (below g.vars z)) (sym e)
    (subst (λ n. IsTrue (below n (excluding a (digits k at)))) (sym s.vars) (excluding_below f.vars a (digits k at) (within f.vars a b)))

pub none_excluded : (f : Shape) (a : List Lit) (from to : ℕ) → Excluding f f a from from to
none_excluded f a from to = record { made = refl; vars = refl; few = omega arith }

pub one_excluded : (f g h : Shape) (a c : List Lit) (from at to : ℕ) → Excluding f g a from at to → at < to → c ≡ excluding a (digits (length a) at) → h ≡ with_entry g (Require c) → Excluding f h a from (at + 1) to
one_excluded f g h a c from at to s lt e m =
    let more : to - at ≡ suc (to - (at + 1)) = omega arith in
    let is : h ≡ with_entry g (Require (excluding a (digits (length a) at))) = m ∙ ap (λ (z : List Lit). with_entry g (Require z)) e in
    record {
      made = s.made ∙ (ap (λ k. with_entries g (exclusions a (length a) at k)) more ∙ ap (λ (z : Shape). with_entries z (exclusions a (length a) (at + 1) (to - (at + 1)))) (sym is));
      vars = ap (λ (z : Shape). z.vars) m ∙ s.vars;
      few = omega (arith, s.few, ap (λ (z : Shape). length z.clauses) m, length-append g.clauses (c ∷ []));
    }

pub all_excluded : (f g : Shape) (a : List Lit) (from at to : ℕ) → Excluding f g a from at to → to ≤ at → g ≡ with_entries f (exclusions a (length a) from (to - from))
all_excluded f g a from at to s le =
    let none : to - at ≡ 0 = omega arith in
    sym (s.made ∙ ap (λ k. with_entries g (exclusions a (length a) at k)) none)

-- ---- all of an input

pub input_full : (parts : Parts) (n most b : ℕ) (ty : Ty) → b ≡ bits_of parts ty → most < after n (fresh n b).entries → most < after n (input_circuit parts n ty).entries
input_full parts n most b ty e lt = subst (λ k. most < k) (ap (λ k. after n (fresh n k).entries) e ∙ sym (after_input parts n ty)) lt

pub made_fresh : (f g : Shape) (b : ℕ) (w : List Lit) → Makes (List Lit) f g (fresh f.vars b) w → AreApart w
made_fresh f g b w m = subst AreApart (sym m.gives) (fresh_apart f.vars b)

pub made_plain : (parts : Parts) (f g : Shape) (ty : Ty) (w : List Lit) → Makes (List Lit) f g (fresh f.vars (bits_of parts ty)) w → ((a : List Lit) → excluded parts ty a ≡ []) → Makes (List Lit) f g (input_circuit parts f.vars ty) w
made_plain parts f g ty w m none = record {
  made = m.made ∙ ap (with_entries f) (sym (ap (λ (es : List Entry). (fresh f.vars (bits_of parts ty)).entries ++ es) (none (fresh f.vars (bits_of parts ty)).result) ∙ append-nil _));
  gives = m.gives;
}

pub made_choice : (parts : Parts) (f g h : Shape) (c : ℕ) (w : List Lit) → Makes (List Lit) f g (fresh f.vars (bits_of parts (type.Choice c))) w → length w ≡ bits_of parts (type.Choice c) →
    h ≡ with_entries g (exclusions w (length w) (enumerators parts.choices c) (2 ^ bits_of parts (type.Choice c) - enumerators parts.choices c)) → Makes (List Lit) f h (input_circuit parts f.vars (type.Choice c)) w
made_choice parts f g h c w m l e =
    let a = fresh f.vars (bits_of parts (type.Choice c)) in
    let b = bits_of parts (type.Choice c) in
    let n = enumerators parts.choices c in
    record {
      made = e ∙ (ap (λ (x : List Lit). with_entries g (exclusions x (length w) n (2 ^ b - n))) m.gives
          ∙ (ap (λ k. with_entries g (exclusions a.result k n (2 ^ b - n))) l
          ∙ (ap (λ (x : Shape). with_entries x (exclusions a.result b n (2 ^ b - n))) m.made
          ∙ sym (with_entries-append f a.entries (exclusions a.result b n (2 ^ b - n))))));
      gives = m.gives;
    }

-- there is room for the clauses of a choice behind its free bits
pub choice_room : (f g : Shape) (n b : ℕ) → HasRoom f 1 → Extends f g → g.vars ≤ most_vars → b ≤ 8 → length g.clauses + (2 ^ b - n) ≤ most_required
choice_room f g n b r x le small =
    let p : 2 ^ b ≤ 2 ^ 8 = pow-le-pow_right {n = 2} (omega arith) {i = b} {j = 8} small in
    omega (arith, r, x.few, le, p)
