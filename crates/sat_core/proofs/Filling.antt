-- The bits of a trail, entry by entry.
use Rattle.std.proofs.Common.{◌≡◌, ◌≢◌, ℕ, ◌+◌, ◌<◌, Bool, true, false, List, set, get_or, length, replicate, length-set, sym, ap, ◌∙◌, inl, inr, arith, get_or-set_same, get_or-set_other}
use Rattle.std.proofs.lemmas.Bool.{cases_eq, cases_lt}
use Rattle.std.proofs.lemmas.List.{get_or-replicate, get_or_past, length-replicate}
use Rattle.sat_core.specs.declared.trail.Entry.{Entry}
use Rattle.sat_core.specs.Bits.{Agree}
use Rattle.sat_core.specs.Trail.{lit_at, Apart}

-- the first n literals are true, and variables that none of them has are false
pub record Filling (bits : List Bool) (t : List Entry) (vars n : ℕ) : Type 0 where
  pub whole : length bits ≡ vars
  pub agree : Agree bits t n
  pub rest : (v : ℕ) → ((k : ℕ) → k < n → (lit_at t k).var ≢ v) → get_or bits v false ≡ false

none_set : (vars v : ℕ) → get_or (replicate vars false) v false ≡ false
none_set vars v = elim (cases_lt v vars) [
  | inl lt ↦ get_or-replicate vars v false false lt
  | inr le ↦ get_or_past (replicate vars false) v false (let n = length-replicate vars false in omega arith)
]

pub Filling-start : (vars : ℕ) (t : List Entry) → Filling (replicate vars false) t vars 0
Filling-start vars t = record {
  whole = length-replicate vars false;
  agree = λ k lt. absurd (omega arith);
  rest = λ v h. none_set vars v;
}

module _ (bits : List Bool) (t : List Entry) (vars n : ℕ) (apart : Apart (lit_at t) (length t)) (lt : n < length t) (f : Filling bits t vars n) where
  others : (k : ℕ) → k < n → (lit_at t k).var ≢ (lit_at t n).var
  others k l = apart n k lt l

  pub Filling-skip : (lit_at t n).positive ≡ false → Filling bits t vars (n + 1)
  Filling-skip e = record {
    whole = f.whole;
    agree = λ k l. elim (cases_eq k n) [
      | inl q ↦ ap (λ j. get_or bits (lit_at t j).var false) q ∙ (f.rest (lit_at t n).var others ∙ (sym e ∙ ap (λ j. (lit_at t j).positive) (sym q)))
      | inr q ↦ f.agree k (omega arith)
    ];
    rest = λ v h. f.rest v (λ k l. h k (omega arith));
  }

  pub Filling-set : (lit_at t n).var < vars → (lit_at t n).positive ≡ true → Filling (set bits (lit_at t n).var true) t vars (n + 1)
  Filling-set within e =
      let w = f.whole in
      record {
        whole = length-set bits (lit_at t n).var true ∙ f.whole;
        agree = λ k l. elim (cases_eq k n) [
          | inl q ↦
              ap (λ j. get_or (set bits (lit_at t n).var true) (lit_at t j).var false) q
              ∙ (get_or-set_same bits (lit_at t n).var true false (omega arith) ∙ (sym e ∙ ap (λ j. (lit_at t j).positive) (sym q)))
          | inr q ↦ get_or-set_other bits (lit_at t n).var (lit_at t k).var true false (others k (omega arith)) ∙ f.agree k (omega arith)
        ];
        rest = λ v h. get_or-set_other bits (lit_at t n).var v true false (λ q. h n (omega arith) (sym q)) ∙ f.rest v (λ k l. h k (omega arith));
      }
