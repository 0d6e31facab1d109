-- The place to go back to.
use Rattle.std.proofs.Common.{◌≡◌, ℕ, ◌+◌, ◌<◌, ◌≤◌, Bool, true, false, List, None, sym, ap, ◌∙◌, inl, inr, arith}
use Rattle.std.proofs.lemmas.Bool.{cases_eq, cases_lt}
use Rattle.sat_core.specs.declared.trail.Entry.{Entry}
use Rattle.sat_core.specs.Marks.{at}
use Rattle.sat_core.specs.Trail.{reason_at}
use Rattle.sat_core.specs.Conflicts.{IsCut}

pub record Cutting (t : List Entry) (seen : List Bool) (from cut n : ℕ) : Type 0 where
  pub low : cut ≤ from
  pub high : n ≤ cut
  pub decided : reason_at t cut ≡ None
  pub clear : (k : ℕ) → n ≤ k → k < from → at seen k ≡ false
  pub least : (i : ℕ) → n ≤ i → i < cut → reason_at t i ≡ None → ⊥

pub Cutting-start : (t : List Entry) (seen : List Bool) (from : ℕ) → reason_at t from ≡ None → Cutting t seen from from from
Cutting-start t seen from d = record { low = omega arith; high = omega arith; decided = d; clear = λ k a b. absurd (omega arith); least = λ i a b. absurd (omega arith) }

module _ (t : List Entry) (seen : List Bool) (from cut n : ℕ) (c : Cutting t seen from cut (n + 1)) where
  pub Cutting-stop : n < from → at seen n ≡ true → IsCut t seen from cut
  Cutting-stop lt h = record {
    low = c.low;
    decided = c.decided;
    clear = λ k a b. c.clear k (let l = c.high in omega arith) b;
    least = λ i a d. elim (cases_lt n i) [ inl l ↦ absurd (c.least i (omega arith) a d) | inr l ↦ (n, l, lt, h) ];
  }

  pub Cutting-skip : at seen n ≡ false → (reason_at t n ≡ None → ⊥) → Cutting t seen from cut n
  Cutting-skip f d = record {
    low = c.low;
    high = (let l = c.high in omega arith);
    decided = c.decided;
    clear = λ k a b. elim (cases_eq k n) [ inl q ↦ ap (at seen) q ∙ f | inr q ↦ c.clear k (omega arith) b ];
    least = λ i a b e. elim (cases_eq i n) [ inl q ↦ d (ap (reason_at t) (sym q) ∙ e) | inr q ↦ c.least i (omega arith) b e ];
  }

  pub Cutting-more : at seen n ≡ false → reason_at t n ≡ None → Cutting t seen from n n
  Cutting-more f d = record {
    low = (let l = c.high in let m = c.low in omega arith);
    high = omega arith;
    decided = d;
    clear = λ k a b. elim (cases_eq k n) [ inl q ↦ ap (at seen) q ∙ f | inr q ↦ c.clear k (omega arith) b ];
    least = λ i a b. absurd (omega arith);
  }

pub Cutting-end : (t : List Entry) (seen : List Bool) (from cut n : ℕ) → n ≤ 0 → Cutting t seen from cut n → IsCut t seen from cut
Cutting-end t seen from cut n z c = record {
  low = c.low;
  decided = c.decided;
  clear = λ k a b. c.clear k (omega arith) b;
  least = λ i a d. absurd (c.least i (omega arith) a d);
}
