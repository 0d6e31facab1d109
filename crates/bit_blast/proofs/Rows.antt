-- The loop of a product.
use Rattle.std.proofs.Common.{◌≡◌, ℕ, suc, ◌+◌, ◌-◌, ◌<◌, ◌≤◌, List, [], ◌++◌, length, drop, take, get_or, refl, sym, ap, ap₂, ◌∙◌, subst, arith, add-one, append_assoc}
use Rattle.std.proofs.Math.Seq.{drop-cons}
use Rattle.cnf_form.specs.declared.lit.Lit.{Lit}
use Rattle.cnf_form.specs.Shape.{Shape}
use Rattle.bit_blast.specs.Circuit.{no, with_entries, after, Circuit}
use Rattle.bit_blast.specs.Made.{IsBelow, Makes}
use Rattle.bit_blast.specs.Meaning.{Extends}
use Rattle.bit_blast.specs.Words.{sum, nothing, masked, row, with_row, rows, multiply}
use Rattle.bit_blast.proofs.Circuits.{with_entries-append, after-append, after_more}
use Rattle.bit_blast.proofs.Loops.{Rest, rest_start, rest_step, rest_end, rest_full, drop_past}
use Rattle.bit_blast.proofs.Made.{within_both, within_nothing, within_masked}
use Rattle.bit_blast.proofs.Laws.{below_from_within, made_vars}
use Rattle.bit_blast.proofs.Sums

pub row_below : (f g : Shape) (a w : List Lit) (s : ℕ) (b : Lit) → Makes (List Lit) f g (row f.vars a s b) w → 0 < f.vars → IsBelow g.vars w
row_below f g a w s b m lt =
    let low = masked f.vars (take (length a - s) a) b in
    let more = after_more f.vars low.entries in
    subst (IsBelow g.vars) (sym m.gives) (subst (λ n. IsBelow n (row f.vars a s b).result) (sym (made_vars (List Lit) f g (row f.vars a s b) w m))
    (below_from_within _ _ (within_both _ (nothing s) low.result (within_nothing _ s (omega arith)) (within_masked f.vars (take (length a - s) a) b))))

pub row_then_sum : (f g h : Shape) (a r w w2 t : List Lit) (s : ℕ) (b c : Lit) → Makes (List Lit) f g (row f.vars a s b) w → w2 ≡ w → c ≡ no 0 → Makes (List Lit) g h (sum g.vars r w2 c) t → Makes (List Lit) f h (with_row f.vars a s b r) t
row_then_sum f g h a r w w2 t s b c m e z k =
    let one = row f.vars a s b in
    let v : g.vars ≡ after f.vars one.entries = made_vars (List Lit) f g one w m in
    let same : sum g.vars r w2 c ≡ sum (after f.vars one.entries) r one.result (no 0) = rw (v, e, m.gives, z) refl in
    record {
      made = k.made ∙ (ap₂ (λ (x : Shape) (y : Circuit (List Lit)). with_entries x y.entries) m.made same ∙ sym (with_entries-append f one.entries (sum (after f.vars one.entries) r one.result (no 0)).entries));
      gives = k.gives ∙ ap (λ (y : Circuit (List Lit)). y.result) same;
    }

pub row_full : (k n : ℕ) (a : List Lit) (s : ℕ) (b : Lit) (r : List Lit) → k < after n (row n a s b).entries → k < after n (with_row n a s b r).entries
row_full k n a s b r lt =
    let one = row n a s b in
    let total = sum (after n one.entries) r one.result (no 0) in
    omega (arith, after-append n one.entries total.entries, after_more (after n one.entries) total.entries)

pub row_sum_full : (k : ℕ) (f g : Shape) (a w w2 : List Lit) (s : ℕ) (b c : Lit) (r : List Lit) → Makes (List Lit) f g (row f.vars a s b) w → w2 ≡ w → c ≡ no 0 → k < after g.vars (sum g.vars r w2 c).entries → k < after f.vars (with_row f.vars a s b r).entries
row_sum_full k f g a w w2 s b c r m e z lt =
    let one = row f.vars a s b in
    let v : g.vars ≡ after f.vars one.entries = made_vars (List Lit) f g one w m in
    let same : after g.vars (sum g.vars r w2 c).entries ≡ after (after f.vars one.entries) (sum (after f.vars one.entries) r one.result (no 0)).entries = rw (v, e, m.gives, z) refl in
    omega (arith, after-append f.vars one.entries (sum (after f.vars one.entries) r one.result (no 0)).entries, same)

-- a product that has the rows of its first bits
pub record ProductSoFar (f g : Shape) (a b : List Lit) (i : ℕ) (total : List Lit) : Type 0 where
  pub left : Rest f g (multiply f.vars a b).entries (rows g.vars a i (drop i b) total).entries
  pub result : (multiply f.vars a b).result ≡ (rows g.vars a i (drop i b) total).result
  pub size : length total ≡ length a
  pub below : IsBelow g.vars total

pub product_start : (f : Shape) (a b total : List Lit) → total ≡ nothing (length a) → 0 < f.vars → ProductSoFar f f a b 0 total
product_start f a b total e lt = record {
  left = subst (λ t. Rest f f (multiply f.vars a b).entries (rows f.vars a 0 b t).entries) (sym e) (rest_start f (multiply f.vars a b).entries);
  result = ap (λ t. (rows f.vars a 0 b t).result) (sym e);
  size = ap length e ∙ Sums.length-nothing (length a);
  below = subst (IsBelow f.vars) (sym e) (below_from_within f.vars (nothing (length a)) (within_nothing f.vars (length a) lt));
}

rows_next : (n m : ℕ) (a : List Lit) (i : ℕ) (b r t : List Lit) (d : Lit) → i < length b → m ≡ after n (with_row n a i (get_or b i d) r).entries → t ≡ (with_row n a i (get_or b i d) r).result →
    rows n a i (drop i b) r ≡ record { entries = (with_row n a i (get_or b i d) r).entries ++ (rows m a (i + 1) (drop (i + 1) b) t).entries; result = (rows m a (i + 1) (drop (i + 1) b) t).result }
rows_next n m a i b r t d lt v e =
    let one = row n a i (get_or b i d) in
    let total = sum (after n one.entries) r one.result (no 0) in
    let w : m ≡ after (after n one.entries) total.entries = v ∙ after-append n one.entries total.entries in
    let left = rows (after (after n one.entries) total.entries) a (suc i) (drop (suc i) b) total.result in
    let same : rows m a (i + 1) (drop (i + 1) b) t ≡ left = rw (add-one, w, e) refl in
    ap (λ q. rows n a i q r) (drop-cons b i d lt)
    ∙ (λ k. record { entries = sym (append_assoc one.entries total.entries left.entries) k; result = left.result })
    ∙ ap (λ (z : Circuit (List Lit)). record { entries = (one.entries ++ total.entries) ++ z.entries; result = z.result }) (sym same)

pub product_step : {f g : Shape} {a b : List Lit} {i : ℕ} {total : List Lit} (h : Shape) (t : List Lit) → ProductSoFar f g a b i total → i < length b → Makes (List Lit) g h (with_row g.vars a i (get_or b i (no 0)) total) t → Extends g h → IsBelow h.vars t → length t ≡ length a → ProductSoFar f h a b (i + 1) t
product_step {f} {g} {a} {b} {i} {total} h t s lt m x below size =
    let n = rows_next g.vars h.vars a i b total t (no 0) lt (made_vars (List Lit) g h (with_row g.vars a i (get_or b i (no 0)) total) t m) m.gives in
    record {
      left = rest_step h (with_row g.vars a i (get_or b i (no 0)) total).entries (rows h.vars a (i + 1) (drop (i + 1) b) t).entries s.left (ap (λ (z : Circuit (List Lit)). z.entries) n) m.made x;
      result = s.result ∙ ap (λ (z : Circuit (List Lit)). z.result) n;
      size = size;
      below = below;
    }

pub product_full : {f g : Shape} {a b : List Lit} {i : ℕ} {total : List Lit} (k : ℕ) → ProductSoFar f g a b i total → i < length b → k < after g.vars (with_row g.vars a i (get_or b i (no 0)) total).entries → k < after f.vars (multiply f.vars a b).entries
product_full {f} {g} {a} {b} {i} {total} k s lt full =
    let n = rows_next g.vars _ a i b total _ (no 0) lt refl refl in
    rest_full k (with_row g.vars a i (get_or b i (no 0)) total).entries _ s.left (ap (λ (z : Circuit (List Lit)). z.entries) n) full

pub product_end : {f g : Shape} {a b : List Lit} {i : ℕ} {total : List Lit} → ProductSoFar f g a b i total → length b ≤ i → Makes (List Lit) f g (multiply f.vars a b) total
product_end {f} {g} {a} {b} {i} {total} s le =
    let e : rows g.vars a i (drop i b) total ≡ record { entries = []; result = total } = rw (drop_past b i le) refl in
    record {
      made = rest_end s.left (ap (λ (z : Circuit (List Lit)). z.entries) e);
      gives = sym (s.result ∙ ap (λ (z : Circuit (List Lit)). z.result) e);
    }
