-- The loop that makes the words of all instants.
use Rattle.std.proofs.Common.{◌≡◌, ℕ, zero, suc, ◌+◌, ◌-◌, ◌*◌, ◌<◌, ◌≤◌, List, [], ◌∷◌, ◌++◌, length, get_or, map, refl, sym, ap, ap₂, ◌∙◌, subst, arith, Option, Some, None, append-nil, append_assoc, length-append}
use Rattle.std.specs.Prelude.{slice_get, All}
use Rattle.std.specs.Option.{option_map}
use Rattle.std.proofs.lemmas.List.Elements.{All-nil, All-push}
use Rattle.cnf_form.specs.declared.lit.Lit.{Lit}
use Rattle.cnf_form.specs.Limits.{most_vars}
use Rattle.cnf_form.specs.Shape.{Shape}
use Rattle.op_network.specs.declared.edge.EdgeId.{EdgeId}
use Rattle.op_network.specs.declared.edge.Parts.{Parts}
use Rattle.op_network.specs.Valid.{IsValid}
use Rattle.lus_causality.specs.Causality.{IsSequence}
use Rattle.bit_blast.specs.Circuit.{Circuit, after, with_entries}
use Rattle.bit_blast.specs.Made.{Makes, first_formula}
use Rattle.bit_blast.proofs.Circuits.{after-append, after_more, vars-with_entries, with_entries-append}
use Rattle.bit_blast.proofs.Laws.{made_vars}
use Rattle.unroll_cnf.specs.Made.{table_of, last_of, AreWords, IsPast, IsGrid, HasRoom, Spends}
use Rattle.unroll_cnf.specs.Sizes.{costs, ports, size_of}
use Rattle.unroll_cnf.specs.Unrolled.{Table, no_words, instant, instants, unrolled, words}
use Rattle.unroll_cnf.proofs.Filling.{past_more}
use Rattle.unroll_cnf.proofs.Spending.{first_part_takes}

abbrev pub before_of : List (List (List Lit)) → Option Table
before_of all = option_map table_of (last_of all)

last_push : (all : List (List (List Lit))) (now : List (List Lit)) → last_of (all ++ now ∷ []) ≡ Some now
last_push all now = ap (slice_get (all ++ now ∷ [])) (omega (arith, length-append all (now ∷ []))) ∙ at_end all now
  where
    at_end : (all : List (List (List Lit))) (now : List (List Lit)) → slice_get (all ++ now ∷ []) (length all) ≡ Some now
    at_end [] now = refl
    at_end (x ∷ all) now = at_end all now

map_push : (all : List (List (List Lit))) (now : List (List Lit)) → map table_of (all ++ now ∷ []) ≡ map table_of all ++ table_of now ∷ []
map_push [] now = refl
map_push (x ∷ all) now = ap (λ (z : List Table). table_of x ∷ z) (map_push all now)

-- the words of the first instants are made
pub record InstantsSoFar (parts : Parts) (order : List EdgeId) (k : ℕ) (f g : Shape) (i : ℕ) (all : List (List (List Lit))) : Type 0 where
  pub made : with_entries f (instants parts order None f.vars k).entries ≡ with_entries g (instants parts order (before_of all) g.vars (k - i)).entries
  pub result : (instants parts order None f.vars k).result ≡ map table_of all ++ (instants parts order (before_of all) g.vars (k - i)).result
  pub past : IsPast parts g.vars (last_of all)
  pub some : 0 < g.vars
  pub rows : length all ≡ i
  pub each : All (AreWords parts g.vars) all
  pub spends : Spends f g (i * length parts.edges)

words_more : (parts : Parts) (n m : ℕ) (all : List (List (List Lit))) → n ≤ m → All (AreWords parts n) all → All (AreWords parts m) all
words_more parts n m all le h = λ j d lt. past_more parts n m (Some (get_or all j d)) le (h j d lt)

pub instants_start : (parts : Parts) (order : List EdgeId) (k : ℕ) (f : Shape) → 0 < f.vars → InstantsSoFar parts order k f f 0 []
instants_start parts order k f some = record {
  made = ap (λ j. with_entries f (instants parts order None f.vars j).entries) (let e : k ≡ k - 0 = omega arith in e);
  result = ap (λ j. (instants parts order None f.vars j).result) (let e : k ≡ k - 0 = omega arith in e);
  past = tt;
  some = some;
  rows = refl;
  each = All-nil (AreWords parts f.vars);
  spends = omega arith;
}

module _ (parts : Parts) (order : List EdgeId) (k : ℕ) where
  -- there is room for the clauses of the next instant
  pub instants_room : (f g : Shape) (i : ℕ) (all : List (List (List Lit))) → InstantsSoFar parts order k f g i all → i < k → HasRoom f (k * length parts.edges) → HasRoom g (length parts.edges)
  instants_room f g i all s lt r =
      let m : (i + 1) * length parts.edges ≤ k * length parts.edges = scaled (i + 1) k (length parts.edges) (omega arith) in
      omega (arith, s.spends, r, m)
    where
      scaled : (a b c : ℕ) → a ≤ b → a * c ≤ b * c
      scaled zero b c le = omega arith
      scaled (suc a) zero c le = absurd (omega arith)
      scaled (suc a) (suc b) c le = omega (arith, scaled a b c (omega arith))

  left_is : (before : Option Table) (n i : ℕ) → i < k → instants parts order before n (k - i) ≡ instants parts order before n (suc (k - (i + 1)))
  left_is before n i lt = ap (instants parts order before n) (let e : k - i ≡ suc (k - (i + 1)) = omega arith in e)

  -- where the next instant doesn't fit, all of them don't
  pub instants_full : (f g : Shape) (i most : ℕ) (all : List (List (List Lit))) → InstantsSoFar parts order k f g i all → i < k →
      most < after g.vars (instant parts (before_of all) g.vars no_words order).entries → most < after f.vars (instants parts order None f.vars k).entries
  instants_full f g i most all s lt full =
      let before = before_of all in
      let one = instant parts before g.vars no_words order in
      let rest = instants parts order (Some one.result) (after g.vars one.entries) (k - (i + 1)) in
      let whole = (instants parts order None f.vars k).entries in
      let left = (instants parts order before g.vars (k - i)).entries in
      omega (
        arith,
        full,
        vars-with_entries f whole,
        ap (λ (z : Shape). z.vars) s.made,
        vars-with_entries g left,
        ap (λ (z : Circuit (List Table)). after g.vars z.entries) (left_is before g.vars i lt),
        after-append g.vars one.entries rest.entries,
        after_more (after g.vars one.entries) rest.entries,
      )

  pub instants_step : (f g h : Shape) (i : ℕ) (all longer : List (List (List Lit))) (now : List (List Lit)) → InstantsSoFar parts order k f g i all → i < k →
      Makes Table g h (instant parts (before_of all) g.vars no_words order) (table_of now) → AreWords parts h.vars now → Spends g h (length parts.edges) → longer ≡ all ++ now ∷ [] → InstantsSoFar parts order k f h (i + 1) longer
  instants_step f g h i all longer now s lt m w spent l =
      let before = before_of all in
      let one = instant parts before g.vars no_words order in
      let rest = instants parts order (Some one.result) (after g.vars one.entries) (k - (i + 1)) in
      let vars = made_vars Table g h one (table_of now) m in
      let last : last_of longer ≡ Some now = ap last_of l ∙ last_push all now in
      let past : before_of longer ≡ Some one.result = ap (option_map table_of) last ∙ ap (λ (z : Table). Some z) m.gives in
      let same : instants parts order (before_of longer) h.vars (k - (i + 1)) ≡ rest = ap₂ (λ (z : Option Table) n. instants parts order z n (k - (i + 1))) past vars in
      let table : map table_of longer ≡ map table_of all ++ one.result ∷ [] = ap (map table_of) l ∙ (map_push all now ∙ ap (λ (z : Table). map table_of all ++ z ∷ []) m.gives) in
      record {
        made = s.made ∙ (ap (λ (z : Circuit (List Table)). with_entries g z.entries) (left_is before g.vars i lt)
            ∙ (with_entries-append g one.entries rest.entries
            ∙ ap₂ (λ (x : Shape) (z : Circuit (List Table)). with_entries x z.entries) (sym m.made) (sym same)));
        result = s.result ∙ (ap (λ (z : Circuit (List Table)). map table_of all ++ z.result) (left_is before g.vars i lt)
            ∙ (sym (append_assoc (map table_of all) (one.result ∷ []) rest.result)
            ∙ ap₂ (λ (x : List Table) (z : Circuit (List Table)). x ++ z.result) (sym table) (sym same)));
        past = subst (IsPast parts h.vars) (sym last) w;
        some = omega (arith, s.some, vars, after_more g.vars one.entries);
        rows = ap length l ∙ omega (arith, length-append all (now ∷ []), s.rows);
        each = subst (All (AreWords parts h.vars)) (sym l) (All-push (AreWords parts h.vars) all now (words_more parts g.vars h.vars all (omega (arith, vars, after_more g.vars one.entries)) s.each) w);
        spends = omega (arith, s.spends, spent);
      }

  pub instants_made : (f g : Shape) (i : ℕ) (all : List (List (List Lit))) → InstantsSoFar parts order k f g i all → k ≤ i → Makes (List Table) f g (instants parts order None f.vars k) (map table_of all)
  instants_made f g i all s le =
      let none : k - i ≡ 0 = omega arith in
      record {
        made = sym (s.made ∙ ap (λ j. with_entries g (instants parts order (before_of all) g.vars j).entries) none);
        gives = sym (s.result ∙ (ap (λ j. map table_of all ++ (instants parts order (before_of all) g.vars j).result) none ∙ append-nil (map table_of all)));
      }

  pub instants_grid : (f g : Shape) (i : ℕ) (all : List (List (List Lit))) → InstantsSoFar parts order k f g i all → i ≡ k → IsGrid (length parts.edges) k all
  instants_grid f g i all s e = record { rows = s.rows ∙ e; each = λ j d lt. (s.each j d lt).all }

  pub instants_spent : (f g : Shape) (i : ℕ) (all : List (List (List Lit))) → InstantsSoFar parts order k f g i all → i ≡ k → Spends f g (k * length parts.edges)
  instants_spent f g i all s e = subst (λ j. Spends f g (j * length parts.edges)) e s.spends

-- ---- the formula

-- no more variables than the size
vars_few : (parts : Parts) → IsValid parts → (order : List EdgeId) → IsSequence parts.edges order → (k n : ℕ) → n ≡ 1 → after n (instants parts order None n k).entries ≤ 1 + k * costs parts
vars_few parts valid order q k n e = subst (λ m. after m (instants parts order None m k).entries ≤ 1 + k * costs parts) (sym e) (first_part_takes parts valid order k q)

size_covers : (parts : Parts) (k : ℕ) → 1 + k * costs parts ≤ size_of parts k
size_covers parts k =
    let rest = 4 * ports parts + 4 * length parts.edges + 260 in
    let e : costs parts + rest ≡ costs parts + 4 * ports parts + 4 * length parts.edges + 260 = omega arith in
    subst (λ x. 1 + k * costs parts ≤ 1 + k * x) e (more k (costs parts) rest)
  where
    more : (k a b : ℕ) → 1 + k * a ≤ 1 + k * (a + b)
    more zero a b = omega arith
    more (suc k) a b = omega (arith, more k a b)

pub first_vars : (f : Shape) → f ≡ first_formula → f.vars ≡ 1
first_vars f e = ap (λ (z : Shape). z.vars) e

-- so the formula is never full
pub never_full : (parts : Parts) → IsValid parts → (order : List EdgeId) → IsSequence parts.edges order → (k : ℕ) (f : Shape) → size_of parts k ≤ most_vars → f ≡ first_formula → most_vars < after f.vars (instants parts order None f.vars k).entries → ⊥
never_full parts valid order q k f small e full = omega (arith, vars_few parts valid order q k f.vars (first_vars f e), size_covers parts k, small, full)

pub few_vars : (parts : Parts) → IsValid parts → (order : List EdgeId) → IsSequence parts.edges order → (k : ℕ) (f g : Shape) (all : List Table) → f ≡ first_formula → Makes (List Table) f g (instants parts order None f.vars k) all → g.vars ≤ 1 + k * costs parts
few_vars parts valid order q k f g all e m =
    omega (arith, made_vars (List Table) f g (instants parts order None f.vars k) all m, vars_few parts valid order q k f.vars (first_vars f e))

pub is_formula : (parts : Parts) (order : List EdgeId) (k : ℕ) (f g : Shape) (all : List Table) → f ≡ first_formula → Makes (List Table) f g (instants parts order None f.vars k) all → (g ≡ unrolled parts order k) × (all ≡ words parts order k)
is_formula parts order k f g all e m =
    let same : instants parts order None f.vars k ≡ instants parts order None 1 k = ap (λ n. instants parts order None n k) (first_vars f e) in
    (m.made ∙ ap₂ (λ (x : Shape) (c : Circuit (List Table)). with_entries x c.entries) e same, m.gives ∙ ap (λ (c : Circuit (List Table)). c.result) same)

-- at most so many words
words_most : (parts : Parts) → IsValid parts → (k : ℕ) → k ≤ 32 → k * length parts.edges ≤ 32 * 8192
words_most parts valid k le = product k 32 (length parts.edges) 8192 le valid.few
  where
    product : (a b c d : ℕ) → a ≤ b → c ≤ d → a * c ≤ b * d
    product zero b c d le few = omega arith
    product (suc a) zero c d le few = absurd (omega arith)
    product (suc a) (suc b) c d le few = omega (arith, product a b c d (omega arith) few, few)

-- there is room for all clauses
pub first_room : (parts : Parts) → IsValid parts → (k : ℕ) (f : Shape) → k ≤ 32 → f ≡ first_formula → HasRoom f (k * length parts.edges)
first_room parts valid k f le e =
    omega (arith, ap (λ (z : Shape). z.vars) e, ap (λ (z : Shape). length z.clauses) e, words_most parts valid k le)

-- and for more of them
pub last_room : (parts : Parts) → IsValid parts → (k : ℕ) (f g : Shape) → k ≤ 32 → f ≡ first_formula → Spends f g (k * length parts.edges) → HasRoom g 1
last_room parts valid k f g le e s =
    omega (arith, s, ap (λ (z : Shape). z.vars) e, ap (λ (z : Shape). length z.clauses) e, words_most parts valid k le)
