-- The list of complete paths, and when there are too many.
use Rattle.std.proofs.Common.{◌≡◌, ◌≢◌, inl, inr, ℕ, zero, suc, ◌+◌, ◌-◌, ◌<◌, ◌≤◌, List, [], ◌∷◌, ◌++◌, length, take, refl, ap, sym, ◌∙◌, subst, arith, Ok, Err, IfOk, Result}
use Rattle.std.specs.List.{filter, AllByRecursion, All}
use Rattle.std.proofs.lemmas.List.{length-append, take_at}
use Rattle.std.proofs.lemmas.List.Elements.{All-from_recursion, recursion_from_All}
use Rattle.op_network.specs.declared.edge.Edge.{Edge}
use Rattle.op_network.specs.declared.edge.EdgeId.{EdgeId}
use Rattle.op_network.specs.declared.edge.Parts.{Parts}
use Rattle.dep_paths.specs.declared.path.Step.{Step}
use Rattle.dep_paths.specs.declared.path.Path.{Path}
use Rattle.dep_paths.specs.declared.longer.Stop.{Stop}
use Rattle.dep_paths.specs.Has.{Has, InOrder}
use Rattle.dep_paths.specs.Paths.{Follows, last_edge, path_length, IsComplete, Before, IsListOf, MoreThan, CanBeCompleted, extended_by}
use Rattle.dep_paths.specs.Near.{IsClosed, IsTable}
use Rattle.dep_paths.specs.Levels.{row_at, AreReaderRows, longer_paths, level, last_of, ends_at, complete_below, IsTooLong}
use Rattle.dep_paths.proofs.Levels.{level_next}
use Rattle.dep_paths.proofs.Lists.{Contains-has, has_contains, pairs_in_order, in_order_pairs, has_all, all_has, Has-filter, InOrder-append, InOrder-filter, InOrder-weaker, same_items}
use Rattle.dep_paths.proofs.Order.{Beside, before_asym, before_different, beside_different, level_in_order}
use Rattle.dep_paths.proofs.Members.{IsOpen, IsWhole, Has-level, Has-complete, complete_has}
use Rattle.dep_paths.specs.declared.limits.TheConstants.{MOST_PATHS, MOST_LENGTH}

pub complete_in_order : (net : Parts) (near : List ℕ) (n k : ℕ) → n ≤ MOST_LENGTH → k ≤ n → IsClosed net → IsTable (n - 1) net near → InOrder Before (complete_below net near n k)
unfolding complete_below
complete_in_order net near n zero small below closed table = tt
complete_in_order net near n (suc k) small below closed table =
    InOrder-append Before (complete_below net near n k) (filter (ends_at near) (level net near n k))
    (complete_in_order net near n k small (omega arith) closed table)
    (InOrder-filter Before (ends_at near) (level net near n k) (InOrder-weaker Beside Before (level net near n k) (λ p q hp hq h. inr (omega (arith, h.long), h.first)) (level_in_order net near n k closed)))
    (λ p q hp hq. let a = Has-complete net near n k p small (omega arith) table hp in
    let b = Has-level net near n k q (Has-filter (ends_at near) (level net near n k) q hq).0 in
    inl (omega (arith, a.1, b.long)))

whole_complete : (net : Parts) (p : Path) → IsWhole net p → IsComplete net p
whole_complete net p h = record { starts = Contains-has net.inputs p.start h.starts; path = h.leads.path; ends = Contains-has net.outputs _ h.leads.ends }

complete_whole : (net : Parts) (p : Path) → IsComplete net p → IsWhole net p
complete_whole net p h = record { starts = has_contains net.inputs p.start h.starts; leads = record { path = h.path; ends = has_contains net.outputs _ h.ends } }

-- the list that is built is the list that is wanted
pub list_of : (net : Parts) (near : List ℕ) (n : ℕ) (ps : List Path) → n ≤ MOST_LENGTH → IsClosed net → IsTable (n - 1) net near → ps ≡ complete_below net near n n → IsListOf net n ps
list_of net near n ps small closed table is =
    let all = complete_below net near n n in
    subst (IsListOf net n) (sym is) (record {
      each = λ p. (
        (λ h. let c = Has-complete net near n n p small (omega arith) table (has_contains all p h) in (whole_complete net p c.0, omega (arith, c.1))),
        (λ h. Contains-has all p (complete_has net near n n p small (omega arith) closed table (complete_whole net p h.0) (omega (arith, h.1)))),
      );
      order = pairs_in_order Before all (complete_in_order net near n n small (omega arith) closed table);
    })

-- a path's front, of k steps
front : ℕ → Path → Path
front k p = record { start = p.start; steps = take k p.steps }

-- different complete paths, whose fronts these are
record Completes (net : Parts) (n k : ℕ) (ps : List Path) : Type 0 where
  whole : List Path
  long : length whole ≡ length ps
  each : AllByRecursion (λ q. IsComplete net q × (path_length q ≤ n)) whole
  different : InOrder (λ p q. p ≢ q) whole
  fronts : (q : Path) → Has whole q → Has ps (front k q)

follows_on : (edges : List Edge) (e : EdgeId) (ss ts : List Step) → Follows edges e ss → Follows edges (last_edge e ss) ts → Follows edges e (ss ++ ts)
follows_on edges e [] ts h k = k
follows_on edges e (s ∷ ss) ts h k = (h.0, follows_on edges s.edge ss ts h.1 k)

last_on : (e : EdgeId) (ss ts : List Step) → last_edge e (ss ++ ts) ≡ last_edge (last_edge e ss) ts
last_on e [] ts = refl
last_on e (s ∷ ss) ts = last_on s.edge ss ts

pub completed : (net : Parts) (near : List ℕ) (n k : ℕ) (p : Path) → n ≤ MOST_LENGTH → k < n → IsClosed net → IsTable (n - 1) net near → IsOpen net near n k p → CanBeCompleted net n p
completed net near n k p small below closed table h =
    let way = table.sound.way (last_of p) (omega (arith, h.close)) in
    let ends = subst (λ e. Has net.outputs e) (sym (last_on p.start p.steps way.0)) way.1.ends in
    record {
      rest = way.0;
      complete = record { starts = Contains-has net.inputs p.start h.starts; path = follows_on net.edges p.start p.steps way.0 h.path way.1.path; ends = Contains-has net.outputs _ ends };
      within = omega (arith, length-append p.steps way.0, h.long, h.close, way.2);
    }

front-extended_by : (k : ℕ) (p : Path) (rest : List Step) → length p.steps ≡ k → front k (extended_by p rest) ≡ p
unfolding front
front-extended_by k p rest long = ap (λ (ss : List Step). let q : Path = record { start = p.start; steps = ss } in q) (take_at p.steps rest k long)

-- each path of a level can be completed
pub all_can : (net : Parts) (near : List ℕ) (n k : ℕ) (ps : List Path) → n ≤ MOST_LENGTH → k < n → IsClosed net → IsTable (n - 1) net near → ps ≡ level net near n k → All (CanBeCompleted net n) ps
all_can net near n k ps small below closed table is =
    subst (All (CanBeCompleted net n)) (sym is) (All-from_recursion (CanBeCompleted net n) (level net near n k)
    (all_has (CanBeCompleted net n) (level net near n k) (λ p has. completed net near n k p small below closed table (Has-level net near n k p has))))

all_completed : (net : Parts) (near : List ℕ) (n k : ℕ) (ps : List Path) → n ≤ MOST_LENGTH → k < n → IsClosed net → IsTable (n - 1) net near → ((p : Path) → Has ps p → IsOpen net near n k p) → InOrder Beside ps → Completes net n k ps
all_completed net near n k [] small below closed table open' order = record { whole = []; long = refl; each = tt; different = tt; fronts = λ q h. h }
all_completed net near n k (p ∷ ps) small below closed table open' order =
    let o = open' p (inl refl) in
    let c = completed net near n k p small below closed table o in
    let whole = extended_by p c.rest in
    let cut = front-extended_by k p c.rest o.long in
    let rest = all_completed net near n k ps small below closed table (λ q h. open' q (inr h)) order.1 in
    record {
      whole = whole ∷ rest.whole;
      long = ap suc rest.long;
      each = ((c.complete, c.within), rest.each);
      different = (
        all_has (λ q. whole ≢ q) rest.whole (λ q h same.
            let r = rest.fronts q h in
            beside_different p (front k q) (has_all (Beside p) ps (front k q) order.0 r) (sym cut ∙ ap (front k) same)),
        rest.different,
      );
      fronts = λ q h. elim h [ inl e ↦ inl (sym cut ∙ ap (front k) e) | inr r ↦ inr (rest.fronts q r) ];
    }

-- a level that is too long, or complete paths that are too many
pub more_than : (net : Parts) (near : List ℕ) (n : ℕ) → n ≤ MOST_LENGTH → IsClosed net → IsTable (n - 1) net near → IsTooLong net near n → MoreThan MOST_PATHS net n
more_than net near n small closed table h = elim h.long [
  | inl many ↦
      let k = h.steps in
      let c = all_completed net near n k (level net near n k) small h.below closed table (λ p has. Has-level net near n k p has) (level_in_order net near n k closed) in
      record { paths = c.whole; each = All-from_recursion (λ q. IsComplete net q × (path_length q ≤ n)) c.whole c.each; different = pairs_in_order (λ p q. p ≢ q) c.whole c.different; many = omega (arith, many, c.long) }
  | inr many ↦
      let k = h.steps + 1 in
      let ps = complete_below net near n k in
      record {
        paths = ps;
        each = All-from_recursion (λ q. IsComplete net q × (path_length q ≤ n)) ps (all_has (λ q. IsComplete net q × (path_length q ≤ n)) ps (λ p has. let w = Has-complete net near n k p small (omega (arith, h.below)) table has in (whole_complete net p w.0, omega (arith, w.1, h.below))));
        different = pairs_in_order (λ p q. p ≢ q) ps (InOrder-weaker Before (λ p q. p ≢ q) ps (λ p q hp hq lt. before_different p q lt) (complete_in_order net near n k small (omega (arith, h.below)) closed table));
        many = many;
      }
]

-- at most one list has the property
pub one_list : (net : Parts) (n : ℕ) (ps qs : List Path) → IsListOf net n ps → IsListOf net n qs → ps ≡ qs
one_list net n ps qs a b = same_items Before ps qs before_asym (in_order_pairs Before ps a.order) (in_order_pairs Before qs b.order)
    (λ p h. has_contains qs p ((b.each p).1 ((a.each p).0 (Contains-has ps p h))))
    (λ p h. has_contains ps p ((a.each p).1 ((b.each p).0 (Contains-has qs p h))))

without : {X : Type 0} (xs : List X) (x : X) → Has xs x → (ys : List X) × (length xs ≡ suc (length ys)) × ((z : X) → x ≢ z → Has xs z → Has ys z)
without [] x h = absurd h
without (y ∷ xs) x h = elim h [
  | inl e ↦ (xs, refl, λ z apart k. elim k [ inl f ↦ absurd (apart (sym e ∙ f)) | inr r ↦ r ])
  | inr r ↦ let w = without xs x r in (y ∷ w.0, ap suc w.1, λ z apart k. elim k [ inl f ↦ inl f | inr l ↦ inr (w.2 z apart l) ])
]

-- different items of a list are no more than its items
pub no_more : {X : Type 0} (ys xs : List X) → InOrder (λ x y. x ≢ y) ys → ((y : X) → Has ys y → Has xs y) → length ys ≤ length xs
no_more [] xs apart h = omega arith
no_more (y ∷ ys) xs apart h =
    let w = without xs y (h y (inl refl)) in
    let rest = no_more ys w.0 apart.1 (λ z k. w.2 z (has_all (λ z. y ≢ z) ys z apart.0 k) (h z (inr k))) in
    omega (arith, w.1, rest)

-- where there are more than so many, the list is longer
pub list_is_longer : (count : ℕ) (net : Parts) (n : ℕ) (ps : List Path) → IsListOf net n ps → MoreThan count net n → count < length ps
list_is_longer count net n ps list more =
    let rest = no_more more.paths ps (in_order_pairs (λ p q. p ≢ q) more.paths more.different)
    (λ p h. has_contains ps p ((list.each p).1 (has_all (λ q. IsComplete net q × (path_length q ≤ n)) more.paths p (recursion_from_All (λ q. IsComplete net q × (path_length q ≤ n)) more.paths more.each) h))) in
    omega (arith, rest, more.many)

-- a list of few is not one of many
pub not_many : (net : Parts) (n : ℕ) (ps : List Path) → IsListOf net n ps → length ps ≤ MOST_PATHS → MoreThan MOST_PATHS net n → ⊥
not_many net n ps list few more = omega (arith, list_is_longer MOST_PATHS net n ps list more)

pub level_can : (net : Parts) (near : List ℕ) (n k : ℕ) (rows : List (List Step)) (ps : List Path) (result : Result (List Path) Stop) → n ≤ MOST_LENGTH → k < n - 1 → IsClosed net → IsTable (n - 1) net near → AreReaderRows net.edges near (n - 2 - k) rows → ps ≡ level net near n k → IfOk result (λ next. next ≡ longer_paths (row_at rows) ps) → IfOk result (All (CanBeCompleted net n))
level_can net near n k rows ps (Ok next) small below closed table are was is = all_can net near n (k + 1) next small (omega arith) closed table (level_next net near n k rows ps next are was is)
level_can net near n k rows ps (Err fault) small below closed table are was is = is
