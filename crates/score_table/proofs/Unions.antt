-- What rows cover together.
use Rattle.std.proofs.Common.{◌≡◌, ℕ, suc, ◌+◌, ◌<◌, ◌≤◌, Bool, true, false, ◌||◌, List, [], ◌∷◌, ◌++◌, length, get_or, map, take, refl, sym, ap, ap₂, ◌∙◌, zero-add, arith}
use Rattle.std.specs.Prelude.{All, Some, None, cond, fold, replicate, position, nat_lt, not}
use Rattle.std.specs.List.{position_or_len, prefix_len, range_with_len}
use Rattle.std.proofs.lemmas.Bool.{cond-false, cond-true, le-ltb, lt-ltb}
use Rattle.std.proofs.lemmas.List.{get_or_past, length-map, take_more}
use Rattle.std.proofs.lemmas.List.Elements.{All-head, All-tail}
use Rattle.std.proofs.lemmas.List.Folds.{list_any_none}
use Rattle.std.proofs.lemmas.List.FromFn.{fill_by_all, get_or-map-range_with_len, length-map-range_with_len, length-range_with_len}
use Rattle.std.proofs.lemmas.List.Sums.{fold_push, position_or_len_is}
use Rattle.cov_base.specs.BitRow.{either}
use Rattle.dep_paths.specs.Duties.{Planned}
use Rattle.score_table.specs.declared.row.TestRow.{TestRow}
use Rattle.score_table.specs.Coverage.{covers_at, first_covering, is_covered_at, marks_of}
use Rattle.score_table.specs.Rows.{row_of, union_of}
use Rattle.score_table.specs.Runs.{TestRun}

map_same : {X Y : Type 0} (f g : X → Y) (xs : List X) → ((x : X) → f x ≡ g x) → map f xs ≡ map g xs
map_same f g [] same = refl
map_same f g (x ∷ xs) same = ap₂ (λ y l. y ∷ l) (same x) (map_same f g xs same)

either_map : {X : Type 0} (f g : X → Bool) (xs : List X) → either (map f xs) (map g xs) ≡ map (λ x. f x || g x) xs
either_map f g [] = refl
either_map f g (x ∷ xs) = ap (λ l. (f x || g x) ∷ l) (either_map f g xs)

or_false : (a : Bool) → a ≡ (a || false)
or_false true = refl
or_false false = refl

or_assoc : (a b c : Bool) → ((a || b) || c) ≡ (a || (b || c))
or_assoc true b c = refl
or_assoc false b c = refl

no_bits : {X : Type 0} (xs : List X) → replicate (length xs) false ≡ map (λ (x : X). false) xs
no_bits [] = refl
no_bits (x ∷ xs) = ap (λ l. false ∷ l) (no_bits xs)

-- a list, from its items
bits_are : (bits : List Bool) (n : ℕ) → length bits ≡ n → bits ≡ map (λ o. get_or bits o false) (range_with_len 0 n)
bits_are bits n long = fill_by_all (λ o. get_or bits o false) bits n false long (λ k lt. refl)

abbrev pub AreWide : ℕ → List TestRun → Type 0
AreWide n runs = All (λ (run : TestRun). length run.covered ≡ n) runs

-- some bits, and those of the rows
union_from : (n : ℕ) (f : ℕ → Bool) (runs : List TestRun) → AreWide n runs
    → fold (λ bits (row : TestRow). either bits row.covered) (map f (range_with_len 0 n)) (map row_of runs) ≡ map (λ o. f o || is_covered_at runs o) (range_with_len 0 n)
union_from n f [] wide = map_same f (λ o. f o || false) (range_with_len 0 n) (λ o. or_false (f o))
union_from n f (run ∷ runs) wide =
    let here : ℕ → Bool = λ o. covers_at o run in
    let places = range_with_len 0 n in
    let long = All-head (λ (run : TestRun). length run.covered ≡ n) run runs wide in
    let rest = All-tail (λ (run : TestRun). length run.covered ≡ n) run runs wide in
    ap (λ bits. fold (λ bits (row : TestRow). either bits row.covered) bits (map row_of runs)) (ap (either (map f places)) (bits_are run.covered n long) ∙ either_map f here places)
    ∙ union_from n (λ o. f o || here o) runs rest
    ∙ map_same (λ o. (f o || here o) || is_covered_at runs o) (λ o. f o || is_covered_at (run ∷ runs) o) places (λ o. or_assoc (f o) (here o) (is_covered_at runs o))

pub union_is : (plan : Planned) (runs : List TestRun) → AreWide (length plan.duties) runs → union_of (length plan.duties) (map row_of runs) ≡ marks_of plan runs
union_is plan runs wide =
    let n = length plan.duties in
    ap (λ bits. fold (λ bits (row : TestRow). either bits row.covered) bits (map row_of runs)) (ap (λ m. replicate m false) (sym (length-range_with_len 0 n)) ∙ no_bits (range_with_len 0 n))
    ∙ union_from n (λ o. false) runs wide

pub marks_of_long : (plan : Planned) (runs : List TestRun) → length (marks_of plan runs) ≡ length plan.duties
marks_of_long plan runs = length-map-range_with_len (is_covered_at runs) 0 (length plan.duties)

-- the bit of what the rows cover together
pub covered_is : (plan : Planned) (runs : List TestRun) (o : ℕ) → o < length plan.duties → get_or (marks_of plan runs) o false ≡ is_covered_at runs o
covered_is plan runs o lt = get_or-map-range_with_len (is_covered_at runs) 0 (length plan.duties) o o false lt (zero-add o)

-- no run covers what its marks lack
past_none : (n o : ℕ) (runs : List TestRun) (k : ℕ) (d : TestRun) → AreWide n runs → n ≤ o → k < length runs → covers_at o (get_or runs k d) ≡ false
past_none n o runs k d wide past lt = get_or_past (get_or runs k d).covered o false (let long = wide k d lt in omega (arith, long, past))

pub none_covered : (n o : ℕ) (runs : List TestRun) → AreWide n runs → n ≤ o → is_covered_at runs o ≡ false
none_covered n o runs wide past = list_any_none (covers_at o) runs (λ k d lt. past_none n o runs k d wide past lt)

either_long : (a b : List Bool) → length a ≡ length b → length (either a b) ≡ length a
either_long [] b size = refl
either_long (x ∷ a) [] size = absurd (omega (arith, size))
either_long (x ∷ a) (y ∷ b) size = ap suc (either_long a b (omega (arith, size)))

-- the bits of one row more
pub wide_more : (n : ℕ) (bits bits' : List Bool) (row : TestRow) → length bits ≡ n → length row.covered ≡ n → bits' ≡ either bits row.covered → length bits' ≡ n
wide_more n bits bits' row size wide is = ap length is ∙ either_long bits row.covered (size ∙ sym wide) ∙ size

pub union_more : (n i : ℕ) (rows : List TestRow) (row : TestRow) (bits bits' : List Bool) → i < length rows → row ≡ get_or rows i row → bits ≡ union_of n (take i rows) → bits' ≡ either bits row.covered → bits' ≡ union_of n (take (i + 1) rows)
union_more n i rows row bits bits' lt there before is =
    is ∙ ap (λ l. either l row.covered) before
    ∙ sym (ap (union_of n) (take_more rows i row lt ∙ ap (λ (r : TestRow). take i rows ++ r ∷ []) (sym there))
    ∙ fold_push (λ bits (r : TestRow). either bits r.covered) (replicate n false) (take i rows) row)

-- the first place at which a test passes
pub position_at : {X : Type 0} (p : X → Bool) (xs : List X) (i : ℕ) (d : X) → i < length xs → ((k : ℕ) → k < i → p (get_or xs k d) ≡ false) → p (get_or xs i d) ≡ true → Some i ≡ position p xs
position_at p xs i d lt before here =
    sym (ap (λ n. cond (nat_lt n (length xs)) (Some n) None) (position_or_len_is p xs i d (omega (arith, lt)) before (λ less. here)) ∙ cond-true (nat_lt i (length xs)) (Some i) None (lt-ltb i (length xs) lt))

-- no place
pub position_nowhere : {X : Type 0} (p : X → Bool) (xs : List X) → ((k : ℕ) (d : X) → k < length xs → p (get_or xs k d) ≡ false) → None ≡ position p xs
position_nowhere {X = X} p xs none = sym (ap (λ n. cond (nat_lt n (length xs)) (Some n) None) (nowhere xs none) ∙ cond-false (nat_lt (length xs) (length xs)) (Some (length xs)) None (le-ltb (length xs) (length xs) (omega arith)))
  where
    nowhere : (ys : List X) → ((k : ℕ) (d : X) → k < length ys → p (get_or ys k d) ≡ false) → position_or_len p ys ≡ length ys
    nowhere [] h = refl
    nowhere (y ∷ ys) h = position_or_len_is p (y ∷ ys) (length (y ∷ ys)) y (omega arith) (λ k lt. h k y lt) (λ lt. absurd (omega (arith, lt)))

-- the length of the front that doesn't pass, by what is kept of each item
prefix_same : {X Y : Type 0} (f : X → Y) (p : Y → Bool) (q : X → Bool) (xs : List X) → ((x : X) → p (f x) ≡ q x) → prefix_len p (map f xs) ≡ prefix_len q xs
prefix_same f p q [] same = refl
prefix_same f p q (x ∷ xs) same = ap₂ (λ b n. cond b (1 + n) 0) (same x) (prefix_same f p q xs same)

pub none_first : (n o : ℕ) (runs : List TestRun) → AreWide n runs → n ≤ o → None ≡ first_covering runs o
none_first n o runs wide past = position_nowhere (covers_at o) runs (λ k d lt. past_none n o runs k d wide past lt)

-- the first row that has an obligation
pub first_is : (runs : List TestRun) (o : ℕ) → position (λ (row : TestRow). get_or row.covered o false) (map row_of runs) ≡ first_covering runs o
first_is runs o =
    let n = prefix_same row_of (λ (row : TestRow). not (get_or row.covered o false)) (λ run. not (covers_at o run)) runs (λ run. refl) in
    ap₂ (λ m k. cond (nat_lt m k) (Some m) None) n (length-map runs row_of)
