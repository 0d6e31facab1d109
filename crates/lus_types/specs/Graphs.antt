-- Calls as rows: for each place the places that it calls.
use Rattle.std.specs.Prelude.{◌≡◌, ◌<◌, ◌≤◌, ◌+◌, ◌⊎◌, ℕ, suc, Bool, true, false, List, [], ◌∷◌, ◌++◌, length, map, get_or, Option, Some, None}
use Rattle.lus_syntax.specs.declared.ast.Decl.{Decl}
use Rattle.lus_types.specs.declared.calls.search.Search.{Search}
use Rattle.lus_types.specs.declared.types.Meaning.{Meaning}
use Rattle.lus_types.specs.declared.types.Meaning.TheVariants.{Enumeration, Constant, Node, Enumerator}
use Rattle.lus_types.specs.Calls.{In, called_by}
use Rattle.lus_types.specs.Names.{Name, Globals}

abbrev pub Rows : Type 0
Rows = List (List ℕ)

abbrev pub row : Rows → ℕ → List ℕ
row rows f = get_or rows f []

abbrev pub node_place : Option Meaning → List ℕ
node_place None = []
node_place (Some (Enumeration p)) = []
node_place (Some (Constant p)) = []
node_place (Some (Node p)) = p ∷ []
node_place (Some (Enumerator p i)) = []

-- the nodes that these names mean
abbrev pub callees : Globals → List Name → List ℕ
callees g [] = []
callees g (name ∷ names) = node_place (g name) ++ callees g names

-- the nodes that each declaration calls
abbrev pub call_rows : Globals → List Decl → Rows
call_rows g decls = map (λ (d : Decl). callees g (called_by d)) decls

-- one row after the other leads from f to g
pub data Path (rows : Rows) : ℕ → ℕ → Type 0 where
  step : {f g : ℕ} → In g (row rows f) → Path rows f g
  steps : {f g h : ℕ} → In g (row rows f) → Path rows g h → Path rows f h

-- each way from f ends
pub data Ends (rows : Rows) : ℕ → Type 0 where
  all_end : {f : ℕ} → ((g : ℕ) → In g (row rows f) → Ends rows g) → Ends rows f

abbrev pub is_marked : List Bool → ℕ → Bool
is_marked marks f = get_or marks f false

-- how many are not marked
abbrev pub unmarked : List Bool → ℕ
unmarked [] = 0
unmarked (true ∷ marks) = unmarked marks
unmarked (false ∷ marks) = suc (unmarked marks)

-- just the marked places are in the list
pub record IsListed (s : Search) : Type 0 where
  pub listed : (f : ℕ) → is_marked s.marks f ≡ true → In f s.found
  pub marked : (f : ℕ) → In f s.found → is_marked s.marks f ≡ true

-- these places are marked, and new ones go to the end of the list
pub record Marks (places : List ℕ) (old new : Search) : Type 0 where
  pub long : length new.marks ≡ length old.marks
  pub size : unmarked new.marks + length new.found ≡ unmarked old.marks + length old.found
  pub kept : (f : ℕ) → is_marked old.marks f ≡ true → is_marked new.marks f ≡ true
  pub only : (f : ℕ) → is_marked new.marks f ≡ true → (is_marked old.marks f ≡ true) ⊎ In f places
  pub done : (f : ℕ) → In f places → f < length old.marks → is_marked new.marks f ≡ true
  pub grown : length old.found ≤ length new.found
  pub front : (i : ℕ) → i < length old.found → get_or new.found i 0 ≡ get_or old.found i 0
  pub listed : IsListed old → IsListed new

-- a search from a place that has followed the first places of its list
pub record IsSearch (rows : Rows) (start next : ℕ) (s : Search) : Type 0 where
  pub long : length s.marks ≡ length rows
  pub size : unmarked s.marks + length s.found ≡ length rows
  pub listed : IsListed s
  pub sound : (f : ℕ) → is_marked s.marks f ≡ true → Path rows start f
  pub first : (f : ℕ) → In f (row rows start) → f < length rows → is_marked s.marks f ≡ true
  pub closed : (i g : ℕ) → i < next → In g (row rows (get_or s.found i 0)) → g < length rows → is_marked s.marks g ≡ true
  pub within : next ≤ length s.found

-- just the places that a way from the start leads to are marked
pub record IsReach (rows : Rows) (start : ℕ) (marks : List Bool) : Type 0 where
  pub sound : (f : ℕ) → is_marked marks f ≡ true → Path rows start f
  pub all : (f : ℕ) → f < length rows → Path rows start f → is_marked marks f ≡ true

-- a caller is added to the rows of these places
pub record AddsCaller (caller : ℕ) (places : List ℕ) (old new : Rows) : Type 0 where
  pub long : length new ≡ length old
  pub only : (x y : ℕ) → In x (row new y) → In x (row old y) ⊎ ((x ≡ caller) × In y places)
  pub kept : (x y : ℕ) → In x (row old y) → In x (row new y)
  pub done : (y : ℕ) → In y places → y < length old → In caller (row new y)

-- the rows of callers, as far as the first rows say
pub record AreCallers (rows : Rows) (k : ℕ) (back : Rows) : Type 0 where
  pub long : length back ≡ length rows
  pub only : (x y : ℕ) → In x (row back y) → In y (row rows x)
  pub done : (x y : ℕ) → x < k → In y (row rows x) → y < length rows → In x (row back y)

pub record AllMarked (marks : List Bool) (places : List ℕ) : Type 0 where
  pub each : (f : ℕ) → In f places → is_marked marks f ≡ true

-- each way from a marked place ends
pub record AllEnd (rows : Rows) (marks : List Bool) : Type 0 where
  pub ending : (f : ℕ) → is_marked marks f ≡ true → Ends rows f

abbrev pub number : List ℕ → ℕ → ℕ
number numbers f = get_or numbers f 0

-- the first of these places have the numbers of their cycles, each that of its least place
pub record AreNumbered (rows : Rows) (k : ℕ) (numbers : List ℕ) : Type 0 where
  pub long : length numbers ≡ length rows
  pub own : (g : ℕ) → g < length rows → (number numbers g ≡ g) ⊎ ((number numbers g < k) × (Path rows (number numbers g) g × Path rows g (number numbers g)))
  pub equal : (a b : ℕ) → a < k → Path rows a b → Path rows b a → number numbers a ≡ number numbers b

-- the places that both rows mark have this number now
pub record Numbers (f : ℕ) (there back : List Bool) (k : ℕ) (old new : List ℕ) : Type 0 where
  pub long : length new ≡ length old
  pub both : (g : ℕ) → g < k → is_marked there g ≡ true → is_marked back g ≡ true → number new g ≡ f
  pub other : (g : ℕ) → (is_marked there g ≡ false) ⊎ (is_marked back g ≡ false) → number new g ≡ number old g
