-- Rows of callees and of callers.
use Rattle.std.proofs.Common.{◌≡◌, inl, inr, ⊎_elim, ℕ, zero, suc, ◌+◌, ◌<◌, ◌≤◌, List, [], ◌∷◌, ◌++◌, map, length, take, replicate, get_or, slice_get, slice_set, Some, None, refl, ap, sym, ◌∙◌, subst, arith}
use Rattle.std.specs.List.{flat_map}
use Rattle.std.proofs.lemmas.Bool.{cases_eq}
use Rattle.std.proofs.lemmas.List.{get_or-set_same, get_or-set_other, length-set, take_more, get_or_default}
use Rattle.std.proofs.lemmas.Grind.{flat_map-append}
use Rattle.std.proofs.lemmas.List.Folds.{flat_map-map}
use Rattle.lus_syntax.specs.declared.ast.Decl.{Decl}
use Rattle.lus_syntax.specs.declared.ast.Expr.{Expr}
use Rattle.lus_syntax.specs.declared.ast.ExprKind.TheVariants.{Call}
use Rattle.lus_types.specs.declared.types.Meaning.TheVariants.{Enumeration, Constant, Node, Enumerator}
use Rattle.lus_types.specs.Calls.{In, here, there, called_names, called_by, Calls, Reaches, by_call, by_calls}
use Rattle.lus_types.specs.Graphs.{Rows, row, node_place, callees, call_rows, Path, step, steps, AddsCaller, AreCallers}
use Rattle.lus_types.specs.Names.{Name, Globals, globals}
use Rattle.lus_types.proofs.Members.{in_left, in_right, in_append, in_one}
use Rattle.lus_types.proofs.Trees.{called_call}

append_nil : {A : Type 0} (xs : List A) → xs ++ [] ≡ xs
append_nil [] = refl
append_nil (x ∷ xs) = ap (λ r. x ∷ r) (append_nil xs)

append_more : {A : Type 0} (xs ys zs : List A) → (xs ++ ys) ++ zs ≡ xs ++ (ys ++ zs)
append_more [] ys zs = refl
append_more (x ∷ xs) ys zs = ap (λ r. x ∷ r) (append_more xs ys zs)

pub callees_append : (g : Globals) (xs ys : List Name) → callees g (xs ++ ys) ≡ callees g xs ++ callees g ys
callees_append g [] ys = refl
callees_append g (x ∷ xs) ys = ap (λ r. node_place (g x) ++ r) (callees_append g xs ys) ∙ sym (append_more (node_place (g x)) (callees g xs) (callees g ys))

-- two parts, one after the other
pub both_parts : (g : Globals) (xs ys names : List Name) (a b c : List ℕ) → names ≡ xs ++ ys → b ≡ a ++ callees g xs → c ≡ b ++ callees g ys → c ≡ a ++ callees g names
both_parts g xs ys names a b c e h k = k ∙ ap (λ r. r ++ callees g ys) h ∙ append_more a (callees g xs) (callees g ys) ∙ ap (λ r. a ++ r) (sym (callees_append g xs ys)) ∙ ap (λ n. a ++ callees g n) (sym e)

pub no_part : (g : Globals) (names : List Name) (a : List ℕ) → names ≡ [] → a ≡ a ++ callees g names
no_part g names a e = sym (append_nil a) ∙ ap (λ n. a ++ callees g n) (sym e)

-- a name that means a node
pub one_name : (g : Globals) (x : Name) → callees g (x ∷ []) ≡ node_place (g x)
one_name g x = append_nil (node_place (g x))

flat_more : {X : Type 0} (f : X → List Name) (xs : List X) (i : ℕ) (x : X) → i < length xs → flat_map f (take (i + 1) xs) ≡ flat_map f (take i xs) ++ f (get_or xs i x)
flat_more f xs i x h = ap (flat_map f) (take_more xs i x h) ∙ flat_map-append f (take i xs) (get_or xs i x ∷ []) ∙ ap (λ r. flat_map f (take i xs) ++ r) (append_nil (f (get_or xs i x)))

-- one item more of a list
pub next_part : {X : Type 0} (f : X → List Name) (g : Globals) (xs : List X) (i : ℕ) (x : X) (a b c : List ℕ) → i < length xs → x ≡ get_or xs i x
    → b ≡ a ++ callees g (flat_map f (take i xs)) → c ≡ b ++ callees g (f x) → c ≡ a ++ callees g (flat_map f (take (i + 1) xs))
next_part f g xs i x a b c h is e k = both_parts g (flat_map f (take i xs)) (f (get_or xs i x)) _ a b c (flat_more f xs i x h) e (k ∙ ap (λ y. b ++ callees g (f y)) is)

-- a part as the code reads it
pub part : (g : Globals) (x a : Expr) (r s : List ℕ) → x ≡ a → s ≡ r ++ callees g (called_names x) → s ≡ r ++ callees g (called_names a)
part g x a r s e h = h ∙ ap (λ y. r ++ callees g (called_names y)) e

pub call_parts : (g : Globals) (e : Expr) (f name : Name) (args es : List Expr) (a b c : List ℕ) → e.kind ≡ Call f args → es ≡ args → name ≡ f
    → b ≡ a ++ callees g (flat_map called_names es) → c ≡ b ++ node_place (g name) → c ≡ a ++ callees g (called_names e)
call_parts g e f name args es a b c is same word h k =
    both_parts g (flat_map (λ names. names) (map called_names args)) (f ∷ []) (called_names e) a b c (called_call e f args is)
    (h ∙ ap (λ xs. a ++ callees g (flat_map called_names xs)) same ∙ ap (λ ns. a ++ callees g ns) (sym (flat_map-map (λ names. names) called_names args)))
    (k ∙ ap (λ n. b ++ node_place (g n)) word ∙ ap (λ r. b ++ r) (sym (one_name g f)))

-- rows and calls
by_meaning : (g : Globals) (name : Name) (names : List Name) (p : ℕ) → In p (node_place (g name)) → In name names → (n : Name) × In n names × (g n ≡ Some (Node p))
by_meaning g name names p i among = elim (g name) as (λ m. g name ≡ m → In p (node_place m) → (n : Name) × In n names × (g n ≡ Some (Node p))) [
  | None ↦ λ e j. elim j [ ]
  | Some (Enumeration q) ↦ λ e j. elim j [ ]
  | Some (Constant q) ↦ λ e j. elim j [ ]
  | Some (Node q) ↦ λ e j. (name, among, e ∙ ap (λ r. Some (Node r)) (sym (in_one p q j)))
  | Some (Enumerator q k) ↦ λ e j. elim j [ ]
] refl i

named : (g : Globals) (names : List Name) (p : ℕ) → In p (callees g names) → (n : Name) × In n names × (g n ≡ Some (Node p))
named g [] p i = elim i [ ]
named g (x ∷ names) p i = elim (in_append (node_place (g x)) (callees g names) p i) [
  | inl j ↦ by_meaning g x (x ∷ names) p j here
  | inr j ↦ let found = named g names p j in (found.0, there found.1, found.2)
]

listed : (g : Globals) (names : List Name) (n : Name) (p : ℕ) → In n names → g n ≡ Some (Node p) → In p (callees g names)
listed g [] n p i e = elim i [ ]
listed g (x ∷ names) n p here e = in_left (node_place (g n)) (callees g names) p (subst (λ m. In p (node_place m)) (sym e) here)
listed g (x ∷ names) n p (there i) e = in_right (node_place (g x)) (callees g names) p (listed g names n p i e)

in_rows : (g : Globals) (decls : List Decl) (f p : ℕ) → In p (row (call_rows g decls) f) → (d : Decl) × (slice_get decls f ≡ Some d) × In p (callees g (called_by d))
in_rows g [] f p i = elim i [ ]
in_rows g (d ∷ decls) zero p i = (d, refl, i)
in_rows g (d ∷ decls) (suc f) p i = in_rows g decls f p i

same_decl : (a b : Decl) → Some a ≡ Some b → a ≡ b
same_decl a b e = cc e

of_rows : (g : Globals) (decls : List Decl) (f p : ℕ) (d : Decl) → slice_get decls f ≡ Some d → In p (callees g (called_by d)) → In p (row (call_rows g decls) f)
of_rows g [] f p d e i = cc e
of_rows g (x ∷ decls) zero p d e i = subst (λ (y : Decl). In p (callees g (called_by y))) (sym (same_decl x d e)) i
of_rows g (x ∷ decls) (suc f) p d e i = of_rows g decls f p d e i

pub call_of_row : (decls : List Decl) (f p : ℕ) → In p (row (call_rows (globals decls) decls) f) → Calls decls f p
call_of_row decls f p i =
    let at = in_rows (globals decls) decls f p i in
    let name = named (globals decls) (called_by at.0) p at.2 in
    record { decl = at.0; declared = at.1; name = name.0; among = name.1; means = name.2 }

pub row_of_call : (decls : List Decl) (f p : ℕ) → Calls decls f p → In p (row (call_rows (globals decls) decls) f)
row_of_call decls f p c = of_rows (globals decls) decls f p c.decl c.declared (listed (globals decls) (called_by c.decl) c.name p c.among c.means)

pub reaches : (decls : List Decl) (f p : ℕ) → Path (call_rows (globals decls) decls) f p → Reaches decls f p
reaches decls f p (step i) = by_call (call_of_row decls f p i)
reaches decls f p (steps {g = g} i way) = by_calls (call_of_row decls f g i) (reaches decls g p way)

pub path_of : (decls : List Decl) (f p : ℕ) → Reaches decls f p → Path (call_rows (globals decls) decls) f p
path_of decls f p (by_call c) = step (row_of_call decls f p c)
path_of decls f p (by_calls {g = g} c more) = steps (row_of_call decls f g c) (path_of decls g p more)

-- callers
pub adds_none : (caller : ℕ) (rows : Rows) → AddsCaller caller [] rows rows
adds_none caller rows = record { long = refl; only = λ x y i. inl i; kept = λ x y i. i; done = λ y i below. elim i [ ] }

pub adds_past : (caller place : ℕ) (rows : Rows) → length rows ≤ place → AddsCaller caller (place ∷ []) rows rows
adds_past caller place rows h = record { long = refl; only = λ x y i. inl i; kept = λ x y i. i; done = λ y i below. absurd (omega (arith, in_one y place i)) }

pub adds_one : (caller place : ℕ) (rows : Rows) → place < length rows → AddsCaller caller (place ∷ []) rows (slice_set rows place (row rows place ++ caller ∷ []))
adds_one caller place rows h =
    let new : List ℕ = row rows place ++ caller ∷ [] in
    let same : row (slice_set rows place new) place ≡ new = get_or-set_same rows place new [] h in
    let other : (y : ℕ) → (y ≡ place → ⊥) → row (slice_set rows place new) y ≡ row rows y = λ y apart. get_or-set_other rows place y new [] apart in
    record {
      long = length-set rows place new;
      only = λ x y i. ⊎_elim
          (λ e. elim (in_append (row rows place) (caller ∷ []) x (subst (In x) (ap (row (slice_set rows place new)) e ∙ same) i)) [
            | inl a ↦ inl (subst (λ z. In x (row rows z)) (sym e) a)
            | inr b ↦ inr (in_one x caller b, subst (λ z. In z (place ∷ [])) (sym e) here)
          ])
          (λ apart. inl (subst (In x) (other y apart) i))
          (cases_eq y place);
      kept = λ x y i. ⊎_elim
          (λ e. subst (In x) (sym (ap (row (slice_set rows place new)) e ∙ same)) (in_left (row rows place) (caller ∷ []) x (subst (λ z. In x (row rows z)) e i)))
          (λ apart. subst (In x) (sym (other y apart)) i)
          (cases_eq y place);
      done = λ y i below. subst (In caller) (sym (ap (row (slice_set rows place new)) (in_one y place i) ∙ same)) (in_right (row rows place) (caller ∷ []) caller here);
    }

pub adds_row : (caller place : ℕ) (rows : Rows) (d new : List ℕ) → place < length rows → new ≡ get_or rows place d ++ caller ∷ [] → AddsCaller caller (place ∷ []) rows (slice_set rows place new)
adds_row caller place rows d new h e =
    subst (λ r. AddsCaller caller (place ∷ []) rows (slice_set rows place r)) (sym (e ∙ ap (λ r. r ++ caller ∷ []) (get_or_default rows place d [] h))) (adds_one caller place rows h)

pub adds_both : (caller : ℕ) (xs ys : List ℕ) (a b c : Rows) → AddsCaller caller xs a b → AddsCaller caller ys b c → AddsCaller caller (xs ++ ys) a c
adds_both caller xs ys a b c m n = record {
  long = n.long ∙ m.long;
  only = λ x y i. elim (n.only x y i) [
    | inl k ↦ elim (m.only x y k) [ inl o ↦ inl o | inr j ↦ inr (j.0, in_left xs ys y j.1) ]
    | inr j ↦ inr (j.0, in_right xs ys y j.1)
  ];
  kept = λ x y i. n.kept x y (m.kept x y i);
  done = λ y i below. elim (in_append xs ys y i) [ inl j ↦ n.kept caller y (m.done y j below) | inr j ↦ n.done y j (omega (arith, m.long)) ];
}

pub adds_next : (caller : ℕ) (places : List ℕ) (i : ℕ) (a b c : Rows) → i < length places → AddsCaller caller (take i places) a b → AddsCaller caller (get_or places i 0 ∷ []) b c → AddsCaller caller (take (i + 1) places) a c
adds_next caller places i a b c h m n = subst (λ ps. AddsCaller caller ps a c) (sym (take_more places i 0 h)) (adds_both caller (take i places) (get_or places i 0 ∷ []) a b c m n)

no_row : (n y : ℕ) → row (replicate n []) y ≡ []
no_row zero y = refl
no_row (suc n) zero = refl
no_row (suc n) (suc y) = no_row n y

rows_long : (r : List ℕ) (n : ℕ) → length (replicate n r) ≡ n
rows_long r zero = refl
rows_long r (suc n) = ap suc (rows_long r n)

pub callers_none : (rows back : Rows) → back ≡ replicate (length rows) [] → AreCallers rows 0 back
callers_none rows back e = record {
  long = ap length e ∙ rows_long [] (length rows);
  only = λ x y i. elim (subst (In x) (ap (λ (b : Rows). row b y) e ∙ no_row (length rows) y) i) [ ];
  done = λ x y below i inside. absurd (omega arith);
}

pub callers_next : (rows : Rows) (k : ℕ) (places : List ℕ) (a b : Rows) → places ≡ row rows k → AreCallers rows k a → AddsCaller k places a b → AreCallers rows (k + 1) b
callers_next rows k places a b is m n = record {
  long = n.long ∙ m.long;
  only = λ x y i. elim (n.only x y i) [ inl o ↦ m.only x y o | inr j ↦ subst (λ z. In y (row rows z)) (sym j.0) (subst (In y) is j.1) ];
  done = λ x y below i inside. ⊎_elim
      (λ e. subst (λ z. In z (row b y)) (sym e) (n.done y (subst (In y) (sym is) (subst (λ z. In y (row rows z)) e i)) (omega (arith, m.long))))
      (λ apart. n.kept x y (m.done x y (omega arith) i inside))
      (cases_eq x k);
}

-- all rows have been gone through
pub callers_all : (rows : Rows) (k : ℕ) (back : Rows) → k ≡ length rows → AreCallers rows k back → AreCallers rows (length rows) back
callers_all rows k back e m = subst (λ n. AreCallers rows n back) e m
