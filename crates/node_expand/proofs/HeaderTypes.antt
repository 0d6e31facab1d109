-- The table of a header tells the types of its variables.
use Rattle.std.proofs.Common.{◌≡◌, List, [], ◌∷◌, ◌++◌, map, refl, sym, ap, ap₂, ◌∙◌}
use Rattle.std.proofs.lemmas.List.{map-append}
use Rattle.op_network.specs.declared.value.Ty.{Ty}
use Rattle.lus_types.specs.NameTables.{either}
use Rattle.lus_types.specs.Names.{Name, entry_of}
use Rattle.lus_types.specs.Programs as program
use Rattle.lus_types.proofs.Tabled.{joined}
use Rattle.node_expand.specs.declared.header.Variable.{Variable}
use Rattle.node_expand.specs.NameTables.{with_entries}
use Rattle.node_expand.specs.Variables.{type_among, typed_names, variable_seen}
use Rattle.node_expand.proofs.NamesFound.{found_fresh, found_with_entries}

abbrev named : List program.Variable → List (Name × Ty)
named vs = map (λ (v : program.Variable). (v.name, v.ty)) vs

names_seen : (vs : List Variable) → typed_names vs ≡ named (map variable_seen vs)
names_seen [] = refl
names_seen (v ∷ vs) = ap (λ l. (v.name, v.ty) ∷ l) (names_seen vs)

pub types_found : (inputs outputs locals ins outs locs : List Variable) (none types more most : List (Name × Ty)) (x : Name)
    → ins ≡ inputs → outs ≡ outputs → locs ≡ locals
    → none ≡ [] → types ≡ with_entries none (typed_names ins) → more ≡ with_entries types (typed_names outs) → most ≡ with_entries more (typed_names locs)
    → entry_of most x ≡ type_among inputs outputs locals x
types_found inputs outputs locals ins' outs' locs' none types more most x i o l e f' g' h' =
    let f = f' ∙ ap (λ vs. with_entries none (typed_names vs)) i in
    let g = g' ∙ ap (λ vs. with_entries types (typed_names vs)) o in
    let h = h' ∙ ap (λ vs. with_entries more (typed_names vs)) l in
    let ins = map variable_seen inputs in
    let outs = map variable_seen outputs in
    let locs = map variable_seen locals in
    let first : entry_of types x ≡ entry_of (named ins) x =
    ap (λ t. entry_of t x) (f ∙ ap (λ t. with_entries t (typed_names inputs)) e) ∙ found_fresh (typed_names inputs) x ∙ ap (λ l. entry_of l x) (names_seen inputs) in
    let second : entry_of more x ≡ either (entry_of (named ins) x) (entry_of (named outs) x) =
    ap (λ t. entry_of t x) g ∙ found_with_entries types (typed_names outputs) x ∙ ap₂ either first (ap (λ l. entry_of l x) (names_seen outputs)) in
    let third : entry_of most x ≡ either (either (entry_of (named ins) x) (entry_of (named outs) x)) (entry_of (named locs) x) =
    ap (λ t. entry_of t x) h ∙ found_with_entries more (typed_names locals) x ∙ ap₂ either second (ap (λ l. entry_of l x) (names_seen locals)) in
    let both : either (entry_of (named ins) x) (entry_of (named outs) x) ≡ entry_of (named ins ++ named outs) x = sym (joined (named ins) (named outs) x) in
    third
    ∙ ap (λ o. either o (entry_of (named locs) x)) both
    ∙ sym (joined (named ins ++ named outs) (named locs) x)
    ∙ ap (λ l. entry_of (l ++ named locs) x) (sym (map-append (λ (v : program.Variable). (v.name, v.ty)) ins outs))
    ∙ ap (λ l. entry_of l x) (sym (map-append (λ (v : program.Variable). (v.name, v.ty)) (ins ++ outs) locs))
    ∙ ap (λ l. entry_of (named l) x) (assoc ins outs locs)
  where
    assoc : (xs ys zs : List program.Variable) → (xs ++ ys) ++ zs ≡ xs ++ (ys ++ zs)
    assoc [] ys zs = refl
    assoc (v ∷ xs) ys zs = ap (λ l. v ∷ l) (assoc xs ys zs)
