-- What a map of names finds, as a list of entries finds it.
use Rattle.std.proofs.Common.{◌≡◌, ◌≢◌, ℕ, Bool, true, false, ◌||◌, if◌then◌else◌, cond, List, [], ◌∷◌, ◌++◌, Option, Some, None, refl, sym, ap, ◌∙◌, subst, true≢false, is_some}
use Rattle.std.specs.Global.{Vec}
use Rattle.std.specs.Map.{lookup}
use Rattle.indexmap.specs.IndexMap.{insert_entry}
use Rattle.std.specs.Str.{bytes_eq}
use Rattle.std.specs.List.{list_any}
use Rattle.std.proofs.lemmas.List.{map-append}
use Rattle.std.proofs.lemmas.Slice.Eq.{bytes_eq-Decides}
use Rattle.indexmap.specs.IndexSet.{insert_key}
use Rattle.lus_types.specs.Names.{entry_of, is_among}
use Rattle.lus_types.specs.NameTables.{either}
use Rattle.lus_types.specs.Tables.{entries_seen, names_seen}

abbrev pub is_key : List ℕ → Vec ℕ → Bool
is_key bs k = bytes_eq bs k.items

abbrev pub same_key : Vec ℕ → Vec ℕ → Bool
same_key x y = bytes_eq x.items y.items

module _ {V : Type 0} where
  pub found : (es : List (Vec ℕ × V)) (bs : List ℕ) → lookup (is_key bs) es ≡ entry_of (entries_seen es) bs
  found [] bs = refl
  found (e ∷ es) bs = elim (bytes_eq bs e.0.items) as (λ b. cond b (Some e.1) (lookup (is_key bs) es) ≡ cond b (Some e.1) (entry_of (entries_seen es) bs)) [
    | true ↦ refl
    | false ↦ found es bs
  ]

  -- a new name goes last
  pub inserted : (es : List (Vec ℕ × V)) (k : Vec ℕ) (v : V) → entry_of (entries_seen es) k.items ≡ None
      → entries_seen (insert_entry same_key es k v) ≡ entries_seen es ++ (k.items, v) ∷ []
  inserted [] k v new = refl
  inserted (e ∷ es) k v new = elim (bytes_eq k.items e.0.items) as (λ b. cond b (Some e.1) (entry_of (entries_seen es) k.items) ≡ None → entries_seen (cond b ((e.0, v) ∷ es) (e ∷ insert_entry same_key es k v)) ≡ (e.0.items, e.1) ∷ (entries_seen es ++ (k.items, v) ∷ [])) [
    | true ↦ λ t. absurd (true≢false (ap is_some t))
    | false ↦ λ t. ap (λ rest. (e.0.items, e.1) ∷ rest) (inserted es k v t)
  ] new

  pub added : (es new : List (Vec ℕ × V)) (k : Vec ℕ) (v : V) (table : List (List ℕ × V)) (name : List ℕ)
      → new ≡ insert_entry same_key es k v → k.items ≡ name → entries_seen es ≡ table → entry_of table name ≡ None
      → entries_seen new ≡ table ++ (name, v) ∷ []
  added es new k v table name e f g h =
      let fresh : entry_of (entries_seen es) k.items ≡ None = ap (λ t. entry_of t k.items) g ∙ ap (entry_of table) f ∙ h in
      ap entries_seen e ∙ inserted es k v fresh ∙ (λ j. g j ++ (f j, v) ∷ [])

  -- whether a map has a name
  pub has : (es : List (Vec ℕ × V)) (bs : List ℕ) (table : List (List ℕ × V)) → entries_seen es ≡ table → is_some (lookup (is_key bs) es) ≡ is_some (entry_of table bs)
  has es bs table g = ap is_some (found es bs) ∙ ap (λ t. is_some (entry_of t bs)) g

  pub lacked : (o : Option V) → is_some o ≡ false → o ≡ None
  lacked None h = refl
  lacked (Some v) h = absurd (true≢false h)

pub among : (bs : List ℕ) (ks : List (Vec ℕ)) → list_any (is_key bs) ks ≡ is_among bs (names_seen ks)
among bs [] = refl
among bs (k ∷ ks) = elim (bytes_eq bs k.items) as (λ b. b || list_any (is_key bs) ks ≡ cond b true (is_among bs (names_seen ks))) [
  | true ↦ refl
  | false ↦ among bs ks
]

pub set_added : (ks new : List (Vec ℕ)) (k : Vec ℕ) (names : List (List ℕ)) (name : List ℕ)
    → new ≡ insert_key same_key ks k → k.items ≡ name → names_seen ks ≡ names → is_among name names ≡ false → names_seen new ≡ names ++ name ∷ []
set_added ks new k names name e f g h =
    let fresh : list_any (is_key k.items) ks ≡ false = among k.items ks ∙ (λ i. is_among (f i) (g i)) ∙ h in
    ap names_seen e ∙ ap (λ b. names_seen (if b then ks else (ks ++ k ∷ []))) fresh ∙ map-append (λ (v : Vec ℕ). v.items) ks (k ∷ []) ∙ (λ i. g i ++ f i ∷ [])

module _ {V : Type 0} where
  -- what is found in two lists, one behind the other
  pub joined : (xs ys : List (List ℕ × V)) (x : List ℕ) → entry_of (xs ++ ys) x ≡ either (entry_of xs x) (entry_of ys x)
  joined [] ys x = refl
  joined (e ∷ es) ys x = elim (bytes_eq x e.0) as (λ b. cond b (Some e.1) (entry_of (es ++ ys) x) ≡ either (cond b (Some e.1) (entry_of es x)) (entry_of ys x)) [
    | true ↦ refl
    | false ↦ joined es ys x
  ]

  first_stays : (a b : Option V) → a ≢ None → a ≡ either a b
  first_stays None b h = absurd (h refl)
  first_stays (Some v) b h = refl

  neither : (a : Option V) → a ≡ either a None
  neither None = refl
  neither (Some v) = refl

  -- a name that is there hides the new one
  pub kept : (xs : List (List ℕ × V)) (name x : List ℕ) (v : V) → entry_of xs name ≢ None → entry_of xs x ≡ either (entry_of xs x) (entry_of ((name, v) ∷ []) x)
  kept xs name x v h = elim (bytes_eq x name) as (λ b. bytes_eq x name ≡ b → entry_of xs x ≡ either (entry_of xs x) (cond b (Some v) None)) [
    | true ↦ λ e. first_stays (entry_of xs x) (Some v) (subst (λ n. entry_of xs n ≢ None) (sym ((bytes_eq-Decides x name).0 e)) h)
    | false ↦ λ e. neither (entry_of xs x)
  ] refl

  pub either_assoc : (a b c : Option V) → either (either a b) c ≡ either a (either b c)
  either_assoc None b c = refl
  either_assoc (Some v) b c = refl
