-- What a map of names finds, as a table finds it.
use Rattle.std.proofs.Common.{◌≡◌, ℕ, Bool, true, false, cond, List, [], ◌∷◌, ◌++◌, not, Option, Some, None, refl, sym, ap, ◌∙◌, is_some}
use Rattle.std.specs.Global.{Vec}
use Rattle.std.specs.Map.{lookup}
use Rattle.std.specs.Option.{option_or}
use Rattle.indexmap.specs.IndexMap.{insert_entry}
use Rattle.std.specs.Str.{bytes_eq}
use Rattle.std.proofs.lemmas.Bool.{false≢true}
use Rattle.std.proofs.lemmas.Slice.Eq.{bytes_eq-Decides}
use Rattle.suite_file.specs.Records.{Text}
use Rattle.suite_file.specs.Tables.{Numbering, number_of}
use Rattle.suite_file.specs.NameTables.{Adds, IsTableOf, entries_seen}

abbrev pub is_key : List ℕ → Vec ℕ → Bool
is_key bs k = bytes_eq bs k.items

pub found : (es : List (Vec ℕ × ℕ)) (bs : List ℕ) → lookup (is_key bs) es ≡ number_of (entries_seen es) bs
found [] bs = refl
found (e ∷ es) bs = elim (bytes_eq bs e.0.items) as (λ b. cond b (Some e.1) (lookup (is_key bs) es) ≡ cond b (Some e.1) (number_of (entries_seen es) bs)) [
  | true ↦ refl
  | false ↦ found es bs
]

abbrev pub same_key : Vec ℕ → Vec ℕ → Bool
same_key x y = bytes_eq x.items y.items

-- a new name goes last
pub inserted : (es : List (Vec ℕ × ℕ)) (k : Vec ℕ) (v : ℕ) → is_some (number_of (entries_seen es) k.items) ≡ false
    → entries_seen (insert_entry same_key es k v) ≡ entries_seen es ++ (k.items, v) ∷ []
inserted [] k v new = refl
inserted (e ∷ es) k v new = elim (bytes_eq k.items e.0.items) as (λ b. is_some (cond b (Some e.1) (number_of (entries_seen es) k.items)) ≡ false → entries_seen (cond b ((e.0, v) ∷ es) (e ∷ insert_entry same_key es k v)) ≡ (e.0.items, e.1) ∷ (entries_seen es ++ (k.items, v) ∷ [])) [
  | true ↦ λ t. absurd (false≢true (sym t))
  | false ↦ λ t. ap (λ rest. (e.0.items, e.1) ∷ rest) (inserted es k v t)
] new

pub added : (es new : List (Vec ℕ × ℕ)) (k : Vec ℕ) (v : ℕ) (table : Numbering) (name : Text)
    → new ≡ insert_entry same_key es k v → k.items ≡ name → entries_seen es ≡ table → is_some (number_of table name) ≡ false
    → entries_seen new ≡ table ++ (name, v) ∷ []
added es new k v table name e f g h =
    ap entries_seen e ∙ inserted es k v (rw (f, g) h) ∙ (λ j. g j ++ (f j, v) ∷ [])

-- a name that is there keeps its number when entries come behind
pub number_append : (xs ys : Numbering) (name : Text) → number_of (xs ++ ys) name ≡ option_or (number_of xs name) (number_of ys name)
number_append [] ys name = refl
number_append (x ∷ xs) ys name = elim (bytes_eq name x.0) as (λ b. cond b (Some x.1) (number_of (xs ++ ys) name) ≡ option_or (cond b (Some x.1) (number_of xs name)) (number_of ys name)) [
  | true ↦ refl
  | false ↦ number_append xs ys name
]

-- a table and the entries that are still to come find what all entries have
pub record Splits (all table rest : Numbering) : Type 0 where
  pub finds : (name : Text) → number_of all name ≡ option_or (number_of table name) (number_of rest name)

pub splits_start : (all : Numbering) → Splits all [] all
splits_start all = record { finds = λ name. refl }

or_none : (o : Option ℕ) → option_or o None ≡ o
or_none None = refl
or_none (Some n) = refl

pub splits_end : (all table : Numbering) → Splits all table [] → IsTableOf all table
splits_end all table s name = sym (s.finds name ∙ or_none (number_of table name))

or_last : (o : Option ℕ) (b : Bool) (v : ℕ) (rest : Option ℕ) → option_or o (cond b (Some v) rest) ≡ option_or (option_or o (cond b (Some v) None)) rest
or_last None true v rest = refl
or_last None false v rest = refl
or_last (Some n) b v rest = refl

there : (old : Numbering) (n : Text) (v : ℕ) (rest : Numbering) (name : Text) → is_some (number_of old n) ≡ true → option_or (number_of old name) (number_of ((n, v) ∷ rest) name) ≡ option_or (number_of old name) (number_of rest name)
there old n v rest name h = go (bytes_eq name n) refl
  where
    held : (o : Option ℕ) (x y : Option ℕ) → is_some o ≡ true → option_or o x ≡ option_or o y
    held None x y e = absurd (false≢true e)
    held (Some k) x y e = refl

    go : (b : Bool) → bytes_eq name n ≡ b → option_or (number_of old name) (cond b (Some v) (number_of rest name)) ≡ option_or (number_of old name) (number_of rest name)
    go true e = held (number_of old name) (Some v) (number_of rest name) (rw ((bytes_eq-Decides name n).0 e) h)
    go false e = refl

pub splits_more : (all old new : Numbering) (n : Text) (v : ℕ) (rest : Numbering) (b : Bool) → b ≡ not (is_some (number_of old n)) → Adds b old new n v
    → Splits all old ((n, v) ∷ rest) → Splits all new rest
splits_more all old new n v rest true e h s = record { finds = λ name. s.finds name ∙ or_last (number_of old name) (bytes_eq name n) v (number_of rest name) ∙ rw (h, number_append old ((n, v) ∷ []) name) refl }
splits_more all old new n v rest false e h s = record { finds = λ name. s.finds name ∙ there old n v rest name (not_false (is_some (number_of old n)) e) ∙ rw h refl }
  where
    not_false : (b : Bool) → false ≡ not b → b ≡ true
    not_false true e = refl
    not_false false e = absurd (false≢true e)
