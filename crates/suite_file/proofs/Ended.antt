-- The tests that ended, and their names.
use Rattle.std.proofs.Common.{◌≡◌, ◌+◌, ◌∙◌, ℕ, Bool, true, false, ◌||◌, nat_le, List, [], ◌∷◌, ◌++◌, length, Option, Some, None, refl, sym, ap, inl, inr, arith}
use Rattle.std.specs.BTreeMap.{is_at}
use Rattle.std.specs.BTreeSet.{BTreeSet, insert_key}
use Rattle.std.specs.Cmp.Lexicographic.{slice_cmp}
use Rattle.std.specs.Global.{Vec}
use Rattle.std.specs.List.{list_any}
use Rattle.std.specs.Ordering.{nat_cmp, is_eq, match_ordering}
use Rattle.std.specs.Str.{bytes_eq}
use Rattle.std.specs.declared.cmp.Ordering.{Ordering}
use Rattle.std.specs.declared.cmp.Ordering.TheVariants.{Less, Equal, Greater}
use Rattle.std.proofs.lemmas.Map.Text.{is_eq-slice_cmp}
use Rattle.std.proofs.lemmas.Bool.{false≢true}
use Rattle.std.proofs.lemmas.Slice.Eq.{bytes_eq-Decides}
use Rattle.std.proofs.lemmas.Bool.Decides.{leb_tells}
use Rattle.op_network.specs.declared.test.Test.{Test}
use Rattle.suite_file.specs.Records.{Text}
use Rattle.suite_file.specs.declared.progress.Progress.{Progress}
use Rattle.suite_file.specs.NameTables.{Keeps, holds}
use Rattle.suite_file.specs.Suites.{all_tests, has_ended, is_current}
use Rattle.suite_file.specs.Steps.{IsKept}
use Rattle.suite_file.proofs.Places.{length_last}

pub full_next : (ended : List Test) (test : Test) → nat_le 209999 (length ended) ≡ nat_le 210000 (length (ended ++ test ∷ []))
full_next ended test = rw (length_last ended test) (same (length ended))
  where
    same : (n : ℕ) → nat_le 209999 n ≡ nat_le 210000 (n + 1)
    same n = elim (leb_tells 209999 n) [
      | inl t ↦ elim (leb_tells 210000 (n + 1)) [
        | inl u ↦ t.0 ∙ sym u.0
        | inr u ↦ absurd (omega (arith, t.1, u.1))
      ]
      | inr t ↦ elim (leb_tells 210000 (n + 1)) [
        | inl u ↦ absurd (omega (arith, t.1, u.1))
        | inr u ↦ t.0 ∙ sym u.0
      ]
    ]

or_false : (b : Bool) → (b || false) ≡ b
or_false true = refl
or_false false = refl

or_assoc : (a b c : Bool) → ((a || b) || c) ≡ (a || (b || c))
or_assoc true b c = refl
or_assoc false b c = refl

pub ended_last : (ended : List Test) (test : Test) (name : Text) → has_ended (ended ++ test ∷ []) name ≡ (has_ended ended name || bytes_eq name test.name)
ended_last [] test name = or_false (bytes_eq name test.name)
ended_last (x ∷ ended) test name = rw (ended_last ended test name) (sym (or_assoc (bytes_eq name x.name) (has_ended ended name) (bytes_eq name test.name)))

-- ---- the names of the tests that ended

abbrev Key : Type 0
Key = Vec ℕ

abbrev order : Key → Key → Ordering
order a b = slice_cmp nat_cmp a.items b.items

or_same : (a b : Bool) → (a || b) ≡ (a || (a || b))
or_same true b = refl
or_same false b = refl

or_swap : (a b c : Bool) → (a || (b || c)) ≡ (b || (a || c))
or_swap true true c = refl
or_swap true false c = refl
or_swap false true c = refl
or_swap false false c = refl

or_last : (a b : Bool) → (a || b) ≡ (b || a)
or_last true true = refl
or_last true false = refl
or_last false true = refl
or_last false false = refl

any_insert : (test : Key → Bool) (key : Key) → ((x : Key) → order key x ≡ Equal → test x ≡ test key) → (keys : List Key) → list_any test (insert_key order keys key) ≡ (test key || list_any test keys)
any_insert test key same [] = refl
any_insert test key same (x ∷ keys) = by (order key x) refl (any_insert test key same keys)
  where
    by : (o : Ordering) → order key x ≡ o → list_any test (insert_key order keys key) ≡ (test key || list_any test keys)
        → list_any test (match_ordering o (key ∷ x ∷ keys) (x ∷ keys) (x ∷ insert_key order keys key)) ≡ (test key || (test x || list_any test keys))
    by Less e rest = refl
    by Equal e rest = or_same (test x) (list_any test keys) ∙ ap (λ t. t || (test x || list_any test keys)) (same x e)
    by Greater e rest = ap (λ t. test x || t) rest ∙ or_swap (test x) (test key) (list_any test keys)

same_name : (name bytes : Text) → is_eq (slice_cmp nat_cmp name bytes) ≡ true → name ≡ bytes
same_name name bytes e = (bytes_eq-Decides name bytes).0 (sym (is_eq-slice_cmp name bytes) ∙ e)

pub name_kept : (old new : BTreeSet Key) (key : Key) (name : Text) → new.keys ≡ insert_key order old.keys key → key.items ≡ name → Keeps old new name
name_kept old new key name keys is = record {
  keeps = λ other.
      let equal : (x : Key) → order key x ≡ Equal → is_eq (slice_cmp nat_cmp other x.items) ≡ is_eq (slice_cmp nat_cmp other key.items) = λ x e. ap (λ n. is_eq (slice_cmp nat_cmp other n)) (sym (same_name key.items x.items (ap is_eq e))) in
      ap (list_any (is_at (λ (k : Key). slice_cmp nat_cmp other k.items))) keys ∙ any_insert (is_at (λ k. slice_cmp nat_cmp other k.items)) key equal old.keys
      ∙ ap (λ b. b || holds old other) (is_eq-slice_cmp other key.items ∙ ap (bytes_eq other) is);
}

-- ---- what the reader keeps

pub none_kept : (p : Progress) → p.ended ≡ [] → p.names.keys ≡ [] → p.current ≡ None → IsKept p
none_kept p e n c = record {
  knows = λ name. ap (λ (t : List Test). has_ended t name) e ∙ sym (ap (list_any (is_at (λ (k : Key). slice_cmp nat_cmp name k.items))) n);
  fresh = λ name h. ap (λ (t : List Test). has_ended t name) e;
}

pub current_open : (p : Progress) (name : Text) → IsKept p → is_current p.current name ≡ true → false ≡ has_ended p.ended name
current_open p name k h = sym (k.fresh name h)

pub kept_knows : (p : Progress) (name : Text) → IsKept p → holds p.names name ≡ has_ended p.ended name
kept_knows p name k = sym (k.knows name)

-- the test at hand ended
pub kept_closed : (old new : Progress) (test : Test) → IsKept old → new.ended ≡ old.ended ++ test ∷ [] → Keeps old.names new.names test.name → new.current ≡ None → IsKept new
kept_closed old new test k e n c = record {
  knows = λ name. ap (λ (t : List Test). has_ended t name) e ∙ ended_last old.ended test name ∙ ap (λ b. b || bytes_eq name test.name) (k.knows name) ∙ or_last (holds old.names name) (bytes_eq name test.name) ∙ sym (n.keeps name);
  fresh = λ name h. absurd (false≢true (sym (ap (λ (o : Option Test). is_current o name) c) ∙ h));
}

-- the test at hand keeps its name
pub kept_longer : (old new : Progress) → IsKept old → new.ended ≡ old.ended → new.names ≡ old.names → ((name : Text) → is_current new.current name ≡ is_current old.current name) → IsKept new
kept_longer old new k e n c = record {
  knows = λ name. ap (λ (t : List Test). has_ended t name) e ∙ k.knows name ∙ ap (λ (s : BTreeSet Key). holds s name) (sym n);
  fresh = λ name h. ap (λ (t : List Test). has_ended t name) e ∙ k.fresh name (sym (c name) ∙ h);
}

-- a new test is at hand
pub kept_first : (old new : Progress) (test : Test) → IsKept old → new.ended ≡ old.ended → new.names ≡ old.names → new.current ≡ Some test → has_ended old.ended test.name ≡ false → IsKept new
kept_first old new test k e n c f = record {
  knows = λ name. ap (λ (t : List Test). has_ended t name) e ∙ k.knows name ∙ ap (λ (s : BTreeSet Key). holds s name) (sym n);
  fresh = λ name h.
      let same : bytes_eq test.name name ≡ true = sym (ap (λ (o : Option Test). is_current o name) c) ∙ h in
      ap (λ (t : List Test). has_ended t name) e ∙ ap (has_ended old.ended) (sym ((bytes_eq-Decides test.name name).0 same)) ∙ f;
}

-- a name that is neither that of a test that ended nor of the one at hand
pub new_name : (ended : List Test) (current : Option Test) (name : Text) → has_ended ended name ≡ false → is_current current name ≡ false → has_ended (all_tests ended current) name ≡ false
new_name ended None name h c = h
new_name ended (Some test) name h c = ended_last ended test name ∙ rw h (other (bytes_eq name test.name) refl)
  where
    other : (b : Bool) → bytes_eq name test.name ≡ b → (false || b) ≡ false
    other false e = refl
    other true e = absurd (false≢true (sym c ∙ ap (λ n. bytes_eq n name) (sym ((bytes_eq-Decides name test.name).0 e)) ∙ (bytes_eq-Decides name name).1 refl))
