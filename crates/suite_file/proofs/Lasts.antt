-- Of the tests so far, those that ended and the last one.
use Rattle.std.proofs.Common.{◌≡◌, ◌≤◌, ◌∙◌, ℕ, zero, suc, Bool, true, false, not, ◌||◌, ◌&&◌, nat_le, List, [], ◌∷◌, ◌++◌, length, Option, Some, None, refl, sym, ap, arith, slice_index_or}
use Rattle.std.specs.List.{Contains}
use Rattle.std.specs.Str.{bytes_eq}
use Rattle.std.proofs.lemmas.Bool.{false≢true}
use Rattle.std.proofs.lemmas.Slice.Eq.{bytes_eq-Decides}
use Rattle.op_network.specs.declared.test.Test.{Test}
use Rattle.op_network.specs.declared.value.Value.{Value}
use Rattle.suite_file.specs.Records.{Text}
use Rattle.suite_file.specs.Refusals.{HasEnded, IsTestTooMany, Lacks, test_names}
use Rattle.suite_file.specs.Suites.{all_tests, has_ended, is_current, is_full, with_instant}
use Rattle.suite_file.proofs.Digits.{is_within, within}
use Rattle.suite_file.proofs.Ended.{ended_last, new_name}
use Rattle.suite_file.proofs.ValuesBack.{same_text}

-- no test ended where none is at hand
abbrev pub Begun : List Test → Option Test → Type 0
Begun ended None = ended ≡ []
Begun ended (Some test) = Unit {0}

pub begun_after : (ended : List Test) (current : Option Test) (name : Text) (v : List Value) → Begun (with_instant ended current name v).ended (with_instant ended current name v).current
begun_after ended None name v = tt
begun_after ended (Some test) name v = go (bytes_eq test.name name) refl
  where
    go : (b : Bool) → bytes_eq test.name name ≡ b → Begun (with_instant ended (Some test) name v).ended (with_instant ended (Some test) name v).current
    go true q = rw q tt
    go false q = rw q tt

-- ---- names of tests

among_from : (tests : List Test) (name : Text) → has_ended tests name ≡ true → Contains (test_names tests) name
among_from [] name h = absurd (false≢true h)
among_from (test ∷ tests) name h = go (bytes_eq name test.name) refl (among_from tests name) h
  where
    go : (b : Bool) → bytes_eq name test.name ≡ b → (has_ended tests name ≡ true → Contains (test_names tests) name) → (b || has_ended tests name) ≡ true → Contains (test.name ∷ test_names tests) name
    go true q ih h = (0, omega arith, sym ((bytes_eq-Decides name test.name).0 q))
    go false q ih h = let m = ih h in (suc m.0, omega (arith, m.1), m.2)

among_at : (tests : List Test) (name : Text) (k : ℕ) → suc k ≤ length (test_names tests) → slice_index_or (test_names tests) k name ≡ name → has_ended tests name ≡ true
among_at [] name k w h = absurd (omega (arith, w))
among_at (test ∷ tests) name zero w h = rw (same_text name test.name (sym h)) refl
among_at (test ∷ tests) name (suc k) w h = ap (λ b. bytes_eq name test.name || b) (among_at tests name k (omega (arith, w)) h) ∙ or_true (bytes_eq name test.name)
  where
    or_true : (b : Bool) → (b || true) ≡ true
    or_true true = refl
    or_true false = refl

among_to : (tests : List Test) (name : Text) → Contains (test_names tests) name → has_ended tests name ≡ true
among_to tests name c = among_at tests name c.0 c.1 c.2

-- ---- the test of a name ended

fronts : (xs ys : List Test) (x y : Test) → xs ++ x ∷ [] ≡ ys ++ y ∷ [] → xs ≡ ys
fronts [] [] x y e = refl
fronts [] (b ∷ []) x y e = absurd (cc e)
fronts [] (b ∷ (d ∷ ys)) x y e = absurd (cc e)
fronts (a ∷ []) [] x y e = absurd (cc e)
fronts (a ∷ (d ∷ xs)) [] x y e = absurd (cc e)
fronts (a ∷ xs) (b ∷ ys) x y e =
    let head : a ≡ b = cc e in
    let rest : xs ++ x ∷ [] ≡ ys ++ y ∷ [] = cc e in
    ap (λ t. t ∷ xs) head ∙ ap (λ t. b ∷ t) (fronts xs ys x y rest)

pub ended_is : (ended : List Test) (current : Option Test) (name : Text) → Begun ended current → has_ended ended name ≡ true → HasEnded (all_tests ended current) name
ended_is ended None name b h = absurd (false≢true (sym (ap (λ (t : List Test). has_ended t name) b) ∙ h))
ended_is ended (Some test) name b h = record { ended = ended; last = test; all = refl; among = among_from ended name h }

none_last : (ended : List Test) (last : Test) → [] ≡ ended ++ last ∷ [] → ⊥
none_last [] last e = absurd (cc e)
none_last (x ∷ ended) last e = absurd (cc e)

pub is_ended : (ended : List Test) (current : Option Test) (name : Text) → Begun ended current → HasEnded (all_tests ended current) name → has_ended ended name ≡ true
is_ended ended None name b h = absurd (none_last h.ended h.last (sym b ∙ h.all))
is_ended ended (Some test) name b h = ap (λ (t : List Test). has_ended t name) (fronts ended h.ended test h.last h.all) ∙ among_to h.ended name h.among

pub not_ended : (ended : List Test) (current : Option Test) (name : Text) → Begun ended current → has_ended ended name ≡ false → HasEnded (all_tests ended current) name → ⊥
not_ended ended current name b f h = false≢true (sym f ∙ is_ended ended current name b h)

pub still_open : (ended : List Test) (current : Option Test) (name : Text) → Begun ended current → (HasEnded (all_tests ended current) name → ⊥) → has_ended ended name ≡ false
still_open ended current name b n = go (has_ended ended name) refl
  where
    go : (x : Bool) → has_ended ended name ≡ x → x ≡ false
    go false e = refl
    go true e = absurd (n (ended_is ended current name b e))

-- ---- a test too many

current_among : (ended : List Test) (current : Option Test) (name : Text) → is_current current name ≡ true → Contains (test_names (all_tests ended current)) name
current_among ended None name h = absurd (false≢true h)
current_among ended (Some test) name h =
    let same : bytes_eq name test.name ≡ true = same_text name test.name (sym ((bytes_eq-Decides test.name name).0 h)) in
    among_from (ended ++ test ∷ []) name (ended_last ended test name ∙ ap (λ b. has_ended ended name || b) same ∙ or_true (has_ended ended name))
  where
    or_true : (b : Bool) → (b || true) ≡ true
    or_true true = refl
    or_true false = refl

-- the test at hand isn't that of a name which no test has
other_current : (ended : List Test) (current : Option Test) (name : Text) → Lacks (test_names (all_tests ended current)) name → is_current current name ≡ false
other_current ended current name n = go (is_current current name) refl
  where
    go : (x : Bool) → is_current current name ≡ x → x ≡ false
    go false e = refl
    go true e = absurd (n (current_among ended current name e))

pub full_is : (ended : List Test) (current : Option Test) (name : Text) → has_ended ended name ≡ false → length (all_tests ended current) ≤ 210000 → is_full ended current name ≡ true → IsTestTooMany (all_tests ended current) name
full_is ended current name f few h = go (is_current current name) (nat_le 210000 (length (all_tests ended current))) refl refl h
  where
    go : (x y : Bool) → is_current current name ≡ x → nat_le 210000 (length (all_tests ended current)) ≡ y → (not x && y) ≡ true → IsTestTooMany (all_tests ended current) name
    go false true p q e = record {
      new = λ c. absurd (false≢true (sym (new_name ended current name f p) ∙ among_to (all_tests ended current) name c));
      full = omega (arith, is_within 210000 (length (all_tests ended current)) q, few);
    }
    go false false p q e = absurd (false≢true e)
    go true y p q e = absurd (false≢true e)

pub is_too_many : (ended : List Test) (current : Option Test) (name : Text) → IsTestTooMany (all_tests ended current) name → is_full ended current name ≡ true
is_too_many ended current name m =
    rw (other_current ended current name m.new, within 210000 (length (all_tests ended current)) (omega (arith, m.full))) refl

pub not_too_many : (ended : List Test) (current : Option Test) (name : Text) → is_full ended current name ≡ false → IsTestTooMany (all_tests ended current) name → ⊥
not_too_many ended current name h m = false≢true (sym h ∙ is_too_many ended current name m)

pub has_room : (ended : List Test) (current : Option Test) (name : Text) → has_ended ended name ≡ false → length (all_tests ended current) ≤ 210000 → (IsTestTooMany (all_tests ended current) name → ⊥) → is_full ended current name ≡ false
has_room ended current name f few n = go (is_full ended current name) refl
  where
    go : (x : Bool) → is_full ended current name ≡ x → x ≡ false
    go false e = refl
    go true e = absurd (n (full_is ended current name f few e))
