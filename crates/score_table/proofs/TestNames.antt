-- Names of tests, and a test that is taken out.
use Rattle.std.proofs.Common.{◌≡◌, ◌≢◌, ⊎_elim, ℕ, zero, suc, ◌<◌, Bool, true, false, not, cond, ◌||◌, List, [], ◌∷◌, ◌++◌, length, get_or, refl, sym, ap, ◌∙◌, arith}
use Rattle.std.specs.Prelude.{Some, None, filter, nat_lt, position, remove}
use Rattle.std.specs.List.{AllPairs, position_or_len}
use Rattle.std.specs.Str.{bytes_eq}
use Rattle.std.proofs.lemmas.Bool.{cases_Bool, cond-true, cond-false, false≢true, false_from_ne_true, ltb-false, or_parts}
use Rattle.std.proofs.lemmas.List.Folds.{list_any-append, list_any_none}
use Rattle.std.proofs.lemmas.List.Sums.{fails_before_first}
use Rattle.std.proofs.lemmas.Slice.Eq.{bytes_eq-Decides}
use Rattle.op_network.specs.declared.test.Test.{Test}
use Rattle.score_table.specs.Tables.{has_name, is_kept}

-- a name is that of the test
pub named : (name : List ℕ) (test : Test) → has_name name test ≡ true → name ≡ test.name
named name test h = (bytes_eq-Decides name test.name).0 h

pub own_name : (test : Test) → has_name test.name test ≡ true
own_name test = (bytes_eq-Decides test.name test.name).1 refl

pub other_name : (a b : Test) → a.name ≢ b.name → has_name a.name b ≡ false
other_name a b differ = false_from_ne_true (has_name a.name b) (λ h. differ (named a.name b h))

-- one test more
pub kept_more : (tests : List Test) (test : Test) (name : List ℕ) → is_kept (tests ++ test ∷ []) name ≡ (is_kept tests name || (has_name name test || false))
kept_more tests test name = list_any-append (has_name name) tests (test ∷ [])

-- a name that no test has is none of theirs
pub none_named : (tests : List Test) (name : List ℕ) → is_kept tests name ≡ false → (k : ℕ) (d : Test) → k < length tests → (get_or tests k d).name ≢ name
none_named [] name none k d lt = absurd (omega (arith, lt))
none_named (t ∷ tests) name none zero d lt = λ same. false≢true (sym (or_parts (has_name name t) (is_kept tests name) none).0 ∙ (bytes_eq-Decides name t.name).1 (sym same))
none_named (t ∷ tests) name none (suc k) d lt = none_named tests name (or_parts (has_name name t) (is_kept tests name) none).1 k d (omega (arith, lt))

-- the tests of a name are taken out
abbrev pub others : List ℕ → List Test → List Test
others name tests = filter (λ test. not (has_name name test)) tests

others_all : (tests : List Test) (name : List ℕ) → ((k : ℕ) (d : Test) → k < length tests → has_name name (get_or tests k d) ≡ false) → others name tests ≡ tests
others_all [] name none = refl
others_all (t ∷ tests) name none = ap (λ b. cond (not b) (t ∷ others name tests) (others name tests)) (none 0 t (omega arith)) ∙ ap (λ l. t ∷ l) (others_all tests name (λ k d lt. none (suc k) d (omega (arith, lt))))

-- of tests with different names, the one at a place is taken out by its name
pub taken_out : (tests : List Test) (i : ℕ) (d : Test) → AllPairs (λ (a b : Test). a.name ≢ b.name) tests → i < length tests → remove tests i ≡ others (get_or tests i d).name tests
taken_out [] i d apart lt = absurd (omega (arith, lt))
taken_out (t ∷ tests) zero d apart lt =
    sym (ap (λ b. cond (not b) (t ∷ others t.name tests) (others t.name tests)) (own_name t) ∙ others_all tests t.name (λ k e less. other_name t (get_or tests k e) (apart 0 (suc k) e (omega arith) (omega (arith, less)))))
taken_out (t ∷ tests) (suc i) d apart lt =
    let differ : has_name (get_or tests i d).name t ≡ false = other_name (get_or tests i d) t (λ same. apart 0 (suc i) d (omega arith) lt (sym same)) in
    ap (λ l. t ∷ l) (taken_out tests i d (λ j k e less within. apart (suc j) (suc k) e (omega (arith, less)) (omega (arith, within))) (omega (arith, lt)))
    ∙ sym (ap (λ b. cond (not b) (t ∷ others (get_or tests i d).name tests) (others (get_or tests i d).name tests)) differ)

-- the names that are left
pub names_left : (tests : List Test) (name other : List ℕ) → is_kept (others name tests) other ≡ cond (bytes_eq name other) false (is_kept tests other)
names_left [] name other = ⊎_elim (λ same. sym (cond-true (bytes_eq name other) false false same)) (λ differ. sym (cond-false (bytes_eq name other) false false differ)) (cases_Bool (bytes_eq name other))
names_left (t ∷ tests) name other = by (has_name name t) refl (names_left tests name other)
  where
    left : Bool
    left = is_kept tests other

    same_there : (b : Bool) → bytes_eq name other ≡ b → has_name name t ≡ true → cond b false left ≡ cond b false (has_name other t || left)
    same_there true h e = refl
    same_there false h e = ap (λ c. c || left) (sym (false_from_ne_true (has_name other t) (λ is. false≢true (sym h ∙ (bytes_eq-Decides name other).1 (named name t e ∙ sym (named other t is))))))

    same_here : (b : Bool) → bytes_eq name other ≡ b → has_name name t ≡ false → (has_name other t || cond b false left) ≡ cond b false (has_name other t || left)
    same_here true h e = ap (λ c. c || false) (ap (λ n. has_name n t) (sym ((bytes_eq-Decides name other).0 h)) ∙ e)
    same_here false h e = refl

    by : (b : Bool) → has_name name t ≡ b → is_kept (others name tests) other ≡ cond (bytes_eq name other) false left
        → is_kept (cond (not b) (t ∷ others name tests) (others name tests)) other ≡ cond (bytes_eq name other) false (has_name other t || left)
    by true e rest = rest ∙ same_there (bytes_eq name other) refl e
    by false e rest = ap (λ k. has_name other t || k) rest ∙ same_here (bytes_eq name other) refl e

-- where no test is at the place of a name, none has it
pub none_placed : (tests : List Test) (name : List ℕ) → position (has_name name) tests ≡ None → is_kept tests name ≡ false
none_placed tests name none = by (nat_lt first (length tests)) refl none
  where
    first : ℕ
    first = position_or_len (has_name name) tests

    by : (b : Bool) → nat_lt first (length tests) ≡ b → cond b (Some first) None ≡ None → is_kept tests name ≡ false
    by true e h = absurd (cc)
    by false e h =
        let far = ltb-false first (length tests) e in
        list_any_none (has_name name) tests (λ k d lt. fails_before_first (has_name name) tests k d (omega (arith, far, lt)))
