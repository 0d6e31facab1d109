-- A set of names after a change at one of them.
use Rattle.std.proofs.Common.{◌≡◌, ⊎_elim, ℕ, Bool, true, false, cond, List, sym, subst, ◌∙◌}
use Rattle.std.specs.BTreeSet.{BTreeSet, UpdatesBy}
use Rattle.std.specs.Cmp.{eq_by_cmp_equiv}
use Rattle.std.specs.Cmp.Lexicographic.{slice_cmp}
use Rattle.std.specs.Global.{Vec}
use Rattle.std.specs.List.{list_any}
use Rattle.std.specs.Map.{IsKeyTest, AreApart}
use Rattle.std.specs.Ordering.{eq_by_cmp, is_eq, nat_cmp}
use Rattle.std.specs.Set.{KeepsOthers}
use Rattle.std.specs.Str.{bytes_eq}
use Rattle.std.specs.declared.cmp.Ordering.{Ordering}
use Rattle.std.proofs.lemmas.Bool.{cases_Bool, cond-true, cond-false}
use Rattle.std.proofs.lemmas.Cmp.{nat_list_cmp_total, nat_list_eq_equiv}
use Rattle.std.proofs.lemmas.Map.Text.{is_eq-slice_cmp}
use Rattle.std.proofs.lemmas.Slice.Eq.{bytes_eq-Decides}
use Rattle.score_table.specs.Names.{holds}

abbrev order : Vec ℕ → Vec ℕ → Ordering
order a b = slice_cmp nat_cmp a.items b.items

-- a name that is equal to one name isn't equal to another
apart : (one other name : List ℕ) → bytes_eq one other ≡ false → is_eq (slice_cmp nat_cmp one name) ≡ true → is_eq (slice_cmp nat_cmp other name) ≡ false
apart one other name differ same =
    is_eq-slice_cmp other name ∙ nat_list_eq_equiv.symm other name
    ∙ sym (nat_list_eq_equiv.congr one name other (sym (is_eq-slice_cmp one name) ∙ same)) ∙ differ

other_keys : (test : Vec ℕ → Bool) (old new : List (Vec ℕ)) → KeepsOthers (eq_by_cmp order) test old new → (other : Vec ℕ → Bool) → IsKeyTest (eq_by_cmp order) other → AreApart test other → list_any other new ≡ list_any other old
unfolding KeepsOthers
other_keys test old new h = h

pub name_updated : (old new : BTreeSet (Vec ℕ)) (name : List ℕ) (there : Bool) → UpdatesBy order (λ key. slice_cmp nat_cmp name key.items) old new there
    → (other : List ℕ) → holds new other ≡ cond (bytes_eq name other) there (holds old other)
name_updated old new name there h other =
    ⊎_elim
    (λ same. subst (λ n. holds new n ≡ there) ((bytes_eq-Decides name other).0 same) h.1 ∙ sym (cond-true (bytes_eq name other) there (holds old other) same))
    (λ differ. other_keys _ _ _ h.3 _ (λ x y. (eq_by_cmp_equiv nat_list_cmp_total).congr other x.items y.items) (λ key. apart name other key.items differ)
    ∙ sym (cond-false (bytes_eq name other) there (holds old other) differ))
    (cases_Bool (bytes_eq name other))
