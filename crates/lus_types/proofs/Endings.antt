-- Places from which each way ends.
use Rattle.std.proofs.Common.{◌≡◌, inl, inr, ℕ, ◌+◌, ◌<◌, ◌≤◌, Bool, true, false, List, [], ◌∷◌, length, take, replicate, get_or, ap, sym, ◌∙◌, subst, true≢false}
use Rattle.std.proofs.lemmas.List.{take_more, take_all}
use Rattle.lus_types.specs.declared.calls.search.Search.{Search}
use Rattle.lus_types.specs.Calls.{In}
use Rattle.lus_types.specs.Graphs.{Rows, row, is_marked, Marks, all_end, AllEnd, AllMarked}
use Rattle.lus_types.proofs.Members.{in_append, in_one}
use Rattle.lus_types.proofs.Searches.{fresh}

pub settled : (rows : Rows) (place : ℕ) (r : List ℕ) (a b : Search) → r ≡ row rows place → AllMarked a.marks r → AllEnd rows a.marks → Marks (place ∷ []) a b → AllEnd rows b.marks
settled rows place r a b is marked ends m = record {
  ending = λ f h. elim (m.only f h) [
    | inl o ↦ ends.ending f o
    | inr i ↦ all_end (λ g j. ends.ending g (marked.each g (subst (In g) (sym is) (subst (λ x. In g (row rows x)) (in_one f place i) j))))
  ];
}

pub marked_none : (marks : List Bool) (places : List ℕ) → AllMarked marks (take 0 places)
marked_none marks places = record { each = λ f i. elim i [ ] }

pub marked_next : (marks : List Bool) (places : List ℕ) (i : ℕ) → i < length places → is_marked marks (get_or places i 0) ≡ true → AllMarked marks (take i places) → AllMarked marks (take (i + 1) places)
marked_next marks places i h is before = subst (AllMarked marks) (sym (take_more places i 0 h)) (record {
  each = λ f j. elim (in_append (take i places) (get_or places i 0 ∷ []) f j) [
    | inl k ↦ before.each f k
    | inr k ↦ ap (is_marked marks) (in_one f (get_or places i 0) k) ∙ is
  ];
})

pub marked_all : (marks : List Bool) (places : List ℕ) (i : ℕ) → length places ≤ i → AllMarked marks (take i places) → AllMarked marks places
marked_all marks places i h before = subst (AllMarked marks) (take_all i places h) before

pub ends_none : (rows : Rows) (marks : List Bool) (n : ℕ) → marks ≡ replicate n false → AllEnd rows marks
ends_none rows marks n e = record { ending = λ f h. absurd (true≢false (sym h ∙ ap (λ ms. is_marked ms f) e ∙ fresh n f)) }
