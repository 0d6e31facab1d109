-- The steps of a search.
use Rattle.std.proofs.Common.{◌≡◌, inl, inr, ⊎_elim, ℕ, zero, suc, ◌+◌, ◌<◌, ◌≤◌, Bool, true, false, List, [], ◌∷◌, ◌++◌, length, take, replicate, get_or, slice_set, refl, ap, sym, ◌∙◌, subst, arith, true≢false}
use Rattle.std.proofs.lemmas.Bool.{cases_eq}
use Rattle.std.proofs.lemmas.List.{get_or-set_same, get_or-set_other, length-set, length_push, take_more}
use Rattle.lus_types.specs.declared.calls.search.Search.{Search}
use Rattle.lus_types.specs.Calls.{In, here}
use Rattle.lus_types.specs.Graphs.{Rows, row, Path, step, steps, is_marked, unmarked, Marks, IsSearch, IsReach}
use Rattle.lus_types.proofs.Members.{in_left, in_right, in_append, in_one, in_get, get_in, get_front}

unmarked_set : (ms : List Bool) (p : ℕ) → p < length ms → is_marked ms p ≡ false → unmarked (slice_set ms p true) + 1 ≡ unmarked ms
unmarked_set [] p h k = absurd (omega arith)
unmarked_set (true ∷ ms) zero h k = absurd (true≢false k)
unmarked_set (false ∷ ms) zero h k = omega arith
unmarked_set (true ∷ ms) (suc p) h k = unmarked_set ms p (omega arith) k
unmarked_set (false ∷ ms) (suc p) h k = omega (arith, unmarked_set ms p (omega arith) k)

-- a mark is of a place that there is
pub mark_inside : (ms : List Bool) (f : ℕ) → is_marked ms f ≡ true → f < length ms
mark_inside [] f h = absurd (true≢false (sym h))
mark_inside (m ∷ ms) zero h = omega arith
mark_inside (m ∷ ms) (suc f) h = omega (arith, mark_inside ms f h)

-- what has a row is a place
pub row_inside : (rows : Rows) (f g : ℕ) → In g (row rows f) → f < length rows
row_inside [] f g i = elim i [ ]
row_inside (r ∷ rows) zero g i = omega arith
row_inside (r ∷ rows) (suc f) g i = omega (arith, row_inside rows f g i)

pub path_inside : (rows : Rows) (f g : ℕ) → Path rows f g → f < length rows
path_inside rows f g (step i) = row_inside rows f _ i
path_inside rows f g (steps i p) = row_inside rows f _ i

-- a new place
pub mark_new : (s : Search) (p : ℕ) → p < length s.marks → is_marked s.marks p ≡ false → Marks (p ∷ []) s (record { marks = slice_set s.marks p true; found = s.found ++ p ∷ [] })
mark_new s p h fresh =
    let same : is_marked (slice_set s.marks p true) p ≡ true = get_or-set_same s.marks p true false h in
    let other : (f : ℕ) → (f ≡ p → ⊥) → is_marked (slice_set s.marks p true) f ≡ is_marked s.marks f = λ f apart. get_or-set_other s.marks p f true false apart in
    let kept : (f : ℕ) → is_marked s.marks f ≡ true → is_marked (slice_set s.marks p true) f ≡ true = λ f m. ⊎_elim (λ e. ap (is_marked (slice_set s.marks p true)) e ∙ same) (λ apart. other f apart ∙ m) (cases_eq f p) in
    record {
      long = length-set s.marks p true;
      size = omega (arith, unmarked_set s.marks p h fresh, length_push s.found p);
      kept = kept;
      only = λ f m. ⊎_elim (λ e. inr (subst (λ x. In x (p ∷ [])) (sym e) here)) (λ apart. inl (sym (other f apart) ∙ m)) (cases_eq f p);
      done = λ f i below. ap (is_marked (slice_set s.marks p true)) (in_one f p i) ∙ same;
      grown = omega (arith, length_push s.found p);
      front = λ i below. get_front s.found (p ∷ []) i 0 below;
      listed = λ l. record {
        listed = λ f m. ⊎_elim (λ e. in_right s.found (p ∷ []) f (subst (λ x. In x (p ∷ [])) (sym e) here)) (λ apart. in_left s.found (p ∷ []) f (l.listed f (sym (other f apart) ∙ m))) (cases_eq f p);
        marked = λ f i. elim (in_append s.found (p ∷ []) f i) [ inl a ↦ kept f (l.marked f a) | inr b ↦ ap (is_marked (slice_set s.marks p true)) (in_one f p b) ∙ same ];
      };
    }

pub mark_put : (s t : Search) (p : ℕ) → p < length s.marks → is_marked s.marks p ≡ false → t.marks ≡ slice_set s.marks p true → t.found ≡ s.found ++ p ∷ [] → Marks (p ∷ []) s t
mark_put s t p h fresh e f = subst (λ (u : Search). Marks (p ∷ []) s u) (λ i. let u : Search = record { marks = sym e i; found = sym f i } in u) (mark_new s p h fresh)

-- nothing to mark
pub mark_none : (s : Search) (places : List ℕ) → ((f : ℕ) → In f places → f < length s.marks → is_marked s.marks f ≡ true) → Marks places s s
mark_none s places h = record {
  long = refl;
  size = refl;
  kept = λ f m. m;
  only = λ f m. inl m;
  done = h;
  grown = omega arith;
  front = λ i below. refl;
  listed = λ l. l;
}

pub mark_past : (s : Search) (p : ℕ) → length s.marks ≤ p → Marks (p ∷ []) s s
mark_past s p h = mark_none s (p ∷ []) (λ f i below. absurd (omega (arith, in_one f p i)))

pub mark_again : (s : Search) (p : ℕ) → is_marked s.marks p ≡ true → Marks (p ∷ []) s s
mark_again s p h = mark_none s (p ∷ []) (λ f i below. ap (is_marked s.marks) (in_one f p i) ∙ h)

pub marks_none : (s : Search) → Marks [] s s
marks_none s = mark_none s [] (λ f i below. elim i [ ])

pub marks_both : (xs ys : List ℕ) (a b c : Search) → Marks xs a b → Marks ys b c → Marks (xs ++ ys) a c
marks_both xs ys a b c m n = record {
  long = n.long ∙ m.long;
  size = n.size ∙ m.size;
  kept = λ f h. n.kept f (m.kept f h);
  only = λ f h. elim (n.only f h) [
    | inl k ↦ elim (m.only f k) [ inl o ↦ inl o | inr i ↦ inr (in_left xs ys f i) ]
    | inr i ↦ inr (in_right xs ys f i)
  ];
  done = λ f i below. elim (in_append xs ys f i) [ inl j ↦ n.kept f (m.done f j below) | inr j ↦ n.done f j (omega (arith, m.long)) ];
  grown = omega (arith, m.grown, n.grown);
  front = λ i below. n.front i (omega (arith, m.grown)) ∙ m.front i below;
  listed = λ l. n.listed (m.listed l);
}

-- one place more of a list
pub marks_next : (places : List ℕ) (i : ℕ) (a b c : Search) → i < length places → Marks (take i places) a b → Marks (get_or places i 0 ∷ []) b c → Marks (take (i + 1) places) a c
marks_next places i a b c h m n = subst (λ ps. Marks ps a c) (sym (take_more places i 0 h)) (marks_both (take i places) (get_or places i 0 ∷ []) a b c m n)

unmarked_all : (n : ℕ) → unmarked (replicate n false) ≡ n
unmarked_all zero = refl
unmarked_all (suc n) = ap suc (unmarked_all n)

length_all : (n : ℕ) → length (replicate n false) ≡ n
length_all zero = refl
length_all (suc n) = ap suc (length_all n)

pub fresh : (n f : ℕ) → is_marked (replicate n false) f ≡ false
fresh zero f = refl
fresh (suc n) zero = refl
fresh (suc n) (suc f) = fresh n f

pub path_then : (rows : Rows) (a b c : ℕ) → Path rows a b → In c (row rows b) → Path rows a c
path_then rows a b c (step i) j = steps i (step j)
path_then rows a b c (steps i p) j = steps i (path_then rows _ b c p j)

pub search_start : (rows : Rows) (start : ℕ) (r : List ℕ) (a b : Search) → a.marks ≡ replicate (length rows) false → a.found ≡ [] → r ≡ row rows start → Marks r a b → IsSearch rows start 0 b
search_start rows start r a b marks found is m =
    let none : (f : ℕ) → is_marked a.marks f ≡ false = λ f. ap (λ ms. is_marked ms f) marks ∙ fresh (length rows) f in
    let width : length a.marks ≡ length rows = ap length marks ∙ length_all (length rows) in
    record {
      long = m.long ∙ width;
      size = omega (arith, m.size, ap unmarked marks, unmarked_all (length rows), ap length found);
      listed = m.listed (record { listed = λ f h. absurd (true≢false (sym h ∙ none f)); marked = λ f i. elim (subst (In f) found i) [ ] });
      sound = λ f h. elim (m.only f h) [ inl o ↦ absurd (true≢false (sym o ∙ none f)) | inr i ↦ step (subst (In f) is i) ];
      first = λ f i below. m.done f (subst (In f) (sym is) i) (omega (arith, width));
      closed = λ i g below. absurd (omega arith);
      within = omega arith;
    }

pub search_next : (rows : Rows) (start next p : ℕ) (r : List ℕ) (a b : Search) → next < length a.found → p ≡ get_or a.found next 0 → r ≡ row rows p → IsSearch rows start next a → Marks r a b → IsSearch rows start (next + 1) b
search_next rows start next p r a b below is rs s m =
    let there_is : Path rows start p = s.sound p (s.listed.marked p (subst (λ x. In x a.found) (sym is) (in_get a.found next 0 below))) in
    record {
      long = m.long ∙ s.long;
      size = m.size ∙ s.size;
      listed = m.listed s.listed;
      sound = λ f h. elim (m.only f h) [ inl o ↦ s.sound f o | inr i ↦ path_then rows start p f there_is (subst (In f) rs i) ];
      first = λ f i inside. m.kept f (s.first f i inside);
      closed = λ i g under j inside. ⊎_elim
          (λ e. m.done g (subst (In g) (sym rs) (subst (λ x. In g (row rows x)) (ap (λ k. get_or b.found k 0) e ∙ m.front next below ∙ sym is) j)) (omega (arith, s.long)))
          (λ apart. m.kept g (s.closed i g (omega arith) (subst (λ x. In g (row rows x)) (m.front i (omega (arith, s.within))) j) inside))
          (cases_eq i next);
      within = omega (arith, m.grown);
    }

reached_from : (rows : Rows) (start next : ℕ) (s : Search) → IsSearch rows start next s → length s.found ≤ next → (a f : ℕ) → ((g : ℕ) → In g (row rows a) → g < length rows → is_marked s.marks g ≡ true) → Path rows a f → f < length rows → is_marked s.marks f ≡ true
reached_from rows start next s h end a f row_marked (step i) inside = row_marked f i inside
reached_from rows start next s h end a f row_marked (steps {g = g} i p) inside =
    let at = get_in s.found g 0 (h.listed.listed g (row_marked g i (path_inside rows g f p))) in
    reached_from rows start next s h end g f (λ x j within. h.closed at.0 x (omega (arith, at.1)) (subst (λ y. In x (row rows y)) (sym at.2) j) within) p inside

pub search_end : (rows : Rows) (start next : ℕ) (s : Search) → IsSearch rows start next s → length s.found ≤ next → IsReach rows start s.marks
search_end rows start next s h end = record {
  sound = h.sound;
  all = λ f inside p. reached_from rows start next s h end start f h.first p inside;
}

pub room : (rows : Rows) (start next : ℕ) (s : Search) → IsSearch rows start next s → length s.found ≤ length rows
room rows start next s h = omega (arith, h.size)
