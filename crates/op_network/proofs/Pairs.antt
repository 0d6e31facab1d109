-- Lists whose items differ in a key, edges that differ, and lists that rise.
use Rattle.std.proofs.Common.{◌≡◌, ◌≢◌, ⊎_elim, ℕ, zero, suc, ◌+◌, ◌-◌, ◌<◌, ◌≤◌, List, length, get_or, take, refl, ap, sym, ◌∙◌, subst, arith, Any, All, AllPairs, Decides, Bool, true, false, true≢false, set, add-zero, get_or-set_same, get_or-set_other}
use Rattle.std.specs.List.{AllAdjacentBelow}
use Rattle.std.proofs.lemmas.Bool.{cases_eq}
use Rattle.std.proofs.lemmas.List.{get_or-take, length-take, get_or_default, take_all, length-set}
use Rattle.std.proofs.lemmas.List.Elements.{All-get_or}
use Rattle.op_network.specs.declared.edge.EdgeId.{EdgeId}

pub apart_none : {X Y : Type 0} (f : X → Y) (xs : List X) → AllPairs (λ a b. f a ≢ f b) (take 0 xs)
apart_none f xs i j d lt within = absurd (omega (arith, length-take 0 xs))

-- the next item differs from those before it
pub apart_more : {X Y : Type 0} (f : X → Y) (xs : List X) (i : ℕ) (x : X) → i < length xs → x ≡ get_or xs i x
    → AllPairs (λ a b. f a ≢ f b) (take i xs) → (Any (λ o. f o ≡ f x) (take i xs) → ⊥) → AllPairs (λ a b. f a ≢ f b) (take (i + 1) xs)
apart_more f xs i x inside is before none a b d lt within =
    let short : length (take (i + 1) xs) ≡ i + 1 = simp length-take (omega arith) in
    let below : length (take i xs) ≡ i = simp length-take (omega arith) in
    let at : get_or (take (i + 1) xs) a d ≡ get_or (take i xs) a d = get_or-take (i + 1) xs a d (omega arith) ∙ sym (get_or-take i xs a d (omega arith)) in
    ⊎_elim
    (λ last.
    let here : get_or (take (i + 1) xs) b d ≡ x = get_or-take (i + 1) xs b d (omega arith) ∙ ap (λ k. get_or xs k d) last ∙ get_or_default xs i d x inside ∙ sym is in
    λ same. none (a, get_or (take i xs) a d, omega arith, get_or_default (take i xs) a (get_or (take i xs) a d) d (omega arith), ap f (sym at) ∙ same ∙ ap f here))
    (λ apart.
    let there : get_or (take (i + 1) xs) b d ≡ get_or (take i xs) b d = get_or-take (i + 1) xs b d (omega arith) ∙ sym (get_or-take i xs b d (omega arith)) in
    λ same. before a b d lt (omega arith) (ap f (sym at) ∙ same ∙ ap f there))
    (cases_eq b i)

-- an item is found before its place
pub apart_not : {X Y : Type 0} (f : X → Y) (xs : List X) (i : ℕ) (x : X) → i < length xs → x ≡ get_or xs i x
    → Any (λ o. f o ≡ f x) (take i xs) → AllPairs (λ a b. f a ≢ f b) xs → ⊥
apart_not f xs i x inside is (k, y, within, at, same) all =
    let below : length (take i xs) ≡ i = simp length-take (omega arith) in
    all k i x (omega arith) inside (ap f (sym (get_or-take i xs k x (omega arith)) ∙ get_or_default (take i xs) k x y within ∙ at) ∙ same ∙ ap f is)

pub apart_all : {X Y : Type 0} (f : X → Y) (xs : List X) (i : ℕ) → length xs ≤ i → AllPairs (λ a b. f a ≢ f b) (take i xs) → AllPairs (λ a b. f a ≢ f b) xs
apart_all f xs i all h = subst (AllPairs (λ a b. f a ≢ f b)) (take_all i xs all) h

-- The first edges differ, and those that they are have marks.
pub record AreMet (ids : List EdgeId) (place : ℕ) (met : List Bool) : Type 0 where
  pub apart : AllPairs (λ (a b : EdgeId). a ≢ b) (take place ids)
  pub marks : (e : EdgeId) → e.0 < length met → Decides (get_or met e.0 false) (Any (λ o. o ≡ e) (take place ids))

any_none : (ids : List EdgeId) (e : EdgeId) → Any (λ o. o ≡ e) (take 0 ids) → ⊥
any_none ids e (k, o, within, at, same) = absurd (omega (arith, length-take 0 ids))

pub met_none : (ids : List EdgeId) (met : List Bool) → All (λ mark. mark ≡ false) met → AreMet ids 0 met
met_none ids met unmarked = record {
  apart = apart_none (λ e. e) ids;
  marks = λ e below. ((λ marked. absurd (true≢false (sym marked ∙ All-get_or (λ mark. mark ≡ false) met e.0 false below unmarked))), (λ h. absurd (any_none ids e h)));
}

-- one of the first items and the next are one of the next
any_more : (ids : List EdgeId) (i : ℕ) (x e : EdgeId) → i < length ids → x ≡ get_or ids i x → Any (λ o. o ≡ e) (take i ids) → Any (λ o. o ≡ e) (take (i + 1) ids)
any_more ids i x e inside is (k, o, within, at, same) =
    let short : length (take i ids) ≡ i = simp length-take (omega arith) in
    let long : length (take (i + 1) ids) ≡ i + 1 = simp length-take (omega arith) in
    (k, o, omega arith, get_or-take (i + 1) ids k o (omega arith) ∙ sym (get_or-take i ids k o (omega arith)) ∙ at, same)

any_last : (ids : List EdgeId) (i : ℕ) (x : EdgeId) → i < length ids → x ≡ get_or ids i x → Any (λ o. o ≡ x) (take (i + 1) ids)
any_last ids i x inside is =
    let long : length (take (i + 1) ids) ≡ i + 1 = simp length-take (omega arith) in
    (i, x, omega arith, get_or-take (i + 1) ids i x (omega arith) ∙ sym is, refl)

any_before : (ids : List EdgeId) (i : ℕ) (x e : EdgeId) → i < length ids → x ≡ get_or ids i x → x ≢ e → Any (λ o. o ≡ e) (take (i + 1) ids) → Any (λ o. o ≡ e) (take i ids)
any_before ids i x e inside is other (k, o, within, at, same) =
    let short : length (take i ids) ≡ i = simp length-take (omega arith) in
    let long : length (take (i + 1) ids) ≡ i + 1 = simp length-take (omega arith) in
    ⊎_elim
    (λ last. absurd (other (is ∙ get_or_default ids i x o inside ∙ ap (λ k. get_or ids k o) (sym last) ∙ sym (get_or-take (i + 1) ids k o (omega arith)) ∙ at ∙ same)))
    (λ apart. (k, o, omega arith, get_or-take i ids k o (omega arith) ∙ sym (get_or-take (i + 1) ids k o (omega arith)) ∙ at, same))
    (cases_eq k i)

same_id : (a b : EdgeId) → a.0 ≡ b.0 → a ≡ b
same_id a b h = ap (λ (n : ℕ). let e : EdgeId = record { 0 = n } in e) h

-- an edge without a mark differs from those before it, and gets one
pub met_more : (ids : List EdgeId) (i : ℕ) (x : EdgeId) (met : List Bool) → i < length ids → x ≡ get_or ids i x → x.0 < length met → get_or met x.0 false ≡ false → AreMet ids i met → AreMet ids (i + 1) (set met x.0 true)
met_more ids i x met inside is below unmarked h = record {
  apart = apart_more (λ e. e) ids i x inside is h.apart (λ again. true≢false (sym ((h.marks x below).1 again) ∙ unmarked));
  marks = λ e within.
      let within' : e.0 < length met = omega (arith, length-set met x.0 true) in
      ⊎_elim
      (λ same. let one = same_id x e (sym same) in (
        (λ _. subst (λ e. Any (λ o. o ≡ e) (take (i + 1) ids)) one (any_last ids i x inside is)),
        (λ _. ap (λ k. get_or (set met x.0 true) k false) same ∙ get_or-set_same met x.0 true false below),
      ))
      (λ other. let kept = get_or-set_other met x.0 e.0 true false other in (
        (λ marked. any_more ids i x e inside is ((h.marks e within').0 (sym kept ∙ marked))),
        (λ again. kept ∙ (h.marks e within').1 (any_before ids i x e inside is (λ one. other (sym (ap (λ (e : EdgeId). e.0) one))) again)),
      ))
      (cases_eq e.0 x.0);
}

-- an edge with a mark stood before
pub met_twice : (ids : List EdgeId) (i : ℕ) (x : EdgeId) (met : List Bool) → i < length ids → x ≡ get_or ids i x → x.0 < length met → get_or met x.0 false ≡ true → AreMet ids i met → AllPairs (λ (a b : EdgeId). a ≢ b) ids → ⊥
met_twice ids i x met inside is below marked h = apart_not (λ e. e) ids i x inside is ((h.marks x below).0 marked)

pub met_all : (ids : List EdgeId) (i : ℕ) (met : List Bool) → length ids ≤ i → AreMet ids i met → AllPairs (λ (a b : EdgeId). a ≢ b) ids
met_all ids i met all h = apart_all (λ e. e) ids i all h.apart

-- items that each rise to the next rise to all later ones
later : (xs : List EdgeId) → ((k : ℕ) (d : EdgeId) → k + 1 < length xs → (get_or xs k d).0 < (get_or xs (k + 1) d).0) → (i n : ℕ) (d : EdgeId) → i + n + 1 < length xs → (get_or xs i d).0 < (get_or xs (i + n + 1) d).0
later xs next i zero d within = rw add-zero (next i d (omega arith))
later xs next i (suc n) d within =
    let e : i + suc n + 1 ≡ (i + n + 1) + 1 = omega arith in
    rw e (omega (arith, later xs next i n d (omega arith), next (i + n + 1) d (omega arith)))

rising : (xs : List EdgeId) → ((k : ℕ) (d : EdgeId) → k + 1 < length xs → (get_or xs k d).0 < (get_or xs (k + 1) d).0) → AllPairs (λ (a b : EdgeId). a.0 < b.0) xs
rising xs next i j d lt within =
    let e : i + (j - i - 1) + 1 ≡ j = omega arith in
    rw e at (later xs next i (j - i - 1) d (omega arith))

pub rise_all : (xs : List EdgeId) (n : ℕ) → length xs ≤ n → AllAdjacentBelow (λ (a b : EdgeId). a.0 < b.0) xs n → AllPairs (λ (a b : EdgeId). a.0 < b.0) xs
rise_all xs n all h = rising xs (λ k d below. h k d (omega arith))
