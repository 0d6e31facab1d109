-- The first failure, instant by instant.
use Rattle.std.proofs.Common.{◌≡◌, ◌↔◌, ℕ, ◌+◌, List, [], ◌∷◌, ◌++◌, length, refl, sym, ap, ◌∙◌, arith, Bool, true, false, not, append_assoc, codes, decimal}
use Rattle.std.specs.Prelude.{Option, Some, None}
use Rattle.std.specs.List.{position_from}
use Rattle.std.proofs.lemmas.List.Sums.{AllPass-from_list_all, list_all-from_AllPass}
use Rattle.std.proofs.lemmas.Iterator.Adapters.{position_from-zero}
use Rattle.op_network.specs.declared.edge.Parts.{Parts}
use Rattle.op_network.specs.declared.value.Value.{Value}
use Rattle.op_network.specs.Admissible.{AssertsHold}
use Rattle.op_network.specs.Operators.{at_edge}
use Rattle.op_network.specs.Values.{is_true}
use Rattle.cov_station.specs.Failures.{failure_line, first_failure}
use Rattle.cov_station.specs.NetworkText.{are_asserted, asserted}
use Rattle.cov_station.specs.Playing.{failure_after}

-- the first place from a number on, where one more item stands last
position_more : (ok : List Bool) (last : Bool) (i n : ℕ) → n ≡ i + length ok
    → position_from not i (ok ++ last ∷ []) ≡ failure_after (position_from not i ok) last n
position_more [] true i n is = refl
position_more [] false i n is = ap Some (omega (arith, is))
position_more (true ∷ ok) last i n is = position_more ok last (i + 1) n (omega (arith, is))
position_more (false ∷ ok) last i n is = refl

pub failure_more : (ok : List Bool) (last : Bool) (n : ℕ) → n ≡ length ok
    → first_failure (ok ++ last ∷ []) ≡ failure_after (first_failure ok) last n
failure_more ok last n is =
    position_from-zero not (ok ++ last ∷ []) ∙ position_more ok last 0 n (omega (arith, is))
    ∙ ap (λ o. failure_after o last n) (sym (position_from-zero not ok))

pub asserted_more : (parts : Parts) (frames : List (List Value)) (frame : List Value)
    → asserted parts (frames ++ frame ∷ []) ≡ asserted parts frames ++ are_asserted parts frame ∷ []
asserted_more parts [] frame = refl
asserted_more parts (f ∷ frames) frame = ap (λ l. are_asserted parts f ∷ l) (asserted_more parts frames frame)

-- the truth of all assert edges, as a test and as a fact
pub asserts_are : (parts : Parts) (frame : List Value) (holds : Bool) → (holds ≡ true ↔ AssertsHold parts frame)
    → are_asserted parts frame ≡ holds
asserts_are parts frame true h = list_all-from_AllPass (λ e. is_true (at_edge frame e)) parts.asserts (h.0 refl)
asserts_are parts frame false h = go (are_asserted parts frame) refl
  where
    apart : false ≡ true → ⊥
    apart e = cc

    go : (b : Bool) → are_asserted parts frame ≡ b → are_asserted parts frame ≡ false
    go true e = absurd (apart (h.1 (AllPass-from_list_all (λ o. is_true (at_edge frame o)) parts.asserts e)))
    go false e = e

pub none_failed : (failed : Option ℕ) (holds : Bool) (n : ℕ) → failed ≡ None → holds ≡ true → None ≡ failure_after failed holds n
none_failed failed holds n none true_is = cc

-- the line of a failure was added
pub failure_added : (old begun numbered new : List ℕ) (failed : Option ℕ) (t : ℕ)
    → failed ≡ Some t → begun ≡ old ++ codes "assertion fails at " → numbered ≡ begun ++ decimal t
    → new ≡ numbered ++ 10 ∷ [] → new ≡ old ++ failure_line failed
failure_added old begun numbered new failed t some a b c =
    c ∙ ap (λ w. w ++ 10 ∷ []) (b ∙ ap (λ w. w ++ decimal t) a)
    ∙ append_assoc (old ++ codes "assertion fails at ") (decimal t) (10 ∷ [])
    ∙ append_assoc old (codes "assertion fails at ") (decimal t ++ 10 ∷ [])
    ∙ ap (λ o. old ++ failure_line o) (sym some)
