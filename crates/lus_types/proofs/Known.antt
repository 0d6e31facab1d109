-- Whether an occurrence of a list fails, as the first fault tells it.
use Rattle.std.proofs.Common.{◌≡◌, ◌∙◌, true, false, Bool, ◌||◌, List, [], ◌∷◌, Some, None, is_some, refl, sym, ap, cond}
use Rattle.std.specs.List.{list_any}
use Rattle.lus_types.specs.declared.fault.TypeKind.{TypeKind}
use Rattle.lus_types.specs.Checking.{Recursions, fails, first_passing, is_recursive, kind_of, kinds, fault_at, fault_in, or_else}
use Rattle.lus_types.specs.Constants.{fails_in_constant}
use Rattle.lus_types.specs.Kinds.{is_clocked, is_unsupported, is_duplicate, is_unknown, is_not_a_node, is_arity, is_mismatch, is_out_of_range, is_undefined, is_defined_twice, defines_input, is_no_main}
use Rattle.lus_types.specs.Occurrences.{Occurrence, Thing}
use Rattle.lus_types.proofs.CallsOf.{Every}

some_passes : (test : TypeKind → Bool) (ks : List TypeKind) → is_some (first_passing test ks) ≡ list_any test ks
some_passes test [] = refl
some_passes test (k ∷ ks) = elim (test k) as (λ b. is_some (cond b (Some k) (first_passing test ks)) ≡ b || list_any test ks) [
  | true ↦ refl
  | false ↦ some_passes test ks
]

-- what isn't recursive fails in a constant where it has a kind
pub fails_with : (r : Recursions) (thing : Thing) → is_recursive r thing ≡ false → is_some (kind_of r thing) ≡ fails_in_constant thing
fails_with r thing h =
    some_passes (fails r thing) kinds
    ∙ ap (λ b. is_clocked thing || (is_unsupported thing || (is_duplicate thing || (is_unknown thing || (is_not_a_node thing || (is_arity thing || (is_mismatch thing
    || (is_out_of_range thing || (is_undefined thing || (is_defined_twice thing || (defines_input thing || (b || (is_no_main thing || false))))))))))))) h

pub any_fails : (r : Recursions) (os : List Occurrence) → Every (λ thing. is_recursive r thing ≡ false) os → list_any (λ (o : Occurrence). fails_in_constant o.thing) os ≡ is_some (fault_in r os)
any_fails r [] h = refl
any_fails r (o ∷ os) h =
    ap (λ b. b || list_any (λ (p : Occurrence). fails_in_constant p.thing) os) (sym (fails_with r o.thing h.0))
    ∙ elim (kind_of r o.thing) as (λ k. is_some k || list_any (λ (p : Occurrence). fails_in_constant p.thing) os ≡ is_some (or_else (fault_at o.at k) (fault_in r os))) [
      | None ↦ any_fails r os h.1
      | Some kind ↦ refl
    ]
