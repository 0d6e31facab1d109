-- What is known at the deepest that is allowed, in the shut words.
use Rattle.std.proofs.Common.{◌≡◌, ℕ, ◌≤◌, ◌<◌, length, ap, sym, ◌∙◌, subst}
use Rattle.op_network.specs.declared.edge.Parts.{Parts}
use Rattle.op_network.specs.declared.limits.TheConstants.{MOST_EDGES}
use Rattle.lus_types.specs.declared.typed.Typed.{Typed}
use Rattle.node_expand.specs.declared.limits.TheConstants.{MOST_DEPTH}
use Rattle.node_expand.specs.Expanding.{IsNetwork, IsTooDeep, IsTooLarge}
use Rattle.node_expand.specs.Law.{IsShallow, main_name, program_in}
use Rattle.node_expand.specs.Nesting.{IsNested, IsWithinDepth}
use Rattle.node_expand.specs.Network.{network, network_within}

pub shut_network : (typed : Typed) (depth : ℕ) (parts : Parts) → depth ≡ MOST_DEPTH → IsNetwork typed depth parts → parts ≡ network (program_in typed) (main_name typed)
unfolding network
shut_network typed depth parts is h = h.same ∙ ap (λ d. network_within d (program_in typed) (main_name typed)) is

pub shut_nested : (typed : Typed) (depth : ℕ) → depth ≡ MOST_DEPTH → IsNested (program_in typed) depth (main_name typed) → IsShallow typed
unfolding IsWithinDepth
shut_nested typed depth is h = subst (λ d. IsNested (program_in typed) d (main_name typed)) is h

pub shut_few : (typed : Typed) (depth : ℕ) → depth ≡ MOST_DEPTH → length (network_within depth (program_in typed) (main_name typed)).edges ≤ MOST_EDGES
    → length (network (program_in typed) (main_name typed)).edges ≤ MOST_EDGES
unfolding network
shut_few typed depth is h = subst (λ d. length (network_within d (program_in typed) (main_name typed)).edges ≤ MOST_EDGES) is h

pub shut_deep : (typed : Typed) (depth : ℕ) → depth ≡ MOST_DEPTH → IsTooDeep typed depth → IsShallow typed → ⊥
unfolding IsWithinDepth
shut_deep typed depth is h shallow = h.deep (subst (λ d. IsNested (program_in typed) d (main_name typed)) (sym is) shallow)

pub shut_large : (typed : Typed) (depth : ℕ) → depth ≡ MOST_DEPTH → IsTooLarge typed depth → MOST_EDGES < length (network (program_in typed) (main_name typed)).edges
unfolding network
shut_large typed depth is h = subst (λ d. MOST_EDGES < length (network_within d (program_in typed) (main_name typed)).edges) is h.many
