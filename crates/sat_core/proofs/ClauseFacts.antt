-- The clauses of the formula and of the log, in one list.
use Rattle.std.proofs.Common.{◌≡◌, ℕ, ◌+◌, ◌-◌, ◌<◌, ◌≤◌, List, [], map, get_or, length, refl, sym, ap, ◌∙◌, arith}
use Rattle.std.proofs.lemmas.List.{length-append, length-map, get_or_append_left, get_or-append_right, get_or-map, get_or_default}
use Rattle.cnf_form.specs.declared.lit.Lit.{Lit}
use Rattle.proof_check.specs.declared.step.ProofStep.{ProofStep}
use Rattle.sat_core.specs.Trail.{put_clause}
use Rattle.sat_core.specs.Trail.{clause, clauses_of}

pub clause-first : (f : List (List Lit)) (log : List ProofStep) (k : ℕ) (c : List Lit) → k < length f → c ≡ get_or f k c → c ≡ clause (clauses_of f log) k
clause-first f log k c lt e = e ∙ (get_or_default f k c [] lt ∙ sym (get_or_append_left f (map put_clause log) [] k lt))

pub clause-then : (f : List (List Lit)) (log : List ProofStep) (k : ℕ) (s : ProofStep) → length f ≤ k → k < length f + length log → s ≡ get_or log (k - length f) s → put_clause s ≡ clause (clauses_of f log) k
clause-then f log k s le lt e = ap put_clause e ∙ (sym (get_or-map put_clause log (k - length f) s [] (omega arith)) ∙ sym (get_or-append_right f (map put_clause log) (length f) k [] refl le))

pub ruleset clauses = (clause-first, clause-then)

pub length-clauses : (f : List (List Lit)) (log : List ProofStep) → length (clauses_of f log) ≡ length f + length log
length-clauses f log = simp (length-append, length-map)
