-- The log, step by step, and the proof that it becomes with the empty clause at its end.
use Rattle.std.proofs.Common.{◌≡◌, ℕ, ◌+◌, ℤ, true, false, List, [], ◌∷◌, ◌++◌, map, length, Some, None, Ok, refl, sym, ap, ◌∙◌, subst, arith, append_assoc, append-nil}
use Rattle.std.specs.Prelude.{nat_le}
use Rattle.std.proofs.lemmas.Bool.{lt-leb, false≢true}
use Rattle.std.proofs.lemmas.List.{length_push}
use Rattle.cnf_form.specs.declared.lit.Lit.{Lit}
use Rattle.cnf_form.specs.Marks.{marks_of}
use Rattle.proof_check.specs.declared.step.ProofStep.{ProofStep}
use Rattle.proof_check.specs.declared.step.ProofStep.TheVariants.{Put, Delete}
use Rattle.proof_check.specs.Check.{Clauses, State, with_id, numbered, hints_fault, turn, start, refusal, is_end, Accepted}
use Rattle.proof_check.specs.Spent.{IsResolvent, IsNew, IsLog}
use Rattle.proof_check.proofs.Tables.{numbered_push}
use Rattle.sat_core.specs.Logs.{HasLearnt, LogsTo, state_of, IsLogOf, EndsLog}
use Rattle.sat_core.specs.Trail.{put_clause, clauses_of}
use Rattle.sat_core.proofs.ClauseFacts.{length-clauses}
use Rattle.sat_core.proofs.Turning.{clauses-push}

abbrev state : Clauses → ℕ → State
state present last = record { present = present; last = last }

state_is : (p q : Clauses) (m n : ℕ) → p ≡ q → m ≡ n → state p m ≡ state q n
state_is p q m n e h = λ i. record { present = e i; last = h i }

-- ---- one step more

Logs-push : (vars : ℕ) (s u next : State) (e : List (List Lit)) (log : List ProofStep) (id : ℕ) (c : List Lit) (hints : List ℤ) → LogsTo vars s e log u → IsResolvent vars u.present c hints → IsNew (e ++ map put_clause log) c
    → turn u (Put id c hints) ≡ Ok next → LogsTo vars s e (log ++ Put id c hints ∷ []) next
Logs-push vars s u next e [] id c hints l r n q =
    (subst (λ (v : State). IsResolvent vars v.present c hints) (sym l) r, subst (λ es. IsNew es c) (append-nil e) n, (next, ap (λ v. turn v (Put id c hints)) l ∙ q, refl))
Logs-push vars s u next e (Put id' c' hints' ∷ rs) id c hints l r n q =
    (l.0, l.1, (l.2.0, l.2.1, Logs-push vars l.2.0 u next (e ++ c' ∷ []) rs id c hints l.2.2 r (subst (λ es. IsNew es c) (sym (append_assoc e (c' ∷ []) (map put_clause rs))) n) q))
Logs-push vars s u next e (Delete ids ∷ rs) id c hints l r n q = absurd l

-- an addition behind the log whose hints are accepted
put_turn : (f : List (List Lit)) (log : List ProofStep) (c : List Lit) (hints : List ℤ) → hints_fault (numbered (clauses_of f log)) (marks_of c) hints ≡ None
    → turn (state_of f log) (Put (length f + length log + 1) c hints) ≡ Ok (state_of f (log ++ Put (length f + length log + 1) c hints ∷ []))
put_turn f log c hints none =
    let id = length f + length log + 1 in
    let late : nat_le id (length f + length log) ≡ false = lt-leb id (length f + length log) (omega arith) in
    let n = length-clauses f log in
    let present : with_id id (Some c) (numbered (clauses_of f log)) ≡ numbered (clauses_of f (log ++ Put id c hints ∷ [])) =
    ap (λ k. with_id (k + 1) (Some c) (numbered (clauses_of f log))) (sym n)
    ∙ (sym (numbered_push (clauses_of f log) c) ∙ ap numbered (sym (clauses-push f log (Put id c hints)))) in
    let last : id ≡ length f + length (log ++ Put id c hints ∷ []) = (let m = length_push log (Put id c hints) in omega arith) in
    rw (late, none) (ap Ok (state_is (with_id id (Some c) (numbered (clauses_of f log))) (numbered (clauses_of f (log ++ Put id c hints ∷ []))) id (length f + length (log ++ Put id c hints ∷ [])) present last))

pub Logged-start : (vars : ℕ) (f : List (List Lit)) → IsLogOf vars f []
Logged-start vars f = state_is (numbered f) (numbered (f ++ [])) (length f) (length f + 0) (ap numbered (sym (append-nil f))) (omega arith)

pub Logged-more : (vars : ℕ) (f : List (List Lit)) (old new : List ProofStep) → IsLogOf vars f old → HasLearnt vars f old new → IsLogOf vars f new
Logged-more vars f old new l h =
    subst (IsLogOf vars f) (sym h.step)
    (Logs-push vars (start f) (state_of f old) (state_of f (old ++ Put (length f + length old + 1) h.clause h.hints ∷ [])) f old (length f + length old + 1) h.clause h.hints l h.resolvent h.fresh
    (put_turn f old h.clause h.hints h.accepted))

-- ---- what the log is to others

pub IsLog-of : (vars : ℕ) (s u : State) (e : List (List Lit)) (log : List ProofStep) → LogsTo vars s e log u → IsLog vars s e log
IsLog-of vars s u e [] l = tt
IsLog-of vars s u e (Put id c hints ∷ later) l = (l.0, l.1, (l.2.0, l.2.1, IsLog-of vars l.2.0 u (e ++ c ∷ []) later l.2.2))
IsLog-of vars s u e (Delete ids ∷ later) l = l

not_end : (e : List (List Lit)) (id : ℕ) (c : List Lit) (hints : List ℤ) → IsNew e c → is_end (Put id c hints) ≡ false
not_end e id [] hints n = absurd (false≢true n.member)
not_end e id (l ∷ ls) hints n = refl

refusal-on : (n : ℕ) (s next : State) (step : ProofStep) (later : List ProofStep) → turn s step ≡ Ok next → is_end step ≡ false → refusal n s (step ∷ later) ≡ refusal (n + 1) next later
refusal-on n s next step later e f = rw (e, f, refusal) refl

refusal-logs : (vars n : ℕ) (s u : State) (e : List (List Lit)) (log rest : List ProofStep) → LogsTo vars s e log u → refusal n s (log ++ rest) ≡ refusal (n + length log) u rest
refusal-logs vars n s u e [] rest l = ap (λ (v : State). refusal n v rest) l ∙ ap (λ m. refusal m u rest) (let q : n ≡ n + 0 = omega arith in q)
refusal-logs vars n s u e (Put id c hints ∷ ps) rest l =
    refusal-on n s l.2.0 (Put id c hints) (ps ++ rest) l.2.1 (not_end e id c hints l.1)
    ∙ (refusal-logs vars (n + 1) l.2.0 u (e ++ c ∷ []) ps rest l.2.2
    ∙ ap (λ m. refusal m u rest) (let q : n + 1 + length ps ≡ n + length (Put id c hints ∷ ps) = omega arith in q))
refusal-logs vars n s u e (Delete ids ∷ ps) rest l = absurd l

refusal-end : (n : ℕ) (u next : State) (step : ProofStep) → turn u step ≡ Ok next → is_end step ≡ true → refusal n u (step ∷ []) ≡ None
refusal-end n u next step e f = rw (e, f, refusal) refl

pub ends_empty : (f : List (List Lit)) (log : List ProofStep) (step : ProofStep) → EndsLog f log step → is_end step ≡ true
ends_empty f log (Put id c hints) e = rw e.1 refl
ends_empty f log (Delete ids) e = absurd e

ends_turn : (f : List (List Lit)) (log : List ProofStep) (step : ProofStep) → EndsLog f log step → turn (state_of f log) step ≡ Ok (state_of f (log ++ step ∷ []))
ends_turn f log (Put id c hints) e =
    rw e.0 (put_turn f log c hints (subst (λ ls. hints_fault (numbered (clauses_of f log)) (marks_of ls) hints ≡ None) (sym e.1) e.2))
ends_turn f log (Delete ids) e = absurd e

-- the log, with the empty clause at its end, is an accepted proof
pub accepted : (vars : ℕ) (f : List (List Lit)) (log : List ProofStep) (step : ProofStep) → IsLogOf vars f log → EndsLog f log step → Accepted f (log ++ step ∷ [])
accepted vars f log step l e =
    refusal-logs vars 1 (start f) (state_of f log) f log (step ∷ []) l
    ∙ refusal-end (1 + length log) (state_of f log) (state_of f (log ++ step ∷ [])) step (ends_turn f log step e) (ends_empty f log step e)
