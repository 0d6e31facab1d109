-- What is written piece by piece.
use Rattle.std.proofs.Common.{◌≡◌, ◌+◌, ◌<◌, ◌∙◌, ℕ, ℤ, List, [], ◌∷◌, ◌++◌, codes, length, drop, map, refl, sym, ap}
use Rattle.std.specs.Prelude.{decimal}
use Rattle.std.specs.Fmt.{signed_decimal}
use Rattle.std.proofs.Common.{slice_index_or}
use Rattle.std.proofs.lemmas.List.{append_assoc}
use Rattle.cnf_form.specs.declared.lit.Lit.{Lit}
use Rattle.cnf_form.specs.Lines.{Text, unwords}
use Rattle.cnf_form.specs.Written.{lit_text}
use Rattle.cnf_form.proofs.Places.{at_index}
use Rattle.cnf_form.proofs.TextBack.{word_on}
use Rattle.proof_check.specs.declared.step.ProofStep.{ProofStep}
use Rattle.proof_check.specs.declared.step.ProofStep.TheVariants.{Put, Delete}
use Rattle.proof_check.specs.Written.{spaced, step_line, proof_text}

more : {A : Type 0} (text : A → Text) (all old : Text) (xs : List A) (i : ℕ) (d : A) → i < length xs → all ≡ old ++ spaced (map text (drop i xs))
    → all ≡ ((old ++ text (slice_index_or xs i d)) ++ codes " ") ++ spaced (map text (drop (i + 1) xs))
more text all old xs i d h e =
    let w = text (slice_index_or xs i d) in
    let r = spaced (map text (drop (i + 1) xs)) in
    e ∙ rw (at_index xs i d h, append_assoc (old ++ w) (codes " ") r, append_assoc old w (codes " " ++ r)) refl

pub lit_more : (all old : Text) (xs : List Lit) (i : ℕ) (d : Lit) → i < length xs → all ≡ old ++ spaced (map lit_text (drop i xs))
    → all ≡ ((old ++ lit_text (slice_index_or xs i d)) ++ codes " ") ++ spaced (map lit_text (drop (i + 1) xs))
lit_more = more lit_text

pub hint_more : (all old : Text) (xs : List ℤ) (i : ℕ) (d : ℤ) → i < length xs → all ≡ old ++ spaced (map signed_decimal (drop i xs))
    → all ≡ ((old ++ signed_decimal (slice_index_or xs i d)) ++ codes " ") ++ spaced (map signed_decimal (drop (i + 1) xs))
hint_more = more signed_decimal

pub id_more : (all old : Text) (xs : List ℕ) (i : ℕ) (d : ℕ) → i < length xs → all ≡ old ++ spaced (map decimal (drop i xs))
    → all ≡ ((old ++ decimal (slice_index_or xs i d)) ++ codes " ") ++ spaced (map decimal (drop (i + 1) xs))
id_more = more decimal

spaced_on : (ws : List Text) (v : Text) (vs : List Text) → unwords (ws ++ v ∷ vs) ≡ spaced ws ++ unwords (v ∷ vs)
spaced_on [] v vs = refl
spaced_on (w ∷ ws) v vs = word_on w ws v vs ∙ (ap (λ t. w ++ 32 ∷ t) (spaced_on ws v vs) ∙ sym (append_assoc w (32 ∷ spaced ws) (unwords (v ∷ vs))))

zero_on : (ws : List Text) → unwords (codes "0" ∷ (ws ++ codes "0" ∷ [])) ≡ codes "0 " ++ (spaced ws ++ codes "0")
zero_on ws = word_on (codes "0") ws (codes "0") [] ∙ ap (λ t. codes "0 " ++ t) (spaced_on ws (codes "0") [])

addition_words : (id : Text) (ls hs : List Text) → unwords (id ∷ (ls ++ codes "0" ∷ (hs ++ codes "0" ∷ []))) ≡ id ++ 32 ∷ (spaced ls ++ (codes "0 " ++ (spaced hs ++ codes "0")))
addition_words id ls hs =
    word_on id ls (codes "0") (hs ++ codes "0" ∷ []) ∙ ap (λ t. id ++ 32 ∷ t) (spaced_on ls (codes "0") (hs ++ codes "0" ∷ []) ∙ ap (λ t. spaced ls ++ t) (zero_on hs))

pieces : (old id ls hs : Text) → (((((old ++ id) ++ codes " ") ++ ls) ++ codes "0 ") ++ hs) ++ codes "0\n" ≡ old ++ ((id ++ 32 ∷ (ls ++ (codes "0 " ++ (hs ++ codes "0")))) ++ codes "\n")
pieces old id ls hs =
    rw (
      append_assoc ((((old ++ id) ++ codes " ") ++ ls) ++ codes "0 ") hs (codes "0\n"),
      append_assoc (((old ++ id) ++ codes " ") ++ ls) (codes "0 ") (hs ++ codes "0\n"),
      append_assoc ((old ++ id) ++ codes " ") ls (codes "0 " ++ (hs ++ codes "0\n")),
      append_assoc (old ++ id) (codes " ") (ls ++ (codes "0 " ++ (hs ++ codes "0\n"))),
      append_assoc old id (codes " " ++ (ls ++ (codes "0 " ++ (hs ++ codes "0\n")))),
      append_assoc id (32 ∷ (ls ++ (codes "0 " ++ (hs ++ codes "0")))) (codes "\n"),
      append_assoc ls (codes "0 " ++ (hs ++ codes "0")) (codes "\n"),
      append_assoc hs (codes "0") (codes "\n"),
    ) refl

pub addition_pieces : (old : Text) (id : ℕ) (lits : List Lit) (hints : List ℤ)
    → (((((old ++ decimal id) ++ codes " ") ++ spaced (map lit_text lits)) ++ codes "0 ") ++ spaced (map signed_decimal hints)) ++ codes "0\n" ≡ old ++ (step_line (Put id lits hints) ++ codes "\n")
addition_pieces old id lits hints =
    pieces old (decimal id) (spaced (map lit_text lits)) (spaced (map signed_decimal hints))
    ∙ ap (λ t. old ++ (t ++ codes "\n")) (sym (addition_words (decimal id) (map lit_text lits) (map signed_decimal hints)))

pub deletion_pieces : (old : Text) (ids : List ℕ) → ((old ++ codes "1 d ") ++ spaced (map decimal ids)) ++ codes "0\n" ≡ old ++ (step_line (Delete ids) ++ codes "\n")
deletion_pieces old ids =
    let s = spaced (map decimal ids) in
    rw (
      word_on (codes "d") (map decimal ids) (codes "0") [],
      spaced_on (map decimal ids) (codes "0") [],
      append_assoc (old ++ codes "1 d ") s (codes "0\n"),
      append_assoc old (codes "1 d ") (s ++ codes "0\n"),
      append_assoc s (codes "0") (codes "\n"),
    ) refl

pub step_more : (all old : Text) (steps : List ProofStep) (i : ℕ) (d : ProofStep) → i < length steps → all ≡ old ++ proof_text (drop i steps)
    → all ≡ (old ++ (step_line (slice_index_or steps i d) ++ codes "\n")) ++ proof_text (drop (i + 1) steps)
step_more all old steps i d h e =
    let line = step_line (slice_index_or steps i d) in
    let later = proof_text (drop (i + 1) steps) in
    e ∙ rw (at_index steps i d h, append_assoc old (line ++ codes "\n") later, append_assoc line (codes "\n") later) refl
