use Rattle.std.proofs.Common.{◌≡◌, ℕ, ◌+◌, ◌≤◌, true, List, [], ◌∷◌, ◌++◌, length, drop, arith, length-drop, subst}
use Rattle.std.specs.Prelude.{Ok}
use Rattle.lus_syntax.specs.declared.tokens.pieces.Piece.{Piece}
use Rattle.lus_syntax.specs.declared.tokens.pieces.Piece.TheVariants as piece
use Rattle.lus_syntax.specs.declared.token.TokenKind.{TokenKind}
use Rattle.lus_syntax.specs.declared.token.Token.{Token}
use Rattle.lus_syntax.specs.Pieces.{Begins}
use Rattle.lus_syntax.specs.Cuts.{IsNarrow, IsLongest, Skips, blank, line, block, IsDense, Cuts, nothing, skip, token, begins, is_blank_first}

begins_two : (a b : ℕ) (rest : List ℕ) → begins a b rest ≡ true → 2 ≤ length rest
begins_two a b [] e = absurd (cc)
begins_two a b (x ∷ []) e = absurd (cc)
begins_two a b (x ∷ y ∷ rest) e = omega arith

blank_one : (rest : List ℕ) → is_blank_first rest ≡ true → 1 ≤ length rest
blank_one [] e = absurd (cc)
blank_one (b ∷ bs) e = omega arith

pub skip_within : {rest : List ℕ} {n : ℕ} → Skips rest n → n ≤ length rest
skip_within {rest} (blank e) = blank_one rest e
skip_within {rest} (line n e l) = let two : 2 ≤ length rest = begins_two 45 45 rest e in omega (arith, length-drop 2 rest, l.within)
skip_within {rest} (block n e l) =
    let two : 2 ≤ length rest = begins_two 40 42 rest e in
    let more : 2 ≤ length (drop n (drop 2 rest)) = begins_two 42 41 (drop n (drop 2 rest)) l.closes in
    omega (arith, length-drop 2 rest, length-drop n (drop 2 rest))

pub fits_behind : (text : List ℕ) (at n : ℕ) → at ≤ length text → n ≤ length (drop at text) → at + n ≤ length text
fits_behind text at n le fits = omega (arith, length-drop at text)

pub cuts_skip : {text : List ℕ} {at to : ℕ} {ts : List Token} → Cuts text at ts to → (n : ℕ) → Skips (drop to text) n → Cuts text at ts (to + n)
cuts_skip nothing n s = skip n s nothing
cuts_skip (skip m t c) n s = skip m t (cuts_skip c n s)
cuts_skip (token m kind d l w c) n s = token m kind d l w (cuts_skip c n s)

pub cuts_token : {text : List ℕ} {at to : ℕ} {ts : List Token} → Cuts text at ts to → (n : ℕ) (kind : TokenKind) → IsDense (drop to text) → IsLongest (drop to text) n kind → IsNarrow kind → Cuts text at (ts ++ record { kind = kind; start = to; «end» = to + n } ∷ []) (to + n)
cuts_token nothing n kind dense longest w = token n kind dense longest w nothing
cuts_token (skip m t c) n kind dense longest w = skip m t (cuts_token c n kind dense longest w)
cuts_token (token m k d l v c) n kind dense longest w = token m k d l v (cuts_token c n kind dense longest w)

pub gap_of : (rest r : List ℕ) (p : Piece) (n : ℕ) → Begins rest (Ok p) → p ≡ piece.Gap n → rest ≡ r → Skips r n
gap_of rest r p n b e e' = subst (λ r. Skips r n) e' (subst (λ p. Begins rest (Ok p)) e b)

pub token_of : (rest r : List ℕ) (p : Piece) (n : ℕ) (kind : TokenKind) → Begins rest (Ok p) → p ≡ piece.Token n kind → rest ≡ r → IsDense r × IsLongest r n kind × IsNarrow kind
token_of rest r p n kind b e e' = subst (λ r. IsDense r × IsLongest r n kind × IsNarrow kind) e' (subst (λ p. Begins rest (Ok p)) e b)

-- each token has a byte or more
pub token_count : {text : List ℕ} {at to : ℕ} {ts : List Token} → Cuts text at ts to → at + length ts ≤ to
token_count nothing = omega arith
token_count (skip n s c) = let h = token_count c in omega arith
token_count (token n kind d l w c) = let h = token_count c in let some = l.some in omega arith
