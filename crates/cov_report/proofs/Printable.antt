-- Printable names are text.
use Rattle.std.proofs.Common.{◌≤◌, ◌<◌, ℕ, List, ⊎_elim, length, arith}
use Rattle.std.specs.Prelude.{slice_index}
use Rattle.std.specs.Str.{IsUtf8}
use Rattle.std.proofs.lemmas.Bool.{cases_lt}
use Rattle.std.proofs.lemmas.List.{get_or_past}
use Rattle.std.proofs.lemmas.Str.{IsUtf8-from_ascii}
use Rattle.cov_report.specs.Json.{IsPrintable}

ascii : (name : List ℕ) → IsPrintable name → (i : ℕ) → slice_index name i < 128
ascii name printable i = ⊎_elim
    (λ (within : i < length name). let byte = printable i 0 within in omega (arith, byte.1))
    (λ (past : length name ≤ i). let none = get_or_past name i 0 past in omega (arith, none))
    (cases_lt i (length name))

pub printable_is_utf8 : (name : List ℕ) → IsPrintable name → IsUtf8 name
printable_is_utf8 name printable = IsUtf8-from_ascii name (ascii name printable)
