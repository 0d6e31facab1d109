-- What the lexer says of the piece that begins a text.
use Rattle.std.specs.Prelude.{ℕ, List, Result, Ok, Err}
use Rattle.lus_syntax.specs.declared.tokens.lexer.LexFault.{LexFault}
use Rattle.lus_syntax.specs.declared.tokens.lexer.LexFault.TheVariants as fault
use Rattle.lus_syntax.specs.declared.tokens.pieces.Cause.{Cause}
use Rattle.lus_syntax.specs.declared.tokens.pieces.Cause.TheVariants.{BadByte, OpenComment, WideLiteral}
use Rattle.lus_syntax.specs.declared.tokens.pieces.Piece.{Piece}
use Rattle.lus_syntax.specs.declared.tokens.pieces.Piece.TheVariants.{Gap, Token}
use Rattle.lus_syntax.specs.Cuts.{Skips, IsDense, IsLongest, IsNarrow, IsBadByte, IsOpenComment, IsWideLiteral}

-- why no piece begins here
abbrev pub Stuck : List ℕ → Cause → Type 0
Stuck rest BadByte = IsBadByte rest
Stuck rest OpenComment = IsOpenComment rest
Stuck rest WideLiteral = IsWideLiteral rest

abbrev pub Begins : List ℕ → Result Piece Cause → Type 0
Begins rest (Ok (Gap n)) = Skips rest n
Begins rest (Ok (Token n kind)) = IsDense rest × IsLongest rest n kind × IsNarrow kind
Begins rest (Err cause) = Stuck rest cause

abbrev pub fault_at : Cause → ℕ → LexFault
fault_at BadByte at = fault.BadByte at
fault_at OpenComment at = fault.OpenComment at
fault_at WideLiteral at = fault.WideLiteral at
